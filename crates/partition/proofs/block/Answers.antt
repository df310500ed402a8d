use Rattle.std.proofs.Common.{◌≡◌, ◌<◌, ℕ, List, [], arith, refl, length, get_or, ◌∙◌}
use Rattle.std.proofs.lemmas.List.{length_push}
use Rattle.mesh_decl.specs.Mesh.{set_count, set_size}
use Rattle.mesh_decl.specs.Owners.{owners_in, owner_of}
use Rattle.partition.specs.Block.{InBlock}
use Rattle.lemmas.proofs.Growing.{list_more, moved}
use Rattle.partition.proofs.Shares.{share_count}
use Rattle.partition.proofs.block.Goals as goal

pub loop-set-preserved : goal.loop-set-preserved
loop-set-preserved c =
    let g = c.args.mesh.now in
    let xs = c.loop-set.sets.items in
    let y : List ℕ = c.new.result in
    let n : ℕ = c.loop-set.set in
    let inv = c.loop-set.invariant in
    let v : List ℕ = c.in_ok-block_set.field-0.items in
    let ens = c.in_ok-block_set.ensures in
    let size : ℕ = c.set_size.result in
    let e : y ≡ v = c.new.ensures in
    let q : size ≡ set_size g n = c.set_size.ensures in
    rw c.in_ok-push.ensures.items (
      omega (arith, length_push xs y, inv.0),
      list_more xs y n (λ s z. length z ≡ set_size g s) inv.0 inv.1 (moved (λ k z. length z ≡ k) size (set_size g n) v y e q ens.length),
      list_more xs y n (λ s z. (x : ℕ) → x < set_size g s → InBlock (set_size g s) c.args.ranks (get_or z x 0) x) inv.0 inv.2
          (moved (λ k z. (x : ℕ) → x < k → InBlock k c.args.ranks (get_or z x 0) x) size (set_size g n) v y e q ens.block),
      list_more xs y n (λ s z. (x : ℕ) → x < set_size g s → get_or z x 0 < c.args.ranks) inv.0 inv.3
          (moved (λ k z. (x : ℕ) → x < k → get_or z x 0 < c.args.ranks) size (set_size g n) v y e q ens.within),
      list_more xs y n (λ s z. (x : ℕ) → x < set_size g s → (i : ℕ) → InBlock (set_size g s) c.args.ranks i x → i ≡ get_or z x 0) inv.0
          inv.4 (moved (λ k z. (x : ℕ) → x < k → (i : ℕ) → InBlock k c.args.ranks i x → i ≡ get_or z x 0) size (set_size g n) v y e q
          ens.only),
    )

pub returns : goal.returns
unfolding owners_in owner_of
returns c =
    let g = c.args.mesh.now in
    let inv = c.loop-set.invariant in
    let n : c.loop-set.set ≡ set_count g = omega (arith, c.set_count-set-end.ensures.count, c.loop-set-test.false, c.loop-set.auto.set-end) in
    record {
      count = refl;
      owners = record {
        some_rank = c.requires.some;
        few_ranks = c.requires.few;
        sets = inv.0 ∙ n;
        lengths = λ s l. inv.1 s (rw n l);
        below = λ s x l lx. inv.3 s (rw n l) x lx;
      };
      block = λ s x l lx. inv.2 s (rw n l) x lx;
      only = λ s x i l lx b. inv.4 s (rw n l) x lx i b;
      shares = λ s i l li. share_count (set_size g s) c.args.ranks i (λ x. get_or (get_or c.loop-set.sets.items s []) x 0) li (λ x lx. inv.2 s (rw n l) x lx) (λ x k lx b. inv.4 s (rw n l) x lx k b);
    }
