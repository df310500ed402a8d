use Rattle.std.proofs.Common.{◌≡◌, ◌<◌, ℕ, List, [], arith, length, get_or, ◌∙◌}
use Rattle.std.proofs.lemmas.List.{length_push}
use Rattle.mesh_decl.specs.Mesh.{set_count, set_size}
use Rattle.mesh_decl.specs.Owners.{perm_in}
use Rattle.lemmas.proofs.Growing.{list_more, moved}
use Rattle.renumber.proofs.Kept.{kept_numbers}
use Rattle.renumber.proofs.identity.Goals as goal

pub loop-set-preserved : goal.loop-set-preserved
loop-set-preserved c =
    let g = c.args.mesh.now in
    let xs = c.loop-set.sets.items in
    let y : List ℕ = c.new.result in
    let n : ℕ = c.loop-set.set in
    let inv = c.loop-set.invariant in
    let v : List ℕ = c.in_ok-counting.field-0.items in
    let size : ℕ = c.set_size.result in
    let e : y ≡ v = c.new.ensures in
    let q : size ≡ set_size g n = c.set_size.ensures in
    rw c.in_ok-push.ensures.items (
      omega (arith, length_push xs y, inv.0),
      list_more xs y n (λ s z. length z ≡ set_size g s) inv.0 inv.1 (moved (λ k z. length z ≡ k) size (set_size g n) v y e q c.in_ok-counting.ensures.length),
      list_more xs y n (λ s z. (x : ℕ) → x < set_size g s → get_or z x 0 ≡ x) inv.0 inv.2 (moved (λ k z. (x : ℕ) → x < k → get_or z x 0 ≡ x) size (set_size g n) v y e q c.in_ok-counting.ensures.kept),
    )

pub returns : goal.returns
unfolding perm_in
returns c =
    let g = c.args.mesh.now in
    let inv = c.loop-set.invariant in
    let n : c.loop-set.set ≡ set_count g = omega (arith, c.set_count-set-end.ensures.count, c.loop-set-test.false, c.loop-set.auto.set-end) in
    record {
      perms = record {
        sets = inv.0 ∙ n;
        numbers = λ s l. kept_numbers (set_size g s) (get_or c.loop-set.sets.items s []) (inv.1 s (rw n l)) (inv.2 s (rw n l));
      };
      kept = λ s x l lx. inv.2 s (rw n l) x lx;
    }
