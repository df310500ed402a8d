use Rattle.std.proofs.Common.{◌≡◌, ◌<◌, ◌∙◌, ℕ, List, true, arith, length, get_or, sym, ap, subst}
use Rattle.std.proofs.lemmas.List.{length_push, length-replicate}
use Rattle.partition.proofs.Votes.{zeros}
use Rattle.mesh_decl.specs.Mesh.{set_size, map_from, map_dim, target}
use Rattle.partition.specs.Elected.{IsElected, target_votes, gathered}
use Rattle.partition.proofs.Shares.{each_more}
use Rattle.partition.proofs.Gathered.{gathered_below, target_elected}
use Rattle.partition.proofs.derived.elect_by_targets.Goals as goal

pub most_frequent-requires-clause-below : goal.most_frequent-requires-clause-below
most_frequent-requires-clause-below c =
    let g = c.args.mesh.now in
    let m : ℕ = c.args.map in
    let x : ℕ = c.loop-element.element in
    let f : ℕ → ℕ = λ i. get_or c.args.owners.now (target g m x i) 0 in
    let e : c.deref.result.now ≡ gathered (map_dim g m) (λ i. true) f = c.deref.ensures.value ∙ c.in_ok-list_targets.ensures in
    let size : c.set_size-size.result ≡ set_size g (map_from g m) = c.set_size-size.ensures ∙ ap (λ (z : ℕ × ℕ × ℕ). set_size g z.0) c.map_ends-from.ensures in
    let lx : x < set_size g (map_from g m) = omega (arith, size, c.loop-element-test.true, c.loop-element.auto.element-end) in
    subst (λ (z : List ℕ). (k : ℕ) → k < length z → get_or z k 0 < c.args.ranks) (sym e)
    (gathered_below (map_dim g m) (λ i. true) f c.args.ranks (λ i li. c.requires.below (target g m x i) (rw c.requires.owners (c.requires.at.within x i lx li))))

pub loop-element-preserved : goal.loop-element-preserved
loop-element-preserved c =
    let g = c.args.mesh.now in
    let m : ℕ = c.args.map in
    let x : ℕ = c.loop-element.element in
    let xs = c.loop-element.elected.items in
    let y : ℕ = c.most_frequent.result in
    rw c.in_ok-push.ensures.items (
      c.most_frequent.ensures.length ∙ c.loop-element.invariant.0,
      c.most_frequent.ensures.none,
      omega (arith, length_push xs y, c.loop-element.invariant.2),
      each_more xs y x (λ z i. IsElected c.args.ranks (target_votes g c.args.owners.now m z) i) c.loop-element.invariant.2 c.loop-element.invariant.3
          (target_elected g c.args.owners.now m x c.args.ranks y c.deref.result.now (c.deref.ensures.value ∙ c.in_ok-list_targets.ensures) c.most_frequent.ensures.elected),
    )

pub loop-element-init : goal.loop-element-init
loop-element-init c = (length-replicate {A = ℕ} 64 0, zeros 64, ap (length {A = ℕ}) c.in_ok-elected.ensures.items, λ x l. absurd (omega (arith, l)))
