use Rattle.std.proofs.Common.{◌≡◌, ◌<◌, ◌/◌, ◌∙◌, ℕ, List, true, false, arith, length, get_or, sym, ap, subst}
use Rattle.std.proofs.lemmas.List.{length_push, length-replicate}
use Rattle.partition.proofs.Votes.{zeros}
use Rattle.mesh_decl.specs.Mesh.{set_size, map_from, map_to, map_dim}
use Rattle.partition.specs.Block.{InBlock}
use Rattle.partition.specs.Elected.{IsElected, naming_votes, is_named, names, entries, gathered}
use Rattle.partition.proofs.Shares.{each_more}
use Rattle.partition.proofs.Gathered.{gathered_below, naming_elected, unnamed_empty}
use Rattle.std.proofs.Math.Nat.{div-lt_iff_lt-mul}
use Rattle.partition.proofs.derived.elect_by_names.Goals as goal

pub most_frequent_or_block-requires-clause-below : goal.most_frequent_or_block-requires-clause-below
most_frequent_or_block-requires-clause-below c =
    let g = c.args.mesh.now in
    let m : ℕ = c.args.map in
    let lx : c.loop-element.element < set_size g (map_to g m) =
    omega (
      arith,
      c.set_size-size.ensures ∙ ap (λ (z : ℕ × ℕ × ℕ). set_size g z.1) c.map_ends-to.ensures,
      c.loop-element-test.true,
      c.loop-element.auto.element-end,
    ) in
    let e : c.row-list.result.now ≡ gathered (entries g m) (names g m c.loop-element.element) (λ i. get_or c.args.owners.now (i / map_dim g m) 0) =
    c.row-list.ensures ∙ c.in_ok-lists.ensures.lists c.loop-element.element lx in
    let f : ℕ → ℕ = λ e. get_or c.args.owners.now (e / map_dim g m) 0 in
    subst (λ (z : List ℕ). (k : ℕ) → k < length z → get_or z k 0 < c.args.ranks) (sym e)
    (gathered_below (entries g m) (names g m c.loop-element.element) f c.args.ranks
    (λ i li. c.requires.below (i / map_dim g m)
    (rw c.requires.owners ((div-lt_iff_lt-mul {k = map_dim g m} {x = i} {y = set_size g (map_from g m)} c.requires.at.some).1 li))))

pub loop-element-preserved : goal.loop-element-preserved
loop-element-preserved c =
    let g = c.args.mesh.now in
    let m : ℕ = c.args.map in
    let x : ℕ = c.loop-element.element in
    let xs = c.loop-element.elected.items in
    let y : ℕ = c.most_frequent_or_block.result in
    let size : ℕ = c.set_size-size.result in
    let lx : c.loop-element.element < set_size g (map_to g m) =
    omega (
      arith,
      c.set_size-size.ensures ∙ ap (λ (z : ℕ × ℕ × ℕ). set_size g z.1) c.map_ends-to.ensures,
      c.loop-element-test.true,
      c.loop-element.auto.element-end,
    ) in
    let e : c.row-list.result.now ≡ gathered (entries g m) (names g m c.loop-element.element) (λ i. get_or c.args.owners.now (i / map_dim g m) 0) =
    c.row-list.ensures ∙ c.in_ok-lists.ensures.lists c.loop-element.element lx in
    let inv = c.loop-element.invariant in
    let ens = c.most_frequent_or_block.ensures in
    rw c.in_ok-push.ensures.items (
      ens.length ∙ inv.0,
      ens.none,
      omega (arith, length_push xs y, inv.2),
      each_more xs y x (λ z i. is_named g m z ≡ true → IsElected c.args.ranks (naming_votes g c.args.owners.now m z) i) inv.2 inv.3
          (naming_elected g c.args.owners.now m x c.args.ranks y c.row-list.result.now e ens.elected),
      each_more xs y x (λ z i. is_named g m z ≡ false → InBlock size c.args.ranks i z) inv.2 inv.4 (λ t. ens.block (unnamed_empty g c.args.owners.now m x c.row-list.result.now e t)),
      each_more xs y x (λ z i. i < c.args.ranks) inv.2 inv.5 ens.within,
    )

pub loop-element-init : goal.loop-element-init
loop-element-init c = (
  length-replicate {A = ℕ} 64 0,
  zeros 64,
  ap (length {A = ℕ}) c.in_ok-elected.ensures.items,
  λ x l. absurd (omega (arith, l)),
  λ x l. absurd (omega (arith, l)),
  λ x l. absurd (omega (arith, l)),
)
