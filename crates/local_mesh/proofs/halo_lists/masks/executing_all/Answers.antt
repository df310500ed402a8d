use Rattle.std.proofs.Common.{◌≡◌, ◌<◌, ◌||◌, nat_eq, ℕ, List, length, ap, subst, sym, ◌∙◌, arith}
use Rattle.std.proofs.lemmas.Bool.{eq-eqb, ne_eqb}
use Rattle.std.proofs.lemmas.List.{with_items_is}
use Rattle.mesh_decl.specs.Mesh.{set_size, map_from}
use Rattle.local_mesh.specs.RankSet.{has_at}
use Rattle.local_mesh.specs.declared.rank_sets.rank_set.RankSet.{RankSet}
use Rattle.local_mesh.specs.Halo.{owns, reaches_by}
use Rattle.local_mesh.proofs.halo_lists.Importing.{owners_count, owners_below, owned_at, executed_or_reached}
use Rattle.local_mesh.proofs.halo_lists.Steps.{own_step_yes, own_step_no}
use Rattle.local_mesh.proofs.halo_lists.masks.executing_all.Goals as goal
use Rattle.local_mesh.proofs.halo_lists.masks.executing_all.Goals.{then-from-set, else-from-set}
use Rattle.lemmas.proofs.Truth.{or_none}

pub owner_sets-requires : goal.owner_sets-requires
owner_sets-requires c = λ x l. omega (
  arith,
  c.requires.owners.few_ranks,
  owners_below c.args.mesh.now c.args.owners.now c.args.set c.of_set.result.now c.requires.owners
      c.requires.set c.of_set.ensures x l,
)

pub loop-map-init : goal.loop-map-init
loop-map-init c =
    let n = owners_count c.args.mesh.now c.args.owners.now c.args.set c.of_set.result.now c.requires.owners c.requires.set c.of_set.ensures in (
      c.in_ok-sets.ensures.length ∙ n,
      λ x r l. c.in_ok-sets.ensures.has x r (rw n l) ∙ (owned_at c.args.owners.now c.args.set c.of_set.result.now c.of_set.ensures x r ∙ or_none (owns c.args.owners.now c.args.set x r)),
    )

pub reach_by-requires-clause-length : goal.reach_by-requires-clause-length
reach_by-requires-clause-length c =
    ap (length {A = RankSet}) c.deref_mut.ensures.value
    ∙ (c.loop-map.invariant.0 ∙ ap (set_size c.args.mesh.now) (sym c.if-from-set.true ∙ ap (λ (z : ℕ × ℕ × ℕ). z.0) c.map_ends-from.ensures))

pub loop-map-preserved : goal.loop-map-preserved
loop-map-preserved c = elim c.if-from-set.branch [
  | then-from-set w ↦
      (let g = c.args.mesh.now in
      let o = c.args.owners.now in
      let s : ℕ = c.args.set in
      let m : ℕ = c.loop-map.map in
      let from : map_from g m ≡ s = sym (ap (λ (z : ℕ × ℕ × ℕ). z.0) c.map_ends-from.ensures) ∙ w.if-from-set.true in
      let n : length w.reach_by.new.sets ≡ c.loop-map.sets.len = omega (arith, w.reach_by.auto.sets, w.deref_mut.ensures.len) in
      let items : c.if-from-set.sets.items ≡ w.reach_by.new.sets = ap (λ z. z.items) w.sets-is ∙ with_items_is c.loop-map.sets w.reach_by.new.sets n in
      rw items (
        omega (arith, w.reach_by.auto.sets, w.deref_mut.ensures.len, c.loop-map.invariant.0, c.loop-map.sets.ok.0),
        λ x r l. own_step_yes (owns o s x r) (has_at c.loop-map.sets.items x r) (has_at w.reach_by.new.sets x r) m (λ k. nat_eq (map_from g k) s) (λ k. reaches_by g o k x r)
            (c.loop-map.invariant.1 x r l)
            (eq-eqb (map_from g m) s from)
            (w.reach_by.ensures x r (subst (λ z. x < set_size g z) (sym from) l) ∙ ap (λ (z : List RankSet). has_at z x r || reaches_by g o m x r) w.deref_mut.ensures.value),
      ))
  | else-from-set w ↦
      (let g = c.args.mesh.now in
      let o = c.args.owners.now in
      let s : ℕ = c.args.set in
      let m : ℕ = c.loop-map.map in
      rw w.sets-is (
        c.loop-map.invariant.0,
        λ x r l. own_step_no (owns o s x r) (has_at c.loop-map.sets.items x r) m (λ k. nat_eq (map_from g k) s) (λ k. reaches_by g o k x r)
            (c.loop-map.invariant.1 x r l)
            (ne_eqb (map_from g m) s (λ q. w.if-from-set.false (ap (λ (z : ℕ × ℕ × ℕ). z.0) c.map_ends-from.ensures ∙ q))),
      ))
]

pub returns-clause-has : goal.returns-clause-has
returns-clause-has c =
    let e : c.loop-map.map ≡ c.map_count-map-end.result = omega (arith, c.loop-map-test.false, c.loop-map.auto.map-end) in
    λ x r l. c.loop-map.invariant.1 x r l ∙ executed_or_reached c.args.mesh.now c.args.owners.now c.args.set x r c.loop-map.map (e ∙ c.map_count-map-end.ensures.count)
