use Rattle.std.proofs.Common.{◌≡◌, ◌<◌, ◌||◌, nat_eq, arith, ap, sym, ◌∙◌, length, List}
use Rattle.std.proofs.lemmas.Bool.{eq-eqb, ne_eqb}
use Rattle.std.proofs.lemmas.List.{with_items_is, length-replicate}
use Rattle.mesh_decl.specs.Mesh.{set_count, map_from, map_to}
use Rattle.local_mesh.specs.RankSet.{has_at}
use Rattle.local_mesh.specs.declared.rank_sets.rank_set.RankSet.{RankSet}
use Rattle.local_mesh.proofs.rank_sets.Rows.{has_at_replicate}
use Rattle.local_mesh.specs.Halo.{named_by}
use Rattle.local_mesh.specs.Sets.{has_in, sets_in}
use Rattle.local_mesh.proofs.halo_lists.Steps.{map_step_yes, map_step_no}
use Rattle.local_mesh.proofs.halo_lists.SetsReading.{sets_read}
use Rattle.local_mesh.proofs.halo_lists.named.naming_all.Goals as goal
use Rattle.local_mesh.proofs.halo_lists.named.naming_all.Goals.{then-to-set, else-to-set}

pub loop-map-init : goal.loop-map-init
loop-map-init c =
    let e = c.in_ok-sets.ensures.items_if_clones_equal (λ y h. h) in
    rw e (length-replicate c.set_size.result c.empty.result ∙ c.set_size.ensures, has_at_replicate c.set_size.result c.empty.result c.empty.ensures)

pub name_by-requires-clause-ranks : goal.name_by-requires-clause-ranks
name_by-requires-clause-ranks c =
    let from : map_from c.args.mesh.now c.loop-map.map < set_count c.args.mesh.now = (c.requires.mesh.maps c.loop-map.map (omega arith)).from in
    let at : c.map_ends-from.result.0 ≡ map_from c.args.mesh.now c.loop-map.map = ap (λ z. z.0) c.map_ends-from.ensures in
    let l : c.map_ends-from.result.0 < length c.args.ranks.now = omega (arith, c.requires.ranks.count) in
    ap (length {A = RankSet}) (c.deref.ensures.value ∙
    (sets_read c.args.ranks.now c.map_ends-from.result.0 c.index-ranks-from.result l c.index-ranks-from.is
    ∙ ap (sets_in c.args.ranks.now) (ap (λ z. z.0) c.map_ends-from.ensures)))
    ∙ c.requires.ranks.lengths (map_from c.args.mesh.now c.loop-map.map) from

pub loop-map-preserved : goal.loop-map-preserved
loop-map-preserved c = elim c.if-to-set.branch [
  | then-to-set w ↦
      (let g = c.args.mesh.now in
      let from : map_from g c.loop-map.map < set_count g = (c.requires.mesh.maps c.loop-map.map (omega arith)).from in
      let at : c.map_ends-from.result.0 ≡ map_from c.args.mesh.now c.loop-map.map = ap (λ z. z.0) c.map_ends-from.ensures in
      let l : c.map_ends-from.result.0 < length c.args.ranks.now = omega (arith, c.requires.ranks.count) in
      let e : w.deref.result.now ≡ sets_in c.args.ranks.now (map_from g c.loop-map.map) = w.deref.ensures.value
      ∙ (sets_read c.args.ranks.now c.map_ends-from.result.0 w.index-ranks-from.result l w.index-ranks-from.is
      ∙ ap (sets_in c.args.ranks.now) (ap (λ z. z.0) c.map_ends-from.ensures)) in
      let n : length w.name_by.new.sets ≡ c.loop-map.sets.len = omega (arith, w.name_by.auto.sets, w.deref_mut.ensures.len) in
      let items : c.if-to-set.sets.items ≡ w.name_by.new.sets = ap (λ z. z.items) w.sets-is ∙ with_items_is c.loop-map.sets w.name_by.new.sets n in
      rw items (
        omega (arith, w.name_by.auto.sets, w.deref_mut.ensures.len, c.loop-map.invariant.0, c.loop-map.sets.ok.0),
        λ y r. map_step_yes (has_at c.loop-map.sets.items y r) (has_at w.name_by.new.sets y r) c.loop-map.map
            (λ m. nat_eq (map_to g m) c.args.set) (λ m. named_by g (has_in c.args.ranks.now (map_from g m)) m y r)
            (c.loop-map.invariant.1 y r)
            (eq-eqb (map_to g c.loop-map.map) c.args.set (sym (ap (λ z. z.1) c.map_ends-from.ensures) ∙ w.if-to-set.true))
            (w.name_by.ensures y r ∙ (ap (λ (z : List RankSet). has_at z y r || named_by g (has_at w.deref.result.now) c.loop-map.map y r)
            w.deref_mut.ensures.value ∙ ap (λ (z : List RankSet). has_at c.loop-map.sets.items y r || named_by g (has_at z)
            c.loop-map.map y r) e)),
      ))
  | else-to-set w ↦
      (let g = c.args.mesh.now in
      rw w.sets-is (
        c.loop-map.invariant.0,
        λ y r. map_step_no (has_at c.loop-map.sets.items y r) c.loop-map.map (λ m. nat_eq (map_to g m) c.args.set) (λ m. named_by g (has_in c.args.ranks.now (map_from g m)) m y r)
            (c.loop-map.invariant.1 y r)
            (ne_eqb (map_to g c.loop-map.map) c.args.set (λ q. w.if-to-set.false ((ap (λ z. z.1) c.map_ends-from.ensures) ∙ q))),
      ))
]
