use Rattle.std.proofs.Common.{◌<◌, ◌∙◌, ℕ, sym, ap, subst, map, length}
use Rattle.std.proofs.lemmas.List.{length-map}
use Rattle.mesh_decl.specs.Mesh.{set_size}
use Rattle.mesh_decl.specs.Owners.{owners_in}
use Rattle.local_mesh.specs.Halo.{imports_execute, imports_nonexecute}
use Rattle.cell_numbers.specs.Marks.{own_or_other}
use Rattle.cell_numbers.proofs.Halos.{exec_rank, exec_row, nonexec_rank, nonexec_row}
use Rattle.cell_numbers.proofs.Parts.{part_marked, own_at, marks_within}
use Rattle.cell_numbers.proofs.owned.parts_of.Goals as goal

pub executed_by-requires-clause-rank : goal.executed_by-requires-clause-rank
executed_by-requires-clause-rank c =
    exec_rank c.args.mesh.now c.args.owners.now c.args.halos.now c.requires.halos c.args.set c.requires.set c.args.rank c.requires.rank

pub read_by-requires-clause-rank : goal.read_by-requires-clause-rank
read_by-requires-clause-rank c =
    nonexec_rank c.args.mesh.now c.args.owners.now c.args.halos.now c.requires.halos c.args.set c.requires.set c.args.rank c.requires.rank

pub marked-executed-requires : goal.marked-executed-requires
marked-executed-requires c =
    let g = c.args.mesh.now in
    let o = c.args.owners.now in
    let own = c.in_ok-owned.ensures ∙ ap (λ xs. map (own_or_other c.args.rank) xs) c.of_set.ensures in
    let size = ap length own ∙ length-map (owners_in o c.args.set) (own_or_other c.args.rank) ∙ c.requires.owners.lengths c.args.set c.requires.set in
    marks_within c.executed_by.result.now (length c.in_ok-owned.owned.items) (set_size g c.args.set)
    (λ y. imports_execute g o c.args.set y c.args.rank)
    (c.executed_by.ensures ∙ exec_row g o c.args.halos.now c.requires.halos c.args.set c.requires.set c.args.rank c.requires.rank) size

pub marked-requires : goal.marked-requires
marked-requires c =
    let g = c.args.mesh.now in
    let o = c.args.owners.now in
    let own = c.in_ok-owned.ensures ∙ ap (λ xs. map (own_or_other c.args.rank) xs) c.of_set.ensures in
    let size = c.marked-executed.ensures.length ∙ ap length own ∙ length-map (owners_in o c.args.set) (own_or_other c.args.rank)
    ∙ c.requires.owners.lengths c.args.set c.requires.set in
    marks_within c.read_by.result.now (length c.marked-executed.result.items) (set_size g c.args.set)
    (λ y. imports_nonexecute g o c.args.set y c.args.rank)
    (c.read_by.ensures ∙ nonexec_row g o c.args.halos.now c.requires.halos c.args.set c.requires.set c.args.rank c.requires.rank) size

pub returns-clause-parts : goal.returns-clause-parts
returns-clause-parts c = λ x l.
    let g = c.args.mesh.now in
    let o = c.args.owners.now in
    let own = c.in_ok-owned.ensures ∙ ap (λ xs. map (own_or_other c.args.rank) xs) c.of_set.ensures in
    let here = subst (λ (n : ℕ). x < n) (sym (c.requires.owners.lengths c.args.set c.requires.set)) l in
    part_marked g o c.args.set (set_size g c.args.set) x c.args.rank c.read_by.result.now c.executed_by.result.now _ _ _ l
    (c.read_by.ensures ∙ nonexec_row g o c.args.halos.now c.requires.halos c.args.set c.requires.set c.args.rank c.requires.rank)
    (c.executed_by.ensures ∙ exec_row g o c.args.halos.now c.requires.halos c.args.set c.requires.set c.args.rank c.requires.rank)
    (own_at o c.args.set c.args.rank x c.in_ok-owned.owned.items own here)
    (c.marked-executed.ensures.marked x)
    (c.marked.ensures.marked x)
