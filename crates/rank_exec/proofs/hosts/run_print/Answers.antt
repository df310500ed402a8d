use Rattle.std.proofs.Common.{map, ap, ◌∙◌, refl, ◌≡◌, ◌<◌, ◌*◌, ◌++◌, sym, subst}
use Rattle.std.proofs.lemmas.Result.{on_ok_weaker}
use Rattle.std.specs.Prelude.{OnOk}
use Rattle.mesh_decl.specs.Mesh.{MeshValue, dat_count, dat_set, dat_dim, set_size}
use Rattle.mesh_decl.specs.Printed.{printed_dat}
use Rattle.schedule_model.specs.Flat.{owned}
use Rattle.bound_program.specs.Values.{Print}
use Rattle.rank_state.specs.Spans.{cells_at}
use Rattle.rank_state.specs.Machine.{row}
use Rattle.rank_exec.proofs.Hosting.{kind_is, print_goes_on, printed_there}
use Rattle.rank_exec.proofs.StandingCells.{standing_count}
use Rattle.rank_program.specs.declared.program.DistributedProgram.{DistributedProgram}
use Rattle.rank_program.specs.Sound.{program_in, setup_in, layout_in, tables_in}
use Rattle.rank_exec.proofs.hosts.run_print.Goals as goal

pub standing_cells-requires : goal.standing_cells-requires
standing_cells-requires c = printed_there (program_in c.args.program.now) c.args.item c.args.dat c.args.file.now c.is_sound.ensures.planned.fits c.items_are_there.ensures.acts c.requires.is

pub print_owned-requires-clause-dat : goal.print_owned-requires-clause-dat
print_owned-requires-clause-dat c = subst (λ (m : MeshValue). c.args.dat < dat_count m) (sym (ap (λ (d : DistributedProgram). d.bound.now.mesh) c.parts.ensures.are))
    (printed_there (program_in c.args.program.now) c.args.item c.args.dat c.args.file.now c.is_sound.ensures.planned.fits c.items_are_there.ensures.acts c.requires.is)

pub print_owned-requires-clause-values : goal.print_owned-requires-clause-values
print_owned-requires-clause-values c =
    subst (λ (m : MeshValue). c.in-Some.cells.dim ≡ set_size m (dat_set m c.args.dat) * dat_dim m c.args.dat) (sym (ap (λ (d : DistributedProgram). d.bound.now.mesh) c.parts.ensures.are)) (
    standing_count (program_in c.args.program.now) (setup_in c.args.program.now) (layout_in c.args.program.now) (tables_in c.args.program.now) c.args.dat c.in-Some.cells c.in-Some.ensures)

pub returns-in-Some-clause-after : goal.returns-in-Some-clause-after
returns-in-Some-clause-after c =
    let o = c.in-Some.cells in
    let stand = c.in-Some.ensures in
    on_ok_weaker c.print_owned.result
    (λ e f h. print_goes_on (program_in c.args.program.now) (setup_in c.args.program.now) (layout_in c.args.program.now) (tables_in c.args.program.now) refl c.is_sound.ensures.indexed
    c.args.machine.now c.print_owned.new.self f h c.args.item c.args.dat c.args.file.now c.requires.is
    (c.join_shows.ensures.hosts (setup_in c.args.program.now) (layout_in c.args.program.now) (tables_in c.args.program.now) c.args.machine.now f h c.args.item c.requires.going
    (kind_is (program_in c.args.program.now) (setup_in c.args.program.now) (layout_in c.args.program.now) (tables_in c.args.program.now)
    refl c.args.item (Print c.args.dat c.args.file.now) c.requires.is))
    (cells_at o.at o.dim (row c.args.machine.now.memories o.rank))
    (c.owners_show.ensures.cells (setup_in c.args.program.now) (layout_in c.args.program.now) (tables_in c.args.program.now)
    c.is_sound.ensures.indexed c.args.machine.now f h o stand.rank stand.inside stand.owned
    ∙ ap (map (owned (setup_in c.args.program.now) (layout_in c.args.program.now) f)) stand.cells)
    c.print_owned.ensures.others e)
    (subst (λ (m : MeshValue). OnOk c.print_owned.result (c.print_owned.new.self.output ≡ c.args.machine.now.output
    ++ printed_dat c.args.file.now m c.args.dat (cells_at o.at o.dim (row c.args.machine.now.memories o.rank))))
    (ap (λ (d : DistributedProgram). d.bound.now.mesh) c.parts.ensures.are) c.print_owned.ensures.printed)

pub dat_values-requires-clause-dat : goal.dat_values-requires-clause-dat
dat_values-requires-clause-dat c = printed_there (program_in c.args.program.now) c.args.item c.args.dat c.args.file.now c.is_sound.ensures.planned.fits c.items_are_there.ensures.acts c.requires.is

pub print-requires-clause-dat : goal.print-requires-clause-dat
print-requires-clause-dat c = subst (λ (m : MeshValue). c.args.dat < dat_count m) (sym (ap (λ (d : DistributedProgram). d.bound.now.mesh) c.parts.ensures.are))
    (printed_there (program_in c.args.program.now) c.args.item c.args.dat c.args.file.now c.is_sound.ensures.planned.fits c.items_are_there.ensures.acts c.requires.is)

pub returns-clause-after : goal.returns-clause-after
returns-clause-after c =
    on_ok_weaker c.print.result
    (λ e f h. print_goes_on (program_in c.args.program.now) (setup_in c.args.program.now) (layout_in c.args.program.now) (tables_in c.args.program.now) refl c.is_sound.ensures.indexed
    c.args.machine.now c.print.new.self f h c.args.item c.args.dat c.args.file.now c.requires.is
    (c.join_shows.ensures.hosts (setup_in c.args.program.now) (layout_in c.args.program.now) (tables_in c.args.program.now) c.args.machine.now f h c.args.item c.requires.going
    (kind_is (program_in c.args.program.now) (setup_in c.args.program.now) (layout_in c.args.program.now) (tables_in c.args.program.now)
    refl c.args.item (Print c.args.dat c.args.file.now) c.requires.is))
    c.deref.result.now (c.deref.ensures.value ∙ c.in_ok-values.ensures.values f h) c.print.ensures.others e)
    (subst (λ (m : MeshValue). OnOk c.print.result (c.print.new.self.output ≡ c.args.machine.now.output ++ printed_dat c.args.file.now m c.args.dat c.deref.result.now))
    (ap (λ (d : DistributedProgram). d.bound.now.mesh) c.parts.ensures.are) c.print.ensures.printed)
