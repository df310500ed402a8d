use Rattle.std.proofs.Common.{◌++◌, map, ap, ◌∙◌, refl}
use Rattle.std.proofs.lemmas.Result.{on_ok_weaker}
use Rattle.schedule_model.specs.Flat.{owned}
use Rattle.rank_exec.proofs.Hosting.{row_is, owner_there}
use Rattle.rank_program.specs.Sound.{program_in, setup_in, layout_in, tables_in}
use Rattle.rank_exec.proofs.hosts.push_element.Goals as goal

pub returns : goal.returns
returns c =
    let o = c.owners_copy.result in
    let own = c.owners_copy.ensures in
    on_ok_weaker c.push_owned.result
    (λ e f h. e ∙ ap (λ l. c.args.values.now.items ++ l)
    (c.owners_show.ensures.cells (setup_in c.args.program.now) (layout_in c.args.program.now) (tables_in c.args.program.now) c.is_sound.ensures.indexed c.args.machine.now f h o own.rank own.inside
    (owner_there (program_in c.args.program.now) (setup_in c.args.program.now) (layout_in c.args.program.now) (tables_in c.args.program.now) (refl) c.args.dat c.args.element c.requires.element o own)
    ∙ ap (map (owned (setup_in c.args.program.now) (layout_in c.args.program.now) f))
    (row_is (program_in c.args.program.now) ((layout_in c.args.program.now).cell_at o.rank) c.args.dat c.args.element o.at o.dim own.dim
    own.cells)))
    c.push_owned.ensures
