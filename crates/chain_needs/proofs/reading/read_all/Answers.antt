use Rattle.std.proofs.Common.{◌||◌, ◌&&◌, List, ap, ◌∙◌}
use Rattle.std.specs.List.{list_any}
use Rattle.local_mesh.specs.RankSet.{has_at}
use Rattle.bound_program.specs.declared.sites.Arg.{Arg}
use Rattle.bound_program.specs.Values.{bound_of}
use Rattle.bound_program.specs.Fits.{site_at}
use Rattle.chain_model.specs.Slices.{reads_pair}
use Rattle.local_mesh.proofs.Public.{any_step}
use Rattle.chain_needs.proofs.reading.read_all.Goals as goal

pub loop-element-preserved : goal.loop-element-preserved
loop-element-preserved c = λ y r.
    let b = bound_of c.args.bound.now in
    let e = c.loop-element.element in
    any_step (has_at c.args.sets.now y r) (has_at c.loop-element.sets y r) (has_at c.read_by_all.new.sets y r) e
    (λ e. has_at c.args.executing.now e r && list_any (reads_pair b c.args.dat y e) (site_at b c.args.site).args) (c.loop-element.invariant y r)
    (c.read_by_all.ensures y r
    ∙ (ap (λ z. has_at c.loop-element.sets y r || (z && list_any (reads_pair b c.args.dat y e) c.args_of-args.result.now)) (c.ranks_of-ranks.ensures r)
    ∙ ap (λ (z : List Arg). has_at c.loop-element.sets y r || (has_at c.args.executing.now e r && list_any (reads_pair b c.args.dat y e) z)) c.args_of-args.ensures))
