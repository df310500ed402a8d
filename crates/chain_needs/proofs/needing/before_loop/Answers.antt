use Rattle.std.proofs.Common.{◌||◌, ◌&&◌, List, ap, ◌∙◌}
use Rattle.std.specs.List.{list_any}
use Rattle.lemmas.specs.Below.{any_below}
use Rattle.local_mesh.specs.RankSet.{has_at}
use Rattle.local_mesh.specs.declared.rank_sets.rank_set.RankSet.{RankSet}
use Rattle.mesh_decl.specs.Mesh.{set_size}
use Rattle.bound_program.specs.Values.{bound_of}
use Rattle.bound_program.specs.Fits.{site_at}
use Rattle.local_mesh.specs.Sets.{has_in}
use Rattle.chain_model.specs.Slices.{reads_pair}
use Rattle.chain_needs.proofs.Agreeing.{one_more}
use Rattle.chain_needs.proofs.needing.before_loop.Goals as goal

pub returns : goal.returns
returns c = λ sites h.
    let b = bound_of c.args.bound.now in
    let site = site_at b c.args.site in
    one_more b c.args.owners.now site sites c.args.needs.now c.read_dats.new.needs c.in_ok-executing.executing.items c.is_in_range.ensures c.requires.fits h
    c.read_dats.ensures.needs c.in_ok-executing.ensures.has
    (λ d y r l. c.read_dats.ensures.has d y r l
    ∙ ap (λ (z : List RankSet). has_in c.args.needs.now d y r || any_below (set_size b.mesh site.set) (λ e. has_at z e r && list_any (reads_pair b d y e) site.args)) c.deref.ensures.value)
