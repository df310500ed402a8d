use Rattle.std.proofs.Common.{sym, subst, refl}
use Rattle.mesh_decl.specs.Mesh.{dat_values}
use Rattle.bound_program.specs.Values.{bound_of}
use Rattle.bound_program.specs.Fits.{Fits}
use Rattle.checkpoint.specs.Cut.{state_of}
use Rattle.checkpoint.proofs.TailMade.{dats-fit, dats-count, tail-made}
use Rattle.checkpoint.proofs.tails.tail.Goals as goal

pub set_dats-requires : goal.set_dats-requires
unfolding dat_values
set_dats-requires c = record {
  count = dats-count c.args.state.dats.items c.args.bound.mesh.dats c.requires.shape.dats;
  lengths = dats-fit c.args.state.dats.items c.args.bound.mesh.dats c.requires.shape.dats;
}

pub returns : goal.returns
returns c =
    let b = bound_of c.args.bound in
    let st = state_of c.args.state in
    let is = tail-made b st c.set_dats.new.mesh _ c.in_ok-later.later.items c.args.bound.trace.items c.set_dats.ensures c.set_vars.ensures c.in_ok-later.ensures.tail refl in
    record {
      tail = is;
      fits = λ f. subst Fits (sym is) (c.tails_fit.ensures b st f c.requires.cut c.requires.shape);
    }
