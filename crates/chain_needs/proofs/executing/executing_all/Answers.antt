use Rattle.std.proofs.Common.{◌||◌, nat_eq, ap, ◌∙◌, arith, List}
use Rattle.std.specs.List.{list_any}
use Rattle.std.proofs.lemmas.List.{length_push}
use Rattle.mesh_decl.specs.Owners.{owner_of}
use Rattle.bound_program.specs.declared.sites.Arg.{Arg}
use Rattle.bound_program.specs.Values.{bound_of}
use Rattle.bound_program.specs.Fits.{site_at}
use Rattle.chain_model.specs.Slices.{executes_for, modifies_some}
use Rattle.local_mesh.proofs.Public.{has_more}
use Rattle.chain_needs.specs.PairSets.{pairs_of}
use Rattle.chain_needs.proofs.executing.executing_all.Goals as goal

pub loop-element-preserved : goal.loop-element-preserved
loop-element-preserved c =
    let b = bound_of c.args.bound.now in
    let e = c.loop-element.element in
    let o = c.args.owners.now in
    rw c.in_ok-push.ensures.items (
      omega (arith, length_push c.loop-element.sets.items c.executing.result),
      has_more c.loop-element.sets.items c.executing.result e (λ x r. executes_for b o r (pairs_of c.args.needs.now r) (site_at b c.args.site) x) c.loop-element.invariant.0 c.loop-element.invariant.1
          (λ r. c.executing.ensures r
          ∙ (ap (λ z. nat_eq (owner_of o z e) r || list_any (modifies_some b (pairs_of c.args.needs.now r) e) c.args_of-args.result.now) c.set_of-set.ensures
          ∙ ap (λ (z : List Arg). nat_eq (owner_of o (site_at b c.args.site).set e) r || list_any (modifies_some b (pairs_of c.args.needs.now r) e) z) c.args_of-args.ensures)),
    )
