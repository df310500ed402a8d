use Rattle.std.proofs.Common.{◌≡◌, ◌-◌, length, subst, arith}
use Rattle.gmsh_mesh.specs.Places.{AreFound, IsRefusedFind}
use Rattle.gmsh_mesh.proofs.tag_places.Holding.{found-next, missing-at, refused-so}
use Rattle.gmsh_mesh.proofs.tag_places.finding.find_places.Goals as goal

pub loop-place-preserved : goal.loop-place-preserved
loop-place-preserved c =
    found-next c.args.of.now c.args.from c.args.holders.now c.requires.holders _ _ c.loop-place.place _ _ _ c.loop-place.invariant (omega arith) (omega arith)
    (c.requires.below c.loop-place.place (omega arith)) c.in_ok-holder.ensures.found c.in_ok-push.ensures.items

pub returns-in_err-holder-clause-refused : goal.returns-in_err-holder-clause-refused
returns-in_err-holder-clause-refused c =
    refused-so _ _ (IsRefusedFind c.args.of.now c.args.from (length c.args.of.now - c.args.from)) c.from_residual-in_err-holder.ensures.1
    (missing-at c.args.of.now c.args.from c.args.holders.now c.requires.holders _ _ c.loop-place.place _ _ c.loop-place.invariant (omega arith) (omega arith)
    (c.requires.below c.loop-place.place (omega arith)) c.in_err-holder.ensures.none.0 c.in_err-holder.ensures.none.1)

pub returns-clause-found : goal.returns-clause-found
returns-clause-found c =
    let all : c.loop-place.place - c.args.from ≡ length c.args.of.now - c.args.from = omega (arith, c.loop-place.auto.place-end) in
    subst (λ n. AreFound c.args.of.now c.args.from n c.loop-place.found.items) all c.loop-place.invariant
