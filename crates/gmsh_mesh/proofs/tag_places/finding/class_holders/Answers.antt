use Rattle.std.proofs.Common.{◌≡◌, subst, arith}
use Rattle.gmsh_mesh.specs.Places.{AreHolders}
use Rattle.gmsh_mesh.proofs.tag_places.finding.class_holders.Goals as goal

pub returns-clause-holders : goal.returns-clause-holders
returns-clause-holders c =
    let all : c.loop-place.place ≡ c.args.count = omega arith in
    subst (λ n. AreHolders c.args.of.now n c.loop-place.holders.items) all c.loop-place.invariant
