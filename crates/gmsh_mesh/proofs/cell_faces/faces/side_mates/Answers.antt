use Rattle.std.proofs.Common.{List, ℕ, subst}
use Rattle.std.proofs.lemmas.Result.{IfOk-weaker, IfErr-weaker}
use Rattle.gmsh_mesh.specs.declared.equal_keys.pairing.MateRefusal.TheVariants.{Third, OutOfMemory}
use Rattle.gmsh_mesh.specs.declared.equal_keys.pairing.MateRefusal.{MateRefusal}
use Rattle.gmsh_mesh.specs.Mates.{AreMates, IsRefused}
use Rattle.gmsh_mesh.specs.SideMates.{AreSideClasses, IsSidesRefused}
use Rattle.gmsh_mesh.proofs.cell_faces.Agreeing.{to-mates, to-first}
use Rattle.gmsh_mesh.proofs.cell_faces.faces.side_mates.Goals as goal

to-refused : (sides of : List ℕ) (count w : ℕ) → AreSideClasses sides w count of → (e : MateRefusal) → IsRefused of e → IsSidesRefused sides w count e
to-refused sides of count w c (Third place) h = to-first sides of count w c place h
to-refused sides of count w c OutOfMemory h = tt

pub returns-clause-mates : goal.returns-clause-mates
returns-clause-mates c =
    IfOk-weaker c.mates.result _ _
    (λ of m. to-mates c.args.sides.now c.in_ok-classes.classes.items c.args.count c.args.width c.in_ok-classes.ensures of.items
    (subst (λ k. AreMates k of.items) c.deref.ensures.value m))
    c.mates.ensures.mates

pub returns-clause-refused : goal.returns-clause-refused
returns-clause-refused c =
    IfErr-weaker c.mates.result _ _
    (λ e h. to-refused c.args.sides.now c.in_ok-classes.classes.items c.args.count c.args.width c.in_ok-classes.ensures e
    (subst (λ k. IsRefused k e) c.deref.ensures.value h))
    c.mates.ensures.refused
