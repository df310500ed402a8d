use Rattle.std.proofs.Common.{arith, sym, ◌∙◌}
use Rattle.mesh_decl.specs.Mesh.{set_count, set_name}
use Rattle.mesh_decl.proofs.FirstNamed.{found, passed}
use Rattle.mesh_decl.proofs.mesh.Mesh.set_named.Goals as goal

pub loop-set-init : goal.loop-set-init
loop-set-init c = λ j l. absurd (omega arith)

pub returns-then-eq : goal.returns-then-eq
returns-then-eq c = found (set_count c.args.self.now) (set_name c.args.self.now) c.args.name.now c.loop-set.set c.bytes.result.now (c.bytes.ensures ∙ c.set_name.ensures)
    (omega (arith, c.loop-set-test.true, c.set_count-set-end.ensures.count)) (sym c.eq.ensures ∙ c.if-eq.true) c.loop-set.invariant

pub loop-set-preserved : goal.loop-set-preserved
loop-set-preserved c = passed (set_count c.args.self.now) (set_name c.args.self.now) c.args.name.now c.loop-set.set c.bytes.result.now (c.bytes.ensures ∙ c.set_name.ensures)
    (sym c.eq.ensures ∙ c.if-eq.false) c.loop-set.invariant
