use Rattle.std.proofs.Common.{arith, sym, ◌∙◌}
use Rattle.mesh_decl.specs.Mesh.{dat_count, dat_name}
use Rattle.mesh_decl.proofs.FirstNamed.{found, passed}
use Rattle.mesh_decl.proofs.mesh.Mesh.dat_named.Goals as goal

pub loop-dat-init : goal.loop-dat-init
loop-dat-init c = λ j l. absurd (omega arith)

pub returns-then-eq : goal.returns-then-eq
returns-then-eq c = found (dat_count c.args.self.now) (dat_name c.args.self.now) c.args.name.now c.loop-dat.dat c.bytes.result.now (c.bytes.ensures ∙ c.dat_name.ensures)
    (omega (arith, c.loop-dat-test.true, c.dat_count-dat-end.ensures.count)) (sym c.eq.ensures ∙ c.if-eq.true) c.loop-dat.invariant

pub loop-dat-preserved : goal.loop-dat-preserved
loop-dat-preserved c = passed (dat_count c.args.self.now) (dat_name c.args.self.now) c.args.name.now c.loop-dat.dat c.bytes.result.now (c.bytes.ensures ∙ c.dat_name.ensures)
    (sym c.eq.ensures ∙ c.if-eq.false) c.loop-dat.invariant
