use Rattle.std.proofs.Common.{arith, sym, ◌∙◌}
use Rattle.mesh_decl.specs.Mesh.{map_count, map_name}
use Rattle.mesh_decl.proofs.FirstNamed.{found, passed}
use Rattle.mesh_decl.proofs.mesh.Mesh.map_named.Goals as goal

pub loop-map-init : goal.loop-map-init
loop-map-init c = λ j l. absurd (omega arith)

pub returns-then-eq : goal.returns-then-eq
returns-then-eq c = found (map_count c.args.self.now) (map_name c.args.self.now) c.args.name.now c.loop-map.map c.bytes.result.now (c.bytes.ensures ∙ c.map_name.ensures)
    (omega (arith, c.loop-map-test.true, c.map_count-map-end.ensures.count)) (sym c.eq.ensures ∙ c.if-eq.true) c.loop-map.invariant

pub loop-map-preserved : goal.loop-map-preserved
loop-map-preserved c = passed (map_count c.args.self.now) (map_name c.args.self.now) c.args.name.now c.loop-map.map c.bytes.result.now (c.bytes.ensures ∙ c.map_name.ensures)
    (sym c.eq.ensures ∙ c.if-eq.false) c.loop-map.invariant
