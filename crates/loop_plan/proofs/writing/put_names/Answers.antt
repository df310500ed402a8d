use Rattle.std.proofs.Common.{◌∙◌, arith}
use Rattle.mesh_decl.specs.Mesh.{dat_name}
use Rattle.loop_plan.proofs.Lines.{parts_more}
use Rattle.loop_plan.proofs.writing.put_names.Goals as goal

pub loop-dat-preserved : goal.loop-dat-preserved
loop-dat-preserved c =
    parts_more (dat_name c.args.mesh.now) c.args.dats.now c.loop-dat.dat-index _ c.args.out.now.items c.loop-dat.out.items c.put_word.new.out.items
    (omega (arith, c.loop-dat-test.true)) (c.bytes.ensures ∙ c.dat_name.ensures) c.loop-dat.invariant c.in_ok-put_word.ensures
