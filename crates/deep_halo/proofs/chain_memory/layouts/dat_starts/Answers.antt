use Rattle.std.proofs.Common.{◌<◌, ◌≤◌, ◌+◌, length, ap, arith}
use Rattle.mesh_decl.specs.Mesh.{dat_count, dat_values, IsDatAt}
use Rattle.bound_program.specs.Values.{bound_of}
use Rattle.run_model.specs.Memory.{memory_length}
use Rattle.deep_halo.proofs.chain_memory.Starting.{next_within, next_end, starts_more}
use Rattle.deep_halo.proofs.chain_memory.layouts.dat_starts.Goals as goal

pub overflow_add-next : goal.overflow_add-next
overflow_add-next c =
    let b = bound_of c.args.bound.now in
    let below : c.loop-dat.dat < dat_count b.mesh = omega (arith, c.loop-dat-test.true, c.dat_count-dat-end.ensures.count) in
    let within : c.loop-dat.next + length (dat_values b.mesh c.loop-dat.dat) ≤ memory_length b =
    next_within b (c.memory_holds.ensures.order b) c.loop-dat.dat c.loop-dat.next (c.is_in_range.ensures.dats c.loop-dat.dat below) c.loop-dat.invariant.ends below in
    omega (arith, within, ap length c.dat_values.ensures, c.requires.few)

pub loop-dat-preserved : goal.loop-dat-preserved
loop-dat-preserved c =
    let b = bound_of c.args.bound.now in
    let below : c.loop-dat.dat < dat_count b.mesh = omega (arith, c.loop-dat-test.true, c.dat_count-dat-end.ensures.count) in
    let at : IsDatAt b.mesh c.loop-dat.dat = c.is_in_range.ensures.dats c.loop-dat.dat below in
    starts_more b c.loop-dat.starts.items c.push.new.self.items c.loop-dat.next (c.loop-dat.next + length c.dat_values.result.now) c.loop-dat.dat
    c.loop-dat.invariant c.in_ok-push.ensures.items
    (omega (arith, ap length c.dat_values.ensures, next_end b c.loop-dat.dat c.loop-dat.next at c.loop-dat.invariant.ends))
