use Rattle.std.proofs.Common.{map}
use Rattle.bound_program.specs.Values.{item_of}
use Rattle.checkpoint.proofs.ItemsMade.{dats-next}
use Rattle.checkpoint.proofs.heads.say_dats.Goals as goal

pub loop-dat-preserved : goal.loop-dat-preserved
loop-dat-preserved c = dats-next (map item_of c.args.trace.now.items) c.loop-dat.trace.items c.push.new.self.items c.in_ok-says_dat.field-0
    c.loop-dat.dat c.in_ok-says_dat.ensures c.in_ok-push.ensures.items c.loop-dat.invariant
