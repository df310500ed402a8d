use Rattle.std.proofs.Common.{◌≡◌, length, arith}
use Rattle.step_judge.specs.NewRun.{IsNewRun}
use Rattle.schedule_check.proofs.PlaceReads.{new_are}
use Rattle.schedule_check.proofs.places.new_places.Goals as goal

pub returns : goal.returns
returns c =
    let run : IsNewRun c.args.size c.args.colours.now.blocks.items c.args.colours.now.inner.items c.in_ok-cores.cores.items c.in_ok-places.places =
    rw c.deref-2.ensures.value at (rw c.deref.ensures.value at c.in_ok-places.ensures) in
    new_are c.args.size c.args.colours.now.blocks.items c.args.colours.now.inner.items c.in_ok-cores.cores.items c.args.core.now c.in_ok-places.places run
    (λ x l. c.in_ok-cores.ensures.cores x (let e : length c.args.colours.now.inner.items ≡ c.args.count = c.requires.count in omega arith))
