use Rattle.std.proofs.Common.{◌≡◌, ◌<◌, ◌≤◌, ◌^◌, false, arith, length, replicate}
use Rattle.step_judge.proofs.marks.NewRuns.{few_blocks, new_whole, new_run}
use Rattle.step_judge.proofs.marks.places.Places.new.Goals as goal

pub fresh-requires : goal.fresh-requires
fresh-requires c =
    let few : length c.args.blocks.now ≤ length c.args.inner.now =
    few_blocks c.args.size (length c.args.inner.now) c.args.blocks.now c.requires.size c.requires.blocks in
    let all : length c.args.inner.now < 2 ^ 32 = c.requires.few in
    omega arith

pub invariant_of-result : goal.invariant_of-result
invariant_of-result c =
    let none_begun : c.in_ok-begun.begun.items ≡ replicate (length c.args.inner.now) false = c.in_ok-begun.ensures.items_if_clones_equal (λ y e. e) in
    rw none_begun (
    new_whole
    c.args.size
    c.args.blocks.now
    c.args.inner.now
    c.args.core.items
    c.in_ok-places.places.items
    c.in_ok-colours.colours
    c.requires.size
    c.requires.few
    c.requires.blocks
    c.requires.core
    c.in_ok-places.ensures.count
    c.in_ok-places.ensures.blocks
    c.in_ok-colours.ensures)

pub returns : goal.returns
returns c =
    let none_begun : c.in_ok-begun.begun.items ≡ replicate (length c.args.inner.now) false = c.in_ok-begun.ensures.items_if_clones_equal (λ y e. e) in
    rw none_begun (
    new_run
    c.args.size
    c.args.blocks.now
    c.args.inner.now
    c.args.core.items
    c.in_ok-places.places.items
    c.in_ok-colours.colours
    c.requires.size
    c.requires.few
    c.requires.blocks
    c.requires.core
    c.in_ok-places.ensures.count
    c.in_ok-places.ensures.blocks
    c.in_ok-colours.ensures)
