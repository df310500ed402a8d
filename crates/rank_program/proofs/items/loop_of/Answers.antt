use Rattle.std.proofs.Common.{arith}
use Rattle.std.proofs.lemmas.List.{length-map}
use Rattle.bound_program.specs.Values.{bound_of, item_of}
use Rattle.rank_layout.proofs.Public.{item_there}
use Rattle.rank_program.proofs.items.loop_of.Goals as goal

pub index-requires : goal.index-requires
index-requires c =
    let there = item_there (bound_of c.args.bound.now).trace c.args.item c.requires in
    omega (arith, there, length-map c.args.bound.now.trace.items item_of)
