use Rattle.std.proofs.Common.{arith}
use Rattle.chain_needs.proofs.chain_slices.Reading.{level_there, first_level}
use Rattle.chain_needs.proofs.chain_slices.sliced.Slices.item_level.Goals as goal

pub index-requires-in-Some-2 : goal.index-requires-in-Some-2
index-requires-in-Some-2 c =
    let r = c.requires in
    omega (
      arith,
      c.index-in-Some.result.now.levels.ok.0,
      level_there r.0 r.1 c.args.self.now r.2 c.args.item r.3 c.index.result.now c.in-Some.at c.index.ensures c.in-Some.is c.index-in-Some.result.now c.index-in-Some.ensures,
    )

pub returns : goal.returns
returns c = λ b o h free.
    first_level b o c.args.self.now h c.args.item free c.index.result.now c.in-Some.at c.index.ensures c.in-Some.is c.index-in-Some.result.now c.index-in-Some.ensures
    c.index-in-Some-2.result.now c.index-in-Some-2.ensures
