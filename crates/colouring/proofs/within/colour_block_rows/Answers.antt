use Rattle.std.proofs.Common.{◌≤◌, length, arith}
use Rattle.colouring.proofs.Blocks.{steps_fit, blocks_few, blocks_least}
use Rattle.colouring.proofs.within.colour_block_rows.Goals as goal

pub colour_rows-requires-clause-few : goal.colour_rows-requires-clause-few
colour_rows-requires-clause-few c =
    let few : length c.args.colours.now ≤ c.args.places = blocks_few (length c.args.colours.now) c.args.size c.args.places c.requires.size (λ b l. (c.requires.count b).0 l) in
    omega (arith, few, c.ranges.places.fits)

pub colour_rows-requires-clause-small : goal.colour_rows-requires-clause-small
colour_rows-requires-clause-small c = steps_fit (length c.args.colours.now) c.args.size c.args.places c.args.width c.min.result
    c.min.ensures (λ b l. (c.requires.count b).0 l) (omega (arith, c.requires.table, c.requires.few))

pub returns : goal.returns
returns c = record {
  least = blocks_least c.args.table.now c.args.width c.args.size c.args.places c.min.result c.min.ensures
      c.requires.table (length c.args.colours.now) c.colour_rows.new.colours (λ b l. (c.requires.count b).0 l)
      c.in_ok-colour_rows.ensures.least;
}
