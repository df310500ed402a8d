use Rattle.std.proofs.Common.{◌+◌, inl, get_or, ◌∙◌, arith}
use Rattle.std.proofs.lemmas.Bool.{lt-ltb}
use Rattle.rank_program.proofs.counts.all_count.Goals as goal

pub own_places-end-requires-clause-step : goal.own_places-end-requires-clause-step
own_places-end-requires-clause-step c =
    let fits = c.requires.fits in
    let some = c.requires.some in
    (get_or c.args.local.now.places.now (c.args.at + 0) 0, c.requires.steps (c.args.at + 0) (omega (arith, fits, some)))

pub returns : goal.returns
returns c = λ all j lt.
    let x = get_or c.args.local.now.places.now (c.args.at + j) 0 in
    let fits = c.requires.fits in
    inl (c.own_places-end.ensures x (c.requires.steps (c.args.at + j) (omega (arith, lt, fits))) ∙ lt-ltb x c.own_places-end.result (c.all_below.ensures all j lt))
