-- What is made of partials and of variables around a Free loop.
use Rattle.std.specs.Prelude.{ℕ}
use Rattle.schedule_model.specs.Machine.{window_of}
use Rattle.chain_model.specs.Machine.{merged_over}
use Rattle.deep_halo.specs.Cells.{Values}
use Rattle.deep_halo.specs.Merging.{Change}

-- the unit, where the loop merges amounts into the variable
abbrev pub units : Change
units how x m c = window_of how x

-- the partials p of so many ranks are merged in, one after another
abbrev pub sums_of : ℕ → Values → Change
sums_of ranks p how x m c = merged_over how (λ r. p r c) ranks x
