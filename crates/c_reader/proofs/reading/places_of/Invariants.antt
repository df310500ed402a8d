use Rattle.std.proofs.Common.{◌≡◌, ◌++◌, map, drop}
use Rattle.c_reader.proofs.reading.places_of.Given as goal

abbrev pub invariant-loop-token : goal.invariant-loop-token
invariant-loop-token l = map (λ t. t.at) l.tokens ≡ l.places.items ++ map (λ t. t.at) (drop l.token-index l.tokens)
