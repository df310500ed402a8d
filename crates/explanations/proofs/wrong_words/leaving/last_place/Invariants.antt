use Rattle.std.proofs.Common.{◌≡◌, ◌≤◌, map, string_bytes}
use Rattle.explanations.specs.Wrong.{last_place}
use Rattle.explanations.proofs.wrong_words.leaving.last_place.Given as goal

abbrev pub invariant-loop-place : goal.invariant-loop-place
invariant-loop-place l = record {
  within : l.place ≤ l.most;
  same : last_place (map string_bytes l.words.items) l.count l.most ≡ last_place (map string_bytes l.words.items) l.count l.place;
}

abbrev pub decreases-loop-place : goal.decreases-loop-place
decreases-loop-place l = l.place
