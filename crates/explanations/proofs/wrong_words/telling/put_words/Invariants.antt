use Rattle.std.proofs.Common.{◌≡◌, ◌∷◌, ◌++◌, take, map, string_bytes}
use Rattle.std.specs.List.{flat_map}
use Rattle.explanations.proofs.wrong_words.telling.put_words.Given as goal

abbrev pub invariant-loop-word : goal.invariant-loop-word
invariant-loop-word l = l.out.items ≡ l.initial.out.items ++ flat_map (λ w. 32 ∷ w) (map string_bytes (take l.word-index l.words))
