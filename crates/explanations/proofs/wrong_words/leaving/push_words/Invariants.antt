use Rattle.std.proofs.Common.{◌≡◌, ◌++◌, take, map, string_bytes}
use Rattle.explanations.proofs.wrong_words.leaving.push_words.Given as goal

abbrev pub invariant-loop-word : goal.invariant-loop-word
invariant-loop-word l = map string_bytes l.out.items ≡ map string_bytes l.initial.out.items ++ map string_bytes (take l.word-index l.words)
