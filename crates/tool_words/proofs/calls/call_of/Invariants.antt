use Rattle.std.proofs.Common.{◌≡◌, ◌∷◌, ◌++◌, map, codes, string_bytes, length}
use Rattle.tool_words.proofs.calls.call_of.Given as goal

-- with the words that are left it is the whole
abbrev pub invariant-loop-rest : goal.invariant-loop-rest
invariant-loop-rest l =
    map string_bytes l.call.items ++ map string_bytes l.rest ≡ codes "op2" ∷ map string_bytes l.fn.words

abbrev pub decreases-loop-rest : goal.decreases-loop-rest
decreases-loop-rest l = length l.rest
