-- Words that are still to come.
use Rattle.std.proofs.Common.{ℕ, ◌+◌, Option, Some, None, Bor, List, length}

-- how many bytes are left, and one more where there are some to come
abbrev pub left : Option (Bor (List ℕ)) → ℕ
left None = 0
left (Some rest) = length rest.now + 1
