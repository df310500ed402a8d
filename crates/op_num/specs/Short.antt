-- Numbers of few bytes.
use Rattle.std.specs.Prelude.{ℕ, ℤ, nat_le, List, length, take, Option, Some, None, if◌then◌else◌}
use Rattle.std.specs.List.{prefix_len}
use Rattle.op_num.specs.Spelling.{number_of, integer_of}
use Rattle.op_num.specs.Cut.{Word, dark}

-- the integer that a token of at most nine bytes spells, where there is such a token and it spells one
abbrev pub short_of : Option Word → Option ℤ
short_of None = None
short_of (Some w) = if nat_le (length w.text) 9 then integer_of w.text else None

-- a value, where there is one, and a number of bytes
abbrev pub with_len : {A : Type 0} → ℕ → Option A → Option (A × ℕ)
with_len n None = None
with_len n (Some x) = Some (x, n)

-- what so many bytes at the front spell, where they are at most `most`
abbrev pub front_of : {A : Type 0} → (List ℕ → Option A) → ℕ → List ℕ → ℕ → Option (A × ℕ)
front_of spelled most bs n = if nat_le n most then with_len n (spelled (take n bs)) else None

-- the number that the bytes before the first blank spell
abbrev pub front_number : ℕ → List ℕ → Option (ℕ × ℕ)
front_number most bs = front_of number_of most bs (prefix_len dark bs)

-- the integer that the bytes before the first blank spell
abbrev pub front_integer : List ℕ → Option (ℤ × ℕ)
front_integer bs = front_of integer_of 9 bs (prefix_len dark bs)
