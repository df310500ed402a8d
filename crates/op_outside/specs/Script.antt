-- Which calls of a shelf or a sink over memory fail, and how many did.
use Rattle.std.specs.Prelude.{◌≡◌, ◌≤◌, ℕ, ◌+◌, ◌-◌, ◌^◌, min, nat_eq, Bool, List}
use Rattle.std.specs.List.{list_any}
use Rattle.op_outside.specs.declared.script.Script.{Script}

-- the numbers of the calls that fail
abbrev pub failing : Script → List ℕ
failing script = script.fails.items

-- the number of the next call
abbrev pub next_call : Script → ℕ
next_call script = script.calls

-- how many calls failed
abbrev pub failed : Script → ℕ
failed script = script.faults

-- the next call is to fail
abbrev pub is_due : Script → Bool
is_due script = list_any (λ call. nat_eq call (next_call script)) (failing script)

-- one more, or the last value of a counter of 64 bits
abbrev pub raised : ℕ → ℕ
raised n = min (n + 1) (2 ^ 64 - 1)

-- no call was made yet, and these calls fail
pub record IsFresh (script : Script) (fails : List ℕ) : Type 0 where
  pub same : failing script ≡ fails
  pub first : next_call script ≡ 0
  pub none : failed script ≡ 0

-- one call more was made, and none more failed
pub record Passes (old new : Script) : Type 0 where
  pub fails : failing new ≡ failing old
  pub next : next_call new ≡ raised (next_call old)
  pub faults : failed new ≡ failed old

-- one call more was made, and it failed
pub record Fails (old new : Script) : Type 0 where
  pub fails : failing new ≡ failing old
  pub next : next_call new ≡ raised (next_call old)
  pub faults : failed new ≡ raised (failed old)
  pub never_falls : failed old ≤ failed new
