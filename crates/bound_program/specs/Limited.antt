-- The trace under its limit.
use Rattle.std.specs.Prelude.{ℕ, zero, suc, ℤ, List, [], ◌∷◌, ◌++◌, Ok, Err}
use Rattle.bound_program.specs.declared.refusals.refusals.BindRefusal.TheVariants as refusal
use Rattle.bound_program.specs.Values.{ItemValue}
use Rattle.bound_program.specs.Refusals.{Judged}
use Rattle.bound_program.specs.Trace.{Event, Turn, Does, Tells, Stops}

-- the value of a variable that is declared `const` in a block
pub record ToldValue : Type 0 where
  pub var : ℕ
  pub value : ℤ

-- what `main` does, and the values that were told on the way
pub record UnrolledValue : Type 0 where
  pub items : List ItemValue
  pub values : List ToldValue

-- these, and then the others
abbrev pub before : UnrolledValue → Judged UnrolledValue → Judged UnrolledValue
before u (Ok w) = Ok (record { items = u.items ++ w.items; values = u.values ++ w.values })
before u (Err r) = Err r

-- one item alone
abbrev pub item : ItemValue → UnrolledValue
item x = record { items = x ∷ []; values = [] }

-- one value alone
abbrev pub told : ℕ → ℤ → UnrolledValue
told v z = record { items = []; values = (record { var = v; value = z }) ∷ [] }

-- Where so many items and turns are allowed: the first stop, and the first item or turn beyond, are refused.
abbrev pub unrolled : ℕ → List Event → Judged UnrolledValue
unrolled left [] = Ok (record { items = []; values = [] })
unrolled left (Stops at ∷ es) = Err (refusal.ControlNotStatic at)
unrolled left (Tells v z ∷ es) = before (told v z) (unrolled left es)
unrolled zero (Turn ∷ es) = Err refusal.TraceTooLong
unrolled zero (Does x ∷ es) = Err refusal.TraceTooLong
unrolled (suc left) (Turn ∷ es) = unrolled left es
unrolled (suc left) (Does x ∷ es) = before (item x) (unrolled left es)
