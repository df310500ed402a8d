-- Truth values.
use Rattle.std.proofs.Common.{Bool, Err, Ok, Result, ap, arith, cond, false, inl, inr, refl, sym, true, ℤ, ◌&&◌, ◌||◌, ◌∙◌, ◌≡◌, ◌≤◌, ◌⊎◌}
use Rattle.std.proofs.Math.Bool.{or-false}
use Rattle.std.specs.Bool.{Decides}
use Rattle.std.specs.Prelude.{◌&&◌, ◌||◌}

-- a test or one that never holds
pub or_none : (b : Bool) → b ≡ (b || false)
or_none b = sym (or-false b)

-- tests joined from either side
pub or_assoc : (x y z : Bool) → ((x || y) || z) ≡ (x || (y || z))
or_assoc true y z = refl
or_assoc false y z = refl

-- the second of three tests in front
pub or_swap : (a b c : Bool) → (a || (b || c)) ≡ ((b || a) || c)
or_swap true true c = refl
or_swap true false c = refl
or_swap false true c = refl
or_swap false false c = refl

pub or_right : (a b : Bool) → (a || b) ≡ false → b ≡ false
or_right true b h = cc
or_right false b h = h

-- no truth value is both
pub not_both : (b : Bool) → b ≡ true → b ≡ false → ⊥
not_both b t f = let z : true ≡ false = sym t ∙ f in cc

-- a test counted is at most 1
pub cond_bit : (t : Bool) → cond t 1 0 ≤ 1
cond_bit true = omega arith
cond_bit false = omega arith

-- two truth values that follow from each other are one
pub iff_eq : (b c : Bool) → (b ≡ true → c ≡ true) → (c ≡ true → b ≡ true) → b ≡ c
iff_eq true c f g = sym (f refl)
iff_eq false true f g = g refl
iff_eq false false f g = refl

-- a common part of two tests, taken out
pub or_and_right : (a c d : Bool) → ((a && d) || (c && d)) ≡ ((a || c) && d)
or_and_right true true true = refl
or_and_right true true false = refl
or_and_right true false true = refl
or_and_right true false false = refl
or_and_right false c d = refl

-- a test that never holds takes the second value
pub cond_never : (a : Bool) (z v : ℤ) → cond (a && false) z v ≡ v
cond_never true z v = refl
cond_never false z v = refl

-- a test or one that holds
pub or_true : (l : Bool) → (l || true) ≡ true
or_true true = refl
or_true false = refl

-- two tests for one value, as one test
pub cond_or : (a l e : Bool) (z v : ℤ) → cond (a && e) z (cond (a && l) z v) ≡ cond (a && (l || e)) z v
cond_or false l e z v = refl
cond_or true true true z v = refl
cond_or true true false z v = refl
cond_or true false true z v = refl
cond_or true false false z v = refl

-- the first of two tests that hold
pub and_first : (x y : Bool) → (x && y) ≡ true → x ≡ true
and_first true y e = refl
and_first false y e = e

-- the second of two tests that hold
pub and_second : (x y : Bool) → (x && y) ≡ true → y ≡ true
and_second true y e = e
and_second false y e = absurd (let f : ⊥ = cc in f)

pub or_self : (b c : Bool) → c ≡ false → b ≡ (c || b)
or_self b c e = sym (ap (λ z. z || b) e)

-- a test decides whether it holds
pub decides_itself : (r : Bool) → Decides r (r ≡ true)
decides_itself r = (λ e. e, λ e. e)

-- a test that is passed or isn't
pub cases_bool : (a : Bool) → (a ≡ true) ⊎ (a ≡ false)
cases_bool true = inl refl
cases_bool false = inr refl

-- only the first branch can be an `Ok`
pub ok_then : {X E : Type 0} (b : Bool) (x : Result X E) (e : E) (y : X) → cond b x (Err e) ≡ Ok y → (b ≡ true) × (x ≡ Ok y)
ok_then true x e y h = (refl, h)
ok_then false x e y h = cc

-- which branch a value is of
pub cond_cases : {X : Type 0} (b : Bool) (x y z : X) → cond b x y ≡ z → ((b ≡ true) × (x ≡ z)) ⊎ ((b ≡ false) × (y ≡ z))
cond_cases true x y z h = inl (refl, h)
cond_cases false x y z h = inr (refl, h)

-- only the second branch can be an `Ok`
pub ok_else : {X E : Type 0} (b : Bool) (x : Result X E) (e : E) (y : X) → cond b (Err e) x ≡ Ok y → (b ≡ false) × (x ≡ Ok y)
ok_else false x e y h = (refl, h)
ok_else true x e y h = cc
