-- The turns of a `for`.
use Rattle.std.proofs.Common.{◌≡◌, suc, ℤ, pos, ◌+ℤ◌, ◌≤ℤ◌, List, [], ◌∷◌, ◌++◌, Option, Some, None, refl, arith, true, false, Bool, int_lt, if◌then◌else◌}
use Rattle.std.proofs.lemmas.Int.{ints}
use Rattle.c_tree.specs.declared.lexer.tokens.Pos.{Pos}
use Rattle.bound_program.specs.declared.trace.unroll.Goes.TheVariants as goes
use Rattle.bound_program.specs.Trace.{Event, Turn, Stops, Later, choose, nothing, counts, turns, turns_left}
use Rattle.bound_program.specs.Unrolling.{goes_by}

fuel : (i : ℤ) → i ≤ℤ pos 2147483647 → turns_left i ≡ suc (turns_left (i +ℤ pos 1))
fuel i h = omega (arith, ints)

on : (q : Bool) (f g : Later) → (if q then goes.On else goes.Ends) ≡ goes.On → choose q f g ≡ f tt
on true f g h = refl
on false f g h = cc

ends : (q : Bool) (f g : Later) → (if q then goes.On else goes.Ends) ≡ goes.Ends → choose q f g ≡ g tt
ends true f g h = cc
ends false f g h = refl

stops : (q : Bool) (es fs : List Event) → (if q then goes.On else goes.Ends) ≡ goes.Stops → es ≡ fs
stops true es fs h = cc
stops false es fs h = cc

counts_on : (r : Option ℤ) (i : ℤ) (at : Pos) (f : Later) → goes_by r i ≡ goes.On → counts r i at f ≡ f tt
counts_on None i at f h = cc
counts_on (Some b) i at f h = on (int_lt i b) f nothing h

counts_ends : (r : Option ℤ) (i : ℤ) (at : Pos) (f : Later) → goes_by r i ≡ goes.Ends → counts r i at f ≡ []
counts_ends None i at f h = cc
counts_ends (Some b) i at f h = ends (int_lt i b) f nothing h

counts_stops : (r : Option ℤ) (i : ℤ) (at : Pos) (f : Later) → goes_by r i ≡ goes.Stops → counts r i at f ≡ Stops at ∷ []
counts_stops None i at f h = refl
counts_stops (Some b) i at f h = stops (int_lt i b) _ _ h

pub turn_goes : (bound : ℤ → Option ℤ) (body : ℤ → List Event) (at : Pos) (i : ℤ) → i ≤ℤ pos 2147483647 → goes_by (bound i) i ≡ goes.On
    → turns bound body at (turns_left i) i ≡ Turn ∷ (body i ++ turns bound body at (turns_left (i +ℤ pos 1)) (i +ℤ pos 1))
unfolding turns
turn_goes bound body at i h p = rw (fuel i h) (counts_on (bound i) i at _ p)

pub turn_ends : (bound : ℤ → Option ℤ) (body : ℤ → List Event) (at : Pos) (i : ℤ) → i ≤ℤ pos 2147483647 → goes_by (bound i) i ≡ goes.Ends → turns bound body at (turns_left i) i ≡ []
unfolding turns
turn_ends bound body at i h p = rw (fuel i h) (counts_ends (bound i) i at _ p)

pub turn_stops : (bound : ℤ → Option ℤ) (body : ℤ → List Event) (at : Pos) (i : ℤ) → i ≤ℤ pos 2147483647 → goes_by (bound i) i ≡ goes.Stops → turns bound body at (turns_left i) i ≡ Stops at ∷ []
unfolding turns
turn_stops bound body at i h p = rw (fuel i h) (counts_stops (bound i) i at _ p)
