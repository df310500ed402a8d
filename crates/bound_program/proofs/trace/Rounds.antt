-- A `for` under way: what is to be done behind the turns so far.
use Rattle.std.proofs.Common.{◌≡◌, suc, ℤ, pos, ◌+ℤ◌, ◌≤ℤ◌, List, ◌++◌, Option, Err, refl, sym, ap, ◌∙◌}
use Rattle.c_tree.specs.declared.lexer.tokens.Pos.{Pos}
use Rattle.bound_program.specs.declared.refusals.refusals.BindRefusal.TheVariants.{ControlNotStatic, TraceTooLong}
use Rattle.bound_program.specs.declared.trace.steps.Unrolled.{Unrolled}
use Rattle.bound_program.specs.declared.trace.unroll.Goes.TheVariants as goes
use Rattle.bound_program.specs.Trace.{Event, turns, turns_left}
use Rattle.bound_program.specs.Limited.{before, unrolled}
use Rattle.bound_program.specs.Unrolling.{seen, goes_by}
use Rattle.bound_program.proofs.trace.Leaves.{Becomes}
use Rattle.bound_program.proofs.trace.Turns.{turn_goes, turn_ends, turn_stops}

module _ (u v : Unrolled) (whole : List Event) (bound : ℤ → Option ℤ) (body : ℤ → List Event) (at : Pos) (i : ℤ)
    (h : Becomes u whole v (turns bound body at (turns_left i) i)) (low : i ≤ℤ pos 2147483647) where
  pub stopped : goes_by (bound i) i ≡ goes.Stops → (rest : List Event) → before (seen u) (unrolled u.left (whole ++ rest)) ≡ Err (ControlNotStatic at)
  stopped p rest = h rest ∙ ap (λ es. before (seen v) (unrolled v.left (es ++ rest))) (turn_stops bound body at i low p)

  pub ended : goes_by (bound i) i ≡ goes.Ends → (rest : List Event) → before (seen u) (unrolled u.left (whole ++ rest)) ≡ before (seen v) (unrolled v.left rest)
  ended p rest = h rest ∙ ap (λ es. before (seen v) (unrolled v.left (es ++ rest))) (turn_ends bound body at i low p)

  pub full : goes_by (bound i) i ≡ goes.On → v.left ≡ 0 → (rest : List Event) → before (seen u) (unrolled u.left (whole ++ rest)) ≡ Err TraceTooLong
  full p z rest = h rest ∙ ap (λ es. before (seen v) (unrolled v.left (es ++ rest))) (turn_goes bound body at i low p) ∙ rw z refl

  pub goes_on : goes_by (bound i) i ≡ goes.On → (w : Unrolled) → v.left ≡ suc w.left → seen w ≡ seen v → Becomes u whole w (body i ++ turns bound body at (turns_left (i +ℤ pos 1)) (i +ℤ pos 1))
  goes_on p w z e rest =
      h rest ∙ ap (λ es. before (seen v) (unrolled v.left (es ++ rest))) (turn_goes bound body at i low p)
      ∙ rw z (ap (λ s. before s (unrolled w.left ((body i ++ turns bound body at (turns_left (i +ℤ pos 1)) (i +ℤ pos 1)) ++ rest))) (sym e))
