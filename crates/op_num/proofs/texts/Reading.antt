-- One token after another, for any text format.
use Rattle.std.proofs.Common.{◌≡◌, ℕ, ◌<◌, ◌⊎◌, List, [], ◌∷◌, length, Some, None, Result, Ok, Err, IsErrAnd, refl, sym, ap, ◌∙◌, inl, inr, arith}
use Rattle.std.proofs.lemmas.Result.{err_from_is_err_and}
use Rattle.op_num.specs.Cut.{Word, Uncut, first, behind, first_of}
use Rattle.op_num.specs.Automaton.{after, onto, run, run_from, Leads, IsNext}

pub onto_err : {A B R : Type 0} (r : Result A R) (f : A → B) (e : R) → r ≡ Err e → onto r f ≡ Err e
onto_err r f e h = ap (λ x. onto x f) h

pub onto_ok : {A B R : Type 0} (r : Result A R) (f : A → B) (x : A) → r ≡ Ok x → onto r f ≡ Ok (f x)
onto_ok r f x h = ap (λ y. onto y f) h

pub onto_is : {A B R : Type 0} (r : Result A R) (f : A → B) (y : B) → onto r f ≡ Ok y → (x : A) × (r ≡ Ok x) × (f x ≡ y)
onto_is (Ok x) f y h = (x, refl, cc)
onto_is (Err e) f y h = cc

words-fewer : (last : ℕ) (ws : List Word) (w : Word) → first ws ≡ Some w → length (behind last ws).words < length ws
words-fewer last [] w h = cc
words-fewer last (x ∷ ws) w h = omega arith

-- fewer tokens are left
pub fewer : (u v : Uncut) (w : Word) → IsNext u v w → length v.words < length u.words
fewer u v w n = let h = words-fewer u.last u.words w n.first in omega (arith, ap (λ x. length x.words) n.rest)

module _ {S R V : Type 0} (step : S → Word → Result S R) (finish : S → ℕ → Result V R) where
  run-step : (s : S) (last : ℕ) (ws : List Word) (w : Word) → first ws ≡ Some w → run step finish s last ws ≡ after (step s w) (λ q. run_from step finish q (behind last ws))
  unfolding run
  run-step s last [] w h = cc
  run-step s last (x ∷ ws) w h = let e : x ≡ w = cc in ap (λ y. after (step s y) (λ q. run step finish q x.line ws)) e

  run-none : (s : S) (last : ℕ) (ws : List Word) → first ws ≡ None → run step finish s last ws ≡ finish s last
  unfolding run
  run-none s last [] h = refl
  run-none s last (x ∷ ws) h = cc

  run_on : (s : S) (u v : Uncut) (w : Word) → IsNext u v w → run_from step finish s u ≡ after (step s w) (λ q. run_from step finish q v)
  run_on s u v w n = run-step s u.last u.words w n.first ∙ ap (λ x. after (step s w) (λ q. run_from step finish q x)) (sym n.rest)

  -- behind a token that may stand there
  pub run_token : (s q : S) (u v : Uncut) (w : Word) → IsNext u v w → step s w ≡ Ok q → run_from step finish s u ≡ run_from step finish q v
  run_token s q u v w n h = run_on s u v w n ∙ ap (λ r. after r (λ x. run_from step finish x v)) h

  -- at a token that may not stand there
  pub run_refused : (s : S) (u v : Uncut) (w : Word) (e : R) → IsNext u v w → step s w ≡ Err e → run_from step finish s u ≡ Err e
  run_refused s u v w e n h = run_on s u v w n ∙ ap (λ r. after r (λ x. run_from step finish x v)) h

  -- at the end
  pub run_end : (s : S) (u : Uncut) (r : Result V R) → first_of u ≡ None → finish s u.last ≡ r → run_from step finish s u ≡ r
  run_end s u r n h = run-none s u.last u.words n ∙ h

  -- behind a token that gives a value
  pub run_onto : {A : Type 0} (s : S) (u v : Uncut) (w : Word) (x : A) (r : Result A R) (f : A → S) → IsNext u v w → step s w ≡ onto r f
      → r ≡ Ok x → run_from step finish s u ≡ run_from step finish (f x) v
  run_onto s u v w x r f n h k = run_token s (f x) u v w n (h ∙ onto_ok r f x k)

  module _ (lost : R) where
    -- a refusal that `?` passes on
    pub passes_on : {X : Type 0} (s : S) (u v : Uncut) (q : X → S) (r : Result X R) (e : R) → IsErrAnd r (λ y. y ≡ e)
        → ((e ≡ lost) ⊎ (run_from step finish s u ≡ Err e)) → Leads step finish lost s u r q v
    passes_on s u v q r e h f = let k = err_from_is_err_and r h in rw (k.1, k.2) f

    -- want of memory, or a refusal further on
    pub further : (s q : S) (u v : Uncut) (e : R) → run_from step finish s u ≡ run_from step finish q v
        → ((e ≡ lost) ⊎ (run_from step finish q v ≡ Err e)) → (e ≡ lost) ⊎ (run_from step finish s u ≡ Err e)
    further s q u v e h (inl m) = inl m
    further s q u v e h (inr k) = inr (h ∙ k)

    -- want of memory, or a refusal at a token
    pub or_refused : {A : Type 0} (s : S) (u v : Uncut) (w : Word) (e : R) (r : Result A R) (f : A → S) → IsNext u v w → step s w ≡ onto r f
        → ((e ≡ lost) ⊎ (r ≡ Err e)) → (e ≡ lost) ⊎ (run_from step finish s u ≡ Err e)
    or_refused s u v w e r f n h (inl m) = inl m
    or_refused s u v w e r f n h (inr k) = inr (run_refused s u v w e n (h ∙ onto_err r f e k))
