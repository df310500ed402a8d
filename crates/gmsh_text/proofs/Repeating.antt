-- One reading a number of times.
use Rattle.std.proofs.Common.{◌≡◌, ℕ, zero, suc, ◌+◌, ◌<◌, ◌⊎◌, inl, inr, Result, Ok, Err, IsErrAnd, refl, ap, ◌∙◌, arith}
use Rattle.std.proofs.lemmas.Result.{err_from_is_err_and}
use Rattle.op_num.specs.Cut.{Uncut}
use Rattle.gmsh_text.specs.declared.refusal.TextRefusal.{TextRefusal}
use Rattle.gmsh_text.specs.declared.refusal.TextRefusal.TheVariants.{OutOfMemory}
use Rattle.gmsh_text.specs.Parsing.{Parsed, and_then, repeat, IsRead, IsMade, IsGot, IsSeen}

module _ {S : Type 0} (row : S → Uncut → Parsed S) where
  pub done : (n : ℕ) (s : S) (u : Uncut) → n ≡ 0 → repeat row n s u ≡ Ok (s, u)
  unfolding repeat
  done zero s u h = refl
  done (suc n) s u h = absurd (omega arith)

  pub more : (n m : ℕ) (s t : S) (u v : Uncut) → n ≡ m + 1 → row s u ≡ Ok (t, v) → repeat row n s u ≡ repeat row m t v
  unfolding repeat
  more zero m s t u v h k = absurd (omega arith)
  more (suc n) m s t u v h k = let e : n ≡ m = omega arith in ap (λ r. and_then r (repeat row n)) k ∙ ap (λ i. repeat row i t v) e

  pub refused : (n : ℕ) (s : S) (u : Uncut) (e : TextRefusal) → 0 < n → row s u ≡ Err e → repeat row n s u ≡ Err e
  unfolding repeat
  refused zero s u e h k = absurd (omega arith)
  refused (suc n) s u e h k = ap (λ r. and_then r (repeat row n)) k

  -- the row at the front is refused, or memory ran out
  pub stopped : (n : ℕ) (s : S) (u : Uncut) (e : TextRefusal) (p : Parsed S) → p ≡ repeat row n s u → 0 < n
      → ((e ≡ OutOfMemory) ⊎ (row s u ≡ Err e))
      → (e ≡ OutOfMemory) ⊎ (p ≡ Err e)
  stopped n s u e p h l (inl x) = inl x
  stopped n s u e p h l (inr x) = inr (h ∙ refused n s u e l x)

-- a refusal that `?` passes on
pub passed : {A : Type 0} (r : Result A TextRefusal) (e : TextRefusal) (v : Uncut) (p : Parsed A) → IsErrAnd r (λ y. y ≡ e) → p ≡ Err e → IsRead r v p
passed r e v p h f = let k = err_from_is_err_and r h in rw (k.1, k.2) f

-- the same where memory can run out
pub passed_made : {A S : Type 0} (r : Result A TextRefusal) (e : TextRefusal) (s : S) (v : Uncut) (p : Parsed S) → IsErrAnd r (λ y. y ≡ e)
    → ((e ≡ OutOfMemory) ⊎ (p ≡ Err e))
    → IsMade r s v p
passed_made r e s v p h f = let k = err_from_is_err_and r h in rw (k.1, k.2) f

pub passed_got : {A : Type 0} (r : Result A TextRefusal) (e : TextRefusal) (v : Uncut) (p : Parsed A) → IsErrAnd r (λ y. y ≡ e)
    → ((e ≡ OutOfMemory) ⊎ (p ≡ Err e))
    → IsGot r v p
passed_got r e v p h f = let k = err_from_is_err_and r h in rw (k.1, k.2) f

pub passed_seen : {A S : Type 0} (r : Result A TextRefusal) (e : TextRefusal) (view : A → S) (v : Uncut) (p : Parsed S) → IsErrAnd r (λ y. y ≡ e)
    → ((e ≡ OutOfMemory) ⊎ (p ≡ Err e))
    → IsSeen r view v p
passed_seen r e view v p h f = let k = err_from_is_err_and r h in rw (k.1, k.2) f
