-- The colours differ: each is found at its own number.
use Rattle.std.proofs.Common.{◌≡◌, ℕ, zero, suc, ◌+◌, ◌<◌, Bool, true, ◌&&◌, nat_eq, List, take, drop, refl, inl, inr, sym, ap, subst, ◌∙◌, arith, if◌then◌else◌}
use Rattle.std.specs.Str.{bytes_eq}
use Rattle.std.proofs.lemmas.Bool.{and_parts, cases_lt, eqb-true}
use Rattle.mesh_draw.specs.declared.picture.palette.TheConstants.{COLOURS}
use Rattle.mesh_draw.specs.Colours.{colour}

-- how many of the next texts stand before this one
abbrev pub found_in : (texts : ℕ) → List ℕ → List ℕ → ℕ
found_in zero t xs = 0
found_in (suc n) t xs = if bytes_eq (take 7 xs) t then 0 else found_in n t (drop 7 xs) + 1

-- each of the first n colours is found at its number
abbrev pub are_found : ℕ → Bool
are_found zero = true
are_found (suc n) = nat_eq (found_in 64 (colour n) COLOURS.now) n && are_found n

-- all are
pub all_found : are_found 64 ≡ true
unfolding colour
all_found = refl

-- so each below n is
pub is_found : (n a : ℕ) → a < n → are_found n ≡ true → found_in 64 (colour a) COLOURS.now ≡ a
is_found zero a l h = absurd (omega (arith, l))
is_found (suc n) a l h =
    let both : (nat_eq (found_in 64 (colour n) COLOURS.now) n ≡ true) × (are_found n ≡ true) =
    and_parts (nat_eq (found_in 64 (colour n) COLOURS.now) n) (are_found n) h in
    elim (cases_lt a n) [
      | inl below ↦ is_found n a below both.1
      | inr above ↦
          let same : n ≡ a = omega arith in
          subst (λ (k : ℕ). found_in 64 (colour k) COLOURS.now ≡ k) same (eqb-true _ n both.0)
    ]

-- two numbers of one colour are one
pub differ : (a b : ℕ) → a < 64 → b < 64 → colour a ≡ colour b → a ≡ b
differ a b la lb e =
    sym (is_found 64 a la all_found) ∙ ap (λ (t : List ℕ). found_in 64 t COLOURS.now) e ∙ is_found 64 b lb all_found
