-- Targets that are gathered, but one and those that are marked.
use Rattle.std.proofs.Common.{◌≡◌, ◌≢◌, ◌⊎◌, ℕ, ◌+◌, Bool, true, false, nat_eq, List, [], ◌∷◌, ◌++◌, get_or, sym, ◌∙◌, arith, inl, inr, ⊎_elim, subst}
use Rattle.std.specs.List.{Contains}
use Rattle.std.proofs.lemmas.Bool.{cases_eq, eq-eqb, eqb-true}
use Rattle.std.proofs.lemmas.List.Elements.{Contains-append_left, Contains-push, Contains-push_cases}
use Rattle.lemmas.specs.Below.{any_below}
use Rattle.lemmas.proofs.Below.{any_from, any_witness}
use Rattle.lemmas.proofs.Truth.{not_both}

-- what stands in a list stood in the old one, or is a target at one of the first n places but x
abbrev pub AreNew : (ℕ → ℕ) → ℕ → ℕ → List ℕ → List ℕ → Type 0
AreNew p n x old found = (y : ℕ) → Contains found y → Contains old y ⊎ ((any_below n (λ i. nat_eq (p i) y) ≡ true) × (y ≢ x))

-- the targets at the first n places stand in a list, but x and those that are marked
abbrev pub HasTargets : (ℕ → ℕ) → ℕ → ℕ → List Bool → List ℕ → Type 0
HasTargets p n x seen found = (y : ℕ) → any_below n (λ i. nat_eq (p i) y) ≡ true → y ≢ x → get_or seen y false ≡ false → Contains found y

any_kept : (n : ℕ) (q : ℕ → Bool) → any_below n q ≡ true → any_below (n + 1) q ≡ true
any_kept n q t = let w = any_witness n q t in any_from (n + 1) q w.0 (omega (arith, w.1)) w.2

any_here : (p : ℕ → ℕ) (n t y : ℕ) → t ≡ p n → t ≡ y → any_below (n + 1) (λ i. nat_eq (p i) y) ≡ true
any_here p n t y e q = any_from (n + 1) (λ i. nat_eq (p i) y) n (omega arith) (eq-eqb (p n) y (sym e ∙ q))

any_split : (p : ℕ → ℕ) (n y : ℕ) → any_below (n + 1) (λ i. nat_eq (p i) y) ≡ true → (any_below n (λ i. nat_eq (p i) y) ≡ true) ⊎ (p n ≡ y)
any_split p n y t =
    let w = any_witness (n + 1) (λ i. nat_eq (p i) y) t in
    ⊎_elim
    (λ (e : w.0 ≡ n). inr (eqb-true (p n) y (subst (λ z. nat_eq (p z) y ≡ true) e w.2)))
    (λ (e : w.0 ≡ n → ⊥). inl (any_from n (λ i. nat_eq (p i) y) w.0 (omega (arith, w.1, e)) w.2))
    (cases_eq w.0 n)

-- one more place whose target isn't gathered
pub new_more : (p : ℕ → ℕ) (n x : ℕ) (old found : List ℕ) → AreNew p n x old found → AreNew p (n + 1) x old found
new_more p n x old found h y o = ⊎_elim
    (λ (l : Contains old y). inl l)
    (λ (r : (any_below n (λ i. nat_eq (p i) y) ≡ true) × (y ≢ x)). inr (any_kept n (λ i. nat_eq (p i) y) r.0, r.1))
    (h y o)

pub has_more : (p : ℕ → ℕ) (n x t : ℕ) (seen : List Bool) (found : List ℕ) → t ≡ p n → (t ≡ x) ⊎ (get_or seen t false ≡ true) → HasTargets p n x seen found → HasTargets p (n + 1) x seen found
has_more p n x t seen found e m h y a d f = ⊎_elim
    (λ (b : any_below n (λ i. nat_eq (p i) y) ≡ true). h y b d f)
    (λ (q : p n ≡ y). absurd (⊎_elim
    (λ (s : t ≡ x). d (sym (e ∙ q) ∙ s))
    (λ (s : get_or seen t false ≡ true). not_both (get_or seen y false) (subst (λ z. get_or seen z false ≡ true) (e ∙ q) s) f)
    m))
    (any_split p n y a)

-- one more place whose target is gathered
pub new_push : (p : ℕ → ℕ) (n x t : ℕ) (old found : List ℕ) → t ≡ p n → t ≢ x → AreNew p n x old found → AreNew p (n + 1) x old (found ++ t ∷ [])
new_push p n x t old found e d h y k = ⊎_elim
    (λ (o : Contains found y). new_more p n x old found h y o)
    (λ (q : t ≡ y). inr (any_here p n t y e q, λ s. d (q ∙ s)))
    (Contains-push_cases found t y k)

pub has_push : (p : ℕ → ℕ) (n x t : ℕ) (seen : List Bool) (found : List ℕ) → t ≡ p n → HasTargets p n x seen found → HasTargets p (n + 1) x seen (found ++ t ∷ [])
has_push p n x t seen found e h y a d f = ⊎_elim
    (λ (b : any_below n (λ i. nat_eq (p i) y) ≡ true). Contains-append_left found (t ∷ []) y (h y b d f))
    (λ (q : p n ≡ y). subst (λ z. Contains (found ++ t ∷ []) z) (e ∙ q) (Contains-push found t))
    (any_split p n y a)
