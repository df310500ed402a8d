-- The names that the walk knows are those of the text, and what can be assigned is a variable there.
use Rattle.std.proofs.Common.{◌≡◌, ℕ, zero, suc, List, [], ◌∷◌, ◌++◌, length, take, Bool, true, false, refl, ap, subst}
use Rattle.std.specs.Prelude.{Option, Some, None, is_some, bytes_eq, if◌then◌else◌}
use Rattle.main_declarations.specs.declared.names.scopes.Meaning.{Meaning}
use Rattle.main_declarations.specs.Names.{Names, named_in, or_else, known}
use Rattle.loop_bind.specs.Assigned.{Known, found, knows, CanBeAssigned}
use Rattle.loop_bind.proofs.FitsTargets.{IsVariable}

-- what can be assigned is a variable
abbrev pub Kind : Bool → Meaning → Type 0
Kind true o = IsVariable (Some o)
Kind false o = Unit {0}

-- the same names in the same order
abbrev pub Same : Known → Names → Type 0
Same [] [] = Unit {0}
Same [] (b ∷ bs) = ⊥
Same (a ∷ as_) [] = ⊥
Same (a ∷ as_) (b ∷ bs) = (a.0 ≡ b.0) × Kind a.1 b.1 × Same as_ bs

abbrev pub Both : Option Bool → Option Meaning → Type 0
Both None None = Unit {0}
Both None (Some o) = ⊥
Both (Some b) None = ⊥
Both (Some b) (Some o) = Kind b o

pub same_found : (x : List ℕ) (as_ : Known) (bs : Names) → Same as_ bs → Both (found as_ x) (named_in bs x)
same_found x [] [] h = tt
same_found x [] (b ∷ bs) h = absurd h
same_found x (a ∷ as_) [] h = absurd h
same_found x (a ∷ as_) (b ∷ bs) h =
    subst (λ y. Both (if bytes_eq x a.0 then Some a.1 else found as_ x) (if bytes_eq x y then Some b.1 else named_in bs x)) h.0 (pick (bytes_eq x a.0) (same_found x as_ bs h.2))
  where
    pick : (q : Bool) → Both (found as_ x) (named_in bs x) → Both (if q then Some a.1 else found as_ x) (if q then Some b.1 else named_in bs x)
    pick true r = h.1
    pick false r = r

same_push : (as_ : Known) (bs : Names) (x : List ℕ) (k : Bool) (o : Meaning) → Kind k o → Same as_ bs → Same (as_ ++ (x, k) ∷ []) (bs ++ (x, o) ∷ [])
same_push [] [] x k o i h = (refl, i, tt)
same_push [] (b ∷ bs) x k o i h = absurd h
same_push (a ∷ as_) [] x k o i h = absurd h
same_push (a ∷ as_) (b ∷ bs) x k o i h = (h.0, h.1, same_push as_ bs x k o i h.2)

pub same_known : (as_ : Known) (bs : Names) (x : List ℕ) (k : Bool) (o : Meaning) → Kind k o → Same as_ bs → Same (knows x k as_) (known x o bs)
same_known as_ bs x k o i h = pick (found as_ x) (named_in bs x) (same_found x as_ bs h)
  where
    pick : (p : Option Bool) (q : Option Meaning) → Both p q → Same (if is_some p then as_ else as_ ++ (x, k) ∷ []) (if is_some q then bs else bs ++ (x, o) ∷ [])
    pick None None b = same_push as_ bs x k o i h
    pick None (Some q) b = absurd b
    pick (Some p) None b = absurd b
    pick (Some p) (Some q) b = h

pub same_length : (as_ : Known) (bs : Names) → Same as_ bs → length as_ ≡ length bs
same_length [] [] h = refl
same_length [] (b ∷ bs) h = absurd h
same_length (a ∷ as_) [] h = absurd h
same_length (a ∷ as_) (b ∷ bs) h = ap suc (same_length as_ bs h.2)

pub same_take : (n : ℕ) (as_ : Known) (bs : Names) → Same as_ bs → Same (take n as_) (take n bs)
same_take zero as_ bs h = tt
same_take (suc n) [] [] h = tt
same_take (suc n) [] (b ∷ bs) h = absurd h
same_take (suc n) (a ∷ as_) [] h = absurd h
same_take (suc n) (a ∷ as_) (b ∷ bs) h = (h.0, h.1, same_take n as_ bs h.2)

-- what can be assigned means a variable
pub assigned_is : (p q : Option Bool) (a b : Option Meaning) → Both p a → Both q b → CanBeAssigned p q → IsVariable (or_else a b)
assigned_is (Some true) q (Some o) b h i c = h
assigned_is (Some true) q None b h i c = absurd h
assigned_is (Some false) q a b h i c = absurd c
assigned_is None (Some true) None (Some o) h i c = i
assigned_is None (Some true) None None h i c = absurd i
assigned_is None (Some true) (Some o) b h i c = absurd h
assigned_is None (Some false) a b h i c = absurd c
assigned_is None None a b h i c = absurd c
