-- Files that are held, one after another.
use Rattle.std.proofs.Common.{◌≡◌, ◌≢◌, ℕ, zero, suc, ◌<◌, ◌≤◌, Bool, true, false, List, [], ◌∷◌, ◌++◌, length, map, All, get_or, Option, Some, None, is_some, IsSomeAnd, Bor, take, ◌+◌, refl, sym, ap, subst, ◌∙◌, arith}
use Rattle.std.proofs.lemmas.Slice.Eq.{bytes_eq-Decides}
use Rattle.std.proofs.lemmas.List.Elements.{All-append}
use Rattle.std.proofs.lemmas.List.{get_or-map, take_more, length-map, map-append}
use Rattle.std.proofs.lemmas.List.Quantifiers.{position-Some}
use Rattle.std.specs.List.{position}
use Rattle.std.specs.Str.{bytes_eq}
use Rattle.op_outside.specs.Outside.{Files, Holds}
use Rattle.tool_command.specs.Held.{IsAsFound, AreHeld}

-- a file is held as it is found
abbrev pub IsHeld : Option Files → Files → List ℕ → Type 0
IsHeld told held name = IsSomeAnd (held name) (λ bytes. Holds told name (IsAsFound bytes))

-- one more is held, and under each other name what was
module _ (told : Option Files) (before after : Files) (name bytes : List ℕ) (now : after name ≡ Some bytes)
    (found : Holds told name (IsAsFound bytes)) (others : (other : List ℕ) → other ≢ name → after other ≡ before other) where
  named : IsHeld told after name
  named = subst (λ (o : Option (List ℕ)). IsSomeAnd o (λ v. Holds told name (IsAsFound v))) (sym now) found

  still : (other : List ℕ) → IsHeld told before other → IsHeld told after other
  still other h = by (bytes_eq other name) refl
    where
      by : (b : Bool) → bytes_eq other name ≡ b → IsHeld told after other
      by true e = subst (IsHeld told after) (sym ((bytes_eq-Decides other name).0 e)) named
      by false e =
          let differs : other ≢ name = λ same. (let t : bytes_eq other name ≡ true = (bytes_eq-Decides other name).1 same in let bad : true ≡ false = sym t ∙ e in let f : ⊥ = cc in f) in
          subst (λ (o : Option (List ℕ)). IsSomeAnd o (λ v. Holds told other (IsAsFound v))) (sym (others other differs)) h

  single : All (IsHeld told after) (name ∷ [])
  single zero d lt = named
  single (suc k) d lt = absurd (omega (arith, lt))

  pub held_more : (names : List (List ℕ)) → AreHeld told before names → AreHeld told after (names ++ name ∷ [])
  held_more names h = All-append (IsHeld told after) names (name ∷ []) (λ k d lt. still (get_or names k d) (h k d lt)) single

-- the names of borrowed texts
abbrev pub names_in : List (Bor (List ℕ)) → List (List ℕ)
names_in names = map (λ n. n.now) names

within : (names : List (Bor (List ℕ))) (k : ℕ) → k < length names → k < length (names_in names)
within names k lt = subst (λ n. k < n) (sym (length-map names (λ n. n.now))) lt

one : (P : List ℕ → Type 0) (name : List ℕ) → P name → All P (name ∷ [])
one P name h zero d lt = h
one P name h (suc k) d lt = absurd (omega (arith, lt))

-- a name that stands among others is held as these are
pub held_already : (told : Option Files) (held : Files) (names : List (Bor (List ℕ))) (name : Bor (List ℕ)) (k : ℕ)
    → position (λ other. bytes_eq other.now name.now) names ≡ Some k
    → AreHeld told held (names_in names)
    → AreHeld told held (names_in names ++ name.now ∷ [])
held_already told held names name k e h =
    let at = position-Some (λ other. bytes_eq other.now name.now) names k name e in
    let same : (get_or names k name).now ≡ name.now = (bytes_eq-Decides (get_or names k name).now name.now).0 at.1 in
    let there : IsHeld told held (get_or names k name).now =
    subst (IsHeld told held) (get_or-map (λ n. n.now) names k name [] at.0) (h k [] (within names k at.0)) in
    All-append (IsHeld told held) (names_in names) (name.now ∷ []) h (one (IsHeld told held) name.now (subst (IsHeld told held) same there))

-- the same, by the place that is looked for
pub held_before : (told : Option Files) (held : Files) (names : List (Bor (List ℕ))) (name : Bor (List ℕ)) (r : Option ℕ)
    → r ≡ position (λ other. bytes_eq other.now name.now) names → true ≡ is_some r
    → AreHeld told held (names_in names)
    → AreHeld told held (names_in names ++ name.now ∷ [])
held_before told held names name None e t h = absurd (let f : ⊥ = cc in f)
held_before told held names name (Some k) e t h = held_already told held names name k (sym e) h

-- what is so of all names is so of one
pub at_name : (P : List ℕ → Type 0) (names : List (Bor (List ℕ))) (k : ℕ) (d : Bor (List ℕ)) → k < length names → All P (names_in names) → P (get_or names k d).now
at_name P names k d lt h = subst P (get_or-map (λ n. n.now) names k d [] lt) (h k [] (within names k lt))

-- one name more
pub one_more : (names : List (Bor (List ℕ))) (k : ℕ) (d : Bor (List ℕ)) → k < length names
    → names_in (take k names) ++ (get_or names k d).now ∷ [] ≡ names_in (take (k + 1) names)
one_more names k d lt =
    sym (ap names_in (take_more names k d lt) ∙ map-append (λ n. n.now) (take k names) (get_or names k d ∷ []))
