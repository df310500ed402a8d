-- The bytes of texts.
use Rattle.std.proofs.Common.{◌≡◌, ◌≢◌, ℕ, ◌≤◌, Bool, true, false, ◌&&◌, ◌||◌, cond, List, [], ◌∷◌, ◌++◌, length, take, drop, Option, Some, None, refl, sym, ap, subst, ◌∙◌, arith, nat_eq, nat_le, not, append_assoc, take-append-drop}
use Rattle.std.specs.List.{list_all}
use Rattle.std.proofs.lemmas.Bool.{eqb-true, and_parts}
use Rattle.std.proofs.lemmas.Bool.Decides.{nat_tests}
use Rattle.c_tree.specs.Spelling.{textual, escaped, all_escaped}
use Rattle.c_tree.specs.Lexed.{is_closed}
use Rattle.c_tree.specs.Front.{plain, escape_of, unit_of}
use Rattle.std.proofs.lemmas.List.{append_cancel_left}

-- a byte is spelled by one of the four escapes, or by itself
pub escaped_cases : (P : ℕ → List ℕ → Type 0) → P 10 (92 ∷ 110 ∷ []) → P 9 (92 ∷ 116 ∷ []) → P 92 (92 ∷ 92 ∷ []) → P 34 (92 ∷ 34 ∷ [])
    → ((c : ℕ) → nat_eq c 10 ≡ false → nat_eq c 9 ≡ false → nat_eq c 92 ≡ false → nat_eq c 34 ≡ false → P c (c ∷ [])) → (c : ℕ)
    → P c (escaped c)
escaped_cases P n t b q o c =
    by_tests (nat_eq c 10) refl (nat_eq c 9) refl (nat_eq c 92) refl (nat_eq c 34) refl
  where
    by_tests : (u : Bool) → nat_eq c 10 ≡ u → (v : Bool) → nat_eq c 9 ≡ v → (w : Bool) → nat_eq c 92 ≡ w → (x : Bool) → nat_eq c 34 ≡ x
        → P c (cond u (92 ∷ 110 ∷ []) (cond v (92 ∷ 116 ∷ []) (cond w (92 ∷ 92 ∷ []) (cond x (92 ∷ 34 ∷ []) (c ∷ [])))))
    by_tests true e v f w g x h = subst (λ z. P z (92 ∷ 110 ∷ [])) (sym (eqb-true c 10 e)) n
    by_tests false e true f w g x h = subst (λ z. P z (92 ∷ 116 ∷ [])) (sym (eqb-true c 9 f)) t
    by_tests false e false f true g x h = subst (λ z. P z (92 ∷ 92 ∷ [])) (sym (eqb-true c 92 g)) b
    by_tests false e false f false g true h = subst (λ z. P z (92 ∷ 34 ∷ [])) (sym (eqb-true c 34 h)) q
    by_tests false e false f false g false h = o c e f g h

textual_plain : (c : ℕ) → textual c ≡ true → nat_eq c 10 ≡ false → nat_eq c 9 ≡ false → nat_eq c 92 ≡ false → nat_eq c 34 ≡ false → plain c ≡ true
textual_plain c t e f g h = by_tests (nat_eq c 10) e (nat_eq c 9) f (nat_le 32 c) (nat_eq c 127) t
  where
    by_tests : (u : Bool) → u ≡ false → (v : Bool) → v ≡ false → (w x : Bool) → (u || v || (w && not x)) ≡ true → (w && not x && not (nat_eq c 34) && not (nat_eq c 92)) ≡ true
    by_tests true e v f w x t = cc
    by_tests false e true f w x t = cc
    by_tests false e false f true true t = cc
    by_tests false e false f true false t = rw (g, h) refl
    by_tests false e false f false x t = cc

-- the front of a byte's spelling is that byte
pub unit_escaped : (c : ℕ) (more : List ℕ) → textual c ≡ true → unit_of (escaped c ++ more) ≡ Some (c, length (escaped c))
unit_escaped c more =
    escaped_cases (λ c s. textual c ≡ true → unit_of (s ++ more) ≡ Some (c, length s)) (λ t. refl) (λ t. refl) (λ t. refl) (λ t. refl) (λ c e f g h t. rw (textual_plain c t e f g h, g) refl) c

plain_textual : (c : ℕ) → plain c ≡ true → (textual c ≡ true) × (escaped c ≡ c ∷ [])
plain_textual c h =
    let big : 32 ≤ c = grind (arith, nat_tests) in
    by_tests (nat_eq c 10) refl (nat_eq c 9) refl (nat_eq c 92) refl (nat_eq c 34) refl (nat_le 32 c) refl (nat_eq c 127) refl h
  where
    by_tests : (u : Bool) → nat_eq c 10 ≡ u → (v : Bool) → nat_eq c 9 ≡ v → (w : Bool) → nat_eq c 92 ≡ w → (x : Bool) → nat_eq c 34 ≡ x
        → (y : Bool) → nat_le 32 c ≡ y → (z : Bool) → nat_eq c 127 ≡ z → (y && not z && not x && not w) ≡ true
        → ((u || v || (y && not z)) ≡ true) ×
        (cond u (92 ∷ 110 ∷ []) (cond v (92 ∷ 116 ∷ []) (cond w (92 ∷ 92 ∷ []) (cond x (92 ∷ 34 ∷ []) (c ∷ [])))) ≡ c ∷ [])
    by_tests true e v f w g x i y j z k t = absurd (small (eqb-true c 10 e) y j t)
      where
        small : c ≡ 10 → (y : Bool) → nat_le 32 c ≡ y → (y && not z && not x && not w) ≡ true → ⊥
        small q true j t = let r : nat_le 32 10 ≡ true = subst (λ m. nat_le 32 m ≡ true) q j in cc
        small q false j t = cc
    by_tests false e true f w g x i y j z k t = absurd (small (eqb-true c 9 f) y j t)
      where
        small : c ≡ 9 → (y : Bool) → nat_le 32 c ≡ y → (y && not z && not x && not w) ≡ true → ⊥
        small q true j t = let r : nat_le 32 9 ≡ true = subst (λ m. nat_le 32 m ≡ true) q j in cc
        small q false j t = cc
    by_tests false e false f true g x i true j true k t = cc
    by_tests false e false f true g true i true j false k t = cc
    by_tests false e false f true g false i true j false k t = cc
    by_tests false e false f true g x i false j z k t = cc
    by_tests false e false f false g true i true j true k t = cc
    by_tests false e false f false g true i true j false k t = cc
    by_tests false e false f false g true i false j z k t = cc
    by_tests false e false f false g false i true j true k t = cc
    by_tests false e false f false g false i true j false k t = (refl, refl)
    by_tests false e false f false g false i false j z k t = cc

-- what is found at the front of a text's bytes is the spelling of a byte
pub record IsUnit (bs : List ℕ) (u : ℕ × ℕ) : Type 0 where
  pub held : textual u.0 ≡ true
  pub spelled : take u.1 bs ≡ escaped u.0

is_unit : (bs : List ℕ) (c l : ℕ) (u : ℕ × ℕ) → textual c ≡ true → take l bs ≡ escaped c → ◌≡◌ {A = Option (ℕ × ℕ)} (Some (c, l)) (Some u) → IsUnit bs u
is_unit bs c l u h s e =
    let same : (c, l) ≡ u = cc in subst (IsUnit bs) same (record { held = h; spelled = s })

escape_is : (bs : List ℕ) (u : ℕ × ℕ) → escape_of bs ≡ Some u → IsUnit (92 ∷ bs) u
escape_is [] u h = cc
escape_is (b ∷ bs) u h = by_tests (nat_eq b 110) refl (nat_eq b 116) refl (nat_eq b 92) refl (nat_eq b 34) refl h
  where
    by_tests : (v : Bool) → nat_eq b 110 ≡ v → (w : Bool) → nat_eq b 116 ≡ w → (x : Bool) → nat_eq b 92 ≡ x → (y : Bool) → nat_eq b 34 ≡ y
        → cond v (Some (10, 2)) (cond w (Some (9, 2)) (cond x (Some (92, 2)) (cond y (Some (34, 2)) None))) ≡ Some u
        → IsUnit (92 ∷ b ∷ bs) u
    by_tests true e w f x g y i h = is_unit (92 ∷ b ∷ bs) 10 2 u refl (rw (eqb-true b 110 e) refl) h
    by_tests false e true f x g y i h = is_unit (92 ∷ b ∷ bs) 9 2 u refl (rw (eqb-true b 116 f) refl) h
    by_tests false e false f true g y i h = is_unit (92 ∷ b ∷ bs) 92 2 u refl (rw (eqb-true b 92 g) refl) h
    by_tests false e false f false g true i h = is_unit (92 ∷ b ∷ bs) 34 2 u refl (rw (eqb-true b 34 i) refl) h
    by_tests false e false f false g false i h = cc

pub unit_is : (bs : List ℕ) (u : ℕ × ℕ) → unit_of bs ≡ Some u → IsUnit bs u
unit_is [] u h = cc
unit_is (b ∷ bs) u h = by_tests (nat_eq b 92) refl (plain b) refl h
  where
    by_tests : (v : Bool) → nat_eq b 92 ≡ v → (w : Bool) → plain b ≡ w → cond v (escape_of bs) (cond w (Some (b, 1)) None) ≡ Some u → IsUnit (b ∷ bs) u
    by_tests true e w f h = subst (λ z. IsUnit (z ∷ bs) u) (sym (eqb-true b 92 e)) (escape_is bs u h)
    by_tests false e true f h =
        let r = plain_textual b f in is_unit (b ∷ bs) b 1 u r.0 (sym r.1) h
    by_tests false e false f h = cc

-- where none is found, no byte's spelling stands
pub no_unit : (bs : List ℕ) → unit_of bs ≡ None → (c : ℕ) (more : List ℕ) → textual c ≡ true → bs ≢ escaped c ++ more
no_unit bs h c more t e =
    let found : unit_of bs ≡ Some (c, length (escaped c)) = ap unit_of e ∙ unit_escaped c more t in cc

pub unit_none : (bs : List ℕ) → ((c : ℕ) (more : List ℕ) → textual c ≡ true → bs ≢ escaped c ++ more) → unit_of bs ≡ None
unit_none bs h = by_unit (unit_of bs) refl
  where
    by_unit : (o : Option (ℕ × ℕ)) → unit_of bs ≡ o → o ≡ None
    by_unit None e = refl
    by_unit (Some u) e =
        let r = unit_is bs u e in
        absurd (h u.0 (drop u.1 bs) r.held (sym (take-append-drop u.1 bs) ∙ ap (λ z. z ++ drop u.1 bs) r.spelled))

pub all_escaped-append : (t u : List ℕ) → all_escaped (t ++ u) ≡ all_escaped t ++ all_escaped u
all_escaped-append [] u = refl
all_escaped-append (c ∷ t) u =
    ap (λ z. escaped c ++ z) (all_escaped-append t u) ∙ sym (append_assoc (escaped c) (all_escaped t) (all_escaped u))

pub nil_right : (xs : List ℕ) → xs ++ [] ≡ xs
nil_right [] = refl
nil_right (x ∷ xs) = ap (λ z. x ∷ z) (nil_right xs)

pub all_escaped-push : (t : List ℕ) (c : ℕ) → all_escaped (t ++ c ∷ []) ≡ all_escaped t ++ escaped c
all_escaped-push t c = all_escaped-append t (c ∷ []) ∙ ap (λ z. all_escaped t ++ z) (nil_right (escaped c))

pub list_all-push : (p : ℕ → Bool) (t : List ℕ) (c : ℕ) → list_all p t ≡ true → p c ≡ true → list_all p (t ++ c ∷ []) ≡ true
list_all-push p [] c h g = rw g refl
list_all-push p (x ∷ t) c h g = let r = and_parts (p x) (list_all p t) h in rw r.0 (list_all-push p t c r.1 g)

some_pair : (a b c d : ℕ) → ◌≡◌ {A = Option (ℕ × ℕ)} (Some (a, b)) (Some (c, d)) → a ≡ c
some_pair a b c d h = let e : ◌≡◌ {A = ℕ × ℕ} (a, b) (c, d) = cc in ap (λ p. p.0) e

-- rows of bytes' spellings that go no further are the same
pub units_one : (t u r q : List ℕ) → list_all textual t ≡ true → list_all textual u ≡ true → unit_of r ≡ None → unit_of q ≡ None → all_escaped t ++ r ≡ all_escaped u ++ q → (t ≡ u) × (r ≡ q)
units_one [] [] r q a b n m h = (refl, h)
units_one [] (d ∷ u) r q a b n m h =
    let g = and_parts (textual d) (list_all textual u) b in
    absurd (no_unit r n d (all_escaped u ++ q) g.0 (h ∙ append_assoc (escaped d) (all_escaped u) q))
units_one (c ∷ t) [] r q a b n m h =
    let g = and_parts (textual c) (list_all textual t) a in
    absurd (no_unit q m c (all_escaped t ++ r) g.0 (sym h ∙ append_assoc (escaped c) (all_escaped t) r))
units_one (c ∷ t) (d ∷ u) r q a b n m h =
    let f = and_parts (textual c) (list_all textual t) a in
    let g = and_parts (textual d) (list_all textual u) b in
    let left : escaped c ++ (all_escaped t ++ r) ≡ escaped d ++ (all_escaped u ++ q) = sym (append_assoc (escaped c) (all_escaped t) r) ∙ h ∙ append_assoc (escaped d) (all_escaped u) q in
    let units = sym (unit_escaped c (all_escaped t ++ r) f.0) ∙ ap unit_of left ∙ unit_escaped d (all_escaped u ++ q) g.0 in
    let same = some_pair c (length (escaped c)) d (length (escaped d)) units in
    let more = units_one t u r q f.1 g.1 n m
    (append_cancel_left (escaped d) (all_escaped t ++ r) (all_escaped u ++ q)
    (subst (λ z. escaped z ++ (all_escaped t ++ r) ≡ escaped d ++ (all_escaped u ++ q)) same left)) in
    (ap (λ z. z ∷ t) same ∙ ap (λ z. d ∷ z) more.0, more.1)

-- whether a text is closed shows behind its bytes
closed_unit : (c : ℕ) (more : List ℕ) → is_closed (escaped c ++ more) ≡ is_closed more
closed_unit c more =
    escaped_cases (λ c s. is_closed (s ++ more) ≡ is_closed more) refl refl refl refl (λ c e f g h. rw (h, e, g) refl) c

pub closed_through : (t more : List ℕ) → is_closed (all_escaped t ++ more) ≡ is_closed more
closed_through [] more = refl
closed_through (c ∷ t) more =
    ap is_closed (append_assoc (escaped c) (all_escaped t) more) ∙ closed_unit c (all_escaped t ++ more) ∙ closed_through t more
