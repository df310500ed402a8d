-- The plans of loops by number.
use Rattle.std.proofs.Common.{◌≡◌, ℕ, zero, suc, ◌<◌, ⊎_elim, refl, sym, ap, subst, ◌∙◌, arith, List, [], ◌∷◌, ◌++◌, append-nil, map, cond, Bool, true, false, nat_eq}
use Rattle.std.specs.Prelude.{◌||◌, Some}
use Rattle.std.specs.Map.{lookup}
use Rattle.std.specs.List.{list_any, flat_map}
use Rattle.std.proofs.lemmas.Bool.{cases_eq, eq-eqb, ne_eqb, false≢true, or_parts}
use Rattle.lemmas.specs.Below.{listed}
use Rattle.loop_plan.specs.Values.{SitePlanValue, PlanValue, site_plan, or_none}
use Rattle.loop_plan.proofs.Public.{not_listed}

-- ---- numbers

-- no number stands twice
abbrev pub Apart : List ℕ → Type 0
Apart [] = Unit {0}
Apart (k ∷ ks) = (list_any (nat_eq k) ks ≡ false) × Apart ks

turned : (x y : ℕ) → nat_eq x y ≡ false → nat_eq y x ≡ false
turned x y h = ne_eqb y x (λ e. false≢true (sym h ∙ eq-eqb x y (sym e)))

none_push : (k n : ℕ) (ks : List ℕ) → list_any (nat_eq k) ks ≡ false → nat_eq k n ≡ false → list_any (nat_eq k) (ks ++ n ∷ []) ≡ false
none_push k n [] h e = ap (λ z. z || false) e
none_push k n (x ∷ xs) h e =
    let o = or_parts (nat_eq k x) (list_any (nat_eq k) xs) h in
    ap (λ z. z || list_any (nat_eq k) (xs ++ n ∷ [])) o.0 ∙ none_push k n xs o.1 e

apart_push : (n : ℕ) (ks : List ℕ) → Apart ks → list_any (nat_eq n) ks ≡ false → Apart (ks ++ n ∷ [])
apart_push n [] h e = (refl, tt)
apart_push n (k ∷ ks) h e =
    let o = or_parts (nat_eq n k) (list_any (nat_eq n) ks) e in
    (none_push k n ks h.0 (turned n k o.0), apart_push n ks h.1 o.1)

pub listed_apart : (n : ℕ) (t : ℕ → Bool) → Apart (listed n t)
listed_apart zero t = tt
listed_apart (suc n) t = by_test (listed_apart n t) (t n)
  where
    by_test : Apart (listed n t) → (b : Bool) → Apart (listed n t ++ cond b (n ∷ []) [])
    by_test before true = apart_push n (listed n t) before (not_listed n n t (omega arith))
    by_test before false = subst Apart (sym (append-nil (listed n t))) before

-- what holds of each number below n that passes holds of those that are listed
abbrev pub Each : (ℕ → Type 0) → List ℕ → Type 0
Each P [] = Unit {0}
Each P (k ∷ ks) = P k × Each P ks

each_push : (P : ℕ → Type 0) (n : ℕ) (ks : List ℕ) → Each P ks → P n → Each P (ks ++ n ∷ [])
each_push P n [] h p = (p, tt)
each_push P n (k ∷ ks) h p = (h.0, each_push P n ks h.1 p)

pub each_listed : (P : ℕ → Type 0) (n : ℕ) (t : ℕ → Bool) → ((k : ℕ) → k < n → t k ≡ true → P k) → Each P (listed n t)
each_listed P zero t h = tt
each_listed P (suc n) t h = by_test (each_listed P n t (λ k l e. h k (omega arith) e)) (t n) refl
  where
    by_test : Each P (listed n t) → (b : Bool) → t n ≡ b → Each P (listed n t ++ cond b (n ∷ []) [])
    by_test before true e = each_push P n (listed n t) before (h n (omega arith) e)
    by_test before false e = subst (Each P) (sym (append-nil (listed n t))) before

each_split : (P : ℕ → Type 0) (xs ys : List ℕ) → Each P (xs ++ ys) → Each P xs × Each P ys
each_split P [] ys h = (tt, h)
each_split P (x ∷ xs) ys h = let o = each_split P xs ys h.1 in ((h.0, o.0), o.1)

pub each_at : (P : ℕ → Type 0) (n : ℕ) (t : ℕ → Bool) → Each P (listed n t) → (k : ℕ) → k < n → t k ≡ true → P k
each_at P zero t h k l e = absurd (omega arith)
each_at P (suc n) t h k l e =
    let o = each_split P (listed n t) (cond (t n) (n ∷ []) []) h in
    ⊎_elim
    (λ (q : k ≡ n).
    let one : Each P (n ∷ []) = subst (λ z. Each P (cond z (n ∷ []) [])) (subst (λ z. t z ≡ true) q e) o.1 in
    subst P (sym q) one.0)
    (λ (ne : k ≡ n → ⊥). each_at P n t o.0 k (omega arith) e)
    (cases_eq k n)

-- ---- entries

abbrev Entries : Type 0
Entries = List (ℕ × SitePlanValue)

abbrev pub keys : List (ℕ × SitePlanValue) → List ℕ
keys es = map (λ (e : ℕ × SitePlanValue). e.0) es

abbrev pub found : List (ℕ × SitePlanValue) → ℕ → ℕ × SitePlanValue
found es s = (s, or_none (lookup (nat_eq s) es))

behind : (e : ℕ × SitePlanValue) (es : Entries) (ks : List ℕ) → list_any (nat_eq e.0) ks ≡ false → map (found (e ∷ es)) ks ≡ map (found es) ks
behind e es [] h = refl
behind e es (k ∷ ks) h =
    let o = or_parts (nat_eq e.0 k) (list_any (nat_eq e.0) ks) h in
    let here : found (e ∷ es) k ≡ found es k = ap (λ z. (k, or_none (cond z (Some e.1) (lookup (nat_eq k) es)))) (turned e.0 k o.0) in
    ap (λ z. z ∷ map (found (e ∷ es)) ks) here ∙ ap (λ zs. found es k ∷ zs) (behind e es ks o.1)

pub entries_are : (es : List (ℕ × SitePlanValue)) → Apart (keys es) → es ≡ map (found es) (keys es)
entries_are [] h = refl
entries_are (e ∷ es) h =
    let here : found (e ∷ es) e.0 ≡ e = ap (λ z. (e.0, or_none (cond z (Some e.1) (lookup (nat_eq e.0) es)))) (eq-eqb e.0 e.0 refl) in
    ap (λ zs. e ∷ zs) (entries_are es h.1 ∙ sym (behind e es (keys es) h.0)) ∙ ap (λ z. z ∷ map (found (e ∷ es)) (keys es)) (sym here)

map_flat : {X Y Z : Type 0} (f : X → Y) (g : Y → List Z) (xs : List X) → flat_map g (map f xs) ≡ flat_map (λ x. g (f x)) xs
map_flat f g [] = refl
map_flat f g (x ∷ xs) = ap (λ z. g (f x) ++ z) (map_flat f g xs)

-- what is made of a plan's loops, one after another, by their numbers
pub sites_flat : {Z : Type 0} (p : PlanValue) (n : ℕ) (t : ℕ → Bool) (g : ℕ × SitePlanValue → List Z) → keys p.sites ≡ listed n t
    → flat_map g p.sites ≡ flat_map (λ s. g (s, site_plan p s)) (listed n t)
unfolding site_plan
sites_flat p n t g e =
    let apart : Apart (keys p.sites) = subst Apart (sym e) (listed_apart n t) in
    ap (flat_map g) (entries_are p.sites apart) ∙ (map_flat (found p.sites) g (keys p.sites) ∙ ap (flat_map (λ s. g (found p.sites s))) e)
