-- Steps of the loops that collect the ranks that have an element.
use Rattle.std.proofs.Common.{◌≡◌, ℕ, ◌+◌, ◌<◌, ◌≤◌, Bool, true, false, ◌&&◌, ◌||◌, nat_eq, ltb, List, [], length, map, Vec, refl, sym, ap, ◌∙◌, arith, ⊎_elim}
use Rattle.std.specs.declared.alloc.Global.{Global}
use Rattle.std.proofs.lemmas.Bool.{cases_order, cases_lt, eq-eqb, ne_eqb, eqb-true, lt-ltb, le-ltb}
use Rattle.std.proofs.lemmas.List.{get_or_past, length-map}
use Rattle.lemmas.specs.Below.{row}
use Rattle.local_mesh.specs.Standing.{stands}
use Rattle.local_mesh.proofs.Stands.{stands_nothing}

below_more_test : (r n : ℕ) → ltb r (n + 1) ≡ (ltb r n || nat_eq r n)
below_more_test r n = ⊎_elim
    (λ (e : r ≡ n). rw (lt-ltb r (n + 1) (omega arith), le-ltb r n (omega arith), eq-eqb r n e) refl)
    (λ o. ⊎_elim
    (λ (l : r < n). rw (lt-ltb r (n + 1) (omega arith), lt-ltb r n l) refl)
    (λ (l : n < r). rw (le-ltb r (n + 1) (omega arith), le-ltb r n (omega arith), ne_eqb r n (λ e. omega arith)) refl)
    o)
    (cases_order r n)

one_more : (i l e m s t : Bool) → m ≡ (l || e) → (e ≡ true → t ≡ s) → ((i || (l && s)) || (e && t)) ≡ (i || (m && s))
one_more true l e m s t h k = refl
one_more false true true m true t h k = rw h refl
one_more false true true m false t h k = rw (h, k refl) refl
one_more false true false m true t h k = rw h refl
one_more false true false m false t h k = rw h refl
one_more false false true m s t h k = rw (h, k refl) refl
one_more false false false m s t h k = rw h refl

-- one more rank was added to the elements of its list
pub rank_more : (initial cur now single : Bool) (r n : ℕ) (st : ℕ → Bool) → cur ≡ (initial || (ltb r n && st r)) → single ≡ nat_eq r n
    → now ≡ (cur || (single && st n)) → now ≡ (initial || (ltb r (n + 1) && st r))
rank_more initial cur now single r n st h q k =
    k ∙ (ap (λ z. z || (single && st n)) h ∙ (ap (λ z. (initial || (ltb r n && st r)) || (z && st n)) q
    ∙ one_more initial (ltb r n) (nat_eq r n) (ltb r (n + 1)) (st r) (st n) (below_more_test r n) (λ e. sym (ap st (eqb-true r n e)))))

pub row_past : (lists : List (Vec ℕ Global)) (r : ℕ) → length lists ≤ r → row lists r ≡ []
unfolding row
row_past lists r l = get_or_past (map (λ (v : Vec ℕ Global). v.items) lists) r [] (rw (length-map lists (λ (v : Vec ℕ Global). v.items)) l)

pub stands_past : (lists : List (Vec ℕ Global)) (r x : ℕ) → length lists ≤ r → stands (row lists r) x ≡ false
stands_past lists r x l = ap (λ (z : List ℕ). stands z x) (row_past lists r l) ∙ stands_nothing x

-- a rank that an element's set has by the lists is one of theirs
pub stands_below : (lists : List (Vec ℕ Global)) (r x : ℕ) → stands (row lists r) x ≡ true → r < length lists
stands_below lists r x t = ⊎_elim
    (λ (l : r < length lists). l)
    (λ (l : length lists ≤ r). (let z : true ≡ false = sym t ∙ stands_past lists r x l in absurd (let q : false ≡ true = sym z in cc)))
    (cases_lt r (length lists))

-- of those below n all were added
pub all_added : (lists : List (Vec ℕ Global)) (i cur : Bool) (r n x : ℕ) → length lists ≤ n → cur ≡ (i || (ltb r n && stands (row lists r) x)) → cur ≡ (i || stands (row lists r) x)
all_added lists i cur r n x l h = ⊎_elim
    (λ (m : r < n). h ∙ ap (λ z. i || (z && stands (row lists r) x)) (lt-ltb r n m))
    (λ (m : n ≤ r). h ∙ (ap (λ z. i || (z && stands (row lists r) x)) (le-ltb r n m) ∙ sym (ap (λ z. i || z) (stands_past lists r x (omega arith)))))
    (cases_lt r n)

-- the empty lists as they are read
pub empty_long : (now items : List (Vec ℕ Global)) (rooms counts : List ℕ) (n : ℕ) → now ≡ items → length items ≡ length rooms → rooms ≡ counts → length counts ≡ n → length now ≡ n
empty_long now items rooms counts n e l q h = ap (length {A = Vec ℕ Global}) e ∙ (l ∙ (ap (length {A = ℕ}) q ∙ h))

pub empty_rows : (now items : List (Vec ℕ Global)) (rooms counts : List ℕ) (n : ℕ) → now ≡ items → rooms ≡ counts → length counts ≡ n
    → ((r : ℕ) → r < length rooms → row items r ≡ []) → (r : ℕ) → r < n → row now r ≡ []
empty_rows now items rooms counts n e q h none r l = ap (λ (z : List (Vec ℕ Global)). row z r) e ∙ none r (rw (q, h) l)
