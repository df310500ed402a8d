-- The elements that have a target.
use Rattle.std.proofs.Common.{◌≡◌, ℕ, zero, suc, ◌+◌, ◌-◌, ◌*◌, ◌^◌, ◌<◌, ◌≤◌, Bool, true, false, cond, nat_eq, List, [], ◌∷◌, ◌++◌, length, replicate, get_or, set, refl, sym, ap, ◌∙◌, arith, add-one, append_assoc, ⊎_elim, subst}
use Rattle.std.specs.List.{Contains}
use Rattle.std.proofs.lemmas.Bool.{cases_Bool, cases_eq, cases_lt, eq-eqb, ne_eqb}
use Rattle.std.proofs.lemmas.List.{length-append, length-replicate, get_or-replicate, get_or_append_left, get_or-append_right, get_or-set_same, get_or-set_other, replicate-append-replicate}
use Rattle.std.proofs.lemmas.List.Elements.{Contains-append_left, Contains-append_right}
use Rattle.mesh_decl.specs.Mesh.{MeshValue, map_dim, target}
use Rattle.lemmas.specs.Below.{any_below, count_below}
use Rattle.lemmas.proofs.Below.{any_from, any_witness, count_more, count_lt}
use Rattle.renumber.specs.Neighbours.{has_target, times, havers}
use Rattle.renumber.proofs.breadth_order.Near.{count_within}

-- where some pass, one does
any_count : (n : ℕ) (p : ℕ → Bool) → 0 < count_below n p → any_below n p ≡ true
any_count zero p l = absurd (omega arith)
any_count (suc n) p l = ⊎_elim
    (λ (e : p n ≡ true). any_from (suc n) p n (omega arith) e)
    (λ (e : p n ≡ false).
    let s : count_below (suc n) p ≡ count_below n p + 0 = rw e refl in
    let w = any_witness n p (any_count n p (omega arith)) in
    any_from (suc n) p w.0 (omega (arith, w.1)) w.2)
    (cases_Bool (p n))

has_times : (g : MeshValue) (m e x : ℕ) → has_target g m e x ≡ true → 0 < times g m e x
unfolding has_target times
has_times g m e x t =
    let w = any_witness (map_dim g m) (λ i. nat_eq (target g m e i) x) t in
    let l = count_lt w.0 (map_dim g m) (λ i. nat_eq (target g m e i) x) w.1 w.2 in
    omega (arith, l)

times_has : (g : MeshValue) (m e x : ℕ) → 0 < times g m e x → has_target g m e x ≡ true
unfolding has_target times
times_has g m e x l = any_count (map_dim g m) (λ i. nat_eq (target g m e i) x) l

pub times_le : (g : MeshValue) (m e x : ℕ) → times g m e x ≤ map_dim g m
unfolding times
times_le g m e x = count_within (map_dim g m) (λ i. nat_eq (target g m e i) x)

pub havers_more : (g : MeshValue) (m n x : ℕ) → havers g m (n + 1) x ≡ havers g m n x ++ replicate (times g m n x) n
havers_more g m n x = rw add-one refl

pub length_more : (g : MeshValue) (m n x : ℕ) → length (havers g m (n + 1) x) ≡ length (havers g m n x) + times g m n x
length_more g m n x =
    let a = length-append (havers g m n x) (replicate (times g m n x) n) in
    let b = length-replicate (times g m n x) n in
    ap (length {A = ℕ}) (havers_more g m n x) ∙ omega (arith, a, b)

pub length_within : (g : MeshValue) (m n x : ℕ) → map_dim g m < 2 ^ 32 → length (havers g m n x) ≤ n * 4294967296
length_within g m zero x d = omega arith
length_within g m (suc n) x d =
    let a = length-append (havers g m n x) (replicate (times g m n x) n) in
    let b = length-replicate (times g m n x) n in
    let h = length_within g m n x d in
    let t = times_le g m n x in
    omega (arith, a, b, h, t, d)

pub length_le : (g : MeshValue) (m n k x : ℕ) → n ≤ k → length (havers g m n x) ≤ length (havers g m k x)
length_le g m n zero x l = let e : n ≡ 0 = omega arith in rw e (omega arith)
length_le g m n (suc k) x l = ⊎_elim
    (λ (e : n ≡ suc k). rw e (omega arith))
    (λ (e : n ≡ suc k → ⊥).
    let a = length-append (havers g m k x) (replicate (times g m k x) k) in
    let h = length_le g m n k x (omega arith) in
    omega (arith, a, h))
    (cases_eq n (suc k))

-- what stands in the list has the target
pub haver_at : (g : MeshValue) (m n x k : ℕ) → k < length (havers g m n x) → (get_or (havers g m n x) k 0 < n) × (has_target g m (get_or (havers g m n x) k 0) x ≡ true)
haver_at g m zero x k l = absurd (omega arith)
haver_at g m (suc n) x k l = ⊎_elim
    (λ (e : k < length (havers g m n x)).
    let h = haver_at g m n x k e in
    rw (get_or_append_left (havers g m n x) (replicate (times g m n x) n) 0 k e) (omega (arith, h.0), h.1))
    (λ (e : length (havers g m n x) ≤ k).
    let a = length-append (havers g m n x) (replicate (times g m n x) n) in
    let b = length-replicate (times g m n x) n in
    let i : k - length (havers g m n x) < times g m n x = omega (arith, a, b, l, e) in
    let r : get_or (havers g m n x ++ replicate (times g m n x) n) k 0 ≡ n =
    get_or-append_right (havers g m n x) (replicate (times g m n x) n) (length (havers g m n x)) k 0 refl e
    ∙ get_or-replicate (times g m n x) (k - length (havers g m n x)) n 0 i in
    rw r (omega arith, times_has g m n x (omega (arith, i))))
    (cases_lt k (length (havers g m n x)))

-- what has the target stands in the list
pub haver_has : (g : MeshValue) (m n x e : ℕ) → e < n → has_target g m e x ≡ true → Contains (havers g m n x) e
haver_has g m zero x e l t = absurd (omega arith)
haver_has g m (suc n) x e l t = ⊎_elim
    (λ (q : e ≡ n).
    let p : 0 < times g m n x = subst (λ z. 0 < times g m z x) q (has_times g m e x t) in
    let b = length-replicate (times g m n x) n in
    rw q (Contains-append_right (havers g m n x) (replicate (times g m n x) n) n (0, omega (arith, b, p), get_or-replicate (times g m n x) 0 n n p)))
    (λ (q : e ≡ n → ⊥). Contains-append_left (havers g m n x) (replicate (times g m n x) n) e (haver_has g m n x e (omega arith) t))
    (cases_eq e n)

-- one more place is counted
pub counted : (xs initial : List ℕ) (t u x n : ℕ) (p : ℕ → ℕ) → t < length xs → t ≡ u → u ≡ p n
    → ((x : ℕ) → x < length initial → get_or xs x 0 ≡ get_or initial x 0 + count_below n (λ i. nat_eq (p i) x)) → x < length initial
    → t < length initial → get_or (set xs t (get_or xs t 0 + 1)) x 0 ≡ get_or initial x 0 + count_below (n + 1) (λ i. nat_eq (p i) x)
counted xs initial t u x n p l e q h lx lt = ⊎_elim
    (λ (s : x ≡ t).
    let c : count_below (n + 1) (λ i. nat_eq (p i) x) ≡ count_below n (λ i. nat_eq (p i) x) + 1 = count_more n (λ i. nat_eq (p i) x)
    ∙ ap (λ z. count_below n (λ i. nat_eq (p i) x) + cond {A = ℕ} z 1 0) (eq-eqb (p n) x (sym q ∙ (sym e ∙ sym s))) in
    let a : get_or (set xs t (get_or xs t 0 + 1)) x 0 ≡ get_or xs t 0 + 1 = ap (λ z. get_or (set xs t (get_or xs t 0 + 1)) z 0) s ∙ get_or-set_same xs t (get_or xs t 0 + 1) 0 l in
    let b : get_or xs t 0 ≡ get_or xs x 0 = ap (λ z. get_or xs z 0) (sym s) in
    let i = h x lx in
    omega (arith, a, b, c, i))
    (λ (s : x ≡ t → ⊥).
    let c : count_below (n + 1) (λ i. nat_eq (p i) x) ≡ count_below n (λ i. nat_eq (p i) x) + 0 = count_more n (λ i. nat_eq (p i) x)
    ∙ ap (λ z. count_below n (λ i. nat_eq (p i) x) + cond {A = ℕ} z 1 0) (ne_eqb (p n) x (λ w. s (sym (e ∙ (q ∙ w))))) in
    let a = get_or-set_other xs t x (get_or xs t 0 + 1) 0 s in
    let i = h x lx in
    omega (arith, a, c, i))
    (cases_eq x t)

replicate_more : (n : ℕ) (a : ℕ) → replicate n a ++ a ∷ [] ≡ replicate (n + 1) a
replicate_more n a = replicate-append-replicate n 1 a

-- one more place's element stands in its row
pub rowed : (rows initial : List (List ℕ)) (t u v x n : ℕ) (p : ℕ → ℕ) → t < length rows → t ≡ u → u ≡ p n
    → ((x : ℕ) → x < length initial → get_or rows x [] ≡ get_or initial x [] ++ replicate (count_below n (λ i. nat_eq (p i) x)) v)
    → x < length initial → get_or (set rows t (get_or rows t [] ++ v ∷ [])) x [] ≡ get_or initial x [] ++ replicate
    (count_below (n + 1) (λ i. nat_eq (p i) x)) v
rowed rows initial t u v x n p l e q h lx = ⊎_elim
    (λ (s : x ≡ t).
    let c : count_below (n + 1) (λ i. nat_eq (p i) x) ≡ count_below n (λ i. nat_eq (p i) x) + 1 = count_more n (λ i. nat_eq (p i) x)
    ∙ ap (λ z. count_below n (λ i. nat_eq (p i) x) + cond {A = ℕ} z 1 0) (eq-eqb (p n) x (sym q ∙ (sym e ∙ sym s))) in
    let a : get_or (set rows t (get_or rows t [] ++ v ∷ [])) x [] ≡ get_or rows t [] ++ v ∷ [] =
    ap (λ z. get_or (set rows t (get_or rows t [] ++ v ∷ [])) z []) s ∙ get_or-set_same rows t (get_or rows t [] ++ v ∷ []) [] l in
    let b : get_or rows t [] ≡ get_or initial x [] ++ replicate (count_below n (λ i. nat_eq (p i) x)) v = ap (λ z. get_or rows z []) (sym s) ∙ h x lx in
    a ∙ (ap (λ (z : List ℕ). z ++ v ∷ []) b ∙
    (append_assoc (get_or initial x []) (replicate (count_below n (λ i. nat_eq (p i) x)) v) (v ∷ [])
    ∙ (ap (λ (z : List ℕ). get_or initial x [] ++ z) (replicate_more (count_below n (λ i. nat_eq (p i) x)) v)
    ∙ ap (λ z. get_or initial x [] ++ replicate z v) (sym c)))))
    (λ (s : x ≡ t → ⊥).
    let c : count_below (n + 1) (λ i. nat_eq (p i) x) ≡ count_below n (λ i. nat_eq (p i) x) = count_more n (λ i. nat_eq (p i) x)
    ∙ (ap (λ z. count_below n (λ i. nat_eq (p i) x) + cond {A = ℕ} z 1 0) (ne_eqb (p n) x (λ w. s (sym (e ∙ (q ∙ w))))) ∙ omega arith)
    in
    get_or-set_other rows t x (get_or rows t [] ++ v ∷ []) [] s ∙ (h x lx ∙ ap (λ z. get_or initial x [] ++ replicate z v) (sym c)))
    (cases_eq x t)
