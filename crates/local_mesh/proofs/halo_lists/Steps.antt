-- Steps of the loops that collect marks.
use Rattle.std.proofs.Common.{◌≡◌, ℕ, ◌+◌, ◌<◌, ◌≤◌, Bool, true, false, ◌&&◌, ◌||◌, nat_eq, List, [], ◌∷◌, ◌++◌, length, set, refl, sym, ap, ◌∙◌, arith, ⊎_elim}
use Rattle.std.proofs.lemmas.Bool.{cases_eq, eq-eqb, ne_eqb}
use Rattle.lemmas.specs.Below.{any_below}
use Rattle.local_mesh.specs.RankSet.{has, has_at}
use Rattle.local_mesh.specs.declared.rank_sets.rank_set.RankSet.{RankSet}
use Rattle.lemmas.proofs.Below.{any_more}
use Rattle.local_mesh.proofs.rank_sets.Rows.{has_at_set_same, has_at_set_other, has_at_push_left, has_at_push}
use Rattle.lemmas.proofs.Truth.{or_assoc}
use Rattle.std.proofs.Math.Bool.{and-false, and-true, or-false}

-- one more way to have a mark
or_and_more : (b h a e : Bool) → ((b || (h && a)) || (h && e)) ≡ (b || (h && (a || e)))
or_and_more true true a e = refl
or_and_more true false a e = refl
or_and_more false true a e = refl
or_and_more false false a e = refl

-- a mark at target t: the union there, the rest as it was
pub union_at : (now : List RankSet) (t : ℕ) (s ranks : RankSet) → t < length now → ((r : ℕ) → has s r ≡ (has_at now t r || has ranks r))
    → (y r : ℕ) → has_at (set now t s) y r ≡ (has_at now y r || (has ranks r && nat_eq t y))
union_at now t s ranks l h y r = ⊎_elim
    (λ (q : y ≡ t).
    rw (q, eq-eqb t t refl, and-true (has ranks r)) (has_at_set_same now t s l r ∙ h r))
    (λ (n : y ≡ t → ⊥).
    let m : t ≡ y → ⊥ = λ q. n (sym q) in
    rw (ne_eqb t y m, and-false (has ranks r), or-false (has_at now y r)) (has_at_set_other now t y s n r))
    (cases_eq y t)

pub name_more : (b : Bool) (now : List RankSet) (t : ℕ) (s ranks : RankSet) (n : ℕ) (f : ℕ → ℕ) → t < length now
    → ((r : ℕ) → has s r ≡ (has_at now t r || has ranks r)) → t ≡ f n → (y r : ℕ)
    → has_at now y r ≡ (b || (has ranks r && any_below n (λ i. nat_eq (f i) y)))
    → has_at (set now t s) y r ≡ (b || (has ranks r && any_below (n + 1) (λ i. nat_eq (f i) y)))
name_more b now t s ranks n f l h q y r k =
    union_at now t s ranks l h y r
    ∙ (ap (λ z. z || (has ranks r && nat_eq t y)) k
    ∙ (or_and_more b (has ranks r) (any_below n (λ i. nat_eq (f i) y)) (nat_eq t y)
    ∙ ap (λ z. b || (has ranks r && z)) (ap (λ z. any_below n (λ i. nat_eq (f i) y) || nat_eq z y) q ∙ sym (any_more n (λ i. nat_eq (f i) y)))))

-- one more element whose marks were added
pub any_step : (b old now : Bool) (n : ℕ) (p : ℕ → Bool) → old ≡ (b || any_below n p) → now ≡ (old || p n) → now ≡ (b || any_below (n + 1) p)
any_step b old now n p h k = k ∙ (ap (λ z. z || p n) h ∙ (or_assoc b (any_below n p) (p n) ∙ ap (λ z. b || z) (sym (any_more n p))))

-- one more map, whose marks were added if it is one of those meant
pub map_step_yes : (old now : Bool) (n : ℕ) (e p : ℕ → Bool) → old ≡ any_below n (λ m. e m && p m) → e n ≡ true → now ≡ (old || p n) → now ≡ any_below (n + 1) (λ m. e m && p m)
map_step_yes old now n e p h t k = k ∙ (ap (λ z. z || p n) h ∙ (ap (λ z. any_below n (λ m. e m && p m) || (z && p n)) (sym t) ∙ sym (any_more n (λ m. e m && p m))))

pub map_step_no : (old : Bool) (n : ℕ) (e p : ℕ → Bool) → old ≡ any_below n (λ m. e m && p m) → e n ≡ false → old ≡ any_below (n + 1) (λ m. e m && p m)
map_step_no old n e p h t = h ∙ (sym (or-false (any_below n (λ m. e m && p m))) ∙ (ap (λ z. any_below n (λ m. e m && p m) || (z && p n)) (sym t) ∙ sym (any_more n (λ m. e m && p m))))

-- the same beside what is so already
pub own_step_yes : (b old now : Bool) (n : ℕ) (e p : ℕ → Bool) → old ≡ (b || any_below n (λ m. e m && p m)) → e n ≡ true → now ≡ (old || p n) → now ≡ (b || any_below (n + 1) (λ m. e m && p m))
own_step_yes b old now n e p h t k = any_step b old now n (λ m. e m && p m) h (k ∙ ap (λ z. old || (z && p n)) (sym t))

pub own_step_no : (b old : Bool) (n : ℕ) (e p : ℕ → Bool) → old ≡ (b || any_below n (λ m. e m && p m)) → e n ≡ false → old ≡ (b || any_below (n + 1) (λ m. e m && p m))
own_step_no b old n e p h t = any_step b old old n (λ m. e m && p m) h (sym (or-false old) ∙ ap (λ z. old || (z && p n)) (sym t))

-- one more set written, of sets that were there
pub set_more : (now initial : List RankSet) (n : ℕ) (s : RankSet) (p : ℕ → ℕ → Bool) → n < length now
    → ((r : ℕ) → has s r ≡ (has_at now n r || p n r)) → ((x r : ℕ) → x < n → has_at now x r ≡ (has_at initial x r || p x r))
    → ((x r : ℕ) → n ≤ x → has_at now x r ≡ has_at initial x r) → (x r : ℕ) → x < n + 1
    → has_at (set now n s) x r ≡ (has_at initial x r || p x r)
set_more now initial n s p l h before behind x r lx = ⊎_elim
    (λ (q : x ≡ n). rw q (has_at_set_same now n s l r ∙ (h r ∙ ap (λ z. z || p n r) (behind n r (omega arith)))))
    (λ (m : x ≡ n → ⊥). has_at_set_other now n x s m r ∙ before x r (omega arith))
    (cases_eq x n)

pub set_kept : (now initial : List RankSet) (n : ℕ) (s : RankSet) → ((x r : ℕ) → n ≤ x → has_at now x r ≡ has_at initial x r) → (x r : ℕ) → n + 1 ≤ x → has_at (set now n s) x r ≡ has_at initial x r
set_kept now initial n s behind x r l = has_at_set_other now n x s (λ e. omega (arith, e, l)) r ∙ behind x r (omega arith)

-- one more set pushed
pub has_more : (xs : List RankSet) (s : RankSet) (n : ℕ) (p : ℕ → ℕ → Bool) → length xs ≡ n → ((x r : ℕ) → x < n → has_at xs x r ≡ p x r)
    → ((r : ℕ) → has s r ≡ p n r) → (x r : ℕ) → x < n + 1 → has_at (xs ++ s ∷ []) x r ≡ p x r
has_more xs s n p e h k x r l = ⊎_elim
    (λ (q : x ≡ n). rw q (has_at_push xs s n e r ∙ k r))
    (λ (m : x ≡ n → ⊥). let lx : x < n = omega arith in has_at_push_left xs s x (rw e lx) r ∙ h x r lx)
    (cases_eq x n)
