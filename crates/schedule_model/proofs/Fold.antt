-- A fold over the elements below n, of those that are marked. Where the effects commute, the order of the marks is no matter.
use Rattle.std.proofs.Common.{◌≡◌, ℕ, ℤ, zero, suc, ◌<◌, ◌≤◌, Bool, true, false, cond, ◌⊎◌, inl, refl, sym, ap, ◌∙◌, arith, ⊎_elim}
use Rattle.std.proofs.lemmas.Bool.{cond-true, cond-false, cases_eq, cases_Bool}

abbrev pub folded : ℕ → (ℕ → Bool) → (ℕ → ℤ → ℤ) → ℤ → ℤ
folded zero m f v = v
folded (suc n) m f v = cond (m n) (f n (folded n m f v)) (folded n m f v)

-- the effects of any two elements below n commute
abbrev pub Commute : ℕ → (ℕ → ℤ → ℤ) → Type 0
Commute n f = (a b : ℕ) (x : ℤ) → a < n → b < n → (a ≡ b → ⊥) → f a (f b x) ≡ f b (f a x)

pub folded_true : (n : ℕ) (m : ℕ → Bool) (f : ℕ → ℤ → ℤ) (v : ℤ) → m n ≡ true → folded (suc n) m f v ≡ f n (folded n m f v)
folded_true n m f v h = cond-true (m n) (f n (folded n m f v)) (folded n m f v) h

pub folded_false : (n : ℕ) (m : ℕ → Bool) (f : ℕ → ℤ → ℤ) (v : ℤ) → m n ≡ false → folded (suc n) m f v ≡ folded n m f v
folded_false n m f v h = cond-false (m n) (f n (folded n m f v)) (folded n m f v) h

-- an effect that does nothing, marked or not
pub folded_idle : (n : ℕ) (m : ℕ → Bool) (f : ℕ → ℤ → ℤ) (v : ℤ) → ((x : ℤ) → f n x ≡ x) → folded (suc n) m f v ≡ folded n m f v
folded_idle n m f v h = ⊎_elim (λ t. folded_true n m f v t ∙ h (folded n m f v)) (λ t. folded_false n m f v t) (cases_Bool (m n))

pub folded_none : (n : ℕ) (m : ℕ → Bool) (f : ℕ → ℤ → ℤ) (v : ℤ) → ((e : ℕ) → e < n → (m e ≡ false) ⊎ ((x : ℤ) → f e x ≡ x)) → folded n m f v ≡ v
folded_none zero m f v h = refl
folded_none (suc n) m f v h =
    let rest : folded n m f v ≡ v = folded_none n m f v (λ e b. h e (omega arith)) in
    ⊎_elim (λ t. folded_false n m f v t ∙ rest) (λ t. folded_idle n m f v t ∙ rest) (h n (omega arith))

pub folded_same : (n : ℕ) (m w : ℕ → Bool) (f : ℕ → ℤ → ℤ) (v : ℤ) → ((e : ℕ) → e < n → (m e ≡ w e) ⊎ ((x : ℤ) → f e x ≡ x)) → folded n m f v ≡ folded n w f v
folded_same zero m w f v h = refl
folded_same (suc n) m w f v h =
    let rest : folded n m f v ≡ folded n w f v = folded_same n m w f v (λ e b. h e (omega arith)) in
    ⊎_elim
    (λ t. ap (λ b. cond b (f n (folded n m f v)) (folded n m f v)) t ∙ ap (λ x. cond (w n) (f n x) x) rest)
    (λ t. folded_idle n m f v t ∙ (rest ∙ sym (folded_idle n w f v t)))
    (h n (omega arith))

-- one more mark is one more effect
pub folded_mark : (N n : ℕ) (m w : ℕ → Bool) (f : ℕ → ℤ → ℤ) (v : ℤ) (e : ℕ) → n ≤ N → Commute N f → e < n → m e ≡ false → w e ≡ true
    → ((a : ℕ) → (a ≡ e → ⊥) → w a ≡ m a) → folded n w f v ≡ f e (folded n m f v)
folded_mark N zero m w f v e le comm lt me we other = absurd (omega arith)
folded_mark N (suc n) m w f v e le comm lt me we other =
    ⊎_elim
    (λ (q : e ≡ n).
    let wn : w n ≡ true = ap w (sym q) ∙ we in
    let mn : m n ≡ false = ap m (sym q) ∙ me in
    let same : folded n w f v ≡ folded n m f v = folded_same n w m f v (λ a b. inl (other a (λ i. omega arith))) in
    folded_true n w f v wn ∙ (ap (f n) same ∙ (ap (λ x. f n x) (sym (folded_false n m f v mn)) ∙ ap (λ x. f x (folded (suc n) m f v)) (sym q))))
    (λ (ne : e ≡ n → ⊥).
    let ih : folded n w f v ≡ f e (folded n m f v) = folded_mark N n m w f v e (omega arith) comm (omega arith) me we other in
    let wn : w n ≡ m n = other n (λ q. ne (sym q)) in
    ⊎_elim
    (λ (t : m n ≡ true). folded_true n w f v (wn ∙ t) ∙ (ap (f n) ih ∙ (comm n e (folded n m f v) (omega arith) (omega arith) (λ q. ne (sym q)) ∙ ap (f e) (sym (folded_true n m f v t)))))
    (λ (t : m n ≡ false). folded_false n w f v (wn ∙ t) ∙ (ih ∙ ap (f e) (sym (folded_false n m f v t))))
    (cases_Bool (m n)))
    (cases_eq e n)

-- the effect of an element that is none of these goes through
pub folded_through : (N n : ℕ) (m : ℕ → Bool) (f : ℕ → ℤ → ℤ) (v : ℤ) (e : ℕ) → Commute N f → n ≤ e → e < N → folded n m f (f e v) ≡ f e (folded n m f v)
folded_through N zero m f v e comm le lt = refl
folded_through N (suc n) m f v e comm le lt =
    let ih : folded n m f (f e v) ≡ f e (folded n m f v) = folded_through N n m f v e comm (omega arith) lt in
    ⊎_elim
    (λ (t : m n ≡ true). folded_true n m f (f e v) t ∙ (ap (f n) ih ∙ (comm n e (folded n m f v) (omega arith) lt (λ i. omega arith) ∙ ap (f e) (sym (folded_true n m f v t)))))
    (λ (t : m n ≡ false). folded_false n m f (f e v) t ∙ (ih ∙ ap (f e) (sym (folded_false n m f v t))))
    (cases_Bool (m n))

-- the marks of m and then those of w are those of u
pub folded_union : (N n : ℕ) (m w u : ℕ → Bool) (f : ℕ → ℤ → ℤ) (v : ℤ) → n ≤ N → Commute N f
    → ((e : ℕ) → e < n → ((m e ≡ true) × (w e ≡ false) × (u e ≡ true)) ⊎ ((m e ≡ false) × (w e ≡ u e)))
    → folded n w f (folded n m f v) ≡ folded n u f v
folded_union N zero m w u f v le comm h = refl
folded_union N (suc n) m w u f v le comm h =
    let ih : folded n w f (folded n m f v) ≡ folded n u f v = folded_union N n m w u f v (omega arith) comm (λ e lt. h e (omega arith)) in
    ⊎_elim
    (λ (t : (m n ≡ true) × (w n ≡ false) × (u n ≡ true)).
    folded_false n w f (folded (suc n) m f v) t.1
    ∙ (ap (folded n w f) (folded_true n m f v t.0)
    ∙ (folded_through N n w f (folded n m f v) n comm (omega arith) (omega arith) ∙ (ap (f n) ih ∙ sym (folded_true n u f v t.2)))))
    (λ (t : (m n ≡ false) × (w n ≡ u n)).
    ap (λ x. folded (suc n) w f x) (folded_false n m f v t.0)
    ∙ (ap (λ x. cond (w n) (f n x) x) ih ∙ ap (λ b. cond b (f n (folded n u f v)) (folded n u f v)) t.1))
    (h n (omega arith))

-- a merge that goes through each effect
pub folded_merge : (n : ℕ) (m : ℕ → Bool) (f : ℕ → ℤ → ℤ) (g : ℤ → ℤ) (u v : ℤ) → g u ≡ v → ((e : ℕ) (x : ℤ) → e < n → g (f e x) ≡ f e (g x)) → g (folded n m f u) ≡ folded n m f v
folded_merge zero m f g u v start go = start
folded_merge (suc n) m f g u v start go =
    let ih : g (folded n m f u) ≡ folded n m f v = folded_merge n m f g u v start (λ e x lt. go e x (omega arith)) in
    ⊎_elim
    (λ (t : m n ≡ true). ap g (folded_true n m f u t) ∙ (go n (folded n m f u) (omega arith) ∙ (ap (f n) ih ∙ sym (folded_true n m f v t))))
    (λ (t : m n ≡ false). ap g (folded_false n m f u t) ∙ (ih ∙ sym (folded_false n m f v t)))
    (cases_Bool (m n))
