-- What can be told: whether numbers below a bound pass, whether a list begins with another, and where a line ends.
use Rattle.std.proofs.Common.{◌≡◌, ℕ, Bool, true, false, zero, suc, ◌<◌, ◌⊎◌, inl, inr, ⊎_elim, refl, sym, ap, subst, ◌∙◌, arith, List, [], ◌∷◌, ◌++◌, append-nil, length}
use Rattle.std.proofs.lemmas.Bool.{cases_eq, eqb-true}
use Rattle.std.proofs.lemmas.List.{append_cancel_left}
use Rattle.lemmas.proofs.Lists.{head_same, tail_same}
use Rattle.op_num.specs.CutLines.{is_lf, HasNoLf}
use Rattle.plan_cert.proofs.Lining.{no_lf_none, no_lf_behind}

-- it holds, or it doesn't
abbrev pub Known : Type 0 → Type 0
Known P = P ⊎ (P → ⊥)

pub both_known : {P Q : Type 0} → Known P → Known Q → Known (P × Q)
both_known (inl p) (inl q) = inl (p, q)
both_known (inl p) (inr q) = inr (λ h. q h.1)
both_known (inr p) q = inr (λ h. p h.0)

pub not_known : {P : Type 0} → Known P → Known (P → ⊥)
not_known (inl p) = inr (λ h. h p)
not_known (inr p) = inl p

pub known_by : {P Q : Type 0} → (P → Q) → (Q → P) → Known P → Known Q
known_by f g (inl p) = inl (f p)
known_by f g (inr p) = inr (λ q. p (g q))

-- some number below n has it
abbrev pub SomeBelow : ℕ → (ℕ → Type 0) → Type 0
SomeBelow n P = (k : ℕ) × (k < n) × P k

none_more : (P : ℕ → Type 0) (n : ℕ) → (SomeBelow n P → ⊥) → (P n → ⊥) → SomeBelow (suc n) P → ⊥
none_more P n h k w = ⊎_elim
    (λ (e : w.0 ≡ n). k (subst P e w.2))
    (λ (ne : w.0 ≡ n → ⊥). h (w.0, (let l = w.1 in omega arith), w.2))
    (cases_eq w.0 n)

known_more : (P : ℕ → Type 0) (n : ℕ) → Known (SomeBelow n P) → Known (P n) → Known (SomeBelow (suc n) P)
known_more P n (inl w) k = inl (w.0, (let l = w.1 in omega arith), w.2)
known_more P n (inr h) (inl p) = inl (n, omega arith, p)
known_more P n (inr h) (inr k) = inr (none_more P n h k)

pub below_known : (P : ℕ → Type 0) → ((k : ℕ) → Known (P k)) → (n : ℕ) → Known (SomeBelow n P)
below_known P h zero = inr (λ w. (let l = w.1 in omega arith))
below_known P h (suc n) = known_more P n (below_known P h n) (h n)

-- ---- lists

module _ {X : Type 0} where
  pub longer : (x : X) (xs : List X) → [] ≡ x ∷ xs → ⊥
  longer x xs e = let l : 0 ≡ suc (length xs) = ap length e in omega arith

  -- the list begins with these
  abbrev pub Begins : List X → List X → Type 0
  Begins xs ys = (more : List X) × (ys ≡ xs ++ more)

  begins_more : (x y : X) (xs ys : List X) → Known (x ≡ y) → Known (Begins xs ys) → Known (Begins (x ∷ xs) (y ∷ ys))
  begins_more x y xs ys (inl e) (inl h) = inl (h.0, ap (λ z. z ∷ ys) (sym e) ∙ ap (λ zs. x ∷ zs) h.1)
  begins_more x y xs ys (inl e) (inr h) = inr (λ k. h (k.0, tail_same y x ys (xs ++ k.0) k.1))
  begins_more x y xs ys (inr e) h = inr (λ k. e (sym (head_same y x ys (xs ++ k.0) k.1)))

  module _ (same : (x y : X) → Known (x ≡ y)) where
    pub begins_known : (xs ys : List X) → Known (Begins xs ys)
    begins_known [] ys = inl (ys, refl)
    begins_known (x ∷ xs) [] = inr (λ k. longer x (xs ++ k.0) k.1)
    begins_known (x ∷ xs) (y ∷ ys) = begins_more x y xs ys (same x y) (begins_known xs ys)

    whole_by : (xs ys : List X) → Known (Begins xs ys) → Known (ys ≡ xs)
    whole_by xs ys (inl ([], e)) = inl (e ∙ append-nil xs)
    whole_by xs ys (inl (z ∷ zs, e)) = inr (λ f. longer z zs (append_cancel_left xs [] (z ∷ zs) (append-nil xs ∙ (sym f ∙ e))))
    whole_by xs ys (inr h) = inr (λ f. h ([], f ∙ sym (append-nil xs)))

    pub lists_known : (xs ys : List X) → Known (xs ≡ ys)
    lists_known xs ys = whole_by ys xs (begins_known ys xs)

-- ---- bytes

pub bytes_known : (xs ys : List ℕ) → Known (xs ≡ ys)
bytes_known xs ys = lists_known cases_eq xs ys

-- the bytes up to the first LF, and those behind it
pub record FirstLine (bytes : List ℕ) : Type 0 where
  pub line : List ℕ
  pub more : List ℕ
  pub no_lf : HasNoLf line
  pub is : bytes ≡ line ++ 10 ∷ more

line_more : (x : ℕ) (xs : List ℕ) (t : Bool) → is_lf x ≡ t → HasNoLf xs ⊎ FirstLine xs → HasNoLf (x ∷ xs) ⊎ FirstLine (x ∷ xs)
line_more x xs true e h = inr (record { line = []; more = xs; no_lf = no_lf_none; is = ap (λ z. z ∷ xs) (eqb-true x 10 e) })
line_more x xs false e (inl h) = inl (no_lf_behind x xs e h)
line_more x xs false e (inr f) = inr (record { line = x ∷ f.line; more = f.more; no_lf = no_lf_behind x f.line e f.no_lf; is = ap (λ zs. x ∷ zs) f.is })

-- there is no LF, or there is a first line
pub first_line : (bytes : List ℕ) → HasNoLf bytes ⊎ FirstLine bytes
first_line [] = inl no_lf_none
first_line (x ∷ xs) = line_more x xs (is_lf x) refl (first_line xs)
