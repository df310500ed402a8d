-- Parts of a source of which some are replaced.
use Rattle.std.proofs.Common.{◌≡◌, ℕ, Bool, true, false, List, [], ◌∷◌, ◌++◌, ◌⊎◌, inl, inr, refl, sym, ap, subst, ◌∙◌, append_assoc}
use Rattle.std.proofs.lemmas.List.{append_cancel_left}
use Rattle.c_tree.specs.Spelling.{letter}
use Rattle.c_tree.specs.Lexed.{IsApart, IsPassed, Stop, AtEnd, Part, Passed, Spelled, bytes_of, all_bytes, IsPartBefore, is_fresh_behind, is_number_part, AreParts}
use Rattle.c_tree.proofs.Public.{not_empty}
use Rattle.op_translate.proofs.Ahead.{part_kept}
use Rattle.std.proofs.lemmas.Bool.{true≢false}

-- ---- parts

pub all_bytes-append : (xs ys : List Part) → all_bytes (xs ++ ys) ≡ all_bytes xs ++ all_bytes ys
all_bytes-append [] ys = refl
all_bytes-append (x ∷ xs) ys =
    ap (λ z. bytes_of x ++ z) (all_bytes-append xs ys) ∙ sym (append_assoc (bytes_of x) (all_bytes xs) (all_bytes ys))

-- whether only spaces and tabs stand on the line, and whether a number stands directly before, after parts
abbrev pub fresh_behind : Bool → List Part → Bool
fresh_behind fresh [] = fresh
fresh_behind fresh (p ∷ ps) = fresh_behind (is_fresh_behind fresh p) ps

abbrev pub number_behind : Bool → List Part → Bool
number_behind number [] = number
number_behind number (p ∷ ps) = number_behind (is_number_part p) ps

-- what the last of some parts leaves
pub left_behind : (stop : Stop) (fresh number : Bool) (bs : List ℕ) (xs ys : List Part) → AreParts stop fresh number bs (xs ++ ys)
    → (rest : List ℕ) × (bs ≡ all_bytes xs ++ rest) × AreParts stop (fresh_behind fresh xs) (number_behind number xs) rest ys
left_behind stop fresh number bs [] ys a = (bs, refl, a)
left_behind stop fresh number bs (x ∷ xs) ys a =
    let w = left_behind stop (is_fresh_behind fresh x) (is_number_part x) a.1.0 xs ys a.1.3 in
    (w.0, a.1.1 ∙ (ap (λ z. bytes_of x ++ z) w.1 ∙ sym (append_assoc (bytes_of x) (all_bytes xs) w.0)), w.2)

-- a part has a first byte
abbrev pub Some : List ℕ → Type 0
Some [] = ⊥
Some (b ∷ bs) = Unit {0}

passed_some : (fresh : Bool) (s rest : List ℕ) → IsPassed fresh s rest → Some s
passed_some fresh s rest (inl p) = subst Some (sym p.cut) tt
passed_some fresh s rest (inr (inl p)) = subst Some (sym p.cut) tt
passed_some fresh s rest (inr (inr (inl p))) = subst Some (sym p.cut) tt
passed_some fresh s rest (inr (inr (inr p))) = subst Some (sym p.cut) tt

pub part_some : (fresh : Bool) (p : Part) (rest : List ℕ) → IsPartBefore fresh p rest → Some (bytes_of p)
part_some fresh (Passed s) rest h = passed_some fresh s rest h
part_some fresh (Spelled k []) rest h = absurd (not_empty k h.0.form)
part_some fresh (Spelled k (b ∷ s)) rest h = tt

pub apart_same : (s x y : List ℕ) → Some s → IsApart (s ++ x) → IsApart (s ++ y)
apart_same [] x y some h = absurd some
apart_same (b ∷ s) x y some h = h

-- ---- patches

-- a part that stays, or parts in the place of others
pub data Patch : Type 0 where
  Keep : Part → Patch
  Swap : List Part → List Part → Patch

abbrev pub olds : List Patch → List Part
olds [] = []
olds (Keep p ∷ ps) = p ∷ olds ps
olds (Swap old new ∷ ps) = old ++ olds ps

abbrev pub news : List Patch → List Part
news [] = []
news (Keep p ∷ ps) = p ∷ news ps
news (Swap old new ∷ ps) = new ++ news ps

-- Both begin with `o`, nothing is remembered behind them, and the new ones stand wherever nothing stands directly before.
pub record IsSwap (old new : List Part) : Type 0 where
  pub old_first : (x : List ℕ) × (all_bytes old ≡ 111 ∷ x)
  pub new_first : (x : List ℕ) × (all_bytes new ≡ 111 ∷ x)
  pub apart : (stop : Stop) (fresh number : Bool) (bs : List ℕ) (ps : List Part) → AreParts stop fresh number bs (old ++ ps) → number ≡ true → IsApart bs
  pub not_fresh : (fresh : Bool) → fresh_behind fresh old ≡ false
  pub no_number : (number : Bool) → number_behind number old ≡ false
  pub stand : (stop : Stop) (fresh number : Bool) (bs : List ℕ) (ps : List Part) → (number ≡ true → ⊥) → AreParts stop false false bs ps → AreParts stop fresh number (all_bytes new ++ bs) (new ++ ps)

abbrev pub AreSwaps : List Patch → Type 0
AreSwaps [] = Unit {0}
AreSwaps (Keep p ∷ ps) = AreSwaps ps
AreSwaps (Swap old new ∷ ps) = IsSwap old new × AreSwaps ps

-- ---- what stands ahead of a part is alike

-- bytes that have a front in common, and then a letter
record Meets (a b : List ℕ) : Type 0 where
  pub front : List ℕ
  pub byte : ℕ
  pub one : List ℕ
  pub other : List ℕ
  pub is : letter byte ≡ true
  pub first : a ≡ front ++ byte ∷ one
  pub second : b ≡ front ++ byte ∷ other

abbrev Alike : List ℕ → List ℕ → Type 0
Alike a b = (a ≡ b) ⊎ Meets a b

behind : (s a b : List ℕ) → Alike a b → Alike (s ++ a) (s ++ b)
behind s a b (inl e) = inl (ap (λ z. s ++ z) e)
behind s a b (inr m) = inr (record {
  front = s ++ m.front;
  byte = m.byte;
  one = m.one;
  other = m.other;
  is = m.is;
  first = ap (λ z. s ++ z) m.first ∙ sym (append_assoc s m.front (m.byte ∷ m.one));
  second = ap (λ z. s ++ z) m.second ∙ sym (append_assoc s m.front (m.byte ∷ m.other));
})

alike : (ps : List Patch) → AreSwaps ps → Alike (all_bytes (olds ps)) (all_bytes (news ps))
alike [] h = inl refl
alike (Keep p ∷ ps) h = behind (bytes_of p) (all_bytes (olds ps)) (all_bytes (news ps)) (alike ps h)
alike (Swap old new ∷ ps) h = inr (record {
  front = [];
  byte = 111;
  one = h.0.old_first.0 ++ all_bytes (olds ps);
  other = h.0.new_first.0 ++ all_bytes (news ps);
  is = refl;
  first = all_bytes-append old (olds ps) ∙ ap (λ z. z ++ all_bytes (olds ps)) h.0.old_first.1;
  second = all_bytes-append new (news ps) ∙ ap (λ z. z ++ all_bytes (news ps)) h.0.new_first.1;
})

kept_before : (fresh : Bool) (p : Part) (a b : List ℕ) → Alike a b → IsPartBefore fresh p a → IsPartBefore fresh p b
kept_before fresh p a b (inl e) h = subst (IsPartBefore fresh p) e h
kept_before fresh p a b (inr m) h =
    subst (IsPartBefore fresh p) (sym m.second) (part_kept fresh p m.front m.byte (m.byte ∷ m.one) m.other (inl (m.one, refl, m.is)) (subst (IsPartBefore fresh p) m.first h))

-- The new parts are those of the new bytes.
pub spliced : (ps : List Patch) (fresh number : Bool) → AreSwaps ps → AreParts AtEnd fresh number (all_bytes (olds ps)) (olds ps) → AreParts AtEnd fresh number (all_bytes (news ps)) (news ps)
spliced [] fresh number h a = a
spliced (Keep p ∷ ps) fresh number h a =
    let old : List ℕ = all_bytes (olds ps) in
    let new : List ℕ = all_bytes (news ps) in
    let same : a.1.0 ≡ old = sym (append_cancel_left (bytes_of p) old a.1.0 a.1.1) in
    let later : AreParts AtEnd (is_fresh_behind fresh p) (is_number_part p) old (olds ps) =
    subst (λ z. AreParts AtEnd (is_fresh_behind fresh p) (is_number_part p) z (olds ps)) same a.1.3 in (
      (λ n. apart_same (bytes_of p) old new (part_some fresh p a.1.0 a.1.2) (a.0 n)),
      (
        new,
        refl,
        kept_before fresh p old new (alike ps h) (subst (IsPartBefore fresh p) same a.1.2),
        spliced ps (is_fresh_behind fresh p) (is_number_part p) h later,
      ),
    )
spliced (Swap old new ∷ ps) fresh number h a =
    let rest : List ℕ = all_bytes (olds ps) in
    let split : all_bytes (old ++ olds ps) ≡ all_bytes old ++ rest = all_bytes-append old (olds ps) in
    let w = left_behind AtEnd fresh number (all_bytes (old ++ olds ps)) old (olds ps) a in
    let same : w.0 ≡ rest = sym (append_cancel_left (all_bytes old) rest w.0 (sym split ∙ w.1)) in
    let fresh_is : AreParts AtEnd false (number_behind number old) w.0 (olds ps) =
    subst (λ z. AreParts AtEnd z (number_behind number old) w.0 (olds ps)) (h.0.not_fresh fresh) w.2 in
    let number_is : AreParts AtEnd false false w.0 (olds ps) =
    subst (λ z. AreParts AtEnd false z w.0 (olds ps)) (h.0.no_number number) fresh_is in
    let later : AreParts AtEnd false false rest (olds ps) = subst (λ z. AreParts AtEnd false false z (olds ps)) same number_is in
    let begins : all_bytes (old ++ olds ps) ≡ 111 ∷ (h.0.old_first.0 ++ rest) = split ∙ ap (λ z. z ++ rest) h.0.old_first.1 in
    let clear : number ≡ true → ⊥ =
    λ n. true≢false (let q : IsApart (111 ∷ (h.0.old_first.0 ++ rest)) = subst IsApart begins (h.0.apart AtEnd fresh number (all_bytes (old ++ olds ps)) (olds ps) a n) in q) in
    subst (λ z. AreParts AtEnd fresh number z (new ++ news ps)) (sym (all_bytes-append new (news ps)))
    (h.0.stand AtEnd fresh number (all_bytes (news ps)) (news ps) clear (spliced ps false false h.1 later))
