-- A number of few bytes as the next token.
use Rattle.std.proofs.Common.{◌≡◌, ℕ, suc, zero, ℤ, ◌≤◌, Bool, true, false, cond, nat_le, List, length, take, drop, Option, Some, None, refl, sym, ap, ◌∙◌, arith}
use Rattle.std.proofs.lemmas.List.{length-take-le}
use Rattle.std.specs.List.{prefix_len}
use Rattle.op_num.specs.Spelling.{integer_of}
use Rattle.op_num.specs.Cut.{dark, words, Uncut, first_of, IsDark}
use Rattle.op_num.specs.Short.{short_of, with_len, front_integer}
use Rattle.op_num.proofs.texts.Cutting.{no_token, a_token}

-- the value, where there is one
abbrev pub value_of : Option (ℤ × ℕ) → Option ℤ
value_of None = None
value_of (Some r) = Some r.0

value_by : (b : Bool) (n : ℕ) (o : Option ℤ) → value_of (cond b (with_len n o) None) ≡ cond b o None
value_by true n None = refl
value_by true n (Some z) = refl
value_by false n o = refl

len_by : (b : Bool) (k n : ℕ) (z : ℤ) (o : Option ℤ) → Some (z, k) ≡ cond b (with_len n o) None → (k ≡ n) × (o ≡ Some z)
len_by true k n z None h = cc
len_by true k n z (Some y) h = let e : (z, k) ≡ (y, n) = cc in (ap (λ (p : ℤ × ℕ). p.1) e, ap (λ (p : ℤ × ℕ). Some p.0) (sym e))
len_by false k n z o h = cc

-- the bytes of a short number are those of a token
pub front_len : (z : ℤ) (k : ℕ) (rest : List ℕ) → Some (z, k) ≡ front_integer rest → (k ≡ prefix_len dark rest) × (k ≡ 0 → ⊥)
front_len z k rest h =
    let l = len_by (nat_le (prefix_len dark rest) 9) k (prefix_len dark rest) z (integer_of (take (prefix_len dark rest) rest)) h in (
      l.0,
      λ e. (let n : integer_of (take (prefix_len dark rest) rest) ≡ None = ap (λ j. integer_of (take j rest)) (sym l.0 ∙ e) in
          let o : integer_of (take (prefix_len dark rest) rest) ≡ Some z = l.1 in cc),
    )

module _ (u : Uncut) (last line at : ℕ) (bytes rest : List ℕ) (view : record { last = last; words = words line bytes } ≡ u)
    (same : words line bytes ≡ words at rest) (front : IsDark rest) (within : prefix_len dark rest ≤ length rest) where
  -- what the next token spells is what stands at the front
  pub front_short : value_of (front_integer rest) ≡ short_of (first_of u)
  front_short = go (prefix_len dark rest) refl
    where
      go : (n : ℕ) → prefix_len dark rest ≡ n → value_of (front_integer rest) ≡ short_of (first_of u)
      go zero e =
          ap (λ k. value_of (cond (nat_le k 9) (with_len k (integer_of (take k rest))) None)) e
          ∙ ap short_of (no_token u last line at bytes rest view same front e).0
      go (suc n) e =
          let some : suc n ≡ 0 → ⊥ = λ z. omega arith in
          let token = (a_token u last line at (suc n) bytes rest (take (suc n) rest) (drop (suc n) rest) view same front (sym e) some refl refl).0 in
          let long : length (take (suc n) rest) ≡ suc n = length-take-le (suc n) rest (omega arith) in
          ap (λ k. value_of (cond (nat_le k 9) (with_len k (integer_of (take k rest))) None)) e
          ∙ value_by (nat_le (suc n) 9) (suc n) (integer_of (take (suc n) rest))
          ∙ ap (λ k. cond (nat_le k 9) (integer_of (take (suc n) rest)) None) (sym long)
          ∙ ap short_of token
