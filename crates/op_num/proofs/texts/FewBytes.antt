-- Numbers of few bytes, digit after digit.
use Rattle.std.proofs.Common.{◌≡◌, ℕ, suc, ℤ, pos, neg_ℤ, ◌+◌, ◌-◌, ◌*◌, ◌^◌, ◌<◌, ◌≤◌, Bool, true, false, cond, not, ◌&&◌, nat_eq, nat_lt, nat_le, List, [], ◌∷◌, length, get_or, take, drop, Option, Some, None, IfSome, ◌-ℤ◌, to_z, of_z, w32, refl, sym, ap, ◌∙◌, arith}
use Rattle.std.proofs.lemmas.Bool.Decides.{nat_tests}
use Rattle.std.proofs.lemmas.Int.{ints, to_z-of_z}
use Rattle.std.proofs.lemmas.List.{at_drop_all}
use Rattle.std.proofs.Math.Nat.{pow-suc, pow-le-pow_right}
use Rattle.std.proofs.Math.Numerals.{one-add, add-one}
use Rattle.std.proofs.Math.Seq.{drop-cons}
use Rattle.std.specs.Char.{is_ascii_digit}
use Rattle.std.specs.List.{prefix_len}
use Rattle.op_num.specs.Spelling.{number_after, number_of, negated}
use Rattle.op_num.specs.Cut.{blank, dark}
use Rattle.op_num.specs.Short.{with_len, front_number, front_integer}

-- what the bytes from here on give behind so many digits that spelled a number
abbrev pub along : ℕ → ℕ → ℕ → List ℕ → Option (ℕ × ℕ)
along most v n [] = cond (nat_eq n 0) None (Some (v, n))
along most v n (b ∷ bs) =
    cond (is_ascii_digit b) (cond (nat_eq n most) None (along most (v * 10 + (b - 48)) (n + 1) bs)) (cond (nat_lt 0 n && blank b) (Some (v, n)) None)

-- a value of so many bytes, where they are few
abbrev counted : {A : Type 0} → ℕ → ℕ → Option A → Option (A × ℕ)
counted most k o = cond (nat_le k most) (with_len k o) None

-- the number that the bytes before the first blank spell behind those of v
abbrev spelled : ℕ → List ℕ → Option ℕ
spelled v bs = number_after v (take (prefix_len dark bs) bs)

both_none : {A : Type 0} (b : Bool) → ◌≡◌ {A = Option A} (cond b None None) None
both_none true = refl
both_none false = refl

-- behind a digit more
digit_step : (most v n : ℕ) (bs : List ℕ) → n ≤ most
    → (n + 1 ≤ most → along most v (n + 1) bs ≡ counted most (n + 1 + prefix_len dark bs) (spelled v bs))
    → cond (nat_eq n most) None (along most v (n + 1) bs) ≡ counted most (n + suc (prefix_len dark bs)) (spelled v bs)
digit_step most v n bs h r = go (nat_eq n most) refl
  where
    go : (t : Bool) → nat_eq n most ≡ t → cond t None (along most v (n + 1) bs) ≡ counted most (n + suc (prefix_len dark bs)) (spelled v bs)
    go true t = let e : nat_le (n + suc (prefix_len dark bs)) most ≡ false = grind (arith, nat_tests) in rw e refl
    go false t =
        let m : n + 1 ≤ most = grind (arith, nat_tests) in
        let e : n + 1 + prefix_len dark bs ≡ n + suc (prefix_len dark bs) = omega arith in
        r m ∙ ap (λ k. counted most k (spelled v bs)) e

along_by : (most v n b : ℕ) (bs : List ℕ) (d t : Bool) → is_ascii_digit b ≡ d → blank b ≡ t → n ≤ most → 0 < n
    → (n + 1 ≤ most → along most (v * 10 + (b - 48)) (n + 1) bs ≡ counted most (n + 1 + prefix_len dark bs)
    (spelled (v * 10 + (b - 48)) bs)) → cond d (cond (nat_eq n most) None (along most (v * 10 + (b - 48)) (n + 1) bs))
    (cond (nat_lt 0 n && t) (Some (v, n)) None) ≡ counted most (n + cond (not t) (1 + prefix_len dark bs) 0)
    (number_after v (take (cond (not t) (1 + prefix_len dark bs) 0) (b ∷ bs)))
along_by most v n b bs true true d t h s r = let e : blank b ≡ false = grind (arith, nat_tests) in cc
along_by most v n b bs true false d t h s r = rw (one-add (prefix_len dark bs)) (rw d (digit_step most (v * 10 + (b - 48)) n bs h r))
along_by most v n b bs false true d t h s r =
    let z : nat_lt 0 n ≡ true = grind (arith, nat_tests) in
    let l : nat_le (n + 0) most ≡ true = grind (arith, nat_tests) in
    let e : n ≡ n + 0 = omega arith in
    rw z (rw l (ap (λ k. Some (v, k)) e))
along_by most v n b bs false false d t h s r =
    let z : nat_lt 0 n ≡ true = grind (arith, nat_tests) in
    rw z (rw (one-add (prefix_len dark bs)) (rw d (sym (both_none (nat_le (n + suc (prefix_len dark bs)) most)))))

along_is : (most v n : ℕ) (bs : List ℕ) → n ≤ most → 0 < n → along most v n bs ≡ counted most (n + prefix_len dark bs) (spelled v bs)
along_is most v n [] h s =
    let z : nat_eq n 0 ≡ false = grind (arith, nat_tests) in
    let l : nat_le (n + 0) most ≡ true = grind (arith, nat_tests) in
    let e : n ≡ n + 0 = omega arith in
    rw z (rw l (ap (λ k. Some (v, k)) e))
along_is most v n (b ∷ bs) h s = along_by most v n b bs (is_ascii_digit b) (blank b) refl refl h s (λ m. along_is most (v * 10 + (b - 48)) (n + 1) bs m (omega arith))

front_by : (most b : ℕ) (bs : List ℕ) (d t : Bool) → is_ascii_digit b ≡ d → blank b ≡ t
    → cond d (cond (nat_eq 0 most) None (along most (0 * 10 + (b - 48)) 1 bs)) None ≡ counted most (cond (not t) (1 + prefix_len dark bs) 0)
    (number_of (take (cond (not t) (1 + prefix_len dark bs) 0) (b ∷ bs)))
front_by most b bs true true d t = let e : blank b ≡ false = grind (arith, nat_tests) in cc
front_by most b bs true false d t =
    let e : 0 + suc (prefix_len dark bs) ≡ suc (prefix_len dark bs) = omega arith in
    rw (one-add (prefix_len dark bs))
    (rw d (digit_step most (0 * 10 + (b - 48)) 0 bs (omega arith) (λ m. along_is most (0 * 10 + (b - 48)) 1 bs m (omega arith))
    ∙ ap (λ k. counted most k (spelled (0 * 10 + (b - 48)) bs)) e))
front_by most b bs false true d t = sym (both_none (nat_le 0 most))
front_by most b bs false false d t = rw (one-add (prefix_len dark bs)) (rw d (sym (both_none (nat_le (suc (prefix_len dark bs)) most))))

front_is : (most : ℕ) (bs : List ℕ) → along most 0 0 bs ≡ front_number most bs
front_is most [] = sym (both_none (nat_le 0 most))
front_is most (b ∷ bs) = front_by most b bs (is_ascii_digit b) (blank b) refl refl

along-digit : (most v n b : ℕ) (bs : List ℕ) → is_ascii_digit b ≡ true → along most v n (b ∷ bs) ≡ cond (nat_eq n most) None (along most (v * 10 + (b - 48)) (n + 1) bs)
along-digit most v n b bs d = rw d refl

along-other : (most v n b : ℕ) (bs : List ℕ) → is_ascii_digit b ≡ false → along most v n (b ∷ bs) ≡ cond (nat_lt 0 n && blank b) (Some (v, n)) None
along-other most v n b bs d = rw d refl

some_or_none : (v n : ℕ) → cond {A = Option (ℕ × ℕ)} (nat_eq n 0) None (Some (v, n)) ≡ cond (nat_lt 0 n && blank 10) (Some (v, n)) None
some_or_none v n = go (nat_eq n 0) refl
  where
    go : (t : Bool) → nat_eq n 0 ≡ t → cond {A = Option (ℕ × ℕ)} t None (Some (v, n)) ≡ cond (nat_lt 0 n && blank 10) (Some (v, n)) None
    go true t = let e : nat_lt 0 n ≡ false = grind (arith, nat_tests) in rw e refl
    go false t = let e : nat_lt 0 n ≡ true = grind (arith, nat_tests) in rw e refl

-- the digits before a place spelled a number
module _ (most v n : ℕ) (bs : List ℕ) (so_far : along most 0 0 bs ≡ along most v n (drop n bs)) where
  -- at a byte that is no digit
  pub ends_at : n < length bs → is_ascii_digit (get_or bs n 0) ≡ false → front_number most bs ≡ cond (nat_lt 0 n && blank (get_or bs n 0)) (Some (v, n)) None
  ends_at h d = sym (front_is most bs) ∙ so_far ∙ ap (along most v n) (drop-cons bs n 0 h) ∙ along-other most v n (get_or bs n 0) (drop (suc n) bs) d

  -- at a digit more than may stand there
  pub too_many : n < length bs → is_ascii_digit (get_or bs n 0) ≡ true → n ≡ most → front_number most bs ≡ None
  too_many h d e =
      let t : nat_eq n most ≡ true = grind (arith, nat_tests) in
      sym (front_is most bs) ∙ so_far ∙ ap (along most v n) (drop-cons bs n 0 h) ∙ along-digit most v n (get_or bs n 0) (drop (suc n) bs) d ∙ rw t refl

  -- behind a digit
  pub one_more : (x : ℕ) → n < length bs → is_ascii_digit (get_or bs n 0) ≡ true → (n ≡ most → ⊥) → x ≡ v * 10 + (get_or bs n 0 - 48) → along most 0 0 bs ≡ along most x (n + 1) (drop (n + 1) bs)
  one_more x h d e is =
      let t : nat_eq n most ≡ false = grind (arith, nat_tests) in
      so_far ∙ ap (along most v n) (drop-cons bs n 0 h) ∙ along-digit most v n (get_or bs n 0) (drop (suc n) bs) d
      ∙ rw t (ap (λ y. along most y (n + 1) (drop (suc n) bs)) (sym is) ∙ ap (λ k. along most x (n + 1) (drop k bs)) (sym (add-one n)))

  -- at the end, which counts as a blank
  pub all_digits : n ≡ length bs → front_number most bs ≡ cond (nat_lt 0 (length bs) && blank 10) (Some (v, length bs)) None
  all_digits e =
      let l : length bs ≤ n = omega arith in
      sym (front_is most bs) ∙ so_far ∙ at_drop_all (along most v n) bs n l ∙ some_or_none v n ∙ ap (λ k. cond (nat_lt 0 k && blank 10) (Some (v, k)) None) e

pub digit_small : (b : ℕ) → is_ascii_digit b ≡ true → b - 48 < 10
digit_small b d = grind (arith, nat_tests)

pub below_more : (v n d x : ℕ) → v < 10 ^ n → d < 10 → x ≡ v * 10 + d → x < 10 ^ (n + 1)
below_more v n d x h s e = rw (add-one n) (rw (pow-suc 10 n) (omega arith))

pub below_all : (v n k : ℕ) → v < 10 ^ n → n ≤ k → v < 10 ^ k
below_all v n k h m = let t : 0 < 10 = omega arith in let p : 10 ^ n ≤ 10 ^ k = pow-le-pow_right t m in omega arith

-- a number of at most nine digits fits
pub small_some : (b : Bool) (v n : ℕ) (r : Option (ℕ × ℕ)) → r ≡ cond b (Some (v, n)) None → v < 2 ^ 31 → IfSome r (λ x. x.0 < 2 ^ 31)
small_some true v n r e h = rw e h
small_some false v n r e h = rw e tt

-- its value behind a sign
pub neg_value : (n : ℕ) → n < 2 ^ 31 → to_z w32 (of_z w32 (pos 0 -ℤ to_z w32 n)) ≡ neg_ℤ (pos n)
neg_value n h = grind (arith, ints, to_z-of_z)

-- the number behind a sign, and without one
abbrev pub minus : Option (ℕ × ℕ) → Option (ℤ × ℕ)
minus None = None
minus (Some r) = Some (neg_ℤ (pos r.0), r.1 + 1)

minus_by : (b : Bool) (k : ℕ) (o : Option ℕ) → cond b (with_len (suc k) (negated o)) None ≡ minus (cond b (with_len k o) None)
minus_by true k None = refl
minus_by true k (Some n) = ap (λ j. Some (neg_ℤ (pos n), j)) (sym (add-one k))
minus_by false k o = refl

pub front-minus : (ds : List ℕ) → front_integer (45 ∷ ds) ≡ minus (front_number 8 ds)
front-minus ds =
    let k = prefix_len dark ds in
    let e : nat_le (suc k) 9 ≡ nat_le k 8 = grind (arith, nat_tests) in
    rw (one-add (prefix_len dark ds)) (ap (λ b. cond b (with_len (suc k) (negated (number_of (take k ds)))) None) e ∙ minus_by (nat_le k 8) k (number_of (take k ds)))
