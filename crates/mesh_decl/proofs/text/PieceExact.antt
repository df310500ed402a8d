-- A token gives values exactly where it is spelled so.
use Rattle.std.proofs.Common.{◌≡◌, ℕ, suc, ℤ, ◌+◌, ◌-◌, ◌*◌, ◌^◌, ◌<◌, Bool, true, false, cond, ◌&&◌, inl, inr, nat_eq, nat_lt, List, [], ◌∷◌, ◌++◌, length, take, drop, Option, Some, None, Result, Ok, Err, refl, sym, ap, subst, ◌∙◌, arith, length-append}
use Rattle.std.proofs.lemmas.Bool.Decides.{nat_tests}
use Rattle.std.proofs.Math.Numerals.{one-add}
use Rattle.std.specs.Char.{is_ascii_digit}
use Rattle.std.specs.List.{prefix_len, list_all}
use Rattle.op_num.specs.Spelling.{number_after, number_of, integer_of, negated, plain, u64_judged, i32_judged}
use Rattle.op_num.specs.declared.refusals.NumRefusal.{NumRefusal}
use Rattle.op_num.specs.declared.refusals.NumRefusal.TheVariants.{NotDigits, TooLarge}
use Rattle.mesh_decl.specs.declared.text.entry.Form.{Form}
use Rattle.mesh_decl.specs.declared.text.entry.Form.TheVariants as form
use Rattle.mesh_decl.specs.declared.text.piece.Piece.TheVariants.{Values, OutOfRange, NoTimes}
use Rattle.mesh_decl.specs.Piece.{IsValue, Gives, no_star, one_value, value_piece, times_piece, run_of, run_piece, split_piece, piece_of}
use Rattle.lemmas.proofs.Truth.{ok_then}
use Rattle.std.proofs.Math.Seq.{drop-append_seam, take-append_seam}

value_sound : (r : Result ℤ NumRefusal) (n : ℕ) (z : ℤ) → one_value r ≡ Values n z → (n ≡ 1) × (r ≡ Ok z)
value_sound (Ok y) n z h = (cc, cc)
value_sound (Err TooLarge) n z h = cc
value_sound (Err NotDigits) n z h = cc

times_sound : (m n : ℕ) (y z : ℤ) → times_piece m y ≡ Values n z → (m ≡ n) × (y ≡ z) × (0 < m) × (m < 2 ^ 31)
times_sound m n y z h = go (nat_lt m (2 ^ 31)) (nat_eq m 0) refl refl h
  where
    go : (a b : Bool) → nat_lt m (2 ^ 31) ≡ a → nat_eq m 0 ≡ b → cond a (cond b NoTimes (Values m y)) OutOfRange ≡ Values n z → (m ≡ n) × (y ≡ z) × (0 < m) × (m < 2 ^ 31)
    go true false a b h = (cc, cc, grind (arith, nat_tests), grind (arith, nat_tests))
    go true true a b h = cc
    go false b a c h = cc

run_sound : (r : Result ℕ NumRefusal) (s : Result ℤ NumRefusal) (n : ℕ) (z : ℤ) → run_of r s ≡ Values n z → (r ≡ Ok n) × (s ≡ Ok z) × (0 < n) × (n < 2 ^ 31)
run_sound (Ok m) (Ok y) n z h = let k = times_sound m n y z h in (ap Ok k.0, ap Ok k.1, subst (λ x. 0 < x) k.0 k.2, subst (λ x. x < 2 ^ 31) k.0 k.3)
run_sound (Ok m) (Err TooLarge) n z h = cc
run_sound (Ok m) (Err NotDigits) n z h = cc
run_sound (Err NotDigits) s n z h = cc
run_sound (Err TooLarge) (Ok y) n z h = cc
run_sound (Err TooLarge) (Err TooLarge) n z h = cc
run_sound (Err TooLarge) (Err NotDigits) n z h = cc

u64_some : (o : Option ℕ) (n : ℕ) → u64_judged o ≡ Ok n → o ≡ Some n
u64_some None n h = cc
u64_some (Some m) n h = let k = ok_then (nat_lt m (2 ^ 64)) (Ok m) TooLarge n h in let e : m ≡ n = cc in ap Some e

u64_ok : (o : Option ℕ) (n : ℕ) → o ≡ Some n → n < 2 ^ 31 → u64_judged o ≡ Ok n
u64_ok o n e h = let b : nat_lt n (2 ^ 64) ≡ true = grind (arith, nat_tests) in rw e (rw b refl)

-- the bytes before the first `*`, and those behind it
star_by : (b : ℕ) (bs : List ℕ) (t : Bool) → no_star b ≡ t → nat_eq (cond t (1 + prefix_len no_star bs) 0) (suc (length bs)) ≡ false
    → (nat_eq (prefix_len no_star bs) (length bs) ≡ false → bs ≡ take (prefix_len no_star bs) bs ++ 42
    ∷ drop 1 (drop (prefix_len no_star bs) bs)) → b ∷ bs ≡ take (cond t (1 + prefix_len no_star bs) 0) (b ∷ bs) ++ 42
    ∷ drop 1 (drop (cond t (1 + prefix_len no_star bs) 0) (b ∷ bs))
star_by b bs true t h r =
    let k : nat_eq (prefix_len no_star bs) (length bs) ≡ false = grind (arith, nat_tests) in
    rw (one-add (prefix_len no_star bs)) (ap (λ xs. b ∷ xs) (r k))
star_by b bs false t h r = let e : b ≡ 42 = grind (arith, nat_tests) in ap (λ x. x ∷ bs) e

split_star : (text : List ℕ) → nat_eq (prefix_len no_star text) (length text) ≡ false → text ≡ take (prefix_len no_star text) text ++ 42 ∷ drop 1 (drop (prefix_len no_star text) text)
split_star [] h = cc
split_star (b ∷ bs) h = star_by b bs (no_star b) refl h (λ k. split_star bs k)

split_sound : (text : List ℕ) (n : ℕ) (z : ℤ) → piece_of form.Two text ≡ Values n z → Gives form.Two text n z × (0 < n) × (n < 2 ^ 31)
split_sound text n z h = go (nat_eq (prefix_len no_star text) (length text)) refl h
  where
    go : (t : Bool) → nat_eq (prefix_len no_star text) (length text) ≡ t
        → cond t (value_piece text) (run_piece (take (prefix_len no_star text) text) (drop 1 (drop (prefix_len no_star text) text))) ≡
        Values n z → Gives form.Two text n z × (0 < n) × (n < 2 ^ 31)
    go true t h = let k = value_sound (i32_judged (integer_of text)) n z h in let one : n ≡ 1 = k.0 in (inl k, omega arith, omega arith)
    go false t h =
        let k = run_sound (u64_judged (number_of (take (prefix_len no_star text) text))) (i32_judged (integer_of (drop 1 (drop (prefix_len no_star text) text)))) n z h in (
          inr (record {
            times = take (prefix_len no_star text) text;
            value = drop 1 (drop (prefix_len no_star text) text);
            whole =
                split_star text t;
            number = u64_some (number_of (take (prefix_len no_star text) text)) n k.0;
            some = k.2;
            fits = k.3;
            spells =
                k.1;
          }),
          k.2,
          k.3,
        )

pub piece_sound : (f : Form) (text : List ℕ) (n : ℕ) (z : ℤ) → piece_of f text ≡ Values n z → Gives f text n z × (0 < n) × (n < 2 ^ 31)
piece_sound form.One text n z h = let k = value_sound (i32_judged (integer_of text)) n z h in let one : n ≡ 1 = k.0 in (k, omega arith, omega arith)
piece_sound form.Two text n z h = split_sound text n z h

-- numbers have no `*`
digits_by : (m c : ℕ) (cs : List ℕ) (n : ℕ) (t : Bool) → is_ascii_digit c ≡ t → cond t (number_after (m * 10 + (c - 48)) cs) None ≡ Some n
    → (number_after (m * 10 + (c - 48)) cs ≡ Some n → list_all no_star cs ≡ true) → (no_star c && list_all no_star cs) ≡ true
digits_by m c cs n true t h r = let b : no_star c ≡ true = grind (arith, nat_tests) in rw b (r h)
digits_by m c cs n false t h r = cc

digits_no_star : (m : ℕ) (ds : List ℕ) (n : ℕ) → number_after m ds ≡ Some n → list_all no_star ds ≡ true
digits_no_star m [] n h = refl
digits_no_star m (c ∷ cs) n h = digits_by m c cs n (is_ascii_digit c) refl h (λ k. digits_no_star (m * 10 + (c - 48)) cs n k)

number_no_star : (ds : List ℕ) (n : ℕ) → number_of ds ≡ Some n → list_all no_star ds ≡ true
number_no_star [] n h = refl
number_no_star (c ∷ cs) n h = digits_no_star 0 (c ∷ cs) n h

plain_some : (o : Option ℕ) (z : ℤ) → plain o ≡ Some z → (n : ℕ) × (o ≡ Some n)
plain_some None z h = cc
plain_some (Some n) z h = (n, refl)

negated_some : (o : Option ℕ) (z : ℤ) → negated o ≡ Some z → (n : ℕ) × (o ≡ Some n)
negated_some None z h = cc
negated_some (Some n) z h = (n, refl)

integer_no_star : (text : List ℕ) (z : ℤ) → integer_of text ≡ Some z → list_all no_star text ≡ true
integer_no_star [] z h = refl
integer_no_star (c ∷ cs) z h = go (nat_eq c 45) refl h
  where
    go : (t : Bool) → nat_eq c 45 ≡ t → cond t (negated (number_of cs)) (plain (number_of (c ∷ cs))) ≡ Some z → list_all no_star (c ∷ cs) ≡ true
    go true t h = let k = negated_some (number_of cs) z h in let b : no_star c ≡ true = grind (arith, nat_tests) in rw b (number_no_star cs k.0 k.1)
    go false t h = let k = plain_some (number_of (c ∷ cs)) z h in number_no_star (c ∷ cs) k.0 k.1

judged_some : (o : Option ℤ) (z : ℤ) → i32_judged o ≡ Ok z → (y : ℤ) × (o ≡ Some y)
judged_some None z h = cc
judged_some (Some y) z h = (y, refl)

len_by : (x : ℕ) (xs : List ℕ) (t : Bool) → no_star x ≡ t → (t && list_all no_star xs) ≡ true
    → (list_all no_star xs ≡ true → prefix_len no_star xs ≡ length xs) → cond t (1 + prefix_len no_star xs) 0 ≡ suc (length xs)
len_by x xs true t h r = one-add (prefix_len no_star xs) ∙ ap suc (r h)
len_by x xs false t h r = cc

no_star_len : (xs : List ℕ) → list_all no_star xs ≡ true → prefix_len no_star xs ≡ length xs
no_star_len [] h = refl
no_star_len (x ∷ xs) h = len_by x xs (no_star x) refl h (λ k. no_star_len xs k)

star_len_by : (x : ℕ) (xs v : List ℕ) (t : Bool) → no_star x ≡ t → (t && list_all no_star xs) ≡ true
    → (list_all no_star xs ≡ true → prefix_len no_star (xs ++ 42 ∷ v) ≡ length xs)
    → cond t (1 + prefix_len no_star (xs ++ 42 ∷ v)) 0 ≡ suc (length xs)
star_len_by x xs v true t h r = one-add (prefix_len no_star (xs ++ 42 ∷ v)) ∙ ap suc (r h)
star_len_by x xs v false t h r = cc

star_len : (xs v : List ℕ) → list_all no_star xs ≡ true → prefix_len no_star (xs ++ 42 ∷ v) ≡ length xs
star_len [] v h = refl
star_len (x ∷ xs) v h = star_len_by x xs v (no_star x) refl h (λ k. star_len xs v k)

value_complete : (text : List ℕ) (z : ℤ) → IsValue text z → value_piece text ≡ Values 1 z
value_complete text z h = ap one_value h

times_complete : (n : ℕ) (z : ℤ) → 0 < n → n < 2 ^ 31 → times_piece n z ≡ Values n z
times_complete n z s f =
    let a : nat_lt n (2 ^ 31) ≡ true = grind (arith, nat_tests) in
    let b : nat_eq n 0 ≡ false = grind (arith, nat_tests) in
    rw a (rw b refl)

run_complete : (times value : List ℕ) (n : ℕ) (z : ℤ) → number_of times ≡ Some n → 0 < n → n < 2 ^ 31 → IsValue value z → run_piece times value ≡ Values n z
run_complete times value n z e s f v = ap (λ r. run_of r (i32_judged (integer_of value))) (u64_ok (number_of times) n e f) ∙ ap (run_of (Ok n)) v ∙ times_complete n z s f

whole_value : (text : List ℕ) (z : ℤ) → IsValue text z → piece_of form.Two text ≡ Values 1 z
whole_value text z h =
    let y = judged_some (integer_of text) z h in
    let len : prefix_len no_star text ≡ length text = no_star_len text (integer_no_star text y.0 y.1) in
    let t : nat_eq (prefix_len no_star text) (length text) ≡ true = grind (arith, nat_tests) in
    ap (λ b. cond b (value_piece text) (run_piece (take (prefix_len no_star text) text) (drop 1 (drop (prefix_len no_star text) text)))) t ∙ value_complete text z h

whole_run : (times value : List ℕ) (n : ℕ) (z : ℤ) → number_of times ≡ Some n → 0 < n → n < 2 ^ 31 → IsValue value z → piece_of form.Two (times ++ 42 ∷ value) ≡ Values n z
whole_run times value n z e s f v =
    let text = times ++ 42 ∷ value in
    let len : prefix_len no_star text ≡ length times = star_len times value (number_no_star times n e) in
    let more : length text ≡ length times + suc (length value) = length-append times (42 ∷ value) in
    let t : nat_eq (length times) (length text) ≡ false = grind (arith, nat_tests) in
    ap (λ k. split_piece k text) len
    ∙ ap (λ b. cond b (value_piece text) (run_piece (take (length times) text) (drop 1 (drop (length times) text)))) t
    ∙ ap (λ xs. run_piece xs (drop 1 (drop (length times) text))) (take-append_seam times (42 ∷ value))
    ∙ ap (λ xs. run_piece times (drop 1 xs)) (drop-append_seam times (42 ∷ value))
    ∙ run_complete times value n z e s f v

pub piece_complete : (f : Form) (text : List ℕ) (n : ℕ) (z : ℤ) → Gives f text n z → piece_of f text ≡ Values n z
piece_complete form.One text n z g = value_complete text z g.1 ∙ ap (λ k. Values k z) (sym g.0)
piece_complete form.Two text n z (inl g) = whole_value text z g.1 ∙ ap (λ k. Values k z) (sym g.0)
piece_complete form.Two text n z (inr r) = ap (piece_of form.Two) r.whole ∙ whole_run r.times r.value n z r.number r.some r.fits r.spells

-- a token gives at least one value
pub gives_some : (f : Form) (text : List ℕ) (n : ℕ) (z : ℤ) → Gives f text n z → 0 < n
gives_some form.One text n z g = let one : n ≡ 1 = g.0 in omega arith
gives_some form.Two text n z (inl g) = let one : n ≡ 1 = g.0 in omega arith
gives_some form.Two text n z (inr r) = r.some
