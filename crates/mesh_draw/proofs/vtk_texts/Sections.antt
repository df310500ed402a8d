-- Lines one behind another, and sections made of them.
use Rattle.std.proofs.Common.{◌≡◌, ℕ, zero, suc, ◌+◌, ◌*◌, ◌<◌, ◌≤◌, List, [], ◌∷◌, ◌++◌, map, length, sum_by, codes, sym, ap, ◌∙◌, append_assoc, append-nil, arith}
use Rattle.std.specs.List.{range_with_len, concat}
use Rattle.std.specs.Fmt.{decimal}
use Rattle.std.proofs.lemmas.List.{flat_map_more}
use Rattle.std.proofs.lemmas.List.Folds.{concat-append}
use Rattle.std.proofs.lemmas.List.Sums.{sum_by-cons}
use Rattle.std.proofs.Math.Nat.{suc-mul}
use Rattle.std.proofs.lemmas.List.FromFn.{length-map-range_with_len, map-range_with_len_more}
use Rattle.mesh_draw.specs.Text.{spaced, number_line, counted_lines}

-- a row of a table lies within it
pub row_within : (n i d len : ℕ) → i < n → len ≡ n * d → i * d + d ≤ len
row_within n i d len l e = grind (arith, l, e)

-- one line more of some that are made from numbers
pub line_more : (f : ℕ → List ℕ) (n : ℕ) (old between now : List ℕ)
    → between ≡ old ++ concat (map f (range_with_len 0 n))
    → now ≡ between ++ f n
    → now ≡ old ++ concat (map f (range_with_len 0 (n + 1)))
line_more f n old between now b e =
    let lines : List (List ℕ) = map f (range_with_len 0 n) in
    let more : map f (range_with_len 0 (n + 1)) ≡ lines ++ f n ∷ [] = map-range_with_len_more f 0 n n (omega arith) in
    let whole : concat (lines ++ f n ∷ []) ≡ concat lines ++ f n =
    concat-append lines (f n ∷ []) ∙ ap (λ (t : List ℕ). concat lines ++ t) (append-nil (f n)) in
    e ∙ ap (λ (t : List ℕ). t ++ f n) b ∙ append_assoc old (concat lines) (f n)
    ∙ sym (ap (λ (t : List ℕ). old ++ t) (ap concat more ∙ whole))

-- one number more behind a space
pub number_more : (f : ℕ → ℕ) (n k : ℕ) (old between gapped now : List ℕ)
    → between ≡ old ++ spaced (map f (range_with_len 0 n))
    → gapped ≡ between ++ 32 ∷ []
    → now ≡ gapped ++ decimal k
    → k ≡ f n
    → now ≡ old ++ spaced (map f (range_with_len 0 (n + 1)))
number_more f n k old between gapped now b g e is =
    let ns : List ℕ = map f (range_with_len 0 n) in
    let more : map f (range_with_len 0 (n + 1)) ≡ ns ++ f n ∷ [] = map-range_with_len_more f 0 n n (omega arith) in
    e ∙ ap (λ (t : List ℕ). t ++ decimal k) g ∙ append_assoc between (32 ∷ []) (decimal k)
    ∙ ap (λ (t : List ℕ). t ++ 32 ∷ decimal k) b
    ∙ ap (λ (m : ℕ). (old ++ spaced ns) ++ 32 ∷ decimal m) is
    ∙ flat_map_more (λ (m : ℕ). 32 ∷ decimal m) old ns (f n)
    ∙ sym (ap (λ (ms : List ℕ). old ++ spaced ms) more)

-- a line of numbers, put together
pub number_line_put : (old a b c : List ℕ) (n m : ℕ) (ns : List ℕ)
    → a ≡ old ++ decimal n → b ≡ a ++ spaced ns → c ≡ b ++ codes "\n" → n ≡ m
    → c ≡ old ++ number_line m ns
number_line_put old a b c n m ns ea eb ec is =
    ec ∙ ap (λ (t : List ℕ). t ++ codes "\n") (eb ∙ ap (λ (t : List ℕ). t ++ spaced ns) ea ∙ append_assoc old (decimal n) (spaced ns))
    ∙ append_assoc old (decimal n ++ spaced ns) (codes "\n")
    ∙ ap (λ (k : ℕ). old ++ number_line k ns) is

-- a section, put together
pub lines_put : (word rest old a b : List ℕ) (lines : List (List ℕ)) (n : ℕ)
    → a ≡ old ++ (word ++ decimal n ++ rest)
    → b ≡ a ++ concat lines
    → n ≡ length lines
    → b ≡ old ++ counted_lines word rest lines
lines_put word rest old a b lines n ea eb len =
    eb ∙ ap (λ (t : List ℕ). t ++ concat lines) (ea ∙ ap (λ (k : ℕ). old ++ (word ++ decimal k ++ rest)) len)
    ∙ append_assoc old (word ++ decimal (length lines) ++ rest) (concat lines)

-- a section whose lines are made from numbers, put together
pub section_put : (word rest old a b : List ℕ) (f : ℕ → List ℕ) (n m : ℕ)
    → a ≡ old ++ (word ++ decimal n ++ rest)
    → b ≡ a ++ concat (map f (range_with_len 0 m))
    → n ≡ m
    → b ≡ old ++ counted_lines word rest (map f (range_with_len 0 m))
section_put word rest old a b f n m ea eb is =
    lines_put word rest old a b (map f (range_with_len 0 m)) n ea eb (is ∙ sym (length-map-range_with_len f 0 m))

-- the first part of a line, and the rest of it
pub rest_put : (word rest old a b : List ℕ) (n : ℕ)
    → a ≡ old ++ (word ++ decimal n ++ [])
    → b ≡ a ++ rest
    → b ≡ old ++ (word ++ decimal n ++ rest)
rest_put word rest old a b n ea eb =
    eb ∙ ap (λ (t : List ℕ). t ++ rest) (ea ∙ ap (λ (t : List ℕ). old ++ t) (append-nil (word ++ decimal n)))
    ∙ append_assoc old (word ++ decimal n) rest

-- the sum of one number for each of some
pub sum_of_same : (f : ℕ → ℕ) (k a m : ℕ) → ((c : ℕ) → f c ≡ k) → sum_by f (range_with_len a m) ≡ m * k
sum_of_same f k a zero h = omega arith
sum_of_same f k a (suc m) h =
    let rest : sum_by f (range_with_len (a + 1) m) ≡ m * k = sum_of_same f k (a + 1) m h in
    let step : sum_by f (range_with_len a (suc m)) ≡ f a + sum_by f (range_with_len (a + 1) m) =
    sum_by-cons f a (range_with_len (a + 1) m) in
    let product : suc m * k ≡ k + m * k = omega (arith, suc-mul m k) in
    step ∙ ap (λ (n : ℕ). n + sum_by f (range_with_len (a + 1) m)) (h a) ∙ ap (λ (n : ℕ). k + n) rest ∙ sym product

-- three parts behind others
pub three_put : (old x y z a b c : List ℕ) → a ≡ old ++ x → b ≡ a ++ y → c ≡ b ++ z → c ≡ old ++ ((x ++ y) ++ z)
three_put old x y z a b c ea eb ec =
    ec ∙ ap (λ (t : List ℕ). t ++ z) (eb ∙ ap (λ (t : List ℕ). t ++ y) ea ∙ append_assoc old x y) ∙ append_assoc old (x ++ y) z
