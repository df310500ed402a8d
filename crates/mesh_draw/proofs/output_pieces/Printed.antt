-- How many LFs there are in what is printed.
use Rattle.std.proofs.Common.{◌≡◌, ℕ, zero, suc, ℤ, pos, negsuc, ◌+◌, ◌*◌, ◌<◌, ◌≤◌, ◌/◌, ◌%◌, ◌&&◌, ◌==◌, nat_eq, Bool, true, false, cond, List, [], ◌∷◌, ◌++◌, length, take, drop, inl, inr, refl, sym, ap, ◌∙◌, append_assoc, length-drop, length-take-le, subst, arith}
use Rattle.std.proofs.lemmas.Grind.{common_steps}
use Rattle.std.specs.List.{flat_map}
use Rattle.std.specs.Fmt.{decimal, signed_decimal, digits, digits_onto, digit_glyph}
use Rattle.mesh_decl.specs.Mesh.{dat_set, dat_dim, set_size}
use Rattle.mesh_decl.specs.Printed.{rows, row_text, printed_line, printed_dat, shown}
use Rattle.mesh_draw.specs.Lines.{lines_in, EndsInLf, AreLines}
use Rattle.mesh_draw.specs.Pieces.{header, IsDat}
use Rattle.bound_program.specs.Values.{BoundValue}
use Rattle.mesh_draw.proofs.output_pieces.Counted.{lines-append, other-cons, same-cons, lines_join}

-- ---- numbers

glyph_no_lf : (d : ℕ) → digit_glyph false d ≡ 10 → ⊥
glyph_no_lf d e = grind (arith, common_steps, e)

either_lines : (t : Bool) (x y : List ℕ) (m : ℕ) → lines_in x ≡ m → lines_in y ≡ m → lines_in (cond t x y) ≡ m
either_lines true x y m p q = p
either_lines false x y m p q = q

onto_lines : (k n : ℕ) (acc : List ℕ) → lines_in (digits_onto k 10 false n acc) ≡ lines_in acc
onto_lines zero n acc = refl
onto_lines (suc k) n acc =
    let glyph = other-cons (digit_glyph false (n % 10)) acc (glyph_no_lf (n % 10)) in
    either_lines (n / 10 == 0) _ _ _ glyph (onto_lines k (n / 10) (digit_glyph false (n % 10) ∷ acc) ∙ glyph)

pub decimal_lines : (n : ℕ) → lines_in (decimal n) ≡ 0
unfolding digits
decimal_lines n = onto_lines 64 n []

signed_lines : (z : ℤ) → lines_in (signed_decimal z) ≡ 0
signed_lines (pos n) = decimal_lines n
signed_lines (negsuc n) = other-cons 45 (decimal (suc n)) (λ e. absurd (omega (arith, e))) ∙ decimal_lines (suc n)

-- ---- a text of `op_printf`

shown_lines : (zs : List ℤ) → lines_in (shown zs) ≡ 0
shown_lines [] = refl
shown_lines (z ∷ zs) = signed_lines z

is_first : (c d k : ℕ) → (nat_eq c 37 && nat_eq d k) ≡ true → c ≡ 37
is_first c d k e = grind (arith, common_steps, e)

is_second : (c d k : ℕ) → (nat_eq c 37 && nat_eq d k) ≡ true → d ≡ k
is_second c d k e = grind (arith, common_steps, e)

-- two bytes that are no LFs
two-cons : (c d k : ℕ) (ds : List ℕ) → (nat_eq c 37 && nat_eq d k) ≡ true → (k ≡ 10 → ⊥) → lines_in (c ∷ d ∷ ds) ≡ lines_in ds
two-cons c d k ds e isnt =
    let first = is_first c d k e in
    let second = is_second c d k e in
    other-cons c (d ∷ ds) (λ h. absurd (omega (arith, h, first))) ∙ other-cons d ds (λ h. isnt (sym second ∙ h))

-- the three ways of a text's first two bytes
two_lines : (c d : ℕ) (ds : List ℕ) (zs : List ℤ) (x y z : List ℕ) (t u : Bool) → (nat_eq c 37 && nat_eq d 100) ≡ t → (nat_eq c 37 && nat_eq d 37) ≡ u
    → lines_in x ≡ lines_in ds
    → lines_in y ≡ lines_in ds
    → lines_in z ≡ lines_in (d ∷ ds)
    → lines_in (cond t (shown zs ++ x) (cond u (37 ∷ y) (c ∷ z))) ≡ lines_in (c ∷ d ∷ ds)
two_lines c d ds zs x y z true u e f hx hy hz =
    let whole = lines-append (shown zs) x in
    let number = shown_lines zs in
    let bytes = two-cons c d 100 ds e (λ h. absurd (omega (arith, h))) in
    omega arith
two_lines c d ds zs x y z false true e f hx hy hz =
    other-cons 37 y (λ h. absurd (omega (arith, h))) ∙ hy ∙ sym (two-cons c d 37 ds f (λ h. absurd (omega (arith, h))))
two_lines c d ds zs x y z false false e f hx hy hz = same-cons c z (d ∷ ds) hz

pub line_lines : (text : List ℕ) (zs : List ℤ) → lines_in (printed_line text zs) ≡ lines_in text
unfolding printed_line
line_lines [] zs = refl
line_lines (c ∷ []) zs = refl
line_lines (c ∷ d ∷ ds) zs =
    two_lines c d ds zs (printed_line ds (drop 1 zs)) (printed_line ds zs) (printed_line (d ∷ ds) zs) (nat_eq c 37 && nat_eq d 100) (nat_eq c 37 && nat_eq d 37) refl refl
    (line_lines ds (drop 1 zs)) (line_lines ds zs) (line_lines (d ∷ ds) zs)

-- ---- rows

-- a value and a space in front of a line
value_front : (z : ℤ) (rest : List ℕ) → AreLines 1 rest → AreLines 1 (signed_decimal z ++ (32 ∷ rest))
value_front z rest h = record {
  count = (
      let whole = lines-append (signed_decimal z) (32 ∷ rest) in
      let number = signed_lines z in
      let space = other-cons 32 rest (λ h. absurd (omega (arith, h))) in
      let one = h.count in
      omega arith);
  ends = behind h.ends;
}
  where
    behind : EndsInLf rest → EndsInLf (signed_decimal z ++ (32 ∷ rest))
    behind (inl e) = absurd (let one = h.count in let none : lines_in rest ≡ 0 = ap lines_in e in omega arith)
    behind (inr (f, e)) = inr (signed_decimal z ++ (32 ∷ f), ap (λ x. signed_decimal z ++ (32 ∷ x)) e ∙ sym (append_assoc (signed_decimal z) (32 ∷ f) (10 ∷ [])))

row_line : (z : ℤ) (zs : List ℤ) → AreLines 1 (row_text (z ∷ zs))
row_line z [] = record {
  count = lines-append (signed_decimal z) (10 ∷ []) ∙ ap (λ n. n + 1) (signed_lines z);
  ends = inr (signed_decimal z, refl);
}
row_line z (y ∷ ys) = value_front z (row_text (y ∷ ys)) (row_line y ys)

full_row : (l : List ℤ) → 0 < length l → AreLines 1 (row_text l)
full_row [] h = absurd (omega arith)
full_row (z ∷ zs) h = row_line z zs

suc-mul : (n d : ℕ) → suc n * d ≡ d + n * d
suc-mul n d = grind arith

pub rows_lines : (dim n : ℕ) (zs : List ℤ) → 0 < dim → length zs ≡ n * dim → AreLines n (flat_map row_text (rows dim n zs))
rows_lines dim zero zs some e = record { count = refl; ends = inl refl }
rows_lines dim (suc n) zs some e =
    let whole : length zs ≡ dim + n * dim = e ∙ suc-mul n dim in
    let long : dim ≤ length zs = omega arith in
    let front : length (take dim zs) ≡ dim = length-take-le dim zs long in
    let drops = length-drop dim zs in
    let behind : length (drop dim zs) ≡ n * dim = omega arith in
    let one_more : 1 + n ≡ suc n = omega arith in
    subst (λ m. AreLines m (flat_map row_text (rows dim (suc n) zs))) one_more
    (lines_join 1 n (row_text (take dim zs)) (flat_map row_text (rows dim n (drop dim zs))) (full_row (take dim zs) (omega arith))
    (rows_lines dim n (drop dim zs) some behind))

-- a dat with as many values as it has
pub dat_lines : (b : BoundValue) (file : List ℕ) (dat : ℕ) (zs : List ℤ) → 0 < dat_dim b.mesh dat → length zs ≡ set_size b.mesh (dat_set b.mesh dat) * dat_dim b.mesh dat
    → IsDat b file dat (printed_dat file b.mesh dat zs)
unfolding printed_dat header
dat_lines b file dat zs some e = record {
  rows = flat_map row_text (rows (dat_dim b.mesh dat) (set_size b.mesh (dat_set b.mesh dat)) zs);
  whole = refl;
  lines = rows_lines (dat_dim b.mesh dat) (set_size b.mesh (dat_set b.mesh dat)) zs some e;
}
