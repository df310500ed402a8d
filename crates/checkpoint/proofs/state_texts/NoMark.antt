-- No mark stands among lines that fit.
use Rattle.std.proofs.Common.{◌≡◌, ℕ, ℤ, zero, suc, ◌+◌, ◌<◌, ◌≤◌, refl, sym, ap, ap₂, subst, ◌∙◌, arith, ⊎_elim, List, [], ◌∷◌, ◌++◌, length, length-append, drop, false, nat_eq, None, Ok}
use Rattle.std.specs.Prelude.{codes, map}
use Rattle.std.specs.Fmt.{decimal}
use Rattle.std.specs.List.{flat_map}
use Rattle.std.proofs.lemmas.Bool.{cases_lt, false≢true}
use Rattle.op_num.specs.Spelling.{integer_of, i32_judged}
use Rattle.op_num.specs.CutLines.{is_lf, HasNoLf}
use Rattle.mesh_decl.specs.Mesh.{MeshValue, dat_count, dat_dim, set_size, dat_set}
use Rattle.bound_program.specs.Values.{BoundValue}
use Rattle.run_model.specs.Windows.{numbers}
use Rattle.checkpoint.specs.Cut.{starts}
use Rattle.checkpoint.specs.Reading.{mark, IsSplit, Awaited, Item, Exactly, Values, Done, awaited_vars, dat_line, awaited_dat, awaited_dats, awaited, IsLine, Spell, words_line, all, LineFits, AllFit}
use Rattle.checkpoint.proofs.state_texts.Words.{no_lf_cons, no_lf_nil}
use Rattle.checkpoint.proofs.state_texts.OneLine.{fit_is_line, lf_behind}
use Rattle.lemmas.proofs.Lists.{head_same, tail_same}

-- ---- `o` behind LF

-- it is nowhere
abbrev NoO : List ℕ → Type 0
NoO bytes = (x y : List ℕ) → bytes ≡ x ++ 10 ∷ 111 ∷ y → ⊥

-- it isn't in front
abbrev pub NoFirst : List ℕ → Type 0
NoFirst bytes = (y : List ℕ) → bytes ≡ 111 ∷ y → ⊥

pub not_first : (c : ℕ) (xs : List ℕ) → nat_eq c 111 ≡ false → NoFirst (c ∷ xs)
not_first c xs h y e = false≢true (sym h ∙ ap (λ z. nat_eq z 111) (head_same c 111 xs y e))

none_no_o : NoO []
none_no_o [] y e = let n : 0 ≡ suc (suc (length y)) = ap length e in omega arith
none_no_o (c ∷ x) y e = let n : 0 ≡ suc (length (x ++ 10 ∷ 111 ∷ y)) = ap length e in omega arith

no_lf_first : (a : ℕ) (fs : List ℕ) → HasNoLf (a ∷ fs) → a ≡ 10 → ⊥
no_lf_first a fs h e = false≢true (sym (h zero 0 (omega arith)) ∙ ap is_lf e)

line_no_o : (front rest : List ℕ) → HasNoLf front → NoFirst rest → NoO rest → NoO (front ++ 10 ∷ rest)
line_no_o [] rest h f n [] y e = f y (tail_same 10 10 rest (111 ∷ y) e)
line_no_o [] rest h f n (c ∷ x) y e = n x y (tail_same 10 c rest (x ++ 10 ∷ 111 ∷ y) e)
line_no_o (a ∷ fs) rest h f n [] y e = no_lf_first a fs h (head_same a 10 (fs ++ 10 ∷ rest) (111 ∷ y) e)
line_no_o (a ∷ fs) rest h f n (c ∷ x) y e = line_no_o fs rest (λ k d l. h (suc k) d (omega arith)) f n x y (tail_same a c (fs ++ 10 ∷ rest) (x ++ 10 ∷ 111 ∷ y) e)

-- ---- lines that fit don't begin with it

-- nor do those that are awaited
abbrev Begins : Awaited → Type 0
Begins Item = Unit {0}
Begins (Exactly l) = NoFirst l
Begins (Values n) = Unit {0}
Begins Done = Unit {0}

abbrev pub AllBegin : List Awaited → Type 0
AllBegin [] = Unit {0}
AllBegin (x ∷ xs) = Begins x × AllBegin xs

all_begin_append : (xs ys : List Awaited) → AllBegin xs → AllBegin ys → AllBegin (xs ++ ys)
all_begin_append [] ys h k = k
all_begin_append (x ∷ xs) ys h k = (h.0, all_begin_append xs ys h.1 k)

none_judged : (z : ℤ) → i32_judged None ≡ Ok z → ⊥
none_judged z h = cc

word_begins : (w rest : List ℕ) (z : ℤ) (y : List ℕ) → i32_judged (integer_of w) ≡ Ok z → w ++ rest ≡ 111 ∷ y → ⊥
word_begins [] rest z y h e = none_judged z h
word_begins (c ∷ cs) rest z y h e = none_judged z (sym (ap (λ d. i32_judged (integer_of (d ∷ cs))) (head_same c 111 (cs ++ rest) y e)) ∙ h)

words_begin : (ws : List (List ℕ)) (zs : List ℤ) (y : List ℕ) → Spell ws zs → words_line ws ≡ 111 ∷ y → ⊥
words_begin [] zs y s e = not_first 10 [] refl y e
words_begin (w ∷ ws) [] y s e = s
words_begin (w ∷ []) (z ∷ zs) y s e = word_begins w (10 ∷ []) z y s.0 e
words_begin (w ∷ v ∷ vs) (z ∷ zs) y s e = word_begins w (32 ∷ words_line (v ∷ vs)) z y s.0 e

line_begins : (b : BoundValue) (k : ℕ) (x : Awaited) (line : List ℕ) (zs : List ℤ) (y : List ℕ) → Begins x → LineFits b k x line zs → line ≡ 111 ∷ y → ⊥
line_begins b k Item line zs y h f e = not_first 105 (codes "tem " ++ (decimal k ++ codes "\n")) refl y (sym f.0.is ∙ e)
line_begins b k (Exactly l) line zs y h f e = h y (sym f.1 ∙ e)
line_begins b k (Values n) line zs y h f e = words_begin f.words zs y f.spell (sym f.is ∙ e)
line_begins b k Done line zs y h f e = not_first 100 (codes "one\n") refl y (sym f.0 ∙ e)

line_first : (line more : List ℕ) → IsLine line → NoFirst line → NoFirst (line ++ more)
line_first [] more i h y e = absurd (let n : 0 ≡ length i.0 + 1 = ap length i.2 ∙ length-append i.0 (10 ∷ []) in omega arith)
line_first (c ∷ cs) more i h y e = h cs (ap (λ d. d ∷ cs) (head_same c 111 (cs ++ more) y e))

lines_no_o : (b : BoundValue) (k : ℕ) (xs : List Awaited) (ls : List (List ℕ)) (zs : List ℤ) → AllBegin xs → AllFit b k xs ls zs → NoFirst (all ls) × NoO (all ls)
lines_no_o b k [] [] zs h f = ((λ y e. let n : 0 ≡ suc (length y) = ap length e in omega arith), none_no_o)
lines_no_o b k [] (l ∷ ls) zs h f = absurd f
lines_no_o b k (x ∷ xs) [] zs h f = absurd f
lines_no_o b k (x ∷ xs) (l ∷ ls) zs h f =
    let i = fit_is_line b k x l f.0 f.3 in
    let more = lines_no_o b k xs ls f.1 h.1 f.4 in (
      line_first l (all ls) i (λ y. line_begins b k x l f.0 y h.0 f.3),
      subst NoO (sym (ap (λ (z : List ℕ). z ++ all ls) i.2 ∙ lf_behind i.0 (all ls))) (line_no_o i.0 (all ls) i.1 more.0 more.1),
    )

-- ---- those of a program

vars_begin : (n : ℕ) (zs : List (List ℤ)) → AllBegin (awaited_vars n zs)
vars_begin n [] = tt
vars_begin n (z ∷ zs) = (not_first 118 (codes "ar " ++ (decimal n ++ (codes " " ++ (decimal (length z) ++ codes "\n")))) refl, (tt, vars_begin (suc n) zs))

rows_begin : (n : ℕ) (is : List ℕ) → AllBegin (map (λ (e : ℕ). Values n) is)
rows_begin n [] = tt
rows_begin n (i ∷ is) = (tt, rows_begin n is)

dats_begin : (g : MeshValue) (ds : List ℕ) → AllBegin (flat_map (awaited_dat g) ds)
dats_begin g [] = tt
dats_begin g (d ∷ ds) = (
  (λ y e. not_first 100 (drop 1 (dat_line g d)) refl y e),
  all_begin_append (map (λ (e : ℕ). Values (dat_dim g d)) (numbers (set_size g (dat_set g d)))) (flat_map (awaited_dat g) ds)
      (rows_begin (dat_dim g d) (numbers (set_size g (dat_set g d)))) (dats_begin g ds),
)

awaited_begin : (b : BoundValue) → AllBegin (awaited b)
awaited_begin b = (
  tt,
  all_begin_append (awaited_vars 0 (starts b.vars)) (awaited_dats b.mesh ++ Done ∷ []) (vars_begin 0 (starts b.vars))
      (all_begin_append (awaited_dats b.mesh) (Done ∷ []) (dats_begin b.mesh (numbers (dat_count b.mesh))) (tt, tt)),
)

-- ---- the last mark

-- the longer of two fronts
longer : (o x a c : List ℕ) → length o ≤ length x → o ++ a ≡ x ++ c → (m : List ℕ) × (x ≡ o ++ m) × (a ≡ m ++ c)
longer [] x a c l e = (x, refl, e)
longer (d ∷ o) [] a c l e = absurd (omega arith)
longer (d ∷ o) (f ∷ x) a c l e =
    let r = longer o x a c (omega arith) (tail_same d f (o ++ a) (x ++ c) e) in
    (r.0, ap₂ (λ z w. z ∷ w) (sym (head_same d f (o ++ a) (x ++ c) e)) r.1, r.2)

header_no_lf : HasNoLf (codes "op2state 1")
header_no_lf =
    no_lf_cons 111 (codes "p2state 1") refl (no_lf_cons 112 (codes "2state 1") refl (no_lf_cons 50 (codes "state 1") refl
    (no_lf_cons 115 (codes "tate 1") refl (no_lf_cons 116 (codes "ate 1") refl (no_lf_cons 97 (codes "te 1") refl
    (no_lf_cons 116 (codes "e 1") refl (no_lf_cons 101 (codes " 1") refl (no_lf_cons 32 (codes "1") refl (no_lf_cons 49 [] refl no_lf_nil)))))))))

pub split_at_fit : (b : BoundValue) (k : ℕ) (o : List ℕ) (ls : List (List ℕ)) (zs : List ℤ) → AllFit b k (awaited b) ls zs → IsSplit (o ++ (mark ++ all ls)) o (all ls)
split_at_fit b k o ls zs f = record {
  whole = refl;
  last = λ x y e. ⊎_elim
      (λ (l : length o < length x). absurd (later x y l e))
      (λ (g : length x ≤ length o). g)
      (cases_lt (length o) (length x));
}
  where
    no_o : NoO (codes "op2state 1\n" ++ all ls)
    no_o = let n = lines_no_o b k (awaited b) ls zs (awaited_begin b) f in line_no_o (codes "op2state 1") (all ls) header_no_lf n.0 n.1

    inside : (m y : List ℕ) → 0 < length m → mark ++ all ls ≡ m ++ (mark ++ y) → ⊥
    inside [] y l e = omega arith
    inside (c ∷ m) y l e = no_o m (codes "p2state 1\n" ++ y) (tail_same 10 c (codes "op2state 1\n" ++ all ls) (m ++ (mark ++ y)) e)

    later : (x y : List ℕ) → length o < length x → o ++ (mark ++ all ls) ≡ x ++ (mark ++ y) → ⊥
    later x y l e =
        let r = longer o x (mark ++ all ls) (mark ++ y) (omega arith) e in
        let n : length x ≡ length o + length r.0 = ap length r.1 ∙ length-append o r.0 in
        inside r.0 y (omega arith) r.2
