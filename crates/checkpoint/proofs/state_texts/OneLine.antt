-- One line of a text, and what fits it.
use Rattle.std.proofs.Common.{◌≡◌, ℕ, ℤ, suc, zero, ◌+◌, ◌<◌, refl, sym, ap, subst, ◌∙◌, arith, List, [], ◌∷◌, ◌++◌, append_assoc, length, length-append, Bool, true, false, not}
use Rattle.std.specs.Prelude.{codes}
use Rattle.std.specs.Fmt.{decimal}
use Rattle.std.specs.List.{All}
use Rattle.std.specs.Str.{bytes_eq}
use Rattle.std.proofs.lemmas.Bool.{false≢true, not-false}
use Rattle.std.proofs.lemmas.List.{append_cancel_right}
use Rattle.op_num.specs.CutLines.{HasNoLf, Unread, IsTaken, Takes, words, HasNoSpace}
use Rattle.op_num.proofs.Public.{one_line, one_cut}
use Rattle.bound_program.specs.Values.{BoundValue}
use Rattle.checkpoint.specs.Reading.{Awaited, Item, Exactly, Values, Done, IsLine, HasValues, item_line, LineFits, AllFit, all, Refuses}
use Rattle.checkpoint.proofs.state_texts.Words.{no_lf_nil, no_lf_cons, no_lf_append, decimal_no_lf, line_no_lf, spell_dark, row, words_row, row_no_lf}
use Rattle.lemmas.proofs.Lists.{bytes_eq_from, bytes_eq_same}

-- ---- lines

-- a line has its LF
pub lf_behind : (front more : List ℕ) → (front ++ 10 ∷ []) ++ more ≡ front ++ 10 ∷ more
lf_behind front more = append_assoc front (10 ∷ []) more

-- no line is there where no LF is
pub no_line : (rest line more : List ℕ) → HasNoLf rest → IsLine line → rest ≡ line ++ more → ⊥
no_line rest line more h i e =
    line_no_lf i.0 more (subst HasNoLf (e ∙ (ap (λ (z : List ℕ). z ++ more) i.2 ∙ lf_behind i.0 more)) h)

-- there is one first line
pub first_line : (front rest line more : List ℕ) → HasNoLf front → IsLine line → front ++ 10 ∷ rest ≡ line ++ more → (line ≡ front ++ 10 ∷ []) × (more ≡ rest)
first_line front rest line more h i e =
    let same = one_line i.0 front more rest i.1 h (sym (e ∙ (ap (λ (z : List ℕ). z ++ more) i.2 ∙ lf_behind i.0 more))) in
    (i.2 ∙ ap (λ (z : List ℕ). z ++ 10 ∷ []) same.0, same.1)

pub one_first : (line rest other more : List ℕ) → IsLine line → IsLine other → line ++ rest ≡ other ++ more → (line ≡ other) × (rest ≡ more)
one_first line rest other more i j e =
    let same = first_line i.0 rest other more i.1 j (sym (ap (λ (z : List ℕ). z ++ rest) i.2 ∙ lf_behind i.0 rest) ∙ e) in
    (i.2 ∙ sym same.0, sym same.1)

-- the line that was taken
pub line_taken : (old new : Unread) (line : List ℕ) → Takes old new line → IsTaken old new (line ++ 10 ∷ [])
line_taken old new line t = record { whole = t.whole ∙ sym (lf_behind line new.rest); taken = t.taken }

pub line_is : (old new : Unread) (front line more : List ℕ) → Takes old new front → IsLine line → old.rest ≡ line ++ more → line ≡ front ++ 10 ∷ []
line_is old new front line more t i e = (first_line front new.rest line more t.no_lf i (sym t.whole ∙ e)).0

pub same_front : (xs ys : List ℕ) → xs ++ 10 ∷ [] ≡ ys ++ 10 ∷ [] → xs ≡ ys
same_front xs ys e = append_cancel_right xs ys (10 ∷ []) e

-- bytes that were compared
pub bytes_differ : (xs ys : List ℕ) (r : Bool) → r ≡ not (bytes_eq xs ys) → r ≡ true → xs ≡ ys → ⊥
bytes_differ xs ys r e t same = false≢true (sym (ap not (bytes_eq_from xs ys same)) ∙ (sym e ∙ t))

pub bytes_same : (xs ys : List ℕ) (r : Bool) → r ≡ not (bytes_eq xs ys) → r ≡ false → xs ≡ ys
bytes_same xs ys r e f = bytes_eq_same xs ys (not-false (bytes_eq xs ys) (sym e ∙ f))

-- the line that was written
pub written : (line made text : List ℕ) → made ++ 10 ∷ [] ≡ line → text ≡ made → text ++ 10 ∷ [] ≡ line
written line made text e d = ap (λ (z : List ℕ). z ++ 10 ∷ []) d ∙ e

-- ---- what fits is a line

pub values_line : (n : ℕ) (line : List ℕ) (zs : List ℤ) → HasValues n line zs → IsLine line
values_line n line zs h = (row h.words, row_no_lf h.words (spell_dark h.words zs h.spell), h.is ∙ words_row h.words)

pub item_front : (k : ℕ) → item_line k ≡ (codes "item " ++ decimal k) ++ 10 ∷ []
item_front k = sym (append_assoc (codes "item ") (decimal k) (10 ∷ []))

item_no_lf : HasNoLf (codes "item ")
item_no_lf = no_lf_cons 105 (codes "tem ") refl (no_lf_cons 116 (codes "em ") refl (no_lf_cons 101 (codes "m ") refl (no_lf_cons 109 (codes " ") refl (no_lf_cons 32 [] refl no_lf_nil))))

pub item_is_line : (k : ℕ) (line : List ℕ) → line ≡ item_line k → IsLine line
item_is_line k line e = (codes "item " ++ decimal k, no_lf_append (codes "item ") (decimal k) item_no_lf (decimal_no_lf k), e ∙ item_front k)

done_no_lf : HasNoLf (codes "done")
done_no_lf = no_lf_cons 100 (codes "one") refl (no_lf_cons 111 (codes "ne") refl (no_lf_cons 110 (codes "e") refl (no_lf_cons 101 [] refl no_lf_nil)))

pub done_is_line : (line : List ℕ) → line ≡ codes "done\n" → IsLine line
done_is_line line e = (codes "done", done_no_lf, e)

pub fit_is_line : (b : BoundValue) (k : ℕ) (x : Awaited) (line : List ℕ) (zs : List ℤ) → LineFits b k x line zs → IsLine line
fit_is_line b k Item line zs f = item_is_line k line f.0.is
fit_is_line b k (Exactly l) line zs f = f.0
fit_is_line b k (Values n) line zs f = values_line n line zs f
fit_is_line b k Done line zs f = done_is_line line f.0

line_some : (line : List ℕ) → IsLine line → 0 < length line
line_some line i = let e : length line ≡ length i.0 + 1 = ap length i.2 ∙ length-append i.0 (10 ∷ []) in omega arith

-- a text has as many bytes as lines, or more
pub fit_long : (b : BoundValue) (k : ℕ) (xs : List Awaited) (ls : List (List ℕ)) (zs : List ℤ) → AllFit b k xs ls zs → length ls < suc (length (all ls))
fit_long b k [] [] zs f = omega arith
fit_long b k [] (l ∷ ls) zs f = absurd f
fit_long b k (x ∷ xs) [] zs f = absurd f
fit_long b k (x ∷ xs) (l ∷ ls) zs f =
    let one = line_some l (fit_is_line b k x l f.0 f.3) in
    let more = fit_long b k xs ls f.1 f.4 in
    let both : length (all (l ∷ ls)) ≡ length l + length (all ls) = length-append l (all ls) in
    omega arith

-- ---- values

-- a line that has values has one way to be cut
pub values_cut : (n : ℕ) (line : List ℕ) (zs : List ℤ) (h : HasValues n (line ++ 10 ∷ []) zs) → line ≡ row h.words
values_cut n line zs h = same_front line (row h.words) (h.is ∙ words_row h.words)

pub words_cut : (w : List ℕ) (ws : List (List ℕ)) → All HasNoSpace (w ∷ ws) → words (row (w ∷ ws)) ≡ w ∷ ws
words_cut w ws h = one_cut w ws (h zero [] (omega arith)) (λ k d l. h (suc k) d (omega arith))

-- the next line has other values
pub values_refused : (b : BoundValue) (n : ℕ) (old new : Unread) (front : List ℕ) → Takes old new front
    → ((zs : List ℤ) → HasValues n (front ++ 10 ∷ []) zs → ⊥) → Refuses b (Values n) old.rest 4
values_refused b n old new front t h = (
  refl,
  λ line more zs v e. h zs (subst (λ (z : List ℕ). HasValues n z zs) (line_is old new front line more t (values_line n line zs v) e) v),
)
