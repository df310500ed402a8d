-- What stands at the front, from what the code finds there.
use Rattle.std.proofs.Common.{◌≡◌, ◌≢◌, ℕ, zero, suc, ◌+◌, ◌<◌, Bool, true, false, ◌&&◌, List, [], ◌∷◌, ◌++◌, length, take, drop, get_or, slice_index, None, Result, Ok, Err, IfOk, refl, sym, ap, subst, ◌∙◌, arith, nat_eq, take-append-drop, append_assoc, inl, inr, codes, drop-cons}
use Rattle.std.specs.List.{list_all, prefix_len, starts_with}
use Rattle.std.specs.declared.alloc.AllocError.{AllocError}
use Rattle.c_tree.specs.declared.lexer.tokens.Kind.TheVariants as kind
use Rattle.c_tree.specs.declared.lexer.front.Front.{Front}
use Rattle.c_tree.specs.declared.lexer.front.Front.TheVariants.{Passed, Token, BadByte, OpenComment, OpenText, TooLarge}
use Rattle.c_tree.specs.Spelling.{blank, letter, digit, part, textual, escaped, all_escaped}
use Rattle.c_tree.specs.Lexed.{IsPassed, HasBadByte, is_closed}
use Rattle.c_tree.specs.Front.{LiesIn, IsText, IsFront, unit_of, front_word, front_sign, front_figure, passes_line}
use Rattle.c_tree.proofs.lexer.Forms.{BeginsSign}
use Rattle.c_tree.proofs.lexer.Units.{no_unit, closed_through, all_escaped-push, nil_right}
use Rattle.c_tree.proofs.lexer.Longest.{word_front, figure_front, sign_front, text_front}
use Rattle.c_tree.proofs.lexer.Lines.{starts_not}
use Rattle.std.proofs.lemmas.Bool.{or_parts, true≢false}

pub front_blank : (fresh : Bool) (bs : List ℕ) → 0 < length bs → blank (slice_index bs 0) ≡ true → IsFront fresh bs (Passed 1)
front_blank fresh [] h e = absurd (omega arith)
front_blank fresh (b ∷ bs) h e = inl (record { byte = b; cut = refl; blank = e })

pub front_letter : (fresh : Bool) (bs : List ℕ) → 0 < length bs → letter (slice_index bs 0) ≡ true → IsFront fresh bs (front_word (take (prefix_len part bs) bs))
front_letter fresh [] h e = absurd (omega arith)
front_letter fresh (b ∷ bs) h e = word_front fresh b bs e

pub front_digit : (fresh : Bool) (bs : List ℕ) → 0 < length bs → digit (slice_index bs 0) ≡ true → IsFront fresh bs (front_figure bs)
front_digit fresh [] h e = absurd (omega arith)
front_digit fresh (b ∷ bs) h e = figure_front fresh b bs e

and_left : (a b : Bool) → a ≡ true → (a && b) ≡ false → b ≡ false
and_left true b e h = h
and_left false b e h = cc

-- nothing to pass over
nothing_passed : (fresh : Bool) (b : ℕ) (bs : List ℕ) → blank b ≡ false → passes_line fresh (b ∷ bs) ≡ false
    → starts_with nat_eq (b ∷ bs) (codes "/*") ≡ false → (s rest : List ℕ) → IsPassed fresh s rest → b ∷ bs ≢ s ++ rest
nothing_passed fresh b bs h l c s rest (inl p) e =
    let row : b ∷ bs ≡ p.byte ∷ rest = e ∙ ap (λ z. z ++ rest) p.cut in
    let same : b ≡ p.byte = cc in
    true≢false (sym (subst (λ z. blank z ≡ true) (sym same) p.blank) ∙ h)
nothing_passed fresh b bs h l c s rest (inr (inl p)) e =
    let r = or_parts (starts_with nat_eq (b ∷ bs) (codes "//")) (fresh && starts_with nat_eq (b ∷ bs) (codes "#include")) l in
    starts_not (codes "//") (b ∷ bs) (p.body ++ rest) r.0 (e ∙ ap (λ z. z ++ rest) p.cut ∙ append_assoc (codes "//") p.body rest)
nothing_passed fresh b bs h l c s rest (inr (inr (inl p))) e =
    starts_not (codes "/*") (b ∷ bs) ((p.body ++ codes "*/") ++ rest) c (e ∙ ap (λ z. z ++ rest) p.cut ∙ append_assoc (codes "/*") (p.body ++ codes "*/") rest)
nothing_passed fresh b bs h l c s rest (inr (inr (inr p))) e =
    let r = or_parts (starts_with nat_eq (b ∷ bs) (codes "//")) (fresh && starts_with nat_eq (b ∷ bs) (codes "#include")) l in
    let q = and_left fresh (starts_with nat_eq (b ∷ bs) (codes "#include")) p.alone r.1 in
    starts_not (codes "#include") (b ∷ bs) (p.body ++ rest) q (e ∙ ap (λ z. z ++ rest) p.cut ∙ append_assoc (codes "#include") p.body rest)

pub front_other : (fresh : Bool) (bs : List ℕ) → 0 < length bs → blank (slice_index bs 0) ≡ false → letter (slice_index bs 0) ≡ false
    → digit (slice_index bs 0) ≡ false → nat_eq (slice_index bs 0) 34 ≡ false → passes_line fresh bs ≡ false
    → starts_with nat_eq bs (codes "/*") ≡ false → IsFront fresh bs (front_sign bs)
front_other fresh [] o h i d q l c = absurd (omega arith)
front_other fresh (b ∷ bs) o h i d q l c =
    let r = or_parts (starts_with nat_eq (b ∷ bs) (codes "//")) (fresh && starts_with nat_eq (b ∷ bs) (codes "#include")) l in
    let begins : BeginsSign b = record { no_blank = h; no_letter = i; no_digit = d; no_quote = q } in
    sign_front fresh b bs begins (λ rest e. starts_not (codes "//") (b ∷ bs) rest r.0 e, λ rest e. starts_not (codes "/*") (b ∷ bs) rest c e) (nothing_passed fresh b bs h l c)

-- a text's answer is the front's
pub text_is_front : (fresh : Bool) (bs : List ℕ) (f : Front) → LiesIn (length bs) f → IsText bs f → IsFront fresh bs f
text_is_front fresh bs (Passed l) w h = absurd h
text_is_front fresh bs (Token (kind.Word x) l) w h = absurd h
text_is_front fresh bs (Token (kind.Name x) l) w h = absurd h
text_is_front fresh bs (Token (kind.Number x) l) w h = absurd h
text_is_front fresh bs (Token (kind.Text t) l) w h = text_front fresh bs t l w.1 h
text_is_front fresh bs (Token (kind.Sign x) l) w h = absurd h
text_is_front fresh bs (BadByte l) w h = inr h
text_is_front fresh bs OpenComment w h = absurd h
text_is_front fresh bs OpenText w h = h
text_is_front fresh bs TooLarge w h = absurd h

pub text_answer : (fresh : Bool) (bs : List ℕ) (r : Result Front AllocError) → IfOk r (λ f. IsText bs f) → IfOk r (λ f. LiesIn (length bs) f) → IfOk r (λ f. IsFront fresh bs f)
text_answer fresh bs (Ok f) h w = text_is_front fresh bs f w h
text_answer fresh bs (Err e) h w = tt

pub like_answer : (fresh : Bool) (bs : List ℕ) (g : Front) (r : Result Front AllocError) → IsFront fresh bs g → IfOk r (λ f. f ≡ g) → IfOk r (λ f. IsFront fresh bs f)
like_answer fresh bs g (Ok f) h e = subst (λ z. IsFront fresh bs z) (sym e) h
like_answer fresh bs g (Err e) h w = tt

-- a text that isn't closed
pub open_text : (bs t : List ℕ) (n : ℕ) → take n bs ≡ 34 ∷ all_escaped t → is_closed (drop n bs) ≡ false → (rest : List ℕ) × (bs ≡ 34 ∷ rest) × (is_closed rest ≡ false)
open_text bs t n h c =
    (all_escaped t ++ drop n bs, sym (take-append-drop n bs) ∙ ap (λ z. z ++ drop n bs) h, closed_through t (drop n bs) ∙ c)

-- a bad byte in a text that is closed
pub bad_text : (bs t : List ℕ) (n : ℕ) → n < length bs → list_all textual t ≡ true → take n bs ≡ 34 ∷ all_escaped t → get_or bs n 0 ≢ 34
    → unit_of (drop n bs) ≡ None → is_closed (drop n bs) ≡ true → HasBadByte (take n bs) bs
bad_text bs t n w h s q u c = record {
  text = t;
  rest = drop n bs;
  held = h;
  before = s;
  cut = sym (take-append-drop n bs);
  bad = record {
    byte = get_or bs n 0;
    rest = drop (suc n) bs;
    front = drop-cons bs n 0 w;
    no_quote = q;
    no_unit = λ c more t e. no_unit (drop n bs) u c more t (e ∙ ap (λ z. z ++ more) (nil_right (escaped c)));
  };
  closed = c;
}

pub take_split : (n m : ℕ) (xs : List ℕ) → take (n + m) xs ≡ take n xs ++ take m (drop n xs)
take_split zero m xs = rw (let e : zero + m ≡ m = omega arith in e) refl
take_split (suc n) m [] = nil_take (suc n + m) ∙ sym (nil_take m)
  where
    nil_take : (k : ℕ) → take k (let e : List ℕ = [] in e) ≡ []
    nil_take zero = refl
    nil_take (suc k) = refl
take_split (suc n) m (x ∷ xs) =
    rw (let e : suc n + m ≡ suc (n + m) = omega arith in e) (ap (λ z. x ∷ z) (take_split n m xs))

-- one byte more of a text
pub text_more : (bs t : List ℕ) (n c l : ℕ) → take n bs ≡ 34 ∷ all_escaped t → take l (drop n bs) ≡ escaped c → take (n + l) bs ≡ 34 ∷ all_escaped (t ++ c ∷ [])
text_more bs t n c l h g =
    take_split n l bs ∙ ap (λ z. z ++ take l (drop n bs)) h ∙ ap (λ z. 34 ∷ (all_escaped t ++ z)) g ∙ ap (λ z. 34 ∷ z) (sym (all_escaped-push t c))

pub text_first : (bs : List ℕ) → 0 < length bs → slice_index bs 0 ≡ 34 → take 1 bs ≡ 34 ∷ []
text_first [] h e = absurd (omega arith)
text_first (b ∷ bs) h e = ap (λ z. z ∷ []) e
