-- How far a part sees: of what begins with a letter it sees that letter alone, and it sees nothing behind a LF.
use Rattle.std.proofs.Common.{◌≡◌, ◌≢◌, nat_eq, ◌⊎◌, ℕ, suc, ◌≤◌, ◌<◌, inl, inr, Bool, true, ◌&&◌, List, [], ◌∷◌, ◌++◌, length, Option, Some, None, find, refl, sym, ap, ap₂, subst, ◌∙◌, ⊎_elim, arith, append_assoc, length-append}
use Rattle.std.specs.Prelude.{not}
use Rattle.std.specs.List.{list_all}
use Rattle.std.specs.Str.{bytes_eq}
use Rattle.std.proofs.lemmas.Bool.{cases_lt, and_parts, and_from, true≢false}
use Rattle.std.proofs.lemmas.List.Folds.{list_all-append}
use Rattle.std.proofs.lemmas.Slice.Eq.{bytes_eq-Decides}
use Rattle.c_tree.specs.declared.lexer.tokens.Kind.{Kind}
use Rattle.c_tree.specs.declared.lexer.tokens.Kind.TheVariants as kind
use Rattle.c_tree.specs.declared.lexer.tokens.Sign.{Sign}
use Rattle.c_tree.specs.declared.lexer.tokens.Sign.TheVariants as sign
use Rattle.c_tree.specs.declared.lexer.tokens.Word.{Word}
use Rattle.c_tree.specs.declared.lexer.spelling.TheConstants.{WORDS}
use Rattle.c_tree.specs.Spelling.{sign_spelling, word_spelling, letter, digit, part, textual, text_spelling, IsName, IsFigure, HasForm}
use Rattle.c_tree.specs.Lexed.{EndsLine, IsPassed, BeginsNoComment, NoLonger, IsLongest, Part, Passed, Spelled, IsPartBefore}
use Rattle.c_tree.proofs.Public.{no_word, word_named, begins, not_empty, letter_digit, text_begins, text_one, letter_bounds}
use Rattle.lemmas.proofs.Lists.{find_passes}

-- ---- lists

-- the shorter of two fronts is a front of the longer one
pub front_of : (f s x y : List ℕ) → f ++ x ≡ s ++ y → length s ≤ length f → (q : List ℕ) × (f ≡ s ++ q)
front_of f [] x y e l = (f, refl)
front_of [] (b ∷ s) x y e l = absurd (omega (arith, l))
front_of (a ∷ f) (b ∷ s) x y e l =
    let head : a ≡ b = cc in
    let rest : f ++ x ≡ s ++ y = cc in
    let q = front_of f s x y rest (let m : suc (length s) ≤ suc (length f) = l in omega (arith, m)) in
    (q.0, ap₂ (λ z zs. z ∷ zs) head q.1)

pub beyond : (f s : List ℕ) (c : ℕ) (x y : List ℕ) → f ++ c ∷ x ≡ s ++ y → length f < length s → (t : List ℕ) × (s ≡ f ++ c ∷ t)
beyond f [] c x y e l = absurd (omega (arith, l))
beyond [] (b ∷ s) c x y e l = let head : b ≡ c = cc in (s, ap (λ z. z ∷ s) head)
beyond (a ∷ f) (b ∷ s) c x y e l =
    let head : b ≡ a = cc in
    let rest : f ++ c ∷ x ≡ s ++ y = cc in
    let q = beyond f s c x y rest (let m : suc (length f) < suc (length s) = l in omega (arith, m)) in
    (q.0, ap₂ (λ z zs. z ∷ zs) head q.1)

pub all_at : (p : ℕ → Bool) (f : List ℕ) (c : ℕ) (t : List ℕ) → list_all p (f ++ c ∷ t) ≡ true → p c ≡ true
all_at p f c t h = (and_parts (p c) (list_all p t) (and_parts (list_all p f) (p c && list_all p t) (sym (list_all-append p f (c ∷ t)) ∙ h)).1).0

-- ---- forms

no_letters : (s : Sign) → list_all (λ b. not (letter b)) (sign_spelling s) ≡ true
no_letters sign.LeftParen = refl
no_letters _ = refl

figures : (s : List ℕ) → IsFigure s → list_all digit s ≡ true
figures [] h = absurd h
figures (b ∷ []) h = and_from (digit b) true h refl
figures (b ∷ c ∷ bs) h = and_from (digit b) (list_all digit (c ∷ bs)) h.0 h.2

not_letter : (c : ℕ) → not (letter c) ≡ true → letter c ≡ true → ⊥
not_letter c h k = true≢false (sym h ∙ ap not k)

-- what is a name but for being reserved has a form
name_form : (x : List ℕ) → IsName x → (k : Kind) × HasForm k x
name_form x h = by (find (λ w. bytes_eq x (word_spelling w)) WORDS) refl
  where
    by : (o : Option Word) → find (λ w. bytes_eq x (word_spelling w)) WORDS ≡ o → (k : Kind) × HasForm k x
    by None e = (kind.Name x, (refl, h, no_word x e))
    by (Some w) e = (kind.Word w, (bytes_eq-Decides x (word_spelling w)).0 (find_passes (λ w. bytes_eq x (word_spelling w)) WORDS w e))

name_front : (f : List ℕ) (c : ℕ) (t : List ℕ) → IsName (f ++ c ∷ t) → 0 < length f → IsName (f ++ c ∷ [])
name_front [] c t h some = absurd (omega (arith, some))
name_front (b ∷ f) c t h some =
    let parts = and_parts (list_all part f) (part c && list_all part t) (sym (list_all-append part f (c ∷ t)) ∙ h.1) in
    (h.0, list_all-append part f (c ∷ []) ∙ and_from (list_all part f) (part c && true) parts.0 (and_from (part c) true (and_parts (part c) (list_all part t) parts.1).0 refl))

-- a text is no front of another one
text_over : (k : Kind) (s w a rest z : List ℕ) → HasForm k s → w ≡ text_spelling z → list_all textual z ≡ true → w ++ rest ≡ s ++ a → length w ≤ length s
text_over k [] w a rest z h e g q = absurd (not_empty k h)
text_over k (b ∷ s) w a rest z h e g q =
    let row : b ∷ (s ++ a) ≡ text_spelling z ++ rest = sym q ∙ ap (λ l. l ++ rest) e in
    let quote : b ≡ 34 = cc in
    let u = text_begins k b quote (begins k b s h) (b ∷ s) h in
    let one : u.0 ≡ z = text_one u.0 z a rest u.1.1 g (ap (λ l. l ++ a) (sym u.1.0) ∙ row) in
    let same : w ≡ b ∷ s = e ∙ (ap text_spelling (sym one) ∙ sym u.1.0) in
    let long : length w ≡ length (b ∷ s) = ap length same in
    omega (arith, long)

-- ---- a token in front

form_long : (k : Kind) (s : List ℕ) → HasForm k s → 0 < length s
form_long k [] h = absurd (not_empty k h)
form_long k (b ∷ s) h = omega arith

module _ (k : Kind) (s r : List ℕ) (c : ℕ) (x y : List ℕ) (is : letter c ≡ true) (old : IsLongest k s (r ++ c ∷ x)) where
  abbrev front : List ℕ
  front = s ++ r

  some : 0 < length front
  some = omega (arith, length-append s r, form_long k s old.form)

  named : (t : List ℕ) → IsName (front ++ c ∷ t) → ⊥
  named t n =
      let f = name_form (front ++ c ∷ []) (name_front front c t n some) in
      let e : s ++ (r ++ c ∷ x) ≡ (front ++ c ∷ []) ++ x = sym (append_assoc s r (c ∷ x)) ∙ sym (append_assoc front (c ∷ []) x) in
      let short : length (front ++ c ∷ []) ≤ length s = old.longest f.0 (front ++ c ∷ []) x f.1 e in
      omega (arith, short, length-append front (c ∷ []), length-append s r)

  -- one that goes on behind the letter could have gone on before
  goes_on : (j : Kind) (w t : List ℕ) → w ≡ front ++ c ∷ t → HasForm j w → (rest : List ℕ) → w ++ rest ≡ s ++ (r ++ c ∷ y) → length w ≤ length s
  goes_on (kind.Word q) w t g h rest e = absurd (named t (subst IsName (sym h ∙ g) (word_named q)))
  goes_on (kind.Name q) w t g h rest e = absurd (named t (subst IsName g h.1))
  goes_on (kind.Number q) w t g h rest e = absurd (letter_digit c is (all_at digit front c t (subst (λ l. list_all digit l ≡ true) g (figures w h.0))))
  goes_on (kind.Text q) w t g h rest e = text_over k s w (r ++ c ∷ y) rest q old.form h.0 h.1 e
  goes_on (kind.Sign q) w t g h rest e = absurd (not_letter c (all_at (λ b. not (letter b)) front c t (subst (λ l. list_all (λ b. not (letter b)) l ≡ true) (sym h ∙ g) (no_letters q))) is)

  -- each form at the front is no longer
  still_longest : NoLonger (s ++ (r ++ c ∷ y)) (length s)
  still_longest j w rest h e =
      let split : front ++ c ∷ y ≡ w ++ rest = append_assoc s r (c ∷ y) ∙ e in
      ⊎_elim
      (λ (l : length front < length w). let b = beyond front w c y rest split l in goes_on j w b.0 b.1 h rest (sym e))
      (λ (l : length w ≤ length front).
      let q = front_of front w (c ∷ y) rest split l in
      old.longest j w (q.0 ++ c ∷ x) h (sym (append_assoc s r (c ∷ x)) ∙ (ap (λ z. z ++ c ∷ x) q.1 ∙ append_assoc w q.0 (c ∷ x))))
      (cases_lt (length front) (length w))

-- a form in which a LF stands behind other bytes is a text
no_lf_name : (f t : List ℕ) → IsName (f ++ 10 ∷ t) → 0 < length f → ⊥
no_lf_name [] t h some = absurd (omega (arith, some))
no_lf_name (b ∷ f) t h some = true≢false (sym (all_at part f 10 t h.1))

no_lf_sign : (s : Sign) → list_all (λ b. not (nat_eq b 10)) (sign_spelling s) ≡ true
no_lf_sign sign.LeftParen = refl
no_lf_sign _ = refl

pub lf_inside : (j : Kind) (w f t : List ℕ) → w ≡ f ++ 10 ∷ t → 0 < length f → HasForm j w → (z : List ℕ) × HasForm (kind.Text z) w
lf_inside (kind.Word q) w f t g some h = absurd (no_lf_name f t (subst IsName (sym h ∙ g) (word_named q)) some)
lf_inside (kind.Name q) w f t g some h = absurd (no_lf_name f t (subst IsName g h.1) some)
lf_inside (kind.Number q) w f t g some h = absurd (true≢false (sym (all_at digit f 10 t (subst (λ l. list_all digit l ≡ true) g (figures w h.0)))))
lf_inside (kind.Text q) w f t g some h = (q, h)
lf_inside (kind.Sign q) w f t g some h =
    absurd (true≢false (sym (all_at (λ b. not (nat_eq b 10)) f 10 t (subst (λ l. list_all (λ b. not (nat_eq b 10)) l ≡ true) (sym h ∙ g) (no_lf_sign q)))))

lf_longest : (k : Kind) (s r x y : List ℕ) → IsLongest k s (r ++ x) → NoLonger (s ++ (r ++ 10 ∷ y)) (length s)
lf_longest k s r x y old j w rest h e =
    let front : List ℕ = s ++ r in
    let some : 0 < length front = omega (arith, length-append s r, form_long k s old.form) in
    let split : front ++ 10 ∷ y ≡ w ++ rest = append_assoc s r (10 ∷ y) ∙ e in
    ⊎_elim
    (λ (l : length front < length w).
    let b = beyond front w 10 y rest split l in
    let t = lf_inside j w front b.0 b.1 some h in
    text_over k s w (r ++ 10 ∷ y) rest t.0 old.form t.1.0 t.1.1 (sym e))
    (λ (l : length w ≤ length front).
    let q = front_of front w (10 ∷ y) rest split l in
    old.longest j w (q.0 ++ x) h (sym (append_assoc s r x) ∙ (ap (λ z. z ++ x) q.1 ∙ append_assoc w q.0 x)))
    (cases_lt (length front) (length w))

-- no comment begins there, where none did
no_comment : (f : List ℕ) (c : ℕ) (x y : List ℕ) → c ≢ 47 → c ≢ 42 → 0 < length f → BeginsNoComment (f ++ x) → BeginsNoComment (f ++ c ∷ y)
no_comment [] c x y p q some h = absurd (omega (arith, some))
no_comment (a ∷ []) c x y p q some h =
    ((λ rest e. p (let same : c ≡ 47 = cc in same)), (λ rest e. q (let same : c ≡ 42 = cc in same)))
no_comment (a ∷ b ∷ f) c x y p q some h = (
  (λ rest e. let first : a ≡ 47 = cc in let next : b ≡ 47 = cc in h.0 (f ++ x) (ap₂ (λ u v. u ∷ v ∷ (f ++ x)) first next)),
  (λ rest e. let first : a ≡ 47 = cc in let next : b ≡ 42 = cc in h.1 (f ++ x) (ap₂ (λ u v. u ∷ v ∷ (f ++ x)) first next)),
)

-- ---- a joint

-- what stands behind: bytes that begin with a letter, of which that letter stays, or bytes that a LF follows in their place
abbrev pub Joint : ℕ → List ℕ → Type 0
Joint c x = ((t : List ℕ) × (x ≡ c ∷ t) × (letter c ≡ true)) ⊎ (c ≡ 10)

kept_comment : (k : Kind) (s r : List ℕ) (c : ℕ) (x y : List ℕ) → c ≢ 47 → c ≢ 42 → IsLongest k s (r ++ x) → BeginsNoComment (s ++ (r ++ c ∷ y))
kept_comment k s r c x y p q old =
    let some : 0 < length (s ++ r) = omega (arith, length-append s r, form_long k s old.form) in
    subst BeginsNoComment (append_assoc s r (c ∷ y)) (no_comment (s ++ r) c x y p q some (subst BeginsNoComment (sym (append_assoc s r x)) old.no_comment))

longest_kept : (k : Kind) (s r : List ℕ) (c : ℕ) (x y : List ℕ) → Joint c x → IsLongest k s (r ++ x) → IsLongest k s (r ++ c ∷ y)
longest_kept k s r c x y (inl j) old =
    let low : 65 ≤ c = letter_bounds c j.2 in
    record {
      form = old.form;
      longest = still_longest k s r c j.0 y j.2 (subst (λ z. IsLongest k s (r ++ z)) j.1 old);
      no_comment = kept_comment k s r c x y (λ e. absurd (omega (arith, e, low))) (λ e. absurd (omega (arith, e, low))) old;
    }
longest_kept k s r c x y (inr ten) old = record {
  form = old.form;
  longest = subst (λ z. NoLonger (s ++ (r ++ z ∷ y)) (length s)) (sym ten) (lf_longest k s r x y old);
  no_comment = kept_comment k s r c x y (λ e. absurd (omega (arith, e, ten))) (λ e. absurd (omega (arith, e, ten))) old;
}

line_kept : (s r : List ℕ) (c : ℕ) (x y : List ℕ) → Joint c x → EndsLine s (r ++ x) → EndsLine s (r ++ c ∷ y)
line_kept s [] c x y (inl j) h = record {
  no_line_feed = h.no_line_feed;
  ended = λ b more e. let same : c ≡ b = cc in sym same ∙ h.ended c j.0 j.1;
}
line_kept s [] c x y (inr ten) h = record {
  no_line_feed = h.no_line_feed;
  ended = λ b more e. let same : c ≡ b = cc in sym same ∙ ten;
}
line_kept s (a ∷ r) c x y j h = record {
  no_line_feed = h.no_line_feed;
  ended = λ b more e. let same : a ≡ b = cc in sym same ∙ h.ended a (r ++ x) refl;
}

passed_kept : (fresh : Bool) (s r : List ℕ) (c : ℕ) (x y : List ℕ) → Joint c x → IsPassed fresh s (r ++ x) → IsPassed fresh s (r ++ c ∷ y)
passed_kept fresh s r c x y j (inl p) = inl p
passed_kept fresh s r c x y j (inr (inl p)) = inr (inl (record { body = p.body; cut = p.cut; ends = line_kept s r c x y j p.ends }))
passed_kept fresh s r c x y j (inr (inr (inl p))) = inr (inr (inl p))
passed_kept fresh s r c x y j (inr (inr (inr p))) =
    inr (inr (inr (record { alone = p.alone; body = p.body; cut = p.cut; ends = line_kept s r c x y j p.ends })))

-- a part that stood there stands there
pub part_kept : (fresh : Bool) (p : Part) (r : List ℕ) (c : ℕ) (x y : List ℕ) → Joint c x → IsPartBefore fresh p (r ++ x) → IsPartBefore fresh p (r ++ c ∷ y)
part_kept fresh (Passed s) r c x y j h = passed_kept fresh s r c x y j h
part_kept fresh (Spelled k s) r c x y j h = (longest_kept k s r c x y j h.0, h.1)
