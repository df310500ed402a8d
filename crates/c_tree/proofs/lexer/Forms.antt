-- The forms of tokens: what they begin with, and that a spelling is that of one kind.
use Rattle.std.proofs.Common.{◌≡◌, ◌≢◌, ℕ, ◌≤◌, Bool, true, false, ◌&&◌, cond, List, [], ◌∷◌, ◌++◌, length, take, Option, Some, None, find, refl, sym, ap, subst, ◌∙◌, arith, nat_eq, nat_le}
use Rattle.std.specs.List.{list_all, starts_with}
use Rattle.std.specs.Str.{bytes_eq}
use Rattle.std.proofs.lemmas.Slice.Eq.{bytes_eq-Decides}
use Rattle.std.proofs.lemmas.Bool.{leb-true, eq-eqb, and_parts, true≢false}
use Rattle.std.proofs.lemmas.Bool.Decides.{nat_tests}
use Rattle.c_tree.specs.declared.lexer.tokens.Kind.{Kind}
use Rattle.c_tree.specs.declared.lexer.tokens.Kind.TheVariants as kind
use Rattle.c_tree.specs.declared.lexer.tokens.Sign.{Sign}
use Rattle.c_tree.specs.declared.lexer.tokens.Sign.TheVariants as sign
use Rattle.c_tree.specs.declared.lexer.tokens.Word.{Word}
use Rattle.c_tree.specs.declared.lexer.tokens.Word.TheVariants as word
use Rattle.c_tree.specs.contracts.lexer.tokens.Sign as the_sign
use Rattle.c_tree.specs.contracts.lexer.tokens.Word as the_word
use Rattle.c_tree.specs.declared.lexer.spelling.TheConstants.{SIGNS, WORDS}
use Rattle.c_tree.specs.Spelling.{sign_spelling, word_spelling, blank, letter, digit, IsName, IsFigure, textual, all_escaped, text_spelling, HasForm}
use Rattle.c_tree.proofs.lexer.Units.{units_one}
use denote.Enum.Bare.{sameb, same_true}
use Rattle.std.proofs.Math.Seq.{take-append_seam}

-- a list has an item, by a test
abbrev member : {X : Type 0} → (X → X → Bool) → X → List X → Bool
member same x [] = false
member same x (y ∷ ys) = cond (same x y) true (member same x ys)

-- each length is at least those behind it
abbrev falling : {X : Type 0} → (X → ℕ) → ℕ → List X → Bool
falling len n [] = true
falling len n (y ∷ ys) = nat_le (len y) n && falling len (len y) ys

-- no item that is found is longer than those before it
find_falling : {X : Type 0} (p : X → Bool) (len : X → ℕ) (n : ℕ) (xs : List X) (x : X) → falling len n xs ≡ true → find p xs ≡ Some x → len x ≤ n
find_falling p len n [] x f h = cc
find_falling p len n (y ∷ ys) x f h =
    let r = and_parts (nat_le (len y) n) (falling len (len y) ys) f in
    let first = leb-true (len y) n r.0 in
    by_test (p y) h (λ g. find_falling p len (len y) ys x r.1 g) first
  where
    by_test : (t : Bool) → cond t (Some y) (find p ys) ≡ Some x → (find p ys ≡ Some x → len x ≤ len y) → len y ≤ n → len x ≤ n
    by_test true h f b = let same : y ≡ x = cc in subst (λ z. len z ≤ n) same b
    by_test false h f b = omega (arith, f h)

-- an item that passes is no longer than the first that does
find_longest : {X : Type 0} (p : X → Bool) (len : X → ℕ) (same : X → X → Bool) → ((a b : X) → same a b ≡ true → a ≡ b)
    → (n : ℕ) (xs : List X) (x : X) → falling len n xs ≡ true → member same x xs ≡ true → p x ≡ true → (y : X) × (find p xs ≡ Some y)
    × (len x ≤ len y)
find_longest {X = X} p len same is n [] x f m h = cc
find_longest {X = X} p len same is n (y ∷ ys) x f m h =
    let r = and_parts (nat_le (len y) n) (falling len (len y) ys) f in
    by_test (p y) refl (same x y) refl m (λ g. find_longest p len same is (len y) ys x r.1 g h) (λ z g. find_falling p len (len y) ys z r.1 g)
  where
    by_test : (t : Bool) → p y ≡ t → (s : Bool) → same x y ≡ s → cond s true (member same x ys) ≡ true
        → (member same x ys ≡ true → (z : X) × (find p ys ≡ Some z) × (len x ≤ len z)) → ((z : X) → find p ys ≡ Some z → len z ≤ len y)
        → (z : X) × (cond t (Some y) (find p ys) ≡ Some z) × (len x ≤ len z)
    by_test true e true s m f g = (y, refl, let i : x ≡ y = is x y s in subst (λ z. len x ≤ len z) i (omega arith))
    by_test true e false s m f g = let r = f m in (y, refl, omega (arith, r.2, g r.0 r.1))
    by_test false e true s m f g = let i : x ≡ y = is x y s in let w : p y ≡ true = subst (λ z. p z ≡ true) i h in cc
    by_test false e false s m f g = f m

-- where nothing is found, nothing passes
pub find_nothing : {X : Type 0} (p : X → Bool) (same : X → X → Bool) → ((a b : X) → same a b ≡ true → a ≡ b) → (xs : List X) (x : X) → member same x xs ≡ true → find p xs ≡ None → p x ≡ false
find_nothing p same is [] x m h = cc
find_nothing p same is (y ∷ ys) x m h =
    by_test (p y) refl (same x y) refl m h (λ g k. find_nothing p same is ys x g k)
  where
    by_test : (t : Bool) → p y ≡ t → (s : Bool) → same x y ≡ s → cond s true (member same x ys) ≡ true → cond t (Some y) (find p ys) ≡ None
        → (member same x ys ≡ true → find p ys ≡ None → p x ≡ false) → p x ≡ false
    by_test true e s q m h f = cc
    by_test false e true q m h f = let i : x ≡ y = is x y q in subst (λ z. p z ≡ false) (sym i) e
    by_test false e false q m h f = f m h

abbrev same_sign : Sign → Sign → Bool
same_sign a b = sameb the_sign.the_type a b

abbrev same_word : Word → Word → Bool
same_word a b = sameb the_word.the_type a b

sign_listed : (s : Sign) → member same_sign s SIGNS ≡ true
sign_listed sign.LeftParen = refl
sign_listed _ = refl

word_listed : (w : Word) → member same_word w WORDS ≡ true
word_listed word.Extern = refl
word_listed _ = refl

signs_fall : falling (λ s. length (sign_spelling s)) 3 SIGNS ≡ true
signs_fall = refl

-- no word where none is found
pub no_word : (bs : List ℕ) → find (λ w. bytes_eq bs (word_spelling w)) WORDS ≡ None → (w : Word) → bs ≢ word_spelling w
no_word bs h w q =
    true≢false (sym ((bytes_eq-Decides bs (word_spelling w)).1 q) ∙ find_nothing (λ w. bytes_eq bs (word_spelling w)) same_word (same_true the_word.the_type tt) WORDS w (word_listed w) h)

sign_starts : (s : Sign) (rest : List ℕ) → starts_with nat_eq (sign_spelling s ++ rest) (sign_spelling s) ≡ true
sign_starts s rest =
    (bytes_eq-Decides (sign_spelling s) (take (length (sign_spelling s)) (sign_spelling s ++ rest))).1 (sym (take-append_seam (sign_spelling s) rest))

-- the sign that is found is at least as long as any that stands there
pub sign_found : (s : Sign) (rest : List ℕ) → (t : Sign)
    × (find (λ z. starts_with nat_eq (sign_spelling s ++ rest) (sign_spelling z)) SIGNS ≡ Some t)
    × (length (sign_spelling s) ≤ length (sign_spelling t))
sign_found s rest =
    find_longest (λ z. starts_with nat_eq (sign_spelling s ++ rest) (sign_spelling z)) (λ z. length (sign_spelling z)) same_sign
    (same_true the_sign.the_type tt) 3 SIGNS s signs_fall (sign_listed s) (sign_starts s rest)

-- a reserved word is a name but for being reserved
pub word_named : (w : Word) → IsName (word_spelling w)
word_named word.Extern = (refl, refl)
word_named _ = (refl, refl)

-- what a sign may begin with
pub record BeginsSign (b : ℕ) : Type 0 where
  pub no_blank : blank b ≡ false
  pub no_letter : letter b ≡ false
  pub no_digit : digit b ≡ false
  pub no_quote : nat_eq b 34 ≡ false

abbrev SignBegins : List ℕ → Type 0
SignBegins [] = ⊥
SignBegins (b ∷ bs) = BeginsSign b × (nat_eq b 35 ≡ false)

sign_begins : (s : Sign) → SignBegins (sign_spelling s)
sign_begins sign.LeftParen = (record { no_blank = refl; no_letter = refl; no_digit = refl; no_quote = refl }, refl)
sign_begins _ = (record { no_blank = refl; no_letter = refl; no_digit = refl; no_quote = refl }, refl)

-- what a token of a kind begins with
abbrev pub Begins : Kind → ℕ → Type 0
Begins (kind.Word w) b = letter b ≡ true
Begins (kind.Name x) b = letter b ≡ true
Begins (kind.Number z) b = digit b ≡ true
Begins (kind.Text t) b = b ≡ 34
Begins (kind.Sign s) b = BeginsSign b × (nat_eq b 35 ≡ false)

pub figure_head : (b : ℕ) (bs : List ℕ) → IsFigure (b ∷ bs) → digit b ≡ true
figure_head b [] h = h
figure_head b (c ∷ bs) h = h.0

pub begins : (k : Kind) (b : ℕ) (bs : List ℕ) → HasForm k (b ∷ bs) → Begins k b
begins (kind.Word w) b bs h = (subst IsName (sym h) (word_named w)).0
begins (kind.Name x) b bs h = h.1.0
begins (kind.Number z) b bs h = figure_head b bs h.0
begins (kind.Text t) b bs h = cc
begins (kind.Sign s) b bs h = subst SignBegins (sym h) (sign_begins s)

pub not_empty : (k : Kind) → HasForm k [] → ⊥
not_empty (kind.Word w) h = subst IsName (sym h) (word_named w)
not_empty (kind.Name x) h = h.1
not_empty (kind.Number z) h = h.0
not_empty (kind.Text t) h = cc
not_empty (kind.Sign s) h = subst SignBegins (sym h) (sign_begins s)

pub form_some : (k : Kind) (s : List ℕ) → HasForm k s → 1 ≤ length s
form_some k [] h = absurd (not_empty k h)
form_some k (b ∷ bs) h = omega arith

-- classes of bytes have none in common
letter_bounds : (b : ℕ) → letter b ≡ true → (65 ≤ b) × (b ≤ 122)
letter_bounds b h = grind (arith, nat_tests)

digit_bounds : (b : ℕ) → digit b ≡ true → (48 ≤ b) × (b ≤ 57)
digit_bounds b h = grind (arith, nat_tests)

pub letter_digit : (b : ℕ) → letter b ≡ true → digit b ≡ true → ⊥
letter_digit b h g = let r = letter_bounds b h in let q = digit_bounds b g in absurd (omega arith)

pub letter_quote : (b : ℕ) → letter b ≡ true → b ≡ 34 → ⊥
letter_quote b h g = let r = letter_bounds b h in absurd (omega arith)

pub digit_quote : (b : ℕ) → digit b ≡ true → b ≡ 34 → ⊥
digit_quote b h g = let r = digit_bounds b h in absurd (omega arith)

pub quote_sign : (b : ℕ) → b ≡ 34 → BeginsSign b → ⊥
quote_sign b h g = true≢false (sym (eq-eqb b 34 h) ∙ g.no_quote)

-- a kind that begins as another does
pub name_begins : (k : Kind) (b : ℕ) → letter b ≡ true → Begins k b → (s : List ℕ) → HasForm k s → IsName s
name_begins (kind.Word w) b h g s f = subst IsName (sym f) (word_named w)
name_begins (kind.Name x) b h g s f = f.1
name_begins (kind.Number z) b h g s f = absurd (letter_digit b h g)
name_begins (kind.Text t) b h g s f = absurd (letter_quote b h g)
name_begins (kind.Sign t) b h g s f = absurd (true≢false (sym h ∙ g.0.no_letter))

pub figure_begins : (k : Kind) (b : ℕ) → digit b ≡ true → Begins k b → (s : List ℕ) → HasForm k s → IsFigure s
figure_begins (kind.Word w) b h g s f = absurd (letter_digit b g h)
figure_begins (kind.Name x) b h g s f = absurd (letter_digit b g h)
figure_begins (kind.Number z) b h g s f = f.0
figure_begins (kind.Text t) b h g s f = absurd (digit_quote b h g)
figure_begins (kind.Sign t) b h g s f = absurd (true≢false (sym h ∙ g.0.no_digit))

pub text_begins : (k : Kind) (b : ℕ) → b ≡ 34 → Begins k b → (s : List ℕ) → HasForm k s → (t : List ℕ) × HasForm (kind.Text t) s
text_begins (kind.Word w) b h g s f = absurd (letter_quote b g h)
text_begins (kind.Name x) b h g s f = absurd (letter_quote b g h)
text_begins (kind.Number z) b h g s f = absurd (digit_quote b g h)
text_begins (kind.Text t) b h g s f = (t, f)
text_begins (kind.Sign t) b h g s f = absurd (quote_sign b h g.0)

pub sign_begins_as : (k : Kind) (b : ℕ) → BeginsSign b → Begins k b → (s : List ℕ) → HasForm k s → (t : Sign) × (s ≡ sign_spelling t)
sign_begins_as (kind.Word w) b h g s f = absurd (true≢false (sym g ∙ h.no_letter))
sign_begins_as (kind.Name x) b h g s f = absurd (true≢false (sym g ∙ h.no_letter))
sign_begins_as (kind.Number z) b h g s f = absurd (true≢false (sym g ∙ h.no_digit))
sign_begins_as (kind.Text t) b h g s f = absurd (quote_sign b g h)
sign_begins_as (kind.Sign t) b h g s f = (t, f)

-- each spelling is that of one word, and of one sign
word_read : (w : Word) → find (λ z. bytes_eq (word_spelling w) (word_spelling z)) WORDS ≡ Some w
word_read word.Extern = refl
word_read _ = refl

sign_read : (s : Sign) → find (λ z. starts_with nat_eq (sign_spelling s) (sign_spelling z)) SIGNS ≡ Some s
sign_read sign.LeftParen = refl
sign_read _ = refl

some_one : {A : Type 0} (a b : A) → ◌≡◌ {A = Option A} (Some a) (Some b) → a ≡ b
some_one a b h = cc

one_word : (v w : Word) → word_spelling v ≡ word_spelling w → v ≡ w
one_word v w h =
    some_one v w (sym (word_read v) ∙ ap (λ x. find (λ z. bytes_eq x (word_spelling z)) WORDS) h ∙ word_read w)

one_sign : (s t : Sign) → sign_spelling s ≡ sign_spelling t → s ≡ t
one_sign s t h =
    some_one s t (sym (sign_read s) ∙ ap (λ x. find (λ z. starts_with nat_eq x (sign_spelling z)) SIGNS) h ∙ sign_read t)

one_text : (t u : List ℕ) → list_all textual t ≡ true → list_all textual u ≡ true → text_spelling t ≡ text_spelling u → t ≡ u
one_text t u h g e =
    (units_one t u (34 ∷ []) (34 ∷ []) h g refl refl (let r : all_escaped t ++ 34 ∷ [] ≡ all_escaped u ++ 34 ∷ [] = cc in r)).0

-- The bytes are a token of one kind at most.
pub one_kind : (k k' : Kind) (b : ℕ) (s : List ℕ) → HasForm k (b ∷ s) → HasForm k' (b ∷ s) → k ≡ k'
one_kind k k' b s h g = by_kinds k k' h g (begins k b s h) (begins k' b s g)
  where
    by_kinds : (k k' : Kind) → HasForm k (b ∷ s) → HasForm k' (b ∷ s) → Begins k b → Begins k' b → k ≡ k'
    by_kinds (kind.Word v) (kind.Word w) h g p q = ap kind.Word (one_word v w (sym h ∙ g))
    by_kinds (kind.Word v) (kind.Name x) h g p q = absurd (g.2 v h)
    by_kinds (kind.Word v) (kind.Number z) h g p q = absurd (letter_digit b p q)
    by_kinds (kind.Word v) (kind.Text t) h g p q = absurd (letter_quote b p q)
    by_kinds (kind.Word v) (kind.Sign t) h g p q = absurd (true≢false (sym p ∙ q.0.no_letter))
    by_kinds (kind.Name x) (kind.Word w) h g p q = absurd (h.2 w g)
    by_kinds (kind.Name x) (kind.Name y) h g p q = ap kind.Name (sym h.0 ∙ g.0)
    by_kinds (kind.Name x) (kind.Number z) h g p q = absurd (letter_digit b p q)
    by_kinds (kind.Name x) (kind.Text t) h g p q = absurd (letter_quote b p q)
    by_kinds (kind.Name x) (kind.Sign t) h g p q = absurd (true≢false (sym p ∙ q.0.no_letter))
    by_kinds (kind.Number z) (kind.Word w) h g p q = absurd (letter_digit b q p)
    by_kinds (kind.Number z) (kind.Name y) h g p q = absurd (letter_digit b q p)
    by_kinds (kind.Number z) (kind.Number y) h g p q = ap kind.Number (h.1 ∙ sym g.1)
    by_kinds (kind.Number z) (kind.Text t) h g p q = absurd (digit_quote b p q)
    by_kinds (kind.Number z) (kind.Sign t) h g p q = absurd (true≢false (sym p ∙ q.0.no_digit))
    by_kinds (kind.Text t) (kind.Word w) h g p q = absurd (letter_quote b q p)
    by_kinds (kind.Text t) (kind.Name y) h g p q = absurd (letter_quote b q p)
    by_kinds (kind.Text t) (kind.Number z) h g p q = absurd (digit_quote b q p)
    by_kinds (kind.Text t) (kind.Text u) h g p q = ap kind.Text (one_text t u h.1 g.1 (sym h.0 ∙ g.0))
    by_kinds (kind.Text t) (kind.Sign u) h g p q = absurd (quote_sign b p q.0)
    by_kinds (kind.Sign t) (kind.Word w) h g p q = absurd (true≢false (sym q ∙ p.0.no_letter))
    by_kinds (kind.Sign t) (kind.Name y) h g p q = absurd (true≢false (sym q ∙ p.0.no_letter))
    by_kinds (kind.Sign t) (kind.Number z) h g p q = absurd (true≢false (sym q ∙ p.0.no_digit))
    by_kinds (kind.Sign t) (kind.Text u) h g p q = absurd (quote_sign b q p.0)
    by_kinds (kind.Sign t) (kind.Sign u) h g p q = ap kind.Sign (one_sign t u (sym h ∙ g))
