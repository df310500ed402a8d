-- What was read of the tokens is the tree of the bytes.
use Rattle.std.proofs.Common.{◌≡◌, ℕ, suc, ◌+◌, ◌<◌, ◌≤◌, Bool, true, false, List, [], ◌∷◌, length, Option, Some, None, Result, Ok, Err, inl, inr, nat_lt, refl, sym, ap, subst, ◌∙◌, map, slice_get, arith, Vec}
use Rattle.std.specs.Prelude.{if◌then◌else◌}
use Rattle.std.proofs.lemmas.Option.{slice_get_cases}
use Rattle.std.proofs.lemmas.List.{length-map}
use Rattle.c_tree.specs.declared.lexer.tokens.Token.{Token}
use Rattle.c_tree.specs.declared.lexer.tokens.Pos.{Pos}
use Rattle.c_tree.specs.declared.lexer.refusals.LexRefusal.{LexRefusal}
use Rattle.c_tree.specs.declared.lexer.refusals.LexRefusal.TheVariants as lex_refusal
use Rattle.c_tree.specs.Answered.{Answers}
use Rattle.c_tree.specs.Lexed.{Lexes, Outcome, advance, start}
use Rattle.c_tree.specs.Tree.{ProgramTree}
use Rattle.c_tree.specs.Print.{Mark, program}
use Rattle.c_tree.specs.Reads.{first_deep, shown, Prints, Reads, Deep}
use Rattle.c_reader.specs.Kinds.{kinds}
use Rattle.c_tree.specs.Refused.{places, place_or, place_at, CanRefuse}
use Rattle.c_reader.specs.declared.faults.Fault.{Fault}
use Rattle.c_reader.specs.declared.faults.Fault.TheVariants.{Syntax, TooDeep}
use Rattle.c_tree.specs.declared.refusals.SourceRefusal.{SourceRefusal}
use Rattle.c_tree.specs.declared.refusals.SourceRefusal.TheVariants.{Lex, TooDeep as TooDeepAt}
use Rattle.c_reader.specs.Answered.{IsTree, IsRefusal, not_lexed, deep_at, refusal_of}
use Rattle.c_reader.specs.Whole.{whole}
use Rattle.c_reader.proofs.Spans.{spans_whole, whole_spans, after}
use Rattle.c_reader.proofs.Mains.{whole_complete, whole_sound, whole_far}

-- what the tokens are read as, where a tree prints them
pub printed : (ts : List Token) (p : ProgramTree) → Prints ts p → whole (kinds ts) (places ts) ≡ after (first_deep 0 (program p)) (Ok p)
printed ts p h =
    subst (λ z. whole (kinds ts) z ≡ after (first_deep 0 (program p)) (Ok p)) h.places
    (whole_complete (kinds ts) p h.grouped (spans_whole (kinds ts) 0 (program p) h.kinds h.numbered Rattle.std.proofs.Common.zero-le))

pub prints : (ts : List Token) (p : ProgramTree) → whole (kinds ts) (places ts) ≡ Ok p → Prints ts p
prints ts p h =
    let r = whole_sound (kinds ts) (places ts) p h in
    let s = whole_spans (kinds ts) 0 (program p) r.spans in
    record { kinds = s.0; places = r.placed; numbered = s.1; grouped = r.valid }

same_tokens : (a b : List Token) → ◌≡◌ {A = Outcome} (Ok a) (Ok b) → a ≡ b
same_tokens a b h = cc

pub reads : (bytes : List ℕ) (ts : List Token) (p : ProgramTree) → Lexes bytes (Ok ts) → whole (kinds ts) (places ts) ≡ Ok p → Reads bytes p
reads bytes ts p l h =
    record { tokens = ts; lexed = l; prints = prints ts p h; shallow = (whole_sound (kinds ts) (places ts) p h).shallow }

-- the tokens that the lexer gave are those of the tree
pub read_once : (bytes : List ℕ) (ts : List Token) (p : ProgramTree) → ((o : Outcome) → Lexes bytes o → Ok ts ≡ o) → Reads bytes p → whole (kinds ts) (places ts) ≡ Ok p
read_once bytes ts p only r =
    let same = same_tokens ts r.tokens (only (Ok r.tokens) r.lexed) in
    printed ts p (subst (λ z. Prints z p) (sym same) r.prints) ∙ ap (λ z. after z (Ok p)) r.shallow

pub read_deep : (bytes : List ℕ) (ts : List Token) (p : ProgramTree) (n : ℕ) → ((o : Outcome) → Lexes bytes o → Ok ts ≡ o) → Deep bytes p n → whole (kinds ts) (places ts) ≡ Err (TooDeep n)
read_deep bytes ts p n only r =
    let same = same_tokens ts r.tokens (only (Ok r.tokens) r.lexed) in
    printed ts p (subst (λ z. Prints z p) (sym same) r.prints) ∙ ap (λ z. after z (Ok p)) r.first

pub deep_places : (bytes : List ℕ) (ts : List Token) (p : ProgramTree) (n : ℕ) → ((o : Outcome) → Lexes bytes o → Ok ts ≡ o) → Deep bytes p n → p.places ≡ places ts
deep_places bytes ts p n only r =
    let same = same_tokens ts r.tokens (only (Ok r.tokens) r.lexed) in
    r.prints.places ∙ ap places (sym same)

-- a token that stands too deep is one of those that are printed
deep_within : (n q : ℕ) (ms : List Mark) → first_deep n ms ≡ Some q → q < n + length ms
deep_within n q [] h = absurd (never h)
  where
    never : ◌≡◌ {A = Option ℕ} None (Some q) → ⊥
    never h = cc
deep_within n q (m ∷ ms) h = by_test (nat_lt 64 m.level) h (λ g. deep_within (suc n) q ms g)
  where
    same : ◌≡◌ {A = Option ℕ} (Some n) (Some q) → n ≡ q
    same h = cc

    by_test : (t : Bool)
        → (if t then Some n else first_deep (suc n) ms) ≡ Some q
        → (first_deep (suc n) ms ≡ Some q → q < suc n + length ms)
        → q < n + length (m ∷ ms)
    by_test true g f = let e = same g in omega (arith, e)
    by_test false g f = let e = f g in omega (arith, e)

-- where a tree prints the tokens, its first token that is too deep is one of them
deep_token : (ts : List Token) (p : ProgramTree) (n : ℕ) → Prints ts p → first_deep 0 (program p) ≡ Some n → n < length (places ts)
deep_token ts p n o h =
    let inside : n < 0 + length (program p) = deep_within 0 n (program p) h in
    let shown_length = length-map (program p) (λ (m : Mark). m.kind) in
    let kinds_length = length-map ts (λ (t : Token). t.kind) in
    let places_length = length-map ts (λ (t : Token). t.at) in
    let same = ap length o.kinds in
    omega (arith, inside, shown_length, kinds_length, places_length, same)

-- the token at which reading was too deep is the first that is in the tree
deep_first : (ts : List Token) (p : ProgramTree) (n : ℕ)
    → whole (kinds ts) (places ts) ≡ Err (TooDeep n)
    → Prints ts p
    → first_deep 0 (program p) ≡ Some n
deep_first ts p n h o = by_deep (first_deep 0 (program p)) (sym h ∙ printed ts p o)
  where
    by_deep : (d : Option ℕ) → ◌≡◌ {A = Result ProgramTree Fault} (Err (TooDeep n)) (after d (Ok p)) → d ≡ Some n
    by_deep None g = cc
    by_deep (Some q) g = cc

-- an element below the length is there
not_past : {A : Type 0} (xs : List A) (n : ℕ) → n < length xs → slice_get xs n ≡ None → ⊥
not_past {A = A} xs n h e = elim (slice_get_cases xs n).1 as (λ _. ⊥) [ inl x ↦ never x.0 (sym e ∙ x.2) | inr y ↦ omega (arith, h, y.0) ]
  where
    never : (x : A) → ◌≡◌ {A = Option A} None (Some x) → ⊥
    never x h = cc

-- a token that is there is refused at its place
deep_there : (o : Option Pos) (q : Pos) → (o ≡ None → ⊥) → deep_at o q ≡ TooDeepAt (place_or o q)
deep_there (Some p) q h = refl
deep_there None q h = absurd (h refl)

pub no_tree : (ts : List Token) (n : ℕ) → whole (kinds ts) (places ts) ≡ Err (Syntax n) → (p : ProgramTree) → Prints ts p → ⊥
no_tree ts n h p o = by_deep (first_deep 0 (program p)) (sym h ∙ printed ts p o)
  where
    by_deep : (d : Option ℕ) → ◌≡◌ {A = Result ProgramTree Fault} (Err (Syntax n)) (after d (Ok p)) → ⊥
    by_deep None g = cc
    by_deep (Some q) g = cc

-- at most one tree has the tokens of the bytes
pub one_tree : (bytes : List ℕ) (a b : ProgramTree) → ((x y : Outcome) → Lexes bytes x → Lexes bytes y → x ≡ y) → Reads bytes a → Reads bytes b → a ≡ b
one_tree bytes a b one r s =
    same a b (sym (read_once bytes r.tokens a (λ o l. one (Ok r.tokens) o r.lexed l) r) ∙ read_once bytes r.tokens b (λ o l. one (Ok r.tokens) o r.lexed l) s)
  where
    same : (a b : ProgramTree) → ◌≡◌ {A = Result ProgramTree Fault} (Ok a) (Ok b) → a ≡ b
    same a b h = cc

-- the tree of a source shows the kinds of its tokens
pub shows_its_tokens : (bytes : List ℕ) (p : ProgramTree) (ts : List Token) → ((x y : Outcome) → Lexes bytes x → Lexes bytes y → x ≡ y) → Reads bytes p → Lexes bytes (Ok ts) → shown p ≡ kinds ts
shows_its_tokens bytes p ts one r l = r.prints.kinds ∙ ap kinds (same_tokens r.tokens ts (one (Ok r.tokens) (Ok ts) r.lexed l))

-- what the answer is where a tree was read
module _ (bytes : List ℕ) (ts : List Token) (q : ProgramTree) (only : (o : Outcome) → Lexes bytes o → Ok ts ≡ o) (h : whole (kinds ts) (places ts) ≡ Ok q) where
  pub given_only : (p : ProgramTree) → Reads bytes p → q ≡ p
  given_only p r = same q p (sym h ∙ read_once bytes ts p only r)
    where
      same : (a b : ProgramTree) → ◌≡◌ {A = Result ProgramTree Fault} (Ok a) (Ok b) → a ≡ b
      same a b h = cc

  pub given_deep : (p : ProgramTree) (n : ℕ) → Deep bytes p n → ⊥
  given_deep p n r = never (sym h ∙ read_deep bytes ts p n only r)
    where
      never : ◌≡◌ {A = Result ProgramTree Fault} (Ok q) (Err (TooDeep n)) → ⊥
      never h = cc

pub given_lexed : (bytes : List ℕ) (ts : List Token) → ((o : Outcome) → Lexes bytes o → Ok ts ≡ o) → (r : LexRefusal) → Lexes bytes (Err r) → ⊥
given_lexed bytes ts only r l = never (only (Err r) l)
  where
    never : ◌≡◌ {A = Outcome} (Ok ts) (Err r) → ⊥
    never h = cc

-- what the answer is where a fault was found
module _ (bytes : List ℕ) (ts : List Token) (f : Fault) (only : (o : Outcome) → Lexes bytes o → Ok ts ≡ o) (h : whole (kinds ts) (places ts) ≡ Err f) where
  pub refused_only : (p : ProgramTree) → Reads bytes p → ⊥
  refused_only p r = never (sym h ∙ read_once bytes ts p only r)
    where
      never : ◌≡◌ {A = Result ProgramTree Fault} (Err f) (Ok p) → ⊥
      never h = cc

  pub refused_deep : (p : ProgramTree) (n : ℕ) → Deep bytes p n → refusal_of (places ts) bytes f ≡ TooDeepAt (place_at p.places bytes n)
  refused_deep p n r =
      let same : f ≡ TooDeep n = one f (TooDeep n) (sym h ∙ read_deep bytes ts p n only r) in
      let read : Prints ts p = subst (λ z. Prints z p) (sym (same_tokens ts r.tokens (only (Ok r.tokens) r.lexed))) r.prints in
      ap (refusal_of (places ts) bytes) same
      ∙ deep_there (slice_get (places ts) n) (advance start bytes) (not_past (places ts) n (deep_token ts p n read r.first))
      ∙ ap (λ z. TooDeepAt (place_at z bytes n)) (sym (deep_places bytes ts p n only r))
    where
      one : (a b : Fault) → ◌≡◌ {A = Result ProgramTree Fault} (Err a) (Err b) → a ≡ b
      one a b h = cc

-- the refusal of a fault has its reason
pub can_refuse : (bytes : List ℕ) (ts : List Token) (f : Fault) → Lexes bytes (Ok ts) → whole (kinds ts) (places ts) ≡ Err f → CanRefuse bytes (refusal_of (places ts) bytes f)
can_refuse bytes ts (Syntax n) l h =
    record { tokens = ts; lexed = l; number = n; here = refl; none = λ p o. no_tree ts n h p o }
can_refuse bytes ts (TooDeep n) l h = by_place (slice_get (places ts) n) refl
  where
    by_place : (o : Option Pos) → slice_get (places ts) n ≡ o → CanRefuse bytes (deep_at o (advance start bytes))
    by_place (Some at) e = record { tokens = ts; lexed = l; number = n; here = e; far = whole_far (kinds ts) (places ts) n h }
    by_place None e = record {
      tokens = ts;
      lexed = l;
      number = n;
      here = sym (ap (λ z. place_or z (advance start bytes)) e);
      none = λ p o. not_past (places ts) n (deep_token ts p n o (deep_first ts p n h o)) e;
    }

-- a refusal of a fault is that of the deeper tree
pub is_refusal : (ps : List Pos) (bytes : List ℕ) (f : Fault) (r s : SourceRefusal) → s ≡ refusal_of ps bytes f → refusal_of ps bytes f ≡ r → IsRefusal r (Err s)
is_refusal ps bytes f r s h g = subst (λ z. IsRefusal r (Err z)) (sym h) (by_fault f g)
  where
    by_fault : (f : Fault) → refusal_of ps bytes f ≡ r → IsRefusal r (Err (refusal_of ps bytes f))
    by_fault (Syntax n) g = g
    by_fault (TooDeep n) g = by_place (slice_get ps n) g
      where
        by_place : (o : Option Pos) → deep_at o (advance start bytes) ≡ r → IsRefusal r (Err (deep_at o (advance start bytes)))
        by_place (Some p) g = g
        by_place None g = g

-- what the answer is where the lexer refuses
no_tokens : (r : LexRefusal) (ts : List Token) → ◌≡◌ {A = Outcome} (Err r) (Ok ts) → ⊥
no_tokens r ts h = cc

same_refusal : (r s : LexRefusal) → ◌≡◌ {A = Outcome} (Err r) (Err s) → Lex r ≡ Lex s
same_refusal r s h = cc

-- what the lexer's refusal says of each outcome
abbrev OnlyRefusal : List ℕ → LexRefusal → Type 0
OnlyRefusal bytes r = (o : Outcome) → Lexes bytes o → Answers (λ x. x ≡ o) (Err r)

pub unlexed_only : (bytes : List ℕ) (r : LexRefusal) → OnlyRefusal bytes r → (p : ProgramTree) → Reads bytes p → IsTree p (Err (not_lexed r))
unlexed_only bytes (lex_refusal.BadByte at) only p h = no_tokens (lex_refusal.BadByte at) h.tokens (only (Ok h.tokens) h.lexed)
unlexed_only bytes (lex_refusal.OpenComment at) only p h = no_tokens (lex_refusal.OpenComment at) h.tokens (only (Ok h.tokens) h.lexed)
unlexed_only bytes (lex_refusal.OpenText at) only p h = no_tokens (lex_refusal.OpenText at) h.tokens (only (Ok h.tokens) h.lexed)
unlexed_only bytes (lex_refusal.NumberTooLarge at) only p h = no_tokens (lex_refusal.NumberTooLarge at) h.tokens (only (Ok h.tokens) h.lexed)
unlexed_only bytes lex_refusal.OutOfMemory only p h = tt

pub unlexed_deep : (bytes : List ℕ) (r : LexRefusal) (s : SourceRefusal) → OnlyRefusal bytes r → (p : ProgramTree) (n : ℕ) → Deep bytes p n → IsRefusal s (Err (not_lexed r))
unlexed_deep bytes (lex_refusal.BadByte at) s only p n h = absurd (no_tokens (lex_refusal.BadByte at) h.tokens (only (Ok h.tokens) h.lexed))
unlexed_deep bytes (lex_refusal.OpenComment at) s only p n h = absurd (no_tokens (lex_refusal.OpenComment at) h.tokens (only (Ok h.tokens) h.lexed))
unlexed_deep bytes (lex_refusal.OpenText at) s only p n h = absurd (no_tokens (lex_refusal.OpenText at) h.tokens (only (Ok h.tokens) h.lexed))
unlexed_deep bytes (lex_refusal.NumberTooLarge at) s only p n h = absurd (no_tokens (lex_refusal.NumberTooLarge at) h.tokens (only (Ok h.tokens) h.lexed))
unlexed_deep bytes lex_refusal.OutOfMemory s only p n h = tt

pub unlexed_same : (bytes : List ℕ) (r : LexRefusal) → OnlyRefusal bytes r → (s : LexRefusal) → Lexes bytes (Err s) → IsRefusal (Lex s) (Err (not_lexed r))
unlexed_same bytes (lex_refusal.BadByte at) only s h = same_refusal (lex_refusal.BadByte at) s (only (Err s) h)
unlexed_same bytes (lex_refusal.OpenComment at) only s h = same_refusal (lex_refusal.OpenComment at) s (only (Err s) h)
unlexed_same bytes (lex_refusal.OpenText at) only s h = same_refusal (lex_refusal.OpenText at) s (only (Err s) h)
unlexed_same bytes (lex_refusal.NumberTooLarge at) only s h = same_refusal (lex_refusal.NumberTooLarge at) s (only (Err s) h)
unlexed_same bytes lex_refusal.OutOfMemory only s h = tt

pub unlexed_can : (bytes : List ℕ) (r : LexRefusal) → Answers (Lexes bytes) (Err r) → CanRefuse bytes (not_lexed r)
unlexed_can bytes (lex_refusal.BadByte at) h = h
unlexed_can bytes (lex_refusal.OpenComment at) h = h
unlexed_can bytes (lex_refusal.OpenText at) h = h
unlexed_can bytes (lex_refusal.NumberTooLarge at) h = h
unlexed_can bytes lex_refusal.OutOfMemory h = tt
