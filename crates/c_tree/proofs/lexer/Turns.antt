-- The turns of the loop over the bytes.
use Rattle.std.proofs.Common.{◌≡◌, ℕ, zero, suc, ◌+◌, ◌≤◌, ◌<◌, Bool, true, false, ◌&&◌, List, [], ◌∷◌, ◌++◌, length, take, drop, slice_index, Result, Ok, Err, refl, sym, ap, subst, ◌∙◌, arith, append_assoc, length-append, take-append-drop, inl, inr, zero-add}
use Rattle.std.specs.Prelude.{Vec}
use Rattle.std.specs.Global.{Global}
use Rattle.c_tree.specs.declared.lexer.tokens.Kind.{Kind}
use Rattle.c_tree.specs.declared.lexer.tokens.Pos.{Pos}
use Rattle.c_tree.specs.declared.lexer.tokens.Token.{Token as Lexeme}
use Rattle.c_tree.specs.declared.lexer.front.Front.TheVariants as front
use Rattle.c_tree.specs.declared.lexer.refusals.LexRefusal.{LexRefusal}
use Rattle.c_tree.specs.declared.lexer.refusals.LexRefusal.TheVariants as refusal
use Rattle.c_tree.specs.Spelling.{part}
use Rattle.c_tree.specs.Lexed.{after_byte, advance, start, fresh_after, IsApart, is_number, Stop, AtEnd, AtBadByte, AtOpenComment, AtOpenText, AtNumberTooLarge, Stops, Part, Passed, Spelled, bytes_of, is_fresh_behind, is_number_part, IsPartBefore, AreParts, tokens_of, all_bytes, Outcome, outcome_of, Lexes}
use Rattle.c_tree.specs.Front.{IsFront}
use Rattle.c_tree.specs.Answered.{Answers}
use Rattle.c_tree.proofs.lexer.Longest.{taken}
use Rattle.c_tree.proofs.lexer.Outcomes.{one_outcome}
use Rattle.std.proofs.lemmas.Bool.{and_parts, true≢false}
use Rattle.std.proofs.lemmas.List.{append-nil}

-- n bytes of the source have been cut into parts
pub record State (bs : List ℕ) (fresh number : Bool) (n : ℕ) (p : Pos) (ts : List Lexeme) : Type 0 where
  pub parts : List Part
  pub size : n ≡ length (all_bytes parts)
  pub place : p ≡ advance start (all_bytes parts)
  pub tokens : ts ≡ tokens_of 0 start parts
  pub goes : (stop : Stop) (more : List Part) → AreParts stop fresh number (drop n bs) more → AreParts stop true false bs (parts ++ more)

pub begins : (bs : List ℕ) (ts : List Lexeme) → ts ≡ [] → State bs true false 0 start ts
begins bs ts h = record { parts = []; size = refl; place = refl; tokens = h; goes = λ stop more a. a }

advance-append : (p : Pos) (a b : List ℕ) → advance p (a ++ b) ≡ advance (advance p a) b
advance-append p [] b = refl
advance-append p (x ∷ xs) b = advance-append (after_byte p x) xs b

all_bytes-push : (xs : List Part) (x : Part) → all_bytes (xs ++ x ∷ []) ≡ all_bytes xs ++ bytes_of x
all_bytes-push [] x = append-nil (bytes_of x)
all_bytes-push (y ∷ xs) x =
    ap (λ z. bytes_of y ++ z) (all_bytes-push xs x) ∙ sym (append_assoc (bytes_of y) (all_bytes xs) (bytes_of x))

-- the token of a part, if it is one
abbrev pub token_of : ℕ → Pos → Part → List Lexeme
token_of n p (Passed s) = []
token_of n p (Spelled k s) = record { kind = k; from = n; to = n + length s; at = p } ∷ []

token_one : (n : ℕ) (p : Pos) (x : Part) → tokens_of n p (x ∷ []) ≡ token_of n p x
token_one n p (Passed s) = refl
token_one n p (Spelled k s) = refl

tokens_of-push : (n : ℕ) (p : Pos) (xs : List Part) (x : Part) → tokens_of n p (xs ++ x ∷ []) ≡ tokens_of n p xs ++ token_of (n + length (all_bytes xs)) (advance p (all_bytes xs)) x
tokens_of-push n p [] x =
    token_one n p x ∙ ap (λ z. token_of z p x) (let e : n ≡ n + length (all_bytes []) = omega arith in e)
tokens_of-push n p (Passed s ∷ xs) x =
    tokens_of-push (n + length s) (advance p s) xs x ∙ ap
    (λ z. tokens_of (n + length s) (advance p s) xs ++ token_of z (advance (advance p s) (all_bytes xs)) x)
    (let e : n + length s + length (all_bytes xs) ≡ n + length (s ++ all_bytes xs) = omega (arith, length-append s (all_bytes xs)) in e)
    ∙ ap (λ z. tokens_of (n + length s) (advance p s) xs ++ token_of (n + length (s ++ all_bytes xs)) z x)
    (sym (advance-append p s (all_bytes xs)))
tokens_of-push n p (Spelled k s ∷ xs) x =
    ap (λ z. record { kind = k; from = n; to = n + length s; at = p } ∷ z)
    (tokens_of-push (n + length s) (advance p s) xs x ∙ ap
    (λ z. tokens_of (n + length s) (advance p s) xs ++ token_of z (advance (advance p s) (all_bytes xs)) x)
    (let e : n + length s + length (all_bytes xs) ≡ n + length (s ++ all_bytes xs) = omega (arith, length-append s (all_bytes xs)) in e)
    ∙ ap (λ z. tokens_of (n + length s) (advance p s) xs ++ token_of (n + length (s ++ all_bytes xs)) z x)
    (sym (advance-append p s (all_bytes xs))))

drop_nil : (n : ℕ) → drop n (let e : List ℕ = [] in e) ≡ []
drop_nil zero = refl
drop_nil (suc n) = refl

drop_twice : (a b : ℕ) (bs : List ℕ) → drop a (drop b bs) ≡ drop (b + a) bs
drop_twice a zero bs = ap (λ z. drop z bs) (sym (zero-add a))
drop_twice a (suc b) [] = drop_nil a ∙ sym (drop_nil (suc b + a))
drop_twice a (suc b) (x ∷ xs) =
    drop_twice a b xs ∙ ap (λ z. drop z (x ∷ xs)) (let e : suc (b + a) ≡ suc b + a = omega arith in e)

-- one part more
pub part_more : (bs : List ℕ) (fresh number : Bool) (n : ℕ) (p : Pos) (ts : List Lexeme) (l : ℕ) (x : Part) → l ≤ length (drop n bs)
    → bytes_of x ≡ take l (drop n bs) → (number ≡ true → IsApart (drop n bs)) → IsPartBefore fresh x (drop l (drop n bs))
    → State bs fresh number n p ts → State bs (is_fresh_behind fresh x) (is_number_part x) (n + l) (advance p (take l (drop n bs)))
    (ts ++ token_of n p x)
part_more bs fresh number n p ts l x w b a i s = record {
  parts = s.parts ++ x ∷ [];
  size = omega (arith, s.size, ap length (all_bytes-push s.parts x), length-append (all_bytes s.parts) (bytes_of x), ap length b, taken l (drop n bs) w);
  place = ap (λ z. advance z (take l (drop n bs))) s.place ∙ sym (advance-append start (all_bytes s.parts) (take l (drop n bs)))
      ∙ ap (λ z. advance start (all_bytes s.parts ++ z)) (sym b) ∙ ap (advance start) (sym (all_bytes-push s.parts x));
  tokens = ap (λ z. z ++ token_of n p x) s.tokens ∙ ap (λ z. tokens_of 0 start s.parts ++ token_of z p x)
      (s.size ∙ sym (zero-add (length (all_bytes s.parts))))
      ∙ ap (λ z. tokens_of 0 start s.parts ++ token_of (0 + length (all_bytes s.parts)) z x) s.place
      ∙ sym (tokens_of-push 0 start s.parts x);
  goes = λ stop more h. subst (AreParts stop true false bs) (sym (append_assoc s.parts (x ∷ []) more))
      (s.goes stop (x ∷ more) (
        a,
        (
          drop l (drop n bs),
          sym (take-append-drop l (drop n bs)) ∙ ap (λ z. z ++ drop l (drop n bs)) (sym b),
          i,
          subst (λ z. AreParts stop (is_fresh_behind fresh x) (is_number_part x) z more) (sym (drop_twice l n bs)) h,
        ),
      ));
}

-- the outcome of stopping at a place
abbrev pub outcome_at : Pos → List Lexeme → Stop → Outcome
outcome_at p ts AtEnd = Ok ts
outcome_at p ts (AtBadByte good) = Err (refusal.BadByte (advance p good))
outcome_at p ts AtOpenComment = Err (refusal.OpenComment p)
outcome_at p ts AtOpenText = Err (refusal.OpenText p)
outcome_at p ts AtNumberTooLarge = Err (refusal.NumberTooLarge p)

outcome_is : (xs : List Part) (p : Pos) (ts : List Lexeme) (stop : Stop) → p ≡ advance start (all_bytes xs) → ts ≡ tokens_of 0 start xs → outcome_at p ts stop ≡ outcome_of xs stop
outcome_is xs p ts AtEnd h g = ap Ok g
outcome_is xs p ts (AtBadByte good) h g =
    ap (λ z. Err (refusal.BadByte (advance z good))) h ∙ ap (λ z. Err (refusal.BadByte z)) (sym (advance-append start (all_bytes xs) good))
outcome_is xs p ts AtOpenComment h g = ap (λ z. Err (refusal.OpenComment z)) h
outcome_is xs p ts AtOpenText h g = ap (λ z. Err (refusal.OpenText z)) h
outcome_is xs p ts AtNumberTooLarge h g = ap (λ z. Err (refusal.NumberTooLarge z)) h

-- where the tokens end, the outcome is known
pub stops_here : (bs : List ℕ) (fresh number : Bool) (n : ℕ) (p : Pos) (ts : List Lexeme) (stop : Stop)
    → Stops fresh number (drop n bs) stop → State bs fresh number n p ts → Lexes bs (outcome_at p ts stop)
stops_here bs fresh number n p ts stop h s = record {
  parts = s.parts;
  stop = stop;
  are = subst (AreParts stop true false bs) (append-nil s.parts) (s.goes stop [] h);
  gives = outcome_is s.parts p ts stop s.place s.tokens;
}

pub clash_stops : (fresh number : Bool) (bs : List ℕ) → 0 < length bs → (number && part (slice_index bs 0)) ≡ true → Stops fresh number bs (AtBadByte [])
clash_stops fresh number [] o h = absurd (omega arith)
clash_stops fresh number (b ∷ bs) o h = let r = and_parts number (part b) h in inl (r.0, refl, r.1)

pub apart : (number : Bool) (bs : List ℕ) → (number && part (slice_index bs 0)) ≡ false → number ≡ true → IsApart bs
apart number [] h e = tt
apart true (b ∷ bs) h e = h
apart false (b ∷ bs) h e = absurd (true≢false (sym e))

none_taken : (l : ℕ) (bs : List ℕ) → l ≡ 0 → take l bs ≡ []
none_taken l bs h = rw h refl

pub bad_stops : (fresh number : Bool) (bs : List ℕ) (l : ℕ) → (number ≡ true → IsApart bs) → IsFront fresh bs (front.BadByte l) → Stops fresh number bs (AtBadByte (take l bs))
bad_stops fresh number bs l a (inl n) = inr (inl (a, none_taken l bs n.0, n.1))
bad_stops fresh number bs l a (inr b) = inr (inr b)

pub only_answer : (bs : List ℕ) (r : Result (Vec Lexeme Global) LexRefusal) (o : Outcome) → Lexes bs o → Answers (Lexes bs) r → Answers (λ x. x ≡ o) r
only_answer bs (Ok v) o h a = one_outcome bs (Ok v.items) o a h
only_answer bs (Err (refusal.BadByte p)) o h a = one_outcome bs (Err (refusal.BadByte p)) o a h
only_answer bs (Err (refusal.OpenComment p)) o h a = one_outcome bs (Err (refusal.OpenComment p)) o a h
only_answer bs (Err (refusal.OpenText p)) o h a = one_outcome bs (Err (refusal.OpenText p)) o a h
only_answer bs (Err (refusal.NumberTooLarge p)) o h a = one_outcome bs (Err (refusal.NumberTooLarge p)) o a h
only_answer bs (Err refusal.OutOfMemory) o h a = tt

pub passed_more : (bs : List ℕ) (fresh number : Bool) (n : ℕ) (p : Pos) (ts : List Lexeme) (l : ℕ) → l ≤ length (drop n bs)
    → (number ≡ true → IsApart (drop n bs)) → IsFront fresh (drop n bs) (front.Passed l) → State bs fresh number n p ts
    → State bs (fresh_after fresh (take l (drop n bs))) false (n + l) (advance p (take l (drop n bs))) ts
passed_more bs fresh number n p ts l w a f s =
    subst (State bs (fresh_after fresh (take l (drop n bs))) false (n + l) (advance p (take l (drop n bs)))) (append-nil ts)
    (part_more bs fresh number n p ts l (Passed (take l (drop n bs))) w refl a f s)

pub token_more : (bs : List ℕ) (fresh number : Bool) (n : ℕ) (p : Pos) (ts : List Lexeme) (k : Kind) (l : ℕ) → l ≤ length (drop n bs)
    → (number ≡ true → IsApart (drop n bs)) → IsFront fresh (drop n bs) (front.Token k l) → State bs fresh number n p ts
    → State bs false (is_number k) (n + l) (advance p (take l (drop n bs))) (ts ++ record { kind = k; from = n; to = n + l; at = p } ∷ [])
token_more bs fresh number n p ts k l w a f s =
    subst (λ z. State bs false (is_number k) (n + l) (advance p (take l (drop n bs)))
    (ts ++ record { kind = k; from = n; to = n + z; at = p } ∷ [])) (taken l (drop n bs) w)
    (part_more bs fresh number n p ts l (Spelled k (take l (drop n bs))) w refl a f s)
