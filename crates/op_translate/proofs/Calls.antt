-- Calls of loops and calls of stubs, as parts of a source, each in the other's place.
use Rattle.std.proofs.Common.{◌≡◌, ◌≢◌, ℕ, ◌≤◌, ◌<◌, Bool, true, false, List, [], ◌∷◌, ◌++◌, length, ⊎_elim, refl, sym, ap, subst, ◌∙◌, append_assoc, arith, codes, nat_eq}
use Rattle.std.specs.Prelude.{not}
use Rattle.std.specs.List.{list_all, starts_with}
use Rattle.std.proofs.lemmas.Bool.{cases_lt, true≢false}
use Rattle.c_tree.specs.declared.lexer.tokens.Kind.{Kind}
use Rattle.c_tree.specs.declared.lexer.tokens.Kind.TheVariants as kind
use Rattle.c_tree.specs.declared.lexer.tokens.Sign.{Sign}
use Rattle.c_tree.specs.declared.lexer.tokens.Sign.TheVariants as sign
use Rattle.c_tree.specs.declared.lexer.tokens.Word.{Word}
use Rattle.c_tree.specs.declared.lexer.tokens.Word.TheVariants as word
use Rattle.c_tree.specs.Spelling.{sign_spelling, word_spelling, part, IsName, HasForm}
use Rattle.c_tree.specs.Lexed.{fresh_after, BeginsNoComment, NoLonger, IsLongest, Part, Passed, Spelled, all_bytes, is_number}
use Rattle.c_tree.proofs.Public.{Begins, BeginsSign, begins, name_begins, sign_begins_as, not_empty, letter_bounds}
use Rattle.op_translate.specs.Translation.{prefix}
use Rattle.op_translate.proofs.Ahead.{beyond, all_at}
use Rattle.op_translate.proofs.Patches.{fresh_behind, number_behind, IsSwap}

-- ---- tokens with a sign behind them

-- a name, reserved or not, ends where a sign stands
named_longest : (s : List ℕ) (c : ℕ) (rest : List ℕ) → IsName s → part c ≡ false → NoLonger (s ++ c ∷ rest) (length s)
named_longest [] c rest n apart k w more h e = absurd n
named_longest (b ∷ s) c rest n apart k [] more h e = absurd (not_empty k h)
named_longest (b ∷ s) c rest n apart k (a ∷ w) more h e =
    let same : b ≡ a = cc in
    let named : IsName (a ∷ w) = name_begins k b n.0 (subst (Begins k) (sym same) (begins k a w h)) (a ∷ w) h in
    ⊎_elim
    (λ (l : length (b ∷ s) < length (a ∷ w)).
    let t = beyond (b ∷ s) (a ∷ w) c rest more e l in
    let row : IsName ((b ∷ s) ++ c ∷ t.0) = subst IsName t.1 named in
    absurd (true≢false (sym (all_at part s c t.0 row.1) ∙ apart)))
    (λ (l : length (a ∷ w) ≤ length (b ∷ s)). l)
    (cases_lt (length (b ∷ s)) (length (a ∷ w)))

no_slash : (b : ℕ) (bs : List ℕ) → b ≢ 47 → BeginsNoComment (b ∷ bs)
no_slash b bs h = ((λ rest e. h (let same : b ≡ 47 = cc in same)), (λ rest e. h (let same : b ≡ 47 = cc in same)))

quiet_name : (s bs : List ℕ) → IsName s → BeginsNoComment (s ++ bs)
quiet_name [] bs n = absurd n
quiet_name (b ∷ s) bs n = let low : 65 ≤ b = letter_bounds b n.0 in no_slash b (s ++ bs) (λ e. absurd (omega (arith, e, low)))

pub named_before : (k : Kind) (s : List ℕ) (c : ℕ) (rest : List ℕ) → HasForm k s → IsName s → part c ≡ false → IsLongest k s (c ∷ rest)
named_before k s c rest f n apart = record {
  form = f;
  longest = named_longest s c rest n apart;
  no_comment = quiet_name s (c ∷ rest) n;
}

-- no longer sign begins with `(`, and none with `,`
abbrev short : ℕ → List ℕ → Bool
short b [] = true
short b (c ∷ []) = true
short b (c ∷ d ∷ bs) = not (nat_eq b c)

short_paren : (s : Sign) → short 40 (sign_spelling s) ≡ true
short_paren sign.LeftParen = refl
short_paren _ = refl

short_comma : (s : Sign) → short 44 (sign_spelling s) ≡ true
short_comma sign.LeftParen = refl
short_comma _ = refl

short_one : (b : ℕ) (w : List ℕ) → nat_eq b b ≡ true → short b (b ∷ w) ≡ true → length (b ∷ w) ≤ 1
short_one b [] e h = omega arith
short_one b (d ∷ w) e h = absurd (true≢false (sym h ∙ ap not e))

sign_longest : (b : ℕ) → BeginsSign b → nat_eq b b ≡ true → ((s : Sign) → short b (sign_spelling s) ≡ true) → (rest : List ℕ) → NoLonger (b ∷ rest) 1
sign_longest b is e all rest k [] more h row = omega arith
sign_longest b is e all rest k (a ∷ w) more h row =
    let same : b ≡ a = cc in
    let t = sign_begins_as k b is (subst (Begins k) (sym same) (begins k a w h)) (a ∷ w) h in
    let fits : short b (a ∷ w) ≡ true = subst (λ z. short b z ≡ true) (sym t.1) (all t.0) in
    subst (λ z. length (z ∷ w) ≤ 1) same (short_one b w e (subst (λ z. short b (z ∷ w) ≡ true) (sym same) fits))

pub paren_before : (rest : List ℕ) → IsLongest (kind.Sign sign.LeftParen) (codes "(") rest
paren_before rest = record {
  form = refl;
  longest = sign_longest 40 (record { no_blank = refl; no_letter = refl; no_digit = refl; no_quote = refl }) refl short_paren rest;
  no_comment = no_slash 40 rest (λ e. absurd (omega (arith, e)));
}

pub comma_before : (rest : List ℕ) → IsLongest (kind.Sign sign.Comma) (codes ",") rest
comma_before rest = record {
  form = refl;
  longest = sign_longest 44 (record { no_blank = refl; no_letter = refl; no_digit = refl; no_quote = refl }) refl short_comma rest;
  no_comment = no_slash 44 rest (λ e. absurd (omega (arith, e)));
}

-- ---- names of stubs

-- a name that isn't reserved
pub record IsKernel (x : List ℕ) : Type 0 where
  pub named : IsName x
  pub free : (w : Word) → x ≢ word_spelling w

-- no reserved word begins as a stub's name does
not_reserved : (w : Word) → starts_with nat_eq (word_spelling w) prefix ≡ false
not_reserved word.Extern = refl
not_reserved _ = refl

pub stub_begins : (x : List ℕ) → starts_with nat_eq (prefix ++ x) prefix ≡ true
stub_begins x = refl

name_parts : (x : List ℕ) → IsName x → list_all part x ≡ true
name_parts [] n = absurd n
name_parts (b ∷ bs) n = rw (n.0, n.1) refl

pub stub_named : (x : List ℕ) → IsName x → IsName (prefix ++ x)
stub_named x n = (refl, name_parts x n)

pub stub_form : (x : List ℕ) → IsName x → HasForm (kind.Name (prefix ++ x)) (prefix ++ x)
stub_form x n = (
  refl,
  stub_named x n,
  (λ w e. true≢false (sym (stub_begins x) ∙ (ap (λ z. starts_with nat_eq z prefix) e ∙ not_reserved w))),
)

-- ---- calls

abbrev pub gaps : List (List ℕ) → List Part
gaps [] = []
gaps (s ∷ ss) = Passed s ∷ gaps ss

abbrev pub loop_part : Part
loop_part = Spelled (kind.Word word.OpParLoop) (codes "op_par_loop")

abbrev pub paren_part : Part
paren_part = Spelled (kind.Sign sign.LeftParen) (codes "(")

abbrev pub comma_part : Part
comma_part = Spelled (kind.Sign sign.Comma) (codes ",")

abbrev pub name_part : List ℕ → Part
name_part x = Spelled (kind.Name x) x

-- `op_par_loop(K,`, with what is passed over in it
abbrev pub call_parts : List ℕ → List (List ℕ) → List (List ℕ) → List (List ℕ) → List Part
call_parts x f g h = loop_part ∷ (gaps f ++ paren_part ∷ (gaps g ++ name_part x ∷ (gaps h ++ comma_part ∷ [])))

-- `op_par_loop_K(`
abbrev pub stub_parts : List ℕ → List Part
stub_parts x = name_part (prefix ++ x) ∷ paren_part ∷ []

gap_fresh : (g : List (List ℕ)) (fresh : Bool) (k : Kind) (s : List ℕ) (ps : List Part) → fresh_behind fresh (gaps g ++ Spelled k s ∷ ps) ≡ fresh_behind false ps
gap_fresh [] fresh k s ps = refl
gap_fresh (t ∷ g) fresh k s ps = gap_fresh g (fresh_after fresh t) k s ps

gap_number : (g : List (List ℕ)) (number : Bool) (k : Kind) (s : List ℕ) (ps : List Part) → number_behind number (gaps g ++ Spelled k s ∷ ps) ≡ number_behind (is_number k) ps
gap_number [] number k s ps = refl
gap_number (t ∷ g) number k s ps = gap_number g false k s ps

call_not_fresh : (x : List ℕ) (f g h : List (List ℕ)) → fresh_behind false (gaps f ++ paren_part ∷ (gaps g ++ name_part x ∷ (gaps h ++ comma_part ∷ []))) ≡ false
call_not_fresh x f g h =
    gap_fresh f false (kind.Sign sign.LeftParen) (codes "(") (gaps g ++ name_part x ∷ (gaps h ++ comma_part ∷ []))
    ∙ (gap_fresh g false (kind.Name x) x (gaps h ++ comma_part ∷ []) ∙ gap_fresh h false (kind.Sign sign.Comma) (codes ",") [])

call_no_number : (x : List ℕ) (f g h : List (List ℕ)) → number_behind false (gaps f ++ paren_part ∷ (gaps g ++ name_part x ∷ (gaps h ++ comma_part ∷ []))) ≡ false
call_no_number x f g h =
    gap_number f false (kind.Sign sign.LeftParen) (codes "(") (gaps g ++ name_part x ∷ (gaps h ++ comma_part ∷ []))
    ∙ (gap_number g false (kind.Name x) x (gaps h ++ comma_part ∷ []) ∙ gap_number h false (kind.Sign sign.Comma) (codes ",") [])

-- a stub stands in the place of a call
pub to_stub_swaps : (x : List ℕ) (f g h : List (List ℕ)) → IsKernel x → IsSwap (call_parts x f g h) (stub_parts x)
to_stub_swaps x f g h is = record {
  old_first = (codes "p_par_loop" ++ all_bytes (gaps f ++ paren_part ∷ (gaps g ++ name_part x ∷ (gaps h ++ comma_part ∷ []))), refl);
  new_first = (codes "p_par_loop_" ++ (x ++ codes "("), append_assoc prefix x (codes "("));
  apart = λ stop fresh number bs ps a. a.0;
  not_fresh = λ fresh. call_not_fresh x f g h;
  no_number = λ number. call_no_number x f g h;
  stand = λ stop fresh number bs ps clear a. (
    (λ n. absurd (clear n)),
    (
      codes "(" ++ bs,
      append_assoc (prefix ++ x) (codes "(") bs,
      (named_before (kind.Name (prefix ++ x)) (prefix ++ x) 40 bs (stub_form x is.named) (stub_named x is.named) refl, tt),
      ((λ n. absurd (true≢false (sym n))), (bs, refl, (paren_before bs, tt), a)),
    ),
  );
}

-- and a call in the place of a stub
pub to_call_swaps : (x : List ℕ) → IsKernel x → IsSwap (stub_parts x) (call_parts x [] [] [])
to_call_swaps x is = record {
  old_first = (codes "p_par_loop_" ++ (x ++ codes "("), append_assoc prefix x (codes "("));
  new_first = (codes "p_par_loop" ++ (codes "(" ++ (x ++ codes ",")), refl);
  apart = λ stop fresh number bs ps a. a.0;
  not_fresh = λ fresh. refl;
  no_number = λ number. refl;
  stand = λ stop fresh number bs ps clear a. (
    (λ n. absurd (clear n)),
    (
      codes "(" ++ ((x ++ codes ",") ++ bs),
      refl,
      (named_before (kind.Word word.OpParLoop) (codes "op_par_loop") 40 ((x ++ codes ",") ++ bs) refl (refl, refl) refl, tt),
      (
        (λ n. absurd (true≢false (sym n))),
        (
          (x ++ codes ",") ++ bs,
          refl,
          (paren_before ((x ++ codes ",") ++ bs), tt),
          (
            (λ n. absurd (true≢false (sym n))),
            (
              codes "," ++ bs,
              append_assoc x (codes ",") bs,
              (named_before (kind.Name x) x 44 bs (refl, is.named, is.free) is.named refl, tt),
              ((λ n. absurd (true≢false (sym n))), (bs, refl, (comma_before bs, tt), a)),
            ),
          ),
        ),
      ),
    ),
  );
}
