-- A source that was read, as calls of loops and other parts.
use Rattle.std.proofs.Common.{◌≡◌, ℕ, ◌+◌, length, Bool, true, false, List, [], ◌∷◌, ◌++◌, map, refl, sym, ap, ap₂, subst, ◌∙◌, append_assoc}
use Rattle.std.specs.Prelude.{codes}
use Rattle.c_tree.specs.declared.lexer.tokens.Kind.{Kind}
use Rattle.c_tree.specs.declared.lexer.tokens.Kind.TheVariants as kind
use Rattle.c_tree.specs.declared.lexer.tokens.Pos.{Pos}
use Rattle.c_tree.specs.declared.lexer.tokens.Sign.TheVariants as sign
use Rattle.c_tree.specs.declared.lexer.tokens.Word.TheVariants as word
use Rattle.c_tree.specs.Spelling.{sign_spelling, IsName, HasForm}
use Rattle.c_tree.specs.Lexed.{advance, Stop, Part, Passed, Spelled, is_fresh_behind, is_number_part, AreParts, tokens_of}
use Rattle.op_translate.proofs.Quiet.{is_loop, is_taken}
use Rattle.op_translate.proofs.Patches.{Patch, Keep, Swap, olds, news, AreSwaps}
use Rattle.op_translate.proofs.Calls.{gaps, paren_part, comma_part, name_part, call_parts, stub_parts, IsKernel, to_stub_swaps, to_call_swaps}
use Rattle.op_translate.proofs.Printed.{Follows, AllFollow}
use Rattle.op_translate.proofs.Named.{Named, AllNamed}
use Rattle.op_translate.proofs.Tail.{NoTokens}

-- ---- the kinds of parts

abbrev pub part_kinds : List Part → List Kind
part_kinds [] = []
part_kinds (Passed s ∷ ps) = part_kinds ps
part_kinds (Spelled k s ∷ ps) = k ∷ part_kinds ps

pub token_kinds : (xs : List Part) (n : ℕ) (p : Pos) → map (λ t. t.kind) (tokens_of n p xs) ≡ part_kinds xs
token_kinds [] n p = refl
token_kinds (Passed s ∷ xs) n p = token_kinds xs (n + length s) (advance p s)
token_kinds (Spelled k s ∷ xs) n p = ap (λ z. k ∷ z) (token_kinds xs (n + length s) (advance p s))

-- each token has its form
abbrev pub HaveForms : List Part → Type 0
HaveForms [] = Unit {0}
HaveForms (Passed s ∷ ps) = HaveForms ps
HaveForms (Spelled k s ∷ ps) = HasForm k s × HaveForms ps

pub have_forms : (stop : Stop) (fresh number : Bool) (bs : List ℕ) (xs : List Part) → AreParts stop fresh number bs xs → HaveForms xs
have_forms stop fresh number bs [] a = tt
have_forms stop fresh number bs (Passed s ∷ xs) a = have_forms stop (is_fresh_behind fresh (Passed s)) (is_number_part (Passed s)) a.1.0 xs a.1.3
have_forms stop fresh number bs (Spelled k s ∷ xs) a = (
  a.1.2.0.form,
  have_forms stop (is_fresh_behind fresh (Spelled k s)) (is_number_part (Spelled k s)) a.1.0 xs a.1.3,
)

named : (k : Kind) (s : List ℕ) → HasForm k s → Named k
named (kind.Name x) s h = subst IsName h.0 h.1
named (kind.Word w) s h = tt
named (kind.Number z) s h = tt
named (kind.Text t) s h = tt
named (kind.Sign t) s h = tt

pub all_named : (xs : List Part) → HaveForms xs → AllNamed (part_kinds xs)
all_named [] h = tt
all_named (Passed s ∷ xs) h = all_named xs h
all_named (Spelled k s ∷ xs) h = (named k s h.0, all_named xs h.1)

-- no name begins as those of stubs do
abbrev pub NoneTaken : List Kind → Type 0
NoneTaken [] = Unit {0}
NoneTaken (k ∷ ks) = (is_taken k ≡ false) × NoneTaken ks

-- ---- sites

-- a part that begins no loop call, or a loop call with what is passed over in it
pub data Site : Type 0 where
  Other : Part → Site
  Called : List ℕ → List (List ℕ) → List (List ℕ) → List (List ℕ) → Site

abbrev pub forward : List Site → List Patch
forward [] = []
forward (Other p ∷ ss) = Keep p ∷ forward ss
forward (Called x f g h ∷ ss) = Swap (call_parts x f g h) (stub_parts x) ∷ forward ss

abbrev pub backward : List Site → List Patch
backward [] = []
backward (Other p ∷ ss) = Keep p ∷ backward ss
backward (Called x f g h ∷ ss) = Swap (stub_parts x) (call_parts x [] [] []) ∷ backward ss

abbrev pub IsOther : Part → Type 0
IsOther (Passed s) = Unit {0}
IsOther (Spelled k s) = (is_loop k ≡ false) × (is_taken k ≡ false)

abbrev pub AreSites : List Site → Type 0
AreSites [] = Unit {0}
AreSites (Other p ∷ ss) = IsOther p × AreSites ss
AreSites (Called x f g h ∷ ss) = IsKernel x × AreSites ss

pub stubs_there : (ss : List Site) → news (forward ss) ≡ olds (backward ss)
stubs_there [] = refl
stubs_there (Other p ∷ ss) = ap (λ z. p ∷ z) (stubs_there ss)
stubs_there (Called x f g h ∷ ss) = ap (λ z. stub_parts x ++ z) (stubs_there ss)

pub forward_swaps : (ss : List Site) → AreSites ss → AreSwaps (forward ss)
forward_swaps [] h = tt
forward_swaps (Other p ∷ ss) h = forward_swaps ss h.1
forward_swaps (Called x f g k ∷ ss) h = (to_stub_swaps x f g k h.0, forward_swaps ss h.1)

pub backward_swaps : (ss : List Site) → AreSites ss → AreSwaps (backward ss)
backward_swaps [] h = tt
backward_swaps (Other p ∷ ss) h = backward_swaps ss h.1
backward_swaps (Called x f g k ∷ ss) h = (to_call_swaps x h.0, backward_swaps ss h.1)

-- ---- a list of parts, divided

-- these parts are those of sites
pub record Divided (xs : List Part) : Type 0 where
  pub sites : List Site
  pub same : xs ≡ olds (forward sites)
  pub are : AreSites sites

-- these are the comma of a call, behind what is passed over, and those of sites
record CommaHere (xs : List Part) : Type 0 where
  pub third : List (List ℕ)
  pub sites : List Site
  pub same : xs ≡ gaps third ++ comma_part ∷ olds (forward sites)
  pub are : AreSites sites

record NameHere (x : List ℕ) (xs : List Part) : Type 0 where
  pub second : List (List ℕ)
  pub third : List (List ℕ)
  pub sites : List Site
  pub same : xs ≡ gaps second ++ name_part x ∷ (gaps third ++ comma_part ∷ olds (forward sites))
  pub are : AreSites sites
  pub kernel : IsKernel x

record OpenHere (x : List ℕ) (xs : List Part) : Type 0 where
  pub first : List (List ℕ)
  pub second : List (List ℕ)
  pub third : List (List ℕ)
  pub sites : List Site
  pub same : xs ≡ gaps first ++ paren_part ∷ (gaps second ++ name_part x ∷ (gaps third ++ comma_part ∷ olds (forward sites)))
  pub are : AreSites sites
  pub kernel : IsKernel x

loop_is : (k : Kind) → is_loop k ≡ true → k ≡ kind.Word word.OpParLoop
loop_is (kind.Word word.OpParLoop) h = refl
loop_is k h = cc

pub call_row : (x : List ℕ) (f g h : List (List ℕ)) (more : List Part)
    → call_parts x f g h ++ more ≡ Spelled (kind.Word word.OpParLoop) (codes "op_par_loop")
    ∷ (gaps f ++ paren_part ∷ (gaps g ++ name_part x ∷ (gaps h ++ comma_part ∷ more)))
call_row x f g h more = simp append_assoc refl

-- one part more
one_more : (k : Kind) (s : List ℕ) (xs : List Part) → Follows k (part_kinds xs) → is_taken k ≡ false → HasForm k s → Divided xs
    → ((x : List ℕ) (ks : List Kind) → part_kinds xs ≡ kind.Sign sign.LeftParen ∷ kind.Name x ∷ kind.Sign sign.Comma ∷ ks → OpenHere x xs)
    → Divided (Spelled k s ∷ xs)
one_more k s xs lead free form d go = by_kind (is_loop k) refl
  where
    by_kind : (t : Bool) → is_loop k ≡ t → Divided (Spelled k s ∷ xs)
    by_kind false e =
        record { sites = Other (Spelled k s) ∷ d.sites; same = ap (λ z. Spelled k s ∷ z) d.same; are = ((e, free), d.are) }
    by_kind true e =
        let is : k ≡ kind.Word word.OpParLoop = loop_is k e in
        let behind = subst (λ z. Follows z (part_kinds xs)) is lead in
        let text : s ≡ codes "op_par_loop" = subst (λ z. HasForm z s) is form in
        let o = go behind.0 behind.1 behind.2 in
        record {
          sites = Called behind.0 o.first o.second o.third ∷ o.sites;
          same = ap₂ (λ u v. Spelled u v ∷ xs) is text ∙
              (ap (λ z. Spelled (kind.Word word.OpParLoop) (codes "op_par_loop") ∷ z) o.same
              ∙ sym (call_row behind.0 o.first o.second o.third (olds (forward o.sites))));
          are = (o.kernel, o.are);
        }

mutual
  pub divide : (xs : List Part) → AllFollow (part_kinds xs) → NoneTaken (part_kinds xs) → HaveForms xs → Divided xs
  divide [] a b c = record { sites = []; same = refl; are = tt }
  divide (Passed s ∷ xs) a b c =
      let d = divide xs a b c in
      record { sites = Other (Passed s) ∷ d.sites; same = ap (λ z. Passed s ∷ z) d.same; are = (tt, d.are) }
  divide (Spelled k s ∷ xs) a b c =
      one_more k s xs a.0 b.0 c.0 (divide xs a.1 b.1 c.1) (λ x ks e. divide_open xs x ks e a.1 b.1 c.1)

  divide_open : (xs : List Part) (x : List ℕ) (ks : List Kind) → part_kinds xs ≡ kind.Sign sign.LeftParen ∷ kind.Name x
      ∷ kind.Sign sign.Comma ∷ ks → AllFollow (part_kinds xs) → NoneTaken (part_kinds xs) → HaveForms xs → OpenHere x xs
  divide_open [] x ks e a b c = let q : ⊥ = cc in absurd q
  divide_open (Passed s ∷ xs) x ks e a b c =
      let d = divide_open xs x ks e a b c in
      record { first = s ∷ d.first; second = d.second; third = d.third; sites = d.sites; same = ap (λ z. Passed s ∷ z) d.same; are = d.are; kernel = d.kernel }
  divide_open (Spelled k s ∷ xs) x ks e a b c =
      let is : k ≡ kind.Sign sign.LeftParen = cc in
      let later : part_kinds xs ≡ kind.Name x ∷ kind.Sign sign.Comma ∷ ks = cc in
      let text : s ≡ sign_spelling sign.LeftParen = subst (λ z. HasForm z s) is c.0 in
      let d = divide_name xs x ks later a.1 b.1 c.1 in
      record { first = []; second = d.second; third = d.third; sites = d.sites; same = ap₂ (λ u v. Spelled u v ∷ xs) is text ∙ ap (λ z. paren_part ∷ z) d.same; are = d.are; kernel = d.kernel }

  divide_name : (xs : List Part) (x : List ℕ) (ks : List Kind) → part_kinds xs ≡ kind.Name x ∷ kind.Sign sign.Comma ∷ ks
      → AllFollow (part_kinds xs) → NoneTaken (part_kinds xs) → HaveForms xs → NameHere x xs
  divide_name [] x ks e a b c = let q : ⊥ = cc in absurd q
  divide_name (Passed s ∷ xs) x ks e a b c =
      let d = divide_name xs x ks e a b c in
      record { second = s ∷ d.second; third = d.third; sites = d.sites; same = ap (λ z. Passed s ∷ z) d.same; are = d.are; kernel = d.kernel }
  divide_name (Spelled k s ∷ xs) x ks e a b c =
      let is : k ≡ kind.Name x = cc in
      let later : part_kinds xs ≡ kind.Sign sign.Comma ∷ ks = cc in
      let form : HasForm (kind.Name x) s = subst (λ z. HasForm z s) is c.0 in
      let d = divide_comma xs ks later a.1 b.1 c.1 in
      record {
        second = [];
        third = d.third;
        sites = d.sites;
        same = ap₂ (λ u v. Spelled u v ∷ xs) is form.0 ∙ ap (λ z. name_part x ∷ z) d.same;
        are = d.are;
        kernel = record { named = subst IsName form.0 form.1; free = λ w q. form.2 w (form.0 ∙ q) };
      }

  divide_comma : (xs : List Part) (ks : List Kind) → part_kinds xs ≡ kind.Sign sign.Comma ∷ ks → AllFollow (part_kinds xs) → NoneTaken (part_kinds xs) → HaveForms xs → CommaHere xs
  divide_comma [] ks e a b c = let q : ⊥ = cc in absurd q
  divide_comma (Passed s ∷ xs) ks e a b c =
      let d = divide_comma xs ks e a b c in
      record { third = s ∷ d.third; sites = d.sites; same = ap (λ z. Passed s ∷ z) d.same; are = d.are }
  divide_comma (Spelled k s ∷ xs) ks e a b c =
      let is : k ≡ kind.Sign sign.Comma = cc in
      let text : s ≡ sign_spelling sign.Comma = subst (λ z. HasForm z s) is c.0 in
      let d = divide xs a.1 b.1 c.1 in
      record { third = []; sites = d.sites; same = ap₂ (λ u v. Spelled u v ∷ xs) is text ∙ ap (λ z. comma_part ∷ z) d.same; are = d.are }

-- ---- parts without tokens behind them

abbrev pub others : List Part → List Site
others [] = []
others (p ∷ ps) = Other p ∷ others ps

pub others_are : (ps : List Part) → NoTokens ps → AreSites (others ps)
others_are [] h = tt
others_are (Passed s ∷ ps) h = (tt, others_are ps h)
others_are (Spelled k s ∷ ps) h = absurd h

pub more_sites : (ss : List Site) (ts : List Site) → AreSites ss → AreSites ts → AreSites (ss ++ ts)
more_sites [] ts f g = g
more_sites (Other p ∷ ss) ts f g = (f.0, more_sites ss ts f.1 g)
more_sites (Called x a b c ∷ ss) ts f g = (f.0, more_sites ss ts f.1 g)

others_old : (ps : List Part) → olds (forward (others ps)) ≡ ps
others_old [] = refl
others_old (p ∷ ps) = ap (λ z. p ∷ z) (others_old ps)

others_new : (ps : List Part) → news (forward (others ps)) ≡ ps
others_new [] = refl
others_new (p ∷ ps) = ap (λ z. p ∷ z) (others_new ps)

pub old_more : (ss : List Site) (ps : List Part) → olds (forward (ss ++ others ps)) ≡ olds (forward ss) ++ ps
old_more [] ps = others_old ps
old_more (Other p ∷ ss) ps = ap (λ z. p ∷ z) (old_more ss ps)
old_more (Called x f g h ∷ ss) ps = ap (λ z. call_parts x f g h ++ z) (old_more ss ps) ∙ sym (append_assoc (call_parts x f g h) (olds (forward ss)) ps)

pub new_more : (ss : List Site) (ps : List Part) → news (forward (ss ++ others ps)) ≡ news (forward ss) ++ ps
new_more [] ps = others_new ps
new_more (Other p ∷ ss) ps = ap (λ z. p ∷ z) (new_more ss ps)
new_more (Called x f g h ∷ ss) ps = ap (λ z. stub_parts x ++ z) (new_more ss ps) ∙ sym (append_assoc (stub_parts x) (news (forward ss)) ps)

-- ---- the kinds come back

kinds_over : (g : List (List ℕ)) (ps : List Part) → part_kinds (gaps g ++ ps) ≡ part_kinds ps
kinds_over [] ps = refl
kinds_over (s ∷ g) ps = kinds_over g ps

call_kinds : (x : List ℕ) (f g h : List (List ℕ)) (more : List Part) → part_kinds (call_parts x f g h ++ more) ≡ kind.Word word.OpParLoop
    ∷ kind.Sign sign.LeftParen ∷ kind.Name x ∷ kind.Sign sign.Comma ∷ part_kinds more
call_kinds x f g h more =
    ap part_kinds (call_row x f g h more)
    ∙ ap (λ z. kind.Word word.OpParLoop ∷ z) (kinds_over f _ ∙ ap (λ z. kind.Sign sign.LeftParen ∷ z) (kinds_over g _ ∙ ap (λ z. kind.Name x ∷ z) (kinds_over h _)))

pub kinds_back : (ss : List Site) → part_kinds (news (backward ss)) ≡ part_kinds (olds (forward ss))
kinds_back [] = refl
kinds_back (Other (Passed s) ∷ ss) = kinds_back ss
kinds_back (Other (Spelled k s) ∷ ss) = ap (λ z. k ∷ z) (kinds_back ss)
kinds_back (Called x f g h ∷ ss) =
    ap (λ z. kind.Word word.OpParLoop ∷ kind.Sign sign.LeftParen ∷ kind.Name x ∷ kind.Sign sign.Comma ∷ z) (kinds_back ss) ∙ sym (call_kinds x f g h (olds (forward ss)))

pub kinds_with : (xs ps : List Part) → NoTokens ps → part_kinds (xs ++ ps) ≡ part_kinds xs
kinds_with [] [] h = refl
kinds_with [] (Passed s ∷ ps) h = kinds_with [] ps h
kinds_with [] (Spelled k s ∷ ps) h = absurd h
kinds_with (Passed s ∷ xs) ps h = kinds_with xs ps h
kinds_with (Spelled k s ∷ xs) ps h = ap (λ z. k ∷ z) (kinds_with xs ps h)
