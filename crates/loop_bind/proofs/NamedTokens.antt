-- What `main` of a source that was read declares has C names.
use Rattle.std.proofs.Common.{◌≡◌, ℕ, suc, Bool, true, false, List, [], ◌∷◌, ◌++◌, map, Ok, sym, subst}
use Rattle.c_tree.specs.declared.lexer.tokens.Kind.{Kind}
use Rattle.c_tree.specs.declared.lexer.tokens.Kind.TheVariants as kind
use Rattle.c_tree.specs.declared.lexer.tokens.Pos.{Pos}
use Rattle.c_tree.specs.declared.lexer.tokens.Sign.TheVariants as sign
use Rattle.c_tree.specs.declared.lexer.tokens.Token.{Token}
use Rattle.c_tree.specs.declared.lexer.tokens.Word.TheVariants as word
use Rattle.c_tree.specs.Spelling.{IsName}
use Rattle.c_tree.specs.Lexed.{Stop, AtEnd, AtBadByte, AtOpenComment, AtOpenText, AtNumberTooLarge, Part, Passed, Spelled, IsPartBefore, is_fresh_behind, is_number_part, AreParts, advance, start, tokens_of, Outcome, outcome_of, Lexes}
use Rattle.c_tree.specs.Print.{Mark, sign_at, word_at, named_word, condition, tops, host_counter, call, host, hosts, argv_marks, return_marks, main, program}
use Rattle.c_tree.specs.Reads.{Reads}
use Rattle.c_tree.specs.Tree as tree
use Rattle.c_tree.specs.Tree.{OpCallTree, HostTree, HostTrees, ProgramTree}

-- ---- tokens

-- a name is a C name
abbrev pub KindIsNamed : Kind → Type 0
KindIsNamed (kind.Name x) = IsName x
KindIsNamed k = Unit {0}

abbrev pub KindsAreNamed : List Kind → Type 0
KindsAreNamed [] = Unit {0}
KindsAreNamed (k ∷ ks) = KindIsNamed k × KindsAreNamed ks

token-named : (fresh : Bool) (k : Kind) (s rest : List ℕ) → IsPartBefore fresh (Spelled k s) rest → KindIsNamed k
token-named fresh (kind.Word w) s rest h = tt
token-named fresh (kind.Name x) s rest h = subst IsName h.0.form.0 h.0.form.1
token-named fresh (kind.Number z) s rest h = tt
token-named fresh (kind.Text t) s rest h = tt
token-named fresh (kind.Sign x) s rest h = tt

tokens-named : (stop : Stop) (fresh number : Bool) (bs : List ℕ) (n : ℕ) (p : Pos) (xs : List Part) → AreParts stop fresh number bs xs → KindsAreNamed (map (λ t. t.kind) (tokens_of n p xs))
tokens-named stop fresh number bs n p [] h = tt
tokens-named stop fresh number bs n p (Passed s ∷ xs) h =
    tokens-named stop (is_fresh_behind fresh (Passed s)) (is_number_part (Passed s)) h.1.0 _ (advance p s) xs h.1.3
tokens-named stop fresh number bs n p (Spelled k s ∷ xs) h = (
  token-named fresh k s h.1.0 h.1.2,
  tokens-named stop (is_fresh_behind fresh (Spelled k s)) (is_number_part (Spelled k s)) h.1.0 _ (advance p s) xs h.1.3,
)

lexed-named : (bytes : List ℕ) (tokens : List Token) → Lexes bytes (Ok tokens) → KindsAreNamed (map (λ t. t.kind) tokens)
lexed-named bytes tokens l = by l.stop l.are l.gives
  where
    by : (s : Stop) → AreParts s true false bytes l.parts → ◌≡◌ {A = Outcome} (Ok tokens) (outcome_of l.parts s) → KindsAreNamed (map (λ t. t.kind) tokens)
    by AtEnd h e =
        let q : tokens ≡ tokens_of 0 start l.parts = cc in
        subst (λ (ts : List Token). KindsAreNamed (map (λ t. t.kind) ts)) (sym q) (tokens-named AtEnd true false bytes 0 start l.parts h)
    by (AtBadByte good) h e = cc
    by AtOpenComment h e = cc
    by AtOpenText h e = cc
    by AtNumberTooLarge h e = cc

-- ---- printed tokens

abbrev MarksAreNamed : List Mark → Type 0
MarksAreNamed [] = Unit {0}
MarksAreNamed (m ∷ ms) = KindIsNamed m.kind × MarksAreNamed ms

from-kinds : (ms : List Mark) → KindsAreNamed (map (λ m. m.kind) ms) → MarksAreNamed ms
from-kinds [] h = tt
from-kinds (m ∷ ms) h = (h.0, from-kinds ms h.1)

front : (a b : List Mark) → MarksAreNamed (a ++ b) → MarksAreNamed a
front [] b h = tt
front (m ∷ a) b h = (h.0, front a b h.1)

back : (a b : List Mark) → MarksAreNamed (a ++ b) → MarksAreNamed b
back [] b h = h
back (m ∷ a) b h = back a b h.1

-- ---- statements

-- what a call declares has a C name
abbrev pub CallIsNamed : OpCallTree → Type 0
CallIsNamed (tree.DeclSet at x e l) = IsName x.name
CallIsNamed (tree.DeclMap at x from to n v l) = IsName x.name
CallIsNamed (tree.DeclDat at x on n u v l) = IsName x.name
CallIsNamed _ = Unit {0}

abbrev mutual
  -- what the calls in a statement declare has
  pub HostIsNamed : HostTree → Type 0
  HostIsNamed (tree.HostDeclaration v) = Unit {0}
  HostIsNamed (tree.HostBlock at hs) = HostsAreNamed hs
  HostIsNamed (tree.HostEmpty at) = Unit {0}
  HostIsNamed (tree.HostAssign a) = Unit {0}
  HostIsNamed (tree.HostIf at e x) = HostIsNamed x
  HostIsNamed (tree.HostIfElse at e x y) = HostIsNamed x × HostIsNamed y
  HostIsNamed (tree.HostFor f x) = HostIsNamed x
  HostIsNamed (tree.HostCall c) = CallIsNamed c

  pub HostsAreNamed : HostTrees → Type 0
  HostsAreNamed tree.NoHost = Unit {0}
  HostsAreNamed (tree.MoreHost h hs) = HostIsNamed h × HostsAreNamed hs

call-named : (k : ℕ) (c : OpCallTree) → MarksAreNamed (call k c) → CallIsNamed c
call-named k (tree.CallInit at n) h = tt
call-named k (tree.DeclSet at x e l) h = h.1.0
call-named k (tree.DeclMap at x from to n v l) h = h.1.0
call-named k (tree.DeclDat at x on n u v l) h = h.1.0
call-named k (tree.DeclConst at n u g) h = tt
call-named k (tree.ParLoop at f l on args) h = tt
call-named k (tree.Printf at l es) h = tt
call-named k (tree.PrintDat at x l) h = tt

mutual
  host-named : (k : ℕ) (x : HostTree) → MarksAreNamed (host k x) → HostIsNamed x
  host-named k (tree.HostDeclaration v) h = tt
  host-named k (tree.HostBlock at hs) h = hosts-named (suc k) hs (front (hosts (suc k) hs) (sign_at k sign.RightBrace ∷ []) h.1)
  host-named k (tree.HostEmpty at) h = tt
  host-named k (tree.HostAssign a) h = tt
  host-named k (tree.HostIf at c x) h = host-named (suc k) x (back (condition k at c) (host (suc k) x) h)
  host-named k (tree.HostIfElse at c x y) h =
      let last = word_at k word.Else ∷ host (suc k) y in
      let m = back (condition k at c) (host (suc k) x ++ last) h in
      (host-named (suc k) x (front (host (suc k) x) last m), host-named (suc k) y (back (host (suc k) x) last m).1)
  host-named k (tree.HostFor f x) h = host-named (suc k) x (back (host_counter k f) (host (suc k) x) h)
  host-named k (tree.HostCall c) h = call-named k c h

  hosts-named : (k : ℕ) (xs : HostTrees) → MarksAreNamed (hosts k xs) → HostsAreNamed xs
  hosts-named k tree.NoHost h = tt
  hosts-named k (tree.MoreHost x xs) h = (host-named k x (front (host k x) (hosts k xs) h), hosts-named k xs (back (host k x) (hosts k xs) h))

-- ---- the whole

pub main-named : (bytes : List ℕ) (p : ProgramTree) → Reads bytes p → HostsAreNamed p.main.body
main-named bytes p r =
    let m = from-kinds (program p) (subst KindsAreNamed (sym r.prints.kinds) (lexed-named bytes r.tokens r.lexed)) in
    let last = named_word 0 word.OpExit p.main.exit_at ∷ sign_at 0 sign.LeftParen ∷ sign_at 0 sign.RightParen ∷ sign_at 0 sign.Semicolon
    ∷ (return_marks p.main.returned ++ sign_at 0 sign.RightBrace ∷ []) in
    let rest = sign_at 0 sign.RightParen ∷ sign_at 0 sign.LeftBrace ∷ (hosts 1 p.main.body ++ last) in
    let n = (back (tops p.tops) (main p.main) m).1.1.1.1.1.1.1 in
    hosts-named 1 p.main.body (front (hosts 1 p.main.body) last (back (argv_marks p.main.argv_has_brackets) rest n).1.1)
