-- The tree of a source has numbers of 32 bits, and where its types break no rule, its arrays have cells.
use Rattle.std.proofs.Common.{◌≡◌, ℕ, zero, suc, pos, negsuc, ◌<◌, Bool, false, List, [], ◌∷◌, ◌++◌, map, ℤ, sym, subst, arith}
use Rattle.std.specs.Prelude.{All, unsigned_abs}
use Rattle.std.proofs.lemmas.List.Elements.{All-nil, All-cons}
use Rattle.c_tree.specs.declared.lexer.tokens.Sign.TheVariants as sign
use Rattle.c_tree.specs.declared.lexer.tokens.Word.TheVariants as word
use Rattle.c_tree.specs.Print.{Mark, sign_at, word_at, named_sign, named_word, ident, label, operator_level, chain_of, expr, commas, declr, declrs, word_if, vars, place, assignment, condition, top, tops, host_counter, values, close, call, host, hosts, argv_marks, return_marks, main, program}
use Rattle.c_tree.specs.Signs.{sign_of, assign_sign_of}
use Rattle.c_tree.specs.Reads.{Reads}
use Rattle.c_tree.specs.Tree as tree
use Rattle.c_tree.specs.Tree.{ExprTree, DeclrTree, DeclarationTree, PlaceTree, AssignmentTree, OpCallTree, HostForHeaderTree, HostTree, HostTrees, TopTree, ProgramTree}
use Rattle.name_resolution.specs.declared.breaches.TypeRule.TheVariants as rule
use Rattle.name_resolution.specs.Scopes.{Names, scope, repeated}
use Rattle.name_resolution.specs.Kernels.{expr_breaches}
use Rattle.name_resolution.specs.Mains.{is_wrong_size, size_breaches, init_breaches, declr_name, declr_sort, declr_breaches, with_name, with_host_counter, own_after, fixed_after, main_declrs_breaches, header_breaches, host_breaches, hosts_breaches}
use Rattle.name_resolution.specs.Programs.{with_variable, after_top, variables_breaches, top_breaches, tops_breaches, named_in, file_of, breaches}
use Rattle.name_resolution.specs.Work.{nat_of, size_of}
use Rattle.name_resolution.proofs.Public.{none_of_both, none_if}
use Rattle.loop_bind.specs.Sources.{HasNumbers, IsRead, PlaceIsRead, TopIsRead, CallIsRead, HostIsRead, HostsAreRead}
use Rattle.loop_bind.proofs.source_fits.Numbers.{KindFits, KindsFit, lexed_fit}

-- ---- printed tokens

abbrev pub MarksFit : List Mark → Type 0
MarksFit [] = Unit {0}
MarksFit (m ∷ ms) = KindFits m.kind × MarksFit ms

from_kinds : (ms : List Mark) → KindsFit (map (λ m. m.kind) ms) → MarksFit ms
from_kinds [] h = tt
from_kinds (m ∷ ms) h = (h.0, from_kinds ms h.1)

pub front : (a b : List Mark) → MarksFit (a ++ b) → MarksFit a
front [] b h = tt
front (m ∷ a) b h = (h.0, front a b h.1)

pub back : (a b : List Mark) → MarksFit (a ++ b) → MarksFit b
back [] b h = h
back (m ∷ a) b h = back a b h.1

pub marks_fit : (bytes : List ℕ) (p : ProgramTree) → Reads bytes p → MarksFit (program p)
marks_fit bytes p r = from_kinds (program p) (subst KindsFit (sym r.prints.kinds) (lexed_fit bytes r.tokens r.lexed))

-- ---- expressions

pub expr_fits : (k : ℕ) (e : ExprTree) → MarksFit (expr k e) → HasNumbers e
expr_fits k (tree.Number n) h = h.0
expr_fits k (tree.Name x) h = tt
expr_fits k (tree.Index x e) h = expr_fits (suc k) e (front (expr (suc k) e) (sign_at k sign.RightBracket ∷ []) h.1.1)
expr_fits k (tree.Deref at x) h = tt
expr_fits k (tree.Unary op at e) h = expr_fits (suc k) e h.1
expr_fits k (tree.Binary op at l r) h =
    let rest = named_sign (operator_level k (suc (chain_of l))) (sign_of op) at ∷ expr (suc k) r in
    (expr_fits k l (front (expr k l) rest h), expr_fits (suc k) r (back (expr k l) rest h).1)
expr_fits k (tree.Choice at c y n) h =
    let last = sign_at k sign.Colon ∷ expr (suc k) n in
    let rest = named_sign k sign.Question at ∷ (expr (suc k) y ++ last) in
    let b = (back (expr k c) rest h).1 in
    (expr_fits k c (front (expr k c) rest h), expr_fits (suc k) y (front (expr (suc k) y) last b), expr_fits (suc k) n (back (expr (suc k) y) last b).1)
expr_fits k (tree.Paren at e) h = expr_fits (suc k) e (front (expr (suc k) e) (sign_at k sign.RightParen ∷ []) h.1)
expr_fits k (tree.Extremum w at a b) h =
    let last = expr (suc k) b ++ sign_at k sign.RightParen ∷ [] in
    let rest = sign_at k sign.Comma ∷ last in
    (expr_fits (suc k) a (front (expr (suc k) a) rest h.1.1), expr_fits (suc k) b (front (expr (suc k) b) (sign_at k sign.RightParen ∷ []) (back (expr (suc k) a) rest h.1.1).1))
expr_fits k (tree.Absolute at e) h = expr_fits (suc k) e (front (expr (suc k) e) (sign_at k sign.RightParen ∷ []) h.1.1)

values_fit : (k : ℕ) (es : List ExprTree) → MarksFit (values k es) → All HasNumbers es
values_fit k [] h = All-nil HasNumbers
values_fit k (e ∷ es) h = All-cons HasNumbers e es (expr_fits (suc k) e (front (expr (suc k) e) (values k es) h.1)) (values_fit k es (back (expr (suc k) e) (values k es) h.1))

-- ---- declarators

-- no array is of a wrong size
abbrev Sizes : List DeclrTree → Type 0
Sizes [] = Unit {0}
Sizes (d ∷ ds) = (size_breaches d ≡ []) × Sizes ds

some_cells : (z : ℤ) → is_wrong_size (nat_of z) ≡ false → 0 < unsigned_abs z
some_cells (pos zero) h = cc
some_cells (pos (suc n)) h = omega arith
some_cells (negsuc n) h = cc

declr_read : (k : ℕ) (d : DeclrTree) → MarksFit (declr k d) → size_breaches d ≡ [] → IsRead d
declr_read k (tree.Plain x) h e = tt
declr_read k (tree.Init x v) h e = expr_fits (suc k) v h.1.1
declr_read k (tree.Array x n) h e = some_cells n.value (none_if (is_wrong_size (size_of n)) rule.TooMuchWork x.at e)

declrs_read : (k : ℕ) (ds : List DeclrTree) → MarksFit (commas k (declrs k ds)) → Sizes ds → All IsRead ds
declrs_read k [] h e = All-nil IsRead
declrs_read k (d ∷ []) h e = All-cons IsRead d [] (declr_read k d h e.0) (All-nil IsRead)
declrs_read k (d ∷ c ∷ ds) h e =
    let rest = sign_at k sign.Comma ∷ commas k (declrs k (c ∷ ds)) in
    All-cons IsRead d (c ∷ ds) (declr_read k d (front (declr k d) rest h) e.0) (declrs_read k (c ∷ ds) (back (declr k d) rest h).1 e.1)

vars_read : (k : ℕ) (v : DeclarationTree) → MarksFit (vars k v) → Sizes v.declrs → All IsRead v.declrs
vars_read k v h e =
    let last = sign_at k sign.Semicolon ∷ [] in
    let rest = named_word k word.Int v.at ∷ (commas k (declrs k v.declrs) ++ last) in
    declrs_read k v.declrs (front (commas k (declrs k v.declrs)) last (back (word_if v.is_const k word.Const) rest h).1) e

size_is : (file own : Names) (d : DeclrTree) → declr_breaches (scope file own) d ≡ [] → size_breaches d ≡ []
size_is file own d e = (none_of_both (init_breaches (scope file own) d) (size_breaches d) e).1

main_sizes : (file own : Names) (c : Bool) (ds : List DeclrTree) → main_declrs_breaches file own c ds ≡ [] → Sizes ds
main_sizes file own c [] e = tt
main_sizes file own c (d ∷ ds) e =
    let b = none_of_both (declr_breaches (scope file own) d ++ repeated (declr_name d) own) (main_declrs_breaches file (with_name own c (declr_sort d) (declr_name d)) c ds) e in
    (size_is file own d (none_of_both (declr_breaches (scope file own) d) (repeated (declr_name d) own) b.0).0, main_sizes file (with_name own c (declr_sort d) (declr_name d)) c ds b.1)

file_sizes : (named : List (List ℕ)) (c : Bool) (file : Names) (ds : List DeclrTree) → variables_breaches named c file ds ≡ [] → Sizes ds
file_sizes named c file [] e = tt
file_sizes named c file (d ∷ ds) e =
    let b = none_of_both (declr_breaches (scope file []) d ++ repeated (declr_name d) file) (variables_breaches named c (with_variable named c file d) ds) e in
    (size_is file [] d (none_of_both (declr_breaches (scope file []) d) (repeated (declr_name d) file) b.0).0, file_sizes named c (with_variable named c file d) ds b.1)

-- ---- statements

place_read : (k : ℕ) (p : PlaceTree) → MarksFit (place k p) → PlaceIsRead p
place_read k (tree.Scalar x) h = tt
place_read k (tree.Element x e) h = expr_fits (suc k) e (front (expr (suc k) e) (sign_at k sign.RightBracket ∷ []) h.1.1)
place_read k (tree.Target at x) h = tt

pub assignment_read : (k : ℕ) (a : AssignmentTree) → MarksFit (assignment k a) → PlaceIsRead a.place × HasNumbers a.value
assignment_read k a h =
    let last = sign_at k sign.Semicolon ∷ [] in
    let rest = named_sign k (assign_sign_of a.op) a.at ∷ (expr (suc k) a.value ++ last) in
    (place_read k a.place (front (place k a.place) rest h), expr_fits (suc k) a.value (front (expr (suc k) a.value) last (back (place k a.place) rest h).1))

pub condition_read : (k at : ℕ) (e : ExprTree) → MarksFit (condition k at e) → HasNumbers e
condition_read k at e h = expr_fits (suc k) e (front (expr (suc k) e) (sign_at k sign.RightParen ∷ []) h.1.1)

header_read : (k : ℕ) (c : HostForHeaderTree) → MarksFit (host_counter k c) → HasNumbers c.from × HasNumbers c.to
header_read k c h =
    let last = sign_at k sign.Semicolon ∷ ident k c.stepped ∷ sign_at k sign.PlusPlus ∷ sign_at k sign.RightParen ∷ [] in
    let rest = sign_at k sign.Semicolon ∷ ident k c.tested ∷ sign_at k sign.Less ∷ (expr (suc k) c.to ++ last) in
    let b = h.1.1.1.1.1 in
    (expr_fits (suc k) c.from (front (expr (suc k) c.from) rest b), expr_fits (suc k) c.to (front (expr (suc k) c.to) last (back (expr (suc k) c.from) rest b).1.1.1))

call_read : (k : ℕ) (c : OpCallTree) → MarksFit (call k c) → CallIsRead c
call_read k (tree.CallInit at n) h = tt
call_read k (tree.DeclSet at x e t) h = expr_fits (suc k) e (front (expr (suc k) e) (sign_at k sign.Comma ∷ label k t ∷ close k) h.1.1.1.1.1)
call_read k (tree.DeclMap at x from to n d t) h = tt
call_read k (tree.DeclDat at x s n u d t) h = tt
call_read k (tree.DeclConst at n t g) h = tt
call_read k (tree.ParLoop at f t s xs) h = tt
call_read k (tree.Printf at t es) h = values_fit k es (front (values k es) (close k) h.1.1.1)
call_read k (tree.PrintDat at x t) h = tt

module _ (file : Names) where
  mutual
    host_read : (k : ℕ) (own : Names) (fixed : List ℕ) (x : HostTree) → MarksFit (host k x) → host_breaches file own fixed x ≡ [] → HostIsRead x
    host_read k own fixed (tree.HostDeclaration v) h e = vars_read k v h (main_sizes file own v.is_const v.declrs e)
    host_read k own fixed (tree.HostBlock at hs) h e = hosts_read (suc k) own fixed hs (front (hosts (suc k) hs) (sign_at k sign.RightBrace ∷ []) h.1) e
    host_read k own fixed (tree.HostEmpty at) h e = tt
    host_read k own fixed (tree.HostAssign a) h e = assignment_read k a h
    host_read k own fixed (tree.HostIf at c x) h e =
        let b = none_of_both (expr_breaches false (scope file own) c) (host_breaches file own fixed x) e in
        (condition_read k at c (front (condition k at c) (host (suc k) x) h), host_read (suc k) own fixed x (back (condition k at c) (host (suc k) x) h) b.1)
    host_read k own fixed (tree.HostIfElse at c x y) h e =
        let later = host_breaches file (own_after own x) (fixed_after file own fixed x) y in
        let b = none_of_both (expr_breaches false (scope file own) c) (host_breaches file own fixed x ++ later) e in
        let d = none_of_both (host_breaches file own fixed x) later b.1 in
        let last = word_at k word.Else ∷ host (suc k) y in
        let rest = host (suc k) x ++ last in
        let m = back (condition k at c) rest h in (
          condition_read k at c (front (condition k at c) rest h),
          host_read (suc k) own fixed x (front (host (suc k) x) last m) d.0,
          host_read (suc k) (own_after own x) (fixed_after file own fixed x) y (back (host (suc k) x) last m).1 d.1,
        )
    host_read k own fixed (tree.HostFor f x) h e =
        let b = none_of_both (header_breaches file own f) (host_breaches file (with_host_counter own f) fixed x) e in
        let r = header_read k f (front (host_counter k f) (host (suc k) x) h) in
        (r.0, r.1, host_read (suc k) (with_host_counter own f) fixed x (back (host_counter k f) (host (suc k) x) h) b.1)
    host_read k own fixed (tree.HostCall c) h e = call_read k c h

    hosts_read : (k : ℕ) (own : Names) (fixed : List ℕ) (xs : HostTrees) → MarksFit (hosts k xs) → hosts_breaches file own fixed xs ≡ [] → HostsAreRead xs
    hosts_read k own fixed tree.NoHost h e = tt
    hosts_read k own fixed (tree.MoreHost x xs) h e =
        let b = none_of_both (host_breaches file own fixed x) (hosts_breaches file (own_after own x) (fixed_after file own fixed x) xs) e in
        (host_read k own fixed x (front (host k x) (hosts k xs) h) b.0, hosts_read k (own_after own x) (fixed_after file own fixed x) xs (back (host k x) (hosts k xs) h) b.1)

-- ---- the file

top_read : (named : List (List ℕ)) (file : Names) (t : TopTree) → MarksFit (top t) → top_breaches named file t ≡ [] → TopIsRead t
top_read named file (tree.Extern x) h e = tt
top_read named file (tree.ExternArray x) h e = tt
top_read named file (tree.FileDeclaration v) h e = vars_read 1 v h (file_sizes named v.is_const file v.declrs e)
top_read named file (tree.Kernel f) h e = tt

tops_read : (named : List (List ℕ)) (file : Names) (ts : List TopTree) → MarksFit (tops ts) → tops_breaches named file ts ≡ [] → All TopIsRead ts
tops_read named file [] h e = All-nil TopIsRead
tops_read named file (t ∷ ts) h e =
    let b = none_of_both (top_breaches named file t) (tops_breaches named (after_top named file t) ts) e in
    All-cons TopIsRead t ts (top_read named file t (front (top t) (tops ts) h) b.0) (tops_read named (after_top named file t) ts (back (top t) (tops ts) h) b.1)

-- ---- the whole

pub record IsReadWhole (p : ProgramTree) : Type 0 where
  pub tops : All TopIsRead p.tops
  pub body : HostsAreRead p.main.body

pub read_whole : (bytes : List ℕ) (p : ProgramTree) → Reads bytes p → breaches p ≡ [] → IsReadWhole p
read_whole bytes p r e =
    let b = none_of_both (tops_breaches (named_in p) [] p.tops) (hosts_breaches (file_of p) [] [] p.main.body) e in
    let m = marks_fit bytes p r in
    let last = named_word 0 word.OpExit p.main.exit_at ∷ sign_at 0 sign.LeftParen ∷ sign_at 0 sign.RightParen ∷ sign_at 0 sign.Semicolon
    ∷ (return_marks p.main.returned ++ sign_at 0 sign.RightBrace ∷ []) in
    let rest = sign_at 0 sign.RightParen ∷ sign_at 0 sign.LeftBrace ∷ (hosts 1 p.main.body ++ last) in
    let n = (back (tops p.tops) (main p.main) m).1.1.1.1.1.1.1 in
    record {
      tops = tops_read (named_in p) [] p.tops (front (tops p.tops) (main p.main) m) b.0;
      body = hosts_read (file_of p) 1 [] [] p.main.body (front (hosts 1 p.main.body) last (back (argv_marks p.main.argv_has_brackets) rest n).1.1) b.1;
    }
