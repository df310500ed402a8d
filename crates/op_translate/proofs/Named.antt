-- The names in the loops of a tree are among those printed, and hold no LF.
use Rattle.std.proofs.Common.{◌≡◌, ℕ, zero, suc, ◌+◌, ◌/◌, ◌%◌, ◌==◌, Bool, true, false, cond, List, [], ◌∷◌, ◌++◌, ℤ, pos, negsuc, Option, Some, None, refl, sym, ap, subst, ◌∙◌, arith, nat_eq, nat_lt}
use Rattle.std.specs.Prelude.{not, codes}
use Rattle.std.specs.List.{list_all, flat_map}
use Rattle.std.specs.Fmt.{digit_glyph, digits_onto, digits, decimal, signed_decimal}
use Rattle.std.proofs.lemmas.Bool.{eqb-true, and_parts, and_from, true≢false}
use Rattle.std.proofs.lemmas.List.Folds.{list_all-append}
use Rattle.c_tree.specs.declared.lexer.tokens.Kind.{Kind}
use Rattle.c_tree.specs.declared.lexer.tokens.Kind.TheVariants as kind
use Rattle.c_tree.specs.Spelling.{part, word_spelling, IsName}
use Rattle.c_tree.specs.Front.{in_line}
use Rattle.c_tree.specs.declared.expressions.NumberLiteral.{NumberLiteral}
use Rattle.c_tree.specs.declared.hosts.AccessWord.{AccessWord}
use Rattle.c_tree.specs.declared.hosts.AccessWord.TheVariants as access
use Rattle.c_tree.specs.declared.hosts.ArgVia.{ArgVia}
use Rattle.c_tree.specs.declared.hosts.ArgVia.TheVariants as via
use Rattle.c_tree.specs.declared.hosts.GlobalName.{GlobalName}
use Rattle.c_tree.specs.declared.hosts.LoopArg.{LoopArg}
use Rattle.c_tree.specs.declared.hosts.LoopArg.TheVariants as arg
use Rattle.c_tree.specs.Signs.{access_word_of}
use Rattle.c_tree.specs.Tree.{OpCallTree, ParLoop, HostTree, HostDeclaration, HostBlock, HostEmpty, HostAssign, HostIf, HostIfElse, HostFor, HostCall, HostTrees, NoHost, MoreHost, MainTree, ProgramTree}
use Rattle.c_tree.specs.Print.{Mark, condition, tops, glob, host_counter, arg_index, via_mark, argument, arguments, call, host, hosts, argv_marks, main, program}
use Rattle.c_tree.specs.Reads.{shown}
use Rattle.op_translate.specs.Stubs.{Loop, loop_of, loops_of, all_loops_of, index_of, via_name, use_text, arg_text}
use Rattle.op_translate.proofs.Printed.{ahead, ahead-append, ahead_none}

-- ---- the names that are printed

abbrev pub Named : Kind → Type 0
Named (kind.Name x) = IsName x
Named k = Unit {0}

abbrev pub AllNamed : List Kind → Type 0
AllNamed [] = Unit {0}
AllNamed (k ∷ ks) = Named k × AllNamed ks

behind : (ms : List Mark) (rest : List Kind) → AllNamed (ahead ms rest) → AllNamed rest
behind [] rest h = h
behind (m ∷ ms) rest h = behind ms rest h.1

split : (xs ys : List Mark) (rest : List Kind) → AllNamed (ahead (xs ++ ys) rest) → AllNamed (ahead xs (ahead ys rest))
split xs ys rest h = subst AllNamed (ahead-append xs ys rest) h

-- ---- those of loops

abbrev pub ViaNamed : ArgVia → Type 0
ViaNamed (via.Map m) = IsName m.name
ViaNamed (via.Identity at) = Unit {0}

abbrev pub ArgNamed : LoopArg → Type 0
ArgNamed (arg.Dat at d i v n t a aat) = IsName d.name × ViaNamed v
ArgNamed (arg.Global at g n t a aat) = IsName g.name.name

abbrev pub ArgsNamed : List LoopArg → Type 0
ArgsNamed [] = Unit {0}
ArgsNamed (x ∷ xs) = ArgNamed x × ArgsNamed xs

pub record LoopNamed (l : Loop) : Type 0 where
  pub kernel : IsName l.kernel
  pub set : IsName l.set
  pub args : ArgsNamed l.args

abbrev pub LoopsNamed : List Loop → Type 0
LoopsNamed [] = Unit {0}
LoopsNamed (l ∷ ls) = LoopNamed l × LoopsNamed ls

both_named : (xs ys : List Loop) → LoopsNamed xs → LoopsNamed ys → LoopsNamed (xs ++ ys)
both_named [] ys f g = g
both_named (x ∷ xs) ys f g = (f.0, both_named xs ys f.1 g)

via_named : (k : ℕ) (v : ArgVia) → Named (via_mark k v).kind → ViaNamed v
via_named k (via.Map x) h = h
via_named k (via.Identity at) h = tt

global_named : (k : ℕ) (g : GlobalName) (rest : List Kind) → AllNamed (ahead (glob k g) rest) → IsName g.name.name
global_named k g rest h = by_ampersand g.ampersand h
  where
    of : Option ℕ → GlobalName
    of a = record { ampersand = a; name = g.name }

    by_ampersand : (a : Option ℕ) → AllNamed (ahead (glob k (of a)) rest) → IsName g.name.name
    by_ampersand None h = h.0
    by_ampersand (Some at) h = h.1.0

arg_named : (k : ℕ) (a : LoopArg) (rest : List Kind) → AllNamed (ahead (argument k a) rest) → ArgNamed a
arg_named k (arg.Dat at d i v n t a aat) rest h =
    let later = behind (arg_index k i) _ (split (arg_index k i) _ rest h.1.1.1.1) in
    (h.1.1.0, via_named k v later.1.0)
arg_named k (arg.Global at g n t a aat) rest h = global_named k g _ (split (glob k g) _ rest h.1.1)

args_named : (k : ℕ) (xs : List LoopArg) (rest : List Kind) → AllNamed (ahead (arguments k xs) rest) → ArgsNamed xs
args_named k [] rest h = tt
args_named k (a ∷ xs) rest h =
    let here = split (argument k a) (arguments k xs) rest h.1 in
    (arg_named k a _ here, args_named k xs rest (behind (argument k a) _ here))

call_named : (k : ℕ) (c : OpCallTree) (rest : List Kind) → AllNamed (ahead (call k c) rest) → LoopsNamed (loop_of c)
call_named k (ParLoop at f t s xs) rest h =
    (record { kernel = h.1.1.0; set = h.1.1.1.1.1.1.0; args = args_named k xs _ (split (arguments k xs) _ rest h.1.1.1.1.1.1.1) }, tt)
call_named k c rest h = tt

mutual
  host_named : (k : ℕ) (s : HostTree) (rest : List Kind) → AllNamed (ahead (host k s) rest) → LoopsNamed (loops_of s)
  host_named k (HostDeclaration v) rest h = tt
  host_named k (HostBlock at ss) rest h = hosts_named (suc k) ss _ (split (hosts (suc k) ss) _ rest h.1)
  host_named k (HostEmpty at) rest h = tt
  host_named k (HostAssign a) rest h = tt
  host_named k (HostIf at e s) rest h =
      host_named (suc k) s rest (behind (condition k at e) _ (split (condition k at e) (host (suc k) s) rest h))
  host_named k (HostIfElse at e s t) rest h =
      let body = split (host (suc k) s) _ rest (behind (condition k at e) _ (split (condition k at e) _ rest h)) in
      both_named (loops_of s) (loops_of t) (host_named (suc k) s _ body) (host_named (suc k) t rest (behind (host (suc k) s) _ body).1)
  host_named k (HostFor c s) rest h =
      host_named (suc k) s rest (behind (host_counter k c) _ (split (host_counter k c) (host (suc k) s) rest h))
  host_named k (HostCall c) rest h = call_named k c rest h

  hosts_named : (k : ℕ) (ss : HostTrees) (rest : List Kind) → AllNamed (ahead (hosts k ss) rest) → LoopsNamed (all_loops_of ss)
  hosts_named k NoHost rest h = tt
  hosts_named k (MoreHost s ss) rest h =
      let here = split (host k s) (hosts k ss) rest h in
      both_named (loops_of s) (all_loops_of ss) (host_named k s _ here) (hosts_named k ss rest (behind (host k s) _ here))

main_named : (m : MainTree) → AllNamed (ahead (main m) []) → LoopsNamed (all_loops_of m.body)
main_named m h =
    let after = behind (argv_marks m.argv_has_brackets) _ (split (argv_marks m.argv_has_brackets) _ [] h.1.1.1.1.1.1.1) in
    hosts_named 1 m.body _ (split (hosts 1 m.body) _ [] after.1.1)

pub loops_named : (p : ProgramTree) → AllNamed (shown p) → LoopsNamed (all_loops_of p.main.body)
loops_named p h =
    main_named p.main (behind (tops p.tops) _ (split (tops p.tops) (main p.main) [] (subst AllNamed (sym (ahead_none (program p))) h)))

-- ---- no LF

abbrev pub Clean : List ℕ → Type 0
Clean bs = list_all in_line bs ≡ true

pub clean_both : (x y : List ℕ) → Clean x → Clean y → Clean (x ++ y)
clean_both x y f g = list_all-append in_line x y ∙ and_from (list_all in_line x) (list_all in_line y) f g

in_line_from : (b : ℕ) → (b ≡ 10 → ⊥) → in_line b ≡ true
in_line_from b h = by_test (nat_eq b 10) refl
  where
    by_test : (t : Bool) → nat_eq b 10 ≡ t → not t ≡ true
    by_test true e = absurd (h (eqb-true b 10 e))
    by_test false e = refl

parts_clean : (x : List ℕ) → list_all part x ≡ true → Clean x
parts_clean [] h = refl
parts_clean (b ∷ bs) h =
    let q = and_parts (part b) (list_all part bs) h in
    and_from (in_line b) (list_all in_line bs) (in_line_from b (λ e. true≢false (sym q.0 ∙ ap part e))) (parts_clean bs q.1)

pub name_clean : (x : List ℕ) → IsName x → Clean x
name_clean [] n = absurd n
name_clean (b ∷ bs) n = parts_clean (b ∷ bs) (and_from (part b) (list_all part bs) (rw n.0 refl) n.1)

chosen : (t : Bool) (x y : List ℕ) → Clean x → Clean y → Clean (cond t x y)
chosen true x y f g = f
chosen false x y f g = g

glyph_clean : (d : ℕ) → in_line (digit_glyph false d) ≡ true
glyph_clean d = by_test (nat_lt d 10)
  where
    by_test : (t : Bool) → in_line (cond t (48 + d) (87 + d)) ≡ true
    by_test true = in_line_from (48 + d) (λ e. absurd (omega (arith, e)))
    by_test false = in_line_from (87 + d) (λ e. absurd (omega (arith, e)))

onto_clean : (k n : ℕ) (acc : List ℕ) → Clean acc → Clean (digits_onto k 10 false n acc)
onto_clean zero n acc h = h
onto_clean (suc k) n acc h =
    let more : Clean (digit_glyph false (n % 10) ∷ acc) = and_from (in_line (digit_glyph false (n % 10))) (list_all in_line acc) (glyph_clean (n % 10)) h in
    chosen (n / 10 == 0) (digit_glyph false (n % 10) ∷ acc) (digits_onto k 10 false (n / 10) (digit_glyph false (n % 10) ∷ acc)) more (onto_clean k (n / 10) (digit_glyph false (n % 10) ∷ acc) more)

pub decimal_clean : (n : ℕ) → Clean (decimal n)
unfolding digits
decimal_clean n = onto_clean 64 n [] refl

signed_clean : (z : ℤ) → Clean (signed_decimal z)
signed_clean (pos n) = decimal_clean n
signed_clean (negsuc n) = decimal_clean (suc n)

access_clean : (a : AccessWord) → Clean (word_spelling (access_word_of a))
access_clean access.Read = refl
access_clean _ = refl

via_clean : (v : ArgVia) → ViaNamed v → Clean (via_name v)
via_clean (via.Map m) h = name_clean m.name h
via_clean (via.Identity at) h = refl

use_clean : (n : NumberLiteral) (a : AccessWord) → Clean (use_text n a)
use_clean n a =
    let front : List ℕ = codes "/" ++ signed_decimal n.value in
    clean_both (front ++ codes "/") (word_spelling (access_word_of a)) (clean_both front (codes "/") (signed_clean n.value) refl) (access_clean a)

arg_clean : (a : LoopArg) → ArgNamed a → Clean (arg_text a)
arg_clean (arg.Dat at d i v n t a aat) h =
    let one : List ℕ = codes " " ++ d.name in
    let two : List ℕ = one ++ codes "/" in
    let three : List ℕ = two ++ signed_decimal (index_of i) in
    let four : List ℕ = three ++ codes "/" in
    let five : List ℕ = four ++ via_name v in
    let c2 : Clean two = clean_both one (codes "/") (name_clean d.name h.0) refl in
    let c3 : Clean three = clean_both two (signed_decimal (index_of i)) c2 (signed_clean (index_of i)) in
    let c4 : Clean four = clean_both three (codes "/") c3 refl in
    let c5 : Clean five = clean_both four (via_name v) c4 (via_clean v h.1) in
    clean_both five (use_text n a) c5 (use_clean n a)
arg_clean (arg.Global at g n t a aat) h = clean_both (codes " gbl/" ++ g.name.name) (use_text n a) (name_clean g.name.name h) (use_clean n a)

pub args_clean : (xs : List LoopArg) → ArgsNamed xs → Clean (flat_map arg_text xs)
args_clean [] h = refl
args_clean (x ∷ xs) h = clean_both (arg_text x) (flat_map arg_text xs) (arg_clean x h.0) (args_clean xs h.1)
