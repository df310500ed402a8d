-- The kinds of what a whole tree prints.
use Rattle.std.proofs.Common.{◌≡◌, ℕ, suc, Bool, true, false, List, [], ◌∷◌, Option, Some, None, refl, sym, ap, ◌∙◌}
use Rattle.c_tree.specs.declared.lexer.tokens.Kind.{Kind}
use Rattle.c_tree.specs.declared.expressions.NumberLiteral.{NumberLiteral}
use Rattle.c_tree.specs.Tree.{HostForHeaderTree, HostTree, HostDeclaration, HostBlock, HostEmpty, HostAssign, HostIf, HostIfElse, HostFor, HostCall, HostTrees, NoHost, MoreHost, TopTree, Extern, ExternArray, FileDeclaration, Kernel, MainTree, ProgramTree}
use Rattle.c_tree.specs.Print.{condition, host_counter, host, hosts, top, tops, argv_marks, return_marks, main, program}
use Rattle.c_show.specs.Ahead.{condition_first, host_header_first, host_first, hosts_first, top_first, tops_first, argv_first, return_first, main_first, program_first}
use Rattle.c_tree.specs.Reads.{shown}
use Rattle.c_show.proofs.ShownExprs.{ahead, ahead-append, ahead_none, expr_is}
use Rattle.c_show.proofs.ShownStmts.{declaration_is, assignment_is, condition_is, kernel_is}
use Rattle.c_show.proofs.ShownCalls.{call_is}

host_header_is : (k : ℕ) (c : HostForHeaderTree) (rest : List Kind) → ahead (host_counter k c) rest ≡ host_header_first c rest
host_header_is k c rest = rw (ahead-append, expr_is (suc k) c.from, ahead-append, expr_is (suc k) c.to) refl

mutual
  host_is : (k : ℕ) (s : HostTree) (rest : List Kind) → ahead (host k s) rest ≡ host_first s rest
  host_is k (HostDeclaration v) rest = declaration_is k v rest
  host_is k (HostBlock at ss) rest = rw (ahead-append, hosts_are (suc k) ss) refl
  host_is k (HostEmpty at) rest = refl
  host_is k (HostAssign a) rest = assignment_is k a rest
  host_is k (HostIf at e s) rest = ahead-append (condition k at e) _ rest ∙ condition_is k at e _ ∙ ap (condition_first e) (host_is (suc k) s rest)
  host_is k (HostIfElse at e s t) rest =
      ahead-append (condition k at e) _ rest ∙ condition_is k at e _ ∙ ap (condition_first e) (rw (ahead-append, host_is (suc k) s, host_is (suc k) t) refl)
  host_is k (HostFor c s) rest =
      ahead-append (host_counter k c) _ rest ∙ host_header_is k c _ ∙ ap (host_header_first c) (host_is (suc k) s rest)
  host_is k (HostCall c) rest = call_is k c rest

  hosts_are : (k : ℕ) (ss : HostTrees) (rest : List Kind) → ahead (hosts k ss) rest ≡ hosts_first ss rest
  hosts_are k NoHost rest = refl
  hosts_are k (MoreHost s ss) rest = rw (ahead-append, host_is k s, hosts_are k ss) refl

top_is : (t : TopTree) (rest : List Kind) → ahead (top t) rest ≡ top_first t rest
top_is (Extern x) rest = refl
top_is (ExternArray x) rest = refl
top_is (FileDeclaration v) rest = declaration_is 1 v rest
top_is (Kernel f) rest = kernel_is f rest

tops_are : (ts : List TopTree) (rest : List Kind) → ahead (tops ts) rest ≡ tops_first ts rest
tops_are [] rest = refl
tops_are (t ∷ ts) rest = rw (ahead-append, top_is t, tops_are ts) refl

argv_is : (b : Bool) (rest : List Kind) → ahead (argv_marks b) rest ≡ argv_first b rest
argv_is true rest = refl
argv_is false rest = refl

return_is : (n : Option NumberLiteral) (rest : List Kind) → ahead (return_marks n) rest ≡ return_first n rest
return_is None rest = refl
return_is (Some n) rest = refl

main_is : (m : MainTree) (rest : List Kind) → ahead (main m) rest ≡ main_first m rest
main_is m rest =
    rw (ahead-append, argv_is m.argv_has_brackets, ahead-append, hosts_are 1 m.body, ahead-append, return_is m.returned) refl

-- the kinds that a tree shows, as they are put together from the end
pub program_is : (p : ProgramTree) → program_first p [] ≡ shown p
program_is p = let e : ahead (program p) [] ≡ program_first p [] = rw (ahead-append, tops_are p.tops, main_is p.main) refl in sym e ∙ ahead_none (program p)
