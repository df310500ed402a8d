-- The kinds of what a call of the OP2 library prints stand before those that follow it.
use Rattle.std.proofs.Common.{◌≡◌, ℕ, suc, List, [], ◌∷◌, Option, Some, None, Bool, true, false, refl}
use Rattle.c_tree.specs.declared.lexer.tokens.Kind.{Kind}
use Rattle.c_tree.specs.declared.hosts.GlobalName.{GlobalName}
use Rattle.c_tree.specs.declared.hosts.ArgIndex.{ArgIndex}
use Rattle.c_tree.specs.declared.hosts.ArgVia.{ArgVia}
use Rattle.c_tree.specs.declared.hosts.ArgVia.TheVariants as via
use Rattle.c_tree.specs.declared.hosts.LoopArg.{LoopArg}
use Rattle.c_tree.specs.declared.hosts.LoopArg.TheVariants as arg
use Rattle.c_tree.specs.Tree.{ExprTree, OpCallTree, CallInit, DeclSet, DeclMap, DeclDat, DeclConst, ParLoop, Printf, PrintDat}
use Rattle.c_tree.specs.Print.{glob, arg_index, via_mark, argument, arguments, values, call}
use Rattle.c_show.specs.Ahead.{global_first, index_first, via_first, arg_first, args_first, values_first, call_first}
use Rattle.c_show.proofs.ShownExprs.{ahead, ahead-append, expr_is}

global_is : (k : ℕ) (g : GlobalName) (rest : List Kind) → ahead (glob k g) rest ≡ global_first g rest
global_is k g rest =
    let of : Option ℕ → GlobalName = λ a. record { ampersand = a; name = g.name } in
    elim g.ampersand as (λ a. ahead (glob k (of a)) rest ≡ global_first (of a) rest) [ None ↦ refl | Some at ↦ refl ]

index_is : (k : ℕ) (i : ArgIndex) (rest : List Kind) → ahead (arg_index k i) rest ≡ index_first i rest
index_is k i rest =
    let of : Bool → ArgIndex = λ b. record { is_negative = b; at = i.at; value = i.value } in
    elim i.is_negative as (λ b. ahead (arg_index k (of b)) rest ≡ index_first (of b) rest) [ true ↦ refl | false ↦ refl ]

via_is : (k : ℕ) (v : ArgVia) (rest : List Kind) → ahead (via_mark k v ∷ []) rest ≡ via_first v rest
via_is k (via.Map x) rest = refl
via_is k (via.Identity at) rest = refl

arg_is : (k : ℕ) (a : LoopArg) (rest : List Kind) → ahead (argument k a) rest ≡ arg_first a rest
arg_is k (arg.Dat at dat index through dim text access access_at) rest = rw (ahead-append, index_is k index, ← via_is k through) refl
arg_is k (arg.Global at g dim text access access_at) rest = rw (ahead-append, global_is k g) refl

args_are : (k : ℕ) (xs : List LoopArg) (rest : List Kind) → ahead (arguments k xs) rest ≡ args_first xs rest
args_are k [] rest = refl
args_are k (a ∷ xs) rest = rw (ahead-append, arg_is k a, args_are k xs) refl

values_are : (k : ℕ) (es : List ExprTree) (rest : List Kind) → ahead (values k es) rest ≡ values_first es rest
values_are k [] rest = refl
values_are k (e ∷ es) rest = rw (ahead-append, expr_is (suc k) e, values_are k es) refl

pub call_is : (k : ℕ) (c : OpCallTree) (rest : List Kind) → ahead (call k c) rest ≡ call_first c rest
call_is k (CallInit at n) rest = refl
call_is k (DeclSet at x e t) rest = rw (ahead-append, expr_is (suc k) e) refl
call_is k (DeclMap at x from to n d t) rest = refl
call_is k (DeclDat at x s n u d t) rest = refl
call_is k (DeclConst at n t g) rest = rw (ahead-append, global_is k g) refl
call_is k (ParLoop at f t s xs) rest = rw (ahead-append, args_are k xs) refl
call_is k (Printf at t es) rest = rw (ahead-append, values_are k es) refl
call_is k (PrintDat at x t) rest = refl
