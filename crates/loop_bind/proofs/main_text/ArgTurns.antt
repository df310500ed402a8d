-- Turns of the loop over the arguments of a loop.
use Rattle.std.proofs.Common.{◌≡◌, ℕ, ◌+◌, ◌<◌, List, drop, length, get_or, sym, Option}
use Rattle.c_tree.specs.declared.lexer.tokens.Pos.{Pos}
use Rattle.c_tree.specs.declared.hosts.LoopArg.{LoopArg}
use Rattle.mesh_decl.specs.Spelling.{Named}
use Rattle.bound_program.specs.declared.refusals.founds.Found.{Found}
use Rattle.loop_bind.specs.declared.main_text.arguments.Earlier.{Earlier}
use Rattle.bound_program.specs.Refusals.{least_from}
use Rattle.main_declarations.specs.SoFar.{Declared}
use Rattle.loop_bind.specs.Arguments.{arg_found, args_found, with_earlier}
use Rattle.bound_program.proofs.Public.{least_append}
use Rattle.lemmas.proofs.Lists.{drop_here}

pub args_go : (ps : List Pos) (es : List Named) (k : Declared) (set : Option ℕ) (b b' : List Earlier) (xs : List LoopArg) (i : ℕ)
    (x : LoopArg) (f f' : Option Found) → i < length xs → x ≡ get_or xs i x → f' ≡ least_from f (arg_found ps es k set b x)
    → b' ≡ with_earlier ps es k x b → least_from f' (args_found ps es k set b' (drop (i + 1) xs)) ≡ least_from f
    (args_found ps es k set b (drop i xs))
args_go ps es k set b b' xs i x f f' h g w e =
    rw (e, drop_here xs i x h g, w) (sym (least_append f (arg_found ps es k set b x) _))
