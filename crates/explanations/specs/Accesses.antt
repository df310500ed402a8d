-- What is said of the loop and the argument of a refused access.
use Rattle.std.specs.Prelude.{◌≡◌, ℕ, ◌+◌, List, [], ◌++◌, Option, Some, None, Ok, ◌⊎◌, codes, slice_get}
use Rattle.std.specs.Fmt.{decimal}
use Rattle.c_tree.specs.declared.lexer.tokens.Pos.{Pos}
use Rattle.c_tree.specs.declared.lexer.tokens.Token.{Token}
use Rattle.c_tree.specs.Lexed.{Lexes}
use Rattle.c_tree.specs.declared.hosts.LoopArg.{LoopArg}
use Rattle.c_tree.specs.Places.{pos_of}
use Rattle.c_tree.specs.Tree.{ProgramTree}
use Rattle.c_tree.specs.Reads.{Reads}
use Rattle.kernel_model.specs.declared.types.kernels.RKernel.{RKernel}
use Rattle.kernel_model.specs.declared.types.kernels.Resolved.{Resolved}
use Rattle.kernel_model.specs.View.{resolved_of}
use Rattle.name_resolution.specs.Programs.{Resolves}
use Rattle.explanations.specs.declared.error_loops.judgements.Judgement.{Judgement}
use Rattle.explanations.specs.Calls.{Call, all_loops_of}
use Rattle.explanations.specs.Placed.{placed}
use Rattle.explanations.specs.First.{IsFirst}
use Rattle.explanations.specs.Arguments.{parameter_at, token_of}

-- a loop, with its line of the source
abbrev pub shown_call : (source : List ℕ) (places : List Pos) → Call → List ℕ
shown_call source places c = codes "loop " ++ c.kernel ++ placed source (pos_of places c.at)

-- an argument by its number, with its line of the source, if there is one
abbrev pub shown_arg : (source : List ℕ) (places : List Pos) (number : ℕ) → Option LoopArg → List ℕ
shown_arg source places number None = []
shown_arg source places number (Some x) =
    codes "argument " ++ decimal (number + 1) ++ placed source (pos_of places (token_of x))

-- that of these arguments, if a number is told
abbrev pub shown_argument : (source : List ℕ) (places : List Pos) → List LoopArg → Option ℕ → List ℕ
shown_argument source places args None = []
shown_argument source places args (Some number) = shown_arg source places number (slice_get args number)

-- the loop that gives a judgement, and the argument that it gives the parameter at its place
abbrev pub shown : (source : List ℕ) → List Token → (places : List Pos) → Judgement → Call → RKernel → List ℕ
shown source tokens places j c k = shown_call source places c ++ shown_argument source places c.args (parameter_at tokens k j.at)

-- the same, if there is one
abbrev pub shown_first : (source : List ℕ) → List Token → (places : List Pos) → Judgement → Option (Call × RKernel) → List ℕ
shown_first source tokens places j None = []
shown_first source tokens places j (Some f) = shown source tokens places j f.0 f.1

-- a source has these tokens, this tree, and these kernels
pub record IsReadAs (source : List ℕ) (tokens : List Token) (p : ProgramTree) (types : Resolved) : Type 0 where
  pub lexes : Lexes source (Ok tokens)
  pub reads : Reads source p
  pub resolves : Resolves p (Ok (resolved_of types))

-- of these, the text tells the first loop that gives the judgement
abbrev pub Tells : (source : List ℕ) → Judgement → List Token → ProgramTree → Resolved → (text : List ℕ) → Type 0
Tells source j tokens p types text =
    (f : Option (Call × RKernel))
    × IsFirst types.kernels.items j (all_loops_of p.main.body) f
    × (text ≡ shown_first source tokens p.places j f)

-- the same of a source, of which nothing is told where it is refused before its accesses are judged
abbrev pub TellsOver : (source : List ℕ) → Judgement → (text : List ℕ) → Type 0
TellsOver source j text =
    ((tokens : List Token) × (p : ProgramTree) × (types : Resolved) × IsReadAs source tokens p types × Tells source j tokens p types text)
    ⊎ (((tokens : List Token) (p : ProgramTree) (types : Resolved) → IsReadAs source tokens p types → ⊥) × (text ≡ []))

-- what is said of a refused access, if there is one
abbrev pub IsTold : (source : List ℕ) → Option Judgement → (text : List ℕ) → Type 0
IsTold source None text = text ≡ []
IsTold source (Some j) text = TellsOver source j text
