-- The values that programs begin with are numbers of 32 bits.
use Rattle.std.specs.Prelude.{ℕ, List, Ok}
use Rattle.c_tree.specs.Tree.{ProgramTree}
use Rattle.kernel_model.specs.declared.types.kernels.Resolved.{Resolved}
use Rattle.mesh_decl.specs.Spelling.{Named, Spells}
use Rattle.bound_program.specs.Values.{BoundValue}
use Rattle.loop_bind.specs.ResolvedSources.{IsResolvedSource}
use Rattle.run_model.specs.Ranges.{StartsInRange}
use Rattle.answers.specs.Judgements.{BoundIs, Cut, Chosen, ChosenIs}

-- what is bound of a source that was read and of a mesh text begins with such values
abbrev pub BoundProgramsStartInRange : Type 0
BoundProgramsStartInRange =
    (p : ProgramTree) (types : Resolved) (text : List ℕ) (es : List Named) (b : BoundValue)
    → IsResolvedSource p types → Spells text es → BoundIs p types es (Ok b) → StartsInRange b

-- so do the items of a program that run, where the program does: its head, or its tail from a state on that a text tells
abbrev pub ChosenProgramsStartInRange : Type 0
ChosenProgramsStartInRange =
    (cut : Cut) (b : BoundValue) (c : Chosen) → StartsInRange b → ChosenIs cut b (Ok c) → StartsInRange c.program
