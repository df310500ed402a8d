-- What is said of an item that runs a Free loop.
use Rattle.std.proofs.Common.{◌≡◌, ℕ, List, Option, Some, subst}
use Rattle.op_outside.specs.Outside.{Files}
use Rattle.bound_program.specs.Values.{BoundValue}
use Rattle.tool_command.specs.Loops.{AreTold, ValuesOf}

-- by the state before the item, where there are files, and the line tells an item that runs such a loop
pub values_are : (files : Files) (b : BoundValue) (line text : List ℕ) (names : List ℕ × List ℕ) (item site : ℕ)
    (o : Option (List ℕ × List ℕ)) (i s : Option ℕ) → Some names ≡ o → Some item ≡ i → Some site ≡ s
    → AreTold names.0 names.1 files b line item site text
    → ValuesOf o files b line i s text
values_are files b line text names item site o i s is_o is_i is_s told =
    subst (λ o. ValuesOf o files b line i s text) is_o
    (subst (λ i. ValuesOf (Some names) files b line i s text) is_i
    (subst (λ s. ValuesOf (Some names) files b line (Some item) s text) is_s told))
