-- Each name that `main` assigns means a variable where it stands, as names and types of a source without a refusal have it.
use Rattle.std.specs.Prelude.{List, Option, Some, Ok, Err}
use Rattle.c_tree.specs.declared.lexer.tokens.Pos.{Pos}
use Rattle.c_tree.specs.Tree as tree
use Rattle.c_tree.specs.Tree.{HostTree, HostTrees, ProgramTree}
use Rattle.kernel_model.specs.declared.types.kernels.ConstDecl.{ConstDecl}
use Rattle.kernel_model.specs.declared.types.kernels.Resolved.{Resolved}
use Rattle.mesh_decl.specs.Spelling.{Named}
use Rattle.main_declarations.specs.declared.names.walks.Spot.{Spot}
use Rattle.main_declarations.specs.declared.names.scopes.Meaning.{Meaning}
use Rattle.main_declarations.specs.declared.names.scopes.Meaning.TheVariants.{Variable}
use Rattle.main_declarations.specs.Names.{means}
use Rattle.bound_program.specs.Refusals.{Judged}
use Rattle.main_declarations.specs.SoFar.{Declared, Walked, quiet, nothing_declared}
use Rattle.loop_bind.specs.Text.{nested, turning, target_name, opened, with_counter, outermost, judged_host}
use Rattle.main_declarations.specs.File.{judged_tops}

-- it means a variable that isn't `const`
abbrev pub IsVariable : Option Meaning → Type 0
IsVariable (Some (Variable c)) = Unit {0}
IsVariable _ = ⊥

-- where nothing is refused
abbrev pub Behind : Judged Walked → (Walked → Type 0) → Type 0
Behind (Ok b) P = P b
Behind (Err e) P = Unit {0}

module _ (places : List Pos) (consts : List ConstDecl) (entries : List Named) where
  abbrev mutual
    -- in a statement
    pub AssignsVariables : Walked → Spot → HostTree → Type 0
    AssignsVariables a w (tree.HostDeclaration v) = Unit {0}
    AssignsVariables a w (tree.HostBlock at hs) = AllAssignVariables (opened places consts entries a) (nested w) hs
    AssignsVariables a w (tree.HostEmpty at) = Unit {0}
    AssignsVariables a w (tree.HostAssign e) = IsVariable (means a.declared.names (target_name places consts entries e.place).name)
    AssignsVariables a w (tree.HostIf at e h) = AssignsVariables (opened places consts entries a) (nested w) h
    AssignsVariables a w (tree.HostIfElse at e h g) =
        AssignsVariables (opened places consts entries a) (nested w) h
        × Behind (judged_host places consts entries (opened places consts entries a) (nested w) h) (λ b. AssignsVariables (opened places consts entries b) (nested w) g)
    AssignsVariables a w (tree.HostFor f h) = AssignsVariables (with_counter places consts entries a f.name) turning h
    AssignsVariables a w (tree.HostCall c) = Unit {0}

    -- in each statement
    pub AllAssignVariables : Walked → Spot → HostTrees → Type 0
    AllAssignVariables a w tree.NoHost = Unit {0}
    AllAssignVariables a w (tree.MoreHost h hs) = AssignsVariables a w h × Behind (judged_host places consts entries a w h) (λ b. AllAssignVariables b w hs)

-- in `main`, behind the file
abbrev pub MainAssignsVariables : ProgramTree → Resolved → List Named → Type 0
MainAssignsVariables p r es = by_file (judged_tops p.places r.consts.items es nothing_declared p.tops)
  where
    by_file : Judged Declared → Type 0
    by_file (Ok k) = AllAssignVariables p.places r.consts.items es (quiet k) outermost p.main.body
    by_file (Err e) = Unit {0}
