-- What is left of `main` when its names are numbers: the statements that are unrolled.
use Rattle.std.specs.Prelude.{ℕ, Option}
use Rattle.c_tree.specs.declared.lexer.tokens.Pos.{Pos}
use Rattle.kernel_model.specs.View.{RExprTree}
use Rattle.bound_program.specs.Values.{ActValue}

-- an expression that must be known before the run, and the place of its first token
pub record Asked : Type 0 where
  pub value : RExprTree
  pub at : Pos

mutual
  -- one statement of `main`
  pub data Step : Type 0 where
    -- an item that is no loop
    Do : ActValue → Step
    -- a loop
    Loop : (site : ℕ) → Step
    -- a `const` name whose value is told here, with the number of its variable where it is one
    Fix : Asked → (var : Option ℕ) → Step
    -- a block, whose told values end with it
    Block : Steps → Step
    -- a choice of `if`
    Choose : Asked → (then otherwise : Step) → Step
    -- the turns of a `for`, each of which tells the value of its counter
    Repeat : (from to : Asked) → (body : Step) → Step

  -- statements in order
  pub data Steps : Type 0 where
    NoStep : Steps
    MoreStep : Step → Steps → Steps

-- the one, and then the others
abbrev pub followed : Steps → Steps → Steps
followed NoStep ts = ts
followed (MoreStep s ss) ts = MoreStep s (followed ss ts)

-- one step alone
abbrev pub one_step : Step → Steps
one_step s = MoreStep s NoStep
