-- The text of a program, judged statement by statement in its order.
use Rattle.std.specs.Prelude.{ℕ, pos, true, false, not, List, length, map, Option, Some, None, Ok, is_none, nat_eq}
use Rattle.c_tree.specs.declared.lexer.tokens.Pos.{Pos}
use Rattle.c_tree.specs.declared.expressions.Ident.{Ident}
use Rattle.c_tree.specs.declared.expressions.TextLiteral.{TextLiteral}
use Rattle.c_tree.specs.Tree as tree
use Rattle.c_tree.specs.Tree.{ExprTree, PlaceTree, AssignmentTree, TopTree, OpCallTree, HostTree, HostTrees, HostForHeaderTree}
use Rattle.kernel_model.specs.declared.types.kernels.ConstDecl.{ConstDecl}
use Rattle.mesh_decl.specs.Spelling.{Named}
use Rattle.mesh_decl.specs.Printed.{conversions}
use Rattle.bound_program.specs.declared.refusals.refusals.BindRefusal.TheVariants as refusal
use Rattle.main_declarations.specs.declared.names.walks.Spot.{Spot}
use Rattle.kernel_model.specs.View.{RExprTree, Number}
use Rattle.bound_program.specs.Values.{ActValue, Assign, Line, Print}
use Rattle.main_declarations.specs.declared.names.scopes.Meaning.TheVariants.{Turning}
use Rattle.main_declarations.specs.Names.{Scope, means, told_later, closed}
use Rattle.bound_program.specs.Steps.{Asked, Step, Do, Loop, Block, Choose, Repeat, NoStep}
use Rattle.bound_program.specs.Refusals.{place, Judged, ◌>>=◌, unless_found, found_if}
use Rattle.main_declarations.specs.Expressions.{resolved, cells_of, judged_static}
use Rattle.bound_program.specs.declared.refusals.founds.Found.{Found}
use Rattle.main_declarations.specs.SoFar.{Declared, Walked, does, behind, quiet, with_name}
use Rattle.main_declarations.specs.Meanings.{dat_of, or_zero}
use Rattle.main_declarations.specs.Declarations.{judged_set, judged_map, judged_dat}
use Rattle.main_declarations.specs.Variables.{judged_declrs, judged_constant}
use Rattle.loop_bind.specs.Arguments.{judged_loop}

-- where the statements of `main` stand
abbrev pub outermost : Spot
outermost = record { is_nested = false; in_for = false }

-- in a block or an `if`
abbrev pub nested : Spot → Spot
nested w = record w { is_nested = true }

-- in a `for`
abbrev pub turning : Spot
turning = record { is_nested = true; in_for = true }

module _ (places : List Pos) (consts : List ConstDecl) (entries : List Named) where
  -- ---- statements without a declaration

  -- the name of a target
  abbrev pub target_name : PlaceTree → Ident
  target_name (tree.Scalar x) = x
  target_name (tree.Element x i) = x
  target_name (tree.Target at x) = x

  -- the index of an assignment's target; `*x` is `x[0]`
  abbrev pub target_index : Scope → PlaceTree → Option RExprTree
  target_index s (tree.Scalar x) = None
  target_index s (tree.Element x i) = Some (resolved places s i)
  target_index s (tree.Target at x) = Some (Number (pos 0))

  -- its variable
  abbrev pub target_var : Scope → PlaceTree → ℕ
  target_var s p = (cells_of (means s (target_name p).name)).var

  -- the place of its name
  abbrev pub target_at : PlaceTree → Pos
  target_at p = place places (target_name p).at

  -- an assignment by the number of its variable
  abbrev pub assignment : Scope → AssignmentTree → ActValue
  assignment s a =
      Assign (target_var s a.place) (target_index s a.place) a.op (place places a.at) (resolved places s a.value) (target_at a.place)

  -- ---- calls

  -- a text of `op_printf` with so many values, its word at the token t
  abbrev pub line_found : ℕ → TextLiteral → ℕ → Option ℕ → List Found
  line_found t l n None = found_if places true l.at refusal.TypeMismatch
  line_found t l n (Some m) = found_if places (not (nat_eq m n)) t refusal.ArgCount

  -- `op_print_dat_to_txtfile(x, "..");`, where x means that dat
  abbrev pub judged_print : Walked → Ident → List ℕ → Option ℕ → Judged Walked
  judged_print a x file d = unless_found (found_if places (is_none d) x.at refusal.UnknownDat) (does (Do (Print (or_zero d) file)) a)

  -- what follows a declaration, unless it was refused
  abbrev pub declares : Walked → Judged Declared → Judged Walked
  declares a r = r >>= λ k. Ok (behind a k)

  -- a call of the OP2 library
  abbrev pub judged_call : Walked → Spot → OpCallTree → Judged Walked
  judged_call a w (tree.CallInit at n) = Ok a
  judged_call a w (tree.DeclSet at x e l) = declares a (judged_set places a.declared w.is_nested at x e)
  judged_call a w (tree.DeclMap at x from to n v l) = declares a (judged_map places entries a.declared w.is_nested at x from to n v)
  judged_call a w (tree.DeclDat at x on n u v l) = declares a (judged_dat places entries a.declared w.is_nested at x on n u v)
  judged_call a w (tree.DeclConst at n u g) = declares a (judged_constant places consts a.declared w.is_nested at n u g)
  judged_call a w (tree.ParLoop at f l on args) =
      judged_loop places entries a.declared at f on args >>= λ k. Ok (does (Loop (length a.declared.sites)) (behind a k))
  judged_call a w (tree.Printf at l es) =
      unless_found (line_found at l (length es) (conversions l.text))
      (does (Do (Line l.text (map (resolved places a.declared.names) es))) a)
  judged_call a w (tree.PrintDat at x l) = judged_print a x l.text (dat_of (means a.declared.names x.name))

  -- ---- statements

  -- the steps of a part of a statement begin here
  abbrev pub opened : Walked → Walked
  opened a = record { declared = a.declared; steps = NoStep }

  -- behind the part b, with this step
  abbrev pub followed_by : Walked → Step → Walked → Walked
  followed_by a s b = does s (behind a b.declared)

  -- behind a block or a `for` its names are no longer known
  abbrev pub ended : Walked → Step → Walked → Walked
  ended a s b = does s (behind a (record b.declared { names = closed a.declared.names b.declared.names }))

  -- the body of a `for` knows its counter
  abbrev pub with_counter : Walked → Ident → Walked
  with_counter a x = quiet (with_name x.name (Turning (told_later a.declared.names)) a.declared)

  -- the bounds of a `for`; the second knows the counter
  abbrev pub judged_bounds : Walked → HostForHeaderTree → Judged (Asked × Asked)
  judged_bounds a f =
      judged_static places a.declared.names f.from
      >>= λ from. judged_static places (with_counter a f.name).declared.names f.to
      >>= λ to. Ok (from, to)

  abbrev mutual
    -- a statement of `main`
    pub judged_host : Walked → Spot → HostTree → Judged Walked
    judged_host a w (tree.HostDeclaration v) = judged_declrs places a w v.is_const v.declrs
    judged_host a w (tree.HostBlock at hs) = judged_hosts (opened a) (nested w) hs >>= λ b. Ok (ended a (Block b.steps) b)
    judged_host a w (tree.HostEmpty at) = Ok a
    judged_host a w (tree.HostAssign e) = Ok (does (Do (assignment a.declared.names e)) a)
    judged_host a w (tree.HostIf at e h) =
        judged_static places a.declared.names e
        >>= λ c. judged_host (opened a) (nested w) h
        >>= λ b. Ok (followed_by a (Choose c (Block b.steps) (Block NoStep)) b)
    judged_host a w (tree.HostIfElse at e h g) =
        judged_static places a.declared.names e
        >>= λ c. judged_host (opened a) (nested w) h
        >>= λ b. judged_host (opened b) (nested w) g
        >>= λ d. Ok (followed_by a (Choose c (Block b.steps) (Block d.steps)) d)
    judged_host a w (tree.HostFor f h) =
        judged_bounds a f >>= λ r. judged_host (with_counter a f.name) turning h >>= λ b. Ok (ended a (Repeat r.0 r.1 (Block b.steps)) b)
    judged_host a w (tree.HostCall c) = judged_call a w c

    -- the statements in order, up to one that is refused
    pub judged_hosts : Walked → Spot → HostTrees → Judged Walked
    judged_hosts a w tree.NoHost = Ok a
    judged_hosts a w (tree.MoreHost h hs) = judged_host a w h >>= λ b. judged_hosts b w hs
