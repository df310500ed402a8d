-- Declarations of variables, of the file and of `main` (ISO C 6.7), and the constants that kernels read (`op_decl_const` of the
-- OP2 C API).
use Rattle.std.specs.Prelude.{ℕ, zero, suc, ℤ, pos, Bool, true, false, not, List, [], ◌∷◌, ◌++◌, length, replicate, Option, Some, None, Ok, is_some, nat_eq, if◌then◌else◌}
use Rattle.c_tree.specs.declared.lexer.tokens.Pos.{Pos}
use Rattle.c_tree.specs.declared.declarations.AssignOp.TheVariants as assign
use Rattle.c_tree.specs.declared.expressions.Ident.{Ident}
use Rattle.c_tree.specs.declared.expressions.NumberLiteral.{NumberLiteral}
use Rattle.c_tree.specs.declared.expressions.TextLiteral.{TextLiteral}
use Rattle.c_tree.specs.declared.hosts.GlobalName.{GlobalName}
use Rattle.c_tree.specs.Tree.{ExprTree, DeclrTree, Plain, Init, Array}
use Rattle.kernel_model.specs.declared.types.kernels.ConstDecl.{ConstDecl}
use Rattle.bound_program.specs.declared.refusals.refusals.BindRefusal.TheVariants as refusal
use Rattle.main_declarations.specs.declared.names.walks.Spot.{Spot}
use Rattle.bound_program.specs.Values.{VarValue, ActValue, Clear, Assign}
use Rattle.main_declarations.specs.declared.names.scopes.Cells.{Cells}
use Rattle.main_declarations.specs.declared.names.scopes.Meaning.{Meaning}
use Rattle.main_declarations.specs.declared.names.scopes.Meaning.TheVariants.{Variable, Fixed, FixedLater, Turning}
use Rattle.main_declarations.specs.Names.{means, told_later}
use Rattle.bound_program.specs.Steps.{Do, Fix}
use Rattle.bound_program.specs.Refusals.{place, Judged, ◌>>=◌, unless_found, found_if}
use Rattle.main_declarations.specs.Expressions.{resolved, judged_static, judged_value}
use Rattle.bound_program.specs.declared.refusals.founds.Found.{Found}
use Rattle.main_declarations.specs.SoFar.{Declared, Walked, does, behind, next_cells, with_var, with_name, with_file_name, changing, unchanging, first_cell}
use Rattle.main_declarations.specs.Meanings.{count_of}
use Rattle.main_declarations.specs.Declarations.{place_found, type_found}

module _ (places : List Pos) where
  -- ---- the file

  module _ (consts : List ConstDecl) where
    -- a variable of the file with its initializer
    abbrev pub with_file_value : Declared → Bool → List ℕ → ℤ → Declared
    with_file_value k false x z = with_file_name x (Variable (next_cells k true false 1)) (with_var (changing x (z ∷ [])) k)
    with_file_value k true x z = with_file_name x (Fixed z (next_cells k true false 1)) (with_var (unchanging x z (first_cell consts x)) k)

    -- a declarator of the file: without initializer its cells are 0
    abbrev pub judged_file_declr : Declared → Bool → DeclrTree → Judged Declared
    judged_file_declr k c (Plain x) =
        Ok (with_file_name x.name (Variable (next_cells k true false 1)) (with_var (changing x.name (pos 0 ∷ [])) k))
    judged_file_declr k c (Init x e) = judged_value places k.names e >>= λ z. Ok (with_file_value k c x.name z)
    judged_file_declr k c (Array x n) =
        Ok (with_file_name x.name (Variable (next_cells k true true (count_of n)))
        (with_var (changing x.name (replicate (count_of n) (pos 0))) k))

    -- the declarators of one declaration of the file in order, up to one that is refused
    abbrev pub judged_file_declrs : Declared → Bool → List DeclrTree → Judged Declared
    judged_file_declrs k c [] = Ok k
    judged_file_declrs k c (d ∷ ds) = judged_file_declr k c d >>= λ l. judged_file_declrs l c ds

  -- ---- `main`

  -- a `const` name of `main` that stands in no block, `if` or `for`
  abbrev pub with_fixed : Declared → List ℕ → ℤ → Declared
  with_fixed k x z = with_name x (Fixed z (next_cells k false false 1)) (with_var (unchanging x z None) k)

  -- a `const` name of a block or `if`, whose variable gets its value when `main` is unrolled
  abbrev pub with_fixed_later : Declared → List ℕ → Declared
  with_fixed_later k x = with_name x (FixedLater (told_later k.names) (next_cells k false false 1)) (with_var (unchanging x (pos 0) None) k)

  -- a `const` name of a `for`, which is no variable
  abbrev pub with_turning : Declared → List ℕ → Declared
  with_turning k x = with_name x (Turning (told_later k.names)) k

  -- a `const` name of `main`, in a `for` or not, nested or not
  abbrev pub const_at : (in_for is_nested : Bool) → Walked → List ℕ → ExprTree → Judged Walked
  const_at true is_nested a x e =
      judged_static places a.declared.names e >>= λ v. Ok (does (Fix v None) (behind a (with_turning a.declared x)))
  const_at false true a x e =
      judged_static places a.declared.names e
      >>= λ v. Ok (does (Fix v (Some (length a.declared.vars))) (behind a (with_fixed_later a.declared x)))
  const_at false false a x e = judged_value places a.declared.names e >>= λ z. Ok (behind a (with_fixed a.declared x z))

  -- a variable of `main` with so many cells
  abbrev pub with_changing : Declared → List ℕ → Bool → ℕ → Declared
  with_changing k x is_array n =
      with_name x (Variable (next_cells k false is_array n)) (with_var (changing x (replicate n (pos 0))) k)

  -- the initializer of the next variable
  abbrev pub initializer : Declared → Ident → ExprTree → ActValue
  initializer k x e = Assign (length k.vars) None assign.Set (place places x.at) (resolved places k.names e) (place places x.at)

  -- a declarator of `main`
  abbrev pub judged_declr : Walked → Spot → Bool → DeclrTree → Judged Walked
  judged_declr a w true (Init x e) = const_at w.in_for w.is_nested a x.name e
  judged_declr a w false (Init x e) =
      Ok (does (Do (initializer a.declared x e)) (behind a (with_changing a.declared x.name false 1)))
  judged_declr a w c (Plain x) =
      Ok (does (Do (Clear (length a.declared.vars))) (behind a (with_changing a.declared x.name false 1)))
  judged_declr a w c (Array x n) =
      Ok (does (Do (Clear (length a.declared.vars))) (behind a (with_changing a.declared x.name true (count_of n))))

  -- the declarators of one declaration of `main` in order, up to one that is refused
  abbrev pub judged_declrs : Walked → Spot → Bool → List DeclrTree → Judged Walked
  judged_declrs a w c [] = Ok a
  judged_declrs a w c (d ∷ ds) = judged_declr a w c d >>= λ b. judged_declrs b w c ds

  -- ---- constants of kernels

  -- the first token of a global
  abbrev pub glob_token : GlobalName → ℕ
  glob_token g = by_ampersand g.ampersand
    where
      by_ampersand : Option ℕ → ℕ
      by_ampersand None = g.name.at
      by_ampersand (Some t) = t

  -- a `&` before an array, or none before a scalar
  abbrev pub is_wrong_ampersand : Bool → Option ℕ → Bool
  is_wrong_ampersand true g = is_some g
  is_wrong_ampersand false g = not (is_some g)

  -- a global of a constant has a wrong `&`, or lacks one
  abbrev pub ampersand_found : Bool → GlobalName → List Found
  ampersand_found is_array g = found_if places (is_wrong_ampersand is_array g.ampersand) (glob_token g) refusal.TypeMismatch

  -- a variable of the file
  abbrev pub file_cells : Option Meaning → Option Cells
  file_cells (Some (Variable c)) = if c.of_file then Some c else None
  file_cells (Some (Fixed z c)) = if c.of_file then Some c else None
  file_cells _ = None

  -- what is wrong with the variable and the dim of a constant
  abbrev pub constant_found : NumberLiteral → GlobalName → Option Cells → List Found
  constant_found n g None =
      found_if places true g.name.at refusal.UnknownEntry ++ found_if places (nat_eq (count_of n) 0) n.at refusal.DimMismatch
  constant_found n g (Some c) =
      ampersand_found c.is_array g ++ found_if places (not (nat_eq (count_of n) c.count)) n.at refusal.DimMismatch

  -- the variable of this number has its first cell among the constants
  abbrev pub with_constant : ℕ → Option ℕ → List VarValue → List VarValue
  with_constant v from [] = []
  with_constant zero from (x ∷ xs) = (record x { constant = from }) ∷ xs
  with_constant (suc v) from (x ∷ xs) = x ∷ with_constant v from xs

  -- the variable becomes a constant of kernels, where there is one
  abbrev pub after_constant : List ConstDecl → Declared → List ℕ → Option Cells → Declared
  after_constant consts k x None = k
  after_constant consts k x (Some c) = record k { vars = with_constant c.var (first_cell consts x) k.vars }

  -- what is wrong with the declaration of a constant
  abbrev pub constant_decl_found : Declared → Bool → ℕ → NumberLiteral → TextLiteral → GlobalName → List Found
  constant_decl_found k nested t n l g =
      place_found places k nested t ++ constant_found n g (file_cells (means k.names g.name.name)) ++ type_found places l

  -- `op_decl_const(n, l, g);`
  abbrev pub judged_constant :
      List ConstDecl → Declared → Bool → ℕ → NumberLiteral → TextLiteral → GlobalName → Judged Declared
  judged_constant consts k nested t n l g =
      unless_found
      (constant_decl_found k nested t n l g)
      (after_constant consts k g.name.name (file_cells (means k.names g.name.name)))
