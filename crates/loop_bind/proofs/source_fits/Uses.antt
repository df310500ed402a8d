-- What expressions and statements of kernels that break no rule read of constants.
use Rattle.std.proofs.Common.{◌≡◌, ℕ, pos, Bool, true, false, List, [], ◌∷◌, ◌++◌, Option, Some, None, IfSome, refl}
use Rattle.c_tree.specs.declared.lexer.tokens.Pos.{Pos}
use Rattle.c_tree.specs.declared.declarations.AssignOp.{AssignOp}
use Rattle.c_tree.specs.declared.kernels.Param.{Param}
use Rattle.c_tree.specs.Places.{pos_of}
use Rattle.c_tree.specs.Tree as tree
use Rattle.c_tree.specs.Tree.{ExprTree, DeclrTree, PlaceTree, AssignmentTree, StmtTree, StmtTrees, KernelTree}
use Rattle.kernel_model.specs.declared.types.expressions.ElementForm.{ElementForm}
use Rattle.kernel_model.specs.declared.types.expressions.ElementForm.TheVariants as form
use Rattle.kernel_model.specs.View.{RExprTree, Number, Scalar, Constant, Arg, Local, Const, Unary, Binary, Choice, Paren, Extremum, Absolute, RStmtTree, RStmtTrees, Block, Declare, SetScalar, SetLocal, SetArg, If, For, NoStmt, MoreStmt}
use Rattle.name_resolution.specs.declared.breaches.TypeRule.TheVariants.{TooMuchWork}
use Rattle.name_resolution.specs.declared.decls.Sort.{Sort}
use Rattle.name_resolution.specs.declared.decls.Sort.TheVariants as sort
use Rattle.name_resolution.specs.declared.decls.Decl.{Decl}
use Rattle.name_resolution.specs.First.{breach_if}
use Rattle.name_resolution.specs.Scopes.{Names, Scope, scope, means, declared, repeated, decl_or, use_breaches}
use Rattle.name_resolution.specs.Work.{declr_cells, cells, is_heavy, behind}
use Rattle.name_resolution.specs.Kernels.{reading, writing, name_breaches, expr_breaches, place_breaches, element, single, value, set_element, assigned, after_declr, after_declrs, after_stmt, with_counter, param_decl, after_params, declr_breaches, declrs_breaches, stmt_breaches, stmts_breaches, params_breaches, kernel_breaches, declr_step, declrs_steps, step, steps, kernel}
use Rattle.name_resolution.proofs.Public.{AllAre, mk, meant, declared_are, none_of_both, Allowed, allowed}

module _ (there : (from count : ℕ) → Type 0) where
  -- the cells of constants that an expression reads are there
  abbrev pub ExprUses : RExprTree → Type 0
  ExprUses (Number n) = Unit {0}
  ExprUses (Scalar k) = Unit {0}
  ExprUses (Constant k) = there k 1
  ExprUses (Arg a f e at) = ExprUses e
  ExprUses (Local from count f e at) = ExprUses e
  ExprUses (Const from count f e at) = there from count × ExprUses e
  ExprUses (Unary op a) = ExprUses a
  ExprUses (Binary op a b at) = ExprUses a × ExprUses b
  ExprUses (Choice c a b) = ExprUses c × ExprUses a × ExprUses b
  ExprUses (Paren a) = ExprUses a
  ExprUses (Extremum w a b) = ExprUses a × ExprUses b
  ExprUses (Absolute a) = ExprUses a

  abbrev mutual
    -- those of a statement
    pub StmtUses : RStmtTree → Type 0
    StmtUses (Block all) = RowUses all
    StmtUses (Declare from count) = Unit {0}
    StmtUses (SetScalar k op op_at e) = ExprUses e
    StmtUses (SetLocal from count f i at op op_at e) = ExprUses i × ExprUses e
    StmtUses (SetArg a f i at op op_at e) = ExprUses i × ExprUses e
    StmtUses (If e a b) = ExprUses e × StmtUses a × StmtUses b
    StmtUses (For k first past body) = StmtUses body

    pub RowUses : RStmtTrees → Type 0
    RowUses NoStmt = Unit {0}
    RowUses (MoreStmt x xs) = StmtUses x × RowUses xs

  -- ---- declarations

  -- the cells of what is declared are there, where it is a constant of the file
  abbrev pub ReadyAs : Sort → (f k : Bool) → (from count : ℕ) → Type 0
  ReadyAs sort.Scalar true k from count = k ≡ true → there from 1
  ReadyAs sort.Array true k from count = k ≡ true → there from count
  ReadyAs sort.Counter true k from count = ⊥
  ReadyAs _ f k from count = Unit {0}

  abbrev pub Ready : Decl → Type 0
  Ready d = ReadyAs d.sort d.of_file d.is_constant d.from d.count

  read_single : (at : ℕ) (s : Sort) (k0 f k : Bool) (from count : ℕ) → ReadyAs s f k from count
      → Allowed (reading true false) (mk at s k0 f k from count) → ExprUses (single (mk at s k0 f k from count))
  read_single at sort.Extern k0 true k from count h a = let e = a.reach in cc
  read_single at sort.ExternArray k0 true k from count h a = let e = a.value in cc
  read_single at sort.Kernel k0 true k from count h a = let e = a.value in cc
  read_single at sort.Set k0 true k from count h a = let e = a.value in cc
  read_single at sort.Map k0 true k from count h a = let e = a.value in cc
  read_single at sort.Dat k0 true k from count h a = let e = a.value in cc
  read_single at sort.Scalar k0 true true from count h a = h refl
  read_single at sort.Scalar k0 true false from count h a = let e = a.reach in cc
  read_single at sort.Array k0 true k from count h a = let e = a.value in cc
  read_single at sort.Param k0 true k from count h a = let e = a.value in cc
  read_single at sort.Counter k0 true k from count h a = absurd h
  read_single at s k0 false k from count h a = tt

  read_element : (at : ℕ) (s : Sort) (k0 f k : Bool) (from count : ℕ) (form : ElementForm) (i : RExprTree) (q : Pos)
      → ReadyAs s f k from count → ExprUses i → Allowed (reading true true) (mk at s k0 f k from count)
      → ExprUses (element (mk at s k0 f k from count) form i q)
  read_element at sort.Extern k0 f k from count form i q h hi a = let e = a.index in cc
  read_element at sort.ExternArray k0 f k from count form i q h hi a = let e = a.value in cc
  read_element at sort.Kernel k0 f k from count form i q h hi a = let e = a.value in cc
  read_element at sort.Set k0 f k from count form i q h hi a = let e = a.value in cc
  read_element at sort.Map k0 f k from count form i q h hi a = let e = a.value in cc
  read_element at sort.Dat k0 f k from count form i q h hi a = let e = a.value in cc
  read_element at sort.Scalar k0 f k from count form i q h hi a = let e = a.index in cc
  read_element at sort.Array k0 false k from count form i q h hi a = hi
  read_element at sort.Array k0 true true from count form i q h hi a = (h refl, hi)
  read_element at sort.Array k0 true false from count form i q h hi a = let e = a.reach in cc
  read_element at sort.Param k0 f k from count form i q h hi a = hi
  read_element at sort.Counter k0 f k from count form i q h hi a = let e = a.index in cc

  single_uses : (m : Option Decl) (t : ℕ) → IfSome m Ready → use_breaches (reading true false) t m ≡ [] → ExprUses (single (decl_or m))
  single_uses None t h e = cc
  single_uses (Some d) t h e = read_single d.at d.sort d.is_const d.of_file d.is_constant d.from d.count h (allowed (reading true false) t d e)

  element_uses : (m : Option Decl) (t : ℕ) (form : ElementForm) (i : RExprTree) (q : Pos) → IfSome m Ready → ExprUses i
      → use_breaches (reading true true) t m ≡ [] → ExprUses (element (decl_or m) form i q)
  element_uses None t form i q h hi e = cc
  element_uses (Some d) t form i q h hi e = read_element d.at d.sort d.is_const d.of_file d.is_constant d.from d.count form i q h hi (allowed (reading true true) t d e)

  set_as : (at : ℕ) (s : Sort) (k0 f k : Bool) (from count : ℕ) (form : ElementForm) (i : RExprTree) (q : Pos) (op : AssignOp) (op_at : Pos)
      (v : RExprTree) → ExprUses i → ExprUses v → StmtUses (set_element (mk at s k0 f k from count) form i q op op_at v)
  set_as at sort.Param k0 f k from count form i q op op_at v hi hv = (hi, hv)
  set_as at s k0 f k from count form i q op op_at v hi hv = (hi, hv)

  set_uses : (d : Decl) (form : ElementForm) (i : RExprTree) (q : Pos) (op : AssignOp) (op_at : Pos) (v : RExprTree) → ExprUses i → ExprUses v → StmtUses (set_element d form i q op op_at v)
  set_uses d form i q op op_at v hi hv = set_as d.at d.sort d.is_const d.of_file d.is_constant d.from d.count form i q op op_at v hi hv

  -- ---- expressions and assignments

  module _ (places : List Pos) (s : Scope) (file_ready : AllAre Ready s.file) (own_ready : AllAre Ready s.own) where
    expr_uses : (e : ExprTree) → expr_breaches true s e ≡ [] → ExprUses (value places s e)
    expr_uses (tree.Number m) h = tt
    expr_uses (tree.Name x) h = single_uses (means s x.name) x.at (meant Ready s x.name file_ready own_ready) h
    expr_uses (tree.Index x e) h =
        let b = none_of_both (name_breaches true s true x) (expr_breaches true s e) h in
        element_uses (means s x.name) x.at form.Index (value places s e) (pos_of places x.at) (meant Ready s x.name file_ready own_ready) (expr_uses e b.1) b.0
    expr_uses (tree.Deref at x) h =
        element_uses (means s x.name) x.at form.Deref (Number (pos 0)) (pos_of places x.at) (meant Ready s x.name file_ready own_ready) tt h
    expr_uses (tree.Unary op at e) h = expr_uses e h
    expr_uses (tree.Binary op at l r) h =
        let b = none_of_both (expr_breaches true s l) (expr_breaches true s r) h in (expr_uses l b.0, expr_uses r b.1)
    expr_uses (tree.Choice at q y m) h =
        let b = none_of_both (expr_breaches true s q) (expr_breaches true s y ++ expr_breaches true s m) h in
        let d = none_of_both (expr_breaches true s y) (expr_breaches true s m) b.1 in
        (expr_uses q b.0, expr_uses y d.0, expr_uses m d.1)
    expr_uses (tree.Paren at e) h = expr_uses e h
    expr_uses (tree.Extremum w at l r) h =
        let b = none_of_both (expr_breaches true s l) (expr_breaches true s r) h in (expr_uses l b.0, expr_uses r b.1)
    expr_uses (tree.Absolute at e) h = expr_uses e h

    assigned_uses : (a : AssignmentTree) (x : PlaceTree) → place_breaches true s false x ≡ [] → expr_breaches true s a.value ≡ [] → StmtUses (assigned places s a x)
    assigned_uses a (tree.Scalar x) h v = expr_uses a.value v
    assigned_uses a (tree.Element x e) h v =
        let b = none_of_both (use_breaches (writing true false true) x.at (means s x.name)) (expr_breaches true s e) h in
        set_uses (decl_or (means s x.name)) form.Index (value places s e) (pos_of places x.at) a.op (pos_of places a.at) (value places s a.value) (expr_uses e b.1) (expr_uses a.value v)
    assigned_uses a (tree.Target at x) h v =
        set_uses (decl_or (means s x.name)) form.Deref (Number (pos 0)) (pos_of places x.at) a.op (pos_of places a.at) (value places s a.value) tt (expr_uses a.value v)

  -- ---- the names of a kernel

  declr_ready : (own : Names) (next : ℕ) (d : DeclrTree) → AllAre Ready own → AllAre Ready (after_declr own next d)
  declr_ready own next (tree.Plain x) h = declared_are Ready x.name _ own h tt
  declr_ready own next (tree.Init x e) h = declared_are Ready x.name _ own h tt
  declr_ready own next (tree.Array x n) h = declared_are Ready x.name _ own h tt

  declrs_ready : (own : Names) (next : ℕ) (ds : List DeclrTree) → AllAre Ready own → AllAre Ready (after_declrs own next ds)
  declrs_ready own next [] h = h
  declrs_ready own next (d ∷ ds) h = declrs_ready (after_declr own next d) (behind next (declr_cells d)) ds (declr_ready own next d h)

  stmt_ready : (own : Names) (next : ℕ) (x : StmtTree) → AllAre Ready own → AllAre Ready (after_stmt own next x)
  stmt_ready own next (tree.LocalDeclaration v) h = declrs_ready own next v.declrs h
  stmt_ready own next _ h = h

  params_ready : (own : Names) (k : ℕ) (ps : List Param) → AllAre Ready own → AllAre Ready (after_params own k ps)
  params_ready own k [] h = h
  params_ready own k (p ∷ ps) h = params_ready (declared p.name.name (param_decl k p) own) _ ps (declared_are Ready p.name.name (param_decl k p) own h tt)

  -- ---- statements

  module _ (places : List Pos) (file : Names) (file_ready : AllAre Ready file) where
    declr_uses : (own : Names) (next : ℕ) (d : DeclrTree) → AllAre Ready own → declr_breaches file own d ≡ [] → StmtUses (declr_step places file own next d)
    declr_uses own next (tree.Plain x) h e = tt
    declr_uses own next (tree.Init x v) h e =
        let b = none_of_both (expr_breaches true (scope file own) v) (repeated x own) e in
        expr_uses places (scope file own) file_ready h v b.0
    declr_uses own next (tree.Array x m) h e = tt

    declrs_use : (own : Names) (next : ℕ) (ds : List DeclrTree) → AllAre Ready own → declrs_breaches file own next ds ≡ [] → RowUses (declrs_steps places file own next ds)
    declrs_use own next [] h e = tt
    declrs_use own next (d ∷ ds) h e =
        let b = none_of_both (declr_breaches file own d) (declrs_breaches file (after_declr own next d) (behind next (declr_cells d)) ds) e in
        (declr_uses own next d h b.0, declrs_use (after_declr own next d) (behind next (declr_cells d)) ds (declr_ready own next d h) b.1)

    mutual
      stmt_uses : (own : Names) (next : ℕ) (x : StmtTree) → AllAre Ready own → stmt_breaches file own next x ≡ [] → StmtUses (step places file own next x)
      stmt_uses own next (tree.LocalDeclaration v) h e = declrs_use own next v.declrs h e
      stmt_uses own next (tree.Block at ss) h e = stmts_use own next ss h e
      stmt_uses own next (tree.Empty at) h e = tt
      stmt_uses own next (tree.Assign a) h e =
          let b = none_of_both (place_breaches true (scope file own) false a.place) (expr_breaches true (scope file own) a.value) e in
          assigned_uses places (scope file own) file_ready h a a.place b.0 b.1
      stmt_uses own next (tree.If at v x) h e =
          let b = none_of_both (expr_breaches true (scope file own) v) (stmt_breaches file own next x) e in
          (expr_uses places (scope file own) file_ready h v b.0, stmt_uses own next x h b.1, tt)
      stmt_uses own next (tree.IfElse at v x y) h e =
          let b = none_of_both (expr_breaches true (scope file own) v) (stmt_breaches file own next x ++ stmt_breaches file own (behind next (cells x)) y) e in
          let d = none_of_both (stmt_breaches file own next x) (stmt_breaches file own (behind next (cells x)) y) b.1 in
          (expr_uses places (scope file own) file_ready h v b.0, stmt_uses own next x h d.0, stmt_uses own (behind next (cells x)) y h d.1)
      stmt_uses own next (tree.For g x) h e =
          let b = none_of_both (repeated g.name own) (stmt_breaches file (with_counter own next g) (behind next 1) x) e in
          stmt_uses (with_counter own next g) (behind next 1) x (declared_are Ready g.name.name _ own h tt) b.1

      stmts_use : (own : Names) (next : ℕ) (ss : StmtTrees) → AllAre Ready own → stmts_breaches file own next ss ≡ [] → RowUses (steps places file own next ss)
      stmts_use own next tree.NoStmt h e = tt
      stmts_use own next (tree.MoreStmt x xs) h e =
          let b = none_of_both (stmt_breaches file own next x) (stmts_breaches file (after_stmt own next x) (behind next (cells x)) xs) e in
          (stmt_uses own next x h b.0, stmts_use (after_stmt own next x) (behind next (cells x)) xs (stmt_ready own next x h) b.1)

  pub kernel_uses : (places : List Pos) (file : Names) (f : KernelTree) → AllAre Ready file → kernel_breaches file f ≡ [] → StmtUses (kernel places file f).statement
  kernel_uses places file f ready h =
      let b = none_of_both (breach_if (is_heavy f) TooMuchWork f.name.at) (params_breaches [] 0 f.params ++ stmts_breaches file (after_params [] 0 f.params) 0 f.body) h in
      let d = none_of_both (params_breaches [] 0 f.params) (stmts_breaches file (after_params [] 0 f.params) 0 f.body) b.1 in
      stmts_use places file ready (after_params [] 0 f.params) 0 f.body (params_ready [] 0 f.params tt) d.1
