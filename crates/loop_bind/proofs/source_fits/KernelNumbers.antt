-- The numbers of the kernels of a source that was read are of 32 bits.
use Rattle.std.proofs.Common.{ℕ, suc, pos, negsuc, ◌<◌, ◌^◌, Bool, true, false, List, [], ◌∷◌, ◌++◌, ℤ, arith}
use Rattle.std.specs.Prelude.{FitsSigned}
use Rattle.std.specs.Int.{w32}
use Rattle.c_tree.specs.declared.lexer.tokens.Pos.{Pos}
use Rattle.c_tree.specs.declared.lexer.tokens.Sign.TheVariants as sign
use Rattle.c_tree.specs.declared.lexer.tokens.Word.TheVariants as word
use Rattle.c_tree.specs.declared.declarations.AssignOp.{AssignOp}
use Rattle.c_tree.specs.Places.{pos_of}
use Rattle.c_tree.specs.Print as print
use Rattle.c_tree.specs.Print.{sign_at, word_at, named_word, ident, word_if, commas, condition, stmt, stmts, params, top, tops, main}
use Rattle.c_tree.specs.Reads.{Reads}
use Rattle.c_tree.specs.Tree as tree
use Rattle.c_tree.specs.Tree.{ExprTree, DeclrTree, DeclarationTree, PlaceTree, AssignmentTree, StmtTree, StmtTrees, KernelTree, TopTree, ProgramTree}
use Rattle.kernel_model.specs.declared.types.expressions.ElementForm.{ElementForm}
use Rattle.kernel_model.specs.declared.types.expressions.ElementForm.TheVariants as form
use Rattle.kernel_model.specs.View.{RExprTree, Number}
use Rattle.name_resolution.specs.declared.decls.Sort.{Sort}
use Rattle.name_resolution.specs.declared.decls.Sort.TheVariants as sort
use Rattle.name_resolution.specs.declared.decls.Decl.{Decl}
use Rattle.name_resolution.specs.Numbers.{ExprFits, StmtFits, RowFits, KernelsFit}
use Rattle.name_resolution.specs.Scopes.{Names, Scope, scope, means, decl_or}
use Rattle.name_resolution.specs.Work.{nat_of, declr_cells, cells, behind}
use Rattle.name_resolution.specs.Kernels.{element, single, value, set_element, assigned, after_declr, after_stmt, with_counter, after_params, declr_step, declrs_steps, step, steps, kernel}
use Rattle.name_resolution.specs.Programs.{after_top, kernels_of, kernels, named_in, resolved}
use Rattle.name_resolution.proofs.Public.{mk}
use Rattle.loop_bind.specs.Sources.{HasNumbers, PlaceIsRead}
use Rattle.loop_bind.proofs.source_fits.Marks.{MarksFit, marks_fit, front, back, expr_fits, assignment_read, condition_read}

below : (z : ℤ) → FitsSigned w32 z → nat_of z < 2 ^ 31
below (pos n) h = omega (arith, h.sfits)
below (negsuc n) h = omega arith

zero_fits : FitsSigned w32 (pos 0)
zero_fits = record { sfits = omega arith }

-- ---- uses of names

single_as : (at : ℕ) (s : Sort) (c f k : Bool) (from count : ℕ) → ExprFits (single (mk at s c f k from count))
single_as at s c true k from count = tt
single_as at s c false k from count = tt

single_fits : (d : Decl) → ExprFits (single d)
single_fits d = single_as d.at d.sort d.is_const d.of_file d.is_constant d.from d.count

element_as : (at : ℕ) (s : Sort) (c f k : Bool) (from count : ℕ) (form : ElementForm) (i : RExprTree) (q : Pos) → ExprFits i → ExprFits (element (mk at s c f k from count) form i q)
element_as at sort.Param c f k from count form i q h = h
element_as at s c true k from count form i q h = h
element_as at s c false k from count form i q h = h

element_fits : (d : Decl) (form : ElementForm) (i : RExprTree) (q : Pos) → ExprFits i → ExprFits (element d form i q)
element_fits d form i q h = element_as d.at d.sort d.is_const d.of_file d.is_constant d.from d.count form i q h

set_as : (at : ℕ) (s : Sort) (c f k : Bool) (from count : ℕ) (form : ElementForm) (i : RExprTree) (q : Pos) (op : AssignOp) (op_at : Pos)
    (v : RExprTree) → ExprFits i → ExprFits v → StmtFits (set_element (mk at s c f k from count) form i q op op_at v)
set_as at sort.Param c f k from count form i q op op_at v h w = (h, w)
set_as at s c f k from count form i q op op_at v h w = (h, w)

set_fits : (d : Decl) (form : ElementForm) (i : RExprTree) (q : Pos) (op : AssignOp) (op_at : Pos) (v : RExprTree) → ExprFits i → ExprFits v → StmtFits (set_element d form i q op op_at v)
set_fits d form i q op op_at v h w = set_as d.at d.sort d.is_const d.of_file d.is_constant d.from d.count form i q op op_at v h w

-- ---- expressions and assignments

module _ (places : List Pos) (s : Scope) where
  value_fits : (e : ExprTree) → HasNumbers e → ExprFits (value places s e)
  value_fits (tree.Number n) h = h
  value_fits (tree.Name x) h = single_fits (decl_or (means s x.name))
  value_fits (tree.Index x e) h = element_fits (decl_or (means s x.name)) form.Index (value places s e) (pos_of places x.at) (value_fits e h)
  value_fits (tree.Deref at x) h = element_fits (decl_or (means s x.name)) form.Deref (Number (pos 0)) (pos_of places x.at) zero_fits
  value_fits (tree.Unary op at e) h = value_fits e h
  value_fits (tree.Binary op at l r) h = (value_fits l h.0, value_fits r h.1)
  value_fits (tree.Choice at q y n) h = (value_fits q h.0, value_fits y h.1, value_fits n h.2)
  value_fits (tree.Paren at e) h = value_fits e h
  value_fits (tree.Extremum w at l r) h = (value_fits l h.0, value_fits r h.1)
  value_fits (tree.Absolute at e) h = value_fits e h

  assigned_fits : (a : AssignmentTree) (x : PlaceTree) → PlaceIsRead x → HasNumbers a.value → StmtFits (assigned places s a x)
  assigned_fits a (tree.Scalar x) h v = value_fits a.value v
  assigned_fits a (tree.Element x e) h v =
      set_fits (decl_or (means s x.name)) form.Index (value places s e) (pos_of places x.at) a.op (pos_of places a.at) (value places s a.value) (value_fits e h) (value_fits a.value v)
  assigned_fits a (tree.Target at x) h v =
      set_fits (decl_or (means s x.name)) form.Deref (Number (pos 0)) (pos_of places x.at) a.op (pos_of places a.at) (value places s a.value) zero_fits (value_fits a.value v)

-- ---- statements

module _ (places : List Pos) (file : Names) where
  declr_fits : (k : ℕ) (own : Names) (next : ℕ) (d : DeclrTree) → MarksFit (print.declr k d) → StmtFits (declr_step places file own next d)
  declr_fits k own next (tree.Plain x) h = tt
  declr_fits k own next (tree.Init x v) h = value_fits places (scope file own) v (expr_fits (suc k) v h.1.1)
  declr_fits k own next (tree.Array x n) h = tt

  declrs_fit : (k : ℕ) (own : Names) (next : ℕ) (ds : List DeclrTree) → MarksFit (commas k (print.declrs k ds)) → RowFits (declrs_steps places file own next ds)
  declrs_fit k own next [] h = tt
  declrs_fit k own next (d ∷ []) h = (declr_fits k own next d h, tt)
  declrs_fit k own next (d ∷ c ∷ ds) h =
      let rest = sign_at k sign.Comma ∷ commas k (print.declrs k (c ∷ ds)) in
      (declr_fits k own next d (front (print.declr k d) rest h), declrs_fit k (after_declr own next d) (behind next (declr_cells d)) (c ∷ ds) (back (print.declr k d) rest h).1)

  vars_fit : (k : ℕ) (own : Names) (next : ℕ) (v : DeclarationTree) → MarksFit (print.vars k v) → RowFits (declrs_steps places file own next v.declrs)
  vars_fit k own next v h =
      let last = sign_at k sign.Semicolon ∷ [] in
      let rest = named_word k word.Int v.at ∷ (commas k (print.declrs k v.declrs) ++ last) in
      declrs_fit k own next v.declrs (front (commas k (print.declrs k v.declrs)) last (back (word_if v.is_const k word.Const) rest h).1)

  mutual
    stmt_fits : (k : ℕ) (own : Names) (next : ℕ) (x : StmtTree) → MarksFit (stmt k x) → StmtFits (step places file own next x)
    stmt_fits k own next (tree.LocalDeclaration v) h = vars_fit k own next v h
    stmt_fits k own next (tree.Block at ss) h = stmts_fit (suc k) own next ss (front (stmts (suc k) ss) (sign_at k sign.RightBrace ∷ []) h.1)
    stmt_fits k own next (tree.Empty at) h = tt
    stmt_fits k own next (tree.Assign a) h = let r = assignment_read k a h in assigned_fits places (scope file own) a a.place r.0 r.1
    stmt_fits k own next (tree.If at c x) h =
        let rest = stmt (suc k) x in
        (value_fits places (scope file own) c (condition_read k at c (front (condition k at c) rest h)), stmt_fits (suc k) own next x (back (condition k at c) rest h), tt)
    stmt_fits k own next (tree.IfElse at c x y) h =
        let last = word_at k word.Else ∷ stmt (suc k) y in
        let rest = stmt (suc k) x ++ last in
        let m = back (condition k at c) rest h in (
          value_fits places (scope file own) c (condition_read k at c (front (condition k at c) rest h)),
          stmt_fits (suc k) own next x (front (stmt (suc k) x) last m),
          stmt_fits (suc k) own (behind next (cells x)) y (back (stmt (suc k) x) last m).1,
        )
    stmt_fits k own next (tree.For g x) h =
        (below g.to.value h.1.1.1.1.1.1.1.1.1.0, stmt_fits (suc k) (with_counter own next g) (behind next 1) x (back (print.counter k g) (stmt (suc k) x) h))

    stmts_fit : (k : ℕ) (own : Names) (next : ℕ) (xs : StmtTrees) → MarksFit (stmts k xs) → RowFits (steps places file own next xs)
    stmts_fit k own next tree.NoStmt h = tt
    stmts_fit k own next (tree.MoreStmt x xs) h =
        (stmt_fits k own next x (front (stmt k x) (stmts k xs) h), stmts_fit k (after_stmt own next x) (behind next (cells x)) xs (back (stmt k x) (stmts k xs) h))

-- ---- kernels

kernel_fits : (places : List Pos) (file : Names) (f : KernelTree) → MarksFit (print.kernel f) → StmtFits (kernel places file f).statement
kernel_fits places file f h =
    let last = sign_at 0 sign.RightBrace ∷ [] in
    let block = sign_at 0 sign.RightParen ∷ sign_at 0 sign.LeftBrace ∷ (stmts 1 f.body ++ last) in
    let head = word_at 0 word.Void ∷ ident 0 f.name ∷ sign_at 0 sign.LeftParen ∷ (commas 0 (params f.params) ++ block) in
    let inlined = word_if f.is_inline 0 word.Inline ++ head in
    let m = back (word_if f.is_inline 0 word.Inline) head (back (word_if f.is_static 0 word.Static) inlined h) in
    stmts_fit places file 1 (after_params [] 0 f.params) 0 f.body (front (stmts 1 f.body) last (back (commas 0 (params f.params)) block m.1.1.1).1.1)

module _ (named : List (List ℕ)) (places : List Pos) where
  kernels_fit : (file : Names) (ts : List TopTree) → MarksFit (tops ts) → KernelsFit (kernels named places file ts)
  kernels_fit file [] h = tt
  kernels_fit file (t ∷ ts) h = by t (front (top t) (tops ts) h) (kernels_fit (after_top named file t) ts (back (top t) (tops ts) h))
    where
      by : (t : TopTree) → MarksFit (top t) → KernelsFit (kernels named places (after_top named file t) ts)
          → KernelsFit (kernels_of named places file t ++ kernels named places (after_top named file t) ts)
      by (tree.Extern x) h rest = rest
      by (tree.ExternArray x) h rest = rest
      by (tree.FileDeclaration v) h rest = rest
      by (tree.Kernel f) h rest = (kernel_fits places (after_top named file (tree.Kernel f)) f h, rest)

pub numbers_fit : (source : List ℕ) (p : ProgramTree) → Reads source p → KernelsFit (resolved p).kernels
numbers_fit source p reads = kernels_fit (named_in p) p.places [] p.tops (front (tops p.tops) (main p.main) (marks_fit source p reads))
