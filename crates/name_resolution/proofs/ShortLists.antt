-- What a source is resolved to has no longer lists than the source has tokens.
use Rattle.std.proofs.Common.{◌≡◌, ℕ, suc, ◌+◌, ◌≤◌, Bool, true, false, List, [], ◌∷◌, ◌++◌, length, is_some, refl, ap, arith, length-append, if◌then◌else◌}
use Rattle.std.proofs.lemmas.List.{length-map}
use Rattle.c_tree.specs.declared.lexer.tokens.Pos.{Pos}
use Rattle.c_tree.specs.declared.lexer.tokens.Sign.TheVariants as sign
use Rattle.c_tree.specs.declared.lexer.tokens.Word.TheVariants as word
use Rattle.c_tree.specs.Signs.{assign_sign_of}
use Rattle.c_tree.specs.declared.kernels.Param.{Param}
use Rattle.c_tree.specs.declared.declarations.AssignOp.{AssignOp}
use Rattle.c_tree.specs.Places.{pos_of}
use Rattle.c_tree.specs.Print as print
use Rattle.c_tree.specs.Print.{Mark}
use Rattle.c_tree.specs.Tree as tree
use Rattle.c_tree.specs.Tree.{DeclrTree, DeclarationTree, AssignmentTree, PlaceTree, StmtTree, StmtTrees, KernelTree, TopTree, ProgramTree}
use Rattle.kernel_model.specs.declared.types.expressions.ElementForm.{ElementForm}
use Rattle.kernel_model.specs.declared.types.kernels.ConstDecl.{ConstDecl}
use Rattle.kernel_model.specs.View.{RExprTree, RKernelTree}
use Rattle.name_resolution.specs.declared.decls.Sort.{Sort}
use Rattle.name_resolution.specs.declared.decls.Sort.TheVariants as sort
use Rattle.name_resolution.specs.declared.decls.Decl.{Decl}
use Rattle.name_resolution.specs.Scopes.{Names, Scope, scope, decl_in, decl_or, means, declared}
use Rattle.name_resolution.specs.Work.{behind, declr_cells, cells}
use Rattle.name_resolution.specs.Kernels.{after_declr, after_stmt, after_params, with_counter, set_element, assigned, declr_step, declrs_steps, step, steps, kernel}
use Rattle.name_resolution.specs.Mains.{declr_name}
use Rattle.name_resolution.specs.Programs.{constant_cells, constant_of, constants, other_decl, variable_decl, with_variable, after_variables, after_top, after_tops, kernels_of, kernels, named_in, file_of, resolved}
use Rattle.name_resolution.proofs.MadeKernels.{rows, Short, ShortAll, ShortKernel, ShortKernels}

-- ---- lengths

le_behind : (n : ℕ) (a b : List Mark) → n ≤ length b → n ≤ length (a ++ b)
le_behind n a b h = let l = length-append a b in omega (arith, h, l)

le_front : (n : ℕ) (a b : List Mark) → n ≤ length a → n ≤ length (a ++ b)
le_front n a b h = let l = length-append a b in omega (arith, h, l)

most_behind : (n : ℕ) (a b : List Mark) → length (a ++ b) ≤ n → length b ≤ n
most_behind n a b h = let l = length-append a b in omega (arith, h, l)

most_front : (n : ℕ) (a b : List Mark) → length (a ++ b) ≤ n → length a ≤ n
most_front n a b h = let l = length-append a b in omega (arith, h, l)

-- ---- what is printed

one_more : (n : ℕ) (a b : List Mark) (m : Mark) → n ≤ length b → suc n ≤ length (a ++ m ∷ b)
one_more n a b m h = let l = length-append a (m ∷ b) in omega (arith, h, l)

declr_some : (k : ℕ) (d : DeclrTree) → 1 ≤ length (print.declr k d)
declr_some k (tree.Plain x) = omega arith
declr_some k (tree.Init x e) = omega arith
declr_some k (tree.Array x n) = omega arith

declrs_marks : (k : ℕ) (ds : List DeclrTree) → length ds ≤ length (print.commas k (print.declrs k ds))
declrs_marks k [] = omega arith
declrs_marks k (d ∷ []) = declr_some k d
declrs_marks k (d ∷ f ∷ ds) = one_more (length (f ∷ ds)) (print.declr k d) (print.commas k (print.declrs k (f ∷ ds))) (print.sign_at k sign.Comma) (declrs_marks k (f ∷ ds))

param_some : (p : Param) → 1 ≤ length (print.param p)
param_some p = le_behind 1 (print.word_if p.is_const 0 word.Const) (print.word_at 0 word.Int ∷ print.sign_at 0 sign.Star ∷ print.ident 0 p.name ∷ []) (omega arith)

params_marks : (ps : List Param) → length ps ≤ length (print.commas 0 (print.params ps))
params_marks [] = omega arith
params_marks (p ∷ []) = param_some p
params_marks (p ∷ q ∷ ps) = one_more (length (q ∷ ps)) (print.param p) (print.commas 0 (print.params (q ∷ ps))) (print.sign_at 0 sign.Comma) (params_marks (q ∷ ps))

-- the marks of a declaration behind its `const`
abbrev vars_end : ℕ → DeclarationTree → List Mark
vars_end k v = print.commas k (print.declrs k v.declrs) ++ print.sign_at k sign.Semicolon ∷ []

vars_marks : (k : ℕ) (v : DeclarationTree) → suc (length v.declrs) ≤ length (print.vars k v)
vars_marks k v =
    let h = le_front (length v.declrs) (print.commas k (print.declrs k v.declrs)) (print.sign_at k sign.Semicolon ∷ []) (declrs_marks k v.declrs) in
    le_behind (suc (length v.declrs)) (print.word_if v.is_const k word.Const) (print.named_word k word.Int v.at ∷ vars_end k v)
    (let g : suc (length v.declrs) ≤ suc (length (vars_end k v)) = omega (arith, h) in g)

assignment_some : (k : ℕ) (a : AssignmentTree) → 1 ≤ length (print.assignment k a)
assignment_some k a =
    le_behind 1 (print.place k a.place) (print.named_sign k (assign_sign_of a.op) a.at ∷ (print.expr (suc k) a.value ++ print.sign_at k sign.Semicolon ∷ [])) (omega arith)

stmt_some : (k : ℕ) (x : StmtTree) → 1 ≤ length (print.stmt k x)
stmt_some k (tree.LocalDeclaration v) = let h = vars_marks k v in omega (arith, h)
stmt_some k (tree.Block at ss) = omega arith
stmt_some k (tree.Empty at) = omega arith
stmt_some k (tree.Assign a) = assignment_some k a
stmt_some k (tree.If at e x) = omega arith
stmt_some k (tree.IfElse at e x y) = omega arith
stmt_some k (tree.For h x) = omega arith

-- ---- statements

module _ (most : ℕ) (places : List Pos) (file : Names) where
  declrs_rows : (own : Names) (next : ℕ) (ds : List DeclrTree) → rows (declrs_steps places file own next ds) ≡ length ds
  declrs_rows own next [] = refl
  declrs_rows own next (d ∷ ds) = ap suc (declrs_rows (after_declr own next d) (behind next (declr_cells d)) ds)

  declr_short : (own : Names) (next : ℕ) (d : DeclrTree) → Short most (declr_step places file own next d)
  declr_short own next (tree.Plain x) = tt
  declr_short own next (tree.Init x e) = tt
  declr_short own next (tree.Array x n) = tt

  declrs_short : (own : Names) (next : ℕ) (ds : List DeclrTree) → ShortAll most (declrs_steps places file own next ds)
  declrs_short own next [] = tt
  declrs_short own next (d ∷ ds) = (declr_short own next d, declrs_short (after_declr own next d) (behind next (declr_cells d)) ds)

  set_short : (d : Decl) (f : ElementForm) (i : RExprTree) (at : Pos) (op : AssignOp) (op_at : Pos) (v : RExprTree) → Short most (set_element d f i at op op_at v)
  set_short d f i at op op_at v = by_sort d.sort refl
    where
      by_sort : (s : Sort) → d.sort ≡ s → Short most (set_element d f i at op op_at v)
      by_sort sort.Param is = rw is tt
      by_sort sort.Extern is = rw is tt
      by_sort sort.ExternArray is = rw is tt
      by_sort sort.Kernel is = rw is tt
      by_sort sort.Set is = rw is tt
      by_sort sort.Map is = rw is tt
      by_sort sort.Dat is = rw is tt
      by_sort sort.Scalar is = rw is tt
      by_sort sort.Array is = rw is tt
      by_sort sort.Counter is = rw is tt

  assigned_short : (s : Scope) (a : AssignmentTree) (p : PlaceTree) → Short most (assigned places s a p)
  assigned_short s a (tree.Scalar x) = tt
  assigned_short s a (tree.Element x e) = set_short (decl_or (means s x.name)) _ _ _ _ _ _
  assigned_short s a (tree.Target at x) = set_short (decl_or (means s x.name)) _ _ _ _ _ _

  steps_rows : (own : Names) (next k : ℕ) (xs : StmtTrees) → rows (steps places file own next xs) ≤ length (print.stmts k xs)
  steps_rows own next k tree.NoStmt = omega arith
  steps_rows own next k (tree.MoreStmt x xs) =
      let h = steps_rows (after_stmt own next x) (behind next (cells x)) k xs in
      let g = stmt_some k x in
      let l = length-append (print.stmt k x) (print.stmts k xs) in
      omega (arith, h, g, l)

  mutual
    step_short : (own : Names) (next k : ℕ) (x : StmtTree) → length (print.stmt k x) ≤ most → Short most (step places file own next x)
    step_short own next k (tree.LocalDeclaration v) h =
        let r = declrs_rows own next v.declrs in
        let m = vars_marks k v in
        (omega (arith, h, r, m), declrs_short own next v.declrs)
    step_short own next k (tree.Block at ss) h =
        let inner : List Mark = print.stmts (suc k) ss ++ print.sign_at k sign.RightBrace ∷ [] in
        let g : length inner ≤ most = let b : suc (length inner) ≤ most = h in omega (arith, b) in
        let f = most_front most (print.stmts (suc k) ss) (print.sign_at k sign.RightBrace ∷ []) g in
        let r = steps_rows own next (suc k) ss in
        (omega (arith, f, r), steps_short own next (suc k) ss f)
    step_short own next k (tree.Empty at) h = (omega arith, tt)
    step_short own next k (tree.Assign a) h = assigned_short (scope file own) a a.place
    step_short own next k (tree.If at e x) h =
        (step_short own next (suc k) x (most_behind most (print.condition k at e) (print.stmt (suc k) x) h), (omega arith, tt))
    step_short own next k (tree.IfElse at e x y) h =
        let tail : List Mark = print.word_at k word.Else ∷ print.stmt (suc k) y in
        let both = most_behind most (print.condition k at e) (print.stmt (suc k) x ++ tail) h in
        let one = most_front most (print.stmt (suc k) x) tail both in
        let other : suc (length (print.stmt (suc k) y)) ≤ most = most_behind most (print.stmt (suc k) x) tail both in
        (step_short own next (suc k) x one, step_short own (behind next (cells x)) (suc k) y (omega (arith, other)))
    step_short own next k (tree.For c x) h =
        step_short (with_counter own next c) (behind next 1) (suc k) x (most_behind most (print.counter k c) (print.stmt (suc k) x) h)

    steps_short : (own : Names) (next k : ℕ) (xs : StmtTrees) → length (print.stmts k xs) ≤ most → ShortAll most (steps places file own next xs)
    steps_short own next k tree.NoStmt h = tt
    steps_short own next k (tree.MoreStmt x xs) h = (
      step_short own next k x (most_front most (print.stmt k x) (print.stmts k xs) h),
      steps_short (after_stmt own next x) (behind next (cells x)) k xs (most_behind most (print.stmt k x) (print.stmts k xs) h),
    )

-- ---- kernels

abbrev body_end : KernelTree → List Mark
body_end f = print.stmts 1 f.body ++ print.sign_at 0 sign.RightBrace ∷ []

abbrev behind_params : KernelTree → List Mark
behind_params f = print.sign_at 0 sign.RightParen ∷ print.sign_at 0 sign.LeftBrace ∷ body_end f

abbrev from_params : KernelTree → List Mark
from_params f = print.commas 0 (print.params f.params) ++ behind_params f

abbrev from_void : KernelTree → List Mark
from_void f = print.word_at 0 word.Void ∷ print.ident 0 f.name ∷ print.sign_at 0 sign.LeftParen ∷ from_params f

kernel_marks : (f : KernelTree) → suc (suc (suc (length (from_params f)))) ≤ length (print.kernel f)
kernel_marks f =
    le_behind (suc (suc (suc (length (from_params f))))) (print.word_if f.is_static 0 word.Static) (print.word_if f.is_inline 0 word.Inline ++ from_void f)
    (le_behind (suc (suc (suc (length (from_params f))))) (print.word_if f.is_inline 0 word.Inline) (from_void f)
    (let h : suc (suc (suc (length (from_params f)))) ≤ length (from_void f) = omega arith in h))

top_some : (t : TopTree) → 1 ≤ length (print.top t)
top_some (tree.Extern x) = omega arith
top_some (tree.ExternArray x) = omega arith
top_some (tree.FileDeclaration v) = let h = vars_marks 1 v in omega (arith, h)
top_some (tree.Kernel f) = let h = kernel_marks f in omega (arith, h)

kernels_append : (most : ℕ) (a b : List RKernelTree) → ShortKernels most a → ShortKernels most b → ShortKernels most (a ++ b)
kernels_append most [] b h k = k
kernels_append most (x ∷ a) b h k = (h.0, kernels_append most a b h.1 k)

module _ (most : ℕ) (named : List (List ℕ)) (places : List Pos) where
  kernel_short : (file : Names) (f : KernelTree) → length (print.kernel f) ≤ most → ShortKernel most (kernel places file f)
  kernel_short file f h =
      let m = kernel_marks f in
      let params : length (from_params f) ≤ most = omega (arith, h, m) in
      let front = most_front most (print.commas 0 (print.params f.params)) (behind_params f) params in
      let tail : suc (suc (length (body_end f))) ≤ most = most_behind most (print.commas 0 (print.params f.params)) (behind_params f) params in
      let whole : length (body_end f) ≤ most = omega (arith, tail) in
      let body = most_front most (print.stmts 1 f.body) (print.sign_at 0 sign.RightBrace ∷ []) whole in
      let few = params_marks f.params in
      let long = length-map f.params (λ p. pos_of places p.name.at) in
      let r = steps_rows most places file (after_params [] 0 f.params) 0 1 f.body in
      (omega (arith, few, front, long), (omega (arith, r, body), steps_short most places file (after_params [] 0 f.params) 0 1 f.body body))

  top_short : (file : Names) (t : TopTree) → length (print.top t) ≤ most → ShortKernels most (kernels_of named places file t) × (length (kernels_of named places file t) ≤ 1)
  top_short file (tree.Extern x) h = (tt, omega arith)
  top_short file (tree.ExternArray x) h = (tt, omega arith)
  top_short file (tree.FileDeclaration v) h = (tt, omega arith)
  top_short file (tree.Kernel f) h = ((kernel_short (after_top named file (tree.Kernel f)) f h, tt), omega arith)

  tops_short : (file : Names) (ts : List TopTree) → length (print.tops ts) ≤ most → ShortKernels most (kernels named places file ts) × (length (kernels named places file ts) ≤ length (print.tops ts))
  tops_short file [] h = (tt, omega arith)
  tops_short file (t ∷ ts) h =
      let a = top_short file t (most_front most (print.top t) (print.tops ts) h) in
      let b = tops_short (after_top named file t) ts (most_behind most (print.top t) (print.tops ts) h) in
      let some = top_some t in
      let marks = length-append (print.top t) (print.tops ts) in
      let both = length-append (kernels_of named places file t) (kernels named places (after_top named file t) ts) in
      let one = a.1 in
      let more = b.1 in
      (kernels_append most (kernels_of named places file t) (kernels named places (after_top named file t) ts) a.0 b.0, omega (arith, some, marks, both, one, more))

-- ---- constants

declared_few : (x : List ℕ) (d : Decl) (names : Names) → length (declared x d names) ≤ suc (length names)
declared_few x d names = pick (is_some (decl_in names x))
  where
    pick : (b : Bool) → length (if b then names else (names ++ (x, d) ∷ [])) ≤ suc (length names)
    pick true = omega arith
    pick false = let l = length-append names ((x, d) ∷ []) in omega (arith, l)

module _ (named : List (List ℕ)) where
  variables_few : (c : Bool) (file : Names) (ds : List DeclrTree) → length (after_variables named c file ds) ≤ length file + length ds
  variables_few c file [] = omega arith
  variables_few c file (d ∷ ds) =
      let h = variables_few c (with_variable named c file d) ds in
      let g = declared_few (declr_name d).name (variable_decl named c (constant_cells file) d) file in
      omega (arith, h, g)

  top_few : (file : Names) (t : TopTree) → length (after_top named file t) ≤ length file + length (print.top t)
  top_few file (tree.Extern x) = let h = declared_few x.name (other_decl sort.Extern x.at) file in omega (arith, h)
  top_few file (tree.ExternArray x) = let h = declared_few x.name (other_decl sort.ExternArray x.at) file in omega (arith, h)
  top_few file (tree.FileDeclaration v) =
      let h = variables_few v.is_const file v.declrs in
      let g = vars_marks 1 v in
      omega (arith, h, g)
  top_few file (tree.Kernel f) =
      let h = declared_few f.name.name (other_decl sort.Kernel f.name.at) file in
      let g = kernel_marks f in
      omega (arith, h, g)

  tops_few : (file : Names) (ts : List TopTree) → length (after_tops named file ts) ≤ length file + length (print.tops ts)
  tops_few file [] = omega arith
  tops_few file (t ∷ ts) =
      let h = tops_few (after_top named file t) ts in
      let g = top_few file t in
      let l = length-append (print.top t) (print.tops ts) in
      omega (arith, h, g, l)

constant_few : (x : List ℕ) (d : Decl) → length (constant_of x d) ≤ 1
constant_few x d = pick d.is_constant
  where
    pick : (b : Bool) → length (if b then (let c : ConstDecl = record { name = x; from = d.from; count = d.count } in c) ∷ [] else []) ≤ 1
    pick true = omega arith
    pick false = omega arith

constants_few : (ns : Names) → length (constants ns) ≤ length ns
constants_few [] = omega arith
constants_few (n ∷ ns) =
    let h = constants_few ns in
    let g = constant_few n.0 n.1 in
    let l = length-append (constant_of n.0 n.1) (constants ns) in
    omega (arith, h, g, l)

-- ---- the whole

-- the lists of what a source is resolved to
pub record IsShort (most : ℕ) (p : ProgramTree) : Type 0 where
  pub kernels : ShortKernels most (resolved p).kernels
  pub few_kernels : length (resolved p).kernels ≤ most
  pub few_consts : length (resolved p).consts ≤ most

pub is_short : (most : ℕ) (p : ProgramTree) → length (print.program p) ≤ most → IsShort most p
is_short most p h =
    let tops = most_front most (print.tops p.tops) (print.main p.main) h in
    let k = tops_short most (named_in p) p.places [] p.tops tops in
    let few = k.1 in
    let c = constants_few (file_of p) in
    let n = tops_few (named_in p) [] p.tops in
    record { kernels = k.0; few_kernels = omega (arith, few, tops); few_consts = omega (arith, c, n, tops) }
