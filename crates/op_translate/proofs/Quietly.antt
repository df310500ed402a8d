-- What a tree prints beside its loop calls has no `op_par_loop`.
use Rattle.std.proofs.Common.{◌≡◌, ℕ, suc, Bool, true, false, cond, List, [], ◌∷◌, ◌++◌, Option, Some, None, refl, ap, ◌∙◌}
use Rattle.c_tree.specs.declared.expressions.MinMax.{MinMax}
use Rattle.c_tree.specs.declared.expressions.MinMax.TheVariants as min_max
use Rattle.c_tree.specs.declared.expressions.NumberLiteral.{NumberLiteral}
use Rattle.c_tree.specs.declared.hosts.AccessWord.{AccessWord}
use Rattle.c_tree.specs.declared.hosts.AccessWord.TheVariants as access
use Rattle.c_tree.specs.declared.hosts.GlobalName.{GlobalName}
use Rattle.c_tree.specs.declared.hosts.ArgIndex.{ArgIndex}
use Rattle.c_tree.specs.declared.hosts.ArgVia.{ArgVia}
use Rattle.c_tree.specs.declared.hosts.ArgVia.TheVariants as via
use Rattle.c_tree.specs.declared.hosts.LoopArg.{LoopArg}
use Rattle.c_tree.specs.declared.hosts.LoopArg.TheVariants as arg
use Rattle.c_tree.specs.declared.kernels.Param.{Param}
use Rattle.c_tree.specs.declared.lexer.tokens.Kind.TheVariants as kind
use Rattle.c_tree.specs.declared.lexer.tokens.Word.{Word}
use Rattle.c_tree.specs.Signs.{min_max_word_of, access_word_of}
use Rattle.c_tree.specs.Tree.{ExprTree, Number, Name, Index, Deref, Unary, Binary, Choice, Paren, Extremum, Absolute, DeclrTree, Plain, Init, Array, DeclarationTree, PlaceTree, Scalar, Element, Target, AssignmentTree, StmtTree, LocalDeclaration, Block, Empty, Assign, If, IfElse, For, StmtTrees, NoStmt, MoreStmt, KernelTree, TopTree, Extern, ExternArray, FileDeclaration, Kernel, HostForHeaderTree}
use Rattle.c_tree.specs.Print.{Mark, expr, commas, declr, declrs, word_if, vars, place, assignment, condition, stmt, stmts, param, params, kernel, top, tops, glob, host_counter, arg_index, via_mark, argument, arguments, values, argv_marks, return_marks}
use Rattle.op_translate.proofs.Quiet.{is_loop}

-- whether no `op_par_loop` stands in marks, nor behind them
abbrev pub quiet : List Mark → Bool → Bool
quiet [] b = b
quiet (m ∷ ms) b = cond (is_loop m.kind) false (quiet ms b)

pub quiet-append : (xs ys : List Mark) (b : Bool) → quiet (xs ++ ys) b ≡ quiet xs (quiet ys b)
quiet-append [] ys b = refl
quiet-append (x ∷ xs) ys b = ap (λ z. cond (is_loop x.kind) false z) (quiet-append xs ys b)

extremum_quiet : (w : MinMax) → is_loop (kind.Word (min_max_word_of w)) ≡ false
extremum_quiet min_max.Min = refl
extremum_quiet min_max.Max = refl

access_quiet : (a : AccessWord) → is_loop (kind.Word (access_word_of a)) ≡ false
access_quiet access.Read = refl
access_quiet _ = refl

pub expr_quiet : (k : ℕ) (e : ExprTree) (b : Bool) → quiet (expr k e) b ≡ b
expr_quiet k (Number n) b = refl
expr_quiet k (Name x) b = refl
expr_quiet k (Index x e) b = rw (quiet-append, expr_quiet (suc k) e) refl
expr_quiet k (Deref at x) b = refl
expr_quiet k (Unary op at e) b = rw (expr_quiet (suc k) e) refl
expr_quiet k (Binary op at l r) b = rw (quiet-append, expr_quiet k l, expr_quiet (suc k) r) refl
expr_quiet k (Choice at c y n) b = rw (quiet-append, quiet-append, expr_quiet k c, expr_quiet (suc k) y, expr_quiet (suc k) n) refl
expr_quiet k (Paren at e) b = rw (quiet-append, expr_quiet (suc k) e) refl
expr_quiet k (Extremum w at x y) b = rw (extremum_quiet w, quiet-append, quiet-append, expr_quiet (suc k) x, expr_quiet (suc k) y) refl
expr_quiet k (Absolute at e) b = rw (quiet-append, expr_quiet (suc k) e) refl

word_if_quiet : (t : Bool) (k : ℕ) (w : Word) (b : Bool) → is_loop (kind.Word w) ≡ false → quiet (word_if t k w) b ≡ b
word_if_quiet true k w b h = ap (λ z. cond z false b) h
word_if_quiet false k w b h = refl

declr_quiet : (k : ℕ) (d : DeclrTree) (b : Bool) → quiet (declr k d) b ≡ b
declr_quiet k (Plain x) b = refl
declr_quiet k (Init x e) b = rw (expr_quiet (suc k) e) refl
declr_quiet k (Array x n) b = refl

declrs_quiet : (k : ℕ) (ds : List DeclrTree) (b : Bool) → quiet (commas k (declrs k ds)) b ≡ b
declrs_quiet k [] b = refl
declrs_quiet k (d ∷ []) b = declr_quiet k d b
declrs_quiet k (d ∷ e ∷ ds) b = quiet-append (declr k d) _ b ∙ (declr_quiet k d _ ∙ declrs_quiet k (e ∷ ds) b)

pub vars_quiet : (k : ℕ) (v : DeclarationTree) (b : Bool) → quiet (vars k v) b ≡ b
vars_quiet k v b =
    quiet-append (word_if v.is_const k _) _ b
    ∙ (word_if_quiet v.is_const k _ _ refl ∙ (quiet-append (commas k (declrs k v.declrs)) _ b ∙ declrs_quiet k v.declrs _))

place_quiet : (k : ℕ) (p : PlaceTree) (b : Bool) → quiet (place k p) b ≡ b
place_quiet k (Scalar x) b = refl
place_quiet k (Element x e) b = rw (quiet-append, expr_quiet (suc k) e) refl
place_quiet k (Target at x) b = refl

pub assignment_quiet : (k : ℕ) (a : AssignmentTree) (b : Bool) → quiet (assignment k a) b ≡ b
assignment_quiet k a b = rw (quiet-append, place_quiet k a.place, quiet-append, expr_quiet (suc k) a.value) refl

pub condition_quiet : (k at : ℕ) (e : ExprTree) (b : Bool) → quiet (condition k at e) b ≡ b
condition_quiet k at e b = rw (quiet-append, expr_quiet (suc k) e) refl

mutual
  stmt_quiet : (k : ℕ) (s : StmtTree) (b : Bool) → quiet (stmt k s) b ≡ b
  stmt_quiet k (LocalDeclaration v) b = vars_quiet k v b
  stmt_quiet k (Block at ss) b = rw (quiet-append, stmts_quiet (suc k) ss) refl
  stmt_quiet k (Empty at) b = refl
  stmt_quiet k (Assign a) b = assignment_quiet k a b
  stmt_quiet k (If at e s) b = quiet-append (condition k at e) _ b ∙ (condition_quiet k at e _ ∙ stmt_quiet (suc k) s b)
  stmt_quiet k (IfElse at e s t) b =
      quiet-append (condition k at e) _ b ∙ (condition_quiet k at e _ ∙ rw (quiet-append, stmt_quiet (suc k) s, stmt_quiet (suc k) t) refl)
  stmt_quiet k (For c s) b = stmt_quiet (suc k) s b

  stmts_quiet : (k : ℕ) (ss : StmtTrees) (b : Bool) → quiet (stmts k ss) b ≡ b
  stmts_quiet k NoStmt b = refl
  stmts_quiet k (MoreStmt s ss) b = rw (quiet-append, stmt_quiet k s, stmts_quiet k ss) refl

param_quiet : (p : Param) (b : Bool) → quiet (param p) b ≡ b
param_quiet p b = quiet-append (word_if p.is_const 0 _) _ b ∙ word_if_quiet p.is_const 0 _ _ refl

params_quiet : (ps : List Param) (b : Bool) → quiet (commas 0 (params ps)) b ≡ b
params_quiet [] b = refl
params_quiet (p ∷ []) b = param_quiet p b
params_quiet (p ∷ q ∷ ps) b = quiet-append (param p) _ b ∙ (param_quiet p _ ∙ params_quiet (q ∷ ps) b)

kernel_quiet : (f : KernelTree) (b : Bool) → quiet (kernel f) b ≡ b
kernel_quiet f b =
    quiet-append (word_if f.is_static 0 _) _ b
    ∙ (word_if_quiet f.is_static 0 _ _ refl
    ∙ (quiet-append (word_if f.is_inline 0 _) _ b
    ∙ (word_if_quiet f.is_inline 0 _ _ refl
    ∙ (quiet-append (commas 0 (params f.params)) _ b ∙ (params_quiet f.params _ ∙ (quiet-append (stmts 1 f.body) _ b ∙ stmts_quiet 1 f.body _))))))

top_quiet : (t : TopTree) (b : Bool) → quiet (top t) b ≡ b
top_quiet (Extern x) b = refl
top_quiet (ExternArray x) b = refl
top_quiet (FileDeclaration v) b = vars_quiet 1 v b
top_quiet (Kernel f) b = kernel_quiet f b

pub tops_quiet : (ts : List TopTree) (b : Bool) → quiet (tops ts) b ≡ b
tops_quiet [] b = refl
tops_quiet (t ∷ ts) b = rw (quiet-append, top_quiet t, tops_quiet ts) refl

-- ---- `main`

pub header_quiet : (k : ℕ) (c : HostForHeaderTree) (b : Bool) → quiet (host_counter k c) b ≡ b
header_quiet k c b = rw (quiet-append, expr_quiet (suc k) c.from, quiet-append, expr_quiet (suc k) c.to) refl

pub global_quiet : (k : ℕ) (g : GlobalName) (b : Bool) → quiet (glob k g) b ≡ b
global_quiet k g b =
    let of : Option ℕ → GlobalName = λ a. record { ampersand = a; name = g.name } in
    elim g.ampersand as (λ a. quiet (glob k (of a)) b ≡ b) [ None ↦ refl | Some at ↦ refl ]

index_quiet : (k : ℕ) (i : ArgIndex) (b : Bool) → quiet (arg_index k i) b ≡ b
index_quiet k i b =
    let of : Bool → ArgIndex = λ t. record { is_negative = t; at = i.at; value = i.value } in
    elim i.is_negative as (λ t. quiet (arg_index k (of t)) b ≡ b) [ true ↦ refl | false ↦ refl ]

via_quiet : (k : ℕ) (v : ArgVia) → is_loop (via_mark k v).kind ≡ false
via_quiet k (via.Map x) = refl
via_quiet k (via.Identity at) = refl

argument_quiet : (k : ℕ) (a : LoopArg) (b : Bool) → quiet (argument k a) b ≡ b
argument_quiet k (arg.Dat at dat index through dim text a access_at) b = rw (quiet-append, index_quiet k index, via_quiet k through, access_quiet a) refl
argument_quiet k (arg.Global at g dim text a access_at) b = rw (quiet-append, global_quiet k g, access_quiet a) refl

pub arguments_quiet : (k : ℕ) (xs : List LoopArg) (b : Bool) → quiet (arguments k xs) b ≡ b
arguments_quiet k [] b = refl
arguments_quiet k (a ∷ xs) b = rw (quiet-append, argument_quiet k a, arguments_quiet k xs) refl

pub values_quiet : (k : ℕ) (es : List ExprTree) (b : Bool) → quiet (values k es) b ≡ b
values_quiet k [] b = refl
values_quiet k (e ∷ es) b = rw (quiet-append, expr_quiet (suc k) e, values_quiet k es) refl

pub argv_quiet : (t b : Bool) → quiet (argv_marks t) b ≡ b
argv_quiet true b = refl
argv_quiet false b = refl

pub return_quiet : (n : Option NumberLiteral) (b : Bool) → quiet (return_marks n) b ≡ b
return_quiet None b = refl
return_quiet (Some n) b = refl
