-- Kernels of a source that breaks no rule read cells of single constants.
use Rattle.std.proofs.Common.{◌≡◌, ℕ, Bool, true, false, List, [], ◌∷◌, ◌++◌, map, refl, sym, subst, arith, inl, inr, if◌then◌else◌}
use Rattle.std.specs.Prelude.{All}
use Rattle.std.proofs.lemmas.List.Elements.{All-nil, All-cons}
use Rattle.c_tree.specs.declared.lexer.tokens.Pos.{Pos}
use Rattle.c_tree.specs.Tree as tree
use Rattle.c_tree.specs.Tree.{DeclrTree, TopTree, ProgramTree}
use Rattle.kernel_model.specs.declared.types.expressions.RExpr.{RExpr}
use Rattle.kernel_model.specs.declared.types.expressions.RExpr.TheVariants as e
use Rattle.kernel_model.specs.declared.types.statements.RStmt.{RStmt, Row_of-RStmt, end_of-RStmt, more_of-RStmt}
use Rattle.kernel_model.specs.declared.types.statements.RStmt.TheVariants as s
use Rattle.kernel_model.specs.declared.types.kernels.RKernel.{RKernel}
use Rattle.kernel_model.specs.declared.types.kernels.ConstDecl.{ConstDecl}
use Rattle.kernel_model.specs.View.{RKernelTree, rexpr_of, rstmt_of, rstmts_of_row, rkernel_of}
use Rattle.name_resolution.specs.declared.decls.Sort.{Sort}
use Rattle.name_resolution.specs.declared.decls.Sort.TheVariants as sort
use Rattle.name_resolution.specs.declared.decls.Decl.{Decl}
use Rattle.name_resolution.specs.Scopes.{Names, repeated}
use Rattle.name_resolution.specs.Kernels.{kernel_breaches}
use Rattle.name_resolution.specs.Mains.{declr_name, hosts_breaches}
use Rattle.name_resolution.specs.Programs.{constant_cells, constants, other_decl, variable_decl, after_top, after_tops, top_breaches, tops_breaches, kernels_of, kernels, named_in, file_of, breaches}
use Rattle.name_resolution.proofs.Public.{AllAre, declared_are, all_as, none_of_both}
use Rattle.bound_program.specs.Fits.{NamesConstants, UsesConstants, RowUsesConstants}
use Rattle.loop_bind.specs.FileVariables.{AreOfOne}
use Rattle.loop_bind.proofs.source_fits.Kept.{IsOther, tops_keep, before_tops}
use Rattle.loop_bind.proofs.source_fits.Uses.{ExprUses, StmtUses, RowUses, ReadyAs, Ready, kernel_uses}

-- ---- kernels where they lie in memory

module _ (there : (from count : ℕ) → Type 0) where
  names_constants : (x : RExpr) → ExprUses there (rexpr_of x) → NamesConstants there x
  names_constants (e.Number m) h = tt
  names_constants (e.Scalar k) h = tt
  names_constants (e.Constant k) h = h
  names_constants (e.Arg' a f q i at) h = names_constants i h
  names_constants (e.Local' from count f q i at) h = names_constants i h
  names_constants (e.Const' from count f q i at) h = (h.0, names_constants i h.1)
  names_constants (e.Unary' op q a) h = names_constants a h
  names_constants (e.Binary' op q a r b at) h = (names_constants a h.0, names_constants b h.1)
  names_constants (e.Choice' q x r a t b) h = (names_constants x h.0, names_constants a h.1, names_constants b h.2)
  names_constants (e.Paren' q a) h = names_constants a h
  names_constants (e.Extremum' which q a r b) h = (names_constants a h.0, names_constants b h.1)
  names_constants (e.Absolute' q a) h = names_constants a h

  mutual
    uses_constants : (x : RStmt) → StmtUses there (rstmt_of x) → UsesConstants there x
    uses_constants (s.Block' shape all) h = row_uses_constants _ all h
    uses_constants (s.Declare from count) h = tt
    uses_constants (s.SetScalar k op op_at v) h = names_constants v h
    uses_constants (s.SetLocal from count f i at op op_at v) h = (names_constants i h.0, names_constants v h.1)
    uses_constants (s.SetArg a f i at op op_at v) h = (names_constants i h.0, names_constants v h.1)
    uses_constants (s.If' x q a r b) h = (names_constants x h.0, uses_constants a h.1, uses_constants b h.2)
    uses_constants (s.For' k first past q body) h = uses_constants body h

    row_uses_constants : (m : _) (row : Row_of-RStmt m) → RowUses there (rstmts_of_row row) → RowUsesConstants there row
    row_uses_constants m end_of-RStmt h = tt
    row_uses_constants m (more_of-RStmt first rest) h = (uses_constants first h.0, row_uses_constants _ rest h.1)

  abbrev KernelsUse : List RKernelTree → Type 0
  KernelsUse [] = Unit {0}
  KernelsUse (k ∷ ks) = StmtUses there k.statement × KernelsUse ks

  all_use : (ks : List RKernel) → KernelsUse (map rkernel_of ks) → All (λ (k : RKernel). UsesConstants there k.body.statement) ks
  all_use [] h = All-nil (λ (k : RKernel). UsesConstants there k.body.statement)
  all_use (k ∷ ks) h = All-cons (λ (k : RKernel). UsesConstants there k.body.statement) k ks (uses_constants k.body.statement h.0) (all_use ks h.1)

  -- ---- the kernels of the file

  module _ (named : List (List ℕ)) (places : List Pos) where
    kernels_use : (file : Names) (ts : List TopTree) → AllAre (Ready there) (after_tops named file ts) → tops_breaches named file ts ≡ [] → KernelsUse (kernels named places file ts)
    kernels_use file [] h e = tt
    kernels_use file (t ∷ ts) h e =
        let b = none_of_both (top_breaches named file t) (tops_breaches named (after_top named file t) ts) e in
        by t b.0 (before_tops (Ready there) named (after_top named file t) ts h) (kernels_use (after_top named file t) ts h b.1)
      where
        by : (t : TopTree) → top_breaches named file t ≡ [] → AllAre (Ready there) (after_top named file t)
            → KernelsUse (kernels named places (after_top named file t) ts)
            → KernelsUse (kernels_of named places file t ++ kernels named places (after_top named file t) ts)
        by (tree.Extern x) h r rest = rest
        by (tree.ExternArray x) h r rest = rest
        by (tree.FileDeclaration v) h r rest = rest
        by (tree.Kernel f) h r rest =
            let later = after_top named file (tree.Kernel f) in
            let b = none_of_both (repeated f.name file) (kernel_breaches later f) h in
            (kernel_uses there places later f r b.1, rest)

-- ---- the names of the file

-- its cells are of one of these, where it is a constant
abbrev IsOfOne : List ConstDecl → Decl → Type 0
IsOfOne cs d = d.is_constant ≡ true → AreOfOne cs d.from d.count

-- a variable has one cell, and none is a counter
abbrev SaneAs : Sort → ℕ → Type 0
SaneAs sort.Scalar count = count ≡ 1
SaneAs sort.Counter count = ⊥
SaneAs _ count = Unit {0}

abbrev Sane : Decl → Type 0
Sane d = SaneAs d.sort d.count

abbrev own_cells : List ℕ × Decl → Bool → List ConstDecl
own_cells n b = if b then (record { name = n.0; from = n.1.from; count = n.1.count } ∷ []) else []

each_is_of_one : (names : Names) → AllAre (IsOfOne (constants names)) names
each_is_of_one [] = tt
each_is_of_one (n ∷ names) = (here n.1.is_constant, all_as (IsOfOne (constants names)) (IsOfOne (constants (n ∷ names))) (λ d h q. later d n.1.is_constant (h q)) names (each_is_of_one names))
  where
    here : (b : Bool) → b ≡ true → AreOfOne (own_cells n b ++ constants names) n.1.from n.1.count
    here true q = inl (omega arith, omega arith)
    here false q = cc

    later : (d : Decl) (b : Bool) → AreOfOne (constants names) d.from d.count → AreOfOne (own_cells n b ++ constants names) d.from d.count
    later d true h = inr h
    later d false h = h

variable_sane : (named : List (List ℕ)) (c : Bool) (from : ℕ) (d : DeclrTree) → Sane (variable_decl named c from d)
variable_sane named c from (tree.Plain x) = refl
variable_sane named c from (tree.Init x v) = refl
variable_sane named c from (tree.Array x n) = tt

other_sane : (s : Sort) → IsOther s → SaneAs s 0
other_sane sort.Extern i = tt
other_sane sort.ExternArray i = tt
other_sane sort.Kernel i = tt
other_sane s i = absurd i

all_sane : (p : ProgramTree) → AllAre Sane (file_of p)
all_sane p =
    tops_keep (named_in p) (AllAre Sane)
    (λ c file d h. declared_are Sane (declr_name d).name (variable_decl (named_in p) c (constant_cells file) d) file h (variable_sane (named_in p) c (constant_cells file) d))
    (λ s i x at file h. declared_are Sane x (other_decl s at) file h (other_sane s i))
    [] p.tops tt

ready_as : (cs : List ConstDecl) (s : Sort) (f k : Bool) (from count : ℕ) → (k ≡ true → AreOfOne cs from count) → SaneAs s count → ReadyAs (AreOfOne cs) s f k from count
ready_as cs sort.Scalar true k from count h e = λ q. subst (AreOfOne cs from) e (h q)
ready_as cs sort.Array true k from count h e = h
ready_as cs sort.Counter true k from count h e = absurd e
ready_as cs s f k from count h e = tt

all_ready : (cs : List ConstDecl) (names : Names) → AllAre (IsOfOne cs) names → AllAre Sane names → AllAre (Ready (AreOfOne cs)) names
all_ready cs [] h e = tt
all_ready cs (n ∷ names) h e = (ready_as cs n.1.sort n.1.of_file n.1.is_constant n.1.from n.1.count h.0 e.0, all_ready cs names h.1 e.1)

pub constants_used : (p : ProgramTree) (ks : List RKernel) → breaches p ≡ [] → map rkernel_of ks ≡ kernels (named_in p) p.places [] p.tops
    → All (λ (k : RKernel). UsesConstants (AreOfOne (constants (file_of p))) k.body.statement) ks
constants_used p ks e q =
    let cs = constants (file_of p) in
    let b = none_of_both (tops_breaches (named_in p) [] p.tops) (hosts_breaches (file_of p) [] [] p.main.body) e in
    let ready = all_ready cs (file_of p) (each_is_of_one (file_of p)) (all_sane p) in
    all_use (AreOfOne cs) ks (subst (KernelsUse (AreOfOne cs)) (sym q) (kernels_use (AreOfOne cs) (named_in p) p.places [] p.tops ready b.0))
