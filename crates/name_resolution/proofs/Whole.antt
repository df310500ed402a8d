-- The kernels of a source that breaks no rule: all that they name is there, and no counter is stored to in its `for`.
use Rattle.std.proofs.Common.{◌≡◌, ℕ, suc, ◌+◌, ◌≤◌, Bool, true, false, ◌||◌, nat_lt, List, [], ◌∷◌, ◌++◌, length, is_some, refl, sym, subst, arith, if◌then◌else◌}
use Rattle.std.proofs.lemmas.List.{length-map}
use Rattle.std.proofs.lemmas.Bool.Decides.{nat_tests}
use Rattle.c_tree.specs.declared.lexer.tokens.Pos.{Pos}
use Rattle.c_tree.specs.declared.kernels.Param.{Param}
use Rattle.c_tree.specs.Places.{pos_of}
use Rattle.c_tree.specs.Tree as tree
use Rattle.c_tree.specs.Tree.{DeclrTree, KernelTree, TopTree}
use Rattle.name_resolution.specs.declared.breaches.TypeRule.TheVariants.{TooMuchWork}
use Rattle.name_resolution.specs.declared.decls.Decl.{Decl}
use Rattle.name_resolution.specs.First.{breach_if}
use Rattle.name_resolution.specs.Scopes.{Names, decl_in, declared, repeated}
use Rattle.name_resolution.specs.Work.{work_of_all, cells_of_all, is_heavy, behind}
use Rattle.name_resolution.specs.Kernels.{after_params, param_decl, params_breaches, stmts_breaches, kernel_breaches, kernel}
use Rattle.name_resolution.specs.Mains.{declr_name}
use Rattle.name_resolution.specs.Programs.{constant_cells, variable_decl, with_variable, after_variables, after_top, after_tops, top_breaches, tops_breaches, kernels_of, kernels}
use Rattle.name_resolution.proofs.Fits.{AllAre, Fit, appended, declared_are, none_of_both, none_if}
use Rattle.name_resolution.proofs.Within.{all_wide, stmts_in}
use Rattle.name_resolution.proofs.Counters.{IsOfFile, stmts_count}
use Rattle.name_resolution.proofs.Bridge.{KernelIn, KernelsIn}
use Rattle.lemmas.proofs.Truth.{or_right}

-- ---- a kernel

params_fit : (p c k : ℕ) (ps : List Param) (own : Names) → k + length ps ≤ p → AllAre (Fit p 0 c) own → AllAre (Fit p 0 c) (after_params own k ps)
params_fit p c k [] own l h = h
params_fit p c k (x ∷ ps) own l h =
    params_fit p c (suc k) ps (declared x.name.name (param_decl k x) own) (omega arith) (declared_are (Fit p 0 c) x.name.name (param_decl k x) own h (omega arith))

light : (w n : ℕ) → (nat_lt 1048576 w || nat_lt 1024 n) ≡ false → n ≤ 1024
light w n h = let e = or_right (nat_lt 1048576 w) (nat_lt 1024 n) h in grind (arith, nat_tests)

kernel_in : (places : List Pos) (file : Names) (c : ℕ) (f : KernelTree) → AllAre (Fit 0 0 c) file → AllAre IsOfFile file → kernel_breaches file f ≡ [] → KernelIn c (kernel places file f)
kernel_in places file c f fits of_file h =
    let b = none_of_both (breach_if (is_heavy f) TooMuchWork f.name.at) (params_breaches [] 0 f.params ++ stmts_breaches file (after_params [] 0 f.params) 0 f.body) h in
    let d = none_of_both (params_breaches [] 0 f.params) (stmts_breaches file (after_params [] 0 f.params) 0 f.body) b.1 in
    let low : cells_of_all f.body ≤ 1024 = light (work_of_all f.body) (cells_of_all f.body) (none_if (is_heavy f) TooMuchWork f.name.at b.0) in
    let n = behind 0 (cells_of_all f.body) in
    let own = params_fit (length f.params) c 0 f.params [] (omega arith) tt in
    record {
      within = stmts_in (length f.params) n c (omega arith) places file
          (all_wide 0 (length f.params) 0 n c c (omega arith) (omega arith) (omega arith) file fits) (after_params [] 0 f.params) 0 f.body
          (omega arith) own d.1;
      counters = stmts_count (length f.params) c places file of_file (after_params [] 0 f.params) 0 f.body (omega arith) own d.1;
      places = length-map f.params (λ x. pos_of places x.name.at);
    }

-- ---- the names of the file

abbrev more : Decl → ℕ
more d = if d.is_constant then d.count else 0

cells_one_more : (names : Names) (x : List ℕ) (d : Decl) → constant_cells (names ++ (x, d) ∷ []) ≡ constant_cells names + more d
cells_one_more [] x d = omega arith
cells_one_more (m ∷ ns) x d = let e = cells_one_more ns x d in omega (arith, e)

-- what is kept while names of the file are declared
pub record Kept (file : Names) : Type 0 where
  pub fits : AllAre (Fit 0 0 (constant_cells file)) file
  pub of_file : AllAre IsOfFile file

pub record Grown (file after : Names) : Type 0 where
  pub kept : Kept after
  pub cells : constant_cells file ≤ constant_cells after

same : (file : Names) → Kept file → Grown file file
same file h = record { kept = h; cells = omega arith }

grown_twice : (a b c : Names) → Grown a b → Grown b c → Grown a c
grown_twice a b c g h = record { kept = h.kept; cells = omega (arith, g.cells, h.cells) }

declared_grown : (x : List ℕ) (d : Decl) (file : Names) → Kept file → Fit 0 0 (constant_cells file + more d) d → d.of_file ≡ true → Grown file (declared x d file)
declared_grown x d file h w o = by (is_some (decl_in file x))
  where
    by : (b : Bool) → Grown file (if b then file else (file ++ (x, d) ∷ []))
    by true = same file h
    by false =
        let e = cells_one_more file x d in
        let l : constant_cells file ≤ constant_cells (file ++ (x, d) ∷ []) = omega (arith, e) in
        record {
          kept = record {
            fits = appended (Fit 0 0 (constant_cells (file ++ (x, d) ∷ []))) file x d
                (all_wide 0 0 0 0 (constant_cells file) (constant_cells (file ++ (x, d) ∷ [])) (omega arith) (omega arith) l file h.fits)
                (subst (λ m. Fit 0 0 m d) (sym e) w);
            of_file = appended IsOfFile file x d h.of_file o;
          };
          cells = l;
        }

variable_fits : (named : List (List ℕ)) (c : Bool) (from : ℕ) (d : DeclrTree) → Fit 0 0 (from + more (variable_decl named c from d)) (variable_decl named c from d)
variable_fits named c from (tree.Plain x) = λ e. rw e (omega arith)
variable_fits named c from (tree.Init x v) = λ e. rw e (omega arith)
variable_fits named c from (tree.Array x n) = λ e. rw e (omega arith)

module _ (named : List (List ℕ)) where
  variables_grown : (c : Bool) (file : Names) (ds : List DeclrTree) → Kept file → Grown file (after_variables named c file ds)
  variables_grown c file [] h = same file h
  variables_grown c file (d ∷ ds) h =
      let g = declared_grown (declr_name d).name (variable_decl named c (constant_cells file) d) file h (variable_fits named c (constant_cells file) d) refl in
      grown_twice file (with_variable named c file d) _ g (variables_grown c (with_variable named c file d) ds g.kept)

  top_grown : (file : Names) (t : TopTree) → Kept file → Grown file (after_top named file t)
  top_grown file (tree.Extern x) h = declared_grown x.name _ file h tt refl
  top_grown file (tree.ExternArray x) h = declared_grown x.name _ file h tt refl
  top_grown file (tree.FileDeclaration v) h = variables_grown v.is_const file v.declrs h
  top_grown file (tree.Kernel f) h = declared_grown f.name.name _ file h tt refl

  tops_grown : (file : Names) (ts : List TopTree) → Kept file → Grown file (after_tops named file ts)
  tops_grown file [] h = same file h
  tops_grown file (t ∷ ts) h =
      let g = top_grown file t h in grown_twice file (after_top named file t) _ g (tops_grown (after_top named file t) ts g.kept)

  -- ---- all kernels

  pub kernels_in : (places : List Pos) (c : ℕ) (file : Names) (ts : List TopTree) → Kept file
      → constant_cells (after_tops named file ts) ≤ c → tops_breaches named file ts ≡ [] → KernelsIn c (kernels named places file ts)
  kernels_in places c file [] h l e = tt
  kernels_in places c file (t ∷ ts) h l e =
      let b = none_of_both (top_breaches named file t) (tops_breaches named (after_top named file t) ts) e in
      let g = top_grown file t h in
      let k = tops_grown (after_top named file t) ts g.kept in
      by t b.0 g.kept (omega (arith, k.cells)) (kernels_in places c (after_top named file t) ts g.kept l b.1)
    where
      by : (t : TopTree) → top_breaches named file t ≡ [] → Kept (after_top named file t) → constant_cells (after_top named file t) ≤ c
          → KernelsIn c (kernels named places (after_top named file t) ts)
          → KernelsIn c (kernels_of named places file t ++ kernels named places (after_top named file t) ts)
      by (tree.Extern x) h k m rest = rest
      by (tree.ExternArray x) h k m rest = rest
      by (tree.FileDeclaration v) h k m rest = rest
      by (tree.Kernel f) h k m rest =
          let file' = after_top named file (tree.Kernel f) in
          let b = none_of_both (repeated f.name file) (kernel_breaches file' f) h in
          (kernel_in places file' c f (all_wide 0 0 0 0 (constant_cells file') c (omega arith) (omega arith) m file' k.fits) k.of_file b.1, rest)

pub none_kept_yet : Kept []
none_kept_yet = record { fits = tt; of_file = tt }
