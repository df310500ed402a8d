-- A program with other values of dats and variables, and other items, runs each loop's elements and statements alike.
use Rattle.std.proofs.Common.{◌≡◌, ◌+◌, ◌++◌, ℕ, zero, suc, ℤ, List, [], ◌∷◌, length, map, get_or, sum_by, Option, Some, None, Ok, Err, refl, sym, ap, ap₂, ◌∙◌}
use Rattle.std.proofs.lemmas.List.Sums.{sum_by-cons}
use Rattle.std.specs.Prelude.{if◌then◌else◌, codes}
use Rattle.std.specs.List.{flat_map}
use Rattle.std.specs.Fmt.{decimal}
use Rattle.c_tree.specs.declared.lexer.tokens.Pos.{Pos}
use Rattle.kernel_model.specs.View.{RExprTree}
use Rattle.kernel_model.specs.declared.types.kernels.RKernel.{RKernel}
use Rattle.kernel_model.specs.Meaning.{kernel_meaning, on_value, index_in, stored}
use Rattle.mesh_decl.specs.declared.decl.DatDecl.{DatDecl}
use Rattle.mesh_decl.specs.declared.access.Via.{Via}
use Rattle.mesh_decl.specs.Mesh.{set_size, set_name, map_targets, map_dim, target, dat_set, dat_dim, dat_name}
use Rattle.mesh_decl.specs.Printed.{printed_dat, printed_line, rows, row_text}
use Rattle.schedule_model.specs.Cells.{Data, Variable, Store}
use Rattle.schedule_model.specs.Program.{Halts, Goes}
use Rattle.schedule_model.specs.Layout.{of_core}
use Rattle.run_model.specs.OnWindows.{core_of}
use Rattle.bound_program.specs.declared.sites.Arg.{Arg}
use Rattle.bound_program.specs.declared.sites.Arg.TheVariants.{Dat, Global}
use Rattle.bound_program.specs.Values.{BoundValue, ItemValue, VarValue, SiteValue, no_var, ActValue, Clear, Assign, Line, Print, Exit}
use Rattle.bound_program.specs.HostExpr.{value}
use Rattle.bound_program.specs.Fits.{var_at, constant_cells, cells_from as counted_from}
use Rattle.run_model.specs.Windows.{numbers, Reached, Element, Whole, cell_in, element_by, reached, width, cells_in, targets, different, is_same, window_cells, window_start, window_of, windows}
use Rattle.run_model.specs.Kernels.{constant_or, constant_in, constants, constant_values, kernel_at, run_of, element_run}
use Rattle.run_model.specs.Hosts.{cells_from, variables_of, variable_cells, dat_cells, value_of, values_of, component_of, prints, with_cell, act_run}

-- variables of the same lengths and constants
abbrev pub AreSame : List VarValue → List VarValue → Type 0
AreSame [] [] = Unit {0}
AreSame (x ∷ xs) (y ∷ ys) = (length x.start ≡ length y.start) × (x.constant ≡ y.constant) × AreSame xs ys
AreSame [] (y ∷ ys) = ⊥
AreSame (x ∷ xs) [] = ⊥

pub width_same : (xs ys : List VarValue) (v : ℕ) → AreSame xs ys → length (get_or xs v no_var).start ≡ length (get_or ys v no_var).start
width_same [] [] v h = refl
width_same (x ∷ xs) (y ∷ ys) zero h = h.0
width_same (x ∷ xs) (y ∷ ys) (suc v) h = width_same xs ys v h.2
width_same [] (y ∷ ys) v h = absurd h
width_same (x ∷ xs) [] v h = absurd h

cells_same : (xs ys : List VarValue) (v : ℕ) → AreSame xs ys → cells_from v xs ≡ cells_from v ys
cells_same [] [] v h = refl
cells_same (x ∷ xs) (y ∷ ys) v h =
    ap₂ (λ n l. map (λ i. record { variable = v; component = i }) (numbers n) ++ l) h.0 (cells_same xs ys (suc v) h.2)
cells_same [] (y ∷ ys) v h = absurd h
cells_same (x ∷ xs) [] v h = absurd h

pub count_same : (xs ys : List VarValue) → AreSame xs ys → sum_by constant_cells xs ≡ sum_by constant_cells ys
count_same [] [] h = refl
count_same (x ∷ xs) (y ∷ ys) h =
    sum_by-cons constant_cells x xs
    ∙ (ap₂ (λ a z. a + z) (ap₂ counted_from h.1 h.0) (count_same xs ys h.2) ∙ sym (sum_by-cons constant_cells y ys))
count_same [] (y ∷ ys) h = absurd h
count_same (x ∷ xs) [] h = absurd h

constant_same : (xs ys : List VarValue) (v j : ℕ) → AreSame xs ys → constant_in xs v j ≡ constant_in ys v j
constant_same [] [] v j h = refl
constant_same (x ∷ xs) (y ∷ ys) v j h =
    ap (λ o. constant_or o (length x.start) v j (constant_in xs (suc v) j)) h.1
    ∙ ap₂ (λ n l. constant_or y.constant n v j l) h.0 (constant_same xs ys (suc v) j h.2)
constant_same [] (y ∷ ys) v j h = absurd h
constant_same (x ∷ xs) [] v j h = absurd h

map_alike : {A B : Type 0} (f g : A → B) (xs : List A) → ((x : A) → f x ≡ g x) → map f xs ≡ map g xs
map_alike f g [] h = refl
map_alike f g (x ∷ xs) h = ap₂ (λ a l. a ∷ l) (h x) (map_alike f g xs h)

pub flat_alike : {A B : Type 0} (f g : A → List B) (xs : List A) → ((x : A) → f x ≡ g x) → flat_map f xs ≡ flat_map g xs
flat_alike f g [] h = refl
flat_alike f g (x ∷ xs) h = ap₂ (λ a l. a ++ l) (h x) (flat_alike f g xs h)

module _ (b : BoundValue) (ds : List DatDecl) (vs : List VarValue) (tr : List ItemValue) where
  abbrev pub other : BoundValue
  other = record b { mesh = record b.mesh { dats = ds }; vars = vs; trace = tr }

  pub record Like : Type 0 where
    pub dims : map (λ (d : DatDecl). d.dim) ds ≡ map (λ (d : DatDecl). d.dim) b.mesh.dats
    pub sets : map (λ (d : DatDecl). d.set) ds ≡ map (λ (d : DatDecl). d.set) b.mesh.dats
    pub names : map (λ (d : DatDecl). d.name) ds ≡ map (λ (d : DatDecl). d.name) b.mesh.dats
    pub vars : AreSame vs b.vars

  module _ (like : Like) where
    pub dim_same : (d : ℕ) → dat_dim other.mesh d ≡ dat_dim b.mesh d
    unfolding dat_dim
    dim_same d = ap (λ l. get_or l d 0) like.dims

    pub set_same : (d : ℕ) → dat_set other.mesh d ≡ dat_set b.mesh d
    unfolding dat_set
    set_same d = ap (λ l. get_or l d 0) like.sets

    name_same : (d : ℕ) → dat_name other.mesh d ≡ dat_name b.mesh d
    unfolding dat_name
    name_same d = ap (λ l. get_or l d []) like.names

    target_same : (m e i : ℕ) → target other.mesh m e i ≡ target b.mesh m e i
    unfolding target map_targets map_dim
    target_same m e i = refl

    set_name_same : (s : ℕ) → set_name other.mesh s ≡ set_name b.mesh s
    unfolding set_name
    set_name_same s = refl

    pub var_same : (v : ℕ) → length (var_at other v).start ≡ length (var_at b v).start
    var_same v = width_same vs b.vars v like.vars

    -- ---- loops
    element_same : (via : Option Via) (e : ℕ) → element_by other via e ≡ element_by b via e
    element_same None e = refl
    element_same (Some v) e = target_same v.map e v.index

    reached_same : (e : ℕ) (a : Arg) → reached other e a ≡ reached b e a
    reached_same e (Dat d v a) = ap (Element d) (element_same v e)
    reached_same e (Global v a) = refl

    wide_same : (r : Reached) → width other r ≡ width b r
    wide_same (Element d x) = dim_same d
    wide_same (Whole v) = var_same v

    targets_same : (args : List Arg) (e : ℕ) → targets other args e ≡ targets b args e
    targets_same args e = ap different (map_alike (reached other e) (reached b e) args (reached_same e))

    pub window_same : (args : List Arg) (e : ℕ) → window_cells other args e ≡ window_cells b args e
    window_same args e =
        ap (λ l. flat_map (cells_in other) l) (targets_same args e)
        ∙ flat_alike (cells_in other) (cells_in b) (targets b args e) (λ r. ap (λ n. map (cell_in r) (numbers n)) (wide_same r))

    start_same : (all : List Reached) (r : Reached) → window_start other all r ≡ window_start b all r
    start_same [] r = refl
    start_same (x ∷ xs) r = ap₂ (λ w z. if is_same x r then 0 else w + z) (wide_same x) (start_same xs r)

    window_of_same : (all : List Reached) (r : Reached) → window_of other all r ≡ window_of b all r
    window_of_same all r = ap₂ (λ f n. record { array = 0; from = f; count = n }) (start_same all r) (wide_same r)

    windows_same : (args : List Arg) (e : ℕ) → windows other args e ≡ windows b args e
    windows_same args e = map_alike
        (λ a. window_of other (targets other args e) (reached other e a)) (λ a. window_of b (targets b args e) (reached b e a)) args
        (λ a. ap₂ (λ t r. window_of other t r) (targets_same args e) (reached_same e a) ∙ window_of_same (targets b args e) (reached b e a))

    constants_same : constants other ≡ constants b
    constants_same =
        ap (λ n. map (constant_in vs 0) (numbers n)) (count_same vs b.vars like.vars)
        ∙ map_alike (constant_in vs 0) (constant_in b.vars 0) (numbers (sum_by constant_cells b.vars)) (λ j. constant_same vs b.vars 0 j like.vars)

    kernel_same : (k : Option RKernel) (site : SiteValue) (e : ℕ) (s : Store) → run_of other k site e s ≡ run_of b k site e s
    kernel_same None site e s = refl
    kernel_same (Some k) site e s =
        ap (λ cs. of_core cs s (core_of (kernel_meaning (windows other site.args e) (constant_values other s) k (map s cs ∷ [])))) (window_same site.args e)
        ∙ ap₂ (λ ws c. of_core (window_cells b site.args e) s (core_of (kernel_meaning ws (map (λ v. s (Variable v)) c) k (map s (window_cells b site.args e) ∷ []))))
        (windows_same site.args e) constants_same

    pub run_same : (site : SiteValue) (e : ℕ) (s : Store) → element_run other site e s ≡ element_run b site e s
    run_same site e s = kernel_same (kernel_at b.kernels site.kernel) site e s

    -- ---- statements
    module _ (s : Store) where
      all_cells_same : variable_cells other ≡ variable_cells b
      all_cells_same = cells_same vs b.vars 0 like.vars

      value_same : (e : RExprTree) → value_of other s e ≡ value_of b s e
      value_same e = ap (λ cs. value [] (map (variables_of s) cs) e) all_cells_same

      values_same : (es : List RExprTree) → values_of other s es ≡ values_of b s es
      values_same [] = refl
      values_same (e ∷ es) =
          ap₂ (λ r q. on_value Err r (λ z. on_value Err q (λ zs. Ok (z ∷ zs)))) (value_same e) (values_same es)

      component_same : (v : ℕ) (at : Pos) (i : Option RExprTree) → component_of other s (var_at other v) at i ≡ component_of b s (var_at b v) at i
      component_same v at None = refl
      component_same v at (Some e) = ap₂ (λ r n. on_value Err r (λ z. index_in n at z)) (value_same e) (var_same v)

      pub dat_cells_same : (d : ℕ) → dat_cells other d ≡ dat_cells b d
      dat_cells_same d =
          ap₂ (λ w n. flat_map (λ x. map (λ i. Data (record { dat = d; element = x; component = i })) (numbers w)) (numbers (set_size b.mesh n)))
          (dim_same d) (set_same d)

      abbrev printed_by : List ℕ → List ℤ → List ℕ → List ℕ → ℕ → ℕ → List ℕ
      printed_by file zs name set size dim =
          flat_map (λ part. part) (file ∷ codes ": " ∷ name ∷ codes " " ∷ set ∷ codes " " ∷ decimal size ∷ codes " " ∷ decimal dim ∷ codes "\n" ∷ [])
          ++ flat_map row_text (rows dim size zs)

      printed_same : (file : List ℕ) (d : ℕ) (zs : List ℤ) → printed_dat file other.mesh d zs ≡ printed_dat file b.mesh d zs
      unfolding printed_dat
      printed_same file d zs =
          ap₂ (λ n t. printed_by file zs n (set_name other.mesh t) (set_size b.mesh t) (dat_dim other.mesh d)) (name_same d) (set_same d)
          ∙ ap₂ (λ t w. printed_by file zs (dat_name b.mesh d) t (set_size b.mesh (dat_set b.mesh d)) w) (set_name_same (dat_set b.mesh d)) (dim_same d)

      pub act_same : (a : ActValue) → act_run other s a ≡ act_run b s a
      act_same (Clear v) = refl
      act_same (Assign v index op op_at e at) =
          ap₂ (λ q r. on_value Halts q (λ i. on_value Halts r (λ x.
          on_value Halts (stored op op_at (s (Variable (record { variable = v; component = i }))) x) (λ z.
          Goes (with_cell (record { variable = v; component = i }) z (variables_of s)) [])))) (component_same v at index) (value_same e)
      act_same (Line text es) = ap (λ r. on_value Halts r (λ zs. prints b s (printed_line text zs))) (values_same es)
      act_same (Print d file) =
          ap (λ l. prints b s (printed_dat file other.mesh d (map s l))) (dat_cells_same d)
          ∙ ap (prints b s) (printed_same file d (map s (dat_cells b d)))
      act_same Exit = refl
