-- What elements and statements do depends on the cells that there are.
use Rattle.std.proofs.Common.{◌≡◌, ◌<◌, ◌+◌, ◌++◌, ℕ, suc, ℤ, pos, negsuc, Bool, true, false, List, [], ◌∷◌, length, map, get_or, Option, Some, None, Result, Ok, Err, refl, sym, ap, ap₂, ◌∙◌, subst, ⊎_elim, arith}
use Rattle.std.specs.Prelude.{◌&&◌, nat_eq, nat_lt, if◌then◌else◌}
use Rattle.std.specs.List.{flat_map}
use Rattle.std.proofs.lemmas.Bool.{cases_Bool, and_from, lt-ltb, ltb-true, cond-true, cond-false}
use Rattle.std.proofs.lemmas.List.FromFn.{length-range_with_len, get_or-range_with_len, length-map-range_with_len, get_or-map-range_with_len}
use Rattle.c_tree.specs.declared.lexer.tokens.Pos.{Pos}
use Rattle.c_tree.specs.declared.declarations.AssignOp.{AssignOp}
use Rattle.op_num.specs.declared.refusals.Fault.TheVariants.{Index}
use Rattle.kernel_model.specs.Numbers.{fault}
use Rattle.kernel_model.specs.declared.types.faults.KernelFault.{KernelFault}
use Rattle.kernel_model.specs.declared.types.kernels.RKernel.{RKernel}
use Rattle.kernel_model.specs.View.{RExprTree}
use Rattle.kernel_model.specs.Meaning.{kernel_meaning, on_value, index_in, stored}
use Rattle.mesh_decl.specs.Mesh.{set_size, dat_set, dat_dim, dat_count, map_count, map_from, target, IsMapAt}
use Rattle.mesh_decl.specs.Printed.{printed_dat, printed_line}
use Rattle.schedule_model.specs.Cells.{Cell, Data, Variable, VarCell, Store}
use Rattle.schedule_model.specs.Program.{Hosted, Halts, Goes}
use Rattle.schedule_model.specs.Effects.{Ran, Faulted, Finished}
use Rattle.schedule_model.specs.Layout.{Core, Faults, Leaves, of_core, lookup}
use Rattle.run_model.specs.OnWindows.{core_of}
use Rattle.bound_program.specs.declared.sites.Arg.{Arg}
use Rattle.bound_program.specs.declared.sites.Arg.TheVariants.{Dat, Global}
use Rattle.bound_program.specs.HostExpr.{value}
use Rattle.bound_program.specs.Values.{BoundValue, SiteValue, VarValue, ActValue, Clear, Assign, Line, Print, Exit, no_var}
use Rattle.bound_program.specs.Fits.{SiteFits, ArgFits, ActFits, var_at}
use Rattle.run_model.specs.Windows.{numbers, Reached, Element, Whole, cell_in, reached, cells_in, targets, different, without, is_same, window_cells, windows}
use Rattle.run_model.specs.Kernels.{constants, kernel_at, run_of, element_run}
use Rattle.run_model.specs.Constants.{no_constant, AreNumbered}
use Rattle.run_model.specs.Hosts.{cells_from, variables_of, variable_cells, dat_cells, value_of, values_of, component_of, prints, with_cell, assigned, act_run}
use Rattle.run_model.specs.Arguments.{var_width, dat_width}
use Rattle.run_model.specs.Memory.{has_cell}

-- each cell of a list is so
abbrev pub Each : (Cell → Type 0) → List Cell → Type 0
Each P [] = Unit {0}
Each P (c ∷ cs) = P c × Each P cs

each_both : (P : Cell → Type 0) (xs ys : List Cell) → Each P xs → Each P ys → Each P (xs ++ ys)
each_both P [] ys a b = b
each_both P (x ∷ xs) ys a b = (a.0, each_both P xs ys a.1 b)

each_map : {A : Type 0} (P : Cell → Type 0) (f : A → Cell) (xs : List A) → ((i : ℕ) (d : A) → i < length xs → P (f (get_or xs i d))) → Each P (map f xs)
each_map P f [] h = tt
each_map P f (x ∷ xs) h = (h 0 x (omega arith), each_map P f xs (λ i d l. h (suc i) d (let k : suc i < suc (length xs) = omega (arith, l) in k)))

each_row : (P : Cell → Type 0) (f : ℕ → Cell) (n : ℕ) → ((i : ℕ) → i < n → P (f i)) → Each P (map f (numbers n))
each_row P f n h = each_map P f (numbers n) (λ i d l.
    let k : i < n = omega (arith, l, length-range_with_len 0 n) in
    subst (λ j. P (f j)) (sym (get_or-range_with_len 0 n i d k)) (h (0 + i) (let m : 0 + i < n = omega (arith, k) in m)))

each_flat : {A : Type 0} (P : Cell → Type 0) (f : A → List Cell) (xs : List A) → ((i : ℕ) (d : A) → i < length xs → Each P (f (get_or xs i d))) → Each P (flat_map f xs)
each_flat P f [] h = tt
each_flat P f (x ∷ xs) h = each_both P (f x) (flat_map f xs) (h 0 x (omega arith)) (each_flat P f xs (λ i d l. h (suc i) d (let k : suc i < suc (length xs) = omega (arith, l) in k)))

module _ (b : BoundValue) where
  abbrev pub There : Cell → Type 0
  There c = has_cell b c ≡ true

  abbrev pub Agree : Store → Store → Type 0
  Agree s t = (c : Cell) → has_cell b c ≡ true → s c ≡ t c

  pub has_dat : (d x i : ℕ) → d < dat_count b.mesh → x < set_size b.mesh (dat_set b.mesh d) → i < dat_width b d → There (cell_in (Element d x) i)
  has_dat d x i ld lx li =
      and_from (nat_lt d (dat_count b.mesh)) (nat_lt x (set_size b.mesh (dat_set b.mesh d)) && nat_lt i (dat_width b d)) (lt-ltb d (dat_count b.mesh) ld)
      (and_from (nat_lt x (set_size b.mesh (dat_set b.mesh d))) (nat_lt i (dat_width b d)) (lt-ltb x (set_size b.mesh (dat_set b.mesh d)) lx) (lt-ltb i (dat_width b d) li))

  pub has_var : (v i : ℕ) → v < length b.vars → i < var_width b v → There (cell_in (Whole v) i)
  has_var v i lv li = and_from (nat_lt v (length b.vars)) (nat_lt i (var_width b v)) (lt-ltb v (length b.vars) lv) (lt-ltb i (var_width b v) li)

  -- what is reached is there whole
  abbrev Reaches : Reached → Type 0
  Reaches (Element d x) = (d < dat_count b.mesh) × (x < set_size b.mesh (dat_set b.mesh d))
  Reaches (Whole v) = v < length b.vars

  whole : (r : Reached) → Reaches r → Each There (cells_in b r)
  whole (Element d x) h = each_row There (cell_in (Element d x)) (dat_dim b.mesh d) (λ i l. has_dat d x i h.0 h.1 l)
  whole (Whole v) h = each_row There (cell_in (Whole v)) (var_width b v) (λ i l. has_var v i h l)

  abbrev AllReach : List Reached → Type 0
  AllReach [] = Unit {0}
  AllReach (r ∷ rs) = Reaches r × AllReach rs

  either_reach : (t : Bool) (x : Reached) (rs : List Reached) → Reaches x → AllReach rs → AllReach (if t then rs else x ∷ rs)
  either_reach true x rs h g = g
  either_reach false x rs h g = (h, g)

  kept_reach : (r : Reached) (rs : List Reached) → AllReach rs → AllReach (without r rs)
  kept_reach r [] h = tt
  kept_reach r (x ∷ rs) h = either_reach (is_same x r) x (without r rs) h.0 (kept_reach r rs h.1)

  different_reach : (rs : List Reached) → AllReach rs → AllReach (different rs)
  different_reach [] h = tt
  different_reach (x ∷ rs) h = (h.0, kept_reach x (different rs) (different_reach rs h.1))

  all_whole : (rs : List Reached) → AllReach rs → Each There (flat_map (cells_in b) rs)
  all_whole [] h = tt
  all_whole (r ∷ rs) h = each_both There (cells_in b r) (flat_map (cells_in b) rs) (whole r h.0) (all_whole rs h.1)

  -- ---- values

  values_alike : (s t : Store) → Agree s t → (cs : List Cell) → Each There cs → map s cs ≡ map t cs
  values_alike s t same [] h = refl
  values_alike s t same (c ∷ cs) h = ap₂ (λ z zs. z ∷ zs) (same c h.0) (values_alike s t same cs h.1)

  abbrev pub AllVars : List VarCell → Type 0
  AllVars [] = Unit {0}
  AllVars (v ∷ vs) = There (Variable v) × AllVars vs

  variables_alike : (s t : Store) → Agree s t → (vs : List VarCell) → AllVars vs → map (λ v. s (Variable v)) vs ≡ map (λ v. t (Variable v)) vs
  variables_alike s t same [] h = refl
  variables_alike s t same (v ∷ vs) h = ap₂ (λ z zs. z ∷ zs) (same (Variable v) h.0) (variables_alike s t same vs h.1)

  vars_from : (vs : List VarCell) → ((j : ℕ) → j < length vs → There (Variable (get_or vs j no_constant))) → AllVars vs
  vars_from [] h = tt
  vars_from (v ∷ vs) h = (h 0 (omega arith), vars_from vs (λ j l. h (suc j) (let k : suc j < suc (length vs) = omega (arith, l) in k)))

  vars_both : (xs ys : List VarCell) → AllVars xs → AllVars ys → AllVars (xs ++ ys)
  vars_both [] ys a c = c
  vars_both (x ∷ xs) ys a c = (a.0, vars_both xs ys a.1 c)

  numbered : AreNumbered b → AllVars (constants b)
  numbered n = vars_from (constants b) (λ j l. let c = n.cells j l in
      has_var (get_or (constants b) j no_constant).variable (get_or (constants b) j no_constant).component c.variable c.component)

  -- ---- elements

  -- both have one fault, or leave stores that agree
  abbrev pub RanAlike : Ran KernelFault → Ran KernelFault → Type 0
  RanAlike (Faulted f) (Faulted g) = f ≡ g
  RanAlike (Finished s) (Finished t) = Agree s t
  RanAlike (Faulted f) (Finished t) = ⊥
  RanAlike (Finished s) (Faulted g) = ⊥

  looked : (cs : List Cell) (ws : List ℤ) (c : Cell) (x y : ℤ) → x ≡ y → lookup cs ws c x ≡ lookup cs ws c y
  looked cs ws c x y e = ap (lookup cs ws c) e

  core_alike : (cs : List Cell) (s t : Store) → Agree s t → (r : Core KernelFault) → RanAlike (of_core cs s r) (of_core cs t r)
  core_alike cs s t same (Faults f) = refl
  core_alike cs s t same (Leaves ws) = λ c h. looked cs ws c (s c) (t c) (same c h)

  module _ (maps : (n : ℕ) → n < map_count b.mesh → IsMapAt b.mesh n) where
    arg_reaches : (set e : ℕ) (x : Arg) → ArgFits b set x → e < set_size b.mesh set → Reaches (reached b e x)
    arg_reaches set e (Dat d None a) fit le = (fit.0, subst (λ s. e < set_size b.mesh s) (sym fit.2) le)
    arg_reaches set e (Dat d (Some v) a) fit le =
        let via = fit.2 in
        let from : e < set_size b.mesh (map_from b.mesh v.map) = subst (λ s. e < set_size b.mesh s) (sym via.1) le in
        (fit.0, subst (λ s. target b.mesh v.map e v.index < set_size b.mesh s) via.2 ((maps v.map via.0).within e v.index from via.3))
    arg_reaches set e (Global v a) fit le = fit.0

    args_reach : (set e : ℕ) (xs : List Arg) → ((i : ℕ) (d : Arg) → i < length xs → ArgFits b set (get_or xs i d)) → e < set_size b.mesh set → AllReach (map (reached b e) xs)
    args_reach set e [] h le = tt
    args_reach set e (x ∷ xs) h le =
        (arg_reaches set e x (h 0 x (omega arith)) le, args_reach set e xs (λ i d l. h (suc i) d (let k : suc i < suc (length xs) = omega (arith, l) in k)) le)

    windows_there : (site : SiteValue) (e : ℕ) → SiteFits b site → e < set_size b.mesh site.set → Each There (window_cells b site.args e)
    windows_there site e fits le =
        all_whole (targets b site.args e) (different_reach (map (reached b e) site.args) (args_reach site.set e site.args fits.args le))

    kernel_alike : (n : AreNumbered b) (s t : Store) → Agree s t → (site : SiteValue) (e : ℕ) → SiteFits b site → e < set_size b.mesh site.set
        → (k : Option RKernel) → RanAlike (run_of b k site e s) (run_of b k site e t)
    kernel_alike n s t same site e fits le None = same
    kernel_alike n s t same site e fits le (Some k) =
        subst (λ r. RanAlike (run_of b (Some k) site e s) (of_core (window_cells b site.args e) t (core_of r)))
        (ap₂ (λ c w. kernel_meaning (windows b site.args e) c k (w ∷ []))
        (variables_alike s t same (constants b) (numbered n))
        (values_alike s t same (window_cells b site.args e) (windows_there site e fits le)))
        (core_alike (window_cells b site.args e) s t same (core_of (kernel_meaning (windows b site.args e) (map (λ v. s (Variable v)) (constants b)) k (map s (window_cells b site.args e) ∷ []))))

    pub element_alike : (n : AreNumbered b) (s t : Store) → Agree s t → (site : SiteValue) (e : ℕ) → SiteFits b site → e < set_size b.mesh site.set
        → RanAlike (element_run b site e s) (element_run b site e t)
    element_alike n s t same site e fits le = kernel_alike n s t same site e fits le (kernel_at b.kernels site.kernel)

  -- ---- statements

  -- both have one fault, or print the same and leave variables that agree
  abbrev pub HostAlike : Hosted KernelFault → Hosted KernelFault → Type 0
  HostAlike (Halts f) (Halts g) = f ≡ g
  HostAlike (Goes v o) (Goes w u) = ((c : VarCell) → There (Variable c) → v c ≡ w c) × (o ≡ u)
  HostAlike (Halts f) (Goes w u) = ⊥
  HostAlike (Goes v o) (Halts g) = ⊥

  index_ok : (count : ℕ) (at : Pos) (z : ℤ) (i : ℕ) → index_in count at z ≡ Ok i → i < count
  index_ok count at (pos j) i h = ⊎_elim
      (λ (t : nat_lt j count ≡ true).
      let e : Ok j ≡ Ok i = sym (cond-true (nat_lt j count) (Ok j) (Err (fault Index at)) t) ∙ h in
      let k : j ≡ i = cc in
      let l : j < count = ltb-true j count t in omega arith)
      (λ (t : nat_lt j count ≡ false).
      let e = sym (cond-false (nat_lt j count) (Ok j) (Err (fault Index at)) t) ∙ h in
      let q : ⊥ = cc in absurd q)
      (cases_Bool (nat_lt j count))
  index_ok count at (negsuc j) i h = let q : ⊥ = cc in absurd q

  cells_there : (xs : List VarValue) (v : ℕ) →
      ((k i : ℕ) → k < length xs → i < length (get_or xs k no_var).start → There (Variable (record { variable = v + k; component = i })))
      → AllVars (cells_from v xs)
  cells_there [] v h = tt
  cells_there (x ∷ xs) v h =
      vars_both (map (λ i. record { variable = v; component = i }) (numbers (length x.start))) (cells_from (suc v) xs)
      (vars_from (map (λ i. record { variable = v; component = i }) (numbers (length x.start)))
      (λ j l.
      let lt : j < length x.start = omega (arith, l, length-map-range_with_len {X = VarCell} (λ i. record { variable = v; component = i }) 0 (length x.start)) in
      subst (λ c. There (Variable c)) (sym (get_or-map-range_with_len (λ i. record { variable = v; component = i }) 0 (length x.start) j j no_constant lt (omega arith)))
      (let e : v + 0 ≡ v = omega arith in subst (λ w. There (Variable (record { variable = w; component = j }))) e (h 0 j (omega arith) lt))))
      (cells_there xs (suc v) (λ k i lk li.
      let e : v + suc k ≡ suc v + k = omega arith in
      subst (λ w. There (Variable (record { variable = w; component = i }))) e (h (suc k) i (let m : suc k < suc (length xs) = omega (arith, lk) in m) li)))

  pub variables_there : AllVars (variable_cells b)
  variables_there = cells_there b.vars 0 (λ k i lk li. let e : k ≡ 0 + k = omega arith in subst (λ w. There (Variable (record { variable = w; component = i }))) e (has_var k i lk li))

  module _ (s t : Store) (same : Agree s t) (all : AllVars (variable_cells b)) where
    value_alike : (e : RExprTree) → value_of b s e ≡ value_of b t e
    value_alike e = ap (λ zs. value [] zs e) (variables_alike s t same (variable_cells b) all)

    values_of_alike : (es : List RExprTree) → values_of b s es ≡ values_of b t es
    values_of_alike [] = refl
    values_of_alike (e ∷ es) = ap₂ (λ r q. on_value Err r (λ z. on_value Err q (λ zs. Ok (z ∷ zs)))) (value_alike e) (values_of_alike es)

    component_alike : (v : VarValue) (at : Pos) (i : Option RExprTree) → component_of b s v at i ≡ component_of b t v at i
    component_alike v at None = refl
    component_alike v at (Some e) = ap (λ r. on_value Err r (λ z. index_in (length v.start) at z)) (value_alike e)

    component_there : (v : ℕ) (at : Pos) (index : Option RExprTree) → 0 < var_width b v → (i : ℕ) → component_of b s (var_at b v) at index ≡ Ok i → i < var_width b v
    component_there v at None some i h = let e : 0 ≡ i = cc in omega arith
    component_there v at (Some x) some i h = by_value (value_of b s x) h
      where
        by_value : (r : Result ℤ KernelFault) → on_value Err r (λ z. index_in (var_width b v) at z) ≡ Ok i → i < var_width b v
        by_value (Err f) h = let q : ⊥ = cc in absurd q
        by_value (Ok z) h = index_ok (var_width b v) at z i h

    prints_alike : (ws : List ℕ) → HostAlike (prints b s ws) (prints b t ws)
    prints_alike ws = ((λ c h. same (Variable c) h), refl)

    line_alike : (text : List ℕ) (r : Result (List ℤ) KernelFault) → HostAlike (on_value Halts r (λ zs. prints b s (printed_line text zs))) (on_value Halts r (λ zs. prints b t (printed_line text zs)))
    line_alike text (Err f) = refl
    line_alike text (Ok zs) = prints_alike (printed_line text zs)

    store_alike : (c : VarCell) (r : Result ℤ KernelFault)
        → HostAlike (on_value Halts r (λ z. Goes (with_cell c z (variables_of s)) [])) (on_value Halts r (λ z. Goes (with_cell c z (variables_of t)) []))
    store_alike c (Err f) = refl
    store_alike c (Ok z) = ((λ x h. ap (λ y. if nat_eq x.variable c.variable && nat_eq x.component c.component then z else y) (same (Variable x) h)), refl)

    assigned_alike : (c : VarCell) (op : AssignOp) (op_at : Pos) → s (Variable c) ≡ t (Variable c) → (r : Result ℤ KernelFault)
        → HostAlike (on_value Halts r (λ x. on_value Halts (stored op op_at (s (Variable c)) x) (λ z. Goes (with_cell c z (variables_of s)) [])))
        (on_value Halts r (λ x. on_value Halts (stored op op_at (t (Variable c)) x) (λ z. Goes (with_cell c z (variables_of t)) [])))
    assigned_alike c op op_at e (Err f) = refl
    assigned_alike c op op_at e (Ok x) =
        subst (λ y. HostAlike (on_value Halts (stored op op_at (s (Variable c)) x) (λ z. Goes (with_cell c z (variables_of s)) []))
        (on_value Halts (stored op op_at y x) (λ z. Goes (with_cell c z (variables_of t)) []))) e
        (store_alike c (stored op op_at (s (Variable c)) x))

    index_alike : (v : ℕ) (op : AssignOp) (op_at : Pos) (e : RExprTree) → v < length b.vars → (r : Result ℕ KernelFault) → ((i : ℕ) → r ≡ Ok i → i < var_width b v)
        → HostAlike (on_value Halts r (λ i. on_value Halts (value_of b s e) (λ x. on_value Halts (stored op op_at (s (Variable (record { variable = v; component = i }))) x)
        (λ z. Goes (with_cell (record { variable = v; component = i }) z (variables_of s)) []))))
        (on_value Halts r (λ i. on_value Halts (value_of b t e) (λ x. on_value Halts (stored op op_at (t (Variable (record { variable = v; component = i }))) x)
        (λ z. Goes (with_cell (record { variable = v; component = i }) z (variables_of t)) []))))
    index_alike v op op_at e lv (Err f) w = refl
    index_alike v op op_at e lv (Ok i) w =
        subst (λ r. HostAlike (on_value Halts (value_of b s e) (λ x. on_value Halts (stored op op_at (s (Variable (record { variable = v; component = i }))) x)
        (λ z. Goes (with_cell (record { variable = v; component = i }) z (variables_of s)) [])))
        (on_value Halts r (λ x. on_value Halts (stored op op_at (t (Variable (record { variable = v; component = i }))) x)
        (λ z. Goes (with_cell (record { variable = v; component = i }) z (variables_of t)) [])))) (value_alike e)
        (assigned_alike (record { variable = v; component = i }) op op_at (same (Variable (record { variable = v; component = i })) (has_var v i lv (w i refl))) (value_of b s e))

    dat_alike : (d : ℕ) → d < dat_count b.mesh → map s (dat_cells b d) ≡ map t (dat_cells b d)
    dat_alike d l = values_alike s t same (dat_cells b d)
        (each_flat There (λ x. map (λ i. Data (record { dat = d; element = x; component = i })) (numbers (dat_dim b.mesh d))) (numbers (set_size b.mesh (dat_set b.mesh d)))
        (λ j e k. let lt : j < set_size b.mesh (dat_set b.mesh d) = omega (arith, k, length-range_with_len 0 (set_size b.mesh (dat_set b.mesh d))) in
        let at : get_or (numbers (set_size b.mesh (dat_set b.mesh d))) j e ≡ 0 + j = get_or-range_with_len 0 (set_size b.mesh (dat_set b.mesh d)) j e lt in
        let x : ℕ = get_or (numbers (set_size b.mesh (dat_set b.mesh d))) j e in
        let lx : x < set_size b.mesh (dat_set b.mesh d) = omega (arith, lt, at) in
        each_row There (λ i. Data (record { dat = d; element = x; component = i })) (dat_dim b.mesh d) (λ i li. has_dat d x i l lx li)))

    pub act_alike : (a : ActValue) → ActFits b a → HostAlike (act_run b s a) (act_run b t a)
    act_alike (Clear v) f = ((λ c h. ap (λ z. if nat_eq c.variable v then pos 0 else z) (same (Variable c) h)), refl)
    act_alike (Assign v index op op_at e at) f =
        subst (λ r. HostAlike (assigned b s v index op op_at e at)
        (on_value Halts r (λ i. on_value Halts (value_of b t e)
        (λ x. on_value Halts (stored op op_at (t (Variable (record { variable = v; component = i }))) x)
        (λ z. Goes (with_cell (record { variable = v; component = i }) z (variables_of t)) []))))) (component_alike (var_at b v) at index)
        (index_alike v op op_at e f.0 (component_of b s (var_at b v) at index) (component_there v at index f.1))
    act_alike (Line text es) f =
        subst (λ r. HostAlike (act_run b s (Line text es)) (on_value Halts r (λ zs. prints b t (printed_line text zs)))) (values_of_alike es) (line_alike text (values_of b s es))
    act_alike (Print d file) f =
        subst (λ zs. HostAlike (act_run b s (Print d file)) (prints b t (printed_dat file b.mesh d zs))) (dat_alike d f) (prints_alike (printed_dat file b.mesh d (map s (dat_cells b d))))
    act_alike Exit f = prints_alike []
