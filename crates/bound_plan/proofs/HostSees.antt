-- What a statement of `main` does depends on the cells that exist.
use Rattle.std.proofs.Common.{◌≡◌, ◌<◌, ◌+◌, ℕ, ℤ, pos, negsuc, suc, true, false, List, [], ◌∷◌, length, get_or, map, Option, Some, None, Result, Ok, Err, refl, sym, ap, subst, ◌∙◌, ⊎_elim, arith}
use Rattle.std.specs.Prelude.{◌&&◌, nat_eq, nat_lt, if◌then◌else◌}
use Rattle.std.proofs.lemmas.Bool.{cases_Bool, cond-true, cond-false, ltb-true, or_right}
use Rattle.std.proofs.lemmas.List.FromFn.{length-range_with_len, get_or-range_with_len, length-map-range_with_len, get_or-map-range_with_len}
use Rattle.c_tree.specs.declared.lexer.tokens.Pos.{Pos}
use Rattle.c_tree.specs.declared.declarations.AssignOp.{AssignOp}
use Rattle.kernel_model.specs.declared.types.faults.KernelFault.{KernelFault}
use Rattle.op_num.specs.declared.refusals.Fault.TheVariants.{Index}
use Rattle.kernel_model.specs.Numbers.{fault}
use Rattle.kernel_model.specs.Meaning.{on_value, index_in, stored}
use Rattle.mesh_decl.specs.declared.owners.Owners.{Owners}
use Rattle.mesh_decl.specs.Mesh.{set_size, dat_count, dat_set, dat_dim}
use Rattle.mesh_decl.specs.Printed.{printed_dat, printed_line}
use Rattle.local_mesh.specs.declared.types.RankMesh.{RankMesh}
use Rattle.schedule_model.specs.Cells.{Cell, Data, Variable, VarCell, Store, same_cell}
use Rattle.schedule_model.specs.Program.{Hosted, Halts, Goes}
use Rattle.schedule_model.specs.Layout.{among, Exists, HostedAlike}
use Rattle.run_model.specs.OnWindows.{no_cell}
use Rattle.kernel_model.specs.View.{RExprTree}
use Rattle.bound_program.specs.HostExpr.{value}
use Rattle.bound_program.specs.Values.{BoundValue, VarValue, ActValue, Clear, Assign, Line, Print, Exit}
use Rattle.bound_program.specs.Fits.{Fits, ActFits, var_at}
use Rattle.run_model.specs.Windows.{numbers}
use Rattle.run_model.specs.Hosts.{variables_of, with_cell, with_zeros, variable_cells, dat_cells, value_of, values_of, component_of, prints, assigned, act_run}
use Rattle.run_model.specs.Constants.{no_constant}
use Rattle.run_model.specs.Arguments.{var_width}
use Rattle.loop_plan.specs.Values.{PlanValue}
use Rattle.bound_plan.specs.Variables.{variable_at}
use Rattle.bound_plan.specs.Setups.{setup_of}
use Rattle.bound_plan.specs.Layouts.{layout_of}
use Rattle.bound_plan.specs.Given.{HaloLaws}
use Rattle.bound_plan.proofs.Among.{among_at, piece_among, at_among}
use Rattle.bound_plan.proofs.Indexed.{indexed, is_variable}
use Rattle.bound_plan.proofs.FrameFacts.{dat_cell}

-- stores that agree on the cells of a list give it the same values
same_values : (s t : Store) (xs : List Cell) → ((c : Cell) → among xs c ≡ true → s c ≡ t c) → map s xs ≡ map t xs
same_values s t [] h = refl
same_values s t (x ∷ xs) h =
    ap (λ z. z ∷ map s xs) (h x (among_at (x ∷ xs) 0 x (omega arith) refl))
    ∙ ap (λ zs. t x ∷ zs) (same_values s t xs (λ c m. h c (or_right (same_cell x c) (among xs c) m)))

same_list : (f g : VarCell → ℤ) (xs : List VarCell) → ((j : ℕ) → j < length xs → f (get_or xs j no_constant) ≡ g (get_or xs j no_constant)) → map f xs ≡ map g xs
same_list f g [] h = refl
same_list f g (x ∷ xs) h = ap (λ z. z ∷ map f xs) (h 0 (omega arith)) ∙ ap (λ zs. g x ∷ zs) (same_list f g xs (λ j l. h (suc j) (omega arith)))

index_ok : (count : ℕ) (at : Pos) (z : ℤ) (i : ℕ) → index_in count at z ≡ Ok i → i < count
index_ok count at (pos j) i h = ⊎_elim
    (λ (t : nat_lt j count ≡ true).
    let e : Ok j ≡ Ok i = sym (cond-true (nat_lt j count) (Ok j) (Err (fault Index at)) t) ∙ h in
    let k : j ≡ i = cc in
    let l : j < count = ltb-true j count t in omega arith)
    (λ (t : nat_lt j count ≡ false).
    let e = sym (cond-false (nat_lt j count) (Ok j) (Err (fault Index at)) t) ∙ h in
    let q : ⊥ = cc in absurd q)
    (cases_Bool (nat_lt j count))
index_ok count at (negsuc j) i h = let q : ⊥ = cc in absurd q

module _ (halos : HaloLaws) (b : BoundValue) (o : Owners) (meshes : List RankMesh) (p : PlanValue) (fits : Fits b) (s t : Store)
    (agree : (c : Cell) → Exists (setup_of b o meshes p) (layout_of b o meshes p) c → s c ≡ t c) where
  abbrev Alike : Hosted KernelFault → Hosted KernelFault → Type 0
  Alike x y = HostedAlike (setup_of b o meshes p) (layout_of b o meshes p) x y

  variable_same : (v i : ℕ) → v < length b.vars → i < var_width b v → s (Variable (record { variable = v; component = i })) ≡ t (Variable (record { variable = v; component = i }))
  variable_same v i lv li = agree (Variable (record { variable = v; component = i })) (indexed b (record { variable = v; component = i }) lv li)

  all_same : (j : ℕ) → j < length (variable_cells b) → s (Variable (variable_at b j)) ≡ t (Variable (variable_at b j))
  all_same j l = let w = is_variable b j l in variable_same (variable_at b j).variable (variable_at b j).component w.0 w.1

  cells_same : map (variables_of s) (variable_cells b) ≡ map (variables_of t) (variable_cells b)
  cells_same = same_list (variables_of s) (variables_of t) (variable_cells b) all_same

  value_same : (e : RExprTree) → value_of b s e ≡ value_of b t e
  value_same e = ap (λ xs. value [] xs e) cells_same

  values_same : (es : List RExprTree) → values_of b s es ≡ values_of b t es
  values_same [] = refl
  values_same (e ∷ es) =
      ap (λ r. on_value Err r (λ z. on_value Err (values_of b s es) (λ zs. Ok (z ∷ zs)))) (value_same e)
      ∙ ap (λ q. on_value Err (value_of b t e) (λ z. on_value Err q (λ zs. Ok (z ∷ zs)))) (values_same es)

  dat_same : (d : ℕ) → d < dat_count b.mesh → map s (dat_cells b d) ≡ map t (dat_cells b d)
  dat_same d l = same_values s t (dat_cells b d) (λ c m. agree c (there c m))
    where
      row : ℕ → List Cell
      row x = map (λ i. Data (record { dat = d; element = x; component = i })) (numbers (dat_dim b.mesh d))

      there : (c : Cell) → among (dat_cells b d) c ≡ true → Exists (setup_of b o meshes p) (layout_of b o meshes p) c
      there c m =
          let u = piece_among (λ x. map (λ i. Data (record { dat = d; element = x; component = i })) (numbers (dat_dim b.mesh d))) (numbers (set_size b.mesh (dat_set b.mesh d))) c m in
          let x : ℕ = get_or (numbers (set_size b.mesh (dat_set b.mesh d))) u.0 0 in
          let lu : u.0 < length (numbers (set_size b.mesh (dat_set b.mesh d))) = u.1 in
          let ls : u.0 < set_size b.mesh (dat_set b.mesh d) = omega (arith, length-range_with_len 0 (set_size b.mesh (dat_set b.mesh d))) in
          let xu : x ≡ 0 + u.0 = get_or-range_with_len 0 (set_size b.mesh (dat_set b.mesh d)) u.0 0 ls in
          let w = at_among (map (λ i. Data (record { dat = d; element = x; component = i })) (numbers (dat_dim b.mesh d))) c u.2 in
          let lw : w.0 < length (map (λ i. Data (record { dat = d; element = x; component = i })) (numbers (dat_dim b.mesh d))) = w.1 in
          let li : w.0 < dat_dim b.mesh d = omega (arith, length-map-range_with_len (λ i. Data (record { dat = d; element = x; component = i })) 0 (dat_dim b.mesh d)) in
          subst (Exists (setup_of b o meshes p) (layout_of b o meshes p))
          (sym (get_or-map-range_with_len (λ i. Data (record { dat = d; element = x; component = i })) 0 (dat_dim b.mesh d) w.0 w.0 no_cell li (omega arith)) ∙ w.2)
          (dat_cell halos b o meshes p fits d x w.0 l (omega arith) li)

  -- ---- alike

  prints_alike : (ws : List ℕ) → Alike (prints b s ws) (prints b t ws)
  prints_alike ws = (all_same, refl)

  clear_alike : (v : ℕ) → Alike (Goes (with_zeros v (variables_of s)) []) (Goes (with_zeros v (variables_of t)) [])
  clear_alike v = (λ j l. ap (λ z. if nat_eq (variable_at b j).variable v then pos 0 else z) (all_same j l), refl)

  set_alike : (c : VarCell) (z : ℤ) → Alike (Goes (with_cell c z (variables_of s)) []) (Goes (with_cell c z (variables_of t)) [])
  set_alike c z = (λ j l. ap (λ y. if nat_eq (variable_at b j).variable c.variable && nat_eq (variable_at b j).component c.component then z else y) (all_same j l), refl)

  line_alike : (text : List ℕ) (r : Result (List ℤ) KernelFault)
      → Alike (on_value Halts r (λ zs. prints b s (printed_line text zs))) (on_value Halts r (λ zs. prints b t (printed_line text zs)))
  line_alike text (Err f) = refl
  line_alike text (Ok zs) = prints_alike (printed_line text zs)

  store_alike : (c : VarCell) (r : Result ℤ KernelFault)
      → Alike (on_value Halts r (λ z. Goes (with_cell c z (variables_of s)) [])) (on_value Halts r (λ z. Goes (with_cell c z (variables_of t)) []))
  store_alike c (Err f) = refl
  store_alike c (Ok z) = set_alike c z

  value_alike : (c : VarCell) (op : AssignOp) (op_at : Pos) → s (Variable c) ≡ t (Variable c) → (r : Result ℤ KernelFault)
      → Alike (on_value Halts r (λ x. on_value Halts (stored op op_at (s (Variable c)) x) (λ z. Goes (with_cell c z (variables_of s)) [])))
      (on_value Halts r (λ x. on_value Halts (stored op op_at (t (Variable c)) x) (λ z. Goes (with_cell c z (variables_of t)) [])))
  value_alike c op op_at same (Err f) = refl
  value_alike c op op_at same (Ok x) =
      subst (λ y. Alike (on_value Halts (stored op op_at (s (Variable c)) x) (λ z. Goes (with_cell c z (variables_of s)) []))
      (on_value Halts (stored op op_at y x) (λ z. Goes (with_cell c z (variables_of t)) []))) same
      (store_alike c (stored op op_at (s (Variable c)) x))

  index_alike : (v : ℕ) (op : AssignOp) (op_at : Pos) (e : RExprTree) → v < length b.vars → (r : Result ℕ KernelFault) → ((i : ℕ) → r ≡ Ok i → i < var_width b v)
      → Alike (on_value Halts r (λ i. on_value Halts (value_of b s e) (λ x. on_value Halts (stored op op_at (s (Variable (record { variable = v; component = i }))) x)
      (λ z. Goes (with_cell (record { variable = v; component = i }) z (variables_of s)) []))))
      (on_value Halts r (λ i. on_value Halts (value_of b t e) (λ x. on_value Halts (stored op op_at (t (Variable (record { variable = v; component = i }))) x)
      (λ z. Goes (with_cell (record { variable = v; component = i }) z (variables_of t)) []))))
  index_alike v op op_at e lv (Err f) w = refl
  index_alike v op op_at e lv (Ok i) w =
      subst (λ r. Alike (on_value Halts (value_of b s e) (λ x. on_value Halts (stored op op_at (s (Variable (record { variable = v; component = i }))) x)
      (λ z. Goes (with_cell (record { variable = v; component = i }) z (variables_of s)) [])))
      (on_value Halts r (λ x. on_value Halts (stored op op_at (t (Variable (record { variable = v; component = i }))) x)
      (λ z. Goes (with_cell (record { variable = v; component = i }) z (variables_of t)) [])))) (value_same e)
      (value_alike (record { variable = v; component = i }) op op_at (variable_same v i lv (w i refl)) (value_of b s e))

  -- which component an assignment names
  component_there : (v : ℕ) (at : Pos) (index : Option RExprTree) → 0 < var_width b v → (i : ℕ) → component_of b s (var_at b v) at index ≡ Ok i → i < var_width b v
  component_there v at None some i h = let e : 0 ≡ i = cc in omega arith
  component_there v at (Some x) some i h = by_value (value_of b s x) h
    where
      by_value : (r : Result ℤ KernelFault) → on_value Err r (λ z. index_in (var_width b v) at z) ≡ Ok i → i < var_width b v
      by_value (Err f) h = let q : ⊥ = cc in absurd q
      by_value (Ok z) h = index_ok (var_width b v) at z i h

  component_same : (v : VarValue) (at : Pos) (index : Option RExprTree) → component_of b s v at index ≡ component_of b t v at index
  component_same v at None = refl
  component_same v at (Some x) = ap (λ r. on_value Err r (λ z. index_in (length v.start) at z)) (value_same x)

  pub act_alike : (a : ActValue) → ActFits b a → Alike (act_run b s a) (act_run b t a)
  act_alike (Clear v) f = clear_alike v
  act_alike (Assign v index op op_at e at) f =
      subst (λ r. Alike (assigned b s v index op op_at e at)
      (on_value Halts r (λ i. on_value Halts (value_of b t e)
      (λ x. on_value Halts (stored op op_at (t (Variable (record { variable = v; component = i }))) x)
      (λ z. Goes (with_cell (record { variable = v; component = i }) z (variables_of t)) []))))) (component_same (var_at b v) at index)
      (index_alike v op op_at e f.0 (component_of b s (var_at b v) at index) (component_there v at index f.1))
  act_alike (Line text es) f =
      subst (λ r. Alike (act_run b s (Line text es)) (on_value Halts r (λ zs. prints b t (printed_line text zs)))) (values_same es) (line_alike text (values_of b s es))
  act_alike (Print d file) f =
      subst (λ zs. Alike (act_run b s (Print d file)) (prints b t (printed_dat file b.mesh d zs))) (dat_same d f) (prints_alike (printed_dat file b.mesh d (map s (dat_cells b d))))
  act_alike Exit f = prints_alike []
