-- An element's run on whole arrays ends as the one on its windows: with the same fault, or with arrays that hold the values of all cells.
use Rattle.std.proofs.Common.{◌≡◌, ◌<◌, ◌+◌, ℕ, zero, suc, ℤ, pos, Bool, true, false, List, [], ◌∷◌, map, length, get_or, Option, Some, None, refl, sym, ap, ◌∙◌, subst, inl, inr, arith}
use Rattle.std.specs.Prelude.{nat_eq, slice_get}
use Rattle.std.proofs.lemmas.Bool.{eq-eqb, eqb-true, and_parts, and_from}
use Rattle.std.proofs.lemmas.Nat.{mul-add-lt}
use Rattle.std.proofs.lemmas.List.{get_or-map, length-map}
use Rattle.kernel_model.specs.declared.types.faults.KernelFault.{KernelFault}
use Rattle.kernel_model.specs.declared.types.kernels.RKernel.{RKernel}
use Rattle.kernel_model.specs.Meaning.{Target, target_at, cell, read_arg, kernel_meaning}
use Rattle.kernel_model.specs.Meaning as kernel
use Rattle.kernel_model.specs.Obeys.{mode_at}
use Rattle.kernel_model.specs.Independence.{Fits as InStore, same_cell, store_after, IsReached, IsCopy, SameEnd, Transport, OthersStay, ShapeStays}
use Rattle.mesh_decl.specs.Mesh.{map_count, dat_dim, set_size, dat_set, IsMapAt}
use Rattle.schedule_model.specs.Cells.{Cell, Data, Variable, Store}
use Rattle.schedule_model.specs.Effects.{Ran, Faulted, Finished}
use Rattle.schedule_model.specs.Layout.{lookup, of_core}
use Rattle.run_model.specs.OnWindows.{no_cell, OnWindows, core_of}
use Rattle.bound_program.specs.Values.{BoundValue, SiteValue}
use Rattle.bound_program.specs.Fits.{SiteFits, ConstantsFit}
use Rattle.run_model.specs.Windows.{window_cells, windows}
use Rattle.run_model.specs.Kernels.{kernel_at, constant_values, run_of, element_run as cells_run}
use Rattle.run_model.specs.Arguments.{modes_of, cell_of}
use Rattle.run_model.specs.Constants.{ConstantsAreNumbered}
use Rattle.run_model.specs.Laws.{WindowsAreReached}
use Rattle.run_model.specs.Arrays.{Arrays, array_of, target_of}
use Rattle.run_model.specs.Holds.{IsCell, array_with, index_of, Holds}
use Rattle.run_model.specs.Program.{kernel_run, element_run}
use Rattle.run_model.proofs.sequential_run.Cells.{apart, counted, there, arrays, places}
use Rattle.run_model.proofs.sequential_run.Constants.{constants_same}
use Rattle.run_model.proofs.sequential_run.Lookups.{Stands, LooksUp, looks_up}

-- tests of one and the same are one
same_test : {P : Type 0} (x y : Bool) → (x ≡ true → P) → (P → x ≡ true) → (y ≡ true → P) → (P → y ≡ true) → x ≡ y
same_test true true f g h k = refl
same_test false false f g h k = refl
same_test true false f g h k = sym (k (f refl))
same_test false true f g h k = g (h refl)

same_kernel : (xs : List RKernel) (n : ℕ) → kernel_at xs n ≡ slice_get xs n
same_kernel [] n = refl
same_kernel (x ∷ xs) zero = refl
same_kernel (x ∷ xs) (suc n) = same_kernel xs n

module _ (b : BoundValue) where
  -- both runs of an element have one fault, or both finish and the arrays hold the store
  abbrev pub Ends : kernel.Ran → Ran KernelFault → Type 0
  Ends (kernel.Finished l) (Finished t) = Holds b l t
  Ends (kernel.Stopped l f) (Faulted g) = f ≡ g
  Ends (kernel.Finished l) (Faulted g) = ⊥
  Ends (kernel.Stopped l f) (Finished t) = ⊥

  -- a cell's place is within the arrays
  within : (l : Arrays) (s : Store) → Holds b l s → (c : Cell) → IsCell b c → (array_with b c < length l) × (index_of b c < length (get_or l (array_with b c) []))
  within l s h (Data c) is = (
    omega (arith, h.count, is.0),
    omega (arith, h.dats c.dat is.0, mul-add-lt c.element (dat_dim b.mesh c.dat) c.component (set_size b.mesh (dat_set b.mesh c.dat)) is.1 is.2),
  )
  within l s h (Variable v) is = (omega (arith, h.count, is.0), omega (arith, h.vars v.variable is.0, is.1))

  -- ---- an element

  module _ (maps : (n : ℕ) → n < map_count b.mesh → IsMapAt b.mesh n) (windows_reached : WindowsAreReached)
      (site : SiteValue) (fits : SiteFits b site) (e : ℕ) (le : e < set_size b.mesh site.set) where
    abbrev cells : List Cell
    cells = window_cells b site.args e

    abbrev ws : List Target
    ws = windows b site.args e

    abbrev ts : List Target
    ts = map (target_of b e) site.args

    abbrev dim : ℕ → ℕ
    dim a = (mode_at (modes_of b site) a).dim

    abbrev component : ℕ → ℕ → Cell
    component = cell_of b site e

    on : OnWindows (modes_of b site) component cells ws
    on = windows_reached b site e

    is : (a i : ℕ) → i < dim a → IsCell b (component a i)
    is = there b maps site fits e le

    array_is : (a i : ℕ) → i < dim a → (target_at ts a).array ≡ array_with b (component a i)
    array_is = arrays b maps site fits e le

    place_is : (a i : ℕ) → i < dim a → (target_at ts a).from + i ≡ index_of b (component a i)
    place_is = places b maps site fits e le

    in_windows : (s : Store) → InStore ws (map s cells ∷ [])
    in_windows s = record {
      arrays = λ a i lt. subst (λ x. x < 1) (sym (on.arrays a i (subst (λ c. i < c) (on.counts a) lt))) (omega arith);
      cells = λ a i lt.
          let li : i < dim a = subst (λ c. i < c) (on.counts a) lt in
          subst (λ x. (target_at ws a).from + i < length (get_or (map s cells ∷ []) x [])) (sym (on.arrays a i li))
          (subst (λ m. (target_at ws a).from + i < m) (sym (length-map cells s)) (on.inside a i li));
    }

    in_arrays : (l : Arrays) (s : Store) → Holds b l s → InStore ts l
    in_arrays l s h = record {
      arrays = λ a i lt.
          let li : i < dim a = subst (λ c. i < c) (counted b maps site fits e le a) lt in
          subst (λ x. x < length l) (sym (array_is a i li)) (within l s h (component a i) (is a i li)).0;
      cells = λ a i lt.
          let li : i < dim a = subst (λ c. i < c) (counted b maps site fits e le a) lt in
          subst (λ x. (target_at ts a).from + i < length (get_or l x [])) (sym (array_is a i li))
          (subst (λ x. x < length (get_or l (array_with b (component a i)) [])) (sym (place_is a i li)) (within l s h (component a i) (is a i li)).1);
    }

    -- components are one cell where their places are
    one_window : (a i d j : ℕ) → i < dim a → j < dim d → same_cell ws a i d j ≡ true → component a i ≡ component d j
    one_window a i d j li lj t =
        let p = and_parts (nat_eq (target_at ws a).array (target_at ws d).array) (nat_eq ((target_at ws a).from + i) ((target_at ws d).from + j)) t in
        sym (on.are a i li) ∙ ap (λ m. get_or cells m no_cell) (eqb-true ((target_at ws a).from + i) ((target_at ws d).from + j) p.1) ∙ on.are d j lj

    in_one_window : (a i d j : ℕ) → i < dim a → j < dim d → component a i ≡ component d j → same_cell ws a i d j ≡ true
    in_one_window a i d j li lj t =
        and_from (nat_eq (target_at ws a).array (target_at ws d).array) (nat_eq ((target_at ws a).from + i) ((target_at ws d).from + j))
        (eq-eqb (target_at ws a).array (target_at ws d).array (on.arrays a i li ∙ sym (on.arrays d j lj)))
        (eq-eqb ((target_at ws a).from + i) ((target_at ws d).from + j)
        (on.once ((target_at ws a).from + i) ((target_at ws d).from + j) (on.inside a i li) (on.inside d j lj) (on.are a i li ∙ t ∙ sym (on.are d j lj))))

    one_place : (a i d j : ℕ) → i < dim a → j < dim d → same_cell ts a i d j ≡ true → component a i ≡ component d j
    one_place a i d j li lj t =
        let p = and_parts (nat_eq (target_at ts a).array (target_at ts d).array) (nat_eq ((target_at ts a).from + i) ((target_at ts d).from + j)) t in
        apart b (component a i) (component d j) (is a i li) (is d j lj)
        (sym (array_is a i li) ∙ eqb-true (target_at ts a).array (target_at ts d).array p.0 ∙ array_is d j lj)
        (sym (place_is a i li) ∙ eqb-true ((target_at ts a).from + i) ((target_at ts d).from + j) p.1 ∙ place_is d j lj)

    in_one_place : (a i d j : ℕ) → i < dim a → j < dim d → component a i ≡ component d j → same_cell ts a i d j ≡ true
    in_one_place a i d j li lj t =
        and_from (nat_eq (target_at ts a).array (target_at ts d).array) (nat_eq ((target_at ts a).from + i) ((target_at ts d).from + j))
        (eq-eqb (target_at ts a).array (target_at ts d).array (array_is a i li ∙ ap (array_with b) t ∙ sym (array_is d j lj)))
        (eq-eqb ((target_at ts a).from + i) ((target_at ts d).from + j) (place_is a i li ∙ ap (index_of b) t ∙ sym (place_is d j lj)))

    -- a component's value in the arrays, and in its window
    in_place : (l : Arrays) (a i : ℕ) → i < dim a → read_arg ts l a i ≡ cell l (array_with b (component a i)) (index_of b (component a i))
    in_place l a i li = ap (λ x. cell l x ((target_at ts a).from + i)) (array_is a i li) ∙ ap (cell l (array_with b (component a i))) (place_is a i li)

    in_window : (m : kernel.Store) (a i : ℕ) → i < dim a → read_arg ws m a i ≡ get_or (get_or m 0 []) ((target_at ws a).from + i) (pos 0)
    in_window m a i li = ap (λ x. cell m x ((target_at ws a).from + i)) (on.arrays a i li)

    copy : (l : Arrays) (s : Store) → Holds b l s → IsCopy ws ts (map s cells ∷ []) l
    copy l s h = record {
      counts = λ a. on.counts a ∙ sym (counted b maps site fits e le a);
      aliases = λ a i d j lt mt.
          let li : i < dim a = subst (λ c. i < c) (on.counts a) lt in
          let lj : j < dim d = subst (λ c. j < c) (on.counts d) mt in
          same_test (same_cell ws a i d j) (same_cell ts a i d j)
          (one_window a i d j li lj) (in_one_window a i d j li lj) (one_place a i d j li lj) (in_one_place a i d j li lj);
      cells = λ a i lt.
          let li : i < dim a = subst (λ c. i < c) (on.counts a) lt in
          in_window (map s cells ∷ []) a i li
          ∙ get_or-map s cells ((target_at ws a).from + i) no_cell (pos 0) (on.inside a i li) ∙ ap s (on.are a i li)
          ∙ sym (in_place l a i li ∙ h.values (component a i) (is a i li));
    }

    -- the value of a cell after runs that left copies
    module _ (s : Store) (m : kernel.Store) (l : Arrays) (left : IsCopy ws ts m l) (long : length (get_or m 0 []) ≡ length cells)
        (others : (c : Cell) → IsCell b c → (IsReached ts (array_with b c) (index_of b c) → ⊥) → cell l (array_with b c) (index_of b c) ≡ s c) where
      unreached : (c : Cell) → IsCell b c → (Stands cells c → ⊥) → IsReached ts (array_with b c) (index_of b c) → ⊥
      unreached c here none r =
          let li : r.1 < dim r.0 = subst (λ n. r.1 < n) (counted b maps site fits e le r.0) r.2 in
          let same : component r.0 r.1 ≡ c = apart b (component r.0 r.1) c (is r.0 r.1 li) here (sym (array_is r.0 r.1 li) ∙ r.3) (sym (place_is r.0 r.1 li) ∙ r.4) in
          none ((target_at ws r.0).from + r.1, on.inside r.0 r.1 li, on.are r.0 r.1 li ∙ same)

      -- what a look-up among the windows finds is the value in the arrays
      value_left : (c : Cell) → IsCell b c → LooksUp cells (get_or m 0 []) c (s c) → cell l (array_with b c) (index_of b c) ≡ lookup cells (get_or m 0 []) c (s c)
      value_left c here (inl h) =
          let r : (a : ℕ) × (i : ℕ) × (i < dim a) × ((target_at ws a).from + i ≡ h.0) = on.covered h.0 h.1 in
          let same : component r.0 r.1 ≡ c = sym (on.are r.0 r.1 r.2) ∙ ap (λ n. get_or cells n no_cell) r.3 ∙ h.2 in
          ap (λ x. cell l (array_with b x) (index_of b x)) (sym same)
          ∙ sym (in_place l r.0 r.1 r.2)
          ∙ sym (left.cells r.0 r.1 (subst (λ n. r.1 < n) (sym (on.counts r.0)) r.2))
          ∙ in_window m r.0 r.1 r.2 ∙ ap (λ n. get_or (get_or m 0 []) n (pos 0)) r.3 ∙ sym h.3
      value_left c here (inr h) = others c here (unreached c here h.0) ∙ sym h.1

    -- runs that end alike and leave copies
    ends : (l : Arrays) (s : Store) → Holds b l s → (x y : kernel.Ran) → SameEnd x y → IsCopy ws ts (store_after x) (store_after y)
        → length (get_or (store_after x) 0 []) ≡ length cells
        → length (store_after y) ≡ length l
        → ((n : ℕ) → length (get_or (store_after y) n []) ≡ length (get_or l n []))
        → ((c : Cell) → IsCell b c → (IsReached ts (array_with b c) (index_of b c) → ⊥) → cell (store_after y) (array_with b c) (index_of b c) ≡ s c)
        → Ends y (of_core cells s (core_of x))
    ends l s h (kernel.Finished m) (kernel.Finished k) same left long count lengths others = record {
      count = count ∙ h.count;
      dats = λ d lt. lengths d ∙ h.dats d lt;
      vars = λ v lt. lengths (array_of b v) ∙ h.vars v lt;
      values = λ c here. value_left s m k left long others c here (looks_up cells (get_or m 0 []) c (s c) long);
    }
    ends l s h (kernel.Stopped m f) (kernel.Stopped k g) same left long count lengths others = sym same
    ends l s h (kernel.Finished m) (kernel.Stopped k g) same left long count lengths others = absurd same
    ends l s h (kernel.Stopped m f) (kernel.Finished k) same left long count lengths others = absurd same

    module _ (transport : Transport) (others : OthersStay) (shape : ShapeStays) (numbered : ConstantsAreNumbered) (constant : ConstantsFit b) where
      kernel_ends : (o : Option RKernel) (l : Arrays) (s : Store) → Holds b l s → Ends (kernel_run b o site e l) (run_of b o site e s)
      kernel_ends None l s h = h
      kernel_ends (Some k) l s h =
          let cs : List ℤ = constant_values b s in
          let both = transport k cs ws ts (map s cells ∷ []) l (in_windows s) (in_arrays l s h) (copy l s h) in
          let stay = shape k ts cs l (in_arrays l s h) in
          subst (λ zs. Ends (kernel_meaning ts zs k l) (run_of b (Some k) site e s)) (sym (constants_same b constant l s h numbered))
          (ends l s h (kernel_meaning ws cs k (map s cells ∷ [])) (kernel_meaning ts cs k l) both.0 both.1
          ((shape k ws cs (map s cells ∷ []) (in_windows s)).1 0 ∙ length-map cells s) stay.0 stay.1
          (λ c here none. others k ts cs l (array_with b c) (index_of b c) (in_arrays l s h) none ∙ h.values c here))

      pub element_ends : (l : Arrays) (s : Store) → Holds b l s → Ends (element_run b site e l) (cells_run b site e s)
      element_ends l s h =
          subst (λ o. Ends (kernel_run b o site e l) (cells_run b site e s)) (same_kernel b.kernels site.kernel) (kernel_ends (kernel_at b.kernels site.kernel) l s h)
