-- The scalars of a loop, one argument after another.
use Rattle.std.proofs.Common.{◌≡◌, ◌<◌, ◌≤◌, ◌+◌, ◌-◌, ℕ, true, false, List, [], ◌∷◌, ◌++◌, All, map, flat_map, length, take, get_or, Option, Some, None, refl, sym, ap, ap₂, ◌∙◌, subst, ⊎_elim, arith, length-append, append_assoc}
use Rattle.std.specs.Prelude.{◌||◌, nat_eq, nat_lt, option_map, if◌then◌else◌}
use Rattle.std.proofs.lemmas.Bool.{cases_lt, cases_Bool, false≢true, cond-true, or_cases, eqb-true, lt-ltb}
use Rattle.std.proofs.lemmas.List.{append-nil, take_all, take_more, length-take-le, get_or-take, get_or_default}
use Rattle.std.proofs.lemmas.List.FromFn.{length-map-range_with_len}
use Rattle.std.proofs.lemmas.List.Concat.{flat_map-append}
use Rattle.op_num.specs.Reduction.{Reduction}
use Rattle.op_num.specs.declared.reductions.access.Access.{Access}
use Rattle.schedule_model.specs.Scatter.{Once}
use Rattle.bound_program.specs.declared.sites.Arg.{Arg}
use Rattle.bound_program.specs.declared.sites.Arg.TheVariants.{Dat, Global}
use Rattle.bound_program.specs.Values.{BoundValue}
use Rattle.bound_program.specs.Fits.{AllApart, site_at}
use Rattle.run_model.specs.Windows.{Whole, different, numbers, cells_in, window_cells}
use Rattle.run_model.specs.Hosts.{variable_cells}
use Rattle.run_model.specs.Arguments.{no_arg, var_width}
use Rattle.rank_state.specs.declared.scalars.Scalar.{Scalar}
use Rattle.rank_state.specs.declared.scalars.Scalar.TheVariants.{Value, Amount}
use Rattle.rank_state.specs.declared.scalars.Operation.{Operation}
use Rattle.rank_state.specs.Windows.{operation, scalar_cells, has_slot}
use Rattle.rank_state.specs.Joins.{has_index}
use Rattle.bound_plan.specs.Variables.{reduction_of, reduced_by, cells_before, variable_at, reduces_at}
use Rattle.bound_plan.specs.Windows.{on_variables}
use Rattle.bound_plan.proofs.Public.{named_once, indexed, is_variable}
use Rattle.rank_layout.specs.Numbered.{ArgNamed}
use Rattle.rank_layout.specs.Tables.{Slot, no_slot, slots_by, arg_slots, slots}
use Rattle.rank_layout.specs.Made.{IsSiteScalar, EachIsScalar, AreSiteScalars}
use Rattle.rank_layout.specs.Scalars.{operation_by, AreOperations, names, cell_scalars, cell_operations, site_slots, slots_before, new_scalars, new_operations}
use Rattle.rank_layout.proofs.SeenSoFar.{different_old, different_new}
use Rattle.rank_layout.proofs.FlatMaps.{flat_more}
use Rattle.rank_layout.proofs.SlotNumbers.{cell, slot, slot_value, slot_count, own_slots, arg_slot_at, before_more}
use Rattle.rank_layout.proofs.ScalarLists.{scalar_cells_append, each_append, slot_left, slot_right, index_left, index_right, each_range, cells_range, slot_range, index_range}
use Rattle.rank_layout.proofs.ArgVariables.{reduction_by, names_append, Named, named, reduced_first, reduced_named, wholes, wholes_append, has_names, same_wholes, operations_append, operations_length, same_operations}

-- the scalars of a variable that no earlier argument is on
pub new_is : (b : BoundValue) (base : ℕ) (earlier : List Arg) (x : Arg) (v : ℕ) (a : Access) (how : Option Operation) (from count : ℕ)
    → x ≡ Global v a → names v earlier ≡ false → how ≡ operation_by a → from ≡ cells_before b v → count ≡ var_width b v
    → cell_scalars how from base count ≡ new_scalars b base earlier x
new_is b base earlier x v a how from count is new h at wide =
    ap (λ z. cell_scalars z from base count) h
    ∙ ap (λ z. cell_scalars (operation_by a) z base count) at
    ∙ ap (λ z. cell_scalars (operation_by a) (cells_before b v) base z) wide
    ∙ sym (ap (λ c. if c then [] else cell_scalars (operation_by a) (cells_before b v) base (var_width b v)) new)
    ∙ sym (ap (new_scalars b base earlier) is)

-- ---- so far

module _ (b : BoundValue) (s : ℕ) where
  -- the slots of the first i arguments
  abbrev pub own : ℕ → List Slot
  own i = flat_map (arg_slots b s) (take i (site_at b s).args)

  -- the operations of the slots so far, and the scalars of the first i arguments
  pub record SoFar (i : ℕ) (how : List Operation) (scalars : List Scalar) : Type 0 where
    pub operations : AreOperations (slots_before b s ++ own i) how
    pub cells : flat_map (cells_in b) (different (wholes b 0 (take i (site_at b s).args))) ≡ scalar_cells (variable_at b) scalars
    pub each : EachIsScalar b s scalars
    pub covers : (j : ℕ) → length (slots_before b s) ≤ j → j < length how → has_slot j scalars ≡ true
    pub held : (v c : ℕ) → names v (take i (site_at b s).args) ≡ true → c < var_width b v → has_index (cells_before b v + c) scalars ≡ true

module _ (b : BoundValue) (s : ℕ) (ls : s < length b.sites) (apart : AllApart (site_at b s).args) (there : All (ArgNamed b) (site_at b s).args) where
  abbrev args : List Arg
  args = (site_at b s).args

  module _ (i : ℕ) (li : i < length args) where
    abbrev arg : Arg
    arg = get_or args i no_arg

    own_more : own b s (i + 1) ≡ own b s i ++ arg_slots b s arg
    own_more = flat_more (arg_slots b s) args i no_arg li

    wholes_more : wholes b 0 (take (i + 1) args) ≡ wholes b 0 (take i args) ++ wholes b 0 (arg ∷ [])
    wholes_more = ap (wholes b 0) (take_more args i no_arg li) ∙ wholes_append b 0 (take i args) (arg ∷ [])

    names_more : (v : ℕ) → names v (take (i + 1) args) ≡ (names v (take i args) || names v (arg ∷ []))
    names_more v = ap (names v) (take_more args i no_arg li) ∙ names_append v (take i args) (arg ∷ [])

    -- nothing is new
    unchanged : (how : List Operation) (scalars : List Scalar) → SoFar b s i how scalars → arg_slots b s arg ≡ []
        → different (wholes b 0 (take (i + 1) args)) ≡ different (wholes b 0 (take i args))
        → ((v : ℕ) → names v (take (i + 1) args) ≡ true → names v (take i args) ≡ true)
        → SoFar b s (i + 1) how scalars
    unchanged how scalars so none same old = record {
      operations = so.operations ∙ ap (λ z. map (λ (x : Slot). x.how) (slots_before b s ++ z)) (sym (own_more ∙ ap (λ z. own b s i ++ z) none ∙ append-nil (own b s i)));
      cells = ap (flat_map (cells_in b)) same ∙ so.cells;
      each = so.each;
      covers = so.covers;
      held = λ v c h l. so.held v c (old v h) l;
    }

    -- a dat
    of_dat : (d : ℕ) (w : _) (a : Access) → arg ≡ Dat d w a → (how : List Operation) (scalars : List Scalar) → SoFar b s i how scalars → SoFar b s (i + 1) how scalars
    of_dat d w a is how scalars so = unchanged how scalars so (ap (arg_slots b s) is)
        (ap different (wholes_more ∙ ap (λ z. wholes b 0 (take i args) ++ wholes b 0 (z ∷ [])) is ∙ append-nil (wholes b 0 (take i args))))
        (λ v h. ⊎_elim (λ t. t) (λ t. absurd (false≢true (sym (ap (λ z. names v (z ∷ [])) is) ∙ t)))
        (or_cases (names v (take i args)) (names v (arg ∷ [])) (sym (names_more v) ∙ h)))

    -- a variable that an earlier argument is on is only read
    only_read : (v : ℕ) (a : Access) → arg ≡ Global v a → names v (take i args) ≡ true → (r : Option Reduction) → reduction_of a ≡ r → reduction_of a ≡ None
    only_read v a is h None e = e
    only_read v a is h (Some o) e =
        let w : Named v (take i args) = named v (take i args) h in
        let long = length-take-le i args (omega (arith, li)) in
        let inside : w.number < i = omega (arith, w.there, long) in
        let at : get_or args w.number no_arg ≡ Global v w.access = sym (get_or-take i args w.number no_arg inside) ∙ w.is in
        let one : w.number ≡ i = named_once args apart w.number i v w.access a o (omega (arith, inside, li)) li at is e in
        absurd (omega (arith, one, inside))

    of_old : (v : ℕ) (a : Access) → arg ≡ Global v a → names v (take i args) ≡ true → (how : List Operation) (scalars : List Scalar) → SoFar b s i how scalars → SoFar b s (i + 1) how scalars
    of_old v a is h how scalars so = unchanged how scalars so
        (ap (arg_slots b s) is ∙ ap (λ r. slots_by r s (map (cell v) (numbers (var_width b v)))) (only_read v a is h (reduction_of a) refl))
        (ap different (wholes_more ∙ ap (λ z. wholes b 0 (take i args) ++ wholes b 0 (z ∷ [])) is)
        ∙ different_old (wholes b 0 (take i args)) (Whole v) (has_names b 0 (take i args) v ∙ h))
        (λ u g. ⊎_elim (λ t. t)
        (λ (t : names u (arg ∷ []) ≡ true).
        let same : names u (Global v a ∷ []) ≡ true = sym (ap (λ z. names u (z ∷ [])) is) ∙ t in
        let w : v ≡ u = ⊎_elim (λ q. eqb-true v u q) (λ q. absurd (false≢true q)) (or_cases (nat_eq v u) false same) in
        subst (λ z. names z (take i args) ≡ true) w h)
        (or_cases (names u (take i args)) (names u (arg ∷ [])) (sym (names_more u) ∙ g)))

    -- a new variable
    module _ (v : ℕ) (a : Access) (is : arg ≡ Global v a) (new : names v (take i args) ≡ false) (lv : v < length b.vars) where
      abbrev width : ℕ
      width = var_width b v

      abbrev from : ℕ
      from = cells_before b v

      -- the variable's cell stands at its number
      cell_is : (k : ℕ) → k < width → (from + k < length (variable_cells b)) × (variable_at b (from + k) ≡ cell v k)
      cell_is k lk = indexed b (cell v k) lv lk

      reduces_is : (k : ℕ) → k < width → reduces_at b s (variable_at b (from + k)) ≡ option_map operation (operation_by a)
      reduces_is k lk =
          ap (reduces_at b s) (cell_is k lk).1
          ∙ cond-true (nat_lt k width) (reduced_by args v) None (lt-ltb k width lk)
          ∙ reduced_first args i v a li is new ∙ reduction_by a

      own_is : (r : Option Operation) → operation_by a ≡ r
          → arg_slots b s arg ≡ slots_by (option_map operation r) s (map (cell v) (numbers width))
      own_is r e =
          ap (arg_slots b s) is
          ∙ ap (λ z. slots_by z s (map (cell v) (numbers width))) (reduction_by a ∙ ap (option_map operation) e)

      -- a cell that is read
      is_value : operation_by a ≡ None → (k : ℕ) → k < width → IsSiteScalar b s (Value (from + k))
      is_value e k lk = ((cell_is k lk).0, reduces_is k lk ∙ ap (option_map operation) e)

      -- a cell into which amounts are merged
      is_amount : (h : Operation) → operation_by a ≡ Some h → (base : ℕ) → base ≡ length (slots_before b s) + length (own b s i) → (k : ℕ) → k < width
          → IsSiteScalar b s (Amount (from + k) (base + k) h)
      is_amount h e base at k lk =
          let many : length (arg_slots b s arg) ≡ width = ap length (own_is (Some h) e) ∙ slot_count s v width (operation h) in
          let place = arg_slot_at b s i k ls li (omega (arith, many, lk)) in
          let number : length (slots_before b s) + (length (own b s i) + k) ≡ base + k = omega (arith, at) in
          let one : get_or (slots b) (base + k) no_slot ≡ get_or (arg_slots b s arg) k no_slot = ap (λ z. get_or (slots b) z no_slot) (sym number) ∙ place.1 in
          let value : get_or (arg_slots b s arg) k no_slot ≡ slot s (operation h) (cell v k) =
          ap (λ z. get_or z k no_slot) (own_is (Some h) e) ∙ slot_value s v width (operation h) k lk in (
            (cell_is k lk).0,
            reduces_is k lk ∙ ap (option_map operation) e,
            omega (arith, place.0, number),
            ap (λ (x : Slot). x.site) (one ∙ value),
            ap (λ (x : Slot). x.cell) (one ∙ value) ∙ sym (cell_is k lk).1,
          )

      -- the scalars of its cells
      each_new : (r : Option Operation) → operation_by a ≡ r → (base : ℕ) → base ≡ length (slots_before b s) + length (own b s i) → EachIsScalar b s (cell_scalars r from base width)
      each_new None e base at = each_range b s (λ k. Value (from + k)) 0 width (λ k l r. is_value e k (omega (arith, r)))
      each_new (Some h) e base at = each_range b s (λ k. Amount (from + k) (base + k) h) 0 width (λ k l r. is_amount h e base at k (omega (arith, r)))

      cells_new : (r : Option Operation) (base : ℕ) → scalar_cells (variable_at b) (cell_scalars r from base width) ≡ cells_in b (Whole v)
      cells_new None base = cells_range (variable_at b) v (λ k. Value (from + k)) 0 width (λ k l r. (cell_is k (omega (arith, r))).1)
      cells_new (Some h) base = cells_range (variable_at b) v (λ k. Amount (from + k) (base + k) h) 0 width (λ k l r. (cell_is k (omega (arith, r))).1)

      operations_new : (r : Option Operation) → operation_by a ≡ r → AreOperations (arg_slots b s arg) (cell_operations r width)
      operations_new None e = ap (map (λ (x : Slot). x.how)) (sym (own_is None e))
      operations_new (Some h) e = same_operations s v h (numbers width) ∙ ap (map (λ (x : Slot). x.how)) (sym (own_is (Some h) e))

      covers_new : (r : Option Operation) (base k : ℕ) → k < length (cell_operations r width) → has_slot (base + k) (cell_scalars r from base width) ≡ true
      covers_new None base k lk = absurd (omega arith)
      covers_new (Some h) base k lk =
          slot_range (λ j. from + j) base h 0 width k (omega arith) (let many = length-map-range_with_len (λ (j : ℕ). h) 0 width in omega (arith, lk, many))

      held_new : (r : Option Operation) (base k : ℕ) → k < width → has_index (from + k) (cell_scalars r from base width) ≡ true
      held_new None base k lk = index_range (λ j. Value (from + j)) from 0 width k (λ j. refl) (omega arith) (omega (arith, lk))
      held_new (Some h) base k lk = index_range (λ j. Amount (from + j) (base + j) h) from 0 width k (λ j. refl) (omega arith) (omega (arith, lk))

      names_either : (u : ℕ) → names u (take (i + 1) args) ≡ true → (P : Type 0) → (names u (take i args) ≡ true → P) → (v ≡ u → P) → P
      names_either u h P old last = ⊎_elim old
          (λ (t : names u (arg ∷ []) ≡ true).
          let same : names u (Global v a ∷ []) ≡ true = sym (ap (λ z. names u (z ∷ [])) is) ∙ t in
          last (⊎_elim (λ q. eqb-true v u q) (λ q. absurd (false≢true q)) (or_cases (nat_eq v u) false same)))
          (or_cases (names u (take i args)) (names u (arg ∷ [])) (sym (names_more u) ∙ h))

      of_new : (how : List Operation) (scalars : List Scalar) → SoFar b s i how scalars
          → SoFar b s (i + 1) (how ++ cell_operations (operation_by a) width) (scalars ++ cell_scalars (operation_by a) from (length how) width)
      of_new how scalars so =
          let r = operation_by a in
          let base : length how ≡ length (slots_before b s) + length (own b s i) =
          operations_length (slots_before b s ++ own b s i) how so.operations ∙ length-append (slots_before b s) (own b s i) in
          let reached_new : different (wholes b 0 (take (i + 1) args)) ≡ different (wholes b 0 (take i args)) ++ Whole v ∷ [] =
          ap different (wholes_more ∙ ap (λ z. wholes b 0 (take i args) ++ wholes b 0 (z ∷ [])) is)
          ∙ different_new (wholes b 0 (take i args)) (Whole v) (has_names b 0 (take i args) v ∙ new) in
          record {
            operations = operations_append (slots_before b s ++ own b s i) (arg_slots b s arg) how (cell_operations r width) so.operations (operations_new r refl)
                ∙ ap (map (λ (x : Slot). x.how)) (append_assoc (slots_before b s) (own b s i) (arg_slots b s arg) ∙ ap (λ z. slots_before b s ++ z) (sym own_more));
            cells = ap (flat_map (cells_in b)) reached_new
                ∙ flat_map-append (cells_in b) (different (wholes b 0 (take i args))) (Whole v ∷ [])
                ∙ ap₂ (λ x y. x ++ y) so.cells (append-nil (cells_in b (Whole v)) ∙ sym (cells_new r (length how)))
                ∙ sym (scalar_cells_append (variable_at b) scalars (cell_scalars r from (length how) width));
            each = each_append b s scalars (cell_scalars r from (length how) width) so.each (each_new r refl (length how) base);
            covers = λ j l h. ⊎_elim
                (λ (t : j < length how). slot_left j scalars (cell_scalars r from (length how) width) (so.covers j l t))
                (λ (t : length how ≤ j).
                let all = length-append how (cell_operations r width) in
                let inside : j - length how < length (cell_operations r width) = omega (arith, all, h, t) in
                let at : length how + (j - length how) ≡ j = omega (arith, t) in
                slot_right j scalars (cell_scalars r from (length how) width)
                (subst (λ z. has_slot z (cell_scalars r from (length how) width) ≡ true) at (covers_new r (length how) (j - length how) inside)))
                (cases_lt j (length how));
            held = λ u k h l. names_either u h (has_index (cells_before b u + k) (scalars ++ cell_scalars r from (length how) width) ≡ true)
                (λ t. index_left (cells_before b u + k) scalars (cell_scalars r from (length how) width) (so.held u k t l))
                (λ t. index_right (cells_before b u + k) scalars (cell_scalars r from (length how) width)
                (subst (λ z. has_index (cells_before b z + k) (cell_scalars r from (length how) width) ≡ true) t
                (held_new r (length how) k (subst (λ z. k < var_width b z) (sym t) l))));
          }

    -- ---- one argument more

    by_arg : (x : Arg) → arg ≡ x → (how more : List Operation) (scalars all : List Scalar) → SoFar b s i how scalars
        → more ≡ how ++ new_operations b (take i args) x → all ≡ scalars ++ new_scalars b (length how) (take i args) x → SoFar b s (i + 1) more all
    by_arg (Dat d w a) is how more scalars all so m n =
        subst (λ z. SoFar b s (i + 1) z all) (sym (m ∙ append-nil how)) (subst (SoFar b s (i + 1) how) (sym (n ∙ append-nil scalars)) (of_dat d w a is how scalars so))
    by_arg (Global v a) is how more scalars all so m n = ⊎_elim
        (λ (t : names v (take i args) ≡ true).
        let none = ap (λ c. if c then [] else cell_operations (operation_by a) (var_width b v)) t in
        let same = ap (λ c. if c then [] else cell_scalars (operation_by a) (cells_before b v) (length how) (var_width b v)) t in
        subst (λ z. SoFar b s (i + 1) z all) (sym (m ∙ ap (λ z. how ++ z) none ∙ append-nil how))
        (subst (SoFar b s (i + 1) how) (sym (n ∙ ap (λ z. scalars ++ z) same ∙ append-nil scalars)) (of_old v a is t how scalars so)))
        (λ (t : names v (take i args) ≡ false).
        let some = ap (λ c. if c then [] else cell_operations (operation_by a) (var_width b v)) t in
        let cells = ap (λ c. if c then [] else cell_scalars (operation_by a) (cells_before b v) (length how) (var_width b v)) t in
        let named : ArgNamed b (Global v a) = subst (ArgNamed b) is (there i no_arg li) in
        subst (λ z. SoFar b s (i + 1) z all) (sym (m ∙ ap (λ z. how ++ z) some))
        (subst (SoFar b s (i + 1) (how ++ cell_operations (operation_by a) (var_width b v))) (sym (n ∙ ap (λ z. scalars ++ z) cells))
        (of_new v a is t named.0 how scalars so)))
        (cases_Bool (names v (take i args)))

    pub one_more : (how more : List Operation) (scalars all : List Scalar) → SoFar b s i how scalars
        → more ≡ how ++ new_operations b (take i args) arg → all ≡ scalars ++ new_scalars b (length how) (take i args) arg → SoFar b s (i + 1) more all
    one_more how more scalars all so m n = by_arg arg refl how more scalars all so m n

    -- the same of the arguments as they are read
    pub one_read : (list : List Arg) (x : Arg) (how more : List Operation) (scalars all : List Scalar) → list ≡ args → SoFar b s i how scalars
        → more ≡ how ++ new_operations b (take i list) (get_or list i x) → all ≡ scalars ++ new_scalars b (length how) (take i list) (get_or list i x)
        → SoFar b s (i + 1) more all
    one_read list x how more scalars all same so m n =
        let at : get_or list i x ≡ arg = ap (λ z. get_or z i x) same ∙ get_or_default args i x no_arg li in
        one_more how more scalars all so
        (m ∙ ap₂ (λ z y. how ++ new_operations b (take i z) y) same at)
        (n ∙ ap₂ (λ z y. scalars ++ new_scalars b (length how) (take i z) y) same at)

  -- ---- all arguments

  pub all_operations : (how : List Operation) (scalars : List Scalar) → SoFar b s (length args) how scalars → AreOperations (slots_before b (s + 1)) how
  all_operations how scalars so =
      so.operations ∙ ap (map (λ (x : Slot). x.how))
      (ap (λ z. slots_before b s ++ flat_map (arg_slots b s) z) (take_all (length args) args (omega arith)) ∙ sym (before_more b s))

  pub all_scalars : ((e : ℕ) → Once (window_cells b (on_variables args) e)) → (how : List Operation) (scalars : List Scalar) → SoFar b s (length args) how scalars → AreSiteScalars b s scalars
  all_scalars once how scalars so =
      let whole : take (length args) args ≡ args = take_all (length args) args (omega arith) in
      let cells : (e : ℕ) → window_cells b (on_variables args) e ≡ scalar_cells (variable_at b) scalars =
      λ e. ap (λ z. flat_map (cells_in b) (different z)) (same_wholes b e 0 args) ∙ sym (ap (λ z. flat_map (cells_in b) (different (wholes b 0 z))) whole) ∙ so.cells in
      let ends = operations_length (slots_before b s ++ own b s (length args)) how so.operations ∙ length-append (slots_before b s) (own b s (length args)) in
      let all : length (own b s (length args)) ≡ length (site_slots b s) = ap (λ z. length (flat_map (arg_slots b s) z)) whole in
      record {
        each = so.each;
        cells = cells;
        once = subst Once (cells 0) (once 0);
        covers = λ j lj e. let w = own_slots b s j lj e in so.covers j w.0 (omega (arith, w.1, ends, all));
        reduced = λ j o lj h.
            let c = variable_at b j in
            let v = is_variable b j lj in
            let how_is : reduced_by args c.variable ≡ Some o = sym
            (cond-true (nat_lt c.component (var_width b c.variable)) (reduced_by args c.variable) None
            (lt-ltb c.component (var_width b c.variable) v.1)) ∙ h in
            subst (λ z. has_index z scalars ≡ true) v.2
            (so.held c.variable c.component (ap (names c.variable) whole ∙ reduced_named args c.variable o how_is) v.1);
      }
