-- One element on a rank, as the machine of chains has it.
use Rattle.std.proofs.Common.{◌≡◌, ◌≢◌, ◌<◌, ◌≤◌, ⊎_elim, ℕ, suc, ℤ, pos, true, false, not, cond, ◌&&◌, nat_eq, List, [], ◌∷◌, map, length, get_or, Option, Some, None, is_some, refl, sym, ap, ap₂, subst, ◌∙◌, arith}
use Rattle.std.specs.List.{list_any}
use Rattle.std.proofs.lemmas.Bool.{eq-eqb, eqb-true, ne_eqb, lt-ltb, false≢true, cases_eq}
use Rattle.std.proofs.lemmas.List.Folds.{list_any_at}
use Rattle.kernel_model.specs.declared.types.faults.KernelFault.{KernelFault}
use Rattle.mesh_decl.specs.declared.owners.Owners.{Owners}
use Rattle.mesh_decl.specs.Mesh.{IsInRange, set_size}
use Rattle.mesh_decl.specs.Owners.{AreOwners}
use Rattle.op_num.specs.Reduction.{Reduction}
use Rattle.schedule_model.specs.Cells.{Cell, Data, Variable, DatCell, VarCell, Store}
use Rattle.schedule_model.specs.Machine.{window_of, merge_at}
use Rattle.bound_program.specs.Values.{BoundValue, SiteValue, no_site}
use Rattle.bound_program.specs.Fits.{Fits, SiteFits, site_at, var_at}
use Rattle.run_model.specs.Windows.{reached, cell_in}
use Rattle.run_model.specs.Arguments.{no_arg, arg_width, var_width}
use Rattle.run_model.specs.Memory.{has_cell}
use Rattle.run_model.specs.Kernels.{constants}
use Rattle.run_model.specs.Constants.{ConstantsAreNumbered, IsNumbered, no_constant}
use Rattle.run_model.specs.Programs.{item_at, loop_of}
use Rattle.run_model.specs.Laws.{WindowsAreReached}
use Rattle.run_model.proofs.Public.{dat_there, var_there}
use Rattle.bound_plan.specs.Variables.{reduced_by, reduces_at}
use Rattle.bound_plan.proofs.Public.{Merges, merges}
use Rattle.chain_model.specs.Machine.{ChainState, value_in, replaced, left_in, pair_values, view}
use Rattle.chain_model.specs.Slices.{needs, slicing_of}
use Rattle.deep_halo.specs.Placed.{HoldsWindows, LeavesPlaced}
use Rattle.deep_halo.specs.Places.{in_block, all_cells, stands_at}
use Rattle.deep_halo.proofs.chain_memory.Standing.{reached_there}
use Rattle.deep_halo.specs.Cells.{Values, BlocksHold}
use Rattle.deep_halo.proofs.chain_memory.chain_stores.Writing.{blocks_apart}
use Rattle.deep_halo.specs.Globals.{is_on, with_globals}
use Rattle.deep_halo.specs.Dropping.{leads_to, dropped}
use Rattle.deep_halo.specs.Merging.{merged_all}
use Rattle.deep_halo.specs.Constants.{constants_in}
use Rattle.deep_halo.specs.Running.{StoresStand, AreHeld}
use Rattle.deep_halo.proofs.chain_ranks.Reached.{is_reached, reached_by, led_to, on_variable}
use Rattle.lemmas.proofs.Truth.{cases_bool}

-- what a memory has, block by block
abbrev pub read : BoundValue → List ℤ → Values
read b memory n c = get_or memory (in_block b n c) (pos 0)

pub has_read : (b : BoundValue) (ranks : ℕ) (memory : List ℤ) → length memory ≡ all_cells b ranks → BlocksHold b ranks memory (read b memory)
has_read b ranks memory count = record { count = count; cells = λ n c le h. refl }

-- the constants aren't merged into
pub constants_seen : (b : BoundValue) (law : ConstantsAreNumbered) (fits : Fits b) (s : ℕ) (ls : s < length b.sites) (values : VarCell → ℤ)
    → constants_in b values ≡ map (λ v. window_of (reduces_at b s v) (values v)) (constants b)
constants_seen b law fits s ls values = same (constants b) (λ j lj. plain (get_or (constants b) j no_constant) j ((law b fits.constants).cells j lj))
  where
    by : (v : VarCell) (first : ℕ) → (var_at b v.variable).constant ≡ Some first → (x : Option Reduction) → reduces_at b s v ≡ x → values v ≡ window_of x (values v)
    by v first is None e = refl
    by v first is (Some q) e =
        let m : Merges b s (fits.sites s no_site ls) v q = merges b s (fits.sites s no_site ls) v q e in
        let z : Some first ≡ None = sym is ∙ m.constant in
        let y : ⊥ = cc in absurd y

    plain : (v : VarCell) (j : ℕ) → IsNumbered b j v → values v ≡ window_of (reduces_at b s v) (values v)
    plain v j is = by v is.first is.constant (reduces_at b s v) refl

    same : (xs : List VarCell) → ((j : ℕ) → j < length xs → values (get_or xs j no_constant) ≡ window_of (reduces_at b s (get_or xs j no_constant)) (values (get_or xs j no_constant)))
        → map values xs ≡ map (λ v. window_of (reduces_at b s v) (values v)) xs
    same [] h = refl
    same (x ∷ xs) h = ap₂ (λ y ys. y ∷ ys) (h 0 (omega arith)) (same xs (λ j lt. h (suc j) (omega arith)))

module _ (b : BoundValue) (o : Owners) (fits : Fits b) (owners : AreOwners b.mesh o) (ranges : IsInRange b.mesh) (reach : WindowsAreReached) where
  module _ (k s e r : ℕ) (ls : s < length b.sites) (at : loop_of (item_at b k) ≡ s) (le : e < set_size b.mesh (site_at b s).set) (lr : r < o.ranks) where
    abbrev site : SiteValue
    site = site_at b s

    site_fits : SiteFits b site
    site_fits = fits.sites s no_site ls

    -- ---- what a kernel sees

    module _ (st : ChainState KernelFault) (first given : List ℤ) (stand : StoresStand b o first st)
        (put : BlocksHold b o.ranks given (with_globals o.ranks r site.args site.args (read b first))) where
      abbrev seen : Store
      seen = view (slicing_of b o) k r st

      -- dats are as they were
      pub given_dat : (m : ℕ) (c : DatCell) → m ≤ o.ranks → has_cell b (Data c) ≡ true → read b given m (Data c) ≡ read b first m (Data c)
      given_dat m c lm h = put.cells m (Data c) lm h

      pub given_variable : (v : VarCell) → has_cell b (Variable v) ≡ true → read b given o.ranks (Variable v) ≡ read b first o.ranks (Variable v)
      given_variable v h =
          put.cells o.ranks (Variable v) (omega arith) h
          ∙ ap (λ t. cond (t && list_any (is_on v.variable) site.args) (window_of (reduced_by site.args v.variable) (read b first o.ranks (Variable v))) (read b first o.ranks (Variable v)))
          (ne_eqb o.ranks r (λ q. omega (arith, q, lr)))

      reduces_there : (v : VarCell) → has_cell b (Variable v) ≡ true → reduces_at b s v ≡ reduced_by site.args v.variable
      reduces_there v h = ap (λ t. cond t (reduced_by site.args v.variable) None) (lt-ltb v.component (var_width b v.variable) (var_there b v h).component)

      pub sees : HoldsWindows b site.args e (stands_at b o (Some r)) given seen
      sees (Data c) h =
          let there : has_cell b (Data c) ≡ true = reached_there b ranges site e site_fits le (reach b site e) (Data c) h in
          given_dat r c (omega arith) there ∙ stand.pairs r c lr there
      sees (Variable v) h =
          let there : has_cell b (Variable v) ≡ true = reached_there b ranges site e site_fits le (reach b site e) (Variable v) h in
          put.cells r (Variable v) (omega arith) there
          ∙ ap (λ t. cond t (window_of (reduced_by site.args v.variable) (read b first o.ranks (Variable v))) (read b first r (Variable v)))
          (ap₂ (λ x y. x && y) (eq-eqb r r refl) (on_variable b reach site e v h))
          ∙ ap₂ window_of (sym (reduces_there v there)) (stand.variables v there)
          ∙ ap (λ n. window_of (reduces_at b n v) (st.variables v)) (sym at)

      -- ---- what it leaves

      module _ (left : List ℤ) (t : Store) (leaves : LeavesPlaced b site.args e (stands_at b o (Some r)) given left seen t) where
        -- elsewhere all is as it was
        left_else : (m : ℕ) (c : Cell) → m ≤ o.ranks → has_cell b c ≡ true → (m ≡ r → is_reached b site.args e c ≡ true → ⊥) → read b left m c ≡ read b given m c
        left_else m c lm h other = leaves.others (in_block b m c) (λ d rd q.
            let there : has_cell b d ≡ true = reached_there b ranges site e site_fits le (reach b site e) d rd in
            let p = blocks_apart b r m d c there h q in
            other (sym p.0) (subst (λ x. is_reached b site.args e x ≡ true) p.1 rd))

        -- on another rank, and behind the ranks
        pub left_other : (m : ℕ) (c : Cell) → m ≤ o.ranks → has_cell b c ≡ true → m ≢ r → read b left m c ≡ read b given m c
        left_other m c lm h ne = left_else m c lm h (λ q z. ne q)

        -- on the rank, of a dat
        pub left_here : (c : DatCell) → has_cell b (Data c) ≡ true → read b left r (Data c) ≡ t (Data c)
        left_here c h = ⊎_elim
            (λ (y : is_reached b site.args e (Data c) ≡ true). leaves.cells (Data c) y)
            (λ (n : is_reached b site.args e (Data c) ≡ false).
            left_else r (Data c) (omega arith) h (λ q z. false≢true (sym n ∙ z)) ∙ given_dat r c (omega arith) h ∙ stand.pairs r c lr h ∙ sym (leaves.stay (Data c) n))
            (cases_bool (is_reached b site.args e (Data c)))

        -- where the rank doesn't hold the pair and no argument leads to it
        pub left_none : (c : DatCell) → has_cell b (Data c) ≡ true → st.stores r c.dat c.element ≡ None → (j : ℕ) → list_any (leads_to b o j r e c) site.args ≡ false → read b left r (Data c) ≡ pos 0
        left_none c h none j unled = ⊎_elim
            (λ (y : is_reached b site.args e (Data c) ≡ true). absurd (false≢true (sym unled ∙ led_to b reach site e o j r c y)))
            (λ (n : is_reached b site.args e (Data c) ≡ false).
            left_else r (Data c) (omega arith) h (λ q z. false≢true (sym n ∙ z)) ∙ given_dat r c (omega arith) h ∙ stand.pairs r c lr h
            ∙ ap (λ u. value_in u c.component) none)
            (cases_bool (is_reached b site.args e (Data c)))

        -- ---- what is dropped

        module _ (j : ℕ) (held : AreHeld b o j st) (last : List ℤ) (drop : BlocksHold b o.ranks last (dropped b o j r e site.args (read b left))) where
          on_rank : (c : DatCell) → has_cell b (Data c) ≡ true → (x : Option (ℕ → ℤ)) → st.stores r c.dat c.element ≡ x
              → read b last r (Data c) ≡ value_in (replaced (pair_values t c.dat c.element) x) c.component
          on_rank c h (Some u) is =
              let d = dat_there b c h in
              let need : needs b o j r c.dat c.element ≡ true = sym (held r c.dat c.element lr d.dat d.element) ∙ ap is_some is in
              drop.cells r (Data c) (omega arith) h
              ∙ ap (λ q. cond (nat_eq r r && (not q && list_any (leads_to b o j r e c) site.args)) (pos 0) (read b left r (Data c))) need
              ∙ ap (λ q. cond (q && false) (pos 0) (read b left r (Data c))) (eq-eqb r r refl)
              ∙ left_here c h
          on_rank c h None is =
              let d = dat_there b c h in
              let need : needs b o j r c.dat c.element ≡ false = sym (held r c.dat c.element lr d.dat d.element) ∙ ap is_some is in
              drop.cells r (Data c) (omega arith) h
              ∙ ap₂ (λ q z. cond (q && (not z && list_any (leads_to b o j r e c) site.args)) (pos 0) (read b left r (Data c))) (eq-eqb r r refl) need
              ∙ ⊎_elim
              (λ (y : list_any (leads_to b o j r e c) site.args ≡ true). ap (λ q. cond q (pos 0) (read b left r (Data c))) y)
              (λ (n : list_any (leads_to b o j r e c) site.args ≡ false). ap (λ q. cond q (pos 0) (read b left r (Data c))) n ∙ left_none c h is j n)
              (cases_bool (list_any (leads_to b o j r e c) site.args))

          pub pair_after : (m : ℕ) (c : DatCell) → m < o.ranks → has_cell b (Data c) ≡ true
              → read b last m (Data c) ≡ value_in (cond (nat_eq m r) (left_in t (st.stores r)) (st.stores m) c.dat c.element) c.component
          pair_after m c lm h = ⊎_elim
              (λ (q : m ≡ r).
              ap (λ x. read b last x (Data c)) q ∙ on_rank c h (st.stores r c.dat c.element) refl
              ∙ sym (ap (λ z. value_in (cond z (left_in t (st.stores r)) (st.stores m) c.dat c.element) c.component) (eq-eqb m r q)))
              (λ (q : m ≢ r).
              drop.cells m (Data c) (omega arith) h
              ∙ ap (λ z. cond (z && (not (needs b o j r c.dat c.element) && list_any (leads_to b o j r e c) site.args)) (pos 0) (read b left m (Data c))) (ne_eqb m r q)
              ∙ left_other m (Data c) (omega arith) h q ∙ given_dat m c (omega arith) h ∙ stand.pairs m c lm h
              ∙ sym (ap (λ z. value_in (cond z (left_in t (st.stores r)) (st.stores m) c.dat c.element) c.component) (ne_eqb m r q)))
              (cases_eq m r)

          pub variable_after : (v : VarCell) → has_cell b (Variable v) ≡ true → read b last o.ranks (Variable v) ≡ st.variables v
          variable_after v h =
              drop.cells o.ranks (Variable v) (omega arith) h ∙ left_other o.ranks (Variable v) (omega arith) h (λ q. omega (arith, q, lr)) ∙ given_variable v h ∙ stand.variables v h

        -- ---- what is merged

        -- a variable into which the loop merges amounts is reached
        merged_there : (v : VarCell) → is_some (reduces_at b s v) ≡ true → (list_any (is_on v.variable) site.args ≡ true) × (is_reached b site.args e (Variable v) ≡ true)
        merged_there v h = by (reduces_at b s v) refl h
          where
            by : (x : Option Reduction) → reduces_at b s v ≡ x → is_some x ≡ true → (list_any (is_on v.variable) site.args ≡ true) × (is_reached b site.args e (Variable v) ≡ true)
            by None is y = absurd (false≢true y)
            by (Some q) is y =
                let m : Merges b s site_fits v q = merges b s site_fits v q is in
                let a = m.argument in (
                  list_any_at (is_on v.variable) site.args a.number no_arg a.there (ap (is_on v.variable) a.is ∙ eq-eqb v.variable v.variable refl),
                  subst (λ c. is_reached b site.args e c ≡ true) (ap (λ x. cell_in (reached b e x) v.component) a.is)
                      (reached_by b reach site e a.number v.component a.there (subst (λ x. v.component < arg_width b x) (sym a.is) m.component)),
                )

        pub amount_after : (p : Values) (m : ℕ) (v : VarCell) → has_cell b (Variable v) ≡ true → is_some (reduces_at b s v) ≡ true
            → merged_all r site.args site.args (read b left) p m (Variable v) ≡ cond (nat_eq m r) (merge_at (reduces_at b s v) (p m (Variable v)) (t (Variable v))) (p m (Variable v))
        amount_after p m v h some =
            let w = merged_there v some in
            ap (λ z. cond (nat_eq m r && z) (merge_at (reduced_by site.args v.variable) (p m (Variable v)) (read b left m (Variable v))) (p m (Variable v))) w.0
            ∙ ⊎_elim
            (λ (q : nat_eq m r ≡ true).
            let same : m ≡ r = eqb-true m r q in
            ap (λ z. cond (z && true) (merge_at (reduced_by site.args v.variable) (p m (Variable v)) (read b left m (Variable v))) (p m (Variable v))) q
            ∙ ap₂ (λ x y. merge_at x (p m (Variable v)) y) (sym (reduces_there v h)) (ap (λ x. read b left x (Variable v)) same ∙ leaves.cells (Variable v) w.1)
            ∙ sym (ap (λ z. cond z (merge_at (reduces_at b s v) (p m (Variable v)) (t (Variable v))) (p m (Variable v))) q))
            (λ (q : nat_eq m r ≡ false).
            ap (λ z. cond (z && true) (merge_at (reduced_by site.args v.variable) (p m (Variable v)) (read b left m (Variable v))) (p m (Variable v))) q
            ∙ sym (ap (λ z. cond z (merge_at (reduces_at b s v) (p m (Variable v)) (t (Variable v))) (p m (Variable v))) q))
            (cases_bool (nat_eq m r))
