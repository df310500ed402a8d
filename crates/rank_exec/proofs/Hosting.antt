-- Host statements on the machine's lists are those of the program on the owners' values.
use Rattle.std.proofs.Common.{◌≡◌, ◌<◌, ◌≤◌, ◌+◌, ◌*◌, ℕ, zero, suc, ℤ, pos, List, [], ◌∷◌, ◌++◌, map, length, get_or, flat_map, Some, None, Ok, Err, refl, sym, ap, ap₂, ◌∙◌, subst, arith}
use Rattle.std.specs.List.{range_with_len}
use Rattle.std.proofs.lemmas.Bool.{lt-ltb, cond-true}
use Rattle.std.proofs.lemmas.List.{length-map, get_or-map, length-append, map-append, flat_map_more}
use Rattle.std.proofs.lemmas.List.FromFn.{length-map-range_with_len}
use Rattle.kernel_model.specs.declared.types.faults.KernelFault.{KernelFault}
use Rattle.mesh_decl.specs.Mesh.{dat_set, dat_dim, set_size, set_count, dat_count}
use Rattle.schedule_steps.specs.declared.step.Step.TheVariants.{Join}
use Rattle.schedule_model.specs.Cells.{Cell, Data, DatCell, VarCell, Store}
use Rattle.schedule_model.specs.Program as program
use Rattle.schedule_model.specs.Program.{Program, Hosted, Halts, Goes, is_loop}
use Rattle.schedule_model.specs.Setup.{Setup, owner_of, in_set}
use Rattle.schedule_model.specs.Sequential.{with_variables}
use Rattle.schedule_model.specs.Layout.{Layout}
use Rattle.schedule_model.specs.Flat.{Flat, owned, variable, flat_step}
use Rattle.bound_program.specs.Values.{BoundValue, ActValue, Host, Clear, Assign, Line, Print, Exit, Ordered, SiteValue, site_of, no_site}
use Rattle.mesh_decl.specs.Printed.{printed_dat}
use Rattle.bound_program.specs.declared.sites.Site.{Site}
use Rattle.bound_program.specs.Fits.{ActFits, Fits, site_at}
use Rattle.run_model.specs.Laws.{LoopsAreThere, ActsAreThere}
use Rattle.run_model.specs.Windows.{numbers}
use Rattle.run_model.specs.Hosts.{variables_of, variable_cells, dat_cells, act_run}
use Rattle.run_model.specs.Memory.{Holds}
use Rattle.run_model.specs.Programs.{item_at, kind_of, loop_of, act_in, program_of}
use Rattle.run_model.specs.Variables.{of_vars, VariablesHold, CellsAreHeld}
use Rattle.run_model.specs.Acts.{ActEnds}
use Rattle.rank_state.specs.declared.owned.Owned.{Owned}
use Rattle.rank_state.specs.Windows.{cells_from}
use Rattle.rank_state.specs.Machine.{State}
use Rattle.rank_state.specs.Shows.{Tables, Indexed, Shows, variables_from}
use Rattle.rank_program.specs.Copies.{IsOwnersCopy}

-- ---- the values of a dat

-- the cells of an element of a dat
abbrev pub row_cells : BoundValue → ℕ → ℕ → List Cell
row_cells b d e = map (λ i. Data (record { dat = d; element = e; component = i })) (numbers (dat_dim b.mesh d))

rows_are : (cell_at : ℕ → DatCell) (d e at j n : ℕ) → ((i : ℕ) → j ≤ i → i < j + n → cell_at (at + i) ≡ record { dat = d; element = e; component = i })
    → cells_from cell_at (at + j) n ≡ map (λ i. Data (record { dat = d; element = e; component = i })) (range_with_len j n)
rows_are cell_at d e at j zero h = refl
rows_are cell_at d e at j (suc n) h =
    ap₂ (λ a l. Data a ∷ l) (h j (omega arith) (omega arith))
    (ap (λ k. cells_from cell_at k n) (let k : suc (at + j) ≡ at + (j + 1) = omega arith in k) ∙ rows_are cell_at d e at (j + 1) n (λ i le lt. h i (omega arith) (omega arith)))

pub row_is : (b : BoundValue) (cell_at : ℕ → DatCell) (d e at n : ℕ) → n ≡ dat_dim b.mesh d → ((i : ℕ) → i < n → cell_at (at + i) ≡ record { dat = d; element = e; component = i })
    → cells_from cell_at at n ≡ row_cells b d e
row_is b cell_at d e at n dim h =
    ap (λ k. cells_from cell_at k n) (let k : at ≡ at + 0 = omega arith in k)
    ∙ rows_are cell_at d e at 0 n (λ i le lt. h i (omega arith))
    ∙ ap (λ k. map (λ i. Data (record { dat = d; element = e; component = i })) (numbers k)) dim

pub range_more : (a n : ℕ) → range_with_len a (n + 1) ≡ range_with_len a n ++ (a + n) ∷ []
range_more a zero = ap (λ k. k ∷ []) (let k : a ≡ a + 0 = omega arith in k)
range_more a (suc n) = ap (range_with_len a) (let k : suc n + 1 ≡ suc (n + 1) = omega arith in k)
    ∙ ap (λ l. a ∷ l) (range_more (a + 1) n ∙ ap (λ k. range_with_len (a + 1) n ++ k ∷ [])
    (let k : a + 1 + n ≡ a + suc n = omega arith in k))

pub rows_more : (b : BoundValue) (s : Store) (d n : ℕ) (old new : List ℤ) → old ≡ map s (flat_map (row_cells b d) (numbers n)) → new ≡ old ++ map s (row_cells b d n)
    → new ≡ map s (flat_map (row_cells b d) (numbers (n + 1)))
rows_more b s d n old new o e =
    e ∙ ap (λ l. l ++ map s (row_cells b d n)) o ∙ sym (map-append s (flat_map (row_cells b d) (numbers n)) (row_cells b d n))
    ∙ ap (map s) (flat_map_more (row_cells b d) [] (numbers n) n ∙ ap (flat_map (row_cells b d)) (ap (λ k. numbers n ++ k ∷ []) (let k : n ≡ 0 + n = omega arith in k) ∙ sym (range_more 0 n)))

rows_length : (b : BoundValue) (s : Store) (d x n : ℕ) → length (map s (flat_map (row_cells b d) (range_with_len x n))) ≡ n * dat_dim b.mesh d
rows_length b s d x zero = omega arith
rows_length b s d x (suc n) =
    ap length (map-append s (row_cells b d x) (flat_map (row_cells b d) (range_with_len (x + 1) n)))
    ∙ length-append (map s (row_cells b d x)) (map s (flat_map (row_cells b d) (range_with_len (x + 1) n)))
    ∙ (let one : length (map s (row_cells b d x)) ≡ dat_dim b.mesh d = length-map (row_cells b d x) s
    ∙ length-map-range_with_len (λ i. Data (record { dat = d; element = x; component = i })) 0 (dat_dim b.mesh d) in
    let rest : length (map s (flat_map (row_cells b d) (range_with_len (x + 1) n))) ≡ n * dat_dim b.mesh d = rows_length b s d (x + 1) n in omega (arith, one, rest))

pub dat_length : (b : BoundValue) (s : Store) (d : ℕ) → length (map s (dat_cells b d)) ≡ set_size b.mesh (dat_set b.mesh d) * dat_dim b.mesh d
dat_length b s d = rows_length b s d 0 (set_size b.mesh (dat_set b.mesh d))

-- ---- variables

vars_length : (variable_at : ℕ → VarCell) (i n : ℕ) → length (variables_from variable_at i n) ≡ n
vars_length variable_at i zero = refl
vars_length variable_at i (suc n) = ap suc (vars_length variable_at (suc i) n)

vars_at : (variable_at : ℕ → VarCell) (v : VarCell → ℤ) (i n j : ℕ) → j < n → get_or (map v (variables_from variable_at i n)) j (pos 0) ≡ v (variable_at (i + j))
vars_at variable_at v i zero j lt = absurd (omega arith)
vars_at variable_at v i (suc n) zero lt = ap (λ k. v (variable_at k)) (let k : i ≡ i + 0 = omega arith in k)
vars_at variable_at v i (suc n) (suc j) lt = vars_at variable_at v (suc i) n j (omega arith) ∙ ap (λ k. v (variable_at k)) (let k : suc i + j ≡ i + suc j = omega arith in k)

-- a statement that prints no dat doesn't depend on the mesh
pub same_act : (b : BoundValue) (s : Store) (a : ActValue) → ((d : ℕ) (file : List ℕ) → a ≡ Print d file → ⊥) → act_run (of_vars b.vars) s a ≡ act_run b s a
same_act b s (Clear v) plain = refl
same_act b s (Assign v i op op_at e at) plain = refl
same_act b s (Line text es) plain = refl
same_act b s (Print d file) plain = absurd (plain d file refl)
same_act b s Exit plain = refl

module _ (b : BoundValue) (p : Setup KernelFault) (l : Layout KernelFault) (t : Tables) (is : p.program ≡ program_of b) where
  pub kind_is : (k : ℕ) (a : ActValue) → item_at b k ≡ Host a → p.program.kind k ≡ program.Host
  kind_is k a e = ap (λ (x : Program KernelFault). x.kind k) is ∙ ap kind_of e

  pub host_is : (k : ℕ) (a : ActValue) → item_at b k ≡ Host a → (s : Store) → p.program.host k s ≡ act_run b s a
  host_is k a e s = ap (λ (x : Program KernelFault). x.host k s) is ∙ ap (λ x. act_run b s (act_in x)) e

  pub owner_there : (d e : ℕ) → e < set_size b.mesh (dat_set b.mesh d) → (o : Owned) → IsOwnersCopy b p l d e o → (j : ℕ) → j < o.dim → owner_of p (l.cell_at o.rank (o.at + j)) ≡ o.rank
  owner_there d e lt o own j lj =
      ap (owner_of p) (own.cells j lj)
      ∙ cond-true (in_set p (record { dat = d; element = e; component = j })) (p.owner (p.program.set_of d) e) 0
      (lt-ltb e (p.program.size (p.program.set_of d)) (subst (λ n. e < n) (sym (ap (λ (x : Program KernelFault). x.size (x.set_of d)) is)) lt))
      ∙ own.owner

  module _ (q : Indexed p l t) (st : State KernelFault) (f : Flat KernelFault) (h : Shows p l t st f) where
    pub variable_here : (i : ℕ) → i < l.variables → get_or st.variables i (pos 0) ≡ variables_of (owned p l f) (l.variable_at i)
    variable_here i lt = ap (λ vs. get_or vs i (pos 0)) h.variables ∙ ap (λ j. get_or f.variables j (pos 0)) (sym (q.index_at i lt))

    module _ (are : variables_from l.variable_at 0 l.variables ≡ variable_cells b) where
      pub holds : VariablesHold → st.variables ≡ map (variable p l f) (variables_from l.variable_at 0 l.variables) → Holds (of_vars b.vars) st.variables (owned p l f)
      holds law e = subst (λ c. Holds (of_vars b.vars) c (owned p l f)) (sym (e ∙ ap (map (variable p l f)) are)) (law b (owned p l f))

      module _ (law : CellsAreHeld) (cells : List ℤ) (v : VarCell → ℤ) (held : Holds (of_vars b.vars) cells (with_variables v (owned p l f))) where
        are_new : cells ≡ map v (variables_from l.variable_at 0 l.variables)
        are_new = law b cells (with_variables v (owned p l f)) held ∙ ap (map v) (sym are)

        pub new_length : length cells ≡ l.variables
        new_length = ap length are_new ∙ length-map (variables_from l.variable_at 0 l.variables) v ∙ vars_length l.variable_at 0 l.variables

        pub new_at : (i : ℕ) → i < l.variables → get_or cells i (pos 0) ≡ v (l.variable_at i)
        new_at i lt = ap (λ c. get_or c i (pos 0)) are_new ∙ vars_at l.variable_at v 0 l.variables i lt ∙ ap (λ k. v (l.variable_at k)) (let k : 0 + i ≡ i = omega arith in k)

-- the laws of a join that is a host statement
abbrev pub Hosts : Setup KernelFault → Layout KernelFault → Tables → State KernelFault → Flat KernelFault → ℕ → Type 0
Hosts p l t st f k = (v : VarCell → ℤ) (w : List ℕ) (vs : List ℤ) → p.program.host k (owned p l f) ≡ Goes v w
    → length vs ≡ l.variables → ((i : ℕ) → i < l.variables → get_or vs i (pos 0) ≡ v (l.variable_at i))
    → Shows p l t (record st { variables = vs; output = st.output ++ w }) (flat_step p l (Join k) f)

abbrev pub HostHalts : Setup KernelFault → Layout KernelFault → State KernelFault → Flat KernelFault → ℕ → Type 0
HostHalts p l st f k = (n : KernelFault) → p.program.host k (owned p l f) ≡ Halts n
    → flat_step p l (Join k) f ≡ record f { stop = Some (record { item = k; element = None; fault = n }) }

module _ (b : BoundValue) (p : Setup KernelFault) (l : Layout KernelFault) (t : Tables) (is : p.program ≡ program_of b) (q : Indexed p l t)
    (st : State KernelFault) (f : Flat KernelFault) (h : Shows p l t st f)
    (are : variables_from l.variable_at 0 l.variables ≡ variable_cells b) (law : CellsAreHeld) (k : ℕ) (cells : List ℤ) (out : List ℕ) where
  pub goes_on : (A : Type 0) (u : A) (x : Hosted KernelFault) → ActEnds (of_vars b.vars) cells (owned p l f) st.output out {A = A} (Ok u) x → p.program.host k (owned p l f) ≡ x → Hosts p l t st f k
      → Shows p l t (record st { variables = cells; output = out }) (flat_step p l (Join k) f)
  goes_on A u (Goes v w) ends same hosts =
      subst (λ o. Shows p l t (record st { variables = cells; output = o }) (flat_step p l (Join k) f)) (sym ends.1)
      (hosts v w cells same (new_length b p l t is q st f h are law cells v ends.0) (new_at b p l t is q st f h are law cells v ends.0))
  goes_on A u (Halts n) ends same hosts = absurd ends

  pub halts : (A : Type 0) (n : KernelFault) (x : Hosted KernelFault)
      → ActEnds (of_vars b.vars) cells (owned p l f) st.output out {A = A} (Err n) x → p.program.host k (owned p l f) ≡ x
      → HostHalts p l st f k
      → ((flat_step p l (Join k) f).stop ≡ Some (record { item = k; element = None; fault = n })) × ((flat_step p l (Join k) f).output ≡ out)
  halts A n (Goes v w) ends same stops = absurd ends
  halts A n (Halts m) ends same stops =
      let s : flat_step p l (Join k) f ≡ record f { stop = Some (record { item = k; element = None; fault = m }) } = stops m same in
      (ap (λ (z : Flat KernelFault). z.stop) s ∙ ap (λ y. Some (record { item = k; element = None; fault = y })) (sym ends.0), ap (λ (z : Flat KernelFault). z.output) s ∙ (sym h.output ∙ sym ends.1))

-- what a statement names is there, without the mesh too
pub plain_fits : (b : BoundValue) (a : ActValue) → ((d : ℕ) (file : List ℕ) → a ≡ Print d file → ⊥) → ActFits b a → ActFits (of_vars b.vars) a
plain_fits b (Clear v) plain h = h
plain_fits b (Assign v i op op_at e at) plain h = h
plain_fits b (Line text es) plain h = h
plain_fits b (Print d file) plain h = absurd (plain d file refl)
plain_fits b Exit plain h = h

-- the dat that an item prints is there
pub printed_there : (b : BoundValue) (k d : ℕ) (file : List ℕ) → Fits b → ActsAreThere → item_at b k ≡ Host (Print d file) → d < dat_count b.mesh
printed_there b k d file fits acts is = subst (ActFits b) (ap act_in is) (acts b k fits)

-- what was printed is the values of the dat
pub print_goes_on : (b : BoundValue) (p : Setup KernelFault) (l : Layout KernelFault) (t : Tables) → p.program ≡ program_of b → Indexed p l t
    → (st new : State KernelFault) (f : Flat KernelFault) → Shows p l t st f → (k d : ℕ) (file : List ℕ) → item_at b k ≡ Host (Print d file)
    → Hosts p l t st f k → (vs : List ℤ) → vs ≡ map (owned p l f) (dat_cells b d)
    → new ≡ record st { output = new.output } → new.output ≡ st.output ++ printed_dat file b.mesh d vs
    → Shows p l t new (flat_step p l (Join k) f)
print_goes_on b p l t is indexed st new f h k d file item hosts vs values others printed =
    let out : new.output ≡ st.output ++ printed_dat file b.mesh d (map (owned p l f) (dat_cells b d)) =
    printed ∙ ap (λ ws. st.output ++ printed_dat file b.mesh d ws) values in
    subst (λ (z : State KernelFault). Shows p l t z (flat_step p l (Join k) f))
    (ap (λ o. record st { output = o }) (sym out) ∙ sym others)
    (hosts (variables_of (owned p l f)) (printed_dat file b.mesh d (map (owned p l f) (dat_cells b d))) st.variables
    (host_is b p l t is k (Print d file) item (owned p l f)) h.sized.count (variable_here b p l t is indexed st f h))

-- ---- loops

pub site_facts : (b : BoundValue) → Fits b → LoopsAreThere → (k n : ℕ) → item_at b k ≡ Ordered n → (xs : List Site) (x : Site) → b.sites ≡ map site_of xs → x ≡ get_or xs n x
    → (x.set < set_count b.mesh) × (site_at b n ≡ site_of x)
site_facts b fits law k n item xs x all read =
    let there : n < length b.sites = subst (λ m. m < length b.sites) (ap loop_of item) (law b k fits (ap (λ i. is_loop (kind_of i)) item)) in
    let many : length b.sites ≡ length xs = ap length all ∙ length-map xs site_of in
    let lt : n < length xs = omega (arith, there, many) in
    let same : site_at b n ≡ site_of x = ap (λ l. get_or l n no_site) all ∙ get_or-map site_of xs n x no_site lt ∙ ap site_of (sym read) in
    (subst (λ m. m < set_count b.mesh) (ap (λ (s : SiteValue). s.set) same) (fits.sites n no_site there).set, same)
