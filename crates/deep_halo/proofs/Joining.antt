-- Items that aren't Free, as the machine has them.
use Rattle.std.proofs.Common.{◌≡◌, ◌≢◌, ◌<◌, ◌+◌, ⊎_elim, ℕ, zero, suc, ℤ, pos, Bool, true, false, cond, List, [], ◌∷◌, ◌++◌, length, get_or, Option, Some, None, IfSome, is_some, Result, Ok, Err, Vec, map, refl, sym, ap, subst, ◌∙◌, arith}
use Rattle.std.proofs.lemmas.Bool.{eq-eqb, ne_eqb, cases_eq, lt-ltb, false≢true}
use Rattle.std.proofs.lemmas.List.{length-map}
use Rattle.std.proofs.lemmas.Option.{none-some}
use Rattle.std.specs.declared.alloc.Global.{Global}
use Rattle.kernel_model.specs.declared.types.faults.KernelFault.{KernelFault}
use Rattle.mesh_decl.specs.declared.owners.Owners.{Owners}
use Rattle.mesh_decl.specs.Mesh.{IsInRange, dat_set, set_size}
use Rattle.mesh_decl.specs.Owners.{AreOwners, owner_of}
use Rattle.schedule_model.specs.Cells.{Cell, Data, Variable, DatCell, VarCell, Store}
use Rattle.schedule_model.specs.Kept.{kept_of, if_before, OfElements}
use Rattle.schedule_model.specs.Machine.{least}
use Rattle.schedule_model.specs.Program as program
use Rattle.schedule_model.specs.Program.{Kind, Hosted, Halts, Goes}
use Rattle.schedule_model.specs.Sequential as model
use Rattle.schedule_model.specs.Sequential.{Loop, Broke, Ran_through}
use Rattle.bound_program.specs.declared.acts.Item.{Item}
use Rattle.bound_program.specs.Values.{BoundValue, ItemValue, ActValue, Free, Reduce, Ordered, Host, Exit, item_of}
use Rattle.bound_program.specs.Fits.{Fits}
use Rattle.run_model.specs.Laws.{LoopsAreThere}
use Rattle.run_model.specs.Memory.{has_cell}
use Rattle.run_model.specs.Programs.{item_at, kind_of, program_of}
use Rattle.run_model.proofs.Public.{dat_there}
use Rattle.rank_state.specs.declared.rank_memory.stop.Stop.{Stop}
use Rattle.rank_state.specs.Stops.{stop_in, stop_of}
use Rattle.chain_model.specs.Slicing.{pair_owner}
use Rattle.chain_model.specs.Machine.{ChainState, Holding, value_in, pair_values, gathered, spread, looped, hosted, reduced, unless_recorded, item_run}
use Rattle.chain_model.specs.Slices.{owns_pair, slicing_of}
use Rattle.chain_model.proofs.Public.{owns_needed}
use Rattle.deep_halo.specs.Places.{in_block, stands_at}
use Rattle.deep_halo.specs.Running.{StoresStand}
use Rattle.deep_halo.specs.Hosts.{HostEnds}
use Rattle.deep_halo.specs.Orders.{OwnersStand, OthersStay, LoopEnds}
use Rattle.deep_halo.specs.Programs.{IsHolding, held_since}
use Rattle.deep_halo.specs.Stands.{free_loop, Stands, Ends}
use Rattle.deep_halo.specs.declared.state.State.{State}
use Rattle.deep_halo.proofs.Reduces.{early_more}
use Rattle.deep_halo.proofs.Units.{units_before}

-- an item as the program has it
trace_is : (xs : List Item) (k : ℕ) (x d : Item) → k < length xs → get_or xs k d ≡ x → get_or (map item_of xs) k (Host Exit) ≡ item_of x
trace_is [] k x d lt e = absurd (let q : ⊥ = omega (arith, lt) in q)
trace_is (y ∷ ys) zero x d lt e = ap item_of e
trace_is (y ∷ ys) (suc k) x d lt e = trace_is ys k x d (omega (arith, lt)) e

pub item_is : (xs : List Item) (k : ℕ) (x y : Item) → k < length (map item_of xs) → x ≡ get_or xs k x → x ≡ y → get_or (map item_of xs) k (Host Exit) ≡ item_of y
item_is xs k x y lt at is = trace_is xs k x x (omega (arith, lt, length-map xs item_of)) (sym at) ∙ ap item_of is

-- which merges no amounts
pub loop_other : (x : ItemValue) (s : ℕ) → x ≡ Ordered s → kind_of x ≢ program.Reduce
loop_other x s is h = let e : program.Ordered ≡ program.Reduce = sym (ap kind_of is) ∙ h in cc

pub host_other : (x : ItemValue) (a : ActValue) → x ≡ Host a → kind_of x ≢ program.Reduce
host_other x a is h = let e : program.Host ≡ program.Reduce = sym (ap kind_of is) ∙ h in cc

-- the partials of no loop are under way behind it
none_free : (x : ItemValue) → program.is_free (kind_of x) ≡ false → free_loop x ≡ None
none_free (Free n) h = absurd (false≢true (sym h))
none_free (Reduce n) h = refl
none_free (Ordered n) h = refl
none_free (Host a) h = refl

-- ---- the owners' pairs

module _ (b : BoundValue) (o : Owners) (ranges : IsInRange b.mesh) (owners : AreOwners b.mesh o) (st : ChainState KernelFault) where
  owner_is : (c : DatCell) → has_cell b (Data c) ≡ true → pair_owner (slicing_of b o) c.dat c.element ≡ owner_of o (dat_set b.mesh c.dat) c.element
  owner_is c h = ap (λ (t : Bool). cond t (owner_of o (dat_set b.mesh c.dat) c.element) 0) (lt-ltb c.element (set_size b.mesh (dat_set b.mesh c.dat)) (dat_there b c h).element)

  -- are those that the machine gathers
  pub gathered_stands : (memory : List ℤ) → StoresStand b o memory st → OwnersStand b o memory (gathered (slicing_of b o) st)
  gathered_stands memory stand = record {
    count = stand.count;
    cells = cells;
  }
    where
      cells : (c : Cell) → has_cell b c ≡ true → get_or memory (stands_at b o None c) (pos 0) ≡ gathered (slicing_of b o) st c
      cells (Data c) h =
          let d = dat_there b c h in
          stand.pairs (owner_of o (dat_set b.mesh c.dat) c.element) c (owners.below (dat_set b.mesh c.dat) c.element (ranges.dats c.dat d.dat).set d.element) h
          ∙ ap (λ r. value_in (st.stores r c.dat c.element) c.component) (sym (owner_is c h))
      cells (Variable v) h = stand.variables v h

  -- other values for them
  module _ (old new : List ℤ) (t : Store) (stand : StoresStand b o old st) (own : OwnersStand b o new t) (others : OthersStay b o old new) where
    pair : (r : ℕ) (c : DatCell) → r < o.ranks → has_cell b (Data c) ≡ true
        → get_or new (in_block b r (Data c)) (pos 0) ≡ value_in ((spread (slicing_of b o) t st).stores r c.dat c.element) c.component
    pair r c lr h = ⊎_elim
        (λ (e : pair_owner (slicing_of b o) c.dat c.element ≡ r).
        ap (λ n. get_or new (in_block b n (Data c)) (pos 0)) (sym e ∙ owner_is c h) ∙ own.cells (Data c) h
        ∙ ap (λ z. value_in (cond z (Some (pair_values t c.dat c.element)) (st.stores r c.dat c.element)) c.component) (sym (eq-eqb (pair_owner (slicing_of b o) c.dat c.element) r e)))
        (λ (e : pair_owner (slicing_of b o) c.dat c.element ≢ r).
        others r c lr h (λ q. e (owner_is c h ∙ q)) ∙ stand.pairs r c lr h
        ∙ ap (λ z. value_in (cond z (Some (pair_values t c.dat c.element)) (st.stores r c.dat c.element)) c.component) (sym (ne_eqb (pair_owner (slicing_of b o) c.dat c.element) r e)))
        (cases_eq (pair_owner (slicing_of b o) c.dat c.element) r)

    pub spread_stands : StoresStand b o new (spread (slicing_of b o) t st)
    spread_stands = record {
      count = own.count;
      pairs = pair;
      variables = λ v h. own.cells (Variable v) h;
    }

  owns_held : (begun : Option ℕ) (r d y : ℕ) → owns_pair b o r d y ≡ true → held_since b o begun r d y ≡ true
  owns_held None r d y h = h
  owns_held (Some k) r d y h = owns_needed b o k r d y h

  pub spread_held : (begun : Option ℕ) (t : Store) (r : ℕ) → IsHolding b o begun r (st.stores r) → IsHolding b o begun r ((spread (slicing_of b o) t st).stores r)
  spread_held begun t r held d y ld ly = ⊎_elim
      (λ (e : pair_owner (slicing_of b o) d y ≡ r).
      let own = eq-eqb (pair_owner (slicing_of b o) d y) r e in
      ap (λ z. is_some (cond z (Some (pair_values t d y)) (st.stores r d y))) own ∙ sym (owns_held begun r d y own))
      (λ (e : pair_owner (slicing_of b o) d y ≢ r).
      ap (λ z. is_some (cond z (Some (pair_values t d y)) (st.stores r d y))) (ne_eqb (pair_owner (slicing_of b o) d y) r e) ∙ held d y ld ly)
      (cases_eq (pair_owner (slicing_of b o) d y) r)

-- ---- the recorded fault

module _ (b : BoundValue) (o : Owners) (k : ℕ) (enough : (k : ℕ) (faults : List (model.Stop KernelFault)) → OfElements faults → least k faults ≡ if_before k (kept_of None faults))
    (x : State) (st : ChainState KernelFault) (stands : Stands b o k x st) where
  recorded : (kind : Kind) (f : model.Stop KernelFault) → program.is_free kind ≡ false → least k st.faults ≡ Some f
      → item_run (slicing_of b o) k kind st ≡ record st { stop = Some f }
  recorded program.Free f h e = absurd (false≢true (sym h))
  recorded program.Reduce f h e = ap (λ z. unless_recorded z st (reduced (slicing_of b o) k st)) e
  recorded program.Ordered f h e = ap (λ z. unless_recorded z st (looped (slicing_of b o) k (model.loop (program_of b) k (program.elements (program_of b) k) (gathered (slicing_of b o) st)) st)) e
  recorded program.Host f h e = ap (λ z. unless_recorded z st (hosted k ((program_of b).host k (gathered (slicing_of b o) st)) st)) e

  least_is : least k st.faults ≡ if_before k (stop_in x.fault)
  least_is = enough k st.faults stands.elements ∙ ap (if_before k) (sym stands.kept)

  -- where there is one, it stops the machine
  pub stops : program.is_free (kind_of (item_at b k)) ≡ false → true ≡ is_some x.fault
      → Ends b o (k + 1) x x.fault (item_run (slicing_of b o) k (kind_of (item_at b k)) st)
  stops kind some = by x.fault some stands.early least_is
    where
      by : (fault : Option Stop) → true ≡ is_some fault → IfSome fault (λ f. f.item < k) → least k st.faults ≡ if_before k (stop_in fault)
          → Ends b o (k + 1) x fault (item_run (slicing_of b o) k (kind_of (item_at b k)) st)
      by None some early is = absurd (false≢true (sym some))
      by (Some f) some early is = (
        ap (λ (y : ChainState KernelFault). y.stop) (recorded (kind_of (item_at b k)) (stop_of f) kind (is ∙ ap (λ t. cond t (Some (stop_of f)) None) (lt-ltb f.item k early))),
        ap (λ (y : ChainState KernelFault). y.output) (recorded (kind_of (item_at b k)) (stop_of f) kind (is ∙ ap (λ t. cond t (Some (stop_of f)) None) (lt-ltb f.item k early))) ∙ stands.output,
      )

  -- where there's none, nothing
  pub none_before : false ≡ is_some x.fault → least k st.faults ≡ None
  none_before none = least_is ∙ by x.fault none
    where
      by : (fault : Option Stop) → false ≡ is_some fault → if_before k (stop_in fault) ≡ None
      by None h = refl
      by (Some f) h = absurd (false≢true h)

-- ---- what the machine does else

module _ (b : BoundValue) (o : Owners) (k : ℕ) (st : ChainState KernelFault) (none : least k st.faults ≡ None) where
  pub does_reduce : kind_of (item_at b k) ≡ program.Reduce → item_run (slicing_of b o) k (kind_of (item_at b k)) st ≡ reduced (slicing_of b o) k st
  does_reduce is = ap (λ z. item_run (slicing_of b o) k z st) is ∙ ap (λ z. unless_recorded z st (reduced (slicing_of b o) k st)) none

  pub does_loop : kind_of (item_at b k) ≡ program.Ordered → item_run (slicing_of b o) k (kind_of (item_at b k)) st
      ≡ looped (slicing_of b o) k (model.loop (program_of b) k (program.elements (program_of b) k) (gathered (slicing_of b o) st)) st
  does_loop is = ap (λ z. item_run (slicing_of b o) k z st) is
      ∙ ap (λ z. unless_recorded z st (looped (slicing_of b o) k (model.loop (program_of b) k (program.elements (program_of b) k) (gathered (slicing_of b o) st)) st)) none

  pub does_host : kind_of (item_at b k) ≡ program.Host → item_run (slicing_of b o) k (kind_of (item_at b k)) st
      ≡ hosted k ((program_of b).host k (gathered (slicing_of b o) st)) st
  does_host is = ap (λ z. item_run (slicing_of b o) k z st) is ∙ ap (λ z. unless_recorded z st (hosted k ((program_of b).host k (gathered (slicing_of b o) st)) st)) none

-- ---- behind the item

module _ (b : BoundValue) (o : Owners) (ranges : IsInRange b.mesh) (owners : AreOwners b.mesh o) (fits : Fits b) (law : LoopsAreThere) (k : ℕ)
    (kind : program.is_free (kind_of (item_at b k)) ≡ false) (other : kind_of (item_at b k) ≢ program.Reduce)
    (x : State) (st : ChainState KernelFault) (stands : Stands b o k x st) where
  behind : (memory : Vec ℤ Global) (out : Vec ℕ Global) (stores : ℕ → Holding) (variables : VarCell → ℤ) (bytes : List ℕ)
      → StoresStand b o memory.items (record st { stores = stores; variables = variables; output = bytes })
      → ((r : ℕ) → r < o.ranks → IsHolding b o x.begun r (stores r))
      → bytes ≡ out.items
      → Stands b o (suc k) (record x { memory = memory; out = out }) (record st { stores = stores; variables = variables; output = bytes })
  behind memory out stores variables bytes stand held says = record {
    stores = stand;
    held = held;
    begun = stands.begun;
    chain = λ h. absurd (false≢true (sym kind ∙ h));
    count = stands.count;
    amounts = λ n h. absurd (none-some n (sym (none_free (item_at b k) kind) ∙ h));
    others = λ r n v ne. units_before b fits law k other st stands.others stands.none r n v;
    none = stands.none;
    kept = stands.kept;
    early = early_more k x.fault stands.early;
    elements = stands.elements;
    output = says;
    going = stands.going;
  }

  next_item : (y : State) (s : ChainState KernelFault) → Stands b o (suc k) y s → Stands b o (k + 1) y s
  next_item y s h = subst (λ n. Stands b o n y s) (let q : suc k ≡ k + 1 = omega arith in q) h

  -- an Ordered loop
  pub loop_ends : (memory : Vec ℤ Global) (new : List ℤ) (stop : Option Stop) (l : Loop KernelFault) → memory.items ≡ new → OthersStay b o x.memory.items new
      → LoopEnds b o k new stop l → Ends b o (k + 1) (record x { memory = memory }) stop (looped (slicing_of b o) k l st)
  loop_ends memory new None (Broke e f t) is others ends = absurd (none-some (record { item = k; element = Some e; fault = f }) ends.0)
  loop_ends memory new (Some s) (Broke e f t) is others ends = (sym ends.0, stands.output)
  loop_ends memory new (Some s) (Ran_through t) is others ends = absurd (none-some (stop_of s) (sym ends.0))
  loop_ends memory new None (Ran_through t) is others ends =
      next_item (record x { memory = memory }) (spread (slicing_of b o) t st) (behind memory x.out (spread (slicing_of b o) t st).stores (λ v. t (Variable v)) st.output
      (subst (λ (l : List ℤ). StoresStand b o l (spread (slicing_of b o) t st)) (sym is) (spread_stands b o ranges owners st x.memory.items new t stands.stores ends.1 others))
      (λ r lr. spread_held b o ranges owners st x.begun t r (stands.held r lr))
      stands.output)

  -- a statement that is no loop
  pub host_goes : {A : Type 0} → (a : A) (memory : Vec ℤ Global) (out : Vec ℕ Global) (new : List ℤ) (r : Result A KernelFault) (h : Hosted KernelFault) → memory.items ≡ new
      → length new ≡ length x.memory.items → r ≡ Ok a
      → HostEnds b o x.memory.items new x.out.items out.items r h → Stands b o (k + 1) (record x { memory = memory; out = out }) (hosted k h st)
  host_goes {A} a memory out new r h is count ok ends = by h (subst (λ (q : Result A KernelFault). HostEnds b o x.memory.items new x.out.items out.items q h) ok ends)
    where
      by : (h : Hosted KernelFault) → HostEnds b o x.memory.items new x.out.items out.items (Ok a) h → Stands b o (k + 1) (record x { memory = memory; out = out }) (hosted k h st)
      by (Halts f) e = absurd e
      by (Goes v bytes) e = next_item (record x { memory = memory; out = out }) (hosted k (Goes v bytes) st) (behind memory out st.stores v (st.output ++ bytes)
          (record {
            count = ap length is ∙ count ∙ stands.stores.count;
            pairs = λ r c lr h. ap (λ (l : List ℤ). get_or l (in_block b r (Data c)) (pos 0)) is ∙ e.0.pairs r c lr h ∙ stands.stores.pairs r c lr h;
            variables = λ v h. ap (λ (l : List ℤ). get_or l (in_block b o.ranks (Variable v)) (pos 0)) is ∙ e.0.variables v h;
          })
          stands.held
          (ap (λ z. z ++ bytes) stands.output ∙ sym e.1))

  pub host_halts : {A : Type 0} → (f : KernelFault) (out : List ℕ) (new : List ℤ) (r : Result A KernelFault) (h : Hosted KernelFault) → r ≡ Err f
      → HostEnds b o x.memory.items new x.out.items out r h
      → ((hosted k h st).stop ≡ Some (record { item = k; element = None; fault = f })) × ((hosted k h st).output ≡ out)
  host_halts {A} f out new r h err ends = by h (subst (λ (q : Result A KernelFault). HostEnds b o x.memory.items new x.out.items out q h) err ends)
    where
      by : (h : Hosted KernelFault) → HostEnds b o x.memory.items new x.out.items out {A = A} (Err f) h
          → ((hosted k h st).stop ≡ Some (record { item = k; element = None; fault = f })) × ((hosted k h st).output ≡ out)
      by (Halts g) e = (ap (λ (z : KernelFault). Some (record { item = k; element = None; fault = z })) (sym e.0), stands.output ∙ sym e.1)
      by (Goes v bytes) e = absurd e
