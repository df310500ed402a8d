-- A run that comes to a cut goes on as that of the tail.
use Rattle.std.proofs.Common.{◌≡◌, ◌≤◌, ◌<◌, ◌+◌, ◌++◌, ℕ, zero, suc, true, List, Some, None, refl, sym, ap, ap₂, ◌∙◌, subst, arith}
use Rattle.std.proofs.lemmas.List.{get_or-drop, length-drop}
use Rattle.kernel_model.specs.declared.types.faults.KernelFault.{KernelFault}
use Rattle.mesh_decl.specs.Mesh.{MeshValue, map_count, set_size, IsMesh, IsMapAt}
use Rattle.schedule_model.specs.Cells.{Cell, Data, Variable, Store}
use Rattle.schedule_model.specs.Effects.{Ran, Faulted, Finished}
use Rattle.schedule_model.specs.Program.{Program, Kind, is_loop, Free, Reduce, Ordered, Host, Hosted, Halts, Goes, elements}
use Rattle.schedule_model.specs.Sequential.{Loop, Broke, Ran_through, loop, one_more, after_run, Seq, Stopped, Going, with_variables, after_loop, after_host, item_from, after_item, seq, sequential}
use Rattle.bound_program.specs.Values.{BoundValue, Exit, no_site}
use Rattle.bound_program.specs.Values as values
use Rattle.bound_program.specs.Fits.{Fits, site_at}
use Rattle.run_model.specs.Programs.{item_at, kind_of, loop_of, act_in, program_of}
use Rattle.run_model.specs.Kernels.{element_run}
use Rattle.run_model.specs.Hosts.{act_run}
use Rattle.run_model.specs.Constants.{AreNumbered, ConstantsAreNumbered}
use Rattle.run_model.specs.Memory.{has_cell}
use Rattle.run_model.specs.Laws.{LoopsAreThere, ActsAreThere}
use Rattle.checkpoint.specs.Cut.{CanCut, state_at, tail}
use Rattle.checkpoint.specs.Laws.{from_item, later, behind, KeepsConstants, RunsKeepConstants, EndAlike, TailsGoOn}
use Rattle.checkpoint.proofs.GoingOn.{runs_go_on}
use Rattle.checkpoint.proofs.Shape.{run_same, act_same}
use Rattle.checkpoint.proofs.Agreeing.{Agree, RanAlike, element_alike, HostAlike, variables_there, act_alike}
use Rattle.checkpoint.proofs.Values.{tail_like, tail_begins}

module _ (loops : LoopsAreThere) (acts : ActsAreThere) (numbers : ConstantsAreNumbered) (b : BoundValue) (k : ℕ) (s : Store)
    (maps : (n : ℕ) → n < map_count b.mesh → IsMapAt b.mesh n) (fits : Fits b) (kept : KeepsConstants b s) where
  abbrev c : BoundValue
  c = tail b (state_at b k s)

  abbrev p : Program KernelFault
  p = from_item (program_of b) k s

  abbrev q : Program KernelFault
  q = program_of c

  numbered : AreNumbered b
  numbered = numbers b fits.constants

  same_item : (j : ℕ) → item_at c j ≡ item_at b (k + j)
  same_item j = get_or-drop k b.trace j (values.Host Exit)

  -- ---- loops
  abbrev LoopAlike : Loop KernelFault → Loop KernelFault → Type 0
  LoopAlike (Broke e f x) (Broke d g y) = (e ≡ d) × (f ≡ g)
  LoopAlike (Ran_through x) (Ran_through y) = Agree b x y
  LoopAlike (Broke e f x) (Ran_through y) = ⊥
  LoopAlike (Ran_through x) (Broke d g y) = ⊥

  ran_alike : (e : ℕ) (x y : Store) (r t : Ran KernelFault) → RanAlike b r t → LoopAlike (after_run e x r) (after_run e y t)
  ran_alike e x y (Faulted f) (Faulted g) h = (refl, h)
  ran_alike e x y (Finished r) (Finished t) h = h
  ran_alike e x y (Faulted f) (Finished t) h = absurd h
  ran_alike e x y (Finished r) (Faulted g) h = absurd h

  same_run : (j e : ℕ) (y : Store) → q.run j e y ≡ element_run b (site_at b (loop_of (item_at b (k + j)))) e y
  same_run j e y =
      run_same b c.mesh.dats c.vars c.trace (tail_like b k s kept) (site_at b (loop_of (item_at c j))) e y
      ∙ ap (λ i. element_run b (site_at b (loop_of i)) e y) (same_item j)

  one_alike : (j e : ℕ) → is_loop (kind_of (item_at b (k + j))) ≡ true → e < elements p j → (x y : Loop KernelFault) → LoopAlike x y → LoopAlike (one_more p j e x) (one_more q j e y)
  one_alike j e is le (Broke a f x) (Broke d g y) h = h
  one_alike j e is le (Ran_through x) (Ran_through y) h =
      ran_alike e x y (p.run j e x) (q.run j e y)
      (subst (RanAlike b (p.run j e x)) (sym (same_run j e y))
      (element_alike b maps numbered x y h (site_at b (loop_of (item_at b (k + j)))) e
      (fits.sites (loop_of (item_at b (k + j))) no_site (loops b (k + j) fits is)) le))
  one_alike j e is le (Broke a f x) (Ran_through y) h = absurd h
  one_alike j e is le (Ran_through x) (Broke d g y) h = absurd h

  loop_alike : (j n : ℕ) → is_loop (kind_of (item_at b (k + j))) ≡ true → n ≤ elements p j → (x y : Store) → Agree b x y → LoopAlike (loop p j n x) (loop q j n y)
  loop_alike j zero is le x y h = h
  loop_alike j (suc n) is le x y h =
      one_alike j n is (let l : n < elements p j = omega (arith, le) in l) (loop p j n x) (loop q j n y)
      (loop_alike j n is (let l : n ≤ elements p j = omega (arith, le) in l) x y h)

  -- ---- runs
  abbrev SeqAlike : Seq KernelFault → Seq KernelFault → Type 0
  SeqAlike (Stopped x t o) (Stopped y u w) = (x ≡ y) × (o ≡ w)
  SeqAlike (Going t o) (Going u w) = Agree b t u × (o ≡ w)
  SeqAlike (Stopped x t o) (Going u w) = ⊥
  SeqAlike (Going t o) (Stopped y u w) = ⊥

  after_alike : (j : ℕ) (o : List ℕ) (x y : Loop KernelFault) → LoopAlike x y → SeqAlike (after_loop j o x) (after_loop j o y)
  after_alike j o (Broke e f x) (Broke d g y) h = (ap₂ (λ n m. record { item = j; element = Some n; fault = m }) h.0 h.1, refl)
  after_alike j o (Ran_through x) (Ran_through y) h = (h, refl)
  after_alike j o (Broke e f x) (Ran_through y) h = absurd h
  after_alike j o (Ran_through x) (Broke d g y) h = absurd h

  host_alike : (j : ℕ) (o : List ℕ) (x y : Store) → Agree b x y → (r t : Hosted KernelFault) → HostAlike b r t → SeqAlike (after_host j x o r) (after_host j y o t)
  host_alike j o x y same (Halts f) (Halts g) h = (ap (λ m. record { item = j; element = None; fault = m }) h, refl)
  host_alike j o x y same (Goes v w) (Goes u z) h = (variables, ap (λ l. o ++ l) h.1)
    where
      variables : (d : Cell) → has_cell b d ≡ true → with_variables v x d ≡ with_variables u y d
      variables (Data d) g = same (Data d) g
      variables (Variable d) g = h.0 d g
  host_alike j o x y same (Halts f) (Goes u z) h = absurd h
  host_alike j o x y same (Goes v w) (Halts g) h = absurd h

  same_elements : (j : ℕ) → elements q j ≡ elements p j
  same_elements j = ap (λ i. set_size b.mesh (site_at b (loop_of i)).set) (same_item j)

  whole_alike : (j : ℕ) (o : List ℕ) (x y : Store) → is_loop (kind_of (item_at b (k + j))) ≡ true → Agree b x y
      → SeqAlike (after_loop j o (loop p j (elements p j) x)) (after_loop j o (loop q j (elements q j) y))
  whole_alike j o x y is same =
      subst (λ n. SeqAlike (after_loop j o (loop p j (elements p j) x)) (after_loop j o (loop q j n y))) (sym (same_elements j))
      (after_alike j o (loop p j (elements p j) x) (loop q j (elements p j) y)
      (loop_alike j (elements p j) is (let l : elements p j ≤ elements p j = omega arith in l) x y same))

  kind_alike : (j : ℕ) (o : List ℕ) (x y : Store) → Agree b x y → (i : Kind) → kind_of (item_at b (k + j)) ≡ i → SeqAlike (item_from p j i x o) (item_from q j i y o)
  kind_alike j o x y same Free e = whole_alike j o x y (ap is_loop e) same
  kind_alike j o x y same Reduce e = (same, refl)
  kind_alike j o x y same Ordered e = whole_alike j o x y (ap is_loop e) same
  kind_alike j o x y same Host e =
      let act = act_in (item_at b (k + j)) in
      let now : q.host j y ≡ act_run b y act =
      act_same b c.mesh.dats c.vars c.trace (tail_like b k s kept) y (act_in (item_at c j)) ∙ ap (λ i. act_run b y (act_in i)) (same_item j) in
      subst (λ r. SeqAlike (after_host j x o (act_run b x act)) (after_host j y o r)) (sym now)
      (host_alike j o x y same (act_run b x act) (act_run b y act) (act_alike b x y same (variables_there b) act (acts b (k + j) fits)))

  item_alike : (j : ℕ) (x y : Seq KernelFault) → SeqAlike x y → SeqAlike (after_item p j x) (after_item q j y)
  item_alike j (Stopped x t o) (Stopped y u w) h = h
  item_alike j (Going t o) (Going u w) h =
      subst (λ z. SeqAlike (item_from p j (p.kind j) t o) (item_from q j (q.kind j) u z)) h.1
      (subst (λ i. SeqAlike (item_from p j (p.kind j) t o) (item_from q j (kind_of i) u o)) (sym (same_item j))
      (kind_alike j o t u h.0 (p.kind j) refl))
  item_alike j (Stopped x t o) (Going u w) h = absurd h
  item_alike j (Going t o) (Stopped y u w) h = absurd h

  seq_alike : (j : ℕ) → SeqAlike (seq p j) (seq q j)
  seq_alike zero = (tail_begins b k s kept, refl)
  seq_alike (suc j) = item_alike j (seq p j) (seq q j) (seq_alike j)

  ends : (o : List ℕ) (x y : Seq KernelFault) → SeqAlike x y → EndAlike (behind k o x) (behind k o y)
  ends o (Stopped x t u) (Stopped y v w) h = (ap (later k) h.0, ap (λ l. o ++ l) h.1)
  ends o (Going t u) (Going v w) h = ap (λ l. o ++ l) h.1
  ends o (Stopped x t u) (Going v w) h = absurd h
  ends o (Going t u) (Stopped y v w) h = absurd h

  pub tail_goes_on : (o : List ℕ) → CanCut b k → seq (program_of b) k ≡ Going s o → EndAlike (sequential (program_of b)) (behind k o (sequential q))
  tail_goes_on o cut at =
      let long : q.items ≡ p.items = length-drop k b.trace in
      subst (λ r. EndAlike r (behind k o (sequential q))) (sym (runs_go_on (program_of b) k s o cut.within at))
      (ends o (seq p p.items) (seq q q.items) (subst (λ n. SeqAlike (seq p p.items) (seq q n)) (sym long) (seq_alike p.items)))

-- each map of a mesh is one by its number
abbrev pub MapsHold : Type 0
MapsHold = (g : MeshValue) → IsMesh g → (m : ℕ) → m < map_count g → IsMapAt g m

pub tails_go_on : MapsHold → LoopsAreThere → ActsAreThere → ConstantsAreNumbered → RunsKeepConstants → TailsGoOn
tails_go_on maps loops acts numbers keeps b k s o fits obey leaves cut at =
    tail_goes_on loops acts numbers b k s (maps b.mesh fits.mesh) fits (keeps b k s o fits obey leaves at) o cut at
