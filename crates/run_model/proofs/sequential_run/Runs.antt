-- Both runs agree before each item, and at the end.
use Rattle.std.proofs.Common.{◌≡◌, ◌<◌, ◌≤◌, ℕ, zero, suc, true, List, length, Some, refl, sym, ap, ◌∙◌, subst, arith}
use Rattle.kernel_model.specs.declared.types.faults.KernelFault.{KernelFault}
use Rattle.kernel_model.specs.Meaning as kernel
use Rattle.kernel_model.specs.Independence.{Transport, OthersStay, ShapeStays}
use Rattle.mesh_decl.specs.Mesh.{MeshValue, IsMesh, map_count, dat_count, set_size, IsMapAt, IsDatAt}
use Rattle.schedule_model.specs.Cells.{Store}
use Rattle.schedule_model.specs.Effects.{Ran, Faulted, Finished}
use Rattle.schedule_model.specs.Program.{is_loop}
use Rattle.schedule_model.specs.Sequential.{Stop, Loop, Broke, Ran_through, one_more, after_run, Seq, after_loop, after_host, item_from, after_item, seq}
use Rattle.schedule_model.specs.Sequential as cells
use Rattle.bound_program.specs.Values.{BoundValue, SiteValue, ItemValue, Free, Reduce, Ordered, Host, no_site}
use Rattle.bound_program.specs.Fits.{Fits, ActFits, site_at}
use Rattle.run_model.specs.Hosts.{act_run}
use Rattle.run_model.specs.Programs.{kind_of, loop_of, act_in, item_at, program_of, run_of_program, printed_in, stop_in}
use Rattle.run_model.specs.Constants.{ConstantsAreNumbered}
use Rattle.run_model.specs.Laws.{site_of, LoopsAreThere, ActsAreThere, WindowsAreReached}
use Rattle.run_model.specs.Arrays.{Arrays}
use Rattle.run_model.specs.Runs.{Run, Stopped, Going, go_on, printed_by, stop_of}
use Rattle.run_model.specs.Statements.{after_statement}
use Rattle.run_model.specs.Program.{element_run, ended, after_element, after_elements, before, run}
use Rattle.run_model.specs.Program as arrays
use Rattle.run_model.specs.Holds.{Holds}
use Rattle.run_model.specs.SequentialLaws.{Agree, ItemsAgree, RunsAreOne}
use Rattle.run_model.proofs.sequential_run.Elements.{Ends, element_ends}
use Rattle.run_model.proofs.sequential_run.Statements.{statement_agrees}
use Rattle.run_model.proofs.sequential_run.Start.{first_arrays_hold}

-- what is said of meshes, kernels and programs
pub record Lower : Type 0 where
  pub maps : (g : MeshValue) → IsMesh g → (m : ℕ) → m < map_count g → IsMapAt g m
  pub dats : (g : MeshValue) → IsMesh g → (d : ℕ) → d < dat_count g → IsDatAt g d
  pub transport : Transport
  pub others : OthersStay
  pub shape : ShapeStays
  pub windows : WindowsAreReached
  pub numbered : ConstantsAreNumbered
  pub loops : LoopsAreThere
  pub acts : ActsAreThere

module _ (lower : Lower) (b : BoundValue) (fits : Fits b) where
  -- ---- loops

  module _ (k : ℕ) (is : is_loop (kind_of (item_at b k)) ≡ true) where
    abbrev site : SiteValue
    site = site_of b k

    -- the run after an element
    after_one : (n : ℕ) (p : List ℕ) (t : Store) (o : List ℕ) → o ≡ p → (x : kernel.Ran) (y : Ran KernelFault) → Ends b x y → Agree b (ended k n o x) (after_loop k p (after_run n t y))
    after_one n p t o same (kernel.Finished l) (Finished u) h = (h, same)
    after_one n p t o same (kernel.Stopped l f) (Faulted g) h = (ap (λ (x : KernelFault). record { item = k; element = Some n; fault = x }) h, same)
    after_one n p t o same (kernel.Finished l) (Faulted g) h = absurd h
    after_one n p t o same (kernel.Stopped l f) (Finished u) h = absurd h

    one_element : (n : ℕ) → n < set_size b.mesh site.set → (l : Arrays) (s : Store) → Holds b l s
        → Ends b (element_run b site n l) ((program_of b).run k n s)
    one_element n lt l s h =
        element_ends b (lower.maps b.mesh fits.mesh) lower.windows site (fits.sites (loop_of (item_at b k)) no_site (lower.loops b k fits is)) n lt
        lower.transport lower.others lower.shape lower.numbered fits.constants l s h

    with_one : (n : ℕ) → n < set_size b.mesh site.set → (p : List ℕ) (r : Run) (x : Loop KernelFault) → Agree b r (after_loop k p x)
        → Agree b (after_element b k site n r) (after_loop k p (one_more (program_of b) k n x))
    with_one n lt p (Stopped y o) (Broke e f t) h = h
    with_one n lt p (Going l o) (Ran_through t) h =
        after_one n p t o h.1 (element_run b site n l) ((program_of b).run k n t) (one_element n lt l t h.0)
    with_one n lt p (Stopped y o) (Ran_through t) h = absurd h
    with_one n lt p (Going l o) (Broke e f t) h = absurd h

    elements_agree : (l : Arrays) (s : Store) → Holds b l s → (o p : List ℕ) → o ≡ p → (n : ℕ) → n ≤ set_size b.mesh site.set
        → Agree b (after_elements b k site n (Going l o)) (after_loop k p (cells.loop (program_of b) k n s))
    elements_agree l s h o p same zero le = (h, same)
    elements_agree l s h o p same (suc n) le =
        with_one n (omega (arith, le)) p (after_elements b k site n (Going l o)) (cells.loop (program_of b) k n s) (elements_agree l s h o p same n (omega (arith, le)))

  -- ---- items

  module _ (k : ℕ) (l : Arrays) (s : Store) (h : Holds b l s) (o p : List ℕ) (same : o ≡ p) where
    loop_agrees : (n : ℕ) (x : ItemValue) → item_at b k ≡ x → is_loop (kind_of x) ≡ true → loop_of x ≡ n
        → Agree b (arrays.after_loop b k (site_at b n) (Going l o)) (after_loop k p (cells.loop (program_of b) k (set_size b.mesh (site_of b k).set) s))
    loop_agrees n x e is number =
        let own : loop_of (item_at b k) ≡ n = ap loop_of e ∙ number in
        subst (λ m. Agree b (arrays.after_loop b k (site_at b m) (Going l o)) (after_loop k p (cells.loop (program_of b) k (set_size b.mesh (site_of b k).set) s))) own
        (elements_agree k (ap (λ y. is_loop (kind_of y)) e ∙ is) l s h o p same (set_size b.mesh (site_of b k).set) (omega arith))

    item_agrees : (x : ItemValue) → item_at b k ≡ x → Agree b (arrays.after_item b k x (Going l o)) (item_from (program_of b) k (kind_of x) s p)
    item_agrees (Free n) e = loop_agrees n (Free n) e refl refl
    item_agrees (Ordered n) e = loop_agrees n (Ordered n) e refl refl
    item_agrees (Reduce n) e = (h, same)
    item_agrees (Host a) e =
        let own : act_in (item_at b k) ≡ a = ap act_in e in
        subst (λ y. Agree b (after_statement b k a l o) (after_host k s p (act_run b s y))) (sym own)
        (statement_agrees b l s h k o p same a (subst (ActFits b) own (lower.acts b k fits)))

  still_stopped : (k : ℕ) (x : Stop KernelFault) (o : List ℕ) (y : ItemValue) → arrays.after_item b k y (Stopped x o) ≡ Stopped x o
  still_stopped k x o y = by_item y
    where
      by_elements : (of : SiteValue) (n : ℕ) → after_elements b k of n (Stopped x o) ≡ Stopped x o
      by_elements of zero = refl
      by_elements of (suc n) = ap (go_on (λ l q. ended k n q (element_run b of n l))) (by_elements of n)

      by_item : (z : ItemValue) → arrays.after_item b k z (Stopped x o) ≡ Stopped x o
      by_item (Free n) = by_elements (site_at b n) (set_size b.mesh (site_at b n).set)
      by_item (Ordered n) = by_elements (site_at b n) (set_size b.mesh (site_at b n).set)
      by_item (Reduce n) = refl
      by_item (Host a) = refl

  -- ---- the run

  one_item : (k : ℕ) (r : Run) (x : Seq KernelFault) → Agree b r x → Agree b (arrays.after_item b k (item_at b k) r) (after_item (program_of b) k x)
  one_item k (Stopped y o) (cells.Stopped z s p) h = subst (λ r. Agree b r (cells.Stopped z s p)) (sym (still_stopped k y o (item_at b k))) h
  one_item k (Going l o) (cells.Going s p) h = item_agrees k l s h.0 o p h.1 (item_at b k) refl
  one_item k (Stopped y o) (cells.Going s p) h = absurd h
  one_item k (Going l o) (cells.Stopped z s p) h = absurd h

  agree : (k : ℕ) → Agree b (before b k) (seq (program_of b) k)
  agree zero = (first_arrays_hold b (lower.dats b.mesh fits.mesh), refl)
  agree (suc k) = one_item k (before b k) (seq (program_of b) k) (agree k)

pub items_agree : Lower → ItemsAgree
items_agree lower b fits k = agree lower b fits k

-- ---- what both printed, and where they stopped

module _ (b : BoundValue) where
  one_output : (r : Run) (x : Seq KernelFault) → Agree b r x → printed_by r ≡ printed_in x
  one_output (Stopped y o) (cells.Stopped z s p) h = h.1
  one_output (Going l o) (cells.Going s p) h = h.1
  one_output (Stopped y o) (cells.Going s p) h = absurd h
  one_output (Going l o) (cells.Stopped z s p) h = absurd h

  one_stop : (r : Run) (x : Seq KernelFault) → Agree b r x → stop_of r ≡ stop_in x
  one_stop (Stopped y o) (cells.Stopped z s p) h = ap Some h.0
  one_stop (Going l o) (cells.Going s p) h = refl
  one_stop (Stopped y o) (cells.Going s p) h = absurd h
  one_stop (Going l o) (cells.Stopped z s p) h = absurd h

pub runs_are_one : ItemsAgree → RunsAreOne
runs_are_one items b fits = record {
  printed = one_output b (run b) (run_of_program b) (items b fits (length b.trace));
  first_fault = one_stop b (run b) (run_of_program b) (items b fits (length b.trace));
}
