-- The run of a kernel for one element, over any lists and over whole arrays.
use Rattle.std.proofs.Common.{◌≡◌, ◌<◌, ◌+◌, ℕ, ℤ, Bool, true, List, refl, sym, ap, ◌∙◌, subst, ⊎_elim, FitsSigned, w32}
use Rattle.std.specs.Prelude.{nat_eq}
use Rattle.std.proofs.lemmas.Bool.{false≢true, eq-eqb, eqb-true, and_parts, and_from}
use Rattle.op_num.specs.Reduction.{Reduction, unit_of, merged, IsCommuting}
use Rattle.kernel_model.specs.declared.types.faults.KernelFault.{KernelFault}
use Rattle.kernel_model.specs.declared.types.kernels.RKernel.{RKernel}
use Rattle.kernel_model.specs.Meaning.{Target, target_at, cell, read_arg, kernel_meaning}
use Rattle.kernel_model.specs.Meaning as kernel
use Rattle.kernel_model.specs.Obeys.{Mode, mode_at}
use Rattle.kernel_model.specs.Independence.{Fits, Suits, same_cell, store_after, Independence, ReadsStay, OthersStay, IsReached, IsCopy, SameEnd, Transport, RangeStays}
use Rattle.kernel_model.specs.Independence as law
use Rattle.schedule_model.specs.Cells.{Cell, Store, InRange}
use Rattle.schedule_model.specs.Effects.{Ran, Faulted, Finished}
use Rattle.schedule_model.specs.Arguments.{Argument, Entries, reaches}
use Rattle.run_model.specs.ElementRun.{Held, IsUnreached, EndsAs, IsElementRun, HoldsAll, OnArrays, EndsHolding, ElementRunsKeepRange, ElementRunsKeepReads, AnyListsServe, ElementRunsAgree, ElementRunsOnArrays}
use Rattle.run_model.proofs.element_runs.Reached.{same_test, search_for, is_argument}
use Rattle.run_model.proofs.element_runs.Independent.{stays}

module _ (entry : Entries) (dim width : ℕ → ℕ) (arg : ℕ → Argument) (n e : ℕ) (modes : List Mode) (cell_of : ℕ → ℕ → Cell) where
  abbrev HeldBy : List Target → kernel.Store → Store → Type 0
  HeldBy ts l s = Held entry dim width arg n e modes cell_of ts l s

  abbrev Ends : List Target → Store → kernel.Ran → Ran KernelFault → Type 0
  Ends ts s x p = EndsAs entry dim width arg n e modes cell_of ts s x p

  -- lists that hold one store are copies
  copies : (ts us : List Target) (l m : kernel.Store) (s : Store) → HeldBy ts l s → HeldBy us m s → IsCopy ts us l m
  copies ts us l m s h g = record {
    counts = λ a. h.counts a ∙ sym (g.counts a);
    aliases = λ a i b j lt mt.
        let li : i < (mode_at modes a).dim = subst (λ c. i < c) (h.counts a) lt in
        let lj : j < (mode_at modes b).dim = subst (λ c. j < c) (h.counts b) mt in
        same_test (same_cell ts a i b j) (same_cell us a i b j) (h.aliases a i b j li lj) (g.aliases a i b j li lj);
    cells = λ a i lt. let li : i < (mode_at modes a).dim = subst (λ c. i < c) (h.counts a) lt in h.values a i li ∙ sym (g.values a i li);
  }

  -- the run ends as one meaning does, so it ends as that over a copy does
  moved : (ts us : List Target) (s : Store) (x y : kernel.Ran) (p : Ran KernelFault) → ((a : ℕ) → (target_at ts a).count ≡ (mode_at modes a).dim)
      → SameEnd x y → IsCopy ts us (store_after x) (store_after y) → Ends ts s x p → Ends us s y p
  moved ts us s (kernel.Finished l) (kernel.Finished m) (Finished t) counts same copy ends =
      ((λ a i lt. ends.0 a i lt ∙ copy.cells a i (subst (λ c. i < c) (sym (counts a)) lt)), ends.1)
  moved ts us s (kernel.Stopped l f) (kernel.Stopped m g) (Faulted x) counts same copy ends = sym same ∙ ends
  moved ts us s (kernel.Finished l) (kernel.Stopped m g) p counts same copy ends = absurd same
  moved ts us s (kernel.Stopped l f) (kernel.Finished m) p counts same copy ends = absurd same
  moved ts us s (kernel.Finished l) (kernel.Finished m) (Faulted x) counts same copy ends = absurd ends
  moved ts us s (kernel.Stopped l f) (kernel.Stopped m g) (Finished t) counts same copy ends = absurd ends

  module _ (k : RKernel) (is_constant : Cell → Bool) (run : Store → Ran KernelFault) (h : IsElementRun entry dim width arg n e modes cell_of k is_constant run) where
    -- the component of an argument that is the cell, or nothing reaches it
    abbrev Reaching : Cell → Type 0
    Reaching c = (a : ℕ) × (i : ℕ) × (i < (mode_at modes a).dim) × (c ≡ cell_of a i)

    by_reach : (P : Type 0) (c : Cell) → (Reaching c → P) → (IsUnreached entry dim width arg n e modes cell_of c → P) → P
    by_reach P c f g = ⊎_elim
        (λ r. let i : (i : ℕ) × (i < (mode_at modes r.0).dim) × (c ≡ cell_of r.0 i) = h.reached r.0 c r.1 r.2 in f (r.0, i.0, i.1, i.2))
        (λ u. g u)
        (search_for (λ a. reaches entry dim width e (arg a) c) n)

    -- ---- any lists
    any : Transport → (s : Store) (ts : List Target) (l : kernel.Store) → HeldBy ts l s → Ends ts s (kernel_meaning ts (h.consts s) k l) (run s)
    any transport s ts l held =
        let own : HeldBy (h.targets s) (h.lists s) s = h.held s in
        let both = transport k (h.consts s) (h.targets s) ts (h.lists s) l own.fits held.fits (copies (h.targets s) ts (h.lists s) l s own held) in
        moved (h.targets s) ts s (kernel_meaning (h.targets s) (h.consts s) k (h.lists s)) (kernel_meaning ts (h.consts s) k l) (run s) own.counts both.0 both.1 (h.ends s)

    -- two runs that end as one meaning does
    one_end : (ts : List Target) (s : Store) (x : kernel.Ran) (p q : Ran KernelFault) → Ends ts s x p → Ends ts s x q → p ≡ q
    one_end ts s (kernel.Finished l) (Finished t) (Finished u) a b = ap Finished (λ i c. equal c i)
      where
        equal : (c : Cell) → t c ≡ u c
        equal c = by_reach (t c ≡ u c) c (λ r. ap t r.3 ∙ a.0 r.0 r.1 r.2 ∙ sym (b.0 r.0 r.1 r.2) ∙ ap u (sym r.3)) (λ r. a.1 c r ∙ sym (b.1 c r))
    one_end ts s (kernel.Stopped l f) (Faulted x) (Faulted y) a b = ap Faulted (sym a ∙ b)
    one_end ts s (kernel.Finished l) (Faulted x) q a b = absurd a
    one_end ts s (kernel.Finished l) (Finished t) (Faulted y) a b = absurd b
    one_end ts s (kernel.Stopped l f) (Finished t) q a b = absurd a
    one_end ts s (kernel.Stopped l f) (Faulted x) (Finished u) a b = absurd b

    -- ---- range, and what is only read
    in_range : RangeStays → (s t : Store) → InRange s → run s ≡ Finished t → InRange t
    in_range range s t in_s ran = by_meaning (kernel_meaning (h.targets s) (h.consts s) k (h.lists s)) refl
        (subst (Ends (h.targets s) s (kernel_meaning (h.targets s) (h.consts s) k (h.lists s))) ran (h.ends s))
      where
        all : law.InRange (store_after (kernel_meaning (h.targets s) (h.consts s) k (h.lists s)))
        all = range k (h.targets s) (h.consts s) (h.lists s) (h.resolved s) (h.numbers s in_s) (h.held s).fits (h.in_range s in_s)

        by_meaning : (x : kernel.Ran) → kernel_meaning (h.targets s) (h.consts s) k (h.lists s) ≡ x → Ends (h.targets s) s x (Finished t) → InRange t
        by_meaning (kernel.Finished l) i ends = λ c. by_reach (FitsSigned w32 (t c)) c
            (λ r. subst (FitsSigned w32) (sym (ap t r.3 ∙ ends.0 r.0 r.1 r.2))
            (subst (λ (o : kernel.Ran). FitsSigned w32 (cell (store_after o) (target_at (h.targets s) r.0).array ((target_at (h.targets s) r.0).from + r.1))) i
            (all (target_at (h.targets s) r.0).array ((target_at (h.targets s) r.0).from + r.1))))
            (λ u. subst (FitsSigned w32) (sym (ends.1 c u)) (in_s c))
        by_meaning (kernel.Stopped l f) i ends = absurd ends

    -- ---- whole arrays
    module _ (is_there : Cell → Bool) (array index : Cell → ℕ) (ts : List Target) (on : OnArrays entry dim width arg n e modes cell_of is_there array index ts) where
      held_in : (s : Store) (l : kernel.Store) → Fits ts l → HoldsAll entry dim width arg n e modes cell_of is_there array index l s → HeldBy ts l s
      held_in s l fit all = record {
        counts = on.counts;
        fits = fit;
        aliases = λ a i b j lt mt. (
          (λ t.
              let x : (nat_eq (target_at ts a).array (target_at ts b).array ≡ true) × (nat_eq ((target_at ts a).from + i) ((target_at ts b).from + j) ≡ true) =
              and_parts (nat_eq (target_at ts a).array (target_at ts b).array) (nat_eq ((target_at ts a).from + i) ((target_at ts b).from + j)) t in
              on.apart (cell_of a i) (cell_of b j) (on.there a i lt) (on.there b j mt)
              (sym (on.arrays a i lt) ∙ eqb-true (target_at ts a).array (target_at ts b).array x.0 ∙ on.arrays b j mt)
              (sym (on.indices a i lt) ∙ eqb-true ((target_at ts a).from + i) ((target_at ts b).from + j) x.1 ∙ on.indices b j mt)),
          (λ t. and_from (nat_eq (target_at ts a).array (target_at ts b).array) (nat_eq ((target_at ts a).from + i) ((target_at ts b).from + j))
              (eq-eqb (target_at ts a).array (target_at ts b).array (on.arrays a i lt ∙ ap array t ∙ sym (on.arrays b j mt)))
              (eq-eqb ((target_at ts a).from + i) ((target_at ts b).from + j) (on.indices a i lt ∙ ap index t ∙ sym (on.indices b j mt)))),
        );
        values = value;
      }
        where
          value : (a i : ℕ) → i < (mode_at modes a).dim → read_arg ts l a i ≡ s (cell_of a i)
          value a i lt = ap (λ x. cell l x ((target_at ts a).from + i)) (on.arrays a i lt) ∙ ap (cell l (array (cell_of a i))) (on.indices a i lt) ∙ all (cell_of a i) (on.there a i lt)

      -- a cell that is reached at its place is reached
      not_reached : (c : Cell) → is_there c ≡ true → IsUnreached entry dim width arg n e modes cell_of c → IsReached ts (array c) (index c) → ⊥
      not_reached c there none r =
          let lt : r.1 < (mode_at modes r.0).dim = subst (λ x. r.1 < x) (on.counts r.0) r.2 in
          let same : cell_of r.0 r.1 ≡ c = on.apart (cell_of r.0 r.1) c (on.there r.0 r.1 lt) there (sym (on.arrays r.0 r.1 lt) ∙ r.3) (sym (on.indices r.0 r.1 lt) ∙ r.4) in
          false≢true (sym (none r.0 (is_argument modes n h.count r.0 r.1 lt)) ∙ subst (λ x. reaches entry dim width e (arg r.0) x ≡ true) same (h.reach r.0 r.1 lt))

      after_meaning : OthersStay → (s : Store) (consts : List ℤ) (l : kernel.Store) → Fits ts l → HoldsAll entry dim width arg n e modes cell_of is_there array index l s
          → (x : kernel.Ran) (p : Ran KernelFault) → kernel_meaning ts consts k l ≡ x → Ends ts s x p → EndsHolding entry dim width arg n e modes cell_of is_there array index x p
      after_meaning others s consts l fit all (kernel.Finished m) (Finished t) i ends = λ c there. by_reach (cell m (array c) (index c) ≡ t c) c
          (λ r. ap (λ x. cell m (array x) (index x)) r.3
          ∙ ap (λ x. cell m x (index (cell_of r.0 r.1))) (sym (on.arrays r.0 r.1 r.2)) ∙ ap (cell m (target_at ts r.0).array) (sym (on.indices r.0 r.1 r.2))
          ∙ sym (ends.0 r.0 r.1 r.2) ∙ ap t (sym r.3))
          (λ u. ap (λ (o : kernel.Ran). cell (store_after o) (array c) (index c)) (sym i) ∙ others k ts consts l (array c) (index c) fit (not_reached c there u) ∙ all c there ∙ sym (ends.1 c u))
      after_meaning others s consts l fit all (kernel.Stopped m f) (Faulted g) i ends = ends
      after_meaning others s consts l fit all (kernel.Finished m) (Faulted g) i ends = absurd ends
      after_meaning others s consts l fit all (kernel.Stopped m f) (Finished t) i ends = absurd ends

pub keep_range : RangeStays → ElementRunsKeepRange
keep_range range entry dim width arg n e modes cell_of k is_constant run h s t in_s ran = in_range entry dim width arg n e modes cell_of k is_constant run h range s t in_s ran

pub keep_reads : Independence → ReadsStay → ((r : Reduction) → IsCommuting (unit_of r) (merged r)) → ElementRunsKeepReads
keep_reads indep reads ops entry dim width arg n e modes cell_of k is_constant run h obeys s t ran c all =
    by_meaning (kernel_meaning (h.targets s) (h.consts s) k (h.lists s)) refl
    (subst (EndsAs entry dim width arg n e modes cell_of (h.targets s) s (kernel_meaning (h.targets s) (h.consts s) k (h.lists s))) ran (h.ends s))
  where
    by_meaning : (x : kernel.Ran) → x ≡ kernel_meaning (h.targets s) (h.consts s) k (h.lists s) → EndsAs entry dim width arg n e modes cell_of (h.targets s) s x (Finished t) → t c ≡ s c
    by_meaning (kernel.Finished l) i ends = stays indep reads ops entry dim width arg n e modes cell_of k is_constant run h obeys s (h.targets s) (h.lists s) (h.held s) (h.consts s) l t c i ends all
    by_meaning (kernel.Stopped l f) i ends = absurd ends

pub any_lists : Transport → AnyListsServe
any_lists transport entry dim width arg n e modes cell_of k is_constant run h s ts l held = any entry dim width arg n e modes cell_of k is_constant run h transport s ts l held

pub agree : Transport → ElementRunsAgree
agree transport entry dim width arg n e modes cell_of k is_constant run other h g s same =
    one_end entry dim width arg n e modes cell_of k is_constant run h (g.targets s) s (kernel_meaning (g.targets s) (g.consts s) k (g.lists s)) (run s) (other s)
    (subst (λ cs. EndsAs entry dim width arg n e modes cell_of (g.targets s) s (kernel_meaning (g.targets s) cs k (g.lists s)) (run s)) same
    (any entry dim width arg n e modes cell_of k is_constant run h transport s (g.targets s) (g.lists s) (g.held s)))
    (g.ends s)

pub on_arrays : AnyListsServe → OthersStay → ElementRunsOnArrays
on_arrays serve others entry dim width arg n e modes cell_of k is_constant run h is_there array index ts on s l fit all =
    after_meaning entry dim width arg n e modes cell_of k is_constant run h is_there array index ts on others s (h.consts s) l fit all (kernel_meaning ts (h.consts s) k l) (run s) refl
    (serve entry dim width arg n e modes cell_of k is_constant run h s ts l (held_in entry dim width arg n e modes cell_of k is_constant run h is_there array index ts on s l fit all))
