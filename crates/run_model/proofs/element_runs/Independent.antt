-- The run of a kernel for one element is independent by its arguments.
use Rattle.std.proofs.Common.{◌≡◌, ◌<◌, ◌+◌, ℕ, ℤ, Bool, true, false, List, refl, sym, ap, ◌∙◌, subst, ◌⊎◌, inl, inr, ⊎_elim, FitsSigned, w32}
use Rattle.std.proofs.lemmas.Bool.{eq-eqb, and_from}
use Rattle.op_num.specs.Reduction.{Reduction, unit_of, merged, IsCommuting}
use Rattle.kernel_model.specs.declared.types.faults.KernelFault.{KernelFault}
use Rattle.kernel_model.specs.declared.types.kernels.RKernel.{RKernel}
use Rattle.kernel_model.specs.Meaning.{Target, target_at, cell, read_arg, kernel_meaning}
use Rattle.kernel_model.specs.Meaning as kernel
use Rattle.kernel_model.specs.Obeys.{Mode, mode_at, KernelObeys}
use Rattle.kernel_model.specs.Independence.{Suits, Fits, same_cell, store_after, SameAliases, SameInputs, Alone, OnlyReduced, OnlyRead, Independence, ReadsStay}
use Rattle.kernel_model.specs.Independence as law
use Rattle.schedule_model.specs.Cells.{Cell, Store, InRange}
use Rattle.schedule_model.specs.Effects.{Ran, Faulted, Finished}
use Rattle.op_num.specs.Access.{Access, OpRead, OpWrite, OpRw, OpReduce}
use Rattle.schedule_model.specs.Arguments.{Argument, access_of, reading, Entries, reaches}
use Rattle.schedule_model.specs.ByArguments.{SameRuns}
use Rattle.schedule_model.specs.Tells.{settling, All}
use Rattle.run_model.specs.ElementRun.{Held, EndsAs, IsElementRun, ElementRunsAreIndependent}
use Rattle.run_model.proofs.element_runs.Reached.{same_test, search_for, is_argument}

-- ---- tests and accesses

is_reading : (x : Access) → (x ≡ OpRead) ⊎ (x ≡ OpRw) → reading x ≡ true
is_reading OpRead h = refl
is_reading OpRw h = refl
is_reading OpWrite (inl h) = absurd (let f : ⊥ = cc in f)
is_reading OpWrite (inr h) = absurd (let f : ⊥ = cc in f)
is_reading (OpReduce r) (inl h) = absurd (let f : ⊥ = cc in f)
is_reading (OpReduce r) (inr h) = absurd (let f : ⊥ = cc in f)

is_settling : (x : Access) → settling x ≡ true → (x ≡ OpRead) ⊎ (x ≡ OpRw) ⊎ (x ≡ OpWrite)
is_settling OpRead h = inl refl
is_settling OpRw h = inr (inl refl)
is_settling OpWrite h = inr (inr refl)
is_settling (OpReduce r) h = absurd (let f : ⊥ = cc in f)

is_reducing : (x : Access) → settling x ≡ false → (r : Reduction) × (x ≡ OpReduce r)
is_reducing OpRead h = absurd (let f : ⊥ = cc in f)
is_reducing OpRw h = absurd (let f : ⊥ = cc in f)
is_reducing OpWrite h = absurd (let f : ⊥ = cc in f)
is_reducing (OpReduce r) h = (r, refl)

module _ (indep : Independence) (reads : ReadsStay) (ops : (r : Reduction) → IsCommuting (unit_of r) (merged r)) (entry : Entries)
    (dim width : ℕ → ℕ) (arg : ℕ → Argument) (n e : ℕ) (modes : List Mode) (cell_of : ℕ → ℕ → Cell) (k : RKernel)
    (is_constant : Cell → Bool) (run : Store → Ran KernelFault) (h : IsElementRun entry dim width arg n e modes cell_of k is_constant run)
    (obeys : KernelObeys k modes) where
  abbrev is_reached : Cell → ℕ → Bool
  is_reached c a = reaches entry dim width e (arg a) c

  abbrev HeldBy : List Target → kernel.Store → Store → Type 0
  HeldBy ts l s = Held entry dim width arg n e modes cell_of ts l s

  in_args : (a i : ℕ) → i < (mode_at modes a).dim → a < n
  in_args a i lt = is_argument modes n h.count a i lt

  access : (a i : ℕ) → i < (mode_at modes a).dim → (mode_at modes a).access ≡ access_of (arg a)
  access a i lt = h.accesses a (in_args a i lt)

  -- ---- one run

  module _ (s : Store) (ts : List Target) (l : kernel.Store) (held : HeldBy ts l s) where
    pub suits : InRange s → Suits modes ts l
    suits in_s = record {
      counts = held.counts;
      arrays = λ a i lt. held.fits.arrays a i (subst (λ c. i < c) (sym (held.counts a)) lt);
      cells = λ a i lt. held.fits.cells a i (subst (λ c. i < c) (sym (held.counts a)) lt);
      numbers = λ r a i lt by. subst (FitsSigned w32) (sym (held.values a i lt)) (in_s (cell_of a i));
    }

    -- an argument that reaches the same cell of the lists reaches the same cell
    also_reaches : (a i b j : ℕ) (c : Cell) → i < (mode_at modes a).dim → j < (mode_at modes b).dim → c ≡ cell_of a i → same_cell ts b j a i ≡ true → is_reached c b ≡ true
    also_reaches a i b j c lt mt is same =
        subst (λ x. is_reached x b ≡ true) ((held.aliases b j a i mt lt).0 same ∙ sym is) (h.reach b j mt)

    only_read : (a i : ℕ) (c : Cell) → i < (mode_at modes a).dim → c ≡ cell_of a i → All entry dim width arg n e c (λ x. x ≡ OpRead)
        → OnlyRead modes ts (target_at ts a).array ((target_at ts a).from + i)
    only_read a i c lt is all b j jt x y =
        let mt = subst (λ m. j < m) (held.counts b) jt in
        let same = and_from _ _ (eq-eqb _ _ x) (eq-eqb _ _ y) in
        access b j mt ∙ (all b (in_args b j mt) (also_reaches a i b j c lt mt is same))

    -- a cell that OP_READ arguments alone reach, or none, stays
    pub stays : (consts : List ℤ) (after : kernel.Store) (t : Store) (c : Cell) → kernel.Finished after ≡ kernel_meaning ts consts k l
        → EndsAs entry dim width arg n e modes cell_of ts s (kernel.Finished after) (Finished t)
        → All entry dim width arg n e c (λ x. x ≡ OpRead) → t c ≡ s c
    stays consts after t c ran ends all = ⊎_elim (λ r. by r.0 r.1 (h.reached r.0 c r.1 r.2)) (λ u. ends.1 c u) (search_for (is_reached c) n)
      where
        by : (a : ℕ) → a < n → (i : ℕ) × (i < (mode_at modes a).dim) × (c ≡ cell_of a i) → t c ≡ s c
        by a at r =
            ap t r.2 ∙ ends.0 a r.0 r.1
            ∙ ap (λ (o : kernel.Ran). cell (store_after o) (target_at ts a).array ((target_at ts a).from + r.0)) ran
            ∙ reads k modes ts consts l (target_at ts a).array ((target_at ts a).from + r.0) obeys held.fits (only_read a r.0 c r.1 r.2 all)
            ∙ held.values a r.0 r.1 ∙ ap s (sym r.2)

  -- ---- two runs

  module _ (s w : Store) (in_s : InRange s) (in_w : InRange w) (ts us : List Target) (l m : kernel.Store) (held_s : HeldBy ts l s) (held_w : HeldBy us m w) where
    aliases : SameAliases modes ts us
    aliases a i b j lt mt = same_test _ _ (held_s.aliases a i b j lt mt) (held_w.aliases a i b j lt mt)

    abbrev AgreeOnInputs : Type 0
    AgreeOnInputs = (c : Cell) (a : ℕ) → a < n → reaches entry dim width e (arg a) c ≡ true → reading (access_of (arg a)) ≡ true → s c ≡ w c

    inputs : AgreeOnInputs → SameInputs modes ts us l m
    inputs agree a i lt r =
        held_s.values a i lt
        ∙ agree (cell_of a i) a (in_args a i lt) (h.reach a i lt) (is_reading (access_of (arg a)) (⊎_elim (λ x. inl (sym (access a i lt) ∙ x)) (λ x. inr (sym (access a i lt) ∙ x)) r))
        ∙ sym (held_w.values a i lt)

    finished : (consts : List ℤ) (l' m' : kernel.Store) (t u : Store) → kernel.Finished l' ≡ kernel_meaning ts consts k l → kernel.Finished m' ≡ kernel_meaning us consts k m
        → law.SameChanges modes ts us l m l' m' → EndsAs entry dim width arg n e modes cell_of ts s (kernel.Finished l') (Finished t)
        → EndsAs entry dim width arg n e modes cell_of us w (kernel.Finished m') (Finished u)
        → SameRuns entry dim width arg n e {F = KernelFault} s w (Finished t) (Finished u)
    finished consts l' m' t u ran_s ran_w same ends_s ends_w =
        record {
          stays = λ c all. (stays s ts l held_s consts l' t c ran_s ends_s all, stays w us m held_w consts m' u c ran_w ends_w all);
          settles = λ c some. let r = h.reached some.0 c some.1 some.2 in alike c some.0 r.0 r.1 r.2 (same.equal some.0 r.0 r.1 (settled some.0 r.0 r.1 some.3));
          merges = λ c o all. ⊎_elim (λ f. let r = h.reached f.0 c f.1 f.2 in amount c o f.0 r.0 r.1 r.2 (same.amounts o f.0 r.0 r.1 (alone c o f.0 r.0 r.1 r.2 all)))
              (λ none. (unit_of o, ends_s.1 c none ∙ sym (nothing o (s c) (in_s c)), ends_w.1 c none ∙ sym (nothing o (w c) (in_w c)))) (search_for (is_reached c) n);
          mixes = λ c all eq. ⊎_elim (λ f. let r = h.reached f.0 c f.1 f.2 in
              alike c f.0 r.0 r.1 r.2 (same.mixed f.0 r.0 r.1 (only_reduced c f.0 r.0 r.1 r.2 all)
              (held_s.values f.0 r.0 r.1 ∙ ap s (sym r.2) ∙ eq ∙ ap w r.2 ∙ sym (held_w.values f.0 r.0 r.1))))
              (λ none. ends_s.1 c none ∙ eq ∙ sym (ends_w.1 c none)) (search_for (is_reached c) n);
        }
      where
        alike : (c : Cell) (a i : ℕ) → i < (mode_at modes a).dim → c ≡ cell_of a i → read_arg ts l' a i ≡ read_arg us m' a i → t c ≡ u c
        alike c a i lt is x = ap t is ∙ ends_s.0 a i lt ∙ x ∙ sym (ends_w.0 a i lt) ∙ ap u (sym is)

        settled : (a i : ℕ) → i < (mode_at modes a).dim → settling (access_of (arg a)) ≡ true → ((mode_at modes a).access ≡ OpRead)
            ⊎ ((mode_at modes a).access ≡ OpRw) ⊎ ((mode_at modes a).access ≡ OpWrite)
        settled a i lt x = subst (λ y. (y ≡ OpRead) ⊎ (y ≡ OpRw) ⊎ (y ≡ OpWrite)) (sym (access a i lt)) (is_settling (access_of (arg a)) x)

        alone : (c : Cell) (o : Reduction) (a i : ℕ) → i < (mode_at modes a).dim → c ≡ cell_of a i → All entry dim width arg n e c (λ x. x ≡ OpReduce o) → Alone modes o ts a i
        alone c o a i lt is all b j mt x = access b j mt ∙ (all b (in_args b j mt) (also_reaches s ts l held_s a i b j c lt mt is x))

        only_reduced : (c : Cell) (a i : ℕ) → i < (mode_at modes a).dim → c ≡ cell_of a i → All entry dim width arg n e c (λ x. settling x ≡ false) → OnlyReduced modes ts a i
        only_reduced c a i lt is all b j mt x =
            let r = is_reducing (access_of (arg b)) (all b (in_args b j mt) (also_reaches s ts l held_s a i b j c lt mt is x)) in
            (r.0, access b j mt ∙ r.1)

        amount : (c : Cell) (o : Reduction) (a i : ℕ) → i < (mode_at modes a).dim → c ≡ cell_of a i → (d : ℤ)
            × (read_arg ts l' a i ≡ merged o (read_arg ts l a i) d) × (read_arg us m' a i ≡ merged o (read_arg us m a i) d) → (d : ℤ)
            × (t c ≡ merged o (s c) d) × (u c ≡ merged o (w c) d)
        amount c o a i lt is x = (
          x.0,
          ap t is ∙ ends_s.0 a i lt ∙ x.1 ∙ ap (λ v. merged o v x.0) (held_s.values a i lt ∙ ap s (sym is)),
          ap u is ∙ ends_w.0 a i lt ∙ x.2 ∙ ap (λ v. merged o v x.0) (held_w.values a i lt ∙ ap w (sym is)),
        )

        nothing : (o : Reduction) (v : ℤ) → FitsSigned w32 v → merged o v (unit_of o) ≡ v
        nothing o v f = (ops o).commutes v (unit_of o) ∙ (ops o).keeps v f

    ended : (consts : List ℤ) (x y : kernel.Ran) (p q : Ran KernelFault) → x ≡ kernel_meaning ts consts k l → y ≡ kernel_meaning us consts k m
        → law.SameRuns modes ts us l m x y → EndsAs entry dim width arg n e modes cell_of ts s x p → EndsAs entry dim width arg n e modes cell_of us w y q
        → SameRuns entry dim width arg n e s w p q
    ended consts (kernel.Finished l') (kernel.Finished m') (Finished t) (Finished u) a b same ends_s ends_w = finished consts l' m' t u a b same ends_s ends_w
    ended consts (kernel.Stopped l' f) (kernel.Stopped m' g) (Faulted p) (Faulted q) a b same ends_s ends_w = sym ends_s ∙ same ∙ ends_w
    ended consts (kernel.Finished l') (kernel.Stopped m' g) p q a b same ends_s ends_w = absurd same
    ended consts (kernel.Stopped l' f) (kernel.Finished m') p q a b same ends_s ends_w = absurd same
    ended consts (kernel.Finished l') (kernel.Finished m') (Faulted p) q a b same ends_s ends_w = absurd ends_s
    ended consts (kernel.Finished l') (kernel.Finished m') (Finished t) (Faulted q) a b same ends_s ends_w = absurd ends_w
    ended consts (kernel.Stopped l' f) (kernel.Stopped m' g) (Finished t) q a b same ends_s ends_w = absurd ends_s
    ended consts (kernel.Stopped l' f) (kernel.Stopped m' g) (Faulted p) (Finished u) a b same ends_s ends_w = absurd ends_w

pub independent : Independence → ReadsStay → ((r : Reduction) → IsCommuting (unit_of r) (merged r)) → ElementRunsAreIndependent
independent indep reads ops entry dim width arg n e modes cell_of k is_constant run h obeys s w in_s in_w agree constant =
    let ts = h.targets s in
    let us = h.targets w in
    let l = h.lists s in
    let m = h.lists w in
    let held_s = h.held s in
    let held_w = h.held w in
    let same : h.consts w ≡ h.consts s = sym (h.constants s w constant) in
    let ends_w = subst (λ cs. EndsAs entry dim width arg n e modes cell_of us w (kernel_meaning us cs k m) (run w)) same (h.ends w) in
    let both = indep k modes (h.consts s) ts us l m (h.resolved s) obeys
    (suits indep reads ops entry dim width arg n e modes cell_of k is_constant run h obeys s ts l held_s in_s)
    (suits indep reads ops entry dim width arg n e modes cell_of k is_constant run h obeys w us m held_w in_w)
    (aliases indep reads ops entry dim width arg n e modes cell_of k is_constant run h obeys s w in_s in_w ts us l m held_s held_w)
    (inputs indep reads ops entry dim width arg n e modes cell_of k is_constant run h obeys s w in_s in_w ts us l m held_s held_w agree) in
    ended indep reads ops entry dim width arg n e modes cell_of k is_constant run h obeys s w in_s in_w ts us l m held_s held_w (h.consts s)
    (kernel_meaning ts (h.consts s) k l) (kernel_meaning us (h.consts s) k m) (run s) (run w) refl refl both (h.ends s) ends_w
