-- The laws of a plan from what is said of its parts.
use Rattle.std.proofs.Common.{◌≡◌, ℕ, ◌<◌, true, false, ◌⊎◌, inl, inr, refl, sym, ap, subst, ◌∙◌, ⊎_elim, Option, Some, None}
use Rattle.std.specs.Prelude.{◌&&◌, ◌||◌, ◌==◌}
use Rattle.std.proofs.lemmas.Bool.{cases_eq, cases_Bool, false≢true, false_from_ne_true, and_parts, and_from, or_left, or_right, or_cases, cond-true, eqb-true, eq-eqb, ltb-true, lt-ltb}
use Rattle.op_num.specs.Reduction.{Reduction}
use Rattle.schedule_model.specs.Cells.{Data, Variable, DatCell, VarCell}
use Rattle.schedule_model.specs.Effects.{Untouched, Merged, is_read, is_modified}
use Rattle.schedule_model.specs.Program.{Free, elements}
use Rattle.schedule_model.specs.Setup.{Setup, in_set, owner_of, has_copy, executes}
use Rattle.schedule_model.specs.Laws.{Reaches, Lawful, Coloured, Kernels, Items}
use Rattle.op_num.specs.Access.{Access, OpRead, OpWrite, OpRw, OpReduce}
use Rattle.schedule_model.specs.Arguments.{Argument, Direct, Indirect, Global, access_of, modifying, reading, is_direct, is_on, target, reaches}
use Rattle.schedule_model.specs.LoopParts.{LoopParts}
use Rattle.schedule_model.proofs.schedule_laws.Touches.{read_by, modified_by, none_reach, one_reduction, one_argument, reaches_on, reaches_named, named_reaches}

module _ {F : Type 0} (p : Setup F) (f : LoopParts p) where
  abbrev arg : ℕ → ℕ → Argument
  arg k a = f.arg (p.program.site k) a

  abbrev args : ℕ → ℕ
  args k = f.args (p.program.site k)

  -- an argument by which the element reaches the cell
  record Reached (k e : ℕ) (c : DatCell) : Type 0 where
    by : ℕ
    one_of : by < args k
    on : is_on c.dat (arg k by) ≡ true
    hits : target f.entry e (arg k by) ≡ c.element

  -- of what kind it is
  data Shape (k e : ℕ) (c : DatCell) (a : ℕ) : Type 0 where
    direct : (x : Access) → arg k a ≡ Direct c.dat x → p.program.set_of c.dat ≡ p.program.set k → c.element ≡ e → Shape k e c a
    indirect : (m i : ℕ) (x : Access) → arg k a ≡ Indirect c.dat m i x → m < f.maps → f.from_set m ≡ p.program.set k
        → f.to_set m ≡ p.program.set_of c.dat → i < f.arity m → c.element ≡ f.entry m e i → Shape k e c a

  shape : (k e : ℕ) (c : DatCell) → p.program.kind k ≡ Free → (r : Reached k e c) → Shape k e c r.by
  shape k e c fr r = at (arg k r.by) refl r.on r.hits
    where
      at : (x : Argument) → arg k r.by ≡ x → is_on c.dat x ≡ true → target f.entry e x ≡ c.element → Shape k e c r.by
      at (Direct d x) i on hits =
          let j : d ≡ c.dat = eqb-true d c.dat on in
          let i2 : arg k r.by ≡ Direct c.dat x = i ∙ ap (λ z. Direct z x) j in
          direct x i2 (f.direct_set k r.by c.dat x fr r.one_of i2) (sym hits)
      at (Indirect d m j x) i on hits =
          let h : d ≡ c.dat = eqb-true d c.dat on in
          let i2 : arg k r.by ≡ Indirect c.dat m j x = i ∙ ap (λ z. Indirect z m j x) h in
          let s : (m < f.maps) × (f.from_set m ≡ p.program.set k) × (f.to_set m ≡ p.program.set_of c.dat) × (j < f.arity m) = f.indirect_set k r.by c.dat m j x fr r.one_of i2 in
          indirect m j x i2 s.0 s.1 s.2 s.3 (sym hits)
      at (Global v x) i on hits = absurd (false≢true on)

  modified_reached : (k e : ℕ) (c : DatCell) → p.program.kind k ≡ Free → e < elements p.program k
      → is_modified (p.touch k e (Data c)) ≡ true → (r : Reached k e c) × (modifying (access_of (arg k r.by)) ≡ true)
  modified_reached k e c fr lt h =
      let r : (a : ℕ) × (a < args k) × (reaches f.entry f.dim f.width e (arg k a) (Data c) ≡ true) × (modifying (access_of (arg k a)) ≡ true) =
      modified_by f.entry f.dim f.width (f.arg (p.program.site k)) e (Data c) (args k) (ap is_modified (sym (f.touch_is k e c fr lt)) ∙ h) in
      let on : (is_on c.dat (arg k r.0) ≡ true) × (target f.entry e (arg k r.0) ≡ c.element) = reaches_on f.entry f.dim f.width e (arg k r.0) c r.2 in
      (record { by = r.0; one_of = r.1; on = on.0; hits = on.1 }, r.3)

  read_reached : (k e : ℕ) (c : DatCell) → p.program.kind k ≡ Free → e < elements p.program k → is_read (p.touch k e (Data c)) ≡ true → (r : Reached k e c) × (reading (access_of (arg k r.by)) ≡ true)
  read_reached k e c fr lt h =
      let r : (a : ℕ) × (a < args k) × (reaches f.entry f.dim f.width e (arg k a) (Data c) ≡ true) × (reading (access_of (arg k a)) ≡ true) =
      read_by f.entry f.dim f.width (f.arg (p.program.site k)) e (Data c) (args k) (ap is_read (sym (f.touch_is k e c fr lt)) ∙ h) in
      let on : (is_on c.dat (arg k r.0) ≡ true) × (target f.entry e (arg k r.0) ≡ c.element) = reaches_on f.entry f.dim f.width e (arg k r.0) c r.2 in
      (record { by = r.0; one_of = r.1; on = on.0; hits = on.1 }, r.3)

  -- the dat of a modified cell has arguments of one reduction, or direct ones
  abbrev OneKind : ℕ → ℕ → Type 0
  OneKind k d = ((o : Reduction) × ((a : ℕ) → a < args k → is_on d (arg k a) ≡ true → access_of (arg k a) ≡ OpReduce o))
      ⊎ ((a : ℕ) → a < args k → is_on d (arg k a) ≡ true → is_direct (arg k a) ≡ true)

  one_kind : (k e : ℕ) (c : DatCell) → p.program.kind k ≡ Free → (r : Reached k e c) → modifying (access_of (arg k r.by)) ≡ true → OneKind k c.dat
  one_kind k e c fr r m = f.free_is k r.by c.dat fr r.one_of r.on m

  direct_element : (k e : ℕ) (c : DatCell) → p.program.kind k ≡ Free → (r : Reached k e c) → is_direct (arg k r.by) ≡ true → c.element ≡ e
  direct_element k e c fr r d = at (shape k e c fr r)
    where
      at : Shape k e c r.by → c.element ≡ e
      at (direct x i s h) = h
      at (indirect m j x i a b g l h) = absurd (false≢true (ap is_direct (sym i) ∙ d))

  shares : (k a b : ℕ) (c : DatCell) → p.program.kind k ≡ Free → a < elements p.program k → b < elements p.program k → (a ≡ b → ⊥) → is_modified (p.touch k a (Data c)) ≡ true
      → (p.touch k b (Data c) ≡ Untouched) ⊎ ((o : Reduction) × (p.touch k a (Data c) ≡ Merged o) × (p.touch k b (Data c) ≡ Merged o))
  shares k a b c fr la lb ne h =
      let r : (r : Reached k a c) × (modifying (access_of (arg k r.by)) ≡ true) = modified_reached k a c fr la h in
      ⊎_elim
      (λ (one : (o : Reduction) × ((x : ℕ) → x < args k → is_on c.dat (arg k x) ≡ true → access_of (arg k x) ≡ OpReduce o)).
      let only = λ (e : ℕ) (x : ℕ) (lx : x < args k) (t : reaches f.entry f.dim f.width e (arg k x) (Data c) ≡ true). one.1 x lx (reaches_on f.entry f.dim f.width e (arg k x) c t).0 in
      both one.0
      (subst (λ z. (z ≡ Untouched) ⊎ (z ≡ Merged one.0)) (sym (f.touch_is k a c fr la)) (one_reduction f.entry f.dim f.width (f.arg (p.program.site k)) a (Data c) (args k) one.0 (only a)))
      (subst (λ z. (z ≡ Untouched) ⊎ (z ≡ Merged one.0)) (sym (f.touch_is k b c fr lb)) (one_reduction f.entry f.dim f.width (f.arg (p.program.site k)) b (Data c) (args k) one.0 (only b))))
      (λ (dir : (x : ℕ) → x < args k → is_on c.dat (arg k x) ≡ true → is_direct (arg k x) ≡ true).
      inl (f.touch_is k b c fr lb ∙ none_reach f.entry f.dim f.width (f.arg (p.program.site k)) b (Data c) (args k)
      (λ x lx. false_from_ne_true (reaches f.entry f.dim f.width b (arg k x) (Data c)) (λ t.
      let on : (is_on c.dat (arg k x) ≡ true) × (target f.entry b (arg k x) ≡ c.element) = reaches_on f.entry f.dim f.width b (arg k x) c t in
      ne (sym (direct_element k a c fr r.0 (dir r.0.by r.0.one_of r.0.on)) ∙ direct_element k b c fr (record { by = x; one_of = lx; on = on.0; hits = on.1 }) (dir x lx on.0))))))
      (one_kind k a c fr r.0 r.1)
    where
      both : (o : Reduction) → (p.touch k a (Data c) ≡ Untouched) ⊎ (p.touch k a (Data c) ≡ Merged o) → (p.touch k b (Data c) ≡ Untouched) ⊎ (p.touch k b (Data c) ≡ Merged o)
          → (p.touch k b (Data c) ≡ Untouched) ⊎ ((o : Reduction) × (p.touch k a (Data c) ≡ Merged o) × (p.touch k b (Data c) ≡ Merged o))
      both o x y = ⊎_elim
          (λ (u : p.touch k a (Data c) ≡ Untouched). absurd (false≢true (ap is_modified (sym u) ∙ h)))
          (λ (u : p.touch k a (Data c) ≡ Merged o). ⊎_elim (λ v. inl v) (λ v. inr (o, u, v)) y)
          x

  variable_reaches : (k e : ℕ) (v : VarCell) → p.program.kind k ≡ Free → e < elements p.program k → (o : Option Reduction) → p.reduces (p.program.site k) v ≡ o → Reaches o (p.touch k e (Variable v))
  variable_reaches k e v fr lt None i = f.constant_touch k e v fr lt i
  variable_reaches k e v fr lt (Some o) i =
      let a : (a : ℕ) × (a < args k) × (arg k a ≡ Global v.variable (OpReduce o)) × (v.component < f.width v.variable) = f.reduces_only k v o fr i in
      f.variable_touch k e v o fr lt i
      ∙ one_argument f.entry f.dim f.width (f.arg (p.program.site k)) e (Variable v) (args k) a.0 o a.1
      (named_reaches f.entry f.dim f.width e (arg k a.0) v (OpReduce o) a.2 a.3) (ap access_of a.2)
      (λ b lb t. let n : (y : Access) × (arg k b ≡ Global v.variable y) = reaches_named f.entry f.dim f.width e (arg k b) v t in
      f.named_once k b a.0 v.variable n.0 o fr lb a.1 n.1 a.2)

  modified : (k e : ℕ) (c : DatCell) → p.program.kind k ≡ Free → e < elements p.program k → is_modified (p.touch k e (Data c)) ≡ true → p.modifies k c.dat ≡ true
  modified k e c fr lt h = let r : (r : Reached k e c) × (modifying (access_of (arg k r.by)) ≡ true) = modified_reached k e c fr lt h in f.modifies_is k r.0.by c.dat fr r.0.one_of r.0.on r.1

  -- ---- owners and halos
  owner_is : (c : DatCell) → c.element < p.program.size (p.program.set_of c.dat) → owner_of p c ≡ p.owner (p.program.set_of c.dat) c.element
  owner_is c lt = cond-true (in_set p c) (p.owner (p.program.set_of c.dat) c.element) 0 (lt-ltb c.element (p.program.size (p.program.set_of c.dat)) lt)

  -- what an element reaches is of the dat's set
  in_range : (k e : ℕ) (c : DatCell) (a : ℕ) → e < elements p.program k → Shape k e c a → c.element < p.program.size (p.program.set_of c.dat)
  in_range k e c a lt (direct x i s h) = subst (λ z. c.element < p.program.size z) (sym s) (subst (λ z. z < p.program.size (p.program.set k)) (sym h) lt)
  in_range k e c a lt (indirect m j x i lm from to lj h) =
      subst (λ z. c.element < p.program.size z) to
      (subst (λ z. z < p.program.size (f.to_set m)) (sym h) (f.in_range m e j lm (subst (λ z. e < p.program.size z) (sym from) lt) lj))

  direct_owner : (k e : ℕ) (c : DatCell) → p.program.set_of c.dat ≡ p.program.set k → c.element ≡ e → p.owner (p.program.set_of c.dat) c.element ≡ p.owner (p.program.set k) e
  direct_owner k e c s h = ap (λ z. p.owner z c.element) s ∙ ap (p.owner (p.program.set k)) h

  target_owner : (c : DatCell) (m e i : ℕ) → f.to_set m ≡ p.program.set_of c.dat → c.element ≡ f.entry m e i → p.owner (p.program.set_of c.dat) c.element ≡ p.owner (f.to_set m) (f.entry m e i)
  target_owner c m e i to h = ap (λ z. p.owner z c.element) (sym to) ∙ ap (p.owner (f.to_set m)) h

  -- an indirect argument that modifies reduces
  indirect_reduces : (k e : ℕ) (c : DatCell) (m i : ℕ) (x : Access) → p.program.kind k ≡ Free → (r : Reached k e c)
      → modifying (access_of (arg k r.by)) ≡ true → arg k r.by ≡ Indirect c.dat m i x → (o : Reduction) × (x ≡ OpReduce o)
  indirect_reduces k e c m i x fr r md at = ⊎_elim
      (λ (one : (o : Reduction) × ((a : ℕ) → a < args k → is_on c.dat (arg k a) ≡ true → access_of (arg k a) ≡ OpReduce o)). (one.0, ap access_of (sym at) ∙ one.1 r.by r.one_of r.on))
      (λ (dir : (a : ℕ) → a < args k → is_on c.dat (arg k a) ≡ true → is_direct (arg k a) ≡ true). absurd (false≢true (ap is_direct (sym at) ∙ dir r.by r.one_of r.on)))
      (one_kind k e c fr r md)

  covers : (k e : ℕ) (c : DatCell) → p.program.kind k ≡ Free → e < elements p.program k → is_modified (p.touch k e (Data c)) ≡ true
      → p.owner (p.program.set_of c.dat) c.element < p.ranks → executes p k (owner_of p c) e ≡ true
  covers k e c fr lt h lr =
      let r : (r : Reached k e c) × (modifying (access_of (arg k r.by)) ≡ true) = modified_reached k e c fr lt h in
      at r.0 r.1 (shape k e c fr r.0)
    where
      at : (r : Reached k e c) → modifying (access_of (arg k r.by)) ≡ true → Shape k e c r.by → executes p k (owner_of p c) e ≡ true
      at r md (direct x i s g) = or_left (p.owner (p.program.set k) e == owner_of p c) (p.scatters k && p.import_execute (owner_of p c) (p.program.set k) e)
          (eq-eqb (p.owner (p.program.set k) e) (owner_of p c) (sym (owner_is c (in_range k e c r.by lt (direct x i s g)) ∙ direct_owner k e c s g)))
      at r md (indirect m j x i lm from to lj g) =
          let there : owner_of p c ≡ p.owner (p.program.set_of c.dat) c.element = owner_is c (in_range k e c r.by lt (indirect m j x i lm from to lj g)) in
          let o : (o : Reduction) × (x ≡ OpReduce o) = indirect_reduces k e c m j x fr r md i in
          let sc : p.scatters k ≡ true = f.scatters_is k r.by c.dat m j o.0 fr r.one_of (i ∙ ap (Indirect c.dat m j) o.1) in
          subst (λ z. executes p k z e ≡ true) (sym there) (⊎_elim
          (λ (own : p.owner (p.program.set k) e ≡ p.owner (p.program.set_of c.dat) c.element). or_left
          (p.owner (p.program.set k) e == p.owner (p.program.set_of c.dat) c.element)
          (p.scatters k && p.import_execute (p.owner (p.program.set_of c.dat) c.element) (p.program.set k) e)
          (eq-eqb (p.owner (p.program.set k) e) (p.owner (p.program.set_of c.dat) c.element) own))
          (λ (ne : p.owner (p.program.set k) e ≡ p.owner (p.program.set_of c.dat) c.element → ⊥). or_right
          (p.owner (p.program.set k) e == p.owner (p.program.set_of c.dat) c.element)
          (p.scatters k && p.import_execute (p.owner (p.program.set_of c.dat) c.element) (p.program.set k) e)
          (and_from (p.scatters k) (p.import_execute (p.owner (p.program.set_of c.dat) c.element) (p.program.set k) e) sc
          (f.execute_if (p.owner (p.program.set_of c.dat) c.element) (p.program.set k) e m j lr lt ne lm from lj (sym (target_owner c m e j to g)))))
          (cases_eq (p.owner (p.program.set k) e) (p.owner (p.program.set_of c.dat) c.element)))

  -- whatever a core element reaches its rank owns
  core_owns : (k r e : ℕ) (c : DatCell) (a : ℕ) → r < p.ranks → e < elements p.program k → p.core r (p.program.set k) e ≡ true → Shape k e c a → owner_of p c ≡ r
  core_owns k r e c a lr lt co (direct x i s g) = owner_is c (in_range k e c a lt (direct x i s g)) ∙ (direct_owner k e c s g ∙ f.core_own r (p.program.set k) e lr lt co)
  core_owns k r e c a lr lt co (indirect m j x i lm from to lj g) =
      owner_is c (in_range k e c a lt (indirect m j x i lm from to lj g)) ∙ (target_owner c m e j to g ∙ f.core_targets r (p.program.set k) e m j lr lt co lm from lj)

  core_modifies : (k r e : ℕ) (c : DatCell) → p.program.kind k ≡ Free → r < p.ranks → e < elements p.program k → executes p k r e ≡ true
      → p.core r (p.program.set k) e ≡ true → is_modified (p.touch k e (Data c)) ≡ true → owner_of p c ≡ r
  core_modifies k r e c fr lr lt ex co h =
      let a : (a : Reached k e c) × (modifying (access_of (arg k a.by)) ≡ true) = modified_reached k e c fr lt h in
      core_owns k r e c a.0.by lr lt co (shape k e c fr a.0)

  executed : (k r e : ℕ) → executes p k r e ≡ true → (p.owner (p.program.set k) e ≡ r) ⊎ ((p.scatters k ≡ true) × (p.import_execute r (p.program.set k) e ≡ true))
  executed k r e h = ⊎_elim
      (λ t. inl (eqb-true (p.owner (p.program.set k) e) r t))
      (λ t. inr (and_parts (p.scatters k) (p.import_execute r (p.program.set k) e) t))
      (or_cases (p.owner (p.program.set k) e == r) (p.scatters k && p.import_execute r (p.program.set k) e) h)

  -- an indirect argument that reads is OP_READ
  indirect_reads : (k e : ℕ) (c : DatCell) (m i : ℕ) (x : Access) → p.program.kind k ≡ Free → (r : Reached k e c)
      → reading (access_of (arg k r.by)) ≡ true → arg k r.by ≡ Indirect c.dat m i x → x ≡ OpRead
  indirect_reads k e c m i x fr r rd at = by_access x refl
    where
      is_x : access_of (arg k r.by) ≡ x
      is_x = ap access_of at

      by_access : (y : Access) → x ≡ y → x ≡ OpRead
      by_access OpRead j = j
      by_access OpWrite j = absurd (false≢true (ap reading (sym (is_x ∙ j)) ∙ rd))
      by_access (OpReduce o) j = absurd (false≢true (ap reading (sym (is_x ∙ j)) ∙ rd))
      by_access OpRw j =
          let o : (o : Reduction) × (x ≡ OpReduce o) = indirect_reduces k e c m i x fr r (ap modifying (is_x ∙ j)) at in
          let z : OpRw ≡ OpReduce o.0 = sym j ∙ o.1 in cc

  copy : (r : ℕ) (c : DatCell) → c.element < p.program.size (p.program.set_of c.dat)
      → (p.import_execute r (p.program.set_of c.dat) c.element ≡ true) ⊎ (p.import_nonexecute r (p.program.set_of c.dat) c.element ≡ true)
      → has_copy p r c ≡ true
  copy r c lt h = and_from (in_set p c)
      (p.import_execute r (p.program.set_of c.dat) c.element || p.import_nonexecute r (p.program.set_of c.dat) c.element)
      (lt-ltb c.element (p.program.size (p.program.set_of c.dat)) lt)
      (⊎_elim
      (λ t. or_left (p.import_execute r (p.program.set_of c.dat) c.element) (p.import_nonexecute r (p.program.set_of c.dat) c.element) t)
      (λ t. or_right (p.import_execute r (p.program.set_of c.dat) c.element) (p.import_nonexecute r (p.program.set_of c.dat) c.element) t)
      h)

  core_reads : (k r e : ℕ) (c : DatCell) → p.program.kind k ≡ Free → r < p.ranks → e < elements p.program k → executes p k r e ≡ true → is_read (p.touch k e (Data c)) ≡ true
      → (owner_of p c ≡ r) ⊎ ((has_copy p r c ≡ true) × (p.needs k c.dat ≡ true) × (p.core r (p.program.set k) e ≡ false))
  core_reads k r e c fr lr lt ex h =
      let a : (a : Reached k e c) × (reading (access_of (arg k a.by)) ≡ true) = read_reached k e c fr lt h in
      ⊎_elim
      (λ (own : owner_of p c ≡ r). inl own)
      (λ (other : owner_of p c ≡ r → ⊥). inr (at a.0 a.1 (shape k e c fr a.0) other))
      (cases_eq (owner_of p c) r)
    where
      at : (a : Reached k e c) → reading (access_of (arg k a.by)) ≡ true → Shape k e c a.by → (owner_of p c ≡ r → ⊥)
          → (has_copy p r c ≡ true) × (p.needs k c.dat ≡ true) × (p.core r (p.program.set k) e ≡ false)
      at a rd (direct x i s g) other =
          let inside : c.element < p.program.size (p.program.set_of c.dat) = in_range k e c a.by lt (direct x i s g) in
          let exec : (p.scatters k ≡ true) × (p.import_execute r (p.program.set k) e ≡ true) = ⊎_elim
          (λ own. absurd (other (owner_is c inside ∙ (direct_owner k e c s g ∙ own)))) (λ t. t) (executed k r e ex) in (
            copy r c inside (inl (subst (λ z. p.import_execute r z c.element ≡ true) (sym s) (subst (λ z. p.import_execute r (p.program.set k) z ≡ true) (sym g) exec.1))),
            f.needs_direct k a.by c.dat x fr a.one_of i (ap reading (ap access_of (sym i)) ∙ rd) exec.0,
            false_from_ne_true (p.core r (p.program.set k) e) (λ co. other (core_owns k r e c a.by lr lt co (direct x i s g))),
          )
      at a rd (indirect m j x i lm from to lj g) other =
          let inside : c.element < p.program.size (p.program.set_of c.dat) = in_range k e c a.by lt (indirect m j x i lm from to lj g) in
          let away : p.owner (f.to_set m) (f.entry m e j) ≡ r → ⊥ = λ own. other (owner_is c inside ∙ (target_owner c m e j to g ∙ own)) in
          let reads : arg k a.by ≡ Indirect c.dat m j OpRead = i ∙ ap (Indirect c.dat m j) (indirect_reads k e c m j x fr a rd i) in (
            copy r c inside (subst (λ z. (p.import_execute r z c.element ≡ true) ⊎ (p.import_nonexecute r z c.element ≡ true)) to
                (subst (λ z. (p.import_execute r (f.to_set m) z ≡ true) ⊎ (p.import_nonexecute r (f.to_set m) z ≡ true)) (sym g)
                (⊎_elim
                (λ t. inl t)
                (λ t. inr (f.nonexecute_if r m e j lr lm lj (subst (λ z. e < p.program.size z) (sym from) lt)
                (⊎_elim (λ own. inl (ap (λ z. p.owner z e) from ∙ own))
                (λ (u : (p.scatters k ≡ true) × (p.import_execute r (p.program.set k) e ≡ true)). inr
                (ap (λ z. p.import_execute r z e) from ∙ u.1)) (executed k r e ex)) away t))
                (cases_Bool (p.import_execute r (f.to_set m) (f.entry m e j)))))),
            f.needs_indirect k a.by c.dat m j fr a.one_of reads,
            false_from_ne_true (p.core r (p.program.set k) e) (λ co. other (core_owns k r e c a.by lr lt co (indirect m j x i lm from to lj g))),
          )

  imported : (r : ℕ) (c : DatCell) → has_copy p r c ≡ true → (c.element < p.program.size (p.program.set_of c.dat))
      × ((p.import_execute r (p.program.set_of c.dat) c.element ≡ true) ⊎ (p.import_nonexecute r (p.program.set_of c.dat) c.element ≡ true))
  imported r c h =
      let a : (in_set p c ≡ true) × ((p.import_execute r (p.program.set_of c.dat) c.element || p.import_nonexecute r
      (p.program.set_of c.dat) c.element) ≡ true) = and_parts (in_set p c)
      (p.import_execute r (p.program.set_of c.dat) c.element || p.import_nonexecute r (p.program.set_of c.dat) c.element) h in (
        ltb-true c.element (p.program.size (p.program.set_of c.dat)) a.0,
        or_cases (p.import_execute r (p.program.set_of c.dat) c.element) (p.import_nonexecute r (p.program.set_of c.dat) c.element) a.1,
      )

  imports_other : (r : ℕ) (c : DatCell) → r < p.ranks → has_copy p r c ≡ true → owner_of p c ≡ r → ⊥
  imports_other r c lr h own =
      let a : (c.element < p.program.size (p.program.set_of c.dat))
      × ((p.import_execute r (p.program.set_of c.dat) c.element ≡ true)
      ⊎ (p.import_nonexecute r (p.program.set_of c.dat) c.element ≡ true)) = imported r c h in
      let mine : p.owner (p.program.set_of c.dat) c.element ≡ r = sym (owner_is c a.0) ∙ own in
      ⊎_elim (λ t. f.execute_other r (p.program.set_of c.dat) c.element lr a.0 t mine) (λ t. f.nonexecute_other r (p.program.set_of c.dat) c.element lr a.0 t mine) a.1

  linked : (k r : ℕ) (c : DatCell) → p.program.kind k ≡ Free → r < p.ranks → has_copy p r c ≡ true → p.exchanged k c.dat ≡ true → p.sends k (owner_of p c) r ≡ true
  linked k r c fr lr h x =
      let a : (c.element < p.program.size (p.program.set_of c.dat))
      × ((p.import_execute r (p.program.set_of c.dat) c.element ≡ true)
      ⊎ (p.import_nonexecute r (p.program.set_of c.dat) c.element ≡ true)) = imported r c h in
      ap (λ s. p.sends k s r) (owner_is c a.0) ∙ f.sent k r c.dat c.element fr lr x a.0 a.1

  pub colours : Coloured p
  colours k r a b c fr lr la lb xa xb ne wa wb =
      let s : (s : Reached k a c) × (modifying (access_of (arg k s.by)) ≡ true) = modified_reached k a c fr la wa in
      let t : (t : Reached k b c) × (modifying (access_of (arg k t.by)) ≡ true) = modified_reached k b c fr lb wb in
      ⊎_elim
      (λ (one : (o : Reduction) × ((x : ℕ) → x < args k → is_on c.dat (arg k x) ≡ true → access_of (arg k x) ≡ OpReduce o)).
      f.coloured k r a b s.0.by t.0.by c.dat fr lr la lb xa xb ne s.0.one_of t.0.one_of s.0.on t.0.on one.0 one.0
      (one.1 s.0.by s.0.one_of s.0.on) (one.1 t.0.by t.0.one_of t.0.on) (s.0.hits ∙ sym t.0.hits))
      (λ (dir : (x : ℕ) → x < args k → is_on c.dat (arg k x) ≡ true → is_direct (arg k x) ≡ true).
      absurd (ne (sym (direct_element k a c fr s.0 (dir s.0.by s.0.one_of s.0.on)) ∙ direct_element k b c fr t.0 (dir t.0.by t.0.one_of t.0.on))))
      (one_kind k a c fr s.0 s.1)

  pub lawful : Kernels p → Items p → Lawful p
  lawful ks is = record {
    kernels = ks;
    items = is;
    shares = shares;
    reaches = λ k e v fr lt. variable_reaches k e v fr lt (p.reduces (p.program.site k) v) refl;
    modified = modified;
    imports_other = imports_other;
    covers = λ k e c fr lt h.
        let r : (r : Reached k e c) × (modifying (access_of (arg k r.by)) ≡ true) = modified_reached k e c fr lt h in
        covers k e c fr lt h (is.owners (p.program.set_of c.dat) c.element (in_range k e c r.0.by lt (shape k e c fr r.0)));
    core_modifies = core_modifies;
    core_reads = core_reads;
    linked = linked;
  }
