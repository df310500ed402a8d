-- What a kernel may do to an argument depends on the mode of that argument alone.
use Rattle.std.proofs.Common.{◌≡◌, ◌<◌, ◌≤◌, ◌+◌, ◌⊎◌, inl, inr, ℕ, Bool, true, false, List, [], ◌∷◌, ◌++◌, length, map, Contains, zero, suc, Some, refl, sym, ap, ◌∙◌, subst, arith, if◌then◌else◌, slice_index_or}
use Rattle.std.specs.List.{list_any}
use Rattle.std.proofs.lemmas.Bool.{cases_lt}
use Rattle.std.proofs.lemmas.List.Elements.{Contains-push_cases}
use Rattle.indexmap.specs.IndexSet.{insert_key}
use Rattle.indexmap.proofs.CallerLemmas.{Contains-list_any}
use Rattle.kernel_model.specs.declared.types.kernels.RKernel.{RKernel}
use Rattle.kernel_model.specs.declared.types.statements.RStmt.{RStmt}
use Rattle.kernel_model.specs.Obeys as model
use Rattle.kernel_model.specs.Obeys.{Obeys, KernelObeys, mode_at, Assigned, Event, Allowed, AllAllowed, Reads, Assigns, Adds, Changes, Owns, Merges, after_event, events, no_counters, MayRead, MayAssign, MayAdd, MayChange, MayOwn, MayMerge}
use Rattle.kernel_model.specs.Refusals.{argument_of}
use Rattle.access_check.specs.Modes.{model_of}
use Rattle.access_check.specs.declared.modes.Mode.{Mode}
use Rattle.run_model.specs.Kernels.{kernel_at}
use Rattle.job_inputs.specs.contracts.known_uses.ArgUsePartialEq.TheImpl.{eq-value}
use Rattle.job_inputs.specs.declared.known_uses.ArgUse.{ArgUse}
use Rattle.job_inputs.specs.Known.{use_of, no_use, IsObeyed, AreObeyed}

-- ---- sets of uses

-- uses that `==` doesn't tell apart are the same
same_use : (x y : ArgUse) → eq-value.it x y ≡ true → x ≡ y
same_use x y e = grind arith

-- a use that is found is there
pub found_use : (uses : List ArgUse) (u : ArgUse) → list_any (eq-value.it u) uses ≡ true → Contains uses u
found_use uses u e = Contains-list_any eq-value.it same_use uses u e

-- one more of the first numbers
pub one_more : (P : ℕ → Type 0) (n : ℕ) → ((a : ℕ) → a < n → P a) → P n → (a : ℕ) → a < n + 1 → P a
one_more P n before last a lt =
    elim (cases_lt a n) as (λ _. P a) [ inl l ↦ before a l | inr l ↦ let e : n ≡ a = omega (arith, lt, l) in subst P e last ]

-- what is there after one more was inserted was there before, or is that one
pub inserted : (uses : List ArgUse) (x u : ArgUse) → Contains (insert_key eq-value.it uses x) u → Contains uses u ⊎ (u ≡ x)
inserted uses x u there = by (list_any (eq-value.it x) uses) refl
  where
    by : (b : Bool) → list_any (eq-value.it x) uses ≡ b → Contains uses u ⊎ (u ≡ x)
    by true e = inl (subst (λ (l : List ArgUse). Contains l u) (ap (λ (c : Bool). if c then uses else uses ++ x ∷ []) e) there)
    by false e =
        elim (Contains-push_cases uses x u (subst (λ (l : List ArgUse). Contains l u) (ap (λ (c : Bool). if c then uses else uses ++ x ∷ []) e) there))
        as (λ _. Contains uses u ⊎ (u ≡ x)) [ inl l ↦ inl l | inr l ↦ inr (sym l) ]

-- ---- an event is allowed by the mode of its argument alone

allowed_by : (ms ns : List model.Mode) (before : Assigned) (e : Event)
    → mode_at ns (argument_of e) ≡ mode_at ms (argument_of e)
    → Allowed ns before e
    → Allowed ms before e
allowed_by ms ns before (Reads a ix at) same h = subst (λ (m : model.Mode). MayRead m.access m.dim a ix before) same h
allowed_by ms ns before (Assigns a ix at) same h = subst (λ (m : model.Mode). MayAssign m.access m.dim a ix before) same h
allowed_by ms ns before (Adds a ix at) same h = subst (λ (m : model.Mode). MayAdd m.access m.dim a ix before) same h
allowed_by ms ns before (Changes a ix at) same h = subst (λ (m : model.Mode). MayChange m.access m.dim a ix before) same h
allowed_by ms ns before (Owns which a ix at) same h = subst (λ (m : model.Mode). MayOwn which m.access m.dim a ix before) same h
allowed_by ms ns before (Merges which a ix at) same h = subst (λ (m : model.Mode). MayMerge which m.access m.dim a ix before) same h

all_allowed_by : (ms : List model.Mode) (ns : ℕ → List model.Mode) (before : Assigned) (es : List Event)
    → ((a : ℕ) → mode_at (ns a) a ≡ mode_at ms a)
    → ((a : ℕ) → AllAllowed (ns a) before es)
    → AllAllowed ms before es
all_allowed_by ms ns before [] same h = tt
all_allowed_by ms ns before (e ∷ es) same h = (
  allowed_by ms (ns (argument_of e)) before e (same (argument_of e)) (h (argument_of e)).0,
  all_allowed_by ms ns (after_event e before) es same (λ a. (h a).1),
)

-- a statement obeys modes where each of them is one of some modes that it obeys
obeys_by : (body : RStmt) (ms : List model.Mode) (ns : ℕ → List model.Mode)
    → ((a : ℕ) → mode_at (ns a) a ≡ mode_at ms a)
    → ((a : ℕ) → Obeys body (ns a))
    → Obeys body ms
obeys_by body ms ns same h w = (
  all_allowed_by ms ns [] (events body w no_counters) same (λ a. (h a w).0),
  λ a i is lt. (h a w).1 a i (ap (λ (m : model.Mode). m.access) (same a) ∙ is) (subst (λ (m : model.Mode). i < m.dim) (sym (same a)) lt),
)

-- ---- modes by number

mode_of_map : (xs : List Mode) (a : ℕ) → mode_at (map model_of xs) a ≡ model_of (slice_index_or xs a no_use)
mode_of_map [] a = refl
mode_of_map (x ∷ xs) zero = refl
mode_of_map (x ∷ xs) (suc a) = mode_of_map xs a

none_beyond : (xs : List Mode) (a : ℕ) → length xs ≤ a → slice_index_or xs a no_use ≡ no_use
none_beyond [] a le = refl
none_beyond (x ∷ xs) zero le = absurd (omega (arith, le))
none_beyond (x ∷ xs) (suc a) le = none_beyond xs a (omega (arith, le))

-- ---- known uses

module _ (kernels : List RKernel) (kernel : ℕ) (f : RKernel) (is : kernel_at kernels kernel ≡ Some f) (ms : List Mode) (count : length ms ≡ f.params) where
  -- other modes that the kernel obeys, of which this one is the same
  pub record Others (a : ℕ) : Type 0 where
    pub modes : List model.Mode
    pub same : mode_at modes a ≡ mode_at (map model_of ms) a
    pub obeys : KernelObeys f modes

  others_at : (a b : ℕ) → IsObeyed kernels (use_of kernel ms b) → (a ≡ b) ⊎ ((length ms ≤ a) × (length ms ≤ b)) → Others a
  others_at a b o at = record {
    modes = map model_of o.modes;
    same = mode_of_map o.modes a ∙ ap model_of same ∙ sym (mode_of_map ms a);
    obeys = subst (λ k. KernelObeys k (map model_of o.modes)) one o.obeys;
  }
    where
      one : o.kernel ≡ f
      one = let e : Some o.kernel ≡ Some f = sym o.is ∙ is in cc

      long : length o.modes ≡ length ms
      long = o.count ∙ ap (λ (k : RKernel). k.params) one ∙ sym count

      same : slice_index_or o.modes a no_use ≡ slice_index_or ms a no_use
      same =
          elim at as (λ _. slice_index_or o.modes a no_use ≡ slice_index_or ms a no_use) [
            | inl e ↦ subst (λ n. slice_index_or o.modes n no_use ≡ slice_index_or ms n no_use) (sym e) (sym (ap (λ (u : ArgUse). u.mode) o.same))
            | inr l ↦ none_beyond o.modes a (omega (arith, long, l.0)) ∙ sym (none_beyond ms a l.0)
          ]

  -- a kernel obeys modes whose uses are known
  pub known_obeyed : (uses : List ArgUse)
      → AreObeyed kernels uses
      → ((a : ℕ) → a ≤ length ms → Contains uses (use_of kernel ms a))
      → KernelObeys f (map model_of ms)
  known_obeyed uses all there =
      obeys_by f.body.statement (map model_of ms) (λ a. (others a).modes) (λ a. (others a).same) (λ a. (others a).obeys)
    where
      others : (a : ℕ) → Others a
      others a =
          elim (cases_lt a (length ms)) as (λ _. Others a) [
            | inl l ↦ others_at a a (all _ (there a (omega (arith, l)))) (inl refl)
            | inr l ↦ others_at a (length ms) (all _ (there (length ms) (omega arith))) (inr (l, omega arith))
          ]

  -- the uses of modes that it obeys are obeyed
  pub noted_obeyed : (old new : List ArgUse)
      → AreObeyed kernels old
      → ((u : ArgUse) → Contains new u → Contains old u ⊎ ((a : ℕ) × (u ≡ use_of kernel ms a)))
      → KernelObeys f (map model_of ms)
      → AreObeyed kernels new
  noted_obeyed old new all from obeys u there =
      elim (from u there) as (λ _. IsObeyed kernels u) [
        | inl before ↦ all u before
        | inr one ↦ subst (IsObeyed kernels) (sym one.1)
            (record { kernel = f; modes = ms; is = is; count = count; same = refl; obeys = obeys })
      ]
