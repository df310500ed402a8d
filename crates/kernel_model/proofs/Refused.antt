-- A kernel obeys its modes exactly where it breaks no rule, and has at most one refusal.
use Rattle.std.proofs.Common.{◌≡◌, ℕ, zero, suc, ◌≤◌, List, [], ◌∷◌, ◌++◌, refl, sym, ap, ◌∙◌, subst, ◌⊎◌, inl, inr, ⊎_elim, arith}
use Rattle.c_tree.specs.declared.lexer.tokens.Pos.{Pos}
use Rattle.kernel_model.specs.declared.types.kernels.RKernel.{RKernel}
use Rattle.kernel_model.specs.Obeys.{Mode, mode_at, Event, Reads, Assigns, Adds, Changes, Owns, Merges, events, no_counters, Assigned, Allowed, after_event, AllAllowed, assigned_after, KernelObeys}
use Rattle.c_tree.specs.Order.{IsEarlier}
use Rattle.kernel_model.specs.Refusals.{Rule, WritesRead, ReadsInc, IncNotSum, ReadsUnwritten, NotAllWritten, WriteIndexNotStatic, LiteralIndexOut, MinMaxForm, number_of, argument_of, place_of, Breaks, KernelBreaks, ObeysUnlessBroken, OneRefusal}
use Rattle.kernel_model.proofs.Paths.{allowed_back}
use Rattle.kernel_model.proofs.BrokenRules.{Fits, has_assigned, breaks_none, fits_or}

-- ---- one event

module _ (modes : List Mode) (before : Assigned) where
  abbrev FitsMode : Event → Type 0
  FitsMode e = Fits (mode_at modes (argument_of e)).access (mode_at modes (argument_of e)).dim before e

  abbrev BreaksMode : Event → Rule → Type 0
  BreaksMode e rule = Breaks (mode_at modes (argument_of e)).access (mode_at modes (argument_of e)).dim before e rule

  fits : (e : Event) → Allowed modes before e → FitsMode e
  fits (Reads a ix at) h = h
  fits (Assigns a ix at) h = h
  fits (Adds a ix at) h = h
  fits (Changes a ix at) h = h
  fits (Owns which a ix at) h = h
  fits (Merges which a ix at) h = h

  allowed : (e : Event) → FitsMode e → Allowed modes before e
  allowed (Reads a ix at) h = h
  allowed (Assigns a ix at) h = h
  allowed (Adds a ix at) h = h
  allowed (Changes a ix at) h = h
  allowed (Owns which a ix at) h = h
  allowed (Merges which a ix at) h = h

  allowed_or : (e : Event) → Allowed modes before e ⊎ ((rule : Rule) × BreaksMode e rule)
  allowed_or e = ⊎_elim (λ h. inl (allowed e h)) (λ b. inr b) (fits_or (mode_at modes (argument_of e)).access (mode_at modes (argument_of e)).dim before e)

-- ---- all events of a path

-- no event breaks a rule where it stands
abbrev Unbroken : List Mode → Assigned → List Event → Type 0
Unbroken modes before es = (xs : List Event) (e : Event) (ys : List Event) → es ≡ xs ++ (e ∷ ys) → (rule : Rule) → BreaksMode modes (assigned_after before xs) e rule → ⊥

all_allowed : (modes : List Mode) (before : Assigned) (es : List Event) → Unbroken modes before es → AllAllowed modes before es
all_allowed modes before [] h = tt
all_allowed modes before (e ∷ es) h = (
  ⊎_elim (λ a. a) (λ b. absurd (h [] e es refl b.0 b.1)) (allowed_or modes before e),
  all_allowed modes (after_event e before) es (λ xs d ys eq rule b. h (e ∷ xs) d ys (ap (λ l. e ∷ l) eq) rule b),
)

-- ---- a kernel

module _ (k : RKernel) (modes : List Mode) where
  broken_by_none : KernelObeys k modes → (rule : Rule) (at : Pos) → KernelBreaks k modes rule at → ⊥
  broken_by_none h rule at (inl (w, xs, e, ys, eq, place, b)) =
      let all = subst (AllAllowed modes []) eq (h w).0 in
      let here = allowed_back modes [] xs (e ∷ ys) all in
      breaks_none (mode_at modes (argument_of e)).access (mode_at modes (argument_of e)).dim (assigned_after [] xs) e rule (fits modes (assigned_after [] xs) e here.0) b
  broken_by_none h rule at (inr (w, a, i, eq, place, acc, lt, n)) = n ((h w).1 a i acc lt)

  obeys_if_unbroken : ((rule : Rule) (at : Pos) → KernelBreaks k modes rule at → ⊥) → KernelObeys k modes
  obeys_if_unbroken h w = (
    all_allowed modes [] (events k.body.statement w no_counters) (λ xs e ys eq rule b. h rule (place_of e) (inl (w, xs, e, ys, eq, refl, b))),
    λ a i acc lt. ⊎_elim (λ p. p) (λ n. absurd (h NotAllWritten _ (inr (w, a, i, refl, refl, acc, lt, n)))) (has_assigned (assigned_after [] (events k.body.statement w no_counters)) a i),
  )

pub obeys_unless_broken : ObeysUnlessBroken
obeys_unless_broken k modes = (broken_by_none k modes, obeys_if_unbroken k modes)

-- ---- one refusal

rule_at : ℕ → Rule
rule_at zero = WritesRead
rule_at (suc zero) = WritesRead
rule_at (suc (suc zero)) = ReadsInc
rule_at (suc (suc (suc zero))) = IncNotSum
rule_at (suc (suc (suc (suc zero)))) = ReadsUnwritten
rule_at (suc (suc (suc (suc (suc zero))))) = NotAllWritten
rule_at (suc (suc (suc (suc (suc (suc zero)))))) = WriteIndexNotStatic
rule_at (suc (suc (suc (suc (suc (suc (suc zero))))))) = LiteralIndexOut
rule_at (suc (suc (suc (suc (suc (suc (suc (suc n)))))))) = MinMaxForm

rule_back : (r : Rule) → rule_at (number_of r) ≡ r
unfolding rule_at
rule_back WritesRead = refl
rule_back ReadsInc = refl
rule_back IncNotSum = refl
rule_back ReadsUnwritten = refl
rule_back NotAllWritten = refl
rule_back WriteIndexNotStatic = refl
rule_back LiteralIndexOut = refl
rule_back MinMaxForm = refl

not_both_earlier : (p q : Pos) → IsEarlier p q → IsEarlier q p → ⊥
not_both_earlier p q (inl a) (inl b) = omega arith
not_both_earlier p q (inl a) (inr b) = omega (arith, b.0)
not_both_earlier p q (inr a) (inl b) = omega (arith, a.0)
not_both_earlier p q (inr a) (inr b) = omega (arith, a.1, b.1)

not_earlier_same : (p q : Pos) → IsEarlier p q → q ≡ p → ⊥
not_earlier_same p q h e = not_both_earlier p q h (subst (λ x. IsEarlier x p) (sym e) (subst (λ x. IsEarlier p x) e h))

same_number : (r s : Rule) → number_of r ≤ number_of s → number_of s ≤ number_of r → r ≡ s
same_number r s h g =
    let e : number_of r ≡ number_of s = omega arith in
    sym (rule_back r) ∙ ap rule_at e ∙ rule_back s

meets : (r s : Rule) (p q : Pos) → IsEarlier p q ⊎ ((p ≡ q) × (number_of r ≤ number_of s)) → IsEarlier q p ⊎ ((q ≡ p) × (number_of s ≤ number_of r)) → (r ≡ s) × (p ≡ q)
meets r s p q (inl a) (inl b) = absurd (not_both_earlier p q a b)
meets r s p q (inl a) (inr b) = absurd (not_earlier_same p q a b.0)
meets r s p q (inr a) (inl b) = absurd (not_earlier_same q p b a.0)
meets r s p q (inr a) (inr b) = (same_number r s a.1 b.1, a.0)

pub one_refusal : OneRefusal
one_refusal k modes rule other at there h g = meets rule other at there (h.first other there g.breaks) (g.first rule at h.breaks)
