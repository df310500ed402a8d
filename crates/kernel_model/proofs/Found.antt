-- The walk over a whole kernel, with its end.
use Rattle.std.proofs.Common.{◌≡◌, ℕ, zero, suc, ◌+◌, ◌<◌, ◌≤◌, List, [], ◌∷◌, ◌++◌, length, Option, Some, None, Bool, true, false, ◌&&◌, refl, sym, ap, ◌∙◌, subst, ◌⊎◌, inl, inr, ⊎_elim, arith}
use Rattle.std.specs.Bool.{Decides}
use Rattle.std.proofs.lemmas.Bool.{cases_lt}
use Rattle.std.proofs.Math.ListN.{get_or-eq_default}
use Rattle.c_tree.specs.declared.lexer.tokens.Pos.{Pos}
use Rattle.op_num.specs.Access.{OpRead, OpWrite}
use Rattle.kernel_model.specs.declared.types.kernels.RKernel.{RKernel}
use Rattle.kernel_model.specs.declared.types.statements.RStmt.{RStmt}
use Rattle.kernel_model.specs.Obeys.{Mode, mode_at, no_mode, no_counters, Event, Path, events, Assigned, HasAssigned, after_event, assigned_after}
use Rattle.kernel_model.specs.Refusals.{Rule, NotAllWritten, argument_of, place_of, opposite, Breaks, KernelBreaks, parameter_place}
use Rattle.kernel_model.specs.Walk.{Breach, Covered, none_covered, covered_after, stmt_found, all_below, leaves_unwritten, ends_found, walk, IsFound, WalkFinds, noted_if}
use Rattle.kernel_model.proofs.Refused.{obeys_unless_broken}
use Rattle.kernel_model.proofs.Firsts.{d_iff, d_and, d_true, d_false, IsFirst, first_iff, OrIf, noted_if_first}
use Rattle.kernel_model.proofs.Covers.{Covers, covers_none, some_lacks, d_op_write}
use Rattle.kernel_model.proofs.Steps.{AnyBreaks, SomeBreaks, any_back}
use Rattle.kernel_model.proofs.Finding.{covers_stmt, s_stmt}

-- ---- components that aren't assigned

-- some number below n has it, where each number tells
some_below : (p : ℕ → Bool) (Q : ℕ → Type 0) → ((i : ℕ) → Decides (opposite (p i)) (Q i)) → (n : ℕ) → Decides (opposite (all_below p n)) ((i : ℕ) × (i < n) × Q i)
some_below p Q d zero = d_false (λ h. let l = h.1 in omega (arith, l))
some_below p Q d (suc n) = pick (p n) (all_below p n) (d n) (some_below p Q d n)
  where
    pick : (r s : Bool) → Decides (opposite r) (Q n) → Decides (opposite s) ((i : ℕ) × (i < n) × Q i) → Decides (opposite (r && s)) ((i : ℕ) × (i < suc n) × Q i)
    pick true s e k =
        d_iff (opposite s) (λ h. (h.0, (let l = h.1 in omega (arith, l)), h.2))
        (λ h. ⊎_elim (λ l. (h.0, l, h.2)) (λ l. absurd (let b = e.1 (subst Q (let m = h.1 in omega (arith, l, m)) h.2) in let f : ⊥ = cc in f)) (cases_lt h.0 n)) k
    pick false s e k = d_true (n, omega arith, e.0 refl)

module _ (modes : List Mode) {J : Type 0} (c : Covered) (g : J → Assigned) (cov : Covers c g) where
  -- a component of the argument isn't assigned on some path
  abbrev Lacks : ℕ → Type 0
  Lacks a = ((mode_at modes a).access ≡ OpWrite) × ((i : ℕ) × (i < (mode_at modes a).dim) × ((q : J) × (HasAssigned (g q) a i → ⊥)))

  d_lacks : (a : ℕ) → Decides (leaves_unwritten modes c a) (Lacks a)
  d_lacks a =
      d_and _ _ (d_op_write (mode_at modes a).access)
      (some_below (c a) (λ i. (q : J) × (HasAssigned (g q) a i → ⊥)) (λ i. some_lacks (c a i) (λ q. HasAssigned (g q) a i) (cov a i)) (mode_at modes a).dim)

  -- one of n arguments from a on
  abbrev LacksAt : (ℕ → Pos) → ℕ → ℕ → Rule → Pos → Type 0
  LacksAt place a n rule at = (b : ℕ) × (a ≤ b) × (b < a + n) × (NotAllWritten ≡ rule) × (place b ≡ at) × Lacks b

  ends_first : (place : ℕ → Pos) (a n : ℕ) (found : Option Breach) (P : Rule → Pos → Type 0) → IsFirst found P
      → IsFirst (ends_found place modes c a n found) (λ rule at. P rule at ⊎ LacksAt place a n rule at)
  ends_first place a zero found P h =
      first_iff found P (λ rule at. P rule at ⊎ LacksAt place a 0 rule at) (λ rule at p. inl p) (λ rule at q. ⊎_elim (λ p. p) (λ b. absurd (let l = b.1 in let m = b.2 in omega (arith, l, m))) q) h
  ends_first place a (suc n) found P h =
      first_iff (ends_found place modes c a (suc n) found)
      (λ rule at. OrIf P (Lacks a) NotAllWritten (place a) rule at ⊎ LacksAt place (suc a) n rule at)
      (λ rule at. P rule at ⊎ LacksAt place a (suc n) rule at) to back
      (ends_first place (suc a) n (noted_if (leaves_unwritten modes c a) NotAllWritten (place a) found)
      (OrIf P (Lacks a) NotAllWritten (place a))
      (noted_if_first (leaves_unwritten modes c a) (Lacks a) NotAllWritten (place a) found P (d_lacks a) h))
    where
      to : (rule : Rule) (at : Pos) → OrIf P (Lacks a) NotAllWritten (place a) rule at ⊎ LacksAt place (suc a) n rule at → P rule at ⊎ LacksAt place a (suc n) rule at
      to rule at (inl (inl p)) = inl p
      to rule at (inl (inr q)) = inr (a, omega arith, omega arith, q.0, q.1.0, q.1.1)
      to rule at (inr q) = inr (q.0, (let l = q.1 in omega (arith, l)), (let l = q.2 in omega (arith, l)), q.3, q.4, q.5)

      back : (rule : Rule) (at : Pos) → P rule at ⊎ LacksAt place a (suc n) rule at → OrIf P (Lacks a) NotAllWritten (place a) rule at ⊎ LacksAt place (suc a) n rule at
      back rule at (inl p) = inl (inl p)
      back rule at (inr q) =
          ⊎_elim (λ l. inr (q.0, omega (arith, l), (let m = q.2 in omega (arith, m)), q.3, q.4, q.5))
          (λ l. let e : q.0 ≡ a = (let m = q.1 in omega (arith, l, m)) in inl (inr (q.3, (subst (λ b. place b ≡ at) e q.4, subst Lacks e q.5))))
          (cases_lt a q.0)

past_modes : (modes : List Mode) (a : ℕ) → length modes ≤ a → (mode_at modes a).access ≡ OpWrite → ⊥
past_modes modes a le e =
    let same : OpRead ≡ OpWrite = sym (ap (λ (m : Mode). m.access) (get_or-eq_default modes no_mode le)) ∙ e in
    let k : ⊥ = cc in k

-- ---- events

module _ (modes : List Mode) where
  abbrev Listed : Assigned → List Event → Rule → Pos → Type 0
  Listed before es rule at =
      (xs : List Event) × (e : Event) × (ys : List Event) × (es ≡ xs ++ (e ∷ ys)) × (place_of e ≡ at)
      × Breaks (mode_at modes (argument_of e)).access (mode_at modes (argument_of e)).dim (assigned_after before xs) e rule

  listed : (before : Assigned) (es : List Event) (rule : Rule) (at : Pos) → AnyBreaks modes before es rule at → Listed before es rule at
  listed before [] rule at h = absurd h
  listed before (e ∷ es) rule at (inl h) = ([], e, es, refl, h.0, h.1)
  listed before (e ∷ es) rule at (inr h) =
      let r = listed (after_event e before) es rule at h in
      (e ∷ r.0, r.1, r.2, ap (λ l. e ∷ l) r.3, r.4, r.5)

  unlisted : (before : Assigned) (es : List Event) (rule : Rule) (at : Pos) → Listed before es rule at → AnyBreaks modes before es rule at
  unlisted before es rule at r =
      subst (λ l. AnyBreaks modes before l rule at) (sym r.3) (any_back modes before r.0 (r.1 ∷ r.2) rule at (inl (r.4, r.5)))

-- ---- the kernel

module _ (k : RKernel) (modes : List Mode) where
  abbrev body : RStmt
  body = k.body.statement

  abbrev ends : Unit {0} × Path body → Assigned
  ends q = assigned_after [] (events body q.1 no_counters)

  covers_end : Covers (covered_after body no_counters none_covered) ends
  covers_end = covers_stmt body no_counters (Unit {0}) none_covered (λ p. []) tt covers_none

  abbrev Event_breaks : Rule → Pos → Type 0
  Event_breaks rule at = ⊥ ⊎ SomeBreaks modes (λ (p : Unit {0}). []) (λ (w : Path body). events body w no_counters) rule at

  abbrev All_breaks : Rule → Pos → Type 0
  All_breaks rule at = Event_breaks rule at ⊎ LacksAt modes (covered_after body no_counters none_covered) ends covers_end (parameter_place k) 0 (length modes) rule at

  events_first : IsFirst (stmt_found modes body no_counters none_covered None) Event_breaks
  events_first = s_stmt modes body no_counters (Unit {0}) none_covered (λ p. []) tt covers_none None (λ rule at. ⊥) (λ rule at h. h)

  to : (rule : Rule) (at : Pos) → All_breaks rule at → KernelBreaks k modes rule at
  to rule at (inl (inl h)) = absurd h
  to rule at (inl (inr h)) =
      let r = listed modes [] (events body h.1 no_counters) rule at h.2 in
      inl (h.1, r.0, r.1, r.2, r.3, r.4, r.5)
  to rule at (inr h) = inr (h.5.1.2.0.1, h.0, h.5.1.0, sym h.3, h.4, h.5.0, h.5.1.1, h.5.1.2.1)

  back : (rule : Rule) (at : Pos) → KernelBreaks k modes rule at → All_breaks rule at
  back rule at (inl h) = inl (inr (tt, h.0, unlisted modes [] (events body h.0 no_counters) rule at (h.1, h.2, h.3, h.4, h.5, h.6)))
  back rule at (inr h) =
      ⊎_elim (λ l. inr (h.1, omega arith, omega (arith, l), sym h.3, h.4, (h.5, (h.2, h.6, ((tt, h.0), h.7)))))
      (λ l. absurd (past_modes modes h.1 l h.5)) (cases_lt h.1 (length modes))

  walk_first : IsFirst (walk k modes) (KernelBreaks k modes)
  walk_first =
      first_iff (walk k modes) All_breaks (KernelBreaks k modes) to back
      (ends_first modes (covered_after body no_counters none_covered) ends covers_end (parameter_place k) 0 (length modes)
      (stmt_found modes body no_counters none_covered None) Event_breaks events_first)

is_found : (found : Option Breach) (k : RKernel) (modes : List Mode) → IsFirst found (KernelBreaks k modes) → IsFound found k modes
is_found None k modes h = (obeys_unless_broken k modes).1 h
is_found (Some b) k modes h = record { breaks = h.0; first = h.1 }

pub walk_finds : WalkFinds
walk_finds k modes = is_found (walk k modes) k modes (walk_first k modes)
