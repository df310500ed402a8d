-- How many cells an element's windows have, and which elements begin.
use Rattle.std.proofs.Common.{◌≡◌, ℕ, suc, ◌+◌, ◌<◌, true, refl, sym, ap, ◌∙◌, List, [], ◌∷◌, length}
use Rattle.std.specs.Prelude.{nat_lt}
use Rattle.std.proofs.lemmas.Bool.{and_parts, ltb-true}
use Rattle.schedule_steps.specs.declared.step.Step.TheVariants.{Begin}
use Rattle.schedule_steps.specs.Steps.{IsStep}
use Rattle.schedule_model.specs.Cells.{VarCell}
use Rattle.schedule_model.specs.Program.{Free, elements}
use Rattle.schedule_model.specs.Setup.{Setup}
use Rattle.schedule_model.specs.Tests.{free_kind}
use Rattle.schedule_model.specs.Layout.{Layout, IsLayout, by_place}
use Rattle.rank_state.specs.declared.spans.Span.{Span}
use Rattle.rank_state.specs.declared.scalars.Scalar.{Scalar}
use Rattle.rank_state.specs.declared.owned.Owned.{Owned}
use Rattle.rank_state.specs.Spans.{total}
use Rattle.rank_state.specs.Ordered.{total_all, index_cells, AreOwned}
use Rattle.rank_state.specs.Shows.{Tables, AreWindows}
use Rattle.rank_state.proofs.Amounts.{windows_length}
use Rattle.rank_state.proofs.Elements.{owned_length}

index_length : (variable_at : ℕ → VarCell) (is : List ℕ) → length (index_cells variable_at is) ≡ length is
index_length variable_at [] = refl
index_length variable_at (i ∷ is) = ap suc (index_length variable_at is)

module _ {F : Type 0} (p : Setup F) (l : Layout F) where
  pub windows_counted : (t : Tables) (k r x : ℕ) (spans : List Span) (scalars : List Scalar) → AreWindows p l t k r x spans scalars
      → total spans + length scalars ≡ length (l.cells k (l.original k r x))
  windows_counted t k r x spans scalars e = sym (ap length e.cells ∙ windows_length (l.cell_at r) spans l.variable_at scalars)

  pub owned_counted : (t : Tables) (k e : ℕ) (spans : List Owned) (indices : List ℕ) → AreOwned p l t k e spans indices → total_all spans + length indices ≡ length (l.cells k e)
  owned_counted t k e spans indices o = sym
      (ap length o.cells ∙ (owned_length l.cell_at spans (index_cells l.variable_at indices)
      ∙ ap (λ n. total_all spans + n) (index_length l.variable_at indices)))

  pub element_begun : IsLayout p l → (k r x : ℕ) → IsStep (by_place p l) (Begin k r x) → (p.program.kind k ≡ Free) × (l.original k r x < elements p.program k)
  element_begun z k r x plan =
      let fr : p.program.kind k ≡ Free = free_kind (p.program.kind k) plan.1 in
      let lt : x < l.count k r = ltb-true x (l.count k r) (and_parts (nat_lt x (l.count k r)) true plan.3).0 in
      (fr, (z.outside k r x fr plan.2 lt).0)
