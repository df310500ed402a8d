-- The first state of the machine on flat buffers.
use Rattle.std.proofs.Common.{◌≡◌, ◌<◌, ℕ, ℤ, pos, List, [], length, get_or, map, refl, ap, ◌∙◌, arith}
use Rattle.std.proofs.lemmas.List.FromFn.{length-map-range_with_len, get_or-map-range_with_len}
use Rattle.schedule_model.specs.Cells.{Data, Variable}
use Rattle.schedule_model.specs.Setup.{Setup}
use Rattle.schedule_model.specs.Layout.{Layout}
use Rattle.schedule_model.specs.Flat.{StartsFlat}
use Rattle.run_model.specs.Windows.{numbers}
use Rattle.bound_plan.specs.Starts.{first_flat}

module _ {F : Type 0} (p : Setup F) (l : Layout F) where
  abbrev values : ℕ → List ℤ
  values r = map (λ i. p.program.start (Data (l.cell_at r i))) (numbers (l.width r))

  row : (r : ℕ) → r < p.ranks → get_or (map values (numbers p.ranks)) r [] ≡ values r
  row r lr = get_or-map-range_with_len values 0 p.ranks r r [] lr (omega arith)

  pub starts : StartsFlat p l (first_flat p l)
  starts = record {
    ranks = length-map-range_with_len values 0 p.ranks;
    widths = λ r lr. ap length (row r lr) ∙ length-map-range_with_len (λ i. p.program.start (Data (l.cell_at r i))) 0 (l.width r);
    values = λ r i lr li.
        ap (λ z. get_or z i (pos 0)) (row r lr)
        ∙ get_or-map-range_with_len (λ i. p.program.start (Data (l.cell_at r i))) 0 (l.width r) i i (pos 0) li (omega arith);
    count = length-map-range_with_len (λ i. p.program.start (Variable (l.variable_at i))) 0 l.variables;
    variables = λ i li. get_or-map-range_with_len (λ i. p.program.start (Variable (l.variable_at i))) 0 l.variables i i (pos 0) li (omega arith);
    partials = λ r s v. refl;
    mail = λ s r. refl;
    panes = λ k r x. refl;
    faults = refl;
    output = refl;
    stop = refl;
  }
