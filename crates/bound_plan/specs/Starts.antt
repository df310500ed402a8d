-- The state in which the machine on flat buffers starts.
use Rattle.std.specs.Prelude.{[], map, None}
use Rattle.schedule_model.specs.Cells.{Data, Variable}
use Rattle.schedule_model.specs.Setup.{Setup}
use Rattle.schedule_model.specs.Machine.{unit_at}
use Rattle.schedule_model.specs.Layout.{Layout}
use Rattle.schedule_model.specs.Flat.{Flat, Shut_pane}
use Rattle.run_model.specs.Windows.{numbers}

-- the first values in every copy and in the variables, units in the partials, and all else empty
abbrev pub first_flat : {F : Type 0} → Setup F → Layout F → Flat F
first_flat p l = record {
  memories = map (λ r. map (λ i. p.program.start (Data (l.cell_at r i))) (numbers (l.width r))) (numbers p.ranks);
  variables = map (λ i. p.program.start (Variable (l.variable_at i))) (numbers l.variables);
  partials = λ r s v. unit_at (p.reduces s v);
  mail = λ s r. [];
  panes = λ k r x. Shut_pane;
  faults = [];
  output = [];
  stop = None;
}
