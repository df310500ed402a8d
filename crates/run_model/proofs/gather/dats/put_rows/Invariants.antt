use Rattle.std.proofs.Common.{◌≡◌, ◌-◌, ◌*◌, ◌++◌, length}
use Rattle.std.specs.List.{flat_map}
use Rattle.mesh_decl.specs.Printed.{rows, row_text}
use Rattle.run_model.specs.Grows.{Grows}
use Rattle.run_model.proofs.gather.dats.put_rows.Given as goal

abbrev pub invariant-loop-element : goal.invariant-loop-element
invariant-loop-element l = record {
  length : length l.rest ≡ (l.size - l._element) * l.dim;
  text : l.out.items ++ flat_map row_text (rows l.dim (l.size - l._element) l.rest) ≡ l.fn.out.items ++ flat_map row_text (rows l.dim l.size l.values);
  grows : Grows l.fn.out.items l.out.items;
}
