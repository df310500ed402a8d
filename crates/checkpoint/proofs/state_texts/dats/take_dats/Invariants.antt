use Rattle.std.proofs.Common.{◌≡◌, ℕ, length, map}
use Rattle.mesh_decl.specs.Mesh.{dat_values}
use Rattle.bound_program.specs.Values.{BoundValue}
use Rattle.run_model.specs.Windows.{numbers}
use Rattle.checkpoint.specs.Reading.{awaited_dat}
use Rattle.checkpoint.specs.Judged.{FitsAmong}
use Rattle.checkpoint.proofs.state_texts.Below.{below}
use Rattle.checkpoint.proofs.state_texts.VarLines.{flat}
use Rattle.checkpoint.proofs.state_texts.dats.take_dats.Given as goal

abbrev pub invariant-loop-dat : goal.invariant-loop-dat
invariant-loop-dat l = record {
  shape : map length l.told.items ≡ map (λ d. length (dat_values l.mesh d)) (numbers l.dat);
  fits : (b : BoundValue) (k : ℕ) → FitsAmong b k (below (awaited_dat l.mesh) l.dat) l.fn.lines l.lines (flat l.told.items);
}
