use Rattle.std.proofs.Common.{◌≡◌, ◌++◌, length}
use Rattle.std.specs.Prelude.{codes}
use Rattle.std.specs.List.{flat_map}
use Rattle.std.specs.Fmt.{signed_decimal}
use Rattle.run_model.specs.Grows.{Grows}
use Rattle.run_model.proofs.gather.dumps.put_values.Given as goal

abbrev pub invariant-loop-rest : goal.invariant-loop-rest
invariant-loop-rest l = record {
  text : l.out.items ++ flat_map (λ z. codes " " ++ signed_decimal z) l.rest ≡ l.fn.out.items ++ flat_map (λ z. codes " " ++ signed_decimal z) l.values;
  grows : Grows l.fn.out.items l.out.items;
}

abbrev pub decreases-loop-rest : goal.decreases-loop-rest
decreases-loop-rest l = length l.rest
