use Rattle.std.proofs.Common.{◌+◌, ◌∙◌, map, take, ap, sym}
use Rattle.std.proofs.lemmas.List.{take-map}
use Rattle.std.specs.List.{count_by}
use Rattle.bound_program.specs.Values.{item_of}
use Rattle.explanations.specs.Faults.{runs}
use Rattle.explanations.proofs.error_loops.faults.turn_of.Goals as goal

pub returns : goal.returns
returns c =
    ap (λ n. n + 1) (c.turns_in.ensures ∙ ap (λ xs. count_by (runs c.args.site) (map item_of (take c.args.item xs))) c.deref.ensures.value
    ∙ ap (count_by (runs c.args.site)) (sym (take-map item_of c.args.item c.args.bound.now.trace.items)))
