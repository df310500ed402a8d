use denote.Param.Send.{sendable}
use Rattle.std.proofs.Common.{◌∙◌, ap₂, subst, sym}
use Rattle.std.proofs.Crossing.{crosses}
use Rattle.par_exec.specs.Parts.{TakesEach, MadeEach}
use Rattle.rank_machine.specs.OnRanks.{lent, CanRunOn, RanOn}
use Rattle.rank_machine.proofs.Sharing.{runnable_sync}
use Rattle.rank_machine.proofs.ranks.run_lent.Goals as goal

pub run_from-requires-clause-can : goal.run_from-requires-clause-can
run_from-requires-clause-can g c κs within =
    subst (TakesEach (CanRunOn c.args.round.now.program.now c.args.round.now.item c.args.round.now.variables.now c.args.round.now.lists.now) 0) (sym c.swap_all.ensures.parts) c.requires.can

pub returns : goal.returns
returns g c = record {
  left = c.run_from.new.parts;
  made = subst (λ xs. MadeEach (RanOn c.args.round.now.program.now c.args.round.now.item c.args.round.now.variables.now
      c.args.round.now.lists.now) 0 xs c.run_from.new.parts) c.swap_all.ensures.parts c.run_from.ensures;
  memories = c.swap_all-2.ensures.memories;
  partials = c.swap_all-2.ensures.partials;
  parts = c.swap_all-2.ensures.parts ∙ ap₂ (λ a b. lent a b c.run_from.new.parts) c.swap_all.ensures.memories c.swap_all.ensures.partials;
  fault_is = c.kept_of_parts-kept.ensures;
}
