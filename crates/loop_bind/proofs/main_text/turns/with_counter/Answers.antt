use Rattle.loop_bind.proofs.main_text.KeptSets.{counter_known, on_ok}
use Rattle.loop_bind.proofs.main_text.turns.with_counter.Goals as goal

pub returns-clause-sets : goal.returns-clause-sets
returns-clause-sets c =
    on_ok c.with_turning.result (counter_known c.args.source.now.places.now c.args.k.now c.with_turning.new.k c.args.counter.now.name) c.with_turning.ensures c.requires
