use Rattle.schedule_model.specs.Ring.{ring}
use Rattle.schedule_model.proofs.flat_machine.schedule_examples.ring.ring_runs_as_sequential.Goals as goal

pub returns : goal.returns
returns c = λ faulty l acc. c.accepted_runs_as_sequential.ensures (ring faulty) (c.ring_is_lawful.ensures.lawful faulty) (c.ring_is_lawful.ensures.coloured faulty) l acc
