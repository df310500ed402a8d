use Rattle.std.proofs.Common.{true, ◌∙◌, length-set}
use Rattle.step_judge.proofs.marks.items.ItemMarks.send.Goals as goal

pub invariant_of-self : goal.invariant_of-self
invariant_of-self c = rw c.mark.ensures (
  record {
    both = c.self.invariant.0.both;
    sent_each = length-set c.self.inside.sends.done c.args.pair true ∙ c.self.invariant.0.sent_each;
    received_each = c.self.invariant.0.received_each;
    fits = c.self.invariant.0.fits;
    apart = c.self.invariant.0.apart;
  },
  c.self.invariant.1,
)
