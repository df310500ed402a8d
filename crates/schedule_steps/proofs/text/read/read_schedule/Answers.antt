use Rattle.schedule_steps.proofs.text.Exact.{found, only, refused, refuses}
use Rattle.schedule_steps.proofs.text.read.read_schedule.Goals as goal

pub returns-clause-found : goal.returns-clause-found
returns-clause-found c = found c.args.bytes.now c.read.result (λ v. v.items) c.read.ensures

pub returns-clause-only : goal.returns-clause-only
returns-clause-only c = only c.args.bytes.now c.read.result (λ v. v.items) c.read.ensures

pub returns-clause-refused : goal.returns-clause-refused
returns-clause-refused c = refused c.args.bytes.now c.read.result (λ v. v.items) c.read.ensures

pub returns-clause-refuses : goal.returns-clause-refuses
returns-clause-refuses c = refuses c.args.bytes.now c.read.result (λ v. v.items) c.read.ensures
