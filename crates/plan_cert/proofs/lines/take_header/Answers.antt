use Rattle.plan_cert.specs.Awaited.{header_line}
use Rattle.plan_cert.proofs.Reading.{next_number, exactly_taken, exactly_refused}
use Rattle.plan_cert.proofs.lines.take_header.Goals as goal

pub returns-then-not-take : goal.returns-then-not-take
returns-then-not-take c = λ b meshes size. (
  0,
  next_number c.args.lines.now c.take.new.self c.taken-line.result c.taken-line.ensures.taken (c.take.ensures.kept c.if-not-take.true),
  exactly_refused b meshes size 1 header_line c.args.lines.now (c.take.ensures.other c.if-not-take.true),
)

pub returns : goal.returns
returns c = λ b meshes size. exactly_taken b meshes size 1 header_line c.args.lines.now c.take.new.self (c.take.ensures.taken c.if-not-take.false)
