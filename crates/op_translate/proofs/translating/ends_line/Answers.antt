use Rattle.std.proofs.Common.{rules, ◌<◌, length}
use Rattle.op_translate.proofs.Answered.{last_byte}
use Rattle.op_translate.proofs.translating.ends_line.Goals as goal

pub returns : goal.returns
returns c = let some : 0 < length c.args.bytes.now = search rules in last_byte c.args.bytes.now some
