use Rattle.std.proofs.Common.{sym}
use Rattle.std.proofs.lemmas.List.{append-nil}
use Rattle.run_model.proofs.gather.host_acts.acts.run_closed.Goals as goal

pub returns-in-Clear : goal.returns-in-Clear
returns-in-Clear c s holds = rw c.in-Clear.is (c.clear.ensures s holds, sym (append-nil c.args.out.now.items))
