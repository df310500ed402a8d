use Rattle.command_words.proofs.OneFault as law
use Rattle.command_words.proofs.laws.one_fault.Goals as goal

pub returns : goal.returns
returns c = law.one_fault
