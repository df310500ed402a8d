use Rattle.schedule_model.proofs.schedule_laws.Windows.{whole_windows, exactly}
use Rattle.schedule_model.proofs.schedule_laws.windows_are_modified.Goals as goal

pub returns-clause-whole : goal.returns-clause-whole
returns-clause-whole g c = whole_windows

pub returns-clause-exactly : goal.returns-clause-exactly
returns-clause-exactly g c = exactly
