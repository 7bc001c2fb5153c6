use Rattle.monitor_paths.proofs.Stays.{stays_always}
use Rattle.monitor_paths.proofs.Watched.{starts_asleep, stays_watched}
use Rattle.monitor_paths.proofs.Cycles.{keeps_opened, opens_blank, settles_quiet, starts_fresh, stays_shut, exchanges_bytes}
use Rattle.monitor_paths.proofs.laws.paths.Goals as goal

pub returns-clause-start : goal.returns-clause-start
returns-clause-start c = starts_fresh

pub returns-clause-always : goal.returns-clause-always
returns-clause-always c = stays_always

pub returns-clause-opened : goal.returns-clause-opened
returns-clause-opened c = keeps_opened

pub returns-clause-opens : goal.returns-clause-opens
returns-clause-opens c = opens_blank

pub returns-clause-shut : goal.returns-clause-shut
returns-clause-shut c = stays_shut

pub returns-clause-exchanges : goal.returns-clause-exchanges
returns-clause-exchanges c = exchanges_bytes

pub returns-clause-settled : goal.returns-clause-settled
returns-clause-settled c = settles_quiet

pub returns-clause-asleep : goal.returns-clause-asleep
returns-clause-asleep c = starts_asleep

pub returns-clause-watched : goal.returns-clause-watched
returns-clause-watched c = stays_watched
