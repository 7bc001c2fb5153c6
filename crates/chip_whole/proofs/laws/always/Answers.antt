use Rattle.chip_base.specs.Settings.{values_of}
use Rattle.chip_whole.proofs.Holds.{asked_once, credits_of_setup, events_ordered, issues_ordered, none_lost_of_setup, sent_of_setup}
use Rattle.chip_whole.proofs.laws.always.Goals as goal

pub returns-clause-credits : goal.returns-clause-credits
returns-clause-credits c = credits_of_setup

pub returns-clause-none_lost : goal.returns-clause-none_lost
returns-clause-none_lost c = none_lost_of_setup

pub returns-clause-sent : goal.returns-clause-sent
returns-clause-sent c = sent_of_setup

pub returns-clause-asked : goal.returns-clause-asked
returns-clause-asked c board s boot = asked_once board (values_of s) boot

pub returns-clause-order : goal.returns-clause-order
returns-clause-order c board s boot = events_ordered board (values_of s) boot

pub returns-clause-issues : goal.returns-clause-issues
returns-clause-issues c board s boot = issues_ordered board (values_of s) boot
