use Rattle.flash_seen.proofs.Flashes.{answers_as_seen, calm_at_start, drains_as_seen, sees_all, stays_calm}
use Rattle.flash_seen.proofs.Commands.{answers_commands, does_commands, does_commands_to_flash}
use Rattle.flash_seen.proofs.laws.seen_from_outside.Goals as goal

pub returns-clause-start : goal.returns-clause-start
returns-clause-start c = calm_at_start

pub returns-clause-calm : goal.returns-clause-calm
returns-clause-calm c = stays_calm

pub returns-clause-sees : goal.returns-clause-sees
returns-clause-sees c = sees_all

pub returns-clause-answers : goal.returns-clause-answers
returns-clause-answers c = answers_as_seen

pub returns-clause-commands : goal.returns-clause-commands
returns-clause-commands c = does_commands

pub returns-clause-replies : goal.returns-clause-replies
returns-clause-replies c = answers_commands

pub returns-clause-entries : goal.returns-clause-entries
returns-clause-entries c = drains_as_seen

pub returns-clause-done : goal.returns-clause-done
returns-clause-done c = does_commands_to_flash
