use Rattle.trace_text.proofs.Rows.{parcels_print, words_print}
use Rattle.trace_text.proofs.Told.{instruction_told, issued_told}
use Rattle.trace_text.proofs.laws.of_texts.Goals as goal

pub returns-clause-words : goal.returns-clause-words
returns-clause-words c = words_print

pub returns-clause-parcels : goal.returns-clause-parcels
returns-clause-parcels c = parcels_print

pub returns-clause-instructions : goal.returns-clause-instructions
returns-clause-instructions c = instruction_told

pub returns-clause-issued : goal.returns-clause-issued
returns-clause-issued c = issued_told
