use Rattle.std.proofs.Common.{◌≡◌, true, take}
use Rattle.std.specs.List.{list_all}
use Rattle.text_fields.specs.Numbers.{is_digit}
use Rattle.text_fields.proofs.numbers.are_digits.Given as goal

abbrev pub invariant-loop-digit : goal.invariant-loop-digit
invariant-loop-digit l = list_all is_digit (take l.digit-index l.text) ≡ true
