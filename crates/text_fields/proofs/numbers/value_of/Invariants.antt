use Rattle.std.proofs.Common.{◌≡◌, ◌<◌, take, ◌^◌}
use Rattle.text_fields.specs.Numbers.{decimal_value}
use Rattle.text_fields.proofs.numbers.value_of.Given as goal

abbrev pub invariant-loop-digit : goal.invariant-loop-digit
invariant-loop-digit l = record { value_is : l.value ≡ decimal_value (take l.digit-index l.digits); small : l.value < 10 ^ l.digit-index }
