use Rattle.std.proofs.Common.{◌≡◌, ◌<◌, take, true, ◌^◌}
use Rattle.std.specs.List.{list_all}
use Rattle.hex.specs.Hex.{is_hex_digit}
use Rattle.text_fields.specs.Numbers.{hex_value}
use Rattle.text_fields.proofs.numbers.hex_number.Given as goal

abbrev pub invariant-loop-byte : goal.invariant-loop-byte
invariant-loop-byte l = record {
  digits : list_all is_hex_digit (take l.byte-index l.text) ≡ true;
  value : l.value ≡ hex_value (take l.byte-index l.text);
  small : l.value < 16 ^ l.byte-index;
}
