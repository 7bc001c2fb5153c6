use Rattle.std.proofs.Common.{◌≡◌, drop, true, []}
use Rattle.text_fields.specs.Quoted.{plain, quoted}
use Rattle.text_fields.specs.QuotedParts.{is_small, mode_view}
use Rattle.text_fields.proofs.quoted.scanned.Given as goal

abbrev pub invariant-loop-i : goal.invariant-loop-i
invariant-loop-i l = record {
  small : is_small l.place ≡ true;
  rest : quoted (drop l.i l.text) (mode_view l.place) l.found.items ≡ quoted l.text plain [];
}
