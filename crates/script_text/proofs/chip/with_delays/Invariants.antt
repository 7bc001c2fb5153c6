use Rattle.std.proofs.Common.{◌≡◌}
use Rattle.toml.specs.View.{members_view}
use Rattle.chip_base.specs.Settings.{values_of}
use Rattle.script_text.specs.ChipFile.{read_delays}
use Rattle.script_text.proofs.chip.with_delays.Given as goal

abbrev pub invariant-loop-key : goal.invariant-loop-key
invariant-loop-key l = record {
  can : (goal.iterator-loop-key).can_next l.key-iterator;
  finite : (goal.iterator-loop-key).is_finite l.key-iterator;
  rest : read_delays (members_view l.key-iterator) (values_of l.setup) ≡ read_delays (members_view l.table.entries) (values_of l.initial.setup);
}
