use Rattle.std.proofs.Common.{◌≡◌, ℕ, ◌-◌}
use Rattle.spi_flash.specs.Flash.{byte_of}
use Rattle.spi_flash.specs.Ranges.{filled_in}
use Rattle.std.specs.Vec.{vec_len, vec_capacity}
use Rattle.spi_flash.proofs.array.fill.Given as goal

abbrev pub invariant-loop-i : goal.invariant-loop-i
invariant-loop-i l = record {
  bytes : (j : ℕ) → byte_of l.kept.items j ≡ filled_in l.fn.start (l.i - l.fn.start) (byte_of l.fn.kept.items) j;
  len : vec_len l.kept ≡ vec_len l.fn.kept;
  capacity : vec_capacity l.kept ≡ vec_capacity l.fn.kept;
}
