use Rattle.std.proofs.Common.{◌≡◌, ℕ}
use Rattle.spi_flash.specs.Flash.{byte_of}
use Rattle.spi_flash.specs.Ranges.{cleared_in}
use Rattle.std.specs.Vec.{vec_len, vec_capacity}
use Rattle.spi_flash.proofs.array.clear_bits.Given as goal

abbrev pub invariant-loop-place : goal.invariant-loop-place
invariant-loop-place l = record {
  bytes : (i : ℕ) → byte_of l.kept.items i ≡ cleared_in l.fn.start l.place (byte_of l.fn.page) (byte_of l.fn.kept.items) i;
  len : vec_len l.kept ≡ vec_len l.fn.kept;
  capacity : vec_capacity l.kept ≡ vec_capacity l.fn.kept;
}
