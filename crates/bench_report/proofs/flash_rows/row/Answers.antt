use Rattle.std.proofs.Common.{refl, add-zero}
use Rattle.bench_report.proofs.flash_rows.row.Goals as goal

pub returns : goal.returns
returns g c board s h fitted =
    rw (
      c.byte.ensures board s h fitted,
      c.byte-2.ensures board s h fitted,
      c.byte-3.ensures board s h fitted,
      c.byte-4.ensures board s h fitted,
      c.byte-5.ensures board s h fitted,
      c.byte-6.ensures board s h fitted,
      c.byte-7.ensures board s h fitted,
      c.byte-8.ensures board s h fitted,
      c.byte-9.ensures board s h fitted,
      c.byte-10.ensures board s h fitted,
      c.byte-11.ensures board s h fitted,
      c.byte-12.ensures board s h fitted,
      c.byte-13.ensures board s h fitted,
      c.byte-14.ensures board s h fitted,
      c.byte-15.ensures board s h fitted,
      c.byte-16.ensures board s h fitted,
      add-zero,
    ) refl
