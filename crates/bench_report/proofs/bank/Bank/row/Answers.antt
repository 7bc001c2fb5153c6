use Rattle.std.proofs.Common.{◌*◌, ◌∙◌, arith}
use Rattle.bench_report.specs.Bank.{bytes_of}
use Rattle.bench_report.proofs.Rows.{row_of_words}
use Rattle.bench_report.proofs.bank.Bank.row.Goals as goal

pub returns : goal.returns
returns g c board s h room =
    c.joined.ensures
    ∙ rw (
      c.word-first.ensures board s h (omega (arith, room)),
      c.word-second.ensures board s h (omega (arith, room)),
      c.word-third.ensures board s h (omega (arith, room)),
      c.word.ensures board s h (omega (arith, room)),
    ) (row_of_words (bytes_of s.hub c.args.self) (16 * c.args.number))
