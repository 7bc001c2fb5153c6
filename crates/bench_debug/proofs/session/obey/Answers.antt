use Rattle.chip_whole.specs.Chip.{after}
use Rattle.bench_debug.specs.Session.{done_by}
use Rattle.bench_debug.proofs.session.obey.Goals as goal

pub returns-in-Regs-clause-text : goal.returns-in-Regs-clause-text
unfolding done_by
returns-in-Regs-clause-text g c board s n h = rw c.in-Regs.is (c.put_hart.ensures board (after board s n) h)

pub returns-in-Csr-clause-text : goal.returns-in-Csr-clause-text
unfolding done_by
returns-in-Csr-clause-text g c board s n h = rw c.in-Csr.is (c.put_csr.ensures board (after board s n) h)

pub returns-in-Mem-clause-text : goal.returns-in-Mem-clause-text
unfolding done_by
returns-in-Mem-clause-text g c board s n h = rw c.in-Mem.is (c.put_words.ensures board (after board s n) h)
