use Rattle.bench_debug.proofs.session.put_csr.Goals as goal

pub returns : goal.returns
returns g c board s h = rw (c.csr_line.ensures, c.csr.ensures board s h) at c.put_line.ensures
