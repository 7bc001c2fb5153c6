use Rattle.bench_debug.proofs.session.put_hart.Goals as goal

pub returns : goal.returns
returns g c board s h = rw (c.hart.ensures board s h) at c.hart_lines.ensures
