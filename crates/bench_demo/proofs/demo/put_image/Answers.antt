use Rattle.bench_shelf.proofs.Writing.{writes_exit, writes_then}
use Rattle.bench_demo.specs.Demo.{size_text}
use Rattle.bench_demo.proofs.demo.put_image.Goals as goal

pub returns-in_err-put_line : goal.returns-in_err-put_line
returns-in_err-put_line g c = writes_exit (size_text c.args.size) _ c.from_residual.ensures.1 (rw c.number_line.ensures at c.in_err-put_line.ensures)

pub returns : goal.returns
returns g c = writes_then _ (rw c.number_line.ensures at c.in_ok-put_line.ensures) (rw c.size_line.ensures at c.put_line-2.ensures)
