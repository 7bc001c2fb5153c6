use Rattle.std.proofs.Common.{◌≡◌, ◌∙◌, ap, unwrap_or}
use Rattle.bench_shelf.proofs.Writing.{writes_exit, writes_then}
use Rattle.chip_whole.specs.Chip.{after}
use Rattle.chip_whole.proofs.Next.{next_all}
use Rattle.bench_demo.specs.Demo.{run_text, serial_count, sum_word}
use Rattle.bench_demo.proofs.demo.put_shown.Goals as goal

pub returns-in_err-put_image : goal.returns-in_err-put_image
returns-in_err-put_image g c board s h none = writes_exit (run_text (after board s 400000)) _ c.from_residual.ensures.1 c.in_err-put_image.ensures

pub returns-in-Ok : goal.returns-in-Ok
returns-in-Ok g c board s h none =
    let k = c.in-Ok.ensures.state board s h in
    let serial : c.in-Ok.count ≡ serial_count (after board s 400000).events =
    c.in-Ok.ensures.count board s h ∙ ap serial_count (next_all board s 400000 none) in
    let sum : c.unwrap_or.result ≡ sum_word (after board s 400000) = c.unwrap_or.ensures ∙ ap (λ w. unwrap_or w 0) (c.word.ensures.value board _ k) in
    writes_then _ c.in_ok-put_image.ensures (rw (serial, sum, c.boot.ensures board _ k) at c.put_run.ensures)
