use Rattle.bench_shelf.proofs.Writing.{writes_then, writes_stop, writes_exit}
use Rattle.chip_whole.specs.Chip.{after}
use Rattle.chip_whole.proofs.Next.{next_all}
use Rattle.bench_report.specs.Report.{harts_text, shown, tail_text}
use Rattle.bench_report.proofs.whole.report_chip.Goals as goal

pub returns-in_err-put_head : goal.returns-in_err-put_head
returns-in_err-put_head g c board s h none =
    writes_exit (tail_text (shown (after board s c.args.cycles) c.args.cycles c.args.trace)) _ c.from_residual.ensures.1
    (writes_stop (harts_text (shown (after board s c.args.cycles) c.args.cycles c.args.trace)) (rw (next_all board s c.args.cycles none) at (c.in_err-put_head.ensures.writes board s h)))

pub returns-in_err-put_harts : goal.returns-in_err-put_harts
returns-in_err-put_harts g c board s h none =
    let k = c.in_ok-put_head.ensures.state board s h in
    writes_exit (tail_text (shown (after board s c.args.cycles) c.args.cycles c.args.trace)) _ c.from_residual-in_err-put_harts.ensures.1
    (writes_then _ (rw (next_all board s c.args.cycles none) at (c.in_ok-put_head.ensures.writes board s h))
    (rw (c.hart.ensures board _ k, c.hart-2.ensures board _ k) at c.in_err-put_harts.ensures))

pub returns : goal.returns
returns g c board s h none =
    let k = c.in_ok-put_head.ensures.state board s h in
    writes_then _
    (writes_then _ (rw (next_all board s c.args.cycles none) at (c.in_ok-put_head.ensures.writes board s h))
    (rw (c.hart.ensures board _ k, c.hart-2.ensures board _ k) at c.in_ok-put_harts.ensures)) (c.put_tail.ensures board _ k)
