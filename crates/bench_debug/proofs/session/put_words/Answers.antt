use Rattle.std.proofs.Common.{◌≡◌, arith}
use Rattle.soc_words.proofs.Texts.{joined_below-zero, joined_below-more}
use Rattle.bench_shelf.proofs.Writing.{loop_exit, writes_begin, writes_then}
use Rattle.bench_debug.specs.Session.{mem_text_in}
use Rattle.bench_debug.proofs.session.put_words.Goals as goal

pub loop-k-init : goal.loop-k-init
loop-k-init g c board s h = rw joined_below-zero (writes_begin _ _ _)

pub loop-k-preserved : goal.loop-k-preserved
loop-k-preserved g c board s h =
    rw joined_below-more (writes_then _ (c.loop-k.invariant board s h) (rw (c.word_line.ensures, c.word.ensures.value board s h) at c.in_ok-put_line.ensures))

pub returns-in_err-put_line : goal.returns-in_err-put_line
returns-in_err-put_line g c board s h =
    loop_exit (mem_text_in s.hub c.args.at) c.loop-k.k c.args.count c.from_residual.result c.loop-k-test.true (c.loop-k.invariant board s h)
    (rw (c.word_line.ensures, c.word.ensures.value board s h) at c.in_err-put_line.ensures) c.from_residual.ensures.1

pub returns : goal.returns
returns g c board s h =
    let all : c.loop-k.k ≡ c.args.count = omega (arith, c.loop-k-test.false, c.loop-k.auto.k-end) in
    rw (← all) (c.loop-k.invariant board s h)
