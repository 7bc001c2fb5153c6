use Rattle.std.proofs.Common.{◌∙◌, sym, ap, ap₂, refl, arith, ◌+◌, ◌*◌}
use Rattle.std.specs.Prelude.{◌%◌, ◌^◌}
use Rattle.boot_monitor.proofs.Tallies.{counts-part, number-more, fits-more, fits-part}
use Rattle.boot_monitor.proofs.tally.Tally.with.Goals as goal

pub overflow_add-part : goal.overflow_add-part
overflow_add-part c = omega (arith, fits-more c.args.self.part c.args.byte c.args.self.count c.spread.result c.requires.part (c.ranges.byte.fits) c.spread.ensures)

pub returns-then-count-eq0-clause-counts : goal.returns-then-count-eq0-clause-counts
returns-then-count-eq0-clause-counts c = λ bytes h.
    c.with_word.ensures.counts bytes c.args.byte h
    (ap (λ s. c.args.self.part + s) c.spread.ensures ∙ ap₂ (λ a n. a + c.args.byte * 2 ^ (8 * (n % 4))) h.part h.count ∙ sym (number-more bytes c.args.byte))

pub returns-else-count-eq0-clause-part : goal.returns-else-count-eq0-clause-part
returns-else-count-eq0-clause-part c = fits-part c.args.self.part c.args.byte c.args.self.count c.spread.result c.requires.part c.ranges.byte.fits c.spread.ensures (omega (arith, c.if-count-eq0.false))

pub returns-else-count-eq0-clause-counts : goal.returns-else-count-eq0-clause-counts
returns-else-count-eq0-clause-counts c = λ bytes h.
    counts-part c.args.self _ bytes c.args.byte h (omega (arith, c.if-count-eq0.false)) refl (ap (λ s. c.args.self.part + s) c.spread.ensures) refl refl refl refl
