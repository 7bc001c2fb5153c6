use Rattle.std.proofs.Common.{◌≡◌, ◌∙◌, sym, refl, arith, ℕ, ◌+◌, length}
use Rattle.image_tool.specs.Image.{words}
use Rattle.boot_monitor.proofs.Tallies.{counts-word, place-of, get_or-new, get_or-old, sum-none, sum-first, counts-further}
use Rattle.boot_monitor.proofs.tally.Tally.with_word.Goals as goal

pub returns-in-4-clause-counts : goal.returns-in-4-clause-counts
returns-in-4-clause-counts c = λ bytes byte h hw.
    let n : length (words bytes) + 1 ≡ 1 = place-of c.args.self bytes 1 h c.requires.fourth (omega (arith, c.in-4.is)) in
    let w : ℕ = c.args.word in
    counts-word c.args.self _ bytes byte w h c.requires.fourth hw refl refl refl
    (sym (get_or-new (words bytes) w 0 (omega (arith, n))))
    (h.size ∙ sym (get_or-old (words bytes) w 1 (λ e. omega (arith, e, n))))
    (h.check ∙ sym (get_or-old (words bytes) w 2 (λ e. omega (arith, e, n))))
    (sum-none (words bytes) w c.args.self.sum (omega (arith, n)) h.sum)

pub returns-in-8-clause-counts : goal.returns-in-8-clause-counts
returns-in-8-clause-counts c = λ bytes byte h hw.
    let n : length (words bytes) + 1 ≡ 2 = place-of c.args.self bytes 2 h c.requires.fourth (omega (arith, c.in-8.is)) in
    let w : ℕ = c.args.word in
    counts-word c.args.self _ bytes byte w h c.requires.fourth hw refl refl refl
    (h.signature ∙ sym (get_or-old (words bytes) w 0 (λ e. omega (arith, e, n))))
    (sym (get_or-new (words bytes) w 1 (omega (arith, n))))
    (h.check ∙ sym (get_or-old (words bytes) w 2 (λ e. omega (arith, e, n))))
    (sum-none (words bytes) w c.args.self.sum (omega (arith, n)) h.sum)

pub returns-in-12-clause-counts : goal.returns-in-12-clause-counts
returns-in-12-clause-counts c = λ bytes byte h hw.
    let n : length (words bytes) + 1 ≡ 3 = place-of c.args.self bytes 3 h c.requires.fourth (omega (arith, c.in-12.is)) in
    let w : ℕ = c.args.word in
    counts-word c.args.self _ bytes byte w h c.requires.fourth hw refl refl refl
    (h.signature ∙ sym (get_or-old (words bytes) w 0 (λ e. omega (arith, e, n))))
    (h.size ∙ sym (get_or-old (words bytes) w 1 (λ e. omega (arith, e, n))))
    (sym (get_or-new (words bytes) w 2 (omega (arith, n))))
    (sum-first (words bytes) w n c.ranges.word.fits)

pub returns-in_default-clause-counts : goal.returns-in_default-clause-counts
returns-in_default-clause-counts c = λ bytes byte h hw.
    counts-further c.args.self _ bytes byte c.args.word h c.requires.fourth hw (grind arith) (grind arith) (grind arith) refl refl refl refl refl refl refl
