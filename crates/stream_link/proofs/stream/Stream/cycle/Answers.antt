use Rattle.std.proofs.Common.{Some, refl, sym, ap, ◌∙◌}
use Rattle.stream_link.proofs.Order.{counts_waiting, given_none, given_reset, given_set, passes_at_once, passes_in_order}
use Rattle.stream_link.specs.StreamCycle.{set_in}
use Rattle.stream_link.proofs.stream.Stream.cycle.Goals as goal

pub returns-in-Some-Reset-clause-stands : goal.returns-in-Some-Reset-clause-stands
returns-in-Some-Reset-clause-stands g c = λ part s h.
    rw (sym (given_reset part s c.args.now c.args.down (c.in-Some-Reset.is ∙ ap Some (rw c.in-Some-Reset.is at c.in-Some-Reset.field-0-is))))
    (record { of_queue = c.new-self.ensures; of_part = h.of_part }, refl, refl)

pub returns-in-Some-Set-clause-stands : goal.returns-in-Some-Set-clause-stands
returns-in-Some-Set-clause-stands g c = λ part s h.
    rw (sym (given_set part s c.args.now c.args.down c.in-Some-Set.reg c.in-Some-Set.word (c.in-Some-Set.is ∙ ap Some (rw c.in-Some-Set.is at c.in-Some-Set.field-0-is))))
    (c.work.ensures part (record s { queue = set_in s.queue c.in-Some-Set.reg c.in-Some-Set.word })
    (record { of_queue = c.set.ensures ∙ ap (λ q. set_in q c.in-Some-Set.reg c.in-Some-Set.word) h.of_queue; of_part = h.of_part }))

pub returns-in-None-clause-stands : goal.returns-in-None-clause-stands
returns-in-None-clause-stands g c = λ part s h.
    rw (sym (given_none part s c.args.now c.args.down c.in-None.is)) (c.work-in-None.ensures part s h)

pub returns-in-Some-Reset-clause-order : goal.returns-in-Some-Reset-clause-order
returns-in-Some-Reset-clause-order g c = λ part s. passes_in_order part s c.args.now c.args.down

pub returns-in-Some-Reset-clause-at_once : goal.returns-in-Some-Reset-clause-at_once
returns-in-Some-Reset-clause-at_once g c = λ part s. passes_at_once part s c.args.now c.args.down

pub returns-in-Some-Reset-clause-count : goal.returns-in-Some-Reset-clause-count
returns-in-Some-Reset-clause-count g c = λ part s. counts_waiting part s c.args.now c.args.down

pub returns-in-Some-Set-clause-order : goal.returns-in-Some-Set-clause-order
returns-in-Some-Set-clause-order g c = λ part s. passes_in_order part s c.args.now c.args.down

pub returns-in-Some-Set-clause-at_once : goal.returns-in-Some-Set-clause-at_once
returns-in-Some-Set-clause-at_once g c = λ part s. passes_at_once part s c.args.now c.args.down

pub returns-in-Some-Set-clause-count : goal.returns-in-Some-Set-clause-count
returns-in-Some-Set-clause-count g c = λ part s. counts_waiting part s c.args.now c.args.down

pub returns-in-None-clause-order : goal.returns-in-None-clause-order
returns-in-None-clause-order g c = λ part s. passes_in_order part s c.args.now c.args.down

pub returns-in-None-clause-at_once : goal.returns-in-None-clause-at_once
returns-in-None-clause-at_once g c = λ part s. passes_at_once part s c.args.now c.args.down

pub returns-in-None-clause-count : goal.returns-in-None-clause-count
returns-in-None-clause-count g c = λ part s. counts_waiting part s c.args.now c.args.down
