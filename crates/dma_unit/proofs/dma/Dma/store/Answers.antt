use Rattle.std.proofs.Common.{rules, ◌≡◌, subst, sym}
use Rattle.dma_unit.specs.DmaRegisters.{dma_stored}
use Rattle.dma_unit.specs.Copying.{Copies}
use Rattle.dma_unit.proofs.Copying.{copies_stored}
use Rattle.dma_unit.proofs.dma.Dma.store.Goals as goal

pub returns-then-not-is_busy-clause-copy : goal.returns-then-not-is_busy-clause-copy
returns-then-not-is_busy-clause-copy c =
    let e : c.store_at_rest.new.self ≡ dma_stored c.args.self.now c.args.reg c.args.word = search rules in
    subst (λ x. Copies x) (sym e) (copies_stored c.args.self.now c.args.reg c.args.word (rw (← c.self.view_is) c.self.invariant))

pub returns-else-not-is_busy-clause-copy : goal.returns-else-not-is_busy-clause-copy
returns-else-not-is_busy-clause-copy c =
    let e : c.args.self.now ≡ dma_stored c.args.self.now c.args.reg c.args.word = search rules in
    subst (λ x. Copies x) (sym e) (copies_stored c.args.self.now c.args.reg c.args.word (rw (← c.self.view_is) c.self.invariant))
