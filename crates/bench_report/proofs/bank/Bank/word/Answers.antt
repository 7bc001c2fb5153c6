use Rattle.std.proofs.Common.{◌≡◌, ℕ, ◌<◌, ◌≤◌, ◌+◌, ◌%◌, List, length, slice_range, None, rules}
use Rattle.std.specs.Option.{IfSome}
use Rattle.chip_hub.specs.State.{HubState}
use Rattle.chip_hub.specs.Views.{word_view}
use Rattle.soc_bus.specs.Memory.{held_by, place_of}
use Rattle.bench_report.specs.Bank.{base_of, bytes_of}
use Rattle.bench_report.specs.declared.bank.Bank.{Bank}
use Rattle.bench_report.specs.declared.bank.Bank.TheVariants.{Imem, Dmem}
use Rattle.bench_report.proofs.bank.Bank.word.Goals as goal

-- the bytes of a word are those of the memory
bytes_there : (hub : HubState) (bank : Bank) (base at : ℕ) (bytes : List ℕ) → base ≡ base_of bank → at < 1048576 → at + 4 ≤ length (bytes_of hub bank)
    → IfSome (place_of hub.memory (base + at) 4) (λ p. bytes ≡ slice_range (held_by hub.memory p.0) p.1 (p.1 + 4)) → bytes ≡ slice_range (bytes_of hub bank) at (at + 4)
bytes_there hub Imem base at bytes e below room h = search rules
bytes_there hub Dmem base at bytes e below room h = search rules

-- there is a word
word_there : (hub : HubState) (bank : Bank) (base at : ℕ) → base ≡ base_of bank → at % 4 ≡ 0 → at < 1048576 → at + 4 ≤ length (bytes_of hub bank)
    → None ≡ word_view hub (base + at) → ⊥
word_there hub Imem base at e place below room h = search rules
word_there hub Dmem base at e place below room h = search rules

pub returns-in-Some : goal.returns-in-Some
returns-in-Some g c board s h room =
    bytes_there s.hub c.args.self c.base.result c.args.at _ c.base.ensures c.requires.below room (rw c.to_le_bytes.ensures (c.in-Some.ensures.bytes board s h))

pub returns-in-None : goal.returns-in-None
returns-in-None g c board s h room =
    absurd (word_there s.hub c.args.self c.base.result c.args.at c.base.ensures c.requires.place c.requires.below room (c.in-None.ensures.value board s h))
