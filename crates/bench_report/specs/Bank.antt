-- The two memories of a hub, and where each begins (definitions).
use Rattle.std.specs.Prelude.{ℕ, List}
use Rattle.chip_hub.specs.State.{HubState}
use Rattle.bench_report.specs.declared.bank.Bank.{Bank}
use Rattle.bench_report.specs.declared.bank.Bank.TheVariants.{Imem, Dmem}

abbrev pub base_of : Bank → ℕ
base_of Imem = 0
base_of Dmem = 2147483648

abbrev pub bytes_of : HubState → Bank → List ℕ
bytes_of hub Imem = hub.memory.imem
bytes_of hub Dmem = hub.memory.dmem
