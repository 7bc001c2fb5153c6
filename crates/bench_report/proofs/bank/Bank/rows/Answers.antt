use Rattle.std.proofs.Common.{◌/◌, ap}
use Rattle.bench_report.proofs.bank.Bank.rows.Goals as goal

pub returns-in-Imem-clause-value : goal.returns-in-Imem-clause-value
returns-in-Imem-clause-value g c board s h = rw c.in-Imem.is (ap (λ n. n / 16) (c.imem_size.ensures.value board s h))

pub returns-in-Dmem-clause-value : goal.returns-in-Dmem-clause-value
returns-in-Dmem-clause-value g c board s h = rw c.in-Dmem.is (ap (λ n. n / 16) (c.dmem_size.ensures.value board s h))
