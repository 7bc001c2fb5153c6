use Rattle.std.proofs.Common.{◌≡◌, ◌==◌, drop}
use Rattle.std.specs.List.{find}
use Rattle.csr_file.specs.Table.{csr_row}
use Rattle.csr_file.proofs.names.first_with.Given as goal

abbrev pub invariant-loop-csr : goal.invariant-loop-csr
invariant-loop-csr l = find (λ c. (csr_row c).number == l.number) l.csrs ≡ find (λ c. (csr_row c).number == l.number) (drop l.csr-index l.csrs)
