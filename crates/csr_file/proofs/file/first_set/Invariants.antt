use Rattle.std.proofs.Common.{◌≡◌, ◌==◌, drop}
use Rattle.std.specs.Int.{bit_at}
use Rattle.std.specs.List.{find}
use Rattle.csr_file.proofs.file.first_set.Given as goal

abbrev pub invariant-loop-number : goal.invariant-loop-number
invariant-loop-number l = find (λ n. bit_at l.ready n == 1) l.numbers ≡ find (λ n. bit_at l.ready n == 1) (drop l.number-index l.numbers)
