-- Printed numbers.
use Rattle.std.proofs.Common.{◌≡◌, ℕ, ◌+◌, ◌<◌, ◌≤◌, List, ◌++◌, length, arith, length-append}
use Rattle.std.specs.Fmt.{decimal}
use Rattle.std.proofs.lemmas.Fmt.{length-decimal-le}

-- a number below 256 takes at most three places
pub grown : (before after : List ℕ) (n : ℕ) → n < 256 → after ≡ before ++ decimal n → length after ≤ length before + 3
grown before after n small e =
    let short : length (decimal n) ≤ 3 = length-decimal-le 3 n (omega arith) (omega (arith, small)) (omega (arith, small)) in
    rw (e, length-append before (decimal n)) (omega (arith, short))
