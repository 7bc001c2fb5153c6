-- A hexadecimal number with one digit more.
use native.Mathlib.Nat.{pow-le-pow_right}
use Rattle.std.proofs.Common.{◌<◌, ◌≤◌, ◌+◌, ◌*◌, ◌^◌, ℕ, arith}

-- eight digits fit into 32 bits
pub digits_fit : (value digit i n : ℕ) → value < 16 ^ i → digit < 16 → i < n → n ≤ 8 → value * 16 + digit < 2 ^ 32
digits_fit value digit i n small one within most =
    let low : i ≤ 7 = omega (arith, within, most) in
    let base : 0 < 16 = omega arith in
    let fits : 16 ^ i ≤ 16 ^ 7 = pow-le-pow_right base low in
    omega (arith, small, one, fits)
