-- A definition: decimal and hexadecimal numbers in texts.
use Rattle.std.specs.Prelude.{ℕ, ◌+◌, ◌-◌, ◌*◌, ◌&&◌, Bool, List, length, Option, Some, None, unwrap_or, nat_lt, nat_le, if◌then◌else◌, fold}
use Rattle.std.specs.List.{list_all}
use Rattle.hex.specs.Hex.{hex_digit_value, is_hex_digit}

-- a decimal digit
abbrev pub is_digit : ℕ → Bool
is_digit d = nat_le 48 d && nat_le d 57

-- the value of decimal digits
abbrev pub decimal_value : List ℕ → ℕ
decimal_value digits = fold (λ n d. n * 10 + (d - 48)) 0 digits

-- one to `most` decimal digits, with a value of at most `limit`
abbrev pub is_number : ℕ → ℕ → List ℕ → Bool
is_number most limit text = nat_lt 0 (length text) && nat_le (length text) most && list_all is_digit text && nat_le (decimal_value text) limit

-- the value of such a number
unfoldable pub number_of : ℕ → ℕ → List ℕ → Option ℕ
number_of most limit text = if is_number most limit text then Some (decimal_value text) else None

-- the value of hexadecimal digits
abbrev pub hex_value : List ℕ → ℕ
hex_value digits = fold (λ n d. n * 16 + unwrap_or (hex_digit_value d) 0) 0 digits

-- one to `most` hexadecimal digits, in either case
abbrev pub is_hex_number : ℕ → List ℕ → Bool
is_hex_number most text = nat_lt 0 (length text) && nat_le (length text) most && list_all is_hex_digit text

-- the value of such a number
unfoldable pub hex_number_of : ℕ → List ℕ → Option ℕ
hex_number_of most text = if is_hex_number most text then Some (hex_value text) else None
