-- A load of CTRL tells each of its bits, since the kept bits lie apart from the others.
use Rattle.std.proofs.Common.{◌≡◌, ◌≢◌, ◌≤◌, ◌<◌, ◌↔◌, ℕ, ◌+◌, ◌*◌, ◌/◌, ◌%◌, ◌^◌, min, Bool, true, false, bit_and, length, cond, refl, sym, ap, ◌∙◌, arith, subst}
use Rattle.std.specs.Prelude.{◌==◌, nat_lt}
use Rattle.std.specs.Int.{bit_at}
use Rattle.std.proofs.lemmas.Bool.{false≢true}
use Rattle.std.proofs.lemmas.Bool.Decides.{nat_tests}
use Rattle.std.proofs.lemmas.Nat.{and_le_r, and_mask, and_mod, and_shr}
use Rattle.std.proofs.lemmas.Nat.Bits.{bit_at_and, same_from_bits}
use Rattle.chip_base.specs.Bits.{bit_if}
use Rattle.soc_words.proofs.Registers.{same_as}
use Rattle.unit_fronts.specs.Control.{HasNoRate, IsWritable, SetsControl, SetsSlinkControl, SetsSpiControl, TellsControl, writable}
use Rattle.unit_fronts.specs.SerialRegisters.{SerialRegisters, serial_control, serial_control_stored, serial_is_open, has_received}
use Rattle.unit_fronts.specs.SerialFront.{SerialKind, serial_stored}
use Rattle.unit_fronts.specs.SlinkFront.{slink_kept, slink_kind}
use Rattle.unit_fronts.specs.SpiFront.{spi_kept, spi_kind}
use Rattle.unit_fronts.specs.UartFront.{uart_kind}

-- the part that a store keeps has the writable bits alone
pub writable_part : (word : ℕ) → IsWritable (bit_and word writable)
writable_part word = same_from_bits (bit_and (bit_and word writable) writable) (bit_and word writable)
    (λ i. bit_at_and (bit_and word writable) writable i
    ∙ (ap (λ b. min b (bit_at writable i)) (bit_at_and word writable i) ∙ (twice (bit_at word i) (bit_at writable i) ∙ sym (bit_at_and word writable i))))
  where
    twice : (a b : ℕ) → min (min a b) b ≡ min a b
    twice a b = omega arith

-- a bit that can't be written isn't kept
not_kept : (kept place : ℕ) → IsWritable kept → bit_at writable place ≡ 0 → bit_at kept place ≡ 0
not_kept kept place h zero_there =
    ap (λ w. bit_at w place) (sym h) ∙ (bit_at_and kept writable place ∙ (ap (min (bit_at kept place)) zero_there ∙ none (bit_at kept place)))
  where
    none : (a : ℕ) → min a 0 ≡ 0
    none a = omega arith

-- which of the bits that can't be written a number has: none
record LiesApart (kept : ℕ) : Type 0 where
  low : kept / 2 % 4 ≡ 0
  middle : kept / 65536 % 64 ≡ 0
  high : kept < 8388608

lies_apart : (kept : ℕ) → IsWritable kept → kept < 2 ^ 23 → LiesApart kept
lies_apart kept h below =
    let b1 : kept / 2 % 2 ≡ 0 = not_kept kept 1 h refl in
    let b2 : kept / 4 % 2 ≡ 0 = not_kept kept 2 h refl in
    let b16 : kept / 65536 % 2 ≡ 0 = not_kept kept 16 h refl in
    let b17 : kept / 131072 % 2 ≡ 0 = not_kept kept 17 h refl in
    let b18 : kept / 262144 % 2 ≡ 0 = not_kept kept 18 h refl in
    let b19 : kept / 524288 % 2 ≡ 0 = not_kept kept 19 h refl in
    let b20 : kept / 1048576 % 2 ≡ 0 = not_kept kept 20 h refl in
    let b21 : kept / 2097152 % 2 ≡ 0 = not_kept kept 21 h refl in
    record {
      low = omega (arith, b1, b2);
      middle = omega (arith, b16, b17, b18, b19, b20, b21);
      high = below;
    }

-- a bit of a word that is set where something holds
abbrev digit : Bool → ℕ
digit is_set = cond is_set 1 0

digit_below : (b : Bool) → digit b ≤ 1
digit_below true = omega arith
digit_below false = omega arith

bit_of : (place : ℕ) (b : Bool) → bit_if place b ≡ 2 ^ place * digit b
bit_of place true = omega arith
bit_of place false = omega arith

tells_if : (P : Type 0) (b : Bool) (bit : ℕ) → bit ≡ digit b → (b ≡ true → P) → (P → b ≡ true) → (bit ≡ 1) ↔ P
tells_if P true bit e f g = (λ x. f refl, λ p. e)
tells_if P false bit e f g = (λ x. absurd (omega (arith, x, e)), λ p. absurd (false≢true (g p)))

abbrev sum_of : ℕ → ℕ → ℕ → ℕ → ℕ → ℕ
sum_of kept a b c d = kept + 65536 * a + 2097152 * b + 1073741824 * c + 2147483648 * d

-- the four bits beside the kept ones stand at their places
record HasBits (kept a b c d word : ℕ) : Type 0 where
  enable : word / 1 % 2 ≡ kept / 1 % 2
  prescaler : word / 8 % 8 ≡ kept / 8 % 8
  baud : word / 64 % 1024 ≡ kept / 64 % 1024
  interrupts : word / 4194304 % 2 ≡ kept / 4194304 % 2
  received : word / 65536 % 2 ≡ a
  full : word / 2097152 % 2 ≡ b
  overrun : word / 1073741824 % 2 ≡ c
  busy : word / 2147483648 % 2 ≡ d
  below_prescaler : word / 2 % 4 ≡ 0
  below_full : word / 131072 % 16 ≡ 0
  below_overrun : word / 8388608 % 128 ≡ 0

has_bits : (kept a b c d : ℕ) → LiesApart kept → a ≤ 1 → b ≤ 1 → c ≤ 1 → d ≤ 1 → HasBits kept a b c d (sum_of kept a b c d)
has_bits kept a b c d k ha hb hc hd =
    let low : kept / 2 % 4 ≡ 0 = k.low in
    let middle : kept / 65536 % 64 ≡ 0 = k.middle in
    let high : kept < 8388608 = k.high in
    record {
      enable = omega arith;
      prescaler = omega arith;
      baud = omega arith;
      interrupts = omega (arith, middle, high, ha, hb, hc, hd);
      received = omega (arith, middle, high, ha, hb, hc, hd);
      full = omega (arith, middle, high, ha, hb, hc, hd);
      overrun = omega (arith, high, ha, hb, hc, hd);
      busy = omega (arith, high, ha, hb, hc, hd);
      below_prescaler = omega (arith, low);
      below_full = omega (arith, middle, high, ha, hb, hc, hd);
      below_overrun = omega (arith, high, ha, hb, hc, hd);
    }

sum_same : (s : SerialRegisters) → serial_control s ≡ sum_of s.kept (digit (has_received s)) (digit (s.credits == 0)) (digit s.overrun) (digit (nat_lt s.credits 16))
sum_same s =
    let a : bit_if 16 (has_received s) ≡ 2 ^ 16 * digit (has_received s) = bit_of 16 (has_received s) in
    let b : bit_if 21 (s.credits == 0) ≡ 2 ^ 21 * digit (s.credits == 0) = bit_of 21 (s.credits == 0) in
    let c : bit_if 30 s.overrun ≡ 2 ^ 30 * digit s.overrun = bit_of 30 s.overrun in
    let d : bit_if 31 (nat_lt s.credits 16) ≡ 2 ^ 31 * digit (nat_lt s.credits 16) = bit_of 31 (nat_lt s.credits 16) in
    rw (a, b, c, d) refl

abbrev HasBitsOf : SerialRegisters → ℕ → Type 0
HasBitsOf s word = HasBits s.kept (digit (has_received s)) (digit (s.credits == 0)) (digit s.overrun) (digit (nat_lt s.credits 16)) word

tells_bits : (s : SerialRegisters) (word : ℕ) → HasBitsOf s word → TellsControl s word
tells_bits s word h = record {
  enable = h.enable;
  prescaler = h.prescaler;
  baud = h.baud;
  interrupts = h.interrupts;
  received = tells_if (0 < length s.received) (has_received s) _ h.received (λ e. grind (arith, nat_tests)) (λ e. grind (arith, nat_tests));
  full = tells_if (s.credits ≡ 0) (s.credits == 0) _ h.full (λ e. grind (arith, nat_tests)) (λ e. grind (arith, nat_tests));
  overrun = tells_if (s.overrun ≡ true) s.overrun _ h.overrun (λ e. e) (λ e. e);
  busy = tells_if (s.credits < 16) (nat_lt s.credits 16) _ h.busy (λ e. grind (arith, nat_tests)) (λ e. grind (arith, nat_tests));
  below_prescaler = h.below_prescaler;
  below_full = h.below_full;
  below_overrun = h.below_overrun;
}

-- what a load of CTRL gives tells each bit
pub tells_control : (s : SerialRegisters) (word : ℕ) → word ≡ serial_control s → IsWritable s.kept → s.kept < 2 ^ 23 → TellsControl s word
tells_control s word e kept below =
    tells_bits s word (subst (λ w. HasBitsOf s w) (sym (e ∙ sum_same s))
    (has_bits s.kept _ _ _ _ (lies_apart s.kept kept below) (digit_below (has_received s)) (digit_below (s.credits == 0)) (digit_below s.overrun)
    (digit_below (nat_lt s.credits 16))))

-- a bit under a mask is the bit that was stored
masked_bit : (mask word place : ℕ) → bit_at mask place ≡ 1 → bit_at word place ≤ 1 → bit_at (bit_and word mask) place ≡ bit_at word place
masked_bit mask word place one low = bit_at_and word mask place ∙ (ap (min (bit_at word place)) one ∙ least (bit_at word place) low)
  where
    least : (a : ℕ) → a ≤ 1 → min a 1 ≡ a
    least a l = omega (arith, l)

-- a kept bit is the bit that was stored
kept_bit : (word place : ℕ) → bit_at writable place ≡ 1 → bit_at word place ≤ 1 → bit_at (bit_and word writable) place ≡ bit_at word place
kept_bit word place one low = masked_bit writable word place one low

three_same : (a b : ℕ) → a / 8 % 2 ≡ b / 8 % 2 → a / 16 % 2 ≡ b / 16 % 2 → a / 32 % 2 ≡ b / 32 % 2 → a / 8 % 8 ≡ b / 8 % 8
three_same a b p q r = omega (arith, p, q, r)

low_five_same : (a b : ℕ) → a / 64 % 2 ≡ b / 64 % 2 → a / 128 % 2 ≡ b / 128 % 2 → a / 256 % 2 ≡ b / 256 % 2 → a / 512 % 2 ≡ b / 512 % 2
    → a / 1024 % 2 ≡ b / 1024 % 2 → a / 64 % 32 ≡ b / 64 % 32
low_five_same a b p q r s t = omega (arith, p, q, r, s, t)

high_five_same : (a b : ℕ) → a / 2048 % 2 ≡ b / 2048 % 2 → a / 4096 % 2 ≡ b / 4096 % 2 → a / 8192 % 2 ≡ b / 8192 % 2
    → a / 16384 % 2 ≡ b / 16384 % 2 → a / 32768 % 2 ≡ b / 32768 % 2 → a / 2048 % 32 ≡ b / 2048 % 32
high_five_same a b p q r s t = omega (arith, p, q, r, s, t)

ten_same : (a b : ℕ) → a / 64 % 32 ≡ b / 64 % 32 → a / 2048 % 32 ≡ b / 2048 % 32 → a / 64 % 1024 ≡ b / 64 % 1024
ten_same a b p q = omega (arith, p, q)

-- the fields that a store to CTRL keeps
record KeepsFields (word kept : ℕ) : Type 0 where
  enable : kept / 1 % 2 ≡ word / 1 % 2
  prescaler : kept / 8 % 8 ≡ word / 8 % 8
  baud : kept / 64 % 1024 ≡ word / 64 % 1024
  interrupts : kept / 4194304 % 2 ≡ word / 4194304 % 2

keeps_fields : (word : ℕ) → KeepsFields word (bit_and word writable)
keeps_fields word = record {
  enable = kept_bit word 0 refl (omega arith);
  prescaler = three_same _ word (kept_bit word 3 refl (omega arith)) (kept_bit word 4 refl (omega arith)) (kept_bit word 5 refl (omega arith));
  baud = ten_same _ word
      (low_five_same _ word (kept_bit word 6 refl (omega arith)) (kept_bit word 7 refl (omega arith)) (kept_bit word 8 refl (omega arith))
      (kept_bit word 9 refl (omega arith)) (kept_bit word 10 refl (omega arith)))
      (high_five_same _ word (kept_bit word 11 refl (omega arith)) (kept_bit word 12 refl (omega arith)) (kept_bit word 13 refl (omega arith))
      (kept_bit word 14 refl (omega arith)) (kept_bit word 15 refl (omega arith)));
  interrupts = kept_bit word 22 refl (omega arith);
}

small_writable : (word : ℕ) → bit_and word writable < 2 ^ 23
small_writable word = let most : bit_and word writable ≤ 0x0040fff9 = and_le_r word 0x0040fff9 in omega (arith, most)

control_told : (s : SerialRegisters) (word : ℕ) → s.kept ≡ bit_and word writable → TellsControl s (serial_control s)
control_told s word e =
    tells_control s _ refl (subst (λ k. IsWritable k) (sym e) (writable_part word)) (subst (λ k. k < 2 ^ 23) (sym e) (small_writable word))

store_data : (kind : SerialKind) (s : SerialRegisters) (reg word : ℕ) (control entry : Bool) → serial_is_open s ≡ true → (reg == 0) ≡ control → kind.takes reg ≡ entry → reg ≢ 0
    → (serial_stored kind s reg word).kept ≡ s.kept
store_data kind s reg word true entry o p t other = absurd (other (same_as reg 0 p))
store_data kind s reg word false true o p t other = rw (o, p, t) refl
store_data kind s reg word false false o p t other = rw (o, p, t) refl

at_control : (kind : SerialKind) (s : SerialRegisters) (reg word : ℕ) → serial_is_open s ≡ true → reg ≡ 0 → (serial_stored kind s reg word).kept ≡ kind.kept word
at_control kind s reg word o r = rw (o, r) refl

sets_by : (s : SerialRegisters) (reg word : ℕ) → serial_is_open s ≡ true → SetsControl s reg word (serial_stored uart_kind s reg word)
sets_by s reg word o = record {
  enable = λ r. let e = at_control uart_kind s reg word o r in
      (control_told (serial_stored uart_kind s reg word) word e).enable ∙ ap (λ k. bit_at k 0) e ∙ (keeps_fields word).enable;
  prescaler = λ r. let e = at_control uart_kind s reg word o r in
      (control_told (serial_stored uart_kind s reg word) word e).prescaler ∙ ap (λ k. k / 2 ^ 3 % 2 ^ 3) e ∙ (keeps_fields word).prescaler;
  baud = λ r. let e = at_control uart_kind s reg word o r in
      (control_told (serial_stored uart_kind s reg word) word e).baud ∙ ap (λ k. k / 2 ^ 6 % 2 ^ 10) e ∙ (keeps_fields word).baud;
  interrupts = λ r. let e = at_control uart_kind s reg word o r in
      (control_told (serial_stored uart_kind s reg word) word e).interrupts ∙ ap (λ k. bit_at k 22) e ∙ (keeps_fields word).interrupts;
  elsewhere = λ other. store_data uart_kind s reg word _ _ o refl refl other;
}

-- what a store to an open front changes of CTRL
pub sets_control : (s : SerialRegisters) (reg word : ℕ) (new : SerialRegisters) → new ≡ serial_stored uart_kind s reg word → serial_is_open s ≡ true → SetsControl s reg word new
sets_control s reg word new e o = subst (λ n. SetsControl s reg word n) (sym e) (sets_by s reg word o)

-- the SPI unit's CTRL

-- the part of a word under a mask of writable bits has those alone
masked_part : (mask word : ℕ) → bit_and mask writable ≡ mask → IsWritable (bit_and word mask)
masked_part mask word within = same_from_bits (bit_and (bit_and word mask) writable) (bit_and word mask)
    (λ i. bit_at_and (bit_and word mask) writable i
    ∙ (ap (λ b. min b (bit_at writable i)) (bit_at_and word mask i) ∙ (under (bit_at word i) (bit_at mask i) (bit_at writable i) (sym (bit_at_and mask writable i) ∙ ap (λ w. bit_at w i) within)
    ∙ sym (bit_at_and word mask i))))
  where
    under : (a b c : ℕ) → min b c ≡ b → min (min a b) c ≡ min a b
    under a b c e = omega (arith, e)

pub spi_part : (word : ℕ) → IsWritable (spi_kept word)
spi_part word = masked_part 0x004003f9 word refl

pub spi_small : (word : ℕ) → spi_kept word < 2 ^ 23
spi_small word = let most : bit_and word 0x004003f9 ≤ 0x004003f9 = and_le_r word 0x004003f9 in omega (arith, most)

spi_bit : (word place : ℕ) → bit_at 0x004003f9 place ≡ 1 → bit_at word place ≤ 1 → bit_at (spi_kept word) place ≡ bit_at word place
spi_bit word place one low = masked_bit 0x004003f9 word place one low

spi_none : (word place : ℕ) → bit_at 0x004003f9 place ≡ 0 → bit_at (spi_kept word) place ≡ 0
spi_none word place zero_there = bit_at_and word 0x004003f9 place ∙ (ap (min (bit_at word place)) zero_there ∙ none (bit_at word place))
  where
    none : (a : ℕ) → min a 0 ≡ 0
    none a = omega arith

-- the fields that a store to the SPI unit's CTRL keeps
record KeepsSpiFields (word kept : ℕ) : Type 0 where
  enable : kept / 1 % 2 ≡ word / 1 % 2
  prescaler : kept / 8 % 8 ≡ word / 8 % 8
  divider : kept / 64 % 16 ≡ word / 64 % 16
  above_divider : kept / 1024 % 64 ≡ 0
  interrupts : kept / 4194304 % 2 ≡ word / 4194304 % 2

four_same : (a b : ℕ) → a / 64 % 2 ≡ b / 64 % 2 → a / 128 % 2 ≡ b / 128 % 2 → a / 256 % 2 ≡ b / 256 % 2 → a / 512 % 2 ≡ b / 512 % 2 → a / 64 % 16 ≡ b / 64 % 16
four_same a b p q r s = omega (arith, p, q, r, s)

six_none : (a : ℕ) → a / 1024 % 2 ≡ 0 → a / 2048 % 2 ≡ 0 → a / 4096 % 2 ≡ 0 → a / 8192 % 2 ≡ 0 → a / 16384 % 2 ≡ 0 → a / 32768 % 2 ≡ 0 → a / 1024 % 64 ≡ 0
six_none a p q r s t u = omega (arith, p, q, r, s, t, u)

keeps_spi : (word : ℕ) → KeepsSpiFields word (spi_kept word)
keeps_spi word = record {
  enable = spi_bit word 0 refl (omega arith);
  prescaler = three_same _ word (spi_bit word 3 refl (omega arith)) (spi_bit word 4 refl (omega arith)) (spi_bit word 5 refl (omega arith));
  divider = four_same _ word (spi_bit word 6 refl (omega arith)) (spi_bit word 7 refl (omega arith)) (spi_bit word 8 refl (omega arith)) (spi_bit word 9 refl (omega arith));
  above_divider = six_none _ (spi_none word 10 refl) (spi_none word 11 refl) (spi_none word 12 refl) (spi_none word 13 refl) (spi_none word 14 refl) (spi_none word 15 refl);
  interrupts = spi_bit word 22 refl (omega arith);
}

spi_told : (s : SerialRegisters) (word : ℕ) → s.kept ≡ spi_kept word → TellsControl s (serial_control s)
spi_told s word e =
    tells_control s _ refl (subst (λ k. IsWritable k) (sym e) (spi_part word)) (subst (λ k. k < 2 ^ 23) (sym e) (spi_small word))

lower_ten : (a b : ℕ) → a / 64 % 1024 ≡ b / 64 % 1024 → (a / 64 % 16 ≡ b / 64 % 16) × (a / 1024 % 64 ≡ b / 1024 % 64)
lower_ten a b e = (omega (arith, e), omega (arith, e))

sets_spi_by : (s : SerialRegisters) (reg word : ℕ) → serial_is_open s ≡ true → SetsSpiControl s reg word (serial_stored spi_kind s reg word)
sets_spi_by s reg word o = record {
  enable = λ r. let e = at_control spi_kind s reg word o r in
      (spi_told (serial_stored spi_kind s reg word) word e).enable ∙ ap (λ k. bit_at k 0) e ∙ (keeps_spi word).enable;
  prescaler = λ r. let e = at_control spi_kind s reg word o r in
      (spi_told (serial_stored spi_kind s reg word) word e).prescaler ∙ ap (λ k. k / 2 ^ 3 % 2 ^ 3) e ∙ (keeps_spi word).prescaler;
  divider = λ r. let e = at_control spi_kind s reg word o r in
      (lower_ten _ _ (spi_told (serial_stored spi_kind s reg word) word e).baud).0 ∙ ap (λ k. k / 2 ^ 6 % 2 ^ 4) e ∙ (keeps_spi word).divider;
  above_divider = λ r. let e = at_control spi_kind s reg word o r in
      (lower_ten _ _ (spi_told (serial_stored spi_kind s reg word) word e).baud).1 ∙ ap (λ k. k / 2 ^ 10 % 2 ^ 6) e ∙ (keeps_spi word).above_divider;
  interrupts = λ r. let e = at_control spi_kind s reg word o r in
      (spi_told (serial_stored spi_kind s reg word) word e).interrupts ∙ ap (λ k. bit_at k 22) e ∙ (keeps_spi word).interrupts;
  elsewhere = λ other. store_data spi_kind s reg word _ _ o refl refl other;
}

-- what a store to the SPI unit's open front changes of CTRL
pub sets_spi_control : (s : SerialRegisters) (reg word : ℕ) (new : SerialRegisters) → new ≡ serial_stored spi_kind s reg word → serial_is_open s ≡ true → SetsSpiControl s reg word new
sets_spi_control s reg word new e o = subst (λ n. SetsSpiControl s reg word n) (sym e) (sets_spi_by s reg word o)

-- the stream link's CTRL

pub slink_part : (word : ℕ) → IsWritable (slink_kept word)
slink_part word = masked_part 0x00400001 word refl

pub slink_small : (word : ℕ) → slink_kept word < 2 ^ 23
slink_small word = let most : bit_and word 0x00400001 ≤ 0x00400001 = and_le_r word 0x00400001 in omega (arith, most)

-- the fields that a store to the stream link's CTRL keeps
record KeepsSlinkFields (word kept : ℕ) : Type 0 where
  enable : kept / 1 % 2 ≡ word / 1 % 2
  above_enable : kept / 2 % 32768 ≡ 0
  interrupts : kept / 4194304 % 2 ≡ word / 4194304 % 2

keeps_slink : (word : ℕ) → KeepsSlinkFields word (slink_kept word)
keeps_slink word = record {
  enable = masked_bit 0x00400001 word 0 refl (omega arith);
  above_enable =
      let part : slink_kept word / 2 ^ 1 % 2 ^ 15 ≡ bit_and (word / 2 ^ 1 % 2 ^ 15) 0
      = ap (λ n. n % 2 ^ 15) (and_shr word 0x00400001 1) ∙ and_mod (word / 2 ^ 1) 0x200000 15 in
      let none : bit_and (word / 2 ^ 1 % 2 ^ 15) 0 ≡ word / 2 ^ 1 % 2 ^ 15 % 2 ^ 0 = and_mask (word / 2 ^ 1 % 2 ^ 15) 0 in
      omega (arith, part, none);
  interrupts = masked_bit 0x00400001 word 22 refl (omega arith);
}

-- no bit of prescaler or baud is kept
pub slink_no_rate : (word : ℕ) → HasNoRate (slink_kept word)
slink_no_rate word = (keeps_slink word).above_enable

slink_told : (s : SerialRegisters) (word : ℕ) → s.kept ≡ slink_kept word → TellsControl s (serial_control s)
slink_told s word e =
    tells_control s _ refl (subst (λ k. IsWritable k) (sym e) (slink_part word)) (subst (λ k. k < 2 ^ 23) (sym e) (slink_small word))

fifteen_none : (a b : ℕ) → a / 2 % 4 ≡ 0 → a / 8 % 8 ≡ b / 8 % 8 → a / 64 % 1024 ≡ b / 64 % 1024 → b / 2 % 32768 ≡ 0 → a / 2 % 32768 ≡ 0
fifteen_none a b p q r z =
    let three : b / 8 % 8 ≡ 0 = omega (arith, z) in
    let ten : b / 64 % 1024 ≡ 0 = omega (arith, z) in
    let low : a / 8 % 8 ≡ 0 = omega (arith, q, three) in
    let high : a / 64 % 1024 ≡ 0 = omega (arith, r, ten) in
    omega (arith, p, low, high)

sets_slink_by : (s : SerialRegisters) (reg word : ℕ) → serial_is_open s ≡ true → SetsSlinkControl s reg word (serial_stored slink_kind s reg word)
sets_slink_by s reg word o = record {
  enable = λ r. let e = at_control slink_kind s reg word o r in
      (slink_told (serial_stored slink_kind s reg word) word e).enable ∙ ap (λ k. bit_at k 0) e ∙ (keeps_slink word).enable;
  above_enable = λ r. let e = at_control slink_kind s reg word o r in
      let told = slink_told (serial_stored slink_kind s reg word) word e in
      fifteen_none _ _ told.below_prescaler told.prescaler told.baud (ap (λ k. k / 2 % 32768) e ∙ (keeps_slink word).above_enable);
  interrupts = λ r. let e = at_control slink_kind s reg word o r in
      (slink_told (serial_stored slink_kind s reg word) word e).interrupts ∙ ap (λ k. bit_at k 22) e ∙ (keeps_slink word).interrupts;
  elsewhere = λ other. store_data slink_kind s reg word _ _ o refl refl other;
}

-- what a store to the stream link's open front changes of CTRL
pub sets_slink_control : (s : SerialRegisters) (reg word : ℕ) (new : SerialRegisters) → new ≡ serial_stored slink_kind s reg word → serial_is_open s ≡ true → SetsSlinkControl s reg word new
sets_slink_control s reg word new e o = subst (λ n. SetsSlinkControl s reg word n) (sym e) (sets_slink_by s reg word o)

-- a store to CTRL of an open front keeps what its kind keeps
pub control_is_stored : (kind : SerialKind) (s : SerialRegisters) (reg word : ℕ) (new : SerialRegisters) → serial_is_open s ≡ true → reg ≡ 0
    → new ≡ serial_control_stored s (kind.kept word) → new ≡ serial_stored kind s reg word
control_is_stored kind s reg word new o r e =
    let stored : serial_stored kind s reg word ≡ serial_control_stored s (kind.kept word) = rw (o, r) refl in
    e ∙ sym stored
