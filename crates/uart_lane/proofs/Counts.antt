-- What a cycle does to the number of bytes in the unit.
use Rattle.std.proofs.Common.{◌≡◌, ◌≤◌, ◌<◌, ℕ, ◌+◌, ◌%◌, Bool, true, false, eqb, ltb, List, [], ◌∷◌, length, Option, None, Some, refl, sym, ap, subst, cond, ◌∙◌, arith, length-append}
use Rattle.std.proofs.lemmas.Bool.Decides.{nat_tests}
use Rattle.chip_base.specs.declared.message.Down.{Down}
use Rattle.chip_base.specs.declared.message.Down.TheVariants.{Reset, Set}
use Rattle.chip_base.specs.declared.message.Up.{Up}
use Rattle.chip_base.specs.Messages.{data_in, credit_in, done_in}
use Rattle.uart_lane.specs.State.{UartState}
use Rattle.chip_base.specs.Given.{Given}
use Rattle.uart_lane.specs.Cycle.{queued, set_in, may_begin, begun, frame_sent, sent, heard_by, received, with_byte, uart_cycle}
use Rattle.uart_lane.specs.Counts.{KeepsCount}

-- the bytes in the unit and the credit that goes up
abbrev pub counted : Given UartState → ℕ
counted g = length g.unit.fifo + credit_in g.up

frame_sent-count : (s : UartState) (now : ℕ) (fifo : List ℕ) → fifo ≡ s.fifo → counted (frame_sent s now fifo) ≡ length fifo
frame_sent-count s now [] e = let l : length s.fifo ≡ 0 = ap length (sym e) in omega arith
frame_sent-count s now (b ∷ rest) e = omega arith

sent-count_by : (s : UartState) (now : ℕ) (a b : Bool) → eqb s.left 0 ≡ a → eqb s.left 1 ≡ b → counted (sent s now) ≡ length s.fifo
sent-count_by s now true b p q = rw p (omega arith)
sent-count_by s now false true p q = rw (p, q) (frame_sent-count s now s.fifo refl)
sent-count_by s now false false p q = rw (p, q) (omega arith)

pub sent-count : (s : UartState) (now : ℕ) → counted (sent s now) ≡ length s.fifo
sent-count s now = sent-count_by s now _ _ refl refl

begun-fifo_by : (s : UartState) (b : Bool) → may_begin s ≡ b → (begun s).fifo ≡ s.fifo
begun-fifo_by s true h = rw h refl
begun-fifo_by s false h = rw h refl

pub begun-fifo : (s : UartState) → (begun s).fifo ≡ s.fifo
begun-fifo s = begun-fifo_by s _ refl

pub is_less : (a b : ℕ) → a < b → ltb a b ≡ true
is_less a b h = grind (arith, nat_tests)

queued-count : (s : UartState) (byte : ℕ) → length s.fifo < 16 → length (queued s byte).fifo ≡ length s.fifo + 1
queued-count s byte h = rw (is_less (length s.fifo) 16 h) (length-append s.fifo (byte ∷ []))

pub not_four : (reg : ℕ) → eqb reg 0 ≡ true → eqb reg 4 ≡ false
not_four reg h = grind (arith, nat_tests)

set-count_by : (s : UartState) (reg word : ℕ) (a b : Bool) → eqb reg 0 ≡ a → eqb reg 4 ≡ b → length s.fifo + data_in (Some (Set reg word)) ≤ 16
    → length (set_in s reg word).fifo ≡ length s.fifo + data_in (Some (Set reg word))
set-count_by s reg word true b p q h = rw (p, not_four reg p) (omega arith)
set-count_by s reg word false true p q h =
    let room : length s.fifo + 1 ≤ 16 = subst (λ b. length s.fifo + cond b 1 0 ≤ 16) q h in
    rw (p, q) (queued-count s (word % 256) (omega arith))
set-count_by s reg word false false p q h = rw (p, q) (omega arith)

pub set-count : (s : UartState) (reg word : ℕ) → length s.fifo + data_in (Some (Set reg word)) ≤ 16
    → length (set_in s reg word).fifo ≡ length s.fifo + data_in (Some (Set reg word))
set-count s reg word h = set-count_by s reg word _ _ refl refl h

sent-done_in : (s : UartState) (now : ℕ) (fifo : List ℕ) → done_in (frame_sent s now fifo).up ≡ 0
sent-done_in s now [] = refl
sent-done_in s now (b ∷ rest) = refl

sent-done_by : (s : UartState) (now : ℕ) (a b : Bool) → eqb s.left 0 ≡ a → eqb s.left 1 ≡ b → done_in (sent s now).up ≡ 0
sent-done_by s now true b p q = rw p refl
sent-done_by s now false true p q = rw (p, q) (sent-done_in s now s.fifo)
sent-done_by s now false false p q = rw (p, q) refl

pub sent-done : (s : UartState) (now : ℕ) → done_in (sent s now).up ≡ 0
sent-done s now = sent-done_by s now _ _ refl refl

-- a received byte changes neither credit nor answer
pub same-credit : (up : Option Up) (byte : Option ℕ) → credit_in (with_byte up byte) ≡ credit_in up
same-credit None None = refl
same-credit None (Some b) = refl
same-credit (Some up) None = refl
same-credit (Some up) (Some b) = refl

pub same-done : (up : Option Up) (byte : Option ℕ) → done_in (with_byte up byte) ≡ done_in up
same-done None None = refl
same-done None (Some b) = refl
same-done (Some up) None = refl
same-done (Some up) (Some b) = refl

-- nor does the receiver change what is counted
pub received-count : (g : Given UartState) (now : ℕ) → counted (received g now) ≡ counted g
received-count g now = ap (λ n. length g.unit.fifo + n) (same-credit g.up (heard_by g now).byte)

pub received-done : (g : Given UartState) (now : ℕ) → done_in (received g now).up ≡ done_in g.up
received-done g now = same-done g.up (heard_by g now).byte

-- the transmitter and the receiver together
worked-count : (s : UartState) (now : ℕ) → counted (received (sent (begun s) now) now) ≡ length s.fifo
worked-count s now = received-count (sent (begun s) now) now ∙ sent-count (begun s) now ∙ ap length (begun-fifo s)

worked-done : (s : UartState) (now : ℕ) → done_in (received (sent (begun s) now) now).up ≡ 0
worked-done s now = received-done (sent (begun s) now) now ∙ sent-done (begun s) now

pub keeps_count : (s : UartState) (now : ℕ) (down : Option Down) → KeepsCount s down (uart_cycle s now down).unit (uart_cycle s now down).up
unfolding uart_cycle
keeps_count s now None = record {
  entries = λ r h. worked-count s now ∙ omega arith;
  after_reset = λ r. absurd (omega arith);
  answers = worked-done s now;
}
keeps_count s now (Some Reset) = record {
  entries = λ r h. absurd (omega arith);
  after_reset = λ r. refl;
  answers = refl;
}
keeps_count s now (Some (Set reg word)) = record {
  entries = λ r h. worked-count (set_in s reg word) now ∙ set-count s reg word h;
  after_reset = λ r. absurd (omega arith);
  answers = worked-done (set_in s reg word) now;
}

-- what a cycle does, where the unit after it and its message are known by equations
pub counts_kept : (s : UartState) (now : ℕ) (down : Option Down) (new : UartState) (up : Option Up)
    → new ≡ (uart_cycle s now down).unit → up ≡ (uart_cycle s now down).up → KeepsCount s down new up
counts_kept s now down new up e u = rw (e, u) (keeps_count s now down)
