-- A byte leaves an idle unit in the last cycle of its frame.
use Rattle.std.proofs.Common.{◌≡◌, ℕ, zero, suc, ◌+◌, ◌-◌, ◌*◌, ◌%◌, ◌<◌, true, false, eqb, [], ◌∷◌, Option, None, Some, refl, sym, ap, subst, ◌∙◌, arith, add-zero}
use Rattle.std.proofs.lemmas.Bool.Decides.{nat_tests}
use Rattle.chip_base.specs.declared.event.EventKind.TheVariants.{Tx}
use Rattle.chip_base.specs.declared.message.Down.{Down}
use Rattle.chip_base.specs.declared.message.Down.TheVariants.{Set}
use Rattle.uart_lane.specs.Receiver.{Receiver}
use Rattle.uart_lane.specs.State.{UartState}
use Rattle.chip_base.specs.Given.{Given, quiet}
use Rattle.chip_base.specs.Runs.{given_after, unit_after}
use Rattle.chip_base.proofs.Runs.{after_more, after_none}
use Rattle.uart_lane.specs.Cycle.{sent, received, uart_cycle}
use Rattle.uart_lane.specs.Frames.{BringsByte, IsIdle, LeavesInTime}

-- an idle unit
abbrev pub idle : ℕ → ℕ → Receiver → UartState
idle number bit r = record { number = number; enabled = true; bit = bit; fifo = []; left = 0; receiver = r }

-- the unit while the frame of a byte runs and no other byte waits
abbrev pub running : ℕ → ℕ → ℕ → ℕ → Receiver → UartState
running number bit byte left r = record { number = number; enabled = true; bit = bit; fifo = byte ∷ []; left = left; receiver = r }

-- what a cycle gives in which no byte leaves
abbrev pub waited : ℕ → ℕ → ℕ → ℕ → ℕ → Receiver → Given UartState
waited n b byte m now r = received (quiet (running n b byte m r)) now

pub not_equal : (a b : ℕ) → b < a → eqb a b ≡ false
not_equal a b h = grind (arith, nat_tests)

pub sent-long : (n b byte now m : ℕ) (r : Receiver) → 1 < m → sent (running n b byte m r) now ≡ quiet (running n b byte (m - 1) r)
sent-long n b byte now m r h =
    let e0 : eqb m 0 ≡ false = not_equal m 0 (omega arith) in
    let e1 : eqb m 1 ≡ false = not_equal m 1 h in
    rw (e0, e1) refl

pub first-cycle : (n b t word : ℕ) (r : Receiver) → 0 < b
    → uart_cycle (idle n b r) t (Some (Set 4 word)) ≡ waited n b (word % 256) (10 * b - 1) t r
unfolding uart_cycle
first-cycle n b t word r h = ap (λ g. received g t) (sent-long n b (word % 256) t (10 * b) r (omega arith))

pub next-cycle : (n b byte now m : ℕ) (r : Receiver) → 1 < m
    → uart_cycle (running n b byte m r) now None ≡ waited n b byte (m - 1) now r
unfolding uart_cycle
next-cycle n b byte now m r h =
    let e0 : eqb m 0 ≡ false = not_equal m 0 (omega arith) in
    rw e0 (ap (λ g. received g now) (sent-long n b byte now m r h))

pub last-cycle : (n b byte now : ℕ) (r : Receiver)
    → (uart_cycle (running n b byte 1 r) now None).event ≡ Some (record { cycle = now; unit = n; kind = Tx; value = byte })
unfolding uart_cycle
last-cycle n b byte now r = refl

-- the frame runs, whatever was received
pub before-is : (n b t word k : ℕ) (r : Receiver) (downs : ℕ → Option Down) → 0 < b → BringsByte (10 * b) t word downs → k + 1 < 10 * b
    → (q : Receiver) × (unit_after uart_cycle (idle n b r) t downs (suc k) ≡ running n b (word % 256) (10 * b - (k + 1)) q)
before-is n b t word zero r downs p m h = (
  (waited n b (word % 256) (10 * b - 1) (t + 0) r).unit.receiver,
  after_more uart_cycle (idle n b r) t downs 0
      ∙ ap (λ s. (uart_cycle s (t + 0) (downs (t + 0))).unit) (after_none uart_cycle (idle n b r) t downs)
      ∙ ap (λ d. (uart_cycle (idle n b r) (t + 0) d).unit) (ap downs (add-zero t) ∙ m.first)
      ∙ ap (λ g. g.unit) (first-cycle n b (t + 0) word r p),
)
before-is n b t word (suc k) r downs p m h =
    let q : (q : Receiver) × (unit_after uart_cycle (idle n b r) t downs (suc k) ≡ running n b (word % 256) (10 * b - (k + 1)) q)
    = before-is n b t word k r downs p m (omega (arith, h)) in (
      (waited n b (word % 256) (10 * b - (k + 1) - 1) (t + suc k) q.0).unit.receiver,
      after_more uart_cycle (idle n b r) t downs (suc k)
          ∙ ap (λ s. (uart_cycle s (t + suc k) (downs (t + suc k))).unit) q.1
          ∙ ap (λ d. (uart_cycle (running n b (word % 256) (10 * b - (k + 1)) q.0) (t + suc k) d).unit) (m.none_later k (omega (arith, h)))
          ∙ ap (λ g. g.unit) (next-cycle n b (word % 256) (t + suc k) (10 * b - (k + 1)) q.0 (omega (arith, h)))
          ∙ ap (λ m. running n b (word % 256) m (waited n b (word % 256) (10 * b - (k + 1) - 1) (t + suc k) q.0).unit.receiver) (omega arith),
    )

pub quiet-before : (n b t word k : ℕ) (r : Receiver) (downs : ℕ → Option Down) → 0 < b → BringsByte (10 * b) t word downs → k + 1 < 10 * b
    → (given_after uart_cycle (idle n b r) t downs k).event ≡ None
quiet-before n b t word zero r downs p m h =
    ap (λ s. (uart_cycle s (t + 0) (downs (t + 0))).event) (after_none uart_cycle (idle n b r) t downs)
    ∙ ap (λ d. (uart_cycle (idle n b r) (t + 0) d).event) (ap downs (add-zero t) ∙ m.first)
    ∙ ap (λ g. g.event) (first-cycle n b (t + 0) word r p)
quiet-before n b t word (suc k) r downs p m h =
    let q : (q : Receiver) × (unit_after uart_cycle (idle n b r) t downs (suc k) ≡ running n b (word % 256) (10 * b - (k + 1)) q)
    = before-is n b t word k r downs p m (omega (arith, h)) in
    ap (λ s. (uart_cycle s (t + suc k) (downs (t + suc k))).event) q.1
    ∙ ap (λ d. (uart_cycle (running n b (word % 256) (10 * b - (k + 1)) q.0) (t + suc k) d).event) (m.none_later k (omega (arith, h)))
    ∙ ap (λ g. g.event) (next-cycle n b (word % 256) (t + suc k) (10 * b - (k + 1)) q.0 (omega (arith, h)))

pub sent-at : (n b t word k : ℕ) (r : Receiver) (downs : ℕ → Option Down) → 0 < b → BringsByte (10 * b) t word downs → k + 1 ≡ 10 * b
    → (given_after uart_cycle (idle n b r) t downs k).event ≡ Some (record { cycle = t + k; unit = n; kind = Tx; value = word % 256 })
sent-at n b t word zero r downs p m h = absurd (omega (arith, p, h))
sent-at n b t word (suc k) r downs p m h =
    let q : (q : Receiver) × (unit_after uart_cycle (idle n b r) t downs (suc k) ≡ running n b (word % 256) (10 * b - (k + 1)) q)
    = before-is n b t word k r downs p m (omega (arith, h)) in
    ap (λ s. (uart_cycle s (t + suc k) (downs (t + suc k))).event) (q.1 ∙ ap (λ m. running n b (word % 256) m q.0) (omega (arith, h)))
    ∙ ap (λ d. (uart_cycle (running n b (word % 256) 1 q.0) (t + suc k) d).event) (m.none_later k (omega (arith, h)))
    ∙ last-cycle n b (word % 256) (t + suc k) q.0

pub idle-is : (s : UartState) → IsIdle s → s ≡ idle s.number s.bit s.receiver
idle-is s i = rw (sym i.enabled, sym i.no_byte, sym i.no_frame) refl

-- a byte that an idle unit is given leaves in the last cycle of its frame
pub leaves_in_time : (s : UartState) (frame : ℕ) → frame ≡ 10 * s.bit → 0 < s.bit → IsIdle s → (t word : ℕ) (downs : ℕ → Option Down)
    → BringsByte frame t word downs → LeavesInTime s frame t word downs
leaves_in_time s frame e p i t word downs m =
    let n : BringsByte (10 * s.bit) t word downs = subst (λ f. BringsByte f t word downs) e m in record {
      before = λ k h. ap (λ u. (given_after uart_cycle u t downs k).event) (idle-is s i)
          ∙ quiet-before s.number s.bit t word k s.receiver downs p n (omega (arith, e, h));
      at = ap (λ u. (given_after uart_cycle u t downs (frame - 1)).event) (idle-is s i)
          ∙ sent-at s.number s.bit t word (frame - 1) s.receiver downs p n (omega (arith, e, p));
    }
