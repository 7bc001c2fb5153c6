-- What the code keeps of core 0's seat goes on standing for it.
use Rattle.std.proofs.Common.{◌≡◌, ℕ, ◌-◌, [], ◌∷◌, true, false, Bool, Some, None, refl, sym, ap, ◌∙◌, arith}
use Rattle.std.proofs.lemmas.Bool.Decides.{nat_tests}
use Rattle.std.specs.Prelude.{◌==◌, ◌&&◌, if◌then◌else◌}
use Rattle.boot_monitor.specs.Actions.{next}
use Rattle.boot_monitor.specs.Standing.{Stands}
use Rattle.boot_monitor.specs.declared.exchange.MonitorOut.{MonitorOut}
use Rattle.boot_monitor.specs.declared.exchange.MonitorOut.TheVariants.{Bus, HandOver}
use Rattle.boot_monitor.specs.declared.phases.MonitorState.{MonitorState}
use Rattle.chip_base.specs.Settings.{Values}
use Rattle.chip_base.specs.declared.boot.Boot.{Boot}
use Rattle.soc_bus.specs.declared.access.Request.{Request}
use Rattle.chip_hub.specs.Kept.{SeatKept, SeatStands}
use Rattle.chip_hub.specs.Seat.{Seat, asked, hands_over, is_hand_over, request_in, seat_answered, seat_begun, seat_reset, seat_turned, standing}
use Rattle.chip_hub.specs.Start.{first_ctrl, seat_start}

-- once the monitor was started
pub stands_begun : (boot : Boot) (room ctrl : ℕ) (monitor : MonitorState) (asks : MonitorOut) → Stands monitor room ctrl (Some []) → asks ≡ next room ctrl []
    → SeatStands (record { boot = boot; room = room; ctrl = ctrl; monitor = monitor; asks = asks; handed = None; pause = 1 }) (seat_begun boot room ctrl)
unfolding asked
stands_begun boot room ctrl monitor asks m a = record { boot = refl; room = refl; ctrl = refl; monitor = m; asks = a; handed = refl; pause = refl }

-- at power-on
pub stands_start : (v : Values) (boot : Boot) (k : SeatKept) → SeatStands k (seat_begun boot v.imem (first_ctrl v)) → SeatStands k (seat_start v boot)
unfolding seat_start
stands_start v boot k h = h

-- after a reset
pub stands_reset : (k new : SeatKept) (seat : Seat) → SeatStands k seat → SeatStands new (seat_begun k.boot k.room k.ctrl) → SeatStands new (seat_reset seat)
stands_reset k new seat h s = rw (h.boot, h.room, h.ctrl) at s

-- where it doesn't hand over it asks for an access
pub asks_for : (out : MonitorOut) → is_hand_over out ≡ false → (request : Request) × (out ≡ Bus request)
asks_for (Bus request) e = (request, refl)
asks_for HandOver e = absurd (cc)

-- the test of whether it hands over, by what is kept
and_true : (b : Bool) → b ≡ (b && true)
and_true true = refl
and_true false = refl

and_false : (b : Bool) → false ≡ (b && false)
and_false true = refl
and_false false = refl

pub leaves : (k : SeatKept) (seat : Seat) → SeatStands k seat → k.asks ≡ HandOver → (k.pause == 1) ≡ hands_over seat
leaves k seat h e = and_true (k.pause == 1) ∙ ap (λ n. n == 1 && true) h.pause ∙ ap (λ out. seat.pause == 1 && is_hand_over out) (sym e ∙ h.asks)

pub stays : (k : SeatKept) (seat : Seat) → SeatStands k seat → (request : Request) → k.asks ≡ Bus request → false ≡ hands_over seat
stays k seat h request e = and_false (seat.pause == 1) ∙ ap (λ out. seat.pause == 1 && is_hand_over out) (sym e ∙ h.asks)

-- its request stands once the pause is over, and none does where it hands over
asking : (n : ℕ) (out : MonitorOut) (request : Request) → n ≡ 0 → out ≡ Bus request → Some request ≡ (if n == 0 then request_in out else None)
asking n out request p e = rw (p, e) refl

not_zero : (n : ℕ) → (n ≡ 0 → ⊥) → (n == 0) ≡ false
not_zero n h = grind (arith, nat_tests)

pausing : (n : ℕ) (out : MonitorOut) → (n ≡ 0 → ⊥) → None ≡ (if n == 0 then request_in out else None)
pausing n out h = rw (not_zero n h) refl

pub stands_asking : (k : SeatKept) (seat : Seat) → SeatStands k seat → (request : Request) → k.asks ≡ Bus request → k.pause ≡ 0 → Some request ≡ standing seat
stands_asking k seat h request e p = asking seat.pause (asked seat) request (sym h.pause ∙ p) (sym h.asks ∙ e)

pub stands_pausing : (k : SeatKept) (seat : Seat) → SeatStands k seat → (k.pause ≡ 0 → ⊥) → None ≡ standing seat
stands_pausing k seat h p = pausing seat.pause (asked seat) (λ e. p (h.pause ∙ e))

none_either : (b : Bool) → None ≡ (if b then request_in HandOver else None)
none_either true = refl
none_either false = refl

pub stands_silent : (k : SeatKept) (seat : Seat) → SeatStands k seat → k.asks ≡ HandOver → None ≡ standing seat
stands_silent k seat h e = none_either (seat.pause == 0) ∙ ap (λ out. if seat.pause == 0 then request_in out else None) (sym e ∙ h.asks)

-- the monitor's turn: it hands over, or it doesn't
pub stands_leaving : (k : SeatKept) (seat : Seat) (now pause : ℕ) → SeatStands k seat → pause ≡ k.pause - 1 → hands_over seat ≡ true
    → SeatStands (record k { handed = Some now; pause = pause }) (seat_turned seat now)
unfolding asked
stands_leaving k seat now pause h p e =
    record { boot = h.boot; room = h.room; ctrl = h.ctrl; monitor = h.monitor; asks = h.asks; handed = rw e refl; pause = p ∙ ap (λ n. n - 1) h.pause }

pub stands_staying : (k : SeatKept) (seat : Seat) (now pause : ℕ) → SeatStands k seat → pause ≡ k.pause - 1 → hands_over seat ≡ false
    → SeatStands (record k { pause = pause }) (seat_turned seat now)
unfolding asked
stands_staying k seat now pause h p e =
    record { boot = h.boot; room = h.room; ctrl = h.ctrl; monitor = h.monitor; asks = h.asks; handed = rw e h.handed; pause = p ∙ ap (λ n. n - 1) h.pause }

-- the monitor is answered
pub stands_answered : (k : SeatKept) (seat : Seat) (reply : ℕ) (monitor : MonitorState) (asks : MonitorOut) → SeatStands k seat
    → Stands monitor seat.room seat.ctrl (Some (reply ∷ seat.replies)) → asks ≡ next seat.room seat.ctrl (reply ∷ seat.replies)
    → SeatStands (record k { monitor = monitor; asks = asks; pause = 8 }) (seat_answered seat reply)
unfolding asked
stands_answered k seat reply monitor asks h m a = record { boot = h.boot; room = h.room; ctrl = h.ctrl; monitor = m; asks = a; handed = h.handed; pause = refl }
