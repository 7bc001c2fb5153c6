-- A cycle in which the hub is reset, a cycle after core 0 left the monitor, and the state at power-on: in every state what holds goes on.
use Rattle.std.proofs.Common.{◌≡◌, inl, inr, ℕ, zero, suc, ◌==◌, Bool, true, false, List, if◌then◌else◌, Option, None, Some, refl, sym, ap, ◌∙◌, arith, subst}
use Rattle.std.proofs.lemmas.Bool.Decides.{nat_tests}
use Rattle.std.specs.Prelude.{is_none}
use Rattle.boot_gate.specs.Gate.{Gate}
use Rattle.boot_gate.specs.Replies as replies
use Rattle.chip_base.specs.Messages.{fire_in}
use Rattle.chip_base.specs.Settings.{Values}
use Rattle.chip_base.specs.UnitTable.{link_place}
use Rattle.chip_base.specs.declared.boot.Boot.TheVariants.{Monitor as AtBoot}
use Rattle.chip_base.specs.declared.chip_unit.ChipUnit.TheVariants.{Spi, Wdt}
use Rattle.chip_base.specs.declared.message.Down.TheVariants.{Reset}
use Rattle.chip_base.specs.declared.message.Up.{Up}
use Rattle.chip_base.specs.declared.script.Script.{Script}
use Rattle.chip_hub.specs.Cycle.{arrived, fires, hub_cycle, hub_worked, reset_by}
use Rattle.chip_hub.specs.Seat.{Seat}
use Rattle.chip_hub.specs.Start.{first_core, hub_start, seat_start}
use Rattle.chip_hub.specs.State.{HubStep}
use Rattle.chip_whole.specs.Chip.{Board, ChipState, after, arrivals, delay_of, start, stepped, tick}
use Rattle.core_pair.specs.declared.phase.Phase.TheVariants.{Monitor}
use Rattle.delay_line.specs.Queue.{empty_link}
use Rattle.flash_seen.specs.Seen.{seen}
use Rattle.monitor_paths.proofs.Cycles.{starts_fresh}
use Rattle.monitor_paths.proofs.Stays.{stays_always}
use Rattle.monitor_paths.proofs.Watched.{starts_asleep, stays_watched}
use Rattle.monitor_paths.specs.Always.{Always}
use Rattle.monitor_paths.specs.FlashPath.{Closes, after_touch, path_start}
use Rattle.monitor_paths.specs.Laws.{IsFresh}
use Rattle.monitor_paths.specs.Watched.{IsAsleep}
use Rattle.soc_bus.proofs.Bytes.{length_zeros}
use Rattle.soc_bus.specs.Memory.{zeros}
use Rattle.soc_words.specs.Link.{link_first}
use Rattle.spi_flash.specs.Flash.{flash_start}
use Rattle.unit_fronts.specs.Owed.{is_open_at, one_more}
use Rattle.unit_fronts.specs.SerialRegisters.{serial_is_open}
use Rattle.chip_gate.specs.Base.{base, based, kept_over}
use Rattle.chip_gate.specs.Gated.{IsAtGate, path_in, watchdog_in}
use Rattle.chip_gate.specs.Seated.{is_monitor}
use Rattle.chip_gate.proofs.Bytes.{CarriesBytes, start_bytes, stays_bytes}
use Rattle.chip_gate.proofs.Outside.{StaysOut, cycle_out}
use Rattle.chip_gate.proofs.Reached.{never}
use Rattle.chip_gate.proofs.Steps.{Fits, Goes, Keeps, base_none, holds_on, path_by, worked_on}
use Rattle.chip_gate.proofs.Ticks.{AfterMonitor, cycle_in, is_monitor_phase}

-- a front that was closed waits for an answer
owes : (owed : ℕ) → is_open_at (one_more owed) ≡ false
owes owed = grind (arith, nat_tests)

fires_once : (up : Option Up) → (fire_in up == 1) ≡ true → fire_in up ≡ 1
fires_once up e = grind (arith, nat_tests)

fires_never : (up : Option Up) → (fire_in up == 1) ≡ false → fire_in up ≡ 0
fires_never None e = refl
fires_never (Some up) e = by up.fire e
  where
    by : (b : Bool) → (if◌then◌else◌ {A = ℕ} b 1 0 == 1) ≡ false → if◌then◌else◌ {A = ℕ} b 1 0 ≡ 0
    by true e = let bad : ⊥ = cc in elim bad [ ]
    by false e = refl

monitor_first : (seat : Seat) → seat.boot ≡ AtBoot → (first_core seat.boot).phase ≡ Monitor
monitor_first seat e = ap (λ boot. (first_core boot).phase) e

-- the chip after a cycle in which it is
abbrev reset_on : Board → ChipState → ChipState
reset_on board c = stepped board c (reset_by c.hub c.seat (arrivals c))

-- a Fire arrives
fire_goes : (v : Values) (board : Board) (old : Option (Option (List ℕ))) (c : ChipState) → fires (arrivals c) ≡ true → Keeps v old c
    → Goes v (based None (reset_on board c)) c (reset_on board c)
fire_goes v board old c e k =
    let h : HubStep = reset_by c.hub c.seat (arrivals c) in
    let n : ChipState = stepped board c h in
    let once : fire_in (link_first c.units.wdt.up) ≡ 1 = fires_once (link_first c.units.wdt.up) e in
    let p : path_in n ≡ after_touch (path_in c) c.cycle Closes = path_by board c h Closes refl refl in
    let shut : serial_is_open n.hub.fronts.spi ≡ false = owes (arrived c.hub (arrivals c)).fronts.spi.owed in
    let here : n.hub.core0.phase ≡ Monitor = monitor_first c.seat k.holds.boot in
    record {
      keeps = record {
        holds = record {
          boot = k.holds.boot;
          room = k.holds.room;
          clock = k.holds.clock;
          imem = k.holds.imem;
          dmem = k.holds.dmem;
          always = subst Always (sym p) (stays_always (path_in c) c.cycle Closes k.holds.always);
          bytes = subst CarriesBytes (sym p) (stays_bytes (path_in c) c.cycle Closes k.holds.bytes);
          watched = (stays_watched (watchdog_in c)).always c.cycle (Some Reset) (sym once) k.holds.watched;
        };
        there = λ there. record {
          parked = refl;
          still = refl;
          idle = refl;
          told = tt;
          none_yet = refl;
          before = c.hub.memory.imem;
          long = k.holds.imem ∙ sym k.holds.room;
          stored = refl;
          flash = inr (record { shut = shut; none = base_none None n refl shut; waits = refl; nothing = λ first. refl; given = λ first. tt });
          rests = (stays_watched (watchdog_in c)).fire c.cycle once k.holds.watched;
        };
        left = λ gone. elim (never (sym gone ∙ ap is_monitor here)) [ ];
      };
      hands = λ there gone. elim (never (sym gone ∙ ap is_monitor here)) [ ];
    }

-- none arrives: core 0 is out of the monitor, or in it

-- the bytes that the monitor in a seat took
abbrev taken_by : Seat → List ℕ
taken_by seat = replies.taken seat.room seat.ctrl seat.replies

gate_stays : (v : Values) (board : Board) (old : Option (Option (List ℕ))) (c n : ChipState) → n.seat ≡ c.seat → IsAtGate v old c → IsAtGate v (based old n) n
gate_stays v board old c n same g = record {
  payload = g.payload;
  gate = record {
    flash = g.gate.flash;
    since = ap (λ b. based b n) g.gate.since;
    gate = subst (λ (q : Seat). Gate v.imem g.gate.flash (taken_by q) g.payload) (sym same) g.gate.gate;
  };
}

out_goes : (v : Values) (board : Board) (old : Option (Option (List ℕ))) (c : ChipState) → fire_in (link_first c.units.wdt.up) ≡ 0
    → is_monitor c.hub.core0.phase ≡ false → Keeps v old c → Goes v (based old (worked_on board c)) c (worked_on board c)
out_goes v board old c quiet gone k =
    let n : ChipState = worked_on board c in
    let out : StaysOut c.seat (hub_worked c.hub c.seat c.cycle (arrivals c)) = cycle_out c.hub c.seat c.cycle (arrivals c) gone in
    record {
      keeps = record {
        holds = holds_on v board c quiet k.holds;
        there = λ back. elim (never (sym out.phase ∙ back)) [ ];
        left = λ still. record {
          gate = gate_stays v board old c n out.seat (k.left gone).gate;
          handed = ap (λ (q : Seat). is_none q.handed) out.seat ∙ (k.left gone).handed;
        };
      };
      hands = λ there _. elim (never (sym gone ∙ there)) [ ];
    }

in_goes : (v : Values) (board : Board) (old : Option (Option (List ℕ))) (c : ChipState) → Fits v → fire_in (link_first c.units.wdt.up) ≡ 0
    → is_monitor c.hub.core0.phase ≡ true → Keeps v old c → Goes v (based old (worked_on board c)) c (worked_on board c)
in_goes v board old c fits quiet there k =
    let a : AfterMonitor v (based old (worked_on board c)) (worked_on board c)
    = cycle_in v board old c fits k.holds (k.there there) (is_monitor_phase c.hub.core0.phase there) in
    record {
      keeps = record { holds = holds_on v board c quiet k.holds; there = a.there; left = a.left };
      hands = λ was gone. a.hands gone;
    }

worked_goes : (v : Values) (board : Board) (old : Option (Option (List ℕ))) (c : ChipState) → Fits v → fire_in (link_first c.units.wdt.up) ≡ 0 → Keeps v old c
    → (b : Bool) → is_monitor c.hub.core0.phase ≡ b
    → Goes v (based old (worked_on board c)) c (worked_on board c)
worked_goes v board old c fits quiet k true there = in_goes v board old c fits quiet there k
worked_goes v board old c fits quiet k false gone = out_goes v board old c quiet gone k

-- by whether a Fire arrives
abbrev GoesFrom : Values → Board → Option (Option (List ℕ)) → ChipState → Bool → Type 0
GoesFrom v board old c fired =
    let h : HubStep = if fired then reset_by c.hub c.seat (arrivals c) else hub_worked c.hub c.seat c.cycle (arrivals c) in
    Goes v (based (if fired then None else old) (stepped board c h)) c (stepped board c h)

by_fire : (v : Values) (board : Board) (old : Option (Option (List ℕ))) (c : ChipState) → Fits v → Keeps v old c → (b : Bool) → fires (arrivals c) ≡ b
    → GoesFrom v board old c b
by_fire v board old c fits k true e = fire_goes v board old c e k
by_fire v board old c fits k false e = worked_goes v board old c fits (fires_never (link_first c.units.wdt.up) e) k _ refl

-- each cycle keeps what holds
pub tick_goes : (v : Values) (board : Board) (old : Option (Option (List ℕ))) (c : ChipState) → Fits v → Keeps v old c
    → Goes v (based (kept_over c old) (tick board c)) c (tick board c)
unfolding tick hub_cycle
tick_goes v board old c fits k = by_fire v board old c fits k (fires (arrivals c)) refl

-- at power-on

pub start_keeps : (v : Values) (image : List ℕ) (script : Script) → Fits v → Keeps v (based None (start v AtBoot image script)) (start v AtBoot image script)
unfolding start hub_start seat_start empty_link
start_keeps v image script fits =
    let c : ChipState = start v AtBoot image script in
    let spi : IsFresh v.flash (path_start v.flash (delay_of v (link_place Spi)) (delay_of v (link_place Spi)))
    = starts_fresh v.flash (delay_of v (link_place Spi)) (delay_of v (link_place Spi)) fits.spi.one fits.spi.most fits.spi.one fits.spi.most in
    let wdt : IsAsleep (watchdog_in c) = starts_asleep (delay_of v (link_place Wdt)) (delay_of v (link_place Wdt)) fits.wdt.one fits.wdt.one in
    record {
      holds = record {
        boot = refl;
        room = refl;
        clock = refl;
        imem = length_zeros v.imem;
        dmem = length_zeros v.dmem;
        always = spi.always;
        bytes = start_bytes v.flash (delay_of v (link_place Spi)) (delay_of v (link_place Spi));
        watched = wdt.always;
      };
      there = λ there. record {
        parked = refl;
        still = refl;
        idle = refl;
        told = tt;
        none_yet = refl;
        before = zeros v.imem;
        long = length_zeros v.imem;
        stored = refl;
        flash = inl (record { first = seen (flash_start v.flash); away = refl; since = refl; given = tt; opened = spi.opened });
        rests = wdt.monitor;
      };
      left = λ gone. (let bad : ⊥ = cc in elim bad [ ]);
    }

-- in every state
pub after_keeps : (v : Values) (board : Board) (image : List ℕ) (script : Script) (k : ℕ) → Fits v
    → Keeps v (base board (start v AtBoot image script) k) (after board (start v AtBoot image script) k)
unfolding after base
after_keeps v board image script zero fits = start_keeps v image script fits
after_keeps v board image script (suc k) fits =
    (tick_goes v board (base board (start v AtBoot image script) k) (after board (start v AtBoot image script) k) fits (after_keeps v board image script k fits)).keeps
