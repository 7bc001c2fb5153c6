-- The gate in every state of a chip.
use Rattle.std.proofs.Common.{◌≡◌, ◌⊎◌, inl, inr, ◌≤◌, ◌<◌, ℕ, zero, suc, ◌==◌, Bool, true, false, List, [], ◌∷◌, length, get_or, Option, None, Some, if◌then◌else◌, refl, sym, ap, ◌∙◌, arith, subst}
use Rattle.std.specs.Prelude.{◌&&◌, is_none, is_some, nat_le}
use Rattle.std.specs.Option.{unwrap_or}
use Rattle.std.specs.List.{list_all}
use Rattle.std.proofs.lemmas.Bool.Decides.{nat_tests}
use Rattle.boot_gate.specs.Gate.{Gate, flash_of, held, said}
use Rattle.boot_gate.specs.Laws.{AwaitsCommand, BeginsWith, HasBytes, IsGated, IsGoing, IsHeld, IsQuiet}
use Rattle.boot_gate.specs.Items.{IsSplit}
use Rattle.boot_gate.specs.Replies.{base_of}
use Rattle.boot_monitor.specs.Actions.{Action, ActionState, Await, asking, load, spi_data, spi_select, store, uart_ctrl}
use Rattle.boot_monitor.specs.declared.exchange.MonitorOut.{MonitorOut}
use Rattle.boot_monitor.specs.declared.exchange.MonitorOut.TheVariants.{Bus, HandOver}
use Rattle.chip_base.specs.Ranges.{is_delay}
use Rattle.chip_base.specs.Settings.{Values, values_of}
use Rattle.chip_base.specs.declared.boot.Boot.TheVariants.{Monitor}
use Rattle.chip_base.specs.declared.script.Script.{Script}
use Rattle.chip_base.specs.declared.setup.Setup.{Setup}
use Rattle.chip_hub.specs.Access.{accessed}
use Rattle.chip_hub.specs.Seat.{Seat, asked}
use Rattle.chip_hub.specs.State.{HubState}
use Rattle.chip_hub.specs.Views.{boot_view, monitor_view, view_by}
use Rattle.chip_whole.specs.Chip.{Board, ChipState, after, start, tick}
use Rattle.flash_seen.specs.World.{Datum, IsAllowed, IsIdleBelow, Selection, Stage, World}
use Rattle.flash_seen.specs.Seen.{drain, seen}
use Rattle.flash_seen.specs.World as stages
use Rattle.monitor_paths.proofs.Cycles.{exchanges_bytes, settles_quiet}
use Rattle.monitor_paths.proofs.Watched.{stays_watched}
use Rattle.monitor_paths.specs.FlashPath.{FlashPath, waiting}
use Rattle.monitor_paths.specs.Laws.{BeginsExchange, EndsExchange, HoldsKnown}
use Rattle.monitor_paths.specs.Opened.{AtStage, Opened}
use Rattle.spi_flash.specs.Flash.{FlashState, settled}
use Rattle.chip_gate.specs.Base.{base, based, bytes_once_done, flash_in, kept_over}
use Rattle.chip_gate.specs.Gated.{HasAnswer, HasCredit, IsAlone, IsGateOf, IsGatedAfter, KeepsGate, ExchangesInTurn, RefusesNone, WaitsForCommand, path_in, watchdog_in, world_in}
use Rattle.chip_gate.specs.Seated.{is_monitor, sent, shown_by, shows_monitor, taken, todo}
use Rattle.chip_gate.proofs.Known.{HasBase, IsKnown, IsShut, shut_asks}
use Rattle.chip_gate.proofs.Reached.{IsServed, monitor_served, never}
use Rattle.chip_gate.proofs.Resets.{after_keeps, tick_goes}
use Rattle.chip_gate.proofs.Steps.{AtMonitor, Fits, IsDelay, Keeps, quiet_ended}
use Rattle.chip_gate.proofs.Ticks.{asked_mine, gated_known}

held_stored : (kept : Option (ℕ × ℕ)) (image : Option (List ℕ)) (memory payload : List ℕ) → IsHeld kept image memory → image ≡ Some payload → BeginsWith memory payload
held_stored None None memory payload h e = let bad : ⊥ = cc in elim bad [ ]
held_stored None (Some image) memory payload h e = elim h [ ]
held_stored (Some kept) None memory payload h e = elim h [ ]
held_stored (Some kept) (Some image) memory payload h e = subst (BeginsWith memory) (ap (λ o. unwrap_or o image) e) h.2

remembers : (there none : Bool) → (there ≡ true → none ≡ true) → (there ≡ false → none ≡ false) → none ≡ there
remembers true none h k = h refl
remembers false none h k = k refl

view_shows : (handed : Option ℕ) → shows_monitor (monitor_view handed) ≡ is_none handed
view_shows None = refl
view_shows (Some cycle) = refl

shows_handed : (seat : Seat) → seat.boot ≡ Monitor → shows_monitor (boot_view seat) ≡ is_none seat.handed
shows_handed seat boot = ap (λ b. shows_monitor (view_by b seat.handed)) boot ∙ view_shows seat.handed

quiet_idle : (w : World) → IsQuiet w → (w.free ≡ true) ⊎ (w.stage ≡ stages.Idle 0)
quiet_idle w (inl free) = inl free
quiet_idle w (inr none) = inr none.0

-- the bytes of a flash that are known
bytes_known : (known : Option (List ℕ)) (w : World) (f : FlashState) → HasBytes known w.flash → settled f ≡ w.flash.cells → f.fitted ≡ w.flash.fitted
    → bytes_once_done f ≡ known
bytes_known None w f has cells fitted = ap (λ b. if◌then◌else◌ {A = Option (List ℕ)} b (Some (settled f)) None) (fitted ∙ has)
bytes_known (Some bytes) w f has cells fitted =
    ap (λ b. if◌then◌else◌ {A = Option (List ℕ)} b (Some (settled f)) None) (fitted ∙ has.0) ∙ ap Some (cells ∙ has.1)

-- while the front is closed the monitor doesn't wait for a command, and asks SPI's front nothing

abbrev waits_at_uart : List Action → Bool
waits_at_uart (Await address mask bits ∷ rest) = address == uart_ctrl
waits_at_uart other = false

abbrev is_store : MonitorOut → Bool
is_store HandOver = false
is_store (Bus request) = is_some request.store

abbrev is_at_data : MonitorOut → Bool
is_at_data HandOver = false
is_at_data (Bus request) = request.addr == spi_data

-- a selection may be sent: the front has at least fifteen credits
record MaySelect (w : World) (p : FlashPath) : Type 0 where
  sent : ℕ
  stage : w.stage ≡ stages.Idle sent
  few : sent < 2
  credits : 14 < p.front.credits

may_select : (w : World) (p : FlashPath) (s : Stage) → w.stage ≡ s → Opened w p → IsIdleBelow 2 s → MaySelect w p
may_select w p stages.Shut e o l = elim l [ ]
may_select w p (stages.Sent before) e o l = elim l [ ]
may_select w p (stages.Ready before) e o l = elim l [ ]
may_select w p (stages.Idle sent) e o l =
    let idle : AtStage (stages.Idle sent) w.flash w.free p.front.received (waiting p) p.up p.unit.flash
    = subst (λ s. AtStage s w.flash w.free p.front.received (waiting p) p.up p.unit.flash) e o.stage in
    record { sent = sent; stage = e; few = l; credits = omega (arith, o.credits, idle.few, l) }

some_is : {A : Type 0} (x y : A) → Some x ≡ Some y → x ≡ y
some_is x y e = ap (λ o. unwrap_or o x) e

none_some : {A : Type 0} (x : A) → None ≡ Some x → ⊥
none_some x e = let bad : ⊥ = cc in bad

module _ (v : Values) (old : Option (Option (List ℕ))) (c : ChipState) (fits : Fits v) (k : Keeps v old c) (at : AtMonitor v old c) where
  abbrev Known : Type 0
  Known = IsKnown c.seat.room c.seat.ctrl (HasBase old) at.before c.seat.replies (path_in c)

  abbrev Shut : Type 0
  Shut = IsShut c.seat.room c.seat.ctrl old at.before c.seat.replies c.hub.fronts.spi

  laws : (known : Known) → IsGated c.seat.room c.seat.ctrl (shown_by v) known.first at.before c.seat.replies
  laws known = gated_known v c.seat (HasBase old) at.before (path_in c) fits k.holds.room at.long known

  goes_at : (payload : List ℕ) → IsGateOf v old c payload → Known ⊎ Shut → IsGoing (todo c)
  goes_at payload g (inl known) =
      let same : g.flash ≡ base_of known.first = some_is g.flash (base_of known.first) (sym g.since ∙ known.since) in
      (laws known).goes payload (subst (λ flash. Gate c.seat.room flash (taken c) payload) same
      (subst (λ room. Gate room g.flash (taken c) payload) (sym k.holds.room) g.gate))
  goes_at payload g (inr shut) = elim (none_some g.flash (sym shut.none ∙ g.since)) [ ]

  awaits_at : todo c ≡ asking → Known ⊎ Shut → WaitsForCommand v old c
  awaits_at waits (inl known) =
      let a : AwaitsCommand c.seat.room c.seat.ctrl (shown_by v) known.first at.before c.seat.replies = (laws known).awaits waits in
      let w : World = world_in known.first c in
      let h : HoldsKnown w (path_in c) = settles_quiet w (path_in c) known.opened (quiet_idle w a.quiet) in
      record {
        flash = base_of known.first;
        since = known.since;
        items = a.items;
        split = subst (λ room. IsSplit room (taken c) a.items []) k.holds.room a.split;
        says = subst (λ room. sent c ≡ said room (shown_by v) (base_of known.first) a.items) k.holds.room (a.says at.told);
        stores = subst (λ room. flash_in c ≡ flash_of room (base_of known.first) a.items) k.holds.room
            (bytes_known (flash_of c.seat.room (base_of known.first) a.items) w c.units.spi.unit.flash a.flash h.cells h.fitted);
        holds = λ payload e. subst (λ m. BeginsWith m payload) (sym at.stored) (held_stored _ _ _ payload a.kept
            (subst (λ room. held room (base_of known.first) a.items [] ≡ Some payload) (sym k.holds.room) e));
        ended = quiet_ended c known.first known.opened a.quiet;
      }
  awaits_at waits (inr shut) = elim (never (ap waits_at_uart (sym (ap (λ (s : ActionState). s.todo) shut.waits) ∙ waits))) [ ]

  begins_at : (value : ℕ) → asked c.seat ≡ store spi_data value → Known ⊎ Shut → BeginsExchange (path_in c)
  unfolding asked
  begins_at value e (inl known) =
      let may : IsAllowed (world_in known.first c) Datum (Some value) = (laws known).allowed _ e in
      (exchanges_bytes (world_in known.first c) (path_in c)).begins value known.opened may
  begins_at value e (inr shut) = elim (never (ap is_store (sym (shut_asks shut) ∙ e))) [ ]

  ends_at : asked c.seat ≡ load spi_data → Known ⊎ Shut → HasAnswer old c
  unfolding asked
  ends_at e (inl known) =
      let may : IsAllowed (world_in known.first c) Datum None = (laws known).allowed _ e in
      let e : EndsExchange (world_in known.first c) (path_in c) = (exchanges_bytes (world_in known.first c) (path_in c)).ends known.opened may in
      record {
        first = known.first;
        away = known.away;
        since = known.since;
        ends = e;
        flash = sym known.opened.drained ∙ ap (drain (seen c.units.spi.unit.flash)) e.entries;
      }
  ends_at e (inr shut) = elim (never (ap is_at_data (sym (shut_asks shut) ∙ e))) [ ]

  selects_at : (value : ℕ) → asked c.seat ≡ store spi_select value → Known ⊎ Shut → HasCredit old c
  unfolding asked
  selects_at value e (inl known) =
      let w : World = world_in known.first c in
      let may : IsAllowed w Selection (Some value) = (laws known).allowed _ e in
      let m : MaySelect w (path_in c) = may_select w (path_in c) w.stage refl known.opened may in
      record {
        first = known.first;
        away = known.away;
        since = known.since;
        sent = m.sent;
        stage = m.stage;
        few = m.few;
        is_open = ap (λ owed. owed == 0) known.opened.owed;
        credits = m.credits;
      }
  selects_at value e (inr shut) = elim (never (ap is_store (sym (shut_asks shut) ∙ e))) [ ]

  alone_at : IsAlone v c
  alone_at = record {
    parked = at.parked;
    still = at.still;
    idle = at.idle;
    mine = λ request e. asked_mine v old c.seat at.before (path_in c) request fits k.holds.room at.long at.flash e;
    imem = k.holds.imem;
    dmem = k.holds.dmem;
  }

  exchanges_at : ExchangesInTurn old c
  exchanges_at = record { begins = λ value e. begins_at value e at.flash; ends = λ e. ends_at e at.flash; selects = λ value e. selects_at value e at.flash }

keeps_gate : (v : Values) (board : Board) (old : Option (Option (List ℕ))) (c : ChipState) → Fits v → Keeps v old c
    → KeepsGate v old (based (kept_over c old) (tick board c)) c (tick board c)
keeps_gate v board old c fits k = record {
  left = λ gone. (k.left gone).gate;
  hands = (tick_goes v board old c fits k).hands;
  goes = λ there payload g. goes_at v old c fits k (k.there there) payload g (k.there there).flash;
  awaits = λ there waits. awaits_at v old c fits k (k.there there) waits (k.there there).flash;
  alone = λ there. alone_at v old c fits k (k.there there);
  exchanges = λ there. exchanges_at v old c fits k (k.there there);
  watched = k.holds.watched;
  rests = λ there. (k.there there).rests;
  unreset = λ there. ap (λ n. n == 1) ((stays_watched (watchdog_in c)).quiet k.holds.watched (k.there there).rests);
  shows = shows_handed c.seat k.holds.boot
      ∙ remembers (is_monitor c.hub.core0.phase) (is_none c.seat.handed) (λ there. (k.there there).none_yet) (λ gone. (k.left gone).handed);
}

-- the settings of a chip

both : (a b : Bool) → (a && b) ≡ true → (a ≡ true) × (b ≡ true)
both true true e = (refl, refl)
both true false e = (refl, e)
both false b e = elim (never e) [ ]

is_within : (delay : ℕ) → is_delay delay ≡ true → IsDelay delay
is_within delay e =
    let t : (nat_le 1 delay ≡ true) × (nat_le delay 4096 ≡ true) = both (nat_le 1 delay) (nat_le delay 4096) e in
    let one : nat_le 1 delay ≡ true = t.0 in
    let most : nat_le delay 4096 ≡ true = t.1 in
    record { one = grind (arith, nat_tests); most = grind (arith, nat_tests) }

delay_at : (delays : List ℕ) (place : ℕ) → suc place ≤ length delays → list_all is_delay delays ≡ true → IsDelay (get_or delays place 0)
delay_at [] place l all = absurd (omega (arith, l))
delay_at (d ∷ delays) zero l all = is_within d (both (is_delay d) (list_all is_delay delays) all).0
delay_at (d ∷ delays) (suc place) l all = delay_at delays place (omega (arith, l)) (both (is_delay d) (list_all is_delay delays) all).1

setup_fits : (s : Setup) → Fits (values_of s)
setup_fits s = record {
  imem = record { from = s.imem_from; to = s.imem_to; pages = s.imem_pages };
  dmem = record { from = s.dmem_from; to = s.dmem_to; pages = s.dmem_pages };
  clock = omega (arith, s.clock_to);
  spi = delay_at s.delay 2 (omega (arith, s.lanes)) s.delays;
  wdt = delay_at s.delay 6 (omega (arith, s.lanes)) s.delays;
}

-- for the settings of a chip
pub gated_after : (s : Setup) (board : Board) (image : List ℕ) (script : Script) (k : ℕ)
    → IsGatedAfter (values_of s) board (start (values_of s) Monitor image script) k
unfolding after base
gated_after s board image script k =
    keeps_gate (values_of s) board (base board (start (values_of s) Monitor image script) k)
    (after board (start (values_of s) Monitor image script) k) (setup_fits s)
    (after_keeps (values_of s) board image script k (setup_fits s))

pub refuses_none : (s : HubState) → RefusesNone s
refuses_none s imem dmem request mine =
    let is : IsServed s request (accessed s request) = monitor_served s imem dmem request mine in
    record { word = is.word; answer = is.answer }
