-- A cycle of the chip while core 0 is in the monitor, in which no Fire arrives.
use Rattle.std.proofs.Common.{◌≡◌, inl, inr, ℕ, ◌+◌, ◌^◌, ◌<◌, ◌==◌, Bool, true, false, List, ◌∷◌, length, Option, None, Some, if◌then◌else◌, refl, sym, ap, ap₂, ◌∙◌, arith, subst}
use Rattle.std.specs.Prelude.{◌&&◌, is_none, is_some}
use Rattle.std.specs.Option.{unwrap_or}
use Rattle.boot_gate.proofs.Gates.{gated}
use Rattle.boot_gate.specs.Gate.{Gate, Shown}
use Rattle.boot_gate.specs.Laws.{BeginsWith, HandsOver, IsGated}
use Rattle.boot_gate.specs.Replies.{AreTold, IsToldShown, base_of, memory_after, stored_by, word_stored}
use Rattle.boot_monitor.specs.Standing.{IsMine}
use Rattle.boot_monitor.specs.Actions.{next}
use Rattle.boot_monitor.specs.declared.exchange.MonitorOut.{MonitorOut}
use Rattle.boot_monitor.specs.declared.exchange.MonitorOut.TheVariants.{Bus, HandOver}
use Rattle.chip_base.specs.Bits.{bit_if}
use Rattle.chip_base.specs.Settings.{Values}
use Rattle.chip_base.specs.declared.message.Down.{Down}
use Rattle.chip_hub.specs.Access.{Accessed, accessed}
use Rattle.chip_hub.specs.Cycle.{answered_core0, arrived, hub_worked, nobody_served, seat_after, served, served_core0, served_to, timed, turn0, turn1, turned0, turned1, wanted0, wants_of}
use Rattle.chip_hub.specs.Seat.{Seat, asked, hands_over, is_hand_over, reply_in, request_in, seat_turned, standing}
use Rattle.chip_hub.specs.State.{HubState, HubStep}
use Rattle.chip_whole.specs.Chip.{Board, ChipState, arrivals, stepped}
use Rattle.core_pair.specs.Clint.{ClintState}
use Rattle.core_pair.specs.Core.{CoreState, reset_core, wanted_in}
use Rattle.core_pair.specs.declared.phase.Phase.{Phase}
use Rattle.core_pair.specs.declared.phase.Phase.TheVariants.{Run, Want, Sleep, Parked, Monitor}
use Rattle.dma_unit.specs.DmaRegisters.{DmaRegisters, dma_wanted, dma_wanted_in}
use Rattle.dma_unit.specs.declared.state.DmaState.TheVariants.{Idle}
use Rattle.flash_seen.specs.Seen.{Seen}
use Rattle.flash_seen.specs.World.{World, place_at}
use Rattle.monitor_paths.proofs.Cycles.{keeps_opened}
use Rattle.image_tool.specs.Image.{AreBytes}
use Rattle.monitor_paths.proofs.Watched.{stays_watched}
use Rattle.monitor_paths.specs.Opened.{Opened}
use Rattle.monitor_paths.specs.FlashPath.{FlashPath, Untouched, after_touch, heard, path_heard as heard_path}
use Rattle.monitor_paths.specs.Laws.{ReplyFits, touch_at}
use Rattle.monitor_paths.specs.Watched.{IsWatchedByMonitor}
use Rattle.monitor_paths.specs.WatchdogPath.{watchdog_after}
use Rattle.soc_bus.specs.Memory.{IsSize}
use Rattle.soc_bus.specs.Rotation.{ArbiterState, after_grant, granted}
use Rattle.soc_bus.specs.declared.access.Request.{Request}
use Rattle.soc_bus.specs.declared.arbiter.Master.{Master}
use Rattle.soc_bus.specs.declared.arbiter.Master.TheVariants.{Core0, Core1, Dma as Copier}
use Rattle.soc_words.specs.Link.{link_first}
use Rattle.unit_fronts.specs.SerialRegisters.{SerialRegisters}
use Rattle.chip_gate.specs.Base.{based}
use Rattle.chip_gate.specs.Gated.{HandsPayload, IsGateOf, path_in, watchdog_in, world_in}
use Rattle.chip_gate.specs.Seated.{is_monitor, shown_by, taken}
use Rattle.chip_gate.proofs.Bytes.{arrived_bytes, heard_kept}
use Rattle.chip_gate.proofs.Known.{FlashAt, HasBase, IsKnown, IsWordOf, WillHaveBase, asks_next, flash_next, hears, is_open_request, rests, shut_asks}
use Rattle.chip_gate.proofs.Reached.{IsServed, accessed_core, monitor_served, never}
use Rattle.chip_gate.proofs.Steps.{AtMonitor, Fits, HasLeft, Holds, flash_on, heard_is, path_by, quiet_ended}

-- after a cycle that began in the monitor
pub record AfterMonitor (v : Values) (base : Option (Option (List ℕ))) (next : ChipState) : Type 0 where
  pub there : is_monitor next.hub.core0.phase ≡ true → AtMonitor v base next
  pub left : is_monitor next.hub.core0.phase ≡ false → HasLeft v base next
  pub hands : is_monitor next.hub.core0.phase ≡ false → HandsPayload v base next

-- what the laws of the monitor say at the seat
pub gated_known : (v : Values) (seat : Seat) (Since : Seen → Type 0) (before : List ℕ) (p : FlashPath) → Fits v → seat.room ≡ v.imem
    → length before ≡ seat.room → (k : IsKnown seat.room seat.ctrl Since before seat.replies p) → IsGated seat.room seat.ctrl (shown_by v) k.first before seat.replies
gated_known v seat Since before p fits room long k =
    gated seat.room seat.ctrl (shown_by v) k.first before seat.replies (subst IsSize (sym room) fits.imem) long k.away k.given

-- each request of the monitor is its own

pub asked_mine : (v : Values) (base : Option (Option (List ℕ))) (seat : Seat) (before : List ℕ) (p : FlashPath) (request : Request) → Fits v → seat.room ≡ v.imem
    → length before ≡ seat.room → FlashAt seat.room seat.ctrl base (HasBase base) before seat.replies p → asked seat ≡ Bus request → IsMine v.imem request
unfolding asked
asked_mine v base seat before p request fits room long (inl k) e =
    subst (λ n. IsMine n request) room ((gated_known v seat (HasBase base) before p fits room long k).asks request e)
asked_mine v base seat before p request fits room long (inr k) e =
    subst (λ (r : Request). IsMine v.imem r) (is_open_request request (sym (shut_asks k) ∙ e))
    (record { width = refl; place = inr (inr (inr (inr (inr (inl refl))))) })

told_more : (v : Values) (seat : Seat) (request : Request) (word : ℕ) → asked seat ≡ Bus request → IsToldShown (shown_by v) (Bus request) word
    → AreTold seat.room seat.ctrl (shown_by v) seat.replies → AreTold seat.room seat.ctrl (shown_by v) (word ∷ seat.replies)
unfolding asked
told_more v seat request word e told all = (subst (λ o. IsToldShown (shown_by v) o word) (sym e) told, all)

stored_more : (seat : Seat) (before memory : List ℕ) (request : Request) (imem : List ℕ) (word : ℕ) → asked seat ≡ Bus request
    → memory ≡ memory_after seat.room seat.ctrl before seat.replies → imem ≡ word_stored memory request.addr request.store
    → imem ≡ memory_after seat.room seat.ctrl before (word ∷ seat.replies)
unfolding asked
stored_more seat before memory request imem word e is more =
    more ∙ ap (λ m. word_stored m request.addr request.store) is ∙ ap (stored_by (memory_after seat.room seat.ctrl before seat.replies)) (sym e)

asked_next : (seat : Seat) (request : Request) → asked seat ≡ Bus request → next seat.room seat.ctrl seat.replies ≡ Bus request
unfolding asked
asked_next seat request e = e

same_shown : {imem imem2 dmem dmem2 clock clock2 : ℕ} → imem ≡ imem2 → dmem ≡ dmem2 → clock ≡ clock2
    → Path Shown (record { imem = imem; dmem = dmem; clock = clock }) (record { imem = imem2; dmem = dmem2; clock = clock2 })
same_shown a b c = rw (a, b, c) refl

-- who is served, where core 1 is parked and no copy is under way

wants_one : (s : HubState) (seat : Seat) (wanted : Option Request) → wanted0 seat s.core0.phase ≡ wanted → s.core1.phase ≡ Parked → s.dma.state ≡ Idle
    → wants_of s seat ≡ bit_if 0 (is_some wanted)
wants_one s seat wanted e parked idle =
    let copier : dma_wanted s.dma ≡ None = ap (λ state. dma_wanted_in state s.dma) idle in
    let other : wanted_in s.core1.phase ≡ None = ap wanted_in parked in
    ap₂ (λ (a b : ℕ). a + b) (ap₂ (λ (a b : ℕ). a + b) (ap (λ (o : Option Request). bit_if 0 (is_some o)) e) (ap (λ (o : Option Request). bit_if 1 (is_some o)) other)) (ap (λ (o : Option Request). bit_if 2 (is_some o)) copier)
    ∙ omega arith

granted_one : (last : Master) → granted (record { last = last }) 1 ≡ Some Core0
granted_one Core0 = refl
granted_one Core1 = refl
granted_one Copier = refl

granted_none : (last : Master) → granted (record { last = last }) 0 ≡ None
granted_none Core0 = refl
granted_none Core1 = refl
granted_none Copier = refl

serves_none : (P : HubStep → Type 0) (s : HubState) (seat : Seat) → wanted0 seat s.core0.phase ≡ None → s.core1.phase ≡ Parked → s.dma.state ≡ Idle
    → ((turns : ArbiterState) → P (nobody_served (record s { arbiter = turns }) seat)) → P (served s seat (wants_of s seat))
serves_none P s seat e parked idle none =
    let wants : wants_of s seat ≡ 0 = wants_one s seat None e parked idle in
    let turn : granted s.arbiter 0 ≡ None = granted_none s.arbiter.last in
    subst (λ w. P (served s seat w)) (sym wants) (subst (λ m. P (served_to (record s { arbiter = after_grant s.arbiter 0 }) seat m)) (sym turn) (none (after_grant s.arbiter 0)))

serves_one : (P : HubStep → Type 0) (s : HubState) (seat : Seat) (request : Request) → s.core0.phase ≡ Monitor → standing seat ≡ Some request → s.core1.phase ≡ Parked → s.dma.state ≡ Idle
    → ((turns : ArbiterState) → P (answered_core0 (accessed (record s { arbiter = turns }) request) seat Monitor)) → P (served s seat (wants_of s seat))
serves_one P s seat request phase e parked idle one =
    let wanted : wanted0 seat s.core0.phase ≡ Some request = ap (wanted0 seat) phase ∙ e in
    let wants : wants_of s seat ≡ 1 = wants_one s seat (Some request) wanted parked idle in
    let turn : granted s.arbiter 1 ≡ Some Core0 = granted_one s.arbiter.last in
    let turns : HubState = record s { arbiter = after_grant s.arbiter 1 } in
    subst (λ w. P (served s seat w)) (sym wants) (subst (λ m. P (served_to turns seat m)) (sym turn)
    (subst (λ o. P (served_core0 turns seat o)) (sym wanted) (subst (λ p. P (answered_core0 (accessed turns request) seat p)) (sym phase) (one (after_grant s.arbiter 1)))))

-- a turn in the monitor

pub is_monitor_phase : (p : Phase) → is_monitor p ≡ true → p ≡ Monitor
is_monitor_phase Monitor h = refl
is_monitor_phase (Run left) h = let bad : ⊥ = cc in elim bad [ ]
is_monitor_phase (Want request) h = let bad : ⊥ = cc in elim bad [ ]
is_monitor_phase (Sleep left) h = let bad : ⊥ = cc in elim bad [ ]
is_monitor_phase Parked h = let bad : ⊥ = cc in elim bad [ ]

standing_asked : (seat : Seat) (request : Request) → standing seat ≡ Some request → asked seat ≡ Bus request
standing_asked seat request e = go (seat.pause == 0) (asked seat) e
  where
    go : (b : Bool) (out : MonitorOut) → (if b then request_in out else None) ≡ Some request → out ≡ Bus request
    go true (Bus r) e = ap Bus (ap (λ o. unwrap_or o r) e)
    go true HandOver e = let bad : ⊥ = cc in elim bad [ ]
    go false out e = let bad : ⊥ = cc in elim bad [ ]

core1_stays : (s : HubState) (now : ℕ) (p : Phase) → s.core1.phase ≡ p → p ≡ Parked → s.clint.msip1 ≡ 0 → (turned1 s now p).phase ≡ Parked
core1_stays s now Parked e h still = rw still e
core1_stays s now (Run left) e h still = let bad : ⊥ = cc in elim bad [ ]
core1_stays s now (Want request) e h still = let bad : ⊥ = cc in elim bad [ ]
core1_stays s now (Sleep left) e h still = let bad : ⊥ = cc in elim bad [ ]
core1_stays s now Monitor e h still = let bad : ⊥ = cc in elim bad [ ]

handed_turned : (seat : Seat) (now : ℕ) (b : Bool) → hands_over seat ≡ b → (seat_turned seat now).handed ≡ if◌then◌else◌ {A = Option ℕ} b (Some now) (seat.handed)
handed_turned seat now b hands = ap (λ b. if◌then◌else◌ {A = Option ℕ} b (Some now) (seat.handed)) hands

over : (seat : Seat) → hands_over seat ≡ true → asked seat ≡ HandOver
over seat h = go (seat.pause == 1) (asked seat) h
  where
    go : (b : Bool) (out : MonitorOut) → (b && is_hand_over out) ≡ true → out ≡ HandOver
    go true HandOver h = refl
    go true (Bus r) h = let bad : ⊥ = cc in elim bad [ ]
    go false out h = let bad : ⊥ = cc in elim bad [ ]

asked_turned : (seat : Seat) (now : ℕ) → asked (seat_turned seat now) ≡ asked seat
unfolding asked
asked_turned seat now = refl

core0_turned : (s : HubState) (seat : Seat) (now : ℕ) (b : Bool) → s.core0.phase ≡ Monitor → hands_over seat ≡ b
    → turned0 s seat now s.core0.phase ≡ if◌then◌else◌ {A = CoreState} b (reset_core 0) (s.core0)
core0_turned s seat now b phase hands = ap (turned0 s seat now) phase ∙ ap (λ b. if◌then◌else◌ {A = CoreState} b (reset_core 0) (s.core0)) hands

abbrev phase_of : CoreState → Phase
phase_of c = c.phase

-- the hub after the arrivals, mtime and both turns
abbrev turned_hub : ChipState → HubState
turned_hub c = turn1 (turn0 (timed (arrived c.hub (arrivals c))) c.seat c.cycle) c.cycle

-- the seat after its turn
abbrev turned_seat : ChipState → Seat
turned_seat c = seat_turned c.seat c.cycle

module _ (v : Values) (board : Board) (base : Option (Option (List ℕ))) (c : ChipState) (fits : Fits v) (k : Holds v c) (at : AtMonitor v base c) where
  size : IsSize c.seat.room
  size = subst IsSize (sym k.room) fits.imem

  abbrev Flash : Option (Option (List ℕ)) → (Seen → Type 0) → List ℕ → FlashPath → Type 0
  Flash since Since replies p = FlashAt c.seat.room c.seat.ctrl since Since at.before replies p

  -- what is to be known of the flash from this cycle on
  abbrev Soon : Seen → Type 0
  Soon = WillHaveBase base (flash_next (path_in c) c.cycle)

  -- what is known once the arrivals are heard
  heard_flash : Flash base Soon c.seat.replies (heard_path (path_in c))
  heard_flash = hears c.seat.room c.seat.ctrl base at.before c.seat.replies (path_in c) c.cycle k.always at.flash

  core1_still : (turned_hub c).core1.phase ≡ Parked
  core1_still = core1_stays (turn0 (timed (arrived c.hub (arrivals c))) c.seat c.cycle) c.cycle c.hub.core1.phase refl at.parked at.still

  -- nobody is served, and the monitor stays
  rests_at : (turns : ArbiterState) → hands_over c.seat ≡ false → (turned_hub c).core0.phase ≡ Monitor
      → AfterMonitor v (based base (stepped board c (nobody_served (record (turned_hub c) { arbiter = turns }) (turned_seat c))))
      (stepped board c (nobody_served (record (turned_hub c) { arbiter = turns }) (turned_seat c)))
  rests_at turns stays phase =
      let h : HubStep = nobody_served (record (turned_hub c) { arbiter = turns }) (turned_seat c) in
      let n : ChipState = stepped board c h in
      record {
        there = λ there. record {
          parked = core1_still;
          still = at.still;
          idle = at.idle;
          told = at.told;
          none_yet = ap is_none (handed_turned c.seat c.cycle false stays) ∙ at.none_yet;
          before = at.before;
          long = at.long;
          stored = at.stored;
          flash = flash_on c.seat.room c.seat.ctrl base at.before c.seat.replies n (after_touch (path_in c) c.cycle Untouched)
              (path_by board c h Untouched refl refl)
              (rests c.seat.room c.seat.ctrl base at.before c.seat.replies (path_in c) c.cycle Soon k.always heard_flash);
          rests = (stays_watched (watchdog_in c)).rests c.cycle k.watched at.rests;
        };
        left = λ gone. elim (never (sym gone ∙ ap is_monitor phase)) [ ];
        hands = λ gone. elim (never (sym gone ∙ ap is_monitor phase)) [ ];
      }

  -- it hands over
  hands_at : (turns : ArbiterState) → hands_over c.seat ≡ true → (turned_hub c).core0.phase ≡ Run 0
      → Flash base (HasBase base) c.seat.replies (path_in c)
      → AfterMonitor v (based base (stepped board c (nobody_served (record (turned_hub c) { arbiter = turns }) (turned_seat c))))
      (stepped board c (nobody_served (record (turned_hub c) { arbiter = turns }) (turned_seat c)))
  unfolding asked
  hands_at turns hands phase (inl known) =
      let h : HubStep = nobody_served (record (turned_hub c) { arbiter = turns }) (turned_seat c) in
      let n : ChipState = stepped board c h in
      let o : HandsOver c.seat.room c.seat.ctrl known.first at.before c.seat.replies
      = (gated_known v c.seat (HasBase base) at.before (path_in c) fits k.room at.long known).leaves (over c.seat hands) in
      let gate : IsGateOf v (based base n) n o.payload
      = record {
        flash = base_of known.first;
        since = ap (λ b. based b n) known.since;
        gate = subst (λ room. Gate room (base_of known.first) (taken n) o.payload) k.room o.gate;
      } in
      let w : World = world_in known.first c in
      let opened : Opened w (path_in n)
      = subst (Opened w) (sym (path_by board c h Untouched refl refl))
      ((keeps_opened (path_in c)).rests w c.cycle k.always ((keeps_opened (path_in c)).hears w k.always known.opened)) in
      record {
        there = λ there. elim (never (sym (ap is_monitor phase) ∙ there)) [ ];
        left = λ gone. record { gate = record { payload = o.payload; gate = gate }; handed = ap is_none (handed_turned c.seat c.cycle true hands) };
        hands = λ gone. record {
          payload = o.payload;
          gate = gate;
          stored = subst (λ m. BeginsWith m o.payload) (sym at.stored) o.stored;
          ended = quiet_ended n known.first opened o.quiet;
        };
      }
  hands_at turns hands phase (inr shut) = elim (never (sym (ap is_hand_over (shut_asks shut)) ∙ ap is_hand_over (over c.seat hands))) [ ]

  -- its request is served

  abbrev arrived_front : SerialRegisters
  arrived_front = (arrived c.hub (arrivals c)).fronts.spi

  fits_heard : (request : Request) (word : ℕ)
      → (arrived_front.kept < 2 ^ 23 → AreBytes arrived_front.received → ReplyFits arrived_front (place_at request.addr) request.store word)
      → ReplyFits (heard (path_in c)) (place_at request.addr) request.store word
  fits_heard request word fit =
      let same : arrived_front ≡ heard (path_in c) = heard_is c.hub.fronts.spi (link_first c.units.spi.up) in
      let kept : arrived_front.kept < 2 ^ 23
      = subst (λ n. n < 2 ^ 23) (sym (ap (λ (f : SerialRegisters). f.kept) same ∙ heard_kept c.hub.fronts.spi (link_first c.units.spi.up))) k.always.small in
      let bytes : AreBytes arrived_front.received = subst (λ (f : SerialRegisters). AreBytes f.received) (sym same) (arrived_bytes (path_in c) k.bytes) in
      subst (λ f. ReplyFits f (place_at request.addr) request.store word) same (fit kept bytes)

  asks_at : (turns : ArbiterState) (request : Request) → hands_over c.seat ≡ false → (turned_hub c).core0.phase ≡ Monitor → asked c.seat ≡ Bus request
      → AfterMonitor v (based base (stepped board c (answered_core0 (accessed (record (turned_hub c) { arbiter = turns }) request) (turned_seat c) Monitor)))
      (stepped board c (answered_core0 (accessed (record (turned_hub c) { arbiter = turns }) request) (turned_seat c) Monitor))
  asks_at turns request stays phase e =
      let s : HubState = record (turned_hub c) { arbiter = turns } in
      let a : Accessed = accessed s request in
      let h : HubStep = answered_core0 a (turned_seat c) Monitor in
      let n : ChipState = stepped board c h in
      let mine : IsMine v.imem request = asked_mine v base c.seat at.before (path_in c) request fits k.room at.long at.flash e in
      let is : IsServed s request a
      = monitor_served s (subst IsSize (sym k.imem) fits.imem) (subst IsSize (sym k.dmem) fits.dmem) request (subst (λ n. IsMine n request) (sym k.imem) mine) in
      let told : IsToldShown (shown_by v) (Bus request) is.word
      = subst (λ shown. IsToldShown shown (Bus request) is.word) (same_shown k.imem k.dmem k.clock) (is.told (subst (λ n. n < 2 ^ 32) (sym k.clock) fits.clock)) in
      let word : is.word ≡ reply_in a.answer = sym (ap reply_in is.answer) in
      let core : a.hub.core0.phase ≡ Monitor = ap phase_of (accessed_core s request) ∙ phase in
      let touched : FlashPath = after_touch (path_in c) c.cycle (touch_at (place_at request.addr) request.store) in
      let flash : Flash base Soon (is.word ∷ c.seat.replies) touched
      = asks_next c.seat.room c.seat.ctrl base at.before c.seat.replies (path_in c) c.cycle Soon (shown_by v) request is.word size at.long k.always
      (asked_next c.seat request e) (fits_heard request is.word is.fits) (subst (λ m. IsWordOf request m is.word) at.stored is.loaded) heard_flash in
      record {
        there = λ there. record {
          parked = ap (λ (c : CoreState). c.phase) is.core1 ∙ core1_still;
          still = ap (λ (c : ClintState). c.msip1) is.clint ∙ at.still;
          idle = ap (λ (d : DmaRegisters). d.state) is.dma ∙ at.idle;
          told = subst (λ w. AreTold c.seat.room c.seat.ctrl (shown_by v) (w ∷ c.seat.replies)) word (told_more v c.seat request is.word e told at.told);
          none_yet = ap is_none (handed_turned c.seat c.cycle false stays) ∙ at.none_yet;
          before = at.before;
          long = at.long;
          stored = stored_more c.seat at.before c.hub.memory.imem request a.hub.memory.imem (reply_in a.answer) e at.stored is.imem;
          flash = flash_on c.seat.room c.seat.ctrl base at.before (reply_in a.answer ∷ c.seat.replies) n touched
              (path_by board c h (touch_at (place_at request.addr) request.store) is.front is.sent)
              (subst (λ w. Flash base Soon (w ∷ c.seat.replies) touched) word flash);
          rests = subst (λ (d : Option Down). IsWatchedByMonitor (watchdog_after (watchdog_in c) c.cycle d)) (sym is.silent)
              ((stays_watched (watchdog_in c)).rests c.cycle k.watched at.rests);
        };
        left = λ gone. elim (never (sym gone ∙ ap is_monitor core)) [ ];
        hands = λ gone. elim (never (sym gone ∙ ap is_monitor core)) [ ];
      }

  -- a cycle that began in the monitor
  abbrev After : HubStep → Type 0
  After h = AfterMonitor v (based base (stepped board c h)) (stepped board c h)

  by_turn : c.hub.core0.phase ≡ Monitor → (b : Bool) → hands_over c.seat ≡ b → (o : Option Request) → standing (turned_seat c) ≡ o
      → After (served (turned_hub c) (turned_seat c) (wants_of (turned_hub c) (turned_seat c)))
  by_turn phase true hands o e =
      let left : (turned_hub c).core0.phase ≡ Run 0 = ap phase_of (core0_turned (timed (arrived c.hub (arrivals c))) c.seat c.cycle true phase hands) in
      serves_none After (turned_hub c) (turned_seat c) (ap (wanted0 (turned_seat c)) left) core1_still at.idle (λ turns. hands_at turns hands left at.flash)
  by_turn phase false hands None e =
      let still_there : (turned_hub c).core0.phase ≡ Monitor
      = ap phase_of (core0_turned (timed (arrived c.hub (arrivals c))) c.seat c.cycle false phase hands) ∙ phase in
      serves_none After (turned_hub c) (turned_seat c) (ap (wanted0 (turned_seat c)) still_there ∙ e) core1_still at.idle (λ turns. rests_at turns hands still_there)
  by_turn phase false hands (Some request) e =
      let still_there : (turned_hub c).core0.phase ≡ Monitor
      = ap phase_of (core0_turned (timed (arrived c.hub (arrivals c))) c.seat c.cycle false phase hands) ∙ phase in
      serves_one After (turned_hub c) (turned_seat c) request still_there e core1_still at.idle
      (λ turns. asks_at turns request hands still_there (sym (asked_turned c.seat c.cycle) ∙ standing_asked (turned_seat c) request e))

  pub cycle_in : c.hub.core0.phase ≡ Monitor → After (hub_worked c.hub c.seat c.cycle (arrivals c))
  unfolding hub_worked
  cycle_in phase =
      let then_seat : seat_after c.seat c.cycle c.hub.core0.phase ≡ turned_seat c = ap (seat_after c.seat c.cycle) phase in
      subst (λ q. After (served (turned_hub c) q (wants_of (turned_hub c) q))) (sym then_seat) (by_turn phase _ refl _ refl)
