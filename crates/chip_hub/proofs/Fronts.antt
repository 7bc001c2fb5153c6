-- What one cycle of the hub does to the fronts of its units.
use Rattle.std.proofs.Common.{◌≡◌, ◌≤◌, ◌+◌, ◌-◌, ℕ, Bool, true, false, eqb, List, Option, None, Some, Result, Ok, Err, refl, sym, subst, ap, arith}
use Rattle.std.specs.Prelude.{get_or, if◌then◌else◌, ◌&&◌, not}
use Rattle.std.proofs.lemmas.Bool.Decides.{nat_tests}
use Rattle.chip_base.specs.declared.message.Down.{Down}
use Rattle.chip_base.specs.declared.message.Down.TheVariants.{Reset}
use Rattle.chip_base.specs.declared.message.Up.{Up}
use Rattle.chip_base.specs.declared.chip_unit.ChipUnit.{ChipUnit}
use Rattle.chip_base.specs.declared.chip_unit.ChipUnit.TheVariants.{Uart0, Uart1, Spi, Gpio, Pwm, Slink, Wdt}
use Rattle.chip_base.specs.Messages.{at_data, at_either_data, done_in, entry_in, reset_in}
use Rattle.soc_bus.specs.Map.{admitted}
use Rattle.soc_bus.specs.Memory.{MemoryState, store_of}
use Rattle.soc_bus.specs.Rotation.{granted}
use Rattle.soc_bus.specs.declared.access.BusFault.{BusFault}
use Rattle.soc_bus.specs.declared.access.Region.{Region}
use Rattle.soc_bus.specs.declared.access.Region.TheVariants.{Imem, Dmem, Clint, Mailbox, Sysinfo, Dma, Device}
use Rattle.soc_bus.specs.declared.access.Request.{Request}
use Rattle.soc_bus.specs.declared.arbiter.Master.{Master}
use Rattle.soc_bus.specs.declared.arbiter.Master.TheVariants.{Core0, Core1, Dma as Copier}
use Rattle.core_pair.specs.Core.{wanted_in}
use Rattle.dma_unit.specs.DmaRegisters.{dma_wanted}
use Rattle.unit_fronts.specs.Counts.{SpendsCredits}
use Rattle.unit_fronts.specs.Owed.{one_more}
use Rattle.unit_fronts.specs.SerialRegisters.{SerialRegisters, serial_closed, serial_is_open}
use Rattle.unit_fronts.specs.GpioFront.{GpioRegisters, gpio_answered, gpio_arrived, gpio_arrived_open, gpio_sent, gpio_stored, gpio_stored_open}
use Rattle.unit_fronts.specs.PwmFront.{PwmRegisters, pwm_arrived, pwm_sent, pwm_stored}
use Rattle.unit_fronts.specs.SerialFront.{SerialKind, serial_loaded, serial_stored, serial_sent}
use Rattle.unit_fronts.specs.SlinkFront.{slink_kind}
use Rattle.unit_fronts.specs.SpiFront.{spi_kind}
use Rattle.unit_fronts.specs.UartFront.{uart_kind}
use Rattle.unit_fronts.specs.WdtFront.{WatchdogRegisters, watchdog_arrived, watchdog_sent, watchdog_stored}
use Rattle.unit_fronts.proofs.Counts.{loads, spends}
use Rattle.chip_base.specs.UnitTable.{link_place, unit_numbered}
use Rattle.chip_hub.specs.Access.{Accessed, accessed, accessed_by, in_clint, in_device, in_dma, in_mailbox, in_memory, in_numbered, in_region, in_sysinfo, memory_stored}
use Rattle.chip_hub.specs.Cycle.{arrived, arrived_at_gpio, arrived_at_pwm, arrived_at_watchdog, closed, fires, hub_cycle, hub_worked, reset_by, seat_after, served, served_core0, served_core1, served_dma, served_to, timed, turn0, turn1, wanted0, wants_of}
use Rattle.chip_hub.specs.Seat.{Seat}
use Rattle.chip_hub.specs.State.{Fronts, HubState, HubStep}
use Rattle.chip_hub.specs.Units.{at_gpio, at_pwm, at_serial, at_watchdog, fronts_after, messages_in, only_to, resets, silent, unit_down}

-- a relation between the fronts before an access, the fronts after it and the messages that go down holds of every access
pub record HoldsOfAccesses (Q : Fronts → Fronts → List (Option Down) → Type 0) : Type 0 where
  -- where no front is reached
  pub no_front : (f : Fronts) → Q f f silent
  -- at the registers of a unit
  pub device : (s : HubState) (r : Request) (unit : ChipUnit) (reg : ℕ) → Q s.fronts (in_device s r unit reg).hub.fronts (in_device s r unit reg).downs

memory_store : (Q : Fronts → Fronts → List (Option Down) → Type 0) → HoldsOfAccesses Q → (s : HubState) (m : Result MemoryState BusFault)
    → Q s.fronts (memory_stored s m).hub.fronts (memory_stored s m).downs
memory_store Q h s (Ok m) = h.no_front s.fronts
memory_store Q h s (Err fault) = h.no_front s.fronts

memory_access : (Q : Fronts → Fronts → List (Option Down) → Type 0) → HoldsOfAccesses Q → (s : HubState) (r : Request) (store : Option ℕ)
    → Q s.fronts (in_memory s r store).hub.fronts (in_memory s r store).downs
memory_access Q h s r None = h.no_front s.fronts
memory_access Q h s r (Some value) = memory_store Q h s (store_of s.memory r.addr r.width value)

clint_access : (Q : Fronts → Fronts → List (Option Down) → Type 0) → HoldsOfAccesses Q → (s : HubState) (r : Request) (store : Option ℕ)
    → Q s.fronts (in_clint s r store).hub.fronts (in_clint s r store).downs
clint_access Q h s r None = h.no_front s.fronts
clint_access Q h s r (Some value) = h.no_front s.fronts

mailbox_access : (Q : Fronts → Fronts → List (Option Down) → Type 0) → HoldsOfAccesses Q → (s : HubState) (r : Request) (store : Option ℕ)
    → Q s.fronts (in_mailbox s r store).hub.fronts (in_mailbox s r store).downs
mailbox_access Q h s r None = h.no_front s.fronts
mailbox_access Q h s r (Some value) = h.no_front s.fronts

sysinfo_access : (Q : Fronts → Fronts → List (Option Down) → Type 0) → HoldsOfAccesses Q → (s : HubState) (r : Request) (store : Option ℕ)
    → Q s.fronts (in_sysinfo s r store).hub.fronts (in_sysinfo s r store).downs
sysinfo_access Q h s r None = h.no_front s.fronts
sysinfo_access Q h s r (Some value) = h.no_front s.fronts

dma_access : (Q : Fronts → Fronts → List (Option Down) → Type 0) → HoldsOfAccesses Q → (s : HubState) (r : Request) (store : Option ℕ)
    → Q s.fronts (in_dma s r store).hub.fronts (in_dma s r store).downs
dma_access Q h s r None = h.no_front s.fronts
dma_access Q h s r (Some value) = h.no_front s.fronts

numbered_access : (Q : Fronts → Fronts → List (Option Down) → Type 0) → HoldsOfAccesses Q → (s : HubState) (r : Request) (unit : Option ChipUnit) (reg : ℕ)
    → Q s.fronts (in_numbered s r unit reg).hub.fronts (in_numbered s r unit reg).downs
numbered_access Q h s r None reg = h.no_front s.fronts
numbered_access Q h s r (Some unit) reg = h.device s r unit reg

region_access : (Q : Fronts → Fronts → List (Option Down) → Type 0) → HoldsOfAccesses Q → (s : HubState) (r : Request) (region : Region)
    → Q s.fronts (in_region s r region).hub.fronts (in_region s r region).downs
region_access Q h s r Imem = memory_access Q h s r r.store
region_access Q h s r Dmem = memory_access Q h s r r.store
region_access Q h s r Clint = clint_access Q h s r r.store
region_access Q h s r Mailbox = mailbox_access Q h s r r.store
region_access Q h s r Sysinfo = sysinfo_access Q h s r r.store
region_access Q h s r Dma = dma_access Q h s r r.store
region_access Q h s r (Device number reg) = numbered_access Q h s r (unit_numbered number) reg

found_access : (Q : Fronts → Fronts → List (Option Down) → Type 0) → HoldsOfAccesses Q → (s : HubState) (r : Request) (found : Result Region BusFault)
    → Q s.fronts (accessed_by s r found).hub.fronts (accessed_by s r found).downs
found_access Q h s r (Ok region) = region_access Q h s r region
found_access Q h s r (Err fault) = h.no_front s.fronts

every_access : (Q : Fronts → Fronts → List (Option Down) → Type 0) → HoldsOfAccesses Q → (s : HubState) (r : Request)
    → Q s.fronts (accessed s r).hub.fronts (accessed s r).downs
unfolding accessed
every_access Q h s r = found_access Q h s r (admitted r _ _)

core0_access : (Q : Fronts → Fronts → List (Option Down) → Type 0) → HoldsOfAccesses Q → (s : HubState) (seat : Seat) (wanted : Option Request)
    → Q s.fronts (served_core0 s seat wanted).hub.fronts (served_core0 s seat wanted).downs
core0_access Q h s seat None = h.no_front s.fronts
core0_access Q h s seat (Some request) = every_access Q h s request

core1_access : (Q : Fronts → Fronts → List (Option Down) → Type 0) → HoldsOfAccesses Q → (s : HubState) (seat : Seat) (wanted : Option Request)
    → Q s.fronts (served_core1 s seat wanted).hub.fronts (served_core1 s seat wanted).downs
core1_access Q h s seat None = h.no_front s.fronts
core1_access Q h s seat (Some request) = every_access Q h s request

dma_served : (Q : Fronts → Fronts → List (Option Down) → Type 0) → HoldsOfAccesses Q → (s : HubState) (seat : Seat) (wanted : Option Request)
    → Q s.fronts (served_dma s seat wanted).hub.fronts (served_dma s seat wanted).downs
dma_served Q h s seat None = h.no_front s.fronts
dma_served Q h s seat (Some request) = every_access Q h s request

grant : (Q : Fronts → Fronts → List (Option Down) → Type 0) → HoldsOfAccesses Q → (s : HubState) (seat : Seat) (master : Option Master)
    → Q s.fronts (served_to s seat master).hub.fronts (served_to s seat master).downs
grant Q h s seat None = h.no_front s.fronts
grant Q h s seat (Some Core0) = core0_access Q h s seat (wanted0 seat s.core0.phase)
grant Q h s seat (Some Core1) = core1_access Q h s seat (wanted_in s.core1.phase)
grant Q h s seat (Some Copier) = dma_served Q h s seat (dma_wanted s.dma)

served_fronts : (Q : Fronts → Fronts → List (Option Down) → Type 0) → HoldsOfAccesses Q → (s : HubState) (seat : Seat) (wants : ℕ)
    → Q s.fronts (served s seat wants).hub.fronts (served s seat wants).downs
served_fronts Q h s seat wants = grant Q h _ seat (granted s.arbiter wants)

-- after the arrivals, a cycle without a reset makes one access at most
pub worked_fronts : (Q : Fronts → Fronts → List (Option Down) → Type 0) → HoldsOfAccesses Q → (s : HubState) (seat : Seat) (now : ℕ) (ups : List (Option Up))
    → Q (arrived s ups).fronts (hub_worked s seat now ups).hub.fronts (hub_worked s seat now ups).downs
unfolding hub_worked
worked_fronts Q h s seat now ups =
    let after : HubState = turn1 (turn0 (timed (arrived s ups)) seat now) now in
    let then_seat : Seat = seat_after seat now s.core0.phase in
    served_fronts Q h after then_seat (wants_of after then_seat)

-- a cycle by whether a Fire arrives
pub cycle_by : (fired : Bool) (s : HubState) (seat : Seat) (now : ℕ) (ups : List (Option Up)) → fires ups ≡ fired
    → hub_cycle s seat now ups ≡ (if fired then reset_by s seat ups else hub_worked s seat now ups)
unfolding hub_cycle
cycle_by fired s seat now ups e = ap (λ (b : Bool). if b then reset_by s seat ups else hub_worked s seat now ups) e

-- what a cycle does to a front that has heard what arrives: without a Fire one access at most, and with one it closes and its Reset goes down
pub record CycleServes {F : Type 0} (close : F → F) (Serves : F → Option Down → F → Type 0) (fired : Bool) (old : F) (down : Option Down) (new : F) : Type 0 where
  pub works : fired ≡ false → Serves old down new
  pub closes : fired ≡ true → (new ≡ close old) × (down ≡ Some Reset)

-- what a cycle does to a front, or to a number that it keeps, by what an access and closing do
cycle_serves : {F : Type 0} (close : F → F) (Serves : F → Option Down → F → Type 0) (kept : Fronts → F) (place : ℕ)
    → HoldsOfAccesses (λ old new downs. Serves (kept old) (get_or downs place None) (kept new))
    → ((f : Fronts) → kept (closed f) ≡ close (kept f)) → get_or resets place None ≡ Some Reset
    → (s : HubState) (seat : Seat) (now : ℕ) (ups : List (Option Up))
    → CycleServes close Serves (fires ups) (kept (arrived s ups).fronts) (get_or (hub_cycle s seat now ups).downs place None) (kept (hub_cycle s seat now ups).hub.fronts)
cycle_serves close Serves kept place h shuts resets_it s seat now ups = record {
  works = λ e.
      subst (λ (step : HubStep). Serves (kept (arrived s ups).fronts) (get_or step.downs place None) (kept step.hub.fronts)) (sym (cycle_by false s seat now ups e))
      (worked_fronts (λ old new downs. Serves (kept old) (get_or downs place None) (kept new)) h s seat now ups);
  closes = λ e.
      subst (λ (step : HubStep). (kept step.hub.fronts ≡ close (kept (arrived s ups).fronts)) × (get_or step.downs place None ≡ Some Reset)) (sym (cycle_by true s seat now ups e))
      (shuts (arrived s ups).fronts, resets_it);
}

-- one message to a unit is the only one
one_to : (unit : ChipUnit) (down : Option Down) → messages_in (only_to unit down) ≤ 1
one_to Uart0 None = omega arith
one_to Uart0 (Some m) = omega arith
one_to Uart1 None = omega arith
one_to Uart1 (Some m) = omega arith
one_to Spi None = omega arith
one_to Spi (Some m) = omega arith
one_to Gpio None = omega arith
one_to Gpio (Some m) = omega arith
one_to Pwm None = omega arith
one_to Pwm (Some m) = omega arith
one_to Slink None = omega arith
one_to Slink (Some m) = omega arith
one_to Wdt None = omega arith
one_to Wdt (Some m) = omega arith

-- an access to what lies in a region sends down one message at most
pub region_sends_one : (s : HubState) (r : Request) (region : Region) (a : Accessed) → a ≡ in_region s r region → messages_in a.downs ≤ 1
region_sends_one s r region a e =
    subst (λ x. messages_in x.downs ≤ 1) (sym e) (region_access (λ old new downs. messages_in downs ≤ 1) (record {
      no_front = λ f. omega arith;
      device = λ s r unit reg. one_to unit (unit_down s.fronts r unit reg);
    }) s r region)

-- what an access does to a front, and the message that it sends down
pub record ServesSerial (takes : ℕ → Bool) (old : SerialRegisters) (down : Option Down) (new : SerialRegisters) : Type 0 where
  pub credits : SpendsCredits takes old down new
  -- a closed front sends no entry
  pub closed : serial_is_open old ≡ false → entry_in takes down ≡ 0
  pub no_reset : reset_in down ≡ 0

serves_nothing : (takes : ℕ → Bool) (p : SerialRegisters) → ServesSerial takes p None p
serves_nothing takes p = record { credits = record { credits = omega arith; owed = refl }; closed = λ c. refl; no_reset = refl }

serial_load : (takes : ℕ → Bool) (p : SerialRegisters) (reg : ℕ) → ServesSerial takes p None (serial_loaded p reg)
serial_load takes p reg = record { credits = loads takes p reg; closed = λ c. refl; no_reset = refl }

serial_no_reset : (kind : SerialKind) (p : SerialRegisters) (reg word : ℕ) (open_now control entry empty : Bool) → serial_is_open p ≡ open_now → eqb reg 0 ≡ control
    → kind.takes reg ≡ entry → eqb p.credits 0 ≡ empty → reset_in (serial_sent kind p reg word) ≡ 0
serial_no_reset kind p reg word false b c d e f t g = rw e refl
serial_no_reset kind p reg word true true c d e f t g = rw (e, f) refl
serial_no_reset kind p reg word true false false d e f t g = rw (e, f, t) refl
serial_no_reset kind p reg word true false true true e f t g = rw (e, f, t, g) refl
serial_no_reset kind p reg word true false true false e f t g = rw (e, f, t, g) refl

serial_store : (kind : SerialKind) → kind.takes 0 ≡ false → (p : SerialRegisters) (reg word : ℕ) → ServesSerial kind.takes p (serial_sent kind p reg word) (serial_stored kind p reg word)
serial_store kind z p reg word = record {
  credits = spends kind p reg word z;
  closed = λ c. rw c refl;
  no_reset = serial_no_reset kind p reg word _ _ _ _ refl refl refl refl;
}

-- what an access does to the front that it reaches
serial_access : (kind : SerialKind) → kind.takes 0 ≡ false → (p : SerialRegisters) (r : Request) (reg : ℕ) (store : Option ℕ)
    → ServesSerial kind.takes p (at_serial kind p r reg store).down (at_serial kind p r reg store).front
serial_access kind z p r reg None = serial_load kind.takes p reg
serial_access kind z p r reg (Some value) = serial_store kind z p reg value

-- what an access to a unit's registers does to the front of uart0
uart0_reached : (f : Fronts) (r : Request) (unit : ChipUnit) (reg : ℕ) → ServesSerial at_data f.uart0 (get_or (only_to unit (unit_down f r unit reg)) (link_place Uart0) None) (fronts_after f r unit reg).uart0
uart0_reached f r Uart0 reg = serial_access uart_kind refl f.uart0 r reg r.store
uart0_reached f r Uart1 reg = serves_nothing at_data f.uart0
uart0_reached f r Spi reg = serves_nothing at_data f.uart0
uart0_reached f r Gpio reg = serves_nothing at_data f.uart0
uart0_reached f r Pwm reg = serves_nothing at_data f.uart0
uart0_reached f r Slink reg = serves_nothing at_data f.uart0
uart0_reached f r Wdt reg = serves_nothing at_data f.uart0

-- what a cycle does to the front of uart0, after the arrivals
pub serves_uart0 : (s : HubState) (seat : Seat) (now : ℕ) (ups : List (Option Up))
    → CycleServes serial_closed (ServesSerial at_data) (fires ups) (arrived s ups).fronts.uart0 (get_or (hub_cycle s seat now ups).downs (link_place Uart0) None) (hub_cycle s seat now ups).hub.fronts.uart0
serves_uart0 = cycle_serves serial_closed (ServesSerial at_data) (λ (f : Fronts). f.uart0) (link_place Uart0) (record {
  no_front = λ f. serves_nothing at_data f.uart0;
  device = λ s r unit reg. uart0_reached s.fronts r unit reg;
}) (λ f. refl) refl

-- what an access to a unit's registers does to the front of uart1
uart1_reached : (f : Fronts) (r : Request) (unit : ChipUnit) (reg : ℕ) → ServesSerial at_data f.uart1 (get_or (only_to unit (unit_down f r unit reg)) (link_place Uart1) None) (fronts_after f r unit reg).uart1
uart1_reached f r Uart0 reg = serves_nothing at_data f.uart1
uart1_reached f r Uart1 reg = serial_access uart_kind refl f.uart1 r reg r.store
uart1_reached f r Spi reg = serves_nothing at_data f.uart1
uart1_reached f r Gpio reg = serves_nothing at_data f.uart1
uart1_reached f r Pwm reg = serves_nothing at_data f.uart1
uart1_reached f r Slink reg = serves_nothing at_data f.uart1
uart1_reached f r Wdt reg = serves_nothing at_data f.uart1

-- what a cycle does to the front of uart1, after the arrivals
pub serves_uart1 : (s : HubState) (seat : Seat) (now : ℕ) (ups : List (Option Up))
    → CycleServes serial_closed (ServesSerial at_data) (fires ups) (arrived s ups).fronts.uart1 (get_or (hub_cycle s seat now ups).downs (link_place Uart1) None) (hub_cycle s seat now ups).hub.fronts.uart1
serves_uart1 = cycle_serves serial_closed (ServesSerial at_data) (λ (f : Fronts). f.uart1) (link_place Uart1) (record {
  no_front = λ f. serves_nothing at_data f.uart1;
  device = λ s r unit reg. uart1_reached s.fronts r unit reg;
}) (λ f. refl) refl

-- what an access to a unit's registers does to the front of spi
spi_reached : (f : Fronts) (r : Request) (unit : ChipUnit) (reg : ℕ) → ServesSerial at_either_data f.spi (get_or (only_to unit (unit_down f r unit reg)) (link_place Spi) None) (fronts_after f r unit reg).spi
spi_reached f r Uart0 reg = serves_nothing at_either_data f.spi
spi_reached f r Uart1 reg = serves_nothing at_either_data f.spi
spi_reached f r Spi reg = serial_access spi_kind refl f.spi r reg r.store
spi_reached f r Gpio reg = serves_nothing at_either_data f.spi
spi_reached f r Pwm reg = serves_nothing at_either_data f.spi
spi_reached f r Slink reg = serves_nothing at_either_data f.spi
spi_reached f r Wdt reg = serves_nothing at_either_data f.spi

-- what a cycle does to the front of spi, after the arrivals
pub serves_spi : (s : HubState) (seat : Seat) (now : ℕ) (ups : List (Option Up))
    → CycleServes serial_closed (ServesSerial at_either_data) (fires ups) (arrived s ups).fronts.spi (get_or (hub_cycle s seat now ups).downs (link_place Spi) None) (hub_cycle s seat now ups).hub.fronts.spi
serves_spi = cycle_serves serial_closed (ServesSerial at_either_data) (λ (f : Fronts). f.spi) (link_place Spi) (record {
  no_front = λ f. serves_nothing at_either_data f.spi;
  device = λ s r unit reg. spi_reached s.fronts r unit reg;
}) (λ f. refl) refl

-- what an access to a unit's registers does to the front of slink
slink_reached : (f : Fronts) (r : Request) (unit : ChipUnit) (reg : ℕ) → ServesSerial at_either_data f.slink (get_or (only_to unit (unit_down f r unit reg)) (link_place Slink) None) (fronts_after f r unit reg).slink
slink_reached f r Uart0 reg = serves_nothing at_either_data f.slink
slink_reached f r Uart1 reg = serves_nothing at_either_data f.slink
slink_reached f r Spi reg = serves_nothing at_either_data f.slink
slink_reached f r Gpio reg = serves_nothing at_either_data f.slink
slink_reached f r Pwm reg = serves_nothing at_either_data f.slink
slink_reached f r Slink reg = serial_access slink_kind refl f.slink r reg r.store
slink_reached f r Wdt reg = serves_nothing at_either_data f.slink

-- what a cycle does to the front of slink, after the arrivals
pub serves_slink : (s : HubState) (seat : Seat) (now : ℕ) (ups : List (Option Up))
    → CycleServes serial_closed (ServesSerial at_either_data) (fires ups) (arrived s ups).fronts.slink (get_or (hub_cycle s seat now ups).downs (link_place Slink) None) (hub_cycle s seat now ups).hub.fronts.slink
serves_slink = cycle_serves serial_closed (ServesSerial at_either_data) (λ (f : Fronts). f.slink) (link_place Slink) (record {
  no_front = λ f. serves_nothing at_either_data f.slink;
  device = λ s r unit reg. slink_reached s.fronts r unit reg;
}) (λ f. refl) refl

-- what an access does to the answers that a front without entries waits for: nothing, and it sends no Reset
pub record ServesAnswers (old : ℕ) (down : Option Down) (new : ℕ) : Type 0 where
  pub owed : new ≡ old
  pub no_reset : reset_in down ≡ 0

no_answers : (owed : ℕ) → ServesAnswers owed None owed
no_answers owed = record { owed = refl; no_reset = refl }

gpio_written : (p : GpioRegisters) (reg word : ℕ) (a b c : Bool) → eqb reg 4 ≡ a → eqb reg 8 ≡ b → eqb reg 12 ≡ c → (gpio_stored_open p reg word).owed ≡ p.owed
gpio_written p reg word true b c d e f = rw d refl
gpio_written p reg word false true c d e f = rw (d, e) refl
gpio_written p reg word false false true d e f = rw (d, e, f) refl
gpio_written p reg word false false false d e f = rw (d, e, f) refl

gpio_store : (p : GpioRegisters) (reg word : ℕ) (open_now is_out : Bool) → eqb p.owed 0 ≡ open_now → eqb reg 4 ≡ is_out
    → ServesAnswers p.owed (gpio_sent p reg word) (gpio_stored p reg word).owed
gpio_store p reg word false b e f = rw e record { owed = refl; no_reset = refl }
gpio_store p reg word true true e f = record { owed = rw e (gpio_written p reg word _ _ _ refl refl refl); no_reset = rw (e, f) refl }
gpio_store p reg word true false e f = record { owed = rw e (gpio_written p reg word _ _ _ refl refl refl); no_reset = rw (e, f) refl }

pwm_store : (p : PwmRegisters) (reg word : ℕ) (open_now control : Bool) → eqb p.owed 0 ≡ open_now → eqb reg 0 ≡ control
    → ServesAnswers p.owed (pwm_sent p reg word) (pwm_stored p reg word).owed
pwm_store p reg word false b e f = rw e record { owed = refl; no_reset = refl }
pwm_store p reg word true true e f = record { owed = rw (e, f) refl; no_reset = rw e refl }
pwm_store p reg word true false e f = record { owed = rw (e, f) refl; no_reset = rw e refl }

wdt_store : (p : WatchdogRegisters) (reg word : ℕ) (open_now control feeds : Bool) → eqb p.owed 0 ≡ open_now → eqb reg 0 ≡ control → (eqb reg 4 && eqb word 0xfeed) ≡ feeds
    → ServesAnswers p.owed (watchdog_sent p reg word) (watchdog_stored p reg word).owed
wdt_store p reg word false b c e f g = rw e record { owed = refl; no_reset = refl }
wdt_store p reg word true true c e f g = record { owed = rw (e, f) refl; no_reset = rw (e, f) refl }
wdt_store p reg word true false true e f g = record { owed = rw (e, f) refl; no_reset = rw (e, f, g) refl }
wdt_store p reg word true false false e f g = record { owed = rw (e, f) refl; no_reset = rw (e, f, g) refl }

gpio_access : (p : GpioRegisters) (r : Request) (reg : ℕ) (store : Option ℕ)
    → ServesAnswers p.owed (at_gpio p r reg store).down (at_gpio p r reg store).front.owed
gpio_access p r reg None = no_answers p.owed
gpio_access p r reg (Some value) = gpio_store p reg value _ _ refl refl

pwm_access : (p : PwmRegisters) (r : Request) (reg : ℕ) (store : Option ℕ)
    → ServesAnswers p.owed (at_pwm p r reg store).down (at_pwm p r reg store).front.owed
pwm_access p r reg None = no_answers p.owed
pwm_access p r reg (Some value) = pwm_store p reg value _ _ refl refl

wdt_access : (p : WatchdogRegisters) (r : Request) (reg : ℕ) (store : Option ℕ)
    → ServesAnswers p.owed (at_watchdog p r reg store).down (at_watchdog p r reg store).front.owed
wdt_access p r reg None = no_answers p.owed
wdt_access p r reg (Some value) = wdt_store p reg value _ _ _ refl refl refl

-- what an access to a unit's registers does to the answers that the front of gpio waits for
gpio_reached : (f : Fronts) (r : Request) (unit : ChipUnit) (reg : ℕ) → ServesAnswers f.gpio.owed (get_or (only_to unit (unit_down f r unit reg)) (link_place Gpio) None) (fronts_after f r unit reg).gpio.owed
gpio_reached f r Uart0 reg = no_answers f.gpio.owed
gpio_reached f r Uart1 reg = no_answers f.gpio.owed
gpio_reached f r Spi reg = no_answers f.gpio.owed
gpio_reached f r Gpio reg = gpio_access f.gpio r reg r.store
gpio_reached f r Pwm reg = no_answers f.gpio.owed
gpio_reached f r Slink reg = no_answers f.gpio.owed
gpio_reached f r Wdt reg = no_answers f.gpio.owed

-- what a cycle does to the answers that the front of gpio waits for, after the arrivals
pub serves_gpio : (s : HubState) (seat : Seat) (now : ℕ) (ups : List (Option Up))
    → CycleServes one_more ServesAnswers (fires ups) (arrived s ups).fronts.gpio.owed (get_or (hub_cycle s seat now ups).downs (link_place Gpio) None) (hub_cycle s seat now ups).hub.fronts.gpio.owed
serves_gpio = cycle_serves one_more ServesAnswers (λ (f : Fronts). f.gpio.owed) (link_place Gpio) (record {
  no_front = λ f. no_answers f.gpio.owed;
  device = λ s r unit reg. gpio_reached s.fronts r unit reg;
}) (λ f. refl) refl

-- what an access to a unit's registers does to the answers that the front of pwm waits for
pwm_reached : (f : Fronts) (r : Request) (unit : ChipUnit) (reg : ℕ) → ServesAnswers f.pwm.owed (get_or (only_to unit (unit_down f r unit reg)) (link_place Pwm) None) (fronts_after f r unit reg).pwm.owed
pwm_reached f r Uart0 reg = no_answers f.pwm.owed
pwm_reached f r Uart1 reg = no_answers f.pwm.owed
pwm_reached f r Spi reg = no_answers f.pwm.owed
pwm_reached f r Gpio reg = no_answers f.pwm.owed
pwm_reached f r Pwm reg = pwm_access f.pwm r reg r.store
pwm_reached f r Slink reg = no_answers f.pwm.owed
pwm_reached f r Wdt reg = no_answers f.pwm.owed

-- what a cycle does to the answers that the front of pwm waits for, after the arrivals
pub serves_pwm : (s : HubState) (seat : Seat) (now : ℕ) (ups : List (Option Up))
    → CycleServes one_more ServesAnswers (fires ups) (arrived s ups).fronts.pwm.owed (get_or (hub_cycle s seat now ups).downs (link_place Pwm) None) (hub_cycle s seat now ups).hub.fronts.pwm.owed
serves_pwm = cycle_serves one_more ServesAnswers (λ (f : Fronts). f.pwm.owed) (link_place Pwm) (record {
  no_front = λ f. no_answers f.pwm.owed;
  device = λ s r unit reg. pwm_reached s.fronts r unit reg;
}) (λ f. refl) refl

-- what an access to a unit's registers does to the answers that the front of the watchdog waits for
wdt_reached : (f : Fronts) (r : Request) (unit : ChipUnit) (reg : ℕ) → ServesAnswers f.wdt.owed (get_or (only_to unit (unit_down f r unit reg)) (link_place Wdt) None) (fronts_after f r unit reg).wdt.owed
wdt_reached f r Uart0 reg = no_answers f.wdt.owed
wdt_reached f r Uart1 reg = no_answers f.wdt.owed
wdt_reached f r Spi reg = no_answers f.wdt.owed
wdt_reached f r Gpio reg = no_answers f.wdt.owed
wdt_reached f r Pwm reg = no_answers f.wdt.owed
wdt_reached f r Slink reg = no_answers f.wdt.owed
wdt_reached f r Wdt reg = wdt_access f.wdt r reg r.store

-- what a cycle does to the answers that the front of the watchdog waits for, after the arrivals
pub serves_wdt : (s : HubState) (seat : Seat) (now : ℕ) (ups : List (Option Up))
    → CycleServes one_more ServesAnswers (fires ups) (arrived s ups).fronts.wdt.owed (get_or (hub_cycle s seat now ups).downs (link_place Wdt) None) (hub_cycle s seat now ups).hub.fronts.wdt.owed
serves_wdt = cycle_serves one_more ServesAnswers (λ (f : Fronts). f.wdt.owed) (link_place Wdt) (record {
  no_front = λ f. no_answers f.wdt.owed;
  device = λ s r unit reg. wdt_reached s.fronts r unit reg;
}) (λ f. refl) refl

-- what an arrival does to the answers that a front waits for
pub record HearsAnswers (before : ℕ) (up : Option Up) (after : ℕ) : Type 0 where
  pub still : before ≡ 0 → after ≡ 0
  pub answers : 1 ≤ before → after + done_in up ≡ before

owed_by : (owed after : ℕ) (up : Up) (open_now done : Bool) → eqb owed 0 ≡ open_now → up.done ≡ done
    → (open_now ≡ true → after ≡ owed) → (open_now ≡ false → done ≡ true → after ≡ owed - 1) → (open_now ≡ false → done ≡ false → after ≡ owed)
    → HearsAnswers owed (Some up) after
owed_by owed after up true d e f g h i =
    let none : owed ≡ 0 = grind (arith, nat_tests) in
    let same : after ≡ owed = g refl in
    record { still = λ z. omega (arith, same, none); answers = λ z. absurd (omega (arith, z, none)) }
owed_by owed after up false true e f g h i =
    let less : after ≡ owed - 1 = h refl refl in
    let one : done_in (Some up) ≡ 1 = rw f refl in
    let some : 1 ≤ owed = grind (arith, nat_tests) in
    record { still = λ z. absurd (omega (arith, z, some)); answers = λ z. omega (arith, less, one, some) }
owed_by owed after up false false e f g h i =
    let same : after ≡ owed = i refl refl in
    let none : done_in (Some up) ≡ 0 = rw f refl in
    record { still = λ z. omega (arith, z, same); answers = λ z. omega (arith, same, none) }

gpio_open : (p : GpioRegisters) (up : Up) (takes : Bool) → (up.has && not up.done) ≡ takes → (gpio_arrived_open p up).owed ≡ p.owed
gpio_open p up true e = rw e refl
gpio_open p up false e = rw e refl

gpio_answer_owed : (p : GpioRegisters) (up : Up) (opens : Bool) → (eqb (p.owed - 1) 0 && up.has) ≡ opens → (gpio_answered p up).owed ≡ p.owed - 1
gpio_answer_owed p up true e = rw e refl
gpio_answer_owed p up false e = rw e refl

pub gpio_hears : (p : GpioRegisters) (up : Option Up) → HearsAnswers p.owed up (arrived_at_gpio p up).owed
gpio_hears p None = record { still = λ z. z; answers = λ z. omega arith }
gpio_hears p (Some up) = owed_by p.owed (gpio_arrived p up).owed up (eqb p.owed 0) up.done refl refl
    (λ o. rw o (gpio_open p up _ refl)) (λ o d. rw (o, d) (gpio_answer_owed p up _ refl)) (λ o d. rw (o, d) refl)

pub pwm_hears : (p : PwmRegisters) (up : Option Up) → HearsAnswers p.owed up (arrived_at_pwm p up).owed
pwm_hears p None = record { still = λ z. z; answers = λ z. omega arith }
pwm_hears p (Some up) = owed_by p.owed (pwm_arrived p up).owed up (eqb p.owed 0) up.done refl refl
    (λ o. pwm_open o _ refl) (λ o d. rw (o, d) refl) (λ o d. rw d refl)
  where
    pwm_open : eqb p.owed 0 ≡ true → (d : Bool) → up.done ≡ d → (pwm_arrived p up).owed ≡ p.owed
    pwm_open o true e = rw (e, o) refl
    pwm_open o false e = rw e refl

pub wdt_hears : (p : WatchdogRegisters) (up : Option Up) → HearsAnswers p.owed up (arrived_at_watchdog p up).owed
wdt_hears p None = record { still = λ z. z; answers = λ z. omega arith }
wdt_hears p (Some up) = owed_by p.owed (watchdog_arrived p up).owed up (eqb p.owed 0) up.done refl refl
    (λ o. wdt_open o _ refl) (λ o d. rw (o, d) refl) (λ o d. rw d refl)
  where
    wdt_open : eqb p.owed 0 ≡ true → (d : Bool) → up.done ≡ d → (watchdog_arrived p up).owed ≡ p.owed
    wdt_open o true e = rw (e, o) refl
    wdt_open o false e = rw e refl
