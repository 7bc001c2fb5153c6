-- What an access leaves as it is, and what the monitor's own accesses reach.
use Rattle.std.proofs.Common.{◌≡◌, inl, inr, ℕ, ◌+◌, ◌-◌, ◌*◌, ◌/◌, ◌%◌, ◌^◌, ◌<◌, ◌≤◌, ◌==◌, Bool, true, false, List, [], ◌∷◌, length, if◌then◌else◌, Option, None, Some, Result, Ok, Err, refl, sym, ap, ◌∙◌, arith, subst}
use Rattle.std.specs.Prelude.{◌&&◌, get_or, is_some, nat_le, nat_lt, not}
use Rattle.std.proofs.lemmas.Bool.Decides.{nat_tests}
use Rattle.boot_gate.proofs.Stores.{loaded_by_bus, stored_by_bus, stored_outside}
use Rattle.boot_gate.specs.Gate.{Shown}
use Rattle.boot_monitor.specs.Standing.{IsLoaded, IsMine, IsPlace, IsStored}
use Rattle.boot_gate.specs.Replies.{IsToldShown, word_stored}
use Rattle.boot_monitor.specs.Actions.{info_clock, info_dmem, info_imem, info_open, load, spi_ctrl, spi_data, spi_select, uart_ctrl, uart_data}
use Rattle.boot_monitor.specs.declared.exchange.MonitorOut.{MonitorOut}
use Rattle.boot_monitor.specs.declared.exchange.MonitorOut.TheVariants.{Bus, HandOver}
use Rattle.chip_base.specs.Bits.{bit_if}
use Rattle.chip_base.specs.UnitTable.{link_place, unit_numbered}
use Rattle.chip_base.specs.declared.chip_unit.ChipUnit.{ChipUnit}
use Rattle.chip_base.specs.declared.chip_unit.ChipUnit.TheVariants.{Spi, Wdt}
use Rattle.chip_base.specs.declared.chip_unit.HubPart.TheVariants as part
use Rattle.chip_hub.specs.Access.{Accessed, accessed, accessed_by, in_clint, in_dma, in_mailbox, in_memory, in_numbered, in_region, in_sysinfo, memory_stored, open_word, sysinfo_word, unchanged}
use Rattle.chip_hub.specs.Parts.{offset_in, part_of_word}
use Rattle.chip_hub.specs.State.{Fronts, HubState}
use Rattle.flash_seen.specs.World.{Elsewhere, has_bit, open_address, place_at, spi_base}
use Rattle.image_tool.specs.Image.{AreBytes, word_at}
use Rattle.monitor_paths.specs.FlashPath.{Loads, Stores, Untouched, front_after, sent_by}
use Rattle.monitor_paths.specs.Laws.{ReplyFits, touch_at}
use Rattle.soc_bus.specs.Map.{admitted, device_of, region_of, registers}
use Rattle.soc_bus.specs.Memory.{IsSize, MemoryState, store_of}
use Rattle.soc_bus.specs.declared.access.BusFault.{BusFault}
use Rattle.soc_bus.specs.declared.access.Region.{Region}
use Rattle.soc_bus.specs.declared.access.Region.TheVariants.{Imem, Dmem, Clint, Mailbox, Sysinfo, Dma, Device}
use Rattle.soc_bus.specs.declared.access.Request.{Request}
use Rattle.soc_bus.specs.declared.access.Width.TheVariants.{Word}
use Rattle.unit_fronts.specs.Owed.{is_open_at}
use Rattle.unit_fronts.specs.SerialFront.{serial_word}
use Rattle.unit_fronts.specs.SerialRegisters.{SerialRegisters, has_received, oldest_received, serial_control, serial_is_open}

-- no access reaches core 0

memory_store : (s : HubState) (m : Result MemoryState BusFault) → (memory_stored s m).hub.core0 ≡ s.core0
memory_store s (Ok m) = refl
memory_store s (Err fault) = refl

in_memory_core : (s : HubState) (r : Request) (store : Option ℕ) → (in_memory s r store).hub.core0 ≡ s.core0
in_memory_core s r None = refl
in_memory_core s r (Some value) = memory_store s (store_of s.memory r.addr r.width value)

in_clint_core : (s : HubState) (r : Request) (store : Option ℕ) → (in_clint s r store).hub.core0 ≡ s.core0
in_clint_core s r None = refl
in_clint_core s r (Some value) = refl

in_mailbox_core : (s : HubState) (r : Request) (store : Option ℕ) → (in_mailbox s r store).hub.core0 ≡ s.core0
in_mailbox_core s r None = refl
in_mailbox_core s r (Some value) = refl

in_sysinfo_core : (s : HubState) (r : Request) (store : Option ℕ) → (in_sysinfo s r store).hub.core0 ≡ s.core0
in_sysinfo_core s r None = refl
in_sysinfo_core s r (Some value) = refl

in_dma_core : (s : HubState) (r : Request) (store : Option ℕ) → (in_dma s r store).hub.core0 ≡ s.core0
in_dma_core s r None = refl
in_dma_core s r (Some value) = refl

in_numbered_core : (s : HubState) (r : Request) (unit : Option ChipUnit) (reg : ℕ) → (in_numbered s r unit reg).hub.core0 ≡ s.core0
in_numbered_core s r None reg = refl
in_numbered_core s r (Some unit) reg = refl

in_region_core : (s : HubState) (r : Request) (region : Region) → (in_region s r region).hub.core0 ≡ s.core0
in_region_core s r Imem = in_memory_core s r r.store
in_region_core s r Dmem = in_memory_core s r r.store
in_region_core s r Clint = in_clint_core s r r.store
in_region_core s r Mailbox = in_mailbox_core s r r.store
in_region_core s r Sysinfo = in_sysinfo_core s r r.store
in_region_core s r Dma = in_dma_core s r r.store
in_region_core s r (Device number reg) = in_numbered_core s r (unit_numbered number) reg

found_core : (s : HubState) (r : Request) (found : Result Region BusFault) → (accessed_by s r found).hub.core0 ≡ s.core0
found_core s r (Ok region) = in_region_core s r region
found_core s r (Err fault) = refl

pub accessed_core : (s : HubState) (r : Request) → (accessed s r).hub.core0 ≡ s.core0
unfolding accessed
accessed_core s r = found_core s r (admitted r _ _)

-- what the monitor's accesses reach

-- a request for a word
abbrev request_at : ℕ → Option ℕ → Request
request_at address store = record { addr = address; width = Word; store = store }

module _ (imem dmem : ℕ) (small_imem : imem ≤ 1048576) (small_dmem : dmem ≤ 1048576) where
  outside : (address : ℕ) → 0xfff00000 ≤ address → region_of imem dmem address ≡ device_of address
  outside address far =
      let t1 : nat_lt address imem ≡ false = grind (arith, nat_tests) in
      let t2 : nat_lt (address - 2 ^ 31) dmem ≡ false = grind (arith, nat_tests) in
      let t3 : nat_le (2 ^ 31) address ≡ true = grind (arith, nat_tests) in
      rw (t1, t3, t2) refl

  uart_ctrl_found : (store : Option ℕ) → admitted (request_at uart_ctrl store) imem dmem ≡ Ok (Device 1 0)
  unfolding registers
  uart_ctrl_found None = rw (outside uart_ctrl (omega arith)) refl
  uart_ctrl_found (Some value) = rw (outside uart_ctrl (omega arith)) refl

  uart_data_found : (store : Option ℕ) → admitted (request_at uart_data store) imem dmem ≡ Ok (Device 1 4)
  unfolding registers
  uart_data_found None = rw (outside uart_data (omega arith)) refl
  uart_data_found (Some value) = rw (outside uart_data (omega arith)) refl

  info_clock_found : admitted (request_at info_clock None) imem dmem ≡ Ok Sysinfo
  unfolding registers
  info_clock_found = rw (outside info_clock (omega arith)) refl

  info_imem_found : admitted (request_at info_imem None) imem dmem ≡ Ok Sysinfo
  unfolding registers
  info_imem_found = rw (outside info_imem (omega arith)) refl

  info_dmem_found : admitted (request_at info_dmem None) imem dmem ≡ Ok Sysinfo
  unfolding registers
  info_dmem_found = rw (outside info_dmem (omega arith)) refl

  info_open_found : admitted (request_at info_open None) imem dmem ≡ Ok Sysinfo
  unfolding registers
  info_open_found = rw (outside info_open (omega arith)) refl

  spi_ctrl_found : (store : Option ℕ) → admitted (request_at spi_ctrl store) imem dmem ≡ Ok (Device 3 0)
  unfolding registers
  spi_ctrl_found None = rw (outside spi_ctrl (omega arith)) refl
  spi_ctrl_found (Some value) = rw (outside spi_ctrl (omega arith)) refl

  spi_data_found : (store : Option ℕ) → admitted (request_at spi_data store) imem dmem ≡ Ok (Device 3 4)
  unfolding registers
  spi_data_found None = rw (outside spi_data (omega arith)) refl
  spi_data_found (Some value) = rw (outside spi_data (omega arith)) refl

  spi_select_found : (value : ℕ) → admitted (request_at spi_select (Some value)) imem dmem ≡ Ok (Device 3 8)
  unfolding registers
  spi_select_found value = rw (outside spi_select (omega arith)) refl

  imem_found : (address : ℕ) (store : Option ℕ) → address < imem → address % 4 ≡ 0 → admitted (request_at address store) imem dmem ≡ Ok Imem
  imem_found address None below aligned =
      let t1 : (address % 4 == 0) ≡ true = grind (arith, nat_tests) in
      let t2 : nat_lt address imem ≡ true = grind (arith, nat_tests) in
      rw (t1, t2) refl
  imem_found address (Some value) below aligned =
      let t1 : (address % 4 == 0) ≡ true = grind (arith, nat_tests) in
      let t2 : nat_lt address imem ≡ true = grind (arith, nat_tests) in
      rw (t1, t2) refl

-- what the monitor's access does
pub record IsServed (s : HubState) (r : Request) (a : Accessed) : Type 0 where
  pub word : ℕ
  pub answer : a.answer ≡ Ok word
  pub told : s.clock < 2 ^ 32 → IsToldShown (record { imem = length s.memory.imem; dmem = length s.memory.dmem; clock = s.clock }) (Bus r) word
  pub clock : a.hub.clock ≡ s.clock
  pub core0 : a.hub.core0 ≡ s.core0
  pub core1 : a.hub.core1 ≡ s.core1
  pub clint : a.hub.clint ≡ s.clint
  pub dma : a.hub.dma ≡ s.dma
  pub imem : a.hub.memory.imem ≡ word_stored s.memory.imem r.addr r.store
  pub dmem : a.hub.memory.dmem ≡ s.memory.dmem
  -- SPI's front and its unit; the watchdog is sent nothing
  pub front : a.hub.fronts.spi ≡ front_after s.fronts.spi (touch_at (place_at r.addr) r.store)
  pub sent : get_or a.downs (link_place Spi) None ≡ sent_by s.fronts.spi (touch_at (place_at r.addr) r.store)
  pub silent : get_or a.downs (link_place Wdt) None ≡ None
  -- the answer
  pub fits : s.fronts.spi.kept < 2 ^ 23 → AreBytes s.fronts.spi.received → ReplyFits s.fronts.spi (place_at r.addr) r.store word
  pub loaded : r.store ≡ None → r.addr + 4 ≤ length s.memory.imem → word ≡ word_at s.memory.imem r.addr

is_load_of : ℕ → MonitorOut → Bool
is_load_of address HandOver = false
is_load_of address (Bus r) = not (is_some r.store) && (r.addr == address)

pub never : false ≡ true → ⊥
never e = let bad : ⊥ = cc in bad

-- a request for none of the words that are told
told_nothing : (shown : Shown) (r : Request) (word : ℕ) → is_load_of info_imem (Bus r) ≡ false → is_load_of info_dmem (Bus r) ≡ false
    → is_load_of info_clock (Bus r) ≡ false → IsToldShown shown (Bus r) word
unfolding is_load_of
told_nothing shown r word i d c = record {
  imem = λ e. elim (never (sym i ∙ ap (is_load_of info_imem) e)) [ ];
  dmem = λ e. elim (never (sym d ∙ ap (is_load_of info_dmem) e)) [ ];
  clock = λ e. elim (never (sym c ∙ ap (is_load_of info_clock) e)) [ ];
}

stored_far : (memory : List ℕ) (address : ℕ) (store : Option ℕ) → length memory ≤ 1048576 → 0xfff00000 ≤ address → word_stored memory address store ≡ memory
stored_far memory address None small far = refl
stored_far memory address (Some value) small far = stored_outside memory address value small (omega (arith, far))

whole_word : (word : ℕ) → word < 2 ^ 32 → word / 2 ^ (8 * 0) % 2 ^ (8 * 4) ≡ word
whole_word word small = omega arith

-- no register's address is one of IMEM
loaded_far : (memory : List ℕ) (address word : ℕ) → length memory ≤ 1048576 → 0xfff00000 ≤ address → address + 4 ≤ length memory → word ≡ word_at memory address
loaded_far memory address word small far within = absurd (omega (arith, small, far, within))

-- an address of IMEM is none that bears on the flash
place_in_imem : (address : ℕ) → address < 1048576 → place_at address ≡ Elsewhere
place_in_imem address small =
    let t1 : (address == spi_base) ≡ false = grind (arith, nat_tests) in
    let t2 : (address == spi_base + 4) ≡ false = grind (arith, nat_tests) in
    let t3 : (address == spi_base + 8) ≡ false = grind (arith, nat_tests) in
    let t4 : (address == open_address) ≡ false = grind (arith, nat_tests) in
    rw (t1, t2, t3, t4) refl

-- what SPI's front gives is a word

bit_small : (place : ℕ) (b : Bool) → bit_if place b ≤ 2 ^ place
bit_small place true = omega arith
bit_small place false = omega arith

control_small : (s : SerialRegisters) → s.kept < 2 ^ 23 → serial_control s < 2 ^ 32
control_small s kept =
    omega (arith, kept, bit_small 16 (has_received s), bit_small 21 (s.credits == 0), bit_small 30 s.overrun, bit_small 31 (nat_lt s.credits 16))

if_small : (b : Bool) (word : ℕ) → word < 2 ^ 32 → (if b then word else 0) < 2 ^ 32
if_small true word small = small
if_small false word small = omega arith

oldest_small : (bytes : List ℕ) → AreBytes bytes → get_or bytes 0 0 < 2 ^ 32
oldest_small [] all = omega arith
oldest_small (b ∷ bytes) all = omega (arith, all.0)

-- OPEN tells of SPI's front in bit 3

third_bit : (a b d e h g word : ℕ) (spi : Bool) → a ≤ 2 → b ≤ 4 → d ≤ 16 → d % 16 ≡ 0 → e ≤ 32 → e % 16 ≡ 0 → h ≤ 64 → h % 16 ≡ 0 → g ≤ 128 → g % 16 ≡ 0
    → word ≡ a + b + bit_if 3 spi + d + e + h + g → has_bit (word / 2 ^ (8 * 0) % 2 ^ (8 * 4)) 3 ≡ spi
third_bit a b d e h g word true ha hb hd md he me hh mh hg mg is =
    let one : word / 2 ^ (8 * 0) % 2 ^ (8 * 4) / 2 ^ 3 % 2 ≡ 1 = omega (arith, ha, hb, hd, md, he, me, hh, mh, hg, mg, is) in grind (arith, nat_tests)
third_bit a b d e h g word false ha hb hd md he me hh mh hg mg is =
    let none : word / 2 ^ (8 * 0) % 2 ^ (8 * 4) / 2 ^ 3 % 2 ≡ 0 = omega (arith, ha, hb, hd, md, he, me, hh, mh, hg, mg, is) in grind (arith, nat_tests)

high_bit : (b : Bool) → (bit_if 4 b % 16 ≡ 0) × (bit_if 5 b % 16 ≡ 0) × (bit_if 6 b % 16 ≡ 0) × (bit_if 7 b % 16 ≡ 0)
high_bit true = (refl, refl, refl, refl)
high_bit false = (refl, refl, refl, refl)

open_bit_of : (f : Fronts) → has_bit (open_word f / 2 ^ (8 * 0) % 2 ^ (8 * 4)) 3 ≡ serial_is_open f.spi
open_bit_of f =
    third_bit (bit_if 1 (is_open_at f.uart0.owed)) (bit_if 2 (is_open_at f.uart1.owed)) (bit_if 4 (is_open_at f.gpio.owed))
    (bit_if 5 (is_open_at f.pwm.owed)) (bit_if 6 (is_open_at f.slink.owed)) (bit_if 7 (is_open_at f.wdt.owed)) (open_word f) (is_open_at f.spi.owed)
    (bit_small 1 _) (bit_small 2 _) (bit_small 4 _) (high_bit (is_open_at f.gpio.owed)).0 (bit_small 5 _) (high_bit (is_open_at f.pwm.owed)).1
    (bit_small 6 _) (high_bit (is_open_at f.slink.owed)).2 (bit_small 7 _) (high_bit (is_open_at f.wdt.owed)).3 refl

module _ (s : HubState) (imem_size : IsSize (length s.memory.imem)) (dmem_size : IsSize (length s.memory.dmem)) where
  served_by : (r : Request) (region : Region) → admitted r (length s.memory.imem) (length s.memory.dmem) ≡ Ok region → IsServed s r (in_region s r region)
      → IsServed s r (accessed s r)
  unfolding accessed
  served_by r region found h = subst (λ f. IsServed s r (accessed_by s r f)) (sym found) h

  -- an access to UART0's registers
  uart_served : (r : Request) (reg : ℕ) → admitted r (length s.memory.imem) (length s.memory.dmem) ≡ Ok (Device 1 reg) → 0xfff00000 ≤ r.addr
      → touch_at (place_at r.addr) r.store ≡ Untouched → ((word : ℕ) → ReplyFits s.fronts.spi (place_at r.addr) r.store word)
      → is_load_of info_imem (Bus r) ≡ false → is_load_of info_dmem (Bus r) ≡ false → is_load_of info_clock (Bus r) ≡ false → IsServed s r (accessed s r)
  uart_served r reg found far elsewhere fits i d c = served_by r (Device 1 reg) found (record {
    word = _;
    answer = refl;
    told = λ clock. told_nothing _ r _ i d c;
    clock = refl;
    core0 = refl;
    core1 = refl;
    clint = refl;
    dma = refl;
    imem = sym (stored_far s.memory.imem r.addr r.store imem_size.to far);
    dmem = refl;
    front = sym (ap (front_after s.fronts.spi) elsewhere);
    sent = sym (ap (sent_by s.fronts.spi) elsewhere);
    silent = refl;
    fits = λ kept bytes. fits _;
    loaded = λ load within. loaded_far s.memory.imem r.addr _ imem_size.to far within;
  })

  -- an access to SPI's registers
  spi_loaded : (address reg : ℕ) → admitted (request_at address None) (length s.memory.imem) (length s.memory.dmem) ≡ Ok (Device 3 reg) → 0xfff00000 ≤ address
      → touch_at (place_at address) None ≡ Loads reg
      → (s.fronts.spi.kept < 2 ^ 23 → AreBytes s.fronts.spi.received
      → ReplyFits s.fronts.spi (place_at address) None (part_of_word (request_at address None) (serial_word s.fronts.spi reg)))
      → is_load_of info_imem (load address) ≡ false → is_load_of info_dmem (load address) ≡ false → is_load_of info_clock (load address) ≡ false
      → IsServed s (request_at address None) (accessed s (request_at address None))
  spi_loaded address reg found far here fits i d c = served_by (request_at address None) (Device 3 reg) found (record {
    word = part_of_word (request_at address None) (serial_word s.fronts.spi reg);
    answer = refl;
    told = λ clock. told_nothing _ (request_at address None) _ i d c;
    clock = refl;
    core0 = refl;
    core1 = refl;
    clint = refl;
    dma = refl;
    imem = refl;
    dmem = refl;
    front = sym (ap (front_after s.fronts.spi) here);
    sent = sym (ap (sent_by s.fronts.spi) here);
    silent = refl;
    fits = fits;
    loaded = λ load within. loaded_far s.memory.imem address _ imem_size.to far within;
  })

  spi_stored : (address reg value : ℕ) → admitted (request_at address (Some value)) (length s.memory.imem) (length s.memory.dmem) ≡ Ok (Device 3 reg)
      → 0xfff00000 ≤ address → touch_at (place_at address) (Some value) ≡ Stores reg value → ((word : ℕ) → ReplyFits s.fronts.spi (place_at address) (Some value) word)
      → IsServed s (request_at address (Some value)) (accessed s (request_at address (Some value)))
  unfolding is_load_of
  spi_stored address reg value found far here fits = served_by (request_at address (Some value)) (Device 3 reg) found (record {
    word = 0;
    answer = refl;
    told = λ clock. told_nothing _ (request_at address (Some value)) _ refl refl refl;
    clock = refl;
    core0 = refl;
    core1 = refl;
    clint = refl;
    dma = refl;
    imem = sym (stored_far s.memory.imem address (Some value) imem_size.to far);
    dmem = refl;
    front = sym (ap (front_after s.fronts.spi) here);
    sent = sym (ap (sent_by s.fronts.spi) here);
    silent = refl;
    fits = λ kept bytes. fits 0;
    loaded = λ load within. loaded_far s.memory.imem address _ imem_size.to far within;
  })

  -- a load of one of SYSINFO's words
  info_served : (address word : ℕ) → admitted (request_at address None) (length s.memory.imem) (length s.memory.dmem) ≡ Ok Sysinfo → 0xfff00000 ≤ address
      → part_of_word (request_at address None) (sysinfo_word s (offset_in part.Sysinfo (request_at address None))) ≡ word
      → touch_at (place_at address) None ≡ Untouched → ReplyFits s.fronts.spi (place_at address) None word
      → (s.clock < 2 ^ 32 → IsToldShown (record { imem = length s.memory.imem; dmem = length s.memory.dmem; clock = s.clock }) (load address) word)
      → IsServed s (request_at address None) (accessed s (request_at address None))
  info_served address word found far is elsewhere fits told = served_by (request_at address None) Sysinfo found (record {
    word = word;
    answer = ap Ok is;
    told = told;
    clock = refl;
    core0 = refl;
    core1 = refl;
    clint = refl;
    dma = refl;
    imem = refl;
    dmem = refl;
    front = sym (ap (front_after s.fronts.spi) elsewhere);
    sent = sym (ap (sent_by s.fronts.spi) elsewhere);
    silent = refl;
    fits = λ kept bytes. fits;
    loaded = λ load within. loaded_far s.memory.imem address word imem_size.to far within;
  })

  -- the store of a word into IMEM, and the load of one
  imem_stored : (address value : ℕ) → address < length s.memory.imem → address % 4 ≡ 0
      → IsServed s (request_at address (Some value)) (accessed s (request_at address (Some value)))
  unfolding is_load_of
  imem_stored address value below aligned =
      let within : address + 4 ≤ length s.memory.imem = omega (arith, imem_size.pages) in
      let elsewhere : place_at address ≡ Elsewhere = place_in_imem address (omega (arith, below, imem_size.to)) in
      served_by (request_at address (Some value)) Imem (imem_found _ _ imem_size.to dmem_size.to address (Some value) below aligned)
      (subst (λ m. IsServed s (request_at address (Some value)) (memory_stored s m)) (sym (stored_by_bus s.memory address value aligned within imem_size.to)) (record {
        word = 0;
        answer = refl;
        told = λ clock. told_nothing _ _ _ refl refl refl;
        clock = refl;
        core0 = refl;
        core1 = refl;
        clint = refl;
        dma = refl;
        imem = refl;
        dmem = refl;
        front = sym (ap (λ place. front_after s.fronts.spi (touch_at place (Some value))) elsewhere);
        sent = sym (ap (λ place. sent_by s.fronts.spi (touch_at place (Some value))) elsewhere);
        silent = refl;
        fits = λ kept bytes. subst (λ place. ReplyFits s.fronts.spi place (Some value) 0) (sym elsewhere) tt;
        loaded = λ load within. (let bad : ⊥ = cc in elim bad [ ]);
      }))

  imem_loads : (address : ℕ) → address < length s.memory.imem → address % 4 ≡ 0 → IsServed s (request_at address None) (accessed s (request_at address None))
  unfolding is_load_of
  imem_loads address below aligned =
      let within : address + 4 ≤ length s.memory.imem = omega (arith, imem_size.pages) in
      let small : address < 1048576 = omega (arith, below, imem_size.to) in
      let elsewhere : place_at address ≡ Elsewhere = place_in_imem address small in
      let i : (address == info_imem) ≡ false = grind (arith, nat_tests) in
      let d : (address == info_dmem) ≡ false = grind (arith, nat_tests) in
      let c : (address == info_clock) ≡ false = grind (arith, nat_tests) in
      served_by (request_at address None) Imem (imem_found _ _ imem_size.to dmem_size.to address None below aligned)
      (subst (λ m. IsServed s (request_at address None) (unchanged s m)) (sym (loaded_by_bus s.memory address aligned within imem_size.to)) (record {
        word = word_at s.memory.imem address;
        answer = refl;
        told = λ clock. told_nothing _ (request_at address None) _ i d c;
        clock = refl;
        core0 = refl;
        core1 = refl;
        clint = refl;
        dma = refl;
        imem = refl;
        dmem = refl;
        front = sym (ap (λ place. front_after s.fronts.spi (touch_at place None)) elsewhere);
        sent = sym (ap (λ place. sent_by s.fronts.spi (touch_at place None)) elsewhere);
        silent = refl;
        fits = λ kept bytes. subst (λ place. ReplyFits s.fronts.spi place None (word_at s.memory.imem address)) (sym elsewhere) tt;
        loaded = λ load within. refl;
      }))

  ctrl_loaded : IsServed s (request_at uart_ctrl None) (accessed s (request_at uart_ctrl None))
  unfolding is_load_of
  ctrl_loaded = uart_served (request_at uart_ctrl None) 0 (uart_ctrl_found _ _ imem_size.to dmem_size.to None) (omega arith) refl (λ word. tt) refl refl refl

  data_loaded : IsServed s (request_at uart_data None) (accessed s (request_at uart_data None))
  unfolding is_load_of
  data_loaded = uart_served (request_at uart_data None) 4 (uart_data_found _ _ imem_size.to dmem_size.to None) (omega arith) refl (λ word. tt) refl refl refl

  ctrl_stored : (value : ℕ) → IsServed s (request_at uart_ctrl (Some value)) (accessed s (request_at uart_ctrl (Some value)))
  unfolding is_load_of
  ctrl_stored value =
      uart_served (request_at uart_ctrl (Some value)) 0 (uart_ctrl_found _ _ imem_size.to dmem_size.to (Some value)) (omega arith) refl (λ word. tt) refl refl refl

  data_stored : (value : ℕ) → IsServed s (request_at uart_data (Some value)) (accessed s (request_at uart_data (Some value)))
  unfolding is_load_of
  data_stored value =
      uart_served (request_at uart_data (Some value)) 4 (uart_data_found _ _ imem_size.to dmem_size.to (Some value)) (omega arith) refl (λ word. tt) refl refl refl

  clock_loaded : IsServed s (request_at info_clock None) (accessed s (request_at info_clock None))
  unfolding is_load_of
  clock_loaded = info_served info_clock _ (info_clock_found _ _ imem_size.to dmem_size.to) (omega arith) refl refl tt (λ c. record {
    imem = λ e. elim (never (ap (is_load_of info_imem) e)) [ ];
    dmem = λ e. elim (never (ap (is_load_of info_dmem) e)) [ ];
    clock = λ e. whole_word s.clock c;
  })

  imem_loaded : IsServed s (request_at info_imem None) (accessed s (request_at info_imem None))
  unfolding is_load_of
  imem_loaded = info_served info_imem _ (info_imem_found _ _ imem_size.to dmem_size.to) (omega arith) refl refl tt (λ c. record {
    imem = λ e. whole_word (length s.memory.imem) (omega (arith, imem_size.to));
    dmem = λ e. elim (never (ap (is_load_of info_dmem) e)) [ ];
    clock = λ e. elim (never (ap (is_load_of info_clock) e)) [ ];
  })

  dmem_loaded : IsServed s (request_at info_dmem None) (accessed s (request_at info_dmem None))
  unfolding is_load_of
  dmem_loaded = info_served info_dmem _ (info_dmem_found _ _ imem_size.to dmem_size.to) (omega arith) refl refl tt (λ c. record {
    imem = λ e. elim (never (ap (is_load_of info_imem) e)) [ ];
    dmem = λ e. whole_word (length s.memory.dmem) (omega (arith, dmem_size.to));
    clock = λ e. elim (never (ap (is_load_of info_clock) e)) [ ];
  })

  open_loaded : IsServed s (request_at info_open None) (accessed s (request_at info_open None))
  unfolding is_load_of
  open_loaded = info_served info_open _ (info_open_found _ _ imem_size.to dmem_size.to) (omega arith) refl refl (open_bit_of s.fronts)
      (λ c. told_nothing _ (request_at info_open None) _ refl refl refl)

  spi_ctrl_loaded : IsServed s (request_at spi_ctrl None) (accessed s (request_at spi_ctrl None))
  unfolding is_load_of
  spi_ctrl_loaded = spi_loaded spi_ctrl 0 (spi_ctrl_found _ _ imem_size.to dmem_size.to None) (omega arith) refl
      (λ kept bytes. whole_word (serial_word s.fronts.spi 0)
      (if_small (serial_is_open s.fronts.spi) (serial_control s.fronts.spi) (control_small s.fronts.spi kept))) refl refl refl

  spi_data_loaded : IsServed s (request_at spi_data None) (accessed s (request_at spi_data None))
  unfolding is_load_of
  spi_data_loaded = spi_loaded spi_data 4 (spi_data_found _ _ imem_size.to dmem_size.to None) (omega arith) refl
      (λ kept bytes. whole_word (serial_word s.fronts.spi 4)
      (if_small (serial_is_open s.fronts.spi) (oldest_received s.fronts.spi) (oldest_small s.fronts.spi.received bytes))) refl refl refl

  load_served : (address : ℕ) → IsLoaded (length s.memory.imem) address → IsServed s (request_at address None) (accessed s (request_at address None))
  load_served address (inl e) = subst (λ a. IsServed s (request_at a None) (accessed s (request_at a None))) (sym e) ctrl_loaded
  load_served address (inr (inl e)) = subst (λ a. IsServed s (request_at a None) (accessed s (request_at a None))) (sym e) data_loaded
  load_served address (inr (inr (inl e))) = subst (λ a. IsServed s (request_at a None) (accessed s (request_at a None))) (sym e) clock_loaded
  load_served address (inr (inr (inr (inl e)))) = subst (λ a. IsServed s (request_at a None) (accessed s (request_at a None))) (sym e) imem_loaded
  load_served address (inr (inr (inr (inr (inl e))))) = subst (λ a. IsServed s (request_at a None) (accessed s (request_at a None))) (sym e) dmem_loaded
  load_served address (inr (inr (inr (inr (inr (inl e)))))) = subst (λ a. IsServed s (request_at a None) (accessed s (request_at a None))) (sym e) open_loaded
  load_served address (inr (inr (inr (inr (inr (inr (inl e))))))) = subst (λ a. IsServed s (request_at a None) (accessed s (request_at a None))) (sym e) spi_ctrl_loaded
  load_served address (inr (inr (inr (inr (inr (inr (inr (inl e)))))))) =
      subst (λ a. IsServed s (request_at a None) (accessed s (request_at a None))) (sym e) spi_data_loaded
  load_served address (inr (inr (inr (inr (inr (inr (inr (inr e)))))))) = imem_loads address e.0 e.1

  store_served : (address value : ℕ) → IsStored (length s.memory.imem) address
      → IsServed s (request_at address (Some value)) (accessed s (request_at address (Some value)))
  store_served address value (inl e) = subst (λ a. IsServed s (request_at a (Some value)) (accessed s (request_at a (Some value)))) (sym e) (ctrl_stored value)
  store_served address value (inr (inl e)) = subst (λ a. IsServed s (request_at a (Some value)) (accessed s (request_at a (Some value)))) (sym e) (data_stored value)
  store_served address value (inr (inr (inl e))) = subst (λ a. IsServed s (request_at a (Some value)) (accessed s (request_at a (Some value)))) (sym e)
      (spi_stored spi_ctrl 0 value (spi_ctrl_found _ _ imem_size.to dmem_size.to (Some value)) (omega arith) refl (λ word. tt))
  store_served address value (inr (inr (inr (inl e)))) = subst (λ a. IsServed s (request_at a (Some value)) (accessed s (request_at a (Some value)))) (sym e)
      (spi_stored spi_data 4 value (spi_data_found _ _ imem_size.to dmem_size.to (Some value)) (omega arith) refl (λ word. tt))
  store_served address value (inr (inr (inr (inr (inl e))))) = subst (λ a. IsServed s (request_at a (Some value)) (accessed s (request_at a (Some value)))) (sym e)
      (spi_stored spi_select 8 value (spi_select_found _ _ imem_size.to dmem_size.to value) (omega arith) refl (λ word. tt))
  store_served address value (inr (inr (inr (inr (inr e))))) = imem_stored address value e.0 e.1

  served_at : (address : ℕ) (store : Option ℕ) → IsPlace (length s.memory.imem) address store
      → IsServed s (request_at address store) (accessed s (request_at address store))
  served_at address None place = load_served address place
  served_at address (Some value) place = store_served address value place

  -- each request of the monitor's own is answered, and reaches nothing but the fronts of UART0 and SPI, and IMEM
  pub monitor_served : (r : Request) → IsMine (length s.memory.imem) r → IsServed s r (accessed s r)
  monitor_served r mine =
      let is : request_at r.addr r.store ≡ r = ap (λ w. record { addr = r.addr; width = w; store = r.store }) (sym mine.width) in
      subst (λ q. IsServed s q (accessed s q)) is (served_at r.addr r.store mine.place)
