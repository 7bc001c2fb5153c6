-- What the actions ahead will do, to the next command or to the hand-over, and that each reply keeps to it.
use Rattle.std.proofs.Common.{◌≡◌, ◌≢◌, ◌*◌, suc, None, ℕ, ◌+◌, ◌-◌, ◌%◌, ◌^◌, ◌<◌, ◌≤◌, ◌/◌, inl, inr, min, Bool, true, false, ◌&&◌, List, [], ◌∷◌, ◌++◌, length, if◌then◌else◌, bit_and, Some, ◌==◌, refl, sym, ap, ◌∙◌, arith, subst}
use Rattle.std.proofs.lemmas.Bool.Decides.{nat_tests}
use Rattle.std.proofs.lemmas.Nat.Bits.{and_pow, bit_at_and}
use Rattle.image_tool.specs.Image.{bytes_of, word_at}
use Rattle.soc_bus.specs.Memory.{low_bytes, with_bytes}
use Rattle.soc_bus.specs.declared.access.Request.{Request}
use Rattle.soc_bus.specs.declared.access.Width.TheVariants as width
use Rattle.spi_flash.specs.declared.transfer.Entry.TheVariants.{Byte}
use Rattle.spi_flash.specs.declared.transfer.Transfer.{Transfer}
use Rattle.spi_flash.specs.declared.transfer.Transfer.TheVariants as transfer
use Rattle.flash_seen.specs.Laws.{asks_status}
use Rattle.flash_seen.specs.Seen.{Seen, step}
use Rattle.flash_seen.specs.World.{World, Datum, Selection, Elsewhere, Stage, Shut, Idle, Sent, Ready, IsAllowed, IsAnswer, IsHeard, IsReady, IsToldAt, effect, free_after, has_bit, looked, place_at, unshut}
use Rattle.boot_monitor.specs.Actions.{Action, Answer, Await, Save, Report, Get, Again, Ask, Fetch, Keep, Leave, Look, Drop, Head, Tail, Mind, Source, ActionState, Way, Writable, all_open, answered, asks, deselect, digits, has_come, info_clock, info_dmem, info_imem, info_open, last_word, load, longer, mind_after, print, read_status, send, settled, spi_ctrl, spi_data, spi_select, store, transfer as transferring, uart_ctrl, uart_data, wait}
use Rattle.boot_monitor.specs.declared.exchange.MonitorOut.{MonitorOut}
use Rattle.boot_monitor.specs.declared.exchange.MonitorOut.TheVariants.{Bus}
use Rattle.boot_gate.specs.Gate.{Shown}
use Rattle.boot_monitor.specs.Standing.{IsLoaded, IsMine, IsStored}
use Rattle.boot_gate.proofs.Stores.{stored_inside, stored_outside}
use Rattle.boot_gate.specs.Replies.{IsGiven, IsToldShown, sent_by, stored_by, taken_by, word_stored, world_by}

-- where the actions lead, and a byte on the way
pub data Ending : Type 0 where
  -- a command is awaited
  Asked : Ending
  -- the hand-over
  Gone : Ending
  -- a byte of a header or of a payload was taken
  Took : Ending

-- memory, the bytes sent and the bytes taken
pub record Around : Type 0 where
  pub memory : List ℕ
  pub sent : List ℕ
  pub heard : List ℕ

abbrev pub around : List ℕ → List ℕ → List ℕ → Around
around memory sent heard = record { memory = memory; sent = sent; heard = heard }

-- after a request and its reply
abbrev pub turned : Around → MonitorOut → ℕ → Around
turned m request reply = around (stored_by m.memory request) (sent_by m.sent request) (taken_by m.heard request reply)

-- no exchange with the flash is under way
abbrev pub IsFresh : Stage → Type 0
IsFresh Shut = Unit {0}
IsFresh (Idle sent) = Unit {0}
IsFresh _ = ⊥

-- once SPI's front was seen open
abbrev pub fresh : Stage → Stage
fresh Shut = Idle 0
fresh stage = stage

abbrev pub world_as : Seen → Bool → Stage → Bool → World
world_as flash free stage used = record { flash = flash; free = free; stage = stage; used = used }

-- once the flash was sent an entry
abbrev pub world_at : Seen → Bool → Stage → World
world_at flash free stage = world_as flash free stage true

abbrev pub seen_as : Bool → List ℕ → Bool → Transfer → Seen
seen_as fitted cells writable before = record { fitted = fitted; cells = cells; writable = writable; transfer = before }

-- with another status
abbrev pub with_status : Mind → ℕ → Mind
with_status i status = record i { status = status }

abbrev pub at_stage : World → Stage → World
at_stage w stage = record { flash = w.flash; free = w.free; stage = stage; used = w.used }

-- what is shown at an address of SYSINFO
pub data ShownAt (shown : Shown) : ℕ → ℕ → Type 0 where
  imem : ShownAt shown info_imem shown.imem
  dmem : ShownAt shown info_dmem shown.dmem
  clock : ShownAt shown info_clock shown.clock

-- once no operation is under way for sure, so it stays
pub stays_free : (stage : Stage) (reply : ℕ) → free_after stage reply true ≡ true
stays_free Shut reply = refl
stays_free (Idle sent) reply = refl
stays_free (Sent before) reply = refl
stays_free (Ready before) reply = either (asks_status before && reply % 2 == 0)
  where
    either : (b : Bool) → (if b then true else true) ≡ true
    either true = refl
    either false = refl

abbrev pub wait_open : Action
wait_open = Await info_open (2 ^ 32 - 1) all_open

module _ (room ctrl : ℕ) (shown : Shown) (Told : Type 0) (Q : Ending → Mind → World → Around → Type 0) where
  -- from this world on, the actions lead to the next command or to the hand-over, where Q holds; Told: what is told of SYSINFO
  pub data Passes : List Action → Mind → World → Around → Type 0 where
    stops : {i : Mind} {w : World} {m : Around} → Q Asked i w m → Passes (Ask ∷ []) i w m
    leaves : {i : Mind} {w : World} {m : Around} → Q Gone i w m → Passes (Leave ∷ []) i w m
    gets : {rest : List Action} {i : Mind} {w : World} {m : Around}
        → ((b : ℕ) → b < 256 → Q Took (longer i (b ∷ [])) w (around m.memory m.sent (m.heard ++ b ∷ [])))
        → ((b : ℕ) → b < 256 → Passes rest (longer i (b ∷ [])) w (around m.memory m.sent (m.heard ++ b ∷ []))) → Passes (Get ∷ rest) i w m
    -- UART0's CTRL
    awaits : {mask bits : ℕ} {rest : List Action} {i : Mind} {w : World} {m : Around} → Passes rest i w m → Passes (Await uart_ctrl mask bits ∷ rest) i w m
    opens : {rest : List Action} {i : Mind} {w : World} {m : Around} → IsFresh w.stage → Passes rest i (at_stage w (fresh w.stage)) m → Passes (wait_open ∷ rest) i w m
    -- UART0's two registers
    sets : {value : ℕ} {rest : List Action} {i : Mind} {w : World} {m : Around} → Passes rest i w m → Passes (Save uart_ctrl value ∷ rest) i w m
    sends : {value : ℕ} {rest : List Action} {i : Mind} {w : World} {m : Around}
        → Passes rest i w (around m.memory (m.sent ++ value ∷ []) m.heard) → Passes (Save uart_data value ∷ rest) i w m
    reports : {address word : ℕ} {rest : List Action} {i : Mind} {w : World} {m : Around} → ShownAt shown address word
        → ((reply : ℕ) → (Told → reply ≡ word) → Passes (print (digits 8 reply) rest) i w m) → Passes (Report address ∷ rest) i w m
    keeps : {address : ℕ} {rest : List Action} {i : Mind} {w : World} {m : Around} → address % 4 ≡ 0 → address + 4 ≤ room
        → Passes rest i w (around (with_bytes m.memory address (low_bytes width.Word (last_word i.bytes))) m.sent m.heard) → Passes (Keep address ∷ rest) i w m
    -- SPI's three registers
    enables : {value : ℕ} {rest : List Action} {i : Mind} {w : World} {m : Around} → Passes rest i w m → Passes (Save spi_ctrl value ∷ rest) i w m
    gives : {value : ℕ} {rest : List Action} {i : Mind} {w : World} {m : Around} → IsAllowed w Datum (Some value)
        → Passes rest i (effect w Datum (Some value) 0) m → Passes (Save spi_data value ∷ rest) i w m
    selects : {value : ℕ} {rest : List Action} {i : Mind} {w : World} {m : Around} → IsAllowed w Selection (Some value)
        → Passes rest i (effect w Selection (Some value) 0) m → Passes (Save spi_select value ∷ rest) i w m
    readies : {rest : List Action} {i : Mind} {w : World} {m : Around} {before : Transfer} → w.stage ≡ Sent before
        → Passes rest i (at_stage w (Ready before)) m → Passes (Await spi_ctrl has_come has_come ∷ rest) i w m
    answers : {way : Way} {rest : List Action} {i : Mind} {w : World} {m : Around} {before : Transfer} → w.stage ≡ Ready before
        → ((reply : ℕ) → IsToldAt w (Ready before) reply → Passes rest (mind_after way i reply) (effect w Datum None reply) m) → Passes (Answer way ∷ rest) i w m
    -- a word of IMEM
    fetches : {address : ℕ} {rest : List Action} {i : Mind} {w : World} {m : Around} → address % 4 ≡ 0 → address + 4 ≤ room
        → Passes (send (bytes_of (word_at m.memory address)) rest) i w m → Passes (Fetch address ∷ rest) i w m
    -- the flash isn't selected, and where its status isn't busy no operation is under way
    waits : {rest : List Action} {i : Mind} {w : World} {m : Around} → (w.stage ≡ Idle 1) × (w.used ≡ true) → w.flash.transfer ≡ transfer.Idle → (i.status % 2 ≡ 0 → w.free ≡ true)
        → (w.flash.fitted ≡ false → w.free ≡ true)
        → ((status : ℕ) → Passes rest (with_status i status) (world_at w.flash true (Idle 1)) m) → Passes (Again ∷ rest) i w m
    writes : {rest : List Action} {i : Mind} {w : World} {m : Around} → Passes (settled room ctrl (Writable ∷ rest) i).todo (settled room ctrl (Writable ∷ rest) i).mind w m
        → Passes (Writable ∷ rest) i w m
    heads : {from : Source} {rest : List Action} {i : Mind} {w : World} {m : Around} → Passes (settled room ctrl (Head from ∷ rest) i).todo (settled room ctrl (Head from ∷ rest) i).mind w m
        → Passes (Head from ∷ rest) i w m
    tails : {rest : List Action} {i : Mind} {w : World} {m : Around} → Passes (settled room ctrl (Tail ∷ rest) i).todo (settled room ctrl (Tail ∷ rest) i).mind w m → Passes (Tail ∷ rest) i w m

  abbrev pub PassesFrom : ActionState → World → Around → Type 0
  PassesFrom s w m = Passes s.todo s.mind w m

  -- a byte to the flash, and its answer
  pub passes-transfer : (byte : ℕ) (way : Way) (rest : List Action) (i : Mind) (g : Seen) (free : Bool) (k : ℕ) (m : Around) → k < 3 → IsHeard free g.transfer (byte % 256)
      → ((reply : ℕ) → IsAnswer (step g (Byte (byte % 256))) free g.transfer reply
      → Passes rest (mind_after way i reply) (world_at (step g (Byte (byte % 256))) (free_after (Ready g.transfer) reply free) (Idle 0)) m)
      → Passes (transferring byte way rest) i (world_at g free (Idle k)) m
  passes-transfer byte way rest i g free k m l heard h =
      let may : IsAllowed (world_at g free (Idle k)) Datum (Some byte) = (l, heard) in gives may (readies refl (answers refl h))

  -- the status of a flash
  pub passes-status : (rest : List Action) (i : Mind) (cells : List ℕ) (writable free : Bool) (k : ℕ) (used : Bool) (m : Around) → k < 2
      → ((reply : ℕ) → IsAnswer (seen_as true cells writable (transfer.Command 5 1 0)) free (transfer.Command 5 0 0) reply
      → Passes rest (with_status i reply) (world_at (seen_as true cells writable transfer.Idle) (free_after (Ready (transfer.Command 5 0 0)) reply free) (Idle 1)) m)
      → Passes (read_status rest) i (world_as (seen_as true cells writable transfer.Idle) free (Idle k) used) m
  passes-status rest i cells writable free k used m l h =
      let first : k < 2 = omega (arith, l) in
      let last : 0 < 2 = omega arith in
      selects first (
      passes-transfer 5 Drop (transferring 0x00 Look (deselect ∷ rest)) i (seen_as true cells writable transfer.Opened) free (suc k) m (omega (arith, l)) (λ e f. heard f) (λ r t.
      passes-transfer 0 Look (deselect ∷ rest) i (seen_as true cells writable (transfer.Command 5 0 0)) free 0 m (omega arith) (λ e. let bad : ⊥ = cc in elim bad [ ]) (λ status answer.
      selects last (h status answer))))
    where
      heard : true ≡ false → free ≡ true
      heard e = let bad : ⊥ = cc in elim bad [ ]

  -- where no flash is fitted, it is 0
  pub passes-status_none : (rest : List Action) (i : Mind) (cells : List ℕ) (writable : Bool) (before : Transfer) (k : ℕ) (used : Bool) (m : Around) → k < 2
      → Passes rest (with_status i 0) (world_at (seen_as false cells writable before) true (Idle 1)) m
      → Passes (read_status rest) i (world_as (seen_as false cells writable before) true (Idle k) used) m
  passes-status_none rest i cells writable before k used m l h =
      let first : k < 2 = omega (arith, l) in
      let last : 0 < 2 = omega arith in
      selects first (
      passes-transfer 5 Drop (transferring 0x00 Look (deselect ∷ rest)) i (seen_as false cells writable before) true (suc k) m (omega (arith, l)) (λ e f. refl) (λ r t.
      subst (λ free. Passes (transferring 0x00 Look (deselect ∷ rest)) i (world_at (seen_as false cells writable before) free (Idle 0)) m) (sym (stays_free (Ready before) r)) (
      passes-transfer 0 Look (deselect ∷ rest) i (seen_as false cells writable before) true 0 m (omega arith) (λ e f. refl) (λ status answer.
      subst (λ free. Passes (deselect ∷ rest) (with_status i status) (world_at (seen_as false cells writable before) free (Idle 0)) m) (sym (stays_free (Ready before) status)) (
      selects last (subst (λ s. Passes rest (with_status i s) (world_at (seen_as false cells writable before) true (Idle 1)) m) (sym (answer.absent refl)) h))))))

  -- the status is read until no operation is under way
  status_idle : (reply : ℕ) (free : Bool) → reply % 2 ≡ 0 → free_after (Ready (transfer.Command 5 0 0)) reply free ≡ true
  status_idle reply free e = let t : (reply % 2 == 0) ≡ true = grind (arith, nat_tests) in rw t refl

  -- with a flash, and without one
  pub passes-wait : (fitted : Bool) (rest : List Action) (i : Mind) (cells : List ℕ) (writable free : Bool) (k : ℕ) (used : Bool) (m : Around) → k < 2 → (fitted ≡ false → free ≡ true)
      → ((status : ℕ) → Passes rest (with_status i status) (world_at (seen_as fitted cells writable transfer.Idle) true (Idle 1)) m)
      → Passes (wait rest) i (world_as (seen_as fitted cells writable transfer.Idle) free (Idle k) used) m
  passes-wait true rest i cells writable free k used m l none h =
      passes-status (Again ∷ rest) i cells writable free k used m l (λ reply told. waits (refl, refl) refl (status_idle reply free) (λ e. let bad : ⊥ = cc in elim bad [ ]) h)
  passes-wait false rest i cells writable free k used m l none h =
      subst (λ free. Passes (wait rest) i (world_as (seen_as false cells writable transfer.Idle) free (Idle k) used) m) (sym (none refl))
      (passes-status_none (Again ∷ rest) i cells writable transfer.Idle k used m l (waits (refl, refl) refl (λ e. refl) (λ e. refl) h))

  again : (rest : List Action) (i : Mind) (w : World) (m : Around) (even : Bool) → (i.status % 2 == 0) ≡ even
      → (w.stage ≡ Idle 1) × (w.used ≡ true) → w.flash.transfer ≡ transfer.Idle → (i.status % 2 ≡ 0 → w.free ≡ true) → (w.flash.fitted ≡ false → w.free ≡ true)
      → ((status : ℕ) → Passes rest (with_status i status) (world_at w.flash true (Idle 1)) m)
      → PassesFrom (if◌then◌else◌ {A = ActionState} even (record { todo = rest; mind = i }) (record { todo = wait rest; mind = i })) w m
  again rest i w m true e s t f n h =
      let even : i.status % 2 ≡ 0 = grind (arith, nat_tests) in
      subst (λ used. Passes rest i (world_as w.flash w.free w.stage used) m) (sym s.1)
      (subst (λ stage. Passes rest i (world_at w.flash w.free stage) m) (sym s.0)
      (subst (λ free. Passes rest i (world_at w.flash free (Idle 1)) m) (sym (f even)) (h i.status)))
  again rest i w m false e s t f n h =
      subst (λ used. Passes (wait rest) i (world_as w.flash w.free w.stage used) m) (sym s.1)
      (subst (λ stage. Passes (wait rest) i (world_at w.flash w.free stage) m) (sym s.0)
      (subst (λ before. Passes (wait rest) i (world_at (seen_as w.flash.fitted w.flash.cells w.flash.writable before) w.free (Idle 1)) m) (sym t)
      (passes-wait w.flash.fitted rest i w.flash.cells w.flash.writable w.free 1 true m (omega arith) n
      (λ status. subst (λ before. Passes rest (with_status i status) (world_at (seen_as w.flash.fitted w.flash.cells w.flash.writable before) true (Idle 1)) m) t (h status)))))

  -- a decision keeps it
  pub settles : {rest : List Action} {i : Mind} {w : World} {m : Around} → Passes rest i w m → PassesFrom (settled room ctrl rest i) w m
  settles (stops h) = stops h
  settles (leaves h) = leaves h
  settles (gets q h) = gets q h
  settles (awaits h) = awaits h
  settles (opens e h) = opens e h
  settles (sets h) = sets h
  settles (sends h) = sends h
  settles (reports a h) = reports a h
  settles (keeps a b h) = keeps a b h
  settles (enables h) = enables h
  settles (gives a h) = gives a h
  settles (selects a h) = selects a h
  settles (readies e h) = readies e h
  settles (answers e h) = answers e h
  settles (fetches a b h) = fetches a b h
  settles {i = i} {w = w} {m = m} (waits {rest = rest} s t f n h) = again rest i w m _ refl s t f n h
  settles (writes h) = h
  settles (heads h) = h
  settles (tails h) = h

  if-from : (t : Bool) (a b : ActionState) (w : World) (m : Around) → PassesFrom a w m → PassesFrom b w m → PassesFrom (if◌then◌else◌ {A = ActionState} t a b) w m
  if-from true a b w m ha hb = ha
  if-from false a b w m ha hb = hb

  -- a reply to an action

  unshut_open : (s : Stage) → IsFresh s → unshut s true ≡ fresh s
  unshut_open Shut h = refl
  unshut_open (Idle k) h = refl
  unshut_open (Sent before) h = elim h [ ]
  unshut_open (Ready before) h = elim h [ ]

  unshut_fresh : (s : Stage) (b : Bool) → IsFresh s → IsFresh (unshut s b)
  unshut_fresh Shut true h = tt
  unshut_fresh Shut false h = tt
  unshut_fresh (Idle k) b h = tt
  unshut_fresh (Sent before) b h = elim h [ ]
  unshut_fresh (Ready before) b h = elim h [ ]

  fresh_again : (s : Stage) (b : Bool) → IsFresh s → fresh (unshut s b) ≡ fresh s
  fresh_again Shut true h = refl
  fresh_again Shut false h = refl
  fresh_again (Idle k) b h = refl
  fresh_again (Sent before) b h = elim h [ ]
  fresh_again (Ready before) b h = elim h [ ]

  open_set : (reply : ℕ) → (bit_and reply (2 ^ 32 - 1) == all_open) ≡ true → has_bit reply 3 ≡ true
  open_set reply e =
      let is : bit_and reply (2 ^ 32 - 1) ≡ 0xfe = grind (arith, nat_tests) in
      let third : bit_and reply (2 ^ 32 - 1) / 2 ^ 3 % 2 ≡ min (reply / 2 ^ 3 % 2) ((2 ^ 32 - 1) / 2 ^ 3 % 2) = bit_at_and reply (2 ^ 32 - 1) 3 in
      let here : 0xfe / 2 ^ 3 % 2 ≡ min (reply / 2 ^ 3 % 2) 1 = sym (ap (λ n. n / 2 ^ 3 % 2) is) ∙ third in
      let one : reply / 2 ^ 3 % 2 ≡ 1 = omega (arith, here) in
      grind (arith, nat_tests)

  opened : (rest : List Action) (i : Mind) (w : World) (m : Around) (reply : ℕ) (set : Bool) → (bit_and reply (2 ^ 32 - 1) == all_open) ≡ set → IsFresh w.stage
      → Passes rest i (at_stage w (fresh w.stage)) m
      → PassesFrom (if◌then◌else◌ {A = ActionState} set (settled room ctrl rest i) (record { todo = wait_open ∷ rest; mind = i })) (at_stage w (unshut w.stage (has_bit reply 3))) m
  opened rest i w m reply true e f h =
      subst (λ s. PassesFrom (settled room ctrl rest i) (at_stage w s) m) (sym (ap (unshut w.stage) (open_set reply e) ∙ unshut_open w.stage f)) (settles h)
  opened rest i w m reply false e f h = opens (unshut_fresh w.stage (has_bit reply 3) f)
      (subst (λ s. Passes rest i (at_stage w s) m) (sym (fresh_again w.stage (has_bit reply 3) f)) h)

  sixteen_set : (reply : ℕ) → (bit_and reply has_come == has_come) ≡ true → has_bit reply 16 ≡ true
  sixteen_set reply e =
      let is : bit_and reply (2 ^ 16) ≡ 2 ^ 16 = grind (arith, nat_tests) in
      let by : bit_and reply (2 ^ 16) ≡ reply / 2 ^ 16 % 2 * 2 ^ 16 = and_pow reply 16 in
      let one : reply / 2 ^ 16 % 2 ≡ 1 = omega (arith, is, by) in
      grind (arith, nat_tests)

  sixteen_clear : (reply : ℕ) → (bit_and reply has_come == has_come) ≡ false → has_bit reply 16 ≡ false
  sixteen_clear reply e = by (has_bit reply 16) refl
    where
      by : (b : Bool) → has_bit reply 16 ≡ b → has_bit reply 16 ≡ false
      by false h = h
      by true h =
          let one : reply / 2 ^ 16 % 2 ≡ 1 = grind (arith, nat_tests) in
          let whole : bit_and reply (2 ^ 16) ≡ reply / 2 ^ 16 % 2 * 2 ^ 16 = and_pow reply 16 in
          let same : bit_and reply (2 ^ 16) ≡ 2 ^ 16 = omega (arith, whole, one) in
          let is : (bit_and reply (2 ^ 16) == 2 ^ 16) ≡ true = grind (arith, nat_tests) in
          let bad : ⊥ = cc in elim bad [ ]

  readied : (rest : List Action) (i : Mind) (w : World) (m : Around) (reply : ℕ) (before : Transfer) (set : Bool) → (bit_and reply has_come == has_come) ≡ set → w.stage ≡ Sent before
      → Passes rest i (at_stage w (Ready before)) m
      → PassesFrom (if◌then◌else◌ {A = ActionState} set (settled room ctrl rest i) (record { todo = Await spi_ctrl has_come has_come ∷ rest; mind = i }))
      (at_stage w (looked w.stage (has_bit reply 16))) m
  readied rest i w m reply before true e f h =
      subst (λ s. PassesFrom (settled room ctrl rest i) (at_stage w s) m) (sym (ap (looked w.stage) (sixteen_set reply e) ∙ ap (λ s. looked s true) f)) (settles h)
  readied rest i w m reply before false e f h = readies (ap (looked w.stage) (sixteen_clear reply e) ∙ ap (λ s. looked s false) f) h

  -- the words of memory are none of the registers
  memory_place : (address : ℕ) → address < 2 ^ 20 → place_at address ≡ Elsewhere
  memory_place address h =
      let a : (address == 0xfff80000) ≡ false = grind (arith, nat_tests) in
      let b : (address == 0xfff80004) ≡ false = grind (arith, nat_tests) in
      let c : (address == 0xfff80008) ≡ false = grind (arith, nat_tests) in
      let d : (address == 0xfffe000c) ≡ false = grind (arith, nat_tests) in
      rw (a, b, c, d) refl

  memory_uart : (address : ℕ) → address < 2 ^ 20 → (address == uart_data) ≡ false
  memory_uart address h = grind (arith, nat_tests)

  small_byte : (reply : ℕ) → reply % 256 < 256
  small_byte reply = omega arith

  reported : (address word reply : ℕ) {rest : List Action} {i : Mind} {w : World} {m : Around} → ShownAt shown address word
      → ((reply : ℕ) → (Told → reply ≡ word) → Passes (print (digits 8 reply) rest) i w m) → (Told → IsToldShown shown (load address) reply)
      → PassesFrom (record { todo = print (digits 8 reply) rest; mind = i }) (world_by w (load address) reply) (turned m (load address) reply)
  reported address word reply imem h told = h reply (λ t. (told t).imem refl)
  reported address word reply dmem h told = h reply (λ t. (told t).dmem refl)
  reported address word reply clock h told = h reply (λ t. (told t).clock refl)

  inside_bus : {r s : Request} → Bus r ≡ Bus s → r ≡ s
  inside_bus e = cc

  loaded : (address : ℕ) → IsLoaded room address → (request : Request) → load address ≡ Bus request → IsMine room request
  loaded address is request e = subst (IsMine room) (inside_bus e) (record { width = refl; place = is })

  stored : (address value : ℕ) → IsStored room address → (request : Request) → store address value ≡ Bus request → IsMine room request
  stored address value is request e = subst (IsMine room) (inside_bus e) (record { width = refl; place = is })

  shown_loaded : (address word : ℕ) → ShownAt shown address word → (request : Request) → load address ≡ Bus request → IsMine room request
  shown_loaded address word imem request e = loaded info_imem (inr (inr (inr (inl refl)))) request e
  shown_loaded address word dmem request e = loaded info_dmem (inr (inr (inr (inr (inl refl))))) request e
  shown_loaded address word clock request e = loaded info_clock (inr (inr (inl refl))) request e

  -- one reply more
  pub passed : {todo : List Action} {i : Mind} {w : World} {m : Around} (reply : ℕ) → room ≤ 2 ^ 20 → length m.memory ≡ room → Passes todo i w m
      → (Told → IsToldShown shown (asks todo i.bytes) reply) → IsGiven w m.memory (asks todo i.bytes) reply → todo ≢ Ask ∷ []
      → PassesFrom (answered room ctrl todo i reply) (world_by w (asks todo i.bytes) reply) (turned m (asks todo i.bytes) reply)
  passed reply small long (stops h) told given goes = elim (goes refl) [ ]
  passed reply small long (leaves h) told given goes = leaves h
  passed reply small long (gets q h) told given goes = settles (h (reply % 256) (small_byte reply))
  passed {i = i} {w = w} {m = m} reply small long (awaits {mask = mask} {bits = bits} {rest = rest} h) told given goes =
      if-from (bit_and reply mask == bits) (settled room ctrl rest i) (record { todo = Await uart_ctrl mask bits ∷ rest; mind = i }) w m (settles h) (awaits h)
  passed {i = i} {w = w} {m = m} reply small long (opens {rest = rest} e h) told given goes = opened rest i w m reply _ refl e h
  passed {i = i} {w = w} {m = m} reply small long (sets {value = value} {rest = rest} h) told given goes =
      subst (λ memory. PassesFrom (settled room ctrl rest i) w (around memory m.sent m.heard)) (sym (stored_outside m.memory uart_ctrl value (omega (arith, small, long)) (omega arith))) (settles h)
  passed {i = i} {w = w} {m = m} reply small long (sends {value = value} {rest = rest} h) told given goes =
      subst (λ memory. PassesFrom (settled room ctrl rest i) w (around memory (m.sent ++ value ∷ []) m.heard)) (sym (stored_outside m.memory uart_data value (omega (arith, small, long)) (omega arith))) (settles h)
  passed reply small long (reports {address = address} {word = word} a h) told given goes = reported address word reply a h told
  passed {i = i} {w = w} {m = m} reply small long (keeps {address = address} {rest = rest} a b h) told given goes =
      subst (λ p. PassesFrom (settled room ctrl rest i) (effect w p (Some (last_word i.bytes)) reply) (turned m (store address (last_word i.bytes)) reply)) (sym (memory_place address (omega (arith, b, small))))
      (subst (λ t. PassesFrom (settled room ctrl rest i) w (around (word_stored m.memory address (Some (last_word i.bytes))) (if t then m.sent ++ last_word i.bytes ∷ [] else m.sent) m.heard)) (sym (memory_uart address (omega (arith, b, small))))
      (subst (λ memory. PassesFrom (settled room ctrl rest i) w (around memory m.sent m.heard)) (sym (stored_inside m.memory address (last_word i.bytes) (omega (arith, b, long)))) (settles h)))
  passed {i = i} {w = w} {m = m} reply small long (enables {value = value} {rest = rest} h) told given goes =
      subst (λ memory. PassesFrom (settled room ctrl rest i) w (around memory m.sent m.heard)) (sym (stored_outside m.memory spi_ctrl value (omega (arith, small, long)) (omega arith))) (settles h)
  passed {i = i} {w = w} {m = m} reply small long (gives {value = value} {rest = rest} a h) told given goes =
      subst (λ memory. PassesFrom (settled room ctrl rest i) (effect w Datum (Some value) 0) (around memory m.sent m.heard)) (sym (stored_outside m.memory spi_data value (omega (arith, small, long)) (omega arith))) (settles h)
  passed {i = i} {w = w} {m = m} reply small long (selects {value = value} {rest = rest} a h) told given goes =
      subst (λ memory. PassesFrom (settled room ctrl rest i) (effect w Selection (Some value) 0) (around memory m.sent m.heard)) (sym (stored_outside m.memory spi_select value (omega (arith, small, long)) (omega arith))) (settles h)
  passed {i = i} {w = w} {m = m} reply small long (readies {rest = rest} {before = before} e h) told given goes = readied rest i w m reply before _ refl e h
  passed {w = w} reply small long (answers {before = before} e h) told given goes = settles (h reply (subst (λ s. IsToldAt w s reply) e given.flash))
  passed {i = i} {w = w} {m = m} reply small long (fetches {address = address} {rest = rest} a b h) told given goes =
      subst (λ p. Passes (send (bytes_of reply) rest) i (effect w p None reply) (turned m (load address) reply)) (sym (memory_place address (omega (arith, b, small))))
      (subst (λ t. Passes (send (bytes_of reply) rest) i w (around m.memory m.sent (if t then m.heard ++ reply % 256 ∷ [] else m.heard))) (sym (memory_uart address (omega (arith, b, small))))
      (subst (λ word. Passes (send (bytes_of word) rest) i w m) (sym (given.word refl (omega (arith, b, long)))) h))
  passed reply small long (waits s t f n h) told given goes = waits s t f n h
  passed reply small long (writes h) told given goes = writes h
  passed reply small long (heads h) told given goes = heads h
  passed reply small long (tails h) told given goes = tails h

  -- and each request is its own
  pub asks_mine : {todo : List Action} {i : Mind} {w : World} {m : Around} → Passes todo i w m → (request : Request) → asks todo i.bytes ≡ Bus request → IsMine room request
  asks_mine (stops h) request e = loaded uart_data (inr (inl refl)) request e
  asks_mine (leaves h) request e = let bad : ⊥ = cc in elim bad [ ]
  asks_mine (gets q h) request e = loaded uart_data (inr (inl refl)) request e
  asks_mine (awaits h) request e = loaded uart_ctrl (inl refl) request e
  asks_mine (opens f h) request e = loaded info_open (inr (inr (inr (inr (inr (inl refl)))))) request e
  asks_mine (sets {value = value} h) request e = stored uart_ctrl value (inl refl) request e
  asks_mine (sends {value = value} h) request e = stored uart_data value (inr (inl refl)) request e
  asks_mine (reports {address = address} {word = word} a h) request e = shown_loaded address word a request e
  asks_mine {i = i} (keeps {address = address} a b h) request e = stored address (last_word i.bytes) (inr (inr (inr (inr (inr (omega (arith, b), a)))))) request e
  asks_mine (enables {value = value} h) request e = stored spi_ctrl value (inr (inr (inl refl))) request e
  asks_mine (gives {value = value} a h) request e = stored spi_data value (inr (inr (inr (inl refl)))) request e
  asks_mine (selects {value = value} a h) request e = stored spi_select value (inr (inr (inr (inr (inl refl))))) request e
  asks_mine (readies f h) request e = loaded spi_ctrl (inr (inr (inr (inr (inr (inr (inl refl))))))) request e
  asks_mine (answers f h) request e = loaded spi_data (inr (inr (inr (inr (inr (inr (inr (inl refl)))))))) request e
  asks_mine (fetches {address = address} a b h) request e = loaded address (inr (inr (inr (inr (inr (inr (inr (inr (omega (arith, b), a))))))))) request e
  asks_mine (waits s t f n h) request e = loaded uart_ctrl (inl refl) request e
  asks_mine (writes h) request e = loaded uart_ctrl (inl refl) request e
  asks_mine (heads h) request e = loaded uart_ctrl (inl refl) request e
  asks_mine (tails h) request e = loaded uart_ctrl (inl refl) request e

  may : (w : World) (asked : Request) → IsAllowed w (place_at asked.addr) asked.store → (request : Request) → Bus asked ≡ Bus request → IsAllowed w (place_at request.addr) request.store
  may w asked is request e = subst (λ r. IsAllowed w (place_at r.addr) r.store) (inside_bus e) is

  shown_may : (w : World) (address word : ℕ) → ShownAt shown address word → IsAllowed w (place_at address) None
  shown_may w address word imem = tt
  shown_may w address word dmem = tt
  shown_may w address word clock = tt

  abbrev word_load : ℕ → Request
  word_load address = record { addr = address; width = width.Word; store = None }

  abbrev word_store : ℕ → ℕ → Request
  word_store address value = record { addr = address; width = width.Word; store = Some value }

  -- and one that the flash may be asked
  pub asks_allowed : {todo : List Action} {i : Mind} {w : World} {m : Around} → room ≤ 2 ^ 20 → Passes todo i w m → (request : Request) → asks todo i.bytes ≡ Bus request
      → IsAllowed w (place_at request.addr) request.store
  asks_allowed {w = w} small (stops h) request e = may w (word_load uart_data) tt request e
  asks_allowed small (leaves h) request e = let bad : ⊥ = cc in elim bad [ ]
  asks_allowed {w = w} small (gets q h) request e = may w (word_load uart_data) tt request e
  asks_allowed {w = w} small (awaits h) request e = may w (word_load uart_ctrl) tt request e
  asks_allowed {w = w} small (opens f h) request e = may w (word_load info_open) tt request e
  asks_allowed {w = w} small (sets {value = value} h) request e = may w (word_store uart_ctrl value) tt request e
  asks_allowed {w = w} small (sends {value = value} h) request e = may w (word_store uart_data value) tt request e
  asks_allowed {w = w} small (reports {address = address} {word = word} a h) request e = may w (word_load address) (shown_may w address word a) request e
  asks_allowed {i = i} {w = w} small (keeps {address = address} a b h) request e =
      may w (word_store address (last_word i.bytes)) (subst (λ p. IsAllowed w p (Some (last_word i.bytes))) (sym (memory_place address (omega (arith, b, small)))) tt) request e
  asks_allowed {w = w} small (enables {value = value} h) request e = may w (word_store spi_ctrl value) tt request e
  asks_allowed {w = w} small (gives {value = value} a h) request e = may w (word_store spi_data value) a request e
  asks_allowed {w = w} small (selects {value = value} a h) request e = may w (word_store spi_select value) a request e
  asks_allowed {w = w} small (readies f h) request e = may w (word_load spi_ctrl) tt request e
  asks_allowed {w = w} small (answers f h) request e = may w (word_load spi_data) (subst IsReady (sym f) tt) request e
  asks_allowed {w = w} small (fetches {address = address} a b h) request e =
      may w (word_load address) (subst (λ p. IsAllowed w p None) (sym (memory_place address (omega (arith, b, small)))) tt) request e
  asks_allowed {w = w} small (waits s t f n h) request e = may w (word_load uart_ctrl) tt request e
  asks_allowed {w = w} small (writes h) request e = may w (word_load uart_ctrl) tt request e
  asks_allowed {w = w} small (heads h) request e = may w (word_load uart_ctrl) tt request e
  asks_allowed {w = w} small (tails h) request e = may w (word_load uart_ctrl) tt request e
