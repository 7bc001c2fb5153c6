-- What comes up from the flash is a byte.
use Rattle.std.proofs.Common.{◌≡◌, ◌<◌, ◌≤◌, ◌⊎◌, inl, inr, ℕ, zero, suc, ◌+◌, ◌/◌, ◌%◌, ◌-◌, ◌==◌, Bool, true, false, ◌&&◌, List, [], ◌∷◌, ◌++◌, drop, length, map, if◌then◌else◌, Option, None, Some, refl, sym, ◌∙◌, arith, subst}
use Rattle.std.specs.Prelude.{is_some, nat_lt, replicate, slice_index_or}
use Rattle.std.proofs.lemmas.Bool.{cases_lt}
use Rattle.std.proofs.lemmas.List.{get_or_past}
use Rattle.std.proofs.lemmas.List.FromFn.{get_or-map-range_with_len, length-map-range_with_len}
use Rattle.std.proofs.lemmas.Nat.{and_le_l}
use Rattle.std.specs.List.{range_with_len}
use Rattle.chip_base.specs.Given.{Given, quiet}
use Rattle.chip_base.specs.Messages.{credit_up, with_word}
use Rattle.chip_base.specs.declared.message.Down.{Down}
use Rattle.chip_base.specs.declared.message.Down.TheVariants.{Reset, Set}
use Rattle.chip_base.specs.declared.message.Up.{Up}
use Rattle.image_tool.specs.Image.{AreBytes}
use Rattle.monitor_paths.specs.FlashPath.{Closes, FlashPath, Loads, Stores, Touch, Untouched, after_touch, front_after, heard, heard_by, path_start}
use Rattle.soc_words.specs.Link.{link_first, link_moved}
use Rattle.spi_flash.proofs.Cells.{unused_at}
use Rattle.spi_flash.specs.Flash.{FlashState, byte_of, byte_sent, cells_of, deselected, done_by, flash_answer, flash_cycle, flash_size, followed, identity, opened, selected, status_of, transfer_answer, worked}
use Rattle.spi_flash.specs.SpiCycle.{SpiState, configured, engine, engine_at, exchanged, queued, set_in, spi_cycle}
use Rattle.spi_flash.specs.declared.transfer.Entry.{Entry}
use Rattle.spi_flash.specs.declared.transfer.Entry.TheVariants.{Byte, Select}
use Rattle.spi_flash.specs.declared.transfer.Operation.{Operation}
use Rattle.spi_flash.specs.declared.transfer.Operation.TheVariants.{Program as Programs, Erase}
use Rattle.spi_flash.specs.declared.transfer.Transfer.{Transfer}
use Rattle.spi_flash.specs.declared.transfer.Transfer.TheVariants.{Idle, Ignored, Opened, Command, Read, Program}
use Rattle.spi_flash.specs.declared.transfer.UnderWay.{UnderWay}
use Rattle.unit_fronts.specs.SerialRegisters.{SerialRegisters, credited, received_by, serial_arrived_closed, serial_arrived_open, serial_control_stored, serial_is_open, spent, without_oldest}
use Rattle.unit_fronts.specs.SpiFront.{spi_kind}

-- the word of a message up is a byte
abbrev pub IsByteUp : Option Up → Type 0
IsByteUp None = Unit {0}
IsByteUp (Some up) = up.word < 256

abbrev pub AreBytesUp : List (Option Up) → Type 0
AreBytesUp [] = Unit {0}
AreBytesUp (up ∷ rest) = IsByteUp up × AreBytesUp rest

-- a flash holds bytes
abbrev pub HasBytesAll : FlashState → Type 0
HasBytesAll f = (i : ℕ) → byte_of f.cells i < 256

-- what waits in the front, what is on its way up and what the flash holds are bytes
pub record CarriesBytes (p : FlashPath) : Type 0 where
  pub received : AreBytes p.front.received
  pub rising : AreBytesUp p.up
  pub cells : HasBytesAll p.unit.flash

-- the front

either : (b : Bool) (x y : SerialRegisters) → AreBytes x.received → AreBytes y.received → AreBytes (if◌then◌else◌ {A = SerialRegisters} b x y).received
either true x y hx hy = hx
either false x y hx hy = hy

one_more : (bytes : List ℕ) (byte : ℕ) → AreBytes bytes → byte < 256 → AreBytes (bytes ++ byte ∷ [])
one_more [] byte all small = (small, tt)
one_more (b ∷ bytes) byte all small = (all.0, one_more bytes byte all.1 small)

one_less : (bytes : List ℕ) → AreBytes bytes → AreBytes (drop 1 bytes)
one_less [] all = tt
one_less (b ∷ bytes) all = all.1

credited_bytes : (s : SerialRegisters) (credit : Bool) → AreBytes s.received → AreBytes (credited s credit).received
credited_bytes s true all = all
credited_bytes s false all = all

received_bytes : (s : SerialRegisters) (has : Bool) (word : ℕ) → AreBytes s.received → word < 256 → AreBytes (received_by s has word).received
received_bytes s false word all small = all
received_bytes s true word all small =
    either (nat_lt (length s.received) 16) (record s { received = s.received ++ word ∷ [] }) (record s { overrun = true }) (one_more s.received word all small) all

-- after an arrival
pub heard_bytes : (s : SerialRegisters) (up : Option Up) → AreBytes s.received → IsByteUp up → AreBytes (heard_by s up).received
heard_bytes s None all small = all
heard_bytes s (Some up) all small =
    either (serial_is_open s) (serial_arrived_open s up) (serial_arrived_closed s up)
    (either up.done s (received_by (credited s up.credit) up.has up.word) all
    (received_bytes (credited s up.credit) up.has up.word (credited_bytes s up.credit all) small))
    (either up.done (record s { owed = s.owed - 1 }) s all all)

touched_bytes : (s : SerialRegisters) (touch : Touch) → AreBytes s.received → AreBytes (front_after s touch).received
touched_bytes s Untouched all = all
touched_bytes s (Loads reg) all =
    either (serial_is_open s) (if reg == 4 then without_oldest s else s) s (either (reg == 4) (without_oldest s) s (one_less s.received all) all) all
touched_bytes s (Stores reg word) all =
    either (serial_is_open s) (if reg == 0 then serial_control_stored s (spi_kind.kept word) else if spi_kind.takes reg then spent s else s) s
    (either (reg == 0) (serial_control_stored s (spi_kind.kept word)) (if spi_kind.takes reg then spent s else s) all
    (either (spi_kind.takes reg) (spent s) s all all)) all
touched_bytes s Closes all = tt

-- the kept bits of CTRL stay as they are at an arrival

either_kept : (n : ℕ) (b : Bool) (x y : SerialRegisters) → x.kept ≡ n → y.kept ≡ n → (if◌then◌else◌ {A = SerialRegisters} b x y).kept ≡ n
either_kept n true x y hx hy = hx
either_kept n false x y hx hy = hy

credited_kept : (s : SerialRegisters) (credit : Bool) → (credited s credit).kept ≡ s.kept
credited_kept s true = refl
credited_kept s false = refl

received_kept : (s : SerialRegisters) (has : Bool) (word : ℕ) → (received_by s has word).kept ≡ s.kept
received_kept s false word = refl
received_kept s true word =
    either_kept s.kept (nat_lt (length s.received) 16) (record s { received = s.received ++ word ∷ [] }) (record s { overrun = true }) refl refl

pub heard_kept : (s : SerialRegisters) (up : Option Up) → (heard_by s up).kept ≡ s.kept
heard_kept s None = refl
heard_kept s (Some up) =
    either_kept s.kept (serial_is_open s) (serial_arrived_open s up) (serial_arrived_closed s up)
    (either_kept s.kept up.done s (received_by (credited s up.credit) up.has up.word) refl
    (received_kept (credited s up.credit) up.has up.word ∙ credited_kept s up.credit))
    (either_kept s.kept up.done (record s { owed = s.owed - 1 }) s refl refl)

-- the flash

below : (b : Bool) (x y : ℕ) → x < 256 → y < 256 → (if◌then◌else◌ {A = ℕ} b x y) < 256
below true x y hx hy = hx
below false x y hx hy = hy

made_by : (f : ℕ → ℕ) (n : ℕ) → ((i : ℕ) → f i < 256) → (i : ℕ) → (i < n) ⊎ (n ≤ i) → byte_of (map f (range_with_len 0 n)) i < 256
made_by f n small i (inl within) = subst (λ byte. byte < 256) (sym (get_or-map-range_with_len f 0 n i i 255 within (omega arith))) (small i)
made_by f n small i (inr past) =
    let long : length (map f (range_with_len 0 n)) ≤ i = rw (length-map-range_with_len f 0 n) past in
    subst (λ byte. byte < 256) (sym (get_or_past (map f (range_with_len 0 n)) i 255 long)) (omega arith)

made_below : (f : ℕ → ℕ) → ((i : ℕ) → f i < 256) → (i : ℕ) → byte_of (cells_of f) i < 256
unfolding cells_of
made_below f small i = made_by f flash_size small i (cases_lt i flash_size)

done_below : (o : Operation) (cells : ℕ → ℕ) → ((i : ℕ) → cells i < 256) → (i : ℕ) → done_by o cells i < 256
done_below (Programs address page) cells small i =
    below (i / 256 == address / 256) _ _ (omega (arith, small i, and_le_l (cells i) (slice_index_or page (i % 256) 255))) (small i)
done_below (Erase size address) cells small i = below (i / size == address / size) _ _ (omega arith) (small i)

either_cells : (b : Bool) (x y : FlashState) → HasBytesAll x → HasBytesAll y → HasBytesAll (if◌then◌else◌ {A = FlashState} b x y)
either_cells true x y hx hy = hx
either_cells false x y hx hy = hy

worked_cells : (f : FlashState) (work : Option UnderWay) → HasBytesAll f → HasBytesAll (worked f work)
worked_cells f None all = all
worked_cells f (Some w) all =
    either_cells (w.left == 1) (record f { cells = cells_of (done_by w.operation (byte_of f.cells)); enable = false; work = None })
    (record f { work = Some (record { left = w.left - 1; operation = w.operation }) })
    (made_below (done_by w.operation (byte_of f.cells)) (done_below w.operation (byte_of f.cells) all)) all

selected_cells : (f : FlashState) (on : Bool) → HasBytesAll f → HasBytesAll (selected f on)
selected_cells f on all =
    either_cells f.fitted (if on then record f { transfer = opened f.transfer } else deselected f) f
    (either_cells on (record f { transfer = opened f.transfer }) (deselected f) all all) all

sent_cells : (f : FlashState) (byte : ℕ) → HasBytesAll f → HasBytesAll (byte_sent f byte)
sent_cells f byte all = either_cells f.fitted (record f { transfer = followed (is_some f.work) f.transfer byte }) f all all

-- its answers

status_below : (f : FlashState) → status_of f < 256
status_below f = by (is_some f.work) f.enable
  where
    by : (busy enable : Bool) → ((if busy then 1 else 0) + (if enable then 2 else 0)) < 256
    by true true = omega arith
    by true false = omega arith
    by false true = omega arith
    by false false = omega arith

identity_below : (place : ℕ) → identity place < 256
identity_below zero = omega arith
identity_below (suc zero) = omega arith
identity_below (suc (suc zero)) = omega arith
identity_below (suc (suc (suc n))) = omega arith

answer_below_in : (status : ℕ) (cells : List ℕ) (transfer : Transfer) → status < 256 → ((i : ℕ) → byte_of cells i < 256) → transfer_answer status cells transfer < 256
answer_below_in status cells Idle small all = omega arith
answer_below_in status cells Ignored small all = omega arith
answer_below_in status cells Opened small all = omega arith
answer_below_in status cells (Command code count address) small all =
    below (code == 0x05) status (if code == 0x9f then identity count else 255) small (below (code == 0x9f) (identity count) 255 (identity_below count) (omega arith))
answer_below_in status cells (Read at) small all = all at
answer_below_in status cells (Program address page at filled) small all = omega arith

answer_below : (f : FlashState) → HasBytesAll f → flash_answer f < 256
answer_below f all =
    below f.fitted (transfer_answer (status_of f) f.cells f.transfer) 0 (answer_below_in (status_of f) f.cells f.transfer (status_below f) all) (omega arith)

-- the unit

record GivesBytes (g : Given SpiState) : Type 0 where
  cells : HasBytesAll g.unit.flash
  up : IsByteUp g.up

either_given : (b : Bool) (x y : Given SpiState) → GivesBytes x → GivesBytes y → GivesBytes (if◌then◌else◌ {A = Given SpiState} b x y)
either_given true x y hx hy = hx
either_given false x y hx hy = hy

exchanged_bytes : (s : SpiState) (byte : ℕ) (rest : List Entry) (left : ℕ) → HasBytesAll s.flash → GivesBytes (exchanged s byte rest left)
exchanged_bytes s byte rest left all =
    either_given (left == 1)
    (record { unit = record s { queue = rest; left = 0; flash = byte_sent s.flash byte }; up = Some (with_word credit_up (flash_answer s.flash)); event = None })
    (quiet (record s { left = left - 1 })) (record { cells = sent_cells s.flash byte all; up = answer_below s.flash all }) (record { cells = all; up = tt })

engine_at_bytes : (s : SpiState) (queue : List Entry) → HasBytesAll s.flash → GivesBytes (engine_at s queue)
engine_at_bytes s [] all = record { cells = all; up = tt }
engine_at_bytes s (Select on ∷ rest) all =
    either_given (s.left == 0 && s.enabled) (record { unit = record s { queue = rest; flash = selected s.flash on }; up = Some credit_up; event = None }) (quiet s)
    (record { cells = selected_cells s.flash on all; up = omega arith }) (record { cells = all; up = tt })
engine_at_bytes s (Byte byte ∷ rest) all =
    either_given (s.left == 0) (if s.enabled then exchanged s byte rest s.time else quiet s) (exchanged s byte rest s.left)
    (either_given s.enabled (exchanged s byte rest s.time) (quiet s) (exchanged_bytes s byte rest s.time all) (record { cells = all; up = tt }))
    (exchanged_bytes s byte rest s.left all)

engine_bytes : (s : SpiState) → HasBytesAll s.flash → GivesBytes (engine s)
engine_bytes s all = engine_at_bytes (record s { flash = flash_cycle s.flash }) s.queue (worked_cells s.flash s.flash.work all)

either_unit : (f : FlashState) (b : Bool) (x y : SpiState) → x.flash ≡ f → y.flash ≡ f → (if◌then◌else◌ {A = SpiState} b x y).flash ≡ f
either_unit f true x y hx hy = hx
either_unit f false x y hx hy = hy

appended_flash : (s : SpiState) (entry : Entry) → (queued s entry).flash ≡ s.flash
appended_flash s entry = either_unit s.flash (nat_lt (length s.queue) 16) (record s { queue = s.queue ++ entry ∷ [] }) s refl refl

set_flash : (s : SpiState) (reg word : ℕ) → (set_in s reg word).flash ≡ s.flash
set_flash s reg word =
    either_unit s.flash (reg == 0) (configured s word)
    (if reg == 4 then queued s (Byte (word % 256)) else if reg == 8 then queued s (Select (word % 2 == 1)) else s) refl
    (either_unit s.flash (reg == 4) (queued s (Byte (word % 256))) (if reg == 8 then queued s (Select (word % 2 == 1)) else s)
    (appended_flash s (Byte (word % 256)))
    (either_unit s.flash (reg == 8) (queued s (Select (word % 2 == 1))) s (appended_flash s (Select (word % 2 == 1))) refl))

cycle_bytes : (s : SpiState) (now : ℕ) (down : Option Down) → HasBytesAll s.flash → GivesBytes (spi_cycle s now down)
unfolding spi_cycle
cycle_bytes s now None all = engine_bytes s all
cycle_bytes s now (Some Reset) all = record { cells = worked_cells s.flash s.flash.work all; up = omega arith }
cycle_bytes s now (Some (Set reg word)) all = engine_bytes (set_in s reg word) (subst HasBytesAll (sym (set_flash s reg word)) all)

-- the links

pub first_bytes : (ups : List (Option Up)) → AreBytesUp ups → IsByteUp (link_first ups)
first_bytes [] all = tt
first_bytes (up ∷ rest) all = all.0

up_more : (ups : List (Option Up)) (up : Option Up) → AreBytesUp ups → IsByteUp up → AreBytesUp (ups ++ up ∷ [])
up_more [] up all small = (small, tt)
up_more (u ∷ ups) up all small = (all.0, up_more ups up all.1 small)

moved_bytes : (ups : List (Option Up)) (up : Option Up) → AreBytesUp ups → IsByteUp up → AreBytesUp (link_moved ups up)
moved_bytes [] up all small = tt
moved_bytes (u ∷ ups) up all small = up_more ups up all.1 small

-- after the arrivals
pub arrived_bytes : (p : FlashPath) → CarriesBytes p → AreBytes (heard p).received
arrived_bytes p all = heard_bytes p.front (link_first p.up) all.received (first_bytes p.up all.rising)

-- in each cycle
pub stays_bytes : (p : FlashPath) (now : ℕ) (touch : Touch) → CarriesBytes p → CarriesBytes (after_touch p now touch)
stays_bytes p now touch all =
    let g : GivesBytes (spi_cycle p.unit now (link_first p.down)) = cycle_bytes p.unit now (link_first p.down) all.cells in
    record {
      received = touched_bytes (heard p) touch (arrived_bytes p all);
      rising = moved_bytes p.up (spi_cycle p.unit now (link_first p.down)).up all.rising g.up;
      cells = g.cells;
    }

-- at power-on
empty_bytes : (n : ℕ) → AreBytesUp (replicate n None)
empty_bytes zero = tt
empty_bytes (suc n) = (tt, empty_bytes n)

pub start_bytes : (fitted : Bool) (down up : ℕ) → CarriesBytes (path_start fitted down up)
start_bytes fitted down up = record { received = tt; rising = empty_bytes up; cells = λ i. subst (λ n. n < 256) (sym (unused_at i)) (omega arith) }
