-- What a flash does to its bytes, what it listens to, what it answers, and how long each thing takes.
use Rattle.std.proofs.Common.{◌≡◌, ◌<◌, ◌≤◌, ◌+◌, ◌-◌, ◌*◌, ◌/◌, ◌%◌, ◌==◌, ◌&&◌, ℕ, zero, suc, Bool, true, false, List, [], ◌∷◌, ◌++◌, length, bit_and, refl, ap, sym, subst, ◌∙◌, arith, nat_lt, if◌then◌else◌, Option, None, Some, get_or}
use Rattle.std.specs.Prelude.{is_some, not, slice_index_or}
use Rattle.std.specs.Int.{bit_at}
use Rattle.std.proofs.lemmas.Nat.Bits.{bit_at_and}
use Rattle.std.proofs.Math.Nat.{mod-add-mod}
use Rattle.std.proofs.lemmas.Bool.Decides.{nat_tests}
use Rattle.chip_base.specs.Given.{Given}
use Rattle.chip_base.specs.Messages.{credit_up, reset_in, with_word}
use Rattle.chip_base.specs.declared.message.Down.{Down}
use Rattle.chip_base.specs.declared.message.Down.TheVariants.{Reset, Set}
use Rattle.spi_flash.specs.declared.transfer.Entry.{Entry}
use Rattle.spi_flash.specs.declared.transfer.Entry.TheVariants.{Byte, Select}
use Rattle.spi_flash.specs.declared.transfer.Transfer.{Transfer}
use Rattle.spi_flash.specs.declared.transfer.Transfer.TheVariants.{Idle, Ignored, Opened, Command, Read}
use Rattle.spi_flash.specs.declared.transfer.Operation.{Operation}
use Rattle.spi_flash.specs.declared.transfer.Operation.TheVariants.{Program as Programs, Erase}
use Rattle.spi_flash.specs.declared.transfer.UnderWay.{UnderWay}
use Rattle.spi_flash.specs.Flash.{FlashState, byte_of, byte_sent, cells_of, commanded, done_by, flash_answer, flash_cycle, flash_size, operation_of, selected, started, status_of, time_of, worked}
use Rattle.spi_flash.specs.SpiCycle.{SpiState, engine, queued, set_in, spi_cycle}
use Rattle.spi_flash.specs.Laws.{AnswersInTime, BeginsAtOnce, DisablesAtEnd, HoldsOfAnswers, HoldsOfByte, HoldsOfCycle, HoldsOfSelection, HoldsOfTime, Identifies, IgnoresCycles, IgnoresWhileBusy, bytes_among, KeepsCells, NoReset, OnlyClears, OnlyErases, OnlyListens, ReadsOn, StartsWhereEnabled, TakesItsTime, TellsStatus, cycled, later, after_bytes, spi_after}
use Rattle.spi_flash.proofs.Cells.{cells_at}

either : (P : ℕ → Type 0) (b : Bool) (x y : ℕ) → P x → P y → P (if b then x else y)
either P true x y p q = p
either P false x y p q = q

-- a byte after a cycle of an operation: as it was, or as the operation makes it
byte_by : (P : ℕ → Type 0) (f : FlashState) (w : UnderWay) (last : Bool) → (w.left == 1) ≡ last → (i : ℕ) → i < flash_size
    → (last ≡ true → P (done_by w.operation (byte_of f.cells) i)) → (last ≡ false → P (byte_of f.cells i)) → P (byte_of (worked f (Some w)).cells i)
byte_by P f w true e i l done kept = rw e (subst P (sym (cells_at (done_by w.operation (byte_of f.cells)) i l)) (done refl))
byte_by P f w false e i l done kept = rw e (kept refl)

byte_after : (P : ℕ → Type 0) (f : FlashState) (w : UnderWay) → f.work ≡ Some w → (i : ℕ) → i < flash_size
    → ((w.left == 1) ≡ true → P (done_by w.operation (byte_of f.cells) i)) → ((w.left == 1) ≡ false → P (byte_of f.cells i)) → P (byte_of (flash_cycle f).cells i)
byte_after P f w e i l done kept = subst (λ work. P (byte_of (worked f work).cells i)) (sym e) (byte_by P f w (w.left == 1) refl i l done kept)

no_bit_more : (a b place : ℕ) → bit_at (bit_and a b) place ≤ bit_at a place
no_bit_more a b place = let e = bit_at_and a b place in omega (arith, e)

only_clears : (f : FlashState) → OnlyClears f
only_clears f left address page e i l = (bits, outside)
  where
    w : UnderWay
    w = record { left = left; operation = Programs address page }

    bits : (place : ℕ) → bit_at (byte_of (flash_cycle f).cells i) place ≤ bit_at (byte_of f.cells i) place
    bits place =
        byte_after (λ x. bit_at x place ≤ bit_at (byte_of f.cells i) place) f w e i l
        (λ h. either (λ x. bit_at x place ≤ bit_at (byte_of f.cells i) place) (i / 256 == address / 256) _ _ (no_bit_more (byte_of f.cells i) (slice_index_or page (i % 256) 255) place) (omega arith))
        (λ h. omega arith)

    outside : (i / 256 == address / 256) ≡ false → byte_of (flash_cycle f).cells i ≡ byte_of f.cells i
    outside o = byte_after (λ x. x ≡ byte_of f.cells i) f w e i l (λ h. rw o refl) (λ h. refl)

is_one : (n : ℕ) → n ≡ 1 → (n == 1) ≡ true
is_one n e = rw e refl

only_erases : (f : FlashState) → OnlyErases f
only_erases f left size address e i l = (inside, outside)
  where
    w : UnderWay
    w = record { left = left; operation = Erase size address }

    inside : left ≡ 1 → (i / size == address / size) ≡ true → byte_of (flash_cycle f).cells i ≡ 255
    inside one o = byte_after (λ x. x ≡ 255) f w e i l (λ h. rw o refl) (λ h. let bad : true ≡ false = sym (is_one left one) ∙ h in absurd (cc bad))

    outside : (i / size == address / size) ≡ false → byte_of (flash_cycle f).cells i ≡ byte_of f.cells i
    outside o = byte_after (λ x. x ≡ byte_of f.cells i) f w e i l (λ h. rw o refl) (λ h. refl)

keeps_by : (f : FlashState) (w : UnderWay) (last : Bool) → (w.left == 1) ≡ last → is_some (worked f (Some w)).work ≡ true → (worked f (Some w)).cells ≡ f.cells
keeps_by f w true e h = let bad : false ≡ true = rw e at h in absurd (cc bad)
keeps_by f w false e h = rw e refl

keeps_at : (f : FlashState) (work : Option UnderWay) → is_some (worked f work).work ≡ is_some work → (worked f work).cells ≡ f.cells
keeps_at f None h = refl
keeps_at f (Some w) h = keeps_by f w (w.left == 1) refl h

keeps_cells : (f : FlashState) → KeepsCells f
keeps_cells f h = keeps_at f f.work h

disables_by : (f : FlashState) (w : UnderWay) (last : Bool) → (w.left == 1) ≡ last → (worked f (Some w)).work ≡ None → (worked f (Some w)).enable ≡ false
disables_by f w true e h = rw e refl
disables_by f w false e h = let bad : Some (record w { left = w.left - 1 }) ≡ None = rw e at h in absurd (cc bad)

disables_at : (f : FlashState) (work : Option UnderWay) → is_some work ≡ true → (worked f work).work ≡ None → (worked f work).enable ≡ false
disables_at f None s h = absurd (cc s)
disables_at f (Some w) s h = disables_by f w (w.left == 1) refl h

disables_at_end : (f : FlashState) → DisablesAtEnd f
disables_at_end f s h = disables_at f f.work s h

-- the countdown of an operation

not_one : (n : ℕ) → 1 < n → (n == 1) ≡ false
not_one n l = grind (arith, nat_tests)

abbrev with_work : FlashState → ℕ → Operation → FlashState
with_work f left operation = record f { work = Some (record { left = left; operation = operation }) }

counts_down : (f : FlashState) (operation : Operation) (left n : ℕ) → n < left → cycled (with_work f left operation) n ≡ with_work f (left - n) operation
counts_down f operation left zero l = let same : left ≡ left - 0 = omega arith in ap (λ k. with_work f k operation) same
counts_down f operation left (suc n) l =
    let before : cycled (with_work f left operation) n ≡ with_work f (left - n) operation = counts_down f operation left n (omega (arith, l)) in
    let more : (left - n == 1) ≡ false = not_one (left - n) (omega (arith, l)) in
    let less : left - n - 1 ≡ left - suc n = omega (arith, l) in
    let now : flash_cycle (with_work f (left - n) operation) ≡ with_work f (left - n - 1) operation = rw more refl in
    ap flash_cycle before ∙ now ∙ ap (λ k. with_work f k operation) less

abbrev finished : FlashState → Operation → FlashState
finished f operation = record f { cells = cells_of (done_by operation (byte_of f.cells)); enable = false; work = None }

ends_at : (f : FlashState) (operation : Operation) (left n : ℕ) → suc n ≡ left → cycled (with_work f left operation) (suc n) ≡ finished f operation
ends_at f operation left n e =
    let before : cycled (with_work f left operation) n ≡ with_work f (left - n) operation = counts_down f operation left n (omega (arith, e)) in
    let one : left - n ≡ 1 = omega (arith, e) in
    let last : flash_cycle (with_work f (left - n) operation) ≡ finished f operation = rw one refl in
    ap flash_cycle before ∙ last

times_out : (f : FlashState) (operation : Operation) (left n : ℕ) → 1 ≤ left → n ≡ left → cycled (with_work f left operation) n ≡ finished f operation
times_out f operation left zero p e = absurd (omega (arith, p, e))
times_out f operation left (suc n) p e = ends_at f operation left n e

takes_time : (operation : Operation) → 1 ≤ time_of operation
takes_time (Programs address page) = omega arith
takes_time (Erase size address) = either (λ n. 1 ≤ n) (size == 4096) 64000 320000 (omega arith) (omega arith)

-- what a deselect makes of a flash that starts an operation, but for its write enable
abbrev begun : FlashState → Bool → Operation → FlashState
begun f enable operation = with_work (record f { transfer = Idle; enable = enable }) (time_of operation) operation

starts_it : (f : FlashState) (operation : Operation) → f.fitted ≡ true → f.enable ≡ true → operation_of f.transfer ≡ Some operation
    → selected f false ≡ begun f (selected f false).enable operation
starts_it f operation fitted enable e = rw (fitted, e, enable) refl

takes_its_time : (f : FlashState) → TakesItsTime f
takes_its_time f operation fitted enable e n = (under_way, over)
  where
    g : FlashState
    g = record f { transfer = Idle; enable = (selected f false).enable }

    is : selected f false ≡ with_work g (time_of operation) operation
    is = starts_it f operation fitted enable e

    under_way : n < time_of operation → ((cycled (selected f false) n).cells ≡ f.cells) × (is_some (cycled (selected f false) n).work ≡ true)
    under_way l =
        let at : cycled (selected f false) n ≡ with_work g (time_of operation - n) operation
        = ap (λ s. cycled s n) is ∙ counts_down g operation (time_of operation) n l in
        (ap (λ s. s.cells) at, ap (λ s. is_some s.work) at)

    over : n ≡ time_of operation → cycled (selected f false) n ≡ record f { cells = cells_of (done_by operation (byte_of f.cells)); enable = false; transfer = Idle; work = None }
    over l = ap (λ s. cycled s n) is ∙ times_out g operation (time_of operation) n (takes_time operation) l

-- selecting and sending

started_off : (operation : Option Operation) (old : Option UnderWay) → started operation false old ≡ old
started_off None old = refl
started_off (Some operation) old = refl

starts_at : (f : FlashState) (fitted on : Bool) → f.fitted ≡ fitted → StartsWhereEnabled f on
starts_at f true true e = (λ h. rw e refl, rw e refl)
starts_at f true false e = (λ h. rw (e, h) (started_off (operation_of f.transfer) f.work), rw e refl)
starts_at f false on e = (λ h. rw e refl, rw e refl)

starts_where_enabled : (f : FlashState) (on : Bool) → StartsWhereEnabled f on
starts_where_enabled f on = starts_at f f.fitted on refl

listens_at : (f : FlashState) (byte : ℕ) (fitted : Bool) → f.fitted ≡ fitted → OnlyListens f byte
listens_at f byte true e = (rw e refl, rw e refl, rw e refl)
listens_at f byte false e = (rw e refl, rw e refl, rw e refl)

only_listens : (f : FlashState) (byte : ℕ) → OnlyListens f byte
only_listens f byte = listens_at f byte f.fitted refl

-- a cycle of the flash is none of its transfer

record Leaves (f g : FlashState) : Type 0 where
  fitted : g.fitted ≡ f.fitted
  transfer : g.transfer ≡ f.transfer

leaves_by : (f : FlashState) (w : UnderWay) (last : Bool) → (w.left == 1) ≡ last → Leaves f (worked f (Some w))
leaves_by f w true e = rw e record { fitted = refl; transfer = refl }
leaves_by f w false e = rw e record { fitted = refl; transfer = refl }

leaves_at : (f : FlashState) (work : Option UnderWay) → Leaves f (worked f work)
leaves_at f None = record { fitted = refl; transfer = refl }
leaves_at f (Some w) = leaves_by f w (w.left == 1) refl

leaves : (f : FlashState) → Leaves f (flash_cycle f)
leaves f = leaves_at f f.work

-- a command that isn't followed

record IsIgnored (f : FlashState) : Type 0 where
  fitted : f.fitted ≡ true
  transfer : f.transfer ≡ Ignored

ignored_later : (f : FlashState) (more : List (Option ℕ)) → IsIgnored f → IsIgnored (later f more)
ignored_later f [] s = s
ignored_later f (None ∷ more) s =
    ignored_later (flash_cycle f) more (record { fitted = (leaves f).fitted ∙ s.fitted; transfer = (leaves f).transfer ∙ s.transfer })
ignored_later f (Some byte ∷ more) s =
    ignored_later (byte_sent f byte) more (rw (s.fitted, s.transfer) record { fitted = refl; transfer = refl })

ignores_from : (g : FlashState) → IsIgnored g → (flash_answer g ≡ 255) × (selected g false ≡ record g { transfer = Idle })
ignores_from g s = (rw (s.fitted, s.transfer) refl, rw (s.fitted, s.transfer) refl)

ignores_while_busy : (f : FlashState) (byte : ℕ) → IgnoresWhileBusy f byte
ignores_while_busy f byte fitted opened busy other more =
    ignores_from (later (byte_sent f byte) more) (ignored_later (byte_sent f byte) more (rw (fitted, opened, busy, other) record { fitted = refl; transfer = refl }))

-- the command to read the status

record IsStatus (f : FlashState) : Type 0 where
  fitted : f.fitted ≡ true
  count : ℕ
  address : ℕ
  transfer : f.transfer ≡ Command 0x05 count address

record IsStatusCommand (transfer : Transfer) : Type 0 where
  count : ℕ
  address : ℕ
  same : transfer ≡ Command 0x05 count address

status_if : (b : Bool) (x y : Transfer) → IsStatusCommand x → IsStatusCommand y → IsStatusCommand (if b then x else y)
status_if true x y p q = p
status_if false x y p q = q

status_followed : (count address byte : ℕ) → IsStatusCommand (commanded 0x05 count address byte)
status_followed count address byte =
    status_if (nat_lt count 2) _ _ (record { count = _; address = _; same = refl })
    (status_if (count == 2) _ _ (record { count = _; address = _; same = refl }) (record { count = _; address = _; same = refl }))

status_sent : (f : FlashState) (byte : ℕ) → IsStatus f → IsStatus (byte_sent f byte)
status_sent f byte s =
    let next = status_followed s.count s.address byte in
    rw (s.fitted, s.transfer) record { fitted = refl; count = next.count; address = next.address; transfer = next.same }

status_later : (f : FlashState) (more : List (Option ℕ)) → IsStatus f → IsStatus (later f more)
status_later f [] s = s
status_later f (None ∷ more) s =
    status_later (flash_cycle f) more
    (record { fitted = (leaves f).fitted ∙ s.fitted; count = s.count; address = s.address; transfer = (leaves f).transfer ∙ s.transfer })
status_later f (Some byte ∷ more) s = status_later (byte_sent f byte) more (status_sent f byte s)

status_from : (g : FlashState) → IsStatus g → flash_answer g ≡ status_of g
status_from g s = rw (s.fitted, s.transfer) refl

status_heard : (busy : Bool) → IsStatusCommand (if busy && not (0x05 == 0x05) then Ignored else Command 0x05 0 0)
status_heard true = record { count = 0; address = 0; same = refl }
status_heard false = record { count = 0; address = 0; same = refl }

tells_status : (f : FlashState) → TellsStatus f
tells_status f fitted opened more =
    let first = status_heard (is_some f.work) in
    let begins : IsStatus (byte_sent f 0x05) = rw (fitted, opened) record { fitted = refl; count = first.count; address = first.address; transfer = first.same } in
    status_from (later (byte_sent f 0x05) more) (status_later (byte_sent f 0x05) more begins)

-- reads

abbrev flash_at : List ℕ → Bool → Transfer → FlashState
flash_at cells enable transfer = record { fitted = true; cells = cells; enable = enable; transfer = transfer; work = None }

one_further : (n m k : ℕ) → (n + 1 + k) % m ≡ (n + suc k) % m
one_further n m k = let e : n + 1 + k ≡ n + suc k = omega arith in ap (λ x. x % m) e

reads_from : (cells : List ℕ) (enable : Bool) (at : ℕ) (more : List ℕ)
    → flash_answer (after_bytes (flash_at cells enable (Read (at % flash_size))) more) ≡ byte_of cells ((at + length more) % flash_size)
reads_from cells enable at [] = let e : at ≡ at + 0 = omega arith in ap (λ n. byte_of cells (n % flash_size)) e
reads_from cells enable at (byte ∷ more) =
    let next : (at % flash_size + 1) % flash_size ≡ (at + 1) % flash_size = mod-add-mod at flash_size 1 in
    ap (λ n. flash_answer (after_bytes (flash_at cells enable (Read n)) more)) next ∙ reads_from cells enable (at + 1) more
    ∙ ap (byte_of cells) (one_further at flash_size (length more))

three_bytes : (a b c n : ℕ) → (((0 * 256 + a) * 256 + b) * 256 + c) + n ≡ a * 65536 + b * 256 + c + n
three_bytes a b c n = omega arith

reads_at : (cells : List ℕ) (enable : Bool) (a b c : ℕ) (more : List ℕ)
    → flash_answer (after_bytes (flash_at cells enable Opened) (0x03 ∷ a ∷ b ∷ c ∷ more)) ≡ byte_of cells ((a * 65536 + b * 256 + c + length more) % flash_size)
reads_at cells enable a b c more =
    reads_from cells enable (((0 * 256 + a) * 256 + b) * 256 + c) more ∙ ap (λ n. byte_of cells (n % flash_size)) (three_bytes a b c (length more))

reads_of : (fitted : Bool) (cells : List ℕ) (enable : Bool) (transfer : Transfer) (work : Option UnderWay)
    → ReadsOn (record { fitted = fitted; cells = cells; enable = enable; transfer = transfer; work = work })
reads_of fitted cells enable transfer work e o w a b c more = rw (e, o, w) (reads_at cells enable a b c more)

reads_on : (f : FlashState) → ReadsOn f
reads_on f = reads_of f.fitted f.cells f.enable f.transfer f.work

-- the name

named_from : (cells : List ℕ) (enable : Bool) (address : ℕ) (more : List ℕ) → flash_answer (after_bytes (flash_at cells enable (Command 0x9f 3 address)) more) ≡ 0
named_from cells enable address [] = refl
named_from cells enable address (byte ∷ more) = named_from cells enable address more

named_at : (cells : List ℕ) (enable : Bool) (more : List ℕ)
    → flash_answer (after_bytes (flash_at cells enable Opened) (0x9f ∷ more)) ≡ get_or (0xef ∷ 0x40 ∷ 0x17 ∷ []) (length more) 0
named_at cells enable [] = refl
named_at cells enable (a ∷ []) = refl
named_at cells enable (a ∷ b ∷ []) = refl
named_at cells enable (a ∷ b ∷ c ∷ more) = named_from cells enable (((0 * 256 + a) * 256 + b) * 256 + c) more

names_of : (fitted : Bool) (cells : List ℕ) (enable : Bool) (transfer : Transfer) (work : Option UnderWay)
    → Identifies (record { fitted = fitted; cells = cells; enable = enable; transfer = transfer; work = work })
names_of fitted cells enable transfer work e o w more = rw (e, o, w) (named_at cells enable more)

identifies : (f : FlashState) → Identifies f
identifies f = names_of f.fitted f.cells f.enable f.transfer f.work

-- cycles between bytes

rests : (f : FlashState) (work : Option UnderWay) → work ≡ None → worked f work ≡ f
rests f work e = rw e refl

cycles_among : (more : List (Option ℕ)) (f : FlashState) → f.work ≡ None → later f more ≡ after_bytes f (bytes_among more)
cycles_among [] f e = refl
cycles_among (None ∷ more) f e = ap (λ g. later g more) (rests f f.work e) ∙ cycles_among more f e
cycles_among (Some byte ∷ more) f e = let kept = only_listens f byte in cycles_among more (byte_sent f byte) (kept.1 ∙ e)

ignores_cycles : (f : FlashState) → IgnoresCycles f
ignores_cycles f e more = cycles_among more f e

-- a byte that runs

record Runs (byte left : ℕ) (flash : FlashState) (s : SpiState) : Type 0 where
  rest : List Entry
  queue : s.queue ≡ Byte byte ∷ rest
  left_is : s.left ≡ left
  flash_is : s.flash ≡ flash

runs_if : (byte left : ℕ) (flash : FlashState) (b : Bool) (s t : SpiState) → Runs byte left flash s → Runs byte left flash t → Runs byte left flash (if b then s else t)
runs_if byte left flash true s t p q = p
runs_if byte left flash false s t p q = q

runs_appended : (byte left : ℕ) (flash : FlashState) (s : SpiState) (entry : Entry) → Runs byte left flash s → Runs byte left flash (queued s entry)
runs_appended byte left flash s entry r =
    runs_if byte left flash (nat_lt (length s.queue) 16) _ _
    (record { rest = r.rest ++ entry ∷ []; queue = ap (λ q. q ++ entry ∷ []) r.queue; left_is = r.left_is; flash_is = r.flash_is }) r

-- a register that is set leaves a byte that runs
runs_set : (byte left : ℕ) (flash : FlashState) (s : SpiState) (reg word : ℕ) → Runs byte left flash s → Runs byte left flash (set_in s reg word)
runs_set byte left flash s reg word r =
    runs_if byte left flash (reg == 0) _ _ (record { rest = r.rest; queue = r.queue; left_is = r.left_is; flash_is = r.flash_is })
    (runs_if byte left flash (reg == 4) _ _ (runs_appended byte left flash s (Byte (word % 256)) r)
    (runs_if byte left flash (reg == 8) _ _ (runs_appended byte left flash s (Select (word % 2 == 1)) r) r))

record GoesOn (byte left : ℕ) (g : Given SpiState) : Type 0 where
  up : g.up ≡ None
  unit : Runs byte left g.unit.flash g.unit

goes_on_at : (enabled : Bool) (time byte left : ℕ) (rest : List Entry) (flash : FlashState) → 1 ≤ left
    → GoesOn byte left (engine (record { enabled = enabled; time = time; queue = Byte byte ∷ rest; left = left + 1; flash = flash }))
goes_on_at enabled time byte left rest flash l =
    let some : (left + 1 == 0) ≡ false = grind (arith, nat_tests) in
    let more : (left + 1 == 1) ≡ false = grind (arith, nat_tests) in
    let less : left + 1 - 1 ≡ left = omega arith in
    rw (some, more) record { up = refl; unit = record { rest = rest; queue = refl; left_is = less; flash_is = refl } }

goes_on_of : (enabled : Bool) (time byte left now_left : ℕ) (queue rest : List Entry) (flash : FlashState) → 1 ≤ left → queue ≡ Byte byte ∷ rest → now_left ≡ left + 1
    → GoesOn byte left (engine (record { enabled = enabled; time = time; queue = queue; left = now_left; flash = flash }))
goes_on_of enabled time byte left now_left queue rest flash l q e = rw (q, e) (goes_on_at enabled time byte left rest flash l)

goes_on : (s : SpiState) (byte left : ℕ) (flash : FlashState) → 1 ≤ left → Runs byte (left + 1) flash s → GoesOn byte left (engine s)
goes_on s byte left flash l r = goes_on_of s.enabled s.time byte left s.left s.queue r.rest s.flash l r.queue r.left_is

cycle_goes_on : (s : SpiState) (byte left : ℕ) (flash : FlashState) (now : ℕ) (down : Option Down) → 1 ≤ left → reset_in down ≡ 0 → Runs byte (left + 1) flash s
    → GoesOn byte left (spi_cycle s now down)
unfolding spi_cycle
cycle_goes_on s byte left flash now None l n r = goes_on s byte left flash l r
cycle_goes_on s byte left flash now (Some Reset) l n r = absurd (omega (arith, n))
cycle_goes_on s byte left flash now (Some (Set reg word)) l n r = goes_on (set_in s reg word) byte left flash l (runs_set byte (left + 1) flash s reg word r)

answers_at : (enabled : Bool) (time byte left : ℕ) (queue rest : List Entry) (flash : FlashState) → queue ≡ Byte byte ∷ rest → left ≡ 1
    → (engine (record { enabled = enabled; time = time; queue = queue; left = left; flash = flash })).up ≡ Some (with_word credit_up (flash_answer (flash_cycle flash)))
answers_at enabled time byte left queue rest flash q e = rw (q, e) refl

answers_now : (s : SpiState) (byte : ℕ) (flash : FlashState) → Runs byte 1 flash s → (engine s).up ≡ Some (with_word credit_up (flash_answer (flash_cycle flash)))
answers_now s byte flash r =
    answers_at s.enabled s.time byte s.left s.queue r.rest s.flash r.queue r.left_is ∙ ap (λ f. Some (with_word credit_up (flash_answer (flash_cycle f)))) r.flash_is

cycle_answers : (s : SpiState) (byte : ℕ) (now : ℕ) (down : Option Down) → reset_in down ≡ 0 → Runs byte 1 s.flash s
    → (spi_cycle s now down).up ≡ Some (with_word credit_up (flash_answer (flash_cycle s.flash)))
unfolding spi_cycle
cycle_answers s byte now None n r = answers_now s byte s.flash r
cycle_answers s byte now (Some Reset) n r = absurd (omega (arith, n))
cycle_answers s byte now (Some (Set reg word)) n r = answers_now (set_in s reg word) byte s.flash (runs_set byte 1 s.flash s reg word r)

still_runs : (s : SpiState) (byte left : ℕ) (before : List (Option Down)) → length before < left → NoReset before → Runs byte left s.flash s
    → Runs byte (left - length before) (spi_after s before).flash (spi_after s before)
still_runs s byte left [] l n r = let e : left ≡ left - 0 = omega arith in subst (λ k. Runs byte k s.flash s) e r
still_runs s byte left (down ∷ more) l n r =
    let one : left ≡ left - 1 + 1 = omega (arith, l) in
    let some : 1 ≤ left - 1 = omega (arith, l) in
    let next = cycle_goes_on s byte (left - 1) s.flash 0 down some n.0 (subst (λ k. Runs byte k s.flash s) one r) in
    let less : length more < left - 1 = omega (arith, l) in
    let rest = still_runs (spi_cycle s 0 down).unit byte (left - 1) more less n.1 next.unit in
    let e : left - 1 - length more ≡ left - suc (length more) = omega arith in
    subst (λ k. Runs byte k (spi_after s (down ∷ more)).flash (spi_after s (down ∷ more))) e rest

answers_in_time : (s : SpiState) → AnswersInTime s
answers_in_time s byte rest q p before last now n l = (early, in_time)
  where
    runs : length before < s.left → Runs byte (s.left - length before) (spi_after s before).flash (spi_after s before)
    runs less = still_runs s byte s.left before less n (record { rest = rest; queue = q; left_is = refl; flash_is = refl })

    early : length before + 1 < s.left → (spi_cycle (spi_after s before) now last).up ≡ None
    early less =
        let e : s.left - length before ≡ s.left - length before - 1 + 1 = omega (arith, less) in
        let r = subst (λ k. Runs byte k (spi_after s before).flash (spi_after s before)) e (runs (omega (arith, less))) in
        (cycle_goes_on (spi_after s before) byte (s.left - length before - 1) (spi_after s before).flash now last (omega (arith, less)) l r).up

    in_time : length before + 1 ≡ s.left → (spi_cycle (spi_after s before) now last).up ≡ Some (with_word credit_up (flash_answer (flash_cycle (spi_after s before).flash)))
    in_time is =
        let e : s.left - length before ≡ 1 = omega (arith, is) in
        let r = subst (λ k. Runs byte k (spi_after s before).flash (spi_after s before)) e (runs (omega (arith, is))) in
        cycle_answers (spi_after s before) byte now last l r

begins_by : (time byte : ℕ) (rest : List Entry) (flash : FlashState) (none : Bool) → (time == 0) ≡ none
    → engine (record { enabled = true; time = time; queue = Byte byte ∷ rest; left = 0; flash = flash })
    ≡ engine (record { enabled = true; time = time; queue = Byte byte ∷ rest; left = time; flash = flash })
begins_by time byte rest flash true e = rw e refl
begins_by time byte rest flash false e = rw e refl

begins_of : (enabled : Bool) (time byte left : ℕ) (queue rest : List Entry) (flash : FlashState) → queue ≡ Byte byte ∷ rest → enabled ≡ true → left ≡ 0
    → engine (record { enabled = enabled; time = time; queue = queue; left = left; flash = flash })
    ≡ engine (record { enabled = enabled; time = time; queue = queue; left = time; flash = flash })
begins_of enabled time byte left queue rest flash q n e = rw (q, n, e) (begins_by time byte rest flash (time == 0) refl)

begins_in : (s : SpiState) (byte : ℕ) (rest : List Entry) → s.queue ≡ Byte byte ∷ rest → s.enabled ≡ true → s.left ≡ 0 → engine s ≡ engine (record s { left = s.time })
begins_in s byte rest q n e = begins_of s.enabled s.time byte s.left s.queue rest s.flash q n e

begins_at_once : (s : SpiState) (now : ℕ) (down : Option Down) → BeginsAtOnce s now down
unfolding spi_cycle
begins_at_once s now None byte rest r q n e = begins_in s byte rest q n e
begins_at_once s now (Some Reset) byte rest r q n e = absurd (omega (arith, r))
begins_at_once s now (Some (Set reg word)) byte rest r q n e = begins_in (set_in s reg word) byte rest q n e

pub holds_of_cycle : (f : FlashState) → HoldsOfCycle f
holds_of_cycle f = record { program = only_clears f; erase = only_erases f; between = keeps_cells f; end = disables_at_end f }

pub holds_of_selection : (f : FlashState) (on : Bool) → HoldsOfSelection f on
holds_of_selection f on = record { enable = starts_where_enabled f on; time = takes_its_time f }

pub holds_of_byte : (f : FlashState) (byte : ℕ) → HoldsOfByte f byte
holds_of_byte f byte = record { listens = only_listens f byte; busy = ignores_while_busy f byte }

pub holds_of_answers : (f : FlashState) → HoldsOfAnswers f
holds_of_answers f = record { reads = reads_on f; identity = identifies f; status = tells_status f; cycles = ignores_cycles f }

pub holds_of_time : (s : SpiState) → HoldsOfTime s
holds_of_time s = record { begins = begins_at_once s; answers = answers_in_time s }
