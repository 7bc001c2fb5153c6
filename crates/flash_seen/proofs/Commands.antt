-- What whole commands do to the flash as it is seen from outside, and what they are answered.
use Rattle.std.proofs.Common.{◌&&◌, ◌≡◌, ◌≢◌, ◌<◌, ℕ, ◌+◌, ◌*◌, ◌/◌, ◌%◌, ◌==◌, Bool, true, false, List, [], ◌∷◌, ◌++◌, length, get_or, set, bit_and, refl, sym, ap, arith, subst, ◌∙◌, nat_lt, if◌then◌else◌}
use Rattle.std.proofs.lemmas.Bool.{eqb-true}
use Rattle.std.proofs.lemmas.Bool.Decides.{nat_tests}
use Rattle.std.proofs.lemmas.List.{get_or-replicate, get_or-set_other, get_or-set_same, length-replicate, length-set}
use Rattle.spi_flash.specs.declared.transfer.Entry.{Entry}
use Rattle.spi_flash.specs.declared.transfer.Entry.TheVariants.{Byte, Select}
use Rattle.spi_flash.specs.declared.transfer.Transfer.{Transfer}
use Rattle.spi_flash.specs.declared.transfer.Transfer.TheVariants.{Idle, Opened, Command, Read, Program}
use Rattle.spi_flash.specs.Flash.{FlashState, blank, byte_of, cells_of, flash_answer, flash_size, followed, programmed, transfer_answer}
use Rattle.spi_flash.specs.Laws.{after_bytes}
use Rattle.spi_flash.proofs.Cells.{cells_same}
use Rattle.spi_flash.proofs.Laws.{holds_of_answers}
use Rattle.flash_seen.specs.Commands.{address_by, after_command, bytes_sent, commanded_by, last_on, page_programmed, whole_command}
use Rattle.flash_seen.specs.Laws.{AnswersCommands, DoesCommands, answer_after, DoesCommandsToFlash, after_entries, after_entry}
use Rattle.flash_seen.proofs.Flashes.{calm_free, drains_from, seen_selected}
use Rattle.flash_seen.specs.Seen.{Seen, answer_seen, at_rest, drain, step, NoStarts, seen}

abbrev see : List ℕ → Bool → Transfer → Seen
see cells writable transfer = record { fitted = true; cells = cells; writable = writable; transfer = transfer }

drain_append : (s : Seen) (first rest : List Entry) → drain s (first ++ rest) ≡ drain (drain s first) rest
drain_append s [] rest = refl
drain_append s (entry ∷ more) rest = drain_append (step s entry) more rest

-- a transfer after some bytes
abbrev transfer_after : Transfer → List ℕ → Transfer
transfer_after transfer [] = transfer
transfer_after transfer (byte ∷ more) = transfer_after (followed false transfer byte) more

drain_bytes : (cells : List ℕ) (writable : Bool) (transfer : Transfer) (bytes : List ℕ)
    → drain (see cells writable transfer) (bytes_sent bytes) ≡ see cells writable (transfer_after transfer bytes)
drain_bytes cells writable transfer [] = refl
drain_bytes cells writable transfer (byte ∷ more) = drain_bytes cells writable (followed false transfer byte) more

-- the deselect after a transfer
abbrev closed : List ℕ → Bool → Transfer → Seen
closed cells writable transfer = step (see cells writable transfer) (Select false)

whole : (cells : List ℕ) (writable : Bool) (bytes : List ℕ)
    → drain (see cells writable Idle) (whole_command bytes) ≡ closed cells writable (transfer_after Opened bytes)
whole cells writable bytes =
    drain_append (see cells writable Opened) (bytes_sent bytes) (Select false ∷ [])
    ∙ ap (λ s. drain s (Select false ∷ [])) (drain_bytes cells writable Opened bytes)

-- the tests on a command, one after another
data Kind (code : ℕ) : Type 0 where
  Enables : code ≡ 0x06 → Kind code
  Disables : code ≡ 0x04 → Kind code
  Reads : code ≡ 0x03 → Kind code
  Writes : code ≡ 0x02 → Kind code
  ErasesSmall : code ≡ 0x20 → Kind code
  ErasesLarge : code ≡ 0xd8 → Kind code
  Another : (code == 0x06) ≡ false → (code == 0x04) ≡ false → (code == 0x03) ≡ false → (code == 0x02) ≡ false → (code == 0x20) ≡ false → (code == 0xd8) ≡ false → Kind code

kind_by : (code : ℕ) (a b c d e f : Bool) → (code == 0x06) ≡ a → (code == 0x04) ≡ b → (code == 0x03) ≡ c → (code == 0x02) ≡ d → (code == 0x20) ≡ e → (code == 0xd8) ≡ f → Kind code
kind_by code true b c d e f p q r s t u = Enables (eqb-true code 0x06 p)
kind_by code false true c d e f p q r s t u = Disables (eqb-true code 0x04 q)
kind_by code false false true d e f p q r s t u = Reads (eqb-true code 0x03 r)
kind_by code false false false true e f p q r s t u = Writes (eqb-true code 0x02 s)
kind_by code false false false false true f p q r s t u = ErasesSmall (eqb-true code 0x20 t)
kind_by code false false false false false true p q r s t u = ErasesLarge (eqb-true code 0xd8 u)
kind_by code false false false false false false p q r s t u = Another p q r s t u

kind_of : (code : ℕ) → Kind code
kind_of code = kind_by code (code == 0x06) (code == 0x04) (code == 0x03) (code == 0x02) (code == 0x20) (code == 0xd8) refl refl refl refl refl refl

abbrev Does : List ℕ → Bool → List ℕ → ℕ → Type 0
Does cells writable more code = closed cells writable (transfer_after (Command code 0 0) more) ≡ commanded_by (see cells writable Idle) code more

-- further bytes after three change nothing
stays : (code address : ℕ) (more : List ℕ) → transfer_after (Command code 3 address) more ≡ Command code 3 address
stays code address [] = refl
stays code address (byte ∷ more) = stays code address more

abbrev sum_of : ℕ → ℕ → ℕ → ℕ
sum_of a b c = ((0 * 256 + a) * 256 + b) * 256 + c

same_address : (a b c : ℕ) → sum_of a b c % flash_size ≡ address_by a b c
same_address a b c = let e : sum_of a b c ≡ a * 65536 + b * 256 + c = omega arith in ap (λ n. n % flash_size) e

enables : (cells : List ℕ) (writable : Bool) (more : List ℕ) → Does cells writable more 0x06
enables cells writable [] = refl
enables cells writable (a ∷ []) = refl
enables cells writable (a ∷ b ∷ []) = refl
enables cells writable (a ∷ b ∷ c ∷ more) = ap (closed cells writable) (stays 0x06 (sum_of a b c) more)

disables : (cells : List ℕ) (writable : Bool) (more : List ℕ) → Does cells writable more 0x04
disables cells writable [] = refl
disables cells writable (a ∷ []) = refl
disables cells writable (a ∷ b ∷ []) = refl
disables cells writable (a ∷ b ∷ c ∷ more) = ap (closed cells writable) (stays 0x04 (sum_of a b c) more)

read_on : (cells : List ℕ) (writable : Bool) (at : ℕ) (more : List ℕ) → closed cells writable (transfer_after (Read at) more) ≡ see cells writable Idle
read_on cells writable at [] = refl
read_on cells writable at (byte ∷ more) = read_on cells writable ((at + 1) % flash_size) more

reads : (cells : List ℕ) (writable : Bool) (more : List ℕ) → Does cells writable more 0x03
reads cells writable [] = refl
reads cells writable (a ∷ []) = refl
reads cells writable (a ∷ b ∷ []) = refl
reads cells writable (a ∷ b ∷ c ∷ more) = read_on cells writable (sum_of a b c % flash_size) more

small_closed : (cells : List ℕ) (writable : Bool) (a b c : ℕ) (more : List ℕ) → closed cells writable (Command 0x20 3 (sum_of a b c)) ≡ commanded_by (see cells writable Idle) 0x20 (a ∷ b ∷ c ∷ more)
small_closed cells true a b c more = rw (same_address a b c) refl
small_closed cells false a b c more = refl

erases_small : (cells : List ℕ) (writable : Bool) (more : List ℕ) → Does cells writable more 0x20
erases_small cells writable [] = refl
erases_small cells writable (a ∷ []) = refl
erases_small cells writable (a ∷ b ∷ []) = refl
erases_small cells writable (a ∷ b ∷ c ∷ more) = ap (closed cells writable) (stays 0x20 (sum_of a b c) more) ∙ small_closed cells writable a b c more

large_closed : (cells : List ℕ) (writable : Bool) (a b c : ℕ) (more : List ℕ) → closed cells writable (Command 0xd8 3 (sum_of a b c)) ≡ commanded_by (see cells writable Idle) 0xd8 (a ∷ b ∷ c ∷ more)
large_closed cells true a b c more = rw (same_address a b c) refl
large_closed cells false a b c more = refl

erases_large : (cells : List ℕ) (writable : Bool) (more : List ℕ) → Does cells writable more 0xd8
erases_large cells writable [] = refl
erases_large cells writable (a ∷ []) = refl
erases_large cells writable (a ∷ b ∷ []) = refl
erases_large cells writable (a ∷ b ∷ c ∷ more) = ap (closed cells writable) (stays 0xd8 (sum_of a b c) more) ∙ large_closed cells writable a b c more

another_at : (cells : List ℕ) (writable : Bool) (more : List ℕ) (code : ℕ) → (code == 0x06) ≡ false → (code == 0x04) ≡ false → (code == 0x03) ≡ false → (code == 0x02) ≡ false → (code == 0x20) ≡ false
    → (code == 0xd8) ≡ false → Does cells writable more code
another_at cells writable [] code p q r s t u = rw (p, q, s, t, u) refl
another_at cells writable (a ∷ []) code p q r s t u = rw (p, q, s, t, u) refl
another_at cells writable (a ∷ b ∷ []) code p q r s t u = rw (p, q, s, t, u) refl
another_at cells writable (a ∷ b ∷ c ∷ more) code p q r s t u = rw (p, q, r, s, t, u) (ap (closed cells writable) (stays code (sum_of a b c) more) ∙ rw (p, q, t, u) refl)

-- the page that is kept

changed_by : (page : List ℕ) (at byte place : ℕ) (here : Bool) → (at == place) ≡ here → at < length page
    → get_or (set page at byte) place 255 ≡ (if here then byte else get_or page place 255)
changed_by page at byte place true e l = let same : at ≡ place = eqb-true at place e in subst (λ p. get_or (set page at byte) p 255 ≡ byte) same (get_or-set_same page at byte 255 l)
changed_by page at byte place false e l = let other : place ≢ at = differ at place e in get_or-set_other page at place byte 255 other
  where
    differ : (at place : ℕ) → (at == place) ≡ false → place ≢ at
    differ at place e = grind (arith, nat_tests)

changed_at : (page : List ℕ) (at byte place : ℕ) → at < length page → get_or (set page at byte) place 255 ≡ (if at == place then byte else get_or page place 255)
changed_at page at byte place l = changed_by page at byte place (at == place) refl l

record Paged (address at : ℕ) (bytes old : List ℕ) (transfer : Transfer) : Type 0 where
  page : List ℕ
  next : ℕ
  same : transfer ≡ Program address page next true
  places : (place : ℕ) → get_or page place 255 ≡ last_on place at bytes (get_or old place 255)

below_page : (n : ℕ) → n % 256 < 256
below_page n = omega arith

paged : (address : ℕ) (page : List ℕ) (at : ℕ) (filled : Bool) (byte : ℕ) (more : List ℕ) → length page ≡ 256 → at < 256
    → Paged address at (byte ∷ more) page (transfer_after (Program address page at filled) (byte ∷ more))
paged address page at filled byte [] n l =
    record { page = set page at byte; next = (at + 1) % 256; same = refl; places = λ place. changed_at page at byte place (omega (arith, n, l)) }
paged address page at filled byte (further ∷ more) n l =
    let rest = paged address (set page at byte) ((at + 1) % 256) true further more (length-set page at byte ∙ n) (below_page (at + 1)) in
    record {
      page = rest.page;
      next = rest.next;
      same = rest.same;
      places = λ place. rest.places place ∙ ap (last_on place ((at + 1) % 256) (further ∷ more)) (changed_at page at byte place (omega (arith, n, l)));
    }

blank_length : length blank ≡ 256
unfolding blank
blank_length = length-replicate {A = ℕ} 256 255

blank_at : (place : ℕ) → place < 256 → get_or blank place 255 ≡ 255
unfolding blank
blank_at place l = get_or-replicate {A = ℕ} 256 place 255 255 l

page_by : (old new : ℕ) (cell : ℕ) (inside : Bool) → new ≡ old → (if inside then bit_and cell new else cell) ≡ (if inside then bit_and cell old else cell)
page_by old new cell inside e = ap (λ x. if inside then bit_and cell x else cell) e

page_same : (address : ℕ) (page bytes : List ℕ) (cells : ℕ → ℕ) → ((place : ℕ) → place < 256 → get_or page place 255 ≡ last_on place (address % 256) bytes 255)
    → cells_of (programmed address page cells) ≡ cells_of (page_programmed address bytes cells)
page_same address page bytes cells e =
    cells_same (programmed address page cells) (page_programmed address bytes cells)
    (λ i l. page_by (last_on (i % 256) (address % 256) bytes 255) (get_or page (i % 256) 255) (cells i) (i / 256 == address / 256) (e (i % 256) (below_page i)))

first_place : (n : ℕ) → n % flash_size % 256 ≡ n % 256
first_place n = omega arith

written_closed : (cells : List ℕ) (writable : Bool) (a b c first : ℕ) (more : List ℕ) (transfer : Transfer)
    → Paged (sum_of a b c % flash_size) (sum_of a b c % 256) (first ∷ more) blank transfer
    → closed cells writable transfer ≡ commanded_by (see cells writable Idle) 0x02 (a ∷ b ∷ c ∷ first ∷ more)
written_closed cells false a b c first more transfer p = rw p.same refl
written_closed cells true a b c first more transfer p =
    let places : (place : ℕ) → place < 256 → get_or p.page place 255 ≡ last_on place (sum_of a b c % flash_size % 256) (first ∷ more) 255
    = λ place l. p.places place ∙ ap (last_on place (sum_of a b c % 256) (first ∷ more)) (blank_at place l)
    ∙ ap (λ at. last_on place at (first ∷ more) 255) (sym (first_place (sum_of a b c))) in
    let bytes : cells_of (programmed (sum_of a b c % flash_size) p.page (byte_of cells)) ≡ cells_of (page_programmed (sum_of a b c % flash_size) (first ∷ more) (byte_of cells))
    = page_same (sum_of a b c % flash_size) p.page (first ∷ more) (byte_of cells) places in
    ap (closed cells true) p.same ∙ ap (λ k. see k false Idle) bytes
    ∙ ap (λ n. see (cells_of (page_programmed n (first ∷ more) (byte_of cells))) false Idle) (same_address a b c)

writes : (cells : List ℕ) (writable : Bool) (more : List ℕ) → Does cells writable more 0x02
writes cells writable [] = refl
writes cells writable (a ∷ []) = refl
writes cells writable (a ∷ b ∷ []) = refl
writes cells writable (a ∷ b ∷ c ∷ []) = refl
writes cells writable (a ∷ b ∷ c ∷ first ∷ more) =
    written_closed cells writable a b c first more _
    (paged (sum_of a b c % flash_size) blank (sum_of a b c % 256) false first more blank_length (below_page (sum_of a b c)))

does_at : (cells : List ℕ) (writable : Bool) (more : List ℕ) (code : ℕ) → Kind code → Does cells writable more code
does_at cells writable more code (Enables e) = subst (Does cells writable more) (sym e) (enables cells writable more)
does_at cells writable more code (Disables e) = subst (Does cells writable more) (sym e) (disables cells writable more)
does_at cells writable more code (Reads e) = subst (Does cells writable more) (sym e) (reads cells writable more)
does_at cells writable more code (Writes e) = subst (Does cells writable more) (sym e) (writes cells writable more)
does_at cells writable more code (ErasesSmall e) = subst (Does cells writable more) (sym e) (erases_small cells writable more)
does_at cells writable more code (ErasesLarge e) = subst (Does cells writable more) (sym e) (erases_large cells writable more)
does_at cells writable more code (Another p q r s t u) = another_at cells writable more code p q r s t u

does_all : (cells : List ℕ) (writable : Bool) (bytes : List ℕ) → closed cells writable (transfer_after Opened bytes) ≡ after_command (see cells writable Idle) bytes
does_all cells writable [] = refl
does_all cells writable (code ∷ more) = does_at cells writable more code (kind_of code)

does_of : (fitted : Bool) (cells : List ℕ) (writable : Bool) (transfer : Transfer) → DoesCommands (record { fitted = fitted; cells = cells; writable = writable; transfer = transfer })
does_of fitted cells writable transfer f t bytes = rw (f, t) (whole cells writable bytes ∙ does_all cells writable bytes)

pub does_commands : (s : Seen) → DoesCommands s
does_commands s = does_of s.fitted s.cells s.writable s.transfer

-- a whole command to a flash

after_append : (f : FlashState) (first rest : List Entry) → after_entries f (first ++ rest) ≡ after_entries (after_entries f first) rest
after_append f [] rest = refl
after_append f (entry ∷ more) rest = after_append (after_entry f entry) more rest

never : (b : Bool) → (b && false) ≡ false
never true = refl
never false = refl

no_byte_starts : (s : Seen) (bytes : List ℕ) → NoStarts s (bytes_sent bytes)
no_byte_starts s [] = tt
no_byte_starts s (byte ∷ more) = (never s.fitted, no_byte_starts (step s (Byte byte)) more)

pub does_commands_to_flash : (f : FlashState) → DoesCommandsToFlash f
does_commands_to_flash f fitted idle none bytes =
    let before : List Entry = Select true ∷ bytes_sent bytes in
    let rest = drains_from before f none (never f.fitted, no_byte_starts (step (seen f) (Select true)) bytes) in
    let last = seen_selected (after_entries f before) false (calm_free (after_entries f before) rest.0) in
    ap seen (after_append f before (Select false ∷ [])) ∙ last ∙ ap (λ s. step s (Select false)) rest.1 ∙ sym (drain_append (seen f) before (Select false ∷ []))
    ∙ does_commands (seen f) fitted idle bytes

-- answers

sent_bytes : (cells : List ℕ) (writable : Bool) (transfer : Transfer) (bytes : List ℕ) → after_bytes (at_rest (see cells writable transfer)) bytes ≡ at_rest (see cells writable (transfer_after transfer bytes))
sent_bytes cells writable transfer [] = refl
sent_bytes cells writable transfer (byte ∷ more) = sent_bytes cells writable (followed false transfer byte) more

-- the answers are those of the flash to which the bytes are sent
as_sent : (cells : List ℕ) (writable : Bool) (bytes : List ℕ) → answer_after (see cells writable Idle) bytes ≡ flash_answer (after_bytes (at_rest (see cells writable Opened)) bytes)
as_sent cells writable bytes = ap answer_seen (drain_bytes cells writable Opened bytes) ∙ ap flash_answer (sym (sent_bytes cells writable Opened bytes))

status_either : (P : Transfer → Type 0) (b : Bool) (x y : Transfer) → P x → P y → P (if b then x else y)
status_either P true x y p q = p
status_either P false x y p q = q

status_from : (status : ℕ) (cells : List ℕ) (count address : ℕ) (more : List ℕ) → transfer_answer status cells (transfer_after (Command 0x05 count address) more) ≡ status
status_from status cells count address [] = refl
status_from status cells count address (byte ∷ more) =
    status_either (λ t. transfer_answer status cells (transfer_after t more) ≡ status) (nat_lt count 2) _ _ (status_from status cells (count + 1) (address * 256 + byte) more)
    (status_either (λ t. transfer_answer status cells (transfer_after t more) ≡ status) (count == 2) _ _ (status_from status cells 3 (address * 256 + byte) more)
    (status_from status cells count address more))

reads_answered : (fitted : Bool) (cells : List ℕ) (writable : Bool) (transfer : Transfer) → fitted ≡ true → transfer ≡ Idle → (a b c : ℕ) (more : List ℕ)
    → answer_after (record { fitted = fitted; cells = cells; writable = writable; transfer = transfer }) (0x03 ∷ a ∷ b ∷ c ∷ more)
    ≡ byte_of cells ((a * 65536 + b * 256 + c + length more) % flash_size)
reads_answered fitted cells writable transfer f t a b c more =
    rw (f, t) (as_sent cells writable (0x03 ∷ a ∷ b ∷ c ∷ more) ∙ (holds_of_answers (at_rest (see cells writable Opened))).reads refl refl refl a b c more)

identity_answered : (fitted : Bool) (cells : List ℕ) (writable : Bool) (transfer : Transfer) → fitted ≡ true → transfer ≡ Idle → (more : List ℕ)
    → answer_after (record { fitted = fitted; cells = cells; writable = writable; transfer = transfer }) (0x9f ∷ more) ≡ get_or (0xef ∷ 0x40 ∷ 0x17 ∷ []) (length more) 0
identity_answered fitted cells writable transfer f t more =
    rw (f, t) (as_sent cells writable (0x9f ∷ more) ∙ (holds_of_answers (at_rest (see cells writable Opened))).identity refl refl refl more)

nothing_more : (n : ℕ) → 0 + n ≡ n
nothing_more n = omega arith

status_answered : (fitted : Bool) (cells : List ℕ) (writable : Bool) (transfer : Transfer) → fitted ≡ true → transfer ≡ Idle → (more : List ℕ)
    → answer_after (record { fitted = fitted; cells = cells; writable = writable; transfer = transfer }) (0x05 ∷ more) ≡ (if writable then 2 else 0)
status_answered fitted cells writable transfer f t more =
    rw (f, t)
    (ap answer_seen (drain_bytes cells writable Opened (0x05 ∷ more)) ∙ status_from (0 + (if writable then 2 else 0)) cells 0 0 more ∙ nothing_more (if writable then 2 else 0))

pub answers_commands : (s : Seen) → AnswersCommands s
answers_commands s = record {
  reads = reads_answered s.fitted s.cells s.writable s.transfer;
  identity = identity_answered s.fitted s.cells s.writable s.transfer;
  status = status_answered s.fitted s.cells s.writable s.transfer;
}
