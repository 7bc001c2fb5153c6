-- What comes of the actions over SPI: commands to the flash, from the selection to the deselect.
use Rattle.std.proofs.Common.{◌≡◌, ℕ, zero, suc, ◌+◌, ◌*◌, ◌/◌, ◌%◌, ◌^◌, ◌<◌, ◌≤◌, Bool, true, false, not, ◌&&◌, List, [], ◌∷◌, ◌++◌, length, set, Some, refl, sym, ap, ◌∙◌, arith, append_assoc, append-nil, subst}
use Rattle.image_tool.specs.Image.{AreBytes, bytes_of, word_at}
use Rattle.soc_bus.specs.Memory.{with_bytes}
use Rattle.soc_bus.proofs.Bytes.{length_with_bytes}
use Rattle.spi_flash.specs.declared.transfer.Operation.{Operation}
use Rattle.spi_flash.specs.declared.transfer.Operation.TheVariants.{Erase, Program as Programs}
use Rattle.spi_flash.specs.declared.transfer.Entry.TheVariants.{Select}
use Rattle.spi_flash.specs.declared.transfer.Transfer.{Transfer}
use Rattle.spi_flash.specs.declared.transfer.Transfer.TheVariants.{Idle as Unselected, Opened, Command, Read, Program}
use Rattle.spi_flash.specs.Flash.{addressed, blank, byte_of, cells_of, done_by, flash_size, followed, operation_of}
use Rattle.flash_seen.specs.Seen.{starts, step}
use Rattle.flash_seen.specs.World.{World, Idle, Ready}
use Rattle.boot_monitor.specs.Actions.{Action, Collect, Drop, Keep, Mind, Way, address_sent, collects, collects_words, deselect, erase, fetches as fetching, longer, mind_after, program_bytes, program_words, send, transfer, wait, write_enable}
use Rattle.boot_gate.specs.Gate.{Shown, bytes_from}
use Rattle.boot_gate.proofs.Maps.{burn, erased_at, kept, low, words_in}
use Rattle.boot_gate.proofs.Passing.{Around, Ending, Passes, around, fetches, keeps, passes-transfer, passes-wait, seen_as, selects, stays_free, with_status, world_at}
use Rattle.boot_gate.proofs.Stores.{low_last, with_more, with_none}

-- a transfer after some bytes
abbrev pub transfer_after : Transfer → List ℕ → Transfer
transfer_after before [] = before
transfer_after before (b ∷ bs) = transfer_after (followed false before b) bs

-- the page that is programmed once bytes were sent
page_after : (a : ℕ) (page : List ℕ) (at : ℕ) (bs : List ℕ) → operation_of (transfer_after (Program a page at true) bs) ≡ Some (Programs a (kept page at bs))
page_after a page at [] = refl
page_after a page at (b ∷ bs) = page_after a (set page at b) ((at + 1) % 256) bs

-- three bytes of an address make it
abbrev high_byte : ℕ → ℕ
high_byte a = a / 2 ^ 16 % 2 ^ 8 % 256

abbrev middle_byte : ℕ → ℕ
middle_byte a = a / 2 ^ 8 % 2 ^ 8 % 256

abbrev low_byte : ℕ → ℕ
low_byte a = a % 2 ^ 8 % 256

address_is : (a : ℕ) → a < 2 ^ 23 → ((0 * 256 + high_byte a) * 256 + middle_byte a) * 256 + low_byte a ≡ a
address_is a l = omega (arith, l)

inside : (a : ℕ) → a < 2 ^ 23 → a % flash_size ≡ a
inside a l = omega (arith, l)

-- the flash's bytes in two parts, how many they are, and that they are bytes
pub bytes_from-more : (cells : List ℕ) (at a b : ℕ) → bytes_from cells at (a + b) ≡ bytes_from cells at a ++ bytes_from cells (at + a) b
bytes_from-more cells at zero b =
    let none : 0 + b ≡ b = omega arith in
    let here : at ≡ at + 0 = omega arith in
    ap (bytes_from cells at) none ∙ ap (λ n. bytes_from cells n b) here
bytes_from-more cells at (suc a) b =
    let e : suc a + b ≡ suc (a + b) = omega arith in
    ap (bytes_from cells at) e ∙ ap (λ bs. byte_of cells at % 256 ∷ bs) (bytes_from-more cells (at + 1) a b
    ∙ ap (λ n. bytes_from cells (at + 1) a ++ bytes_from cells n b) (omega arith))

pub bytes_from-length : (cells : List ℕ) (at n : ℕ) → length (bytes_from cells at n) ≡ n
bytes_from-length cells at zero = refl
bytes_from-length cells at (suc n) = ap suc (bytes_from-length cells (at + 1) n)

pub bytes_from-bytes : (cells : List ℕ) (at n : ℕ) → AreBytes (bytes_from cells at n)
bytes_from-bytes cells at zero = tt
bytes_from-bytes cells at (suc n) = (omega arith, bytes_from-bytes cells (at + 1) n)

abbrev pub no_bytes : ℕ → List ℕ
no_bytes zero = []
no_bytes (suc n) = 0 ∷ no_bytes n

module _ (room ctrl : ℕ) (shown : Shown) (Told : Type 0) (Q : Ending → Mind → World → Around → Type 0) where
  abbrev P : List Action → Mind → World → Around → Type 0
  P = Passes room ctrl shown Told Q

  -- a flash of which no operation is under way
  abbrev pub at_rest : List ℕ → Bool → Transfer → ℕ → World
  at_rest cells writable before sent = world_at (seen_as true cells writable before) true (Idle sent)

  -- where none is fitted
  abbrev pub without : List ℕ → Bool → ℕ → World
  without cells writable sent = world_at (seen_as false cells writable Unselected) true (Idle sent)

  -- a byte to a flash, and to none
  pub passes-byte : (b : ℕ) (rest : List Action) (i : Mind) (cells : List ℕ) (writable : Bool) (before : Transfer) (k : ℕ) (m : Around) → k < 3
      → P rest i (at_rest cells writable (followed false before (b % 256)) 0) m → P (transfer b Drop rest) i (at_rest cells writable before k) m
  passes-byte b rest i cells writable before k m l h = passes-transfer room ctrl shown Told Q b Drop rest i (seen_as true cells writable before) true k m l (λ e f. refl)
      (λ reply told. subst (λ free. P rest i (world_at (seen_as true cells writable (followed false before (b % 256))) free (Idle 0)) m) (sym (stays_free (Ready before) reply)) h)

  pub passes-byte_none : (b : ℕ) (way : Way) (rest : List Action) (i : Mind) (cells : List ℕ) (writable : Bool) (k : ℕ) (m : Around) → k < 3
      → P rest (mind_after way i 0) (without cells writable 0) m → P (transfer b way rest) i (without cells writable k) m
  passes-byte_none b way rest i cells writable k m l h = passes-transfer room ctrl shown Told Q b way rest i (seen_as false cells writable Unselected) true k m l (λ e f. refl)
      (λ reply told. subst (λ free. P rest (mind_after way i reply) (world_at (seen_as false cells writable Unselected) free (Idle 0)) m) (sym (stays_free (Ready Unselected) reply))
      (subst (λ reply. P rest (mind_after way i reply) (without cells writable 0) m) (sym (told.absent refl)) h))

  -- write enable, with a flash and without one
  pub passes-write_enable : (rest : List Action) (i : Mind) (cells : List ℕ) (writable : Bool) (k : ℕ) (m : Around) → k < 2
      → P rest i (at_rest cells true Unselected 1) m → P (write_enable rest) i (at_rest cells writable Unselected k) m
  passes-write_enable rest i cells writable k m l h =
      let first : k < 2 = omega (arith, l) in
      let last : 0 < 2 = omega arith in
      selects first (passes-byte 6 (deselect ∷ rest) i cells writable Opened (suc k) m (omega (arith, l)) (selects last h))

  pub passes-write_enable_none : (rest : List Action) (i : Mind) (cells : List ℕ) (writable : Bool) (k : ℕ) (m : Around) → k < 2
      → P rest i (without cells writable 1) m → P (write_enable rest) i (without cells writable k) m
  passes-write_enable_none rest i cells writable k m l h =
      let first : k < 2 = omega (arith, l) in
      let last : 0 < 2 = omega arith in
      selects first (passes-byte_none 6 Drop (deselect ∷ rest) i cells writable (suc k) m (omega (arith, l)) (selects last h))

  -- a command and its address, to a flash and to none
  pub passes-address : (code a : ℕ) (rest : List Action) (i : Mind) (cells : List ℕ) (writable : Bool) (k : ℕ) (m : Around) → k < 2 → a < 2 ^ 23
      → P rest i (at_rest cells writable (addressed (code % 256) a) 0) m → P (address_sent code a rest) i (at_rest cells writable Unselected k) m
  passes-address code a rest i cells writable k m l small h =
      let first : k < 2 = omega (arith, l) in
      let few : 0 < 3 = omega arith in
      let one : Transfer = followed false (Command (code % 256) 0 0) (high_byte a) in
      let two : Transfer = followed false one (middle_byte a) in
      let three : followed false two (low_byte a) ≡ addressed (code % 256) a = ap (addressed (code % 256)) (address_is a small) in
      selects first (
      passes-byte code _ i cells writable Opened (suc k) m (omega (arith, l)) (
      passes-byte (a / 2 ^ 16 % 2 ^ 8) _ i cells writable (Command (code % 256) 0 0) 0 m few (
      passes-byte (a / 2 ^ 8 % 2 ^ 8) _ i cells writable one 0 m few (
      passes-byte (a % 2 ^ 8) rest i cells writable two 0 m few (
      subst (λ t. P rest i (at_rest cells writable t 0) m) (sym three) h)))))

  pub passes-address_none : (code a : ℕ) (rest : List Action) (i : Mind) (cells : List ℕ) (writable : Bool) (k : ℕ) (m : Around) → k < 2
      → P rest i (without cells writable 0) m → P (address_sent code a rest) i (without cells writable k) m
  passes-address_none code a rest i cells writable k m l h =
      let first : k < 2 = omega (arith, l) in
      let few : 0 < 3 = omega arith in
      selects first (
      passes-byte_none code Drop _ i cells writable (suc k) m (omega (arith, l)) (
      passes-byte_none (a / 2 ^ 16 % 2 ^ 8) Drop _ i cells writable 0 m few (
      passes-byte_none (a / 2 ^ 8 % 2 ^ 8) Drop _ i cells writable 0 m few (
      passes-byte_none (a % 2 ^ 8) Drop rest i cells writable 0 m few h))))

  -- an operation is started, and waited for

  started_flash : (cells : List ℕ) (before : Transfer) (operation : Operation) → operation_of before ≡ Some operation
      → step (seen_as true cells true before) (Select false) ≡ seen_as true (cells_of (done_by operation (byte_of cells))) false Unselected
  started_flash cells before operation e = rw e refl

  started_free : (cells : List ℕ) (before : Transfer) (operation : Operation) → operation_of before ≡ Some operation
      → not (starts (seen_as true cells true before) (Select false)) && true ≡ false
  started_free cells before operation e = rw e refl

  passes-starts : (operation : Operation) (before : Transfer) (rest : List Action) (i : Mind) (cells : List ℕ) (m : Around) → operation_of before ≡ Some operation
      → ((status : ℕ) → P rest (with_status i status) (at_rest (cells_of (done_by operation (byte_of cells))) false Unselected 1) m)
      → P (deselect ∷ wait rest) i (at_rest cells true before 0) m
  passes-starts operation before rest i cells m e h =
      let last : 0 < 2 = omega arith in
      selects last (
      subst (λ g. P (wait rest) i (world_at g (not (starts (seen_as true cells true before) (Select false)) && true) (Idle 1)) m) (sym (started_flash cells before operation e)) (
      subst (λ free. P (wait rest) i (world_at (seen_as true (cells_of (done_by operation (byte_of cells))) false Unselected) free (Idle 1)) m) (sym (started_free cells before operation e)) (
      passes-wait room ctrl shown Told Q true rest i (cells_of (done_by operation (byte_of cells))) false false 1 true m (omega arith) (λ f. let bad : ⊥ = cc in elim bad [ ]) h)))

  -- an erase
  pub passes-erase : (a : ℕ) (rest : List Action) (i : Mind) (cells : List ℕ) (writable : Bool) (k : ℕ) (m : Around) → k < 2 → a < 2 ^ 23
      → ((status : ℕ) → P rest (with_status i status) (at_rest (erased_at cells a) false Unselected 1) m)
      → P (erase a rest) i (at_rest cells writable Unselected k) m
  passes-erase a rest i cells writable k m l small h =
      passes-write_enable (address_sent 0x20 a (deselect ∷ wait rest)) i cells writable k m l (
      passes-address 0x20 a (deselect ∷ wait rest) i cells true 1 m (omega arith) small (
      passes-starts (Erase 4096 a) (Command 0x20 3 a) rest i cells m
      (ap (λ a. Some (Erase 4096 a)) (inside a small)) h))

  -- bytes to it, and words of IMEM
  pub passes-send : (bs : List ℕ) (rest : List Action) (i : Mind) (cells : List ℕ) (writable : Bool) (before : Transfer) (m : Around)
      → P rest i (at_rest cells writable (transfer_after before (low bs)) 0) m → P (send bs rest) i (at_rest cells writable before 0) m
  passes-send [] rest i cells writable before m h = h
  passes-send (b ∷ bs) rest i cells writable before m h =
      passes-byte b (send bs rest) i cells writable before 0 m (omega arith) (passes-send bs rest i cells writable (followed false before (b % 256)) m h)

  pub passes-fetches : (n from : ℕ) (rest : List Action) (i : Mind) (cells : List ℕ) (writable : Bool) (before : Transfer) (m : Around) → from % 4 ≡ 0 → from + 4 * n ≤ room
      → P rest i (at_rest cells writable (transfer_after before (words_in m.memory from n)) 0) m → P (fetching from n rest) i (at_rest cells writable before 0) m
  passes-fetches zero from rest i cells writable before m four l h = h
  passes-fetches (suc n) from rest i cells writable before m four l h =
      fetches four (omega (arith, l)) (
      passes-send (bytes_of (word_at m.memory from)) (fetching (from + 4) n rest) i cells writable before m (
      passes-fetches n (from + 4) rest i cells writable (transfer_after before (low (bytes_of (word_at m.memory from)))) m (omega (arith, four)) (omega (arith, l)) h))

  -- a program of bytes, and one of words of IMEM
  program_is : (a : ℕ) (bs : List ℕ) → a < 2 ^ 23 → 0 < length bs
      → operation_of (transfer_after (addressed 0x02 a) bs) ≡ Some (Programs a (kept blank (a % 256) bs))
  program_is a [] small some = absurd (omega (arith, some))
  program_is a (b ∷ bs) small some =
      page_after (a % flash_size) (set blank (a % 256) b) ((a % 256 + 1) % 256) bs
      ∙ ap (λ n. Some (Programs n (kept blank (a % 256) (b ∷ bs)))) (inside a small)

  pub passes-program_bytes : (a : ℕ) (bs : List ℕ) (rest : List Action) (i : Mind) (cells : List ℕ) (writable : Bool) (k : ℕ) (m : Around) → k < 2 → a < 2 ^ 23 → 0 < length (low bs)
      → ((status : ℕ) → P rest (with_status i status) (at_rest (burn a (low bs) cells) false Unselected 1) m)
      → P (program_bytes a bs rest) i (at_rest cells writable Unselected k) m
  passes-program_bytes a bs rest i cells writable k m l small some h =
      passes-write_enable (address_sent 0x02 a (send bs (deselect ∷ wait rest))) i cells writable k m l (
      passes-address 0x02 a (send bs (deselect ∷ wait rest)) i cells true 1 m (omega arith) small (
      passes-send bs (deselect ∷ wait rest) i cells true (addressed 0x02 a) m (
      passes-starts (Programs a (kept blank (a % 256) (low bs))) (transfer_after (addressed 0x02 a) (low bs)) rest i cells m
      (program_is a (low bs) small some) h)))

  pub passes-program_words : (a from n : ℕ) (rest : List Action) (i : Mind) (cells : List ℕ) (writable : Bool) (k : ℕ) (m : Around) → k < 2 → a < 2 ^ 23
      → from % 4 ≡ 0 → from + 4 * n ≤ room → 0 < length (words_in m.memory from n)
      → ((status : ℕ) → P rest (with_status i status) (at_rest (burn a (words_in m.memory from n) cells) false Unselected 1) m)
      → P (program_words a from n rest) i (at_rest cells writable Unselected k) m
  passes-program_words a from n rest i cells writable k m l small four within some h =
      passes-write_enable (address_sent 0x02 a (fetching from n (deselect ∷ wait rest))) i cells writable k m l (
      passes-address 0x02 a (fetching from n (deselect ∷ wait rest)) i cells true 1 m (omega arith) small (
      passes-fetches n from (deselect ∷ wait rest) i cells true (addressed 0x02 a) m four within (
      passes-starts (Programs a (kept blank (a % 256) (words_in m.memory from n)))
      (transfer_after (addressed 0x02 a) (words_in m.memory from n)) rest i cells m (program_is a (words_in m.memory from n) small some) h)))

  -- bytes are read

  passes-collect : (rest : List Action) (i : Mind) (cells : List ℕ) (writable : Bool) (at : ℕ) (m : Around)
      → P rest (longer i (byte_of cells at % 256 ∷ [])) (at_rest cells writable (Read ((at + 1) % flash_size)) 0) m
      → P (transfer 0 Collect rest) i (at_rest cells writable (Read at) 0) m
  passes-collect rest i cells writable at m h = passes-transfer room ctrl shown Told Q 0 Collect rest i (seen_as true cells writable (Read at)) true 0 m (omega arith) (λ e f. refl)
      (λ reply told. subst (λ x. P rest (longer i (x % 256 ∷ [])) (at_rest cells writable (Read ((at + 1) % flash_size)) 0) m) (sym (told.other refl refl)) h)

  -- so many
  pub passes-collects : (n : ℕ) (rest : List Action) (i : Mind) (cells : List ℕ) (writable : Bool) (at : ℕ) (m : Around) → at + n ≤ flash_size
      → P rest (longer i (bytes_from cells at n)) (at_rest cells writable (Read ((at + n) % flash_size)) 0) m
      → P (collects n rest) i (at_rest cells writable (Read (at % flash_size)) 0) m
  passes-collects zero rest i cells writable at m l h =
      subst (λ n. P rest i (at_rest cells writable (Read (n % flash_size)) 0) m) (nothing_more at)
      (subst (λ bs. P rest (record i { bytes = bs }) (at_rest cells writable (Read ((at + 0) % flash_size)) 0) m) (append-nil i.bytes) h)
    where
      nothing_more : (n : ℕ) → n + 0 ≡ n
      nothing_more n = omega arith
  passes-collects (suc n) rest i cells writable at m l h =
      let here : at % flash_size ≡ at = omega (arith, l) in
      let next : at + 1 + n ≡ at + suc n = omega arith in
      subst (λ k. P (collects (suc n) rest) i (at_rest cells writable (Read k) 0) m) (sym here) (
      passes-collect (collects n rest) i cells writable at m (
      passes-collects n rest (longer i (byte_of cells at % 256 ∷ [])) cells writable (at + 1) m (omega (arith, l)) (
      subst (λ k. P rest (longer (longer i (byte_of cells at % 256 ∷ [])) (bytes_from cells (at + 1) n)) (at_rest cells writable (Read (k % flash_size)) 0) m) (sym next) (
      subst (λ bs. P rest (record i { bytes = bs }) (at_rest cells writable (Read ((at + suc n) % flash_size)) 0) m) (sym (append_assoc i.bytes (byte_of cells at % 256 ∷ []) (bytes_from cells (at + 1) n))) h))))

  -- words of a payload are read, and stand in memory one behind another
  pub passes-collects_words : (n to : ℕ) (rest : List Action) (i : Mind) (cells : List ℕ) (writable : Bool) (at : ℕ) (m : Around) → to % 4 ≡ 0 → to + 4 * n ≤ room → length m.memory ≡ room
      → at + 4 * n ≤ flash_size
      → P rest (longer i (bytes_from cells at (4 * n))) (at_rest cells writable (Read ((at + 4 * n) % flash_size)) 0) (around (with_bytes m.memory to (bytes_from cells at (4 * n))) m.sent m.heard)
      → P (collects_words to n rest) i (at_rest cells writable (Read (at % flash_size)) 0) m
  passes-collects_words zero to rest i cells writable at m four fits long l h =
      subst (λ memory. P rest i (at_rest cells writable (Read (at % flash_size)) 0) (around memory m.sent m.heard)) (with_none m.memory to) (
      subst (λ n. P rest i (at_rest cells writable (Read (n % flash_size)) 0) (around (with_bytes m.memory to []) m.sent m.heard)) (nothing_more at) (
      subst (λ bs. P rest (record i { bytes = bs }) (at_rest cells writable (Read ((at + 0) % flash_size)) 0) (around (with_bytes m.memory to []) m.sent m.heard)) (append-nil i.bytes) h))
    where
      nothing_more : (n : ℕ) → n + 0 ≡ n
      nothing_more n = omega arith
  passes-collects_words (suc n) to rest i cells writable at m four fits long l h =
      let word : List ℕ = bytes_from cells at 4 in
      let more : List ℕ = bytes_from cells (at + 4) (4 * n) in
      let four_long : length word ≡ 4 = refl in
      let all : bytes_from cells at (4 * suc n) ≡ word ++ more = ap (bytes_from cells at) (count n) ∙ bytes_from-more cells at 4 (4 * n) in
      let next : at + 4 + 4 * n ≡ at + 4 * suc n = omega arith in
      passes-collects 4 (Keep to ∷ collects_words (to + 4) n rest) i cells writable at m (omega (arith, l)) (
      keeps four (omega (arith, fits)) (
      subst (λ bs. P (collects_words (to + 4) n rest) (longer i word) (at_rest cells writable (Read ((at + 4) % flash_size)) 0) (around (with_bytes m.memory to bs) m.sent m.heard)) (sym (low_last i.bytes word four_long (bytes_from-bytes cells at 4))) (
      passes-collects_words n (to + 4) rest (longer i word) cells writable (at + 4) (around (with_bytes m.memory to word) m.sent m.heard) (omega (arith, four)) (omega (arith, fits))
      (length_with_bytes m.memory to word (omega (arith, fits, long)) ∙ long) (omega (arith, l)) (
      subst (λ k. P rest (longer (longer i word) more) (at_rest cells writable (Read (k % flash_size)) 0) (around (with_bytes (with_bytes m.memory to word) (to + 4) more) m.sent m.heard)) (sym next) (
      subst (λ memory. P rest (longer (longer i word) more) (at_rest cells writable (Read ((at + 4 * suc n) % flash_size)) 0) (around memory m.sent m.heard)) (sym (with_more m.memory word more to four_long (omega (arith, fits, long)))) (
      subst (λ bs. P rest (record i { bytes = bs }) (at_rest cells writable (Read ((at + 4 * suc n) % flash_size)) 0) (around (with_bytes m.memory to (word ++ more)) m.sent m.heard)) (sym (append_assoc i.bytes word more)) (
      subst (λ bs. P rest (longer i bs) (at_rest cells writable (Read ((at + 4 * suc n) % flash_size)) 0) (around (with_bytes m.memory to bs) m.sent m.heard)) all h)))))))
    where
      count : (n : ℕ) → 4 * suc n ≡ 4 + 4 * n
      count n = omega arith

  -- where no flash is fitted, each byte is 0
  pub passes-collects_none : (n : ℕ) (rest : List Action) (i : Mind) (cells : List ℕ) (writable : Bool) (m : Around)
      → P rest (longer i (no_bytes n)) (without cells writable 0) m → P (collects n rest) i (without cells writable 0) m
  passes-collects_none zero rest i cells writable m h = subst (λ bs. P rest (record i { bytes = bs }) (without cells writable 0) m) (append-nil i.bytes) h
  passes-collects_none (suc n) rest i cells writable m h =
      passes-byte_none 0 Collect (collects n rest) i cells writable 0 m (omega arith) (
      passes-collects_none n rest (longer i (0 ∷ [])) cells writable m (
      subst (λ bs. P rest (record i { bytes = bs }) (without cells writable 0) m) (sym (append_assoc i.bytes (0 ∷ []) (no_bytes n))) h))
