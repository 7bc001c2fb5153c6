-- A definition: what holds of the path to the flash while the front is open and the monitor alone asks it, by what is known of the flash by its
-- requests and their replies.
use Rattle.std.specs.Prelude.{◌≡◌, ◌≤◌, ℕ, ◌+◌, ◌%◌, Bool, true, List, [], ◌∷◌, ◌++◌, length, Option, None}
use Rattle.chip_base.specs.Messages.{credit_in}
use Rattle.chip_base.specs.declared.message.Up.{Up}
use Rattle.flash_seen.specs.Laws.{asks_status}
use Rattle.flash_seen.specs.Seen.{NoStarts, Seen, drain, seen}
use Rattle.flash_seen.specs.World.{Idle, IsAnswer, IsHeard, Ready, Sent, Shut, Stage, World}
use Rattle.spi_flash.specs.Flash.{FlashState}
use Rattle.spi_flash.specs.declared.transfer.Entry.{Entry}
use Rattle.spi_flash.specs.declared.transfer.Entry.TheVariants.{Byte, Select}
use Rattle.spi_flash.specs.declared.transfer.Transfer.{Transfer}
use Rattle.monitor_paths.specs.FlashPath.{FlashPath, waiting}
use Rattle.soc_words.specs.Link.{NoneBehind, all_on, count_on}
use Rattle.monitor_paths.specs.OnLinks.{word_in, words_in}

-- these entries are selections and deselects
abbrev pub AreSelections : List Entry → Type 0
AreSelections [] = Unit {0}
AreSelections (Byte byte ∷ rest) = ⊥
AreSelections (Select on ∷ rest) = AreSelections rest

-- no operation is under way, and none of these entries starts one
pub record IsFree (flash : FlashState) (entries : List Entry) : Type 0 where
  pub none : flash.work ≡ None
  pub starts : NoStarts (seen flash) entries

-- a word that the unit sent up is the answer, and a status that says so is told of a flash that does nothing
pub record IsGiven (known : Seen) (free : Bool) (flash : FlashState) (before : Transfer) (word : ℕ) : Type 0 where
  pub answer : IsAnswer known free before word
  pub idle : asks_status before ≡ true → word % 2 ≡ 0 → flash.work ≡ None

-- the byte wasn't exchanged yet, and no entry stands behind it
pub record IsAwaited (free : Bool) (received : List ℕ) (entries : List Entry) (up : List (Option Up)) (flash : FlashState) (before : Transfer) : Type 0 where
  pub none : received ≡ []
  pub words : all_on words_in up ≡ []
  pub earlier : List Entry
  pub byte : ℕ
  pub order : entries ≡ earlier ++ Byte byte ∷ []
  pub selections : AreSelections earlier
  pub transfer : before ≡ (drain (seen flash) earlier).transfer
  pub followed : IsHeard free before byte

-- the answer is on its way up
pub record IsRising (known : Seen) (free : Bool) (received : List ℕ) (entries : List Entry) (up : List (Option Up)) (flash : FlashState) (before : Transfer) : Type 0 where
  pub done : entries ≡ []
  pub none : received ≡ []
  pub word : ℕ
  pub words : all_on words_in up ≡ word ∷ []
  pub last : NoneBehind word_in credit_in up
  pub given : IsGiven known free flash before word

-- the answer waits in the front
pub record HasCome (known : Seen) (free : Bool) (received : List ℕ) (entries : List Entry) (up : List (Option Up)) (flash : FlashState) (before : Transfer) : Type 0 where
  pub done : entries ≡ []
  pub words : all_on words_in up ≡ []
  pub credits : count_on credit_in up ≡ 0
  pub word : ℕ
  pub one : received ≡ word ∷ []
  pub given : IsGiven known free flash before word

-- a byte was sent: so far is its exchange
pub data IsSent (known : Seen) (free : Bool) (received : List ℕ) (entries : List Entry) (up : List (Option Up)) (flash : FlashState) (before : Transfer) : Type 0 where
  Awaited : IsAwaited free received entries up flash before → IsSent known free received entries up flash before
  Rising : IsRising known free received entries up flash before → IsSent known free received entries up flash before
  Come : HasCome known free received entries up flash before → IsSent known free received entries up flash before

-- nothing is on its way but so many selections and deselects, or their credits
pub record IsIdle (most : ℕ) (received : List ℕ) (entries : List Entry) (up : List (Option Up)) : Type 0 where
  pub none : received ≡ []
  pub words : all_on words_in up ≡ []
  pub selections : AreSelections entries
  pub few : length entries + count_on credit_in up ≤ most

-- what is on its way, by the stage of the exchange
abbrev pub AtStage : Stage → Seen → Bool → List ℕ → List Entry → List (Option Up) → FlashState → Type 0
AtStage Shut known free received entries up flash = IsIdle 0 received entries up
AtStage (Idle sent) known free received entries up flash = IsIdle sent received entries up
AtStage (Sent before) known free received entries up flash = IsSent known free received entries up flash before
AtStage (Ready before) known free received entries up flash = HasCome known free received entries up flash before

pub record OpenedAt (w : World) (owing had : ℕ) (received : List ℕ) (entries : List Entry) (up : List (Option Up)) (flash : FlashState) : Type 0 where
  pub owed : owing ≡ 0
  -- all sixteen credits are in the front, with an entry on its way, or on their way up
  pub credits : had + length entries + count_on credit_in up ≡ 16
  -- the entries on their way make the flash what it is known as
  pub drained : drain (seen flash) entries ≡ w.flash
  pub free : w.free ≡ true → IsFree flash entries
  pub stage : AtStage w.stage w.flash w.free received entries up flash

abbrev pub Opened : World → FlashPath → Type 0
Opened w p = OpenedAt w p.front.owed p.front.credits p.front.received (waiting p) p.up p.unit.flash
