-- Law: what a flash answers where nothing is asked of it, and what changes nothing.
use Rattle.std.specs.Prelude.{◌≡◌, ◌≢◌, ◌==◌, ℕ, Bool, true, false, List, None, Some, is_some}
use Rattle.spi_flash.specs.declared.transfer.Transfer.TheVariants.{Idle, Ignored, Opened, Command, Program}
use Rattle.spi_flash.specs.declared.transfer.UnderWay.{UnderWay}
use Rattle.spi_flash.specs.Flash.{FlashState, byte_sent, flash_answer, flash_cycle, selected, status_of}

pub record AnswersUnasked (f : FlashState) : Type 0 where
  -- a flash that isn't fitted answers 00 and does nothing
  pub absent : f.fitted ≡ false → (flash_answer f ≡ 0) × ((byte : ℕ) → byte_sent f byte ≡ f) × ((on : Bool) → selected f on ≡ f)
  -- one that isn't selected answers ff, and a byte does nothing to it
  pub idle : f.fitted ≡ true → f.transfer ≡ Idle → (flash_answer f ≡ 255) × ((byte : ℕ) → byte_sent f byte ≡ f)
  -- the command is answered ff, and so is all that comes after one that isn't followed
  pub opened : f.fitted ≡ true → f.transfer ≡ Opened → flash_answer f ≡ 255
  pub ignored : f.fitted ≡ true → f.transfer ≡ Ignored → flash_answer f ≡ 255
  -- after a command that asks neither for the status nor for the name: ff, addresses among it
  pub command : f.fitted ≡ true → (code count address : ℕ) → f.transfer ≡ Command code count address → (code == 0x05) ≡ false → (code == 0x9f) ≡ false → flash_answer f ≡ 255
  -- so are the bytes that are kept for a page
  pub page : f.fitted ≡ true → (address : ℕ) (page : List ℕ) (at : ℕ) (filled : Bool) → f.transfer ≡ Program address page at filled → flash_answer f ≡ 255
  -- to deselect a flash that isn't selected does nothing
  pub deselected_again : f.transfer ≡ Idle → selected f false ≡ f

-- an operation that starts leaves write enable set: the status is 3 from then on, until it ends
pub record ShowsBusy (f : FlashState) : Type 0 where
  pub starts : f.fitted ≡ true → f.work ≡ None → is_some (selected f false).work ≡ true → status_of (selected f false) ≡ 3
  pub goes_on : (w : UnderWay) → f.work ≡ Some w → w.left ≢ 1 → status_of (flash_cycle f) ≡ status_of f
