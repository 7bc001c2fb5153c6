-- Law: what a cycle of the unit does to its flash.
use Rattle.std.specs.Prelude.{◌≡◌, List, ◌∷◌, Option, None, Some}
use Rattle.chip_base.specs.declared.message.Down.{Down}
use Rattle.chip_base.specs.declared.message.Down.TheVariants.{Reset, Set}
use Rattle.chip_base.specs.declared.message.Up.{Up}
use Rattle.chip_base.specs.Messages.{credit_in, reset_in}
use Rattle.spi_flash.specs.declared.transfer.Entry.{Entry}
use Rattle.spi_flash.specs.declared.transfer.Entry.TheVariants.{Byte, Select}
use Rattle.spi_flash.specs.Flash.{FlashState, broken_off, byte_sent, flash_cycle, selected}
use Rattle.spi_flash.specs.SpiCycle.{SpiState, set_in}

-- the flash once an entry was done
abbrev pub entry_done : FlashState → Entry → FlashState
entry_done f (Byte byte) = byte_sent f byte
entry_done f (Select on) = selected f on

-- the unit once the message was taken, where it isn't a Reset
abbrev pub with_message : SpiState → Option Down → SpiState
with_message s None = s
with_message s (Some Reset) = s
with_message s (Some (Set reg word)) = set_in s reg word

pub record StepsFlash (old : SpiState) (down : Option Down) (new : SpiState) (up : Option Up) : Type 0 where
  -- a Reset breaks the transfer off; an operation under way loses its cycle all the same
  pub broken : reset_in down ≡ 1 → new.flash ≡ broken_off (flash_cycle old.flash)
  -- without a credit that goes up the flash has its own cycle alone
  pub rests : reset_in down ≡ 0 → credit_in up ≡ 0 → new.flash ≡ flash_cycle old.flash
  -- the entry whose credit goes up is done to the flash, after the flash's own cycle
  pub does : reset_in down ≡ 0 → credit_in up ≡ 1 → (entry : Entry) (rest : List Entry) → (with_message old down).queue ≡ entry ∷ rest
      → new.flash ≡ entry_done (flash_cycle old.flash) entry
