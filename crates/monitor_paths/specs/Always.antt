-- A definition: what holds of the path to the flash whoever runs, firmware or the monitor, also after Resets.
use Rattle.std.specs.Prelude.{◌≡◌, ◌≤◌, ◌<◌, ◌+◌, ◌^◌, List, [], length}
use Rattle.chip_base.specs.Messages.{at_either_data, credit_in, done_in, entry_in, reset_in}
use Rattle.flash_seen.specs.Laws.{IsCalm}
use Rattle.spi_flash.specs.declared.transfer.Transfer.TheVariants.{Idle}
use Rattle.unit_fronts.specs.Control.{IsWritable}
use Rattle.monitor_paths.specs.FlashPath.{FlashPath, waiting}
use Rattle.soc_words.specs.Link.{NoneBehind, count_on}
use Rattle.monitor_paths.specs.OnLinks.{word_in}

-- a link has between 1 and 4,096 places
pub record IsLink {M : Type 0} (link : List M) : Type 0 where
  pub one : 1 ≤ length link
  pub most : length link ≤ 4096

-- nothing is on its way to the flash, and it isn't selected
pub record IsBlank (p : FlashPath) : Type 0 where
  pub entries : waiting p ≡ []
  pub transfer : p.unit.flash.transfer ≡ Idle

pub record Always (p : FlashPath) : Type 0 where
  pub down_places : IsLink p.down
  pub up_places : IsLink p.up
  -- the front waits for as many answers as there are Resets on the link down and their answers on the link up
  pub owed : p.front.owed ≡ count_on reset_in p.down + count_on done_in p.up
  pub writable : IsWritable p.front.kept
  pub small : p.front.kept < 2 ^ 23
  -- a closed front is as after a reset
  pub closed : 1 ≤ p.front.owed → (p.front.received ≡ []) × (p.front.credits ≡ 16)
  pub calm : IsCalm p.unit.flash
  -- no entry stands behind a Reset, and no credit and no word behind its answer
  pub behind_reset : NoneBehind reset_in (entry_in at_either_data) p.down
  pub no_credit : NoneBehind done_in credit_in p.up
  pub no_word : NoneBehind done_in word_in p.up
  -- while the answer is on its way, the unit and the link to it are as after a Reset
  pub blank : 1 ≤ count_on done_in p.up → IsBlank p
