-- What holds of each cycle of a unit without entries: laws over definitions.
use Rattle.std.specs.Prelude.{◌≡◌, ◌≢◌, ℕ, Option, None, Some}
use Rattle.chip_base.specs.declared.event.Event.{Event}
use Rattle.chip_base.specs.declared.event.EventKind.TheVariants.{Out}
use Rattle.chip_base.specs.declared.message.Down.{Down}
use Rattle.chip_base.specs.declared.message.Up.{Up}
use Rattle.chip_base.specs.Messages.{credit_in, reset_in, done_in}

-- a unit without entries gives no credit, and answers exactly a Reset, in its own cycle
pub record AnswersResets (down : Option Down) (up : Option Up) : Type 0 where
  pub credits : credit_in up ≡ 0
  pub answers : done_in up ≡ reset_in down

-- an event comes exactly where the outputs changed, and carries them
pub record TellsChange (now unit before after : ℕ) (event : Option Event) : Type 0 where
  pub changed : before ≢ after → event ≡ Some (record { cycle = now; unit = unit; kind = Out; value = after })
  pub same : before ≡ after → event ≡ None
