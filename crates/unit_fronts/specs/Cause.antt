-- A law over definitions: what the watchdog's CAUSE tells.
use Rattle.std.specs.Prelude.{◌≡◌, List}
use Rattle.unit_fronts.specs.FrontCalls.{FrontCall, after_calls}
use Rattle.unit_fronts.specs.WdtFront.{WatchdogRegisters, watchdog_front, watchdog_word}

-- no load, no store and no message changes CAUSE, so it is 0 until the front is closed for the first time, and 1 from then on
abbrev pub KeepsCause : WatchdogRegisters → Type 0
KeepsCause s = (calls : List FrontCall) → watchdog_word (after_calls watchdog_front s calls) 8 ≡ watchdog_word s 8
