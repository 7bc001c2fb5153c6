-- A front and its unit, with the lines between them.
use Rattle.std.proofs.Common.{◌≡◌, ◌≤◌, ℕ, Bool, Option}
use Rattle.chip_base.specs.Entries.{CountsEntries}
use Rattle.chip_base.specs.Messages.{done_in, reset_in}
use Rattle.chip_base.specs.declared.message.Down.{Down}
use Rattle.chip_base.specs.declared.message.Up.{Up}
use Rattle.chip_hub.specs.Cycle.{arrived_at}
use Rattle.chip_hub.proofs.Fronts.{CycleServes, HearsAnswers, ServesAnswers, ServesSerial}
use Rattle.soc_words.specs.Link.{link_first}
use Rattle.unit_fronts.specs.Owed.{one_more}
use Rattle.unit_fronts.specs.SerialRegisters.{SerialRegisters, serial_closed, serial_front_reset}
use Rattle.chip_whole.specs.Credits.{AwaitsUnit, HasPlaces, ServesUnit}
use Rattle.chip_whole.specs.Joined.{CycleOf, Joined, given_by, joined_after, joined_start}
use Rattle.chip_whole.proofs.Answers.{answers_keep, answers_start}
use Rattle.chip_whole.proofs.Credits.{cycle_keeps, empty_line, moved_line, start_has}

-- a cycle of a front and its unit, with the lines between them

places_after : {S : Type 0} (cycle : CycleOf S) (j : Joined S) (now : ℕ) (sent : Option Down) → HasPlaces j → HasPlaces (joined_after cycle j now sent)
places_after cycle j now sent h = record { down = moved_line j.down sent h.down; up = moved_line j.up (given_by cycle j now).up h.up }

pub serves_after : {S : Type 0} (takes : ℕ → Bool) (entries : S → ℕ) (cycle : CycleOf S) (p new : SerialRegisters) (j : Joined S) (now : ℕ) (fired : Bool) (sent : Option Down)
    → CycleServes serial_closed (ServesSerial takes) fired (arrived_at p (link_first j.up)) sent new
    → ((s : S) (down : Option Down) → CountsEntries takes (entries s) down (entries (cycle s now down).unit) (cycle s now down).up)
    → ServesUnit takes p entries j → ServesUnit takes new entries (joined_after cycle j now sent)
serves_after takes entries cycle p new j now fired sent s u h = record {
  places = places_after cycle j now sent h.places;
  sixteen = cycle_keeps takes p j.down (entries j.unit) j.up fired sent new _ _ h.places.down h.places.up s (u j.unit (link_first j.down)) h.sixteen;
}

pub awaits_after : {S : Type 0} (cycle : CycleOf S) (owed arrived new : ℕ) (j : Joined S) (now : ℕ) (fired : Bool) (sent : Option Down)
    → HearsAnswers owed (link_first j.up) arrived → CycleServes one_more ServesAnswers fired arrived sent new
    → ((s : S) (down : Option Down) → done_in (cycle s now down).up ≡ reset_in down)
    → AwaitsUnit owed j → AwaitsUnit new (joined_after cycle j now sent)
awaits_after cycle owed arrived new j now fired sent s v u h = record {
  places = places_after cycle j now sent h.places;
  answers = answers_keep owed arrived new j.down j.up fired sent _ h.places.down h.places.up s v (u j.unit (link_first j.down)) h.answers;
}

places_start : {S : Type 0} (unit : S) (delay : ℕ) → 1 ≤ delay → delay ≤ 4096 → HasPlaces (joined_start unit delay)
places_start unit delay l m = record { down = empty_line Down delay l m; up = empty_line Up delay l m }

pub serves_start : {S : Type 0} (takes : ℕ → Bool) (entries : S → ℕ) (unit : S) (delay : ℕ) → 1 ≤ delay → delay ≤ 4096 → entries unit ≡ 0
    → ServesUnit takes (serial_front_reset 0) entries (joined_start unit delay)
serves_start takes entries unit delay l m e = record {
  places = places_start unit delay l m;
  sixteen = rw e (start_has takes delay delay);
}

pub awaits_start : {S : Type 0} (unit : S) (delay : ℕ) → 1 ≤ delay → delay ≤ 4096 → AwaitsUnit 0 (joined_start unit delay)
awaits_start unit delay l m = record { places = places_start unit delay l m; answers = answers_start delay delay }
