-- A law over definitions: when what is sent over a link arrives.
use Rattle.std.specs.Prelude.{◌≡◌, ◌+◌, List, [], ◌∷◌, length, Option}
use Rattle.soc_words.specs.Link.{link_first}
use Rattle.delay_line.specs.Queue.{Flow, flowed}

-- the link after some cycles, one for each of what was sent in them
unfoldable pub after_sends : {M : Type 0} → Flow M → List (Option M) → Flow M
after_sends f [] = f
after_sends f (m ∷ ms) = after_sends (flowed f m) ms

-- what is sent in a cycle arrives as many cycles later as the link has places, whatever is sent in the cycles between
abbrev pub ArrivesOnTime : {M : Type 0} → Flow M → Option M → Type 0
ArrivesOnTime {M = M} f sent = (ms : List (Option M)) → length ms + 1 ≡ length f.places → link_first (after_sends (flowed f sent) ms).places ≡ sent
