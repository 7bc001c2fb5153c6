-- For the contracts of code: how the bytes of an image are taken, from UART0 or from the flash.
use Rattle.std.specs.Prelude.{ℕ, ◌+◌, ◌-◌, ◌/◌, ◌%◌, List, [], ◌∷◌}
use Rattle.boot_monitor.specs.Actions.{Action, Head, Keep, Source, Uart, Flash, Tail, collects, collects_words, deselect, takes, takes_words}

-- so many bytes
abbrev pub gathers : Source → ℕ → List Action → List Action
gathers Uart n rest = takes n rest
gathers Flash n rest = collects n rest

-- what follows a header
abbrev pub judging : Source → List Action
judging Uart = Head Uart ∷ []
judging Flash = deselect ∷ Head Flash ∷ []

-- what follows a payload
abbrev pub checking : Source → List Action
checking Uart = Tail ∷ []
checking Flash = deselect ∷ Tail ∷ []

-- so many words of a payload
abbrev pub gathers_words : Source → ℕ → ℕ → List Action
gathers_words Uart to n = takes_words to n (checking Uart)
gathers_words Flash to n = collects_words to n (checking Flash)

-- what follows a byte of a header, where so many were taken before it
abbrev pub after_header : Source → ℕ → List Action
after_header from count = gathers from (11 - count) (judging from)

-- the word of a payload that ends with this many bytes of the image is stored, and then the rest is taken
abbrev pub stores : Source → ℕ → ℕ → List Action
stores from count size = Keep (count - 16) ∷ gathers_words from (count - 12) ((12 + size - count) / 4)

-- what follows a byte of a payload, where so many of the image were taken before it
abbrev pub after_payload : Source → ℕ → ℕ → List Action
after_payload from count size = gathers from (3 - count % 4) (stores from (count + 4 - count % 4) size)
