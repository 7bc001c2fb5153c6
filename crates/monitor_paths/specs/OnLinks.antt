-- A definition: the word that a message carries up.
use Rattle.std.specs.Prelude.{ℕ, List, [], ◌∷◌, Option, Some, None, if◌then◌else◌}
use Rattle.chip_base.specs.declared.message.Up.{Up}

-- the word, and how many words it carries
abbrev pub words_in : Option Up → List ℕ
words_in None = []
words_in (Some up) = if up.has then up.word ∷ [] else []

abbrev pub word_in : Option Up → ℕ
word_in None = 0
word_in (Some up) = if up.has then 1 else 0
