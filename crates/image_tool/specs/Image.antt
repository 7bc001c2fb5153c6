-- Definition: images: a header of three words, and a payload.
use Rattle.std.specs.Prelude.{◌≡◌, ◌==◌, ◌<◌, ℕ, ◌+◌, ◌-◌, ◌*◌, ◌/◌, ◌%◌, ◌^◌, Bool, ◌&&◌, List, [], ◌∷◌, ◌++◌, length, drop, replicate, get_or, nat_lt, nat_le, IsTrue}

-- the word of four bytes, low byte first
abbrev pub word_of : ℕ → ℕ → ℕ → ℕ → ℕ
word_of a b c d = a + 2 ^ 8 * b + 2 ^ 16 * c + 2 ^ 24 * d

-- the word at a place among bytes
abbrev pub word_at : List ℕ → ℕ → ℕ
word_at bytes place = word_of (get_or bytes place 0) (get_or bytes (place + 1) 0) (get_or bytes (place + 2) 0) (get_or bytes (place + 3) 0)

-- the words of a list of bytes; fewer than four bytes at its end make none
abbrev pub words : List ℕ → List ℕ
words (a ∷ b ∷ c ∷ d ∷ rest) = word_of a b c d ∷ words rest
words _ = []

-- the four bytes of a word
abbrev pub bytes_of : ℕ → List ℕ
bytes_of w = w % 2 ^ 8 ∷ w / 2 ^ 8 % 2 ^ 8 ∷ w / 2 ^ 16 % 2 ^ 8 ∷ w / 2 ^ 24 % 2 ^ 8 ∷ []

-- the wrapping sum of words
abbrev pub wrapping_sum : List ℕ → ℕ
wrapping_sum [] = 0
wrapping_sum (w ∷ ws) = (w + wrapping_sum ws) % 2 ^ 32

abbrev pub signature : ℕ
signature = 0x4788cafe

-- the word that makes the sum of itself and of the payload's words zero
abbrev pub checksum : List ℕ → ℕ
checksum payload = (2 ^ 32 - wrapping_sum (words payload)) % 2 ^ 32

abbrev pub header_of : List ℕ → List ℕ
header_of payload = bytes_of signature ++ bytes_of (length payload) ++ bytes_of (checksum payload)

abbrev pub image_of : List ℕ → List ℕ
image_of payload = header_of payload ++ payload

-- a payload of so many bytes is allowed where this many bytes of memory have room for it
abbrev pub is_allowed : ℕ → ℕ → Bool
is_allowed room n = nat_lt 0 n && n % 4 == 0 && nat_le n room

-- what the header's words are, by the bytes of an image
abbrev pub signature_of : List ℕ → ℕ
signature_of bytes = word_at bytes 0

abbrev pub size_of : List ℕ → ℕ
size_of bytes = word_at bytes 4

abbrev pub check_of : List ℕ → ℕ
check_of bytes = word_at bytes 8

-- the wrapping sum of the checksum word and of the payload's words is zero, of a header and its payload
abbrev pub sums_to_zero : List ℕ → Bool
sums_to_zero bytes = wrapping_sum (words (drop 8 bytes)) == 0

-- bytes are numbers below 256
abbrev pub AreBytes : List ℕ → Type 0
AreBytes [] = Unit {0}
AreBytes (b ∷ bs) = (b < 256) × AreBytes bs

-- the bytes are the image of this payload, for which there is room
abbrev pub IsImage : ℕ → List ℕ → List ℕ → Type 0
IsImage room bytes payload = IsTrue (is_allowed room (length payload)) × (bytes ≡ image_of payload)

-- a payload with zero bytes up to the next multiple of four
abbrev pub padded : List ℕ → List ℕ
padded payload = payload ++ replicate ((4 - length payload % 4) % 4) 0
