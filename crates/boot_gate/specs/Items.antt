-- Definition: the bytes that the boot monitor takes, as items: what each of its commands is given.
use Rattle.std.specs.Prelude.{◌≡◌, ◌≢◌, ◌==◌, ◌⊎◌, ℕ, Bool, true, false, not, List, [], ◌∷◌, ◌++◌, length, take, drop, flat_map, nat_lt, if◌then◌else◌, Option, Some, None}
use Rattle.image_tool.specs.Image.{is_allowed, signature, signature_of, size_of}

-- the letters of the commands that take an image and that execute it
abbrev pub letter_u : ℕ
letter_u = 117

abbrev pub letter_e : ℕ
letter_e = 101

pub data Item : Type 0 where
  -- a byte other than u
  Single : (byte : ℕ) → Item
  -- u and twelve bytes whose first word isn't the signature
  Unsigned : (header : List ℕ) → Item
  -- u and twelve bytes with the signature, whose length word is zero, no multiple of four or above the room
  Unfit : (header : List ℕ) → Item
  -- u, twelve bytes with the signature and an allowed length, and exactly that many bytes
  Whole : (header payload : List ℕ) → Item

abbrev pub is_signed : List ℕ → Bool
is_signed header = signature_of header == signature

abbrev pub IsItem : ℕ → Item → Type 0
IsItem room (Single byte) = byte ≢ letter_u
IsItem room (Unsigned header) = (length header ≡ 12) × (is_signed header ≡ false)
IsItem room (Unfit header) = (length header ≡ 12) × (is_signed header ≡ true) × (is_allowed room (size_of header) ≡ false)
IsItem room (Whole header payload) =
    (length header ≡ 12) × (is_signed header ≡ true) × (is_allowed room (size_of header) ≡ true) × (length payload ≡ size_of header)

abbrev pub AreItems : ℕ → List Item → Type 0
AreItems room [] = Unit {0}
AreItems room (item ∷ items) = IsItem room item × AreItems room items

abbrev pub bytes_in : Item → List ℕ
bytes_in (Single byte) = byte ∷ []
bytes_in (Unsigned header) = letter_u ∷ header
bytes_in (Unfit header) = letter_u ∷ header
bytes_in (Whole header payload) = letter_u ∷ (header ++ payload)

-- a proper prefix of an item that begins with u
pub record IsUnfinished (room : ℕ) (rest : List ℕ) : Type 0 where
  pub tail : List ℕ
  pub begins : rest ≡ letter_u ∷ tail
  pub item : Item
  pub is_item : IsItem room item
  pub missing : List ℕ
  pub some : missing ≢ []
  pub whole : bytes_in item ≡ rest ++ missing

abbrev pub IsRest : ℕ → List ℕ → Type 0
IsRest room rest = (rest ≡ []) ⊎ IsUnfinished room rest

-- the bytes are these items, the oldest first, and this rest
pub record IsSplit (room : ℕ) (bytes : List ℕ) (items : List Item) (rest : List ℕ) : Type 0 where
  pub whole : bytes ≡ flat_map bytes_in items ++ rest
  pub each : AreItems room items
  pub partial : IsRest room rest

-- what comes after u, as an item, where it is one
abbrev pub upload_of : ℕ → List ℕ → List ℕ → Option Item
upload_of room header payload =
    if nat_lt (length header) 12 then None
    else if not (is_signed header) then Some (Unsigned header)
    else if not (is_allowed room (size_of header)) then Some (Unfit header)
    else if length payload == size_of header then Some (Whole header payload)
    else None

-- these bytes as an item, where they are one
abbrev pub item_of : ℕ → List ℕ → Option Item
item_of room [] = None
item_of room (byte ∷ more) = if byte == letter_u then upload_of room (take 12 more) (drop 12 more) else Some (Single byte)

pub record Split : Type 0 where
  pub items : List Item
  pub rest : List ℕ

abbrev pub split_by : List Item → List ℕ → Option Item → Split
split_by items rest None = record { items = items; rest = rest }
split_by items rest (Some item) = record { items = items ++ item ∷ []; rest = [] }

-- one byte more: it may end an item
abbrev pub with_byte : ℕ → Split → ℕ → Split
with_byte room s byte = split_by s.items (s.rest ++ byte ∷ []) (item_of room (s.rest ++ byte ∷ []))

abbrev pub split_from : ℕ → Split → List ℕ → Split
split_from room s [] = s
split_from room s (byte ∷ more) = split_from room (with_byte room s byte) more

-- the items and the rest that any bytes are
abbrev pub items_of : ℕ → List ℕ → Split
items_of room bytes = split_from room (record { items = []; rest = [] }) bytes

-- bytes are items and a rest in exactly one way
pub record SplitsOnce (room : ℕ) (bytes : List ℕ) : Type 0 where
  pub is : IsSplit room bytes (items_of room bytes).items (items_of room bytes).rest
  pub one : (items : List Item) (rest : List ℕ) → IsSplit room bytes items rest → (items ≡ (items_of room bytes).items) × (rest ≡ (items_of room bytes).rest)
