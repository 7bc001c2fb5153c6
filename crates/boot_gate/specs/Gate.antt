-- Definition: what items make of the flash and of the payload that is held, the bytes that are the gate, and what the boot monitor says of items.
use Rattle.std.specs.Prelude.{◌≡◌, ℕ, zero, suc, ◌+◌, ◌-◌, ◌*◌, ◌%◌, Bool, ◌&&◌, not, List, [], ◌∷◌, ◌++◌, length, get_or, nat_lt, codes, if◌then◌else◌, Option, Some, None}
use Rattle.std.specs.Str.{bytes_eq}
use Rattle.image_tool.specs.Image.{header_of, image_of, is_allowed, size_of}
use Rattle.spi_flash.specs.Flash.{byte_of, cells_of}
use Rattle.boot_monitor.specs.Actions.{Key, Help, Information, Restart, Upload, Store, Load, Execute, Unknown, blocks, digits, header_address, help, key_of, line, payload_address, prompting}
use Rattle.boot_gate.specs.Items.{IsSplit, Item, Single, Unsigned, Unfit, Whole, is_signed, letter_e}

-- the payload, where header and payload are an image
abbrev pub payload_of : List ℕ → List ℕ → Option (List ℕ)
payload_of header payload = if bytes_eq (header ++ payload) (image_of payload) then Some payload else None

-- a flash is its bytes, and none where it isn't fitted

-- so many of its bytes from an address on
abbrev pub bytes_from : List ℕ → ℕ → ℕ → List ℕ
bytes_from cells address zero = []
bytes_from cells address (suc n) = byte_of cells address % 256 ∷ bytes_from cells (address + 1) n

-- the payload that stands in it behind this header, where they are an image for which there is room
abbrev pub payload_behind : ℕ → List ℕ → List ℕ → Option (List ℕ)
payload_behind room cells header =
    if not (is_signed header) then None
    else if not (is_allowed room (size_of header)) then None
    else payload_of header (bytes_from cells payload_address (size_of header))

abbrev pub loaded : ℕ → Option (List ℕ) → Option (List ℕ)
loaded room None = None
loaded room (Some cells) = payload_behind room cells (bytes_from cells header_address 12)

abbrev pub is_within : ℕ → ℕ → ℕ → Bool
is_within from size i = nat_lt i (from + size) && not (nat_lt i from)

-- the byte at each address once an image was stored: its header, its payload, and ff in the rest of the blocks that they need
abbrev pub with_image : List ℕ → (ℕ → ℕ) → (ℕ → ℕ)
with_image payload cells = λ i.
    if is_within header_address 12 i then get_or (header_of payload) (i - header_address) 0
    else if is_within payload_address (length payload) i then get_or payload (i - payload_address) 0
    else if is_within header_address (4096 * blocks (length payload)) i then 255
    else cells i

abbrev pub stored : Option (List ℕ) → Option (List ℕ) → Option (List ℕ)
stored None flash = flash
stored (Some payload) None = None
stored (Some payload) (Some cells) = Some (cells_of (with_image payload (byte_of cells)))

-- what items make
pub record Outcome : Type 0 where
  pub flash : Option (List ℕ)
  -- the payload that is held
  pub held : Option (List ℕ)

abbrev pub outcome : Option (List ℕ) → Option (List ℕ) → Outcome
outcome flash held = record { flash = flash; held = held }

-- after a command that takes no image: r lets go what is held, s stores it, l holds what stands in the flash
abbrev pub commanded : ℕ → Key → Outcome → Outcome
commanded room Restart o = outcome o.flash None
commanded room Store o = outcome (stored o.held o.flash) o.held
commanded room Load o = outcome o.flash (loaded room o.flash)
commanded room key o = o

abbrev pub after_item : ℕ → Outcome → Item → Outcome
after_item room o (Single byte) = commanded room (key_of byte) o
after_item room o (Unsigned header) = outcome o.flash None
after_item room o (Unfit header) = outcome o.flash None
after_item room o (Whole header payload) = outcome o.flash (payload_of header payload)

-- after these items, the oldest first
abbrev pub after_items : ℕ → Outcome → List Item → Outcome
after_items room o [] = o
after_items room o (item ∷ items) = after_items room (after_item room o item) items

-- from a flash on, the payload that items and a rest hold
abbrev pub held : ℕ → Option (List ℕ) → List Item → List ℕ → Option (List ℕ)
held room flash items [] = (after_items room (outcome flash None) items).held
held room flash items (byte ∷ rest) = None

-- the flash after items
abbrev pub flash_of : ℕ → Option (List ℕ) → List Item → Option (List ℕ)
flash_of room flash items = (after_items room (outcome flash None) items).flash

-- the bytes are whole items, the last one is e, and from this flash on the items before it hold this payload
pub record Gate (room : ℕ) (flash : Option (List ℕ)) (bytes payload : List ℕ) : Type 0 where
  pub before : List Item
  pub split : IsSplit room bytes (before ++ Single letter_e ∷ []) []
  pub holds : held room flash before [] ≡ Some payload

-- the words that i prints
pub record Shown : Type 0 where
  pub imem : ℕ
  pub dmem : ℕ
  pub clock : ℕ

abbrev pub information_text : Shown → List ℕ
information_text shown =
    codes "IMEM " ++ (digits 8 shown.imem ++ (codes " DMEM " ++ (digits 8 shown.dmem ++ (codes " CLK " ++ (digits 8 shown.clock ++ prompting [])))))

abbrev pub execute_text : Option (List ℕ) → List ℕ
execute_text None = prompting (codes "ERR none")
execute_text (Some payload) = line (codes "GO")

abbrev pub store_text : Option (List ℕ) → Option (List ℕ) → List ℕ
store_text None flash = codes "ERR none"
store_text (Some payload) None = codes "ERR flash"
store_text (Some payload) (Some cells) = codes "OK"

abbrev pub image_text : Option (List ℕ) → List ℕ
image_text None = codes "ERR checksum"
image_text (Some payload) = codes "OK"

abbrev pub behind_text : ℕ → List ℕ → List ℕ → List ℕ
behind_text room cells header =
    if not (is_signed header) then codes "ERR signature"
    else if not (is_allowed room (size_of header)) then codes "ERR size"
    else image_text (payload_of header (bytes_from cells payload_address (size_of header)))

-- a flash that isn't fitted has no signature
abbrev pub load_text : ℕ → Option (List ℕ) → List ℕ
load_text room None = codes "ERR signature"
load_text room (Some cells) = behind_text room cells (bytes_from cells header_address 12)

-- the answer to a command that takes no image
abbrev pub command_text : ℕ → Shown → Outcome → Key → List ℕ
command_text room shown o Help = help ++ codes "> "
command_text room shown o Information = information_text shown
command_text room shown o Restart = prompting (codes "N1")
command_text room shown o Upload = []
command_text room shown o Store = prompting (store_text o.held o.flash)
command_text room shown o Load = prompting (load_text room o.flash)
command_text room shown o Execute = execute_text o.held
command_text room shown o Unknown = prompting (codes "ERR command")

-- the answer to an item
abbrev pub text_of : ℕ → Shown → Outcome → Item → List ℕ
text_of room shown o (Single byte) = command_text room shown o (key_of byte)
text_of room shown o (Unsigned header) = line (codes "UP") ++ prompting (codes "ERR signature")
text_of room shown o (Unfit header) = line (codes "UP") ++ prompting (codes "ERR size")
text_of room shown o (Whole header payload) = line (codes "UP") ++ prompting (image_text (payload_of header payload))

abbrev pub said_from : ℕ → Shown → Outcome → List Item → List ℕ
said_from room shown o [] = []
said_from room shown o (item ∷ items) = text_of room shown o item ++ said_from room shown (after_item room o item) items

-- from a flash on, all that is said from the start up to the last prompt
abbrev pub said : ℕ → Shown → Option (List ℕ) → List Item → List ℕ
said room shown flash items = prompting (codes "N1") ++ said_from room shown (outcome flash None) items
