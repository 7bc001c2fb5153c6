-- Law: where the boot monitor hands over, the bytes that it took are the gate; where they are the gate it is on its way out; where it
-- waits for a command, the bytes that it took are whole items, and it said, holds and stored what they say.
use Rattle.std.specs.Prelude.{◌≡◌, ◌≢◌, ◌↔◌, ◌⊎◌, ◌<◌, ◌≤◌, ℕ, ◌+◌, ◌*◌, true, false, List, [], ◌∷◌, ◌++◌, length, take, codes, Option, Some, None}
use Rattle.image_tool.specs.Image.{AreBytes, checksum, header_of, is_allowed}
use Rattle.soc_bus.specs.declared.access.Request.{Request}
use Rattle.boot_monitor.specs.Actions.{Action, Await, Leave, after_replies, asking, blocks, header_address, is_busy, line, next, payload_address, print, uart_ctrl}
use Rattle.boot_monitor.specs.declared.exchange.MonitorOut.TheVariants.{Bus, HandOver}
use Rattle.flash_seen.specs.Seen.{Seen}
use Rattle.flash_seen.specs.World.{Idle, IsAllowed, World, place_at}
use Rattle.boot_gate.specs.Gate.{Gate, Shown, bytes_from, flash_of, held, loaded, said, stored}
use Rattle.boot_gate.specs.Items.{IsSplit, Item}
use Rattle.boot_monitor.specs.Standing.{IsMine}
use Rattle.boot_gate.specs.Replies.{AreTold, base_of, memory_after, sent, taken, world_after}

-- memory begins with these bytes
abbrev pub BeginsWith : List ℕ → List ℕ → Type 0
BeginsWith memory bytes = take (length bytes) memory ≡ bytes

-- the monitor keeps the length and the checksum word of the payload that is held, and memory begins with it
abbrev pub IsHeld : Option (ℕ × ℕ) → Option (List ℕ) → List ℕ → Type 0
IsHeld None None memory = Unit {0}
IsHeld None (Some payload) memory = ⊥
IsHeld (Some image) None memory = ⊥
IsHeld (Some image) (Some payload) memory = (image.0 ≡ length payload) × (image.1 ≡ checksum payload) × BeginsWith memory payload

-- the last actions: GO is printed, and once all credits are back it hands over
abbrev pub going : List Action
going = print (line (codes "GO")) (Await uart_ctrl is_busy 0 ∷ Leave ∷ [])

-- some of the last actions are done, and these are left
pub record IsGoing (todo : List Action) : Type 0 where
  pub done : List Action
  pub whole : done ++ todo ≡ going
  pub some : todo ≢ []

-- a flash with these bytes holds the image of a payload for which there is room: its header at 400000, and the payload at 400100
pub record HoldsImage (room : ℕ) (cells payload : List ℕ) : Type 0 where
  pub allowed : is_allowed room (length payload) ≡ true
  pub header : bytes_from cells header_address 12 ≡ header_of payload
  pub behind : bytes_from cells payload_address (length payload) ≡ payload

-- a payload is loaded exactly where the flash holds its image, and it is loaded again once it was stored
pub record HoldsImages (room : ℕ) (cells payload : List ℕ) : Type 0 where
  pub exactly : loaded room (Some cells) ≡ Some payload ↔ HoldsImage room cells payload
  pub again : is_allowed room (length payload) ≡ true → AreBytes payload → loaded room (stored (Some payload) (Some cells)) ≡ Some payload

-- the blocks hold the header's page and so many bytes of payload, and one block less doesn't
pub record HasBlocks (size : ℕ) : Type 0 where
  pub enough : 256 + size ≤ 4096 * blocks size
  pub least : 4096 * blocks size < 256 + size + 4096

-- a flash is seen to have these bytes; none: it isn't fitted
abbrev pub HasBytes : Option (List ℕ) → Seen → Type 0
HasBytes None flash = flash.fitted ≡ false
HasBytes (Some cells) flash = (flash.fitted ≡ true) × (flash.cells ≡ cells)

-- no operation is under way for sure, or the flash was sent no entry
abbrev pub IsQuiet : World → Type 0
IsQuiet w = (w.free ≡ true) ⊎ ((w.stage ≡ Idle 0) × (w.used ≡ false))

-- after these replies, the latest first; the flash was seen so before, and IMEM had these bytes
pub record HandsOver (room ctrl : ℕ) (first : Seen) (before replies : List ℕ) : Type 0 where
  pub payload : List ℕ
  pub gate : Gate room (base_of first) (taken room ctrl replies) payload
  pub stored : BeginsWith (memory_after room ctrl before replies) payload
  pub quiet : IsQuiet (world_after room ctrl first replies)

pub record AwaitsCommand (room ctrl : ℕ) (shown : Shown) (first : Seen) (before replies : List ℕ) : Type 0 where
  pub items : List Item
  pub split : IsSplit room (taken room ctrl replies) items []
  pub kept : IsHeld (after_replies room ctrl replies).mind.held (held room (base_of first) items []) (memory_after room ctrl before replies)
  pub flash : HasBytes (flash_of room (base_of first) items) (world_after room ctrl first replies).flash
  pub quiet : IsQuiet (world_after room ctrl first replies)
  pub says : AreTold room ctrl shown replies → sent room ctrl replies ≡ said room shown (base_of first) items

-- what holds of the boot monitor, where it is answered as a flash and IMEM do
pub record IsGated (room ctrl : ℕ) (shown : Shown) (first : Seen) (before replies : List ℕ) : Type 0 where
  pub leaves : next room ctrl replies ≡ HandOver → HandsOver room ctrl first before replies
  pub goes : (payload : List ℕ) → Gate room (base_of first) (taken room ctrl replies) payload → IsGoing (after_replies room ctrl replies).todo
  pub awaits : (after_replies room ctrl replies).todo ≡ asking → AwaitsCommand room ctrl shown first before replies
  pub asks : (request : Request) → next room ctrl replies ≡ Bus request → IsMine room request
  -- between two bytes to the flash it takes the answer, and sends at most two selections and deselects
  pub allowed : (request : Request) → next room ctrl replies ≡ Bus request → IsAllowed (world_after room ctrl first replies) (place_at request.addr) request.store
