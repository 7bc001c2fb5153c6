-- For the contracts of code: the actions of each errand to the flash.
use Rattle.std.specs.Prelude.{◌<◌, ◌≤◌, ℕ, suc, ◌+◌, ◌-◌, ◌*◌, ◌/◌, ◌%◌, ◌^◌, List, [], ◌∷◌, ◌++◌, length, drop, get_or, nat_lt, if◌then◌else◌, codes}
use Rattle.image_tool.specs.Image.{bytes_of}
use Rattle.boot_monitor.specs.Actions.{Action, Again, Answer, Await, Head, Save, Tail, Writable, Way, Drop, Collect, Look, Flash, answer, blocks, burning, collects, collects_words, deselect, erases, fetches, has_come, header_address, header_by, page_words, payload_address, program_bytes, programs, select, send, spi_ctrl, spi_data, transfer, wait}
use Rattle.boot_monitor.specs.Gathers.{after_header, after_payload}
use Rattle.boot_monitor.specs.declared.phases.Errand.{Errand}
use Rattle.boot_monitor.specs.declared.phases.Errand.TheVariants.{ReadHeader, ReadPayload, Test, Erase, Program, ProgramHeader, Finish}
use Rattle.boot_monitor.specs.declared.phases.Frame.{Frame}
use Rattle.boot_monitor.specs.declared.phases.Frame.TheVariants.{Wait, Enable, Act}
use Rattle.boot_monitor.specs.declared.phases.Held.{Held}
use Rattle.boot_monitor.specs.declared.phases.Page.{Page}
use Rattle.boot_monitor.specs.declared.phases.Transfer.{Transfer}
use Rattle.boot_monitor.specs.declared.phases.Transfer.TheVariants.{Lead, Status, HeaderByte, PayloadByte, WordByte}

-- where a block stands in the flash, and a page
abbrev pub block_address : ℕ → ℕ
block_address number = header_address + 4096 * number

abbrev pub page_address : ℕ → ℕ
page_address number = payload_address + 256 * number

-- how many words of the payload a page has
abbrev pub words_in : Page → ℕ
words_in page = if nat_lt page.number (page.image.length / 256) then page_words else page.image.length % 256 / 4

-- where a word of a page stands in IMEM
abbrev pub word_address : Page → ℕ → ℕ
word_address page index = 256 * page.number + 4 * index

-- a command and its address
abbrev pub addressed : ℕ → ℕ → List ℕ
addressed code address = code ∷ address / 2 ^ 16 % 2 ^ 8 ∷ address / 2 ^ 8 % 2 ^ 8 ∷ address % 2 ^ 8 ∷ []

-- the bytes that an errand's own command begins with
abbrev pub lead_of : Errand → List ℕ
lead_of ReadHeader = addressed 0x03 header_address
lead_of ReadPayload = addressed 0x03 payload_address
lead_of (Test image) = 0x05 ∷ []
lead_of (Erase image number) = addressed 0x20 (block_address number)
lead_of (Program page) = addressed 0x02 (page_address page.number)
lead_of (ProgramHeader image) = addressed 0x02 header_address ++ header_by image.length image.check
lead_of Finish = []

-- the bytes that a frame begins with
abbrev pub lead : Frame → Errand → List ℕ
lead Wait errand = 0x05 ∷ []
lead Enable errand = 0x06 ∷ []
lead Act errand = lead_of errand

-- the header is programmed
abbrev pub header_left : Held → List Action
header_left image = program_bytes header_address (header_by image.length image.check) (answer (codes "OK"))

-- the pages from one on are programmed, and then the header
abbrev pub pages_left : Held → ℕ → List Action
pages_left image number = programs (page_address number) (256 * number) (image.length / 256 - number) (image.length % 256 / 4) (header_left image)

-- the blocks from one on are erased, and then the pages are programmed
abbrev pub blocks_left : Held → ℕ → List Action
blocks_left image number = erases (block_address number) (blocks image.length - number) (pages_left image 0)

-- what follows an errand that changes the flash, once the flash is ready
abbrev pub following : Errand → List Action
following (Erase image number) = blocks_left image (number + 1)
following (Program page) = if nat_lt page.number (page.image.length / 256) then pages_left page.image (page.number + 1) else header_left page.image
following _ = answer (codes "OK")

-- what follows an errand's own command
abbrev pub after_act : Errand → List Action
after_act ReadHeader = Head Flash ∷ []
after_act ReadPayload = Tail ∷ []
after_act (Test image) = Writable ∷ burning image.length image.check
after_act errand = wait (following errand)

-- the words of a page from one on are sent
abbrev pub words_left : Page → ℕ → List Action
words_left page index = fetches (word_address page index) (words_in page - index) (deselect ∷ after_act (Program page))

-- what follows the first bytes of an errand's own command, where the header that was taken gives this length
abbrev pub rest_of : Errand → ℕ → List Action
rest_of ReadHeader size = collects 12 (deselect ∷ after_act ReadHeader)
rest_of ReadPayload size = collects_words 0 (size / 4) (deselect ∷ after_act ReadPayload)
rest_of (Test image) size = transfer 0x00 Look (deselect ∷ after_act (Test image))
rest_of (Program page) size = words_left page 0
rest_of errand size = deselect ∷ after_act errand

-- an errand's own command, and what follows
abbrev pub act_of : Errand → ℕ → List Action
act_of errand size = select ∷ send (lead_of errand) (rest_of errand size)

-- an errand, and what follows: the flash is ready
abbrev pub errand_of : Errand → ℕ → List Action
errand_of ReadHeader size = act_of ReadHeader size
errand_of ReadPayload size = act_of ReadPayload size
errand_of Finish size = answer (codes "OK")
errand_of errand size = select ∷ send (0x06 ∷ []) (deselect ∷ act_of errand size)

-- what follows a frame
abbrev pub after_frame : Frame → Errand → ℕ → List Action
after_frame Wait errand size = Again ∷ errand_of errand size
after_frame Enable errand size = act_of errand size
after_frame Act errand size = after_act errand

-- what follows the first bytes of a frame
abbrev pub frame_rest : Frame → Errand → ℕ → List Action
frame_rest Wait errand size = transfer 0x00 Look (deselect ∷ after_frame Wait errand size)
frame_rest Enable errand size = deselect ∷ after_frame Enable errand size
frame_rest Act errand size = rest_of errand size

-- the byte that is sent
abbrev pub byte_of : Transfer → ℕ
byte_of (Lead frame errand place) = get_or (lead frame errand) place 0
byte_of (WordByte page index word place) = get_or (bytes_of word) place 0
byte_of _ = 0

-- what is done with the answer
abbrev pub way_of : Transfer → Way
way_of (Status frame errand) = Look
way_of HeaderByte = Collect
way_of PayloadByte = Collect
way_of _ = Drop

-- what follows a transfer, where so many bytes of an image were taken before it, and this is its payload's length
abbrev pub after_transfer : Transfer → ℕ → ℕ → List Action
after_transfer (Lead frame errand place) count size = send (drop (suc place) (lead frame errand)) (frame_rest frame errand size)
after_transfer (Status frame errand) count size = deselect ∷ after_frame frame errand size
after_transfer HeaderByte count size = after_header Flash count
after_transfer PayloadByte count size = after_payload Flash count size
after_transfer (WordByte page index word place) count size = send (drop (suc place) (bytes_of word)) (words_left page (index + 1))

-- the actions of a transfer from each of its three requests on
abbrev pub answering : Transfer → ℕ → ℕ → List Action
answering transfer count size = Answer (way_of transfer) ∷ after_transfer transfer count size

abbrev pub awaiting_answer : Transfer → ℕ → ℕ → List Action
awaiting_answer transfer count size = Await spi_ctrl has_come has_come ∷ answering transfer count size

abbrev pub transferring : Transfer → ℕ → ℕ → List Action
transferring transfer count size = Save spi_data (byte_of transfer) ∷ awaiting_answer transfer count size

-- a page has words, and its payload has at most so many bytes
pub record IsPage (page : Page) (limit : ℕ) : Type 0 where
  pub number : page.number ≤ page.image.length / 256
  pub some : 0 < words_in page
  pub fits : page.image.length ≤ limit

-- a block is one of the payload's, which has at most so many bytes
pub record IsBlock (image : Held) (number limit : ℕ) : Type 0 where
  pub block : number < blocks image.length
  pub fits : image.length ≤ limit

-- the payload that an errand is about has at most so many bytes
abbrev pub IsFit : Errand → ℕ → Type 0
IsFit (Test image) limit = image.length ≤ limit
IsFit (Erase image number) limit = IsBlock image number limit
IsFit (Program page) limit = IsPage page limit
IsFit (ProgramHeader image) limit = image.length ≤ limit
IsFit _ limit = Unit {0}

-- an image is read
abbrev pub IsReading : Errand → Type 0
IsReading ReadHeader = Unit {0}
IsReading ReadPayload = Unit {0}
IsReading _ = ⊥

-- the place in a list of bytes is a byte's
abbrev pub IsPlaced : Transfer → Type 0
IsPlaced (Lead frame errand place) = place < length (lead frame errand)
IsPlaced (WordByte page index word place) = place < 4
IsPlaced _ = Unit {0}
