-- For the contracts of code: the actions that each phase stands for.
use Rattle.std.specs.Prelude.{◌≡◌, ◌<◌, ◌≤◌, ℕ, suc, ◌+◌, ◌*◌, ◌%◌, ◌^◌, List, [], ◌∷◌, ◌++◌, length, drop, get_or, codes, Option, Some, None}
use Rattle.std.specs.Option.{option_map}
use Rattle.soc_bus.specs.Memory.{IsSize}
use Rattle.boot_monitor.specs.Actions.{Action, Await, Save, Report, Get, Ask, Fetch, Leave, Head, Source, Uart, Flash, Mind, ActionState, answer, asking, begin, comes, deselect, digits, help, info_clock, info_dmem, info_imem, is_busy, line, print, prompting, select, send, starting, takes, uart_ctrl, uart_data}
use Rattle.boot_monitor.specs.Errands.{IsFit, IsPage, IsPlaced, IsReading, after_frame, answering, awaiting_answer, errand_of, frame_rest, lead, transferring, word_address, words_in, words_left}
use Rattle.boot_monitor.specs.Gathers.{after_header, after_payload, stores}
use Rattle.boot_monitor.specs.Tallies.{Counts}
use Rattle.boot_monitor.specs.declared.phases.Errand.{Errand}
use Rattle.boot_monitor.specs.declared.phases.Errand.TheVariants.{ReadHeader, ReadPayload, Finish}
use Rattle.boot_monitor.specs.declared.phases.Frame.{Frame}
use Rattle.boot_monitor.specs.declared.phases.Frame.TheVariants.{Wait, Enable, Act}
use Rattle.boot_monitor.specs.declared.phases.Setting.{Setting}
use Rattle.boot_monitor.specs.declared.phases.Setting.TheVariants.{Imem, Dmem, Clock}
use Rattle.boot_monitor.specs.declared.phases.Source.{Source as CodeSource}
use Rattle.boot_monitor.specs.declared.phases.Source.TheVariants as source
use Rattle.boot_monitor.specs.declared.phases.Text.{Text}
use Rattle.boot_monitor.specs.declared.phases.Text.TheVariants.{Greeting, Help, Name, Digits, InformationEnd, Up, Done, NoneHeld, UnknownCommand, BadSignature, BadSize, BadChecksum, BadFlash, Go}
use Rattle.boot_monitor.specs.declared.phases.Transfer.{Transfer}
use Rattle.boot_monitor.specs.declared.phases.Transfer.TheVariants.{Lead, Status, HeaderByte, PayloadByte, WordByte}
use Rattle.boot_monitor.specs.declared.phases.Purpose.{Purpose}
use Rattle.boot_monitor.specs.declared.phases.Purpose.TheVariants.{Command, Header, Payload}
use Rattle.boot_monitor.specs.declared.phases.Phase.{Phase}
use Rattle.boot_monitor.specs.declared.phases.Phase.TheVariants.{Unstarted, Opening, SettingUp, AwaitingRoom, Sending, Asking, AwaitingByte, Taking, Storing, Enabling, Selecting, Transferring, AwaitingAnswer, Answering, Fetching, Deselecting, Finishing, Over}
use Rattle.boot_monitor.specs.declared.phases.Held.{Held}
use Rattle.boot_monitor.specs.declared.phases.Page.{Page}
use Rattle.boot_monitor.specs.declared.phases.MonitorState.{MonitorState}

-- what stands before a setting
abbrev pub name_of : Setting → List ℕ
name_of Imem = codes "IMEM "
name_of Dmem = codes " DMEM "
name_of Clock = codes " CLK "

-- the address of a setting
abbrev pub address_of : Setting → ℕ
address_of Imem = info_imem
address_of Dmem = info_dmem
address_of Clock = info_clock

abbrev pub text_of : Text → List ℕ
text_of Greeting = prompting (codes "N1")
text_of Help = help ++ codes "> "
text_of (Name setting) = name_of setting
text_of (Digits setting word) = digits 8 word
text_of InformationEnd = prompting []
text_of Up = line (codes "UP")
text_of Done = prompting (codes "OK")
text_of NoneHeld = prompting (codes "ERR none")
text_of UnknownCommand = prompting (codes "ERR command")
text_of BadSignature = prompting (codes "ERR signature")
text_of BadSize = prompting (codes "ERR size")
text_of BadChecksum = prompting (codes "ERR checksum")
text_of BadFlash = prompting (codes "ERR flash")
text_of Go = line (codes "GO")

-- what follows the digits of a setting
abbrev pub after_digits : Setting → List Action
after_digits Imem = print (codes " DMEM ") (Report info_dmem ∷ print (codes " CLK ") (Report info_clock ∷ answer []))
after_digits Dmem = print (codes " CLK ") (Report info_clock ∷ answer [])
after_digits Clock = answer []

-- what follows a text
abbrev pub after_text : Text → List Action
after_text (Name setting) = Report (address_of setting) ∷ after_digits setting
after_text (Digits setting word) = after_digits setting
after_text Up = takes 12 (Head Uart ∷ [])
after_text Go = Await uart_ctrl is_busy 0 ∷ Leave ∷ []
after_text _ = asking

-- where an image comes from
abbrev pub from_of : CodeSource → Source
from_of source.Uart = Uart
from_of source.Flash = Flash

-- what follows a byte of an upload, where so many were taken before it
abbrev pub after_byte : Purpose → ℕ → ℕ → List Action
after_byte Command count size = []
after_byte Header count size = after_header Uart count
after_byte Payload count size = after_payload Uart count size

-- a byte is taken
abbrev pub taking : Purpose → ℕ → ℕ → List Action
taking Command count size = Ask ∷ []
taking purpose count size = Get ∷ after_byte purpose count size

-- what is still to be done in a phase, where so many bytes of an image were taken, and this is its payload's length
abbrev pub todo_in : Phase → ℕ → ℕ → ℕ → List Action
todo_in Unstarted ctrl count size = []
todo_in Opening ctrl count size = starting ctrl
todo_in SettingUp ctrl count size = Save uart_ctrl ctrl ∷ answer (codes "N1")
todo_in (AwaitingRoom text place) ctrl count size = print (drop place (text_of text)) (after_text text)
todo_in (Sending text place) ctrl count size = Save uart_data (get_or (text_of text) place 0) ∷ print (drop (suc place) (text_of text)) (after_text text)
todo_in (Asking setting) ctrl count size = Report (address_of setting) ∷ after_digits setting
todo_in (AwaitingByte purpose) ctrl count size = comes ∷ taking purpose count size
todo_in (Taking purpose) ctrl count size = taking purpose count size
todo_in (Storing origin) ctrl count size = stores (from_of origin) count size
todo_in (Enabling errand) ctrl count size = begin (errand_of errand size)
todo_in (Selecting frame errand) ctrl count size = select ∷ send (lead frame errand) (frame_rest frame errand size)
todo_in (Transferring transfer) ctrl count size = transferring transfer count size
todo_in (AwaitingAnswer transfer) ctrl count size = awaiting_answer transfer count size
todo_in (Answering transfer) ctrl count size = answering transfer count size
todo_in (Fetching page index) ctrl count size = Fetch (word_address page index) ∷ words_left page (index + 1)
todo_in (Deselecting frame errand) ctrl count size = deselect ∷ after_frame frame errand size
todo_in Finishing ctrl count size = Await uart_ctrl is_busy 0 ∷ Leave ∷ []
todo_in Over ctrl count size = Leave ∷ []

abbrev pub todo_of : MonitorState → List Action
todo_of m = todo_in m.phase m.ctrl m.tally.count m.tally.size

abbrev pub pair_of : Held → ℕ × ℕ
pair_of h = (h.length, h.check)

abbrev pub held_of : MonitorState → Option (ℕ × ℕ)
held_of m = option_map pair_of m.held

-- what the monitor keeps, where these bytes were taken
abbrev pub mind_of : MonitorState → List ℕ → Mind
mind_of m bytes = record { bytes = bytes; held = held_of m; status = m.status }

-- a transfer while an image is read, whose bytes are counted
abbrev pub IsComingBy : Transfer → Type 0
IsComingBy (Lead frame errand place) = IsReading errand
IsComingBy (Status frame errand) = IsReading errand
IsComingBy HeaderByte = Unit {0}
IsComingBy PayloadByte = Unit {0}
IsComingBy (WordByte page index word place) = ⊥

-- an image comes, whose bytes are counted
abbrev pub IsComing : Phase → Type 0
IsComing (AwaitingRoom Up place) = Unit {0}
IsComing (Sending Up place) = Unit {0}
IsComing (AwaitingByte Header) = Unit {0}
IsComing (AwaitingByte Payload) = Unit {0}
IsComing (Taking Header) = Unit {0}
IsComing (Taking Payload) = Unit {0}
IsComing (Storing origin) = Unit {0}
IsComing (Enabling errand) = IsReading errand
IsComing (Selecting frame errand) = IsReading errand
IsComing (Transferring transfer) = IsComingBy transfer
IsComing (AwaitingAnswer transfer) = IsComingBy transfer
IsComing (Answering transfer) = IsComingBy transfer
IsComing (Deselecting frame errand) = IsReading errand
IsComing _ = ⊥

-- it was started
abbrev pub IsStarted : Phase → Type 0
IsStarted Unstarted = ⊥
IsStarted _ = Unit {0}

-- it was started, and has not handed over
abbrev pub IsUnderWay : Phase → Type 0
IsUnderWay Unstarted = ⊥
IsUnderWay Over = ⊥
IsUnderWay _ = Unit {0}

-- a phase of the talk over UART0 whose reply takes no byte
abbrev pub IsPlain : Phase → Type 0
IsPlain Opening = Unit {0}
IsPlain SettingUp = Unit {0}
IsPlain (AwaitingRoom text place) = Unit {0}
IsPlain (Sending text place) = Unit {0}
IsPlain (Asking setting) = Unit {0}
IsPlain (AwaitingByte purpose) = Unit {0}
IsPlain Finishing = Unit {0}
IsPlain Over = Unit {0}
IsPlain _ = ⊥

-- a phase of the talk with the flash whose reply is no answer of the flash, before it is deselected
abbrev pub IsTalk : Phase → Type 0
IsTalk (Enabling errand) = Unit {0}
IsTalk (Selecting frame errand) = Unit {0}
IsTalk (Transferring transfer) = Unit {0}
IsTalk (AwaitingAnswer transfer) = Unit {0}
IsTalk (Fetching page index) = Unit {0}
IsTalk _ = ⊥

-- the monitor is in this state of the definition
pub record IsIn (m : MonitorState) (s : ActionState) : Type 0 where
  pub todo : s.todo ≡ todo_of m
  pub held : s.mind.held ≡ held_of m
  pub status : s.mind.status ≡ m.status
  pub counts : IsComing m.phase → Counts m.tally s.mind.bytes

-- the place in a text, or in the bytes that the flash is sent, is a byte's
abbrev pub IsReady : Phase → Type 0
IsReady (AwaitingRoom text place) = place < length (text_of text)
IsReady (Sending text place) = place < length (text_of text)
IsReady (Selecting frame errand) = 0 < length (lead frame errand)
IsReady (Transferring transfer) = IsPlaced transfer
IsReady (AwaitingAnswer transfer) = IsPlaced transfer
IsReady (Answering transfer) = IsPlaced transfer
IsReady _ = Unit {0}

-- of an image whose payload has this many bytes, so many were taken, and the payload goes on
pub record IsLoading (room count size : ℕ) : Type 0 where
  pub from : 12 ≤ count
  pub below : count < 12 + size
  pub whole : size % 4 ≡ 0
  pub fits : size ≤ room

-- of an image whose payload has this many bytes, so many were taken, and the last four of them are a word of the payload
pub record IsStoring (room count size : ℕ) : Type 0 where
  pub from : 16 ≤ count
  pub to : count ≤ 12 + size
  pub word : count % 4 ≡ 0
  pub whole : size % 4 ≡ 0
  pub fits : size ≤ room

-- of an image the header was taken, and its payload is to come
pub record IsHeaded (room count size : ℕ) : Type 0 where
  pub whole : count ≡ 12
  pub loading : IsLoading room count size

-- of an image the whole payload was taken
pub record IsComplete (room count size : ℕ) : Type 0 where
  pub from : 12 ≤ count
  pub fits : size ≤ room

-- what an errand says of the bytes that were taken, in the midst of a frame
abbrev pub IsAbout : Errand → Frame → ℕ → ℕ → ℕ → Type 0
IsAbout ReadHeader frame room count size = count ≡ 0
IsAbout ReadPayload frame room count size = IsHeaded room count size
IsAbout Finish Wait room count size = Unit {0}
IsAbout Finish Enable room count size = ⊥
IsAbout Finish Act room count size = ⊥
IsAbout errand frame room count size = IsFit errand room

-- and at the frame's end
abbrev pub IsActed : Errand → ℕ → ℕ → ℕ → Type 0
IsActed ReadHeader room count size = count ≡ 12
IsActed ReadPayload room count size = IsComplete room count size
IsActed errand room count size = IsAbout errand Act room count size

abbrev pub IsDone : Frame → Errand → ℕ → ℕ → ℕ → Type 0
IsDone Wait errand room count size = IsAbout errand Wait room count size
IsDone Enable errand room count size = IsAbout errand Enable room count size
IsDone Act errand room count size = IsActed errand room count size

-- a word of a page, which has this place in it
pub record IsWord (page : Page) (index room : ℕ) : Type 0 where
  pub page_is : IsPage page room
  pub below : index < words_in page

-- what the byte of a transfer, or the address of a word, is computed of
abbrev pub IsFitBy : Transfer → ℕ → Type 0
IsFitBy (Lead frame errand place) limit = IsFit errand limit
IsFitBy _ limit = Unit {0}

abbrev pub IsFitIn : Phase → ℕ → Type 0
IsFitIn (Transferring transfer) limit = IsFitBy transfer limit
IsFitIn (Fetching page index) limit = IsWord page index limit
IsFitIn _ limit = Unit {0}

-- what a transfer says of the bytes that were taken
abbrev pub IsCountedBy : Transfer → ℕ → ℕ → ℕ → Type 0
IsCountedBy (Lead frame errand place) room count size = IsAbout errand frame room count size
IsCountedBy (Status frame errand) room count size = IsDone frame errand room count size
IsCountedBy HeaderByte room count size = count < 12
IsCountedBy PayloadByte room count size = IsLoading room count size
IsCountedBy (WordByte page index word place) room count size = IsWord page index room

-- what a phase says of the bytes that were taken
abbrev pub IsCounted : Phase → ℕ → ℕ → ℕ → Type 0
IsCounted (AwaitingRoom Up place) room count size = count ≡ 0
IsCounted (Sending Up place) room count size = count ≡ 0
IsCounted (AwaitingByte Header) room count size = count < 12
IsCounted (AwaitingByte Payload) room count size = IsLoading room count size
IsCounted (Taking Header) room count size = count < 12
IsCounted (Taking Payload) room count size = IsLoading room count size
IsCounted (Storing origin) room count size = IsStoring room count size
IsCounted (Enabling errand) room count size = IsAbout errand Wait room count size
IsCounted (Selecting frame errand) room count size = IsAbout errand frame room count size
IsCounted (Transferring transfer) room count size = IsCountedBy transfer room count size
IsCounted (AwaitingAnswer transfer) room count size = IsCountedBy transfer room count size
IsCounted (Answering transfer) room count size = IsCountedBy transfer room count size
IsCounted (Fetching page index) room count size = IsWord page index room
IsCounted (Deselecting frame errand) room count size = IsDone frame errand room count size
IsCounted _ room count size = Unit {0}

-- what is held fits
abbrev pub IsHeld : Option Held → ℕ → Type 0
IsHeld None room = Unit {0}
IsHeld (Some image) room = image.length ≤ room

-- what holds of every monitor's state
pub record IsSound (m : MonitorState) : Type 0 where
  pub size : IsSize m.room
  pub ready : IsReady m.phase
  pub counted : IsCounted m.phase m.room m.tally.count m.tally.size
  pub part : m.tally.part < 2 ^ (8 * (m.tally.count % 4))
  pub held_fits : IsHeld m.held m.room

-- what a reply leaves
pub record Goes (m n : MonitorState) : Type 0 where
  pub room : n.room ≡ m.room
  pub ctrl : n.ctrl ≡ m.ctrl
  pub started : IsStarted n.phase
  pub sound : IsSound n
