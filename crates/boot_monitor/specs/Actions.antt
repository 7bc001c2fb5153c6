-- Definition: the boot monitor, as a list of actions still to be done, and what comes of each reply to its requests.
use Rattle.std.specs.Prelude.{◌==◌, ℕ, zero, suc, ◌+◌, ◌-◌, ◌/◌, ◌%◌, ◌^◌, not, List, [], ◌∷◌, ◌++◌, length, nat_lt, if◌then◌else◌, bit_and, codes, Option, Some, None}
use Rattle.chip_base.specs.UnitTable.{part_row, unit_row}
use Rattle.chip_base.specs.declared.chip_unit.ChipUnit.TheVariants.{Spi, Uart0}
use Rattle.chip_base.specs.declared.chip_unit.HubPart.TheVariants.{Sysinfo}
use Rattle.image_tool.specs.Image.{bytes_of, check_of, is_allowed, signature, signature_of, size_of, sums_to_zero, word_at}
use Rattle.soc_bus.specs.declared.access.Width.TheVariants.{Word}
use Rattle.boot_monitor.specs.declared.exchange.MonitorOut.{MonitorOut}
use Rattle.boot_monitor.specs.declared.exchange.MonitorOut.TheVariants.{Bus, HandOver}

-- the registers that it uses
abbrev pub uart_ctrl : ℕ
uart_ctrl = (unit_row Uart0).base

abbrev pub uart_data : ℕ
uart_data = (unit_row Uart0).base + 4

abbrev pub info_clock : ℕ
info_clock = (part_row Sysinfo).base

abbrev pub info_imem : ℕ
info_imem = (part_row Sysinfo).base + 4

abbrev pub info_dmem : ℕ
info_dmem = (part_row Sysinfo).base + 8

abbrev pub info_open : ℕ
info_open = (part_row Sysinfo).base + 12

abbrev pub spi_ctrl : ℕ
spi_ctrl = (unit_row Spi).base

abbrev pub spi_data : ℕ
spi_data = (unit_row Spi).base + 4

abbrev pub spi_select : ℕ
spi_select = (unit_row Spi).base + 8

-- bits of UART0's CTRL: a byte has come (of SPI's CTRL too), there is no credit, not all credits are back
abbrev pub has_come : ℕ
has_come = 2 ^ 16

abbrev pub is_full : ℕ
is_full = 2 ^ 21

abbrev pub is_busy : ℕ
is_busy = 2 ^ 31

-- OPEN where the front of every unit is open
abbrev pub all_open : ℕ
all_open = 0xfe

-- where an image stands in the flash: its header, and its payload
abbrev pub header_address : ℕ
header_address = 0x400000

abbrev pub payload_address : ℕ
payload_address = 0x400100

-- how many blocks of 4 KiB from the header's on hold it and a payload of so many bytes
abbrev pub blocks : ℕ → ℕ
blocks size = (256 + size + 4095) / 4096

-- the header of an image, by the length and the checksum word of its payload
abbrev pub header_by : ℕ → ℕ → List ℕ
header_by size check = bytes_of signature ++ bytes_of size ++ bytes_of check

-- how many words a page of the flash has
unfoldable pub page_words : ℕ
page_words = 64

-- what is done with the flash's answer to a byte
pub data Way : Type 0 where
  -- nothing, it is one more byte, it is the status
  Drop Collect Look : Way

-- where an image comes from
pub data Source : Type 0 where
  Uart Flash : Source

-- one action: a request and what is done with its reply, or a decision, which asks nothing
pub data Action : Type 0 where
  -- load the word again and again, until its bits under the mask are these
  Await : (address mask bits : ℕ) → Action
  -- store the word
  Save : (address value : ℕ) → Action
  -- load the word, and print its eight digits
  Report : (address : ℕ) → Action
  -- load UART0's DATA: a byte of a header or of a payload
  Get : Action
  -- load UART0's DATA: the byte of a command, which is done
  Ask : Action
  -- store the last four bytes that were taken, or that the flash answered, as a word
  Keep : (address : ℕ) → Action
  -- load SPI's DATA: the flash's answer to the last byte that it was sent
  Answer : (way : Way) → Action
  -- load a word of IMEM, and send its bytes to the flash
  Fetch : (address : ℕ) → Action
  -- hand over to core 0
  Leave : Action
  -- decide on the status that was read: whether it has to be read again, and whether the flash can be written
  Again Writable : Action
  -- decide on the header that was taken, and on the header and the payload
  Head : (from : Source) → Action
  Tail : Action

-- each list of actions is followed by a rest

abbrev pub line : List ℕ → List ℕ
line text = text ++ 13 ∷ 10 ∷ []

abbrev pub print : List ℕ → List Action → List Action
print [] rest = rest
print (byte ∷ bytes) rest = Await uart_ctrl is_full 0 ∷ Save uart_data byte ∷ print bytes rest

-- until a byte has come
abbrev pub comes : Action
comes = Await uart_ctrl has_come has_come

abbrev pub take : List Action → List Action
take rest = comes ∷ Get ∷ rest

abbrev pub takes : ℕ → List Action → List Action
takes zero rest = rest
takes (suc n) rest = take (takes n rest)

-- so many words of a payload, each stored after its fourth byte
abbrev pub takes_words : ℕ → ℕ → List Action → List Action
takes_words to zero rest = rest
takes_words to (suc n) rest = take (take (take (take (Keep to ∷ takes_words (to + 4) n rest))))

-- a command is taken and done
abbrev pub asking : List Action
asking = comes ∷ Ask ∷ []

-- a byte is sent to the flash, and its answer comes
abbrev pub transfer : ℕ → Way → List Action → List Action
transfer byte way rest = Save spi_data byte ∷ Await spi_ctrl has_come has_come ∷ Answer way ∷ rest

abbrev pub select : Action
select = Save spi_select 1

abbrev pub deselect : Action
deselect = Save spi_select 0

-- the flash's status is read
abbrev pub read_status : List Action → List Action
read_status rest = select ∷ transfer 0x05 Drop (transfer 0x00 Look (deselect ∷ rest))

-- the status is read until no operation is under way
abbrev pub wait : List Action → List Action
wait rest = read_status (Again ∷ rest)

-- the SPI unit is enabled, and the flash is waited for
abbrev pub begin : List Action → List Action
begin rest = Save spi_ctrl 1 ∷ wait rest

-- write enable is set
abbrev pub write_enable : List Action → List Action
write_enable rest = select ∷ transfer 0x06 Drop (deselect ∷ rest)

-- a command with its address
abbrev pub address_sent : ℕ → ℕ → List Action → List Action
address_sent code address rest =
    select ∷ transfer code Drop (transfer (address / 2 ^ 16 % 2 ^ 8) Drop (transfer (address / 2 ^ 8 % 2 ^ 8) Drop (transfer (address % 2 ^ 8) Drop rest)))

-- the block of 4 KiB at an address is erased, and so many blocks from an address on
abbrev pub erase : ℕ → List Action → List Action
erase address rest = write_enable (address_sent 0x20 address (deselect ∷ wait rest))

abbrev pub erases : ℕ → ℕ → List Action → List Action
erases address zero rest = rest
erases address (suc n) rest = erase address (erases (address + 4096) n rest)

-- some bytes are sent to the flash
abbrev pub send : List ℕ → List Action → List Action
send [] rest = rest
send (byte ∷ bytes) rest = transfer byte Drop (send bytes rest)

-- so many words of IMEM are sent to it
abbrev pub fetches : ℕ → ℕ → List Action → List Action
fetches from zero rest = rest
fetches from (suc n) rest = Fetch from ∷ fetches (from + 4) n rest

-- bytes, or words of IMEM, are programmed at an address
abbrev pub program_bytes : ℕ → List ℕ → List Action → List Action
program_bytes address bytes rest = write_enable (address_sent 0x02 address (send bytes (deselect ∷ wait rest)))

abbrev pub program_words : ℕ → ℕ → ℕ → List Action → List Action
program_words address from n rest = write_enable (address_sent 0x02 address (fetches from n (deselect ∷ wait rest)))

-- so many whole pages of words of IMEM are programmed from an address on, and then the words that are left
abbrev pub programs : ℕ → ℕ → ℕ → ℕ → List Action → List Action
programs address from zero zero rest = rest
programs address from zero (suc left) rest = program_words address from (suc left) rest
programs address from (suc n) left rest = program_words address from page_words (programs (address + 256) (from + 256) n left rest)

-- so many bytes are read from the flash
abbrev pub collects : ℕ → List Action → List Action
collects zero rest = rest
collects (suc n) rest = transfer 0x00 Collect (collects n rest)

-- so many words of a payload are read, each stored after its fourth byte
abbrev pub collects_words : ℕ → ℕ → List Action → List Action
collects_words to zero rest = rest
collects_words to (suc n) rest = collects 4 (Keep to ∷ collects_words (to + 4) n rest)

-- a line and the prompt
abbrev pub prompting : List ℕ → List ℕ
prompting text = line text ++ codes "> "

abbrev pub answer : List ℕ → List Action
answer text = print (prompting text) asking

abbrev pub starting : ℕ → List Action
starting ctrl = Await info_open (2 ^ 32 - 1) all_open ∷ Save uart_ctrl ctrl ∷ answer (codes "N1")

abbrev pub help : List ℕ
help = line (codes "h help") ++ line (codes "i information") ++ line (codes "r restart") ++ line (codes "u upload")
    ++ line (codes "s store") ++ line (codes "l load") ++ line (codes "e execute")

abbrev pub information : List Action
information = print (codes "IMEM ") (Report info_imem ∷ print (codes " DMEM ") (Report info_dmem ∷ print (codes " CLK ") (Report info_clock ∷ answer [])))

-- a hexadecimal digit, and the lowest digits of a number
abbrev pub digit : ℕ → ℕ
digit n = if nat_lt n 10 then 48 + n else 87 + n

abbrev pub digits : ℕ → ℕ → List ℕ
digits zero n = []
digits (suc k) n = digit (n / 16 ^ k % 16) ∷ digits k n

-- what the monitor keeps beside its actions
pub record Mind : Type 0 where
  -- the bytes that the command under way took, or that the flash answered
  pub bytes : List ℕ
  -- the length and the checksum word of the payload that is held
  pub held : Option (ℕ × ℕ)
  -- the flash's status, once the command under way has read it
  pub status : ℕ

abbrev pub mind : List ℕ → Option (ℕ × ℕ) → Mind
mind bytes held = record { bytes = bytes; held = held; status = 0 }

-- with more bytes
abbrev pub longer : Mind → List ℕ → Mind
longer i bytes = record i { bytes = i.bytes ++ bytes }

pub record ActionState : Type 0 where
  -- what is still to be done
  pub todo : List Action
  pub mind : Mind

-- the commands
pub data Key : Type 0 where
  Help Information Restart Upload Store Load Execute Unknown : Key

abbrev pub key_of : ℕ → Key
key_of byte =
    if byte == 117 then Upload
    else if byte == 101 then Execute
    else if byte == 115 then Store
    else if byte == 108 then Load
    else if byte == 114 then Restart
    else if byte == 104 then Help
    else if byte == 105 then Information
    else Unknown

-- the word of the last four bytes
abbrev pub last_word : List ℕ → ℕ
last_word bytes = word_at bytes (length bytes - 4)

-- an image whose payload has this length and this checksum word is stored
abbrev pub burning : ℕ → ℕ → List Action
burning size check =
    erases header_address (blocks size) (programs payload_address 0 (size / 256) (size % 256 / 4)
    (program_bytes header_address (header_by size check) (answer (codes "OK"))))

abbrev pub storing : ℕ → ℕ → List Action
storing size check = begin (write_enable (read_status (Writable ∷ burning size check)))

-- the header in the flash is read
abbrev pub loading : List Action
loading = begin (address_sent 0x03 header_address (collects 12 (deselect ∷ Head Flash ∷ [])))

-- the payload of a header
abbrev pub payload_from : Source → ℕ → List Action
payload_from Uart size = takes_words 0 (size / 4) (Tail ∷ [])
payload_from Flash size = address_sent 0x03 payload_address (collects_words 0 (size / 4) (deselect ∷ Tail ∷ []))

-- after the flash's answer to a byte
abbrev pub mind_after : Way → Mind → ℕ → Mind
mind_after Drop i reply = i
mind_after Collect i reply = longer i (reply % 256 ∷ [])
mind_after Look i reply = record i { status = reply }

module _ (room ctrl : ℕ) where
  abbrev pub begun : ActionState
  begun = record { todo = starting ctrl; mind = mind [] None }

  abbrev pub command : Key → Option (ℕ × ℕ) → ActionState
  command Help held = record { todo = print (help ++ codes "> ") asking; mind = mind [] held }
  command Information held = record { todo = information; mind = mind [] held }
  command Restart held = begun
  command Upload held = record { todo = print (line (codes "UP")) (takes 12 (Head Uart ∷ [])); mind = mind [] None }
  command Store None = record { todo = answer (codes "ERR none"); mind = mind [] None }
  command Store (Some image) = record { todo = storing image.0 image.1; mind = mind [] (Some image) }
  command Load held = record { todo = loading; mind = mind [] None }
  command Execute None = record { todo = answer (codes "ERR none"); mind = mind [] None }
  command Execute (Some image) = record { todo = print (line (codes "GO")) (Await uart_ctrl is_busy 0 ∷ Leave ∷ []); mind = mind [] (Some image) }
  command Unknown held = record { todo = answer (codes "ERR command"); mind = mind [] held }

  -- on a header: the payload is taken where there is room for it
  abbrev pub head : Source → Mind → ActionState
  head from i =
      if not (signature_of i.bytes == signature) then record { todo = answer (codes "ERR signature"); mind = mind [] None }
      else if not (is_allowed room (size_of i.bytes)) then record { todo = answer (codes "ERR size"); mind = mind [] None }
      else record { todo = payload_from from (size_of i.bytes); mind = i }

  -- on a header and its payload: it is held where the checksum holds
  abbrev pub tail : Mind → ActionState
  tail i =
      if sums_to_zero i.bytes then record { todo = answer (codes "OK"); mind = mind [] (Some (size_of i.bytes, check_of i.bytes)) }
      else record { todo = answer (codes "ERR checksum"); mind = mind [] None }

  -- a decision takes no time
  abbrev pub settled : List Action → Mind → ActionState
  settled (Again ∷ rest) i = if i.status % 2 == 0 then record { todo = rest; mind = i } else record { todo = wait rest; mind = i }
  settled (Writable ∷ rest) i = if i.status / 2 % 2 == 0 then record { todo = answer (codes "ERR flash"); mind = i } else record { todo = rest; mind = i }
  settled (Head from ∷ rest) i = head from i
  settled (Tail ∷ rest) i = tail i
  settled todo i = record { todo = todo; mind = i }

  -- the first action's request is answered
  abbrev pub answered : List Action → Mind → ℕ → ActionState
  answered (Await address mask bits ∷ rest) i reply =
      if bit_and reply mask == bits then settled rest i else record { todo = Await address mask bits ∷ rest; mind = i }
  answered (Save address value ∷ rest) i reply = settled rest i
  answered (Report address ∷ rest) i reply = record { todo = print (digits 8 reply) rest; mind = i }
  answered (Get ∷ rest) i reply = settled rest (longer i (reply % 256 ∷ []))
  answered (Ask ∷ rest) i reply = command (key_of (reply % 256)) i.held
  answered (Keep address ∷ rest) i reply = settled rest i
  answered (Answer way ∷ rest) i reply = settled rest (mind_after way i reply)
  answered (Fetch address ∷ rest) i reply = record { todo = send (bytes_of reply) rest; mind = i }
  answered todo i reply = record { todo = todo; mind = i }

  -- after these replies, the latest first
  abbrev pub after_replies : List ℕ → ActionState
  after_replies [] = begun
  after_replies (reply ∷ replies) = answered (after_replies replies).todo (after_replies replies).mind reply

abbrev pub load : ℕ → MonitorOut
load address = Bus (record { addr = address; width = Word; store = None })

abbrev pub store : ℕ → ℕ → MonitorOut
store address value = Bus (record { addr = address; width = Word; store = Some value })

-- what an action asks; a list of actions never begins with a decision, and is never empty
abbrev pub asks : List Action → List ℕ → MonitorOut
asks (Await address mask bits ∷ rest) bytes = load address
asks (Save address value ∷ rest) bytes = store address value
asks (Report address ∷ rest) bytes = load address
asks (Get ∷ rest) bytes = load uart_data
asks (Ask ∷ rest) bytes = load uart_data
asks (Keep address ∷ rest) bytes = store address (last_word bytes)
asks (Answer way ∷ rest) bytes = load spi_data
asks (Fetch address ∷ rest) bytes = load address
asks (Leave ∷ rest) bytes = HandOver
asks todo bytes = load uart_ctrl

-- what is asked once these replies were given, the latest first
abbrev pub next : ℕ → ℕ → List ℕ → MonitorOut
next room ctrl replies = asks (after_replies room ctrl replies).todo (after_replies room ctrl replies).mind.bytes
