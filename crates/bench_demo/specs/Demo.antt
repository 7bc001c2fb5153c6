-- Definition: the demonstration: an image made from a number, its upload to the boot monitor, and what is shown of the run.
use Rattle.std.specs.Prelude.{ℕ, zero, suc, ◌+◌, ◌*◌, ◌%◌, ◌^◌, List, [], ◌∷◌, ◌++◌, None, length, codes, decimal, unwrap_or}
use Rattle.std.specs.List.{flat_map}
use Rattle.trace_text.specs.Lines.{boot_text, end_text}
use Rattle.chip_base.specs.Settings.{Values, standard}
use Rattle.chip_base.specs.UnitTable.{unit_row}
use Rattle.chip_base.specs.declared.boot.Boot.TheVariants.{Monitor}
use Rattle.chip_base.specs.declared.chip_unit.ChipUnit.TheVariants.{Uart0}
use Rattle.chip_base.specs.declared.event.Event.{Event}
use Rattle.chip_base.specs.declared.script.Script.{Script}
use Rattle.chip_base.specs.declared.script.UartStep.TheVariants.{Expect, Send, Image}
use Rattle.chip_hub.specs.Views.{boot_view, word_view}
use Rattle.chip_whole.specs.Asked.{events_at}
use Rattle.chip_whole.specs.Chip.{Board, ChipState, after, start}
use Rattle.image_tool.specs.Image.{bytes_of, image_of}
use Rattle.soc_words.specs.Text.{hex_word, line}

-- the generator's word after this one
abbrev pub next_word : ℕ → ℕ
next_word word = (word * 1664525 + 1013904223) % 2 ^ 32

-- the generator's word of this number: word 0 is the seed
unfoldable pub generated : ℕ → ℕ → ℕ
generated seed zero = seed
generated seed (suc n) = next_word (generated seed n)

-- the words 1 to n of the generator
unfoldable pub generated_words : ℕ → ℕ → List ℕ
generated_words seed zero = []
generated_words seed (suc n) = generated_words seed n ++ generated seed (suc n) ∷ []

-- the program, which stores the wrapping sum of the words from address 64 up to 8,192 at 80000000, and the zeros before the first of these words:
-- lui x1, 0x80000; addi x2, x0, 64; lui x3, 2; addi x4, x0, 0; lw x5, 0(x2); add x4, x4, x5; addi x2, x2, 4; bne x2, x3, -12; sw x4, 0(x1); jal x0, 0
abbrev pub program : List ℕ
program =
    0x800000b7 ∷ 0x04000113 ∷ 0x000021b7 ∷ 0x00000213 ∷ 0x00012283 ∷ 0x00520233 ∷ 0x00410113 ∷ 0xfe311ae3 ∷ 0x0040a023 ∷ 0x0000006f ∷ 0 ∷ 0 ∷ 0 ∷ 0 ∷ 0 ∷ 0 ∷ []

-- the bytes of words, one word after another
abbrev pub bytes_of_words : List ℕ → List ℕ
bytes_of_words words = flat_map bytes_of words

-- the program, and behind it the 2,032 words that the generator gives after the seed
unfoldable pub payload : ℕ → List ℕ
payload seed = bytes_of_words (program ++ generated_words seed 2032)

abbrev pub demo_image : ℕ → List ℕ
demo_image seed = image_of (payload seed)

-- the image is sent when the monitor asks for a command and is told to upload, and then the monitor is told to run it
abbrev pub demo_script : Script
demo_script = record {
  pins = [];
  uart0 = Expect (codes "> ") ∷ Send (codes "u") ∷ Expect (codes "UP" ++ 13 ∷ 10 ∷ []) ∷ Image ∷ Expect (codes "> ") ∷ Send (codes "e") ∷ [];
  uart1 = [];
}

-- the settings of a chip without a chip file, but that UART0 has the baud divisor 0
abbrev pub demo_settings : Values
demo_settings = record standard { baud = 0 }

-- nothing is attached
abbrev pub bare_board : Board
bare_board = record { part = None }

-- the chip at power-on
abbrev pub demo_start : ℕ → ChipState
demo_start seed = start demo_settings Monitor (demo_image seed) demo_script

-- the chip after the demonstration's 400,000 cycles
abbrev pub demo_end : ℕ → ChipState
demo_end seed = after bare_board (demo_start seed) 400000

-- how many bytes UART0 sent: each of its events is one
unfoldable pub serial_count : List Event → ℕ
serial_count events = length (events_at (unit_row Uart0).number events)

unfoldable pub number_text : ℕ → List ℕ
number_text number = line (codes "demo " ++ decimal number)

-- the length of an image in bytes
unfoldable pub size_text : ℕ → List ℕ
size_text size = line (codes "image " ++ decimal size)

unfoldable pub serial_text : ℕ → List ℕ
serial_text count = line (codes "serial " ++ decimal count)

unfoldable pub sum_text : ℕ → List ℕ
sum_text sum = line (codes "sum " ++ hex_word sum)

-- the word at 80000000; DMEM begins there, so there is one
abbrev pub sum_word : ChipState → ℕ
sum_word chip = unwrap_or (word_view chip.hub 0x80000000) 0

-- what is shown of the image of this many bytes that was made from this number
abbrev pub made_text : ℕ → ℕ → List ℕ
made_text number size = number_text number ++ size_text size

-- what is shown of the chip after the run
abbrev pub run_text : ChipState → List ℕ
run_text chip = serial_text (serial_count chip.events) ++ sum_text (sum_word chip) ++ boot_text (boot_view chip.seat) ++ end_text

-- what the demonstration writes for a number
abbrev pub demo_text : ℕ → List ℕ
demo_text number = made_text number (length (demo_image number)) ++ run_text (demo_end number)
