-- A definition: what one line of a command file means.
use Rattle.std.specs.Prelude.{ℕ, ◌-◌, ◌%◌, ◌^◌, ◌==◌, Bool, false, List, [], ◌∷◌, Option, Some, None, Result, Ok, Err, codes, if◌then◌else◌, nat_le, nat_lt, option_and_then, option_map}
use Rattle.std.specs.Str.{bytes_eq}
use Rattle.text_fields.specs.Fields.{Text, fields}
use Rattle.text_fields.specs.Numbers.{hex_number_of, number_of}
use Rattle.command_text.specs.declared.command.Command.{Command}
use Rattle.command_text.specs.declared.command.Command.TheVariants as command
use Rattle.command_text.specs.declared.command_line.FaultyLine.{FaultyLine}

-- a value, where it passes a test
abbrev pub filtered : {A : Type 0} → (A → Bool) → Option A → Option A
filtered passes None = None
filtered passes (Some a) = if passes a then Some a else None

-- a hart: 0 or 1
abbrev pub hart_of : Text → Option ℕ
hart_of text = number_of 10 1 text

-- an address: one to eight hexadecimal digits
abbrev pub address_of : Text → Option ℕ
address_of text = hex_number_of 8 text

-- a multiple of four
abbrev pub is_aligned : ℕ → Bool
is_aligned at = at % 4 == 0

-- the address of a word
abbrev pub word_address_of : Text → Option ℕ
word_address_of text = filtered is_aligned (address_of text)

-- the address of a CSR: at most fff
abbrev pub csr_address_of : Text → Option ℕ
csr_address_of text = filtered (λ at. nat_lt at 4096) (address_of text)

-- a count of cycles: one to ten decimal digits, below 2 ^ 32
abbrev pub cycles_of : Text → Option ℕ
cycles_of text = number_of 10 (2 ^ 32 - 1) text

-- a count of words: 1 to 64
abbrev pub count_of : Text → Option ℕ
count_of text = filtered (λ count. nat_le 1 count) (number_of 10 64 text)

-- the only field
abbrev pub only : List Text → Option Text
only [] = None
only (a ∷ []) = Some a
only (a ∷ b ∷ more) = None

-- the only two fields
abbrev pub only_two : List Text → Option (Text × Text)
only_two [] = None
only_two (a ∷ []) = None
only_two (a ∷ b ∷ []) = Some (a, b)
only_two (a ∷ b ∷ c ∷ more) = None

-- a command without an argument
abbrev pub with_none : Command → List Text → Option Command
with_none c [] = Some c
with_none c (a ∷ more) = None

-- a command with one argument
abbrev pub with_one : (ℕ → Command) → (Text → Option ℕ) → List Text → Option Command
with_one make read arguments = option_and_then (λ a. option_map make (read a)) (only arguments)

-- a command with two arguments
abbrev pub with_two : (ℕ → ℕ → Command) → (Text → Option ℕ) → (Text → Option ℕ) → List Text → Option Command
with_two make first second arguments = option_and_then (λ p. option_and_then (λ x. option_map (make x) (second p.1)) (first p.0)) (only_two arguments)

-- break HART ADDR
unfoldable pub break_of : List Text → Option Command
break_of arguments = with_two command.Break hart_of address_of arguments

-- watch ADDR
unfoldable pub watch_of : List Text → Option Command
watch_of arguments = with_one command.Watch word_address_of arguments

-- step N
unfoldable pub step_of : List Text → Option Command
step_of arguments = with_one command.Step cycles_of arguments

-- cont
unfoldable pub cont_of : List Text → Option Command
cont_of arguments = with_none command.Cont arguments

-- regs HART
unfoldable pub regs_of : List Text → Option Command
regs_of arguments = with_one command.Regs hart_of arguments

-- csr HART ADDR
unfoldable pub csr_of : List Text → Option Command
csr_of arguments = with_two command.Csr hart_of csr_address_of arguments

-- mem ADDR N
unfoldable pub mem_of : List Text → Option Command
mem_of arguments = with_two command.Mem word_address_of count_of arguments

-- the command of this name with these arguments
abbrev pub command_named : Text → List Text → Option Command
command_named name arguments =
    if bytes_eq name (codes "break") then break_of arguments
    else if bytes_eq name (codes "watch") then watch_of arguments
    else if bytes_eq name (codes "step") then step_of arguments
    else if bytes_eq name (codes "cont") then cont_of arguments
    else if bytes_eq name (codes "regs") then regs_of arguments
    else if bytes_eq name (codes "csr") then csr_of arguments
    else if bytes_eq name (codes "mem") then mem_of arguments
    else None

-- a field that begins a comment
abbrev pub begins_comment : Text → Bool
begins_comment [] = false
begins_comment (b ∷ more) = b == 35

-- a line that must be a command
abbrev pub or_faulty : Option Command → Result (Option Command) FaultyLine
or_faulty (Some c) = Ok (Some c)
or_faulty None = Err (record {})

-- a line of these fields: nothing where it has none or is a comment, and else a command
abbrev pub command_in : List Text → Result (Option Command) FaultyLine
command_in [] = Ok None
command_in (first ∷ arguments) = if begins_comment first then Ok None else or_faulty (command_named first arguments)

-- what a line means
unfoldable pub command_of : Text → Result (Option Command) FaultyLine
command_of line = command_in (fields line)
