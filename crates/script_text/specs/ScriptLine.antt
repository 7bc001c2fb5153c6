-- A definition: the fields of one line of a script, and the steps that they mean.
use Rattle.std.specs.Prelude.{ℕ, ◌-◌, ◌^◌, ◌==◌, Bool, true, false, List, [], ◌∷◌, Result, Ok, Err, Option, Some, None, codes, if◌then◌else◌, nat_lt}
use Rattle.std.specs.Str.{bytes_eq}
use Rattle.hex.specs.Hex.{decode_of}
use Rattle.hex.specs.declared.error.FromHexError.{FromHexError}
use Rattle.text_fields.specs.Fields.{Text, after_field, ends_field, field, skip}
use Rattle.text_fields.specs.Numbers.{number_of}
use Rattle.text_fields.specs.Quoted.{quoted_text}
use Rattle.chip_base.specs.Steps.{is_step}
use Rattle.chip_base.specs.declared.script.PinStep.{PinStep}
use Rattle.chip_base.specs.declared.script.UartStep.{UartStep}
use Rattle.chip_base.specs.declared.script.UartStep.TheVariants as step
use Rattle.script_text.specs.declared.script_fault.ScriptKind.{ScriptKind}
use Rattle.script_text.specs.declared.script_fault.ScriptKind.TheVariants as kind

-- a value that was read at the front of a line, and the rest of the line
abbrev pub Read : Type 0 → Type 0
Read A = Result (A × Text) ScriptKind

-- what the rest of the line comes to
abbrev pub then_read : {A B : Type 0} → Read A → (A → Text → Result B ScriptKind) → Result B ScriptKind
then_read (Ok p) next = next p.0 p.1
then_read (Err k) next = Err k

-- a field's value, where it has one
abbrev pub or_fault : {A : Type 0} → ScriptKind → Option A → Text → Read A
or_fault k None rest = Err k
or_fault k (Some a) rest = Ok (a, rest)

-- the line ends here
abbrev pub ends : {A : Type 0} → A → Text → Result A ScriptKind
ends a [] = Ok a
ends a (b ∷ more) = Err kind.Word

-- a fault where the test holds
abbrev pub fault_if : {A : Type 0} → Bool → ScriptKind → Result A ScriptKind → Result A ScriptKind
fault_if true k r = Err k
fault_if false k r = r

-- a number of one to ten digits, below 2 ^ 32
unfoldable pub number_field : Text → Read ℕ
number_field [] = Err kind.Word
number_field (b ∷ more) = or_fault kind.Number (number_of 10 (2 ^ 32 - 1) (field (b ∷ more))) (after_field (b ∷ more))

-- the bytes, where the digits have any
abbrev pub hex_bytes : Result (List ℕ) FromHexError → Option (List ℕ)
hex_bytes (Ok bytes) = Some bytes
hex_bytes (Err e) = None

-- an even number of hexadecimal digits
unfoldable pub hex_field : Text → Read (List ℕ)
hex_field [] = Err kind.Word
hex_field (b ∷ more) = or_fault kind.Hex (hex_bytes (decode_of (field (b ∷ more)))) (after_field (b ∷ more))

-- the closing quote ends the field
abbrev pub closed : Option (List ℕ × Text) → Read (List ℕ)
closed None = Err kind.Text
closed (Some p) = if ends_field p.1 then Ok (p.0, skip p.1) else Err kind.Text

-- a text in double quotes
unfoldable pub text_field : Text → Read (List ℕ)
text_field [] = Err kind.Word
text_field (b ∷ more) = if b == 34 then closed (quoted_text more) else Err kind.Text

-- CYCLE NUMBER LEVEL, where the pin line before has the cycle `last`
unfoldable pub pin_of : ℕ → Text → Result PinStep ScriptKind
pin_of last text =
    then_read (number_field text) (λ cycle r1. fault_if (nat_lt cycle last) kind.Order
    (then_read (number_field r1) (λ pin r2. fault_if (nat_lt 31 pin) kind.Pin
    (then_read (number_field r2) (λ level r3. fault_if (nat_lt 1 level) kind.Pin
    (ends (record { cycle = cycle; pin = pin; level = level == 1 }) r3))))))

-- at CYCLE
unfoldable pub at_of : Text → Result UartStep ScriptKind
at_of text = then_read (number_field text) (λ cycle rest. ends (step.At cycle) rest)

-- expect TEXT
unfoldable pub expect_of : Text → Result UartStep ScriptKind
expect_of text = then_read (text_field text) (λ bytes rest. if is_step (step.Expect bytes) then ends (step.Expect bytes) rest else Err kind.Text)

-- send TEXT
unfoldable pub send_of : Text → Result UartStep ScriptKind
send_of text = then_read (text_field text) (λ bytes rest. ends (step.Send bytes) rest)

-- hex DIGITS
unfoldable pub hex_of : Text → Result UartStep ScriptKind
hex_of text = then_read (hex_field text) (λ bytes rest. ends (step.Send bytes) rest)

-- the step with this word, and the line after it
abbrev pub step_named : Text → Text → Result UartStep ScriptKind
step_named word rest =
    if bytes_eq word (codes "at") then at_of rest
    else if bytes_eq word (codes "expect") then expect_of rest
    else if bytes_eq word (codes "send") then send_of rest
    else if bytes_eq word (codes "hex") then hex_of rest
    else if bytes_eq word (codes "image") then ends step.Image rest
    else Err kind.Word

-- a UART's line after its name
unfoldable pub uart_of : Text → Result UartStep ScriptKind
uart_of text = step_named (field text) (after_field text)
