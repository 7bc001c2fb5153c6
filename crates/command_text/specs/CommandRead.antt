-- A definition, for the contracts of code: what the reader of command files answers.
use Rattle.std.specs.Prelude.{◌≡◌, ℕ, ◌^◌, ◌&&◌, Bool, true, false, List, Result, Ok, Err, nat_le, nat_lt}
use Rattle.text_fields.specs.Fields.{Text}
use Rattle.command_text.specs.CommandFile.{is_accepted}
use Rattle.command_text.specs.CommandLine.{is_aligned}
use Rattle.command_text.specs.declared.command.Command.{Command}
use Rattle.command_text.specs.declared.command.Command.TheVariants as command
use Rattle.command_text.specs.declared.commands.CommandFault.{CommandFault}
use Rattle.command_text.specs.declared.commands.CommandFault.TheVariants as fault

-- a command with values that a line can give it
abbrev pub is_allowed : Command → Bool
is_allowed (command.Break hart at) = nat_le hart 1 && nat_lt at (2 ^ 32)
is_allowed (command.Watch at) = is_aligned at && nat_lt at (2 ^ 32)
is_allowed (command.Step cycles) = nat_lt cycles (2 ^ 32)
is_allowed command.Cont = true
is_allowed (command.Regs hart) = nat_le hart 1
is_allowed (command.Csr hart addr) = nat_le hart 1 && nat_lt addr 4096
is_allowed (command.Mem at count) = is_aligned at && nat_lt at (2 ^ 32) && nat_le 1 count && nat_le count 64

-- the fault of this line, or want of memory
abbrev pub IsLineFault : ℕ → Text → CommandFault → Type 0
IsLineFault number line (fault.Line n) = (n ≡ number) × (is_accepted line ≡ false)
IsLineFault number line fault.Memory = Unit {0}

-- the faulty line that the text means, or want of memory
abbrev pub IsFault : Result (List Command) ℕ → CommandFault → Type 0
IsFault means (fault.Line n) = means ≡ Err n
IsFault means fault.Memory = Unit {0}

-- the commands or the faulty line that the text means, or want of memory
abbrev pub IsCommandsAnswer : Result (List Command) ℕ → Result (List Command) CommandFault → Type 0
IsCommandsAnswer means (Ok commands) = means ≡ Ok commands
IsCommandsAnswer means (Err f) = IsFault means f
