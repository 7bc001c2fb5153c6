-- A definition: the causes of traps, as mcause has them. Names and numbers are those of the privileged manual, chapter "Machine-Level ISA".
use Rattle.std.specs.Prelude.{ℕ, ◌+◌, ◌^◌, Bool, nat_le}
use Rattle.csr_file.specs.declared.causes.Exception.{Exception}
use Rattle.csr_file.specs.declared.causes.Exception.TheVariants.{InstructionAccessFault, IllegalInstruction, Breakpoint, LoadAddressMisaligned, LoadAccessFault, StoreAddressMisaligned, StoreAccessFault, EnvironmentCall}

-- the causes of exceptions
abbrev pub cause_of : Exception → ℕ
cause_of InstructionAccessFault = 1
cause_of IllegalInstruction = 2
cause_of Breakpoint = 3
cause_of LoadAddressMisaligned = 4
cause_of LoadAccessFault = 5
cause_of StoreAddressMisaligned = 6
cause_of StoreAccessFault = 7
cause_of EnvironmentCall = 11

-- the cause of the interrupt of a bit of mip
abbrev pub interrupt_cause : ℕ → ℕ
interrupt_cause number = 2 ^ 31 + number

-- a cause is that of an interrupt
abbrev pub is_interrupt : ℕ → Bool
is_interrupt cause = nat_le (2 ^ 31) cause
