-- A definition: which CSRs there are, their values at reset, and what a write keeps. Names and numbers are those of the privileged manual, chapter "Control and Status Registers".
use Rattle.std.specs.Prelude.{◌≡◌, ◌==◌, ℕ, ◌+◌, ◌*◌, ◌/◌, ◌%◌, ◌^◌, Bool, true, false, List, [], ◌∷◌, Option, Some, None, bit_and, bit_or}
use Rattle.std.specs.List.{find}
use Rattle.std.specs.Option.{option_map}
use Rattle.csr_file.specs.State.{CsrsState}
use Rattle.csr_file.specs.declared.names.Csr.{Csr}
use Rattle.csr_file.specs.declared.names.CsrRow.{CsrRow}
use Rattle.csr_file.specs.declared.names.ResetValue.{ResetValue}
use Rattle.csr_file.specs.declared.names.ResetValue.TheVariants.{Word, HartNumber, InterruptLines}
use Rattle.csr_file.specs.declared.names.WriteRule.{WriteRule}
use Rattle.csr_file.specs.declared.names.WriteRule.TheVariants.{Masked, MaskedBeside, Whole, Ignored, ReadOnly}
use Rattle.csr_file.specs.declared.names.Csr.TheVariants.{Mstatus, Misa, Mie, Mtvec, Mstatush, Mscratch, Mepc, Mcause, Mtval, Mip, Mcycle, Mcycleh, Minstret, Minstreth, Mvendorid, Marchid, Mimpid, Mhartid, Mconfigptr}

abbrev pub row : ℕ → ResetValue → WriteRule → CsrRow
row number reset rule = record { number = number; reset = reset; rule = rule }

-- the table
abbrev pub csr_row : Csr → CsrRow
csr_row Mstatus = row 0x300 (Word 0x1800) (MaskedBeside 0x88 0x1800)
csr_row Misa = row 0x301 (Word 0x40001104) Ignored
csr_row Mie = row 0x304 (Word 0) (Masked 0xffff0888)
csr_row Mtvec = row 0x305 (Word 0) (Masked 0xfffffffd)
csr_row Mstatush = row 0x310 (Word 0) Ignored
csr_row Mscratch = row 0x340 (Word 0) Whole
csr_row Mepc = row 0x341 (Word 0) (Masked 0xfffffffe)
csr_row Mcause = row 0x342 (Word 0) Whole
csr_row Mtval = row 0x343 (Word 0) Whole
csr_row Mip = row 0x344 InterruptLines Ignored
csr_row Mcycle = row 0xb00 (Word 0) Whole
csr_row Mcycleh = row 0xb80 (Word 0) Whole
csr_row Minstret = row 0xb02 (Word 0) Whole
csr_row Minstreth = row 0xb82 (Word 0) Whole
csr_row Mvendorid = row 0xf11 (Word 0) ReadOnly
csr_row Marchid = row 0xf12 (Word 0x13) ReadOnly
csr_row Mimpid = row 0xf13 (Word 0x10000) ReadOnly
csr_row Mhartid = row 0xf14 HartNumber ReadOnly
csr_row Mconfigptr = row 0xf15 (Word 0) ReadOnly

-- all CSRs
abbrev pub every : List Csr
every = Mstatus ∷ Misa ∷ Mie ∷ Mtvec ∷ Mstatush ∷ Mscratch ∷ Mepc ∷ Mcause ∷ Mtval ∷ Mip ∷ Mcycle ∷ Mcycleh ∷ Minstret ∷ Minstreth ∷ Mvendorid ∷ Marchid ∷ Mimpid ∷ Mhartid ∷ Mconfigptr ∷ []

-- the CSR of a number
unfoldable pub csr_at : ℕ → Option Csr
csr_at number = find (λ c. (csr_row c).number == number) every

-- the word of a reset value, for a hart and what the lines give
abbrev pub reset_word : ℕ → ℕ → ResetValue → ℕ
reset_word hart mip (Word word) = word
reset_word hart mip HartNumber = hart
reset_word hart mip InterruptLines = mip

-- what a CSR holds at reset
abbrev pub at_reset : ℕ → ℕ → Csr → ℕ
at_reset hart mip c = reset_word hart mip (csr_row c).reset

-- the word that a CSR holds, where `mip` is what the lines give: one that no write changes holds what it holds at reset
abbrev pub held_word : CsrsState → ℕ → Csr → ℕ
held_word s mip Mstatus = s.mstatus
held_word s mip Misa = at_reset s.hart mip Misa
held_word s mip Mie = s.mie
held_word s mip Mtvec = s.mtvec
held_word s mip Mstatush = at_reset s.hart mip Mstatush
held_word s mip Mscratch = s.mscratch
held_word s mip Mepc = s.mepc
held_word s mip Mcause = s.mcause
held_word s mip Mtval = s.mtval
held_word s mip Mip = at_reset s.hart mip Mip
held_word s mip Mcycle = s.mcycle % 2 ^ 32
held_word s mip Mcycleh = s.mcycle / 2 ^ 32
held_word s mip Minstret = s.minstret % 2 ^ 32
held_word s mip Minstreth = s.minstret / 2 ^ 32
held_word s mip Mvendorid = at_reset s.hart mip Mvendorid
held_word s mip Marchid = at_reset s.hart mip Marchid
held_word s mip Mimpid = at_reset s.hart mip Mimpid
held_word s mip Mhartid = at_reset s.hart mip Mhartid
held_word s mip Mconfigptr = at_reset s.hart mip Mconfigptr

-- the state with another word in a CSR; one that never changes stays
abbrev pub with_word : CsrsState → Csr → ℕ → CsrsState
with_word s Mstatus word = record s { mstatus = word }
with_word s Mie word = record s { mie = word }
with_word s Mtvec word = record s { mtvec = word }
with_word s Mscratch word = record s { mscratch = word }
with_word s Mepc word = record s { mepc = word }
with_word s Mcause word = record s { mcause = word }
with_word s Mtval word = record s { mtval = word }
with_word s Mcycle word = record s { mcycle = s.mcycle / 2 ^ 32 * 2 ^ 32 + word }
with_word s Mcycleh word = record s { mcycle = word * 2 ^ 32 + s.mcycle % 2 ^ 32 }
with_word s Minstret word = record s { minstret = s.minstret / 2 ^ 32 * 2 ^ 32 + word }
with_word s Minstreth word = record s { minstret = word * 2 ^ 32 + s.minstret % 2 ^ 32 }
with_word s _ word = s

-- what a CSR that held `old` holds after a write
abbrev pub kept : WriteRule → ℕ → ℕ → ℕ
kept (Masked mask) old value = bit_and value mask
kept (MaskedBeside mask ones) old value = bit_or (bit_and value mask) ones
kept Whole old value = value
kept Ignored old value = old
kept ReadOnly old value = old

-- a CSR may hold this word: a write of it would change nothing
abbrev pub IsKeptBy : Csr → ℕ → Type 0
IsKeptBy c word = kept (csr_row c).rule word word ≡ word

-- a write to a CSR with such a rule is done or ignored, and not refused
abbrev pub allows_write : WriteRule → Bool
allows_write (Masked mask) = true
allows_write (MaskedBeside mask ones) = true
allows_write Whole = true
allows_write Ignored = true
allows_write ReadOnly = false

-- the state at reset
abbrev pub fresh : ℕ → CsrsState
fresh hart = record {
  hart = hart;
  mstatus = at_reset hart 0 Mstatus;
  mie = at_reset hart 0 Mie;
  mtvec = at_reset hart 0 Mtvec;
  mscratch = at_reset hart 0 Mscratch;
  mepc = at_reset hart 0 Mepc;
  mcause = at_reset hart 0 Mcause;
  mtval = at_reset hart 0 Mtval;
  mcycle = at_reset hart 0 Mcycleh * 2 ^ 32 + at_reset hart 0 Mcycle;
  minstret = at_reset hart 0 Minstreth * 2 ^ 32 + at_reset hart 0 Minstret;
}

-- what a read of a number gives: None where no CSR has it
unfoldable pub read_at : CsrsState → ℕ → ℕ → Option ℕ
read_at s number mip = option_map (held_word s mip) (csr_at number)

abbrev pub after_write_in : CsrsState → Option Csr → ℕ → CsrsState
after_write_in s None value = s
after_write_in s (Some c) value = with_word s c (kept (csr_row c).rule (held_word s 0 c) value)

-- the state after a write to a number
unfoldable pub after_write : CsrsState → ℕ → ℕ → CsrsState
after_write s number value = after_write_in s (csr_at number) value

abbrev pub allows_write_in : Option Csr → Bool
allows_write_in None = false
allows_write_in (Some c) = allows_write (csr_row c).rule

-- a write to the number isn't refused: a CSR has it, and it isn't read-only
unfoldable pub writable : ℕ → Bool
writable number = allows_write_in (csr_at number)
