-- A definition: a core's turn.
use Rattle.std.specs.Prelude.{◌==◌, ℕ, ◌-◌, Option, Some, None, if◌then◌else◌}
use Rattle.std.specs.Option.{option_and_then}
use Rattle.chip_base.specs.declared.hart.IssueRecord.{IssueRecord}
use Rattle.csr_file.specs.Causes.{cause_of}
use Rattle.csr_file.specs.declared.causes.Exception.TheVariants.{InstructionAccessFault}
use Rattle.csr_file.specs.Traps.{after_tick, pending_in, wakes_in}
use Rattle.soc_bus.specs.Memory.{MemoryState}
use Rattle.rv_decode.specs.declared.instr.Instr.{Instr}
use Rattle.rv_decode.specs.Rows.{decoded}
use Rattle.rv_decode.specs.Parcels.{expanded}
use Rattle.core_pair.specs.declared.fetch.Fetched.{Fetched}
use Rattle.core_pair.specs.declared.fetch.Fetched.TheVariants.{Absent, Parcel, Word}
use Rattle.core_pair.specs.declared.phase.Phase.{Phase}
use Rattle.core_pair.specs.declared.phase.Phase.TheVariants.{Run, Want, Sleep, Parked, Monitor}
use Rattle.core_pair.specs.Core.{CoreState, busy_after, hart_of}
use Rattle.core_pair.specs.Hart.{traps}
use Rattle.core_pair.specs.Execute.{executed}
use Rattle.core_pair.specs.Fetch.{fetched_at}

-- the core after a turn, and the instruction that it issued
pub record Turned : Type 0 where
  pub after : CoreState
  pub issued : Option IssueRecord

-- an instruction is issued; an illegal one too
abbrev pub issued_from : CoreState → ℕ → ℕ → Option Instr → ℕ → ℕ → Turned
issued_from c now mip instr word length = record {
  after = executed c instr word length mip;
  issued = Some (record { cycle = now; hart = c.csrs.hart; pc = c.pc; word = word });
}

-- the core goes on with what it fetched: where a half isn't there it enters a trap whose value is the half's address
abbrev pub issued_by : CoreState → ℕ → ℕ → Fetched → Turned
issued_by c now mip (Absent address) = record { after = busy_after c (traps (hart_of c) (cause_of InstructionAccessFault) address); issued = None }
issued_by c now mip (Parcel parcel) = issued_from c now mip (option_and_then decoded (expanded parcel)) parcel 2
issued_by c now mip (Word word) = issued_from c now mip (decoded word) word 4

-- the core takes an interrupt, or else fetches
abbrev pub acted_by : CoreState → ℕ → ℕ → MemoryState → Option ℕ → Turned
acted_by c now mip m (Some cause) = record { after = busy_after c (traps (hart_of c) cause 0); issued = None }
acted_by c now mip m None = issued_by c now mip (fetched_at m c.pc)

-- the core acts
unfoldable pub acted : CoreState → ℕ → ℕ → MemoryState → Turned
acted c now mip m = acted_by c now mip m (pending_in c.csrs mip)

-- nothing is issued
abbrev pub idle : CoreState → Turned
idle c = record { after = c; issued = None }

-- mcycle counts the turn
abbrev pub ticked : CoreState → CoreState
ticked c = record c { csrs = after_tick c.csrs }

-- the turn of a core that has so many cycles left before it acts
abbrev pub running : CoreState → ℕ → ℕ → MemoryState → ℕ → Turned
running c now mip m left = if left == 0 then acted c now mip m else idle (record c { phase = Run (left - 1) })

-- the turn of a core that sleeps: after so many cycles it acts where an interrupt is pending, whether it is taken or not
abbrev pub sleeping : CoreState → ℕ → ℕ → MemoryState → ℕ → Turned
sleeping c now mip m left =
    if left == 0 then (if wakes_in c.csrs mip then acted c now mip m else idle c)
    else idle (record c { phase = Sleep (left - 1) })

-- the turn by the phase; it counts in mcycle but where the core is parked or the monitor stands in its place
abbrev pub turned_in : CoreState → ℕ → ℕ → MemoryState → Phase → Turned
turned_in c now mip m (Run left) = running (ticked c) now mip m left
turned_in c now mip m (Want request) = idle (ticked c)
turned_in c now mip m (Sleep left) = sleeping (ticked c) now mip m left
turned_in c now mip m Parked = idle c
turned_in c now mip m Monitor = idle c

-- the core's turn in the cycle `now`, where `mip` is what the interrupt lines give
unfoldable pub turned : CoreState → ℕ → ℕ → MemoryState → Turned
turned c now mip m = turned_in c now mip m c.phase
