-- A definition of loads and stores: the request at issue, and the grant.
use Rattle.std.specs.Prelude.{ℕ, ◌%◌, ◌^◌, Bool, false, Some, None, Result, Ok, Err, slice_index, is_some, if◌then◌else◌}
use Rattle.soc_words.specs.Word.{wrapped_sum, sign_extended}
use Rattle.soc_bus.specs.declared.access.Width.{Width}
use Rattle.soc_bus.specs.declared.access.Width.TheVariants.{Byte, Half, Word}
use Rattle.soc_bus.specs.declared.access.Request.{Request}
use Rattle.soc_bus.specs.declared.access.BusFault.{BusFault}
use Rattle.soc_bus.specs.declared.access.BusFault.TheVariants.{Misaligned, Unmapped, Narrow}
use Rattle.csr_file.specs.Causes.{cause_of}
use Rattle.csr_file.specs.declared.causes.Exception.{Exception}
use Rattle.csr_file.specs.declared.causes.Exception.TheVariants.{LoadAddressMisaligned, LoadAccessFault, StoreAddressMisaligned, StoreAccessFault}
use Rattle.rv_decode.specs.declared.instr.Instr.{Instr}
use Rattle.core_pair.specs.declared.phase.Phase.{Phase}
use Rattle.core_pair.specs.declared.phase.Phase.TheVariants.{Want}
use Rattle.core_pair.specs.declared.phase.Awaited.{Awaited}
use Rattle.core_pair.specs.Core.{CoreState, hart_of, busy_after}
use Rattle.core_pair.specs.Hart.{HartState, retires, traps}

-- the request of a load
abbrev pub load_request : HartState → Instr → Width → Request
load_request h i width = record { addr = wrapped_sum (slice_index h.regs i.rs1) i.imm; width = width; store = None }

-- the request of a store
abbrev pub store_request : HartState → Instr → Width → Request
store_request h i width = record { addr = wrapped_sum (slice_index h.regs i.rs1) i.imm; width = width; store = Some (slice_index h.regs i.rs2) }

-- what the core keeps of a load
abbrev pub load_awaited : Instr → ℕ → Bool → Awaited
load_awaited i next signed = record { rd = i.rd; signed = signed; next = next }

-- what the core keeps of a store
abbrev pub store_awaited : ℕ → Awaited
store_awaited next = record { rd = 0; signed = false; next = next }

-- a loaded value as a word
abbrev pub extended : Width → Bool → ℕ → ℕ
extended Byte signed value = if signed then sign_extended 8 (value % 2 ^ 8) else value % 2 ^ 8
extended Half signed value = if signed then sign_extended 16 (value % 2 ^ 16) else value % 2 ^ 16
extended Word signed value = value

-- the exception of a refused load or store
abbrev pub access_exception : Bool → BusFault → Exception
access_exception is_store Misaligned = if is_store then StoreAddressMisaligned else LoadAddressMisaligned
access_exception is_store Unmapped = if is_store then StoreAccessFault else LoadAccessFault
access_exception is_store Narrow = if is_store then StoreAccessFault else LoadAccessFault

-- the answer to a request: the instruction retires, or the core enters a trap whose value is the address
abbrev pub core_answered : CoreState → Request → Result ℕ BusFault → CoreState
core_answered c r (Ok value) = busy_after c (retires (hart_of c) c.awaited.rd (extended r.width c.awaited.signed value) c.awaited.next 5)
core_answered c r (Err fault) = busy_after c (traps (hart_of c) (cause_of (access_exception (is_some r.store) fault)) r.addr)

abbrev pub granted_in : CoreState → Result ℕ BusFault → Phase → CoreState
granted_in c answer (Want request) = core_answered c request answer
granted_in c answer _ = c

-- the core after the grant of the request that it waits for
unfoldable pub core_granted : CoreState → Result ℕ BusFault → CoreState
core_granted c answer = granted_in c answer c.phase
