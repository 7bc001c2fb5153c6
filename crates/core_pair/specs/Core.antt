-- A definition: the state of a core, and how it begins.
use Rattle.std.specs.Prelude.{◌==◌, ℕ, ◌-◌, ◌*◌, ◌/◌, false, List, replicate, Option, Some, None, if◌then◌else◌}
use Rattle.csr_file.specs.State.{CsrsState}
use Rattle.csr_file.specs.Table.{fresh}
use Rattle.chip_base.specs.declared.hart.HartView.{HartView}
use Rattle.chip_base.specs.declared.hart.PhaseWord.{PhaseWord}
use Rattle.chip_base.specs.declared.hart.PhaseWord.TheVariants.{Ready, Run as Running, Want as Wanting, Sleep as Sleeping, Parked as IsParked, Monitor as IsMonitor}
use Rattle.soc_bus.specs.declared.access.Request.{Request}
use Rattle.core_pair.specs.Hart.{HartState, Outcome, with_register}
use Rattle.core_pair.specs.declared.phase.Phase.{Phase}
use Rattle.core_pair.specs.declared.phase.Phase.TheVariants.{Run, Want, Sleep, Parked, Monitor}
use Rattle.core_pair.specs.declared.phase.Awaited.{Awaited}

-- a hart's registers, pc and CSRs, what the core is doing, and what it keeps of a load or store until its grant
pub record CoreState : Type 0 where
  pub regs : List ℕ
  pub pc : ℕ
  pub csrs : CsrsState
  pub phase : Phase
  pub awaited : Awaited

-- the hart of a core
abbrev pub hart_of : CoreState → HartState
hart_of c = record { regs = c.regs; pc = c.pc; csrs = c.csrs }

-- so many registers of zero
unfoldable pub cleared : ℕ → List ℕ
cleared n = replicate n 0

-- core 0 begins at once, and core 1 is parked
abbrev pub first_phase : ℕ → Phase
first_phase hart = if hart == 0 then Run 0 else Parked

-- a core at reset
abbrev pub reset_core : ℕ → CoreState
reset_core hart = record {
  regs = cleared 32;
  pc = 0;
  csrs = fresh hart;
  phase = first_phase hart;
  awaited = record { rd = 0; signed = false; next = 0 };
}

-- the core after an instruction or a trap: it is busy for the rest of the cycles
abbrev pub busy_after : CoreState → Outcome → CoreState
busy_after c o = record c { regs = o.hart.regs; pc = o.hart.pc; csrs = o.hart.csrs; phase = Run (o.cycles - 1) }

-- the core starts at an address, with a stack pointer in x2
abbrev pub started : CoreState → ℕ → ℕ → CoreState
started c pc sp = record c { regs = with_register c.regs 2 sp; pc = pc / 2 * 2; phase = Run 0 }

-- the request that a core waits for
abbrev pub wanted_in : Phase → Option Request
wanted_in (Want request) = Some request
wanted_in _ = None

-- a phase as a report shows it
abbrev pub phase_word : Phase → PhaseWord
phase_word (Run left) = if left == 0 then Ready else Running
phase_word (Want request) = Wanting
phase_word (Sleep left) = Sleeping
phase_word Parked = IsParked
phase_word Monitor = IsMonitor

-- a core as a report shows it
abbrev pub view_of : CoreState → HartView
view_of c = record { phase = phase_word c.phase; pc = c.pc; retired = c.csrs.minstret; regs = c.regs }
