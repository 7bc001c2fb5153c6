-- The words of laws over definitions: what a grant leaves of the core that waited for it.
use Rattle.std.specs.Prelude.{◌≡◌, ◌==◌, ℕ, ◌<◌, ◌&&◌, slice_index, is_some, if◌then◌else◌}
use mathlib.Core.Bool.{not}
use Rattle.csr_file.specs.Causes.{cause_of}
use Rattle.csr_file.specs.Traps.{after_retire}
use Rattle.soc_bus.specs.declared.access.BusFault.{BusFault}
use Rattle.soc_bus.specs.declared.access.Request.{Request}
use Rattle.core_pair.specs.Access.{extended, access_exception}
use Rattle.core_pair.specs.Core.{CoreState}
use Rattle.core_pair.specs.declared.phase.Phase.TheVariants.{Run}

-- the access was made: rd has the loaded value, unless it is x0, and every other register is as it was; pc is the address after the
-- instruction; minstret is one more; and the core is busy for four more turns
abbrev pub AccessRetires : CoreState → CoreState → Request → ℕ → Type 0
AccessRetires old new r value =
    ((n : ℕ) → n < 32 → slice_index new.regs n ≡ (if (n == old.awaited.rd) && not (n == 0) then extended r.width old.awaited.signed value else slice_index old.regs n))
    × (new.pc ≡ old.awaited.next)
    × (new.csrs ≡ after_retire old.csrs)
    × (new.phase ≡ Run 4)

-- the access was refused: no register changes, nor does minstret; mepc is the address of the instruction, mcause tells a misaligned
-- address from another refusal and a load from a store, and mtval is the address; and the core is busy for five more turns
abbrev pub AccessTraps : CoreState → CoreState → Request → BusFault → Type 0
AccessTraps old new r fault =
    (new.regs ≡ old.regs)
    × (new.csrs.minstret ≡ old.csrs.minstret)
    × (new.csrs.mepc ≡ old.pc)
    × (new.csrs.mcause ≡ cause_of (access_exception (is_some r.store) fault))
    × (new.csrs.mtval ≡ r.addr)
    × (new.phase ≡ Run 5)
