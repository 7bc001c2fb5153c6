-- What a cycle of the unit does to its flash.
use Rattle.std.proofs.Common.{◌≡◌, ◌==◌, ◌-◌, ◌%◌, ◌&&◌, ℕ, Bool, true, false, List, [], ◌∷◌, Option, None, Some, get_or, nat_lt, refl, ap, sym, subst, ◌∙◌, arith, length, if◌then◌else◌}
use Rattle.chip_base.specs.Given.{Given, quiet}
use Rattle.chip_base.specs.Messages.{credit_in}
use Rattle.chip_base.specs.declared.message.Down.{Down}
use Rattle.chip_base.specs.declared.message.Down.TheVariants.{Reset, Set}
use Rattle.chip_base.specs.declared.message.Up.{Up}
use Rattle.spi_flash.specs.declared.transfer.Entry.{Entry}
use Rattle.spi_flash.specs.declared.transfer.Entry.TheVariants.{Byte, Select}
use Rattle.spi_flash.specs.Flash.{FlashState, flash_cycle}
use Rattle.spi_flash.specs.SpiCycle.{SpiState, engine_at, exchanged, queued, running, selecting, set_in, spi_cycle}
use Rattle.spi_flash.specs.UnitFlash.{StepsFlash, entry_done}

-- what the engine does to a flash, by the queue
record Follows (flash : FlashState) (queue : List Entry) (g : Given SpiState) : Type 0 where
  rests : credit_in g.up ≡ 0 → g.unit.flash ≡ flash
  does : credit_in g.up ≡ 1 → (entry : Entry) (rest : List Entry) → queue ≡ entry ∷ rest → g.unit.flash ≡ entry_done flash entry

follows_if : (flash : FlashState) (queue : List Entry) (b : Bool) (g h : Given SpiState) → Follows flash queue g → Follows flash queue h → Follows flash queue (if b then g else h)
follows_if flash queue true g h a b = a
follows_if flash queue false g h a b = b

follows_quiet : (s : SpiState) (queue : List Entry) → Follows s.flash queue (quiet s)
follows_quiet s queue = record { rests = λ c. refl; does = λ c entry rest e. absurd (omega (arith, c)) }

-- the first entry is the one that was done
first_done : (flash done : FlashState) (first entry : Entry) (rest more : List Entry) → done ≡ entry_done flash first → first ∷ rest ≡ entry ∷ more → done ≡ entry_done flash entry
first_done flash done first entry rest more d e = subst (λ x. done ≡ entry_done flash x) (ap (λ l. get_or l 0 (Byte 0)) e) d

follows_exchanged : (s : SpiState) (byte : ℕ) (rest : List Entry) (left : ℕ) → Follows s.flash (Byte byte ∷ rest) (exchanged s byte rest left)
follows_exchanged s byte rest left =
    follows_if s.flash (Byte byte ∷ rest) (left == 1) _ _
    (record { rests = λ c. absurd (omega (arith, c)); does = λ c entry more e. first_done s.flash _ (Byte byte) entry rest more refl e })
    (follows_quiet (record s { left = left - 1 }) (Byte byte ∷ rest))

follows_selecting : (s : SpiState) (on : Bool) (rest : List Entry) → Follows s.flash (Select on ∷ rest) (selecting s on rest)
follows_selecting s on rest =
    follows_if s.flash (Select on ∷ rest) (s.left == 0 && s.enabled) _ _
    (record { rests = λ c. absurd (omega (arith, c)); does = λ c entry more e. first_done s.flash _ (Select on) entry rest more refl e })
    (follows_quiet s (Select on ∷ rest))

follows_running : (s : SpiState) (byte : ℕ) (rest : List Entry) → Follows s.flash (Byte byte ∷ rest) (running s byte rest)
follows_running s byte rest =
    follows_if s.flash (Byte byte ∷ rest) (s.left == 0) _ _
    (follows_if s.flash (Byte byte ∷ rest) s.enabled _ _ (follows_exchanged s byte rest s.time) (follows_quiet s (Byte byte ∷ rest)))
    (follows_exchanged s byte rest s.left)

follows_engine : (s : SpiState) (queue : List Entry) → Follows s.flash queue (engine_at s queue)
follows_engine s [] = follows_quiet s []
follows_engine s (Select on ∷ rest) = follows_selecting s on rest
follows_engine s (Byte byte ∷ rest) = follows_running s byte rest

same_if : (flash : FlashState) (b : Bool) (x y : SpiState) → x.flash ≡ flash → y.flash ≡ flash → (if b then x else y).flash ≡ flash
same_if flash true x y p q = p
same_if flash false x y p q = q

queued_flash : (s : SpiState) (entry : Entry) → (queued s entry).flash ≡ s.flash
queued_flash s entry = same_if s.flash (nat_lt (length s.queue) 16) _ _ refl refl

-- a message alone does nothing to the flash
set_flash : (s : SpiState) (reg word : ℕ) → (set_in s reg word).flash ≡ s.flash
set_flash s reg word =
    same_if s.flash (reg == 0) _ _ refl
    (same_if s.flash (reg == 4) _ _ (queued_flash s (Byte (word % 256))) (same_if s.flash (reg == 8) _ _ (queued_flash s (Select (word % 2 == 1))) refl))

-- what a cycle does to the flash
pub steps_flash : (s : SpiState) (message : Option Down) (now : ℕ) → StepsFlash s message (spi_cycle s now message).unit (spi_cycle s now message).up
unfolding spi_cycle
steps_flash s None now =
    let f = follows_engine (record s { flash = flash_cycle s.flash }) s.queue in
    record { broken = λ r. absurd (omega (arith, r)); rests = λ r c. f.rests c; does = λ r c entry rest e. f.does c entry rest e }
steps_flash s (Some Reset) now = record { broken = λ r. refl; rests = λ r c. absurd (omega (arith, r)); does = λ r c entry rest e. absurd (omega (arith, r)) }
steps_flash s (Some (Set reg word)) now =
    let t : SpiState = set_in s reg word in
    let f = follows_engine (record t { flash = flash_cycle t.flash }) t.queue in
    let same : flash_cycle t.flash ≡ flash_cycle s.flash = ap flash_cycle (set_flash s reg word) in
    record {
      broken = λ r. absurd (omega (arith, r));
      rests = λ r c. f.rests c ∙ same;
      does = λ r c entry rest e. f.does c entry rest e ∙ ap (λ x. entry_done x entry) same;
    }

-- the same by what a cycle gives
pub steps_as : (s : SpiState) (now : ℕ) (message : Option Down) (new : SpiState) (up : Option Up) → new ≡ (spi_cycle s now message).unit → up ≡ (spi_cycle s now message).up → StepsFlash s message new up
steps_as s now message new up e f = subst (λ x. StepsFlash s message x up) (sym e) (subst (λ x. StepsFlash s message (spi_cycle s now message).unit x) (sym f) (steps_flash s message now))
