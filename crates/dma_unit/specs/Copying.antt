-- A law over definitions: what a copy does, access by access.
use Rattle.std.specs.Prelude.{◌≡◌, ◌≤◌, ℕ, ◌+◌, ◌-◌, ◌*◌, ◌%◌, ◌^◌, Bool, List, [], ◌∷◌, length, Some, Result, Ok, Err, if◌then◌else◌}
use Rattle.soc_bus.specs.declared.access.BusFault.{BusFault}
use Rattle.soc_bus.specs.declared.access.Request.{Request}
use Rattle.dma_unit.specs.declared.state.DmaState.{DmaState}
use Rattle.dma_unit.specs.declared.state.DmaState.TheVariants.{Reading, Writing, Fault}
use Rattle.dma_unit.specs.DmaRegisters.{DmaRegisters, dma_granted, load_at, state_before, store_at, dma_wanted}

-- how many accesses a copy still needs: two for each word, and one less once the word was read
abbrev pub accesses_left : DmaState → ℕ → ℕ
accesses_left Reading count = 2 * count
accesses_left Writing count = 2 * count - 1
accesses_left other count = 0

-- a grant moves the copy by one access, and a refused access moves nothing and is remembered
pub record MovesByOne (old : DmaRegisters) (answer : Result ℕ BusFault) (new : DmaRegisters) : Type 0 where
  pub access : (word : ℕ) → answer ≡ Ok word → accesses_left new.state new.count + 1 ≡ accesses_left old.state old.count
  pub refused : (why : BusFault) → answer ≡ Err why
      → new ≡ record old { state = Fault; fault = new.fault }
  pub remembered : (why : BusFault) (r : Request) → answer ≡ Err why → dma_wanted old ≡ Some r → new.fault ≡ r.addr

-- the address of word `n` of a copy that begins at an address
abbrev pub address_of : Bool → ℕ → ℕ → ℕ
address_of fixed first n = if fixed then first else (first + 4 * n) % 2 ^ 32

-- the registers after these words were copied, two grants for each
unfoldable pub after_words : DmaRegisters → List ℕ → DmaRegisters
after_words c [] = c
after_words c (w ∷ ws) = after_words (dma_granted (dma_granted c (Ok w)) (Ok 0)) ws

-- word n of a copy that stands at its first is read and written at its own addresses
pub record CopiesNext (c : DmaRegisters) (words : List ℕ) : Type 0 where
  pub loads : length words + 1 ≤ c.count
      → dma_wanted (after_words c words) ≡ Some (load_at (address_of c.source_fixed c.source (length words)))
  pub stores : length words + 1 ≤ c.count → (word : ℕ)
      → dma_wanted (dma_granted (after_words c words) (Ok word))
      ≡ Some (store_at (address_of c.destination_fixed c.destination (length words)) word)
  pub count : (after_words c words).count ≡ c.count - length words
  pub ends : (after_words c words).state ≡ state_before (c.count - length words)

-- a copy that stands at its first word copies any words up to its count
abbrev pub Copies : DmaRegisters → Type 0
Copies c = c.state ≡ Reading → (words : List ℕ) → length words ≤ c.count → CopiesNext c words
