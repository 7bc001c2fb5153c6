-- What the monitor asks: only what it may, and nothing that the map refuses.
use Rattle.std.proofs.Common.{◌≡◌, ℕ, ◌-◌, ◌%◌, ◌^◌, ◌<◌, ◌≤◌, Bool, true, false, List, refl, sym, ap, ◌∙◌, arith, subst, inl, inr}
use Rattle.std.proofs.lemmas.Bool.Decides.{nat_tests}
use Rattle.std.specs.Option.{is_some}
use Rattle.std.specs.Prelude.{◌==◌, ◌&&◌, nat_le, nat_lt, not, if◌then◌else◌, Option, Some, None, IsOk, Result, Ok, Err}
use Rattle.soc_bus.specs.Access.{width_bytes}
use Rattle.soc_bus.specs.Map.{admitted, device_of, is_memory, is_narrow, reached, region_of, registers}
use Rattle.soc_bus.specs.Memory.{IsSize}
use Rattle.soc_bus.specs.declared.access.BusFault.{BusFault}
use Rattle.soc_bus.specs.declared.access.BusFault.TheVariants.{Misaligned, Narrow}
use Rattle.soc_bus.specs.declared.access.Region.{Region}
use Rattle.soc_bus.specs.declared.access.Region.TheVariants as region
use Rattle.soc_bus.specs.declared.access.Request.{Request}
use Rattle.soc_bus.specs.declared.access.Width.TheVariants as width
use Rattle.boot_monitor.specs.Actions.{ActionState, after_replies, asks, info_clock, info_dmem, info_imem, info_open, load, next, store, spi_ctrl, spi_data, spi_select, uart_ctrl, uart_data, last_word}
use Rattle.boot_monitor.specs.Phases.{IsCounted, IsIn, IsReady, IsSound, IsStarted, todo_in}
use Rattle.boot_monitor.specs.Standing.{IsLoaded, IsMine, IsPlace, IsStored, Stands}
use Rattle.boot_monitor.specs.declared.exchange.MonitorOut.{MonitorOut}
use Rattle.boot_monitor.specs.declared.exchange.MonitorOut.TheVariants.{Bus}
use Rattle.boot_monitor.specs.declared.phases.MonitorState.{MonitorState}
use Rattle.boot_monitor.specs.declared.phases.Phase.{Phase}
use Rattle.boot_monitor.specs.declared.phases.Phase.TheVariants.{Unstarted, Opening, SettingUp, AwaitingRoom, Sending, Asking, AwaitingByte, Taking, Storing, Enabling, Selecting, Transferring, AwaitingAnswer, Answering, Fetching, Deselecting, Finishing, Over}
use Rattle.boot_monitor.specs.declared.phases.Purpose.TheVariants.{Command, Header, Payload}
use Rattle.boot_monitor.specs.declared.phases.Setting.TheVariants.{Imem, Dmem, Clock}
use Rattle.boot_monitor.specs.Errands.{word_address}
use Rattle.boot_monitor.proofs.Blocks.{word-within}
use Rattle.boot_monitor.proofs.Printing.{asks-room}
use Rattle.boot_monitor.proofs.Rest.{if-true, if-false}

-- a load and a store that it may make
loads : (room address : ℕ) (request : Request) → IsLoaded room address → load address ≡ Bus request → IsMine room request
loads room address request h e =
    let is : record { addr = address; width = width.Word; store = None } ≡ request = cc in
    subst (IsMine room) is (record { width = refl; place = h })

stores-to : (room address value : ℕ) (request : Request) → IsStored room address → store address value ≡ Bus request → IsMine room request
stores-to room address value request h e =
    let is : record { addr = address; width = width.Word; store = Some value } ≡ request = cc in
    subst (IsMine room) is (record { width = refl; place = h })

-- what each phase asks
mine-in : (p : Phase) (room ctrl count size : ℕ) (bytes : List ℕ) (request : Request) → IsReady p → IsStarted p → IsCounted p room count size
    → asks (todo_in p ctrl count size) bytes ≡ Bus request → IsMine room request
mine-in Unstarted room ctrl count size bytes request r s c e = elim s [ ]
mine-in Opening room ctrl count size bytes request r s c e = loads room info_open request (inr (inr (inr (inr (inr (inl refl)))))) e
mine-in SettingUp room ctrl count size bytes request r s c e = stores-to room uart_ctrl ctrl request (inl refl) e
mine-in (AwaitingRoom text place) room ctrl count size bytes request r s c e =
    loads room uart_ctrl request (inl refl) (asks-room (AwaitingRoom text place) text place ctrl count size bytes refl r ∙ e)
mine-in (Sending text place) room ctrl count size bytes request r s c e = stores-to room uart_data _ request (inr (inl refl)) e
mine-in (Asking Imem) room ctrl count size bytes request r s c e = loads room info_imem request (inr (inr (inr (inl refl)))) e
mine-in (Asking Dmem) room ctrl count size bytes request r s c e = loads room info_dmem request (inr (inr (inr (inr (inl refl))))) e
mine-in (Asking Clock) room ctrl count size bytes request r s c e = loads room info_clock request (inr (inr (inl refl))) e
mine-in (AwaitingByte purpose) room ctrl count size bytes request r s c e = loads room uart_ctrl request (inl refl) e
mine-in (Taking Command) room ctrl count size bytes request r s c e = loads room uart_data request (inr (inl refl)) e
mine-in (Taking Header) room ctrl count size bytes request r s c e = loads room uart_data request (inr (inl refl)) e
mine-in (Taking Payload) room ctrl count size bytes request r s c e = loads room uart_data request (inr (inl refl)) e
mine-in (Storing source) room ctrl count size bytes request r s c e =
    stores-to room (count - 16) (last_word bytes) request (inr (inr (inr (inr (inr (omega (arith, c.from, c.to, c.fits), omega (arith, c.from, c.word))))))) e
mine-in (Enabling errand) room ctrl count size bytes request r s c e = stores-to room spi_ctrl 1 request (inr (inr (inl refl))) e
mine-in (Selecting frame errand) room ctrl count size bytes request r s c e = stores-to room spi_select 1 request (inr (inr (inr (inr (inl refl))))) e
mine-in (Transferring transfer) room ctrl count size bytes request r s c e = stores-to room spi_data _ request (inr (inr (inr (inl refl)))) e
mine-in (AwaitingAnswer transfer) room ctrl count size bytes request r s c e = loads room spi_ctrl request (inr (inr (inr (inr (inr (inr (inl refl))))))) e
mine-in (Answering transfer) room ctrl count size bytes request r s c e = loads room spi_data request (inr (inr (inr (inr (inr (inr (inr (inl refl)))))))) e
mine-in (Fetching page index) room ctrl count size bytes request r s c e =
    let within : word_address page index < page.image.length = word-within page index c.page_is.number c.below in
    loads room (word_address page index) request (inr (inr (inr (inr (inr (inr (inr (inr (omega (arith, within, c.page_is.fits), omega arith))))))))) e
mine-in (Deselecting frame errand) room ctrl count size bytes request r s c e = stores-to room spi_select 0 request (inr (inr (inr (inr (inl refl))))) e
mine-in Finishing room ctrl count size bytes request r s c e = loads room uart_ctrl request (inl refl) e
mine-in Over room ctrl count size bytes request r s c e = let bad : ⊥ = cc in elim bad [ ]

-- what the monitor asks where it stands
pub asks-next : (m : MonitorState) (out : MonitorOut) (room ctrl : ℕ) (replies : List ℕ) → Stands m room ctrl (Some replies)
    → ((s : ActionState) → IsIn m s → out ≡ asks s.todo s.mind.bytes) → out ≡ next room ctrl replies
unfolding Stands
asks-next m out room ctrl replies h is = is (after_replies room ctrl replies) h.3

-- it is a request that it may make
pub mine : (m : MonitorState) (out : MonitorOut) (room ctrl : ℕ) (replies : List ℕ) (request : Request) → Stands m room ctrl (Some replies) → IsSound m
    → out ≡ next room ctrl replies → out ≡ Bus request → IsMine room request
unfolding Stands
mine m out room ctrl replies request h sound is e =
    subst (λ r. IsMine r request) h.0
    (mine-in m.phase m.room m.ctrl m.tally.count m.tally.size (after_replies room ctrl replies).mind.bytes request sound.ready h.2 sound.counted
    (ap (λ todo. asks todo (after_replies room ctrl replies).mind.bytes) (sym h.3.todo) ∙ sym is ∙ e))

-- the room is a memory's size
pub room-is : (m : MonitorState) (room ctrl : ℕ) (replies : List ℕ) → Stands m room ctrl (Some replies) → IsSound m → IsSize room
unfolding Stands
room-is m room ctrl replies h sound = subst IsSize h.0 sound.size

-- words aren't narrow
none-narrow : (a b : Bool) → (a && b && false) ≡ false
none-narrow true true = refl
none-narrow true false = refl
none-narrow false b = refl

module _ (request : Request) (word : request.width ≡ width.Word) (room dmem : ℕ) where
  -- a word is reached wherever there is something
  reached-word : (place : Region) → IsOk (reached request (Some place))
  reached-word place = go (is_narrow request place) wide
    where
      wide : is_narrow request place ≡ false
      wide = ap (λ w. not (is_memory place) && is_some request.store && not (width_bytes w == 4)) word ∙ none-narrow (not (is_memory place)) (is_some request.store)

      go : (b : Bool) → b ≡ false → IsOk (if◌then◌else◌ {A = Result Region BusFault} b (Err Narrow) (Ok place))
      go false e = refl
      go true e = let bad : ⊥ = cc in elim bad [ ]

  -- an address that is a multiple of four isn't misaligned
  aligned : request.addr % 4 ≡ 0 → IsOk (reached request (region_of room dmem request.addr)) → IsOk (admitted request room dmem)
  aligned h there = go (request.addr % width_bytes request.width == 0) even
    where
      zero-is : (a : ℕ) → a ≡ 0 → (a == 0) ≡ true
      zero-is a h = grind (arith, nat_tests)

      even : (request.addr % width_bytes request.width == 0) ≡ true
      even = ap (λ w. request.addr % width_bytes w == 0) word ∙ zero-is (request.addr % 4) h

      go : (b : Bool) → b ≡ true → IsOk (if◌then◌else◌ {A = Result Region BusFault} b (reached request (region_of room dmem request.addr)) (Err Misaligned))
      go true e = there
      go false e = let bad : ⊥ = cc in elim bad [ ]

  -- a register above IMEM
  at-register : (address : ℕ) (place : Region) → room ≤ address → address % 4 ≡ 0 → device_of address ≡ Some place → request.addr ≡ address
      → IsOk (admitted request room dmem)
  at-register address place high four is e =
      aligned (ap (λ a. a % 4) e ∙ four)
      (subst (λ a. IsOk (reached request (region_of room dmem a))) (sym e)
      (subst (λ p. IsOk (reached request p)) (sym (if-false _ _ _ (above address high))) (either (nat_le (2 ^ 31) address && nat_lt (address - 2 ^ 31) dmem))))
    where
      above : (address : ℕ) → room ≤ address → nat_lt address room ≡ false
      above address h = grind (arith, nat_tests)

      either : (b : Bool) → IsOk (reached request (if b then Some region.Dmem else device_of address))
      either true = reached-word region.Dmem
      either false = subst (λ p. IsOk (reached request p)) (sym is) (reached-word place)

  -- a word of IMEM
  at-imem : request.addr < room → request.addr % 4 ≡ 0 → IsOk (admitted request room dmem)
  at-imem low four = aligned four (subst (λ p. IsOk (reached request p)) (sym (if-true _ _ _ (below request.addr low))) (reached-word region.Imem))
    where
      below : (address : ℕ) → address < room → nat_lt address room ≡ true
      below address h = grind (arith, nat_tests)

-- the map has the registers
ctrl-there : device_of uart_ctrl ≡ Some (region.Device 1 0)
unfolding registers
ctrl-there = refl

data-there : device_of uart_data ≡ Some (region.Device 1 4)
unfolding registers
data-there = refl

clock-there : device_of info_clock ≡ Some region.Sysinfo
unfolding registers
clock-there = refl

imem-there : device_of info_imem ≡ Some region.Sysinfo
unfolding registers
imem-there = refl

dmem-there : device_of info_dmem ≡ Some region.Sysinfo
unfolding registers
dmem-there = refl

open-there : device_of info_open ≡ Some region.Sysinfo
unfolding registers
open-there = refl

spi_ctrl-there : device_of spi_ctrl ≡ Some (region.Device 3 0)
unfolding registers
spi_ctrl-there = refl

spi_data-there : device_of spi_data ≡ Some (region.Device 3 4)
unfolding registers
spi_data-there = refl

spi_select-there : device_of spi_select ≡ Some (region.Device 3 8)
unfolding registers
spi_select-there = refl

-- the map refuses none of its requests
pub admits : (room dmem : ℕ) (request : Request) → IsSize room → IsMine room request → IsOk (admitted request room dmem)
admits room dmem request hs h = go request.store h.place
  where
    go : (store : Option ℕ) → IsPlace room request.addr store → IsOk (admitted request room dmem)
    go None (inl e) = at-register request h.width room dmem uart_ctrl _ (omega (arith, hs.to)) refl ctrl-there e
    go None (inr (inl e)) = at-register request h.width room dmem uart_data _ (omega (arith, hs.to)) refl data-there e
    go None (inr (inr (inl e))) = at-register request h.width room dmem info_clock _ (omega (arith, hs.to)) refl clock-there e
    go None (inr (inr (inr (inl e)))) = at-register request h.width room dmem info_imem _ (omega (arith, hs.to)) refl imem-there e
    go None (inr (inr (inr (inr (inl e))))) = at-register request h.width room dmem info_dmem _ (omega (arith, hs.to)) refl dmem-there e
    go None (inr (inr (inr (inr (inr (inl e)))))) = at-register request h.width room dmem info_open _ (omega (arith, hs.to)) refl open-there e
    go None (inr (inr (inr (inr (inr (inr (inl e))))))) = at-register request h.width room dmem spi_ctrl _ (omega (arith, hs.to)) refl spi_ctrl-there e
    go None (inr (inr (inr (inr (inr (inr (inr (inl e)))))))) = at-register request h.width room dmem spi_data _ (omega (arith, hs.to)) refl spi_data-there e
    go None (inr (inr (inr (inr (inr (inr (inr (inr p)))))))) = at-imem request h.width room dmem p.0 p.1
    go (Some value) (inl e) = at-register request h.width room dmem uart_ctrl _ (omega (arith, hs.to)) refl ctrl-there e
    go (Some value) (inr (inl e)) = at-register request h.width room dmem uart_data _ (omega (arith, hs.to)) refl data-there e
    go (Some value) (inr (inr (inl e))) = at-register request h.width room dmem spi_ctrl _ (omega (arith, hs.to)) refl spi_ctrl-there e
    go (Some value) (inr (inr (inr (inl e)))) = at-register request h.width room dmem spi_data _ (omega (arith, hs.to)) refl spi_data-there e
    go (Some value) (inr (inr (inr (inr (inl e))))) = at-register request h.width room dmem spi_select _ (omega (arith, hs.to)) refl spi_select-there e
    go (Some value) (inr (inr (inr (inr (inr p))))) = at-imem request h.width room dmem p.0 p.1
