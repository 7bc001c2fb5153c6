-- What the monitor knows of the flash over the cycles: nothing while SPI's front is closed, and from then on what its requests and their replies make of it.
use Rattle.std.proofs.Common.{◌≡◌, ◌≤◌, ◌⊎◌, inl, inr, ℕ, ◌+◌, ◌/◌, ◌%◌, ◌-◌, ◌^◌, ◌==◌, min, Bool, true, false, List, [], ◌∷◌, length, bit_and, Option, None, Some, refl, sym, ap, ap₂, ◌∙◌, arith, subst}
use Rattle.std.proofs.lemmas.Bool.Decides.{nat_tests}
use Rattle.std.proofs.lemmas.Nat.Bits.{bit_at_and}
use Rattle.boot_gate.proofs.Gates.{gated}
use Rattle.boot_gate.proofs.Stores.{stored_length}
use Rattle.boot_gate.specs.Gate.{Shown}
use Rattle.boot_gate.specs.Replies.{AreGiven, IsGiven, base_of, memory_after, world_after, world_by}
use Rattle.boot_monitor.specs.Actions.{ActionState, after_replies, all_open, answered, asks, begun, info_open, load, next, starting as first_actions, mind}
use Rattle.boot_monitor.specs.declared.exchange.MonitorOut.{MonitorOut}
use Rattle.boot_monitor.specs.declared.exchange.MonitorOut.TheVariants.{Bus, HandOver}
use Rattle.flash_seen.specs.Seen.{Seen, seen}
use Rattle.flash_seen.specs.World.{IsAllowed, Shut, World, has_bit, place_at, unshut, world_start}
use Rattle.image_tool.specs.Image.{word_at}
use Rattle.monitor_paths.proofs.Cycles.{keeps_opened, opens_blank}
use Rattle.monitor_paths.specs.Always.{Always}
use Rattle.monitor_paths.specs.FlashPath.{FlashPath, Untouched, after_touch, heard, path_heard}
use Rattle.monitor_paths.specs.Laws.{Opens, ReplyFits, ServesRequest, touch_at}
use Rattle.monitor_paths.specs.Opened.{Opened}
use Rattle.soc_bus.specs.Memory.{IsSize}
use Rattle.soc_bus.specs.declared.access.Request.{Request}
use Rattle.soc_bus.specs.declared.access.Width.TheVariants.{Word}
use Rattle.soc_words.specs.Link.{link_first}
use Rattle.spi_flash.specs.Flash.{FlashState}
use Rattle.spi_flash.specs.SpiCycle.{spi_cycle}
use Rattle.spi_flash.specs.declared.transfer.Transfer.TheVariants as transfer
use Rattle.unit_fronts.specs.SerialRegisters.{SerialRegisters, serial_is_open}

-- the front is open: the flash was seen so first, as it stood there, and the replies since then were such as it and IMEM give
pub record IsKnown (room ctrl : ℕ) (Since : Seen → Type 0) (before replies : List ℕ) (p : FlashPath) : Type 0 where
  pub first : Seen
  pub away : first.transfer ≡ transfer.Idle
  pub since : Since first
  pub given : AreGiven room ctrl first before replies
  pub opened : Opened (world_after room ctrl first replies) p

-- the front is closed: the monitor asks only whether it is open, and whatever stands in the flash, it knows nothing of it
pub record IsShut (room ctrl : ℕ) (base : Option (Option (List ℕ))) (before replies : List ℕ) (front : SerialRegisters) : Type 0 where
  pub shut : serial_is_open front ≡ false
  pub none : base ≡ None
  pub waits : after_replies room ctrl replies ≡ begun room ctrl
  pub nothing : (first : Seen) → world_after room ctrl first replies ≡ world_start first
  pub given : (first : Seen) → AreGiven room ctrl first before replies

-- either of them
abbrev pub FlashAt : ℕ → ℕ → Option (Option (List ℕ)) → (Seen → Type 0) → List ℕ → List ℕ → FlashPath → Type 0
FlashAt room ctrl base Since before replies p = IsKnown room ctrl Since before replies p ⊎ IsShut room ctrl base before replies p.front

-- these bytes stood in the flash, as it was seen first
abbrev pub HasBase : Option (Option (List ℕ)) → Seen → Type 0
HasBase base first = base ≡ Some (base_of first)

-- or they will, from this cycle on
abbrev pub WillHaveBase : Option (Option (List ℕ)) → FlashState → Seen → Type 0
WillHaveBase base flash first = HasBase base first ⊎ ((base ≡ None) × (seen flash ≡ first))

-- SPI's unit's flash after the cycle
abbrev pub flash_next : FlashPath → ℕ → FlashState
flash_next p now = (spi_cycle p.unit now (link_first p.down)).unit.flash

-- the reply to a load of IMEM is the word that stands there
abbrev pub IsWordOf : Request → List ℕ → ℕ → Type 0
IsWordOf request memory reply = request.store ≡ None → request.addr + 4 ≤ length memory → reply ≡ word_at memory request.addr

-- IMEM stays as long as it is
memory_length : (room ctrl : ℕ) (before replies : List ℕ) → length (memory_after room ctrl before replies) ≡ length before
memory_length room ctrl before [] = refl
memory_length room ctrl before (reply ∷ replies) =
    stored_length (memory_after room ctrl before replies) (next room ctrl replies) ∙ memory_length room ctrl before replies

-- OPEN with SPI's bit clear isn't the word that is waited for
still_shut : (reply : ℕ) → has_bit reply 3 ≡ false → (bit_and reply (2 ^ 32 - 1) == all_open) ≡ false
still_shut reply clear = by (bit_and reply (2 ^ 32 - 1) == all_open) refl
  where
    by : (b : Bool) → (bit_and reply (2 ^ 32 - 1) == all_open) ≡ b → (bit_and reply (2 ^ 32 - 1) == all_open) ≡ false
    by false e = e
    by true e =
        let is : bit_and reply (2 ^ 32 - 1) ≡ 0xfe = grind (arith, nat_tests) in
        let third : bit_and reply (2 ^ 32 - 1) / 2 ^ 3 % 2 ≡ min (reply / 2 ^ 3 % 2) ((2 ^ 32 - 1) / 2 ^ 3 % 2) = bit_at_and reply (2 ^ 32 - 1) 3 in
        let here : 0xfe / 2 ^ 3 % 2 ≡ min (reply / 2 ^ 3 % 2) 1 = sym (ap (λ n. n / 2 ^ 3 % 2) is) ∙ third in
        let one : reply / 2 ^ 3 % 2 ≡ 1 = omega (arith, here) in
        let set : has_bit reply 3 ≡ true = grind (arith, nat_tests) in
        let bad : true ≡ false = sym set ∙ clear in let worse : ⊥ = cc in elim worse [ ]

-- while the front is closed the monitor asks for OPEN
pub shut_asks : {room ctrl : ℕ} {base : Option (Option (List ℕ))} {before replies : List ℕ} {front : SerialRegisters} → IsShut room ctrl base before replies front
    → next room ctrl replies ≡ load info_open
shut_asks k = ap (λ (s : ActionState). asks s.todo s.mind.bytes) k.waits

request_or : Request → MonitorOut → Request
request_or r (Bus request) = request
request_or r HandOver = r

abbrev open_request : Request
open_request = record { addr = info_open; width = Word; store = None }

pub is_open_request : (request : Request) → load info_open ≡ Bus request → open_request ≡ request
unfolding request_or
is_open_request request e = ap (request_or open_request) e

module _ (room ctrl : ℕ) (base : Option (Option (List ℕ))) (before replies : List ℕ) (p : FlashPath) (now : ℕ) where
  -- after the arrivals
  pub hears : Always p → FlashAt room ctrl base (HasBase base) before replies p
      → FlashAt room ctrl base (WillHaveBase base (flash_next p now)) before replies (path_heard p)
  hears a (inl k) = inl (record {
    first = k.first;
    away = k.away;
    since = inl k.since;
    given = k.given;
    opened = (keeps_opened p).hears (world_after room ctrl k.first replies) a k.opened;
  })
  hears a (inr k) = by (serial_is_open (heard p)) refl
    where
      by : (b : Bool) → serial_is_open (heard p) ≡ b → FlashAt room ctrl base (WillHaveBase base (flash_next p now)) before replies (path_heard p)
      by true e =
          let o : Opens p = opens_blank p a k.shut e in
          inl (record {
            first = seen p.unit.flash;
            away = o.blank.transfer;
            since = inr (k.none, o.still now);
            given = k.given (seen p.unit.flash);
            opened = subst (λ w. Opened w (path_heard p)) (sym (k.nothing (seen p.unit.flash))) o.opened;
          })
      by false e = inr (record { shut = e; none = k.none; waits = k.waits; nothing = k.nothing; given = k.given })

  -- the monitor asks nothing in this cycle
  pub rests : (Since : Seen → Type 0) → Always p → FlashAt room ctrl base Since before replies (path_heard p)
      → FlashAt room ctrl base Since before replies (after_touch p now Untouched)
  rests Since a (inl k) = inl (record {
    first = k.first;
    away = k.away;
    since = k.since;
    given = k.given;
    opened = (keeps_opened p).rests (world_after room ctrl k.first replies) now a k.opened;
  })
  rests Since a (inr k) = inr k

  -- its request is answered, where the front is open
  asks_known : (Since : Seen → Type 0) (shown : Shown) (request : Request) (reply : ℕ) → IsSize room → length before ≡ room → Always p
      → next room ctrl replies ≡ Bus request → ReplyFits (heard p) (place_at request.addr) request.store reply → IsWordOf request (memory_after room ctrl before replies) reply
      → IsKnown room ctrl Since before replies (path_heard p)
      → IsKnown room ctrl Since before (reply ∷ replies) (after_touch p now (touch_at (place_at request.addr) request.store))
  asks_known Since shown request reply size long a e fits word k =
      let w : World = world_after room ctrl k.first replies in
      let may : IsAllowed w (place_at request.addr) request.store = (gated room ctrl shown k.first before replies size long k.away k.given).allowed request e in
      let served : ServesRequest p now w (place_at request.addr) request.store reply
      = (keeps_opened p).serves w now (place_at request.addr) request.store reply a k.opened may fits in
      let given : IsGiven w (memory_after room ctrl before replies) (Bus request) reply = record { flash = served.told; word = word } in
      record {
        first = k.first;
        away = k.away;
        since = k.since;
        given = (subst (λ o. IsGiven w (memory_after room ctrl before replies) o reply) (sym e) given, k.given);
        opened = subst (λ o. Opened (world_by w o reply) (after_touch p now (touch_at (place_at request.addr) request.store))) (sym e) served.opened;
      }

  -- and where it is closed
  asks_shut : (request : Request) (reply : ℕ) → IsSize room → length before ≡ room → next room ctrl replies ≡ Bus request
      → ReplyFits (heard p) (place_at request.addr) request.store reply → IsShut room ctrl base before replies (heard p)
      → IsShut room ctrl base before (reply ∷ replies) (after_touch p now (touch_at (place_at request.addr) request.store)).front
  asks_shut request reply size long e fits k =
      let is : open_request ≡ request = is_open_request request (sym (shut_asks k) ∙ e) in
      subst (λ (r : Request). IsShut room ctrl base before (reply ∷ replies) (after_touch p now (touch_at (place_at r.addr) r.store)).front) is
      (by (subst (λ (r : Request). ReplyFits (heard p) (place_at r.addr) r.store reply) (sym is) fits))
    where
      small : length (memory_after room ctrl before replies) ≤ 1048576
      small = omega (arith, memory_length room ctrl before replies, long, size.to)

      waits_on : (b : Bool) → (bit_and reply (2 ^ 32 - 1) == all_open) ≡ b → b ≡ false
          → answered room ctrl (first_actions ctrl) (mind [] None) reply ≡ begun room ctrl
      waits_on false e h = rw e refl
      waits_on true e h = let bad : ⊥ = cc in elim bad [ ]

      by : has_bit reply 3 ≡ serial_is_open (heard p) → IsShut room ctrl base before (reply ∷ replies) (heard p)
      by bit =
          let clear : has_bit reply 3 ≡ false = bit ∙ k.shut in
          record {
            shut = k.shut;
            none = k.none;
            waits = ap (λ (s : ActionState). answered room ctrl s.todo s.mind reply) k.waits ∙ waits_on _ refl (still_shut reply clear);
            nothing = λ first.
                ap₂ (λ (w : World) (o : MonitorOut). world_by w o reply) (k.nothing first) (shut_asks k)
                ∙ ap (λ b. record { flash = (world_start first).flash; free = (world_start first).free; stage = unshut Shut b; used = false }) clear;
            given = λ first. (
              subst (λ o. IsGiven (world_after room ctrl first replies) (memory_after room ctrl before replies) o reply) (sym (shut_asks k))
                  (record { flash = tt; word = λ load within. absurd (omega (arith, small, within)) }),
              k.given first,
            );
          }

  -- its request is answered
  pub asks_next : (Since : Seen → Type 0) (shown : Shown) (request : Request) (reply : ℕ) → IsSize room → length before ≡ room → Always p
      → next room ctrl replies ≡ Bus request → ReplyFits (heard p) (place_at request.addr) request.store reply → IsWordOf request (memory_after room ctrl before replies) reply
      → FlashAt room ctrl base Since before replies (path_heard p)
      → FlashAt room ctrl base Since before (reply ∷ replies) (after_touch p now (touch_at (place_at request.addr) request.store))
  asks_next Since shown request reply size long a e fits word (inl k) = inl (asks_known Since shown request reply size long a e fits word k)
  asks_next Since shown request reply size long a e fits word (inr k) = inr (asks_shut request reply size long e fits k)
