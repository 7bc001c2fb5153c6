-- What holds of the boot monitor after replies such as a flash and IMEM give.
use Rattle.std.proofs.Common.{◌≡◌, ◌≢◌, ◌==◌, inl, inr, ℕ, ◌^◌, ◌≤◌, Bool, true, false, List, [], ◌∷◌, ◌++◌, length, flat_map, Option, Some, None, if◌then◌else◌, refl, sym, ap, ◌∙◌, arith, append-nil}
use Rattle.soc_bus.specs.Memory.{IsSize}
use Rattle.flash_seen.specs.Seen.{Seen}
use Rattle.flash_seen.specs.World.{Control, Datum, Elsewhere, Openness, Place, Selection, World, effect, place_at}
use Rattle.spi_flash.specs.declared.transfer.Transfer.TheVariants.{Idle}
use Rattle.boot_monitor.specs.Actions.{Action, Await, Ask, Mind, after_replies, asks, next, uart_ctrl}
use Rattle.boot_monitor.specs.declared.exchange.MonitorOut.{MonitorOut}
use Rattle.boot_monitor.specs.declared.exchange.MonitorOut.TheVariants.{Bus, HandOver}
use Rattle.boot_gate.specs.Gate.{Shown}
use Rattle.boot_gate.specs.Items.{Item, Single, AreItems, IsSplit, bytes_in, letter_e, letter_u}
use Rattle.boot_gate.specs.Laws.{IsGated, IsGoing}
use Rattle.boot_gate.specs.Replies.{AreGiven, AreTold, base_of, flash_used, sends_at, sends_entry, taken, world_after, world_by}
use Rattle.boot_gate.proofs.Ends.{Awaiting, Ends, Leaving, results}
use Rattle.boot_gate.proofs.Follows.{all_around, follows}
use Rattle.boot_gate.proofs.Goes.{is_going, tracks}
use Rattle.boot_gate.proofs.Passing.{Around, Ending, Asked, Gone, Passes, answers, asks_allowed, asks_mine, awaits, enables, fetches, gets, gives, heads, keeps, leaves, opens, readies, reports, selects, sends, sets, stops, tails, waits, writes}
use Rattle.boot_gate.proofs.Unique.{bytes-more, items-more}

never : false ≡ true → ⊥
never e = let bad : ⊥ = cc in bad

abbrev is_over : MonitorOut → Bool
is_over HandOver = true
is_over (Bus request) = false

-- what kind the first action has
abbrev asks_byte : List Action → Bool
asks_byte (Ask ∷ rest) = true
asks_byte todo = false

abbrev rest_of : List Action → List Action
rest_of [] = []
rest_of (a ∷ rest) = rest

abbrev waits_at_uart : List Action → Bool
waits_at_uart (Await address mask bits ∷ rest) = address == uart_ctrl
waits_at_uart todo = false

module _ (room ctrl : ℕ) (shown : Shown) (Told : Type 0) (Q : Ending → Mind → World → Around → Type 0) where
  leaves_at : {todo : List Action} {i : Mind} {w : World} {m : Around} → Passes room ctrl shown Told Q todo i w m → is_over (asks todo i.bytes) ≡ true → Q Gone i w m
  leaves_at (stops h) e = elim (never e) [ ]
  leaves_at (leaves h) e = h
  leaves_at (gets q h) e = elim (never e) [ ]
  leaves_at (awaits h) e = elim (never e) [ ]
  leaves_at (opens f h) e = elim (never e) [ ]
  leaves_at (sets h) e = elim (never e) [ ]
  leaves_at (sends h) e = elim (never e) [ ]
  leaves_at (reports a h) e = elim (never e) [ ]
  leaves_at (keeps a b h) e = elim (never e) [ ]
  leaves_at (enables h) e = elim (never e) [ ]
  leaves_at (gives a h) e = elim (never e) [ ]
  leaves_at (selects a h) e = elim (never e) [ ]
  leaves_at (readies r h) e = elim (never e) [ ]
  leaves_at (answers r h) e = elim (never e) [ ]
  leaves_at (fetches a b h) e = elim (never e) [ ]
  leaves_at (waits s t k n h) e = elim (never e) [ ]
  leaves_at (writes h) e = elim (never e) [ ]
  leaves_at (heads h) e = elim (never e) [ ]
  leaves_at (tails h) e = elim (never e) [ ]

  asks_at : {todo : List Action} {i : Mind} {w : World} {m : Around} → Passes room ctrl shown Told Q todo i w m → asks_byte todo ≡ true → Q Asked i w m
  asks_at (stops h) e = h
  asks_at (leaves h) e = elim (never e) [ ]
  asks_at (gets q h) e = elim (never e) [ ]
  asks_at (awaits h) e = elim (never e) [ ]
  asks_at (opens f h) e = elim (never e) [ ]
  asks_at (sets h) e = elim (never e) [ ]
  asks_at (sends h) e = elim (never e) [ ]
  asks_at (reports a h) e = elim (never e) [ ]
  asks_at (keeps a b h) e = elim (never e) [ ]
  asks_at (enables h) e = elim (never e) [ ]
  asks_at (gives a h) e = elim (never e) [ ]
  asks_at (selects a h) e = elim (never e) [ ]
  asks_at (readies r h) e = elim (never e) [ ]
  asks_at (answers r h) e = elim (never e) [ ]
  asks_at (fetches a b h) e = elim (never e) [ ]
  asks_at (waits s t k n h) e = elim (never e) [ ]
  asks_at (writes h) e = elim (never e) [ ]
  asks_at (heads h) e = elim (never e) [ ]
  asks_at (tails h) e = elim (never e) [ ]

  asking_at : {todo : List Action} {i : Mind} {w : World} {m : Around} → Passes room ctrl shown Told Q todo i w m → waits_at_uart todo ≡ true → asks_byte (rest_of todo) ≡ true → Q Asked i w m
  asking_at (stops h) e f = elim (never e) [ ]
  asking_at (leaves h) e f = elim (never e) [ ]
  asking_at (gets q h) e f = elim (never e) [ ]
  asking_at (awaits h) e f = asks_at h f
  asking_at (opens g h) e f = elim (never e) [ ]
  asking_at (sets h) e f = elim (never e) [ ]
  asking_at (sends h) e f = elim (never e) [ ]
  asking_at (reports a h) e f = elim (never e) [ ]
  asking_at (keeps a b h) e f = elim (never e) [ ]
  asking_at (enables h) e f = elim (never e) [ ]
  asking_at (gives a h) e f = elim (never e) [ ]
  asking_at (selects a h) e f = elim (never e) [ ]
  asking_at (readies r h) e f = elim (never e) [ ]
  asking_at (answers r h) e f = elim (never e) [ ]
  asking_at (fetches a b h) e f = elim (never e) [ ]
  asking_at (waits s t k n h) e f = elim (never e) [ ]
  asking_at (writes h) e f = elim (never e) [ ]
  asking_at (heads h) e f = elim (never e) [ ]
  asking_at (tails h) e f = elim (never e) [ ]

whole_items : (room : ℕ) (bytes : List ℕ) (items : List Item) → AreItems room items → bytes ≡ flat_map bytes_in items → IsSplit room bytes items []
whole_items room bytes items each e = record { whole = e ∙ sym (append-nil (flat_map bytes_in items)); each = each; partial = inl refl }

e_is_item : (room : ℕ) → letter_e ≢ letter_u
e_is_item room e = absurd (omega (arith, e))

-- the items before the last one
items_before : (room : ℕ) (items : List Item) (item : Item) → AreItems room (items ++ item ∷ []) → AreItems room items
items_before room [] item h = tt
items_before room (j ∷ items) item h = (h.0, items_before room items item h.1)

-- what is known of the flash tells whether it was sent an entry

used_at : (w : World) (place : Place) (store : Option ℕ) (reply : ℕ) → (effect w place store reply).used ≡ (if sends_at place store then true else w.used)
used_at w Datum (Some word) reply = refl
used_at w Datum None reply = refl
used_at w Selection (Some word) reply = refl
used_at w Selection None reply = refl
used_at w Control (Some word) reply = refl
used_at w Control None reply = refl
used_at w Openness (Some word) reply = refl
used_at w Openness None reply = refl
used_at w Elsewhere store reply = refl

used_by : (w : World) (request : MonitorOut) (reply : ℕ) → (world_by w request reply).used ≡ (if sends_entry request then true else w.used)
used_by w (Bus request) reply = used_at w (place_at request.addr) request.store reply
used_by w HandOver reply = refl

pub used_is : (room ctrl : ℕ) (first : Seen) (replies : List ℕ) → (world_after room ctrl first replies).used ≡ flash_used room ctrl replies
used_is room ctrl first [] = refl
used_is room ctrl first (reply ∷ replies) =
    used_by (world_after room ctrl first replies) (next room ctrl replies) reply
    ∙ ap (λ u. if sends_entry (next room ctrl replies) then true else u) (used_is room ctrl first replies)

-- the law, from the two lemmas on replies
pub gated : (room ctrl : ℕ) (shown : Shown) (first : Seen) (before replies : List ℕ) → IsSize room → length before ≡ room → first.transfer ≡ Idle → AreGiven room ctrl first before replies
    → IsGated room ctrl shown first before replies
gated room ctrl shown first before replies size long away given =
    let small : room ≤ 2 ^ 20 = omega (arith, size.to) in
    let Told : Type 0 = AreTold room ctrl shown replies in
    let base : Option (List ℕ) = base_of first in
    let ahead : Passes room ctrl shown Told (Ends room shown Told base) (after_replies room ctrl replies).todo (after_replies room ctrl replies).mind
    (world_after room ctrl first replies) (all_around room ctrl shown Told small first before long away replies) =
    follows room ctrl shown Told small first before long away replies (λ t. t) given in
    record {
      leaves = λ e.
          (let a : Leaving room shown Told base (world_after room ctrl first replies) (all_around room ctrl shown Told small first before long away replies) = leaves_at room ctrl shown Told (Ends room shown Told base) ahead (ap is_over e) in
          record {
            payload = a.payload;
            gate = record {
              before = a.items;
              split = whole_items room (taken room ctrl replies) (a.items ++ Single letter_e ∷ []) (items-more room a.items (Single letter_e) a.each (e_is_item room))
                  (a.whole ∙ sym (bytes-more a.items (Single letter_e)));
              holds = a.holds;
            };
            stored = a.stored;
            quiet = a.quiet;
          });
      goes = λ payload g. elim (tracks room ctrl shown Told small first before long away replies (λ t. t) given) as (λ _. IsGoing (after_replies room ctrl replies).todo) [
        | inl n ↦
            let none : (results room shown Told base g.before).held ≡ None = n g.before (items_before room g.before (Single letter_e) g.split.each)
            (g.split.whole ∙ append-nil (flat_map bytes_in (g.before ++ Single letter_e ∷ [])) ∙ bytes-more g.before (Single letter_e)) in
            let bad : None ≡ Some payload = sym none ∙ g.holds in
            let worse : ⊥ = cc in elim worse [ ]
        | inr go ↦ is_going go
      ];
      awaits = λ e.
          (let a : Awaiting room shown Told base (after_replies room ctrl replies).mind (world_after room ctrl first replies) (all_around room ctrl shown Told small first before long away replies) =
          asking_at room ctrl shown Told (Ends room shown Told base) ahead (ap waits_at_uart e) (ap (λ t. asks_byte (rest_of t)) e) in
          record {
            items = a.items;
            split = whole_items room (taken room ctrl replies) a.items a.each a.whole;
            kept = a.keeping.kept;
            flash = a.resting.has;
            quiet = a.resting.quiet;
            says = a.says;
          });
      asks = λ request e. asks_mine room ctrl shown Told (Ends room shown Told base) ahead request e;
      allowed = λ request e. asks_allowed room ctrl shown Told (Ends room shown Told base) small ahead request e;
    }
