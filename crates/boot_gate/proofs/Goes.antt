-- Where the bytes taken are the gate, the boot monitor says GO and hands over.
use Rattle.std.proofs.lemmas.Bool.Decides.{nat_tests}
use Rattle.std.proofs.Common.{◌+◌, ◌≡◌, ◌≢◌, ◌⊎◌, inl, inr, ℕ, ◌^◌, ◌%◌, ◌≤◌, ◌<◌, Bool, true, false, List, [], ◌∷◌, ◌++◌, length, flat_map, codes, Option, Some, None, ◌==◌, bit_and, if◌then◌else◌, refl, sym, ap, ◌∙◌, arith, append_assoc, append-nil, length-append, subst}
use Rattle.flash_seen.specs.Seen.{Seen}
use Rattle.flash_seen.specs.World.{World}
use Rattle.spi_flash.specs.declared.transfer.Transfer.TheVariants.{Idle as Unselected}
use Rattle.boot_monitor.specs.Actions.{Action, Await, Save, Leave, Key, Help, Information, Restart, Upload, Store, Load, Execute, Unknown, Mind, ActionState, after_replies, answered, asks, command, is_busy, is_full, key_of, line, load, print, settled, uart_ctrl, uart_data}
use Rattle.boot_gate.specs.Gate.{Shown}
use Rattle.boot_gate.specs.Items.{Item, AreItems, bytes_in, letter_e}
use Rattle.boot_gate.specs.Laws.{IsGoing, IsHeld}
use Rattle.boot_gate.specs.Replies.{AreGiven, AreTold, base_of, taken, taken_by}
use Rattle.boot_gate.proofs.Ends.{Ends, NotGate, heading, is_upload, midst-items, not_execute, results}
use Rattle.boot_gate.proofs.Follows.{follows}
use Rattle.boot_gate.proofs.Passing.{Around, Passes, ShownAt, answers, awaits, enables, fetches, clock, dmem, gets, gives, heads, imem, keeps, leaves, opens, readies, reports, selects, sends, sets, stops, tails, waits, writes}
use Rattle.boot_gate.proofs.Unique.{last-same, one_split}

abbrev end : List Action
end = Await uart_ctrl is_busy 0 ∷ Leave ∷ []

-- some of the last actions are left
pub data IsGo : List Action → Type 0 where
  prints : (front text : List ℕ) → front ++ text ≡ line (codes "GO") → IsGo (print text (Await uart_ctrl is_busy 0 ∷ Leave ∷ []))
  puts : (front : List ℕ) (b : ℕ) (text : List ℕ) → front ++ b ∷ text ≡ line (codes "GO") → IsGo (Save uart_data b ∷ print text (Await uart_ctrl is_busy 0 ∷ Leave ∷ []))
  over : IsGo (Leave ∷ [])

print_apart : (front text : List ℕ) (rest : List Action) → print front [] ++ print text rest ≡ print (front ++ text) rest
print_apart [] text rest = refl
print_apart (b ∷ front) text rest = ap (λ t. Await uart_ctrl is_full 0 ∷ Save uart_data b ∷ t) (print_apart front text rest)

print_with : (front : List ℕ) (a : Action) (rest : List Action) → print front (a ∷ []) ++ rest ≡ print front [] ++ a ∷ rest
print_with [] a rest = refl
print_with (b ∷ front) a rest = ap (λ t. Await uart_ctrl is_full 0 ∷ Save uart_data b ∷ t) (print_with front a rest)

print_some : (text : List ℕ) → print text end ≢ []
print_some [] e = let bad : ⊥ = cc in bad
print_some (b ∷ text) e = let bad : ⊥ = cc in bad

cons_some : (a : Action) (rest : List Action) → a ∷ rest ≢ []
cons_some a rest e = cc

-- so they are the rest of the list
pub is_going : {todo : List Action} → IsGo todo → IsGoing todo
is_going (prints front text e) = record {
  done = print front [];
  whole = print_apart front text end ∙ ap (λ t. print t end) e;
  some = print_some text;
}
is_going (puts front b text e) = record {
  done = print front (Await uart_ctrl is_full 0 ∷ []);
  whole = print_with front (Await uart_ctrl is_full 0) (Save uart_data b ∷ print text end) ∙ print_apart front (b ∷ text) end ∙ ap (λ t. print t end) e;
  some = cons_some (Save uart_data b) (print text end);
}
is_going over = record { done = print (line (codes "GO")) (Await uart_ctrl is_busy 0 ∷ []); whole = refl; some = cons_some Leave [] }

go_by : (b : Bool) (x y : ActionState) → IsGo x.todo → IsGo y.todo → IsGo (if◌then◌else◌ {A = ActionState} b x y).todo
go_by true x y h k = h
go_by false x y h k = k

settled_print : (room ctrl : ℕ) (text : List ℕ) (i : Mind) → (settled room ctrl (print text end) i).todo ≡ print text end
settled_print room ctrl [] i = refl
settled_print room ctrl (b ∷ text) i = refl

-- a reply on the way out
go_step : (room ctrl : ℕ) {todo : List Action} (i : Mind) (reply : ℕ) → IsGo todo → IsGo (answered room ctrl todo i reply).todo
go_step room ctrl i reply (prints front [] e) =
    go_by (bit_and reply is_busy == 0) (record { todo = Leave ∷ []; mind = i }) (record { todo = end; mind = i }) over (prints front [] e)
go_step room ctrl i reply (prints front (b ∷ text) e) =
    go_by (bit_and reply is_full == 0) (record { todo = Save uart_data b ∷ print text end; mind = i })
    (record { todo = print (b ∷ text) end; mind = i }) (puts front b text e) (prints front (b ∷ text) e)
go_step room ctrl i reply (puts front b text e) =
    subst IsGo (sym (settled_print room ctrl text i)) (prints (front ++ b ∷ []) text (append_assoc front (b ∷ []) text ∙ e))
go_step room ctrl i reply over = over

module _ (room ctrl : ℕ) (shown : Shown) (Told : Type 0) (small : room ≤ 2 ^ 20) (first : Seen) where
  abbrev No : List ℕ → Type 0
  No = NotGate room shown Told (base_of first)

  other_byte : (items : List Item) (heard : List ℕ) (b : ℕ) → heard ≡ flat_map bytes_in items ++ b ∷ [] → b ≢ letter_e → No heard
  other_byte items heard b e n js each same = elim (n (last-same (flat_map bytes_in items) (flat_map bytes_in js) b letter_e (sym e ∙ same)).1) [ ]

  none_held : (items : List Item) (heard : List ℕ) (b : ℕ) → heard ≡ flat_map bytes_in items ++ b ∷ [] → AreItems room items → (results room shown Told (base_of first) items).held ≡ None → No heard
  none_held items heard b e all none js each same =
      let bytes : flat_map bytes_in items ≡ flat_map bytes_in js = (last-same (flat_map bytes_in items) (flat_map bytes_in js) b letter_e (sym e ∙ same)).0 in
      let one : (items ≡ js) × ([] ≡ []) = one_split room (flat_map bytes_in items) items js [] []
      (record { whole = sym (append-nil (flat_map bytes_in items)); each = all; partial = inl refl })
      (record { whole = bytes ∙ sym (append-nil (flat_map bytes_in js)); each = each; partial = inl refl }) in
      ap (λ items. (results room shown Told (base_of first) items).held) (sym one.0) ∙ none

  -- after a command
  after_command : (k : Key) (kept : Option (ℕ × ℕ)) (image : Option (List ℕ)) (items : List Item) (heard memory : List ℕ) (b : ℕ)
      → key_of b ≡ k → heard ≡ flat_map bytes_in items ++ b ∷ [] → AreItems room items → (results room shown Told (base_of first) items).held ≡ image → IsHeld kept image memory
      → No heard ⊎ IsGo (command room ctrl k kept).todo
  after_command Upload kept image items heard memory b e w all eq is =
      inl (λ js each same. elim (midst-items room items js [] (heading (omega arith)) all each (ap (λ b. flat_map bytes_in items ++ b ∷ []) (sym (is_upload b e)) ∙ sym w ∙ same)) [ ])
  after_command Execute None None items heard memory b e w all eq is = inl (none_held items heard b w all eq)
  after_command Execute None (Some payload) items heard memory b e w all eq is = elim is [ ]
  after_command Execute (Some kept) None items heard memory b e w all eq is = elim is [ ]
  after_command Execute (Some kept) (Some payload) items heard memory b e w all eq is = inr (prints [] (line (codes "GO")) refl)
  after_command Store kept image items heard memory b e w all eq is = inl (other_byte items heard b w (not_execute b Store e (λ q. let bad : ⊥ = cc in bad)))
  after_command Load kept image items heard memory b e w all eq is = inl (other_byte items heard b w (not_execute b Load e (λ q. let bad : ⊥ = cc in bad)))
  after_command Restart kept image items heard memory b e w all eq is = inl (other_byte items heard b w (not_execute b Restart e (λ q. let bad : ⊥ = cc in bad)))
  after_command Help kept image items heard memory b e w all eq is = inl (other_byte items heard b w (not_execute b Help e (λ q. let bad : ⊥ = cc in bad)))
  after_command Information kept image items heard memory b e w all eq is = inl (other_byte items heard b w (not_execute b Information e (λ q. let bad : ⊥ = cc in bad)))
  after_command Unknown kept image items heard memory b e w all eq is = inl (other_byte items heard b w (not_execute b Unknown e (λ q. let bad : ⊥ = cc in bad)))

  same_heard : (t : Bool) (heard more : List ℕ) → t ≡ false → No heard → No (if t then more else heard)
  same_heard true heard more e n = let bad : ⊥ = cc in elim bad [ ]
  same_heard false heard more e n = n

  shown_heard : (address word reply : ℕ) (heard : List ℕ) → ShownAt shown address word → No heard → No (taken_by heard (load address) reply)
  shown_heard address word reply heard imem n = n
  shown_heard address word reply heard dmem n = n
  shown_heard address word reply heard clock n = n

  small_byte : (reply : ℕ) → reply % 256 < 256
  small_byte reply = omega arith

  memory_heard : (address reply : ℕ) (heard : List ℕ) → address + 4 ≤ room → No heard → No (taken_by heard (load address) reply)
  memory_heard address reply heard l n = same_heard (address == uart_data) heard (heard ++ reply % 256 ∷ []) (other address l) n
    where
      other : (address : ℕ) → address + 4 ≤ room → (address == uart_data) ≡ false
      other address l = let below : address < 2 ^ 20 = omega (arith, l, small) in grind (arith, nat_tests)

  -- one reply more
  tracked : {todo : List Action} {i : Mind} {w : World} {m : Around} (reply : ℕ) → Passes room ctrl shown Told (Ends room shown Told (base_of first)) todo i w m → No m.heard
      → No (taken_by m.heard (asks todo i.bytes) reply) ⊎ IsGo (answered room ctrl todo i reply).todo
  tracked {i = i} {m = m} reply (stops h) n =
      after_command (key_of (reply % 256)) i.held (results room shown Told (base_of first) h.items).held h.items (m.heard ++ reply % 256 ∷ []) m.memory (reply % 256)
      refl (ap (λ x. x ++ reply % 256 ∷ []) h.whole) h.each refl h.keeping.kept
  tracked reply (leaves h) n = inl n
  tracked reply (gets q h) n = inl (q (reply % 256) (small_byte reply))
  tracked reply (awaits h) n = inl n
  tracked reply (opens e h) n = inl n
  tracked reply (sets h) n = inl n
  tracked reply (sends h) n = inl n
  tracked {m = m} reply (reports {address = address} {word = word} a h) n = inl (shown_heard address word reply m.heard a n)
  tracked reply (keeps a b h) n = inl n
  tracked reply (enables h) n = inl n
  tracked reply (gives a h) n = inl n
  tracked reply (selects a h) n = inl n
  tracked reply (readies e h) n = inl n
  tracked reply (answers e h) n = inl n
  tracked {m = m} reply (fetches {address = address} a b h) n = inl (memory_heard address reply m.heard b n)
  tracked reply (waits s t f e h) n = inl n
  tracked reply (writes h) n = inl n
  tracked {m = m} reply (heads h) n = inl n
  tracked {m = m} reply (tails h) n = inl n

  no_end : (xs : List ℕ) (b : ℕ) → [] ≡ xs ++ b ∷ [] → ⊥
  no_end xs b e = omega (arith, ap length e, length-append xs (b ∷ []))

  -- after replies such as a flash and IMEM give: the bytes taken are no gate, or the last actions are left
  pub tracks : (before : List ℕ) → length before ≡ room → first.transfer ≡ Unselected → (replies : List ℕ) → (Told → AreTold room ctrl shown replies) → AreGiven room ctrl first before replies
      → No (taken room ctrl replies) ⊎ IsGo (after_replies room ctrl replies).todo
  tracks before long away [] told given = inl (λ js each e. elim (no_end (flat_map bytes_in js) letter_e e) [ ])
  tracks before long away (reply ∷ replies) told given = elim (tracks before long away replies (λ t. (told t).1) given.1)
      as (λ _. No (taken room ctrl (reply ∷ replies)) ⊎ IsGo (after_replies room ctrl (reply ∷ replies)).todo) [
        | inl n ↦ tracked reply (follows room ctrl shown Told small first before long away replies (λ t. (told t).1) given.1) n
        | inr go ↦ inr (go_step room ctrl (after_replies room ctrl replies).mind reply go)
      ]
