-- Where the boot monitor is answered as a flash and IMEM do: where it awaits a command, the bytes taken are whole items, and it holds, said and
-- stored what they say.
use Rattle.std.proofs.Common.{◌≡◌, ◌≢◌, inl, inr, ℕ, zero, suc, ◌/◌, ◌%◌, ◌^◌, ◌<◌, ◌≤◌, Bool, true, false, not, List, [], ◌∷◌, ◌++◌, length, take, get_or, flat_map, codes, Option, Some, None, if◌then◌else◌, refl, sym, ap, ap₂, ◌∙◌, arith, append_assoc, subst}
use Rattle.image_tool.specs.Image.{AreBytes, check_of, is_allowed, size_of, sums_to_zero}
use Rattle.soc_bus.specs.Memory.{with_bytes}
use Rattle.spi_flash.specs.declared.transfer.Transfer.TheVariants.{Idle as Unselected}
use Rattle.spi_flash.specs.Flash.{byte_of, cells_of}
use Rattle.flash_seen.specs.Seen.{Seen}
use Rattle.flash_seen.specs.World.{World, Stage, Shut, Idle, Sent, Ready}
use Rattle.boot_monitor.specs.Actions.{Action, Await, Ask, Leave, Head, Tail, Uart, Key, Help, Information, Restart, Upload, Store, Load, Execute, Unknown, Mind, ActionState, after_replies, answer, answered, asking, asks, command, digits, help, information, is_busy, key_of, line, loading as load_actions, mind, next, page_words, payload_from, print, prompting, storing, takes, uart_ctrl}
use Rattle.boot_gate.specs.Gate.{Outcome, Shown, after_item, command_text, commanded, image_text, information_text, load_text, outcome, said, text_of, with_image}
use Rattle.boot_gate.specs.Items.{IsItem, Item, Single, Unsigned, Unfit, Whole, AreItems, bytes_in, is_signed, letter_u}
use Rattle.boot_gate.specs.Laws.{BeginsWith, IsHeld}
use Rattle.boot_gate.specs.Replies.{AreGiven, AreTold, IsGiven, IsToldShown, base_of, memory_after, sent, taken, world_after, world_by}
use Rattle.boot_gate.proofs.Ends.{Awaiting, Ends, IsFew, IsGood, IsKeeping, IsResting, Midst, NotGate, few_fresh, heading, is_execute, is_upload, loading, midst-items, not_upload, one_more, results}
use Rattle.boot_gate.proofs.Images.{Judged, judged}
use Rattle.boot_gate.proofs.Loading.{Allowed, allowed, not_false, not_true, passes-loading, passes-loading_none}
use Rattle.boot_gate.proofs.Maps.{IsThere, all_programmed, all_programmed-image}
use Rattle.boot_gate.proofs.Passing.{Around, Ending, Asked, Passes, PassesFrom, answers, around, at_stage, awaits, clock, dmem, enables, fetches, fresh, gets, gives, heads, imem, keeps, leaves, opens, passed, readies, reports, seen_as, selects, sends, sets, stops, tails, turned, waits, with_status, world_as, writes}
use Rattle.boot_gate.proofs.Stores.{begins_with, stored_length}
use Rattle.boot_gate.proofs.Storing.{page_is, passes-storing, passes-storing_none}
use Rattle.boot_gate.proofs.Taking.{hearing, passes-answer, passes-print, passes-takes, passes-takes_words, saying}
use Rattle.boot_gate.proofs.Transfers.{at_rest, without}

-- a world as its parts
as_world : (R : World → Type 0) (w : World) (fitted : Bool) (cells : List ℕ) (k : ℕ) → w.flash.fitted ≡ fitted → w.flash.cells ≡ cells → w.flash.transfer ≡ Unselected → w.stage ≡ Idle k
    → R (world_as (seen_as fitted cells w.flash.writable Unselected) w.free (Idle k) w.used) → R w
as_world R w fitted cells k f c t s h =
    subst (λ stage. R (world_as w.flash w.free stage w.used)) (sym s) (
    subst (λ before. R (world_as (seen_as w.flash.fitted w.flash.cells w.flash.writable before) w.free (Idle k) w.used)) (sym t) (
    subst (λ cells. R (world_as (seen_as w.flash.fitted cells w.flash.writable Unselected) w.free (Idle k) w.used)) (sym c) (
    subst (λ fitted. R (world_as (seen_as fitted cells w.flash.writable Unselected) w.free (Idle k) w.used)) (sym f) h)))

few_stage : (stage : Stage) → IsFew stage → (k : ℕ) × (k < 2) × (stage ≡ Idle k)
few_stage (Idle k) h = (k, h, refl)
few_stage Shut h = elim h [ ]
few_stage (Sent before) h = elim h [ ]
few_stage (Ready before) h = elim h [ ]

-- a byte of memory, where it begins with some bytes
get_take : (n j : ℕ) (xs : List ℕ) → j < n → get_or (take n xs) j 0 ≡ get_or xs j 0
get_take zero j xs l = absurd (omega (arith, l))
get_take (suc n) j [] l = refl
get_take (suc n) zero (x ∷ xs) l = refl
get_take (suc n) (suc j) (x ∷ xs) l = get_take n j xs (omega (arith, l))

begins_there : (memory payload : List ℕ) → BeginsWith memory payload → IsThere memory payload
begins_there memory payload b j l = sym (get_take (length payload) j memory l) ∙ ap (λ bs. get_or bs j 0) b

module _ (room ctrl : ℕ) (shown : Shown) (Told : Type 0) (small : room ≤ 2 ^ 20) (first : Seen) where
  abbrev pub base : Option (List ℕ)
  base = base_of first

  abbrev Q : Ending → Mind → World → Around → Type 0
  Q = Ends room shown Told base

  abbrev P : List Action → Mind → World → Around → Type 0
  P = Passes room ctrl shown Told Q

  -- a command's byte was taken
  record Old (items : List Item) (m : Around) (b : ℕ) : Type 0 where
    each : AreItems room items
    whole : m.heard ≡ flat_map bytes_in items ++ b ∷ []
    says : Told → m.sent ≡ said room shown base items

  abbrev made : List Item → Outcome
  made items = results room shown Told base items

  -- a command that takes no image is done
  done : (items : List Item) (m : Around) (b : ℕ) (k : Key) (r : Outcome) (i : Mind) (w : World) (memory text : List ℕ) → Old items m b → key_of b ≡ k → k ≢ Upload
      → made items ≡ r → (Told → command_text room shown r k ≡ text) → IsResting (commanded room k r).flash w → IsKeeping room (commanded room k r).held i memory
      → Q Asked i w (around memory (m.sent ++ text) m.heard)
  done items m b k r i w memory text o e n eq same resting keeping =
      one_more room shown Told base items (Single b) i w memory m.sent m.heard text o.each (not_upload b k e n) o.whole o.says
      (λ t. ap₂ (λ (r : Outcome) (k : Key). command_text room shown r k) eq e ∙ same t)
      (subst (λ r. IsResting (commanded room (key_of b) r).flash w) (sym eq) (subst (λ k. IsResting (commanded room k r).flash w) (sym e) resting))
      (subst (λ r. IsKeeping room (commanded room (key_of b) r).held i memory) (sym eq) (subst (λ k. IsKeeping room (commanded room k r).held i memory) (sym e) keeping))

  -- i
  informed : (items : List Item) (m : Around) (b : ℕ) (r : Outcome) (i : Mind) (w : World) → Old items m b → key_of b ≡ Information
      → made items ≡ r → IsResting r.flash w → IsKeeping room r.held i m.memory → P information i w m
  informed items m b r i w o e eq resting keeping =
      passes-print room ctrl shown Told Q (codes "IMEM ") _ i w m (reports imem (λ x tx.
      passes-print room ctrl shown Told Q (digits 8 x) _ i w _ (
      passes-print room ctrl shown Told Q (codes " DMEM ") _ i w _ (reports dmem (λ y ty.
      passes-print room ctrl shown Told Q (digits 8 y) _ i w _ (
      passes-print room ctrl shown Told Q (codes " CLK ") _ i w _ (reports clock (λ z tz.
      passes-print room ctrl shown Told Q (digits 8 z) _ i w _ (
      passes-answer room ctrl shown Told Q [] i w _ (
      subst (λ sent. Q Asked i w (around m.memory sent m.heard)) (sym (apart m.sent (codes "IMEM ") (digits 8 x) (codes " DMEM ") (digits 8 y) (codes " CLK ") (digits 8 z) (prompting [])))
      (done items m b Information r i w m.memory (codes "IMEM " ++ (digits 8 x ++ (codes " DMEM " ++ (digits 8 y ++ (codes " CLK " ++ (digits 8 z ++ prompting []))))))
      o e (λ q. let bad : ⊥ = cc in bad) eq (λ t. shown_is x y z (tx t) (ty t) (tz t)) resting keeping)))))))))))
    where
      apart : (s a b c d e f g : List ℕ) → ((((((s ++ a) ++ b) ++ c) ++ d) ++ e) ++ f) ++ g ≡ s ++ (a ++ (b ++ (c ++ (d ++ (e ++ (f ++ g))))))
      apart s a b c d e f g = simp append_assoc refl

      shown_is : (x y z : ℕ) → x ≡ shown.imem → y ≡ shown.dmem → z ≡ shown.clock
          → information_text shown ≡ codes "IMEM " ++ (digits 8 x ++ (codes " DMEM " ++ (digits 8 y ++ (codes " CLK " ++ (digits 8 z ++ prompting [])))))
      shown_is x y z ex ey ez =
          ap₂ (λ (x y : ℕ). codes "IMEM " ++ (digits 8 x ++ (codes " DMEM " ++ (digits 8 y ++ (codes " CLK " ++ (digits 8 shown.clock ++ prompting [])))))) (sym ex) (sym ey)
          ∙ ap (λ z. codes "IMEM " ++ (digits 8 x ++ (codes " DMEM " ++ (digits 8 y ++ (codes " CLK " ++ (digits 8 z ++ prompting [])))))) (sym ez)

  -- in the midst of an upload
  mid : (items : List Item) (m : Around) (b : ℕ) (tail heard : List ℕ) → Old items m b → key_of b ≡ Upload → Midst room tail → heard ≡ m.heard ++ tail
      → NotGate room shown Told base heard
  mid items m b tail heard o e p is js each same =
      elim (midst-items room items js tail p o.each each
      (ap (λ b. flat_map bytes_in items ++ b ∷ tail) (sym (is_upload b e)) ∙ sym (append_assoc (flat_map bytes_in items) (b ∷ []) tail) ∙ ap (λ h. h ++ tail) (sym o.whole) ∙ sym is ∙ same)) [ ]

  -- the bytes of an item that begins with u
  item_heard : (items : List Item) (m : Around) (b : ℕ) (tail : List ℕ) → Old items m b → key_of b ≡ Upload → m.heard ++ tail ≡ flat_map bytes_in items ++ letter_u ∷ tail
  item_heard items m b tail o e =
      ap (λ h. h ++ tail) o.whole ∙ append_assoc (flat_map bytes_in items) (b ∷ []) tail ∙ ap (λ b. flat_map bytes_in items ++ b ∷ tail) (is_upload b e)

  -- an answer to an upload
  uploaded : (items : List Item) (item : Item) (m : Around) (b : ℕ) (tail memory : List ℕ) (i : Mind) (w : World) (text : List ℕ) → Old items m b → key_of b ≡ Upload
      → IsItem room item → bytes_in item ≡ letter_u ∷ tail → text_of room shown (made items) item ≡ line (codes "UP") ++ prompting text
      → IsResting (after_item room (made items) item).flash w → IsKeeping room (after_item room (made items) item).held i memory
      → P (answer text) i w (around memory (m.sent ++ line (codes "UP")) (m.heard ++ tail))
  uploaded items item m b tail memory i w text o e is bytes same resting keeping =
      passes-answer room ctrl shown Told Q text i w (around memory (m.sent ++ line (codes "UP")) (m.heard ++ tail))
      (subst (λ sent. Q Asked i w (around memory sent (m.heard ++ tail))) (sym (append_assoc m.sent (line (codes "UP")) (prompting text)))
      (one_more room shown Told base items item i w memory m.sent (m.heard ++ tail) (line (codes "UP") ++ prompting text) o.each is
      (item_heard items m b tail o e ∙ ap (λ t. flat_map bytes_in items ++ t) (sym bytes)) o.says (λ t. same) resting keeping))

  -- on a header and its payload
  tail_by : (zero_sum : Bool) (items : List Item) (m : Around) (b : ℕ) (header payload memory : List ℕ) (w : World) → Old items m b → key_of b ≡ Upload
      → IsItem room (Whole header payload) → AreBytes payload → Judged header payload zero_sum → BeginsWith memory payload → IsResting (made items).flash w
      → PassesFrom room ctrl shown Told Q (if◌then◌else◌ {A = ActionState} zero_sum
      (record { todo = answer (codes "OK"); mind = mind [] (Some (size_of (header ++ payload), check_of (header ++ payload))) })
      (record { todo = answer (codes "ERR checksum"); mind = mind [] None })) w (around memory (m.sent ++ line (codes "UP")) (m.heard ++ (header ++ payload)))
  tail_by true items m b header payload memory w o e is low j begins resting =
      let kept : Mind = mind [] (Some (size_of (header ++ payload), check_of (header ++ payload))) in
      uploaded items (Whole header payload) m b (header ++ payload) memory kept w (codes "OK") o e is refl
      (ap (λ p. line (codes "UP") ++ prompting (image_text p)) j.held) resting
      (subst (λ h. IsKeeping room h kept memory) (sym j.held)
      (record { bytes = refl; kept = (j.size ∙ sym is.3, j.check refl, begins); good = (ap (is_allowed room) is.3 ∙ is.2, low) }))
  tail_by false items m b header payload memory w o e is low j begins resting =
      uploaded items (Whole header payload) m b (header ++ payload) memory (mind [] None) w (codes "ERR checksum") o e is refl
      (ap (λ p. line (codes "UP") ++ prompting (image_text p)) j.held) resting
      (subst (λ h. IsKeeping room h (mind [] None) memory) (sym j.held) (record { bytes = refl; kept = tt; good = tt }))

  -- on a header
  head_by : (plain unfit : Bool) (items : List Item) (m : Around) (b : ℕ) (header : List ℕ) (w : World) → Old items m b → key_of b ≡ Upload
      → length header ≡ 12 → AreBytes header → not (is_signed header) ≡ plain → not (is_allowed room (size_of header)) ≡ unfit → length m.memory ≡ room → IsResting (made items).flash w
      → PassesFrom room ctrl shown Told Q (if◌then◌else◌ {A = ActionState} plain (record { todo = answer (codes "ERR signature"); mind = mind [] None })
      (if◌then◌else◌ {A = ActionState} unfit (record { todo = answer (codes "ERR size"); mind = mind [] None })
      (record { todo = payload_from Uart (size_of header); mind = mind header None }))) w (around m.memory (m.sent ++ line (codes "UP")) (m.heard ++ header))
  head_by true unfit items m b header w o e twelve bytes s a long resting =
      uploaded items (Unsigned header) m b header m.memory (mind [] None) w (codes "ERR signature") o e (twelve, not_true (is_signed header) s) refl refl resting (record { bytes = refl; kept = tt; good = tt })
  head_by false true items m b header w o e twelve bytes s a long resting =
      uploaded items (Unfit header) m b header m.memory (mind [] None) w (codes "ERR size") o e (twelve, not_false (is_signed header) s, not_true (is_allowed room (size_of header)) a) refl refl resting
      (record { bytes = refl; kept = tt; good = tt })
  head_by false false items m b header w o e twelve bytes s a long resting =
      let signed : is_signed header ≡ true = not_false (is_signed header) s in
      let may : is_allowed room (size_of header) ≡ true = not_false (is_allowed room (size_of header)) a in
      let size : Allowed room (size_of header) = allowed room (size_of header) may in
      let heard : List ℕ = m.heard ++ header in
      passes-takes_words room ctrl shown Told Q (size_of header / 4) 0 (Tail ∷ []) (mind header None) w (around m.memory (m.sent ++ line (codes "UP")) heard) refl (omega (arith, size.four, size.fits)) long
      (λ bytes memory few. mid items m b (header ++ bytes) (heard ++ bytes) o e (loading header bytes twelve signed may (omega (arith, few, size.four)) refl) (append_assoc m.heard header bytes))
      (λ payload words low.
      let same : length payload ≡ size_of header = omega (arith, words, size.four) in
      tails (subst (λ heard. PassesFrom room ctrl shown Told Q (if◌then◌else◌ {A = ActionState} (sums_to_zero (header ++ payload))
      (record { todo = answer (codes "OK"); mind = mind [] (Some (size_of (header ++ payload), check_of (header ++ payload))) })
      (record { todo = answer (codes "ERR checksum"); mind = mind [] None })) w (around (with_bytes m.memory 0 payload) (m.sent ++ line (codes "UP")) heard)) (sym (append_assoc m.heard header payload))
      (tail_by (sums_to_zero (header ++ payload)) items m b header payload (with_bytes m.memory 0 payload) w o e (twelve, signed, may, same) low
      (judged header payload twelve bytes signed same) (begins_with m.memory payload) resting)))

  -- u
  uploads : (items : List Item) (m : Around) (b : ℕ) (w : World) → Old items m b → key_of b ≡ Upload → length m.memory ≡ room → IsResting (made items).flash w
      → P (print (line (codes "UP")) (takes 12 (Head Uart ∷ []))) (mind [] None) w m
  uploads items m b w o e long resting =
      passes-print room ctrl shown Told Q (line (codes "UP")) (takes 12 (Head Uart ∷ [])) (mind [] None) w m (
      passes-takes room ctrl shown Told Q 12 (Head Uart ∷ []) (mind [] None) w (saying room ctrl shown Told Q m (line (codes "UP")))
      (λ bytes memory few. mid items m b bytes (m.heard ++ bytes) o e (heading few) refl)
      (λ header twelve bytes. heads (head_by (not (is_signed header)) (not (is_allowed room (size_of header))) items m b header w o e twelve bytes refl refl long resting)))

  -- s, with an image that is held
  stores_at : (flash : Option (List ℕ)) (image : ℕ × ℕ) (payload : List ℕ) (items : List Item) (m : Around) (b : ℕ) (w : World) → Old items m b → key_of b ≡ Store
      → made items ≡ outcome flash (Some payload) → IsHeld (Some image) (Some payload) m.memory → IsGood room (Some payload) → IsResting flash w
      → P (storing image.0 image.1) (mind [] (Some image)) w m
  stores_at (Some cells) image payload items m b w o e eq is good r =
      let few = few_stage w.stage r.few in
      let fine : Allowed room (length payload) = allowed room (length payload) good.0 in
      let written : List ℕ = cells_of (with_image payload (byte_of cells)) in
      let same : all_programmed m.memory page_words cells image.0 image.1 ≡ written =
      ap₂ (λ (a b : ℕ). all_programmed m.memory page_words cells a b) is.0 is.1
      ∙ all_programmed-image m.memory page_words cells payload page_is fine.four good.1 (begins_there m.memory payload is.2) in
      as_world (λ w. P (storing image.0 image.1) (mind [] (Some image)) w m) w true cells few.0 r.has.0 r.has.1 r.idle few.2 (
      passes-storing room ctrl shown Told Q image.0 image.1 (mind [] (Some image)) cells w.flash.writable w.free few.0 w.used m few.1 (omega (arith, is.0, fine.fits, small)) (omega (arith, is.0, fine.fits)) (omega (arith, is.0, fine.four)) (λ status.
      done items m b Store (outcome (Some cells) (Some payload)) (with_status (mind [] (Some image)) status)
      (at_rest room ctrl shown Told Q (all_programmed m.memory page_words cells image.0 image.1) false Unselected 1) m.memory (prompting (codes "OK")) o e (λ q. let bad : ⊥ = cc in bad) eq (λ t. refl)
      (record { idle = refl; has = (refl, same); bare = λ f. refl; quiet = inl refl; few = omega arith })
      (record { bytes = refl; kept = is; good = good })))
  stores_at None image payload items m b w o e eq is good r =
      let few = few_stage w.stage r.few in
      as_world (λ w. P (storing image.0 image.1) (mind [] (Some image)) w m) w false w.flash.cells few.0 r.has refl r.idle few.2 (
      subst (λ free. P (storing image.0 image.1) (mind [] (Some image)) (world_as (seen_as false w.flash.cells w.flash.writable Unselected) free (Idle few.0) w.used) m) (sym (r.bare r.has)) (
      passes-storing_none room ctrl shown Told Q image.0 image.1 (mind [] (Some image)) w.flash.cells w.flash.writable few.0 w.used m few.1 (λ status.
      done items m b Store (outcome None (Some payload)) (with_status (mind [] (Some image)) status) (without room ctrl shown Told Q w.flash.cells w.flash.writable 1) m.memory
      (prompting (codes "ERR flash")) o e (λ q. let bad : ⊥ = cc in bad) eq (λ t. refl)
      (record { idle = refl; has = refl; bare = λ f. refl; quiet = inl refl; few = omega arith })
      (record { bytes = refl; kept = is; good = good }))))

  -- l
  loads_at : (flash held : Option (List ℕ)) (items : List Item) (m : Around) (b : ℕ) (w : World) → Old items m b → key_of b ≡ Load → made items ≡ outcome flash held
      → length m.memory ≡ room → IsResting flash w → P load_actions (mind [] None) w m
  loads_at (Some cells) held items m b w o e eq long r =
      let few = few_stage w.stage r.few in
      as_world (λ w. P load_actions (mind [] None) w m) w true cells few.0 r.has.0 r.has.1 r.idle few.2 (
      passes-loading room ctrl shown Told Q cells w.flash.writable w.free few.0 w.used m few.1 small long (λ i memory keeping.
      done items m b Load (outcome (Some cells) held) i (at_rest room ctrl shown Told Q cells w.flash.writable Unselected 1) memory (prompting (load_text room (Some cells))) o e
      (λ q. let bad : ⊥ = cc in bad) eq (λ t. refl)
      (record { idle = refl; has = (refl, refl); bare = λ f. refl; quiet = inl refl; few = omega arith }) keeping))
  loads_at None held items m b w o e eq long r =
      let few = few_stage w.stage r.few in
      as_world (λ w. P load_actions (mind [] None) w m) w false w.flash.cells few.0 r.has refl r.idle few.2 (
      subst (λ free. P load_actions (mind [] None) (world_as (seen_as false w.flash.cells w.flash.writable Unselected) free (Idle few.0) w.used) m) (sym (r.bare r.has)) (
      passes-loading_none room ctrl shown Told Q w.flash.cells w.flash.writable few.0 w.used m few.1 (λ i memory keeping.
      done items m b Load (outcome None held) i (without room ctrl shown Told Q w.flash.cells w.flash.writable 1) memory (prompting (codes "ERR signature")) o e
      (λ q. let bad : ⊥ = cc in bad) eq (λ t. refl)
      (record { idle = refl; has = refl; bare = λ f. refl; quiet = inl refl; few = omega arith }) keeping)))

  fresh_resting : (flash : Option (List ℕ)) (w : World) → IsResting flash w → IsResting flash (at_stage w (fresh w.stage))
  fresh_resting flash w r = subst (λ stage. IsResting flash (at_stage w stage)) (sym (few_fresh w.stage r.few).1) r

  -- a command
  command_at : (k : Key) (kept : Option (ℕ × ℕ)) (flash image : Option (List ℕ)) (items : List Item) (m : Around) (b : ℕ) (w : World) → Old items m b → key_of b ≡ k
      → made items ≡ outcome flash image → IsHeld kept image m.memory → IsGood room image → length m.memory ≡ room → IsResting flash w
      → PassesFrom room ctrl shown Told Q (command room ctrl k kept) w m
  command_at Upload kept flash image items m b w o e eq is good long r = uploads items m b w o e long (subst (λ o. IsResting o.flash w) (sym eq) r)
  command_at Store None flash None items m b w o e eq is good long r =
      passes-answer room ctrl shown Told Q (codes "ERR none") (mind [] None) w m
      (done items m b Store (outcome flash None) (mind [] None) w m.memory (prompting (codes "ERR none")) o e (λ q. let bad : ⊥ = cc in bad) eq (λ t. refl) r (record { bytes = refl; kept = tt; good = tt }))
  command_at Store None flash (Some payload) items m b w o e eq is good long r = elim is [ ]
  command_at Store (Some kept) flash None items m b w o e eq is good long r = elim is [ ]
  command_at Store (Some kept) flash (Some payload) items m b w o e eq is good long r = stores_at flash kept payload items m b w o e eq is good r
  command_at Load kept flash image items m b w o e eq is good long r = loads_at flash image items m b w o e eq long r
  command_at Execute None flash None items m b w o e eq is good long r =
      passes-answer room ctrl shown Told Q (codes "ERR none") (mind [] None) w m
      (done items m b Execute (outcome flash None) (mind [] None) w m.memory (prompting (codes "ERR none")) o e (λ q. let bad : ⊥ = cc in bad) eq (λ t. refl) r (record { bytes = refl; kept = tt; good = tt }))
  command_at Execute None flash (Some payload) items m b w o e eq is good long r = elim is [ ]
  command_at Execute (Some kept) flash None items m b w o e eq is good long r = elim is [ ]
  command_at Execute (Some kept) flash (Some payload) items m b w o e eq is good long r =
      passes-print room ctrl shown Told Q (line (codes "GO")) (Await uart_ctrl is_busy 0 ∷ Leave ∷ []) (mind [] (Some kept)) w m (awaits (leaves (record {
        items = items;
        each = o.each;
        whole = o.whole ∙ ap (λ b. flat_map bytes_in items ++ b ∷ []) (is_execute b e);
        payload = payload;
        holds = ap (λ o. o.held) eq;
        stored = is.2;
        quiet = r.quiet;
      })))
  command_at Restart kept flash image items m b w o e eq is good long r =
      opens (few_fresh w.stage r.few).0 (sets (passes-answer room ctrl shown Told Q (codes "N1") (mind [] None) (at_stage w (fresh w.stage)) m
      (done items m b Restart (outcome flash image) (mind [] None) (at_stage w (fresh w.stage)) m.memory (prompting (codes "N1")) o e (λ q. let bad : ⊥ = cc in bad) eq (λ t. refl) (fresh_resting flash w r)
      (record { bytes = refl; kept = tt; good = tt }))))
  command_at Help kept flash image items m b w o e eq is good long r =
      passes-print room ctrl shown Told Q (help ++ codes "> ") asking (mind [] kept) w m (awaits (stops
      (done items m b Help (outcome flash image) (mind [] kept) w m.memory (help ++ codes "> ") o e (λ q. let bad : ⊥ = cc in bad) eq (λ t. refl) r (record { bytes = refl; kept = is; good = good }))))
  command_at Information kept flash image items m b w o e eq is good long r = informed items m b (outcome flash image) (mind [] kept) w o e eq r (record { bytes = refl; kept = is; good = good })
  command_at Unknown kept flash image items m b w o e eq is good long r =
      passes-answer room ctrl shown Told Q (codes "ERR command") (mind [] kept) w m
      (done items m b Unknown (outcome flash image) (mind [] kept) w m.memory (prompting (codes "ERR command")) o e (λ q. let bad : ⊥ = cc in bad) eq (λ t. refl) r (record { bytes = refl; kept = is; good = good }))

  command_done : (b : ℕ) (i : Mind) (w : World) (m : Around) → length m.memory ≡ room → Awaiting room shown Told base i w m
      → PassesFrom room ctrl shown Told Q (command room ctrl (key_of b) i.held) w (hearing room ctrl shown Told Q m (b ∷ []))
  command_done b i w m long a =
      command_at (key_of b) i.held (made a.items).flash (made a.items).held a.items (hearing room ctrl shown Told Q m (b ∷ [])) b w
      (record { each = a.each; whole = ap (λ h. h ++ b ∷ []) a.whole; says = a.says }) refl refl a.keeping.kept a.keeping.good long a.resting

  abbrev is_ask : List Action → Bool
  is_ask (Ask ∷ rest) = true
  is_ask todo = false

  not_asking : (todo : List Action) → is_ask todo ≡ false → todo ≢ Ask ∷ []
  not_asking todo h e = let t : true ≡ false = ap is_ask (sym e) ∙ h in let bad : ⊥ = cc in bad

  -- one reply more
  followed : {todo : List Action} {i : Mind} {w : World} {m : Around} (reply : ℕ) → length m.memory ≡ room → P todo i w m → (Told → IsToldShown shown (asks todo i.bytes) reply)
      → IsGiven w m.memory (asks todo i.bytes) reply
      → PassesFrom room ctrl shown Told Q (answered room ctrl todo i reply) (world_by w (asks todo i.bytes) reply) (turned m (asks todo i.bytes) reply)
  followed {i = i} {w = w} {m = m} reply long (stops h) told given = command_done (reply % 256) i w m long h
  followed {i = i} {w = w} {m = m} reply long (leaves h) told given = passed room ctrl shown Told Q {i = i} {w = w} {m = m} reply small long (leaves h) told given (not_asking _ refl)
  followed {i = i} {w = w} {m = m} reply long (gets q h) told given = passed room ctrl shown Told Q {i = i} {w = w} {m = m} reply small long (gets q h) told given (not_asking _ refl)
  followed {i = i} {w = w} {m = m} reply long (awaits h) told given = passed room ctrl shown Told Q {i = i} {w = w} {m = m} reply small long (awaits h) told given (not_asking _ refl)
  followed {i = i} {w = w} {m = m} reply long (opens e h) told given = passed room ctrl shown Told Q {i = i} {w = w} {m = m} reply small long (opens e h) told given (not_asking _ refl)
  followed {i = i} {w = w} {m = m} reply long (sets h) told given = passed room ctrl shown Told Q {i = i} {w = w} {m = m} reply small long (sets h) told given (not_asking _ refl)
  followed {i = i} {w = w} {m = m} reply long (sends h) told given = passed room ctrl shown Told Q {i = i} {w = w} {m = m} reply small long (sends h) told given (not_asking _ refl)
  followed {i = i} {w = w} {m = m} reply long (reports a h) told given = passed room ctrl shown Told Q {i = i} {w = w} {m = m} reply small long (reports a h) told given (not_asking _ refl)
  followed {i = i} {w = w} {m = m} reply long (keeps a b h) told given = passed room ctrl shown Told Q {i = i} {w = w} {m = m} reply small long (keeps a b h) told given (not_asking _ refl)
  followed {i = i} {w = w} {m = m} reply long (enables h) told given = passed room ctrl shown Told Q {i = i} {w = w} {m = m} reply small long (enables h) told given (not_asking _ refl)
  followed {i = i} {w = w} {m = m} reply long (gives a h) told given = passed room ctrl shown Told Q {i = i} {w = w} {m = m} reply small long (gives a h) told given (not_asking _ refl)
  followed {i = i} {w = w} {m = m} reply long (selects a h) told given = passed room ctrl shown Told Q {i = i} {w = w} {m = m} reply small long (selects a h) told given (not_asking _ refl)
  followed {i = i} {w = w} {m = m} reply long (readies e h) told given = passed room ctrl shown Told Q {i = i} {w = w} {m = m} reply small long (readies e h) told given (not_asking _ refl)
  followed {i = i} {w = w} {m = m} reply long (answers e h) told given = passed room ctrl shown Told Q {i = i} {w = w} {m = m} reply small long (answers e h) told given (not_asking _ refl)
  followed {i = i} {w = w} {m = m} reply long (fetches a b h) told given = passed room ctrl shown Told Q {i = i} {w = w} {m = m} reply small long (fetches a b h) told given (not_asking _ refl)
  followed {i = i} {w = w} {m = m} reply long (waits a b c d h) told given = passed room ctrl shown Told Q {i = i} {w = w} {m = m} reply small long (waits a b c d h) told given (not_asking _ refl)
  followed {i = i} {w = w} {m = m} reply long (writes h) told given = passed room ctrl shown Told Q {i = i} {w = w} {m = m} reply small long (writes h) told given (not_asking _ refl)
  followed {i = i} {w = w} {m = m} reply long (heads h) told given = passed room ctrl shown Told Q {i = i} {w = w} {m = m} reply small long (heads h) told given (not_asking _ refl)
  followed {i = i} {w = w} {m = m} reply long (tails h) told given = passed room ctrl shown Told Q {i = i} {w = w} {m = m} reply small long (tails h) told given (not_asking _ refl)

  start_resting : (fitted : Bool) → first.fitted ≡ fitted → first.transfer ≡ Unselected → IsResting (if fitted then Some first.cells else None) (world_as first (not first.fitted) (Idle 0) false)
  start_resting true f away = record { idle = away; has = (f, refl); bare = λ e. ap not e; quiet = inr (refl, refl); few = omega arith }
  start_resting false f away = record { idle = away; has = f; bare = λ e. ap not e; quiet = inr (refl, refl); few = omega arith }

  module _ (before : List ℕ) (whole : length before ≡ room) (away : first.transfer ≡ Unselected) where
    abbrev pub all_around : List ℕ → Around
    all_around replies = around (memory_after room ctrl before replies) (sent room ctrl replies) (taken room ctrl replies)

    -- no request changes memory's length
    pub memory_length : (replies : List ℕ) → length (memory_after room ctrl before replies) ≡ room
    memory_length [] = whole
    memory_length (reply ∷ replies) = stored_length (memory_after room ctrl before replies) (next room ctrl replies) ∙ memory_length replies

    -- after replies such as a flash and IMEM give, the actions ahead lead to the next command or to the hand-over
    pub follows : (replies : List ℕ) → (Told → AreTold room ctrl shown replies) → AreGiven room ctrl first before replies
        → P (after_replies room ctrl replies).todo (after_replies room ctrl replies).mind (world_after room ctrl first replies) (all_around replies)
    follows [] told given = opens tt (sets (passes-answer room ctrl shown Told Q (codes "N1") (mind [] None) (world_as first (not first.fitted) (Idle 0) false) (around before [] []) (record {
      items = [];
      each = tt;
      whole = refl;
      says = λ t. refl;
      resting = start_resting first.fitted refl away;
      keeping = record { bytes = refl; kept = tt; good = tt };
    })))
    follows (reply ∷ replies) told given = followed reply (memory_length replies) (follows replies (λ t. (told t).1) given.1) (λ t. (told t).0) given.0
