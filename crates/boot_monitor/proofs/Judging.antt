-- What is decided on a good header.
use Rattle.std.proofs.Common.{◌≡◌, ℕ, suc, ◌+◌, ◌-◌, ◌<◌, ◌≤◌, true, false, ◌∷◌, refl, sym, ap, ap₂, ◌∙◌, arith, subst}
use Rattle.std.proofs.lemmas.Bool.Decides.{nat_tests}
use Rattle.std.specs.Prelude.{◌==◌, ◌%◌, ◌/◌, ◌*◌, ◌^◌, [], length, Some, None, codes, not}
use Rattle.image_tool.specs.Image.{check_of, is_allowed, signature, signature_of, size_of, sums_to_zero}
use Rattle.soc_bus.specs.Memory.{IsSize}
use Rattle.boot_monitor.specs.Actions.{Fetch, Flash, Mind, Source, answer, head, mind, payload_from, tail}
use Rattle.boot_monitor.specs.Errands.{IsPage, rest_of, transferring, word_address, words_left}
use Rattle.boot_monitor.specs.Gathers.{gathers, gathers_words, stores}
use Rattle.boot_monitor.specs.Phases.{Goes, IsAbout, IsCounted, IsHeaded, IsIn, IsSound, held_of, text_of, todo_of}
use Rattle.boot_monitor.specs.Tallies.{Counts}
use Rattle.boot_monitor.specs.declared.phases.Errand.{Errand}
use Rattle.boot_monitor.specs.declared.phases.Errand.TheVariants.{Program, ReadPayload}
use Rattle.boot_monitor.specs.declared.phases.Frame.TheVariants.{Act}
use Rattle.boot_monitor.specs.declared.phases.Held.{Held}
use Rattle.boot_monitor.specs.declared.phases.MonitorState.{MonitorState}
use Rattle.boot_monitor.specs.declared.phases.Page.{Page}
use Rattle.boot_monitor.specs.declared.phases.Phase.TheVariants.{AwaitingRoom}
use Rattle.boot_monitor.specs.declared.phases.Text.{Text}
use Rattle.boot_monitor.specs.declared.phases.Text.TheVariants.{BadChecksum, BadSignature, BadSize, Done}
use Rattle.boot_monitor.specs.declared.phases.Transfer.TheVariants.{PayloadByte}
use Rattle.boot_monitor.proofs.Blocks.{words-go-on}
use Rattle.boot_monitor.proofs.Rest.{if-false, if-true, zero-is, zero-not}
use Rattle.boot_monitor.proofs.Taking.{words-ahead}
use Rattle.boot_monitor.proofs.Tallies.{check-is, signature-is, size-is, sum-is}

-- what an allowed length is
allowed-is : (room n : ℕ) → is_allowed room n ≡ true → (0 < n) × (n % 4 ≡ 0) × (n ≤ room)
allowed-is room n h = (grind (arith, nat_tests), grind (arith, nat_tests), grind (arith, nat_tests))

same : (a b : ℕ) → a ≡ b → not (a == b) ≡ false
same a b h = grind (arith, nat_tests)

different : (a b : ℕ) → (a ≡ b → ⊥) → not (a == b) ≡ true
different a b h = grind (arith, nat_tests)

-- a payload of an allowed length is to come
pub headed : (room count size : ℕ) → count ≡ 12 → is_allowed room size ≡ true → IsHeaded room count size
headed room count size e h =
    let is : (0 < size) × (size % 4 ≡ 0) × (size ≤ room) = allowed-is room size h in
    record { whole = e; loading = record { from = omega (arith, e); below = omega (arith, e, is.0); whole = is.1; fits = is.2 } }

-- all words of a payload are to come
pub payload-ahead : (from : Source) (room count size : ℕ) → IsHeaded room count size
    → gathers from (suc (3 - count % 4)) (stores from (count + 4 - count % 4) size) ≡ gathers_words from 0 (size / 4)
payload-ahead from room count size h =
    let to : count - 12 ≡ 0 = omega (arith, h.whole) in
    let left : (12 + size - count) / 4 ≡ size / 4 = omega (arith, h.whole) in
    words-ahead from count size h.loading.from h.loading.below (omega (arith, h.whole)) h.loading.whole ∙ ap₂ (gathers_words from) to left

-- after a good header the payload is taken
pub good-header : (m : MonitorState) (room ctrl : ℕ) (i : Mind) (from : Source) → todo_of m ≡ payload_from from m.tally.size → i.held ≡ held_of m
    → i.status ≡ m.status → Counts m.tally i.bytes → m.tally.count ≡ 12 → m.tally.signature ≡ signature → is_allowed room m.tally.size ≡ true
    → IsIn m (head room ctrl from i)
good-header m room ctrl i from e held status counts hc h hs =
    let is : not (signature_of i.bytes == signature) ≡ false = same (signature_of i.bytes) signature (sym (signature-is m.tally i.bytes counts (omega (arith, hc))) ∙ h) in
    let size : m.tally.size ≡ size_of i.bytes = size-is m.tally i.bytes counts (omega (arith, hc)) in
    let allowed : not (is_allowed room (size_of i.bytes)) ≡ false = ap (λ n. not (is_allowed room n)) (sym size) ∙ ap not hs in
    subst (IsIn m) (sym (if-false _ _ _ is ∙ if-false _ _ _ allowed)) (record {
      todo = sym (e ∙ ap (payload_from from) size);
      held = held;
      status = status;
      counts = λ u. counts;
    })

-- an image is refused
abbrev refused_by : MonitorState → Text → MonitorState
refused_by m text = record m { phase = AwaitingRoom text 0; held = None; status = 0 }

module _ (m n : MonitorState) (room ctrl : ℕ) (i : Mind) where
  -- after a header without the signature it is told so
  pub bad-signature : (from : Source) → n ≡ refused_by m BadSignature → Counts m.tally i.bytes → m.tally.count ≡ 12 → (m.tally.signature ≡ signature → ⊥)
      → IsIn n (head room ctrl from i)
  bad-signature from e counts hc h =
      let is : not (signature_of i.bytes == signature) ≡ true = different (signature_of i.bytes) signature (λ s. h (signature-is m.tally i.bytes counts (omega (arith, hc)) ∙ s)) in
      subst (λ s. IsIn n s) (sym (if-true _ _ _ is)) (subst (λ n. IsIn n (record { todo = answer (codes "ERR signature"); mind = mind [] None })) (sym e)
      (record { todo = refl; held = refl; status = refl; counts = λ u. elim u [ ] }))

  -- after one whose length isn't allowed
  pub bad-size : (from : Source) → n ≡ refused_by m BadSize → Counts m.tally i.bytes → m.tally.count ≡ 12 → m.tally.signature ≡ signature
      → is_allowed room m.tally.size ≡ false → IsIn n (head room ctrl from i)
  bad-size from e counts hc h hs =
      let is : not (signature_of i.bytes == signature) ≡ false = same (signature_of i.bytes) signature (sym (signature-is m.tally i.bytes counts (omega (arith, hc))) ∙ h) in
      let size : m.tally.size ≡ size_of i.bytes = size-is m.tally i.bytes counts (omega (arith, hc)) in
      let refused : not (is_allowed room (size_of i.bytes)) ≡ true = ap (λ n. not (is_allowed room n)) (sym size) ∙ ap not hs in
      subst (IsIn n) (sym (if-false _ _ _ is ∙ if-true _ _ _ refused)) (subst (λ n. IsIn n (record { todo = answer (codes "ERR size"); mind = mind [] None })) (sym e)
      (record { todo = refl; held = refl; status = refl; counts = λ u. elim u [ ] }))

  -- after a payload whose sum isn't zero
  pub bad-sum : n ≡ refused_by m BadChecksum → Counts m.tally i.bytes → (m.tally.sum ≡ 0 → ⊥) → IsIn n (tail room ctrl i)
  bad-sum e counts h =
      let is : sums_to_zero i.bytes ≡ false = subst (λ s. (s == 0) ≡ false) (sum-is m.tally i.bytes counts) (zero-not m.tally.sum h) in
      subst (IsIn n) (sym (if-false _ _ _ is)) (subst (λ n. IsIn n (record { todo = answer (codes "ERR checksum"); mind = mind [] None })) (sym e)
      (record { todo = refl; held = refl; status = refl; counts = λ u. elim u [ ] }))

-- a good image is held
abbrev held_by : MonitorState → Held
held_by m = record { length = m.tally.size; check = m.tally.check }

pub good-sum : (m t : MonitorState) (room ctrl : ℕ) (i : Mind) → t ≡ record m { phase = AwaitingRoom Done 0; status = 0 } → Counts m.tally i.bytes → 12 ≤ m.tally.count
    → m.tally.sum ≡ 0 → IsIn (record t { held = Some (held_by m) }) (tail room ctrl i)
good-sum m t room ctrl i e counts hc h =
    let is : sums_to_zero i.bytes ≡ true = subst (λ s. (s == 0) ≡ true) (sum-is m.tally i.bytes counts) (zero-is m.tally.sum h) in
    let held : Some (size_of i.bytes, check_of i.bytes) ≡ Some (m.tally.size, m.tally.check)
    = sym (ap₂ (λ (a b : ℕ). Some (a, b)) (size-is m.tally i.bytes counts hc) (check-is m.tally i.bytes counts hc)) in
    subst (IsIn (record t { held = Some (held_by m) })) (sym (if-true _ _ _ is))
    (subst (λ t. IsIn (record t { held = Some (held_by m) }) (record { todo = answer (codes "OK"); mind = mind [] (Some (size_of i.bytes, check_of i.bytes)) })) (sym e)
    (record { todo = refl; held = held; status = refl; counts = λ u. elim u [ ] }))

pub good-goes : (m t : MonitorState) → t ≡ record m { phase = AwaitingRoom Done 0; status = 0 } → IsSound m → m.tally.size ≤ m.room
    → Goes m (record t { held = Some (held_by m) })
good-goes m t e sound fits =
    subst (λ t. Goes m (record t { held = Some (held_by m) })) (sym e)
    (record { room = refl; ctrl = refl; started = tt; sound = record { size = sound.size; ready = omega arith; counted = tt; part = sound.part; held_fits = fits } })

pub part-none : (part count : ℕ) → part ≡ 0 → count ≡ 12 → part < 2 ^ (8 * (count % 4))
part-none part count h hc = let e : 8 * (count % 4) ≡ 0 = omega (arith, hc) in subst (λ k. part < 2 ^ k) (sym e) (omega (arith, h))

-- what a refusal leaves is sound
pub refused-goes : (m n : MonitorState) (text : Text) → n ≡ refused_by m text → IsSize m.room → m.tally.part < 2 ^ (8 * (m.tally.count % 4))
    → 0 < length (text_of text) → IsCounted (AwaitingRoom text 0) m.room m.tally.count m.tally.size → Goes m n
refused-goes m n text e size part ready counted =
    subst (Goes m) (sym e) (record { room = refl; ctrl = refl; started = tt; sound = record { size = size; ready = ready; counted = counted; part = part; held_fits = tt } })

-- after a payload's address its first byte is read
pub payload-acted : (errand : Errand) (room count size : ℕ) → errand ≡ ReadPayload → IsAbout errand Act room count size
    → transferring PayloadByte count size ≡ rest_of errand size
payload-acted errand room count size e h = payload-ahead Flash room count size (subst (λ x. IsAbout x Act room count size) e h) ∙ ap (λ x. rest_of x size) (sym e)

-- after a page's address its first word is fetched
pub page-acted : (errand : Errand) (page : Page) (room count size : ℕ) → errand ≡ Program page → IsAbout errand Act room count size
    → Fetch (word_address page 0) ∷ words_left page 1 ≡ rest_of errand size
page-acted errand page room count size e h =
    let is : IsPage page room = subst (λ x. IsAbout x Act room count size) e h in words-go-on page 0 is.some ∙ ap (λ x. rest_of x size) (sym e)
