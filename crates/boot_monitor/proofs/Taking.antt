-- A byte more of a header or a payload.
use Rattle.std.proofs.Common.{◌≡◌, ℕ, suc, ◌+◌, ◌-◌, ◌<◌, ◌≤◌, List, ◌∷◌, refl, sym, ap, ap₂, ◌∙◌, arith, subst}
use Rattle.std.specs.Prelude.{◌≢◌, ◌%◌, ◌/◌}
use Rattle.boot_monitor.specs.Actions.{Action, Keep, Mind, Source, Uart, Flash, settled}
use Rattle.boot_monitor.specs.Gathers.{after_header, after_payload, checking, gathers, gathers_words, judging, stores}
use Rattle.boot_monitor.specs.Phases.{IsIn, held_of, todo_of}
use Rattle.boot_monitor.specs.Tallies.{Counts}
use Rattle.boot_monitor.specs.declared.phases.MonitorState.{MonitorState}
use Rattle.boot_monitor.proofs.Rest.{IsOpen, settled-open}

-- no byte, some bytes, no word and some words, from either source
gathers-none : (from : Source) (rest : List Action) → gathers from 0 rest ≡ rest
gathers-none Uart rest = refl
gathers-none Flash rest = refl

open-gathers : (from : Source) (n : ℕ) (rest : List Action) → IsOpen (gathers from (suc n) rest)
open-gathers Uart n rest = tt
open-gathers Flash n rest = tt

words-none : (from : Source) (to : ℕ) → gathers_words from to 0 ≡ checking from
words-none Uart to = refl
words-none Flash to = refl

words-next : (from : Source) (to n : ℕ) → gathers_words from to (suc n) ≡ gathers from 4 (Keep to ∷ gathers_words from (to + 4) n)
words-next Uart to n = refl
words-next Flash to n = refl

-- the first byte of a word is awaited
pub words-ahead : (from : Source) (count size : ℕ) → 12 ≤ count → count < 12 + size → count % 4 ≡ 0 → size % 4 ≡ 0
    → gathers from (suc (3 - count % 4)) (stores from (count + 4 - count % 4) size) ≡ gathers_words from (count - 12) ((12 + size - count) / 4)
words-ahead from count size h12 hl hw hz =
    let n : ℕ = (8 + size - count) / 4 in
    let more : suc n ≡ (12 + size - count) / 4 = omega (arith, h12, hl, hw, hz) in
    let four : suc (3 - count % 4) ≡ 4 = omega (arith, hw) in
    let to : count + 4 - count % 4 - 16 ≡ count - 12 = omega (arith, hw, h12) in
    let next : count + 4 - count % 4 - 12 ≡ count - 12 + 4 = omega (arith, hw, h12) in
    let rest : (12 + size - (count + 4 - count % 4)) / 4 ≡ n = omega (arith, hw, h12, hl, hz) in
    ap (λ (k : ℕ). gathers from k (stores from (count + 4 - count % 4) size)) four
    ∙ ap₂ (λ (a b : ℕ). gathers from 4 (Keep a ∷ gathers_words from b ((12 + size - (count + 4 - count % 4)) / 4))) to next
    ∙ ap (λ (k : ℕ). gathers from 4 (Keep (count - 12) ∷ gathers_words from (count - 12 + 4) k)) rest
    ∙ sym (words-next from (count - 12) n)
    ∙ ap (gathers_words from (count - 12)) more

module _ (m : MonitorState) (room ctrl : ℕ) (i : Mind) (held : i.held ≡ held_of m) (status : i.status ≡ m.status) where
  -- these actions are ahead
  pub placed : (todo : List Action) → todo_of m ≡ todo → Counts m.tally i.bytes → IsOpen todo → IsIn m (settled room ctrl todo i)
  placed todo e counts open_list =
      subst (IsIn m) (sym (settled-open room ctrl todo i open_list)) (record { todo = sym e; held = held; status = status; counts = λ u. counts })

  -- an earlier byte of a header than the twelfth
  pub header-goes : (from : Source) (count : ℕ) → todo_of m ≡ gathers from (suc (11 - m.tally.count)) (judging from) → m.tally.count ≡ count + 1
      → count < 12 → count + 1 ≢ 12 → Counts m.tally i.bytes → IsIn m (settled room ctrl (after_header from count) i)
  header-goes from count e hc hl hn counts =
      let same : suc (11 - m.tally.count) ≡ 11 - count = omega (arith, hc, hl, hn) in
      placed (gathers from (11 - count) (judging from)) (e ∙ ap (λ n. gathers from n (judging from)) same) counts
      (subst (λ n. IsOpen (gathers from n (judging from))) same (open-gathers from (11 - m.tally.count) (judging from)))

  -- the last byte of a word of a payload
  pub word-ends : (from : Source) (count size : ℕ) → todo_of m ≡ stores from m.tally.count m.tally.size → m.tally.count ≡ count + 1 → m.tally.size ≡ size
      → (count + 1) % 4 ≡ 0 → Counts m.tally i.bytes → IsIn m (settled room ctrl (after_payload from count size) i)
  word-ends from count size e hc hs hw counts =
      let none : 0 ≡ 3 - count % 4 = omega (arith, hw) in
      let l : m.tally.count ≡ count + 4 - count % 4 = omega (arith, hc, hw) in
      subst (λ todo. IsIn m (settled room ctrl todo i))
      (sym (gathers-none from (stores from (count + 4 - count % 4) size)) ∙ ap (λ n. gathers from n (stores from (count + 4 - count % 4) size)) none)
      (placed (stores from (count + 4 - count % 4) size) (e ∙ ap₂ (stores from) l hs) counts tt)

  -- an earlier one
  pub word-goes : (from : Source) (count size : ℕ)
      → todo_of m ≡ gathers from (suc (3 - m.tally.count % 4)) (stores from (m.tally.count + 4 - m.tally.count % 4) m.tally.size)
      → m.tally.count ≡ count + 1 → m.tally.size ≡ size → (count + 1) % 4 ≢ 0 → Counts m.tally i.bytes
      → IsIn m (settled room ctrl (after_payload from count size) i)
  word-goes from count size e hc hs hw counts =
      let same : suc (3 - m.tally.count % 4) ≡ 3 - count % 4 = omega (arith, hc, hw) in
      let end : m.tally.count + 4 - m.tally.count % 4 ≡ count + 4 - count % 4 = omega (arith, hc, hw) in
      placed (after_payload from count size) (e ∙ ap₂ (λ (n l : ℕ). gathers from n (stores from l m.tally.size)) same end
      ∙ ap (λ s. gathers from (3 - count % 4) (stores from (count + 4 - count % 4) s)) hs) counts
      (subst (λ n. IsOpen (gathers from n (stores from (count + 4 - count % 4) size))) same
      (open-gathers from (3 - m.tally.count % 4) (stores from (count + 4 - count % 4) size)))

  -- the first byte of a word is awaited
  pub words-go : (from : Source) → todo_of m ≡ gathers from (suc (3 - m.tally.count % 4)) (stores from (m.tally.count + 4 - m.tally.count % 4) m.tally.size)
      → 12 ≤ m.tally.count → m.tally.count < 12 + m.tally.size → m.tally.count % 4 ≡ 0 → m.tally.size % 4 ≡ 0 → Counts m.tally i.bytes
      → IsIn m (settled room ctrl (gathers_words from (m.tally.count - 12) ((12 + m.tally.size - m.tally.count) / 4)) i)
  words-go from e h12 hl hw hz counts =
      let same = words-ahead from m.tally.count m.tally.size h12 hl hw hz in
      placed (gathers_words from (m.tally.count - 12) ((12 + m.tally.size - m.tally.count) / 4)) (e ∙ same) counts
      (subst IsOpen same (open-gathers from (3 - m.tally.count % 4) (stores from (m.tally.count + 4 - m.tally.count % 4) m.tally.size)))

module _ (m : MonitorState) (room ctrl : ℕ) (i : Mind) where
  -- the twelfth byte of a header
  pub header-ends : (from : Source) (count : ℕ) → count + 1 ≡ 12 → IsIn m (settled room ctrl (judging from) i) → IsIn m (settled room ctrl (after_header from count) i)
  header-ends from count e h =
      let none : 0 ≡ 11 - count = omega (arith, e) in
      subst (λ todo. IsIn m (settled room ctrl todo i)) (sym (gathers-none from (judging from)) ∙ ap (λ n. gathers from n (judging from)) none) h

  -- no word of a payload is left
  pub words-end : (from : Source) (count size : ℕ) → count ≡ size + 12 → IsIn m (settled room ctrl (checking from) i)
      → IsIn m (settled room ctrl (gathers_words from (count - 12) ((12 + size - count) / 4)) i)
  words-end from count size e h =
      let none : 0 ≡ (12 + size - count) / 4 = omega (arith, e) in
      subst (λ todo. IsIn m (settled room ctrl todo i)) (sym (words-none from (count - 12)) ∙ ap (gathers_words from (count - 12)) none) h
