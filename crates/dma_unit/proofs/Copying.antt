-- A copy moves by one access at each grant.
use Rattle.std.proofs.Common.{◌≡◌, ◌<◌, ◌≤◌, ℕ, suc, ◌+◌, ◌-◌, ◌*◌, ◌%◌, ◌^◌, Bool, true, false, List, [], ◌∷◌, length, refl, sym, ap, ◌∙◌, arith, IsSome}
use Rattle.std.specs.Prelude.{◌==◌, Some, Result, Ok, Err}
use Rattle.std.proofs.lemmas.Bool.{true≢false}
use Rattle.std.proofs.lemmas.Bool.Decides.{nat_tests}
use Rattle.soc_bus.specs.declared.access.BusFault.{BusFault}
use Rattle.dma_unit.specs.declared.state.DmaState.{DmaState}
use Rattle.dma_unit.specs.declared.state.DmaState.TheVariants.{Idle, Reading, Writing, Done, Fault}
use Rattle.dma_unit.specs.DmaRegisters.{DmaRegisters, address_after, dma_granted, has_bit, is_busy, load_at, state_before, store_at, dma_stored, stored_at_rest, dma_wanted, dma_control_stored, word_read, word_written}
use Rattle.dma_unit.specs.Copying.{MovesByOne, Copies, CopiesNext, accesses_left, address_of, after_words}

state_of_some : (n : ℕ) → 0 < n → state_before n ≡ Reading
state_of_some n h = grind (arith, nat_tests)

-- one word less is two accesses less
left_by : (n : ℕ) (last : Bool) → (n - 1 == 0) ≡ last → 0 < n → accesses_left (state_before (n - 1)) (n - 1) + 1 ≡ 2 * n - 1
left_by n true p h = let z : n - 1 ≡ 0 = grind (arith, nat_tests) in rw p (omega arith)
left_by n false p h = let z : 0 < n - 1 = grind (arith, nat_tests) in rw p (omega arith)

moves_by : (c : DmaRegisters) (answer : Result ℕ BusFault) (s : DmaState) → c.state ≡ s → IsSome (dma_wanted c) → 0 < c.count
    → MovesByOne c answer (dma_granted c answer)
moves_by c (Ok word) Reading p some h = rw p record {
  access = λ w e. omega arith;
  refused = λ why e. grind arith;
  remembered = λ why r e. grind arith;
}
moves_by c (Ok word) Writing p some h = rw p record {
  access = λ w e. left_by c.count _ refl h;
  refused = λ why e. grind arith;
  remembered = λ why r e. grind arith;
}
moves_by c (Err why) Reading p some h = rw p record {
  access = λ w e. grind arith;
  refused = λ w e. refl;
  remembered = λ w r e q. grind arith;
}
moves_by c (Err why) Writing p some h = rw p record {
  access = λ w e. grind arith;
  refused = λ w e. refl;
  remembered = λ w r e q. grind arith;
}
moves_by c answer Idle p some h = grind arith
moves_by c answer Done p some h = grind arith
moves_by c answer Fault p some h = grind arith

busy_by : (c : DmaRegisters) (s : DmaState) → c.state ≡ s → IsSome (dma_wanted c) → is_busy c.state ≡ true
busy_by c Reading p some = rw p refl
busy_by c Writing p some = rw p refl
busy_by c Idle p some = grind arith
busy_by c Done p some = grind arith
busy_by c Fault p some = grind arith

-- a grant moves the copy by one access
pub moves : (c : DmaRegisters) (answer : Result ℕ BusFault) → IsSome (dma_wanted c) → (is_busy c.state ≡ true → 0 < c.count)
    → MovesByOne c answer (dma_granted c answer)
moves c answer some h = moves_by c answer c.state refl some (h (busy_by c c.state refl some))

address_step : (fixed : Bool) (a n : ℕ) → address_of fixed (address_after fixed a) n ≡ address_of fixed a (suc n)
address_step true a n = refl
address_step false a n = omega arith

address_first : (fixed : Bool) (a : ℕ) → a < 2 ^ 32 → address_of fixed a 0 ≡ a
address_first true a h = refl
address_first false a h = omega arith

address_bound : (fixed : Bool) (a : ℕ) → a < 2 ^ 32 → address_after fixed a < 2 ^ 32
address_bound true a h = h
address_bound false a h = omega arith

-- a word is copied by two grants
two_grants : (c : DmaRegisters) (w v : ℕ) → c.state ≡ Reading → dma_granted (dma_granted c (Ok w)) (Ok v) ≡ word_written (word_read c w)
two_grants c w v p = rw p refl

read_grant : (c : DmaRegisters) (w : ℕ) → c.state ≡ Reading → dma_wanted (dma_granted c (Ok w)) ≡ Some (store_at c.destination w)
read_grant c w p = rw p refl

load_wanted : (c : DmaRegisters) → c.state ≡ Reading → dma_wanted c ≡ Some (load_at c.source)
load_wanted c p = rw p refl

after_step : (c : DmaRegisters) (w : ℕ) (ws : List ℕ) → c.state ≡ Reading → after_words c (w ∷ ws) ≡ after_words (word_written (word_read c w)) ws
unfolding after_words
after_step c w ws p = let e = two_grants c w 0 p in ap (λ x. after_words x ws) e

-- what the rest of the words shows of all
joined : (c : DmaRegisters) (w : ℕ) (ws : List ℕ) → after_words c (w ∷ ws) ≡ after_words (word_written (word_read c w)) ws
    → CopiesNext (word_written (word_read c w)) ws → CopiesNext c (w ∷ ws)
joined c w ws e rest = record {
  loads = λ some. rw e (rest.loads (omega arith) ∙ rw (address_step c.source_fixed c.source (length ws)) refl);
  stores = λ some word. rw e (rest.stores (omega arith) word ∙ rw (address_step c.destination_fixed c.destination (length ws)) refl);
  count = rw e (rest.count ∙ omega arith);
  ends = rw e (rest.ends ∙ (let f : c.count - 1 - length ws ≡ c.count - length (w ∷ ws) = omega arith in rw f refl));
}

copies_from : (c : DmaRegisters) (words : List ℕ) → c.state ≡ state_before c.count → c.source < 2 ^ 32 → c.destination < 2 ^ 32
    → length words ≤ c.count → CopiesNext c words
unfolding after_words
copies_from c [] p s d h = record {
  loads = λ some. rw (address_first c.source_fixed c.source s) (load_wanted c (p ∙ state_of_some c.count some));
  stores = λ some word. rw (address_first c.destination_fixed c.destination d) (read_grant c word (p ∙ state_of_some c.count some));
  count = omega arith;
  ends = let e : c.count - 0 ≡ c.count = omega arith in rw e p;
}
copies_from c (w ∷ ws) p s d h =
    let reading : c.state ≡ Reading = p ∙ state_of_some c.count (omega arith) in
    joined c w ws (after_step c w ws reading)
    (copies_from (word_written (word_read c w)) ws refl (address_bound c.source_fixed c.source s)
    (address_bound c.destination_fixed c.destination d) (omega arith))

copies_some : (c : DmaRegisters) → 0 < c.count → c.source < 2 ^ 32 → c.destination < 2 ^ 32 → Copies c
copies_some c some s d reading words fits = copies_from c words (reading ∙ sym (state_of_some c.count some)) s d fits

-- what holds of every state
abbrev Sound : DmaRegisters → Type 0
Sound c = (is_busy c.state ≡ true → 0 < c.count) × (c.source < 2 ^ 32) × (c.destination < 2 ^ 32)

is_some : (n : ℕ) (none : Bool) → (n == 0) ≡ none → state_before n ≡ Reading → 0 < n
is_some n true p h = absurd (grind arith)
is_some n false p h = grind (arith, nat_tests)

copies_sound : (c : DmaRegisters) → Sound c → Copies c
copies_sound c (h, s, d) reading = copies_some c (h (rw reading refl)) s d reading

copies_idle : (c : DmaRegisters) → is_busy c.state ≡ false → Copies c
copies_idle c h reading = absurd (true≢false (sym (rw reading refl) ∙ h))

copies_control : (c : DmaRegisters) (word : ℕ) (start : Bool) → has_bit word 0 ≡ start → c.source < 2 ^ 32 → c.destination < 2 ^ 32
    → Copies (dma_control_stored c word)
copies_control c word true p s d = rw p (λ reading. copies_some (record (dma_control_stored c word) { state = state_before c.count }) (is_some c.count _ refl reading) s d reading)
copies_control c word false p s d = rw p (λ reading. grind arith)

copies_at_rest : (c : DmaRegisters) (reg word : ℕ) (b0 b4 b8 b12 : Bool) → (reg == 0) ≡ b0 → (reg == 4) ≡ b4 → (reg == 8) ≡ b8 → (reg == 12) ≡ b12
    → is_busy c.state ≡ false → c.source < 2 ^ 32 → c.destination < 2 ^ 32 → Copies (stored_at_rest c reg word)
copies_at_rest c reg word true b4 b8 b12 p q r t h s d = rw p (copies_control c word _ refl s d)
copies_at_rest c reg word false true b8 b12 p q r t h s d = rw (p, q) (copies_idle (record c { source = word }) h)
copies_at_rest c reg word false false true b12 p q r t h s d = rw (p, q, r) (copies_idle (record c { destination = word }) h)
copies_at_rest c reg word false false false true p q r t h s d = rw (p, q, r, t) (copies_idle (record c { count = word % 2 ^ 16 }) h)
copies_at_rest c reg word false false false false p q r t h s d = rw (p, q, r, t) (copies_idle c h)

copies_stored_by : (c : DmaRegisters) (reg word : ℕ) (busy : Bool) → is_busy c.state ≡ busy → Sound c → Copies (dma_stored c reg word)
copies_stored_by c reg word true p sound = rw p (copies_sound c sound)
copies_stored_by c reg word false p (h, s, d) = rw p (copies_at_rest c reg word _ _ _ _ refl refl refl refl p s d)

-- a copy that a store starts reads and writes each word at its own addresses
pub copies_stored : (c : DmaRegisters) (reg word : ℕ) → Sound c → Copies (dma_stored c reg word)
copies_stored c reg word sound = copies_stored_by c reg word _ refl sound

-- so does the copy that is left after the store of a word
pub copies_written : (c : DmaRegisters) → Sound c → Copies (word_written c)
copies_written c (h, s, d) reading =
    copies_some (word_written c) (is_some (c.count - 1) _ refl reading) (address_bound c.source_fixed c.source s)
    (address_bound c.destination_fixed c.destination d) reading
