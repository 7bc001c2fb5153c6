-- What comes of the actions that print, and of those that take bytes.
use Rattle.std.proofs.Common.{◌≡◌, ℕ, zero, suc, ◌+◌, ◌*◌, ◌%◌, ◌≤◌, List, [], ◌∷◌, ◌++◌, length, refl, sym, ap, ◌∙◌, arith, append_assoc, append-nil, length-append, subst}
use Rattle.image_tool.specs.Image.{AreBytes}
use Rattle.soc_bus.specs.Memory.{with_bytes}
use Rattle.soc_bus.proofs.Bytes.{length_with_bytes}
use Rattle.flash_seen.specs.World.{World}
use Rattle.boot_monitor.specs.Actions.{Action, Keep, Mind, answer, asking, longer, print, prompting, takes, takes_words}
use Rattle.boot_gate.specs.Gate.{Shown}
use Rattle.boot_gate.proofs.Passing.{Around, Ending, Asked, Took, Passes, around, awaits, gets, keeps, sends, stops}
use Rattle.boot_gate.proofs.Stores.{low_last, with_more, with_none}

-- for words one behind another
pub bytes-append : (xs ys : List ℕ) → AreBytes xs → AreBytes ys → AreBytes (xs ++ ys)
bytes-append [] ys a b = b
bytes-append (x ∷ xs) ys a b = (a.0, bytes-append xs ys a.1 b)

module _ (room ctrl : ℕ) (shown : Shown) (Told : Type 0) (Q : Ending → Mind → World → Around → Type 0) where
  abbrev P : List Action → Mind → World → Around → Type 0
  P = Passes room ctrl shown Told Q

  abbrev pub saying : Around → List ℕ → Around
  saying m text = around m.memory (m.sent ++ text) m.heard

  abbrev pub hearing : Around → List ℕ → Around
  hearing m bytes = around m.memory m.sent (m.heard ++ bytes)

  -- a text: its bytes are sent
  pub passes-print : (text : List ℕ) (rest : List Action) (i : Mind) (w : World) (m : Around) → P rest i w (saying m text) → P (print text rest) i w m
  passes-print [] rest i w m h = subst (λ sent. P rest i w (around m.memory sent m.heard)) (append-nil m.sent) h
  passes-print (b ∷ bs) rest i w m h = awaits (sends (passes-print bs rest i w (saying m (b ∷ []))
      (subst (λ sent. P rest i w (around m.memory sent m.heard)) (sym (append_assoc m.sent (b ∷ []) bs)) h)))

  -- an answer with the prompt: a command is awaited
  pub passes-answer : (text : List ℕ) (i : Mind) (w : World) (m : Around) → Q Asked i w (saying m (prompting text)) → P (answer text) i w m
  passes-answer text i w m h = passes-print (prompting text) asking i w m (awaits (stops h))

  -- each byte on the way
  abbrev pub Tooks : ℕ → Mind → World → Around → Type 0
  Tooks n i w m = (bytes memory : List ℕ) → length bytes ≤ n → Q Took (longer i bytes) w (around memory m.sent (m.heard ++ bytes))

  -- from a byte, or from some, to those behind it
  behind : (R : Mind → World → Around → Type 0) (i : Mind) (w : World) (memory sent heard front bytes : List ℕ)
      → R (longer i (front ++ bytes)) w (around memory sent (heard ++ (front ++ bytes)))
      → R (longer (longer i front) bytes) w (around memory sent ((heard ++ front) ++ bytes))
  behind R i w memory sent heard front bytes h =
      subst (λ bs. R (record i { bytes = bs }) w (around memory sent ((heard ++ front) ++ bytes))) (sym (append_assoc i.bytes front bytes))
      (subst (λ bs. R (longer i (front ++ bytes)) w (around memory sent bs)) (sym (append_assoc heard front bytes)) h)

  at_none : (R : Mind → World → Around → Type 0) (i : Mind) (w : World) (memory sent heard : List ℕ)
      → R (longer i []) w (around memory sent (heard ++ [])) → R i w (around memory sent heard)
  at_none R i w memory sent heard h =
      subst (λ bs. R (record i { bytes = bs }) w (around memory sent heard)) (append-nil i.bytes)
      (subst (λ bs. R (longer i []) w (around memory sent bs)) (append-nil heard) h)

  -- so many bytes of a header
  pub passes-takes : (n : ℕ) (rest : List Action) (i : Mind) (w : World) (m : Around) → Tooks n i w m
      → ((bytes : List ℕ) → length bytes ≡ n → AreBytes bytes → P rest (longer i bytes) w (hearing m bytes)) → P (takes n rest) i w m
  passes-takes zero rest i w m q h = at_none (P rest) i w m.memory m.sent m.heard (h [] refl tt)
  passes-takes (suc n) rest i w m q h = awaits (gets (λ b l. q (b ∷ []) m.memory (omega arith)) (λ b l.
      passes-takes n rest (longer i (b ∷ [])) w (hearing m (b ∷ []))
      (λ bytes memory e. behind (Q Took) i w memory m.sent m.heard (b ∷ []) bytes (q (b ∷ bytes) memory (omega (arith, e))))
      (λ bytes e small. behind (P rest) i w m.memory m.sent m.heard (b ∷ []) bytes (h (b ∷ bytes) (ap suc e) (l, small)))))

  -- so many words of a payload: they stand in memory, one behind another
  pub passes-takes_words : (n to : ℕ) (rest : List Action) (i : Mind) (w : World) (m : Around) → to % 4 ≡ 0 → to + 4 * n ≤ room → length m.memory ≡ room
      → Tooks (4 * n) i w m
      → ((payload : List ℕ) → length payload ≡ 4 * n → AreBytes payload → P rest (longer i payload) w (around (with_bytes m.memory to payload) m.sent (m.heard ++ payload)))
      → P (takes_words to n rest) i w m
  passes-takes_words zero to rest i w m four fits long q h =
      subst (λ memory. P rest i w (around memory m.sent m.heard)) (with_none m.memory to) (at_none (P rest) i w (with_bytes m.memory to []) m.sent m.heard (h [] refl tt))
  passes-takes_words (suc n) to rest i w m four fits long q h =
      passes-takes 4 (Keep to ∷ takes_words (to + 4) n rest) i w m (λ bytes memory e. q bytes memory (omega (arith, e))) (λ word e small.
      keeps four (omega (arith, fits)) (
      subst (λ bs. P (takes_words (to + 4) n rest) (longer i word) w (around (with_bytes m.memory to bs) m.sent (m.heard ++ word))) (sym (low_last i.bytes word e small)) (
      passes-takes_words n (to + 4) rest (longer i word) w (around (with_bytes m.memory to word) m.sent (m.heard ++ word)) (omega (arith, four)) (omega (arith, fits))
      (length_with_bytes m.memory to word (omega (arith, e, fits, long)) ∙ long)
      (λ bytes memory l. behind (Q Took) i w memory m.sent m.heard word bytes (q (word ++ bytes) memory (omega (arith, length-append word bytes, e, l))))
      (λ payload l low. behind (P rest) i w (with_bytes (with_bytes m.memory to word) (to + 4) payload) m.sent m.heard word payload (
      subst (λ memory. P rest (longer i (word ++ payload)) w (around memory m.sent (m.heard ++ (word ++ payload)))) (sym (with_more m.memory word payload to e (omega (arith, fits, long))))
      (h (word ++ payload) (omega (arith, length-append word payload, e, l)) (bytes-append word payload small low)))))))
