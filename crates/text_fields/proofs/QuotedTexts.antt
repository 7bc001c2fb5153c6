-- A quoted text is read exactly where it is one.
use Rattle.std.proofs.Common.{◌≡◌, ◌⊎◌, ◌+◌, ◌*◌, ℕ, Bool, true, false, List, [], ◌∷◌, ◌++◌, Option, Some, None, refl, ap, sym, ◌∙◌, arith, append_assoc, append-nil, inl, inr, subst}
use Rattle.std.proofs.lemmas.Bool.{cases_Bool, eqb-true}
use Rattle.std.proofs.lemmas.Bool.Decides.{nat_tests}
use Rattle.std.specs.Prelude.{◌==◌, not}
use Rattle.hex.specs.Hex.{hex_digit_value}
use Rattle.text_fields.specs.Fields.{Text}
use Rattle.text_fields.specs.Quoted.{Mode, Turn, closes, escape_value, fails, gives, go_on, goes, high, is_printable, low, plain, quoted, quoted_text, slash, turn}
use Rattle.text_fields.specs.QuotedMeaning.{IsQuoted, IsWritten, stands_alone}
use Rattle.text_fields.proofs.FieldRound.{left, right}

not_true : (b : Bool) → not b ≡ true → b ≡ false
not_true true h = cc
not_true false h = refl

alone_step : (b : ℕ) (more : Text) (found : List ℕ) → stands_alone b ≡ true → quoted (b ∷ more) plain found ≡ quoted more plain (found ++ b ∷ [])
unfolding quoted turn
alone_step b more found alone =
    let others = right (is_printable b) _ alone in
    rw (not_true (b == 34) (left (not (b == 34)) _ others), not_true (b == 92) (right (not (b == 34)) _ others), left (is_printable b) _ alone) refl

-- `x` stands for no byte
no_x : (c b : ℕ) → escape_value c ≡ Some b → (c == 120) ≡ false
no_x c b h = grind (arith, nat_tests, h)

escape_step : (c b : ℕ) (more : Text) (found : List ℕ) → escape_value c ≡ Some b → quoted (92 ∷ c ∷ more) plain found ≡ quoted more plain (found ++ b ∷ [])
unfolding quoted turn
escape_step c b more found means = rw (no_x c b means, means) refl

hex_step : (c d h l b : ℕ) (more : Text) (found : List ℕ) → hex_digit_value c ≡ Some h → hex_digit_value d ≡ Some l → b ≡ h * 16 + l
    → quoted (92 ∷ 120 ∷ c ∷ d ∷ more) plain found ≡ quoted more plain (found ++ b ∷ [])
unfolding quoted turn
hex_step c d h l b more found first second value = rw (first, second, value) refl

written_step : (b : ℕ) (written more : Text) (found : List ℕ) → IsWritten b written → quoted (written ++ more) plain found ≡ quoted more plain (found ++ b ∷ [])
written_step b written more found way = elim way [
  | inl alone ↦ ap (λ w. quoted (w ++ more) plain found) alone.1 ∙ alone_step b more found alone.0
  | inr escape ↦ elim escape [
    | inl e ↦ ap (λ w. quoted (w ++ more) plain found) e.is ∙ escape_step e.letter b more found e.means
    | inr x ↦ ap (λ w. quoted (w ++ more) plain found) x.is ∙ hex_step x.high_digit x.low_digit x.high x.low b more found x.high_means x.low_means x.value
  ]
]

quote_step : (rest : Text) (found : List ℕ) → quoted (34 ∷ rest) plain found ≡ Some (found, rest)
unfolding quoted turn
quote_step rest found = refl

complete : (bytes : List ℕ) (text rest : Text) (found : List ℕ) → IsQuoted text bytes rest → quoted text plain found ≡ Some (found ++ bytes, rest)
complete [] text rest found h = ap (λ t. quoted t plain found) h ∙ quote_step rest found ∙ ap (λ f. Some (f, rest)) (sym (append-nil found))
complete (b ∷ bytes) text rest found h =
    let (written, more, way, is, then) = h in
    ap (λ t. quoted t plain found) is ∙ written_step b written more found way ∙ complete bytes more rest (found ++ b ∷ []) then
    ∙ ap (λ f. Some (f, rest)) (append_assoc found (b ∷ []) bytes)

-- each text in quotes is read
pub quoted_complete : (text : Text) (bytes : List ℕ) (rest : Text) → IsQuoted text bytes rest → quoted_text text ≡ Some (bytes, rest)
quoted_complete text bytes rest h = complete bytes text rest [] h

-- what was read in a mode since the last whole character
abbrev Pending : Mode → Text → Type 0
Pending plain before = before ≡ []
Pending slash before = before ≡ 92 ∷ []
Pending high before = before ≡ 92 ∷ 120 ∷ []
Pending (low h) before = (digit : ℕ) × (hex_digit_value digit ≡ Some h) × (before ≡ 92 ∷ 120 ∷ digit ∷ [])

-- bytes that were found after others, in a text
abbrev Found : Text → List ℕ → List ℕ → Text → Type 0
Found text found out rest = (bytes : List ℕ) × (out ≡ found ++ bytes) × IsQuoted text bytes rest

one_more : (b : ℕ) (written more : Text) (found out : List ℕ) (rest : Text) → IsWritten b written → Found more (found ++ b ∷ []) out rest → Found (written ++ more) found out rest
one_more b written more found out rest way next =
    let (bytes, is, then) = next in
    (b ∷ bytes, is ∙ append_assoc found (b ∷ []) bytes, (written, more, way, refl, then))

same_pair : (a b : List ℕ × Text) (o : Option (List ℕ × Text)) → o ≡ Some a → o ≡ Some b → a ≡ b
same_pair a b o here there = cc

closing : (found out : List ℕ) (more rest : Text) (o : Option (List ℕ × Text)) → o ≡ Some (found, more) → o ≡ Some (out, rest) → Found (34 ∷ more) found out rest
closing found out more rest o here there =
    let same = same_pair (found, more) (out, rest) o here there in
    ([], ap (λ p. p.0) (sym same) ∙ sym (append-nil found), ap (λ p. 34 ∷ p.1) same)

no_answer : (out : List ℕ) (rest : Text) (o : Option (List ℕ × Text)) → o ≡ None → o ≡ Some (out, rest) → ⊥
no_answer out rest o none some = cc

refused : {A : Type 0} (out : List ℕ) (rest : Text) (o : Option (List ℕ × Text)) → o ≡ None → o ≡ Some (out, rest) → A
refused out rest o none some = absurd (no_answer out rest o none some)

-- ---- what one byte comes to in each mode

data PlainCase (c : ℕ) : Type 0 where
  is_quote : c ≡ 34 → turn plain c ≡ closes → PlainCase c
  is_slash : c ≡ 92 → turn plain c ≡ goes slash → PlainCase c
  is_alone : stands_alone c ≡ true → turn plain c ≡ gives c → PlainCase c
  is_bad : turn plain c ≡ fails → PlainCase c

plain_case : (c : ℕ) → PlainCase c
unfolding turn
plain_case c = elim (cases_Bool (c == 34)) [
  | inl quote ↦ is_quote (eqb-true c 34 quote) (rw quote refl)
  | inr no_quote ↦ elim (cases_Bool (c == 92)) [
    | inl back ↦ is_slash (eqb-true c 92 back) (rw (no_quote, back) refl)
    | inr no_slash ↦ elim (cases_Bool (is_printable c)) [
      | inl shown ↦ is_alone (rw (shown, no_quote, no_slash) refl) (rw (no_quote, no_slash, shown) refl)
      | inr hidden ↦ is_bad (rw (no_quote, no_slash, hidden) refl)
    ]
  ]
]

data SlashCase (c : ℕ) : Type 0 where
  is_x : c ≡ 120 → turn slash c ≡ goes high → SlashCase c
  is_letter : (b : ℕ) → escape_value c ≡ Some b → turn slash c ≡ gives b → SlashCase c
  is_bad_letter : turn slash c ≡ fails → SlashCase c

some_or_none : (o : Option ℕ) → (o ≡ None) ⊎ ((n : ℕ) × (o ≡ Some n))
some_or_none None = inl refl
some_or_none (Some n) = inr (n, refl)

slash_case : (c : ℕ) → SlashCase c
unfolding turn
slash_case c = elim (cases_Bool (c == 120)) [
  | inl x ↦ is_x (eqb-true c 120 x) (rw x refl)
  | inr other ↦ elim (some_or_none (escape_value c)) [
    | inl none ↦ is_bad_letter (rw (other, none) refl)
    | inr some ↦ is_letter some.0 some.1 (rw (other, some.1) refl)
  ]
]

-- a digit, or a fault
data DigitCase (c : ℕ) (mode : Mode) (next : ℕ → Turn) : Type 0 where
  is_digit : (n : ℕ) → hex_digit_value c ≡ Some n → turn mode c ≡ next n → DigitCase c mode next
  is_no_digit : turn mode c ≡ fails → DigitCase c mode next

high_case : (c : ℕ) → DigitCase c high (λ n. goes (low n))
unfolding turn
high_case c = elim (some_or_none (hex_digit_value c)) [
  | inl none ↦ is_no_digit (rw none refl)
  | inr some ↦ is_digit some.0 some.1 (rw some.1 refl)
]

low_case : (h c : ℕ) → DigitCase c (low h) (λ n. gives (h * 16 + n))
unfolding turn
low_case h c = elim (some_or_none (hex_digit_value c)) [
  | inl none ↦ is_no_digit (rw none refl)
  | inr some ↦ is_digit some.0 some.1 (rw some.1 refl)
]

next : (c : ℕ) (more : Text) (mode : Mode) (found : List ℕ) (t : Turn) → turn mode c ≡ t → quoted (c ∷ more) mode found ≡ go_on (quoted more) found more t
unfolding quoted
next c more mode found t is = rw is refl

nothing : (mode : Mode) (found : List ℕ) → quoted [] mode found ≡ None
unfolding quoted
nothing mode found = refl

sound : (text : Text) (mode : Mode) (found out : List ℕ) (rest before : Text) → Pending mode before → quoted text mode found ≡ Some (out, rest) → Found (before ++ text) found out rest
sound [] mode found out rest before pending h = refused out rest (quoted [] mode found) (nothing mode found) h
sound (c ∷ more) plain found out rest before pending h = elim (plain_case c) [
  | is_quote is t ↦
      let here : 34 ∷ more ≡ before ++ c ∷ more = sym (ap (λ b. b ++ c ∷ more) pending ∙ ap (λ d. d ∷ more) is) in
      subst (λ x. Found x found out rest) here (closing found out more rest (quoted (c ∷ more) plain found) (next c more plain found closes t) h)
  | is_slash is t ↦
      let here : 92 ∷ more ≡ before ++ c ∷ more = sym (ap (λ b. b ++ c ∷ more) pending ∙ ap (λ d. d ∷ more) is) in
      subst (λ x. Found x found out rest) here (sound more slash found out rest (92 ∷ []) refl (sym (next c more plain found (goes slash) t) ∙ h))
  | is_alone alone t ↦
      let here : c ∷ more ≡ before ++ c ∷ more = sym (ap (λ b. b ++ c ∷ more) pending) in
      subst (λ x. Found x found out rest) here
      (one_more c (c ∷ []) more found out rest (inl (alone, refl)) (sound more plain (found ++ c ∷ []) out rest [] refl (sym (next c more plain found (gives c) t) ∙ h)))
  | is_bad t ↦ refused out rest (quoted (c ∷ more) plain found) (next c more plain found fails t) h
]
sound (c ∷ more) slash found out rest before pending h = elim (slash_case c) [
  | is_x is t ↦
      let here : 92 ∷ 120 ∷ more ≡ before ++ c ∷ more = sym (ap (λ b. b ++ c ∷ more) pending ∙ ap (λ d. 92 ∷ d ∷ more) is) in
      subst (λ x. Found x found out rest) here (sound more high found out rest (92 ∷ 120 ∷ []) refl (sym (next c more slash found (goes high) t) ∙ h))
  | is_letter b means t ↦
      let here : 92 ∷ c ∷ more ≡ before ++ c ∷ more = sym (ap (λ b. b ++ c ∷ more) pending) in
      subst (λ x. Found x found out rest) here
      (one_more b (92 ∷ c ∷ []) more found out rest (inr (inl (record { letter = c; means = means; is = refl })))
      (sound more plain (found ++ b ∷ []) out rest [] refl (sym (next c more slash found (gives b) t) ∙ h)))
  | is_bad_letter t ↦ refused out rest (quoted (c ∷ more) slash found) (next c more slash found fails t) h
]
sound (c ∷ more) high found out rest before pending h = elim (high_case c) [
  | is_digit n means t ↦
      let here : 92 ∷ 120 ∷ c ∷ more ≡ before ++ c ∷ more = sym (ap (λ b. b ++ c ∷ more) pending) in
      subst (λ x. Found x found out rest) here (sound more (low n) found out rest (92 ∷ 120 ∷ c ∷ []) (c, means, refl) (sym (next c more high found (goes (low n)) t) ∙ h))
  | is_no_digit t ↦ refused out rest (quoted (c ∷ more) high found) (next c more high found fails t) h
]
sound (c ∷ more) (low high_value) found out rest before pending h = elim (low_case high_value c) [
  | is_digit n means t ↦
      let here : 92 ∷ 120 ∷ pending.0 ∷ c ∷ more ≡ before ++ c ∷ more = sym (ap (λ b. b ++ c ∷ more) pending.2) in
      subst (λ x. Found x found out rest) here
      (one_more (high_value * 16 + n) (92 ∷ 120 ∷ pending.0 ∷ c ∷ []) more found out rest
      (inr (inr (record { high = high_value; low = n; high_digit = pending.0; low_digit = c; high_means = pending.1; low_means = means; value = refl; is = refl })))
      (sound more plain (found ++ (high_value * 16 + n) ∷ []) out rest [] refl (sym (next c more (low high_value) found (gives (high_value * 16 + n)) t) ∙ h)))
  | is_no_digit t ↦ refused out rest (quoted (c ∷ more) (low high_value) found) (next c more (low high_value) found fails t) h
]

-- what is read is a text in quotes
pub quoted_sound : (text : Text) (bytes : List ℕ) (rest : Text) → quoted_text text ≡ Some (bytes, rest) → IsQuoted text bytes rest
quoted_sound text bytes rest h =
    let (found, is, then) = sound text plain [] bytes rest [] refl h in
    subst (λ b. IsQuoted text b rest) (sym is) then
