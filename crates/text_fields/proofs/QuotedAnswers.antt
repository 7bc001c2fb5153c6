-- What the reader of quoted texts answers, by the meaning of its answer.
use Rattle.std.proofs.Common.{◌≡◌, List, ℕ, Option, Some, None, Result, Ok, Err, IfOk, IfSome, option_map, Vec, Bor, Global, sym}
use Rattle.std.specs.Prelude.{IsNone}
use Rattle.text_fields.specs.Fields.{Text}
use Rattle.text_fields.specs.Quoted.{quoted_text}
use Rattle.text_fields.specs.QuotedMeaning.{IsQuoted}
use Rattle.text_fields.specs.QuotedParts.{quoted_view}
use Rattle.text_fields.proofs.QuotedTexts.{quoted_complete, quoted_sound}

abbrev Answer : Type 0
Answer = Option (Vec ℕ Global × Bor (List ℕ))

some_stands : (text : Text) (r : Answer) → option_map quoted_view r ≡ quoted_text text → IfSome r (λ p. IsQuoted text p.0.items p.1.now)
some_stands text (Some p) is = quoted_sound text p.0.items p.1.now (sym is)
some_stands text None is = tt

no_none : (o : Option (List ℕ × Text)) (p : List ℕ × Text) → None ≡ o → o ≡ Some p → ⊥
no_none o p none some = cc

none_stands : (text : Text) (r : Answer) → option_map quoted_view r ≡ quoted_text text → IsNone r → (bytes rest : List ℕ) → IsQuoted text bytes rest → ⊥
none_stands text None is none bytes rest h = no_none (quoted_text text) (bytes, rest) is (quoted_complete text bytes rest h)
none_stands text (Some p) is none bytes rest h = cc

pub stands : {E : Type 0} (text : Text) (r : Result Answer E) → IfOk r (λ a. option_map quoted_view a ≡ quoted_text text) → IfOk r (λ a. IfSome a (λ p. IsQuoted text p.0.items p.1.now))
stands text (Ok a) is = some_stands text a is
stands text (Err e) is = tt

pub stands_not : {E : Type 0} (text : Text) (r : Result Answer E) → IfOk r (λ a. option_map quoted_view a ≡ quoted_text text)
    → IfOk r (λ a. IsNone a → (bytes rest : List ℕ) → IsQuoted text bytes rest → ⊥)
stands_not text (Ok a) is = none_stands text a is
stands_not text (Err e) is = tt
