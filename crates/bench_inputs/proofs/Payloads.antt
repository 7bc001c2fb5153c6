-- What a payload is made into, by what `wrap` says of it.
use Rattle.std.proofs.Common.{◌≡◌, ◌≢◌, ◌<◌, ◌≤◌, ℕ, arith, inl, inr, Bool, true, false, cond, List, length, Some, None, Ok, Err, refl, ap, sym, ◌∙◌}
use Rattle.std.specs.Prelude.{◌==◌, ◌⊎◌, IsTrue, nat_lt}
use Rattle.std.proofs.lemmas.Bool.{lt-ltb, le-ltb, ne_eqb}
use Rattle.std.proofs.lemmas.Bool.Decides.{nat_tests}
use Rattle.image_tool.specs.Image.{image_of, is_allowed, padded, IsImage}
use Rattle.image_tool.specs.declared.faults.ImageFault.TheVariants.{Size}
use Rattle.bench_inputs.specs.Inputs.{size_fault, unless, wrapped_in}
use Rattle.bench_inputs.specs.Lines.{image_refusal}

positive : (room n : ℕ) → IsTrue (is_allowed room n) → n ≢ 0
positive room n h = λ e. grind (arith, nat_tests, h, e)

within : (room n : ℕ) → IsTrue (is_allowed room n) → n ≤ room
within room n h = grind (arith, nat_tests, h)

-- an allowed size has no fault
allowed : (room n : ℕ) → IsTrue (is_allowed room n) → size_fault room n ≡ None
allowed room n h = rw (ne_eqb n 0 (positive room n h)) (rw (le-ltb room n (within room n h)) refl)

-- for `wrap_payload`: a payload that is wrapped
pub wrapped_ok : (room : ℕ) (payload image : List ℕ) → IsImage room image (padded payload) → wrapped_in room payload ≡ Ok image
wrapped_ok room payload image i = ap (λ f. unless f (image_of (padded payload))) (allowed room (length (padded payload)) i.0) ∙ ap Ok (sym i.1)

-- a size that is zero or above the room is a fault
faulty : (room n : ℕ) → (n ≡ 0) ⊎ (room < n) → size_fault room n ≡ Some (Size n)
faulty room n (inl e) = rw e refl
faulty room n (inr lt) = by_zero (n == 0)
  where
    by_zero : (t : Bool) → cond t (Some (Size n)) (cond (nat_lt room n) (Some (Size n)) None) ≡ Some (Size n)
    by_zero true = refl
    by_zero false = rw (lt-ltb room n lt) refl

-- for `wrap_payload`: a payload that is refused
pub wrapped_size : (room : ℕ) (payload : List ℕ) → (length (padded payload) ≡ 0) ⊎ (room < length (padded payload))
    → wrapped_in room payload ≡ Err (image_refusal (Size (length (padded payload))))
wrapped_size room payload h = ap (λ f. unless f (image_of (padded payload))) (faulty room (length (padded payload)) h)
