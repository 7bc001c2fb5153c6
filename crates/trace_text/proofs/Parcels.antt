-- Parcels that stand for nothing.
use Rattle.std.proofs.Common.{◌≡◌, ℕ, Option, Some, None, refl}
use Rattle.std.specs.List.{find}
use Rattle.std.specs.Option.{option_map}
use Rattle.rv_decode.specs.Parcels.{equivalent_of, expanded, has_parcel_row, parcel_rows, word_at}

none_mapped : {A B C : Type 0} (f : A → B) (g : A → C) (o : Option A) → None ≡ option_map f o → None ≡ option_map g o
none_mapped f g None h = refl
none_mapped f g (Some x) h = absurd (cc)

-- a parcel without a word has no instruction
pub no_equivalent : (h : ℕ) → None ≡ expanded h → None ≡ equivalent_of h
unfolding expanded equivalent_of
no_equivalent h e = none_mapped (word_at h) (λ r. r.equivalent h) (find (has_parcel_row h) parcel_rows) e
