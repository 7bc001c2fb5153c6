-- Definition: why bytes are no image.
use Rattle.std.specs.Prelude.{◌==◌, ℕ, ◌+◌, not, List, ◌∷◌, length, take, drop, nat_lt, if◌then◌else◌, Option, Some, None}
use Rattle.image_tool.specs.Image.{check_of, is_allowed, signature, signature_of, size_of, words, wrapping_sum}
use Rattle.image_tool.specs.declared.faults.ImageFault.{ImageFault}
use Rattle.image_tool.specs.declared.faults.ImageFault.TheVariants.{Short, Signature, Size, Checksum, Extra}

-- the wrapping sum of the checksum word and of the words of the payload, which has as many bytes as the length word says
abbrev pub sum_of : List ℕ → ℕ
sum_of bytes = wrapping_sum (check_of bytes ∷ words (take (size_of bytes) (drop 12 bytes)))

-- the first of six tests that fails, where the memory has room for this many bytes of payload
abbrev pub image_fault : ℕ → List ℕ → Option ImageFault
image_fault room bytes =
    if nat_lt (length bytes) 12 then Some (Short (length bytes))
    else if not (signature_of bytes == signature) then Some (Signature (signature_of bytes))
    else if not (is_allowed room (size_of bytes)) then Some (Size (size_of bytes))
    else if nat_lt (length bytes) (12 + size_of bytes) then Some (Short (length bytes))
    else if not (sum_of bytes == 0) then Some (Checksum (sum_of bytes))
    else if nat_lt (12 + size_of bytes) (length bytes) then Some (Extra (length bytes))
    else None
