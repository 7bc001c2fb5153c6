use Rattle.std.proofs.Common.{◌≡◌, ◌∙◌, ◌+◌, ◌%◌, ◌^◌, ap, sym}
use Rattle.std.proofs.lemmas.Slice.{pushed}
use Rattle.std.specs.Int.{w32, to_le_bytes}
use Rattle.image_tool.specs.Image.{checksum}
use Rattle.image_tool.proofs.ImageLemmas.{checksum_from_sum, image_from_parts}
use Rattle.image_tool.proofs.making.image_of.Goals as goal

pub returns : goal.returns
returns c =
    let payload = c.args.payload.now in
    let is_checksum : c.wrapping_neg-checksum.result ≡ checksum payload =
    checksum_from_sum c.wrapping_neg-checksum.result payload c.wrapping_neg-checksum.type_inv
    (ap (λ s. (c.wrapping_neg-checksum.result + s) % 2 ^ 32) (sym c.sum.ensures) ∙ c.wrapping_neg-checksum.ensures) in
    let first = pushed c.to_le_bytes.result c.in_ok-image.ensures.items c.in_ok-extend_from_slice.was c.extend_from_slice.ensures.items in
    let second = pushed c.to_le_bytes-2.result first c.in_ok-extend_from_slice-2.was c.extend_from_slice-2.ensures.items in
    let third = pushed c.to_le_bytes-3.result second c.in_ok-extend_from_slice-3.was c.extend_from_slice-3.ensures.items in
    let fourth = pushed payload third c.in_ok-extend_from_slice-4.was c.extend_from_slice-4.ensures.items in
    fourth ∙ image_from_parts payload c.to_le_bytes.result c.to_le_bytes-2.result c.to_le_bytes-3.result
    c.to_le_bytes.ensures c.to_le_bytes-2.ensures (c.to_le_bytes-3.ensures ∙ ap (to_le_bytes w32) is_checksum)
