-- The bytes that the flash is sent, from a place on.
use Rattle.std.proofs.Common.{◌≡◌, ℕ, zero, suc, ◌<◌, List, [], ◌∷◌, length, drop, get_or, refl, sym, ap, arith}
use Rattle.std.specs.Prelude.{Some, None, slice_get, unwrap_or}
use Rattle.boot_monitor.specs.Actions.{Action, Drop, Mind, send, settled, transfer}
use Rattle.boot_monitor.specs.Errands.{frame_rest, lead}
use Rattle.boot_monitor.specs.Phases.{todo_in}
use Rattle.boot_monitor.specs.declared.phases.Errand.{Errand}
use Rattle.boot_monitor.specs.declared.phases.Frame.{Frame}
use Rattle.boot_monitor.specs.declared.phases.Phase.TheVariants.{Transferring}
use Rattle.boot_monitor.specs.declared.phases.Transfer.TheVariants.{Lead}
use Rattle.boot_monitor.proofs.Printing.{drop-end, drop-next}

-- a byte is sent, and then the rest
send-next : (xs : List ℕ) (place : ℕ) (rest : List Action) → place < length xs
    → transfer (get_or xs place 0) Drop (send (drop (suc place) xs) rest) ≡ send (drop place xs) rest
send-next xs place rest h = sym (ap (λ t. send t rest) (drop-next xs place h))

-- a byte that is there has a place
pub place-is : (xs : List ℕ) (place b : ℕ) → slice_get xs place ≡ Some b → place < length xs
place-is [] place b h = let bad : ⊥ = cc in elim bad [ ]
place-is (x ∷ xs) zero b h = omega arith
place-is (x ∷ xs) (suc place) b h = let e : place < length xs = place-is xs place b h in omega (arith, e)

-- a frame's first bytes go on with one of them, or have ended
pub lead-goes : (frame : Frame) (errand : Errand) (place b ctrl count size : ℕ) → slice_get (lead frame errand) place ≡ Some b
    → todo_in (Transferring (Lead frame errand place)) ctrl count size ≡ send (drop place (lead frame errand)) (frame_rest frame errand size)
lead-goes frame errand place b ctrl count size h =
    send-next (lead frame errand) place (frame_rest frame errand size) (place-is (lead frame errand) place b h)

pub lead-ends : (frame : Frame) (errand : Errand) (place size : ℕ) → slice_get (lead frame errand) place ≡ None
    → frame_rest frame errand size ≡ send (drop place (lead frame errand)) (frame_rest frame errand size)
lead-ends frame errand place size h = sym (ap (λ t. send t (frame_rest frame errand size)) (drop-end (lead frame errand) place h))

pub lead-begins : (frame : Frame) (errand : Errand) (room ctrl count size : ℕ) (i : Mind) → 0 < length (lead frame errand)
    → settled room ctrl (send (lead frame errand) (frame_rest frame errand size)) i ≡ record { todo = todo_in (Transferring (Lead frame errand 0)) ctrl count size; mind = i }
lead-begins frame errand room ctrl count size i h = ap (λ t. settled room ctrl t i) (sym (send-next (lead frame errand) 0 (frame_rest frame errand size) h))

-- the byte at a place, and 0 behind the end
pub got-or : (xs : List ℕ) (place : ℕ) → unwrap_or (slice_get xs place) 0 ≡ get_or xs place 0
got-or [] zero = refl
got-or [] (suc place) = refl
got-or (x ∷ xs) zero = refl
got-or (x ∷ xs) (suc place) = got-or xs place
