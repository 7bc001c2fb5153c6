-- What a cycle does to the script of a UART unit: a law over definitions.
use Rattle.std.specs.Prelude.{◌≡◌, ◌==◌, ◌≤◌, ◌⊎◌, ℕ, eqb, List, [], ◌∷◌, ◌++◌, length, drop, Option, None, Some, if◌then◌else◌}
use Rattle.std.specs.List.{ends_with}
use Rattle.chip_base.specs.declared.message.Down.{Down}
use Rattle.chip_base.specs.declared.message.Up.{Up}
use Rattle.chip_base.specs.declared.script.UartStep.{UartStep}
use Rattle.chip_base.specs.Messages.{reset_in}
use Rattle.uart_lane.specs.Receiver.{Receiver}
use Rattle.uart_lane.specs.Receiving.{last_64, step_bytes}
use Rattle.uart_lane.specs.State.{UartState}

-- all bytes that these steps send, one step after another, without the first ones of the first step
abbrev pub sent_by : List ℕ → ℕ → List UartStep → List ℕ
sent_by image begun_bytes [] = []
sent_by image begun_bytes (step ∷ rest) = drop begun_bytes (step_bytes image (Some step)) ++ sent_by image 0 rest

-- the bytes of the script that had no frame
abbrev pub not_begun : Receiver → List ℕ
not_begun r = sent_by r.image r.begun_bytes r.steps

-- the byte of the frame that runs, if one runs
abbrev pub in_frame : Receiver → List ℕ
in_frame r = if r.left == 0 then [] else r.byte ∷ []

-- all bytes that are still to be received
abbrev pub to_come : Receiver → List ℕ
to_come r = in_frame r ++ not_begun r

-- the byte that a message takes up, if there is one
abbrev pub byte_up : Option Up → List ℕ
byte_up None = []
byte_up (Some up) = if up.has then up.word ∷ [] else []

-- the bytes of the script go up in its order, each once
pub record KeepsScript (old : UartState) (down : Option Down) (new : UartState) (up : Option Up) : Type 0 where
  pub bytes : reset_in down ≡ 0 → to_come old.receiver ≡ byte_up up ++ to_come new.receiver
  -- a Reset loses the byte of a frame that runs, and no other
  pub after_reset : reset_in down ≡ 1 → not_begun old.receiver ≡ byte_up up ++ to_come new.receiver
  -- at most one step passes
  pub steps : (new.receiver.steps ≡ old.receiver.steps) ⊎ (new.receiver.steps ≡ drop 1 old.receiver.steps)

-- the last 64 bytes serve an expect step as well as all bytes do
pub record HearsEnough : Type 0 where
  -- they are the last 64 of all, whatever byte comes next
  pub byte : (all : List ℕ) (byte : ℕ) → last_64 (last_64 all ++ byte ∷ []) ≡ last_64 (all ++ byte ∷ [])
  -- they end with a text exactly where all bytes do
  pub text : (all text : List ℕ) → length text ≤ 64 → ends_with eqb (last_64 all) text ≡ ends_with eqb all text
