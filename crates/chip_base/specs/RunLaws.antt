-- What holds of all runs of cycles: laws over definitions.
use Rattle.std.specs.Prelude.{◌≡◌, ◌≤◌, ◌<◌, ℕ, suc, ◌+◌}
use Rattle.chip_base.specs.Runs.{Transcript, transcript_then, quiet_transcript, ran}

module _ {S A X Y : Type 0} (step : S → ℕ → A → Transcript S X Y) where
  -- a run of a + b cycles is a run of a, and then one of b
  abbrev pub RunsInParts : Type 0
  RunsInParts = (s : S) (start : ℕ) (arrives : ℕ → A) (a b : ℕ)
      → ran step s start arrives (a + b)
      ≡ transcript_then (ran step s start arrives a) (ran step (ran step s start arrives a).state (start + a) arrives b)

  -- only what arrives in the run's own cycles counts
  abbrev pub RunsByArrivals : Type 0
  RunsByArrivals = (s : S) (start : ℕ) (arrives others : ℕ → A) (n : ℕ) → ((t : ℕ) → start ≤ t → t < start + n → arrives t ≡ others t)
      → ran step s start arrives n ≡ ran step s start others n

  -- cycles that say nothing and of which each gives the next of these states
  abbrev pub RunsQuietly : Type 0
  RunsQuietly = (states : ℕ → S) (start : ℕ) (arrives : ℕ → A) (n : ℕ)
      → ((k : ℕ) → k < n → step (states k) (start + k) (arrives (start + k)) ≡ quiet_transcript (states (suc k)))
      → ran step (states 0) start arrives n ≡ quiet_transcript (states n)
