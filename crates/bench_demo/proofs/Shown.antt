-- What is shown, by what the chip was made of.
use Rattle.std.proofs.Common.{◌≡◌, ℕ, List, ◌++◌, length, Option, Result}
use Rattle.bench_shelf.specs.Sink.{Appending}
use Rattle.bench_shelf.specs.declared.sink.SinkFault.{SinkFault}
use Rattle.chip_base.specs.Settings.{Values}
use Rattle.chip_base.specs.declared.boot.Boot.TheVariants.{Monitor}
use Rattle.chip_base.specs.declared.script.Script.{Script}
use Rattle.chip_whole.specs.Chip.{after, start}
use Rattle.bench_demo.specs.Demo.{bare_board, demo_image, demo_script, demo_settings, demo_text, made_text, run_text}

-- a chip with the demonstration's settings, image and script shows its text
pub shown_from : {a b : Option (List ℕ)} {f g : ℕ} {r : Result (Unit {0}) SinkFault} (number size : ℕ) (v : Values) (image : List ℕ) (script : Script)
    → v ≡ demo_settings → image ≡ demo_image number → script ≡ demo_script → size ≡ length image
    → Appending a b f g (made_text number size ++ run_text (after bare_board (start v Monitor image script) 400000)) r → Appending a b f g (demo_text number) r
shown_from number size v image script is_settings is_image is_script is_size shown = rw (is_size, is_image, is_settings, is_script) at shown
