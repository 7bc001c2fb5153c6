use Rattle.std.proofs.Common.{◌∙◌, ap, sym, option_map}
use Rattle.bench_words.specs.Jobs.{boot_or_monitor}
use Rattle.bench_words.proofs.job.read_boot.Goals as goal

pub returns-in-Some : goal.returns-in-Some
returns-in-Some c = c.boot_named.ensures ∙ ap (λ w. boot_or_monitor (option_map (λ s. s.now) w)) (sym c.in-Some.is)
