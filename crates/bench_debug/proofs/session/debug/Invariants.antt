use Rattle.bench_debug.proofs.session.debug.Given as goal

abbrev pub ghosts-obey_all : goal.ghosts-obey_all
ghosts-obey_all g a = record { name = a.blank.name; parts = a.blank.parts }
