use Rattle.stream_link.proofs.Pace.{keeps_pace}
use Rattle.stream_link.proofs.stream.Stream.new.Goals as goal

pub returns-clause-pace : goal.returns-clause-pace
returns-clause-pace g c = λ part. keeps_pace part
