use Rattle.stream_link.proofs.Behaviours.{asked_none, asked_some}
use Rattle.stream_link.proofs.stream.ask.Goals as goal

pub returns-in-Some : goal.returns-in-Some
returns-in-Some g c = λ start passed h. asked_some start passed c.args.ev _ _ c.call.result c.call.ensures.none c.call.ensures.replies (rw c.in-Some.is at h)

pub returns-in-None : goal.returns-in-None
returns-in-None g c = λ start passed h. rw c.in-None.is (asked_none start passed c.args.ev (rw c.in-None.is at h))
