use Rattle.crate_tests.proofs.monitor.act_on.Goals as goal

pub act-asked-requires-in-replies : goal.act-asked-requires-in-replies
act-asked-requires-in-replies c = record { due = c.replies.invariant c.in-Bus.request 0 c.in-Bus.is }
