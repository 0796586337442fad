use Rattle.service_core.proofs.telling.tell_failure.Goals as goal

pub returns-then-failed-clause-told : goal.returns-then-failed-clause-told
returns-then-failed-clause-told g c counts = rw c.if-failed.true (c.tell_failed.ensures.told counts)
