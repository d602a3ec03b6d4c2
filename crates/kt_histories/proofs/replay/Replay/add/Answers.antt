use Rattle.kt_histories.proofs.InstanceSteps.{shows_unwilling, shows_refused}
use Rattle.kt_histories.proofs.replay.Replay.add.Goals as goal

pub returns-in-Received-clause-shows : goal.returns-in-Received-clause-shows
returns-in-Received-clause-shows c = rw c.in-Received.is c.receive.ensures.shows

pub returns-in-Dropped-clause-shows : goal.returns-in-Dropped-clause-shows
returns-in-Dropped-clause-shows c = rw c.in-Dropped.is c.drop_message.ensures.shows

pub returns-in_ok-count_row-in-Unwilling-clause-shows : goal.returns-in_ok-count_row-in-Unwilling-clause-shows
returns-in_ok-count_row-in-Unwilling-clause-shows c = λ s h allowed.
    rw (c.in_ok-count_row-in-Unwilling.ensures.processes, c.in_ok-count_row-in-Unwilling.ensures.messages, c.in_ok-count_row-in-Unwilling.ensures.instances, c.in_ok-count_row-in-Unwilling.ensures.dead, c.in_ok-count_row-in-Unwilling.ensures.beginning, c.in-Unwilling.is) (shows_unwilling _ _ _ _ _ s _ _ _ h)

pub returns-in_ok-count_row-in-Refused-clause-shows : goal.returns-in_ok-count_row-in-Refused-clause-shows
returns-in_ok-count_row-in-Refused-clause-shows c = λ s h allowed.
    rw (c.in_ok-count_row-in-Refused.ensures.processes, c.in_ok-count_row-in-Refused.ensures.messages, c.in_ok-count_row-in-Refused.ensures.instances, c.in_ok-count_row-in-Refused.ensures.dead, c.in_ok-count_row-in-Refused.ensures.beginning, c.in-Refused.is) (shows_refused _ _ _ _ _ s _ _ _ h)
