use Rattle.kt_machine.proofs.RunFacts.{channel_sent, held_sent, held_to, kept_sent}
use Rattle.kt_machine.proofs.laws.messages_of_runs.Goals as goal

pub returns-clause-in_channels : goal.returns-clause-in_channels
returns-clause-in_channels c = channel_sent

pub returns-clause-held : goal.returns-clause-held
returns-clause-held c = held_sent

pub returns-clause-held_by_receiver : goal.returns-clause-held_by_receiver
returns-clause-held_by_receiver c = held_to

pub returns-clause-kept : goal.returns-clause-kept
returns-clause-kept c = kept_sent
