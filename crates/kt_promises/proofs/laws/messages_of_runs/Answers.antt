use Rattle.std.proofs.Common.{length, sym}
use Rattle.kt_machine.specs.States.{AreRisingNumbers}
use Rattle.kt_promises.specs.Lines.{message_line, EachIsOnceOnItsLine, RetainsReceived}
use Rattle.kt_promises.proofs.ReachedRuns.{seen_of}
use Rattle.kt_promises.proofs.LinesOfRuns.{once_seen, rising_seen, keeps_seen}
use Rattle.kt_promises.proofs.StatesKeep.{channel_seen}
use Rattle.kt_promises.proofs.HeldMessages.{held_to_holder, kept_by_receiver}
use Rattle.kt_promises.proofs.ArrivedMessages.{own_live, received_once, received_all}
use Rattle.kt_promises.proofs.WholeLogs.{rested}
use Rattle.kt_promises.proofs.laws.messages_of_runs.Goals as goal

pub returns-clause-once : goal.returns-clause-once
returns-clause-once c = λ plan first w i r. seen_of plan first w EachIsOnceOnItsLine i r (once_seen (length plan.names) first)

pub returns-clause-rising : goal.returns-clause-rising
returns-clause-rising c = λ plan first w p q i r. seen_of plan first w (λ v. AreRisingNumbers (message_line v p q)) i r (λ s. rising_seen (length plan.names) first s p q)

pub returns-clause-kept_lists : goal.returns-clause-kept_lists
returns-clause-kept_lists c = λ plan first w i r. seen_of plan first w RetainsReceived i r (keeps_seen (length plan.names) first)

pub returns-clause-in_channels : goal.returns-clause-in_channels
returns-clause-in_channels c = λ plan first w p q i r. channel_seen plan first w i r p q

pub returns-clause-held : goal.returns-clause-held
returns-clause-held c = λ plan first w p q i r. held_to_holder plan first w i r p q

pub returns-clause-kept : goal.returns-clause-kept
returns-clause-kept c = λ plan first w p q i r. kept_by_receiver plan first w i r p q

pub returns-clause-arrived : goal.returns-clause-arrived
returns-clause-arrived c = λ plan first w m p q i r a h d. received_all plan first w i r (rested plan first w i r a).0 m p q h d

pub returns-clause-arrived_once : goal.returns-clause-arrived_once
returns-clause-arrived_once c = λ plan first w m p q i r a h d. received_once plan first w i r (rested plan first w i r a).0 m p q h d

pub returns-clause-own_at_rest : goal.returns-clause-own_at_rest
returns-clause-own_at_rest c = λ plan first w p i r a. sym (own_live plan first w i r (rested plan first w i r a).0 p)
