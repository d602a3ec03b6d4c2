use Rattle.kt_tables.proofs.Following.{can_send_is, can_receive, sent_can, received_can}
use Rattle.kt_tables.proofs.tables.labels_that_follow.Goals as goal

pub returns : goal.returns
returns c = record {
  send = can_send_is;
  receive = can_receive;
  sent = sent_can;
  received = received_can;
}
