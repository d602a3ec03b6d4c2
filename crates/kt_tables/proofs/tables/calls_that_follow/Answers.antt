use Rattle.kt_tables.proofs.CallParts.{parts_push}
use Rattle.kt_tables.proofs.Following.{speaks_sent, speaks_received, speaks_tentative, speaks_commit, speaks_abort, speaks_rollback}
use Rattle.kt_tables.proofs.tables.calls_that_follow.Goals as goal

pub returns : goal.returns
returns c = record {
  parts = parts_push;
  sent = speaks_sent;
  received = speaks_received;
  tentative = speaks_tentative;
  commit = speaks_commit;
  abort = speaks_abort;
  rollback = speaks_rollback;
}
