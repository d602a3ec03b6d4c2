use Rattle.kt_promises.proofs.OffersSent.{offered_seen, sent_seen}
use Rattle.kt_promises.proofs.RowsFit.{fits, took_given}
use Rattle.kt_promises.proofs.RefusedRows.{refused_seen}
use Rattle.kt_promises.proofs.StillRows.{still_seen}
use Rattle.kt_promises.proofs.laws.rows_of_runs.Goals as goal

pub returns-clause-fit : goal.returns-clause-fit
returns-clause-fit c = λ plan first w x give i r e. (fits plan first w x give i r e).fit

pub returns-clause-few : goal.returns-clause-few
returns-clause-few c = λ plan first w x give i r e. (fits plan first w x give i r e).few

pub returns-clause-refused : goal.returns-clause-refused
returns-clause-refused c = refused_seen

pub returns-clause-saves : goal.returns-clause-saves
returns-clause-saves c = took_given

pub returns-clause-sends : goal.returns-clause-sends
returns-clause-sends c = sent_seen

pub returns-clause-offered : goal.returns-clause-offered
returns-clause-offered c = offered_seen

pub returns-clause-still : goal.returns-clause-still
returns-clause-still c = still_seen
