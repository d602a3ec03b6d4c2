use Rattle.std.proofs.Common.{arith}
use Rattle.kt_meaning.specs.Past.{past}
use Rattle.kt_meaning.proofs.LegalLogs.{rows_length}
use Rattle.kt_meaning.proofs.Places.{sent_places, sent_once, received_places, deed_once, received_once, rowed}
use Rattle.kt_meaning.proofs.laws.places_of_legal_logs.Goals as goal

pub returns-clause-sent_once : goal.returns-clause-sent_once
returns-clause-sent_once c = λ log l p q i j msg to other e f. sent_once (past log) (sent_places log) p q i j msg to other e f

pub returns-clause-received_once : goal.returns-clause-received_once
returns-clause-received_once c = λ log l p q i j msg from other e f. received_once log l p q i j msg from other e f

pub returns-clause-deed_once : goal.returns-clause-deed_once
returns-clause-deed_once c = λ log l p i j d e f. deed_once (past log) (sent_places log) (received_places log l) p i j d e f

pub returns-clause-sent_within : goal.returns-clause-sent_within
returns-clause-sent_within c = λ log l p i msg to e. let g = sent_places log in let w = g.within p i msg to e in (w.0, omega (arith, rows_length log, w.1))

pub returns-clause-sent_rise : goal.returns-clause-sent_rise
returns-clause-sent_rise c = λ log l p i j msg later to other h e f. let g = sent_places log in g.rises p i j msg later to other h e f

pub returns-clause-received_rise : goal.returns-clause-received_rise
returns-clause-received_rise c = λ log l p from i j msg later h e f. let g = received_places log l in g.rises p from i j msg later h e f

pub returns-clause-sent_row : goal.returns-clause-sent_row
returns-clause-sent_row c = λ log l p i msg to e. let g = rowed log l in g.sent p i msg to e

pub returns-clause-received_row : goal.returns-clause-received_row
returns-clause-received_row c = λ log l p i msg from e. let g = rowed log l in g.received p i msg from e
