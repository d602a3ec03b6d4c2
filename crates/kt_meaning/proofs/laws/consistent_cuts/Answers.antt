use Rattle.std.proofs.Common.{take}
use Rattle.kt_meaning.specs.Past.{past}
use Rattle.kt_meaning.specs.Cuts.{permanent_cut, present_cut}
use Rattle.kt_meaning.proofs.LegalLogs.{legal_take}
use Rattle.kt_meaning.proofs.Consistency.{no_orphan, consistent_without, consistent_sent, consistent_from, consistent, sound_log, decisions_take}
use Rattle.kt_meaning.proofs.laws.consistent_cuts.Goals as goal

pub returns-clause-no_orphan : goal.returns-clause-no_orphan
returns-clause-no_orphan c = λ s cut. (λ h msg o. no_orphan s cut h msg o, λ none. consistent_without s cut none)

pub returns-clause-sent : goal.returns-clause-sent
returns-clause-sent c = λ s cut. (λ h p q i msg e. consistent_sent s cut h p q i msg e, λ h. consistent_from s cut h)

pub returns-clause-permanent : goal.returns-clause-permanent
returns-clause-permanent c = λ log l d n.
    let h = sound_log (take n log) (legal_take n log l) (decisions_take n log d) in
    consistent (past (take n log)) (permanent_cut (past (take n log))) h.permanent

pub returns-clause-present : goal.returns-clause-present
returns-clause-present c = λ log l d n.
    let h = sound_log (take n log) (legal_take n log l) (decisions_take n log d) in
    consistent (past (take n log)) (present_cut (past (take n log))) h.present
