use Rattle.std.proofs.Common.{List, subst}
use Rattle.kt_spacetime.specs.declared.event.Event.{Event}
use Rattle.kt_meaning.specs.Legal.{is_join}
use Rattle.kt_spacetime.specs.declared.unfit.CertFault.{CertFault}
use Rattle.kt_meaning.specs.Fitness.{IsFaultOf}
use Rattle.kt_histories.specs.Finding.{IsLastNumber}
use Rattle.kt_explain.proofs.Faults.{not_broken}
use Rattle.kt_explain.proofs.compared.without.Goals as goal

pub returns-in-NoChain : goal.returns-in-NoChain
returns-in-NoChain c = λ list verdict no. (
  no,
  subst (λ (f : CertFault). IsFaultOf c.args.log.now.rows f) c.in-NoChain.is c.requires.fault,
  subst (λ (rows : List Event). IsLastNumber (is_join c.in-NoChain.p c.in-NoChain.k) rows c.last_number.result) c.rows.ensures.rows c.last_number.ensures,
)

pub returns-in-BadLog : goal.returns-in-BadLog
returns-in-BadLog c = λ list verdict no.
    absurd (not_broken c.args.log.now.rows _ _ c.requires.legal (subst (λ (f : CertFault). IsFaultOf c.args.log.now.rows f) c.in-BadLog.is c.requires.fault))
