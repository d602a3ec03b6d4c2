use Rattle.std.proofs.Common.{ℕ, List, refl}
use Rattle.kt_spacetime.specs.declared.certificate.Certificate.{Certificate}
use Rattle.kt_spacetime.specs.declared.verdict.Verdict.{Verdict}
use Rattle.kt_spacetime.specs.declared.verdict.Verdict.TheVariants.{No}
use Rattle.std.proofs.Common.{Some}
use Rattle.kt_explain.specs.declared.explanation.Explanation.{Explanation}
use Rattle.kt_explain.specs.Told.{IsExplanation, IsNoOf}
use Rattle.kt_explain.proofs.Faults.{certificate_legal}
use Rattle.kt_histories.proofs.Gives.{ok_gives}
use Rattle.kt_explain.proofs.compared.compare.Goals as goal

pub without-requires-clause-legal : goal.without-requires-clause-legal
without-requires-clause-legal c = certificate_legal c.args.log.now.rows c.args.certificates.now c.args.inst c.args.row c.args.why c.requires.answer

pub returns-in-Err : goal.returns-in-Err
returns-in-Err c =
    let rows = c.args.log.now.rows in
    let list = c.args.certificates.now in
    let verdict = No (Some c.args.inst) c.args.row c.args.why in
    let no : (j : ℕ) × IsNoOf verdict j = (c.args.inst, record { row = c.args.row; reason = c.args.why; verdict_is = refl; of_certificate = c.requires.of_certificate }) in
    ok_gives c.without.result (λ (e : Explanation). (l : List Certificate) (v : Verdict) → (j : ℕ) × IsNoOf v j → IsExplanation rows l v e) (IsExplanation rows list verdict)
    (λ e f. f list verdict no) c.without.ensures
