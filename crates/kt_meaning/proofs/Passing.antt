-- The certificates of a log that is fit pass exactly where its decisions are just: each is alone of its instance, and every
-- decided instance has one.
use Rattle.std.proofs.Common.{◌≡◌, ℕ, Some, List, arith}
use Rattle.std.specs.List.{slice_get}
use Rattle.kt_spacetime.specs.declared.event.Event.{Event}
use Rattle.kt_meaning.specs.Legal.{IsLegal}
use Rattle.kt_spacetime.specs.declared.certificate.Certificate.{Certificate}
use Rattle.kt_spacetime.specs.declared.verdict.Verdict.{Verdict}
use Rattle.kt_meaning.specs.Passing.{Passes, IsPassed, IsAsInLog, IsSecond, AreComplete}
use Rattle.kt_meaning.specs.Answers.{IsCheckerAnswer}
use Rattle.kt_spacetime.specs.declared.verdict.Verdict.TheVariants.{Yes}
use Rattle.kt_meaning.proofs.Answering.{passed_of, yes_of}
use Rattle.kt_meaning.proofs.Sound.{aborts, decisions_consistent}
use Rattle.kt_meaning.specs.Certificates.{certificates}
use Rattle.kt_meaning.specs.Fitness.{IsFitLog}
use Rattle.kt_meaning.proofs.Certified.{rising}
use Rattle.kt_meaning.proofs.Certified as certified
use Rattle.kt_meaning.specs.Just.{IsJust}
use Rattle.kt_meaning.proofs.Claims.{IsMadeAt, made_at, stated, members_right, lists_right, cut_right}

not_second : (log : List Event) (i : ℕ) (c : Certificate) → slice_get (certificates log) i ≡ Some c → IsSecond (certificates log) i c → ⊥
not_second log i c e second =
    let low = rising log second.0 i second.1 c second.2 second.3 e in
    absurd (omega (arith, low, second.4))

pub complete : (log : List Event) → IsLegal log → AreComplete log (certificates log)
complete log l n p k commit e =
    let c = certified.complete log n p k commit l e in
    (c.0, c.1, c.2, c.3)

-- each passes
passes_at : (log : List Event) (n : ℕ) (c : Certificate) → IsFitLog log → IsJust log → IsMadeAt log c n → IsAsInLog log c n → Passes log c
passes_at log n c fit just is said = record {
  row = n;
  instance = said;
  cause = just.causes n is.decider c.inst c.commit is.decided;
  shown = λ committed. record {
    members = members_right log c n fit.legal is committed;
    lists = lists_right log c n is (fit.chained c.inst) committed;
    consistent = cut_right log c n just.consistent said committed;
  };
}

-- the certificates of a log that is fit pass where its decisions are just
pub passed_of_fit : (log : List Event) → IsFitLog log → IsJust log → IsPassed log (certificates log)
passed_of_fit log fit just = record {
  legal = fit.legal;
  pass = λ i c low e.
      let said = stated log i c e in
      (passes_at log said.0 c fit just (made_at log i said.0 c fit.legal e said.1) said.1, not_second log i c e);
  complete = complete log fit.legal;
}

-- and only there
pub just_of_passed : (log : List Event) → IsPassed log (certificates log) → IsJust log
just_of_passed log h = record {
  consistent = decisions_consistent log (certificates log) h;
  causes = aborts log (certificates log) h;
}

pub yes_of_fit : (log : List Event) (v : Verdict) → IsFitLog log → IsCheckerAnswer log (certificates log) v → IsJust log → v ≡ Yes
yes_of_fit log v fit answer just = yes_of log (certificates log) v answer (passed_of_fit log fit just)

pub just_of_yes : (log : List Event) (v : Verdict) → IsCheckerAnswer log (certificates log) v → v ≡ Yes → IsJust log
just_of_yes log v answer e = just_of_passed log (passed_of log (certificates log) v answer e)
