-- What an answer of the checker means.
use Rattle.std.proofs.Common.{◌≡◌, ℕ, not, Bool, true, false, Option, Some, None, List, take, sym, ◌∙◌, subst, inl, inr}
use Rattle.std.proofs.lemmas.Option.{slice_get_within}
use Rattle.kt_spacetime.specs.declared.event.Event.{Event}
use Rattle.kt_spacetime.specs.declared.rules.Rule.{Rule}
use Rattle.kt_meaning.specs.Past.{Past, past, start}
use Rattle.kt_meaning.specs.Legal.{IsLegal, first_broken}
use Rattle.kt_meaning.specs.Chains.{members}
use Rattle.kt_meaning.proofs.LegalLogs.{legal_unbroken}
use Rattle.kt_spacetime.specs.declared.certificate.Certificate.{Certificate}
use Rattle.kt_spacetime.specs.declared.verdict.Verdict.{Verdict}
use Rattle.kt_spacetime.specs.declared.verdict.Verdict.TheVariants.{Yes, No}
use Rattle.kt_spacetime.specs.declared.verdict.Why.{Why}
use Rattle.kt_spacetime.specs.declared.verdict.Why.TheVariants as why
use Rattle.kt_meaning.specs.Unwilling.{has_unwilling}
use Rattle.kt_meaning.specs.Passing.{Passes, IsPassed, IsAsInLog, IsShownBefore}
use Rattle.kt_meaning.specs.Answers.{IsFirstWhy, IsCheckerAnswer}
use Rattle.kt_meaning.proofs.Deciding.{decided_once}

-- a yes is answered where all has passed, and only there
pub passed_of : (rows : List Event) (certificates : List Certificate) (v : Verdict) → IsCheckerAnswer rows certificates v → v ≡ Yes → IsPassed rows certificates
passed_of rows certificates v answer is = elim answer [
  | inl passed ↦ passed.1
  | inr fault ↦ elim fault [
    | inl bad ↦ absurd (no_is_no (sym is ∙ bad.2))
    | inr rest ↦ elim rest.1 [
      | inl refused ↦ elim refused.4 [
        | inl unknown ↦ absurd (no_is_no (sym is ∙ unknown.0))
        | inr refuted ↦ absurd (no_is_no (sym is ∙ refuted.2))
      ]
      | inr missing ↦ absurd (no_is_no (sym is ∙ missing.5))
    ]
  ]
]
  where
    no_is_no : {inst row : Option ℕ} {reason : Why} → Yes ≡ No inst row reason → ⊥
    no_is_no e = cc

-- the first broken row of a legal log is none
pub no_broken : (rows : List Event) (n : ℕ) (rule : Rule) → IsLegal rows → first_broken rows ≡ Some (n, rule) → ⊥
no_broken rows n rule l e = never (sym (legal_unbroken start rows l) ∙ e)
  where
    never : (let none : Option (ℕ × Rule) = None in none) ≡ Some (n, rule) → ⊥
    never h = cc

pub not_both : (a b : Bool) → a ≡ b → a ≡ not b → ⊥
not_both a true e f =
    let never : true ≡ false = sym e ∙ f in
    cc
not_both a false e f =
    let never : false ≡ true = sym e ∙ f in
    cc

-- what passes is not wrong
not_wrong : (s : Past) (joined : List ℕ) (refused : Bool) (c : Certificate) (reason : Why) → IsFirstWhy s joined refused c reason → refused ≡ not c.commit → (c.commit ≡ true → IsShownBefore s c joined) → ⊥
not_wrong s joined refused c (why.BadLog rule) wrong cause shown = wrong
not_wrong s joined refused c why.Unknown wrong cause shown = wrong
not_wrong s joined refused c why.Missing wrong cause shown = wrong
not_wrong s joined refused c why.Cause wrong cause shown = not_both refused c.commit wrong cause
not_wrong s joined refused c why.Members wrong cause shown = wrong.2 (shown wrong.1).members
not_wrong s joined refused c why.Chain wrong cause shown = wrong.3 (shown wrong.1).lists
not_wrong s joined refused c why.Orphan wrong cause shown = wrong.4 (shown wrong.1).consistent

-- a certificate that passes is not wrong at its decided row
pub wrong_passes : (rows : List Event) (c : Certificate) (n : ℕ) (reason : Why) → IsLegal rows → Passes rows c → IsAsInLog rows c n → IsFirstWhy (past (take n rows)) (members rows c.inst) (has_unwilling rows c.inst) c reason → ⊥
wrong_passes rows c n reason l passes stated wrong =
    let row = decided_once rows passes.row n passes.instance.process stated.process c.inst c.commit c.commit l passes.instance.decided stated.decided in
    not_wrong (past (take n rows)) (members rows c.inst) (has_unwilling rows c.inst) c reason wrong passes.cause
    (λ commit. subst (λ (m : ℕ). IsShownBefore (past (take m rows)) c (members rows c.inst)) row (passes.shown commit))

pub yes_of : (rows : List Event) (certificates : List Certificate) (v : Verdict) → IsCheckerAnswer rows certificates v → IsPassed rows certificates → v ≡ Yes
yes_of rows certificates v answer h = elim answer [
  | inl passed ↦ passed.0
  | inr fault ↦ elim fault [
    | inl bad ↦ absurd (no_broken rows bad.0 bad.1 h.legal bad.3)
    | inr rest ↦ elim rest.1 [
      | inl refused ↦ elim refused.4 [
        | inl unknown ↦
            let is = h.pass refused.0 refused.1 (slice_get_within certificates refused.0 refused.1 refused.2) refused.2 in
            absurd (unknown.1 is.0.row is.0.instance is.1)
        | inr refuted ↦
            let is = h.pass refused.0 refused.1 (slice_get_within certificates refused.0 refused.1 refused.2) refused.2 in
            absurd (wrong_passes rows refused.1 refuted.0 refuted.1 h.legal is.0 refuted.3 refuted.5)
      ]
      | inr missing ↦ absurd (missing.7 (h.complete missing.1 missing.2 missing.3 missing.4 missing.6))
    ]
  ]
]
