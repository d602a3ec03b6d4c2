-- Why an answer is the first fault in the checker's order.
use Rattle.std.proofs.Common.{◌≡◌, ℕ, suc, ◌+◌, ◌<◌, ◌≤◌, not, Bool, true, false, Option, Some, None, option_map, List, [], length, take, refl, sym, ap, ◌∙◌, subst, arith, inl, inr}
use Rattle.std.specs.List.{slice_get}
use mathlib.Core.Bool.{beq}
use Rattle.std.proofs.lemmas.Bool.{cases_eq}
use Rattle.std.proofs.lemmas.Option.{slice_get_within}
use Rattle.kt_spacetime.specs.declared.event.Event.{Event}
use Rattle.kt_spacetime.specs.declared.event.Event.TheVariants as event
use Rattle.kt_meaning.specs.Past.{Past, Beginning, past}
use Rattle.kt_meaning.specs.Legal.{IsLegal}
use Rattle.kt_meaning.specs.Cuts.{IsConsistent, IsOrphan}
use Rattle.kt_meaning.specs.Chains.{members}
use Rattle.kt_rules.specs.Standing.{at_number}
use Rattle.kt_meaning.proofs.Items.{some_same}
use Rattle.kt_meaning.proofs.Consistency.{no_orphan}
use Rattle.kt_spacetime.specs.declared.certificate.Certificate.{Certificate}
use Rattle.kt_checker.specs.declared.decisions.Instance.{Instance}
use Rattle.kt_checker.specs.declared.decisions.Decision.{Decision}
use Rattle.kt_spacetime.specs.declared.verdict.Verdict.{Verdict}
use Rattle.kt_spacetime.specs.declared.verdict.Verdict.TheVariants.{No}
use Rattle.kt_spacetime.specs.declared.verdict.Why.{Why}
use Rattle.kt_spacetime.specs.declared.verdict.Why.TheVariants as why
use Rattle.kt_meaning.specs.Unwilling.{has_unwilling}
use Rattle.kt_checker.specs.Gathered.{Gathered, IsDecision, decision_gathered}
use Rattle.kt_meaning.specs.Passing.{Passes, IsAsInLog, IsSecond, PassBefore}
use Rattle.kt_meaning.specs.Answers.{IsFirstWhy, IsRefuted, IsMissing, IsCheckerAnswer}
use Rattle.kt_checker.specs.Missing.{IsUnseen, AnswersMissing}
use Rattle.kt_checker.proofs.Chaining.{consistent_of}
use Rattle.kt_meaning.proofs.Deciding.{decided_once, members_before, unwilling_before}
use Rattle.kt_checker.proofs.Sound.{beginning_then, as_in_log, ready_in_joined}
use Rattle.kt_checker.proofs.Marking.{IsMarkedBy, HasMarked, decided_row, certificate_of}

-- no row decides an instance of which no decision was gathered
pub never_decided : {certs : List Certificate} (list : List Instance) (rows : List Event) (c : Certificate) (n : ℕ) → Gathered certs list rows → decision_gathered (at_number list c.inst) ≡ None → IsAsInLog rows c n → ⊥
never_decided {certs} list rows c n h none stated =
    let undecided : IsDecision certs rows c.inst None = subst (IsDecision certs rows c.inst) none (h.decision c.inst) in
    undecided n stated.process c.commit stated.decided

-- a certificate that is as the log has it says what was gathered
pub gathered_as : {certs : List Certificate} (list : List Instance) (rows : List Event) (c : Certificate) (n : ℕ) (v : Instance) (d : Decision) → IsLegal rows → Gathered certs list rows → at_number list c.inst ≡ Some v → v.decision ≡ Some d → IsAsInLog rows c n
    → (v.kind ≡ c.kind) × (v.initiator ≡ c.initiator) × (d.commit ≡ c.commit)
gathered_as {certs} list rows c n v d l h there decided stated =
    let began = beginning_then list rows n stated.process c.inst c.commit v l h there stated.decided in
    let kind : v.kind ≡ c.kind = some_same (sym (ap (λ (o : Option Beginning). option_map (λ b. b.kind) o) began) ∙ stated.kind) in
    let initiator : v.initiator ≡ c.initiator = some_same (sym (ap (λ (o : Option Beginning). option_map (λ b. b.initiator) o) began) ∙ stated.initiator) in
    let found : IsDecision certs rows c.inst (Some d) = decided_row list rows c.inst v d h there decided in
    let row = decided_once rows found.0 n found.1 stated.process c.inst d.commit c.commit l found.3 stated.decided in
    let same : event.Decided found.1 c.inst d.commit ≡ event.Decided stated.process c.inst c.commit = some_same (sym found.3 ∙ (ap (slice_get rows) row ∙ stated.decided)) in
    let commit : d.commit ≡ c.commit = cc in
    (kind, initiator, commit)

-- the answer to a certificate of a decided instance that is wrong
pub refuted_of : {certs : List Certificate} (list : List Instance) (rows : List Event) (i : ℕ) (c : Certificate) (v : Instance) (d : Decision) (verdict : Verdict) (reason : Why) → IsLegal rows → Gathered certs list rows
    → at_number list c.inst ≡ Some v → v.decision ≡ Some d → v.kind ≡ c.kind → v.initiator ≡ c.initiator → d.commit ≡ c.commit → (c.commit ≡ false → c.members ≡ []) → slice_get certs i ≡ Some c → (IsSecond certs i c → ⊥)
    → verdict ≡ No (Some c.inst) (Some d.row) reason → d.fault ≡ Some reason → IsRefuted rows certs i c verdict
refuted_of {certs} list rows i c v d verdict reason l h there decided kind initiator commit no_members at first is fault =
    let found : IsDecision certs rows c.inst (Some d) = decided_row list rows c.inst v d h there decided in
    let n : ℕ = found.0 in
    let stated = as_in_log list rows c v d n found.1 l h there found.3 kind initiator commit no_members in
    let before = (found.5 i c at refl first).wrong reason fault commit (ready_in_joined rows c n l stated.kind) in
    let joined = sym (members_before rows n found.1 c.inst d.commit l found.3) in
    let unwilling = sym (unwilling_before rows n found.1 c.inst d.commit l found.3) in (
      n,
      reason,
      is ∙ ap (λ (x : ℕ). No (Some c.inst) (Some x) reason) found.2,
      stated,
      first,
      subst (λ (b : Bool). IsFirstWhy (past (take n rows)) (members rows c.inst) b c reason) unwilling (subst (λ (ms : List ℕ). IsFirstWhy (past (take n rows)) ms (has_unwilling (take n rows) c.inst) c reason) joined before),
    )

pub refused_not : (a b : Bool) → beq a b ≡ false → b ≡ not a
refused_not true true e = absurd (cc)
refused_not true false e = refl
refused_not false true e = refl
refused_not false false e = absurd (cc)

-- a cut with an orphan is not consistent
pub orphan_refutes : (s : Past) (a b : ℕ → ℕ) (msg : ℕ) → ((p : ℕ) → p < 64 → a p ≡ b p) → ((p : ℕ) → 64 ≤ p → s.live p ≡ []) → IsOrphan s a msg → IsConsistent s b → ⊥
orphan_refutes s a b msg same none orphan consistent =
    let first : IsConsistent s a = consistent_of s b a (λ p low. sym (same p low)) none (λ m. no_orphan s b consistent m) in
    no_orphan s a first msg orphan

pub pass_next : (rows : List Event) (certificates : List Certificate) (n : ℕ) (c : Certificate) → slice_get certificates n ≡ Some c → PassBefore rows certificates n → Passes rows c → (IsSecond certificates n c → ⊥)
    → PassBefore rows certificates (n + 1)
pass_next rows certificates n c at before passes first i v low e = elim (cases_eq i n) [
  | inl same ↦
      let item : c ≡ v = some_same (sym at ∙ (ap (slice_get certificates) (sym same) ∙ e)) in
      (subst (Passes rows) item passes, λ second. first (second.0, second.1, omega (arith, second.2, same), second.3, second.4 ∙ ap (λ (x : Certificate). x.inst) (sym item)))
  | inr other ↦ before i v (omega (arith, low, other)) e
]

pub pass_all : (rows : List Event) (certificates : List Certificate) (n : ℕ) → length certificates ≤ n → PassBefore rows certificates n → PassBefore rows certificates (length certificates)
pass_all rows certificates n long before i c low e = before i c (omega (arith, long, low)) e

-- the answer where every certificate passed
pub answer_of : (list : List Instance) (rows : List Event) (certificates : List Certificate) (seen : List Bool) (v : Verdict) → IsLegal rows → Gathered certificates list rows → PassBefore rows certificates (length certificates)
    → IsMarkedBy seen certificates (length certificates) → HasMarked seen certificates (length certificates) → AnswersMissing list seen v → IsCheckerAnswer rows certificates v
answer_of list rows certificates seen v l h pass marked marks answers = elim answers [
  | inl none ↦ inl (
    none.0,
    record {
      legal = l;
      pass = pass;
      complete = λ n p k commit e. certificate_of list rows seen certificates (length certificates) (length list) h none.1 marked n p k commit (λ j w there same. slice_get_within list j w there) e;
    },
  )
  | inr lacks ↦ inr (inr (l, inr (missing lacks.0 lacks.1 lacks.2)))
]
  where
    missing : (d : Decision) → v ≡ No (Some d.inst) (Some d.row) why.Missing → IsUnseen list seen d → IsMissing rows certificates v
    missing d is unseen =
        let k : ℕ = unseen.0 in
        let found : IsDecision certificates rows (suc k) (Some d) = decided_row list rows (suc k) unseen.1 d h unseen.2 unseen.3 in (
          pass,
          found.0,
          found.1,
          suc k,
          d.commit,
          is ∙ (λ i. No (Some (found.4 i)) (Some (found.2 i)) why.Missing),
          found.3,
          λ other. unseen.4 (subst (λ (n : ℕ). at_number seen n ≡ Some true) other.3 (marks other.0 other.1 (slice_get_within certificates other.0 other.1 other.2) other.2)),
          λ m q j also low e. certificate_of list rows seen certificates (length certificates) k h unseen.5 marked m q j also (λ i u at same. omega (arith, low, same)) e,
        )
