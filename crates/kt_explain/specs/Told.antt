-- When what is told of an answer is so.
use Rattle.std.specs.Prelude.{◌≡◌, ◌≤◌, ◌↔◌, ◌+◌, ℕ, Bool, true, false, Option, Some, None, IfSome, IsTrue, List, Contains, take, slice_get}
use Rattle.kt_spacetime.specs.declared.event.Event.{Event}
use Rattle.kt_spacetime.specs.declared.event.Event.TheVariants as event
use Rattle.kt_base.specs.declared.words.Cause.{Cause}
use Rattle.kt_base.specs.declared.words.Kind.{Kind}
use Rattle.kt_meaning.specs.Past.{Past, past}
use Rattle.kt_meaning.specs.Cuts.{IsOrphan}
use Rattle.kt_meaning.specs.Chains.{members}
use Rattle.kt_meaning.specs.Passing.{decided_cut}
use Rattle.kt_meaning.specs.Legal.{is_join}
use Rattle.kt_meaning.specs.Messages.{IsMessage, row_at}
use Rattle.kt_spacetime.specs.declared.certificate.Certificate.{Certificate}
use Rattle.kt_meaning.specs.Fitness.{HasNoChain}
use Rattle.kt_spacetime.specs.declared.verdict.Verdict.{Verdict}
use Rattle.kt_spacetime.specs.declared.verdict.Verdict.TheVariants.{Yes, No}
use Rattle.kt_spacetime.specs.declared.verdict.Why.{Why}
use Rattle.kt_spacetime.specs.declared.verdict.Why.TheVariants as why
use Rattle.kt_meaning.specs.Unwilling.{is_unwilling}
use Rattle.kt_checker.specs.Judged.{IsFirstCertificate}
use Rattle.kt_explain.specs.declared.bad_row.BadRow.{BadRow}
use Rattle.kt_explain.specs.declared.orphans.Orphan.{Orphan as Orphans}
use Rattle.kt_explain.specs.declared.explanation.Explanation.{Explanation}
use Rattle.kt_explain.specs.declared.explanation.Explanation.TheVariants.{Nothing, Judged, Objection, NoObjection, Compared, Unlinked, Orphan, BadLog}
use Rattle.kt_explain.specs.Judged.{IsJudgedSo}
use Rattle.kt_histories.specs.Breaches.{IsFirstUnmet, IsLater, IsUndoing, IsUndoneIn, IsWaitingAt}
use Rattle.kt_explain.specs.Compared.{IsCompared, IsOfCertificate}
use Rattle.kt_histories.specs.Finding.{HasNoRow, IsFirstRow, IsLastNumber, IsLastRow, receives}

-- a certificate is the first one of an instance
abbrev pub IsItsFirst : List Certificate → ℕ → Certificate → Type 0
IsItsFirst certificates k c = IsFirstCertificate certificates k (Some c)

-- a row decides an instance so
abbrev pub HasDecided : List Event → ℕ → ℕ → Bool → Type 0
HasDecided rows row k commit = (p : ℕ) × (row_at rows row ≡ Some (event.Decided p k commit))

-- an answer is a no for a certificate of this instance, or for the want of one
pub record IsNoOf (verdict : Verdict) (k : ℕ) : Type 0 where
  pub row : Option ℕ
  pub reason : Why
  pub verdict_is : verdict ≡ No (Some k) row reason
  pub of_certificate : IsOfCertificate reason

-- the least orphan of a cut
pub record IsLeastOrphan (s : Past) (cut : ℕ → ℕ) (msg : ℕ) : Type 0 where
  pub orphan : IsOrphan s cut msg
  pub least : (other : ℕ) → IsOrphan s cut other → msg ≤ other

-- what is told of a message, of an instance with these members: its sender and its receiver, the row in which it was received
-- last, the one that undid its send, and which of the two is a member
pub record HasParts (rows : List Event) (joined : List ℕ) (msg : ℕ) (o : Orphans) : Type 0 where
  pub msg_is : o.msg ≡ msg
  pub message : IsMessage rows o.msg o.from o.to
  pub received : IsLastRow (receives o.to o.from o.msg) rows o.received (event.Received o.to o.from o.msg)
  pub undone : IfSome o.undone (IsUndoing rows o.msg)
  pub sender : IsTrue o.is_sender_member ↔ Contains joined o.from
  pub receiver : IsTrue o.is_receiver_member ↔ Contains joined o.to

-- what is told of the least orphan of the cut that the decision of an instance makes
pub record IsOrphanTold (rows : List Event) (k : ℕ) (kind : Kind) (o : Orphans) : Type 0 where
  pub least : IsLeastOrphan (past rows) (decided_cut (past rows) k kind) o.msg
  pub parts : HasParts rows (members rows k) o.msg o

-- a row of a log, and what breaks the rule
pub record IsBadRow (rows : List Event) (b : BadRow) (place : ℕ) (row : Event) : Type 0 where
  pub row_is : b.row ≡ place + 1
  pub there : slice_get rows place ≡ Some row
  pub breach_is : IsFirstUnmet (take place rows) b.rule row b.breach
  pub undone : IfSome b.undone (IsUndoneIn (take place rows) b.breach)
  pub later : IsLater rows b.breach b.later
  pub waiting : IsWaitingAt (take place rows) row b.waiting

-- what is told of an answer is so; of each answer something is told
abbrev pub IsExplanation : List Event → List Certificate → Verdict → Explanation → Type 0
IsExplanation rows certificates verdict Nothing = ⊥
IsExplanation rows certificates verdict (Judged j) = (verdict ≡ Yes) × IsJudgedSo rows certificates j
IsExplanation rows certificates verdict (Objection k p row decided) =
    (verdict ≡ No (Some k) (Some decided) why.Cause) × HasDecided rows decided k true
    × (cause : Cause) × IsFirstRow (is_unwilling k) rows row (event.Unwilling p k cause)
IsExplanation rows certificates verdict (NoObjection k decided) =
    (verdict ≡ No (Some k) (Some decided) why.Cause) × HasDecided rows decided k false × HasNoRow (is_unwilling k) rows
IsExplanation rows certificates verdict (Compared c) = IsNoOf verdict c.inst × IsCompared rows certificates c
IsExplanation rows certificates verdict (Unlinked k p joined) =
    ((j : ℕ) × IsNoOf verdict j) × HasNoChain rows k p × IsLastNumber (is_join p k) rows joined
IsExplanation rows certificates verdict (Orphan k orphan) =
    (n : ℕ) × (verdict ≡ No (Some k) (Some (n + 1)) why.Orphan)
    × (c : Certificate) × IsItsFirst certificates k c × IsOrphanTold (take n rows) k c.kind orphan
IsExplanation rows certificates verdict (BadLog b) =
    (place : ℕ) × (row : Event) × (verdict ≡ No None (Some b.row) (why.BadLog b.rule)) × IsBadRow rows b place row
