-- Logs that are decided well: their certificates are fit and just.
use Rattle.std.proofs.Common.{◌≡◌, ℕ, ◌==◌, Bool, true, false, not, Some, List, take, refl, ap, ◌∙◌, arith}
use Rattle.std.specs.Prelude.{◌↔◌}
use Rattle.std.proofs.lemmas.Bool.Decides.{nat_tests}
use Rattle.kt_base.specs.declared.words.Kind.{Kind}
use Rattle.kt_base.specs.declared.words.Kind.TheVariants.{Checkpoint, Rollback}
use Rattle.kt_base.specs.declared.words.Cause.{Cause}
use Rattle.kt_spacetime.specs.declared.event.Event.{Event}
use Rattle.kt_spacetime.specs.declared.event.Event.TheVariants.{Sent, Received, Dropped, Began, Took, Ready, Unwilling, Decided, Closed, Failed, Refused}
use Rattle.kt_meaning.specs.Past.{Past, past, kind_of, is_checkpoint_kind, is_rollback_kind}
use Rattle.kt_meaning.specs.Chains.{members}
use Rattle.kt_meaning.proofs.Lists.{any_at, any_from}
use Rattle.kt_meaning.specs.Unwilling.{is_unwilling, has_unwilling}
use Rattle.kt_meaning.proofs.Answering.{no_broken}
use Rattle.kt_meaning.specs.Fitness.{HasNoChain, IsUnlinked, IsFaultOf, IsFitLog}
use Rattle.kt_meaning.specs.Just.{IsJust}
use Rattle.kt_spacetime.specs.declared.unfit.CertFault.{CertFault}
use Rattle.kt_spacetime.specs.declared.unfit.CertFault.TheVariants.{BadLog, NoChain, Memory}
use Rattle.kt_meaning.proofs.ChainLinks.{not_linked}
use Rattle.kt_meaning.specs.Decided.{HasLinkedDecisions, HasUnwilling}
use Rattle.kt_meaning.specs.Promised.{IsPromised}
use Rattle.kt_meaning.specs.DecidedWell.{IsDecidedWell}

-- no member of a committed instance lacks a chain
pub not_without_chain : (log : List Event) (k p : ℕ) → HasLinkedDecisions log → HasNoChain log k p → ⊥
not_without_chain log k p h lacks = by_kind lacks.kind lacks.of_kind lacks.unlinked
  where
    s : Past
    s = past (take lacks.row log)

    joined : List ℕ
    joined = members (take lacks.row log) k

    by_kind : (kind : Kind) → kind_of s k ≡ Some kind → IsUnlinked s k kind joined lacks.place p → ⊥
    by_kind Checkpoint is unlinked =
        let link = (h lacks.row lacks.decider k true lacks.decided).checkpoint (ap is_checkpoint_kind is) lacks.place p lacks.member lacks.other in
        not_linked s k Checkpoint p link.other link.msg (unlinked link.earlier link.other link.msg link.before link.there) (p, link.links, refl)
    by_kind Rollback is unlinked =
        let link = (h lacks.row lacks.decider k true lacks.decided).rollback (ap is_rollback_kind is) lacks.place p lacks.member lacks.other in
        not_linked s k Rollback p link.other link.msg (unlinked link.earlier link.other link.msg link.before link.there) (p, link.links, refl)

-- an unwilling row
unwilling_row : (k : ℕ) (row : Event) → is_unwilling k row ≡ true → (p : ℕ) × (cause : Cause) × (row ≡ Unwilling p k cause)
unwilling_row k (Unwilling p j cause) e =
    let same : j ≡ k = grind (arith, nat_tests, e) in
    (p, cause, (λ i. Unwilling p (same i) cause))
unwilling_row k (Sent p to body) e = absurd (cc)
unwilling_row k (Received p from msg) e = absurd (cc)
unwilling_row k (Dropped p from msg) e = absurd (cc)
unwilling_row k (Began p j kind) e = absurd (cc)
unwilling_row k (Took p j) e = absurd (cc)
unwilling_row k (Ready p j) e = absurd (cc)
unwilling_row k (Decided p j commit) e = absurd (cc)
unwilling_row k (Closed p j) e = absurd (cc)
unwilling_row k (Failed p) e = absurd (cc)
unwilling_row k (Refused p verb cause) e = absurd (cc)

unwilling_found : (log : List Event) (k : ℕ) → has_unwilling log k ≡ true → HasUnwilling log k
unwilling_found log k e =
    let found = any_at (is_unwilling k) log e in
    let row = unwilling_row k found.1 found.3 in
    (found.0, row.0, row.1, found.2 ∙ ap Some row.2)

is_found : (log : List Event) (k : ℕ) → HasUnwilling log k → has_unwilling log k ≡ true
is_found log k h =
    let same : (k == k) ≡ true = grind (arith, nat_tests) in
    any_from (is_unwilling k) log h.0 (Unwilling h.1 k h.2) h.3 same

unwilling_not : (log : List Event) (k : ℕ) (commit : Bool) → (commit ≡ false) ↔ HasUnwilling log k → has_unwilling log k ≡ not commit
unwilling_not log k false h = is_found log k (h.0 refl)
unwilling_not log k true h = from (has_unwilling log k) refl
  where
    clash : true ≡ false → ⊥
    clash x = cc

    from : (b : Bool) → has_unwilling log k ≡ b → has_unwilling log k ≡ false
    from false e = e
    from true e = absurd (clash (h.1 (unwilling_found log k e)))

-- so it has certificates but for want of memory, and they pass
pub fit_of : (log : List Event) → IsDecidedWell log → IsFitLog log
fit_of log h = record { legal = h.legal; chained = λ k p. not_without_chain log k p h.linked }

pub just_of : (log : List Event) → IsDecidedWell log → IsJust log
just_of log h = record { consistent = h.consistent; causes = λ n p k commit e. unwilling_not log k commit (h.aborts n p k commit e) }

pub only_memory : (log : List Event) (f : CertFault) → IsDecidedWell log → IsFaultOf log f → f ≡ Memory
only_memory log (BadLog n rule) h is = absurd (no_broken log n rule h.legal is)
only_memory log (NoChain k p) h is = absurd (not_without_chain log k p h.linked is)
only_memory log Memory h is = refl

-- and so is one of which all is so that is promised: the cut of a least set is consistent, and so is each that a committed
-- decision leaves
pub promised_well : (log : List Event) → IsPromised log → IsDecidedWell log
promised_well log h = record {
  legal = h.legal;
  consistent = λ n p k e. let least = h.least_decisions n p k e in record {
    checkpoint = λ c. (least.checkpoint c).consistent;
    rollback = λ r. (least.rollback r).consistent;
  };
  linked = h.linked_decisions;
  aborts = h.aborts;
}
