-- What certificates that all pass say of a log.
use Rattle.std.proofs.Common.{◌≡◌, ℕ, ◌<◌, not, Bool, true, false, Option, Some, option_map, List, map, take, refl, sym, ap, ◌∙◌, subst}
use Rattle.std.specs.List.{slice_get, Contains}
use Rattle.std.proofs.lemmas.List.{length-map}
use Rattle.std.proofs.lemmas.Option.{slice_get_within, slice_get-map, slice_get-get_or}
use Rattle.kt_base.specs.declared.words.Kind.{Kind}
use Rattle.kt_base.specs.declared.words.Kind.TheVariants.{Checkpoint, Rollback}
use Rattle.kt_spacetime.specs.declared.event.Event.{Event}
use Rattle.kt_spacetime.specs.declared.event.Event.TheVariants as event
use Rattle.kt_meaning.specs.Past.{Past, past, kind_of, initiator_of, is_member, is_checkpoint, is_rollback, is_checkpoint_kind, is_rollback_kind}
use Rattle.kt_meaning.specs.Legal.{IsLegal}
use Rattle.kt_meaning.specs.Cuts.{IsConsistent}
use Rattle.kt_meaning.specs.Chains.{members}
use Rattle.kt_meaning.specs.Least.{IsLeastCheckpointSet, IsLeastRollbackSet}
use Rattle.kt_meaning.specs.Throughout.{HasConsistentDecisions}
use Rattle.kt_meaning.proofs.Items.{item_there, some_same}
use Rattle.kt_meaning.proofs.Members.{contains_member}
use Rattle.kt_meaning.proofs.Consistency.{consistent}
use Rattle.kt_meaning.proofs.Leastness.{least_checkpoint_by_chains, least_rollback_by_chains}
use Rattle.kt_spacetime.specs.declared.certificate.Certificate.{Certificate}
use Rattle.kt_meaning.specs.Unwilling.{has_unwilling}
use Rattle.kt_meaning.specs.Passing.{Passes, IsPassed, IsListOf, IsChain, decided_cut}
use Rattle.kt_meaning.proofs.Deciding.{decided_once, members_before}

-- of a decided row, its certificate passes at this row
record IsCertified (rows : List Event) (n k : ℕ) (commit : Bool) : Type 0 where
  certificate : Certificate
  kind : kind_of (past (take n rows)) k ≡ Some certificate.kind
  initiator : initiator_of (past (take n rows)) k ≡ Some certificate.initiator
  cause : has_unwilling rows k ≡ not commit
  members : commit ≡ true → map (λ m. m.0) certificate.members ≡ members rows k
  lists : commit ≡ true → (i p : ℕ) (chain : List ℕ) → slice_get certificate.members i ≡ Some (p, chain) → IsListOf (past (take n rows)) k certificate.kind certificate.initiator p chain
  consistent : commit ≡ true → IsConsistent (past (take n rows)) (decided_cut (past (take n rows)) k certificate.kind)

certified : (rows : List Event) (certificates : List Certificate) (n p k : ℕ) (commit : Bool) → IsPassed rows certificates → slice_get rows n ≡ Some (event.Decided p k commit) → IsCertified rows n k commit
certified rows certificates n p k commit h e =
    let found = h.complete n p k commit e in
    of_same n k commit found.1 (h.pass found.0 found.1 (slice_get_within certificates found.0 found.1 found.2) found.2).0 found.3 e
  where
    of_same : (n k : ℕ) (commit : Bool) (c : Certificate) → Passes rows c → c.inst ≡ k → slice_get rows n ≡ Some (event.Decided p k commit) → IsCertified rows n k commit
    of_same n k commit c x inst e =
        let row : x.row ≡ n = decided_once rows x.row n x.instance.process p c.inst c.commit commit h.legal x.instance.decided (subst (λ (j : ℕ). slice_get rows n ≡ Some (event.Decided p j commit)) (sym inst) e) in
        let same : event.Decided x.instance.process c.inst c.commit ≡ event.Decided p k commit = some_same (sym x.instance.decided ∙ (ap (slice_get rows) row ∙ e)) in
        let verdict : c.commit ≡ commit = cc in
        record {
          certificate = c;
          kind = (λ i. kind_of (past (take (sym row i) rows)) (sym inst i)) ∙ x.instance.kind;
          initiator = (λ i. initiator_of (past (take (sym row i) rows)) (sym inst i)) ∙ x.instance.initiator;
          cause = ap (has_unwilling rows) (sym inst) ∙ (x.cause ∙ ap not verdict);
          members = λ yes_commit. (x.shown (verdict ∙ yes_commit)).members ∙ ap (members rows) inst;
          lists = λ yes_commit i q chain at. subst (λ (t : Past). IsListOf t k c.kind c.initiator q chain) (ap (λ (m : ℕ). past (take m rows)) row)
              (subst (λ (j : ℕ). IsListOf (past (take x.row rows)) j c.kind c.initiator q chain) inst ((x.shown (verdict ∙ yes_commit)).lists i q chain at));
          consistent = λ yes_commit. subst (λ (t : Past). IsConsistent t (decided_cut t k c.kind)) (ap (λ (m : ℕ). past (take m rows)) row)
              (subst (λ (j : ℕ). IsConsistent (past (take x.row rows)) (decided_cut (past (take x.row rows)) j c.kind)) inst ((x.shown (verdict ∙ yes_commit)).consistent));
        }

pub aborts : (rows : List Event) (certificates : List Certificate) → IsPassed rows certificates → (n p k : ℕ) (commit : Bool) → slice_get rows n ≡ Some (event.Decided p k commit) → has_unwilling rows k ≡ not commit
aborts rows certificates h n p k commit e = (certified rows certificates n p k commit h e).cause

-- a member of a committed instance is listed
listed : (rows : List Event) (n p k : ℕ) (commit : Bool) (ms : List (ℕ × List ℕ)) (q : ℕ) → IsLegal rows → slice_get rows n ≡ Some (event.Decided p k commit) → map (λ m. m.0) ms ≡ members rows k
    → is_member (past (take n rows)) k q ≡ true → (i : ℕ) × (chain : List ℕ) × (slice_get ms i ≡ Some (q, chain))
listed rows n p k commit ms q l e same member =
    let joined = contains_member (take n rows) k q member in
    let in_all : Contains (map (λ m. m.0) ms) q = subst (λ (t : List ℕ). Contains t q) (sym (members_before rows n p k commit l e) ∙ sym same) joined in
    let there = item_there ms in_all.0 (subst (λ (m : ℕ). in_all.0 < m) (length-map ms (λ m. m.0)) in_all.1) in
    let first : slice_get (map (λ m. m.0) ms) in_all.0 ≡ Some there.0.0 = slice_get-map (λ m. m.0) ms in_all.0 ∙ ap (option_map (λ m. m.0)) there.1 in
    let is_q : there.0.0 ≡ q = some_same (sym first ∙ (slice_get-get_or (map (λ m. m.0) ms) in_all.0 q in_all.1 ∙ ap Some in_all.2)) in
    (in_all.0, there.0.1, there.1 ∙ ap (λ (x : ℕ). Some (x, there.0.1)) is_q)

pub checkpoint_kind : (o : Option Kind) (kind : Kind) → o ≡ Some kind → is_checkpoint_kind o ≡ true → kind ≡ Checkpoint
checkpoint_kind o Checkpoint e h = refl
checkpoint_kind o Rollback e h =
    let never : false ≡ true = sym (ap is_checkpoint_kind e) ∙ h in
    absurd (cc)

pub rollback_kind : (o : Option Kind) (kind : Kind) → o ≡ Some kind → is_rollback_kind o ≡ true → kind ≡ Rollback
rollback_kind o Rollback e h = refl
rollback_kind o Checkpoint e h =
    let never : false ≡ true = sym (ap is_rollback_kind e) ∙ h in
    absurd (cc)

pub checkpoints_least : (rows : List Event) (certificates : List Certificate) → IsPassed rows certificates → (n p k : ℕ) → slice_get rows n ≡ Some (event.Decided p k true) → is_checkpoint (past (take n rows)) k ≡ true
    → IsLeastCheckpointSet (past (take n rows)) k
checkpoints_least rows certificates h n p k e kind =
    let c = certified rows certificates n p k true h e in
    let of_kind = checkpoint_kind (kind_of (past (take n rows)) k) c.certificate.kind c.kind kind in
    let consistent = subst (λ (x : Kind). IsConsistent (past (take n rows)) (decided_cut (past (take n rows)) k x)) of_kind (c.consistent refl) in
    least_checkpoint_by_chains (take n rows) k c.certificate.initiator c.initiator consistent (λ q member other.
    let there = listed rows n p k true c.certificate.members q h.legal e (c.members refl) member in
    (there.1, subst (λ (x : Kind). IsChain (past (take n rows)) k x c.certificate.initiator there.1 q) of_kind ((c.lists refl there.0 q there.1 there.2).leads other)))

pub rollbacks_least : (rows : List Event) (certificates : List Certificate) → IsPassed rows certificates → (n p k : ℕ) → slice_get rows n ≡ Some (event.Decided p k true) → is_rollback (past (take n rows)) k ≡ true
    → IsLeastRollbackSet (past (take n rows)) k
rollbacks_least rows certificates h n p k e kind =
    let c = certified rows certificates n p k true h e in
    let of_kind = rollback_kind (kind_of (past (take n rows)) k) c.certificate.kind c.kind kind in
    let consistent = subst (λ (x : Kind). IsConsistent (past (take n rows)) (decided_cut (past (take n rows)) k x)) of_kind (c.consistent refl) in
    least_rollback_by_chains (take n rows) k c.certificate.initiator c.initiator consistent (λ q member other.
    let there = listed rows n p k true c.certificate.members q h.legal e (c.members refl) member in
    (there.1, subst (λ (x : Kind). IsChain (past (take n rows)) k x c.certificate.initiator there.1 q) of_kind ((c.lists refl there.0 q there.1 there.2).leads other)))

pub decisions_consistent : (rows : List Event) (certificates : List Certificate) → IsPassed rows certificates → HasConsistentDecisions rows
decisions_consistent rows certificates h = λ n p k e. record {
  checkpoint = λ kind. (checkpoints_least rows certificates h n p k e kind).consistent;
  rollback = λ kind. (rollbacks_least rows certificates h n p k e kind).consistent;
}
