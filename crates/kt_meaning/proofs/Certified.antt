-- Each certificate is of a decision, and each decision of a legal log has one.
use Rattle.std.proofs.Common.{◌≡◌, ℕ, zero, suc, ◌<◌, ◌≤◌, if◌then◌else◌, Bool, true, false, Option, Some, None, option_map, List, [], length, map, take, drop, refl, sym, ap, subst, ◌∙◌, arith}
use Rattle.std.specs.Prelude.{fold}
use Rattle.std.specs.List.{slice_get}
use Rattle.std.proofs.lemmas.Grind.{fold-append}
use Rattle.std.proofs.lemmas.List.{take-append-drop}
use Rattle.std.proofs.lemmas.Option.{slice_get_within}
use Rattle.kt_base.specs.declared.words.Kind.{Kind}
use Rattle.kt_base.specs.declared.words.Kind.TheVariants.{Checkpoint, Rollback}
use Rattle.kt_spacetime.specs.declared.event.Event.{Event}
use Rattle.kt_spacetime.specs.declared.event.Event.TheVariants.{Decided}
use Rattle.kt_meaning.specs.Past.{Past, Beginning, past, start, after, beginning_of, initiator_of}
use Rattle.kt_meaning.specs.Legal.{IsLegal}
use Rattle.kt_meaning.specs.Chains.{members, IsCheckpointChain, IsRollbackChain}
use Rattle.kt_meaning.proofs.LegalLogs.{past_induction, next_unbroken}
use Rattle.kt_meaning.proofs.Positions.{begun_kept}
use Rattle.kt_meaning.proofs.RowRules.{may_decide}
use Rattle.kt_meaning.proofs.Items.{some_same}
use Rattle.kt_spacetime.specs.declared.certificate.Certificate.{Certificate}
use Rattle.kt_meaning.specs.Passing.{IsChain}
use Rattle.kt_meaning.specs.Linking.{chained}
use Rattle.kt_meaning.specs.Certificates.{certified, decision_in, certificate_of, certificates}
use Rattle.kt_meaning.specs.Decisions.{IsOfDecision}
use Rattle.kt_meaning.specs.Fitness.{HasNoChain}
use Rattle.kt_meaning.proofs.Chained.{process, processes_are}
use Rattle.kt_meaning.proofs.Decisions.{certified_by, IsCertificate, certificate_is}
use Rattle.kt_meaning.proofs.Pushed.{decision_known}
use Rattle.kt_meaning.proofs.Listed.{item_is, item_of, items_rise}
use Rattle.kt_meaning.proofs.Unlinked.{kind_known, initiator_known}
use Rattle.kt_meaning.proofs.Leading.{all_led}

-- what is made of the rows before a decision
of_made : (log : List Event) (n p k : ℕ) (commit : Bool) (b : Beginning) → slice_get log n ≡ Some (Decided p k commit) → beginning_of (past (take n log)) k ≡ Some b
    → IsOfDecision log n (certified (past (take n log)) (members (take n log) k) k commit b)
of_made log n p k commit b decided began = record {
  process = p;
  decided = decided;
  kind = kind_known (past (take n log)) k b began;
  initiator = initiator_known (past (take n log)) k b began;
  listed = λ committed. ap (λ (t : Bool). map process (if t then chained (past (take n log)) k b.kind b.initiator (members (take n log) k) else [])) committed
      ∙ processes_are (past (take n log)) k b.kind b.initiator (members (take n log) k);
  no_members = λ abort. ap (λ (t : Bool). if t then chained (past (take n log)) k b.kind b.initiator (members (take n log) k) else []) abort;
}

pub each_of : (log : List Event) (i : ℕ) (c : Certificate) → slice_get (certificates log) i ≡ Some c → (n : ℕ) × IsOfDecision log n c
each_of log i c e =
    let number = item_is (certificate_of log) (length (past log).begun) i c e in
    let is = certificate_is log number.0 c number.3 in
    (is.row, subst (IsOfDecision log is.row) is.made (of_made log is.row is.decider number.0 is.commit is.beginning is.decided is.began))

-- how a decided instance began is known just before, and from then on
known_by : (s : Past) (k p : ℕ) → initiator_of s k ≡ Some p → (b : Beginning) × (beginning_of s k ≡ Some b)
known_by s k p e = from (beginning_of s k) refl e
  where
    from : (o : Option Beginning) → beginning_of s k ≡ o → option_map (λ b. b.initiator) o ≡ Some p → (b : Beginning) × (beginning_of s k ≡ Some b)
    from None f e = absurd (cc)
    from (Some b) f e = (b, f)

begun_before : (log : List Event) (n p k : ℕ) (commit : Bool) → IsLegal log → slice_get log n ≡ Some (Decided p k commit) → (b : Beginning) × (beginning_of (past (take n log)) k ≡ Some b)
begun_before log n p k commit l e =
    known_by (past (take n log)) k p (may_decide (past (take n log)) p k commit (next_unbroken log n (Decided p k commit) l e)).is_initiator

begun_later : (log : List Event) (n k : ℕ) (b : Beginning) → beginning_of (past (take n log)) k ≡ Some b → beginning_of (past log) k ≡ Some b
begun_later log n k b e =
    let whole : past log ≡ fold after (past (take n log)) (drop n log) = ap past (sym (take-append-drop n log)) ∙ fold-append after start (take n log) (drop n log) in
    subst (λ (s : Past). beginning_of s k ≡ Some b) (sym whole) (past_induction (λ t. beginning_of t k ≡ Some b) (λ t row h. begun_kept t row k b h) (past (take n log)) (drop n log) e)

within_begun : (s : Past) (k : ℕ) (b : Beginning) → beginning_of s k ≡ Some b → (1 ≤ k) × (k ≤ length s.begun)
within_begun s zero b e = absurd (cc)
within_begun s (suc k) b e = (omega arith, omega (arith, slice_get_within s.begun k b e))

pub complete : (log : List Event) (n p k : ℕ) (commit : Bool) → IsLegal log → slice_get log n ≡ Some (Decided p k commit)
    → (i : ℕ) × (c : Certificate) × (slice_get (certificates log) i ≡ Some c) × (c.inst ≡ k) × IsOfDecision log n c
complete log n p k commit l e =
    let b = begun_before log n p k commit l e in
    let is : certificate_of log k ≡ Some (certified (past (take n log)) (members (take n log) k) k commit b.0) =
    ap (certified_by log k) (decision_known k log l n p commit e) ∙ ap (option_map (certified (past (take n log)) (members (take n log) k) k commit)) b.1 in
    let number = within_begun (past log) k b.0 (begun_later log n k b.0 b.1) in
    let place = item_of (certificate_of log) (length (past log).begun) k (certified (past (take n log)) (members (take n log) k) k commit b.0) number.0 number.1 is in
    (place.0, certified (past (take n log)) (members (take n log) k) k commit b.0, place.1, refl, of_made log n p k commit b.0 e b.1)

instance_of : (log : List Event) (k : ℕ) (c : Certificate) → certificate_of log k ≡ Some c → c.inst ≡ k
instance_of log k c e = sym (ap (λ (x : Certificate). x.inst) (certificate_is log k c e).made)

pub rising : (log : List Event) (i j : ℕ) (c d : Certificate) → i < j → slice_get (certificates log) i ≡ Some c → slice_get (certificates log) j ≡ Some d → c.inst < d.inst
rising log i j c d low e f = items_rise (certificate_of log) (λ (x : Certificate). x.inst) (instance_of log) (length (past log).begun) i j c d low e f

-- where no member lacks a chain, each list leads to its member
led_made : (log : List Event) (n decider k : ℕ) (commit : Bool) (b : Beginning) (j p : ℕ) (chain : List ℕ) → slice_get log n ≡ Some (Decided decider k commit) → beginning_of (past (take n log)) k ≡ Some b → ((q : ℕ) → HasNoChain log k q → ⊥)
    → slice_get (if commit then chained (past (take n log)) k b.kind b.initiator (members (take n log) k) else []) j ≡ Some (p, chain) → IsChain (past (take n log)) k b.kind b.initiator chain p
led_made log n decider k true b j p chain decided began never at = (all_led log n decider k b decided began never).each j p chain at
led_made log n decider k false b j p chain decided began never at = absurd (cc)

led_at : (log : List Event) (k : ℕ) (c : Certificate) → (is : IsCertificate log k c) → ((q : ℕ) → HasNoChain log c.inst q → ⊥) → (j p : ℕ) (chain : List ℕ) → slice_get c.members j ≡ Some (p, chain)
    → IsChain (past (take (IsCertificate.row is) log)) c.inst c.kind c.initiator chain p
led_at log k c is =
    subst (λ (x : Certificate). ((q : ℕ) → HasNoChain log x.inst q → ⊥) → (j p : ℕ) (chain : List ℕ) → slice_get x.members j ≡ Some (p, chain) → IsChain (past (take is.row log)) x.inst x.kind x.initiator chain p) is.made
    (λ never j p chain at. led_made log is.row is.decider k is.commit is.beginning j p chain is.decided is.began never at)

pub led_list : (log : List Event) (i n j p : ℕ) (c : Certificate) (chain : List ℕ) → IsLegal log → ((q : ℕ) → HasNoChain log c.inst q → ⊥) → slice_get (certificates log) i ≡ Some c → IsOfDecision log n c
    → slice_get c.members j ≡ Some (p, chain) → IsChain (past (take n log)) c.inst c.kind c.initiator chain p
led_list log i n j p c chain l never e of at =
    let number = item_is (certificate_of log) (length (past log).begun) i c e in
    let is = certificate_is log number.0 c number.3 in
    let here = decision_known number.0 log l is.row is.decider is.commit is.decided in
    let there = decision_known c.inst log l n of.process c.commit of.decided in
    let inst : c.inst ≡ number.0 = instance_of log number.0 c number.3 in
    let same : is.row ≡ n = ap (λ (d : ℕ × Bool). d.0) (some_same (sym here ∙ (ap (λ (k : ℕ). decision_in k log) (sym inst) ∙ there))) in
    subst (λ (m : ℕ). IsChain (past (take m log)) c.inst c.kind c.initiator chain p) same (led_at log number.0 c is never j p chain at)

pub checkpoint_led : (log : List Event) (i n j p : ℕ) (c : Certificate) (chain : List ℕ) → IsLegal log → ((q : ℕ) → HasNoChain log c.inst q → ⊥) → slice_get (certificates log) i ≡ Some c → IsOfDecision log n c
    → slice_get c.members j ≡ Some (p, chain) → c.kind ≡ Checkpoint → IsCheckpointChain (past (take n log)) c.inst c.initiator chain p
checkpoint_led log i n j p c chain l never e of at kind =
    subst (λ (x : Kind). IsChain (past (take n log)) c.inst x c.initiator chain p) kind (led_list log i n j p c chain l never e of at)

pub rollback_led : (log : List Event) (i n j p : ℕ) (c : Certificate) (chain : List ℕ) → IsLegal log → ((q : ℕ) → HasNoChain log c.inst q → ⊥) → slice_get (certificates log) i ≡ Some c → IsOfDecision log n c
    → slice_get c.members j ≡ Some (p, chain) → c.kind ≡ Rollback → IsRollbackChain (past (take n log)) c.initiator chain p
rollback_led log i n j p c chain l never e of at kind =
    subst (λ (x : Kind). IsChain (past (take n log)) c.inst x c.initiator chain p) kind (led_list log i n j p c chain l never e of at)
