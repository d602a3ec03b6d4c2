-- Certificates that differ in nothing from those that the log means pass.
use Rattle.std.proofs.Common.{◌≡◌, ◌∙◌, ◌+◌, ◌<◌, ◌≤◌, arith, ℕ, Bool, true, false, Option, Some, None, List, map, length, take, refl, sym, ap, subst, inl, inr}
use Rattle.std.specs.List.{slice_get}
use Rattle.std.specs.Prelude.{IfNone, IfSome}
use Rattle.kt_meaning.proofs.Items.{some_same}
use Rattle.std.proofs.lemmas.Bool.{cases_order}
use Rattle.std.proofs.lemmas.Option.{slice_get_within}
use Rattle.kt_spacetime.specs.declared.event.Event.{Event}
use Rattle.kt_spacetime.specs.declared.event.Event.TheVariants.{Decided}
use Rattle.kt_spacetime.specs.declared.rules.Rule.{Rule}
use Rattle.kt_meaning.specs.Past.{past, kind_of, initiator_of}
use Rattle.kt_meaning.specs.Legal.{IsLegal}
use Rattle.kt_meaning.specs.Chains.{members}
use Rattle.kt_spacetime.specs.declared.certificate.Certificate.{Certificate}
use Rattle.kt_meaning.specs.Certificates.{certificates}
use Rattle.kt_meaning.specs.Fitness.{HasNoChain}
use Rattle.kt_spacetime.specs.declared.verdict.Verdict.TheVariants.{No}
use Rattle.kt_spacetime.specs.declared.verdict.Why.{Why}
use Rattle.kt_spacetime.specs.declared.verdict.Why.TheVariants as why
use Rattle.kt_meaning.specs.Answers.{IsCheckerAnswer}
use Rattle.kt_meaning.specs.Passing.{AreComplete, HasLists, IsAsInLog, IsSecond}
use Rattle.kt_explain.specs.Compared.{AreAlike, AreSame, IsAlone, IsFirstAt, IsSecondAt, IsOfCertificate, asks_all, asks_chains, certificate_at}
use Rattle.kt_explain.specs.Told.{IsItsFirst}
use Rattle.kt_explain.proofs.SameLists.{members_equal, processes_equal}
use Rattle.kt_explain.proofs.Faults.{certificate_fault, missing_fault, none_some, one_first, unknown_fault}

-- a reason that is neither of these is about a certificate
pub of_others : (reason : Why) → (reason ≡ why.Cause → ⊥) → (reason ≡ why.Orphan → ⊥) → ((rule : Rule) → reason ≡ why.BadLog rule → ⊥) → IsOfCertificate reason
of_others why.Unknown cause orphan bad = tt
of_others why.Members cause orphan bad = tt
of_others why.Chain cause orphan bad = tt
of_others why.Missing cause orphan bad = tt
of_others (why.BadLog rule) cause orphan bad = bad rule refl
of_others why.Cause cause orphan bad = cause refl
of_others why.Orphan cause orphan bad = orphan refl

-- where the first certificate of an instance stands
pub first_found : (list : List Certificate) (k : ℕ) (o : Option ℕ) → IfSome o (λ place. (c : Certificate) × (slice_get list place ≡ Some c) × (c.inst ≡ k))
    → IfSome o (λ place. (n : ℕ) (c : Certificate) → 0 ≤ n → n < place → slice_get list n ≡ Some c → c.inst ≡ k → ⊥)
    → IfNone o ((n : ℕ) (c : Certificate) → 0 ≤ n → slice_get list n ≡ Some c → c.inst ≡ k → ⊥) → IsFirstAt list k o
first_found list k None found first none = λ i c low there inst. none i c (omega arith) there inst
first_found list k (Some i) found first none =
    (found.0, found.1, found.2, slice_get_within list i found.0 found.1, λ second. first second.0 second.1 (omega arith) second.2 second.3 (second.4 ∙ found.2))

pub first_within : (list : List Certificate) (k : ℕ) (o : Option ℕ) → IsFirstAt list k o → IfSome o (λ i. i < length list)
first_within list k None h = tt
first_within list k (Some i) h = h.3

-- and a second one
pub second_found : (list : List Certificate) (k i : ℕ) (o : Option ℕ) → IfSome o (λ place. (c : Certificate) × (slice_get list place ≡ Some c) × (c.inst ≡ k)) → IfSome o (λ place. i + 1 ≤ place) → IfSome o (IsSecondAt list k (Some i))
second_found list k i None found after = tt
second_found list k i (Some n) found after = record { before = i; first_is = refl; after = omega (arith, after); certificate = found.0; there = found.1; of_instance = found.2 }

pub second_lacks : (list : List Certificate) (k i : ℕ) (o : Option ℕ) → IfNone o ((n : ℕ) (c : Certificate) → i + 1 ≤ n → slice_get list n ≡ Some c → c.inst ≡ k → ⊥) → IfNone o (IsAlone list k (Some i))
second_lacks list k i (Some n) none = tt
second_lacks list k i None none = λ before n c e after there inst. let same : i ≡ before = some_same e in none n c (omega (arith, same, after)) there inst

pub none_alone : (list : List Certificate) (k : ℕ) → IsAlone list k None
none_alone list k = λ before n c e after there inst. none_some before e

-- the laws of the certificates of a log
pub record Laws : Type 0 where
  pub complete : (log : List Event) → IsLegal log → AreComplete log (certificates log)
  pub stated : (log : List Event) (i : ℕ) (c : Certificate) → slice_get (certificates log) i ≡ Some c → (n : ℕ) × IsAsInLog log c n
  pub listed : (log : List Event) (i n : ℕ) (c : Certificate) → IsLegal log → slice_get (certificates log) i ≡ Some c → IsAsInLog log c n → c.commit ≡ true → map (λ m. m.0) c.members ≡ members log c.inst
  pub chains : (log : List Event) (i n : ℕ) (c : Certificate) → IsLegal log → ((k p : ℕ) → HasNoChain log k p → ⊥) → slice_get (certificates log) i ≡ Some c → IsAsInLog log c n → c.commit ≡ true
      → HasLists (past (take n log)) c

-- the certificate that a log means of an instance, which is the same as one of a list
record Twin (rows : List Event) (k : ℕ) (all chains : Bool) (c : Certificate) : Type 0 where
  pub place : ℕ
  pub twin : Certificate
  pub there : slice_get (certificates rows) place ≡ Some twin
  pub of_instance : twin.inst ≡ k
  pub same : AreSame all chains c twin

twin_of : (rows : List Event) (list : List Certificate) (k : ℕ) (all chains : Bool) (has means : Option ℕ) (c : Certificate) → IsItsFirst list k c → IsFirstAt list k has → IsFirstAt (certificates rows) k means
    → AreAlike all chains (certificate_at list has) (certificate_at (certificates rows) means) → Twin rows k all chains c
twin_of rows list k all chains None means c first none meant alike = absurd (none first.0 c (slice_get_within list first.0 c first.1) first.1 first.2)
twin_of rows list k all chains (Some i) None c first has meant alike = absurd (subst (λ (o : Option Certificate). AreAlike all chains o None) has.1 alike)
twin_of rows list k all chains (Some i) (Some j) c first has meant alike =
    let both = subst (λ (o : Option Certificate). AreAlike all chains o (Some meant.0)) has.1 (subst (λ (o : Option Certificate). AreAlike all chains (slice_get list i) o) meant.1 alike) in
    record {
      place = j;
      twin = meant.0;
      there = meant.1;
      of_instance = meant.2;
      same = subst (λ (x : Certificate). AreSame all chains x meant.0) (one_first list k has.0 c (i, has.1, has.2, has.4) first) both;
    }

-- it is as the log has it
as_stated : (rows : List Event) (k : ℕ) (all : Bool) (c : Certificate) → Laws → c.inst ≡ k → Twin rows k all true c → (n : ℕ) × IsAsInLog rows c n
as_stated rows k all c laws inst t =
    let s = laws.stated rows t.place t.twin t.there in
    let e : t.twin.inst ≡ c.inst = t.of_instance ∙ sym inst in (
      s.0,
      record {
        process = s.1.process;
        decided = s.1.decided ∙ (λ i. Some (Decided s.1.process (e i) (sym t.same.head.2 i)));
        kind = ap (kind_of (past (take s.0 rows))) (sym e) ∙ (s.1.kind ∙ (λ i. Some (sym t.same.head.0 i)));
        initiator = ap (initiator_of (past (take s.0 rows))) (sym e) ∙ (s.1.initiator ∙ (λ i. Some (sym t.same.head.1 i)));
        no_members = λ aborted. members_equal c.members t.twin.members (t.same.aborted aborted) ∙ s.1.no_members (sym t.same.head.2 ∙ aborted);
      },
    )

same_certificate : (c d : Certificate) → c.inst ≡ d.inst → AreSame true true c d → c ≡ d
same_certificate c d inst h = let all : c.members ≡ d.members = members_equal c.members d.members (h.members refl) in λ i. record {
  inst = inst i;
  kind = h.head.0 i;
  initiator = h.head.1 i;
  commit = h.head.2 i;
  members = all i;
}

module _ (rows : List Event) (list : List Certificate) (k : ℕ) (row : Option ℕ) (has means : Option ℕ) (laws : Laws) (chained : (j p : ℕ) → HasNoChain rows j p → ⊥) (first : IsFirstAt list k has) (meant : IsFirstAt (certificates rows) k means) where
  not_members : IsCheckerAnswer rows list (No (Some k) row why.Members) → AreAlike true false (certificate_at list has) (certificate_at (certificates rows) means) → ⊥
  not_members a alike =
      let h = certificate_fault rows list k row why.Members (λ e. cc) (λ e. cc) a in
      let t = twin_of rows list k true false has means h.certificate h.first first meant alike in
      let s = laws.stated rows t.place t.twin t.there in
      h.wrong.2 (processes_equal h.certificate.members t.twin.members (t.same.members refl) ∙ (laws.listed rows t.place s.0 t.twin h.legal t.there s.1 (sym t.same.head.2 ∙ h.wrong.1) ∙ ap (members rows) (t.of_instance ∙ h.of_instance)))

  not_chain : IsCheckerAnswer rows list (No (Some k) row why.Chain) → AreAlike true true (certificate_at list has) (certificate_at (certificates rows) means) → ⊥
  not_chain a alike =
      let h = certificate_fault rows list k row why.Chain (λ e. cc) (λ e. cc) a in
      let t = twin_of rows list k true true has means h.certificate h.first first meant alike in
      let one : h.certificate ≡ t.twin = same_certificate h.certificate t.twin (sym h.of_instance ∙ sym t.of_instance) t.same in
      h.wrong.3 (subst (HasLists (past (take h.place rows))) (sym one)
      (laws.chains rows t.place h.place t.twin h.legal chained t.there (subst (λ (c : Certificate). IsAsInLog rows c h.place) one h.in_log) (sym t.same.head.2 ∙ h.wrong.1)))

  not_unknown : IsCheckerAnswer rows list (No (Some k) row why.Unknown) → AreAlike false true (certificate_at list has) (certificate_at (certificates rows) means)
      → IsAlone list k has → ⊥
  not_unknown a alike alone =
      let h = unknown_fault rows list k row a in
      let n = h.1 in
      let c = h.2 in
      let never : IsSecond list n c → ⊥ = no_second has first n c h.3 h.4 alone in
      let s = as_stated rows k false c laws h.4 (twin_of rows list k false true has means c (n, h.3, h.4, never) first meant alike) in
      h.5 s.0 s.1 never
    where
      no_second : (place : Option ℕ) → IsFirstAt list k place → (n : ℕ) (c : Certificate) → slice_get list n ≡ Some c → c.inst ≡ k
          → IsAlone list k place → IsSecond list n c → ⊥
      no_second None none n c there inst later second = none n c (slice_get_within list n c there) there inst
      no_second (Some i) at n c there inst later second = elim (cases_order n i) [
        | inl same ↦ at.4 (second.0, second.1, subst (λ (m : ℕ). second.0 < m) same second.2, second.3, second.4 ∙ (inst ∙ sym at.2))
        | inr other ↦ elim other [
          | inl before ↦ at.4 (n, c, before, there, inst ∙ sym at.2)
          | inr after ↦ later i n c refl after there inst
        ]
      ]

  not_missing : IsCheckerAnswer rows list (No (Some k) row why.Missing) → AreAlike true true (certificate_at list has) (certificate_at (certificates rows) means) → ⊥
  not_missing a alike =
      let h = missing_fault rows list k row a in
      let c = laws.complete rows h.0 h.1 h.2 k h.3 h.4 in
      by_place has first means meant alike c h.5
    where
      by_place : (p : Option ℕ) → IsFirstAt list k p → (q : Option ℕ) → IsFirstAt (certificates rows) k q → AreAlike true true (certificate_at list p) (certificate_at (certificates rows) q)
          → ((i : ℕ) × (c : Certificate) × (slice_get (certificates rows) i ≡ Some c) × (c.inst ≡ k)) → (((i : ℕ) × (c : Certificate) × (slice_get list i ≡ Some c) × (c.inst ≡ k)) → ⊥) → ⊥
      by_place (Some i) at q meant' both there none = none (i, at.0, at.1, at.2)
      by_place None at None meant' both there none = meant' there.0 there.1 (slice_get_within (certificates rows) there.0 there.1 there.2) there.2 there.3
      by_place None at (Some j) meant' both there none = subst (λ (o : Option Certificate). AreAlike true true None o) meant'.1 both

  -- so something is told of each no for a certificate
  pub nothing_alike : (reason : Why) → IsOfCertificate reason → IsCheckerAnswer rows list (No (Some k) row reason) → AreAlike (asks_all reason) (asks_chains reason) (certificate_at list has) (certificate_at (certificates rows) means)
      → IsAlone list k has → ⊥
  nothing_alike why.Unknown of_certificate a alike alone = not_unknown a alike alone
  nothing_alike why.Members of_certificate a alike alone = not_members a alike
  nothing_alike why.Chain of_certificate a alike alone = not_chain a alike
  nothing_alike why.Missing of_certificate a alike alone = not_missing a alike
  nothing_alike (why.BadLog rule) of_certificate a alike alone = of_certificate
  nothing_alike why.Cause of_certificate a alike alone = of_certificate
  nothing_alike why.Orphan of_certificate a alike alone = of_certificate
