-- What marks of seen instances say of certificates.
use Rattle.std.proofs.Common.{◌≡◌, ℕ, zero, suc, ◌+◌, ◌<◌, ◌≤◌, Bool, true, Option, Some, None, List, length, refl, sym, ap, ◌∙◌, subst, arith, inl, inr}
use Rattle.std.specs.Prelude.{◌⊎◌, ◌↔◌, IsTrue}
use Rattle.std.specs.List.{slice_get}
use Rattle.std.proofs.lemmas.Bool.{cases_eq}
use Rattle.std.proofs.lemmas.Option.{slice_get_within}
use Rattle.kt_spacetime.specs.declared.event.Event.{Event}
use Rattle.kt_spacetime.specs.declared.event.Event.TheVariants as event
use Rattle.kt_rules.specs.Standing.{at_number}
use Rattle.kt_meaning.proofs.Items.{some_same}
use Rattle.kt_spacetime.specs.declared.certificate.Certificate.{Certificate}
use Rattle.kt_checker.specs.declared.decisions.Instance.{Instance}
use Rattle.kt_checker.specs.declared.decisions.Decision.{Decision}
use Rattle.kt_checker.specs.Gathered.{Gathered, IsDecision, decision_gathered}
use Rattle.kt_checker.specs.Missing.{AreSeenBefore}
use Rattle.kt_meaning.specs.Passing.{IsSecond, HasCertificate}

-- the decided row that was gathered of an instance
pub decided_row : {certs : List Certificate} (list : List Instance) (rows : List Event) (k : ℕ) (v : Instance) (d : Decision) → Gathered certs list rows → at_number list k ≡ Some v → v.decision ≡ Some d → IsDecision certs rows k (Some d)
decided_row {certs} list rows k v d h there decided = subst (IsDecision certs rows k) decided (subst (λ (o : Option Instance). IsDecision certs rows k (decision_gathered o)) there (h.decision k))

-- each mark is of an instance that one of the first certificates is of
abbrev pub IsMarkedBy : List Bool → List Certificate → ℕ → Type 0
IsMarkedBy seen certificates n = (k : ℕ) → slice_get seen k ≡ Some true → (i : ℕ) × (c : Certificate) × (i < n) × (slice_get certificates i ≡ Some c) × (c.inst ≡ k + 1)

-- the first certificates have marked their instances
abbrev pub HasMarked : List Bool → List Certificate → ℕ → Type 0
HasMarked seen certificates n = (i : ℕ) (c : Certificate) → i < n → slice_get certificates i ≡ Some c → at_number seen c.inst ≡ Some true

pub marked_next : (old new : List Bool) (certificates : List Certificate) (n : ℕ) (c : Certificate) → slice_get certificates n ≡ Some c → IsMarkedBy old certificates n
    → ((k : ℕ) → slice_get new k ≡ Some true → (slice_get old k ≡ Some true) ⊎ (c.inst ≡ k + 1)) → IsMarkedBy new certificates (n + 1)
marked_next old new certificates n c at was marked k e = elim (marked k e) [
  | inl before ↦
      let found = was k before in
      (found.0, found.1, omega (arith, found.2), found.3, found.4)
  | inr now ↦ (n, c, omega arith, at, now)
]

number_kept : (old new : List Bool) (k : ℕ) → ((j : ℕ) → slice_get old j ≡ Some true → slice_get new j ≡ Some true) → at_number old k ≡ Some true → at_number new k ≡ Some true
number_kept old new zero kept e =
    let never : None ≡ Some true = e in
    absurd (cc)
number_kept old new (suc k) kept e = kept k e

pub marks_next : (old new : List Bool) (certificates : List Certificate) (n : ℕ) (c : Certificate) → slice_get certificates n ≡ Some c → HasMarked old certificates n
    → ((k : ℕ) → slice_get old k ≡ Some true → slice_get new k ≡ Some true) → at_number new c.inst ≡ Some true → HasMarked new certificates (n + 1)
marks_next old new certificates n c at was kept marks i v low e = elim (cases_eq i n) [
  | inl same ↦
      let item : c ≡ v = some_same (sym at ∙ (ap (slice_get certificates) (sym same) ∙ e)) in
      subst (λ (x : Certificate). at_number new x.inst ≡ Some true) item marks
  | inr other ↦ number_kept old new v.inst kept (was i v (omega (arith, low, other)) e)
]

-- an instance is marked where an earlier certificate is of it
pub seen_second : (seen : List Bool) (certificates : List Certificate) (n : ℕ) (c : Certificate) (is_seen : Bool) → IsMarkedBy seen certificates n → HasMarked seen certificates n
    → (IsTrue is_seen ↔ (at_number seen c.inst ≡ Some true)) → (IsTrue is_seen ↔ IsSecond certificates n c)
seen_second seen certificates n c is_seen marked marks test = (
  λ t. back c.inst refl (test.0 t),
  λ second. test.1 (subst (λ (k : ℕ). at_number seen k ≡ Some true) second.4 (marks second.0 second.1 second.2 second.3)),
)
  where
    back : (k : ℕ) → k ≡ c.inst → at_number seen k ≡ Some true → IsSecond certificates n c
    back zero e h =
        let never : None ≡ Some true = h in
        absurd (cc)
    back (suc k) e h =
        let found = marked k h in
        (found.0, found.1, found.2, found.3, omega (arith, found.4, e))

-- where the decided instances are marked up to this number, each has a certificate
pub certificate_of : {certs : List Certificate} (list : List Instance) (rows : List Event) (seen : List Bool) (certificates : List Certificate) (n bound : ℕ) → Gathered certs list rows → AreSeenBefore list seen bound → IsMarkedBy seen certificates n
    → (m q j : ℕ) (commit : Bool) → ((k : ℕ) (v : Instance) → slice_get list k ≡ Some v → j ≡ suc k → k < bound) → slice_get rows m ≡ Some (event.Decided q j commit) → HasCertificate certificates j
certificate_of {certs} list rows seen certificates n bound h before marked m q j commit below e = of_instance j (at_number list j) refl below e
  where
    is_decided : (j : ℕ) (o : Option Decision) → IsDecision certs rows j o → slice_get rows m ≡ Some (event.Decided q j commit) → (d : Decision) × (o ≡ Some d)
    is_decided j None never e = absurd (never m q commit e)
    is_decided j (Some d) found e = (d, refl)

    of_instance : (j : ℕ) (o : Option Instance) → at_number list j ≡ o → ((k : ℕ) (v : Instance) → slice_get list k ≡ Some v → j ≡ suc k → k < bound) → slice_get rows m ≡ Some (event.Decided q j commit) → HasCertificate certificates j
    of_instance j None there below e = absurd (subst (λ (o : Option Instance). IsDecision certs rows j (decision_gathered o)) there (h.decision j) m q commit e)
    of_instance zero (Some v) there below e =
        let never : None ≡ Some v = there in
        absurd (cc)
    of_instance (suc k) (Some v) there below e =
        let d = is_decided (suc k) v.decision (subst (λ (o : Option Instance). IsDecision certs rows (suc k) (decision_gathered o)) there (h.decision (suc k))) e in
        let found = marked k (before k v d.0 (below k v there refl) there d.1) in
        (found.0, found.1, found.3, omega (arith, found.4))

pub marked_all : (seen : List Bool) (certificates : List Certificate) (n : ℕ) → IsMarkedBy seen certificates n → IsMarkedBy seen certificates (length certificates)
marked_all seen certificates n marked k e =
    let found = marked k e in
    (found.0, found.1, slice_get_within certificates found.0 found.1 found.3, found.3, found.4)

pub marks_all : (seen : List Bool) (certificates : List Certificate) (n : ℕ) → length certificates ≤ n → HasMarked seen certificates n → HasMarked seen certificates (length certificates)
marks_all seen certificates n long marks i c low e = marks i c (omega (arith, long, low)) e

pub number_within : (list : List Instance) (k : ℕ) (v : Instance) → at_number list k ≡ Some v → k ≤ length list
number_within list zero v e = omega arith
number_within list (suc k) v e = omega (arith, slice_get_within list k v e)
