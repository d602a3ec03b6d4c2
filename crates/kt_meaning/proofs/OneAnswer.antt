-- A log and a list of certificates have one answer.
use Rattle.std.proofs.Common.{◌≡◌, ◌⊎◌, ℕ, ◌+◌, ◌<◌, Bool, Option, Some, None, List, length, take, refl, sym, ap, ◌∙◌, subst, inl, inr}
use Rattle.std.specs.List.{slice_get}
use Rattle.std.proofs.lemmas.Bool.{cases_order}
use Rattle.std.proofs.lemmas.Option.{slice_get_within}
use Rattle.kt_spacetime.specs.declared.event.Event.{Event}
use Rattle.kt_spacetime.specs.declared.event.Event.TheVariants as event
use Rattle.kt_spacetime.specs.declared.rules.Rule.{Rule}
use Rattle.kt_meaning.specs.Past.{Past, past}
use Rattle.kt_meaning.specs.Legal.{IsLegal}
use Rattle.kt_meaning.specs.Chains.{members}
use Rattle.kt_meaning.proofs.Items.{some_same}
use Rattle.kt_spacetime.specs.declared.certificate.Certificate.{Certificate}
use Rattle.kt_spacetime.specs.declared.verdict.Verdict.{Verdict}
use Rattle.kt_spacetime.specs.declared.verdict.Verdict.TheVariants.{Yes, No}
use Rattle.kt_spacetime.specs.declared.verdict.Why.{Why}
use Rattle.kt_spacetime.specs.declared.verdict.Why.TheVariants as why
use Rattle.kt_meaning.specs.Unwilling.{has_unwilling}
use Rattle.kt_meaning.specs.Passing.{PassBefore}
use Rattle.kt_meaning.specs.Answers.{IsFirstWhy, IsBadLog, IsUnknown, IsRefuted, IsRefused, IsMissing, IsCheckerAnswer}
use Rattle.kt_meaning.proofs.Deciding.{decided_once}
use Rattle.kt_meaning.proofs.Answering.{yes_of, no_broken, not_both, wrong_passes}

-- the answer that names the first broken row and its rule
abbrev bad_log : Option (ℕ × Rule) → Verdict
bad_log None = Yes
bad_log (Some f) = No None (Some f.0) (why.BadLog f.1)

one_bad_log : (log : List Event) (v w : Verdict) → IsBadLog log v → IsBadLog log w → v ≡ w
one_bad_log log v w a b = a.2 ∙ (ap bad_log (sym a.3 ∙ b.3) ∙ sym b.2)

-- one thing is first wrong with a certificate
one_why : (s : Past) (joined : List ℕ) (refused : Bool) (c : Certificate) (a b : Why) → IsFirstWhy s joined refused c a → IsFirstWhy s joined refused c b → a ≡ b
one_why s joined refused c (why.BadLog rule) b x y = absurd x
one_why s joined refused c why.Unknown b x y = absurd x
one_why s joined refused c why.Missing b x y = absurd x
one_why s joined refused c a (why.BadLog rule) x y = absurd y
one_why s joined refused c a why.Unknown x y = absurd y
one_why s joined refused c a why.Missing x y = absurd y
one_why s joined refused c why.Cause why.Cause x y = refl
one_why s joined refused c why.Cause why.Members x y = absurd (not_both refused c.commit x y.0)
one_why s joined refused c why.Cause why.Chain x y = absurd (not_both refused c.commit x y.0)
one_why s joined refused c why.Cause why.Orphan x y = absurd (not_both refused c.commit x y.0)
one_why s joined refused c why.Members why.Cause x y = absurd (not_both refused c.commit y x.0)
one_why s joined refused c why.Members why.Members x y = refl
one_why s joined refused c why.Members why.Chain x y = absurd (x.2 y.2)
one_why s joined refused c why.Members why.Orphan x y = absurd (x.2 y.2)
one_why s joined refused c why.Chain why.Cause x y = absurd (not_both refused c.commit y x.0)
one_why s joined refused c why.Chain why.Members x y = absurd (y.2 x.2)
one_why s joined refused c why.Chain why.Chain x y = refl
one_why s joined refused c why.Chain why.Orphan x y = absurd (x.3 y.3)
one_why s joined refused c why.Orphan why.Cause x y = absurd (not_both refused c.commit y x.0)
one_why s joined refused c why.Orphan why.Members x y = absurd (y.2 x.2)
one_why s joined refused c why.Orphan why.Chain x y = absurd (y.3 x.3)
one_why s joined refused c why.Orphan why.Orphan x y = refl

one_refuted : (log : List Event) (certificates : List Certificate) (i : ℕ) (c : Certificate) (v w : Verdict) → IsLegal log → IsRefuted log certificates i c v → IsRefuted log certificates i c w → v ≡ w
one_refuted log certificates i c v w l a b =
    let row : a.0 ≡ b.0 = decided_once log a.0 b.0 a.3.process b.3.process c.inst c.commit c.commit l a.3.decided b.3.decided in
    let reason : a.1 ≡ b.1 = one_why (past (take b.0 log)) (members log c.inst) (has_unwilling log c.inst) c a.1 b.1
    (subst (λ (n : ℕ). IsFirstWhy (past (take n log)) (members log c.inst) (has_unwilling log c.inst) c a.1) row a.5) b.5 in
    a.2 ∙ ((λ k. No (Some c.inst) (Some (row k + 1)) (reason k)) ∙ sym b.2)

-- two answers to one certificate
one_refusal : (log : List Event) (certificates : List Certificate) (i : ℕ) (c : Certificate) (v w : Verdict) → IsLegal log → IsUnknown log certificates i c v ⊎ IsRefuted log certificates i c v
    → IsUnknown log certificates i c w ⊎ IsRefuted log certificates i c w → v ≡ w
one_refusal log certificates i c v w l a b = elim a [
  | inl unknown ↦ elim b [
    | inl also ↦ unknown.0 ∙ sym also.0
    | inr refuted ↦ absurd (unknown.1 refuted.0 refuted.3 refuted.4)
  ]
  | inr refuted ↦ elim b [
    | inl unknown ↦ absurd (unknown.1 refuted.0 refuted.3 refuted.4)
    | inr also ↦ one_refuted log certificates i c v w l refuted also
  ]
]

-- a certificate that passes, and is the first of its instance, is not refused
passes_unrefused : (log : List Event) (certificates : List Certificate) (n i : ℕ) (c : Certificate) (v : Verdict) → IsLegal log → PassBefore log certificates n → i < n → slice_get certificates i ≡ Some c
    → IsUnknown log certificates i c v ⊎ IsRefuted log certificates i c v → ⊥
passes_unrefused log certificates n i c v l before low at wrong =
    let is = before i c low at in
    elim wrong [
      | inl unknown ↦ unknown.1 is.0.row is.0.instance is.1
      | inr refuted ↦ wrong_passes log c refuted.0 refuted.1 l is.0 refuted.3 refuted.5
    ]

one_refused : (log : List Event) (certificates : List Certificate) (v w : Verdict) → IsLegal log → IsRefused log certificates v → IsRefused log certificates w → v ≡ w
one_refused log certificates v w l a b = elim (cases_order a.0 b.0) [
  | inl same ↦
      let item : a.1 ≡ b.1 = some_same (sym a.2 ∙ (ap (slice_get certificates) same ∙ b.2)) in
      one_refusal log certificates b.0 b.1 v w l
      (subst (λ (c : Certificate). IsUnknown log certificates b.0 c v ⊎ IsRefuted log certificates b.0 c v) item
      (subst (λ (i : ℕ). IsUnknown log certificates i a.1 v ⊎ IsRefuted log certificates i a.1 v) same a.4)) b.4
  | inr other ↦ elim other [
    | inl low ↦ absurd (passes_unrefused log certificates b.0 a.0 a.1 v l b.3 low a.2 a.4)
    | inr low ↦ absurd (passes_unrefused log certificates a.0 b.0 b.1 w l a.3 low b.2 b.4)
  ]
]

refused_or_missing : (log : List Event) (certificates : List Certificate) (v w : Verdict) → IsLegal log → IsRefused log certificates v → IsMissing log certificates w → ⊥
refused_or_missing log certificates v w l a b =
    passes_unrefused log certificates (length certificates) a.0 a.1 v l b.0 (slice_get_within certificates a.0 a.1 a.2) a.2 a.4

one_missing : (log : List Event) (certificates : List Certificate) (v w : Verdict) → IsLegal log → IsMissing log certificates v → IsMissing log certificates w → v ≡ w
one_missing log certificates v w l a b = elim (cases_order a.3 b.3) [
  | inl same ↦
      let row : a.1 ≡ b.1 = decided_once log a.1 b.1 a.2 b.2 b.3 a.4 b.4 l (subst (λ (k : ℕ). slice_get log a.1 ≡ Some (event.Decided a.2 k a.4)) same a.6) b.6 in
      a.5 ∙ ((λ k. No (Some (same k)) (Some (row k + 1)) why.Missing) ∙ sym b.5)
  | inr other ↦ elim other [
    | inl low ↦ absurd (a.7 (b.8 a.1 a.2 a.3 a.4 low a.6))
    | inr low ↦ absurd (b.7 (a.8 b.1 b.2 b.3 b.4 low b.6))
  ]
]

-- two faults of one log and list
one_fault : (log : List Event) (certificates : List Certificate) (v w : Verdict) → IsLegal log → IsRefused log certificates v ⊎ IsMissing log certificates v
    → IsRefused log certificates w ⊎ IsMissing log certificates w → v ≡ w
one_fault log certificates v w l a b = elim a [
  | inl refused ↦ elim b [
    | inl also ↦ one_refused log certificates v w l refused also
    | inr missing ↦ absurd (refused_or_missing log certificates v w l refused missing)
  ]
  | inr missing ↦ elim b [
    | inl refused ↦ absurd (refused_or_missing log certificates w v l refused missing)
    | inr also ↦ one_missing log certificates v w l missing also
  ]
]

-- two answers to one log and list
pub one_answer : (log : List Event) (certificates : List Certificate) (v w : Verdict) → IsCheckerAnswer log certificates v → IsCheckerAnswer log certificates w → v ≡ w
one_answer log certificates v w a b = elim a [
  | inl passed ↦ passed.0 ∙ sym (yes_of log certificates w b passed.1)
  | inr fault ↦ elim b [
    | inl passed ↦ yes_of log certificates v (inr fault) passed.1 ∙ sym passed.0
    | inr other ↦ elim fault [
      | inl bad ↦ elim other [
        | inl also ↦ one_bad_log log v w bad also
        | inr legal ↦ absurd (no_broken log bad.0 bad.1 legal.0 bad.3)
      ]
      | inr legal ↦ elim other [
        | inl bad ↦ absurd (no_broken log bad.0 bad.1 legal.0 bad.3)
        | inr also ↦ one_fault log certificates v w legal.0 legal.1 also.1
      ]
    ]
  ]
]
