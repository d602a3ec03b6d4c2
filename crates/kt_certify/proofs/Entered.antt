-- What a row changes of the instances that a pass keeps.
use Rattle.std.proofs.Common.{◌≡◌, ◌≢◌, ℕ, zero, suc, ◌==◌, if◌then◌else◌, Bool, false, Option, Some, None, option_map, List, [], ◌∷◌, ◌++◌, refl, sym, ap, subst, ◌∙◌, arith, inl, inr}
use Rattle.std.specs.List.{slice_get}
use Rattle.std.proofs.lemmas.Bool.{cases_eq}
use Rattle.std.proofs.lemmas.Bool.Decides.{nat_tests}
use Rattle.std.proofs.lemmas.List.{append-nil}
use Rattle.std.proofs.lemmas.Option.{slice_get-map}
use Rattle.kt_spacetime.specs.declared.event.Event.{Event}
use Rattle.kt_spacetime.specs.declared.event.Event.TheVariants.{Decided}
use Rattle.kt_meaning.specs.Past.{Past, Beginning, past, beginning_of}
use Rattle.kt_meaning.specs.Legal.{IsLegal}
use Rattle.kt_meaning.specs.Chains.{members}
use Rattle.kt_rules.specs.Standing.{at_number}
use Rattle.kt_meaning.proofs.LegalLogs.{past_push}
use Rattle.kt_meaning.proofs.Members.{members_push}
use Rattle.kt_meaning.specs.Certificates.{certified, decision_by, certificate_of}
use Rattle.kt_certify.specs.Instances.{InstanceParts, changed, joined_by, decided_as, AreInstancesOf, beginning_kept, joined_kept, certificate_kept}
use Rattle.kt_certify.proofs.Changed.{changed_same, changed_other, map_changed}
use Rattle.kt_meaning.proofs.Pushed.{certificate_stays, certificate_new}

pub members_stay : (log : List Event) (row : Event) (k : ℕ) → members (row ∷ []) k ≡ [] → members (log ++ row ∷ []) k ≡ members log k
members_stay log row k none = members_push log row k ∙ (ap (λ (l : List ℕ). members log k ++ l) none ∙ append-nil (members log k))

-- a row that changes no instance
pub quiet : (log : List Event) (row : Event) (es : List InstanceParts) → (past (log ++ row ∷ [])).begun ≡ (past log).begun → ((k : ℕ) → members (row ∷ []) k ≡ []) → ((k : ℕ) → decision_by k row ≡ None) → AreInstancesOf log es → AreInstancesOf (log ++ row ∷ []) es
quiet log row es begun none undecided h = record {
  begun = h.begun ∙ sym begun;
  joined = λ k. h.joined k ∙ sym (members_stay log row k (none k));
  certificates = λ k. h.certificates k ∙ sym (certificate_stays log row k (undecided k));
}

-- a row by which a process joins an instance
pub joining : (log : List Event) (row : Event) (es : List InstanceParts) (p k : ℕ) → (past (log ++ row ∷ [])).begun ≡ (past log).begun → members (row ∷ []) k ≡ p ∷ [] → ((j : ℕ) → j ≢ k → members (row ∷ []) j ≡ []) → ((j : ℕ) → decision_by j row ≡ None)
    → (o : Option InstanceParts) → at_number es k ≡ o → (o ≡ None → ⊥) → AreInstancesOf log es → AreInstancesOf (log ++ row ∷ []) (changed k (joined_by p) es)
joining log row es p k begun now elsewhere undecided o at there h = record {
  begun = map_changed beginning_kept k (joined_by p) es (λ e. refl) ∙ (h.begun ∙ sym begun);
  joined = λ j. elim (cases_eq j k) [
    | inl same ↦ subst (λ (x : ℕ). joined_kept (at_number (changed k (joined_by p) es) x) ≡ members (log ++ row ∷ []) x) (sym same) here
    | inr other ↦ ap joined_kept (changed_other k (joined_by p) es j other) ∙ (h.joined j ∙ sym (members_stay log row j (elsewhere j other)))
  ];
  certificates = λ j. elim (cases_eq j k) [
    | inl same ↦ subst (λ (x : ℕ). certificate_kept (at_number (changed k (joined_by p) es) x) ≡ certificate_of (log ++ row ∷ []) x) (sym same)
        (ap certificate_kept (changed_same k (joined_by p) es) ∙ (still (at_number es k) ∙ (h.certificates k ∙ sym (certificate_stays log row k (undecided k)))))
    | inr other ↦ ap certificate_kept (changed_other k (joined_by p) es j other) ∙ (h.certificates j ∙ sym (certificate_stays log row j (undecided j)))
  ];
}
  where
    still : (o : Option InstanceParts) → certificate_kept (option_map (joined_by p) o) ≡ certificate_kept o
    still None = refl
    still (Some e) = refl

    more : (o : Option InstanceParts) → (o ≡ None → ⊥) → joined_kept (option_map (joined_by p) o) ≡ joined_kept o ++ p ∷ []
    more None never = absurd (never refl)
    more (Some e) never = refl

    here : joined_kept (at_number (changed k (joined_by p) es) k) ≡ members (log ++ row ∷ []) k
    here =
        ap joined_kept (changed_same k (joined_by p) es)
        ∙ (ap (λ (x : Option InstanceParts). joined_kept (option_map (joined_by p) x)) at
        ∙ (more o there
        ∙ (ap (λ (l : List ℕ). l ++ p ∷ []) (ap joined_kept (sym at) ∙ h.joined k)
        ∙ sym (members_push log row k ∙ ap (λ (l : List ℕ). members log k ++ l) now))))

pub beginning_there : (log : List Event) (es : List InstanceParts) (k : ℕ) → AreInstancesOf log es → beginning_of (past log) k ≡ option_map beginning_kept (at_number es k)
beginning_there log es zero h = refl
beginning_there log es (suc k) h = ap (λ (l : List Beginning). slice_get l k) (sym h.begun) ∙ slice_get-map beginning_kept es k

-- a row that decides an instance
pub deciding : (log : List Event) (es : List InstanceParts) (s : Past) (p k : ℕ) (commit : Bool) → s ≡ past log → IsLegal (log ++ Decided p k commit ∷ []) → AreInstancesOf log es → AreInstancesOf (log ++ Decided p k commit ∷ []) (changed k (decided_as s k commit) es)
deciding log es s p k commit known l h = record {
  begun = map_changed beginning_kept k (decided_as s k commit) es (λ e. refl) ∙ (h.begun ∙ sym (ap (λ (t : Past). t.begun) (past_push log (Decided p k commit))));
  joined = λ j. elim (cases_eq j k) [
    | inl same ↦ subst (λ (x : ℕ). joined_kept (at_number (changed k (decided_as s k commit) es) x) ≡ members (log ++ Decided p k commit ∷ []) x) (sym same)
        (ap joined_kept (changed_same k (decided_as s k commit) es) ∙ (still (at_number es k) ∙ (h.joined k ∙ sym (members_stay log (Decided p k commit) k refl))))
    | inr other ↦ ap joined_kept (changed_other k (decided_as s k commit) es j other) ∙ (h.joined j ∙ sym (members_stay log (Decided p k commit) j refl))
  ];
  certificates = λ j. elim (cases_eq j k) [
    | inl same ↦ subst (λ (x : ℕ). certificate_kept (at_number (changed k (decided_as s k commit) es) x) ≡ certificate_of (log ++ Decided p k commit ∷ []) x) (sym same) here
    | inr other ↦ ap certificate_kept (changed_other k (decided_as s k commit) es j other) ∙ (h.certificates j ∙ sym (certificate_stays log (Decided p k commit) j (by_other j other)))
  ];
}
  where
    still : (o : Option InstanceParts) → joined_kept (option_map (decided_as s k commit) o) ≡ joined_kept o
    still None = refl
    still (Some e) = refl

    by_other : (j : ℕ) → j ≢ k → decision_by j (Decided p k commit) ≡ None
    by_other j other =
        let differs : (k == j) ≡ false = grind (arith, nat_tests, other) in
        ap (λ (b : Bool). if b then Some commit else None) differs

    made_now : (o : Option InstanceParts) → certificate_kept (option_map (decided_as s k commit) o) ≡ option_map (certified s (joined_kept o) k commit) (option_map beginning_kept o)
    made_now None = refl
    made_now (Some e) = refl

    here : certificate_kept (at_number (changed k (decided_as s k commit) es) k) ≡ certificate_of (log ++ Decided p k commit ∷ []) k
    here =
        ap certificate_kept (changed_same k (decided_as s k commit) es)
        ∙ (made_now (at_number es k)
        ∙ ((λ i. option_map (certified (known i) (h.joined k i) k commit) (sym (beginning_there log es k h) i))
        ∙ sym (certificate_new log p k commit l)))
