-- The instances that have begun, after one more row, and what closing one asks.
use Rattle.std.proofs.Common.{arith, ◌≡◌, ◌≢◌, ◌∙◌, ◌≤◌, ◌<◌, ◌+◌, ℕ, zero, suc, Bool, true, false, List, [], ◌∷◌, ◌++◌, Option, Some, option_map, unwrap_or, length, set, refl, sym, ap, inl, inr}
use Rattle.std.specs.Prelude.{nat_le, slice_get}
use Rattle.std.proofs.lemmas.Bool.{cases_eq, and_parts}
use Rattle.std.proofs.lemmas.Bool.Decides.{nat_tests}
use Rattle.std.proofs.lemmas.List.{map-append, length-map}
use Rattle.std.proofs.lemmas.Option.{slice_get-map}
use Rattle.kt_base.specs.declared.words.Kind.{Kind}
use Rattle.kt_spacetime.specs.declared.event.Event.TheVariants as event
use Rattle.kt_meaning.specs.Past.{Past, after, at_one, kind_of, is_rollback, is_committed, is_rollback_kind}
use Rattle.kt_meaning.specs.Legal.{has_begun}
use Rattle.kt_rules.specs.Standing.{at_number}
use Rattle.kt_rules.proofs.InstanceSteps.{old_item, new_item, no_item}
use Rattle.kt_meaning.proofs.Items.{get_set_same, get_set_other, set_mapped}
use Rattle.kt_meaning.proofs.Shown.{at_same, at_other}
use Rattle.kt_report.specs.declared.closings.Instance.{Instance}
use Rattle.kt_report.specs.Shown.{ShowsReportInstances, is_committed_one}

-- the item of a number
number_at : (js : List Instance) (i k : ℕ) → i + 1 ≡ k → at_number js k ≡ slice_get js i
number_at js i zero e = absurd (omega (arith, e))
number_at js i (suc k) e = let same : k ≡ i = omega (arith, e) in ap (slice_get js) same

-- one more instance
pub begins : (js : List Instance) (s : Past) (p k : ℕ) (v : Instance) → v.is_committed ≡ false → ShowsReportInstances js s → ShowsReportInstances (js ++ v ∷ []) (after s (event.Began p k v.kind))
begins js s p k v undecided h = record {
  kinds = map-append (λ v. v.kind) js (v ∷ []) ∙ ap (λ (kinds : List Kind). kinds ++ v.kind ∷ []) h.kinds ∙ sym (map-append (λ b. b.kind) s.begun (record { initiator = p; kind = v.kind } ∷ []));
  commits = λ j. elim (cases_eq j (length js + 1)) [
    | inl e ↦
        ap is_committed_one (new_item js v j e) ∙ (undecided ∙ (sym (ap is_committed_one (no_item js j (omega (arith, e)))) ∙ h.commits j))
    | inr n ↦ ap is_committed_one (old_item js v j n) ∙ h.commits j
  ];
}

-- an instance that has begun is there
pub is_there : (js : List Instance) (s : Past) (i k : ℕ) → i + 1 ≡ k → ShowsReportInstances js s → has_begun s k ≡ true → i < length js
is_there js s i k e h b =
    let parts = and_parts (nat_le 1 k) (nat_le k (length s.begun)) b in
    let low : k ≤ length s.begun = grind (arith, nat_tests, parts.1) in
    let same : length js ≡ length s.begun = sym (length-map js (λ v. v.kind)) ∙ ap length h.kinds ∙ length-map s.begun (λ b. b.kind) in
    omega (arith, low, same, e)

-- an instance is decided
pub is_decided : (js : List Instance) (s : Past) (p i k : ℕ) (commit : Bool) (v : Instance) → i + 1 ≡ k → slice_get js i ≡ Some v → i < length js → ShowsReportInstances js s
    → ShowsReportInstances (set js i (record v { is_committed = commit })) (after s (event.Decided p k commit))
is_decided js s p i k commit v e at within h =
    let w : Instance = record v { is_committed = commit } in
    record {
      kinds = set_mapped (λ v. v.kind) js i v w at refl ∙ h.kinds;
      commits = λ j. elim (cases_eq j k) [
        | inl same ↦
            ap is_committed_one (number_at (set js i w) i j (e ∙ sym same) ∙ get_set_same js i w within)
            ∙ sym (ap (λ (o : Option Bool). unwrap_or o false) (ap (at_one k (Some commit) s.decision) same ∙ at_same k (Some commit) s.decision))
        | inr n ↦
            ap is_committed_one (others (set js i w) j n refl) ∙ h.commits j ∙ sym (ap (λ (o : Option Bool). unwrap_or o false) (at_other k j (Some commit) s.decision n))
      ];
    }
  where
    others : (ws : List Instance) (j : ℕ) → j ≢ k → ws ≡ set js i (record v { is_committed = commit }) → at_number ws j ≡ at_number js j
    others ws zero n f = refl
    others ws (suc j) n f = ap (λ (l : List Instance). slice_get l j) f ∙ get_set_other js i j (record v { is_committed = commit }) (λ same. n (omega (arith, same, e)))

-- the kind of an instance
kind_known : (js : List Instance) (s : Past) (k : ℕ) → ShowsReportInstances js s → kind_of s k ≡ option_map (λ v. v.kind) (at_number js k)
kind_known js s zero h = refl
kind_known js s (suc k) h =
    sym (slice_get-map (λ b. b.kind) s.begun k) ∙ ap (λ (kinds : List Kind). slice_get kinds k) (sym h.kinds) ∙ slice_get-map (λ v. v.kind) js k

-- what closing an instance asks
pub closing_known : (js : List Instance) (s : Past) (i k : ℕ) (o : Option Instance) → i + 1 ≡ k → slice_get js i ≡ o → ShowsReportInstances js s
    → (is_rollback s k ≡ is_rollback_kind (option_map (λ v. v.kind) o)) × (is_committed s k ≡ is_committed_one o)
closing_known js s i k o e at h =
    let there : at_number js k ≡ o = number_at js i k e ∙ at in
    (ap is_rollback_kind (kind_known js s k h ∙ ap (option_map (λ v. v.kind)) there), sym (h.commits k) ∙ ap is_committed_one there)
