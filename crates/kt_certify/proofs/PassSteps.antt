-- Every row of a legal log keeps the instances, and what is found of them are the certificates.
use Rattle.std.proofs.Common.{◌≡◌, ◌≢◌, ℕ, zero, suc, ◌+◌, ◌≤◌, ◌==◌, if◌then◌else◌, Bool, true, false, Option, Some, None, option_map, List, [], ◌∷◌, ◌++◌, length, length-append, take, refl, sym, ap, ◌∙◌, arith, inl, inr}
use Rattle.std.specs.List.{slice_get, filter_map, cons_option}
use Rattle.std.proofs.lemmas.Bool.{cases_eq, cases_lt}
use Rattle.std.proofs.lemmas.Bool.Decides.{nat_tests}
use Rattle.std.proofs.lemmas.List.{map-append, length-map}
use Rattle.std.proofs.lemmas.List.Elements.{filter_map-append}
use Rattle.std.proofs.lemmas.Option.{slice_get_past}
use Rattle.std.proofs.Math.Seq.{take-length}
use Rattle.kt_base.specs.declared.words.Kind.{Kind}
use Rattle.kt_spacetime.specs.declared.event.Event.{Event}
use Rattle.kt_spacetime.specs.declared.event.Event.TheVariants.{Sent, Received, Dropped, Began, Took, Ready, Unwilling, Decided, Closed, Failed, Refused}
use Rattle.kt_meaning.specs.Past.{Past, Beginning, past, after, beginning_of, is_checkpoint, is_rollback, is_checkpoint_kind, is_rollback_kind}
use Rattle.kt_meaning.specs.Legal.{IsLegal, broken_rule}
use Rattle.kt_rules.specs.Standing.{at_number}
use Rattle.kt_meaning.proofs.Items.{take_item, item_there, get_left}
use Rattle.kt_meaning.proofs.Lists.{get_last}
use Rattle.kt_meaning.proofs.LegalLogs.{past_push, legal_push}
use Rattle.kt_meaning.proofs.RowRules.{may_take, may_get_ready}
use Rattle.std.specs.List.{range_with_len}
use Rattle.kt_meaning.specs.Certificates.{certificate_of, certificates}
use Rattle.kt_meaning.proofs.Listed.{numbers_more}
use Rattle.kt_certify.specs.Instances.{InstanceParts, new_instance, instances_after, AreInstancesOf, beginning_kept, joined_kept, certificate_kept}
use Rattle.kt_meaning.proofs.Pushed.{certificate_stays}
use Rattle.kt_certify.proofs.Entered.{members_stay, quiet, joining, deciding, beginning_there}

-- an item added at the end
new_item : (es : List InstanceParts) (e : InstanceParts) (j : ℕ) → j ≡ length es + 1 → at_number (es ++ e ∷ []) j ≡ Some e
new_item es e zero is = absurd (omega (arith, is))
new_item es e (suc i) is =
    let place : i ≡ length es = omega (arith, is) in
    ap (slice_get (es ++ e ∷ [])) place ∙ get_last es e

no_item : (es : List InstanceParts) (j : ℕ) → j ≡ length es + 1 → at_number es j ≡ None
no_item es zero is = refl
no_item es (suc i) is = slice_get_past es i (omega (arith, is))

old_item : (es : List InstanceParts) (e : InstanceParts) (j : ℕ) → j ≢ length es + 1 → at_number (es ++ e ∷ []) j ≡ at_number es j
old_item es e zero other = refl
old_item es e (suc i) other = elim (cases_lt i (length es)) [
  | inl low ↦ get_left es (e ∷ []) i low
  | inr high ↦
      let past_it : length (es ++ e ∷ []) ≤ i = omega (arith, high, length-append es (e ∷ []), differs) in
      slice_get_past (es ++ e ∷ []) i past_it ∙ sym (slice_get_past es i high)
]
  where
    differs : i ≡ length es → ⊥
    differs same = other (omega (arith, same))

at_new : {X : Type 0} (f : Option InstanceParts → X) (es : List InstanceParts) (e : InstanceParts) (j : ℕ) → f (Some e) ≡ f None → f (at_number (es ++ e ∷ []) j) ≡ f (at_number es j)
at_new f es e j same = elim (cases_eq j (length es + 1)) [
  | inl is ↦ ap f (new_item es e j is) ∙ (same ∙ sym (ap f (no_item es j is)))
  | inr other ↦ ap f (old_item es e j other)
]

beginning : (log : List Event) (es : List InstanceParts) (p k : ℕ) (kind : Kind) → AreInstancesOf log es → AreInstancesOf (log ++ Began p k kind ∷ []) (es ++ new_instance p kind ∷ [])
beginning log es p k kind h = record {
  begun = map-append beginning_kept es (new_instance p kind ∷ []) ∙ (ap (λ (l : List Beginning). l ++ record { initiator = p; kind = kind } ∷ []) h.begun ∙ sym (ap (λ (t : Past). t.begun) (past_push log (Began p k kind))));
  joined = λ j. at_new joined_kept es (new_instance p kind) j refl ∙ (h.joined j ∙ sym (members_stay log (Began p k kind) j refl));
  certificates = λ j. at_new certificate_kept es (new_instance p kind) j refl ∙ (h.certificates j ∙ sym (certificate_stays log (Began p k kind) j refl));
}

-- who joins, and that there is an instance to join
listed_now : (p k : ℕ) → cons_option (if k == k then Some p else None) [] ≡ p ∷ []
listed_now p k =
    let same : (k == k) ≡ true = grind (arith, nat_tests) in
    ap (λ (b : Bool). cons_option (if b then Some p else None) []) same

listed_else : (p k j : ℕ) → j ≢ k → cons_option (if k == j then Some p else None) [] ≡ []
listed_else p k j other =
    let differs : (k == j) ≡ false = grind (arith, nat_tests, other) in
    ap (λ (b : Bool). cons_option (if b then Some p else None) []) differs

clash : false ≡ true → ⊥
clash x = cc

kind_there : (log : List Event) (es : List InstanceParts) (k : ℕ) → AreInstancesOf log es → at_number es k ≡ None → beginning_of (past log) k ≡ None
kind_there log es k h none = beginning_there log es k h ∙ ap (option_map beginning_kept) none

took_there : (log : List Event) (es : List InstanceParts) (k : ℕ) → AreInstancesOf log es → is_checkpoint (past log) k ≡ true → at_number es k ≡ None → ⊥
took_there log es k h is none = clash (sym (ap (λ (o : Option Beginning). is_checkpoint_kind (option_map (λ (b : Beginning). b.kind) o)) (kind_there log es k h none)) ∙ is)

ready_there : (log : List Event) (es : List InstanceParts) (k : ℕ) → AreInstancesOf log es → is_rollback (past log) k ≡ true → at_number es k ≡ None → ⊥
ready_there log es k h is none = clash (sym (ap (λ (o : Option Beginning). is_rollback_kind (option_map (λ (b : Beginning). b.kind) o)) (kind_there log es k h none)) ∙ is)

begun_same : (log : List Event) (row : Event) → (after (past log) row).begun ≡ (past log).begun → (past (log ++ row ∷ [])).begun ≡ (past log).begun
begun_same log row e = ap (λ (t : Past). t.begun) (past_push log row) ∙ e

-- one more row of any kind
pub step : (log : List Event) (row : Event) (es : List InstanceParts) (s : Past) → IsLegal log → broken_rule (past log) row ≡ None → s ≡ past log → AreInstancesOf log es → AreInstancesOf (log ++ row ∷ []) (instances_after s row es)
step log (Began p k kind) es s l unbroken known h = beginning log es p k kind h
step log (Took p k) es s l unbroken known h =
    joining log (Took p k) es p k (begun_same log (Took p k) refl) (listed_now p k) (λ j other. listed_else p k j other) (λ j. refl) (at_number es k) refl
    (λ none. took_there log es k h (may_take (past log) p k unbroken).is_kind none) h
step log (Ready p k) es s l unbroken known h =
    joining log (Ready p k) es p k (begun_same log (Ready p k) refl) (listed_now p k) (λ j other. listed_else p k j other) (λ j. refl) (at_number es k) refl
    (λ none. ready_there log es k h (may_get_ready (past log) p k unbroken).is_kind none) h
step log (Decided p k commit) es s l unbroken known h = deciding log es s p k commit known (legal_push log (Decided p k commit) l unbroken) h
step log (Sent p to body) es s l unbroken known h = quiet log (Sent p to body) es (begun_same log (Sent p to body) refl) (λ k. refl) (λ k. refl) h
step log (Received p from msg) es s l unbroken known h = quiet log (Received p from msg) es (begun_same log (Received p from msg) refl) (λ k. refl) (λ k. refl) h
step log (Dropped p from msg) es s l unbroken known h = quiet log (Dropped p from msg) es (begun_same log (Dropped p from msg) refl) (λ k. refl) (λ k. refl) h
step log (Unwilling p j cause) es s l unbroken known h = quiet log (Unwilling p j cause) es (begun_same log (Unwilling p j cause) refl) (λ k. refl) (λ k. refl) h
step log (Closed p j) es s l unbroken known h = quiet log (Closed p j) es (begun_same log (Closed p j) refl) (λ k. refl) (λ k. refl) h
step log (Failed p) es s l unbroken known h = quiet log (Failed p) es (begun_same log (Failed p) refl) (λ k. refl) (λ k. refl) h
step log (Refused p verb cause) es s l unbroken known h = quiet log (Refused p verb cause) es (begun_same log (Refused p verb cause) refl) (λ k. refl) (λ k. refl) h

-- the certificates of the first instances
by_entry : (log : List Event) (es : List InstanceParts) → ((k : ℕ) → certificate_kept (at_number es k) ≡ certificate_of log k) → (n : ℕ) → n ≤ length es → filter_map (λ e. e.certificate) (take n es) ≡ filter_map (certificate_of log) (range_with_len 1 n)
by_entry log es made zero low = refl
by_entry log es made (suc n) low =
    let item = item_there es n (omega (arith, low)) in
    let number : suc n ≡ n + 1 = omega arith in
    let more : take (suc n) es ≡ take n es ++ item.0 ∷ [] = take_item es n (suc n) item.0 number item.1 in
    let here : item.0.certificate ≡ certificate_of log (suc n) = sym (ap certificate_kept item.1) ∙ made (suc n) in
    ap (filter_map (λ e. e.certificate)) more
    ∙ (filter_map-append (λ e. e.certificate) (take n es) (item.0 ∷ [])
    ∙ ((λ i. by_entry log es made n (omega (arith, low)) i ++ cons_option (here i) [])
    ∙ sym (ap (filter_map (certificate_of log)) (numbers_more 1 n (suc n) (omega arith)) ∙ filter_map-append (certificate_of log) (range_with_len 1 n) (suc n ∷ []))))

pub listed_of : (log : List Event) (es : List InstanceParts) → AreInstancesOf log es → filter_map (λ e. e.certificate) es ≡ certificates log
listed_of log es h =
    let count : length (past log).begun ≡ length es = sym (ap length h.begun) ∙ length-map es beginning_kept in
    ap (filter_map (λ e. e.certificate)) (sym (take-length es))
    ∙ (by_entry log es h.certificates (length es) (omega arith) ∙ ap (λ (n : ℕ). filter_map (certificate_of log) (range_with_len 1 n)) (sym count))
