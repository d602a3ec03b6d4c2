-- Marks in the table of messages, members and decisions in the table of instances.
use Rattle.std.proofs.Common.{◌≡◌, ◌≢◌, ℕ, zero, suc, ◌+◌, ◌-◌, ◌<◌, ◌≤◌, Bool, true, Some, List, [], ◌∷◌, ◌++◌, ◌⊎◌, length, get_or, set, refl, sym, ap, ◌∙◌, arith}
use Rattle.std.specs.List.{slice_get}
use Rattle.std.proofs.lemmas.Option.{slice_get_read}
use Rattle.std.proofs.lemmas.List.{length-set}
use Rattle.kt_base.specs.Sets.{has}
use Rattle.kt_rules.specs.declared.instances.Instance.{Instance}
use Rattle.kt_rules.specs.Changes.{HasOneMore, IsDecided}
use Rattle.kt_rules.specs.Standing.{at_number, beginning_shown}
use Rattle.kt_meaning.proofs.Items.{set_mapped, get_set_same, get_set_other, some_same}

pub number_set_same : {X : Type 0} (xs : List X) (i k : ℕ) (x : X) → i ≡ k - 1 → 1 ≤ k → i < length xs → at_number (set xs i x) k ≡ Some x
number_set_same xs i zero x e l b = absurd (omega (arith, l))
number_set_same xs i (suc k) x e l b =
    let same : k ≡ i = omega (arith, e) in
    ap (slice_get (set xs i x)) same ∙ get_set_same xs i x b

pub number_set_other : {X : Type 0} (xs : List X) (i k j : ℕ) (x : X) → i ≡ k - 1 → 1 ≤ k → j ≢ k → at_number (set xs i x) j ≡ at_number xs j
number_set_other xs i k zero x e l n = refl
number_set_other xs i k (suc j) x e l n = get_set_other xs i j x (λ h. n (omega (arith, e, l, h)))

pub number_at : {X : Type 0} (xs : List X) (i k : ℕ) → i ≡ k - 1 → 1 ≤ k → at_number xs k ≡ slice_get xs i
number_at xs i zero e l = absurd (omega (arith, l))
number_at xs i (suc k) e l =
    let same : k ≡ i = omega (arith, e) in
    ap (slice_get xs) same

pub same_item : {X : Type 0} (xs : List X) (i k : ℕ) (u v : X) → i ≡ k - 1 → 1 ≤ k → i < length xs → u ≡ get_or xs i u → at_number xs k ≡ Some v → u ≡ v
same_item xs i k u v e l b r a = some_same (sym (slice_get_read xs (length xs) i u refl b r) ∙ (sym (number_at xs i k e l) ∙ a))

pub is_joined : (js : List Instance) (i k p position : ℕ) (u v w : Instance) → i ≡ k - 1 → 1 ≤ k → i < length js → u ≡ get_or js i u → at_number js k ≡ Some v
    → w.initiator ≡ u.initiator → w.kind ≡ u.kind → w.decision ≡ u.decision → has w.joined p ≡ true → ((q : ℕ) → q ≢ p → has w.joined q ≡ has u.joined q) → w.positions ≡ set u.positions p position
    → HasOneMore js (set js i w) k p position v w
is_joined js i k p position u v w e l b r a initiator of_kind decision joined others positions =
    let same : u ≡ v = same_item js i k u v e l b r a in
    record {
      was = a;
      now = number_set_same js i k w e l b;
      others = λ j n. number_set_other js i k j w e l n;
      beginnings = set_mapped beginning_shown js i u w (slice_get_read js (length js) i u refl b r) (λ j. record { initiator = initiator j; kind = of_kind j });
      kind = of_kind ∙ ap (λ (x : Instance). x.kind) same;
      decision = decision ∙ ap (λ (x : Instance). x.decision) same;
      joined = joined;
      not_joined = λ q n. others q n ∙ ap (λ (x : Instance). has x.joined q) same;
      positions = positions ∙ ap (λ (x : Instance). set x.positions p position) same;
    }

pub is_decided : (js : List Instance) (i k : ℕ) (commit : Bool) (u v : Instance) → i ≡ k - 1 → 1 ≤ k → i < length js → u ≡ get_or js i u → at_number js k ≡ Some v
    → IsDecided js (set js i (record u { decision = Some commit })) k commit v
is_decided js i k commit u v e l b r a =
    let same : u ≡ v = same_item js i k u v e l b r a in
    record {
      was = a;
      now = number_set_same js i k _ e l b ∙ ap (λ (x : Instance). Some (record x { decision = Some commit })) same;
      others = λ j n. number_set_other js i k j _ e l n;
      beginnings = set_mapped beginning_shown js i u _ (slice_get_read js (length js) i u refl b r) refl;
    }

pub judged_item : (js : List Instance) (i k : ℕ) (commit : Bool) (u v r : Instance) → i ≡ k - 1 → 1 ≤ k → i < length js → u ≡ get_or js i u → at_number js k ≡ Some v
    → r ≡ get_or (set js i (record u { decision = Some commit })) i r → Some r ≡ Some (record v { decision = Some commit })
judged_item js i k commit u v r e l b rd a is =
    let same : u ≡ v = same_item js i k u v e l b rd a in
    let list : List Instance = set js i (record u { decision = Some commit }) in
    let read : slice_get list i ≡ Some r = slice_get_read list (length js) i r (sym (length-set js i (record u { decision = Some commit }))) b is in
    sym read ∙ (get_set_same js i (record u { decision = Some commit }) b ∙ ap (λ (x : Instance). Some (record x { decision = Some commit })) same)
