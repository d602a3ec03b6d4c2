-- What stays of an instance after its decided row.
use Rattle.std.proofs.Common.{◌≡◌, ℕ, zero, suc, ◌<◌, is_some, is_none, ◌||◌, Bool, true, false, Option, Some, None, List, [], ◌∷◌, take, drop, refl, sym, ap, ◌∙◌, subst, arith, inl, inr}
use Rattle.std.specs.Prelude.{fold}
use Rattle.std.specs.List.{slice_get, filter_map, cons_option}
use Rattle.std.proofs.lemmas.Bool.{cases_eq, cases_order, and_parts}
use Rattle.std.proofs.lemmas.Bool.Decides.{nat_tests}
use Rattle.std.proofs.lemmas.Grind.{fold-append}
use Rattle.std.proofs.lemmas.List.{take-append-drop}
use Rattle.kt_spacetime.specs.declared.event.Event.{Event}
use Rattle.kt_spacetime.specs.declared.event.Event.TheVariants as event
use Rattle.kt_meaning.specs.Past.{Past, Beginning, past, start, after, beginning_of, is_checkpoint}
use Rattle.kt_meaning.specs.Legal.{IsLegal, IsLegalAfter, broken_rule, is_undecided, has_begun}
use Rattle.kt_meaning.specs.Chains.{members, joins}
use Rattle.kt_meaning.proofs.Items.{some_same}
use Rattle.kt_meaning.proofs.LegalLogs.{kept, past_induction, next_unbroken}
use Rattle.kt_meaning.proofs.Positions.{begun_kept}
use Rattle.kt_meaning.specs.Unwilling.{is_unwilling, has_unwilling}

decision_stays : (s : Past) (row : Event) (k : ℕ) → is_some (s.decision k) ≡ true → is_some ((after s row).decision k) ≡ true
decision_stays s (event.Decided p j commit) k e = elim (cases_eq k j) [
  | inl same ↦ grind (arith, nat_tests, same)
  | inr other ↦ grind (arith, nat_tests, other, e)
]
decision_stays s (event.Sent p to body) k e = e
decision_stays s (event.Received p from msg) k e = e
decision_stays s (event.Dropped p from msg) k e = e
decision_stays s (event.Began p j kind) k e = e
decision_stays s (event.Took p j) k e = e
decision_stays s (event.Ready p j) k e = e
decision_stays s (event.Unwilling p j cause) k e = e
decision_stays s (event.Closed p j) k e = e
decision_stays s (event.Failed p) k e = e
decision_stays s (event.Refused p verb cause) k e = e

decided_after_decision : (s : Past) (log : List Event) (n p k : ℕ) (commit : Bool) → slice_get log n ≡ Some (event.Decided p k commit) → is_some ((fold after s log).decision k) ≡ true
decided_after_decision s [] n p k commit e = absurd (cc)
decided_after_decision s (row ∷ rows) zero p k commit e =
    let same : row ≡ event.Decided p k commit = some_same e in
    let here : is_some ((after s row).decision k) ≡ true = rw same (decided_now s p k commit) in
    past_induction (λ t. is_some (t.decision k) ≡ true) (λ t r h. decision_stays t r k h) (after s row) rows here
  where
    decided_now : (s : Past) (p k : ℕ) (commit : Bool) → is_some ((after s (event.Decided p k commit)).decision k) ≡ true
    decided_now s p k commit = grind (arith, nat_tests)
decided_after_decision s (row ∷ rows) (suc n) p k commit e = decided_after_decision (after s row) rows n p k commit e

not_undecided : (s : Past) (k : ℕ) → is_some (s.decision k) ≡ true → is_undecided s k ≡ true → ⊥
not_undecided s k e u = clash (s.decision k) e (and_parts (has_begun s k) (is_none (s.decision k)) u).1
  where
    clash : (o : Option Bool) → is_some o ≡ true → is_none o ≡ true → ⊥
    clash None a b = cc
    clash (Some x) a b = cc

get_of_take : (log : List Event) (n m : ℕ) (x : Event) → slice_get log n ≡ Some x → n < m → slice_get (take m log) n ≡ Some x
get_of_take [] n m x e l = absurd (cc)
get_of_take (y ∷ log) n zero x e l = absurd (omega (arith, l))
get_of_take (y ∷ log) zero (suc m) x e l = e
get_of_take (y ∷ log) (suc n) (suc m) x e l = get_of_take log n m x e (omega (arith, l))

-- an instance is decided once
decided_before : (log : List Event) (n m p q k : ℕ) (a b : Bool) → IsLegal log → slice_get log n ≡ Some (event.Decided p k a) → slice_get log m ≡ Some (event.Decided q k b) → n < m → ⊥
decided_before log n m p q k a b l e f low =
    let was = decided_after_decision start (take m log) n p k a (get_of_take log n m (event.Decided p k a) e low) in
    let deciding = (kept (past (take m log)) (event.Decided q k b) (next_unbroken log m (event.Decided q k b) l f)).deciding in
    not_undecided (past (take m log)) k was (and_parts _ (is_undecided (past (take m log)) k) deciding).1

pub decided_once : (log : List Event) (n m p q k : ℕ) (a b : Bool) → IsLegal log → slice_get log n ≡ Some (event.Decided p k a) → slice_get log m ≡ Some (event.Decided q k b) → n ≡ m
decided_once log n m p q k a b l e f = elim (cases_order n m) [
  | inl same ↦ same
  | inr other ↦ elim other [
    | inl low ↦ absurd (decided_before log n m p q k a b l e f low)
    | inr high ↦ absurd (decided_before log m n q p k b a l f e high)
  ]
]

-- nobody joins a decided instance
no_join : (s : Past) (row : Event) (k : ℕ) → broken_rule s row ≡ None → is_some (s.decision k) ≡ true → joins k row ≡ None
no_join s (event.Took p j) k e v = elim (cases_eq j k) [
  | inl same ↦
      let may = (and_parts _ _ (kept s (event.Took p j) e).joining).0 in
      let open_yet : is_undecided s j ≡ true = (and_parts _ (is_undecided s j) (and_parts _ (is_checkpoint s j) (and_parts _ _ may).0).0).1 in
      absurd (not_undecided s k v (subst (λ (x : ℕ). is_undecided s x ≡ true) same open_yet))
  | inr other ↦ grind (arith, nat_tests, other)
]
no_join s (event.Ready p j) k e v = elim (cases_eq j k) [
  | inl same ↦
      let may = (and_parts _ _ (kept s (event.Ready p j) e).joining).0 in
      let open_yet : is_undecided s j ≡ true = (and_parts _ (is_undecided s j) (and_parts _ _ may).0).1 in
      absurd (not_undecided s k v (subst (λ (x : ℕ). is_undecided s x ≡ true) same open_yet))
  | inr other ↦ grind (arith, nat_tests, other)
]
no_join s (event.Sent p to body) k e v = refl
no_join s (event.Received p from msg) k e v = refl
no_join s (event.Dropped p from msg) k e v = refl
no_join s (event.Began p j kind) k e v = refl
no_join s (event.Unwilling p j cause) k e v = refl
no_join s (event.Decided p j commit) k e v = refl
no_join s (event.Closed p j) k e v = refl
no_join s (event.Failed p) k e v = refl
no_join s (event.Refused p verb cause) k e v = refl

no_joins : (s : Past) (rows : List Event) (k : ℕ) → IsLegalAfter s rows → is_some (s.decision k) ≡ true → filter_map (joins k) rows ≡ []
no_joins s [] k l v = refl
no_joins s (row ∷ rows) k l v = ap (λ (o : Option ℕ). cons_option o (filter_map (joins k) rows)) (no_join s row k l.0 v) ∙ no_joins (after s row) rows k l.1 (decision_stays s row k v)

members_to : (s : Past) (log : List Event) (n p k : ℕ) (commit : Bool) → IsLegalAfter s log → slice_get log n ≡ Some (event.Decided p k commit) → filter_map (joins k) log ≡ filter_map (joins k) (take n log)
members_to s [] n p k commit l e = absurd (cc)
members_to s (row ∷ rows) zero p k commit l e =
    let same : row ≡ event.Decided p k commit = some_same e in
    let decided : is_some ((after s row).decision k) ≡ true = decided_after_decision s (row ∷ []) 0 p k commit e in
    ap (λ (o : Option ℕ). cons_option o (filter_map (joins k) rows)) (ap (joins k) same) ∙ no_joins (after s row) rows k l.1 decided
members_to s (row ∷ rows) (suc n) p k commit l e = ap (λ (t : List ℕ). cons_option (joins k row) t) (members_to (after s row) rows n p k commit l.1 e)

-- the members of a decided instance joined before its decided row
pub members_before : (log : List Event) (n p k : ℕ) (commit : Bool) → IsLegal log → slice_get log n ≡ Some (event.Decided p k commit) → members log k ≡ members (take n log) k
members_before log n p k commit l e = members_to start log n p k commit l e

-- nobody is unwilling to join a decided instance
no_refusal : (s : Past) (row : Event) (k : ℕ) → broken_rule s row ≡ None → is_some (s.decision k) ≡ true → is_unwilling k row ≡ false
no_refusal s (event.Unwilling p j cause) k e v = elim (cases_eq j k) [
  | inl same ↦
      let open_yet : is_undecided s j ≡ true = (and_parts (is_undecided s j) _ (kept s (event.Unwilling p j cause) e).causes).0 in
      absurd (not_undecided s k v (subst (λ (x : ℕ). is_undecided s x ≡ true) same open_yet))
  | inr other ↦ grind (arith, nat_tests, other)
]
no_refusal s (event.Took p j) k e v = refl
no_refusal s (event.Ready p j) k e v = refl
no_refusal s (event.Sent p to body) k e v = refl
no_refusal s (event.Received p from msg) k e v = refl
no_refusal s (event.Dropped p from msg) k e v = refl
no_refusal s (event.Began p j kind) k e v = refl
no_refusal s (event.Decided p j commit) k e v = refl
no_refusal s (event.Closed p j) k e v = refl
no_refusal s (event.Failed p) k e v = refl
no_refusal s (event.Refused p verb cause) k e v = refl

no_refusals : (s : Past) (rows : List Event) (k : ℕ) → IsLegalAfter s rows → is_some (s.decision k) ≡ true → has_unwilling rows k ≡ false
no_refusals s [] k l v = refl
no_refusals s (row ∷ rows) k l v = ap (λ (b : Bool). b || has_unwilling rows k) (no_refusal s row k l.0 v) ∙ no_refusals (after s row) rows k l.1 (decision_stays s row k v)

unwilling_to : (s : Past) (log : List Event) (n p k : ℕ) (commit : Bool) → IsLegalAfter s log → slice_get log n ≡ Some (event.Decided p k commit) → has_unwilling log k ≡ has_unwilling (take n log) k
unwilling_to s [] n p k commit l e = absurd (cc)
unwilling_to s (row ∷ rows) zero p k commit l e =
    let same : row ≡ event.Decided p k commit = some_same e in
    let decided : is_some ((after s row).decision k) ≡ true = decided_after_decision s (row ∷ []) 0 p k commit e in
    ap (λ (b : Bool). b || has_unwilling rows k) (ap (is_unwilling k) same) ∙ no_refusals (after s row) rows k l.1 decided
unwilling_to s (row ∷ rows) (suc n) p k commit l e = ap (λ (b : Bool). is_unwilling k row || b) (unwilling_to (after s row) rows n p k commit l.1 e)

-- who was unwilling to join a decided instance was so before its decided row
pub unwilling_before : (log : List Event) (n p k : ℕ) (commit : Bool) → IsLegal log → slice_get log n ≡ Some (event.Decided p k commit) → has_unwilling log k ≡ has_unwilling (take n log) k
unwilling_before log n p k commit l e = unwilling_to start log n p k commit l e

-- how an instance began is known from then on
pub beginning_stays : (log : List Event) (n k : ℕ) (b : Beginning) → beginning_of (past (take n log)) k ≡ Some b → beginning_of (past log) k ≡ Some b
beginning_stays log n k b e =
    let whole : past log ≡ fold after (past (take n log)) (drop n log) = ap past (sym (take-append-drop n log)) ∙ fold-append after start (take n log) (drop n log) in
    subst (λ (s : Past). beginning_of s k ≡ Some b) (sym whole) (past_induction (λ t. beginning_of t k ≡ Some b) (λ t row h. begun_kept t row k b h) (past (take n log)) (drop n log) e)
