-- Instances gathered row by row.
use Rattle.std.proofs.Common.{◌≡◌, ◌≢◌, ℕ, zero, suc, ◌+◌, ◌-◌, ◌<◌, ◌≤◌, ◌==◌, ◌||◌, nat_le, if◌then◌else◌, Bool, true, false, Option, Some, None, List, [], ◌∷◌, ◌++◌, map, length, get_or, set, take, refl, sym, ap, ◌∙◌, subst, arith, inl, inr}
use Rattle.std.specs.List.{slice_get, cons_option}
use Rattle.std.proofs.lemmas.Option.{slice_get_past, slice_get_read}
use Rattle.std.proofs.lemmas.Bool.{cases_eq, and_parts}
use Rattle.std.proofs.lemmas.Bool.Decides.{nat_tests}
use Rattle.std.proofs.lemmas.List.{append-nil, map-append, length-map, take-append-le}
use Rattle.std.proofs.Math.Seq.{take-append_seam}
use Rattle.kt_base.specs.declared.words.Kind.{Kind}
use Rattle.kt_base.specs.declared.words.Cause.{Cause}
use Rattle.kt_base.specs.declared.words.Verb.{Verb}
use Rattle.kt_spacetime.specs.declared.event.Event.{Event}
use Rattle.kt_spacetime.specs.declared.event.Event.TheVariants as event
use Rattle.kt_meaning.specs.Past.{Past, past}
use Rattle.kt_meaning.specs.Legal.{has_begun}
use Rattle.kt_meaning.specs.Chains.{members}
use Rattle.kt_rules.specs.Standing.{at_number}
use Rattle.kt_meaning.proofs.Items.{get_left, get_push, get_seam, item_there, set_mapped}
use Rattle.kt_rules.proofs.MessageTables.{number_at, number_set_same, number_set_other}
use Rattle.kt_rules.proofs.InstanceSteps.{old_item, new_item, no_item}
use Rattle.kt_meaning.proofs.LegalLogs.{past_push}
use Rattle.kt_meaning.proofs.Members.{members_push}
use Rattle.kt_spacetime.specs.declared.certificate.Certificate.{Certificate}
use Rattle.kt_checker.specs.declared.decisions.Instance.{Instance}
use Rattle.kt_checker.specs.declared.decisions.Decision.{Decision}
use Rattle.kt_meaning.specs.Unwilling.{is_unwilling, has_unwilling}
use Rattle.kt_checker.specs.Gathered.{Gathered, IsDecision, IsFoundFirst, beginning_gathered, members_gathered, refused_gathered, decision_gathered}

unwilling_push : (rows : List Event) (row : Event) (k : ℕ) → has_unwilling (rows ++ row ∷ []) k ≡ (has_unwilling rows k || is_unwilling k row)
unwilling_push [] row k = at_test (is_unwilling k row)
  where
    at_test : (b : Bool) → (b || false) ≡ b
    at_test true = refl
    at_test false = refl
unwilling_push (x ∷ rows) row k = ap (λ (b : Bool). is_unwilling k x || b) (unwilling_push rows row k) ∙ group (is_unwilling k x) (has_unwilling rows k) (is_unwilling k row)
  where
    group : (a b c : Bool) → (a || (b || c)) ≡ ((a || b) || c)
    group true b c = refl
    group false b c = refl

-- an instance that has begun was gathered
pub begun_gathered : {certs : List Certificate} (list : List Instance) (rows : List Event) (k : ℕ) → Gathered certs list rows → has_begun (past rows) k ≡ true → (v : Instance) × (at_number list k ≡ Some v)
begun_gathered {certs} list rows zero h e =
    let no : false ≡ true = e in
    absurd (cc)
begun_gathered {certs} list rows (suc k) h e =
    let parts = and_parts (nat_le 1 (suc k)) (nat_le (suc k) (length (past rows).begun)) e in
    let low : suc k ≤ length (past rows).begun = grind (arith, nat_tests, parts.1) in
    let same : length list ≡ length (past rows).begun = sym (length-map list beginning_gathered) ∙ ap length h.begun in
    item_there list k (omega (arith, low, same))

-- a decision of rows is one of more rows
decision_kept : (certs : List Certificate) (rows : List Event) (row : Event) (k : ℕ) (o : Option Decision) → IsDecision certs rows k o → ((p : ℕ) (commit : Bool) → row ≡ event.Decided p k commit → ⊥) → IsDecision certs (rows ++ row ∷ []) k o
decision_kept certs rows row k None h none = λ n p commit e. elim (get_push rows row n (event.Decided p k commit) e) [
  | inl old ↦ h n p commit old
  | inr new ↦ none p commit (sym new.1)
]
decision_kept certs rows row k (Some d) h none =
    let low = within rows h.0 (event.Decided h.1 k d.commit) h.3 in
    let same : take h.0 rows ≡ take h.0 (rows ++ row ∷ []) = sym (take-append-le h.0 rows (row ∷ []) (omega (arith, low))) in
    (h.0, h.1, h.2, get_left rows (row ∷ []) h.0 low ∙ h.3, h.4, subst (λ (t : List Event). IsFoundFirst certs t k d.commit d.fault) same h.5)
  where
    within : (rows : List Event) (n : ℕ) (x : Event) → slice_get rows n ≡ Some x → n < length rows
    within [] n x e = absurd (cc)
    within (y ∷ rows) zero x e = omega arith
    within (y ∷ rows) (suc n) x e = omega (arith, within rows n x e)

-- a row that says nothing of an instance's members, refusals or decision
pub gathered_quiet : {certs : List Certificate} (list : List Instance) (rows : List Event) (row : Event) → Gathered certs list rows → (past (rows ++ row ∷ [])).begun ≡ (past rows).begun
    → ((k : ℕ) → members (row ∷ []) k ≡ []) → ((k : ℕ) → is_unwilling k row ≡ false) → ((k p : ℕ) (commit : Bool) → row ≡ event.Decided p k commit → ⊥) → Gathered certs list (rows ++ row ∷ [])
gathered_quiet {certs} list rows row h begun joins unwilling decides = record {
  begun = h.begun ∙ sym begun;
  members_listed = λ k. h.members_listed k ∙ sym (members_push rows row k ∙ (ap (λ (l : List ℕ). members rows k ++ l) (joins k) ∙ append-nil (members rows k)));
  refused = λ k. h.refused k ∙ sym (unwilling_push rows row k ∙ (ap (λ (b : Bool). has_unwilling rows k || b) (unwilling k) ∙ or_false (has_unwilling rows k)));
  decision = λ k. decision_kept certs rows row k _ (h.decision k) (decides k);
}
  where
    or_false : (b : Bool) → (b || false) ≡ b
    or_false true = refl
    or_false false = refl

-- an instance with what one row says of it
pub record IsChanged (certs : List Certificate) (list is : List Instance) (rows : List Event) (row : Event) (k : ℕ) (v w : Instance) : Type 0 where
  pub was : at_number list k ≡ Some v
  pub now : at_number is k ≡ Some w
  pub others : (j : ℕ) → j ≢ k → at_number is j ≡ at_number list j
  pub beginnings : map beginning_gathered is ≡ map beginning_gathered list
  pub members_now : w.members.items ≡ v.members.items ++ members (row ∷ []) k
  pub members_else : (j : ℕ) → j ≢ k → members (row ∷ []) j ≡ []
  pub refused_now : w.refused ≡ (v.refused || is_unwilling k row)
  pub refused_else : (j : ℕ) → j ≢ k → is_unwilling j row ≡ false
  pub decision_now : IsDecision certs (rows ++ row ∷ []) k w.decision
  pub decision_else : (j p : ℕ) (commit : Bool) → j ≢ k → row ≡ event.Decided p j commit → ⊥

pub gathered_changed : {certs : List Certificate} (list is : List Instance) (rows : List Event) (row : Event) (k : ℕ) (v w : Instance) → Gathered certs list rows → IsChanged certs list is rows row k v w → (past (rows ++ row ∷ [])).begun ≡ (past rows).begun → Gathered certs is (rows ++ row ∷ [])
gathered_changed {certs} list is rows row k v w h x begun = record {
  begun = x.beginnings ∙ (h.begun ∙ sym begun);
  members_listed = λ j. elim (cases_eq j k) [
    | inl e ↦
        (λ i. members_gathered (at_number is (e i))) ∙ (ap members_gathered x.now ∙ (x.members_now ∙ (ap (λ (l : List ℕ). l ++ members (row ∷ []) k) (sym (ap members_gathered x.was) ∙ h.members_listed k)
        ∙ (sym (members_push rows row k) ∙ ap (members (rows ++ row ∷ [])) (sym e)))))
    | inr n ↦
        ap members_gathered (x.others j n) ∙ (h.members_listed j ∙ sym (members_push rows row j ∙ (ap (λ (l : List ℕ). members rows j ++ l) (x.members_else j n) ∙ append-nil (members rows j))))
  ];
  refused = λ j. elim (cases_eq j k) [
    | inl e ↦
        (λ i. refused_gathered (at_number is (e i))) ∙ (ap refused_gathered x.now ∙ (x.refused_now ∙ (ap (λ (b : Bool). b || is_unwilling k row) (sym (ap refused_gathered x.was) ∙ h.refused k)
        ∙ (sym (unwilling_push rows row k) ∙ ap (has_unwilling (rows ++ row ∷ [])) (sym e)))))
    | inr n ↦
        ap refused_gathered (x.others j n) ∙ (h.refused j ∙ sym (unwilling_push rows row j ∙ (ap (λ (b : Bool). has_unwilling rows j || b) (x.refused_else j n) ∙ or_false (has_unwilling rows j))))
  ];
  decision = λ j. elim (cases_eq j k) [
    | inl e ↦
        subst (λ (m : ℕ). IsDecision certs (rows ++ row ∷ []) m (decision_gathered (at_number is m))) (sym e) (subst (λ (o : Option Instance). IsDecision certs (rows ++ row ∷ []) k (decision_gathered o)) (sym x.now) x.decision_now)
    | inr n ↦
        subst (λ (o : Option Instance). IsDecision certs (rows ++ row ∷ []) j (decision_gathered o)) (sym (x.others j n)) (decision_kept certs rows row j _ (h.decision j) (λ p commit. x.decision_else j p commit n))
  ];
}
  where
    or_false : (b : Bool) → (b || false) ≡ b
    or_false true = refl
    or_false false = refl

pub never_past : {certs : List Certificate} (list : List Instance) (rows : List Event) (k i : ℕ) → Gathered certs list rows → has_begun (past rows) k ≡ true → i ≡ k - 1 → 1 ≤ k → length list ≤ i → ⊥
never_past {certs} list rows k i h begun e l past_it =
    let there = begun_gathered list rows k h begun in
    cc (sym there.1 ∙ (number_at list i k e l ∙ slice_get_past list i past_it))

-- an instance at an index that a row changes
changed : {certs : List Certificate} (list : List Instance) (rows : List Event) (row : Event) (i k : ℕ) (u w : Instance) → i ≡ k - 1 → 1 ≤ k → i < length list → u ≡ get_or list i u
    → beginning_gathered w ≡ beginning_gathered u → w.members.items ≡ u.members.items ++ members (row ∷ []) k → ((j : ℕ) → j ≢ k → members (row ∷ []) j ≡ [])
    → w.refused ≡ (u.refused || is_unwilling k row) → ((j : ℕ) → j ≢ k → is_unwilling j row ≡ false)
    → IsDecision certs (rows ++ row ∷ []) k w.decision → ((j p : ℕ) (commit : Bool) → j ≢ k → row ≡ event.Decided p j commit → ⊥)
    → IsChanged certs list (set list i w) rows row k u w
changed {certs} list rows row i k u w e l b r beginning members_now members_else refused_now refused_else decision_now decision_else =
    let at : slice_get list i ≡ Some u = slice_get_read list (length list) i u refl b r in
    record {
      was = number_at list i k e l ∙ at;
      now = number_set_same list i k w e l b;
      others = λ j n. number_set_other list i k j w e l n;
      beginnings = set_mapped beginning_gathered list i u w at beginning;
      members_now = members_now;
      members_else = members_else;
      refused_now = refused_now;
      refused_else = refused_else;
      decision_now = decision_now;
      decision_else = decision_else;
    }

decision_at : {certs : List Certificate} (list : List Instance) (rows : List Event) (i k : ℕ) (u : Instance) → Gathered certs list rows → i ≡ k - 1 → 1 ≤ k → i < length list → u ≡ get_or list i u → IsDecision certs rows k u.decision
decision_at {certs} list rows i k u h e l b r =
    subst (λ (o : Option Instance). IsDecision certs rows k (decision_gathered o)) (number_at list i k e l ∙ slice_get_read list (length list) i u refl b r) (h.decision k)

same_number : (k : ℕ) → (k == k) ≡ true
same_number k = grind (arith, nat_tests)

other_number : (j k : ℕ) → j ≢ k → (k == j) ≡ false
other_number j k n = grind (arith, nat_tests, n)

or_true : (b : Bool) → true ≡ (b || true)
or_true true = refl
or_true false = refl

or_none : (b : Bool) → b ≡ (b || false)
or_none true = refl
or_none false = refl

pub gathered_unwilling : {certs : List Certificate} (list : List Instance) (rows : List Event) (p k : ℕ) (cause : Cause) (i : ℕ) (u : Instance) → i ≡ k - 1 → 1 ≤ k → i < length list → u ≡ get_or list i u → Gathered certs list rows
    → Gathered certs (set list i (record u { refused = true })) (rows ++ event.Unwilling p k cause ∷ [])
gathered_unwilling {certs} list rows p k cause i u e l b r h =
    let row : Event = event.Unwilling p k cause in
    gathered_changed list _ rows row k u _ h (changed list rows row i k u (record u { refused = true }) e l b r refl (sym (append-nil u.members.items)) (λ j n. refl)
    (or_true u.refused ∙ ap (λ (t : Bool). u.refused || t) (sym (same_number k))) (λ j n. other_number j k n)
    (decision_kept certs rows row k _ (decision_at list rows i k u h e l b r) (λ q commit f. absurd (cc))) (λ j q commit n f. absurd (cc)))
    (ap (λ (s : Past). s.begun) (past_push rows row))

pub gathered_decided : {certs : List Certificate} (list : List Instance) (rows : List Event) (p : ℕ) (d : Decision) (i : ℕ) (u : Instance) → i ≡ d.inst - 1 → 1 ≤ d.inst → i < length list → u ≡ get_or list i u → d.row ≡ length rows + 1
    → IsFoundFirst certs rows d.inst d.commit d.fault → Gathered certs list rows → Gathered certs (set list i (record u { decision = Some d })) (rows ++ event.Decided p d.inst d.commit ∷ [])
gathered_decided {certs} list rows p d i u e l b r n finding h =
    let k : ℕ = d.inst in
    let commit : Bool = d.commit in
    let row : Event = event.Decided p d.inst d.commit in
    let same : rows ≡ take (length rows) (rows ++ row ∷ []) = sym (take-append_seam rows (row ∷ [])) in
    gathered_changed list _ rows row k u _ h (changed list rows row i k u (record u { decision = Some d }) e l b r refl (sym (append-nil u.members.items)) (λ j m. refl)
    (or_none u.refused) (λ j m. refl)
    (length rows, p, n, get_seam rows row [], refl, subst (λ (t : List Event). IsFoundFirst certs t d.inst d.commit d.fault) same finding) (λ j q c m f. decided_else j q c m f))
    (ap (λ (s : Past). s.begun) (past_push rows row))
  where
    decided_else : (j q : ℕ) (c : Bool) → j ≢ d.inst → event.Decided p d.inst d.commit ≡ event.Decided q j c → ⊥
    decided_else j q c m f =
        let same : j ≡ d.inst = cc in
        m same

join_now : (k p : ℕ) → (if k == k then p ∷ [] else []) ≡ p ∷ []
join_now k p = ap (λ (b : Bool). if b then p ∷ [] else []) (same_number k)

join_else : (j k p : ℕ) → j ≢ k → (if k == j then p ∷ [] else []) ≡ []
join_else j k p n = ap (λ (b : Bool). if b then p ∷ [] else []) (other_number j k n)

listed_if : (b : Bool) (p : ℕ) → cons_option (if b then Some p else None) [] ≡ (if b then p ∷ [] else [])
listed_if true p = refl
listed_if false p = refl

pub gathered_took : {certs : List Certificate} (list : List Instance) (rows : List Event) (p k i : ℕ) (u w : Instance) → i ≡ k - 1 → 1 ≤ k → i < length list → u ≡ get_or list i u
    → beginning_gathered w ≡ beginning_gathered u → w.refused ≡ u.refused → w.decision ≡ u.decision → w.members.items ≡ u.members.items ++ p ∷ [] → Gathered certs list rows
    → Gathered certs (set list i w) (rows ++ event.Took p k ∷ [])
gathered_took {certs} list rows p k i u w e l b r beginning refused decision joined h =
    let row : Event = event.Took p k in
    gathered_changed list _ rows row k u _ h (changed list rows row i k u w e l b r beginning
    (joined ∙ ap (λ (t : List ℕ). u.members.items ++ t) (sym (listed_if (k == k) p ∙ join_now k p))) (λ j n. listed_if (k == j) p ∙ join_else j k p n)
    (refused ∙ or_none u.refused) (λ j n. refl)
    (subst (IsDecision certs (rows ++ row ∷ []) k) (sym decision) (decision_kept certs rows row k _ (decision_at list rows i k u h e l b r) (λ q commit f. absurd (cc)))) (λ j q commit n f. absurd (cc)))
    (ap (λ (s : Past). s.begun) (past_push rows row))

pub gathered_ready : {certs : List Certificate} (list : List Instance) (rows : List Event) (p k i : ℕ) (u w : Instance) → i ≡ k - 1 → 1 ≤ k → i < length list → u ≡ get_or list i u
    → beginning_gathered w ≡ beginning_gathered u → w.refused ≡ u.refused → w.decision ≡ u.decision → w.members.items ≡ u.members.items ++ p ∷ [] → Gathered certs list rows
    → Gathered certs (set list i w) (rows ++ event.Ready p k ∷ [])
gathered_ready {certs} list rows p k i u w e l b r beginning refused decision joined h =
    let row : Event = event.Ready p k in
    gathered_changed list _ rows row k u _ h (changed list rows row i k u w e l b r beginning
    (joined ∙ ap (λ (t : List ℕ). u.members.items ++ t) (sym (listed_if (k == k) p ∙ join_now k p))) (λ j n. listed_if (k == j) p ∙ join_else j k p n)
    (refused ∙ or_none u.refused) (λ j n. refl)
    (subst (IsDecision certs (rows ++ row ∷ []) k) (sym decision) (decision_kept certs rows row k _ (decision_at list rows i k u h e l b r) (λ q commit f. absurd (cc)))) (λ j q commit n f. absurd (cc)))
    (ap (λ (s : Past). s.begun) (past_push rows row))

pub gathered_began : {certs : List Certificate} (list : List Instance) (rows : List Event) (p k : ℕ) (kind : Kind) (v : Instance) → Gathered certs list rows → v.initiator ≡ p → v.kind ≡ kind → v.decision ≡ None → v.refused ≡ false → v.members.items ≡ []
    → Gathered certs (list ++ v ∷ []) (rows ++ event.Began p k kind ∷ [])
gathered_began {certs} list rows p k kind v h initiator of_kind undecided willing alone =
    let row : Event = event.Began p k kind in
    record {
      begun = map-append beginning_gathered list (v ∷ []) ∙ ((λ i. h.begun i ++ record { initiator = initiator i; kind = of_kind i } ∷ []) ∙ sym (ap (λ (s : Past). s.begun) (past_push rows row)));
      members_listed = λ j. at_new (λ o. members_gathered o) j alone ∙ (h.members_listed j ∙ sym (members_push rows row j ∙ append-nil (members rows j)));
      refused = λ j. at_new (λ o. refused_gathered o) j willing ∙ (h.refused j ∙ sym (unwilling_push rows row j ∙ sym (or_none (has_unwilling rows j))));
      decision = λ j. subst (IsDecision certs (rows ++ row ∷ []) j) (sym (at_new (λ o. decision_gathered o) j undecided)) (decision_kept certs rows row j _ (h.decision j) (λ q commit f. absurd (cc)));
    }
  where
    at_new : {X : Type 0} (f : Option Instance → X) (j : ℕ) → f (Some v) ≡ f None → f (at_number (list ++ v ∷ []) j) ≡ f (at_number list j)
    at_new f j e = elim (cases_eq j (length list + 1)) [
      | inl is ↦ ap f (new_item list v j is) ∙ (e ∙ ap f (sym (no_item list j (omega (arith, is)))))
      | inr n ↦ ap f (old_item list v j n)
    ]

pub gathered_sent : {certs : List Certificate} (list : List Instance) (rows : List Event) (p to : ℕ) (body : _) → Gathered certs list rows → Gathered certs list (rows ++ event.Sent p to body ∷ [])
gathered_sent {certs} list rows p to body h =
    gathered_quiet list rows (event.Sent p to body) h (ap (λ (s : Past). s.begun) (past_push rows (event.Sent p to body))) (λ j. refl) (λ j. refl) (λ j q commit f. absurd (cc))

pub gathered_received : {certs : List Certificate} (list : List Instance) (rows : List Event) (p from msg : ℕ) → Gathered certs list rows → Gathered certs list (rows ++ event.Received p from msg ∷ [])
gathered_received {certs} list rows p from msg h =
    gathered_quiet list rows (event.Received p from msg) h (ap (λ (s : Past). s.begun) (past_push rows (event.Received p from msg))) (λ j. refl) (λ j. refl) (λ j q commit f. absurd (cc))

pub gathered_dropped : {certs : List Certificate} (list : List Instance) (rows : List Event) (p from msg : ℕ) → Gathered certs list rows → Gathered certs list (rows ++ event.Dropped p from msg ∷ [])
gathered_dropped {certs} list rows p from msg h =
    gathered_quiet list rows (event.Dropped p from msg) h (ap (λ (s : Past). s.begun) (past_push rows (event.Dropped p from msg))) (λ j. refl) (λ j. refl) (λ j q commit f. absurd (cc))

pub gathered_closed : {certs : List Certificate} (list : List Instance) (rows : List Event) (p k : ℕ) → Gathered certs list rows → Gathered certs list (rows ++ event.Closed p k ∷ [])
gathered_closed {certs} list rows p k h =
    gathered_quiet list rows (event.Closed p k) h (ap (λ (s : Past). s.begun) (past_push rows (event.Closed p k))) (λ j. refl) (λ j. refl) (λ j q commit f. absurd (cc))

pub gathered_failed : {certs : List Certificate} (list : List Instance) (rows : List Event) (p : ℕ) → Gathered certs list rows → Gathered certs list (rows ++ event.Failed p ∷ [])
gathered_failed {certs} list rows p h =
    gathered_quiet list rows (event.Failed p) h (ap (λ (s : Past). s.begun) (past_push rows (event.Failed p))) (λ j. refl) (λ j. refl) (λ j q commit f. absurd (cc))

pub gathered_refused : {certs : List Certificate} (list : List Instance) (rows : List Event) (p : ℕ) (verb : Verb) (cause : Cause) → Gathered certs list rows → Gathered certs list (rows ++ event.Refused p verb cause ∷ [])
gathered_refused {certs} list rows p verb cause h =
    gathered_quiet list rows (event.Refused p verb cause) h (ap (λ (s : Past). s.begun) (past_push rows (event.Refused p verb cause))) (λ j. refl) (λ j. refl) (λ j q commit f. absurd (cc))
