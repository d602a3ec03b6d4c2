-- Rows of instances and failures: tables go on showing what is known.
use Rattle.std.proofs.Common.{◌≡◌, ◌≢◌, ℕ, zero, suc, ◌+◌, ◌<◌, ◌≤◌, ◌&&◌, ◌||◌, nat_le, if◌then◌else◌, Bool, true, false, Option, Some, None, option_map, unwrap_or, List, [], ◌∷◌, ◌++◌, length, get_or, set, take, refl, sym, ap, ◌∙◌, subst, arith, inl, inr, length-append}
use Rattle.std.specs.List.{slice_get}
use Rattle.std.proofs.lemmas.Bool.{cases_lt, cases_eq, and_parts}
use Rattle.std.proofs.lemmas.Bool.Decides.{nat_tests}
use Rattle.std.proofs.lemmas.List.{map-append, length-set, length-map, get_or-set_other}
use Rattle.std.proofs.lemmas.Option.{slice_get_past, slice_get-map, get_or_from_slice_get}
use Rattle.kt_base.specs.Sets.{has}
use Rattle.kt_base.specs.declared.words.Kind.{Kind}
use Rattle.kt_base.specs.declared.words.Kind.TheVariants.{Checkpoint, Rollback}
use Rattle.kt_spacetime.specs.declared.event.Event.TheVariants as event
use Rattle.kt_spacetime.specs.declared.deeds.Deed.{Deed}
use Rattle.kt_rules.specs.declared.instances.Instance.{Instance}
use Rattle.kt_meaning.specs.Past.{Past, Beginning, after, at_one, at_pair, kind_of, beginning_of, is_checkpoint, is_rollback, is_committed, is_checkpoint_kind, is_rollback_kind}
use Rattle.kt_meaning.specs.Legal.{has_begun}
use Rattle.kt_rules.specs.Lists.{NumbersRise, received_in}
use Rattle.kt_rules.specs.Tables.{is_committed_decision}
use Rattle.kt_rules.specs.Changes.{HasOneMore, IsDecided}
use Rattle.kt_rules.specs.Standing.{ShowsInstances, at_number, beginning_shown, decision_shown, new_shown, ready_shown, kind_shown, rolled_back_shown}
use Rattle.kt_meaning.proofs.Items.{get_left, get_seam, get_set_same, item_there, some_same}
use Rattle.kt_meaning.proofs.LegalLogs.{kept}
use Rattle.kt_meaning.proofs.Shown.{at_same, at_other}

-- a function of two numbers with another value at one pair
pub pair_same : {X : Type 0} (k p : ℕ) (x : X) (f : ℕ → ℕ → X) → at_pair k p x f k p ≡ x
pair_same k p x f = grind (arith, nat_tests)

pub pair_other : {X : Type 0} (k p j q : ℕ) (x : X) (f : ℕ → ℕ → X) → q ≢ p → at_pair k p x f j q ≡ f j q
pair_other k p j q x f n = grind (arith, nat_tests, n)

pub pair_else : {X : Type 0} (k p j q : ℕ) (x : X) (f : ℕ → ℕ → X) → j ≢ k → at_pair k p x f j q ≡ f j q
pair_else k p j q x f n = grind (arith, nat_tests, n)

-- the items with one more
pub old_item : {X : Type 0} (xs : List X) (x : X) (k : ℕ) → k ≢ length xs + 1 → at_number (xs ++ x ∷ []) k ≡ at_number xs k
old_item xs x zero n = refl
old_item xs x (suc k) n = elim (cases_lt k (length xs)) [
  | inl l ↦ get_left xs (x ∷ []) k l
  | inr g ↦
      slice_get_past (xs ++ x ∷ []) k (omega (arith, g, n, length-append xs (x ∷ []))) ∙ sym (slice_get_past xs k g)
]

pub new_item : {X : Type 0} (xs : List X) (x : X) (k : ℕ) → k ≡ length xs + 1 → at_number (xs ++ x ∷ []) k ≡ Some x
new_item xs x zero e = absurd (omega (arith, e))
new_item xs x (suc k) e =
    let at : k ≡ length xs = omega (arith, e) in
    ap (slice_get (xs ++ x ∷ [])) at ∙ get_seam xs x []

pub no_item : {X : Type 0} (xs : List X) (k : ℕ) → length xs < k → at_number xs k ≡ None
no_item xs zero l = refl
no_item xs (suc k) l = slice_get_past xs k (omega (arith, l))

pub same_instances : (js : List Instance) (s t : Past) → ShowsInstances js s → t.begun ≡ s.begun → t.decision ≡ s.decision → t.new ≡ s.new → t.ready ≡ s.ready → ShowsInstances js t
same_instances js s t h b v n r = record {
  begun = h.begun ∙ sym b;
  decision = λ k. h.decision k ∙ ap (λ (f : ℕ → Option Bool). f k) (sym v);
  new = λ k p. h.new k p ∙ ap (λ (f : ℕ → ℕ → Option ℕ). f k p) (sym n);
  ready = λ k p. h.ready k p ∙ ap (λ (f : ℕ → ℕ → Bool). f k p) (sym r);
  positions = h.positions;
}

pub not_new : (v : Instance) (q : ℕ) → has v.joined q ≡ false → new_shown (Some v) q ≡ None
not_new v q e = grind (arith, e)

pub not_ready : (v : Instance) (q : ℕ) → has v.joined q ≡ false → ready_shown (Some v) q ≡ false
not_ready v q e = grind (arith, e)

pub began_instances : (js : List Instance) (s : Past) (p k : ℕ) (kind : Kind) (v : Instance) → ShowsInstances js s → v.initiator ≡ p → v.kind ≡ kind → v.decision ≡ None → ((q : ℕ) → has v.joined q ≡ false) → length v.positions ≡ 64
    → ShowsInstances (js ++ v ∷ []) (after s (event.Began p k kind))
began_instances js s p k kind v h initiator of_kind undecided empty positions = record {
  begun = map-append beginning_shown js (v ∷ []) ∙ (λ i. h.begun i ++ record { initiator = initiator i; kind = of_kind i } ∷ []);
  decision = λ j. elim (cases_eq j (length js + 1)) [
    | inl e ↦
        ap decision_shown (new_item js v j e) ∙ (undecided ∙ (sym (ap decision_shown (no_item js j (omega (arith, e)))) ∙ h.decision j))
    | inr n ↦ ap decision_shown (old_item js v j n) ∙ h.decision j
  ];
  new = λ j q. elim (cases_eq j (length js + 1)) [
    | inl e ↦
        ap (λ (o : Option Instance). new_shown o q) (new_item js v j e) ∙ (not_new v q (empty q) ∙ (sym (ap (λ (o : Option Instance). new_shown o q) (no_item js j (omega (arith, e)))) ∙ h.new j q))
    | inr n ↦ ap (λ (o : Option Instance). new_shown o q) (old_item js v j n) ∙ h.new j q
  ];
  ready = λ j q. elim (cases_eq j (length js + 1)) [
    | inl e ↦
        ap (λ (o : Option Instance). ready_shown o q) (new_item js v j e) ∙ (not_ready v q (empty q) ∙ (sym (ap (λ (o : Option Instance). ready_shown o q) (no_item js j (omega (arith, e)))) ∙ h.ready j q))
    | inr n ↦ ap (λ (o : Option Instance). ready_shown o q) (old_item js v j n) ∙ h.ready j q
  ];
  positions = λ j w e. elim (cases_eq j (length js + 1)) [
    | inl is ↦
        let same : v ≡ w = some_same (sym (new_item js v j is) ∙ e) in
        subst (λ (x : Instance). length x.positions ≡ 64) same positions
    | inr n ↦ h.positions j w (sym (old_item js v j n) ∙ e)
  ];
}

-- how an instance began
pub beginning_known : (js : List Instance) (s : Past) (k : ℕ) → ShowsInstances js s → beginning_of s k ≡ option_map beginning_shown (at_number js k)
beginning_known js s zero h = refl
beginning_known js s (suc k) h = ap (λ (l : List Beginning). slice_get l k) (sym h.begun) ∙ slice_get-map beginning_shown js k

pub kind_known : (js : List Instance) (s : Past) (k : ℕ) → ShowsInstances js s → kind_of s k ≡ kind_shown (at_number js k)
kind_known js s k h = ap (λ (o : Option Beginning). option_map (λ b. b.kind) o) (beginning_known js s k h) ∙ through (at_number js k)
  where
    through : (o : Option Instance) → option_map (λ b. b.kind) (option_map beginning_shown o) ≡ kind_shown o
    through None = refl
    through (Some v) = refl

-- an instance that has begun is there
pub begun_there : (js : List Instance) (s : Past) (k : ℕ) → ShowsInstances js s → has_begun s k ≡ true → (v : Instance) × (at_number js k ≡ Some v)
begun_there js s zero h e =
    let no : false ≡ true = e in
    absurd (cc)
begun_there js s (suc k) h e =
    let parts = and_parts (nat_le 1 (suc k)) (nat_le (suc k) (length s.begun)) e in
    let low : suc k ≤ length s.begun = grind (arith, nat_tests, parts.1) in
    let same : length js ≡ length s.begun = sym (length-map js beginning_shown) ∙ ap length h.begun in
    item_there js k (omega (arith, low, same))

-- an instance of a kind is there
pub is_checkpoint_there : (o : Option Instance) → is_checkpoint_kind (kind_shown o) ≡ true → (v : Instance) × (o ≡ Some v) × (v.kind ≡ Checkpoint)
is_checkpoint_there None e = absurd (cc)
is_checkpoint_there (Some v) e = (v, refl, of_kind v.kind e)
  where
    of_kind : (k : Kind) → is_checkpoint_kind (Some k) ≡ true → k ≡ Checkpoint
    of_kind Checkpoint h = refl
    of_kind Rollback h = absurd (cc)

pub is_rollback_there : (o : Option Instance) → is_rollback_kind (kind_shown o) ≡ true → (v : Instance) × (o ≡ Some v) × (v.kind ≡ Rollback)
is_rollback_there None e = absurd (cc)
is_rollback_there (Some v) e = (v, refl, of_kind v.kind e)
  where
    of_kind : (k : Kind) → is_rollback_kind (Some k) ≡ true → k ≡ Rollback
    of_kind Checkpoint h = absurd (cc)
    of_kind Rollback h = refl

-- what is shown of a member and of others
pub new_member : (v : Instance) (q : ℕ) → v.kind ≡ Checkpoint → has v.joined q ≡ true → new_shown (Some v) q ≡ Some (get_or v.positions q 0)
new_member v q e h = grind (arith, e, h)

pub new_of_rollback : (v : Instance) (q : ℕ) → v.kind ≡ Rollback → new_shown (Some v) q ≡ None
new_of_rollback v q e = grind (arith, e)

pub ready_member : (v : Instance) (q : ℕ) → v.kind ≡ Rollback → ready_shown (Some v) q ≡ has v.joined q
ready_member v q e = grind (arith, e)

pub ready_of_checkpoint : (v : Instance) (q : ℕ) → v.kind ≡ Checkpoint → ready_shown (Some v) q ≡ false
ready_of_checkpoint v q e = grind (arith, e)

new_other : (v w : Instance) (q : ℕ) → w.kind ≡ v.kind → has w.joined q ≡ has v.joined q → get_or w.positions q 0 ≡ get_or v.positions q 0 → new_shown (Some w) q ≡ new_shown (Some v) q
new_other v w q a b c = λ i. if is_checkpoint_kind (Some (a i)) && b i then Some (c i) else None

ready_other : (v w : Instance) (q : ℕ) → w.kind ≡ v.kind → has w.joined q ≡ has v.joined q → ready_shown (Some w) q ≡ ready_shown (Some v) q
ready_other v w q a b = λ i. is_rollback_kind (Some (a i)) && b i

joined_decision : (js is : List Instance) (s : Past) (k p position : ℕ) (v w : Instance) → ShowsInstances js s → HasOneMore js is k p position v w → (j : ℕ) → decision_shown (at_number is j) ≡ s.decision j
joined_decision js is s k p position v w h x j = elim (cases_eq j k) [
  | inl e ↦
      ap (λ (n : ℕ). decision_shown (at_number is n)) e ∙ (ap decision_shown x.now ∙ (x.decision ∙ (sym (ap decision_shown x.was) ∙ (h.decision k ∙ ap s.decision (sym e)))))
  | inr n ↦ ap decision_shown (x.others j n) ∙ h.decision j
]

joined_positions : (js is : List Instance) (s : Past) (k p position : ℕ) (v w : Instance) → ShowsInstances js s → HasOneMore js is k p position v w → (j : ℕ) (u : Instance) → at_number is j ≡ Some u → length u.positions ≡ 64
joined_positions js is s k p position v w h x j u e = elim (cases_eq j k) [
  | inl same ↦
      let here : w ≡ u = some_same (sym x.now ∙ (ap (at_number is) (sym same) ∙ e)) in
      subst (λ (y : Instance). length y.positions ≡ 64) here (ap length x.positions ∙ (length-set v.positions p position ∙ h.positions k v x.was))
  | inr n ↦ h.positions j u (sym (x.others j n) ∙ e)
]

joined_place : (v : Instance) (p position : ℕ) → length v.positions ≡ 64 → p < 64 → get_or (set v.positions p position) p 0 ≡ position
joined_place v p position l low = get_or_from_slice_get _ p position 0 (get_set_same v.positions p position (omega (arith, l, low)))

joined_kind : (js : List Instance) (s : Past) (k : ℕ) (u : Instance) → ShowsInstances js s → is_checkpoint s k ≡ true → (is : List Instance) (p position : ℕ) (w : Instance) → HasOneMore js is k p position u w → u.kind ≡ Checkpoint
joined_kind js s k u h checkpoint is p position w x =
    let there = is_checkpoint_there (at_number js k) (ap is_checkpoint_kind (sym (kind_known js s k h)) ∙ checkpoint) in
    ap (λ (y : Instance). y.kind) (some_same (sym x.was ∙ there.1)) ∙ there.2

rolling_kind : (js : List Instance) (s : Past) (k : ℕ) (u : Instance) → ShowsInstances js s → is_rollback s k ≡ true → (is : List Instance) (p position : ℕ) (w : Instance) → HasOneMore js is k p position u w → u.kind ≡ Rollback
rolling_kind js s k u h rollback is p position w x =
    let there = is_rollback_there (at_number js k) (ap is_rollback_kind (sym (kind_known js s k h)) ∙ rollback) in
    ap (λ (y : Instance). y.kind) (some_same (sym x.was ∙ there.1)) ∙ there.2

pub took_instances : (js is : List Instance) (s : Past) (p k position : ℕ) (u w : Instance) → ShowsInstances js s → is_checkpoint s k ≡ true → p < 64 → position ≡ length (s.live p) → HasOneMore js is k p position u w
    → ShowsInstances is (after s (event.Took p k))
took_instances js is s p k position u w h checkpoint low same x = record {
  begun = x.beginnings ∙ h.begun;
  decision = joined_decision js is s k p position u w h x;
  new = λ j q. elim (cases_eq j k) [
    | inl e ↦ elim (cases_eq q p) [
      | inl here ↦
          let place = joined_place u p position (h.positions k u x.was) low in
          let base : new_shown (at_number is k) p ≡ at_pair k p (Some (length (s.live p))) s.new k p =
          ap (λ (o : Option Instance). new_shown o p) x.now ∙ (new_member w p (x.kind ∙ joined_kind js s k u h checkpoint is p position w x) x.joined ∙ (ap (λ (l : List ℕ). Some (get_or l p 0)) x.positions
          ∙ (ap Some place ∙ (ap Some same ∙ sym (pair_same k p (Some (length (s.live p))) s.new))))) in
          (λ i. new_shown (at_number is (e i)) (here i)) ∙ (base ∙ (λ i. at_pair k p (Some (length (s.live p))) s.new (sym e i) (sym here i)))
      | inr n ↦
          let kept = ap (λ (l : List ℕ). get_or l q 0) x.positions ∙ get_or-set_other u.positions p q position 0 n in
          (λ i. new_shown (at_number is (e i)) q) ∙ (ap (λ (o : Option Instance). new_shown o q) x.now ∙ (new_other u w q x.kind (x.not_joined q n) kept
          ∙ (sym (ap (λ (o : Option Instance). new_shown o q) x.was) ∙ (h.new k q ∙ (ap (λ (m : ℕ). s.new m q) (sym e) ∙ sym (pair_other k p j q (Some (length (s.live p))) s.new n))))))
    ]
    | inr n ↦ ap (λ (o : Option Instance). new_shown o q) (x.others j n) ∙ (h.new j q ∙ sym (pair_else k p j q (Some (length (s.live p))) s.new n))
  ];
  ready = λ j q. elim (cases_eq j k) [
    | inl e ↦
        (λ i. ready_shown (at_number is (e i)) q) ∙ (ap (λ (o : Option Instance). ready_shown o q) x.now ∙ (ready_of_checkpoint w q (x.kind ∙ joined_kind js s k u h checkpoint is p position w x) ∙ (sym (ready_of_checkpoint u q (joined_kind js s k u h checkpoint is p position w x))
        ∙ (sym (ap (λ (o : Option Instance). ready_shown o q) x.was) ∙ (h.ready k q ∙ ap (λ (m : ℕ). s.ready m q) (sym e))))))
    | inr n ↦ ap (λ (o : Option Instance). ready_shown o q) (x.others j n) ∙ h.ready j q
  ];
  positions = joined_positions js is s k p position u w h x;
}

pub ready_instances : (js is : List Instance) (s : Past) (p k position : ℕ) (u w : Instance) → ShowsInstances js s → is_rollback s k ≡ true → p < 64 → HasOneMore js is k p position u w
    → ShowsInstances is (after s (event.Ready p k))
ready_instances js is s p k position u w h rollback low x = record {
  begun = x.beginnings ∙ h.begun;
  decision = joined_decision js is s k p position u w h x;
  new = λ j q. elim (cases_eq j k) [
    | inl e ↦
        (λ i. new_shown (at_number is (e i)) q) ∙ (ap (λ (o : Option Instance). new_shown o q) x.now ∙ (new_of_rollback w q (x.kind ∙ rolling_kind js s k u h rollback is p position w x) ∙ (sym (new_of_rollback u q (rolling_kind js s k u h rollback is p position w x))
        ∙ (sym (ap (λ (o : Option Instance). new_shown o q) x.was) ∙ (h.new k q ∙ ap (λ (m : ℕ). s.new m q) (sym e))))))
    | inr n ↦ ap (λ (o : Option Instance). new_shown o q) (x.others j n) ∙ h.new j q
  ];
  ready = λ j q. elim (cases_eq j k) [
    | inl e ↦ elim (cases_eq q p) [
      | inl here ↦
          let base : ready_shown (at_number is k) p ≡ at_pair k p true s.ready k p =
          ap (λ (o : Option Instance). ready_shown o p) x.now ∙ (ready_member w p (x.kind ∙ rolling_kind js s k u h rollback is p position w x) ∙ (x.joined ∙ sym (pair_same k p true s.ready))) in
          (λ i. ready_shown (at_number is (e i)) (here i)) ∙ (base ∙ (λ i. at_pair k p true s.ready (sym e i) (sym here i)))
      | inr n ↦
          (λ i. ready_shown (at_number is (e i)) q) ∙ (ap (λ (o : Option Instance). ready_shown o q) x.now ∙ (ready_other u w q x.kind (x.not_joined q n)
          ∙ (sym (ap (λ (o : Option Instance). ready_shown o q) x.was) ∙ (h.ready k q ∙ (ap (λ (m : ℕ). s.ready m q) (sym e) ∙ sym (pair_other k p j q true s.ready n))))))
    ]
    | inr n ↦ ap (λ (o : Option Instance). ready_shown o q) (x.others j n) ∙ (h.ready j q ∙ sym (pair_else k p j q true s.ready n))
  ];
  positions = joined_positions js is s k p position u w h x;
}

pub decided_instances : (js is : List Instance) (s : Past) (p k : ℕ) (commit : Bool) (v : Instance) → ShowsInstances js s → IsDecided js is k commit v → ShowsInstances is (after s (event.Decided p k commit))
decided_instances js is s p k commit v h x = record {
  begun = x.beginnings ∙ h.begun;
  decision = λ j. elim (cases_eq j k) [
    | inl e ↦
        (λ i. decision_shown (at_number is (e i))) ∙ (ap decision_shown x.now ∙ (sym (at_same k (Some commit) s.decision) ∙ ap (at_one k (Some commit) s.decision) (sym e)))
    | inr n ↦ ap decision_shown (x.others j n) ∙ (h.decision j ∙ sym (at_other k j (Some commit) s.decision n))
  ];
  new = λ j q. elim (cases_eq j k) [
    | inl e ↦
        (λ i. new_shown (at_number is (e i)) q) ∙ (ap (λ (o : Option Instance). new_shown o q) x.now ∙ (sym (ap (λ (o : Option Instance). new_shown o q) x.was) ∙ (h.new k q ∙ ap (λ (m : ℕ). s.new m q) (sym e))))
    | inr n ↦ ap (λ (o : Option Instance). new_shown o q) (x.others j n) ∙ h.new j q
  ];
  ready = λ j q. elim (cases_eq j k) [
    | inl e ↦
        (λ i. ready_shown (at_number is (e i)) q) ∙ (ap (λ (o : Option Instance). ready_shown o q) x.now ∙ (sym (ap (λ (o : Option Instance). ready_shown o q) x.was) ∙ (h.ready k q ∙ ap (λ (m : ℕ). s.ready m q) (sym e))))
    | inr n ↦ ap (λ (o : Option Instance). ready_shown o q) (x.others j n) ∙ h.ready j q
  ];
  positions = λ j u e. elim (cases_eq j k) [
    | inl same ↦
        let here : record v { decision = Some commit } ≡ u = some_same (sym x.now ∙ (ap (at_number is) (sym same) ∙ e)) in
        subst (λ (y : Instance). length y.positions ≡ 64) here (h.positions k v x.was)
    | inr n ↦ h.positions j u (sym (x.others j n) ∙ e)
  ];
}

pub closed_rises : (was : Bool) (p : ℕ) (f : ℕ → List Deed) (q g : ℕ) → ((r x : ℕ) → NumbersRise (received_in x (f r))) → NumbersRise (received_in g (at_one p (if was then [] else f p) f q))
closed_rises was p f q g all = elim (cases_eq q p) [
  | inl e ↦
      subst (λ (l : List Deed). NumbersRise (received_in g l)) (sym (ap (at_one p (if was then [] else f p) f) e ∙ at_same p (if was then [] else f p) f)) (forgotten was)
  | inr n ↦ subst (λ (l : List Deed). NumbersRise (received_in g l)) (sym (at_other p q (if was then [] else f p) f n)) (all q g)
]
  where
    forgotten : (y : Bool) → NumbersRise (received_in g (if y then [] else f p))
    forgotten true = λ i j d l m. absurd (omega (arith, m))
    forgotten false = all p g

-- a property of a history, and of its front
pub if_front : (P : List Deed → Type 0) (b : Bool) (n : ℕ) (l : List Deed) → P l → P (take n l) → P (if b then take n l else l)
if_front P true n l whole front = front
if_front P false n l whole front = whole

-- what the close of an instance finds
pub rolled_known : (js : List Instance) (s : Past) (k : ℕ) → ShowsInstances js s → rolled_back_shown (at_number js k) ≡ (is_rollback s k && is_committed s k)
rolled_known js s k h =
    shown (at_number js k) ∙ (λ i. is_rollback_kind (sym (kind_known js s k h) i) && unwrap_or (h.decision k i) false)
  where
    shown : (o : Option Instance) → rolled_back_shown o ≡ (is_rollback_kind (kind_shown o) && unwrap_or (decision_shown o) false)
    shown None = refl
    shown (Some v) = ap (λ (y : Bool). is_rollback_kind (Some v.kind) && y) (committed v.decision)
      where
        committed : (o : Option Bool) → is_committed_decision o ≡ unwrap_or o false
        committed None = refl
        committed (Some y) = refl
