-- What is in transit and what was received last, after one more row.
use Rattle.std.proofs.Common.{◌≡◌, ◌≢◌, ℕ, ◌+◌, ◌<◌, ◌≤◌, ◌||◌, Bool, true, false, Some, List, [], ◌∷◌, ◌++◌, length, refl, sym, ap, ◌∙◌, subst, arith, inl, inr}
use Rattle.std.specs.List.{slice_get, remove}
use Rattle.std.proofs.lemmas.Bool.{cases_eq}
use Rattle.std.proofs.lemmas.List.{take-append-le}
use Rattle.kt_spacetime.specs.declared.deeds.Deed.{Deed}
use Rattle.kt_spacetime.specs.declared.deeds.Deed.TheVariants as deed
use Rattle.kt_meaning.specs.Past.{Past, at_one}
use Rattle.kt_meaning.specs.Legal.{has_deed}
use Rattle.kt_rules.specs.Tests.{is_after}
use Rattle.kt_meaning.proofs.Shown.{at_same, at_other}
use Rattle.kt_meaning.proofs.Updates.{at_one_all}
use Rattle.kt_meaning.proofs.Lists.{get_kept, get_last}
use Rattle.kt_rules.proofs.DeedFacts.{has_at}
use Rattle.kt_meaning.proofs.DeedFacts.{place_of_deed}
use Rattle.kt_walk.specs.declared.in_transit.Sent.{Sent as InTransit}
use Rattle.kt_walk.specs.LastReceived.{IsLastFrom}
use Rattle.kt_walk.proofs.InTransitFacts.{same_away, other_deed, one_sent, one_taken}
use Rattle.kt_walk.proofs.LastFacts.{last_received, last_stays}
use Rattle.kt_walk.specs.Pairs.{PairState, IsTransit, ShowsTransit, IsFitPast, away_in}
use Rattle.kt_walk.proofs.ItemPlaces.{lacks_push}
use Rattle.kt_walk.proofs.PairFacts.{same_sent}

-- another deed at the end changes nothing of what a history has
pub has_more : (d x : Deed) (l : List Deed) → x ≢ d → has_deed d (l ++ x ∷ []) ≡ has_deed d l
has_more d x l other = at_test (has_deed d l) refl
  where
    at_test : (b : Bool) → has_deed d l ≡ b → has_deed d (l ++ x ∷ []) ≡ has_deed d l
    at_test false e = lacks_push d x l e other ∙ sym e
    at_test true e =
        let there = place_of_deed d l e in
        has_at d (l ++ x ∷ []) there.0 (get_kept l x there.0 d there.1) ∙ sym e

-- the receiver's history has one more deed, which receives nothing from the sender
pub receiver_more : (v : PairState) (rs ss : List Deed) (dropped : ℕ → Bool) (n : ℕ) (d : Deed) → n ≤ length rs → ((m : ℕ) → d ≢ deed.Received m v.received_from.sender) → IsTransit v rs ss dropped n → IsTransit v (rs ++ d ∷ []) ss dropped n
receiver_more v rs ss dropped n d low other w = record {
  in_transit = same_away v.in_transit v.received_from.receiver ss (away_in v.received_from.sender rs dropped) (away_in v.received_from.sender (rs ++ d ∷ []) dropped) (λ m i. sym (has_more (deed.Received m v.received_from.sender) d rs (other m)) i || dropped m) w.in_transit;
  last = last_stays v.last v.received_from.sender rs d other w.last;
  last_permanent = subst (λ (l : List Deed). IsLastFrom v.last_permanent v.received_from.sender l) (sym (take-append-le n rs (d ∷ []) low)) w.last_permanent;
}

-- the sender's history has one more deed, which sends nothing to the receiver
pub sender_more : (v : PairState) (rs ss : List Deed) (dropped : ℕ → Bool) (n : ℕ) (d : Deed) → ((m : ℕ) → d ≢ deed.Sent m v.received_from.receiver) → IsTransit v rs ss dropped n → IsTransit v rs (ss ++ d ∷ []) dropped n
sender_more v rs ss dropped n d other w = record {
  in_transit = other_deed v.in_transit v.received_from.receiver ss (away_in v.received_from.sender rs dropped) d other w.in_transit;
  last = w.last;
  last_permanent = w.last_permanent;
}

-- a deed of one process that neither sends to the receiver nor receives from the sender
pub way_more : (v : PairState) (s : Past) (p : ℕ) (d : Deed) → IsFitPast s → (v.received_from.receiver ≡ p → (m : ℕ) → d ≢ deed.Received m v.received_from.sender) → (v.received_from.sender ≡ p → (m : ℕ) → d ≢ deed.Sent m v.received_from.receiver) → ShowsTransit v s
    → IsTransit v (at_one p (s.live p ++ d ∷ []) s.live v.received_from.receiver) (at_one p (s.live p ++ d ∷ []) s.live v.received_from.sender) s.dropped (s.permanent v.received_from.receiver)
way_more v s p d fit receives sends w =
    at_one_all (λ x l. (x ≡ p → (m : ℕ) → d ≢ deed.Received m v.received_from.sender) → IsTransit v (s.live x) now s.dropped (s.permanent x) → IsTransit v l now s.dropped (s.permanent x)) p (s.live p ++ d ∷ []) s.live
    (λ other. receiver_more v (s.live p) now s.dropped (s.permanent p) d (fit.within p) (other refl)) (λ x other u. u) v.received_from.receiver receives
    (at_one_all (λ x l. (x ≡ p → (m : ℕ) → d ≢ deed.Sent m v.received_from.receiver) → IsTransit v (s.live v.received_from.receiver) (s.live x) s.dropped (s.permanent v.received_from.receiver) → IsTransit v (s.live v.received_from.receiver) l s.dropped (s.permanent v.received_from.receiver)) p (s.live p ++ d ∷ []) s.live
    (λ other. sender_more v (s.live v.received_from.receiver) (s.live p) s.dropped (s.permanent v.received_from.receiver) d (other refl)) (λ x other u. u) v.received_from.sender sends w)
  where
    now : List Deed
    now = at_one p (s.live p ++ d ∷ []) s.live v.received_from.sender

-- one more message is sent
pub way_sent : (v : PairState) (s : Past) → IsFitPast s → ShowsTransit v s
    → IsTransit (record v { in_transit = v.in_transit ++ record { msg = s.rows + 1; place = length (s.live v.received_from.sender) } ∷ [] }) (s.live v.received_from.receiver) (s.live v.received_from.sender ++ deed.Sent (s.rows + 1) v.received_from.receiver ∷ []) s.dropped (s.permanent v.received_from.receiver)
way_sent v s fit w = record {
  in_transit = one_sent v.in_transit v.received_from.receiver (s.live v.received_from.sender) (away_in v.received_from.sender (s.live v.received_from.receiver) s.dropped) (s.rows + 1) less (λ i. not_received (has_deed new (s.live v.received_from.receiver)) refl i || not_dropped (s.dropped (s.rows + 1)) refl i) w.in_transit;
  last = w.last;
  last_permanent = w.last_permanent;
}
  where
    new : Deed
    new = deed.Received (s.rows + 1) v.received_from.sender

    less : (k : ℕ) (x : InTransit) → slice_get v.in_transit k ≡ Some x → x.msg < s.rows + 1
    less k x e =
        let low : x.msg ≤ s.rows = fit.numbered v.received_from.sender x.place (deed.Sent x.msg v.received_from.receiver) (w.in_transit.live k x e) in
        omega (arith, low)

    not_received : (b : Bool) → has_deed new (s.live v.received_from.receiver) ≡ b → has_deed new (s.live v.received_from.receiver) ≡ false
    not_received false e = e
    not_received true e =
        let there = place_of_deed new (s.live v.received_from.receiver) e in
        let low : s.rows + 1 ≤ s.rows = fit.numbered v.received_from.receiver there.0 new there.1 in
        absurd (omega (arith, low))

    not_dropped : (b : Bool) → s.dropped (s.rows + 1) ≡ b → s.dropped (s.rows + 1) ≡ false
    not_dropped false e = e
    not_dropped true e = absurd (omega (arith, fit.dropped (s.rows + 1) e))

-- a message in transit is received, which comes after the last
pub way_received : (v : PairState) (rs ss : List Deed) (dropped : ℕ → Bool) (n k : ℕ) (x : InTransit) → n ≤ length rs → slice_get v.in_transit k ≡ Some x → is_after x.msg v.last ≡ true → IsTransit v rs ss dropped n
    → IsTransit (record v { in_transit = remove v.in_transit k; last = Some x.msg }) (rs ++ deed.Received x.msg v.received_from.sender ∷ []) ss dropped n
way_received v rs ss dropped n k x low at late w = record {
  in_transit = same_away (remove v.in_transit k) v.received_from.receiver ss (at_one x.msg true (away_in v.received_from.sender rs dropped)) (away_in v.received_from.sender (rs ++ new ∷ []) dropped) same
      (one_taken v.in_transit v.received_from.receiver ss (away_in v.received_from.sender rs dropped) k x at w.in_transit);
  last = last_received v.last v.received_from.sender x.msg rs w.last late;
  last_permanent = subst (λ (l : List Deed). IsLastFrom v.last_permanent v.received_from.sender l) (sym (take-append-le n rs (new ∷ []) low)) w.last_permanent;
}
  where
    new : Deed
    new = deed.Received x.msg v.received_from.sender

    number : (m : ℕ) → new ≡ deed.Received m v.received_from.sender → m ≡ x.msg
    number m e = cc (sym e)

    same : (m : ℕ) → at_one x.msg true (away_in v.received_from.sender rs dropped) m ≡ away_in v.received_from.sender (rs ++ new ∷ []) dropped m
    same m = elim (cases_eq m x.msg) [
      | inl is ↦
          let here : has_deed (deed.Received m v.received_from.sender) (rs ++ new ∷ []) ≡ true = ap (λ (y : ℕ). has_deed (deed.Received y v.received_from.sender) (rs ++ new ∷ [])) is ∙ has_at new (rs ++ new ∷ []) (length rs) (get_last rs new) in
          ap (at_one x.msg true (away_in v.received_from.sender rs dropped)) is ∙ (at_same x.msg true (away_in v.received_from.sender rs dropped) ∙ sym (λ i. here i || dropped m))
      | inr other ↦
          at_other x.msg m true (away_in v.received_from.sender rs dropped) other ∙ (λ i. sym (has_more (deed.Received m v.received_from.sender) new rs (λ e. other (number m e))) i || dropped m)
    ]

-- a message in transit is dropped
pub way_dropped : (v : PairState) (rs ss : List Deed) (dropped : ℕ → Bool) (n k : ℕ) (x : InTransit) → slice_get v.in_transit k ≡ Some x → IsTransit v rs ss dropped n → IsTransit (record v { in_transit = remove v.in_transit k }) rs ss (at_one x.msg true dropped) n
way_dropped v rs ss dropped n k x at w = record {
  in_transit = same_away (remove v.in_transit k) v.received_from.receiver ss (at_one x.msg true (away_in v.received_from.sender rs dropped)) (away_in v.received_from.sender rs (at_one x.msg true dropped)) same
      (one_taken v.in_transit v.received_from.receiver ss (away_in v.received_from.sender rs dropped) k x at w.in_transit);
  last = w.last;
  last_permanent = w.last_permanent;
}
  where
    or_true : (b : Bool) → (b || true) ≡ true
    or_true true = refl
    or_true false = refl

    same : (m : ℕ) → at_one x.msg true (away_in v.received_from.sender rs dropped) m ≡ away_in v.received_from.sender rs (at_one x.msg true dropped) m
    same m = elim (cases_eq m x.msg) [
      | inl is ↦
          let gone : at_one x.msg true dropped m ≡ true = ap (at_one x.msg true dropped) is ∙ at_same x.msg true dropped in
          ap (at_one x.msg true (away_in v.received_from.sender rs dropped)) is ∙ (at_same x.msg true (away_in v.received_from.sender rs dropped) ∙ sym ((λ i. has_deed (deed.Received m v.received_from.sender) rs || gone i) ∙ or_true (has_deed (deed.Received m v.received_from.sender) rs)))
      | inr other ↦ at_other x.msg m true (away_in v.received_from.sender rs dropped) other ∙ (λ i. has_deed (deed.Received m v.received_from.sender) rs || sym (at_other x.msg m true dropped other) i)
    ]

-- a message that this sender did not send to this receiver is dropped
pub way_dropped_elsewhere : (v : PairState) (rs ss : List Deed) (dropped : ℕ → Bool) (n msg : ℕ) → ((i : ℕ) → slice_get ss i ≡ Some (deed.Sent msg v.received_from.receiver) → ⊥) → IsTransit v rs ss dropped n → IsTransit v rs ss (at_one msg true dropped) n
way_dropped_elsewhere v rs ss dropped n msg none w = record {
  in_transit = same_sent v.in_transit v.received_from.receiver ss (away_in v.received_from.sender rs dropped) (away_in v.received_from.sender rs (at_one msg true dropped))
      (λ m i e t. has_deed (deed.Received m v.received_from.sender) rs || sym (at_other msg m true dropped (λ same. none i (e ∙ ap (λ (y : ℕ). Some (deed.Sent y v.received_from.receiver)) same))) t) w.in_transit;
  last = w.last;
  last_permanent = w.last_permanent;
}
