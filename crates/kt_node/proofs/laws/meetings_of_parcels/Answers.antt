use Rattle.std.specs.Prelude.{◌==◌, ◌&&◌, ◌||◌, nat_lt, nat_le, Ok, Err}
use Rattle.std.proofs.Common.{◌≡◌, ◌∙◌, ◌≤◌, ◌<◌, ◌+◌, ℕ, ℤ, max, Bool, true, false, refl, sym, ap, arith}
use Rattle.std.proofs.lemmas.Bool.Decides.{nat_tests}
use Rattle.kt_node.specs.declared.node.Envelope.{Envelope}
use Rattle.kt_node.specs.declared.node.NodeFault.TheVariants as fault
use Rattle.kt_manager.specs.declared.parcels.NodeParcel.{NodeParcel}
use Rattle.kt_manager.specs.declared.parcels.NodeParcel.TheVariants.{App, Ask, Reply, Decide}
use Rattle.kt_node.specs.Links.{NodeLinks}
use Rattle.kt_node.specs.Meetings.{is_far, is_far_message, is_leap, is_stale, last_label, meeting_of, next_number}
use Rattle.kt_node.proofs.Meets.{met_by}
use Rattle.kt_node.proofs.laws.meetings_of_parcels.Goals as goal

not_astray : (early : Bool) (next : ℕ) (late leap stale : Bool) → met_by true early next late leap stale ≡ Err fault.Astray → ⊥
not_astray true next late leap stale e = absurd (cc (e))
not_astray false next true leap stale e = absurd (cc (e))
not_astray false next false true stale e = absurd (cc (e))
not_astray false next false false true e = absurd (cc (e))
not_astray false next false false false e = absurd (cc (e))

came_before : (early : Bool) (next : ℕ) (late leap stale : Bool) → met_by true early next late leap stale ≡ Ok false → early ≡ true
came_before true next late leap stale e = refl
came_before false next true leap stale e = absurd (cc (e))
came_before false next false true stale e = absurd (cc (e))
came_before false next false false true e = absurd (cc (e))
came_before false next false false false e = absurd (cc (e))

comes_late : (early : Bool) (next n : ℕ) (late leap stale : Bool) → met_by true early next late leap stale ≡ Err (fault.Gap n) → (n ≡ next) × (late ≡ true)
comes_late true next n late leap stale e = absurd (cc (e))
comes_late false next n true leap stale e = (cc (e), refl)
comes_late false next n false true stale e = absurd (cc (e))
comes_late false next n false false true e = absurd (cc (e))
comes_late false next n false false false e = absurd (cc (e))

module _ (w : NodeLinks) (q : ℕ) (e : Envelope) where
  by_tests : (between early late leap stale : Bool) → (e.from == q && e.to == w.manager.me) ≡ between → nat_lt e.number (next_number w q) ≡ early → nat_lt (next_number w q) e.number ≡ late
      → is_leap w q e ≡ leap → is_stale (last_label w q) e.parcel ≡ stale → meeting_of w q e ≡ met_by between early (next_number w q) late leap stale
  by_tests between early late leap stale a b c d f = λ i. met_by (a i) (b i) (next_number w q) (c i) (d i) (f i)

  is_between : e.from ≡ q → e.to ≡ w.manager.me → (e.from == q && e.to == w.manager.me) ≡ true
  is_between a b = grind (arith, nat_tests, a, b)

  is_own : (b : Bool) → (e.from == q && e.to == w.manager.me) ≡ b → ((e.from ≡ q) × (e.to ≡ w.manager.me) → ⊥) → b ≡ false
  is_own false a n = refl
  is_own true a n = absurd (n (grind (arith, nat_tests, a), grind (arith, nat_tests, a)))

  own : e.from ≡ q → e.to ≡ w.manager.me → meeting_of w q e ≡ met_by true (nat_lt e.number (next_number w q)) (next_number w q) (nat_lt (next_number w q) e.number) (is_leap w q e) (is_stale (last_label w q) e.parcel)
  own a b = by_tests true _ _ _ _ (is_between a b) refl refl refl refl

  -- the next one of its own
  next : (leap stale : Bool) → e.from ≡ q → e.to ≡ w.manager.me → e.number ≡ next_number w q → is_leap w q e ≡ leap → is_stale (last_label w q) e.parcel ≡ stale → meeting_of w q e ≡ met_by true false (next_number w q) false leap stale
  next leap stale a b n c d = by_tests true false false leap stale (is_between a b) (grind (arith, nat_tests, n)) (grind (arith, nat_tests, n)) c d

is_true_lt : (a b : ℕ) → nat_lt a b ≡ true → a < b
is_true_lt a b e = grind (arith, nat_tests, e)

lt_is_true : (a b : ℕ) → a < b → nat_lt a b ≡ true
lt_is_true a b l = grind (arith, nat_tests, l)

lt_is_false : (a b : ℕ) → b ≤ a → nat_lt a b ≡ false
lt_is_false a b l = grind (arith, nat_tests, l)

le_is_true : (a b : ℕ) → a ≤ b → nat_le a b ≡ true
le_is_true a b l = grind (arith, nat_tests, l)

le_is_false : (a b : ℕ) → b < a → nat_le a b ≡ false
le_is_false a b l = grind (arith, nat_tests, l)

either : (a b : Bool) → a ≡ true → (a || b) ≡ true
either true b e = refl
either false b e = absurd (cc (e))

second : (a b : Bool) → b ≡ true → (a || b) ≡ true
second true b e = refl
second false b e = e

neither : (a b : Bool) → a ≡ false → b ≡ false → (a || b) ≡ false
neither false b e f = f
neither true b e f = absurd (cc (e))

far_message : (had : ℕ) (x : NodeParcel) → ((label : ℕ) (body : ℤ) → x ≡ App label body → label ≤ had + 1099511627776) → is_far_message had x ≡ false
far_message had (App label body) h = lt_is_false (had + 1099511627776) label (h label body refl)
far_message had (Ask k kind label) h = refl
far_message had (Reply k c) h = refl
far_message had (Decide k c) h = refl

stale_message : (last : ℕ) (x : NodeParcel) → ((label : ℕ) (body : ℤ) → x ≡ App label body → last < label) → is_stale last x ≡ false
stale_message last (App label body) h = le_is_false label last (h label body refl)
stale_message last (Ask k kind label) h = refl
stale_message last (Reply k c) h = refl
stale_message last (Decide k c) h = refl

below : (last used label : ℕ) → label ≤ last → label ≤ max last used + 1099511627776
below last used label k = omega (arith, k)

pub returns-clause-astray : goal.returns-clause-astray
returns-clause-astray c = λ w q e. (
  λ h k. not_astray _ (next_number w q) _ _ _ (sym (own w q e k.0 k.1) ∙ h),
  λ n. by_tests w q e false _ _ _ _ (is_own w q e _ refl n) refl refl refl refl,
)

pub returns-clause-again : goal.returns-clause-again
returns-clause-again c = λ w q e a b. (
  λ h. let l = is_true_lt e.number (next_number w q) (came_before _ (next_number w q) _ _ _ (sym (own w q e a b) ∙ h)) in omega (arith, l),
  λ l. by_tests w q e true true _ _ _ (is_between w q e a b) (lt_is_true e.number (next_number w q) (omega (arith, l))) refl refl refl,
)

pub returns-clause-gap : goal.returns-clause-gap
returns-clause-gap c = λ w q n e a b. (
  λ h. let k = comes_late _ (next_number w q) n _ _ _ (sym (own w q e a b) ∙ h) in let l = is_true_lt (next_number w q) e.number k.1 in (k.0, (let i = k.0 in omega (arith, l, i))),
  λ h. by_tests w q e true false true _ _ (is_between w q e a b) (let i = h.0 in let l = h.1 in lt_is_false e.number (next_number w q) (omega (arith, i, l))) (let i = h.0 in let l = h.1 in lt_is_true (next_number w q) e.number (omega (arith, i, l))) refl refl
      ∙ ap (λ (m : ℕ). Err (fault.Gap m)) (sym h.0),
)

pub returns-clause-clock_leaps : goal.returns-clause-clock_leaps
returns-clause-clock_leaps c = λ w q e a b n l. next w q e true _ a b n (either (is_far w.clock e.clock) _ (lt_is_true _ _ l)) refl

pub returns-clause-label_leaps : goal.returns-clause-label_leaps
returns-clause-label_leaps c = λ w q label body e a b n is l.
    next w q e true _ a b n (second (is_far w.clock e.clock) _ (ap (is_far_message (max (last_label w q) w.manager.process.used)) is ∙ lt_is_true _ _ l)) refl

pub returns-clause-stale : goal.returns-clause-stale
returns-clause-stale c = λ w q label body e a b n l is k. next w q e false true a b n
    (neither (is_far w.clock e.clock) _ (lt_is_false _ _ l) (ap (is_far_message (max (last_label w q) w.manager.process.used)) is ∙ lt_is_false _ _ (below (last_label w q) w.manager.process.used label k)))
    (ap (is_stale (last_label w q)) is ∙ le_is_true label (last_label w q) k)

pub returns-clause-near : goal.returns-clause-near
returns-clause-near c = λ w q e a b n l h. next w q e false false a b n
    (neither (is_far w.clock e.clock) _ (lt_is_false _ _ l) (far_message _ e.parcel (λ label body is. (h label body is).1)))
    (stale_message (last_label w q) e.parcel (λ label body is. (h label body is).0))
