-- The members of an instance.
use Rattle.std.proofs.Common.{◌≡◌, ℕ, zero, suc, Bool, true, false, Option, Some, None, List, [], ◌∷◌, ◌++◌, length, refl, subst, ap, ◌∙◌, sym, arith, ◌∙◌, inl, inr}
use Rattle.std.specs.List.{cons_option}
use Rattle.std.specs.Prelude.{slice_get, fold, is_some, ◌⊎◌, ◌==◌, ◌&&◌, ◌||◌, if◌then◌else◌, Contains}
use Rattle.std.proofs.lemmas.Bool.Decides.{nat_tests}
use Rattle.std.proofs.lemmas.List.Elements.{filter_map-append}
use Rattle.kt_spacetime.specs.declared.event.Event.{Event}
use Rattle.kt_spacetime.specs.declared.event.Event.TheVariants.{Sent, Received, Dropped, Began, Took, Ready, Unwilling, Decided, Closed, Failed, Refused}
use Rattle.kt_meaning.specs.Past.{Past, start, after, past, is_member}
use Rattle.std.proofs.lemmas.List.{append-nil}
use Rattle.std.proofs.lemmas.Option.{slice_get_within, slice_get-get_or, get_or_from_slice_get}
use Rattle.kt_meaning.specs.Legal.{IsLegal, broken_rule}
use Rattle.kt_meaning.proofs.LegalLogs.{legal_log_induction}
use Rattle.kt_meaning.proofs.RowRules.{may_take, may_get_ready}
use Rattle.kt_meaning.proofs.Lists.{get_push}
use Rattle.kt_meaning.specs.Chains.{joins, members}

-- one more row
pub members_push : (log : List Event) (row : Event) (k : ℕ) → members (log ++ row ∷ []) k ≡ members log k ++ members (row ∷ []) k
members_push log row k = filter_map-append (joins k) log (row ∷ [])

-- a row adds the process that joins by it to the members
pub member_comes : (s : Past) (row : Event) (k p : ℕ) → is_member (after s row) k p ≡ true → (is_member s k p ≡ true) ⊎ (joins k row ≡ Some p)
member_comes s (Took q j) k p e = at_test ((k == j) && (p == q)) refl e
  where
    at_test : (b : Bool) → ((k == j) && (p == q)) ≡ b → (is_some (if b then Some (length (s.live q)) else s.new k p) || s.ready k p) ≡ true → (is_member s k p ≡ true) ⊎ (joins k (Took q j) ≡ Some p)
    at_test true t f = inr (grind (arith, nat_tests))
    at_test false t f = inl f
member_comes s (Ready q j) k p e = at_test ((k == j) && (p == q)) refl e
  where
    at_test : (b : Bool) → ((k == j) && (p == q)) ≡ b → (is_some (s.new k p) || (if b then true else s.ready k p)) ≡ true → (is_member s k p ≡ true) ⊎ (joins k (Ready q j) ≡ Some p)
    at_test true t f = inr (grind (arith, nat_tests))
    at_test false t f = inl f
member_comes s (Sent q to body) k p e = inl e
member_comes s (Received q from msg) k p e = inl e
member_comes s (Dropped q from msg) k p e = inl e
member_comes s (Began q j kind) k p e = inl e
member_comes s (Unwilling q j cause) k p e = inl e
member_comes s (Decided q j commit) k p e = inl e
member_comes s (Closed q j) k p e = inl e
member_comes s (Failed q) k p e = inl e
member_comes s (Refused q verb cause) k p e = inl e

pub member_stays : (s : Past) (row : Event) (k p : ℕ) → is_member s k p ≡ true → is_member (after s row) k p ≡ true
member_stays s (Took q j) k p e = grind (arith, nat_tests)
member_stays s (Ready q j) k p e = grind (arith, nat_tests)
member_stays s (Sent q to body) k p e = e
member_stays s (Received q from msg) k p e = e
member_stays s (Dropped q from msg) k p e = e
member_stays s (Began q j kind) k p e = e
member_stays s (Unwilling q j cause) k p e = e
member_stays s (Decided q j commit) k p e = e
member_stays s (Closed q j) k p e = e
member_stays s (Failed q) k p e = e
member_stays s (Refused q verb cause) k p e = e

pub member_joins : (s : Past) (row : Event) (k p : ℕ) → joins k row ≡ Some p → is_member (after s row) k p ≡ true
member_joins s (Took q j) k p e = grind (arith, nat_tests)
member_joins s (Ready q j) k p e = grind (arith, nat_tests)
member_joins s (Sent q to body) k p e = absurd (cc)
member_joins s (Received q from msg) k p e = absurd (cc)
member_joins s (Dropped q from msg) k p e = absurd (cc)
member_joins s (Began q j kind) k p e = absurd (cc)
member_joins s (Unwilling q j cause) k p e = absurd (cc)
member_joins s (Decided q j commit) k p e = absurd (cc)
member_joins s (Closed q j) k p e = absurd (cc)
member_joins s (Failed q) k p e = absurd (cc)
member_joins s (Refused q verb cause) k p e = absurd (cc)

-- who joined by a row of the log is a member, and no one else is
pub member_place : (log : List Event) (k p : ℕ) → is_member (past log) k p ≡ true → (i : ℕ) × (slice_get (members log k) i ≡ Some p)
member_place log k p e = elim (from start log e) [ inl a ↦ absurd (cc) | inr b ↦ b ]
  where
    first : (o : Option ℕ) (ys : List ℕ) → o ≡ Some p → (i : ℕ) × (slice_get (cons_option o ys) i ≡ Some p)
    first None ys e = absurd (cc)
    first (Some x) ys e = (0, e)

    later : (o : Option ℕ) (ys : List ℕ) (i : ℕ) → slice_get ys i ≡ Some p → (j : ℕ) × (slice_get (cons_option o ys) j ≡ Some p)
    later None ys i e = (i, e)
    later (Some x) ys i e = (suc i, e)

    from : (s : Past) (log : List Event) → is_member (fold after s log) k p ≡ true → (is_member s k p ≡ true) ⊎ ((i : ℕ) × (slice_get (members log k) i ≡ Some p))
    from s [] e = inl e
    from s (row ∷ rows) e = elim (from (after s row) rows e) [
      | inl a ↦ elim (member_comes s row k p a) [ inl b ↦ inl b | inr b ↦ inr (first (joins k row) (members rows k) b) ]
      | inr b ↦ inr (later (joins k row) (members rows k) b.0 b.1)
    ]

pub place_member : (log : List Event) (k p i : ℕ) → slice_get (members log k) i ≡ Some p → is_member (past log) k p ≡ true
place_member log k p i e = from start log i e
  where
    stays : (s : Past) (log : List Event) → is_member s k p ≡ true → is_member (fold after s log) k p ≡ true
    stays s [] e = e
    stays s (row ∷ rows) e = stays (after s row) rows (member_stays s row k p e)

    from : (s : Past) (log : List Event) (i : ℕ) → slice_get (members log k) i ≡ Some p → is_member (fold after s log) k p ≡ true
    from s [] i e = absurd (cc)
    from s (row ∷ rows) i e = at_joins (joins k row) refl i e (λ j f. from (after s row) rows j f)
      where
        at_joins : (o : Option ℕ) → joins k row ≡ o → (i : ℕ) → slice_get (cons_option o (members rows k)) i ≡ Some p → ((j : ℕ) → slice_get (members rows k) j ≡ Some p → is_member (fold after (after s row) rows) k p ≡ true) → is_member (fold after (after s row) rows) k p ≡ true
        at_joins None h i e rest = rest i e
        at_joins (Some q) h zero e rest = stays (after s row) rows (member_joins s row k p (h ∙ e))
        at_joins (Some q) h (suc i) e rest = rest i e

-- in a legal log each member joins once
pub record JoinsOnce (log : List Event) : Type 0 where
  pub once : (k i j p : ℕ) → slice_get (members log k) i ≡ Some p → slice_get (members log k) j ≡ Some p → i ≡ j

-- who joins was no member
pub joins_new : (s : Past) (row : Event) (k p : ℕ) → broken_rule s row ≡ None → joins k row ≡ Some p → is_member s k p ≡ false
joins_new s (Took q j) k p e h =
    let may = may_take s q j e in
    let same_instance : j ≡ k = grind (arith, nat_tests) in
    let same_process : q ≡ p = grind (arith, nat_tests) in
    let new : s.new k p ≡ None = subst (λ (x : ℕ). s.new x p ≡ None) same_instance (subst (λ (x : ℕ). s.new j x ≡ None) same_process may.not_new) in
    let ready : s.ready k p ≡ false = subst (λ (x : ℕ). s.ready x p ≡ false) same_instance (subst (λ (x : ℕ). s.ready j x ≡ false) same_process may.not_ready) in
    rw (new, ready) refl
joins_new s (Ready q j) k p e h =
    let may = may_get_ready s q j e in
    let same_instance : j ≡ k = grind (arith, nat_tests) in
    let same_process : q ≡ p = grind (arith, nat_tests) in
    let new : s.new k p ≡ None = subst (λ (x : ℕ). s.new x p ≡ None) same_instance (subst (λ (x : ℕ). s.new j x ≡ None) same_process may.not_new) in
    let ready : s.ready k p ≡ false = subst (λ (x : ℕ). s.ready x p ≡ false) same_instance (subst (λ (x : ℕ). s.ready j x ≡ false) same_process may.not_ready) in
    rw (new, ready) refl
joins_new s (Sent q to body) k p e h = absurd (cc)
joins_new s (Received q from msg) k p e h = absurd (cc)
joins_new s (Dropped q from msg) k p e h = absurd (cc)
joins_new s (Began q j kind) k p e h = absurd (cc)
joins_new s (Unwilling q j cause) k p e h = absurd (cc)
joins_new s (Decided q j commit) k p e h = absurd (cc)
joins_new s (Closed q j) k p e h = absurd (cc)
joins_new s (Failed q) k p e h = absurd (cc)
joins_new s (Refused q verb cause) k p e h = absurd (cc)

joins_once_start : JoinsOnce []
joins_once_start = record { once = λ k i j p e f. absurd (cc) }

joins_once_keep : (log : List Event) (row : Event) → IsLegal log → broken_rule (past log) row ≡ None → JoinsOnce log → JoinsOnce (log ++ row ∷ [])
joins_once_keep log row l unbroken g = record {
  once = λ k i j p e f. at_joins k i j p (joins k row) refl (rw (members_push log row k) at e) (rw (members_push log row k) at f);
}
  where
    fresh : (k i p q : ℕ) → joins k row ≡ Some q → q ≡ p → slice_get (members log k) i ≡ Some p → ⊥
    fresh k i p q h same e =
        let no = joins_new (past log) row k q unbroken h in
        let yes = place_member log k p i e in
        let yes_here : is_member (past log) k q ≡ true = subst (λ (x : ℕ). is_member (past log) k x ≡ true) (sym same) yes in
        absurd (cc (no, yes_here))

    at_joins : (k i j p : ℕ) (o : Option ℕ) → joins k row ≡ o → slice_get (members log k ++ cons_option o []) i ≡ Some p → slice_get (members log k ++ cons_option o []) j ≡ Some p → i ≡ j
    at_joins k i j p None h e f = g.once k i j p (rw append-nil at e) (rw append-nil at f)
    at_joins k i j p (Some q) h e f = elim (get_push (members log k) q i p e) [
      | inl a ↦ elim (get_push (members log k) q j p f) [ inl b ↦ g.once k i j p a b | inr b ↦ absurd (fresh k i p q h b.1 a) ]
      | inr a ↦ elim (get_push (members log k) q j p f) [ inl b ↦ absurd (fresh k j p q h a.1 b) | inr b ↦ omega arith ]
    ]

pub joins_once : (log : List Event) → IsLegal log → JoinsOnce log
joins_once log l = legal_log_induction JoinsOnce joins_once_start joins_once_keep log l

-- in std's word for membership
pub contains_member : (log : List Event) (k p : ℕ) → is_member (past log) k p ≡ true → Contains (members log k) p
contains_member log k p m =
    let place = member_place log k p m in
    (place.0, slice_get_within (members log k) place.0 p place.1, get_or_from_slice_get (members log k) place.0 p p place.1)

pub member_contained : (log : List Event) (k p : ℕ) → Contains (members log k) p → is_member (past log) k p ≡ true
member_contained log k p (i, l, e) = place_member log k p i (slice_get-get_or (members log k) i p l ∙ ap (λ (x : ℕ). Some x) e)
