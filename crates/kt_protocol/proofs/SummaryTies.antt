-- After every legal log the numbers are tied to what the log means.
use Rattle.std.proofs.Common.{◌≡◌, ◌≢◌, ℕ, ℤ, zero, suc, ◌+◌, ◌≤◌, ◌<◌, Bool, true, false, not, Option, Some, None, List, [], ◌∷◌, ◌++◌, length, take, refl, arith, sym, ap, subst, inl, inr, ◌⊎◌, ◌∙◌, length-append, length-take, append-nil}
use Rattle.std.specs.Prelude.{◌==◌, ◌&&◌, if◌then◌else◌, slice_get, unwrap_or}
use Rattle.std.specs.List.{cons_option}
use Rattle.std.proofs.lemmas.Bool.{cases_eq}
use Rattle.std.proofs.lemmas.Bool.Decides.{nat_tests}
use Rattle.std.proofs.lemmas.Grind.{fold-append}
use Rattle.std.proofs.lemmas.Option.{slice_get_within}
use Rattle.kt_base.specs.declared.words.Kind.{Kind}
use Rattle.kt_base.specs.declared.words.Kind.TheVariants.{Checkpoint, Rollback}
use Rattle.kt_base.specs.declared.words.Cause.{Cause}
use Rattle.kt_base.specs.declared.words.Verb.{Verb}
use Rattle.kt_spacetime.specs.declared.event.Event.{Event}
use Rattle.kt_spacetime.specs.declared.event.Event.TheVariants.{Sent, Received, Dropped, Began, Took, Ready, Unwilling, Decided, Closed, Failed, Refused}
use Rattle.kt_spacetime.specs.declared.deeds.Deed.{Deed}
use Rattle.kt_spacetime.specs.declared.deeds.Deed.TheVariants as deed
use Rattle.kt_meaning.specs.Past.{Past, Beginning, start, after, past, at_one, at_pair, beginning_of, kind_of, is_checkpoint_kind, is_rollback_kind}
use Rattle.kt_meaning.specs.Legal.{IsLegal, has_begun, broken_rule}
use Rattle.kt_meaning.specs.Chains.{members}
use Rattle.kt_meaning.proofs.LegalLogs.{past_push, legal_log_induction}
use Rattle.kt_meaning.proofs.RowRules.{may_take, may_get_ready, may_begin}
use Rattle.kt_meaning.proofs.Positions.{Positions, positions}
use Rattle.kt_meaning.proofs.Lists.{get_push, get_kept, get_last}
use Rattle.kt_meaning.proofs.Members.{members_push}
use Rattle.kt_protocol.proofs.Updates.{at_one_here, at_one_other, is_same}
use Rattle.kt_protocol.specs.SummaryMeaning.{OrdersMembers, AgreesWith}
use Rattle.kt_protocol.specs.Summary.{Summary, summary_committed, summary, summary_after, summary_start}
use Rattle.kt_protocol.proofs.Choices.{both, same}

-- two functions that are the same stay so
pub at_one_same : {X : Type 0} (p : ℕ) (x y : X) (f g : ℕ → X) → x ≡ y → ((q : ℕ) → f q ≡ g q) → (q : ℕ) → at_one p x f q ≡ at_one p y g q
at_one_same {X} p x y f g e h q = at_test (q == p)
  where
    at_test : (b : Bool) → (if b then x else f q) ≡ (if b then y else g q)
    at_test true = e
    at_test false = h q

size_push : (p u n : ℕ) (d : Deed) (live : ℕ → List Deed) (size : ℕ → ℕ) → ((q : ℕ) → size q ≡ length (live q)) → at_one p (size p + 1) size u ≡ length (at_one p (live p ++ d ∷ []) live u)
size_push p u n d live size h = at_test (u == p)
  where
    at_test : (b : Bool) → (if b then size p + 1 else size u) ≡ length (if b then live p ++ d ∷ [] else live u)
    at_test true = let a = length-append (live p) (d ∷ []) in omega (arith, a, h p)
    at_test false = h u

open_same : (p u x : ℕ) (o : ℕ → ℕ) (f : ℕ → Option ℕ) (y : Option ℕ) → y ≡ (if x == 0 then None else Some x) → ((q : ℕ) → f q ≡ (if o q == 0 then None else Some (o q))) → at_one p y f u ≡ (if at_one p x o u == 0 then None else Some (at_one p x o u))
open_same p u x o f y e h = at_test (u == p)
  where
    at_test : (b : Bool) → (if b then y else f u) ≡ (if (if b then x else o u) == 0 then None else Some (if b then x else o u))
    at_test true = e
    at_test false = h u

some_of : (k : ℕ) → 1 ≤ k → Some k ≡ (if k == 0 then None else Some k)
some_of k l = let e : (k == 0) ≡ false = grind (arith, nat_tests, l) in rw e refl

positive : (s : Past) (k : ℕ) → has_begun s k ≡ true → 1 ≤ k
positive s k e = grind (arith, nat_tests, e)

tied_sent : (h : Summary) (s : Past) (p q : ℕ) (body : ℤ) → AgreesWith h s → AgreesWith (summary_after h (Sent p q body)) (after s (Sent p q body))
tied_sent h s p q body t = record {
  rows = ap (λ (n : ℕ). n + 1) t.rows;
  live = at_one_same p _ _ h.live s.live (rw (t.live p, t.rows) refl) t.live;
  size = λ u. size_push p u 0 (deed.Sent (s.rows + 1) q) s.live h.size t.size;
  permanent = t.permanent;
  new = t.new;
  ready = t.ready;
  begun = t.begun;
  rollback = t.rollback;
  checkpoint = t.checkpoint;
  decision = t.decision;
  open_in = t.open_in;
  dropped = t.dropped;
}

tied_received : (h : Summary) (s : Past) (p q m : ℕ) → AgreesWith h s → AgreesWith (summary_after h (Received p q m)) (after s (Received p q m))
tied_received h s p q m t = record {
  rows = ap (λ (n : ℕ). n + 1) t.rows;
  live = at_one_same p _ _ h.live s.live (rw (t.live p) refl) t.live;
  size = λ u. size_push p u 0 (deed.Received m q) s.live h.size t.size;
  permanent = t.permanent;
  new = t.new;
  ready = t.ready;
  begun = t.begun;
  rollback = t.rollback;
  checkpoint = t.checkpoint;
  decision = t.decision;
  open_in = t.open_in;
  dropped = t.dropped;
}

tied_dropped : (h : Summary) (s : Past) (p q m : ℕ) → AgreesWith h s → AgreesWith (summary_after h (Dropped p q m)) (after s (Dropped p q m))
tied_dropped h s p q m t = record {
  rows = ap (λ (n : ℕ). n + 1) t.rows;
  live = t.live;
  size = t.size;
  permanent = t.permanent;
  new = t.new;
  ready = t.ready;
  begun = t.begun;
  rollback = t.rollback;
  checkpoint = t.checkpoint;
  decision = t.decision;
  open_in = t.open_in;
  dropped = at_one_same m true true s.dropped h.dropped refl t.dropped;
}

tied_failed : (h : Summary) (s : Past) (p : ℕ) → AgreesWith h s → AgreesWith (summary_after h (Failed p)) (after s (Failed p))
tied_failed h s p t = record { rows = ap (λ (n : ℕ). n + 1) t.rows; live = t.live; size = t.size; permanent = t.permanent; new = t.new; ready = t.ready; begun = t.begun; rollback = t.rollback; checkpoint = t.checkpoint; decision = t.decision; open_in = t.open_in; dropped = t.dropped }

tied_refused : (h : Summary) (s : Past) (p : ℕ) (v : Verb) (cause : Cause) → AgreesWith h s → AgreesWith (summary_after h (Refused p v cause)) (after s (Refused p v cause))
tied_refused h s p v cause t = record { rows = ap (λ (n : ℕ). n + 1) t.rows; live = t.live; size = t.size; permanent = t.permanent; new = t.new; ready = t.ready; begun = t.begun; rollback = t.rollback; checkpoint = t.checkpoint; decision = t.decision; open_in = t.open_in; dropped = t.dropped }

tied_unwilling : (h : Summary) (s : Past) (p k : ℕ) (cause : Cause) → AgreesWith h s → AgreesWith (summary_after h (Unwilling p k cause)) (after s (Unwilling p k cause))
tied_unwilling h s p k cause t = record { rows = ap (λ (n : ℕ). n + 1) t.rows; live = t.live; size = t.size; permanent = t.permanent; new = t.new; ready = t.ready; begun = t.begun; rollback = t.rollback; checkpoint = t.checkpoint; decision = t.decision; open_in = t.open_in; dropped = t.dropped }

tied_closed : (h : Summary) (s : Past) (p k : ℕ) → AgreesWith h s → AgreesWith (summary_after h (Closed p k)) (after s (Closed p k))
tied_closed h s p k t = record {
  rows = ap (λ (n : ℕ). n + 1) t.rows;
  live = t.live;
  size = t.size;
  permanent = t.permanent;
  new = t.new;
  ready = t.ready;
  begun = t.begun;
  rollback = t.rollback;
  checkpoint = t.checkpoint;
  decision = t.decision;
  open_in = λ u. open_same p u 0 h.open_in s.open_in None refl t.open_in;
  dropped = t.dropped;
}

decision_same : (k : ℕ) (c : Bool) (s : Past) (decided commit : ℕ → Bool) → ((j : ℕ) → s.decision j ≡ (if decided j then Some (commit j) else None)) → (j : ℕ) → at_one k (Some c) s.decision j ≡ (if at_one k true decided j then Some (at_one k c commit j) else None)
decision_same k c s decided commit h j = at_test (j == k)
  where
    at_test : (b : Bool) → (if b then Some c else s.decision j) ≡ (if (if b then true else decided j) then Some (if b then c else commit j) else None)
    at_test true = refl
    at_test false = h j

tied_aborted : (h : Summary) (s : Past) (p k : ℕ) → AgreesWith h s → AgreesWith (summary_after h (Decided p k false)) (after s (Decided p k false))
tied_aborted h s p k t = record {
  rows = ap (λ (n : ℕ). n + 1) t.rows;
  live = t.live;
  size = t.size;
  permanent = t.permanent;
  new = t.new;
  ready = t.ready;
  begun = t.begun;
  rollback = t.rollback;
  checkpoint = t.checkpoint;
  decision = decision_same k false s h.is_decided h.is_committed t.decision;
  open_in = t.open_in;
  dropped = t.dropped;
}

tied_commits : (roll : Bool) (h : Summary) (s : Past) (p k : ℕ) → h.is_rollback k ≡ roll → Positions s → AgreesWith h s → AgreesWith (summary_committed roll h k) (after s (Decided p k true))
tied_commits true h s p k r g t = record {
  rows = ap (λ (n : ℕ). n + 1) t.rows;
  live = λ q. rw (ready q, t.live q, t.permanent q) refl;
  size = λ q. rw (ready q) (cut (h.joined k q) q);
  permanent = λ q. rw (t.new k q, r) (stays (h.joined k q) q);
  new = t.new;
  ready = t.ready;
  begun = t.begun;
  rollback = t.rollback;
  checkpoint = t.checkpoint;
  decision = decision_same k true s h.is_decided h.is_committed t.decision;
  open_in = t.open_in;
  dropped = t.dropped;
}
  where
    ready : (q : ℕ) → s.ready k q ≡ h.joined k q
    ready q = t.ready k q ∙ rw r (and_true (h.joined k q))
      where
        and_true : (b : Bool) → (b && true) ≡ b
        and_true true = refl
        and_true false = refl

    cut : (b : Bool) (q : ℕ) → (if b then h.permanent q else h.size q) ≡ length (if b then take (s.permanent q) (s.live q) else s.live q)
    cut true q = let a = g.permanent_within q in grind (arith, nat_tests, length-take, a, t.permanent q)
    cut false q = t.size q

    stays : (b : Bool) (q : ℕ) → h.permanent q ≡ unwrap_or (if b && false then Some (h.new k q) else None) (s.permanent q)
    stays true q = t.permanent q
    stays false q = t.permanent q
tied_commits false h s p k r g t = record {
  rows = ap (λ (n : ℕ). n + 1) t.rows;
  live = λ q. rw (unready q) (t.live q);
  size = λ q. rw (unready q) (t.size q);
  permanent = λ q. rw (t.new k q, r) (moves (h.joined k q) q);
  new = t.new;
  ready = t.ready;
  begun = t.begun;
  rollback = t.rollback;
  checkpoint = t.checkpoint;
  decision = decision_same k true s h.is_decided h.is_committed t.decision;
  open_in = t.open_in;
  dropped = t.dropped;
}
  where
    unready : (q : ℕ) → s.ready k q ≡ false
    unready q = t.ready k q ∙ rw r (and_false (h.joined k q))
      where
        and_false : (b : Bool) → (b && false) ≡ false
        and_false true = refl
        and_false false = refl

    moves : (b : Bool) (q : ℕ) → (if b then h.new k q else h.permanent q) ≡ unwrap_or (if b && true then Some (h.new k q) else None) (s.permanent q)
    moves true q = refl
    moves false q = t.permanent q

-- a process joins
joined_has : (h : Summary) (s : Past) (p k : ℕ) → has_begun s k ≡ true → AgreesWith h s → (j u : ℕ) → at_pair k p true h.joined j u ≡ true → has_begun s j ≡ true
joined_has h s p k b t j u = at_test (j == k) refl
  where
    at_other_test : (x : Bool) → (if x then true else h.joined j u) ≡ true → j ≡ k → has_begun s j ≡ true
    at_other_test true e i = rw i b
    at_other_test false e i = t.begun j u e

    at_test : (x : Bool) → (j == k) ≡ x → (if x && u == p then true else h.joined j u) ≡ true → has_begun s j ≡ true
    at_test true e f = at_other_test (u == p) f (same j k e)
    at_test false e f = t.begun j u f

tied_took : (h : Summary) (s : Past) (p k : ℕ) → broken_rule s (Took p k) ≡ None → AgreesWith h s → AgreesWith (summary_after h (Took p k)) (after s (Took p k))
tied_took h s p k e t =
    let m = may_take s p k e in
    let r : h.is_rollback k ≡ false = flip (h.is_rollback k) (sym (t.checkpoint k m.begun) ∙ m.is_kind) in
    record {
      rows = ap (λ (n : ℕ). n + 1) t.rows;
      live = t.live;
      size = t.size;
      permanent = t.permanent;
      new = λ j u. now_new r j u;
      ready = λ j u. now_ready r m.not_ready j u;
      begun = joined_has h s p k m.begun t;
      rollback = t.rollback;
      checkpoint = t.checkpoint;
      decision = t.decision;
      open_in = λ u. open_same p u k h.open_in s.open_in (Some k) (some_of k (positive s k m.begun)) t.open_in;
      dropped = t.dropped;
    }
  where
    flip : (b : Bool) → not b ≡ true → b ≡ false
    flip true e = absurd (cc)
    flip false e = refl

    now_new : h.is_rollback k ≡ false → (j u : ℕ) → at_pair k p (Some (length (s.live p))) s.new j u ≡ (if at_pair k p true h.joined j u && not (h.is_rollback j) then Some (at_pair k p (h.size p) h.new j u) else None)
    now_new r j u = at_test ((j == k) && (u == p)) refl
      where
        at_test : (b : Bool) → ((j == k) && (u == p)) ≡ b → (if b then Some (length (s.live p)) else s.new j u) ≡ (if (if b then true else h.joined j u) && not (h.is_rollback j) then Some (if b then h.size p else h.new j u) else None)
        at_test true f = let i = same j k (both (j == k) (u == p) f).0 in rw (i, r) (ap (λ (n : ℕ). Some n) (sym (t.size p)))
        at_test false f = t.new j u

    now_ready : h.is_rollback k ≡ false → s.ready k p ≡ false → (j u : ℕ) → s.ready j u ≡ (at_pair k p true h.joined j u && h.is_rollback j)
    now_ready r n j u = at_test ((j == k) && (u == p)) refl
      where
        at_test : (b : Bool) → ((j == k) && (u == p)) ≡ b → s.ready j u ≡ ((if b then true else h.joined j u) && h.is_rollback j)
        at_test true f = let x = both (j == k) (u == p) f in let i = same j k x.0 in let v = same u p x.1 in rw (i, v, n, r) refl
        at_test false f = t.ready j u

tied_ready : (h : Summary) (s : Past) (p k : ℕ) → broken_rule s (Ready p k) ≡ None → AgreesWith h s → AgreesWith (summary_after h (Ready p k)) (after s (Ready p k))
tied_ready h s p k e t =
    let m = may_get_ready s p k e in
    let r : h.is_rollback k ≡ true = sym (t.rollback k m.begun) ∙ m.is_kind in
    record {
      rows = ap (λ (n : ℕ). n + 1) t.rows;
      live = t.live;
      size = t.size;
      permanent = t.permanent;
      new = λ j u. now_new r m.not_new j u;
      ready = λ j u. now_ready r j u;
      begun = joined_has h s p k m.begun t;
      rollback = t.rollback;
      checkpoint = t.checkpoint;
      decision = t.decision;
      open_in = λ u. open_same p u k h.open_in s.open_in (Some k) (some_of k (positive s k m.begun)) t.open_in;
      dropped = t.dropped;
    }
  where
    now_new : h.is_rollback k ≡ true → s.new k p ≡ None → (j u : ℕ) → s.new j u ≡ (if at_pair k p true h.joined j u && not (h.is_rollback j) then Some (h.new j u) else None)
    now_new r n j u = at_test ((j == k) && (u == p)) refl
      where
        at_test : (b : Bool) → ((j == k) && (u == p)) ≡ b → s.new j u ≡ (if (if b then true else h.joined j u) && not (h.is_rollback j) then Some (h.new j u) else None)
        at_test true f = let x = both (j == k) (u == p) f in let i = same j k x.0 in let v = same u p x.1 in rw (i, v, n, r) refl
        at_test false f = t.new j u

    now_ready : h.is_rollback k ≡ true → (j u : ℕ) → at_pair k p true s.ready j u ≡ (at_pair k p true h.joined j u && h.is_rollback j)
    now_ready r j u = at_test ((j == k) && (u == p)) refl
      where
        at_test : (b : Bool) → ((j == k) && (u == p)) ≡ b → (if b then true else s.ready j u) ≡ ((if b then true else h.joined j u) && h.is_rollback j)
        at_test true f = let i = same j k (both (j == k) (u == p) f).0 in rw (i, r) refl
        at_test false f = t.ready j u

-- an instance begins
begun_cases : (s : Past) (p k : ℕ) (kind : Kind) → k ≡ length s.begun + 1 → (j : ℕ) → has_begun (after s (Began p k kind)) j ≡ true → ((has_begun s j ≡ true) × (beginning_of (after s (Began p k kind)) j ≡ beginning_of s j) × (j ≢ k)) ⊎ ((j ≡ k) × (kind_of (after s (Began p k kind)) j ≡ Some kind))
begun_cases s p k kind e zero b = absurd (cc)
begun_cases s p k kind e (suc j) b =
    let n = length-append s.begun (record { initiator = p; kind = kind } ∷ []) in
    elim (cases_eq j (length s.begun)) [
      | inl i ↦ inr (omega (arith, i, e), rw (i, get_last s.begun (record { initiator = p; kind = kind })) refl)
      | inr i ↦ (let l : j < length s.begun = grind (arith, nat_tests, b, n, i) in inl (grind (arith, nat_tests, l), get_old s.begun j l, λ x. omega (arith, x, e, l)))
    ]
  where
    get_old : (xs : List Beginning) (j : ℕ) → j < length xs → slice_get (xs ++ record { initiator = p; kind = kind } ∷ []) j ≡ slice_get xs j
    get_old [] j l = absurd (omega arith)
    get_old (x ∷ xs) zero l = refl
    get_old (x ∷ xs) (suc j) l = get_old xs j (omega (arith, l))

tied_began : (h : Summary) (s : Past) (p k : ℕ) (kind : Kind) → broken_rule s (Began p k kind) ≡ None → AgreesWith h s → AgreesWith (summary_after h (Began p k kind)) (after s (Began p k kind))
tied_began h s p k kind e t =
    let number = (may_begin s p k kind e).0 in
    let fresh : has_begun s k ≡ false = none_yet number in
    record {
      rows = ap (λ (n : ℕ). n + 1) t.rows;
      live = t.live;
      size = t.size;
      permanent = t.permanent;
      new = λ j u. t.new j u ∙ new_old fresh j u;
      ready = λ j u. t.ready j u ∙ ready_old fresh j u;
      begun = λ j u f. more j (t.begun j u f);
      rollback = λ j b. elim (begun_cases s p k kind number j b) [
        | inl c ↦ (let x = t.rollback j c.0 in rw (c.1, at_one_other k j (is_rollback_kind (Some kind)) h.is_rollback c.2) x)
        | inr c ↦ rw (c.1, c.0, at_one_here k (is_rollback_kind (Some kind)) h.is_rollback) refl
      ];
      checkpoint = λ j b. elim (begun_cases s p k kind number j b) [
        | inl c ↦ (let x = t.checkpoint j c.0 in rw (c.1, at_one_other k j (is_rollback_kind (Some kind)) h.is_rollback c.2) x)
        | inr c ↦ rw (c.1, c.0, at_one_here k (is_rollback_kind (Some kind)) h.is_rollback) (other kind)
      ];
      decision = t.decision;
      open_in = t.open_in;
      dropped = t.dropped;
    }
  where
    other : (x : Kind) → is_checkpoint_kind (Some x) ≡ not (is_rollback_kind (Some x))
    other Checkpoint = refl
    other Rollback = refl

    none_yet : k ≡ length s.begun + 1 → has_begun s k ≡ false
    none_yet n = grind (arith, nat_tests, n)

    more : (j : ℕ) → has_begun s j ≡ true → has_begun (after s (Began p k kind)) j ≡ true
    more j b = let n = length-append s.begun (record { initiator = p; kind = kind } ∷ []) in grind (arith, nat_tests, b, n)

    unjoined : has_begun s k ≡ false → (u : ℕ) → h.joined k u ≡ false
    unjoined fresh u = at_test (h.joined k u) refl
      where
        at_test : (b : Bool) → h.joined k u ≡ b → h.joined k u ≡ false
        at_test false f = f
        at_test true f = let x = t.begun k u f in absurd (cc (x, fresh))

    new_old : has_begun s k ≡ false → (j u : ℕ) → (if h.joined j u && not (h.is_rollback j) then Some (h.new j u) else None) ≡ (if h.joined j u && not (at_one k (is_rollback_kind (Some kind)) h.is_rollback j) then Some (h.new j u) else None)
    new_old fresh j u = elim (cases_eq j k) [
      | inl i ↦ (let x : h.joined j u ≡ false = rw i (unjoined fresh u) in rw x refl)
      | inr i ↦ rw (at_one_other k j (is_rollback_kind (Some kind)) h.is_rollback i) refl
    ]

    ready_old : has_begun s k ≡ false → (j u : ℕ) → (h.joined j u && h.is_rollback j) ≡ (h.joined j u && at_one k (is_rollback_kind (Some kind)) h.is_rollback j)
    ready_old fresh j u = elim (cases_eq j k) [
      | inl i ↦ (let x : h.joined j u ≡ false = rw i (unjoined fresh u) in rw x refl)
      | inr i ↦ rw (at_one_other k j (is_rollback_kind (Some kind)) h.is_rollback i) refl
    ]

-- every row that breaks no rule
pub tied_after : (h : Summary) (s : Past) (row : Event) → Positions s → broken_rule s row ≡ None → AgreesWith h s → AgreesWith (summary_after h row) (after s row)
tied_after h s (Sent p q body) g e t = tied_sent h s p q body t
tied_after h s (Received p q m) g e t = tied_received h s p q m t
tied_after h s (Dropped p q m) g e t = tied_dropped h s p q m t
tied_after h s (Began p k kind) g e t = tied_began h s p k kind e t
tied_after h s (Took p k) g e t = tied_took h s p k e t
tied_after h s (Ready p k) g e t = tied_ready h s p k e t
tied_after h s (Unwilling p k cause) g e t = tied_unwilling h s p k cause t
tied_after h s (Decided p k true) g e t = tied_commits (h.is_rollback k) h s p k refl g t
tied_after h s (Decided p k false) g e t = tied_aborted h s p k t
tied_after h s (Closed p k) g e t = tied_closed h s p k t
tied_after h s (Failed p) g e t = tied_failed h s p t
tied_after h s (Refused p v cause) g e t = tied_refused h s p v cause t

pub summary_row : (log : List Event) (row : Event) → summary (log ++ row ∷ []) ≡ summary_after (summary log) row
summary_row log row = fold-append summary_after summary_start log (row ∷ [])

pub record TiedLog (log : List Event) : Type 0 where
  pub tied : AgreesWith (summary log) (past log)
  pub ranked : OrdersMembers (summary log) log

tied_start : AgreesWith summary_start start
tied_start = record { rows = refl; live = λ p. refl; size = λ p. refl; permanent = λ p. refl; new = λ k p. refl; ready = λ k p. refl; begun = λ k p e. absurd (cc); rollback = λ k b. absurd (grind (arith, nat_tests, b)); checkpoint = λ k b. absurd (grind (arith, nat_tests, b)); decision = λ k. refl; open_in = λ p. refl; dropped = λ m. refl }

-- who has not joined
unjoined : (h : Summary) (s : Past) (k p : ℕ) → AgreesWith h s → s.new k p ≡ None → s.ready k p ≡ false → h.joined k p ≡ false
unjoined h s k p t n r = at_test (h.joined k p) (h.is_rollback k) refl refl (sym (t.new k p) ∙ n) (sym (t.ready k p) ∙ r)
  where
    at_test : (a b : Bool) → h.joined k p ≡ a → h.is_rollback k ≡ b → (if h.joined k p && not (h.is_rollback k) then Some (h.new k p) else None) ≡ None → (h.joined k p && h.is_rollback k) ≡ false → h.joined k p ≡ false
    at_test false b e f x y = e
    at_test true true e f x y = absurd (let z : true ≡ false = rw (e, f) at y in cc)
    at_test true false e f x y = absurd (let z : Some (h.new k p) ≡ None = rw (e, f) at x in cc)

-- a row by which nobody joins
ranked_same : (h g : Summary) (log : List Event) (row : Event) → ((k : ℕ) → members (row ∷ []) k ≡ []) → ((k p : ℕ) → g.joined k p ≡ h.joined k p) → ((k p : ℕ) → g.joined_at k p ≡ h.joined_at k p) → g.rows ≡ h.rows + 1 → OrdersMembers h log → OrdersMembers g (log ++ row ∷ [])
ranked_same h g log row none j a n r = record {
  member = λ k i p e. j k p ∙ r.member k i p (rw (members_same k) at e);
  there = λ k p e. let x = r.there k p (sym (j k p) ∙ e) in (x.0, rw (members_same k) x.1);
  low = λ k i p e. let x = r.low k i p (rw (members_same k) at e) in omega (arith, a k p, n, x);
  rises = λ k i l p q e f b. let x = r.rises k i l p q (rw (members_same k) at e) (rw (members_same k) at f) b in omega (arith, a k p, a k q, x);
}
  where
    members_same : (k : ℕ) → members (log ++ row ∷ []) k ≡ members log k
    members_same k = members_push log row k ∙ (rw (none k) (append-nil (members log k)))

-- a row by which p joins k
ranked_joined : (h g : Summary) (log : List Event) (row : Event) (p k : ℕ) → ((j : ℕ) → members (row ∷ []) j ≡ (if k == j then p ∷ [] else [])) → h.joined k p ≡ false → ((j u : ℕ) → g.joined j u ≡ at_pair k p true h.joined j u) → ((j u : ℕ) → g.joined_at j u ≡ at_pair k p h.rows h.joined_at j u) → g.rows ≡ h.rows + 1 → OrdersMembers h log → OrdersMembers g (log ++ row ∷ [])
ranked_joined h g log row p k one not_yet j a n r = record {
  member = λ i x u e. j i u ∙ (elim (members_now i x u e) [ inl b ↦ old_joined i u (r.member i x u b) | inr b ↦ rw (b.0, b.2, is_same k, is_same p) refl ]);
  there = λ i u e. there_now i u (sym (j i u) ∙ e);
  low = λ i x u e. elim (members_now i x u e) [
    | inl b ↦ (let c = old_took i u (r.member i x u b) in let d = r.low i x u b in let f = a i u in omega (arith, c, d, f, n))
    | inr b ↦ (let c = new_took i u b.0 b.2 in let f = a i u in omega (arith, c, f, n))
  ];
  rises = λ i x y u v e f l. elim (members_now i x u e) [
    | inl b ↦ elim (members_now i y v f) [
      | inl c ↦ (let z = r.rises i x y u v b c l in let b1 = old_took i u (r.member i x u b) in let c1 = old_took i v (r.member i y v c) in let b2 = a i u in let c2 = a i v in omega (arith, z, b1, c1, b2, c2))
      | inr c ↦ (let z = r.low i x u b in let b1 = old_took i u (r.member i x u b) in let c1 = new_took i v c.0 c.2 in let b2 = a i u in let c2 = a i v in omega (arith, z, b1, c1, b2, c2))
    ]
    | inr b ↦ elim (members_now i y v f) [
      | inl c ↦ (let z = slice_get_within (members log i) y v c in absurd (omega (arith, z, b.1, l)))
      | inr c ↦ absurd (omega (arith, b.1, c.1, l))
    ]
  ];
}
  where
    members_is : (i : ℕ) → members (log ++ row ∷ []) i ≡ members log i ++ (if k == i then p ∷ [] else [])
    members_is i = members_push log row i ∙ ap (λ (l : List ℕ). members log i ++ l) (one i)

    at_place : (i x u : ℕ) (b : Bool) → (k == i) ≡ b → slice_get (members log i ++ (if b then p ∷ [] else [])) x ≡ Some u → (slice_get (members log i) x ≡ Some u) ⊎ ((i ≡ k) × (x ≡ length (members log i)) × (u ≡ p))
    at_place i x u true t e = elim (get_push (members log i) p x u e) [ inl b ↦ inl b | inr b ↦ inr (sym (same k i t), b.0, sym b.1) ]
    at_place i x u false t e = inl (rw append-nil at e)

    members_now : (i x u : ℕ) → slice_get (members (log ++ row ∷ []) i) x ≡ Some u → (slice_get (members log i) x ≡ Some u) ⊎ ((i ≡ k) × (x ≡ length (members log i)) × (u ≡ p))
    members_now i x u e = at_place i x u (k == i) refl (rw (members_is i) at e)

    old_joined : (i u : ℕ) → h.joined i u ≡ true → at_pair k p true h.joined i u ≡ true
    old_joined i u e = at_test ((i == k) && (u == p))
      where
        at_test : (b : Bool) → (if b then true else h.joined i u) ≡ true
        at_test true = refl
        at_test false = e

    other_pair : (i u : ℕ) → h.joined i u ≡ true → ((i == k) && (u == p)) ≡ false
    other_pair i u e = elim (cases_eq i k) [
      | inl c ↦ elim (cases_eq u p) [
        | inl d ↦ absurd (let f : h.joined k p ≡ true = subst (λ (x : ℕ). h.joined k x ≡ true) d (subst (λ (x : ℕ). h.joined x u ≡ true) c e) in cc (f, not_yet))
        | inr d ↦ grind (arith, nat_tests, d)
      ]
      | inr c ↦ grind (arith, nat_tests, c)
    ]

    old_took : (i u : ℕ) → h.joined i u ≡ true → at_pair k p h.rows h.joined_at i u ≡ h.joined_at i u
    old_took i u e = rw (other_pair i u e) refl

    new_took : (i u : ℕ) → i ≡ k → u ≡ p → at_pair k p h.rows h.joined_at i u ≡ h.rows
    new_took i u e f = rw (e, f, is_same k, is_same p) refl

    there_now : (i u : ℕ) → at_pair k p true h.joined i u ≡ true → (x : ℕ) × (slice_get (members (log ++ row ∷ []) i) x ≡ Some u)
    there_now i u e = at_test ((i == k) && (u == p)) refl e
      where
        kept_place : (b : Bool) (x : ℕ) → slice_get (members log i) x ≡ Some u → slice_get (members log i ++ (if b then p ∷ [] else [])) x ≡ Some u
        kept_place true x e = get_kept (members log i) p x u e
        kept_place false x e = rw append-nil e

        at_test : (b : Bool) → ((i == k) && (u == p)) ≡ b → (if b then true else h.joined i u) ≡ true → (x : ℕ) × (slice_get (members (log ++ row ∷ []) i) x ≡ Some u)
        at_test true t f =
            let y = both (i == k) (u == p) t in
            let c = same i k y.0 in let d = same u p y.1 in
            (length (members log i), rw (members_is i, c, is_same k, d) (get_last (members log k) p))
        at_test false t f = let y = r.there i u f in (y.0, rw (members_is i) (kept_place (k == i) y.0 y.1))

ranked_after : (h : Summary) (s : Past) (log : List Event) (row : Event) → broken_rule s row ≡ None → AgreesWith h s → OrdersMembers h log → OrdersMembers (summary_after h row) (log ++ row ∷ [])
ranked_after h s log (Took p k) e t r =
    let m = may_take s p k e in
    ranked_joined h (summary_after h (Took p k)) log (Took p k) p k (λ j. by_test (k == j)) (unjoined h s k p t m.not_new m.not_ready) (λ j u. refl) (λ j u. refl) refl r
  where
    by_test : (b : Bool) → cons_option (if b then Some p else None) [] ≡ (if b then p ∷ [] else [])
    by_test true = refl
    by_test false = refl
ranked_after h s log (Ready p k) e t r =
    let m = may_get_ready s p k e in
    ranked_joined h (summary_after h (Ready p k)) log (Ready p k) p k (λ j. by_test (k == j)) (unjoined h s k p t m.not_new m.not_ready) (λ j u. refl) (λ j u. refl) refl r
  where
    by_test : (b : Bool) → cons_option (if b then Some p else None) [] ≡ (if b then p ∷ [] else [])
    by_test true = refl
    by_test false = refl
ranked_after h s log (Sent p q body) e t r = ranked_same h (summary_after h (Sent p q body)) log (Sent p q body) (λ k. refl) (λ k u. refl) (λ k u. refl) refl r
ranked_after h s log (Received p q m) e t r = ranked_same h (summary_after h (Received p q m)) log (Received p q m) (λ k. refl) (λ k u. refl) (λ k u. refl) refl r
ranked_after h s log (Dropped p q m) e t r = ranked_same h (summary_after h (Dropped p q m)) log (Dropped p q m) (λ k. refl) (λ k u. refl) (λ k u. refl) refl r
ranked_after h s log (Began p j kind) e t r = ranked_same h (summary_after h (Began p j kind)) log (Began p j kind) (λ k. refl) (λ k u. refl) (λ k u. refl) refl r
ranked_after h s log (Unwilling p j cause) e t r = ranked_same h (summary_after h (Unwilling p j cause)) log (Unwilling p j cause) (λ k. refl) (λ k u. refl) (λ k u. refl) refl r
ranked_after h s log (Decided p j false) e t r = ranked_same h (summary_after h (Decided p j false)) log (Decided p j false) (λ k. refl) (λ k u. refl) (λ k u. refl) refl r
ranked_after h s log (Decided p j true) e t r = by_kind (h.is_rollback j)
  where
    by_kind : (roll : Bool) → OrdersMembers (summary_committed roll h j) (log ++ Decided p j true ∷ [])
    by_kind true = ranked_same h (summary_committed true h j) log (Decided p j true) (λ k. refl) (λ k u. refl) (λ k u. refl) refl r
    by_kind false = ranked_same h (summary_committed false h j) log (Decided p j true) (λ k. refl) (λ k u. refl) (λ k u. refl) refl r
ranked_after h s log (Closed p j) e t r = ranked_same h (summary_after h (Closed p j)) log (Closed p j) (λ k. refl) (λ k u. refl) (λ k u. refl) refl r
ranked_after h s log (Failed p) e t r = ranked_same h (summary_after h (Failed p)) log (Failed p) (λ k. refl) (λ k u. refl) (λ k u. refl) refl r
ranked_after h s log (Refused p v cause) e t r = ranked_same h (summary_after h (Refused p v cause)) log (Refused p v cause) (λ k. refl) (λ k u. refl) (λ k u. refl) refl r

tied_log_start : TiedLog []
tied_log_start = record { tied = tied_start; ranked = record { member = λ k i p e. absurd (cc); there = λ k p e. absurd (cc); low = λ k i p e. absurd (cc); rises = λ k i j p q e f l. absurd (cc) } }

tied_log_push : (log : List Event) (row : Event) → IsLegal log → broken_rule (past log) row ≡ None → TiedLog log → TiedLog (log ++ row ∷ [])
tied_log_push log row l e t = record {
  tied = rw (summary_row log row, past_push log row) (tied_after (summary log) (past log) row (positions log l) e t.tied);
  ranked = rw (summary_row log row) (ranked_after (summary log) (past log) log row e t.tied t.ranked);
}

pub tied_log : (log : List Event) → IsLegal log → TiedLog log
tied_log log l = legal_log_induction TiedLog tied_log_start tied_log_push log l

pub tied : (log : List Event) → IsLegal log → AgreesWith (summary log) (past log)
tied log l = (tied_log log l).tied

pub ranked : (log : List Event) → IsLegal log → OrdersMembers (summary log) log
ranked log l = (tied_log log l).ranked
