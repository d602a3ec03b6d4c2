-- An ask is taken; an instance is begun.
use Rattle.std.proofs.Common.{◌≡◌, ℕ, ◌≤◌, ◌<◌, Bool, true, false, not, List, ◌∷◌, refl, arith, sym, ap, ap₂, subst, ◌∙◌, Some, None}
use Rattle.std.specs.Prelude.{◌==◌, ◌&&◌, nat_lt, nat_le, if◌then◌else◌}
use Rattle.std.proofs.lemmas.Bool.Decides.{nat_tests}
use Rattle.kt_base.specs.declared.words.Cause.TheVariants.{Busy}
use Rattle.kt_meaning.specs.Past.{at_one, at_pair, is_rollback_kind}
use Rattle.kt_protocol.proofs.Choices.{closed_of, same}
use Rattle.kt_protocol.proofs.Invariant.{Invariant}
use Rattle.kt_protocol.proofs.Replying.{ask_facts, ask_label_facts}
use Rattle.kt_protocol.proofs.StepFacts.{joining, rolling_in, noted_invariant}
use Rattle.kt_protocol.proofs.Transitions.{invariant_joining_checkpoint, invariant_joining_rollback}
use Rattle.kt_protocol.proofs.Updates.{is_same, is_other, at_pair_here}
use Rattle.kt_protocol.specs.Joining.{after_joining_checkpoint, after_joining_rollback, must_take, must_roll, kind_for}
use Rattle.kt_protocol.specs.Parcels.{Parcel, Ask, with_rest}
use Rattle.kt_protocol.specs.Replies.{after_noting, after_replying, unable_cause}
use Rattle.kt_protocol.specs.States.{State}
use Rattle.kt_protocol.proofs.LateJoining.{once_closed_joining_checkpoint, once_closed_joining_rollback}
use Rattle.kt_protocol.proofs.KeptLists.{KeptLists}
use Rattle.kt_protocol.proofs.KeptSteps.{kept_joining_checkpoint, kept_joining_rollback}
use Rattle.kt_protocol.proofs.LateWholeSteps.{invariant_of, noting_same, last_same, first_same}
use Rattle.kt_protocol.specs.LateSteps.{late_settling, late_ask}
use Rattle.kt_protocol.specs.OnceClosed.{once_closed}
use Rattle.kt_machine.specs.Labelling.{Labelling, labelled_log}
use Rattle.kt_machine.specs.Seen.{Seen, SeenPart, no_part, part_of, seen_parcels, label_noted, view}
use Rattle.kt_machine.specs.ListChanges as changes
use Rattle.kt_machine.specs.CallTests as tests
use Rattle.kt_machine.specs.SeenJoining.{seen_joining_checkpoint, seen_joining_rollback, no_note, seen_noting, seen_member_ask, part_after_ask}
use Rattle.kt_machine.specs.SeenReplies.{seen_replying}
use Rattle.kt_machine.specs.SeenClosing.{seen_settling}
use Rattle.kt_machine.specs.Transition.{seen_ask}
use Rattle.kt_machine.proofs.LabelNumbers.{Of, some_label, same_le, same_lt}
use Rattle.kt_machine.proofs.Parcels.{NamesMessages, front_ask, parcels_with_rest}
use Rattle.kt_machine.proofs.SameSeen.{read}
use Rattle.kt_machine.proofs.Named.{Tells, Sees}
use Rattle.kt_machine.proofs.SmallSteps.{sees_replying, sees_unwilling, names_of_rest}
use Rattle.kt_machine.proofs.Noting.{sees_noting, noting_labels}
use Rattle.kt_machine.proofs.Joining.{sees_joining_checkpoint, sees_joining_rollback, all_older, near_last, near_first}
use Rattle.kt_machine.proofs.Settling.{sees_then, sees_with, sees_as, at_both, sees_settling}

nothing_noted : (part : SeenPart) (q label : ℕ) → part.is_rollback ≡ false → part_after_ask part q label ≡ part
nothing_noted part q label e = rw e refl

-- a member notes the label of an ask where its part is one in a rollback
member_ask_is : (v : Seen) (roll : Bool) (p q label : ℕ) → (v.states p).part.is_rollback ≡ roll → seen_member_ask v roll p q label ≡ seen_noting v p q label
member_ask_is v true p q label e = refl
member_ask_is v false p q label e = ap (λ (part : SeenPart). record v { states = at_one p (record (v.states p) { part = part }) v.states }) (sym (nothing_noted (v.states p).part q label e))

on : (b : Bool) → not b ≡ false → b ≡ true
on true z = refl
on false z = absurd (cc)

same_kind : (b : Bool) → is_rollback_kind (Some (kind_for b)) ≡ b
same_kind true = refl
same_kind false = refl

module _ (first : ℕ) (c : State) (t : Labelling) (known : read c.so_far t ≡ labelled_log first c.log) (d : Tells t c) where
  -- the tests of labels are those of numbers
  pub must_take_is : (p q l : ℕ) → Of t.label c.so_far.from p l → must_take c p q l ≡ tests.must_take (t.calls p) q (t.label l)
  unfolding tests.must_take
  must_take_is p q l a = ap₂ (λ (x y : Bool). x && y) (sym (some_label t.label t.used c.so_far.from c.so_far.rows d.numbers p (c.first_sent p q) (d.named.first_of p q))) (sym (same_le t.label t.used c.so_far.from c.so_far.rows d.numbers p (c.first_sent p q) l (d.named.first_of p q) a))
      ∙ ap (λ (x : ℕ). nat_lt 0 x && nat_le x (t.label l)) (sym ((d.tables p).first_is q))

  pub must_roll_is : (p q l : ℕ) → Of t.label c.so_far.from q l → must_roll c p q l ≡ tests.must_roll (t.calls p) q (t.label l)
  unfolding tests.must_roll
  must_roll_is p q l a = sym (same_lt t.label t.used c.so_far.from c.so_far.rows d.numbers q l (c.last_received p q) a (d.named.last_of p q)) ∙ ap (λ (x : ℕ). nat_lt (t.label l) x) (sym ((d.tables p).last_is q))

  module _ (p q k l : ℕ) (rest : List Parcel) (e : c.channel q p ≡ Ask k l ∷ rest) (g : Invariant (once_closed c)) (lists : KeptLists c) where
    undecided : c.so_far.is_decided k ≡ false
    undecided = (ask_facts (once_closed c) q p k l rest e g).2

    pos : 0 < k
    pos = (ask_facts (once_closed c) q p k l rest e g).3

    low : k ≤ c.instances
    low = (ask_facts (once_closed c) q p k l rest e g).4

    label_is : Of t.label c.so_far.from (if c.so_far.is_rollback k then q else p) l
    label_is = (front_ask t.label c.so_far.from c.so_far.is_rollback c.instances q p k l rest (subst (λ (x : List Parcel). NamesMessages t.label c.so_far.from c.so_far.is_rollback c.instances q p x) e (d.flows.channel_names q p))).2

    of_roll : c.so_far.is_rollback k ≡ true → Of t.label c.so_far.from q l
    of_roll r = subst (λ (b : Bool). Of t.label c.so_far.from (if b then q else p) l) r label_is

    of_save : c.so_far.is_rollback k ≡ false → Of t.label c.so_far.from p l
    of_save r = subst (λ (b : Bool). Of t.label c.so_far.from (if b then q else p) l) r label_is

    -- who is in no instance isn't the initiator of an undecided one
    no_initiator : c.so_far.open_in p ≡ 0 → (p == c.initiator k) ≡ false
    no_initiator o = is_other p (c.initiator k) (λ x. absurd (apart x))
      where
        apart : p ≡ c.initiator k → ⊥
        apart x = let j = (g.positions.joined_instance k q (ask_facts (once_closed c) q p k l rest e g).1).2 in
            let y = g.positions.member_open k (c.initiator k) j undecided in
            let z : c.so_far.open_in p ≡ k = ap c.so_far.open_in x ∙ y in omega (arith, o, z, pos)

    parent_is : c.so_far.open_in p ≡ 0 → (if p == c.initiator k then None else Some q) ≡ Some q
    parent_is o = ap (λ (b : Bool). if b then None else Some q) (no_initiator o)

    not_joined : c.so_far.open_in p ≡ 0 → c.so_far.joined k p ≡ false
    not_joined o = go (c.so_far.joined k p) refl
      where
        go : (b : Bool) → c.so_far.joined k p ≡ b → b ≡ false
        go false j = refl
        go true j = let y = g.positions.member_open k p j undecided in absurd (omega (arith, o, y, pos))

    not_noted : c.so_far.open_in p ≡ 0 → (y : ℕ) → c.noted k p y ≡ false
    not_noted o y = go (c.noted k p y) refl
      where
        go : (b : Bool) → c.noted k p y ≡ b → b ≡ false
        go false a = refl
        go true a = let j = d.noting.noted_in k p y a in let z = not_joined o in absurd (cc (j, z))

    good_save : (o : c.so_far.open_in p ≡ 0) → c.so_far.is_rollback k ≡ false → must_take (once_closed c) p q l ≡ true → Invariant (once_closed (after_joining_checkpoint c (with_rest c.channel q p rest) p k false q l))
    good_save o r m = let x = joining (once_closed c) p q k l rest e g o r m in
        invariant_of (after_joining_checkpoint c (with_rest c.channel q p rest) p k false q l) (after_joining_checkpoint (once_closed c) (with_rest c.channel q p rest) p k false q l)
        (once_closed_joining_checkpoint c p k o undecided (with_rest c.channel q p rest) false q l)
        (invariant_joining_checkpoint (once_closed c) (with_rest c.channel q p rest) p k false q l l x.0 x.1 g)

    good_roll : (o : c.so_far.open_in p ≡ 0) → c.so_far.is_rollback k ≡ true → must_roll (once_closed c) p q l ≡ true → Invariant (once_closed (after_joining_rollback (after_noting c p q k l) (with_rest c.channel q p rest) p k false q (c.last_received p q)))
    good_roll o r m = let x = rolling_in (once_closed c) p q k l rest e g o r m in
        invariant_of (after_joining_rollback (after_noting c p q k l) (with_rest c.channel q p rest) p k false q (c.last_received p q)) (after_joining_rollback (after_noting (once_closed c) p q k l) (with_rest c.channel q p rest) p k false q ((once_closed c).last_received p q))
        (once_closed_joining_rollback (after_noting c p q k l) p k o undecided (with_rest c.channel q p rest) false q (c.last_received p q) ∙ ap₂ (λ (s : State) (x : ℕ). after_joining_rollback s (with_rest c.channel q p rest) p k false q x) (noting_same c p q k l rest e g lists) (last_same c p q k l rest e g lists o))
        (invariant_joining_rollback (after_noting (once_closed c) p q k l) (with_rest c.channel q p rest) p k false q ((once_closed c).last_received p q) l x.0 x.1 (noted_invariant (once_closed c) p q k l rest e g))

    -- the asker is a process
    near_some : (to : ℕ) → Some q ≡ Some to → q < c.processes → to < c.processes
    near_some to x l = (let y : q ≡ to = cc (x) in subst (λ (z : ℕ). z < c.processes) y l)

    near_save : c.so_far.is_rollback k ≡ false → q < c.processes
    near_save r = let x = (ask_label_facts (once_closed c) q p k l rest e g).0 r in subst (λ (z : ℕ). z < c.processes) x.1 (g.messages.sent_low l (g.messages.received_low l x.0).0).4

    near_roll : must_roll (once_closed c) p q l ≡ true → q < c.processes
    near_roll m = let x = g.tables.last_received_is p q (above l ((once_closed c).last_received p q) m) in subst (λ (z : ℕ). z < c.processes) x.1 (g.messages.sent_low ((once_closed c).last_received p q) (g.messages.received_low ((once_closed c).last_received p q) x.0).0).3
      where
        above : (l n : ℕ) → nat_lt l n ≡ true → 0 < n
        above l n e = grind (arith, nat_tests, e)

    saves_in : c.so_far.open_in p ≡ 0 → c.so_far.is_rollback k ≡ false → must_take (once_closed c) p q l ≡ true → Sees first (late_settling (after_joining_checkpoint c (with_rest c.channel q p rest) p k false q l) p k) (seen_settling (seen_joining_checkpoint (view t c) (changes.with_rest (view t c).channel q p (seen_parcels t.label t.body c.so_far.is_rollback rest)) p k (Some q)) p k)
    saves_in o r m = sees_then first (after_joining_checkpoint c (with_rest c.channel q p rest) p k false q l) (late_settling (after_joining_checkpoint c (with_rest c.channel q p rest) p k false q l) p k) _ (λ v. seen_settling v p k)
        (sees_joining_checkpoint first c t known d (with_rest c.channel q p rest) (changes.with_rest (view t c).channel q p (seen_parcels t.label t.body c.so_far.is_rollback rest)) p k false q l (Some q) o pos low (parcels_with_rest t.label t.body c.so_far.is_rollback c.channel q p rest) (names_of_rest first c t known d p q (Ask k l) rest e) (parent_is o) (λ to x. near_some to x (near_save r)) r (λ v. near_last c p v o g) (λ v. all_older c t p v o g d))
        (λ t' known' d'. sees_settling first (after_joining_checkpoint c (with_rest c.channel q p rest) p k false q l) t' known' d' p k (good_save o r m) (kept_joining_checkpoint c p k (with_rest c.channel q p rest) false q l o undecided g lists) (at_pair_here k p true c.so_far.joined) undecided)

    rolls_in : c.so_far.open_in p ≡ 0 → c.so_far.is_rollback k ≡ true → must_roll (once_closed c) p q l ≡ true → Sees first (late_settling (after_joining_rollback (after_noting c p q k l) (with_rest c.channel q p rest) p k false q (c.last_received p q)) p k) (seen_settling (seen_joining_rollback (view t c) (changes.with_rest (view t c).channel q p (seen_parcels t.label t.body c.so_far.is_rollback rest)) p k (Some q) (at_one q (Some (t.label l)) no_note)) p k)
    rolls_in o r m = sees_then first (after_joining_rollback (after_noting c p q k l) (with_rest c.channel q p rest) p k false q (c.last_received p q)) (late_settling (after_joining_rollback (after_noting c p q k l) (with_rest c.channel q p rest) p k false q (c.last_received p q)) p k) _ (λ v. seen_settling v p k)
        (sees_joining_rollback first c t known d (with_rest c.channel q p rest) (changes.with_rest (view t c).channel q p (seen_parcels t.label t.body c.so_far.is_rollback rest)) p k false q (c.last_received p q) (Some q) o pos low (parcels_with_rest t.label t.body c.so_far.is_rollback c.channel q p rest) (names_of_rest first c t known d p q (Ask k l) rest e) (parent_is o) (λ to x. near_some to x (near_roll m)) r (λ v. near_first c p v o g)
        (after_noting c p q k l).noted (after_noting c p q k l).noted_label (at_one q (Some (t.label l)) no_note)
        (λ i u y n. rw (is_other u p n) (flat (i == k) (y == q) true (c.noted i u y))) (λ i u y n. rw (is_other u p n) (flat (i == k) (y == q) l (c.noted_label i u y)))
        (λ y. rw (is_same k, is_same p, not_noted o y) (at_test (y == q) (c.noted_label k p y)))
        (record { noted_of = noted_of; noted_in = noted_in }))
        (λ t' known' d'. sees_settling first (after_joining_rollback (after_noting c p q k l) (with_rest c.channel q p rest) p k false q (c.last_received p q)) t' known' d' p k (good_roll o r m) (kept_joining_rollback (after_noting c p q k l) p k (with_rest c.channel q p rest) false q (c.last_received p q) o undecided r (record { received = lists.received; parted = lists.parted; kept_messages = lists.kept_messages; held_messages = lists.held_messages })) (at_pair_here k p true c.so_far.joined) undecided)
      where
        flat : {X : Type 0} (a b : Bool) (x y : X) → (if a && false && b then x else y) ≡ y
        flat true b x y = refl
        flat false b x y = refl

        at_test : (b : Bool) (x : ℕ) → label_noted t.label (if b then true else false) (if b then l else x) ≡ (if b then Some (t.label l) else None)
        at_test true x = refl
        at_test false x = refl

        three : (a b e : Bool) → (a && b && e) ≡ true → (a ≡ true) × (b ≡ true) × (e ≡ true)
        three a b e z = grind (arith, nat_tests, z)

        noted_of : (i u y : ℕ) → (if i == k && u == p && y == q then true else c.noted i u y) ≡ true → c.so_far.is_rollback i ≡ true → Of t.label c.so_far.from y (if i == k && u == p && y == q then l else c.noted_label i u y)
        noted_of i u y = go (i == k && u == p && y == q) refl
          where
            go : (b : Bool) → (i == k && u == p && y == q) ≡ b → (if b then true else c.noted i u y) ≡ true → c.so_far.is_rollback i ≡ true → Of t.label c.so_far.from y (if b then l else c.noted_label i u y)
            go true e a x = let w = three (i == k) (u == p) (y == q) e in subst (λ (z : ℕ). Of t.label c.so_far.from z l) (sym (same y q w.2)) (of_roll r)
            go false e a x = d.noting.noted_of i u y a x

        noted_in : (i u y : ℕ) → (if i == k && u == p && y == q then true else c.noted i u y) ≡ true → at_pair k p true c.so_far.joined i u ≡ true
        noted_in i u y = go (i == k && u == p && y == q) refl
          where
            more : (b : Bool) → c.so_far.joined i u ≡ true → (if b then true else c.so_far.joined i u) ≡ true
            more true j = refl
            more false j = j

            go : (b : Bool) → (i == k && u == p && y == q) ≡ b → (if b then true else c.noted i u y) ≡ true → at_pair k p true c.so_far.joined i u ≡ true
            go true e a = let w = three (i == k) (u == p) (y == q) e in subst (λ (z : ℕ). at_pair k p true c.so_far.joined z u ≡ true) (sym (same i k w.0)) (subst (λ (z : ℕ). at_pair k p true c.so_far.joined k z ≡ true) (sym (same u p w.1)) (at_pair_here k p true c.so_far.joined))
            go false e a = more (i == k && u == p) (d.noting.noted_in i u y a)

    part_kind : (n : ℕ) → n ≡ k → (if n == 0 then no_part else part_of t c p n).is_rollback ≡ c.so_far.is_rollback k
    part_kind n i = subst (λ (m : ℕ). (if m == 0 then no_part else part_of t c p m).is_rollback ≡ c.so_far.is_rollback k) (sym i) (rw (some k pos) refl)
      where
        some : (n : ℕ) → 0 < n → (n == 0) ≡ false
        some n h = grind (arith, nat_tests)

    noted_reply : c.so_far.open_in p ≡ k → Sees first (after_replying (after_noting c p q k l) p q k true rest) (seen_replying (seen_noting (view t c) p q (t.label l)) p q k true (seen_parcels t.label t.body c.so_far.is_rollback rest))
    noted_reply o = sees_with first (after_noting c p q k l) (after_replying (after_noting c p q k l) p q k true rest) _ (λ v. seen_replying v p q k true (seen_parcels t.label t.body c.so_far.is_rollback rest)) t
        (sees_noting first c t known d p q k l pos o (g.positions.open_joined k p pos o) of_roll) (noting_labels first c t known d p q k l pos o (g.positions.open_joined k p pos o) of_roll)
        (λ known' d'. sees_replying first (after_noting c p q k l) t known' d' p q k true (Ask k l) rest e)

    ask_here : (able : Bool) → Sees first (late_ask c p q able k l rest) (seen_ask (view t c) p q able k (c.so_far.is_rollback k) (t.label l) (seen_parcels t.label t.body c.so_far.is_rollback rest))
    ask_here able = at_both first (c.so_far.open_in p == k) (c.so_far.open_in p == k) refl
        (λ o. let i = same (c.so_far.open_in p) k o in
        sees_as first (after_replying (after_noting c p q k l) p q k true rest) _ _ (noted_reply i)
        (ap (λ (v : Seen). seen_replying v p q k true (seen_parcels t.label t.body c.so_far.is_rollback rest)) (sym (member_ask_is (view t c) (c.so_far.is_rollback k) p q (t.label l) (part_kind (c.so_far.open_in p) i)))))
        (λ _. at_both first (not (c.so_far.open_in p == 0)) (not (c.so_far.open_in p == 0)) refl
        (λ _. sees_unwilling first c t known d p q k (Busy (c.so_far.open_in p)) (Ask k l) rest e)
        (λ z. let o = closed_of (c.so_far.open_in p) z in at_both first (c.so_far.is_rollback k) (c.so_far.is_rollback k) refl
        (λ r. at_both first (must_roll c p q l) (tests.must_roll (t.calls p) q (t.label l)) (must_roll_is p q l (of_roll r))
        (λ m. rolls_in o r (ap (λ (x : ℕ). nat_lt l x) (sym (last_same c p q k l rest e g lists o)) ∙ m))
        (λ _. sees_replying first c t known d p q k true (Ask k l) rest e))
        (λ r. at_both first (not (must_take c p q l)) (not (tests.must_take (t.calls p) q (t.label l))) (ap not (must_take_is p q l (of_save r)))
        (λ _. sees_replying first c t known d p q k true (Ask k l) rest e)
        (λ m. at_both first (not (able && c.up p)) (not (able && c.up p)) refl
        (λ _. sees_unwilling first c t known d p q k (unable_cause (c.up p)) (Ask k l) rest e)
        (λ _. saves_in o r (ap (λ (x : ℕ). nat_lt 0 x && nat_le x l) (sym (first_same c p q k l rest e g lists o)) ∙ on (must_take c p q l) m))))))

    pub sees_ask : (able : Bool) → Sees first (late_ask c p q able k l rest) (seen_ask (view t c) p q able k (is_rollback_kind (Some (kind_for (c.so_far.is_rollback k)))) (t.label l) (seen_parcels t.label t.body c.so_far.is_rollback rest))
    sees_ask able = sees_as first (late_ask c p q able k l rest) _ _ (ask_here able) (ap (λ (b : Bool). seen_ask (view t c) p q able k b (t.label l) (seen_parcels t.label t.body c.so_far.is_rollback rest)) (sym (same_kind (c.so_far.is_rollback k))))
