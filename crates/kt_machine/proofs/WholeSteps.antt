-- Whole steps, and runs: what is seen after a step is what the transition of what was seen gives.
use Rattle.std.proofs.Common.{◌≡◌, ℕ, ◌+◌, ◌<◌, Bool, true, false, not, List, [], ◌∷◌, refl, arith, sym, ap, subst, ◌∙◌, Some, None}
use Rattle.std.specs.Prelude.{◌==◌, ◌&&◌, nat_lt, if◌then◌else◌, slice_get}
use Rattle.std.proofs.lemmas.Bool.Decides.{nat_tests}
use Rattle.kt_base.specs.declared.words.Cause.TheVariants.{Busy, Down}
use Rattle.kt_base.specs.declared.words.Verb.TheVariants as verb
use Rattle.kt_meaning.specs.Past.{at_one, at_pair}
use Rattle.kt_spacetime.specs.declared.deeds.Deed.{Deed}
use Rattle.kt_spacetime.specs.declared.deeds.Deed.TheVariants as deed
use Rattle.kt_protocol.proofs.Answering.{reply_facts}
use Rattle.kt_protocol.proofs.Beginning.{decide_facts}
use Rattle.kt_protocol.proofs.Invariant.{Invariant}
use Rattle.kt_protocol.proofs.Lawful.{Law, before_it, tie}
use Rattle.kt_protocol.proofs.Lines.{times_apps, times_append}
use Rattle.kt_protocol.proofs.Receiving.{message_facts}
use Rattle.kt_protocol.proofs.StepFacts.{new_undecided, new_joining, from_channel, from_held}
use Rattle.kt_protocol.proofs.Transitions.{invariant_reply, invariant_began, invariant_joining_checkpoint, invariant_joining_rollback}
use Rattle.kt_protocol.proofs.Updates.{is_same, at_one_here, at_pair_here}
use Rattle.kt_protocol.proofs.Weights.{weigh_cons, one_app}
use Rattle.kt_protocol.specs.Deciding.{after_decision}
use Rattle.kt_protocol.specs.Joining.{after_began, after_joining_checkpoint, after_joining_rollback}
use Rattle.kt_protocol.specs.Messages.{after_arrival}
use Rattle.kt_protocol.specs.Parcels.{Parcel, App, Ask, Reply, Decide, Lists, with_rest, messages}
use Rattle.kt_protocol.specs.Replies.{after_reply, unable_cause}
use Rattle.kt_protocol.specs.States.{State, ProtocolStep, Send, Begin, Fail, Take, is_ready}
use Rattle.kt_protocol.specs.Steps.{verb_for}
use Rattle.kt_protocol.specs.InTransit.{times}
use Rattle.kt_protocol.proofs.Choices.{same}
use Rattle.kt_protocol.proofs.LateJoining.{once_closed_began, once_closed_joining_checkpoint, once_closed_joining_rollback}
use Rattle.kt_protocol.proofs.KeptLists.{KeptLists}
use Rattle.kt_protocol.proofs.KeptSteps.{kept_began, kept_joining_checkpoint, kept_joining_rollback}
use Rattle.kt_protocol.proofs.LateMessages.{no_restore}
use Rattle.kt_protocol.proofs.LateWholeSteps.{invariant_of}
use Rattle.kt_protocol.specs.LateClosing.{is_within_label, late_closing}
use Rattle.kt_protocol.specs.LateSteps.{late_settling, late_front, late_take, late_beginning, late_begin_command, late_step}
use Rattle.kt_protocol.specs.OnceClosed.{held_once_closed, once_closed}
use Rattle.kt_machine.specs.Labelling.{Labelling, labelled_log}
use Rattle.kt_machine.specs.Seen.{SeenPart, no_part, SeenLists, seen_parcels, label_noted, part_of, view}
use Rattle.kt_machine.specs.ListChanges as changes
use Rattle.kt_machine.specs.SeenMessages.{seen_arrival, seen_without_front}
use Rattle.kt_machine.specs.SeenJoining.{seen_began, seen_joining_checkpoint, seen_joining_rollback, no_note}
use Rattle.kt_machine.specs.SeenReplies.{seen_reply}
use Rattle.kt_machine.specs.SeenClosing.{seen_settling, seen_closing}
use Rattle.kt_machine.specs.Transition.{seen_beginning, seen_begin_command, is_seen_ready, seen_front, seen_take, transition}
use Rattle.kt_machine.proofs.Parcels.{NamesMessages, AreMessagesOf, front_message, own_front, parcels_with_rest}
use Rattle.kt_machine.proofs.SameSeen.{read, some_awaited}
use Rattle.kt_machine.proofs.Named.{Tells, Sees}
use Rattle.kt_machine.proofs.Channels.{own_with_rest}
use Rattle.kt_machine.proofs.Sending.{sees_sending}
use Rattle.kt_machine.proofs.Receiving.{Taken, sees_dropping, sees_receiving}
use Rattle.kt_machine.proofs.SmallSteps.{part_in, sees_same, sees_without_front, sees_refusal, sees_failing, sees_holding, sees_reply, names_of_rest}
use Rattle.kt_machine.proofs.Noting.{sees_began, began_labels, channel_began}
use Rattle.kt_machine.proofs.Joining.{sees_joining_checkpoint, sees_joining_rollback, all_older, near_last, near_first}
use Rattle.kt_machine.proofs.Closing.{sees_closing}
use Rattle.kt_machine.proofs.Settling.{sees_then, sees_with, sees_as, at_both, sees_settling}
use Rattle.kt_machine.proofs.Asking.{sees_ask}

module _ (first : ℕ) (c : State) (t : Labelling) (known : read c.so_far t ≡ labelled_log first c.log) (d : Tells t c) (g : Invariant (once_closed c)) (lists : KeptLists c) where
  -- an instance is begun
  module _ (p : ℕ) (o : c.so_far.open_in p ≡ 0) where
    n : c.so_far.is_decided (c.instances + 1) ≡ false
    n = new_undecided (once_closed c) g

    its_parent : (x : ℕ) → (if p == at_one (c.instances + 1) p c.initiator (c.instances + 1) then None else Some x) ≡ None
    its_parent x = ap (λ (i : ℕ). if p == i then None else Some x) (at_one_here (c.instances + 1) p c.initiator) ∙ ap (λ (b : Bool). if b then None else Some x) (is_same p)

    good_new : (roll : Bool) → Invariant (once_closed (after_began c p roll))
    good_new roll = invariant_of (after_began c p roll) (after_began (once_closed c) p roll) (once_closed_began c p roll g) (invariant_began (once_closed c) p roll g)

    good_save : Invariant (once_closed (after_joining_checkpoint (after_began c p false) c.channel p (c.instances + 1) true p 0))
    good_save = invariant_of (after_joining_checkpoint (after_began c p false) c.channel p (c.instances + 1) true p 0) (after_joining_checkpoint (after_began (once_closed c) p false) c.channel p (c.instances + 1) true p 0)
        (once_closed_joining_checkpoint (after_began c p false) p (c.instances + 1) o n c.channel true p 0 ∙ ap (λ (s : State). after_joining_checkpoint s c.channel p (c.instances + 1) true p 0) (once_closed_began c p false g))
        (invariant_joining_checkpoint (after_began (once_closed c) p false) c.channel p (c.instances + 1) true p 0 0 (new_joining (once_closed c) p false o g) (record { label = λ z. absurd (cc (z)) }) (invariant_began (once_closed c) p false g))

    good_roll : Invariant (once_closed (after_joining_rollback (after_began c p true) c.channel p (c.instances + 1) true p 0))
    good_roll = invariant_of (after_joining_rollback (after_began c p true) c.channel p (c.instances + 1) true p 0) (after_joining_rollback (after_began (once_closed c) p true) c.channel p (c.instances + 1) true p 0)
        (once_closed_joining_rollback (after_began c p true) p (c.instances + 1) o n c.channel true p 0 ∙ ap (λ (s : State). after_joining_rollback s c.channel p (c.instances + 1) true p 0) (once_closed_began c p true g))
        (invariant_joining_rollback (after_began (once_closed c) p true) c.channel p (c.instances + 1) true p 0 0 (new_joining (once_closed c) p true o g) (record { label = λ z. absurd (cc (z)); clear = λ z. absurd (cc (z)); noted = λ z. absurd (cc (z)) }) (invariant_began (once_closed c) p true g))

    not_noted : (y : ℕ) → c.noted (c.instances + 1) p y ≡ false
    not_noted y = go (c.noted (c.instances + 1) p y) refl
      where
        go : (b : Bool) → c.noted (c.instances + 1) p y ≡ b → b ≡ false
        go false a = refl
        go true a = let x = d.joined_low (c.instances + 1) p (d.noting.noted_in (c.instances + 1) p y a) in absurd (omega (arith, x))

    pub sees_beginning : (roll : Bool) → Sees first (late_beginning c p roll) (seen_beginning (view t c) p roll)
    sees_beginning false = sees_then first (after_joining_checkpoint (after_began c p false) c.channel p (c.instances + 1) true p 0) (late_beginning c p false) _ (λ v. seen_settling v p (c.instances + 1))
        (sees_with first (after_began c p false) (after_joining_checkpoint (after_began c p false) c.channel p (c.instances + 1) true p 0) (seen_began (view t c) p false) (λ v. seen_joining_checkpoint v (view t c).channel p (c.instances + 1) None) t
        (sees_began first c t known d p false) (began_labels first c t known d p false)
        (λ known' d'. sees_joining_checkpoint first (after_began c p false) t known' d' c.channel (view t c).channel p (c.instances + 1) true p 0 None o (omega arith) (omega arith) (channel_began first c t known d p false) d'.flows.channel_names (its_parent p) (λ to e. absurd (cc (e))) (at_one_here (c.instances + 1) false c.so_far.is_rollback) (λ v. near_last c p v o g) (λ v. all_older (after_began c p false) t p v o (good_new false) d')))
        (λ t' known' d'. sees_settling first (after_joining_checkpoint (after_began c p false) c.channel p (c.instances + 1) true p 0) t' known' d' p (c.instances + 1) good_save
        (kept_joining_checkpoint (after_began c p false) p (c.instances + 1) c.channel true p 0 o n (good_new false) (kept_began c p false g lists)) (at_pair_here (c.instances + 1) p true c.so_far.joined) n)
    sees_beginning true = sees_then first (after_joining_rollback (after_began c p true) c.channel p (c.instances + 1) true p 0) (late_beginning c p true) _ (λ v. seen_settling v p (c.instances + 1))
        (sees_with first (after_began c p true) (after_joining_rollback (after_began c p true) c.channel p (c.instances + 1) true p 0) (seen_began (view t c) p true) (λ v. seen_joining_rollback v (view t c).channel p (c.instances + 1) None no_note) t
        (sees_began first c t known d p true) (began_labels first c t known d p true)
        (λ known' d'. sees_joining_rollback first (after_began c p true) t known' d' c.channel (view t c).channel p (c.instances + 1) true p 0 None o (omega arith) (omega arith) (channel_began first c t known d p true) d'.flows.channel_names (its_parent p) (λ to e. absurd (cc (e))) (at_one_here (c.instances + 1) true c.so_far.is_rollback) (λ v. near_first c p v o g)
        c.noted c.noted_label no_note (λ i u y e. refl) (λ i u y e. refl) (λ y. ap (λ (b : Bool). label_noted t.label b (c.noted_label (c.instances + 1) p y)) (not_noted y))
        (record { noted_of = d'.noting.noted_of; noted_in = λ i u y a. more i u (d'.noting.noted_in i u y a) })))
        (λ t' known' d'. sees_settling first (after_joining_rollback (after_began c p true) c.channel p (c.instances + 1) true p 0) t' known' d' p (c.instances + 1) good_roll
        (kept_joining_rollback (after_began c p true) p (c.instances + 1) c.channel true p 0 o n (at_one_here (c.instances + 1) true c.so_far.is_rollback) (kept_began c p true g lists)) (at_pair_here (c.instances + 1) p true c.so_far.joined) n)
      where
        more : (i u : ℕ) → c.so_far.joined i u ≡ true → at_pair (c.instances + 1) p true c.so_far.joined i u ≡ true
        more i u j = go (i == c.instances + 1 && u == p)
          where
            go : (b : Bool) → (if b then true else c.so_far.joined i u) ≡ true
            go true = refl
            go false = j

    pub sees_begin_command : (roll able : Bool) → Sees first (late_begin_command c p roll able) (seen_begin_command (view t c) p roll able)
    sees_begin_command true able = sees_beginning true
    sees_begin_command false able = at_both first (able && c.up p) (able && c.up p) refl (λ _. sees_beginning false) (λ _. sees_refusal first c t known d p verb.Checkpoint (unable_cause (c.up p)))

  ready_is : (p : ℕ) → is_ready c p ≡ is_seen_ready (view t c) p
  ready_is p = go (c.so_far.open_in p == 0)
    where
      go : (b : Bool) → (not b && c.so_far.is_rollback (c.so_far.open_in p)) ≡ (not b && (if b then no_part else part_of t c p (c.so_far.open_in p)).is_rollback)
      go true = refl
      go false = refl

  module _ (l : Law true (once_closed c)) where
    -- what p received of q stands before what is on its way
    stands_before : (p q m : ℕ) → 0 < times m (messages ((once_closed c).held q p)) + times m (messages (c.channel q p)) → (i : ℕ) → c.so_far.is_received i ≡ true → c.so_far.from i ≡ q → c.so_far.to i ≡ p → i < m
    stands_before p q m w i a f e = before_it true (once_closed c) g l p q m (subst (λ (x : ℕ). 0 < x) (sym (times_append m (messages ((once_closed c).held q p)) (messages (c.channel q p)))) w) (c.so_far.received_at i) i
        (ap (λ (y : List Deed). slice_get y (c.so_far.received_at i)) (sym ((tie true (once_closed c) g l).live p)) ∙ (ap (λ (y : ℕ). slice_get (c.so_far.live y) (c.so_far.received_at i)) (sym e) ∙ (g.histories.received_there i a ∙ ap (λ (y : ℕ). Some (deed.Received i y)) f)))

    taken_from_channel : (p q m : ℕ) (rest : List Parcel) → c.channel q p ≡ App m ∷ rest → Taken c t (with_rest c.channel q p rest) c.held (changes.with_rest (view t c).channel q p (seen_parcels t.label t.body c.so_far.is_rollback rest)) (view t c).held p q m
    taken_from_channel p q m rest e =
        let x = front_message t.label c.so_far.from c.so_far.is_rollback c.instances q p m rest (subst (λ (y : List Parcel). NamesMessages t.label c.so_far.from c.so_far.is_rollback c.instances q p y) e (d.flows.channel_names q p)) in
        let f = message_facts (once_closed c) (with_rest c.channel q p rest) (once_closed c).held p q m (from_channel (once_closed c) p q m rest e g) g in record {
          same_channel = parcels_with_rest t.label t.body c.so_far.is_rollback c.channel q p rest;
          same_held = refl;
          channel_names = names_of_rest first c t known d p q (App m) rest e;
          held_own = d.flows.held_own;
          has = x.0;
          from_is = x.1;
          to_is = f.4;
          new = f.1;
          later = stands_before p q m there;
        }
      where
        there : 0 < times m (messages ((once_closed c).held q p)) + times m (messages (c.channel q p))
        there = let a = ap (λ (y : List Parcel). times m (messages y)) e in let b = times_apps m (App m ∷ rest) in let w = weigh_cons (one_app m) (App m) rest in grind (arith, nat_tests, a, b, w)

    taken_from_held : (p q m : ℕ) (rest : List Parcel) → (once_closed c).held q p ≡ c.held q p → c.held q p ≡ App m ∷ rest → Taken c t c.channel (with_rest c.held q p rest) (view t c).channel (changes.with_rest (view t c).held q p (seen_parcels t.label t.body c.so_far.is_rollback rest)) p q m
    taken_from_held p q m rest h e =
        let x = own_front t.label c.so_far.from q m rest (subst (λ (y : List Parcel). AreMessagesOf t.label c.so_far.from q y) e (d.flows.held_own q p)) in
        let f = message_facts (once_closed c) c.channel (with_rest (once_closed c).held q p rest) p q m (from_held (once_closed c) p q m rest (h ∙ e) g) g in record {
          same_channel = refl;
          same_held = parcels_with_rest t.label t.body c.so_far.is_rollback c.held q p rest;
          channel_names = d.flows.channel_names;
          held_own = own_with_rest t.label c.so_far.from c.held q p rest d.flows.held_own x.2;
          has = x.0;
          from_is = x.1;
          to_is = f.4;
          new = f.1;
          later = stands_before p q m there;
        }
      where
        there : 0 < times m (messages ((once_closed c).held q p)) + times m (messages (c.channel q p))
        there = let a = ap (λ (y : List Parcel). times m (messages y)) (h ∙ e) in let b = times_apps m (App m ∷ rest) in let w = weigh_cons (one_app m) (App m) rest in grind (arith, nat_tests, a, b, w)

    sees_arrival : (channel hc : Lists) (channel' held' : SeenLists) (p q m : ℕ) → is_ready c p ≡ false → Taken c t channel hc channel' held' p q m → Sees first (after_arrival c channel hc p q m) (seen_arrival (view t c) channel' held' p q (t.label m) m (t.body m))
    sees_arrival channel hc channel' held' p q m y k = at_both first (c.up p) (c.up p) refl (λ _. sees_receiving first c t known d channel hc channel' held' p q m k y g lists) (λ _. sees_dropping first c t known d channel hc channel' held' p q m k)

    sees_front : (p q : ℕ) (able : Bool) (x : List Parcel) → c.channel q p ≡ x → Sees first (late_front c p q able x) (seen_front (view t c) p q able (seen_parcels t.label t.body c.so_far.is_rollback x))
    unfolding seen_parcels
    sees_front p q able [] e = sees_same first c t known d
    sees_front p q able (App m ∷ rest) e = at_both first (is_ready c p) (is_seen_ready (view t c) p) (ready_is p)
        (λ _. sees_holding first c t known d p q m rest e)
        (λ y. sees_arrival (with_rest c.channel q p rest) c.held _ _ p q m y (taken_from_channel p q m rest e))
    sees_front p q able (Ask k i ∷ rest) e = sees_ask first c t known d p q k i rest e g lists able
    sees_front p q able (Reply k w ∷ rest) e =
        let f = reply_facts (once_closed c) q p k w rest e g in
        let pos = (g.positions.joined_instance k p f.1).0 in
        let o = g.positions.member_open k p f.1 f.2 in
        let b = (g.asks.awaits_joined k p q f.0).2 in
        sees_as first (late_settling (after_reply c p q k w rest) p k) (seen_settling (seen_reply (view t c) p q w (seen_parcels t.label t.body c.so_far.is_rollback rest)) p k) _
        (sees_then first (after_reply c p q k w rest) (late_settling (after_reply c p q k w rest) p k) _ (λ v. seen_settling v p k)
        (sees_reply first c t known d p q k w rest pos o f.0 b e)
        (λ t' known' d'. sees_settling first (after_reply c p q k w rest) t' known' d' p k (invariant_of (after_reply c p q k w rest) (after_reply (once_closed c) p q k w rest) refl (invariant_reply (once_closed c) p q k w rest e g)) (record { received = lists.received; parted = lists.parted; kept_messages = lists.kept_messages; held_messages = lists.held_messages }) f.1 f.2))
        (ap (λ (z : Bool). if z then seen_without_front (view t c) p q (seen_parcels t.label t.body c.so_far.is_rollback rest) else seen_settling (seen_reply (view t c) p q w (seen_parcels t.label t.body c.so_far.is_rollback rest)) p k)
        (sym (ap (λ (r : SeenPart). r.awaited == 0) (part_in t c p k pos o) ∙ some_awaited c.processes q (c.awaits k p) b f.0)))
    sees_front p q able (Decide k w ∷ rest) e = at_both first (c.so_far.open_in p == k) (c.so_far.open_in p == k) refl
        (λ o. let f = decide_facts (once_closed c) q p k w rest e g in
        sees_then first (after_decision c p q rest) (late_closing (after_decision c p q rest) p k w) _ (λ v. seen_closing v p k w) (sees_without_front first c t known d p q (Decide k w) rest e)
        (λ t' known' d'. sees_closing first (after_decision c p q rest) t' known' d' p k (g.positions.decided_instance k f.0).0 (same (c.so_far.open_in p) k o) w f.1 (record { received = lists.received; parted = lists.parted; kept_messages = lists.kept_messages; held_messages = lists.held_messages })))
        (λ _. sees_without_front first c t known d p q (Decide k w) rest e)

    sees_held : (p q : ℕ) (able : Bool) (x : List Parcel) → (once_closed c).held q p ≡ c.held q p → c.held q p ≡ x → is_ready c p ≡ false → Sees first (late_take c p q able x) (seen_take (view t c) p q able (seen_parcels t.label t.body c.so_far.is_rollback x))
    unfolding seen_parcels
    sees_held p q able [] h e y = sees_front p q able (c.channel q p) refl
    sees_held p q able (App m ∷ rest) h e y = sees_arrival c.channel (with_rest c.held q p rest) _ _ p q m y (taken_from_held p q m rest h e)
    sees_held p q able (Ask k i ∷ rest) h e y = sees_same first c t known d
    sees_held p q able (Reply k w ∷ rest) h e y = sees_same first c t known d
    sees_held p q able (Decide k w ∷ rest) h e y = sees_same first c t known d

    pub sees_step : (x : ProtocolStep) → Sees first (late_step c x) (transition (view t c) x)
    sees_step (Send p q body) = at_both first ((nat_lt p c.processes && nat_lt q c.processes) && (c.so_far.open_in p == 0 && not (q == p))) ((nat_lt p c.processes && nat_lt q c.processes) && (c.so_far.open_in p == 0 && not (q == p))) refl
        (λ b. at_both first (c.up p) (c.up p) refl
        (λ _. sees_sending first c t known d p q body (send_ok p q c.processes (c.so_far.open_in p) b))
        (λ _. sees_refusal first c t known d p verb.Send Down))
        (λ _. sees_same first c t known d)
      where
        send_ok : (p q n o : ℕ) → ((nat_lt p n && nat_lt q n) && (o == 0 && not (q == p))) ≡ true → o ≡ 0
        send_ok p q n o e = grind (arith, nat_tests, e)
    sees_step (Begin p roll able) = at_both first (c.so_far.open_in p == 0) (c.so_far.open_in p == 0) refl (λ o. sees_begin_command p (same (c.so_far.open_in p) 0 o) roll able) (λ _. sees_refusal first c t known d p (verb_for roll) (Busy (c.so_far.open_in p)))
    sees_step (Fail p) = at_both first (c.up p) (c.up p) refl (λ _. sees_failing first c t known d p) (λ _. sees_refusal first c t known d p verb.Fail Down)
    sees_step (Take p q able) = at_both first (is_ready c p) (is_seen_ready (view t c) p) (ready_is p)
        (λ _. sees_front p q able (c.channel q p) refl)
        (λ y. sees_held p q able (c.held q p) (ap (λ (r : Bool). held_once_closed r (is_within_label c (c.so_far.open_in p) p q) (c.kept q p) (c.held q p)) (no_restore c p y)) refl y)
