-- A process joins an instance.
use Rattle.std.proofs.Common.{◌≡◌, ◌≢◌, ℕ, ◌+◌, ◌≤◌, ◌<◌, Bool, true, false, not, List, [], ◌∷◌, ◌++◌, length, refl, arith, sym, ap, ap₂, subst, ◌∙◌, inl, inr, Option, Some, None}
use Rattle.std.specs.Prelude.{◌==◌, ◌&&◌, nat_lt, nat_le, if◌then◌else◌}
use Rattle.std.proofs.lemmas.Bool.{cases_eq}
use Rattle.std.proofs.lemmas.Bool.Decides.{nat_tests}
use Rattle.kt_spacetime.specs.declared.event.Event.TheVariants.{Took, Ready}
use Rattle.kt_meaning.specs.Past.{at_one, at_pair}
use Rattle.kt_tables.specs.Calls.{Call, parts, Speaks, on_tentative, sents, receiveds}
use Rattle.kt_tables.proofs.LabelLists.{has_least, has_greatest}
use Rattle.kt_tables.proofs.CallParts.{sent_rises, received_rises}
use Rattle.kt_tables.proofs.Following.{speaks_tentative}
use Rattle.kt_protocol.proofs.Invariant.{Invariant, one}
use Rattle.kt_protocol.proofs.Updates.{is_same, is_other, at_one_here, at_one_other}
use Rattle.kt_protocol.proofs.Weights.{weigh, one_app}
use Rattle.kt_protocol.specs.Joining.{after_joining_checkpoint, after_joining_rollback, kind_for}
use Rattle.kt_protocol.specs.Parcels.{Parcel, Lists, messages_where}
use Rattle.kt_protocol.specs.States.{State}
use Rattle.kt_protocol.proofs.Choices.{both, same}
use Rattle.kt_protocol.proofs.MessageLists.{where_same}
use Rattle.kt_protocol.proofs.SameStates.{closed_no_save, closed_no_restore}
use Rattle.kt_protocol.specs.KeptInOrder.{is_in_checkpoint}
use Rattle.kt_protocol.specs.LateClosing.{is_newer}
use Rattle.kt_protocol.specs.OnceClosed.{has_to_restore, kept_once_closed, once_closed}
use Rattle.kt_machine.specs.Labelling.{Labelling, labelling_after, labelled_log}
use Rattle.kt_machine.specs.Seen.{SeenPart, no_part, SeenLists, seen_parcels, label_noted, marks_of, part_of, process_seen, view}
use Rattle.kt_machine.specs.ListChanges as changes
use Rattle.kt_machine.specs.CallTests as tests
use Rattle.kt_machine.specs.SeenJoining.{new_part, seen_joining_rollback, no_note, seen_joining_checkpoint}
use Rattle.kt_machine.proofs.LabelNumbers.{Of, row_more, some_label}
use Rattle.kt_machine.proofs.Parcels.{NamesMessages, parcels_length, where_all, parcels_with_checkpoint_asks, parcels_with_rollback_asks}
use Rattle.kt_machine.proofs.Tables.{Table, table_tentative, heard, heard_same}
use Rattle.kt_machine.proofs.SameSeen.{same_seen, states_at, state_more, same_part, table_as, read, known_row, length_push, count_same}
use Rattle.kt_machine.proofs.Named.{Noting, Heard, Tells, Sees}
use Rattle.kt_machine.proofs.Channels.{row_all, names_with_checkpoint_asks, names_with_rollback_asks}
use Rattle.kt_machine.proofs.SmallSteps.{part_in, pair_col}

module _ (first : ℕ) (c : State) (t : Labelling) (known : read c.so_far t ≡ labelled_log first c.log) (d : Tells t c) where
  -- whom p asks, and with which label, as its tables say
  pub checkpoint_asked_is : (p v : ℕ) → tests.is_asked_in_checkpoint (t.calls p) v ≡ nat_lt 0 (c.last_received p v)
  unfolding tests.is_asked_in_checkpoint
  checkpoint_asked_is p v = sym (has_greatest (receiveds v (parts (t.calls p)).since) 0 (received_rises (t.calls p) (d.speaks p) v)) ∙ (ap (λ (n : ℕ). not (n == 0)) ((d.tables p).last_is v) ∙ (plain (t.label (c.last_received p v)) ∙ some_label t.label t.used c.so_far.from c.so_far.rows d.numbers v (c.last_received p v) (d.named.last_of p v)))
    where
      plain : (n : ℕ) → not (n == 0) ≡ nat_lt 0 n
      plain n = grind (arith, nat_tests)

  pub checkpoint_label_is : (p v : ℕ) → tests.checkpoint_label (t.calls p) v ≡ t.label (c.last_received p v)
  unfolding tests.checkpoint_label
  checkpoint_label_is p v = (d.tables p).last_is v

  pub rollback_asked_is : (p v : ℕ) → tests.is_asked_in_rollback (t.calls p) v ≡ nat_lt 0 (c.first_sent p v)
  unfolding tests.is_asked_in_rollback
  rollback_asked_is p v = sym (has_least (sents v (parts (t.calls p)).since) 0 (sent_rises (t.calls p) (d.speaks p) v)) ∙ (ap (λ (n : ℕ). not (n == 0)) ((d.tables p).first_is v) ∙ (plain (t.label (c.first_sent p v)) ∙ some_label t.label t.used c.so_far.from c.so_far.rows d.numbers p (c.first_sent p v) (d.named.first_of p v)))
    where
      plain : (n : ℕ) → not (n == 0) ≡ nat_lt 0 n
      plain n = grind (arith, nat_tests)

  pub rollback_label_is : (p v : ℕ) → tests.rollback_label (t.calls p) v ≡ t.label (c.last_sent p v)
  unfolding tests.rollback_label
  rollback_label_is p v = (d.tables p).last_sent_is v

  module _ (channel : Lists) (channel' : SeenLists) (p k : ℕ) (is_first : Bool) (par lnk : ℕ) (parent : Option ℕ) (o : c.so_far.open_in p ≡ 0) (pos : 0 < k) (low : k ≤ c.instances)
      (same_channel : (λ u v. seen_parcels t.label t.body c.so_far.is_rollback (channel u v)) ≡ channel') (fine : (u v : ℕ) → NamesMessages t.label c.so_far.from c.so_far.is_rollback c.instances u v (channel u v))
      (same_parent : (if p == c.initiator k then None else Some par) ≡ parent) (near_parent : (to : ℕ) → parent ≡ Some to → to < c.processes) where
    parents_near : (i u to : ℕ) → at_pair k p true c.so_far.joined i u ≡ true → (if u == c.initiator i then None else Some (at_pair k p par c.parent i u)) ≡ Some to → to < c.processes
    parents_near i u to = go (i == k && u == p) refl
      where
        go : (b : Bool) → (i == k && u == p) ≡ b → (if b then true else c.so_far.joined i u) ≡ true → (if u == c.initiator i then None else Some (if b then par else c.parent i u)) ≡ Some to → to < c.processes
        go true e j x = let w = both (i == k) (u == p) e in near_parent to (sym same_parent ∙ (ap₂ (λ (a b : ℕ). if a == c.initiator b then None else Some par) (sym (same u p w.1)) (sym (same i k w.0)) ∙ x))
        go false e j x = d.parent_near i u to j x

    all_near : (f : ℕ → Bool) → ((v : ℕ) → f v ≡ true → v < c.processes) → (i u v : ℕ) → (if i == k && u == p then f v else c.asked i u v) ≡ true → v < c.processes
    all_near f h i u v = go (i == k && u == p)
      where
        go : (b : Bool) → (if b then f v else c.asked i u v) ≡ true → v < c.processes
        go true e = h v e
        go false e = d.asked_near i u v e

    -- at another process
    open_other : (u : ℕ) → u ≢ p → at_one p k c.so_far.open_in u ≡ c.so_far.open_in u
    open_other u n = at_one_other p u k c.so_far.open_in n

    open_here : at_one p k c.so_far.open_in p ≡ k
    open_here = at_one_here p k c.so_far.open_in

    lows : (u : ℕ) → at_one p k c.so_far.open_in u ≤ c.instances
    lows u = elim (cases_eq u p) [
      | inl e ↦ subst (λ (x : ℕ). x ≤ c.instances) (sym (ap (at_one p k c.so_far.open_in) e ∙ open_here)) low
      | inr n ↦ subst (λ (x : ℕ). x ≤ c.instances) (sym (open_other u n)) (d.open_low u)
    ]

    joined_lows : (i u : ℕ) → at_pair k p true c.so_far.joined i u ≡ true → i ≤ c.instances
    joined_lows i u = go (i == k) (u == p) refl
      where
        go : (a b : Bool) → (i == k) ≡ a → (if a && b then true else c.so_far.joined i u) ≡ true → i ≤ c.instances
        go true true e j = subst (λ (x : ℕ). x ≤ c.instances) (sym (same i k e)) low
        go true false e j = d.joined_low i u j
        go false b e j = d.joined_low i u j

    joined_more : (i u : ℕ) → c.so_far.joined i u ≡ true → at_pair k p true c.so_far.joined i u ≡ true
    joined_more i u j = go (i == k && u == p)
      where
        go : (b : Bool) → (if b then true else c.so_far.joined i u) ≡ true
        go true = refl
        go false = j

    joined_here : at_pair k p true c.so_far.joined k p ≡ true
    joined_here = rw (is_same k, is_same p) refl

    restoring_was : (u : ℕ) → has_to_restore (record c.so_far { open_in = at_one p k c.so_far.open_in }) u ≡ false → has_to_restore c.so_far u ≡ false
    restoring_was u r = elim (cases_eq u p) [
      | inl e ↦ ap (has_to_restore c.so_far) e ∙ closed_no_restore c.so_far p o
      | inr n ↦ sym (ap (λ (x : ℕ). (not (x == 0) && (c.so_far.is_decided x && c.so_far.is_committed x)) && c.so_far.is_rollback x) (open_other u n)) ∙ r
    ]

    flat : (a b : Bool) (x y : Bool) → (if a && false then x else y) ≡ y
    flat true b x y = refl
    flat false b x y = refl

    parent_here : (if p == c.initiator k then None else Some (at_pair k p par c.parent k p)) ≡ parent
    parent_here = ap (λ (x : ℕ). if p == c.initiator k then None else Some x) (rw (is_same k, is_same p) refl) ∙ same_parent

    willing_here : at_pair k p true c.all_willing k p ≡ true
    willing_here = rw (is_same k, is_same p) refl

    one_asked : (f : ℕ → Bool) (g : ℕ → ℕ → ℕ → Bool) (v : ℕ) → (if k == k && p == p then f v else g k p v) ≡ f v
    one_asked f g v = rw (is_same k, is_same p) refl

    -- a rollback
    module _ (r : c.so_far.is_rollback k ≡ true) (near : (v : ℕ) → nat_lt 0 (c.first_sent p v) ≡ true → v < c.processes) (N : ℕ → ℕ → ℕ → Bool) (L : ℕ → ℕ → ℕ → ℕ) (noted' : ℕ → Option ℕ)
        (N_other : (i u y : ℕ) → u ≢ p → N i u y ≡ c.noted i u y) (L_other : (i u y : ℕ) → u ≢ p → L i u y ≡ c.noted_label i u y)
        (here : (y : ℕ) → label_noted t.label (N k p y) (L k p y) ≡ noted' y) (noting : Noting t.label c.so_far.from c.so_far.is_rollback (at_pair k p true c.so_far.joined) N L) where
      abbrev rolled : State
      rolled = after_joining_rollback (record c { noted = N; noted_label = L }) channel p k is_first par lnk

      rollback_part : part_of t (after_joining_rollback (record c { noted = N; noted_label = L }) channel p k is_first par lnk) p k ≡ new_part c.processes true parent (tests.is_asked_in_rollback (t.calls p)) noted' (λ q. 0)
      rollback_part = same_part r parent_here (λ v. one_asked (λ v. nat_lt 0 (c.first_sent p v)) c.asked v ∙ sym (rollback_asked_is p v))
          (count_same c.processes (λ v. if k == k && p == p then nat_lt 0 (c.first_sent p v) else c.awaits k p v) (tests.is_asked_in_rollback (t.calls p)) (λ v. one_asked (λ v. nat_lt 0 (c.first_sent p v)) c.awaits v ∙ sym (rollback_asked_is p v)))
          willing_here (λ y. ap (λ (b : Bool). label_noted t.label (b && N k p y) (L k p y)) r ∙ here y) (λ v. ap (λ (b : Bool). if b then 0 else marks_of c p v) r)

      roll_other : (u : ℕ) → u ≢ p → part_of t (after_joining_rollback (record c { noted = N; noted_label = L }) channel p k is_first par lnk) u (c.so_far.open_in u) ≡ part_of t c u (c.so_far.open_in u)
      roll_other u n = same_part refl (ap (λ (x : ℕ). if u == c.initiator (c.so_far.open_in u) then None else Some x) (pair_col k p par c.parent (c.so_far.open_in u) u n))
          (λ v. rw (is_other u p n) (flat (c.so_far.open_in u == k) true (nat_lt 0 (c.first_sent p v)) (c.asked (c.so_far.open_in u) u v)))
          (count_same c.processes (λ v. if c.so_far.open_in u == k && u == p then nat_lt 0 (c.first_sent p v) else c.awaits (c.so_far.open_in u) u v) (c.awaits (c.so_far.open_in u) u) (λ v. rw (is_other u p n) (flat (c.so_far.open_in u == k) true (nat_lt 0 (c.first_sent p v)) (c.awaits (c.so_far.open_in u) u v))))
          (pair_col k p true c.all_willing (c.so_far.open_in u) u n)
          (λ y. ap₂ (λ (b : Bool) (x : ℕ). label_noted t.label (c.so_far.is_rollback (c.so_far.open_in u) && b) x) (N_other (c.so_far.open_in u) u y n) (L_other (c.so_far.open_in u) u y n))
          (λ v. refl)

      rollback_states : (λ u. process_seen t (after_joining_rollback (record c { noted = N; noted_label = L }) channel p k is_first par lnk) u) ≡ at_one p (record (process_seen t c p) { inst = k; part = new_part c.processes true parent (tests.is_asked_in_rollback (t.calls p)) noted' (λ q. 0) }) (λ u. process_seen t c u)
      rollback_states = states_at p (record (process_seen t c p) { inst = k; part = new_part c.processes true parent (tests.is_asked_in_rollback (t.calls p)) noted' (λ q. 0) }) (λ u. process_seen t (after_joining_rollback (record c { noted = N; noted_label = L }) channel p k is_first par lnk) u) (λ u. process_seen t c u)
          (state_more refl refl open_here (part_in t (after_joining_rollback (record c { noted = N; noted_label = L }) channel p k is_first par lnk) p k pos open_here ∙ rollback_part) refl)
          (λ u n. state_more refl refl (open_other u n) (ap (λ (x : ℕ). if x == 0 then no_part else part_of t (after_joining_rollback (record c { noted = N; noted_label = L }) channel p k is_first par lnk) u x) (open_other u n) ∙ ap (λ (y : SeenPart). if c.so_far.open_in u == 0 then no_part else y) (roll_other u n)) refl)

      roll_save : (u : ℕ) → (not (at_one p k c.so_far.open_in u == 0) && not (c.so_far.is_rollback (at_one p k c.so_far.open_in u))) ≡ is_in_checkpoint c.so_far u
      roll_save u = elim (cases_eq u p) [
        | inl e ↦ ap (λ (x : ℕ). not (x == 0) && not (c.so_far.is_rollback x)) (ap (at_one p k c.so_far.open_in) e ∙ open_here) ∙ (never ∙ sym (ap (is_in_checkpoint c.so_far) e ∙ shut))
        | inr n ↦ ap (λ (x : ℕ). not (x == 0) && not (c.so_far.is_rollback x)) (open_other u n)
      ]
        where
          never : (not (k == 0) && not (c.so_far.is_rollback k)) ≡ false
          never = rw r (all (not (k == 0)))
            where
              all : (b : Bool) → (b && false) ≡ false
              all true = refl
              all false = refl

          shut : is_in_checkpoint c.so_far p ≡ false
          shut = rw o refl

      pub sees_joining_rollback : Sees first (after_joining_rollback (record c { noted = N; noted_label = L }) channel p k is_first par lnk) (seen_joining_rollback (view t c) channel' p k parent noted')
      sees_joining_rollback = record {
        labels = t;
        known = known_row first c.log c.so_far t (Ready p k) known;
        same = same_seen c.processes c.instances (c.log ++ Ready p k ∷ []) rollback_states
            (parcels_with_rollback_asks t.label t.body c.so_far.is_rollback channel c.first_sent c.last_sent p k (tests.is_asked_in_rollback (t.calls p)) (tests.rollback_label (t.calls p)) (λ v. rollback_asked_is p v) (λ v. rollback_label_is p v)
            ∙ ap₂ (λ (w : SeenLists) (b : Bool). changes.with_asks_where w p k (kind_for b) (tests.is_asked_in_rollback (t.calls p)) (tests.rollback_label (t.calls p))) same_channel r)
            refl refl;
        tells = record {
          numbers = row_more t.label t.used c.so_far.from c.so_far.rows d.numbers;
          rows = ap (λ (n : ℕ). n + 1) d.rows ∙ sym (length_push c.log (Ready p k));
          named = d.named;
          flows = record { channel_names = names_with_rollback_asks t.label c.so_far.from c.so_far.is_rollback c.instances channel c.first_sent c.last_sent p k pos low r (λ v. d.named.last_sent_of p v) fine; held_own = d.flows.held_own; kept_own = d.flows.kept_own };
          noting = noting;
          open_low = lows;
          joined_low = joined_lows;
          asked_near = all_near (λ v. nat_lt 0 (c.first_sent p v)) near;
          parent_near = parents_near;
          tables = λ u. subst (λ (b : Bool). Table (t.calls u) (parts (t.calls u)) b (λ q. t.label (c.first_sent u q)) (λ q. t.label (c.last_received u q)) (λ q. t.label (c.first_sent_aside u q)) (λ q. t.label (c.last_received_aside u q)) (λ q. t.label (c.latest_sent u q)) (λ q. t.label (c.last_sent u q))) (sym (roll_save u)) (d.tables u);
          speaks = d.speaks;
          hears = λ u v e. d.hears u v (restoring_was u e);
        };
      }

    -- a checkpoint: all that is kept was received before
    module _ (r : c.so_far.is_rollback k ≡ false) (near : (v : ℕ) → nat_lt 0 (c.last_received p v) ≡ true → v < c.processes) (older : (v : ℕ) → messages_where (λ m. not (nat_le (c.so_far.size p) (c.so_far.received_at m))) (c.kept v p) ≡ c.kept v p) where
      old_marks : (v : ℕ) → marks_of (after_joining_checkpoint c channel p k is_first par lnk) p v ≡ length (seen_parcels t.label t.body c.so_far.is_rollback (c.kept v p))
      old_marks v = ap (λ (x : ℕ). length (messages_where (λ m. not (nat_le x (c.so_far.received_at m))) (c.kept v p))) (at_one_here p (c.so_far.size p) c.saved_at) ∙ (ap length (older v) ∙ sym (parcels_length t.label t.body c.so_far.is_rollback (c.kept v p)))

      checkpoint_part : part_of (labelling_after c.so_far t (Took p k)) (after_joining_checkpoint c channel p k is_first par lnk) p k ≡ new_part c.processes false parent (tests.is_asked_in_checkpoint (t.calls p)) no_note (λ v. length (seen_parcels t.label t.body c.so_far.is_rollback (c.kept v p)))
      checkpoint_part = same_part r parent_here (λ v. one_asked (λ v. nat_lt 0 (c.last_received p v)) c.asked v ∙ sym (checkpoint_asked_is p v))
          (count_same c.processes (λ v. if k == k && p == p then nat_lt 0 (c.last_received p v) else c.awaits k p v) (tests.is_asked_in_checkpoint (t.calls p)) (λ v. one_asked (λ v. nat_lt 0 (c.last_received p v)) c.awaits v ∙ sym (checkpoint_asked_is p v)))
          willing_here (λ y. ap (λ (b : Bool). label_noted t.label (b && c.noted k p y) (c.noted_label k p y)) r) (λ v. ap (λ (b : Bool). if b then 0 else marks_of (after_joining_checkpoint c channel p k is_first par lnk) p v) r ∙ old_marks v)

      save_other : (u : ℕ) → u ≢ p → part_of (labelling_after c.so_far t (Took p k)) (after_joining_checkpoint c channel p k is_first par lnk) u (c.so_far.open_in u) ≡ part_of t c u (c.so_far.open_in u)
      save_other u n = same_part refl (ap (λ (x : ℕ). if u == c.initiator (c.so_far.open_in u) then None else Some x) (pair_col k p par c.parent (c.so_far.open_in u) u n))
          (λ v. rw (is_other u p n) (flat (c.so_far.open_in u == k) true (nat_lt 0 (c.last_received p v)) (c.asked (c.so_far.open_in u) u v)))
          (count_same c.processes (λ v. if c.so_far.open_in u == k && u == p then nat_lt 0 (c.last_received p v) else c.awaits (c.so_far.open_in u) u v) (c.awaits (c.so_far.open_in u) u) (λ v. rw (is_other u p n) (flat (c.so_far.open_in u == k) true (nat_lt 0 (c.last_received p v)) (c.awaits (c.so_far.open_in u) u v))))
          (pair_col k p true c.all_willing (c.so_far.open_in u) u n)
          (λ y. refl)
          (λ v. ap (λ (x : ℕ). if c.so_far.is_rollback (c.so_far.open_in u) then 0 else length (messages_where (λ m. not (nat_le x (c.so_far.received_at m))) (c.kept v u))) (at_one_other p u (c.so_far.size p) c.saved_at n))

      checkpoint_states : (λ u. process_seen (labelling_after c.so_far t (Took p k)) (after_joining_checkpoint c channel p k is_first par lnk) u) ≡ at_one p (record (process_seen t c p) { calls = t.calls p ++ on_tentative ∷ []; inst = k; part = new_part c.processes false parent (tests.is_asked_in_checkpoint (t.calls p)) no_note (λ v. length (seen_parcels t.label t.body c.so_far.is_rollback (c.kept v p))) }) (λ u. process_seen t c u)
      checkpoint_states = states_at p (record (process_seen t c p) { calls = t.calls p ++ on_tentative ∷ []; inst = k; part = new_part c.processes false parent (tests.is_asked_in_checkpoint (t.calls p)) no_note (λ v. length (seen_parcels t.label t.body c.so_far.is_rollback (c.kept v p))) }) (λ u. process_seen (labelling_after c.so_far t (Took p k)) (after_joining_checkpoint c channel p k is_first par lnk) u) (λ u. process_seen t c u)
          (state_more (at_one_here p _ t.calls) refl open_here (part_in (labelling_after c.so_far t (Took p k)) (after_joining_checkpoint c channel p k is_first par lnk) p k pos open_here ∙ checkpoint_part) refl)
          (λ u n. state_more (at_one_other p u _ t.calls n) refl (open_other u n) (ap (λ (x : ℕ). if x == 0 then no_part else part_of (labelling_after c.so_far t (Took p k)) (after_joining_checkpoint c channel p k is_first par lnk) u x) (open_other u n) ∙ ap (λ (y : SeenPart). if c.so_far.open_in u == 0 then no_part else y) (save_other u n)) refl)

      abbrev calls' : ℕ → List Call
      calls' = at_one p (t.calls p ++ on_tentative ∷ []) t.calls

      by_place : (P : ℕ → List Call → Type 0) → P p (t.calls p ++ on_tentative ∷ []) → ((u : ℕ) → u ≢ p → P u (t.calls u)) → (u : ℕ) → P u (calls' u)
      by_place P here others u = elim (cases_eq u p) [
        | inl e ↦ subst (λ (x : ℕ). P x (calls' x)) (sym e) (subst (λ (l : List Call). P p l) (sym (at_one_here p _ t.calls)) here)
        | inr e ↦ subst (λ (l : List Call). P u l) (sym (at_one_other p u _ t.calls e)) (others u e)
      ]

      save_here : (not (at_one p k c.so_far.open_in p == 0) && not (c.so_far.is_rollback (at_one p k c.so_far.open_in p))) ≡ true
      save_here = ap (λ (x : ℕ). not (x == 0) && not (c.so_far.is_rollback x)) open_here ∙ (ap (λ (b : Bool). not (k == 0) && not b) r ∙ some k pos)
        where
          some : (k : ℕ) → 0 < k → (not (k == 0) && true) ≡ true
          some k pos = grind (arith, nat_tests, pos)

      zero_label : 0 ≡ t.label 0
      zero_label = sym d.numbers.zero_is

      at_row_here : (x y : ℕ) → (if p == p then x else y) ≡ x
      at_row_here x y = ap (λ (b : Bool). if b then x else y) (is_same p)

      at_row_other : (u x y : ℕ) → u ≢ p → (if u == p then x else y) ≡ y
      at_row_other u x y n = ap (λ (b : Bool). if b then x else y) (is_other u p n)

      tables_took : (u : ℕ) → Table (calls' u) (parts (calls' u)) (not (at_one p k c.so_far.open_in u == 0) && not (c.so_far.is_rollback (at_one p k c.so_far.open_in u))) (λ v. t.label (if u == p then 0 else c.first_sent u v)) (λ v. t.label (if u == p then 0 else c.last_received u v)) (λ v. t.label (if u == p then c.first_sent p v else c.first_sent_aside u v)) (λ v. t.label (if u == p then c.last_received p v else c.last_received_aside u v)) (λ v. t.label (c.latest_sent u v)) (λ v. t.label (c.last_sent u v))
      tables_took = by_place (λ u l. Table l (parts l) (not (at_one p k c.so_far.open_in u == 0) && not (c.so_far.is_rollback (at_one p k c.so_far.open_in u))) (λ v. t.label (if u == p then 0 else c.first_sent u v)) (λ v. t.label (if u == p then 0 else c.last_received u v)) (λ v. t.label (if u == p then c.first_sent p v else c.first_sent_aside u v)) (λ v. t.label (if u == p then c.last_received p v else c.last_received_aside u v)) (λ v. t.label (c.latest_sent u v)) (λ v. t.label (c.last_sent u v)))
          (subst (λ (b : Bool). Table (t.calls p ++ on_tentative ∷ []) (parts (t.calls p ++ on_tentative ∷ [])) b (λ v. t.label (if p == p then 0 else c.first_sent p v)) (λ v. t.label (if p == p then 0 else c.last_received p v)) (λ v. t.label (if p == p then c.first_sent p v else c.first_sent_aside p v)) (λ v. t.label (if p == p then c.last_received p v else c.last_received_aside p v)) (λ v. t.label (c.latest_sent p v)) (λ v. t.label (c.last_sent p v))) (sym save_here)
          (table_as (t.calls p ++ on_tentative ∷ []) (parts (t.calls p ++ on_tentative ∷ [])) true
          (λ v. zero_label ∙ ap t.label (sym (at_row_here 0 (c.first_sent p v)))) (λ v. zero_label ∙ ap t.label (sym (at_row_here 0 (c.last_received p v))))
          (λ v. ap t.label (sym (at_row_here (c.first_sent p v) (c.first_sent_aside p v)))) (λ v. ap t.label (sym (at_row_here (c.last_received p v) (c.last_received_aside p v)))) (λ v. refl) (λ v. refl)
          (table_tentative (t.calls p) (is_in_checkpoint c.so_far p) (λ v. t.label (c.first_sent p v)) (λ v. t.label (c.last_received p v)) (λ v. t.label (c.first_sent_aside p v)) (λ v. t.label (c.last_received_aside p v)) (λ v. t.label (c.latest_sent p v)) (λ v. t.label (c.last_sent p v)) (d.tables p))))
          (λ u n. subst (λ (b : Bool). Table (t.calls u) (parts (t.calls u)) b (λ v. t.label (if u == p then 0 else c.first_sent u v)) (λ v. t.label (if u == p then 0 else c.last_received u v)) (λ v. t.label (if u == p then c.first_sent p v else c.first_sent_aside u v)) (λ v. t.label (if u == p then c.last_received p v else c.last_received_aside u v)) (λ v. t.label (c.latest_sent u v)) (λ v. t.label (c.last_sent u v))) (sym (ap (λ (x : ℕ). not (x == 0) && not (c.so_far.is_rollback x)) (open_other u n)))
          (table_as (t.calls u) (parts (t.calls u)) (is_in_checkpoint c.so_far u)
          (λ v. ap t.label (sym (at_row_other u 0 (c.first_sent u v) n))) (λ v. ap t.label (sym (at_row_other u 0 (c.last_received u v) n)))
          (λ v. ap t.label (sym (at_row_other u (c.first_sent p v) (c.first_sent_aside u v) n))) (λ v. ap t.label (sym (at_row_other u (c.last_received p v) (c.last_received_aside u v) n))) (λ v. refl) (λ v. refl) (d.tables u)))

      hears_took : (u v : ℕ) → has_to_restore c.so_far u ≡ false → Heard t.label c.so_far.is_received c.so_far.from c.so_far.to u v (heard (calls' u) v)
      hears_took u v e = by_place (λ u l. has_to_restore c.so_far u ≡ false → Heard t.label c.so_far.is_received c.so_far.from c.so_far.to u v (heard l v))
          (λ e. subst (λ (l : ℕ). Heard t.label c.so_far.is_received c.so_far.from c.so_far.to p v l) (sym (heard_same (t.calls p) on_tentative (λ y. refl) refl v)) (d.hears p v e))
          (λ u n e. d.hears u v e) u e

      pub sees_joining_checkpoint : Sees first (after_joining_checkpoint c channel p k is_first par lnk) (seen_joining_checkpoint (view t c) channel' p k parent)
      sees_joining_checkpoint = record {
        labels = labelling_after c.so_far t (Took p k);
        known = known_row first c.log c.so_far t (Took p k) known;
        same = same_seen c.processes c.instances (c.log ++ Took p k ∷ []) checkpoint_states
            (parcels_with_checkpoint_asks t.label t.body c.so_far.is_rollback channel c.last_received p k (tests.is_asked_in_checkpoint (t.calls p)) (tests.checkpoint_label (t.calls p)) (λ v. checkpoint_asked_is p v) (λ v. checkpoint_label_is p v)
            ∙ ap₂ (λ (w : SeenLists) (b : Bool). changes.with_asks_where w p k (kind_for b) (tests.is_asked_in_checkpoint (t.calls p)) (tests.checkpoint_label (t.calls p))) same_channel r)
            refl refl;
        tells = record {
          numbers = row_more t.label t.used c.so_far.from c.so_far.rows d.numbers;
          rows = ap (λ (n : ℕ). n + 1) d.rows ∙ sym (length_push c.log (Took p k));
          named = record {
            first_of = λ u v. row_all (λ u m. Of t.label c.so_far.from u m) p (λ u. 0) (λ u. c.first_sent u v) (inl refl) (λ u n. d.named.first_of u v) u;
            last_of = λ u v. row_all (λ u m. Of t.label c.so_far.from v m) p (λ u. 0) (λ u. c.last_received u v) (inl refl) (λ u n. d.named.last_of u v) u;
            kept_first_of = λ u v. row_all (λ u m. Of t.label c.so_far.from u m) p (λ u. c.first_sent p v) (λ u. c.first_sent_aside u v) (d.named.first_of p v) (λ u n. d.named.kept_first_of u v) u;
            kept_last_of = λ u v. row_all (λ u m. Of t.label c.so_far.from v m) p (λ u. c.last_received p v) (λ u. c.last_received_aside u v) (d.named.last_of p v) (λ u n. d.named.kept_last_of u v) u;
            latest_of = d.named.latest_of;
            last_sent_of = d.named.last_sent_of;
          };
          flows = record { channel_names = names_with_checkpoint_asks t.label c.so_far.from c.so_far.is_rollback c.instances channel c.last_received p k pos low r (λ v. d.named.last_of p v) fine; held_own = d.flows.held_own; kept_own = d.flows.kept_own };
          noting = record { noted_of = d.noting.noted_of; noted_in = λ i u y a. joined_more i u (d.noting.noted_in i u y a) };
          open_low = lows;
          joined_low = joined_lows;
          asked_near = all_near (λ v. nat_lt 0 (c.last_received p v)) near;
          parent_near = parents_near;
          tables = tables_took;
          speaks = by_place (λ u l. Speaks l) (speaks_tentative (t.calls p) (d.speaks p)) (λ u n. d.speaks u);
          hears = λ u v e. hears_took u v (restoring_was u e);
        };
      }

-- who is in no instance keeps messages that it received before now
pub all_older : (c : State) (t : Labelling) (p v : ℕ) → c.so_far.open_in p ≡ 0 → Invariant (once_closed c) → Tells t c → messages_where (λ m. not (nat_le (c.so_far.size p) (c.so_far.received_at m))) (c.kept v p) ≡ c.kept v p
all_older c t p v o g d = where_same (λ m. not (nat_le (c.so_far.size p) (c.so_far.received_at m))) (λ m. true) (c.kept v p) within_label ∙ where_all t.label c.so_far.from v (λ m. true) (c.kept v p) (λ m. refl) (d.flows.kept_own v p)
  where
    facts : (n : ℕ) (b : Bool) (f a t u : ℕ) (l : Bool) → n ≡ one (b && f == a && t == u && l) → 0 < n → (b ≡ true) × (t ≡ u)
    facts n b f a t u l e w = grind (arith, nat_tests, e, w)

    kept_same : (once_closed c).kept v p ≡ c.kept v p
    kept_same = ap₂ (λ (x y : Bool). kept_once_closed x y (is_newer c p) (c.kept v p)) (closed_no_save c.so_far p o) (closed_no_restore c.so_far p o)

    plain : (x y : ℕ) → y < x → not (nat_le x y) ≡ true
    plain x y b = grind (arith, nat_tests, b)

    within_label : (m : ℕ) → 0 < weigh (one_app m) (c.kept v p) → not (nat_le (c.so_far.size p) (c.so_far.received_at m)) ≡ true
    within_label m w =
        let w' : 0 < weigh (one_app m) ((once_closed c).kept v p) = subst (λ (l : List Parcel). 0 < weigh (one_app m) l) (sym kept_same) w in
        let f = facts (weigh (one_app m) ((once_closed c).kept v p)) (c.so_far.is_received m) (c.so_far.from m) v (c.so_far.to m) p (nat_le (c.so_far.permanent p) (c.so_far.received_at m)) (g.messages.kept_is m p v) w' in
        let b : c.so_far.received_at m < c.so_far.size p = subst (λ (x : ℕ). c.so_far.received_at m < c.so_far.size x) f.1 (g.messages.received_low m f.0).1 in plain (c.so_far.size p) (c.so_far.received_at m) b

-- whom a process in no instance would ask is a process
positive : (n : ℕ) → nat_lt 0 n ≡ true → 0 < n
positive n e = grind (arith, nat_tests, e)

pub near_last : (c : State) (p v : ℕ) → c.so_far.open_in p ≡ 0 → Invariant (once_closed c) → nat_lt 0 (c.last_received p v) ≡ true → v < c.processes
near_last c p v o g e =
    let l : (once_closed c).last_received p v ≡ c.last_received p v = ap (λ (b : Bool). if b then 0 else c.last_received p v) (closed_no_restore c.so_far p o) in
    let x = g.tables.last_received_is p v (subst (λ (y : ℕ). 0 < y) (sym l) (positive (c.last_received p v) e)) in
    let y = (g.messages.sent_low ((once_closed c).last_received p v) (g.messages.received_low ((once_closed c).last_received p v) x.0).0).3 in
    subst (λ (z : ℕ). z < c.processes) x.1 y

pub near_first : (c : State) (p v : ℕ) → c.so_far.open_in p ≡ 0 → Invariant (once_closed c) → nat_lt 0 (c.first_sent p v) ≡ true → v < c.processes
near_first c p v o g e =
    let l : (once_closed c).first_sent p v ≡ c.first_sent p v = ap (λ (b : Bool). if b then 0 else c.first_sent p v) (closed_no_restore c.so_far p o) in
    let x = g.tables.first_sent_is p v (subst (λ (y : ℕ). 0 < y) (sym l) (positive (c.first_sent p v) e)) in
    let y = (g.messages.sent_low ((once_closed c).first_sent p v) x.0).4 in
    subst (λ (z : ℕ). z < c.processes) x.2 y
