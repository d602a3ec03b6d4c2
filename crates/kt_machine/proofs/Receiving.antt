-- A message is received or dropped.
use Rattle.std.proofs.Common.{◌≡◌, ◌≢◌, ℕ, ◌+◌, ◌<◌, Bool, true, false, not, List, [], ◌∷◌, ◌++◌, length, refl, arith, sym, ap, subst, ◌∙◌, inl, inr}
use Rattle.std.specs.Prelude.{◌==◌, ◌&&◌, nat_lt, nat_le, if◌then◌else◌}
use Rattle.std.proofs.lemmas.Bool.{cases_eq}
use Rattle.std.proofs.lemmas.Bool.Decides.{nat_tests}
use Rattle.kt_spacetime.specs.declared.event.Event.TheVariants.{Received, Dropped}
use Rattle.kt_meaning.specs.Past.{at_one, at_pair}
use Rattle.kt_tables.specs.Calls.{Call, parts, Speaks, received as call_received}
use Rattle.kt_tables.proofs.Following.{speaks_received}
use Rattle.kt_protocol.proofs.Invariant.{Invariant}
use Rattle.kt_protocol.proofs.Updates.{is_same, is_other, at_one_here, at_one_other, at_pair_here}
use Rattle.kt_protocol.proofs.Weights.{weigh, one_app}
use Rattle.kt_protocol.specs.Messages.{after_receiving, after_dropping}
use Rattle.kt_protocol.specs.Parcels.{App, Lists, messages_where, with_parcel}
use Rattle.kt_protocol.specs.States.{State, is_ready}
use Rattle.kt_protocol.proofs.Choices.{same, both}
use Rattle.kt_protocol.proofs.KeptLists.{KeptLists}
use Rattle.kt_protocol.proofs.KeptSteps.{kept_received}
use Rattle.kt_protocol.proofs.MessageLists.{where_same, where_push_not}
use Rattle.kt_protocol.proofs.LateMessages.{no_restore}
use Rattle.kt_protocol.specs.KeptInOrder.{is_in_checkpoint}
use Rattle.kt_protocol.specs.LateClosing.{is_newer}
use Rattle.kt_protocol.specs.OnceClosed.{has_to_restore, once_closed}
use Rattle.kt_machine.specs.Labelling.{Labelling, labelling_after, labelled_log}
use Rattle.kt_machine.specs.Seen.{no_part, SeenLists, seen_parcels, marks_of, part_of, process_seen, view}
use Rattle.kt_machine.specs.SeenMessages.{seen_dropping, seen_receiving}
use Rattle.kt_machine.proofs.LabelNumbers.{Of, of_one, same_lt, row_more}
use Rattle.kt_machine.proofs.Parcels.{NamesMessages, AreMessagesOf, own_message, parcels_with_parcel}
use Rattle.kt_machine.proofs.Tables.{Table, table_received, heard, heard_received, heard_other}
use Rattle.kt_machine.proofs.SameSeen.{same_seen, states_at, same_process_state, same_part, table_as, read, known_row, length_push}
use Rattle.kt_machine.proofs.Named.{Heard, Tells, Sees}
use Rattle.kt_machine.proofs.Channels.{pair_row, pair_side, pair_all, own_with_parcel}

-- what is taken, and the lists without it
pub record Taken (c : State) (t : Labelling) (channel hc : Lists) (channel' held' : SeenLists) (p q m : ℕ) : Type 0 where
  pub same_channel : (λ u v. seen_parcels t.label t.body c.so_far.is_rollback (channel u v)) ≡ channel'
  pub same_held : (λ u v. seen_parcels t.label t.body c.so_far.is_rollback (hc u v)) ≡ held'
  pub channel_names : (u v : ℕ) → NamesMessages t.label c.so_far.from c.so_far.is_rollback c.instances u v (channel u v)
  pub held_own : (u v : ℕ) → AreMessagesOf t.label c.so_far.from u (hc u v)
  pub has : 0 < t.label m
  pub from_is : c.so_far.from m ≡ q
  pub to_is : c.so_far.to m ≡ p
  pub new : c.so_far.is_received m ≡ false
  pub later : (n : ℕ) → c.so_far.is_received n ≡ true → c.so_far.from n ≡ q → c.so_far.to n ≡ p → n < m

module _ (first : ℕ) (c : State) (t : Labelling) (known : read c.so_far t ≡ labelled_log first c.log) (d : Tells t c) (channel hc : Lists) (channel' held' : SeenLists) (p q m : ℕ) (k : Taken c t channel hc channel' held' p q m) where
  pub sees_dropping : Sees first (after_dropping c channel hc p q m) (seen_dropping (view t c) channel' held' p q m)
  sees_dropping = record {
    labels = t;
    known = known_row first c.log c.so_far t (Dropped p q m) known;
    same = same_seen c.processes c.instances (c.log ++ Dropped p q m ∷ []) refl k.same_channel k.same_held refl;
    tells = record {
      numbers = row_more t.label t.used c.so_far.from c.so_far.rows d.numbers;
      rows = ap (λ (x : ℕ). x + 1) d.rows ∙ sym (length_push c.log (Dropped p q m));
      named = d.named;
      flows = record { channel_names = k.channel_names; held_own = k.held_own; kept_own = d.flows.kept_own };
      noting = record { noted_of = d.noting.noted_of; noted_in = d.noting.noted_in };
      open_low = d.open_low;
      joined_low = d.joined_low;
      asked_near = d.asked_near;
      parent_near = d.parent_near;
      tables = d.tables;
      speaks = d.speaks;
      hears = d.hears;
    };
  }

  module _ (y : is_ready c p ≡ false) (g : Invariant (once_closed c)) (lists : KeptLists c) where
    not_it : (i : ℕ) → c.so_far.is_received i ≡ true → i ≢ m
    not_it i a e = let z : c.so_far.is_received m ≡ true = subst (λ (x : ℕ). c.so_far.is_received x ≡ true) e a in let w = k.new in absurd (cc (z, w))

    -- what is counted as older stays
    marks_same : (u a : ℕ) → is_in_checkpoint c.so_far u ≡ true → marks_of (after_receiving c channel hc p q m) u a ≡ marks_of c u a
    unfolding with_parcel
    marks_same u a s = ap length (go (a == q && u == p) refl)
      where
        older : ℕ → Bool
        older i = not (nat_le (c.saved_at u) (if i == m then c.so_far.size p else c.so_far.received_at i))

        agree : (i : ℕ) → 0 < weigh (one_app i) (c.kept a u) → not (nat_le (c.saved_at u) (if i == m then c.so_far.size p else c.so_far.received_at i)) ≡ not (is_newer c u i)
        agree i w = rw (is_other i m (not_it i (kept_received c u a i g lists s w))) refl

        new : u ≡ p → not (nat_le (c.saved_at u) (if m == m then c.so_far.size p else c.so_far.received_at m)) ≡ false
        new e = let z = (g.positions.saved_low p).1 in rw (e, is_same m) (grind (arith, nat_tests, z))

        still : messages_where (λ i. not (nat_le (c.saved_at u) (if i == m then c.so_far.size p else c.so_far.received_at i))) (c.kept a u) ≡ messages_where (λ i. not (is_newer c u i)) (c.kept a u)
        still = where_same (λ i. not (nat_le (c.saved_at u) (if i == m then c.so_far.size p else c.so_far.received_at i))) (λ i. not (is_newer c u i)) (c.kept a u) agree

        go : (b : Bool) → (a == q && u == p) ≡ b → messages_where (λ i. not (nat_le (c.saved_at u) (if i == m then c.so_far.size p else c.so_far.received_at i))) (if b then c.kept a u ++ App m ∷ [] else c.kept a u) ≡ messages_where (λ i. not (is_newer c u i)) (c.kept a u)
        go true e = where_push_not (λ i. not (nat_le (c.saved_at u) (if i == m then c.so_far.size p else c.so_far.received_at i))) (c.kept a u) m (new (same u p (both (a == q) (u == p) e).1)) ∙ still
        go false e = still

    part_same : (u : ℕ) → (if c.so_far.open_in u == 0 then no_part else part_of (labelling_after c.so_far t (Received p q m)) (after_receiving c channel hc p q m) u (c.so_far.open_in u)) ≡ (if c.so_far.open_in u == 0 then no_part else part_of t c u (c.so_far.open_in u))
    part_same u = go (c.so_far.open_in u == 0) refl
      where
        go : (b : Bool) → (c.so_far.open_in u == 0) ≡ b → (if b then no_part else part_of (labelling_after c.so_far t (Received p q m)) (after_receiving c channel hc p q m) u (c.so_far.open_in u)) ≡ (if b then no_part else part_of t c u (c.so_far.open_in u))
        go true o = refl
        go false o = same_part refl refl (λ v. refl) refl refl (λ v. refl) (λ v. at_roll v (c.so_far.is_rollback (c.so_far.open_in u)) refl)
          where
            at_roll : (v : ℕ) (b : Bool) → c.so_far.is_rollback (c.so_far.open_in u) ≡ b → (if b then 0 else marks_of (after_receiving c channel hc p q m) u v) ≡ (if b then 0 else marks_of c u v)
            at_roll v true r = refl
            at_roll v false r = marks_same u v (rw (o, r) refl)

    same_received : view (labelling_after c.so_far t (Received p q m)) (after_receiving c channel hc p q m) ≡ seen_receiving (view t c) channel' held' p q (t.label m) m (t.body m)
    same_received = same_seen c.processes c.instances (c.log ++ Received p q m ∷ [])
        (states_at p (record (process_seen t c p) { calls = t.calls p ++ call_received q (t.label m) ∷ [] }) (λ u. process_seen (labelling_after c.so_far t (Received p q m)) (after_receiving c channel hc p q m) u) (λ u. process_seen t c u)
        (same_process_state (c.so_far.open_in p) (c.up p) (at_one_here p _ t.calls) refl (part_same p))
        (λ u e. same_process_state (c.so_far.open_in u) (c.up u) (at_one_other p u _ t.calls e) refl (part_same u)))
        k.same_channel k.same_held (parcels_with_parcel t.label t.body c.so_far.is_rollback c.kept q p (App m))

    -- what was received since the last rollback stands before it
    heard_low : heard (t.calls p) q < t.label m
    heard_low = let x = d.hears p q (no_restore c p y) in elim x.2 [
      | inl e ↦ (let z : t.label x.0 ≡ 0 = ap t.label e ∙ d.numbers.zero_is in let w = k.has in let v = x.1 in omega (arith, z, w, v))
      | inr r ↦ (let z = d.numbers.ordered x.0 m r.3 k.has (r.1 ∙ sym k.from_is) (k.later x.0 r.0 r.1 r.2) in let v = x.1 in omega (arith, z, v))
    ]

    abbrev last' : ℕ → ℕ → ℕ
    last' = at_pair p q (if nat_lt (c.last_received p q) m then m else c.last_received p q) c.last_received

    abbrev calls' : ℕ → List Call
    calls' = at_one p (t.calls p ++ call_received q (t.label m) ∷ []) t.calls

    of_it : Of t.label c.so_far.from q m
    of_it = of_one t.label c.so_far.from q m k.has k.from_is

    by_place : (P : ℕ → List Call → Type 0) → P p (t.calls p ++ call_received q (t.label m) ∷ []) → ((u : ℕ) → u ≢ p → P u (t.calls u)) → (u : ℕ) → P u (calls' u)
    by_place P here others u = elim (cases_eq u p) [
      | inl e ↦ subst (λ (x : ℕ). P x (calls' x)) (sym e) (subst (λ (l : List Call). P p l) (sym (at_one_here p _ t.calls)) here)
      | inr e ↦ subst (λ (l : List Call). P u l) (sym (at_one_other p u _ t.calls e)) (others u e)
    ]

    lasts : (v : ℕ) → (if v == q then (if nat_lt (t.label (c.last_received p v)) (t.label m) then t.label m else t.label (c.last_received p v)) else t.label (c.last_received p v)) ≡ t.label (last' p v)
    lasts v = elim (cases_eq v q) [
      | inl e ↦ subst (λ (x : ℕ). (if x == q then (if nat_lt (t.label (c.last_received p x)) (t.label m) then t.label m else t.label (c.last_received p x)) else t.label (c.last_received p x)) ≡ t.label (last' p x)) (sym e)
          (ap (λ (b : Bool). if b then (if nat_lt (t.label (c.last_received p q)) (t.label m) then t.label m else t.label (c.last_received p q)) else t.label (c.last_received p q)) (is_same q)
          ∙ (choose (nat_lt (t.label (c.last_received p q)) (t.label m)) (nat_lt (c.last_received p q) m) (same_lt t.label t.used c.so_far.from c.so_far.rows d.numbers q (c.last_received p q) m (d.named.last_of p q) of_it) ∙ ap t.label (sym (at_pair_here p q _ c.last_received))))
      | inr e ↦ ap (λ (b : Bool). if b then (if nat_lt (t.label (c.last_received p v)) (t.label m) then t.label m else t.label (c.last_received p v)) else t.label (c.last_received p v)) (is_other v q e) ∙ ap t.label (sym (pair_side p q _ c.last_received v e))
    ]
      where
        choose : (a b : Bool) → a ≡ b → (if a then t.label m else t.label (c.last_received p q)) ≡ t.label (if b then m else c.last_received p q)
        choose true true e = refl
        choose false false e = refl
        choose true false e = absurd (cc (e))
        choose false true e = absurd (cc (e))

    tables_received : (u : ℕ) → Table (calls' u) (parts (calls' u)) (is_in_checkpoint c.so_far u) (λ v. t.label (c.first_sent u v)) (λ v. t.label (last' u v)) (λ v. t.label (c.first_sent_aside u v)) (λ v. t.label (c.last_received_aside u v)) (λ v. t.label (c.latest_sent u v)) (λ v. t.label (c.last_sent u v))
    tables_received = by_place (λ u l. Table l (parts l) (is_in_checkpoint c.so_far u) (λ v. t.label (c.first_sent u v)) (λ v. t.label (last' u v)) (λ v. t.label (c.first_sent_aside u v)) (λ v. t.label (c.last_received_aside u v)) (λ v. t.label (c.latest_sent u v)) (λ v. t.label (c.last_sent u v)))
        (table_as (t.calls p ++ call_received q (t.label m) ∷ []) (parts (t.calls p ++ call_received q (t.label m) ∷ [])) (is_in_checkpoint c.so_far p) (λ v. refl) lasts (λ v. refl) (λ v. refl) (λ v. refl) (λ v. refl)
        (table_received (t.calls p) q (t.label m) (is_in_checkpoint c.so_far p) (λ v. t.label (c.first_sent p v)) (λ v. t.label (c.last_received p v)) (λ v. t.label (c.first_sent_aside p v)) (λ v. t.label (c.last_received_aside p v)) (λ v. t.label (c.latest_sent p v)) (λ v. t.label (c.last_sent p v)) (d.tables p)))
        (λ u e. table_as (t.calls u) (parts (t.calls u)) (is_in_checkpoint c.so_far u) (λ v. refl) (λ v. ap t.label (sym (pair_row p q _ c.last_received u v e))) (λ v. refl) (λ v. refl) (λ v. refl) (λ v. refl) (d.tables u))

    received_more : (n : ℕ) → c.so_far.is_received n ≡ true → at_one m true c.so_far.is_received n ≡ true
    received_more n a = at_one_other m n true c.so_far.is_received (not_it n a) ∙ a

    heard_more : (u v l : ℕ) → Heard t.label c.so_far.is_received c.so_far.from c.so_far.to u v l → Heard t.label (at_one m true c.so_far.is_received) c.so_far.from c.so_far.to u v l
    heard_more u v l a = elim a.2 [
      | inl e ↦ (a.0, a.1, inl e)
      | inr r ↦ (a.0, a.1, inr (received_more a.0 r.0, r.1, r.2, r.3))
    ]

    hears_here : (v : ℕ) → has_to_restore c.so_far p ≡ false → Heard t.label (at_one m true c.so_far.is_received) c.so_far.from c.so_far.to p v (heard (t.calls p ++ call_received q (t.label m) ∷ []) v)
    hears_here v r = elim (cases_eq v q) [
      | inl e ↦ subst (λ (x : ℕ). Heard t.label (at_one m true c.so_far.is_received) c.so_far.from c.so_far.to p x (heard (t.calls p ++ call_received q (t.label m) ∷ []) x)) (sym e)
          (m, heard_received (t.calls p) q (t.label m) heard_low, inr (at_one_here m true c.so_far.is_received, k.from_is, k.to_is, k.has))
      | inr e ↦ subst (λ (l : ℕ). Heard t.label (at_one m true c.so_far.is_received) c.so_far.from c.so_far.to p v l) (sym (heard_other (t.calls p) q (t.label m) v e)) (heard_more p v (heard (t.calls p) v) (d.hears p v r))
    ]

    pub sees_receiving : Sees first (after_receiving c channel hc p q m) (seen_receiving (view t c) channel' held' p q (t.label m) m (t.body m))
    sees_receiving = record {
      labels = labelling_after c.so_far t (Received p q m);
      known = known_row first c.log c.so_far t (Received p q m) known;
      same = same_received;
      tells = record {
        numbers = row_more t.label t.used c.so_far.from c.so_far.rows d.numbers;
        rows = ap (λ (x : ℕ). x + 1) d.rows ∙ sym (length_push c.log (Received p q m));
        named = record {
          first_of = d.named.first_of;
          last_of = pair_all (λ u v i. Of t.label c.so_far.from v i) p q _ c.last_received (chosen (nat_lt (c.last_received p q) m)) d.named.last_of;
          kept_first_of = d.named.kept_first_of;
          kept_last_of = d.named.kept_last_of;
          latest_of = d.named.latest_of;
          last_sent_of = d.named.last_sent_of;
        };
        flows = record { channel_names = k.channel_names; held_own = k.held_own; kept_own = own_with_parcel t.label c.so_far.from c.kept q p (App m) d.flows.kept_own (own_message t.label c.so_far.from q m k.has k.from_is) };
        noting = record { noted_of = d.noting.noted_of; noted_in = d.noting.noted_in };
        open_low = d.open_low;
        joined_low = d.joined_low;
        asked_near = d.asked_near;
        parent_near = d.parent_near;
        tables = tables_received;
        speaks = by_place (λ u l. Speaks l) (speaks_received (t.calls p) q (t.label m) (d.speaks p) heard_low) (λ u e. d.speaks u);
        hears = λ u v r. by_place (λ u l. has_to_restore c.so_far u ≡ false → Heard t.label (at_one m true c.so_far.is_received) c.so_far.from c.so_far.to u v (heard l v)) (hears_here v) (λ u e r. heard_more u v (heard (t.calls u) v) (d.hears u v r)) u r;
      };
    }
      where
        chosen : (b : Bool) → Of t.label c.so_far.from q (if b then m else c.last_received p q)
        chosen true = of_it
        chosen false = d.named.last_of p q
