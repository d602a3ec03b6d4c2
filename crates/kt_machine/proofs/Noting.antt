-- A new instance, and noting an ask's label.
use Rattle.std.proofs.Common.{◌≡◌, ◌≢◌, ℕ, ◌+◌, ◌≤◌, ◌<◌, Bool, true, false, not, [], ◌∷◌, ◌++◌, refl, arith, sym, ap, subst, ◌∙◌, Some, None}
use Rattle.std.specs.Prelude.{◌==◌, ◌&&◌, if◌then◌else◌}
use Rattle.std.proofs.lemmas.Bool.Decides.{nat_tests}
use Rattle.kt_spacetime.specs.declared.event.Event.TheVariants.{Began}
use Rattle.kt_meaning.specs.Past.{at_one}
use Rattle.kt_tables.specs.Calls.{parts}
use Rattle.kt_protocol.proofs.Updates.{is_same, is_other, at_one_other}
use Rattle.kt_protocol.specs.Joining.{after_began, kind_for}
use Rattle.kt_protocol.specs.Replies.{after_noting}
use Rattle.kt_protocol.specs.States.{State}
use Rattle.kt_protocol.specs.Summary.{summary_began}
use Rattle.kt_protocol.proofs.Choices.{same}
use Rattle.kt_protocol.specs.KeptInOrder.{is_in_checkpoint}
use Rattle.kt_protocol.specs.OnceClosed.{has_to_restore}
use Rattle.kt_machine.specs.Labelling.{Labelling, labelled_log}
use Rattle.kt_machine.specs.Seen.{SeenPart, no_part, SeenLists, seen_parcels, label_noted, marks_of, part_of, process_seen, view}
use Rattle.kt_machine.specs.SeenJoining.{seen_began, seen_noting, part_after_ask}
use Rattle.kt_machine.proofs.LabelNumbers.{Of, row_more}
use Rattle.kt_machine.proofs.Parcels.{parcels_later, names_later, own_parcels}
use Rattle.kt_machine.proofs.Tables.{Table}
use Rattle.kt_machine.proofs.SameSeen.{same_seen, states_at, same_process_state, same_part, read, known_row, length_push}
use Rattle.kt_machine.proofs.Named.{Tells, Sees}
use Rattle.kt_machine.proofs.SmallSteps.{part_in}

known_began : (first : ℕ) (c : State) (t : Labelling) (p k : ℕ) (roll : Bool) → read c.so_far t ≡ labelled_log first c.log → read (summary_began c.so_far k roll) t ≡ labelled_log first (c.log ++ Began p k (kind_for roll) ∷ [])
known_began first c t p k true e = known_row first c.log c.so_far t (Began p k (kind_for true)) e
known_began first c t p k false e = known_row first c.log c.so_far t (Began p k (kind_for false)) e

module _ (first : ℕ) (c : State) (t : Labelling) (known : read c.so_far t ≡ labelled_log first c.log) (d : Tells t c) where
  module _ (p : ℕ) (roll : Bool) where
    abbrev roll' : ℕ → Bool
    roll' = at_one (c.instances + 1) roll c.so_far.is_rollback

    kinds : (k : ℕ) → k ≤ c.instances → at_one (c.instances + 1) roll c.so_far.is_rollback k ≡ c.so_far.is_rollback k
    kinds k l = at_one_other (c.instances + 1) k roll c.so_far.is_rollback (λ e. absurd (omega (arith, e, l)))

    starter : (k : ℕ) → k ≤ c.instances → at_one (c.instances + 1) p c.initiator k ≡ c.initiator k
    starter k l = at_one_other (c.instances + 1) k p c.initiator (λ e. absurd (omega (arith, e, l)))

    old : (m : ℕ) → 0 < t.label m → (t.label m ≡ t.label m) × (c.so_far.from m ≡ c.so_far.from m) × (t.body m ≡ t.body m)
    old m a = (refl, refl, refl)

    save_same : (u : ℕ) → is_in_checkpoint (summary_began c.so_far (c.instances + 1) roll) u ≡ is_in_checkpoint c.so_far u
    save_same u = ap (λ (b : Bool). not (c.so_far.open_in u == 0) && not b) (kinds (c.so_far.open_in u) (d.open_low u))

    restoring_same : (u : ℕ) → has_to_restore (summary_began c.so_far (c.instances + 1) roll) u ≡ has_to_restore c.so_far u
    restoring_same u = ap (λ (b : Bool). (not (c.so_far.open_in u == 0) && (c.so_far.is_decided (c.so_far.open_in u) && c.so_far.is_committed (c.so_far.open_in u))) && b) (kinds (c.so_far.open_in u) (d.open_low u))

    part_same : (u k : ℕ) → k ≤ c.instances → part_of t (after_began c p roll) u k ≡ part_of t c u k
    part_same u k l = same_part (kinds k l) (ap (λ (i : ℕ). if u == i then None else Some (c.parent k u)) (starter k l)) (λ v. refl) refl refl
        (λ v. ap (λ (b : Bool). label_noted t.label (b && c.noted k u v) (c.noted_label k u v)) (kinds k l))
        (λ v. ap (λ (b : Bool). if b then 0 else marks_of c u v) (kinds k l))

    pub channel_began : ◌≡◌ {A = SeenLists} (λ u v. seen_parcels t.label t.body (at_one (c.instances + 1) roll c.so_far.is_rollback) (c.channel u v)) (λ u v. seen_parcels t.label t.body c.so_far.is_rollback (c.channel u v))
    channel_began = λ i u v. parcels_later t.label t.label c.so_far.from c.so_far.from t.body t.body c.so_far.is_rollback roll' c.instances c.instances old refl kinds (omega arith) u v (c.channel u v) (d.flows.channel_names u v) i

    state_same : (u : ℕ) → process_seen t (after_began c p roll) u ≡ process_seen t c u
    state_same u = same_process_state (c.so_far.open_in u) (c.up u) refl refl (ap (λ (r : SeenPart). if c.so_far.open_in u == 0 then no_part else r) (part_same u (c.so_far.open_in u) (d.open_low u)))

    pub sees_began : Sees first (after_began c p roll) (seen_began (view t c) p roll)
    sees_began = record {
      labels = t;
      known = known_began first c t p (c.instances + 1) roll known;
      same = same_seen c.processes (c.instances + 1) (c.log ++ Began p (c.instances + 1) (kind_for roll) ∷ [])
          (λ i u. state_same u i)
          (λ i u v. parcels_later t.label t.label c.so_far.from c.so_far.from t.body t.body c.so_far.is_rollback roll' c.instances c.instances old refl kinds (omega arith) u v (c.channel u v) (d.flows.channel_names u v) i)
          (λ i u v. own_parcels t.label t.label c.so_far.from c.so_far.from t.body t.body c.so_far.is_rollback roll' c.instances c.instances old refl kinds (omega arith) u (c.held u v) (d.flows.held_own u v) i)
          (λ i u v. own_parcels t.label t.label c.so_far.from c.so_far.from t.body t.body c.so_far.is_rollback roll' c.instances c.instances old refl kinds (omega arith) u (c.kept u v) (d.flows.kept_own u v) i);
      tells = record {
        numbers = row_more t.label t.used c.so_far.from c.so_far.rows d.numbers;
        rows = ap (λ (n : ℕ). n + 1) d.rows ∙ sym (length_push c.log (Began p (c.instances + 1) (kind_for roll)));
        named = d.named;
        flows = record {
          channel_names = λ u v. names_later t.label t.label c.so_far.from c.so_far.from t.body t.body c.so_far.is_rollback roll' c.instances (c.instances + 1) old refl kinds (omega arith) u v (c.channel u v) (d.flows.channel_names u v);
          held_own = d.flows.held_own;
          kept_own = d.flows.kept_own;
        };
        noting = record { noted_of = λ k u y a r. d.noting.noted_of k u y a (sym (kinds k (d.joined_low k u (d.noting.noted_in k u y a))) ∙ r); noted_in = d.noting.noted_in };
        open_low = λ u. let x = d.open_low u in omega (arith, x);
        joined_low = λ k u j. let x = d.joined_low k u j in omega (arith, x);
        asked_near = d.asked_near;
        parent_near = λ k u to j x. d.parent_near k u to j (ap (λ (i : ℕ). if u == i then None else Some (c.parent k u)) (sym (starter k (d.joined_low k u j))) ∙ x);
        tables = λ u. subst (λ (b : Bool). Table (t.calls u) (parts (t.calls u)) b (λ q. t.label (c.first_sent u q)) (λ q. t.label (c.last_received u q)) (λ q. t.label (c.first_sent_aside u q)) (λ q. t.label (c.last_received_aside u q)) (λ q. t.label (c.latest_sent u q)) (λ q. t.label (c.last_sent u q))) (sym (save_same u)) (d.tables u);
        speaks = d.speaks;
        hears = λ u v r. d.hears u v (sym (restoring_same u) ∙ r);
      };
    }

    pub began_labels : sees_began.labels ≡ t
    unfolding sees_began
    began_labels = refl

  -- p is in k
  pub sees_noting : (p q k l : ℕ) → 0 < k → c.so_far.open_in p ≡ k → c.so_far.joined k p ≡ true → (c.so_far.is_rollback k ≡ true → Of t.label c.so_far.from q l) → Sees first (after_noting c p q k l) (seen_noting (view t c) p q (t.label l))
  sees_noting p q k l pos o j f = record {
    labels = t;
    known = known;
    same = same_seen c.processes c.instances c.log
        (states_at p (record (process_seen t c p) { part = part_after_ask (process_seen t c p).part q (t.label l) }) (λ u. process_seen t (after_noting c p q k l) u) (λ u. process_seen t c u)
        (same_process_state (c.so_far.open_in p) (c.up p) refl refl (part_in t (after_noting c p q k l) p k pos o ∙ (here ∙ ap (λ (r : SeenPart). part_after_ask r q (t.label l)) (sym (part_in t c p k pos o)))))
        (λ u n. same_process_state (c.so_far.open_in u) (c.up u) refl refl (ap (λ (r : SeenPart). if c.so_far.open_in u == 0 then no_part else r) (there u n))))
        refl refl refl;
    tells = record {
      numbers = d.numbers;
      rows = d.rows;
      named = d.named;
      flows = d.flows;
      noting = record { noted_of = noted_of; noted_in = noted_in };
      open_low = d.open_low;
      joined_low = d.joined_low;
      asked_near = d.asked_near;
      parent_near = d.parent_near;
      tables = d.tables;
      speaks = d.speaks;
      hears = d.hears;
    };
  }
    where
      at_test : (r b n : Bool) (y : ℕ) → label_noted t.label (r && (if b then true else n)) (if b then l else c.noted_label k p y) ≡ (if r && b then Some (t.label l) else label_noted t.label (r && n) (c.noted_label k p y))
      at_test true true n y = refl
      at_test true false n y = refl
      at_test false true n y = refl
      at_test false false n y = refl

      here : part_of t (after_noting c p q k l) p k ≡ part_after_ask (part_of t c p k) q (t.label l)
      here = same_part refl refl (λ v. refl) refl refl (λ y. rw (is_same k, is_same p) (at_test (c.so_far.is_rollback k) (y == q) (c.noted k p y) y)) (λ v. refl)

      flat : (a b r n : Bool) (x y : ℕ) → label_noted t.label (r && (if a && false && b then true else n)) (if a && false && b then x else y) ≡ label_noted t.label (r && n) y
      flat true b r n x y = refl
      flat false b r n x y = refl

      there : (u : ℕ) → u ≢ p → part_of t (after_noting c p q k l) u (c.so_far.open_in u) ≡ part_of t c u (c.so_far.open_in u)
      there u n = same_part refl refl (λ v. refl) refl refl (λ y. rw (is_other u p n) (flat (c.so_far.open_in u == k) (y == q) (c.so_far.is_rollback (c.so_far.open_in u)) (c.noted (c.so_far.open_in u) u y) l (c.noted_label (c.so_far.open_in u) u y))) (λ v. refl)

      three : (a b e : Bool) → (a && b && e) ≡ true → (a ≡ true) × (b ≡ true) × (e ≡ true)
      three a b e z = grind (arith, nat_tests, z)

      noted_of : (i u y : ℕ) → (if i == k && u == p && y == q then true else c.noted i u y) ≡ true → c.so_far.is_rollback i ≡ true → Of t.label c.so_far.from y (if i == k && u == p && y == q then l else c.noted_label i u y)
      noted_of i u y = go (i == k && u == p && y == q) refl
        where
          go : (b : Bool) → (i == k && u == p && y == q) ≡ b → (if b then true else c.noted i u y) ≡ true → c.so_far.is_rollback i ≡ true → Of t.label c.so_far.from y (if b then l else c.noted_label i u y)
          go true e a r = let w = three (i == k) (u == p) (y == q) e in subst (λ (x : ℕ). Of t.label c.so_far.from x l) (sym (same y q w.2)) (f (subst (λ (x : ℕ). c.so_far.is_rollback x ≡ true) (same i k w.0) r))
          go false e a r = d.noting.noted_of i u y a r

      noted_in : (i u y : ℕ) → (if i == k && u == p && y == q then true else c.noted i u y) ≡ true → c.so_far.joined i u ≡ true
      noted_in i u y = go (i == k && u == p && y == q) refl
        where
          go : (b : Bool) → (i == k && u == p && y == q) ≡ b → (if b then true else c.noted i u y) ≡ true → c.so_far.joined i u ≡ true
          go true e a = let w = three (i == k) (u == p) (y == q) e in subst (λ (x : ℕ). c.so_far.joined x u ≡ true) (sym (same i k w.0)) (subst (λ (x : ℕ). c.so_far.joined k x ≡ true) (sym (same u p w.1)) j)
          go false e a = d.noting.noted_in i u y a

  -- and the labels stay
  pub noting_labels : (p q k l : ℕ) (pos : 0 < k) (o : c.so_far.open_in p ≡ k) (j : c.so_far.joined k p ≡ true) (f : c.so_far.is_rollback k ≡ true → Of t.label c.so_far.from q l) → (sees_noting p q k l pos o j f).labels ≡ t
  unfolding sees_noting
  noting_labels p q k l pos o j f = refl
