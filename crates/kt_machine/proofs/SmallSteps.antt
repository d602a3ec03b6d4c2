-- Steps that change one list, or a part.
use Rattle.std.proofs.Common.{◌≡◌, ◌≢◌, ℕ, ◌+◌, ◌<◌, Bool, true, false, List, [], ◌∷◌, ◌++◌, refl, arith, sym, ap, subst, ◌∙◌}
use Rattle.std.specs.Prelude.{◌==◌, ◌&&◌, ◌-◌, if◌then◌else◌}
use Rattle.std.proofs.lemmas.Bool.Decides.{nat_tests}
use Rattle.kt_base.specs.declared.words.Cause.{Cause}
use Rattle.kt_base.specs.declared.words.Verb.{Verb}
use Rattle.kt_fifo.specs.declared.parcels.Parcel.TheVariants as in_code
use Rattle.kt_spacetime.specs.declared.event.Event.TheVariants.{Unwilling, Failed, Refused}
use Rattle.kt_meaning.specs.Past.{at_pair}
use Rattle.kt_tables.specs.Peers.{count_peers}
use Rattle.kt_protocol.proofs.Updates.{is_same, is_other, at_one_here, at_one_other, at_pair_here}
use Rattle.kt_protocol.specs.Deciding.{after_decision}
use Rattle.kt_protocol.specs.Messages.{after_holding, after_failing, after_refusal}
use Rattle.kt_protocol.specs.Parcels.{Parcel, App, Reply, Lists, with_parcel, with_rest}
use Rattle.kt_protocol.specs.Replies.{after_replying, after_unwilling, after_reply, after_answering}
use Rattle.kt_protocol.specs.States.{State}
use Rattle.kt_machine.specs.Labelling.{Labelling, labelled_log}
use Rattle.kt_machine.specs.Seen.{SeenPart, no_part, SeenLists, seen_parcels, part_of, process_seen, view}
use Rattle.kt_machine.specs.ListChanges as changes
use Rattle.kt_machine.specs.SeenMessages.{seen_without_front, seen_refusal, seen_failing, seen_holding}
use Rattle.kt_machine.specs.SeenReplies.{seen_replying, seen_unwilling, seen_answering, seen_reply, part_after_reply}
use Rattle.kt_machine.proofs.LabelNumbers.{row_more}
use Rattle.kt_machine.proofs.Parcels.{NamesMessages, front_message, rest_names, names_reply, own_message, parcels_with_parcel, parcels_with_rest}
use Rattle.kt_machine.proofs.SameSeen.{same_seen, states_at, same_process_state, state_more, same_part, read, known_row, length_push, count_same, count_less}
use Rattle.kt_machine.proofs.Named.{Tells, Sees}
use Rattle.kt_machine.proofs.Channels.{names_with_parcel, names_with_rest, own_with_parcel}

-- the part of a process that is in an instance
pub part_in : (t : Labelling) (c : State) (p k : ℕ) → 0 < k → c.so_far.open_in p ≡ k → (process_seen t c p).part ≡ part_of t c p k
part_in t c p k pos o = rw (o, some k pos) refl
  where
    some : (k : ℕ) → 0 < k → (k == 0) ≡ false
    some k pos = grind (arith, nat_tests, pos)

pub pair_col : {X : Type 0} (k p : ℕ) (x : X) (f : ℕ → ℕ → X) (j u : ℕ) → u ≢ p → at_pair k p x f j u ≡ f j u
pair_col {X} k p x f j u n = go (j == k) (u == p) (is_other u p n)
  where
    go : (a b : Bool) → b ≡ false → (if a && b then x else f j u) ≡ f j u
    go true false e = refl
    go false false e = refl
    go a true e = absurd (cc (e))

module _ (first : ℕ) (c : State) (t : Labelling) (known : read c.so_far t ≡ labelled_log first c.log) (d : Tells t c) where
  pub sees_same : Sees first c (view t c)
  sees_same = record { labels = t; known = known; same = refl; tells = d }

  -- other channels
  pub with_channel : (channel : Lists) (channel' : SeenLists) → (λ u v. seen_parcels t.label t.body c.so_far.is_rollback (channel u v)) ≡ channel' → ((u v : ℕ) → NamesMessages t.label c.so_far.from c.so_far.is_rollback c.instances u v (channel u v)) →
      Sees first (record c { channel = channel }) (record (view t c) { channel = channel' })
  with_channel channel channel' e f = record {
    labels = t;
    known = known;
    same = same_seen c.processes c.instances c.log refl e refl refl;
    tells = record {
      numbers = d.numbers;
      rows = d.rows;
      named = d.named;
      flows = record { channel_names = f; held_own = d.flows.held_own; kept_own = d.flows.kept_own };
      noting = d.noting;
      open_low = d.open_low;
      joined_low = d.joined_low;
      asked_near = d.asked_near;
      parent_near = d.parent_near;
      tables = d.tables;
      speaks = d.speaks;
      hears = d.hears;
    };
  }

  pub names_of_rest : (p q : ℕ) (x : Parcel) (rest : List Parcel) → c.channel q p ≡ x ∷ rest → (u v : ℕ) → NamesMessages t.label c.so_far.from c.so_far.is_rollback c.instances u v (with_rest c.channel q p rest u v)
  names_of_rest p q x rest e = names_with_rest t.label c.so_far.from c.so_far.is_rollback c.instances c.channel q p rest d.flows.channel_names (rest_names t.label c.so_far.from c.so_far.is_rollback c.instances q p x rest (subst (λ (l : List Parcel). NamesMessages t.label c.so_far.from c.so_far.is_rollback c.instances q p l) e (d.flows.channel_names q p)))

  pub sees_without_front : (p q : ℕ) (x : Parcel) (rest : List Parcel) → c.channel q p ≡ x ∷ rest → Sees first (after_decision c p q rest) (seen_without_front (view t c) p q (seen_parcels t.label t.body c.so_far.is_rollback rest))
  sees_without_front p q x rest e = with_channel (with_rest c.channel q p rest) (changes.with_rest (view t c).channel q p (seen_parcels t.label t.body c.so_far.is_rollback rest)) (parcels_with_rest t.label t.body c.so_far.is_rollback c.channel q p rest) (names_of_rest p q x rest e)

  replied_same : (p q k : ℕ) (w : Bool) (rest : List Parcel) → (λ u v. seen_parcels t.label t.body c.so_far.is_rollback (with_parcel (with_rest c.channel q p rest) p q (Reply k w) u v)) ≡ changes.with_parcel (changes.with_rest (view t c).channel q p (seen_parcels t.label t.body c.so_far.is_rollback rest)) p q (in_code.Reply k w)
  replied_same p q k w rest = parcels_with_parcel t.label t.body c.so_far.is_rollback (with_rest c.channel q p rest) p q (Reply k w) ∙ ap (λ (l : SeenLists). changes.with_parcel l p q (in_code.Reply k w)) (parcels_with_rest t.label t.body c.so_far.is_rollback c.channel q p rest)

  replied_names : (p q k : ℕ) (w : Bool) (x : Parcel) (rest : List Parcel) → c.channel q p ≡ x ∷ rest → (u v : ℕ) → NamesMessages t.label c.so_far.from c.so_far.is_rollback c.instances u v (with_parcel (with_rest c.channel q p rest) p q (Reply k w) u v)
  replied_names p q k w x rest e = names_with_parcel t.label c.so_far.from c.so_far.is_rollback c.instances (with_rest c.channel q p rest) p q (Reply k w) (names_of_rest p q x rest e) (names_reply t.label c.so_far.from c.so_far.is_rollback c.instances p q k w)

  pub sees_replying : (p q k : ℕ) (w : Bool) (x : Parcel) (rest : List Parcel) → c.channel q p ≡ x ∷ rest → Sees first (after_replying c p q k w rest) (seen_replying (view t c) p q k w (seen_parcels t.label t.body c.so_far.is_rollback rest))
  sees_replying p q k w x rest e = record {
    labels = t;
    known = known;
    same = same_seen c.processes c.instances c.log refl (replied_same p q k w rest) refl refl;
    tells = record {
      numbers = d.numbers;
      rows = d.rows;
      named = d.named;
      flows = record { channel_names = replied_names p q k w x rest e; held_own = d.flows.held_own; kept_own = d.flows.kept_own };
      noting = d.noting;
      open_low = d.open_low;
      joined_low = d.joined_low;
      asked_near = d.asked_near;
      parent_near = d.parent_near;
      tables = d.tables;
      speaks = d.speaks;
      hears = d.hears;
    };
  }

  pub sees_unwilling : (p q k : ℕ) (cause : Cause) (x : Parcel) (rest : List Parcel) → c.channel q p ≡ x ∷ rest → Sees first (after_unwilling c p q k cause rest) (seen_unwilling (view t c) p q k cause (seen_parcels t.label t.body c.so_far.is_rollback rest))
  sees_unwilling p q k cause x rest e = record {
    labels = t;
    known = known_row first c.log c.so_far t (Unwilling p k cause) known;
    same = same_seen c.processes c.instances (c.log ++ Unwilling p k cause ∷ []) refl (replied_same p q k false rest) refl refl;
    tells = record {
      numbers = row_more t.label t.used c.so_far.from c.so_far.rows d.numbers;
      rows = ap (λ (n : ℕ). n + 1) d.rows ∙ sym (length_push c.log (Unwilling p k cause));
      named = d.named;
      flows = record { channel_names = replied_names p q k false x rest e; held_own = d.flows.held_own; kept_own = d.flows.kept_own };
      noting = d.noting;
      open_low = d.open_low;
      joined_low = d.joined_low;
      asked_near = d.asked_near;
      parent_near = d.parent_near;
      tables = d.tables;
      speaks = d.speaks;
      hears = d.hears;
    };
  }

  pub sees_refusal : (p : ℕ) (verb : Verb) (cause : Cause) → Sees first (after_refusal c p verb cause) (seen_refusal (view t c) p verb cause)
  sees_refusal p verb cause = record {
    labels = t;
    known = known_row first c.log c.so_far t (Refused p verb cause) known;
    same = refl;
    tells = record {
      numbers = row_more t.label t.used c.so_far.from c.so_far.rows d.numbers;
      rows = ap (λ (n : ℕ). n + 1) d.rows ∙ sym (length_push c.log (Refused p verb cause));
      named = d.named;
      flows = d.flows;
      noting = d.noting;
      open_low = d.open_low;
      joined_low = d.joined_low;
      asked_near = d.asked_near;
      parent_near = d.parent_near;
      tables = d.tables;
      speaks = d.speaks;
      hears = d.hears;
    };
  }

  pub sees_failing : (p : ℕ) → Sees first (after_failing c p) (seen_failing (view t c) p)
  sees_failing p = record {
    labels = t;
    known = known_row first c.log c.so_far t (Failed p) known;
    same = same_seen c.processes c.instances (c.log ++ Failed p ∷ [])
        (states_at p (record (process_seen t c p) { up = false }) (λ u. process_seen t (after_failing c p) u) (λ u. process_seen t c u)
        (state_more refl refl refl refl (at_one_here p false c.up))
        (λ u e. state_more refl refl refl refl (at_one_other p u false c.up e)))
        refl refl refl;
    tells = record {
      numbers = row_more t.label t.used c.so_far.from c.so_far.rows d.numbers;
      rows = ap (λ (n : ℕ). n + 1) d.rows ∙ sym (length_push c.log (Failed p));
      named = d.named;
      flows = d.flows;
      noting = d.noting;
      open_low = d.open_low;
      joined_low = d.joined_low;
      asked_near = d.asked_near;
      parent_near = d.parent_near;
      tables = d.tables;
      speaks = d.speaks;
      hears = d.hears;
    };
  }

  pub sees_holding : (p q m : ℕ) (rest : List Parcel) → c.channel q p ≡ App m ∷ rest → Sees first (after_holding c p q m rest) (seen_holding (view t c) p q (in_code.App (t.label m) m (t.body m)) (seen_parcels t.label t.body c.so_far.is_rollback rest))
  sees_holding p q m rest e = record {
    labels = t;
    known = known;
    same = same_seen c.processes c.instances c.log refl (parcels_with_rest t.label t.body c.so_far.is_rollback c.channel q p rest) (parcels_with_parcel t.label t.body c.so_far.is_rollback c.held q p (App m)) refl;
    tells = record {
      numbers = d.numbers;
      rows = d.rows;
      named = d.named;
      flows = (let x = front_message t.label c.so_far.from c.so_far.is_rollback c.instances q p m rest (subst (λ (l : List Parcel). NamesMessages t.label c.so_far.from c.so_far.is_rollback c.instances q p l) e (d.flows.channel_names q p)) in
          record { channel_names = names_of_rest p q (App m) rest e; held_own = own_with_parcel t.label c.so_far.from c.held q p (App m) d.flows.held_own (own_message t.label c.so_far.from q m x.0 x.1); kept_own = d.flows.kept_own });
      noting = d.noting;
      open_low = d.open_low;
      joined_low = d.joined_low;
      asked_near = d.asked_near;
      parent_near = d.parent_near;
      tables = d.tables;
      speaks = d.speaks;
      hears = d.hears;
    };
  }

  pub sees_answering : (p k : ℕ) → 0 < k → c.so_far.open_in p ≡ k → Sees first (after_answering c p k) (seen_answering (view t c) p k (c.parent k p))
  sees_answering p k pos o = record {
    labels = t;
    known = known;
    same = same_seen c.processes c.instances c.log refl (parcels_with_parcel t.label t.body c.so_far.is_rollback c.channel p (c.parent k p) (Reply k (c.all_willing k p)) ∙ ap (λ (r : SeenPart). changes.with_parcel (view t c).channel p (c.parent k p) (in_code.Reply k r.willing)) (sym (part_in t c p k pos o))) refl refl;
    tells = record {
      numbers = d.numbers;
      rows = d.rows;
      named = d.named;
      flows = record { channel_names = names_with_parcel t.label c.so_far.from c.so_far.is_rollback c.instances c.channel p (c.parent k p) (Reply k (c.all_willing k p)) d.flows.channel_names (names_reply t.label c.so_far.from c.so_far.is_rollback c.instances p (c.parent k p) k (c.all_willing k p)); held_own = d.flows.held_own; kept_own = d.flows.kept_own };
      noting = d.noting;
      open_low = d.open_low;
      joined_low = d.joined_low;
      asked_near = d.asked_near;
      parent_near = d.parent_near;
      tables = d.tables;
      speaks = d.speaks;
      hears = d.hears;
    };
  }

  -- p is in k, and a reply that it awaits comes
  pub sees_reply : (p q k : ℕ) (w : Bool) (rest : List Parcel) → 0 < k → c.so_far.open_in p ≡ k → c.awaits k p q ≡ true → q < c.processes → c.channel q p ≡ Reply k w ∷ rest → Sees first (after_reply c p q k w rest) (seen_reply (view t c) p q w (seen_parcels t.label t.body c.so_far.is_rollback rest))
  sees_reply p q k w rest pos o a l e = record {
    labels = t;
    known = known;
    same = same_seen c.processes c.instances c.log
        (states_at p (record (process_seen t c p) { part = part_after_reply (process_seen t c p).part w }) (λ u. process_seen t (after_reply c p q k w rest) u) (λ u. process_seen t c u)
        (same_process_state (c.so_far.open_in p) (c.up p) refl refl here)
        (λ u n. same_process_state (c.so_far.open_in u) (c.up u) refl refl (ap (λ (r : SeenPart). if c.so_far.open_in u == 0 then no_part else r) (there u n))))
        (parcels_with_rest t.label t.body c.so_far.is_rollback c.channel q p rest) refl refl;
    tells = record {
      numbers = d.numbers;
      rows = d.rows;
      named = d.named;
      flows = record { channel_names = names_of_rest p q (Reply k w) rest e; held_own = d.flows.held_own; kept_own = d.flows.kept_own };
      noting = d.noting;
      open_low = d.open_low;
      joined_low = d.joined_low;
      asked_near = d.asked_near;
      parent_near = d.parent_near;
      tables = d.tables;
      speaks = d.speaks;
      hears = d.hears;
    };
  }
    where
      fewer : count_peers c.processes (λ v. if k == k && p == p && v == q then false else c.awaits k p v) ≡ count_peers c.processes (c.awaits k p) - 1
      fewer = let x = count_same c.processes (λ v. if k == k && p == p && v == q then false else c.awaits k p v) (λ v. if v == q then false else c.awaits k p v) (λ v. rw (is_same k, is_same p) refl) in
          let y = count_less c.processes q (c.awaits k p) l a in omega (arith, x, y)

      now : part_of t (after_reply c p q k w rest) p k ≡ part_after_reply (part_of t c p k) w
      now = same_part refl refl (λ v. refl) fewer (at_pair_here k p (c.all_willing k p && w) c.all_willing) (λ v. refl) (λ v. refl)

      here : (process_seen t (after_reply c p q k w rest) p).part ≡ part_after_reply (process_seen t c p).part w
      here = part_in t (after_reply c p q k w rest) p k pos o ∙ (now ∙ ap (λ (r : SeenPart). part_after_reply r w) (sym (part_in t c p k pos o)))

      flat : (a b : Bool) (x : Bool) → (if a && false && b then false else x) ≡ x
      flat true b x = refl
      flat false b x = refl

      there : (u : ℕ) → u ≢ p → part_of t (after_reply c p q k w rest) u (c.so_far.open_in u) ≡ part_of t c u (c.so_far.open_in u)
      there u n = same_part refl refl (λ v. refl)
          (count_same c.processes (λ v. if c.so_far.open_in u == k && u == p && v == q then false else c.awaits (c.so_far.open_in u) u v) (c.awaits (c.so_far.open_in u) u) (λ v. rw (is_other u p n) (flat (c.so_far.open_in u == k) (v == q) (c.awaits (c.so_far.open_in u) u v))))
          (pair_col k p (c.all_willing k p && w) c.all_willing (c.so_far.open_in u) u n) (λ v. refl) (λ v. refl)
