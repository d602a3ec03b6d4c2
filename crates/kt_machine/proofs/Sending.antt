-- A message is sent.
use Rattle.std.proofs.Common.{◌≡◌, ◌≢◌, ℕ, ℤ, ◌+◌, ◌<◌, Bool, true, false, List, [], ◌∷◌, ◌++◌, length, refl, arith, sym, ap, ap₂, subst, ◌∙◌, inl, inr, Some}
use Rattle.std.specs.Prelude.{◌==◌, ◌&&◌, if◌then◌else◌}
use Rattle.std.proofs.lemmas.Bool.{cases_eq}
use Rattle.kt_fifo.specs.declared.parcels.Parcel.{Parcel as SeenParcel}
use Rattle.kt_fifo.specs.declared.parcels.Parcel.TheVariants as in_code
use Rattle.kt_spacetime.specs.declared.event.Event.TheVariants.{Sent}
use Rattle.kt_meaning.specs.Past.{at_one, at_pair}
use Rattle.kt_tables.specs.Calls.{Call, parts, Speaks, sents, sent as call_sent}
use Rattle.kt_tables.specs.Labels.{greatest}
use Rattle.kt_tables.proofs.Following.{speaks_sent}
use Rattle.kt_protocol.proofs.Updates.{is_same, is_other, at_one_here, at_one_other, at_pair_here}
use Rattle.kt_protocol.specs.Messages.{after_sending}
use Rattle.kt_protocol.specs.Parcels.{App, with_parcel}
use Rattle.kt_protocol.specs.States.{State}
use Rattle.kt_protocol.specs.KeptInOrder.{is_in_checkpoint}
use Rattle.kt_protocol.specs.OnceClosed.{has_to_restore}
use Rattle.kt_machine.specs.Labelling.{Labelling, labelling_after, labelled_log}
use Rattle.kt_machine.specs.Seen.{SeenPart, no_part, SeenLists, label_noted, part_of, process_seen, view}
use Rattle.kt_machine.specs.ListChanges as changes
use Rattle.kt_machine.specs.SeenMessages.{seen_sending}
use Rattle.kt_machine.proofs.LabelNumbers.{Numbers, Of, label_old, from_old, body_old, label_none, label_same, of_old, of_new, numbers_sent, none_label, of_low}
use Rattle.kt_machine.proofs.Parcels.{parcels_with_parcel, parcels_later, names_later, own_parcels, own_later, names_message}
use Rattle.kt_machine.proofs.Tables.{Table, table_sent, heard, heard_same}
use Rattle.kt_machine.proofs.SameSeen.{same_seen, states_at, same_process_state, same_part, table_as, read, known_row, length_push}
use Rattle.kt_machine.proofs.Named.{Named, Flows, Heard, Tells, Sees}
use Rattle.kt_machine.proofs.Channels.{pair_row, pair_side, pair_all, names_with_parcel}

pub same_noted : (label label' : ℕ → ℕ) (b : Bool) (m : ℕ) → (b ≡ true → label' m ≡ label m) → label_noted label' b m ≡ label_noted label b m
same_noted label label' true m e = ap Some (e refl)
same_noted label label' false m e = refl

both : (a b : Bool) → (a && b) ≡ true → (a ≡ true) × (b ≡ true)
both true b e = (refl, e)
both false b e = absurd (cc)

module _ (first : ℕ) (c : State) (t : Labelling) (known : read c.so_far t ≡ labelled_log first c.log) (d : Tells t c) (p q : ℕ) (body : ℤ) (o : c.so_far.open_in p ≡ 0) where
  n : Numbers t.label t.used c.so_far.from c.so_far.rows
  n = d.numbers

  abbrev t' : Labelling
  t' = labelling_after c.so_far t (Sent p q body)

  old : (m : ℕ) → 0 < t.label m → (at_one (c.so_far.rows + 1) (t.used p + 1) t.label m ≡ t.label m) × (at_one (c.so_far.rows + 1) p c.so_far.from m ≡ c.so_far.from m) × (at_one (c.so_far.rows + 1) body t.body m ≡ t.body m)
  old m a = (label_old t.label t.used c.so_far.from c.so_far.rows n p m a, from_old t.label t.used c.so_far.from c.so_far.rows n p m a, body_old t.label t.used c.so_far.from c.so_far.rows n p t.body body m a)

  none : at_one (c.so_far.rows + 1) (t.used p + 1) t.label 0 ≡ t.label 0
  none = label_none t.label t.used c.so_far.from c.so_far.rows n p ∙ sym n.zero_is

  abbrev label' : ℕ → ℕ
  label' = at_one (c.so_far.rows + 1) (t.used p + 1) t.label

  abbrev from' : ℕ → ℕ
  from' = at_one (c.so_far.rows + 1) p c.so_far.from

  same_label : (y m : ℕ) → Of t.label c.so_far.from y m → at_one (c.so_far.rows + 1) (t.used p + 1) t.label m ≡ t.label m
  same_label y m a = label_same t.label t.used c.so_far.from c.so_far.rows n p y m a

  part_same : (u k : ℕ) → part_of (labelling_after c.so_far t (Sent p q body)) (after_sending c p q body) u k ≡ part_of t c u k
  part_same u k = same_part refl refl (λ v. refl) refl refl
      (λ v. same_noted t.label (at_one (c.so_far.rows + 1) (t.used p + 1) t.label) (c.so_far.is_rollback k && c.noted k u v) (c.noted_label k u v)
      (λ e. let w = both (c.so_far.is_rollback k) (c.noted k u v) e in same_label v (c.noted_label k u v) (d.noting.noted_of k u v w.1 w.0)))
      (λ v. refl)

  process_parts : (u : ℕ) → (if c.so_far.open_in u == 0 then no_part else part_of (labelling_after c.so_far t (Sent p q body)) (after_sending c p q body) u (c.so_far.open_in u)) ≡ (if c.so_far.open_in u == 0 then no_part else part_of t c u (c.so_far.open_in u))
  process_parts u = ap (λ (r : SeenPart). if c.so_far.open_in u == 0 then no_part else r) (part_same u (c.so_far.open_in u))

  same_all_states : (λ u. process_seen (labelling_after c.so_far t (Sent p q body)) (after_sending c p q body) u) ≡ at_one p (record (process_seen t c p) { calls = t.calls p ++ call_sent q (t.used p + 1) ∷ []; used = t.used p + 1 }) (λ u. process_seen t c u)
  same_all_states = states_at p (record (process_seen t c p) { calls = t.calls p ++ call_sent q (t.used p + 1) ∷ []; used = t.used p + 1 }) (λ u. process_seen (labelling_after c.so_far t (Sent p q body)) (after_sending c p q body) u) (λ u. process_seen t c u)
      (same_process_state (c.so_far.open_in p) (c.up p) (at_one_here p _ t.calls) (at_one_here p _ t.used) (process_parts p))
      (λ u e. same_process_state (c.so_far.open_in u) (c.up u) (at_one_other p u _ t.calls e) (at_one_other p u _ t.used e) (process_parts u))

  pub same_sent : view (labelling_after c.so_far t (Sent p q body)) (after_sending c p q body) ≡ seen_sending (view t c) p q body
  unfolding changes.with_parcel
  same_sent = same_seen c.processes c.instances (c.log ++ Sent p q body ∷ []) same_all_states
      (parcels_with_parcel _ _ c.so_far.is_rollback c.channel p q (App (c.so_far.rows + 1)) ∙ ap₂ (λ (w : SeenLists) (x : SeenParcel). changes.with_parcel w p q x)
      (λ i u v. parcels_later t.label _ c.so_far.from _ t.body _ c.so_far.is_rollback c.so_far.is_rollback c.instances c.instances old none (λ k e. refl) (omega arith) u v (c.channel u v) (d.flows.channel_names u v) i)
      (fresh _ _ (at_one_here (c.so_far.rows + 1) (t.used p + 1) t.label) (at_one_here (c.so_far.rows + 1) body t.body)))
      (λ i u v. own_parcels t.label _ c.so_far.from _ t.body _ c.so_far.is_rollback c.so_far.is_rollback c.instances c.instances old none (λ k e. refl) (omega arith) u (c.held u v) (d.flows.held_own u v) i)
      (λ i u v. own_parcels t.label _ c.so_far.from _ t.body _ c.so_far.is_rollback c.so_far.is_rollback c.instances c.instances old none (λ k e. refl) (omega arith) u (c.kept u v) (d.flows.kept_own u v) i)
    where
      fresh : (l : ℕ) (b : ℤ) → l ≡ t.used p + 1 → b ≡ body → in_code.App l (c.so_far.rows + 1) b ≡ in_code.App (t.used p + 1) (length c.log + 1) body
      fresh l b e f = rw (e, f, d.rows) refl

  named_sent : Named label' from' (at_pair p q (if c.first_sent p q == 0 then c.so_far.rows + 1 else c.first_sent p q) c.first_sent) c.last_received c.first_sent_aside c.last_received_aside (at_pair p q (c.so_far.rows + 1) c.latest_sent) c.last_sent
  named_sent = record {
    first_of = pair_all (λ u v m. Of label' from' u m) p q _ c.first_sent (chosen (c.first_sent p q == 0)) (λ u v. later u (c.first_sent u v) (d.named.first_of u v));
    last_of = λ u v. later v (c.last_received u v) (d.named.last_of u v);
    kept_first_of = λ u v. later u (c.first_sent_aside u v) (d.named.kept_first_of u v);
    kept_last_of = λ u v. later v (c.last_received_aside u v) (d.named.kept_last_of u v);
    latest_of = pair_all (λ u v m. Of label' from' u m) p q (c.so_far.rows + 1) c.latest_sent new (λ u v. later u (c.latest_sent u v) (d.named.latest_of u v));
    last_sent_of = λ u v. later u (c.last_sent u v) (d.named.last_sent_of u v);
  }
    where
      later : (y m : ℕ) → Of t.label c.so_far.from y m → Of label' from' y m
      later y m a = of_old t.label t.used c.so_far.from c.so_far.rows n p y m a

      new : Of label' from' p (c.so_far.rows + 1)
      new = of_new t.label t.used c.so_far.from c.so_far.rows n p

      chosen : (b : Bool) → Of label' from' p (if b then c.so_far.rows + 1 else c.first_sent p q)
      chosen true = new
      chosen false = later p (c.first_sent p q) (d.named.first_of p q)

  flows_sent : Flows label' from' c.so_far.is_rollback c.instances (with_parcel c.channel p q (App (c.so_far.rows + 1))) c.held c.kept
  flows_sent = record {
    channel_names = names_with_parcel label' from' c.so_far.is_rollback c.instances c.channel p q (App (c.so_far.rows + 1))
        (λ u v. names_later t.label label' c.so_far.from from' t.body t'.body c.so_far.is_rollback c.so_far.is_rollback c.instances c.instances old none (λ k e. refl) (omega arith) u v (c.channel u v) (d.flows.channel_names u v))
        (names_message label' from' c.so_far.is_rollback c.instances p q (c.so_far.rows + 1) (subst (λ (x : ℕ). 0 < x) (sym (at_one_here (c.so_far.rows + 1) (t.used p + 1) t.label)) (omega arith)) (at_one_here (c.so_far.rows + 1) p c.so_far.from));
    held_own = λ u v. own_later t.label label' c.so_far.from from' t.body t'.body c.so_far.is_rollback c.so_far.is_rollback c.instances c.instances old none (λ k e. refl) (omega arith) u (c.held u v) (d.flows.held_own u v);
    kept_own = λ u v. own_later t.label label' c.so_far.from from' t.body t'.body c.so_far.is_rollback c.so_far.is_rollback c.instances c.instances old none (λ k e. refl) (omega arith) u (c.kept u v) (d.flows.kept_own u v);
  }

  -- p is in no instance
  in_none : is_in_checkpoint c.so_far p ≡ false
  in_none = rw o refl

  low : greatest (sents q (t.calls p)) < t.used p + 1
  low = let x = (d.tables p).latest_is q in let y = of_low t.label t.used c.so_far.from c.so_far.rows n p (c.latest_sent p q) (d.named.latest_of p q) in omega (arith, x, y)

  speaks_now : Speaks (t.calls p ++ call_sent q (t.used p + 1) ∷ [])
  speaks_now = speaks_sent (t.calls p) q (t.used p + 1) (d.speaks p) ((d.tables p).is_open ∙ in_none) low

  abbrev first' : ℕ → ℕ → ℕ
  first' = at_pair p q (if c.first_sent p q == 0 then c.so_far.rows + 1 else c.first_sent p q) c.first_sent

  abbrev latest' : ℕ → ℕ → ℕ
  latest' = at_pair p q (c.so_far.rows + 1) c.latest_sent

  is_labelled : (y m : ℕ) → Of t.label c.so_far.from y m → t.label m ≡ label' m
  is_labelled y m a = sym (same_label y m a)

  table_here : Table (t.calls p ++ call_sent q (t.used p + 1) ∷ []) (parts (t.calls p ++ call_sent q (t.used p + 1) ∷ [])) (is_in_checkpoint c.so_far p) (λ v. label' (first' p v)) (λ v. label' (c.last_received p v)) (λ v. label' (c.first_sent_aside p v)) (λ v. label' (c.last_received_aside p v)) (λ v. label' (latest' p v)) (λ v. label' (c.last_sent p v))
  table_here = subst (λ (b : Bool). Table (t.calls p ++ call_sent q (t.used p + 1) ∷ []) (parts (t.calls p ++ call_sent q (t.used p + 1) ∷ [])) b (λ v. label' (first' p v)) (λ v. label' (c.last_received p v)) (λ v. label' (c.first_sent_aside p v)) (λ v. label' (c.last_received_aside p v)) (λ v. label' (latest' p v)) (λ v. label' (c.last_sent p v))) (sym in_none)
      (table_as (t.calls p ++ call_sent q (t.used p + 1) ∷ []) (parts (t.calls p ++ call_sent q (t.used p + 1) ∷ [])) false firsts (λ v. is_labelled v (c.last_received p v) (d.named.last_of p v)) (λ v. is_labelled p (c.first_sent_aside p v) (d.named.kept_first_of p v)) (λ v. is_labelled v (c.last_received_aside p v) (d.named.kept_last_of p v)) latests (λ v. is_labelled p (c.last_sent p v) (d.named.last_sent_of p v))
      (table_sent (t.calls p) q (t.used p + 1) (λ v. t.label (c.first_sent p v)) (λ v. t.label (c.last_received p v)) (λ v. t.label (c.first_sent_aside p v)) (λ v. t.label (c.last_received_aside p v)) (λ v. t.label (c.latest_sent p v)) (λ v. t.label (c.last_sent p v)) (d.speaks p) speaks_now low
      (subst (λ (b : Bool). Table (t.calls p) (parts (t.calls p)) b (λ v. t.label (c.first_sent p v)) (λ v. t.label (c.last_received p v)) (λ v. t.label (c.first_sent_aside p v)) (λ v. t.label (c.last_received_aside p v)) (λ v. t.label (c.latest_sent p v)) (λ v. t.label (c.last_sent p v))) in_none (d.tables p))))
    where
      new_label : label' (c.so_far.rows + 1) ≡ t.used p + 1
      new_label = at_one_here (c.so_far.rows + 1) (t.used p + 1) t.label

      choose : (a b : Bool) → a ≡ b → (if a then t.used p + 1 else t.label (c.first_sent p q)) ≡ label' (if b then c.so_far.rows + 1 else c.first_sent p q)
      choose true true e = sym new_label
      choose false false e = is_labelled p (c.first_sent p q) (d.named.first_of p q)
      choose true false e = absurd (cc (e))
      choose false true e = absurd (cc (e))

      firsts : (v : ℕ) → (if v == q then (if t.label (c.first_sent p v) == 0 then t.used p + 1 else t.label (c.first_sent p v)) else t.label (c.first_sent p v)) ≡ label' (first' p v)
      firsts v = elim (cases_eq v q) [
        | inl e ↦ subst (λ (x : ℕ). (if x == q then (if t.label (c.first_sent p x) == 0 then t.used p + 1 else t.label (c.first_sent p x)) else t.label (c.first_sent p x)) ≡ label' (first' p x)) (sym e) (ap (λ (b : Bool). if b then (if t.label (c.first_sent p q) == 0 then t.used p + 1 else t.label (c.first_sent p q)) else t.label (c.first_sent p q)) (is_same q) ∙ (choose (t.label (c.first_sent p q) == 0) (c.first_sent p q == 0) (none_label t.label t.used c.so_far.from c.so_far.rows n p (c.first_sent p q) (d.named.first_of p q)) ∙ ap label' (sym (at_pair_here p q _ c.first_sent))))
        | inr e ↦ ap (λ (b : Bool). if b then (if t.label (c.first_sent p v) == 0 then t.used p + 1 else t.label (c.first_sent p v)) else t.label (c.first_sent p v)) (is_other v q e) ∙ (is_labelled p (c.first_sent p v) (d.named.first_of p v) ∙ ap label' (sym (pair_side p q _ c.first_sent v e)))
      ]

      latests : (v : ℕ) → (if v == q then t.used p + 1 else t.label (c.latest_sent p v)) ≡ label' (latest' p v)
      latests v = elim (cases_eq v q) [
        | inl e ↦ subst (λ (x : ℕ). (if x == q then t.used p + 1 else t.label (c.latest_sent p x)) ≡ label' (latest' p x)) (sym e) (ap (λ (b : Bool). if b then t.used p + 1 else t.label (c.latest_sent p q)) (is_same q) ∙ (sym new_label ∙ ap label' (sym (at_pair_here p q (c.so_far.rows + 1) c.latest_sent))))
        | inr e ↦ ap (λ (b : Bool). if b then t.used p + 1 else t.label (c.latest_sent p v)) (is_other v q e) ∙ (is_labelled p (c.latest_sent p v) (d.named.latest_of p v) ∙ ap label' (sym (pair_side p q (c.so_far.rows + 1) c.latest_sent v e)))
      ]

  -- by process
  abbrev calls' : ℕ → List Call
  calls' = at_one p (t.calls p ++ call_sent q (t.used p + 1) ∷ []) t.calls

  by_place : (P : ℕ → List Call → Type 0) → P p (t.calls p ++ call_sent q (t.used p + 1) ∷ []) → ((u : ℕ) → u ≢ p → P u (t.calls u)) → (u : ℕ) → P u (calls' u)
  by_place P here others u = elim (cases_eq u p) [
    | inl e ↦ subst (λ (x : ℕ). P x (calls' x)) (sym e) (subst (λ (l : List Call). P p l) (sym (at_one_here p _ t.calls)) here)
    | inr e ↦ subst (λ (l : List Call). P u l) (sym (at_one_other p u _ t.calls e)) (others u e)
  ]

  tables_sent : (u : ℕ) → Table (calls' u) (parts (calls' u)) (is_in_checkpoint c.so_far u) (λ v. label' (first' u v)) (λ v. label' (c.last_received u v)) (λ v. label' (c.first_sent_aside u v)) (λ v. label' (c.last_received_aside u v)) (λ v. label' (latest' u v)) (λ v. label' (c.last_sent u v))
  tables_sent = by_place (λ u l. Table l (parts l) (is_in_checkpoint c.so_far u) (λ v. label' (first' u v)) (λ v. label' (c.last_received u v)) (λ v. label' (c.first_sent_aside u v)) (λ v. label' (c.last_received_aside u v)) (λ v. label' (latest' u v)) (λ v. label' (c.last_sent u v))) table_here
      (λ u e. table_as (t.calls u) (parts (t.calls u)) (is_in_checkpoint c.so_far u)
      (λ v. is_labelled u (c.first_sent u v) (d.named.first_of u v) ∙ ap label' (sym (pair_row p q _ c.first_sent u v e)))
      (λ v. is_labelled v (c.last_received u v) (d.named.last_of u v)) (λ v. is_labelled u (c.first_sent_aside u v) (d.named.kept_first_of u v)) (λ v. is_labelled v (c.last_received_aside u v) (d.named.kept_last_of u v))
      (λ v. is_labelled u (c.latest_sent u v) (d.named.latest_of u v) ∙ ap label' (sym (pair_row p q _ c.latest_sent u v e)))
      (λ v. is_labelled u (c.last_sent u v) (d.named.last_sent_of u v)) (d.tables u))

  heard_later : (u v l : ℕ) → Heard t.label c.so_far.is_received c.so_far.from c.so_far.to u v l → Heard label' c.so_far.is_received from' (at_one (c.so_far.rows + 1) q c.so_far.to) u v l
  heard_later u v l a = elim a.2 [
    | inl e ↦ (a.0, (a.1 ∙ ap t.label e) ∙ (sym none ∙ ap label' (sym e)), inl e)
    | inr r ↦ (let x = old a.0 r.3 in (a.0, a.1 ∙ sym x.0, inr (r.0, x.1 ∙ r.1, body_old t.label t.used c.so_far.from c.so_far.rows n p c.so_far.to q a.0 r.3 ∙ r.2, subst (λ (y : ℕ). 0 < y) (sym x.0) r.3)))
  ]

  tells_sent : Tells (labelling_after c.so_far t (Sent p q body)) (after_sending c p q body)
  tells_sent = record {
    numbers = numbers_sent t.label t.used c.so_far.from c.so_far.rows n p;
    rows = ap (λ (x : ℕ). x + 1) d.rows ∙ sym (length_push c.log (Sent p q body));
    named = named_sent;
    flows = flows_sent;
    noting = record { noted_of = λ k u y a b. of_old t.label t.used c.so_far.from c.so_far.rows n p y (c.noted_label k u y) (d.noting.noted_of k u y a b); noted_in = d.noting.noted_in };
    open_low = d.open_low;
    joined_low = d.joined_low;
    asked_near = d.asked_near;
    parent_near = d.parent_near;
    tables = tables_sent;
    speaks = by_place (λ u l. Speaks l) speaks_now (λ u e. d.speaks u);
    hears = λ u v r. heard_later u v (heard (calls' u) v) (by_place (λ u l. has_to_restore c.so_far u ≡ false → Heard t.label c.so_far.is_received c.so_far.from c.so_far.to u v (heard l v))
        (λ r. subst (λ (l : ℕ). Heard t.label c.so_far.is_received c.so_far.from c.so_far.to p v l) (sym (heard_same (t.calls p) (call_sent q (t.used p + 1)) (λ y. refl) refl v)) (d.hears p v r))
        (λ u e r. d.hears u v r) u r);
  }

  pub sees_sending : Sees first (after_sending c p q body) (seen_sending (view t c) p q body)
  sees_sending = record { labels = labelling_after c.so_far t (Sent p q body); known = known_row first c.log c.so_far t (Sent p q body) known; same = same_sent; tells = tells_sent }
