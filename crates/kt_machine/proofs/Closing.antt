-- A process closes an instance.
use Rattle.std.proofs.Common.{◌≡◌, ◌≢◌, ℕ, ◌+◌, ◌≤◌, ◌<◌, Bool, true, false, not, List, [], ◌∷◌, ◌++◌, length, refl, arith, sym, ap, ap₂, subst, ◌∙◌, inl, inr, Option}
use Rattle.std.specs.Prelude.{◌==◌, ◌&&◌, ◌||◌, nat_lt, nat_le, if◌then◌else◌, drop}
use Rattle.std.proofs.lemmas.Bool.{cases_eq}
use Rattle.std.proofs.lemmas.Bool.Decides.{nat_tests}
use Rattle.std.proofs.lemmas.List.{append-nil}
use Rattle.std.proofs.Math.Seq.{drop-append_seam}
use Rattle.kt_fifo.specs.declared.parcels.Parcel.{Parcel as SeenParcel}
use Rattle.kt_spacetime.specs.declared.event.Event.TheVariants.{Closed}
use Rattle.kt_meaning.specs.Past.{at_one}
use Rattle.kt_tables.specs.Calls.{Call, parts, Speaks, on_commit, on_abort, on_rollback}
use Rattle.kt_tables.proofs.Following.{speaks_commit, speaks_abort, speaks_rollback}
use Rattle.kt_protocol.proofs.Updates.{is_same, is_other, at_one_here, at_one_other}
use Rattle.kt_protocol.specs.Deciding.{after_closing_checkpoint, after_closing_rollback}
use Rattle.kt_protocol.specs.Parcels.{Parcel, messages_where, with_decisions}
use Rattle.kt_protocol.specs.States.{State}
use Rattle.kt_protocol.proofs.Choices.{same}
use Rattle.kt_protocol.proofs.KeptLists.{KeptLists}
use Rattle.kt_protocol.specs.KeptInOrder.{is_in_checkpoint}
use Rattle.kt_protocol.specs.LateClosing.{is_newer, is_within_label, late_closing_checkpoint, late_closing_rollback, late_closing}
use Rattle.kt_protocol.specs.OnceClosed.{has_to_restore}
use Rattle.kt_machine.specs.Labelling.{Labelling, labelling_after, calls_of_closing, labelled_log}
use Rattle.kt_machine.specs.Seen.{SeenPart, no_part, Seen, seen_parcels, label_noted, marks_of, part_of, process_seen, view}
use Rattle.kt_machine.specs.ListChanges as changes
use Rattle.kt_machine.specs.CallTests.{call_of_decision}
use Rattle.kt_machine.specs.SeenClosing.{seen_closing_checkpoint, seen_closing_rollback, seen_closing}
use Rattle.kt_machine.proofs.LabelNumbers.{Of, of_one, row_more, same_lt, same_le}
use Rattle.kt_machine.proofs.Parcels.{NamesMessages, AreMessagesOf, parcels_append, parcels_length, parcels_nil, own_nil, own_append, own_where, parcels_with_decisions, low_where, where_all}
use Rattle.kt_machine.proofs.Tables.{Table, table_commit, table_abort, table_rollback, heard, heard_same, heard_rollback}
use Rattle.kt_machine.proofs.SameSeen.{same_seen, states_at, state_more, same_part, table_as, read, known_row, length_push}
use Rattle.kt_machine.proofs.Named.{Heard, Tells, Sees}
use Rattle.kt_machine.proofs.Channels.{row_all, names_with_decisions}
use Rattle.kt_machine.proofs.SmallSteps.{part_in}

speaks_decision : (calls : List Call) (commit : Bool) → Speaks calls → Speaks (calls ++ call_of_decision commit ∷ [])
speaks_decision calls true s = speaks_commit calls s
speaks_decision calls false s = speaks_abort calls s

or_true : (b : Bool) → (b || true) ≡ true
or_true true = refl
or_true false = refl

or_false : (b : Bool) → (b || false) ≡ b
or_false true = refl
or_false false = refl

module _ (first : ℕ) (c : State) (t : Labelling) (known : read c.so_far t ≡ labelled_log first c.log) (d : Tells t c) (p k : ℕ) (pos : 0 < k) (o : c.so_far.open_in p ≡ k) where
  abbrev shut : ℕ → ℕ
  shut = at_one p 0 c.so_far.open_in

  open_other : (u : ℕ) → u ≢ p → at_one p 0 c.so_far.open_in u ≡ c.so_far.open_in u
  open_other u n = at_one_other p u 0 c.so_far.open_in n

  open_here : at_one p 0 c.so_far.open_in p ≡ 0
  open_here = at_one_here p 0 c.so_far.open_in

  lows : (u : ℕ) → at_one p 0 c.so_far.open_in u ≤ c.instances
  lows u = elim (cases_eq u p) [
    | inl e ↦ subst (λ (x : ℕ). x ≤ c.instances) (sym (ap (at_one p 0 c.so_far.open_in) e ∙ open_here)) (omega arith)
    | inr n ↦ subst (λ (x : ℕ). x ≤ c.instances) (sym (open_other u n)) (d.open_low u)
  ]

  save_other : (u : ℕ) → u ≢ p → (not (at_one p 0 c.so_far.open_in u == 0) && not (c.so_far.is_rollback (at_one p 0 c.so_far.open_in u))) ≡ is_in_checkpoint c.so_far u
  save_other u n = ap (λ (x : ℕ). not (x == 0) && not (c.so_far.is_rollback x)) (open_other u n)

  save_here : (not (at_one p 0 c.so_far.open_in p == 0) && not (c.so_far.is_rollback (at_one p 0 c.so_far.open_in p))) ≡ false
  save_here = ap (λ (x : ℕ). not (x == 0) && not (c.so_far.is_rollback x)) open_here

  restoring_other : (u : ℕ) → u ≢ p → has_to_restore (record c.so_far { open_in = at_one p 0 c.so_far.open_in }) u ≡ false → has_to_restore c.so_far u ≡ false
  restoring_other u n r = sym (ap (λ (x : ℕ). (not (x == 0) && (c.so_far.is_decided x && c.so_far.is_committed x)) && c.so_far.is_rollback x) (open_other u n)) ∙ r

  at_row_here : (x y : ℕ) → (if p == p then x else y) ≡ x
  at_row_here x y = ap (λ (b : Bool). if b then x else y) (is_same p)

  at_row_other : (u x y : ℕ) → u ≢ p → (if u == p then x else y) ≡ y
  at_row_other u x y n = ap (λ (b : Bool). if b then x else y) (is_other u p n)

  -- the channels: who was asked is told
  told : (w : Bool) → (λ u v. seen_parcels t.label t.body c.so_far.is_rollback (with_decisions c.channel c.asked p k w u v)) ≡ changes.with_decisions (view t c).channel p k w (process_seen t c p).part.asked
  told w = parcels_with_decisions t.label t.body c.so_far.is_rollback c.channel c.asked p k w ∙ ap (λ (r : SeenPart). changes.with_decisions (view t c).channel p k w r.asked) (sym (part_in t c p k pos o))

  told_names : (w : Bool) → (u v : ℕ) → NamesMessages t.label c.so_far.from c.so_far.is_rollback c.instances u v (with_decisions c.channel c.asked p k w u v)
  told_names w = names_with_decisions t.label c.so_far.from c.so_far.is_rollback c.instances c.channel c.asked p k w d.flows.channel_names

  -- the calls
  module _ (more : List Call) where
    by_place : (P : ℕ → List Call → Type 0) → P p (t.calls p ++ more) → ((u : ℕ) → u ≢ p → P u (t.calls u)) → (u : ℕ) → P u (at_one p (t.calls p ++ more) t.calls u)
    by_place P here others u = elim (cases_eq u p) [
      | inl e ↦ subst (λ (x : ℕ). P x (at_one p (t.calls p ++ more) t.calls x)) (sym e) (subst (λ (l : List Call). P p l) (sym (at_one_here p _ t.calls)) here)
      | inr e ↦ subst (λ (l : List Call). P u l) (sym (at_one_other p u _ t.calls e)) (others u e)
    ]

  in_save : c.so_far.is_rollback k ≡ false → is_in_checkpoint c.so_far p ≡ true
  in_save r = ap (λ (x : ℕ). not (x == 0) && not (c.so_far.is_rollback x)) o ∙ (ap (λ (b : Bool). not (k == 0) && not b) r ∙ some k pos)
    where
      some : (k : ℕ) → 0 < k → (not (k == 0) && true) ≡ true
      some k pos = grind (arith, nat_tests, pos)

  not_in_save : c.so_far.is_rollback k ≡ true → is_in_checkpoint c.so_far p ≡ false
  not_in_save r = ap (λ (x : ℕ). not (x == 0) && not (c.so_far.is_rollback x)) o ∙ (ap (λ (b : Bool). not (k == 0) && not b) r ∙ none (not (k == 0)))
    where
      none : (b : Bool) → (b && false) ≡ false
      none true = refl
      none false = refl

  -- a checkpoint, committed
  module _ (r : c.so_far.is_rollback k ≡ false) (i : c.so_far.is_committed k ≡ true) (lists : KeptLists c) where
    abbrev t1 : Labelling
    t1 = labelling_after c.so_far t (Closed p k)

    said1 : calls_of_closing (c.so_far.is_rollback k) (c.so_far.is_committed k) ≡ on_commit ∷ []
    said1 = rw (r, i) refl

    calls1 : at_one p (t.calls p ++ calls_of_closing (c.so_far.is_rollback k) (c.so_far.is_committed k)) t.calls ≡ at_one p (t.calls p ++ on_commit ∷ []) t.calls
    calls1 = ap (λ (l : List Call). at_one p (t.calls p ++ l) t.calls) said1

    part_other1 : (u : ℕ) → u ≢ p → part_of (labelling_after c.so_far t (Closed p k)) (late_closing_checkpoint c p k true) u (c.so_far.open_in u) ≡ part_of t c u (c.so_far.open_in u)
    part_other1 u n = same_part refl refl (λ v. refl) refl refl (λ v. refl)
        (λ v. ap (λ (b : Bool). if c.so_far.is_rollback (c.so_far.open_in u) then 0 else length (messages_where (λ m. not (is_newer c u m)) (if b then messages_where (is_newer c u) (c.kept v u) else c.kept v u))) (is_other u p n))

    procs1 : (λ u. process_seen (labelling_after c.so_far t (Closed p k)) (late_closing_checkpoint c p k true) u) ≡ at_one p (record (process_seen t c p) { calls = t.calls p ++ on_commit ∷ []; inst = 0; part = no_part }) (λ u. process_seen t c u)
    procs1 = states_at p (record (process_seen t c p) { calls = t.calls p ++ on_commit ∷ []; inst = 0; part = no_part }) (λ u. process_seen (labelling_after c.so_far t (Closed p k)) (late_closing_checkpoint c p k true) u) (λ u. process_seen t c u)
        (state_more (ap (λ (f : ℕ → List Call). f p) calls1 ∙ at_one_here p _ t.calls) refl open_here (ap (λ (x : ℕ). if x == 0 then no_part else part_of (labelling_after c.so_far t (Closed p k)) (late_closing_checkpoint c p k true) p x) open_here) refl)
        (λ u n. state_more (at_one_other p u _ t.calls n) refl (open_other u n) (ap (λ (x : ℕ). if x == 0 then no_part else part_of (labelling_after c.so_far t (Closed p k)) (late_closing_checkpoint c p k true) u x) (open_other u n) ∙ ap (λ (y : SeenPart). if c.so_far.open_in u == 0 then no_part else y) (part_other1 u n)) refl)

    -- what goes is a front part
    front_goes : (q : ℕ) → seen_parcels t.label t.body c.so_far.is_rollback (messages_where (is_newer c p) (c.kept q p)) ≡ drop ((process_seen t c p).part.marks q) (seen_parcels t.label t.body c.so_far.is_rollback (c.kept q p))
    front_goes q = sym (ap (λ (n : ℕ). drop n (seen_parcels t.label t.body c.so_far.is_rollback (c.kept q p))) marks_are
        ∙ (ap (λ (l : List Parcel). drop (length (seen_parcels t.label t.body c.so_far.is_rollback (messages_where (λ m. not (is_newer c p m)) (c.kept q p)))) (seen_parcels t.label t.body c.so_far.is_rollback l)) (sym (lists.parted p q (in_save r)))
        ∙ (ap (λ (l : List SeenParcel). drop (length (seen_parcels t.label t.body c.so_far.is_rollback (messages_where (λ m. not (is_newer c p m)) (c.kept q p)))) l) (parcels_append t.label t.body c.so_far.is_rollback (messages_where (λ m. not (is_newer c p m)) (c.kept q p)) (messages_where (is_newer c p) (c.kept q p)))
        ∙ drop-append_seam (seen_parcels t.label t.body c.so_far.is_rollback (messages_where (λ m. not (is_newer c p m)) (c.kept q p))) (seen_parcels t.label t.body c.so_far.is_rollback (messages_where (is_newer c p) (c.kept q p))))))
      where
        marks_are : (process_seen t c p).part.marks q ≡ length (seen_parcels t.label t.body c.so_far.is_rollback (messages_where (λ m. not (is_newer c p m)) (c.kept q p)))
        marks_are = ap (λ (x : SeenPart). x.marks q) (part_in t c p k pos o) ∙ (ap (λ (b : Bool). if b then 0 else marks_of c p q) r ∙ sym (parcels_length t.label t.body c.so_far.is_rollback (messages_where (λ m. not (is_newer c p m)) (c.kept q p))))

    kept1 : (q u : ℕ) → seen_parcels t.label t.body c.so_far.is_rollback (if u == p then messages_where (is_newer c u) (c.kept q u) else c.kept q u) ≡ (if u == p then drop ((process_seen t c p).part.marks q) (seen_parcels t.label t.body c.so_far.is_rollback (c.kept q u)) else seen_parcels t.label t.body c.so_far.is_rollback (c.kept q u))
    kept1 q u = go (u == p) refl
      where
        go : (b : Bool) → (u == p) ≡ b → seen_parcels t.label t.body c.so_far.is_rollback (if b then messages_where (is_newer c u) (c.kept q u) else c.kept q u) ≡ (if b then drop ((process_seen t c p).part.marks q) (seen_parcels t.label t.body c.so_far.is_rollback (c.kept q u)) else seen_parcels t.label t.body c.so_far.is_rollback (c.kept q u))
        go true e = subst (λ (x : ℕ). seen_parcels t.label t.body c.so_far.is_rollback (messages_where (is_newer c x) (c.kept q x)) ≡ drop ((process_seen t c p).part.marks q) (seen_parcels t.label t.body c.so_far.is_rollback (c.kept q x))) (sym (same u p e)) (front_goes q)
        go false e = refl

    tables1 : (u : ℕ) → Table (at_one p (t.calls p ++ on_commit ∷ []) t.calls u) (parts (at_one p (t.calls p ++ on_commit ∷ []) t.calls u)) (not (at_one p 0 c.so_far.open_in u == 0) && not (c.so_far.is_rollback (at_one p 0 c.so_far.open_in u))) (λ v. t.label (c.first_sent u v)) (λ v. t.label (c.last_received u v)) (λ v. t.label (c.first_sent_aside u v)) (λ v. t.label (c.last_received_aside u v)) (λ v. t.label (c.latest_sent u v)) (λ v. t.label (if u == p then c.latest_sent u v else c.last_sent u v))
    tables1 = by_place (on_commit ∷ []) (λ u l. Table l (parts l) (not (at_one p 0 c.so_far.open_in u == 0) && not (c.so_far.is_rollback (at_one p 0 c.so_far.open_in u))) (λ v. t.label (c.first_sent u v)) (λ v. t.label (c.last_received u v)) (λ v. t.label (c.first_sent_aside u v)) (λ v. t.label (c.last_received_aside u v)) (λ v. t.label (c.latest_sent u v)) (λ v. t.label (if u == p then c.latest_sent u v else c.last_sent u v)))
        (subst (λ (b : Bool). Table (t.calls p ++ on_commit ∷ []) (parts (t.calls p ++ on_commit ∷ [])) b (λ v. t.label (c.first_sent p v)) (λ v. t.label (c.last_received p v)) (λ v. t.label (c.first_sent_aside p v)) (λ v. t.label (c.last_received_aside p v)) (λ v. t.label (c.latest_sent p v)) (λ v. t.label (if p == p then c.latest_sent p v else c.last_sent p v))) (sym save_here)
        (table_as (t.calls p ++ on_commit ∷ []) (parts (t.calls p ++ on_commit ∷ [])) false (λ v. refl) (λ v. refl) (λ v. refl) (λ v. refl) (λ v. refl) (λ v. ap t.label (sym (at_row_here (c.latest_sent p v) (c.last_sent p v))))
        (table_commit (t.calls p) (λ v. t.label (c.first_sent p v)) (λ v. t.label (c.last_received p v)) (λ v. t.label (c.first_sent_aside p v)) (λ v. t.label (c.last_received_aside p v)) (λ v. t.label (c.latest_sent p v)) (λ v. t.label (c.last_sent p v)) (d.speaks p)
        (subst (λ (b : Bool). Table (t.calls p) (parts (t.calls p)) b (λ v. t.label (c.first_sent p v)) (λ v. t.label (c.last_received p v)) (λ v. t.label (c.first_sent_aside p v)) (λ v. t.label (c.last_received_aside p v)) (λ v. t.label (c.latest_sent p v)) (λ v. t.label (c.last_sent p v))) (in_save r) (d.tables p)))))
        (λ u n. subst (λ (b : Bool). Table (t.calls u) (parts (t.calls u)) b (λ v. t.label (c.first_sent u v)) (λ v. t.label (c.last_received u v)) (λ v. t.label (c.first_sent_aside u v)) (λ v. t.label (c.last_received_aside u v)) (λ v. t.label (c.latest_sent u v)) (λ v. t.label (if u == p then c.latest_sent u v else c.last_sent u v))) (sym (save_other u n))
        (table_as (t.calls u) (parts (t.calls u)) (is_in_checkpoint c.so_far u) (λ v. refl) (λ v. refl) (λ v. refl) (λ v. refl) (λ v. refl) (λ v. ap t.label (sym (at_row_other u (c.latest_sent u v) (c.last_sent u v) n))) (d.tables u)))

    no_restore : has_to_restore c.so_far p ≡ false
    no_restore = ap (λ (x : ℕ). (not (x == 0) && (c.so_far.is_decided x && c.so_far.is_committed x)) && c.so_far.is_rollback x) o ∙ (ap (λ (b : Bool). (not (k == 0) && (c.so_far.is_decided k && c.so_far.is_committed k)) && b) r ∙ none (not (k == 0) && (c.so_far.is_decided k && c.so_far.is_committed k)))
      where
        none : (b : Bool) → (b && false) ≡ false
        none true = refl
        none false = refl

    hears1 : (u v : ℕ) → has_to_restore (record c.so_far { open_in = at_one p 0 c.so_far.open_in }) u ≡ false → Heard t.label c.so_far.is_received c.so_far.from c.so_far.to u v (heard (at_one p (t.calls p ++ on_commit ∷ []) t.calls u) v)
    hears1 u v = by_place (on_commit ∷ []) (λ u l. has_to_restore (record c.so_far { open_in = at_one p 0 c.so_far.open_in }) u ≡ false → Heard t.label c.so_far.is_received c.so_far.from c.so_far.to u v (heard l v))
        (λ e. subst (λ (l : ℕ). Heard t.label c.so_far.is_received c.so_far.from c.so_far.to p v l) (sym (heard_same (t.calls p) on_commit (λ y. refl) refl v)) (d.hears p v no_restore))
        (λ u n e. d.hears u v (restoring_other u n e)) u

    pub sees_commit_of_checkpoint : Sees first (late_closing_checkpoint c p k true) (seen_closing_checkpoint (view t c) p k true)
    sees_commit_of_checkpoint = record {
      labels = labelling_after c.so_far t (Closed p k);
      known = known_row first c.log c.so_far t (Closed p k) known;
      same = same_seen c.processes c.instances (c.log ++ Closed p k ∷ []) procs1 (told true) refl (λ i q u. kept1 q u i);
      tells = record {
        numbers = row_more t.label t.used c.so_far.from c.so_far.rows d.numbers;
        rows = ap (λ (x : ℕ). x + 1) d.rows ∙ sym (length_push c.log (Closed p k));
        named = record {
          first_of = d.named.first_of;
          last_of = d.named.last_of;
          kept_first_of = d.named.kept_first_of;
          kept_last_of = d.named.kept_last_of;
          latest_of = d.named.latest_of;
          last_sent_of = λ u v. row_all (λ u m. Of t.label c.so_far.from u m) p (λ u. c.latest_sent u v) (λ u. c.last_sent u v) (d.named.latest_of p v) (λ u n. d.named.last_sent_of u v) u;
        };
        flows = record { channel_names = told_names true; held_own = d.flows.held_own; kept_own = λ q u. row_all (λ u l. AreMessagesOf t.label c.so_far.from q l) p (λ u. messages_where (is_newer c u) (c.kept q u)) (λ u. c.kept q u) (own_where t.label c.so_far.from q (is_newer c p) (c.kept q p) (d.flows.kept_own q p)) (λ u n. d.flows.kept_own q u) u };
        noting = d.noting;
        open_low = lows;
        joined_low = d.joined_low;
        asked_near = d.asked_near;
        parent_near = d.parent_near;
        tables = subst (λ (f : ℕ → List Call). (u : ℕ) → Table (f u) (parts (f u)) (not (at_one p 0 c.so_far.open_in u == 0) && not (c.so_far.is_rollback (at_one p 0 c.so_far.open_in u))) (λ v. t.label (c.first_sent u v)) (λ v. t.label (c.last_received u v)) (λ v. t.label (c.first_sent_aside u v)) (λ v. t.label (c.last_received_aside u v)) (λ v. t.label (c.latest_sent u v)) (λ v. t.label (if u == p then c.latest_sent u v else c.last_sent u v))) (sym calls1) tables1;
        speaks = subst (λ (f : ℕ → List Call). (u : ℕ) → Speaks (f u)) (sym calls1) (by_place (on_commit ∷ []) (λ u l. Speaks l) (speaks_decision (t.calls p) true (d.speaks p)) (λ u n. d.speaks u));
        hears = subst (λ (f : ℕ → List Call). (u v : ℕ) → has_to_restore (record c.so_far { open_in = at_one p 0 c.so_far.open_in }) u ≡ false → Heard t.label c.so_far.is_received c.so_far.from c.so_far.to u v (heard (f u) v)) (sym calls1) hears1;
      };
    }

  -- a checkpoint, aborted
  module _ (r : c.so_far.is_rollback k ≡ false) (i : c.so_far.is_committed k ≡ false) where
    said2 : calls_of_closing (c.so_far.is_rollback k) (c.so_far.is_committed k) ≡ on_abort ∷ []
    said2 = rw (r, i) refl

    calls2 : at_one p (t.calls p ++ calls_of_closing (c.so_far.is_rollback k) (c.so_far.is_committed k)) t.calls ≡ at_one p (t.calls p ++ on_abort ∷ []) t.calls
    calls2 = ap (λ (l : List Call). at_one p (t.calls p ++ l) t.calls) said2

    part_other2 : (u : ℕ) → u ≢ p → part_of (labelling_after c.so_far t (Closed p k)) (after_closing_checkpoint c p k false) u (c.so_far.open_in u) ≡ part_of t c u (c.so_far.open_in u)
    part_other2 u n = same_part refl refl (λ v. refl) refl refl (λ v. refl)
        (λ v. ap (λ (x : ℕ). if c.so_far.is_rollback (c.so_far.open_in u) then 0 else length (messages_where (λ m. not (nat_le x (c.so_far.received_at m))) (c.kept v u))) (at_one_other p u (c.own_permanent p) c.saved_at n))

    procs2 : (λ u. process_seen (labelling_after c.so_far t (Closed p k)) (after_closing_checkpoint c p k false) u) ≡ at_one p (record (process_seen t c p) { calls = t.calls p ++ on_abort ∷ []; inst = 0; part = no_part }) (λ u. process_seen t c u)
    procs2 = states_at p (record (process_seen t c p) { calls = t.calls p ++ on_abort ∷ []; inst = 0; part = no_part }) (λ u. process_seen (labelling_after c.so_far t (Closed p k)) (after_closing_checkpoint c p k false) u) (λ u. process_seen t c u)
        (state_more (ap (λ (f : ℕ → List Call). f p) calls2 ∙ at_one_here p _ t.calls) refl open_here (ap (λ (x : ℕ). if x == 0 then no_part else part_of (labelling_after c.so_far t (Closed p k)) (after_closing_checkpoint c p k false) p x) open_here) refl)
        (λ u n. state_more (at_one_other p u _ t.calls n) refl (open_other u n) (ap (λ (x : ℕ). if x == 0 then no_part else part_of (labelling_after c.so_far t (Closed p k)) (after_closing_checkpoint c p k false) u x) (open_other u n) ∙ ap (λ (y : SeenPart). if c.so_far.open_in u == 0 then no_part else y) (part_other2 u n)) refl)

    abbrev first2 : ℕ → ℕ → ℕ
    first2 u v = if u == p then c.first_sent_aside p v else c.first_sent u v

    abbrev last2 : ℕ → ℕ → ℕ
    last2 u v = if u == p then (if nat_lt (c.last_received_aside p v) (c.last_received p v) then c.last_received p v else c.last_received_aside p v) else c.last_received u v

    later : (v : ℕ) → (if nat_lt (t.label (c.last_received_aside p v)) (t.label (c.last_received p v)) then t.label (c.last_received p v) else t.label (c.last_received_aside p v)) ≡ t.label (if nat_lt (c.last_received_aside p v) (c.last_received p v) then c.last_received p v else c.last_received_aside p v)
    later v = choose (nat_lt (t.label (c.last_received_aside p v)) (t.label (c.last_received p v))) (nat_lt (c.last_received_aside p v) (c.last_received p v)) (same_lt t.label t.used c.so_far.from c.so_far.rows d.numbers v (c.last_received_aside p v) (c.last_received p v) (d.named.kept_last_of p v) (d.named.last_of p v))
      where
        choose : (a b : Bool) → a ≡ b → (if a then t.label (c.last_received p v) else t.label (c.last_received_aside p v)) ≡ t.label (if b then c.last_received p v else c.last_received_aside p v)
        choose true true e = refl
        choose false false e = refl
        choose true false e = absurd (cc (e))
        choose false true e = absurd (cc (e))

    later_of : (v : ℕ) (b : Bool) → Of t.label c.so_far.from v (if b then c.last_received p v else c.last_received_aside p v)
    later_of v true = d.named.last_of p v
    later_of v false = d.named.kept_last_of p v

    tables2 : (u : ℕ) → Table (at_one p (t.calls p ++ on_abort ∷ []) t.calls u) (parts (at_one p (t.calls p ++ on_abort ∷ []) t.calls u)) (not (at_one p 0 c.so_far.open_in u == 0) && not (c.so_far.is_rollback (at_one p 0 c.so_far.open_in u))) (λ v. t.label (first2 u v)) (λ v. t.label (last2 u v)) (λ v. t.label (c.first_sent_aside u v)) (λ v. t.label (c.last_received_aside u v)) (λ v. t.label (c.latest_sent u v)) (λ v. t.label (c.last_sent u v))
    tables2 = by_place (on_abort ∷ []) (λ u l. Table l (parts l) (not (at_one p 0 c.so_far.open_in u == 0) && not (c.so_far.is_rollback (at_one p 0 c.so_far.open_in u))) (λ v. t.label (first2 u v)) (λ v. t.label (last2 u v)) (λ v. t.label (c.first_sent_aside u v)) (λ v. t.label (c.last_received_aside u v)) (λ v. t.label (c.latest_sent u v)) (λ v. t.label (c.last_sent u v)))
        (subst (λ (b : Bool). Table (t.calls p ++ on_abort ∷ []) (parts (t.calls p ++ on_abort ∷ [])) b (λ v. t.label (first2 p v)) (λ v. t.label (last2 p v)) (λ v. t.label (c.first_sent_aside p v)) (λ v. t.label (c.last_received_aside p v)) (λ v. t.label (c.latest_sent p v)) (λ v. t.label (c.last_sent p v))) (sym save_here)
        (table_as (t.calls p ++ on_abort ∷ []) (parts (t.calls p ++ on_abort ∷ [])) false (λ v. ap t.label (sym (at_row_here (c.first_sent_aside p v) (c.first_sent p v)))) (λ v. later v ∙ ap t.label (sym (at_row_here (if nat_lt (c.last_received_aside p v) (c.last_received p v) then c.last_received p v else c.last_received_aside p v) (c.last_received p v)))) (λ v. refl) (λ v. refl) (λ v. refl) (λ v. refl)
        (table_abort (t.calls p) (λ v. t.label (c.first_sent p v)) (λ v. t.label (c.last_received p v)) (λ v. t.label (c.first_sent_aside p v)) (λ v. t.label (c.last_received_aside p v)) (λ v. t.label (c.latest_sent p v)) (λ v. t.label (c.last_sent p v)) (d.speaks p)
        (subst (λ (b : Bool). Table (t.calls p) (parts (t.calls p)) b (λ v. t.label (c.first_sent p v)) (λ v. t.label (c.last_received p v)) (λ v. t.label (c.first_sent_aside p v)) (λ v. t.label (c.last_received_aside p v)) (λ v. t.label (c.latest_sent p v)) (λ v. t.label (c.last_sent p v))) (in_save r) (d.tables p)))))
        (λ u n. subst (λ (b : Bool). Table (t.calls u) (parts (t.calls u)) b (λ v. t.label (first2 u v)) (λ v. t.label (last2 u v)) (λ v. t.label (c.first_sent_aside u v)) (λ v. t.label (c.last_received_aside u v)) (λ v. t.label (c.latest_sent u v)) (λ v. t.label (c.last_sent u v))) (sym (save_other u n))
        (table_as (t.calls u) (parts (t.calls u)) (is_in_checkpoint c.so_far u) (λ v. ap t.label (sym (at_row_other u (c.first_sent_aside p v) (c.first_sent u v) n))) (λ v. ap t.label (sym (at_row_other u (if nat_lt (c.last_received_aside p v) (c.last_received p v) then c.last_received p v else c.last_received_aside p v) (c.last_received u v) n))) (λ v. refl) (λ v. refl) (λ v. refl) (λ v. refl) (d.tables u)))

    no_restore2 : has_to_restore c.so_far p ≡ false
    no_restore2 = ap (λ (x : ℕ). (not (x == 0) && (c.so_far.is_decided x && c.so_far.is_committed x)) && c.so_far.is_rollback x) o ∙ (ap (λ (b : Bool). (not (k == 0) && (c.so_far.is_decided k && c.so_far.is_committed k)) && b) r ∙ none (not (k == 0) && (c.so_far.is_decided k && c.so_far.is_committed k)))
      where
        none : (b : Bool) → (b && false) ≡ false
        none true = refl
        none false = refl

    hears2 : (u v : ℕ) → has_to_restore (record c.so_far { open_in = at_one p 0 c.so_far.open_in }) u ≡ false → Heard t.label c.so_far.is_received c.so_far.from c.so_far.to u v (heard (at_one p (t.calls p ++ on_abort ∷ []) t.calls u) v)
    hears2 u v = by_place (on_abort ∷ []) (λ u l. has_to_restore (record c.so_far { open_in = at_one p 0 c.so_far.open_in }) u ≡ false → Heard t.label c.so_far.is_received c.so_far.from c.so_far.to u v (heard l v))
        (λ e. subst (λ (l : ℕ). Heard t.label c.so_far.is_received c.so_far.from c.so_far.to p v l) (sym (heard_same (t.calls p) on_abort (λ y. refl) refl v)) (d.hears p v no_restore2))
        (λ u n e. d.hears u v (restoring_other u n e)) u

    pub sees_abort_of_checkpoint : Sees first (after_closing_checkpoint c p k false) (seen_closing_checkpoint (view t c) p k false)
    sees_abort_of_checkpoint = record {
      labels = labelling_after c.so_far t (Closed p k);
      known = known_row first c.log c.so_far t (Closed p k) known;
      same = same_seen c.processes c.instances (c.log ++ Closed p k ∷ []) procs2 (told false) refl refl;
      tells = record {
        numbers = row_more t.label t.used c.so_far.from c.so_far.rows d.numbers;
        rows = ap (λ (x : ℕ). x + 1) d.rows ∙ sym (length_push c.log (Closed p k));
        named = record {
          first_of = λ u v. row_all (λ u m. Of t.label c.so_far.from u m) p (λ u. c.first_sent_aside p v) (λ u. c.first_sent u v) (d.named.kept_first_of p v) (λ u n. d.named.first_of u v) u;
          last_of = λ u v. row_all (λ u m. Of t.label c.so_far.from v m) p (λ u. if nat_lt (c.last_received_aside p v) (c.last_received p v) then c.last_received p v else c.last_received_aside p v) (λ u. c.last_received u v) (later_of v (nat_lt (c.last_received_aside p v) (c.last_received p v))) (λ u n. d.named.last_of u v) u;
          kept_first_of = d.named.kept_first_of;
          kept_last_of = d.named.kept_last_of;
          latest_of = d.named.latest_of;
          last_sent_of = d.named.last_sent_of;
        };
        flows = record { channel_names = told_names false; held_own = d.flows.held_own; kept_own = d.flows.kept_own };
        noting = d.noting;
        open_low = lows;
        joined_low = d.joined_low;
        asked_near = d.asked_near;
        parent_near = d.parent_near;
        tables = subst (λ (f : ℕ → List Call). (u : ℕ) → Table (f u) (parts (f u)) (not (at_one p 0 c.so_far.open_in u == 0) && not (c.so_far.is_rollback (at_one p 0 c.so_far.open_in u))) (λ v. t.label (first2 u v)) (λ v. t.label (last2 u v)) (λ v. t.label (c.first_sent_aside u v)) (λ v. t.label (c.last_received_aside u v)) (λ v. t.label (c.latest_sent u v)) (λ v. t.label (c.last_sent u v))) (sym calls2) tables2;
        speaks = subst (λ (f : ℕ → List Call). (u : ℕ) → Speaks (f u)) (sym calls2) (by_place (on_abort ∷ []) (λ u l. Speaks l) (speaks_decision (t.calls p) false (d.speaks p)) (λ u n. d.speaks u));
        hears = subst (λ (f : ℕ → List Call). (u v : ℕ) → has_to_restore (record c.so_far { open_in = at_one p 0 c.so_far.open_in }) u ≡ false → Heard t.label c.so_far.is_received c.so_far.from c.so_far.to u v (heard (f u) v)) (sym calls2) hears2;
      };
    }

  -- a rollback, aborted
  module _ (r : c.so_far.is_rollback k ≡ true) (i : c.so_far.is_committed k ≡ false) where
    said3 : t.calls p ++ calls_of_closing (c.so_far.is_rollback k) (c.so_far.is_committed k) ≡ t.calls p
    said3 = rw (r, i) (append-nil (t.calls p))

    calls3 : (u : ℕ) → at_one p (t.calls p ++ calls_of_closing (c.so_far.is_rollback k) (c.so_far.is_committed k)) t.calls u ≡ t.calls u
    calls3 u = elim (cases_eq u p) [
      | inl e ↦ ap (at_one p (t.calls p ++ calls_of_closing (c.so_far.is_rollback k) (c.so_far.is_committed k)) t.calls) e ∙ (at_one_here p _ t.calls ∙ (said3 ∙ ap t.calls (sym e)))
      | inr n ↦ at_one_other p u _ t.calls n
    ]

    procs3 : (λ u. process_seen (labelling_after c.so_far t (Closed p k)) (after_closing_rollback c p k false) u) ≡ at_one p (record (process_seen t c p) { inst = 0; part = no_part }) (λ u. process_seen t c u)
    procs3 = states_at p (record (process_seen t c p) { inst = 0; part = no_part }) (λ u. process_seen (labelling_after c.so_far t (Closed p k)) (after_closing_rollback c p k false) u) (λ u. process_seen t c u)
        (state_more (calls3 p) refl open_here (ap (λ (x : ℕ). if x == 0 then no_part else part_of (labelling_after c.so_far t (Closed p k)) (after_closing_rollback c p k false) p x) open_here) (at_one_here p (c.up p || false) c.up ∙ or_false (c.up p)))
        (λ u n. state_more (calls3 u) refl (open_other u n) (ap (λ (x : ℕ). if x == 0 then no_part else part_of (labelling_after c.so_far t (Closed p k)) (after_closing_rollback c p k false) u x) (open_other u n)) (at_one_other p u (c.up p || false) c.up n))

    save_same3 : (u : ℕ) → (not (at_one p 0 c.so_far.open_in u == 0) && not (c.so_far.is_rollback (at_one p 0 c.so_far.open_in u))) ≡ is_in_checkpoint c.so_far u
    save_same3 u = elim (cases_eq u p) [
      | inl e ↦ ap (λ (x : ℕ). not (at_one p 0 c.so_far.open_in x == 0) && not (c.so_far.is_rollback (at_one p 0 c.so_far.open_in x))) e ∙ (save_here ∙ (sym (not_in_save r) ∙ ap (is_in_checkpoint c.so_far) (sym e)))
      | inr n ↦ save_other u n
    ]

    no_restore3 : has_to_restore c.so_far p ≡ false
    no_restore3 = ap (λ (x : ℕ). (not (x == 0) && (c.so_far.is_decided x && c.so_far.is_committed x)) && c.so_far.is_rollback x) o ∙ (ap (λ (b : Bool). (not (k == 0) && (c.so_far.is_decided k && b)) && c.so_far.is_rollback k) i ∙ none (not (k == 0)) (c.so_far.is_decided k) (c.so_far.is_rollback k))
      where
        none : (a b e : Bool) → ((a && (b && false)) && e) ≡ false
        none true true e = refl
        none true false e = refl
        none false b e = refl

    was3 : (u : ℕ) → has_to_restore (record c.so_far { open_in = at_one p 0 c.so_far.open_in }) u ≡ false → has_to_restore c.so_far u ≡ false
    was3 u e = elim (cases_eq u p) [
      | inl x ↦ ap (has_to_restore c.so_far) x ∙ no_restore3
      | inr n ↦ restoring_other u n e
    ]

    pub sees_abort_of_rollback : Sees first (after_closing_rollback c p k false) (seen_closing_rollback (view t c) p k false)
    sees_abort_of_rollback = record {
      labels = labelling_after c.so_far t (Closed p k);
      known = known_row first c.log c.so_far t (Closed p k) known;
      same = same_seen c.processes c.instances (c.log ++ Closed p k ∷ []) procs3 (told false) refl refl;
      tells = record {
        numbers = row_more t.label t.used c.so_far.from c.so_far.rows d.numbers;
        rows = ap (λ (x : ℕ). x + 1) d.rows ∙ sym (length_push c.log (Closed p k));
        named = d.named;
        flows = record { channel_names = told_names false; held_own = d.flows.held_own; kept_own = d.flows.kept_own };
        noting = d.noting;
        open_low = lows;
        joined_low = d.joined_low;
        asked_near = d.asked_near;
        parent_near = d.parent_near;
        tables = λ u. subst (λ (l : List Call). Table l (parts l) (not (at_one p 0 c.so_far.open_in u == 0) && not (c.so_far.is_rollback (at_one p 0 c.so_far.open_in u))) (λ v. t.label (c.first_sent u v)) (λ v. t.label (c.last_received u v)) (λ v. t.label (c.first_sent_aside u v)) (λ v. t.label (c.last_received_aside u v)) (λ v. t.label (c.latest_sent u v)) (λ v. t.label (c.last_sent u v))) (sym (calls3 u))
            (subst (λ (b : Bool). Table (t.calls u) (parts (t.calls u)) b (λ v. t.label (c.first_sent u v)) (λ v. t.label (c.last_received u v)) (λ v. t.label (c.first_sent_aside u v)) (λ v. t.label (c.last_received_aside u v)) (λ v. t.label (c.latest_sent u v)) (λ v. t.label (c.last_sent u v))) (sym (save_same3 u)) (d.tables u));
        speaks = λ u. subst Speaks (sym (calls3 u)) (d.speaks u);
        hears = λ u v e. subst (λ (l : List Call). Heard t.label c.so_far.is_received c.so_far.from c.so_far.to u v (heard l v)) (sym (calls3 u)) (d.hears u v (was3 u e));
      };
    }

  -- a rollback, committed
  module _ (r : c.so_far.is_rollback k ≡ true) (i : c.so_far.is_committed k ≡ true) where
    said4 : calls_of_closing (c.so_far.is_rollback k) (c.so_far.is_committed k) ≡ on_rollback ∷ []
    said4 = rw (r, i) refl

    calls4 : at_one p (t.calls p ++ calls_of_closing (c.so_far.is_rollback k) (c.so_far.is_committed k)) t.calls ≡ at_one p (t.calls p ++ on_rollback ∷ []) t.calls
    calls4 = ap (λ (l : List Call). at_one p (t.calls p ++ l) t.calls) said4

    part_other4 : (u : ℕ) → u ≢ p → part_of (labelling_after c.so_far t (Closed p k)) (late_closing_rollback c p k true) u (c.so_far.open_in u) ≡ part_of t c u (c.so_far.open_in u)
    part_other4 u n = same_part refl refl (λ v. refl) refl refl (λ v. refl)
        (λ v. ap (λ (b : Bool). if c.so_far.is_rollback (c.so_far.open_in u) then 0 else length (messages_where (λ m. not (is_newer c u m)) (if b then [] else c.kept v u))) (is_other u p n))

    procs4 : (λ u. process_seen (labelling_after c.so_far t (Closed p k)) (late_closing_rollback c p k true) u) ≡ at_one p (record (process_seen t c p) { calls = t.calls p ++ on_rollback ∷ []; inst = 0; part = no_part; up = true }) (λ u. process_seen t c u)
    procs4 = states_at p (record (process_seen t c p) { calls = t.calls p ++ on_rollback ∷ []; inst = 0; part = no_part; up = true }) (λ u. process_seen (labelling_after c.so_far t (Closed p k)) (late_closing_rollback c p k true) u) (λ u. process_seen t c u)
        (state_more (ap (λ (f : ℕ → List Call). f p) calls4 ∙ at_one_here p _ t.calls) refl open_here (ap (λ (x : ℕ). if x == 0 then no_part else part_of (labelling_after c.so_far t (Closed p k)) (late_closing_rollback c p k true) p x) open_here) (at_one_here p (c.up p || true) c.up ∙ or_true (c.up p)))
        (λ u n. state_more (at_one_other p u _ t.calls n) refl (open_other u n) (ap (λ (x : ℕ). if x == 0 then no_part else part_of (labelling_after c.so_far t (Closed p k)) (late_closing_rollback c p k true) u x) (open_other u n) ∙ ap (λ (y : SeenPart). if c.so_far.open_in u == 0 then no_part else y) (part_other4 u n)) (at_one_other p u (c.up p || true) c.up n))

    -- what is within a label by numbers is so by labels
    kept_low : (q : ℕ) (b : Bool) → c.noted k p q ≡ b → (l : List Parcel) → AreMessagesOf t.label c.so_far.from q l → seen_parcels t.label t.body c.so_far.is_rollback (messages_where (λ m. not (b && nat_lt (c.noted_label k p q) m)) l) ≡ changes.low (label_noted t.label b (c.noted_label k p q)) (seen_parcels t.label t.body c.so_far.is_rollback l)
    kept_low q false n l a = ap (seen_parcels t.label t.body c.so_far.is_rollback) (where_all t.label c.so_far.from q (λ m. not (false && nat_lt (c.noted_label k p q) m)) l (λ m. refl) a)
    kept_low q true n l a = low_where t.label c.so_far.from t.body c.so_far.is_rollback q (t.label (c.noted_label k p q)) (λ m. not (true && nat_lt (c.noted_label k p q) m)) l
        (λ m x y. turned (c.noted_label k p q) m ∙ sym (same_le t.label t.used c.so_far.from c.so_far.rows d.numbers q m (c.noted_label k p q) (of_one t.label c.so_far.from q m x y) (d.noting.noted_of k p q n r))) a
      where
        turned : (x m : ℕ) → not (nat_lt x m) ≡ nat_le m x
        turned x m = grind (arith, nat_tests)

    noted_is : (q : ℕ) → (process_seen t c p).part.noted q ≡ label_noted t.label (c.noted k p q) (c.noted_label k p q)
    noted_is q = ap (λ (x : SeenPart). x.noted q) (part_in t c p k pos o) ∙ ap (λ (b : Bool). label_noted t.label (b && c.noted k p q) (c.noted_label k p q)) r

    one_low : (q : ℕ) (l : List Parcel) → AreMessagesOf t.label c.so_far.from q l → seen_parcels t.label t.body c.so_far.is_rollback (messages_where (is_within_label c k p q) l) ≡ changes.low ((process_seen t c p).part.noted q) (seen_parcels t.label t.body c.so_far.is_rollback l)
    one_low q l a = kept_low q (c.noted k p q) refl l a ∙ ap (λ (x : Option ℕ). changes.low x (seen_parcels t.label t.body c.so_far.is_rollback l)) (sym (noted_is q))

    both_low : (q : ℕ) → seen_parcels t.label t.body c.so_far.is_rollback (messages_where (is_within_label c k p q) (c.kept q p) ++ messages_where (is_within_label c k p q) (c.held q p)) ≡ changes.low ((process_seen t c p).part.noted q) (seen_parcels t.label t.body c.so_far.is_rollback (c.kept q p)) ++ changes.low ((process_seen t c p).part.noted q) (seen_parcels t.label t.body c.so_far.is_rollback (c.held q p))
    both_low q = parcels_append t.label t.body c.so_far.is_rollback (messages_where (is_within_label c k p q) (c.kept q p)) (messages_where (is_within_label c k p q) (c.held q p)) ∙ ap₂ (λ (x y : List SeenParcel). x ++ y) (one_low q (c.kept q p) (d.flows.kept_own q p)) (one_low q (c.held q p) (d.flows.held_own q p))

    held4 : (q u : ℕ) → seen_parcels t.label t.body c.so_far.is_rollback (if u == p then messages_where (is_within_label c k u q) (c.kept q u) ++ messages_where (is_within_label c k u q) (c.held q u) else c.held q u) ≡ (if u == p then changes.low ((process_seen t c p).part.noted q) (seen_parcels t.label t.body c.so_far.is_rollback (c.kept q u)) ++ changes.low ((process_seen t c p).part.noted q) (seen_parcels t.label t.body c.so_far.is_rollback (c.held q u)) else seen_parcels t.label t.body c.so_far.is_rollback (c.held q u))
    held4 q u = go (u == p) refl
      where
        go : (b : Bool) → (u == p) ≡ b → seen_parcels t.label t.body c.so_far.is_rollback (if b then messages_where (is_within_label c k u q) (c.kept q u) ++ messages_where (is_within_label c k u q) (c.held q u) else c.held q u) ≡ (if b then changes.low ((process_seen t c p).part.noted q) (seen_parcels t.label t.body c.so_far.is_rollback (c.kept q u)) ++ changes.low ((process_seen t c p).part.noted q) (seen_parcels t.label t.body c.so_far.is_rollback (c.held q u)) else seen_parcels t.label t.body c.so_far.is_rollback (c.held q u))
        go true e = subst (λ (x : ℕ). seen_parcels t.label t.body c.so_far.is_rollback (messages_where (is_within_label c k x q) (c.kept q x) ++ messages_where (is_within_label c k x q) (c.held q x)) ≡ changes.low ((process_seen t c p).part.noted q) (seen_parcels t.label t.body c.so_far.is_rollback (c.kept q x)) ++ changes.low ((process_seen t c p).part.noted q) (seen_parcels t.label t.body c.so_far.is_rollback (c.held q x))) (sym (same u p e)) (both_low q)
        go false e = refl

    kept4 : (q u : ℕ) → seen_parcels t.label t.body c.so_far.is_rollback (if u == p then [] else c.kept q u) ≡ (if u == p then [] else seen_parcels t.label t.body c.so_far.is_rollback (c.kept q u))
    kept4 q u = go (u == p)
      where
        go : (b : Bool) → seen_parcels t.label t.body c.so_far.is_rollback (if b then [] else c.kept q u) ≡ (if b then [] else seen_parcels t.label t.body c.so_far.is_rollback (c.kept q u))
        go true = parcels_nil t.label t.body c.so_far.is_rollback
        go false = refl

    zero_label : 0 ≡ t.label 0
    zero_label = sym d.numbers.zero_is

    tables4 : (u : ℕ) → Table (at_one p (t.calls p ++ on_rollback ∷ []) t.calls u) (parts (at_one p (t.calls p ++ on_rollback ∷ []) t.calls u)) (not (at_one p 0 c.so_far.open_in u == 0) && not (c.so_far.is_rollback (at_one p 0 c.so_far.open_in u))) (λ v. t.label (if u == p then 0 else c.first_sent u v)) (λ v. t.label (if u == p then 0 else c.last_received u v)) (λ v. t.label (c.first_sent_aside u v)) (λ v. t.label (c.last_received_aside u v)) (λ v. t.label (c.latest_sent u v)) (λ v. t.label (c.last_sent u v))
    tables4 = by_place (on_rollback ∷ []) (λ u l. Table l (parts l) (not (at_one p 0 c.so_far.open_in u == 0) && not (c.so_far.is_rollback (at_one p 0 c.so_far.open_in u))) (λ v. t.label (if u == p then 0 else c.first_sent u v)) (λ v. t.label (if u == p then 0 else c.last_received u v)) (λ v. t.label (c.first_sent_aside u v)) (λ v. t.label (c.last_received_aside u v)) (λ v. t.label (c.latest_sent u v)) (λ v. t.label (c.last_sent u v)))
        (subst (λ (b : Bool). Table (t.calls p ++ on_rollback ∷ []) (parts (t.calls p ++ on_rollback ∷ [])) b (λ v. t.label (if p == p then 0 else c.first_sent p v)) (λ v. t.label (if p == p then 0 else c.last_received p v)) (λ v. t.label (c.first_sent_aside p v)) (λ v. t.label (c.last_received_aside p v)) (λ v. t.label (c.latest_sent p v)) (λ v. t.label (c.last_sent p v))) (sym save_here)
        (table_as (t.calls p ++ on_rollback ∷ []) (parts (t.calls p ++ on_rollback ∷ [])) false (λ v. zero_label ∙ ap t.label (sym (at_row_here 0 (c.first_sent p v)))) (λ v. zero_label ∙ ap t.label (sym (at_row_here 0 (c.last_received p v)))) (λ v. refl) (λ v. refl) (λ v. refl) (λ v. refl)
        (table_rollback (t.calls p) (is_in_checkpoint c.so_far p) (λ v. t.label (c.first_sent p v)) (λ v. t.label (c.last_received p v)) (λ v. t.label (c.first_sent_aside p v)) (λ v. t.label (c.last_received_aside p v)) (λ v. t.label (c.latest_sent p v)) (λ v. t.label (c.last_sent p v)) (d.tables p))))
        (λ u n. subst (λ (b : Bool). Table (t.calls u) (parts (t.calls u)) b (λ v. t.label (if u == p then 0 else c.first_sent u v)) (λ v. t.label (if u == p then 0 else c.last_received u v)) (λ v. t.label (c.first_sent_aside u v)) (λ v. t.label (c.last_received_aside u v)) (λ v. t.label (c.latest_sent u v)) (λ v. t.label (c.last_sent u v))) (sym (save_other u n))
        (table_as (t.calls u) (parts (t.calls u)) (is_in_checkpoint c.so_far u) (λ v. ap t.label (sym (at_row_other u 0 (c.first_sent u v) n))) (λ v. ap t.label (sym (at_row_other u 0 (c.last_received u v) n))) (λ v. refl) (λ v. refl) (λ v. refl) (λ v. refl) (d.tables u)))

    hears4 : (u v : ℕ) → has_to_restore (record c.so_far { open_in = at_one p 0 c.so_far.open_in }) u ≡ false → Heard t.label c.so_far.is_received c.so_far.from c.so_far.to u v (heard (at_one p (t.calls p ++ on_rollback ∷ []) t.calls u) v)
    hears4 u v = by_place (on_rollback ∷ []) (λ u l. has_to_restore (record c.so_far { open_in = at_one p 0 c.so_far.open_in }) u ≡ false → Heard t.label c.so_far.is_received c.so_far.from c.so_far.to u v (heard l v))
        (λ e. (0, heard_rollback (t.calls p) v ∙ zero_label, inl refl))
        (λ u n e. d.hears u v (restoring_other u n e)) u

    pub sees_commit_of_rollback : Sees first (late_closing_rollback c p k true) (seen_closing_rollback (view t c) p k true)
    sees_commit_of_rollback = record {
      labels = labelling_after c.so_far t (Closed p k);
      known = known_row first c.log c.so_far t (Closed p k) known;
      same = same_seen c.processes c.instances (c.log ++ Closed p k ∷ []) procs4 (told true) (λ i q u. held4 q u i) (λ i q u. kept4 q u i);
      tells = record {
        numbers = row_more t.label t.used c.so_far.from c.so_far.rows d.numbers;
        rows = ap (λ (x : ℕ). x + 1) d.rows ∙ sym (length_push c.log (Closed p k));
        named = record {
          first_of = λ u v. row_all (λ u m. Of t.label c.so_far.from u m) p (λ u. 0) (λ u. c.first_sent u v) (inl refl) (λ u n. d.named.first_of u v) u;
          last_of = λ u v. row_all (λ u m. Of t.label c.so_far.from v m) p (λ u. 0) (λ u. c.last_received u v) (inl refl) (λ u n. d.named.last_of u v) u;
          kept_first_of = d.named.kept_first_of;
          kept_last_of = d.named.kept_last_of;
          latest_of = d.named.latest_of;
          last_sent_of = d.named.last_sent_of;
        };
        flows = record {
          channel_names = told_names true;
          held_own = λ q u. row_all (λ u l. AreMessagesOf t.label c.so_far.from q l) p (λ u. messages_where (is_within_label c k u q) (c.kept q u) ++ messages_where (is_within_label c k u q) (c.held q u)) (λ u. c.held q u)
              (own_append t.label c.so_far.from q (messages_where (is_within_label c k p q) (c.kept q p)) (messages_where (is_within_label c k p q) (c.held q p)) (own_where t.label c.so_far.from q (is_within_label c k p q) (c.kept q p) (d.flows.kept_own q p)) (own_where t.label c.so_far.from q (is_within_label c k p q) (c.held q p) (d.flows.held_own q p)))
              (λ u n. d.flows.held_own q u) u;
          kept_own = λ q u. row_all (λ u l. AreMessagesOf t.label c.so_far.from q l) p (λ u. []) (λ u. c.kept q u) (own_nil t.label c.so_far.from q) (λ u n. d.flows.kept_own q u) u;
        };
        noting = d.noting;
        open_low = lows;
        joined_low = d.joined_low;
        asked_near = d.asked_near;
        parent_near = d.parent_near;
        tables = subst (λ (f : ℕ → List Call). (u : ℕ) → Table (f u) (parts (f u)) (not (at_one p 0 c.so_far.open_in u == 0) && not (c.so_far.is_rollback (at_one p 0 c.so_far.open_in u))) (λ v. t.label (if u == p then 0 else c.first_sent u v)) (λ v. t.label (if u == p then 0 else c.last_received u v)) (λ v. t.label (c.first_sent_aside u v)) (λ v. t.label (c.last_received_aside u v)) (λ v. t.label (c.latest_sent u v)) (λ v. t.label (c.last_sent u v))) (sym calls4) tables4;
        speaks = subst (λ (f : ℕ → List Call). (u : ℕ) → Speaks (f u)) (sym calls4) (by_place (on_rollback ∷ []) (λ u l. Speaks l) (speaks_rollback (t.calls p) (d.speaks p)) (λ u n. d.speaks u));
        hears = subst (λ (f : ℕ → List Call). (u v : ℕ) → has_to_restore (record c.so_far { open_in = at_one p 0 c.so_far.open_in }) u ≡ false → Heard t.label c.so_far.is_received c.so_far.from c.so_far.to u v (heard (f u) v)) (sym calls4) hears4;
      };
    }

  -- all four
  at_both : (b e : Bool) {x y : State} {x' y' : Seen} → b ≡ e → (b ≡ true → Sees first x x') → (b ≡ false → Sees first y y') → Sees first (if b then x else y) (if e then x' else y')
  at_both true true h f g = f refl
  at_both false false h f g = g refl
  at_both true false h f g = absurd (cc (h))
  at_both false true h f g = absurd (cc (h))

  pub sees_closing : (w : Bool) → c.so_far.is_committed k ≡ w → KeptLists c → Sees first (late_closing c p k w) (seen_closing (view t c) p k w)
  sees_closing w i lists = at_both (c.so_far.is_rollback k) ((process_seen t c p).part.is_rollback) (sym (ap (λ (x : SeenPart). x.is_rollback) (part_in t c p k pos o))) (λ r. back w i r) (λ r. forth w i r)
    where
      back : (w : Bool) → c.so_far.is_committed k ≡ w → c.so_far.is_rollback k ≡ true → Sees first (late_closing_rollback c p k w) (seen_closing_rollback (view t c) p k w)
      back true i r = sees_commit_of_rollback r i
      back false i r = sees_abort_of_rollback r i

      forth : (w : Bool) → c.so_far.is_committed k ≡ w → c.so_far.is_rollback k ≡ false → Sees first (late_closing_checkpoint c p k w) (seen_closing_checkpoint (view t c) p k w)
      forth true i r = sees_commit_of_checkpoint r i lists
      forth false i r = sees_abort_of_checkpoint r i
