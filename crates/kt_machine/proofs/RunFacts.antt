-- What is said of labels, calls and bodies of each run.
use Rattle.std.proofs.Common.{ap₂, ◌≡◌, ℕ, ℤ, ◌+◌, ◌<◌, Bool, true, false, List, [], ◌∷◌, ◌++◌, refl, arith, sym, ap, subst, ◌∙◌, Some}
use Rattle.std.specs.Prelude.{◌==◌, ◌&&◌, not, nat_lt, if◌then◌else◌}
use Rattle.std.proofs.lemmas.Bool.Decides.{nat_tests}
use Rattle.kt_spacetime.specs.declared.event.Event.{Event}
use Rattle.kt_spacetime.specs.declared.event.Event.TheVariants.{Sent}
use Rattle.kt_meaning.specs.Messages.{row_at}
use Rattle.kt_tables.specs.Calls.{Speaks}
use Rattle.kt_protocol.proofs.Invariant.{one}
use Rattle.kt_protocol.proofs.Weights.{weigh, weigh_cons, one_app}
use Rattle.kt_protocol.specs.Parcels.{Parcel, App, Ask, Reply, Decide}
use Rattle.kt_protocol.specs.States.{State, ProtocolStep, opening, is_ready}
use Rattle.kt_protocol.specs.Summary.{Summary}
use Rattle.kt_protocol.proofs.LateMessages.{no_restore}
use Rattle.kt_protocol.proofs.SameStates.{closed_no_restore}
use Rattle.kt_protocol.specs.LateClosing.{is_within_label}
use Rattle.kt_protocol.specs.LateSteps.{late_run}
use Rattle.kt_protocol.specs.OnceClosed.{once_closed, held_once_closed}
use Rattle.kt_machine.specs.Labelling.{LabelledLog, labelled_log, labelling}
use Rattle.kt_machine.specs.Seen.{Seen, no_part, seen_parcels, part_of, seen}
use Rattle.kt_machine.specs.CallTests as tests
use Rattle.kt_machine.specs.Transition.{is_seen_ready, transition}
use Rattle.kt_machine.specs.Messages.{label_by_rows, AreSentTo, AreMessagesBy}
use Rattle.kt_machine.specs.TableLabels.{HasTableLabels}
use Rattle.kt_machine.proofs.LabelNumbers.{of_one, same_lt}
use Rattle.kt_machine.proofs.Parcels.{NamesMessages, AreMessagesOf}
use Rattle.kt_machine.proofs.SameSeen.{read}
use Rattle.kt_machine.proofs.Joining.{checkpoint_asked_is, rollback_asked_is}
use Rattle.kt_machine.proofs.LabelledRows.{HasLabelledRowsAs, labelled_rows}
use Rattle.kt_machine.proofs.LogFacts.{labels_of_rows}
use Rattle.kt_machine.proofs.Runs.{known_run, tells_runs, sees_runs, seen_next}

-- labels of messages of one sender stand as their numbers do
pub label_order : (n first : ℕ) (steps : List ProtocolStep) (m k p q s : ℕ) (b d : ℤ) → row_at (late_run (opening n) steps).log m ≡ Some (Sent p q b) → row_at (late_run (opening n) steps).log k ≡ Some (Sent p s d) →
    nat_lt ((labelling first (late_run (opening n) steps).log).label m) ((labelling first (late_run (opening n) steps).log).label k) ≡ nat_lt m k
label_order n first steps m k p q s b d e f =
    let x = labels_of_rows first (late_run (opening n) steps).log m p q b e in
    let y = labels_of_rows first (late_run (opening n) steps).log k p s d f in
    let h : (labelled_log first (late_run (opening n) steps).log).so_far ≡ (late_run (opening n) steps).so_far = ap (λ (r : LabelledLog). r.so_far) (sym (sees_runs n first steps).known) in
    let t = tells_runs n first steps in
    same_lt (labelling first (late_run (opening n) steps).log).label (labelling first (late_run (opening n) steps).log).used (late_run (opening n) steps).so_far.from (late_run (opening n) steps).so_far.rows t.numbers p m k
    (of_one (labelling first (late_run (opening n) steps).log).label (late_run (opening n) steps).so_far.from p m x.0 (subst (λ (z : Summary). z.from m ≡ p) h x.3)) (of_one (labelling first (late_run (opening n) steps).log).label (late_run (opening n) steps).so_far.from p k y.0 (subst (λ (z : Summary). z.from k ≡ p) h y.3))

pub table_labels : (n first : ℕ) (steps : List ProtocolStep) (p : ℕ) → HasTableLabels (labelling first (late_run (opening n) steps).log).label ((labelling first (late_run (opening n) steps).log).calls p) (late_run (opening n) steps) p
table_labels n first steps p = let t = (tells_runs n first steps).tables p in record {
  is_open = t.is_open;
  first_sent = λ q. sym (t.first_is q);
  last_received = λ q. sym (t.last_is q);
  first_sent_aside = λ o q. sym (t.kept_first_is o q);
  last_received_aside = λ o q. sym (t.kept_last_is o q);
  latest_sent = λ q. sym (t.latest_is q);
  last_sent = λ q. sym (t.last_sent_is q);
}

pub speaks : (n first : ℕ) (steps : List ProtocolStep) (p : ℕ) → Speaks ((labelling first (late_run (opening n) steps).log).calls p)
speaks n first steps p = (tells_runs n first steps).speaks p

-- what stands in the lists
module _ (first : ℕ) (log : List Event) where
  sent_by : (h : LabelledLog) → h ≡ labelled_log first log → (p m : ℕ) → 0 < h.labels.label m → h.so_far.from m ≡ p → (to : ℕ) × (row_at log m ≡ Some (Sent p to (h.labels.body m))) × (h.labels.label m ≡ label_by_rows first log p m)
  sent_by h e p m a f =
      let r : HasLabelledRowsAs first log h.so_far h.labels = subst (λ (x : LabelledLog). HasLabelledRowsAs first log x.so_far x.labels) (sym e) (labelled_rows first log) in
      let x = r.back m a in
      (h.so_far.to m, x.0 ∙ ap (λ (u : ℕ). Some (Sent u (h.so_far.to m) (h.labels.body m))) f, x.1 ∙ ap (λ (u : ℕ). label_by_rows first log u m) f)

  one_there : (m : ℕ) (xs : List Parcel) → 0 < weigh (one_app m) (App m ∷ xs)
  one_there m xs = let a = weigh_cons (one_app m) (App m) xs in grind (arith, nat_tests, a)

  one_further : (m : ℕ) (x : Parcel) (xs : List Parcel) → 0 < weigh (one_app m) xs → 0 < weigh (one_app m) (x ∷ xs)
  one_further m x xs h = let a = weigh_cons (one_app m) x xs in omega (arith, a, h)

  sent_to : (h : LabelledLog) → h ≡ labelled_log first log → (p q m : ℕ) → 0 < h.labels.label m → h.so_far.from m ≡ p → h.so_far.to m ≡ q → (row_at log m ≡ Some (Sent p q (h.labels.body m))) × (h.labels.label m ≡ label_by_rows first log p m)
  sent_to h e p q m a f g =
      let r : HasLabelledRowsAs first log h.so_far h.labels = subst (λ (x : LabelledLog). HasLabelledRowsAs first log x.so_far x.labels) (sym e) (labelled_rows first log) in
      let x = r.back m a in
      (x.0 ∙ ap₂ (λ (u v : ℕ). Some (Sent u v (h.labels.body m))) f g, x.1 ∙ ap (λ (u : ℕ). label_by_rows first log u m) f)

  names_sent : (h : LabelledLog) → h ≡ labelled_log first log → (instances p q : ℕ) (l : List Parcel) → NamesMessages h.labels.label h.so_far.from h.so_far.is_rollback instances p q l → ((m : ℕ) → 0 < weigh (one_app m) l → h.so_far.to m ≡ q) → AreSentTo first log p q (seen_parcels h.labels.label h.labels.body h.so_far.is_rollback l)
  unfolding NamesMessages seen_parcels
  names_sent h e instances p q [] a f = tt
  names_sent h e instances p q (App m ∷ l) a f = (sent_to h e p q m a.0.0 a.0.1 (f m (one_there m l)), names_sent h e instances p q l a.1 (λ n w. f n (one_further n (App m) l w)))
  names_sent h e instances p q (Ask k i ∷ l) a f = (tt, names_sent h e instances p q l a.1 (λ n w. f n (one_further n (Ask k i) l w)))
  names_sent h e instances p q (Reply k b ∷ l) a f = (tt, names_sent h e instances p q l a (λ n w. f n (one_further n (Reply k b) l w)))
  names_sent h e instances p q (Decide k b ∷ l) a f = (tt, names_sent h e instances p q l a (λ n w. f n (one_further n (Decide k b) l w)))

  own_to : (h : LabelledLog) → h ≡ labelled_log first log → (p q : ℕ) (l : List Parcel) → AreMessagesOf h.labels.label h.so_far.from p l → ((m : ℕ) → 0 < weigh (one_app m) l → h.so_far.to m ≡ q) → AreSentTo first log p q (seen_parcels h.labels.label h.labels.body h.so_far.is_rollback l)
  unfolding AreMessagesOf seen_parcels
  own_to h e p q [] a f = tt
  own_to h e p q (App m ∷ l) a f = (sent_to h e p q m a.0.0 a.0.1 (f m (one_there m l)), own_to h e p q l a.1 (λ n w. f n (one_further n (App m) l w)))
  own_to h e p q (Ask k i ∷ l) a f = elim a [ ]
  own_to h e p q (Reply k b ∷ l) a f = elim a [ ]
  own_to h e p q (Decide k b ∷ l) a f = elim a [ ]

  own_sent : (h : LabelledLog) → h ≡ labelled_log first log → (p : ℕ) (l : List Parcel) → AreMessagesOf h.labels.label h.so_far.from p l → AreMessagesBy first log p (seen_parcels h.labels.label h.labels.body h.so_far.is_rollback l)
  unfolding AreMessagesOf seen_parcels
  own_sent h e p [] a = tt
  own_sent h e p (App m ∷ l) a = (sent_by h e p m a.0.0 a.0.1, own_sent h e p l a.1)
  own_sent h e p (Ask k i ∷ l) a = elim a [ ]
  own_sent h e p (Reply k w ∷ l) a = elim a [ ]
  own_sent h e p (Decide k w ∷ l) a = elim a [ ]

module _ (n first : ℕ) (steps : List ProtocolStep) where
  abbrev c : State
  c = late_run (opening n) steps

  -- the state's numbers are its log's
  is_read : read (late_run (opening n) steps).so_far (labelling first (late_run (opening n) steps).log) ≡ labelled_log first (late_run (opening n) steps).log
  is_read = ap (λ (r : LabelledLog). read r.so_far (labelling first (late_run (opening n) steps).log)) (sees_runs n first steps).known

  aimed : (a b t d e : Bool) (f g p q x y : ℕ) → x + y ≡ one (a && not b && not d && f == p && g == q) → 0 < x + y → g ≡ q
  aimed a b t d e f g p q x y w z = grind (arith, nat_tests, w, z)

  pub channel_sent : (p q : ℕ) → AreSentTo first (late_run (opening n) steps).log p q ((seen first (late_run (opening n) steps)).channel p q)
  channel_sent p q = names_sent first c.log (read c.so_far (labelling first c.log)) is_read c.instances p q (c.channel p q) ((tells_runs n first steps).flows.channel_names p q)
      (λ m w. aimed (c.so_far.is_sent m) (c.so_far.is_received m) true (c.so_far.dropped m) true (c.so_far.from m) (c.so_far.to m) p q (weigh (one_app m) (c.channel p q)) (weigh (one_app m) ((once_closed c).held p q)) ((known_run n steps).invariant.messages.flying m p q) (omega (arith, w)))

  -- what a process that isn't ready holds
  ready_is : (p : ℕ) → is_seen_ready (seen first (late_run (opening n) steps)) p ≡ is_ready (late_run (opening n) steps) p
  ready_is p = go ((late_run (opening n) steps).so_far.open_in p == 0)
    where
      go : (b : Bool) → (not b && (if b then no_part else part_of (labelling first (late_run (opening n) steps).log) (late_run (opening n) steps) p ((late_run (opening n) steps).so_far.open_in p)).is_rollback) ≡ (not b && (late_run (opening n) steps).so_far.is_rollback ((late_run (opening n) steps).so_far.open_in p))
      go true = refl
      go false = refl

  pub held_to : (p q : ℕ) → is_seen_ready (seen first (late_run (opening n) steps)) p ≡ false → AreSentTo first (late_run (opening n) steps).log q p ((seen first (late_run (opening n) steps)).held q p)
  held_to p q y = own_to first c.log (read c.so_far (labelling first c.log)) is_read q p (c.held q p) ((tells_runs n first steps).flows.held_own q p)
      (λ m w. aimed (c.so_far.is_sent m) (c.so_far.is_received m) true (c.so_far.dropped m) true (c.so_far.from m) (c.so_far.to m) q p (weigh (one_app m) (c.channel q p)) (weigh (one_app m) ((once_closed c).held q p)) ((known_run n steps).invariant.messages.flying m q p) (more m w))
    where
      same_held : (once_closed c).held q p ≡ c.held q p
      same_held = ap (λ (r : Bool). held_once_closed r (is_within_label c (c.so_far.open_in p) p q) (c.kept q p) (c.held q p)) (no_restore c p (sym (ready_is p) ∙ y))

      more : (m : ℕ) → 0 < weigh (one_app m) (c.held q p) → 0 < weigh (one_app m) (c.channel q p) + weigh (one_app m) ((once_closed c).held q p)
      more m w = let x = ap (weigh (one_app m)) same_held in omega (arith, w, x)

  pub held_sent : (p q : ℕ) → AreMessagesBy first (late_run (opening n) steps).log p ((seen first (late_run (opening n) steps)).held p q)
  held_sent p q = own_sent first c.log (read c.so_far (labelling first c.log)) is_read p (c.held p q) ((tells_runs n first steps).flows.held_own p q)

  pub kept_sent : (p q : ℕ) → AreMessagesBy first (late_run (opening n) steps).log p ((seen first (late_run (opening n) steps)).kept p q)
  kept_sent p q = own_sent first c.log (read c.so_far (labelling first c.log)) is_read p (c.kept p q) ((tells_runs n first steps).flows.kept_own p q)

  -- who would be asked is a process
  positive : (n : ℕ) → nat_lt 0 n ≡ true → 0 < n
  positive n e = grind (arith, nat_tests, e)

  pub near_save : (p q : ℕ) → (late_run (opening n) steps).so_far.open_in p ≡ 0 → tests.is_asked_in_checkpoint ((labelling first (late_run (opening n) steps).log).calls p) q ≡ true → q < (late_run (opening n) steps).processes
  near_save p q o e =
      let g = (known_run n steps).invariant in
      let s : 0 < c.last_received p q = positive (c.last_received p q) (sym (checkpoint_asked_is first c (labelling first c.log) is_read (tells_runs n first steps) p q) ∙ e) in
      let l : (once_closed c).last_received p q ≡ c.last_received p q = ap (λ (b : Bool). if b then 0 else c.last_received p q) (closed_no_restore c.so_far p o) in
      let x = g.tables.last_received_is p q (subst (λ (y : ℕ). 0 < y) (sym l) s) in
      let y = (g.messages.sent_low ((once_closed c).last_received p q) (g.messages.received_low ((once_closed c).last_received p q) x.0).0).3 in
      subst (λ (z : ℕ). z < c.processes) x.1 y

  pub near_roll : (p q : ℕ) → (late_run (opening n) steps).so_far.open_in p ≡ 0 → tests.is_asked_in_rollback ((labelling first (late_run (opening n) steps).log).calls p) q ≡ true → q < (late_run (opening n) steps).processes
  near_roll p q o e =
      let g = (known_run n steps).invariant in
      let s : 0 < c.first_sent p q = positive (c.first_sent p q) (sym (rollback_asked_is first c (labelling first c.log) is_read (tells_runs n first steps) p q) ∙ e) in
      let l : (once_closed c).first_sent p q ≡ c.first_sent p q = ap (λ (b : Bool). if b then 0 else c.first_sent p q) (closed_no_restore c.so_far p o) in
      let x = g.tables.first_sent_is p q (subst (λ (y : ℕ). 0 < y) (sym l) s) in
      let y = (g.messages.sent_low ((once_closed c).first_sent p q) x.0).4 in
      subst (λ (z : ℕ). z < c.processes) x.2 y

-- parts
module _ (n first : ℕ) (steps : List ProtocolStep) where
  pub part_asks : (p q : ℕ) → ((seen first (late_run (opening n) steps)).states p).part.asked q ≡ true → q < (late_run (opening n) steps).processes
  part_asks p q = go ((late_run (opening n) steps).so_far.open_in p == 0)
    where
      go : (b : Bool) → (if b then no_part else part_of (labelling first (late_run (opening n) steps).log) (late_run (opening n) steps) p ((late_run (opening n) steps).so_far.open_in p)).asked q ≡ true → q < (late_run (opening n) steps).processes
      go true e = absurd (cc (e))
      go false e = (tells_runs n first steps).asked_near ((late_run (opening n) steps).so_far.open_in p) p q e

  pub part_answers : (p to : ℕ) → ((seen first (late_run (opening n) steps)).states p).part.parent ≡ Some to → to < (late_run (opening n) steps).processes
  part_answers p to = go ((late_run (opening n) steps).so_far.open_in p == 0) refl
    where
      some : (k : ℕ) → (k == 0) ≡ false → 0 < k
      some k e = grind (arith, nat_tests, e)

      go : (b : Bool) → ((late_run (opening n) steps).so_far.open_in p == 0) ≡ b → (if b then no_part else part_of (labelling first (late_run (opening n) steps).log) (late_run (opening n) steps) p ((late_run (opening n) steps).so_far.open_in p)).parent ≡ Some to → to < (late_run (opening n) steps).processes
      go true o e = absurd (cc (e))
      go false o e = (tells_runs n first steps).parent_near ((late_run (opening n) steps).so_far.open_in p) p to ((known_run n steps).invariant.positions.open_joined ((late_run (opening n) steps).so_far.open_in p) p (some ((late_run (opening n) steps).so_far.open_in p) o) refl) e

  pub part_none : (p : ℕ) → ((seen first (late_run (opening n) steps)).states p).inst ≡ 0 → ((seen first (late_run (opening n) steps)).states p).part ≡ no_part
  part_none p o = rw o refl

  -- one step more
  pub speaks_next : (x : ProtocolStep) (p : ℕ) → Speaks ((transition (seen first (late_run (opening n) steps)) x).states p).calls
  speaks_next x p = subst (λ (v : Seen). Speaks (v.states p).calls) (seen_next n first steps x) (speaks n first (steps ++ x ∷ []) p)
