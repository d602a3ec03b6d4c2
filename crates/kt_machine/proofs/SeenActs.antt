-- The acts of a step by what code keeps are those by the state.
use Rattle.std.proofs.Common.{◌≡◌, ℕ, ℤ, ◌+◌, ◌<◌, Bool, true, false, not, Some, None, List, [], ◌∷◌, refl, arith, sym, ap, subst, ◌∙◌}
use Rattle.std.specs.Prelude.{◌==◌, ◌&&◌, nat_lt, if◌then◌else◌, fold}
use Rattle.std.proofs.lemmas.Bool.Decides.{nat_tests}
use Rattle.kt_spacetime.specs.declared.event.Event.{Event}
use Rattle.kt_spacetime.specs.declared.event.Event.TheVariants.{Sent, Received, Dropped, Began, Took, Ready, Unwilling, Decided, Closed, Failed, Refused}
use Rattle.kt_meaning.specs.Past.{at_one, at_pair, is_rollback_kind}
use Rattle.kt_tables.specs.Peers.{count_peers}
use Rattle.kt_protocol.specs.Deciding.{none_of}
use Rattle.kt_protocol.specs.Joining.{after_joining_checkpoint, after_joining_rollback, must_take, must_roll, kind_for}
use Rattle.kt_protocol.specs.Parcels.{Parcel, App, Ask, Reply, Decide, with_rest}
use Rattle.kt_protocol.specs.Replies.{after_noting, after_reply}
use Rattle.kt_protocol.specs.States.{State, ProtocolStep, Send, Begin, Fail, Take, is_ready, opening}
use Rattle.kt_protocol.specs.Summary.{summary_committed}
use Rattle.kt_protocol.proofs.Answering.{reply_facts}
use Rattle.kt_protocol.proofs.Beginning.{decide_facts}
use Rattle.kt_protocol.proofs.Choices.{same}
use Rattle.kt_protocol.proofs.Invariant.{Invariant}
use Rattle.kt_protocol.proofs.Replying.{ask_facts}
use Rattle.kt_protocol.proofs.Updates.{is_same, is_other, at_one_here}
use Rattle.kt_protocol.specs.LateSteps.{late_run}
use Rattle.kt_protocol.specs.OnceClosed.{once_closed}
use Rattle.kt_machine.specs.Labelling.{Labelling, LabelledLog, labelled_after, labelled_start, labelled_log, labelling}
use Rattle.kt_machine.specs.Seen.{SeenPart, no_part, SeenProcess, Seen, seen_parcels, part_of, process_seen, view, seen}
use Rattle.kt_machine.specs.CallTests as tests
use Rattle.kt_machine.specs.SeenReplies.{part_after_reply}
use Rattle.kt_machine.specs.Transition.{is_seen_ready}
use Rattle.kt_machine.proofs.Asking.{must_take_is}
use Rattle.kt_machine.proofs.Joining.{checkpoint_asked_is, rollback_asked_is}
use Rattle.kt_machine.proofs.LabelNumbers.{Of}
use Rattle.kt_machine.proofs.Named.{Tells}
use Rattle.kt_machine.proofs.Parcels.{NamesMessages, front_ask}
use Rattle.kt_machine.proofs.Runs.{known_run, tells_runs, sees_runs, labelling_is}
use Rattle.kt_machine.proofs.SameSeen.{read, count_none, count_same, some_awaited}
use Rattle.kt_machine.proofs.SmallSteps.{part_in, sees_reply}
use Rattle.kt_machine.specs.Done.{Done, done_after, done_start, done}
use Rattle.kt_machine.specs.Values.{Act, Apply, Keep, closing}
use Rattle.kt_machine.specs.Acts.{acts_arriving, acts_settling, acts_asked, acts_taking, acts_taking_held, acts_beginning, acts_starting, acts}
use Rattle.kt_machine.specs.SeenActs.{seen_acts_arriving, seen_acts_ending, seen_acts_settling, seen_acts_asked, seen_acts_replied, seen_acts_decided, seen_acts_taking, seen_acts_taking_held, seen_acts_beginning, seen_acts_starting, seen_acts}

-- bodies by labels' log and by what is done are the same
bodies : (first : ℕ) (log : List Event) → (labelling first log).body ≡ (done log).body
bodies first log = from (labelled_start first) done_start log refl refl
  where
    from : (r : LabelledLog) (d : Done) (log : List Event) → r.so_far.rows ≡ d.past.rows → r.labels.body ≡ d.body → (fold labelled_after r log).labels.body ≡ (fold done_after d log).body
    from r d [] a b = b
    from r d (Sent p q x ∷ log) a b = from (labelled_after r (Sent p q x)) (done_after d (Sent p q x)) log (ap (λ (n : ℕ). n + 1) a) (λ i. at_one (a i + 1) x (b i))
    from r d (Received p q m ∷ log) a b = from (labelled_after r (Received p q m)) (done_after d (Received p q m)) log (ap (λ (n : ℕ). n + 1) a) b
    from r d (Dropped p q m ∷ log) a b = from (labelled_after r (Dropped p q m)) (done_after d (Dropped p q m)) log (ap (λ (n : ℕ). n + 1) a) b
    from r d (Began p k kind ∷ log) a b = from (labelled_after r (Began p k kind)) (done_after d (Began p k kind)) log (ap (λ (n : ℕ). n + 1) a) b
    from r d (Took p k ∷ log) a b = from (labelled_after r (Took p k)) (done_after d (Took p k)) log (ap (λ (n : ℕ). n + 1) a) b
    from r d (Ready p k ∷ log) a b = from (labelled_after r (Ready p k)) (done_after d (Ready p k)) log (ap (λ (n : ℕ). n + 1) a) b
    from r d (Unwilling p k cause ∷ log) a b = from (labelled_after r (Unwilling p k cause)) (done_after d (Unwilling p k cause)) log (ap (λ (n : ℕ). n + 1) a) b
    from r d (Decided p k false ∷ log) a b = from (labelled_after r (Decided p k false)) (done_after d (Decided p k false)) log (ap (λ (n : ℕ). n + 1) a) b
    from r d (Decided p k true ∷ log) a b = from (labelled_after r (Decided p k true)) (done_after d (Decided p k true)) log (rows (r.so_far.is_rollback k) ∙ ap (λ (n : ℕ). n + 1) a) b
      where
        rows : (roll : Bool) → (summary_committed roll r.so_far k).rows ≡ r.so_far.rows + 1
        rows true = refl
        rows false = refl
    from r d (Closed p k ∷ log) a b = from (labelled_after r (Closed p k)) (done_after d (Closed p k)) log (ap (λ (n : ℕ). n + 1) a) b
    from r d (Failed p ∷ log) a b = from (labelled_after r (Failed p)) (done_after d (Failed p)) log (ap (λ (n : ℕ). n + 1) a) b
    from r d (Refused p verb cause ∷ log) a b = from (labelled_after r (Refused p verb cause)) (done_after d (Refused p verb cause)) log (ap (λ (n : ℕ). n + 1) a) b

at_both : (b e : Bool) {x y x' y' : List Act} → b ≡ e → (b ≡ true → x ≡ x') → (b ≡ false → y ≡ y') → (if b then x else y) ≡ (if e then x' else y')
at_both true true h f g = f refl
at_both false false h f g = g refl
at_both true false h f g = absurd (cc (h))
at_both false true h f g = absurd (cc (h))

same_kind : (b : Bool) → is_rollback_kind (Some (kind_for b)) ≡ b
same_kind true = refl
same_kind false = refl

-- a member's part says what it tells once it awaits nobody
settling : (c : State) (t : Labelling) (p k : ℕ) → 0 < k → c.so_far.open_in p ≡ k → acts_settling c p k ≡ seen_acts_settling (process_seen t c p).part
settling c t p k pos o = at_both (none_of c.processes (c.awaits k p)) (count_peers c.processes (c.awaits k p) == 0) (sym (count_none c.processes (c.awaits k p))) (λ _. ending (p == c.initiator k)) (λ _. refl)
    ∙ ap seen_acts_settling (sym (part_in t c p k pos o))
  where
    ending : (b : Bool) → (if b then closing (c.so_far.is_rollback k) (c.all_willing k p) else []) ≡ seen_acts_ending (part_of t c p k) (if b then None else Some (c.parent k p))
    ending true = refl
    ending false = refl

-- who didn't begin an instance tells nothing when it joins
joining : (c : State) (p k : ℕ) → (p == c.initiator k) ≡ false → acts_settling c p k ≡ []
joining c p k n = go (none_of c.processes (c.awaits k p))
  where
    go : (b : Bool) → (if b then (if p == c.initiator k then closing (c.so_far.is_rollback k) (c.all_willing k p) else []) else []) ≡ []
    go true = ap (λ (x : Bool). if x then closing (c.so_far.is_rollback k) (c.all_willing k p) else []) n
    go false = refl

-- who began it commits at once where it asks nobody
first_one : (n k p : ℕ) (roll : Bool) (asks : ℕ → Bool) (awaits : ℕ → ℕ → ℕ → Bool) (initiator : ℕ → ℕ) (rolls : ℕ → Bool) (willing : ℕ → ℕ → Bool) →
    (if none_of n (λ v. if k == k && p == p then asks v else awaits k p v) then (if p == at_one k p initiator k then closing (at_one k roll rolls k) (at_pair k p true willing k p) else []) else [])
    ≡ (if none_of n asks then closing roll true else [])
first_one n k p roll asks awaits initiator rolls willing = rw (is_same k, is_same p) refl

module _ (first : ℕ) (c : State) (t : Labelling) (known : read c.so_far t ≡ labelled_log first c.log) (d : Tells t c) (g : Invariant (once_closed c)) (body : t.body ≡ (done c.log).body) where
  ready_is : (p : ℕ) → is_ready c p ≡ is_seen_ready (view t c) p
  ready_is p = go (c.so_far.open_in p == 0)
    where
      go : (b : Bool) → (not b && c.so_far.is_rollback (c.so_far.open_in p)) ≡ (not b && (if b then no_part else part_of t c p (c.so_far.open_in p)).is_rollback)
      go true = refl
      go false = refl

  arriving : (p q m : ℕ) → acts_arriving c p q m ≡ seen_acts_arriving (view t c) p q (t.body m)
  arriving p q m = ap (λ (f : ℕ → ℤ). if c.up p then Apply q (f m) ∷ [] else []) (sym body)

  -- an ask
  module _ (p q k l : ℕ) (rest : List Parcel) (e : c.channel q p ≡ Ask k l ∷ rest) where
    label_is : c.so_far.is_rollback k ≡ false → Of t.label c.so_far.from p l
    label_is r = subst (λ (b : Bool). Of t.label c.so_far.from (if b then q else p) l) r
        (front_ask t.label c.so_far.from c.so_far.is_rollback c.instances q p k l rest (subst (λ (x : List Parcel). NamesMessages t.label c.so_far.from c.so_far.is_rollback c.instances q p x) e (d.flows.channel_names q p))).2

    -- who is in no instance isn't the initiator of an undecided one
    no_initiator : c.so_far.open_in p ≡ 0 → (p == c.initiator k) ≡ false
    no_initiator o = is_other p (c.initiator k) (λ x. absurd (apart x))
      where
        apart : p ≡ c.initiator k → ⊥
        apart x = let f = ask_facts (once_closed c) q p k l rest e g in
            let y = g.positions.member_open k (c.initiator k) (g.positions.joined_instance k q f.1).2 f.2 in
            let z : c.so_far.open_in p ≡ k = ap c.so_far.open_in x ∙ y in
            let pos = f.3 in omega (arith, o, z, pos)

    stays : (b : Bool) (x : List Act) → x ≡ [] → (if b then x else []) ≡ []
    stays true x e = e
    stays false x e = refl

    asked : (able : Bool) → acts_asked c p q able k l rest ≡ seen_acts_asked (view t c) p q able k (is_rollback_kind (Some (kind_for (c.so_far.is_rollback k)))) (t.label l)
    asked able = at_both (c.so_far.open_in p == k) (c.so_far.open_in p == k) refl (λ _. refl)
        (λ _. at_both (not (c.so_far.open_in p == 0)) (not (c.so_far.open_in p == 0)) refl (λ _. refl)
        (λ o. let z = idle (c.so_far.open_in p) o in
        at_both (c.so_far.is_rollback k) (is_rollback_kind (Some (kind_for (c.so_far.is_rollback k)))) (sym (same_kind (c.so_far.is_rollback k)))
        (λ _. stays (must_roll c p q l) _ (joining (after_joining_rollback (after_noting c p q k l) (with_rest c.channel q p rest) p k false q (c.last_received p q)) p k (no_initiator z)))
        (λ r. at_both (not (must_take c p q l)) (not (tests.must_take (t.calls p) q (t.label l))) (ap not (must_take_is first c t known d p q l (label_is r))) (λ _. refl)
        (λ _. at_both (not (able && c.up p)) (not (able && c.up p)) refl (λ _. refl)
        (λ _. ap (λ (x : List Act). Keep ∷ x) (joining (after_joining_checkpoint c (with_rest c.channel q p rest) p k false q l) p k (no_initiator z)))))))
      where
        idle : (n : ℕ) → not (n == 0) ≡ false → n ≡ 0
        idle n e = grind (arith, nat_tests, e)

  -- a reply
  replied : (p q k : ℕ) (w : Bool) (rest : List Parcel) → c.channel q p ≡ Reply k w ∷ rest → acts_settling (after_reply c p q k w rest) p k ≡ seen_acts_replied (view t c) p w
  replied p q k w rest e =
      let f = reply_facts (once_closed c) q p k w rest e g in
      let pos = (g.positions.joined_instance k p f.1).0 in
      let o = g.positions.member_open k p f.1 f.2 in
      let b = (g.asks.awaits_joined k p q f.0).2 in
      let s = sees_reply first c t known d p q k w rest pos o f.0 b e in
      settling (after_reply c p q k w rest) s.labels p k pos o
      ∙ (ap (λ (v : Seen). seen_acts_settling (v.states p).part) s.same
      ∙ (ap (λ (y : SeenProcess). seen_acts_settling y.part) (at_one_here p (record (process_seen t c p) { part = part_after_reply (process_seen t c p).part w }) (view t c).states)
      ∙ ap (λ (z : Bool). if z then [] else seen_acts_settling (part_after_reply (process_seen t c p).part w))
      (sym (ap (λ (r : SeenPart). r.awaited == 0) (part_in t c p k pos o) ∙ some_awaited c.processes q (c.awaits k p) b f.0))))

  -- a decision
  decided : (p q k : ℕ) (w : Bool) (rest : List Parcel) → c.channel q p ≡ Decide k w ∷ rest → (if c.so_far.open_in p == k then closing (c.so_far.is_rollback k) w else []) ≡ seen_acts_decided (view t c) p k w
  decided p q k w rest e = at_both (c.so_far.open_in p == k) (c.so_far.open_in p == k) refl
      (λ o. let f = decide_facts (once_closed c) q p k w rest e g in
      ap (λ (r : SeenPart). closing r.is_rollback w) (sym (part_in t c p k (g.positions.decided_instance k f.0).0 (same (c.so_far.open_in p) k o))))
      (λ _. refl)

  taking : (p q : ℕ) (able : Bool) (x : List Parcel) → c.channel q p ≡ x → acts_taking c p q able x ≡ seen_acts_taking (view t c) p q able (seen_parcels t.label t.body c.so_far.is_rollback x)
  unfolding seen_parcels
  taking p q able [] e = refl
  taking p q able (App m ∷ rest) e = at_both (is_ready c p) (is_seen_ready (view t c) p) (ready_is p) (λ _. refl) (λ _. arriving p q m)
  taking p q able (Ask k l ∷ rest) e = asked p q k l rest e able
  taking p q able (Reply k w ∷ rest) e = replied p q k w rest e
  taking p q able (Decide k w ∷ rest) e = decided p q k w rest e

  taking_held : (p q : ℕ) (able : Bool) (x : List Parcel) → acts_taking_held c p q able x ≡ seen_acts_taking_held (view t c) p q able (seen_parcels t.label t.body c.so_far.is_rollback x)
  unfolding seen_parcels
  taking_held p q able [] = taking p q able (c.channel q p) refl
  taking_held p q able (App m ∷ rest) = arriving p q m
  taking_held p q able (Ask k l ∷ rest) = refl
  taking_held p q able (Reply k w ∷ rest) = refl
  taking_held p q able (Decide k w ∷ rest) = refl

  -- a command to begin
  asks_none : (asked asks : ℕ → Bool) → ((v : ℕ) → asks v ≡ asked v) → none_of c.processes asked ≡ (count_peers c.processes asks == 0)
  asks_none asked asks e = sym (count_none c.processes asked) ∙ ap (λ (n : ℕ). n == 0) (sym (count_same c.processes asks asked e))

  beginning : (p : ℕ) (roll : Bool) → acts_beginning c p roll ≡ seen_acts_beginning (view t c) p roll
  beginning p false = ap (λ (x : List Act). Keep ∷ x) (first_one c.processes (c.instances + 1) p false (λ v. nat_lt 0 (c.last_received p v)) c.awaits c.initiator c.so_far.is_rollback c.all_willing
      ∙ ap (λ (b : Bool). if b then closing false true else []) (asks_none (λ v. nat_lt 0 (c.last_received p v)) (tests.is_asked_in_checkpoint (t.calls p)) (λ v. checkpoint_asked_is first c t known d p v)))
  beginning p true = first_one c.processes (c.instances + 1) p true (λ v. nat_lt 0 (c.first_sent p v)) c.awaits c.initiator c.so_far.is_rollback c.all_willing
      ∙ ap (λ (b : Bool). if b then closing true true else []) (asks_none (λ v. nat_lt 0 (c.first_sent p v)) (tests.is_asked_in_rollback (t.calls p)) (λ v. rollback_asked_is first c t known d p v))

  starting : (p : ℕ) (roll able : Bool) → acts_starting c p roll able ≡ seen_acts_starting (view t c) p roll able
  starting p true able = beginning p true
  starting p false able = at_both (able && c.up p) (able && c.up p) refl (λ _. beginning p false) (λ _. refl)

  pub same_acts : (x : ProtocolStep) → acts c x ≡ seen_acts (view t c) x
  same_acts (Send p q x) = refl
  same_acts (Begin p roll able) = at_both (c.so_far.open_in p == 0) (c.so_far.open_in p == 0) refl (λ _. starting p roll able) (λ _. refl)
  same_acts (Fail p) = refl
  same_acts (Take p q able) = at_both (is_ready c p) (is_seen_ready (view t c) p) (ready_is p) (λ _. taking p q able (c.channel q p) refl) (λ _. taking_held p q able (c.held q p))

-- of each state of a run
pub acts_seen : (n first : ℕ) (steps : List ProtocolStep) (x : ProtocolStep) → acts (late_run (opening n) steps) x ≡ seen_acts (seen first (late_run (opening n) steps)) x
acts_seen n first steps x = let s = sees_runs n first steps in
    same_acts first (late_run (opening n) steps) (labelling first (late_run (opening n) steps).log)
    (subst (λ (t : Labelling). read (late_run (opening n) steps).so_far t ≡ labelled_log first (late_run (opening n) steps).log) (labelling_is first (late_run (opening n) steps) _ s) s.known)
    (tells_runs n first steps) (known_run n steps).invariant (bodies first (late_run (opening n) steps).log) x
