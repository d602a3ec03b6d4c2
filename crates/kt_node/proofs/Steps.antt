-- Each step of a net is that of what is seen of the state.
use Rattle.std.proofs.Common.{◌≡◌, ◌≢◌, ◌∙◌, ℕ, zero, suc, ◌≤◌, ◌<◌, Bool, true, false, not, List, [], ◌∷◌, refl, sym, ap, subst, arith}
use Rattle.std.specs.Prelude.{◌==◌, ◌&&◌, if◌then◌else◌}
use Rattle.std.proofs.lemmas.Bool.Decides.{nat_tests}
use Rattle.kt_fifo.specs.declared.parcels.Parcel.{Parcel as SeenParcel}
use Rattle.kt_meaning.specs.Past.{at_one}
use Rattle.kt_protocol.proofs.Answering.{reply_facts}
use Rattle.kt_protocol.proofs.Beginning.{decide_facts}
use Rattle.kt_protocol.proofs.LateWholeSteps.{once_closed_run}
use Rattle.kt_protocol.proofs.Replying.{ask_facts}
use Rattle.kt_protocol.proofs.Updates.{is_other}
use Rattle.kt_protocol.proofs.WholeSteps.{all_after_run}
use Rattle.kt_protocol.specs.Parcels.{Parcel, App, Ask, Reply, Decide}
use Rattle.kt_protocol.specs.States.{ProtocolStep, Send, Begin, Fail, Take, State, opening}
use Rattle.kt_protocol.specs.LateSteps.{late_run}
use Rattle.kt_protocol.specs.Deciding.{none_of}
use Rattle.kt_protocol.specs.OnceClosed.{once_closed}
use Rattle.kt_machine.specs.Labelling.{Labelling, labelling}
use Rattle.kt_machine.specs.Messages.{AreSentTo}
use Rattle.kt_machine.specs.Seen.{Seen, no_part, part_of, seen_parcels, seen}
use Rattle.kt_machine.specs.ListChanges as changes
use Rattle.kt_machine.specs.SeenMessages.{seen_without_front}
use Rattle.kt_machine.specs.Transition.{is_seen_ready, seen_front, seen_take, transition}
use Rattle.kt_machine.proofs.LogFacts.{used_is}
use Rattle.kt_machine.proofs.RunFacts.{channel_sent, held_to}
use Rattle.kt_machine.proofs.Runs.{known_run, tells_runs}
use Rattle.kt_machine.proofs.SameSeen.{count_none}
use Rattle.kt_spacetime.specs.declared.names.InstName.{InstName}
use Rattle.kt_manager.specs.declared.parcels.NodeParcel.{NodeParcel}
use Rattle.kt_manager.specs.Nodes.{NodeState, nothing}
use Rattle.kt_manager.specs.NodeMessages.{taking_held}
use Rattle.kt_node.specs.NodeSteps.{asking, heeds}
use Rattle.kt_manager.specs.NodeSteps.{is_in}
use Rattle.kt_node.specs.Nets.{Net, with_doing, with_rest, has_some, net_front, net_step}
use Rattle.kt_node.specs.Erasing.{erased_parcels}
use Rattle.kt_node.proofs.Naming.{IsNaming}
use Rattle.kt_node.proofs.Initiators.{named_by}
use Rattle.kt_node.proofs.Told.{given}
use Rattle.kt_node.proofs.Done.{node_of, Shows, IsDone, shows_done, done_nothing, done_heard}
use Rattle.kt_node.proofs.Columns.{rest_for, rest_other, rest_of_channel}
use Rattle.kt_node.proofs.MessageRules.{done_lists, done_arriving}
use Rattle.kt_node.proofs.Commands.{ends_begin, ends_send, ends_fail}
use Rattle.kt_node.proofs.Owing.{Follows}
use Rattle.kt_node.proofs.Owed.{IsDue}
use Rattle.kt_node.proofs.Takings.{MayHeed, in_test, heed_test, done_ask, done_decision, done_reply, done_message, ready_test}

module _ (n first : ℕ) (steps : List ProtocolStep) (name : ℕ → InstName) (count : ℕ → ℕ) (w : Net) (s : Shows name first count w (seen first (late_run (opening n) steps))) (due : IsDue (late_run (opening n) steps) w) where
  abbrev c : State
  c = late_run (opening n) steps

  abbrev t : Labelling
  t = labelling first (late_run (opening n) steps).log

  abbrev v : Seen
  v = seen first (late_run (opening n) steps)

  -- by code, and by names
  abbrev parcels : List Parcel → List SeenParcel
  parcels x = seen_parcels t.label t.body (late_run (opening n) steps).so_far.is_rollback x

  low : (p : ℕ) → c.so_far.open_in p ≤ c.instances
  low p = (tells_runs n first steps).open_low p

  -- what holds before node p does anything
  begins : (p : ℕ) → IsDone name first w p count (nothing (w.nodes p)) v
  begins p = done_nothing name first w p count (w.nodes p) v (s.nodes p) (λ u o. s.nodes u) s.channels s.told

  takes : (p q : ℕ) (rest : List Parcel) → IsDone name first (with_rest w q p (erased_parcels name (parcels rest))) p count (nothing (w.nodes p)) (seen_without_front v p q (parcels rest))
  takes p q rest = done_nothing name first (with_rest w q p (erased_parcels name (parcels rest))) p count (w.nodes p) (seen_without_front v p q (parcels rest)) (s.nodes p) (λ u o. s.nodes u)
      (rest_of_channel name v.channel w.channel q p (parcels rest) s.channels) s.told

  -- a reply that comes is awaited of who replies, which has not replied yet
  pub reply_due : (p q k : ℕ) (b : Bool) (rest : List Parcel) → c.channel q p ≡ Reply k b ∷ rest → (1 ≤ k) × (((v.states p).inst ≡ k) × (((v.states p).part.asked q ≡ true) × ((w.nodes p).answered q ≡ false)))
  reply_due p q k b rest e =
      let g = (known_run n steps).invariant in
      let f = reply_facts (once_closed c) q p k b rest e g in
      let pos = (g.positions.joined_instance k p f.1).0 in
      let here : c.so_far.open_in p ≡ k = g.positions.member_open k p f.1 f.2 in
      let asked : c.asked k p q ≡ true = subst (λ (z : State). z.awaits k p q ≡ true → z.asked k p q ≡ true) (sym (once_closed_run n steps)) ((all_after_run n steps).always.asked.asked_awaits k p q) f.0 in (
        pos,
        (
          here,
          (
            in_part (c.so_far.open_in p) here pos asked,
            due.replied p q (subst (λ (j : ℕ). (0 < j) × (c.awaits j p q ≡ true)) (sym here) (pos, f.0)),
          ),
        ),
      )
    where
      none : (j : ℕ) → (j == 0) ≡ true → 0 < j → ⊥
      none j e b = grind (arith, nat_tests, e, b)

      in_part : (j : ℕ) → j ≡ k → 0 < k → c.asked k p q ≡ true → (if j == 0 then no_part else part_of t c p j).asked q ≡ true
      in_part j i b a = at_test (j == 0) refl
        where
          at_test : (z : Bool) → (j == 0) ≡ z → (if z then no_part else part_of t c p j).asked q ≡ true
          at_test true x = absurd (none j x (subst (λ (n : ℕ). 0 < n) (sym i) b))
          at_test false x = ap (λ (n : ℕ). c.asked n p q) i ∙ a

  -- who is in an instance that is decided did not begin it
  pub begun_by_other : (p q k : ℕ) (b : Bool) (rest : List Parcel) → c.channel q p ≡ Decide k b ∷ rest → c.so_far.open_in p ≡ k → ((name k).initiator == p) ≡ false
  begun_by_other p q k b rest e o =
      let g = (known_run n steps).invariant in
      let f = decide_facts (once_closed c) q p k b rest e g in
      let pos = g.positions.decided_instance k f.0 in
      let told = subst (λ (z : State). 0 < k → z.so_far.open_in p ≡ k → z.so_far.is_decided k ≡ true → p ≢ z.initiator k) (sym (once_closed_run n steps)) (λ l i d. (((all_after_run n steps).waiting k p).told l i d).0) in
      let named : (name k).initiator ≡ c.initiator k = named_by c.log name k (c.initiator k) (s.told.naming.names k pos.0 (subst (λ (m : ℕ). k ≤ m) (sym s.told.begun_is) pos.1)) ((known_run n steps).lawful.first k pos.0 pos.1) in
      ap (λ (m : ℕ). m == p) named ∙ is_other (c.initiator k) p (λ i. told pos.0 o f.0 (sym i))

  -- and awaits nobody
  awaits_none : (p q k : ℕ) (b : Bool) (rest : List Parcel) → c.channel q p ≡ Decide k b ∷ rest → c.so_far.open_in p ≡ k → ((v.states p).part.awaited == 0) ≡ true
  awaits_none p q k b rest e o = here (c.so_far.open_in p) o
    where
      none : (m : ℕ) (f : ℕ → Bool) → ((u : ℕ) → f u ≡ false) → none_of m f ≡ true
      none zero f h = refl
      none (suc m) f h = rw (h m, none m f h) refl

      quiet : (u : ℕ) → c.awaits k p u ≡ false
      quiet u = at_test (c.awaits k p u) refl
        where
          at_test : (z : Bool) → c.awaits k p u ≡ z → c.awaits k p u ≡ false
          at_test false x = x
          at_test true x =
              let g = (known_run n steps).invariant in
              let d = (decide_facts (once_closed c) q p k b rest e g).0 in
              let open_still = (g.asks.awaits_joined k p u x).1 in
              absurd (cc (d, open_still))

      here : (j : ℕ) → j ≡ k → ((if j == 0 then no_part else part_of t c p j).awaited == 0) ≡ true
      here j i = at_test (j == 0)
        where
          at_test : (z : Bool) → ((if z then no_part else part_of t c p j).awaited == 0) ≡ true
          at_test true = refl
          at_test false = count_none c.processes (c.awaits j p) ∙ none c.processes (c.awaits j p) (λ u. ap (λ (m : ℕ). c.awaits m p u) i ∙ quiet u)

  -- and a decision is of what its sender asked last
  pub decision_due : (p q k : ℕ) (b : Bool) (rest : List Parcel) → c.channel q p ≡ Decide k b ∷ rest → MayHeed name p (w.nodes p) v q k
  unfolding seen_parcels
  decision_due p q k b rest e =
      ((subst (Follows ((w.nodes p).asks q)) (s.channels q p ∙ ap (λ (x : List Parcel). erased_parcels name (parcels x)) e) (due.told q p).0).0, λ o. (begun_by_other p q k b rest e o, awaits_none p q k b rest e o))

  -- so who is in its instance heeds it
  pub heeds_each : (p q k : ℕ) (b : Bool) (rest : List Parcel) → c.channel q p ≡ Decide k b ∷ rest → heeds (w.nodes p) q (name k) ≡ is_in (w.nodes p).inst (name k)
  heeds_each p q k b rest e =
      let g = (known_run n steps).invariant in
      let pos = g.positions.decided_instance k (decide_facts (once_closed c) q p k b rest e g).0 in
      heed_test name first w p count (w.nodes p) v (begins p) (low p) q k pos.0 pos.1 (decision_due p q k b rest e) ∙ sym (in_test name first w p count (w.nodes p) v (begins p) (low p) k pos.0 pos.1)

  -- the front of a channel
  shows_front : (p q : ℕ) (able : Bool) (x : List Parcel) → c.channel q p ≡ x → Shows name first count (net_front w p q able (erased_parcels name (parcels x))) (seen_front v p q able (parcels x))
  unfolding seen_parcels
  shows_front p q able [] e = s
  shows_front p q able (App m ∷ rest) e =
      let sent = subst (λ (l : List Parcel). AreSentTo first c.log q p (parcels l)) e (channel_sent n first steps q p) in
      shows_done name first (with_rest w q p (erased_parcels name (parcels rest))) p count _ _
      (done_message name first (with_rest w q p (erased_parcels name (parcels rest))) p count (w.nodes p) (seen_without_front v p q (parcels rest)) (takes p q rest) (low p) q able m (t.label m) p (t.body m) sent.0.0 sent.0.1)
  shows_front p q able (Ask k i ∷ rest) e =
      let f = ask_facts (once_closed c) q p k i rest e (known_run n steps).invariant in
      shows_done name first (with_rest w q p (erased_parcels name (parcels rest))) p count _ _
      (done_ask name first (with_rest w q p (erased_parcels name (parcels rest))) p count (asking (w.nodes p) q (name k)) (seen_without_front v p q (parcels rest))
      (done_heard name first (with_rest w q p (erased_parcels name (parcels rest))) p count (w.nodes p) (seen_without_front v p q (parcels rest)) (asking (w.nodes p) q (name k)).asks (w.nodes p).answered (takes p q rest)) (low p) q able k _ (t.label i) f.3 f.4)
  shows_front p q able (Reply k b ∷ rest) e =
      let f = reply_due p q k b rest e in
      shows_done name first (with_rest w q p (erased_parcels name (parcels rest))) p count _ _
      (done_reply name first (with_rest w q p (erased_parcels name (parcels rest))) p count (w.nodes p) (seen_without_front v p q (parcels rest)) (takes p q rest) (low p) q able k b f.0 f.1.0 f.1.1.0 f.1.1.1)
  shows_front p q able (Decide k b ∷ rest) e =
      let g = (known_run n steps).invariant in
      let f = decide_facts (once_closed c) q p k b rest e g in
      let pos = g.positions.decided_instance k f.0 in
      shows_done name first (with_rest w q p (erased_parcels name (parcels rest))) p count _ _
      (done_decision name first (with_rest w q p (erased_parcels name (parcels rest))) p count (w.nodes p) (seen_without_front v p q (parcels rest)) (takes p q rest) (low p) q able k b pos.0 pos.1 (decision_due p q k b rest e))

  -- what is held
  pub without_held : (p q : ℕ) (rest : List Parcel) → IsDone name first w p count (nothing (record (w.nodes p) { held = at_one q (erased_parcels name (parcels rest)) (w.nodes p).held })) (record v { held = changes.with_rest v.held q p (parcels rest) })
  without_held p q rest = subst (λ (x : NodeState). IsDone name first w p count (nothing (record (w.nodes p) { held = at_one q (erased_parcels name (parcels rest)) x.held })) (record v { held = changes.with_rest v.held q p (parcels rest) })) (sym (s.nodes p))
      (done_lists name first w p count (nothing (w.nodes p)) (nothing (record (w.nodes p) { held = at_one q (erased_parcels name (parcels rest)) (node_of name first count v p (w.nodes p)).held })) v v.channel (changes.with_rest v.held q p (parcels rest)) v.kept v.log (begins p)
      (ap (λ (x : NodeState). record x { held = at_one q (erased_parcels name (parcels rest)) (node_of name first count v p (w.nodes p)).held }) (s.nodes p)
      ∙ (λ i. record (node_of name first count v p (w.nodes p)) { held = λ u. rest_for name v.held q p (parcels rest) u i }))
      (λ u t o. rest_other v.held q p (parcels rest) u t o) (λ u t o. refl) (begins p).puts (λ u t o. refl) (begins p).told)

  -- a take by the lists that it is of
  abbrev taken : ℕ → ℕ → Bool → Bool → List NodeParcel → List NodeParcel → Net
  taken p q able ready held channel =
      if not ready && has_some held then with_doing w p (if ready then nothing (w.nodes p) else taking_held (w.nodes p) q held) else net_front w p q able channel

  shows_held : (p q : ℕ) (able : Bool) (x : List Parcel) → c.held q p ≡ x → is_seen_ready v p ≡ false → Shows name first count (taken p q able false (erased_parcels name (parcels x)) (erased_parcels name (parcels (c.channel q p)))) (seen_take v p q able (parcels x))
  unfolding seen_parcels
  shows_held p q able [] e r = shows_front p q able (c.channel q p) refl
  shows_held p q able (App m ∷ rest) e r =
      let sent = subst (λ (l : List Parcel). AreSentTo first c.log q p (parcels l)) e (held_to n first steps p q r) in
      shows_done name first w p count _ _
      (done_arriving name first w p count (record (w.nodes p) { held = at_one q (erased_parcels name (parcels rest)) (w.nodes p).held }) (record v { held = changes.with_rest v.held q p (parcels rest) }) (without_held p q rest) q m (t.label m) p (t.body m) sent.0.0 sent.0.1)
  shows_held p q able (Ask k i ∷ rest) e r = shows_done name first w p count _ _ (begins p)
  shows_held p q able (Reply k b ∷ rest) e r = shows_done name first w p count _ _ (begins p)
  shows_held p q able (Decide k b ∷ rest) e r = shows_done name first w p count _ _ (begins p)

  shows_take : (p q : ℕ) (able : Bool) → Shows name first count (net_step w (Take p q able)) (transition v (Take p q able))
  shows_take p q able =
      subst (λ (x : Net). Shows name first count x (transition v (Take p q able))) (sym as_seen) (at_ready (is_seen_ready v p) refl)
    where
      as_seen : net_step w (Take p q able) ≡ taken p q able (is_seen_ready v p) (erased_parcels name (parcels (c.held q p))) (erased_parcels name (parcels (c.channel q p)))
      as_seen = λ i. taken p q able (ready_test name first w p count (w.nodes p) v (begins p) (low p) i) ((ap (λ (x : NodeState). x.held q) (s.nodes p)) i) (s.channels q p i)

      at_ready : (r : Bool) → is_seen_ready v p ≡ r → Shows name first count (taken p q able r (erased_parcels name (parcels (c.held q p))) (erased_parcels name (parcels (c.channel q p)))) (if r then seen_front v p q able (v.channel q p) else seen_take v p q able (v.held q p))
      at_ready true e = shows_front p q able (c.channel q p) refl
      at_ready false e = shows_held p q able (c.held q p) refl e

  -- each step
  pub shows_step : (x : ProtocolStep) → IsNaming name (given (transition v x).log) → (counted : ℕ → ℕ) × Shows name first counted (net_step w x) (transition v x)
  shows_step (Send p q body) named = (count, shows_done name first w p count _ _ (ends_send name first w p count (w.nodes p) v (begins p) q body (used_is first c.log p)))
  shows_step (Begin p roll able) named =
      let e = ends_begin name first w p count (w.nodes p) v (begins p) roll able (low p) named in
      (e.0, shows_done name first w p e.0 _ _ e.1)
  shows_step (Fail p) named = (count, shows_done name first w p count _ _ (ends_fail name first w p count (w.nodes p) v (begins p)))
  shows_step (Take p q able) named = (count, shows_take p q able)
