-- The acts at each step of a net are those by what is seen of the state.
use Rattle.std.proofs.Common.{◌≡◌, ◌∙◌, ℕ, ◌≤◌, Bool, true, false, not, List, [], ◌∷◌, refl, ap}
use Rattle.std.specs.Prelude.{◌&&◌, if◌then◌else◌}
use Rattle.kt_fifo.specs.declared.parcels.Parcel.{Parcel as SeenParcel}
use Rattle.kt_meaning.specs.Past.{at_one}
use Rattle.kt_protocol.proofs.Beginning.{decide_facts}
use Rattle.kt_protocol.proofs.Replying.{ask_facts}
use Rattle.kt_protocol.specs.Parcels.{Parcel, App, Ask, Reply, Decide}
use Rattle.kt_protocol.specs.States.{ProtocolStep, Send, Begin, Fail, Take, State, opening}
use Rattle.kt_protocol.specs.LateSteps.{late_run}
use Rattle.kt_protocol.specs.OnceClosed.{once_closed}
use Rattle.kt_machine.specs.Labelling.{Labelling, labelling}
use Rattle.kt_machine.specs.Seen.{Seen, seen_parcels, seen}
use Rattle.kt_machine.specs.ListChanges as changes
use Rattle.kt_machine.specs.Transition.{is_seen_ready}
use Rattle.kt_machine.proofs.Runs.{known_run, tells_runs}
use Rattle.kt_machine.specs.Values.{Act}
use Rattle.kt_machine.specs.SeenActs.{seen_acts_taking, seen_acts_taking_held, seen_acts}
use Rattle.kt_spacetime.specs.declared.names.InstName.{InstName}
use Rattle.kt_manager.specs.declared.parcels.NodeParcel.{NodeParcel}
use Rattle.kt_manager.specs.Nodes.{NodeState, nothing}
use Rattle.kt_manager.specs.NodeMessages.{taking_held}
use Rattle.kt_node.specs.NodeSteps.{asking}
use Rattle.kt_node.specs.Nets.{Net, has_some, front_acts, net_acts, net_run, opening_net}
use Rattle.kt_node.specs.Erasing.{erased_parcels, name_in}
use Rattle.kt_node.proofs.Done.{Shows, IsDone, done_nothing, done_heard}
use Rattle.kt_node.proofs.Takings.{ready_test}
use Rattle.kt_node.proofs.Acts.{acts_arriving, acts_begin, acts_fail, acts_send, acts_message, acts_ask, acts_reply, acts_decision}
use Rattle.kt_node.proofs.Owed.{IsDue}
use Rattle.kt_node.proofs.Steps.{reply_due, decision_due, without_held}
use Rattle.kt_node.proofs.Runs.{shown, due_run}

module _ (n first : ℕ) (steps : List ProtocolStep) (name : ℕ → InstName) (count : ℕ → ℕ) (w : Net) (s : Shows name first count w (seen first (late_run (opening n) steps))) (due : IsDue (late_run (opening n) steps) w) where
  abbrev c : State
  c = late_run (opening n) steps

  abbrev t : Labelling
  t = labelling first (late_run (opening n) steps).log

  abbrev v : Seen
  v = seen first (late_run (opening n) steps)

  abbrev parcels : List Parcel → List SeenParcel
  parcels x = seen_parcels t.label t.body (late_run (opening n) steps).so_far.is_rollback x

  low : (p : ℕ) → c.so_far.open_in p ≤ c.instances
  low p = (tells_runs n first steps).open_low p

  begins : (p : ℕ) → IsDone name first w p count (nothing (w.nodes p)) v
  begins p = done_nothing name first w p count (w.nodes p) v (s.nodes p) (λ u o. s.nodes u) s.channels s.told

  -- the front of a channel
  front : (p q : ℕ) (able : Bool) (x : List Parcel) → c.channel q p ≡ x → front_acts (w.nodes p) q able (erased_parcels name (parcels x)) ≡ seen_acts_taking v p q able (parcels x)
  unfolding seen_parcels
  front p q able [] e = refl
  front p q able (App m ∷ rest) e = acts_message name first w p count (w.nodes p) v (begins p) (low p) q able (t.label m) (t.body m)
  front p q able (Ask k i ∷ rest) e =
      let f = ask_facts (once_closed c) q p k i rest e (known_run n steps).invariant in
      acts_ask name first w p count (asking (w.nodes p) q (name k)) v (done_heard name first w p count (w.nodes p) v (asking (w.nodes p) q (name k)).asks (w.nodes p).answered (begins p)) (low p) q able k _ (t.label i) f.3
  front p q able (Reply k b ∷ rest) e =
      let f = reply_due n first steps name count w s due p q k b rest e in
      acts_reply name first w p count (w.nodes p) v (begins p) (low p) q able k b f.0 f.1.0 f.1.1.0 f.1.1.1
  front p q able (Decide k b ∷ rest) e =
      let g = (known_run n steps).invariant in
      let f = decide_facts (once_closed c) q p k b rest e g in
      let pos = g.positions.decided_instance k f.0 in
      acts_decision name first w p count (w.nodes p) v (begins p) (low p) q able k b pos.0 pos.1 (decision_due n first steps name count w s due p q k b rest e)

  -- a take by the lists that it is of
  abbrev taken : ℕ → ℕ → Bool → Bool → List NodeParcel → List NodeParcel → List Act
  taken p q able ready held channel =
      if not ready && has_some held then (if ready then nothing (w.nodes p) else taking_held (w.nodes p) q held).acts else front_acts (w.nodes p) q able channel

  of_held : (p q : ℕ) (able : Bool) (x : List Parcel) → taken p q able false (erased_parcels name (parcels x)) (erased_parcels name (parcels (c.channel q p))) ≡ seen_acts_taking_held v p q able (parcels x)
  unfolding seen_parcels
  of_held p q able [] = front p q able (c.channel q p) refl
  of_held p q able (App m ∷ rest) = acts_arriving name first w p count (record (w.nodes p) { held = at_one q (erased_parcels name (parcels rest)) (w.nodes p).held }) (record v { held = changes.with_rest v.held q p (parcels rest) }) (without_held n first steps name count w s due p q rest) (low p) q (t.label m) (t.body m)
  of_held p q able (Ask k i ∷ rest) = refl
  of_held p q able (Reply k b ∷ rest) = refl
  of_held p q able (Decide k b ∷ rest) = refl

  take : (p q : ℕ) (able : Bool) → net_acts w (Take p q able) ≡ seen_acts v (Take p q able)
  take p q able = as_seen ∙ at_ready (is_seen_ready v p)
    where
      as_seen : net_acts w (Take p q able) ≡ taken p q able (is_seen_ready v p) (erased_parcels name (parcels (c.held q p))) (erased_parcels name (parcels (c.channel q p)))
      as_seen = λ i. taken p q able (ready_test name first w p count (w.nodes p) v (begins p) (low p) i) ((ap (λ (x : NodeState). x.held q) (s.nodes p)) i) (s.channels q p i)

      at_ready : (r : Bool) → taken p q able r (erased_parcels name (parcels (c.held q p))) (erased_parcels name (parcels (c.channel q p))) ≡ (if r then seen_acts_taking v p q able (v.channel q p) else seen_acts_taking_held v p q able (v.held q p))
      at_ready true = front p q able (c.channel q p) refl
      at_ready false = of_held p q able (c.held q p)

  pub acts_step : (x : ProtocolStep) → net_acts w x ≡ seen_acts v x
  acts_step (Send p q body) = acts_send name first w p count (w.nodes p) v (begins p) (low p) q body
  acts_step (Begin p roll able) = acts_begin name first w p count (w.nodes p) v (begins p) (low p) roll able
  acts_step (Fail p) = acts_fail name first w p count (w.nodes p) v (begins p) (low p)
  acts_step (Take p q able) = take p q able

pub acts_shown : (n first : ℕ) (steps : List ProtocolStep) (x : ProtocolStep) → net_acts (net_run (opening_net n first) steps) x ≡ seen_acts (seen first (late_run (opening n) steps)) x
acts_shown n first steps x = let s = shown n first steps in acts_step n first steps (name_in (late_run (opening n) steps).log) s.0 (net_run (opening_net n first) steps) s.1 (due_run n first steps) x
