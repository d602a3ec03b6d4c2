-- What is due in a net is due after each step.
use Rattle.std.proofs.Common.{◌≡◌, ◌∙◌, ℕ, ◌<◌, Bool, true, false, not, Some, None, List, [], ◌∷◌, refl, sym, ap, subst, arith}
use Rattle.std.specs.Prelude.{◌==◌, ◌&&◌, if◌then◌else◌}
use Rattle.std.proofs.lemmas.Bool.Decides.{nat_tests}
use Rattle.kt_fifo.specs.declared.parcels.Parcel.{Parcel as SeenParcel}
use Rattle.kt_protocol.proofs.Answering.{reply_facts}
use Rattle.kt_protocol.proofs.Choices.{at_if}
use Rattle.kt_protocol.specs.Joining.{kind_for}
use Rattle.kt_protocol.specs.Parcels.{Parcel, App, Ask, Reply, Decide}
use Rattle.kt_protocol.specs.States.{ProtocolStep, Send, Begin, Fail, Take, State, opening, is_ready}
use Rattle.kt_protocol.specs.LateSteps.{late_front, late_take, late_step, late_run}
use Rattle.kt_protocol.specs.OnceClosed.{once_closed}
use Rattle.kt_machine.specs.Labelling.{Labelling, labelling}
use Rattle.kt_machine.specs.Seen.{Seen, no_part, part_of, seen_parcels, seen}
use Rattle.kt_machine.proofs.Runs.{known_run, tells_runs}
use Rattle.kt_spacetime.specs.declared.names.InstName.{InstName}
use Rattle.kt_manager.specs.declared.parcels.NodeParcel.{NodeParcel}
use Rattle.kt_manager.specs.declared.parcels.NodeParcel.TheVariants as put
use Rattle.kt_manager.specs.Nodes.{NodeState, nothing, is_in_rollback}
use Rattle.kt_node.specs.Inputs.{Input}
use Rattle.kt_node.specs.Inputs as input
use Rattle.kt_node.specs.Nets.{Net, with_rest, has_some, net_front, net_step}
use Rattle.kt_node.specs.Erasing.{erased_parcels, erased_inst}
use Rattle.kt_node.proofs.Done.{Shows, IsDone, done_nothing}
use Rattle.kt_node.proofs.Takings.{ready_test}
use Rattle.kt_node.proofs.Awaiting.{Awaits, since_step, replied}
use Rattle.kt_node.proofs.Owing.{heard}
use Rattle.kt_node.proofs.Owed.{done_net, told_step, told_own, told_front, HaveReplied, AreOpen, IsReplyOf, still_replied, replied_done, IsDue}

-- a node is in none where its process is
inst_none : (name : ℕ → InstName) (k : ℕ) → k ≡ 0 → erased_inst name k ≡ None
inst_none name k e = ap (erased_inst name) e

inst_some : (name : ℕ → InstName) (k : ℕ) → 0 < k → erased_inst name k ≡ None → ⊥
inst_some name k b e = at_test (k == 0) refl e
  where
    above : (k == 0) ≡ true → ⊥
    above t = grind (arith, nat_tests, b, t)

    at_test : (z : Bool) → (k == 0) ≡ z → (if z then None else Some (name k)) ≡ None → ⊥
    at_test true t e = above t
    at_test false t e = cc (e)

pub open_shown : (name : ℕ → InstName) (first : ℕ) (count : ℕ → ℕ) (w : Net) (c : State) → Shows name first count w (seen first c) → AreOpen c w
open_shown name first count w c s = record {
  shut = λ p e. ap (λ (y : NodeState). y.inst) (s.nodes p) ∙ inst_none name (c.so_far.open_in p) e;
  inside = λ p b e. inst_some name (c.so_far.open_in p) b (sym (ap (λ (y : NodeState). y.inst) (s.nodes p)) ∙ e);
}

module _ (n first : ℕ) (steps : List ProtocolStep) (name : ℕ → InstName) (count : ℕ → ℕ) (w : Net) (s : Shows name first count w (seen first (late_run (opening n) steps))) (due : IsDue (late_run (opening n) steps) w) where
  abbrev c : State
  c = late_run (opening n) steps

  abbrev t : Labelling
  t = labelling first (late_run (opening n) steps).log

  abbrev v : Seen
  v = seen first (late_run (opening n) steps)

  abbrev parcels : List Parcel → List SeenParcel
  parcels x = seen_parcels t.label t.body (late_run (opening n) steps).so_far.is_rollback x

  before : AreOpen c w
  before = open_shown name first count w c s

  begins : (p : ℕ) → IsDone name first w p count (nothing (w.nodes p)) v
  begins p = done_nothing name first w p count (w.nodes p) v (s.nodes p) (λ u o. s.nodes u) s.channels s.told

  ready_same : (p : ℕ) → is_in_rollback (w.nodes p) ≡ is_ready c p
  ready_same p = ready_test name first w p count (w.nodes p) v (begins p) ((tells_runs n first steps).open_low p) ∙ at_zero (c.so_far.open_in p == 0)
    where
      at_zero : (b : Bool) → (not b && (if b then no_part else part_of t c p (c.so_far.open_in p)).is_rollback) ≡ (not b && c.so_far.is_rollback (c.so_far.open_in p))
      at_zero true = refl
      at_zero false = refl

  -- where nothing that is held comes first, the front of the channel is taken
  from_channel : (p q : ℕ) (able : Bool) (held : List Parcel) (b : Bool) → is_ready c p ≡ b → c.held q p ≡ held → (not b && has_some (erased_parcels name (parcels held))) ≡ false → late_step c (Take p q able) ≡ late_front c p q able (c.channel q p)
  unfolding seen_parcels
  from_channel p q able held true e f g = ap (λ (b : Bool). if b then late_front c p q able (c.channel q p) else late_take c p q able (c.held q p)) e
  from_channel p q able [] false e f g = ap (λ (b : Bool). if b then late_front c p q able (c.channel q p) else late_take c p q able (c.held q p)) e ∙ ap (late_take c p q able) f
  from_channel p q able (x ∷ xs) false e f g = absurd (cc (g))

  -- one parcel of q
  comes : (p q : ℕ) (able : Bool) (x : NodeParcel) (rest : List NodeParcel) → w.channel q p ≡ x ∷ rest → AreOpen (late_step c (Take p q able)) (net_front w p q able (x ∷ rest))
      → ((u : ℕ) → IsReplyOf u (input.Comes q able x) → Awaits (late_step c (Take p q able)) p u → ⊥) → HaveReplied (late_step c (Take p q able)) (net_front w p q able (x ∷ rest))
  comes p q able x rest is after fresh =
      replied_done c (late_step c (Take p q able)) w due.replied before (λ u z. since_step u z c (Take p q able)) (with_rest w q p rest).channel p (input.Comes q able x) (told_front w p q able x rest is due.told) after fresh

  -- a reply that was taken is awaited no longer
  gone : (p q : ℕ) (able : Bool) (k : ℕ) (b : Bool) (rest : List Parcel) → c.channel q p ≡ Reply k b ∷ rest → late_step c (Take p q able) ≡ late_front c p q able (c.channel q p)
      → (u : ℕ) → IsReplyOf u (input.Comes q able (put.Reply (name k) b)) → Awaits (late_step c (Take p q able)) p u → ⊥
  gone p q able k b rest e f u r a =
      let g = (known_run n steps).invariant in
      let h = reply_facts (once_closed c) q p k b rest e g in
      let is = r.1.1.1 in
      let same : u ≡ q = cc (is) in
      replied p q c k b rest (g.positions.member_open k p h.1 h.2)
      (subst (λ (z : State). Awaits z p q) (f ∙ ap (late_front c p q able) e) (subst (λ (z : ℕ). Awaits (late_step c (Take p q able)) p z) same a))

  -- the front of a channel
  front : (p q : ℕ) (able : Bool) (xs : List Parcel) → c.channel q p ≡ xs → late_step c (Take p q able) ≡ late_front c p q able (c.channel q p)
      → AreOpen (late_step c (Take p q able)) (net_front w p q able (erased_parcels name (parcels xs))) → HaveReplied (late_step c (Take p q able)) (net_front w p q able (erased_parcels name (parcels xs)))
  unfolding seen_parcels
  front p q able [] e f after = still_replied c (late_step c (Take p q able)) w due.replied before (λ u z. since_step u z c (Take p q able)) after
  front p q able (App m ∷ rest) e f after = comes p q able (put.App (t.label m) (t.body m)) (erased_parcels name (parcels rest)) (s.channels q p ∙ ap (λ (l : List Parcel). erased_parcels name (parcels l)) e) after (λ u r a. let other = r.1.1.1 in cc (other))
  front p q able (Ask k l ∷ rest) e f after = comes p q able (put.Ask (name k) (kind_for (c.so_far.is_rollback k)) (t.label l)) (erased_parcels name (parcels rest)) (s.channels q p ∙ ap (λ (l : List Parcel). erased_parcels name (parcels l)) e) after (λ u r a. let other = r.1.1.1 in cc (other))
  front p q able (Reply k b ∷ rest) e f after = comes p q able (put.Reply (name k) b) (erased_parcels name (parcels rest)) (s.channels q p ∙ ap (λ (l : List Parcel). erased_parcels name (parcels l)) e) after (gone p q able k b rest e f)
  front p q able (Decide k b ∷ rest) e f after = comes p q able (put.Decide (name k) b) (erased_parcels name (parcels rest)) (s.channels q p ∙ ap (λ (l : List Parcel). erased_parcels name (parcels l)) e) after (λ u r a. let other = r.1.1.1 in cc (other))

  -- a command, or what is held
  own : (x : ProtocolStep) (p : ℕ) (i : Input) → heard (w.nodes p) i ≡ w.nodes p → ((u : ℕ) → IsReplyOf u i → ⊥) → AreOpen (late_step c x) (done_net w w.channel p i) → HaveReplied (late_step c x) (done_net w w.channel p i)
  own x p i e none after = replied_done c (late_step c x) w due.replied before (λ u z. since_step u z c x) w.channel p i (told_own w p i e due.told) after (λ u r a. none u r)

  replies : (x : ProtocolStep) → AreOpen (late_step c x) (net_step w x) → HaveReplied (late_step c x) (net_step w x)
  replies (Send p q body) after = own (Send p q body) p (input.Send q body) refl (λ u r. let other = r.1.1.1 in cc (other)) after
  replies (Begin p roll able) after = own (Begin p roll able) p (input.Begin roll able) refl (λ u r. let other = r.1.1.1 in cc (other)) after
  replies (Fail p) after = own (Fail p) p input.Fail refl (λ u r. let other = r.1.1.1 in cc (other)) after
  replies (Take p q able) after = at_if (λ (z : Net). AreOpen (late_step c (Take p q able)) z → HaveReplied (late_step c (Take p q able)) z) (not (is_in_rollback (w.nodes p)) && has_some ((w.nodes p).held q)) _ _
      (λ e. own (Take p q able) p (input.Held q) refl (λ u r. let other = r.1.1.1 in cc (other)))
      (λ e. subst (λ (l : List NodeParcel). AreOpen (late_step c (Take p q able)) (net_front w p q able l) → HaveReplied (late_step c (Take p q able)) (net_front w p q able l)) (sym (s.channels q p))
      (front p q able (c.channel q p) refl (from_channel p q able (c.held q p) (is_ready c p) refl refl
      (subst (λ (b : Bool). (not b && has_some (erased_parcels name (parcels (c.held q p)))) ≡ false) (ready_same p)
      (subst (λ (l : List NodeParcel). (not (is_in_rollback (w.nodes p)) && has_some l) ≡ false) (ap (λ (y : NodeState). y.held q) (s.nodes p)) e)))))
      after

  pub due_next : (x : ProtocolStep) → AreOpen (late_step c x) (net_step w x) → IsDue (late_step c x) (net_step w x)
  due_next x after = record { told = told_step w x due.told; replied = replies x after }
