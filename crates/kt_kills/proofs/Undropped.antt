-- Where no object is told to have failed, nothing is dropped.
use Rattle.std.proofs.Common.{◌≡◌, ◌∙◌, ℕ, ℤ, Bool, true, false, not, Option, Some, None, List, [], ◌∷◌, ◌++◌, map, refl, sym, ap₂, subst}
use Rattle.std.specs.Prelude.{◌==◌, ◌&&◌, ◌||◌, if◌then◌else◌}
use Rattle.std.specs.List.{list_any}
use Rattle.std.proofs.lemmas.List.Folds.{list_any-append}
use Rattle.kt_meaning.specs.Past.{at_one, is_rollback_kind}
use Rattle.kt_machine.specs.CallTests.{must_take, must_roll}
use Rattle.kt_machine.specs.SeenJoining.{no_note}
use Rattle.kt_protocol.specs.States.{ProtocolStep}
use Rattle.kt_protocol.specs.States as protocol
use Rattle.kt_spacetime.specs.declared.names.InstName.{InstName}
use Rattle.kt_spacetime.specs.declared.named_rows.NamedEvent.{NamedEvent}
use Rattle.kt_spacetime.specs.declared.named_rows.NamedEvent.TheVariants.{Dropped, Decided, Closed}
use Rattle.kt_spacetime.specs.declared.named_rows.NamedCause.TheVariants.{Down, Busy}
use Rattle.kt_spacetime.specs.declared.named_rows.ClockedRow.{ClockedRow}
use Rattle.kt_base.specs.declared.words.Verb.TheVariants as verb
use Rattle.kt_manager.specs.declared.parcels.NodeParcel.{NodeParcel}
use Rattle.kt_manager.specs.declared.parcels.NodeParcel.TheVariants.{App, Ask, Reply, Decide}
use Rattle.kt_manager.specs.Nodes.{NodeState, Doing, nothing, is_in_rollback}
use Rattle.kt_node.specs.Inputs.{Input, Send, Begin, Fail, Held, Comes}
use Rattle.kt_manager.specs.NodeMessages.{sending, receiving, arriving, holding, taking_held, refusing, unable}
use Rattle.kt_manager.specs.NodeJoining.{beginning, joining_checkpoint, joining_rollback, replying, unwilling, noting}
use Rattle.kt_node.specs.NodeSteps.{next_name, asking, awaits, heeds, taking, is_step, node_after}
use Rattle.kt_manager.specs.NodeClosing.{after_checkpoint, after_rollback, closing, ending, settling}
use Rattle.kt_manager.specs.NodeSteps.{is_one, starting, told_to_begin, asked, counting}
use Rattle.kt_node.specs.Nets.{has_some}
use Rattle.kt_node.specs.Clocks.{Envelope, clocked_row, clock_after, input_at, front_input}
use Rattle.kt_kills.specs.Writing.{is_protocol}
use Rattle.kt_kills.specs.KilledNets.{Holdings, KilledNet, KillEvent, Does, Brought, Writes, Killed, Back, having_done, having, written, stepping, brought, sending_one, sending_again, coming_back, happens, killed_run, opening_killed}
use Rattle.kt_kills.specs.Standing.{killed_after, is_dropped, NoneFails}
use Rattle.kt_kills.proofs.Basics.{is_same, at_each}
use Rattle.kt_kills.proofs.Law.{some_is}
use Rattle.kt_kills.proofs.PlainSteps.{either}

-- up, with nothing dropped so far
abbrev pub IsUp : Doing → Type 0
IsUp d = (d.state.up ≡ true) × (list_any is_dropped d.rows ≡ false)

more_rows : (rows more : List NamedEvent) → list_any is_dropped rows ≡ false → list_any is_dropped more ≡ false → list_any is_dropped (rows ++ more) ≡ false
more_rows rows more a b = list_any-append is_dropped rows more ∙ ap₂ (λ (x y : Bool). x || y) a b

closed : (k : InstName) (c : Bool) (d : Doing) → IsUp d → IsUp (closing k c d)
closed k c d h = (either (λ (y : NodeState). y.up ≡ true) d.state.part.is_rollback (after_rollback c d.state) (after_checkpoint c d.state) (rolled c) h.0, more_rows d.rows (Closed k ∷ []) h.1 refl)
  where
    rolled : (b : Bool) → (after_rollback b d.state).up ≡ true
    rolled true = refl
    rolled false = h.0

ends : (k : InstName) (o : Option ℕ) (d : Doing) → IsUp d → IsUp (ending k o d)
ends k (Some to) d h = h
ends k None d h = closed k d.state.part.willing (record d { rows = d.rows ++ Decided k d.state.part.willing ∷ [] }) (h.0, more_rows d.rows (Decided k d.state.part.willing ∷ []) h.1 refl)

settles : (k : InstName) (d : Doing) → IsUp d → IsUp (settling k d)
settles k d h = either IsUp (d.state.part.awaited == 0) (ending k d.state.part.parent d) d (ends k d.state.part.parent d h) h

module _ (y : NodeState) (up : y.up ≡ true) where
  still : IsUp (nothing y)
  still = (up, refl)

  arrives : (q label : ℕ) (body : ℤ) → IsUp (arriving y q label body)
  arrives q label body = subst (λ (b : Bool). IsUp (if b then receiving y q label body else record (nothing y) { rows = Dropped q label ∷ [] })) (sym up) (up, refl)

  begins : (o : Option InstName) (roll able : Bool) → IsUp (told_to_begin (next_name y) o y roll able)
  begins (Some name) roll able = (up, refl)
  begins None true able = settles (next_name y) (joining_rollback (next_name y) None no_note (beginning (next_name y) y true)) (up, refl)
  begins None false able = either IsUp (able && y.up) (starting (next_name y) y false) (refusing y verb.Checkpoint (unable y.up)) (settles (next_name y) (joining_checkpoint (next_name y) None (beginning (next_name y) y false)) (up, refl)) (up, refl)

  hears : (q : ℕ) (o : Option InstName) (able : Bool) (k : InstName) (roll : Bool) (label : ℕ) → IsUp (asked o y q able k roll label)
  hears q (Some name) able k roll label = either IsUp (is_one name k) (replying (noting y roll q label) q k true) (unwilling y q k (Busy name)) (noted roll) (up, refl)
    where
      noted : (r : Bool) → IsUp (replying (noting y r q label) q k true)
      noted true = (up, refl)
      noted false = (up, refl)
  hears q None able k true label = either IsUp (must_roll y.calls q label) (settling k (joining_rollback k (Some q) (at_one q (Some label) no_note) (nothing y))) (replying y q k true)
      (settles k (joining_rollback k (Some q) (at_one q (Some label) no_note) (nothing y)) (up, refl)) (up, refl)
  hears q None able k false label = go (not (must_take y.calls q label)) (not (able && y.up))
    where
      go : (a b : Bool) → IsUp (if a then replying y q k true else if b then unwilling y q k (unable y.up) else settling k (joining_checkpoint k (Some q) (nothing y)))
      go true b = (up, refl)
      go false true = (up, refl)
      go false false = settles k (joining_checkpoint k (Some q) (nothing y)) (up, refl)

module _ (y : NodeState) (up : y.up ≡ true) where
  takes_held : (q : ℕ) (l : List NodeParcel) → IsUp (taking_held y q l)
  takes_held q [] = (up, refl)
  takes_held q (App label body ∷ rest) = arrives (record y { held = at_one q rest y.held }) up q label body
  takes_held q (Ask k kind label ∷ rest) = (up, refl)
  takes_held q (Reply k w ∷ rest) = (up, refl)
  takes_held q (Decide k c ∷ rest) = (up, refl)

  takes : (q : ℕ) (able : Bool) (x : NodeParcel) → IsUp (taking y q able x)
  takes q able (App label body) = either IsUp (is_in_rollback y) (holding y q (App label body)) (arriving y q label body) (up, refl) (arrives y up q label body)
  takes q able (Ask k kind label) = hears (asking y q k) up q y.inst able k (is_rollback_kind (Some kind)) label
  takes q able (Reply k w) = either IsUp (awaits y q k) (settling k (nothing (counting y q w))) (nothing y) (settles k (nothing (counting y q w)) (up, refl)) (up, refl)
  takes q able (Decide k c) = either IsUp (heeds y q k) (closing k c (nothing y)) (nothing y) (closed k c (nothing y) (up, refl)) (up, refl)

  stays_up : (i : Input) → (i ≡ Fail → ⊥) → IsUp (node_after y i)
  stays_up (Send q body) n = either IsUp (is_step y (Send q body)) (if y.up then sending y q body else refusing y verb.Send Down) (nothing y) (either IsUp y.up (sending y q body) (refusing y verb.Send Down) (up, refl) (up, refl)) (up, refl)
  stays_up (Begin roll able) n = begins y up y.inst roll able
  stays_up Fail n = elim (n refl) [ ]
  stays_up (Held q) n = either IsUp (is_in_rollback y) (nothing y) (taking_held y q (y.held q)) (up, refl) (takes_held q (y.held q))
  stays_up (Comes q able x) n = takes q able x

-- of what a process has
abbrev pub Undropped : Holdings → Type 0
Undropped h = (h.node.up ≡ true) × (list_any (λ r. is_dropped r.row.event) h.rows ≡ false)

clocked : (p clock : ℕ) (events : List NamedEvent) → list_any is_dropped events ≡ false → list_any (λ r. is_dropped r.row.event) (map (clocked_row p clock) events) ≡ false
clocked p clock [] e = refl
clocked p clock (x ∷ xs) e = both (is_dropped x) (list_any is_dropped xs) e (clocked p clock xs)
  where
    both : (a b : Bool) → (a || b) ≡ false → (b ≡ false → list_any (λ r. is_dropped r.row.event) (map (clocked_row p clock) xs) ≡ false) → (a || list_any (λ r. is_dropped r.row.event) (map (clocked_row p clock) xs)) ≡ false
    both true b f rest = absurd (cc)
    both false b f rest = rest f

did : (p : ℕ) (h : Holdings) (es : List Envelope) (i : Input) → (i ≡ Fail → ⊥) → Undropped h → Undropped (having_done p h es i)
did p h es i n k = let u = stays_up h.node k.0 i n in
    (u.0, list_any-append (λ (r : ClockedRow). is_dropped r.row.event) h.rows (map (clocked_row p (clock_after h.clock i es)) (node_after h.node i).rows) ∙ ap₂ (λ (x y : Bool). x || y) k.1 (clocked p (clock_after h.clock i es) (node_after h.node i).rows u.1))

again : (p : ℕ) (h : Holdings) (sends : List (ℕ × ℤ)) → Undropped h → Undropped (sending_again p h sends)
again p h [] k = k
again p h (x ∷ xs) k = again p (sending_one p h (input_at h.node (protocol.Send p x.0 x.1) [])) xs (one (is_step h.node (Send x.0 x.1)))
  where
    one : (b : Bool) → Undropped (sending_one p h (if b then Some (Send x.0 x.1) else None))
    one true = did p h [] (Send x.0 x.1) (λ e. absurd (cc)) k
    one false = k

abbrev pub AreUndropped : KilledNet → Type 0
AreUndropped w = (p : ℕ) → Undropped (w.memory p) × Undropped (w.disk p)

module _ (w : KilledNet) (k : AreUndropped w) where
  step_undropped : (u : ℕ) (es : List Envelope) (o : Option Input) → ((i : Input) → o ≡ Some i → i ≡ Fail → ⊥) → AreUndropped (stepping w u es o)
  step_undropped u es None n = k
  step_undropped u es (Some i) n = by_away (w.away u)
    where
      own : Undropped (having_done u (w.memory u) es i)
      own = did u (w.memory u) es i (n i refl) (k u).0

      by_protocol : (b : Bool) → AreUndropped (if b then written (having w u (having_done u (w.memory u) es i)) u else having w u (having_done u (w.memory u) es i))
      by_protocol true = at_each (λ p. Undropped ((written (having w u (having_done u (w.memory u) es i)) u).memory p) × Undropped ((written (having w u (having_done u (w.memory u) es i)) u).disk p)) u (rw (is_same u) (own, own)) (λ p e. rw e (k p))
      by_protocol false = at_each (λ p. Undropped ((having w u (having_done u (w.memory u) es i)).memory p) × Undropped (w.disk p)) u (rw (is_same u) (own, (k u).1)) (λ p e. rw e (k p))

      by_away : (b : Bool) → AreUndropped (if b then w else if is_protocol (node_after (w.memory u).node i) then written (having w u (having_done u (w.memory u) es i)) u else having w u (having_done u (w.memory u) es i))
      by_away true = k
      by_away false = by_protocol (is_protocol (node_after (w.memory u).node i))

  back_undropped : (u : ℕ) (sends : List (ℕ × ℤ)) (b : Bool) → AreUndropped (if b then coming_back w u sends else w)
  back_undropped u sends true = at_each (λ p. Undropped ((coming_back w u sends).memory p) × Undropped (w.disk p)) u (rw (is_same u) (again u (w.memory u) sends (k u).0, (k u).1)) (λ p e. rw e (k p))
  back_undropped u sends false = k

-- nobody fails at a step
sends_no : (y : NodeState) (p q : ℕ) (body : ℤ) (b : Bool) (i : Input) → (if b then Some (Send q body) else None) ≡ Some i → i ≡ Fail → ⊥
sends_no y p q body true i e f = absurd (cc (some_is (Send q body) i e, f))
sends_no y p q body false i e f = absurd (cc (e))

held_no : (q : ℕ) (b : Bool) (i : Input) → (if b then Some (Held q) else None) ≡ Some i → i ≡ Fail → ⊥
held_no q true i e f = absurd (cc (some_is (Held q) i e, f))
held_no q false i e f = absurd (cc (e))

front_no : (q : ℕ) (able : Bool) (es : List Envelope) (i : Input) → front_input q able es ≡ Some i → i ≡ Fail → ⊥
front_no q able [] i e f = absurd (cc (e))
front_no q able (x ∷ es) i e f = absurd (cc (some_is (Comes q able x.parcel) i e, f))

undropped_run : (w : KilledNet) (es : List KillEvent) → NoneFails es → AreUndropped w → AreUndropped (killed_run w es)
undropped_run w [] n k = k
undropped_run w (Does (protocol.Send p q body) ∷ es) n k = undropped_run (happens w (Does (protocol.Send p q body))) es n
    (step_undropped w k p [] (input_at (w.memory p).node (protocol.Send p q body) []) (sends_no (w.memory p).node p q body (is_step (w.memory p).node (Send q body))))
undropped_run w (Does (protocol.Begin p roll able) ∷ es) n k = undropped_run (happens w (Does (protocol.Begin p roll able))) es n
    (step_undropped w k p [] (Some (Begin roll able)) (λ i e f. absurd (cc (some_is (Begin roll able) i e, f))))
undropped_run w (Does (protocol.Fail p) ∷ es) n k = elim n [ ]
undropped_run w (Does (protocol.Take p q able) ∷ es) n k = undropped_run (happens w (Does (protocol.Take p q able))) es n
    (step_undropped w k p [] (input_at (w.memory p).node (protocol.Take p q able) []) (held_no q (not (is_in_rollback (w.memory p).node) && has_some ((w.memory p).node.held q))))
undropped_run w (Brought p q able life number ∷ es) n k = undropped_run (happens w (Brought p q able life number)) es n
    (step_undropped w k p (brought w p q life number) (front_input q able (brought w p q life number)) (front_no q able (brought w p q life number)))
undropped_run w (Writes u ∷ es) n k = undropped_run (written w u) es n (at_each (λ p. Undropped (w.memory p) × Undropped ((written w u).disk p)) u (rw (is_same u) ((k u).0, (k u).0)) (λ p e. rw e (k p)))
undropped_run w (Killed u ∷ es) n k = undropped_run (happens w (Killed u)) es n (at_each (λ p. Undropped ((happens w (Killed u)).memory p) × Undropped (w.disk p)) u (rw (is_same u) ((k u).1, (k u).1)) (λ p e. rw e (k p)))
undropped_run w (Back u sends ∷ es) n k = undropped_run (happens w (Back u sends)) es n (back_undropped w k u sends (w.away u))

pub none_dropped : (n first : ℕ) (es : List KillEvent) (p : ℕ) → NoneFails es → list_any (λ r. is_dropped r.row.event) ((killed_after n first es).memory p).rows ≡ false
none_dropped n first es p none = (undropped_run (opening_killed n first) es none (λ p. ((refl, refl), (refl, refl))) p).0.1
