-- What a manager keeps to guard itself, beside the manager that it guards.
use Rattle.std.specs.Prelude.{◌==◌, ◌&&◌, not, nat_lt, if◌then◌else◌, Option, Some, None, is_none, is_some, slice_index_or, replicate, slice_set}
use Rattle.std.proofs.Common.{◌≡◌, ◌≢◌, ◌∙◌, ℕ, ℤ, zero, suc, ◌<◌, ◌≤◌, ◌^◌, Bool, true, false, List, [], ◌∷◌, length, refl, sym, ap, subst, arith, inl, inr}
use Rattle.std.proofs.lemmas.Bool.{cases_eq}
use Rattle.std.proofs.lemmas.Bool.Decides.{nat_tests}
use Rattle.std.proofs.lemmas.List.{get_or-set_same, get_or-set_other}
use Rattle.kt_base.specs.Sets.{has}
use Rattle.kt_base.specs.declared.words.Verb.TheVariants as verb
use Rattle.kt_meaning.specs.Past.{at_one}
use Rattle.kt_tables.specs.Calls.{Speaks}
use Rattle.kt_protocol.proofs.Updates.{at_one_here, at_one_other}
use Rattle.kt_process.specs.ProcessStates.{ProcessState}
use Rattle.kt_process.specs.Shown.{IsSeenAs}
use Rattle.kt_machine.specs.CallTests.{must_take, must_roll}
use Rattle.kt_machine.specs.SeenJoining.{no_note}
use Rattle.kt_spacetime.specs.declared.names.InstName.{InstName}
use Rattle.kt_spacetime.specs.declared.named_rows.NamedCause.TheVariants.{Busy, Down}
use Rattle.kt_spacetime.specs.declared.named_rows.NamedEvent.TheVariants.{Dropped}
use Rattle.kt_manager.specs.Told.{Told}
use Rattle.kt_manager.specs.declared.parcels.NodeParcel.{NodeParcel}
use Rattle.kt_manager.specs.declared.parcels.NodeParcel.TheVariants.{App, Ask, Reply, Decide}
use Rattle.kt_manager.specs.Nodes.{NodeState, Doing, nothing, is_in_rollback}
use Rattle.kt_manager.specs.NodeMessages.{sending, receiving, arriving, holding, taking_held, failing, refusing, unable}
use Rattle.kt_manager.specs.NodeJoining.{beginning, joining_checkpoint, joining_rollback, replying, unwilling, noting}
use Rattle.kt_manager.specs.NodeClosing.{after_checkpoint, after_rollback, closing, ending, settling}
use Rattle.kt_manager.specs.NodeSteps.{is_one, starting, told_to_begin, asked, counting}
use Rattle.kt_manager.specs.Turns.{told_to_send, told_to_fail, taking_message}
use Rattle.kt_manager.specs.Managers.{ShowsManager, ManagerState as CoreState, IsSameManager as IsSameCore, IsSoundManager as IsSoundCore, size_of, as_parcels, process_of}
use Rattle.kt_manager.specs.Effects.{IsDone as IsCoreDone}
use Rattle.kt_node.specs.Inputs.{Send, Held}
use Rattle.kt_node.specs.NodeSteps.{asking, is_step, node_after}
use Rattle.kt_node.specs.Faults.{stranger}
use Rattle.kt_node.specs.declared.faults.ManagerFault.TheVariants as fault
use Rattle.kt_node.specs.Begins.{begins, begun_guards, joined_guards}
use Rattle.kt_node.specs.Managers.{ManagerState, IsSoundManager, HasGuards, ShowsNode, IsSameManager, core_of}
use Rattle.kt_node.specs.Effects.{IsDone}

pub guards_of : (w : ManagerState) (y : NodeState) → ShowsNode w y → HasGuards w y
guards_of w y h = record { begun = h.holds.begun; asks = h.holds.asks; answered = h.answered }

pub core_shows : (w : ManagerState) (y : NodeState) → w.process.tables.processes ≡ w.size → ShowsNode w y → ShowsManager (core_of w) y
core_shows w y e h = record {
  holds = record { processes = e ∙ h.holds.processes; me = h.holds.me; held = h.holds.held; kept = h.holds.kept };
  process = h.process;
  inst = h.inst;
}

-- of a manager that was opened
pub core_inside : (v w : ManagerState) (y : NodeState) → v.process.tables.processes ≡ v.size → v ≡ w → ShowsNode w y → ShowsManager (core_of v) y
core_inside v w y s e h = core_shows v y s (subst (λ (u : ManagerState). ShowsNode u y) (sym e) h)

pub guards_inside : (v w : ManagerState) (y : NodeState) → v ≡ w → ShowsNode w y → HasGuards v y
guards_inside v w y e h = guards_of v y (subst (λ (u : ManagerState). ShowsNode u y) (sym e) h)

shows_guarded : (w : ManagerState) (y : NodeState) → w.process.tables.processes ≡ w.size → ShowsManager (core_of w) y → HasGuards w y → ShowsNode w y
shows_guarded w y s h g = record {
  holds = record { processes = sym s ∙ h.holds.processes; me = h.holds.me; begun = g.begun; held = h.holds.held; kept = h.holds.kept; asks = g.asks };
  process = h.process;
  inst = h.inst;
  answered = g.answered;
}

pub done_guarded : (w : ManagerState) (e : Told) (d : Doing) → w.process.tables.processes ≡ w.size → IsCoreDone (core_of w) e d → HasGuards w d.state → IsDone w e d
done_guarded w e d s done g = record { state = shows_guarded w d.state s done.state g; puts = done.puts; rows = done.rows; acts = done.acts }

-- what is around a manager
abbrev pub around : CoreState → ℕ → List (Option InstName) → ℕ → ManagerState
around m begun asks answered = record { size = m.process.tables.processes; me = m.me; process = m.process; inst = m.inst; begun = begun; inbox = m.inbox; asks = asks; answered = answered }

-- is sound where that is
pub sound_around : (m : CoreState) (begun : ℕ) (asks : List (Option InstName)) (answered : ℕ) → size_of m ≤ 64 → IsSoundCore m → begun < 2 ^ 48 → IsSoundManager (around m begun asks answered)
sound_around m begun asks answered few h b = record { few = few; me = h.me; tables = refl; begun = b; inbox = h.inbox }

-- where another manager is around the same one
pub done_core : (w : ManagerState) (m : CoreState) (e : Told) (d : Doing) → core_of w ≡ m → w.process.tables.processes ≡ w.size → IsCoreDone m e d → HasGuards w d.state → IsDone w e d
done_core w m e d is s done g = done_guarded w e d s (subst (λ (c : CoreState). IsCoreDone c e d) (sym is) done) g

-- by another name of the instance
pub done_named : (m : CoreState) (e : Told) (k l : InstName) (y : NodeState) (roll able : Bool) → IsCoreDone m e (told_to_begin k y.inst y roll able) → k ≡ l → IsCoreDone m e (told_to_begin l y.inst y roll able)
done_named m e k l y roll able done is = subst (λ (i : InstName). IsCoreDone m e (told_to_begin i y.inst y roll able)) is done

-- as many processes as the one that it is around
pub sized : (v w : ManagerState) → core_of v ≡ core_of w → v.size ≡ w.size → w.process.tables.processes ≡ w.size → v.process.tables.processes ≡ v.size
sized v w e s t = ap (λ (m : CoreState). m.process.tables.processes) e ∙ (t ∙ sym s)

pub same_core : (v w : ManagerState) → v.size ≡ w.size → v.begun ≡ w.begun → v.asks ≡ w.asks → v.answered ≡ w.answered → IsSameCore (core_of v) (core_of w) → IsSameManager v w
same_core v w a b c d s = record { size = a; me = s.me; process = s.process; inst = s.inst; begun = b; held = s.held; kept = s.kept; asks = c; answered = d }

-- but for spare room it is as it was
pub shows_same : (v w : ManagerState) (y : NodeState) → IsSameManager v w → ShowsNode w y → ShowsNode v y
shows_same v w y s h = record {
  holds = record {
    processes = s.size ∙ h.holds.processes;
    me = s.me ∙ h.holds.me;
    begun = s.begun ∙ h.holds.begun;
    held = ap as_parcels s.held ∙ h.holds.held;
    kept = ap as_parcels s.kept ∙ h.holds.kept;
    asks = λ q. ap (λ (l : List (Option InstName)). slice_index_or l q None) s.asks ∙ h.holds.asks q;
  };
  process = subst (λ (x : ProcessState). IsSeenAs x (process_of y)) (sym s.process) h.process;
  inst = s.inst ∙ h.inst;
  answered = λ q. ap (λ (n : ℕ). has n q) s.answered ∙ h.answered q;
}

-- a state has the guards of another one
pub record IsGuarded (old new : NodeState) : Type 0 where
  pub begun : old.begun ≡ new.begun
  pub asks : (q : ℕ) → old.asks q ≡ new.asks q
  pub answered : (q : ℕ) → old.answered q ≡ new.answered q

pub guarded_on : (w : ManagerState) (old new : NodeState) → HasGuards w old → IsGuarded old new → HasGuards w new
guarded_on w old new g k = record { begun = g.begun ∙ k.begun; asks = λ q. g.asks q ∙ k.asks q; answered = λ q. g.answered q ∙ k.answered q }

pub alike : (y : NodeState) → IsGuarded y y
alike y = record { begun = refl; asks = λ q. refl; answered = λ q. refl }

one_of : (y : NodeState) (b : Bool) (d e : Doing) → IsGuarded y d.state → IsGuarded y e.state → IsGuarded y (if b then d else e).state
one_of y true d e h k = h
one_of y false d e h k = k

closed : (y : NodeState) (roll c : Bool) → IsGuarded y (if roll then after_rollback c y else after_checkpoint c y)
closed y true true = record { begun = refl; asks = λ q. refl; answered = λ q. refl }
closed y true false = record { begun = refl; asks = λ q. refl; answered = λ q. refl }
closed y false c = record { begun = refl; asks = λ q. refl; answered = λ q. refl }

pub closing_guarded : (y : NodeState) (k : InstName) (c : Bool) (d : Doing) → d.state ≡ y → IsGuarded y (closing k c d).state
closing_guarded y k c d e = subst (λ (z : NodeState). IsGuarded z (closing k c d).state) e (closed d.state d.state.part.is_rollback c)

ended : (k : InstName) (o : Option ℕ) (d : Doing) → IsGuarded d.state (ending k o d).state
ended k (Some to) d = alike d.state
ended k None d = closed d.state d.state.part.is_rollback d.state.part.willing

pub settled : (k : InstName) (d : Doing) → IsGuarded d.state (settling k d).state
settled k d = one_of d.state (d.state.part.awaited == 0) (ending k d.state.part.parent d) d (ended k d.state.part.parent d) (alike d.state)

-- a command to begin
pub begin_guarded : (k : InstName) (o : Option InstName) (y : NodeState) (roll able : Bool) → IsGuarded (if begins o y roll able then begun_guards y else y) (told_to_begin k o y roll able).state
begin_guarded k (Some name) y roll able = alike y
begin_guarded k None y true able = let s = settled k (joining_rollback k None no_note (beginning k y true)) in record { begun = s.begun; asks = s.asks; answered = s.answered }
begin_guarded k None y false able = at_test (able && y.up) (settled k (joining_checkpoint k None (beginning k y false)))
  where
    at_test : (b : Bool) → IsGuarded (joining_checkpoint k None (beginning k y false)).state (settling k (joining_checkpoint k None (beginning k y false))).state
        → IsGuarded (if b then begun_guards y else y) (if b then starting k y false else refusing y verb.Checkpoint (unable y.up)).state
    at_test true s = record { begun = s.begun; asks = s.asks; answered = s.answered }
    at_test false s = alike y

-- what it has done leaves its guards, or those of who has joined where it is in an instance then
abbrev IsLeft : NodeState → Doing → Type 0
IsLeft y d = IsGuarded (if is_some d.state.inst then joined_guards y else y) d.state

-- who has joined by an ask stays in its instance
stays : (k : InstName) (q : ℕ) (d : Doing) → d.state.part.parent ≡ Some q → (settling k d).state ≡ d.state
stays k q d e = at_tests (d.state.part.awaited == 0) d.state.part.parent e
  where
    at_tests : (b : Bool) (o : Option ℕ) → o ≡ Some q → (if b then ending k o d else d).state ≡ d.state
    at_tests true (Some to) e = refl
    at_tests true None e = absurd (cc (e))
    at_tests false o e = refl

joined : (k : InstName) (q : ℕ) (y : NodeState) (d : Doing) → d.state.part.parent ≡ Some q → d.state.inst ≡ Some k → IsGuarded (joined_guards y) d.state
    → IsLeft y (settling k d)
joined k q y d e i g = subst (λ (z : NodeState). IsGuarded (if is_some z.inst then joined_guards y else y) z) (sym (stays k q d e))
    (subst (λ (o : Option InstName). IsGuarded (if is_some o then joined_guards y else y) d.state) (sym i) g)

pick : (y : NodeState) (b : Bool) (d e : Doing) → IsLeft y d → IsLeft y e → IsLeft y (if b then d else e)
pick y true d e g h = g
pick y false d e g h = h

-- an ask
pub ask_guarded : (o : Option InstName) (y : NodeState) (q : ℕ) (able : Bool) (k : InstName) (roll : Bool) (label : ℕ)
    → IsGuarded (if not (is_some o) && is_some (asked o (record y { inst = o }) q able k roll label).state.inst then joined_guards y else y) (asked o (record y { inst = o }) q able k roll label).state
ask_guarded (Some name) y q able k roll label = at_test (is_one name k)
  where
    at_test : (b : Bool) → IsGuarded y (if b then replying (noting (record y { inst = Some name }) roll q label) q k true else unwilling (record y { inst = Some name }) q k (Busy name)).state
    at_test true = record { begun = refl; asks = λ q. refl; answered = λ q. refl }
    at_test false = record { begun = refl; asks = λ q. refl; answered = λ q. refl }
ask_guarded None y q able k true label =
    pick y (must_roll y.calls q label) (settling k (joining_rollback k (Some q) (at_one q (Some label) no_note) (nothing (record y { inst = None })))) (replying (record y { inst = None }) q k true)
    (joined k q y (joining_rollback k (Some q) (at_one q (Some label) no_note) (nothing (record y { inst = None }))) refl refl (record { begun = refl; asks = λ q. refl; answered = λ q. refl }))
    (record { begun = refl; asks = λ q. refl; answered = λ q. refl })
ask_guarded None y q able k false label =
    pick y (not (must_take y.calls q label)) (replying (record y { inst = None }) q k true)
    (if not (able && y.up) then unwilling (record y { inst = None }) q k (unable y.up) else settling k (joining_checkpoint k (Some q) (nothing (record y { inst = None }))))
    (record { begun = refl; asks = λ q. refl; answered = λ q. refl })
    (pick y (not (able && y.up)) (unwilling (record y { inst = None }) q k (unable y.up)) (settling k (joining_checkpoint k (Some q) (nothing (record y { inst = None }))))
    (record { begun = refl; asks = λ q. refl; answered = λ q. refl })
    (joined k q y (joining_checkpoint k (Some q) (nothing (record y { inst = None }))) refl refl (record { begun = refl; asks = λ q. refl; answered = λ q. refl })))

-- it was asked by q last to join k
at_ask : (l : List (Option InstName)) (q : ℕ) (k : InstName) (asks : ℕ → Option InstName) → q < length l → ((u : ℕ) → slice_index_or l u None ≡ asks u) → (u : ℕ) → slice_index_or (slice_set l q (Some k)) u None ≡ at_one q (Some k) asks u
at_ask l q k asks b h u = elim (cases_eq u q) [
  | inl e ↦ subst (λ (u : ℕ). slice_index_or (slice_set l q (Some k)) u None ≡ at_one q (Some k) asks u) (sym e) (get_or-set_same l q (Some k) None b ∙ sym (at_one_here q (Some k) asks))
  | inr n ↦ get_or-set_other l q u (Some k) None n ∙ (h u ∙ sym (at_one_other q u (Some k) asks n))
]

pub guards_asked : (w : ManagerState) (y : NodeState) (q i : ℕ) (k : InstName) → i ≡ q → i < length w.asks → HasGuards w y → HasGuards (record w { asks = slice_set w.asks i (Some k) }) (asking y q k)
guards_asked w y q i k e b g = record { begun = g.begun; asks = λ u. at_ask w.asks i k y.asks b g.asks u ∙ ap (λ (n : ℕ). at_one n (Some k) y.asks u) e; answered = g.answered }

-- so it shows the node that was asked
pub asked_shows : (m : CoreState) (y : NodeState) (q : ℕ) (k : InstName) → ShowsManager m y → ShowsManager m (asking y q k)
asked_shows m y q k h = record { holds = record { processes = h.holds.processes; me = h.holds.me; held = h.holds.held; kept = h.holds.kept }; process = h.process; inst = h.inst }

-- nobody has asked
abbrev no_ask : Option InstName
no_ask = None

pub none_each : (n q : ℕ) → slice_index_or (replicate n no_ask) q None ≡ None
none_each zero q = refl
none_each (suc n) zero = refl
none_each (suc n) (suc q) = none_each n q

-- with nobody's reply, and with q's
pub guards_joined : (w : ManagerState) (none : ℕ) (y : NodeState) → ((q : ℕ) → has none q ≡ false) → HasGuards w y → HasGuards (record w { answered = none }) (joined_guards y)
guards_joined w none y e g = record { begun = g.begun; asks = g.asks; answered = e }

pub guards_counted : (w : ManagerState) (more : ℕ) (y : NodeState) (q : ℕ) (c : Bool) → has more q ≡ true → ((u : ℕ) → u ≢ q → has more u ≡ has w.answered u) → HasGuards w y → HasGuards (record w { answered = more }) (counting y q c)
guards_counted w more y q c added others g = record {
  begun = g.begun;
  asks = g.asks;
  answered = λ u. elim (cases_eq u q) [
    | inl i ↦ subst (λ (u : ℕ). has more u ≡ at_one q true y.answered u) (sym i) (added ∙ sym (at_one_here q true y.answered))
    | inr n ↦ others u n ∙ (g.answered u ∙ sym (at_one_other q u true y.answered n))
  ];
}

-- messages leave its guards
arrived : (y : NodeState) (q label : ℕ) (body : ℤ) → IsGuarded y (arriving y q label body).state
arrived y q label body = one_of y y.up (receiving y q label body) (record (nothing y) { rows = Dropped q label ∷ [] }) (record { begun = refl; asks = λ q. refl; answered = λ q. refl }) (alike y)

pub message_guarded : (y : NodeState) (q label : ℕ) (body : ℤ) → IsGuarded y (taking_message y q label body).state
message_guarded y q label body = one_of y (is_in_rollback y) (holding y q (App label body)) (arriving y q label body) (record { begun = refl; asks = λ q. refl; answered = λ q. refl }) (arrived y q label body)

pub held_guarded : (y : NodeState) (q : ℕ) (l : List NodeParcel) → IsGuarded y (taking_held y q l).state
held_guarded y q [] = alike y
held_guarded y q (App label body ∷ rest) = let g = arrived (record y { held = at_one q rest y.held }) q label body in record { begun = g.begun; asks = g.asks; answered = g.answered }
held_guarded y q (Ask k kind label ∷ rest) = alike y
held_guarded y q (Reply k w ∷ rest) = alike y
held_guarded y q (Decide k c ∷ rest) = alike y

pub sent_guarded : (y : NodeState) (q : ℕ) (body : ℤ) → IsGuarded y (told_to_send y q body).state
sent_guarded y q body = one_of y y.up (sending y q body) (refusing y verb.Send Down) (record { begun = refl; asks = λ q. refl; answered = λ q. refl }) (alike y)

pub fail_guarded : (y : NodeState) → IsGuarded y (told_to_fail y).state
fail_guarded y = one_of y y.up (failing y) (refusing y verb.Fail Down) (record { begun = refl; asks = λ q. refl; answered = λ q. refl }) (alike y)

-- a message that is sent, where it may be
pub done_sent : (w : ManagerState) (e : Told) (y : NodeState) (q : ℕ) (body : ℤ) → is_step y (Send q body) ≡ true → IsDone w e (told_to_send y q body) → IsDone w e (node_after y (Send q body))
done_sent w e y q body s done = subst (λ (b : Bool). IsDone w e (if b then told_to_send y q body else nothing y)) (sym s) done

pub speaks_sent : (y : NodeState) (q : ℕ) (body : ℤ) → is_step y (Send q body) ≡ true → Speaks ((node_after y (Send q body)).state.calls) → Speaks ((told_to_send y q body).state.calls)
speaks_sent y q body s speaks = subst (λ (b : Bool). Speaks ((if b then told_to_send y q body else nothing y).state.calls)) s speaks

-- one that is held, outside of a rollback
pub done_held : (w : ManagerState) (e : Told) (y : NodeState) (q : ℕ) → is_in_rollback y ≡ false → IsDone w e (taking_held y q (y.held q)) → IsDone w e (node_after y (Held q))
done_held w e y q s done = subst (λ (b : Bool). IsDone w e (if b then nothing y else taking_held y q (y.held q))) (sym s) done

pub speaks_held : (y : NodeState) (q : ℕ) → is_in_rollback y ≡ false → Speaks ((node_after y (Held q)).state.calls) → Speaks ((taking_held y q (y.held q)).state.calls)
speaks_held y q s speaks = subst (λ (b : Bool). Speaks ((if b then nothing y else taking_held y q (y.held q)).state.calls)) s speaks

-- who is no stranger may be sent to
pub may_send : (w : ManagerState) (y : NodeState) (q : ℕ) (body : ℤ) → w.me < w.size → ShowsNode w y → stranger y q ≡ None → is_none y.inst ≡ true → is_step y (Send q body) ≡ true
may_send w y q body b h s n =
    let me : nat_lt y.me y.processes ≡ true = let i = h.holds.me in let j = h.holds.processes in let k : y.me < y.processes = omega (arith, b, i, j) in grind (arith, nat_tests, k) in
    at_tests (nat_lt q y.processes) (q == y.me) s me
  where
    at_tests : (a c : Bool) → (if not a then Some fault.Unknown else if c then Some fault.Itself else None) ≡ None → nat_lt y.me y.processes ≡ true → ((nat_lt y.me y.processes && a) && (is_none y.inst && not c)) ≡ true
    at_tests true false s me = rw (me, n) refl
    at_tests true true s me = absurd (cc (s))
    at_tests false c s me = absurd (cc (s))

pub none_there : (o : Option InstName) → is_some o ≡ false → is_none o ≡ true
none_there None e = refl
none_there (Some name) e = absurd (cc (e))
