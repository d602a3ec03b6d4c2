-- When tables answer for what a node sends and takes.
use Rattle.std.specs.Prelude.{◌==◌, ◌&&◌, nat_lt, nat_le, slice_get, if◌then◌else◌, is_none, Option, Some, None}
use Rattle.std.proofs.Common.{◌≡◌, ◌∙◌, ◌≤◌, ◌<◌, ◌+◌, ℕ, ℤ, max, Bool, true, false, not, List, [], ◌∷◌, ◌++◌, refl, sym, ap, subst, arith}
use Rattle.std.proofs.lemmas.Bool.Decides.{nat_tests}
use Rattle.std.proofs.lemmas.Grind.{fold-append}
use Rattle.kt_meaning.specs.Past.{at_one}
use Rattle.kt_tables.specs.Calls.{Call, sent, received, on_tentative, on_commit, on_abort, on_rollback, PartsOfCalls, parts_after, parts, receiveds, Speaks}
use Rattle.kt_tables.specs.Labels.{greatest}
use Rattle.kt_tables.proofs.CallParts.{by_calls, parts_push, receiveds-append}
use Rattle.kt_tables.proofs.Following.{can_send_is, speaks_received, speaks_sent}
use Rattle.kt_tables.proofs.LabelLists.{greatest-append}
use Rattle.kt_process.specs.ProcessStates.{ProcessState, ProcessFits, IsNumbered, is_saving, part_of_side}
use Rattle.kt_process.specs.declared.side.Side.{Side}
use Rattle.kt_process.specs.declared.side.Side.TheVariants as side
use Rattle.kt_process.specs.Shown.{IsSeenAs, inst_shown}
use Rattle.kt_base.specs.declared.words.Verb.TheVariants as verb
use Rattle.kt_spacetime.specs.declared.names.InstName.{InstName}
use Rattle.kt_spacetime.specs.declared.named_rows.NamedCause.TheVariants.{Down}
use Rattle.kt_spacetime.specs.declared.named_rows.NamedEvent.TheVariants.{Dropped}
use Rattle.kt_node.specs.declared.faults.ManagerFault.{ManagerFault}
use Rattle.kt_node.specs.declared.faults.ManagerFault.TheVariants as fault
use Rattle.kt_manager.specs.declared.parcels.NodeParcel.{NodeParcel}
use Rattle.kt_manager.specs.declared.parcels.NodeParcel.TheVariants.{App, Ask, Reply, Decide}
use Rattle.kt_manager.specs.Nodes.{NodeLists, NodeState, Doing, nothing, is_in_rollback}
use Rattle.kt_node.specs.Inputs.{Send, Held}
use Rattle.kt_manager.specs.NodeMessages.{sending, receiving, arriving, holding, taking_held, refusing}
use Rattle.kt_node.specs.NodeSteps.{is_step, node_after, taking}
use Rattle.kt_node.specs.NodeHistories.{Histories, no_history, histories_after, histories}
use Rattle.kt_manager.specs.Managers.{number_in, process_of}
use Rattle.kt_node.specs.Faults.{stranger, or_else, first_held, fault_at}
use Rattle.kt_node.specs.Links.{NodeLinks, ShowsLinks, IsSpoken}
use Rattle.kt_node.specs.Meetings.{label_of, held_of, received_label, is_stale_held}

-- the greatest label of a process with one call more
one_more : (q : ℕ) (calls : List Call) (c : Call) → greatest (receiveds q (calls ++ c ∷ [])) ≡ max (greatest (receiveds q calls)) (greatest (receiveds q (c ∷ [])))
one_more q calls c = ap greatest (receiveds-append q calls (c ∷ [])) ∙ greatest-append (receiveds q calls) (receiveds q (c ∷ []))

-- a live history has what came since the last rollback
abbrev LiveHas : ℕ → PartsOfCalls → Histories → Type 0
LiveHas q p h = greatest (receiveds q p.since_rollback) ≤ greatest (receiveds q h.live)

live_after : (q : ℕ) (p : PartsOfCalls) (h : Histories) (c : Call) → LiveHas q p h → LiveHas q (parts_after p c) (histories_after h c)
live_after q p h (sent u l) b = let e = one_more q p.since_rollback (sent u l) in let f = one_more q h.live (sent u l) in omega (arith, b, e, f)
live_after q p h (received u l) b = let e = one_more q p.since_rollback (received u l) in let f = one_more q h.live (received u l) in omega (arith, b, e, f)
live_after q p h on_tentative b = let e = one_more q p.since_rollback on_tentative in omega (arith, b, e)
live_after q p h on_commit b = let e = one_more q p.since_rollback on_commit in omega (arith, b, e)
live_after q p h on_abort b = let e = one_more q p.since_rollback on_abort in omega (arith, b, e)
live_after q p h on_rollback b = omega arith

live_has : (q : ℕ) (calls : List Call) → LiveHas q (parts calls) (histories calls)
live_has q calls = by_calls (λ (l : List Call). LiveHas q (parts l) (histories l)) (omega arith) (λ l c b.
    subst (λ (p : PartsOfCalls). LiveHas q p (histories (l ++ c ∷ []))) (sym (parts_push l c))
    (subst (λ (h : Histories). LiveHas q (parts_after (parts l) c) h) (sym (fold-append histories_after no_history l (c ∷ []))) (live_after q (parts l) (histories l) c b))) calls

either : (b : Bool) (d e : Doing) → Speaks d.state.calls → Speaks e.state.calls → Speaks (if b then d else e).state.calls
either true d e f g = f
either false d e f g = g

-- a process in no instance has no open checkpoint
saves_none : (s : Option Side) (n : Option InstName) → IsNumbered (part_of_side s) → inst_shown s ≡ number_in n → n ≡ None → is_saving s ≡ false
saves_none None n i e f = refl
saves_none (Some (side.Checkpoint s)) n i e f = let k : s.part.inst ≡ 0 = e ∙ ap number_in f in absurd (omega (arith, i, k))
saves_none (Some (side.Rollback s)) n i e f = refl

pub sending_speaks : (x : ProcessState) (y : NodeState) (q : ℕ) → ProcessFits x → IsSeenAs x (process_of y) → y.inst ≡ None → Speaks (y.calls ++ sent q (y.used + 1) ∷ [])
sending_speaks x y q f h n = speaks_sent y.calls q (y.used + 1) h.stands.speaks
    (sym h.stands.keeps.is_open ∙ (f.tentative ∙ saves_none x.side y.inst f.numbered h.inst n))
    ((can_send_is x.tables y.calls q (y.used + 1) h.stands).0 (let a = f.used q in let b = h.used in omega (arith, a, b)))

no_inst : (a b c : Bool) (o : Option InstName) → ((a && b) && (is_none o && c)) ≡ true → o ≡ None
no_inst a b c None e = refl
no_inst true true c (Some k) e = absurd (cc (e))
no_inst true false c (Some k) e = absurd (cc (e))
no_inst false b c (Some k) e = absurd (cc (e))

pub send_speaks : (y : NodeState) (q : ℕ) (body : ℤ) → Speaks y.calls → (y.inst ≡ None → Speaks (y.calls ++ sent q (y.used + 1) ∷ [])) → is_step y (Send q body) ≡ true → Speaks ((node_after y (Send q body)).state.calls)
send_speaks y q body s f e = either (is_step y (Send q body)) (if y.up then sending y q body else refusing y verb.Send Down) (nothing y)
    (either y.up (sending y q body) (refusing y verb.Send Down) (f (no_inst (nat_lt y.me y.processes) (nat_lt q y.processes) (not (q == y.me)) y.inst e)) s) s

module _ (w : NodeLinks) (y : NodeState) (q : ℕ) (h : ShowsLinks w y) (b : q < 64) where
  so_far : Speaks y.calls
  so_far = h.manager.process.stands.speaks

  -- a message that is received rises above those of its sender
  rises : (label : ℕ) → received_label w q < label → Speaks (y.calls ++ received q label ∷ [])
  rises label l = speaks_received y.calls q label so_far (let a = live_has q y.calls in let e = h.reaches.live.received q b in omega (arith, a, e, l))

  arrives : (lists : NodeLists) (label : ℕ) (body : ℤ) → received_label w q < label → Speaks ((arriving (record y { held = lists }) q label body).state.calls)
  arrives lists label body l = either y.up (receiving (record y { held = lists }) q label body) (record (nothing (record y { held = lists })) { rows = Dropped q label ∷ [] }) (rises label l) so_far

  pub message_speaks : (able : Bool) (label : ℕ) (body : ℤ) → received_label w q < label → Speaks ((taking y q able (App label body)).state.calls)
  message_speaks able label body l = either (is_in_rollback y) (holding y q (App label body)) (arriving y q label body) so_far (arrives y.held label body l)

  above : (label most : ℕ) → (if label == 0 then Some fault.HoldsNone else None) ≡ None → (not (label == 0) && nat_le label most) ≡ false → most < label
  above label most e f = grind (arith, nat_tests, e, f)

  at_front : (l : List NodeParcel) → (not (label_of (slice_get l 0) == 0) && nat_le (label_of (slice_get l 0)) (received_label w q)) ≡ false → first_held l ≡ None → Speaks ((taking_held y q l).state.calls)
  at_front [] e f = so_far
  at_front (App label body ∷ l) e f = arrives (at_one q l y.held) label body (above label (received_label w q) f e)
  at_front (Ask k kind label ∷ l) e f = so_far
  at_front (Reply k c ∷ l) e f = so_far
  at_front (Decide k c ∷ l) e f = so_far

  pub held_speaks : is_stale_held w q ≡ false → fault_at y (Held q) ≡ None → Speaks ((node_after y (Held q)).state.calls)
  held_speaks e f = at_rollback (is_in_rollback y) refl
    where
      taken : (a o : Option ManagerFault) → or_else a o ≡ None → o ≡ None
      taken None o g = g
      taken (Some x) o g = absurd (cc (g))

      is_held : held_of w q ≡ y.held q
      is_held = ap (λ (lists : NodeLists). lists q) h.manager.holds.held

      at_rollback : (r : Bool) → is_in_rollback y ≡ r → Speaks ((if r then nothing y else taking_held y q (y.held q)).state.calls)
      at_rollback true g = so_far
      at_rollback false g = subst (λ (l : List NodeParcel). Speaks ((taking_held y q l).state.calls)) is_held
          (at_front (held_of w q) e (ap first_held is_held ∙ (ap (λ (r : Bool). if r then Some fault.HoldsNone else first_held (y.held q)) (sym g) ∙ taken (stranger y q) _ f)))

-- where tables answer for the calls after any parcel
pub is_spoken : (y : NodeState) (q : ℕ) (able : Bool) (x : NodeParcel) → Speaks ((taking y q able x).state.calls) → IsSpoken y q able x
is_spoken y q able (App label body) s = s
is_spoken y q able (Ask k kind label) s = tt
is_spoken y q able (Reply k c) s = tt
is_spoken y q able (Decide k c) s = tt
