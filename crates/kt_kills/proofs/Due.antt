-- Objects have what is due to them.
use Rattle.std.proofs.Common.{◌≡◌, ◌∙◌, ℕ, ℤ, zero, suc, Bool, true, false, Option, Some, None, List, [], ◌∷◌, ◌++◌, ◌⊎◌, ◌↔◌, inl, inr, refl, arith, sym, ap, subst}
use Rattle.std.specs.Prelude.{◌||◌, if◌then◌else◌, ◌<◌, ◌+◌, is_some, fold, Contains, length, slice_index_or}
use Rattle.std.specs.List.{list_any, flat_map}
use Rattle.std.proofs.lemmas.Grind.{fold-append}
use Rattle.std.proofs.lemmas.List.Folds.{list_any-append}
use Rattle.kt_meaning.specs.Past.{at_one}
use Rattle.kt_machine.specs.Acts.{stepper}
use Rattle.kt_machine.specs.Values.{Act, Apply, Keep, Promote, Discard, Restore, Drop}
use Rattle.kt_tables.specs.Calls.{Call, sent, received, on_tentative, on_commit, on_abort, on_rollback}
use Rattle.kt_spacetime.specs.declared.named_rows.NamedEvent.{NamedEvent}
use Rattle.kt_spacetime.specs.declared.named_rows.NamedEvent.TheVariants.{Sent, Received, Dropped, Began, Took, Ready, Unwilling, Decided, Closed, Failed, Refused}
use Rattle.kt_protocol.specs.States as protocol
use Rattle.kt_manager.specs.Nodes.{NodeState}
use Rattle.kt_node.specs.Inputs.{Input}
use Rattle.kt_node.specs.Inputs as input
use Rattle.kt_node.specs.NodeSteps.{is_step, node_after}
use Rattle.kt_base.specs.declared.words.Verb.TheVariants as verb
use Rattle.kt_spacetime.specs.declared.named_rows.NamedCause.TheVariants.{Down}
use Rattle.kt_manager.specs.NodeMessages.{sending, refusing}
use Rattle.kt_node.specs.NodeLooks.{where_able, would_save}
use Rattle.kt_node.specs.NodeHistories.{Histories, no_history, histories_after, histories, call_of_row, call_of_act, calls_told}
use Rattle.kt_node.specs.Clocks.{Envelope, input_at, front_input}
use Rattle.kt_node.proofs.NodeKeeps.{keeps, in_kept}
use Rattle.kt_kills.specs.Writing.{is_protocol}
use Rattle.kt_kills.specs.KilledNets.{Holdings, KilledNet, KillEvent, Does, Brought, Writes, Killed, Back, having_done, having, written, stepping, brought, sending_one, sending_again, coming_back, happens, killed_run, opening_killed}
use Rattle.kt_kills.specs.Objects.{Object, and_call, object_after, object_did, lost, Objects, objects_step, objects_after, objects_run, IsTold, SaysIt, AllSayIt, new_object, opening_objects, IsDue}
use Rattle.kt_kills.proofs.Basics.{is_same, clash, at_each}
use Rattle.kt_kills.proofs.PlainSteps.{more}

abbrev pub is_tentative : Call → Bool
is_tentative on_tentative = true
is_tentative _ = false

abbrev pub is_rollback : Call → Bool
is_rollback on_rollback = true
is_rollback _ = false

-- one call
with_call : (live : Option (List Call)) (h : List Call) (c : Call) → (live ≡ None) ⊎ (live ≡ Some h) → (and_call live c ≡ None) ⊎ (and_call live c ≡ Some (h ++ c ∷ []))
with_call live h c due = elim due [ inl e ↦ inl (ap (λ (o : Option (List Call)). and_call o c) e) | inr e ↦ inr (ap (λ (o : Option (List Call)). and_call o c) e) ]

not_lost : (live : Option (List Call)) (h : List Call) → (live ≡ None) ⊎ (live ≡ Some h) → (live ≡ None → ⊥) → live ≡ Some h
not_lost live h due n = elim due [ inl e ↦ elim (n e) [ ] | inr e ↦ e ]

due_call : (o : Object) (h : Histories) (c : Call) → IsDue o h → (o.live ≡ None → is_tentative c ≡ false) → IsDue (object_after o c) (histories_after h c)
due_call o h (sent q l) d n = record { live = with_call o.live h.live (sent q l) d.live; tentative = d.tentative; permanent = d.permanent }
due_call o h (received q l) d n = record { live = with_call o.live h.live (received q l) d.live; tentative = d.tentative; permanent = d.permanent }
due_call o h on_tentative d n = record { live = d.live; tentative = not_lost o.live h.live d.live (λ e. clash true refl (n e)); permanent = d.permanent }
due_call o h on_commit d n = record { live = d.live; tentative = d.tentative; permanent = d.tentative }
due_call o h on_abort d n = d
due_call o h on_rollback d n = record { live = inr d.permanent; tentative = d.tentative; permanent = d.permanent }

-- who has its object keeps it
none_some : (live : Option (List Call)) (c : Call) → is_some live ≡ true → is_some (and_call live c) ≡ true
none_some None c e = absurd (cc)
none_some (Some calls) c e = refl

some_call : (o : Object) (h : Histories) (c : Call) → IsDue o h → is_some o.live ≡ true → is_some (object_after o c).live ≡ true
some_call o h (sent q l) d e = none_some o.live (sent q l) e
some_call o h (received q l) d e = none_some o.live (received q l) e
some_call o h on_tentative d e = e
some_call o h on_commit d e = e
some_call o h on_abort d e = e
some_call o h on_rollback d e = ap (λ (o : Option (List Call)). is_some o) d.permanent

some_none : (live : Option (List Call)) → is_some live ≡ true → live ≡ None → ⊥
some_none live e f = clash (is_some live) e (ap (λ (o : Option (List Call)). is_some o) f)

none_so : (live : Option (List Call)) → (is_some live ≡ true) ⊎ (live ≡ None)
none_so None = inr refl
none_so (Some calls) = inl refl

-- where nothing is kept of one that is lost
abbrev pub KeepsNone : Object → List Call → Type 0
KeepsNone o cs = o.live ≡ None → list_any is_tentative cs ≡ false

first_false : (a b : Bool) → (a || b) ≡ false → a ≡ false
first_false true b e = absurd (cc)
first_false false b e = refl

rest_false : (a b : Bool) → (a || b) ≡ false → b ≡ false
rest_false true b e = absurd (cc)
rest_false false b e = e

rest_none : (o : Object) (h : Histories) (c : Call) (cs : List Call) → IsDue o h → KeepsNone o (c ∷ cs) → KeepsNone (object_after o c) cs
rest_none o h c cs d n e = elim (none_so o.live) [
  | inl some ↦ elim (some_none (object_after o c).live (some_call o h c d some) e) [ ]
  | inr none ↦ rest_false (is_tentative c) (list_any is_tentative cs) (n none)
]

due_calls : (cs : List Call) (o : Object) (h : Histories) → IsDue o h → KeepsNone o cs → IsDue (fold object_after o cs) (fold histories_after h cs)
due_calls [] o h d n = d
due_calls (c ∷ cs) o h d n = due_calls cs (object_after o c) (histories_after h c) (due_call o h c d (λ e. first_false (is_tentative c) (list_any is_tentative cs) (n e))) (rest_none o h c cs d n)

some_calls : (cs : List Call) (o : Object) (h : Histories) → IsDue o h → KeepsNone o cs → is_some o.live ≡ true → is_some (fold object_after o cs).live ≡ true
some_calls [] o h d n e = e
some_calls (c ∷ cs) o h d n e = some_calls cs (object_after o c) (histories_after h c) (due_call o h c d (λ f. first_false (is_tentative c) (list_any is_tentative cs) (n f))) (rest_none o h c cs d n) (some_call o h c d e)

is_restore : (c : Call) → (is_rollback c ≡ true) ⊎ (is_rollback c ≡ false)
is_restore c = go (is_rollback c)
  where
    go : (b : Bool) → (b ≡ true) ⊎ (b ≡ false)
    go true = inl refl
    go false = inr refl

restored_call : (o : Object) (h : Histories) (c : Call) → IsDue o h → is_rollback c ≡ true → is_some (object_after o c).live ≡ true
restored_call o h (sent q l) d e = absurd (cc)
restored_call o h (received q l) d e = absurd (cc)
restored_call o h on_tentative d e = absurd (cc)
restored_call o h on_commit d e = absurd (cc)
restored_call o h on_abort d e = absurd (cc)
restored_call o h on_rollback d e = ap (λ (o : Option (List Call)). is_some o) d.permanent

restored_calls : (cs : List Call) (o : Object) (h : Histories) → IsDue o h → KeepsNone o cs → list_any is_rollback cs ≡ true → is_some (fold object_after o cs).live ≡ true
restored_calls [] o h d n e = absurd (cc)
restored_calls (c ∷ cs) o h d n e = let next = due_call o h c d (λ f. first_false (is_tentative c) (list_any is_tentative cs) (n f)) in elim (is_restore c) [
  | inl f ↦ some_calls cs (object_after o c) (histories_after h c) next (rest_none o h c cs d n) (restored_call o h c d f)
  | inr f ↦ restored_calls cs (object_after o c) (histories_after h c) next (rest_none o h c cs d n) (subst (λ (b : Bool). (b || list_any is_rollback cs) ≡ true) f e)
]

-- what a step tells
row_calls : (rows : List NamedEvent) → list_any is_tentative (flat_map call_of_row rows) ≡ false
row_calls [] = refl
row_calls (Sent to body label ∷ rows) = row_calls rows
row_calls (Received from label ∷ rows) = row_calls rows
row_calls (Dropped from label ∷ rows) = row_calls rows
row_calls (Began inst kind ∷ rows) = row_calls rows
row_calls (Took inst ∷ rows) = row_calls rows
row_calls (Ready inst ∷ rows) = row_calls rows
row_calls (Unwilling inst cause ∷ rows) = row_calls rows
row_calls (Decided inst commit ∷ rows) = row_calls rows
row_calls (Closed inst ∷ rows) = row_calls rows
row_calls (Failed ∷ rows) = row_calls rows
row_calls (Refused verb cause ∷ rows) = row_calls rows

act_calls : (acts : List Act) → keeps acts ≡ false → list_any is_tentative (flat_map call_of_act acts) ≡ false
act_calls [] e = refl
act_calls (Apply from body ∷ acts) e = act_calls acts e
act_calls (Keep ∷ acts) e = absurd (cc)
act_calls (Promote ∷ acts) e = act_calls acts e
act_calls (Discard ∷ acts) e = act_calls acts e
act_calls (Restore ∷ acts) e = act_calls acts e
act_calls (Drop ∷ acts) e = act_calls acts e

told_none : (rows : List NamedEvent) (acts : List Act) → (Contains acts Keep → ⊥) → list_any is_tentative (calls_told rows acts) ≡ false
told_none rows acts none = list_any-append is_tentative (flat_map call_of_row rows) (flat_map call_of_act acts) ∙ ap (λ (b : Bool). b || list_any is_tentative (flat_map call_of_act acts)) (row_calls rows) ∙ by_keeps (keeps acts) refl
  where
    by_keeps : (b : Bool) → keeps acts ≡ b → list_any is_tentative (flat_map call_of_act acts) ≡ false
    by_keeps true e = elim (none (in_kept acts e)) [ ]
    by_keeps false e = act_calls acts e

-- a restore among the acts is told
restore_in : (acts : List Act) → Contains acts Restore → list_any is_rollback (flat_map call_of_act acts) ≡ true
restore_in acts h = at_place acts h.0 h.1 h.2
  where
    at_place : (acts : List Act) (k : ℕ) → k < length acts → slice_index_or acts k Restore ≡ Restore → list_any is_rollback (flat_map call_of_act acts) ≡ true
    at_place [] k b e = absurd (omega (arith, b))
    at_place (Restore ∷ acts) k b e = refl
    at_place (Apply from body ∷ acts) zero b e = absurd (cc (e))
    at_place (Apply from body ∷ acts) (suc k) b e = at_place acts k (omega (arith, b)) e
    at_place (Keep ∷ acts) zero b e = absurd (cc (e))
    at_place (Keep ∷ acts) (suc k) b e = at_place acts k (omega (arith, b)) e
    at_place (Promote ∷ acts) zero b e = absurd (cc (e))
    at_place (Promote ∷ acts) (suc k) b e = at_place acts k (omega (arith, b)) e
    at_place (Discard ∷ acts) zero b e = absurd (cc (e))
    at_place (Discard ∷ acts) (suc k) b e = at_place acts k (omega (arith, b)) e
    at_place (Drop ∷ acts) zero b e = absurd (cc (e))
    at_place (Drop ∷ acts) (suc k) b e = at_place acts k (omega (arith, b)) e

told_restore : (rows : List NamedEvent) (acts : List Act) → Contains acts Restore → list_any is_rollback (calls_told rows acts) ≡ true
told_restore rows acts h = list_any-append is_rollback (flat_map call_of_row rows) (flat_map call_of_act acts) ∙ ap (λ (b : Bool). list_any is_rollback (flat_map call_of_row rows) || b) (restore_in acts h) ∙ or_true (list_any is_rollback (flat_map call_of_row rows))
  where
    or_true : (b : Bool) → (b || true) ≡ true
    or_true true = refl
    or_true false = refl

module _
    (calls : (y : NodeState) (x : Input) → (node_after y x).state.calls ≡ y.calls ++ calls_told (node_after y x).rows (node_after y x).acts)
    (saves : (y : NodeState) (x : Input) (able : Bool) → (Contains (node_after y (where_able able x)).acts Keep) ↔ ((would_save y x ≡ true) × (able ≡ true)))
  where
    none_kept : (y : NodeState) (x : Input) → where_able false x ≡ x → Contains (node_after y x).acts Keep → ⊥
    none_kept y x e k = clash true refl (sym ((saves y x false).0 (subst (λ (i : Input). Contains (node_after y i).acts Keep) (sym e) k)).1)

    keeps_none : (y : NodeState) (x : Input) (o : Object) → (o.live ≡ None → where_able false x ≡ x) → KeepsNone o (calls_told (node_after y x).rows (node_after y x).acts)
    keeps_none y x o able e = told_none (node_after y x).rows (node_after y x).acts (none_kept y x (able e))

    after : (y : NodeState) (x : Input) → histories (node_after y x).state.calls ≡ fold histories_after (histories y.calls) (calls_told (node_after y x).rows (node_after y x).acts)
    after y x = ap histories (calls y x) ∙ fold-append histories_after no_history y.calls (calls_told (node_after y x).rows (node_after y x).acts)

    pub due_step : (y : NodeState) (x : Input) (o : Object) → IsDue o (histories y.calls) → (o.live ≡ None → where_able false x ≡ x) → IsDue (object_did o (node_after y x)) (histories (node_after y x).state.calls)
    due_step y x o d able = subst (λ (h : Histories). IsDue (object_did o (node_after y x)) h) (sym (after y x)) (due_calls (calls_told (node_after y x).rows (node_after y x).acts) o (histories y.calls) d (keeps_none y x o able))

    pub restored_step : (y : NodeState) (x : Input) (o : Object) → IsDue o (histories y.calls) → (o.live ≡ None → where_able false x ≡ x) → Contains (node_after y x).acts Restore → (object_did o (node_after y x)).live ≡ Some (histories (node_after y x).state.calls).live
    restored_step y x o d able r = not_lost _ _ (due_step y x o d able).live
        (some_none _ (restored_calls (calls_told (node_after y x).rows (node_after y x).acts) o (histories y.calls) d (keeps_none y x o able) (told_restore (node_after y x).rows (node_after y x).acts r)))

    -- who has lost its object may send without it
    lost_due : (o : Object) (h g : Histories) → o.live ≡ None → g.tentative ≡ h.tentative → g.permanent ≡ h.permanent → IsDue o h → IsDue o g
    lost_due o h g e tentative permanent d = record { live = inl e; tentative = d.tentative ∙ ap (λ (l : List Call). Some l) (sym tentative); permanent = d.permanent ∙ ap (λ (l : List Call). Some l) (sym permanent) }

    one_due : (p : ℕ) (h : Holdings) (q : ℕ) (body : ℤ) (o : Object) → o.live ≡ None → IsDue o (histories h.node.calls) → IsDue o (histories (sending_one p h (input_at h.node (protocol.Send p q body) [])).node.calls)
    one_due p h q body o e d = go (is_step h.node (input.Send q body)) refl h.node.up
      where
        sent_due : (b : Bool) → IsDue o (histories (if b then sending h.node q body else refusing h.node verb.Send Down).state.calls)
        sent_due true = subst (λ (g : Histories). IsDue o g) (sym (more h.node.calls (sent q (h.node.used + 1)))) (lost_due o (histories h.node.calls) _ e refl refl d)
        sent_due false = d

        go : (a : Bool) → is_step h.node (input.Send q body) ≡ a → (b : Bool) → IsDue o (histories (sending_one p h (if a then Some (input.Send q body) else None)).node.calls)
        go true f b = rw f (sent_due h.node.up)
        go false f b = d

    again_due : (p : ℕ) (h : Holdings) (sends : List (ℕ × ℤ)) (o : Object) → o.live ≡ None → IsDue o (histories h.node.calls) → IsDue o (histories (sending_again p h sends).node.calls)
    again_due p h [] o e d = d
    again_due p h (x ∷ xs) o e d = again_due p (sending_one p h (input_at h.node (protocol.Send p x.0 x.1) [])) xs o e (one_due p h x.0 x.1 o e d)

    -- of all, and who is away has none
    pub record AreDue (w : KilledNet) (s : Objects) : Type 0 where
      pub memory : (p : ℕ) → IsDue (s.memory p) (histories (w.memory p).node.calls)
      pub disk : (p : ℕ) → IsDue (s.disk p) (histories (w.disk p).node.calls)
      pub gone : (p : ℕ) → w.away p ≡ true → (s.memory p).live ≡ None

    module _ (w : KilledNet) (s : Objects) (d : AreDue w s) where
      module _ (u : ℕ) (es : List Envelope) (i : Input) (back : w.away u ≡ false) (able : (s.memory u).live ≡ None → where_able false i ≡ i) where
        abbrev pub g : Holdings
        g = having_done u (w.memory u) es i

        abbrev pub ob : Object
        ob = object_did (s.memory u) (node_after (w.memory u).node i)

        own_due : IsDue ob (histories g.node.calls)
        own_due = due_step (w.memory u).node i (s.memory u) (d.memory u) able

        memory_due : (p : ℕ) → IsDue (at_one u ob s.memory p) (histories (at_one u g w.memory p).node.calls)
        memory_due = at_each (λ p. IsDue (at_one u ob s.memory p) (histories (at_one u g w.memory p).node.calls)) u (rw (is_same u) own_due) (λ p e. rw e (d.memory p))

        still_gone : (p : ℕ) → w.away p ≡ true → (at_one u ob s.memory p).live ≡ None
        still_gone = at_each (λ p. w.away p ≡ true → (at_one u ob s.memory p).live ≡ None) u (λ e. elim (clash (w.away u) e back) [ ]) (λ p e. rw e (d.gone p))

        written_due : AreDue (written (having w u g) u) (record { memory = at_one u ob s.memory; disk = at_one u ob s.disk })
        written_due = record {
          memory = memory_due;
          disk = at_each (λ p. IsDue (at_one u ob s.disk p) (histories (at_one u (at_one u g w.memory u) w.disk p).node.calls)) u (rw (is_same u) own_due) (λ p e. rw e (d.disk p));
          gone = still_gone;
        }

        plain_due : AreDue (having w u g) (record s { memory = at_one u ob s.memory })
        plain_due = record { memory = memory_due; disk = d.disk; gone = still_gone }

      stepping_due : (u : ℕ) (es : List Envelope) (o : Option Input) → IsTold s u o → AreDue (stepping w u es o) (objects_step w s u o)
      stepping_due u es None told = d
      stepping_due u es (Some i) told = by_away (w.away u) refl
        where
          by_protocol : w.away u ≡ false → (b : Bool) → AreDue (if b then written (having w u (having_done u (w.memory u) es i)) u else having w u (having_done u (w.memory u) es i))
              (if b then record { memory = at_one u (object_did (s.memory u) (node_after (w.memory u).node i)) s.memory; disk = at_one u (object_did (s.memory u) (node_after (w.memory u).node i)) s.disk }
              else record s { memory = at_one u (object_did (s.memory u) (node_after (w.memory u).node i)) s.memory })
          by_protocol back true = written_due u es i back told
          by_protocol back false = plain_due u es i back told

          by_away : (b : Bool) → w.away u ≡ b → AreDue (if b then w else if is_protocol (node_after (w.memory u).node i) then written (having w u (having_done u (w.memory u) es i)) u else having w u (having_done u (w.memory u) es i))
              (if b then s else if is_protocol (node_after (w.memory u).node i) then record { memory = at_one u (object_did (s.memory u) (node_after (w.memory u).node i)) s.memory; disk = at_one u (object_did (s.memory u) (node_after (w.memory u).node i)) s.disk }
              else record s { memory = at_one u (object_did (s.memory u) (node_after (w.memory u).node i)) s.memory })
          by_away true e = d
          by_away false e = by_protocol e (is_protocol (node_after (w.memory u).node i))

      killed_due : (u : ℕ) → AreDue (happens w (Killed u)) (record s { memory = at_one u (lost (s.disk u)) s.memory })
      killed_due u = record {
        memory = at_each (λ p. IsDue (at_one u (lost (s.disk u)) s.memory p) (histories (at_one u (w.disk u) w.memory p).node.calls)) u
            (rw (is_same u) (record { live = inl refl; tentative = (d.disk u).tentative; permanent = (d.disk u).permanent })) (λ p e. rw e (d.memory p));
        disk = d.disk;
        gone = at_each (λ p. at_one u true w.away p ≡ true → (at_one u (lost (s.disk u)) s.memory p).live ≡ None) u (rw (is_same u) (λ e. refl)) (λ p e. rw e (d.gone p));
      }

      writes_due : (u : ℕ) → AreDue (written w u) (record s { disk = at_one u (s.memory u) s.disk })
      writes_due u = record {
        memory = d.memory;
        disk = at_each (λ p. IsDue (at_one u (s.memory u) s.disk p) (histories (at_one u (w.memory u) w.disk p).node.calls)) u (rw (is_same u) (d.memory u)) (λ p e. rw e (d.disk p));
        gone = d.gone;
      }

      back_due : (u : ℕ) (sends : List (ℕ × ℤ)) (b : Bool) → w.away u ≡ b → AreDue (if b then coming_back w u sends else w) s
      back_due u sends false away = d
      back_due u sends true away = record {
        memory = at_each (λ p. IsDue (s.memory p) (histories (at_one u (sending_again u (w.memory u) sends) w.memory p).node.calls)) u
            (rw (is_same u) (again_due u (w.memory u) sends (s.memory u) (d.gone u away) (d.memory u))) (λ p e. rw e (d.memory p));
        disk = d.disk;
        gone = at_each (λ p. at_one u false w.away p ≡ true → (s.memory p).live ≡ None) u (rw (is_same u) (λ e. absurd (cc))) (λ p e. rw e (d.gone p));
      }

      due_event : (e : KillEvent) → SaysIt w s e → AreDue (happens w e) (objects_after w s e)
      due_event (Does x) told = stepping_due (stepper x) [] (input_at (w.memory (stepper x)).node x []) told
      due_event (Brought u q able life number) told = stepping_due u (brought w u q life number) (front_input q able (brought w u q life number)) told
      due_event (Writes u) told = writes_due u
      due_event (Killed u) told = killed_due u
      due_event (Back u sends) told = back_due u sends (w.away u) refl

    due_run : (w : KilledNet) (s : Objects) (es : List KillEvent) → AllSayIt w s es → AreDue w s → AreDue (killed_run w es) (objects_run w s es)
    due_run w s [] told d = d
    due_run w s (e ∷ es) told d = due_run (happens w e) (objects_after w s e) es told.1 (due_event w s d e told.0)

    pub all_due : (n first : ℕ) (es : List KillEvent) → AllSayIt (opening_killed n first) opening_objects es → AreDue (killed_run (opening_killed n first) es) (objects_run (opening_killed n first) opening_objects es)
    all_due n first es told = due_run (opening_killed n first) opening_objects es told (record { memory = λ p. new_due; disk = λ p. new_due; gone = λ p e. absurd (cc) })
      where
        new_due : IsDue new_object no_history
        new_due = record { live = inr refl; tentative = refl; permanent = refl }
