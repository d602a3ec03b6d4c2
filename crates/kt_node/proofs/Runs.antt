-- Each run of a net is one of the machine in which a commit takes effect late.
use Rattle.std.proofs.Common.{◌≡◌, ◌∙◌, ℕ, Some, List, [], ◌∷◌, ◌++◌, refl, sym, ap, subst, append_assoc}
use Rattle.std.proofs.lemmas.List.{append-nil}
use Rattle.kt_tables.specs.Calls.{Speaks}
use Rattle.kt_protocol.specs.States.{ProtocolStep, State, opening}
use Rattle.kt_protocol.specs.LateSteps.{late_step, late_run}
use Rattle.kt_machine.specs.Seen.{Seen, seen_parcels, seen}
use Rattle.kt_machine.specs.Transition.{transition}
use Rattle.kt_machine.proofs.GrowingLogs.{step_grown}
use Rattle.kt_machine.proofs.RunFacts.{speaks}
use Rattle.kt_machine.proofs.Runs.{seen_next}
use Rattle.kt_spacetime.specs.declared.names.InstName.{InstName}
use Rattle.kt_meaning.specs.Names.{numbered}
use Rattle.kt_manager.specs.Nodes.{NodeState}
use Rattle.kt_node.specs.Nets.{Net, net_step, net_run, opening_net}
use Rattle.kt_node.specs.Erasing.{name_in, erased_parcels, erased_process, erased_node, rows_from}
use Rattle.kt_node.proofs.Naming.{IsNaming, naming_of_log}
use Rattle.kt_node.proofs.Told.{given}
use Rattle.kt_node.proofs.Done.{Shows}
use Rattle.kt_node.proofs.Commands.{naming_of_grown}
use Rattle.kt_node.proofs.Steps.{shows_step}
use Rattle.kt_node.proofs.Owed.{AreOpen, IsDue, told_opening}
use Rattle.kt_node.proofs.Dues.{open_shown, due_next}

net_push : (w : Net) (steps : List ProtocolStep) (x : ProtocolStep) → net_run w (steps ++ x ∷ []) ≡ net_step (net_run w steps) x
net_push w [] x = refl
net_push w (s ∷ steps) x = net_push (net_step w s) steps x

pub late_push : (c : State) (steps : List ProtocolStep) (x : ProtocolStep) → late_run c (steps ++ x ∷ []) ≡ late_step (late_run c steps) x
late_push c [] x = refl
late_push c (s ∷ steps) x = late_push (late_step c s) steps x

module _ (n first : ℕ) where
  -- after some steps a net is what is seen, by whichever names its log gives
  abbrev AreShown : List ProtocolStep → Type 0
  AreShown steps = (name : ℕ → InstName) → IsNaming name (given (late_run (opening n) steps).log)
      → (count : ℕ → ℕ) × Shows name first count (net_run (opening_net n first) steps) (seen first (late_run (opening n) steps))

  shown_first : AreShown []
  unfolding seen_parcels
  shown_first name named = (
    λ u. 0,
    record {
      nodes = λ u. refl;
      channels = λ u t. refl;
      told = record { numbers = refl; begun_is = refl; counts = λ u. refl; naming = named };
    },
  )

  abbrev pub AreDue : List ProtocolStep → Type 0
  AreDue steps = IsDue (late_run (opening n) steps) (net_run (opening_net n first) steps)

  shown_next : (steps : List ProtocolStep) (x : ProtocolStep) → AreShown steps → AreDue steps → AreShown (steps ++ x ∷ [])
  shown_next steps x h due name named =
      let v = seen first (late_run (opening n) steps) in
      let later = subst (λ (u : Seen). IsNaming name (given u.log)) (seen_next n first steps x) named in
      let before = h name (naming_of_grown name v.log (transition v x) (step_grown v x) later) in
      let after = shows_step n first steps name before.0 (net_run (opening_net n first) steps) before.1 due x later in (
        after.0,
        subst (λ (w : Net). Shows name first after.0 w (seen first (late_run (opening n) (steps ++ x ∷ [])))) (sym (net_push (opening_net n first) steps x))
            (subst (λ (u : Seen). Shows name first after.0 (net_step (net_run (opening_net n first) steps) x) u) (sym (seen_next n first steps x)) after.1),
      )

  due_first : AreDue []
  due_first = record { told = told_opening n first; replied = λ p q a. refl }

  -- as its log names
  named_so : (steps : List ProtocolStep) → AreShown steps → (count : ℕ → ℕ) × Shows (name_in (late_run (opening n) steps).log) first count (net_run (opening_net n first) steps) (seen first (late_run (opening n) steps))
  named_so steps h = h (name_in (late_run (opening n) steps).log) (naming_of_log (late_run (opening n) steps).log)

  due_after : (steps : List ProtocolStep) (x : ProtocolStep) → AreShown steps → AreDue steps → AreShown (steps ++ x ∷ []) → AreDue (steps ++ x ∷ [])
  due_after steps x h due next =
      let s = named_so steps h in
      let z = named_so (steps ++ x ∷ []) next in
      let w = net_run (opening_net n first) steps in
      let net = net_push (opening_net n first) steps x in
      let late = late_push (opening n) steps x in
      let opened = open_shown (name_in (late_run (opening n) (steps ++ x ∷ [])).log) first z.0 (net_run (opening_net n first) (steps ++ x ∷ [])) (late_run (opening n) (steps ++ x ∷ [])) z.1 in
      let there = subst (λ (u : Net). AreOpen (late_step (late_run (opening n) steps) x) u) net (subst (λ (c : State). AreOpen c (net_run (opening_net n first) (steps ++ x ∷ []))) late opened) in
      let d = due_next n first steps (name_in (late_run (opening n) steps).log) s.0 w s.1 due x there in
      subst (λ (c : State). IsDue c (net_run (opening_net n first) (steps ++ x ∷ []))) (sym late) (subst (λ (u : Net). IsDue (late_step (late_run (opening n) steps) x) u) (sym net) d)

  -- both
  abbrev AreBoth : List ProtocolStep → Type 0
  AreBoth steps = AreShown steps × AreDue steps

  both_next : (steps : List ProtocolStep) (x : ProtocolStep) → AreBoth steps → AreBoth (steps ++ x ∷ [])
  both_next steps x h = let next = shown_next steps x h.0 h.1 in (next, due_after steps x h.0 h.1 next)

  both_along : (xs ys : List ProtocolStep) → AreBoth xs → AreBoth (xs ++ ys)
  both_along xs [] h = subst AreBoth (sym (append-nil xs)) h
  both_along xs (y ∷ ys) h = subst AreBoth (append_assoc xs (y ∷ []) ys) (both_along (xs ++ y ∷ []) ys (both_next xs y h))

  pub due_run : (steps : List ProtocolStep) → AreDue steps
  due_run steps = (both_along [] steps (shown_first, due_first)).1

  pub shown : (steps : List ProtocolStep) → (count : ℕ → ℕ) × Shows (name_in (late_run (opening n) steps).log) first count (net_run (opening_net n first) steps) (seen first (late_run (opening n) steps))
  shown steps = named_so steps (both_along [] steps (shown_first, due_first)).0

  pub nodes_shown : (steps : List ProtocolStep) (p : ℕ) → (net_run (opening_net n first) steps).nodes p ≡ erased_node (name_in (late_run (opening n) steps).log) (seen first (late_run (opening n) steps)) p ((net_run (opening_net n first) steps).nodes p).asks ((net_run (opening_net n first) steps).nodes p).answered
  nodes_shown steps p =
      let s = shown steps in
      let v = seen first (late_run (opening n) steps) in
      s.1.nodes p ∙ ap (λ (m : ℕ). erased_process (name_in (late_run (opening n) steps).log) v.processes p m (v.states p) (λ q. v.held q p) (λ q. v.kept q p) ((net_run (opening_net n first) steps).nodes p).asks ((net_run (opening_net n first) steps).nodes p).answered) (s.1.told.counts p)

  pub channels_shown : (steps : List ProtocolStep) (p q : ℕ) → (net_run (opening_net n first) steps).channel p q ≡ erased_parcels (name_in (late_run (opening n) steps).log) ((seen first (late_run (opening n) steps)).channel p q)
  channels_shown steps p q = let s = shown steps in s.1.channels p q

  pub rows_numbered : (steps : List ProtocolStep) → numbered (rows_from first (net_run (opening_net n first) steps).rows) ≡ Some (late_run (opening n) steps).log
  rows_numbered steps = let s = shown steps in s.1.told.numbers

  -- tables answer for each node's calls
  pub speaks_shown : (steps : List ProtocolStep) (p : ℕ) → Speaks ((net_run (opening_net n first) steps).nodes p).calls
  speaks_shown steps p = subst Speaks (sym (ap (λ (y : NodeState). y.calls) (nodes_shown steps p))) (speaks n first steps p)

  pub speaks_next : (steps : List ProtocolStep) (x : ProtocolStep) (p : ℕ) → Speaks ((net_step (net_run (opening_net n first) steps) x).nodes p).calls
  speaks_next steps x p = subst (λ (w : Net). Speaks (w.nodes p).calls) (net_push (opening_net n first) steps x) (speaks_shown (steps ++ x ∷ []) p)
