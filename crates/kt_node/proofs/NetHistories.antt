-- The histories of the nodes of a net, beside its log.
use Rattle.std.proofs.Common.{◌≡◌, ◌∙◌, ℕ, Some, None, List, sym, ap, subst}
use Rattle.kt_spacetime.specs.declared.event.Event.{Event}
use Rattle.kt_meaning.specs.Names.{numbered}
use Rattle.kt_meaning.specs.Past.{past}
use Rattle.kt_meaning.specs.Legal.{IsLegal}
use Rattle.kt_meaning.specs.Cuts.{part, permanent_cut}
use Rattle.kt_tables.specs.Calls.{Call}
use Rattle.kt_protocol.specs.States.{ProtocolStep, opening}
use Rattle.kt_protocol.specs.LateSteps.{late_run}
use Rattle.kt_machine.specs.Done.{done}
use Rattle.kt_machine.specs.Labelling.{labelling}
use Rattle.kt_machine.proofs.RunActs.{legal_late}
use Rattle.kt_manager.specs.Nodes.{NodeState}
use Rattle.kt_node.specs.Nets.{net_run, opening_net}
use Rattle.kt_node.specs.Erasing.{rows_from}
use Rattle.kt_node.specs.NodeHistories.{histories, GoesOn}
use Rattle.kt_node.specs.LoggedHistories.{messages_of, own_permanent}
use Rattle.kt_node.proofs.Runs.{nodes_shown, rows_numbered}
use Rattle.kt_node.proofs.CallHistories.{live_own, permanent_own, live_of_idle, permanent_of_idle, permanent_front}

module _ (n first : ℕ) (steps : List ProtocolStep) (p : ℕ) (log : List Event) (e : numbered (rows_from first (net_run (opening_net n first) steps).rows) ≡ Some log) where
  -- its rows are the log of the run
  same_log : (late_run (opening n) steps).log ≡ log
  same_log = let x : Some (late_run (opening n) steps).log ≡ Some log = sym (rows_numbered n first steps) ∙ e in cc (x)

  legal : IsLegal log
  legal = subst IsLegal same_log (legal_late n steps)

  -- and its calls are those that the log tells
  same_calls : (labelling first log).calls p ≡ ((net_run (opening_net n first) steps).nodes p).calls
  same_calls = ap (λ (x : List Event). (labelling first x).calls p) (sym same_log) ∙ ap (λ (y : NodeState). y.calls) (sym (nodes_shown n first steps p))

  pub net_live : (histories ((net_run (opening_net n first) steps).nodes p).calls).live ≡ messages_of first log ((done log).own p)
  net_live = subst (λ (cs : List Call). (histories cs).live ≡ messages_of first log ((done log).own p)) same_calls (live_own first log legal p)

  pub net_permanent : (histories ((net_run (opening_net n first) steps).nodes p).calls).permanent ≡ messages_of first log (own_permanent log p)
  net_permanent = subst (λ (cs : List Call). (histories cs).permanent ≡ messages_of first log (own_permanent log p)) same_calls (permanent_own first log legal p)

  pub net_live_idle : (past log).open_in p ≡ None → (histories ((net_run (opening_net n first) steps).nodes p).calls).live ≡ messages_of first log ((past log).live p)
  net_live_idle o = subst (λ (cs : List Call). (histories cs).live ≡ messages_of first log ((past log).live p)) same_calls (live_of_idle first log legal p o)

  pub net_permanent_idle : (past log).open_in p ≡ None → (histories ((net_run (opening_net n first) steps).nodes p).calls).permanent ≡ messages_of first log (part (past log) (permanent_cut (past log)) p)
  net_permanent_idle o = subst (λ (cs : List Call). (histories cs).permanent ≡ messages_of first log (part (past log) (permanent_cut (past log)) p)) same_calls (permanent_of_idle first log legal p o)

  pub net_permanent_within : GoesOn (histories ((net_run (opening_net n first) steps).nodes p).calls).permanent (messages_of first log (part (past log) (permanent_cut (past log)) p))
  net_permanent_within = subst (λ (cs : List Call). GoesOn (histories cs).permanent (messages_of first log (part (past log) (permanent_cut (past log)) p))) same_calls (permanent_front first log legal p)
