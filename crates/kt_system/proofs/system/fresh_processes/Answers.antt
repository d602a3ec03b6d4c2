use Rattle.std.specs.Prelude.{All}
use Rattle.std.proofs.Common.{List, ◌+◌, ℕ, ap, sym, subst, ◌∙◌, length}
use Rattle.std.proofs.lemmas.List.{length_push}
use Rattle.std.proofs.lemmas.List.Elements.{All-push}
use Rattle.kt_process.specs.ProcessStates.{ProcessState}
use Rattle.kt_process.specs.Turns.{IsFresh}
use Rattle.kt_system.proofs.system.fresh_processes.Goals as goal

pub loop-number-preserved : goal.loop-number-preserved
loop-number-preserved c = record {
  length = ap (λ (l : List ProcessState). length l) c.in_ok-push.ensures.items ∙ (length_push c.loop-number.list.items c.in_ok-new.field-0 ∙ ap (λ (m : ℕ). m + 1) c.loop-number.invariant.length);
  fresh = subst (λ (l : List ProcessState). All (IsFresh c.args.processes c.args.used) l) (sym c.in_ok-push.ensures.items)
      (All-push (IsFresh c.args.processes c.args.used) c.loop-number.list.items c.in_ok-new.field-0 c.loop-number.invariant.fresh c.in_ok-new.ensures);
}
