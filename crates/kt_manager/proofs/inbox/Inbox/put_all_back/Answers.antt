use Rattle.std.proofs.Common.{◌≡◌, ◌∙◌, refl, arith}
use Rattle.kt_manager.specs.Inboxes.{kept_of, held_of, nothing}
use Rattle.kt_manager.proofs.InTurn.{up_one, up_all, none_back, same_back}
use Rattle.kt_manager.proofs.inbox.Inbox.put_all_back.Goals as goal

pub loop-number-preserved : goal.loop-number-preserved
loop-number-preserved g c =
    let inv = c.loop-number.invariant in
    let here : c.nth-from.result ≡ c.loop-number.number = c.nth-from.ensures in
    record {
      processes = c.put_back.ensures.processes ∙ inv.processes;
      kept = up_one nothing _ _ (kept_of c.loop-number.self) _ _ inv.kept (rw here at c.put_back.ensures.kept) refl;
      held = λ most said.
          up_one _ _ _ (held_of c.loop-number.self) _ _ (inv.held most said) (rw here at c.put_back.ensures.held)
          (same_back _ _ _ _ _ _ (said _ c.noted.result (omega (arith, c.processes-number-end.ensures.processes)) (rw here at c.noted.ensures)) (inv.kept.left _ (omega arith)) ((inv.held most said).left _ (omega arith)));
      space = c.put_back.ensures.space ∙ inv.space;
    }

pub returns-clause-held : goal.returns-clause-held
returns-clause-held g c = λ most said.
    up_all _ _ (held_of c.args.self.now) (held_of c.loop-number.self) (c.loop-number.invariant.held most said)
    (λ q l. none_back most c.args.self.now q (omega (arith, c.processes-number-end.ensures.processes)))
