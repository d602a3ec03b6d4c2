use Rattle.std.proofs.Common.{sym, ◌∙◌, ap}
use Rattle.kt_process.specs.Notes.{Noted, note_of}
use Rattle.kt_process.proofs.NoteLists.{note_next, note_found, note_last}
use Rattle.kt_process.proofs.notes.Notes.label.Goals as goal

pub returns-then-get : goal.returns-then-get
unfolding note_of
returns-then-get c =
    note_found _ _ _ c.args.process _ (c.deref-pair-items.ensures.value ∙ ap (λ (t : Noted). t.pairs) c.self.view_is) c.loop-pair-test.true c.pair-item.is
    (sym c.get.ensures.value ∙ (c.if-get.true ∙ c.get-in-loop-pair.ensures.value)) c.loop-pair.invariant

pub loop-pair-preserved : goal.loop-pair-preserved
loop-pair-preserved c =
    note_next _ _ _ c.args.process _ (c.deref-pair-items.ensures.value ∙ ap (λ (t : Noted). t.pairs) c.self.view_is) c.loop-pair-test.true c.pair-item.is
    (λ e. c.if-get.false (c.get.ensures.value ∙ (e ∙ sym c.get-in-loop-pair.ensures.value))) c.loop-pair.invariant

pub returns : goal.returns
unfolding note_of
returns c =
    sym (note_last _ _ _ c.args.process (c.deref-pair-items.ensures.value ∙ ap (λ (t : Noted). t.pairs) c.self.view_is) c.loop-pair-test.false c.loop-pair.invariant)
