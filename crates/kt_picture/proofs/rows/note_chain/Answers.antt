use Rattle.std.proofs.Common.{rules, arith, ◌≡◌, ◌∙◌, ◌<◌, ◌+◌, ◌==◌, ℕ, List, length, get_or, take, ap, subst}
use Rattle.std.specs.Prelude.{◌||◌}
use Rattle.std.proofs.lemmas.List.{take_all}
use Rattle.std.proofs.lemmas.List.Folds.{list_any_more}
use Rattle.kt_picture.specs.Evidence.{has_message}
use Rattle.kt_picture.specs.Links.{NotesMore}
use Rattle.kt_picture.proofs.LinkFacts.{notes_none, notes_next}
use Rattle.kt_picture.proofs.rows.note_chain.Goals as goal

pub loop-msg-init : goal.loop-msg-init
loop-msg-init c = notes_none c.args.noted.now c.args.inst

pub loop-msg-preserved : goal.loop-msg-preserved
loop-msg-preserved c =
    let chain = c.args.chain.now in
    let i = c.loop-msg.msg-index in
    let x = c.msg-item.result in
    let within : i < length chain = omega (arith, c.loop-msg-test.true) in
    let at : get_or chain i x ≡ x = search rules in
    notes_next c.args.noted.now c.loop-msg.noted c.note.new.noted c.args.inst (λ m. has_message m (take i chain)) (λ m. x == m) (λ m. has_message m (take (i + 1) chain)) c.loop-msg.invariant c.note.ensures
    (λ m. list_any_more (λ (y : ℕ). y == m) chain i x within ∙ ap (λ (y : ℕ). has_message m (take i chain) || y == m) at)

pub returns : goal.returns
returns c =
    subst (λ (l : List ℕ). NotesMore c.args.noted.now c.loop-msg.noted c.args.inst (λ msg. has_message msg l)) (take_all c.loop-msg.msg-index c.args.chain.now (omega arith)) c.loop-msg.invariant
