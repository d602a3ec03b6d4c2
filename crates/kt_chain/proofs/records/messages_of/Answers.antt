use Rattle.std.proofs.Common.{◌≡◌, ◌≤◌, ◌∷◌, ◌++◌, [], ℕ, Bool, true, false, length, take, map, ap, sym, ◌∙◌, inr, refl, rules, tests, arith}
use Rattle.std.proofs.lemmas.Iterator.Consumers.{YieldsList-turn, YieldsList-end, YieldsList-at}
use Rattle.std.proofs.lemmas.Iterator.Splits.{YieldsList-from_slice_split}
use Rattle.std.proofs.lemmas.List.{length_push, length-map, take_all}
use Rattle.std.proofs.lemmas.List.Elements.{All-push}
use Rattle.kt_base.specs.Numbers.{IsMsgNo}
use Rattle.kt_chain.proofs.ChainFacts.{parts_in, no_number, reads_more, keeps_more, grows_long, if_few}
use Rattle.kt_chain.proofs.records.messages_of.Goals as goal
use Rattle.kt_chain.proofs.records.messages_of.Goals.{then-is_long, else-is_long}

pub returns-in_default-clause-fault : goal.returns-in_default-clause-fault
returns-in_default-clause-fault c =
    let road = YieldsList-at c.into_iter-part-iterator.ensures.into_iter_gives (YieldsList-from_slice_split _ _ c.args.text.now c.split-part-items.ensures.rest c.split-part-items.ensures.done c.split-part-items.ensures.closure (λ x r q k. search (rules, tests))) in
    let turn = YieldsList-turn road c.loop-part.yielded _ c.loop-part.yielded_by _ _ c.in-Some.part c.in-Some.is c.next.ensures.steps in
    inr (refl, no_number (parts_in c.args.text.now) (length c.loop-part.yielded) c.in-Some.part.now turn.0 (sym turn.1) c.in_default.ensures.none)

pub loop-part-preserved-in_ok-push : goal.loop-part-preserved-in_ok-push
loop-part-preserved-in_ok-push c =
    let road = YieldsList-at c.into_iter-part-iterator.ensures.into_iter_gives (YieldsList-from_slice_split _ _ c.args.text.now c.split-part-items.ensures.rest c.split-part-items.ensures.done c.split-part-items.ensures.closure (λ x r q k. search (rules, tests))) in
    let turn = YieldsList-turn road c.loop-part.yielded _ c.loop-part.yielded_by _ _ c.in-Some.part c.in-Some.is c.next.ensures.steps in
    let before = c.loop-part.invariant in
    let msg = c.in-Some-message_of.msg in (
      before.0 ++ msg ∷ [],
      All-push IsMsgNo before.0 msg before.1 c.in-Some-message_of.ensures.found.0,
      reads_more before.0 (parts_in c.args.text.now) (length c.loop-part.yielded) msg c.in-Some.part.now before.2 turn.0 (sym turn.1) c.in-Some-message_of.ensures.found.1
          ∙ ap (λ (n : ℕ). take n (parts_in c.args.text.now)) (sym (length_push c.loop-part.yielded c.in-Some.part)),
      rw c.in_ok-push.ensures.ok (keeps_more before.0 c.loop-part.chain c.loop-part.is_long msg before.3),
    )

pub loop-part-preserved : goal.loop-part-preserved
loop-part-preserved c =
    let full : 63 ≤ length c.loop-part.chain = omega (arith, c.if-messages.false, ap length c.messages.ensures) in
    let road = YieldsList-at c.into_iter-part-iterator.ensures.into_iter_gives (YieldsList-from_slice_split _ _ c.args.text.now c.split-part-items.ensures.rest c.split-part-items.ensures.done c.split-part-items.ensures.closure (λ x r q k. search (rules, tests))) in
    let turn = YieldsList-turn road c.loop-part.yielded _ c.loop-part.yielded_by _ _ c.in-Some.part c.in-Some.is c.next.ensures.steps in
    let before = c.loop-part.invariant in
    let msg = c.in-Some-message_of.msg in (
      before.0 ++ msg ∷ [],
      All-push IsMsgNo before.0 msg before.1 c.in-Some-message_of.ensures.found.0,
      reads_more before.0 (parts_in c.args.text.now) (length c.loop-part.yielded) msg c.in-Some.part.now before.2 turn.0 (sym turn.1) c.in-Some-message_of.ensures.found.1
          ∙ ap (λ (n : ℕ). take n (parts_in c.args.text.now)) (sym (length_push c.loop-part.yielded c.in-Some.part)),
      grows_long before.0 c.loop-part.chain c.loop-part.is_long msg full before.3,
    )

pub returns-clause-found : goal.returns-clause-found
returns-clause-found c =
    let all : map (λ part. part.now) c.loop-part.yielded ≡ parts_in c.args.text.now = (YieldsList-end (YieldsList-at c.into_iter-part-iterator.ensures.into_iter_gives (YieldsList-from_slice_split _ _ c.args.text.now c.split-part-items.ensures.rest c.split-part-items.ensures.done c.split-part-items.ensures.closure (λ x r q k. search (rules, tests)))) c.loop-part.yielded _ c.loop-part.yielded_by _ _ c.in-None.is c.next.ensures.steps).0 in
    let before = c.loop-part.invariant in
    let whole = before.2 ∙ take_all (length c.loop-part.yielded) (parts_in c.args.text.now) (omega (arith, ap length all, length-map c.loop-part.yielded (λ part. part.now))) in
    elim c.if-is_long.branch [
      | then-is_long w ↦ (before.0, before.1, whole, if_few before.0 c.loop-part.chain c.loop-part.is_long c.if-is_long.result before.3 (λ e. w.result-is) (λ e. absurd (same_bool w.if-is_long.true e)))
      | else-is_long w ↦ (before.0, before.1, whole, if_few before.0 c.loop-part.chain c.loop-part.is_long c.if-is_long.result before.3 (λ e. absurd (same_bool e w.if-is_long.false)) (λ e. w.result-is))
    ]
  where
    same_bool : {b : Bool} → b ≡ true → b ≡ false → ⊥
    same_bool e f = let never : true ≡ false = sym e ∙ f in cc
