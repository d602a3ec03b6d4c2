use Rattle.std.proofs.Common.{◌≡◌, ◌≢◌, ◌∙◌, ◌<◌, ◌++◌, ℕ, ap, arith}
use Rattle.kt_manager.specs.Inboxes.{kept_of, held_of}
use Rattle.kt_node_text.specs.Form.{of_lists}
use Rattle.kt_node_text.proofs.OneAfterAnother.{stops}
use Rattle.kt_node_text.proofs.GatheredReads.{Lists, list_form, next_list, none_read, more_read, all_read}
use Rattle.kt_node_text.proofs.reading.lists.inbox.Goals as goal

pub loop-number-init : goal.loop-number-init
loop-number-init c = record {
  processes = c.in_ok-inbox.ensures.processes;
  none = λ q b. ap (λ (g : Lists). g q) c.in_ok-inbox.ensures.held;
  held = λ held kept after h k e. none_read held _ _ (of_lists c.args.size kept ++ after) _ (λ q. ap (λ (g : Lists). g q) c.in_ok-inbox.ensures.held) (c.again-held.ensures ∙ e);
  kept = λ held kept after h k e. none_read kept _ _ after _ (λ q. ap (λ (g : Lists). g q) c.in_ok-inbox.ensures.kept)
      (c.in_ok-skip_lists.ensures held (of_lists c.args.size kept ++ after) h e).1;
}

pub returns-in_err-skip_lists-clause-read : goal.returns-in_err-skip_lists-clause-read
returns-in_err-skip_lists-clause-read c = λ held kept after h k e.
    stops _ _ _ _ _ c.from_residual-in_err-skip_lists.ensures.1 (c.in_err-skip_lists.ensures held (of_lists c.args.size kept ++ after) h e)

pub returns-in_err-keep_items-clause-read : goal.returns-in_err-keep_items-clause-read
returns-in_err-keep_items-clause-read c = λ held kept after h k e.
    let n = c.loop-number.number in
    let b : n < c.args.size = omega (arith, c.loop-number-test.true) in
    let t = next_list (list_form kept) c.args.size n after _ b (c.loop-number.invariant.kept held kept after h k e).rest in
    stops _ _ _ _ _ c.from_residual-in_err-keep_items.ensures.1 (c.in_err-keep_items.ensures.read (kept n) t.0 (k n b) t.1)

pub returns-in_err-hold_items-clause-read : goal.returns-in_err-hold_items-clause-read
returns-in_err-hold_items-clause-read c = λ held kept after h k e.
    let n = c.loop-number.number in
    let b : n < c.args.size = omega (arith, c.loop-number-test.true) in
    let t = next_list (list_form held) c.args.size n (of_lists c.args.size kept ++ after) _ b (c.loop-number.invariant.held held kept after h k e).rest in
    stops _ _ _ _ _ c.from_residual-in_err-hold_items.ensures.1 (c.in_err-hold_items.ensures.read (held n) t.0 (h n b) t.1)

pub loop-number-preserved : goal.loop-number-preserved
loop-number-preserved c =
    let n = c.loop-number.number in
    let b : n < c.args.size = omega (arith, c.loop-number-test.true) in
    let inv = c.loop-number.invariant in
    let held_others : (q : ℕ) → q ≢ n → held_of c.hold_items.new.inbox q ≡ held_of c.keep_items.new.inbox q = rw c.nth-from.ensures at c.hold_items.ensures.others in
    let kept_others : (q : ℕ) → q ≢ n → kept_of c.keep_items.new.inbox q ≡ kept_of c.loop-number.inbox q = rw c.nth-from.ensures at c.keep_items.ensures.others in
    record {
      processes = c.hold_items.ensures.processes ∙ (c.keep_items.ensures.processes ∙ inv.processes);
      none = λ q more. held_others q (omega arith) ∙ (ap (λ (g : Lists). g q) c.keep_items.ensures.held ∙ inv.none q (omega arith));
      held = λ held kept after h k e.
          let t = next_list (list_form held) c.args.size n (of_lists c.args.size kept ++ after) _ b (inv.held held kept after h k e).rest in
          let made = c.in_ok-hold_items.ensures.read (held n) t.0 (h n b) t.1 in
          let here : held_of c.hold_items.new.inbox n ≡ held_of c.keep_items.new.inbox n ++ held n = rw c.nth-from.ensures at made.0 in
          more_read held c.args.size (of_lists c.args.size kept ++ after) n _ _ _ t.0 _ (inv.held held kept after h k e) t.2
          (λ q other. held_others q other ∙ ap (λ (g : Lists). g q) c.keep_items.ensures.held)
          (here ∙ ap (λ (g : Lists). g n ++ held n) c.keep_items.ensures.held, made.1);
      kept = λ held kept after h k e.
          let t = next_list (list_form kept) c.args.size n after _ b (inv.kept held kept after h k e).rest in
          let made = c.in_ok-keep_items.ensures.read (kept n) t.0 (k n b) t.1 in
          let here : kept_of c.keep_items.new.inbox n ≡ kept_of c.loop-number.inbox n ++ kept n = rw c.nth-from.ensures at made.0 in
          more_read kept c.args.size after n _ _ _ t.0 _ (inv.kept held kept after h k e) t.2
          (λ q other. ap (λ (g : Lists). g q) c.hold_items.ensures.kept ∙ kept_others q other)
          (ap (λ (g : Lists). g n) c.hold_items.ensures.kept ∙ here, made.1);
    }

pub returns-clause-read : goal.returns-clause-read
returns-clause-read c = λ held kept after h k e.
    let held_all = all_read held c.args.size (of_lists c.args.size kept ++ after) _ _ _ (c.loop-number.invariant.held held kept after h k e) (omega (arith, c.loop-number-test.false)) in
    let kept_all = all_read kept c.args.size after _ _ _ (c.loop-number.invariant.kept held kept after h k e) (omega (arith, c.loop-number-test.false)) in
    (λ q b. (held_all.0 q b, kept_all.0 q b), kept_all.1)
