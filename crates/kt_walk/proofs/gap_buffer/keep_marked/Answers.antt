use Rattle.std.proofs.Common.{◌≡◌, ◌+◌, ◌<◌, ◌++◌, ◌∷◌, [], suc, List, ℕ, length, length-append, length-drop, append_assoc, take, drop, arith, sym, ap, ◌∙◌, rules, of_calls}
use Rattle.std.specs.VecDeque.{deque_len}
use Rattle.kt_walk.specs.declared.in_transit.Sent.{Sent}
use Rattle.kt_walk.specs.Marks.{pick}
use Rattle.kt_walk.proofs.PickFacts.{pick_all, first_left, more_picked, none_more}
use Rattle.kt_walk.proofs.gap_buffer.keep_marked.Goals as goal
use Rattle.kt_walk.proofs.gap_buffer.keep_marked.Goals.{in-Some+then-get, in-Some+else-get, in_default}

pub loop-index-preserved : goal.loop-index-preserved
loop-index-preserved c =
    let inv = c.loop-index.invariant in
    let marks = c.args.marks.now.marks in
    let xs = c.args.messages.now.items in
    let n = c.loop-index.index in
    let count : length c.args.messages.now.items ≡ c.len-index-end.result = search (rules, of_calls) in
    let low : c.loop-index.index < length c.args.messages.now.items = omega (arith, count, c.loop-index-test.true) in
    let next : suc c.loop-index.index ≡ c.loop-index.index + 1 = omega arith in
    elim c.match-pop_front.branch [
      | in-Some+then-get w ↦
          let x = w.in-Some.message in
          let there = first_left xs n x c.pop_front.new.self.items (pick (take n marks) (take n xs)) low (sym inv.messages ∙ w.in-Some.ensures.items) in
          let more = ap (λ (k : ℕ). pick (take k marks) (take k xs)) (sym next) ∙ more_picked marks xs n x there.0 (sym w.get.ensures ∙ w.if-get.true) in
          rw w.messages-is (record {
            messages = w.push_back_reserved.ensures.items
                ∙ ap (λ (l : List Sent). l ++ x ∷ []) there.1
                ∙ append_assoc (drop (n + 1) xs) (pick (take n marks) (take n xs)) (x ∷ [])
                ∙ ap (λ (l : List Sent). drop (n + 1) xs ++ l) (sym more);
            len = omega (arith, w.push_back_reserved.ensures.len, w.in-Some.ensures.len, inv.len);
            capacity = w.push_back_reserved.ensures.capacity ∙ w.in-Some.ensures.capacity ∙ inv.capacity;
          })
      | in-Some+else-get w ↦
          let x = w.in-Some.message in
          let there = first_left xs n x c.pop_front.new.self.items (pick (take n marks) (take n xs)) low (sym inv.messages ∙ w.in-Some.ensures.items) in
          let none = ap (λ (k : ℕ). pick (take k marks) (take k xs)) (sym next) ∙ none_more marks xs n x there.0 (sym w.get.ensures ∙ w.if-get.false) in
          rw w.messages-is (record {
            messages = there.1 ∙ ap (λ (l : List Sent). drop (n + 1) xs ++ l) (sym none);
            len = omega (arith, w.in-Some.ensures.len, inv.len);
            capacity = w.in-Some.ensures.capacity ∙ inv.capacity;
          })
      | in_default w ↦
          let held : length c.loop-index.messages.items ≡ deque_len c.loop-index.messages = search (rules, of_calls) in
          let left = ap (λ (l : List Sent). length l) inv.messages ∙ length-append (drop n xs) (pick (take n marks) (take n xs)) in
          absurd (omega (arith, held, left, length-drop n xs, low, w.in_default.ensures.cases.0))
    ]

pub returns-clause-messages : goal.returns-clause-messages
returns-clause-messages c =
    let count : length c.args.messages.now.items ≡ c.len-index-end.result = search (rules, of_calls) in
    c.loop-index.invariant.messages ∙ pick_all c.args.marks.now.marks c.args.messages.now.items c.loop-index.index (omega (arith, count, c.loop-index-test.false))
