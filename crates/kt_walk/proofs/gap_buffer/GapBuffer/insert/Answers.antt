use Rattle.std.proofs.Common.{rules, of_calls, ◌≡◌, ◌-◌, ◌++◌, insert, ap, sym, ◌∙◌}
use Rattle.std.proofs.lemmas.List.Edits.{insert-append_right}
use Rattle.kt_walk.proofs.gap_buffer.GapBuffer.insert.Goals as goal

pub returns-else-index-cursor-clause-messages : goal.returns-else-index-cursor-clause-messages
returns-else-index-cursor-clause-messages c =
    let items : c.insert.new.self.items ≡ insert c.seek.new.next.items (c.args.index - c.len-cursor.result) c.args.message = search (rules, of_calls) in
    let inserted : c.seek.new.passed.items ++ c.insert.new.self.items ≡ insert (c.seek.new.passed.items ++ c.seek.new.next.items) c.args.index c.args.message
    = ap (λ (l : _). c.seek.new.passed.items ++ l) items
    ∙ sym (insert-append_right c.seek.new.passed.items c.seek.new.next.items c.len-cursor.result c.args.index c.args.message (search (rules, of_calls)) (search (rules, of_calls))) in
    rw (← c.self.view_is) (inserted ∙ ap (λ (l : _). insert l c.args.index c.args.message) c.seek.ensures.messages)
