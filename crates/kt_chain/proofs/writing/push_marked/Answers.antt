use Rattle.std.proofs.Common.{rules, arith, ◌≡◌, ◌<◌, ◌∙◌, ◌∷◌, ◌++◌, ℕ, ap, length, get_or}
use Rattle.std.specs.Fmt.{decimal}
use Rattle.kt_chain.proofs.WritingFacts.{marks_more}
use Rattle.kt_chain.proofs.writing.push_marked.Goals as goal

pub loop-msg-preserved : goal.loop-msg-preserved
loop-msg-preserved c =
    let messages = c.args.messages.now in
    let within : c.loop-msg.msg-index < length messages = omega arith in
    let at : get_or messages c.loop-msg.msg-index c.msg-item.result ≡ c.msg-item.result = search rules in
    let more = c.in_ok-push_number.ensures ∙ ap (λ (n : ℕ). c.loop-msg.words.items ++ 47 ∷ decimal n) c.get.ensures.value in
    marks_more c.args.words.now.items messages c.loop-msg.words.items c.push_number.new.text.items c.loop-msg.msg-index c.msg-item.result within at c.loop-msg.invariant more
