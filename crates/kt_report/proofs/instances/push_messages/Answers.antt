use Rattle.std.proofs.Common.{rules, arith, ◌≡◌, ◌<◌, ◌∷◌, ℕ, length, get_or}
use Rattle.kt_report.specs.Lines.{message_word}
use Rattle.kt_report.proofs.WordFacts.{words_more}
use Rattle.kt_report.proofs.instances.push_messages.Goals as goal

pub loop-msg-preserved : goal.loop-msg-preserved
loop-msg-preserved c =
    let messages = c.args.messages.now in
    let within : c.loop-msg.msg-index < length messages = omega arith in
    let at : get_or messages c.loop-msg.msg-index c.msg-item.result ≡ c.msg-item.result = search rules in
    words_more (λ (msg : ℕ). 32 ∷ message_word c.args.names.now c.args.rows.now msg) c.args.words.now.items messages c.loop-msg.words.items c.push_message.new.text.items
    c.loop-msg.msg-index c.msg-item.result within at c.loop-msg.invariant c.in_ok-push_message.ensures
