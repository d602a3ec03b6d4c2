use Rattle.std.proofs.Common.{◌∷◌, ℕ}
use Rattle.std.proofs.lemmas.Bool.Decides.{Decides-eqb}
use Rattle.std.proofs.lemmas.Result.{on_ok_weaker}
use Rattle.std.proofs.lemmas.Slice.Eq.{starts_is}
use Rattle.kt_report.specs.Lines.{message_word}
use Rattle.kt_report.proofs.WordFacts.{words_on}
use Rattle.kt_report.proofs.instances.retell.Goals as goal

pub returns-then-starts_with : goal.returns-then-starts_with
returns-then-starts_with c =
    let told = c.args.told.now in
    let chain = c.args.chain.now in
    let on = (starts_is Decides-eqb chain told c.starts_with.result c.starts_with.ensures.value).0 c.if-starts_with.true in
    on_ok_weaker c.push_messages.result (λ h. words_on (λ (msg : ℕ). 32 ∷ message_word c.args.names.now c.args.rows.now msg) told chain c.args.words.now.items
    c.push_messages.new.words.items on c.requires h) c.push_messages.ensures
