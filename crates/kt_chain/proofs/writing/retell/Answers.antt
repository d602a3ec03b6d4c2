use Rattle.std.proofs.Common.{◌≡◌, length, take}
use Rattle.std.proofs.lemmas.Bool.Decides.{Decides-eqb}
use Rattle.std.proofs.lemmas.Result.{on_ok_weaker}
use Rattle.std.proofs.lemmas.Slice.Eq.{starts_is}
use Rattle.kt_chain.proofs.WritingFacts.{marks_on}
use Rattle.kt_chain.proofs.writing.retell.Goals as goal

pub returns-then-starts_with : goal.returns-then-starts_with
returns-then-starts_with c =
    let told = c.args.told.now in
    let messages = c.args.messages.now in
    let on = (starts_is Decides-eqb messages told c.starts_with.result c.starts_with.ensures.value).0 c.if-starts_with.true in
    on_ok_weaker c.push_marked.result (λ h. marks_on told messages c.args.words.now.items c.push_marked.new.words.items on c.requires h) c.push_marked.ensures
