use Rattle.std.proofs.Common.{arith, ◌<◌, length, refl}
use Rattle.std.proofs.lemmas.Option.{slice_get_read}
use Rattle.std.proofs.lemmas.Result.{on_ok_weaker}
use Rattle.kt_merge.specs.declared.tables.Gave.{Gave}
use Rattle.kt_merge.proofs.KeepingFacts.{shows_sent}
use Rattle.kt_merge.proofs.tables.Numbers.keep_sent.Goals as goal

pub returns : goal.returns
returns c = on_ok_weaker c.push_item.result
    (λ more g to body s.
    let within : c.index.result < length c.args.self.now.gave.items = omega (arith, s.all, c.index.ensures.in_range) in
    let at = slice_get_read c.args.self.now.gave.items (length c.args.self.now.gave.items) c.index.result c.index_mut.result.now refl within c.index_mut.ensures.value in
    let now : Gave = record { sent = c.push_item.new.items; begun = c.index_mut.result.now.begun } in
    shows_sent c.args.self.now.rows c.args.self.now.begun c.args.self.now.gave.items g c.args.p c.index.result c.after-msg.result to body c.index_mut.result.now now s c.requires c.index.ensures.value at c.after-msg.ensures more refl) c.push_item.ensures
