use Rattle.std.proofs.Common.{rules, arith, ◌≡◌, ◌∙◌, ◌<◌, ◌==◌, [], Bool, false, ap, sym, length, get_or}
use Rattle.std.specs.Prelude.{if◌then◌else◌}
use Rattle.std.specs.String.{string_bytes}
use Rattle.kt_picture.specs.Evidence.{because, chain_word, reason}
use Rattle.kt_picture.proofs.Gathering.{gathers_item, gathers_all, same_piece, then_piece}
use Rattle.kt_picture.proofs.words.push_reason.Goals as goal

pub loop-msg-preserved : goal.loop-msg-preserved
loop-msg-preserved c =
    let items = c.chain_of-chain.result.now in
    let within : c.loop-msg.msg-index < length items = omega arith in
    let at : get_or items c.loop-msg.msg-index c.msg-item.result ≡ c.msg-item.result = search rules in
    gathers_item (chain_word c.args.page.now.names.now c.args.page.now.rows.now) (string_bytes c.write.new.self) (string_bytes c.loop-msg.text) (string_bytes c.push_link.new.text) items c.loop-msg.msg-index c.msg-item.result within at c.loop-msg.invariant c.in_ok-push_link.ensures

pub returns : goal.returns
returns c =
    let t0 = string_bytes c.args.text.now in
    let t1 = string_bytes c.write.new.self in
    let t2 = string_bytes c.loop-msg.text in
    let names = c.args.page.now.names.now in
    let rows = c.args.page.now.rows.now in
    let chain = c.chain_of-chain.result.now in
    let some : (length chain == 0) ≡ false = search rules in
    same_piece t0 t2 (because names rows chain) _
    (then_piece t0 t1 t2 _ _ c.in_ok-write.ensures.bytes (gathers_all (chain_word names rows) t1 t2 chain c.loop-msg.msg-index (omega arith) c.loop-msg.invariant))
    (ap (λ (b : Bool). if b then [] else because names rows chain) (sym some) ∙ ap (reason names rows) c.chain_of-chain.ensures)
