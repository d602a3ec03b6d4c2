use Rattle.std.proofs.Common.{◌≡◌, ◌+◌, refl, sym, ap, map, subst, ◌∙◌, length, take, drop, Some}
use Rattle.std.specs.List.{slice_get}
use Rattle.std.proofs.lemmas.List.{take_all}
use Rattle.std.proofs.lemmas.Option.{slice_get_read}
use Rattle.kt_meaning.specs.Past.{past}
use Rattle.kt_meaning.proofs.Items.{take_item}
use Rattle.kt_meaning.specs.Passing.{IsChain}
use Rattle.kt_checker.specs.Followed.{IsPath, IsPathOf, message_of}
use Rattle.kt_checker.proofs.Chaining.{chain_more}
use Rattle.kt_checker.proofs.Links.{no_way, around}
use Rattle.kt_checker.proofs.Following.{path_front, path_pushed, path_of_pushed}
use Rattle.kt_checker.proofs.chains.follow.Goals as goal

pub loop-index-init : goal.loop-index-init
loop-index-init c =
    let certificate = c.args.certificate.now in
    let messages : map message_of c.truncate.new.self ≡ take c.front-known.result c.args.messages.now = ap (map message_of) c.truncate.ensures ∙ c.front-known.ensures.same in
    record {
      path = λ rows h path. subst (IsPath (past rows) certificate) (sym c.truncate.ensures) (path_front (past rows) certificate c.args.path.now c.front-known.result path);
      path_of = λ less. messages;
      led = λ rows h path. subst (λ l. IsChain (past rows) certificate.inst certificate.kind certificate.initiator l c.end_of-at.result) messages
          (c.end_of-at.ensures (past rows) certificate refl (subst (IsPath (past rows) certificate) (sym c.truncate.ensures) (path_front (past rows) certificate c.args.path.now c.front-known.result path)));
    }

pub loop-index-preserved : goal.loop-index-preserved
loop-index-preserved c =
    let certificate = c.args.certificate.now in
    let messages = c.args.messages.now in
    let inv = c.loop-index.invariant in
    let i = c.loop-index.index in
    let msg = c.index-messages-index.result in
    let at = slice_get_read messages (length messages) i msg refl c.loop-index-test.true c.index-messages-index.is in
    let more = take_item messages i (i + 1) msg refl at in
    rw more (record {
      path = λ rows h path. path_pushed (past rows) certificate c.loop-index.path c.push.new.self (take i messages) (record { msg = msg; to = c.in-Some.next }) c.loop-index.at c.push.ensures.room c.push.ensures.full (inv.path rows h path) inv.path_of (inv.led rows h path) (c.in-Some.ensures.found rows h);
      path_of = path_of_pushed c.loop-index.path c.push.new.self (take i messages) (record { msg = msg; to = c.in-Some.next }) c.push.ensures.room c.push.ensures.full inv.path_of;
      led = λ rows h path. chain_more (past rows) certificate.inst certificate.kind certificate.initiator c.loop-index.at c.in-Some.next msg (take i messages) (inv.led rows h path) (c.in-Some.ensures.found rows h);
    })

pub returns-in_default-clause-none : goal.returns-in_default-clause-none
returns-in_default-clause-none c = λ rows at h path l whole.
    let certificate = c.args.certificate.now in
    let messages = c.args.messages.now in
    let i = c.loop-index.index in
    let msg = c.index-messages-index.result in
    let there : slice_get messages i ≡ Some msg = slice_get_read messages (length messages) i msg refl c.loop-index-test.true c.index-messages-index.is in
    no_way rows certificate.inst certificate.kind certificate.initiator (take i messages) msg (drop (i + 1) messages) c.loop-index.at at l (c.loop-index.invariant.led rows h path) (λ next. c.in_default.ensures.none rows next h l)
    (subst (λ chain. IsChain (past rows) certificate.inst certificate.kind certificate.initiator chain at) (around messages i msg there) whole)

pub returns-clause-found : goal.returns-clause-found
returns-clause-found c = λ rows h path.
    let certificate = c.args.certificate.now in
    subst (λ chain. IsChain (past rows) certificate.inst certificate.kind certificate.initiator chain c.loop-index.at) (take_all c.loop-index.index c.args.messages.now c.loop-index-test.false) (c.loop-index.invariant.led rows h path)

pub returns-clause-path : goal.returns-clause-path
returns-clause-path c = λ rows h path. c.loop-index.invariant.path rows h path

pub returns-clause-path_of : goal.returns-clause-path_of
returns-clause-path_of c = subst (IsPathOf c.loop-index.path) (take_all c.loop-index.index c.args.messages.now c.loop-index-test.false) c.loop-index.invariant.path_of
