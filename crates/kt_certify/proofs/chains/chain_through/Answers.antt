use Rattle.std.proofs.Common.{ℕ, Some, List, length, refl, sym, ap, ◌∙◌}
use Rattle.std.proofs.lemmas.Option.{slice_get_read}
use Rattle.kt_meaning.specs.Past.{past}
use Rattle.kt_meaning.specs.Linking.{least_link}
use Rattle.kt_meaning.proofs.Through.{goes_through}
use Rattle.kt_certify.proofs.chains.chain_through.Goals as goal

pub returns-in-Some : goal.returns-in-Some
returns-in-Some c = λ rows h.
    let earlier = c.args.earlier.now in
    let at = slice_get_read earlier (length earlier) c.loop-q.q-index c.loop-q-item.result refl c.loop-q-test.true c.loop-q-item.is in
    ap (λ (l : List ℕ). Some l) c.in_ok-longer.ensures
    ∙ goes_through (least_link (past rows) c.args.inst c.args.kind c.args.p) earlier c.loop-q.q-index c.in-Some.msg c.loop-q-item.result at (sym c.in-Some.is ∙ c.link.ensures rows h) (c.loop-q.invariant rows h)
