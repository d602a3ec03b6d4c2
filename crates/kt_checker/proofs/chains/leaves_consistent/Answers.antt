use Rattle.std.proofs.Common.{◌≡◌, ◌<◌, ℕ, false}
use Rattle.std.specs.List.{slice_index}
use Rattle.kt_base.specs.Sets.{has}
use Rattle.kt_meaning.specs.Past.{past}
use Rattle.kt_rules.proofs.OrphanFacts.{orphan_of}
use Rattle.kt_meaning.specs.Passing.{decided_cut, earlier_cut}
use Rattle.kt_checker.proofs.Chaining.{consistent_of, exact_search, orphan_at_changed}
use Rattle.kt_checker.proofs.Answering.{orphan_refutes}
use Rattle.kt_checker.proofs.Inside.{earlier_consistent, keeps_permanent}
use Rattle.kt_checker.proofs.chains.leaves_consistent.Goals as goal

pub returns-then-not-is_consistent : goal.returns-then-not-is_consistent
returns-then-not-is_consistent c = λ rows h before undecided ready.
    let certificate = c.args.certificate.now in
    let cut : ℕ → ℕ = slice_index c.cut_of-cut.result in
    let decided : ℕ → ℕ = decided_cut (past rows) certificate.inst certificate.kind in
    let same : (p : ℕ) → p < 64 → cut p ≡ decided p = λ p low. c.cut_of-cut.ensures rows p h ready low in
    let keeps = keeps_permanent rows certificate.inst certificate.kind c.cut_of-cut.result h.control.legal undecided same in
    exact_search c.orphan.result c.is_none.result _ _ _ c.is_none.ensures c.orphan.ensures.none c.orphan.ensures.orphan
    (λ none. consistent_of (past rows) cut decided same h.control.no_more (λ msg orphan. none rows msg h keeps orphan))
    (λ msg orphan. orphan_refutes (past rows) cut decided msg same h.control.no_more (orphan rows h))

pub returns : goal.returns
returns c = λ rows h before undecided ready.
    let certificate = c.args.certificate.now in
    let cut : ℕ → ℕ = slice_index c.cut_of-cut.result in
    let decided : ℕ → ℕ = decided_cut (past rows) certificate.inst certificate.kind in
    let same : (p : ℕ) → p < 64 → cut p ≡ decided p = λ p low. c.cut_of-cut.ensures rows p h ready low in
    let keeps = keeps_permanent rows certificate.inst certificate.kind c.cut_of-cut.result h.control.legal undecided same in
    let earlier = earlier_consistent rows certificate.kind h.control.legal (before c.if-not-is_consistent.false) in
    let unchanged : (p : ℕ) → p < 64 → has c.changed_in-changed.result p ≡ false → cut p ≡ earlier_cut (past rows) certificate.kind p = λ p low other. c.changed_in-changed.ensures rows p h low other in
    exact_search c.orphan_among.result c.is_none-2.result _ _ _ c.is_none-2.ensures c.orphan_among.ensures.none c.orphan_among.ensures.orphan
    (λ none. consistent_of (past rows) cut decided same h.control.no_more
    (orphan_at_changed (past rows) cut (earlier_cut (past rows) certificate.kind) c.changed_in-changed.result earlier unchanged h.control.no_more (λ p q m at orphan. none rows p q m h keeps at orphan)))
    (λ msg orphan.
    let between = orphan rows h in
    orphan_refutes (past rows) cut decided msg same h.control.no_more (orphan_of (past rows) cut between.0 between.1 msg between.2))
