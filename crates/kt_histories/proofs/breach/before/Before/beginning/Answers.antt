use Rattle.std.proofs.Common.{◌≡◌, ◌∙◌, ℕ, Some, sym, ap}
use Rattle.kt_base.specs.declared.words.Kind.{Kind}
use Rattle.kt_spacetime.specs.declared.event.Event.{Event}
use Rattle.kt_spacetime.specs.declared.event.Event.TheVariants as event
use Rattle.kt_histories.specs.Finding.{IsFirstRow, begins_inst}
use Rattle.kt_histories.proofs.Begun.{begun_by_row, unbegun}
use Rattle.kt_histories.proofs.FoundRows.{begin_row}
use Rattle.kt_histories.proofs.Gives.{some_gives, none_gives}
use Rattle.kt_histories.proofs.breach.before.Before.beginning.Goals as goal

pub returns-in-None-clause-none : goal.returns-in-None-clause-none
returns-in-None-clause-none c = unbegun c.args.self.now.rows.now c.args.inst c.requires.before.legal c.in-None.ensures

-- two beginnings that are the same are of one instance
inst_same : {p q k j : ℕ} {x y : Kind} → event.Began p k x ≡ event.Began q j y → k ≡ j
inst_same e = cc

pub returns-in-Some-clause-known : goal.returns-in-Some-clause-known
returns-in-Some-clause-known c =
    let rows = c.args.self.now.rows.now in
    let first : IsFirstRow (begins_inst c.args.inst) rows c.in-Some.found.number c.in-Some.found.row = c.in-Some.ensures in
    let said = begin_row c.args.inst c.in-Some.found.row first.passes in
    some_gives c.begun_by.result _ _
    (λ b h. begun_by_row rows first.place b.p c.args.inst b.kind c.requires.before.legal
    (first.row_is ∙ ap (λ (x : Event). Some x) (h.2 ∙ ap (λ (n : ℕ). event.Began b.p n b.kind) (inst_same (sym h.2 ∙ said.2))))) c.begun_by.ensures.some

pub returns-in-Some-clause-none : goal.returns-in-Some-clause-none
returns-in-Some-clause-none c =
    let first : IsFirstRow (begins_inst c.args.inst) c.args.self.now.rows.now c.in-Some.found.number c.in-Some.found.row = c.in-Some.ensures in
    let b = begin_row c.args.inst c.in-Some.found.row first.passes in
    none_gives c.begun_by.result _ _ (λ none. absurd (none b.0 c.args.inst b.1 b.2)) c.begun_by.ensures.none
