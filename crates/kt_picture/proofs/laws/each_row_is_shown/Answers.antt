use Rattle.std.proofs.Common.{◌≡◌, ◌∙◌, ◌+◌, List, ap, take, drop, arith}
use Rattle.kt_spacetime.specs.declared.event.Event.{Event}
use Rattle.kt_spacetime.specs.Events.{process_of}
use Rattle.kt_meaning.specs.Past.{past}
use Rattle.kt_picture.specs.KnownAtRow.{seen_before}
use Rattle.kt_picture.specs.Window.{shown_of}
use Rattle.kt_picture.proofs.LawFacts.{shown_count}
use Rattle.kt_picture.proofs.ShownFacts.{place_in, shows_row, row_shown, before_shown}
use Rattle.kt_picture.proofs.laws.each_row_is_shown.Goals as goal

pub returns-clause-count : goal.returns-clause-count
returns-clause-count c = λ rows before. shown_count rows (seen_before (take before rows)) (drop before rows)

pub returns-clause-column : goal.returns-clause-column
returns-clause-column c = λ rows before i s e.
    let h = shows_row rows before i s e in
    let number : s.row ≡ before + s.column = omega (arith, h.number, h.column) in
    (h.column, number)

pub returns-clause-event : goal.returns-clause-event
returns-clause-event c = λ rows before s h.
    let at = place_in (shown_of rows before) s h in
    row_shown rows before at.0 s (shows_row rows before at.0 s at.1)

pub returns-clause-up : goal.returns-clause-up
returns-clause-up c = λ rows before s h.
    let at = place_in (shown_of rows before) s h in
    let v = shows_row rows before at.0 s at.1 in
    v.up ∙ ap (λ (l : List Event). (past l).up (process_of s.event)) (before_shown rows before at.0 s v)

pub returns-clause-bar : goal.returns-clause-bar
returns-clause-bar c = λ rows before s h.
    let at = place_in (shown_of rows before) s h in
    let v = shows_row rows before at.0 s at.1 in
    v.open_in ∙ ap (λ (l : List Event). (past l).open_in (process_of s.event)) (before_shown rows before at.0 s v)
