use Rattle.std.proofs.Common.{◌≡◌, ◌≢◌, ◌<◌, ◌≤◌, ◌+◌, ℕ, suc, Bool, true, false, List, [], refl, sym, subst, length, take, drop, arith}
use Rattle.std.specs.Prelude.{slice_index, ◌↔◌}
use Rattle.kt_picture.specs.Layers.{cut_text}
use Rattle.kt_picture.specs.View.{View}
use Rattle.std.proofs.lemmas.List.{length-drop}
use Rattle.std.proofs.lemmas.Option.{slice_get_within}
use Rattle.kt_spacetime.specs.declared.event.Event.TheVariants.{Decided}
use Rattle.kt_picture.specs.Places.{IsPermanentColumn}
use Rattle.kt_picture.specs.KnownAtRow.{seen_before}
use Rattle.kt_picture.specs.Window.{cuts_of}
use Rattle.kt_picture.proofs.ShownFacts.{place_in}
use Rattle.kt_picture.proofs.ColumnFacts.{column_is, position_is, no_position, cut_new, cut_nth, cut_instances}
use Rattle.kt_picture.proofs.laws.cuts_are_permanent.Goals as goal

pub returns-clause-one_each : goal.returns-clause-one_each
returns-clause-one_each c = λ rows before. cut_instances (seen_before (take before rows)) (drop before rows)

pub returns-clause-changes : goal.returns-clause-changes
returns-clause-changes c = λ rows before j cut at. cut_new (seen_before (take before rows)) (drop before rows) j cut at

drawn : (view : View) (inst : ℕ) (columns : List ℕ) (b : Bool)
    → (cut_text view (record { inst = inst; columns = columns; is_new = b }) ≢ []) ↔ (b ≡ true)
drawn view inst columns true = (λ n. refl, λ h none. absurd (cc))
drawn view inst columns false = (λ n. absurd (n refl), λ h. absurd (cc))

pub returns-clause-drawn : goal.returns-clause-drawn
returns-clause-drawn c = λ view cut. drawn view cut.inst cut.columns cut.is_new

pub returns-clause-through : goal.returns-clause-through
returns-clause-through c = λ rows before cut legal h.
    let at = place_in (cuts_of rows before) cut h in
    let row = cut_nth (seen_before (take before rows)) (drop before rows) at.0 cut at.1 in
    let low : row.0 < length (drop before rows) = slice_get_within (drop before rows) row.0 (Decided row.1 cut.inst true) row.2 in
    let within : before ≤ length rows = omega (arith, low, length-drop before rows) in
    let high : suc row.0 ≤ length (drop before rows) = omega (arith, low) in
    let number : before + suc row.0 ≡ before + row.0 + 1 = omega arith in (
      row.0,
      row.1,
      row.2,
      λ q few.
          subst (λ (n : ℕ). IsPermanentColumn rows before n q (slice_index cut.columns q)) number
          (subst (λ (l : List ℕ). IsPermanentColumn rows before (before + suc row.0) q (slice_index l q)) (sym row.3)
          (column_is rows before q (suc row.0) legal few within high)),
    )

pub returns-clause-position : goal.returns-clause-position
returns-clause-position c = λ rows n p row legal within h. position_is rows p n row legal within h

pub returns-clause-no_position : goal.returns-clause-no_position
returns-clause-no_position c = λ rows n p legal within none. no_position rows p n legal within none
