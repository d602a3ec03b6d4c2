use Rattle.std.proofs.Common.{List, length, arith, refl, sym, ap, ◌∙◌}
use Rattle.std.proofs.lemmas.Result.{on_ok_weaker, on_err_weaker}
use Rattle.kt_walk.specs.declared.in_transit.Sent.{Sent}
use Rattle.kt_walk.proofs.PickFacts.{shown_within, shown_picked, none_shown}
use Rattle.kt_walk.proofs.in_transit.InTransit.reserve.Goals as goal
use Rattle.kt_walk.proofs.in_transit.InTransit.reserve.Goals.{else-not-is_empty-via-then-not-is_empty+else-reserve_marked, else-not-is_empty-via-else-not-is_empty}

pub returns-then-reserve_marked-clause-ok : goal.returns-then-reserve_marked-clause-ok
returns-then-reserve_marked-clause-ok c =
    let same = ap (λ (l : List Sent). length l) c.reserve_marked.ensures.shown in
    omega (arith, same, c.if-reserve_marked.ensures.enough refl)

pub returns-clause-ok : goal.returns-clause-ok
returns-clause-ok c = on_ok_weaker c.reserve.result (λ le. omega (arith, le, shown_within c.else-not-is_empty.self-inside.marks.marks c.reserve.new.self.messages)) c.reserve.ensures.ok

pub returns-clause-full : goal.returns-clause-full
returns-clause-full c =
    let slots = c.self.inside.slots in
    let marks = c.self.inside.marks.marks in
    rw (← c.self.view_is)
    (on_err_weaker c.reserve.result (λ full. elim c.else-not-is_empty.branch [
      | else-not-is_empty-via-then-not-is_empty+else-reserve_marked w ↦
          let short = rw w.self-inside-is at full in
          let none = none_shown w.reserve_marked.new.marks.marks w.reserve_marked.new.slots.messages (w.if-reserve_marked.ensures.dropped refl) in
          let same = sym none ∙ w.reserve_marked.ensures.shown ∙ sym (shown_picked marks slots.messages (w.if-not-is_empty.ensures.some refl)) in
          let count = ap (λ (l : List Sent). length l) same in
          omega (arith, short, count, w.reserve_marked.ensures.room)
      | else-not-is_empty-via-else-not-is_empty w ↦
          let short = rw w.self-inside-is at full in
          let count = ap (λ (l : List Sent). length l) (none_shown marks slots.messages (w.if-not-is_empty.ensures.none refl)) in
          omega (arith, short, count)
    ]) c.reserve.ensures.full)
