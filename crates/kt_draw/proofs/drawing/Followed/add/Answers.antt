use Rattle.std.proofs.Common.{◌≤◌, Some, arith, length, refl, subst, sym}
use Rattle.std.proofs.lemmas.Result.{on_ok_weaker}
use Rattle.kt_picture.proofs.DiagramFacts.{columns_few}
use Rattle.kt_walk.specs.WalkOf.{WalkOf}
use Rattle.kt_walk.specs.WalkParts.{WalkParts}
use Rattle.kt_draw.specs.declared.drawing.Followed.{Followed}
use Rattle.kt_draw.specs.Followed.{FollowedOf}
use Rattle.kt_draw.proofs.Following.{followed_added, followed_closed, followed_left, followed_passed, open_diagram}
use Rattle.kt_draw.proofs.drawing.Followed.add.Goals as goal

pub returns-then-rows-self-clause-added : goal.returns-then-rows-self-clause-added
returns-then-rows-self-clause-added c =
    on_ok_weaker c.pass.result
    (λ step rows h. followed_passed c.args.self.now _ rows c.args.row.now refl refl refl h (omega (arith, c.if-rows-self.true, c.rows-rows.ensures.rows, h.walk.control.number)) (step rows))
    c.pass.ensures.passed

pub add-requires-clause-short : goal.add-requires-clause-short
add-requires-clause-short c =
    let f = c.args.self.now in
    let rows = c.requires.few.0 in
    let h = c.requires.few.1 in
    omega (arith, columns_few f.diagram f.walk _ _ (open_diagram f.sheet f.diagram f.walk f.before f.last rows (omega (arith, c.if-rows-self-2.true, c.rows-rows.ensures.rows, h.walk.control.number)) h.window), h.walk.control.number, c.requires.few.2)

pub returns-then-rows-self-2-clause-added : goal.returns-then-rows-self-2-clause-added
returns-then-rows-self-2-clause-added c =
    on_ok_weaker c.add.result
    (λ step rows h. followed_added c.args.self.now _ rows c.args.row.now refl refl refl h (omega (arith, c.if-rows-self.false, c.rows-rows.ensures.rows, h.walk.control.number)) (omega (arith, c.if-rows-self-2.true, c.rows-rows.ensures.rows, h.walk.control.number)) step)
    c.add.ensures.added

pub returns-clause-added : goal.returns-clause-added
returns-clause-added c =
    let f = c.args.self.now in
    on_ok_weaker c.feed.result
    (λ step rows h.
    let late : f.last ≤ length rows = omega (arith, c.if-rows-self-2.false, c.rows-rows.ensures.rows, h.walk.control.number) in
    let s = c.sheet.new.self in
    let g : Followed = record { alloc = s.alloc; walk = s.walk; diagram = s.diagram; sheet = Some c.in_ok-sheet.sheet; before = s.before; last = s.last } in
    let closed : FollowedOf g rows = followed_closed f g c.in_ok-sheet.sheet rows refl c.sheet.ensures.walk c.sheet.ensures.before c.sheet.ensures.last late (c.in_ok-sheet.ensures.exact rows h (omega (arith, h.some, late))) h in
    followed_left g _ rows c.args.row.now refl refl refl closed c.in_ok-sheet.sheet refl (omega (arith, c.sheet.ensures.last, late)) (step rows closed.walk).1)
    c.feed.ensures.fed

pub returns-clause-broken : goal.returns-clause-broken
returns-clause-broken c = λ number rule e rows h.
    let f = c.args.self.now in
    let late : f.last ≤ length rows = omega (arith, c.if-rows-self-2.false, c.rows-rows.ensures.rows, h.walk.control.number) in
    (c.feed.ensures.broken number rule e rows (subst (λ (w : WalkParts). WalkOf w rows) (sym c.sheet.ensures.walk) h.walk)).1
