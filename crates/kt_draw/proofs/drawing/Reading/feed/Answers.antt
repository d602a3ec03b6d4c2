use Rattle.std.proofs.Common.{arith, refl, sym}
use Rattle.kt_checker.proofs.FirstPlaces.{none_of, some_of}
use Rattle.kt_draw.proofs.Following.{reading_added, reading_broken, reading_on}
use Rattle.kt_draw.proofs.drawing.Reading.feed.Goals as goal

pub add-requires : goal.add-requires
add-requires c =
    let h = c.requires.few.1 in
    record { few = (h.kept, h.followed, omega (arith, h.read.within, c.requires.few.2)) }

pub returns-then-is_some : goal.returns-then-is_some
returns-then-is_some c = λ rows h.
    reading_on c.args.self.now _ c.args.span rows c.args.row.now h refl refl refl (some_of c.args.self.now.breach (sym c.if-is_some.ensures)) refl refl

pub returns-in_default : goal.returns-in_default
returns-in_default c = λ rows h.
    reading_added c.args.self.now _ c.args.span rows c.args.row.now h refl c.add.ensures.before c.add.ensures.last (none_of c.args.self.now.breach (sym c.if-is_some.ensures)) refl c.in_default.ensures.added

pub returns : goal.returns
returns c = λ rows h.
    let number = c.in-Broken._number in
    let rule = c.in-Broken.rule in
    reading_broken c.args.self.now _ c.args.span rows c.args.row.now h refl c.add.ensures.before c.add.ensures.last number rule (none_of c.args.self.now.breach (sym c.if-is_some.ensures)) refl (c.add.ensures.still number rule (cc)) (c.add.ensures.broken number rule (cc))
