use Rattle.std.proofs.Common.{◌≡◌, ℕ, Bool, true, false, Option, Some, None, is_some, refl}
use Rattle.std.specs.Prelude.{◌||◌}
use Rattle.kt_picture.specs.declared.looks.Look.{Look}
use Rattle.kt_picture.specs.declared.looks.Look.TheVariants as look
use Rattle.kt_picture.specs.Marks.{arrow_look, colour_for, is_grey, stands_out}
use Rattle.kt_picture.proofs.laws.arrows_look_as_they_end.Goals as goal

grey : (u t o l : Bool) → o ≡ false → is_grey (arrow_look u t o l) ≡ (u || t)
grey u t true l e = absurd (cc)
grey true true false l e = refl
grey false true false l e = refl
grey true false false l e = refl
grey false false false true e = refl
grey false false false false e = refl

taken_back : (u t o l : Bool) → t ≡ true → is_grey (arrow_look u t o l) ≡ true
taken_back true true o l e = refl
taken_back false true o l e = refl
taken_back u false o l e = absurd (cc)

orphan : (u t o l : Bool) → t ≡ false → o ≡ true → arrow_look u t o l ≡ look.Orphan
orphan u true o l e f = absurd (cc)
orphan u false false l e f = absurd (cc)
orphan true false true l e f = refl
orphan false false true l e f = refl

coloured : (u t o : Bool) (link : Option ℕ) (inst : ℕ) → link ≡ Some inst → u ≡ false → t ≡ false → o ≡ false → colour_for (arrow_look u t o (is_some link)) link ≡ Some inst
coloured u t o None inst e a b d = absurd (cc)
coloured true t o (Some k) inst e a b d = absurd (cc)
coloured false true o (Some k) inst e a b d = absurd (cc)
coloured false false true (Some k) inst e a b d = absurd (cc)
coloured false false false (Some k) inst e a b d = e

uncoloured : (x : Look) (link : Option ℕ) → is_grey x ≡ true → colour_for x link ≡ None
uncoloured look.Linked link e = absurd (cc)
uncoloured look.Up link e = refl
uncoloured look.Down link e = refl
uncoloured look.Bar link e = refl
uncoloured look.Message link e = refl
uncoloured look.Unsent link e = refl
uncoloured look.Unreceived link e = refl
uncoloured look.Vanished link e = refl
uncoloured look.Orphan link e = refl
uncoloured _ link e = refl

unlinked : (x : Look) (link : Option ℕ) → link ≡ None → colour_for x link ≡ None
unlinked look.Linked link e = e
unlinked _ link e = refl

pub returns-clause-grey : goal.returns-clause-grey
returns-clause-grey c = λ view s msg e. grey s.is_undone s.is_taken_back (stands_out view.orphan msg) (is_some (view.link msg)) e

pub returns-clause-taken_back : goal.returns-clause-taken_back
returns-clause-taken_back c = λ view s msg e. taken_back s.is_undone s.is_taken_back (stands_out view.orphan msg) (is_some (view.link msg)) e

pub returns-clause-orphan : goal.returns-clause-orphan
returns-clause-orphan c = λ view s msg e f. orphan s.is_undone s.is_taken_back (stands_out view.orphan msg) (is_some (view.link msg)) e f

pub returns-clause-coloured : goal.returns-clause-coloured
returns-clause-coloured c = λ view s msg inst e a b d. coloured s.is_undone s.is_taken_back (stands_out view.orphan msg) (view.link msg) inst e a b d

pub returns-clause-uncoloured : goal.returns-clause-uncoloured
returns-clause-uncoloured c = λ view s msg e. uncoloured (arrow_look s.is_undone s.is_taken_back (stands_out view.orphan msg) (is_some (view.link msg))) (view.link msg) e

pub returns-clause-unlinked : goal.returns-clause-unlinked
returns-clause-unlinked c = λ view s msg e. unlinked (arrow_look s.is_undone s.is_taken_back (stands_out view.orphan msg) (is_some (view.link msg))) (view.link msg) e
