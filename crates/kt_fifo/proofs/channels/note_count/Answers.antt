use Rattle.std.proofs.Common.{◌≡◌, ◌≢◌, ◌<◌, ◌+◌, ℕ, Bool, true, false, refl, arith, sym, ◌∙◌}
use Rattle.kt_base.specs.Sets.{has, count_of}
use Rattle.kt_fifo.proofs.Places.{same_count, one_came, one_went, few_members}
use Rattle.kt_fifo.proofs.channels.note_count.Goals as goal

equal_from : (a b : Bool) → mathlib.Core.Bool.beq a b ≡ true → a ≡ b
equal_from true true e = refl
equal_from true false e = cc
equal_from false true e = cc
equal_from false false e = refl

other_off : (a b : Bool) → mathlib.Core.Bool.beq a b ≡ false → a ≡ true → b ≡ false
other_off true true e on = cc
other_off true false e on = refl
other_off false b e on = cc

other_on : (a b : Bool) → mathlib.Core.Bool.beq a b ≡ false → a ≡ false → b ≡ true
other_on false true e off = refl
other_on false false e off = cc
other_on true b e off = cc

pub returns-then-has-clause-counted : goal.returns-then-has-clause-counted
returns-then-has-clause-counted c =
    c.requires.counted ∙ same_count c.args.before c.args.senders c.args.from c.requires.sender c.requires.others (sym c.has.ensures ∙ (equal_from _ _ c.if-has.true ∙ c.has-2.ensures))

module _ (before senders from : ℕ) (low : from < 64) (others : (q : ℕ) → q ≢ from → has senders q ≡ has before q) (is was again : Bool) (h : is ≡ has senders from) (k : was ≡ has before from) (apart : mathlib.Core.Bool.beq is was ≡ false) (m : again ≡ has senders from) where
  came : again ≡ true → count_of senders ≡ count_of before + 1
  came e =
      let on : has senders from ≡ true = sym m ∙ e in
      one_came before senders from low others on (sym k ∙ other_off is was apart (h ∙ on))

  went : again ≡ false → count_of before ≡ count_of senders + 1
  went e =
      let off : has senders from ≡ false = sym m ∙ e in
      one_went before senders from low others off (sym k ∙ other_on is was apart (h ∙ off))

pub add-requires : goal.add-requires
add-requires c =
    let more = came c.args.before c.args.senders c.args.from c.requires.sender c.requires.others c.has.result c.has-2.result c.has-3.result c.has.ensures c.has-2.ensures c.if-has.false c.has-3.ensures c.if-has-2.true in
    let few = few_members c.args.senders in
    let is = c.requires.counted in
    omega (arith, more, few, is)

pub remove-requires : goal.remove-requires
remove-requires c =
    let more = went c.args.before c.args.senders c.args.from c.requires.sender c.requires.others c.has.result c.has-2.result c.has-3.result c.has.ensures c.has-2.ensures c.if-has.false c.has-3.ensures c.if-has-2.false in
    let is = c.requires.counted in
    omega (arith, more, is)

pub returns-then-has-2-clause-counted : goal.returns-then-has-2-clause-counted
returns-then-has-2-clause-counted c =
    let more = came c.args.before c.args.senders c.args.from c.requires.sender c.requires.others c.has.result c.has-2.result c.has-3.result c.has.ensures c.has-2.ensures c.if-has.false c.has-3.ensures c.if-has-2.true in
    let is = c.requires.counted in
    let new = c.add.ensures.here in
    omega (arith, more, is, new)

pub returns-else-has-2-clause-counted : goal.returns-else-has-2-clause-counted
returns-else-has-2-clause-counted c =
    let more = went c.args.before c.args.senders c.args.from c.requires.sender c.requires.others c.has.result c.has-2.result c.has-3.result c.has.ensures c.has-2.ensures c.if-has.false c.has-3.ensures c.if-has-2.false in
    let is = c.requires.counted in
    let new = c.remove.ensures.here in
    omega (arith, more, is, new)
