use Rattle.std.proofs.Common.{◌∙◌, ◌<◌, ◌++◌, ◌∷◌, [], arith, length, get_or, refl, sym}
use Rattle.std.proofs.lemmas.List.{length-set}
use Rattle.std.proofs.lemmas.Option.{slice_get-get_or, slice_get_within}
use Rattle.kt_meaning.proofs.Items.{get_set_other, set_mapped}
use Rattle.kt_picture.specs.declared.entry.Entry.{Entry}
use Rattle.kt_picture.specs.Followed.{IsFollowed, message_in, plain_of}
use Rattle.kt_picture.proofs.DiagramFacts.{set_each}
use Rattle.kt_picture.proofs.entry.follow.Goals as goal

pub loop-entry-preserved : goal.loop-entry-preserved
loop-entry-preserved c =
    let inv = c.loop-entry.invariant in
    let xs = c.loop-entry.entries in
    let i = c.loop-entry.entry-index in
    let x = get_or xs i c.entry-item.result in
    let y : Entry = record { plain = x.plain; message = c.followed-entry.result } in
    let within : i < length xs = omega (arith, inv.all, c.loop-entry-test.true) in
    let here = slice_get-get_or xs i c.entry-item.result within in
    record {
      all = length-set _ _ _ ∙ inv.all;
      plain = set_mapped plain_of xs i x y here refl ∙ inv.plain;
      done = λ rows k e w f low at. set_each (IsFollowed (rows ++ c.args.row.now ∷ [])) xs i y within (λ m v l a. inv.done rows m v w f l a)
          (c.followed-entry.ensures rows (message_in x.plain.row x.plain.event) w (f i x (sym (inv.to_do i (omega arith)) ∙ here))) k e low at;
      to_do = λ k high. get_set_other xs i k y (λ same. omega (arith, same, high)) ∙ inv.to_do k (omega (arith, high));
    }

pub returns-clause-followed : goal.returns-clause-followed
returns-clause-followed c = λ rows w f k e at.
    let inv = c.loop-entry.invariant in
    inv.done rows k e w f (omega (arith, inv.all, slice_get_within c.loop-entry.entries k e at, c.loop-entry-test.false)) at
