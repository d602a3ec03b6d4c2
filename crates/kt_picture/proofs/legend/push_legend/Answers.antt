use Rattle.std.proofs.Common.{arith, ◌∙◌, ◌+◌, ◌*◌, ◌/◌, ◌%◌, ◌++◌, ◌∷◌, [], List, ap, codes, get_or}
use Rattle.std.proofs.lemmas.List.{take_all}
use Rattle.std.proofs.lemmas.Option.{slice_get-get_or}
use Rattle.std.specs.Fmt.{decimal}
use Rattle.std.specs.List.{concat}
use Rattle.std.specs.String.{string_bytes}
use Rattle.kt_picture.specs.declared.legend.Sign.{Sign}
use Rattle.kt_picture.specs.declared.legend.Sign.TheVariants.{Message}
use Rattle.kt_picture.specs.Legend.{legend_from}
use Rattle.kt_picture.specs.Looks.{path_text}
use Rattle.kt_picture.proofs.Gathering.{same_piece}
use Rattle.kt_picture.proofs.LegendFacts.{legend_more}
use Rattle.kt_picture.proofs.legend.push_legend.Goals as goal

pub loop-place-preserved : goal.loop-place-preserved
loop-place-preserved c =
    let signs = c.args.signs.now in
    let i = c.loop-place.place in
    let sign = get_or signs i Message in
    legend_more c.args.top signs i sign (string_bytes c.args.text.now) (string_bytes c.loop-place.text) (string_bytes c.writeln.new.self)
    (slice_get-get_or signs i Message c.loop-place-test.true) c.loop-place.invariant
    (same_piece (string_bytes c.loop-place.text) (string_bytes c.writeln.new.self) _ _ c.in_ok-writeln.ensures.bytes (λ j. concat (codes "<g transform='translate(" ∷ decimal (260 * (i % 2)) ∷ codes " " ∷ decimal (c.args.top + 18 * (i / 2)) ∷ codes ")'>" ∷ path_text (c.path-path.ensures j) ∷ codes "<text x='44' y='4'>" ∷ c.words-words.ensures j ∷ codes "</text></g>\n" ∷ [])))

pub returns : goal.returns
returns c =
    c.loop-place.invariant ∙ ap (λ (l : List Sign). string_bytes c.args.text.now ++ legend_from c.args.top 0 l) (take_all c.loop-place.place c.args.signs.now (omega arith))
