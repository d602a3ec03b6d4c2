use Rattle.std.proofs.Common.{rules, ◌≡◌, ◌++◌, ◌∷◌, [], ◌*◌, ◌+◌, ◌-◌, take, drop, length, length-append, arith, ap, ◌∙◌}
use Rattle.std.specs.Prelude.{FitsSigned}
use Rattle.std.specs.Int.{w64}
use Rattle.std.proofs.lemmas.Int.{to_z-of_z}
use Rattle.std.proofs.lemmas.List.Elements.{All-push}
use Rattle.kt_object.proofs.NumbersLemmas.{read_more, last_eight-few}
use Rattle.kt_object.proofs.numbers.numbers_at.Goals as goal

pub loop-place-preserved : goal.loop-place-preserved
loop-place-preserved c =
    let fits : FitsSigned w64 c.number_at.result = search rules in
    let pushed : c.push.new.self ≡ c.loop-place.numbers ++ c.number_at.result ∷ [] =
    rw (to_z-of_z w64 _ fits) at c.push.ensures ∙ last_eight-few c.loop-place.numbers c.number_at.result (search rules) in
    let eight : (8 * c.loop-place.place + 8) - 8 * c.loop-place.place ≡ 8 = omega arith in
    record {
      read = rw pushed (read_more c.args.bytes.now c.loop-place.numbers c.loop-place.place c.number_at.result c.loop-place.invariant.read (c.number_at.ensures ∙ ap (λ n. take n (drop (8 * c.loop-place.place) c.args.bytes.now)) eight));
      count = omega (arith, ap length pushed, length-append c.loop-place.numbers (c.number_at.result ∷ []));
      fit = rw pushed (All-push (λ number. FitsSigned w64 number) c.loop-place.numbers c.number_at.result c.loop-place.invariant.fit fits);
    }
