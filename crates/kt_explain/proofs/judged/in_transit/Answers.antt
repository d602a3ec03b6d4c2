use Rattle.std.proofs.Common.{◌≡◌, ◌+◌, ◌∙◌, ◌++◌, ◌∷◌, [], ℕ, List, Option, Some, None, true, length, refl, sym, ap, subst, arith, rules}
use Rattle.std.specs.Prelude.{◌↔◌, Contains}
use Rattle.std.specs.Option.{option_to_list}
use Rattle.std.proofs.lemmas.List.{append-nil, length-append}
use Rattle.kt_base.specs.Sets.{has}
use Rattle.kt_rules.proofs.Replayed.{row_read}
use Rattle.kt_explain.proofs.Receivers.{receivers_to, receivers_more, none_yet, with_one}
use Rattle.kt_explain.proofs.judged.in_transit.Goals as goal
use Rattle.kt_explain.proofs.judged.in_transit.Goals.{in-Some, in_default}

none_of : (o : Option ℕ) → ((x : ℕ) → o ≡ Some x → ⊥) → o ≡ None
none_of None never = refl
none_of (Some x) never = absurd (never x refl)

pub loop-place-init : goal.loop-place-init
loop-place-init c = record {
  few = omega arith;
  count = search rules;
  receivers = none_yet c.empty.result c.empty.ensures;
}

pub loop-place-preserved : goal.loop-place-preserved
loop-place-preserved c =
    let rows = c.args.rows.now in
    let i = c.loop-place.place in
    let to = c.receiver.result in
    let at = row_read rows i c.index-rows-place.result c.loop-place-test.true c.index-rows-place.is in
    let more = receivers_more rows i c.index-rows-place.result to at (c.receiver.ensures rows c.requires.histories) in
    elim c.match-receiver.branch [
      | in-Some w ↦
          let one : receivers_to rows (i + 1) ≡ receivers_to rows i ++ w.in-Some.to ∷ [] = more ∙ ap (λ (o : Option ℕ). receivers_to rows i ++ option_to_list o) w.in-Some.is in
          rw w.transit-is (record {
            few = omega (arith, c.loop-place.invariant.few);
            count = ap (λ (n : ℕ). n + 1) c.loop-place.invariant.count ∙ (sym (length-append (receivers_to rows i) (w.in-Some.to ∷ [])) ∙ ap length (sym one));
            receivers = λ q. subst (λ (list : List ℕ). has w.with-transit.result q ≡ true ↔ Contains list q) (sym one)
                (with_one c.loop-place.transit.receivers w.with-transit.result w.in-Some.to (receivers_to rows i) w.with-transit.ensures.added w.with-transit.ensures.others c.loop-place.invariant.receivers q);
          })
      | in_default w ↦
          let same : receivers_to rows (i + 1) ≡ receivers_to rows i =
          more ∙ (ap (λ (o : Option ℕ). receivers_to rows i ++ option_to_list o) (none_of to w.in_default.not-Some) ∙ append-nil (receivers_to rows i))
          in
          rw w.transit-is (record {
            few = omega (arith, c.loop-place.invariant.few);
            count = c.loop-place.invariant.count ∙ ap length (sym same);
            receivers = λ q. subst (λ (list : List ℕ). has c.loop-place.transit.receivers q ≡ true ↔ Contains list q) (sym same) (c.loop-place.invariant.receivers q);
          })
    ]

pub returns : goal.returns
returns c =
    let all : c.loop-place.place ≡ length c.args.rows.now = omega (arith, c.loop-place-test.false) in
    record {
      count = c.loop-place.invariant.count ∙ ap (λ (n : ℕ). length (receivers_to c.args.rows.now n)) all;
      receivers = λ q. subst (λ (n : ℕ). has c.loop-place.transit.receivers q ≡ true ↔ Contains (receivers_to c.args.rows.now n) q) all (c.loop-place.invariant.receivers q);
    }
