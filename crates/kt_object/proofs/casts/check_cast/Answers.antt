use Rattle.std.proofs.Common.{rules, ◌≡◌, ◌<◌, ◌∙◌, ℕ, arith, take, length, length-take}
use Rattle.std.specs.Prelude.{slice_index}
use Rattle.std.proofs.lemmas.List.{get_or-take}
use Rattle.kt_plan.specs.Failures.{failures_of}
use Rattle.kt_object.proofs.CastFacts.{sizes_are, sizes_are_not, kind_is, kind_is_not}
use Rattle.kt_object.proofs.casts.check_cast.Goals as goal
use Rattle.kt_object.proofs.casts.check_cast.Goals.{After-has_sizes}

-- the counts of the processes that there are
long : (g : _) (c : After-has_sizes g) → length (take (length c.args.kinds.now) c.failures-failures.result) ≡ length c.args.kinds.now
long g c = simp length-take (let r = c.requires in let s = c.failures-failures.ensures.size in omega (arith, r, s))

counted : (g : _) (c : After-has_sizes g) (q : ℕ) → q < length c.args.kinds.now
    → slice_index (take (length c.args.kinds.now) c.failures-failures.result) q ≡ failures_of c.args.commands.now q
counted g c q l =
    get_or-take (length c.args.kinds.now) c.failures-failures.result q 0 l
    ∙ c.failures-failures.ensures.counts q (let r = c.requires in omega (arith, r, l))

pub returns-then-not-has_sizes-clause-size : goal.returns-then-not-has_sizes-clause-size
returns-then-not-has_sizes-clause-size g c = λ e.
    let s = (goal.at.returns-then-not-has_sizes-clause-size g c).After-has_sizes in
    sizes_are_not _ _ c.args.cast.now c.args.kinds.now c.args.commands.now (take (length c.args.kinds.now) c.failures-failures.result)
    (long g s) (counted g s) (c.has_sizes.ensures.no c.if-not-has_sizes.true)

pub returns-in-Some-clause-kind_sizes : goal.returns-in-Some-clause-kind_sizes
returns-in-Some-clause-kind_sizes g c = λ e.
    let s = (goal.at.returns-in-Some-clause-kind_sizes g c).After-has_sizes in
    sizes_are _ _ c.args.cast.now c.args.kinds.now c.args.commands.now (take (length c.args.kinds.now) c.failures-failures.result)
    (long g s) (counted g s) (c.has_sizes.ensures.yes (search rules))

pub returns-in-Some-clause-kind : goal.returns-in-Some-clause-kind
returns-in-Some-clause-kind g c = λ p e.
    let s = (goal.at.returns-in-Some-clause-kind g c).After-has_sizes in
    let found : c.in-Some.p ≡ p = cc (e, c.nth.ensures) in
    let sized = c.has_sizes.ensures.yes (search rules) in
    let inside = c.in-Some.ensures.inside in (
      omega (arith, found, inside),
      λ has. kind_is_not _ _ c.args.cast.now c.args.kinds.now c.in-Some.p (let h = sized.0 in let k = long g s in omega (arith, h, k, inside))
          c.in-Some.ensures.other (rw (← found) at has),
    )

pub returns-in-Some-clause-least : goal.returns-in-Some-clause-least
returns-in-Some-clause-least g c = λ p q e below.
    let s = (goal.at.returns-in-Some-clause-least g c).After-has_sizes in
    let found : c.in-Some.p ≡ p = cc (e, c.nth.ensures) in
    let sized = c.has_sizes.ensures.yes (search rules) in
    let inside = c.in-Some.ensures.inside in
    kind_is _ _ c.args.cast.now c.args.kinds.now q (let h = sized.0 in let k = long g s in omega (arith, h, k, inside, below, found))
    (λ row. c.in-Some.ensures.least q row (omega (arith, below, found)))

pub returns-in-None-clause-sizes : goal.returns-in-None-clause-sizes
returns-in-None-clause-sizes g c =
    let s = (goal.at.returns-in-None-clause-sizes g c).After-has_sizes in
    sizes_are _ _ c.args.cast.now c.args.kinds.now c.args.commands.now (take (length c.args.kinds.now) c.failures-failures.result)
    (long g s) (counted g s) (c.has_sizes.ensures.yes (search rules))

pub returns-in-None-clause-kinds : goal.returns-in-None-clause-kinds
returns-in-None-clause-kinds g c = λ p l.
    let s = (goal.at.returns-in-None-clause-kinds g c).After-has_sizes in
    let sized = c.has_sizes.ensures.yes (search rules) in
    kind_is _ _ c.args.cast.now c.args.kinds.now p (let h = sized.0 in let k = long g s in omega (arith, h, k, l)) (λ row. c.in-None.ensures.none p row l)
