use Rattle.std.proofs.Common.{rules, ℕ, ◌≡◌, ◌<◌, ◌∷◌, [], ◌++◌, ◌∙◌, ap, map, length, arith, subst, vec_len}
use Rattle.std.specs.Prelude.{IsSome, IfSome, Some, Err}
use Rattle.std.proofs.lemmas.Grind.{common_steps}
use Rattle.std.proofs.lemmas.List.Elements.{All-push}
use Rattle.std.specs.Vec.Iter.{into_iter_items}
use Rattle.kt_object.specs.Holdings.{content, first_holding, Holds}
use Rattle.kt_object.specs.Refusals.{IsLeastRefused}
use Rattle.kt_object.proofs.Rejected.{first_in, firsts_more}
use Rattle.kt_object.proofs.Lists.{item_in, place_in, zip_more, zip_length}
use Rattle.kt_object.proofs.casts.begin_rows.Goals as goal
use Rattle.kt_object.proofs.casts.begin_rows.Goals.{After-len-place}

-- these objects are a row of the cast
split : (g : _) (c : After-len-place g) → (c.loop-objects.yielded ++ c.in-Some.objects ∷ []) ++ into_iter_items c.next.new.self ≡ c.args.cast.items
split g c = grind (arith, common_steps)

at_place : (g : _) (c : After-len-place g) → c.len-place.result ≡ length c.loop-objects.yielded
at_place g c =
    let m : c.len-place.result ≡ length c.loop-objects.helds.items = search rules in
    m ∙ zip_length _ _ _ c.loop-objects.invariant.objects

within : (g : _) (c : After-len-place g) → c.len-place.result < length c.args.cast.items
within g c = place_in _ _ _ _ _ (split g c) (at_place g c)

some_there : (g : _) (c : After-len-place g) → 0 < length c.in-Some.objects.items
some_there g c =
    let p = c.len-place.result in
    rw (item_in _ _ c.args.cast.items c.in-Some.objects c.in-Some.objects p (split g c) (at_place g c)) at (c.requires.some p c.in-Some.objects (within g c))

pub begin-requires : goal.begin-requires
begin-requires g c =
    let h = some_there g c in
    let v : vec_len c.in-Some.objects ≡ length c.in-Some.objects.items = search rules in
    omega (arith, h, v)

pub loop-objects-preserved : goal.loop-objects-preserved
loop-objects-preserved g c =
    let e = c.in-Ok.ensures in
    record {
      can = tt;
      ends = tt;
      split = grind (arith, common_steps);
      objects = rw c.in_ok-push-in-Ok.ensures.items (zip_more _ c.loop-objects.yielded c.loop-objects.helds.items c.in-Some.objects c.in-Ok.held c.loop-objects.invariant.objects e.objects);
      saved = firsts_more (λ row. row.items) (λ b. (goal.Recoverable-dyn g (b.vtable, b.value)).may_save b.value) c.loop-objects.yielded (into_iter_items c.next.new.self) c.args.cast.items c.in-Some.objects
          (split g (goal.at.loop-objects-preserved g c).After-len-place) c.loop-objects.invariant.saved
          (first_in (λ row. row.items) (λ b. (goal.Recoverable-dyn g (b.vtable, b.value)).may_save b.value) c.loop-objects.yielded (into_iter_items c.next.new.self) c.args.cast.items c.in-Some.objects
          (split g (goal.at.loop-objects-preserved g c).After-len-place) (some_there g (goal.at.loop-objects-preserved g c).After-len-place) e.able);
      holds = rw c.in_ok-push-in-Ok.ensures.items (All-push
          (λ h. IsSome h.present × IfSome h.present (λ b.
          Holds (first_holding (content ((goal.Recoverable-dyn g (b.vtable, b.value)).kind_of b.value) ((goal.Recoverable-dyn g (b.vtable, b.value)).value_of b.value)))
          (Some (content ((goal.Recoverable-dyn g (b.vtable, b.value)).kind_of b.value) ((goal.Recoverable-dyn g (b.vtable, b.value)).value_of b.value))) h.depot))
          c.loop-objects.helds.items c.in-Ok.held c.loop-objects.invariant.holds (e.there, e.holds));
    }

pub overflow_cast-place : goal.overflow_cast-place
overflow_cast-place g c =
    let l = within g (goal.at.overflow_cast-place g c).After-len-place in
    let r = c.requires.few in
    omega (arith, l, r)

pub nth-requires : goal.nth-requires
nth-requires g c =
    let l = within g (goal.at.nth-requires g c).After-len-place in
    let r = c.requires.few in
    omega (arith, l, r)

pub returns-in-Err-Unable-clause-place : goal.returns-in-Err-Unable-clause-place
returns-in-Err-Unable-clause-place g c = λ p e.
    let l = within g (goal.at.returns-in-Err-Unable-clause-place g c).After-len-place in
    let n = c.nth.ensures in
    let m : c.nth.result ≡ p = cc (e) in
    omega (arith, l, n, m)

pub returns-in-Err-Unable-clause-object : goal.returns-in-Err-Unable-clause-object
returns-in-Err-Unable-clause-object g c = λ p e.
    let s = (goal.at.returns-in-Err-Unable-clause-object g c).After-len-place in
    let n = c.nth.ensures in
    let m : c.nth.result ≡ p = cc (e) in
    let at = at_place g s in
    let same : length c.loop-objects.yielded ≡ p = omega (arith, n, m, at) in
    subst (λ (k : ℕ). IsLeastRefused (λ b. (goal.Recoverable-dyn g (b.vtable, b.value)).may_save b.value) (λ b. (goal.Recoverable-dyn g (b.vtable, b.value)).may_refuse b.value) (map (λ row. row.items) c.args.cast.items) k) same
    (record {
      refused = first_in (λ row. row.items) (λ b. (goal.Recoverable-dyn g (b.vtable, b.value)).may_refuse b.value) c.loop-objects.yielded (into_iter_items c.next.new.self) c.args.cast.items c.in-Some.objects
          (split g s) (some_there g s) (c.in-Err-Unable.ensures.unable (ap Err c.in-Err-Unable.field-0-is));
      least = c.loop-objects.invariant.saved;
    })
