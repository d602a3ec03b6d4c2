-- The default step, and rest, as the laws have them.
use Rattle.std.specs.Prelude.{◌==◌, ◌&&◌, ◌||◌, nat_lt, Option, slice_get, IfSome, IfNone, IsTrue, ◌↔◌, is_some, if◌then◌else◌}
use Rattle.std.proofs.Common.{length, drop, subst, ◌≡◌, ◌⊎◌, ◌<◌, ℕ, zero, suc, Bool, true, false, Some, None, List, [], ◌∷◌, refl, sym, arith, ap, ◌∙◌, inl, inr}
use Rattle.std.proofs.lemmas.Bool.{cases_lt}
use Rattle.std.proofs.lemmas.Bool.Decides.{nat_tests}
use Rattle.kt_plan.specs.Limits.{IsPlan, Planned}
use Rattle.kt_plan.specs.declared.commands.Command.{Command}
use Rattle.kt_plan.specs.declared.steps.Step.{Step}
use Rattle.kt_plan.specs.declared.steps.Step.TheVariants.{Do, Take}
use Rattle.kt_protocol.specs.Deciding.{none_of}
use Rattle.kt_protocol.proofs.StepFacts.{none_is}
use Rattle.kt_process.specs.ProcessStates.{ProcessState}
use Rattle.kt_system.specs.Systems.{state_of}
use Rattle.kt_system.specs.Reads.{can_take, IsNextTake, HasNoTake}
use Rattle.kt_meaning.specs.Follows.{commands_of}
use Rattle.kt_promises.specs.Progress as run_world
use Rattle.kt_promises.specs.Steps.{enabled, is_at_rest}
use Rattle.kt_promises.specs.Defaults.{default_step}
use Rattle.kt_promises.specs.Order.{comes_before, next_place}
use Rattle.kt_core.specs.PlanLaws.{PlanLaws}
use Rattle.kt_core.specs.Agendas.{Agenda, agenda_place, agenda_command, open_command}
use Rattle.kt_core.specs.Worlds.{World, process_may_do, can_do, can_make, IsWorldAtRest, IsNextDo, IsDefaultStep}
use Rattle.kt_core.specs.Shown.{Mirrors}
use Rattle.kt_core.proofs.Places.{HasPlaces, alike, next_is, next_shown}
use Rattle.kt_core.proofs.Quiet.{none_of_if, quiet_shown, quiet_from}
use Rattle.kt_core.proofs.Enabled.{few, below, enabled_is}
use Rattle.kt_core.proofs.Leading.{open_is_next}

-- whose the next command is
own_left : (k p : ℕ) (l : List Command) (c : Command) → slice_get (drop k (commands_of p l)) 0 ≡ Some c → c.by ≡ p
own_left zero p [] c e = absurd (cc (e))
own_left (suc k) p [] c e = absurd (cc (e))
own_left k p (d ∷ l) c e = go (λ j. own_left j p l c) k (d.by == p) refl e
  where
    go : ((j : ℕ) → slice_get (drop j (commands_of p l)) 0 ≡ Some c → c.by ≡ p) → (k : ℕ) (b : Bool) → (d.by == p) ≡ b → slice_get (drop k (if b then d ∷ commands_of p l else commands_of p l)) 0 ≡ Some c → c.by ≡ p
    go r zero true i f = let s : d ≡ c = cc (f) in subst (λ (x : Command). x.by ≡ p) s (alike d.by p i)
    go r (suc k) true i f = r k f
    go r k false i f = r k f

own_is : PlanLaws → (a : Agenda) (v : run_world.Progress) (p : ℕ) (c : Command) → HasPlaces a v → p < 64 → agenda_command a p ≡ Some c → c.by ≡ p
own_is laws a v p c h low e = own_left (v.done p) p a.plan.commands c (next_shown laws a v p c h low e)

both : (a b : Bool) → (a && b) ≡ true → (a ≡ true) × (b ≡ true)
both true true e = (refl, refl)
both true false e = absurd (cc (e))
both false b e = absurd (cc (e))

three : (a b c : Bool) → (a && (b && c)) ≡ true → (a ≡ true) × (b ≡ true) × (c ≡ true)
three a b c e = let x = both a (b && c) e in let y = both b c x.1 in (x.0, y.0, y.1)

some_if : (x : ProcessState) (o : Option Command) → process_may_do x o ≡ true → (c : Command) × (o ≡ Some c)
some_if x None e = absurd (cc (e))
some_if x (Some c) e = (c, refl)

lt_if : (a b : ℕ) → a < b → nat_lt a b ≡ true
lt_if a b h = grind (arith, nat_tests, h)

earlier_taker : (p q u r : ℕ) → p < u → (nat_lt p u || (p == u && nat_lt q r)) ≡ true
earlier_taker p q u r h = grind (arith, nat_tests, h)

earlier_sender : (p q u r : ℕ) → p ≡ u → q < r → (nat_lt p u || (p == u && nat_lt q r)) ≡ true
earlier_sender p q u r e h = grind (arith, nat_tests, e, h)

module _ (laws : PlanLaws) (w : World) (first : ℕ) (v : run_world.Progress) (r : Mirrors w.agenda w.system first v) where
  abbrev pub plan : Planned
  plan = w.agenda.plan

  limits : IsPlan plan
  limits = r.limits

  on_here : (x : Step) → enabled plan v x ≡ true → can_make w x ≡ true
  on_here x e = enabled_is laws w first v r x ∙ e

  on_there : (x : Step) → can_make w x ≡ true → enabled plan v x ≡ true
  on_there x e = sym (enabled_is laws w first v r x) ∙ e

  nothing_there : ((x : Step) → can_make w x ≡ false) → (x : Step) → enabled plan v x ≡ false
  nothing_there n (Do p) = sym (enabled_is laws w first v r (Do p)) ∙ n (Do p)
  nothing_there n (Take p q) = sym (enabled_is laws w first v r (Take p q)) ∙ n (Take p q)

  take_first : (at from : ℕ) → IsNextTake w.system at from → (y : Step) → enabled plan v y ≡ true → (Take at from ≡ y) ⊎ (comes_before plan v (Take at from) y ≡ true)
  take_first at from n (Do u) e = inr refl
  take_first at from n (Take p q) e =
      let t = three (nat_lt p w.system.size) (nat_lt q w.system.size) (can_take w.system p q) (on_here (Take p q) e) in
      elim (n.least p q (below p w.system.size t.0) (below q w.system.size t.1) t.2) [
        | inl l ↦ inr (earlier_taker at from p q l)
        | inr h ↦ elim (cases_lt from q) [
          | inl l ↦ inr (earlier_sender at from p q h.0 l)
          | inr l ↦ inl (let s : from ≡ q = let k = h.1 in omega (arith, k, l) in rw (h.0, s) refl)
        ]
      ]

  command_there : (p : ℕ) → p < w.system.size → can_do w p ≡ true → (c : Command) × (agenda_command w.agenda p ≡ Some c) × (c.by ≡ p)
  command_there p l e =
      let s = some_if (state_of w.system p) (open_command w.agenda p) e in
      let n = open_is_next w.agenda p s.0 s.1 in
      (s.0, n, own_is laws w.agenda v p s.0 r.places (few w first v r p l) n)

  same_place : (p q : ℕ) → p < w.system.size → q < w.system.size → can_do w p ≡ true → can_do w q ≡ true → agenda_place w.agenda p ≡ agenda_place w.agenda q → p ≡ q
  same_place p q l k e f same =
      let x = command_there p l e in let y = command_there q k f in
      let c : Some x.0 ≡ Some y.0 = sym x.1 ∙ (ap (λ (i : ℕ). slice_get w.agenda.plan.commands i) same ∙ y.1) in
      let d : x.0 ≡ y.0 = cc (c) in
      sym x.2 ∙ (ap (λ (z : Command). z.by) d ∙ y.2)

  do_first : (p : ℕ) → HasNoTake w.system → IsNextDo w p → (y : Step) → enabled plan v y ≡ true → (Do p ≡ y) ⊎ (comes_before plan v (Do p) y ≡ true)
  do_first p n d (Take u q) e =
      let t = three (nat_lt u w.system.size) (nat_lt q w.system.size) (can_take w.system u q) (on_here (Take u q) e) in
      absurd (let z = n.none u q (below u w.system.size t.0) (below q w.system.size t.1) in let k = t.2 in cc (z, k))
  do_first p n d (Do u) e =
      let t = both (nat_lt u w.system.size) (can_do w u) (on_here (Do u) e) in
      let l = below u w.system.size t.0 in
      let le = d.first u l t.1 in
      elim (cases_lt (agenda_place w.agenda p) (agenda_place w.agenda u)) [
        | inl h ↦ inr (lt_if (next_place plan v p) (next_place plan v u) (let a = r.places p (few w first v r p d.there) in let b = r.places u (few w first v r u l) in omega (arith, h, a, b)))
        | inr h ↦ inl (ap (λ (z : ℕ). Do z) (same_place p u d.there l d.able t.1 (omega (arith, le, h))))
      ]

  pub default_is : (o : Option Step) → IfSome o (IsDefaultStep w) → IfSome o (λ step. can_make w step ≡ true) → IfNone o ((step : Step) → can_make w step ≡ false) → o ≡ default_step plan v
  default_is None a b n = sym ((laws.none plan first v limits r.reached).1 (nothing_there n))
  default_is (Some (Do p)) a b n = sym (laws.only plan first v (Do p) limits r.reached (on_there (Do p) b) (do_first p a.0 a.1))
  default_is (Some (Take at from)) a b n = sym (laws.only plan first v (Take at from) limits r.reached (on_there (Take at from) b) (take_first at from a))

  has_none : (p : ℕ) → p < 64 → agenda_command w.agenda p ≡ None → is_some (slice_get (run_world.commands_left plan v p) 0) ≡ false
  has_none p low e = at_left (run_world.commands_left plan v p) (sym (next_is laws w.agenda v p r.places low) ∙ e)
    where
      at_left : (l : List Command) → slice_get l 0 ≡ None → is_some (slice_get l 0) ≡ false
      at_left [] f = refl
      at_left (c ∷ cs) f = absurd (cc (f))

  none_next : (p : ℕ) → p < 64 → is_some (slice_get (run_world.commands_left plan v p) 0) ≡ false → agenda_command w.agenda p ≡ None
  none_next p low e = at_next (agenda_command w.agenda p) (next_is laws w.agenda v p r.places low) (at_left (run_world.commands_left plan v p) e)
    where
      at_left : (l : List Command) → is_some (slice_get l 0) ≡ false → slice_get l 0 ≡ None
      at_left [] f = refl
      at_left (c ∷ cs) f = absurd (cc (f))

      at_next : (o : Option Command) → o ≡ run_world.next_command plan v p → run_world.next_command plan v p ≡ None → o ≡ None
      at_next None f g = refl
      at_next (Some c) f g = absurd (let z = f ∙ g in cc (z))

  is_there : (p : ℕ) (c : Command) → p < 64 → agenda_command w.agenda p ≡ Some c → p < w.system.size
  is_there p c low e = let t = laws.there plan first v p c limits r.reached (next_shown laws w.agenda v p c r.places low e) in let z = r.size in omega (arith, t, z)

  rests : IsWorldAtRest w → is_at_rest plan v ≡ true
  rests h = rw (
    none_of_if (length plan.names) (λ p. is_some (slice_get (run_world.commands_left plan v p) 0)) (λ p l. let k = few w first v r p (let z = r.size in omega (arith, l, z)) in has_none p k (h.done.none p k)),
    quiet_shown (length plan.names) w.system v.now r.now r.size r.numbered h.quiet,
  ) refl

  rest_from : is_at_rest plan v ≡ true → IsWorldAtRest w
  rest_from e = record {
    done = record { none = λ p low. at_next p low (agenda_command w.agenda p) refl };
    quiet = quiet_from (length plan.names) w.system v.now r.now r.size r.numbered tests.1;
  }
    where
      tests : (none_of (length plan.names) (λ p. is_some (slice_get (run_world.commands_left plan v p) 0)) ≡ true) × (run_world.is_quiet (length plan.names) v.now ≡ true)
      tests = both (none_of (length plan.names) (λ p. is_some (slice_get (run_world.commands_left plan v p) 0))) (run_world.is_quiet (length plan.names) v.now) e

      at_next : (p : ℕ) → p < 64 → (o : Option Command) → agenda_command w.agenda p ≡ o → agenda_command w.agenda p ≡ None
      at_next p low None f = f
      at_next p low (Some c) f = none_next p low (none_is (length plan.names) (λ u. is_some (slice_get (run_world.commands_left plan v u) 0)) tests.0 p (let l = is_there p c low f in let z = r.size in omega (arith, l, z)))

  pub rest_is : (b : Bool) → IsTrue b ↔ IsWorldAtRest w → b ≡ is_at_rest plan v
  rest_is b i = at_test b (is_at_rest plan v) (λ e. rests (i.0 e)) (λ e. i.1 (rest_from e))
    where
      at_test : (a c : Bool) → (IsTrue a → c ≡ true) → (c ≡ true → IsTrue a) → a ≡ c
      at_test true true f g = refl
      at_test true false f g = sym (f refl)
      at_test false true f g = g refl
      at_test false false f g = refl

  pub never_stuck : ((x : Step) → can_make w x ≡ false) → is_at_rest plan v ≡ true
  never_stuck n = laws.at_rest plan first v limits r.reached (nothing_there n)
