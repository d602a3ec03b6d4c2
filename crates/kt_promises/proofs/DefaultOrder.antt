-- The default step: it is enabled, it is the first that is, and it is there where one is.
use Rattle.std.proofs.Common.{◌≡◌, ◌≢◌, ◌⊎◌, ℕ, ◌≤◌, ◌<◌, Bool, true, false, length, take, refl, arith, sym, ap, subst, ◌∙◌, Some, None, inl, inr}
use Rattle.std.specs.Prelude.{◌==◌, ◌&&◌, ◌||◌, nat_lt, Option, slice_get, is_some, option_map}
use Rattle.std.proofs.lemmas.Bool.{cases_eq}
use Rattle.std.proofs.lemmas.Bool.Decides.{nat_tests}
use Rattle.kt_promises.specs.Steps.{can_take_from, enabled, may_do}
use Rattle.kt_promises.specs.Defaults.{default_step, is_turn, is_turn_of, least_sender, take_or_command, least_below, step_at, step_of_command}
use Rattle.kt_promises.specs.Order.{comes_before, next_place, IsFirstEnabled}
use Rattle.kt_plan.specs.declared.commands.Command.{Command}
use Rattle.kt_plan.specs.Limits.{Planned}
use Rattle.kt_meaning.specs.Follows.{commands_of}
use Rattle.kt_promises.specs.Progress.{Progress, next_command}
use Rattle.kt_plan.specs.declared.steps.Step.TheVariants.{Do, Take}
use Rattle.kt_plan.specs.declared.steps.Step.{Step}
use Rattle.kt_promises.proofs.LeastBelow.{IsLeast, LeastIs, least_is, not_before}
use Rattle.kt_promises.proofs.CommandPlaces.{IsAt, at_place, place_is}
use Rattle.kt_promises.proofs.PhaseOrder.{never_both}

abbrev pub DefaultIs : Planned → Progress → Option Step → Type 0
DefaultIs plan w None = (y : Step) → enabled plan w y ≡ false
DefaultIs plan w (Some x) = IsFirstEnabled plan w x

not_on : (b : Bool) → (b ≡ true → ⊥) → b ≡ false
not_on true h = absurd (h refl)
not_on false h = refl

module _ (plan : Planned) (w : Progress) where
  -- a command that may be done is at its place
  at_next : (p : ℕ) → enabled plan w (Do p) ≡ true → (c : Command) × IsAt (w.done p) p plan.commands c (next_place plan w p)
  at_next p e = go (next_command plan w p) refl e
    where
      go : (o : Option Command) → next_command plan w p ≡ o → (nat_lt p (length plan.names) && may_do w p o) ≡ true → (c : Command) × IsAt (w.done p) p plan.commands c (next_place plan w p)
      go None n e = absurd (never_both (nat_lt p (length plan.names)) e)
      go (Some c) n e = (c, at_place (w.done p) p plan.commands c n)

  turn_at : (p : ℕ) → enabled plan w (Do p) ≡ true → is_turn plan w (next_place plan w p) ≡ true
  turn_at p e = let x = at_next p e in subst (λ (o : Option Command). is_turn_of plan w (next_place plan w p) o ≡ true) (sym x.1.there) (here x.0 x.1)
    where
      here : (c : Command) → IsAt (w.done p) p plan.commands c (next_place plan w p) → (length (commands_of c.by (take (next_place plan w p) plan.commands)) == w.done c.by && enabled plan w (Do c.by)) ≡ true
      here c h = subst (λ (q : ℕ). (length (commands_of q (take (next_place plan w p) plan.commands)) == w.done q && enabled plan w (Do q)) ≡ true) (sym h.mine)
          (both (length (commands_of p (take (next_place plan w p) plan.commands)) == w.done p) (enabled plan w (Do p)) (eq _ _ h.rank) e)
        where
          eq : (a b : ℕ) → a ≡ b → (a == b) ≡ true
          eq a b h = grind (arith, nat_tests, h)

          both : (a b : Bool) → a ≡ true → b ≡ true → (a && b) ≡ true
          both a b e f = rw (e, f) refl

  pub record IsTurnAt (i : ℕ) : Type 0 where
    pub command : Command
    pub there : slice_get plan.commands i ≡ Some command
    pub on : enabled plan w (Do command.by) ≡ true
    pub next : next_place plan w command.by ≡ i

  turn_is : (i : ℕ) → is_turn plan w i ≡ true → IsTurnAt i
  turn_is i e = go (slice_get plan.commands i) refl e
    where
      tests : (a b : ℕ) (x : Bool) → (a == b && x) ≡ true → (a ≡ b) × (x ≡ true)
      tests a b x e = grind (arith, nat_tests, e)

      go : (o : Option Command) → slice_get plan.commands i ≡ o → is_turn_of plan w i o ≡ true → IsTurnAt i
      go None s e = absurd (cc (e))
      go (Some c) s e = let t = tests (length (commands_of c.by (take i plan.commands))) (w.done c.by) (enabled plan w (Do c.by)) e in
          record { command = c; there = s; on = t.1; next = place_is (w.done c.by) c.by plan.commands c i s refl t.0 }

  -- takes
  low : (p q : ℕ) → enabled plan w (Take p q) ≡ true → (p < length plan.names) × (q < length plan.names)
  low p q e = tests p q (length plan.names) (can_take_from w.now p q) e
    where
      tests : (p q n : ℕ) (c : Bool) → ((nat_lt p n && nat_lt q n) && c) ≡ true → (p < n) × (q < n)
      tests p q n c e = grind (arith, nat_tests, e)

  abbrev takes : ℕ → Bool
  takes p = is_some (least_sender plan w p)

  takes_at : (p q : ℕ) → enabled plan w (Take p q) ≡ true → takes p ≡ true
  takes_at p q e = go (least_sender plan w p) (least_is (length plan.names) (λ q. enabled plan w (Take p q)))
    where
      go : (o : Option ℕ) → LeastIs (length plan.names) (λ q. enabled plan w (Take p q)) o → is_some o ≡ true
      go None h = absurd (let x = h q (low p q e).1 in cc (e, x))
      go (Some i) h = refl

  -- the default take of p
  take_default : (p : ℕ) → IsLeast (length plan.names) takes p → DefaultIs plan w (option_map (λ q. Take p q) (least_sender plan w p))
  take_default p h = go (least_sender plan w p) h.passes (least_is (length plan.names) (λ q. enabled plan w (Take p q)))
    where
      before : (p q u v : ℕ) → p ≤ u → (p ≡ u → q ≤ v) → (Take p q ≡ Take u v) ⊎ ((nat_lt p u || (p == u && nat_lt q v)) ≡ true)
      before p q u v a b = elim (cases_eq p u) [
        | inl e ↦ (let x = b e in elim (cases_eq q v) [ inl f ↦ inl (rw (e, f) refl) | inr f ↦ inr (tests p q u v e x f) ])
        | inr e ↦ inr (less p u (nat_lt q v) a e)
      ]
        where
          tests : (p q u v : ℕ) → p ≡ u → q ≤ v → q ≢ v → (nat_lt p u || (p == u && nat_lt q v)) ≡ true
          tests p q u v e a f = grind (arith, nat_tests, e, a, f)

          less : (p u : ℕ) (b : Bool) → p ≤ u → p ≢ u → (nat_lt p u || (p == u && b)) ≡ true
          less p u b a e = grind (arith, nat_tests, a, e)

      go : (o : Option ℕ) → is_some o ≡ true → LeastIs (length plan.names) (λ q. enabled plan w (Take p q)) o → DefaultIs plan w (option_map (λ q. Take p q) o)
      go None s l = absurd (cc (s))
      go (Some q) s l = record { on = l.passes; first = first }
        where
          first : (y : Step) → enabled plan w y ≡ true → (Take p q ≡ y) ⊎ (comes_before plan w (Take p q) y ≡ true)
          first (Do u) e = inr refl
          first (Take u v) e = before p q u v (not_before (length plan.names) takes p u h (takes_at u v e)) (λ i. not_before (length plan.names) (λ q. enabled plan w (Take p q)) q v l (let e' : enabled plan w (Take p v) ≡ true = rw i e in e'))

  -- the default command, where nothing can be taken
  do_default : ((p : ℕ) → p < length plan.names → takes p ≡ false) → DefaultIs plan w (step_at plan (least_below (length plan.commands) (λ i. is_turn plan w i)))
  do_default n = go (least_below (length plan.commands) (λ i. is_turn plan w i)) (least_is (length plan.commands) (λ i. is_turn plan w i))
    where
      no_take : (p q : ℕ) → enabled plan w (Take p q) ≡ true → ⊥
      no_take p q e = let x = takes_at p q e in let y = n p (low p q e).0 in cc (x, y)

      at : (i : ℕ) → IsLeast (length plan.commands) (λ i. is_turn plan w i) i → (t : IsTurnAt i) → IsFirstEnabled plan w (Do t.command.by)
      at i l t = record { on = t.on; first = first }
        where
          same_by : (u : ℕ) → i ≡ next_place plan w u → enabled plan w (Do u) ≡ true → t.command.by ≡ u
          same_by u j e = let x = at_next u e in
              let y : slice_get plan.commands i ≡ Some x.0 = rw j x.1.there in
              let z : Some t.command ≡ Some x.0 = sym t.there ∙ y in
              ap Command.by (some z) ∙ x.1.mine
            where
              some : {c d : Command} → Some c ≡ Some d → c ≡ d
              some e = cc (e)

          first : (y : Step) → enabled plan w y ≡ true → (Do t.command.by ≡ y) ⊎ (comes_before plan w (Do t.command.by) y ≡ true)
          first (Take u v) e = absurd (no_take u v e)
          first (Do u) e = elim (cases_eq i (next_place plan w u)) [
            | inl j ↦ inl (ap Do (same_by u j e))
            | inr j ↦ inr (less _ _ i t.next (not_before (length plan.commands) (λ i. is_turn plan w i) i (next_place plan w u) l (turn_at u e)) j)
          ]
            where
              less : (a b i : ℕ) → a ≡ i → i ≤ b → i ≢ b → nat_lt a b ≡ true
              less a b i e l n = grind (arith, nat_tests, e, l, n)

      go : (o : Option ℕ) → LeastIs (length plan.commands) (λ i. is_turn plan w i) o → DefaultIs plan w (step_at plan o)
      go None h = none
        where
          none : (y : Step) → enabled plan w y ≡ false
          none (Take u v) = not_on (enabled plan w (Take u v)) (no_take u v)
          none (Do u) = not_on (enabled plan w (Do u)) (λ e. let x = h (next_place plan w u) (at_next u e).1.low in let y = turn_at u e in cc (x, y))
      go (Some i) h = let t = turn_is i h.passes in subst (λ (o : Option Command). DefaultIs plan w (step_of_command o)) (sym t.there) (at i h t)

  pub default_is : DefaultIs plan w (default_step plan w)
  default_is = go (least_below (length plan.names) takes) (least_is (length plan.names) takes)
    where
      go : (o : Option ℕ) → LeastIs (length plan.names) takes o → DefaultIs plan w (take_or_command plan w o)
      go (Some p) h = take_default p h
      go None h = do_default h

  pub none_is : default_step plan w ≡ None → (y : Step) → enabled plan w y ≡ false
  none_is e = subst (DefaultIs plan w) e default_is

  pub some_is : (x : Step) → default_step plan w ≡ Some x → IsFirstEnabled plan w x
  some_is x e = subst (DefaultIs plan w) e default_is

  pub is_none : ((y : Step) → enabled plan w y ≡ false) → default_step plan w ≡ None
  is_none n = go (default_step plan w) default_is
    where
      go : (o : Option Step) → DefaultIs plan w o → o ≡ None
      go None h = refl
      go (Some x) h = absurd (let a = h.on in let b = n x in cc (a, b))
