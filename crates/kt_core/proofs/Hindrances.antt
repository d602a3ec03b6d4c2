-- What stands in the way of a step, as the laws have it.
use Rattle.std.specs.Prelude.{◌==◌, ◌&&◌, not, nat_lt, nat_le, if◌then◌else◌, Option, IfSome, is_none}
use Rattle.std.proofs.Common.{◌≡◌, ◌<◌, ℕ, Bool, true, false, Some, None, length, refl, sym, arith, ap, subst, ◌∙◌}
use Rattle.std.proofs.lemmas.Bool.Decides.{nat_tests}
use Rattle.kt_plan.specs.Limits.{IsCommandOf}
use Rattle.kt_plan.specs.declared.commands.Command.{Command}
use Rattle.kt_plan.specs.declared.steps.Step.{Step}
use Rattle.kt_plan.specs.declared.steps.Step.TheVariants.{Do, Take}
use Rattle.kt_promises.specs.Hindrances.{hindrance, hindrance_of_command}
use Rattle.kt_promises.specs.declared.hindrances.Hindrance.TheVariants.{NoCommand, PhaseNotOpen, SendInInstance, NoParcel}
use Rattle.kt_promises.specs.Progress.{Progress, next_command}
use Rattle.kt_promises.specs.Steps.{may_do, may_do_job, enabled}
use Rattle.kt_core.specs.PlanLaws.{PlanLaws}
use Rattle.kt_core.specs.Agendas.{agenda_command, if_open, open_command}
use Rattle.kt_core.specs.Worlds.{World, can_make}
use Rattle.kt_core.specs.Shown.{Mirrors}
use Rattle.kt_core.proofs.Places.{next_is, next_shown}
use Rattle.kt_core.proofs.Enabled.{enabled_is, phase_test}

-- of a command that is there
of_next : (v : Progress) (p n : ℕ) (o : Option Command) (c : Command) → nat_lt p n ≡ true → o ≡ Some c
    → (if nat_lt p n then hindrance_of_command v p o else Some NoCommand)
    ≡ (if not (c.phase == v.phase) then Some PhaseNotOpen else if may_do_job ((v.now.states p).inst == 0) c.job then None else Some SendInInstance)
of_next v p n o c l e = rw (l, e) refl

not_opened : (a may : Bool) → a ≡ false → (if not a then Some PhaseNotOpen else if may then None else Some SendInInstance) ≡ Some PhaseNotOpen
not_opened true may e = absurd (cc (e))
not_opened false may e = refl

has_to_wait : (there a may : Bool) → there ≡ true → a ≡ true → (there && (a && may)) ≡ false → (if not a then Some PhaseNotOpen else if may then None else Some SendInInstance) ≡ Some SendInInstance
has_to_wait true true false e f g = refl
has_to_wait true true true e f g = absurd (cc (g))
has_to_wait true false may e f g = absurd (cc (f))
has_to_wait false a may e f g = absurd (cc (e))

is_below : (p n : ℕ) → p < n → nat_lt p n ≡ true
is_below p n h = grind (arith, nat_tests, h)

-- whether it is open
opened : (b : Bool) (c : Command) → is_none (if b then Some c else None) ≡ not b
opened true c = refl
opened false c = refl

flip : (a b : Bool) → not a ≡ not b → a ≡ b
flip true true e = refl
flip true false e = absurd (cc (e))
flip false true e = absurd (cc (e))
flip false false e = refl

module _ (laws : PlanLaws) (w : World) (first : ℕ) (v : Progress) (r : Mirrors w.agenda w.system first v) where
  low : (p : ℕ) → p < length w.agenda.plan.names → p < 64
  low p l = let f = r.limits.names.few in omega (arith, l, f)

  there : (p : ℕ) (c : Command) → next_command w.agenda.plan v p ≡ Some c → p < length w.agenda.plan.names
  there p c e = laws.there w.agenda.plan first v p c r.limits r.reached e

  -- no command is left
  none_left : (p : ℕ) (o : Option Command) → next_command w.agenda.plan v p ≡ o → agenda_command w.agenda p ≡ None → o ≡ None
  none_left p None e none = refl
  none_left p (Some c) e none = absurd (let f = sym none ∙ (next_is laws w.agenda v p r.places (low p (there p c e)) ∙ e) in cc (f))

  no_command : (p : ℕ) → agenda_command w.agenda p ≡ None → hindrance w.agenda.plan v (Do p) ≡ Some NoCommand
  no_command p none = (laws.no_command w.agenda.plan first v p r.limits r.reached).1 (none_left p (next_command w.agenda.plan v p) refl none)

  -- there is one, whose phase is open or not
  phase_is : (p : ℕ) (c : Command) → p < length w.agenda.plan.names → agenda_command w.agenda p ≡ Some c → (c.phase == v.phase) ≡ nat_le c.phase w.agenda.phase
  phase_is p c l e = phase_test c.phase w.agenda.phase v.phase (r.phase p c (low p l) e)
      (laws.ahead w.agenda.plan first v p c r.limits r.reached (next_shown laws w.agenda v p c r.places (low p l) e))

  is_opened : (p : ℕ) (c : Command) → p < length w.agenda.plan.names → agenda_command w.agenda p ≡ Some c → is_none (open_command w.agenda p) ≡ not (c.phase == v.phase)
  is_opened p c l e = ap (λ (o : Option Command). is_none (if_open w.agenda.phase o)) e ∙ (opened (nat_le c.phase w.agenda.phase) c ∙ sym (ap not (phase_is p c l e)))

  of_its_next : (p : ℕ) (c : Command) → p < length w.agenda.plan.names → agenda_command w.agenda p ≡ Some c → hindrance w.agenda.plan v (Do p)
      ≡ (if not (c.phase == v.phase) then Some PhaseNotOpen else if may_do_job ((v.now.states p).inst == 0) c.job then None else Some SendInInstance)
  of_its_next p c l e = of_next v p (length w.agenda.plan.names) (next_command w.agenda.plan v p) c (is_below p (length w.agenda.plan.names) l) (next_shown laws w.agenda v p c r.places (low p l) e)

  phase_not_open : (p : ℕ) (c : Command) → p < length w.agenda.plan.names → agenda_command w.agenda p ≡ Some c → is_none (open_command w.agenda p) ≡ true → hindrance w.agenda.plan v (Do p) ≡ Some PhaseNotOpen
  phase_not_open p c l e shut = of_its_next p c l e ∙ not_opened (c.phase == v.phase) (may_do_job ((v.now.states p).inst == 0) c.job) (flip (c.phase == v.phase) false (sym (is_opened p c l e) ∙ shut))

  send_in_instance : (p : ℕ) (c : Command) → p < length w.agenda.plan.names → agenda_command w.agenda p ≡ Some c → is_none (open_command w.agenda p) ≡ false → can_make w (Do p) ≡ false → hindrance w.agenda.plan v (Do p) ≡ Some SendInInstance
  send_in_instance p c l e open_one off =
      let next = next_shown laws w.agenda v p c r.places (low p l) e in
      of_its_next p c l e ∙ has_to_wait (nat_lt p (length w.agenda.plan.names)) (c.phase == v.phase) (may_do_job ((v.now.states p).inst == 0) c.job)
      (is_below p (length w.agenda.plan.names) l) (flip (c.phase == v.phase) true (sym (is_opened p c l e) ∙ open_one))
      (subst (λ (o : Option Command). (nat_lt p (length w.agenda.plan.names) && may_do v p o) ≡ false) next (sym (enabled_is laws w first v r (Do p)) ∙ off))

  -- the same of a command that was read
  is_there : (p n : ℕ) (c : Command) → n ≡ length w.agenda.plan.names → IsCommandOf n c → c.by ≡ p → p < length w.agenda.plan.names
  is_there p n c same allowed own = let under = allowed.0 in omega (arith, under, same, own)

  pub none_read : (p : ℕ) (o : Option Command) → agenda_command w.agenda p ≡ o → is_none o ≡ true → hindrance w.agenda.plan v (Do p) ≡ Some NoCommand
  none_read p None e none = no_command p e
  none_read p (Some c) e none = absurd (cc (none))

  pub shut_read : (p n : ℕ) (o : Option Command) → n ≡ length w.agenda.plan.names → IfSome o (IsCommandOf n) → IfSome o (λ c. c.by ≡ p) → agenda_command w.agenda p ≡ o → is_none o ≡ false
      → is_none (open_command w.agenda p) ≡ true → hindrance w.agenda.plan v (Do p) ≡ Some PhaseNotOpen
  shut_read p n None same allowed own e some shut = absurd (cc (some))
  shut_read p n (Some c) same allowed own e some shut = phase_not_open p c (is_there p n c same allowed own) e shut

  pub open_read : (p n : ℕ) (o : Option Command) → n ≡ length w.agenda.plan.names → IfSome o (IsCommandOf n) → IfSome o (λ c. c.by ≡ p) → agenda_command w.agenda p ≡ o → is_none o ≡ false
      → is_none (open_command w.agenda p) ≡ false → can_make w (Do p) ≡ false → hindrance w.agenda.plan v (Do p) ≡ Some SendInInstance
  open_read p n None same allowed own e some found off = absurd (cc (some))
  open_read p n (Some c) same allowed own e some found off = send_in_instance p c (is_there p n c same allowed own) e found off

  -- a step that can be made
  pub nothing : (x : Step) → can_make w x ≡ true → hindrance w.agenda.plan v x ≡ None
  nothing x on = (laws.nothing w.agenda.plan v x).1 (sym (enabled_is laws w first v r x) ∙ on)

  pub no_parcel : (x : Step) {p q : ℕ} → x ≡ Take p q → can_make w x ≡ false → hindrance w.agenda.plan v x ≡ Some NoParcel
  no_parcel x {p = p} {q = q} is off = subst (λ (y : Step). hindrance w.agenda.plan v y ≡ Some NoParcel) (sym is) (off_take (enabled w.agenda.plan v (Take p q)) (sym (enabled_is laws w first v r (Take p q)) ∙ (ap (can_make w) (sym is) ∙ off)))
    where
      off_take : (b : Bool) → b ≡ false → (if b then None else Some NoParcel) ≡ Some NoParcel
      off_take true e = absurd (cc (e))
      off_take false e = refl
