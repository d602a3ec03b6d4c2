-- Which act of two is not done, and why.
use Rattle.std.proofs.Common.{◌≡◌, ℕ, ◌-◌, Bool, true, false, List, [], ◌∷◌, refl, sym, ap, subst, ◌∙◌, arith}
use Rattle.std.specs.Prelude.{Result, Ok, Err, IfErr, OnErr, ◌&&◌}
use Rattle.kt_plan.specs.declared.steps.Act.{Act}
use Rattle.kt_plan.specs.declared.steps.Act.TheVariants.{Nothing, Restore}
use Rattle.kt_object.specs.declared.held_faults.ActFault.{ActFault}
use Rattle.kt_object.specs.declared.held_faults.ActFault.TheVariants.{Unfit, Form, Memory}
use Rattle.kt_object.specs.Fits.{Outline, outline, fits, outline_after, spares_of, is_up_after, has_tentative_after, is_saved_after}
use Rattle.kt_object.specs.Refusals.{IsActFault, StopsAt}
use Rattle.kt_object.proofs.Acted.{used_up}

fault_of : (o : Outline) (a : Act) (fault : ActFault) → (fault ≡ Unfit → fits o a ≡ false) → ((fault ≡ Unfit → ⊥) → a ≡ Restore)
    → IsActFault o a fault
fault_of o a Unfit unfit failed = unfit refl
fault_of o a Form unfit failed = failed (λ e. absurd (cc e))
fault_of o a Memory unfit failed = failed (λ e. absurd (cc e))

-- the fault of an act that answers so
pub why_of : {T : Type 0} (r : Result T ActFault) (fault : ActFault) (o : Outline) (a : Act) → r ≡ Err fault
    → (r ≡ Err Unfit → fits o a ≡ false) → IfErr r (λ f. (f ≡ Unfit → ⊥) → a ≡ Restore) → IsActFault o a fault
why_of {T} r fault o a e unfit failed =
    fault_of o a fault (λ f. unfit (e ∙ ap Err f)) (subst (λ (r : Result T ActFault). IfErr r (λ f. (f ≡ Unfit → ⊥) → a ≡ Restore)) e failed)

pub on_fault : {T E P : Type 0} (r : Result T E) (fault : E) → r ≡ Err fault → OnErr r P → P
on_fault {T} {E} {P} r fault e h = subst (λ (r : Result T E). OnErr r P) e h

pub if_fault : {T E : Type 0} (r : Result T E) (P : E → Type 0) → ((fault : E) → r ≡ Err fault → P fault) → IfErr r P
if_fault (Ok value) P f = tt
if_fault (Err fault) P f = f fault refl

pub stops_at_first : (o : Outline) (acts : List Act) (a b : Act) (fault : ActFault) → acts ≡ a ∷ b ∷ [] → IsActFault o a fault
    → StopsAt o acts fault 0
stops_at_first o acts a b fault is why =
    subst (λ (acts : List Act). StopsAt o acts fault 0) (sym is) (record { act = a; there = refl; before = refl; why = why })

pub stops_at_second : (o : Outline) (acts : List Act) (a b : Act) (fault : ActFault) → acts ≡ a ∷ b ∷ [] → fits o a ≡ true
    → IsActFault (outline_after o a) b fault → StopsAt o acts fault 1
stops_at_second o acts a b fault is fit why =
    subst (λ (acts : List Act). StopsAt o acts fault 1) (sym is)
    (record { act = b; there = refl; before = ap (λ (x : Bool). x && true) fit; why = why })

-- nothing leaves all as it is
pub idle_outline : (up tentative saved : Bool) (spares : ℕ) (a : Act) → a ≡ Nothing
    → outline up tentative saved spares ≡ outline_after (outline up tentative saved spares) a
idle_outline up tentative saved spares a e =
    subst (λ (a : Act). outline up tentative saved spares ≡ outline_after (outline up tentative saved spares) a) (sym e)
    (ap (λ (n : ℕ). outline up tentative saved n) (let z : spares ≡ spares - 0 = omega arith in z))

-- what decides of the second act is what the first leaves
pub next_outline : (up tentative saved up' tentative' : Bool) (spares left : ℕ) (a : Act) → (a ≡ Nothing → ⊥)
    → up' ≡ is_up_after up a → tentative' ≡ has_tentative_after tentative a → left ≡ spares - spares_of up a
    → outline up' tentative' false left ≡ outline_after (outline up tentative saved spares) a
next_outline up tentative saved up' tentative' spares left a n same_up same_tentative same_left =
    ap (λ (u : Bool). outline u tentative' false left) same_up
    ∙ (ap (λ (t : Bool). outline (is_up_after up a) t false left) same_tentative
    ∙ (ap (λ (k : Bool). outline (is_up_after up a) (has_tentative_after tentative a) k left) (sym (used_up saved a n))
    ∙ ap (λ (m : ℕ). outline (is_up_after up a) (has_tentative_after tentative a) (is_saved_after saved a) m) same_left))
