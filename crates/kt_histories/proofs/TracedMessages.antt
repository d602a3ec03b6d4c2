-- Messages and their traces.
use Rattle.std.proofs.Common.{◌≡◌, ℕ, Bool, true, false, Option, Some, None, option_map, List, refl, sym, ap, ◌∙◌}
use Rattle.std.specs.List.{slice_get}
use Rattle.std.specs.Option.{option_flatten}
use Rattle.kt_spacetime.specs.declared.event.Event.{Event}
use Rattle.kt_spacetime.specs.declared.event.Event.TheVariants as event
use Rattle.kt_spacetime.specs.declared.deeds.Deed.{Deed}
use Rattle.kt_spacetime.specs.declared.deeds.Deed.TheVariants as deed
use Rattle.kt_rules.specs.declared.traces.Trace.{Trace}
use Rattle.kt_meaning.specs.Past.{past}
use Rattle.kt_meaning.specs.Legal.{IsLegal, has_deed}
use Rattle.kt_meaning.specs.Messages.{row_at, IsMessage}
use Rattle.kt_rules.specs.Standing.{parties_of_row}
use Rattle.kt_rules.specs.Traces.{place_of, trace_between, trace_of}
use Rattle.kt_meaning.proofs.Items.{some_same}
use Rattle.kt_meaning.proofs.DeedFacts.{place_of_deed}
use Rattle.kt_rules.proofs.DeedFacts.{has_at}
use Rattle.kt_meaning.proofs.Places.{sent_places, received_places, deed_once, rowed}
use Rattle.kt_rules.proofs.Traced.{place_at, place_found}
use Rattle.kt_histories.specs.Demands.{has_sent, has_received}

-- what is not so, where it would be absurd
pub is_false : (b : Bool) → (b ≡ true → ⊥) → b ≡ false
is_false true never = absurd (never refl)
is_false false never = refl

none_some : {X : Type 0} (x : X) → None ≡ Some x → ⊥
none_some x e = cc

-- the rows send the message of a trace
pub traced_message : (rows : List Event) (m : ℕ) (t : Trace) → trace_of rows m ≡ Some t → IsMessage rows m t.from t.to
traced_message rows m t e = of_row (row_at rows m) refl e
  where
    of_row : (o : Option Event) → row_at rows m ≡ o → trace_between (past rows) m (option_flatten (option_map parties_of_row o)) ≡ Some t → IsMessage rows m t.from t.to
    of_row (Some (event.Sent p q body)) is e =
        let same = some_same e in
        (body, is ∙ (λ i. Some (event.Sent ((same i).from) ((same i).to) body)))
    of_row None is e = absurd (none_some t e)
    of_row (Some (event.Received p q n)) is e = absurd (none_some t e)
    of_row (Some (event.Dropped p q n)) is e = absurd (none_some t e)
    of_row (Some (event.Began p k kind)) is e = absurd (none_some t e)
    of_row (Some (event.Took p k)) is e = absurd (none_some t e)
    of_row (Some (event.Ready p k)) is e = absurd (none_some t e)
    of_row (Some (event.Unwilling p k cause)) is e = absurd (none_some t e)
    of_row (Some (event.Decided p k commit)) is e = absurd (none_some t e)
    of_row (Some (event.Closed p k)) is e = absurd (none_some t e)
    of_row (Some (event.Failed p)) is e = absurd (none_some t e)
    of_row (Some (event.Refused p verb cause)) is e = absurd (none_some t e)

-- where they have no trace of it, they do not
pub untraced : (rows : List Event) (m : ℕ) → trace_of rows m ≡ None → (p q : ℕ) → IsMessage rows m p q → ⊥
untraced rows m none p q h = none_some _ (sym none ∙ ap (λ (o : Option Event). trace_between (past rows) m (option_flatten (option_map parties_of_row o))) h.1)

module _ (rows : List Event) (l : IsLegal rows) where
  once : (p i j : ℕ) (d : Deed) → slice_get ((past rows).live p) i ≡ Some d → slice_get ((past rows).live p) j ≡ Some d → i ≡ j
  once p i j d e f = deed_once (past rows) (sent_places rows) (received_places rows l) p i j d e f

  -- a deed with no place was not done
  pub unplaced : (p : ℕ) (d : Deed) → place_of d ((past rows).live p) ≡ None → has_deed d ((past rows).live p) ≡ false
  unplaced p d none = is_false (has_deed d ((past rows).live p)) (λ has.
      let there = place_of_deed d ((past rows).live p) has in
      none_some _ (sym none ∙ place_at d ((past rows).live p) there.0 there.1 (λ j f. once p j there.0 d f there.1)))

  -- one with a place was
  pub placed_deed : (p n : ℕ) (d : Deed) → place_of d ((past rows).live p) ≡ Some n → has_deed d ((past rows).live p) ≡ true
  placed_deed p n d e =
      let there = place_found d ((past rows).live p) n e in
      has_at d ((past rows).live p) there.0 there.2

  -- who sent a message is its sender, and who received it its receiver
  pub sent_message : (p q m : ℕ) → has_sent (past rows) p q m ≡ true → IsMessage rows m p q
  sent_message p q m e =
      let there = place_of_deed (deed.Sent m q) ((past rows).live p) e in
      (rowed rows l).sent p there.0 m q there.1

  pub received_message : (p q m : ℕ) → has_received (past rows) q p m ≡ true → IsMessage rows m p q
  received_message p q m e =
      let there = place_of_deed (deed.Received m p) ((past rows).live q) e in
      (rowed rows l).received q there.0 m p there.1
