-- What is so after every legal log.
use Rattle.std.proofs.Common.{◌≡◌, None, List, [], ◌∷◌, ◌++◌, refl, arith, sym, ap, subst, ◌∙◌}
use Rattle.kt_spacetime.specs.declared.event.Event.{Event}
use Rattle.kt_meaning.specs.Past.{Past, past}
use Rattle.kt_meaning.specs.Legal.{IsLegal, broken_rule}
use Rattle.kt_meaning.proofs.LegalLogs.{legal_log_induction}
use Rattle.kt_meaning.proofs.Positions.{Positions, positions}
use Rattle.kt_machine.specs.Done.{Done, done}
use Rattle.kt_machine.proofs.DoneAlong.{done_more, done_past}
use Rattle.kt_machine.proofs.KnownDeeds.{known_none}
use Rattle.kt_machine.proofs.OwnAndLive.{Owns, owns_row}
use Rattle.kt_machine.proofs.ActBounds.{Bounds, bounds_row}

pub record Sound (d : Done) : Type 0 where
  pub positions : Positions d.past
  pub owns : Owns d
  pub bounds : Bounds d

record Half (log : List Event) : Type 0 where
  owns : Owns (done log)
  bounds : Bounds (done log)

half_none : Half []
half_none = record {
  owns = record { live_idle = λ p i. refl; live_in = λ p k i. absurd (cc (i)); place_idle = λ p i. refl; place_in = λ p k i. absurd (cc (i)) };
  bounds = record { own_low = λ p. omega arith; taken_low = λ p k n i t. absurd (cc (i)); known = λ p. known_none 0; over = λ p k n i t. absurd (cc (i)) };
}

known_positions : (log : List Event) → IsLegal log → Positions (done log).past
known_positions log l = subst Positions (sym (done_past log)) (positions log l)

half_more : (log : List Event) (row : Event) → IsLegal log → broken_rule (past log) row ≡ None → Half log → Half (log ++ row ∷ [])
half_more log row l e h =
    let g = known_positions log l in
    let e' : broken_rule (done log).past row ≡ None = ap (λ (s : Past). broken_rule s row) (done_past log) ∙ e in
    record {
      owns = subst Owns (sym (done_more log (row ∷ []))) (owns_row (done log) g h.owns row e');
      bounds = subst Bounds (sym (done_more log (row ∷ []))) (bounds_row (done log) g h.owns h.bounds row e');
    }

pub sound : (log : List Event) → IsLegal log → Sound (done log)
sound log l = let h = legal_log_induction Half half_none half_more log l in record { positions = known_positions log l; owns = h.owns; bounds = h.bounds }
