-- A run that has come to rest.
use Rattle.std.specs.Prelude.{Option, option_map, slice_get, slice_index_or}
use Rattle.std.proofs.Common.{◌≡◌, ℕ, Some, None, List, [], length, refl, sym, ap, subst, ◌∙◌}
use Rattle.kt_plan.specs.Limits.{Planned, IsPlan}
use Rattle.kt_plan.specs.declared.steps.Step.{Step}
use Rattle.kt_object.specs.Holdings.{Content, content, AreSaved}
use Rattle.kt_spacetime.specs.declared.event.Event.{Event}
use Rattle.kt_promises.specs.Runs.{Move, RunReaches}
use Rattle.kt_meaning.specs.Follows.{FollowsPlan}
use Rattle.kt_promises.specs.Offers.{SendsWhatIsOffered}
use Rattle.kt_core.specs.Worlds.{World}
use Rattle.kt_run.specs.Objects.{Belongings, first_of, rules_of, rules_by, HoldDue}
use Rattle.kt_run.specs.RunLaws.{RunLaws}
use Rattle.kt_run.specs.declared.orders.Order.{Order}
use Rattle.kt_run.specs.declared.orders.Order.TheVariants.{Default}
use Rattle.kt_run.specs.declared.recorded.Keep.{Keep}
use Rattle.kt_run.specs.Orders.{generator_of, RestsInOrder, IsOneOrderedRun}
use Rattle.kt_run.specs.Runs.{ToldAndHeld, IsRun, IsPlayed, IsToldPlay}
use Rattle.kt_run.specs.Telling.{AreToldInRun, AreToldTheirRows}
use Rattle.kt_run.proofs.Ordering.{default_goes}

module _ (laws : RunLaws) (plan : Planned) (cast : List (List Content)) (given : List Step) (limits : IsPlan plan) (order : Order) (keep : Keep) (listed : List Step) (w : World) (at : ToldAndHeld) (rows : List Event) (log : rows ≡ w.system.rows.rows) (r : RestsInOrder plan cast given (generator_of order) keep listed w at) where
  rows_are : rows ≡ r.goes.run.now.now.log
  rows_are = log ∙ r.goes.run.shown.now.log

  reached : RunReaches plan 0 r.goes.run.now
  reached = record { moves = r.goes.run.moves; leads = r.goes.run.leads }

  is_run : IsRun plan cast r.goes.run.moves rows
  is_run = record {
    end = r.goes.run.now;
    leads = r.goes.run.leads;
    rest = r.rest;
    log = rows_are;
    offers = subst (SendsWhatIsOffered (rules_by cast) plan) (sym rows_are)
        (laws.offers (rules_by cast) plan 0 r.goes.run.moves r.goes.run.now limits r.goes.run.leads r.goes.run.offers);
  }

  pub run_of : IsOneOrderedRun plan cast given order keep listed rows
  run_of = record {
    steps = r.steps;
    kept = r.kept;
    run = record {
      by = record { moves = r.goes.run.moves; made = r.goes.run.made; run = is_run };
      first = r.goes.first;
      more = r.goes.more;
      are = r.goes.are;
      begins = r.goes.begins;
      begun = r.goes.begun;
      leads = r.goes.starts;
      ordered = r.goes.ordered;
    };
  }

  pub follows_of : FollowsPlan plan rows
  follows_of = subst (λ (l : List Event). FollowsPlan plan l) (sym rows_are) (laws.follows plan 0 r.goes.run.now limits reached r.rest)

  pub their_rows : AreToldTheirRows rows at.told
  their_rows = subst (λ (l : List Event). AreToldTheirRows l at.told) (sym rows_are) r.goes.run.rows

  pub due_of : HoldDue cast rows at.has
  due_of = subst (λ (l : List Event). HoldDue cast l at.has) (sym rows_are) r.goes.run.due

  none_saved : (o : Option Content) (t : Option (List ℕ)) → o ≡ None → AreSaved o t → t ≡ None
  none_saved None None e h = refl
  none_saved None (Some saved) e h = absurd h
  none_saved (Some c) t e h = absurd (cc (e))

  -- at rest nothing tentative is left
  pub settled_of : (p : ℕ) (b : Belongings) → slice_get at.has p ≡ Some b → b.depot.tentative ≡ None
  settled_of p b f =
      let c = first_of (slice_index_or cast p []) in
      let h = r.goes.run.due.each p b f in
      none_saved _ b.depot.tentative (ap (option_map (content c.kind)) (laws.rested (rules_of c) plan 0 r.goes.run.now p limits reached r.rest)) h.holds.tentative

-- a run that goes on by default steps
module _ (laws : RunLaws) (plan : Planned) (cast : List (List Content)) (given : List Step) (limits : IsPlan plan) (keep : Keep) (listed : List Step) (w : World) (at : ToldAndHeld) (rows : List Event) (log : rows ≡ w.system.rows.rows) (r : RestsInOrder plan cast given None keep listed w at) where
  pub play_of : IsPlayed plan cast given rows
  unfolding default_goes
  play_of =
      let goes = default_goes laws plan cast given limits r.steps r.now w at r.goes in
      record {
        given = r.goes.first;
        more = r.goes.more;
        begins = r.goes.begins;
        run = subst (λ (moves : List Move). IsRun plan cast moves rows) r.goes.are (is_run laws plan cast given limits Default keep listed w at rows log r);
        begun = goes.goes_on.begun;
        leads = goes.goes_on.begins;
        default = goes.goes_on.default;
      }

  pub told_play_of : length at.told ≡ length plan.names → IsToldPlay plan cast given rows at.told
  unfolding play_of
  told_play_of n = record { play = play_of; count = n; tells = subst (λ (moves : List Move). AreToldInRun plan moves at.told) r.goes.are r.goes.run.tells }
