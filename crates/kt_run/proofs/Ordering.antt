-- A run goes on in an order.
use Rattle.std.specs.Prelude.{Option, unwrap_or, if◌then◌else◌}
use Rattle.std.proofs.Common.{◌≡◌, inl, inr, ℕ, ◌+◌, ◌<◌, ◌≤◌, Bool, true, false, Some, None, List, [], ◌∷◌, ◌++◌, append_assoc, append-nil, arith, length, length-append, take, refl, sym, ap, subst, ◌∙◌}
use Rattle.std.proofs.lemmas.List.{length-take, length-map, length_push}
use Rattle.std.proofs.lemmas.Option.{slice_get_within}
use Rattle.kt_plan.specs.Limits.{Planned, IsPlan}
use Rattle.kt_plan.specs.declared.steps.Step.{Step}
use Rattle.kt_object.specs.Holdings.{Content}
use Rattle.kt_promises.specs.Runs.{Move, GoesOn, after_moves}
use Rattle.kt_promises.specs.Progress.{Progress, progress_at_start}
use Rattle.kt_promises.specs.Steps.{enabled, process_of_step, progress_after}
use Rattle.kt_promises.specs.Offers.{GivesOffers}
use Rattle.kt_core.specs.Shown.{Mirrors}
use Rattle.kt_core.specs.Worlds.{World, can_make, step_refusal}
use Rattle.kt_core.specs.declared.faults.StepFault.{StepFault}
use Rattle.kt_run.specs.Objects.{rules_by}
use Rattle.kt_run.specs.Refused.{IsGivenNext, IsDefaultNext, IsStepRefused, IsStopped}
use Rattle.kt_run.specs.declared.recorded.Keep.{Keep}
use Rattle.kt_run.specs.declared.recorded.Keep.TheVariants.{Log, Steps}
use Rattle.kt_run.specs.Orders.{Generator, step_in_order, generator_next, generator_after, AreInOrder, GoesInOrder, kept_steps, RestsInOrder, IsNextInOrder, IsNext, IsRefusedInOrder, IsStoppedInOrder, IsOneRefused, IsOneStopped}
use Rattle.kt_run.specs.Runs.{ToldAndHeld, StepsTo, BeginsRun, Goes}
use Rattle.kt_run.specs.RunLaws.{RunLaws}
use Rattle.kt_run.specs.Telling.{AreToldInRun}
use Rattle.kt_run.proofs.Moves.{first_move, play_append, goes_first}
use Rattle.kt_run.proofs.Running.{begins_by, begins_few}

-- one move more is in order, and the generator is that after it
ordered_more : (plan : Planned) (xs : List Move) (m : Move) (u v : Progress) (g now : Option Generator) → after_moves plan u xs ≡ Some v → AreInOrder plan u g xs → now ≡ generator_after plan u g xs → step_in_order plan v now ≡ Some m.step
    → AreInOrder plan u g (xs ++ m ∷ []) × (generator_after plan u g (xs ++ m ∷ []) ≡ generator_next plan v now)
ordered_more plan [] m u v g now e o is next =
    let same : u ≡ v = ap (λ (w : Option Progress). unwrap_or w u) e in (
      (subst (λ (h : Option Generator). step_in_order plan u h ≡ Some m.step) is (subst (λ (w : Progress). step_in_order plan w now ≡ Some m.step) (sym same) next), tt),
      ap (λ (h : Option Generator). generator_next plan u h) (sym is) ∙ ap (λ (w : Progress). generator_next plan w now) same,
    )
ordered_more plan (x ∷ xs) m u v g now e o is next =
    go (enabled plan u x.step) e (λ f. ordered_more plan xs m (progress_after plan u x.step x.give) v (generator_next plan u g) now f o.1 is next)
  where
    go : (b : Bool) → (if b then after_moves plan (progress_after plan u x.step x.give) xs else None) ≡ Some v → (after_moves plan (progress_after plan u x.step x.give) xs ≡ Some v →
        AreInOrder plan (progress_after plan u x.step x.give) (generator_next plan u g) (xs ++ m ∷ []) × (generator_after plan (progress_after plan u x.step x.give) (generator_next plan u g) (xs ++ m ∷ []) ≡ generator_next plan v now))
        → AreInOrder plan u g ((x ∷ xs) ++ m ∷ []) × (generator_after plan u g ((x ∷ xs) ++ m ∷ []) ≡ generator_next plan v now)
    go true f h = let r = h f in ((o.0, r.0), r.1)
    go false f h = absurd (cc (f))

-- where the given steps lead
pub in_order_start : (plan : Planned) (cast : List (List Content)) (given : List Step) (g : Option Generator) (w : World) (at : ToldAndHeld) → BeginsRun plan cast given w at → GoesInOrder plan cast given given g g w at
in_order_start plan cast given g w at b = record {
  run = b;
  first = b.moves;
  more = [];
  are = sym (append-nil b.moves);
  begins = b.made;
  begun = b.now;
  starts = b.leads;
  leads = refl;
  ordered = tt;
  generator = refl;
}

-- one step more
pub in_order_more : RunLaws → (plan : Planned) (cast : List (List Content)) (given steps : List Step) (g now next : Option Generator) (x : Step) (old new : World) (before after : ToldAndHeld) → old.agenda.plan ≡ plan
    → (o : GoesInOrder plan cast given steps g now old before) → StepsTo old before x new after → Some x ≡ step_in_order old.agenda.plan o.run.now now → next ≡ generator_next old.agenda.plan o.run.now now
    → GoesInOrder plan cast given (steps ++ x ∷ []) g next new after
in_order_more laws plan cast given steps g now next x old new before after e o s comes turn =
    let b = begins_by laws plan cast steps x old new before after e o.run s in
    let m : Move = record { step = x; give = s.1 } in
    let chosen = subst (λ (z : Planned). step_in_order z o.run.now now ≡ Some x) e (sym comes) in
    let moved = subst (λ (z : Planned). next ≡ generator_next z o.run.now now) e turn in
    let more = ordered_more plan o.more m o.begun o.run.now g now o.leads o.ordered o.generator chosen in
    record {
      run = b.0;
      first = o.first;
      more = o.more ++ m ∷ [];
      are = b.1 ∙ (ap (λ (l : List Move). l ++ m ∷ []) o.are ∙ append_assoc o.first o.more (m ∷ []));
      begins = o.begins;
      begun = o.begun;
      starts = o.starts;
      leads = subst (λ (v : Progress). after_moves plan o.begun (o.more ++ m ∷ []) ≡ Some v) (sym b.2)
          (play_append plan o.more (m ∷ []) o.begun o.run.now (progress_after plan o.run.now x s.1) o.leads (let on = b.3 in rw on refl));
      ordered = more.0;
      generator = moved ∙ sym more.1;
    }

-- what is listed of some steps and then of others is what is listed of all
kept_more : (keep : Keep) (first more : List Step) → kept_steps keep first ++ kept_steps keep more ≡ kept_steps keep (first ++ more)
kept_more Log first more = refl
kept_more Steps first more = refl

-- a run goes so far in an order, by so many steps, at least so many of them after those given; these are listed of them
pub record GoesSoFar (plan : Planned) (cast : List (List Content)) (given : List Step) (was now : Option Generator) (keep : Keep) (listed : List Step) (done more : ℕ) (world : World) (at : ToldAndHeld) : Type 0 where
  pub steps : List Step
  pub goes : GoesInOrder plan cast given steps was now world at
  pub kept : listed ≡ kept_steps keep steps
  pub count : done ≡ length steps
  pub many : more ≤ length steps

module _ (laws : RunLaws) (plan : Planned) (cast : List (List Content)) (given : List Step) (was : Option Generator) (keep : Keep) where
  pub so_far_start : (now : Option Generator) (listed : List Step) (done : ℕ) (w : World) (at : ToldAndHeld) → now ≡ was → BeginsRun plan cast given w at → listed ≡ kept_steps keep given → done ≡ length given
      → GoesSoFar plan cast given was now keep listed done 0 w at
  so_far_start now listed done w at e b kept count = record {
    steps = given;
    goes = subst (λ (g : Option Generator). GoesInOrder plan cast given given was g w at) (sym e) (in_order_start plan cast given was w at b);
    kept = kept;
    count = count;
    many = omega arith;
  }

  pub so_far_more : (now next : Option Generator) (listed longer : List Step) (done later more : ℕ) (x : Step) (old new : World) (before after : ToldAndHeld) → old.agenda.plan ≡ plan
      → (h : GoesSoFar plan cast given was now keep listed done more old before) → StepsTo old before x new after
      → Some x ≡ step_in_order old.agenda.plan h.goes.run.now now → next ≡ generator_next old.agenda.plan h.goes.run.now now
      → longer ≡ listed ++ kept_steps keep (x ∷ []) → later ≡ done + 1 → GoesSoFar plan cast given was next keep longer later (more + 1) new after
  so_far_more now next listed longer done later more x old new before after e h s comes turn kept count =
      let push = length_push h.steps x in
      let was_count = h.count in
      let many = h.many in
      record {
        steps = h.steps ++ x ∷ [];
        goes = in_order_more laws plan cast given h.steps was now next x old new before after e h.goes s comes turn;
        kept = kept ∙ (ap (λ (l : List Step). l ++ kept_steps keep (x ∷ [])) h.kept ∙ kept_more keep h.steps (x ∷ []));
        count = omega (arith, push, count, was_count);
        many = omega (arith, push, many);
      }

  -- so few that they are counted
  pub so_far_few : (now : Option Generator) (listed : List Step) (done more : ℕ) (w : World) (at : ToldAndHeld) → w.agenda.plan ≡ plan
      → GoesSoFar plan cast given was now keep listed done more w at → (done < 67108864) × (more < 67108864)
  so_far_few now listed done more w at e h =
      let few = begins_few laws plan cast h.steps w at e h.goes.run in
      let count = h.count in
      let many = h.many in (omega (arith, few, count), omega (arith, few, many))

  -- this step comes next
  pub so_far_next : (now : Option Generator) (listed : List Step) (done more n : ℕ) (w : World) (at : ToldAndHeld) (x : Step) → w.agenda.plan ≡ plan
      → (h : GoesSoFar plan cast given was now keep listed done more w at) → Some x ≡ step_in_order w.agenda.plan h.goes.run.now now → n ≡ done → IsNext plan cast given was n w x
  so_far_next now listed done more n w at x e h comes count = inr (record {
    steps = h.steps;
    now = now;
    at = at;
    goes = h.goes;
    count = sym (count ∙ h.count);
    next = subst (λ (z : Planned). step_in_order z h.goes.run.now now ≡ Some x) e (sym comes);
  })

  -- where no step is enabled all is at rest; which steps are enabled is the law `runs_of_worlds: enabled`
  pub so_far_rest : (law : (w : World) (first : ℕ) (v : Progress) (x : Step) → Mirrors w.agenda w.system first v → can_make w x ≡ enabled w.agenda.plan v x)
      → (now : Option Generator) (listed : List Step) (done more : ℕ) (w : World) (at : ToldAndHeld) → w.agenda.plan ≡ plan → GoesSoFar plan cast given was now keep listed done more w at
      → ((x : Step) → can_make w x ≡ false) → RestsInOrder plan cast given was keep listed w at
  so_far_rest law now listed done more w at e h none =
      let run = h.goes.run in
      record {
        steps = h.steps;
        kept = h.kept;
        now = now;
        goes = h.goes;
        rest = laws.at_rest plan 0 run.now (subst (λ (z : Planned). IsPlan z) e run.shown.limits) (record { moves = run.moves; leads = run.leads })
            (λ x. subst (λ (z : Planned). enabled z run.now x ≡ false) e (sym (law w 0 run.now x run.shown) ∙ none x));
      }

-- a step is refused, or stops a run, in whatever order
module _ (plan : Planned) (cast : List (List Content)) (given : List Step) (was : Option Generator) where
  pub next_given : (i done : ℕ) (w : World) (x : Step) → IsGivenNext plan cast given i w x → done ≡ i → IsNext plan cast given was done w x
  next_given i done w x n count = inl (subst (λ (k : ℕ). IsGivenNext plan cast given k w x) (sym count) n)

  pub refused_now : (done : ℕ) (fault : StepFault) (w : World) (x : Step) → IsNext plan cast given was done w x → step_refusal w x ≡ Some fault → IsRefusedInOrder plan cast given was done fault
  refused_now done fault w x n refused = record { world = w; step = x; next = n; refused = refused }

  pub stopped_now : (done p : ℕ) (w : World) (x : Step) → IsNext plan cast given was done w x → process_of_step x ≡ p → step_refusal w x ≡ None → IsStoppedInOrder plan cast given was p
  stopped_now done p w x n own made = record { done = done; world = w; step = x; next = n; own = own; made = made }

  pub one_refused : (done : ℕ) (fault : StepFault) → IsRefusedInOrder plan cast given was done fault → IsOneRefused plan cast done fault
  one_refused done fault r = go r.next
    where
      go : IsNext plan cast given was done r.world r.step → IsOneRefused plan cast done fault
      go (inl n) = record {
        steps = take done given;
        world = r.world;
        at = n.at;
        run = n.run;
        count = (let within = slice_get_within given done r.step n.next in let short = length-take done given in omega (arith, within, short));
        step = r.step;
        refused = r.refused;
      }
      go (inr n) = record { steps = n.steps; world = r.world; at = n.at; run = n.goes.run; count = sym n.count; step = r.step; refused = r.refused }

  pub one_stopped : (p : ℕ) → IsStoppedInOrder plan cast given was p → IsOneStopped plan cast p
  one_stopped p s = go s.next
    where
      go : IsNext plan cast given was s.done s.world s.step → IsOneStopped plan cast p
      go (inl n) = record { steps = take s.done given; world = s.world; at = n.at; run = n.run; step = s.step; own = s.own; made = s.made }
      go (inr n) = record { steps = n.steps; world = s.world; at = n.at; run = n.goes.run; step = s.step; own = s.own; made = s.made }

-- with no generator the steps are default ones
pub default_goes_on : RunLaws → (plan : Planned) → IsPlan plan → (given more xs : List Move) (v w : Progress) → GoesOn plan 0 given more v → AreInOrder plan v None xs → after_moves plan v xs ≡ Some w → GoesOn plan 0 given (more ++ xs) w
default_goes_on laws plan limits given more [] v w g o e =
    subst (λ (l : List Move). GoesOn plan 0 given l w) (sym (append-nil more))
    (subst (λ (u : Progress). GoesOn plan 0 given more u) (ap (λ (u : Option Progress). unwrap_or u v) e) g)
default_goes_on laws plan limits given more (x ∷ xs) v w g o e =
    subst (λ (l : List Move). GoesOn plan 0 given l w) (append_assoc more (x ∷ []) xs)
    (default_goes_on laws plan limits given (more ++ x ∷ []) xs (progress_after plan v x.step x.give) w (laws.next_default plan 0 given more v x.step x.give limits g o.0) o.1 (first_move plan v w x xs e).1)

none_after : (plan : Planned) (v : Progress) (xs : List Move) → generator_after plan v None xs ≡ None
none_after plan v [] = refl
none_after plan v (x ∷ xs) = none_after plan (progress_after plan v x.step x.give) xs

module _ (laws : RunLaws) (plan : Planned) (cast : List (List Content)) (given : List Step) (limits : IsPlan plan) where
  module _ (steps : List Step) (now : Option Generator) (w : World) (at : ToldAndHeld) (o : GoesInOrder plan cast given steps None now w at) where
    unfoldable pub default_goes : Goes plan cast given w at
    default_goes = record {
      given = o.first;
      more = o.more;
      now = o.run.now;
      begins = o.begins;
      goes_on = default_goes_on laws plan limits o.first [] o.more o.begun o.run.now (goes_first plan o.first o.begun o.starts) o.ordered o.leads;
      shown = o.run.shown;
      limit = o.run.limit;
      few = o.run.few;
      tells = subst (λ (moves : List Move). AreToldInRun plan moves at.told) o.are o.run.tells;
      rows = o.run.rows;
      offers = subst (λ (moves : List Move). GivesOffers (rules_by cast) plan (progress_at_start plan 0) moves) o.are o.run.offers;
      due = o.run.due;
    }

  default_next : (done : ℕ) (w : World) (x : Step) → IsNextInOrder plan cast given None done w x → IsDefaultNext plan cast given done w x
  unfolding default_goes
  default_next done w x n =
      let o = n.goes in
      let made = ap (λ (l : List Step). length l) (sym o.run.made) ∙ length-map o.run.moves (λ (m : Move). m.step) in
      let all = ap (λ (l : List Move). length l) o.are ∙ length-append o.first o.more in
      let count = n.count in
      record {
        at = n.at;
        run = default_goes n.steps n.now w n.at o;
        count = omega (arith, made, all, count);
        next = subst (λ (g : Option Generator). step_in_order plan o.run.now g ≡ Some x) (o.generator ∙ none_after plan o.begun o.more) n.next;
      }

  pub default_refused : (done : ℕ) (fault : StepFault) → IsRefusedInOrder plan cast given None done fault → IsStepRefused plan cast given done fault
  default_refused done fault r = go r.next
    where
      go : IsNext plan cast given None done r.world r.step → IsStepRefused plan cast given done fault
      go (inl n) = inl (record { world = r.world; step = r.step; next = n; refused = r.refused })
      go (inr n) = inr (record { world = r.world; step = r.step; next = default_next done r.world r.step n; refused = r.refused })

  pub default_stopped : (p : ℕ) → IsStoppedInOrder plan cast given None p → IsStopped plan cast given p
  default_stopped p s = go s.next
    where
      go : IsNext plan cast given None s.done s.world s.step → IsStopped plan cast given p
      go (inl n) = record { done = s.done; world = s.world; step = s.step; next = inl n; own = s.own; made = s.made }
      go (inr n) = record { done = s.done; world = s.world; step = s.step; next = inr (default_next s.done s.world s.step n); own = s.own; made = s.made }
