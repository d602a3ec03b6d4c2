-- A run goes on with the world.
use Rattle.std.specs.Prelude.{Option, unwrap_or, slice_get, not, if◌then◌else◌}
use Rattle.std.proofs.Common.{◌≡◌, ℕ, zero, suc, ℤ, Bool, true, false, Some, None, List, [], ◌∷◌, ◌++◌, ◌+◌, ◌<◌, ◌≤◌, arith, take, length, length-append, get_or, refl, sym, ap, subst, ◌∙◌}
use Rattle.std.proofs.lemmas.Option.{slice_get_read}
use Rattle.std.proofs.lemmas.List.{map-append, take_more, length-map}
use Rattle.kt_plan.specs.Limits.{Planned, IsPlan}
use Rattle.kt_plan.specs.declared.steps.Step.{Step}
use Rattle.kt_plan.specs.declared.steps.Give.{Give}
use Rattle.kt_plan.specs.declared.steps.Told.{Told}
use Rattle.kt_plan.specs.declared.steps.Act.{Act}
use Rattle.kt_object.specs.Holdings.{Content}
use Rattle.kt_machine.specs.Values.{Rules}
use Rattle.kt_spacetime.specs.declared.event.Event.{Event}
use Rattle.kt_promises.specs.Runs.{Move, after_moves}
use Rattle.kt_promises.specs.Progress.{Progress, progress_at_start}
use Rattle.kt_promises.specs.Steps.{enabled, progress_after, process_of_step}
use Rattle.kt_promises.specs.StepActs.{acts_of_step}
use Rattle.kt_promises.specs.Told.{told_at}
use Rattle.kt_promises.specs.Offers.{GivesOffer, GivesOffers}
use Rattle.kt_manager.specs.ShownActs.{acts_shown}
use Rattle.kt_system.specs.Systems.{LogGrows}
use Rattle.kt_core.specs.Worlds.{World, step_refusal, is_full, numbered_row, can_make}
use Rattle.kt_core.specs.declared.faults.StepFault.TheVariants.{NotEnabled, LogFull}
use Rattle.std.proofs.lemmas.Bool.{ltb-false}
use Rattle.kt_core.specs.declared.faults.StepFault.{StepFault}
use Rattle.kt_core.specs.Shown.{Mirrors}
use Rattle.kt_run.specs.Objects.{rules_by, HoldDue}
use Rattle.kt_run.specs.RunLaws.{RunLaws}
use Rattle.kt_run.specs.Refused.{IsGivenNext}
use Rattle.kt_run.specs.Runs.{ToldAndHeld, Tells, StepsTo, Starts, BeginsRun}
use Rattle.kt_run.specs.Telling.{IsToldAs, AreToldTheirRows, TellsItsRows, AreEmpty, IsNoted}
use Rattle.kt_run.proofs.Moves.{first_move, play_append, goes_first}
use Rattle.kt_run.proofs.Numbering.{told_their_none, told_their_more}
use Rattle.kt_run.proofs.Telling.{told_as, tells_its_rows, tells_nothing, tells_more}

-- where a step is not refused, the log has room for its rows
room_left : (w : World) (x : Step) → step_refusal w x ≡ None → length w.system.rows.rows + 4 ≤ w.limit
room_left w x e = ltb-false w.limit (length w.system.rows.rows + 4) (go (not (can_make w x)) (is_full w) _ e)
  where
    go : (a b : Bool) (more : Option StepFault) → (if a then Some NotEnabled else if b then Some LogFull else more) ≡ None → b ≡ false
    go true b more e = absurd (cc (e))
    go false true more e = absurd (cc (e))
    go false false more e = refl

room_kept : (old new : World) (x : Step) → LogGrows 4 old.system new.system → step_refusal old x ≡ None → new.limit ≡ old.limit → length new.system.rows.rows ≤ new.limit
room_kept old new x grew e limit =
    let room = room_left old x e in
    let rows = ap (λ (l : List Event). length l) grew.rows ∙ length-append old.system.rows.rows grew.more in
    let few = grew.few in
    omega (arith, room, rows, few, limit)

abbrev Allows : World → Step → Type 0
Allows old x = (first : ℕ) (v : Progress) → Mirrors old.agenda old.system first v → enabled old.agenda.plan v x ≡ true

abbrev Leads : World → World → Give → Step → Type 0
Leads old new give x = (first : ℕ) (v : Progress) → Mirrors old.agenda old.system first v → Mirrors new.agenda new.system first (progress_after old.agenda.plan v x give)

abbrev Acts : World → List Act → Give → Step → Type 0
Acts old acts give x = (first : ℕ) (v : Progress) → Mirrors old.agenda old.system first v → acts_shown acts ≡ acts_of_step old.agenda.plan v x give (process_of_step x)

pub tells_now : RunLaws → (old new : World) (before after : List (List Told)) (x : Step) (give : Give) (told : Told) (acts : List Act) → acts ≡ told.acts → told.step ≡ x → LogGrows 4 old.system new.system → length told.rows ≡ 4
    → ((i : ℕ) → i < 4 → slice_get told.rows i ≡ Some (numbered_row new.system.rows.rows (length old.system.rows.rows + i))) → IsNoted told before after
    → new.limit ≡ old.limit → step_refusal old x ≡ None → Allows old x → Leads old new give x → Acts old told.acts give x → Tells old before x give new after acts
tells_now laws old new before after x give told acts same is grew four read noted limit =
    subst (λ (y : Step). step_refusal old y ≡ None → Allows old y → Leads old new give y → Acts old told.acts give y → Tells old before y give new after acts) is
    (λ allowed enables leads asks. (
      told,
      noted,
      same,
      limit,
      room_kept old new told.step grew allowed limit,
      λ first v r.
          let on = enables first v r in (
            on,
            leads first v r,
            told_as laws old.agenda.plan told give old new first v refl r (leads first v r) on grew four read (asks first v r),
            tells_its_rows laws old.agenda.plan told give old new first v refl r (leads first v r) on grew four read (asks first v r),
          ),
    ))

-- the rows that a step tells, of which there are four at most
rows_at : List Event → ℕ → List (Option (ℕ × Event))
rows_at rows n = numbered_row rows (n + 0) ∷ numbered_row rows (n + 1) ∷ numbered_row rows (n + 2) ∷ numbered_row rows (n + 3) ∷ []

read_at : (rows : List Event) (n i : ℕ) → i < 4 → slice_get (rows_at rows n) i ≡ Some (numbered_row rows (n + i))
unfolding rows_at
read_at rows n zero l = refl
read_at rows n (suc zero) l = refl
read_at rows n (suc (suc zero)) l = refl
read_at rows n (suc (suc (suc zero))) l = refl
read_at rows n (suc (suc (suc (suc i)))) l = absurd (omega (arith, l))

four_at : (rows : List Event) (n : ℕ) → length (rows_at rows n) ≡ 4
unfolding rows_at
four_at rows n = refl

-- so it does where nobody keeps what it tells
pub tells_unkept : RunLaws → (old new : World) (x : Step) (give : Give) (acts : List Act) → LogGrows 4 old.system new.system → new.limit ≡ old.limit → step_refusal old x ≡ None → Allows old x → Leads old new give x → Acts old acts give x
    → Tells old [] x give new [] acts
tells_unkept laws old new x give acts grew limit allowed enables leads asks =
    let told : Told = record { step = x; rows = rows_at new.system.rows.rows (length old.system.rows.rows); acts = acts } in
    tells_now laws old new [] [] x give told acts refl refl grew (four_at new.system.rows.rows (length old.system.rows.rows)) (read_at new.system.rows.rows (length old.system.rows.rows))
    (record { count = refl; each = λ p l. absurd (omega (arith, l)) }) limit allowed enables leads asks

abbrev Led : Planned → Progress → Step → World → Told → Give → Type 0
Led plan v x new told give = (enabled plan v x ≡ true) × Mirrors new.agenda new.system 0 (progress_after plan v x give)
    × IsToldAs told (told_at plan v (record { step = x; give = give }))
    × TellsItsRows told v.now.log (progress_after plan v x give).now.log

led : (plan : Planned) (old new : World) (before after : ToldAndHeld) (x : Step) (v : Progress) → old.agenda.plan ≡ plan → (s : StepsTo old before x new after) → Mirrors old.agenda old.system 0 v → Led plan v x new s.0 s.1
led plan old new before after x v e s r = let t = s.5 0 v r in subst (λ (z : Planned). Led z v x new s.0 s.1) e (t.0, t.1, t.2, t.3)

-- what each process holds, and what is given
abbrev Keeps : Planned → List (List Content) → Progress → Step → Give → ToldAndHeld → Type 0
Keeps plan cast v x give after = GivesOffer (rules_by cast) plan v x give × HoldDue cast (progress_after plan v x give).now.log after.has

keeps : (plan : Planned) (cast : List (List Content)) (old new : World) (before after : ToldAndHeld) (x : Step) (v : Progress) → old.agenda.plan ≡ plan → (s : StepsTo old before x new after) → Mirrors old.agenda old.system 0 v
    → HoldDue cast v.now.log before.has → Keeps plan cast v x s.1 after
keeps plan cast old new before after x v e s r due = subst (λ (z : Planned). Keeps z cast v x s.1 after) e ((s.5 0 v r).4 cast due)

-- what is given at some moves, and at one more
gives_more : (rules : ℕ → Rules (List ℤ)) (plan : Planned) (xs : List Move) (m : Move) (u v : Progress) → after_moves plan u xs ≡ Some v
    → GivesOffers rules plan u xs → GivesOffer rules plan v m.step m.give → GivesOffers rules plan u (xs ++ m ∷ [])
gives_more rules plan [] m u v e o g = (subst (λ (w : Progress). GivesOffer rules plan w m.step m.give) (sym (ap (λ (w : Option Progress). unwrap_or w u) e)) g, tt)
gives_more rules plan (x ∷ xs) m u v e o g = (o.0, gives_more rules plan xs m (progress_after plan u x.step x.give) v (first_move plan u v x xs e).1 o.1 g)

pub begins_start : (plan : Planned) (cast : List (List Content)) (w : World) (at : ToldAndHeld) → Starts plan w → AreEmpty at.told → HoldDue cast [] at.has → BeginsRun plan cast [] w at
begins_start plan cast w at s n due = record {
  moves = [];
  now = progress_at_start plan 0;
  made = refl;
  leads = refl;
  shown = s.shown;
  limit = s.limit;
  few = (let e = ap (λ (l : List Event). length l) s.rows in omega (arith, e));
  tells = tells_nothing plan at.told n;
  rows = subst (λ (log : List Event). AreToldTheirRows log at.told) (sym s.rows ∙ s.shown.now.log) (told_their_none at.told n);
  offers = tt;
  due = subst (λ (log : List Event). HoldDue cast log at.has) (sym s.rows ∙ s.shown.now.log) due;
}

pub begins_more : RunLaws → (plan : Planned) (cast : List (List Content)) (steps : List Step) (x : Step) (old new : World) (before after : ToldAndHeld) → old.agenda.plan ≡ plan → BeginsRun plan cast steps old before → StepsTo old before x new after
    → BeginsRun plan cast (steps ++ x ∷ []) new after
begins_more laws plan cast steps x old new before after e b s =
    let l = led plan old new before after x b.now e s b.shown in
    let k = keeps plan cast old new before after x b.now e s b.shown b.due in
    let m : Move = record { step = x; give = s.1 } in
    record {
      moves = b.moves ++ m ∷ [];
      now = progress_after plan b.now x s.1;
      made = map-append (λ (y : Move). y.step) b.moves (m ∷ []) ∙ ap (λ (ys : List Step). ys ++ x ∷ []) b.made;
      leads = play_append plan b.moves (m ∷ []) (progress_at_start plan 0) b.now (progress_after plan b.now x s.1) b.leads (let on = l.0 in rw on refl);
      shown = l.1;
      limit = s.3 ∙ b.limit;
      few = s.4;
      tells = tells_more laws plan b.moves b.now m s.0 before.told after.told b.leads l.2 s.2 b.tells;
      rows = told_their_more s.0 b.now.now.log (progress_after plan b.now x s.1).now.log l.3 before.told after.told s.2 b.rows;
      offers = gives_more (rules_by cast) plan b.moves m (progress_at_start plan 0) b.now b.leads b.offers k.0;
      due = k.1;
    }

-- its moves are those before and this one
pub begins_by : RunLaws → (plan : Planned) (cast : List (List Content)) (steps : List Step) (x : Step) (old new : World) (before after : ToldAndHeld) → old.agenda.plan ≡ plan → (b : BeginsRun plan cast steps old before) → (s : StepsTo old before x new after)
    → (r : BeginsRun plan cast (steps ++ x ∷ []) new after) × (r.moves ≡ b.moves ++ record { step = x; give = s.1 } ∷ []) × (r.now ≡ progress_after plan b.now x s.1) × (enabled plan b.now x ≡ true)
unfolding begins_more
begins_by laws plan cast steps x old new before after e b s = (begins_more laws plan cast steps x old new before after e b s, refl, refl, (led plan old new before after x b.now e s b.shown).0)

-- so few that they are counted
pub begins_few : RunLaws → (plan : Planned) (cast : List (List Content)) (steps : List Step) (w : World) (at : ToldAndHeld) → w.agenda.plan ≡ plan → BeginsRun plan cast steps w at → length steps < 67108864
begins_few laws plan cast steps w at e b =
    let few = b.few in
    let limit = b.limit in
    let i = subst (λ (z : Planned). IsPlan z) e b.shown.limits in
    let names = i.names.few in
    let commands = i.few in
    let log = ap (λ (l : List Event). length l) b.shown.now.log in
    let below = laws.limits plan 0 b.moves [] b.now i names (omega (arith, commands)) (omega (arith, few, limit, log)) (goes_first plan b.moves b.now b.leads) in
    let made = sym (length-map b.moves (λ (m : Move). m.step)) ∙ ap (λ (l : List Step). length l) b.made in
    omega (arith, below, made)

-- the next step of those given
pub given_next : (plan : Planned) (cast : List (List Content)) (steps : List Step) (i : ℕ) (w : World) (at : ToldAndHeld) (x : Step) → BeginsRun plan cast (take i steps) w at → i < length steps → x ≡ get_or steps i x → IsGivenNext plan cast steps i w x
given_next plan cast steps i w at x b l e = record { at = at; run = b; next = slice_get_read steps (length steps) i x refl l e }

pub take_next : (xs : List Step) (i : ℕ) (x : Step) → i < length xs → x ≡ get_or xs i x → take (i + 1) xs ≡ take i xs ++ x ∷ []
take_next xs i x l e = take_more xs i x l ∙ ap (λ (y : Step). take i xs ++ y ∷ []) (sym e)
