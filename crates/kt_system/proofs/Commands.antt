-- Commands that begin an instance, and asks to take part in one, as the machine has them.
use Rattle.std.specs.Prelude.{◌==◌, ◌&&◌, not, if◌then◌else◌, Option, Some, None}
use Rattle.std.proofs.Common.{◌≡◌, ◌+◌, ℕ, Bool, true, false, List, length, refl, ap, subst, sym, ◌∙◌}
use Rattle.kt_base.specs.declared.words.Cause.{Cause}
use Rattle.kt_base.specs.declared.words.Cause.TheVariants.{Busy}
use Rattle.kt_base.specs.declared.words.Kind.{Kind}
use Rattle.kt_base.specs.declared.words.Kind.TheVariants.{Checkpoint, Rollback}
use Rattle.kt_base.specs.declared.words.Verb.TheVariants as verb
use Rattle.kt_meaning.specs.Past.{at_one}
use Rattle.kt_fifo.specs.declared.parcels.Parcel.{Parcel}
use Rattle.kt_protocol.specs.Replies.{unable_cause}
use Rattle.kt_protocol.specs.States.{Begin}
use Rattle.kt_process.specs.Answers.{replies, joins}
use Rattle.kt_process.specs.declared.actions.Action.{Action}
use Rattle.kt_process.specs.declared.actions.Action.TheVariants.{Nothing, Refuse, Join, Reply, Settle}
use Rattle.kt_process.specs.declared.actions.Then.{Then}
use Rattle.kt_fifo.specs.declared.parcels.Parcel.TheVariants as parcel
use Rattle.kt_process.specs.ProcessStates.{ProcessState, inst_of, inst_of_part}
use Rattle.kt_process.specs.Turns.{HasJoined, IsBegin, IsHeard, joins_by}
use Rattle.kt_process.specs.Shown.{IsSeenAs, BeginsAs, HearsAs, joined_as, asked_by, label_by, noted_as, goes_on}
use Rattle.kt_machine.specs.Seen.{SeenProcess, Seen}
use Rattle.kt_machine.specs.CallTests.{must_take, must_roll}
use Rattle.kt_machine.specs.ListChanges.{with_rest, with_parcel}
use Rattle.kt_machine.specs.SeenJoining.{no_note, part_after_ask, seen_member_ask, seen_joining_checkpoint, seen_joining_rollback}
use Rattle.kt_machine.specs.SeenReplies.{seen_replying, seen_unwilling}
use Rattle.kt_machine.specs.SeenClosing.{seen_settling}
use Rattle.kt_machine.specs.SeenMessages.{seen_refusal}
use Rattle.kt_machine.specs.Transition.{transition, seen_beginning, seen_ask}
use Rattle.kt_system.specs.Systems.{Whole, state_of}
use Rattle.kt_system.specs.Shown.{ShowsState, IsTurned, IsInside, JoinsAs, turned_to, begun_as, answered_as, with_cause}
use Rattle.kt_system.proofs.Messages.{at_same}
use Rattle.kt_system.proofs.Replying.{same_process_state}
use Rattle.kt_system.proofs.Showing.{shows_turned}

-- the state after the turn of a process that is to begin
abbrev pub turned_by : Kind → ℕ → (ℕ → ℕ) → Seen → ℕ → Action → Seen
turned_by kind k marks v p (Join asks goes) = turned_to v p (joined_as kind v.processes k None marks no_note (v.states p))
turned_by kind k marks v p Nothing = v
turned_by kind k marks v p (Refuse cause) = v
turned_by kind k marks v p (Reply to willing cause) = v
turned_by kind k marks v p (Settle commit tell) = v

stays : (a b : Whole) (v : Seen) (p : ℕ) → IsTurned a b p → IsSeenAs (state_of b p) (v.states p) → ShowsState a v → ShowsState b v
stays a b v p t s h = subst (λ (z : Seen). ShowsState b z) (same_process_state v p) (shows_turned a b v p (v.states p) t s h)

pub begin_shows : (a b : Whole) (v : Seen) (p k : ℕ) (kind : Kind) (able : Bool) (marks : ℕ → ℕ) (action : Action) → ShowsState a v → IsTurned a b p → BeginsAs kind able v.processes k marks (v.states p) (state_of b p) action → ShowsState b (turned_by kind k marks v p action)
begin_shows a b v p k kind able marks (Join asks goes) h t s = shows_turned a b v p _ t s.1.process h
begin_shows a b v p k kind able marks (Refuse cause) h t s = stays a b v p t s.1 h
begin_shows a b v p k kind able marks Nothing h t s = absurd s
begin_shows a b v p k kind able marks (Reply to willing cause) h t s = absurd s
begin_shows a b v p k kind able marks (Settle commit tell) h t s = absurd s

new_willing : (kind : Kind) (n k : ℕ) (parent : Option ℕ) (marks : ℕ → ℕ) (noted : ℕ → Option ℕ) (y : SeenProcess) → (joined_as kind n k parent marks noted y).part.willing ≡ true
new_willing Checkpoint n k parent marks noted y = refl
new_willing Rollback n k parent marks noted y = refl

pub begin_joins : (b : Whole) (v : Seen) (p k : ℕ) (kind : Kind) (able : Bool) (marks : ℕ → ℕ) (action : Action) → BeginsAs kind able v.processes k marks (v.states p) (state_of b p) action →
    ((asks : List (ℕ × ℕ)) (goes : Then) → action ≡ Join asks goes → IsInside b p) → JoinsAs b (turned_by kind k marks v p action) p (asked_by kind (v.states p).calls) (label_by kind (v.states p).calls) action
begin_joins b v p k kind able marks (Join asks goes) s inside =
    let y = joined_as kind v.processes k None marks no_note (v.states p) in
    let here : at_one p y v.states p ≡ y = at_same p y v.states in
    (s.1.cohort, s.1.way ∙ ap (λ (z : SeenProcess). goes_on z.part) (sym here), ap (λ (z : SeenProcess). z.part.willing) here ∙ new_willing kind v.processes k None marks no_note (v.states p), inside asks goes refl)
begin_joins b v p k kind able marks (Refuse cause) s inside = cc
begin_joins b v p k kind able marks Nothing s inside = cc
begin_joins b v p k kind able marks (Reply to willing cause) s inside = cc
begin_joins b v p k kind able marks (Settle commit tell) s inside = cc

-- a checkpoint
pub begins_checkpoint : (b : Whole) (v : Seen) (p : ℕ) (able : Bool) (action : Action) → BeginsAs Checkpoint able v.processes (v.begun + 1) (λ q. length (v.kept q p)) (v.states p) (state_of b p) action →
    begun_as (turned_by Checkpoint (v.begun + 1) (λ q. length (v.kept q p)) v p action) p (v.begun + 1) Checkpoint (asked_by Checkpoint (v.states p).calls) (label_by Checkpoint (v.states p).calls) action ≡ transition v (Begin p false able)
begins_checkpoint b v p able (Join asks goes) s = at_tests ((v.states p).inst == 0) (able && (v.states p).up) s.0
  where
    at_tests : (x y : Bool) → (if not x then Some (Busy (v.states p).inst) else if y then None else Some (unable_cause (v.states p).up)) ≡ None →
        seen_beginning v p false ≡ (if x then (if y then seen_beginning v p false else seen_refusal v p verb.Checkpoint (unable_cause (v.states p).up)) else seen_refusal v p verb.Checkpoint (Busy (v.states p).inst))
    at_tests true true e = refl
    at_tests true false e = absurd (cc (e))
    at_tests false y e = absurd (cc (e))
begins_checkpoint b v p able (Refuse cause) s = at_tests ((v.states p).inst == 0) (able && (v.states p).up) s.0
  where
    at_tests : (x y : Bool) → (if not x then Some (Busy (v.states p).inst) else if y then None else Some (unable_cause (v.states p).up)) ≡ Some cause →
        seen_refusal v p verb.Checkpoint cause ≡ (if x then (if y then seen_beginning v p false else seen_refusal v p verb.Checkpoint (unable_cause (v.states p).up)) else seen_refusal v p verb.Checkpoint (Busy (v.states p).inst))
    at_tests true true e = absurd (cc (e))
    at_tests true false e = let i : unable_cause (v.states p).up ≡ cause = cc in ap (λ (z : Cause). seen_refusal v p verb.Checkpoint z) (sym i)
    at_tests false y e = let i : Busy (v.states p).inst ≡ cause = cc in ap (λ (z : Cause). seen_refusal v p verb.Checkpoint z) (sym i)
begins_checkpoint b v p able Nothing s = absurd s
begins_checkpoint b v p able (Reply to willing cause) s = absurd s
begins_checkpoint b v p able (Settle commit tell) s = absurd s

-- a rollback
pub begins_rollback : (b : Whole) (v : Seen) (p : ℕ) (able : Bool) (marks : ℕ → ℕ) (action : Action) → BeginsAs Rollback true v.processes (v.begun + 1) marks (v.states p) (state_of b p) action →
    begun_as (turned_by Rollback (v.begun + 1) marks v p action) p (v.begun + 1) Rollback (asked_by Rollback (v.states p).calls) (label_by Rollback (v.states p).calls) action ≡ transition v (Begin p true able)
begins_rollback b v p able marks (Join asks goes) s = at_test ((v.states p).inst == 0) s.0
  where
    at_test : (x : Bool) → (if not x then Some (Busy (v.states p).inst) else None) ≡ None → seen_beginning v p true ≡ (if x then seen_beginning v p true else seen_refusal v p verb.Rollback (Busy (v.states p).inst))
    at_test true e = refl
    at_test false e = absurd (cc (e))
begins_rollback b v p able marks (Refuse cause) s = at_test ((v.states p).inst == 0) s.0
  where
    at_test : (x : Bool) → (if not x then Some (Busy (v.states p).inst) else None) ≡ Some cause → seen_refusal v p verb.Rollback cause ≡ (if x then seen_beginning v p true else seen_refusal v p verb.Rollback (Busy (v.states p).inst))
    at_test true e = absurd (cc (e))
    at_test false e = let i : Busy (v.states p).inst ≡ cause = cc in ap (λ (z : Cause). seen_refusal v p verb.Rollback z) (sym i)
begins_rollback b v p able marks Nothing s = absurd s
begins_rollback b v p able marks (Reply to willing cause) s = absurd s
begins_rollback b v p able marks (Settle commit tell) s = absurd s

-- the state after the turn of a process that is asked
abbrev pub heard_by : Kind → ℕ → ℕ → ℕ → (ℕ → ℕ) → Seen → ℕ → Action → Seen
heard_by kind q k label marks v p (Join asks goes) = turned_to v p (joined_as kind v.processes k (Some q) marks (at_one q (Some label) no_note) (v.states p))
heard_by kind q k label marks v p (Reply to willing cause) = turned_to v p (noted_as kind q k label (v.states p))
heard_by kind q k label marks v p Nothing = v
heard_by kind q k label marks v p (Refuse cause) = v
heard_by kind q k label marks v p (Settle commit tell) = v

pub hear_shows : (a b : Whole) (v : Seen) (p q k label : ℕ) (kind : Kind) (able : Bool) (marks : ℕ → ℕ) (action : Action) → ShowsState a v → IsTurned a b p → HearsAs kind able v.processes q k label marks (v.states p) (state_of b p) action →
    ShowsState b (heard_by kind q k label marks v p action)
hear_shows a b v p q k label kind able marks (Join asks goes) h t s = shows_turned a b v p _ t s.1.process h
hear_shows a b v p q k label kind able marks (Reply to willing cause) h t s = shows_turned a b v p _ t s.2 h
hear_shows a b v p q k label kind able marks Nothing h t s = absurd s
hear_shows a b v p q k label kind able marks (Refuse cause) h t s = absurd s
hear_shows a b v p q k label kind able marks (Settle commit tell) h t s = absurd s

-- and after its ask has gone from the channel
abbrev pub asked_by_front : Seen → ℕ → ℕ → List Parcel → Seen
asked_by_front v p q rest = record v { channel = with_rest v.channel q p rest }

pub hear_joins : (b d : Whole) (v : Seen) (p q k label : ℕ) (kind : Kind) (able : Bool) (marks : ℕ → ℕ) (action : Action) (rest : List Parcel) → HearsAs kind able v.processes q k label marks (v.states p) (state_of b p) action →
    ((asks : List (ℕ × ℕ)) (goes : Then) → action ≡ Join asks goes → IsInside d p) →
    JoinsAs d (asked_by_front (heard_by kind q k label marks v p action) p q rest) p (asked_by kind (v.states p).calls) (label_by kind (v.states p).calls) action
hear_joins b d v p q k label kind able marks (Join asks goes) rest s inside =
    let y = joined_as kind v.processes k (Some q) marks (at_one q (Some label) no_note) (v.states p) in
    let here : at_one p y v.states p ≡ y = at_same p y v.states in
    (s.1.cohort, s.1.way ∙ ap (λ (z : SeenProcess). goes_on z.part) (sym here), ap (λ (z : SeenProcess). z.part.willing) here ∙ new_willing kind v.processes k (Some q) marks (at_one q (Some label) no_note) (v.states p), inside asks goes refl)
hear_joins b d v p q k label kind able marks (Reply to willing cause) rest s inside = cc
hear_joins b d v p q k label kind able marks Nothing rest s inside = cc
hear_joins b d v p q k label kind able marks (Refuse cause) rest s inside = cc
hear_joins b d v p q k label kind able marks (Settle commit tell) rest s inside = cc

-- what a reply says, by what comes of an ask
replied : (v w : Seen) (p q k : ℕ) (rest : List Parcel) (willing : Bool) (cause : Option Cause) (b : Bool) (o : Option Cause) → replies b o ≡ replies willing cause → v ≡ w →
    with_cause (record v { channel = with_parcel (with_rest v.channel q p rest) p q (parcel.Reply k willing) }) p k cause ≡ with_cause (record w { channel = with_parcel (with_rest w.channel q p rest) p q (parcel.Reply k b) }) p k o
replied v w p q k rest willing cause b o e f =
    let i : b ≡ willing = cc in
    let j : o ≡ cause = cc in
    ap (λ (z : Seen). with_cause (record z { channel = with_parcel (with_rest z.channel q p rest) p q (parcel.Reply k willing) }) p k cause) f
    ∙ (ap (λ (z : Bool). with_cause (record w { channel = with_parcel (with_rest w.channel q p rest) p q (parcel.Reply k z) }) p k cause) (sym i)
    ∙ ap (λ (z : Option Cause). with_cause (record w { channel = with_parcel (with_rest w.channel q p rest) p q (parcel.Reply k b) }) p k z) (sym j))

pub hears_checkpoint : (b : Whole) (v : Seen) (p q k label : ℕ) (able : Bool) (action : Action) (rest : List Parcel) → HearsAs Checkpoint able v.processes q k label (λ u. length (v.kept u p)) (v.states p) (state_of b p) action →
    answered_as (asked_by_front (heard_by Checkpoint q k label (λ u. length (v.kept u p)) v p action) p q rest) p q k Checkpoint (asked_by Checkpoint (v.states p).calls) (label_by Checkpoint (v.states p).calls) action
    ≡ seen_ask v p q able k false label rest
hears_checkpoint b v p q k label able (Reply to willing cause) rest s =
    at_tests ((v.states p).inst == k) ((v.states p).inst == 0) (must_take (v.states p).calls q label) (able && (v.states p).up) s.1
  where
    at_tests : (x z m u : Bool) →
        (if x then replies true None else if not z then replies false (Some (Busy (v.states p).inst)) else if not m then replies true None else if not u then replies false (Some (unable_cause (v.states p).up)) else joins) ≡ replies willing cause →
        with_cause (record (turned_to v p (v.states p)) { channel = with_parcel (with_rest v.channel q p rest) p q (parcel.Reply k willing) }) p k cause
        ≡ (if x then seen_replying (seen_member_ask v false p q label) p q k true rest else if not z then seen_unwilling v p q k (Busy (v.states p).inst) rest
        else if not m then seen_replying v p q k true rest else if not u then seen_unwilling v p q k (unable_cause (v.states p).up) rest
        else seen_settling (seen_joining_checkpoint v (with_rest v.channel q p rest) p k (Some q)) p k)
    at_tests true z m u e = replied (turned_to v p (v.states p)) (seen_member_ask v false p q label) p q k rest willing cause true None e refl
    at_tests false false m u e = replied (turned_to v p (v.states p)) v p q k rest willing cause false (Some (Busy (v.states p).inst)) e (same_process_state v p)
    at_tests false true false u e = replied (turned_to v p (v.states p)) v p q k rest willing cause true None e (same_process_state v p)
    at_tests false true true false e = replied (turned_to v p (v.states p)) v p q k rest willing cause false (Some (unable_cause (v.states p).up)) e (same_process_state v p)
    at_tests false true true true e = absurd (cc (e))
hears_checkpoint b v p q k label able (Join asks goes) rest s =
    at_tests ((v.states p).inst == k) ((v.states p).inst == 0) (must_take (v.states p).calls q label) (able && (v.states p).up) s.0
  where
    at_tests : (x z m u : Bool) →
        (if x then replies true None else if not z then replies false (Some (Busy (v.states p).inst)) else if not m then replies true None else if not u then replies false (Some (unable_cause (v.states p).up)) else joins) ≡ joins →
        seen_settling (seen_joining_checkpoint v (with_rest v.channel q p rest) p k (Some q)) p k
        ≡ (if x then seen_replying (seen_member_ask v false p q label) p q k true rest else if not z then seen_unwilling v p q k (Busy (v.states p).inst) rest
        else if not m then seen_replying v p q k true rest else if not u then seen_unwilling v p q k (unable_cause (v.states p).up) rest
        else seen_settling (seen_joining_checkpoint v (with_rest v.channel q p rest) p k (Some q)) p k)
    at_tests true z m u e = absurd (cc (e))
    at_tests false false m u e = absurd (cc (e))
    at_tests false true false u e = absurd (cc (e))
    at_tests false true true false e = absurd (cc (e))
    at_tests false true true true e = refl
hears_checkpoint b v p q k label able Nothing rest s = absurd s
hears_checkpoint b v p q k label able (Refuse cause) rest s = absurd s
hears_checkpoint b v p q k label able (Settle commit tell) rest s = absurd s

pub hears_rollback : (b : Whole) (v : Seen) (p q k label : ℕ) (able : Bool) (marks : ℕ → ℕ) (action : Action) (rest : List Parcel) → HearsAs Rollback true v.processes q k label marks (v.states p) (state_of b p) action →
    answered_as (asked_by_front (heard_by Rollback q k label marks v p action) p q rest) p q k Rollback (asked_by Rollback (v.states p).calls) (label_by Rollback (v.states p).calls) action
    ≡ seen_ask v p q able k true label rest
hears_rollback b v p q k label able marks (Reply to willing cause) rest s = at_tests ((v.states p).inst == k) ((v.states p).inst == 0) (must_roll (v.states p).calls q label) s.1
  where
    at_tests : (x z m : Bool) → (if x then replies true None else if not z then replies false (Some (Busy (v.states p).inst)) else if m then joins else replies true None) ≡ replies willing cause →
        with_cause (record (turned_to v p (if x then record (v.states p) { part = part_after_ask (v.states p).part q label } else v.states p)) { channel = with_parcel (with_rest v.channel q p rest) p q (parcel.Reply k willing) }) p k cause
        ≡ (if x then seen_replying (seen_member_ask v true p q label) p q k true rest else if not z then seen_unwilling v p q k (Busy (v.states p).inst) rest
        else if m then seen_settling (seen_joining_rollback v (with_rest v.channel q p rest) p k (Some q) (at_one q (Some label) no_note)) p k else seen_replying v p q k true rest)
    at_tests true z m e = replied (seen_member_ask v true p q label) (seen_member_ask v true p q label) p q k rest willing cause true None e refl
    at_tests false false m e = replied (turned_to v p (v.states p)) v p q k rest willing cause false (Some (Busy (v.states p).inst)) e (same_process_state v p)
    at_tests false true true e = absurd (cc (e))
    at_tests false true false e = replied (turned_to v p (v.states p)) v p q k rest willing cause true None e (same_process_state v p)
hears_rollback b v p q k label able marks (Join asks goes) rest s = at_tests ((v.states p).inst == k) ((v.states p).inst == 0) (must_roll (v.states p).calls q label) s.0
  where
    at_tests : (x z m : Bool) → (if x then replies true None else if not z then replies false (Some (Busy (v.states p).inst)) else if m then joins else replies true None) ≡ joins →
        seen_settling (seen_joining_rollback v (with_rest v.channel q p rest) p k (Some q) (at_one q (Some label) no_note)) p k
        ≡ (if x then seen_replying (seen_member_ask v true p q label) p q k true rest else if not z then seen_unwilling v p q k (Busy (v.states p).inst) rest
        else if m then seen_settling (seen_joining_rollback v (with_rest v.channel q p rest) p k (Some q) (at_one q (Some label) no_note)) p k else seen_replying v p q k true rest)
    at_tests true z m e = absurd (cc (e))
    at_tests false false m e = absurd (cc (e))
    at_tests false true true e = refl
    at_tests false true false e = absurd (cc (e))
hears_rollback b v p q k label able marks Nothing rest s = absurd s
hears_rollback b v p q k label able marks (Refuse cause) rest s = absurd s
hears_rollback b v p q k label able marks (Settle commit tell) rest s = absurd s

-- who joins is then in an instance
joined_inside : (kind : Kind) (k : ℕ) (parent : Option ℕ) (before after : ProcessState) (action : Action) → HasJoined kind k parent before after action → inst_of after.side ≡ None → ⊥
joined_inside kind k parent before after action j e = let i : inst_of after.side ≡ Some j.part.inst = ap inst_of_part j.is in absurd (cc (e, i))

pub begins_inside : (a b : Whole) (kind : Kind) (k p : ℕ) (action : Action) (asks : List (ℕ × ℕ)) (goes : Then) → IsBegin kind k (state_of a p) (state_of b p) action → action ≡ Join asks goes → IsInside b p
begins_inside a b kind k p action asks goes s e =
    joined_inside kind k None (state_of a p) (state_of b p) (Join asks goes) (subst (λ (z : Action). IsBegin kind k (state_of a p) (state_of b p) z) e s)

pub hears_inside : (a b : Whole) (kind : Kind) (able : Bool) (from k label p : ℕ) (action : Action) (asks : List (ℕ × ℕ)) (goes : Then) → IsHeard kind able from k label (state_of a p) (state_of b p) action → action ≡ Join asks goes → IsInside b p
hears_inside a b kind able from k label p action asks goes s e =
    joined_inside kind k (Some from) (state_of a p) (state_of b p) (Join asks goes) (subst (λ (z : Action). IsHeard kind able from k label (state_of a p) (state_of b p) z) e s).1

-- and its labels say that it joins
pub hears_joins : (a b : Whole) (kind : Kind) (able : Bool) (from k label p : ℕ) (action : Action) (asks : List (ℕ × ℕ)) (goes : Then) → IsHeard kind able from k label (state_of a p) (state_of b p) action → action ≡ Join asks goes →
    joins_by (state_of a p) kind able from label ≡ true
hears_joins a b kind able from k label p action asks goes s e = (subst (λ (z : Action). IsHeard kind able from k label (state_of a p) (state_of b p) z) e s).0

-- marks count where it joins
pub hears_marked : (kind : Kind) (able : Bool) (n q k label : ℕ) (old new : ℕ → ℕ) (y : SeenProcess) (x : ProcessState) (action : Action) → ((asks : List (ℕ × ℕ)) (goes : Then) → action ≡ Join asks goes → old ≡ new) →
    HearsAs kind able n q k label old y x action → HearsAs kind able n q k label new y x action
hears_marked kind able n q k label old new y x (Join asks goes) e s = subst (λ (m : ℕ → ℕ). HearsAs kind able n q k label m y x (Join asks goes)) (e asks goes refl) s
hears_marked kind able n q k label old new y x (Reply to willing cause) e s = s
hears_marked kind able n q k label old new y x Nothing e s = absurd s
hears_marked kind able n q k label old new y x (Refuse cause) e s = absurd s
hears_marked kind able n q k label old new y x (Settle commit tell) e s = absurd s

-- its turn leaves the channels
pub heard_channel : (kind : Kind) (q k label : ℕ) (marks : ℕ → ℕ) (v : Seen) (p : ℕ) (action : Action) → (heard_by kind q k label marks v p action).channel ≡ v.channel
heard_channel kind q k label marks v p (Join asks goes) = refl
heard_channel kind q k label marks v p (Reply to willing cause) = refl
heard_channel kind q k label marks v p Nothing = refl
heard_channel kind q k label marks v p (Refuse cause) = refl
heard_channel kind q k label marks v p (Settle commit tell) = refl
