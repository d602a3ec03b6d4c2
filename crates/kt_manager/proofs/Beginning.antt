-- A command to begin an instance, as the node's rules have it.
use Rattle.std.specs.Prelude.{◌&&◌, if◌then◌else◌, Option, Some, None}
use Rattle.std.proofs.Common.{◌≡◌, ◌∙◌, ℕ, ◌+◌, Bool, true, false, List, [], ◌∷◌, ◌++◌, length, refl, sym, ap, subst}
use Rattle.std.proofs.Math.Path.{fun_ext}
use Rattle.std.proofs.lemmas.List.{length-map}
use Rattle.kt_base.specs.declared.words.Cause.{Cause}
use Rattle.kt_base.specs.declared.words.Cause.TheVariants as cause
use Rattle.kt_base.specs.declared.words.Kind.{Kind}
use Rattle.kt_base.specs.declared.words.Kind.TheVariants.{Checkpoint, Rollback}
use Rattle.kt_base.specs.declared.words.Verb.TheVariants as verb
use Rattle.kt_meaning.specs.Past.{is_rollback_kind}
use Rattle.kt_process.specs.declared.actions.Action.{Action}
use Rattle.kt_process.specs.declared.actions.Then.{Then}
use Rattle.kt_protocol.specs.Replies.{unable_cause}
use Rattle.kt_tables.specs.Calls.{on_tentative}
use Rattle.kt_tables.specs.Peers.{IsCohort}
use Rattle.kt_machine.specs.CallTests.{is_asked_in_checkpoint, is_asked_in_rollback}
use Rattle.kt_machine.specs.SeenJoining.{new_part, no_note}
use Rattle.kt_machine.specs.Seen.{SeenProcess}
use Rattle.kt_process.specs.ProcessStates.{ProcessState}
use Rattle.kt_process.specs.Shown.{IsSeenAs, IsProcessJoined, BeginsAs, HearsAs, begin_cause, label_by, goes_on, no_mark}
use Rattle.kt_manager.specs.Turns.{begin_verb, able_in, marks_in, named_cause, joined_in}
use Rattle.kt_spacetime.specs.declared.names.InstName.{InstName}
use Rattle.kt_spacetime.specs.declared.named_rows.NamedEvent.{NamedEvent}
use Rattle.kt_spacetime.specs.declared.named_rows.NamedEvent.TheVariants.{Began}
use Rattle.kt_manager.specs.Nodes.{NodeLists, NodeState, Doing}
use Rattle.kt_manager.specs.NodeClosing.{settling}
use Rattle.kt_manager.specs.NodeMessages.{refusing, unable}
use Rattle.kt_manager.specs.NodeSteps.{starting, told_to_begin}
use Rattle.kt_manager.specs.Inboxes.{kept_of, counts_of}
use Rattle.kt_manager.specs.Managers.{ManagerState, as_parcel, HoldsFor, ShowsManager, number_for, process_of}

-- a node that has joined k
abbrev pub joined_node : Kind → InstName → Option ℕ → (ℕ → Option ℕ) → NodeState → NodeState
joined_node Checkpoint k parent noted y =
    record y { calls = y.calls ++ on_tentative ∷ []; inst = Some k; part = new_part y.processes false parent (is_asked_in_checkpoint y.calls) no_note (λ q. length (y.kept q)); answered = λ q. false }
joined_node Rollback k parent noted y = record y { inst = Some k; part = new_part y.processes true parent (is_asked_in_rollback y.calls) noted (λ q. 0); answered = λ q. false }

-- what holds of each node whose process has joined so, and goes on, holds of this one
pub go_joined : (kind : Kind) (k : InstName) (parent : Option ℕ) (noted : ℕ → Option ℕ) (z : NodeState) (w : ManagerState) (asks : List (ℕ × ℕ)) (goes : Then) (rows : List NamedEvent) (P : Doing → Type 0)
    → ((y : NodeState) (label : ℕ → ℕ) → HoldsFor w y → IsSeenAs w.process (process_of y) → y.inst ≡ Some k → IsCohort asks y.part.asked label → goes ≡ goes_on y.part → y.part.willing ≡ true → P (settling k (joined_in k kind label rows y)))
    → HoldsFor w z → IsProcessJoined kind z.processes 1 parent (marks_in kind z) noted (process_of z) w.process asks goes
    → P (settling k (joined_in k kind (label_by kind z.calls) rows (joined_node kind k parent noted z)))
go_joined Checkpoint k parent noted z w asks goes rows P f h j =
    f (joined_node Checkpoint k parent noted z) (label_by Checkpoint z.calls) (record { processes = h.processes; me = h.me; held = h.held; kept = h.kept }) j.process refl j.cohort j.way refl
go_joined Rollback k parent noted z w asks goes rows P f h j =
    f (joined_node Rollback k parent noted z) (label_by Rollback z.calls) (record { processes = h.processes; me = h.me; held = h.held; kept = h.kept }) j.process refl j.cohort j.way refl

-- it makes no difference how many it began
pub joined_begun : (kind : Kind) (y : NodeState) (n : ℕ) (x : ProcessState) (asks : List (ℕ × ℕ)) (goes : Then) → IsProcessJoined kind y.processes 1 None (marks_in kind y) no_note (process_of y) x asks goes
    → IsProcessJoined kind y.processes 1 None (marks_in kind (record y { begun = n })) no_note (process_of (record y { begun = n })) x asks goes
joined_begun Checkpoint y n x asks goes j = j
joined_begun Rollback y n x asks goes j = j

-- a command that is refused
pub refuses : (k : InstName) (y : NodeState) (o : Option InstName) (kind : Kind) (able : Bool) (why : Cause) → begin_cause kind (able_in kind able) (process_of (record y { inst = o })) ≡ Some why
    → refusing (record y { inst = o }) (begin_verb kind) (named_cause o why) ≡ told_to_begin k o (record y { inst = o }) (is_rollback_kind (Some kind)) able
refuses k y None Checkpoint able why e = at_test (able && y.up) y.up e
  where
    at_test : (b u : Bool) → (if b then None else Some (unable_cause u)) ≡ Some why
        → refusing (record y { inst = None }) verb.Checkpoint (named_cause None why) ≡ (if b then starting k (record y { inst = None }) false else refusing (record y { inst = None }) verb.Checkpoint (unable u))
    at_test true u e = absurd (cc (e))
    at_test false true e = let i : cause.NoSave ≡ why = cc in ap (λ (c : Cause). refusing (record y { inst = None }) verb.Checkpoint (named_cause None c)) (sym i)
    at_test false false e = let i : cause.Down ≡ why = cc in ap (λ (c : Cause). refusing (record y { inst = None }) verb.Checkpoint (named_cause None c)) (sym i)
refuses k y None Rollback able why e = absurd (cc (e))
refuses k y (Some name) Checkpoint able why e = let i : cause.Busy 1 ≡ why = cc in ap (λ (c : Cause). refusing (record y { inst = Some name }) verb.Checkpoint (named_cause (Some name) c)) (sym i)
refuses k y (Some name) Rollback able why e = let i : cause.Busy 1 ≡ why = cc in ap (λ (c : Cause). refusing (record y { inst = Some name }) verb.Rollback (named_cause (Some name) c)) (sym i)

-- a command that is carried out
pub begins : (k : InstName) (y : NodeState) (o : Option InstName) (kind : Kind) (able : Bool) → begin_cause kind (able_in kind able) (process_of (record y { inst = o })) ≡ None
    → settling k (joined_in k kind (label_by kind y.calls) (Began k kind ∷ []) (joined_node kind k None no_note (record y { inst = o; begun = y.begun + 1 })))
    ≡ told_to_begin k o (record y { inst = o }) (is_rollback_kind (Some kind)) able
begins k y None Checkpoint able e = at_test (able && y.up) e
  where
    at_test : (b : Bool) → (if b then None else Some (unable_cause y.up)) ≡ None
        → starting k (record y { inst = None }) false ≡ (if b then starting k (record y { inst = None }) false else refusing (record y { inst = None }) verb.Checkpoint (unable y.up))
    at_test true e = refl
    at_test false e = absurd (cc (e))
begins k y None Rollback able e = refl
begins k y (Some name) Checkpoint able e = absurd (cc (e))
begins k y (Some name) Rollback able e = absurd (cc (e))

-- how many messages of each sender it keeps
pub kept_marks : (w : ManagerState) (y : NodeState) → HoldsFor w y → counts_of (kept_of w.inbox) ≡ (λ q. length (y.kept q))
kept_marks w y h = fun_ext (λ q. sym (length-map (kept_of w.inbox q) as_parcel) ∙ ap (λ (l : NodeLists). length (l q)) h.kept)

-- it makes no difference how many it began
pub holds_begun : (w : ManagerState) (y : NodeState) (n : ℕ) → HoldsFor w y → HoldsFor w (record y { begun = n })
holds_begun w y n h = record { processes = h.processes; me = h.me; held = h.held; kept = h.kept }

-- what its process answers is told of the node
pub tells_save : (w : ManagerState) (kind : Kind) (able : Bool) (inst : ℕ) (marks : ℕ → ℕ) (y : NodeState) (x : ProcessState) (action : Action) → kind ≡ Checkpoint → ShowsManager w y → inst ≡ 1 → marks ≡ counts_of (kept_of w.inbox)
    → ((z : SeenProcess) → IsSeenAs w.process z → BeginsAs Checkpoint able w.process.tables.processes inst marks z x action) → BeginsAs kind (able_in kind able) y.processes 1 (marks_in kind y) (process_of y) x action
tells_save w kind able inst marks y x action e h i m f =
    subst (λ (k : Kind). BeginsAs k (able_in k able) y.processes 1 (marks_in k y) (process_of y) x action) (sym e)
    (subst (λ (n : ℕ). BeginsAs Checkpoint able n 1 (λ q. length (y.kept q)) (process_of y) x action) h.holds.processes
    (subst (λ (n : ℕ). BeginsAs Checkpoint able w.process.tables.processes n (λ q. length (y.kept q)) (process_of y) x action) i
    (subst (λ (l : ℕ → ℕ). BeginsAs Checkpoint able w.process.tables.processes inst l (process_of y) x action) (m ∙ kept_marks w y h.holds) (f (process_of y) h.process))))

pub tells_roll : (w : ManagerState) (kind : Kind) (able : Bool) (inst : ℕ) (y : NodeState) (x : ProcessState) (action : Action) → kind ≡ Rollback → ShowsManager w y → inst ≡ 1
    → ((z : SeenProcess) → IsSeenAs w.process z → BeginsAs Rollback true w.process.tables.processes inst no_mark z x action) → BeginsAs kind (able_in kind able) y.processes 1 (marks_in kind y) (process_of y) x action
tells_roll w kind able inst y x action e h i f =
    subst (λ (k : Kind). BeginsAs k (able_in k able) y.processes 1 (marks_in k y) (process_of y) x action) (sym e)
    (subst (λ (n : ℕ). BeginsAs Rollback true n 1 no_mark (process_of y) x action) h.holds.processes
    (subst (λ (n : ℕ). BeginsAs Rollback true w.process.tables.processes n no_mark (process_of y) x action) i (f (process_of y) h.process)))

pub hears_save : (w : ManagerState) (able : Bool) (q inst label : ℕ) (k : InstName) (marks : ℕ → ℕ) (y : NodeState) (x : ProcessState) (action : Action) → ShowsManager w y → inst ≡ number_for w.inst k → marks ≡ (λ u. length (y.kept u))
    → HearsAs Checkpoint able w.process.tables.processes q inst label marks (process_of y) x action → HearsAs Checkpoint able y.processes q (number_for y.inst k) label (λ u. length (y.kept u)) (process_of y) x action
hears_save w able q inst label k marks y x action h i m s =
    subst (λ (n : ℕ). HearsAs Checkpoint able n q (number_for y.inst k) label (λ u. length (y.kept u)) (process_of y) x action) h.holds.processes
    (subst (λ (n : ℕ). HearsAs Checkpoint able w.process.tables.processes q n label (λ u. length (y.kept u)) (process_of y) x action) (i ∙ ap (λ (o : Option InstName). number_for o k) h.inst)
    (subst (λ (l : ℕ → ℕ). HearsAs Checkpoint able w.process.tables.processes q inst label l (process_of y) x action) m s))
