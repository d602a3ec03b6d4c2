-- An ask to take part in an instance, as the node's rules have it.
use Rattle.std.specs.Prelude.{◌==◌, ◌&&◌, not, if◌then◌else◌, Option, Some, None}
use Rattle.std.proofs.Common.{◌≡◌, ◌∙◌, ℕ, Bool, true, false, [], refl, sym, ap, subst}
use Rattle.kt_base.specs.declared.words.Cause.{Cause}
use Rattle.kt_base.specs.declared.words.Cause.TheVariants as cause
use Rattle.kt_base.specs.declared.words.Kind.{Kind}
use Rattle.kt_base.specs.declared.words.Kind.TheVariants.{Checkpoint, Rollback}
use Rattle.kt_meaning.specs.Past.{at_one, is_rollback_kind}
use Rattle.kt_protocol.specs.Replies.{unable_cause}
use Rattle.kt_process.specs.Answers.{replies, joins}
use Rattle.kt_machine.specs.CallTests.{must_take, must_roll}
use Rattle.kt_machine.specs.Seen.{SeenProcess}
use Rattle.kt_machine.specs.SeenJoining.{no_note, part_after_ask}
use Rattle.kt_process.specs.Shown.{IsSeenAs, answer_as, noted_as, label_by}
use Rattle.kt_spacetime.specs.declared.names.InstName.{InstName}
use Rattle.kt_spacetime.specs.declared.named_rows.NamedCause.TheVariants.{Busy}
use Rattle.kt_manager.specs.declared.parcels.NodeParcel.TheVariants as put
use Rattle.kt_manager.specs.Nodes.{NodeState, Doing, nothing}
use Rattle.kt_manager.specs.NodeClosing.{settling}
use Rattle.kt_manager.specs.NodeMessages.{unable}
use Rattle.kt_manager.specs.NodeJoining.{joining_checkpoint, joining_rollback, replying, unwilling, noting}
use Rattle.kt_manager.specs.NodeSteps.{is_one, asked}
use Rattle.kt_manager.specs.Managers.{ManagerState, HoldsFor, ShowsManager, number_for, process_of}
use Rattle.kt_manager.specs.Told.{Told}
use Rattle.kt_manager.specs.ShownActs.{acts_shown}
use Rattle.kt_manager.specs.declared.effects.Parcels.{Parcels}
use Rattle.kt_manager.specs.declared.effects.Parcels.TheVariants as puts
use Rattle.kt_manager.specs.Effects.{put_to, IsDone}
use Rattle.kt_manager.specs.Turns.{able_in, unwilling_rows, joined_in, heard_in}
use Rattle.kt_manager.proofs.Beginning.{joined_node}

-- it replies, with this cause if it is unwilling, and is this node then
abbrev pub replied : ℕ → InstName → Bool → Option InstName → Option Cause → NodeState → Doing
replied q k willing o why z = record (replying z q k willing) { rows = unwilling_rows k o why }

same_reply : (q : ℕ) (k : InstName) (o : Option InstName) (z : NodeState) (b willing : Bool) (c why : Option Cause) → replies b c ≡ replies willing why → replied q k willing o why z ≡ replied q k b o c z
same_reply q k o z b willing c why e =
    let i : b ≡ willing = cc in
    let j : c ≡ why = cc in
    ap (λ (v : Bool). replied q k v o why z) (sym i) ∙ ap (λ (v : Option Cause). replied q k b o v z) (sym j)

pub hears_reply : (y : NodeState) (o : Option InstName) (kind : Kind) (q : ℕ) (k : InstName) (label : ℕ) (able willing : Bool) (why : Option Cause)
    → answer_as kind (able_in kind able) q (number_for o k) label (process_of (record y { inst = o })) ≡ replies willing why
    → replied q k willing o why (heard_in kind q k label (record y { inst = o })) ≡ asked o (record y { inst = o }) q able k (is_rollback_kind (Some kind)) label
hears_reply y None Checkpoint q k label able willing why e = at_tests (must_take y.calls q label) (able && y.up) y.up e
  where
    at_tests : (m u p : Bool) → (if not m then replies true None else if not u then replies false (Some (unable_cause p)) else joins) ≡ replies willing why
        → replied q k willing None why (record y { inst = None })
        ≡ (if not m then replying (record y { inst = None }) q k true else if not u then unwilling (record y { inst = None }) q k (unable p) else settling k (joining_checkpoint k (Some q) (nothing (record y { inst = None }))))
    at_tests false u p e = same_reply q k None (record y { inst = None }) true willing None why e
    at_tests true false true e = same_reply q k None (record y { inst = None }) false willing (Some cause.NoSave) why e
    at_tests true false false e = same_reply q k None (record y { inst = None }) false willing (Some cause.Down) why e
    at_tests true true p e = absurd (cc (e))
hears_reply y None Rollback q k label able willing why e = at_test (must_roll y.calls q label) e
  where
    at_test : (m : Bool) → (if m then joins else replies true None) ≡ replies willing why
        → replied q k willing None why (record y { inst = None })
        ≡ (if m then settling k (joining_rollback k (Some q) (at_one q (Some label) no_note) (nothing (record y { inst = None }))) else replying (record y { inst = None }) q k true)
    at_test true e = absurd (cc (e))
    at_test false e = same_reply q k None (record y { inst = None }) true willing None why e
hears_reply y (Some name) Checkpoint q k label able willing why e = at_test (is_one name k) e
  where
    at_test : (b : Bool) → (if 1 == (if b then 1 else 2) then replies true None else replies false (Some (cause.Busy 1))) ≡ replies willing why
        → replied q k willing (Some name) why (record y { inst = Some name })
        ≡ (if b then replying (noting (record y { inst = Some name }) false q label) q k true else unwilling (record y { inst = Some name }) q k (Busy name))
    at_test true e = same_reply q k (Some name) (record y { inst = Some name }) true willing None why e
    at_test false e = same_reply q k (Some name) (record y { inst = Some name }) false willing (Some (cause.Busy 1)) why e
hears_reply y (Some name) Rollback q k label able willing why e = at_test (is_one name k) e
  where
    at_test : (b : Bool) → (if 1 == (if b then 1 else 2) then replies true None else replies false (Some (cause.Busy 1))) ≡ replies willing why
        → replied q k willing (Some name) why (if b then record y { inst = Some name; part = part_after_ask y.part q label } else record y { inst = Some name })
        ≡ (if b then replying (noting (record y { inst = Some name }) true q label) q k true else unwilling (record y { inst = Some name }) q k (Busy name))
    at_test true e = same_reply q k (Some name) (record y { inst = Some name; part = part_after_ask y.part q label }) true willing None why e
    at_test false e = same_reply q k (Some name) (record y { inst = Some name }) false willing (Some (cause.Busy 1)) why e

-- it joins: it was in none
pub hears_join : (y : NodeState) (o : Option InstName) (kind : Kind) (q : ℕ) (k : InstName) (label : ℕ) (able : Bool)
    → answer_as kind (able_in kind able) q (number_for o k) label (process_of (record y { inst = o })) ≡ joins
    → (o ≡ None) × (settling k (joined_in k kind (label_by kind y.calls) [] (joined_node kind k (Some q) (at_one q (Some label) no_note) (record y { inst = o }))) ≡ asked o (record y { inst = o }) q able k (is_rollback_kind (Some kind)) label)
hears_join y None Checkpoint q k label able e = (refl, at_tests (must_take y.calls q label) (able && y.up) e)
  where
    at_tests : (m u : Bool) → (if not m then replies true None else if not u then replies false (Some (unable_cause y.up)) else joins) ≡ joins
        → settling k (joining_checkpoint k (Some q) (nothing (record y { inst = None })))
        ≡ (if not m then replying (record y { inst = None }) q k true else if not u then unwilling (record y { inst = None }) q k (unable y.up) else settling k (joining_checkpoint k (Some q) (nothing (record y { inst = None }))))
    at_tests false u e = absurd (cc (e))
    at_tests true false e = absurd (cc (e))
    at_tests true true e = refl
hears_join y None Rollback q k label able e = (refl, at_test (must_roll y.calls q label) e)
  where
    at_test : (m : Bool) → (if m then joins else replies true None) ≡ joins
        → settling k (joining_rollback k (Some q) (at_one q (Some label) no_note) (nothing (record y { inst = None })))
        ≡ (if m then settling k (joining_rollback k (Some q) (at_one q (Some label) no_note) (nothing (record y { inst = None }))) else replying (record y { inst = None }) q k true)
    at_test true e = refl
    at_test false e = absurd (cc (e))
hears_join y (Some name) kind q k label able e = absurd (at_kind kind e)
  where
    no_join : (b : Bool) → (if 1 == (if b then 1 else 2) then replies true None else replies false (Some (cause.Busy 1))) ≡ joins → ⊥
    no_join true e = cc (e)
    no_join false e = cc (e)

    at_kind : (kind : Kind) → answer_as kind (able_in kind able) q (number_for (Some name) k) label (process_of (record y { inst = Some name })) ≡ joins → ⊥
    at_kind Checkpoint e = no_join (is_one name k) e
    at_kind Rollback e = no_join (is_one name k) e

-- what its process notes
pub noted_is : (y : NodeState) (o : Option InstName) (kind : Kind) (q : ℕ) (k : InstName) (label : ℕ) → noted_as kind q (number_for o k) label (process_of (record y { inst = o })) ≡ process_of (heard_in kind q k label (record y { inst = o }))
noted_is y o Checkpoint q k label = refl
noted_is y None Rollback q k label = refl
noted_is y (Some name) Rollback q k label = at_test (is_one name k)
  where
    at_test : (b : Bool) → (if 1 == (if b then 1 else 2) then record (process_of (record y { inst = Some name })) { part = part_after_ask y.part q label } else process_of (record y { inst = Some name }))
        ≡ process_of (if b then record y { inst = Some name; part = part_after_ask y.part q label } else record y { inst = Some name })
    at_test true = refl
    at_test false = refl

pub shows_heard : (w : ManagerState) (y : NodeState) (o : Option InstName) (kind : Kind) (q : ℕ) (k : InstName) (label : ℕ) → HoldsFor w y → w.inst ≡ o → IsSeenAs w.process (process_of (heard_in kind q k label (record y { inst = o })))
    → ShowsManager w (heard_in kind q k label (record y { inst = o }))
shows_heard w y o Checkpoint q k label h i s = record { holds = record { processes = h.processes; me = h.me; held = h.held; kept = h.kept }; process = s; inst = i }
shows_heard w y None Rollback q k label h i s = record { holds = record { processes = h.processes; me = h.me; held = h.held; kept = h.kept }; process = s; inst = i }
shows_heard w y (Some name) Rollback q k label h i s = at_test (is_one name k) s
  where
    at_test : (b : Bool) → IsSeenAs w.process (process_of (if b then record y { inst = Some name; part = part_after_ask y.part q label } else record y { inst = Some name }))
        → ShowsManager w (if b then record y { inst = Some name; part = part_after_ask y.part q label } else record y { inst = Some name })
    at_test true s = record { holds = record { processes = h.processes; me = h.me; held = h.held; kept = h.kept }; process = s; inst = i }
    at_test false s = record { holds = record { processes = h.processes; me = h.me; held = h.held; kept = h.kept }; process = s; inst = i }

-- it replies
pub done_reply : (w : ManagerState) (e : Told) (y : NodeState) (kind : Kind) (q : ℕ) (k : InstName) (label : ℕ) (able willing : Bool) (why : Option Cause) → HoldsFor w y → w.inst ≡ y.inst
    → e.rows ≡ unwilling_rows k w.inst why → e.acts ≡ [] → e.parcels ≡ puts.One q (put.Reply k willing)
    → answer_as kind (able_in kind able) q (number_for y.inst k) label (process_of y) ≡ replies willing why → IsSeenAs w.process (noted_as kind q (number_for y.inst k) label (process_of y))
    → IsDone w e (asked y.inst y q able k (is_rollback_kind (Some kind)) label)
done_reply w e y kind q k label able willing why h i rows acts parcels a s =
    subst (λ (d : Doing). IsDone w e d) (hears_reply y y.inst kind q k label able willing why a)
    (record {
      state = shows_heard w y y.inst kind q k label h i (subst (λ (z : SeenProcess). IsSeenAs w.process z) (noted_is y y.inst kind q k label) s);
      puts = λ u. ap (λ (p : Parcels). put_to p u) parcels;
      rows = rows ∙ ap (λ (o : Option InstName). unwilling_rows k o why) i;
      acts = ap acts_shown acts;
    })
