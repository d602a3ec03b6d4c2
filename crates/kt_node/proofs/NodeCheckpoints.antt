-- What a node's permanent checkpoint has stays there.
use Rattle.std.proofs.Common.{◌≡◌, ◌∙◌, ◌+◌, ℕ, ℤ, Bool, true, false, not, Option, Some, None, List, [], ◌∷◌, ◌++◌, refl, sym, ap, subst, append_assoc}
use Rattle.std.specs.Prelude.{◌==◌, ◌&&◌, if◌then◌else◌, is_some}
use Rattle.std.proofs.lemmas.Grind.{fold-append}
use Rattle.std.proofs.lemmas.List.{append-nil}
use Rattle.kt_base.specs.declared.words.Verb.TheVariants as verb
use Rattle.kt_meaning.specs.Past.{at_one, is_rollback_kind}
use Rattle.kt_tables.specs.Calls.{Call, sent, received, on_tentative, on_commit, on_abort, on_rollback}
use Rattle.kt_machine.specs.CallTests.{must_take, must_roll}
use Rattle.kt_machine.specs.SeenJoining.{no_note}
use Rattle.kt_spacetime.specs.declared.names.InstName.{InstName}
use Rattle.kt_spacetime.specs.declared.named_rows.NamedCause.TheVariants.{Down, Busy}
use Rattle.kt_spacetime.specs.declared.named_rows.NamedEvent.TheVariants.{Dropped}
use Rattle.kt_manager.specs.declared.parcels.NodeParcel.{NodeParcel}
use Rattle.kt_manager.specs.declared.parcels.NodeParcel.TheVariants.{App, Ask, Reply, Decide}
use Rattle.kt_manager.specs.Nodes.{NodeState, Doing, nothing, is_in_rollback}
use Rattle.kt_node.specs.Inputs.{Input, Send, Begin, Fail, Held, Comes}
use Rattle.kt_manager.specs.NodeMessages.{sending, receiving, arriving, holding, taking_held, failing, refusing, unable}
use Rattle.kt_manager.specs.NodeJoining.{beginning, joining_checkpoint, joining_rollback, replying, unwilling, noting}
use Rattle.kt_node.specs.NodeSteps.{next_name, asking, awaits, heeds, taking, is_step, node_after}
use Rattle.kt_manager.specs.NodeClosing.{after_checkpoint, after_rollback, closing, ending, settling}
use Rattle.kt_manager.specs.NodeSteps.{is_one, is_in, starting, told_to_begin, asked, counting}
use Rattle.kt_node.specs.Nets.{opening_net}
use Rattle.kt_node.specs.NodeHistories.{Histories, no_history, histories_after, histories, GoesOn, is_in_checkpoint, HasCheckpoints}

more : (calls : List Call) (c : Call) → histories_after (histories calls) c ≡ histories (calls ++ c ∷ [])
more calls c = sym (fold-append histories_after no_history calls (c ∷ []))

itself : (l : List Call) → GoesOn l l
itself l = ([], sym (append-nil l))

one_more : (front whole : List Call) (c : Call) → GoesOn front whole → GoesOn front (whole ++ c ∷ [])
one_more front whole c h = (h.0 ++ c ∷ [], ap (λ (l : List Call). l ++ c ∷ []) h.1 ∙ append_assoc front h.0 (c ∷ []))

-- of histories, in a checkpoint or not
pub record Has (b : Bool) (h : Histories) : Type 0 where
  pub permanent : GoesOn h.permanent h.live
  pub tentative : b ≡ true → GoesOn h.tentative h.live
  pub between : b ≡ true → GoesOn h.permanent h.tentative

-- and what was permanent still is
pub record Keeps (before : List Call) (b : Bool) (h : Histories) : Type 0 where
  pub has : Has b h
  pub stays : GoesOn before h.permanent

-- so it is of a node by now
abbrev pub Stays : List Call → NodeState → Type 0
Stays before y = Keeps before (is_in_checkpoint y) (histories y.calls)

with_message : (before calls : List Call) (b : Bool) (c : Call) → histories_after (histories calls) c ≡ record (histories calls) { live = (histories calls).live ++ c ∷ [] } → Keeps before b (histories calls) → Keeps before b (histories (calls ++ c ∷ []))
with_message before calls b c e k = subst (λ (h : Histories). Keeps before b h) (sym e ∙ more calls c) (record {
  has = record {
    permanent = one_more _ _ c k.has.permanent;
    tentative = λ t. one_more _ _ c (k.has.tentative t);
    between = k.has.between;
  };
  stays = k.stays;
})

module _ (before : List Call) where
  -- outside a checkpoint less is asked
  outside : (b : Bool) (h : Histories) → Keeps before b h → Keeps before false h
  outside b h k = record { has = record { permanent = k.has.permanent; tentative = λ t. absurd (cc (t)); between = λ t. absurd (cc (t)) }; stays = k.stays }

  either : (b : Bool) (d e : Doing) → Stays before d.state → Stays before e.state → Stays before (if b then d else e).state
  either true d e f g = f
  either false d e f g = g

  -- who joins a checkpoint takes a tentative one
  takes : (calls : List Call) (b : Bool) → Keeps before b (histories calls) → Keeps before true (histories (calls ++ on_tentative ∷ []))
  takes calls b k = subst (λ (h : Histories). Keeps before true h) (more calls on_tentative) (record {
    has = record { permanent = k.has.permanent; tentative = λ t. itself (histories calls).live; between = λ t. k.has.permanent };
    stays = k.stays;
  })

  commits : (calls : List Call) → Keeps before true (histories calls) → Keeps before false (histories (calls ++ on_commit ∷ []))
  commits calls k = subst (λ (h : Histories). Keeps before false h) (more calls on_commit) (record {
    has = record { permanent = k.has.tentative refl; tentative = λ t. absurd (cc (t)); between = λ t. absurd (cc (t)) };
    stays = onward before _ _ k.stays (k.has.between refl);
  })
    where
      onward : (a b c : List Call) → GoesOn a b → GoesOn b c → GoesOn a c
      onward a b c f g = (f.0 ++ g.0, g.1 ∙ (ap (λ (l : List Call). l ++ g.0) f.1 ∙ append_assoc a f.0 g.0))

  aborts : (calls : List Call) (b : Bool) → Keeps before b (histories calls) → Keeps before false (histories (calls ++ on_abort ∷ []))
  aborts calls b k = subst (λ (h : Histories). Keeps before false h) (more calls on_abort) (outside b (histories calls) k)

  rolls : (calls : List Call) (b : Bool) → Keeps before b (histories calls) → Keeps before false (histories (calls ++ on_rollback ∷ []))
  rolls calls b k = subst (λ (h : Histories). Keeps before false h) (more calls on_rollback) (record {
    has = record { permanent = itself (histories calls).permanent; tentative = λ t. absurd (cc (t)); between = λ t. absurd (cc (t)) };
    stays = k.stays;
  })

  -- who is in an instance closes it
  closes : (y : NodeState) (c : Bool) → is_some y.inst ≡ true → Stays before y → Stays before (if y.part.is_rollback then after_rollback c y else after_checkpoint c y)
  closes y c i k = at_tests y.part.is_rollback c refl
    where
      inside : (a b : Bool) → a ≡ true → b ≡ false → (a && not b) ≡ true
      inside true false e f = refl
      inside true true e f = absurd (cc (f))
      inside false b e f = absurd (cc (e))

      at_tests : (roll c : Bool) → y.part.is_rollback ≡ roll → Stays before (if roll then after_rollback c y else after_checkpoint c y)
      at_tests true true e = rolls y.calls (is_in_checkpoint y) k
      at_tests true false e = outside (is_in_checkpoint y) (histories y.calls) k
      at_tests false true e = commits y.calls (subst (λ (b : Bool). Keeps before b (histories y.calls)) (inside (is_some y.inst) y.part.is_rollback i e) k)
      at_tests false false e = aborts y.calls (is_in_checkpoint y) k

  ends : (k : InstName) (o : Option ℕ) (d : Doing) → is_some d.state.inst ≡ true → Stays before d.state → Stays before (ending k o d).state
  ends k (Some to) d i h = h
  ends k None d i h = closes d.state d.state.part.willing i h

  settles : (k : InstName) (d : Doing) → is_some d.state.inst ≡ true → Stays before d.state → Stays before (settling k d).state
  settles k d i h = at_zero (d.state.part.awaited == 0)
    where
      at_zero : (b : Bool) → Stays before (if b then ending k d.state.part.parent d else d).state
      at_zero true = ends k d.state.part.parent d i h
      at_zero false = h

  where_so : (b : Bool) (d e : Doing) → (b ≡ true → Stays before d.state) → Stays before e.state → Stays before (if b then d else e).state
  where_so true d e f g = f refl
  where_so false d e f g = g

  inside_of : (o : Option InstName) (k : InstName) → is_in o k ≡ true → is_some o ≡ true
  inside_of None k e = absurd (cc (e))
  inside_of (Some name) k e = refl

  first_one : (a b : Bool) → (a && b) ≡ true → a ≡ true
  first_one true b e = refl
  first_one false b e = absurd (cc (e))

  arrives : (z : NodeState) (q label : ℕ) (body : ℤ) → Stays before z → Stays before (arriving z q label body).state
  arrives z q label body k = either z.up (receiving z q label body) (record (nothing z) { rows = Dropped q label ∷ [] }) (with_message before z.calls (is_in_checkpoint z) (received q label) refl k) k

  module _ (y : NodeState) (h : Stays before y) where
    begins : (o : Option InstName) (roll able : Bool) → Stays before (told_to_begin (next_name y) o y roll able).state
    begins (Some name) roll able = h
    begins None true able = settles (next_name y) (joining_rollback (next_name y) None no_note (beginning (next_name y) y true)) refl (outside (is_in_checkpoint y) (histories y.calls) h)
    begins None false able = either (able && y.up) (starting (next_name y) y false) (refusing y verb.Checkpoint (unable y.up))
        (settles (next_name y) (joining_checkpoint (next_name y) None (beginning (next_name y) y false)) refl (takes y.calls (is_in_checkpoint y) h)) h

    asks : (o : Option InstName) (q : ℕ) (able : Bool) (k : InstName) (roll : Bool) (label : ℕ) → Stays before (asked o y q able k roll label).state
    asks (Some name) q able k true label = either (is_one name k) (replying (noting y true q label) q k true) (unwilling y q k (Busy name)) h h
    asks (Some name) q able k false label = either (is_one name k) (replying (noting y false q label) q k true) (unwilling y q k (Busy name)) h h
    asks None q able k true label = either (must_roll y.calls q label) (settling k (joining_rollback k (Some q) (at_one q (Some label) no_note) (nothing y))) (replying y q k true)
        (settles k (joining_rollback k (Some q) (at_one q (Some label) no_note) (nothing y)) refl (outside (is_in_checkpoint y) (histories y.calls) h)) h
    asks None q able k false label = either (not (must_take y.calls q label)) (replying y q k true) (if not (able && y.up) then unwilling y q k (unable y.up) else settling k (joining_checkpoint k (Some q) (nothing y))) h
        (either (not (able && y.up)) (unwilling y q k (unable y.up)) (settling k (joining_checkpoint k (Some q) (nothing y))) h
        (settles k (joining_checkpoint k (Some q) (nothing y)) refl (takes y.calls (is_in_checkpoint y) h)))

  module _ (y : NodeState) (h : Stays before y) where
    parcels : (q : ℕ) (able : Bool) (x : NodeParcel) → Stays before (taking y q able x).state
    parcels q able (App label body) = either (is_in_rollback y) (holding y q (App label body)) (arriving y q label body) h (arrives y q label body h)
    parcels q able (Ask k kind label) = asks (asking y q k) h y.inst q able k (is_rollback_kind (Some kind)) label
    parcels q able (Reply k w) = where_so (awaits y q k) (settling k (nothing (counting y q w))) (nothing y)
        (λ e. settles k (nothing (counting y q w)) (inside_of y.inst k (first_one (is_in y.inst k) _ (first_one _ _ e))) h) h
    parcels q able (Decide k c) = where_so (heeds y q k) (closing k c (nothing y)) (nothing y) (λ e. closes y c (inside_of y.inst k (first_one (is_in y.inst k) _ (first_one _ _ e))) h) h

    held : (q : ℕ) (l : List NodeParcel) → Stays before (taking_held y q l).state
    held q [] = h
    held q (App label body ∷ rest) = arrives (record y { held = at_one q rest y.held }) q label body h
    held q (Ask k kind label ∷ rest) = h
    held q (Reply k w ∷ rest) = h
    held q (Decide k c ∷ rest) = h

    goes_on : (x : Input) → Stays before (node_after y x).state
    goes_on (Send q body) = either (is_step y (Send q body)) (if y.up then sending y q body else refusing y verb.Send Down) (nothing y)
        (either y.up (sending y q body) (refusing y verb.Send Down) (with_message before y.calls (is_in_checkpoint y) (sent q (y.used + 1)) refl h) h) h
    goes_on (Begin roll able) = begins y h y.inst roll able
    goes_on Fail = either y.up (failing y) (refusing y verb.Fail Down) h h
    goes_on (Held q) = either (is_in_rollback y) (nothing y) (taking_held y q (y.held q)) h (held q (y.held q))
    goes_on (Comes q able x) = parcels q able x

begun : (y : NodeState) → HasCheckpoints y → Stays (histories y.calls).permanent y
begun y h = record { has = record { permanent = h.permanent; tentative = h.tentative; between = h.between }; stays = itself (histories y.calls).permanent }

pub checkpoints_after : (y : NodeState) (x : Input) → HasCheckpoints y → HasCheckpoints (node_after y x).state
checkpoints_after y x h = let k = (goes_on (histories y.calls).permanent y (begun y h) x).has in record { permanent = k.permanent; tentative = k.tentative; between = k.between }

pub permanent_after : (y : NodeState) (x : Input) → HasCheckpoints y → GoesOn (histories y.calls).permanent (histories (node_after y x).state.calls).permanent
permanent_after y x h = (goes_on (histories y.calls).permanent y (begun y h) x).stays

pub checkpoints_opening : (n first p : ℕ) → HasCheckpoints ((opening_net n first).nodes p)
checkpoints_opening n first p = record { permanent = ([], refl); tentative = λ t. absurd (cc (t)); between = λ t. absurd (cc (t)) }
