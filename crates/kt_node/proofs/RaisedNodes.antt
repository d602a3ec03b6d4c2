-- A node does the same where each process's labels count on from one of its own.
use Rattle.std.proofs.Common.{◌≡◌, ◌∙◌, ◌+◌, ℕ, ℤ, Bool, true, false, not, Option, Some, None, List, [], ◌∷◌, ◌++◌, map, refl, sym, ap, ap₂, arith}
use Rattle.std.specs.Prelude.{◌==◌, ◌&&◌, if◌then◌else◌, option_map}
use Rattle.std.proofs.Math.Path.{fun_ext}
use Rattle.std.proofs.lemmas.Bool.Decides.{nat_tests}
use Rattle.std.proofs.lemmas.List.{map-append, drop-map, length-map}
use Rattle.kt_base.specs.declared.words.Kind.TheVariants.{Checkpoint, Rollback}
use Rattle.kt_base.specs.declared.words.Verb.TheVariants as verb
use Rattle.kt_meaning.specs.Past.{at_one}
use Rattle.kt_tables.specs.Calls.{Call, sent, received, on_tentative, on_commit, on_abort, on_rollback}
use Rattle.kt_machine.specs.CallTests.{must_take, must_roll, is_asked_in_checkpoint, checkpoint_label, is_asked_in_rollback, rollback_label}
use Rattle.kt_machine.specs.Seen.{no_part}
use Rattle.kt_machine.specs.SeenJoining.{new_part, no_note}
use Rattle.kt_machine.specs.Values.{Apply, Keep, closing as acts_of_closing}
use Rattle.kt_spacetime.specs.declared.names.InstName.{InstName}
use Rattle.kt_spacetime.specs.declared.named_rows.NamedCause.{NamedCause}
use Rattle.kt_spacetime.specs.declared.named_rows.NamedCause.TheVariants.{Busy, Down}
use Rattle.kt_spacetime.specs.declared.named_rows.NamedEvent.TheVariants.{Sent, Received, Took, Ready, Unwilling, Decided, Closed}
use Rattle.kt_manager.specs.declared.parcels.NodeParcel.{NodeParcel}
use Rattle.kt_manager.specs.declared.parcels.NodeParcel.TheVariants.{App, Ask, Reply, Decide}
use Rattle.kt_manager.specs.Nodes.{NodeLists, NodeState, Doing, nothing, putting, with_one, is_in_rollback}
use Rattle.kt_node.specs.Inputs.{Input, Send, Begin, Fail, Held, Comes}
use Rattle.kt_manager.specs.NodeMessages.{sending, receiving, arriving, holding, taking_held, failing, refusing, unable}
use Rattle.kt_manager.specs.NodeJoining.{beginning, joining_checkpoint, joining_rollback, replying, unwilling, noting}
use Rattle.kt_node.specs.NodeSteps.{next_name, asking, awaits, heeds, taking, is_step, node_after}
use Rattle.kt_manager.specs.NodeClosing.{is_within, within, after_checkpoint, after_rollback, closing, ending, settling}
use Rattle.kt_manager.specs.NodeSteps.{is_one, starting, told_to_begin, asked, counting}
use Rattle.kt_node.specs.Erasing.{relabelled}
use Rattle.kt_node.specs.FirstLabels.{raised, raised_call, raised_parcel, raised_part, raised_node}
use Rattle.kt_node.proofs.RaisedCalls.{raised_some, le_raised, takes_raised, rolls_raised, asked_in_checkpoint_raised, checkpoint_label_raised, asked_in_rollback_raised, rollback_label_raised}

equal : (a b : ℕ) → (a == b) ≡ true → a ≡ b
equal a b e = grind (arith, nat_tests)

second : (a b : Bool) → (a && b) ≡ true → b ≡ true
second true b e = e
second false b e = absurd (cc (e))

-- lists and functions of processes, each entry by its process
pub putting_raised : (h : ℕ → NodeParcel → NodeParcel) (test : ℕ → Bool) (x z : ℕ → NodeParcel) (lists : NodeLists) → ((u : ℕ) → test u ≡ true → z u ≡ h u (x u))
    → putting test z (λ u. map (h u) (lists u)) ≡ (λ u. map (h u) (putting test x lists u))
putting_raised h test x z lists e = fun_ext (λ u. at_test u (test u) (e u))
  where
    at_test : (u : ℕ) (b : Bool) → (b ≡ true → z u ≡ h u (x u)) → (if b then map (h u) (lists u) ++ z u ∷ [] else map (h u) (lists u)) ≡ map (h u) (if b then lists u ++ x u ∷ [] else lists u)
    at_test u true e = ap (λ (y : NodeParcel). map (h u) (lists u) ++ y ∷ []) (e refl) ∙ sym (map-append (h u) (lists u) (x u ∷ []))
    at_test u false e = refl

pub at_one_raised : {X Y : Type 0} (h : ℕ → X → Y) (q : ℕ) (x : X) (f : ℕ → X) → at_one q (h q x) (λ u. h u (f u)) ≡ (λ u. h u (at_one q x f u))
at_one_raised {X} {Y} h q x f = fun_ext (λ u. at_test u (u == q) refl)
  where
    at_test : (u : ℕ) (b : Bool) → (u == q) ≡ b → (if b then h q x else h u (f u)) ≡ h u (if b then x else f u)
    at_test u true e = ap (λ (n : ℕ). h n x) (sym (equal u q e))
    at_test u false e = refl

module _ (first : ℕ → ℕ) (p : ℕ) where
  abbrev node : NodeState → NodeState
  node y = raised_node first p y

  abbrev pub raised_doing : Doing → Doing
  raised_doing d = record {
    state = raised_node first p d.state;
    puts = λ q. map (raised_parcel first p q) (d.puts q);
    rows = map (relabelled (λ q label. raised (first q) label) p) d.rows;
    acts = d.acts;
  }

  branch : (b : Bool) (d e f g : Doing) → d ≡ raised_doing f → e ≡ raised_doing g → (if b then d else e) ≡ raised_doing (if b then f else g)
  branch true d e f g h k = h
  branch false d e f g h k = k

  -- messages
  next_label : (used : ℕ) → used + first p + 1 ≡ raised (first p) (used + 1)
  next_label used = let e : used + first p + 1 ≡ used + 1 + first p = omega arith in e ∙ sym (raised_some (first p) (used + 1) (omega arith))

  next_used : (used : ℕ) → used + first p + 1 ≡ used + 1 + first p
  next_used used = omega arith

  one_call : (calls : List Call) (c : Call) → map (raised_call first p) calls ++ raised_call first p c ∷ [] ≡ map (raised_call first p) (calls ++ c ∷ [])
  one_call calls c = sym (map-append (raised_call first p) calls (c ∷ []))

  sends : (y : NodeState) (q : ℕ) (body : ℤ) → sending (node y) q body ≡ raised_doing (sending y q body)
  sends y q body = λ i. record {
    state = record (node y) { calls = (ap (λ (l : ℕ). map (raised_call first p) y.calls ++ sent q l ∷ []) (next_label y.used) ∙ one_call y.calls (sent q (y.used + 1))) i; used = next_used y.used i };
    puts = putting_raised (raised_parcel first p) (λ u. u == q) (λ u. App (y.used + 1) body) (λ u. App (y.used + first p + 1) body) (λ u. []) (λ u e. ap (λ (l : ℕ). App l body) (next_label y.used)) i;
    rows = Sent q body (next_label y.used i) ∷ [];
    acts = [];
  }

  one_of : (q : ℕ) (x : NodeParcel) (lists : NodeLists) → with_one q (raised_parcel first q p x) (λ u. map (raised_parcel first u p) (lists u)) ≡ (λ u. map (raised_parcel first u p) (with_one q x lists u))
  one_of q x lists = putting_raised (λ u. raised_parcel first u p) (λ u. u == q) (λ u. x) (λ u. raised_parcel first q p x) lists (λ u e. ap (λ (n : ℕ). raised_parcel first n p x) (sym (equal u q e)))

  receives : (y : NodeState) (q label : ℕ) (body : ℤ) → receiving (node y) q (raised (first q) label) body ≡ raised_doing (receiving y q label body)
  receives y q label body = λ i. record {
    state = record (node y) { calls = one_call y.calls (received q label) i; kept = one_of q (App label body) y.kept i };
    puts = λ u. [];
    rows = Received q (raised (first q) label) ∷ [];
    acts = Apply q body ∷ [];
  }

  arrives : (y : NodeState) (q label : ℕ) (body : ℤ) → arriving (node y) q (raised (first q) label) body ≡ raised_doing (arriving y q label body)
  arrives y q label body = branch y.up _ _ _ _ (receives y q label body) refl

  holds : (y : NodeState) (q : ℕ) (x : NodeParcel) → holding (node y) q (raised_parcel first q p x) ≡ raised_doing (holding y q x)
  holds y q x = λ i. nothing (record (node y) { held = one_of q x y.held i })

  takes_held : (y : NodeState) (q : ℕ) (l : List NodeParcel) → taking_held (node y) q (map (raised_parcel first q p) l) ≡ raised_doing (taking_held y q l)
  takes_held y q [] = refl
  takes_held y q (App label body ∷ rest) =
      ap (λ (lists : NodeLists). arriving (record (node y) { held = lists }) q (raised (first q) label) body) (at_one_raised (λ u. map (raised_parcel first u p)) q rest y.held)
      ∙ arrives (record y { held = at_one q rest y.held }) q label body
  takes_held y q (Ask k kind label ∷ rest) = refl
  takes_held y q (Reply k w ∷ rest) = refl
  takes_held y q (Decide k c ∷ rest) = refl

  -- answering, deciding and closing
  is_within_raised : (q most : ℕ) (x : NodeParcel) → is_within (raised (first q) most) (raised_parcel first q p x) ≡ is_within most x
  is_within_raised q most (App label body) = le_raised (first q) label most
  is_within_raised q most (Ask k kind label) = refl
  is_within_raised q most (Reply k w) = refl
  is_within_raised q most (Decide k c) = refl

  within_raised : (q : ℕ) (o : Option ℕ) (l : List NodeParcel) → within (option_map (raised (first q)) o) (map (raised_parcel first q p) l) ≡ map (raised_parcel first q p) (within o l)
  within_raised q None l = refl
  within_raised q (Some most) [] = refl
  within_raised q (Some most) (x ∷ l) =
      ap (λ (b : Bool). if b then raised_parcel first q p x ∷ within (Some (raised (first q) most)) (map (raised_parcel first q p) l) else within (Some (raised (first q) most)) (map (raised_parcel first q p) l)) (is_within_raised q most x)
      ∙ at_test (is_within most x) (within_raised q (Some most) l)
    where
      at_test : (b : Bool) → within (Some (raised (first q) most)) (map (raised_parcel first q p) l) ≡ map (raised_parcel first q p) (within (Some most) l)
          → (if b then raised_parcel first q p x ∷ within (Some (raised (first q) most)) (map (raised_parcel first q p) l) else within (Some (raised (first q) most)) (map (raised_parcel first q p) l))
          ≡ map (raised_parcel first q p) (if b then x ∷ within (Some most) l else within (Some most) l)
      at_test true h = ap (λ (r : List NodeParcel). raised_parcel first q p x ∷ r) h
      at_test false h = h

  after_raised : (c : Bool) (y : NodeState) (b : Bool) → (if b then after_rollback c (node y) else after_checkpoint c (node y)) ≡ node (if b then after_rollback c y else after_checkpoint c y)
  after_raised true y true = λ i. record (node y) {
    calls = one_call y.calls on_rollback i;
    inst = None;
    part = no_part;
    up = true;
    held = fun_ext (λ q. ap₂ (λ (a b : List NodeParcel). a ++ b) (within_raised q (y.part.noted q) (y.kept q)) (within_raised q (y.part.noted q) (y.held q))
        ∙ sym (map-append (raised_parcel first q p) (within (y.part.noted q) (y.kept q)) (within (y.part.noted q) (y.held q)))) i;
    kept = λ q. [];
  }
  after_raised false y true = refl
  after_raised true y false = λ i. record (node y) {
    calls = one_call y.calls on_commit i;
    inst = None;
    part = no_part;
    kept = fun_ext (λ q. drop-map (raised_parcel first q p) (y.part.marks q) (y.kept q)) i;
  }
  after_raised false y false = λ i. record (node y) { calls = one_call y.calls on_abort i; inst = None; part = no_part }

  closes : (k : InstName) (c : Bool) (d : Doing) → closing k c (raised_doing d) ≡ raised_doing (closing k c d)
  closes k c d = λ i. record {
    state = after_raised c d.state d.state.part.is_rollback i;
    puts = putting_raised (raised_parcel first p) d.state.part.asked (λ q. Decide k c) (λ q. Decide k c) d.puts (λ u e. refl) i;
    rows = sym (map-append (relabelled (λ q label. raised (first q) label) p) d.rows (Closed k ∷ [])) i;
    acts = d.acts ++ acts_of_closing d.state.part.is_rollback c;
  }

  ends : (k : InstName) (o : Option ℕ) (d : Doing) → ending k o (raised_doing d) ≡ raised_doing (ending k o d)
  ends k (Some to) d = λ i. record (raised_doing d) { puts = putting_raised (raised_parcel first p) (λ u. u == to) (λ u. Reply k d.state.part.willing) (λ u. Reply k d.state.part.willing) d.puts (λ u e. refl) i }
  ends k None d =
      ap (λ (rows : List _). closing k d.state.part.willing (record (raised_doing d) { rows = rows })) (sym (map-append (relabelled (λ q label. raised (first q) label) p) d.rows (Decided k d.state.part.willing ∷ [])))
      ∙ closes k d.state.part.willing (record d { rows = d.rows ++ Decided k d.state.part.willing ∷ [] })

  settles : (k : InstName) (d : Doing) → settling k (raised_doing d) ≡ raised_doing (settling k d)
  settles k d = branch (d.state.part.awaited == 0) _ _ _ _ (ends k d.state.part.parent d) refl

  -- beginning and joining
  joins_checkpoint : (k : InstName) (parent : Option ℕ) (d : Doing) → joining_checkpoint k parent (raised_doing d) ≡ raised_doing (joining_checkpoint k parent d)
  joins_checkpoint k parent d = λ i. record {
    state = record (node d.state) {
      calls = one_call d.state.calls on_tentative i;
      inst = Some k;
      part = new_part d.state.processes false parent (asks i) no_note (fun_ext (λ q. length-map (d.state.kept q) (raised_parcel first q p)) i);
      answered = λ q. false;
    };
    puts = (ap (λ (test : ℕ → Bool). putting test (λ q. Ask k Checkpoint (checkpoint_label (map (raised_call first p) d.state.calls) q)) (λ q. map (raised_parcel first p q) (d.puts q))) asks
        ∙ putting_raised (raised_parcel first p) (is_asked_in_checkpoint d.state.calls) (λ q. Ask k Checkpoint (checkpoint_label d.state.calls q)) (λ q. Ask k Checkpoint (checkpoint_label (map (raised_call first p) d.state.calls) q)) d.puts
        (λ u e. ap (λ (l : ℕ). Ask k Checkpoint l) (checkpoint_label_raised first p d.state.calls u))) i;
    rows = sym (map-append (relabelled (λ q label. raised (first q) label) p) d.rows (Took k ∷ [])) i;
    acts = d.acts ++ Keep ∷ [];
  }
    where
      asks : is_asked_in_checkpoint (map (raised_call first p) d.state.calls) ≡ is_asked_in_checkpoint d.state.calls
      asks = fun_ext (asked_in_checkpoint_raised first p d.state.calls)

  joins_rollback : (k : InstName) (parent : Option ℕ) (noted : ℕ → Option ℕ) (d : Doing)
      → joining_rollback k parent (λ q. option_map (raised (first q)) (noted q)) (raised_doing d) ≡ raised_doing (joining_rollback k parent noted d)
  joins_rollback k parent noted d = λ i. record {
    state = record (node d.state) { inst = Some k; part = new_part d.state.processes true parent (asks i) (λ q. option_map (raised (first q)) (noted q)) (λ q. 0); answered = λ q. false };
    puts = (ap (λ (test : ℕ → Bool). putting test (λ q. Ask k Rollback (rollback_label (map (raised_call first p) d.state.calls) q)) (λ q. map (raised_parcel first p q) (d.puts q))) asks
        ∙ putting_raised (raised_parcel first p) (is_asked_in_rollback d.state.calls) (λ q. Ask k Rollback (rollback_label d.state.calls q)) (λ q. Ask k Rollback (rollback_label (map (raised_call first p) d.state.calls) q)) d.puts
        (λ u e. ap (λ (l : ℕ). Ask k Rollback l) (rollback_label_raised first p d.state.calls u))) i;
    rows = sym (map-append (relabelled (λ q label. raised (first q) label) p) d.rows (Ready k ∷ [])) i;
    acts = d.acts;
  }
    where
      asks : is_asked_in_rollback (map (raised_call first p) d.state.calls) ≡ is_asked_in_rollback d.state.calls
      asks = fun_ext (asked_in_rollback_raised first p d.state.calls)

  starts : (y : NodeState) (roll : Bool) → starting (next_name (node y)) (node y) roll ≡ raised_doing (starting (next_name y) y roll)
  starts y false = ap (settling (next_name y)) (joins_checkpoint (next_name y) None (beginning (next_name y) y false)) ∙ settles (next_name y) (joining_checkpoint (next_name y) None (beginning (next_name y) y false))
  starts y true = ap (settling (next_name y)) (joins_rollback (next_name y) None no_note (beginning (next_name y) y true)) ∙ settles (next_name y) (joining_rollback (next_name y) None no_note (beginning (next_name y) y true))

  begins : (o : Option InstName) (y : NodeState) (roll able : Bool) → told_to_begin (next_name y) o (node y) roll able ≡ raised_doing (told_to_begin (next_name y) o y roll able)
  begins (Some name) y roll able = refl
  begins None y true able = starts y true
  begins None y false able = branch (able && y.up) _ _ _ _ (starts y false) refl

  replies : (y : NodeState) (q : ℕ) (k : InstName) (w : Bool) → replying (node y) q k w ≡ raised_doing (replying y q k w)
  replies y q k w = λ i. record (nothing (node y)) { puts = putting_raised (raised_parcel first p) (λ u. u == q) (λ u. Reply k w) (λ u. Reply k w) (λ u. []) (λ u e. refl) i }

  is_unwilling : (y : NodeState) (q : ℕ) (k : InstName) (cause : NamedCause) → unwilling (node y) q k cause ≡ raised_doing (unwilling y q k cause)
  is_unwilling y q k cause = λ i. record (replies y q k false i) { rows = Unwilling k cause ∷ [] }

  -- whose label an ask has
  abbrev label_asked : Bool → ℕ → ℕ → ℕ
  label_asked true q label = raised (first q) label
  label_asked false q label = raised (first p) label

  notes : (y : NodeState) (roll : Bool) (q label : ℕ) → noting (node y) roll q (label_asked roll q label) ≡ node (noting y roll q label)
  notes y false q label = refl
  notes y true q label = λ i. record (node y) { part = record (raised_part first y.part) { noted = fun_ext (λ u. at_test u (y.part.is_rollback && u == q) refl) i } }
    where
      at_test : (u : ℕ) (b : Bool) → (y.part.is_rollback && u == q) ≡ b → (if b then Some (raised (first q) label) else option_map (raised (first u)) (y.part.noted u)) ≡ option_map (raised (first u)) (if b then Some label else y.part.noted u)
      at_test u true e = ap (λ (n : ℕ). Some (raised (first n) label)) (sym (equal u q (second y.part.is_rollback (u == q) e)))
      at_test u false e = refl

  asks : (o : Option InstName) (y : NodeState) (q : ℕ) (able : Bool) (k : InstName) (roll : Bool) (label : ℕ) → asked o (node y) q able k roll (label_asked roll q label) ≡ raised_doing (asked o y q able k roll label)
  asks (Some name) y q able k roll label =
      branch (is_one name k) _ _ _ _ (ap (λ (z : NodeState). replying z q k true) (notes y roll q label) ∙ replies (noting y roll q label) q k true) (is_unwilling y q k (Busy name))
  asks None y q able k true label =
      ap (λ (b : Bool). if b then settling k (joining_rollback k (Some q) (at_one q (Some (raised (first q) label)) no_note) (nothing (node y))) else replying (node y) q k true) (rolls_raised first p y.calls q label)
      ∙ branch (must_roll y.calls q label) _ _ _ _
      (ap (λ (noted : ℕ → Option ℕ). settling k (joining_rollback k (Some q) noted (nothing (node y)))) (at_one_raised (λ u. option_map (raised (first u))) q (Some label) no_note)
      ∙ (ap (settling k) (joins_rollback k (Some q) (at_one q (Some label) no_note) (nothing y)) ∙ settles k (joining_rollback k (Some q) (at_one q (Some label) no_note) (nothing y))))
      (replies y q k true)
  asks None y q able k false label =
      ap (λ (b : Bool). if not b then replying (node y) q k true else if not (able && y.up) then unwilling (node y) q k (unable y.up) else settling k (joining_checkpoint k (Some q) (nothing (node y)))) (takes_raised first p y.calls q label)
      ∙ branch (not (must_take y.calls q label)) _ _ _ _ (replies y q k true)
      (branch (not (able && y.up)) _ _ _ _ (is_unwilling y q k (unable y.up))
      (ap (settling k) (joins_checkpoint k (Some q) (nothing y)) ∙ settles k (joining_checkpoint k (Some q) (nothing y))))

  takes : (y : NodeState) (q : ℕ) (able : Bool) (x : NodeParcel) → taking (node y) q able (raised_parcel first q p x) ≡ raised_doing (taking y q able x)
  takes y q able (App label body) = branch (is_in_rollback y) _ _ _ _ (holds y q (App label body)) (arrives y q label body)
  takes y q able (Ask k Checkpoint label) = asks y.inst (asking y q k) q able k false label
  takes y q able (Ask k Rollback label) = asks y.inst (asking y q k) q able k true label
  takes y q able (Reply k w) = branch (awaits y q k) _ _ _ _ (settles k (nothing (counting y q w))) refl
  takes y q able (Decide k c) = branch (heeds y q k) _ _ _ _ (closes k c (nothing y)) refl

  -- what comes
  abbrev pub raised_input : Input → Input
  raised_input (Send q body) = Send q body
  raised_input (Begin roll able) = Begin roll able
  raised_input Fail = Fail
  raised_input (Held q) = Held q
  raised_input (Comes q able x) = Comes q able (raised_parcel first q p x)

  pub does_raised : (y : NodeState) (x : Input) → node_after (raised_node first p y) (raised_input x) ≡ raised_doing (node_after y x)
  does_raised y (Send q body) = branch (is_step y (Send q body)) _ _ (if y.up then sending y q body else refusing y verb.Send Down) (nothing y) (branch y.up _ _ (sending y q body) (refusing y verb.Send Down) (sends y q body) refl) refl
  does_raised y (Begin roll able) = begins y.inst y roll able
  does_raised y Fail = branch y.up _ _ (failing y) (refusing y verb.Fail Down) refl refl
  does_raised y (Held q) = branch (is_in_rollback y) _ _ (nothing y) (taking_held y q (y.held q)) refl (takes_held y q (y.held q))
  does_raised y (Comes q able x) = takes y q able x
