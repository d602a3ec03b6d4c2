-- What nodes of a net owe one another: a decision comes of who asked last to join its instance, and who was asked since it
-- joined has replied at most once.
use Rattle.std.proofs.Common.{◌≡◌, ◌∙◌, ℕ, ℤ, Bool, true, false, not, Option, Some, None, List, [], ◌∷◌, ◌++◌, ◌⊎◌, refl, sym, ap, subst, inl, inr}
use Rattle.std.specs.Prelude.{◌==◌, ◌&&◌, if◌then◌else◌}
use Rattle.kt_base.specs.declared.words.Kind.{Kind}
use Rattle.kt_base.specs.declared.words.Kind.TheVariants.{Checkpoint, Rollback}
use Rattle.kt_base.specs.declared.words.Verb.TheVariants as verb
use Rattle.kt_meaning.specs.Past.{at_one, is_rollback_kind}
use Rattle.kt_protocol.proofs.Updates.{is_same}
use Rattle.kt_machine.specs.CallTests.{must_take, must_roll, is_asked_in_checkpoint, checkpoint_label, is_asked_in_rollback, rollback_label}
use Rattle.kt_machine.specs.SeenJoining.{no_note}
use Rattle.kt_spacetime.specs.declared.names.InstName.{InstName}
use Rattle.kt_spacetime.specs.declared.named_rows.NamedCause.TheVariants.{Down}
use Rattle.kt_spacetime.specs.declared.named_rows.NamedEvent.TheVariants.{Dropped, Decided}
use Rattle.kt_manager.specs.declared.parcels.NodeParcel.{NodeParcel}
use Rattle.kt_manager.specs.declared.parcels.NodeParcel.TheVariants.{App, Ask, Reply, Decide}
use Rattle.kt_manager.specs.Nodes.{NodeState, Doing, nothing, is_in_rollback}
use Rattle.kt_node.specs.Inputs.{Input, Send, Begin, Fail, Held, Comes}
use Rattle.kt_manager.specs.NodeMessages.{sending, receiving, arriving, holding, taking_held, failing, refusing}
use Rattle.kt_manager.specs.NodeJoining.{beginning, joining_checkpoint, joining_rollback, noting}
use Rattle.kt_node.specs.NodeSteps.{next_name, asking, awaits, heeds, is_step, node_after}
use Rattle.kt_manager.specs.NodeClosing.{after_checkpoint, after_rollback, closing, ending, settling}
use Rattle.kt_manager.specs.NodeSteps.{is_one, is_in, told_to_begin, asked, counting}

-- what is asked last, once some parcels have come
abbrev pub last_ask : Option InstName → List NodeParcel → Option InstName
last_ask o [] = o
last_ask o (App label body ∷ xs) = last_ask o xs
last_ask o (Ask k kind label ∷ xs) = last_ask (Some k) xs
last_ask o (Reply k w ∷ xs) = last_ask o xs
last_ask o (Decide k c ∷ xs) = last_ask o xs

-- each decision is of what is asked last then
abbrev pub Follows : Option InstName → List NodeParcel → Type 0
Follows o [] = Unit {0}
Follows o (App label body ∷ xs) = Follows o xs
Follows o (Ask k kind label ∷ xs) = Follows (Some k) xs
Follows o (Reply k w ∷ xs) = Follows o xs
Follows o (Decide k c ∷ xs) = (is_in o k ≡ true) × Follows o xs

pub last_append : (o : Option InstName) (xs ys : List NodeParcel) → last_ask o (xs ++ ys) ≡ last_ask (last_ask o xs) ys
last_append o [] ys = refl
last_append o (App label body ∷ xs) ys = last_append o xs ys
last_append o (Ask k kind label ∷ xs) ys = last_append (Some k) xs ys
last_append o (Reply k w ∷ xs) ys = last_append o xs ys
last_append o (Decide k c ∷ xs) ys = last_append o xs ys

pub follows_append : (o : Option InstName) (xs ys : List NodeParcel) → Follows o xs → Follows (last_ask o xs) ys → Follows o (xs ++ ys)
follows_append o [] ys f g = g
follows_append o (App label body ∷ xs) ys f g = follows_append o xs ys f g
follows_append o (Ask k kind label ∷ xs) ys f g = follows_append (Some k) xs ys f g
follows_append o (Reply k w ∷ xs) ys f g = follows_append o xs ys f g
follows_append o (Decide k c ∷ xs) ys f g = (f.0, follows_append o xs ys f.1 g)

-- a parcel that is neither an ask nor a decision
abbrev IsPlain : NodeParcel → Type 0
IsPlain x = (o : Option InstName) → (last_ask o (x ∷ []) ≡ o) × Follows o (x ∷ [])

is_one_self : (k : InstName) → is_one k k ≡ true
is_one_self k = rw (is_same k.initiator, is_same k.count) refl

is_in_some : (o : Option InstName) (k : InstName) → is_in o k ≡ true → (name : InstName) × (o ≡ Some name)
is_in_some None k e = absurd (cc (e))
is_in_some (Some name) k e = (name, refl)

-- a node that was asked and answered as y has done this: what it put for p follows the last ask o to it, and where it is in
-- an instance to which it asked p that is the last ask now. What it was asked, and whether q has replied, are as they were,
-- or it has joined, and nobody has, or it is in no instance.
pub record Owes (o : Option InstName) (p q : ℕ) (y : NodeState) (d : Doing) : Type 0 where
  pub follows : Follows o (d.puts p)
  pub last : (k : InstName) → d.state.inst ≡ Some k → d.state.part.asked p ≡ true → last_ask o (d.puts p) ≡ Some k
  pub asks : d.state.asks ≡ y.asks
  pub answered : (d.state.inst ≡ None) ⊎ ((d.state.answered q ≡ false) ⊎ ((d.state.inst ≡ y.inst) × (d.state.answered q ≡ y.answered q)))

module _ (o : Option InstName) (p q : ℕ) (y : NodeState) where
  -- so it is of what did the same, but for rows and acts
  same : (d e : Doing) → e.puts p ≡ d.puts p → e.state.inst ≡ d.state.inst → e.state.part.asked p ≡ d.state.part.asked p → e.state.asks ≡ d.state.asks → e.state.answered q ≡ d.state.answered q → Owes o p q y d → Owes o p q y e
  same d e puts inst asked asks answered h = record {
    follows = subst (Follows o) (sym puts) h.follows;
    last = λ k i a. ap (last_ask o) puts ∙ h.last k (sym inst ∙ i) (sym asked ∙ a);
    asks = asks ∙ h.asks;
    answered = elim h.answered [
      | inl n ↦ inl (inst ∙ n)
      | inr r ↦ elim r [ inl f ↦ inr (inl (answered ∙ f)) | inr s ↦ inr (inr (inst ∙ s.0, answered ∙ s.1)) ]
    ];
  }

  -- one more parcel to those that pass
  more : (d e : Doing) (b : Bool) (x : NodeParcel) → IsPlain x → e.puts p ≡ (if b then d.puts p ++ x ∷ [] else d.puts p) → e.state ≡ d.state → Owes o p q y d → Owes o p q y e
  more d e false x plain puts state h = same d e puts (ap (λ (z : NodeState). z.inst) state) (ap (λ (z : NodeState). z.part.asked p) state) (ap (λ (z : NodeState). z.asks) state) (ap (λ (z : NodeState). z.answered q) state) h
  more d e true x plain puts state h =
      let with_x : Doing = record d { puts = λ u. d.puts p ++ x ∷ [] } in
      same with_x e puts (ap (λ (z : NodeState). z.inst) state) (ap (λ (z : NodeState). z.part.asked p) state) (ap (λ (z : NodeState). z.asks) state) (ap (λ (z : NodeState). z.answered q) state) (record {
        follows = follows_append o (d.puts p) (x ∷ []) h.follows (plain (last_ask o (d.puts p))).1;
        last = λ k i a. last_append o (d.puts p) (x ∷ []) ∙ ((plain (last_ask o (d.puts p))).0 ∙ h.last k i a);
        asks = h.asks;
        answered = h.answered;
      })

  -- it joins k, and asks p where it passes
  joined : (d e : Doing) (b : Bool) (k : InstName) (kind : Kind) (label : ℕ) → e.puts p ≡ (if b then d.puts p ++ Ask k kind label ∷ [] else d.puts p) → e.state.inst ≡ Some k → e.state.part.asked p ≡ b → e.state.asks ≡ d.state.asks → e.state.answered q ≡ false → Owes o p q y d → Owes o p q y e
  joined d e false k kind label puts inst asked asks answered h = record {
    follows = subst (Follows o) (sym puts) h.follows;
    last = λ j i a. absurd (let n = sym asked ∙ a in cc (n));
    asks = asks ∙ h.asks;
    answered = inr (inl answered);
  }
  joined d e true k kind label puts inst asked asks answered h = record {
    follows = subst (Follows o) (sym puts) (follows_append o (d.puts p) (Ask k kind label ∷ []) h.follows tt);
    last = λ j i a. ap (last_ask o) puts ∙ (last_append o (d.puts p) (Ask k kind label ∷ []) ∙ (sym inst ∙ i));
    asks = asks ∙ h.asks;
    answered = inr (inl answered);
  }

  -- it closes k, in which it is, and tells p where it asked it
  closed : (d e : Doing) (b : Bool) (k : InstName) (c : Bool) → is_in d.state.inst k ≡ true → d.state.part.asked p ≡ b → e.puts p ≡ (if b then d.puts p ++ Decide k c ∷ [] else d.puts p) → e.state.inst ≡ None → e.state.asks ≡ d.state.asks → Owes o p q y d → Owes o p q y e
  closed d e b k c in_it asked puts inst asks h = record {
    follows = subst (Follows o) (sym puts) (told b asked);
    last = λ j i a. absurd (let n = sym inst ∙ i in cc (n));
    asks = asks ∙ h.asks;
    answered = inl inst;
  }
    where
      told : (b : Bool) → d.state.part.asked p ≡ b → Follows o (if b then d.puts p ++ Decide k c ∷ [] else d.puts p)
      told false a = h.follows
      told true a =
          let name = is_in_some d.state.inst k in_it in
          let here : is_in (last_ask o (d.puts p)) k ≡ true = ap (λ (n : Option InstName). is_in n k) (h.last name.0 name.1 a ∙ sym name.1) ∙ in_it in
          follows_append o (d.puts p) (Decide k c ∷ []) h.follows (here, tt)

  closes : (k : InstName) (c : Bool) (d : Doing) → is_in d.state.inst k ≡ true → Owes o p q y d → Owes o p q y (closing k c d)
  closes k c d i h = closed d (closing k c d) (d.state.part.asked p) k c i refl refl (inst_of d.state.part.is_rollback c) (asks_of d.state.part.is_rollback c) h
    where
      inst_of : (roll c : Bool) → (if roll then after_rollback c d.state else after_checkpoint c d.state).inst ≡ None
      inst_of true true = refl
      inst_of true false = refl
      inst_of false c = refl

      asks_of : (roll c : Bool) → (if roll then after_rollback c d.state else after_checkpoint c d.state).asks ≡ d.state.asks
      asks_of true true = refl
      asks_of true false = refl
      asks_of false c = refl

  ends : (k : InstName) (parent : Option ℕ) (d : Doing) → is_in d.state.inst k ≡ true → Owes o p q y d → Owes o p q y (ending k parent d)
  ends k (Some to) d i h = more d (ending k (Some to) d) (p == to) (Reply k d.state.part.willing) (λ n. (refl, tt)) refl refl h
  ends k None d i h = closes k d.state.part.willing (record d { rows = d.rows ++ Decided k d.state.part.willing ∷ [] }) i (same d (record d { rows = d.rows ++ Decided k d.state.part.willing ∷ [] }) refl refl refl refl refl h)

  settles : (k : InstName) (d : Doing) → is_in d.state.inst k ≡ true → Owes o p q y d → Owes o p q y (settling k d)
  settles k d i h = at_zero (d.state.part.awaited == 0)
    where
      at_zero : (b : Bool) → Owes o p q y (if b then ending k d.state.part.parent d else d)
      at_zero true = ends k d.state.part.parent d i h
      at_zero false = h

  either : (b : Bool) (d e : Doing) → Owes o p q y d → Owes o p q y e → Owes o p q y (if b then d else e)
  either true d e f g = f
  either false d e f g = g

  where_so : (b : Bool) (d e : Doing) → (b ≡ true → Owes o p q y d) → Owes o p q y e → Owes o p q y (if b then d else e)
  where_so true d e f g = f refl
  where_so false d e f g = g

  -- from what was done so far to a join, and what follows
  joins_checkpoint : (k : InstName) (parent : Option ℕ) (d : Doing) → Owes o p q y d → Owes o p q y (settling k (joining_checkpoint k parent d))
  joins_checkpoint k parent d h = settles k (joining_checkpoint k parent d) (is_one_self k)
      (joined d (joining_checkpoint k parent d) (is_asked_in_checkpoint d.state.calls p) k Checkpoint (checkpoint_label d.state.calls p) refl refl refl refl refl h)

  joins_rollback : (k : InstName) (parent : Option ℕ) (noted : ℕ → Option ℕ) (d : Doing) → Owes o p q y d → Owes o p q y (settling k (joining_rollback k parent noted d))
  joins_rollback k parent noted d h = settles k (joining_rollback k parent noted d) (is_one_self k)
      (joined d (joining_rollback k parent noted d) (is_asked_in_rollback d.state.calls p) k Rollback (rollback_label d.state.calls p) refl refl refl refl refl h)

-- p's part so far: what follows
abbrev pub IsLast : Option InstName → ℕ → NodeState → Type 0
IsLast o p y = (k : InstName) → y.inst ≡ Some k → y.part.asked p ≡ true → o ≡ Some k

module _ (o : Option InstName) (p q : ℕ) where
  begun : (y : NodeState) → IsLast o p y → Owes o p q y (nothing y)
  begun y l = record { follows = tt; last = l; asks = refl; answered = inr (inr (refl, refl)) }

  arrives : (y z : NodeState) (u label : ℕ) (body : ℤ) → Owes o p q y (nothing z) → Owes o p q y (arriving z u label body)
  arrives y z u label body h = either o p q y z.up _ _ (same o p q y (nothing z) (receiving z u label body) refl refl refl refl refl h) (same o p q y (nothing z) (record (nothing z) { rows = Dropped u label ∷ [] }) refl refl refl refl refl h)

  module _ (y : NodeState) (l : IsLast o p y) where
    no : Owes o p q y (nothing y)
    no = begun y l

    -- what leaves the node as it was, but for its calls, messages and object
    still : (d : Doing) → d.puts p ≡ [] → d.state.inst ≡ y.inst → d.state.part.asked p ≡ y.part.asked p → d.state.asks ≡ y.asks → d.state.answered q ≡ y.answered q → Owes o p q y d
    still d puts inst asked asks answered = same o p q y (nothing y) d puts inst asked asks answered no

    replies : (z : NodeState) (u : ℕ) (k : InstName) (b : Bool) (d : Doing) → z.inst ≡ y.inst → z.part.asked p ≡ y.part.asked p → z.asks ≡ y.asks → z.answered q ≡ y.answered q → d.puts p ≡ (if p == u then Reply k b ∷ [] else []) → d.state ≡ z → Owes o p q y d
    replies z u k b d inst asked asks answered puts state = more o p q y (nothing z) d (p == u) (Reply k b) (λ n. (refl, tt)) puts state (still (nothing z) refl inst asked asks answered)

    begins : (n : Option InstName) (roll able : Bool) → Owes o p q y (told_to_begin (next_name y) n y roll able)
    begins (Some name) roll able = still _ refl refl refl refl refl
    begins None true able = joins_rollback o p q y (next_name y) None no_note (beginning (next_name y) y true) (still (beginning (next_name y) y true) refl refl refl refl refl)
    begins None false able = either o p q y (able && y.up) _ _ (joins_checkpoint o p q y (next_name y) None (beginning (next_name y) y false) (still (beginning (next_name y) y false) refl refl refl refl refl)) (still _ refl refl refl refl refl)

    asks : (n : Option InstName) (u : ℕ) (able : Bool) (k : InstName) (roll : Bool) (label : ℕ) → Owes o p q y (asked n y u able k roll label)
    asks (Some name) u able k true label = either o p q y (is_one name k) _ _ (replies (noting y true u label) u k true _ refl refl refl refl refl refl) (replies y u k false _ refl refl refl refl refl refl)
    asks (Some name) u able k false label = either o p q y (is_one name k) _ _ (replies (noting y false u label) u k true _ refl refl refl refl refl refl) (replies y u k false _ refl refl refl refl refl refl)
    asks None u able k true label = either o p q y (must_roll y.calls u label) _ _ (joins_rollback o p q y k (Some u) (at_one u (Some label) no_note) (nothing y) no) (replies y u k true _ refl refl refl refl refl refl)
    asks None u able k false label = either o p q y (not (must_take y.calls u label)) _ _ (replies y u k true _ refl refl refl refl refl refl)
        (either o p q y (not (able && y.up)) _ _ (replies y u k false _ refl refl refl refl refl refl) (joins_checkpoint o p q y k (Some u) (nothing y) no))

    held : (u : ℕ) (xs : List NodeParcel) → Owes o p q y (taking_held y u xs)
    held u [] = no
    held u (App label body ∷ rest) = arrives y (record y { held = at_one u rest y.held }) u label body (still _ refl refl refl refl refl)
    held u (Ask k kind label ∷ rest) = no
    held u (Reply k w ∷ rest) = no
    held u (Decide k c ∷ rest) = no

    sends : (u : ℕ) (body : ℤ) → Owes o p q y (sending y u body)
    sends u body = more o p q y (nothing (sending y u body).state) (sending y u body) (p == u) (App _ body) (λ n. (refl, tt)) refl refl (still _ refl refl refl refl refl)

-- how a node is asked and answered once something has come
abbrev pub heard : NodeState → Input → NodeState
heard y (Send q body) = y
heard y (Begin roll able) = y
heard y Fail = y
heard y (Held q) = y
heard y (Comes q able (App label body)) = y
heard y (Comes q able (Ask k kind label)) = asking y q k
heard y (Comes q able (Reply k w)) = if awaits y q k then counting y q w else y
heard y (Comes q able (Decide k c)) = y

first_one : (a b : Bool) → (a && b) ≡ true → a ≡ true
first_one true b e = refl
first_one false b e = absurd (cc (e))

-- each step
pub owes : (o : Option InstName) (p q : ℕ) (y : NodeState) (x : Input) → IsLast o p y → Owes o p q (heard y x) (node_after y x)
owes o p q y (Send u body) l = either o p q y (is_step y (Send u body)) _ _ (either o p q y y.up _ _ (sends o p q y l u body) (still o p q y l (refusing y verb.Send Down) refl refl refl refl refl)) (no o p q y l)
owes o p q y (Begin roll able) l = begins o p q y l y.inst roll able
owes o p q y Fail l = either o p q y y.up _ _ (still o p q y l (failing y) refl refl refl refl refl) (still o p q y l (refusing y verb.Fail Down) refl refl refl refl refl)
owes o p q y (Held u) l = either o p q y (is_in_rollback y) _ _ (no o p q y l) (held o p q y l u (y.held u))
owes o p q y (Comes u able (App label body)) l = either o p q y (is_in_rollback y) _ _ (still o p q y l (holding y u (App label body)) refl refl refl refl refl) (arrives o p q y y u label body (no o p q y l))
owes o p q y (Comes u able (Ask k kind label)) l = asks o p q (asking y u k) l y.inst u able k (is_rollback_kind (Some kind)) label
owes o p q y (Comes u able (Reply k w)) l = at_test (awaits y u k) refl
  where
    at_test : (b : Bool) → awaits y u k ≡ b → Owes o p q (if b then counting y u w else y) (if b then settling k (nothing (counting y u w)) else nothing y)
    at_test true e = settles o p q (counting y u w) k (nothing (counting y u w)) (first_one (is_in y.inst k) _ (first_one _ _ e)) (no o p q (counting y u w) l)
    at_test false e = no o p q y l
owes o p q y (Comes u able (Decide k c)) l = where_so o p q y (heeds y u k) _ _ (λ e. closes o p q y k c (nothing y) (first_one (is_in y.inst k) _ (first_one _ _ e)) (no o p q y l)) (no o p q y l)
