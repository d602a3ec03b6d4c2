-- Each step of a net keeps what its nodes owe one another.
use Rattle.std.proofs.Common.{◌≡◌, ◌≢◌, ◌∙◌, ℕ, ◌<◌, Bool, true, false, not, Option, Some, None, List, [], ◌∷◌, ◌++◌, ◌⊎◌, refl, sym, ap, ap₂, subst, inl, inr}
use Rattle.std.specs.Prelude.{◌==◌, ◌&&◌, if◌then◌else◌}
use Rattle.std.proofs.lemmas.Bool.{cases_eq}
use Rattle.kt_meaning.specs.Past.{at_one}
use Rattle.kt_protocol.proofs.Choices.{at_if}
use Rattle.kt_protocol.proofs.Updates.{is_same, is_other, at_one_here, at_one_other}
use Rattle.kt_protocol.specs.States.{ProtocolStep, Send, Begin, Fail, Take, State}
use Rattle.kt_machine.proofs.OnePiece.{set_same}
use Rattle.kt_spacetime.specs.declared.names.InstName.{InstName}
use Rattle.kt_manager.specs.declared.parcels.NodeParcel.{NodeParcel}
use Rattle.kt_manager.specs.declared.parcels.NodeParcel.TheVariants.{App, Ask, Reply, Decide}
use Rattle.kt_manager.specs.Nodes.{NodeState, Doing, is_in_rollback}
use Rattle.kt_node.specs.Inputs.{Input}
use Rattle.kt_node.specs.Inputs as input
use Rattle.kt_manager.specs.NodeSteps.{counting}
use Rattle.kt_node.specs.NodeSteps.{awaits, node_after}
use Rattle.kt_node.specs.Nets.{Net, with_doing, with_rest, has_some, net_front, net_step, net_run, opening_net}
use Rattle.kt_node.proofs.Awaiting.{Awaits, Since}
use Rattle.kt_node.proofs.Owing.{last_ask, Follows, last_append, follows_append, IsLast, Owes, owes, heard}

-- what v was asked by u, and what is on its way from u to v, belong together
abbrev pub IsTold : Option InstName → List NodeParcel → ℕ → NodeState → Type 0
IsTold o xs v y = Follows o xs × IsLast (last_ask o xs) v y

abbrev pub AreTold : Net → Type 0
AreTold w = (u v : ℕ) → IsTold ((w.nodes v).asks u) (w.channel u v) v (w.nodes u)

told_as : (o p : Option InstName) (xs ys : List NodeParcel) (v : ℕ) (y z : NodeState) → o ≡ p → xs ≡ ys → y ≡ z → IsTold p ys v z → IsTold o xs v y
told_as o p xs ys v y z e f g h =
    subst (λ (o : Option InstName). IsTold o xs v y) (sym e) (subst (λ (xs : List NodeParcel). IsTold p xs v y) (sym f) (subst (IsTold p ys v) (sym g) h))

-- a reply changes nothing of what was asked
reply_asks : (b : Bool) (y : NodeState) (q : ℕ) (w : Bool) → (if b then counting y q w else y).asks ≡ y.asks
reply_asks true y q w = refl
reply_asks false y q w = refl

heard_other : (y : NodeState) (q : ℕ) (able : Bool) (x : NodeParcel) (u : ℕ) → u ≢ q → (heard y (input.Comes q able x)).asks u ≡ y.asks u
heard_other y q able (App label body) u n = refl
heard_other y q able (Ask k kind label) u n = at_one_other q u (Some k) y.asks n
heard_other y q able (Reply k w) u n = ap (λ (f : ℕ → Option InstName). f u) (reply_asks (awaits y q k) y q w)
heard_other y q able (Decide k c) u n = refl

-- the front has come
heard_front : (y z : NodeState) (q v : ℕ) (able : Bool) (x : NodeParcel) (rest : List NodeParcel) → IsTold (y.asks q) (x ∷ rest) v z → IsTold ((heard y (input.Comes q able x)).asks q) rest v z
heard_front y z q v able (App label body) rest h = h
heard_front y z q v able (Ask k kind label) rest h = told_as _ (Some k) rest rest v z z (at_one_here q (Some k) y.asks) refl refl h
heard_front y z q v able (Reply k w) rest h = told_as _ (y.asks q) rest rest v z z (ap (λ (f : ℕ → Option InstName). f q) (reply_asks (awaits y q k) y q w)) refl refl h
heard_front y z q v able (Decide k c) rest h = (h.0.1, h.1)

-- node p does what it does at an input, where these are the channels by then
module _ (w : Net) (channel : ℕ → ℕ → List NodeParcel) (p : ℕ) (i : Input) where
  abbrev d : Doing
  d = node_after (w.nodes p) i

  abbrev pub done_net : Net
  done_net = with_doing (record w { channel = channel }) p d

  abbrev pub asked_by : ℕ → ℕ → Option InstName
  asked_by v u = (at_one p (heard (w.nodes p) i) w.nodes v).asks u

  module _ (h : (u v : ℕ) → IsTold (asked_by v u) (channel u v) v (w.nodes u)) where
    pub owed : (v q : ℕ) → Owes (last_ask (asked_by v p) (channel p v)) v q (heard (w.nodes p) i) d
    owed v q = owes (last_ask (asked_by v p) (channel p v)) v q (w.nodes p) i (h p v).1

    asks_done : (v u : ℕ) → (at_one p d.state w.nodes v).asks u ≡ asked_by v u
    asks_done v u = elim (cases_eq v p) [
      | inl e ↦ subst (λ (v : ℕ). (at_one p d.state w.nodes v).asks u ≡ asked_by v u) (sym e)
          (ap (λ (z : NodeState). z.asks u) (at_one_here p d.state w.nodes) ∙ (ap (λ (f : ℕ → Option InstName). f u) (owed p 0).asks ∙ sym (ap (λ (z : NodeState). z.asks u) (at_one_here p (heard (w.nodes p) i) w.nodes))))
      | inr n ↦ ap (λ (z : NodeState). z.asks u) (at_one_other p v d.state w.nodes n ∙ sym (at_one_other p v (heard (w.nodes p) i) w.nodes n))
    ]

    pub told_done : AreTold done_net
    told_done u v = elim (cases_eq u p) [
      | inl e ↦ subst (λ (u : ℕ). IsTold ((done_net.nodes v).asks u) (done_net.channel u v) v (done_net.nodes u)) (sym e)
          (told_as _ (asked_by v p) _ (channel p v ++ d.puts v) v _ d.state (asks_done v p) (ap (λ (b : Bool). if b then channel p v ++ d.puts v else channel p v) (is_same p)) (at_one_here p d.state w.nodes) (
            follows_append (asked_by v p) (channel p v) (d.puts v) (h p v).0 (owed v 0).follows,
            λ k in_it asked. last_append (asked_by v p) (channel p v) (d.puts v) ∙ (owed v 0).last k in_it asked,
          ))
      | inr n ↦ told_as _ (asked_by v u) _ (channel u v) v _ (w.nodes u) (asks_done v u) (ap (λ (b : Bool). if b then channel u v ++ d.puts v else channel u v) (is_other u p n)) (at_one_other p u d.state w.nodes n) (h u v)
    ]

-- a command or what was held comes of no channel
pub told_own : (w : Net) (p : ℕ) (i : Input) → heard (w.nodes p) i ≡ w.nodes p → AreTold w → (u v : ℕ) → IsTold (asked_by w w.channel p i v u) (w.channel u v) v (w.nodes u)
told_own w p i e h u v = told_as _ ((w.nodes v).asks u) _ (w.channel u v) v _ (w.nodes u) (ap (λ (f : ℕ → NodeState). (f v).asks u) (ap (λ (z : NodeState). at_one p z w.nodes) e ∙ set_same p w.nodes)) refl refl (h u v)

-- the front of a channel
pub told_front : (w : Net) (p q : ℕ) (able : Bool) (x : NodeParcel) (rest : List NodeParcel) → w.channel q p ≡ x ∷ rest → AreTold w → (u v : ℕ)
    → IsTold (asked_by w (with_rest w q p rest).channel p (input.Comes q able x) v u) ((with_rest w q p rest).channel u v) v (w.nodes u)
told_front w p q able x rest e h u v = elim (cases_eq v p) [
  | inl a ↦ subst (λ (v : ℕ). IsTold (asked_by w (with_rest w q p rest).channel p (input.Comes q able x) v u) ((with_rest w q p rest).channel u v) v (w.nodes u)) (sym a) (here u)
  | inr n ↦ told_as _ ((w.nodes v).asks u) _ (w.channel u v) v _ (w.nodes u) (ap (λ (z : NodeState). z.asks u) (at_one_other p v (heard (w.nodes p) (input.Comes q able x)) w.nodes n))
      (ap (λ (b : Bool). if (u == q) && b then rest else w.channel u v) (is_other v p n) ∙ no_other (u == q) rest (w.channel u v)) refl (h u v)
]
  where
    no_other : (b : Bool) (xs ys : List NodeParcel) → (if b && false then xs else ys) ≡ ys
    no_other true xs ys = refl
    no_other false xs ys = refl

    left : (if q == q && p == p then rest else w.channel q p) ≡ rest
    left = ap₂ (λ (a b : Bool). if a && b then rest else w.channel q p) (is_same q) (is_same p)

    at_p : (u : ℕ) → asked_by w (with_rest w q p rest).channel p (input.Comes q able x) p u ≡ (heard (w.nodes p) (input.Comes q able x)).asks u
    at_p u = ap (λ (z : NodeState). z.asks u) (at_one_here p (heard (w.nodes p) (input.Comes q able x)) w.nodes)

    here : (u : ℕ) → IsTold (asked_by w (with_rest w q p rest).channel p (input.Comes q able x) p u) ((with_rest w q p rest).channel u p) p (w.nodes u)
    here u = elim (cases_eq u q) [
      | inl a ↦ subst (λ (u : ℕ). IsTold (asked_by w (with_rest w q p rest).channel p (input.Comes q able x) p u) ((with_rest w q p rest).channel u p) p (w.nodes u)) (sym a)
          (told_as _ ((heard (w.nodes p) (input.Comes q able x)).asks q) _ rest p _ (w.nodes q) (at_p q) left refl
          (heard_front (w.nodes p) (w.nodes q) q p able x rest (subst (λ (l : List NodeParcel). IsTold ((w.nodes p).asks q) l p (w.nodes q)) e (h q p))))
      | inr n ↦ told_as _ ((w.nodes p).asks u) _ (w.channel u p) p _ (w.nodes u) (at_p u ∙ heard_other (w.nodes p) q able x u n) (ap (λ (b : Bool). if b && p == p then rest else w.channel u p) (is_other u q n)) refl (h u p)
    ]

pub told_step : (w : Net) (x : ProtocolStep) → AreTold w → AreTold (net_step w x)
told_step w (Send p q body) h = told_done w w.channel p (input.Send q body) (told_own w p (input.Send q body) refl h)
told_step w (Begin p roll able) h = told_done w w.channel p (input.Begin roll able) (told_own w p (input.Begin roll able) refl h)
told_step w (Fail p) h = told_done w w.channel p input.Fail (told_own w p input.Fail refl h)
told_step w (Take p q able) h = at_if AreTold (not (is_in_rollback (w.nodes p)) && has_some ((w.nodes p).held q)) _ _
    (λ e. told_done w w.channel p (input.Held q) (told_own w p (input.Held q) refl h)) (λ e. front (w.channel q p) refl)
  where
    front : (xs : List NodeParcel) → w.channel q p ≡ xs → AreTold (net_front w p q able xs)
    front [] e = h
    front (x ∷ rest) e = told_done w (with_rest w q p rest).channel p (input.Comes q able x) (told_front w p q able x rest e h)

pub told_run : (w : Net) (steps : List ProtocolStep) → AreTold w → AreTold (net_run w steps)
told_run w [] h = h
told_run w (x ∷ xs) h = told_run (net_step w x) xs (told_step w x h)

pub told_opening : (n first : ℕ) → AreTold (opening_net n first)
told_opening n first u v = (tt, λ k i a. absurd (cc (i)))

-- who is awaited has not replied
abbrev pub HaveReplied : State → Net → Type 0
HaveReplied c w = (p q : ℕ) → Awaits c p q → (w.nodes p).answered q ≡ false

-- where a node is in none, its process is, before and after
pub record AreOpen (c : State) (w : Net) : Type 0 where
  pub shut : (p : ℕ) → c.so_far.open_in p ≡ 0 → (w.nodes p).inst ≡ None
  pub inside : (p : ℕ) → 0 < c.so_far.open_in p → (w.nodes p).inst ≡ None → ⊥

reply_same : (b : Bool) (y : NodeState) (q u : ℕ) (w : Bool) → u ≢ q → (if b then counting y q w else y).answered u ≡ y.answered u
reply_same true y q u w n = at_one_other q u true y.answered n
reply_same false y q u w n = refl

reply_inst : (b : Bool) (y : NodeState) (q : ℕ) (w : Bool) → (if b then counting y q w else y).inst ≡ y.inst
reply_inst true y q w = refl
reply_inst false y q w = refl

-- but for a reply of q it has of q what it had
abbrev pub IsReplyOf : ℕ → Input → Type 0
IsReplyOf q i = (able : Bool) × ((k : InstName) × ((w : Bool) × (i ≡ input.Comes q able (Reply k w))))

heard_inst : (y : NodeState) (i : Input) → (heard y i).inst ≡ y.inst
heard_inst y (input.Send u body) = refl
heard_inst y (input.Begin roll able) = refl
heard_inst y input.Fail = refl
heard_inst y (input.Held u) = refl
heard_inst y (input.Comes u able (App label body)) = refl
heard_inst y (input.Comes u able (Ask k kind label)) = refl
heard_inst y (input.Comes u able (Reply k w)) = reply_inst (awaits y u k) y u w
heard_inst y (input.Comes u able (Decide k c)) = refl

heard_answered : (y : NodeState) (i : Input) (q : ℕ) → ((heard y i).answered q ≡ y.answered q) ⊎ IsReplyOf q i
heard_answered y (input.Send u body) q = inl refl
heard_answered y (input.Begin roll able) q = inl refl
heard_answered y input.Fail q = inl refl
heard_answered y (input.Held u) q = inl refl
heard_answered y (input.Comes u able (App label body)) q = inl refl
heard_answered y (input.Comes u able (Ask k kind label)) q = inl refl
heard_answered y (input.Comes u able (Reply k w)) q = elim (cases_eq q u) [
  | inl e ↦ inr (able, (k, (w, ap (λ (n : ℕ). input.Comes n able (Reply k w)) (sym e))))
  | inr n ↦ inl (reply_same (awaits y u k) y u q w n)
]
heard_answered y (input.Comes u able (Decide k c)) q = inl refl

module _ (c c' : State) (w : Net) (h : HaveReplied c w) (before : AreOpen c w) (since : (p q : ℕ) → Since c c' p q) where
  -- a node that did nothing
  kept : (p q : ℕ) (z : NodeState) → z ≡ w.nodes p → (0 < c'.so_far.open_in p → z.inst ≡ None → ⊥) → Awaits c' p q → z.answered q ≡ false
  kept p q z e inside a = elim ((since p q).awaits a) [
    | inl x ↦ absurd (inside a.0 (ap (λ (z : NodeState). z.inst) e ∙ before.shut p x.0))
    | inr x ↦ ap (λ (z : NodeState). z.answered q) e ∙ h p q x.1
  ]

  pub still_replied : AreOpen c' w → HaveReplied c' w
  still_replied after p q a = kept p q (w.nodes p) refl (after.inside p) a

  -- a node that did this
  pub replied_done : (channel : ℕ → ℕ → List NodeParcel) (p : ℕ) (i : Input) → ((u v : ℕ) → IsTold (asked_by w channel p i v u) (channel u v) v (w.nodes u)) → AreOpen c' (done_net w channel p i)
      → ((q : ℕ) → IsReplyOf q i → Awaits c' p q → ⊥) → HaveReplied c' (done_net w channel p i)
  replied_done channel p i told after fresh u q a = elim (cases_eq u p) [
    | inl e ↦ subst (λ (u : ℕ). (at_one p (node_after (w.nodes p) i).state w.nodes u).answered q ≡ false) (sym e)
        (ap (λ (z : NodeState). z.answered q) (at_one_here p (node_after (w.nodes p) i).state w.nodes) ∙ here (subst (λ (u : ℕ). Awaits c' u q) e a))
    | inr n ↦ kept u q ((done_net w channel p i).nodes u) (at_one_other p u (node_after (w.nodes p) i).state w.nodes n) (after.inside u) a
  ]
    where
      out : (node_after (w.nodes p) i).state.inst ≡ None → 0 < c'.so_far.open_in p → ⊥
      out e b = after.inside p b (ap (λ (z : NodeState). z.inst) (at_one_here p (node_after (w.nodes p) i).state w.nodes) ∙ e)

      here : Awaits c' p q → (node_after (w.nodes p) i).state.answered q ≡ false
      here a = elim (owed w channel p i told 0 q).answered [
        | inl n ↦ absurd (out n a.0)
        | inr r ↦ elim r [
          | inl f ↦ f
          | inr s ↦ elim ((since p q).awaits a) [
            | inl x ↦ absurd (out (s.0 ∙ (heard_inst (w.nodes p) i ∙ before.shut p x.0)) a.0)
            | inr x ↦ elim (heard_answered (w.nodes p) i q) [
              | inl y ↦ s.1 ∙ (y ∙ h p q x.1)
              | inr y ↦ absurd (fresh q y a)
            ]
          ]
        ]
      ]

-- what is due: decisions come of who asked, and who is awaited has not replied
pub record IsDue (c : State) (w : Net) : Type 0 where
  pub told : AreTold w
  pub replied : HaveReplied c w
