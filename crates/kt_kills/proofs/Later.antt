-- The clocks of what is sent again are no later than those of what was taken.
use Rattle.std.proofs.Common.{◌≡◌, ◌∙◌, ◌+◌, ◌≤◌, ℕ, ℤ, Bool, true, false, Option, Some, None, List, [], ◌∷◌, ◌++◌, inl, inr, map, refl, arith, sym, ap, subst, append_assoc}
use Rattle.std.specs.Prelude.{◌==◌, if◌then◌else◌, length, drop}
use Rattle.std.proofs.lemmas.List.{append-nil}
use Rattle.kt_meaning.specs.Past.{at_one}
use Rattle.kt_machine.specs.Acts.{stepper}
use Rattle.kt_protocol.specs.States as protocol
use Rattle.kt_base.specs.declared.words.Verb.TheVariants as verb
use Rattle.kt_spacetime.specs.declared.named_rows.NamedCause.TheVariants.{Down}
use Rattle.kt_manager.specs.declared.parcels.NodeParcel.{NodeParcel}
use Rattle.kt_manager.specs.declared.parcels.NodeParcel.TheVariants.{App, Ask, Reply, Decide}
use Rattle.kt_manager.specs.Nodes.{Doing}
use Rattle.kt_node.specs.Inputs.{Input, Send}
use Rattle.kt_node.specs.Inputs as input
use Rattle.kt_manager.specs.NodeMessages.{sending, refusing}
use Rattle.kt_node.specs.NodeSteps.{is_step, node_after}
use Rattle.kt_node.specs.Clocks.{Envelope, envelope, clock_after, input_at, front_input}
use Rattle.kt_node.proofs.NetInputs.{clock_rises}
use Rattle.kt_kills.specs.Writing.{is_protocol}
use Rattle.kt_kills.specs.KilledNets.{Holdings, KilledNet, KillEvent, Does, Brought, Writes, Killed, Back, having_done, having, written, stepping, brought, sending_one, sending_again, coming_back, happens, opening_killed}
use Rattle.kt_kills.specs.Starts.{parcels, IsFront, KnowsWhatWasTaken, IsRight}
use Rattle.kt_kills.proofs.Basics.{is_same, clash, front_refl, front_more, at_each, none_came}
use Rattle.kt_kills.proofs.PlainSteps.{from_of}
use Rattle.kt_kills.proofs.Parents.{IsBelow}
use Rattle.kt_kills.proofs.Invariant.{IsHeld}
use Rattle.kt_kills.proofs.Stepping.{took_again}
use Rattle.kt_kills.proofs.Law.{some_is, from_brought, held_event}
use Rattle.kt_kills.proofs.Lost.{HasLost, QuietOrSends, quiet_or_sends, sends_so, alone_from, brought_from}

-- a front of what was put, of which each came no earlier than it was put
abbrev pub IsLater : List Envelope → List Envelope → Type 0
IsLater [] puts = Unit {0}
IsLater (e ∷ es) [] = ⊥
IsLater (e ∷ es) (f ∷ fs) = (e.parcel ≡ f.parcel) × (f.clock ≤ e.clock) × IsLater es fs

pub later_front : (xs ys puts : List Envelope) → IsFront xs ys → IsLater ys puts → IsLater xs puts
later_front xs ys puts f h = go xs puts (subst (λ (l : List Envelope). IsLater l puts) f.1 h)
  where
    go : (xs puts : List Envelope) → IsLater (xs ++ f.0) puts → IsLater xs puts
    go [] puts k = tt
    go (x ∷ xs) [] k = k
    go (x ∷ xs) (y ∷ puts) k = (k.0, k.1, go xs puts k.2)

later_grow : (xs puts more : List Envelope) → IsFront puts more → IsLater xs puts → IsLater xs more
later_grow xs puts more f h = subst (λ (l : List Envelope). IsLater xs l) (sym f.1) (go xs puts h)
  where
    go : (xs puts : List Envelope) → IsLater xs puts → IsLater xs (puts ++ f.0)
    go [] puts k = tt
    go (x ∷ xs) [] k = elim k [ ]
    go (x ∷ xs) (y ∷ puts) k = (k.0, k.1, go xs puts k.2)

self_most : (n : ℕ) → n ≤ n
self_most n = grind arith

later_next : (xs puts : List Envelope) (e : Envelope) (tail : List Envelope) → IsLater xs puts → drop (length xs) puts ≡ e ∷ tail → IsLater (xs ++ e ∷ []) puts
later_next [] puts e tail h k = subst (λ (l : List Envelope). IsLater (e ∷ []) l) (sym k) (refl, self_most e.clock, tt)
later_next (x ∷ xs) [] e tail h k = h
later_next (x ∷ xs) (y ∷ puts) e tail h k = (h.0, h.1, later_next xs puts e tail h.2 k)

-- a message whose label is so far above the last one used at some clock: it was put no earlier than as far above that clock
abbrev pub late_one : ℕ → ℕ → ℕ → NodeParcel → Type 0
late_one clock used k (App label body) = clock + label ≤ k + used
late_one clock used k (Ask x kind label) = ⊥
late_one clock used k (Reply x w) = ⊥
late_one clock used k (Decide x c) = ⊥

abbrev pub AreLate : ℕ → ℕ → List Envelope → Type 0
AreLate clock used [] = Unit {0}
AreLate clock used (e ∷ es) = late_one clock used e.clock e.parcel × AreLate clock used es

-- or just as far
abbrev pub exact_one : ℕ → ℕ → ℕ → NodeParcel → Type 0
exact_one clock used k (App label body) = k + used ≡ clock + label
exact_one clock used k (Ask x kind label) = ⊥
exact_one clock used k (Reply x w) = ⊥
exact_one clock used k (Decide x c) = ⊥

abbrev pub AreExact : ℕ → ℕ → List Envelope → Type 0
AreExact clock used [] = Unit {0}
AreExact clock used (e ∷ es) = exact_one clock used e.clock e.parcel × AreExact clock used es

late_more : (clock used : ℕ) (xs ys : List Envelope) → AreLate clock used xs → AreLate clock used ys → AreLate clock used (xs ++ ys)
late_more clock used [] ys h k = k
late_more clock used (x ∷ xs) ys h k = (h.0, late_more clock used xs ys h.1 k)

exact_late : (clock used : ℕ) (xs : List Envelope) → AreExact clock used xs → AreLate clock used xs
exact_late clock used [] h = tt
exact_late clock used (e ∷ es) h = (one e.clock e.parcel h.0, exact_late clock used es h.1)
  where
    at_least : (c u k l : ℕ) → k + u ≡ c + l → c + l ≤ k + u
    at_least c u k l g = grind arith

    one : (k : ℕ) (x : NodeParcel) → exact_one clock used k x → late_one clock used k x
    one k (App label body) g = at_least clock used k label g
    one k (Ask x kind label) g = g
    one k (Reply x w) g = g
    one k (Decide x c) g = g

module _ (clock used : ℕ) where
  not_later : (j k : ℕ) (x : NodeParcel) → late_one clock used j x → exact_one clock used k x → k ≤ j
  not_later j k (App label body) h g = most clock used j k label h g
    where
      most : (c u j k l : ℕ) → c + l ≤ j + u → k + u ≡ c + l → k ≤ j
      most c u j k l a b = grind arith
  not_later j k (Ask x kind label) h g = elim h [ ]
  not_later j k (Reply x w) h g = elim h [ ]
  not_later j k (Decide x c) h g = elim h [ ]

  most_of : (a b c : ℕ) → a ≤ b → b ≤ c → a ≤ c
  most_of a b c f g = grind arith

  head_is : (u v : NodeParcel) (us vs : List NodeParcel) → u ∷ us ≡ v ∷ vs → u ≡ v
  head_is u v us vs e = cc (e)

  tail_is : (u v : NodeParcel) (us vs : List NodeParcel) → u ∷ us ≡ v ∷ vs → us ≡ vs
  tail_is u v us vs e = cc (e)

  -- what came of a late list is no earlier than the same messages of an exact one
  exact_later : (xs old new : List Envelope) → IsLater xs old → AreLate clock used old → IsFront (parcels xs) (parcels new) → AreExact clock used new → IsLater xs new
  exact_later [] old new h l f e = tt
  exact_later (x ∷ xs) [] new h l f e = elim h [ ]
  exact_later (x ∷ xs) (y ∷ old) [] h l f e = absurd (cc (f.1))
  exact_later (x ∷ xs) (y ∷ old) (z ∷ new) h l f e = let same_one : z.parcel ≡ x.parcel = head_is z.parcel x.parcel _ _ f.1 in (
    sym same_one,
    most_of z.clock y.clock x.clock (not_later y.clock z.clock z.parcel (subst (λ (k : NodeParcel). late_one clock used y.clock k) (sym (same_one ∙ h.0)) l.0) e.0) h.1,
    exact_later xs old new h.2 l.1 (f.0, tail_is _ _ _ _ f.1) e.1,
  )

  -- behind the same front
  with_front : (front xs old new : List Envelope) → IsLater xs (front ++ old) → AreLate clock used old → IsFront (parcels xs) (parcels (front ++ new)) → AreExact clock used new → IsLater xs (front ++ new)
  with_front [] xs old new h l f e = exact_later xs old new h l f e
  with_front (y ∷ front) [] old new h l f e = tt
  with_front (y ∷ front) (x ∷ xs) old new h l f e = (h.0, h.1, with_front front xs old new h.2 l (f.0, tail_is _ _ _ _ f.1) e)

  -- sends again are exact
  abbrev pub Puts : Holdings → Holdings → ℕ → Type 0
  Puts g h q = (rest : List Envelope) × (h.put q ≡ g.put q ++ rest) × AreExact clock used rest

  puts_then : (f g h : Holdings) (q : ℕ) → Puts f g q → Puts g h q → Puts f h q
  puts_then f g h q a b = (a.0 ++ b.0, b.1 ∙ ap (λ (l : List Envelope). l ++ b.0) a.1 ∙ append_assoc (f.put q) a.0 b.0, both a.0 b.0 a.2 b.2)
    where
      both : (xs ys : List Envelope) → AreExact clock used xs → AreExact clock used ys → AreExact clock used (xs ++ ys)
      both [] ys u v = v
      both (x ∷ xs) ys u v = (u.0, both xs ys u.1 v)

  abbrev pub IsExact : Holdings → Type 0
  IsExact g = (g.node.up ≡ true → g.clock + used ≡ clock + g.node.used) × (clock + g.node.used ≤ g.clock + used)

  again_one : (p : ℕ) (g : Holdings) (r : ℕ) (body : ℤ) → IsExact g → let h = sending_one p g (input_at g.node (protocol.Send p r body) []) in ((q : ℕ) → Puts g h q) × IsExact h
  again_one p g r body k = go (is_step g.node (Send r body)) refl g.node.up refl
    where
      none : (q : ℕ) → Puts g g q
      none q = ([], sym (append-nil (g.put q)), tt)

      next_exact : (c u a b : ℕ) → a + u ≡ c + b → (a + 1) + u ≡ c + (b + 1)
      next_exact c u a b h = grind arith

      next_most : (c u a b : ℕ) → c + b ≤ a + u → c + (b + 1) ≤ (a + 1) + u
      next_most c u a b h = grind arith

      next_same : (c u a b : ℕ) → c + b ≤ a + u → c + b ≤ (a + 1) + u
      next_same c u a b h = grind arith

      sent : (d : Doing) → node_after g.node (Send r body) ≡ d → Holdings
      sent d e = record { node = d.state; clock = g.clock + 1; rows = []; put = λ v. g.put v ++ map (envelope (g.clock + 1)) (d.puts v); took = λ u. [] }

      sends : g.node.up ≡ true → (q : ℕ) → (rest : List Envelope) × (g.put q ++ map (envelope (g.clock + 1)) ((sending g.node r body).puts q) ≡ g.put q ++ rest) × AreExact clock used rest
      sends up q = by_place (q == r)
        where
          by_place : (b : Bool) → (rest : List Envelope) × (g.put q ++ map (envelope (g.clock + 1)) (if b then App (g.node.used + 1) body ∷ [] else []) ≡ g.put q ++ rest) × AreExact clock used rest
          by_place true = (envelope (g.clock + 1) (App (g.node.used + 1) body) ∷ [], refl, (next_exact clock used g.clock g.node.used (k.0 up), tt))
          by_place false = ([], refl, tt)

      go : (a : Bool) → is_step g.node (Send r body) ≡ a → (b : Bool) → g.node.up ≡ b → let h = sending_one p g (if a then Some (Send r body) else None) in ((q : ℕ) → Puts g h q) × IsExact h
      go false e b u = (none, k)
      go true e true u = (
        (λ q. subst (λ (d : Doing). (rest : List Envelope) × (g.put q ++ map (envelope (g.clock + 1)) (d.puts q) ≡ g.put q ++ rest) × AreExact clock used rest) (sym does) (sends u q)),
        subst (λ (d : Doing). (d.state.up ≡ true → (g.clock + 1) + used ≡ clock + d.state.used) × (clock + d.state.used ≤ (g.clock + 1) + used)) (sym does)
            ((λ up. next_exact clock used g.clock g.node.used (k.0 up)), next_most clock used g.clock g.node.used k.1),
      )
        where
          does : node_after g.node (Send r body) ≡ sending g.node r body
          does = sends_so g.node r body (rw e u)
      go true e false u = (
        (λ q. ([], ap (λ (d : Doing). g.put q ++ map (envelope (g.clock + 1)) (d.puts q)) does, tt)),
        subst (λ (d : Doing). (d.state.up ≡ true → (g.clock + 1) + used ≡ clock + d.state.used) × (clock + d.state.used ≤ (g.clock + 1) + used)) (sym does)
            ((λ up. elim (clash g.node.up up u) [ ]), next_same clock used g.clock g.node.used k.1),
      )
        where
          does : node_after g.node (Send r body) ≡ refusing g.node verb.Send Down
          does = rw e (rw u refl)

  pub again_exact : (p : ℕ) (sends : List (ℕ × ℤ)) (g : Holdings) → IsExact g → ((q : ℕ) → Puts g (sending_again p g sends) q) × IsExact (sending_again p g sends)
  again_exact p [] g k = ((λ q. ([], sym (append-nil (g.put q)), tt)), k)
  again_exact p (x ∷ xs) g k = let one = again_one p g x.0 x.1 k in let h = sending_one p g (input_at g.node (protocol.Send p x.0 x.1) []) in let rest = again_exact p xs h one.1 in
      ((λ q. puts_then g h (sending_again p h xs) q (one.0 q) (rest.0 q)), rest.1)

-- of p: what was sent in its last life is what its disk has put and late messages
pub record Timed (w : KilledNet) (p : ℕ) : Type 0 where
  pub rest : ℕ → List Envelope
  pub is : (q : ℕ) → w.sent p (w.life p) q ≡ (w.disk p).put q ++ rest q
  pub late : (q : ℕ) → AreLate (w.disk p).clock (w.disk p).node.used (rest q)
  pub own : w.away p ≡ false → (w.disk p).clock + (w.memory p).node.used ≤ (w.memory p).clock + (w.disk p).node.used

abbrev pub AreTimed : KilledNet → Type 0
AreTimed w = (p : ℕ) → Timed w p

carry : (w new : KilledNet) (p : ℕ) → new.disk p ≡ w.disk p → new.memory p ≡ w.memory p → new.away p ≡ w.away p → ((q : ℕ) → new.sent p (new.life p) q ≡ w.sent p (w.life p) q) → Timed w p → Timed new p
carry w new p disk memory away sent t = record {
  rest = t.rest;
  is = λ q. sent q ∙ t.is q ∙ ap (λ (h : Holdings). h.put q ++ t.rest q) (sym disk);
  late = λ q. subst (λ (h : Holdings). AreLate h.clock h.node.used (t.rest q)) (sym disk) (t.late q);
  own = λ e. subst (λ (h : Holdings). h.clock + (new.memory p).node.used ≤ (new.memory p).clock + h.node.used) (sym disk)
      (subst (λ (h : Holdings). (w.disk p).clock + h.node.used ≤ h.clock + (w.disk p).node.used) (sym memory) (t.own (sym away ∙ e)));
}

-- what memory m has over a disk d
abbrev pub Over : Holdings → Holdings → Type 0
Over d m = ((q : ℕ) → (rest : List Envelope) × (m.put q ≡ d.put q ++ rest) × AreLate d.clock d.node.used rest) × (d.clock + m.node.used ≤ m.clock + d.node.used)

over_self : (h : Holdings) → Over h h
over_self h = ((λ q. ([], sym (append-nil (h.put q)), tt)), self_most _)

of_back : (n first : ℕ) (w : KilledNet) → IsHeld n first w → (p : ℕ) → w.away p ≡ false → Over (w.disk p) (w.memory p) → Timed w p
of_back n first w held p back o = record { rest = λ q. (o.0 q).0; is = λ q. held.sent p back q ∙ (o.0 q).1; late = λ q. (o.0 q).2; own = λ e. o.1 }

-- a step that is not written
over_step : (n p : ℕ) (d m : Holdings) (es : List Envelope) (i : Input) → QuietOrSends m.node i → Over d m → Over d (having_done p m es i)
over_step n p d m es i step o = elim step [
  | inl quiet ↦ (
    (λ q. ((o.0 q).0, ap (λ (l : List NodeParcel). m.put q ++ map (envelope (clock_after m.clock i es)) l) (quiet.1 q) ∙ append-nil (m.put q) ∙ (o.0 q).1, (o.0 q).2)),
    subst (λ (u : ℕ). d.clock + u ≤ clock_after m.clock i es + d.node.used) (sym quiet.0.2) (risen d.clock d.node.used m.clock (clock_after m.clock i es) m.node.used (clock_rises m.clock i es) o.1),
  )
  | inr sent ↦ subst (λ (j : Input). Over d (having_done p m es j)) (sym sent.2) (sends sent.0 sent.1 (sends_so m.node sent.0 sent.1 sent.3))
]
  where
    risen : (c u a b l : ℕ) → a + 1 ≤ b → c + l ≤ a + u → c + l ≤ b + u
    risen c u a b l h k = grind arith

    next_most : (c u a b : ℕ) → c + b ≤ a + u → c + (b + 1) ≤ (a + 1) + u
    next_most c u a b h = grind arith

    sends : (to : ℕ) (body : ℤ) → node_after m.node (Send to body) ≡ sending m.node to body → Over d (having_done p m es (Send to body))
    sends to body e = (
      (λ q. subst (λ (x : Doing). (rest : List Envelope) × (m.put q ++ map (envelope (m.clock + 1)) (x.puts q) ≡ d.put q ++ rest) × AreLate d.clock d.node.used rest) (sym e) (by_place q (q == to))),
      subst (λ (x : Doing). d.clock + x.state.used ≤ (m.clock + 1) + d.node.used) (sym e) (next_most d.clock d.node.used m.clock m.node.used o.1),
    )
      where
        by_place : (q : ℕ) (b : Bool) → (rest : List Envelope) × (m.put q ++ map (envelope (m.clock + 1)) (if b then App (m.node.used + 1) body ∷ [] else []) ≡ d.put q ++ rest) × AreLate d.clock d.node.used rest
        by_place q true = (
          (o.0 q).0 ++ envelope (m.clock + 1) (App (m.node.used + 1) body) ∷ [],
          ap (λ (l : List Envelope). l ++ envelope (m.clock + 1) (App (m.node.used + 1) body) ∷ []) (o.0 q).1 ∙ append_assoc (d.put q) (o.0 q).0 (envelope (m.clock + 1) (App (m.node.used + 1) body) ∷ []),
          late_more d.clock d.node.used (o.0 q).0 _ (o.0 q).2 (next_most d.clock d.node.used m.clock m.node.used o.1, tt),
        )
        by_place q false = ((o.0 q).0, append-nil (m.put q) ∙ (o.0 q).1, (o.0 q).2)

-- what was taken of each is later than what it sent in its last life
abbrev pub AreLater : KilledNet → Type 0
AreLater w = (p q : ℕ) → IsLater ((w.memory q).took p) (w.sent p (w.life p) q)

module _ (n first : ℕ) (w : KilledNet) (held : IsHeld n first w) (l : HasLost n w) (t : AreTimed w) (k : AreLater w) where
  is_over : (u : ℕ) → w.away u ≡ false → Over (w.disk u) (w.memory u)
  is_over u back = ((λ q. ((t u).rest q, sym (held.sent u back q) ∙ (t u).is q, (t u).late q)), (t u).own back)

  abbrev pub Goes : KilledNet → Type 0
  Goes new = AreTimed new × AreLater new

  module _ (u : ℕ) (back : w.away u ≡ false) (es : List Envelope) (i : Input) (from : IsBelow n (from_of i))
      (sent_to : (s : ℕ) → IsLater ((having_done u (w.memory u) es i).took s) (w.sent s (w.life s) u)) where
    abbrev pub g : Holdings
    g = having_done u (w.memory u) es i

    took_by : (p q : ℕ) → IsLater ((at_one u g w.memory q).took p) (w.sent p (w.life p) q)
    took_by p = at_each (λ q. IsLater ((at_one u g w.memory q).took p) (w.sent p (w.life p) q)) u (rw (is_same u) (sent_to p)) (λ q e. rw e (k p q))

    sent_by : (q p : ℕ) → IsFront (w.sent p (w.life p) q) ((having w u g).sent p (w.life p) q)
    sent_by q = at_each (λ p. IsFront (w.sent p (w.life p) q) ((having w u g).sent p (w.life p) q)) u
        (rw (is_same u) (rw (is_same (w.life u)) (subst (λ (x : List Envelope). IsFront x (g.put q)) (sym (held.sent u back q)) (front_more _ _ _ (front_refl ((w.memory u).put q))))))
        (λ p e. rw e (front_refl (w.sent p (w.life p) q)))

    later_step : AreLater (having w u g)
    later_step p q = later_grow _ _ _ (sent_by q p) (took_by p q)

    written_goes : IsHeld n first (written (having w u g) u) → Goes (written (having w u g) u)
    written_goes held_then = (
      at_each (Timed (written (having w u g) u)) u (of_back n first (written (having w u g) u) held_then u back (rw (is_same u) (over_self g)))
          (λ p e. carry w (written (having w u g) u) p (rw e refl) (rw e refl) refl (λ q. rw e refl) (t p)),
      later_step,
    )

    plain_goes : is_protocol (node_after (w.memory u).node i) ≡ false → IsHeld n first (having w u g) → Goes (having w u g)
    plain_goes plain held_then = (
      at_each (Timed (having w u g)) u (of_back n first (having w u g) held_then u back (rw (is_same u) (over_step n u (w.disk u) (w.memory u) es i (quiet_or_sends n u (w.memory u).node i (l u).memory from plain) (is_over u back))))
          (λ p e. carry w (having w u g) p refl (rw e refl) refl (λ q. rw e refl) (t p)),
      later_step,
    )

  stepping_goes : (u : ℕ) (es : List Envelope) (o : Option Input) → ((i : Input) → o ≡ Some i → IsBelow n (from_of i) × ((s : ℕ) → IsLater ((having_done u (w.memory u) es i).took s) (w.sent s (w.life s) u))) →
      IsHeld n first (stepping w u es o) → Goes (stepping w u es o)
  stepping_goes u es None so held_then = (t, k)
  stepping_goes u es (Some i) so held_then = by_away (w.away u) refl held_then
    where
      by_protocol : w.away u ≡ false → (b : Bool) → is_protocol (node_after (w.memory u).node i) ≡ b →
          IsHeld n first (if b then written (having w u (having_done u (w.memory u) es i)) u else having w u (having_done u (w.memory u) es i)) →
          Goes (if b then written (having w u (having_done u (w.memory u) es i)) u else having w u (having_done u (w.memory u) es i))
      by_protocol back true e after = written_goes u back es i (so i refl).0 (so i refl).1 after
      by_protocol back false e after = plain_goes u back es i (so i refl).0 (so i refl).1 e after

      by_away : (b : Bool) → w.away u ≡ b →
          IsHeld n first (if b then w else if is_protocol (node_after (w.memory u).node i) then written (having w u (having_done u (w.memory u) es i)) u else having w u (having_done u (w.memory u) es i)) →
          Goes (if b then w else if is_protocol (node_after (w.memory u).node i) then written (having w u (having_done u (w.memory u) es i)) u else having w u (having_done u (w.memory u) es i))
      by_away true e after = (t, k)
      by_away false e after = by_protocol e (is_protocol (node_after (w.memory u).node i)) refl after

  alone_sent : (u : ℕ) (i : Input) (s : ℕ) → IsLater ((having_done u (w.memory u) [] i).took s) (w.sent s (w.life s) u)
  alone_sent u i s = subst (λ (x : List Envelope). IsLater ((w.memory u).took s ++ x) (w.sent s (w.life s) u)) (sym (none_came i s))
      (subst (λ (x : List Envelope). IsLater x (w.sent s (w.life s) u)) (sym (append-nil ((w.memory u).took s))) (k s u))

  brought_sent : (u q : ℕ) (able : Bool) (life number : ℕ) (es : List Envelope) → brought w u q life number ≡ es → (i : Input) → front_input q able es ≡ Some i → (s : ℕ) → IsLater ((having_done u (w.memory u) es i).took s) (w.sent s (w.life s) u)
  brought_sent u q able life number [] h i f s = absurd (cc)
  brought_sent u q able life number (e ∷ more) h i f s = let b = from_brought n first w held u q life number e more h in
      subst (λ (x : List Envelope). IsLater ((having_done u (w.memory u) (e ∷ x) i).took s) (w.sent s (w.life s) u)) (sym b.1)
      (subst (λ (j : Input). IsLater ((having_done u (w.memory u) (e ∷ []) j).took s) (w.sent s (w.life s) u)) (some_is (input.Comes q able e.parcel) i f)
      (at_each (λ s. IsLater ((having_done u (w.memory u) (e ∷ []) (input.Comes q able e.parcel)).took s) (w.sent s (w.life s) u)) q
      (rw (is_same q) (later_next ((w.memory u).took q) (w.sent q (w.life q) u) e b.0 (k q u) b.3))
      (λ s n. rw n (subst (λ (x : List Envelope). IsLater x (w.sent s (w.life s) u)) (sym (append-nil ((w.memory u).took s))) (k s u))) s))

  writes_goes : (u : ℕ) → IsHeld n first (written w u) → Goes (written w u)
  writes_goes u held_then = (at_each (Timed (written w u)) u (own (w.away u) refl) (λ p e. carry w (written w u) p (rw e refl) refl refl (λ q. refl) (t p)), k)
    where
      own : (b : Bool) → w.away u ≡ b → Timed (written w u) u
      own true e = carry w (written w u) u (rw (is_same u) (held.away u e)) refl refl (λ q. refl) (t u)
      own false e = of_back n first (written w u) held_then u e (rw (is_same u) (over_self (w.memory u)))

  killed_goes : (u : ℕ) → Goes (happens w (Killed u))
  killed_goes u = (
    at_each (Timed (happens w (Killed u))) u
        (record { rest = (t u).rest; is = (t u).is; late = (t u).late; own = λ e. elim (clash (at_one u true w.away u) (rw (is_same u) refl) e) [ ] })
        (λ p e. carry w (happens w (Killed u)) p refl (rw e refl) (rw e refl) (λ q. refl) (t p)),
    (λ p. at_each (λ q. IsLater ((at_one u (w.disk u) w.memory q).took p) (w.sent p (w.life p) q)) u
        (rw (is_same u) (later_front ((w.disk u).took p) ((w.memory u).took p) (w.sent p (w.life p) u) ((held.owns u).took p) (k p u)))
        (λ q e. rw e (k p q))),
  )

  back_goes : (u : ℕ) (sends : List (ℕ × ℤ)) → w.away u ≡ true → KnowsWhatWasTaken w u (sending_again u (w.memory u) sends) → IsHeld n first (coming_back w u sends) → Goes (coming_back w u sends)
  back_goes u sends away right held_then = (
    at_each (Timed (coming_back w u sends)) u
        (of_back n first (coming_back w u sends) held_then u (rw (is_same u) refl) (rw (is_same u) (subst (λ (h : Holdings). Over h g) (held.away u away) over)))
        (λ p e. carry w (coming_back w u sends) p refl (rw e refl) (rw e refl) (λ q. rw e refl) (t p)),
    (λ p q. subst (λ (x : List Envelope). IsLater x ((coming_back w u sends).sent p ((coming_back w u sends).life p) q)) (sym (took_same p q)) (sent_later q p)),
  )
    where
      m : Holdings
      m = w.memory u

      g : Holdings
      g = sending_again u m sends

      exact : ((q : ℕ) → Puts m.clock m.node.used m g q) × IsExact m.clock m.node.used g
      exact = again_exact m.clock m.node.used u sends m ((λ up. refl), self_most _)

      over : Over m g
      over = ((λ q. ((exact.0 q).0, (exact.0 q).1, exact_late m.clock m.node.used (exact.0 q).0 (exact.0 q).2)), exact.1.1)

      took_same : (p q : ℕ) → (at_one u g w.memory q).took p ≡ (w.memory q).took p
      took_same p = at_each (λ q. (at_one u g w.memory q).took p ≡ (w.memory q).took p) u (rw (is_same u) (took_again u m sends p)) (λ q e. rw e refl)

      sent_own : (q : ℕ) → IsLater ((w.memory q).took u) (g.put q)
      sent_own q = subst (λ (x : List Envelope). IsLater ((w.memory q).took u) x) (sym (exact.0 q).1)
          (with_front m.clock m.node.used (m.put q) ((w.memory q).took u) ((t u).rest q) (exact.0 q).0
          (subst (λ (h : Holdings). IsLater ((w.memory q).took u) (h.put q ++ (t u).rest q)) (sym (held.away u away)) (subst (λ (x : List Envelope). IsLater ((w.memory q).took u) x) ((t u).is q) (k u q)))
          (subst (λ (h : Holdings). AreLate h.clock h.node.used ((t u).rest q)) (sym (held.away u away)) ((t u).late q))
          (subst (λ (x : List Envelope). IsFront (parcels ((w.memory q).took u)) (parcels x)) (exact.0 q).1 (right q))
          (exact.0 q).2)

      sent_later : (q p : ℕ) → IsLater ((w.memory q).took p) ((coming_back w u sends).sent p ((coming_back w u sends).life p) q)
      sent_later q = at_each (λ p. IsLater ((w.memory q).took p) ((coming_back w u sends).sent p ((coming_back w u sends).life p) q)) u
          (rw (is_same u) (rw (is_same (w.life u + 1)) (sent_own q))) (λ p e. rw e (k p q))

  pub goes_event : (e : KillEvent) → IsRight w e → Goes (happens w e)
  goes_event (Does x) right = stepping_goes (stepper x) [] (input_at (w.memory (stepper x)).node x [])
      (λ i f. (alone_from n first w held l (w.memory (stepper x)).node x i f, alone_sent (stepper x) i)) (held_event n first w held (Does x) right)
  goes_event (Brought u q able life number) right = stepping_goes u (brought w u q life number) (front_input q able (brought w u q life number))
      (λ i f. (brought_from n first w held l u q able life number (brought w u q life number) refl i f, brought_sent u q able life number (brought w u q life number) refl i f)) (held_event n first w held (Brought u q able life number) right)
  goes_event (Writes u) right = writes_goes u (held_event n first w held (Writes u) right)
  goes_event (Killed u) right = killed_goes u
  goes_event (Back u sends) right = by_away (w.away u) right.0 (held_event n first w held (Back u sends) right)
    where
      by_away : (b : Bool) → b ≡ true → IsHeld n first (if b then coming_back w u sends else w) → Goes (if b then coming_back w u sends else w)
      by_away true e held_then = back_goes u sends right.0 right.1 held_then
      by_away false e held_then = (t, k)

pub opening_timed : (n first : ℕ) → AreTimed (opening_killed n first) × AreLater (opening_killed n first)
opening_timed n first = ((λ p. record { rest = λ q. []; is = λ q. refl; late = λ q. tt; own = λ e. self_most _ }), λ p q. tt)
