-- What was sent and not written is plain sends from what is written.
use Rattle.std.proofs.Common.{◌≡◌, ◌∙◌, ◌+◌, ℕ, ℤ, zero, suc, Bool, true, false, not, Option, Some, None, List, [], ◌∷◌, ◌++◌, ◌⊎◌, inl, inr, refl, arith, sym, ap, ap₂, subst, nat_lt}
use Rattle.std.specs.Prelude.{◌==◌, ◌&&◌, ◌||◌, is_none, if◌then◌else◌}
use Rattle.std.specs.List.{list_any}
use Rattle.std.proofs.lemmas.Bool.Decides.{nat_tests}
use Rattle.std.proofs.lemmas.List.{append-nil}
use Rattle.kt_meaning.specs.Past.{at_one}
use Rattle.kt_machine.specs.Acts.{stepper}
use Rattle.kt_protocol.specs.States.{ProtocolStep}
use Rattle.kt_protocol.specs.States as protocol
use Rattle.kt_spacetime.specs.declared.names.InstName.{InstName}
use Rattle.kt_base.specs.declared.words.Verb.TheVariants as verb
use Rattle.kt_spacetime.specs.declared.named_rows.NamedCause.TheVariants.{Down}
use Rattle.kt_manager.specs.declared.parcels.NodeParcel.{NodeParcel}
use Rattle.kt_manager.specs.declared.parcels.NodeParcel.TheVariants.{App}
use Rattle.kt_manager.specs.Nodes.{NodeState, NodeLists, Doing, nothing, is_in_rollback, with_one}
use Rattle.kt_node.specs.Inputs.{Input, Send, Begin, Fail, Held, Comes}
use Rattle.kt_manager.specs.NodeMessages.{sending, refusing}
use Rattle.kt_node.specs.NodeSteps.{is_step, node_after}
use Rattle.kt_node.specs.Nets.{has_some, opening_net}
use Rattle.kt_node.specs.Clocks.{Envelope, input_at, front_input}
use Rattle.kt_kills.specs.Writing.{is_no_message, puts_protocol, is_protocol}
use Rattle.kt_kills.specs.KilledNets.{Holdings, KilledNet, KillEvent, Does, Brought, Writes, Killed, Back, having_done, having, written, stepping, brought, sending_one, sending_again, coming_back, happens, killed_run, opening_killed}
use Rattle.kt_kills.specs.Starts.{parcels, IsRight, AreRight}
use Rattle.kt_kills.proofs.Basics.{same, is_same, clash, at_each}
use Rattle.kt_kills.proofs.PlainSteps.{from_of, IsAlike, Plain, alike_self, unsent, plain_step}
use Rattle.kt_kills.proofs.Parents.{IsBelow, IsOwn, nobody, stays_own}
use Rattle.kt_kills.proofs.NetGoes.{put_done}
use Rattle.kt_kills.proofs.Invariant.{IsHeld}
use Rattle.kt_kills.proofs.Law.{some_is, from_brought, held_event}
use Rattle.kt_kills.proofs.OpeningHeld.{opening_held}

-- who is put a parcel that is no message, and is there, makes it a protocol step
puts_some : (n q : ℕ) (puts : NodeLists) → nat_lt q n ≡ true → list_any is_no_message (puts q) ≡ true → puts_protocol n puts ≡ true
puts_some zero q puts below e = elim (clash (nat_lt q 0) below (none_below q)) [ ]
  where
    none_below : (q : ℕ) → nat_lt q 0 ≡ false
    none_below q = grind (arith, nat_tests)
puts_some (suc n) q puts below e = go (list_any is_no_message (puts n)) refl (q == n) refl (λ k. puts_some n q puts k e)
  where
    lower : (q n : ℕ) → nat_lt q (suc n) ≡ true → (q == n) ≡ false → nat_lt q n ≡ true
    lower q n h k = grind (arith, nat_tests)

    go : (a : Bool) → list_any is_no_message (puts n) ≡ a → (b : Bool) → (q == n) ≡ b → (nat_lt q n ≡ true → puts_protocol n puts ≡ true) → (a || puts_protocol n puts) ≡ true
    go true f b g rest = refl
    go false f true g rest = elim (clash (list_any is_no_message (puts n)) (subst (λ (v : ℕ). list_any is_no_message (puts v) ≡ true) (same q n g) e) f) [ ]
    go false f false g rest = rest (lower q n below g)

second : (a b : Bool) → (a || b) ≡ false → b ≡ true → ⊥
second true b f g = absurd (cc)
second false b f g = clash b g f

both_so : (a b : Bool) → (a && b) ≡ true → (a ≡ true) × (b ≡ true)
both_so true b e = (refl, e)
both_so false b e = absurd (cc)

-- a plain step that need not be written puts nothing
puts_none : (n p : ℕ) (y : NodeState) (i : Input) → IsOwn n p y → IsBelow n (from_of i) → (d : Doing) → Plain y i d → is_protocol d ≡ false → (q : ℕ) → d.puts q ≡ []
puts_none n p y i h from d plain e q = elim (plain.2 q) [
  | inl none ↦ none
  | inr some ↦ elim (second _ _ e (puts_some d.state.processes q d.puts (subst (λ (m : ℕ). nat_lt q m ≡ true) (sym (plain.1.0 ∙ h.0)) (elim some.1 [ inl f ↦ from q f | inr f ↦ h.2 q f ])) some.0)) [ ]
]

-- a step that is not written puts nothing, or sends a message
abbrev pub IsQuietStep : NodeState → Doing → Type 0
IsQuietStep y d = IsAlike y d.state × ((q : ℕ) → d.puts q ≡ [])

abbrev pub QuietOrSends : NodeState → Input → Type 0
QuietOrSends y i = IsQuietStep y (node_after y i) ⊎ ((to : ℕ) × (body : ℤ) × (i ≡ Send to body) × ((is_step y (Send to body) && y.up) ≡ true))

module _ (n p : ℕ) (y : NodeState) where
  quiet_step : (i : Input) → IsOwn n p y → IsBelow n (from_of i) → is_protocol (node_after y i) ≡ false → Plain y i (node_after y i) → QuietOrSends y i
  quiet_step i h from e plain = inl (plain.1, puts_none n p y i h from (node_after y i) plain e)

  pub quiet_or_sends : (i : Input) → IsOwn n p y → IsBelow n (from_of i) → is_protocol (node_after y i) ≡ false → QuietOrSends y i
  quiet_or_sends (Send q body) h from e = go (is_step y (Send q body) && y.up) refl
    where
      go : (b : Bool) → (is_step y (Send q body) && y.up) ≡ b → QuietOrSends y (Send q body)
      go true f = inr (q, body, refl, f)
      go false f = quiet_step (Send q body) h from e (unsent y q body f)
  quiet_or_sends (Begin roll able) h from e = quiet_step (Begin roll able) h from e (plain_step y (Begin roll able) (λ q body f. absurd (cc)) e)
  quiet_or_sends Fail h from e = quiet_step Fail h from e (plain_step y Fail (λ q body f. absurd (cc)) e)
  quiet_or_sends (Held q) h from e = quiet_step (Held q) h from e (plain_step y (Held q) (λ u body f. absurd (cc)) e)
  quiet_or_sends (Comes q able x) h from e = quiet_step (Comes q able x) h from e (plain_step y (Comes q able x) (λ u body f. absurd (cc)) e)

alike_then : (x y z : NodeState) → IsAlike x y → IsAlike y z → IsAlike x z
alike_then x y z f g = (g.0 ∙ f.0, g.1 ∙ f.1, g.2 ∙ f.2, g.3 ∙ f.3, λ e. f.4 (g.4 e))

-- a send that is made
pub sends_so : (y : NodeState) (q : ℕ) (body : ℤ) → (is_step y (Send q body) && y.up) ≡ true → node_after y (Send q body) ≡ sending y q body
sends_so y q body e = go (is_step y (Send q body)) y.up e
  where
    go : (a b : Bool) → (a && b) ≡ true → (if a then (if b then sending y q body else refusing y verb.Send Down) else nothing y) ≡ sending y q body
    go true true f = refl
    go true false f = absurd (cc)
    go false b f = absurd (cc)

-- is made by who is alike
step_alike : (y z : NodeState) (q : ℕ) (body : ℤ) → IsAlike y z → is_step z (Send q body) ≡ is_step y (Send q body)
step_alike y z q body f = ap (λ (n : ℕ). (nat_lt z.me n && nat_lt q n) && (is_none z.inst && not (q == z.me))) f.0
    ∙ ap (λ (m : ℕ). (nat_lt m y.processes && nat_lt q y.processes) && (is_none z.inst && not (q == m))) f.1
    ∙ ap (λ (o : Option InstName). (nat_lt y.me y.processes && nat_lt q y.processes) && (is_none o && not (q == y.me))) f.3

-- g has put what m has, and its node is alike
pub record IsPut (g m : Holdings) : Type 0 where
  pub puts : (q : ℕ) → parcels (g.put q) ≡ parcels (m.put q)
  pub alike : IsAlike g.node m.node

put_self : (h : Holdings) → IsPut h h
put_self h = record { puts = λ q. refl; alike = alike_self h.node }

again_more : (p : ℕ) (h : Holdings) (xs : List (ℕ × ℤ)) (q : ℕ) (body : ℤ) →
    sending_again p h (xs ++ (q, body) ∷ []) ≡ sending_one p (sending_again p h xs) (input_at (sending_again p h xs).node (protocol.Send p q body) [])
again_more p h [] q body = refl
again_more p h (x ∷ xs) q body = again_more p (sending_one p h (input_at h.node (protocol.Send p x.0 x.1) [])) xs q body

module _ (n p : ℕ) where
  -- it puts nothing
  put_plain : (g m : Holdings) (es : List Envelope) (i : Input) → IsPut g m → IsQuietStep m.node (node_after m.node i) → IsPut g (having_done p m es i)
  put_plain g m es i k quiet = record {
    puts = λ q. k.puts q ∙ sym (put_done p m es i q ∙ ap (λ (l : List NodeParcel). parcels (m.put q) ++ l) (quiet.1 q) ∙ append-nil (parcels (m.put q)));
    alike = alike_then g.node m.node (node_after m.node i).state k.alike quiet.0;
  }

  -- it sends
  put_sent : (g m : Holdings) (es : List Envelope) (q : ℕ) (body : ℤ) → IsPut g m → (is_step m.node (Send q body) && m.node.up) ≡ true →
      IsPut (sending_one p g (input_at g.node (protocol.Send p q body) [])) (having_done p m es (Send q body))
  put_sent g m es q body k e = subst (λ (o : Option Input). IsPut (sending_one p g o) (having_done p m es (Send q body))) (sym input) (record {
    puts = λ v. put_done p g [] (Send q body) v ∙ ap₂ (λ (a b : List NodeParcel). a ++ b) (k.puts v) (alike_puts v) ∙ sym (put_done p m es (Send q body) v);
    alike = subst (λ (d : Doing). IsAlike d.state (node_after m.node (Send q body)).state) (sym own)
        (subst (λ (d : Doing). IsAlike (sending g.node q body).state d.state) (sym (sends_so m.node q body e)) (k.alike.0, k.alike.1, ap (λ (l : ℕ). l + 1) k.alike.2, k.alike.3, k.alike.4));
  })
    where
      step : is_step g.node (Send q body) ≡ true
      step = sym (step_alike g.node m.node q body k.alike) ∙ (both_so _ _ e).0

      own : node_after g.node (Send q body) ≡ sending g.node q body
      own = sends_so g.node q body (rw step (k.alike.4 (both_so _ _ e).1))

      input : input_at g.node (protocol.Send p q body) [] ≡ Some (Send q body)
      input = rw step refl

      alike_puts : (v : ℕ) → (node_after g.node (Send q body)).puts v ≡ (node_after m.node (Send q body)).puts v
      alike_puts v = ap (λ (d : Doing). d.puts v) own ∙ ap (λ (l : ℕ). with_one q (App (l + 1) body) (λ u. []) v) (sym k.alike.2) ∙ sym (ap (λ (d : Doing). d.puts v) (sends_so m.node q body e))

  -- after a step that is not written some sends still do
  put_more : (d m : Holdings) (sends : List (ℕ × ℤ)) (es : List Envelope) (i : Input) → IsOwn n p m.node → IsBelow n (from_of i) → IsPut (sending_again p d sends) m → is_protocol (node_after m.node i) ≡ false →
      (more : List (ℕ × ℤ)) × IsPut (sending_again p d more) (having_done p m es i)
  put_more d m sends es i h from k e = elim (quiet_or_sends n p m.node i h from e) [
    | inl quiet ↦ (sends, put_plain (sending_again p d sends) m es i k quiet)
    | inr sent ↦ (
      sends ++ (sent.0, sent.1) ∷ [],
      subst (λ (j : Input). IsPut (sending_again p d (sends ++ (sent.0, sent.1) ∷ [])) (having_done p m es j)) (sym sent.2)
          (subst (λ (g : Holdings). IsPut g (having_done p m es (Send sent.0 sent.1))) (sym (again_more p d sends sent.0 sent.1)) (put_sent (sending_again p d sends) m es sent.0 sent.1 k sent.3)),
    )
  ]

  -- sends leave it the same process's
  one_own : (h : Holdings) (q : ℕ) (body : ℤ) (b : Bool) → IsOwn n p h.node → IsOwn n p (sending_one p h (if b then Some (Send q body) else None)).node
  one_own h q body true k = stays_own n p h.node k (Send q body) (λ u e. absurd (cc))
  one_own h q body false k = k

  again_own : (h : Holdings) (sends : List (ℕ × ℤ)) → IsOwn n p h.node → IsOwn n p (sending_again p h sends).node
  again_own h [] k = k
  again_own h (x ∷ xs) k = again_own (sending_one p h (input_at h.node (protocol.Send p x.0 x.1) [])) xs (one_own h x.0 x.1 (is_step h.node (Send x.0 x.1)) k)

-- what p sent in its last life is what its disk has and some plain sends more, of which its node is alike
pub record Lost (n : ℕ) (w : KilledNet) (p : ℕ) : Type 0 where
  pub sends : List (ℕ × ℤ)
  pub puts : (q : ℕ) → parcels ((sending_again p (w.disk p) sends).put q) ≡ parcels (w.sent p (w.life p) q)
  pub alike : w.away p ≡ false → IsAlike (sending_again p (w.disk p) sends).node (w.memory p).node
  pub disk : IsOwn n p (w.disk p).node
  pub memory : IsOwn n p (w.memory p).node

abbrev pub HasLost : ℕ → KilledNet → Type 0
HasLost n w = (p : ℕ) → Lost n w p

-- where nothing of p changed
carry : (n : ℕ) (w new : KilledNet) (p : ℕ) → new.disk p ≡ w.disk p → new.memory p ≡ w.memory p → new.away p ≡ w.away p → ((q : ℕ) → new.sent p (new.life p) q ≡ w.sent p (w.life p) q) → Lost n w p → Lost n new p
carry n w new p disk memory away sent l = record {
  sends = l.sends;
  puts = λ q. ap (λ (h : Holdings). parcels ((sending_again p h l.sends).put q)) disk ∙ l.puts q ∙ ap parcels (sym (sent q));
  alike = λ e. subst (λ (h : Holdings). IsAlike (sending_again p h l.sends).node (new.memory p).node) (sym disk)
      (subst (λ (h : Holdings). IsAlike (sending_again p (w.disk p) l.sends).node h.node) (sym memory) (l.alike (sym away ∙ e)));
  disk = subst (λ (h : Holdings). IsOwn n p h.node) (sym disk) l.disk;
  memory = subst (λ (h : Holdings). IsOwn n p h.node) (sym memory) l.memory;
}

-- of who is back
of_back : (n first : ℕ) (w : KilledNet) → IsHeld n first w → (p : ℕ) → w.away p ≡ false → (sends : List (ℕ × ℤ)) → IsPut (sending_again p (w.disk p) sends) (w.memory p) → IsOwn n p (w.disk p).node → IsOwn n p (w.memory p).node → Lost n w p
of_back n first w held p back sends k disk memory = record {
  sends = sends;
  puts = λ q. k.puts q ∙ ap parcels (sym (held.sent p back q));
  alike = λ e. k.alike;
  disk = disk;
  memory = memory;
}

module _ (n first : ℕ) (w : KilledNet) (held : IsHeld n first w) (l : HasLost n w) where
  is_put : (u : ℕ) → w.away u ≡ false → IsPut (sending_again u (w.disk u) (l u).sends) (w.memory u)
  is_put u back = record { puts = λ q. (l u).puts q ∙ ap parcels (held.sent u back q); alike = (l u).alike back }

  module _ (u : ℕ) (back : w.away u ≡ false) (es : List Envelope) (i : Input) (from : IsBelow n (from_of i)) where
    abbrev pub g : Holdings
    g = having_done u (w.memory u) es i

    g_own : IsOwn n u g.node
    g_own = stays_own n u (w.memory u).node (l u).memory i from

    written_lost : IsHeld n first (written (having w u g) u) → (p : ℕ) → Lost n (written (having w u g) u) p
    written_lost held_then p = at_each (Lost n (written (having w u g) u)) u
        (of_back n first (written (having w u g) u) held_then u back [] (rw (is_same u) (put_self g)) (rw (is_same u) g_own) (rw (is_same u) g_own))
        (λ p e. carry n w (written (having w u g) u) p (rw e refl) (rw e refl) refl (λ q. rw e refl) (l p)) p

    plain_lost : is_protocol (node_after (w.memory u).node i) ≡ false → IsHeld n first (having w u g) → (p : ℕ) → Lost n (having w u g) p
    plain_lost plain held_then p = let more = put_more n u (w.disk u) (w.memory u) (l u).sends es i (l u).memory from (is_put u back) plain in
        at_each (Lost n (having w u g)) u
        (of_back n first (having w u g) held_then u back more.0 (rw (is_same u) more.1) (l u).disk (rw (is_same u) g_own))
        (λ p e. carry n w (having w u g) p refl (rw e refl) refl (λ q. rw e refl) (l p)) p

  stepping_lost : (u : ℕ) (es : List Envelope) (o : Option Input) → ((i : Input) → o ≡ Some i → IsBelow n (from_of i)) → IsHeld n first (stepping w u es o) → (p : ℕ) → Lost n (stepping w u es o) p
  stepping_lost u es None from held_then = l
  stepping_lost u es (Some i) from held_then = by_away (w.away u) refl held_then
    where
      by_protocol : w.away u ≡ false → (b : Bool) → is_protocol (node_after (w.memory u).node i) ≡ b →
          IsHeld n first (if b then written (having w u (having_done u (w.memory u) es i)) u else having w u (having_done u (w.memory u) es i)) → (p : ℕ) →
          Lost n (if b then written (having w u (having_done u (w.memory u) es i)) u else having w u (having_done u (w.memory u) es i)) p
      by_protocol back true e held_then = written_lost u back es i (from i refl) held_then
      by_protocol back false e held_then = plain_lost u back es i (from i refl) e held_then

      by_away : (b : Bool) → w.away u ≡ b →
          IsHeld n first (if b then w else if is_protocol (node_after (w.memory u).node i) then written (having w u (having_done u (w.memory u) es i)) u else having w u (having_done u (w.memory u) es i)) → (p : ℕ) →
          Lost n (if b then w else if is_protocol (node_after (w.memory u).node i) then written (having w u (having_done u (w.memory u) es i)) u else having w u (having_done u (w.memory u) es i)) p
      by_away true e held_then = l
      by_away false e held_then = by_protocol e (is_protocol (node_after (w.memory u).node i)) refl held_then

  writes_lost : (u : ℕ) → IsHeld n first (written w u) → (p : ℕ) → Lost n (written w u) p
  writes_lost u held_then p = at_each (Lost n (written w u)) u (own (w.away u) refl) (λ p e. carry n w (written w u) p (rw e refl) refl refl (λ q. refl) (l p)) p
    where
      own : (b : Bool) → w.away u ≡ b → Lost n (written w u) u
      own true e = carry n w (written w u) u (rw (is_same u) (held.away u e)) refl refl (λ q. refl) (l u)
      own false e = of_back n first (written w u) held_then u e [] (rw (is_same u) (put_self (w.memory u))) (rw (is_same u) (l u).memory) (l u).memory

  killed_lost : (u p : ℕ) → Lost n (happens w (Killed u)) p
  killed_lost u p = at_each (Lost n (happens w (Killed u))) u
      (record { sends = (l u).sends; puts = (l u).puts; alike = λ e. elim (clash (at_one u true w.away u) (rw (is_same u) refl) e) [ ]; disk = (l u).disk; memory = rw (is_same u) (l u).disk })
      (λ p e. carry n w (happens w (Killed u)) p refl (rw e refl) (rw e refl) (λ q. refl) (l p)) p

  back_lost : (u : ℕ) (sends : List (ℕ × ℤ)) → w.away u ≡ true → IsHeld n first (coming_back w u sends) → (p : ℕ) → Lost n (coming_back w u sends) p
  back_lost u sends away held_then p = at_each (Lost n (coming_back w u sends)) u
      (of_back n first (coming_back w u sends) held_then u (rw (is_same u) refl) sends
      (rw (is_same u) (subst (λ (h : Holdings). IsPut (sending_again u h sends) (sending_again u (w.memory u) sends)) (held.away u away) (put_self (sending_again u (w.memory u) sends))))
      (l u).disk (rw (is_same u) (again_own n u (w.memory u) sends (l u).memory)))
      (λ p e. carry n w (coming_back w u sends) p refl (rw e refl) (rw e refl) (λ q. rw e refl) (l p)) p

  -- nothing comes to who makes a step alone
  pub alone_from : (y : NodeState) (x : ProtocolStep) (i : Input) → input_at y x [] ≡ Some i → IsBelow n (from_of i)
  alone_from y (protocol.Send p q body) i e = sent (is_step y (Send q body)) e
    where
      sent : (b : Bool) → (if b then Some (Send q body) else None) ≡ Some i → IsBelow n (from_of i)
      sent true f = subst (λ (j : Input). IsBelow n (from_of j)) (some_is (Send q body) i f) (nobody n)
      sent false f = absurd (cc)
  alone_from y (protocol.Begin p roll able) i e = subst (λ (j : Input). IsBelow n (from_of j)) (some_is (Begin roll able) i e) (nobody n)
  alone_from y (protocol.Fail p) i e = subst (λ (j : Input). IsBelow n (from_of j)) (some_is Fail i e) (nobody n)
  alone_from y (protocol.Take p q able) i e = held_one (not (is_in_rollback y) && has_some (y.held q)) e
    where
      held_one : (b : Bool) → (if b then Some (Held q) else None) ≡ Some i → IsBelow n (from_of i)
      held_one true f = subst (λ (j : Input). IsBelow n (from_of j)) (some_is (Held q) i f) (nobody n)
      held_one false f = absurd (cc)

  pub brought_from : (u q : ℕ) (able : Bool) (life number : ℕ) (es : List Envelope) → brought w u q life number ≡ es → (i : Input) → front_input q able es ≡ Some i → IsBelow n (from_of i)
  brought_from u q able life number [] h i f = absurd (cc)
  brought_from u q able life number (e ∷ more) h i f = subst (λ (j : Input). IsBelow n (from_of j)) (some_is (Comes q able e.parcel) i f)
      (λ v k. subst (λ (x : ℕ). nat_lt x n ≡ true) (some_is q v k) (subst (λ (m : ℕ). nat_lt q m ≡ true) (l u).memory.0 (from_brought n first w held u q life number e more h).4))

  pub lost_event : (e : KillEvent) → IsRight w e → HasLost n (happens w e)
  lost_event (Does x) right = stepping_lost (stepper x) [] (input_at (w.memory (stepper x)).node x []) (alone_from (w.memory (stepper x)).node x) (held_event n first w held (Does x) right)
  lost_event (Brought u q able life number) right = stepping_lost u (brought w u q life number) (front_input q able (brought w u q life number)) (brought_from u q able life number (brought w u q life number) refl) (held_event n first w held (Brought u q able life number) right)
  lost_event (Writes u) right = writes_lost u (held_event n first w held (Writes u) right)
  lost_event (Killed u) right = killed_lost u
  lost_event (Back u sends) right = by_away (w.away u) right.0 (held_event n first w held (Back u sends) right)
    where
      by_away : (b : Bool) → b ≡ true → IsHeld n first (if b then coming_back w u sends else w) → HasLost n (if b then coming_back w u sends else w)
      by_away true e held_then = back_lost u sends right.0 held_then
      by_away false e held_then = l

lost_run : (n first : ℕ) (w : KilledNet) (es : List KillEvent) → AreRight w es → IsHeld n first w → HasLost n w → HasLost n (killed_run w es)
lost_run n first w [] right held l = l
lost_run n first w (e ∷ es) right held l = lost_run n first (happens w e) es right.1 (held_event n first w held e right.0) (lost_event n first w held l e right.0)

pub opening_lost : (n first : ℕ) → HasLost n (opening_killed n first)
opening_lost n first p = record { sends = []; puts = λ q. refl; alike = λ e. alike_self ((opening_net n first).nodes p); disk = (refl, refl, λ q e. absurd (cc)); memory = (refl, refl, λ q e. absurd (cc)) }

-- after every list of events
pub lost : (n first : ℕ) (es : List KillEvent) → AreRight (opening_killed n first) es → HasLost n (killed_run (opening_killed n first) es)
lost n first es right = lost_run n first (opening_killed n first) es right (opening_held n first) (opening_lost n first)
