-- Permanent checkpoints are written, and stay.
use Rattle.std.proofs.Common.{◌≡◌, ◌∙◌, ℕ, ℤ, Bool, true, false, Option, Some, None, List, [], ◌∷◌, ◌++◌, refl, sym, subst}
use Rattle.std.specs.Prelude.{◌==◌, if◌then◌else◌}
use Rattle.kt_machine.specs.Acts.{stepper}
use Rattle.kt_protocol.specs.States as protocol
use Rattle.kt_tables.specs.Calls.{Call}
use Rattle.kt_manager.specs.Nodes.{NodeState}
use Rattle.kt_node.specs.Inputs.{Input}
use Rattle.kt_node.specs.Inputs as input
use Rattle.kt_node.specs.NodeSteps.{is_step, node_after}
use Rattle.kt_node.specs.NodeHistories.{GoesOn, HasCheckpoints, histories}
use Rattle.kt_node.specs.Nets.{opening_net}
use Rattle.kt_node.specs.Clocks.{Envelope, input_at, front_input}
use Rattle.kt_kills.specs.Writing.{is_protocol}
use Rattle.kt_kills.specs.KilledNets.{Holdings, KilledNet, KillEvent, Does, Brought, Writes, Killed, Back, having_done, having, written, stepping, brought, sending_one, sending_again, coming_back, happens, killed_run, opening_killed}
use Rattle.kt_kills.specs.Standing.{killed_after, permanent_of}
use Rattle.kt_kills.proofs.PlainSteps.{plain_leaves, sent_leaves}
use Rattle.kt_kills.proofs.Basics.{same, is_same, front_refl, front_then, run_more}

module _
    (checks : (y : NodeState) (x : Input) → HasCheckpoints y → HasCheckpoints (node_after y x).state)
    (goes : (y : NodeState) (x : Input) → HasCheckpoints y → GoesOn (histories y.calls).permanent (histories (node_after y x).state.calls).permanent)
  where
    -- sends again leave it as it is
    one_again : (p : ℕ) (h : Holdings) (q : ℕ) (body : ℤ) → HasCheckpoints h.node → (b : Bool) →
        let g = sending_one p h (if b then Some (input.Send q body) else None) in (permanent_of g ≡ permanent_of h) × HasCheckpoints g.node
    one_again p h q body k true = (sent_leaves h.node q body, checks h.node (input.Send q body) k)
    one_again p h q body k false = (refl, k)

    again : (p : ℕ) (h : Holdings) (sends : List (ℕ × ℤ)) → HasCheckpoints h.node → (permanent_of (sending_again p h sends) ≡ permanent_of h) × HasCheckpoints (sending_again p h sends).node
    again p h [] k = (refl, k)
    again p h (x ∷ xs) k = let g = sending_one p h (input_at h.node (protocol.Send p x.0 x.1) []) in
        let one : (permanent_of g ≡ permanent_of h) × HasCheckpoints g.node = one_again p h x.0 x.1 k (is_step h.node (input.Send x.0 x.1)) in
        let rest : (permanent_of (sending_again p g xs) ≡ permanent_of g) × HasCheckpoints (sending_again p g xs).node = again p g xs one.1 in
        (rest.0 ∙ one.0, rest.1)

    -- of p: its permanent checkpoint is written, goes on from this one, and its node has checkpoints
    pub record Fine (before : List Call) (m d : Holdings) : Type 0 where
      pub same : permanent_of m ≡ permanent_of d
      pub goes_on : GoesOn before (permanent_of m)
      pub memory : HasCheckpoints m.node
      pub disk : HasCheckpoints d.node

    abbrev pub IsFine : List Call → KilledNet → ℕ → Type 0
    IsFine before w p = Fine before (w.memory p) (w.disk p)

    both : (before : List Call) (m d : Holdings) → Fine before m d → Fine before m m
    both before m d f = record { same = refl; goes_on = f.goes_on; memory = f.memory; disk = f.memory }

    killed : (before : List Call) (m d : Holdings) → Fine before m d → Fine before d d
    killed before m d f = record { same = refl; goes_on = subst (λ (l : List Call). GoesOn before l) f.same f.goes_on; memory = f.disk; disk = f.disk }

    plain : (before : List Call) (m d g : Holdings) → Fine before m d → permanent_of g ≡ permanent_of m → HasCheckpoints g.node → Fine before g d
    plain before m d g f e k = record { same = e ∙ f.same; goes_on = subst (λ (l : List Call). GoesOn before l) (sym e) f.goes_on; memory = k; disk = f.disk }

    done : (before : List Call) (p : ℕ) (m d : Holdings) (es : List Envelope) (i : Input) → Fine before m d → Fine before (having_done p m es i) (having_done p m es i)
    done before p m d es i f = record {
      same = refl;
      goes_on = front_then _ _ _ f.goes_on (goes m.node i f.memory);
      memory = checks m.node i f.memory;
      disk = checks m.node i f.memory;
    }

    module _ (before : List Call) (p : ℕ) where
      -- u's memory is changed, and its disk may be
      fine_at : (w : KilledNet) (u : ℕ) (g : Holdings) → (p ≡ u → Fine before g (w.disk p)) → IsFine before w p → IsFine before (having w u g) p
      fine_at w u g here there = go (p == u) refl
        where
          go : (a : Bool) → (p == u) ≡ a → Fine before (if a then g else w.memory p) (w.disk p)
          go true e = here (same p u e)
          go false e = there

      fine_written : (w : KilledNet) (u : ℕ) (g : Holdings) → (p ≡ u → Fine before g g) → IsFine before w p → IsFine before (written (having w u g) u) p
      fine_written w u g here there = go (p == u) refl
        where
          go : (a : Bool) → (p == u) ≡ a → Fine before (if a then g else w.memory p) (if a then (if u == u then g else w.memory u) else w.disk p)
          go true e = rw (is_same u) (here (same p u e))
          go false e = there

      -- what holds of p's holdings holds of u's, where p is u
      at : (w : KilledNet) (u : ℕ) → IsFine before w p → p ≡ u → IsFine before w u
      at w u k e = subst (λ (v : ℕ). IsFine before w v) e k

      fine_step : (w : KilledNet) (u : ℕ) (es : List Envelope) (o : Option Input) → IsFine before w p → IsFine before (stepping w u es o) p
      fine_step w u es None k = k
      fine_step w u es (Some i) k = by_away (w.away u)
        where
          by_protocol : (b : Bool) → is_protocol (node_after (w.memory u).node i) ≡ b → IsFine before (if b then written (having w u (having_done u (w.memory u) es i)) u else having w u (having_done u (w.memory u) es i)) p
          by_protocol true e = fine_written w u (having_done u (w.memory u) es i) (λ s. done before u (w.memory u) (w.disk u) es i (at w u k s)) k
          by_protocol false e = fine_at w u (having_done u (w.memory u) es i) (λ s. plain before (w.memory u) (w.disk p) (having_done u (w.memory u) es i)
              (subst (λ (v : ℕ). Fine before (w.memory v) (w.disk p)) s k) (plain_leaves (w.memory u).node i e) (checks (w.memory u).node i (at w u k s).memory)) k

          by_away : (b : Bool) → IsFine before (if b then w else if is_protocol (node_after (w.memory u).node i) then written (having w u (having_done u (w.memory u) es i)) u else having w u (having_done u (w.memory u) es i)) p
          by_away true = k
          by_away false = by_protocol (is_protocol (node_after (w.memory u).node i)) refl

      fine_back : (w : KilledNet) (u : ℕ) (sends : List (ℕ × ℤ)) → IsFine before w p → (b : Bool) → IsFine before (if b then coming_back w u sends else w) p
      fine_back w u sends k true = go (p == u) refl
        where
          go : (a : Bool) → (p == u) ≡ a → Fine before (if a then sending_again u (w.memory u) sends else w.memory p) (w.disk p)
          go true e = let f = again u (w.memory u) sends (at w u k (same p u e)).memory in
              plain before (w.memory u) (w.disk p) (sending_again u (w.memory u) sends) (subst (λ (v : ℕ). Fine before (w.memory v) (w.disk p)) (same p u e) k) f.0 f.1
          go false e = k
      fine_back w u sends k false = k

      fine_writes : (w : KilledNet) (u : ℕ) → IsFine before w p → IsFine before (written w u) p
      fine_writes w u k = go (p == u) refl
        where
          go : (a : Bool) → (p == u) ≡ a → Fine before (w.memory p) (if a then w.memory u else w.disk p)
          go true e = subst (λ (v : ℕ). Fine before (w.memory p) (w.memory v)) (same p u e) (both before (w.memory p) (w.disk p) k)
          go false e = k

      fine_killed : (w : KilledNet) (u : ℕ) → IsFine before w p → IsFine before (happens w (Killed u)) p
      fine_killed w u k = go (p == u) refl
        where
          go : (a : Bool) → (p == u) ≡ a → Fine before (if a then w.disk u else w.memory p) (w.disk p)
          go true e = subst (λ (v : ℕ). Fine before (w.disk v) (w.disk p)) (same p u e) (killed before (w.memory p) (w.disk p) k)
          go false e = k

      fine_event : (w : KilledNet) (e : KillEvent) → IsFine before w p → IsFine before (happens w e) p
      fine_event w (Does x) k = fine_step w (stepper x) [] (input_at (w.memory (stepper x)).node x []) k
      fine_event w (Brought u q able life number) k = fine_step w u (brought w u q life number) (front_input q able (brought w u q life number)) k
      fine_event w (Writes u) k = fine_writes w u k
      fine_event w (Killed u) k = fine_killed w u k
      fine_event w (Back u sends) k = fine_back w u sends k (w.away u)

      fine_run : (w : KilledNet) (es : List KillEvent) → IsFine before w p → IsFine before (killed_run w es) p
      fine_run w [] k = k
      fine_run w (e ∷ es) k = fine_run (happens w e) es (fine_event w e k)

    module _ (opens : (n first p : ℕ) → HasCheckpoints ((opening_net n first).nodes p)) where
      fine_opening : (n first p : ℕ) → IsFine [] (opening_killed n first) p
      fine_opening n first p = record { same = refl; goes_on = front_refl []; memory = opens n first p; disk = opens n first p }

      fine : (n first : ℕ) (es : List KillEvent) (p : ℕ) → IsFine [] (killed_after n first es) p
      fine n first es p = fine_run [] p (opening_killed n first) es (fine_opening n first p)

      pub permanent_written : (n first : ℕ) (es : List KillEvent) (p : ℕ) → permanent_of ((killed_after n first es).memory p) ≡ permanent_of ((killed_after n first es).disk p)
      permanent_written n first es p = (fine n first es p).same

      pub permanent_stays : (n first : ℕ) (es rest : List KillEvent) (p : ℕ) → GoesOn (permanent_of ((killed_after n first es).memory p)) (permanent_of ((killed_after n first (es ++ rest)).memory p))
      permanent_stays n first es rest p = let f = fine n first es p in let now = permanent_of ((killed_after n first es).memory p) in
          subst (λ (w : KilledNet). GoesOn now (permanent_of (w.memory p))) (run_more (opening_killed n first) es rest)
          ((fine_run now p (killed_after n first es) rest (record { same = f.same; goes_on = front_refl now; memory = f.memory; disk = f.disk })).goes_on)
