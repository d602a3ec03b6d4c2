-- What is written stands.
use Rattle.std.proofs.Common.{◌≡◌, ℕ, ℤ, Bool, true, false, Option, Some, None, List, [], ◌∷◌, ◌++◌, refl, subst}
use Rattle.std.specs.Prelude.{◌==◌, if◌then◌else◌}
use Rattle.kt_meaning.specs.Past.{at_one}
use Rattle.kt_machine.specs.Acts.{stepper}
use Rattle.kt_protocol.specs.States as protocol
use Rattle.kt_node.specs.Inputs.{Input}
use Rattle.kt_node.specs.NodeSteps.{node_after}
use Rattle.kt_node.specs.Clocks.{Envelope, input_at, front_input}
use Rattle.kt_kills.specs.Writing.{is_protocol}
use Rattle.kt_kills.specs.KilledNets.{Holdings, KilledNet, KillEvent, Does, Brought, Writes, Killed, Back, having_done, having, written, stepping, brought, sending_one, sending_again, coming_back, happens, killed_run, opening_killed}
use Rattle.kt_kills.specs.Standing.{killed_after, StandsIn}
use Rattle.kt_kills.proofs.Basics.{same, front_refl, front_more, run_more}

pub stands_refl : (h : Holdings) → StandsIn h h
stands_refl h = record { rows = front_refl h.rows; put = λ q. front_refl (h.put q); took = λ q. front_refl (h.took q) }

stands_done : (h g : Holdings) (p : ℕ) (es : List Envelope) (i : Input) → StandsIn h g → StandsIn h (having_done p g es i)
stands_done h g p es i s = record {
  rows = front_more _ _ _ s.rows;
  put = λ q. front_more _ _ _ (s.put q);
  took = λ q. front_more _ _ _ (s.took q);
}

stands_one : (h g : Holdings) (p : ℕ) (o : Option Input) → StandsIn h g → StandsIn h (sending_one p g o)
stands_one h g p None s = s
stands_one h g p (Some i) s = stands_done h g p [] i s

pub stands_again : (h : Holdings) (p : ℕ) (g : Holdings) (sends : List (ℕ × ℤ)) → StandsIn h g → StandsIn h (sending_again p g sends)
stands_again h p g [] s = s
stands_again h p g (x ∷ xs) s = stands_again h p (sending_one p g (input_at g.node (protocol.Send p x.0 x.1) [])) xs (stands_one h g p (input_at g.node (protocol.Send p x.0 x.1) []) s)

-- at a place where a value was changed, or not
at_case : {X : Type 0} (P : X → Type 0) (u p : ℕ) (x : X) (f : ℕ → X) → (p ≡ u → P x) → P (f p) → P (at_one u x f p)
at_case {X} P u p x f here there = go (p == u) refl
  where
    go : (a : Bool) → (p == u) ≡ a → P (if a then x else f p)
    go true e = here (same p u e)
    go false e = there

-- h stands on p's disk and in its memory
pub record Keeps (h : Holdings) (w : KilledNet) (p : ℕ) : Type 0 where
  pub disk : StandsIn h (w.disk p)
  pub memory : StandsIn h (w.memory p)

module _ (h : Holdings) (p : ℕ) where
  keeps_having : (w : KilledNet) (u : ℕ) (g : Holdings) → (p ≡ u → StandsIn h g) → Keeps h w p → Keeps h (having w u g) p
  keeps_having w u g s k = record { disk = k.disk; memory = at_case (StandsIn h) u p g w.memory s k.memory }

  keeps_written : (w : KilledNet) (u : ℕ) → Keeps h w p → Keeps h (written w u) p
  keeps_written w u k = record { disk = at_case (StandsIn h) u p (w.memory u) w.disk (λ e. subst (λ (q : ℕ). StandsIn h (w.memory q)) e k.memory) k.disk; memory = k.memory }

  keeps_step : (w : KilledNet) (u : ℕ) (es : List Envelope) (o : Option Input) → Keeps h w p → Keeps h (stepping w u es o) p
  keeps_step w u es None k = k
  keeps_step w u es (Some i) k = by_away (w.away u)
    where
      now : Keeps h (having w u (having_done u (w.memory u) es i)) p
      now = keeps_having w u _ (λ e. stands_done h (w.memory u) u es i (subst (λ (q : ℕ). StandsIn h (w.memory q)) e k.memory)) k

      by_protocol : (b : Bool) → Keeps h (if b then written (having w u (having_done u (w.memory u) es i)) u else having w u (having_done u (w.memory u) es i)) p
      by_protocol true = keeps_written _ u now
      by_protocol false = now

      by_away : (b : Bool) → Keeps h (if b then w else if is_protocol (node_after (w.memory u).node i) then written (having w u (having_done u (w.memory u) es i)) u else having w u (having_done u (w.memory u) es i)) p
      by_away true = k
      by_away false = by_protocol (is_protocol (node_after (w.memory u).node i))

  keeps_back : (w : KilledNet) (u : ℕ) (sends : List (ℕ × ℤ)) → Keeps h w p → (b : Bool) → Keeps h (if b then coming_back w u sends else w) p
  keeps_back w u sends k true = record {
    disk = k.disk;
    memory = at_case (StandsIn h) u p _ w.memory (λ e. stands_again h u (w.memory u) sends (subst (λ (q : ℕ). StandsIn h (w.memory q)) e k.memory)) k.memory;
  }
  keeps_back w u sends k false = k

  keeps_event : (w : KilledNet) (e : KillEvent) → Keeps h w p → Keeps h (happens w e) p
  keeps_event w (Does x) k = keeps_step w (stepper x) [] (input_at (w.memory (stepper x)).node x []) k
  keeps_event w (Brought u q able life number) k = keeps_step w u (brought w u q life number) (front_input q able (brought w u q life number)) k
  keeps_event w (Writes u) k = keeps_written w u k
  keeps_event w (Killed u) k = record {
    disk = k.disk;
    memory = at_case (StandsIn h) u p (w.disk u) w.memory (λ e. subst (λ (q : ℕ). StandsIn h (w.disk q)) e k.disk) k.memory;
  }
  keeps_event w (Back u sends) k = keeps_back w u sends k (w.away u)

  keeps_run : (w : KilledNet) (es : List KillEvent) → Keeps h w p → Keeps h (killed_run w es) p
  keeps_run w [] k = k
  keeps_run w (e ∷ es) k = keeps_run (happens w e) es (keeps_event w e k)

-- what p's disk has stands in its memory
abbrev pub Owns : KilledNet → ℕ → Type 0
Owns w p = StandsIn (w.disk p) (w.memory p)

module _ (p : ℕ) where
  owns_having : (w : KilledNet) (u : ℕ) (g : Holdings) → (p ≡ u → StandsIn (w.disk p) g) → Owns w p → Owns (having w u g) p
  owns_having w u g s k = at_case (StandsIn (w.disk p)) u p g w.memory s k

  owns_written : (w : KilledNet) (u : ℕ) → Owns w p → Owns (written w u) p
  owns_written w u k = at_case (λ (h : Holdings). StandsIn h (w.memory p)) u p (w.memory u) w.disk (λ e. subst (λ (q : ℕ). StandsIn (w.memory q) (w.memory p)) e (stands_refl (w.memory p))) k

  owns_step : (w : KilledNet) (u : ℕ) (es : List Envelope) (o : Option Input) → Owns w p → Owns (stepping w u es o) p
  owns_step w u es None k = k
  owns_step w u es (Some i) k = by_away (w.away u)
    where
      now : Owns (having w u (having_done u (w.memory u) es i)) p
      now = owns_having w u _ (λ e. stands_done (w.disk p) (w.memory u) u es i (subst (λ (q : ℕ). StandsIn (w.disk p) (w.memory q)) e k)) k

      by_protocol : (b : Bool) → Owns (if b then written (having w u (having_done u (w.memory u) es i)) u else having w u (having_done u (w.memory u) es i)) p
      by_protocol true = owns_written (having w u (having_done u (w.memory u) es i)) u now
      by_protocol false = now

      by_away : (b : Bool) → Owns (if b then w else if is_protocol (node_after (w.memory u).node i) then written (having w u (having_done u (w.memory u) es i)) u else having w u (having_done u (w.memory u) es i)) p
      by_away true = k
      by_away false = by_protocol (is_protocol (node_after (w.memory u).node i))

  owns_back : (w : KilledNet) (u : ℕ) (sends : List (ℕ × ℤ)) → Owns w p → (b : Bool) → Owns (if b then coming_back w u sends else w) p
  owns_back w u sends k true = at_case (StandsIn (w.disk p)) u p _ w.memory (λ e. stands_again (w.disk p) u (w.memory u) sends (subst (λ (q : ℕ). StandsIn (w.disk p) (w.memory q)) e k)) k
  owns_back w u sends k false = k

  pub owns_event : (w : KilledNet) (e : KillEvent) → Owns w p → Owns (happens w e) p
  owns_event w (Does x) k = owns_step w (stepper x) [] (input_at (w.memory (stepper x)).node x []) k
  owns_event w (Brought u q able life number) k = owns_step w u (brought w u q life number) (front_input q able (brought w u q life number)) k
  owns_event w (Writes u) k = owns_written w u k
  owns_event w (Killed u) k = at_case (StandsIn (w.disk p)) u p (w.disk u) w.memory (λ e. subst (λ (q : ℕ). StandsIn (w.disk p) (w.disk q)) e (stands_refl (w.disk p))) k
  owns_event w (Back u sends) k = owns_back w u sends k (w.away u)

  owns_run : (w : KilledNet) (es : List KillEvent) → Owns w p → Owns (killed_run w es) p
  owns_run w [] k = k
  owns_run w (e ∷ es) k = owns_run (happens w e) es (owns_event w e k)

pub stands : (n first : ℕ) (es more : List KillEvent) (p : ℕ) → StandsIn ((killed_after n first es).disk p) ((killed_after n first (es ++ more)).memory p)
stands n first es more p = subst (λ (w : KilledNet). StandsIn ((killed_after n first es).disk p) (w.memory p)) (run_more (opening_killed n first) es more)
    ((keeps_run ((killed_after n first es).disk p) p (killed_after n first es) more (record { disk = stands_refl _; memory = owns_run p (opening_killed n first) es (stands_refl _) })).memory)
