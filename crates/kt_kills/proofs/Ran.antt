-- What processes have after a run of a net, and after one more step of it.
use Rattle.std.proofs.Common.{◌≡◌, ℕ, ℤ, Bool, true, false, not, Option, Some, None, List, [], ◌∷◌, ◌++◌, refl, sym, ap, subst}
use Rattle.std.specs.Prelude.{◌==◌, ◌&&◌, if◌then◌else◌}
use Rattle.kt_meaning.specs.Past.{at_one}
use Rattle.kt_protocol.specs.States.{ProtocolStep, Send, Begin, Fail, Take}
use Rattle.kt_machine.specs.Acts.{stepper}
use Rattle.kt_spacetime.specs.ClockedRows.{without_clocks}
use Rattle.kt_manager.specs.declared.parcels.NodeParcel.{NodeParcel}
use Rattle.kt_manager.specs.Nodes.{NodeState, is_in_rollback}
use Rattle.kt_node.specs.Inputs.{Input}
use Rattle.kt_node.specs.Inputs as input
use Rattle.kt_node.specs.NodeSteps.{is_step, node_after}
use Rattle.kt_node.specs.Nets.{Net, with_doing, with_rest, has_some, net_step, net_run, opening_net}
use Rattle.kt_node.specs.Clocks.{Envelope, input_at}
use Rattle.kt_kills.specs.KilledNets.{Holdings, came_of, having_done, sending_one, sending_again}
use Rattle.kt_kills.specs.Starts.{parcels}
use Rattle.kt_kills.specs.Standing.{IsNet, rows_by}
use Rattle.kt_kills.proofs.NetGoes.{net_goes}
use Rattle.kt_kills.proofs.Basics.{same, is_same, at_own}

-- a net's run has this
abbrev pub Ran : ℕ → ℕ → (ℕ → Holdings) → Type 0
Ran n first have = (steps : List ProtocolStep) × IsNet have (net_run (opening_net n first) steps)

pub run_one : (w : Net) (steps : List ProtocolStep) (x : ProtocolStep) → net_step (net_run w steps) x ≡ net_run w (steps ++ x ∷ [])
run_one w [] x = refl
run_one w (y ∷ steps) x = run_one (net_step w y) steps x

pub alike_net : (have other : ℕ → Holdings) (net : Net) → ((p : ℕ) → have p ≡ other p) → IsNet have net → IsNet other net
alike_net have other net e k = record {
  nodes = λ p. subst (λ (h : Holdings). h.node ≡ net.nodes p) (e p) (k.nodes p);
  rows = λ p. subst (λ (h : Holdings). without_clocks h.rows ≡ rows_by p net.rows) (e p) (k.rows p);
  channels = λ p q. subst (λ (h : Holdings). parcels (h.put q) ≡ parcels ((other q).took p) ++ net.channel p q) (e p)
      (subst (λ (h : Holdings). parcels ((have p).put q) ≡ parcels (h.took p) ++ net.channel p q) (e q) (k.channels p q));
}

pub alike : (n first : ℕ) (have other : ℕ → Holdings) → ((p : ℕ) → have p ≡ other p) → Ran n first have → Ran n first other
alike n first have other e r = (r.0, alike_net have other (net_run (opening_net n first) r.0) e r.1)

-- p does this at an input
abbrev pub after : (ℕ → Holdings) → ℕ → List Envelope → Input → ℕ → Holdings
after have p es i = at_one p (having_done p (have p) es i) have

nothing_comes : (b : Bool) (l : List NodeParcel) → l ≡ (if b then [] else []) ++ l
nothing_comes true l = refl
nothing_comes false l = refl

-- an input for which nothing came: a command, or what it holds
pub command : (have : ℕ → Holdings) (net : Net) (p : ℕ) (i : Input) → ((u : ℕ) → came_of i u [] ≡ []) → IsNet have net → IsNet (after have p [] i) (with_doing net p (node_after (net.nodes p) i))
command have net p i none k = subst (λ (y : NodeState). IsNet (after have p [] i) (with_doing net p (node_after y i))) (k.nodes p)
    (net_goes have net p [] i net.channel k (λ u v. rw (none u) (nothing_comes (v == p) (net.channel u v))))

more : (n first : ℕ) (have other : ℕ → Holdings) (r : Ran n first have) (x : ProtocolStep) → IsNet other (net_step (net_run (opening_net n first) r.0) x) → Ran n first other
more n first have other r x k = (r.0 ++ x ∷ [], subst (λ (w : Net). IsNet other w) (run_one (opening_net n first) r.0 x) k)

-- what a process has after an input, if there is one
abbrev pub after_any : (ℕ → Holdings) → ℕ → List Envelope → Option Input → ℕ → Holdings
after_any have p es None = have
after_any have p es (Some i) = after have p es i

pub goes_alone : (n first : ℕ) (have : ℕ → Holdings) (x : ProtocolStep) → Ran n first have → Ran n first (after_any have (stepper x) [] (input_at (have (stepper x)).node x []))
goes_alone n first have (Send p q body) r = go (is_step (have p).node (input.Send q body))
  where
    go : (b : Bool) → Ran n first (after_any have p [] (if b then Some (input.Send q body) else None))
    go true = more n first have _ r (Send p q body) (command have (net_run (opening_net n first) r.0) p (input.Send q body) (λ u. refl) r.1)
    go false = r
goes_alone n first have (Begin p roll able) r = more n first have _ r (Begin p roll able) (command have (net_run (opening_net n first) r.0) p (input.Begin roll able) (λ u. refl) r.1)
goes_alone n first have (Fail p) r = more n first have _ r (Fail p) (command have (net_run (opening_net n first) r.0) p input.Fail (λ u. refl) r.1)
goes_alone n first have (Take p q able) r = go (not (is_in_rollback (have p).node) && has_some ((have p).node.held q)) refl
  where
    go : (b : Bool) → (not (is_in_rollback (have p).node) && has_some ((have p).node.held q)) ≡ b → Ran n first (after_any have p [] (if b then Some (input.Held q) else None))
    go true e = more n first have _ r (Take p q able)
        (rw (subst (λ (y : NodeState). (not (is_in_rollback y) && has_some (y.held q)) ≡ true) (r.1.nodes p) e) (command have (net_run (opening_net n first) r.0) p (input.Held q) (λ u. refl) r.1))
    go false e = r

-- it takes the front of a channel
pub front_taken : (have : ℕ → Holdings) (net : Net) (p q : ℕ) (able : Bool) (e : Envelope) (rest : List NodeParcel) → IsNet have net → net.channel q p ≡ e.parcel ∷ rest →
    IsNet (after have p (e ∷ []) (input.Comes q able e.parcel)) (with_doing (with_rest net q p rest) p (node_after (have p).node (input.Comes q able e.parcel)))
front_taken have net p q able e rest k front = net_goes have net p (e ∷ []) (input.Comes q able e.parcel) left k (λ u v. is_left u v (u == q) (v == p) refl refl)
  where
    left : ℕ → ℕ → List NodeParcel
    left u v = if u == q && v == p then rest else net.channel u v

    is_left : (u v : ℕ) (a b : Bool) → (u == q) ≡ a → (v == p) ≡ b →
        net.channel u v ≡ (if b then parcels (if a then e ∷ [] else []) else []) ++ (if a && b then rest else net.channel u v)
    is_left u v true true f g = subst (λ (x : ℕ). net.channel x v ≡ e.parcel ∷ rest) (sym (same u q f)) (subst (λ (x : ℕ). net.channel q x ≡ e.parcel ∷ rest) (sym (same v p g)) front)
    is_left u v true false f g = refl
    is_left u v false true f g = refl
    is_left u v false false f g = refl

pub step_taken : (have : ℕ → Holdings) (net : Net) (p q : ℕ) (able : Bool) (x : NodeParcel) (rest : List NodeParcel) → IsNet have net →
    (not (is_in_rollback (have p).node) && has_some ((have p).node.held q)) ≡ false → net.channel q p ≡ x ∷ rest →
    net_step net (Take p q able) ≡ with_doing (with_rest net q p rest) p (node_after (have p).node (input.Comes q able x))
step_taken have net p q able x rest k free front = rw (subst (λ (y : NodeState). (not (is_in_rollback y) && has_some (y.held q)) ≡ false) (k.nodes p) free)
    (rw front (ap (λ (y : NodeState). with_doing (with_rest net q p rest) p (node_after y (input.Comes q able x))) (sym (k.nodes p))))

pub goes_front : (n first : ℕ) (have : ℕ → Holdings) (p q : ℕ) (able : Bool) (e : Envelope) (rest : List NodeParcel) (r : Ran n first have) →
    (not (is_in_rollback (have p).node) && has_some ((have p).node.held q)) ≡ false →
    (net_run (opening_net n first) r.0).channel q p ≡ e.parcel ∷ rest →
    Ran n first (after have p (e ∷ []) (input.Comes q able e.parcel))
goes_front n first have p q able e rest r free front = let net = net_run (opening_net n first) r.0 in more n first have _ r (Take p q able)
    (subst (λ (w : Net). IsNet (after have p (e ∷ []) (input.Comes q able e.parcel)) w) (sym (step_taken have net p q able e.parcel rest r.1 free front)) (front_taken have net p q able e rest r.1 front))

-- p sends these again, as plain sends
one_again : (n first : ℕ) (have : ℕ → Holdings) (p q : ℕ) (body : ℤ) → Ran n first have →
    Ran n first (at_one p (sending_one p (have p) (input_at (have p).node (Send p q body) [])) have)
one_again n first have p q body r = go (is_step (have p).node (input.Send q body)) (goes_alone n first have (Send p q body) r)
  where
    go : (b : Bool) → Ran n first (after_any have p [] (if b then Some (input.Send q body) else None)) → Ran n first (at_one p (sending_one p (have p) (if b then Some (input.Send q body) else None)) have)
    go true k = k
    go false k = alike n first have (at_one p (have p) have) (at_own p (have p) have refl) k

pub goes_again : (n first : ℕ) (p : ℕ) (sends : List (ℕ × ℤ)) (have : ℕ → Holdings) → Ran n first have → Ran n first (at_one p (sending_again p (have p) sends) have)
goes_again n first p [] have r = alike n first have (at_one p (have p) have) (at_own p (have p) have refl) r
goes_again n first p (x ∷ xs) have r = alike n first _ _ twice (goes_again n first p xs (at_one p g have) (one_again n first have p x.0 x.1 r))
  where
    g : Holdings
    g = sending_one p (have p) (input_at (have p).node (Send p x.0 x.1) [])

    twice : (u : ℕ) → at_one p (sending_again p (at_one p g have p) xs) (at_one p g have) u ≡ at_one p (sending_again p g xs) have u
    twice u = by_case (u == p)
      where
        by_case : (a : Bool) → (if a then sending_again p (if p == p then g else have p) xs else (if a then g else have u)) ≡ (if a then sending_again p g xs else have u)
        by_case true = rw (is_same p) refl
        by_case false = refl
