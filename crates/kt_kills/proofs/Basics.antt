-- What the other files need of tests, fronts of lists and one place of a function.
use Rattle.std.proofs.Common.{◌≡◌, ◌∙◌, ℕ, Bool, true, false, List, [], ◌∷◌, ◌++◌, refl, arith, sym, ap, subst, append_assoc}
use Rattle.std.specs.Prelude.{◌==◌, ◌||◌, if◌then◌else◌, take}
use Rattle.std.proofs.lemmas.Bool.Decides.{nat_tests}
use Rattle.std.proofs.lemmas.List.{append-nil, map-append}
use Rattle.kt_meaning.specs.Past.{at_one}
use Rattle.kt_node.specs.Inputs.{Input}
use Rattle.kt_node.specs.Inputs as input
use Rattle.kt_node.specs.Clocks.{Envelope}
use Rattle.kt_kills.specs.KilledNets.{KilledNet, KillEvent, came_of, happens, killed_run}
use Rattle.kt_kills.specs.Starts.{parcels, IsFront}

pub same : (a b : ℕ) → (a == b) ≡ true → a ≡ b
same a b e = grind (arith, nat_tests)

pub is_same : (a : ℕ) → (a == a) ≡ true
is_same a = grind (arith, nat_tests)

pub turned : (a b : ℕ) → (a == b) ≡ (b == a)
turned a b = grind (arith, nat_tests)

pub clash : (b : Bool) → b ≡ true → b ≡ false → ⊥
clash true e f = absurd (cc)
clash false e f = absurd (cc)

pub not_both : (a b : Bool) → a ≡ true → (a || b) ≡ false → ⊥
not_both true b e f = absurd (cc)
not_both false b e f = absurd (cc)

pub front_refl : {X : Type 0} (l : List X) → IsFront l l
front_refl l = ([], sym (append-nil l))

pub front_more : {X : Type 0} (a b c : List X) → IsFront a b → IsFront a (b ++ c)
front_more {X} a b c h = (h.0 ++ c, ap (λ (l : List X). l ++ c) h.1 ∙ append_assoc a h.0 c)

pub front_then : {X : Type 0} (a b c : List X) → IsFront a b → IsFront b c → IsFront a c
front_then {X} a b c f g = (f.0 ++ g.0, g.1 ∙ ap (λ (l : List X). l ++ g.0) f.1 ∙ append_assoc a f.0 g.0)

pub front_left : {X : Type 0} (a b c : List X) → IsFront (a ++ b) c → IsFront a c
front_left a b c f = (b ++ f.0, f.1 ∙ append_assoc a b f.0)

pub front_parcels : (a b : List Envelope) → IsFront a b → IsFront (parcels a) (parcels b)
front_parcels a b f = (parcels f.0, ap parcels f.1 ∙ map-append (λ (e : Envelope). e.parcel) a f.0)

-- a function is the same where it is given at a place what it has there
pub at_own : {X : Type 0} (p : ℕ) (x : X) (f : ℕ → X) → f p ≡ x → (u : ℕ) → f u ≡ at_one p x f u
at_own {X} p x f e u = go (u == p) refl
  where
    go : (a : Bool) → (u == p) ≡ a → f u ≡ (if a then x else f u)
    go true k = ap f (same u p k) ∙ e
    go false k = refl

-- what holds at a place, and at the others
pub at_each : (P : ℕ → Type 0) (u : ℕ) → P u → ((p : ℕ) → (p == u) ≡ false → P p) → (p : ℕ) → P p
at_each P u here there p = go (p == u) refl
  where
    go : (a : Bool) → (p == u) ≡ a → P p
    go true e = subst P (sym (same p u e)) here
    go false e = there p e

-- where nothing comes
pub none_came : (i : Input) (s : ℕ) → came_of i s [] ≡ []
none_came (input.Send q body) s = refl
none_came (input.Begin roll able) s = refl
none_came input.Fail s = refl
none_came (input.Held q) s = refl
none_came (input.Comes q able x) s = go (s == q)
  where
    go : (b : Bool) → (if b then take {A = Envelope} 1 [] else []) ≡ []
    go true = refl
    go false = refl

-- one event after another
pub run_more : (w : KilledNet) (es more : List KillEvent) → killed_run (killed_run w es) more ≡ killed_run w (es ++ more)
run_more w [] more = refl
run_more w (e ∷ es) more = run_more (happens w e) es more
