-- Names of instances: a longer log names as a shorter one, and two instances have two names.
use Rattle.std.proofs.Common.{◌≡◌, ◌≢◌, ◌∙◌, ℕ, ◌+◌, ◌≤◌, ◌==◌, Bool, true, false, Option, Some, option_map, List, [], ◌∷◌, ◌++◌, length, refl, sym, ap, ap₂, subst, arith, inl, inr}
use Rattle.std.specs.Prelude.{◌&&◌, unwrap_or}
use Rattle.std.specs.Option.{option_and_then}
use Rattle.std.proofs.lemmas.Bool.{cases_eq}
use Rattle.std.proofs.lemmas.Grind.{fold-append}
use Rattle.kt_spacetime.specs.declared.event.Event.{Event}
use Rattle.kt_spacetime.specs.declared.event.Event.TheVariants.{Sent, Received, Dropped, Began, Took, Ready, Unwilling, Decided, Closed, Failed, Refused}
use Rattle.kt_meaning.proofs.Updates.{at_one_all}
use Rattle.kt_protocol.proofs.Updates.{is_other}
use Rattle.kt_spacetime.specs.declared.names.InstName.{InstName}
use Rattle.kt_meaning.specs.Names.{Given, nothing_given, given_after, given_by, at_place, place_of, name_of, instance_number, name_begun_by, instance_name}
use Rattle.std.proofs.lemmas.List.{length-append}
use Rattle.kt_meaning.proofs.PlaceFacts.{map_some, then_some, same_test, tested, place_at, place_kept, at_kept, at_some}
use Rattle.kt_meaning.proofs.GivenFacts.{AreGiven, none_given, given_more}
use Rattle.kt_manager.specs.NodeSteps.{is_one}
use Rattle.kt_node.specs.Erasing.{name_in}

-- what is given is given by one process each
pub all_given : (g : Given) (log : List Event) → AreGiven g → AreGiven (given_by g log)
all_given g [] h = h
all_given g (x ∷ xs) h = all_given (given_after g x) xs (given_more g x h)

pub given_push : (log : List Event) (x : Event) → given_by nothing_given (log ++ x ∷ []) ≡ given_after (given_by nothing_given log) x
given_push log x = fold-append given_after nothing_given log (x ∷ [])

pub given_more_rows : (log rows : List Event) → given_by nothing_given (log ++ rows) ≡ given_by (given_by nothing_given log) rows
given_more_rows log rows = fold-append given_after nothing_given log rows

-- each instance that has begun has a name
pub name_some : (g : Given) (k : ℕ) → AreGiven g → 1 ≤ k → k ≤ length g.initiators → (name : InstName) × (instance_name g k ≡ Some name)
name_some g k h low high =
    let p = at_some g.initiators k low high in
    let c = h.begun_all k p.0 p.1 in
    let once = h.begun_once p.0 in
    (name_of p.0 c.0, ap (option_and_then (name_begun_by g k)) p.1 ∙ ap (option_map (name_of p.0)) (once.found c.0 k c.1))

pub number_of_name : (g : Given) (k : ℕ) (inst : InstName) → instance_name g k ≡ Some inst → instance_number g inst ≡ Some k
number_of_name g k inst e =
    let first = then_some (name_begun_by g k) (at_place g.initiators k) inst e in
    let second = map_some (name_of first.0) (place_of k (g.begun first.0)) inst first.2 in
    subst (λ (i : InstName). instance_number g i ≡ Some k) second.2 (place_at k (g.begun first.0) second.0 second.1)

pub name_of_number : (g : Given) → AreGiven g → (inst : InstName) (k : ℕ) → instance_number g inst ≡ Some k → instance_name g k ≡ Some inst
name_of_number g h inst k e =
    let once = h.begun_once inst.initiator in
    ap (option_and_then (name_begun_by g k)) (h.begun_by inst.initiator inst.count k e) ∙ ap (option_map (name_of inst.initiator)) (once.found inst.count k e)

-- a name stays as more rows come
name_stays : (g h : Given) (k : ℕ) (name : InstName) → ((p : ℕ) → at_place g.initiators k ≡ Some p → at_place h.initiators k ≡ Some p)
    → ((p c : ℕ) → place_of k (g.begun p) ≡ Some c → place_of k (h.begun p) ≡ Some c) → instance_name g k ≡ Some name → instance_name h k ≡ Some name
name_stays g h k name initiators begun e =
    let first = then_some (name_begun_by g k) (at_place g.initiators k) name e in
    let second = map_some (name_of first.0) (place_of k (g.begun first.0)) name first.2 in
    ap (option_and_then (name_begun_by h k)) (initiators first.0 first.1)
    ∙ (ap (option_map (name_of first.0)) (begun first.0 second.0 second.1) ∙ ap Some second.2)

pub name_more : (g : Given) (row : Event) (k : ℕ) (name : InstName) → instance_name g k ≡ Some name → instance_name (given_after g row) k ≡ Some name
name_more g (Sent p to body) k name e = e
name_more g (Received p from msg) k name e = e
name_more g (Dropped p from msg) k name e = e
name_more g (Began p inst kind) k name e = name_stays g (given_after g (Began p inst kind)) k name (λ q. at_kept g.initiators (p ∷ []) k q)
    (at_one_all (λ q (xs : List ℕ). (c : ℕ) → place_of k (g.begun q) ≡ Some c → place_of k xs ≡ Some c) p _ g.begun
    (λ c. place_kept k (g.begun p) ((length g.initiators + 1) ∷ []) c) (λ q c h. h)) e
name_more g (Took p inst) k name e = e
name_more g (Ready p inst) k name e = e
name_more g (Unwilling p inst c) k name e = e
name_more g (Decided p inst commit) k name e = e
name_more g (Closed p inst) k name e = e
name_more g (Failed p) k name e = e
name_more g (Refused p verb c) k name e = e

name_along : (g : Given) (log : List Event) (k : ℕ) (name : InstName) → instance_name g k ≡ Some name → instance_name (given_by g log) k ≡ Some name
name_along g [] k name e = e
name_along g (x ∷ xs) k name e = name_along (given_after g x) xs k name (name_more g x k name e)

-- the names that a log gives to its instances, whatever else has these names
pub record IsNaming (name : ℕ → InstName) (g : Given) : Type 0 where
  pub names : (k : ℕ) → 1 ≤ k → k ≤ length g.initiators → instance_name g k ≡ Some (name k)

pub naming_of_log : (log : List Event) → IsNaming (name_in log) (given_by nothing_given log)
naming_of_log log = record {
  names = λ k low high. let n = name_some (given_by nothing_given log) k (all_given nothing_given log none_given) low high in
      n.1 ∙ ap Some (sym (ap (λ (o : Option InstName). unwrap_or o (name_of 0 0)) n.1));
}

-- the names of a longer log are those of a shorter one
same_some : (a b : InstName) (o : Option InstName) → o ≡ Some a → o ≡ Some b → a ≡ b
same_some a b o e f = cc

initiators_more : (g : Given) (log : List Event) → length g.initiators ≤ length (given_by g log).initiators
initiators_more g [] = omega arith
initiators_more g (x ∷ xs) = let a = initiators_more (given_after g x) xs in let b = one g x in omega (arith, a, b)
  where
    one : (g : Given) (row : Event) → length g.initiators ≤ length (given_after g row).initiators
    one g (Sent p to body) = omega arith
    one g (Received p from msg) = omega arith
    one g (Dropped p from msg) = omega arith
    one g (Began p inst kind) = simp length-append (omega arith)
    one g (Took p inst) = omega arith
    one g (Ready p inst) = omega arith
    one g (Unwilling p inst c) = omega arith
    one g (Decided p inst commit) = omega arith
    one g (Closed p inst) = omega arith
    one g (Failed p) = omega arith
    one g (Refused p verb c) = omega arith

pub naming_before : (name : ℕ → InstName) (g : Given) (log : List Event) → AreGiven g → IsNaming name (given_by g log) → IsNaming name g
naming_before name g log h n = record {
  names = λ k low high. let x = name_some g k h low high in
      let more = initiators_more g log in
      x.1 ∙ ap Some (same_some x.0 (name k) (instance_name (given_by g log) k) (name_along g log k x.0 x.1) (n.names k low (omega (arith, high, more))));
}

-- two instances have two names
pub names_differ : (name : ℕ → InstName) (g : Given) (j k : ℕ) → IsNaming name g → 1 ≤ j → j ≤ length g.initiators → 1 ≤ k → k ≤ length g.initiators → name j ≡ name k → j ≡ k
names_differ name g j k n a b c d e =
    let x = number_of_name g j (name j) (n.names j a b) in
    let y = number_of_name g k (name k) (n.names k c d) in
    some_is (sym x ∙ (ap (instance_number g) e ∙ y))
  where
    some_is : Some j ≡ Some k → j ≡ k
    some_is e = cc

both : (a b : Bool) → (a && b) ≡ true → (a ≡ true) × (b ≡ true)
both true b e = (refl, e)
both false b e = absurd (cc)

one_is : (a b : InstName) → is_one a b ≡ true → a ≡ b
one_is a b e =
    let t = both (a.initiator == b.initiator) (a.count == b.count) e in
    let x = tested a.initiator b.initiator t.0 in
    let y = tested a.count b.count t.1 in
    λ i. record { initiator = x i; count = y i }

is_one_self : (a : InstName) → is_one a a ≡ true
is_one_self a = ap₂ (λ (x y : Bool). x && y) (same_test a.initiator) (same_test a.count)

pub one_test : (name : ℕ → InstName) (g : Given) (j k : ℕ) → IsNaming name g → 1 ≤ j → j ≤ length g.initiators → 1 ≤ k → k ≤ length g.initiators → is_one (name j) (name k) ≡ (j == k)
one_test name g j k n a b c d = elim (cases_eq j k) [
  | inl e ↦ subst (λ (x : ℕ). is_one (name j) (name x) ≡ (j == x)) e (is_one_self (name j) ∙ sym (same_test j))
  | inr f ↦ other (is_one (name j) (name k)) refl f
]
  where
    other : (t : Bool) → is_one (name j) (name k) ≡ t → j ≢ k → is_one (name j) (name k) ≡ (j == k)
    other true e f = absurd (f (names_differ name g j k n a b c d (one_is (name j) (name k) e)))
    other false e f = e ∙ sym (is_other j k f)
