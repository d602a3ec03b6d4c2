-- An instance is named by who began it.
use Rattle.std.proofs.Common.{◌≡◌, ◌∙◌, ℕ, zero, suc, Option, Some, option_map, List, [], ◌∷◌, ◌++◌, map, refl, sym, ap}
use Rattle.std.specs.Prelude.{slice_get, fold}
use Rattle.std.proofs.lemmas.List.{map-append}
use Rattle.kt_spacetime.specs.declared.event.Event.{Event}
use Rattle.kt_spacetime.specs.declared.event.Event.TheVariants.{Sent, Received, Dropped, Began, Took, Ready, Unwilling, Decided, Closed, Failed, Refused}
use Rattle.kt_spacetime.specs.declared.names.InstName.{InstName}
use Rattle.kt_meaning.specs.Names.{Given, nothing_given, initiators_after, given_after, given_by, at_place, place_of, name_of, name_begun_by, instance_name}
use Rattle.kt_meaning.specs.Past.{Past, Beginning, start, begun_after, after, past, initiator_of}
use Rattle.kt_meaning.proofs.PlaceFacts.{map_some, then_some}

-- who began an instance, by the rows and by the names
abbrev who : Beginning → ℕ
who b = b.initiator

same_begun : (g : Given) (s : Past) (log : List Event) → g.initiators ≡ map who s.begun → (given_by g log).initiators ≡ map who (fold after s log).begun
same_begun g s [] e = e
same_begun g s (row ∷ log) e = same_begun (given_after g row) (after s row) log (one row)
  where
    one : (row : Event) → initiators_after g row ≡ map who (begun_after s row)
    one (Sent p to body) = e
    one (Received p from msg) = e
    one (Dropped p from msg) = e
    one (Began p inst kind) = ap (λ (l : List ℕ). l ++ p ∷ []) e ∙ sym (map-append who s.begun (record { initiator = p; kind = kind } ∷ []))
    one (Took p inst) = e
    one (Ready p inst) = e
    one (Unwilling p inst c) = e
    one (Decided p inst commit) = e
    one (Closed p inst) = e
    one (Failed p) = e
    one (Refused p verb c) = e

get_map : (bs : List Beginning) (k : ℕ) → slice_get (map who bs) k ≡ option_map who (slice_get bs k)
get_map [] k = refl
get_map (b ∷ bs) zero = refl
get_map (b ∷ bs) (suc k) = get_map bs k

at_begun : (s : Past) (k : ℕ) → at_place (map who s.begun) k ≡ initiator_of s k
at_begun s zero = refl
at_begun s (suc k) = get_map s.begun k

one_some : (a b : ℕ) (o : Option ℕ) → o ≡ Some a → o ≡ Some b → a ≡ b
one_some a b o e f = cc

-- an instance is named by who began it
pub named_by : (log : List Event) (name : ℕ → InstName) (k p : ℕ) → instance_name (given_by nothing_given log) k ≡ Some (name k) → initiator_of (past log) k ≡ Some p → (name k).initiator ≡ p
named_by log name k p e f =
    let g = given_by nothing_given log in
    let first = then_some (name_begun_by g k) (at_place g.initiators k) (name k) e in
    let second = map_some (name_of first.0) (place_of k (g.begun first.0)) (name k) first.2 in
    let there : at_place g.initiators k ≡ Some p = ap (λ (l : List ℕ). at_place l k) (same_begun nothing_given start log refl) ∙ (at_begun (past log) k ∙ f) in
    ap (λ (i : InstName). i.initiator) (sym second.2) ∙ one_some first.0 p (at_place g.initiators k) first.1 there
