-- Paths: fronts of chains with the processes that they lead through.
use Rattle.std.proofs.Common.{◌≡◌, ℕ, ◌+◌, ◌-◌, ◌<◌, ◌≤◌, Some, List, [], ◌∷◌, ◌++◌, map, length, take, refl, sym, ap, ◌∙◌, subst, arith, inl, inr, length-append}
use Rattle.std.specs.List.{slice_get}
use Rattle.std.proofs.lemmas.Bool.{cases_lt}
use Rattle.std.proofs.lemmas.List.{map-append, take-take, take_all, take-append-le}
use Rattle.std.proofs.lemmas.Option.{slice_get_within}
use Rattle.kt_base.specs.declared.words.Kind.{Kind}
use Rattle.kt_base.specs.declared.words.Kind.TheVariants.{Checkpoint, Rollback}
use Rattle.kt_meaning.specs.Past.{Past}
use Rattle.kt_meaning.proofs.Items.{get_push, get_take, in_take}
use Rattle.kt_spacetime.specs.declared.certificate.Certificate.{Certificate}
use Rattle.kt_checker.specs.declared.path.Step.{Step}
use Rattle.kt_meaning.specs.Passing.{IsChain}
use Rattle.kt_checker.specs.Followed.{message_of, IsPath, IsPathOf}
use Rattle.kt_checker.proofs.Chaining.{chain_more}

abbrev IsLed : Past → Certificate → List ℕ → ℕ → Type 0
IsLed s c messages at = IsChain s c.inst c.kind c.initiator messages at

-- a process is led to itself by no message
pub chain_none : (s : Past) (k : ℕ) (kind : Kind) (q : ℕ) → IsChain s k kind q [] q
chain_none s k Checkpoint q = refl
chain_none s k Rollback q = refl

-- the first steps of a path are one
pub path_front : (s : Past) (c : Certificate) (steps : List Step) (n : ℕ) → IsPath s c steps → IsPath s c (take n steps)
path_front s c steps n h i step at =
    let low = in_take n steps i step at in
    subst (λ (l : List Step). IsLed s c (map message_of l) step.to) (sym (take-take (i + 1) n steps (omega (arith, low)))) (h i step (get_take n steps i step at))

-- the messages of a path lead to the process of its last step
pub path_end : (s : Past) (c : Certificate) (steps : List Step) (step : Step) → slice_get steps (length steps - 1) ≡ Some step → IsPath s c steps → IsLed s c (map message_of steps) step.to
path_end s c steps step at h =
    let low = slice_get_within steps (length steps - 1) step at in
    subst (λ (l : List Step). IsLed s c (map message_of l) step.to) (take_all (length steps - 1 + 1) steps (omega (arith, low))) (h (length steps - 1) step at)

-- a path and one step more
path_more : (s : Past) (c : Certificate) (steps : List Step) (x : Step) (at : ℕ) → IsPath s c steps → IsLed s c (map message_of steps) at → IsChain s c.inst c.kind at (x.msg ∷ []) x.to → IsPath s c (steps ++ x ∷ [])
path_more s c steps x at h led leads i step e = elim (get_push steps x i step e) [
  | inl there ↦
      let low = slice_get_within steps i step there in
      subst (λ (l : List Step). IsLed s c (map message_of l) step.to) (sym (take-append-le (i + 1) steps (x ∷ []) (omega (arith, low)))) (h i step there)
  | inr last ↦
      let whole = take_all (i + 1) (steps ++ x ∷ []) (omega (arith, last.0, length-append steps (x ∷ []))) in
      let messages : map message_of (take (i + 1) (steps ++ x ∷ [])) ≡ map message_of steps ++ x.msg ∷ [] = ap (map message_of) whole ∙ map-append message_of steps (x ∷ []) in
      subst (λ (y : Step). IsLed s c (map message_of (take (i + 1) (steps ++ x ∷ []))) y.to) (sym last.1)
      (subst (λ (l : List ℕ). IsLed s c l x.to) (sym messages) (chain_more s c.inst c.kind c.initiator at x.to x.msg (map message_of steps) led leads))
]

-- a step is added to the path of messages, while there is room
pub path_pushed : (s : Past) (c : Certificate) (old new : List Step) (messages : List ℕ) (x : Step) (at : ℕ) → (length old < 64 → new ≡ old ++ x ∷ []) → (64 ≤ length old → new ≡ old)
    → IsPath s c old → IsPathOf old messages → IsLed s c messages at → IsChain s c.inst c.kind at (x.msg ∷ []) x.to → IsPath s c new
path_pushed s c old new messages x at room full h of led leads = elim (cases_lt (length old) 64) [
  | inl low ↦ subst (IsPath s c) (sym (room low)) (path_more s c old x at h (subst (λ (l : List ℕ). IsLed s c l at) (sym (of low)) led) leads)
  | inr high ↦ subst (IsPath s c) (sym (full high)) h
]

pub path_of_pushed : (old new : List Step) (messages : List ℕ) (x : Step) → (length old < 64 → new ≡ old ++ x ∷ []) → (64 ≤ length old → new ≡ old) → IsPathOf old messages → IsPathOf new (messages ++ x.msg ∷ [])
path_of_pushed old new messages x room full of = λ less. elim (cases_lt (length old) 64) [
  | inl low ↦ ap (map message_of) (room low) ∙ (map-append message_of old (x ∷ []) ∙ ap (λ (l : List ℕ). l ++ x.msg ∷ []) (of low))
  | inr high ↦ absurd (omega (arith, less, high, ap (λ (l : List Step). length l) (full high)))
]
