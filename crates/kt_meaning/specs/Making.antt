-- How the chain of a member is made of those of the members before it, in the words of chains.
use Rattle.std.specs.Prelude.{◌≡◌, ◌≢◌, ◌<◌, ℕ, Some, List, [], ◌∷◌, ◌++◌, slice_get}
use Rattle.kt_base.specs.declared.words.Kind.{Kind}
use Rattle.kt_meaning.specs.Past.{Past}
use Rattle.kt_meaning.specs.Passing.{IsChain}

-- a chain leads through the first of these members that a message links with a process, p, and on by the least-numbered
-- such message
pub record FollowsFirst (s : Past) (k : ℕ) (kind : Kind) (earlier : List (ℕ × List ℕ)) (p : ℕ) (chain : List ℕ)
    : Type 0 where
  pub place : ℕ
  pub member : ℕ
  pub its_chain : List ℕ
  pub there : slice_get earlier place ≡ Some (member, its_chain)
  pub msg : ℕ
  pub made : chain ≡ its_chain ++ msg ∷ []
  pub links : IsChain s k kind member (msg ∷ []) p
  pub first : (i q m : ℕ) (c : List ℕ) → i < place → slice_get earlier i ≡ Some (q, c)
      → IsChain s k kind q (m ∷ []) p → ⊥
  pub least : (m : ℕ) → m < msg → IsChain s k kind member (m ∷ []) p → ⊥

-- no message links a process, p, with one of these members
abbrev pub LinksNone : Past → ℕ → Kind → List (ℕ × List ℕ) → ℕ → Type 0
LinksNone s k kind earlier p =
    (place q msg : ℕ) (c : List ℕ) → slice_get earlier place ≡ Some (q, c) → IsChain s k kind q (msg ∷ []) p → ⊥

-- where the chain of a process, p, comes from, by the members that joined before it: the initiator's is empty; another's
-- leads through the first of them that a message links with it, and on by the least such message; where there is none it
-- is empty
pub data IsMadeOf (s : Past) (k : ℕ) (kind : Kind) (initiator : ℕ) (earlier : List (ℕ × List ℕ)) (p : ℕ) (chain : List ℕ)
    : Type 0 where
  begins : p ≡ initiator → chain ≡ [] → IsMadeOf s k kind initiator earlier p chain
  follows : p ≢ initiator → FollowsFirst s k kind earlier p chain
      → IsMadeOf s k kind initiator earlier p chain
  unlinked : p ≢ initiator → chain ≡ [] → LinksNone s k kind earlier p
      → IsMadeOf s k kind initiator earlier p chain
