-- The messages that link a member of an instance with an earlier one, and the chains that they make.
use Rattle.std.specs.Prelude.{ℕ, ◌==◌, ◌&&◌, if◌then◌else◌, Bool, Option, Some, None, is_some, unwrap_or, find, List, [], ◌∷◌, ◌++◌, fold, ◌≡◌, ◌<◌, length, take, slice_get}
use Rattle.std.specs.List.{range_with_len}
use Rattle.kt_base.specs.declared.words.Kind.{Kind}
use Rattle.kt_base.specs.declared.words.Kind.TheVariants.{Checkpoint, Rollback}
use Rattle.kt_spacetime.specs.declared.deeds.Deed.TheVariants as deed
use Rattle.kt_meaning.specs.Past.{Past}
use Rattle.kt_meaning.specs.Legal.{has_deed}
use Rattle.kt_meaning.specs.Chains.{is_sent_past, is_received_within}

-- whether a message links a process, p, with a member that joined before it, q: in a checkpoint p sent it past its
-- permanent position and q received it within its new one, in a rollback q sent it past its permanent position and p has
-- received it
abbrev pub links : Past → ℕ → Kind → ℕ → ℕ → ℕ → Bool
links s k Checkpoint p q msg = is_sent_past s p q msg && (is_some (s.new k q) && is_received_within s k q p msg)
links s k Rollback p q msg = is_sent_past s q p msg && has_deed (deed.Received msg q) (s.live p)

-- the least-numbered message that does; messages have the numbers of rows, from 1
abbrev pub least_link : Past → ℕ → Kind → ℕ → ℕ → Option ℕ
least_link s k kind p q = find (links s k kind p q) (range_with_len 1 s.rows)

-- a chain and the message that leads on from its end, if there is one; or else another chain
abbrev pub led_on : List ℕ → Option ℕ → Option (List ℕ) → Option (List ℕ)
led_on chain (Some msg) later = Some (chain ++ msg ∷ [])
led_on chain None later = later

-- of these members, each with its chain: the chain of the first one with a linking message, followed by the least such
-- message
abbrev pub chain_through : (ℕ → Option ℕ) → List (ℕ × List ℕ) → Option (List ℕ)
chain_through link [] = None
chain_through link (m ∷ ms) = led_on m.1 (link m.0) (chain_through link ms)

-- a member's chain, by the members that joined before it; the initiator's is empty
abbrev pub chain_of : Past → ℕ → Kind → ℕ → List (ℕ × List ℕ) → ℕ → Option (List ℕ)
chain_of s k kind initiator earlier p = if p == initiator then Some [] else chain_through (least_link s k kind p) earlier

-- one more member with its chain, which is empty where it has none
abbrev pub with_member : Past → ℕ → Kind → ℕ → List (ℕ × List ℕ) → ℕ → List (ℕ × List ℕ)
with_member s k kind initiator earlier p = earlier ++ (p, unwrap_or (chain_of s k kind initiator earlier p) []) ∷ []

-- these processes, in the order in which they joined, each with its chain
abbrev pub chained : Past → ℕ → Kind → ℕ → List ℕ → List (ℕ × List ℕ)
chained s k kind initiator joined = fold (with_member s k kind initiator) [] joined

-- the first so many processes have chains
abbrev pub AreChainedTo : ℕ → Past → ℕ → Kind → ℕ → List ℕ → Type 0
AreChainedTo n s k kind initiator joined =
    (place p : ℕ) → place < n → slice_get joined place ≡ Some p → chain_of s k kind initiator (chained s k kind initiator (take place joined)) p ≡ None → ⊥

-- all of them have chains
abbrev pub AreChained : Past → ℕ → Kind → ℕ → List ℕ → Type 0
AreChained s k kind initiator joined = AreChainedTo (length joined) s k kind initiator joined
