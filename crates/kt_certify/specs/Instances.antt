-- What a pass over the rows of a log keeps of each instance.
use Rattle.std.specs.Prelude.{◌≡◌, ℕ, zero, suc, Bool, Option, Some, None, List, [], ◌∷◌, ◌++◌, map}
use Rattle.kt_base.specs.declared.words.Kind.{Kind}
use Rattle.kt_spacetime.specs.declared.event.Event.{Event}
use Rattle.kt_spacetime.specs.declared.event.Event.TheVariants.{Began, Took, Ready, Decided}
use Rattle.kt_meaning.specs.Past.{Past, Beginning, past}
use Rattle.kt_meaning.specs.Chains.{members}
use Rattle.kt_rules.specs.Standing.{at_number}
use Rattle.kt_spacetime.specs.declared.certificate.Certificate.{Certificate}
use Rattle.kt_meaning.specs.Certificates.{certified, certificate_of}

-- how an instance began, who has joined so far, and its certificate once it is decided
pub record InstanceParts : Type 0 where
  pub beginning : Beginning
  pub joined : List ℕ
  pub certificate : Option Certificate

-- a list with another item at an index
abbrev pub changed_at : {X : Type 0} → ℕ → (X → X) → List X → List X
changed_at n f [] = []
changed_at zero f (x ∷ xs) = f x ∷ xs
changed_at (suc n) f (x ∷ xs) = x ∷ changed_at n f xs

-- a list with another item at a number; numbers begin at 1
abbrev pub changed : {X : Type 0} → ℕ → (X → X) → List X → List X
changed zero f xs = xs
changed (suc n) f xs = changed_at n f xs

-- an instance that begins
abbrev pub new_instance : ℕ → Kind → InstanceParts
new_instance p kind = record { beginning = record { initiator = p; kind = kind }; joined = []; certificate = None }

-- a process joins it
abbrev pub joined_by : ℕ → InstanceParts → InstanceParts
joined_by p v = record v { joined = v.joined ++ p ∷ [] }

-- it is decided
abbrev pub decided_as : Past → ℕ → Bool → InstanceParts → InstanceParts
decided_as s k commit v = record v { certificate = Some (certified s v.joined k commit v.beginning) }

-- the instances after one more row
abbrev pub instances_after : Past → Event → List InstanceParts → List InstanceParts
instances_after s (Began p k kind) vs = vs ++ new_instance p kind ∷ []
instances_after s (Took p k) vs = changed k (joined_by p) vs
instances_after s (Ready p k) vs = changed k (joined_by p) vs
instances_after s (Decided p k commit) vs = changed k (decided_as s k commit) vs
instances_after s row vs = vs

abbrev pub beginning_kept : InstanceParts → Beginning
beginning_kept v = v.beginning

abbrev pub joined_kept : Option InstanceParts → List ℕ
joined_kept None = []
joined_kept (Some v) = v.joined

abbrev pub certificate_kept : Option InstanceParts → Option Certificate
certificate_kept None = None
certificate_kept (Some v) = v.certificate

-- the instances are those of these rows, by number
pub record AreInstancesOf (log : List Event) (vs : List InstanceParts) : Type 0 where
  pub begun : map beginning_kept vs ≡ (past log).begun
  pub joined : (k : ℕ) → joined_kept (at_number vs k) ≡ members log k
  pub certificates : (k : ℕ) → certificate_kept (at_number vs k) ≡ certificate_of log k
