-- Where the chains of an instance stop.
use Rattle.std.specs.Prelude.{◌≡◌, ℕ, Bool, true, Some, None, List, take, slice_get, ⊤}
use Rattle.kt_base.specs.declared.words.Kind.{Kind}
use Rattle.kt_spacetime.specs.declared.event.Event.{Event}
use Rattle.kt_spacetime.specs.declared.event.Event.TheVariants.{Decided}
use Rattle.kt_meaning.specs.Past.{Past}
use Rattle.kt_rules.specs.Standing.{at_number}
use Rattle.kt_meaning.specs.Linking.{chain_of, chained, AreChained, AreChainedTo}
use Rattle.kt_certify.specs.Instances.{InstanceParts}
use Rattle.kt_certify.specs.declared.fault.Stop.{Stop}
use Rattle.kt_certify.specs.declared.fault.Stop.TheVariants.{NoChain, Memory}

-- those that have joined an instance have chains
abbrev pub HasChains : Past → ℕ → InstanceParts → Type 0
HasChains s k v = AreChained s k v.beginning.kind v.beginning.initiator v.joined

-- a process has no chain, by those that joined before it; each of these has one
pub record IsStuck (s : Past) (k : ℕ) (kind : Kind) (initiator : ℕ) (joined : List ℕ) (p : ℕ) : Type 0 where
  pub place : ℕ
  pub member : slice_get joined place ≡ Some p
  pub before : AreChainedTo place s k kind initiator joined
  pub none : chain_of s k kind initiator (chained s k kind initiator (take place joined)) p ≡ None

-- why the chains of an instance were not all found
abbrev pub StopsAt : Past → ℕ → Kind → ℕ → List ℕ → Stop → Type 0
StopsAt s k kind initiator joined (NoChain j p) = (j ≡ k) × IsStuck s k kind initiator joined p
StopsAt s k kind initiator joined Memory = ⊤

-- why the certificate of an instance was not made
abbrev pub StopsBy : Bool → Past → ℕ → InstanceParts → Stop → Type 0
StopsBy commit s k v (NoChain j p) = (commit ≡ true) × (j ≡ k) × IsStuck s k v.beginning.kind v.beginning.initiator v.joined p
StopsBy commit s k v Memory = ⊤

-- the same, of an instance by its number
abbrev pub StopsIn : Bool → Past → ℕ → List InstanceParts → Stop → Type 0
StopsIn commit s k vs (NoChain j p) = (v : InstanceParts) × (at_number vs k ≡ Some v) × (commit ≡ true) × (j ≡ k) × IsStuck s k v.beginning.kind v.beginning.initiator v.joined p
StopsIn commit s k vs Memory = ⊤

-- why a row was not taken into the instances
abbrev pub StopsOn : Event → Past → List InstanceParts → Stop → Type 0
StopsOn (Decided p k commit) s vs f = StopsIn commit s k vs f
StopsOn row s vs f = f ≡ Memory
