-- Worked starts that are not right.
use Rattle.std.proofs.Common.{◌≡◌, ℕ, List, [], ◌∷◌, ap, pos, arith}
use Rattle.kt_manager.specs.declared.parcels.NodeParcel.{NodeParcel}
use Rattle.kt_manager.specs.declared.parcels.NodeParcel.TheVariants.{App}
use Rattle.kt_kills.specs.KilledNets.{Back}
use Rattle.kt_kills.specs.Starts.{IsRight}
use Rattle.kt_kills.specs.Standing.{killed_after}
use Rattle.kt_kills.specs.WorkedKills as worked

none : {X : Type 0} (x : X) (rest : List X) → [] ≡ x ∷ rest → ⊥
none x rest e = absurd (cc)

pub not_without : IsRight (killed_after 2 0 worked.taken_and_killed) (Back 0 []) → ⊥
not_without h = none _ _ ((h.1 1).1)

-- the label of the first one
first : List NodeParcel → ℕ
first [] = 0
first (App l body ∷ xs) = l
first (_ ∷ xs) = 0

one_not_two : ◌≡◌ {A = ℕ} 1 2 → ⊥
one_not_two e = omega (arith, e)

pub not_to_who_took : IsRight (killed_after 3 0 worked.first_one_lost) (Back 0 ((2, pos 0) ∷ (2, pos 7) ∷ [])) → ⊥
unfolding first
not_to_who_took h = one_not_two (ap first ((h.1 2).1))
