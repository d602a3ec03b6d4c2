-- Demands that are met, and tests that are turned round.
use Rattle.std.proofs.Common.{◌≡◌, Bool, true, false, Option, Some, None, List, [], ◌∷◌, ℕ, zero, suc, refl, sym, ap, subst}
use Rattle.std.specs.Bool.{then_some}
use Rattle.std.specs.Prelude.{◌&&◌, not, slice_get}
use Rattle.kt_spacetime.specs.declared.event.Event.{Event}
use Rattle.kt_meaning.specs.Past.{Past, past}
use Rattle.kt_histories.specs.declared.breach.Breach.{Breach}
use Rattle.kt_histories.specs.declared.breach.Breach.TheVariants as breach
use Rattle.kt_histories.specs.declared.breach.demands.Demand.{Demand}
use Rattle.kt_histories.specs.Demands.{AreDemandsOn, IsDemandOn}
use Rattle.kt_meaning.proofs.Items.{some_same}
use Rattle.kt_histories.specs.Breaches.{IsAgainst, IsJudged, IsJudgedOf, IsSoOf}

-- nothing is against a demand that is met
pub met : (rows : List Event) (demand : Past → Bool) (o : Option Breach) → o ≡ None → demand (past rows) ≡ true → IsJudged rows demand o
met rows demand o none e = subst (IsJudged rows demand) (sym none) e

-- a breach that is told where a test passes is against a demand, which is met where it does not
pub judged_by : (rows : List Event) (demand : Past → Bool) (b : Breach) (is : Bool) (o : Option Breach) → o ≡ then_some is b
    → (is ≡ true → IsJudged rows demand (Some b)) → (is ≡ false → demand (past rows) ≡ true) → IsJudged rows demand o
judged_by rows demand b true o e f g = subst (IsJudged rows demand) (sym e) (f refl)
judged_by rows demand b false o e f g = subst (IsJudged rows demand) (sym e) (g refl)

-- what is against a demand whatever row it is on is against one on this row
pub on_row : (rows : List Event) (row : Event) (demand : Past → Bool) (o : Option Breach) → IsJudged rows demand o → IsJudgedOf rows row demand o
on_row rows row demand None h = h
on_row rows row demand (Some (breach.OwnPeer p)) h = absurd h.so
on_row rows row demand (Some (breach.OwnCause k)) h = absurd h.so
on_row rows row demand (Some breach.NoCause) h = absurd h.so
on_row rows row demand (Some b) h = h

-- as `judged_by`, of a demand on this row
pub judged_on : (rows : List Event) (row : Event) (demand : Past → Bool) (b : Breach) (is : Bool) (o : Option Breach) → o ≡ then_some is b
    → (is ≡ true → IsJudgedOf rows row demand (Some b)) → (is ≡ false → demand (past rows) ≡ true) → IsJudgedOf rows row demand o
judged_on rows row demand b true o e f g = subst (IsJudgedOf rows row demand) (sym e) (f refl)
judged_on rows row demand b false o e f g = subst (IsJudgedOf rows row demand) (sym e) (g refl)

-- of demands on a row each is one
pub demand_on : (row : Event) (demands : List Demand) (place : ℕ) (demand : Demand) → AreDemandsOn row demands → slice_get demands place ≡ Some demand → IsDemandOn row demand
demand_on row [] place demand all there = absurd (cc)
demand_on row (d ∷ demands) zero demand all there = subst (IsDemandOn row) (some_same there) all.0
demand_on row (d ∷ demands) (suc place) demand all there = demand_on row demands place demand all.1 there

pub from_not : (b : Bool) → not b ≡ true → b ≡ false
from_not true e = absurd (cc)
from_not false e = refl

pub from_not_false : (b : Bool) → not b ≡ false → b ≡ true
from_not_false true e = refl
from_not_false false e = absurd (cc)

pub not_false : {b : Bool} → b ≡ true → not b ≡ false
not_false e = ap not e

pub not_from_false : {b : Bool} → b ≡ false → not b ≡ true
not_from_false e = ap not e

pub and_true : (a b : Bool) → a ≡ true → b ≡ true → (a && b) ≡ true
and_true true b e f = f
and_true false b e f = absurd (cc)
