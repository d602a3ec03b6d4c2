-- How many open instances are told.
use Rattle.std.proofs.Common.{◌≡◌, List, [], ◌∷◌, length, suc, refl, ap}
use Rattle.std.specs.List.{AllZip}
use Rattle.kt_spacetime.specs.declared.event.Event.{Event}
use Rattle.kt_meaning.specs.Past.{past}
use Rattle.kt_explain.specs.declared.judged.Judged.{Judged}
use Rattle.kt_explain.specs.Judged.{IsLeftOpen, IsOpenInstance, open_instances}

as_long : {X Y : Type 0} (R : X → Y → Type 0) (xs : List X) (ys : List Y) → AllZip R xs ys → length ys ≡ length xs
as_long R [] [] h = refl
as_long R [] (y ∷ ys) h = absurd h
as_long R (x ∷ xs) [] h = absurd h
as_long R (x ∷ xs) (y ∷ ys) h = ap suc (as_long R xs ys h.1)

-- as many as there are
pub all_told : (rows : List Event) (j : Judged) → IsLeftOpen rows j → length j.open.items ≡ length (open_instances rows)
all_told rows j left = as_long (IsOpenInstance (past rows)) (open_instances rows) j.open.items left.instances
