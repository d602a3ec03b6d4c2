-- Rows replayed one after another.
use Rattle.std.proofs.Common.{◌≡◌, ℕ, ◌+◌, ◌<◌, ◌∷◌, [], ◌++◌, List, Some, length, get_or, refl, ◌∙◌}
use Rattle.std.specs.List.{slice_get}
use Rattle.std.proofs.lemmas.Option.{slice_get_read}
use Rattle.kt_spacetime.specs.declared.event.Event.{Event}

pub row_read : (rows : List Event) (i : ℕ) (row : Event) → i < length rows → row ≡ get_or rows i row → slice_get rows i ≡ Some row
row_read rows i row l e = slice_get_read rows (length rows) i row refl l e
