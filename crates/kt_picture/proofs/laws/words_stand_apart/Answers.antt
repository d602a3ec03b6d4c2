use Rattle.std.proofs.Common.{◌≢◌, ◌<◌, ◌+◌, ℕ, Bool, true, false, arith}
use Rattle.kt_picture.specs.Looks.{word_y}
use Rattle.kt_picture.proofs.laws.words_stand_apart.Goals as goal

apart : (lane c d : ℕ) (below : Bool) → c < d → d < c + 4 → word_y lane below c ≢ word_y lane below d
apart lane c d true low high e = omega (arith, low, high, e)
apart lane c d false low high e = omega (arith, low, high, e)

pub returns-clause-apart : goal.returns-clause-apart
returns-clause-apart c = apart

pub returns-clause-shared : goal.returns-clause-shared
returns-clause-shared c = λ lane n. omega arith
