-- A chain has at most 63 messages.
use Rattle.std.proofs.Common.{◌≡◌, Some, List}
use Rattle.std.specs.Prelude.{slice_index_or}
use Rattle.std.specs.List.{slice_get, All}
use Rattle.std.proofs.lemmas.Option.{slice_get-get_or}
use Rattle.kt_spacetime.specs.Events.{IsRowInRange}
use Rattle.kt_spacetime.specs.declared.event.Event.{Event}
use Rattle.kt_meaning.specs.Legal.{IsLegal}
use Rattle.kt_chain.specs.Spelling.{HasShortChains}
use Rattle.kt_meaning.specs.Certificates.{certificates}
use Rattle.kt_meaning.proofs.ShortLists.{chain_few}

-- so the list can be written
pub short_chains : (log : List Event) → IsLegal log → All IsRowInRange log → All HasShortChains (certificates log)
short_chains log l all i d low = λ j m within.
    let c = slice_index_or (certificates log) i d in
    let at : slice_get (certificates log) i ≡ Some c = slice_get-get_or (certificates log) i d low in
    let member = slice_index_or c.members j m in
    let there : slice_get c.members j ≡ Some member = slice_get-get_or c.members j m within in
    chain_few log i j member.0 c member.1 l all at there
