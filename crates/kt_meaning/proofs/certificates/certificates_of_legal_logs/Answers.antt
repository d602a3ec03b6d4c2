use Rattle.kt_meaning.proofs.Unlinked as unlinked
use Rattle.kt_meaning.proofs.Claims as claims
use Rattle.kt_meaning.proofs.NamedMessages as messages
use Rattle.kt_meaning.proofs.Passing as passing
use Rattle.kt_meaning.proofs.ShortLists.{chain_short, chain_few}
use Rattle.kt_meaning.proofs.certificates.certificates_of_legal_logs.Goals as goal

pub returns-clause-complete : goal.returns-clause-complete
returns-clause-complete c = passing.complete

pub returns-clause-stated : goal.returns-clause-stated
returns-clause-stated c = claims.stated

pub returns-clause-listed : goal.returns-clause-listed
returns-clause-listed c = λ log i n d l e said committed. claims.members_right log d n l (claims.made_at log i n d l e said) committed

pub returns-clause-made : goal.returns-clause-made
returns-clause-made c = λ log i n j p d chain l e said committed at. claims.list_made log n j p d chain (claims.made_at log i n d l e said) committed at

pub returns-clause-chains : goal.returns-clause-chains
returns-clause-chains c = λ log i n d l never e said committed. claims.lists_right log d n (claims.made_at log i n d l e said) (never d.inst) committed

pub returns-clause-short : goal.returns-clause-short
returns-clause-short c = chain_short

pub returns-clause-few : goal.returns-clause-few
returns-clause-few c = chain_few

pub returns-clause-named : goal.returns-clause-named
returns-clause-named c = messages.named

pub returns-clause-without_chain : goal.returns-clause-without_chain
returns-clause-without_chain c = unlinked.without_chain
