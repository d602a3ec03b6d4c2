use Rattle.kt_picture.proofs.EscapeFacts.{escaped_plain}
use Rattle.kt_picture.proofs.laws.escaped_has_no_mark.Goals as goal

pub returns : goal.returns
returns c = λ text. escaped_plain text
