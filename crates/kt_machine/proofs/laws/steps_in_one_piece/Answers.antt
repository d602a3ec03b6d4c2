use Rattle.kt_machine.proofs.OnePiece.{with_parcel_is, with_rest_is, settles_in_one}
use Rattle.kt_machine.proofs.laws.steps_in_one_piece.Goals as goal

pub returns-clause-with_parcel : goal.returns-clause-with_parcel
returns-clause-with_parcel c = with_parcel_is

pub returns-clause-with_rest : goal.returns-clause-with_rest
returns-clause-with_rest c = with_rest_is

pub returns-clause-settled : goal.returns-clause-settled
returns-clause-settled c = settles_in_one
