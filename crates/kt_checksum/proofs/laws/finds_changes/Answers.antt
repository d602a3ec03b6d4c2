use Rattle.kt_checksum.proofs.Apart.{changed}
use Rattle.kt_checksum.proofs.SealedTexts.{sealed_apart, one_sealed}
use Rattle.kt_checksum.proofs.laws.finds_changes.Goals as goal

pub returns-clause-checksums : goal.returns-clause-checksums
returns-clause-checksums c = changed

pub returns-clause-sealed : goal.returns-clause-sealed
returns-clause-sealed c = sealed_apart

pub returns-clause-one : goal.returns-clause-one
returns-clause-one c = one_sealed
