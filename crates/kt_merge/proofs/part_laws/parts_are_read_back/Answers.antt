use Rattle.kt_merge.proofs.ReadBack.{lines_joined, read_back}
use Rattle.kt_merge.proofs.part_laws.parts_are_read_back.Goals as goal

pub returns-clause-lines : goal.returns-clause-lines
returns-clause-lines c = lines_joined

pub returns-clause-read_back : goal.returns-clause-read_back
returns-clause-read_back c = read_back
