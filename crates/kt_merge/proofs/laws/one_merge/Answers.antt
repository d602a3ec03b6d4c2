use Rattle.kt_merge.proofs.OneMerge as once
use Rattle.kt_merge.proofs.laws.one_merge.Goals as goal

pub returns : goal.returns
returns c = once.one_merge
