use Rattle.kt_merge.proofs.Rowwise.{put_back}
use Rattle.kt_merge.proofs.laws.names_put_back.Goals as goal

pub returns : goal.returns
returns c = put_back c.names_and_numbers.ensures.named_back
