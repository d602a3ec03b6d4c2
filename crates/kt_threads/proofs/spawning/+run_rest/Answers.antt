use Rattle.std.proofs.Common.{rules}
use Rattle.kt_threads.proofs.Zips.{all_zip_more}
use Rattle.kt_threads.proofs.spawning.+run_rest.Goals as goal

pub returns-in_ok-all-in-Ok-clause-each : goal.returns-in_ok-all-in-Ok-clause-each
returns-in_ok-all-in-Ok-clause-each g t c =
    rw (c.in-Some.ensures.items, c.push_reserved.ensures.items) (all_zip_more _ _ _ _ _ c.in_ok-all-in-Ok.ensures.each (search rules))
