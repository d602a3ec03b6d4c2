use Rattle.std.proofs.Common.{◌≡◌, ◌+◌, length, arith}
use Rattle.kt_checker.proofs.Judging.{decisions_more}
use Rattle.kt_checker.proofs.judge.Judge.feed_other.Goals as goal

pub returns-clause-fed : goal.returns-clause-fed
returns-clause-fed c = λ certificates rows h.
    let legal = (c.in_ok-feed.ensures.fed rows h.walk).0 in
    let number : c.after-number.result ≡ length rows + 1 = omega (arith, c.after-number.ensures, c.rows.ensures.count rows h.walk) in
    record {
      walk = (c.in_ok-feed.ensures.fed rows h.walk).1;
      gathered = c.in_ok-add.ensures certificates rows h.gathered number legal (λ p k commit is. absurd (c.requires.other p k commit is));
      firsts = h.firsts;
      consistent = λ t. decisions_more rows c.args.row.now (h.consistent t) (λ p k is. absurd (c.requires.other p k _ is));
    }
