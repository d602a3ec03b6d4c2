use Rattle.std.proofs.Common.{◌≡◌, ◌+◌, length, arith}
use Rattle.kt_checker.proofs.judge.Judge.feed_decided.Goals as goal

pub returns-clause-fed : goal.returns-clause-fed
returns-clause-fed c = λ rows h.
    let certificates = c.args.certificates.now in
    let legal = (c.in_ok-feed.ensures.fed rows h.walk).0 in
    let number : c.after-number.result ≡ length rows + 1 = omega (arith, c.after-number.ensures, c.rows.ensures.count rows h.walk) in
    record {
      walk = (c.in_ok-feed.ensures.fed rows h.walk).1;
      gathered = c.in_ok-add.ensures certificates rows h.gathered number legal (λ p k commit is. c.fault_at-fault.ensures rows p k commit h legal is);
      firsts = h.firsts;
      consistent = c.stays_consistent-stays_consistent.ensures rows h (λ p k commit is. c.fault_at-fault.ensures rows p k commit h legal is);
    }
