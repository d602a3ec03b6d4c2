use Rattle.kt_checker.proofs.judge.Judge.feed.Goals as goal

pub returns-in_default : goal.returns-in_default
returns-in_default c = record {
  fed = c.feed_other.ensures.fed c.args.certificates.now;
  broken = c.feed_other.ensures.broken c.args.certificates.now;
}
