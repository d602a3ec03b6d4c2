use Rattle.std.proofs.Common.{ap, sym, subst, ◌∙◌}
use Rattle.std.specs.Prelude.{not}
use Rattle.kt_meaning.specs.Past.{past}
use Rattle.kt_meaning.proofs.Items.{some_same}
use Rattle.kt_meaning.specs.Passing.{ListsReadyOf}
use Rattle.kt_meaning.specs.Answers.{IsFirstWhy}
use Rattle.kt_rules.proofs.Traced.{never}
use Rattle.kt_checker.proofs.Answering.{refused_not}
use Rattle.kt_checker.proofs.judge.fault_in.Goals as goal

pub returns-then-not-leaves_consistent : goal.returns-then-not-leaves_consistent
returns-then-not-leaves_consistent c = λ rows hist before undecided.
    let certificate = c.args.certificate.now in
    let same = c.lists_members.ensures.0 c.if-not-lists_members.false in
    record {
      cause = λ e. absurd (cc);
      shown = λ e. absurd (cc);
      wrong = λ why is commit ready.
          let listed = subst (ListsReadyOf (past rows) certificate) (sym same) ready in
          subst (IsFirstWhy (past rows) c.args.instance.now.members.items c.args.instance.now.refused certificate) (some_same is) (
            refused_not c.args.commit c.args.instance.now.refused c.if-commit-instance.false ∙ ap not commit,
            sym commit ∙ c.if-not-commit.false,
            same,
            c.has_chains.ensures.lists rows hist c.if-not-has_chains.false,
            λ consistent. never (sym c.if-not-leaves_consistent.true ∙ (c.leaves_consistent.ensures rows hist before undecided listed).1 consistent),
          );
    }

pub returns : goal.returns
returns c = λ rows hist before undecided.
    let certificate = c.args.certificate.now in
    let same = c.lists_members.ensures.0 c.if-not-lists_members.false in
    record {
      cause = λ e. refused_not c.args.commit c.args.instance.now.refused c.if-commit-instance.false;
      shown = λ e commit ready.
          let listed = subst (ListsReadyOf (past rows) certificate) (sym same) ready in
          record {
            members = same;
            lists = c.has_chains.ensures.lists rows hist c.if-not-has_chains.false;
            consistent = (c.leaves_consistent.ensures rows hist before undecided listed).0 c.if-not-leaves_consistent.false;
          };
      wrong = λ why is. absurd (cc);
    }
