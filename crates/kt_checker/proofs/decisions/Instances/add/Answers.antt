use Rattle.std.proofs.Common.{◌∙◌, ◌++◌, ◌∷◌, [], length, ap, sym, subst}
use Rattle.kt_meaning.specs.Legal.{IsLegal}
use Rattle.kt_meaning.proofs.Items.{written}
use Rattle.kt_checker.specs.Gathered.{Gathered}
use Rattle.kt_checker.proofs.Gathering.{gathered_sent, gathered_received, gathered_dropped, gathered_closed, gathered_failed, gathered_refused}
use Rattle.kt_checker.proofs.decisions.Instances.add.Goals as goal

pub returns-in-Sent : goal.returns-in-Sent
returns-in-Sent c = λ certs rows h number l finding. rw c.in-Sent.is (gathered_sent _ rows _ _ _ h)

pub returns-in-Received : goal.returns-in-Received
returns-in-Received c = λ certs rows h number l finding. rw c.in-Received.is (gathered_received _ rows _ _ _ h)

pub returns-in-Dropped : goal.returns-in-Dropped
returns-in-Dropped c = λ certs rows h number l finding. rw c.in-Dropped.is (gathered_dropped _ rows _ _ _ h)

pub returns-in-Closed : goal.returns-in-Closed
returns-in-Closed c = λ certs rows h number l finding. rw c.in-Closed.is (gathered_closed _ rows _ _ h)

pub returns-in-Failed : goal.returns-in-Failed
returns-in-Failed c = λ certs rows h number l finding. rw c.in-Failed.is (gathered_failed _ rows _ h)

pub returns-in-Refused : goal.returns-in-Refused
returns-in-Refused c = λ certs rows h number l finding. rw c.in-Refused.is (gathered_refused _ rows _ _ _ h)

pub returns-in-Unwilling : goal.returns-in-Unwilling
returns-in-Unwilling c = λ certs rows h number l finding.
    let now = c.refuse.ensures certs rows _ _ (subst (λ list. Gathered certs list rows) (sym c.deref_mut-in-Unwilling.ensures.value) h) (subst (λ x. IsLegal (rows ++ x ∷ [])) c.in-Unwilling.is l) in
    let many = c.refuse.auto.list ∙ (ap length c.deref_mut-in-Unwilling.ensures.value ∙ sym c.args.self.now.list.ok.0) in
    rw (c.in-Unwilling.is, written c.args.self.now.list.len c.refuse.new.list c.args.self.now.list.items many) now

pub returns-in-Decided : goal.returns-in-Decided
returns-in-Decided c = λ certs rows h number l finding.
    let now = c.decide.ensures certs rows _ (subst (λ list. Gathered certs list rows) (sym c.deref_mut-in-Decided.ensures.value) h) number (subst (λ x. IsLegal (rows ++ x ∷ [])) c.in-Decided.is l) (finding _ _ _ c.in-Decided.is) in
    let many = c.decide.auto.list ∙ (ap length c.deref_mut-in-Decided.ensures.value ∙ sym c.args.self.now.list.ok.0) in
    rw (c.in-Decided.is, written c.args.self.now.list.len c.decide.new.list c.args.self.now.list.items many) now

pub returns-in_ok-begin-in-Began : goal.returns-in_ok-begin-in-Began
returns-in_ok-begin-in-Began c = λ certs rows h number l finding. rw c.in-Began.is (c.in_ok-begin-in-Began.ensures certs rows _ h)

pub returns-in_ok-join-in-Took : goal.returns-in_ok-join-in-Took
returns-in_ok-join-in-Took c = λ certs rows h number l finding.
    let now = c.in_ok-join-in-Took.ensures.took certs rows (subst (λ list. Gathered certs list rows) (sym c.deref_mut.ensures.value) h) (subst (λ x. IsLegal (rows ++ x ∷ [])) c.in-Took.is l) in
    let many = c.join.auto.list ∙ (ap length c.deref_mut.ensures.value ∙ sym c.args.self.now.list.ok.0) in
    rw (c.in-Took.is, written c.args.self.now.list.len c.join.new.list c.args.self.now.list.items many) now

pub returns-in_ok-join-in-Ready : goal.returns-in_ok-join-in-Ready
returns-in_ok-join-in-Ready c = λ certs rows h number l finding.
    let now = c.in_ok-join-in-Ready.ensures.ready certs rows (subst (λ list. Gathered certs list rows) (sym c.deref_mut-in-Ready.ensures.value) h) (subst (λ x. IsLegal (rows ++ x ∷ [])) c.in-Ready.is l) in
    let many = c.join-in-Ready.auto.list ∙ (ap length c.deref_mut-in-Ready.ensures.value ∙ sym c.args.self.now.list.ok.0) in
    rw (c.in-Ready.is, written c.args.self.now.list.len c.join-in-Ready.new.list c.args.self.now.list.items many) now
