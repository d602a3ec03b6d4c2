use Rattle.std.proofs.Common.{◌≢◌, refl, rules, codes}
use Rattle.std.proofs.lemmas.Result.{IfOk-weaker, MatchResult-weaker}
use Rattle.kt_chain.proofs.ChainFacts.{joined_back, misfit_chain, parts_in}
use Rattle.kt_chain.proofs.records.chain.Goals as goal

pub returns-clause-found : goal.returns-clause-found
returns-clause-found c = IfOk-weaker c.messages_of.result _ _ (λ read h. (h.0, h.1, joined_back c.args.text.now h.0 h.2, h.3)) c.messages_of.ensures.found

pub returns-clause-fault : goal.returns-clause-fault
returns-clause-fault c =
    let other : c.args.text.now ≢ codes "-" = search rules in
    MatchResult-weaker c.messages_of.result c.messages_of.ensures.fault (λ _ h. h) (λ f h. misfit_chain c.args.text.now (parts_in c.args.text.now) f other refl h)
