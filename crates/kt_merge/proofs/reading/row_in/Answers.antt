use Rattle.std.proofs.Common.{rules, ◌≡◌, ◌∷◌, []}
use Rattle.csv.specs.Records.{fields_of}
use Rattle.kt_merge.proofs.StepFacts.{wrong_at}
use Rattle.kt_merge.proofs.reading.row_in.Goals as goal

pub returns-in-Err-clause-fault : goal.returns-in-Err-clause-fault
returns-in-Err-clause-fault c = λ p clock rest.
    let is : fields_of c.args.current.now ≡ c.in-Some.time.now ∷ c.in-Some.word.now ∷ c.in-Some.first.now ∷ c.in-Some.second.now ∷ c.in-Some.third.now ∷ c.in-Some.last.now ∷ [] = search rules in
    rw c.at.ensures
    (wrong_at p c.args.count clock c.in-Err.fault (fields_of c.args.current.now) c.in-Some.time.now c.in-Some.word.now c.in-Some.first.now c.in-Some.second.now c.in-Some.third.now c.in-Some.last.now rest
    c.if-count-ge-MAX_RECORDS.false is c.in-Err.ensures.fault)
