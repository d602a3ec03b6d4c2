use Rattle.std.proofs.Common.{rules, ◌≡◌, sym, length}
use Rattle.csv.specs.Records.{fields_of}
use Rattle.kt_merge.proofs.FieldLists.{six_of, six_full}
use Rattle.kt_merge.proofs.reading.six_fields.Goals as goal

pub returns-in_err-time-clause-none : goal.returns-in_err-time-clause-none
returns-in_err-time-clause-none c =
    let n : length (fields_of c.args.current.now) ≡ 6 = search rules in
    absurd ((six_full _ n).0 (sym c.in_err-time.ensures.value))

pub returns-in_err-word-clause-none : goal.returns-in_err-word-clause-none
returns-in_err-word-clause-none c =
    let n : length (fields_of c.args.current.now) ≡ 6 = search rules in
    absurd ((six_full _ n).1 (sym c.in_err-word.ensures.value))

pub returns-in_err-first-clause-none : goal.returns-in_err-first-clause-none
returns-in_err-first-clause-none c =
    let n : length (fields_of c.args.current.now) ≡ 6 = search rules in
    absurd ((six_full _ n).2 (sym c.in_err-first.ensures.value))

pub returns-in_err-second-clause-none : goal.returns-in_err-second-clause-none
returns-in_err-second-clause-none c =
    let n : length (fields_of c.args.current.now) ≡ 6 = search rules in
    absurd ((six_full _ n).3 (sym c.in_err-second.ensures.value))

pub returns-in_err-third-clause-none : goal.returns-in_err-third-clause-none
returns-in_err-third-clause-none c =
    let n : length (fields_of c.args.current.now) ≡ 6 = search rules in
    absurd ((six_full _ n).4 (sym c.in_err-third.ensures.value))

pub returns-in_err-last-clause-none : goal.returns-in_err-last-clause-none
returns-in_err-last-clause-none c =
    let n : length (fields_of c.args.current.now) ≡ 6 = search rules in
    absurd ((six_full _ n).5 (sym c.in_err-last.ensures.value))

pub returns-clause-found : goal.returns-clause-found
returns-clause-found c =
    let n : length (fields_of c.args.current.now) ≡ 6 = search rules in
    six_of _ _ _ _ _ _ _ n c.in_ok-time.ensures.value c.in_ok-word.ensures.value c.in_ok-first.ensures.value c.in_ok-second.ensures.value c.in_ok-third.ensures.value c.in_ok-last.ensures.value
