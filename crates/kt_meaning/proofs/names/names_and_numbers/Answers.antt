use Rattle.kt_meaning.specs.Names.{nothing_given}
use Rattle.kt_meaning.proofs.GivenFacts.{none_given}
use Rattle.kt_meaning.proofs.NumberedFacts.{named_back, numbered_back, named_front, numbered_front, processes}
use Rattle.kt_meaning.proofs.LegalNames.{legal_named}
use Rattle.kt_meaning.proofs.names.names_and_numbers.Goals as goal

pub returns-clause-named_back : goal.returns-clause-named_back
returns-clause-named_back c = λ rows log e. named_back nothing_given none_given rows log e

pub returns-clause-numbered_back : goal.returns-clause-numbered_back
returns-clause-numbered_back c = λ rows log e. numbered_back nothing_given log rows e

pub returns-clause-legal : goal.returns-clause-legal
returns-clause-legal c = λ log l. let names = legal_named log l in (names.0, names.1, numbered_back nothing_given log names.0 names.1)

pub returns-clause-front : goal.returns-clause-front
returns-clause-front c = λ log more rows e. named_front nothing_given log more rows e

pub returns-clause-numbered_front : goal.returns-clause-numbered_front
returns-clause-numbered_front c = λ rows more log e. numbered_front nothing_given rows more log e

pub returns-clause-processes : goal.returns-clause-processes
returns-clause-processes c = λ rows log e. processes nothing_given none_given rows log e
