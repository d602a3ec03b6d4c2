use Rattle.kt_threads.proofs.laws.laws_of_worlds.Goals as goal

pub returns : goal.returns
returns c = record {
  rest = c.runs_of_worlds.ensures.rest;
  same = c.runs_of_worlds.ensures.same;
  told = c.steps_of_worlds.ensures.told;
  rows = c.steps_of_worlds.ensures.rows;
  numbered = c.steps_of_worlds.ensures.numbered;
  its = c.steps_of_worlds.ensures.its;
  others = c.steps_of_worlds.ensures.others;
  gives = c.steps_of_worlds.ensures.gives;
  rested = c.values_of_runs.ensures.rested;
  offers = c.values_of_runs.ensures.offers;
}
