use Rattle.kt_run.proofs.laws.laws_of_runs.Goals as goal

pub returns : goal.returns
returns c = record {
  next = c.progress_of_runs.ensures.next;
  at_rest = c.never_stuck.ensures.at_rest;
  follows = c.logs_follow_plans.ensures.follows;
  counts = c.logs_follow_plans.ensures.counts;
  in_phase = c.phases_of_runs.ensures.in_phase;
  fit = c.rows_of_runs.ensures.fit;
  sends = c.rows_of_runs.ensures.sends;
  up = c.steps_of_runs.ensures.up;
  gives = c.steps_of_runs.ensures.gives;
  grows = c.acts_of_runs.ensures.grows;
  rows = c.acts_of_runs.ensures.rows;
  others = c.acts_of_runs.ensures.others;
  told_more = c.told_of_runs.ensures.more;
  next_default = c.runs_that_go_on.ensures.next;
  limits = c.runs_that_go_on.ensures.limits;
  no_default = c.runs_that_go_on.ensures.rest;
  lead = c.values_of_runs.ensures.lead;
  can = c.values_of_runs.ensures.can;
  keeps = c.values_of_runs.ensures.keeps;
  taken = c.values_of_runs.ensures.taken;
  spares = c.values_of_runs.ensures.spares;
  objects = c.values_of_runs.ensures.objects;
  rested = c.values_of_runs.ensures.rested;
  offers = c.values_of_runs.ensures.offers;
}
