use Rattle.kt_core.proofs.laws.laws_of_runs.Goals as goal

pub returns : goal.returns
returns c = record {
  next = c.progress_of_runs.ensures.next;
  opens = c.progress_after_steps.ensures.start;
  takes = c.progress_after_steps.ensures.takes;
  does = c.progress_after_steps.ensures.does;
  place = c.places_of_commands.ensures.next;
  there = c.places_of_commands.ensures.there;
  ahead = c.phases_of_runs.ensures.ahead;
  attained = c.phases_of_runs.ensures.attained;
  forward = c.phases_of_runs.ensures.forward;
  quiet = c.phases_of_runs.ensures.quiet;
  speaks_next = c.processes_of_runs.ensures.speaks_next;
  seen_acts = c.protocol_of_runs.ensures.seen_acts;
  held = c.messages_of_runs.ensures.held;
  fit = c.rows_of_runs.ensures.fit;
  others = c.acts_of_runs.ensures.others;
  aborts = c.acts_of_runs.ensures.aborts;
  none = c.steps_of_runs.ensures.none;
  only = c.steps_of_runs.ensures.only;
  unwilling = c.steps_of_runs.ensures.unwilling;
  at_rest = c.never_stuck.ensures.at_rest;
  nothing = c.hindrances_of_steps.ensures.none;
  no_command = c.hindrances_of_steps.ensures.no_command;
  puts = c.tallies_of_runs.ensures.next;
  raised = c.tallies_of_runs.ensures.raised;
  instances = c.tallies_of_runs.ensures.instances;
  fewer = c.tallies_of_runs.ensures.fewer;
  unbegun = c.tallies_of_runs.ensures.unbegun;
  asks = c.tallies_of_runs.ensures.asks;
  replies = c.tallies_of_runs.ensures.replies;
  decisions = c.tallies_of_runs.ensures.decisions;
  lead = c.values_of_runs.ensures.lead;
  can = c.values_of_runs.ensures.can;
}
