-- What is done for words that ask for it, or refused.
use Rattle.std.proofs.Common.{◌≡◌, ◌≢◌, ◌⊎◌, ◌≤◌, List, Option, length, inl, inr, refl, subst, sym}
use Rattle.std.specs.Prelude.{Result, Ok, Err, Some, None, IfOk, IfErr, OnOk}
use Rattle.clap.specs.Words.{Row, Text, subcommand_of}
use Rattle.kt_program.specs.declared.ending.Done.{Done}
use Rattle.kt_program.specs.declared.ending.Done.TheVariants.{Drawn, Merged, Played}
use Rattle.kt_program.specs.declared.fault.AppFault.TheVariants as app
use Rattle.kt_program.specs.declared.fault.Failure.{Failure}
use Rattle.kt_program.specs.declared.fault.ProgramFault.{ProgramFault}
use Rattle.kt_program.specs.declared.fault.ProgramFault.TheVariants as program
use Rattle.kt_program.specs.declared.line.Asked.{Asked}
use Rattle.kt_program.specs.declared.line.Asked.TheVariants.{Merge}
use Rattle.kt_program.specs.declared.line.Drawing.{Drawing}
use Rattle.kt_program.specs.declared.line.Merging.{Merging}
use Rattle.kt_program.specs.declared.line.Run.{Run}
use Rattle.kt_program.specs.Asking.{Ask, DoneFor, EndsFor, IsDraw, IsMerge, IsOfRun, IsOfScenario, IsOfSteps, RefusedFor}
use Rattle.kt_program.specs.Drawn.{DrawsTo, IsOfDrawing}
use Rattle.kt_program.specs.Ending.{AppendsRun, DrawnFor, DrawsFor, IsInReport, IsOfJudging, IsOfNamedSteps, LeavesOutput, LeavesPlayed, MergedFor, MergesFor, PlayedFor, Plays}
use Rattle.kt_program.specs.Merged.{IsOfMerging, LeavesMerge, MergesTo}
use Rattle.kt_program.specs.Names.{IsApart, IsNamed, Name}
use Rattle.kt_program.specs.Program.{NamesAsked, program as definition}
use Rattle.kt_program.specs.Stored.{BytesTold}

named_steps : (name : Name) (fault : _) → IsOfNamedSteps name (program.Steps fault) → IsNamed name
named_steps None fault of = absurd of
named_steps (Some name) fault of = tt

module _ (words : List Text) (asked : Asked) (named : NamesAsked (subcommand_of definition words) asked) (apart : IsApart asked) where
  pub asks : (P : Asked → Type 0) → P asked → Ask words P
  asks P p = (asked, named, apart, p)

  -- a run is refused
  run_refused : (name : Name) (fault : ProgramFault) → IsOfScenario asked → (IsNamed name → IsOfSteps asked) → fault ≢ program.Line → IsOfNamedSteps name fault → RefusedFor words fault
  run_refused name program.Line scenario steps other of = absurd (other refl)
  run_refused name program.SameFile scenario steps other of = (asked, named, apart, tt)
  run_refused name (program.Scenario fault) scenario steps other of = (asked, named, apart, scenario)
  run_refused name (program.Steps fault) scenario steps other of = (asked, named, apart, steps (named_steps name fault of))
  run_refused name program.Read scenario steps other of = (asked, named, apart, scenario)
  run_refused name (program.App fault) scenario steps other of = tt

  pub run_ends : (name : Name) (old new : BytesTold) (result : Result Done Failure) → IsOfRun asked → IsOfScenario asked → (IsNamed name → IsOfSteps asked)
      → IfOk result (λ what. what ≡ Played) → LeavesPlayed result old new → IfErr result (λ failure. IsOfNamedSteps name failure.fault) → EndsFor words result
  run_ends name old new (Ok what) run scenario steps done leaves of = subst (DoneFor words) (sym done) (asked, named, apart, run)
  run_ends name old new (Err failure) run scenario steps done leaves of = run_refused name failure.fault scenario steps leaves.0 of

  -- what it leaves of standard output
  run_left : (old new : BytesTold) (fault : ProgramFault) → IsOfRun asked → (fault ≢ program.App app.Write → fault ≢ program.App app.Memory → new ≡ old) → fault ≢ program.App app.Write
      → (new ≡ old) ⊎ IsInReport words fault
  run_left old new (program.App app.Memory) run left w = inr (refl, (asked, named, apart, run))
  run_left old new program.Line run left w = inl (left w (λ e. cc (e)))
  run_left old new program.SameFile run left w = inl (left w (λ e. cc (e)))
  run_left old new (program.Scenario fault) run left w = inl (left w (λ e. cc (e)))
  run_left old new (program.Steps fault) run left w = inl (left w (λ e. cc (e)))
  run_left old new program.Read run left w = inl (left w (λ e. cc (e)))
  run_left old new (program.App app.Write) run left w = absurd (w refl)
  run_left old new (program.App app.RecordTooLong) run left w = inl (left w (λ e. cc (e)))
  run_left old new (program.App (app.Log fault)) run left w = inl (left w (λ e. cc (e)))
  run_left old new (program.App (app.Cert fault)) run left w = inl (left w (λ e. cc (e)))
  run_left old new (program.App (app.Run fault)) run left w = inl (left w (λ e. cc (e)))
  run_left old new (program.App (app.Live fault)) run left w = inl (left w (λ e. cc (e)))
  run_left old new (program.App (app.Uncertified fault)) run left w = inl (left w (λ e. cc (e)))
  run_left old new (program.App (app.Unfit fault)) run left w = inl (left w (λ e. cc (e)))
  run_left old new (program.App (app.Picture fault)) run left w = inl (left w (λ e. cc (e)))
  run_left old new (program.App (app.Merge fault)) run left w = inl (left w (λ e. cc (e)))

  pub run_leaves : (old new : BytesTold) (result : Result Done Failure) → IsOfRun asked → IfOk result (λ what. what ≡ Played) → LeavesPlayed result old new → LeavesOutput words result old new
  run_leaves old new (Ok what) run done leaves = rw done leaves
  run_leaves old new (Err failure) run done leaves = run_left old new failure.fault run leaves.1

  pub run_played : {F : Type 0} (told : F → BytesTold) (old new : BytesTold) (run : Run) (result : Result Done Failure) → (AppendsRun told run old new → Plays told old new asked)
      → IfOk result (λ what. what ≡ Played) → OnOk result (AppendsRun told run old new) → IfOk result (PlayedFor words told old new)
  run_played told old new run (Ok what) plays done made = rw done (asked, named, apart, plays made)
  run_played told old new run (Err failure) plays done made = tt

  -- a stored run is not judged
  pub unjudged : (fault : ProgramFault) → IsOfJudging fault → RefusedFor words fault
  unjudged program.SameFile of = (asked, named, apart, tt)
  unjudged (program.App fault) of = tt
  unjudged program.Line of = absurd of
  unjudged (program.Scenario fault) of = absurd of
  unjudged (program.Steps fault) of = absurd of
  unjudged program.Read of = absurd of

  -- a log is drawn, or not
  undrawn : (name : Name) (fault : ProgramFault) → (IsNamed name → IsOfScenario asked) → IsOfDrawing name fault → RefusedFor words fault
  undrawn name program.SameFile scenario of = (asked, named, apart, tt)
  undrawn name (program.App fault) scenario of = tt
  undrawn name (program.Scenario fault) scenario of = (asked, named, apart, scenario of)
  undrawn name program.Read scenario of = (asked, named, apart, scenario of)
  undrawn name program.Line scenario of = absurd of
  undrawn name (program.Steps fault) scenario of = absurd of

  pub draw_ends : (name : Name) (result : Result Done Failure) → IsDraw asked → (IsNamed name → IsOfScenario asked) → IfOk result (λ what. what ≡ Drawn)
      → IfErr result (λ failure. IsOfDrawing name failure.fault) → EndsFor words result
  draw_ends name (Ok what) draw scenario done of = subst (DoneFor words) (sym done) (asked, named, apart, draw)
  draw_ends name (Err failure) draw scenario done of = undrawn name failure.fault scenario of

  pub draw_drawn : {F : Type 0} (told : F → BytesTold) (old new : BytesTold) (drawing : Drawing) (result : Result Done Failure) → (DrawsTo told drawing old new → DrawsFor told old new asked)
      → IfOk result (λ what. what ≡ Drawn) → OnOk result (DrawsTo told drawing old new) → IfOk result (DrawnFor words told old new)
  draw_drawn told old new drawing (Ok what) draws done drawn = rw done (asked, named, apart, draws drawn)
  draw_drawn told old new drawing (Err failure) draws done drawn = tt

  -- parts are merged, or not
  unmerged : {F : Type 0} (told : F → BytesTold) (merging : Merging) (fault : ProgramFault) → IsOfMerging told merging fault → RefusedFor words fault
  unmerged told merging fault (inl (inl e)) = subst (RefusedFor words) (sym e) (asked, named, apart, tt)
  unmerged told merging fault (inl (inr (inl e))) = subst (RefusedFor words) (sym e) tt
  unmerged told merging fault (inl (inr (inr e))) = subst (RefusedFor words) (sym e) tt
  unmerged told merging fault (inr (inl u)) = subst (RefusedFor words) (sym u.2) tt
  unmerged told merging fault (inr (inr s)) = subst (RefusedFor words) (sym s.5) tt

  pub merge_ends : {F : Type 0} (told : F → BytesTold) (merging : Merging) (result : Result Done Failure) → IsMerge asked → IfOk result (λ what. what ≡ Merged)
      → IfErr result (λ failure. IsOfMerging told merging failure.fault) → EndsFor words result
  merge_ends told merging (Ok what) merge done of = subst (DoneFor words) (sym done) (asked, named, apart, merge)
  merge_ends told merging (Err failure) merge done of = unmerged told merging failure.fault of

  pub merge_leaves : (old new : BytesTold) (result : Result Done Failure) → IfOk result (λ what. what ≡ Merged) → LeavesMerge result old new → LeavesOutput words result old new
  merge_leaves old new (Ok what) done leaves = rw done leaves
  merge_leaves old new (Err failure) done leaves = λ w. inl (leaves w)

  pub merge_merged : {F : Type 0} (told : F → BytesTold) (old new : BytesTold) (merging : Merging) (result : Result Done Failure) → (MergesTo told merging old new → MergesFor told old new asked)
      → IfOk result (λ what. what ≡ Merged) → OnOk result (MergesTo told merging old new) → IfOk result (MergedFor words told old new)
  merge_merged told old new merging (Ok what) merges done made = rw done (asked, named, apart, merges made)
  merge_merged told old new merging (Err failure) merges done made = tt

-- words name no more parts than there are processes
pub few_parts : (o : Option (Text × List Row)) (merging : Merging) → NamesAsked o (Merge merging) → length merging.parts.items ≤ 64
few_parts None merging named = absurd named
few_parts (Some (name, rows)) merging named = named.1.few
