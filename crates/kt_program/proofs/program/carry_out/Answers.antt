use Rattle.std.proofs.Common.{subst}
use Rattle.clap.specs.Words.{subcommand_of}
use Rattle.kt_program.specs.declared.line.Asked.{Asked}
use Rattle.kt_program.specs.declared.line.Asked.TheVariants.{Check, Draw, Judge, Merge, Play, Run}
use Rattle.kt_program.specs.Made.{played_run}
use Rattle.kt_program.specs.Names.{IsApart}
use Rattle.kt_program.specs.Program.{NamesAsked, program as definition}
use Rattle.kt_program.proofs.Lifts.{draw_drawn, draw_ends, few_parts, merge_ends, merge_leaves, merge_merged, run_ends, run_leaves, run_played, unjudged}
use Rattle.kt_program.proofs.program.carry_out.Goals as goal

pub returns-in-Ok-Play-clause-words : goal.returns-in-Ok-Play-clause-words
returns-in-Ok-Play-clause-words g c =
    let a = c.in-Ok-Play in
    let named = subst (λ (x : Asked). NamesAsked (subcommand_of definition c.args.words.now) x) a.field-0-is a.ensures.named in
    let apart = subst IsApart a.field-0-is a.ensures.apart in
    run_ends c.args.words.now (Play a.scenario a.steps a.log a.cert) named apart a.steps (g.O.Write.contents c.args.out.now) (g.O.Write.contents c.run_files.new.out) c.run_files.result tt tt
    (λ n. n) c.run_files.ensures.done c.run_files.ensures.output (rw c.played.ensures at c.run_files.ensures.steps)

pub returns-in-Ok-Play-clause-output : goal.returns-in-Ok-Play-clause-output
returns-in-Ok-Play-clause-output g c =
    let a = c.in-Ok-Play in
    let named = subst (λ (x : Asked). NamesAsked (subcommand_of definition c.args.words.now) x) a.field-0-is a.ensures.named in
    let apart = subst IsApart a.field-0-is a.ensures.apart in
    run_leaves c.args.words.now (Play a.scenario a.steps a.log a.cert) named apart (g.O.Write.contents c.args.out.now) (g.O.Write.contents c.run_files.new.out) c.run_files.result tt
    c.run_files.ensures.done c.run_files.ensures.output

pub returns-in-Ok-Play-clause-played : goal.returns-in-Ok-Play-clause-played
returns-in-Ok-Play-clause-played g c =
    let a = c.in-Ok-Play in
    let named = subst (λ (x : Asked). NamesAsked (subcommand_of definition c.args.words.now) x) a.field-0-is a.ensures.named in
    let apart = subst IsApart a.field-0-is a.ensures.apart in
    run_played c.args.words.now (Play a.scenario a.steps a.log a.cert) named apart g.F.File.Read.remaining (g.O.Write.contents c.args.out.now) (g.O.Write.contents c.run_files.new.out)
    (played_run a.scenario a.steps a.log a.cert) c.run_files.result (λ m. m) c.run_files.ensures.done (rw c.played.ensures at c.run_files.ensures.made)

pub returns-in-Ok-Run-clause-words : goal.returns-in-Ok-Run-clause-words
returns-in-Ok-Run-clause-words g c =
    let a = c.in-Ok-Run in
    let named = subst (λ (x : Asked). NamesAsked (subcommand_of definition c.args.words.now) x) a.field-0-is a.ensures.named in
    let apart = subst IsApart a.field-0-is a.ensures.apart in
    let made = c.run_files-in-Ok-Run in
    run_ends c.args.words.now (Run a.run') named apart a.run'.steps (g.O.Write.contents c.args.out.now) (g.O.Write.contents made.new.out) made.result tt tt (λ n. n)
    made.ensures.done made.ensures.output made.ensures.steps

pub returns-in-Ok-Run-clause-output : goal.returns-in-Ok-Run-clause-output
returns-in-Ok-Run-clause-output g c =
    let a = c.in-Ok-Run in
    let named = subst (λ (x : Asked). NamesAsked (subcommand_of definition c.args.words.now) x) a.field-0-is a.ensures.named in
    let apart = subst IsApart a.field-0-is a.ensures.apart in
    let made = c.run_files-in-Ok-Run in
    run_leaves c.args.words.now (Run a.run') named apart (g.O.Write.contents c.args.out.now) (g.O.Write.contents made.new.out) made.result tt made.ensures.done made.ensures.output

pub returns-in-Ok-Run-clause-played : goal.returns-in-Ok-Run-clause-played
returns-in-Ok-Run-clause-played g c =
    let a = c.in-Ok-Run in
    let named = subst (λ (x : Asked). NamesAsked (subcommand_of definition c.args.words.now) x) a.field-0-is a.ensures.named in
    let apart = subst IsApart a.field-0-is a.ensures.apart in
    let made = c.run_files-in-Ok-Run in
    run_played c.args.words.now (Run a.run') named apart g.F.File.Read.remaining (g.O.Write.contents c.args.out.now) (g.O.Write.contents made.new.out) a.run' made.result (λ m. m)
    made.ensures.done made.ensures.made

pub returns-in-Ok-clause-words : goal.returns-in-Ok-clause-words
returns-in-Ok-clause-words g c =
    let a = c.in-Ok-Check in
    let named = subst (λ (x : Asked). NamesAsked (subcommand_of definition c.args.words.now) x) a.field-0-is a.ensures.named in
    let apart = subst IsApart a.field-0-is a.ensures.apart in
    (Check a.log a.cert, named, apart, tt)

pub returns-in-Ok-clause-judged : goal.returns-in-Ok-clause-judged
returns-in-Ok-clause-judged g c =
    let a = c.in-Ok-Check in
    let named = subst (λ (x : Asked). NamesAsked (subcommand_of definition c.args.words.now) x) a.field-0-is a.ensures.named in
    let apart = subst IsApart a.field-0-is a.ensures.apart in
    (Check a.log a.cert, named, apart, c.in-Ok.ensures.judged)

pub returns-in-Ok-Check-clause-words : goal.returns-in-Ok-Check-clause-words
returns-in-Ok-Check-clause-words g c =
    let a = c.in-Ok-Check in
    let named = subst (λ (x : Asked). NamesAsked (subcommand_of definition c.args.words.now) x) a.field-0-is a.ensures.named in
    let apart = subst IsApart a.field-0-is a.ensures.apart in
    unjudged c.args.words.now (Check a.log a.cert) named apart c.in-Err.failure.fault c.in-Err.ensures.fault

pub returns-in-Ok-judge_files-clause-words : goal.returns-in-Ok-judge_files-clause-words
returns-in-Ok-judge_files-clause-words g c =
    let a = c.in-Ok-Judge in
    let named = subst (λ (x : Asked). NamesAsked (subcommand_of definition c.args.words.now) x) a.field-0-is a.ensures.named in
    let apart = subst IsApart a.field-0-is a.ensures.apart in
    (Judge a.judging, named, apart, tt)

pub returns-in-Ok-judge_files-clause-judged : goal.returns-in-Ok-judge_files-clause-judged
returns-in-Ok-judge_files-clause-judged g c =
    let a = c.in-Ok-Judge in
    let named = subst (λ (x : Asked). NamesAsked (subcommand_of definition c.args.words.now) x) a.field-0-is a.ensures.named in
    let apart = subst IsApart a.field-0-is a.ensures.apart in
    (Judge a.judging, named, apart, c.in-Ok-judge_files.ensures.judged)

pub returns-in-Ok-Judge-clause-words : goal.returns-in-Ok-Judge-clause-words
returns-in-Ok-Judge-clause-words g c =
    let a = c.in-Ok-Judge in
    let named = subst (λ (x : Asked). NamesAsked (subcommand_of definition c.args.words.now) x) a.field-0-is a.ensures.named in
    let apart = subst IsApart a.field-0-is a.ensures.apart in
    unjudged c.args.words.now (Judge a.judging) named apart c.in-Err-judge_files.failure.fault c.in-Err-judge_files.ensures.fault

pub returns-in-Ok-Draw-clause-words : goal.returns-in-Ok-Draw-clause-words
returns-in-Ok-Draw-clause-words g c =
    let a = c.in-Ok-Draw in
    let named = subst (λ (x : Asked). NamesAsked (subcommand_of definition c.args.words.now) x) a.field-0-is a.ensures.named in
    let apart = subst IsApart a.field-0-is a.ensures.apart in
    draw_ends c.args.words.now (Draw a.picture) named apart a.picture.names c.draw_files.result tt (λ n. n) c.draw_files.ensures.done c.draw_files.ensures.fault

pub returns-in-Ok-Draw-clause-drawn : goal.returns-in-Ok-Draw-clause-drawn
returns-in-Ok-Draw-clause-drawn g c =
    let a = c.in-Ok-Draw in
    let named = subst (λ (x : Asked). NamesAsked (subcommand_of definition c.args.words.now) x) a.field-0-is a.ensures.named in
    let apart = subst IsApart a.field-0-is a.ensures.apart in
    draw_drawn c.args.words.now (Draw a.picture) named apart g.F.File.Read.remaining (g.O.Write.contents c.args.out.now) (g.O.Write.contents c.draw_files.new.out) a.picture c.draw_files.result (λ d. d)
    c.draw_files.ensures.done c.draw_files.ensures.drawn

pub returns-in-Ok-Merge-clause-words : goal.returns-in-Ok-Merge-clause-words
returns-in-Ok-Merge-clause-words g c =
    let a = c.in-Ok-Merge in
    let named = subst (λ (x : Asked). NamesAsked (subcommand_of definition c.args.words.now) x) a.field-0-is a.ensures.named in
    let apart = subst IsApart a.field-0-is a.ensures.apart in
    merge_ends c.args.words.now (Merge a.merging) named apart g.F.File.Read.remaining a.merging c.merge_files.result tt c.merge_files.ensures.done c.merge_files.ensures.fault

pub returns-in-Ok-Merge-clause-output : goal.returns-in-Ok-Merge-clause-output
returns-in-Ok-Merge-clause-output g c =
    let a = c.in-Ok-Merge in
    let named = subst (λ (x : Asked). NamesAsked (subcommand_of definition c.args.words.now) x) a.field-0-is a.ensures.named in
    let apart = subst IsApart a.field-0-is a.ensures.apart in
    merge_leaves c.args.words.now (Merge a.merging) named apart (g.O.Write.contents c.args.out.now) (g.O.Write.contents c.merge_files.new.out) c.merge_files.result c.merge_files.ensures.done c.merge_files.ensures.output

pub returns-in-Ok-Merge-clause-merged : goal.returns-in-Ok-Merge-clause-merged
returns-in-Ok-Merge-clause-merged g c =
    let a = c.in-Ok-Merge in
    let named = subst (λ (x : Asked). NamesAsked (subcommand_of definition c.args.words.now) x) a.field-0-is a.ensures.named in
    let apart = subst IsApart a.field-0-is a.ensures.apart in
    merge_merged c.args.words.now (Merge a.merging) named apart g.F.File.Read.remaining (g.O.Write.contents c.args.out.now) (g.O.Write.contents c.merge_files.new.out) a.merging c.merge_files.result (λ m. m)
    c.merge_files.ensures.done c.merge_files.ensures.merged

pub merge_files-requires : goal.merge_files-requires
merge_files-requires g c =
    let a = c.in-Ok-Merge in
    few_parts (subcommand_of definition c.args.words.now) a.merging (subst (λ (x : Asked). NamesAsked (subcommand_of definition c.args.words.now) x) a.field-0-is a.ensures.named)
