use Rattle.kt_threads.proofs.outcome.run_cast.Given as goal

-- the history that was just opened
abbrev pub ghosts-work_out : goal.ghosts-work_out
ghosts-work_out g a = record { book = a.opened.book }
