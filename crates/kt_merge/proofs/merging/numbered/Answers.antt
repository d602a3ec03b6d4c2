use Rattle.kt_merge.proofs.merging.numbered.Goals as goal

pub keep-requires : goal.keep-requires
keep-requires c = (c.requires.0, c.requires.1, (c.in-Ok.ensures.found c.requires.0 c.requires.1).1)
