use Rattle.kt_draw.proofs.drawing.draw_stream.Goals as goal

pub returns-clause-picture : goal.returns-clause-picture
returns-clause-picture g c = c.draw_rows.ensures.picture (g.L.Read.remaining c.args.reader) c.in_ok-rows.ensures

pub returns-clause-fault : goal.returns-clause-fault
returns-clause-fault g c = c.draw_rows.ensures.fault (g.L.Read.remaining c.args.reader) c.in_ok-rows.ensures
