use Rattle.kt_picture.proofs.entry.told.Goals as goal

pub returns : goal.returns
returns c = λ upto h f.
    let v = c.args.entry.now.plain in
    let undone = c.is_message_undone.ensures upto v.row v.event f in
    let taken_back = c.is_receive_undone.ensures upto v.row f in
    let in_transit = c.is_in_transit.ensures upto v.row h f in
    let decision = c.joined_decision.ensures upto h in
    λ j. record v {
      is_undone = undone j;
      is_taken_back = taken_back j;
      is_in_transit = in_transit j;
      decision = decision j;
    }
