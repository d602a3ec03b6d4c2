use Rattle.std.proofs.Common.{◌≡◌, List, ◌∷◌, drop, ap, subst, sym, ◌∙◌}
use Rattle.std.specs.Prelude.{Some, OnOk, slice_get}
use Rattle.kt_fifo.specs.declared.parcels.Parcel.{Parcel}
use Rattle.kt_machine.specs.Seen.{SeenLists}
use Rattle.kt_machine.specs.Transition.{seen_front, is_seen_ready}
use Rattle.kt_system.specs.Systems.{Whole}
use Rattle.kt_system.specs.Shown.{ShowsState}
use Rattle.kt_system.proofs.Taking.{front_is}
use Rattle.std.specs.Prelude.{ℤ, if◌then◌else◌}
use Rattle.std.specs.Int.{w64}
use Rattle.std.proofs.Common.{[], rules}
use Rattle.std.proofs.lemmas.Int.{to_z-of_z}
use Rattle.kt_machine.specs.SeenActs.{seen_acts_taking, seen_acts_arriving}
use Rattle.kt_manager.specs.ShownActs.{acts_shown}
use Rattle.kt_system.proofs.system.System.take_front.Goals as goal

pub returns-in-Ask-clause-shows : goal.returns-in-Ask-clause-shows
returns-in-Ask-clause-shows c = λ v h speaks.
    let at = c.args.at in
    let from = c.args.from in
    let i = subst (λ (w : Whole). ShowsState w v) (sym c.self.view_is) h in
    let got : slice_get (v.channel from at) 0 ≡ Some c.in-Some.parcel = ap (λ (f : SeenLists). slice_get (f from at) 0) (sym i.channels) ∙ (sym c.front.ensures ∙ (sym c.copied.ensures ∙ c.in-Some.is)) in
    let list = front_is (v.channel from at) c.in-Some.parcel got ∙ ap (λ (x : Parcel). x ∷ drop 1 (v.channel from at)) c.in-Ask.is in
    subst (λ (l : List Parcel). OnOk c.take_ask.result (ShowsState c.take_ask.new.self (seen_front v at from c.args.able l))) (sym list) (c.take_ask.ensures.shows v h)

pub returns-in-Reply-clause-shows : goal.returns-in-Reply-clause-shows
returns-in-Reply-clause-shows c = λ v h speaks.
    let at = c.args.at in
    let from = c.args.from in
    let i = subst (λ (w : Whole). ShowsState w v) (sym c.self.view_is) h in
    let got : slice_get (v.channel from at) 0 ≡ Some c.in-Some.parcel = ap (λ (f : SeenLists). slice_get (f from at) 0) (sym i.channels) ∙ (sym c.front.ensures ∙ (sym c.copied.ensures ∙ c.in-Some.is)) in
    let list = front_is (v.channel from at) c.in-Some.parcel got ∙ ap (λ (x : Parcel). x ∷ drop 1 (v.channel from at)) c.in-Reply.is in
    subst (λ (l : List Parcel). OnOk c.take_reply.result (ShowsState c.take_reply.new.self (seen_front v at from c.args.able l))) (sym list) (c.take_reply.ensures.shows v h)

pub returns-in-Decide-clause-shows : goal.returns-in-Decide-clause-shows
returns-in-Decide-clause-shows c = λ v h speaks.
    let at = c.args.at in
    let from = c.args.from in
    let i = subst (λ (w : Whole). ShowsState w v) (sym c.self.view_is) h in
    let got : slice_get (v.channel from at) 0 ≡ Some c.in-Some.parcel = ap (λ (f : SeenLists). slice_get (f from at) 0) (sym i.channels) ∙ (sym c.front.ensures ∙ (sym c.copied.ensures ∙ c.in-Some.is)) in
    let list = front_is (v.channel from at) c.in-Some.parcel got ∙ ap (λ (x : Parcel). x ∷ drop 1 (v.channel from at)) c.in-Decide.is in
    subst (λ (l : List Parcel). OnOk c.take_decision.result (ShowsState c.take_decision.new.self (seen_front v at from c.args.able l))) (sym list) (c.take_decision.ensures.shows v h)

pub returns-in-App-clause-acts : goal.returns-in-App-clause-acts
returns-in-App-clause-acts c = λ v h.
    let at = c.args.at in
    let from = c.args.from in
    let i = subst (λ (w : Whole). ShowsState w v) (sym c.self.view_is) h in
    let got : slice_get (v.channel from at) 0 ≡ Some c.in-Some.parcel = ap (λ (f : SeenLists). slice_get (f from at) 0) (sym i.channels) ∙ (sym c.front.ensures ∙ (sym c.copied.ensures ∙ c.in-Some.is)) in
    let list = front_is (v.channel from at) c.in-Some.parcel got ∙ ap (λ (x : Parcel). x ∷ drop 1 (v.channel from at)) c.in-App.is in
    let fits = to_z-of_z w64 c.in-App.body (search rules) in
    let told = subst (λ (z : ℤ). OnOk c.take_message.result (acts_shown c.take_message.new.acts ≡ (if is_seen_ready v at then [] else seen_acts_arriving v at from z))) fits (c.take_message.ensures.acts v h) in
    subst (λ (l : List Parcel). OnOk c.take_message.result (acts_shown c.take_message.new.acts ≡ seen_acts_taking v at from c.args.able l)) (sym list) told
