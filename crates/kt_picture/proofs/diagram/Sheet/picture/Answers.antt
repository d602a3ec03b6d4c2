use Rattle.std.proofs.Common.{◌≡◌, ◌∙◌, ◌++◌, ◌+◌, ℕ, ap, Bool, Option, List, if◌then◌else◌, take}
use Rattle.std.proofs.lemmas.List.{take_min}
use Rattle.std.proofs.lemmas.Result.{IfOk-weaker}
use Rattle.kt_spacetime.specs.declared.event.Event.{Event}
use Rattle.kt_picture.specs.BrokenRow.{breach_rows}
use Rattle.kt_picture.specs.Layers.{picture_text}
use Rattle.kt_picture.specs.Links.{link_at}
use Rattle.kt_picture.specs.Picture.{columns_of}
use Rattle.kt_picture.proofs.DiagramFacts.{byte_is, front_for, lanes_named, same_link, same_reason}
use Rattle.kt_picture.proofs.diagram.Sheet.picture.Goals as goal

pub returns : goal.returns
returns c =
    let names = c.args.names.now in
    let certificates = c.args.evidence.now.certificates.now in
    let rows = c.args.rows.now in
    let count = c.args.self.now.before + c.args.self.now.columns in
    let some = take c.min.result rows in
    let some_is : some ≡ take count rows = ap (λ (n : ℕ). take n rows) c.min.ensures ∙ take_min count rows in
    IfOk-weaker c.text_of.result _ _
    (λ t made log before h told.
    let columns : c.args.self.now.columns + c.from.result ≡ columns_of log before c.args.breach = (λ j. h.columns j + (c.from.ensures ∙ byte_is _ ∙ ap (λ (b : Bool). if b then 1 else 0) c.is_some.ensures) j) in
    let front = front_for c.args.self.now rows log some before certificates h some_is told in
    let lanes = c.in_ok-lanes.ensures ∙ lanes_named c.with_breach.result (log ++ breach_rows c.args.breach) (c.with_breach.ensures log h.named) in
    made
    ∙ (λ j. picture_text (record {
      names = names;
      lanes = lanes j;
      before = h.before_is j;
      columns = columns j;
      right = h.columns j + 1;
      shown = h.shown j;
      cuts = h.cuts j;
      ends = h.ends j;
      breach = c.args.breach;
      link = λ (msg : ℕ). (ap (λ (l : List (Option ℕ)). link_at l msg) c.as_slice.ensures.value ∙ c.in_ok-links.ensures msg ∙ same_link some log certificates msg front) j;
      orphan = c.args.evidence.now.orphan;
      reason = λ (row : Event). same_reason names some log certificates row front j;
    }) c.args.caption.now))
    c.text_of.ensures
