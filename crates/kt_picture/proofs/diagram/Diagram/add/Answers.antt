use Rattle.std.proofs.Common.{◌≡◌, ◌∙◌, ◌++◌, ◌∷◌, [], ℕ, Option, List, ap, arith, length, map, subst, sym}
use Rattle.std.proofs.lemmas.List.{length-map, length_push}
use Rattle.kt_meaning.specs.Past.{Past}
use Rattle.kt_meaning.proofs.Items.{written}
use Rattle.kt_meaning.proofs.LegalLogs.{legal_last, rows_length}
use Rattle.kt_picture.specs.declared.entry.Entry.{Entry}
use Rattle.kt_picture.specs.declared.window.Shown.{Shown}
use Rattle.kt_picture.specs.DiagramOf.{seen_in}
use Rattle.kt_picture.specs.Followed.{AreFollowed, IsFollowedAs, message_in, plain_of}
use Rattle.kt_picture.proofs.DiagramFacts.{diagram_added}
use Rattle.kt_picture.proofs.WindowFacts.{known_next}
use Rattle.kt_picture.proofs.diagram.Diagram.add.Goals as goal

pub returns-clause-added : goal.returns-clause-added
returns-clause-added c = λ front window h.
    let row = c.args.row.now in
    let d = c.args.self.now in
    let log = front ++ window in
    let more = log ++ row ∷ [] in
    let seen = seen_in front window in
    let fed = c.in_ok-feed.ensures.fed log h.known.walk in
    let after = c.after-after.ensures in
    let known = known_next d.known c.after-after.result c.args.walk.now c.feed.new.self seen log row h.known fed.1 after.column after.latest after.taken (after.places log h.known.walk) in
    let plain = c.plain-plain.ensures seen log h.known in
    let taken = c.taken_by-taken.ensures log h.known.walk (legal_last log row fed.0).1 in
    let value = c.deref_mut.ensures.value in
    let new = c.follow.new.entries in
    let plains : map plain_of new ≡ map plain_of d.entries.items = c.follow.ensures.plain ∙ ap (map plain_of) value in
    let all : length new ≡ d.entries.len = sym (length-map new plain_of) ∙ ap length plains ∙ length-map d.entries.items plain_of ∙ sym d.entries.ok.0 in
    let same = written d.entries.len new d.entries.items all in
    let next : c.after-msg.result ≡ length more = omega (arith, c.after-msg.ensures, c.rows.ensures.rows, h.known.walk.control.number, length_push log row) in
    let number : c.after-msg.result ≡ c.plain-plain.result.row = omega (arith, c.after-msg.ensures, c.rows.ensures.rows, h.known.walk.control.number, ap (λ (v : Shown). v.row) plain, ap (λ (s : Past). s.rows) h.known.past, rows_length log) in
    let event : row ≡ c.plain-plain.result.event = sym (ap (λ (v : Shown). v.event) plain) in
    let message = c.message_of-message.ensures log fed.1 next taken in
    diagram_added d _ c.args.walk.now c.feed.new.self front window row _ h known c.with_named-self.ensures plain _ (ap (map plain_of) same ∙ plains) c.in_ok-push_item.ensures
    (subst (λ (l : List Entry). AreFollowed more l) (sym same) (c.follow.ensures.followed log fed.1 (subst (λ (l : List Entry). AreFollowed log l) (sym value) h.followed)))
    (subst (λ (o : Option ℕ). IsFollowedAs more o c.message_of-message.result) (λ j. message_in (number j) (event j)) message)
    c.in_ok-push_cut.ensures
