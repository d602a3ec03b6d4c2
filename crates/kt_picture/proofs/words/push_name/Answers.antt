use Rattle.std.proofs.Common.{◌≡◌, ◌∙◌, Some, None, ap, sym, refl, length}
use Rattle.std.proofs.lemmas.Option.{slice_get-map, slice_get_past, slice_get_read}
use Rattle.std.specs.List.{slice_get}
use Rattle.std.specs.Option.{option_map}
use Rattle.std.specs.String.{string_bytes}
use Rattle.kt_picture.proofs.EscapeFacts.{name_at, number_at}
use Rattle.kt_picture.proofs.Gathering.{same_piece}
use Rattle.kt_picture.proofs.words.push_name.Goals as goal

pub returns-in_ok-write-in-Some : goal.returns-in_ok-write-in-Some
returns-in_ok-write-in-Some c =
    let list = c.list.result.now in
    let i = c.index.result in
    let name = c.in-Some.name.now in
    let there = slice_get_read list (length list) i name refl c.in-Some.ensures.lookup.3.0 c.in-Some.ensures.lookup.1 in
    let at : slice_get c.args.names.now c.args.p ≡ Some (string_bytes name) =
    (λ j. slice_get (sym c.list.ensures.list j) (sym c.index.ensures.value j)) ∙ slice_get-map string_bytes list i ∙ ap (option_map string_bytes) there in
    same_piece (string_bytes c.args.text.now) (string_bytes c.write.new.self) _ _ c.in_ok-write-in-Some.ensures.bytes (sym (name_at c.args.names.now c.args.p (string_bytes name) c.list.ensures.names at))

pub returns-in_ok-write-in-None : goal.returns-in_ok-write-in-None
returns-in_ok-write-in-None c =
    let list = c.list.result.now in
    let i = c.index.result in
    let at : slice_get c.args.names.now c.args.p ≡ None =
    (λ j. slice_get (sym c.list.ensures.list j) (sym c.index.ensures.value j)) ∙ slice_get-map string_bytes list i ∙ ap (option_map string_bytes) (slice_get_past list i c.in-None.ensures.lookup.3) in
    same_piece (string_bytes c.args.text.now) (string_bytes c.write-in-None.new.self) _ _ c.in_ok-write-in-None.ensures.bytes (sym (number_at c.args.names.now c.args.p at))
