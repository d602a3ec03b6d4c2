-- The label of a message that is held, behind those that are kept.
use Rattle.std.specs.Prelude.{Option, map, slice_get}
use Rattle.std.specs.Option.{option_map}
use Rattle.std.proofs.Common.{◌≡◌, ◌∙◌, ℕ, suc, ◌+◌, List, [], ◌∷◌, ◌++◌, length, sym, ap, arith}
use Rattle.std.proofs.lemmas.List.{length-map}
use Rattle.std.proofs.lemmas.Option.{slice_get-map}
use Rattle.kt_manager.specs.declared.received.Item.{Item}
use Rattle.kt_manager.specs.Inboxes.{InboxLists, held_of}
use Rattle.kt_manager.specs.Managers.{as_parcel}
use Rattle.kt_node.specs.Meetings.{label_of}

behind : (kept held : List Item) (i : ℕ) → slice_get (kept ++ held) (length kept + i) ≡ slice_get held i
behind [] held i = let e : 0 + i ≡ i = omega arith in ap (slice_get held) e
behind (x ∷ kept) held i = let e : suc (length kept) + i ≡ suc (length kept + i) = omega arith in ap (slice_get (x ∷ (kept ++ held))) e ∙ behind kept held i

pub label_is : (kept held : List Item) (i n : ℕ) (o : Option Item) → n ≡ length kept → o ≡ slice_get (kept ++ held) (n + i) → label_of (option_map as_parcel o) ≡ label_of (slice_get (map as_parcel held) i)
label_is kept held i n o e f =
    ap label_of (ap (option_map as_parcel) (f ∙ (ap (λ (m : ℕ). slice_get (kept ++ held) (m + i)) e ∙ behind kept held i)) ∙ sym (slice_get-map as_parcel held i))

-- how many are held, in the same inbox
pub held_is : (a b : InboxLists) (q n : ℕ) → a ≡ b → n ≡ length (map as_parcel (held_of b q)) → n ≡ length (held_of a q)
held_is a b q n e h = h ∙ (length-map (held_of b q) as_parcel ∙ ap (λ (x : InboxLists). length (held_of x q)) (sym e))
