-- Deeds of a history, by their places.
use Rattle.std.proofs.Common.{◌≡◌, ℕ, suc, Bool, true, false, Some, List, [], ◌∷◌, refl, ap, arith}
use Rattle.std.specs.List.{slice_get}
use Rattle.std.proofs.lemmas.Bool.Decides.{nat_tests}
use Rattle.kt_spacetime.specs.declared.deeds.Deed.{Deed}
use Rattle.kt_spacetime.specs.declared.deeds.Deed.TheVariants as deed
use Rattle.kt_meaning.specs.Legal.{is_deed, has_deed}

-- a history that has a deed has it at a place
pub same_deed : (d e : Deed) → is_deed d e ≡ true → e ≡ d
same_deed (deed.Sent m p) (deed.Sent n q) h = grind (arith, nat_tests, h)
same_deed (deed.Received m p) (deed.Received n q) h = grind (arith, nat_tests, h)
same_deed (deed.Sent m p) (deed.Received n q) h = absurd (cc)
same_deed (deed.Received m p) (deed.Sent n q) h = absurd (cc)

here_or_later : (d e : Deed) (l : List Deed) (b : Bool) → is_deed d e ≡ b → has_deed d (e ∷ l) ≡ true → (has_deed d l ≡ true → (i : ℕ) × (slice_get l i ≡ Some d))
    → (i : ℕ) × (slice_get (e ∷ l) i ≡ Some d)
here_or_later d e l true is h later = (0, ap Some (same_deed d e is))
here_or_later d e l false is h later =
    let there = later (rw is at h) in
    (suc there.0, there.1)

pub place_of_deed : (d : Deed) (l : List Deed) → has_deed d l ≡ true → (i : ℕ) × (slice_get l i ≡ Some d)
place_of_deed d [] h = absurd (cc)
place_of_deed d (e ∷ l) h = here_or_later d e l (is_deed d e) refl h (place_of_deed d l)
