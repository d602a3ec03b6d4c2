-- A history keeps its deeds sorted.
use Rattle.std.proofs.Common.{◌≡◌, ◌≢◌, ℕ, ◌+◌, ◌-◌, List, [], ◌∷◌, ◌++◌, ap, ◌∙◌, arith}
use Rattle.std.proofs.lemmas.Bool.Decides.{nat_tests}
use Rattle.std.proofs.lemmas.List.{append-nil}
use Rattle.std.proofs.lemmas.List.Elements.{filter_map-append}
use Rattle.kt_spacetime.specs.declared.deeds.Deed.{Deed}
use Rattle.kt_spacetime.specs.declared.deeds.Deed.TheVariants as deed
use Rattle.kt_rules.specs.Lists.{sent_in, received_in, message_sent, message_from}

pub sent_more : (ds es : List Deed) → sent_in (ds ++ es) ≡ sent_in ds ++ sent_in es
sent_more ds es = filter_map-append message_sent ds es

pub received_more : (q : ℕ) (ds es : List Deed) → received_in q (ds ++ es) ≡ received_in q ds ++ received_in q es
received_more q ds es = filter_map-append (message_from q) ds es

received_same : (f m : ℕ) → received_in f (deed.Received m f ∷ []) ≡ m ∷ []
received_same f m = grind (arith, nat_tests)

received_other : (q f m : ℕ) → q ≢ f → received_in q (deed.Received m f ∷ []) ≡ []
received_other q f m n = grind (arith, nat_tests)

pub received_at : (ds : List Deed) (m f : ℕ) → received_in f (ds ++ deed.Received m f ∷ []) ≡ received_in f ds ++ m ∷ []
received_at ds m f = received_more f ds (deed.Received m f ∷ []) ∙ ap (λ (t : List ℕ). received_in f ds ++ t) (received_same f m)

pub received_else : (ds : List Deed) (m f q : ℕ) → q ≢ f → received_in q (ds ++ deed.Received m f ∷ []) ≡ received_in q ds
received_else ds m f q n =
    received_more q ds (deed.Received m f ∷ []) ∙ (ap (λ (t : List ℕ). received_in q ds ++ t) (received_other q f m n) ∙ append-nil (received_in q ds))

pub received_unsent : (ds : List Deed) (m to q : ℕ) → received_in q (ds ++ deed.Sent m to ∷ []) ≡ received_in q ds
received_unsent ds m to q = received_more q ds (deed.Sent m to ∷ []) ∙ append-nil (received_in q ds)
