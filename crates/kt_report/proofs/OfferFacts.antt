-- What objects offer, after one more row.
use Rattle.std.proofs.Common.{arith, ◌≡◌, ◌≢◌, ◌∙◌, ◌<◌, ◌≤◌, ◌+◌, ℕ, ℤ, Bool, true, false, List, [], ◌∷◌, ◌++◌, Option, Some, None, length, map, set, take, get_or, refl, sym, ap, inl, inr, length-set}
use Rattle.std.specs.Prelude.{◌==◌, if◌then◌else◌, option_map, slice_get, slice_index}
use Rattle.std.proofs.lemmas.Bool.{cases_eq}
use Rattle.std.proofs.lemmas.Bool.Decides.{nat_tests}
use Rattle.std.proofs.lemmas.List.{length-map, map-append, take_more, append-nil}
use Rattle.std.proofs.lemmas.List.FromFn.{fill_by_all}
use Rattle.std.proofs.lemmas.Option.{slice_get-map, slice_get_within, get_or_from_slice_get}
use Rattle.kt_spacetime.specs.declared.event.Event.{Event}
use Rattle.kt_spacetime.specs.Events.{process_of}
use Rattle.kt_meaning.specs.Legal.{IsLegal}
use Rattle.kt_meaning.proofs.Items.{item_there, get_set_same, get_set_other, some_same}
use Rattle.kt_plan.specs.declared.steps.Act.{Act as PlainAct}
use Rattle.kt_machine.specs.Done.{done}
use Rattle.kt_machine.specs.Values.{Act, Rules, Due, due, first_due, does_all, acts_of}
use Rattle.kt_machine.specs.Offers.{offer}
use Rattle.kt_machine.proofs.ActsAlong.{along}
use Rattle.kt_report.specs.declared.offers.Offers.{Offers}
use Rattle.kt_report.specs.Exact.{rules_of_kind, offers_in}
use Rattle.kt_report.specs.Shown.{act_of, offers_of, ShowsOffers}

-- what is offered is what the definition of the report says
pub offers_are : (list : List Offers) (kinds : List ℕ) (rows : List Event) → ShowsOffers list kinds rows → map (λ o. o.now) list ≡ offers_in kinds rows
offers_are list kinds rows h = fill_by_all offered_by (map (λ o. o.now) list) (length kinds) None (length-map list (λ o. o.now) ∙ h.count) at
  where
    offered_by : ℕ → Option ℤ
    offered_by p = offer (rules_of_kind (slice_index kinds p)) rows p

    at : (p : ℕ) → p < length kinds → get_or (map (λ o. o.now) list) p None ≡ offered_by p
    at p l =
        let there = item_there list p (omega (arith, l, h.count)) in
        get_or_from_slice_get (map (λ o. o.now) list) p there.0.now None (slice_get-map (λ o. o.now) list p ∙ ap (option_map (λ o. o.now)) there.1)
        ∙ ap (λ (o : Offers). o.now) (h.each p there.0 there.1)

-- what a new object of a kind offers
abbrev pub new_offers : ℕ → Offers
new_offers kind = offers_of kind (first_due (rules_of_kind kind))

-- a new object more
pub new_more : (kinds : List ℕ) (i : ℕ) (old new : List Offers) (x : Offers) → i < length kinds → old ≡ map new_offers (take i kinds) → x ≡ new_offers (get_or kinds i 0) → new ≡ old ++ x ∷ []
    → new ≡ map new_offers (take (i + 1) kinds)
new_more kinds i old new x within so_far same more =
    more ∙ ap (λ (l : List Offers). l ++ x ∷ []) so_far ∙ ap (λ (y : Offers). map new_offers (take i kinds) ++ y ∷ []) same
    ∙ sym (ap (map new_offers) (take_more kinds i 0 within) ∙ map-append new_offers (take i kinds) (get_or kinds i 0 ∷ []))

-- new objects offer what is due before the first row
pub new_objects_show : (kinds : List ℕ) → ShowsOffers (map new_offers kinds) kinds []
new_objects_show kinds = record {
  count = length-map kinds new_offers;
  each = λ p o e. at p o (slice_get kinds p) refl (sym (slice_get-map new_offers kinds p) ∙ e);
}
  where
    at : (p : ℕ) (o : Offers) (k : Option ℕ) → slice_get kinds p ≡ k → option_map new_offers k ≡ Some o → o ≡ offers_of (slice_index kinds p) (due (rules_of_kind (slice_index kinds p)) (done []) p)
    at p o None e f = absurd (cc)
    at p o (Some kind) e f = sym (some_same f) ∙ ap new_offers (sym (get_or_from_slice_get kinds p kind 0 e))

module _ (rows : List Event) (row : Event) (legal : IsLegal (rows ++ row ∷ [])) where
  -- the acts of a process at one more row
  at_row : (r : Rules (List ℤ)) (u : ℕ) (b : Bool) → (u == process_of row) ≡ b → does_all r (due r (done rows) u) ((if b then acts_of (done rows) row else []) ++ []) ≡ due r (done (rows ++ row ∷ [])) u
  at_row r u b e = rw e at (along r rows (row ∷ []) u legal)

  -- of another process the same is due
  other_due : (r : Rules (List ℤ)) (u : ℕ) → u ≢ process_of row → due r (done rows) u ≡ due r (done (rows ++ row ∷ [])) u
  other_due r u n = at_row r u false (grind (arith, nat_tests, n))

  -- of the row's process, what its act leads to
  own_due : (r : Rules (List ℤ)) (u : ℕ) (acts : List Act) → u ≡ process_of row → acts ≡ acts_of (done rows) row → does_all r (due r (done rows) u) acts ≡ due r (done (rows ++ row ∷ [])) u
  own_due r u acts e is =
      ap (does_all r (due r (done rows) u)) (is ∙ sym (append-nil (acts_of (done rows) row))) ∙ at_row r u true (grind (arith, nat_tests, e))

  -- an object follows the act of its process
  pub acted : (list : List Offers) (kinds : List ℕ) (p : ℕ) (act : PlainAct) (x y : Offers) → p ≡ process_of row → act_of act ≡ acts_of (done rows) row → slice_get list p ≡ Some x
      → ((kind : ℕ) (d : Due (List ℤ)) → x ≡ offers_of kind d → y ≡ offers_of kind (does_all (rules_of_kind kind) d (act_of act))) → ShowsOffers list kinds rows → ShowsOffers (set list p y) kinds (rows ++ row ∷ [])
  acted list kinds p act x y whose is there follows h = record {
    count = length-set list p y ∙ h.count;
    each = λ u o e. elim (cases_eq u p) [
      | inl same ↦
          let k = slice_index kinds u in
          let was : slice_get list u ≡ Some x = ap (slice_get list) same ∙ there in
          let now : y ≡ o = some_same (sym (get_set_same list p y (slice_get_within list p x there)) ∙ ap (slice_get (set list p y)) (sym same) ∙ e) in
          sym now ∙ follows k (due (rules_of_kind k) (done rows) u) (h.each u x was) ∙ ap (offers_of k) (own_due (rules_of_kind k) u (act_of act) (same ∙ whose) is)
      | inr n ↦
          let k = slice_index kinds u in
          h.each u o (sym (get_set_other list p u y n) ∙ e) ∙ ap (offers_of k) (other_due (rules_of_kind k) u (λ same. n (same ∙ sym whose)))
    ];
  }

  -- no object is the process's
  pub no_object_acted : (list : List Offers) (kinds : List ℕ) (p : ℕ) → p ≡ process_of row → length list ≤ p → ShowsOffers list kinds rows → ShowsOffers list kinds (rows ++ row ∷ [])
  no_object_acted list kinds p whose past h = record {
    count = h.count;
    each = λ u o e.
        let k = slice_index kinds u in
        let within = slice_get_within list u o e in
        h.each u o e ∙ ap (offers_of k) (other_due (rules_of_kind k) u (λ same. omega (arith, within, past, same ∙ sym whose)));
  }

  -- the process does nothing to its object
  pub none_acted : (list : List Offers) (kinds : List ℕ) → [] ≡ acts_of (done rows) row → ShowsOffers list kinds rows → ShowsOffers list kinds (rows ++ row ∷ [])
  none_acted list kinds idle h = record {
    count = h.count;
    each = λ u o e.
        let k = slice_index kinds u in
        h.each u o e ∙ ap (offers_of k) (elim (cases_eq u (process_of row)) [
          | inl same ↦ own_due (rules_of_kind k) u [] same idle
          | inr n ↦ other_due (rules_of_kind k) u n
        ]);
  }
