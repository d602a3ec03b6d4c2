-- The parts of a list of calls.
use Rattle.std.specs.Prelude.{if◌then◌else◌}
use Rattle.std.proofs.Common.{◌≡◌, ℕ, Bool, true, false, List, [], ◌∷◌, ◌++◌, refl, arith, sym, ap, subst, ◌∙◌, append_assoc}
use Rattle.std.proofs.lemmas.Bool.Decides.{nat_tests}
use Rattle.std.proofs.lemmas.Grind.{fold-append}
use Rattle.std.proofs.lemmas.List.{append-nil}
use Rattle.kt_tables.specs.Labels.{LabelsRise}
use Rattle.kt_tables.specs.Calls.{Call, sent, received, on_tentative, on_commit, on_abort, on_rollback, PartsOfCalls, no_parts, parts_after, parts, sents, receiveds, Speaks}
use Rattle.kt_tables.proofs.LabelLists.{Rises_end}

pub parts_push : (calls : List Call) (c : Call) → parts (calls ++ c ∷ []) ≡ parts_after (parts calls) c
parts_push calls c = fold-append parts_after no_parts calls (c ∷ [])

pub sents-append : (q : ℕ) (front rest : List Call) → sents q (front ++ rest) ≡ sents q front ++ sents q rest
sents-append q [] rest = refl
sents-append q (sent p l ∷ front) rest = let h = sents-append q front rest in grind (arith, nat_tests)
sents-append q (received p l ∷ front) rest = sents-append q front rest
sents-append q (on_tentative ∷ front) rest = sents-append q front rest
sents-append q (on_commit ∷ front) rest = sents-append q front rest
sents-append q (on_abort ∷ front) rest = sents-append q front rest
sents-append q (on_rollback ∷ front) rest = sents-append q front rest

pub receiveds-append : (q : ℕ) (front rest : List Call) → receiveds q (front ++ rest) ≡ receiveds q front ++ receiveds q rest
receiveds-append q [] rest = refl
receiveds-append q (sent p l ∷ front) rest = receiveds-append q front rest
receiveds-append q (received p l ∷ front) rest = let h = receiveds-append q front rest in grind (arith, nat_tests)
receiveds-append q (on_tentative ∷ front) rest = receiveds-append q front rest
receiveds-append q (on_commit ∷ front) rest = receiveds-append q front rest
receiveds-append q (on_abort ∷ front) rest = receiveds-append q front rest
receiveds-append q (on_rollback ∷ front) rest = receiveds-append q front rest

-- what holds of the empty list and goes on over each call holds of every list
pub by_calls : (P : List Call → Type 0) → P [] → ((calls : List Call) (c : Call) → P calls → P (calls ++ c ∷ [])) → (calls : List Call) → P calls
by_calls P none more calls = from [] calls none
  where
    from : (front rest : List Call) → P front → P (front ++ rest)
    from front [] h = subst P (sym (append-nil front)) h
    from front (c ∷ rest) h = subst P (append_assoc front (c ∷ []) rest) (from (front ++ c ∷ []) rest (more front c h))

-- where the parts stand in the list
pub record Ends (calls : List Call) (p : PartsOfCalls) : Type 0 where
  pub whole : p.calls ≡ calls
  pub none_aside : p.is_open ≡ false → p.aside ≡ []
  pub last : (front : List Call) × (p.since_rollback ≡ front ++ (p.aside ++ p.since))
  pub rolled : (front : List Call) × (calls ≡ front ++ p.since_rollback)
  pub opened : p.is_open ≡ true → calls ≡ p.cut ++ on_tentative ∷ p.since

last_more : (whole front aside since : List Call) (c : Call) → whole ≡ front ++ (aside ++ since) → whole ++ c ∷ [] ≡ front ++ (aside ++ (since ++ c ∷ []))
last_more whole front aside since c e =
    ap (λ (l : List Call). l ++ c ∷ []) e ∙ (append_assoc front (aside ++ since) (c ∷ []) ∙ ap (λ (l : List Call). front ++ l) (append_assoc aside since (c ∷ [])))

rolled_more : (calls front rest : List Call) (c : Call) → calls ≡ front ++ rest → calls ++ c ∷ [] ≡ front ++ (rest ++ c ∷ [])
rolled_more calls front rest c e = ap (λ (l : List Call). l ++ c ∷ []) e ∙ append_assoc front rest (c ∷ [])

opened_more : (calls cut since : List Call) (c : Call) → calls ≡ cut ++ on_tentative ∷ since → calls ++ c ∷ [] ≡ cut ++ on_tentative ∷ (since ++ c ∷ [])
opened_more calls cut since c e = ap (λ (l : List Call). l ++ c ∷ []) e ∙ append_assoc cut (on_tentative ∷ since) (c ∷ [])

ends_after : (calls : List Call) (p : PartsOfCalls) (c : Call) → Ends calls p → Ends (calls ++ c ∷ []) (parts_after p c)
ends_after calls p (sent q l) h = record {
  whole = ap (λ (x : List Call). x ++ sent q l ∷ []) h.whole;
  none_aside = h.none_aside;
  last = (h.last.0, last_more _ h.last.0 p.aside p.since (sent q l) h.last.1);
  rolled = (h.rolled.0, rolled_more calls h.rolled.0 p.since_rollback (sent q l) h.rolled.1);
  opened = λ o. opened_more calls p.cut p.since (sent q l) (h.opened o);
}
ends_after calls p (received q l) h = record {
  whole = ap (λ (x : List Call). x ++ received q l ∷ []) h.whole;
  none_aside = h.none_aside;
  last = (h.last.0, last_more _ h.last.0 p.aside p.since (received q l) h.last.1);
  rolled = (h.rolled.0, rolled_more calls h.rolled.0 p.since_rollback (received q l) h.rolled.1);
  opened = λ o. opened_more calls p.cut p.since (received q l) (h.opened o);
}
ends_after calls p on_tentative h = record {
  whole = ap (λ (x : List Call). x ++ on_tentative ∷ []) h.whole;
  none_aside = λ o. absurd (cc (o));
  last = (h.last.0 ++ p.aside, tentative_last p.since_rollback h.last.0 p.aside p.since h.last.1);
  rolled = (h.rolled.0, rolled_more calls h.rolled.0 p.since_rollback on_tentative h.rolled.1);
  opened = λ o. ap (λ (x : List Call). x ++ on_tentative ∷ []) (sym h.whole);
}
  where
    tentative_last : (whole front aside since : List Call) → whole ≡ front ++ (aside ++ since) →
        whole ++ on_tentative ∷ [] ≡ (front ++ aside) ++ ((since ++ on_tentative ∷ []) ++ [])
    tentative_last whole front aside since e =
        ap (λ (l : List Call). l ++ on_tentative ∷ []) (e ∙ sym (append_assoc front aside since))
        ∙ (append_assoc (front ++ aside) since (on_tentative ∷ []) ∙ ap (λ (l : List Call). (front ++ aside) ++ l) (sym (append-nil (since ++ on_tentative ∷ []))))
ends_after calls p on_commit h = record {
  whole = ap (λ (x : List Call). x ++ on_commit ∷ []) h.whole;
  none_aside = λ o. refl;
  last = (h.last.0 ++ p.aside, ap (λ (l : List Call). l ++ on_commit ∷ []) (h.last.1 ∙ sym (append_assoc h.last.0 p.aside p.since)) ∙ append_assoc (h.last.0 ++ p.aside) p.since (on_commit ∷ []));
  rolled = (h.rolled.0, rolled_more calls h.rolled.0 p.since_rollback on_commit h.rolled.1);
  opened = λ o. absurd (cc (o));
}
ends_after calls p on_abort h = record {
  whole = ap (λ (x : List Call). x ++ on_abort ∷ []) h.whole;
  none_aside = λ o. refl;
  last = (h.last.0, last_more p.since_rollback h.last.0 p.aside p.since on_abort h.last.1);
  rolled = (h.rolled.0, rolled_more calls h.rolled.0 p.since_rollback on_abort h.rolled.1);
  opened = λ o. absurd (cc (o));
}
ends_after calls p on_rollback h = record {
  whole = ap (λ (x : List Call). x ++ on_rollback ∷ []) h.whole;
  none_aside = λ o. refl;
  last = ([], refl);
  rolled = (calls ++ on_rollback ∷ [], sym (append-nil (calls ++ on_rollback ∷ [])));
  opened = λ o. absurd (cc (o));
}

pub ends : (calls : List Call) → Ends calls (parts calls)
ends calls = by_calls (λ calls. Ends calls (parts calls))
    (record { whole = refl; none_aside = λ o. refl; last = ([], refl); rolled = ([], refl); opened = λ o. absurd (cc (o)) })
    (λ calls c h. subst (λ (p : PartsOfCalls). Ends (calls ++ c ∷ []) p) (sym (parts_push calls c)) (ends_after calls (parts calls) c h)) calls

-- nothing is sent while a tentative checkpoint is open
abbrev pub Apart : List Call → Type 0
Apart calls = (front rest : List Call) (q l : ℕ) → calls ≡ front ++ sent q l ∷ rest → (parts front).is_open ≡ false

abbrev pub Quiet : PartsOfCalls → Type 0
Quiet p = p.is_open ≡ true → (q : ℕ) → sents q p.since ≡ []

apart_front : (calls : List Call) (c : Call) → Apart (calls ++ c ∷ []) → Apart calls
apart_front calls c a front rest q l e =
    a front (rest ++ c ∷ []) q l (ap (λ (x : List Call). x ++ c ∷ []) e ∙ append_assoc front (sent q l ∷ rest) (c ∷ []))

nothing_more : (q : ℕ) (since : List Call) (c : Call) → sents q since ≡ [] → sents q (c ∷ []) ≡ [] → sents q (since ++ c ∷ []) ≡ []
nothing_more q since c e f = rw (sents-append q since (c ∷ []), e, f) refl

quiet_after : (p : PartsOfCalls) (c : Call) → ((q l : ℕ) → c ≡ sent q l → p.is_open ≡ false) → Quiet p → Quiet (parts_after p c)
quiet_after p (sent q l) a h = λ o r. let n = a q l refl in absurd (cc (n, o))
quiet_after p (received q l) a h = λ o r. nothing_more r p.since (received q l) (h o r) refl
quiet_after p on_tentative a h = λ o r. refl
quiet_after p on_commit a h = λ o r. absurd (cc (o))
quiet_after p on_abort a h = λ o r. absurd (cc (o))
quiet_after p on_rollback a h = λ o r. absurd (cc (o))

pub quiet : (calls : List Call) → Apart calls → Quiet (parts calls)
quiet calls = by_calls (λ calls. Apart calls → Quiet (parts calls)) (λ a o q. refl)
    (λ calls c h a. subst Quiet (sym (parts_push calls c))
    (quiet_after (parts calls) c (λ q l e. a calls [] q l (ap (λ (x : Call). calls ++ x ∷ []) e)) (h (apart_front calls c a)))) calls

-- *since* is an end of the list
pub since_ends : (calls : List Call) → (front : List Call) × (calls ≡ front ++ (parts calls).since)
since_ends calls =
    let h = ends calls in
    let f = h.rolled.0 in
    let g = h.last.0 in
    let p = parts calls in
    (f ++ (g ++ p.aside), h.rolled.1 ∙ (ap (λ (l : List Call). f ++ l) (h.last.1 ∙ sym (append_assoc g p.aside p.since)) ∙ sym (append_assoc f (g ++ p.aside) p.since)))

-- the labels sent in *since* rise
pub sent_rises : (calls : List Call) → Speaks calls → (q : ℕ) → LabelsRise 0 (sents q (parts calls).since)
sent_rises calls s q =
    let h = since_ends calls in
    Rises_end (sents q h.0) (sents q (parts calls).since) 0
    (subst (λ (l : List ℕ). LabelsRise 0 l) (sents-append q h.0 (parts calls).since) (subst (λ (l : List Call). LabelsRise 0 (sents q l)) h.1 (s.sent_rise q)))

-- so do the labels received in *since*
pub received_rises : (calls : List Call) → Speaks calls → (q : ℕ) → LabelsRise 0 (receiveds q (parts calls).since)
received_rises calls s q =
    let h = ends calls in
    let p = parts calls in
    let f = h.last.0 ++ p.aside in
    let e : p.since_rollback ≡ f ++ p.since = h.last.1 ∙ sym (append_assoc h.last.0 p.aside p.since) in
    Rises_end (receiveds q f) (receiveds q p.since) 0
    (subst (λ (l : List ℕ). LabelsRise 0 l) (receiveds-append q f p.since) (subst (λ (l : List Call). LabelsRise 0 (receiveds q l)) e (s.received_rise q)))

-- *before* is a beginning of the list, and so is the list cut before an open tentative checkpoint
record Begins (calls : List Call) (p : PartsOfCalls) : Type 0 where
  before : (rest : List Call) × (calls ≡ p.before ++ rest)
  cut : p.is_open ≡ true → (rest : List Call) × (calls ≡ p.cut ++ rest)

begins_more : (calls front : List Call) (c : Call) → (rest : List Call) × (calls ≡ front ++ rest) → (rest : List Call) × (calls ++ c ∷ [] ≡ front ++ rest)
begins_more calls front c h = (h.0 ++ c ∷ [], rolled_more calls front h.0 c h.1)

begins_after : (calls : List Call) (p : PartsOfCalls) (c : Call) → p.calls ≡ calls → Begins calls p → Begins (calls ++ c ∷ []) (parts_after p c)
begins_after calls p (sent q l) e h = record { before = begins_more calls p.before (sent q l) h.before; cut = λ o. begins_more calls p.cut (sent q l) (h.cut o) }
begins_after calls p (received q l) e h = record { before = begins_more calls p.before (received q l) h.before; cut = λ o. begins_more calls p.cut (received q l) (h.cut o) }
begins_after calls p on_tentative e h = record {
  before = begins_more calls p.before on_tentative h.before;
  cut = λ o. (on_tentative ∷ [], ap (λ (x : List Call). x ++ on_tentative ∷ []) (sym e));
}
begins_after calls p on_commit e h = record {
  before = begins_more calls (if p.is_open then p.cut else p.before) on_commit (either p.is_open refl);
  cut = λ o. absurd (cc (o));
}
  where
    either : (b : Bool) → p.is_open ≡ b → (rest : List Call) × (calls ≡ (if b then p.cut else p.before) ++ rest)
    either true o = h.cut o
    either false o = h.before
begins_after calls p on_abort e h = record { before = begins_more calls p.before on_abort h.before; cut = λ o. absurd (cc (o)) }
begins_after calls p on_rollback e h = record { before = begins_more calls p.before on_rollback h.before; cut = λ o. absurd (cc (o)) }

begins : (calls : List Call) → Begins calls (parts calls)
begins calls = by_calls (λ calls. Begins calls (parts calls)) (record { before = ([], refl); cut = λ o. absurd (cc (o)) })
    (λ calls c h. subst (λ (p : PartsOfCalls). Begins (calls ++ c ∷ []) p) (sym (parts_push calls c)) (begins_after calls (parts calls) c (ends calls).whole h)) calls

pub before_begins : (calls : List Call) → (rest : List Call) × (calls ≡ (parts calls).before ++ rest)
before_begins calls = (begins calls).before

-- what is kept aside is *since* of the list cut before the tentative checkpoint
abbrev pub IsAside : PartsOfCalls → Type 0
IsAside p = p.is_open ≡ true → p.aside ≡ (parts p.cut).since ++ on_tentative ∷ []

aside_after : (calls : List Call) (c : Call) → IsAside (parts calls) → IsAside (parts_after (parts calls) c)
aside_after calls (sent q l) h = h
aside_after calls (received q l) h = h
aside_after calls on_tentative h = λ o. ap (λ (x : List Call). (parts x).since ++ on_tentative ∷ []) (sym (ends calls).whole)
aside_after calls on_commit h = λ o. absurd (cc (o))
aside_after calls on_abort h = λ o. absurd (cc (o))
aside_after calls on_rollback h = λ o. absurd (cc (o))

pub aside_is : (calls : List Call) → IsAside (parts calls)
aside_is calls = by_calls (λ calls. IsAside (parts calls)) (λ o. absurd (cc (o)))
    (λ calls c h. subst IsAside (sym (parts_push calls c)) (aside_after calls c h)) calls
