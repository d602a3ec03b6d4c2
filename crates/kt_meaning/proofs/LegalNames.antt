-- A legal log has names.
use Rattle.std.proofs.Common.{◌≡◌, ◌∙◌, ℕ, zero, suc, ◌+◌, ◌≤◌, true, Some, None, option_map, List, [], ◌∷◌, ◌++◌, length, refl, sym, ap, subst, arith, length-append}
use Rattle.std.specs.Prelude.{fold, nat_le}
use Rattle.std.specs.List.{slice_get}
use Rattle.std.specs.Option.{option_and_then}
use Rattle.std.proofs.lemmas.Bool.Decides.{nat_tests}
use Rattle.kt_base.specs.declared.words.Cause.{Cause}
use Rattle.kt_base.specs.declared.words.Cause.TheVariants as cause
use Rattle.kt_spacetime.specs.declared.event.Event.{Event}
use Rattle.kt_spacetime.specs.declared.event.Event.TheVariants.{Sent, Received, Dropped, Began, Took, Ready, Unwilling, Decided, Closed, Failed, Refused}
use Rattle.kt_spacetime.specs.Events.{process_of}
use Rattle.kt_spacetime.specs.declared.deeds.Deed.TheVariants as deed
use Rattle.kt_meaning.specs.Past.{Past, start, past, after}
use Rattle.kt_meaning.specs.Legal.{IsLegal, broken_rule, has_begun, has_deed, names_begun}
use Rattle.kt_meaning.proofs.DeedFacts.{place_of_deed}
use Rattle.kt_meaning.proofs.LegalLogs.{kept, legal_log_induction}
use Rattle.kt_meaning.proofs.Places.{rowed}
use Rattle.kt_meaning.proofs.RowRules.{both}
use Rattle.kt_meaning.proofs.Shown.{at_same}
use Rattle.kt_meaning.proofs.Items.{some_same}
use Rattle.kt_meaning.proofs.Updates.{at_one_all}
use Rattle.kt_spacetime.specs.declared.names.InstName.{InstName}
use Rattle.kt_spacetime.specs.declared.named_rows.NamedCause.{NamedCause}
use Rattle.kt_spacetime.specs.declared.named_rows.NamedCause.TheVariants as own_cause
use Rattle.kt_spacetime.specs.declared.named_rows.NamedEvent.{NamedEvent}
use Rattle.kt_spacetime.specs.declared.named_rows.NamedEvent.TheVariants as own
use Rattle.kt_spacetime.specs.declared.named_rows.NamedRow.{NamedRow}
use Rattle.kt_meaning.specs.Names.{Given, nothing_given, given_after, given_by, at_place, name_of, row_of, message_label, name_begun_by, instance_name, named_cause, named_event, named_from, named}
use Rattle.kt_meaning.proofs.PlaceFacts.{tested, same_test, at_kept, at_last, at_some}
use Rattle.kt_meaning.proofs.GivenFacts.{AreGiven, none_given, given_more}
use Rattle.kt_meaning.proofs.NumberedFacts.{names_first, named_more}

given_all : (g : Given) (log : List Event) → AreGiven g → AreGiven (given_by g log)
given_all g [] h = h
given_all g (row ∷ log) h = given_all (given_after g row) log (given_more g row h)

-- two lists that are as long with one more item each
one_more : {A B : Type 0} (a : List A) (b : List B) (x : A) (y : B) → length a ≡ length b → length (a ++ x ∷ []) ≡ length (b ++ y ∷ [])
one_more a b x y e = omega (arith, length-append a (x ∷ []), length-append b (y ∷ []), e)

-- as many instances began as are known
as_many : (s : Past) (g : Given) (log : List Event) → length s.begun ≡ length g.initiators → length (fold after s log).begun ≡ length (given_by g log).initiators
as_many s g [] e = e
as_many s g (row ∷ log) e = as_many (after s row) (given_after g row) log (more row)
  where
    more : (row : Event) → length (after s row).begun ≡ length (given_after g row).initiators
    more (Began p k kind) = one_more s.begun g.initiators (record { initiator = p; kind = kind }) p e
    more (Sent p to body) = e
    more (Received p from msg) = e
    more (Dropped p from msg) = e
    more (Took p k) = e
    more (Ready p k) = e
    more (Unwilling p k c) = e
    more (Decided p k commit) = e
    more (Closed p k) = e
    more (Failed p) = e
    more (Refused p verb c) = e

-- an instance that began has a name
has_name : (s : Past) (g : Given) (k : ℕ) → AreGiven g → length s.begun ≡ length g.initiators → has_begun s k ≡ true → (inst : InstName) × (instance_name g k ≡ Some inst)
has_name s g k h e b =
    let tests = both (nat_le 1 k) (nat_le k (length s.begun)) b in
    let low : 1 ≤ k = grind (arith, nat_tests, tests.0) in
    let high : k ≤ length s.begun = grind (arith, nat_tests, tests.1) in
    let first = at_some g.initiators k low (omega (arith, high, e)) in
    let second = h.begun_all k first.0 first.1 in
    let once = h.begun_once first.0 in
    (name_of first.0 second.0, ap (option_and_then (name_begun_by g k)) first.1 ∙ ap (option_map (name_of first.0)) (once.found second.0 k second.1))

cause_has_name : (s : Past) (g : Given) (c : Cause) → AreGiven g → length s.begun ≡ length g.initiators → names_begun s c ≡ true → (d : NamedCause) × (named_cause g c ≡ Some d)
cause_has_name s g (cause.Busy k) h e b = let there = has_name s g k h e b in (own_cause.Busy there.0, ap (option_map own_cause.Busy) there.1)
cause_has_name s g cause.Down h e b = (own_cause.Down, refl)
cause_has_name s g cause.NoSave h e b = (own_cause.NoSave, refl)

-- what a process sent stays
sent_stays : (g : Given) (row : Event) (q c m : ℕ) → at_place (g.sent q) c ≡ Some m → at_place ((given_after g row).sent q) c ≡ Some m
sent_stays g (Sent p to body) q c m e =
    at_one_all (λ r (xs : List ℕ). at_place (g.sent r) c ≡ Some m → at_place xs c ≡ Some m) p _ g.sent (λ f. at_kept (g.sent p) ((g.rows + 1) ∷ []) c m f) (λ r f. f) q e
sent_stays g (Received p from msg) q c m e = e
sent_stays g (Dropped p from msg) q c m e = e
sent_stays g (Began p k kind) q c m e = e
sent_stays g (Took p k) q c m e = e
sent_stays g (Ready p k) q c m e = e
sent_stays g (Unwilling p k cause) q c m e = e
sent_stays g (Decided p k commit) q c m e = e
sent_stays g (Closed p k) q c m e = e
sent_stays g (Failed p) q c m e = e
sent_stays g (Refused p verb cause) q c m e = e

sent_stays_by : (g : Given) (log : List Event) (q c m : ℕ) → at_place (g.sent q) c ≡ Some m → at_place ((given_by g log).sent q) c ≡ Some m
sent_stays_by g [] q c m e = e
sent_stays_by g (row ∷ log) q c m e = sent_stays_by (given_after g row) log q c m (sent_stays g row q c m e)

-- a row that sends has its place
sent_at : (g : Given) (log : List Event) (i q to : ℕ) (body : _) → slice_get log i ≡ Some (Sent q to body) → (c : ℕ) × (at_place ((given_by g log).sent q) c ≡ Some (g.rows + (i + 1)))
sent_at g [] i q to body e = absurd (cc)
sent_at g (row ∷ log) zero q to body e =
    let same : row ≡ Sent q to body = some_same e in
    let here : at_place ((given_after g (Sent q to body)).sent q) (length (g.sent q) + 1) ≡ Some (g.rows + 1)
    = ap (λ (xs : List ℕ). at_place xs (length (g.sent q) + 1)) (at_same q (g.sent q ++ (g.rows + 1) ∷ []) g.sent) ∙ at_last (g.sent q) (g.rows + 1) in
    let of_row = subst (λ (r : Event). at_place ((given_after g r).sent q) (length (g.sent q) + 1) ≡ Some (g.rows + 1)) (sym same) here in
    (length (g.sent q) + 1, sent_stays_by (given_after g row) log q (length (g.sent q) + 1) (g.rows + 1) of_row)
sent_at g (row ∷ log) (suc i) q to body e =
    let there = sent_at (given_after g row) log i q to body e in
    let number : g.rows + 1 + (i + 1) ≡ g.rows + (suc i + 1) = omega arith in
    (there.0, there.1 ∙ ap Some number)

-- a message that is live has a label
has_label : (log : List Event) → IsLegal log → (p from msg : ℕ) → has_deed (deed.Sent msg p) ((past log).live from) ≡ true
    → (label : ℕ) × (message_label (given_by nothing_given log) from msg ≡ Some label)
has_label log l p from zero d =
    let place = place_of_deed (deed.Sent zero p) ((past log).live from) d in
    let rows = rowed log l in
    let message = rows.sent from place.0 zero p place.1 in
    absurd (cc message.1)
has_label log l p from (suc n) d =
    let place = place_of_deed (deed.Sent (suc n) p) ((past log).live from) d in
    let rows = rowed log l in
    let message = rows.sent from place.0 (suc n) p place.1 in
    let there = sent_at nothing_given log n from p message.0 message.1 in
    let given = given_all nothing_given log none_given in
    let once = given.sent_once from in
    let number : 0 + (n + 1) ≡ suc n = omega arith in
    (there.0, once.found there.0 (suc n) (there.1 ∙ ap Some number))

-- the next row of a legal log has a name
abbrev HasName : List Event → Event → Type 0
HasName log row = (event : NamedEvent) × (named_event (given_by nothing_given log) row ≡ Some event)

next_name : (log : List Event) (row : Event) → IsLegal log → broken_rule (past log) row ≡ None → HasName log row
next_name log row l b = by_row row b
  where
    given : AreGiven (given_by nothing_given log)
    given = given_all nothing_given log none_given

    many : length (past log).begun ≡ length (given_by nothing_given log).initiators
    many = as_many start nothing_given log refl

    known : (k : ℕ) → has_begun (past log) k ≡ true → (inst : InstName) × (instance_name (given_by nothing_given log) k ≡ Some inst)
    known k h = has_name (past log) (given_by nothing_given log) k given many h

    why : (c : Cause) → names_begun (past log) c ≡ true → (d : NamedCause) × (named_cause (given_by nothing_given log) c ≡ Some d)
    why c h = cause_has_name (past log) (given_by nothing_given log) c given many h

    by_row : (row : Event) → broken_rule (past log) row ≡ None → HasName log row
    by_row (Sent p to body) b = (own.Sent to body (length ((given_by nothing_given log).sent p) + 1), refl)
    by_row (Received p from msg) b =
        let k = kept (past log) (Received p from msg) b in
        let m = both _ _ k.message in
        let s = both _ _ m.0 in
        let there = has_label log l p from msg s.0 in
        (own.Received from there.0, ap (option_map (own.Received from)) there.1)
    by_row (Dropped p from msg) b =
        let k = kept (past log) (Dropped p from msg) b in
        let m = both _ _ k.message in
        let s = both _ _ m.0 in
        let there = has_label log l p from msg s.0 in
        (own.Dropped from there.0, ap (option_map (own.Dropped from)) there.1)
    by_row (Began p inst kind) b =
        let k = kept (past log) (Began p inst kind) b in
        let number : inst ≡ length (past log).begun + 1 = tested inst (length (past log).begun + 1) k.numbers in
        let next : inst ≡ length (given_by nothing_given log).initiators + 1 = omega (arith, number, many) in
        (own.Began (name_of p (length ((given_by nothing_given log).begun p) + 1)) kind, rw (next, same_test (length (given_by nothing_given log).initiators + 1)) refl)
    by_row (Took p inst) b =
        let k = kept (past log) (Took p inst) b in
        let there = known inst k.numbers in
        (own.Took there.0, ap (option_map own.Took) there.1)
    by_row (Ready p inst) b =
        let k = kept (past log) (Ready p inst) b in
        let there = known inst k.numbers in
        (own.Ready there.0, ap (option_map own.Ready) there.1)
    by_row (Unwilling p inst c) b =
        let k = kept (past log) (Unwilling p inst c) b in
        let n = both _ _ k.numbers in
        let there = known inst n.0 in
        let cause = why c n.1 in
        (own.Unwilling there.0 cause.0, ap (option_and_then (λ name. option_map (own.Unwilling name) (named_cause (given_by nothing_given log) c))) there.1 ∙ ap (option_map (own.Unwilling there.0)) cause.1)
    by_row (Decided p inst commit) b =
        let k = kept (past log) (Decided p inst commit) b in
        let there = known inst k.numbers in
        (own.Decided there.0 commit, ap (option_map (λ name. own.Decided name commit)) there.1)
    by_row (Closed p inst) b =
        let k = kept (past log) (Closed p inst) b in
        let there = known inst k.numbers in
        (own.Closed there.0, ap (option_map own.Closed) there.1)
    by_row (Failed p) b = (own.Failed, refl)
    by_row (Refused p verb c) b =
        let k = kept (past log) (Refused p verb c) b in
        let cause = why c k.numbers in
        (own.Refused verb cause.0, ap (option_map (own.Refused verb)) cause.1)

-- a log that has names has them with one more row that has
named_push : (g : Given) (log : List Event) (rows : List NamedRow) (row : Event) (event : NamedEvent) → named_from g log ≡ Some rows → named_event (given_by g log) row ≡ Some event
    → (more : List NamedRow) × (named_from g (log ++ row ∷ []) ≡ Some more)
named_push g [] rows row event e f = (row_of (process_of row) event ∷ [], named_more g row [] event [] f refl)
named_push g (first ∷ log) rows row event e f =
    let n = names_first g first log rows e in
    let more = named_push (given_after g first) log n.rest row event n.others f in
    (row_of (process_of first) n.event ∷ more.0, named_more g first (log ++ row ∷ []) n.event more.0 n.first more.1)

pub legal_named : (log : List Event) → IsLegal log → (rows : List NamedRow) × (named log ≡ Some rows)
legal_named log l =
    legal_log_induction (λ log. (rows : List NamedRow) × (named log ≡ Some rows)) ([], refl)
    (λ log row l b h. let there = next_name log row l b in named_push nothing_given log h.0 row there.0 h.1 there.1) log l
