-- The parts of a report, one after another.
use Rattle.std.proofs.Common.{◌≡◌, ◌++◌, ℕ, ℤ, List, [], Option, None, length, map, refl, ap, subst, ◌∙◌}
use Rattle.std.specs.Prelude.{count_by}
use Rattle.std.proofs.lemmas.List.{length-map}
use Rattle.std.specs.List.{flat_map}
use Rattle.std.specs.Io.KnownBytes.{Appends}
use Rattle.kt_spacetime.specs.declared.event.Event.{Event}
use Rattle.kt_spacetime.specs.declared.certificate.Certificate.{Certificate}
use Rattle.kt_text.specs.Writing.{Sends, WritesFront}
use Rattle.kt_text.proofs.PieceFacts.{sends_gathered, sends_rest, front_none, front_last, front_longer}
use Rattle.kt_plan.specs.Limits.{Planned}
use Rattle.kt_report.specs.declared.offers.Offers.{Offers}
use Rattle.kt_report.specs.Shown.{ShowsOffers}
use Rattle.kt_report.proofs.OfferFacts.{offers_are}
use Rattle.kt_report.specs.Exact.{offers_in, lost_in, report_of}
use Rattle.kt_report.specs.Lines.{instance_lines, refusal_line, losses_line}
use Rattle.kt_report.specs.Report.{object_lines, is_drop, report_with, WritesReport, WritesReportFront}

-- what was sent and what was gathered after it go out
pub parts_go_out : (a c d : Option (List ℕ)) (start y z u commands objects losses : List ℕ) → start ≡ [] → Sends a c start y commands
    → z ≡ y ++ objects → u ≡ z ++ losses → Appends c d u → Appends a d (commands ++ objects ++ losses)
parts_go_out a c d start y z u commands objects losses none p o e out =
    let both = subst (λ (t : List ℕ). Sends a c t y commands) none p in
    let three = sends_gathered a c [] y z commands objects both o in
    let four = sends_gathered a c [] z u (commands ++ objects) losses three e in
    sends_rest a c d u (commands ++ objects ++ losses) four out

-- the text makes a report
pub writes_report : (a d : Option (List ℕ)) (names : List (List ℕ)) (rows : List Event) (certificates : List Certificate) (offers : List (Option ℤ)) (lost : ℕ) → length offers ≡ length names
    → Appends a d (report_with names rows certificates offers lost) → WritesReport a d names rows certificates
writes_report a d names rows certificates offers lost one_each out = record {
  text = report_with names rows certificates offers lost;
  written = out;
  is = record { offers = offers; one_each = one_each; lost = lost; is = refl };
}

-- the text is the report of a log, where objects offer so and so many messages are lost
pub is_exact : (plan planned : Planned) (rows log : List Event) (certificates : List Certificate) (offers : List (Option ℤ)) (lost : ℕ) → plan ≡ planned → rows ≡ log → offers ≡ offers_in plan.kinds rows
    → lost ≡ lost_in rows → report_with plan.names rows certificates offers lost ≡ report_of planned log certificates
is_exact plan planned rows log certificates offers lost same_plan same_rows same_offers same_lost =
    (λ j. report_with plan.names rows certificates (same_offers j) (same_lost j)) ∙ (λ j. report_of (same_plan j) (same_rows j) certificates)

-- what objects offer after a replay of a legal log
pub replayed_offers : (list shown : List Offers) (kinds sliced : List ℕ) (rows : List Event) → shown ≡ list → sliced ≡ kinds → ShowsOffers list sliced rows → map (λ (o : Offers). o.now) shown ≡ offers_in kinds rows
replayed_offers list shown kinds sliced rows all_shown all_sliced h =
    ap (map (λ (o : Offers). o.now)) all_shown ∙ offers_are list sliced rows h ∙ ap (λ (ks : List ℕ). offers_in ks rows) all_sliced

-- the lines of instances and of refused commands
abbrev pub commands_of : List (List ℕ) → List Event → List Certificate → List ℕ
commands_of names rows certificates = flat_map (instance_lines names rows) certificates ++ flat_map (refusal_line names) rows

-- it stops before the objects
pub stops_gathering : (a c : Option (List ℕ)) (start y commands : List ℕ) → start ≡ [] → Sends a c start y commands → WritesFront a c commands
stops_gathering a c start y commands none p = front_last a c c [] y commands (subst (λ (t : List ℕ). Sends a c t y commands) none p) (front_none c y)

-- it stops when all is gathered
pub parts_stop : (a c d : Option (List ℕ)) (start y z u commands objects losses : List ℕ) → start ≡ [] → Sends a c start y commands
    → z ≡ y ++ objects → u ≡ z ++ losses → WritesFront c d u → WritesFront a d (commands ++ objects ++ losses)
parts_stop a c d start y z u commands objects losses none p o e out =
    let both = subst (λ (t : List ℕ). Sends a c t y commands) none p in
    let three = sends_gathered a c [] y z commands objects both o in
    let four = sends_gathered a c [] z u (commands ++ objects) losses three e in
    front_last a c d [] u (commands ++ objects ++ losses) four out

-- a front part of the text is one of a report
pub stops_report : (a d : Option (List ℕ)) (names : List (List ℕ)) (rows : List Event) (certificates : List Certificate) (offers : List (Option ℤ)) (lost : ℕ) → length offers ≡ length names
    → WritesFront a d (report_with names rows certificates offers lost) → WritesReportFront a d names rows certificates
stops_report a d names rows certificates offers lost one_each out = record {
  text = report_with names rows certificates offers lost;
  written = out;
  is = record { offers = offers; one_each = one_each; lost = lost; is = refl };
}

-- nothing is a front part of a report
pub stops_unbegun : (a : Option (List ℕ)) (names : List (List ℕ)) (rows : List Event) (certificates : List Certificate) → WritesReportFront a a names rows certificates
stops_unbegun a names rows certificates =
    let offers = map (λ (name : List ℕ). let none : Option ℤ = None in none) names in
    stops_report a a names rows certificates offers 0 (length-map names (λ (name : List ℕ). let none : Option ℤ = None in none)) (front_none a (report_with names rows certificates offers 0))

-- a front part of the lines of instances and commands is one of the text
pub stops_early : (a d : Option (List ℕ)) (names : List (List ℕ)) (rows : List Event) (certificates : List Certificate) (offers : List (Option ℤ)) (lost : ℕ)
    → WritesFront a d (commands_of names rows certificates) → WritesFront a d (report_with names rows certificates offers lost)
stops_early a d names rows certificates offers lost out =
    let commands = commands_of names rows certificates in
    let objects = object_lines names offers in
    front_longer a d (commands ++ objects) (losses_line lost (count_by is_drop rows)) (front_longer a d commands objects out)
