-- A log certified while its rows are read.
use Rattle.std.proofs.Common.{◌≡◌, ◌≤◌, ◌<◌, ◌^◌, ◌∷◌, ◌++◌, ℕ, List, [], Option, Some, None, IfSome, All, sym, subst, arith, length}
use Rattle.std.specs.List.{filter_map}
use Rattle.std.proofs.lemmas.List.Elements.{All-push}
use Rattle.kt_spacetime.specs.declared.event.Event.{Event}
use Rattle.kt_spacetime.specs.Events.{IsRowInRange}
use Rattle.kt_log_text.specs.Reading.{RowsRead, GivesRow, MeetsEnd, rows_unread}
use Rattle.kt_log_text.specs.Texts.{IsLogText}
use Rattle.kt_log_text.specs.Progress.{GathersRows}
use Rattle.kt_log_text.proofs.GatherFacts.{gathers_more, gathers_none, gathered_all, most_rows_le}
use Rattle.kt_log_text.proofs.TextFacts.{one_log}
use Rattle.kt_spacetime.specs.declared.certificate.Certificate.{Certificate}
use Rattle.kt_chain.specs.Spelling.{HasShortChains, records_of}
use Rattle.kt_chain.specs.Texts.{IsCertText}
use Rattle.kt_meaning.specs.Fitness.{IsUnfit}
use Rattle.kt_certify.specs.PassOf.{PassOf}
use Rattle.kt_certify.specs.Streamed.{AreRowsOf, AreCertified}
use Rattle.kt_spacetime.specs.declared.unfit.Unfit.{Unfit}
use Rattle.kt_certify.specs.declared.pass.Pass.{Pass}
use Rattle.kt_certify.proofs.Fit.{fit_so_far}
use Rattle.kt_certify.proofs.Meant.{all_meant}
use Rattle.kt_certify.proofs.Whole.{all_certified, writable, says}

-- what is known while rows are read: these were, and the pass has seen them
pub record HasRead (source : Option (List ℕ)) (reader : RowsRead) (pass : Pass) : Type 0 where
  pub seen : List Event
  pub gathers : GathersRows source reader seen
  pub pass_of : PassOf pass seen
  pub in_range : All IsRowInRange seen

pub read_none : (source : Option (List ℕ)) (reader : RowsRead) (pass : Pass) → reader ≡ rows_unread source → PassOf pass [] → HasRead source reader pass
read_none source reader pass e h = record {
  seen = [];
  gathers = subst (λ (r : RowsRead). GathersRows source r []) (sym e) (gathers_none source);
  pass_of = h;
  in_range = none;
}
  where
    none : All IsRowInRange []
    none = λ k d low. absurd (omega (arith, low))

-- there is room for one more row
pub read_few : {source : Option (List ℕ)} (old new : RowsRead) (pass : Pass) (row : Event) → HasRead source old pass → GivesRow old new row → pass.walk.rows < 2 ^ 24
read_few old new pass row h s = omega (arith, h.pass_of.few, h.gathers.count, s.few, most_rows_le s.format)

pub read_more : {source : Option (List ℕ)} (old new : RowsRead) (was now : Pass) (row : Event) → HasRead source old was → GivesRow old new row
    → ((rows : List Event) → PassOf was rows → PassOf now (rows ++ row ∷ [])) → HasRead source new now
read_more {source} old new was now row h s fed = record {
  seen = h.seen ++ row ∷ [];
  gathers = gathers_more source old new h.seen row h.gathers s;
  pass_of = fed h.seen h.pass_of;
  in_range = All-push IsRowInRange h.seen row h.in_range s.in_range;
}

-- the rows that were read to the end are those of the bytes
pub rows_of : {source : Option (List ℕ)} (old new : RowsRead) (rows : List Event) → GathersRows source old rows → MeetsEnd old new → AreRowsOf source rows
rows_of {source} old new rows g s = record { says = said; only = from (rows_unread source).left said }
  where
    said : IfSome (rows_unread source).left (λ text. IsLogText text rows)
    said = gathered_all source old new rows g s

    from : (o : Option (List (List (List ℕ)))) → IfSome o (λ text. IsLogText text rows) → IfSome o (λ text. (others : List Event) → IsLogText text others → others ≡ rows)
    from None h = tt
    from (Some text) h = λ others other. one_log text others rows other h

pub certified_at : {source : Option (List ℕ)} (old new : RowsRead) (pass : Pass) (list : List Certificate) → HasRead source old pass → MeetsEnd old new → pass.unfit ≡ None
    → list ≡ filter_map (λ v. v.certificate) pass.instances.items → AreCertified source list
certified_at old new pass list h s none found =
    let fit = fit_so_far pass h.seen h.pass_of none in
    record {
      rows = h.seen;
      said = rows_of old new h.seen h.gathers s;
      fit = record { legal = fit.walk.control.legal; chained = fit.chained };
      certificates = all_certified pass h.seen list fit found;
      meant = all_meant pass h.seen list fit found;
    }

pub unfit_at : {source : Option (List ℕ)} (old new : RowsRead) (pass : Pass) (why : Unfit) → HasRead source old pass → MeetsEnd old new → pass.unfit ≡ Some why
    → (rows : List Event) × AreRowsOf source rows × IsUnfit rows why
unfit_at old new pass why h s some = (h.seen, rows_of old new h.seen h.gathers s, h.pass_of.unfit why some)

-- and they can be written
few_seen : {source : Option (List ℕ)} (reader : RowsRead) (pass : Pass) (h : HasRead source reader pass) → length h.seen ≤ 2 ^ 24
few_seen reader pass h = omega (arith, h.gathers.count, h.gathers.few)

pub short_at : {source : Option (List ℕ)} (reader : RowsRead) (pass : Pass) (list : List Certificate) → HasRead source reader pass → pass.unfit ≡ None
    → list ≡ filter_map (λ v. v.certificate) pass.instances.items → All HasShortChains list
short_at reader pass list h none found = writable pass h.seen list (fit_so_far pass h.seen h.pass_of none) found h.in_range

pub text_at : {source : Option (List ℕ)} (reader : RowsRead) (pass : Pass) (list : List Certificate) → HasRead source reader pass → pass.unfit ≡ None
    → list ≡ filter_map (λ v. v.certificate) pass.instances.items → IsCertText (records_of list) list
text_at reader pass list h none found = says pass h.seen list (fit_so_far pass h.seen h.pass_of none) found h.in_range (few_seen reader pass h)
