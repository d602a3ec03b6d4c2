-- Diagrams, one row after another.
use Rattle.std.proofs.Common.{◌≡◌, ◌∙◌, ◌<◌, ◌≤◌, ◌+◌, ℕ, zero, suc, nat_lt, Bool, true, false, Option, Some, None, List, [], ◌∷◌, ◌++◌, length, take, drop, fold, map, filter, set, cond, refl, sym, ap, subst, arith, append_assoc, inl, inr, length-append}
use Rattle.std.specs.Prelude.{◌||◌, ◌⊎◌, if◌then◌else◌}
use Rattle.std.specs.Int.{from_bool}
use Rattle.std.specs.List.{range_with_len, slice_get}
use Rattle.std.proofs.Math.Seq.{drop-append_seam, take-append_seam}
use Rattle.std.proofs.lemmas.Bool.{cases_eq}
use Rattle.std.proofs.lemmas.List.{append-nil, length-drop, map-append}
use Rattle.std.proofs.lemmas.List.Sums.{fold-append}
use Rattle.kt_base.specs.Sets.{has}
use Rattle.kt_spacetime.specs.declared.event.Event.{Event}
use Rattle.kt_spacetime.specs.declared.event.Event.TheVariants.{Took, Ready}
use Rattle.kt_spacetime.specs.declared.certificate.Certificate.{Certificate}
use Rattle.kt_meaning.proofs.Items.{get_set_other, get_set_same, some_same}
use Rattle.kt_meaning.proofs.Lists.{get_push}
use Rattle.kt_walk.specs.WalkParts.{WalkParts}
use Rattle.kt_picture.specs.declared.diagram.Diagram.{Diagram}
use Rattle.kt_picture.specs.declared.diagram.Sheet.{Sheet}
use Rattle.kt_picture.specs.declared.entry.Entry.{Entry}
use Rattle.kt_picture.specs.DiagramOf.{DiagramOf, HasRowsFor, SheetOf, seen_in}
use Rattle.kt_picture.specs.Evidence.{chained_by, link_of, reason_of}
use Rattle.kt_picture.specs.Followed.{AreFollowed, IsFollowed, plain_of, told_rows}
use Rattle.kt_picture.specs.KnownOf.{KnownOf}
use Rattle.kt_picture.specs.Lanes.{is_named, lanes_in, names_process}
use Rattle.kt_picture.specs.KnownAtRow.{KnownAtRow, plain_at, seen_before, seen_after, shown_rows, stretch_from, cut_in, cut_rows}
use Rattle.kt_picture.proofs.LaneFacts.{same_lanes}
use Rattle.kt_picture.proofs.WindowFacts.{cuts_push, plain_push, seen_column, told_all}

-- a test as a number
pub byte_is : (b : Bool) → from_bool b ≡ (if b then 1 else 0)
byte_is true = refl
byte_is false = refl

-- what is known after one more row of the window
pub seen_push : (front window : List Event) (row : Event) → seen_in front (window ++ row ∷ []) ≡ seen_after (seen_in front window) row
seen_push front window row = fold-append seen_after (seen_before front) window (row ∷ [])

-- who is named by one more row
named_or : (rows : List Event) (row : Event) (q : ℕ) → is_named (rows ++ row ∷ []) q ≡ (is_named rows q || names_process q row)
named_or [] row q = or_none (names_process q row)
  where
    or_none : (b : Bool) → (b || false) ≡ b
    or_none true = refl
    or_none false = refl
named_or (x ∷ rows) row q = ap (λ (b : Bool). names_process q x || b) (named_or rows row q) ∙ or_assoc (names_process q x) (is_named rows q) (names_process q row)
  where
    or_assoc : (a b d : Bool) → (a || (b || d)) ≡ ((a || b) || d)
    or_assoc true b d = refl
    or_assoc false b d = refl

pub named_push : (old new : ℕ) (rows : List Event) (row : Event) → ((q : ℕ) → q < 64 → has old q ≡ is_named rows q) → ((q : ℕ) → has new q ≡ (has old q || names_process q row))
    → (q : ℕ) → q < 64 → has new q ≡ is_named (rows ++ row ∷ []) q
named_push old new rows row h more q l = more q ∙ ap (λ (b : Bool). b || names_process q row) (h q l) ∙ sym (named_or rows row q)

-- who is named with the row that breaks a rule
pub named_none : (named : ℕ) (rows : List Event) → ((q : ℕ) → q < 64 → has named q ≡ is_named rows q) → (q : ℕ) → q < 64 → has named q ≡ is_named (rows ++ []) q
named_none named rows h q l = h q l ∙ ap (λ (x : List Event). is_named x q) (sym (append-nil rows))

-- lanes of those who are named
pub lanes_named : (named : ℕ) (rows : List Event) → ((q : ℕ) → q < 64 → has named q ≡ is_named rows q) → filter (has named) (range_with_len 0 64) ≡ lanes_in rows
lanes_named named rows h = same_lanes (has named) (is_named rows) 64 h

unpicked : (b : Bool) (o : Option ℕ) → o ≡ None → cond b o None ≡ None
unpicked true o e = e
unpicked false o e = refl

-- without certificates no message is in a chain, and no chain tells why a process took part
unlinked : (count msg : ℕ) → link_of count [] msg ≡ None
unlinked count zero = refl
unlinked count (suc n) = unpicked (nat_lt n count) (chained_by [] (suc n)) refl

unreasoned : (names : List (List ℕ)) (rows : List Event) (row : Event) → reason_of names rows [] row ≡ []
unreasoned names rows (Took p inst) = refl
unreasoned names rows (Ready p inst) = refl
unreasoned names rows row = refl

-- the rows up to a window's end
pub front_for : (s : Sheet) (rows log front : List Event) (before : ℕ) (certificates : List Certificate) → SheetOf s log before → front ≡ take (s.before + s.columns) rows → HasRowsFor rows log certificates
    → (front ≡ log) ⊎ (certificates ≡ [])
front_for s rows log front before certificates h e (inl same) =
    let count : s.before + s.columns ≡ length log = omega (arith, h.before_is, h.columns, h.within, length-drop before log) in
    inl (e ∙ ap (λ (n : ℕ). take n rows) count ∙ same)
front_for s rows log front before certificates h e (inr none) = inr none

pub same_link : (rows log : List Event) (certificates : List Certificate) (msg : ℕ) → (rows ≡ log) ⊎ (certificates ≡ []) → link_of (length rows) certificates msg ≡ link_of (length log) certificates msg
same_link rows log certificates msg (inl same) = ap (λ (l : List Event). link_of (length l) certificates msg) same
same_link rows log certificates msg (inr none) =
    ap (λ (l : List Certificate). link_of (length rows) l msg) none ∙ unlinked (length rows) msg ∙ sym (unlinked (length log) msg) ∙ ap (λ (l : List Certificate). link_of (length log) l msg) (sym none)

pub same_reason : (names : List (List ℕ)) (rows log : List Event) (certificates : List Certificate) (row : Event) → (rows ≡ log) ⊎ (certificates ≡ []) → reason_of names rows certificates row ≡ reason_of names log certificates row
same_reason names rows log certificates row (inl same) = ap (λ (l : List Event). reason_of names l certificates row) same
same_reason names rows log certificates row (inr none) =
    ap (λ (l : List Certificate). reason_of names rows l row) none ∙ unreasoned names rows row ∙ sym (unreasoned names log row) ∙ ap (λ (l : List Certificate). reason_of names log l row) (sym none)

-- the window of a diagram, as a sheet has it
pub sheet_of : (d : Diagram) (w : WalkParts) (front window : List Event) (s : Sheet) → DiagramOf d w front window → s.named ≡ d.named
    → s.columns ≡ d.known.column → s.before + s.columns ≡ w.rows
    → s.shown.items ≡ told_rows (front ++ window) d.entries.items → s.cuts.items ≡ d.cuts.items → s.ends.items ≡ map (stretch_from (seen_in front window)) (range_with_len 0 64)
    → SheetOf s (front ++ window) (length front)
sheet_of d w front window s h named columns rows shown cuts ends =
    let log = front ++ window in
    let before = length front in
    let head : take before log ≡ front = take-append_seam front window in
    let tail : drop before log ≡ window = drop-append_seam front window in
    let column : d.known.column ≡ length window = omega (arith, h.known.column, seen_column (seen_before front) window) in
    record {
      named = λ q l. ap (λ (n : ℕ). has n q) named ∙ h.named q l;
      within = omega (arith, length-append front window);
      before_is = omega (arith, rows, columns, column, h.known.walk.control.number, length-append front window);
      columns = columns ∙ column ∙ ap length (sym tail);
      shown = shown ∙ told_all log (seen_before front) window d.entries.items h.plain ∙ (λ j. shown_rows log (seen_before (sym head j)) (sym tail j));
      cuts = cuts ∙ h.cuts ∙ (λ j. cut_rows (seen_before (sym head j)) (sym tail j));
      ends = ends ∙ (λ j. map (stretch_from (fold seen_after (seen_before (sym head j)) (sym tail j))) (range_with_len 0 64));
    }

-- the columns of a diagram: one for each row of the window so far
pub columns_count : (d : Diagram) (w : WalkParts) (front window : List Event) → DiagramOf d w front window → d.known.column ≡ length window
columns_count d w front window h = omega (arith, h.known.column, seen_column (seen_before front) window)

-- they are among its walk's rows
pub columns_few : (d : Diagram) (w : WalkParts) (front window : List Event) → DiagramOf d w front window → d.known.column ≤ w.rows
columns_few d w front window h = omega (arith, h.known.column, seen_column (seen_before front) window, h.known.walk.control.number, length-append front window)

-- one more row of the window
pub diagram_added : (d e : Diagram) (w v : WalkParts) (front window : List Event) (row : Event) (x : Entry) → DiagramOf d w front window
    → KnownOf e.known v (seen_after (seen_in front window) row) ((front ++ window) ++ row ∷ []) → ((q : ℕ) → has e.named q ≡ (has d.named q || names_process q row))
    → x.plain ≡ plain_at (seen_in front window) row → (entries : List Entry) → map plain_of entries ≡ map plain_of d.entries.items → e.entries.items ≡ entries ++ x ∷ []
    → AreFollowed ((front ++ window) ++ row ∷ []) entries → IsFollowed ((front ++ window) ++ row ∷ []) x
    → e.cuts.items ≡ d.cuts.items ++ cut_in d.known.places e.known.places row → DiagramOf e v front (window ++ row ∷ [])
diagram_added d e w v front window row x h known named plain entries plains pushed followed last cuts =
    let log : (front ++ window) ++ row ∷ [] ≡ front ++ (window ++ row ∷ []) = append_assoc front window (row ∷ []) in
    let seen = sym (seen_push front window row) in
    record {
      known = subst (λ (l : List Event). KnownOf e.known v (seen_in front (window ++ row ∷ [])) l) log (subst (λ (s : KnownAtRow). KnownOf e.known v s ((front ++ window) ++ row ∷ [])) seen known);
      named = subst (λ (l : List Event). (q : ℕ) → q < 64 → has e.named q ≡ is_named l q) log (named_push d.named e.named (front ++ window) row h.named named);
      plain = ap (map plain_of) pushed ∙ map-append plain_of entries (x ∷ []) ∙ (λ j. (plains ∙ h.plain) j ++ plain j ∷ []) ∙ sym (plain_push (seen_before front) window row);
      followed = subst (λ (l : List Event). AreFollowed l e.entries.items) log (λ k y at. each k y (get_push entries x k y (subst (λ (l : List Entry). slice_get l k ≡ Some y) pushed at)));
      cuts = cuts ∙ (λ j. h.cuts j ++ cut_in (h.known.places j) (known.places j) row) ∙ sym (cuts_push (seen_before front) window row);
    }
  where
    each : (k : ℕ) (y : Entry) → (slice_get entries k ≡ Some y) ⊎ ((k ≡ length entries) × (x ≡ y)) → IsFollowed ((front ++ window) ++ row ∷ []) y
    each k y (inl old) = followed k y old
    each k y (inr new) = subst (λ (z : Entry). IsFollowed ((front ++ window) ++ row ∷ []) z) new.1 last

-- the entries before a place are followed, and the one at it
pub set_each : (P : Entry → Type 0) (xs : List Entry) (i : ℕ) (y : Entry) → i < length xs → ((k : ℕ) (e : Entry) → k < i → slice_get xs k ≡ Some e → P e) → P y → (k : ℕ) (e : Entry) → k < i + 1 → slice_get (set xs i y) k ≡ Some e → P e
set_each P xs i y within before here k e low at = elim (cases_eq k i) [
  | inl same ↦ subst P (some_same (sym (get_set_same xs i y within) ∙ ap (slice_get (set xs i y)) (sym same) ∙ at)) here
  | inr other ↦ before k e (omega (arith, low, other)) (sym (get_set_other xs i k y other) ∙ at)
]
