-- The columns of cuts are those of permanent positions.
use Rattle.std.proofs.Common.{◌≡◌, ◌≢◌, ◌∙◌, ◌<◌, ◌≤◌, ◌+◌, ◌-◌, inl, inr, ℕ, zero, suc, Bool, true, false, Some, List, [], ◌∷◌, ◌++◌, length, refl, sym, ap, subst, take, drop, map, fold, replicate, get_or, arith}
use Rattle.std.specs.Prelude.{not, bytes_eq, slice_get, slice_index, slice_set, is_some, if◌then◌else◌, ◌==◌}
use Rattle.std.specs.List.{filter_map}
use Rattle.std.proofs.lemmas.Bool.{cases_eq, cases_lt}
use Rattle.std.proofs.lemmas.Bool.Decides.{nat_tests}
use Rattle.std.proofs.lemmas.List.{get_or-set_same, get_or-set_other, get_or-replicate, length-set, length-take-le}
use Rattle.std.proofs.lemmas.List.FromFn.{length-map-range_with_len, get_or-map-range_with_len}
use Rattle.kt_spacetime.specs.declared.event.Event.{Event}
use Rattle.kt_spacetime.specs.declared.event.Event.TheVariants.{Sent, Received, Dropped, Began, Took, Ready, Unwilling, Decided, Closed, Failed, Refused}
use Rattle.kt_meaning.specs.Past.{Past, past}
use Rattle.kt_meaning.specs.Legal.{IsLegal}
use Rattle.kt_meaning.specs.Messages.{row_at}
use Rattle.kt_meaning.proofs.Items.{item_there, some_same}
use Rattle.kt_meaning.proofs.Lists.{get_drop}
use Rattle.kt_picture.specs.declared.window.CutMark.{CutMark}
use Rattle.kt_picture.specs.Places.{columns_before, IsLastPermanent, IsPermanentColumn, commits}
use Rattle.kt_picture.specs.KnownAtRow.{KnownAtRow, seen_before, seen_after, taken_after, places_after, place_after, cut_in, cut_rows}
use Rattle.kt_picture.specs.Window.{seen_at}
use Rattle.kt_picture.proofs.CutFacts.{Standing, never, last, StandsAt, stands_next, stands_start, taken_next, place_next}
use Rattle.kt_picture.proofs.ShownFacts.{past_at}
use Rattle.kt_picture.proofs.WindowFacts.{seen_next, seen_column}

-- before the window every column is the left end
either_way : (b : Bool) (n : ℕ) → (if b then n else n) ≡ n
either_way true n = refl
either_way false n = refl

taken_zero : (before q m : ℕ) (row : Event) → suc m ≤ before → taken_next before q m row 0 ≡ 0
taken_zero before q m (Took p k) l = ap (λ (n : ℕ). if q == p then n else 0) (let n : suc m - before ≡ 0 = omega (arith, l) in n) ∙ either_way (q == p) 0
taken_zero before q m (Sent p to body) l = refl
taken_zero before q m (Received p from msg) l = refl
taken_zero before q m (Dropped p from msg) l = refl
taken_zero before q m (Began p k kind) l = refl
taken_zero before q m (Ready p k) l = refl
taken_zero before q m (Unwilling p k cause) l = refl
taken_zero before q m (Decided p k commit) l = refl
taken_zero before q m (Closed p k) l = refl
taken_zero before q m (Failed p) l = refl
taken_zero before q m (Refused p verb cause) l = refl

place_zero : (s : Past) (q : ℕ) (row : Event) → place_next s q row 0 0 ≡ 0
place_zero s q (Decided p k true) = either_way (is_some (s.new k q)) 0
place_zero s q (Decided p k false) = refl
place_zero s q (Sent p to body) = refl
place_zero s q (Received p from msg) = refl
place_zero s q (Dropped p from msg) = refl
place_zero s q (Began p k kind) = refl
place_zero s q (Took p k) = refl
place_zero s q (Ready p k) = refl
place_zero s q (Unwilling p k cause) = refl
place_zero s q (Closed p k) = refl
place_zero s q (Failed p) = refl
place_zero s q (Refused p verb cause) = refl

stands_before : (rows : List Event) (before q m : ℕ) → IsLegal rows → m ≤ before → m ≤ length rows → StandsAt rows before q m 0 0
stands_before rows before q zero l low within = stands_start rows before q
stands_before rows before q (suc m) l low within =
    let row = item_there rows m (omega (arith, within)) in
    let h = stands_next rows before q m 0 0 row.0 l row.1 (stands_before rows before q m l (omega (arith, low)) (omega (arith, within))) in
    subst (λ (t : ℕ). StandsAt rows before q (suc m) t 0) (taken_zero before q m row.0 low)
    (subst (StandsAt rows before q (suc m) (taken_next before q m row.0 0)) (place_zero (past (take m rows)) q row.0) h)

-- the columns that are kept at a row of the window
pub record Columns (rows : List Event) (before q m : ℕ) (s : KnownAtRow) : Type 0 where
  pub taken : length s.taken ≡ 64
  pub places : length s.places ≡ 64
  pub stands : StandsAt rows before q m (slice_index s.taken q) (slice_index s.places q)

taken_kept : (column : ℕ) (taken : List ℕ) (row : Event) → length (taken_after column taken row) ≡ length taken
taken_kept column taken (Took p k) = length-set taken p (column + 1)
taken_kept column taken (Sent p to body) = refl
taken_kept column taken (Received p from msg) = refl
taken_kept column taken (Dropped p from msg) = refl
taken_kept column taken (Began p k kind) = refl
taken_kept column taken (Ready p k) = refl
taken_kept column taken (Unwilling p k cause) = refl
taken_kept column taken (Decided p k commit) = refl
taken_kept column taken (Closed p k) = refl
taken_kept column taken (Failed p) = refl
taken_kept column taken (Refused p verb cause) = refl

places_kept : (s : Past) (taken places : List ℕ) (row : Event) → length places ≡ 64 → length (places_after s taken places row) ≡ 64
places_kept s taken places (Decided p k true) e = length-map-range_with_len (place_after s k taken places) 0 64
places_kept s taken places (Decided p k false) e = e
places_kept s taken places (Sent p to body) e = e
places_kept s taken places (Received p from msg) e = e
places_kept s taken places (Dropped p from msg) e = e
places_kept s taken places (Began p k kind) e = e
places_kept s taken places (Took p k) e = e
places_kept s taken places (Ready p k) e = e
places_kept s taken places (Unwilling p k cause) e = e
places_kept s taken places (Closed p k) e = e
places_kept s taken places (Failed p) e = e
places_kept s taken places (Refused p verb cause) e = e

taken_at : (before q i column : ℕ) (taken : List ℕ) (row : Event) → q < length taken → column ≡ i → slice_index (taken_after column taken row) q ≡ taken_next before q (before + i) row (slice_index taken q)
taken_at before q i column taken (Took p k) l e = elim (cases_eq q p) [
  | inl same ↦
      let own : get_or (slice_set taken p (column + 1)) p 0 ≡ column + 1 = get_or-set_same taken p (column + 1) 0 (subst (λ (n : ℕ). n < length taken) same l) in
      let number : column + 1 ≡ suc (before + i) - before = omega (arith, e) in
      ap (λ (n : ℕ). get_or (slice_set taken p (column + 1)) n 0) same ∙ own ∙ number
      ∙ ap (λ (b : Bool). if b then suc (before + i) - before else slice_index taken q) (let b : true ≡ (q == p) = grind (arith, nat_tests, same) in b)
  | inr other ↦
      get_or-set_other taken p q (column + 1) 0 other
      ∙ ap (λ (b : Bool). if b then suc (before + i) - before else slice_index taken q) (let b : false ≡ (q == p) = grind (arith, nat_tests, other) in b)
]
taken_at before q i column taken (Sent p to body) l e = refl
taken_at before q i column taken (Received p from msg) l e = refl
taken_at before q i column taken (Dropped p from msg) l e = refl
taken_at before q i column taken (Began p k kind) l e = refl
taken_at before q i column taken (Ready p k) l e = refl
taken_at before q i column taken (Unwilling p k cause) l e = refl
taken_at before q i column taken (Decided p k commit) l e = refl
taken_at before q i column taken (Closed p k) l e = refl
taken_at before q i column taken (Failed p) l e = refl
taken_at before q i column taken (Refused p verb cause) l e = refl

places_at : (s : Past) (q : ℕ) (taken places : List ℕ) (row : Event) → q < 64 → slice_index (places_after s taken places row) q ≡ place_next s q row (slice_index taken q) (slice_index places q)
places_at s q taken places (Decided p k true) l = get_or-map-range_with_len (place_after s k taken places) 0 64 q q 0 l (omega arith)
places_at s q taken places (Decided p k false) l = refl
places_at s q taken places (Sent p to body) l = refl
places_at s q taken places (Received p from msg) l = refl
places_at s q taken places (Dropped p from msg) l = refl
places_at s q taken places (Began p k kind) l = refl
places_at s q taken places (Took p k) l = refl
places_at s q taken places (Ready p k) l = refl
places_at s q taken places (Unwilling p k cause) l = refl
places_at s q taken places (Closed p k) l = refl
places_at s q taken places (Failed p) l = refl
places_at s q taken places (Refused p verb cause) l = refl

columns_next : (rows : List Event) (before q i : ℕ) (row : Event) → IsLegal rows → q < 64 → i < length (drop before rows) → slice_get (drop before rows) i ≡ Some row
    → Columns rows before q (before + i) (seen_at rows before i) → Columns rows before q (suc (before + i)) (seen_after (seen_at rows before i) row)
columns_next rows before q i row l few within at h = let s = seen_at rows before i in record {
  taken = taken_kept s.column s.taken row ∙ h.taken;
  places = places_kept s.past s.taken s.places row h.places;
  stands =
      subst (λ (t : ℕ). StandsAt rows before q (suc (before + i)) t (slice_index (places_after s.past s.taken s.places row) q)) (sym (taken_at before q i s.column s.taken row (omega (arith, few, h.taken)) column))
      (subst (λ (c : ℕ). StandsAt rows before q (suc (before + i)) (taken_next before q (before + i) row (slice_index s.taken q)) c)
      (sym (places_at s.past q s.taken s.places row few ∙ ap (λ (p : Past). place_next p q row (slice_index s.taken q) (slice_index s.places q)) (past_at rows before i)))
      (stands_next rows before q (before + i) (slice_index s.taken q) (slice_index s.places q) row l (get_drop before rows i row at) h.stands));
}
  where
    column : (seen_at rows before i).column ≡ i
    column = omega (arith, seen_column (seen_before (take before rows)) (take i (drop before rows)), length-take-le i (drop before rows) (omega (arith, within)))

columns_first : (rows : List Event) (before q : ℕ) → IsLegal rows → q < 64 → before ≤ length rows → Columns rows before q before (seen_at rows before 0)
columns_first rows before q l few within =
    let zeros : 0 ≡ slice_index (replicate 64 0) q = sym (get_or-replicate 64 q 0 0 few) in
    record {
      taken = refl;
      places = refl;
      stands = subst (λ (n : ℕ). StandsAt rows before q before n n) zeros (stands_before rows before q before l (omega arith) within);
    }

pub columns_at : (rows : List Event) (before q i : ℕ) → IsLegal rows → q < 64 → before ≤ length rows → i ≤ length (drop before rows) → Columns rows before q (before + i) (seen_at rows before i)
columns_at rows before q zero l few within high =
    let number : before ≡ before + zero = omega arith in
    subst (λ (n : ℕ). Columns rows before q n (seen_at rows before 0)) number (columns_first rows before q l few within)
columns_at rows before q (suc i) l few within high =
    let row = item_there (drop before rows) i (omega (arith, high)) in
    let h = columns_next rows before q i row.0 l few (omega (arith, high)) row.1 (columns_at rows before q i l few within (omega (arith, high))) in
    let count : i + 1 ≡ suc i = omega arith in
    let seen : seen_after (seen_at rows before i) row.0 ≡ seen_at rows before (suc i) = sym (seen_next rows before i row.0 row.1) ∙ ap (seen_at rows before) count in
    let number : suc (before + i) ≡ before + suc i = omega arith in
    subst (λ (n : ℕ). Columns rows before q n (seen_at rows before (suc i))) number (subst (Columns rows before q (suc (before + i))) seen h)

-- the last permanent checkpoint is one row
one_last : (rows : List Event) (q m r k row : ℕ) → row_at rows r ≡ Some (Took q k) → r ≤ m → (past (take m rows)).decision k ≡ Some true
    → ((i j : ℕ) → r < i → i ≤ m → row_at rows i ≡ Some (Took q j) → (past (take m rows)).decision j ≢ Some true) → IsLastPermanent rows m q row → r ≡ row
one_last rows q m r k row took within committed others h = elim (cases_lt r row) [
  | inl l ↦ absurd (others row h.instance l h.within h.took h.committed)
  | inr g ↦ elim (cases_lt row r) [ inl l ↦ absurd (h.last r k l within took committed) | inr f ↦ omega (arith, f, g) ]
]

-- where a permanent position stands, in the log's words
standing_column : (rows : List Event) (before q m c : ℕ) → Standing rows before q m (past (take m rows)) c → IsPermanentColumn rows before m q c
standing_column rows before q m c (never others first zero_position) = record {
  through = λ row h. absurd (others row h.instance h.within h.took h.committed);
  left_end = λ none. first;
}
standing_column rows before q m c (last r k took within committed others place position) = record {
  through = λ row h. place ∙ ap (λ (n : ℕ). n - before) (one_last rows q m r k row took within committed others h);
  left_end = λ none. absurd (none r (record { instance = k; took = took; within = within; committed = committed; last = others }));
}

pub column_is : (rows : List Event) (before q i : ℕ) → IsLegal rows → q < 64 → before ≤ length rows → i ≤ length (drop before rows) → IsPermanentColumn rows before (before + i) q (slice_index (seen_at rows before i).places q)
column_is rows before q i l few within high = let h = columns_at rows before q i l few within high in standing_column rows before q (before + i) (slice_index (seen_at rows before i).places q) h.stands.standing

-- the position itself
some_columns : (rows : List Event) (q m : ℕ) → IsLegal rows → m ≤ length rows → (t : ℕ) × (c : ℕ) × StandsAt rows 0 q m t c
some_columns rows q zero l within = (0, 0, stands_start rows 0 q)
some_columns rows q (suc m) l within =
    let row = item_there rows m (omega (arith, within)) in
    let h = some_columns rows q m l (omega (arith, within)) in
    (taken_next 0 q m row.0 h.0, place_next (past (take m rows)) q row.0 h.0 h.1, stands_next rows 0 q m h.0 h.1 row.0 l row.1 h.2)

standing_position : (rows : List Event) (q m c row : ℕ) → Standing rows 0 q m (past (take m rows)) c → IsLastPermanent rows m q row → (past (take m rows)).permanent q ≡ length ((past (take (row - 1) rows)).live q)
standing_position rows q m c row (never others first zero_position) h = absurd (others row h.instance h.within h.took h.committed)
standing_position rows q m c row (last r k took within committed others place position) h =
    position ∙ ap (λ (n : ℕ). length ((past (take (n - 1) rows)).live q)) (one_last rows q m r k row took within committed others h)

standing_nowhere : (rows : List Event) (q m c : ℕ) → Standing rows 0 q m (past (take m rows)) c → ((row : ℕ) → IsLastPermanent rows m q row → ⊥) → (past (take m rows)).permanent q ≡ 0
standing_nowhere rows q m c (never others first zero_position) none = zero_position
standing_nowhere rows q m c (last r k took within committed others place position) none = absurd (none r (record { instance = k; took = took; within = within; committed = committed; last = others }))

pub position_is : (rows : List Event) (q m row : ℕ) → IsLegal rows → m ≤ length rows → IsLastPermanent rows m q row → (past (take m rows)).permanent q ≡ length ((past (take (row - 1) rows)).live q)
position_is rows q m row l within h = let s = some_columns rows q m l within in standing_position rows q m s.1 row s.2.standing h

pub no_position : (rows : List Event) (q m : ℕ) → IsLegal rows → m ≤ length rows → ((row : ℕ) → IsLastPermanent rows m q row → ⊥) → (past (take m rows)).permanent q ≡ 0
no_position rows q m l within none = let s = some_columns rows q m l within in standing_nowhere rows q m s.1 s.2.standing none

-- each cut stands after a row that commits its instance
pub cut_nth : (s : KnownAtRow) (window : List Event) (j : ℕ) (c : CutMark) → slice_get (cut_rows s window) j ≡ Some c
    → (i : ℕ) × (p : ℕ) × (slice_get window i ≡ Some (Decided p c.inst true)) × (c.columns ≡ (fold seen_after s (take (suc i) window)).places)
cut_nth s [] j c e = absurd (cc)
cut_nth s (row ∷ rest) j c e = at_row row refl (λ k f. cut_nth (seen_after s row) rest k c f) e
  where
    later : ((k : ℕ) → slice_get (cut_rows (seen_after s row) rest) k ≡ Some c → (i : ℕ) × (p : ℕ) × (slice_get rest i ≡ Some (Decided p c.inst true)) × (c.columns ≡ (fold seen_after (seen_after s row) (take (suc i) rest)).places)) → (k : ℕ) → slice_get (cut_rows (seen_after s row) rest) k ≡ Some c
        → (i : ℕ) × (p : ℕ) × (slice_get (row ∷ rest) i ≡ Some (Decided p c.inst true)) × (c.columns ≡ (fold seen_after s (take (suc i) (row ∷ rest))).places)
    later more k f = let h = more k f in (suc h.0, h.1, h.2, h.3)

    at_commit : (p k : ℕ) → row ≡ Decided p k true → ((k : ℕ) → slice_get (cut_rows (seen_after s row) rest) k ≡ Some c → (i : ℕ) × (p : ℕ) × (slice_get rest i ≡ Some (Decided p c.inst true)) × (c.columns ≡ (fold seen_after (seen_after s row) (take (suc i) rest)).places)) → (j : ℕ) → slice_get (record { inst = k; columns = (seen_after s row).places; is_new = not (bytes_eq s.places (seen_after s row).places) } ∷ cut_rows (seen_after s row) rest) j ≡ Some c
        → (i : ℕ) × (p : ℕ) × (slice_get (row ∷ rest) i ≡ Some (Decided p c.inst true)) × (c.columns ≡ (fold seen_after s (take (suc i) (row ∷ rest))).places)
    at_commit p k is more zero f =
        let mark : CutMark = record { inst = k; columns = (seen_after s row).places; is_new = not (bytes_eq s.places (seen_after s row).places) } in
        let same : mark ≡ c = some_same f in
        (0, p, ap (λ (x : Event). Some x) is ∙ ap (λ (x : CutMark). Some (Decided p x.inst true)) same, ap (λ (x : CutMark). x.columns) (sym same))
    at_commit p k is more (suc j) f = later more j f

    at_row : (x : Event) → row ≡ x → ((k : ℕ) → slice_get (cut_rows (seen_after s row) rest) k ≡ Some c → (i : ℕ) × (p : ℕ) × (slice_get rest i ≡ Some (Decided p c.inst true)) × (c.columns ≡ (fold seen_after (seen_after s row) (take (suc i) rest)).places)) → slice_get (cut_in s.places (seen_after s row).places x ++ cut_rows (seen_after s row) rest) j ≡ Some c
        → (i : ℕ) × (p : ℕ) × (slice_get (row ∷ rest) i ≡ Some (Decided p c.inst true)) × (c.columns ≡ (fold seen_after s (take (suc i) (row ∷ rest))).places)
    at_row (Decided p k true) is more f = at_commit p k is more j f
    at_row (Decided p k false) is more f = later more j f
    at_row (Sent p to body) is more f = later more j f
    at_row (Received p from msg) is more f = later more j f
    at_row (Dropped p from msg) is more f = later more j f
    at_row (Began p k kind) is more f = later more j f
    at_row (Took p k) is more f = later more j f
    at_row (Ready p k) is more f = later more j f
    at_row (Unwilling p k cause) is more f = later more j f
    at_row (Closed p k) is more f = later more j f
    at_row (Failed p) is more f = later more j f
    at_row (Refused p verb cause) is more f = later more j f

-- one cut for each row that commits
pub cut_instances : (s : KnownAtRow) (window : List Event) → map (λ (c : CutMark). c.inst) (cut_rows s window) ≡ filter_map commits window
cut_instances s [] = refl
cut_instances s (Decided p k true ∷ rest) = ap (λ (l : List ℕ). k ∷ l) (cut_instances (seen_after s (Decided p k true)) rest)
cut_instances s (Decided p k false ∷ rest) = cut_instances (seen_after s (Decided p k false)) rest
cut_instances s (Sent p to body ∷ rest) = cut_instances (seen_after s (Sent p to body)) rest
cut_instances s (Received p from msg ∷ rest) = cut_instances (seen_after s (Received p from msg)) rest
cut_instances s (Dropped p from msg ∷ rest) = cut_instances (seen_after s (Dropped p from msg)) rest
cut_instances s (Began p k kind ∷ rest) = cut_instances (seen_after s (Began p k kind)) rest
cut_instances s (Took p k ∷ rest) = cut_instances (seen_after s (Took p k)) rest
cut_instances s (Ready p k ∷ rest) = cut_instances (seen_after s (Ready p k)) rest
cut_instances s (Unwilling p k cause ∷ rest) = cut_instances (seen_after s (Unwilling p k cause)) rest
cut_instances s (Closed p k ∷ rest) = cut_instances (seen_after s (Closed p k)) rest
cut_instances s (Failed p ∷ rest) = cut_instances (seen_after s (Failed p)) rest
cut_instances s (Refused p verb cause ∷ rest) = cut_instances (seen_after s (Refused p verb cause)) rest

-- a cut is new where it differs from the one before
pub cut_new : (s : KnownAtRow) (window : List Event) (j : ℕ) (c : CutMark) → slice_get (cut_rows s window) j ≡ Some c → c.is_new ≡ not (bytes_eq (columns_before s.places (cut_rows s window) j) c.columns)
cut_new s [] j c e = absurd (cc)
cut_new s (Decided p k true ∷ rest) zero c e =
    let places = (seen_after s (Decided p k true)).places in
    let mark : CutMark = record { inst = k; columns = places; is_new = not (bytes_eq s.places places) } in
    let same : mark ≡ c = some_same e in
    ap (λ (x : CutMark). x.is_new) (sym same) ∙ ap (λ (x : CutMark). not (bytes_eq s.places x.columns)) same
cut_new s (Decided p k true ∷ rest) (suc j) c e = cut_new (seen_after s (Decided p k true)) rest j c e
cut_new s (Decided p k false ∷ rest) j c e = cut_new (seen_after s (Decided p k false)) rest j c e
cut_new s (Sent p to body ∷ rest) j c e = cut_new (seen_after s (Sent p to body)) rest j c e
cut_new s (Received p from msg ∷ rest) j c e = cut_new (seen_after s (Received p from msg)) rest j c e
cut_new s (Dropped p from msg ∷ rest) j c e = cut_new (seen_after s (Dropped p from msg)) rest j c e
cut_new s (Began p k kind ∷ rest) j c e = cut_new (seen_after s (Began p k kind)) rest j c e
cut_new s (Took p k ∷ rest) j c e = cut_new (seen_after s (Took p k)) rest j c e
cut_new s (Ready p k ∷ rest) j c e = cut_new (seen_after s (Ready p k)) rest j c e
cut_new s (Unwilling p k cause ∷ rest) j c e = cut_new (seen_after s (Unwilling p k cause)) rest j c e
cut_new s (Closed p k ∷ rest) j c e = cut_new (seen_after s (Closed p k)) rest j c e
cut_new s (Failed p ∷ rest) j c e = cut_new (seen_after s (Failed p)) rest j c e
cut_new s (Refused p verb cause ∷ rest) j c e = cut_new (seen_after s (Refused p verb cause)) rest j c e
