-- Row after row is taken from the parts.
use Rattle.std.proofs.Common.{◌≡◌, ◌≢◌, ◌∙◌, ◌<◌, ◌≤◌, ◌+◌, ℕ, Option, Some, None, Ok, List, [], ◌∷◌, ◌++◌, IfSome, length, length-append, set, refl, sym, ap, subst, arith, inl, inr}
use Rattle.std.specs.Prelude.{All}
use Rattle.std.specs.List.{slice_get}
use Rattle.std.proofs.lemmas.Bool.{cases_eq}
use Rattle.std.proofs.lemmas.List.{map-append, length-set}
use Rattle.std.proofs.lemmas.List.Elements.{All-nil, All-push, All-weaker, All-get_or}
use Rattle.std.proofs.lemmas.List.Quantifiers.{all_pairs_push}
use Rattle.std.proofs.lemmas.Option.{slice_get_within}
use Rattle.kt_meaning.proofs.Items.{item_there, get_set_same, get_set_other, some_same}
use Rattle.kt_spacetime.specs.declared.event.Event.{Event}
use Rattle.kt_spacetime.specs.declared.named_rows.NamedRow.{NamedRow}
use Rattle.kt_meaning.specs.Names.{Given, nothing_given, given_after, given_by, numbered_event, numbered_from, numbered}
use Rattle.kt_meaning.proofs.NumberedFacts.{numbers_first, numbered_more}
use Rattle.kt_spacetime.specs.declared.named_rows.ClockedRow.{ClockedRow}
use Rattle.kt_spacetime.specs.ClockedRows.{rows_of, without_clocks}
use Rattle.kt_merge.specs.Texts.{clock_after, IsPartText, BeginsPart}
use Rattle.kt_merge.specs.Reading.{PartRead, part_unread, GivesPartRow, StepsPart}
use Rattle.kt_merge.proofs.GatherFacts.{GathersPart, BeginsKnown, clock_push, gathers_none}
use Rattle.kt_merge.specs.Heads.{IsNotLater, IsLeastHead, HasNoHead, GiveHeads}
use Rattle.kt_merge.specs.Merging.{Records, ArePartsUnread, IsPartOf, AreSorted, IsMergeOf, SaysNext, BeginsMerge}
use Rattle.kt_merge.proofs.HeldFacts.{more_of, same_of, not_later, before_by, one_left, HoldsHead, head_held, LeftBy, left_by, begins_by, before_left}

abbrev Heads : Type 0
Heads = List (Option ClockedRow)

-- rows of all parts were taken in order, and of each part the next row is held
pub record IsMergedTo (start parts : List PartRead) (heads : List (Option ClockedRow)) (rows : List ClockedRow) (log : List Event) : Type 0 where
  pub many : (length parts ≡ length start) × (length heads ≡ length start)
  pub held : (p : ℕ) (part at : PartRead) (head : Option ClockedRow) → slice_get start p ≡ Some part → slice_get parts p ≡ Some at → slice_get heads p ≡ Some head → HoldsHead p part.left at (rows_of p rows) head
  pub sorted : AreSorted start rows
  pub behind : (p : ℕ) (head : ClockedRow) → slice_get heads p ≡ Some (Some head) → All (λ r. IsNotLater r head) rows
  pub numbers : numbered (without_clocks rows) ≡ Some log

-- a row was taken, and the next one of its part is not read yet
pub record IsTaken (start parts : List PartRead) (heads : List (Option ClockedRow)) (p : ℕ) (before : List ClockedRow) (row : ClockedRow) (log : List Event) : Type 0 where
  pub many : (length parts ≡ length start) × (length heads ≡ length start) × (p < length start)
  pub own : row.row.p ≡ p
  pub here : (part at : PartRead) → slice_get start p ≡ Some part → slice_get parts p ≡ Some at → GathersPart p part.left at (rows_of p (before ++ row ∷ []))
  pub others : (q : ℕ) (part at : PartRead) (head : Option ClockedRow) → q ≢ p → slice_get start q ≡ Some part → slice_get parts q ≡ Some at → slice_get heads q ≡ Some head → HoldsHead q part.left at (rows_of q (before ++ row ∷ [])) head
  pub sorted : AreSorted start (before ++ row ∷ [])
  pub behind : (q : ℕ) (head : ClockedRow) → q ≢ p → slice_get heads q ≡ Some (Some head) → All (λ r. IsNotLater r head) (before ++ row ∷ [])
  pub up_to : All (λ r. IsNotLater r row) (before ++ row ∷ [])
  pub numbers : numbered (without_clocks (before ++ row ∷ [])) ≡ Some log

-- what stands in the place of a part
abbrev pub Stands : List PartRead → Heads → List ClockedRow → ℕ → Records → Type 0
Stands parts heads rows p text = (at : PartRead) × (head : Option ClockedRow) × (slice_get heads p ≡ Some head) × HoldsHead p (Some text) at (rows_of p rows) head

stands_at : (start parts : List PartRead) (heads : Heads) (rows : List ClockedRow) (p : ℕ) (text : Records) → length parts ≡ length start → length heads ≡ length start
    → ((part at : PartRead) (head : Option ClockedRow) → slice_get start p ≡ Some part → slice_get parts p ≡ Some at → slice_get heads p ≡ Some head → HoldsHead p part.left at (rows_of p rows) head)
    → IsPartOf start p text → Stands parts heads rows p text
stands_at start parts heads rows p text m n held of =
    let within = slice_get_within start p of.0 of.1 in
    let at = item_there parts p (omega (arith, within, m)) in
    let head = item_there heads p (omega (arith, within, n)) in
    (at.0, head.0, head.1, subst (λ (k : Option Records). HoldsHead p k at.0 (rows_of p rows) head.0) of.2 (held of.0 at.0 head.0 of.1 at.1 head.1))

pub stands : (start parts : List PartRead) (heads : Heads) (rows : List ClockedRow) (log : List Event) → IsMergedTo start parts heads rows log → (p : ℕ) (text : Records) → IsPartOf start p text → Stands parts heads rows p text
stands start parts heads rows log m p text of = stands_at start parts heads rows p text m.many.0 m.many.1 (m.held p) of

pub stands_beside : (start parts : List PartRead) (heads : Heads) (p : ℕ) (before : List ClockedRow) (row : ClockedRow) (log : List Event) → IsTaken start parts heads p before row log → (q : ℕ) (text : Records) → q ≢ p → IsPartOf start q text
    → Stands parts heads (before ++ row ∷ []) q text
stands_beside start parts heads p before row log t q text n of = stands_at start parts heads (before ++ row ∷ []) q text t.many.0 t.many.1 (λ part at head. t.others q part at head n) of

-- what is left of a part
pub left_stands : (parts : List PartRead) (heads : Heads) (rows : List ClockedRow) (p : ℕ) (text left : Records) (s : Stands parts heads rows p text) → BeginsPart p text (rows_of p rows) left → LeftBy p rows left s.1
left_stands parts heads rows p text left s b = left_by p rows text left s.0 s.1 s.3 b

-- rows are a beginning of a part, and before what is left of it
abbrev IsBegun : ℕ → List ClockedRow → Records → Type 0
IsBegun p rows text = (left : Records) × BeginsPart p text (rows_of p rows) left × ((next : ClockedRow) → SaysNext p rows left next → All (λ r. IsNotLater r next) rows)

begun_by : (parts : List PartRead) (heads : Heads) (rows : List ClockedRow) (p : ℕ) (text : Records) → Stands parts heads rows p text → ((h : ClockedRow) → slice_get heads p ≡ Some (Some h) → All (λ r. IsNotLater r h) rows) → IsBegun p rows text
begun_by parts heads rows p text s behind =
    let b = begins_by p (rows_of p rows) text s.0 s.1 s.3 in
    (b.0, b.1, λ next says. before_left p rows b.0 s.1 next (left_stands parts heads rows p text b.0 s b.1) (λ h e. behind h (s.2 ∙ ap Some e)) says)

-- so rows begin the merge
pub begins_merge : (start parts : List PartRead) (heads : List (Option ClockedRow)) (rows : List ClockedRow) (log : List Event) → IsMergedTo start parts heads rows log → BeginsMerge start rows log
begins_merge start parts heads rows log m = record {
  sorted = m.sorted;
  begun = λ p text of. begun_by parts heads rows p text (stands start parts heads rows log m p text of) (m.behind p);
  numbers = m.numbers;
}

-- what is gathered of a part whose next row is not read yet
known_left : (p : ℕ) (mine : List ClockedRow) (text : Records) (known : Option Records) → BeginsKnown p (Some text) mine known → (left : Records) × BeginsPart p text mine left
known_left p mine text None k = absurd k
known_left p mine text (Some left) k = (left, k)

pub at_known : (p : ℕ) (mine : List ClockedRow) (text left : Records) (known : Option Records) (P : Records → Type 0) → BeginsKnown p (Some text) mine known → BeginsPart p text mine left → IfSome known P → P left
at_known p mine text left None P k b h = absurd k
at_known p mine text left (Some more) P k b h = subst P (one_left p text more left mine k b) h

pub gathered_here : (start parts : List PartRead) (heads : Heads) (p : ℕ) (before : List ClockedRow) (row : ClockedRow) (log : List Event) → IsTaken start parts heads p before row log → (text : Records) → IsPartOf start p text → (at : PartRead) → slice_get parts p ≡ Some at
    → GathersPart p (Some text) at (rows_of p (before ++ row ∷ []))
gathered_here start parts heads p before row log t text of at there = subst (λ (k : Option Records). GathersPart p k at (rows_of p (before ++ row ∷ []))) of.2 (t.here of.0 at of.1 there)

clock_here : (p : ℕ) (before : List ClockedRow) (row : ClockedRow) → row.row.p ≡ p → clock_after 0 (rows_of p (before ++ row ∷ [])) ≡ row.clock
clock_here p before row own = ap (clock_after 0) (more_of p before row own) ∙ clock_push 0 (rows_of p before) row

rising : (a b : ClockedRow) → a.clock ≤ b.clock → a.row.p ≡ b.row.p → IsNotLater a b
rising a b l e = elim (cases_eq a.clock b.clock) [
  | inl same ↦ inr (same, omega (arith, e))
  | inr other ↦ inl (omega (arith, l, other))
]

later_here : (start parts : List PartRead) (heads : Heads) (p : ℕ) (before : List ClockedRow) (row : ClockedRow) (log : List Event) → IsTaken start parts heads p before row log → (left : Records) (next : ClockedRow) → SaysNext p (before ++ row ∷ []) left next
    → All (λ r. IsNotLater r next) (before ++ row ∷ [])
later_here start parts heads p before row log t left next says =
    let rises : row.clock ≤ next.clock = subst (λ (c : ℕ). c ≤ next.clock) (clock_here p before row t.own) says.1 in
    let later = rising row next rises (t.own ∙ sym says.2) in
    All-weaker (λ (r : ClockedRow). IsNotLater r row) (λ (r : ClockedRow). IsNotLater r next) (λ (r : ClockedRow) n. not_later r row next n later) (before ++ row ∷ []) t.up_to

begun_here : (start parts : List PartRead) (heads : Heads) (p : ℕ) (before : List ClockedRow) (row : ClockedRow) (log : List Event) → IsTaken start parts heads p before row log → (text : Records) → IsPartOf start p text → IsBegun p (before ++ row ∷ []) text
begun_here start parts heads p before row log t text of =
    let at = item_there parts p (omega (arith, t.many.0, t.many.2)) in
    let g = gathered_here start parts heads p before row log t text of at.0 at.1 in
    let b = known_left p (rows_of p (before ++ row ∷ [])) text at.0.left g.begins in
    (b.0, b.1, λ next says. later_here start parts heads p before row log t b.0 next says)

-- the rows that are taken with a row begin the merge
pub begins_taken : (start parts : List PartRead) (heads : List (Option ClockedRow)) (p : ℕ) (before : List ClockedRow) (row : ClockedRow) (log : List Event) → IsTaken start parts heads p before row log → BeginsMerge start (before ++ row ∷ []) log
begins_taken start parts heads p before row log t = record {
  sorted = t.sorted;
  begun = λ q text of. elim (cases_eq q p) [
    | inl same ↦ subst (λ (r : ℕ). IsBegun r (before ++ row ∷ []) text) (sym same) (begun_here start parts heads p before row log t text (subst (λ (r : ℕ). IsPartOf start r text) same of))
    | inr other ↦ begun_by parts heads (before ++ row ∷ []) q text (stands_beside start parts heads p before row log t q text other of) (λ h. t.behind q h other)
  ];
  numbers = t.numbers;
}

-- one more row has the next numbers
numbered_push : (g : Given) (rows : List NamedRow) (log : List Event) (row : NamedRow) (event : Event) → numbered_from g rows ≡ Some log → numbered_event (given_by g log) row.p row.event ≡ Some event
    → numbered_from g (rows ++ row ∷ []) ≡ Some (log ++ event ∷ [])
numbered_push g [] log row event e f =
    let none : [] ≡ log = cc e in
    let here : numbered_event g row.p row.event ≡ Some event = subst (λ (l : List Event). numbered_event (given_by g l) row.p row.event ≡ Some event) (sym none) f in
    subst (λ (l : List Event). numbered_from g (row ∷ []) ≡ Some (l ++ event ∷ [])) none (numbered_more g row [] event [] here refl)
numbered_push g (x ∷ rows) log row event e f =
    let n = numbers_first g x rows log e in
    let later : numbered_event (given_by (given_after g n.event) n.rest) row.p row.event ≡ Some event = subst (λ (l : List Event). numbered_event (given_by g l) row.p row.event ≡ Some event) (sym n.is) f in
    subst (λ (l : List Event). numbered_from g (x ∷ rows ++ row ∷ []) ≡ Some (l ++ event ∷ [])) n.is
    (numbered_more g x (rows ++ row ∷ []) n.event (n.rest ++ event ∷ []) n.first (numbered_push (given_after g n.event) rows n.rest row event n.others later))

-- a row that is held is its part's
pub own_of : (start parts : List PartRead) (heads : Heads) (rows : List ClockedRow) (log : List Event) → IsMergedTo start parts heads rows log → (p : ℕ) (row : ClockedRow) → slice_get heads p ≡ Some (Some row) → (p < length start) × (row.row.p ≡ p)
own_of start parts heads rows log m p row e =
    let within : p < length start = omega (arith, slice_get_within heads p (Some row) e, m.many.1) in
    let part = item_there start p within in
    let at = item_there parts p (omega (arith, within, m.many.0)) in
    let h = m.held p part.0 at.0 (Some row) part.1 at.1 e in
    (within, h.1)

-- it is the last one that its part's reader gave
pub count_held : (start parts : List PartRead) (heads : List (Option ClockedRow)) (rows : List ClockedRow) (log : List Event) (p : ℕ) (row : ClockedRow) (at : PartRead) → IsMergedTo start parts heads rows log → slice_get heads p ≡ Some (Some row)
    → slice_get parts p ≡ Some at → at.count ≡ length (rows_of p rows) + 1
count_held start parts heads rows log p row at m e there =
    let part = item_there start p (own_of start parts heads rows log m p row e).0 in
    let h = m.held p part.0 at (Some row) part.1 there e in
    h.0.count ∙ length-append (rows_of p rows) (row ∷ [])

-- the least head is taken
pub taken : (start parts : List PartRead) (heads : List (Option ClockedRow)) (rows : List ClockedRow) (log : List Event) (p : ℕ) (row : ClockedRow) (event : Event) → IsMergedTo start parts heads rows log → IsLeastHead heads p row
    → numbered_event (given_by nothing_given log) row.row.p row.row.event ≡ Some event → IsTaken start parts heads p rows row (log ++ event ∷ [])
taken start parts heads rows log p row event m least e =
    let own = own_of start parts heads rows log m p row least.is in
    record {
      many = (m.many.0, m.many.1, own.0);
      own = own.1;
      here = λ part at f g. subst (λ (l : List ClockedRow). GathersPart p part.left at l) (sym (more_of p rows row own.1)) (m.held p part at (Some row) f g least.is).0;
      others = λ q part at head n f g h. subst (λ (l : List ClockedRow). HoldsHead q part.left at l head) (sym (same_of q rows row (λ s. n (sym s ∙ own.1)))) (m.held q part at head f g h);
      sorted = record {
        of_parts = All-push (λ (r : ClockedRow). r.row.p < length start) rows row m.sorted.of_parts (omega (arith, own.0, own.1));
        sorted = all_pairs_push IsNotLater rows row m.sorted.sorted (λ k d l. All-get_or (λ (r : ClockedRow). IsNotLater r row) rows k d l (m.behind p row least.is));
      };
      behind = λ q head n at.
          All-push (λ (r : ClockedRow). IsNotLater r head) rows row (m.behind q head at) (before_by row head p q own.1 (own_of start parts heads rows log m q head at).1 (least.least q head at));
      up_to = All-push (λ (r : ClockedRow). IsNotLater r row) rows row (m.behind p row least.is) (inr (refl, omega arith));
      numbers = ap numbered (map-append (λ (r : ClockedRow). r.row) rows (row ∷ [])) ∙ numbered_push nothing_given (without_clocks rows) log row.row event m.numbers e;
    }

-- where the next row of its part is read, all heads are held again
pub merged_more : (start parts : List PartRead) (heads : List (Option ClockedRow)) (p : ℕ) (before : List ClockedRow) (row : ClockedRow) (log : List Event) (old new : PartRead) (head : Option ClockedRow) → IsTaken start parts heads p before row log
    → slice_get parts p ≡ Some old → StepsPart old new (Ok head) → IsMergedTo start (set parts p new) (set heads p head) (before ++ row ∷ []) log
merged_more start parts heads p before row log old new head t there steps = record {
  many = (length-set parts p new ∙ t.many.0, length-set heads p head ∙ t.many.1);
  held = held;
  sorted = t.sorted;
  behind = behind;
  numbers = t.numbers;
}
  where
    new_there : slice_get (set parts p new) p ≡ Some new
    new_there = get_set_same parts p new (omega (arith, t.many.0, t.many.2))

    head_there : slice_get (set heads p head) p ≡ Some head
    head_there = get_set_same heads p head (omega (arith, t.many.1, t.many.2))

    held_here : (part : PartRead) → slice_get start p ≡ Some part → HoldsHead p part.left new (rows_of p (before ++ row ∷ [])) head
    held_here part f = head_held p part.left old new (rows_of p (before ++ row ∷ [])) head (t.here part old f there) steps

    held : (q : ℕ) (part at : PartRead) (h : Option ClockedRow) → slice_get start q ≡ Some part → slice_get (set parts p new) q ≡ Some at → slice_get (set heads p head) q ≡ Some h → HoldsHead q part.left at (rows_of q (before ++ row ∷ [])) h
    held q part at h f g e = elim (cases_eq q p) [
      | inl same ↦
          let at_is : new ≡ at = some_same (sym new_there ∙ (ap (slice_get (set parts p new)) (sym same) ∙ g)) in
          let head_is : head ≡ h = some_same (sym head_there ∙ (ap (slice_get (set heads p head)) (sym same) ∙ e)) in
          subst (λ (r : ℕ). HoldsHead r part.left at (rows_of r (before ++ row ∷ [])) h) (sym same)
          (subst (λ (x : PartRead). HoldsHead p part.left x (rows_of p (before ++ row ∷ [])) h) at_is
          (subst (λ (x : Option ClockedRow). HoldsHead p part.left new (rows_of p (before ++ row ∷ [])) x) head_is (held_here part (ap (slice_get start) (sym same) ∙ f))))
      | inr other ↦ t.others q part at h other f (sym (get_set_other parts p q new other) ∙ g) (sym (get_set_other heads p q head other) ∙ e)
    ]

    next_later : (h : ClockedRow) → GivesPartRow old new h → IsNotLater row h
    next_later h gives =
        let part = item_there start p t.many.2 in
        let g = t.here part.0 old part.1 there in
        let rises : row.clock ≤ h.clock = subst (λ (c : ℕ). c ≤ h.clock) (g.clock ∙ clock_here p before row t.own) gives.rises in
        rising row h rises (t.own ∙ sym (gives.own ∙ g.process))

    next_here : (x : Option ClockedRow) (h : ClockedRow) → StepsPart old new (Ok x) → x ≡ Some h → IsNotLater row h
    next_here None h s e = let none : None ≡ Some h = e in cc none
    next_here (Some y) h s e = let is : y ≡ h = some_same e in subst (λ (z : ClockedRow). IsNotLater row z) is (next_later y s)

    behind : (q : ℕ) (h : ClockedRow) → slice_get (set heads p head) q ≡ Some (Some h) → All (λ r. IsNotLater r h) (before ++ row ∷ [])
    behind q h e = elim (cases_eq q p) [
      | inl same ↦
          let head_is : head ≡ Some h = some_same (sym head_there ∙ (ap (slice_get (set heads p head)) (sym same) ∙ e)) in
          let later = next_here head h steps head_is in
          All-weaker (λ (r : ClockedRow). IsNotLater r row) (λ (r : ClockedRow). IsNotLater r h) (λ (r : ClockedRow) n. not_later r row h n later) (before ++ row ∷ []) t.up_to
      | inr other ↦ t.behind q h other (sym (get_set_other heads p q head other) ∙ e)
    ]

-- where no part has a next row, all rows are merged
pub merged_all : (start parts : List PartRead) (heads : List (Option ClockedRow)) (rows : List ClockedRow) (log : List Event) → IsMergedTo start parts heads rows log → HasNoHead heads → IsMergeOf start rows
merged_all start parts heads rows log m none = record { sorted = m.sorted; whole = λ p text of. whole p text (stands start parts heads rows log m p text of) }
  where
    at_end : (p : ℕ) (text : Records) (at : PartRead) (head : Option ClockedRow) → slice_get heads p ≡ Some head → HoldsHead p (Some text) at (rows_of p rows) head → IsPartText p text (rows_of p rows)
    at_end p text at None e h = h
    at_end p text at (Some row) e h = absurd (none p row e)

    whole : (p : ℕ) (text : Records) → Stands parts heads rows p text → IsPartText p text (rows_of p rows)
    whole p text s = at_end p text s.0 s.1 s.2 s.3

-- the first rows of all parts are held
pub unread_gathers : (start : List PartRead) → ArePartsUnread start → (p : ℕ) (part : PartRead) → slice_get start p ≡ Some part → GathersPart p part.left part []
unread_gathers start unread p part at =
    let u = unread p part at in
    let is : part ≡ part_unread p u.0.0 = u.0.1 ∙ ap (λ (q : ℕ). part_unread q u.0.0) u.1 in
    subst (λ (x : PartRead). GathersPart p x.left x []) (sym is) (gathers_none p u.0.0)

pub merged_none : (start parts : List PartRead) (heads : List (Option ClockedRow)) → ArePartsUnread start → GiveHeads start parts heads → IsMergedTo start parts heads [] []
merged_none start parts heads unread g = record {
  many = g.many;
  held = λ p part at head e f h. head_held p part.left part at [] head (unread_gathers start unread p part e) (g.each p part at head e f h);
  sorted = record { of_parts = All-nil (λ (r : ClockedRow). r.row.p < length start); sorted = λ i j d low l. absurd (omega (arith, l)) };
  behind = λ p head e. All-nil (λ (r : ClockedRow). IsNotLater r head);
  numbers = refl;
}

-- no row begins a merge
pub begins_nothing : (start : List PartRead) → BeginsMerge start [] []
begins_nothing start = record {
  sorted = record { of_parts = All-nil (λ (r : ClockedRow). r.row.p < length start); sorted = λ i j d low l. absurd (omega (arith, l)) };
  begun = λ p text of. (text, record { spelled = refl; part = tt; few = omega arith }, λ next says. All-nil (λ (r : ClockedRow). IsNotLater r next));
  numbers = refl;
}
