-- The rows that a net told so far, by numbers.
use Rattle.std.proofs.Common.{◌≡◌, ◌∙◌, ℕ, ◌+◌, ◌-◌, ◌≤◌, ◌==◌, if◌then◌else◌, Bool, true, false, Option, Some, None, option_map, List, [], ◌∷◌, ◌++◌, length, take, refl, sym, ap, subst, arith}
use Rattle.std.specs.Prelude.{ℤ, ◌&&◌}
use Rattle.std.specs.Option.{option_and_then}
use Rattle.std.proofs.lemmas.List.{length-append, map-append}
use Rattle.kt_base.specs.declared.words.Cause.{Cause}
use Rattle.kt_base.specs.declared.words.Kind.{Kind}
use Rattle.kt_base.specs.declared.words.Verb.{Verb}
use Rattle.kt_spacetime.specs.declared.event.Event.{Event}
use Rattle.kt_spacetime.specs.declared.event.Event.TheVariants.{Sent, Received, Dropped, Began, Took, Ready, Unwilling, Decided, Closed, Failed, Refused}
use Rattle.kt_meaning.proofs.Shown.{at_same}
use Rattle.kt_meaning.specs.Messages.{row_at}
use Rattle.kt_meaning.specs.Past.{at_one}
use Rattle.kt_machine.specs.Messages.{sends_of, label_by_rows}
use Rattle.kt_spacetime.specs.declared.names.InstName.{InstName}
use Rattle.kt_spacetime.specs.declared.named_rows.NamedCause.{NamedCause}
use Rattle.kt_spacetime.specs.declared.named_rows.NamedEvent.{NamedEvent}
use Rattle.kt_spacetime.specs.declared.named_rows.NamedEvent.TheVariants as own
use Rattle.kt_spacetime.specs.declared.named_rows.NamedRow.{NamedRow}
use Rattle.kt_meaning.specs.Names.{Given, nothing_given, initiators_after, begun_after, given_after, given_by, at_place, name_of, row_of, instance_number, instance_name, numbered_cause, numbered_event, numbered_from}
use Rattle.kt_meaning.proofs.PlaceFacts.{same_test, at_last}
use Rattle.kt_meaning.proofs.GivenFacts.{none_given, given_more}
use Rattle.kt_meaning.proofs.NumberedFacts.{numbers_first, numbered_more}
use Rattle.kt_node.specs.Erasing.{relabelled, rows_from}
use Rattle.kt_node.proofs.Naming.{IsNaming, all_given, given_push, name_more, number_of_name, name_of_number}
use Rattle.kt_node.proofs.SentPlaces.{sent_count, sent_place}

-- what a log gave
abbrev pub given : List Event → Given
given log = given_by nothing_given log

-- rows are the log by numbers, so many instances have begun, each process began so many, and these are their names
pub record Told (name : ℕ → InstName) (first : ℕ) (count : ℕ → ℕ) (rows : List NamedRow) (log : List Event) (begun : ℕ) : Type 0 where
  pub numbers : numbered_from nothing_given (rows_from first rows) ≡ Some log
  pub begun_is : length (given log).initiators ≡ begun
  pub counts : (u : ℕ) → count u ≡ length ((given log).begun u)
  pub naming : IsNaming name (given log)

-- one more row of a list
numbered_push : (g : Given) (rows : List NamedRow) (log : List Event) (row : NamedRow) (event : Event) → numbered_from g rows ≡ Some log
    → numbered_event (given_by g log) row.p row.event ≡ Some event → numbered_from g (rows ++ row ∷ []) ≡ Some (log ++ event ∷ [])
numbered_push g [] log row event e f =
    let none : [] ≡ log = cc in
    subst (λ (l : List Event). numbered_event (given_by g l) row.p row.event ≡ Some event → numbered_from g (row ∷ []) ≡ Some (l ++ event ∷ [])) none
    (λ h. numbered_more g row [] event [] h refl) f
numbered_push g (x ∷ xs) log row event e f =
    let n = numbers_first g x xs log e in
    subst (λ (l : List Event). numbered_event (given_by g l) row.p row.event ≡ Some event → numbered_from g (x ∷ (xs ++ row ∷ [])) ≡ Some (l ++ event ∷ [])) n.is
    (λ h. numbered_more g x (xs ++ row ∷ []) n.event (n.rest ++ event ∷ []) n.first (numbered_push (given_after g n.event) xs n.rest row event n.others h)) f

-- one more row of process p
module _ (name : ℕ → InstName) (first : ℕ) (rows : List NamedRow) (log : List Event) (begun : ℕ) (p : ℕ) where
  rows_numbered : (event : NamedEvent) (row : Event) → numbered_from nothing_given (rows_from first rows) ≡ Some log
      → numbered_event (given log) p (relabelled (λ q label. label - first) p event) ≡ Some row → numbered_from nothing_given (rows_from first (rows ++ row_of p event ∷ [])) ≡ Some (log ++ row ∷ [])
  rows_numbered event row t e =
      subst (λ (l : List NamedRow). numbered_from nothing_given l ≡ Some (log ++ row ∷ [])) (sym (map-append (λ (r : NamedRow). row_of r.p (relabelled (λ q label. label - first) r.p r.event)) rows (row_of p event ∷ [])))
      (numbered_push nothing_given (rows_from first rows) log (row_of p (relabelled (λ q label. label - first) p event)) row t e)

  pub told_more : (count : ℕ → ℕ) (event : NamedEvent) (row : Event) → Told name first count rows log begun → numbered_event (given log) p (relabelled (λ q label. label - first) p event) ≡ Some row
      → initiators_after (given log) row ≡ (given log).initiators → begun_after (given log) row ≡ (given log).begun
      → Told name first count (rows ++ row_of p event ∷ []) (log ++ row ∷ []) begun
  told_more count event row t e i b = record {
    numbers = rows_numbered event row t.numbers e;
    begun_is = ap (λ (g : Given). length g.initiators) (given_push log row) ∙ (ap (λ (l : List ℕ). length l) i ∙ t.begun_is);
    counts = λ u. t.counts u ∙ sym (ap (λ (g : Given). length (g.begun u)) (given_push log row) ∙ ap (λ (f : ℕ → List ℕ). length (f u)) b);
    naming = subst (IsNaming name) (sym (given_push log row)) (record {
      names = λ k low high. name_more (given log) row k (name k) (t.naming.names k low (subst (λ (l : List ℕ). k ≤ length l) i high));
    });
  }

  -- an instance that has begun has its number
  pub number_is : (count : ℕ → ℕ) → Told name first count rows log begun → (k : ℕ) → 1 ≤ k → k ≤ begun → instance_number (given log) (name k) ≡ Some k
  number_is count t k low high = number_of_name (given log) k (name k) (t.naming.names k low (subst (λ (n : ℕ). k ≤ n) (sym t.begun_is) high))

  -- each row that names an instance
  pub told_took : (count : ℕ → ℕ) (k : ℕ) → 1 ≤ k → k ≤ begun → Told name first count rows log begun → Told name first count (rows ++ row_of p (own.Took (name k)) ∷ []) (log ++ Took p k ∷ []) begun
  told_took count k low high t = told_more count (own.Took (name k)) (Took p k) t (ap (option_map (Took p)) (number_is count t k low high)) refl refl

  pub told_ready : (count : ℕ → ℕ) (k : ℕ) → 1 ≤ k → k ≤ begun → Told name first count rows log begun → Told name first count (rows ++ row_of p (own.Ready (name k)) ∷ []) (log ++ Ready p k ∷ []) begun
  told_ready count k low high t = told_more count (own.Ready (name k)) (Ready p k) t (ap (option_map (Ready p)) (number_is count t k low high)) refl refl

  pub told_closed : (count : ℕ → ℕ) (k : ℕ) → 1 ≤ k → k ≤ begun → Told name first count rows log begun → Told name first count (rows ++ row_of p (own.Closed (name k)) ∷ []) (log ++ Closed p k ∷ []) begun
  told_closed count k low high t = told_more count (own.Closed (name k)) (Closed p k) t (ap (option_map (Closed p)) (number_is count t k low high)) refl refl

  pub told_decided : (count : ℕ → ℕ) (k : ℕ) (c : Bool) → 1 ≤ k → k ≤ begun → Told name first count rows log begun → Told name first count (rows ++ row_of p (own.Decided (name k) c) ∷ []) (log ++ Decided p k c ∷ []) begun
  told_decided count k c low high t = told_more count (own.Decided (name k) c) (Decided p k c) t (ap (option_map (λ (j : ℕ). Decided p j c)) (number_is count t k low high)) refl refl

  pub told_failed : (count : ℕ → ℕ) → Told name first count rows log begun → Told name first count (rows ++ row_of p own.Failed ∷ []) (log ++ Failed p ∷ []) begun
  told_failed count t = told_more count own.Failed (Failed p) t refl refl refl

  -- causes
  pub told_unwilling : (count : ℕ → ℕ) (k : ℕ) (c : NamedCause) (d : Cause) → 1 ≤ k → k ≤ begun → Told name first count rows log begun → numbered_cause (given log) c ≡ Some d
      → Told name first count (rows ++ row_of p (own.Unwilling (name k) c) ∷ []) (log ++ Unwilling p k d ∷ []) begun
  told_unwilling count k c d low high t e = told_more count (own.Unwilling (name k) c) (Unwilling p k d) t
      (ap (option_and_then (λ (j : ℕ). option_map (Unwilling p j) (numbered_cause (given log) c))) (number_is count t k low high) ∙ ap (option_map (Unwilling p k)) e) refl refl

  pub told_refused : (count : ℕ → ℕ) (verb : Verb) (c : NamedCause) (d : Cause) → Told name first count rows log begun → numbered_cause (given log) c ≡ Some d
      → Told name first count (rows ++ row_of p (own.Refused verb c) ∷ []) (log ++ Refused p verb d ∷ []) begun
  told_refused count verb c d t e = told_more count (own.Refused verb c) (Refused p verb d) t (ap (option_map (Refused p verb)) e) refl refl

  -- messages
  pub told_sent : (count : ℕ → ℕ) (to used : ℕ) (body : ℤ) → used ≡ first + sends_of p log → Told name first count rows log begun
      → Told name first count (rows ++ row_of p (own.Sent to body (used + 1)) ∷ []) (log ++ Sent p to body ∷ []) begun
  told_sent count to used body e t = told_more count (own.Sent to body (used + 1)) (Sent p to body) t
      (ap (λ (b : Bool). if b then Some (Sent p to body) else None) (next (length ((given log).sent p)) (sends_of p log) (sent_count nothing_given log p) e)) refl refl
    where
      next : (n s : ℕ) → n ≡ 0 + s → used ≡ first + s → (used + 1 - first == n + 1) ≡ true
      next n s h e = let number : used + 1 - first ≡ n + 1 = omega (arith, e, h) in ap (λ (x : ℕ). x == n + 1) number ∙ same_test (n + 1)

  place_of_sent : (q m label to : ℕ) (body : ℤ) → row_at log m ≡ Some (Sent q to body) → label ≡ label_by_rows first log q m → at_place ((given log).sent q) (label - first) ≡ Some m
  place_of_sent q m label to body e f =
      let number : label - first ≡ 0 + sends_of q (take m log) = omega (arith, f) in
      let same : 0 + m ≡ m = omega arith in
      ap (at_place ((given log).sent q)) number ∙ (sent_place nothing_given log m q to body e ∙ ap Some same)

  pub told_received : (count : ℕ → ℕ) (q m label to : ℕ) (body : ℤ) → row_at log m ≡ Some (Sent q to body) → label ≡ label_by_rows first log q m → Told name first count rows log begun
      → Told name first count (rows ++ row_of p (own.Received q label) ∷ []) (log ++ Received p q m ∷ []) begun
  told_received count q m label to body e f t = told_more count (own.Received q label) (Received p q m) t (ap (option_map (Received p q)) (place_of_sent q m label to body e f)) refl refl

  pub told_dropped : (count : ℕ → ℕ) (q m label to : ℕ) (body : ℤ) → row_at log m ≡ Some (Sent q to body) → label ≡ label_by_rows first log q m → Told name first count rows log begun
      → Told name first count (rows ++ row_of p (own.Dropped q label) ∷ []) (log ++ Dropped p q m ∷ []) begun
  told_dropped count q m label to body e f t = told_more count (own.Dropped q label) (Dropped p q m) t (ap (option_map (Dropped p q)) (place_of_sent q m label to body e f)) refl refl

  -- it begins an instance, which has the next name of its process
  pub told_began : (count : ℕ → ℕ) (kind : Kind) → Told name first count rows log begun → IsNaming name (given (log ++ Began p (begun + 1) kind ∷ []))
      → (Told name first (at_one p (count p + 1) count) (rows ++ row_of p (own.Began (name_of p (count p + 1)) kind) ∷ []) (log ++ Began p (begun + 1) kind ∷ []) (begun + 1)) × (name_of p (count p + 1) ≡ name (begun + 1))
  told_began count kind t n = (
    record {
      numbers = rows_numbered (own.Began (name_of p (count p + 1)) kind) (Began p (begun + 1) kind) t.numbers row_is;
      begun_is = ap (λ (g : Given). length g.initiators) (given_push log (Began p (begun + 1) kind)) ∙ (length-append (given log).initiators (p ∷ []) ∙ ap (λ (m : ℕ). m + 1) t.begun_is);
      counts = λ u. at_one_counts u ∙ sym (ap (λ (g : Given). length (g.begun u)) (given_push log (Began p (begun + 1) kind)));
      naming = n;
    },
    same_names,
  )
    where
      row_is : numbered_event (given log) p (own.Began (name_of p (count p + 1)) kind) ≡ Some (Began p (begun + 1) kind)
      row_is = ap (λ (b : Bool). if b then Some (Began p (length (given log).initiators + 1) kind) else None)
          (ap (λ (b : Bool). b && (count p + 1 == length ((given log).begun p) + 1)) (same_test p) ∙ (ap (λ (m : ℕ). count p + 1 == m + 1) (sym (t.counts p)) ∙ same_test (count p + 1)))
          ∙ ap (λ (m : ℕ). Some (Began p (m + 1) kind)) t.begun_is

      at_one_counts : (u : ℕ) → at_one p (count p + 1) count u ≡ length (at_one p ((given log).begun p ++ (length (given log).initiators + 1) ∷ []) (given log).begun u)
      at_one_counts u = go (u == p)
        where
          go : (b : Bool) → (if b then count p + 1 else count u) ≡ length (if b then (given log).begun p ++ (length (given log).initiators + 1) ∷ [] else (given log).begun u)
          go true = ap (λ (m : ℕ). m + 1) (t.counts p) ∙ sym (length-append ((given log).begun p) ((length (given log).initiators + 1) ∷ []))
          go false = t.counts u

      named_new : instance_name (given_after (given log) (Began p (begun + 1) kind)) (begun + 1) ≡ Some (name_of p (count p + 1))
      named_new = name_of_number (given_after (given log) (Began p (begun + 1) kind)) (given_more (given log) (Began p (begun + 1) kind) (all_given nothing_given log none_given)) (name_of p (count p + 1)) (begun + 1)
          (ap (λ (xs : List ℕ). at_place xs (count p + 1)) (at_same p ((given log).begun p ++ (length (given log).initiators + 1) ∷ []) (given log).begun)
          ∙ (ap (λ (m : ℕ). at_place ((given log).begun p ++ (length (given log).initiators + 1) ∷ []) (m + 1)) (t.counts p)
          ∙ (at_last ((given log).begun p) (length (given log).initiators + 1) ∙ ap (λ (m : ℕ). Some (m + 1)) t.begun_is)))

      same_names : name_of p (count p + 1) ≡ name (begun + 1)
      same_names =
          let low : 1 ≤ begun + 1 = omega arith in
          let here : instance_name (given (log ++ Began p (begun + 1) kind ∷ [])) (begun + 1) ≡ Some (name (begun + 1)) = n.names (begun + 1) low high in
          let there : instance_name (given (log ++ Began p (begun + 1) kind ∷ [])) (begun + 1) ≡ Some (name_of p (count p + 1)) = ap (λ (x : Given). instance_name x (begun + 1)) (given_push log (Began p (begun + 1) kind)) ∙ named_new in
          some_same _ _ _ there here
        where
          high : begun + 1 ≤ length (given (log ++ Began p (begun + 1) kind ∷ [])).initiators
          high = subst (λ (x : Given). begun + 1 ≤ length x.initiators) (sym (given_push log (Began p (begun + 1) kind))) (let e = length-append (given log).initiators (p ∷ []) in let b = t.begun_is in omega (arith, e, b))

          some_same : (a b : InstName) (o : Option InstName) → o ≡ Some a → o ≡ Some b → a ≡ b
          some_same a b o e f = cc
