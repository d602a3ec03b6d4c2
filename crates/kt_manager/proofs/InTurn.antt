-- What lists become one sender after the other.
use Rattle.std.specs.Prelude.{slice_index, All, map}
use Rattle.std.proofs.Common.{◌≡◌, ◌≢◌, ℕ, ◌+◌, ◌≤◌, ◌<◌, Option, Some, None, List, [], ◌++◌, length, drop, get_or, refl, arith, sym, ap, ◌∙◌, inl, inr}
use Rattle.std.proofs.Math.Path.{fun_ext}
use Rattle.std.proofs.lemmas.List.{length-set, length-map, get_or-map, get_or_past}
use Rattle.std.proofs.lemmas.List.Elements.{All-get_or}
use Rattle.std.proofs.lemmas.Bool.Decides.{nat_tests}
use Rattle.std.proofs.lemmas.Bool.{cases_lt, cases_eq}
use Rattle.kt_meaning.specs.Past.{at_one}
use Rattle.kt_manager.specs.declared.received.Item.{Item}
use Rattle.kt_manager.specs.Messages.{Messages, no_messages, has_some, within}
use Rattle.kt_manager.specs.Inboxes.{InboxLists, messages_of, kept_of, held_of, space_of, nothing, counts_of, forgets, puts_back, IsInbox}
use Rattle.kt_manager.proofs.Writing.{IsRead, written, part_changed, part_kept}

-- the lists of the first n senders are as they have to be, and the others are as they were
pub record IsUpTo (goal : ℕ → List Item) (n : ℕ) (old new : ℕ → List Item) : Type 0 where
  pub done : (q : ℕ) → q < n → new q ≡ goal q
  pub left : (q : ℕ) → n ≤ q → new q ≡ old q

pub up_none : (goal f : ℕ → List Item) → IsUpTo goal 0 f f
up_none goal f = record { done = λ q l. absurd (omega arith); left = λ q _. refl }

changed_here : (n : ℕ) (z : List Item) (f : ℕ → List Item) → at_one n z f n ≡ z
changed_here n z f = grind (arith, nat_tests)

changed_apart : (n q : ℕ) (z : List Item) (f : ℕ → List Item) → q ≢ n → at_one n z f q ≡ f q
changed_apart n q z f other = grind (arith, nat_tests)

pub up_one : (goal : ℕ → List Item) (n : ℕ) (old new next : ℕ → List Item) (z : List Item) →
    IsUpTo goal n old new → next ≡ at_one n z new → z ≡ goal n → IsUpTo goal (n + 1) old next
up_one goal n old new next z k e is = record {
  done = λ q l. elim (cases_eq q n) [
    | inl it ↦ rw it (at n ∙ (changed_here n z new ∙ is))
    | inr other ↦ at q ∙ (changed_apart n q z new other ∙ k.done q (omega arith))
  ];
  left = λ q l. let other : q ≢ n = omega arith in at q ∙ (changed_apart n q z new other ∙ k.left q (omega arith));
}
  where
    at : (q : ℕ) → next q ≡ at_one n z new q
    at q = ap (λ (f : ℕ → List Item). f q) e

pub up_all : (goal : ℕ → List Item) (n : ℕ) (old new : ℕ → List Item) → IsUpTo goal n old new → ((q : ℕ) → n ≤ q → old q ≡ goal q) → new ≡ goal
up_all goal n old new k same = fun_ext (λ q. elim (cases_lt q n) [
  | inl l ↦ k.done q l
  | inr l ↦ k.left q l ∙ same q l
])

-- of the first n senders the marked messages are gone
pub record IsForgotten (marks : List ℕ) (n : ℕ) (old new : InboxLists) : Type 0 where
  pub processes : length new.senders ≡ length old.senders
  pub kept : IsUpTo (forgets (slice_index marks) (kept_of old)) n (kept_of old) (kept_of new)
  pub held : held_of new ≡ held_of old
  pub space : space_of new ≡ space_of old

pub forgotten_none : (marks : List ℕ) (b : InboxLists) → IsForgotten marks 0 b b
forgotten_none marks b = record { processes = refl; kept = up_none _ _; held = refl; space = refl }

pub forgotten_one : (marks : List ℕ) (n : ℕ) (old new : InboxLists) (x y : Messages) → IsForgotten marks n old new → IsRead new n n x →
    y ≡ record { kept = drop (slice_index marks n) x.kept; held = x.held; space = x.space } → IsForgotten marks (n + 1) old (written new n y)
forgotten_one marks n old new x y k r e = record {
  processes = length-set new.senders n y ∙ k.processes;
  kept = up_one _ n _ (kept_of new) _ _ k.kept
      (part_changed (λ (m : Messages). m.kept) (λ (m : Messages). drop (slice_index marks n) m.kept) new n n x y r (ap (λ (m : Messages). m.kept) e))
      (ap (λ (l : List Item). drop (slice_index marks n) l) (k.kept.left n (omega arith)));
  held = part_kept (λ (m : Messages). m.held) new n n x y r (ap (λ (m : Messages). m.held) e) ∙ k.held;
  space = part_kept (λ (m : Messages). m.space) new n n x y r (ap (λ (m : Messages). m.space) e) ∙ k.space;
}

pub forgotten_all : (marks : List ℕ) (n : ℕ) (old new : InboxLists) → IsForgotten marks n old new → length marks ≤ n → kept_of new ≡ forgets (slice_index marks) (kept_of old)
forgotten_all marks n old new k all =
    up_all _ n (kept_of old) (kept_of new) k.kept (λ q l. sym (ap (λ (m : ℕ). drop m (kept_of old q)) (get_or_past marks q 0 (omega arith))))

pub inbox_left : (marks : List ℕ) (n holds : ℕ) (old new : InboxLists) → IsForgotten marks n old new → IsInbox old holds → IsInbox new holds
inbox_left marks n holds old new k i = record {
  few = omega (arith, k.processes, i.few);
  exact = λ q. i.exact q ∙ ap (λ (f : ℕ → List Item). has_some (f q)) (sym k.held);
}

pub nothing_past : (b : InboxLists) (q : ℕ) → length b.senders ≤ q → messages_of b q ≡ no_messages
nothing_past b q l = get_or_past b.senders q no_messages l

within_none : (most : Option ℕ) → within most [] ≡ []
within_none None = refl
within_none (Some m) = refl

none_within : (label : Option ℕ) (m : Messages) → m ≡ no_messages → m.held ≡ within label m.kept ++ within label m.held
none_within label m e = rw e (sym (ap (λ (l : List Item). l ++ within label []) (within_none label) ∙ within_none label))

-- past all senders nothing is put back
pub none_back : (most : ℕ → Option ℕ) (b : InboxLists) (q : ℕ) → length b.senders ≤ q → held_of b q ≡ puts_back most (kept_of b) (held_of b) q
none_back most b q l = none_within (most q) (messages_of b q) (nothing_past b q l)

pub same_back : (label other : Option ℕ) (kept kept_before held held_before : List Item) → label ≡ other → kept ≡ kept_before → held ≡ held_before →
    within label kept ++ within label held ≡ within other kept_before ++ within other held_before
same_back label other kept kept_before held held_before e k h = cc

-- how many messages are kept
abbrev pub kept_length : Messages → ℕ
kept_length m = length m.kept

pub counted : (ms : List Messages) → slice_index (map kept_length ms) ≡ counts_of (kept_of (record { senders = ms }))
counted ms = fun_ext (λ q. elim (cases_lt q (length ms)) [
  | inl l ↦ get_or-map kept_length ms q no_messages 0 l
  | inr l ↦
      let long : length (map kept_length ms) ≤ q = rw length-map l in
      get_or_past (map kept_length ms) q 0 long ∙ sym (ap kept_length (get_or_past ms q no_messages l))
])

-- no messages of any process
abbrev pub IsBare : Messages → Type 0
IsBare m = (m.kept ≡ []) × (m.held ≡ [])

bare_at : (ms : List Messages) → All (λ (m : Messages). IsBare m) ms → (q : ℕ) → IsBare (get_or ms q no_messages)
bare_at ms all q = elim (cases_lt q (length ms)) [
  | inl l ↦ All-get_or (λ (m : Messages). IsBare m) ms q no_messages l all
  | inr l ↦ rw (get_or_past ms q no_messages l) (refl, refl)
]

pub none_kept : (ms : List Messages) → All (λ (m : Messages). IsBare m) ms → kept_of (record { senders = ms }) ≡ nothing
none_kept ms all = fun_ext (λ q. (bare_at ms all q).0)

pub none_held : (ms : List Messages) → All (λ (m : Messages). IsBare m) ms → held_of (record { senders = ms }) ≡ nothing
none_held ms all = fun_ext (λ q. (bare_at ms all q).1)
