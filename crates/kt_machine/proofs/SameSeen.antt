-- States of what is seen that are equal field by field, and rows read one by one.
use Rattle.std.proofs.Common.{◌≡◌, ◌≢◌, ℕ, suc, ◌+◌, ◌≤◌, ◌<◌, Bool, true, false, not, List, [], ◌∷◌, ◌++◌, length, refl, arith, sym, ap, ◌∙◌, inl, inr, ◌⊎◌, Option}
use Rattle.std.specs.Prelude.{◌==◌, ◌&&◌, if◌then◌else◌, zero}
use Rattle.std.proofs.lemmas.Bool.{cases_eq}
use Rattle.std.proofs.lemmas.Bool.Decides.{nat_tests}
use Rattle.std.proofs.lemmas.Grind.{fold-append}
use Rattle.std.proofs.lemmas.List.{length-append}
use Rattle.kt_spacetime.specs.declared.event.Event.{Event}
use Rattle.kt_meaning.specs.Past.{at_one}
use Rattle.kt_tables.specs.Calls.{Call, PartsOfCalls}
use Rattle.kt_tables.specs.Peers.{count_peers}
use Rattle.kt_protocol.proofs.Updates.{is_same, is_other, at_one_here, at_one_other}
use Rattle.kt_protocol.specs.Deciding.{none_of}
use Rattle.kt_protocol.specs.Summary.{Summary, summary_after}
use Rattle.kt_machine.specs.Labelling.{Labelling, labelling_after, LabelledLog, labelled_after, labelled_start, labelled_log}
use Rattle.kt_machine.specs.Seen.{SeenPart, SeenProcess, SeenLists, Seen}
use Rattle.kt_machine.proofs.Tables.{Table}

abbrev pub seen_with : ℕ → ℕ → List Event → (ℕ → SeenProcess) → SeenLists → SeenLists → SeenLists → Seen
seen_with n k log f a b d = record { processes = n; states = f; channel = a; held = b; kept = d; log = log; begun = k }

abbrev pub state_with : List Call → ℕ → ℕ → SeenPart → Bool → SeenProcess
state_with x l n r b = record { calls = x; used = l; inst = n; part = r; up = b }

abbrev pub part_with : Bool → Option ℕ → (ℕ → Bool) → ℕ → Bool → (ℕ → Option ℕ) → (ℕ → ℕ) → SeenPart
part_with r o a n w y m = record { is_rollback = r; parent = o; asked = a; awaited = n; willing = w; noted = y; marks = m }

pub same_seen : (n k : ℕ) (log : List Event) {f f' : ℕ → SeenProcess} {a a' b b' d d' : SeenLists} → f ≡ f' → a ≡ a' → b ≡ b' → d ≡ d' →
    seen_with n k log f a b d ≡ seen_with n k log f' a' b' d'
same_seen n k log e1 e2 e3 e4 = λ i. record { processes = n; states = e1 i; channel = e2 i; held = e3 i; kept = e4 i; log = log; begun = k }

pub states_at : (p : ℕ) (y : SeenProcess) (f g : ℕ → SeenProcess) → f p ≡ y → ((u : ℕ) → u ≢ p → f u ≡ g u) → f ≡ at_one p y g
states_at p y f g h o = λ i u. go u (cases_eq u p) i
  where
    go : (u : ℕ) → (u ≡ p) ⊎ (u ≢ p) → f u ≡ at_one p y g u
    go u c = elim c [
      | inl e ↦ ap f e ∙ (h ∙ sym (ap (at_one p y g) e ∙ at_one_here p y g))
      | inr d ↦ o u d ∙ sym (at_one_other p u y g d)
    ]

pub same_process_state : (n : ℕ) (b : Bool) {x x' : List Call} {l l' : ℕ} {r r' : SeenPart} → x ≡ x' → l ≡ l' → r ≡ r' →
    state_with x l n r b ≡ state_with x' l' n r' b
same_process_state n b e1 e2 e3 = λ i. record { calls = e1 i; used = e2 i; inst = n; part = e3 i; up = b }

pub state_more : {x x' : List Call} {l l' n n' : ℕ} {r r' : SeenPart} {b b' : Bool} → x ≡ x' → l ≡ l' → n ≡ n' → r ≡ r' → b ≡ b' →
    state_with x l n r b ≡ state_with x' l' n' r' b'
state_more e1 e2 e3 e4 e5 = λ i. record { calls = e1 i; used = e2 i; inst = e3 i; part = e4 i; up = e5 i }

pub same_part : {r r' w w' : Bool} {o o' : Option ℕ} {a a' : ℕ → Bool} {n n' : ℕ} {y y' : ℕ → Option ℕ} {m m' : ℕ → ℕ} → r ≡ r' → o ≡ o' → ((q : ℕ) → a q ≡ a' q) → n ≡ n' → w ≡ w' → ((q : ℕ) → y q ≡ y' q) → ((q : ℕ) → m q ≡ m' q) →
    part_with r o a n w y m ≡ part_with r' o' a' n' w' y' m'
same_part e1 e2 e3 e4 e5 e6 e7 = λ i. record { is_rollback = e1 i; parent = e2 i; asked = λ q. e3 q i; awaited = e4 i; willing = e5 i; noted = λ q. e6 q i; marks = λ q. e7 q i }

pub table_as : (calls : List Call) (p : PartsOfCalls) (b : Bool) {f f' l l' x x' y y' z z' w w' : ℕ → ℕ} → ((q : ℕ) → f q ≡ f' q) → ((q : ℕ) → l q ≡ l' q) → ((q : ℕ) → x q ≡ x' q) → ((q : ℕ) → y q ≡ y' q) → ((q : ℕ) → z q ≡ z' q) → ((q : ℕ) → w q ≡ w' q) →
    Table calls p b f l x y z w → Table calls p b f' l' x' y' z' w'
table_as calls p b e1 e2 e3 e4 e5 e6 t = record {
  is_open = t.is_open;
  first_is = λ q. t.first_is q ∙ e1 q;
  last_is = λ q. t.last_is q ∙ e2 q;
  kept_first_is = λ o q. t.kept_first_is o q ∙ e3 q;
  kept_last_is = λ o q. t.kept_last_is o q ∙ e4 q;
  latest_is = λ q. t.latest_is q ∙ e5 q;
  last_sent_is = λ q. t.last_sent_is q ∙ e6 q;
}

-- a row more
abbrev pub read : Summary → Labelling → LabelledLog
read h t = record { so_far = h; labels = t }

pub known_row : (first : ℕ) (log : List Event) (h : Summary) (t : Labelling) (row : Event) → read h t ≡ labelled_log first log → read (summary_after h row) (labelling_after h t row) ≡ labelled_log first (log ++ row ∷ [])
known_row first log h t row e = ap (λ (r : LabelledLog). labelled_after r row) e ∙ sym (fold-append labelled_after (labelled_start first) log (row ∷ []))

pub length_push : {X : Type 0} (xs : List X) (x : X) → length (xs ++ x ∷ []) ≡ length xs + 1
length_push xs x = length-append xs (x ∷ [])

-- counting
pub count_none : (n : ℕ) (f : ℕ → Bool) → (count_peers n f == 0) ≡ none_of n f
unfolding count_peers
count_none zero f = refl
count_none (suc n) f = go (f n) (none_of n f) (count_none n f)
  where
    go : (b d : Bool) → (count_peers n f == 0) ≡ d → (count_peers n f + (if b then 1 else 0) == 0) ≡ (not b && d)
    go true d e = grind (arith, nat_tests)
    go false d e = grind (arith, nat_tests, e)

pub count_same : (n : ℕ) (f g : ℕ → Bool) → ((v : ℕ) → f v ≡ g v) → count_peers n f ≡ count_peers n g
count_same n f g e = ap (count_peers n) (λ i v. e v i)

-- one fewer
pub count_less : (n q : ℕ) (f : ℕ → Bool) → q < n → f q ≡ true → count_peers n (λ v. if v == q then false else f v) + 1 ≡ count_peers n f
unfolding count_peers
count_less zero q f l e = absurd (omega (arith, l))
count_less (suc n) q f l e = elim (cases_eq n q) [
  | inl x ↦ (let z = beyond n q f (omega (arith, x)) in let y : f n ≡ true = ap f x ∙ e in rw (x, is_same q, e) (omega (arith, rw x at z)))
  | inr d ↦ (let z = count_less n q f (omega (arith, l, d)) e in rw (is_other n q d) (omega (arith, z)))
]
  where
    beyond : (n q : ℕ) (f : ℕ → Bool) → n ≤ q → count_peers n (λ v. if v == q then false else f v) ≡ count_peers n f
    beyond zero q f l = refl
    beyond (suc n) q f l = let h = beyond n q f (omega (arith, l)) in rw (is_other n q (λ e. absurd (omega (arith, e, l)))) (omega (arith, h))

pub some_awaited : (n q : ℕ) (f : ℕ → Bool) → q < n → f q ≡ true → (count_peers n f == 0) ≡ false
some_awaited n q f l e = let z = count_less n q f l e in grind (arith, nat_tests, z)
