-- The rules of answering, deciding and closing an instance, by names.
use Rattle.std.proofs.Common.{◌≡◌, ◌≢◌, ◌∙◌, ℕ, ◌≤◌, Bool, true, false, Option, Some, None, List, [], ◌∷◌, ◌++◌, map, refl, sym, ap, ap₂, subst}
use Rattle.std.specs.Prelude.{◌==◌, if◌then◌else◌, drop}
use Rattle.std.proofs.lemmas.List.{map-append, drop-map}
use Rattle.kt_fifo.specs.declared.parcels.Parcel.{Parcel}
use Rattle.kt_fifo.specs.declared.parcels.Parcel.TheVariants as in_code
use Rattle.kt_spacetime.specs.declared.event.Event.TheVariants as row
use Rattle.kt_tables.specs.Calls.{on_rollback}
use Rattle.kt_protocol.proofs.Updates.{is_same, is_other}
use Rattle.kt_machine.specs.Seen.{no_part, SeenLists, Seen}
use Rattle.kt_machine.specs.CallTests.{call_of_decision}
use Rattle.kt_machine.specs.ListChanges as changes
use Rattle.kt_machine.specs.SeenClosing.{seen_closing_checkpoint, seen_closing_rollback, seen_closing, seen_deciding, seen_ending, seen_settling}
use Rattle.kt_machine.specs.Values.{closing as acts_of_closing}
use Rattle.kt_spacetime.specs.declared.names.InstName.{InstName}
use Rattle.kt_spacetime.specs.declared.named_rows.NamedEvent.TheVariants as own
use Rattle.kt_meaning.specs.Names.{row_of}
use Rattle.kt_manager.specs.declared.parcels.NodeParcel.{NodeParcel}
use Rattle.kt_manager.specs.declared.parcels.NodeParcel.TheVariants as put
use Rattle.kt_manager.specs.Nodes.{NodeState, Doing, putting, with_one}
use Rattle.kt_manager.specs.NodeClosing.{forgets, within, after_checkpoint, after_rollback, closing, ending, settling}
use Rattle.kt_node.specs.Nets.{Net}
use Rattle.kt_node.specs.Erasing.{erased_parcel, erased_parcels}
use Rattle.kt_node.proofs.Told.{Told, told_decided, told_closed}
use Rattle.kt_node.proofs.Done.{node_of, IsDone, done_as}
use Rattle.kt_node.proofs.Columns.{adding_decisions, adding_other, adding_own, within_is}
use Rattle.kt_node.proofs.MessageRules.{done_lists, rows_one, puts_one, puts_other}

module _ (name : ℕ → InstName) where
  -- what a checkpoint leaves
  trims_own : (c : Bool) (p : ℕ) (marks : ℕ → ℕ) (kept : SeenLists) (q : ℕ) → forgets c marks (λ t. erased_parcels name (kept t p)) q ≡ erased_parcels name (changes.trims c p marks kept q p)
  trims_own true p marks kept q = drop-map (erased_parcel name) (marks q) (kept q p) ∙ ap (λ (b : Bool). erased_parcels name (if b then drop (marks q) (kept q p) else kept q p)) (sym (is_same p))
  trims_own false p marks kept q = refl

  -- and a rollback
  put_back_own : (p : ℕ) (noted : ℕ → Option ℕ) (kept held : SeenLists) (q : ℕ) → within (noted q) (erased_parcels name (kept q p)) ++ within (noted q) (erased_parcels name (held q p))
      ≡ erased_parcels name (if p == p then changes.low (noted q) (kept q p) ++ changes.low (noted q) (held q p) else held q p)
  put_back_own p noted kept held q =
      ap₂ (λ (x y : List NodeParcel). x ++ y) (within_is name (noted q) (kept q p)) (within_is name (noted q) (held q p))
      ∙ (sym (map-append (erased_parcel name) (changes.low (noted q) (kept q p)) (changes.low (noted q) (held q p)))
      ∙ ap (λ (b : Bool). erased_parcels name (if b then changes.low (noted q) (kept q p) ++ changes.low (noted q) (held q p) else held q p)) (sym (is_same p)))

  emptied_own : (p : ℕ) (kept : SeenLists) (q : ℕ) → [] ≡ erased_parcels name (if p == p then [] else kept q p)
  emptied_own p kept q = ap (λ (b : Bool). erased_parcels name (if b then [] else kept q p)) (sym (is_same p))

trims_other : (c : Bool) (p : ℕ) (marks : ℕ → ℕ) (kept : SeenLists) (q u : ℕ) → u ≢ p → kept q u ≡ changes.trims c p marks kept q u
trims_other true p marks kept q u n = ap (λ (b : Bool). if b then drop (marks q) (kept q u) else kept q u) (sym (is_other u p n))
trims_other false p marks kept q u n = refl

test_other : (p u : ℕ) (x y : List Parcel) → u ≢ p → y ≡ (if u == p then x else y)
test_other p u x y n = ap (λ (b : Bool). if b then x else y) (sym (is_other u p n))

module _ (name : ℕ → InstName) (first : ℕ) (w : Net) (p : ℕ) (count : ℕ → ℕ) where
  decided_own : (channel : SeenLists) (d : Doing) (k : ℕ) (c : Bool) (asked : ℕ → Bool) → ((t : ℕ) → w.channel p t ++ d.puts t ≡ erased_parcels name (channel p t))
      → (t : ℕ) → w.channel p t ++ putting asked (λ q. put.Decide (name k) c) d.puts t ≡ erased_parcels name (changes.with_decisions channel p k c asked p t)
  decided_own channel d k c asked e t = adding_own name channel (w.channel p) d.puts p asked (λ u. in_code.Decide k c) e t ∙ ap (λ (l : SeenLists). erased_parcels name (l p t)) (sym (adding_decisions channel p k c asked))

  decided_other : (channel : SeenLists) (k : ℕ) (c : Bool) (asked : ℕ → Bool) (u t : ℕ) → u ≢ p → channel u t ≡ changes.with_decisions channel p k c asked u t
  decided_other channel k c asked u t n = adding_other channel p asked (λ v. in_code.Decide k c) u t n ∙ ap (λ (l : SeenLists). l u t) (sym (adding_decisions channel p k c asked))

  -- what a node does that closes, where it is what is seen
  abbrev closed : Doing → Seen → ℕ → Bool → Bool → Doing
  closed d v k roll c = record {
    state = if roll then after_rollback c (node_of name first count v p d.state) else after_checkpoint c (node_of name first count v p d.state);
    puts = putting (v.states p).part.asked (λ q. put.Decide (name k) c) d.puts;
    rows = d.rows ++ own.Closed (name k) ∷ [];
    acts = d.acts ++ acts_of_closing roll c;
  }

  module _ (d : Doing) (v : Seen) (k : ℕ) (low : 1 ≤ k) (high : k ≤ v.begun) (h : IsDone name first w p count d v) where
    row_closed : Told name first count (w.rows ++ map (row_of p) (d.rows ++ own.Closed (name k) ∷ [])) (v.log ++ row.Closed p k ∷ []) v.begun
    row_closed = rows_one name first w p count d.rows (own.Closed (name k)) _ v.begun (told_closed name first _ v.log v.begun p count k low high h.told)

    closes_checkpoint : (c : Bool) → IsDone name first w p count (closed d v k false c) (seen_closing_checkpoint v p k c)
    closes_checkpoint c = done_as name first w p count d (closed d v k false c) v (record (v.states p) { calls = (v.states p).calls ++ call_of_decision c ∷ []; inst = 0; part = no_part }) _ v.held _ _ h
        (λ i. record (after_checkpoint c (node_of name first count v p d.state)) { kept = λ q. trims_own name c p (v.states p).part.marks v.kept q i })
        (λ q u n. refl) (λ q u n. trims_other c p (v.states p).part.marks v.kept q u n)
        (decided_own v.channel d k c (v.states p).part.asked h.puts) (decided_other v.channel k c (v.states p).part.asked) row_closed

    closes_rollback : (c : Bool) → IsDone name first w p count (closed d v k true c) (seen_closing_rollback v p k c)
    closes_rollback true = done_as name first w p count d (closed d v k true true) v (record (v.states p) { calls = (v.states p).calls ++ on_rollback ∷ []; inst = 0; part = no_part; up = true }) _ _ _ _ h
        (λ i. record (after_rollback true (node_of name first count v p d.state)) { held = λ q. put_back_own name p (v.states p).part.noted v.kept v.held q i; kept = λ q. emptied_own name p v.kept q i })
        (λ q u n. test_other p u _ (v.held q u) n) (λ q u n. test_other p u [] (v.kept q u) n)
        (decided_own v.channel d k true (v.states p).part.asked h.puts) (decided_other v.channel k true (v.states p).part.asked) row_closed
    closes_rollback false = done_as name first w p count d (closed d v k true false) v (record (v.states p) { inst = 0; part = no_part }) _ v.held v.kept _ h refl
        (λ q u n. refl) (λ q u n. refl)
        (decided_own v.channel d k false (v.states p).part.asked h.puts) (decided_other v.channel k false (v.states p).part.asked) row_closed

    closes_as : (roll c : Bool) → IsDone name first w p count (closed d v k roll c) (if roll then seen_closing_rollback v p k c else seen_closing_checkpoint v p k c)
    closes_as true c = closes_rollback c
    closes_as false c = closes_checkpoint c

    pub done_closing : (c : Bool) → IsDone name first w p count (closing (name k) c d) (seen_closing v p k c)
    done_closing c = subst (λ (x : NodeState). IsDone name first w p count (closing (name k) c (record d { state = x })) (seen_closing v p k c)) (sym h.state) (closes_as (v.states p).part.is_rollback c)

    pub done_deciding : (c : Bool) → IsDone name first w p count (record d { rows = d.rows ++ own.Decided (name k) c ∷ [] }) (seen_deciding v p k c)
    done_deciding c = done_lists name first w p count d (record d { rows = d.rows ++ own.Decided (name k) c ∷ [] }) v v.channel v.held v.kept _ h h.state (λ q u n. refl) (λ q u n. refl) h.puts (λ u t n. refl)
        (rows_one name first w p count d.rows (own.Decided (name k) c) _ v.begun (told_decided name first _ v.log v.begun p count k c low high h.told))

    pub done_answering : (to : ℕ) (b : Bool) → IsDone name first w p count (record d { puts = with_one to (put.Reply (name k) b) d.puts }) (record v { channel = changes.with_parcel v.channel p to (in_code.Reply k b) })
    done_answering to b = done_lists name first w p count d (record d { puts = with_one to (put.Reply (name k) b) d.puts }) v _ v.held v.kept v.log h h.state (λ q u n. refl) (λ q u n. refl)
        (puts_one name first w p count v.channel d.puts to (in_code.Reply k b) h.puts) (puts_other name first w p count v.channel to (in_code.Reply k b)) h.told

  -- p answers its parent, or decides and closes
  done_ending : (d : Doing) (v : Seen) (k : ℕ) → 1 ≤ k → k ≤ v.begun → IsDone name first w p count d v → (parent : Option ℕ) → IsDone name first w p count (ending (name k) parent (record d { state = node_of name first count v p d.state })) (seen_ending v p k parent)
  done_ending d v k low high h (Some to) = done_answering (record d { state = node_of name first count v p d.state }) v k low high (record { state = refl; others = h.others; puts = h.puts; channels = h.channels; told = h.told }) to (v.states p).part.willing
  done_ending d v k low high h None = done_closing (record d { state = node_of name first count v p d.state; rows = d.rows ++ own.Decided (name k) (v.states p).part.willing ∷ [] }) (seen_deciding v p k (v.states p).part.willing) k low high
      (done_deciding (record d { state = node_of name first count v p d.state }) v k low high (record { state = refl; others = h.others; puts = h.puts; channels = h.channels; told = h.told }) (v.states p).part.willing) (v.states p).part.willing

  pub done_settling : (d : Doing) (v : Seen) (k : ℕ) → 1 ≤ k → k ≤ v.begun → IsDone name first w p count d v → IsDone name first w p count (settling (name k) d) (seen_settling v p k)
  done_settling d v k low high h = subst (λ (x : NodeState). IsDone name first w p count (settling (name k) (record d { state = x })) (seen_settling v p k)) (sym h.state) (at_zero ((v.states p).part.awaited == 0))
    where
      at_zero : (b : Bool) → IsDone name first w p count (if b then ending (name k) (v.states p).part.parent (record d { state = node_of name first count v p d.state }) else record d { state = node_of name first count v p d.state }) (if b then seen_ending v p k (v.states p).part.parent else v)
      at_zero true = done_ending d v k low high h (v.states p).part.parent
      at_zero false = record { state = refl; others = h.others; puts = h.puts; channels = h.channels; told = h.told }
