-- The rules of beginning and joining an instance, and of parts, by names.
use Rattle.std.proofs.Common.{◌≡◌, ◌≢◌, ◌∙◌, ℕ, ◌+◌, ◌≤◌, Bool, true, false, Option, Some, None, [], ◌∷◌, ◌++◌, map, refl, sym, ap, subst, arith}
use Rattle.std.specs.Prelude.{◌==◌, if◌then◌else◌}
use Rattle.std.proofs.lemmas.Bool.Decides.{nat_tests}
use Rattle.std.proofs.lemmas.List.{length-map}
use Rattle.kt_base.specs.declared.words.Kind.TheVariants.{Checkpoint, Rollback}
use Rattle.kt_fifo.specs.declared.parcels.Parcel.TheVariants as in_code
use Rattle.kt_spacetime.specs.declared.event.Event.TheVariants as row
use Rattle.kt_meaning.specs.Past.{at_one}
use Rattle.kt_tables.specs.Calls.{on_tentative}
use Rattle.kt_protocol.proofs.Updates.{at_one_here, at_one_other}
use Rattle.kt_protocol.specs.Joining.{kind_for}
use Rattle.kt_machine.specs.Seen.{SeenPart, SeenLists, Seen}
use Rattle.kt_machine.specs.ListChanges as changes
use Rattle.kt_machine.specs.CallTests.{is_asked_in_checkpoint, checkpoint_label, is_asked_in_rollback, rollback_label}
use Rattle.kt_machine.specs.SeenJoining.{new_part, no_note, seen_began, seen_joining_checkpoint, seen_joining_rollback, part_after_ask, seen_member_ask}
use Rattle.kt_spacetime.specs.declared.names.InstName.{InstName}
use Rattle.kt_spacetime.specs.declared.named_rows.NamedEvent.TheVariants as own
use Rattle.kt_meaning.specs.Names.{name_of, row_of}
use Rattle.kt_manager.specs.declared.parcels.NodeParcel.TheVariants as put
use Rattle.kt_manager.specs.Nodes.{NodeState, Doing, nothing}
use Rattle.kt_manager.specs.NodeJoining.{beginning, joining_checkpoint, joining_rollback, noting}
use Rattle.kt_node.specs.NodeSteps.{next_name}
use Rattle.kt_node.specs.Nets.{Net}
use Rattle.kt_node.specs.Erasing.{erased_inst, erased_parcel, erased_parcels}
use Rattle.kt_node.proofs.Naming.{IsNaming}
use Rattle.kt_node.proofs.Told.{Told, given, told_began, told_took, told_ready}
use Rattle.kt_node.proofs.Done.{node_of, IsDone, done_as}
use Rattle.kt_node.proofs.Columns.{adding_asks, adding_other, adding_own}
use Rattle.kt_node.proofs.MessageRules.{rows_one}

-- the name of the instance that it is in
pub inst_some : (name : ℕ → InstName) (k : ℕ) → 1 ≤ k → Some (name k) ≡ erased_inst name k
inst_some name k low = sym (ap (λ (b : Bool). if b then None else Some (name k)) (none k low))
  where
    none : (k : ℕ) → 1 ≤ k → (k == 0) ≡ false
    none k low = grind (arith, nat_tests, low)

module _ (name : ℕ → InstName) (first : ℕ) (w : Net) (p : ℕ) (count : ℕ → ℕ) where
  -- a part changes alone
  pub done_part : (y : NodeState) (v : Seen) (part : SeenPart) → IsDone name first w p count (nothing y) v
      → IsDone name first w p count (nothing (record y { part = part })) (record v { states = at_one p (record (v.states p) { part = part }) v.states })
  done_part y v part h = subst (λ (x : NodeState). IsDone name first w p count (nothing (record x { part = part })) (record v { states = at_one p (record (v.states p) { part = part }) v.states })) (sym h.state)
      (done_as name first w p count (nothing y) (nothing (record (node_of name first count v p y) { part = part })) v (record (v.states p) { part = part }) v.channel v.held v.kept v.log h refl (λ q u n. refl) (λ q u n. refl) h.puts (λ u t n. refl) h.told)

  pub done_noting : (y : NodeState) (v : Seen) (roll : Bool) (q label : ℕ) → IsDone name first w p count (nothing y) v → IsDone name first w p count (nothing (noting y roll q label)) (seen_member_ask v roll p q label)
  done_noting y v roll q label h =
      subst (λ (part : SeenPart). IsDone name first w p count (nothing (record y { part = if roll then part_after_ask part q label else part })) (seen_member_ask v roll p q label)) (sym (ap (λ (x : NodeState). x.part) h.state))
      (done_part y v (if roll then part_after_ask (v.states p).part q label else (v.states p).part) h)

  -- asks
  asks_own : (channel : SeenLists) (d : Doing) (k : ℕ) (kind : _) (test : ℕ → Bool) (label : ℕ → ℕ) → ((t : ℕ) → w.channel p t ++ d.puts t ≡ erased_parcels name (channel p t))
      → (t : ℕ) → w.channel p t ++ (if test t then d.puts t ++ put.Ask (name k) kind (label t) ∷ [] else d.puts t) ≡ erased_parcels name (changes.with_asks_where channel p k kind test label p t)
  asks_own channel d k kind test label e t = adding_own name channel (w.channel p) d.puts p test (λ u. in_code.Ask k kind (label u)) e t ∙ ap (λ (l : SeenLists). erased_parcels name (l p t)) (sym (adding_asks channel p k kind test label))

  asks_other : (channel : SeenLists) (k : ℕ) (kind : _) (test : ℕ → Bool) (label : ℕ → ℕ) (u t : ℕ) → u ≢ p → channel u t ≡ changes.with_asks_where channel p k kind test label u t
  asks_other channel k kind test label u t n = adding_other channel p test (λ v. in_code.Ask k kind (label v)) u t n ∙ ap (λ (l : SeenLists). l u t) (sym (adding_asks channel p k kind test label))

  pub done_joining_checkpoint : (d : Doing) (v : Seen) (k : ℕ) (parent : Option ℕ) → 1 ≤ k → k ≤ v.begun → IsDone name first w p count d v
      → IsDone name first w p count (joining_checkpoint (name k) parent d) (seen_joining_checkpoint v v.channel p k parent)
  done_joining_checkpoint d v k parent low high h =
      subst (λ (x : NodeState). IsDone name first w p count (joining_checkpoint (name k) parent (record d { state = x })) (seen_joining_checkpoint v v.channel p k parent)) (sym h.state)
      (done_as name first w p count d (joining_checkpoint (name k) parent (record d { state = node_of name first count v p d.state })) v _ _ v.held v.kept _ h
      (λ i. record (node_of name first count v p d.state) {
        calls = (v.states p).calls ++ on_tentative ∷ [];
        inst = inst_some name k low i;
        part = new_part v.processes false parent (is_asked_in_checkpoint (v.states p).calls) no_note (λ q. length-map (v.kept q p) (erased_parcel name) i);
        answered = λ q. false;
      })
      (λ q u n. refl) (λ q u n. refl)
      (asks_own v.channel d k Checkpoint (is_asked_in_checkpoint (v.states p).calls) (checkpoint_label (v.states p).calls) h.puts)
      (asks_other v.channel k Checkpoint (is_asked_in_checkpoint (v.states p).calls) (checkpoint_label (v.states p).calls))
      (rows_one name first w p count d.rows (own.Took (name k)) _ v.begun (told_took name first _ v.log v.begun p count k low high h.told)))

  pub done_joining_rollback : (d : Doing) (v : Seen) (k : ℕ) (parent : Option ℕ) (noted : ℕ → Option ℕ) → 1 ≤ k → k ≤ v.begun → IsDone name first w p count d v
      → IsDone name first w p count (joining_rollback (name k) parent noted d) (seen_joining_rollback v v.channel p k parent noted)
  done_joining_rollback d v k parent noted low high h =
      subst (λ (x : NodeState). IsDone name first w p count (joining_rollback (name k) parent noted (record d { state = x })) (seen_joining_rollback v v.channel p k parent noted)) (sym h.state)
      (done_as name first w p count d (joining_rollback (name k) parent noted (record d { state = node_of name first count v p d.state })) v _ _ v.held v.kept _ h
      (λ i. record (node_of name first count v p d.state) {
        inst = inst_some name k low i;
        part = new_part v.processes true parent (is_asked_in_rollback (v.states p).calls) noted (λ q. 0);
        answered = λ q. false;
      })
      (λ q u n. refl) (λ q u n. refl)
      (asks_own v.channel d k Rollback (is_asked_in_rollback (v.states p).calls) (rollback_label (v.states p).calls) h.puts)
      (asks_other v.channel k Rollback (is_asked_in_rollback (v.states p).calls) (rollback_label (v.states p).calls))
      (rows_one name first w p count d.rows (own.Ready (name k)) _ v.begun (told_ready name first _ v.log v.begun p count k low high h.told)))

  -- it begins the next instance, which has the next of its names
  pub done_beginning : (y : NodeState) (v : Seen) (roll : Bool) → IsNaming name (given (v.log ++ row.Began p (v.begun + 1) (kind_for roll) ∷ [])) → IsDone name first w p count (nothing y) v
      → (IsDone name first w p (at_one p (count p + 1) count) (beginning (next_name y) y roll) (seen_began v p roll)) × (next_name y ≡ name (v.begun + 1))
  done_beginning y v roll n h = (
    record {
      state = ap (λ (x : NodeState). record x { begun = x.begun + 1 }) h.state ∙ (λ i. record (node_of name first count v p y) { begun = sym (at_one_here p (count p + 1) count) i });
      others = λ u o. h.others u o ∙ (λ i. record (node_of name first count v u (w.nodes u)) { begun = sym (at_one_other p u (count p + 1) count o) i });
      puts = h.puts;
      channels = h.channels;
      told = rows_one name first w p (at_one p (count p + 1) count) [] (own.Began (next_name y) (kind_for roll)) _ _
          (subst (λ (x : InstName). Told name first (at_one p (count p + 1) count) ((w.rows ++ map (row_of p) []) ++ row_of p (own.Began x (kind_for roll)) ∷ []) (v.log ++ row.Began p (v.begun + 1) (kind_for roll) ∷ []) (v.begun + 1)) (sym next)
          (told_began name first _ v.log v.begun p count (kind_for roll) h.told n).0);
    },
    next ∙ (told_began name first _ v.log v.begun p count (kind_for roll) h.told n).1,
  )
    where
      next : next_name y ≡ name_of p (count p + 1)
      next = ap next_name h.state
