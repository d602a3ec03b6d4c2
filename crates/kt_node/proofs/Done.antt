-- What a node has done by now, beside what is seen of the state.
use Rattle.std.proofs.Common.{◌≡◌, ◌≢◌, ◌∙◌, ℕ, Bool, List, [], ◌∷◌, ◌++◌, map, sym, ap, subst, inl, inr}
use Rattle.std.specs.Prelude.{◌==◌, if◌then◌else◌, Option}
use Rattle.std.proofs.lemmas.Bool.{cases_eq}
use Rattle.std.proofs.lemmas.List.{append-nil, append_assoc, map-append}
use Rattle.kt_spacetime.specs.declared.event.Event.{Event}
use Rattle.kt_meaning.specs.Past.{at_one}
use Rattle.kt_protocol.proofs.Updates.{is_same, is_other, at_one_here, at_one_other}
use Rattle.kt_machine.specs.Seen.{SeenProcess, SeenLists, Seen}
use Rattle.kt_machine.specs.InOnePiece.{with_process}
use Rattle.kt_spacetime.specs.declared.names.InstName.{InstName}
use Rattle.kt_spacetime.specs.declared.named_rows.NamedEvent.{NamedEvent}
use Rattle.kt_spacetime.specs.declared.named_rows.NamedRow.{NamedRow}
use Rattle.kt_meaning.specs.Names.{row_of}
use Rattle.kt_manager.specs.Nodes.{NodeState, Doing, nothing}
use Rattle.kt_node.specs.Nets.{Net, with_doing}
use Rattle.kt_node.specs.Erasing.{erased_parcels, erased_process}
use Rattle.kt_node.proofs.Told.{Told}

module _ (name : ℕ → InstName) (first : ℕ) where
  -- process u of what is seen, where it began so many instances, and was asked and answered as y
  abbrev pub node_of : (ℕ → ℕ) → Seen → ℕ → NodeState → NodeState
  node_of count v u y = erased_process name v.processes u (count u) (v.states u) (λ q. v.held q u) (λ q. v.kept q u) y.asks y.answered

  -- a net is what is seen, by names
  pub record Shows (count : ℕ → ℕ) (w : Net) (v : Seen) : Type 0 where
    pub nodes : (u : ℕ) → w.nodes u ≡ node_of count v u (w.nodes u)
    pub channels : (u t : ℕ) → w.channel u t ≡ erased_parcels name (v.channel u t)
    pub told : Told name first count w.rows v.log v.begun

  -- so it is once node p has done this
  pub record IsDone (w : Net) (p : ℕ) (count : ℕ → ℕ) (d : Doing) (v : Seen) : Type 0 where
    pub state : d.state ≡ node_of count v p d.state
    pub others : (u : ℕ) → u ≢ p → w.nodes u ≡ node_of count v u (w.nodes u)
    pub puts : (t : ℕ) → w.channel p t ++ d.puts t ≡ erased_parcels name (v.channel p t)
    pub channels : (u t : ℕ) → u ≢ p → w.channel u t ≡ erased_parcels name (v.channel u t)
    pub told : Told name first count (w.rows ++ map (row_of p) d.rows) v.log v.begun

  pub shows_done : (w : Net) (p : ℕ) (count : ℕ → ℕ) (d : Doing) (v : Seen) → IsDone w p count d v → Shows count (with_doing w p d) v
  shows_done w p count d v h = record {
    nodes = λ u. elim (cases_eq u p) [
      | inl e ↦ subst (λ (x : ℕ). at_one p d.state w.nodes x ≡ node_of count v x (at_one p d.state w.nodes x)) (sym e)
          (subst (λ (y : NodeState). y ≡ node_of count v p y) (sym (at_one_here p d.state w.nodes)) h.state)
      | inr n ↦ subst (λ (y : NodeState). y ≡ node_of count v u y) (sym (at_one_other p u d.state w.nodes n)) (h.others u n)
    ];
    channels = λ u t. elim (cases_eq u p) [
      | inl e ↦ subst (λ (x : ℕ). (if x == p then w.channel x t ++ d.puts t else w.channel x t) ≡ erased_parcels name (v.channel x t)) (sym e)
          (ap (λ (b : Bool). if b then w.channel p t ++ d.puts t else w.channel p t) (is_same p) ∙ h.puts t)
      | inr n ↦ ap (λ (b : Bool). if b then w.channel u t ++ d.puts t else w.channel u t) (is_other u p n) ∙ h.channels u t n
    ];
    told = h.told;
  }

  -- nothing is done yet
  pub done_nothing : (w : Net) (p : ℕ) (count : ℕ → ℕ) (y : NodeState) (v : Seen) → y ≡ node_of count v p y → ((u : ℕ) → u ≢ p → w.nodes u ≡ node_of count v u (w.nodes u))
      → ((u t : ℕ) → w.channel u t ≡ erased_parcels name (v.channel u t)) → Told name first count w.rows v.log v.begun → IsDone w p count (nothing y) v
  done_nothing w p count y v s o c t = record {
    state = s;
    others = o;
    puts = λ t. append-nil (w.channel p t) ∙ c p t;
    channels = λ u t n. c u t;
    told = subst (λ (l : List NamedRow). Told name first count l v.log v.begun) (sym (append-nil w.rows)) t;
  }

  -- one more row of a node
  pub rows_push : (w : Net) (p : ℕ) (rows : List NamedEvent) (row : NamedEvent) → w.rows ++ map (row_of p) (rows ++ row ∷ []) ≡ (w.rows ++ map (row_of p) rows) ++ row_of p row ∷ []
  rows_push w p rows row = ap (λ (l : List NamedRow). w.rows ++ l) (map-append (row_of p) rows (row ∷ [])) ∙ sym (append_assoc w.rows (map (row_of p) rows) (row_of p row ∷ []))

  -- p becomes y, and its lists and the log become these
  pub done_as : (w : Net) (p : ℕ) (count : ℕ → ℕ) (d e : Doing) (v : Seen) (y : SeenProcess) (channel held kept : SeenLists) (log : List Event) → IsDone w p count d v
      → e.state ≡ erased_process name v.processes p (count p) y (λ q. held q p) (λ q. kept q p) e.state.asks e.state.answered
      → ((q u : ℕ) → u ≢ p → v.held q u ≡ held q u) → ((q u : ℕ) → u ≢ p → v.kept q u ≡ kept q u)
      → ((t : ℕ) → w.channel p t ++ e.puts t ≡ erased_parcels name (channel p t)) → ((u t : ℕ) → u ≢ p → v.channel u t ≡ channel u t)
      → Told name first count (w.rows ++ map (row_of p) e.rows) log v.begun → IsDone w p count e (with_process v p y channel held kept log)
  done_as w p count d e v y channel held kept log h s ho ko ps cs t = record {
    state = s ∙ ap (λ (x : SeenProcess). erased_process name v.processes p (count p) x (λ q. held q p) (λ q. kept q p) e.state.asks e.state.answered) (sym (at_one_here p y v.states));
    others = λ u n. h.others u n ∙ (λ i. erased_process name v.processes u (count u) (sym (at_one_other p u y v.states n) i) (λ q. ho q u n i) (λ q. ko q u n i) (w.nodes u).asks (w.nodes u).answered);
    puts = ps;
    channels = λ u t n. h.channels u t n ∙ ap (erased_parcels name) (cs u t n);
    told = t;
  }

  -- what it was asked, and who has replied, change alone
  pub done_heard : (w : Net) (p : ℕ) (count : ℕ → ℕ) (y : NodeState) (v : Seen) (asks : ℕ → Option InstName) (answered : ℕ → Bool) → IsDone w p count (nothing y) v → IsDone w p count (nothing (record y { asks = asks; answered = answered })) v
  done_heard w p count y v asks answered h = record {
    state = ap (λ (x : NodeState). record x { asks = asks; answered = answered }) h.state;
    others = h.others;
    puts = h.puts;
    channels = h.channels;
    told = h.told;
  }
