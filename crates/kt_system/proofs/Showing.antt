-- What a system shows after one part of it has changed.
use Rattle.std.proofs.Common.{◌≡◌, ◌≢◌, ◌<◌, ℕ, List, [], ◌∷◌, ◌++◌, get_or, set, refl, arith, ap, subst, sym, ◌∙◌, inl, inr}
use Rattle.std.proofs.Math.Path.{fun_ext}
use Rattle.std.proofs.lemmas.Bool.{cases_eq}
use Rattle.std.proofs.lemmas.Bool.Decides.{nat_tests}
use Rattle.std.proofs.lemmas.List.{get_or-set_same, get_or-set_other}
use Rattle.kt_meaning.specs.Past.{at_one}
use Rattle.kt_fifo.specs.Channels.{channel, at_pair}
use Rattle.kt_fifo.specs.declared.parcels.Parcel.{Parcel}
use Rattle.kt_spacetime.specs.Logs.{Log}
use Rattle.kt_spacetime.specs.declared.event.Event.{Event}
use Rattle.kt_machine.specs.Seen.{SeenProcess, SeenLists, Seen}
use Rattle.kt_machine.specs.ListChanges.{with_parcel, with_rest}
use Rattle.kt_process.specs.ProcessStates.{ProcessState}
use Rattle.kt_process.specs.Shown.{IsSeenAs}
use Rattle.kt_system.specs.Systems.{Whole, state_of, no_process, IsSoundSystem, IsSameSystem}
use Rattle.kt_system.specs.Shown.{ShowsState, IsTurned, turned_to, with_row}
use Rattle.kt_system.proofs.Turns.{state_at, tables_at}

-- the same processes show the same
states_same : (a b : Whole) → b.states ≡ a.states → (p : ℕ) → state_of b p ≡ state_of a p
unfolding state_of
states_same a b e p = ap (λ (states : List ProcessState). get_or states p no_process) e

-- all is as it was but the lists, the log and the number of instances
pub shows_parts : (a b seen : Whole) (v : Seen) (channels held kept : SeenLists) (log : List Event) (begun : ℕ) → a ≡ seen → b.size ≡ a.size → b.states ≡ a.states → channel b.channels ≡ channels → channel b.held ≡ held →
    channel b.kept ≡ kept → b.rows.rows ≡ log → b.begun ≡ begun → ShowsState seen v → ShowsState b (record v { channel = channels; held = held; kept = kept; log = log; begun = begun })
shows_parts a b seen v channels held kept log begun e s states c f k l g h =
    let i = subst (λ (w : Whole). ShowsState w v) (sym e) h in
    record {
      processes = s ∙ i.processes;
      states = λ p b1. subst (λ (x : ProcessState). IsSeenAs x (v.states p)) (sym (states_same a b states p)) (i.states p (omega (arith, b1, s)));
      channels = c;
      held = f;
      kept = k;
      log = l;
      begun = g;
    }

-- but for spare room all is as it was
pub shows_same : (a b : Whole) (v : Seen) → IsSameSystem b a → ShowsState a v → ShowsState b v
shows_same a b v s h = record {
  processes = s.size ∙ h.processes;
  states = λ p b1. subst (λ (x : ProcessState). IsSeenAs x (v.states p)) (sym (states_same a b s.states p)) (h.states p (let z = s.size in omega (arith, b1, z)));
  channels = s.channels ∙ h.channels;
  held = s.held ∙ h.held;
  kept = s.kept ∙ h.kept;
  log = s.rows ∙ h.log;
  begun = s.begun ∙ h.begun;
}

at_same : {X : Type 0} (p : ℕ) (x : X) (f : ℕ → X) → at_one p x f p ≡ x
at_same p x f = grind (arith, nat_tests)

at_other : {X : Type 0} (p u : ℕ) (x : X) (f : ℕ → X) → u ≢ p → at_one p x f u ≡ f u
at_other p u x f n = grind (arith, nat_tests)

-- where nothing is changed
pub turned_none : (a : Whole) (p : ℕ) → IsTurned a a p
turned_none a p = record {
  size = refl;
  others = λ q other. refl;
  channels = refl;
  held = refl;
  kept = refl;
  rows = refl;
  begun = refl;
  put = refl;
}

-- one process has changed
pub shows_turned : (a b : Whole) (v : Seen) (p : ℕ) (y : SeenProcess) → IsTurned a b p → IsSeenAs (state_of b p) y → ShowsState a v → ShowsState b (turned_to v p y)
shows_turned a b v p y t turn h = record {
  processes = t.size ∙ h.processes;
  states = λ u l. elim (cases_eq u p) [
    | inl e ↦ subst (λ (z : ℕ). IsSeenAs (state_of b z) (at_one p y v.states z)) (sym e) (subst (λ (z : SeenProcess). IsSeenAs (state_of b p) z) (sym (at_same p y v.states)) turn)
    | inr n ↦ subst (λ (x : ProcessState). IsSeenAs x (at_one p y v.states u)) (sym (t.others u n))
        (subst (λ (z : SeenProcess). IsSeenAs (state_of a u) z) (sym (at_other p u y v.states n)) (h.states u (let z = t.size in omega (arith, l, z))))
  ];
  channels = ap channel t.channels ∙ h.channels;
  held = ap channel t.held ∙ h.held;
  kept = ap channel t.kept ∙ h.kept;
  log = ap (λ (r : Log). r.rows) t.rows ∙ h.log;
  begun = t.begun ∙ h.begun;
}

-- who stands elsewhere is who stood there
pub is_turned : (a b seen : Whole) (p i : ℕ) (y : ProcessState) → a ≡ seen → i ≡ p → b.states ≡ set a.states i y → b.size ≡ a.size → b.channels ≡ a.channels → b.held ≡ a.held → b.kept ≡ a.kept → b.rows ≡ a.rows → b.begun ≡ a.begun → b.put ≡ a.put → IsTurned seen b p
unfolding state_of
is_turned a b seen p i y e j states s w h k r g t = subst (λ (z : Whole). IsTurned z b p) e (record {
  size = s;
  others = λ q n. ap (λ (l : List ProcessState). get_or l q no_process) states ∙ (ap (λ (z : ℕ). get_or (set a.states z y) q no_process) j ∙ get_or-set_other a.states p q y no_process n);
  channels = w;
  held = h;
  kept = k;
  rows = r;
  begun = g;
  put = t;
})

pub pushed_is : (f : SeenLists) (p q : ℕ) (x : Parcel) → at_pair p q (f p q ++ x ∷ []) f ≡ with_parcel f p q x
unfolding with_parcel
pushed_is f p q x = fun_ext (λ u. fun_ext (λ v. grind (arith, nat_tests)))

pub popped_is : (f : SeenLists) (q p : ℕ) (rest : List Parcel) → at_pair q p rest f ≡ with_rest f q p rest
unfolding with_rest
popped_is f q p rest = fun_ext (λ u. fun_ext (λ v. grind (arith, nat_tests)))

-- only the channels change
pub shows_channels : (a b seen : Whole) (v : Seen) (F : SeenLists → SeenLists) → a ≡ seen → b.size ≡ a.size → b.states ≡ a.states → channel b.held ≡ channel a.held → channel b.kept ≡ channel a.kept → b.rows.rows ≡ a.rows.rows → b.begun ≡ a.begun →
    channel b.channels ≡ F (channel a.channels) → ShowsState seen v → ShowsState b (record v { channel = F v.channel })
shows_channels a b seen v F e s states held kept rows begun w h =
    let i = subst (λ (z : Whole). ShowsState z v) (sym e) h in
    shows_parts a b seen v (F v.channel) v.held v.kept v.log v.begun e s states (w ∙ ap F i.channels) (held ∙ i.held) (kept ∙ i.kept) (rows ∙ i.log) (begun ∙ i.begun) h

-- only the log changes, by one row
pub shows_log : (a b seen : Whole) (v : Seen) (row : Event) → a ≡ seen → b.size ≡ a.size → b.states ≡ a.states → b.channels ≡ a.channels → b.held ≡ a.held → b.kept ≡ a.kept → b.begun ≡ a.begun →
    b.rows.rows ≡ a.rows.rows ++ row ∷ [] → ShowsState seen v → ShowsState b (with_row v row)
shows_log a b seen v row e s states channels held kept begun rows h =
    let i = subst (λ (z : Whole). ShowsState z v) (sym e) h in
    shows_parts a b seen v v.channel v.held v.kept (v.log ++ row ∷ []) v.begun e s states (ap channel channels ∙ i.channels) (ap channel held ∙ i.held) (ap channel kept ∙ i.kept) (rows ∙ ap (λ (l : List Event). l ++ row ∷ []) i.log) (begun ∙ i.begun) h

-- who stands at a place, in the machine
pub stood : (a seen : Whole) (p i : ℕ) (x : ProcessState) (v : Seen) → a ≡ seen → IsSoundSystem a → p < seen.size → i ≡ p → x ≡ get_or a.states i x → ShowsState seen v → IsSeenAs x (v.states p)
stood a seen p i x v e sound b j was h = subst (λ (z : ProcessState). IsSeenAs z (v.states p)) (sym (state_at a seen p i x e sound b j was)) (h.states p b)

pub placed : (a b seen : Whole) (p i : ℕ) (y : ProcessState) → a ≡ seen → IsSoundSystem a → p < seen.size → i ≡ p → b.states ≡ set a.states i y → state_of b p ≡ y
unfolding state_of
placed a b seen p i y e sound l j states =
    ap (λ (z : List ProcessState). get_or z p no_process) states
    ∙ (ap (λ (z : ℕ). get_or (set a.states z y) p no_process) j ∙ get_or-set_same a.states p y no_process (let m = ap (λ (w : Whole). w.size) e in let z = sound.states in omega arith))

-- what is so of a process before and after its turn, in the system
pub in_system : (P : ProcessState → ProcessState → Type 0) (a b seen : Whole) (p i : ℕ) (x y : ProcessState) → a ≡ seen → IsSoundSystem a → p < seen.size → i ≡ p → x ≡ get_or a.states i x → b.states ≡ set a.states i y → P x y → P (state_of seen p) (state_of b p)
in_system P a b seen p i x y e sound l j was states h =
    subst (λ (z : ProcessState). P z (state_of b p)) (state_at a seen p i x e sound l j was) (subst (λ (z : ProcessState). P x z) (sym (placed a b seen p i y e sound l j states)) h)

-- as many processes as its tables have
pub sized : (a seen : Whole) (p i : ℕ) (x : ProcessState) (v : Seen) → a ≡ seen → IsSoundSystem a → p < seen.size → i ≡ p → x ≡ get_or a.states i x → ShowsState seen v → x.tables.processes ≡ v.processes
sized a seen p i x v e sound b j was h = ap (λ (z : ProcessState). z.tables.processes) (state_at a seen p i x e sound b j was) ∙ (tables_at a seen p e sound b ∙ h.processes)
