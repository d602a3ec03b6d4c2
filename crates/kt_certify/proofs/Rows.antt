-- What one more row changes.
use Rattle.std.proofs.Common.{◌≡◌, ◌≢◌, ◌⊎◌, ℕ, ◌<◌, ◌≤◌, ◌+◌, Bool, true, Option, Some, None, option_map, List, [], ◌∷◌, ◌++◌, length, map, take, refl, sym, ap, subst, ◌∙◌, arith, inl, inr}
use Rattle.std.specs.List.{slice_get}
use Rattle.std.proofs.lemmas.Bool.{cases_order}
use Rattle.std.proofs.lemmas.List.{take-append-le}
use Rattle.std.proofs.lemmas.Option.{slice_get_within}
use Rattle.std.proofs.Math.Seq.{take-append_seam}
use Rattle.kt_base.specs.declared.words.Kind.{Kind}
use Rattle.kt_spacetime.specs.declared.event.Event.{Event}
use Rattle.kt_spacetime.specs.declared.event.Event.TheVariants.{Sent, Received, Dropped, Began, Took, Ready, Unwilling, Decided, Closed, Failed, Refused}
use Rattle.kt_meaning.specs.Past.{Beginning, past, beginning_of, kind_of, initiator_of}
use Rattle.kt_meaning.specs.Legal.{IsLegal}
use Rattle.kt_meaning.specs.Chains.{members}
use Rattle.kt_rules.specs.Standing.{at_number}
use Rattle.kt_meaning.proofs.Items.{get_left, get_push, some_same}
use Rattle.kt_meaning.proofs.Lists.{get_last}
use Rattle.kt_meaning.proofs.LegalLogs.{legal_last}
use Rattle.kt_meaning.specs.Linking.{chain_of, chained, AreChainedTo}
use Rattle.kt_meaning.specs.Fitness.{HasNoChain, IsFirstWithout, IsUnlinked}
use Rattle.kt_certify.specs.Instances.{InstanceParts, instances_after, AreInstancesOf, beginning_kept, joined_kept}
use Rattle.kt_certify.specs.Stops.{HasChains, IsStuck, StopsIn, StopsOn}
use Rattle.kt_certify.specs.declared.fault.Stop.TheVariants.{NoChain}
use Rattle.kt_meaning.proofs.Chained.{process, processes_are}
use Rattle.kt_certify.proofs.Entered.{beginning_there}
use Rattle.kt_certify.proofs.PassSteps.{step}
use Rattle.kt_meaning.proofs.Unlinked.{lacks_at}
use Rattle.kt_certify.proofs.Unlinked.{never_unlinked}

pub entered_more : (rows : List Event) (row : Event) (es more : List InstanceParts) → IsLegal (rows ++ row ∷ []) → more ≡ instances_after (past rows) row es → AreInstancesOf rows es → AreInstancesOf (rows ++ row ∷ []) more
entered_more rows row es more l is h = subst (AreInstancesOf (rows ++ row ∷ [])) (sym is) (step rows row es (past rows) (legal_last rows row l).0 (legal_last rows row l).1 refl h)

abbrev kind_begun : Option Beginning → Option Kind
kind_begun o = option_map (λ (b : Beginning). b.kind) o

abbrev initiator_begun : Option Beginning → Option ℕ
initiator_begun o = option_map (λ (b : Beginning). b.initiator) o

-- the entry of an instance of this kind
known_entry : (rows : List Event) (es : List InstanceParts) (k : ℕ) (kind : Kind) → AreInstancesOf rows es → kind_of (past rows) k ≡ Some kind → (e : InstanceParts) × (at_number es k ≡ Some e) × (e.beginning.kind ≡ kind)
known_entry rows es k kind h is = from (at_number es k) refl
  where
    clash : None ≡ Some kind → ⊥
    clash e = cc

    from : (o : Option InstanceParts) → at_number es k ≡ o → (e : InstanceParts) × (at_number es k ≡ Some e) × (e.beginning.kind ≡ kind)
    from None at = absurd (clash (sym (ap kind_begun (beginning_there rows es k h ∙ ap (option_map beginning_kept) at)) ∙ is))
    from (Some e) at = (e, at, some_same (sym (ap kind_begun (beginning_there rows es k h ∙ ap (option_map beginning_kept) at)) ∙ is))

-- what is known of an instance that has its entry
entry_begun : (rows : List Event) (es : List InstanceParts) (k : ℕ) (e : InstanceParts) → AreInstancesOf rows es → at_number es k ≡ Some e → beginning_of (past rows) k ≡ Some e.beginning
entry_begun rows es k e h at = beginning_there rows es k h ∙ ap (option_map beginning_kept) at

entry_joined : (rows : List Event) (es : List InstanceParts) (k : ℕ) (e : InstanceParts) → AreInstancesOf rows es → at_number es k ≡ Some e → e.joined ≡ members rows k
entry_joined rows es k e h at = ap joined_kept (sym at) ∙ h.joined k

-- the first members of an instance that the next row commits
chained_now : (n : ℕ) (rows : List Event) (es : List InstanceParts) (k p place : ℕ) (kind : Kind) → AreInstancesOf rows es
    → ((e : InstanceParts) → at_number es k ≡ Some e → AreChainedTo n (past rows) k e.beginning.kind e.beginning.initiator e.joined) → place < n
    → kind_of (past rows) k ≡ Some kind → slice_get (members rows k) place ≡ Some p → initiator_of (past rows) k ≢ Some p → IsUnlinked (past rows) k kind (members rows k) place p → ⊥
chained_now n rows es k p place kind h all low of_kind member other unlinked =
    let entry = known_entry rows es k kind h of_kind in
    let e = entry.0 in
    let same : e.joined ≡ members rows k = entry_joined rows es k e h entry.1 in
    let begun : initiator_of (past rows) k ≡ Some e.beginning.initiator = ap initiator_begun (entry_begun rows es k e h entry.1) in
    let at : slice_get e.joined place ≡ Some p = ap (λ (l : List ℕ). slice_get l place) same ∙ member in
    never_unlinked n (past rows) k e.beginning.kind e.beginning.initiator e.joined place p (all e entry.1) low at (λ x. other (begun ∙ sym (ap Some x)))
    (subst (λ (l : List ℕ). IsUnlinked (past rows) k e.beginning.kind l place p) (sym same) (subst (λ (x : Kind). IsUnlinked (past rows) k x (members rows k) place p) (sym entry.2) unlinked))

-- the same of all of them
all_chained_now : (rows : List Event) (es : List InstanceParts) (k p place : ℕ) (kind : Kind) → AreInstancesOf rows es → ((e : InstanceParts) → at_number es k ≡ Some e → HasChains (past rows) k e)
    → kind_of (past rows) k ≡ Some kind → slice_get (members rows k) place ≡ Some p → initiator_of (past rows) k ≢ Some p → IsUnlinked (past rows) k kind (members rows k) place p → ⊥
all_chained_now rows es k p place kind h all of_kind member other unlinked =
    chained_now (length (members rows k)) rows es k p place kind h
    (λ e at. subst (λ (n : ℕ). AreChainedTo n (past rows) k e.beginning.kind e.beginning.initiator e.joined) (ap length (entry_joined rows es k e h at)) (all e at))
    (slice_get_within (members rows k) place p member) of_kind member other unlinked

-- an earlier row of a longer log lacks what it lacks in a shorter one
lacks_in_at : (log more : List Event) (k p : ℕ) (h : HasNoChain (log ++ more) k p) → h.row < length log → (o : HasNoChain log k p) × (o.row ≡ h.row) × (o.place ≡ h.place)
lacks_in_at log more k p h low =
    let same : take h.row (log ++ more) ≡ take h.row log = take-append-le h.row log more (omega (arith, low)) in
    let lacks : HasNoChain log k p = record {
      row = h.row;
      decider = h.decider;
      decided = sym (get_left log more h.row low) ∙ h.decided;
      kind = h.kind;
      of_kind = subst (λ (l : List Event). kind_of (past l) k ≡ Some h.kind) same h.of_kind;
      place = h.place;
      member = subst (λ (l : List Event). slice_get (members l k) h.place ≡ Some p) same h.member;
      other = subst (λ (l : List Event). initiator_of (past l) k ≢ Some p) same h.other;
      unlinked = subst (λ (l : List Event). IsUnlinked (past l) k h.kind (members l k) h.place p) same h.unlinked;
    } in
    (lacks, refl, refl)

lacks_in : (log more : List Event) (k p : ℕ) (h : HasNoChain (log ++ more) k p) → h.row < length log → HasNoChain log k p
lacks_in log more k p h low = (lacks_in_at log more k p h low).0

-- what a log lacks, a longer one lacks
pub lacks_more : (log more : List Event) (k p : ℕ) (h : HasNoChain log k p) → (o : HasNoChain (log ++ more) k p) × (o.row ≡ h.row) × (o.place ≡ h.place)
lacks_more log more k p h =
    let low : h.row < length log = slice_get_within log h.row (Decided h.decider k true) h.decided in
    let same : take h.row log ≡ take h.row (log ++ more) = sym (take-append-le h.row log more (omega (arith, low))) in
    let lacks : HasNoChain (log ++ more) k p = record {
      row = h.row;
      decider = h.decider;
      decided = get_left log more h.row low ∙ h.decided;
      kind = h.kind;
      of_kind = subst (λ (l : List Event). kind_of (past l) k ≡ Some h.kind) same h.of_kind;
      place = h.place;
      member = subst (λ (l : List Event). slice_get (members l k) h.place ≡ Some p) same h.member;
      other = subst (λ (l : List Event). initiator_of (past l) k ≢ Some p) same h.other;
      unlinked = subst (λ (l : List Event). IsUnlinked (past l) k h.kind (members l k) h.place p) same h.unlinked;
    } in
    (lacks, refl, refl)

-- one more row lacks nothing where each of its members has its chain
pub chained_more : (rows : List Event) (row : Event) (es : List InstanceParts) → AreInstancesOf rows es → ((p k : ℕ) (e : InstanceParts) → row ≡ Decided p k true → at_number es k ≡ Some e → HasChains (past rows) k e)
    → ((k p : ℕ) → HasNoChain rows k p → ⊥) → (k p : ℕ) → HasNoChain (rows ++ row ∷ []) k p → ⊥
chained_more rows row es h all none k p lacks = elim (get_push rows row lacks.row (Decided lacks.decider k true) lacks.decided) [
  | inl old ↦ none k p (lacks_in rows (row ∷ []) k p lacks (slice_get_within rows lacks.row (Decided lacks.decider k true) old))
  | inr new ↦
      let same : take lacks.row (rows ++ row ∷ []) ≡ rows = ap (λ (n : ℕ). take n (rows ++ row ∷ [])) new.0 ∙ take-append_seam rows (row ∷ []) in
      all_chained_now rows es k p lacks.place lacks.kind h (λ e at. all lacks.decider k e (sym new.1) at)
      (subst (λ (l : List Event). kind_of (past l) k ≡ Some lacks.kind) same lacks.of_kind)
      (subst (λ (l : List Event). slice_get (members l k) lacks.place ≡ Some p) same lacks.member)
      (subst (λ (l : List Event). initiator_of (past l) k ≢ Some p) same lacks.other)
      (subst (λ (l : List Event). IsUnlinked (past l) k lacks.kind (members l k) lacks.place p) same lacks.unlinked)
]

-- where a process has no chain, it lacks one
stuck_lacks : (rows : List Event) (es : List InstanceParts) (decider k p : ℕ) (e : InstanceParts) → AreInstancesOf rows es → at_number es k ≡ Some e
    → (stuck : IsStuck (past rows) k e.beginning.kind e.beginning.initiator e.joined p)
    → (h : HasNoChain (rows ++ Decided decider k true ∷ []) k p) × (h.row ≡ length rows) × (h.place ≡ stuck.place)
stuck_lacks rows es decider k p e h at stuck =
    let front : rows ≡ take (length rows) (rows ++ Decided decider k true ∷ []) = sym (take-append_seam rows (Decided decider k true ∷ [])) in
    let same : e.joined ≡ members rows k = entry_joined rows es k e h at in
    let listed : map process (chained (past rows) k e.beginning.kind e.beginning.initiator (take stuck.place e.joined)) ≡ take stuck.place (members rows k) =
    processes_are (past rows) k e.beginning.kind e.beginning.initiator (take stuck.place e.joined) ∙ ap (take stuck.place) same in
    lacks_at (rows ++ Decided decider k true ∷ []) (length rows) decider k stuck.place p e.beginning (chained (past rows) k e.beginning.kind e.beginning.initiator (take stuck.place e.joined)) (get_last rows (Decided decider k true))
    (subst (λ (l : List Event). beginning_of (past l) k ≡ Some e.beginning) front (entry_begun rows es k e h at))
    (subst (λ (l : List Event). slice_get (members l k) stuck.place ≡ Some p) front (sym (ap (λ (l : List ℕ). slice_get l stuck.place) same) ∙ stuck.member))
    (subst (λ (l : List Event). map process (chained (past rows) k e.beginning.kind e.beginning.initiator (take stuck.place e.joined)) ≡ take stuck.place (members l k)) front listed)
    (subst (λ (l : List Event). chain_of (past l) k e.beginning.kind e.beginning.initiator (chained (past rows) k e.beginning.kind e.beginning.initiator (take stuck.place e.joined)) p ≡ None) front stuck.none)

order : (a b : ℕ) → (a < b) ⊎ (b ≤ a)
order a b = elim (cases_order a b) [
  | inl same ↦ inr (omega (arith, same))
  | inr other ↦ elim other [
    | inl low ↦ inl low
    | inr high ↦ inr (omega (arith, high))
  ]
]

abbrev inst_of : Event → ℕ
inst_of (Decided p k commit) = k
inst_of row = 0

-- a later member of the instance that the last row commits
later_member : (rows : List Event) (es : List InstanceParts) (decider k p : ℕ) (e : InstanceParts) → AreInstancesOf rows es → at_number es k ≡ Some e
    → (stuck : IsStuck (past rows) k e.beginning.kind e.beginning.initiator e.joined p)
    → (q : ℕ) (other : HasNoChain (rows ++ Decided decider k true ∷ []) k q) → other.row ≡ length rows → stuck.place ≤ other.place
later_member rows es decider k p e h at stuck q other same = elim (order other.place stuck.place) [
  | inl low ↦ absurd (earlier low)
  | inr high ↦ high
]
  where
    front : take other.row (rows ++ Decided decider k true ∷ []) ≡ rows
    front = ap (λ (n : ℕ). take n (rows ++ Decided decider k true ∷ [])) same ∙ take-append_seam rows (Decided decider k true ∷ [])

    earlier : other.place < stuck.place → ⊥
    earlier low =
        chained_now stuck.place rows es k q other.place other.kind h
        (λ x there. subst (λ (y : InstanceParts). AreChainedTo stuck.place (past rows) k y.beginning.kind y.beginning.initiator y.joined) (some_same (sym at ∙ there)) stuck.before)
        low
        (subst (λ (l : List Event). kind_of (past l) k ≡ Some other.kind) front other.of_kind)
        (subst (λ (l : List Event). slice_get (members l k) other.place ≡ Some q) front other.member)
        (subst (λ (l : List Event). initiator_of (past l) k ≢ Some q) front other.other)
        (subst (λ (l : List Event). IsUnlinked (past l) k other.kind (members l k) other.place q) front other.unlinked)

-- where none lacked a chain before, it is the first
first_stuck : (rows : List Event) (es : List InstanceParts) (decider k p : ℕ) (e : InstanceParts) → AreInstancesOf rows es → ((j q : ℕ) → HasNoChain rows j q → ⊥) → at_number es k ≡ Some e
    → IsStuck (past rows) k e.beginning.kind e.beginning.initiator e.joined p → IsFirstWithout (rows ++ Decided decider k true ∷ []) k (length rows + 1) p
first_stuck rows es decider k p e h none at stuck =
    let lacks = stuck_lacks rows es decider k p e h at stuck in
    record {
      lacks = lacks.0;
      number = ap (λ (n : ℕ). n + 1) (sym lacks.1);
      earliest = λ j q other. omega (arith, lacks.1, (at_last j q other).0);
      first = λ j q other same.
          let last = at_last j q other in
          let it = subst (λ (x : ℕ). (o : HasNoChain (rows ++ Decided decider k true ∷ []) x q) × (o.place ≡ other.place) × (o.row ≡ other.row)) last.1 (other, refl, refl) in
          omega (arith, lacks.2, it.1, later_member rows es decider k p e h at stuck q it.0 (it.2 ∙ last.0));
    }
  where
    at_last : (j q : ℕ) (other : HasNoChain (rows ++ Decided decider k true ∷ []) j q) → (other.row ≡ length rows) × (j ≡ k)
    at_last j q other = elim (get_push rows (Decided decider k true) other.row (Decided other.decider j true) other.decided) [
      | inl old ↦ absurd (none j q (lacks_in rows (Decided decider k true ∷ []) j q other (slice_get_within rows other.row (Decided other.decider j true) old)))
      | inr new ↦ (new.0, ap inst_of new.1)
    ]

stops_in : (rows : List Event) (es : List InstanceParts) (decider k : ℕ) (commit : Bool) (j p : ℕ) → AreInstancesOf rows es → ((i q : ℕ) → HasNoChain rows i q → ⊥) → StopsIn commit (past rows) k es (NoChain j p)
    → IsFirstWithout (rows ++ Decided decider k commit ∷ []) j (length rows + 1) p
stops_in rows es decider k commit j p h none stops =
    subst (λ (x : ℕ). IsFirstWithout (rows ++ Decided decider k commit ∷ []) x (length rows + 1) p) (sym stops.3)
    (subst (λ (b : Bool). IsFirstWithout (rows ++ Decided decider k b ∷ []) k (length rows + 1) p) (sym stops.2) (first_stuck rows es decider k p stops.0 h none stops.1 stops.4))

-- a row that was not entered is the first to commit an instance with a member without a chain
pub stops_on : (rows : List Event) (row : Event) (es : List InstanceParts) (j p : ℕ) → AreInstancesOf rows es → ((i q : ℕ) → HasNoChain rows i q → ⊥) → StopsOn row (past rows) es (NoChain j p)
    → IsFirstWithout (rows ++ row ∷ []) j (length rows + 1) p
stops_on rows (Decided q k commit) es j p h none stops = stops_in rows es q k commit j p h none stops
stops_on rows (Began q k kind) es j p h none stops = absurd (cc)
stops_on rows (Took q k) es j p h none stops = absurd (cc)
stops_on rows (Ready q k) es j p h none stops = absurd (cc)
stops_on rows (Sent q to body) es j p h none stops = absurd (cc)
stops_on rows (Received q from msg) es j p h none stops = absurd (cc)
stops_on rows (Dropped q from msg) es j p h none stops = absurd (cc)
stops_on rows (Unwilling q k cause) es j p h none stops = absurd (cc)
stops_on rows (Closed q k) es j p h none stops = absurd (cc)
stops_on rows (Failed q) es j p h none stops = absurd (cc)
stops_on rows (Refused q verb cause) es j p h none stops = absurd (cc)

-- it stays the first with one more row
pub without_more : (rows : List Event) (row : Event) (k r p : ℕ) → IsFirstWithout rows k r p → IsFirstWithout (rows ++ row ∷ []) k r p
without_more rows row k r p h =
    let more = lacks_more rows (row ∷ []) k p h.lacks in
    record {
      lacks = more.0;
      number = h.number ∙ ap (λ (n : ℕ). n + 1) (sym more.1);
      earliest = λ j q other. omega (arith, more.1, earlier j q other);
      first = λ j q other same. omega (arith, more.2, placed j q other (same ∙ more.1));
    }
  where
    within : h.lacks.row < length rows
    within = slice_get_within rows h.lacks.row (Decided h.lacks.decider k true) h.lacks.decided

    earlier : (j q : ℕ) (other : HasNoChain (rows ++ row ∷ []) j q) → h.lacks.row ≤ other.row
    earlier j q other = elim (order other.row (length rows)) [
      | inl low ↦
          let o = lacks_in_at rows (row ∷ []) j q other low in
          omega (arith, o.1, h.earliest j q o.0)
      | inr high ↦ omega (arith, high, within)
    ]

    placed : (j q : ℕ) (other : HasNoChain (rows ++ row ∷ []) j q) → other.row ≡ h.lacks.row → h.lacks.place ≤ other.place
    placed j q other same =
        let o = lacks_in_at rows (row ∷ []) j q other (omega (arith, same, within)) in
        omega (arith, o.2, h.first j q o.0 (o.1 ∙ same))
