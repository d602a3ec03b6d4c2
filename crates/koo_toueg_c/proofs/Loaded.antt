-- A node that was loaded is whatever state its bytes say.
use Rattle.std.specs.Prelude.{◌==◌, ◌&&◌, ◌||◌, nat_lt, nat_le, slice_get, if◌then◌else◌}
use Rattle.std.proofs.Common.{◌≡◌, ◌≢◌, ◌∙◌, ◌⊎◌, ◌≤◌, ◌+◌, ◌-◌, ◌^◌, ℕ, Bool, true, false, not, List, max, length, slice_index, Option, Some, None, Result, Ok, Err, IfErr, IsErrAnd, IsErrOf, sym, ap, refl, subst, inl, inr, arith}
use Rattle.std.proofs.lemmas.Bool.{cases_lt}
use Rattle.std.proofs.lemmas.List.{get_or_past, length-map}
use Rattle.kt_plan.specs.declared.steps.Look.TheVariants.{Idle}
use Rattle.kt_manager.specs.Nodes.{NodeState}
use Rattle.kt_node.specs.Faults.{fault_at, wants_memory}
use Rattle.kt_node.specs.declared.faults.ManagerFault.TheVariants as manager
use Rattle.kt_node.specs.Links.{NodeLinks, ShowsLinks, IsGiven, IsMetAs, IsStep, IsUntaken, IsParcelRefusedAs}
use Rattle.kt_node.specs.Looks.{clock_of, input_of, look_of, meeting_at, node_look}
use Rattle.kt_node.specs.Meetings.{is_far, is_far_message, is_next_one, is_stale, label_of}
use Rattle.kt_node.specs.Managers.{ShowsNode}
use Rattle.kt_node.specs.declared.inputs.Input.{Input}
use Rattle.kt_node.specs.declared.inputs.Input.TheVariants.{Send, Begin, Fail, Redeliver, Deliver}
use Rattle.kt_node.specs.declared.node.NodeFault.{NodeFault}
use Rattle.kt_node.specs.declared.node.NodeFault.TheVariants as fault
use Rattle.kt_node.specs.declared.node.Output.{Output}
use Rattle.kt_node.specs.declared.node.Taken.{Taken}
use Rattle.kt_node.specs.declared.node.Taken.TheVariants.{Step, Again}
use Rattle.kt_machine.specs.Seen.{SeenPart}
use Rattle.kt_process.specs.ProcessStates.{HasMarks}
use Rattle.kt_process.specs.Shown.{part_shown}
use Rattle.kt_process.specs.declared.side.Side.{Side}
use Rattle.kt_process.specs.declared.side.Side.TheVariants as side
use Rattle.kt_manager.specs.Inboxes.{kept_of}
use Rattle.kt_manager.specs.Managers.{as_parcel, as_parcels}
use Rattle.kt_manager.specs.Nodes.{NodeLists}
use Rattle.kt_manager.specs.OwnParts.{HasOwnMarks}
use Rattle.kt_node.proofs.OwnMarks.{marks_after, own_shown}
use Rattle.kt_node_text.specs.Form.{text_of}
use Rattle.kt_node_text.specs.Sameness.{IsOwn, IsSameState}
use Rattle.kt_node_text.specs.declared.fault.LoadFault.{LoadFault}
use Rattle.kt_node_text.specs.declared.fault.LoadFault.TheVariants as load
use Rattle.koo_toueg_c.specs.NodeNumbers.{input_meant, truth_meant, of_load, refusal_number, refusal_status, process_meant}
use Rattle.koo_toueg_c.specs.Nodes.{SaysNode, SavesNode, SaysState, TakesOne, TakesInOrder, IsRuleOf, IsStepOf, IsAgainOf, IsNoStep, IsSealed, MeetsAs, RefusesGiven, rule_at}
use Rattle.koo_toueg_c.specs.declared.node.input.KtInput.{KtInput}
use Rattle.koo_toueg_c.specs.declared.node.refusal.Refusal.{Refusal}
use Rattle.koo_toueg_c.specs.declared.node.refusal.Refusal.TheVariants as refusal

-- what loading promises of a node
pub record IsLoaded (bytes : List ℕ) (v : NodeLinks) : Type 0 where
  pub same : (w : NodeLinks) → IsOwn w → bytes ≡ text_of w → IsSameState w v

pub is_same : (bytes : List ℕ) (v w : NodeLinks) → IsLoaded bytes v → SaysNode bytes w → IsSameState w v
is_same bytes v w loaded says = loaded.same w says.own says.said

pub shows : (bytes : List ℕ) (v : NodeLinks) (y : NodeState) → IsLoaded bytes v → SaysState bytes y → ShowsLinks v y
shows bytes v y loaded s = (is_same bytes v s.node loaded s.says).shows y s.shows

-- how it meets what comes, and what it looks at, are those of any node with these bytes
pub meeting_same : (w v : NodeLinks) (x : Input) → IsSameState w v → meeting_at v x ≡ meeting_at w x
meeting_same w v (Send to body) same = refl
meeting_same w v (Begin kind) same = refl
meeting_same w v Fail same = refl
meeting_same w v (Redeliver q) same = λ i. by_labels (label_of (slice_get (as_parcels (same.held i) q) 0)) (slice_index (same.reaches i).live.received q)
  where
    by_labels : ℕ → ℕ → Result Bool NodeFault
    by_labels first most = if not (first == 0) && nat_le first most then Err fault.Stale else Ok true
meeting_same w v (Deliver q e) same =
    λ i. by_parts (same.me i) (slice_index (same.taken i) q + 1) (same.clock i) (max (slice_index (same.reaches i).live.received q) (label_of (slice_get (as_parcels (same.held i) q) (length (as_parcels (same.held i) q) - 1)))) (same.used i)
  where
    by_parts : (me next clock last used : ℕ) → Result Bool NodeFault
    by_parts me next clock last used =
        if not (e.from == q && e.to == me) then Err fault.Astray
        else if nat_lt e.number next then Ok false
        else if nat_lt next e.number then Err (fault.Gap next)
        else if is_far clock e.clock || is_far_message (max last used) e.parcel then Err fault.Leap
        else if is_stale last e.parcel then Err fault.Stale
        else Ok true

pub look_same : (w v : NodeLinks) (y : NodeState) (x : Input) → IsSameState w v → node_look v y x ≡ node_look w y x
look_same w v y x same =
    λ i. if is_next_one (meeting_same w v x same i) && nat_lt (max (same.clock i) (clock_of x)) (2 ^ 64 - 2) then look_of y (input_of true x) else Idle

pub takes_same : (w v new : NodeLinks) (x : Input) → IsSameState w v → TakesOne v new x → TakesOne w new x
takes_same w v new (Send to body) same h = h ∙ same.taken
takes_same w v new (Begin kind) same h = h ∙ same.taken
takes_same w v new Fail same h = h ∙ same.taken
takes_same w v new (Redeliver from) same h = h ∙ same.taken
takes_same w v new (Deliver from e) same h = rw (sym same.taken) h

-- so its bytes are of a node that meets it so
pub meets : (before : List ℕ) (numbers : KtInput) (v : NodeLinks) (x : Input) (met : Result Bool NodeFault) → IsLoaded before v → SaysNode before v → input_meant numbers ≡ Some x → meeting_at v x ≡ met → MeetsAs before numbers x met
meets before numbers v x met loaded says meant is = record {
  meant = meant;
  node = v;
  says = says;
  meets = λ w told. sym (meeting_same w v x (is_same before v w loaded told)) ∙ is;
}

-- it keeps as many messages as its part marks, in whatever state it shows
no_marks : (s : Option Side) (n q : ℕ) → HasMarks n s → n ≤ q → (part_shown s).marks q ≡ 0
no_marks None n q h b = refl
no_marks (Some (side.Checkpoint s)) n q h b = get_or_past s.marks q 0 (subst (λ (m : ℕ). m ≤ q) (sym h) b)
no_marks (Some (side.Rollback s)) n q h b = refl

own_marks : (v : NodeLinks) (y : NodeState) → IsOwn v → ShowsNode v.manager y → HasOwnMarks y
own_marks v y own h q =
    let w = v.manager in
    let n = w.process.tables.processes in
    let marks : (part_shown w.process.side).marks q ≡ y.part.marks q = ap (λ (p : SeenPart). p.marks q) h.process.part in
    let kept : length (kept_of w.inbox q) ≡ length (y.kept q) = sym (length-map (kept_of w.inbox q) as_parcel) ∙ ap (λ (l : NodeLists). length (l q)) h.holds.kept in
    elim (cases_lt q n) [
      | inl b ↦ (let k = own.part.marks q b in omega (arith, marks, kept, k))
      | inr b ↦ (let k = no_marks w.process.side n q own.sound.process.marked b in omega (arith, marks, k))
    ]

-- a step of the node that was loaded is a step of its bytes
pub made : (before after : List ℕ) (v new : NodeLinks) (x : Input) (able : Bool) (out : Output) → IsLoaded before v → IsOwn v → SavesNode after new →
    TakesOne v new x →
    ((y : NodeState) → ShowsLinks v y → IsStep v new (clock_of x) y (input_of able x) out) →
    ((y : NodeState) → ShowsNode v.manager y → fault_at y (input_of able x) ≡ None) →
    IsRuleOf before able x after out
made before after v new x able out loaded own saves takes step free = record {
  rule = λ y said.
      let seen = shows before v y loaded said in
      let s = step y seen in
      let part = own_shown new.manager (rule_at y able x).state s.done.state (marks_after y (input_of able x) (own_marks v y own seen.manager)) in
      let says : SaysNode after new = record { own = record { sound = saves.sound; part = part }; said = saves.said } in
      record {
        state = record { node = new; says = says; shows = record { manager = s.done.state; reaches = s.reaches seen.reaches } };
        puts = record { rows = s.done.rows; acts = s.done.acts; parcels = s.done.puts };
        links = λ w told. let same = is_same before v w loaded told in (
          new,
          says,
          record {
            clock = s.clock ∙ ap (λ n. max n (clock_of x) + 1) same.clock;
            told = s.told;
            sender = s.sender;
            sent = λ q few. s.sent q few ∙ ap (λ l. slice_index l q + length ((rule_at y able x).puts q)) same.sent;
            numbers = s.numbers;
            taken = takes_same w v new x same takes;
          },
        );
      };
  taken = λ y said. free y (shows before v y loaded said).manager;
}

pub some_is : {A : Type 0} (x y : A) → Some x ≡ Some y → x ≡ y
some_is x y e = cc

-- an input that made a step was met as the next one, and one that came before as such
met_step : (met : Result Bool NodeFault) → IsMetAs met (Ok Step) → met ≡ Ok true
met_step (Ok true) h = refl
met_step (Ok false) h = absurd (cc (h))
met_step (Err f) h = absurd (cc (h))

met_again : (met : Result Bool NodeFault) → IsMetAs met (Ok Again) → met ≡ Ok false
met_again (Ok true) h = absurd (h.1 refl)
met_again (Ok false) h = refl
met_again (Err f) h = absurd (cc (h))

-- one that was refused was met so, or was given to the manager
met_err : (met : Result Bool NodeFault) (f : NodeFault) → IsMetAs met (Err f) → (met ≡ Err f) ⊎ ((met ≡ Ok true) × IsGiven {X = Taken} (Err f))
met_err (Ok true) f h = inr (refl, h.0)
met_err (Ok false) f h = absurd (cc (h))
met_err (Err g) f h = let e : g ≡ f = cc (h) in inl (ap Err e)

-- a step that was made, or a parcel that came before, at the input that numbers mean
pub step_of : (before after : List ℕ) (numbers : KtInput) (v new : NodeLinks) (x : Input) (able : Bool) (t : Taken) (out : Output) →
    IsLoaded before v → SaysNode before v → input_meant numbers ≡ Some x → able ≡ truth_meant numbers.able → t ≡ Step → SavesNode after new → TakesInOrder v new x t → IsMetAs (meeting_at v x) (Ok t) →
    ((y : NodeState) → ShowsNode v.manager y → IsParcelRefusedAs (fault_at y (input_of able x)) (Ok t)) →
    ((y : NodeState) → ShowsLinks v y → IsUntaken t (IsStep v new (clock_of x) y (input_of able x) out)) →
    IsStepOf before numbers after out × SavesNode after new
step_of before after numbers v new x able t out loaded said meant is made_it saves takes met free done = (
  record {
    x = x;
    met = meets before numbers v x (Ok true) loaded said meant (met_step (meeting_at v x) (subst (λ (t : Taken). IsMetAs (meeting_at v x) (Ok t)) made_it met));
    rule = rw (sym is) (made before after v new x able out loaded said.own saves (subst (TakesInOrder v new x) made_it takes)
        (λ y seen. subst (λ (t : Taken). IsUntaken t (IsStep v new (clock_of x) y (input_of able x) out)) made_it (done y seen))
        (λ y seen. subst (λ (t : Taken). IsParcelRefusedAs (fault_at y (input_of able x)) (Ok t)) made_it (free y seen)));
  },
  saves,
)

pub again_of : (before : List ℕ) (numbers : KtInput) (v : NodeLinks) (x : Input) (t : Taken) →
    IsLoaded before v → SaysNode before v → input_meant numbers ≡ Some x → t ≡ Again → IsMetAs (meeting_at v x) (Ok t) → IsAgainOf before numbers
again_of before numbers v x t loaded said meant is met = record {
  x = x;
  met = meets before numbers v x (Ok false) loaded said meant (met_again (meeting_at v x) (subst (λ (t : Taken). IsMetAs (meeting_at v x) (Ok t)) is met));
}

pub if_err : {A B : Type 0} (r : Result A B) (P Q : B → Type 0) → ((b : B) → Q b → P b) → IsErrAnd r Q → IfErr r P
if_err (Ok x) P Q f h = tt
if_err (Err b) P Q f h = f b h

-- what the node that was loaded refuses, its bytes refuse
pub refused_of : (before : List ℕ) (numbers : KtInput) (v : NodeLinks) (x : Input) (able : Bool) (f : NodeFault) (r : Refusal) →
    IsLoaded before v → SaysNode before v → input_meant numbers ≡ Some x → able ≡ truth_meant numbers.able → IsMetAs (meeting_at v x) (Err f) →
    ((y : NodeState) → ShowsNode v.manager y → IsParcelRefusedAs (fault_at y (input_of able x)) (Err f)) →
    (IsErrOf {T = Taken} (Err f) fault.ClockSpent → 2 ^ 64 - 2 ≤ max v.clock (clock_of x)) →
    ((y : NodeState) → ShowsNode v.manager y → IsErrOf {T = Taken} (Err f) (fault.Manager manager.Memory) → wants_memory y (input_of able x) ≡ true) →
    r ≡ refusal.Node f → IsNoStep before numbers r
refused_of before numbers v x able f r loaded said meant is met rule spent memory e =
    subst (IsNoStep before numbers) (sym e) (
      x,
      elim (met_err (meeting_at v x) f met) [
        | inl h ↦ inl (meets before numbers v x (Err f) loaded said meant h)
        | inr h ↦ inr (
          meets before numbers v x (Ok true) loaded said meant h.0,
          subst (λ (b : Bool). RefusesGiven before x b f) is (record {
            given = h.1;
            rule = λ y seen. rule y (shows before v y loaded seen).manager;
            spent = λ s w told. subst (λ (n : ℕ). 2 ^ 64 - 2 ≤ max n (clock_of x)) (is_same before v w loaded told).clock (spent (ap Err s));
            memory = λ m y seen. memory y (shows before v y loaded seen).manager (ap Err m);
          }),
        )
      ],
    )

-- bytes that are not read, where memory was there, are of no node
pub not_read : (f : LoadFault) (r : Refusal) → r ≡ of_load f → refusal_status r ≡ 2 → f ≡ load.Form
not_read load.Form r e two = refl
not_read load.Memory r e two = let wrong : 4 ≡ 2 = ap refusal_status (sym e) ∙ two in absurd (omega (arith, wrong))

-- bytes that are not read are of no node, or memory was asked for
pub unread_of : (before : List ℕ) (numbers : KtInput) (f : LoadFault) (r : Refusal) → r ≡ of_load f →
    (f ≡ load.Form → (w : NodeLinks) → IsOwn w → before ≡ text_of w → ⊥) → (f ≡ load.Memory → IsSealed before) → IsNoStep before numbers r
unread_of before numbers load.Form r e form memory = subst (IsNoStep before numbers) (sym e) (λ w says. form refl w says.own says.said)
unread_of before numbers load.Memory r e form memory = subst (IsNoStep before numbers) (sym e) (memory refl)

pub is_want : (f : LoadFault) (r : Refusal) → r ≡ of_load f → refusal_status r ≡ 4 → f ≡ load.Memory
is_want load.Form r e four = let wrong : 2 ≡ 4 = ap refusal_status (sym e) ∙ four in absurd (omega (arith, wrong))
is_want load.Memory r e four = refl

pub status_two : (why : Refusal) → refusal_status why ≢ 4 → refusal_status why ≡ 2
status_two why other = at (refusal_number why == 12) (refusal_status why) refl other
  where
    at : (b : Bool) (n : ℕ) → n ≡ (if b then 4 else 2) → n ≢ 4 → n ≡ 2
    at true n e other = absurd (other e)
    at false n e other = e

pub process_is : (n p : ℕ) → process_meant n ≡ Some p → n ≡ p
process_is n p e = at (nat_lt n 64) e
  where
    at : (b : Bool) → (if b then Some n else None) ≡ Some p → n ≡ p
    at true e = some_is n p e
    at false e = absurd (cc e)
