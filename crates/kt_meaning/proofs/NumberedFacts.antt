-- Logs by names and logs by numbers undo each other.
use Rattle.std.proofs.Common.{◌≡◌, ◌∙◌, ℕ, suc, ◌+◌, ◌==◌, if◌then◌else◌, Bool, true, Option, Some, None, option_map, List, [], ◌∷◌, ◌++◌, length, map, take, refl, sym, ap, subst}
use Rattle.std.specs.Prelude.{◌&&◌}
use Rattle.std.specs.Option.{option_and_then}
use Rattle.kt_base.specs.declared.words.Cause.{Cause}
use Rattle.kt_base.specs.declared.words.Cause.TheVariants as cause
use Rattle.kt_spacetime.specs.declared.event.Event.{Event}
use Rattle.kt_spacetime.specs.declared.event.Event.TheVariants.{Sent, Received, Dropped, Began, Took, Ready, Unwilling, Decided, Closed, Failed, Refused}
use Rattle.kt_spacetime.specs.Events.{process_of}
use Rattle.kt_meaning.proofs.RowRules.{both}
use Rattle.kt_spacetime.specs.declared.names.InstName.{InstName}
use Rattle.kt_spacetime.specs.declared.named_rows.NamedCause.{NamedCause}
use Rattle.kt_spacetime.specs.declared.named_rows.NamedCause.TheVariants as own_cause
use Rattle.kt_spacetime.specs.declared.named_rows.NamedEvent.{NamedEvent}
use Rattle.kt_spacetime.specs.declared.named_rows.NamedEvent.TheVariants as own
use Rattle.kt_spacetime.specs.declared.named_rows.NamedRow.{NamedRow}
use Rattle.kt_meaning.specs.Names.{Given, given_after, at_place, place_of, name_of, row_of, message_number, instance_number, numbered_cause, numbered_event, numbered_from, message_label, name_begun_by, instance_name, named_cause, named_event, named_from}
use Rattle.kt_meaning.proofs.PlaceFacts.{map_some, then_some, test_some, same_test, tested, place_at}
use Rattle.kt_meaning.proofs.GivenFacts.{AreGiven, given_more}

-- an instance by its initiator and its count
same_name : (inst : InstName) (p count : ℕ) → inst.initiator ≡ p → inst.count ≡ count → name_of p count ≡ inst
same_name inst p count e f =
    subst (λ (q : ℕ). name_of q count ≡ inst) e (subst (λ (c : ℕ). name_of inst.initiator c ≡ inst) f refl)

-- a number's name is the name that has the number
instance_named : (g : Given) → AreGiven g → (inst : InstName) (k : ℕ) → instance_number g inst ≡ Some k → instance_name g k ≡ Some inst
instance_named g h inst k e =
    let once = h.begun_once inst.initiator in
    ap (option_and_then (name_begun_by g k)) (h.begun_by inst.initiator inst.count k e) ∙ ap (option_map (name_of inst.initiator)) (once.found inst.count k e)

message_named : (g : Given) → AreGiven g → (from label m : ℕ) → message_number g from label ≡ Some m → message_label g from m ≡ Some label
message_named g h from label m e = let once = h.sent_once from in once.found label m e

cause_named : (g : Given) → AreGiven g → (c : NamedCause) (d : Cause) → numbered_cause g c ≡ Some d → named_cause g d ≡ Some c
cause_named g h (own_cause.Busy inst) d e =
    let there = map_some cause.Busy (instance_number g inst) d e in
    subst (λ (x : Cause). named_cause g x ≡ Some (own_cause.Busy inst)) there.2 (ap (option_map own_cause.Busy) (instance_named g h inst there.0 there.1))
cause_named g h own_cause.Down d e = let same : cause.Down ≡ d = cc in subst (λ (x : Cause). named_cause g x ≡ Some own_cause.Down) same refl
cause_named g h own_cause.NoSave d e = let same : cause.NoSave ≡ d = cc in subst (λ (x : Cause). named_cause g x ≡ Some own_cause.NoSave) same refl

-- a row by names is what the row by numbers is called
abbrev pub IsCalled : Given → ℕ → NamedEvent → Event → Type 0
IsCalled g p event row = (process_of row ≡ p) × (named_event g row ≡ Some event)

-- a row that is made of a number and called by the name that has it
called_by : (g : Given) (p : ℕ) (event : NamedEvent) (make : ℕ → Event) (o : Option ℕ) (row : Event) → option_map make o ≡ Some row
    → ((k : ℕ) → o ≡ Some k → IsCalled g p event (make k)) → IsCalled g p event row
called_by g p event make o row e called =
    let there = map_some make o row e in
    subst (λ (x : Event). IsCalled g p event x) there.2 (called there.0 there.1)

called_began : (g : Given) (p : ℕ) (inst : InstName) (kind : _) (row : Event) → numbered_event g p (own.Began inst kind) ≡ Some row → IsCalled g p (own.Began inst kind) row
called_began g p inst kind row e =
    let made = test_some ((inst.initiator == p) && (inst.count == length (g.begun p) + 1)) (Began p (length g.initiators + 1) kind) row e in
    let tests = both (inst.initiator == p) (inst.count == length (g.begun p) + 1) made.0 in
    let name : name_of p (length (g.begun p) + 1) ≡ inst = same_name inst p (length (g.begun p) + 1) (tested inst.initiator p tests.0) (tested inst.count (length (g.begun p) + 1) tests.1) in
    subst (λ (x : Event). IsCalled g p (own.Began inst kind) x) made.1 (
      refl,
      ap (λ (b : Bool). if b then Some (own.Began (name_of p (length (g.begun p) + 1)) kind) else None) (same_test (length g.initiators + 1))
          ∙ ap (λ (i : InstName). Some (own.Began i kind)) name,
    )

called_sent : (g : Given) (p to : ℕ) (body : _) (label : ℕ) (row : Event) → numbered_event g p (own.Sent to body label) ≡ Some row → IsCalled g p (own.Sent to body label) row
called_sent g p to body label row e =
    let made = test_some (label == length (g.sent p) + 1) (Sent p to body) row e in
    let number : label ≡ length (g.sent p) + 1 = tested label (length (g.sent p) + 1) made.0 in
    subst (λ (x : Event). IsCalled g p (own.Sent to body label) x) made.1 (refl, ap (λ (l : ℕ). Some (own.Sent to body l)) (sym number))

called_unwilling : (g : Given) → AreGiven g → (p : ℕ) (inst : InstName) (c : NamedCause) (row : Event) → numbered_event g p (own.Unwilling inst c) ≡ Some row → IsCalled g p (own.Unwilling inst c) row
called_unwilling g h p inst c row e =
    let first = then_some (λ k. option_map (Unwilling p k) (numbered_cause g c)) (instance_number g inst) row e in
    let second = map_some (Unwilling p first.0) (numbered_cause g c) row first.2 in
    subst (λ (x : Event). IsCalled g p (own.Unwilling inst c) x) second.2 (
      refl,
      ap (option_and_then (λ name. option_map (own.Unwilling name) (named_cause g second.0))) (instance_named g h inst first.0 first.1)
          ∙ ap (option_map (own.Unwilling inst)) (cause_named g h c second.0 second.1),
    )

called_refused : (g : Given) → AreGiven g → (p : ℕ) (verb : _) (c : NamedCause) (row : Event) → numbered_event g p (own.Refused verb c) ≡ Some row → IsCalled g p (own.Refused verb c) row
called_refused g h p verb c row e =
    let there = map_some (Refused p verb) (numbered_cause g c) row e in
    subst (λ (x : Event). IsCalled g p (own.Refused verb c) x) there.2 (refl, ap (option_map (own.Refused verb)) (cause_named g h c there.0 there.1))

pub called : (g : Given) → AreGiven g → (p : ℕ) (event : NamedEvent) (row : Event) → numbered_event g p event ≡ Some row → IsCalled g p event row
called g h p (own.Sent to body label) row e = called_sent g p to body label row e
called g h p (own.Received from label) row e = called_by g p (own.Received from label) (Received p from) (message_number g from label) row e
    (λ m f. (refl, ap (option_map (own.Received from)) (message_named g h from label m f)))
called g h p (own.Dropped from label) row e = called_by g p (own.Dropped from label) (Dropped p from) (message_number g from label) row e
    (λ m f. (refl, ap (option_map (own.Dropped from)) (message_named g h from label m f)))
called g h p (own.Began inst kind) row e = called_began g p inst kind row e
called g h p (own.Took inst) row e = called_by g p (own.Took inst) (Took p) (instance_number g inst) row e (λ k f. (refl, ap (option_map own.Took) (instance_named g h inst k f)))
called g h p (own.Ready inst) row e = called_by g p (own.Ready inst) (Ready p) (instance_number g inst) row e (λ k f. (refl, ap (option_map own.Ready) (instance_named g h inst k f)))
called g h p (own.Unwilling inst c) row e = called_unwilling g h p inst c row e
called g h p (own.Decided inst commit) row e = called_by g p (own.Decided inst commit) (λ k. Decided p k commit) (instance_number g inst) row e
    (λ k f. (refl, ap (option_map (λ name. own.Decided name commit)) (instance_named g h inst k f)))
called g h p (own.Closed inst) row e = called_by g p (own.Closed inst) (Closed p) (instance_number g inst) row e (λ k f. (refl, ap (option_map own.Closed) (instance_named g h inst k f)))
called g h p own.Failed row e = let same : Failed p ≡ row = cc in subst (λ (x : Event). IsCalled g p own.Failed x) same (refl, refl)
called g h p (own.Refused verb c) row e = called_refused g h p verb c row e

-- the other way

instance_numbered : (g : Given) (k : ℕ) (inst : InstName) → instance_name g k ≡ Some inst → instance_number g inst ≡ Some k
instance_numbered g k inst e =
    let first = then_some (name_begun_by g k) (at_place g.initiators k) inst e in
    let second = map_some (name_of first.0) (place_of k (g.begun first.0)) inst first.2 in
    subst (λ (i : InstName). instance_number g i ≡ Some k) second.2 (place_at k (g.begun first.0) second.0 second.1)

cause_numbered : (g : Given) (d : Cause) (c : NamedCause) → named_cause g d ≡ Some c → numbered_cause g c ≡ Some d
cause_numbered g (cause.Busy k) c e =
    let there = map_some own_cause.Busy (instance_name g k) c e in
    subst (λ (x : NamedCause). numbered_cause g x ≡ Some (cause.Busy k)) there.2 (ap (option_map cause.Busy) (instance_numbered g k there.0 there.1))
cause_numbered g cause.Down c e = let same : own_cause.Down ≡ c = cc in subst (λ (x : NamedCause). numbered_cause g x ≡ Some cause.Down) same refl
cause_numbered g cause.NoSave c e = let same : own_cause.NoSave ≡ c = cc in subst (λ (x : NamedCause). numbered_cause g x ≡ Some cause.NoSave) same refl

-- a row by numbers is that of the row by names
abbrev IsCounted : Given → Event → NamedEvent → Type 0
IsCounted g row event = numbered_event g (process_of row) event ≡ Some row

counted_by : {X : Type 0} (g : Given) (row : Event) (make : X → NamedEvent) (o : Option X) (event : NamedEvent) → option_map make o ≡ Some event
    → ((x : X) → o ≡ Some x → IsCounted g row (make x)) → IsCounted g row event
counted_by g row make o event e counted =
    let there = map_some make o event e in
    subst (λ (x : NamedEvent). IsCounted g row x) there.2 (counted there.0 there.1)

counted_began : (g : Given) (p inst : ℕ) (kind : _) (event : NamedEvent) → named_event g (Began p inst kind) ≡ Some event → IsCounted g (Began p inst kind) event
counted_began g p inst kind event e =
    let made = test_some (inst == length g.initiators + 1) (own.Began (name_of p (length (g.begun p) + 1)) kind) event e in
    let number : inst ≡ length g.initiators + 1 = tested inst (length g.initiators + 1) made.0 in
    let yes : ((p == p) && (length (g.begun p) + 1 == length (g.begun p) + 1)) ≡ true
    = ap (λ (b : Bool). b && (length (g.begun p) + 1 == length (g.begun p) + 1)) (same_test p) ∙ same_test (length (g.begun p) + 1) in
    subst (λ (x : NamedEvent). IsCounted g (Began p inst kind) x) made.1
    (ap (λ (b : Bool). if b then Some (Began p (length g.initiators + 1) kind) else None) yes ∙ ap (λ (k : ℕ). Some (Began p k kind)) (sym number))

counted_sent : (g : Given) (p to : ℕ) (body : _) (event : NamedEvent) → named_event g (Sent p to body) ≡ Some event → IsCounted g (Sent p to body) event
counted_sent g p to body event e =
    let same : own.Sent to body (length (g.sent p) + 1) ≡ event = cc in
    subst (λ (x : NamedEvent). IsCounted g (Sent p to body) x) same (ap (λ (b : Bool). if b then Some (Sent p to body) else None) (same_test (length (g.sent p) + 1)))

counted_unwilling : (g : Given) (p inst : ℕ) (c : Cause) (event : NamedEvent) → named_event g (Unwilling p inst c) ≡ Some event → IsCounted g (Unwilling p inst c) event
counted_unwilling g p inst c event e =
    let first = then_some (λ name. option_map (own.Unwilling name) (named_cause g c)) (instance_name g inst) event e in
    let second = map_some (own.Unwilling first.0) (named_cause g c) event first.2 in
    subst (λ (x : NamedEvent). IsCounted g (Unwilling p inst c) x) second.2
    (ap (option_and_then (λ k. option_map (Unwilling p k) (numbered_cause g second.0))) (instance_numbered g inst first.0 first.1)
    ∙ ap (option_map (Unwilling p inst)) (cause_numbered g c second.0 second.1))

pub counted : (g : Given) (row : Event) (event : NamedEvent) → named_event g row ≡ Some event → numbered_event g (process_of row) event ≡ Some row
counted g (Sent p to body) event e = counted_sent g p to body event e
counted g (Received p from msg) event e = counted_by g (Received p from msg) (own.Received from) (message_label g from msg) event e
    (λ label f. ap (option_map (Received p from)) (place_at msg (g.sent from) label f))
counted g (Dropped p from msg) event e = counted_by g (Dropped p from msg) (own.Dropped from) (message_label g from msg) event e
    (λ label f. ap (option_map (Dropped p from)) (place_at msg (g.sent from) label f))
counted g (Began p inst kind) event e = counted_began g p inst kind event e
counted g (Took p inst) event e = counted_by g (Took p inst) own.Took (instance_name g inst) event e (λ name f. ap (option_map (Took p)) (instance_numbered g inst name f))
counted g (Ready p inst) event e = counted_by g (Ready p inst) own.Ready (instance_name g inst) event e (λ name f. ap (option_map (Ready p)) (instance_numbered g inst name f))
counted g (Unwilling p inst c) event e = counted_unwilling g p inst c event e
counted g (Decided p inst commit) event e = counted_by g (Decided p inst commit) (λ name. own.Decided name commit) (instance_name g inst) event e
    (λ name f. ap (option_map (λ k. Decided p k commit)) (instance_numbered g inst name f))
counted g (Closed p inst) event e = counted_by g (Closed p inst) own.Closed (instance_name g inst) event e (λ name f. ap (option_map (Closed p)) (instance_numbered g inst name f))
counted g (Failed p) event e = let same : own.Failed ≡ event = cc in subst (λ (x : NamedEvent). IsCounted g (Failed p) x) same refl
counted g (Refused p verb c) event e = counted_by g (Refused p verb c) (own.Refused verb) (named_cause g c) event e (λ d f. ap (option_map (Refused p verb)) (cause_numbered g c d f))

-- the first row of a list by names, and the rest
pub record NumbersFirst (g : Given) (row : NamedRow) (rows : List NamedRow) (log : List Event) : Type 0 where
  pub event : Event
  pub rest : List Event
  pub first : numbered_event g row.p row.event ≡ Some event
  pub others : numbered_from (given_after g event) rows ≡ Some rest
  pub is : event ∷ rest ≡ log

pub numbers_first : (g : Given) (row : NamedRow) (rows : List NamedRow) (log : List Event) → numbered_from g (row ∷ rows) ≡ Some log → NumbersFirst g row rows log
numbers_first g row rows log e =
    let head = then_some (λ event. option_map (λ events. event ∷ events) (numbered_from (given_after g event) rows)) (numbered_event g row.p row.event) log e in
    let tail = map_some (λ events. head.0 ∷ events) (numbered_from (given_after g head.0) rows) log head.2 in
    record { event = head.0; rest = tail.0; first = head.1; others = tail.1; is = tail.2 }

pub numbered_more : (g : Given) (row : NamedRow) (rows : List NamedRow) (event : Event) (rest : List Event) → numbered_event g row.p row.event ≡ Some event
    → numbered_from (given_after g event) rows ≡ Some rest → numbered_from g (row ∷ rows) ≡ Some (event ∷ rest)
numbered_more g row rows event rest e f =
    ap (option_and_then (λ event. option_map (λ events. event ∷ events) (numbered_from (given_after g event) rows))) e ∙ ap (option_map (λ events. event ∷ events)) f

-- the same by numbers
pub record NamesFirst (g : Given) (row : Event) (log : List Event) (rows : List NamedRow) : Type 0 where
  pub event : NamedEvent
  pub rest : List NamedRow
  pub first : named_event g row ≡ Some event
  pub others : named_from (given_after g row) log ≡ Some rest
  pub is : row_of (process_of row) event ∷ rest ≡ rows

pub names_first : (g : Given) (row : Event) (log : List Event) (rows : List NamedRow) → named_from g (row ∷ log) ≡ Some rows → NamesFirst g row log rows
names_first g row log rows e =
    let head = then_some (λ event. option_map (λ events. row_of (process_of row) event ∷ events) (named_from (given_after g row) log)) (named_event g row) rows e in
    let tail = map_some (λ events. row_of (process_of row) head.0 ∷ events) (named_from (given_after g row) log) rows head.2 in
    record { event = head.0; rest = tail.0; first = head.1; others = tail.1; is = tail.2 }

pub named_more : (g : Given) (row : Event) (log : List Event) (event : NamedEvent) (rest : List NamedRow) → named_event g row ≡ Some event
    → named_from (given_after g row) log ≡ Some rest → named_from g (row ∷ log) ≡ Some (row_of (process_of row) event ∷ rest)
named_more g row log event rest e f =
    ap (option_and_then (λ event. option_map (λ events. row_of (process_of row) event ∷ events) (named_from (given_after g row) log))) e
    ∙ ap (option_map (λ events. row_of (process_of row) event ∷ events)) f

pub named_back : (g : Given) → AreGiven g → (rows : List NamedRow) (log : List Event) → numbered_from g rows ≡ Some log → named_from g log ≡ Some rows
named_back g h [] log e = let none : [] ≡ log = cc in subst (λ (l : List Event). named_from g l ≡ Some []) none refl
named_back g h (row ∷ rows) log e =
    let n = numbers_first g row rows log e in
    let c = called g h row.p row.event n.event n.first in
    let rest = named_back (given_after g n.event) (given_more g n.event h) rows n.rest n.others in
    subst (λ (l : List Event). named_from g l ≡ Some (row ∷ rows)) n.is
    (named_more g n.event n.rest row.event rows c.1 rest ∙ ap (λ (p : ℕ). Some (row_of p row.event ∷ rows)) c.0)

pub numbered_back : (g : Given) (log : List Event) (rows : List NamedRow) → named_from g log ≡ Some rows → numbered_from g rows ≡ Some log
numbered_back g [] rows e = let none : [] ≡ rows = cc in subst (λ (l : List NamedRow). numbered_from g l ≡ Some []) none refl
numbered_back g (row ∷ log) rows e =
    let n = names_first g row log rows e in
    subst (λ (l : List NamedRow). numbered_from g l ≡ Some (row ∷ log)) n.is
    (numbered_more g (row_of (process_of row) n.event) n.rest row log (counted g row n.event n.first) (numbered_back (given_after g row) log n.rest n.others))

-- a beginning
pub named_front : (g : Given) (log more : List Event) (rows : List NamedRow) → named_from g (log ++ more) ≡ Some rows → named_from g log ≡ Some (take (length log) rows)
named_front g [] more rows e = refl
named_front g (row ∷ log) more rows e =
    let n = names_first g row (log ++ more) rows e in
    subst (λ (l : List NamedRow). named_from g (row ∷ log) ≡ Some (take (suc (length log)) l)) n.is
    (named_more g row log n.event (take (length log) n.rest) n.first (named_front (given_after g row) log more n.rest n.others))

pub numbered_front : (g : Given) (rows more : List NamedRow) (log : List Event) → numbered_from g (rows ++ more) ≡ Some log → numbered_from g rows ≡ Some (take (length rows) log)
numbered_front g [] more log e = refl
numbered_front g (row ∷ rows) more log e =
    let n = numbers_first g row (rows ++ more) log e in
    subst (λ (l : List Event). numbered_from g (row ∷ rows) ≡ Some (take (suc (length rows)) l)) n.is
    (numbered_more g row rows n.event (take (length rows) n.rest) n.first (numbered_front (given_after g n.event) rows more n.rest n.others))

-- each row stays its process's
pub processes : (g : Given) → AreGiven g → (rows : List NamedRow) (log : List Event) → numbered_from g rows ≡ Some log → map process_of log ≡ map (λ r. r.p) rows
processes g h [] log e = let none : [] ≡ log = cc in subst (λ (l : List Event). map process_of l ≡ []) none refl
processes g h (row ∷ rows) log e =
    let n = numbers_first g row rows log e in
    let c = called g h row.p row.event n.event n.first in
    let rest = processes (given_after g n.event) (given_more g n.event h) rows n.rest n.others in
    subst (λ (l : List Event). map process_of l ≡ map (λ r. r.p) (row ∷ rows)) n.is (ap (λ (p : ℕ). p ∷ map process_of n.rest) c.0 ∙ ap (λ (l : List ℕ). row.p ∷ l) rest)
