-- How steps change the messages in transit, and what the law keeps of them.
use Rattle.std.proofs.Common.{◌≡◌, ℕ, ◌+◌, ◌<◌, Bool, true, false, List, [], ◌∷◌, ◌++◌, refl, arith, sym, ap, subst, inl, ◌∙◌, append_assoc}
use Rattle.std.specs.Prelude.{◌==◌, ◌&&◌, if◌then◌else◌}
use Rattle.std.proofs.lemmas.Bool.Decides.{nat_tests}
use Rattle.kt_spacetime.specs.declared.event.Event.{Event}
use Rattle.kt_meaning.specs.Past.{Past, after, past}
use Rattle.kt_meaning.proofs.LegalLogs.{past_push}
use Rattle.kt_protocol.proofs.Invariant.{Invariant, is_message}
use Rattle.kt_protocol.proofs.Lawful.{Law, Lawful, line, way}
use Rattle.kt_protocol.proofs.Lines.{Over, Rising, Thin, apps_left, apps_sending, apps_taken, thin_all, times_append, times_apps}
use Rattle.kt_protocol.specs.Parcels.{messages, App, Parcel, Lists, with_rest, with_parcel}
use Rattle.kt_protocol.specs.InTransit.{times}
use Rattle.kt_protocol.proofs.Weights.{weigh}
use Rattle.kt_protocol.specs.States.{State}
use Rattle.kt_protocol.specs.Summary.{Summary}
use Rattle.kt_protocol.proofs.Choices.{both, same}

-- a state whose log is one row longer
pub by_row : (quiet : Bool) (t : State) (log : List Event) (row : Event) → t.log ≡ log ++ row ∷ [] → Lawful quiet t.log (after (past log) row) t.so_far t.channel t.held t.kept t.up t.instances t.initiator → Law quiet t
by_row quiet t log row e l = subst (λ (s : Past). Lawful quiet t.log s t.so_far t.channel t.held t.kept t.up t.instances t.initiator) (sym (past_push log row) ∙ ap (λ (x : List Event). past x) (sym e)) l

-- the same messages in transit
pub law_ways : (quiet : Bool) (log : List Event) (s : Past) (h : Summary) (channel held kept : Lists) (up : ℕ → Bool) (instances : ℕ) (initiator : ℕ → ℕ) (chan2 held2 : Lists) → ((u v : ℕ) → way chan2 held2 u v ≡ way channel held u v) → Lawful quiet log s h channel held kept up instances initiator → Lawful quiet log s h chan2 held2 kept up instances initiator
law_ways quiet log s h channel held kept up instances initiator chan2 held2 same l = record {
  legal = l.legal;
  last = l.last;
  is_up = l.is_up;
  count = l.count;
  first = l.first;
  apart = l.apart;
  in_order = λ u v. subst (λ (w : List ℕ). Rising (messages (kept u v) ++ w)) (sym (same u v)) (l.in_order u v);
  permanent_first = λ n g p. subst (λ (w : List ℕ). Over n (messages (kept (h.from n) (h.to n)) ++ w)) (sym (same (h.from n) (h.to n))) (l.permanent_first n g p);
  drops_first = λ p q i n d e. subst (λ (w : List ℕ). Over n w) (sym (same q p)) (l.drops_first p q i n d e);
  drops_low = l.drops_low;
}

pub same_way : (channel held chan2 : Lists) → ((u v : ℕ) → messages (chan2 u v) ≡ messages (channel u v)) → (u v : ℕ) → way chan2 held u v ≡ way channel held u v
same_way channel held chan2 e u v = ap (λ (l : List ℕ). messages (held u v) ++ l) (e u v)

-- the same messages in channels
pub law_channels : (quiet : Bool) (s : State) (channel : Lists) → ((u v : ℕ) → messages (channel u v) ≡ messages (s.channel u v)) → Law quiet s → Law quiet (record s { channel = channel })
law_channels quiet s channel e l = law_ways quiet s.log (past s.log) s.so_far s.channel s.held s.kept s.up s.instances s.initiator channel s.held (same_way s.channel s.held channel e) l

pub times_line : (s : State) (m u v : ℕ) → times m (line s.channel s.held s.kept u v) ≡ weigh (is_message m) (s.kept u v) + (weigh (is_message m) (s.held u v) + weigh (is_message m) (s.channel u v))
times_line s m u v =
    let a = times_append m (messages (s.kept u v)) (way s.channel s.held u v) in
    let b = times_append m (messages (s.held u v)) (messages (s.channel u v)) in
    let c = times_apps m (s.kept u v) in let d = times_apps m (s.held u v) in let e = times_apps m (s.channel u v) in
    omega (arith, a, b, c, d, e)

-- what stands in a line is sent
pub line_sent : (s : State) (m u v : ℕ) → Invariant s → 0 < times m (line s.channel s.held s.kept u v) → s.so_far.is_sent m ≡ true
line_sent s m u v g h = at_test (s.so_far.is_sent m) (s.so_far.is_received m) refl refl
  where
    at_test : (a b : Bool) → s.so_far.is_sent m ≡ a → s.so_far.is_received m ≡ b → s.so_far.is_sent m ≡ true
    at_test true b e f = e
    at_test false true e f = (g.messages.received_low m f).0
    at_test false false e f = let x = g.messages.flying m u v in let y = g.messages.kept_is m v u in let z = times_line s m u v in absurd (grind (arith, nat_tests, x, y, z, h, e, f))

pub line_low : (s : State) (m u v : ℕ) → Invariant s → 0 < times m (line s.channel s.held s.kept u v) → m < s.so_far.rows + 1
line_low s m u v g h = let a = g.messages.sent_low m (line_sent s m u v g h) in omega (arith, a.1)

-- a message is sent
pub line_pushed : (s : State) (p q : ℕ) → (P : List ℕ → Type 0) (u v : ℕ) → P (line s.channel s.held s.kept u v) → P (line s.channel s.held s.kept u v ++ (s.so_far.rows + 1) ∷ []) → P (line (with_parcel s.channel p q (App (s.so_far.rows + 1))) s.held s.kept u v)
line_pushed s p q P u v old new = subst (λ (l : List ℕ). P (messages (s.kept u v) ++ (messages (s.held u v) ++ l))) (sym (apps_sending s.channel p q (s.so_far.rows + 1) u v)) (at_test (u == p && v == q))
  where
    at_test : (b : Bool) → P (messages (s.kept u v) ++ (messages (s.held u v) ++ (if b then messages (s.channel u v) ++ (s.so_far.rows + 1) ∷ [] else messages (s.channel u v))))
    at_test false = old
    at_test true = subst P (append_assoc (messages (s.kept u v)) (way s.channel s.held u v) ((s.so_far.rows + 1) ∷ []) ∙ ap (λ (l : List ℕ). messages (s.kept u v) ++ l) (append_assoc (messages (s.held u v)) (messages (s.channel u v)) ((s.so_far.rows + 1) ∷ []))) new

pub way_pushed : (s : State) (p q : ℕ) → (P : List ℕ → Type 0) (u v : ℕ) → P (way s.channel s.held u v) → P (way s.channel s.held u v ++ (s.so_far.rows + 1) ∷ []) → P (way (with_parcel s.channel p q (App (s.so_far.rows + 1))) s.held u v)
way_pushed s p q P u v old new = subst (λ (l : List ℕ). P (messages (s.held u v) ++ l)) (sym (apps_sending s.channel p q (s.so_far.rows + 1) u v)) (at_test (u == p && v == q))
  where
    at_test : (b : Bool) → P (messages (s.held u v) ++ (if b then messages (s.channel u v) ++ (s.so_far.rows + 1) ∷ [] else messages (s.channel u v)))
    at_test false = old
    at_test true = subst P (append_assoc (messages (s.held u v)) (messages (s.channel u v)) ((s.so_far.rows + 1) ∷ [])) new

-- m of q is the first that is in transit to p, and is taken out
pub record Front (s : State) (channel held : Lists) (p q m : ℕ) : Type 0 where
  pub here : way s.channel s.held q p ≡ m ∷ way channel held q p
  pub other : (u v : ℕ) → (u == q && v == p) ≡ false → way channel held u v ≡ way s.channel s.held u v

pub way_less : (s : State) (channel held : Lists) (p q m : ℕ) → Front s channel held p q m → (u v : ℕ) → Thin (way channel held u v) (way s.channel s.held u v)
way_less s channel held p q m f u v = at_test (u == q && v == p) refl
  where
    at_test : (b : Bool) → (u == q && v == p) ≡ b → Thin (way channel held u v) (way s.channel s.held u v)
    at_test true e = let b = both (u == q) (v == p) e in rw (same u q b.0, same v p b.1) (subst (λ (l : List ℕ). Thin (way channel held q p) l) (sym f.here) (inl (thin_all (way channel held q p))))
    at_test false e = subst (λ (l : List ℕ). Thin l (way s.channel s.held u v)) (sym (f.other u v e)) (thin_all (way s.channel s.held u v))

-- a message that is received stays in its line
pub line_moved : (s : State) (channel held : Lists) (p q m : ℕ) → Front s channel held p q m → (u v : ℕ) → line channel held (with_parcel s.kept q p (App m)) u v ≡ line s.channel s.held s.kept u v
line_moved s channel held p q m f u v = ap (λ (l : List ℕ). l ++ way channel held u v) (apps_sending s.kept q p m u v) ∙ at_test (u == q && v == p) refl
  where
    at_test : (b : Bool) → (u == q && v == p) ≡ b → (if b then messages (s.kept u v) ++ m ∷ [] else messages (s.kept u v)) ++ way channel held u v ≡ line s.channel s.held s.kept u v
    at_test true e = let b = both (u == q) (v == p) e in rw (same u q b.0, same v p b.1)
        (append_assoc (messages (s.kept q p)) (m ∷ []) (way channel held q p) ∙ ap (λ (l : List ℕ). messages (s.kept q p) ++ l) (sym f.here))
    at_test false e = ap (λ (l : List ℕ). messages (s.kept u v) ++ l) (f.other u v e)

pub front_of_channel : (s : State) (p q m : ℕ) (rest : List Parcel) → s.channel q p ≡ App m ∷ rest → s.held q p ≡ [] → Front s (with_rest s.channel q p rest) s.held p q m
front_of_channel s p q m rest e none = record {
  here = rw none (apps_taken s.channel q p m rest e);
  other = λ u v d. ap (λ (l : List ℕ). messages (s.held u v) ++ l) (apps_left s.channel q p rest u v d);
}

pub front_of_held : (s : State) (p q m : ℕ) (rest : List Parcel) → s.held q p ≡ App m ∷ rest → Front s s.channel (with_rest s.held q p rest) p q m
front_of_held s p q m rest e = record {
  here = ap (λ (l : List ℕ). l ++ messages (s.channel q p)) (apps_taken s.held q p m rest e);
  other = λ u v d. ap (λ (l : List ℕ). l ++ messages (s.channel u v)) (apps_left s.held q p rest u v d);
}

-- a message that is held stays in its way
pub way_held : (s : State) (p q m : ℕ) (rest : List Parcel) → s.channel q p ≡ App m ∷ rest → (u v : ℕ) → way (with_rest s.channel q p rest) (with_parcel s.held q p (App m)) u v ≡ way s.channel s.held u v
way_held s p q m rest e u v = ap (λ (l : List ℕ). l ++ messages (with_rest s.channel q p rest u v)) (apps_sending s.held q p m u v) ∙ at_test (u == q && v == p) refl
  where
    at_test : (b : Bool) → (u == q && v == p) ≡ b → (if b then messages (s.held u v) ++ m ∷ [] else messages (s.held u v)) ++ messages (with_rest s.channel q p rest u v) ≡ way s.channel s.held u v
    at_test true t = let b = both (u == q) (v == p) t in rw (same u q b.0, same v p b.1)
        (append_assoc (messages (s.held q p)) (m ∷ []) (messages (with_rest s.channel q p rest q p)) ∙ ap (λ (l : List ℕ). messages (s.held q p) ++ l) (sym (apps_taken s.channel q p m rest e)))
    at_test false t = ap (λ (l : List ℕ). messages (s.held u v) ++ l) (apps_left s.channel q p rest u v t)

pub law_holding : (s : State) (p q m : ℕ) (rest : List Parcel) → s.channel q p ≡ App m ∷ rest → Law true s → Lawful true s.log (past s.log) s.so_far (with_rest s.channel q p rest) (with_parcel s.held q p (App m)) s.kept s.up s.instances s.initiator
law_holding s p q m rest e l = law_ways true s.log (past s.log) s.so_far s.channel s.held s.kept s.up s.instances s.initiator (with_rest s.channel q p rest) (with_parcel s.held q p (App m)) (way_held s p q m rest e) l
