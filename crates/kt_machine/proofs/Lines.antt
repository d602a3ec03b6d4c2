-- What moves of parcels do to the line of messages from a sender to a receiver: a receipt and a hold leave it.
use Rattle.std.proofs.Common.{◌≡◌, ℕ, ◌+◌, Bool, true, false, List, [], ◌∷◌, ◌++◌, refl, arith, sym, ap, ap₂, ◌∙◌, append_assoc, append-nil}
use Rattle.std.specs.Prelude.{◌==◌, ◌&&◌, if◌then◌else◌}
use Rattle.std.proofs.lemmas.Bool.Decides.{nat_tests}
use Rattle.kt_spacetime.specs.declared.deeds.Deed.{Deed}
use Rattle.kt_spacetime.specs.declared.deeds.Deed.TheVariants as deed
use Rattle.kt_meaning.specs.Past.{at_one}
use Rattle.kt_protocol.specs.Parcels.{messages, Parcel, App, Lists, with_parcel, with_rest}
use Rattle.kt_protocol.specs.InTransit.{times, received_of}
use Rattle.kt_protocol.proofs.Updates.{is_same}
use Rattle.kt_protocol.proofs.Lines.{times_append, apps_append}
use Rattle.kt_machine.specs.States.{messages_between}
use Rattle.kt_machine.proofs.ReceivedMessages.{got_append}

same : (a b : ℕ) → (a == b) ≡ true → a ≡ b
same a b e = grind (arith, nat_tests)

-- what is received of u by one more receipt from q
got_one : (u m q : ℕ) (b : Bool) → (q == u) ≡ b → received_of u (deed.Received m q ∷ []) ≡ (if b then m ∷ [] else [])
got_one u m q b e = rw e refl

other_way : (u q : ℕ) → (u == q) ≡ false → (q == u) ≡ false
other_way u q e = grind (arith, nat_tests)

-- a message received from the channel, where nothing is held
pub line_received : (own : ℕ → List Deed) (channel held : Lists) (p q m : ℕ) (rest : List Parcel) → channel q p ≡ App m ∷ rest → held q p ≡ [] → (u v : ℕ) → messages_between (at_one p (own p ++ deed.Received m q ∷ []) own) (with_rest channel q p rest) held u v ≡ messages_between own channel held u v
unfolding with_rest
line_received own channel held p q m rest e n u v = go (v == p) refl (u == q) refl
  where
    go : (b : Bool) → (v == p) ≡ b → (c : Bool) → (u == q) ≡ c → received_of u (if b then own p ++ deed.Received m q ∷ [] else own v) ++ (messages (held u v) ++ messages (if c && b then rest else channel u v)) ≡ received_of u (own v) ++ (messages (held u v) ++ messages (channel u v))
    go false x true y = refl
    go false x false y = refl
    go true x false y = ap (λ (l : List ℕ). l ++ (messages (held u v) ++ messages (channel u v)))
        (got_append u (own p) (deed.Received m q ∷ []) ∙ (ap (λ (l : List ℕ). received_of u (own p) ++ l) (got_one u m q false (other_way u q y)) ∙ (append-nil (received_of u (own p)) ∙ ap (λ (z : ℕ). received_of u (own z)) (sym (same v p x)))))
    go true x true y =
        let a = same v p x in
        let b = same u q y in
        let h : messages (held u v) ≡ [] = ap₂ (λ (i j : ℕ). messages (held i j)) b a ∙ ap messages n in
        let c : messages (channel u v) ≡ m ∷ messages rest = ap₂ (λ (i j : ℕ). messages (channel i j)) b a ∙ ap messages e in
        let g : received_of u (own p ++ deed.Received m q ∷ []) ≡ received_of u (own v) ++ m ∷ [] = got_append u (own p) (deed.Received m q ∷ []) ∙ ap₂ (λ (k l : List ℕ). k ++ l) (ap (λ (z : ℕ). received_of u (own z)) (sym a)) (got_one u m q true (ap (λ (z : ℕ). q == z) b ∙ is_same q)) in
        ap₂ (λ (k l : List ℕ). k ++ (l ++ messages rest)) g h ∙ (append_assoc (received_of u (own v)) (m ∷ []) (messages rest) ∙ ap₂ (λ (k l : List ℕ). received_of u (own v) ++ (k ++ l)) (sym h) (sym c))

-- and from what is held
pub line_received_held : (own : ℕ → List Deed) (channel held : Lists) (p q m : ℕ) (rest : List Parcel) → held q p ≡ App m ∷ rest → (u v : ℕ) → messages_between (at_one p (own p ++ deed.Received m q ∷ []) own) channel (with_rest held q p rest) u v ≡ messages_between own channel held u v
unfolding with_rest
line_received_held own channel held p q m rest e u v = go (v == p) refl (u == q) refl
  where
    go : (b : Bool) → (v == p) ≡ b → (c : Bool) → (u == q) ≡ c → received_of u (if b then own p ++ deed.Received m q ∷ [] else own v) ++ (messages (if c && b then rest else held u v) ++ messages (channel u v)) ≡ received_of u (own v) ++ (messages (held u v) ++ messages (channel u v))
    go false x true y = refl
    go false x false y = refl
    go true x false y = ap (λ (l : List ℕ). l ++ (messages (held u v) ++ messages (channel u v)))
        (got_append u (own p) (deed.Received m q ∷ []) ∙ (ap (λ (l : List ℕ). received_of u (own p) ++ l) (got_one u m q false (other_way u q y)) ∙ (append-nil (received_of u (own p)) ∙ ap (λ (z : ℕ). received_of u (own z)) (sym (same v p x)))))
    go true x true y =
        let a = same v p x in
        let b = same u q y in
        let h : messages (held u v) ≡ m ∷ messages rest = ap₂ (λ (i j : ℕ). messages (held i j)) b a ∙ ap messages e in
        let g : received_of u (own p ++ deed.Received m q ∷ []) ≡ received_of u (own v) ++ m ∷ [] = got_append u (own p) (deed.Received m q ∷ []) ∙ ap₂ (λ (k l : List ℕ). k ++ l) (ap (λ (z : ℕ). received_of u (own z)) (sym a)) (got_one u m q true (ap (λ (z : ℕ). q == z) b ∙ is_same q)) in
        ap (λ (k : List ℕ). k ++ (messages rest ++ messages (channel u v))) g ∙ (append_assoc (received_of u (own v)) (m ∷ []) (messages rest ++ messages (channel u v)) ∙ ap (λ (k : List ℕ). received_of u (own v) ++ (k ++ messages (channel u v))) (sym h))

-- a message held
pub line_held : (own : ℕ → List Deed) (channel held : Lists) (p q m : ℕ) (rest : List Parcel) → channel q p ≡ App m ∷ rest → (u v : ℕ) → messages_between own (with_rest channel q p rest) (with_parcel held q p (App m)) u v ≡ messages_between own channel held u v
unfolding with_rest with_parcel
line_held own channel held p q m rest e u v = go (u == q && v == p) refl
  where
    both : (a b c d : ℕ) → (a == b && c == d) ≡ true → (a ≡ b) × (c ≡ d)
    both a b c d e = (grind (arith, nat_tests, e), grind (arith, nat_tests, e))

    go : (b : Bool) → (u == q && v == p) ≡ b → received_of u (own v) ++ (messages (if b then held u v ++ App m ∷ [] else held u v) ++ messages (if b then rest else channel u v)) ≡ received_of u (own v) ++ (messages (held u v) ++ messages (channel u v))
    go false x = refl
    go true x =
        let s = both u q v p x in
        let c : messages (channel u v) ≡ m ∷ messages rest = ap₂ (λ (i j : ℕ). messages (channel i j)) s.0 s.1 ∙ ap messages e in
        ap (λ (l : List ℕ). received_of u (own v) ++ l) (ap (λ (l : List ℕ). l ++ messages rest) (apps_append (held u v) (App m ∷ [])) ∙ (append_assoc (messages (held u v)) (m ∷ []) (messages rest) ∙ ap (λ (l : List ℕ). messages (held u v) ++ l) (sym c)))

-- a list of three parts
pub times_line : (m : ℕ) (own : ℕ → List Deed) (channel held : Lists) (u v : ℕ) → times m (messages_between own channel held u v) ≡ times m (received_of u (own v)) + (times m (messages (held u v)) + times m (messages (channel u v)))
times_line m own channel held u v = times_append m (received_of u (own v)) (messages (held u v) ++ messages (channel u v)) ∙ ap (λ (n : ℕ). times m (received_of u (own v)) + n) (times_append m (messages (held u v)) (messages (channel u v)))

-- a front of another message goes
pub times_popped : (m : ℕ) (channel : Lists) (q p n : ℕ) (rest : List Parcel) → channel q p ≡ App n ∷ rest → (n == m) ≡ false → (u v : ℕ) → times m (messages (with_rest channel q p rest u v)) ≡ times m (messages (channel u v))
unfolding with_rest
times_popped m channel q p n rest e d u v = go (u == q && v == p) refl
  where
    both : (a b c d : ℕ) → (a == b && c == d) ≡ true → (a ≡ b) × (c ≡ d)
    both a b c d e = (grind (arith, nat_tests, e), grind (arith, nat_tests, e))

    go : (b : Bool) → (u == q && v == p) ≡ b → times m (messages (if b then rest else channel u v)) ≡ times m (messages (channel u v))
    go false x = refl
    go true x =
        let s = both u q v p x in
        let c : times m (messages (channel u v)) ≡ (if n == m then 1 else 0) + times m (messages rest) = ap₂ (λ (i j : ℕ). times m (messages (channel i j))) s.0 s.1 ∙ ap (λ (l : List Parcel). times m (messages l)) e in
        let z : (if n == m then 1 else 0) + times m (messages rest) ≡ times m (messages rest) = rw d (omega arith) in
        sym (c ∙ z)
