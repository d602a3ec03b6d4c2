-- What a read of a record leaves of the records.
use Rattle.std.proofs.Common.{◌≡◌, ◌∙◌, sym, ℕ, List, [], ◌∷◌, Option, Some, None, option_map, true, false, refl, IfSome}
use Rattle.csv.specs.Machine.{Read, next_record}
use Rattle.csv.specs.Reading.{ReadsNext, ReadRecord, NextIs, ExplainsRead, default_config, source_of, pending_of, is_flexible, stops_reader}
use Rattle.csv.specs.declared.error.ErrorKind.{ErrorKind}
use Rattle.csv.specs.declared.error.ErrorKind.TheVariants as kind
use Rattle.csv.specs.declared.parser.Config.{Config}
use Rattle.csv.specs.declared.parser.State.{State}
use Rattle.csv.specs.declared.reader.Reader.{Reader}
use Rattle.kt_text.specs.Records.{records_left, FieldsTaken, left_in}
use Rattle.kt_text.proofs.RecordFacts.{left-none, left-some}

some_go : (cfg : Config) (s s2 : State) (xs ys : List ℕ) (f : List (List ℕ)) (o : Option Read) → next_record cfg s [] [] xs ≡ o → NextIs o true f s2 ys
    → records_left cfg s xs ≡ f ∷ records_left cfg s2 ys
some_go cfg s s2 xs ys f None e n = cc n
some_go cfg s s2 xs ys f (Some p) e n = rw (n.1, n.2, n.3) (left-some cfg s xs p e)

none_go : (cfg : Config) (s s2 : State) (xs ys : List ℕ) (f : List (List ℕ)) (o : Option Read) → next_record cfg s [] [] xs ≡ o → NextIs o false f s2 ys
    → records_left cfg s xs ≡ []
none_go cfg s s2 xs ys f None e n = left-none cfg s xs e
none_go cfg s s2 xs ys f (Some p) e n = cc n.0

takes_go : (cfg : Config) (s s2 : State) (x k : Option (List ℕ)) (f : List (List ℕ)) → ReadsNext cfg s x k true f s2
    → FieldsTaken (option_map (λ bytes. records_left cfg s bytes) x) (option_map (λ bytes. records_left cfg s2 bytes) k) f
takes_go cfg s s2 None k f h = tt
takes_go cfg s s2 (Some xs) None f h = h
takes_go cfg s s2 (Some xs) (Some ys) f h = some_go cfg s s2 xs ys f _ refl h

ends_go : (cfg : Config) (s s2 : State) (x k : Option (List ℕ)) (f : List (List ℕ)) → ReadsNext cfg s x k false f s2
    → IfSome (option_map (λ bytes. records_left cfg s bytes) x) (λ left. left ≡ [])
ends_go cfg s s2 None k f h = tt
ends_go cfg s s2 (Some xs) None f h = absurd h
ends_go cfg s s2 (Some xs) (Some ys) f h = none_go cfg s s2 xs ys f _ refl h

-- a read that found a record
pub takes : {R : Type 0} (rem : R → Option (List ℕ)) (a b : Reader R) (f : List (List ℕ)) → a.config ≡ default_config → ReadRecord rem a b true f
    → FieldsTaken (left_in rem a) (left_in rem b) f
takes rem a b f set r = rw r.1 (takes_go default_config a.state b.state (source_of rem a) (pending_of (rem b.rdr) b) f (rw set at r.0))

-- a read that found none
pub ends : {R : Type 0} (rem : R → Option (List ℕ)) (a b : Reader R) (f : List (List ℕ)) → a.config ≡ default_config → ReadRecord rem a b false f
    → IfSome (left_in rem a) (λ left. left ≡ [])
ends rem a b f set r = ends_go default_config a.state b.state (source_of rem a) (pending_of (rem b.rdr) b) f (rw set at r.0)

-- where records may have any number of fields, every fault of a read of bytes stops the reader
pub stops : {R : Type 0} (rem : R → Option (List ℕ)) (a b : Reader R) (why : ErrorKind) → is_flexible a ≡ true → ExplainsRead rem a b false why → stops_reader why ≡ true
stops rem a b (kind.Io e) any h = refl
stops rem a b kind.OutOfMemory any h = refl
stops rem a b (kind.UnequalLengths pos expected len) any h = cc (sym any ∙ h.0)
stops rem a b (kind.Utf8 pos err) any h = cc h.0
stops rem a b (kind.Serialize text) any h = absurd h
stops rem a b (kind.Deserialize pos err) any h = absurd h
