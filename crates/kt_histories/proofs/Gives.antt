-- What holds of the value that there is, and what follows from it.
use Rattle.std.specs.Prelude.{Option, Some, None, Result, Ok, Err, IfOk, IfNone, IfSome}

pub some_gives : {X : Type 0} (o : Option X) (P Q : X → Type 0) → ((x : X) → P x → Q x) → IfSome o P → IfSome o Q
some_gives None P Q f h = tt
some_gives (Some x) P Q f h = f x h

pub ok_gives : {X E : Type 0} (r : Result X E) (P Q : X → Type 0) → ((x : X) → P x → Q x) → IfOk r P → IfOk r Q
ok_gives (Ok x) P Q f h = f x h
ok_gives (Err e) P Q f h = tt

pub if_none : {X : Type 0} (o : Option X) (P : Type 0) → P → IfNone o P
if_none None P h = h
if_none (Some x) P h = tt

pub none_gives : {X : Type 0} (o : Option X) (P Q : Type 0) → (P → Q) → IfNone o P → IfNone o Q
none_gives None P Q f h = f h
none_gives (Some x) P Q f h = tt
