-- The rules of noting an ask, replying and answering.
use Rattle.std.specs.Prelude.{ℕ, ◌+◌, ◌==◌, ◌&&◌, if◌then◌else◌, Bool, true, false, List, [], ◌∷◌, ◌++◌}
use Rattle.kt_spacetime.specs.declared.event.Event.TheVariants.{Unwilling}
use Rattle.kt_base.specs.declared.words.Cause.{Cause}
use Rattle.kt_base.specs.declared.words.Cause.TheVariants.{Down, NoSave}
use Rattle.kt_meaning.specs.Past.{at_one, at_pair}
use Rattle.kt_protocol.specs.Parcels.{Parcel, Reply, with_parcel, with_rest}
use Rattle.kt_protocol.specs.Summary.{summary_after}
use Rattle.kt_protocol.specs.States.{State}

-- p notes the label of q's ask to join k
abbrev pub after_noting : State → ℕ → ℕ → ℕ → ℕ → State
after_noting s p q k label = record s {
  noted = λ i u v. if i == k && u == p && v == q then true else s.noted i u v;
  noted_label = λ i u v. if i == k && u == p && v == q then label else s.noted_label i u v;
}

-- p replies to q's ask at once
abbrev pub after_replying : State → ℕ → ℕ → ℕ → Bool → List Parcel → State
after_replying s p q k w rest = record s {
  channel = with_parcel (with_rest s.channel q p rest) p q (Reply k w);
  replies = at_one k (s.replies k + 1) s.replies;
  has_reply = λ i u v. if i == k && u == q && v == p then true else s.has_reply i u v;
}

-- why a process can't save: it is down, or its object can't be saved
abbrev pub unable_cause : Bool → Cause
unable_cause true = NoSave
unable_cause false = Down

-- p is unwilling to join k, and tells q so
abbrev pub after_unwilling : State → ℕ → ℕ → ℕ → Cause → List Parcel → State
after_unwilling s p q k cause rest = record s {
  log = s.log ++ Unwilling p k cause ∷ [];
  so_far = summary_after s.so_far (Unwilling p k cause);
  channel = with_parcel (with_rest s.channel q p rest) p q (Reply k false);
  replies = at_one k (s.replies k + 1) s.replies;
  has_reply = λ i u v. if i == k && u == q && v == p then true else s.has_reply i u v;
}

-- p takes q's reply
abbrev pub after_reply : State → ℕ → ℕ → ℕ → Bool → List Parcel → State
after_reply s p q k w rest = record s {
  channel = with_rest s.channel q p rest;
  awaits = λ i u v. if i == k && u == p && v == q then false else s.awaits i u v;
  all_willing = at_pair k p (s.all_willing k p && w) s.all_willing;
}

-- p answers its parent, willing where all replies to it were
abbrev pub after_answering : State → ℕ → ℕ → State
after_answering s p k = record s {
  channel = with_parcel s.channel p (s.parent k p) (Reply k (s.all_willing k p));
  replies = at_one k (s.replies k + 1) s.replies;
  has_reply = λ i u v. if i == k && u == s.parent k p && v == p then true else s.has_reply i u v;
  has_answered = at_pair k p true s.has_answered;
}
