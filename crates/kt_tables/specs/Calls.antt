-- What lists of calls say. No code keeps such a list.
use Rattle.std.specs.Prelude.{◌≡◌, ℕ, ◌==◌, if◌then◌else◌, Bool, true, false, List, [], ◌∷◌, ◌++◌, fold}
use Rattle.kt_tables.specs.Labels.{LabelsRise}

-- a call that changes the tables of a process
pub data Call : Type 0 where
  sent : ℕ → ℕ → Call
  received : ℕ → ℕ → Call
  on_tentative : Call
  on_commit : Call
  on_abort : Call
  on_rollback : Call

-- a list of calls and what its parts are
pub record PartsOfCalls : Type 0 where
  -- the whole list
  pub calls : List Call
  -- the part after the last `on_rollback`
  pub since_rollback : List Call
  -- the part after the latest of these: the last `on_tentative` that no `on_abort` undid, the last `on_rollback`
  pub since : List Call
  -- the part up to the last `on_tentative` that an `on_commit` made permanent
  pub before : List Call
  -- whether the last `on_tentative` is neither committed nor aborted
  pub is_open : Bool
  -- while it is open: the list cut before it
  pub cut : List Call
  -- while it is open: *since* of the list cut before it, and the `on_tentative`
  pub aside : List Call

abbrev pub no_parts : PartsOfCalls
no_parts = record { calls = []; since_rollback = []; since = []; before = []; is_open = false; cut = []; aside = [] }

-- the parts after one more call
abbrev pub parts_after : PartsOfCalls → Call → PartsOfCalls
parts_after p (sent q l) =
    record p { calls = p.calls ++ sent q l ∷ []; since_rollback = p.since_rollback ++ sent q l ∷ []; since = p.since ++ sent q l ∷ [] }
parts_after p (received q l) =
    record p { calls = p.calls ++ received q l ∷ []; since_rollback = p.since_rollback ++ received q l ∷ []; since = p.since ++ received q l ∷ [] }
parts_after p on_tentative = record {
  calls = p.calls ++ on_tentative ∷ [];
  since_rollback = p.since_rollback ++ on_tentative ∷ [];
  since = [];
  before = p.before;
  is_open = true;
  cut = p.calls;
  aside = p.since ++ on_tentative ∷ [];
}
parts_after p on_commit = record {
  calls = p.calls ++ on_commit ∷ [];
  since_rollback = p.since_rollback ++ on_commit ∷ [];
  since = p.since ++ on_commit ∷ [];
  before = if p.is_open then p.cut else p.before;
  is_open = false;
  cut = [];
  aside = [];
}
parts_after p on_abort = record {
  calls = p.calls ++ on_abort ∷ [];
  since_rollback = p.since_rollback ++ on_abort ∷ [];
  since = p.aside ++ (p.since ++ on_abort ∷ []);
  before = p.before;
  is_open = false;
  cut = [];
  aside = [];
}
parts_after p on_rollback = record {
  calls = p.calls ++ on_rollback ∷ [];
  since_rollback = [];
  since = [];
  before = p.before;
  is_open = false;
  cut = [];
  aside = [];
}

abbrev pub parts : List Call → PartsOfCalls
parts calls = fold parts_after no_parts calls

-- the labels of the messages sent to a peer, in order
abbrev pub sents : ℕ → List Call → List ℕ
sents q [] = []
sents q (sent p l ∷ calls) = if p == q then l ∷ sents q calls else sents q calls
sents q (received p l ∷ calls) = sents q calls
sents q (on_tentative ∷ calls) = sents q calls
sents q (on_commit ∷ calls) = sents q calls
sents q (on_abort ∷ calls) = sents q calls
sents q (on_rollback ∷ calls) = sents q calls

-- the labels of the messages received from a peer, in order
abbrev pub receiveds : ℕ → List Call → List ℕ
receiveds q [] = []
receiveds q (sent p l ∷ calls) = receiveds q calls
receiveds q (received p l ∷ calls) = if p == q then l ∷ receiveds q calls else receiveds q calls
receiveds q (on_tentative ∷ calls) = receiveds q calls
receiveds q (on_commit ∷ calls) = receiveds q calls
receiveds q (on_abort ∷ calls) = receiveds q calls
receiveds q (on_rollback ∷ calls) = receiveds q calls

-- the lists that the tables answer for: labels are above 0 and rise, call by call and peer by peer, those of
-- `received` since the last `on_rollback`; and nothing is sent while a tentative checkpoint is open
pub record Speaks (calls : List Call) : Type 0 where
  pub sent_rise : (q : ℕ) → LabelsRise 0 (sents q calls)
  pub received_rise : (q : ℕ) → LabelsRise 0 (receiveds q (parts calls).since_rollback)
  pub apart : (front rest : List Call) (q l : ℕ) → calls ≡ front ++ sent q l ∷ rest → (parts front).is_open ≡ false
