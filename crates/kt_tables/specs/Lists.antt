-- What tables are made of.
use Rattle.std.specs.Prelude.{◌≡◌, ℕ, Bool, List}
use Rattle.kt_tables.specs.Peers.{LabelTable, IsTable}
use Rattle.kt_tables.specs.States.{State}
use Rattle.kt_tables.specs.declared.lists.TableLists.{TableLists}

abbrev pub table_of : ℕ → List (ℕ × ℕ) → LabelTable
table_of n pairs = record { peers = n; pairs = pairs }

-- the tables of these lists, for n processes
abbrev pub state_of : ℕ → Bool → TableLists → State
state_of n is_tentative lists = record {
  processes = n;
  is_tentative = is_tentative;
  last_rcvd = table_of n lists.last_rcvd.now;
  first_sent = table_of n lists.first_sent.now;
  kept_rcvd = table_of n lists.kept_rcvd.now;
  kept_sent = table_of n lists.kept_sent.now;
  last_sent = table_of n lists.last_sent.now;
  last_out = table_of n lists.last_out.now;
}

-- each list is that of a table
pub record AreTables (n : ℕ) (lists : TableLists) : Type 0 where
  pub last_rcvd : IsTable 0 n lists.last_rcvd.now
  pub first_sent : IsTable 0 n lists.first_sent.now
  pub kept_rcvd : IsTable 0 n lists.kept_rcvd.now
  pub kept_sent : IsTable 0 n lists.kept_sent.now
  pub last_sent : IsTable 0 n lists.last_sent.now
  pub last_out : IsTable 0 n lists.last_out.now
