-- What a page's marks are drawn by.
use Rattle.std.specs.Prelude.{ℕ, List}
use Rattle.kt_spacetime.specs.declared.event.Event.{Event}
use Rattle.kt_picture.specs.declared.rows.Page.{Page}
use Rattle.kt_picture.specs.Evidence.{reason_of}
use Rattle.kt_picture.specs.Links.{link_at}
use Rattle.kt_picture.specs.View.{View}

-- why a process took part that joins an instance by a row
abbrev pub reason_in : Page → Event → List ℕ
reason_in page row = reason_of page.names.now page.rows.now page.certificates.now row

abbrev pub view_in : Page → View
view_in page = record {
  names = page.names.now;
  lanes = page.lanes.now;
  before = page.sheet.now.before;
  columns = page.columns;
  right = page.right;
  shown = page.sheet.now.shown.items;
  cuts = page.sheet.now.cuts.items;
  ends = page.sheet.now.ends.items;
  breach = page.breach;
  link = λ msg. link_at page.links.now msg;
  orphan = page.orphan;
  reason = reason_in page;
}
