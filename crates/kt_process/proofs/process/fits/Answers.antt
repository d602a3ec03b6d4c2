use Rattle.kt_process.proofs.process.fits.Goals as goal

pub returns-then-are_sent_up_to : goal.returns-then-are_sent_up_to
returns-then-are_sent_up_to c = λ up. (
  λ r. let s = c.suits.ensures.fits.0 r in record {
    few = c.suits.ensures.few;
    tentative = s.tentative;
    near = s.near;
    marked = s.marked;
    numbered = c.suits.ensures.numbered;
    used = c.are_sent_up_to.ensures.0 c.if-are_sent_up_to.true;
  },
  λ f. c.suits.ensures.fits.1 (record { tentative = f.tentative; near = f.near; marked = f.marked }),
)
