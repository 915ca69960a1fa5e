use Rattle.std.proofs.Common.{◌≡◌, length, false}
use Rattle.sexp_theory.specs.Items.{end_offset, items_of, most_bytes}
use Rattle.session_run.specs.Items.{has_quit}
use Rattle.session_run.specs.Serving.{EndsAlike, Went, midway}
use Rattle.session_run.proofs.serve.answer_items.Given as goal

abbrev pub decreases-items : goal.decreases-items
decreases-items g l = length (items_of most_bytes false l.reader.unread)

abbrev pub invariant-items : goal.invariant-items
invariant-items g l = let P = g.P.Party in record {
  went : Went (midway (P.asked l.fn.party) l.fn.reader.unread) (midway (P.asked l.party) l.reader.unread);
  ends : EndsAlike l.fn.reader.unread l.reader.unread;
  offset : end_offset l.reader.unread ≡ end_offset l.fn.reader.unread;
  limit : l.reader.limit ≡ most_bytes;
  going : has_quit (P.asked l.party) ≡ false;
  whole : P.left l.party ≡ false;
  ready : P.ready l.party;
  clean : P.clean l.party;
  goes_on : P.goes_on l.fn.party l.party;
}
