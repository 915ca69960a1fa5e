use Rattle.std.proofs.Common.{◌∙◌, ap, arith, Some}
use Rattle.sexp_core.proofs.WholeTexts.{decided}
use Rattle.sexp_core.proofs.read_back.only_candidate.Goals as goal

pub returns-in-Some-Value : goal.returns-in-Some-Value
returns-in-Some-Value c =
    let next = c.in_ok-sexp.ensures in
    decided c.next.new.self (record {
      new = c.in_ok-reader.ensures;
      fed_bytes = c.in_ok-feed.ensures.fed;
      fed_line = c.in_ok-feed-2.ensures.fed;
      short = omega arith;
    }) next.given next.of_bytes next.shallow
    (c.in-Some-Value.is ∙ ap Some c.in-Some-Value.field-0-is)

pub returns-in-Some-Bad : goal.returns-in-Some-Bad
returns-in-Some-Bad c =
    let next = c.in_ok-sexp.ensures in
    decided c.next.new.self (record {
      new = c.in_ok-reader.ensures;
      fed_bytes = c.in_ok-feed.ensures.fed;
      fed_line = c.in_ok-feed-2.ensures.fed;
      short = omega arith;
    }) next.given next.of_bytes next.shallow
    (c.in-Some-Bad.is ∙ ap Some c.in-Some-Bad.field-0-is)

pub returns : goal.returns
returns c =
    let next = c.in_ok-sexp.ensures in
    decided c.next.new.self (record {
      new = c.in_ok-reader.ensures;
      fed_bytes = c.in_ok-feed.ensures.fed;
      fed_line = c.in_ok-feed-2.ensures.fed;
      short = omega arith;
    }) next.given next.of_bytes next.shallow c.in-None.is
