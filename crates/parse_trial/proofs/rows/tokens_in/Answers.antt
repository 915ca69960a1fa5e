use Rattle.parse_trial.proofs.Sliced.{sliced}
use Rattle.parse_trial.proofs.rows.tokens_in.Goals as goal

pub returns : goal.returns
returns c = record {
  slices = sliced c.tokens.result c.args.text.now c.tokens.ensures (c.tokens_are_slices.ensures.each c.args.text.now);
  all = c.tokens.ensures;
}
