use Rattle.serapi_ans.proofs.Putting.{put_message_value}
use Rattle.serapi_ans.proofs.write.put_message.Goals as goal

pub returns : goal.returns
returns g c = put_message_value c.args.message.now c.put.ensures c.put_named.ensures c.put-2.ensures
