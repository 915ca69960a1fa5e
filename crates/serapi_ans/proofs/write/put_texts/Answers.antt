use Rattle.serapi_ans.proofs.Putting.{put_object_list}
use Rattle.serapi_ans.proofs.write.put_texts.Goals as goal

pub returns : goal.returns
returns g c = put_object_list c.args.texts.now c.put.ensures c.put_strings.ensures c.put-2.ensures
