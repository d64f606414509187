use Rattle.std.proofs.Common.{map}
use Rattle.serde_json.specs.View.{view}
use Rattle.pool_json.proofs.Recording.{list_made, list_refused}
use Rattle.pool_json.proofs.records.record_by_list.Goals as goal

pub returns-in-Ok-chosen_in-clause-record_ : goal.returns-in-Ok-chosen_in-clause-record_
returns-in-Ok-chosen_in-clause-record_ c = list_made c.args.kind (map view c.args.list.now) c.in-Ok.field-0 c.in-Ok-chosen_in.items c.in-Ok.ensures c.in-Ok-chosen_in.ensures

pub returns-in-Err-chosen_in-clause-record_ : goal.returns-in-Err-chosen_in-clause-record_
returns-in-Err-chosen_in-clause-record_ c =
    list_refused c.args.kind (map view c.args.list.now) c.in-Ok.field-0 c.in-Err-chosen_in.refusal c.in-Ok.ensures c.in-Err-chosen_in.ensures
