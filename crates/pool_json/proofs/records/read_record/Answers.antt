use Rattle.std.proofs.Common.{◌≡◌, List, Some, sym, ◌∙◌, ap, map}
use Rattle.serde_json.specs.declared.value.Value.{Value}
use Rattle.serde_json.specs.Find.{as_array}
use Rattle.serde_json.specs.View.{view, items_of}
use Rattle.pool_json.proofs.Recording.{record_by_list, record_of_none}
use Rattle.pool_json.proofs.records.read_record.Goals as goal

pub returns-in-Err-clause-record_ : goal.returns-in-Err-clause-record_
returns-in-Err-clause-record_ c = record_of_none c.args.kind c.args.body.now c.in-Err.refusal c.in-Err.ensures.err

pub returns-in-Some-clause-record_ : goal.returns-in-Some-clause-record_
returns-in-Some-clause-record_ c =
    let listed : as_array (view c.in-Ok.value) ≡ Some (items_of (map view c.as_slice.result.now)) =
    sym c.in-Some.ensures ∙ ap (λ (values : List Value). Some (items_of (map view values))) (sym c.as_slice.ensures.value) in
    record_by_list c.args.kind c.args.body.now (view c.in-Ok.value) (map view c.as_slice.result.now) c.record_by_list.result c.in-Ok.ensures.ok listed c.record_by_list.ensures.record_
