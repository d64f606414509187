use Rattle.std.proofs.Common.{◌∙◌, ap}
use Rattle.rest_routes.specs.Routes.{rows_path}
use Rattle.rest_routes.proofs.Adding.{part_added}
use Rattle.rest_routes.proofs.table.add_part.Goals as goal

pub returns : goal.returns
returns c =
    part_added c.args.part c.as_str.result.now c.as_str-2.result.now c.args.table.now c.add_around.new.self c.add_around.result
    (c.as_str.ensures.value ∙ c.in_ok-front.ensures ∙ ap rows_path c.kind.ensures) (c.as_str-2.ensures.value ∙ c.in_ok-end.ensures) c.add_around.ensures.ok
