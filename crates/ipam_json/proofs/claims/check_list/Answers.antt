use Rattle.std.proofs.Common.{◌≢◌, length, sym, ◌∙◌, arith}
use Rattle.std.proofs.lemmas.Bool.Decides.{nat_tests}
use Rattle.serde_json.specs.View.{view}
use Rattle.ipam_json.proofs.Claimed.{checked_well, checked_ill}
use Rattle.ipam_json.proofs.claims.check_list.Goals as goal

pub returns-then-are_objects : goal.returns-then-are_objects
returns-then-are_objects c =
    let some : length c.args.list.now ≢ 0 = grind (arith, nat_tests) in
    checked_well view c.args.list.now some (sym c.are_objects.ensures ∙ c.if-are_objects.true)

pub returns : goal.returns
returns c =
    let some : length c.args.list.now ≢ 0 = grind (arith, nat_tests) in
    checked_ill view c.args.list.now some (sym c.are_objects.ensures ∙ c.if-are_objects.false)
