use Rattle.reverse_zone.proofs.ZoneOrder.{zone_has_one_order}
use Rattle.reverse_zone.proofs.laws.zone_has_one_order.Goals as goal

pub returns : goal.returns
returns c = zone_has_one_order
