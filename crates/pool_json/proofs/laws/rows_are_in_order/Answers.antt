use Rattle.std.proofs.Common.{refl}
use Rattle.pool_json.proofs.Written.{asns_in_order}
use Rattle.pool_json.proofs.laws.rows_are_in_order.Goals as goal

pub returns : goal.returns
returns c = record {
  ranges = λ row. refl;
  asns = asns_in_order;
  vlans = λ row. refl;
}
