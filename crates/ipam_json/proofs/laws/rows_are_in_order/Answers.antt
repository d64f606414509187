use Rattle.std.proofs.Common.{refl}
use Rattle.ipam_json.proofs.laws.rows_are_in_order.Goals as goal

pub returns : goal.returns
returns c = record {
  vrfs = λ row. refl;
  rirs = λ row. refl;
  roles = λ row. refl;
  aggregates = λ row. refl;
  prefixes = λ row depth children. refl;
  ranges = λ row. refl;
  addresses = λ row. refl;
}
