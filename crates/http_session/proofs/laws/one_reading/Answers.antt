use Rattle.http_session.proofs.Unique.{one_reading}
use Rattle.http_session.proofs.laws.one_reading.Goals as goal

pub returns : goal.returns
returns c = (λ n bytes item other r q x y. one_reading n bytes (Unit {0}) item other r q x y, λ n bytes item other r q x y. one_reading n bytes ⊥ item other r q x y)
