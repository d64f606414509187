use Rattle.http_session.proofs.ListLemmas.{one_list}
use Rattle.http_session.proofs.laws.one_list.Goals as goal

pub returns : goal.returns
returns c = (
  λ bytes items others x y. one_list 0 bytes (Unit {0}) items others x.rest y.rest x.items_are y.items_are x.stop y.stop,
  λ bytes items others x y. one_list 0 bytes ⊥ items others x.rest y.rest x.items_are y.items_are x.stop y.stop,
)
