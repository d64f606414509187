use Rattle.http_session.proofs.ItemLemmas.{items_in_all}
use Rattle.http_session.proofs.laws.more_bytes.Goals as goal

pub returns : goal.returns
returns c = λ n bytes more items rest are. items_in_all n bytes more ⊥ ⊥ items rest (λ never. absurd never) are
