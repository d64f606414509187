use Rattle.std.proofs.Common.{◌≡◌, []}
use Rattle.http_session.proofs.ItemLemmas.{all_in_all}
use Rattle.http_session.proofs.laws.cut_anywhere.Goals as goal

pub returns : goal.returns
returns c = λ taken left items all. all_in_all taken left (left ≡ []) (Unit {0}) items (λ none. (none, tt)) all
