-- What is on the output where a session closed.
use Rattle.std.proofs.Common.{◌≡◌, ℕ, List, [], ◌++◌, Option, Some, None, IfSome, sym, ◌∙◌, ap, subst}
use Rattle.std.specs.Io.KnownBytes.{Appends}
use Rattle.http_session.specs.Ends.{IsEnd}
use Rattle.http_session.specs.Requests.{AreAllItems, Item}
use Rattle.http_session.specs.Steps.{Grown}
use Rattle.http_session.specs.Talk.{Answer, May, Run, texts}
use Rattle.http_session.specs.declared.session.SessionEnd.TheVariants.{Closed}
use Rattle.http_session.proofs.ItemLemmas.{all_in_all}

-- the output has the answers to all requests of the whole input
pub prints : {V : Type 0} (may : May V) (first last : V) (left_old left_new written_old written_new : Option (List ℕ)) (n : ℕ) (bytes : List ℕ)
    → Grown left_old left_new [] bytes → IsEnd may first last written_old written_new bytes left_new (Closed n)
    → IfSome left_old (λ input. (items : List Item) × (answers : List Answer) × (end_ : V)
    × AreAllItems input (Unit {0}) items × Run may first items answers end_ × Appends written_old written_new (texts items answers))
prints may first last None left_new written_old written_new n bytes grown said = tt
prints may first last (Some input) None written_old written_new n bytes grown said = absurd grown.consumes
prints may first last (Some input) (Some left) written_old written_new n bytes grown said =
    let whole : bytes ++ left ≡ input = ap (λ (t : List ℕ). t ++ left) grown.grown ∙ sym grown.consumes in (
      said.items,
      said.talk.answers,
      last,
      subst (λ (t : List ℕ). AreAllItems t (Unit {0}) said.items) whole (all_in_all bytes left (left ≡ []) (Unit {0}) said.items (λ none. (none, tt)) said.all),
      said.talk.run,
      said.talk.told,
    )
