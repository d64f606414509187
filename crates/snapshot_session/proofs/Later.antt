-- What each answer leaves later than it was is later at the end of a session.
use Rattle.std.proofs.Common.{◌≡◌, ℕ, List, [], ◌∷◌, Option, inl, inr}
use Rattle.http_session.specs.Requests.{Framed, Item, Asks, Refuses}
use Rattle.http_session.specs.Talk.{Answer, Answered, May, Run}
use Rattle.http_session.specs.Ends.{IsEnd}
use Rattle.http_session.specs.declared.session.SessionEnd.{SessionEnd}
use Rattle.http_session.specs.declared.session.SessionEnd.TheVariants.{Closed, SourceFault, SinkFault, Memory}

-- an order of what is seen, which each answer goes along
pub record IsAlong {S : Type 0} (may : May S) (Later : S → S → Type 0) : Type 0 where
  pub same : (s t : S) → t ≡ s → Later s t
  pub trans : (s mid t : S) → Later s mid → Later mid t → Later s t
  pub step : (s : S) (r : Framed) (a : Answer) (t : S) → may.answers s r a t → Later s t

module _ {S : Type 0} (may : May S) (Later : S → S → Type 0) (k : IsAlong may Later) where
  item_later : (s : S) (item : Item) (a : Answer) (t : S) → Answered may s item a t → Later s t
  item_later s (Asks r) a t h = k.step s r a t h
  item_later s (Refuses fault) a t h = k.same s t h.1

  run_later : (s : S) (items : List Item) (answers : List Answer) (t : S) → Run may s items answers t → Later s t
  run_later s [] [] t h = k.same s t h
  run_later s [] (a ∷ answers) t h = absurd h
  run_later s (item ∷ items) [] t h = absurd h
  run_later s (item ∷ items) (a ∷ answers) t h = k.trans s h.0 t (item_later s item a h.0 h.1) (run_later h.0 items answers t h.2)

  pub end_later : (s t : S) (old new : Option (List ℕ)) (bytes : List ℕ) (left : Option (List ℕ)) (how : SessionEnd)
      → IsEnd may s t old new bytes left how → Later s t
  end_later s t old new bytes left (Closed n) h = run_later s h.items h.talk.answers t h.talk.run
  end_later s t old new bytes left SourceFault h = run_later s h.items h.talk.answers t h.talk.run
  end_later s t old new bytes left SinkFault h =
      k.trans s h.state t (run_later s h.items h.talk.answers h.state h.talk.run) (item_later h.state h.last h.answer t h.answered)
  end_later s t old new bytes left Memory h = elim h [
    | inl starved ↦ run_later s starved.items starved.talk.answers t starved.talk.run
    | inr lost ↦ k.trans s lost.state t (run_later s lost.items lost.talk.answers lost.state lost.talk.run) (item_later lost.state lost.last lost.answer t lost.answered)
  ]
