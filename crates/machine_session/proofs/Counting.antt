-- What is said of answers in a view of a seat is said in one that has a count beside it, which each answer takes on.
use Rattle.std.proofs.Common.{ℕ, List, [], ◌∷◌, Option, inl, inr, ap}
use Rattle.http_session.specs.Requests.{Framed, Item, Asks, Refuses}
use Rattle.http_session.specs.Talk.{Answer, Answered, May, Run}
use Rattle.http_session.specs.Ends.{IsEnd}
use Rattle.http_session.specs.declared.request.Fault.{Fault}
use Rattle.http_session.specs.declared.session.SessionEnd.{SessionEnd}
use Rattle.http_session.specs.declared.session.SessionEnd.TheVariants.{Closed, SourceFault, SinkFault, Memory}

-- an answer from one view to the next is one from the view with each count to the next with some count
pub record IsTakenOn {S N T : Type 0} (may : May S) (must : May T) (f : S → N → T) : Type 0 where
  pub take : (s : S) (r : Framed) (a : Answer) (t : S) (n : N) → may.answers s r a t → (m : N) × must.answers (f s n) r a (f t m)
  pub refuse : (fault : Fault) (a : Answer) → may.refuses fault a → must.refuses fault a

module _ {S N T : Type 0} (may : May S) (must : May T) (f : S → N → T) (k : IsTakenOn may must f) where
  item_counted : (s : S) (item : Item) (a : Answer) (t : S) (n : N) → Answered may s item a t → (m : N) × Answered must (f s n) item a (f t m)
  item_counted s (Asks r) a t n h = k.take s r a t n h
  item_counted s (Refuses fault) a t n h = (n, (k.refuse fault a h.0, ap (λ x. f x n) h.1))

  run_counted : (s : S) (items : List Item) (answers : List Answer) (t : S) (n : N) → Run may s items answers t → (m : N) × Run must (f s n) items answers (f t m)
  run_counted s [] [] t n h = (n, ap (λ x. f x n) h)
  run_counted s [] (a ∷ bs) t n h = absurd h
  run_counted s (i ∷ is) [] t n h = absurd h
  run_counted s (i ∷ is) (a ∷ bs) t n h =
      let first = item_counted s i a h.0 n h.1 in
      let rest = run_counted h.0 is bs t first.0 h.2 in
      (rest.0, (f h.0 first.0, first.1, rest.1))

  pub end_counted : (s t : S) (n : N) (old new : Option (List ℕ)) (bytes : List ℕ) (left : Option (List ℕ)) (how : SessionEnd)
      → IsEnd may s t old new bytes left how → (m : N) × IsEnd must (f s n) (f t m) old new bytes left how
  end_counted s t n old new bytes left (Closed c) h =
      let r = run_counted s h.items h.talk.answers t n h.talk.run in
      (r.0, record { items = h.items; all = h.all; count = h.count; talk = record { answers = h.talk.answers; run = r.1; told = h.talk.told } })
  end_counted s t n old new bytes left SourceFault h =
      let r = run_counted s h.items h.talk.answers t n h.talk.run in (
        r.0,
        record { items = h.items; rest = h.rest; items_are = h.items_are; open_ = h.open_; unfinished = h.unfinished; talk = record { answers = h.talk.answers; run = r.1; told = h.talk.told } },
      )
  end_counted s t n old new bytes left SinkFault h =
      let r = run_counted s h.items h.talk.answers h.state n h.talk.run in
      let l = item_counted h.state h.last h.answer t r.0 h.answered in (
        l.0,
        record {
          items = h.items;
          last = h.last;
          rest = h.rest;
          mid = h.mid;
          state = f h.state r.0;
          answer = h.answer;
          items_are = h.items_are;
          talk = record { answers = h.talk.answers; run = r.1; told = h.talk.told };
          answered = l.1;
          front = h.front;
        },
      )
  end_counted s t n old new bytes left Memory h = elim h [
    | inl starved ↦ (let r = run_counted s starved.items starved.talk.answers t n starved.talk.run in (
      r.0,
      inl record { items = starved.items; rest = starved.rest; items_are = starved.items_are; open_ = starved.open_; talk = record { answers = starved.talk.answers; run = r.1; told = starved.talk.told } },
    ))
    | inr lost ↦ (let r = run_counted s lost.items lost.talk.answers lost.state n lost.talk.run in
        let l = item_counted lost.state lost.last lost.answer t r.0 lost.answered in (
          l.0,
          inr record {
            items = lost.items;
            last = lost.last;
            rest = lost.rest;
            state = f lost.state r.0;
            answer = lost.answer;
            items_are = lost.items_are;
            talk = record { answers = lost.talk.answers; run = r.1; told = lost.talk.told };
            answered = l.1;
          },
        ))
  ]
