-- What is said of answers in one view of a seat is said in another, which stands for it.
use Rattle.std.proofs.Common.{ℕ, List, [], ◌∷◌, Option, inl, inr, ap, sym, subst}
use Rattle.http_session.specs.Requests.{Framed, Item, Asks, Refuses}
use Rattle.http_session.specs.Talk.{Answer, Answered, May, Run}
use Rattle.http_session.specs.Ends.{IsEnd, IsTalk}
use Rattle.http_session.specs.declared.request.Fault.{Fault}
use Rattle.http_session.specs.declared.session.SessionEnd.{SessionEnd}
use Rattle.http_session.specs.declared.session.SessionEnd.TheVariants.{Closed, SourceFault, SinkFault, Memory}

-- `Ahead` goes on from a view to the next, `Behind` from a view to the one before; where both hold, an answer is carried over
pub record IsCarried {S T : Type 0} (may : May S) (must : May T) (f : S → T) (Ahead Behind : S → Type 0) : Type 0 where
  pub ahead : (s : S) (r : Framed) (a : Answer) (t : S) → may.answers s r a t → Ahead s → Ahead t
  pub behind : (s : S) (r : Framed) (a : Answer) (t : S) → may.answers s r a t → Behind t → Behind s
  pub carry : (s : S) (r : Framed) (a : Answer) (t : S) → may.answers s r a t → Ahead s → Behind t → must.answers (f s) r a (f t)
  pub refuse : (fault : Fault) (a : Answer) → may.refuses fault a → must.refuses fault a

module _ {S T : Type 0} (may : May S) (must : May T) (f : S → T) (Ahead Behind : S → Type 0) (k : IsCarried may must f Ahead Behind) where
  item_ahead : (s : S) (item : Item) (a : Answer) (t : S) → Answered may s item a t → Ahead s → Ahead t
  item_ahead s (Asks r) a t h x = k.ahead s r a t h x
  item_ahead s (Refuses fault) a t h x = subst Ahead (sym h.1) x

  item_behind : (s : S) (item : Item) (a : Answer) (t : S) → Answered may s item a t → Behind t → Behind s
  item_behind s (Asks r) a t h y = k.behind s r a t h y
  item_behind s (Refuses fault) a t h y = subst Behind h.1 y

  item_carried : (s : S) (item : Item) (a : Answer) (t : S) → Answered may s item a t → Ahead s → Behind t → Answered must (f s) item a (f t)
  item_carried s (Asks r) a t h x y = k.carry s r a t h x y
  item_carried s (Refuses fault) a t h x y = (k.refuse fault a h.0, ap f h.1)

  run_ahead : (s : S) (items : List Item) (answers : List Answer) (t : S) → Run may s items answers t → Ahead s → Ahead t
  run_ahead s [] [] t h x = subst Ahead (sym h) x
  run_ahead s [] (a ∷ bs) t h x = absurd h
  run_ahead s (i ∷ is) [] t h x = absurd h
  run_ahead s (i ∷ is) (a ∷ bs) t h x = run_ahead h.0 is bs t h.2 (item_ahead s i a h.0 h.1 x)

  run_behind : (s : S) (items : List Item) (answers : List Answer) (t : S) → Run may s items answers t → Behind t → Behind s
  run_behind s [] [] t h y = subst Behind h y
  run_behind s [] (a ∷ bs) t h y = absurd h
  run_behind s (i ∷ is) [] t h y = absurd h
  run_behind s (i ∷ is) (a ∷ bs) t h y = item_behind s i a h.0 h.1 (run_behind h.0 is bs t h.2 y)

  pub run_carried : (s : S) (items : List Item) (answers : List Answer) (t : S) → Run may s items answers t → Ahead s → Behind t → Run must (f s) items answers (f t)
  run_carried s [] [] t h x y = ap f h
  run_carried s [] (a ∷ bs) t h x y = absurd h
  run_carried s (i ∷ is) [] t h x y = absurd h
  run_carried s (i ∷ is) (a ∷ bs) t h x y =
      (f h.0, item_carried s i a h.0 h.1 x (run_behind h.0 is bs t h.2 y), run_carried h.0 is bs t h.2 (item_ahead s i a h.0 h.1 x) y)

  talk_carried : (s t : S) (old new : Option (List ℕ)) (items : List Item) → IsTalk may s t old new items → Ahead s → Behind t → IsTalk must (f s) (f t) old new items
  talk_carried s t old new items h x y = record { answers = h.answers; run = run_carried s items h.answers t h.run x y; told = h.told }

  pub end_carried : (s t : S) (old new : Option (List ℕ)) (bytes : List ℕ) (left : Option (List ℕ)) (how : SessionEnd)
      → IsEnd may s t old new bytes left how → Ahead s → Behind t → IsEnd must (f s) (f t) old new bytes left how
  end_carried s t old new bytes left (Closed n) h x y =
      record { items = h.items; all = h.all; count = h.count; talk = talk_carried s t old new h.items h.talk x y }
  end_carried s t old new bytes left SourceFault h x y =
      record { items = h.items; rest = h.rest; items_are = h.items_are; open_ = h.open_; unfinished = h.unfinished; talk = talk_carried s t old new h.items h.talk x y }
  end_carried s t old new bytes left SinkFault h x y =
      record {
        items = h.items;
        last = h.last;
        rest = h.rest;
        mid = h.mid;
        state = f h.state;
        answer = h.answer;
        items_are = h.items_are;
        talk = talk_carried s h.state old h.mid h.items h.talk x (item_behind h.state h.last h.answer t h.answered y);
        answered = item_carried h.state h.last h.answer t h.answered (run_ahead s h.items h.talk.answers h.state h.talk.run x) y;
        front = h.front;
      }
  end_carried s t old new bytes left Memory h x y = elim h [
    | inl starved ↦ inl record { items = starved.items; rest = starved.rest; items_are = starved.items_are; open_ = starved.open_; talk = talk_carried s t old new starved.items starved.talk x y }
    | inr lost ↦ inr record {
      items = lost.items;
      last = lost.last;
      rest = lost.rest;
      state = f lost.state;
      answer = lost.answer;
      items_are = lost.items_are;
      talk = talk_carried s lost.state old new lost.items lost.talk x (item_behind lost.state lost.last lost.answer t lost.answered y);
      answered = item_carried lost.state lost.last lost.answer t lost.answered (run_ahead s lost.items lost.talk.answers lost.state lost.talk.run x) y;
    }
  ]

  pub end_ahead : (s t : S) (old new : Option (List ℕ)) (bytes : List ℕ) (left : Option (List ℕ)) (how : SessionEnd)
      → IsEnd may s t old new bytes left how → Ahead s → Ahead t
  end_ahead s t old new bytes left (Closed n) h x = run_ahead s h.items h.talk.answers t h.talk.run x
  end_ahead s t old new bytes left SourceFault h x = run_ahead s h.items h.talk.answers t h.talk.run x
  end_ahead s t old new bytes left SinkFault h x = item_ahead h.state h.last h.answer t h.answered (run_ahead s h.items h.talk.answers h.state h.talk.run x)
  end_ahead s t old new bytes left Memory h x = elim h [
    | inl starved ↦ run_ahead s starved.items starved.talk.answers t starved.talk.run x
    | inr lost ↦ item_ahead lost.state lost.last lost.answer t lost.answered (run_ahead s lost.items lost.talk.answers lost.state lost.talk.run x)
  ]

  pub end_behind : (s t : S) (old new : Option (List ℕ)) (bytes : List ℕ) (left : Option (List ℕ)) (how : SessionEnd)
      → IsEnd may s t old new bytes left how → Behind t → Behind s
  end_behind s t old new bytes left (Closed n) h y = run_behind s h.items h.talk.answers t h.talk.run y
  end_behind s t old new bytes left SourceFault h y = run_behind s h.items h.talk.answers t h.talk.run y
  end_behind s t old new bytes left SinkFault h y = run_behind s h.items h.talk.answers h.state h.talk.run (item_behind h.state h.last h.answer t h.answered y)
  end_behind s t old new bytes left Memory h y = elim h [
    | inl starved ↦ run_behind s starved.items starved.talk.answers t starved.talk.run y
    | inr lost ↦ run_behind s lost.items lost.talk.answers lost.state lost.talk.run (item_behind lost.state lost.last lost.answer t lost.answered y)
  ]
