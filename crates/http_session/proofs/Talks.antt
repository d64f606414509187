-- How a talk goes on, and how it ends.
use Rattle.std.proofs.Common.{◌≡◌, ◌∙◌, ◌+◌, ◌≤◌, ◌⊎◌, ◌||◌, nat_le, ℕ, Bool, true, false, List, [], ◌∷◌, ◌++◌, length, Option, Result, Ok, Err, OnOk, inl, inr, refl, sym, ap, subst, arith, append_assoc, append-nil, zero-add, length-append}
use Rattle.std.proofs.lemmas.List.{append_cancel_left}
use Rattle.std.specs.Io.KnownBytes.{Appends}
use Rattle.std.proofs.KnownBytes.{Appends-trans}
use Rattle.ipam_edge.specs.Writing.{AppendsLess}
use Rattle.http_session.specs.Requests.{AreItems, Framed, IsItem, IsRequest, IsUnfinished, Item, Asks, Refuses, closes}
use Rattle.http_session.specs.Fields.{asks_close}
use Rattle.http_session.specs.declared.reply.Reply.{Reply}
use Rattle.http_session.specs.Replies.{answer_of}
use Rattle.std.proofs.lemmas.Bool.Decides.{nat_tests}
use Rattle.http_session.specs.Steps.{IsReadWhile, next_number}
use Rattle.http_session.proofs.ItemLemmas.{all_open_more, ends_closed, items_more, items_wait}
use Rattle.http_session.specs.Talk.{Answer, Answered, May, Run, framed_text, is_head, texts, text_of}
use Rattle.http_session.specs.Turns.{HasNoMoreThan}
use Rattle.http_session.specs.Ends.{HasNoNext, IsBetween, IsLeft, IsLost, IsReadAsNeeded, IsClosed, IsCutShort, IsStarved, IsTalk, IsUnsaid}

pub run_more : {S : Type 0} (may : May S) (s : S) (items : List Item) (answers : List Answer) (t : S) (item : Item) (a : Answer) (u : S) → Run may s items answers t → Answered may t item a u → Run may s (items ++ item ∷ []) (answers ++ a ∷ []) u
run_more may s [] [] t item a u run h = (u, subst (λ x. Answered may x item a u) run h, refl)
run_more may s [] (b ∷ bs) t item a u run h = absurd run
run_more may s (i ∷ is) [] t item a u run h = absurd run
run_more may s (i ∷ is) (b ∷ bs) t item a u run h = (run.0, run.1, run_more may run.0 is bs t item a u run.2 h)

pub texts_more : {S : Type 0} (may : May S) (s : S) (items : List Item) (answers : List Answer) (t : S) (item : Item) (a : Answer) → Run may s items answers t → texts (items ++ item ∷ []) (answers ++ a ∷ []) ≡ texts items answers ++ text_of a item
texts_more may s [] [] t item a run = append-nil (text_of a item)
texts_more may s [] (b ∷ bs) t item a run = absurd run
texts_more may s (i ∷ is) [] t item a run = absurd run
texts_more may s (i ∷ is) (b ∷ bs) t item a run = ap (λ l. text_of b i ++ l) (texts_more may run.0 is bs t item a run.2) ∙ sym (append_assoc (text_of b i) (texts is bs) (text_of a item))

-- a request depends on no end
pub open_any : (n : ℕ) (bytes : List ℕ) (E F : Type 0) (item : Item) (rest : List ℕ) → closes item ≡ false → IsItem n bytes E item rest → IsItem n bytes F item rest
open_any n bytes E F (Asks r) rest o q = q
open_any n bytes E F (Refuses fault) rest o q = cc o

-- a reply in its frame
pub reply_text : (reply : Reply) (request : Framed) (bare : Bool) → bare ≡ is_head request.method
    → framed_text (answer_of reply) request.close bare ≡ text_of (answer_of reply) (Asks request)
reply_text reply request bare h = rw h refl

-- an item that leaves the connection open is not the 1,000th
by_or : (a b : Bool) → (a || b) ≡ false → b ≡ false
by_or true b h = cc h
by_or false b h = h

few_yet : (asks close : Bool) (n : ℕ) → close ≡ (asks || nat_le 999 n) → close ≡ false → n + 1 ≤ 999
few_yet asks close n e o = let late : nat_le 999 n ≡ false = by_or asks (nat_le 999 n) (sym e ∙ o) in grind (arith, nat_tests)

pub few_after : (n : ℕ) (bytes : List ℕ) (r : Framed) (rest : List ℕ) → IsRequest n bytes r rest → r.close ≡ false → n + 1 ≤ 999
few_after n bytes r rest q o = few_yet (asks_close q.head) r.close n q.close o

-- the inbox has counted one more
pub number_is : (n number : ℕ) → number ≡ next_number n → n ≤ 999 → number ≡ n + 1
number_is n number e few = omega arith

module _ {S : Type 0} (may : May S) (s t : S) (old now : Option (List ℕ)) (bytes rest : List ℕ) (n : ℕ) (so_far : IsBetween may s t old now bytes rest n) (got all : List ℕ) (is_all : all ≡ rest ++ got) where
  pub next_items : (E : Type 0) (item : Item) (kept : List ℕ) → IsItem n all E item kept → AreItems 0 (bytes ++ got) E (so_far.items ++ item ∷ []) kept
  next_items E item kept q =
      let number : n ≡ 0 + length so_far.items = so_far.count ∙ sym (zero-add (length so_far.items)) in
      items_more 0 bytes got rest ⊥ E so_far.items item kept so_far.open_ so_far.items_are
      (subst (λ (k : ℕ). IsItem k (rest ++ got) E item kept) number (subst (λ (b : List ℕ). IsItem n b E item kept) is_all q))

  pub waiting : (E : Type 0) → AreItems 0 (bytes ++ got) E so_far.items all
  waiting E = subst (AreItems 0 (bytes ++ got) E so_far.items) (sym is_all) (items_wait 0 bytes got rest ⊥ E so_far.items so_far.open_ so_far.items_are)

  pub counted : (item : Item) → n + 1 ≡ length (so_far.items ++ item ∷ [])
  counted item = omega (arith, so_far.count, length-append so_far.items (item ∷ []))

  unfoldable pub talked : (item : Item) (a : Answer) (u : S) (new : Option (List ℕ)) (text : List ℕ) → Appends now new text → text ≡ text_of a item → Answered may t item a u → IsTalk may s u old new (so_far.items ++ item ∷ [])
  talked item a u new text said e h =
      record {
        answers = so_far.talk.answers ++ a ∷ [];
        run = run_more may s so_far.items so_far.talk.answers t item a u so_far.talk.run h;
        told = subst (Appends old new) (sym (texts_more may s so_far.items so_far.talk.answers t item a so_far.talk.run)) (Appends-trans old now new _ _ so_far.talk.told (subst (Appends now new) e said));
      }

  -- no more was read than was needed
  pub still_needed : IsReadAsNeeded bytes → IsReadWhile IsUnfinished rest all → IsReadAsNeeded (bytes ++ got)
  still_needed read (inl none) =
      let nothing : got ≡ [] = append_cancel_left rest got [] (sym is_all ∙ none ∙ sym (append-nil rest)) in
      subst IsReadAsNeeded (sym (ap (λ l. bytes ++ l) nothing ∙ append-nil bytes)) read
  still_needed read (inr h) =
      let split : got ≡ h.more ++ h.last = append_cancel_left rest got (h.more ++ h.last) (sym is_all ∙ h.grown ∙ append_assoc rest h.more h.last) in
      inr (record {
        items = so_far.items;
        before = bytes ++ h.more;
        last = h.last;
        rest = rest ++ h.more;
        bytes_are = ap (λ l. bytes ++ l) split ∙ sym (append_assoc bytes h.more h.last);
        short = h.short;
        items_are = items_wait 0 bytes h.more rest ⊥ ⊥ so_far.items so_far.open_ so_far.items_are;
        open_ = so_far.open_;
        unfinished = h.before;
      })

  -- what is unfinished behind these items is no whole next item
  no_next : (more : List ℕ) → IsUnfinished (rest ++ more) → HasNoNext (bytes ++ more)
  no_next more h =
      record { items = so_far.items; rest = rest ++ more; items_are = items_wait 0 bytes more rest ⊥ ⊥ so_far.items so_far.open_ so_far.items_are; open_ = so_far.open_; unfinished = h }

  -- and what is unfinished behind the items that were answered is no whole item but those
  pub no_more : (more : List ℕ) → IsUnfinished (rest ++ more) → HasNoMoreThan (length so_far.items) (bytes ++ more)
  unfolding no_next
  no_more more h = record { next = no_next more h; count = refl }

  -- the next item was answered, and the connection stays open
  unfoldable pub goes_on : (E : Type 0) (item : Item) (kept : List ℕ) (a : Answer) (u : S) (new : Option (List ℕ)) (text : List ℕ) → IsItem n all E item kept → closes item ≡ false → n + 1 ≤ 999
      → Appends now new text → text ≡ text_of a item → Answered may t item a u → IsBetween may s u old new (bytes ++ got) kept (n + 1)
  goes_on E item kept a u new text q o few said e h =
      record {
        items = so_far.items ++ item ∷ [];
        items_are = next_items ⊥ item kept (open_any n all E ⊥ item kept o q);
        open_ = all_open_more so_far.items item so_far.open_ o;
        count = counted item;
        few = few;
        talk = talked item a u new text said e h;
      }

  -- it closes the connection
  pub closes_now : (E : Type 0) (item : Item) (kept : List ℕ) (a : Answer) (u : S) (new : Option (List ℕ)) (text : List ℕ) → IsItem n all E item kept → closes item ≡ true
      → Appends now new text → text ≡ text_of a item → Answered may t item a u → IsClosed may s u old new (bytes ++ got) E (n + 1)
  closes_now E item kept a u new text q c said e h =
      record {
        items = so_far.items ++ item ∷ [];
        all = record { rest = kept; items_are = next_items E item kept q; stop = inl (ends_closed so_far.items item c) };
        count = counted item;
        talk = talked item a u new text said e h;
      }

  -- its answer could not be written
  pub unsaid : (E : Type 0) (item : Item) (kept : List ℕ) (a : Answer) (u : S) (new : Option (List ℕ)) (text : List ℕ) → IsItem n all E item kept
      → AppendsLess now new text → text ≡ text_of a item → Answered may t item a u → IsUnsaid may s u old new (bytes ++ got) E
  unsaid E item kept a u new text q said e h =
      record {
        items = so_far.items;
        last = item;
        rest = kept;
        mid = now;
        state = t;
        answer = a;
        items_are = next_items E item kept q;
        talk = so_far.talk;
        answered = h;
        front = subst (AppendsLess now new) e said;
      }

  -- the input ended
  pub ends : (E : Type 0) → E → all ≡ [] → IsClosed may s t old now (bytes ++ got) E n
  ends E e none = record { items = so_far.items; all = record { rest = all; items_are = waiting E; stop = inr (e, none) }; count = so_far.count; talk = so_far.talk }

  -- the source failed
  pub cut_short : IsUnfinished all → IsCutShort may s t old now (bytes ++ got)
  cut_short u = record { items = so_far.items; rest = all; items_are = waiting ⊥; open_ = so_far.open_; unfinished = u; talk = so_far.talk }

  -- memory ran out
  pub starved : (u : S) → u ≡ t → IsStarved may s u old now (bytes ++ got)
  starved u e = record { items = so_far.items; rest = all; items_are = waiting ⊥; open_ = so_far.open_; talk = subst (λ x. IsTalk may s x old now so_far.items) (sym e) so_far.talk }

  -- memory ran out at a request
  pub starved_at : (E : Type 0) (r : Framed) (kept : List ℕ) (u : S) → IsItem n all E (Asks r) kept → IsLeft may t r u → IsStarved may s u old now (bytes ++ got) ⊎ IsLost may s u old now (bytes ++ got) E
  starved_at E r kept u q (inl e) = inl (starved u e)
  starved_at E r kept u q (inr (a, h)) =
      inr (record {
        items = so_far.items;
        last = Asks r;
        rest = kept;
        state = t;
        answer = a;
        items_are = next_items E (Asks r) kept q;
        talk = so_far.talk;
        answered = h;
      })

-- what holds anyway holds with an answer
pub with_answer : {T E P : Type 0} (result : Result T E) → P → OnOk result P
with_answer (Ok answer) holds = holds
with_answer (Err error) holds = tt
