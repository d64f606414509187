-- Laws of the items: more bytes change nothing that stands before them.
use Rattle.std.proofs.Common.{◌≡◌, ◌∙◌, ◌+◌, ◌≤◌, ◌⊎◌, ℕ, true, false, List, [], ◌∷◌, ◌++◌, length, take, Result, inl, inr, refl, sym, ap, subst, arith, append_assoc, append-nil, add-zero, zero, suc, length-append}
use Rattle.std.proofs.lemmas.List.{take-append-le}
use Rattle.http_session.specs.declared.request.Fault.{Fault}
use Rattle.http_session.specs.declared.request.Fault.TheVariants.{BadHead, LargeHead, LargeBody, Coding}
use Rattle.http_session.specs.Requests.{AllOpen, AreItems, AreAllItems, BeginsWithHead, EndsClosed, Framed, HasHead, HasLength, IsItem, IsRefused, IsRequest, Item, Asks, Refuses, MayBecomeHead, NeverHead, StopsShort, closes, front}
use Rattle.http_session.proofs.Items.{HasHead-append}

take_of_append : (k : ℕ) (xs ys : List ℕ) → (more : List ℕ) × (take k (xs ++ ys) ≡ take k xs ++ more)
take_of_append zero xs ys = ([], refl)
take_of_append (suc k) [] ys = (take (suc k) ys, refl)
take_of_append (suc k) (x ∷ xs) ys = let e = take_of_append k xs ys in (e.0, ap (λ l. x ∷ l) e.1)

-- what never becomes a head does not by going on
never_more : (bytes more : List ℕ) → NeverHead bytes → NeverHead (bytes ++ more)
never_more bytes more never = λ further h rest b. never (more ++ further) h rest (subst (λ t. BeginsWithHead t h rest) (append_assoc bytes more further) b)

length_more : (bytes more : List ℕ) (said : Result ℕ Fault) (rest : List ℕ) → HasLength bytes said rest → HasLength (bytes ++ more) said (rest ++ more)
length_more bytes more said rest h = (h.0, HasHead-append bytes more h.0 rest h.1, h.2)

request_more : (n : ℕ) (bytes more : List ℕ) (r : Framed) (rest : List ℕ) → IsRequest n bytes r rest → IsRequest n (bytes ++ more) r (rest ++ more)
request_more n bytes more r rest q =
    record {
      head = q.head;
      has = subst (HasHead (bytes ++ more) q.head) (append_assoc r.body rest more) (HasHead-append bytes more q.head (r.body ++ rest) q.has);
      said = q.said;
      method = q.method;
      target = q.target;
      close = q.close;
    }

refused_more : (bytes more : List ℕ) (E F : Type 0) (fault : Fault) → (E → (more ≡ []) × F) → IsRefused bytes E fault → IsRefused (bytes ++ more) F fault
refused_more bytes more E F BadHead end (inl never) = let e = take_of_append 16384 bytes more in inl (subst NeverHead (sym e.1) (never_more (front bytes) e.0 never))
refused_more bytes more E F BadHead end (inr (inl (rest, said))) = inr (inl (rest ++ more, length_more bytes more _ rest said))
refused_more bytes more E F BadHead end (inr (inr (e, short))) =
    let none = end e in
    inr (inr (none.1, subst StopsShort (sym (append-nil bytes) ∙ ap (λ l. bytes ++ l) (sym none.0)) short))
refused_more bytes more E F LargeHead end (long, may) =
    let longer : 16384 ≤ length (bytes ++ more) = omega (arith, length-append bytes more) in
    (longer, subst MayBecomeHead (sym (take-append-le 16384 bytes more long)) may)
refused_more bytes more E F LargeBody end (rest, said) = (rest ++ more, length_more bytes more _ rest said)
refused_more bytes more E F Coding end (rest, said) = (rest ++ more, length_more bytes more _ rest said)

-- an item stays where more bytes come, unless it is the end of the input that made it
pub item_more : (n : ℕ) (bytes more : List ℕ) (E F : Type 0) (item : Item) (rest : List ℕ) → (E → (more ≡ []) × F) → IsItem n bytes E item rest → IsItem n (bytes ++ more) F item (rest ++ more)
item_more n bytes more E F (Asks r) rest end q = request_more n bytes more r rest q
item_more n bytes more E F (Refuses fault) rest end q = (refused_more bytes more E F fault end q.0, ap (λ l. l ++ more) q.1)

-- a request depends on no end
pub open_more : (n : ℕ) (bytes more : List ℕ) (E F : Type 0) (item : Item) (rest : List ℕ) → closes item ≡ false → IsItem n bytes E item rest → IsItem n (bytes ++ more) F item (rest ++ more)
open_more n bytes more E F (Asks r) rest o q = request_more n bytes more r rest q
open_more n bytes more E F (Refuses fault) rest o q = cc o

-- one more item behind items that go on
pub items_more : (n : ℕ) (bytes got mid : List ℕ) (E F : Type 0) (items : List Item) (item : Item) (rest : List ℕ)
    → AllOpen items → AreItems n bytes E items mid → IsItem (n + length items) (mid ++ got) F item rest → AreItems n (bytes ++ got) F (items ++ item ∷ []) rest
items_more n bytes got mid E F [] item rest o all q =
    (rest, subst (λ (k : ℕ). IsItem k (bytes ++ got) F item rest) (add-zero n) (subst (λ (b : List ℕ). IsItem (n + 0) (b ++ got) F item rest) all q), (λ c. refl), refl)
items_more n bytes got mid E F (i ∷ is) item rest o all q =
    let count : n + suc (length is) ≡ (n + 1) + length is = omega arith in (
      all.0 ++ got,
      open_more n bytes got E F i all.0 o.0 all.1,
      (λ c. cc (c, o.0)),
      items_more (n + 1) all.0 got mid E F is item rest o.1 all.3 (subst (λ (k : ℕ). IsItem k (mid ++ got) F item rest) count q),
    )

-- more bytes behind items that go on
pub items_wait : (n : ℕ) (bytes got mid : List ℕ) (E F : Type 0) (items : List Item) → AllOpen items → AreItems n bytes E items mid → AreItems n (bytes ++ got) F items (mid ++ got)
items_wait n bytes got mid E F [] o all = ap (λ l. l ++ got) all
items_wait n bytes got mid E F (i ∷ is) o all =
    (all.0 ++ got, open_more n bytes got E F i all.0 o.0 all.1, (λ c. cc (c, o.0)), items_wait (n + 1) all.0 got mid E F is o.1 all.3)

pub ends_closed : (items : List Item) (item : Item) → closes item ≡ true → EndsClosed (items ++ item ∷ [])
ends_closed [] item c = c
ends_closed (i ∷ []) item c = c
ends_closed (i ∷ j ∷ is) item c = ends_closed (j ∷ is) item c

pub all_open_more : (items : List Item) (item : Item) → AllOpen items → closes item ≡ false → AllOpen (items ++ item ∷ [])
all_open_more [] item o c = (c, tt)
all_open_more (i ∷ is) item o c = (o.0, all_open_more is item o.1 c)

-- all of an input: what stands behind the item that closes is no item
pub items_in_all : (n : ℕ) (bytes more : List ℕ) (E F : Type 0) (items : List Item) (rest : List ℕ) → (E → (more ≡ []) × F) → AreItems n bytes E items rest → AreItems n (bytes ++ more) F items (rest ++ more)
items_in_all n bytes more E F [] rest end all = ap (λ l. l ++ more) all
items_in_all n bytes more E F (i ∷ is) rest end all =
    (all.0 ++ more, item_more n bytes more E F i all.0 end all.1, all.2, items_in_all (n + 1) all.0 more E F is rest end all.3)

pub all_in_all : (bytes more : List ℕ) (E F : Type 0) (items : List Item) → (E → (more ≡ []) × F) → AreAllItems bytes E items → AreAllItems (bytes ++ more) F items
all_in_all bytes more E F items end all =
    record {
      rest = all.rest ++ more;
      items_are = items_in_all 0 bytes more E F items all.rest end all.items_are;
      stop = elim all.stop as (λ _. EndsClosed items ⊎ (F × (all.rest ++ more ≡ []))) [
        | inl c ↦ inl c
        | inr e ↦ inr ((end e.0).1, ap (λ l. l ++ more) e.1 ∙ (end e.0).0)
      ];
    }
