-- What a server and a session say of their answers gives one flat list for each caller.
use Rattle.std.proofs.Common.{◌≡◌, ◌≤◌, ◌+◌, ℕ, All, Contains, List, [], ◌∷◌, ◌++◌, append-nil, append_assoc, map, Option, None, Some, IfSome, Result, Ok, Err, refl, sym, ap, ◌∙◌, subst, inl, inr}
use Rattle.std.specs.List.{AllByRecursion}
use Rattle.std.specs.Io.KnownBytes.{Appends, IsAtEnd}
use Rattle.std.proofs.lemmas.List.Elements.{All-from_recursion, recursion_from_All}
use Rattle.ipam_edge.specs.Writing.{AppendsFront}
use Rattle.ipam_listen.specs.Connections.{Connection, Ends, Returned}
use Rattle.history_lock.specs.Replies.{ReplyKind, accepted, fault, memory, plain, grown, rise_of}
use Rattle.http_session.specs.Requests.{AreItems, Asks, Framed, Item, Refuses}
use Rattle.http_session.specs.Talk.{Answer, Answered, May, Run, text_of, texts}
use Rattle.http_session.specs.Ends.{IsEnd, IsTalk}
use Rattle.http_session.specs.declared.session.SessionEnd.{SessionEnd}
use Rattle.http_session.specs.declared.session.SessionEnd.TheVariants.{Closed, SourceFault, SinkFault, Memory}
use Rattle.http_session.proofs.ItemLemmas.{items_in_all}
use Rattle.http_lanes.specs.Served.{AreServed}
use Rattle.machine_session.specs.Protocols.{Protocol}
use Rattle.machine_session.specs.Told.{IsAnswerIn, Standing, answers_in, newcomer}
use Rattle.machine_server.specs.History.{AreNumberedFrom, HasItsChanges, IsHistoryOf, IsShift, Shift}
use Rattle.machine_server.specs.History as server
use Rattle.machine_answers.specs.Answers.{AreInOrder, AreLanesOf, AreNumbered, AreWritten, Caller, Exchange, IsAnswered, IsHeld, IsRight, Talk, Told, changes_in, items_of, text_of_all, told_in, told_to, with_change, with_told}
use Rattle.machine_answers.specs.Laws.{HasCallers}

-- ---- lists

all_joined : {T : Type 0} (Q : T → Type 0) (xs ys : List T) → AllByRecursion Q xs → AllByRecursion Q ys → AllByRecursion Q (xs ++ ys)
all_joined Q [] ys p q = q
all_joined Q (x ∷ xs) ys p q = (p.0, all_joined Q xs ys p.1 q)

with_joined : {T : Type 0} (told : Option T) (all more rest : List T) → all ≡ more ++ rest → with_told told all ≡ with_told told more ++ rest
with_joined None all more rest e = e
with_joined (Some one) all more rest e = ap (λ xs. one ∷ xs) e

told_joined : {C R : Type 0} (xs ys : List (Exchange C R)) → told_in (xs ++ ys) ≡ told_in xs ++ told_in ys
told_joined [] ys = refl
told_joined (x ∷ xs) ys = with_joined x.told (told_in (xs ++ ys)) (told_in xs) (told_in ys) (told_joined xs ys)

items_joined : {C R : Type 0} (xs ys : List (Exchange C R)) → items_of (xs ++ ys) ≡ items_of xs ++ items_of ys
items_joined [] ys = refl
items_joined (x ∷ xs) ys = ap (λ more. x.item ∷ more) (items_joined xs ys)

appends_none : (bytes : Option (List ℕ)) → Appends bytes bytes []
appends_none None = tt
appends_none (Some xs) = sym (append-nil xs)

-- what stands in bytes of which more may come stands there too where they have ended
items_ended : (bytes : List ℕ) (F : Type 0) (items : List Item) (rest : List ℕ) → AreItems 0 bytes ⊥ items rest → AreItems 0 bytes F items rest
items_ended bytes F items rest h =
    subst (λ (z : List ℕ × List ℕ). AreItems 0 z.0 F items z.1) (λ i. (append-nil bytes i, append-nil rest i))
    (items_in_all 0 bytes [] ⊥ F items rest (λ e. absurd e) h)

grown_change : {C : Type 0} (kind : ReplyKind) (e : ℕ × C) (made more : List (ℕ × C)) → grown kind e made ++ more ≡ made ++ with_change kind e more
grown_change accepted e made more = append_assoc made (e ∷ []) more
grown_change fault e made more = refl
grown_change memory e made more = refl
grown_change plain e made more = refl

module _ {S C A R W E : Type 0} (P : Protocol S C A R W E) (opening : S) (history : List (ℕ × C)) (number : ℕ) where
  abbrev may : May (Standing C)
  may = answers_in P opening history number

  abbrev pub Right : Exchange C R → Type 0
  Right x = IsRight P opening history number x.item x.answer x.told

  -- ---- from one standing of the caller to another, by what it was told

  abbrev pub Mark : Type 0
  Mark = ℕ × List (ℕ × C)

  abbrev pub mark : Standing C → Mark
  mark s = (s.place, s.made)

  abbrev next : Mark → Told C R → Mark
  next m one = (one.place + rise_of (P.kind one.reply), grown (P.kind one.reply) (number, one.call) m.1)

  abbrev pub Goes : Mark → List (Told C R) → Mark → Type 0
  Goes m [] n = n ≡ m
  Goes m (one ∷ more) n = (m.0 ≤ one.place) × Goes (next m one) more n

  pub goes_joined : (m : Mark) (xs ys : List (Told C R)) (mid n : Mark) → Goes m xs mid → Goes mid ys n → Goes m (xs ++ ys) n
  goes_joined m [] ys mid n p q = subst (λ (z : Mark). Goes z ys n) p q
  goes_joined m (x ∷ xs) ys mid n p q = (p.0, goes_joined (next m x) xs ys mid n p.1 q)

  goes_with : (m : Mark) (told : Option (Told C R)) (ys : List (Told C R)) (mid n : Mark) → Goes m (with_told told []) mid → Goes mid ys n → Goes m (with_told told ys) n
  goes_with m None ys mid n p q = subst (λ (z : Mark). Goes z ys n) p q
  goes_with m (Some one) ys mid n p q = (p.0, subst (λ (z : Mark). Goes z ys n) p.1 q)

  pub in_order : (m : Mark) (xs : List (Told C R)) (n : Mark) → Goes m xs n → AreInOrder P.kind m.0 xs
  in_order m [] n p = tt
  in_order m (x ∷ xs) n p = (p.0, in_order (next m x) xs n p.1)

  pub changed : (m : Mark) (xs : List (Told C R)) (n : Mark) → Goes m xs n → n.1 ≡ m.1 ++ changes_in P.kind number xs
  changed m [] n p = ap (λ (z : Mark). z.1) p ∙ sym (append-nil m.1)
  changed m (x ∷ xs) n p =
      changed (next m x) xs n p.1 ∙ grown_change (P.kind x.reply) (number, x.call) m.1 (changes_in P.kind number xs)

  -- ---- one item

  record One (s : Standing C) (item : Item) (a : Answer) (t : Standing C) : Type 0 where
    told : Option (Told C R)
    right : IsRight P opening history number item a told
    goes : Goes (mark s) (with_told told []) (mark t)

  one_asked : (s : Standing C) (r : Framed) (a : Answer) (t : Standing C) (asked : Result (C × W) E) → P.asks r asked
      → IsAnswerIn P opening history number s r asked a t → One s (Asks r) a t
  one_asked s r a t (Ok asked) q k = record {
    told = Some (record { call = asked.0; reply = k.0; place = k.1 });
    right = (asked.1, q, k.2.legal, k.3);
    goes = (k.2.in_order, λ i. (k.2.place_after i, k.2.made i));
  }
  one_asked s r a t (Err why) q k = record { told = None; right = (why, q, k.0); goes = ap mark k.1 }

  one : (s : Standing C) (item : Item) (a : Answer) (t : Standing C) → Answered may s item a t → One s item a t
  one s (Asks r) a t k = one_asked s r a t k.0 k.1 k.2
  one s (Refuses why) a t k = record { told = None; right = (k.0, refl); goes = ap mark k.1 }

  -- ---- items, one after another

  record Some_ (s : Standing C) (items : List Item) (answers : List Answer) (t : Standing C) : Type 0 where
    all : List (Exchange C R)
    items_are : items_of all ≡ items
    answers_are : map (λ x. x.answer) all ≡ answers
    right : AllByRecursion Right all
    goes : Goes (mark s) (told_in all) (mark t)

  run_flat : (s : Standing C) (items : List Item) (answers : List Answer) (t : Standing C) → Run may s items answers t → Some_ s items answers t
  run_flat s [] [] t k = record { all = []; items_are = refl; answers_are = refl; right = tt; goes = ap mark k }
  run_flat s [] (a ∷ more) t k = absurd k
  run_flat s (i ∷ is) [] t k = absurd k
  run_flat s (i ∷ is) (a ∷ more) t k =
      let x = one s i a k.0 k.1 in
      let f = run_flat k.0 is more t k.2 in
      record {
        all = record { item = i; answer = a; told = x.told } ∷ f.all;
        items_are = ap (λ more. i ∷ more) f.items_are;
        answers_are = ap (λ more. a ∷ more) f.answers_are;
        right = (x.right, f.right);
        goes = goes_with (mark s) x.told (told_in f.all) (mark k.0) (mark t) x.goes f.goes;
      }

  texts_flat : (s : Standing C) (items : List Item) (answers : List Answer) (t : Standing C) (f : Some_ s items answers t) → texts items answers ≡ text_of_all f.all
  texts_flat s items answers t f = λ i. texts (sym f.items_are i) (sym f.answers_are i)

  -- ---- a connection, by how it ended

  pub record Held (s t : Standing C) (old new : Option (List ℕ)) (bytes : List ℕ) (left : Option (List ℕ)) : Type 0 where
    pub all : List (Exchange C R)
    pub rest : List ℕ
    pub items_are : AreItems 0 bytes (IsAtEnd left) (items_of all) rest
    pub written : AreWritten old new all
    pub right : AllByRecursion Right all
    pub goes : Goes (mark s) (told_in all) (mark t)

  -- all answers were written
  whole : (s t : Standing C) (old new : Option (List ℕ)) (bytes : List ℕ) (left : Option (List ℕ)) (items : List Item) (rest : List ℕ)
      → AreItems 0 bytes (IsAtEnd left) items rest → IsTalk may s t old new items → Held s t old new bytes left
  whole s t old new bytes left items rest are talk =
      let f = run_flat s items talk.answers t talk.run in
      record {
        all = f.all;
        rest = rest;
        items_are = subst (λ (is : List Item). AreItems 0 bytes (IsAtEnd left) is rest) (sym f.items_are) are;
        written = inl (subst (Appends old new) (texts_flat s items talk.answers t f) talk.told);
        right = f.right;
        goes = f.goes;
      }

  -- of the last one at most a front was written
  broken : (s t : Standing C) (old mid new : Option (List ℕ)) (bytes : List ℕ) (left : Option (List ℕ)) (items : List Item) (last : Item) (rest : List ℕ) (state : Standing C) (a : Answer)
      → AreItems 0 bytes (IsAtEnd left) (items ++ last ∷ []) rest → IsTalk may s state old mid items → Answered may state last a t → AppendsFront mid new (text_of a last)
      → Held s t old new bytes left
  broken s t old mid new bytes left items last rest state a are talk answered front =
      let f = run_flat s items talk.answers state talk.run in
      let x = one state last a t answered in
      let end : Exchange C R = record { item = last; answer = a; told = x.told } in
      let same : items_of (f.all ++ end ∷ []) ≡ items ++ last ∷ [] = items_joined f.all (end ∷ []) ∙ ap (λ (is : List Item). is ++ last ∷ []) f.items_are in
      record {
        all = f.all ++ end ∷ [];
        rest = rest;
        items_are = subst (λ (is : List Item). AreItems 0 bytes (IsAtEnd left) is rest) (sym same) are;
        written = inr (f.all, end, mid, refl, subst (Appends old mid) (texts_flat s items talk.answers state f) talk.told, front);
        right = all_joined Right f.all (end ∷ []) f.right (x.right, tt);
        goes = subst (λ (told : List (Told C R)). Goes (mark s) told (mark t)) (sym (told_joined f.all (end ∷ [])))
            (goes_joined (mark s) (told_in f.all) (with_told x.told []) (mark state) (mark t) f.goes x.goes);
      }

  pub end_flat : (s t : Standing C) (old new : Option (List ℕ)) (bytes : List ℕ) (left : Option (List ℕ)) (how : SessionEnd)
      → IsEnd may s t old new bytes left how → Held s t old new bytes left
  end_flat s t old new bytes left (Closed n) h = whole s t old new bytes left h.items h.all.rest h.all.items_are h.talk
  end_flat s t old new bytes left SourceFault h =
      whole s t old new bytes left h.items h.rest (items_ended bytes (IsAtEnd left) h.items h.rest h.items_are) h.talk
  end_flat s t old new bytes left SinkFault h =
      broken s t old h.mid new bytes left h.items h.last h.rest h.state h.answer h.items_are h.talk h.answered
      (h.front.front, (h.front.rest, h.front.parts), h.front.appended)
  end_flat s t old new bytes left Memory (inl starved) =
      whole s t old new bytes left starved.items starved.rest (items_ended bytes (IsAtEnd left) starved.items starved.rest starved.items_are) starved.talk
  end_flat s t old new bytes left Memory (inr lost) =
      broken s t old new new bytes left lost.items lost.last lost.rest lost.state lost.answer lost.items_are lost.talk lost.answered
      ([], (text_of lost.answer lost.last, refl), appends_none new)

  -- ---- connections, one after another

  record Talks (s : Standing C) (connections : List Connection) (t : Standing C) : Type 0 where
    talks : List (Talk C R)
    connections_are : map (λ talk. talk.connection) talks ≡ connections
    held : AllByRecursion IsHeld talks
    right : AllByRecursion (λ (talk : Talk C R). All Right talk.exchanges) talks
    goes : Goes (mark s) (told_to talks) (mark t)

  served_flat : (s : Standing C) (cs : List Connection) (t : Standing C) → AreServed may cs s t → Talks s cs t
  served_flat s [] t k = record { talks = []; connections_are = refl; held = tt; right = tt; goes = ap mark k }
  served_flat s (c ∷ cs) t k =
      let after : Ends = k.1.0 in
      let served = k.1.2 in
      let e = end_flat s k.0 c.before.written after.written served.bytes after.left served.how served.talk in
      let f = served_flat k.0 cs t k.2 in
      record {
        talks = record { connection = c; exchanges = e.all } ∷ f.talks;
        connections_are = ap (λ more. c ∷ more) f.connections_are;
        held = ((after, k.1.1, record { bytes = served.bytes; read = served.grown; rest = e.rest; items_are = e.items_are; written = e.written }), f.held);
        right = (All-from_recursion Right e.all e.right, f.right);
        goes = goes_joined (mark s) (told_in e.all) (told_to f.talks) (mark k.0) (mark t) e.goes f.goes;
      }

-- ---- callers

module _ {S C A R W E : Type 0} (P : Protocol S C A R W E) (opening : S) (history : List (ℕ × C)) where
  record CallerOf (shift : Shift C) : Type 0 where
    caller : Caller C R
    number_is : caller.number ≡ shift.number
    connections_are : map (λ talk. talk.connection) caller.talks ≡ shift.connections
    answered : IsAnswered P opening history caller

  caller_of : (shift : Shift C) → IsShift P opening history shift → HasItsChanges history shift → CallerOf shift
  caller_of shift k is =
      let f = served_flat P opening history shift.number newcomer shift.connections shift.reached k in
      record {
        caller = record { number = shift.number; talks = f.talks };
        number_is = refl;
        connections_are = f.connections_are;
        answered = record {
          held = All-from_recursion IsHeld f.talks f.held;
          right = All-from_recursion (λ (talk : Talk C R). All (Right P opening history shift.number) talk.exchanges) f.talks f.right;
          in_order = in_order P opening history shift.number (mark P opening history shift.number newcomer) (told_to f.talks) (mark P opening history shift.number shift.reached) f.goes;
          changes = is ∙ changed P opening history shift.number (mark P opening history shift.number newcomer) (told_to f.talks) (mark P opening history shift.number shift.reached) f.goes;
        };
      }

  -- callers, with the numbers of their shifts
  record CallersOf (first : ℕ) (back : List Returned) (shifts : List (Shift C)) : Type 0 where
    callers : List (Caller C R)
    numbers_are : map (λ caller. caller.number) callers ≡ map (λ shift. shift.number) shifts
    answered : AllByRecursion (IsAnswered P opening history) callers
    numbered : AreNumbered first callers
    lanes : AreLanesOf back callers

  callers_of : (first : ℕ) (back : List Returned) (shifts : List (Shift C)) → AllByRecursion (IsShift P opening history) shifts → AllByRecursion (HasItsChanges history) shifts
      → AreNumberedFrom first shifts → server.AreLanesOf back shifts → CallersOf first back shifts
  callers_of first [] [] a c n l = record { callers = []; numbers_are = refl; answered = tt; numbered = tt; lanes = tt }
  callers_of first [] (shift ∷ shifts) a c n l = absurd l
  callers_of first (lane ∷ lanes) [] a c n l = absurd l
  callers_of first (lane ∷ lanes) (shift ∷ shifts) a c n l =
      let one = caller_of shift a.0 c.0 in
      let more = callers_of (first + 1) lanes shifts a.1 c.1 n.1 l.1 in
      record {
        callers = one.caller ∷ more.callers;
        numbers_are = λ i. one.number_is i ∷ more.numbers_are i;
        answered = (one.answered, more.answered);
        numbered = (one.number_is ∙ n.0, more.numbered);
        lanes = (subst (λ (cs : List Connection). IfSome lane.told (λ all. all ≡ cs)) (sym one.connections_are) l.0, more.lanes);
      }

  pub served : (back : List Returned) (shifts : List (Shift C)) → IsHistoryOf P opening history shifts → server.AreLanesOf back shifts → HasCallers P opening history back
  served back shifts k l =
      let of : CallersOf k.numbers.0 back shifts =
      callers_of k.numbers.0 back shifts (recursion_from_All (IsShift P opening history) shifts k.answered) (recursion_from_All (HasItsChanges history) shifts k.changes) k.numbers.1 l in
      record {
        callers = of.callers;
        are = record {
          answered = All-from_recursion (IsAnswered P opening history) of.callers of.answered;
          numbered = (k.numbers.0, of.numbered);
          nobody_else = subst (λ (numbers : List ℕ). All (λ (entry : ℕ × C). Contains numbers entry.0) history) (sym of.numbers_are) k.nobody_else;
        };
        lanes = of.lanes;
      }
