-- A session of one caller is a connection of the caller with the number 0, in the history of its accepted changes.
use Rattle.std.proofs.Common.{◌≡◌, ◌+◌, ℕ, All, Contains, List, [], ◌∷◌, ◌++◌, append-nil, length, length-append, take, Some, Result, Ok, Err, refl, sym, ap, ◌∙◌, subst, arith}
use Rattle.std.specs.List.{AllByRecursion, slice_get}
use Rattle.std.proofs.lemmas.List.Elements.{All-from_recursion}
use mathlib.Core.List.{IsPrefix}
use Rattle.ipam_listen.specs.Connections.{Ends, finished}
use Rattle.history_lock.specs.Replies.{ReplyKind, accepted, fault, memory, plain, AnswersAs, failures_of, grown, rise_of}
use Rattle.history_lock.specs.Replay.{own_entries, replay}
use Rattle.history_lock.specs.Places.{IsLegalAt}
use Rattle.history_lock.proofs.Places.{IsLegalAt-longer}
use Rattle.http_session.specs.Requests.{Framed}
use Rattle.http_session.specs.Steps.{Grown}
use Rattle.http_session.specs.Talk.{Answer}
use Rattle.http_session.specs.Ends.{IsEnd}
use Rattle.http_session.specs.declared.session.SessionEnd.{SessionEnd}
use Rattle.machine_session.specs.Protocols.{Protocol}
use Rattle.machine_session.specs.Told.{IsAnswerIn, IsTold, Standing, answers_in, newcomer}
use Rattle.machine_session.specs.Owned.{Counted, IsCountedAnswer, IsOwnCall, answers_counted, counted, owned}
use Rattle.machine_session.proofs.Carried.{IsCarried, end_ahead, end_carried}
use Rattle.machine_session.proofs.Talks.{prefix_refl, prefix_trans}
use Rattle.machine_answers.specs.Answers.{Caller, IsAnswered, IsHeld, Talk, Told, changes_in, told_in, told_to, with_change}
use Rattle.machine_answers.specs.Laws.{HasCaller}
use Rattle.machine_answers.proofs.Entries.{own_at}
use Rattle.machine_answers.proofs.Flat.{Held, Mark, Goes, Right, changed, end_flat, goes_joined, in_order, mark}

-- ---- the end of a history

take_front : {T : Type 0} (xs ys : List T) → take (length xs) (xs ++ ys) ≡ xs
take_front [] ys = refl
take_front (x ∷ xs) ys = ap (λ more. x ∷ more) (take_front xs ys)

get_next : {T : Type 0} (xs : List T) (y : T) (ys : List T) → slice_get (xs ++ y ∷ ys) (length xs) ≡ Some y
get_next [] y ys = refl
get_next (x ∷ xs) y ys = get_next xs y ys

take_all : {T : Type 0} (xs : List T) → take (length xs) xs ≡ xs
take_all xs = ap (take (length xs)) (sym (append-nil xs)) ∙ take_front xs []

-- what a history that grew by a reply has at its end
record AtEnd {C : Type 0} (kind : ReplyKind) (e : ℕ × C) (h g : List (ℕ × C)) : Type 0 where
  long : length g ≡ length h + rise_of kind
  front : take (length h) g ≡ h
  last : kind ≡ accepted → slice_get g (length h) ≡ Some e
  longer : IsPrefix h g

at_end : {C : Type 0} (kind : ReplyKind) (e : ℕ × C) (h : List (ℕ × C)) → AtEnd kind e h (grown kind e h)
at_end accepted e h = record { long = length-append h (e ∷ []); front = take_front h (e ∷ []); last = λ is. get_next h e []; longer = (e ∷ [], refl) }
at_end fault e h = record { long = omega arith; front = take_all h; last = λ is. cc; longer = prefix_refl h }
at_end memory e h = record { long = omega arith; front = take_all h; last = λ is. cc; longer = prefix_refl h }
at_end plain e h = record { long = omega arith; front = take_all h; last = λ is. cc; longer = prefix_refl h }

-- ---- the changes of one caller

own_change : {C : Type 0} (kind : ReplyKind) (m : ℕ) (call : C) (more : List (ℕ × C)) → own_entries m more ≡ more
    → own_entries m (with_change kind (m, call) more) ≡ with_change kind (m, call) more
own_change accepted m call more e = own_at m (m, call) more refl ∙ ap (λ (xs : List (ℕ × _)). (m, call) ∷ xs) e
own_change fault m call more e = e
own_change memory m call more e = e
own_change plain m call more e = e

own_changes : {C R : Type 0} (kind : R → ReplyKind) (m : ℕ) (xs : List (Told C R)) → own_entries m (changes_in kind m xs) ≡ changes_in kind m xs
own_changes kind m [] = refl
own_changes kind m (x ∷ xs) = own_change (kind x.reply) m x.call (changes_in kind m xs) (own_changes kind m xs)

abbrev IsOf : {C : Type 0} → ℕ → ℕ × C → Type 0
IsOf m e = Contains (m ∷ []) e.0

one_own : {C : Type 0} (kind : ReplyKind) (m : ℕ) (call : C) (more : List (ℕ × C)) → AllByRecursion (IsOf m) more → AllByRecursion (IsOf m) (with_change kind (m, call) more)
one_own accepted m call more h = ((0, omega arith, refl), h)
one_own fault m call more h = h
one_own memory m call more h = h
one_own plain m call more h = h

all_own : {C R : Type 0} (kind : R → ReplyKind) (m : ℕ) (xs : List (Told C R)) → AllByRecursion (IsOf m) (changes_in kind m xs)
all_own kind m [] = tt
all_own kind m (x ∷ xs) = one_own (kind x.reply) m x.call (changes_in kind m xs) (all_own kind m xs)

-- ---- a session

module _ {S C A R W E : Type 0} (P : Protocol S C A R W E) where
  abbrev standing : Counted S C → Standing C
  standing s = record { place = length s.now.log; made = s.now.log; faults = s.told }

  own_told : (opening : S) (history : List (ℕ × C)) (s t : Counted S C) (call : C) (answer : A) (kind : ReplyKind) → IsOwnCall P.step P.fallible s.now t.now call answer kind
      → t.told ≡ s.told + failures_of kind → s.now.opening ≡ opening → IsPrefix t.now.log history
      → IsTold P.step P.fallible opening history 0 (standing s) (standing t) call answer kind (length s.now.log)
  own_told opening history s t call answer kind k faults is longer =
      let e : AtEnd kind (0, call) s.now.log t.now.log = subst (AtEnd kind (0, call) s.now.log) (sym k.replied.log) (at_end kind (0, call) s.now.log) in
      let here : IsLegalAt P.step P.fallible s.now.opening t.now.log 0 call answer kind (length s.now.log) = record {
        within = (let long = e.long in omega arith);
        right = subst (λ (h : List (ℕ × C)). AnswersAs P.fallible kind answer (P.step (replay P.step s.now.opening h) call).1) (sym e.front) k.replied.right;
        entry = e.last;
      } in
      record {
        legal = subst (λ (o : S). IsLegalAt P.step P.fallible o history 0 call answer kind (length s.now.log)) is
            (IsLegalAt-longer P.step P.fallible s.now.opening t.now.log history 0 call answer kind (length s.now.log) longer here);
        in_order = omega arith;
        place_after = e.long;
        made = k.replied.log;
        faults = faults;
      }

  answer_told : (opening : S) (history : List (ℕ × C)) (s : Counted S C) (request : Framed) (asked : Result (C × W) E) (a : Answer) (t : Counted S C)
      → IsCountedAnswer P s request asked a t → s.now.opening ≡ opening → IsPrefix t.now.log history → IsAnswerIn P opening history 0 (standing s) request asked a (standing t)
  answer_told opening history s request (Ok asked) a t k is longer =
      (k.0, length s.now.log, own_told opening history s t asked.0 (P.answer k.0) (P.kind k.0) k.1 k.3 is longer, k.2)
  answer_told opening history s request (Err why) a t k is longer = (k.0, ap standing k.1)

  opening_stays : (opening : S) (s : Counted S C) (request : Framed) (asked : Result (C × W) E) (a : Answer) (t : Counted S C)
      → IsCountedAnswer P s request asked a t → s.now.opening ≡ opening → t.now.opening ≡ opening
  opening_stays opening s request (Ok asked) a t k is = k.1.opening ∙ is
  opening_stays opening s request (Err why) a t k is = ap (λ (x : Counted S C). x.now.opening) k.1 ∙ is

  log_grows : (history : List (ℕ × C)) (s : Counted S C) (request : Framed) (asked : Result (C × W) E) (a : Answer) (t : Counted S C)
      → IsCountedAnswer P s request asked a t → IsPrefix t.now.log history → IsPrefix s.now.log history
  log_grows history s request (Ok asked) a t k longer =
      let e = at_end (P.kind k.0) (0, asked.0) s.now.log in
      prefix_trans s.now.log t.now.log history (subst (IsPrefix s.now.log) (sym k.1.replied.log) e.longer) longer
  log_grows history s request (Err why) a t k longer = subst (λ (x : Counted S C). IsPrefix x.now.log history) k.1 longer

  told_alone : (opening : S) (history : List (ℕ × C)) → IsCarried (answers_counted P) (answers_in P opening history 0) standing (λ s. s.now.opening ≡ opening) (λ t. IsPrefix t.now.log history)
  told_alone opening history =
      record {
        ahead = λ s r a t k is. opening_stays opening s r k.0 a t k.2 is;
        behind = λ s r a t k longer. log_grows history s r k.0 a t k.2 longer;
        carry = λ s r a t k is longer. (k.0, k.1, answer_told opening history s r k.0 a t k.2 is longer);
        refuse = λ why a k. k;
      }

  pub alone : (opening : S) (last : Counted S C) (before after : Ends) (bytes : List ℕ) (how : SessionEnd) → Grown before.left after.left [] bytes
      → IsEnd (answers_counted P) (counted (owned opening [] 0) 0) last before.written after.written bytes after.left how
      → (last.now.opening ≡ opening) × HasCaller P opening last.now.log before after
  alone opening last before after bytes how read ends =
      let history = last.now.log in
      let first : Counted S C = counted (owned opening [] 0) 0 in
      let told = end_carried (answers_counted P) (answers_in P opening history 0) standing (λ s. s.now.opening ≡ opening) (λ t. IsPrefix t.now.log history) (told_alone opening history)
      first last before.written after.written bytes after.left how ends refl (prefix_refl history) in
      let stays : last.now.opening ≡ opening =
      end_ahead (answers_counted P) (answers_in P opening history 0) standing (λ s. s.now.opening ≡ opening) (λ t. IsPrefix t.now.log history) (told_alone opening history)
      first last before.written after.written bytes after.left how ends refl in
      let e : Held P opening history 0 newcomer (standing last) before.written after.written bytes after.left =
      end_flat P opening history 0 newcomer (standing last) before.written after.written bytes after.left how told in
      let from : Mark P opening history 0 = mark P opening history 0 newcomer in
      let to : Mark P opening history 0 = mark P opening history 0 (standing last) in
      let talk : Talk C R = record { connection = finished before after; exchanges = e.all } in
      let goes : Goes P opening history 0 from (told_to (talk ∷ [])) to = goes_joined P opening history 0 from (told_in e.all) [] to to e.goes refl in
      let same : history ≡ changes_in P.kind 0 (told_to (talk ∷ [])) = changed P opening history 0 from (told_to (talk ∷ [])) to goes in
      let caller : Caller C R = record { number = 0; talks = talk ∷ [] } in
      let answered : IsAnswered P opening history caller = record {
        held = All-from_recursion IsHeld (talk ∷ []) ((after, refl, record { bytes = bytes; read = read; rest = e.rest; items_are = e.items_are; written = e.written }), tt);
        right = All-from_recursion (λ (t : Talk C R). All (Right P opening history 0) t.exchanges) (talk ∷ []) (All-from_recursion (Right P opening history 0) e.all e.right, tt);
        in_order = in_order P opening history 0 from (told_to (talk ∷ [])) to goes;
        changes = ap (own_entries 0) same ∙ own_changes P.kind 0 (told_to (talk ∷ []));
      } in (
        stays,
        record {
          caller = caller;
          are = record {
            answered = All-from_recursion (IsAnswered P opening history) (caller ∷ []) (answered, tt);
            numbered = (0, (refl, tt));
            nobody_else = All-from_recursion (IsOf 0) history (subst (AllByRecursion (IsOf 0)) (sym same) (all_own P.kind 0 (told_to (talk ∷ []))));
          };
          connections_are = refl;
        },
      )
