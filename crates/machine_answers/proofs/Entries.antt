-- Each entry of a history is a change that its caller asked for, and that the machine accepts at its place.
use Rattle.std.proofs.Common.{◌≡◌, ◌≤◌, ◌<◌, ◌+◌, ◌-◌, ◌==◌, ◌⊎◌, ℕ, zero, suc, Bool, true, false, cond, All, Contains, List, [], ◌∷◌, ◌++◌, length, map, take, drop, Option, None, Some, Ok, refl, sym, ap, ◌∙◌, subst, inl, inr, arith}
use Rattle.std.specs.List.{AllByRecursion, slice_get, slice_index_or}
use Rattle.std.proofs.lemmas.Bool.Decides.{nat_tests}
use Rattle.std.proofs.lemmas.List.Elements.{recursion_from_All}
use Rattle.history_lock.specs.Replies.{ReplyKind, accepted, fault, memory, plain, AnswersAs, rise_of}
use Rattle.history_lock.specs.Replay.{own_entries, replay}
use Rattle.history_lock.specs.Places.{IsLegalAt}
use Rattle.http_session.specs.Requests.{Asks, Framed, Item, Refuses}
use Rattle.http_session.specs.Talk.{Answer}
use Rattle.machine_session.specs.Protocols.{Protocol}
use Rattle.machine_answers.specs.Answers.{AreCallers, AreInOrder, Caller, Exchange, IsAnswered, IsChange, IsRight, Talk, Told, changes_in, told_in, told_to, with_change, with_told}

-- ---- numbers and lists

is_number : (a b : ℕ) → a ≡ b → (a == b) ≡ true
is_number a b e = grind (arith, nat_tests)

pub own_at : {C : Type 0} (m : ℕ) (e : ℕ × C) (es : List (ℕ × C)) → e.0 ≡ m → own_entries m (e ∷ es) ≡ e ∷ own_entries m es
own_at m e es is = ap (λ (b : Bool). cond b (e ∷ own_entries m es) (own_entries m es)) (is_number e.0 m is)

own_more : {C : Type 0} (m : ℕ) (e : ℕ × C) (es : List (ℕ × C)) → length (own_entries m es) ≤ length (own_entries m (e ∷ es))
own_more m e es = go (e.0 == m)
  where
    go : (b : Bool) → length (own_entries m es) ≤ length (cond b (e ∷ own_entries m es) (own_entries m es))
    go true = omega arith
    go false = omega arith

contains_cases : {T : Type 0} (x y : T) (xs : List T) → Contains (x ∷ xs) y → (x ≡ y) ⊎ Contains xs y
contains_cases x y xs c = go c.0 c.1 c.2
  where
    go : (k : ℕ) → k < length (x ∷ xs) → slice_index_or (x ∷ xs) k y ≡ y → (x ≡ y) ⊎ Contains xs y
    go zero h e = inl e
    go (suc k) h e = inr (k, omega arith, e)

all_at : {T : Type 0} (Q : T → Type 0) (xs : List T) → AllByRecursion Q xs → (n : ℕ) (x : T) → slice_get xs n ≡ Some x → Q x
all_at Q [] k n x at = cc
all_at Q (y ∷ ys) k zero x at = subst Q (let same : y ≡ x = cc in same) k.0
all_at Q (y ∷ ys) k (suc n) x at = all_at Q ys k.1 n x at

-- ---- places that are marked in a history, each by how many entries lie between it and the one before

module _ {C : Type 0} (m : ℕ) (Q : ℕ → C → Type 0) where
  abbrev Marked : ℕ → List (ℕ × C) → List (ℕ × C) → Type 0
  Marked n h [] = Unit {0}
  Marked n [] (x ∷ xs) = ⊥
  Marked n (e ∷ es) ((zero, c) ∷ xs) = (e ≡ (m, c)) × Q n c × Marked (suc n) es xs
  Marked n (e ∷ es) ((suc gap, c) ∷ xs) = Marked (suc n) es ((gap, c) ∷ xs)

  few : (n : ℕ) (h xs : List (ℕ × C)) → Marked n h xs → length xs ≤ length (own_entries m h)
  few n h [] k = omega arith
  few n [] (x ∷ xs) k = absurd k
  few n (e ∷ es) ((zero, c) ∷ xs) k =
      let more = few (suc n) es xs k.2 in
      let own = ap length (own_at m e es (ap (λ (x : ℕ × C). x.0) k.0)) in
      omega arith
  few n (e ∷ es) ((suc gap, c) ∷ xs) k =
      let more = few (suc n) es ((gap, c) ∷ xs) k in
      let own = own_more m e es in
      omega arith

  -- where as many are marked as the history has entries of the number, each of these is marked
  marked : (n : ℕ) (h xs : List (ℕ × C)) → Marked n h xs → length (own_entries m h) ≤ length xs → (i : ℕ) (c : C) → slice_get h i ≡ Some (m, c) → Q (n + i) c
  marked n [] xs k le i c at = cc
  marked n (e ∷ es) [] k le zero c at =
      let own = ap length (own_at m e es (let same : e ≡ (m, c) = cc in ap (λ (x : ℕ × C). x.0) same)) in absurd (omega arith)
  marked n (e ∷ es) [] k le (suc i) c at =
      let own = own_more m e es in
      subst (λ (p : ℕ). Q p c) (omega arith) (marked (suc n) es [] tt (omega arith) i c at)
  marked n (e ∷ es) ((zero, d) ∷ xs) k le zero c at =
      let same : d ≡ c = (let there : e ≡ (m, c) = cc in ap (λ (x : ℕ × C). x.1) (sym k.0 ∙ there)) in
      subst (λ (z : ℕ × C). Q z.0 z.1) (λ i. ((let e : n ≡ n + 0 = omega arith in e) i, same i)) k.1
  marked n (e ∷ es) ((zero, d) ∷ xs) k le (suc i) c at =
      let own = ap length (own_at m e es (ap (λ (x : ℕ × C). x.0) k.0)) in
      subst (λ (p : ℕ). Q p c) (omega arith) (marked (suc n) es xs k.2 (omega arith) i c at)
  marked n (e ∷ es) ((suc gap, d) ∷ xs) k le zero c at =
      let own = ap length (own_at m e es (let same : e ≡ (m, c) = cc in ap (λ (x : ℕ × C). x.0) same)) in
      let more = few (suc n) es ((gap, d) ∷ xs) k in
      absurd (omega arith)
  marked n (e ∷ es) ((suc gap, d) ∷ xs) k le (suc i) c at =
      let own = own_more m e es in
      subst (λ (p : ℕ). Q p c) (omega arith) (marked (suc n) es ((gap, d) ∷ xs) k (omega arith) i c at)

  -- a place is marked by what it has, and what is marked behind it
  mark_at : (n gap : ℕ) (h xs : List (ℕ × C)) (c : C) → slice_get h gap ≡ Some (m, c) → Q (n + gap) c → Marked (suc (n + gap)) (drop (suc gap) h) xs → Marked n h ((gap, c) ∷ xs)
  mark_at n gap [] xs c at q k = cc
  mark_at n zero (e ∷ es) xs c at q k =
      ((let same : e ≡ (m, c) = cc in same), subst (λ (p : ℕ). Q p c) (omega arith) q, subst (λ (p : ℕ). Marked p es xs) (omega arith) k)
  mark_at n (suc gap) (e ∷ es) xs c at q k =
      mark_at (suc n) gap es xs c at (subst (λ (p : ℕ). Q p c) (omega arith) q) (subst (λ (p : ℕ). Marked p (drop (suc gap) es) xs) (omega arith) k)

drop_none : {T : Type 0} (n : ℕ) (xs : List T) → xs ≡ [] → drop n xs ≡ []
drop_none zero xs e = e
drop_none (suc n) [] e = refl
drop_none (suc n) (x ∷ xs) e = cc

drop_more : {T : Type 0} (a b : ℕ) (xs : List T) → drop b (drop a xs) ≡ drop (a + b) xs
drop_more zero b xs = ap (λ (n : ℕ). drop n xs) (omega arith)
drop_more (suc a) b [] = drop_none b [] refl ∙ sym (drop_none (suc a + b) [] refl)
drop_more (suc a) b (x ∷ xs) = drop_more a b xs ∙ ap (λ (n : ℕ). drop n (x ∷ xs)) (let e : suc (a + b) ≡ suc a + b = omega arith in e)

get_behind : {T : Type 0} (a b : ℕ) (xs : List T) → slice_get (drop a xs) b ≡ slice_get xs (a + b)
get_behind zero b xs = ap (slice_get xs) (omega arith)
get_behind (suc a) b [] = refl
get_behind (suc a) b (x ∷ xs) = get_behind a b xs ∙ ap (slice_get (x ∷ xs)) (let e : suc (a + b) ≡ suc a + b = omega arith in e)

-- ---- what a caller was told marks its entries

module _ {S C A R W E : Type 0} (P : Protocol S C A R W E) (opening : S) (history : List (ℕ × C)) (m : ℕ) where
  abbrev Changes : ℕ → C → Type 0
  Changes n call = IsChange P opening (take n history) call

  -- what is known of one call that was answered
  record Known (one : Told C R) : Type 0 where
    request : Framed
    shown : W
    asked : P.asks request (Ok (one.call, shown))
    legal : IsLegalAt P.step P.fallible opening history m one.call (P.answer one.reply) (P.kind one.reply) one.place

  known_told : (item : Item) (a : Answer) (told : Option (Told C R)) (more : List (Told C R)) → IsRight P opening history m item a told → AllByRecursion Known more
      → AllByRecursion Known (with_told told more)
  known_told item a None more k ks = ks
  known_told (Asks r) a (Some one) more k ks = (record { request = r; shown = k.0; asked = k.1; legal = k.2 }, ks)
  known_told (Refuses why) a (Some one) more k ks = (let e = k.1 in cc)

  known_in : (xs : List (Exchange C R)) → AllByRecursion (λ (x : Exchange C R). IsRight P opening history m x.item x.answer x.told) xs → AllByRecursion Known (told_in xs)
  known_in [] k = tt
  known_in (x ∷ xs) k = known_told x.item x.answer x.told (told_in xs) k.0 (known_in xs k.1)

  known_joined : (xs ys : List (Told C R)) → AllByRecursion Known xs → AllByRecursion Known ys → AllByRecursion Known (xs ++ ys)
  known_joined [] ys p q = q
  known_joined (x ∷ xs) ys p q = (p.0, known_joined xs ys p.1 q)

  known_to : (talks : List (Talk C R)) → AllByRecursion (λ (talk : Talk C R). All (λ (x : Exchange C R). IsRight P opening history m x.item x.answer x.told) talk.exchanges) talks
      → AllByRecursion Known (told_to talks)
  known_to [] k = tt
  known_to (talk ∷ talks) k =
      known_joined (told_in talk.exchanges) (told_to talks)
      (known_in talk.exchanges (recursion_from_All (λ (x : Exchange C R). IsRight P opening history m x.item x.answer x.told) talk.exchanges k.0)) (known_to talks k.1)

  -- the accepted ones, each by how many entries lie between it and the one before
  abbrev gap_of : ReplyKind → ℕ → Told C R → List (ℕ × C) → List (ℕ × C) → List (ℕ × C)
  gap_of accepted n one after same = (one.place - n, one.call) ∷ after
  gap_of fault n one after same = same
  gap_of memory n one after same = same
  gap_of plain n one after same = same

  abbrev gaps : ℕ → List (Told C R) → List (ℕ × C)
  gaps n [] = []
  gaps n (one ∷ more) = gap_of (P.kind one.reply) n one (gaps (suc one.place) more) (gaps n more)

  one_more : (kind : ReplyKind) (n : ℕ) (one : Told C R) (after same changes : List (ℕ × C)) → length after ≡ length changes → length same ≡ length changes
      → length (gap_of kind n one after same) ≡ length (with_change kind (m, one.call) changes)
  one_more accepted n one after same changes e f = ap suc e
  one_more fault n one after same changes e f = f
  one_more memory n one after same changes e f = f
  one_more plain n one after same changes e f = f

  as_many : (n : ℕ) (xs : List (Told C R)) → length (gaps n xs) ≡ length (changes_in P.kind m xs)
  as_many n [] = refl
  as_many n (one ∷ more) =
      one_more (P.kind one.reply) n one (gaps (suc one.place) more) (gaps n more) (changes_in P.kind m more) (as_many (suc one.place) more) (as_many n more)

  later : (n p : ℕ) (xs : List (Told C R)) → n ≤ p → AreInOrder P.kind p xs → AreInOrder P.kind n xs
  later n p [] le k = tt
  later n p (x ∷ xs) le k = ((let l = k.0 in omega arith), k.1)

  -- an accepted one marks its entry, and the others none
  mark_one : (kind : ReplyKind) (n : ℕ) (one : Told C R) (more : List (Told C R)) → P.kind one.reply ≡ kind → n ≤ one.place → AreInOrder P.kind (one.place + rise_of kind) more → Known one
      → (AreInOrder P.kind (suc one.place) more → Marked m Changes (suc one.place) (drop (suc one.place) history) (gaps (suc one.place) more))
      → (AreInOrder P.kind n more → Marked m Changes n (drop n history) (gaps n more))
      → Marked m Changes n (drop n history) (gap_of kind n one (gaps (suc one.place) more) (gaps n more))
  mark_one accepted n one more is le o k after same =
      let there : n + (one.place - n) ≡ one.place = omega arith in
      let change : Changes one.place one.call = record {
        request = k.request;
        shown = k.shown;
        asked = k.asked;
        reply = one.reply;
        kind = is;
        same = subst (λ (z : ReplyKind). AnswersAs P.fallible z (P.answer one.reply) (P.step (replay P.step opening (take one.place history)) one.call).1) is k.legal.right;
      } in
      let far : suc (n + (one.place - n)) ≡ suc one.place = ap suc there in
      let long : suc one.place ≡ n + suc (one.place - n) = omega arith in
      mark_at m Changes n (one.place - n) (drop n history) (gaps (suc one.place) more) one.call
      (get_behind n (one.place - n) history ∙ (ap (slice_get history) there ∙ k.legal.entry is))
      (subst (λ (z : ℕ). Changes z one.call) (sym there) change)
      (subst (λ (z : ℕ × List (ℕ × C)). Marked m Changes z.0 z.1 (gaps (suc one.place) more))
      (λ i. (sym far i, (ap (λ (z : ℕ). drop z history) long ∙ sym (drop_more n (suc (one.place - n)) history)) i))
      (after (subst (λ (z : ℕ). AreInOrder P.kind z more) (omega arith) o)))
  mark_one fault n one more is le o k after same = same (later n one.place more le (subst (λ (z : ℕ). AreInOrder P.kind z more) (omega arith) o))
  mark_one memory n one more is le o k after same = same (later n one.place more le (subst (λ (z : ℕ). AreInOrder P.kind z more) (omega arith) o))
  mark_one plain n one more is le o k after same = same (later n one.place more le (subst (λ (z : ℕ). AreInOrder P.kind z more) (omega arith) o))

  marks : (n : ℕ) (xs : List (Told C R)) → AreInOrder P.kind n xs → AllByRecursion Known xs → Marked m Changes n (drop n history) (gaps n xs)
  marks n [] o k = tt
  marks n (one ∷ more) o k =
      mark_one (P.kind one.reply) n one more refl o.0 o.1 k.0 (λ p. marks (suc one.place) more p k.1) (λ p. marks n more p k.1)

-- ---- each entry of the history

module _ {S C A R W E : Type 0} (P : Protocol S C A R W E) (opening : S) (history : List (ℕ × C)) where
  pub entry_of_caller : (caller : Caller C R) → IsAnswered P opening history caller → (n : ℕ) (call : C) → slice_get history n ≡ Some (caller.number, call) → IsChange P opening (take n history) call
  entry_of_caller caller k n call at =
      let m = caller.number in
      let told = told_to caller.talks in
      let known = known_to P opening history m caller.talks (recursion_from_All (λ (talk : Talk C R). All (λ (x : Exchange C R). IsRight P opening history m x.item x.answer x.told) talk.exchanges) caller.talks k.right) in
      let many = as_many P opening history m 0 told in
      let own = ap length k.changes in
      subst (λ (z : ℕ). Changes P opening history m z call) (omega arith)
      (marked m (Changes P opening history m) 0 history (gaps P opening history m 0 told) (marks P opening history m 0 told k.in_order known) (omega arith) n call at)

  of_some : (callers : List (Caller C R)) (who : ℕ) → AllByRecursion (IsAnswered P opening history) callers → Contains (map (λ caller. caller.number) callers) who
      → (n : ℕ) (call : C) → slice_get history n ≡ Some (who, call) → IsChange P opening (take n history) call
  of_some [] who k c n call at = let l = c.1 in absurd (omega arith)
  of_some (caller ∷ callers) who k c n call at = elim (contains_cases caller.number who (map (λ caller. caller.number) callers) c) [
    | inl e ↦ entry_of_caller caller k.0 n call (at ∙ ap (λ (z : ℕ). Some (z, call)) (sym e))
    | inr d ↦ of_some callers who k.1 d n call at
  ]

  pub entries : (callers : List (Caller C R)) → AreCallers P opening history callers → (n : ℕ) (who : ℕ) (call : C) → slice_get history n ≡ Some (who, call)
      → IsChange P opening (take n history) call
  entries callers k n who call at =
      let By : ℕ × C → Type 0 = λ entry. Contains (map (λ caller. caller.number) callers) entry.0 in
      of_some callers who (recursion_from_All (IsAnswered P opening history) callers k.answered) (all_at By history (recursion_from_All By history k.nobody_else) n (who, call) at) n call at
