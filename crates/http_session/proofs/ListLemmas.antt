-- The bytes have one list of items.
use Rattle.std.proofs.Common.{◌≡◌, ◌∙◌, ◌+◌, ◌⊎◌, IsTrue, ℕ, Bool, true, false, List, [], ◌∷◌, ◌++◌, length, inl, inr, refl, sym, ap, subst, arith, length-append}
use Rattle.std.proofs.lemmas.Str.{encode_ascii}
use Rattle.std.proofs.lemmas.List.Elements.{All-cons, All-nil}
use Rattle.httparse.specs.Grammar.{RequestHead, IsRequestHead, crlf, print_request, is_token_byte, is_uri_byte, AllPass, IsField}
use Rattle.http_session.specs.declared.request.Fault.{Fault}
use Rattle.http_session.specs.declared.request.Fault.TheVariants.{BadHead, LargeHead, LargeBody, Coding}
use Rattle.http_session.specs.Requests.{AreItems, EndsClosed, HasHead, IsItem, IsRefused, Item, Asks, Refuses, NeverHead, closes}
use Rattle.http_session.specs.Laws.{AreTwoRefusals, DifferInCorner, IsCorner}
use Rattle.http_session.proofs.Unique.{one_reading}

-- a head has some bytes
some_bytes : (h : RequestHead) (rest : List ℕ) → IsRequestHead h → [] ≡ print_request h ++ rest → ⊥
unfolding print_request
some_bytes h rest is e =
    let long = ap length e in
    let method = is.method.0 in
    absurd (omega (arith, simp length-append at long))

no_head : (h : RequestHead) (rest : List ℕ) → HasHead [] h rest → ⊥
no_head h rest has = some_bytes h rest has.begins.reads.0 has.begins.reads.1

one_passes : (test : ℕ → Bool) (b : ℕ) → IsTrue (test b) → AllPass test (b ∷ [])
one_passes test b pass = All-cons (λ x. IsTrue (test x)) b [] pass (All-nil (λ x. IsTrue (test x)))

-- `A / HTTP/1.1` and an empty line
abbrev small_head : RequestHead
small_head = record { blank = []; method = 65 ∷ []; target = 47 ∷ []; minor = 1; line_end = crlf; fields = []; last = crlf }

small_head_is : IsRequestHead small_head
unfolding small_head is_token_byte
small_head_is = record {
  method = (omega arith, one_passes is_token_byte 65 refl);
  target = (omega arith, one_passes is_uri_byte 47 refl);
  target_text = (47 ∷ [], (refl, ap (λ l. l ++ []) (encode_ascii 47 (omega arith))));
  minor = omega arith;
  fields = All-nil IsField;
}

-- some bytes begin with a head
not_never : NeverHead [] → ⊥
not_never never = never (print_request small_head ++ []) small_head [] (record { reads = (small_head_is, refl); few = omega arith })

no_refusal : (E : Type 0) (fault : Fault) → IsRefused [] E fault → ⊥
no_refusal E BadHead (inl never) = not_never never
no_refusal E BadHead (inr (inl (rest, (h, has, said)))) = no_head h rest has
no_refusal E BadHead (inr (inr (e, inl (some, stops)))) = absurd (omega arith)
no_refusal E BadHead (inr (inr (e, inr (n, rest, (h, has, said), short)))) = no_head h rest has
no_refusal E LargeHead (full, may) = absurd (omega arith)
no_refusal E LargeBody (rest, (h, has, said)) = no_head h rest has
no_refusal E Coding (rest, (h, has, said)) = no_head h rest has

-- no item stands in no bytes
no_item : (n : ℕ) (E : Type 0) (item : Item) (rest : List ℕ) → IsItem n [] E item rest → ⊥
no_item n E (Asks r) rest q = no_head q.head (r.body ++ rest) q.has
no_item n E (Refuses fault) rest q = no_refusal E fault q.0

-- the list stops there
abbrev Stops : Type 0 → List Item → List ℕ → Type 0
Stops E items rest = EndsClosed items ⊎ (E × (rest ≡ []))

stops_after : (E : Type 0) (item : Item) (items : List Item) (rest : List ℕ) → closes item ≡ false → Stops E (item ∷ items) rest → Stops E items rest
stops_after E item [] rest open_ (inl c) = cc (c, open_)
stops_after E item (i ∷ items) rest open_ (inl c) = inl c
stops_after E item items rest open_ (inr e) = inr e

none_stops : (n : ℕ) (bytes : List ℕ) (E : Type 0) (item : Item) (rest mid : List ℕ) → Stops E [] rest → rest ≡ bytes → IsItem n bytes E item mid → ⊥
none_stops n bytes E item rest mid (inl c) same q = c
none_stops n bytes E item rest mid (inr e) same q = no_item n E item mid (subst (λ b. IsItem n b E item mid) (sym same ∙ e.1) q)

-- the rest of two lists whose first items are one
abbrev OneFrom : ℕ → List ℕ → Type 0 → List Item → List Item → Type 0
OneFrom n bytes E items others = (items ≡ others) ⊎ DifferInCorner n bytes E items others

behind : (n : ℕ) (bytes mid : List ℕ) (E : Type 0) (item : Item) (items others : List Item) → closes item ≡ false → IsItem n bytes E item mid → OneFrom (n + 1) mid E items others
    → OneFrom n bytes E (item ∷ items) (item ∷ others)
behind n bytes mid E item items others open_ q (inl e) = inl (ap (λ l. item ∷ l) e)
behind n bytes mid E item items others open_ q (inr d) =
    inr (record {
      same = item ∷ d.same;
      rest = d.rest;
      item = d.item;
      other = d.other;
      same_are = (mid, q, (λ c. cc (c, open_)), d.same_are);
      corner = d.corner;
      refusals = d.refusals;
      first = ap (λ l. item ∷ l) d.first;
      second = ap (λ l. item ∷ l) d.second;
    })

-- both refusals close
two_close : (item other : Item) → AreTwoRefusals item other → (closes item ≡ true) × (closes other ≡ true)
two_close item other (inl (e, f)) = (ap closes e, ap closes f)
two_close item other (inr (e, f)) = (ap closes e, ap closes f)

by_first : (n : ℕ) (bytes mid other : List ℕ) (E : Type 0) (i j : Item) (is js : List Item) (q : List ℕ) → IsItem n bytes E i mid → (closes i ≡ true → is ≡ []) → (closes j ≡ true → js ≡ [])
    → AreItems (n + 1) other E js q → (closes i ≡ false → closes j ≡ false → AreItems (n + 1) mid E js q → OneFrom (n + 1) mid E is js)
    → ((i ≡ j) × (mid ≡ other)) ⊎ (IsCorner bytes × AreTwoRefusals i j) → (c : Bool) → closes i ≡ c → OneFrom n bytes E (i ∷ is) (j ∷ js)
by_first n bytes mid other E i j is js q item none none_too are later (inr (corner, two)) c e =
    let close = two_close i j two in
    inr (record {
      same = [];
      rest = bytes;
      item = i;
      other = j;
      same_are = refl;
      corner = corner;
      refusals = two;
      first = ap (λ l. i ∷ l) (none close.0);
      second = ap (λ l. j ∷ l) (none_too close.1);
    })
by_first n bytes mid other E i j is js q item none none_too are later (inl same) true e =
    let first : is ≡ [] = none e in
    let second : js ≡ [] = none_too (ap closes (sym same.0) ∙ e) in
    inl cc
by_first n bytes mid other E i j is js q item none none_too are later (inl same) false e =
    let there : AreItems (n + 1) mid E js q = subst (λ (b : List ℕ). AreItems (n + 1) b E js q) (sym same.1) are in
    let rest = behind n bytes mid E i is js e item (later e (ap closes (sym same.0) ∙ e) there) in
    subst (λ (k : Item). OneFrom n bytes E (i ∷ is) (k ∷ js)) same.0 rest

pub one_list : (n : ℕ) (bytes : List ℕ) (E : Type 0) (items others : List Item) (r q : List ℕ) → AreItems n bytes E items r → AreItems n bytes E others q → Stops E items r → Stops E others q
    → OneFrom n bytes E items others
one_list n bytes E [] [] r q x y s t = inl refl
one_list n bytes E [] (j ∷ js) r q x y s t = absurd (none_stops n bytes E j r y.0 s x y.1)
one_list n bytes E (i ∷ is) [] r q x y s t = absurd (none_stops n bytes E i q x.0 t y x.1)
one_list n bytes E (i ∷ is) (j ∷ js) r q x y s t =
    by_first n bytes x.0 y.0 E i j is js q x.1 x.2 y.2 y.3
    (λ oi oj there. one_list (n + 1) x.0 E is js r q x.3 there (stops_after E i is r oi s) (stops_after E j js q oj t))
    (one_reading n bytes E i j x.0 y.0 x.1 y.1) (closes i) refl
