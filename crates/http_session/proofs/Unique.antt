-- The bytes have one next item.
use Rattle.std.proofs.Common.{◌≡◌, ◌∙◌, ◌+◌, ◌-◌, ◌≤◌, ◌⊎◌, ◌||◌, nat_le, ℕ, Bool, List, [], ◌++◌, length, take, Result, Ok, Err, inl, inr, refl, sym, ap, subst, arith, append-nil, length-append}
use Rattle.std.proofs.Math.Seq.{take-append-add, take-append_seam}
use Rattle.std.proofs.lemmas.List.{append_cancel_left}
use Rattle.httparse.specs.Grammar.{RequestHead, print_request}
use Rattle.httparse.proofs.GrammarLemmas.{request_unique}
use Rattle.http_session.specs.declared.request.Fault.{Fault}
use Rattle.http_session.specs.declared.request.Fault.TheVariants.{BadHead, LargeHead, LargeBody, Coding}
use Rattle.http_session.specs.Laws.{AreTwoRefusals, IsCorner}
use Rattle.http_session.specs.Fields.{asks_close, length_of}
use Rattle.http_session.specs.Requests.{BeginsWithHead, Framed, HasHead, HasLength, IsItem, IsRefused, IsRequest, Item, Asks, Refuses, MayBecomeHead, NeverHead, StopsShort, front}

head_in_front : (bytes : List ℕ) (h : RequestHead) (rest : List ℕ) → HasHead bytes h rest → (tail : List ℕ) × BeginsWithHead (front bytes) h tail
head_in_front bytes h rest has =
    let room : 16384 ≡ length (print_request h) + (16384 - length (print_request h)) = omega (arith, has.short) in
    let e : front bytes ≡ print_request h ++ take (16384 - length (print_request h)) rest =
    ap (take 16384) has.begins.reads.1 ∙ ap (λ k. take k (print_request h ++ rest)) room ∙ take-append-add (print_request h) rest (16384 - length (print_request h)) in
    (take (16384 - length (print_request h)) rest, record { reads = (has.begins.reads.0, e); few = has.begins.few })

never_has : (bytes : List ℕ) (h : RequestHead) (rest : List ℕ) → NeverHead (front bytes) → HasHead bytes h rest → ⊥
never_has bytes h rest never has = let f = head_in_front bytes h rest has in never [] h f.0 (subst (λ b. BeginsWithHead b h f.0) (sym (append-nil (front bytes))) f.1)

may_has : (bytes : List ℕ) (h : RequestHead) (rest : List ℕ) → MayBecomeHead (front bytes) → HasHead bytes h rest → ⊥
may_has bytes h rest may has = let f = head_in_front bytes h rest has in may.none h f.0 f.1

same_said : (bytes : List ℕ) (said other : Result ℕ Fault) (r q : List ℕ) → HasLength bytes said r → HasLength bytes other q → (said ≡ other) × (r ≡ q)
same_said bytes said other r q x y =
    let one = request_unique bytes x.0 y.0 r q x.1.begins.reads y.1.begins.reads in (sym x.2 ∙ ap length_of one.0 ∙ y.2, one.1)

err_same : (e f : Fault) → ◌≡◌ {A = Result ℕ Fault} (Err e) (Err f) → e ≡ f
err_same e f h = cc h

ok_err : (k : ℕ) (f : Fault) → ◌≡◌ {A = Result ℕ Fault} (Ok k) (Err f) → ⊥
ok_err k f h = cc h

ok_same : (k m : ℕ) → ◌≡◌ {A = Result ℕ Fault} (Ok k) (Ok m) → k ≡ m
ok_same k m h = cc h

-- a head whose fields refuse, and an input that stops short
short_err : (bytes : List ℕ) (f : Fault) (r : List ℕ) → HasLength bytes (Err f) r → StopsShort bytes → ⊥
short_err bytes f r x (inl (some, (small, may))) = may.none x.0 r x.1.begins
short_err bytes f r x (inr (k, q, y, few)) = ok_err k f (same_said bytes (Ok k) (Err f) q r y x).0

no_refusal : (bytes : List ℕ) (E : Type 0) (m : ℕ) (r : List ℕ) (f : Fault) → HasLength bytes (Ok m) r → m ≤ length r → IsRefused bytes E f → ⊥
no_refusal bytes E m r BadHead x long (inl never) = never_has bytes x.0 r never x.1
no_refusal bytes E m r BadHead x long (inr (inl (q, y))) = ok_err m BadHead (same_said bytes (Ok m) (Err BadHead) r q x y).0
no_refusal bytes E m r BadHead x long (inr (inr (e, inl (some, (small, may))))) = may.none x.0 r x.1.begins
no_refusal bytes E m r BadHead x long (inr (inr (e, inr (k, q, y, few)))) =
    let one = same_said bytes (Ok m) (Ok k) r q x y in let same = ok_same m k one.0 in let rests = ap length one.1 in omega arith
no_refusal bytes E m r LargeHead x long (full, may) = may_has bytes x.0 r may x.1
no_refusal bytes E m r LargeBody x long (q, y) = ok_err m LargeBody (same_said bytes (Ok m) (Err LargeBody) r q x y).0
no_refusal bytes E m r Coding x long (q, y) = ok_err m Coding (same_said bytes (Ok m) (Err Coding) r q x y).0

-- BadHead beside another refusal
bad_beside : (bytes : List ℕ) (E : Type 0) (f : Fault) (r : List ℕ) → IsRefused bytes E BadHead → HasLength bytes (Err f) r → BadHead ≡ f
bad_beside bytes E f r (inl never) y = absurd (never_has bytes y.0 r never y.1)
bad_beside bytes E f r (inr (inl (q, x))) y = err_same BadHead f (same_said bytes (Err BadHead) (Err f) q r x y).0
bad_beside bytes E f r (inr (inr (e, short))) y = absurd (short_err bytes f r y short)

bad_or_large : (bytes : List ℕ) (E : Type 0) → IsRefused bytes E BadHead → IsRefused bytes E LargeHead → IsCorner bytes
bad_or_large bytes E (inl never) (full, may) = (full, never, may)
bad_or_large bytes E (inr (inl (q, x))) (full, may) = absurd (may_has bytes x.0 q may x.1)
bad_or_large bytes E (inr (inr (e, inl (some, (small, m))))) (full, may) = absurd (omega (arith, small, full))
bad_or_large bytes E (inr (inr (e, inr (k, q, y, few)))) (full, may) = absurd (may_has bytes y.0 q may y.1)

large_beside : (bytes : List ℕ) (f : Fault) (r : List ℕ) → MayBecomeHead (front bytes) → HasLength bytes (Err f) r → ⊥
large_beside bytes f r may y = may_has bytes y.0 r may y.1

one_refusal : (bytes : List ℕ) (E : Type 0) (f g : Fault) → IsRefused bytes E f → IsRefused bytes E g → (f ≡ g) ⊎ (IsCorner bytes × AreTwoRefusals (Refuses f) (Refuses g))
one_refusal bytes E BadHead BadHead x y = inl refl
one_refusal bytes E BadHead LargeHead x y = inr (bad_or_large bytes E x y, inl (refl, refl))
one_refusal bytes E BadHead LargeBody x y = inl (bad_beside bytes E LargeBody y.0 x y.1)
one_refusal bytes E BadHead Coding x y = inl (bad_beside bytes E Coding y.0 x y.1)
one_refusal bytes E LargeHead BadHead x y = inr (bad_or_large bytes E y x, inr (refl, refl))
one_refusal bytes E LargeHead LargeHead x y = inl refl
one_refusal bytes E LargeHead LargeBody x y = absurd (large_beside bytes LargeBody y.0 x.1 y.1)
one_refusal bytes E LargeHead Coding x y = absurd (large_beside bytes Coding y.0 x.1 y.1)
one_refusal bytes E LargeBody BadHead x y = inl (sym (bad_beside bytes E LargeBody x.0 y x.1))
one_refusal bytes E LargeBody LargeHead x y = absurd (large_beside bytes LargeBody x.0 y.1 x.1)
one_refusal bytes E LargeBody LargeBody x y = inl refl
one_refusal bytes E LargeBody Coding x y = inl (err_same LargeBody Coding (same_said bytes (Err LargeBody) (Err Coding) x.0 y.0 x.1 y.1).0)
one_refusal bytes E Coding BadHead x y = inl (sym (bad_beside bytes E Coding x.0 y x.1))
one_refusal bytes E Coding LargeHead x y = absurd (large_beside bytes Coding x.0 y.1 x.1)
one_refusal bytes E Coding LargeBody x y = inl (err_same Coding LargeBody (same_said bytes (Err Coding) (Err LargeBody) x.0 y.0 x.1 y.1).0)
one_refusal bytes E Coding Coding x y = inl refl

-- two fronts of one length
same_fronts : (a b x y : List ℕ) → a ++ x ≡ b ++ y → length a ≡ length b → (a ≡ b) × (x ≡ y)
same_fronts a b x y e l =
    let fronts : a ≡ b = sym (take-append_seam a x) ∙ ap (take (length a)) e ∙ ap (λ k. take k (b ++ y)) l ∙ take-append_seam b y in
    (fronts, append_cancel_left a x y (e ∙ ap (λ t. t ++ y) (sym fronts)))

same_framed : (m t b : List ℕ) (c : Bool) (m' t' b' : List ℕ) (c' : Bool) → m ≡ m' → t ≡ t' → b ≡ b' → c ≡ c' → ◌≡◌ {A = Framed} (record { method = m; target = t; body = b; close = c }) (record { method = m'; target = t'; body = b'; close = c' })
same_framed m t b c m' t' b' c' hm ht hb hc = cc

long_rest : (a b : List ℕ) → length a ≤ length (a ++ b)
long_rest a b = omega (arith, length-append a b)

one_request : (n : ℕ) (bytes : List ℕ) (p q : Framed) (r s : List ℕ) → IsRequest n bytes p r → IsRequest n bytes q s → (p ≡ q) × (r ≡ s)
one_request n bytes p q r s x y =
    let one = request_unique bytes x.head y.head (p.body ++ r) (q.body ++ s) x.has.begins.reads y.has.begins.reads in
    let size : length p.body ≡ length q.body = ok_same (length p.body) (length q.body) (sym x.said ∙ ap length_of one.0 ∙ y.said) in
    let bodies = same_fronts p.body q.body r s one.1 size in
    let methods : p.method ≡ q.method = x.method ∙ ap (λ h. h.method) one.0 ∙ sym y.method in
    let targets : p.target ≡ q.target = x.target ∙ ap (λ h. h.target) one.0 ∙ sym y.target in
    let ends : p.close ≡ q.close = x.close ∙ ap (λ h. asks_close h || nat_le 999 n) one.0 ∙ sym y.close in
    (same_framed p.method p.target p.body p.close q.method q.target q.body q.close methods targets bodies.0 ends, bodies.1)

pub one_reading : (n : ℕ) (bytes : List ℕ) (E : Type 0) (item other : Item) (r q : List ℕ) → IsItem n bytes E item r → IsItem n bytes E other q → ((item ≡ other) × (r ≡ q)) ⊎ (IsCorner bytes × AreTwoRefusals item other)
one_reading n bytes E (Asks a) (Asks b) r q x y = let one = one_request n bytes a b r q x y in inl (ap Asks one.0, one.1)
one_reading n bytes E (Asks a) (Refuses f) r q x y = absurd (no_refusal bytes E (length a.body) (a.body ++ r) f (x.head, x.has, x.said) (long_rest a.body r) y.0)
one_reading n bytes E (Refuses f) (Asks b) r q x y = absurd (no_refusal bytes E (length b.body) (b.body ++ q) f (y.head, y.has, y.said) (long_rest b.body q) x.0)
one_reading n bytes E (Refuses f) (Refuses g) r q x y = elim (one_refusal bytes E f g x.0 y.0) as (λ _. ((Refuses f ≡ Refuses g) × (r ≡ q)) ⊎ (IsCorner bytes × AreTwoRefusals (Refuses f) (Refuses g))) [
  | inl e ↦ inl (ap Refuses e, x.1 ∙ sym y.1)
  | inr c ↦ inr c
]
