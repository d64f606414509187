-- Entries in order: what putting one in and taking one out does, the entries of a lane, and what meets a span.
use Rattle.std.proofs.Common.{◌≡◌, ℕ, zero, suc, ◌+◌, ◌-◌, ◌^◌, ◌<◌, ◌≤◌, ◌==◌, ◌&&◌, nat_lt, nat_le, not, IsFalse, Bool, true, false, cond, List, [], ◌∷◌, length, map, filter, take, drop, get_or, insert, remove, refl, ap, sym, subst, ◌∙◌, arith}
use Rattle.std.specs.List.{count_by}
use Rattle.std.specs.List.Sorted.{IsNonDecreasingBy}
use Rattle.std.proofs.lemmas.Bool.Decides.{nat_tests}
use Rattle.std.proofs.lemmas.List.{get_or-map, length-map, take-map, drop-map}
use Rattle.std.proofs.lemmas.List.Edits.{length-remove, get_or-remove_below, get_or-remove_above}
use Rattle.std.proofs.lemmas.List.Elements.{filter_passes}
use Rattle.std.proofs.lemmas.List.Sums.{sum_by-insert, sum_by-remove}
use Rattle.std.proofs.lemmas.List.Sorted.{IsNonDecreasingBy-insert}
use Rattle.std.proofs.lemmas.List.Kept.{IsNonDecreasingBy-filter}
use Rattle.inet_num.specs.declared.Span.{Span}
use Rattle.inet_num.specs.Net.{Address}
use Rattle.inet_num.specs.Blocks.{same_family, same_address}
use Rattle.inet_num.proofs.Insides.{both, one_family, same_address-refl}
use Rattle.placed_book.proofs.RowPlaces.{eq_true, eq_false, any_default}
use Rattle.ip_ranges.specs.declared.tracks.Entry.{Entry}
use Rattle.ip_ranges.specs.Tracks.{number, low, high, is_in_lane, is_met, is_same, is_wild, lane_spans, AreSeparate, FitsAt, BeginBefore, EndBefore, one}
use Rattle.ip_ranges.proofs.Counts.{count_none, none_counted}

-- ---- lists with one more, and with one less

le_false : (a b : ℕ) → b < a → nat_le a b ≡ false
le_false a b h = grind (arith, nat_tests)

pub map_insert : {T U : Type 0} (f : T → U) (xs : List T) (i : ℕ) (y : T) → i ≤ length xs → map f (insert xs i y) ≡ insert (map f xs) i (f y)
map_insert f [] zero y h = refl
map_insert f [] (suc i) y h = absurd (omega arith)
map_insert f (x ∷ xs) zero y h = refl
map_insert {T} {U} f (x ∷ xs) (suc i) y h = ap (λ (zs : List U). f x ∷ zs) (map_insert f xs i y (omega arith))

pub map_remove : {T U : Type 0} (f : T → U) (xs : List T) (i : ℕ) → i < length xs → map f (remove xs i) ≡ remove (map f xs) i
map_remove f [] i h = absurd (omega arith)
map_remove f (x ∷ xs) zero h = refl
map_remove {T} {U} f (x ∷ xs) (suc i) h = ap (λ (zs : List U). f x ∷ zs) (map_remove f xs i (omega arith))

pub sorted_remove : {T : Type 0} (n : T → ℕ) (xs : List T) (i : ℕ) → i < length xs → IsNonDecreasingBy n xs → IsNonDecreasingBy n (remove xs i)
sorted_remove {T} n xs i h s = λ j k d le l. go j k d le l (nat_lt j i) (nat_lt k i) refl refl where
  go : (j k : ℕ) (d : T) → j ≤ k → k < length (remove xs i) → (a b : Bool) → nat_lt j i ≡ a → nat_lt k i ≡ b → n (get_or (remove xs i) j d) ≤ n (get_or (remove xs i) k d)
  go j k d le l true true a b =
      let p : j < i = grind (arith, nat_tests, a) in
      let q : k < i = grind (arith, nat_tests, b) in
      let e = ap n (get_or-remove_below xs i d j p h) in
      let f = ap n (get_or-remove_below xs i d k q h) in
      let o = s j k d le (omega arith) in
      omega arith
  go j k d le l true false a b =
      let p : j < i = grind (arith, nat_tests, a) in
      let q : i ≤ k = grind (arith, nat_tests, b) in
      let m = length-remove xs i h in
      let e = ap n (get_or-remove_below xs i d j p h) in
      let f = ap n (get_or-remove_above xs i d k q h) in
      let o = s j (k + 1) d (omega arith) (omega arith) in
      omega arith
  go j k d le l false true a b =
      let p : i ≤ j = grind (arith, nat_tests, a) in
      let q : k < i = grind (arith, nat_tests, b) in
      absurd (omega arith)
  go j k d le l false false a b =
      let p : i ≤ j = grind (arith, nat_tests, a) in
      let q : i ≤ k = grind (arith, nat_tests, b) in
      let m = length-remove xs i h in
      let e = ap n (get_or-remove_above xs i d j p h) in
      let f = ap n (get_or-remove_above xs i d k q h) in
      let o = s (j + 1) (k + 1) d (omega arith) (omega arith) in
      omega arith

-- ---- separate entries

pub separate_at : (from : ℕ) (es : List Entry) (k : ℕ) (d : Entry) → AreSeparate from es → k < length es → (from ≤ low (get_or es k d)) × (low (get_or es k d) ≤ high (get_or es k d))
separate_at from [] k d h l = absurd (omega arith)
separate_at from (x ∷ es) zero d h l = (h.0, h.1)
separate_at from (x ∷ es) (suc k) d h l =
    let later = separate_at (high x + 1) es k d h.2 (omega arith) in
    let a = h.0 in
    let b = h.1 in
    (omega (arith, later.0), later.1)

pub separate_ends : (from : ℕ) (es : List Entry) → AreSeparate from es → IsNonDecreasingBy high es
separate_ends from [] h = λ i j d le l. absurd (omega arith)
separate_ends from (x ∷ es) h = λ i j d le l. go i j d le l (separate_ends (high x + 1) es h.2) where
  go : (i j : ℕ) (d : Entry) → i ≤ j → j < length (x ∷ es) → IsNonDecreasingBy high es → high (get_or (x ∷ es) i d) ≤ high (get_or (x ∷ es) j d)
  go zero zero d le l s = omega arith
  go zero (suc j) d le l s = let later = separate_at (high x + 1) es j d h.2 (omega arith) in omega (arith, later.0, later.1)
  go (suc i) zero d le l s = absurd (omega arith)
  go (suc i) (suc j) d le l s = s i j d (omega arith) (omega arith)

pub separate_begins : (from : ℕ) (es : List Entry) → AreSeparate from es → IsNonDecreasingBy low es
separate_begins from [] h = λ i j d le l. absurd (omega arith)
separate_begins from (x ∷ es) h = λ i j d le l. go i j d le l (separate_begins (high x + 1) es h.2) where
  go : (i j : ℕ) (d : Entry) → i ≤ j → j < length (x ∷ es) → IsNonDecreasingBy low es → low (get_or (x ∷ es) i d) ≤ low (get_or (x ∷ es) j d)
  go zero zero d le l s = omega arith
  go zero (suc j) d le l s = let later = separate_at (high x + 1) es j d h.2 (omega arith) in let b = h.1 in omega (arith, later.0)
  go (suc i) zero d le l s = absurd (omega arith)
  go (suc i) (suc j) d le l s = s i j d (omega arith) (omega arith)

separate_lower : (from to : ℕ) (es : List Entry) → to ≤ from → AreSeparate from es → AreSeparate to es
separate_lower from to [] l h = tt
separate_lower from to (x ∷ es) l h = (let a = h.0 in omega arith, h.1, h.2)

pub separate_insert : (from : ℕ) (es : List Entry) (k : ℕ) (e : Entry) → AreSeparate from es → k ≤ length es → low e ≤ high e → (k ≡ 0 → from ≤ low e)
    → ((d : Entry) (i : ℕ) → i + 1 ≡ k → high (get_or es i d) < low e) → ((d : Entry) → k < length es → high e < low (get_or es k d)) → AreSeparate from (insert es k e)
separate_insert from [] zero e h l o f b n = (f refl, o, tt)
separate_insert from [] (suc k) e h l o f b n = absurd (omega arith)
separate_insert from (x ∷ es) zero e h l o f b n = (let a = n x (omega arith) in (f refl, o, (omega arith, h.1, h.2)))
separate_insert from (x ∷ es) (suc k) e h l o f b n =
    let first : k ≡ 0 → high x + 1 ≤ low e = λ z. (let a = b x 0 (omega arith) in omega arith) in (
      h.0,
      h.1,
      separate_insert (high x + 1) es k e h.2 (omega arith) o first (λ d i q. b d (suc i) (omega arith)) (λ d q. n d (omega arith)),
    )

pub separate_remove : (from : ℕ) (es : List Entry) (k : ℕ) → AreSeparate from es → k < length es → AreSeparate from (remove es k)
separate_remove from [] k h l = absurd (omega arith)
separate_remove from (x ∷ es) zero h l = (let a = h.0 in let b = h.1 in separate_lower (high x + 1) from es (omega arith) h.2)
separate_remove from (x ∷ es) (suc k) h l = (h.0, h.1, separate_remove (high x + 1) es k h.2 (omega arith))

-- ---- which entries are one

one_address : (a b : Address) → same_address a b ≡ true → a ≡ b
one_address a b e =
    let h = both (same_family a.family b.family) (a.value == b.value) e in
    let t = h.1 in
    let v : a.value ≡ b.value = grind (arith, nat_tests) in
    ap (λ x. let c : Address = record { family = x; value = a.value } in c) (one_family a.family b.family h.0)
    ∙ ap (λ x. let c : Address = record { family = b.family; value = x } in c) v

one_span : (a b : Span) → a.first ≡ b.first → a.last ≡ b.last → a ≡ b
one_span a b e f =
    ap (λ x. let c : Span = record { first = x; last = a.last } in c) e
    ∙ ap (λ x. let c : Span = record { first = b.first; last = x } in c) f

abbrev pub same_span : Span → Span → Bool
same_span a b = same_address a.first b.first && same_address a.last b.last

pub same_span-is : (a b : Span) → same_span a b ≡ true → a ≡ b
same_span-is a b e =
    let h = both (same_address a.first b.first) (same_address a.last b.last) e in
    one_span a b (one_address a.first b.first h.0) (one_address a.last b.last h.1)

pub same_span-refl : (a : Span) → same_span a a ≡ true
same_span-refl a = rw (same_address-refl a.first, same_address-refl a.last) refl

one_entry : (a b : Entry) → a.lane ≡ b.lane → a.span ≡ b.span → a ≡ b
one_entry a b e f =
    ap (λ x. let c : Entry = record { lane = x; span = a.span } in c) e
    ∙ ap (λ x. let c : Entry = record { lane = b.lane; span = x } in c) f

pub is_same-is : (a b : Entry) → is_same a b ≡ true → a ≡ b
is_same-is a b e =
    let h = both (a.lane == b.lane && same_address a.span.first b.span.first) (same_address a.span.last b.span.last) e in
    let k = both (a.lane == b.lane) (same_address a.span.first b.span.first) h.0 in
    let t = k.0 in
    let l : a.lane ≡ b.lane = grind (arith, nat_tests) in
    one_entry a b l (one_span a.span b.span (one_address a.span.first b.span.first k.1) (one_address a.span.last b.span.last h.1))

pub is_same-refl : (a : Entry) → is_same a a ≡ true
is_same-refl a = rw (eq_true a.lane a.lane refl, same_address-refl a.span.first, same_address-refl a.span.last) refl

-- an entry that begins before another is another one
pub before_other : (e x : Entry) → low x < low e → is_same e x ≡ false
before_other e x h = go (is_same e x) refl where
  go : (s : Bool) → is_same e x ≡ s → is_same e x ≡ false
  go true s = let a = ap low (is_same-is e x s) in absurd (omega arith)
  go false s = s

-- ---- the entries of a lane

-- what passes in the middle alone
pub filter_middle : {T : Type 0} (t : T → Bool) (xs : List T) (from n : ℕ) → from + n ≤ length xs → ((k : ℕ) (d : T) → k < from → t (get_or xs k d) ≡ false)
    → ((k : ℕ) (d : T) → from ≤ k → k < from + n → t (get_or xs k d) ≡ true) → ((k : ℕ) (d : T) → from + n ≤ k → k < length xs → t (get_or xs k d) ≡ false)
    → filter t xs ≡ take n (drop from xs)
filter_middle t [] zero zero l a b c = refl
filter_middle t [] zero (suc n) l a b c = absurd (omega arith)
filter_middle t [] (suc from) n l a b c = absurd (omega arith)
filter_middle {T} t (x ∷ xs) zero zero l a b c = ap (λ (s : Bool). cond s (x ∷ filter t xs) (filter t xs)) (c 0 x (omega arith) (omega arith)) ∙ none xs (λ k d q. c (suc k) d (omega arith) (omega arith)) where
  none : (ys : List T) → ((k : ℕ) (d : T) → k < length ys → t (get_or ys k d) ≡ false) → filter t ys ≡ []
  none [] h = refl
  none (y ∷ ys) h = ap (λ (s : Bool). cond s (y ∷ filter t ys) (filter t ys)) (h 0 y (omega arith)) ∙ none ys (λ k d q. h (suc k) d (omega arith))
filter_middle {T} t (x ∷ xs) zero (suc n) l a b c =
    let ih = filter_middle t xs 0 n (omega arith) (λ k d q. absurd (omega arith)) (λ k d p q. b (suc k) d (omega arith) (omega arith)) (λ k d p q. c (suc k) d (omega arith) (omega arith)) in
    let head = ap (λ (s : Bool). cond s (x ∷ filter t xs) (filter t xs)) (b 0 x (omega arith) (omega arith)) in
    head ∙ ap (λ (ys : List T). x ∷ ys) ih
filter_middle {T} t (x ∷ xs) (suc from) n l a b c =
    let ih = filter_middle t xs from n (omega arith) (λ k d q. a (suc k) d (omega arith)) (λ k d p q. b (suc k) d (omega arith) (omega arith)) (λ k d p q. c (suc k) d (omega arith) (omega arith)) in
    let head = ap (λ (s : Bool). cond s (x ∷ filter t xs) (filter t xs)) (a 0 x (omega arith)) in
    head ∙ ih

pub lane_order : (lane : ℕ) (es : List Entry) (from to : ℕ) → from ≤ length es → BeginBefore (number lane 0) es from → BeginBefore (number (lane + 1) 0) es to → from ≤ to
lane_order lane [] from to l p q = omega arith
lane_order lane (x ∷ es) from to l p q = go (nat_lt to from) refl where
  go : (s : Bool) → nat_lt to from ≡ s → from ≤ to
  go true s =
      let h : to < from = grind (arith, nat_tests, s) in
      let a = p.0 to x (omega arith) h in
      let b = q.1 to x (omega arith) (omega arith) in
      absurd (omega arith)
  go false s = grind (arith, nat_tests, s)

-- it stands between the places where it begins and where the next one does
pub lane_middle : (lane : ℕ) (es : List Entry) (from to : ℕ) → count_by is_wild es ≡ 0 → from ≤ to → to ≤ length es
    → BeginBefore (number lane 0) es from → BeginBefore (number (lane + 1) 0) es to → filter (is_in_lane lane) es ≡ take (to - from) (drop from es)
lane_middle lane es from to w order l p q = filter_middle (is_in_lane lane) es from (to - from) (omega arith) before (λ k d a b. inside k d a (omega arith)) (λ k d a b. behind k d (omega arith) b) where
  tame : (k : ℕ) (d : Entry) → k < length es → (get_or es k d).span.first.value < 2 ^ 128
  tame k d h = let t = none_counted is_wild es k d w h in grind (arith, nat_tests)

  before : (k : ℕ) (d : Entry) → k < from → is_in_lane lane (get_or es k d) ≡ false
  before k d h = let o = p.0 k d (omega arith) h in eq_false _ _ (omega arith)

  inside : (k : ℕ) (d : Entry) → from ≤ k → k < to → is_in_lane lane (get_or es k d) ≡ true
  inside k d a b =
      let o = p.1 k d a (omega arith) in
      let u = q.0 k d (omega arith) b in
      let t = tame k d (omega arith) in
      eq_true _ _ (omega arith)

  behind : (k : ℕ) (d : Entry) → to ≤ k → k < length es → is_in_lane lane (get_or es k d) ≡ false
  behind k d a b = let o = q.1 k d a b in let t = tame k d b in eq_false _ _ (omega arith)

-- and so do the spans
pub lane_part : (lane : ℕ) (es : List Entry) (spans : List Span) (from to : ℕ) → spans ≡ map (λ e. e.span) es → count_by is_wild es ≡ 0 → from ≤ to → to ≤ length es
    → BeginBefore (number lane 0) es from → BeginBefore (number (lane + 1) 0) es to → take (to - from) (drop from spans) ≡ lane_spans lane es
lane_part lane es spans from to s w order l p q =
    ap (λ (ys : List Span). take (to - from) (drop from ys)) s
    ∙ ap (take (to - from)) (drop-map (λ e. e.span) from es)
    ∙ take-map (λ e. e.span) (to - from) (drop from es)
    ∙ ap (map (λ e. e.span)) (sym (lane_middle lane es from to w order l p q))

-- in a lane they rise
pub lane_rises : (lane : ℕ) (es : List Entry) → IsNonDecreasingBy low es → IsNonDecreasingBy (λ s. s.first.value) (lane_spans lane es)
lane_rises lane es s = λ i j d le l. (
    let kept = filter (is_in_lane lane) es in
    rises kept (IsNonDecreasingBy-filter low (is_in_lane lane) es s) (filter_passes (is_in_lane lane) es) i j d le l
    ) where
      rises : (xs : List Entry) → IsNonDecreasingBy low xs → ((k : ℕ) (e : Entry) → k < length xs → is_in_lane lane (get_or xs k e) ≡ true)
          → (i j : ℕ) (d : Span) → i ≤ j → j < length (map (λ e. e.span) xs) → (get_or (map (λ e. e.span) xs) i d).first.value ≤ (get_or (map (λ e. e.span) xs) j d).first.value
      rises xs s p i j d le l =
          let n = length-map xs (λ e. e.span) in
          let e : Entry = record { lane = 0; span = d } in
          let a = ap (λ (z : Span). z.first.value) (get_or-map (λ e. e.span) xs i e d (omega arith)) in
          let b = ap (λ (z : Span). z.first.value) (get_or-map (λ e. e.span) xs j e d (omega arith)) in
          let t = p i e (omega arith) in
          let u = p j e (omega arith) in
          let v : (get_or xs i e).lane ≡ lane = grind (arith, nat_tests, t) in
          let w : (get_or xs j e).lane ≡ lane = grind (arith, nat_tests, u) in
          let o = s i j e le (omega arith) in
          omega arith

-- ---- what meets a span

met : (e x : Entry) → is_met e x ≡ true → (x.lane ≡ e.lane) × (x.span.first.value ≤ e.span.last.value) × (e.span.first.value ≤ x.span.last.value)
met e x t =
    let a = both (x.lane == e.lane && nat_le x.span.first.value e.span.last.value) (nat_le e.span.first.value x.span.last.value) t in
    let b = both (x.lane == e.lane) (nat_le x.span.first.value e.span.last.value) a.0 in
    let c = b.0 in
    let d = b.1 in
    let f = a.1 in
    (grind (arith, nat_tests), grind (arith, nat_tests), grind (arith, nat_tests))

-- among separate entries only the first that does not end before the span can
pub none_met : (e : Entry) (es : List Entry) (from : ℕ) → AreSeparate 0 es → EndBefore (low e) es from → ((d : Entry) → from < length es → high e < low (get_or es from d)) → count_by (is_met e) es ≡ 0
none_met e es from h p n = count_none (is_met e) es (λ k d l. go k d l (is_met e (get_or es k d)) (nat_lt k from) refl refl) where
  go : (k : ℕ) (d : Entry) → k < length es → (s t : Bool) → is_met e (get_or es k d) ≡ s → nat_lt k from ≡ t → is_met e (get_or es k d) ≡ false
  go k d l false t a f = a
  go k d l true true a f =
      let b : k < from = grind (arith, nat_tests, f) in
      let o = p.0 k d (omega arith) b in
      let m = met e (get_or es k d) a in
      absurd (omega (arith, m.0, m.2))
  go k d l true false a f =
      let b : from ≤ k = grind (arith, nat_tests, f) in
      let o = n d (omega arith) in
      let m = met e (get_or es k d) a in
      let up = separate_begins 0 es h from k d b l in
      absurd (omega (arith, m.0, m.1))

-- so none is met where it begins behind the end, as code compares the two
pub none_met_from : (e x : Entry) (es : List Entry) (from l v m w : ℕ) → AreSeparate 0 es → EndBefore (low e) es from → x ≡ get_or es from x
    → l ≡ e.lane → v ≡ e.span.last.value → m ≡ x.lane → w ≡ x.span.first.value → nat_lt (number l v) (number m w) ≡ true → count_by (is_met e) es ≡ 0
none_met_from e x es from l v m w s p at a b c d t = none_met e es from s p (λ y h. (
    let same : low (get_or es from y) ≡ low x = ap low (any_default low es from y x h ∙ sym at) in
    let less : number l v < number m w = grind (arith, nat_tests, t) in
    omega arith
    ))

pub was_true : (b : Bool) → IsFalse (not b) → b ≡ true
was_true true f = refl
was_true false f = (let g : IsFalse true = f in cc)

-- ---- a track changed

pub put_sorted : (es new : List Entry) (k : ℕ) (e : Entry) → IsNonDecreasingBy low es → k ≤ length es → BeginBefore (low e) es k → new ≡ insert es k e → IsNonDecreasingBy low new
put_sorted es new k e s l p is = subst (IsNonDecreasingBy low) (sym is) (IsNonDecreasingBy-insert low es k e s l (λ j d h. (let o = p.0 j d (omega arith) h in omega arith)) (λ j d h m. p.1 j d h m))

pub put_spans : (es new : List Entry) (spans after : List Span) (k : ℕ) (e : Entry) → spans ≡ map (λ e. e.span) es → k ≤ length es → new ≡ insert es k e → after ≡ insert spans k e.span → after ≡ map (λ e. e.span) new
put_spans es new spans after k e s l is then = then ∙ ap (λ (ys : List Span). insert ys k e.span) s ∙ sym (map_insert (λ e. e.span) es k e l) ∙ ap (map (λ e. e.span)) (sym is)

pub put_separate : (es new : List Entry) (k : ℕ) (e : Entry) → AreSeparate 0 es → k ≤ length es → FitsAt es k e → new ≡ insert es k e → AreSeparate 0 new
put_separate es new k e s l f is = subst (AreSeparate 0) (sym is) (separate_insert 0 es k e s l f.order (λ z. omega arith) f.before f.behind)

pub put_counts : (es new : List Entry) (k : ℕ) (e : Entry) (p : Entry → Bool) → new ≡ insert es k e → count_by p new ≡ count_by p es + one (p e)
put_counts es new k e p is = ap (count_by p) is ∙ sum_by-insert (λ x. cond (p x) 1 0) es k e

pub put_wild : (es new : List Entry) (k : ℕ) (e : Entry) → count_by is_wild es ≡ 0 → e.span.first.value < 2 ^ 128 → new ≡ insert es k e → count_by is_wild new ≡ 0
put_wild es new k e w b is =
    let tame : is_wild e ≡ false = le_false (2 ^ 128) e.span.first.value b in
    let n = put_counts es new k e is_wild is in
    let o : one (is_wild e) ≡ 0 = ap one tame in
    omega arith

pub gone_counts : (es new : List Entry) (k : ℕ) (e : Entry) (p : Entry → Bool) → k < length es → get_or es k e ≡ e → new ≡ remove es k → count_by p new + one (p e) ≡ count_by p es
gone_counts es new k e p l at is =
    let n = sum_by-remove (λ x. cond (p x) 1 0) es k e l in
    let o : one (p (get_or es k e)) ≡ one (p e) = ap (λ (x : Entry). one (p x)) at in
    let m = ap (count_by p) is in
    omega arith

pub gone_sorted : (es new : List Entry) (k : ℕ) → IsNonDecreasingBy low es → k < length es → new ≡ remove es k → IsNonDecreasingBy low new
gone_sorted es new k s l is = subst (IsNonDecreasingBy low) (sym is) (sorted_remove low es k l s)

pub gone_spans : (es new : List Entry) (spans after : List Span) (k : ℕ) → spans ≡ map (λ e. e.span) es → k < length es → new ≡ remove es k → after ≡ remove spans k → after ≡ map (λ e. e.span) new
gone_spans es new spans after k s l is then = then ∙ ap (λ (ys : List Span). remove ys k) s ∙ sym (map_remove (λ e. e.span) es k l) ∙ ap (map (λ e. e.span)) (sym is)

pub gone_separate : (es new : List Entry) (k : ℕ) → AreSeparate 0 es → k < length es → new ≡ remove es k → AreSeparate 0 new
gone_separate es new k s l is = subst (AreSeparate 0) (sym is) (separate_remove 0 es k s l)
