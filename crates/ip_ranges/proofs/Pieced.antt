-- The blocks of a set that has just the addresses of a range are the range's pieces.
use Rattle.std.proofs.Common.{◌≡◌, ◌⊎◌, inl, inr, ◌↔◌, ℕ, zero, suc, ◌+◌, ◌-◌, ◌*◌, ◌^◌, ◌<◌, ◌≤◌, nat_lt, Bool, true, false, IsTrue, Result, Ok, Err, IfOk, List, [], ◌∷◌, ◌++◌, length, flat_map, refl, ap, sym, subst, ◌∙◌, arith}
use Rattle.std.specs.List.{AllByRecursion}
use Rattle.std.proofs.lemmas.Bool.Decides.{nat_tests}
use Rattle.std.proofs.lemmas.Nat.{pow_pos}
use Rattle.inet_num.specs.declared.Family.{Family}
use Rattle.inet_num.specs.Net.{width_of, Cidr, IsBlock, size_of}
use Rattle.inet_num.specs.Count.{numbers_from, addresses_of}
use Rattle.inet_num.specs.Free.{InOrder, has_address, is_taken}
use Rattle.inet_num.specs.declared.Family.TheVariants.{V4, V6}
use Rattle.inet_num.specs.Fewest.{HaveJust, IsWithin}
use Rattle.inet_num.proofs.Counts.{numbers_from-append}
use Rattle.span_set.specs.declared.runs.Run.{Run}
use Rattle.span_set.specs.Runs.{IsBetween, in_runs}
use Rattle.span_set.specs.Spans.{Spans, IsIn}
use Rattle.span_set.specs.Blocks.{NoneIsShorter, ListsLargest}
use Rattle.span_set.proofs.Greedy.{All-weaker}
use Rattle.ipam_data.specs.declared.range.IpRange.{IpRange}
use Rattle.ipam_data.specs.Lawful.{IsRange}
use Rattle.ip_ranges.specs.Pieces.{ArePieces}
use Rattle.ip_ranges.proofs.Covered.{IsWithinRun, IsCover, covered}

-- blocks in order have no number before their begin
taken_from : (from : ℕ) (bs : List Cidr) (a : ℕ) → InOrder from bs → IsTrue (is_taken bs a) → from ≤ a
taken_from from [] a o t = (let f : IsTrue false = t in cc)
taken_from from (b ∷ bs) a o t = go (has_address b a) refl (taken_from (b.first + size_of b) bs a o.1) where
  go : (s : Bool) → has_address b a ≡ s → (IsTrue (is_taken bs a) → b.first + size_of b ≤ a) → from ≤ a
  go true e later = (let l = o.0 in let m : b.first ≤ a = grind (arith, nat_tests) in omega arith)
  go false e later = (let rest : IsTrue (is_taken bs a) = grind arith in let l = o.0 in let m = later rest in omega arith)

taken_head : (b : Cidr) (bs : List Cidr) (a : ℕ) → b.first ≤ a → a < b.first + size_of b → IsTrue (is_taken (b ∷ bs) a)
taken_head b bs a l m = (let h : has_address b a ≡ true = grind (arith, nat_tests) in grind arith)

taken_rest : (b : Cidr) (bs : List Cidr) (a : ℕ) → IsTrue (is_taken bs a) → IsTrue (is_taken (b ∷ bs) a)
taken_rest b bs a t = go (has_address b a) refl where
  go : (s : Bool) → has_address b a ≡ s → IsTrue (is_taken (b ∷ bs) a)
  go true e = grind arith
  go false e = grind arith

taken_later : (b : Cidr) (bs : List Cidr) (a : ℕ) → has_address b a ≡ false → IsTrue (is_taken (b ∷ bs) a) → IsTrue (is_taken bs a)
taken_later b bs a e t = grind arith

-- blocks in order that have just the numbers of a run have them one after another
pub run_of : (bs : List Cidr) (from n : ℕ) → InOrder from bs → ((a : ℕ) → from ≤ a → a < from + n → IsTrue (is_taken bs a)) → ((a : ℕ) → IsTrue (is_taken bs a) → a < from + n)
    → flat_map addresses_of bs ≡ numbers_from from n
unfolding numbers_from addresses_of
run_of [] from zero o t u = refl
run_of [] from (suc n) o t u = (let f : IsTrue false = t from (omega arith) (omega arith) in cc)
run_of (b ∷ bs) from n o t u =
    let p = pow_pos (width_of b.family - b.len) in
    let low = o.0 in
    let inside = u b.first (taken_head b bs b.first (omega arith) (omega arith)) in
    let at : b.first ≡ from = begins (nat_lt from b.first) refl in
    let last = u (b.first + size_of b - 1) (taken_head b bs (b.first + size_of b - 1) (omega arith) (omega arith)) in
    let size_fits : size_of b ≤ n = omega arith in
    let order : InOrder (from + size_of b) bs = subst (λ (m : ℕ). InOrder (m + size_of b) bs) at o.1 in
    let rest = run_of bs (from + size_of b) (n - size_of b) order
    (λ a l m. taken_later b bs a (outside a (omega arith)) (t a (omega arith) (omega arith))) (λ a h. (let m = u a (taken_rest b bs a h) in omega arith)) in
    let whole : size_of b + (n - size_of b) ≡ n = omega arith in
    let head : numbers_from b.first (size_of b) ≡ numbers_from from (size_of b) = ap (λ (m : ℕ). numbers_from m (size_of b)) at in
    ap (λ (ns : List ℕ). ns ++ flat_map addresses_of bs) head
    ∙ ap (λ (ns : List ℕ). numbers_from from (size_of b) ++ ns) rest
    ∙ sym (numbers_from-append from (size_of b) (n - size_of b))
    ∙ ap (numbers_from from) whole
  where
    begins : (s : Bool) → nat_lt from b.first ≡ s → b.first ≡ from
    begins true s =
        let h : from < b.first = grind (arith, nat_tests, s) in
        let p = pow_pos (width_of b.family - b.len) in
        let i = u b.first (taken_head b bs b.first (omega arith) (omega arith)) in
        let e : has_address b from ≡ false = grind (arith, nat_tests) in
        let k = taken_from (b.first + size_of b) bs from o.1 (taken_later b bs from e (t from (omega arith) (omega arith))) in
        absurd (omega arith)
    begins false s = (let h : b.first ≤ from = grind (arith, nat_tests, s) in let l = o.0 in omega arith)

    outside : (a : ℕ) → b.first + size_of b ≤ a → has_address b a ≡ false
    outside a h = grind (arith, nat_tests)

-- ---- from what a set of addresses answers

order_from : (from : ℕ) (bs : List Cidr) → InOrder 0 bs → ((a : ℕ) → IsTrue (is_taken bs a) → from ≤ a) → InOrder from bs
order_from from [] o h = tt
order_from from (b ∷ bs) o h = (let p = pow_pos (width_of b.family - b.len) in h b.first (taken_head b bs b.first (omega arith) (omega arith)), o.1)

wide : (f : Family) → 32 ≤ width_of f
wide V4 = omega arith
wide V6 = omega arith

-- the set has just the addresses of the range
abbrev pub HasJustRange : Spans → IpRange → Type 0
HasJustRange set row = (a : ℕ) → IsIn set a ↔ IsBetween row.ends.start.value row.ends.end.value a

module _ (row : IpRange) (set : Spans) (is : IsRange row) (family : set.family ≡ row.ends.start.family) (just : HasJustRange set row) where
  cover_just : (bs : List Cidr) (k : ℕ) → IsCover set.family row.ends.start.value (row.ends.end.value + 1) k bs → HaveJust set.family (IsIn set) bs
  cover_just bs k c = record {
    each = All-weaker (IsWithinRun set.family row.ends.start.value (row.ends.end.value + 1)) (IsWithin set.family (IsIn set)) bs inside c.each;
    covers = λ a h. (let b = (just a).0 h in let l = b.0 in let u = b.1 in c.covers a l (omega arith));
  }
    where
      inside : (b : Cidr) → IsWithinRun set.family row.ends.start.value (row.ends.end.value + 1) b → IsWithin set.family (IsIn set) b
      inside b h = record { lawful = h.lawful; family_is = h.family_is; inside = λ a i. (let l = h.low in let u = h.high in let x = i.0 in let y = i.1 in (just a).1 (omega arith, omega arith)) }

  range_just : (cs : List Cidr) → HaveJust row.ends.start.family (IsBetween row.ends.start.value row.ends.end.value) cs → HaveJust set.family (IsIn set) cs
  range_just cs h = record {
    each = All-weaker (IsWithin row.ends.start.family (IsBetween row.ends.start.value row.ends.end.value)) (IsWithin set.family (IsIn set)) cs
        (λ b w. record { lawful = w.lawful; family_is = w.family_is ∙ sym family; inside = λ a i. (just a).1 (w.inside a i) }) h.each;
    covers = λ a i. h.covers a ((just a).0 i);
  }

  few_pieces : (bs : List Cidr) → NoneIsShorter set.family (IsIn set) bs → length bs ≤ 64
  few_pieces bs shorter =
      let end = is.bounds.ends.end in
      let bound : row.ends.end.value < 2 ^ width_of set.family = subst (λ (f : Family). row.ends.end.value < 2 ^ width_of f) (sym (family ∙ is.family)) end in
      let order = is.order in
      let size = is.size in
      let cover = covered set.family 32 row.ends.start.value (row.ends.end.value + 1) (wide set.family) (omega arith) (omega arith) (omega arith) in
      let few = cover.1.few in
      let least = shorter cover.0 (cover_just cover.0 (2 * 32) cover.1) in
      omega arith

  pub are_pieces : (bs : List Cidr) → ListsLargest set.family (IsIn set) bs → NoneIsShorter set.family (IsIn set) bs → ((a : ℕ) → IsIn set a ↔ IsTrue (is_taken bs a)) → AllByRecursion IsBlock bs
      → AllByRecursion (λ b. b.family ≡ set.family) bs → ArePieces row bs
  are_pieces bs lists shorter members lawful families =
      let from = row.ends.start.value in
      let order = is.order in
      let within : (a : ℕ) → IsTrue (is_taken bs a) → IsBetween row.ends.start.value row.ends.end.value a = λ a t. (just a).0 ((members a).1 t) in
      let ordered = order_from row.ends.start.value bs lists.ordered (λ a t. (within a t).0) in
      record {
        addresses = run_of bs row.ends.start.value (row.ends.end.value + 1 - row.ends.start.value) ordered (λ a l u. (members a).0 ((just a).1 (l, omega arith))) (λ a t. (let w = within a t in let v = w.1 in omega arith));
        family = All-weaker (λ b. b.family ≡ set.family) (λ b. b.family ≡ row.ends.start.family) bs (λ b e. e ∙ family) families;
        lawful = lawful;
        fewest = λ cs h. shorter cs (range_just cs h);
        few = few_pieces bs shorter;
      }

  pub pieces_ok : {V E : Type 0} (items : V → List Cidr) (r : Result V E) → IfOk r (λ v. ListsLargest set.family (IsIn set) (items v)) → IfOk r (λ v. NoneIsShorter set.family (IsIn set) (items v))
      → IfOk r (λ v. (a : ℕ) → IsIn set a ↔ IsTrue (is_taken (items v) a)) → IfOk r (λ v. AllByRecursion IsBlock (items v)) → IfOk r (λ v. AllByRecursion (λ b. b.family ≡ set.family) (items v))
      → IfOk r (λ v. ArePieces row (items v))
  pieces_ok items (Ok v) a b c d e = are_pieces (items v) a b c d e
  pieces_ok items (Err x) a b c d e = tt

-- the set of one span
pub just_from : (row : IpRange) (old new : Spans) (first last : ℕ) → old.runs ≡ [] → first ≡ row.ends.start.value → last ≡ row.ends.end.value
    → ((a : ℕ) → IsIn new a ↔ (IsIn old a ⊎ IsBetween first last a)) → HasJustRange new row
just_from row old new first last empty f l added = λ a. ((
  λ h. elim ((added a).0 h) [
    | inl o ↦ absurd (nothing a o)
    | inr b ↦ (let x = b.0 in let y = b.1 in (omega arith, omega arith))
  ],
  λ b. (let x = b.0 in let y = b.1 in (added a).1 (inr (omega arith, omega arith))),
)
    )
  where
    nothing : (a : ℕ) → IsIn old a → ⊥
    nothing a o = (let e : IsTrue false = subst (λ (rs : List Run). IsTrue (in_runs rs a)) empty o in cc)
