use Rattle.std.proofs.Common.{◌≡◌, ℕ, ◌+◌, ◌-◌, ◌%◌, ◌^◌, ◌<◌, ◌≤◌, refl, sym, ◌∙◌, ap, subst, arith, inl, inr, Bool, true, false, IsTrue, List, [], ◌∷◌, ◌++◌}
use Rattle.std.specs.List.{AllByRecursion, Contains}
use Rattle.std.proofs.lemmas.Bool.{cases_lt}
use Rattle.std.proofs.lemmas.Bool.Decides.{nat_tests}
use Rattle.std.proofs.lemmas.Nat.{pow_pos, div-add-mod'}
use Rattle.std.proofs.lemmas.List.Elements.{Contains-append_left, Contains-append_right}
use Rattle.std.proofs.Math.Nat.{add-mod_right, lt-div-mul-add, mul-mod_left}
use Rattle.inet_num.specs.declared.Family.{Family}
use Rattle.inet_num.specs.Net.{width_of, Address, Cidr, IsBlock, size_of, HasAddress, IsInside, enclosing_of, block_at, last_of}
use Rattle.inet_num.specs.Free.{InOrder, has_address, is_taken}
use Rattle.inet_num.proofs.Numbers.{inside_by_ends}
use Rattle.inet_num.proofs.Aligned.{aligned_smaller, multiples_apart, enclosing_inside}
use Rattle.inet_num.proofs.Nested.{same_by_len}
use Rattle.span_set.specs.Runs.{IsBetween}
use Rattle.span_set.specs.Blocks.{FitsAt, AllIn, IsLargest, IsFewest}

pub All-more : (P : Cidr → Type 0) (xs ys : List Cidr) → AllByRecursion P xs → AllByRecursion P ys → AllByRecursion P (xs ++ ys)
All-more P [] ys h k = k
All-more P (x ∷ xs) ys h k = (h.0, All-more P xs ys h.1 k)

pub All-weaker : (P Q : Cidr → Type 0) (xs : List Cidr) → ((x : Cidr) → P x → Q x) → AllByRecursion P xs → AllByRecursion Q xs
All-weaker P Q [] f h = tt
All-weaker P Q (x ∷ xs) f h = (f x h.0, All-weaker P Q xs f h.1)

-- blocks below a number and then blocks from it on
pub InOrder-more : (from mid : ℕ) (xs ys : List Cidr) → InOrder from xs → AllByRecursion (λ m. m.first + size_of m ≤ mid) xs → from ≤ mid → InOrder mid ys → InOrder from (xs ++ ys)
InOrder-more from mid [] [] h e l k = tt
InOrder-more from mid [] (y ∷ ys) h e l k = (omega arith, k.1)
InOrder-more from mid (x ∷ xs) ys h e l k = (h.0, InOrder-more (x.first + size_of x) mid xs ys h.1 e.1 e.0 k)

-- an address of one of two lists of blocks
pub taken_left : (xs ys : List Cidr) (a : ℕ) → IsTrue (is_taken xs a) → IsTrue (is_taken (xs ++ ys) a)
taken_left [] ys a h = let f : IsTrue false = h in cc
taken_left (x ∷ xs) ys a h = go (has_address x a) refl (taken_left xs ys a) where
  go : (t : Bool) → has_address x a ≡ t → (IsTrue (is_taken xs a) → IsTrue (is_taken (xs ++ ys) a)) → IsTrue (is_taken (x ∷ (xs ++ ys)) a)
  go true e later = grind arith
  go false e later =
      let rest : IsTrue (is_taken xs a) = grind arith in
      let there = later rest in
      grind arith

pub taken_right : (xs ys : List Cidr) (a : ℕ) → IsTrue (is_taken ys a) → IsTrue (is_taken (xs ++ ys) a)
taken_right [] ys a h = h
taken_right (x ∷ xs) ys a h = let there : IsTrue (is_taken (xs ++ ys) a) = taken_right xs ys a h in grind arith

pub taken_by : (b : Cidr) (a : ℕ) → HasAddress b a → IsTrue (is_taken (b ∷ []) a)
taken_by b a h =
    let low = h.0 in
    let high = h.1 in
    let here : has_address b a ≡ true = grind (arith, nat_tests) in
    grind arith

-- an address of some block is one of the set, where all addresses of each are
pub in_from_taken : (set : ℕ → Type 0) (bs : List Cidr) (a : ℕ) → AllByRecursion (AllIn set) bs → IsTrue (is_taken bs a) → set a
in_from_taken set [] a h t = let f : IsTrue false = t in cc
in_from_taken set (b ∷ bs) a h t = go (has_address b a) refl (in_from_taken set bs a h.1) where
  go : (u : Bool) → has_address b a ≡ u → (IsTrue (is_taken bs a) → set a) → set a
  go true e later = h.0 a (grind (arith, nat_tests), grind (arith, nat_tests))
  go false e later = let rest : IsTrue (is_taken bs a) = grind arith in later rest

-- the enclosing block of a block is one, and has its first address
pub enclosing_lawful : (b : Cidr) → IsBlock b → IsBlock (enclosing_of b)
enclosing_lawful b h =
    let s = h.short in
    let r = h.in_range in
    record { short = omega arith; aligned = mul-mod_left _ _; in_range = omega (arith, div-add-mod' b.first (2 ^ (width_of b.family - (b.len - 1)))) }

pub enclosing_has : (b : Cidr) → HasAddress (enclosing_of b) b.first
enclosing_has b =
    let some = pow_pos (width_of b.family - (b.len - 1)) in
    (omega (arith, div-add-mod' b.first (2 ^ (width_of b.family - (b.len - 1)))), lt-div-mul-add some)

-- ---- the walk over a span: from each address the largest block that begins there

-- what it has found below a number
pub record Found (family : Family) (first last at : ℕ) (bs : List Cidr) : Type 0 where
  pub each : AllByRecursion (IsLargest family (IsBetween first last)) bs
  pub ended : AllByRecursion (λ m. m.first + size_of m ≤ at) bs
  pub complete : (m : Cidr) → IsLargest family (IsBetween first last) m → m.first < at → Contains bs m
  pub ordered : InOrder 0 bs
  pub covers : (a : ℕ) → first ≤ a → a < at → IsTrue (is_taken bs a)
  -- no block of the span lies across it
  pub clear : (m : Cidr) → IsBlock m → m.family ≡ family → AllIn (IsBetween first last) m → m.first < at → m.first + size_of m ≤ at

pub found_none : (family : Family) (first last : ℕ) → Found family first last first []
found_none family first last = record {
  each = tt;
  ended = tt;
  ordered = tt;
  covers = λ a l h. absurd (omega arith);
  complete = λ m h low. (let at = h.inside m.first (omega arith, omega (arith, pow_pos (width_of m.family - m.len))) in absurd (omega arith));
  clear = λ m h f i low. (let at = i m.first (omega arith, omega (arith, pow_pos (width_of m.family - m.len))) in absurd (omega arith));
}

at_of : Family → ℕ → Address
at_of family at = record { family = family; value = at }

-- the last number of a block of the span is in it
pub ends_in : (m : Cidr) (first last : ℕ) → AllIn (IsBetween first last) m → (first ≤ m.first) × (m.first + size_of m ≤ last + 1)
ends_in m first last h =
    let some = pow_pos (width_of m.family - m.len) in
    let low = h m.first (omega arith, omega arith) in
    let high = h (m.first + size_of m - 1) (omega arith, omega arith) in
    (low.0, omega (arith, high.1))

-- a block that begins in the chosen one has no smaller length
no_wider : (family : Family) (first last at len : ℕ) (m : Cidr) → FitsAt (record { family = family; value = at }) last len → ((l : ℕ) → FitsAt (record { family = family; value = at }) last l → len ≤ l)
    → IsBlock m → m.family ≡ family → AllIn (IsBetween first last) m → at ≤ m.first → m.first < at + 2 ^ (width_of family - len) → len ≤ m.len
no_wider family first last at len m fits least hm same inside low high = elim (cases_lt m.len len) [
  | inr ge ↦ ge
  | inl less ↦
      let w_is : width_of m.family ≡ width_of family = ap width_of same in
      let aligned : m.first % 2 ^ (width_of family - m.len) ≡ 0 = rw (← w_is) hm.aligned in
      let coarse : m.first % 2 ^ (width_of family - len) ≡ 0 = aligned_smaller m.first (width_of family) m.len len (omega arith) fits.lawful.short aligned in
      let ends = ends_in m first last inside in
      let size_is : size_of m ≡ 2 ^ (width_of family - m.len) = rw w_is refl in
      elim (cases_lt at m.first) [
        | inl apart ↦ let far = multiples_apart at m.first _ (pow_pos (width_of family - len)) fits.lawful.aligned coarse apart in absurd (omega arith)
        | inr back ↦
            let here : m.first ≡ at = omega arith in
            let range : at < 2 ^ width_of family = fits.lawful.in_range in
            let fit : FitsAt (record { family = family; value = at }) last m.len = record {
              lawful = record { short = (let s = hm.short in omega arith); aligned = subst (λ (n : ℕ). n % 2 ^ (width_of family - m.len) ≡ 0) here aligned; in_range = range };
              within = omega arith;
            } in
            least m.len fit
      ]
]

-- and it ends within the chosen one
ends_within : (family : Family) (last at len : ℕ) (m : Cidr) → FitsAt (record { family = family; value = at }) last len → IsBlock m → m.family ≡ family → len ≤ m.len
    → m.first < at + 2 ^ (width_of family - len) → m.first + size_of m ≤ at + 2 ^ (width_of family - len)
ends_within family last at len m fits hm same le high =
    let w_is : width_of m.family ≡ width_of family = ap width_of same in
    let own : (at + 2 ^ (width_of family - len)) % 2 ^ (width_of family - len) ≡ 0 = add-mod_right at _ ∙ fits.lawful.aligned in
    let short : m.len ≤ width_of family = (let s = hm.short in omega arith) in
    let fine : (at + 2 ^ (width_of family - len)) % 2 ^ (width_of family - m.len) ≡ 0 = aligned_smaller _ (width_of family) len m.len le short own in
    let fine_m : (at + 2 ^ (width_of family - len)) % size_of m ≡ 0 = rw w_is fine in
    multiples_apart m.first _ (size_of m) (pow_pos (width_of m.family - m.len)) hm.aligned fine_m high

-- the chosen block's enclosing block is not of the span
chosen_is_largest : (family : Family) (first last at len : ℕ) (bs : List Cidr) → Found family first last at bs → first ≤ at → at ≤ last
    → FitsAt (record { family = family; value = at }) last len → ((l : ℕ) → FitsAt (record { family = family; value = at }) last l → len ≤ l)
    → IsLargest family (IsBetween first last) (record { family = family; first = at; len = len })
chosen_is_largest family first last at len bs found low high fits least =
    let room = fits.within in
    record {
      lawful = fits.lawful;
      family_is = refl;
      inside = λ a h. (omega (arith, h.0), omega (arith, h.1));
      largest = λ some h.
          let e : Cidr = enclosing_of (record { family = family; first = at; len = len }) in
          let big = pow_pos (width_of family - (len - 1)) in
          let ends = ends_in e first last h in
          let below : e.first ≤ at = omega (arith, div-add-mod' at (2 ^ (width_of family - (len - 1)))) in
          let above : at < e.first + 2 ^ (width_of family - (len - 1)) = lt-div-mul-add big in
          elim (cases_lt e.first at) [
            | inl before ↦ let clear = found.clear e (enclosing_lawful _ fits.lawful) refl h before in absurd (omega arith)
            | inr here ↦
                let same : e.first ≡ at = omega arith in
                let short = fits.lawful.short in
                let range : at < 2 ^ width_of family = fits.lawful.in_range in
                let al : at % 2 ^ (width_of family - (len - 1)) ≡ 0 = subst (λ (n : ℕ). n % 2 ^ (width_of family - (len - 1)) ≡ 0) same (mul-mod_left _ _) in
                let fit : FitsAt (record { family = family; value = at }) last (len - 1) = record { lawful = record { short = omega arith; aligned = al; in_range = range }; within = omega arith } in
                let le = least (len - 1) fit in
                absurd (omega arith)
          ];
    }

-- one more block
pub found_more : (family : Family) (first last at len : ℕ) (bs : List Cidr) → Found family first last at bs → first ≤ at → at ≤ last
    → FitsAt (record { family = family; value = at }) last len → ((l : ℕ) → FitsAt (record { family = family; value = at }) last l → len ≤ l)
    → Found family first last (at + 2 ^ (width_of family - len)) (bs ++ record { family = family; first = at; len = len } ∷ [])
found_more family first last at len bs found low high fits least =
    let b : Cidr = record { family = family; first = at; len = len } in
    let chosen : IsLargest family (IsBetween first last) b = chosen_is_largest family first last at len bs found low high fits least in
    record {
      each = All-more _ bs (b ∷ []) found.each (chosen, tt);
      ended = All-more _ bs (b ∷ []) (All-weaker _ _ bs (λ m le. (let l : m.first + size_of m ≤ at = le in omega arith)) found.ended) (omega arith, tt);
      ordered = InOrder-more 0 at bs (b ∷ []) found.ordered found.ended (omega arith) (omega arith, tt);
      covers = λ a l less. elim (cases_lt a at) [
        | inl before ↦ taken_left bs (b ∷ []) a (found.covers a l before)
        | inr from ↦ taken_right bs (b ∷ []) a (taken_by b a (from, less))
      ];
      clear = λ m hm same inside less. elim (cases_lt m.first at) [
        | inl before ↦ (let c = found.clear m hm same inside before in omega arith)
        | inr from ↦ ends_within family last at len m fits hm same (no_wider family first last at len m fits least hm same inside from less) less
      ];
      complete = λ m h less. elim (cases_lt m.first at) [
        | inl before ↦ Contains-append_left bs (b ∷ []) m (found.complete m h before)
        | inr from ↦
            let le = no_wider family first last at len m fits least h.lawful h.family_is h.inside from less in
            let end = ends_within family last at len m fits h.lawful h.family_is le less in
            let inside : IsInside m b = inside_by_ends m b h.family_is from end in
            elim (cases_lt len m.len) [
              | inl longer ↦
                  let outer = enclosing_inside b m chosen.lawful h.lawful inside longer in
                  absurd (h.largest (omega arith) (λ a i. chosen.inside a (outer.each a i)))
              | inr same_len ↦
                  let same : m ≡ b = same_by_len m b inside same_len h.lawful.short fits.lawful.short in
                  Contains-append_right bs (b ∷ []) m (let P : Cidr → Type 0 = λ x. Contains (b ∷ []) x in subst P (sym same) (0, omega arith, refl))
            ]
      ];
    }

-- at the span's end all are found
pub found_all : (family : Family) (first last at : ℕ) (bs : List Cidr) → Found family first last at bs → last < at → IsFewest family (IsBetween first last) bs
found_all family first last at bs found past = record {
  lists = record {
    each = found.each;
    ordered = found.ordered;
    complete = λ m h. found.complete m h (let ends = ends_in m first last h.inside in let some = pow_pos (width_of m.family - m.len) in omega arith);
  };
  covers = λ a h. found.covers a h.0 (omega (arith, h.1));
}

-- one more block, as the code makes it
pub found_step : (family : Family) (first last at : ℕ) (bs : List Cidr) (addr : Address) (block : Cidr) (end : ℕ) → addr ≡ record { family = family; value = at } → block ≡ block_at addr block.len
    → FitsAt addr last block.len → ((l : ℕ) → FitsAt addr last l → block.len ≤ l) → end ≡ (last_of block).value
    → Found family first last at bs → first ≤ at → at ≤ last → (at ≤ end) × Found family first last (end + 1) (bs ++ block ∷ [])
found_step family first last at bs addr block end addr_is at_addr fits least end_is found low high =
    let fits_at : FitsAt (record { family = family; value = at }) last block.len = subst (λ (a : Address). FitsAt a last block.len) addr_is fits in
    let least_at : (l : ℕ) → FitsAt (record { family = family; value = at }) last l → block.len ≤ l = λ l h. least l (subst (λ (a : Address). FitsAt a last l) (sym addr_is) h) in
    let block_is : block ≡ record { family = family; first = at; len = block.len } = at_addr ∙ ap (λ (a : Address). block_at a block.len) addr_is in
    let some = pow_pos (width_of family - block.len) in
    let last_is : (last_of block).value ≡ at + 2 ^ (width_of family - block.len) - 1 = ap (λ (b : Cidr). (last_of b).value) block_is in
    let next : at + 2 ^ (width_of family - block.len) ≡ end + 1 = omega arith in
    let more = found_more family first last at block.len bs found low high fits_at least_at in
    let named : Found family first last (at + 2 ^ (width_of family - block.len)) (bs ++ block ∷ []) = subst (λ (b : Cidr). Found family first last (at + 2 ^ (width_of family - block.len)) (bs ++ b ∷ [])) (sym block_is) more in
    (omega arith, subst (λ n. Found family first last n (bs ++ block ∷ [])) next named)
