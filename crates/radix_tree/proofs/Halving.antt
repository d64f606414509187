-- What is free in a land that is not free itself is free in one of its halves: the least free block, the first that fits and
-- the first available one of a land follow from those of its halves.
use Rattle.std.proofs.Common.{◌≡◌, ◌⊎◌, ℕ, ◌<◌, ◌≤◌, Bool, true, false, sym, ◌∙◌, ap, subst, arith, inl, inr, Option, Some, None, List}
use Rattle.std.specs.Prelude.{min}
use Rattle.std.proofs.lemmas.Bool.{cases_lt}
use Rattle.inet_num.specs.Net.{Cidr, HasAddress, IsBlock, IsInside, enclosing_of}
use Rattle.inet_num.specs.Free.{is_taken, IsFree, IsAvailable}
use Rattle.inet_num.proofs.Nested.{inside_trans, same_by_len}
use Rattle.inet_num.proofs.Aligned.{enclosing_of-low_half_of, enclosing_of-high_half_of, enclosing_inside}
use Rattle.block_space.specs.Fit.{Fits, IsFirstFit, IsFirstAvailable}
use Rattle.radix_tree.specs.Shape.{half, HasRoom}
use Rattle.radix_tree.specs.Frees.{lesser, IsLeastFree}
use Rattle.radix_tree.proofs.Sides.{has_first, half_in, side_of}
use Rattle.radix_tree.proofs.Covered.{half_short}
use Rattle.radix_tree.proofs.Joints.{half_lawful}

-- what is free beside a list is free beside another that takes the same of it
pub free_agree : (xs ys : List Cidr) (b : Cidr) → ((a : ℕ) → HasAddress b a → is_taken xs a ≡ is_taken ys a) → IsFree xs b → IsFree ys b
free_agree xs ys b same free = λ a h. sym (same a h) ∙ free a h

-- what holds of one of the sides
by_side : (Q : Bool → Type 0) → (s : Bool) × Q s → Q false ⊎ Q true
by_side Q (false, h) = inl h
by_side Q (true, h) = inr h

module _ (land : Cidr) (hl : IsBlock land) (room : HasRoom land) (xs : List Cidr) (sides : Bool → List Cidr) (agree : (s : Bool) (a : ℕ) → HasAddress (half s land) a → is_taken xs a ≡ is_taken (sides s) a) where
  -- the block lies in the half and is free there
  abbrev pub IsFreeIn : Bool → Cidr → Type 0
  IsFreeIn s b = IsInside b (half s land) × IsFree (sides s) b

  in_half : (s : Bool) (b : Cidr) → IsInside b (half s land) → IsInside b land
  in_half s b i = inside_trans b (half s land) land i (half_in s land room)

  pub free_to : (s : Bool) (b : Cidr) → IsInside b (half s land) → IsFree xs b → IsFree (sides s) b
  free_to s b i free = free_agree xs (sides s) b (λ a h. agree s a (i.each a h)) free

  pub free_from : (s : Bool) (b : Cidr) → IsInside b (half s land) → IsFree (sides s) b → IsFree xs b
  free_from s b i free = free_agree (sides s) xs b (λ a h. sym (agree s a (i.each a h))) free

  -- a longer block of the land lies in a half
  longer_side : (b : Cidr) → IsBlock b → IsInside b land → IsFree xs b → land.len < b.len → (s : Bool) × IsFreeIn s b
  longer_side b hb i free less = let side = side_of land b hl hb i less in (side.0, (side.1, free_to side.0 b side.1 free))

  module _ (taken : IsFree xs land → ⊥) where
    pub free_side : (b : Cidr) → IsBlock b → IsInside b land → IsFree xs b → (s : Bool) × IsFreeIn s b
    free_side b hb i free = elim (cases_lt land.len b.len) [
      | inl less ↦ longer_side b hb i free less
      | inr le ↦ absurd (taken (subst (IsFree xs) (same_by_len b land i (omega arith) hb.short hl.short) free))
    ]

    -- ---- the least free block

    pub least_halves : (f g : Option ℕ) → IsLeastFree (sides false) (half false land) f → IsLeastFree (sides true) (half true land) g → IsLeastFree xs land (lesser f g)
    least_halves None None h k = λ b hb i free. elim (by_side (λ s. IsFreeIn s b) (free_side b hb i free)) [
      | inl f ↦ h b hb f.0 f.1
      | inr f ↦ k b hb f.0 f.1
    ]
    least_halves None (Some n) h k = (
      let one = k.0 in
          (one.0, one.1, in_half true one.0 one.2, free_from true one.0 one.2 one.3, one.4),
      λ b hb i free. elim (by_side (λ s. IsFreeIn s b) (free_side b hb i free)) [
        | inl f ↦ absurd (h b hb f.0 f.1)
        | inr f ↦ k.1 b hb f.0 f.1
      ],
    )
    least_halves (Some m) None h k = (
      let one = h.0 in
          (one.0, one.1, in_half false one.0 one.2, free_from false one.0 one.2 one.3, one.4),
      λ b hb i free. elim (by_side (λ s. IsFreeIn s b) (free_side b hb i free)) [
        | inl f ↦ h.1 b hb f.0 f.1
        | inr f ↦ absurd (k b hb f.0 f.1)
      ],
    )
    least_halves (Some m) (Some n) h k = (
      least_one,
      λ b hb i free. elim (by_side (λ s. IsFreeIn s b) (free_side b hb i free)) [
        | inl f ↦ (let le = h.1 b hb f.0 f.1 in omega arith)
        | inr f ↦ (let le = k.1 b hb f.0 f.1 in omega arith)
      ],
    ) where
      least_one : (b : Cidr) × IsBlock b × IsInside b land × IsFree xs b × (b.len ≡ min m n)
      least_one = elim (cases_lt m n) [
        | inl less ↦ (let one = h.0 in (one.0, one.1, in_half false one.0 one.2, free_from false one.0 one.2 one.3, (let is = one.4 in omega arith)))
        | inr le ↦ (let one = k.0 in (one.0, one.1, in_half true one.0 one.2, free_from true one.0 one.2 one.3, (let is = one.4 in omega arith)))
      ]

  -- ---- the first fit of a length above the land's

  low_before_high : (b c : Cidr) → IsInside b (half false land) → IsInside c (half true land) → b.first ≤ c.first
  low_before_high b c i j =
      let x = (i.each b.first (has_first b)).1 in
      let y = (j.each c.first (has_first c)).0 in
      omega (arith, x, y)

  fits_to : (s : Bool) (len from : ℕ) (b : Cidr) → IsInside b (half s land) → Fits land xs len from b → Fits (half s land) (sides s) len from b
  fits_to s len from b i f = record { lawful = f.lawful; len_is = f.len_is; inside = i; free = free_to s b i f.free; from_on = f.from_on }

  fits_from : (s : Bool) (len from : ℕ) (b : Cidr) → Fits (half s land) (sides s) len from b → Fits land xs len from b
  fits_from s len from b f = record { lawful = f.lawful; len_is = f.len_is; inside = in_half s b f.inside; free = free_from s b f.inside f.free; from_on = f.from_on }

  module _ (len from : ℕ) (less : land.len < len) where
    fits_side : (b : Cidr) → Fits land xs len from b → (s : Bool) × Fits (half s land) (sides s) len from b
    fits_side b f =
        let is = f.len_is in
        let side = longer_side b f.lawful f.inside f.free (omega arith) in
        (side.0, fits_to side.0 len from b side.1.0 f)

    pub first_low : (b : Cidr) → IsFirstFit (half false land) (sides false) len from (Some b) → IsFirstFit land xs len from (Some b)
    first_low b h = (
      fits_from false len from b h.0,
      λ c f. elim (by_side (λ s. Fits (half s land) (sides s) len from c) (fits_side c f)) [
        | inl g ↦ h.1 c g
        | inr g ↦ low_before_high b c h.0.inside g.inside
      ],
    )

    pub first_high : (r : Option Cidr) → IsFirstFit (half false land) (sides false) len from None → IsFirstFit (half true land) (sides true) len from r → IsFirstFit land xs len from r
    first_high None none h = λ b f. elim (by_side (λ s. Fits (half s land) (sides s) len from b) (fits_side b f)) [
      | inl g ↦ none b g
      | inr g ↦ h b g
    ]
    first_high (Some b) none h = (
      fits_from true len from b h.0,
      λ c f. elim (by_side (λ s. Fits (half s land) (sides s) len from c) (fits_side c f)) [
        | inl g ↦ absurd (none c g)
        | inr g ↦ h.1 c g
      ],
    )

  -- ---- the first available block of a land that is not free

  module _ (taken : IsFree xs land → ⊥) where
    enclosing_half : (s : Bool) → enclosing_of (half s land) ≡ land
    enclosing_half false = enclosing_of-low_half_of land hl
    enclosing_half true = enclosing_of-high_half_of land hl room

    available_to : (s : Bool) (b : Cidr) → IsInside b (half s land) → IsAvailable land xs b → IsAvailable (half s land) (sides s) b
    available_to s b i h = record {
      lawful = h.lawful;
      inside = i;
      free = free_to s b i h.free;
      largest = λ some j free. h.largest some (in_half s (enclosing_of b) j) (free_from s (enclosing_of b) j free);
    }

    available_from : (s : Bool) (b : Cidr) → IsAvailable (half s land) (sides s) b → IsAvailable land xs b
    available_from s b h = record {
      lawful = h.lawful;
      inside = in_half s b h.inside;
      free = free_from s b h.inside h.free;
      largest = λ some j free. elim (cases_lt (half s land).len b.len) [
        | inl less ↦
            let inner = enclosing_inside (half s land) b (half_lawful s land hl room) h.lawful h.inside less in
            h.largest some inner (free_to s (enclosing_of b) inner free)
        | inr le ↦
            let is = same_by_len b (half s land) h.inside (omega arith) h.lawful.short (half_short s land room) in
            taken (subst (IsFree xs) (ap enclosing_of is ∙ enclosing_half s) free)
      ];
    }

    available_side : (b : Cidr) → IsAvailable land xs b → (s : Bool) × IsAvailable (half s land) (sides s) b
    available_side b h = (let side = free_side taken b h.lawful h.inside h.free in (side.0, available_to side.0 b side.1.0 h))

    pub available_low : (from : ℕ) (b : Cidr) → IsFirstAvailable (half false land) (sides false) from (Some b) → IsFirstAvailable land xs from (Some b)
    available_low from b h = (
      available_from false b h.0,
      h.1,
      λ c f on. elim (by_side (λ s. IsAvailable (half s land) (sides s) c) (available_side c f)) [
        | inl g ↦ h.2 c g on
        | inr g ↦ low_before_high b c h.0.inside g.inside
      ],
    )

    pub available_high : (from : ℕ) (r : Option Cidr) → IsFirstAvailable (half false land) (sides false) from None → IsFirstAvailable (half true land) (sides true) from r → IsFirstAvailable land xs from r
    available_high from None none h = λ b f. elim (by_side (λ s. IsAvailable (half s land) (sides s) b) (available_side b f)) [
      | inl g ↦ none b g
      | inr g ↦ h b g
    ]
    available_high from (Some b) none h = (
      available_from true b h.0,
      h.1,
      λ c f on. elim (by_side (λ s. IsAvailable (half s land) (sides s) c) (available_side c f)) [
        | inl g ↦ absurd (none c g on)
        | inr g ↦ h.2 c g on
      ],
    )
