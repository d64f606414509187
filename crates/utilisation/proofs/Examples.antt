-- Worked examples of the figures.
use Rattle.std.proofs.Common.{◌≡◌, ℕ, ◌+◌, ◌^◌, ◌||◌, [], ◌∷◌, refl, ◌∙◌, ap, lit≤, Bool, true, false}
use Rattle.std.specs.List.{count_by}
use Rattle.inet_num.specs.declared.Family.TheVariants.{V4, V6}
use Rattle.inet_num.specs.declared.Span.{Span}
use Rattle.inet_num.specs.Net.{Cidr, size_of}
use Rattle.inet_num.specs.Count.{numbers_from, addresses_of, count_of, percent_of}
use Rattle.inet_num.specs.Free.{has_address, is_taken}
use Rattle.inet_num.proofs.Counts.{count_of_inside}
use Rattle.block_space.specs.Listed.{counting_of, covered_of}
use Rattle.block_space.specs.Usable.{is_in_spans, host_room}
use Rattle.block_space.proofs.Alike.{count_agree}

v4 : ℕ → ℕ → Cidr
v4 first len = record { family = V4; first = first; len = len }

v4_span : ℕ → ℕ → Span
v4_span first last = record { first = record { family = V4; value = first }; last = record { family = V4; value = last } }

-- 8000::/1 with c000::/2 inside it is half covered
abbrev half : Cidr
half = record { family = V6; first = 2 ^ 127; len = 1 }

abbrev quarter : Cidr
quarter = record { family = V6; first = 2 ^ 127 + 2 ^ 126; len = 2 }

or_false : (t : Bool) → (t || false) ≡ t
or_false true = refl
or_false false = refl

quarter_covered : covered_of (quarter ∷ []) half ≡ size_of quarter
quarter_covered = count_agree (is_taken (quarter ∷ [])) (has_address quarter) (λ a. or_false (has_address quarter a)) (addresses_of half) ∙ count_of_inside half quarter (lit≤ tt) (lit≤ tt)

half_of_container : percent_of (covered_of (counting_of (quarter ∷ half ∷ []) half true) half) (size_of half) ≡ 50
half_of_container = ap (λ n. percent_of n (size_of half)) quarter_covered

-- an address with a host in a marked span is counted once: hosts at 0.0.0.17 twice and at 0.0.0.22, a span from 0.0.0.17 to
-- 0.0.0.18; three of the fourteen addresses of 0.0.0.16/28 that hosts can have
each_once : count_of (λ a. is_taken (v4 17 32 ∷ v4 17 32 ∷ v4 22 32 ∷ []) a || is_in_spans (v4_span 17 18 ∷ []) a) (v4 16 28) ≡ 3
unfolding addresses_of numbers_from v4 v4_span
each_once = refl

three_of_fourteen : percent_of 3 (host_room (v4 16 28) false) ≡ 21
unfolding v4
three_of_fourteen = refl

-- four hosts over the two addresses of 192.0.2.0/30 that hosts can have: no more than 100
never_above : percent_of 4 (host_room (v4 3221225984 30) false) ≡ 100
unfolding v4
never_above = refl

-- three hosts in a range of eight addresses
of_eight : percent_of (count_by (is_taken (v4 1 32 ∷ v4 2 32 ∷ v4 3 32 ∷ v4 9 32 ∷ [])) (numbers_from 1 8)) 8 ≡ 37
unfolding numbers_from v4
of_eight = refl
