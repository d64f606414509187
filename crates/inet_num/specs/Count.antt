-- The addresses of a block, one by one, and how many of them meet a test.
use Rattle.std.specs.Prelude.{ℕ, zero, suc, ◌+◌, ◌*◌, ◌/◌, min, Bool, List, [], ◌∷◌, count_by}
use Rattle.inet_num.specs.Net.{Cidr, size_of}

-- n numbers from a on
unfoldable pub numbers_from : ℕ → ℕ → List ℕ
numbers_from a zero = []
numbers_from a (suc n) = a ∷ numbers_from (a + 1) n

-- the addresses of a block, in order
unfoldable pub addresses_of : Cidr → List ℕ
addresses_of b = numbers_from b.first (size_of b)

-- how many addresses of the block meet the test
abbrev pub count_of : (ℕ → Bool) → Cidr → ℕ
count_of test b = count_by test (addresses_of b)

-- the whole part of a hundred times the count over the size, at most 100
abbrev pub percent_of : ℕ → ℕ → ℕ
percent_of count size = min 100 (100 * count / size)
