-- Worked examples of the definitions, each by evaluation.
use Rattle.std.proofs.Common.{◌≡◌, ℕ, [], ◌∷◌, refl, true, false, take}
use Rattle.inet_num.specs.declared.Family.TheVariants.{V4, V6}
use Rattle.inet_num.specs.declared.Span.{Span}
use Rattle.inet_num.specs.Net.{Cidr}
use Rattle.inet_num.specs.Count.{numbers_from, addresses_of}
use Rattle.inet_num.specs.Free.{is_taken, available_blocks_of, picked_at, blocks_at}
use Rattle.block_space.specs.Listed.{counting_of}
use Rattle.block_space.specs.Usable.{is_in_spans, usable_of, untaken_of, host_room}

v4 : ℕ → ℕ → Cidr
v4 first len = record { family = V4; first = first; len = len }

v6 : ℕ → ℕ → Cidr
v6 first len = record { family = V6; first = first; len = len }

v4_span : ℕ → ℕ → Span
v4_span first last = record { first = record { family = V4; value = first }; last = record { family = V4; value = last } }

-- 192.0.2.0/30 has .1 and .2 to give out, and as a pool all four
of_four : usable_of (λ _. false) (λ _. false) (v4 3221225984 30) false ≡ 3221225985 ∷ 3221225986 ∷ []
unfolding usable_of addresses_of numbers_from v4
of_four = refl

of_four_as_pool : usable_of (λ _. false) (λ _. false) (v4 3221225984 30) true ≡ 3221225984 ∷ 3221225985 ∷ 3221225986 ∷ 3221225987 ∷ []
unfolding usable_of addresses_of numbers_from v4
of_four_as_pool = refl

-- 192.0.2.0/31 has both of its addresses to give out (RFC 3021), and 192.0.2.7/32 its one
of_two : usable_of (λ _. false) (λ _. false) (v4 3221225984 31) false ≡ 3221225984 ∷ 3221225985 ∷ []
unfolding usable_of addresses_of numbers_from v4
of_two = refl

of_one : usable_of (λ _. false) (λ _. false) (v4 3221225991 32) false ≡ 3221225991 ∷ []
unfolding usable_of addresses_of numbers_from v4
of_one = refl

-- 2001:db8::/126 has ::1, ::2 and ::3, since IPv6 has no broadcast address; 2001:db8::/127 has both (RFC 6164)
of_four_in_v6 : usable_of (λ _. false) (λ _. false) (v6 42540766411282592856903984951653826560 126) false ≡ 42540766411282592856903984951653826561 ∷ 42540766411282592856903984951653826562 ∷ 42540766411282592856903984951653826563 ∷ []
unfolding usable_of addresses_of numbers_from v6
of_four_in_v6 = refl

of_two_in_v6 : usable_of (λ _. false) (λ _. false) (v6 42540766411282592856903984951653826560 127) false ≡ 42540766411282592856903984951653826560 ∷ 42540766411282592856903984951653826561 ∷ []
unfolding usable_of addresses_of numbers_from v6
of_two_in_v6 = refl

-- with a host at 0.0.0.17 twice, and a held span from 0.0.0.19 to 0.0.0.40, 0.0.0.16/29 has 0.0.0.18 to give out
beside_hosts : usable_of (is_taken (v4 17 32 ∷ v4 17 32 ∷ [])) (is_in_spans (v4_span 19 40 ∷ [])) (v4 16 29) false ≡ 18 ∷ []
unfolding usable_of addresses_of numbers_from v4 v4_span
beside_hosts = refl

-- the range from 0.0.0.1 to 0.0.0.4 in its pieces, with a host at 0.0.0.3; it keeps nothing back
of_range : untaken_of (is_taken (v4 3 32 ∷ [])) (v4 1 32 ∷ v4 2 31 ∷ v4 4 32 ∷ []) ≡ 1 ∷ 2 ∷ 4 ∷ []
unfolding untaken_of addresses_of numbers_from v4
of_range = refl

-- the first two available blocks of 0.0.0.16/28 beside 0.0.0.16/28 itself, which is not in the way, and 0.0.0.20/32
first_blocks : take 2 (available_blocks_of (v4 16 28) (counting_of (v4 16 28 ∷ v4 20 32 ∷ []) (v4 16 28) true)) ≡ v4 16 30 ∷ v4 21 32 ∷ []
unfolding available_blocks_of picked_at blocks_at addresses_of numbers_from v4
first_blocks = refl

-- hosts have room for two in an IPv4 /30, for four as a pool, and for four in an IPv6 /126
room : host_room (v4 16 30) false ∷ host_room (v4 16 30) true ∷ host_room (v6 16 126) false ∷ [] ≡ 2 ∷ 4 ∷ 4 ∷ []
unfolding v4 v6
room = refl
