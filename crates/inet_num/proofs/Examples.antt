-- Worked examples of the definitions, each by evaluation.
use Rattle.std.proofs.Common.{◌≡◌, ℕ, ◌^◌, [], ◌∷◌, refl, map, true, false, codes, lit<, lit≤}
use Rattle.std.specs.Fmt.{digits}
use Rattle.std.specs.Net.Text.{hex_groups_text, hex, ipv4_text}
use Rattle.inet_num.specs.declared.Family.TheVariants.{V4, V6}
use Rattle.inet_num.specs.declared.text.TextFault.TheVariants.{Octet, Shape}
use Rattle.inet_num.specs.Net.{Cidr, IsBlock, size_of, low_half_of, high_half_of, enclosing_of, last_of, block_around}
use Rattle.inet_num.specs.Fault.{address_fault_of}
use Rattle.inet_num.specs.Count.{numbers_from, addresses_of, count_of}
use Rattle.inet_num.specs.Free.{is_taken, is_free, is_available, has_address, available_blocks_of, picked_at, blocks_at}

v4 : ℕ → ℕ → Cidr
v4 first len = record { family = V4; first = first; len = len }

v6 : ℕ → ℕ → Cidr
v6 first len = record { family = V6; first = first; len = len }

-- 10.0.0.0/8 is a block of 2^24 addresses
ten_is_block : IsBlock (v4 167772160 8)
unfolding v4
ten_is_block = record { short = lit≤ tt; aligned = refl; in_range = lit< tt }

ten_size : size_of (v4 167772160 8) ≡ 16777216
unfolding v4
ten_size = refl

-- its last address is 10.255.255.255, and its halves begin at 10.0.0.0 and 10.128.0.0
ten_last : (last_of (v4 167772160 8)).value ≡ 184549375
unfolding v4
ten_last = refl

ten_halves : ((low_half_of (v4 167772160 8)).first ∷ (high_half_of (v4 167772160 8)).first ∷ []) ≡ 167772160 ∷ 176160768 ∷ []
unfolding v4
ten_halves = refl

-- the whole of IPv6 has 2^128 addresses, and encloses 8000::/1
all_of_v6 : size_of (v6 0 0) ≡ 2 ^ 128
unfolding v6
all_of_v6 = refl

top_half_enclosed : enclosing_of (v6 (2 ^ 127) 1) ≡ v6 0 0
unfolding v6
top_half_enclosed = refl

-- 10.0.0.1/24 has bits set past its length: the block around it is 10.0.0.0/24
around : block_around (record { family = V4; value = 167772161 }) 24 ≡ v4 167772160 24
unfolding v4
around = refl

-- 10.0.0.5 is taken beside 10.0.0.4/30, and 10.0.0.8/29 is free
is_taken_there : is_taken (v4 167772164 30 ∷ []) 167772165 ≡ true
unfolding v4
is_taken_there = refl

is_free_there : is_free (v4 167772164 30 ∷ []) (v4 167772168 29) ≡ true
unfolding v4
is_free_there = refl

-- four addresses of 0.0.0.16/28 are those of 0.0.0.20/30
four : count_of (has_address (v4 20 30)) (v4 16 28) ≡ 4
unfolding addresses_of numbers_from v4
four = refl

-- 0.0.0.16/28 without 0.0.0.16/32 and 0.0.0.20/30 leaves 0.0.0.17/32, 0.0.0.18/31 and 0.0.0.24/29
left : map {B = ℕ × ℕ} (λ b. (b.first, b.len)) (available_blocks_of (v4 16 28) (v4 16 32 ∷ v4 20 30 ∷ [])) ≡ (17, 32) ∷ (18, 31) ∷ (24, 29) ∷ []
unfolding available_blocks_of picked_at blocks_at addresses_of numbers_from v4
left = refl

-- one filled whole leaves nothing, and one with no children itself
none_left : available_blocks_of (v4 16 30) (v4 16 31 ∷ v4 18 31 ∷ v4 18 32 ∷ []) ≡ []
unfolding available_blocks_of picked_at blocks_at addresses_of numbers_from v4
none_left = refl

all_left : available_blocks_of (v4 16 30) [] ≡ v4 16 30 ∷ []
unfolding available_blocks_of picked_at blocks_at addresses_of numbers_from v4
all_left = refl

-- beside 10.0.0.0/24 and 10.0.4.0/22 the block 10.0.2.0/23 of 10.0.0.0/16 is available, and 10.0.2.0/24 is not
in_sixteen : (is_available (v4 167772160 16) (v4 167772160 24 ∷ v4 167773184 22 ∷ []) (v4 167772672 23) ≡ true)
unfolding v4
in_sixteen = refl

not_in_sixteen : (is_available (v4 167772160 16) (v4 167772160 24 ∷ v4 167773184 22 ∷ []) (v4 167772672 24) ≡ false)
unfolding v4
not_in_sixteen = refl

-- faults of texts that are no address
octet : address_fault_of (codes "010.0.0.1") ≡ Octet
octet = refl

shape : address_fault_of (codes "10.0.0") ≡ Shape
shape = refl

-- canonical texts
canonical_quad : ipv4_text (10 ∷ 0 ∷ 128 ∷ 255 ∷ []) ≡ codes "10.0.128.255"
unfolding digits
canonical_quad = refl

canonical_groups : hex_groups_text (1 ∷ 0 ∷ 0 ∷ 2 ∷ 0 ∷ 0 ∷ 0 ∷ 3 ∷ []) ≡ codes "1:0:0:2::3"
unfolding hex_groups_text hex
canonical_groups = refl
