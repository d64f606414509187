use Rattle.std.proofs.Common.{◌≡◌, ℕ, List, [], ◌∷◌, length, ◌∙◌, ap, arith, inl, inr, length-append}
use Rattle.std.proofs.lemmas.List.{length-replicate}
use Rattle.std.specs.Int.{w32, w128, from_be_bytes}
use Rattle.std.specs.Int.Digits.{number_from_digits}
use Rattle.std.specs.Net.Grammar.{IsDotted, IsColonHex}
use Rattle.std.specs.Net.Addr.{octets_of, ipv4_bits, ipv6_bits}
use Rattle.std.specs.declared.net.ipv4_addr.Ipv4Addr.{Ipv4Addr}
use Rattle.std.specs.declared.net.ipv6_addr.Ipv6Addr.{Ipv6Addr}

four_bytes : (a b c d : ℕ) → from_be_bytes w32 (a ∷ b ∷ c ∷ d ∷ []) ≡ number_from_digits 256 (a ∷ b ∷ c ∷ d ∷ [])
four_bytes a b c d = omega arith

-- the bits of dotted octets are their value by place
pub quad_value : (a : Ipv4Addr) (text : List ℕ) → IsDotted text a.octets → ipv4_bits a ≡ number_from_digits 256 a.octets
unfolding ipv4_bits
quad_value a text h = rw h.value (four_bytes h.a h.b h.c h.d)

eight_groups : (a b c d e f g h : ℕ) → from_be_bytes w128 (octets_of (a ∷ b ∷ c ∷ d ∷ e ∷ f ∷ g ∷ h ∷ [])) ≡ number_from_digits 65536 (a ∷ b ∷ c ∷ d ∷ e ∷ f ∷ g ∷ h ∷ [])
eight_groups a b c d e f g h = omega arith

groups_value_of : (xs : List ℕ) → length xs ≡ 8 → from_be_bytes w128 (octets_of xs) ≡ number_from_digits 65536 xs
groups_value_of (a ∷ b ∷ c ∷ d ∷ e ∷ f ∷ g ∷ h ∷ []) k = eight_groups a b c d e f g h
groups_value_of xs k = absurd (omega arith)

pub groups_value : (a : Ipv6Addr) → length a.segments ≡ 8 → ipv6_bits a ≡ number_from_digits 65536 a.segments
unfolding ipv6_bits
groups_value a h = groups_value_of a.segments h

-- a text of groups has_address eight of them
pub eight_in_text : (text groups : List ℕ) → IsColonHex text groups → length groups ≡ 8
eight_in_text text groups (inl p) = p.1
eight_in_text text groups (inr e) =
    let room = e.room in
    ap length e.value ∙ simp (length-append, length-replicate) (omega arith)
