-- A text has one reading: one value or one fault.
use Rattle.std.proofs.Common.{◌≡◌, ℕ, ◌≤◌, List, ◌++◌, ◌∷◌, refl, sym, ◌∙◌, ap, subst, arith, decimal, inl, inr}
use Rattle.std.specs.Int.Digits.{number_from_digits}
use Rattle.std.specs.declared.net.ipv4_addr.Ipv4Addr.{Ipv4Addr}
use Rattle.std.specs.declared.net.ipv6_addr.Ipv6Addr.{Ipv6Addr}
use Rattle.std.proofs.NetLemmas.Ipv6.{IsDotted-not_colon_hex}
use Rattle.std.proofs.NetLemmas.Theorems.{IsIpv4Text_unique, IsIpv6Text_unique}
use Rattle.inet_num.specs.declared.Family.{Family}
use Rattle.inet_num.specs.declared.Family.TheVariants.{V4, V6}
use Rattle.inet_num.specs.declared.text.TextFault.{TextFault}
use Rattle.inet_num.specs.declared.text.TextFault.TheVariants.{Octet, Group, Shape, Length, HostBits}
use Rattle.inet_num.specs.Net.{Address, Cidr, IsBlock, width_of, block_at, block_around}
use Rattle.inet_num.specs.Text.{IsAddressText, IsNoAddressText, Spells, canonical_text_of, front_of, HasNoSlash, EndsInLength, IsHostText, IsBlockText, CanonicalTextIsOne}
use Rattle.inet_num.specs.Fault.{IsAddressFault, IsLengthFault, IsHostBitsFault, IsHostFault, IsBlockFault, ReadingIsOne}
use Rattle.inet_num.proofs.Numbers.{same_block}
use Rattle.inet_num.proofs.Cuts.{one_length, width_narrow, not_longer}
use Rattle.inet_num.proofs.RoundTrip.{address_round}

-- a text spells one number of one family
pub one_address : (text : List ℕ) (f g : Family) (m n : ℕ) → Spells text f m → Spells text g n → (f ≡ g) × (m ≡ n)
one_address text V4 V4 m n h k =
    let a : Ipv4Addr = record { octets = h.0 } in
    let b : Ipv4Addr = record { octets = k.0 } in
    let same : a ≡ b = IsIpv4Text_unique text a b h.1 k.1 in
    (refl, h.2 ∙ ap (λ (x : Ipv4Addr). number_from_digits 256 x.octets) same ∙ sym k.2)
one_address text V6 V6 m n h k =
    let a : Ipv6Addr = record { segments = h.0 } in
    let b : Ipv6Addr = record { segments = k.0 } in
    let same : a ≡ b = IsIpv6Text_unique text a b h.1 k.1 in
    (refl, h.2 ∙ ap (λ (x : Ipv6Addr). number_from_digits 65536 x.segments) same ∙ sym k.2)
one_address text V4 V6 m n h k = absurd (IsDotted-not_colon_hex text h.0 k.0 h.1 k.1)
one_address text V6 V4 m n h k = absurd (IsDotted-not_colon_hex text k.0 h.0 k.1 h.1)

same_address : (text : List ℕ) (a b : Address) → IsAddressText text a → IsAddressText text b → a ≡ b
same_address text a b h k =
    let one = one_address text a.family b.family a.value b.value h k in
    ap (λ (f : Family). let x : Address = record { family = f; value = a.value } in x) one.0
    ∙ ap (λ (n : ℕ). let x : Address = record { family = b.family; value = n } in x) one.1

first_address : (text : List ℕ) (b : Cidr) → IsBlockText text b → IsAddressText (front_of text) (record { family = b.family; value = b.first })
first_address text b h = h.address

one_block : (text : List ℕ) (b c : Cidr) → IsBlockText text b → IsBlockText text c → b ≡ c
one_block text b c h k =
    let one = one_address (front_of text) b.family c.family b.first c.first h.address k.address in
    let short_b = h.lawful.short in
    let short_c = k.lawful.short in
    let len : b.len ≡ c.len = one_length text b.len c.len (omega (arith, width_narrow b.family)) (omega (arith, width_narrow c.family)) h.length_is k.length_is in
    same_block b c one.0 one.1 len

-- with a reading in neither family there is none
pub no_address : (text : List ℕ) → ((n : ℕ) → ¬ Spells text V4 n) → ((n : ℕ) → ¬ Spells text V6 n) → IsNoAddressText text
no_address text quad groups a h = go a.family a.value h where
  go : (f : Family) (n : ℕ) → Spells text f n → ⊥
  go V4 n k = quad n k
  go V6 n k = groups n k

-- where a fault is found: in the address text, in the length, or past it
data Place (text : List ℕ) (f : TextFault) : Type 0 where
  in_address : IsAddressFault (front_of text) f → Place text f
  in_length : f ≡ Length → IsLengthFault text → Place text f
  past_length : (b : Cidr) → f ≡ HostBits b → IsHostBitsFault text b → Place text f

place_of : (text : List ℕ) (f : TextFault) → IsBlockFault text f → Place text f
place_of text Shape h = in_address h
place_of text Octet h = in_address h
place_of text Group h = in_address h
place_of text Length h = in_length refl h
place_of text (HostBits b) h = past_length b refl h

-- no length in one reading, one in the other
length_against : (text : List ℕ) (a : Address) (len : ℕ) → IsLengthFault text → IsAddressText (front_of text) a → EndsInLength text len → len ≤ width_of a.family → ⊥
length_against text a len h k e le =
    let same = same_address (front_of text) h.addr a h.address k in
    h.none len (subst (λ (x : Address). len ≤ width_of x.family) (sym same) le) e

-- two readings with bits past the length clear the same ones
same_cleared : (text : List ℕ) (b c : Cidr) → IsHostBitsFault text b → IsHostBitsFault text c → b ≡ c
same_cleared text b c h k =
    let same = same_address (front_of text) h.addr k.addr h.address k.address in
    let short_b = h.short in
    let short_c = k.short in
    let len : h.len ≡ k.len = one_length text h.len k.len (omega (arith, width_narrow h.addr.family)) (omega (arith, width_narrow k.addr.family)) h.length_is k.length_is in
    h.cleared ∙ ap (λ (x : Address). block_around x h.len) same ∙ ap (λ (l : ℕ). block_around k.addr l) len ∙ sym k.cleared

one_fault : (text : List ℕ) (f g : TextFault) → Place text f → Place text g → f ≡ g
one_fault text f g (in_address h) (in_address k) = h.is ∙ sym k.is
one_fault text f g (in_address h) (in_length e k) = absurd (h.none k.addr k.address)
one_fault text f g (in_address h) (past_length b e k) = absurd (h.none k.addr k.address)
one_fault text f g (in_length e h) (in_address k) = absurd (k.none h.addr h.address)
one_fault text f g (in_length d h) (in_length e k) = d ∙ sym e
one_fault text f g (in_length d h) (past_length b e k) = absurd (length_against text k.addr k.len h k.address k.length_is k.short)
one_fault text f g (past_length b d h) (in_address k) = absurd (k.none h.addr h.address)
one_fault text f g (past_length b d h) (in_length e k) = absurd (length_against text h.addr h.len k h.address h.length_is h.short)
one_fault text f g (past_length b d h) (past_length c e k) = d ∙ ap (λ (x : Cidr). HostBits x) (same_cleared text b c h k) ∙ sym e

no_fault : (text : List ℕ) (b : Cidr) (f : TextFault) → IsBlockText text b → Place text f → ⊥
no_fault text b f h (in_address k) = k.none _ (first_address text b h)
no_fault text b f h (in_length e k) = length_against text _ b.len k (first_address text b h) h.length_is h.lawful.short
no_fault text b f h (past_length c e k) =
    let same = same_address (front_of text) k.addr (record { family = b.family; value = b.first }) k.address (first_address text b h) in
    let short = h.lawful.short in
    let short_k = k.short in
    let len : k.len ≡ b.len = one_length text k.len b.len (omega (arith, width_narrow k.addr.family)) (omega (arith, width_narrow b.family)) k.length_is h.length_is in
    k.set (subst (λ (l : ℕ). IsBlock (block_at k.addr l)) (sym len) (subst (λ (x : Address). IsBlock (block_at x b.len)) (sym same) h.lawful))

-- ---- hosts

-- without a slash there is no length
no_slash_no_length : (text : List ℕ) (len : ℕ) → HasNoSlash text → EndsInLength text len → ⊥
no_slash_no_length text len none e = not_longer text _ (e ∙ ap (λ (f : List ℕ). f ++ 47 ∷ decimal len) none)

one_host : (text : List ℕ) (a b : Address) (k l : ℕ) → IsHostText text a k → IsHostText text b l → (a ≡ b) × (k ≡ l)
one_host text a b k l h i =
    let same : a ≡ b = same_address (front_of text) a b h.address i.address in
    let lens : k ≡ l = elim h.length_is [
      | inl p ↦ elim i.length_is [
        | inl q ↦ p.1 ∙ ap (λ (x : Address). width_of x.family) same ∙ sym q.1
        | inr q ↦ absurd (no_slash_no_length text l p.0 q.0)
      ]
      | inr p ↦ elim i.length_is [
        | inl q ↦ absurd (no_slash_no_length text k q.0 p.0)
        | inr q ↦ one_length text k l (let s = p.1 in omega (arith, width_narrow a.family)) (let s = q.1 in omega (arith, width_narrow b.family)) p.0 q.0
      ]
    ] in
    (same, lens)

-- where a host's fault is found
data HostPlace (text : List ℕ) (f : TextFault) : Type 0 where
  host_in_address : IsAddressFault (front_of text) f → HostPlace text f
  host_in_length : f ≡ Length → IsLengthFault text → ¬ HasNoSlash text → HostPlace text f

host_place_of : (text : List ℕ) (f : TextFault) → IsHostFault text f → HostPlace text f
host_place_of text Shape h = host_in_address h
host_place_of text Octet h = host_in_address h
host_place_of text Group h = host_in_address h
host_place_of text Length h = host_in_length refl h.1 h.0
host_place_of text (HostBits b) h = elim h [ ]

one_host_fault : (text : List ℕ) (f g : TextFault) → HostPlace text f → HostPlace text g → f ≡ g
one_host_fault text f g (host_in_address h) (host_in_address k) = h.is ∙ sym k.is
one_host_fault text f g (host_in_address h) (host_in_length e k s) = absurd (h.none k.addr k.address)
one_host_fault text f g (host_in_length e h s) (host_in_address k) = absurd (k.none h.addr h.address)
one_host_fault text f g (host_in_length d h s) (host_in_length e k t) = d ∙ sym e

no_host_fault : (text : List ℕ) (a : Address) (len : ℕ) (f : TextFault) → IsHostText text a len → HostPlace text f → ⊥
no_host_fault text a len f h (host_in_address k) = k.none a h.address
no_host_fault text a len f h (host_in_length e k s) = elim h.length_is [
  | inl p ↦ s p.0
  | inr p ↦ length_against text a len k h.address p.0 p.1
]

pub reading_is_one : ReadingIsOne
reading_is_one = record {
  addresses = same_address;
  address_faults = λ text f g h k. h.is ∙ sym k.is;
  address_apart = λ text a f h k. k.none a h;
  hosts = one_host;
  host_faults = λ text f g h k. one_host_fault text f g (host_place_of text f h) (host_place_of text g k);
  host_apart = λ text a len f h k. no_host_fault text a len f h (host_place_of text f k);
  blocks = one_block;
  faults = λ text f g h k. one_fault text f g (place_of text f h) (place_of text g k);
  apart = λ text b f h k. no_fault text b f h (place_of text f k);
}

-- two addresses that are written alike are read alike
pub canonical_is_one : CanonicalTextIsOne
canonical_is_one a b h k e =
    same_address (canonical_text_of b.family b.value) a b
    (subst (λ (t : List ℕ). Spells t a.family a.value) e (address_round a.family a.value h))
    (address_round b.family b.value k)
