-- The one block and the one host of a text.
use Rattle.std.proofs.Common.{◌≡◌, ℕ, ◌-◌, List, ◌∷◌, ◌++◌, true, false, bytes_eq, length, decimal, subst, sym, ap, ◌∙◌, arith, inr}
use Rattle.std.specs.List.{list_any, position_or_len}
use Rattle.std.proofs.lemmas.Slice.Eq.{bytes_eq-Decides}
use Rattle.std.proofs.lemmas.List.{append_cancel_right, length-take, get_or_append_left}
use Rattle.std.proofs.lemmas.List.Folds.{list_any_none}
use Rattle.std.proofs.lemmas.List.Sums.{fails_before_first}
use Rattle.inet_num.specs.Net.{Cidr, IsBlock, Address, IsAddress, width_of, block_at}
use Rattle.inet_num.specs.declared.text.TextFault.{TextFault}
use Rattle.inet_num.specs.Text.{IsAddressText, IsBlockText, IsHostText, is_slash, front_of, block_text_of, canonical_text_of}
use Rattle.inet_num.specs.Fault.{IsBlockFault, IsHostFault}
use Rattle.inet_num.proofs.RoundTrip.{written_is_read, front-append, address_round}
use Rattle.inet_num.proofs.Readings.{reading_is_one}
use Rattle.ipam_data.specs.Hosts.{Masked, IsMasked}
use Rattle.stored_tables.specs.Stored.{host_text}
use Rattle.stored_tables.specs.Reading.{masked_text}

-- ---- blocks

-- the text of a block is one of that block
is_text : (text : List ℕ) (b : Cidr) → IsBlock b → block_text_of b ≡ text → IsBlockText text b
is_text text b h e = subst (λ (t : List ℕ). IsBlockText t b) e (written_is_read b h)

-- a text of a block that is not the canonical one is that of no block
pub no_canonical : (text bytes shown written : List ℕ) (block b : Cidr) → bytes ≡ text → shown ≡ text → IsBlockText bytes block → IsBlock b → block_text_of b ≡ text → written ≡ block_text_of block
    → bytes_eq written shown ≡ false → ⊥
no_canonical text bytes shown written block b s w r h e n f =
    let same : b ≡ block = reading_is_one.blocks text b block (is_text text b h e) (subst (λ (t : List ℕ). IsBlockText t block) s r) in
    let one : written ≡ shown = n ∙ sym (ap block_text_of same) ∙ e ∙ sym w in
    let t : bytes_eq written shown ≡ true = (bytes_eq-Decides written shown).1 one in cc

-- a text with a fault is that of no block
pub no_faulty : (text bytes : List ℕ) (fault : TextFault) (b : Cidr) → bytes ≡ text → IsBlockFault bytes fault → IsBlock b → block_text_of b ≡ text → ⊥
no_faulty text bytes fault b s f h e = reading_is_one.apart text b fault (is_text text b h e) (subst (λ (t : List ℕ). IsBlockFault t fault) s f)

-- ---- hosts

-- where the first slash is the one behind a text, the text has none
no_slash : (xs ys : List ℕ) → front_of (xs ++ 47 ∷ ys) ≡ xs → list_any is_slash xs ≡ false
no_slash xs ys e = list_any_none is_slash xs (λ k d l.
    let n : length (front_of (xs ++ 47 ∷ ys)) ≡ length xs = ap length e in
    let f = fails_before_first is_slash (xs ++ 47 ∷ ys) k d (omega (arith, length-take (position_or_len is_slash (xs ++ 47 ∷ ys)) (xs ++ 47 ∷ ys))) in
    ap is_slash (sym (get_or_append_left xs (47 ∷ ys) d k l)) ∙ f)

-- an address as a block of its own
lone : (a : Address) → IsAddress a → IsBlock (block_at a (width_of a.family))
lone a h =
    let z : width_of a.family - width_of a.family ≡ 0 = omega arith in
    record { short = omega arith; aligned = rw z (omega arith); in_range = h }

-- what is written of an address has no slash
canonical_no_slash : (a : Address) → IsAddress a → list_any is_slash (canonical_text_of a.family a.value) ≡ false
canonical_no_slash a h =
    let text = canonical_text_of a.family a.value in
    let w = decimal (width_of a.family) in
    let r = written_is_read (block_at a (width_of a.family)) (lone a h) in
    no_slash text w (sym (append_cancel_right text (front_of (text ++ 47 ∷ w)) (47 ∷ w) r.length_is))

-- what is written of an address and a mask is read as these
pub host_is_read : (h : Masked) → IsMasked h → IsHostText (masked_text h) h.addr h.len
host_is_read h m =
    let text = canonical_text_of h.addr.family h.addr.value in
    let front : front_of (masked_text h) ≡ text = front-append text (decimal h.len) (canonical_no_slash h.addr m.address) in
    record {
      address = subst (λ (t : List ℕ). IsAddressText t h.addr) (sym front) (address_round h.addr.family h.addr.value m.address);
      length_is = inr (ap (λ (t : List ℕ). t ++ 47 ∷ decimal h.len) (sym front), m.short);
    }

-- two that are written alike have one address and one mask
pub one_masked : (a b : Masked) → IsMasked a → IsMasked b → masked_text a ≡ masked_text b → (a.addr ≡ b.addr) × (a.len ≡ b.len)
one_masked a b h k e = reading_is_one.hosts (masked_text b) a.addr b.addr a.len b.len (subst (λ (t : List ℕ). IsHostText t a.addr a.len) e (host_is_read a h)) (host_is_read b k)

-- a text of another host, or of a mask that is too long, is not that of a host
pub is_host_of : (text : List ℕ) (addr : Address) (len : ℕ) (x : Masked) → IsHostText text addr len → IsMasked x → masked_text x ≡ text → (x.addr ≡ addr) × (x.len ≡ len)
is_host_of text addr len x r h e = reading_is_one.hosts text x.addr addr x.len len (subst (λ (t : List ℕ). IsHostText t x.addr x.len) e (host_is_read x h)) r

-- a text with a fault is that of no host
pub no_faulty_host : (text bytes : List ℕ) (fault : TextFault) (x : Masked) → bytes ≡ text → IsHostFault bytes fault → IsMasked x → masked_text x ≡ text → ⊥
no_faulty_host text bytes fault x s f h e =
    reading_is_one.host_apart text x.addr x.len fault (subst (λ (t : List ℕ). IsHostText t x.addr x.len) e (host_is_read x h)) (subst (λ (t : List ℕ). IsHostFault t fault) s f)

-- a text of a host that is not the one that is written of it is that of no host
pub no_canonical_host : (text shown written : List ℕ) (addr : Address) (len : ℕ) (x : Masked) → shown ≡ text → IsHostText text addr len → IsMasked x → masked_text x ≡ text
    → written ≡ host_text addr len → bytes_eq written shown ≡ false → ⊥
no_canonical_host text shown written addr len x s r h e n f =
    let same = is_host_of text addr len x r h e in
    let a : host_text x.addr x.len ≡ host_text addr x.len = ap (λ (v : Address). host_text v x.len) same.0 in
    let l : host_text addr x.len ≡ host_text addr len = ap (λ (v : ℕ). host_text addr v) same.1 in
    let one : written ≡ shown = n ∙ sym l ∙ sym a ∙ e ∙ sym s in
    let t : bytes_eq written shown ≡ true = (bytes_eq-Decides written shown).1 one in cc

-- a mask that is too long for the address is no mask of a host of this text
pub no_long_mask : (text : List ℕ) (addr : Address) (len : ℕ) (x : Masked) → IsHostText text addr len → IsMasked x → masked_text x ≡ text → IsMasked (record { addr = addr; len = len })
no_long_mask text addr len x r h e =
    let same = is_host_of text addr len x r h e in
    subst (λ (v : ℕ). IsMasked (record { addr = addr; len = v })) same.1 (subst (λ (v : Address). IsMasked (record { addr = v; len = x.len })) same.0 h)
