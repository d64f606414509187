-- Columns that are read: a value has one text, and a text is that of one value.
use Rattle.std.proofs.Common.{◌≡◌, ◌≢◌, ℕ, ◌<◌, ◌≤◌, Bool, true, false, List, [], ◌∷◌, Option, Some, None, length, get_or, drop, ◌+◌, decimal, refl, ap, sym, ◌∙◌, subst, arith}
use Rattle.std.proofs.Math.ListN.{drop_of_length-le}
use Rattle.std.proofs.lemmas.List.{drop_more}
use Rattle.std.specs.Str.{chars}
use Rattle.std.proofs.lemmas.Str.{chars-nil}
use Rattle.std.proofs.lemmas.Fmt.{decimal_nonempty, decimal_injective}
use Rattle.inet_num.specs.Net.{Cidr, IsBlock, Address}
use Rattle.inet_num.specs.Text.{IsBlockText, block_text_of}
use Rattle.inet_num.proofs.RoundTrip.{written_is_read}
use Rattle.inet_num.proofs.Readings.{reading_is_one}
use Rattle.ipam_data.specs.declared.prefix.PrefixStatus.{PrefixStatus}
use Rattle.ipam_data.specs.declared.prefix.PrefixStatus.TheVariants.{Container, Active as ActivePrefix, Reserved as ReservedPrefix, Deprecated as DeprecatedPrefix}
use Rattle.ipam_data.specs.declared.range.RangeStatus.{RangeStatus}
use Rattle.ipam_data.specs.declared.range.RangeStatus.TheVariants.{Active as ActiveRange, Reserved as ReservedRange, Deprecated as DeprecatedRange}
use Rattle.ipam_data.specs.declared.address.AddressStatus.{AddressStatus}
use Rattle.ipam_data.specs.declared.address.AddressStatus.TheVariants.{Active as ActiveAddress, Reserved as ReservedAddress, Deprecated as DeprecatedAddress, Dhcp, Slaac}
use Rattle.ipam_data.specs.declared.address.AddressRole.{AddressRole}
use Rattle.ipam_data.specs.declared.address.AddressRole.TheVariants.{Loopback, Secondary, Anycast, Vip, Vrrp, Hsrp, Glbp, Carp}
use Rattle.ipam_data.specs.Hosts.{Masked, IsMasked, RangeEnds, AreEnds}
use Rattle.ipam_data.specs.Texts.{IsDistinguisher, IsWeight}
use Rattle.stored_tables.specs.declared.tables.Row.{Row}
use Rattle.stored_tables.specs.Stored.{flag_text, optional_text, reference_text, host_text, prefix_status_text, range_status_text, address_status_text, address_role_text}
use Rattle.stored_tables.specs.Reading.{IsRead, IsWord, IsAbsentOr, masked_text, ends_texts}
use Rattle.stored_tables.proofs.HostTexts.{one_masked}

-- nothing was read of the text
pub unread : {A B : Type 0} (within : A → Type 0) (text_of : A → B) (text : B) (r : Option A) → r ≡ None → IsRead within text_of text r → (x : A) → within x → text_of x ≢ text
unread within text_of text r e h = subst (λ (o : Option _). IsRead within text_of text o) e h

-- a value was read of it
pub was_read : {A B : Type 0} (within : A → Type 0) (text_of : A → B) (text : B) (r : Option A) (x : A) → r ≡ Some x → IsRead within text_of text r → within x × (text_of x ≡ text)
was_read within text_of text r x e h = subst (λ (o : Option _). IsRead within text_of text o) e h

-- the texts of a stored row
abbrev pub row_texts : Row → List (List ℕ)
row_texts r = r.fields

-- the text of a column, of texts that are these
pub column : {xs texts : List (List ℕ)} (n : ℕ) (a : List ℕ) → texts ≡ xs → a ≡ get_or xs n a → get_or texts n a ≡ a
column n a t i = sym (i ∙ ap (λ (l : List (List ℕ)). get_or l n a) (sym t))

-- two columns, one after the other
pub two_columns : {xs texts : List (List ℕ)} (n : ℕ) (a b : List ℕ) → texts ≡ xs → a ≡ get_or xs n a → b ≡ get_or xs (n + 1) b → get_or texts n a ∷ get_or texts (n + 1) b ∷ [] ≡ a ∷ b ∷ []
two_columns {xs} {texts} n a b t i j = let first : get_or texts n a ≡ a = column n a t i in let second : get_or texts (n + 1) b ≡ b = column (n + 1) b t j in rw (first, second) refl

-- texts, column by column, are a list from a place on
pub next_column : (xs : List (List ℕ)) (n : ℕ) (a : List ℕ) {b : List ℕ} {rest : List (List ℕ)} → n < length xs → a ≡ get_or xs n a → b ≡ a → rest ≡ drop (n + 1) xs → b ∷ rest ≡ drop n xs
next_column xs n a l i e r = let more : a ∷ drop (n + 1) xs ≡ drop n xs = sym (drop_more xs n a l ∙ ap (λ (t : List ℕ). t ∷ drop (n + 1) xs) (sym i)) in rw (e, r) more

pub no_more_columns : (xs : List (List ℕ)) (n : ℕ) → length xs < n + 1 → [] ≡ drop n xs
no_more_columns xs n l = sym (drop_of_length-le xs (omega arith))

-- ---- a text is that of one value

pub one_flag : (a b : Bool) → flag_text a ≡ flag_text b → a ≡ b
one_flag true true e = refl
one_flag false false e = refl
one_flag true false e = cc
one_flag false true e = cc

pub one_prefix_status : (a b : PrefixStatus) → prefix_status_text a ≡ prefix_status_text b → a ≡ b
one_prefix_status Container Container e = refl
one_prefix_status ActivePrefix ActivePrefix e = refl
one_prefix_status ReservedPrefix ReservedPrefix e = refl
one_prefix_status DeprecatedPrefix DeprecatedPrefix e = refl
one_prefix_status Container ActivePrefix e = cc
one_prefix_status Container ReservedPrefix e = cc
one_prefix_status Container DeprecatedPrefix e = cc
one_prefix_status ActivePrefix Container e = cc
one_prefix_status ActivePrefix ReservedPrefix e = cc
one_prefix_status ActivePrefix DeprecatedPrefix e = cc
one_prefix_status ReservedPrefix Container e = cc
one_prefix_status ReservedPrefix ActivePrefix e = cc
one_prefix_status ReservedPrefix DeprecatedPrefix e = cc
one_prefix_status DeprecatedPrefix Container e = cc
one_prefix_status DeprecatedPrefix ActivePrefix e = cc
one_prefix_status DeprecatedPrefix ReservedPrefix e = cc

pub one_range_status : (a b : RangeStatus) → range_status_text a ≡ range_status_text b → a ≡ b
one_range_status ActiveRange ActiveRange e = refl
one_range_status ReservedRange ReservedRange e = refl
one_range_status DeprecatedRange DeprecatedRange e = refl
one_range_status ActiveRange ReservedRange e = cc
one_range_status ActiveRange DeprecatedRange e = cc
one_range_status ReservedRange ActiveRange e = cc
one_range_status ReservedRange DeprecatedRange e = cc
one_range_status DeprecatedRange ActiveRange e = cc
one_range_status DeprecatedRange ReservedRange e = cc

pub one_address_status : (a b : AddressStatus) → address_status_text a ≡ address_status_text b → a ≡ b
one_address_status ActiveAddress ActiveAddress e = refl
one_address_status ReservedAddress ReservedAddress e = refl
one_address_status DeprecatedAddress DeprecatedAddress e = refl
one_address_status Dhcp Dhcp e = refl
one_address_status Slaac Slaac e = refl
one_address_status ActiveAddress ReservedAddress e = cc
one_address_status ActiveAddress DeprecatedAddress e = cc
one_address_status ActiveAddress Dhcp e = cc
one_address_status ActiveAddress Slaac e = cc
one_address_status ReservedAddress ActiveAddress e = cc
one_address_status ReservedAddress DeprecatedAddress e = cc
one_address_status ReservedAddress Dhcp e = cc
one_address_status ReservedAddress Slaac e = cc
one_address_status DeprecatedAddress ActiveAddress e = cc
one_address_status DeprecatedAddress ReservedAddress e = cc
one_address_status DeprecatedAddress Dhcp e = cc
one_address_status DeprecatedAddress Slaac e = cc
one_address_status Dhcp ActiveAddress e = cc
one_address_status Dhcp ReservedAddress e = cc
one_address_status Dhcp DeprecatedAddress e = cc
one_address_status Dhcp Slaac e = cc
one_address_status Slaac ActiveAddress e = cc
one_address_status Slaac ReservedAddress e = cc
one_address_status Slaac DeprecatedAddress e = cc
one_address_status Slaac Dhcp e = cc

pub one_address_role : (a b : Option AddressRole) → address_role_text a ≡ address_role_text b → a ≡ b
one_address_role None None e = refl
one_address_role (Some Loopback) (Some Loopback) e = refl
one_address_role (Some Secondary) (Some Secondary) e = refl
one_address_role (Some Anycast) (Some Anycast) e = refl
one_address_role (Some Vip) (Some Vip) e = refl
one_address_role (Some Vrrp) (Some Vrrp) e = refl
one_address_role (Some Hsrp) (Some Hsrp) e = refl
one_address_role (Some Glbp) (Some Glbp) e = refl
one_address_role (Some Carp) (Some Carp) e = refl
one_address_role None (Some Loopback) e = cc
one_address_role None (Some Secondary) e = cc
one_address_role None (Some Anycast) e = cc
one_address_role None (Some Vip) e = cc
one_address_role None (Some Vrrp) e = cc
one_address_role None (Some Hsrp) e = cc
one_address_role None (Some Glbp) e = cc
one_address_role None (Some Carp) e = cc
one_address_role (Some Loopback) None e = cc
one_address_role (Some Loopback) (Some Secondary) e = cc
one_address_role (Some Loopback) (Some Anycast) e = cc
one_address_role (Some Loopback) (Some Vip) e = cc
one_address_role (Some Loopback) (Some Vrrp) e = cc
one_address_role (Some Loopback) (Some Hsrp) e = cc
one_address_role (Some Loopback) (Some Glbp) e = cc
one_address_role (Some Loopback) (Some Carp) e = cc
one_address_role (Some Secondary) None e = cc
one_address_role (Some Secondary) (Some Loopback) e = cc
one_address_role (Some Secondary) (Some Anycast) e = cc
one_address_role (Some Secondary) (Some Vip) e = cc
one_address_role (Some Secondary) (Some Vrrp) e = cc
one_address_role (Some Secondary) (Some Hsrp) e = cc
one_address_role (Some Secondary) (Some Glbp) e = cc
one_address_role (Some Secondary) (Some Carp) e = cc
one_address_role (Some Anycast) None e = cc
one_address_role (Some Anycast) (Some Loopback) e = cc
one_address_role (Some Anycast) (Some Secondary) e = cc
one_address_role (Some Anycast) (Some Vip) e = cc
one_address_role (Some Anycast) (Some Vrrp) e = cc
one_address_role (Some Anycast) (Some Hsrp) e = cc
one_address_role (Some Anycast) (Some Glbp) e = cc
one_address_role (Some Anycast) (Some Carp) e = cc
one_address_role (Some Vip) None e = cc
one_address_role (Some Vip) (Some Loopback) e = cc
one_address_role (Some Vip) (Some Secondary) e = cc
one_address_role (Some Vip) (Some Anycast) e = cc
one_address_role (Some Vip) (Some Vrrp) e = cc
one_address_role (Some Vip) (Some Hsrp) e = cc
one_address_role (Some Vip) (Some Glbp) e = cc
one_address_role (Some Vip) (Some Carp) e = cc
one_address_role (Some Vrrp) None e = cc
one_address_role (Some Vrrp) (Some Loopback) e = cc
one_address_role (Some Vrrp) (Some Secondary) e = cc
one_address_role (Some Vrrp) (Some Anycast) e = cc
one_address_role (Some Vrrp) (Some Vip) e = cc
one_address_role (Some Vrrp) (Some Hsrp) e = absurd (let c : 118 ≡ 104 = ap (λ (t : List ℕ). get_or t 0 0) e in omega arith)
one_address_role (Some Vrrp) (Some Glbp) e = absurd (let c : 118 ≡ 103 = ap (λ (t : List ℕ). get_or t 0 0) e in omega arith)
one_address_role (Some Vrrp) (Some Carp) e = absurd (let c : 118 ≡ 99 = ap (λ (t : List ℕ). get_or t 0 0) e in omega arith)
one_address_role (Some Hsrp) None e = cc
one_address_role (Some Hsrp) (Some Loopback) e = cc
one_address_role (Some Hsrp) (Some Secondary) e = cc
one_address_role (Some Hsrp) (Some Anycast) e = cc
one_address_role (Some Hsrp) (Some Vip) e = cc
one_address_role (Some Hsrp) (Some Vrrp) e = absurd (let c : 104 ≡ 118 = ap (λ (t : List ℕ). get_or t 0 0) e in omega arith)
one_address_role (Some Hsrp) (Some Glbp) e = absurd (let c : 104 ≡ 103 = ap (λ (t : List ℕ). get_or t 0 0) e in omega arith)
one_address_role (Some Hsrp) (Some Carp) e = absurd (let c : 104 ≡ 99 = ap (λ (t : List ℕ). get_or t 0 0) e in omega arith)
one_address_role (Some Glbp) None e = cc
one_address_role (Some Glbp) (Some Loopback) e = cc
one_address_role (Some Glbp) (Some Secondary) e = cc
one_address_role (Some Glbp) (Some Anycast) e = cc
one_address_role (Some Glbp) (Some Vip) e = cc
one_address_role (Some Glbp) (Some Vrrp) e = absurd (let c : 103 ≡ 118 = ap (λ (t : List ℕ). get_or t 0 0) e in omega arith)
one_address_role (Some Glbp) (Some Hsrp) e = absurd (let c : 103 ≡ 104 = ap (λ (t : List ℕ). get_or t 0 0) e in omega arith)
one_address_role (Some Glbp) (Some Carp) e = absurd (let c : 103 ≡ 99 = ap (λ (t : List ℕ). get_or t 0 0) e in omega arith)
one_address_role (Some Carp) None e = cc
one_address_role (Some Carp) (Some Loopback) e = cc
one_address_role (Some Carp) (Some Secondary) e = cc
one_address_role (Some Carp) (Some Anycast) e = cc
one_address_role (Some Carp) (Some Vip) e = cc
one_address_role (Some Carp) (Some Vrrp) e = absurd (let c : 99 ≡ 118 = ap (λ (t : List ℕ). get_or t 0 0) e in omega arith)
one_address_role (Some Carp) (Some Hsrp) e = absurd (let c : 99 ≡ 104 = ap (λ (t : List ℕ). get_or t 0 0) e in omega arith)
one_address_role (Some Carp) (Some Glbp) e = absurd (let c : 99 ≡ 103 = ap (λ (t : List ℕ). get_or t 0 0) e in omega arith)

pub one_number : (a b : ℕ) → IsWord a → IsWord b → decimal a ≡ decimal b → a ≡ b
one_number a b h k e = decimal_injective a b (omega arith) (omega arith) e

pub one_weight : (a b : ℕ) → IsWeight a → IsWeight b → decimal a ≡ decimal b → a ≡ b
one_weight a b h k e = one_number a b (omega arith) (omega arith) e

not_empty : (n : ℕ) → IsWord n → decimal n ≡ [] → ⊥
not_empty n h e = let l : 0 < length (decimal n) = decimal_nonempty n (omega arith) in let z : length (decimal n) ≡ 0 = ap length e in omega arith

pub one_reference : (a b : Option ℕ) → IsAbsentOr IsWord a → IsAbsentOr IsWord b → reference_text a ≡ reference_text b → a ≡ b
one_reference None None h k e = refl
one_reference None (Some n) h k e = absurd (not_empty n k (sym e))
one_reference (Some n) None h k e = absurd (not_empty n h e)
one_reference (Some n) (Some m) h k e = ap Some (one_number n m h k e)

no_distinguisher : (text : List ℕ) → IsDistinguisher text → text ≡ [] → ⊥
no_distinguisher text h e = let k = subst IsDistinguisher e h in let l = k.enough in let z : length (chars []) ≡ 0 = ap length chars-nil in omega arith

pub one_distinguisher : (a b : Option (List ℕ)) → ((t : List ℕ) → a ≡ Some t → IsDistinguisher t) → ((t : List ℕ) → b ≡ Some t → IsDistinguisher t) → optional_text a ≡ optional_text b → a ≡ b
one_distinguisher None None h k e = refl
one_distinguisher None (Some t) h k e = absurd (no_distinguisher t (k t refl) (sym e))
one_distinguisher (Some t) None h k e = absurd (no_distinguisher t (h t refl) e)
one_distinguisher (Some t) (Some u) h k e = ap Some e

pub one_block : (a b : Cidr) → IsBlock a → IsBlock b → block_text_of a ≡ block_text_of b → a ≡ b
one_block a b h k e = reading_is_one.blocks (block_text_of b) a b (subst (λ (t : List ℕ). IsBlockText t a) e (written_is_read a h)) (written_is_read b k)

masked_one : (a b : Masked) → (a.addr ≡ b.addr) × (a.len ≡ b.len) → a ≡ b
masked_one a b p =
    ap (λ (v : Address). let host : Masked = record { addr = v; len = a.len } in host) p.0
    ∙ ap (λ (v : ℕ). let host : Masked = record { addr = b.addr; len = v } in host) p.1

pub one_host : (a b : Masked) → IsMasked a → IsMasked b → masked_text a ≡ masked_text b → a ≡ b
one_host a b h k e = masked_one a b (one_masked a b h k e)

ends_one : (a b : RangeEnds) → a.start ≡ b.start → a.end ≡ b.end → a.len ≡ b.len → a ≡ b
ends_one a b s e l =
    ap (λ (v : Address). let ends : RangeEnds = record { start = v; end = a.end; len = a.len } in ends) s
    ∙ ap (λ (v : Address). let ends : RangeEnds = record { start = b.start; end = v; len = a.len } in ends) e
    ∙ ap (λ (v : ℕ). let ends : RangeEnds = record { start = b.start; end = b.end; len = v } in ends) l

pub one_ends : (a b : RangeEnds) → AreEnds a → AreEnds b → ends_texts a ≡ ends_texts b → a ≡ b
one_ends a b h k e =
    let s : host_text a.start a.len ≡ host_text b.start b.len = cc in
    let t : host_text a.end a.len ≡ host_text b.end b.len = cc in
    let p = one_masked (record { addr = a.start; len = a.len }) (record { addr = b.start; len = b.len }) (record { address = h.start; short = h.start_short }) (record { address = k.start; short = k.start_short }) s in
    let q = one_masked (record { addr = a.end; len = a.len }) (record { addr = b.end; len = b.len }) (record { address = h.end; short = h.end_short }) (record { address = k.end; short = k.end_short }) t in
    ends_one a b p.0 q.0 p.1

-- the hosts of a range's ends have one mask
pub ends_have_one_mask : (first last : Masked) (e : RangeEnds) → IsMasked first → IsMasked last → AreEnds e → ends_texts e ≡ masked_text first ∷ masked_text last ∷ [] → first.len ≡ last.len
ends_have_one_mask first last e f l h t =
    let s : host_text e.start e.len ≡ masked_text first = cc in
    let u : host_text e.end e.len ≡ masked_text last = cc in
    let p = one_masked (record { addr = e.start; len = e.len }) first (record { address = h.start; short = h.start_short }) f s in
    let q = one_masked (record { addr = e.end; len = e.len }) last (record { address = h.end; short = h.end_short }) l u in
    sym p.1 ∙ q.1

-- each end of a range is a host
pub no_first_host : (first last : List ℕ) → ((v : Masked) → IsMasked v → masked_text v ≢ first) → (e : RangeEnds) → AreEnds e → ends_texts e ≢ first ∷ last ∷ []
no_first_host first last u e h t = u (record { addr = e.start; len = e.len }) (record { address = h.start; short = h.start_short }) (let s : host_text e.start e.len ≡ first = cc in s)

pub no_last_host : (first last : List ℕ) → ((v : Masked) → IsMasked v → masked_text v ≢ last) → (e : RangeEnds) → AreEnds e → ends_texts e ≢ first ∷ last ∷ []
no_last_host first last u e h t = u (record { addr = e.end; len = e.len }) (record { address = h.end; short = h.end_short }) (let s : host_text e.end e.len ≡ last = cc in s)

-- a weight is not past the last one
pub no_heavy : (n w : ℕ) (text : List ℕ) → IsWord n × (decimal n ≡ text) → IsWeight w → decimal w ≡ text → n ≤ 32767
no_heavy n w text r h e = let same = one_number n w r.0 (omega arith) (r.1 ∙ sym e) in omega arith
