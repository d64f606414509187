-- The test of two drafts says whether they are one.
use Rattle.std.proofs.Common.{◌≡◌, ℕ, ◌==◌, ◌&&◌, Bool, true, Option, Some, None, refl, ap, sym, ◌∙◌, subst, if◌then◌else◌}
use Rattle.std.specs.Bool.{Decides}
use Rattle.std.specs.Cmp.{booleans_Decides, unsigned_Decides}
use Rattle.std.specs.Option.{option_eq}
use Rattle.std.specs.Prelude.{bytes_eq}
use Rattle.std.proofs.lemmas.Bool.Decides.{Decides-and}
use Rattle.std.proofs.lemmas.Slice.Eq.{bytes_eq-Decides}
use Rattle.inet_num.specs.Net.{Address, Cidr}
use Rattle.inet_num.specs.declared.Family.{Family}
use Rattle.inet_num.specs.Blocks.{same_family, same_block, same_address}
use Rattle.inet_num.proofs.Insides.{one_family, same_family-refl}
use Rattle.inet_num.proofs.Numbers.{same_block as one_block}
use Rattle.ipam_data.specs.declared.prefix.PrefixStatus.{PrefixStatus}
use Rattle.ipam_data.specs.declared.prefix.PrefixStatus.TheVariants.{Container, Active as ActivePrefix, Reserved as ReservedPrefix, Deprecated as DeprecatedPrefix}
use Rattle.ipam_data.specs.declared.range.RangeStatus.{RangeStatus}
use Rattle.ipam_data.specs.declared.range.RangeStatus.TheVariants.{Active as ActiveRange, Reserved as ReservedRange, Deprecated as DeprecatedRange}
use Rattle.ipam_data.specs.declared.address.AddressStatus.{AddressStatus}
use Rattle.ipam_data.specs.declared.address.AddressStatus.TheVariants.{Active as ActiveAddress, Reserved as ReservedAddress, Deprecated as DeprecatedAddress, Dhcp, Slaac}
use Rattle.ipam_data.specs.declared.address.AddressRole.{AddressRole}
use Rattle.ipam_data.specs.declared.address.AddressRole.TheVariants.{Loopback, Secondary, Anycast, Vip, Vrrp, Hsrp, Glbp, Carp}
use Rattle.ipam_data.specs.declared.kinds.Kind.{Kind}
use Rattle.ipam_data.specs.declared.kinds.Kind.TheVariants.{Vrfs, Rirs, Roles, Aggregates, Prefixes, Ranges, Addresses}
use Rattle.ipam_data.specs.declared.calls.Draft.{Draft}
use Rattle.ipam_data.specs.declared.calls.Draft.TheVariants.{Vrf as VrfDraft, Rir as RirDraft, Role as RoleDraft, Aggregate as AggregateDraft, Prefix as PrefixDraft, IpRange as RangeDraft, IpAddress as AddressDraft}
use Rattle.ipam_data.specs.Hosts.{Masked}
use Rattle.ipam_data.specs.Rows.{kind_number, same_kind, prefix_status_number, range_status_number, address_status_number, address_role_number}
use Rattle.ipam_data.specs.Tables.{same_name}
use Rattle.ipam_data.specs.Fields.{same_host, same_address_role, same_draft}

-- ---- what the test of each field says

-- values that have numbers are one where their numbers are
by_number : {A : Type 0} (number : A → ℕ) (back : ℕ → A) → ((a : A) → back (number a) ≡ a) → (a b : A) → Decides (number a == number b) (a ≡ b)
by_number number back same a b =
    let n = unsigned_Decides (number a) (number b) in
    (λ e. sym (same a) ∙ ap back (n.0 e) ∙ same b, λ e. n.1 (ap number e))

abbrev kind_back : ℕ → Kind
kind_back n =
    if n == 1 then Vrfs else (if n == 2 then Rirs else (if n == 3 then Roles else (if n == 4 then Aggregates
    else (if n == 5 then Prefixes else (if n == 6 then Ranges else Addresses)))))

kind_same : (kind : Kind) → kind_back (kind_number kind) ≡ kind
kind_same Vrfs = refl
kind_same Rirs = refl
kind_same Roles = refl
kind_same Aggregates = refl
kind_same Prefixes = refl
kind_same Ranges = refl
kind_same Addresses = refl

pub kinds : (a b : Kind) → Decides (same_kind a b) (a ≡ b)
kinds a b = by_number kind_number kind_back kind_same a b

abbrev prefix_status_back : ℕ → PrefixStatus
prefix_status_back n = if n == 0 then Container else (if n == 1 then ActivePrefix else (if n == 2 then ReservedPrefix else DeprecatedPrefix))

prefix_status_same : (status : PrefixStatus) → prefix_status_back (prefix_status_number status) ≡ status
prefix_status_same Container = refl
prefix_status_same ActivePrefix = refl
prefix_status_same ReservedPrefix = refl
prefix_status_same DeprecatedPrefix = refl

abbrev range_status_back : ℕ → RangeStatus
range_status_back n = if n == 0 then ActiveRange else (if n == 1 then ReservedRange else DeprecatedRange)

range_status_same : (status : RangeStatus) → range_status_back (range_status_number status) ≡ status
range_status_same ActiveRange = refl
range_status_same ReservedRange = refl
range_status_same DeprecatedRange = refl

abbrev address_status_back : ℕ → AddressStatus
address_status_back n =
    if n == 0 then ActiveAddress else (if n == 1 then ReservedAddress else (if n == 2 then DeprecatedAddress else (if n == 3 then Dhcp else Slaac)))

address_status_same : (status : AddressStatus) → address_status_back (address_status_number status) ≡ status
address_status_same ActiveAddress = refl
address_status_same ReservedAddress = refl
address_status_same DeprecatedAddress = refl
address_status_same Dhcp = refl
address_status_same Slaac = refl

abbrev address_role_back : ℕ → AddressRole
address_role_back n =
    if n == 0 then Loopback else (if n == 1 then Secondary else (if n == 2 then Anycast else (if n == 3 then Vip
    else (if n == 4 then Vrrp else (if n == 5 then Hsrp else (if n == 6 then Glbp else Carp))))))

address_role_same : (role : AddressRole) → address_role_back (address_role_number role) ≡ role
address_role_same Loopback = refl
address_role_same Secondary = refl
address_role_same Anycast = refl
address_role_same Vip = refl
address_role_same Vrrp = refl
address_role_same Hsrp = refl
address_role_same Glbp = refl
address_role_same Carp = refl

roles : (a b : AddressRole) → Decides (same_address_role a b) (a ≡ b)
roles a b = by_number address_role_number address_role_back address_role_same a b

optional : {T : Type 0} (same : T → T → Bool) → ((a b : T) → Decides (same a b) (a ≡ b)) → (x y : Option T) → Decides (option_eq same x y) (x ≡ y)
optional same each None None = (λ e. refl, λ e. refl)
optional same each None (Some b) = (λ e. cc, λ e. cc)
optional same each (Some a) None = (λ e. cc, λ e. cc)
optional same each (Some a) (Some b) = (λ e. ap Some ((each a b).0 e), λ e. (each a b).1 (let f : a ≡ b = cc in f))

ids : (x y : Option ℕ) → Decides (same_name x y) (x ≡ y)
ids None None = (λ e. refl, λ e. refl)
ids None (Some b) = (λ e. cc, λ e. cc)
ids (Some a) None = (λ e. cc, λ e. cc)
ids (Some a) (Some b) = (λ e. ap Some ((unsigned_Decides a b).0 e), λ e. (unsigned_Decides a b).1 (let f : a ≡ b = cc in f))

families : (f g : Family) → Decides (same_family f g) (f ≡ g)
families f g = (one_family f g, λ e. subst (λ (h : Family). same_family f h ≡ true) e (same_family-refl f))

addresses : (a b : Address) → Decides (same_address a b) (a ≡ b)
addresses a b =
    let h = Decides-and (same_family a.family b.family) (a.value == b.value) (families a.family b.family) (unsigned_Decides a.value b.value) in (
      λ e. ap (λ f. let x : Address = record { family = f; value = a.value } in x) (h.0 e).0 ∙ ap (λ v. let x : Address = record { family = b.family; value = v } in x) (h.0 e).1,
      λ e. h.1 (ap (λ (x : Address). x.family) e, ap (λ (x : Address). x.value) e),
    )

blocks : (a b : Cidr) → Decides (same_block a b) (a ≡ b)
blocks a b =
    let h = Decides-and (same_family a.family b.family && a.first == b.first) (a.len == b.len)
    (Decides-and (same_family a.family b.family) (a.first == b.first) (families a.family b.family) (unsigned_Decides a.first b.first)) (unsigned_Decides a.len b.len) in (
      λ e. one_block a b (h.0 e).0.0 (h.0 e).0.1 (h.0 e).1,
      λ e. h.1 ((ap (λ (x : Cidr). x.family) e, ap (λ (x : Cidr). x.first) e), ap (λ (x : Cidr). x.len) e),
    )

hosts : (a b : Masked) → Decides (same_host a b) (a ≡ b)
hosts a b =
    let h = Decides-and (same_address a.addr b.addr) (a.len == b.len) (addresses a.addr b.addr) (unsigned_Decides a.len b.len) in (
      λ e. ap (λ c. let x : Masked = record { addr = c; len = a.len } in x) (h.0 e).0 ∙ ap (λ n. let x : Masked = record { addr = b.addr; len = n } in x) (h.0 e).1,
      λ e. h.1 (ap (λ (x : Masked). x.addr) e, ap (λ (x : Masked). x.len) e),
    )

-- ---- drafts

-- two tests together
more : {P Q : Type 0} {p q : Bool} → Decides p P → Decides q Q → Decides (p && q) (P × Q)
more {P} {Q} {p} {q} h k = Decides-and p q h k

pub same_decides : (a b : Draft) → Decides (same_draft a b) (a ≡ b)
unfolding same_draft
same_decides (VrfDraft name rd unique text) (VrfDraft name2 rd2 unique2 text2) =
    let h = more (more (more (bytes_eq-Decides name name2) (optional bytes_eq bytes_eq-Decides rd rd2)) (booleans_Decides unique unique2)) (bytes_eq-Decides text text2) in
    (λ e. (let f = h.0 e in rw (f.0.0.0, f.0.0.1, f.0.1, f.1) refl), λ e. h.1 (((cc, cc), cc), cc))
same_decides (RirDraft name slug private text) (RirDraft name2 slug2 private2 text2) =
    let h = more (more (more (bytes_eq-Decides name name2) (bytes_eq-Decides slug slug2)) (booleans_Decides private private2)) (bytes_eq-Decides text text2) in
    (λ e. (let f = h.0 e in rw (f.0.0.0, f.0.0.1, f.0.1, f.1) refl), λ e. h.1 (((cc, cc), cc), cc))
same_decides (RoleDraft name slug weight text) (RoleDraft name2 slug2 weight2 text2) =
    let h = more (more (more (bytes_eq-Decides name name2) (bytes_eq-Decides slug slug2)) (unsigned_Decides weight weight2)) (bytes_eq-Decides text text2) in
    (λ e. (let f = h.0 e in rw (f.0.0.0, f.0.0.1, f.0.1, f.1) refl), λ e. h.1 (((cc, cc), cc), cc))
same_decides (AggregateDraft block rir text) (AggregateDraft block2 rir2 text2) =
    let h = more (more (blocks block block2) (unsigned_Decides rir rir2)) (bytes_eq-Decides text text2) in
    (λ e. (let f = h.0 e in rw (f.0.0, f.0.1, f.1) refl), λ e. h.1 ((cc, cc), cc))
same_decides (PrefixDraft block vrf status role pool used text) (PrefixDraft block2 vrf2 status2 role2 pool2 used2 text2) =
    let statuses = by_number prefix_status_number prefix_status_back prefix_status_same status status2 in
    let h = more (more (more (more (more (more (blocks block block2) (ids vrf vrf2)) statuses) (ids role role2)) (booleans_Decides pool pool2)) (booleans_Decides used used2)) (bytes_eq-Decides text text2) in
    (λ e. (let f = h.0 e in rw (f.0.0.0.0.0.0, f.0.0.0.0.0.1, f.0.0.0.0.1, f.0.0.0.1, f.0.0.1, f.0.1, f.1) refl), λ e. h.1 ((((((cc, cc), cc), cc), cc), cc), cc))
same_decides (RangeDraft start end vrf status role used filled text) (RangeDraft start2 end2 vrf2 status2 role2 used2 filled2 text2) =
    let statuses = by_number range_status_number range_status_back range_status_same status status2 in
    let marks = more (more (more (more (more (more (hosts start start2) (hosts end end2)) (ids vrf vrf2)) statuses) (ids role role2)) (booleans_Decides used used2)) (booleans_Decides filled filled2) in
    let h = more marks (bytes_eq-Decides text text2) in
    (λ e. (let f = h.0 e in rw (f.0.0.0.0.0.0.0, f.0.0.0.0.0.0.1, f.0.0.0.0.0.1, f.0.0.0.0.1, f.0.0.0.1, f.0.0.1, f.0.1, f.1) refl), λ e. h.1 (((((((cc, cc), cc), cc), cc), cc), cc), cc))
same_decides (AddressDraft host vrf status role name text) (AddressDraft host2 vrf2 status2 role2 name2 text2) =
    let statuses = by_number address_status_number address_status_back address_status_same status status2 in
    let h = more (more (more (more (more (hosts host host2) (ids vrf vrf2)) statuses) (optional same_address_role roles role role2)) (bytes_eq-Decides name name2)) (bytes_eq-Decides text text2) in
    (λ e. (let f = h.0 e in rw (f.0.0.0.0.0, f.0.0.0.0.1, f.0.0.0.1, f.0.0.1, f.0.1, f.1) refl), λ e. h.1 (((((cc, cc), cc), cc), cc), cc))
same_decides a b = (λ e. cc, λ e. cc)
