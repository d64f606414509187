-- What a call of a history made stands where a later claim looks, unless an entry between released it; so no claim gets it again.
use Rattle.std.proofs.Common.{◌&&◌, ◌++◌, ◌+◌, ◌-◌, ◌<◌, ◌==◌, ◌↔◌, ◌∙◌, ◌∷◌, ◌≡◌, ◌≢◌, ◌≤◌, ◌⊎◌, Bool, Contains, List, None, Option, Some, [], ap, arith, false, if◌then◌else◌, inl, inr, length, map, nat_le, refl, subst, suc, sym, take, true, zero, ℕ}
use Rattle.std.proofs.lemmas.Bool.Decides.{nat_tests}
use Rattle.std.proofs.lemmas.Nat.{pow_pos}
use Rattle.std.proofs.lemmas.List.{length-map}
use Rattle.std.proofs.lemmas.List.Elements.{Contains-append_cases}
use Rattle.std.specs.List.{slice_get}
use Rattle.inet_num.proofs.Aligned.{nested, not_longer}
use Rattle.inet_num.proofs.Insides.{both, inside_is_by_ends, inside_tested, one_family, same_address-refl, same_block-refl}
use Rattle.inet_num.proofs.Nested.{inside_trans}
use Rattle.inet_num.proofs.Numbers.{inside_by_ends, len_of_strictly, same_block as one_block}
use Rattle.inet_num.specs.Blocks.{is_block_inside, is_strictly_inside, same_address, same_block, same_family}
use Rattle.inet_num.specs.Count.{numbers_from}
use Rattle.inet_num.specs.Net.{Address, Cidr, IsBlock, IsInside, IsStrictlyInside, size_of, width_of}
use Rattle.ipam_data.specs.Addresses.{address_rules}
use Rattle.ipam_data.specs.Fields.{edited_address, edited_prefix, kind_of_edit}
use Rattle.ipam_data.specs.Lawful.{IsLawful}
use Rattle.ipam_data.specs.Plans.{KindRules, nothing_told, replace, with_found, with_row_at}
use Rattle.ipam_data.specs.Prefixes.{prefix_rules, view_of}
use Rattle.ipam_data.specs.Replays.{is_accepted, replay}
use Rattle.ipam_data.specs.RowList.{row_at, with_row}
use Rattle.ipam_data.specs.Rows.{address_id, prefix_id, same_kind}
use Rattle.ipam_data.specs.State.{Plan, State, verdict_of}
use Rattle.ipam_data.specs.Steps.{HasCallBounds, change_of_kind, plain_step}
use Rattle.ipam_data.specs.Tables.{same_table, table_of}
use Rattle.ipam_data.specs.Updates.{answered, outcome, updated}
use Rattle.ipam_data.specs.declared.address.IpAddress.{IpAddress}
use Rattle.ipam_data.specs.declared.calls.AddrItem.{AddrItem}
use Rattle.ipam_data.specs.declared.calls.Answered.{Answered}
use Rattle.ipam_data.specs.declared.calls.BlockItem.{BlockItem}
use Rattle.ipam_data.specs.declared.calls.Call.{Call}
use Rattle.ipam_data.specs.declared.calls.Call.TheVariants.{Change, ClaimBlocks, ClaimPrefixAddrs, ClaimRangeAddrs, Delete}
use Rattle.ipam_data.specs.declared.calls.Edit.{Edit}
use Rattle.ipam_data.specs.declared.kinds.Kind.{Kind}
use Rattle.ipam_data.specs.declared.kinds.Kind.TheVariants.{Addresses, Prefixes}
use Rattle.ipam_data.specs.declared.prefix.Prefix.{Prefix}
use Rattle.ipam_data.specs.declared.replies.Refusal.{Refusal}
use Rattle.ipam_data.specs.declared.replies.Reply.{Reply}
use Rattle.ipam_data.specs.declared.replies.Reply.TheVariants.{Refused}
use Rattle.ipam_data.specs.declared.replies.View.{View}
use Rattle.ipam_data.specs.declared.replies.View.TheVariants.{IpAddress as AddressView}
use Rattle.ipam_data.proofs.AllCalls.{steps_keep}
use Rattle.ipam_data.proofs.Decided.{same_table-of}
use Rattle.ipam_data.proofs.DraftLaws.{address_stays, prefix_stays}
use Rattle.ipam_data.proofs.Kept.{found_there}
use Rattle.ipam_data.proofs.RowLists.{contains_rest}
use Rattle.ipam_data.proofs.SameDrafts.{kinds}
use Rattle.claim_laws.specs.Claims.{GotAddresses, GotBlocks, IsLeastBlock}
use Rattle.claim_laws.specs.Free.{IsFreeIn, IsFreeInRange, ShareNone}
use Rattle.claim_laws.specs.Histories.{AddressesNeverMeet, BlocksNeverMeet, ClaimsNeverMeet, ReleasesAddress, ReleasesPrefix, claims_addresses, claims_blocks}
use Rattle.claim_laws.specs.Rows.{Came, IsListed, IsMade, touches}
use Rattle.claim_laws.proofs.FreeAddresses.{one_address, one_table}
use Rattle.claim_laws.proofs.Histories.{after_entry, between, good_at, kept_to, made_accepted, none_asked}
use Rattle.claim_laws.proofs.LeastAddresses.{in_prefix, in_range}
use Rattle.claim_laws.proofs.LeastBlocks.{of_blocks}
use Rattle.claim_laws.proofs.Listed.{lawful_listed, step_listed}
use Rattle.claim_laws.proofs.Lists.{contains_place, not_both, place_within}
use Rattle.claim_laws.proofs.NewIds.{ids_are_new}
use Rattle.claim_laws.proofs.Stays.{rows_stay}

-- ---- the rows of a claim are for its items

-- there is an item for each row
item_at : {T U : Type 0} (items : List T) (rows : List U) (k : ℕ) (x : U) → length rows ≡ length items → slice_get rows k ≡ Some x → (item : T) × (slice_get items k ≡ Some item)
item_at [] [] k x e q = cc
item_at [] (y ∷ rows) k x e q = absurd (omega arith)
item_at (item ∷ items) [] k x e q = cc
item_at (item ∷ items) (y ∷ rows) zero x e q = (item, refl)
item_at (item ∷ items) (y ∷ rows) (suc k) x e q = item_at items rows k x (omega arith) q

numbers_many : (n many : ℕ) → length (numbers_from n many) ≡ many
unfolding numbers_from
numbers_many n zero = refl
numbers_many n (suc many) = ap (λ (k : ℕ). suc k) (numbers_many (n + 1) many)

-- a claim makes a row for each item
many_came : {T : Type 0} (rules : KindRules T) (s : State) (done : State × Reply) (form : Answered) (items : ℕ) (view : T → View) (rows : List T) → Came rules s done form items view rows → length rows ≡ items
many_came rules s done form items view rows c = sym (length-map rows rules.id) ∙ ap length c.ids ∙ numbers_many (rules.row_list s).next items

row_table : (items : List AddrItem) (vrf : Option ℕ) (len : ℕ) (s : State) (done : State × Reply) (form : Answered) (IsFree : Address → Type 0) (got : GotAddresses IsFree vrf len s form items done) (y : IpAddress)
    → Contains got.rows y → y.vrf ≡ vrf
row_table items vrf len s done form IsFree got y c =
    let place = contains_place got.rows y c in
    let item = item_at items got.rows place.0 y (many_came address_rules s done form (length items) AddressView got.rows got.came) place.1 in
    (got.each place.0 item.0 y item.1 place.1).table

mapped_place : {T U : Type 0} (f : T → U) (xs : List T) (k : ℕ) (x : T) → slice_get xs k ≡ Some x → slice_get (map f xs) k ≡ Some (f x)
mapped_place f [] k x q = cc
mapped_place f (y ∷ ys) zero x q = (let e : y ≡ x = cc in ap (λ z. Some (f z)) e)
mapped_place f (y ∷ ys) (suc k) x q = mapped_place f ys k x q

row_block : (items : List BlockItem) (s : State) (done : State × Reply) (form : Answered) (p : Prefix) (got : GotBlocks s p form items done) (y : Prefix) → Contains got.rows y
    → (e : List Cidr × ℕ) × (y.vrf ≡ p.vrf) × IsLeastBlock s p e.0 e.1 y.block
row_block items s done form p got y c =
    let place = contains_place got.rows y c in
    let item = item_at items got.rows place.0 y (many_came prefix_rules s done form (length items) (view_of done.0.prefixes.rows) got.rows got.came) place.1 in
    let blocks : List Cidr = map (λ (x : Prefix). x.block) got.rows in (
      (take place.0 blocks, item.0.len),
      (got.each place.0 item.0 y item.1 place.1).table,
      got.least place.0 item.0 y.block item.1 (mapped_place (λ (x : Prefix). x.block) got.rows place.0 y place.1),
    )

-- ---- what an accepted change or deletion does

same_or_other : (a b : Address) → (a ≡ b) ⊎ (a ≢ b)
same_or_other a b = go (same_address a b) refl
  where
    go : (t : Bool) → same_address a b ≡ t → (a ≡ b) ⊎ (a ≢ b)
    go true e =
        let h = both (same_family a.family b.family) (a.value == b.value) e in
        let value : a.value ≡ b.value = (let q = h.1 in grind (arith, nat_tests)) in
        inl (one_address a b (one_family a.family b.family h.0) value)
    go false e = inr (λ q. let t : same_address a b ≡ true = rw q (same_address-refl b) in not_both (same_address a b) t e)

same_or_other_block : (a b : Cidr) → (a ≡ b) ⊎ (a ≢ b)
same_or_other_block a b = go (same_block a b) refl
  where
    go : (t : Bool) → same_block a b ≡ t → (a ≡ b) ⊎ (a ≢ b)
    go true e =
        let h = both (same_family a.family b.family && a.first == b.first) (a.len == b.len) e in
        let k = both (same_family a.family b.family) (a.first == b.first) h.0 in
        let first : a.first ≡ b.first = (let q = k.1 in grind (arith, nat_tests)) in
        let len : a.len ≡ b.len = (let q = h.1 in grind (arith, nat_tests)) in
        inl (one_block a b (one_family a.family b.family k.0) first len)
    go false e = inr (λ q. let t : same_block a b ≡ true = rw q (same_block-refl b) in not_both (same_block a b) t e)

same_or_other_table : (a b : Option ℕ) → (a ≡ b) ⊎ (a ≢ b)
same_or_other_table a b = go (same_table (table_of a) (table_of b)) refl
  where
    go : (t : Bool) → same_table (table_of a) (table_of b) ≡ t → (a ≡ b) ⊎ (a ≢ b)
    go true e = inl (one_table a b e)
    go false e = inr (λ q. not_both (same_table (table_of a) (table_of b)) (same_table-of a b q) e)

-- a row that was put is there
put_there : {T : Type 0} (id : T → ℕ) (xs : List T) (row : T) → Contains (with_row id xs row) row
put_there id [] row = (0, omega arith, refl)
put_there id (x ∷ xs) row = go (id x == id row) (put_there id xs row)
  where
    go : (t : Bool) → Contains (with_row id xs row) row → Contains (if t then row ∷ xs else x ∷ with_row id xs row) row
    go true c = (0, omega arith, refl)
    go false c = contains_rest x row (with_row id xs row) c

-- an accepted call with the row of an id found it, and did what its plan says
record IsChanged {T : Type 0} (rules : KindRules T) (s : State) (n : ℕ) (plan : T → Plan) : Type 0 where
  old : T
  there : row_at rules.id (rules.row_list s).rows n ≡ Some old
  is : (outcome s (with_row_at rules s n plan)).0 ≡ updated s (plan old).update

changed : {T : Type 0} (rules : KindRules T) (s : State) (n : ℕ) (plan : T → Plan) → is_accepted (outcome s (with_row_at rules s n plan)).1 ≡ true → IsChanged rules s n plan
changed {T} rules s n plan a = go (row_at rules.id (rules.row_list s).rows n) refl
  where
    done : (old : T) → (v : Option Refusal) → verdict_of (plan old) ≡ v → is_accepted (outcome s (plan old)).1 ≡ true → (outcome s (plan old)).0 ≡ updated s (plan old).update
    done old (Some refusal) e a =
        let o : outcome s (plan old) ≡ (s, Refused refusal) = rw (e, outcome) refl in
        let w : false ≡ true = ap (λ (d : State × Reply). is_accepted d.1) (sym o) ∙ a in cc
    done old None e a = (let o : outcome s (plan old) ≡ (updated s (plan old).update, answered (updated s (plan old).update) (plan old).reply) = rw (e, outcome) refl in ap (λ (d : State × Reply). d.0) o)

    go : (found : Option T) → row_at rules.id (rules.row_list s).rows n ≡ found → IsChanged rules s n plan
    go None e = (let w : is_accepted (outcome s (with_found rules n plan None)).1 ≡ true = subst (λ (f : Option T). is_accepted (outcome s (with_found rules n plan f)).1 ≡ true) e a in cc)
    go (Some old) e = (
        let w : is_accepted (outcome s (plan old)).1 ≡ true = subst (λ (f : Option T). is_accepted (outcome s (with_found rules n plan f)).1 ≡ true) e a in
        record { old = old; there = e; is = ap (λ (f : Option T). (outcome s (with_found rules n plan f)).0) e ∙ done old (verdict_of (plan old)) refl w })

-- ---- addresses

-- the address is there, with its host and its table
abbrev HasAddressOf : IpAddress → State → Type 0
HasAddressOf x s = (z : IpAddress) × Contains s.addresses.rows z × (z.id ≡ x.id) × (z.host.addr ≡ x.host.addr) × (z.vrf ≡ x.vrf)

address_edited : (x : IpAddress) (s : State) (n : ℕ) (edit : Edit) → kind_of_edit edit ≡ Addresses → n ≡ x.id → is_accepted (plain_step s (Change n edit)).1 ≡ true
    → HasAddressOf x (plain_step s (Change n edit)).0 ⊎ ReleasesAddress x s (Change n edit)
address_edited x s n edit kind same a =
    let plan : IpAddress → Plan = λ old. replace address_rules s old (nothing_told old) (edited_address edit old) in
    let step : plain_step s (Change n edit) ≡ outcome s (with_row_at address_rules s n plan) = ap (λ (k : Kind). outcome s (change_of_kind s n edit k)) kind in
    let b : is_accepted (outcome s (with_row_at address_rules s n plan)).1 ≡ true = subst (λ (d : State × Reply). is_accepted d.1 ≡ true) step a in
    let c = changed address_rules s n plan b in
    let z : IpAddress = edited_address edit c.old in
    let id : z.id ≡ x.id = address_stays edit c.old ∙ (found_there address_id s.addresses.rows n c.old c.there).1 ∙ same in
    let after : (plain_step s (Change n edit)).0 ≡ updated s (plan c.old).update = ap (λ (d : State × Reply). d.0) step ∙ c.is in
    let there : Contains (plain_step s (Change n edit)).0.addresses.rows z = subst (λ (t : State). Contains t.addresses.rows z) (sym after) (put_there address_id s.addresses.rows z) in
    let call : Change n edit ≡ Change x.id edit = ap (λ (m : ℕ). Change m edit) same in
    elim (same_or_other z.host.addr x.host.addr) [
      | inl host ↦ elim (same_or_other_table z.vrf x.vrf) [
        | inl table ↦ inl (z, there, id, host, table)
        | inr table ↦ inr (inr (edit, z, call, kind, there, id, inr table))
      ]
      | inr host ↦ inr (inr (edit, z, call, kind, there, id, inl host))
    ]

address_kept : (x : IpAddress) (s : State) (call : Call) → IsListed s → is_accepted (plain_step s call).1 ≡ true → HasAddressOf x s → HasAddressOf x (plain_step s call).0 ⊎ ReleasesAddress x s call
address_kept x s call h a c = go (touches Addresses x.id call) refl
  where
    touched : (call : Call) → is_accepted (plain_step s call).1 ≡ true → touches Addresses x.id call ≡ true → HasAddressOf x (plain_step s call).0 ⊎ ReleasesAddress x s call
    touched (Change n edit) a t =
        let b = both (same_kind (kind_of_edit edit) Addresses) (n == x.id) t in
        let same : n ≡ x.id = (let e = b.1 in grind (arith, nat_tests)) in
        address_edited x s n edit ((kinds (kind_of_edit edit) Addresses).0 b.0) same a
    touched (Delete kind n) a t =
        let b = both (same_kind kind Addresses) (n == x.id) t in
        let same : n ≡ x.id = (let e = b.1 in grind (arith, nat_tests)) in
        inr (inl (ap (λ (k : Kind). Delete k n) ((kinds kind Addresses).0 b.0) ∙ ap (λ (m : ℕ). Delete Addresses m) same))
    touched call a t = cc

    go : (t : Bool) → touches Addresses x.id call ≡ t → HasAddressOf x (plain_step s call).0 ⊎ ReleasesAddress x s call
    go true t = touched call a t
    go false t = inl (c.0, rows_stay.addresses s call c.0 h c.1 (subst (λ (n : ℕ). touches Addresses n call ≡ false) (sym c.2) t), c.2, c.3, c.4)

-- a row behind those that were there, with an id that none of them has, is one of those that came
came_row : {T : Type 0} (id : T → ℕ) (before rows after : List T) (y : T) → after ≡ before ++ rows → Contains after y → ((z : T) → Contains before z → id z ≢ id y) → Contains rows y
came_row id before rows after y e c new = elim (Contains-append_cases before rows y (subst (λ (xs : List _). Contains xs y) e c)) [
  | inl k ↦ absurd (new y k refl)
  | inr k ↦ k
]

-- a claim of addresses meets no address that is there
claim_meets_none : (s : State) (call : Call) (x y : IpAddress) → IsListed s → claims_addresses call ≡ true → Contains s.addresses.rows x → IsMade address_rules s call y → x.vrf ≡ y.vrf → x.host.addr ≢ y.host.addr
claim_meets_none s (ClaimPrefixAddrs n form items) x y h k c m v =
    let got = in_prefix s n form items (plain_step s (ClaimPrefixAddrs n form items)) h refl (made_accepted address_rules ids_are_new.addresses s (ClaimPrefixAddrs n form items) y m) in
    let row = came_row address_id s.addresses.rows got.2.rows (plain_step s (ClaimPrefixAddrs n form items)).0.addresses.rows y got.2.came.behind m.0 m.1 in
    let table : y.vrf ≡ got.0.vrf = row_table items got.0.vrf got.0.block.len s (plain_step s (ClaimPrefixAddrs n form items)) form (IsFreeIn s got.0) got.2 y row in
    (got.2.least.free y row).unused x c (inl (v ∙ table))
claim_meets_none s (ClaimRangeAddrs n form items) x y h k c m v =
    let got = in_range s n form items (plain_step s (ClaimRangeAddrs n form items)) h refl (made_accepted address_rules ids_are_new.addresses s (ClaimRangeAddrs n form items) y m) in
    let row = came_row address_id s.addresses.rows got.2.rows (plain_step s (ClaimRangeAddrs n form items)).0.addresses.rows y got.2.came.behind m.0 m.1 in
    let table : y.vrf ≡ got.0.vrf = row_table items got.0.vrf got.0.ends.len s (plain_step s (ClaimRangeAddrs n form items)) form (IsFreeInRange s got.0) got.2 y row in
    (got.2.least.free y row).unused x c (v ∙ table)
claim_meets_none s call x y h k c m v = cc

addresses_apart : AddressesNeverMeet
addresses_apart s history i j one other x y h l p q k m n v =
    let steps : (t : State) (call : Call) → IsListed t → Unit {0} → IsListed (plain_step t call).0 = λ t call g u. step_listed t call g in
    let at : IsListed (replay s (take j history)) = good_at IsListed (λ call. Unit {0}) steps history j s h (none_asked history) in
    let there : HasAddressOf x (replay s (take (suc i) history)) = subst (HasAddressOf x) (sym (after_entry history i s one p)) (x, m.0, refl, refl, refl) in
    let within = place_within history j other q in
    elim (kept_to IsListed (λ call. Unit {0}) steps (HasAddressOf x) (ReleasesAddress x) (address_kept x) history (suc i) j s (omega arith) (omega arith) h (none_asked history) there) [
      | inl z ↦ inl (λ e. claim_meets_none (replay s (take j history)) other.call z.0 y at k z.1 n (z.4 ∙ v) (z.3 ∙ e))
      | inr r ↦ inr (between s history i j (ReleasesAddress x) r)
    ]

-- ---- blocks

-- what the test of the ends says
inside_from : (q p : Cidr) → is_block_inside q p ≡ true → IsInside q p
inside_from q p t =
    let h = both (same_family q.family p.family && nat_le p.first q.first) (nat_le (q.first + size_of q - 1) (p.first + size_of p - 1)) t in
    let k = both (same_family q.family p.family) (nat_le p.first q.first) h.0 in
    let low : p.first ≤ q.first = (let e = k.1 in grind (arith, nat_tests)) in
    let ends : q.first + size_of q - 1 ≤ p.first + size_of p - 1 = (let e = h.1 in grind (arith, nat_tests)) in
    let some : 0 < size_of q = pow_pos (width_of q.family - q.len) in
    let some_p : 0 < size_of p = pow_pos (width_of p.family - p.len) in
    inside_by_ends q p (one_family q.family p.family k.0) low (omega arith)

-- blocks of which one lies in a third one: the other one shares nothing with it, or it lies strictly inside the other
-- one, where the other one does not lie strictly inside the third
beside_or_around : (x p y : Cidr) → IsBlock x → IsBlock p → IsBlock y → IsStrictlyInside y p → (IsStrictlyInside x p → ShareNone y x) → ShareNone x y ⊎ IsStrictlyInside y x
beside_or_around x p y hx hp hy inside child = go (is_strictly_inside x p) refl (is_block_inside p x) refl
  where
    tests : (is_strictly_inside x p ≡ true) ↔ IsStrictlyInside x p
    tests = inside_is_by_ends x p hx hp

    go : (t : Bool) → is_strictly_inside x p ≡ t → (u : Bool) → is_block_inside p x ≡ u → ShareNone x y ⊎ IsStrictlyInside y x
    go true e u f = inl (λ a i j. child (tests.0 e) a j i)
    go false e true f =
        let around = inside_from p x f in
        let longer = len_of_strictly y p hp.short hy.short inside in
        inr (record {
          inside = inside_trans y p x inside.inside around;
          other = λ q. (let l = ap (λ (b : Cidr). b.len) q in not_longer p x hx (omega arith) around);
        })
    go false e false f = inl (λ n i j. elim (nested x p hx hp (sym i.0 ∙ j.0 ∙ inside.inside.family) n.value i.1 (inside.inside.each n.value j.1)) [
      | inl a ↦ (let w : false ≡ true = sym e ∙ tests.1 (record {
        inside = a;
        other = λ q. (let b : IsInside p x = subst (λ (c : Cidr). IsInside c x) q (record { family = refl; each = λ m k. k }) in let t = inside_tested p x b in let v : true ≡ false = sym t ∙ f in cc);
      }) in cc)
      | inr b ↦ (let t = inside_tested p x b in let v : true ≡ false = sym t ∙ f in cc)
    ])

-- the prefix is there, with its block and its table
abbrev HasBlockOf : Prefix → State → Type 0
HasBlockOf x s = (z : Prefix) × Contains s.prefixes.rows z × (z.id ≡ x.id) × (z.block ≡ x.block) × (z.vrf ≡ x.vrf)

prefix_edited : (x : Prefix) (s : State) (n : ℕ) (edit : Edit) → kind_of_edit edit ≡ Prefixes → n ≡ x.id → is_accepted (plain_step s (Change n edit)).1 ≡ true
    → HasBlockOf x (plain_step s (Change n edit)).0 ⊎ ReleasesPrefix x s (Change n edit)
prefix_edited x s n edit kind same a =
    let plan : Prefix → Plan = λ old. replace prefix_rules s old (nothing_told old) (edited_prefix edit old) in
    let step : plain_step s (Change n edit) ≡ outcome s (with_row_at prefix_rules s n plan) = ap (λ (k : Kind). outcome s (change_of_kind s n edit k)) kind in
    let b : is_accepted (outcome s (with_row_at prefix_rules s n plan)).1 ≡ true = subst (λ (d : State × Reply). is_accepted d.1 ≡ true) step a in
    let c = changed prefix_rules s n plan b in
    let z : Prefix = edited_prefix edit c.old in
    let id : z.id ≡ x.id = prefix_stays edit c.old ∙ (found_there prefix_id s.prefixes.rows n c.old c.there).1 ∙ same in
    let after : (plain_step s (Change n edit)).0 ≡ updated s (plan c.old).update = ap (λ (d : State × Reply). d.0) step ∙ c.is in
    let there : Contains (plain_step s (Change n edit)).0.prefixes.rows z = subst (λ (t : State). Contains t.prefixes.rows z) (sym after) (put_there prefix_id s.prefixes.rows z) in
    let call : Change n edit ≡ Change x.id edit = ap (λ (m : ℕ). Change m edit) same in
    elim (same_or_other_block z.block x.block) [
      | inl block ↦ elim (same_or_other_table z.vrf x.vrf) [
        | inl table ↦ inl (z, there, id, block, table)
        | inr table ↦ inr (inr (edit, z, call, kind, there, id, inr table))
      ]
      | inr block ↦ inr (inr (edit, z, call, kind, there, id, inl block))
    ]

prefix_kept : (x : Prefix) (s : State) (call : Call) → IsLawful s → is_accepted (plain_step s call).1 ≡ true → HasBlockOf x s → HasBlockOf x (plain_step s call).0 ⊎ ReleasesPrefix x s call
prefix_kept x s call h a c = go (touches Prefixes x.id call) refl
  where
    touched : (call : Call) → is_accepted (plain_step s call).1 ≡ true → touches Prefixes x.id call ≡ true → HasBlockOf x (plain_step s call).0 ⊎ ReleasesPrefix x s call
    touched (Change n edit) a t =
        let b = both (same_kind (kind_of_edit edit) Prefixes) (n == x.id) t in
        let same : n ≡ x.id = (let e = b.1 in grind (arith, nat_tests)) in
        prefix_edited x s n edit ((kinds (kind_of_edit edit) Prefixes).0 b.0) same a
    touched (Delete kind n) a t =
        let b = both (same_kind kind Prefixes) (n == x.id) t in
        let same : n ≡ x.id = (let e = b.1 in grind (arith, nat_tests)) in
        inr (inl (ap (λ (k : Kind). Delete k n) ((kinds kind Prefixes).0 b.0) ∙ ap (λ (m : ℕ). Delete Prefixes m) same))
    touched call a t = cc

    go : (t : Bool) → touches Prefixes x.id call ≡ t → HasBlockOf x (plain_step s call).0 ⊎ ReleasesPrefix x s call
    go true t = touched call a t
    go false t = elim (rows_stay.prefixes s call c.0 (lawful_listed s h) c.1 (subst (λ (n : ℕ). touches Prefixes n call ≡ false) (sym c.2) t)) [
      | inl k ↦ inl (c.0, k, c.2, c.3, c.4)
      | inr k ↦ inl (record c.0 { role = None }, k.1, c.2, c.3, c.4)
    ]

-- a claim of blocks beside a prefix that is there
block_meets : (s : State) (call : Call) (x y : Prefix) → IsLawful s → claims_blocks call ≡ true → Contains s.prefixes.rows x → IsMade prefix_rules s call y → x.vrf ≡ y.vrf
    → ShareNone x.block y.block ⊎ IsStrictlyInside y.block x.block
block_meets s (ClaimBlocks n form items) x y h k c m v =
    let got = of_blocks s n form items (plain_step s (ClaimBlocks n form items)) h refl (made_accepted prefix_rules ids_are_new.prefixes s (ClaimBlocks n form items) y m) in
    let row = came_row prefix_id s.prefixes.rows got.2.rows (plain_step s (ClaimBlocks n form items)).0.prefixes.rows y got.2.came.behind m.0 m.1 in
    let p : Prefix = got.0 in
    let is = row_block items s (plain_step s (ClaimBlocks n form items)) form p got.2 y row in
    let hx : IsBlock x.block = (h.prefixes.each x c).bounds.block in
    let hp : IsBlock p.block = (h.prefixes.each p (found_there prefix_id s.prefixes.rows n p got.1).0).bounds.block in
    beside_or_around x.block p.block y.block hx hp is.2.free.block is.2.free.inside (is.2.free.unused x c (inl (v ∙ is.1)))
block_meets s call x y h k c m v = cc

blocks_apart : BlocksNeverMeet
blocks_apart s history i j one other x y h b l p q k m n v =
    let at : IsLawful (replay s (take j history)) = good_at IsLawful HasCallBounds steps_keep history j s h b in
    let there : HasBlockOf x (replay s (take (suc i) history)) = subst (HasBlockOf x) (sym (after_entry history i s one p)) (x, m.0, refl, refl, refl) in
    let within = place_within history j other q in
    elim (kept_to IsLawful HasCallBounds steps_keep (HasBlockOf x) (ReleasesPrefix x) (prefix_kept x) history (suc i) j s (omega arith) (omega arith) h b there) [
      | inl z ↦ (
          let meets = block_meets (replay s (take j history)) other.call z.0 y at k z.1 n (z.4 ∙ v) in
          let meets : ShareNone x.block y.block ⊎ IsStrictlyInside y.block x.block = subst (λ (w : Cidr). ShareNone w y.block ⊎ IsStrictlyInside y.block w) z.3 meets in
          elim meets [ inl a ↦ inl a | inr a ↦ inr (inl a) ])
      | inr r ↦ inr (inr (between s history i j (ReleasesPrefix x) r))
    ]

pub never_meet : ClaimsNeverMeet
never_meet = record { addresses = addresses_apart; blocks = blocks_apart }
