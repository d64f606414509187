-- A row that was written is read as that row.
use Rattle.std.proofs.Common.{◌≡◌, Some, None, refl, ap, sym, ◌∙◌, arith}
use Rattle.ipam_data.specs.declared.replies.View.{View}
use Rattle.ipam_data.specs.declared.replies.View.TheVariants.{Vrf as VrfView, Rir as RirView, Role as RoleView, Aggregate as AggregateView, Prefix as PrefixView, IpRange as RangeView, IpAddress as AddressView}
use Rattle.stored_tables.specs.declared.tables.Row.{Row}
use Rattle.stored_tables.specs.Stored.{stored_row, kind_number}
use Rattle.stored_tables.specs.Reading.{IsBare, bare, WrittenIsRead}
use Rattle.stored_tables.proofs.Alike.{one_vrf, one_rir, one_role, one_aggregate, one_prefix, one_range, one_address}

-- rows of two kinds are not stored alike
kinds_apart : (a b : View) → stored_row a ≡ stored_row b → kind_number (stored_row a).kind ≡ kind_number (stored_row b).kind
kinds_apart a b e = ap (λ (r : Row). kind_number r.kind) e

-- of two rows without figures that are stored alike, one is the other
pub one_row : (a b : View) → IsBare a → IsBare b → stored_row a ≡ stored_row b → a ≡ b
one_row (VrfView a) (VrfView b) h k e = ap VrfView (one_vrf a b h k e)
one_row (VrfView a) (RirView b) h k e = absurd (let n : 1 ≡ 2 = kinds_apart (VrfView a) (RirView b) e in omega arith)
one_row (VrfView a) (RoleView b) h k e = absurd (let n : 1 ≡ 3 = kinds_apart (VrfView a) (RoleView b) e in omega arith)
one_row (VrfView a) (AggregateView b) h k e = absurd (let n : 1 ≡ 4 = kinds_apart (VrfView a) (AggregateView b) e in omega arith)
one_row (VrfView a) (PrefixView b d2 c2) h k e = absurd (let n : 1 ≡ 5 = kinds_apart (VrfView a) (PrefixView b d2 c2) e in omega arith)
one_row (VrfView a) (RangeView b) h k e = absurd (let n : 1 ≡ 6 = kinds_apart (VrfView a) (RangeView b) e in omega arith)
one_row (VrfView a) (AddressView b) h k e = absurd (let n : 1 ≡ 7 = kinds_apart (VrfView a) (AddressView b) e in omega arith)
one_row (RirView a) (VrfView b) h k e = absurd (let n : 2 ≡ 1 = kinds_apart (RirView a) (VrfView b) e in omega arith)
one_row (RirView a) (RirView b) h k e = ap RirView (one_rir a b h k e)
one_row (RirView a) (RoleView b) h k e = absurd (let n : 2 ≡ 3 = kinds_apart (RirView a) (RoleView b) e in omega arith)
one_row (RirView a) (AggregateView b) h k e = absurd (let n : 2 ≡ 4 = kinds_apart (RirView a) (AggregateView b) e in omega arith)
one_row (RirView a) (PrefixView b d2 c2) h k e = absurd (let n : 2 ≡ 5 = kinds_apart (RirView a) (PrefixView b d2 c2) e in omega arith)
one_row (RirView a) (RangeView b) h k e = absurd (let n : 2 ≡ 6 = kinds_apart (RirView a) (RangeView b) e in omega arith)
one_row (RirView a) (AddressView b) h k e = absurd (let n : 2 ≡ 7 = kinds_apart (RirView a) (AddressView b) e in omega arith)
one_row (RoleView a) (VrfView b) h k e = absurd (let n : 3 ≡ 1 = kinds_apart (RoleView a) (VrfView b) e in omega arith)
one_row (RoleView a) (RirView b) h k e = absurd (let n : 3 ≡ 2 = kinds_apart (RoleView a) (RirView b) e in omega arith)
one_row (RoleView a) (RoleView b) h k e = ap RoleView (one_role a b h k e)
one_row (RoleView a) (AggregateView b) h k e = absurd (let n : 3 ≡ 4 = kinds_apart (RoleView a) (AggregateView b) e in omega arith)
one_row (RoleView a) (PrefixView b d2 c2) h k e = absurd (let n : 3 ≡ 5 = kinds_apart (RoleView a) (PrefixView b d2 c2) e in omega arith)
one_row (RoleView a) (RangeView b) h k e = absurd (let n : 3 ≡ 6 = kinds_apart (RoleView a) (RangeView b) e in omega arith)
one_row (RoleView a) (AddressView b) h k e = absurd (let n : 3 ≡ 7 = kinds_apart (RoleView a) (AddressView b) e in omega arith)
one_row (AggregateView a) (VrfView b) h k e = absurd (let n : 4 ≡ 1 = kinds_apart (AggregateView a) (VrfView b) e in omega arith)
one_row (AggregateView a) (RirView b) h k e = absurd (let n : 4 ≡ 2 = kinds_apart (AggregateView a) (RirView b) e in omega arith)
one_row (AggregateView a) (RoleView b) h k e = absurd (let n : 4 ≡ 3 = kinds_apart (AggregateView a) (RoleView b) e in omega arith)
one_row (AggregateView a) (AggregateView b) h k e = ap AggregateView (one_aggregate a b h k e)
one_row (AggregateView a) (PrefixView b d2 c2) h k e = absurd (let n : 4 ≡ 5 = kinds_apart (AggregateView a) (PrefixView b d2 c2) e in omega arith)
one_row (AggregateView a) (RangeView b) h k e = absurd (let n : 4 ≡ 6 = kinds_apart (AggregateView a) (RangeView b) e in omega arith)
one_row (AggregateView a) (AddressView b) h k e = absurd (let n : 4 ≡ 7 = kinds_apart (AggregateView a) (AddressView b) e in omega arith)
one_row (PrefixView a d1 c1) (VrfView b) h k e = absurd (let n : 5 ≡ 1 = kinds_apart (PrefixView a d1 c1) (VrfView b) e in omega arith)
one_row (PrefixView a d1 c1) (RirView b) h k e = absurd (let n : 5 ≡ 2 = kinds_apart (PrefixView a d1 c1) (RirView b) e in omega arith)
one_row (PrefixView a d1 c1) (RoleView b) h k e = absurd (let n : 5 ≡ 3 = kinds_apart (PrefixView a d1 c1) (RoleView b) e in omega arith)
one_row (PrefixView a d1 c1) (AggregateView b) h k e = absurd (let n : 5 ≡ 4 = kinds_apart (PrefixView a d1 c1) (AggregateView b) e in omega arith)
one_row (PrefixView a d1 c1) (PrefixView b d2 c2) h k e = let same = one_prefix a b h.0 k.0 e in let p = h.1 in let q = h.2 in let r = k.1 in let s = k.2 in cc
one_row (PrefixView a d1 c1) (RangeView b) h k e = absurd (let n : 5 ≡ 6 = kinds_apart (PrefixView a d1 c1) (RangeView b) e in omega arith)
one_row (PrefixView a d1 c1) (AddressView b) h k e = absurd (let n : 5 ≡ 7 = kinds_apart (PrefixView a d1 c1) (AddressView b) e in omega arith)
one_row (RangeView a) (VrfView b) h k e = absurd (let n : 6 ≡ 1 = kinds_apart (RangeView a) (VrfView b) e in omega arith)
one_row (RangeView a) (RirView b) h k e = absurd (let n : 6 ≡ 2 = kinds_apart (RangeView a) (RirView b) e in omega arith)
one_row (RangeView a) (RoleView b) h k e = absurd (let n : 6 ≡ 3 = kinds_apart (RangeView a) (RoleView b) e in omega arith)
one_row (RangeView a) (AggregateView b) h k e = absurd (let n : 6 ≡ 4 = kinds_apart (RangeView a) (AggregateView b) e in omega arith)
one_row (RangeView a) (PrefixView b d2 c2) h k e = absurd (let n : 6 ≡ 5 = kinds_apart (RangeView a) (PrefixView b d2 c2) e in omega arith)
one_row (RangeView a) (RangeView b) h k e = ap RangeView (one_range a b h k e)
one_row (RangeView a) (AddressView b) h k e = absurd (let n : 6 ≡ 7 = kinds_apart (RangeView a) (AddressView b) e in omega arith)
one_row (AddressView a) (VrfView b) h k e = absurd (let n : 7 ≡ 1 = kinds_apart (AddressView a) (VrfView b) e in omega arith)
one_row (AddressView a) (RirView b) h k e = absurd (let n : 7 ≡ 2 = kinds_apart (AddressView a) (RirView b) e in omega arith)
one_row (AddressView a) (RoleView b) h k e = absurd (let n : 7 ≡ 3 = kinds_apart (AddressView a) (RoleView b) e in omega arith)
one_row (AddressView a) (AggregateView b) h k e = absurd (let n : 7 ≡ 4 = kinds_apart (AddressView a) (AggregateView b) e in omega arith)
one_row (AddressView a) (PrefixView b d2 c2) h k e = absurd (let n : 7 ≡ 5 = kinds_apart (AddressView a) (PrefixView b d2 c2) e in omega arith)
one_row (AddressView a) (RangeView b) h k e = absurd (let n : 7 ≡ 6 = kinds_apart (AddressView a) (RangeView b) e in omega arith)
one_row (AddressView a) (AddressView b) h k e = ap AddressView (one_address a b h k e)

stored_bare : (view : View) → stored_row (bare view) ≡ stored_row view
stored_bare (VrfView row) = refl
stored_bare (RirView row) = refl
stored_bare (RoleView row) = refl
stored_bare (AggregateView row) = refl
stored_bare (PrefixView row depth children) = refl
stored_bare (RangeView row) = refl
stored_bare (AddressView row) = refl

pub written_is_read : WrittenIsRead
written_is_read view None h r = absurd (r (bare view) h (stored_bare view))
written_is_read view (Some other) h r = ap Some (one_row other (bare view) r.0 h (r.1 ∙ sym (stored_bare view)))
