-- What is known of the row that a draft makes, and of the row that an edit leaves: its id, and that it is within the bounds of its
-- type. In each law by cases the last line is of the kinds that are left, and names no fields.
use Rattle.std.proofs.Common.{◌≡◌, ℕ, List, [], ◌∷◌, length, Option, Some, None, refl, ap, arith}
use Rattle.std.proofs.lemmas.Str.Ascii.{lowercase-lowercase}
use Rattle.std.specs.Char.{to_ascii_lowercase}
use Rattle.std.specs.Str.{str_to_ascii_lowercase}
use Rattle.inet_num.specs.Net.{IsBlock}
use Rattle.ipam_data.specs.declared.vrf.Vrf.{Vrf}
use Rattle.ipam_data.specs.declared.rir.Rir.{Rir}
use Rattle.ipam_data.specs.declared.role.Role.{Role}
use Rattle.ipam_data.specs.declared.aggregate.Aggregate.{Aggregate}
use Rattle.ipam_data.specs.declared.prefix.Prefix.{Prefix}
use Rattle.ipam_data.specs.declared.range.IpRange.{IpRange}
use Rattle.ipam_data.specs.declared.address.IpAddress.{IpAddress}
use Rattle.ipam_data.specs.declared.calls.Draft.{Draft}
use Rattle.ipam_data.specs.declared.calls.Draft.TheVariants.{Vrf as VrfDraft, Rir as RirDraft, Role as RoleDraft, IpRange as RangeDraft, IpAddress as AddressDraft}
use Rattle.ipam_data.specs.declared.calls.Edit.{Edit}
use Rattle.ipam_data.specs.declared.calls.Edit.TheVariants.{Vrf as VrfEdit, Rir as RirEdit, Role as RoleEdit, Aggregate as AggregateEdit, IpRange as RangeEdit, IpAddress as AddressEdit}
use Rattle.ipam_data.specs.declared.replies.Rule.TheVariants.{RangeFamily}
use Rattle.ipam_data.specs.declared.replies.View.{View}
use Rattle.ipam_data.specs.declared.replies.View.TheVariants.{Vrf as VrfView, Rir as RirView, Role as RoleView, Aggregate as AggregateView, Prefix as PrefixView, IpRange as RangeView, IpAddress as AddressView}
use Rattle.ipam_data.specs.Texts.{IsName, IsSlug, IsDescription, IsWeight, IsDnsText, IsLowered}
use Rattle.ipam_data.specs.Hosts.{Masked, IsMasked, AreEnds}
use Rattle.inet_num.specs.Blocks.{same_family}
use Rattle.ipam_data.specs.Checks.{first}
use Rattle.ipam_data.specs.Rows.{HasVrfBounds, HasRirBounds, HasRoleBounds, HasAggregateBounds, HasPrefixBounds, HasRangeBounds, HasAddressBounds}
use Rattle.ipam_data.specs.State.{State}
use Rattle.ipam_data.specs.Plans.{edited}
use Rattle.ipam_data.specs.ByKind.{by_view}
use Rattle.ipam_data.specs.Ranges.{range_told, range_family, range_mask, ends_of}
use Rattle.ipam_data.specs.Fields.{drafted, told_of_draft, edited_vrf, edited_rir, edited_role, edited_aggregate, edited_prefix, edited_range, edited_address, start_of, end_of, told_of_change, Given, IsDistinguisherToo, HasDraftBounds, HasEditBounds}
use Rattle.ipam_data.specs.Steps.{next_for}
use Rattle.inet_num.proofs.Insides.{one_family}
use Rattle.ipam_data.proofs.Verdicts.{none_head, test_holds}

-- ---- texts and ends

lower_again : (text : List ℕ) → str_to_ascii_lowercase (str_to_ascii_lowercase text) ≡ str_to_ascii_lowercase text
lower_again [] = refl
lower_again (c ∷ cs) = rw (lowercase-lowercase c) (ap (λ (xs : List ℕ). to_ascii_lowercase c ∷ xs) (lower_again cs))

length_lower : (text : List ℕ) → length (str_to_ascii_lowercase text) ≡ length text
length_lower [] = refl
length_lower (c ∷ cs) = let e = length_lower cs in omega arith

pub lowered : (text : List ℕ) → IsDnsText text → IsLowered (str_to_ascii_lowercase text)
lowered text b = record { few = rw (length_lower text) b; lower = lower_again text }

-- the ends of a range fit its mask, where their families and masks were found to be one
ends : (start end : Masked) → IsMasked start → IsMasked end → first (range_told start end) ≡ None → AreEnds (ends_of start end)
ends start end a b t =
    let family = range_family start.addr end.addr in
    let mask = range_mask start end in
    let f = one_family start.addr.family end.addr.family (test_holds (same_family start.addr.family end.addr.family) RangeFamily (none_head family (mask ∷ []) t)) in
    record { start = a.address; end = b.address; start_short = a.short; end_short = rw (← f) a.short }

-- ---- drafts

-- the row of a draft has the next id of its kind
pub drafted_next : (s : State) (draft : Draft) → by_view (drafted (next_for s draft) draft) (λ T rules row. rules.id row) ≡ by_view (drafted (next_for s draft) draft) (λ T rules row. (rules.row_list s).next)
drafted_next s (VrfDraft name rd enforce_unique description) = refl
drafted_next s draft = refl

-- a row as its type keeps it
abbrev pub HasRowBounds : View → Type 0
HasRowBounds (VrfView row) = HasVrfBounds row
HasRowBounds (RirView row) = HasRirBounds row
HasRowBounds (RoleView row) = HasRoleBounds row
HasRowBounds (AggregateView row) = HasAggregateBounds row
HasRowBounds (PrefixView row depth children) = HasPrefixBounds row
HasRowBounds (RangeView row) = HasRangeBounds row
HasRowBounds (AddressView row) = HasAddressBounds row

-- the row of a draft is within its bounds, where nothing is told of the draft
pub drafted_bounds : (n : ℕ) (draft : Draft) → HasDraftBounds draft → first (told_of_draft draft) ≡ None → HasRowBounds (drafted n draft)
drafted_bounds n (VrfDraft name rd enforce_unique description) b t = record { name = b.0; rd = b.1; description = b.2 }
drafted_bounds n (RirDraft name slug is_private description) b t = record { name = b.0; slug = b.1; description = b.2 }
drafted_bounds n (RoleDraft name slug weight description) b t = record { name = b.0; slug = b.1; weight = b.2; description = b.3 }
drafted_bounds n (RangeDraft start end _ _ _ _ _ description) b t = record { ends = ends start end b.0 b.1 t; description = b.2 }
drafted_bounds n (AddressDraft host vrf status role dns_name description) b t = record { host = b.0; dns_name = lowered dns_name b.1; description = b.2 }
drafted_bounds n draft b t = record { block = b.0; description = b.1 }

-- ---- edits

-- an edit leaves the id
pub vrf_stays : (edit : Edit) (old : Vrf) → (edited_vrf edit old).id ≡ old.id
vrf_stays (VrfEdit name rd enforce_unique description) old = refl
vrf_stays edit old = refl

pub rir_stays : (edit : Edit) (old : Rir) → (edited_rir edit old).id ≡ old.id
rir_stays (VrfEdit name rd enforce_unique description) old = refl
rir_stays edit old = refl

pub role_stays : (edit : Edit) (old : Role) → (edited_role edit old).id ≡ old.id
role_stays (VrfEdit name rd enforce_unique description) old = refl
role_stays edit old = refl

pub aggregate_stays : (edit : Edit) (old : Aggregate) → (edited_aggregate edit old).id ≡ old.id
aggregate_stays (VrfEdit name rd enforce_unique description) old = refl
aggregate_stays edit old = refl

pub prefix_stays : (edit : Edit) (old : Prefix) → (edited_prefix edit old).id ≡ old.id
prefix_stays (VrfEdit name rd enforce_unique description) old = refl
prefix_stays edit old = refl

pub range_stays : (edit : Edit) (old : IpRange) → (edited_range edit old).id ≡ old.id
range_stays (VrfEdit name rd enforce_unique description) old = refl
range_stays edit old = refl

pub address_stays : (edit : Edit) (old : IpAddress) → (edited_address edit old).id ≡ old.id
address_stays (VrfEdit name rd enforce_unique description) old = refl
address_stays edit old = refl

-- a field of an edit is in its bounds, whether it is given or stays
given : {A : Type 0} (Is : A → Type 0) (field : Option A) (old : A) → Given Is field → Is old → Is (edited field old)
given Is None old g o = o
given Is (Some a) old g o = g a refl

-- an edit leaves a row within its bounds, where nothing is told of the change
pub vrf_edited : (edit : Edit) (old : Vrf) → HasEditBounds edit → HasVrfBounds old → HasVrfBounds (edited_vrf edit old)
vrf_edited (VrfEdit name rd enforce_unique description) old b o = record {
  name = given IsName name old.name b.0 o.name;
  rd = given IsDistinguisherToo rd old.rd b.1 o.rd;
  description = given IsDescription description old.description b.2 o.description;
}
vrf_edited edit old b o = o

pub rir_edited : (edit : Edit) (old : Rir) → HasEditBounds edit → HasRirBounds old → HasRirBounds (edited_rir edit old)
rir_edited (RirEdit name slug is_private description) old b o = record {
  name = given IsName name old.name b.0 o.name;
  slug = given IsSlug slug old.slug b.1 o.slug;
  description = given IsDescription description old.description b.2 o.description;
}
rir_edited edit old b o = o

pub role_edited : (edit : Edit) (old : Role) → HasEditBounds edit → HasRoleBounds old → HasRoleBounds (edited_role edit old)
role_edited (RoleEdit name slug weight description) old b o = record {
  name = given IsName name old.name b.0 o.name;
  slug = given IsSlug slug old.slug b.1 o.slug;
  weight = given IsWeight weight old.weight b.2 o.weight;
  description = given IsDescription description old.description b.3 o.description;
}
role_edited edit old b o = o

pub aggregate_edited : (edit : Edit) (old : Aggregate) → HasEditBounds edit → HasAggregateBounds old → HasAggregateBounds (edited_aggregate edit old)
aggregate_edited (AggregateEdit block rir description) old b o = record {
  block = given IsBlock block old.block b.0 o.block;
  description = given IsDescription description old.description b.1 o.description;
}
aggregate_edited edit old b o = o

pub prefix_edited : (edit : Edit) (old : Prefix) → HasEditBounds edit → HasPrefixBounds old → HasPrefixBounds (edited_prefix edit old)
prefix_edited (VrfEdit name rd enforce_unique description) old b o = o
prefix_edited (RirEdit name slug is_private description) old b o = o
prefix_edited (RoleEdit name slug weight description) old b o = o
prefix_edited (AggregateEdit block rir description) old b o = o
prefix_edited (RangeEdit _ _ _ _ _ _ _ _) old b o = o
prefix_edited (AddressEdit host vrf status role dns_name description) old b o = o
prefix_edited edit old b o = record {
  block = given IsBlock _ old.block b.0 o.block;
  description = given IsDescription _ old.description b.1 o.description;
}

pub range_edited : (edit : Edit) (old : IpRange) → HasEditBounds edit → HasRangeBounds old → first (told_of_change edit old) ≡ None → HasRangeBounds (edited_range edit old)
range_edited (RangeEdit start end _ _ _ _ _ description) old b o t = record {
  ends = ends (edited start (start_of old)) (edited end (end_of old))
      (given IsMasked start (start_of old) b.0 (record { address = o.ends.start; short = o.ends.start_short }))
      (given IsMasked end (end_of old) b.1 (record { address = o.ends.end; short = o.ends.end_short })) t;
  description = given IsDescription description old.description b.2 o.description;
}
range_edited edit old b o t = o

pub address_edited : (edit : Edit) (old : IpAddress) → HasEditBounds edit → HasAddressBounds old → HasAddressBounds (edited_address edit old)
address_edited (AddressEdit host vrf status role dns_name description) old b o = record {
  host = given IsMasked host old.host b.0 o.host;
  dns_name = lowered (edited dns_name old.dns_name) (given IsDnsText dns_name old.dns_name b.1 o.dns_name.few);
  description = given IsDescription description old.description b.2 o.description;
}
address_edited edit old b o = o
