-- Small examples of imports and exports, worked out by evaluation.
use Rattle.std.proofs.Common.{◌≡◌, ℕ, List, [], ◌∷◌, Option, Some, None, true, false, refl, codes}
use Rattle.ipam_data.specs.declared.kinds.Kind.{Kind}
use Rattle.ipam_data.specs.declared.kinds.Kind.TheVariants.{Vrfs, Ranges, Prefixes, Addresses}
use Rattle.ipam_data.specs.declared.calls.Call.{Call}
use Rattle.ipam_data.specs.declared.calls.Call.TheVariants.{Create, Import, Export}
use Rattle.ipam_data.specs.declared.calls.Draft.TheVariants.{Prefix as PrefixDraft, IpRange as RangeDraft}
use Rattle.ipam_data.specs.declared.imports.ImportRow.{ImportRow}
use Rattle.ipam_data.specs.declared.imports.ImportRow.TheVariants.{Vrf as VrfRow, Prefix as PrefixRow, IpRange as RangeRow, IpAddress as AddressRow}
use Rattle.ipam_data.specs.declared.prefix.PrefixStatus.TheVariants.{Active}
use Rattle.ipam_data.specs.declared.range.RangeStatus.TheVariants.{Active as ActiveRange}
use Rattle.ipam_data.specs.declared.address.AddressRole.{AddressRole}
use Rattle.ipam_data.specs.declared.address.AddressRole.TheVariants.{Vip}
use Rattle.ipam_data.specs.declared.address.AddressStatus.TheVariants.{Active as ActiveAddress}
use Rattle.ipam_data.specs.declared.replies.Reply.{Reply}
use Rattle.ipam_data.specs.declared.replies.Reply.TheVariants.{Imported, Rows, Refused}
use Rattle.ipam_data.specs.declared.replies.FieldName.TheVariants as member
use Rattle.ipam_data.specs.declared.replies.Refusal.TheVariants.{Limit, Row}
use Rattle.ipam_data.specs.declared.replies.RowFault.TheVariants as fault
use Rattle.ipam_data.specs.declared.replies.Rule.TheVariants.{Ambiguous, Duplicate, NoSuchName, RangeFamily, ZeroMask, Populated}
use Rattle.ipam_data.specs.declared.replies.Which.TheVariants.{Log}
use Rattle.ipam_data.specs.HostNames.{is_dns_name}
use Rattle.ipam_data.specs.State.{State, empty_state}
use Rattle.ipam_data.specs.Vrfs.{vrf_fault, ids_named}
use Rattle.ipam_data.specs.Prefixes.{prefix_fault}
use Rattle.ipam_data.specs.Ranges.{range_fault, populated_at}
use Rattle.ipam_data.specs.Addresses.{address_fault, address_barred}
use Rattle.ipam_data.specs.Fields.{stored_draft, same_draft}
use Rattle.ipam_data.specs.Imports.{times, makes_one}
use Rattle.ipam_data.specs.Steps.{plain_step}
use Rattle.ipam_data.proofs.Samples.{after, vrf, v4, host, host6}

abbrev empty : State
empty = empty_state true

-- the state and the reply after these calls and an import
abbrev imported_after : List Call → Kind → List ImportRow → State × Reply
imported_after calls kind rows = plain_step (after empty calls) (Import kind rows)

abbrev vrf_row : ImportRow
vrf_row = VrfRow (codes "red") None true []

abbrev prefix_row : ℕ → ℕ → Option (List ℕ) → ImportRow
prefix_row first len vrf = PrefixRow (v4 first len) vrf Active None false false []

abbrev address_row : Option AddressRole → List ℕ → ImportRow
address_row role dns_name = AddressRow (host 16 28) None ActiveAddress role dns_name []

-- of two equal rows one makes a record where there is one; the import spends an item for each row
imported : (imported_after (vrf true ∷ []) Vrfs (vrf_row ∷ vrf_row ∷ [])).1 ≡ Imported 1 1
unfolding vrf_fault times makes_one stored_draft same_draft
imported = refl

imports_spend : (imported_after [] Vrfs (vrf_row ∷ vrf_row ∷ [])).0.spent ≡ 2
unfolding vrf_fault times makes_one stored_draft same_draft
imports_spend = refl

-- an import of no rows spends one
empty_spends : (imported_after [] Vrfs []).0.spent ≡ 1
empty_spends = refl

-- and is refused where all are spent
no_more : (plain_step (record empty { spent = 1000000 }) (Import Vrfs [])).1 ≡ Refused (Limit Log 1000000)
no_more = refl

-- names of hosts are compared as records keep them
lower_case : (imported_after [] Addresses (address_row (Some Vip) (codes "WWW") ∷ [])).1 ≡ Imported 1 0
unfolding address_fault address_barred populated_at is_dns_name times makes_one stored_draft same_draft
lower_case = refl

lower_case_again : (imported_after (Import Addresses (address_row None (codes "WWW") ∷ []) ∷ []) Addresses (address_row None (codes "www") ∷ [])).1 ≡ Imported 0 1
unfolding address_fault address_barred populated_at is_dns_name times makes_one stored_draft same_draft
lower_case_again = refl

-- a row of another kind is refused
other_kind : (imported_after [] Vrfs (vrf_row ∷ prefix_row 16 28 None ∷ [])).1 ≡ Refused (Row 2 (fault.Field member.Row))
unfolding vrf_fault times makes_one stored_draft same_draft
other_kind = refl

-- no VRF has the name that a row names, which is found before a mask of length 0 is
no_name : (imported_after [] Prefixes (prefix_row 0 0 (Some (codes "red")) ∷ [])).1 ≡ Refused (Row 1 (fault.Rule (NoSuchName Vrfs)))
unfolding ids_named
no_name = refl

-- two have it: that is found for the row of a record that is there, too
two_names : (imported_after (vrf true ∷ Create (PrefixDraft (v4 16 28) (Some 1) Active None false false []) ∷ vrf true ∷ []) Prefixes (prefix_row 16 28 (Some (codes "red")) ∷ [])).1
    ≡ Refused (Row 1 (fault.Rule (Ambiguous 1 2)))
unfolding vrf_fault prefix_fault ids_named
two_names = refl

-- a rule that a row breaks by itself, in the second row
zero_mask : (imported_after [] Prefixes (prefix_row 16 28 None ∷ prefix_row 0 0 None ∷ [])).1 ≡ Refused (Row 2 (fault.Rule ZeroMask))
unfolding prefix_fault times makes_one stored_draft same_draft
zero_mask = refl

-- ends of two families come before a mask of length 0
two_families : (imported_after [] Ranges (RangeRow (host 16 0) (host6 16 0) None ActiveRange None false false [] ∷ [])).1 ≡ Refused (Row 1 (fault.Rule RangeFamily))
two_families = refl

-- a row that makes an address inside a populated range is refused, and one whose address was there before the mark is not
barred : (imported_after (Create (RangeDraft (host 16 28) (host 20 28) None ActiveRange None false true []) ∷ []) Addresses (address_row None [] ∷ [])).1 ≡ Refused (Row 1 (fault.Rule (Populated 1)))
unfolding range_fault address_fault address_barred populated_at is_dns_name times makes_one stored_draft same_draft
barred = refl

there_before : (imported_after (Import Addresses (address_row None [] ∷ []) ∷ Create (RangeDraft (host 16 28) (host 20 28) None ActiveRange None false true []) ∷ []) Addresses (address_row None [] ∷ [])).1 ≡ Imported 0 1
unfolding range_fault address_fault address_barred populated_at is_dns_name times makes_one stored_draft same_draft
there_before = refl

-- a row is checked beside the records of the rows before it, which are taken back with the whole import
shared_twice : imported_after [] Addresses (address_row (Some Vip) [] ∷ address_row (Some Vip) [] ∷ address_row None [] ∷ []) ≡ (empty, Refused (Row 3 (fault.Rule (Duplicate 1))))
unfolding address_fault address_barred populated_at is_dns_name times makes_one stored_draft same_draft
shared_twice = refl

-- an export names the VRF of each record, and its rows make nothing
exported : (plain_step (after empty (vrf true ∷ Import Prefixes (prefix_row 16 28 (Some (codes "red")) ∷ []) ∷ [])) (Export Prefixes)).1 ≡ Rows (prefix_row 16 28 (Some (codes "red")) ∷ [])
unfolding vrf_fault prefix_fault ids_named times makes_one stored_draft same_draft
exported = refl
