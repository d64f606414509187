-- What a line represents: the columns of its kind in their order, and the first that is malformed is answered.
use Rattle.std.specs.Prelude.{◌≡◌, ◌⊎◌, ℕ, true, false, List, length, Option, Result, Ok, Err}
use Rattle.csv.specs.Records.{AllText}
use Rattle.inet_num.specs.Net.{Cidr}
use Rattle.ipam_data.specs.Hosts.{Masked}
use Rattle.ipam_data.specs.declared.kinds.Kind.{Kind}
use Rattle.ipam_data.specs.declared.kinds.Kind.TheVariants.{Vrfs, Rirs, Roles, Aggregates, Prefixes, Ranges, Addresses}
use Rattle.ipam_data.specs.declared.replies.FieldName.{FieldName}
use Rattle.ipam_data.specs.declared.replies.FieldName.TheVariants.{Address, Description, DnsName, EndAddress, EnforceUnique, IsPool, IsPrivate, MarkPopulated, MarkUtilized, Name, Prefix as PrefixField, Rd, Rir as RirField, Role as RoleField, Row as RowField, Slug, StartAddress, Status, Vrf as VrfField, Weight}
use Rattle.ipam_data.specs.declared.replies.RowFault.{RowFault}
use Rattle.ipam_data.specs.declared.replies.RowFault.TheVariants.{Field}
use Rattle.ipam_data.specs.declared.imports.ImportRow.{ImportRow}
use Rattle.ipam_data.specs.declared.imports.ImportRow.TheVariants.{Vrf as VrfRow, Rir as RirRow, Role as RoleRow, Aggregate as AggregateRow, Prefix as PrefixRow, IpRange as RangeRow, IpAddress as AddressRow}
use Rattle.csv_import.specs.declared.stops.Stop.{Stop}
use Rattle.csv_import.specs.declared.stops.Stop.TheVariants.{Fault, Memory}
use Rattle.csv_import.specs.Cells.{cell, column, within, within_or_none, slugged, of_bytes, flag_of, prefix_status_of, range_status_of, address_status_of, address_role_of, IsWeightCell, IsBlockReading, IsHostReading}

-- what comes next of a good value; a fault stays
abbrev pub then : {A B : Type 0} → Result A RowFault → (A → Result B RowFault) → Result B RowFault
then (Ok a) next = next a
then (Err fault) next = Err fault

-- the cell under a column, as this reads it
abbrev pub read : {A : Type 0} → FieldName → (List ℕ → Option A) → List (List ℕ) → List (List ℕ) → Result A RowFault
read name reads header fields = column name (reads (cell header fields name))

-- ---- the rows of each kind; a cell that is said by a relation is a parameter

abbrev pub vrf_row : List (List ℕ) → List (List ℕ) → Result ImportRow RowFault
vrf_row header fields =
    then (read Name (within 1 100) header fields) λ name.
    then (read Rd (within_or_none 21) header fields) λ rd.
    then (read EnforceUnique (flag_of true) header fields) λ enforce_unique.
    then (read Description (within 0 200) header fields) λ description.
    Ok (VrfRow name rd enforce_unique description)

abbrev pub rir_row : List (List ℕ) → List (List ℕ) → Result ImportRow RowFault
rir_row header fields =
    then (read Name (within 1 100) header fields) λ name.
    then (read Slug slugged header fields) λ slug.
    then (read IsPrivate (flag_of false) header fields) λ is_private.
    then (read Description (within 0 200) header fields) λ description.
    Ok (RirRow name slug is_private description)

abbrev pub role_row : Option ℕ → List (List ℕ) → List (List ℕ) → Result ImportRow RowFault
role_row weight header fields =
    then (read Name (within 1 100) header fields) λ name.
    then (read Slug slugged header fields) λ slug.
    then (column Weight weight) λ weight.
    then (read Description (within 0 200) header fields) λ description.
    Ok (RoleRow name slug weight description)

abbrev pub aggregate_row : Result Cidr RowFault → List (List ℕ) → List (List ℕ) → Result ImportRow RowFault
aggregate_row block header fields =
    then block λ block.
    then (read RirField (within 1 100) header fields) λ rir.
    then (read Description (within 0 200) header fields) λ description.
    Ok (AggregateRow block rir description)

abbrev pub prefix_row : Result Cidr RowFault → List (List ℕ) → List (List ℕ) → Result ImportRow RowFault
prefix_row block header fields =
    then block λ block.
    then (read VrfField (within_or_none 100) header fields) λ vrf.
    then (read Status prefix_status_of header fields) λ status.
    then (read RoleField (within_or_none 100) header fields) λ role.
    then (read IsPool (flag_of false) header fields) λ is_pool.
    then (read MarkUtilized (flag_of false) header fields) λ mark_utilized.
    then (read Description (within 0 200) header fields) λ description.
    Ok (PrefixRow block vrf status role is_pool mark_utilized description)

abbrev pub range_row : Result Masked RowFault → Result Masked RowFault → List (List ℕ) → List (List ℕ) → Result ImportRow RowFault
range_row start end header fields =
    then start λ start.
    then end λ end.
    then (read VrfField (within_or_none 100) header fields) λ vrf.
    then (read Status range_status_of header fields) λ status.
    then (read RoleField (within_or_none 100) header fields) λ role.
    then (read MarkUtilized (flag_of false) header fields) λ mark_utilized.
    then (read MarkPopulated (flag_of false) header fields) λ mark_populated.
    then (read Description (within 0 200) header fields) λ description.
    Ok (RangeRow start end vrf status role mark_utilized mark_populated description)

abbrev pub address_row : Result Masked RowFault → List (List ℕ) → List (List ℕ) → Result ImportRow RowFault
address_row host header fields =
    then host λ host.
    then (read VrfField (within_or_none 100) header fields) λ vrf.
    then (read Status address_status_of header fields) λ status.
    then (read RoleField address_role_of header fields) λ role.
    then (read DnsName of_bytes header fields) λ dns_name.
    then (read Description (within 0 200) header fields) λ description.
    Ok (AddressRow host vrf status role dns_name description)

-- what the cells of a line represent
abbrev pub IsCellsOf : Kind → List (List ℕ) → List (List ℕ) → Result ImportRow RowFault → Type 0
IsCellsOf Vrfs header fields row = vrf_row header fields ≡ row
IsCellsOf Rirs header fields row = rir_row header fields ≡ row
IsCellsOf Roles header fields row = (weight : Option ℕ) × IsWeightCell (cell header fields Weight) weight × (role_row weight header fields ≡ row)
IsCellsOf Aggregates header fields row =
    (block : Result Cidr RowFault) × IsBlockReading (cell header fields PrefixField) block × (aggregate_row block header fields ≡ row)
IsCellsOf Prefixes header fields row =
    (block : Result Cidr RowFault) × IsBlockReading (cell header fields PrefixField) block × (prefix_row block header fields ≡ row)
IsCellsOf Ranges header fields row =
    (start end : Result Masked RowFault)
    × IsHostReading StartAddress (cell header fields StartAddress) start × IsHostReading EndAddress (cell header fields EndAddress) end
    × (range_row start end header fields ≡ row)
IsCellsOf Addresses header fields row =
    (host : Result Masked RowFault) × IsHostReading Address (cell header fields Address) host × (address_row host header fields ≡ row)

-- the line has a field for each column, and all of them are text
pub record IsWhole (header fields : List (List ℕ)) : Type 0 where
  pub long : length fields ≡ length header
  pub text : AllText fields

-- what a line represents
abbrev pub IsRowOf : Kind → List (List ℕ) → List (List ℕ) → Result ImportRow RowFault → Type 0
IsRowOf kind header fields row =
    (IsWhole header fields × IsCellsOf kind header fields row) ⊎ ((¬ IsWhole header fields) × (row ≡ Err (Field RowField)))

-- the answer is as it should be, or out of memory
abbrev pub OrMemory : {A : Type 0} → (Result A RowFault → Type 0) → Result A Stop → Type 0
OrMemory IsRight (Ok a) = IsRight (Ok a)
OrMemory IsRight (Err (Fault fault)) = IsRight (Err fault)
OrMemory IsRight (Err Memory) = Unit {0}
