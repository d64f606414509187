-- The text of an export: a header of all columns of the kind, and a line for each row. What is absent is empty.
use Rattle.std.specs.Prelude.{ℕ, List, [], ◌∷◌, ◌++◌, Option, Some, None, map, decimal}
use Rattle.std.specs.List.{flat_map}
use Rattle.csv.specs.Writing.{default_writer, row_text}
use Rattle.inet_num.specs.Text.{block_text_of}
use Rattle.ipam_data.specs.declared.kinds.Kind.{Kind}
use Rattle.ipam_data.specs.declared.address.AddressRole.{AddressRole}
use Rattle.ipam_data.specs.Answers.{field_text}
use Rattle.ipam_words.specs.Words.{prefix_status_value, range_status_value, address_status_value, address_role_value}
use Rattle.stored_tables.specs.Stored.{flag_text, optional_text, host_text}
use Rattle.ipam_data.specs.declared.imports.ImportRow.{ImportRow}
use Rattle.ipam_data.specs.declared.imports.ImportRow.TheVariants.{Vrf as VrfRow, Rir as RirRow, Role as RoleRow, Aggregate as AggregateRow, Prefix as PrefixRow, IpRange as RangeRow, IpAddress as AddressRow}
use Rattle.csv_import.specs.Columns.{columns_of}

-- the role of an address, or nothing
abbrev pub role_text : Option AddressRole → List ℕ
role_text None = []
role_text (Some role) = address_role_value role

-- the fields of a row, in the order of the columns
abbrev pub fields_of_row : ImportRow → List (List ℕ)
fields_of_row (VrfRow name rd enforce_unique description) = name ∷ optional_text rd ∷ flag_text enforce_unique ∷ description ∷ []
fields_of_row (RirRow name slug is_private description) = name ∷ slug ∷ flag_text is_private ∷ description ∷ []
fields_of_row (RoleRow name slug weight description) = name ∷ slug ∷ decimal weight ∷ description ∷ []
fields_of_row (AggregateRow block rir description) = block_text_of block ∷ rir ∷ description ∷ []
fields_of_row (PrefixRow block vrf status role is_pool mark_utilized description) =
    block_text_of block ∷ optional_text vrf ∷ prefix_status_value status ∷ optional_text role ∷ flag_text is_pool
    ∷ flag_text mark_utilized ∷ description ∷ []
fields_of_row (RangeRow start end vrf status role mark_utilized mark_populated description) =
    host_text start.addr start.len ∷ host_text end.addr end.len ∷ optional_text vrf ∷ range_status_value status ∷ optional_text role
    ∷ flag_text mark_utilized ∷ flag_text mark_populated ∷ description ∷ []
fields_of_row (AddressRow host vrf status role dns_name description) =
    host_text host.addr host.len ∷ optional_text vrf ∷ address_status_value status ∷ role_text role ∷ dns_name ∷ description ∷ []

-- the header names all columns of the kind, in order
abbrev pub header_of : Kind → List (List ℕ)
header_of kind = map (λ c. field_text c.name) (columns_of kind)

abbrev pub row_line : ImportRow → List ℕ
row_line row = row_text default_writer (fields_of_row row)

abbrev pub rows_text : Kind → List ImportRow → List ℕ
rows_text kind rows = row_text default_writer (header_of kind) ++ flat_map row_line rows
