-- The columns of files: those of a kind in order, which of them are required, and the headers that name them.
use Rattle.std.specs.Prelude.{ℕ, Bool, true, false, not, ◌&&◌, ◌||◌, List, [], ◌∷◌, count_by, nat_le, bytes_eq}
use Rattle.std.specs.List.{list_any, list_all}
use Rattle.ipam_data.specs.declared.kinds.Kind.{Kind}
use Rattle.ipam_data.specs.declared.kinds.Kind.TheVariants.{Vrfs, Rirs, Roles, Aggregates, Prefixes, Ranges, Addresses}
use Rattle.ipam_data.specs.declared.replies.FieldName.{FieldName}
use Rattle.ipam_data.specs.declared.replies.FieldName.TheVariants as column
use Rattle.ipam_data.specs.Answers.{field_text}
use Rattle.csv_import.specs.declared.columns.Column.{Column}

abbrev pub wanted : FieldName → Column
wanted name = record { name = name; required = true }

abbrev pub optional : FieldName → Column
optional name = record { name = name; required = false }

-- the columns of a kind, in order
abbrev pub columns_of : Kind → List Column
columns_of Vrfs = wanted column.Name ∷ optional column.Rd ∷ optional column.EnforceUnique ∷ optional column.Description ∷ []
columns_of Rirs = wanted column.Name ∷ wanted column.Slug ∷ optional column.IsPrivate ∷ optional column.Description ∷ []
columns_of Roles = wanted column.Name ∷ wanted column.Slug ∷ optional column.Weight ∷ optional column.Description ∷ []
columns_of Aggregates = wanted column.Prefix ∷ wanted column.Rir ∷ optional column.Description ∷ []
columns_of Prefixes =
    wanted column.Prefix ∷ optional column.Vrf ∷ optional column.Status ∷ optional column.Role ∷ optional column.IsPool
    ∷ optional column.MarkUtilized ∷ optional column.Description ∷ []
columns_of Ranges =
    wanted column.StartAddress ∷ wanted column.EndAddress ∷ optional column.Vrf ∷ optional column.Status ∷ optional column.Role
    ∷ optional column.MarkUtilized ∷ optional column.MarkPopulated ∷ optional column.Description ∷ []
columns_of Addresses =
    wanted column.Address ∷ optional column.Vrf ∷ optional column.Status ∷ optional column.Role ∷ optional column.DnsName
    ∷ optional column.Description ∷ []

-- the name is that of a column
abbrev pub is_column : List Column → List ℕ → Bool
is_column columns name = list_any (λ c. bytes_eq (field_text c.name) name) columns

-- the column is in the header once at most, and once if it is required
abbrev pub is_met : List (List ℕ) → Column → Bool
is_met header c =
    let n = count_by (bytes_eq (field_text c.name)) header in nat_le n 1 && (not c.required || nat_le 1 n)

-- the header names columns of the kind, none twice, and all that are required
abbrev pub is_header : Kind → List (List ℕ) → Bool
is_header kind header = list_all (is_column (columns_of kind)) header && list_all (is_met header) (columns_of kind)
