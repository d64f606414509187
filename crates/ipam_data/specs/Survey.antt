-- The lines of a survey: the prefixes of the global table, then those of each VRF's by the VRF's id; in a table IPv4 before IPv6, then
-- by the first address, by the length, and by the id.
use Rattle.std.specs.Prelude.{ℕ, ◌+◌, ◌*◌, ◌^◌, List, [], Option, Some, None, map, fold, IsPermutation}
use Rattle.inet_num.specs.declared.Family.{Family}
use Rattle.inet_num.specs.declared.Family.TheVariants.{V4, V6}
use Rattle.ipam_data.specs.declared.prefix.Prefix.{Prefix}
use Rattle.ipam_data.specs.RowList.{placed, Rises}
use Rattle.ipam_data.specs.Tables.{table_of}
use Rattle.ipam_data.specs.Prefixes.{depth_of}
use Rattle.ipam_data.specs.Claims.{prefix_figure}
use Rattle.ipam_data.specs.State.{State}
use Rattle.ipam_data.specs.declared.survey.PrefixLine.{PrefixLine}

-- the global table comes first, and then those of VRFs
abbrev pub table_place : Option ℕ → ℕ
table_place None = 0
table_place (Some vrf) = vrf

abbrev pub family_place : Family → ℕ
family_place V4 = 0
family_place V6 = 1

-- the place of a prefix among all: a number whose digits are table, family, first address, length and id
abbrev pub survey_place : Prefix → ℕ
survey_place row =
    (((table_place row.vrf * 2 + family_place row.block.family) * 2 ^ 128 + row.block.first) * 256 + row.block.len) * 2 ^ 32 + row.id

-- the prefixes in the order of their places
abbrev pub surveyed : List Prefix → List Prefix
surveyed rows = fold (placed survey_place) [] rows

-- what is said of a prefix
abbrev pub line_of : State → Prefix → PrefixLine
line_of s row = record {
  table = table_of row.vrf;
  depth = depth_of s.prefixes.rows row;
  block = row.block;
  status = row.status;
  percent = prefix_figure s row;
}

abbrev pub survey_of : State → List PrefixLine
survey_of s = map (line_of s) (surveyed s.prefixes.rows)

-- each prefix occurs once, and their places rise
pub record IsSurveyed (rows : List Prefix) : Type 0 where
  pub all : IsPermutation rows (surveyed rows)
  pub ordered : Rises survey_place 0 (surveyed rows)
