-- The texts of reports, which are ASCII. A text that is longer than its places is written as it is.
use Rattle.std.specs.Prelude.{ℕ, ◌+◌, ◌-◌, ◌*◌, Bool, true, not, List, [], ◌∷◌, ◌++◌, Option, Some, None, length, replicate, codes, decimal, if◌then◌else◌}
use Rattle.std.specs.List.{flat_map}
use Rattle.inet_num.specs.Net.{Cidr, size_of}
use Rattle.inet_num.specs.Text.{block_text_of}
use Rattle.ipam_data.specs.declared.kinds.Table.{Table}
use Rattle.ipam_data.specs.declared.kinds.Table.TheVariants.{Global, Of}
use Rattle.ipam_data.specs.declared.survey.PrefixLine.{PrefixLine}
use Rattle.ipam_report.specs.declared.TheConstants.{BLOCK_PLACES}
use Rattle.ipam_data.specs.Tables.{same_table}
use Rattle.ipam_words.specs.Words.{prefix_status_value}

-- so many spaces
abbrev pub spaces : ℕ → List ℕ
spaces n = replicate n 32

-- a text at the left of so many places, and at their right
unfoldable pub left_in : ℕ → List ℕ → List ℕ
left_in width text = text ++ spaces (width - length text)

unfoldable pub right_in : ℕ → List ℕ → List ℕ
right_in width text = spaces (width - length text) ++ text

abbrev pub table_name : Table → List ℕ
table_name Global = codes "global"
table_name (Of n) = codes "vrf " ++ decimal n

-- ---- the tree

-- a prefix is two spaces further in than what contains it, and two further than its table's name
abbrev pub tree_line : PrefixLine → List ℕ
tree_line line = spaces (2 * line.depth + 2) ++ block_text_of line.block ++ 32 ∷ [] ++ prefix_status_value line.status ++ 10 ∷ []

-- the table of the line is another than that of the line before it, if there is one
abbrev pub is_headed : Option Table → Table → Bool
is_headed None table = true
is_headed (Some before) table = not (same_table before table)

-- the name of a table, before the first of its lines
abbrev pub heading : Option Table → Table → List ℕ
heading before table = if is_headed before table then table_name table ++ 10 ∷ [] else []

abbrev pub tree_after : Option Table → List PrefixLine → List ℕ
tree_after before [] = []
tree_after before (line ∷ lines) = heading before line.table ++ tree_line line ++ tree_after (Some line.table) lines

-- each table's name, and its prefixes under it
abbrev pub tree_text : List PrefixLine → List ℕ
tree_text lines = tree_after None lines

-- ---- the table

abbrev pub table_line : PrefixLine → List ℕ
table_line line =
    left_in BLOCK_PLACES (block_text_of line.block) ++ 32 ∷ [] ++ left_in 14 (table_name line.table) ++ 32 ∷ [] ++ left_in 10 (prefix_status_value line.status)
    ++ 32 ∷ [] ++ right_in 3 (decimal line.percent) ++ 10 ∷ []

abbrev pub table_text : List PrefixLine → List ℕ
table_text lines = flat_map table_line lines

-- ---- free blocks

-- a block, and the number of its addresses
abbrev pub free_line : Cidr → List ℕ
free_line b = left_in BLOCK_PLACES (block_text_of b) ++ 32 ∷ [] ++ right_in 39 (decimal (size_of b)) ++ 10 ∷ []

abbrev pub free_text : List Cidr → List ℕ
free_text blocks = flat_map free_line blocks
