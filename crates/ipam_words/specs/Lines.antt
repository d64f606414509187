-- Refusals and openings as the commands print them, each without its line feed.
use Rattle.std.specs.Prelude.{ℕ, Bool, true, false, List, [], ◌++◌, codes, decimal, if◌then◌else◌}
use Rattle.ipam_data.specs.declared.kinds.Kind.{Kind}
use Rattle.ipam_data.specs.declared.replies.Which.{Which}
use Rattle.ipam_data.specs.declared.replies.Rule.{Rule}
use Rattle.ipam_data.specs.declared.replies.Refusal.{Refusal}
use Rattle.ipam_data.specs.declared.replies.Refusal.TheVariants.{BadHead, TooLarge, Coding, NoRoute, Method, BadJson, Field, NotFound, Rule as Breaks, InUse, NoSpace, Limit, Keeper, Memory, Row}
use Rattle.ipam_data.specs.Answers.{kind_text, which_text, rule_code, rule_detail, code_of, detail_of}

-- whether the detail of a refusal names nothing, and so is fixed
abbrev pub is_fixed : Refusal → Bool
is_fixed BadHead = true
is_fixed (TooLarge part) = true
is_fixed Coding = true
is_fixed NoRoute = true
is_fixed Method = true
is_fixed BadJson = true
is_fixed (Field member) = false
is_fixed (NotFound kind n) = false
is_fixed (Breaks rule) = false
is_fixed (InUse kind n) = false
is_fixed (NoSpace n) = false
is_fixed (Limit which n) = false
is_fixed Keeper = true
is_fixed Memory = true
is_fixed (Row n why) = false

-- a detail that is fixed; of any other no words
abbrev pub fixed_text : Refusal → List ℕ
fixed_text refusal = if is_fixed refusal then detail_of refusal else []

-- the row of a file that a refusal names, counted from 1, or 0 for its header
abbrev pub row_mark : Refusal → List ℕ
row_mark BadHead = []
row_mark (TooLarge part) = []
row_mark Coding = []
row_mark NoRoute = []
row_mark Method = []
row_mark BadJson = []
row_mark (Field member) = []
row_mark (NotFound kind n) = []
row_mark (Breaks rule) = []
row_mark (InUse kind n) = []
row_mark (NoSpace n) = []
row_mark (Limit which n) = []
row_mark Keeper = []
row_mark Memory = []
row_mark (Row n why) = codes "row " ++ decimal n ++ codes ": "

-- a refusal on a line: its row if it has one, its code and its detail
abbrev pub refusal_line : Refusal → List ℕ
refusal_line refusal = row_mark refusal ++ code_of refusal ++ codes ": " ++ detail_of refusal

-- a stored row that breaks a rule
abbrev pub breach_text : Kind → ℕ → Rule → List ℕ
breach_text kind n rule = kind_text kind ++ codes " " ++ decimal n ++ codes ": " ++ rule_code rule ++ codes ": " ++ rule_detail rule

-- a stored row that can't be read
abbrev pub unreadable_text : Kind → ℕ → List ℕ
unreadable_text kind n = kind_text kind ++ codes " " ++ decimal n ++ codes ": unreadable"

-- stored tables of a version that is not served
abbrev pub version_text : ℕ → List ℕ
version_text n = codes "version " ++ decimal n

-- a stored next id that is none
abbrev pub next_id_text : Kind → List ℕ
next_id_text kind = kind_text kind ++ codes ": bad next id"

-- more stored rows than a limit
abbrev pub excess_text : Which → ℕ → List ℕ
excess_text which n = which_text which ++ codes " exceed " ++ decimal n
