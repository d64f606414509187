-- The report of pools: a line for each range, with its bounds, how many of its numbers are taken, how many are free, and the runs of the free ones.
use Rattle.std.specs.Prelude.{◌≡◌, ℕ, ◌+◌, ◌-◌, ◌==◌, ◌↔◌, List, [], ◌∷◌, ◌++◌, IsTrue, codes, decimal, sum_by, if◌then◌else◌}
use Rattle.std.specs.List.{flat_map}
use Rattle.span_set.specs.declared.runs.Run.{Run}
use Rattle.span_set.specs.Runs.{AreApart, IsBetween, in_runs, shared}
use Rattle.number_pools.specs.declared.rows.PoolKind.{PoolKind}
use Rattle.number_pools.specs.declared.rows.PoolKind.TheVariants.{Asn, Vlan}
use Rattle.number_pools.specs.declared.rows.NumberRange.{NumberRange}
use Rattle.number_pools.specs.Free.{is_held, pool_of}
use Rattle.number_pools.specs.Rows.{Pools}

-- the runs of the free numbers of a range: they rise, between two of them a number is left out, and a number is in one of them exactly if it is one
-- of the range that no member of its pool holds
pub record AreFreeRuns (s : Pools) (range : NumberRange) (runs : List Run) : Type 0 where
  pub apart : AreApart 0 runs
  pub free : (n : ℕ) → IsTrue (in_runs runs n) ↔ (IsBetween range.first range.last n × ¬ IsTrue (is_held s.ranges.rows s.members.rows (pool_of range) n))

-- how many numbers of the range the runs have
abbrev pub free_count : NumberRange → List Run → ℕ
free_count range runs = sum_by (shared range.first range.last) runs

abbrev pub kind_word : PoolKind → List ℕ
kind_word Asn = codes "asn-range "
kind_word Vlan = codes "vlan-group "

-- a run is its first and its last number, or the one that it has
abbrev pub run_text : Run → List ℕ
run_text run = if run.first == run.last then 32 ∷ [] ++ decimal run.first else 32 ∷ [] ++ decimal run.first ++ 45 ∷ [] ++ decimal run.last

abbrev pub report_line : NumberRange → List Run → List ℕ
report_line range runs =
    kind_word range.kind ++ range.name ++ 32 ∷ [] ++ decimal range.first ++ 45 ∷ [] ++ decimal range.last ++ codes ": "
    ++ decimal (range.last + 1 - range.first - free_count range runs) ++ codes " taken, " ++ decimal (free_count range runs) ++ codes " free:"
    ++ flat_map run_text runs ++ 10 ∷ []

-- the line of a range
abbrev pub IsLine : Pools → NumberRange → List ℕ → Type 0
IsLine s range text = (runs : List Run) × AreFreeRuns s range runs × (text ≡ report_line range runs)

-- the lines of ranges, in order
abbrev pub AreLines : Pools → List NumberRange → List ℕ → Type 0
AreLines s [] text = text ≡ []
AreLines s (range ∷ ranges) text = (line rest : List ℕ) × IsLine s range line × AreLines s ranges rest × (text ≡ line ++ rest)

-- the report of pools: of their ranges in the order of the ids
abbrev pub IsReport : Pools → List ℕ → Type 0
IsReport s text = AreLines s s.ranges.rows text
