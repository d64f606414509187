-- Sets of addresses of one family: what contracts see of a `SpanSet`, and which addresses are in it.
use Rattle.std.specs.Prelude.{ℕ, ◌^◌, Bool, List, IsTrue}
use Rattle.inet_num.specs.declared.Family.{Family}
use Rattle.inet_num.specs.Net.{width_of}
use Rattle.span_set.specs.declared.runs.Run.{Run}
use Rattle.span_set.specs.Runs.{in_runs, AreApart, EndBelow}

-- what contracts see of a `SpanSet`: the family of its addresses, and the runs of their numbers
pub record Spans : Type 0 where
  pub family : Family
  pub runs : List Run

-- the runs are sorted, disjoint, do not touch one another, and lie within the family
pub record IsSpans (set : Spans) : Type 0 where
  pub apart : AreApart 0 set.runs
  pub within : EndBelow (2 ^ width_of set.family) set.runs

-- the set has the address of its family with this number, as a test
abbrev pub is_in : Spans → ℕ → Bool
is_in set a = in_runs set.runs a

-- the set has the address of its family with this number
abbrev pub IsIn : Spans → ℕ → Type 0
IsIn set a = IsTrue (is_in set a)
