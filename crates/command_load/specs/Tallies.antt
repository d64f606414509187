-- What callers note of the addresses that they got, and what it is to the history that all of them share.
use Rattle.std.specs.Prelude.{◌≡◌, ℕ, ◌+◌, ◌-◌, ◌≤◌, List, [], ◌∷◌, ◌++◌, length, min, max, Contains, sum_by}
use Rattle.history_lock.specs.Replay.{own_entries}
use Rattle.ipam_data.specs.declared.calls.Call.{Call}
use Rattle.command_load.specs.LoadText.{load_address}
use Rattle.command_load.specs.Histories.{IsLoadHistory, own_places, AreShared}

-- how many addresses the callers of these numbers got, and the least and the greatest of them as numbers, by a history
pub record IsTallyOf (history : List (ℕ × Call)) (numbers : List ℕ) (claimed least greatest : ℕ) : Type 0 where
  pub count : claimed ≡ sum_by (λ n. length (own_entries n history)) numbers
  -- no address of theirs lies below or above
  pub below : (n p : ℕ) → Contains numbers n → Contains (own_places n 0 history) p → least ≤ (load_address p).value
  pub above : (n p : ℕ) → Contains numbers n → Contains (own_places n 0 history) p → (load_address p).value ≤ greatest
  -- and none of the two lies beyond what the claims of the history got
  pub low : (load_address 1).value ≤ least
  pub high : greatest ≤ (load_address (length history - 1)).value

-- of no callers: any least number from the first address on, and 0
abbrev pub NobodysTally : Type 0
NobodysTally = (history : List (ℕ × Call)) (least : ℕ) → (load_address 1).value ≤ least → IsTallyOf history [] 0 least 0

-- of both
abbrev pub TalliesAdd : Type 0
TalliesAdd = (history : List (ℕ × Call)) (ns ms : List ℕ) (a b least other greatest more : ℕ) → IsTallyOf history ns a least greatest → IsTallyOf history ms b other more
    → IsTallyOf history (ns ++ ms) (a + b) (min least other) (max greatest more)

-- of all callers, besides the one that made the prefix and nothing else: the claims, the first address and the last one
abbrev pub TallyOfAll : Type 0
TallyOfAll = (len : ℕ) (history : List (ℕ × Call)) (numbers : List ℕ) (claimed least greatest : ℕ) (h : IsLoadHistory len history) → length (own_entries h.maker history) ≡ 1
    → AreShared (h.maker ∷ numbers) history → 2 ≤ length history → IsTallyOf history numbers claimed least greatest
    → (claimed + 1 ≡ length history) × (least ≡ (load_address 1).value) × (greatest ≡ (load_address claimed).value)

pub record TalliesOfMany : Type 0 where
  pub nobody : NobodysTally
  pub both : TalliesAdd
  pub all : TallyOfAll
