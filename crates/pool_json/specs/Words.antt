-- The refusals of the pools in words.
use Rattle.std.specs.Prelude.{ℕ, List, ◌++◌, codes, decimal}
use Rattle.number_pools.specs.declared.calls.Quantity.{Quantity}
use Rattle.number_pools.specs.declared.calls.Quantity.TheVariants.{Claims, Items, Ranges, Members, Ids, Log}
use Rattle.number_pools.specs.declared.calls.PoolRefusal.{PoolRefusal}
use Rattle.number_pools.specs.declared.calls.PoolRefusal.TheVariants.{Absent, NameTaken, Bounds, InUse, NoSpace, Outside, Taken, Repeated, Limit, Keeper, Memory}

-- what is counted
abbrev pub quantity_text : Quantity → List ℕ
quantity_text Claims = codes "claims"
quantity_text Items = codes "items"
quantity_text Ranges = codes "ranges"
quantity_text Members = codes "members"
quantity_text Ids = codes "ids"
quantity_text Log = codes "log"

-- the code of a refusal
abbrev pub code_of : PoolRefusal → List ℕ
code_of (Absent n) = codes "not_found"
code_of (NameTaken n) = codes "name_taken"
code_of Bounds = codes "bounds"
code_of (InUse n) = codes "in_use"
code_of (NoSpace n) = codes "no_space"
code_of (Outside n) = codes "bounds"
code_of (Taken n id) = codes "taken"
code_of (Repeated n) = codes "taken"
code_of (Limit which n) = codes "limit"
code_of Keeper = codes "keeper"
code_of Memory = codes "memory"

-- a limit in words
abbrev pub limit_detail : Quantity → ℕ → List ℕ
limit_detail which n = quantity_text which ++ codes " would exceed " ++ decimal n

-- in words that a number is that of somebody, and of a member
abbrev pub taken_detail : ℕ → List ℕ → List ℕ
taken_detail n who = codes "number " ++ decimal n ++ codes " is that of " ++ who

abbrev pub holder_detail : ℕ → ℕ → List ℕ
holder_detail n id = taken_detail n (codes "member " ++ decimal id)

-- a refusal in words
abbrev pub detail_of : PoolRefusal → List ℕ
detail_of (Absent n) = decimal n ++ codes " is not there"
detail_of (NameTaken n) = codes "the name is that of " ++ decimal n
detail_of Bounds = codes "first and last do not fit"
detail_of (InUse n) = codes "named by member " ++ decimal n
detail_of (NoSpace n) = codes "no space for claim " ++ decimal n
detail_of (Outside n) = codes "number " ++ decimal n ++ codes " is not in the range"
detail_of (Taken n id) = holder_detail n id
detail_of (Repeated n) = taken_detail n (codes "an earlier item")
detail_of (Limit which n) = limit_detail which n
detail_of Keeper = codes "the store could not be written"
detail_of Memory = codes "no memory"
