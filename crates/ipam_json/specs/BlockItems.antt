-- Items of claims of blocks in JSON.
use Rattle.std.specs.Prelude.{ℕ, false, List, Result, Ok}
use Rattle.ipam_data.specs.declared.calls.Answered.{Answered}
use Rattle.ipam_data.specs.declared.calls.BlockItem.{BlockItem}
use Rattle.ipam_data.specs.declared.replies.FieldName.TheVariants.{Description, IsPool, MarkUtilized, PrefixLength, Role as RoleField, Status}
use Rattle.ipam_data.specs.declared.replies.Refusal.{Refusal}
use Rattle.serde_json.specs.Data.{Data}
use Rattle.ipam_json.specs.Outcomes.{then, read_member}
use Rattle.ipam_json.specs.Members.{description_of, flag_of, id_of, prefix_length_of, prefix_status_of}
use Rattle.ipam_json.specs.Claims.{IsClaimOf}

-- the item that an object gives, whose members are read in this order
abbrev pub block_item : Data → Result BlockItem Refusal
block_item d =
    then (read_member PrefixLength prefix_length_of d) λ len.
    then (read_member Status prefix_status_of d) λ status.
    then (read_member RoleField id_of d) λ role.
    then (read_member IsPool (flag_of false) d) λ is_pool.
    then (read_member MarkUtilized (flag_of false) d) λ mark_utilized.
    then (read_member Description description_of d) λ description.
    Ok (record { len = len; status = status; role = role; is_pool = is_pool; mark_utilized = mark_utilized; description = description })

-- what the body of a claim of blocks asks for
abbrev pub IsBlockClaim : List ℕ → Result (Answered × List BlockItem) Refusal → Type 0
IsBlockClaim body answer = IsClaimOf block_item body answer
