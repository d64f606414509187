-- Items of claims of addresses in JSON.
use Rattle.std.specs.Prelude.{ℕ, List, Result, Ok}
use Rattle.ipam_data.specs.declared.calls.Answered.{Answered}
use Rattle.ipam_data.specs.declared.calls.AddrItem.{AddrItem}
use Rattle.ipam_data.specs.declared.replies.FieldName.TheVariants.{Description, DnsName, Role as RoleField, Status}
use Rattle.ipam_data.specs.declared.replies.Refusal.{Refusal}
use Rattle.serde_json.specs.Data.{Data}
use Rattle.ipam_json.specs.Outcomes.{then, read_member}
use Rattle.ipam_json.specs.Members.{address_role_of, address_status_of, description_of, dns_name_of}
use Rattle.ipam_json.specs.Claims.{IsClaimOf}

-- the item that an object gives, whose members are read in this order
abbrev pub addr_item : Data → Result AddrItem Refusal
addr_item d =
    then (read_member Status address_status_of d) λ status.
    then (read_member RoleField address_role_of d) λ role.
    then (read_member DnsName dns_name_of d) λ dns_name.
    then (read_member Description description_of d) λ description.
    Ok (record { status = status; role = role; dns_name = dns_name; description = description })

-- what the body of a claim of addresses asks for
abbrev pub IsAddrClaim : List ℕ → Result (Answered × List AddrItem) Refusal → Type 0
IsAddrClaim body answer = IsClaimOf addr_item body answer
