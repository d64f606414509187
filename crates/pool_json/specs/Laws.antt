-- Laws that make the definitions mean something.
use Rattle.std.specs.Prelude.{◌≡◌, ℕ, List, Option, Result}
use Rattle.ipam_data.specs.declared.calls.Answered.{Answered}
use Rattle.ipam_data.specs.declared.replies.Refusal.{Refusal}
use Rattle.ipam_json.specs.Laws.{AreOrdered}
use Rattle.number_pools.specs.declared.calls.Chosen.{Chosen}
use Rattle.number_pools.specs.declared.rows.PoolKind.{PoolKind}
use Rattle.number_pools.specs.declared.rows.NumberRange.{NumberRange}
use Rattle.number_pools.specs.declared.rows.Member.{Member}
use Rattle.pool_json.specs.declared.bodies.RequestRefusal.{RequestRefusal}
use Rattle.pool_json.specs.declared.bodies.RangeDraft.{RangeDraft}
use Rattle.pool_json.specs.declared.edits.RangeEdit.{RangeEdit}
use Rattle.pool_json.specs.Bodies.{IsClaim, IsRangeBody}
use Rattle.pool_json.specs.Edits.{IsMemberEdit, IsRangeEdit}
use Rattle.pool_json.specs.Records.{IsRecord}
use Rattle.pool_json.specs.Rows.{asn_members, range_members, vlan_members}

-- the body of a range asks for one thing
abbrev pub RangeBodyIsOne : Type 0
RangeBodyIsOne = (body : List ℕ) (a b : Result RangeDraft RequestRefusal) → IsRangeBody body a → IsRangeBody body b → a ≡ b

-- and so does the body of a claim
abbrev pub ClaimIsOne : Type 0
ClaimIsOne = (kind : PoolKind) (body : List ℕ) (a b : Result (Answered × List (List ℕ)) Refusal) → IsClaim kind body a → IsClaim kind body b → a ≡ b

-- and so does that of a call that records
abbrev pub RecordIsOne : Type 0
RecordIsOne = (kind : PoolKind) (body : List ℕ) (a b : Result (Answered × List Chosen) RequestRefusal) → IsRecord kind body a → IsRecord kind body b → a ≡ b

-- and so does that of an edit
pub record EditIsOne : Type 0 where
  pub ranges : (body : List ℕ) (a b : Result RangeEdit RequestRefusal) → IsRangeEdit body a → IsRangeEdit body b → a ≡ b
  pub members : (kind : PoolKind) (body : List ℕ) (a b : Result (Option (List ℕ)) RequestRefusal) → IsMemberEdit kind body a → IsMemberEdit kind body b → a ≡ b

-- the members of a row are in the byte order of their names, and no two have one name
pub record RowsAreInOrder : Type 0 where
  pub ranges : (row : NumberRange) → AreOrdered (range_members row)
  pub asns : (row : Member) → AreOrdered (asn_members row)
  pub vlans : (row : Member) → AreOrdered (vlan_members row)
