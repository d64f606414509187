-- Laws that make the definitions mean something.
use Rattle.std.specs.Prelude.{◌≡◌, ◌↔◌, ℕ, List, [], ◌∷◌, Result, IsTrue}
use Rattle.ipam_data.specs.Texts.{IsPlain}
use Rattle.ipam_data.specs.declared.kinds.Kind.{Kind}
use Rattle.ipam_data.specs.declared.calls.Draft.{Draft}
use Rattle.ipam_data.specs.declared.calls.Edit.{Edit}
use Rattle.ipam_data.specs.declared.calls.Answered.{Answered}
use Rattle.ipam_data.specs.declared.calls.BlockItem.{BlockItem}
use Rattle.ipam_data.specs.declared.calls.AddrItem.{AddrItem}
use Rattle.ipam_data.specs.declared.replies.Refusal.{Refusal}
use Rattle.ipam_data.specs.declared.vrf.Vrf.{Vrf}
use Rattle.ipam_data.specs.declared.rir.Rir.{Rir}
use Rattle.ipam_data.specs.declared.role.Role.{Role}
use Rattle.ipam_data.specs.declared.aggregate.Aggregate.{Aggregate}
use Rattle.ipam_data.specs.declared.prefix.Prefix.{Prefix}
use Rattle.ipam_data.specs.declared.range.IpRange.{IpRange}
use Rattle.ipam_data.specs.declared.address.IpAddress.{IpAddress}
use Rattle.serde_json.specs.Data.{Members, no_members, put}
use Rattle.ipam_json.specs.Members.{is_plain}
use Rattle.ipam_json.specs.Values.{Named, members}
use Rattle.ipam_json.specs.Vrfs.{vrf_members}
use Rattle.ipam_json.specs.Rirs.{rir_members}
use Rattle.ipam_json.specs.Roles.{role_members}
use Rattle.ipam_json.specs.Aggregates.{aggregate_members}
use Rattle.ipam_json.specs.Prefixes.{prefix_members}
use Rattle.ipam_json.specs.Ranges.{range_members}
use Rattle.ipam_json.specs.Addresses.{address_members}
use Rattle.ipam_json.specs.Bodies.{IsBodyOf, IsEditOf}
use Rattle.ipam_json.specs.BlockItems.{IsBlockClaim}
use Rattle.ipam_json.specs.AddrItems.{IsAddrClaim}

-- a body asks for one thing
abbrev pub BodyIsOne : Type 0
BodyIsOne = (kind : Kind) (body : List ℕ) (a b : Result Draft Refusal) → IsBodyOf kind body a → IsBodyOf kind body b → a ≡ b

-- and so does the body of an edit
abbrev pub EditIsOne : Type 0
EditIsOne = (kind : Kind) (body : List ℕ) (a b : Result Edit Refusal) → IsEditOf kind body a → IsEditOf kind body b → a ≡ b

-- and so does the body of a claim
pub record ClaimIsOne : Type 0 where
  pub blocks : (body : List ℕ) (a b : Result (Answered × List BlockItem) Refusal) → IsBlockClaim body a → IsBlockClaim body b → a ≡ b
  pub addrs : (body : List ℕ) (a b : Result (Answered × List AddrItem) Refusal) → IsAddrClaim body a → IsAddrClaim body b → a ≡ b

-- the texts of a body have the bounds of the texts of rows
abbrev pub BoundsAreThose : Type 0
BoundsAreThose = (least most : ℕ) (text : List ℕ) → IsTrue (is_plain least most text) ↔ IsPlain least most text

-- the members as serde_json keeps them: put in one after another, each at its place in the byte order of the names
abbrev pub ordered : List Named → Members
ordered [] = no_members
ordered (m ∷ ms) = put m.0 m.1 (ordered ms)

-- the members are in the byte order of their names, and no two have one name
abbrev pub AreOrdered : List Named → Type 0
AreOrdered row = ordered row ≡ members row

-- the members of a row are in the byte order of their names, and no two have one name
pub record RowsAreInOrder : Type 0 where
  pub vrfs : (row : Vrf) → AreOrdered (vrf_members row)
  pub rirs : (row : Rir) → AreOrdered (rir_members row)
  pub roles : (row : Role) → AreOrdered (role_members row)
  pub aggregates : (row : Aggregate) → AreOrdered (aggregate_members row)
  pub prefixes : (row : Prefix) (depth children : ℕ) → AreOrdered (prefix_members row depth children)
  pub ranges : (row : IpRange) → AreOrdered (range_members row)
  pub addresses : (row : IpAddress) → AreOrdered (address_members row)
