use Rattle.std.proofs.Common.{Bool, subst, Contains}
use Rattle.std.proofs.lemmas.Option.{IfSome_then}
use Rattle.std.proofs.lemmas.Result.{IfOk-weaker}
use Rattle.ipam_data.specs.declared.address.IpAddress.{IpAddress}
use Rattle.ipam_data.specs.Rows.{address_id}
use Rattle.placed_book.specs.Book.{TabledRows}
use Rattle.placed_book.specs.Kinds.{placed_address}
use Rattle.register_plans.specs.Meets.{address_meets}
use Rattle.register_plans.specs.Candidates.{AreCandidates, is_asked}
use Rattle.register_plans.proofs.Asked.{narrower, address_met}
use Rattle.register_plans.proofs.addresses.IpAddressRegistered.candidates.Goals as goal

pub ids_asked-requires-clause-there : goal.ids_asked-requires-clause-there
ids_asked-requires-clause-there c = λ row n d e. c.requires.addresses.tables row n (subst (λ (b : TabledRows IpAddress). Contains b.rows row) c.addresses.ensures.book d) e

pub returns : goal.returns
returns c =
    let asked : IpAddress → Bool = λ row. is_asked c.in-Addresses.vrf_id c.area_of.result (placed_address row) in
    IfOk-weaker c.ids_asked.result _ _
    (λ found p. IfSome_then found p
    (λ v h. narrower address_id asked (address_meets c.args.filter.now) c.args.row_tables.now.addresses.rows v.items
    (address_met c.args.filter.now _ _ _ _ _ _ c.area_of.result c.in-Addresses.is c.area_of.ensures)
    (subst (λ (b : TabledRows IpAddress). AreCandidates address_id asked b.rows v.items) c.addresses.ensures.book h)))
    c.ids_asked.ensures
