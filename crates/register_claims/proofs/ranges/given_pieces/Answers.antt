use Rattle.std.proofs.Common.{◌≡◌, ℕ, Bool, List, [], ap, sym, subst, IfOk, if◌then◌else◌}
use Rattle.std.specs.List.{flat_map}
use Rattle.inet_num.specs.Count.{addresses_of}
use Rattle.ipam_data.specs.Claims.{numbers_in}
use Rattle.register_claims.proofs.ranges.given_pieces.Goals as goal

pub returns-clause-numbers : goal.returns-clause-numbers
returns-clause-numbers c =
    subst (λ (ns : List ℕ). IfOk c.pieces_of.result (λ v. flat_map addresses_of v.items ≡ ns))
    (sym (ap (λ (m : Bool). if m then [] else numbers_in c.args.range.now) c.if-range.false)) c.pieces_of.ensures.numbers
