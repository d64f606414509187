use Rattle.std.proofs.Common.{◌<◌, sym, subst, drop, List}
use Rattle.std.specs.List.{AllByRecursion}
use Rattle.std.proofs.lemmas.List.{drop-drop}
use Rattle.inet_num.specs.Net.{Cidr}
use Rattle.block_list.specs.Listing.{Rises}
use Rattle.block_list.proofs.Rising.{rises_drop}
use Rattle.block_list.proofs.search.beginning_in.Goals as goal

pub beginning_by-count-requires : goal.beginning_by-count-requires
beginning_by-count-requires c = subst (Rises 0) (sym c.split_at.ensures.back) (rises_drop c.args.blocks.now c.beginning_before-from.result c.requires)

pub returns-clause-behind : goal.returns-clause-behind
returns-clause-behind c =
    subst (AllByRecursion (λ b. c.args.last < b.first)) (drop-drop c.beginning_by-count.result c.beginning_before-from.result c.args.blocks.now)
    (subst (λ (bs : List Cidr). AllByRecursion (λ b. c.args.last < b.first) (drop c.beginning_by-count.result bs)) c.split_at.ensures.back c.beginning_by-count.ensures.others)
