use Rattle.std.proofs.Common.{◌≡◌, ℕ, ◌+◌, ◌^◌, ◌<◌, true, List, map, length, IfOk, IfErr, IsPermutation, refl, ap, sym, subst, ◌∙◌, arith}
use Rattle.inet_num.specs.declared.Family.{Family}
use Rattle.inet_num.specs.Net.{Cidr}
use Rattle.ipam_data.specs.declared.prefix.Prefix.{Prefix}
use Rattle.block_space.specs.Listed.{counting_of}
use Rattle.block_space.specs.Fit.{fits_of}
use Rattle.block_claim.specs.Claims.{IsShort}
use Rattle.placed_book.specs.Kinds.{placed_prefix}
use Rattle.placed_book.specs.Book.{TableBlocks, blocks_of_family, blocks_of_all, AreInOrder, AreAll}
use Rattle.placed_book.specs.Changes.{IsSwapped}
use Rattle.placed_book.proofs.Moves.{few_all_of}
use Rattle.ipam_data.specs.Rows.{prefix_id}
use Rattle.placed_book.proofs.Swapped.{all_again}
use Rattle.register_tables.proofs.Beside.{fits_same}
use Rattle.register_tables.proofs.claims.plan_in_all.Goals as goal

pub plan_counted-planned-requires-clause-few : goal.plan_counted-planned-requires-clause-few
plan_counted-planned-requires-clause-few g c =
    let few = few_all_of prefix_id placed_prefix (λ x. refl) c.args.book.now.rows c.args.book.now.all (g.S.Space.family_of c.new.result) c.requires.order.all in
    let is = ap length c.swap_all-kids.ensures.held in
    let bound = c.requires.few in
    omega arith

pub returns-clause-order : goal.returns-clause-order
returns-clause-order g c =
    let rows_are = c.swap_all-empty.ensures.rows ∙ c.swap_all-kids.ensures.rows in
    let tables_are = c.swap_all-empty.ensures.tables ∙ c.swap_all-kids.ensures.tables in
    let back = subst (λ (bs : List Cidr). IsPermutation bs (g.S.Space.held c.plan_counted-planned.new.kids)) c.swap_all-kids.ensures.held c.plan_counted-planned.ensures.same in
    let same_family = c.plan_counted-planned.ensures.family ∙ c.swap_all-kids.ensures.family in
    let second = subst (λ (f : Family). IsSwapped f (g.S.Space.held c.plan_counted-planned.new.kids) c.swap_all-kids.new.self.all c.swap_all-empty.new.self.all) same_family c.swap_all-empty.ensures.swapped in
    let order = all_again (map placed_prefix c.args.book.now.rows) c.args.book.now.all c.swap_all-kids.new.self.all c.swap_all-empty.new.self.all (g.S.Space.family_of c.new.result) (g.S.Space.held c.new.result) (g.S.Space.held c.plan_counted-planned.new.kids)
    c.requires.order.all c.swap_all-kids.ensures.swapped second back in
    record {
      tables = subst (λ (rows : List Prefix). AreInOrder (map placed_prefix rows) c.swap_all-empty.new.self.tables) (sym rows_are) (subst (λ (ts : List TableBlocks). AreInOrder (map placed_prefix c.args.book.now.rows) ts) (sym tables_are) c.requires.order.tables);
      all = subst (λ (rows : List Prefix). AreAll (map placed_prefix rows) c.swap_all-empty.new.self.all) (sym rows_are) order;
    }

pub returns-clause-ok : goal.returns-clause-ok
returns-clause-ok g c =
    let family = c.new.ensures.family ∙ c.family.ensures.family in
    let held = c.swap_all-kids.ensures.held ∙ ap (λ (f : Family). blocks_of_family c.args.book.now.all f) family in
    let same = ap (λ (bs : List Cidr). fits_of c.args.within (counting_of bs c.args.within true) c.args.wanted.now) held ∙ fits_same c.args.within c.args.wanted.now (blocks_of_all (map placed_prefix c.args.book.now.rows) c.args.within.family) (blocks_of_family c.args.book.now.all c.args.within.family) (c.requires.order.all c.args.within.family) in
    subst (λ (bs : List Cidr). IfOk c.plan_counted-planned.result (λ v. (v.items ≡ bs) × (length v.items ≡ length c.args.wanted.now))) same c.plan_counted-planned.ensures.ok

pub returns-clause-err : goal.returns-clause-err
returns-clause-err g c =
    let family = c.new.ensures.family ∙ c.family.ensures.family in
    let held = c.swap_all-kids.ensures.held ∙ ap (λ (f : Family). blocks_of_family c.args.book.now.all f) family in
    let same = ap (λ (bs : List Cidr). fits_of c.args.within (counting_of bs c.args.within true) c.args.wanted.now) held ∙ fits_same c.args.within c.args.wanted.now (blocks_of_all (map placed_prefix c.args.book.now.rows) c.args.within.family) (blocks_of_family c.args.book.now.all c.args.within.family) (c.requires.order.all c.args.within.family) in
    subst (λ (bs : List Cidr). IfErr c.plan_counted-planned.result (IsShort (length c.args.wanted.now) (length bs))) same c.plan_counted-planned.ensures.err
