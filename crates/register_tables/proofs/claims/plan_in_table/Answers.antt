use Rattle.std.proofs.Common.{◌≡◌, ℕ, ◌+◌, ◌^◌, ◌<◌, true, List, map, length, IfOk, IfErr, IsPermutation, refl, ap, sym, subst, ◌∙◌, arith}
use Rattle.std.proofs.lemmas.List.Sorted.{length_permutation}
use Rattle.inet_num.specs.declared.Family.{Family}
use Rattle.inet_num.specs.Net.{Cidr}
use Rattle.ipam_data.specs.declared.prefix.Prefix.{Prefix}
use Rattle.block_space.specs.Listed.{counting_of}
use Rattle.block_space.specs.Fit.{fits_of}
use Rattle.block_claim.specs.Claims.{IsShort}
use Rattle.placed_book.specs.Kinds.{placed_prefix}
use Rattle.placed_book.specs.Book.{blocks_at, blocks_of_rows, blocks_of_all, AreInOrder, AreAll}
use Rattle.placed_book.proofs.Moves.{few_of}
use Rattle.ipam_data.specs.Rows.{prefix_id}
use Rattle.placed_book.proofs.Swapped.{in_order_again}
use Rattle.register_tables.proofs.Beside.{fits_same}
use Rattle.register_tables.proofs.claims.plan_in_table.Goals as goal

pub plan_counted-planned-requires-clause-few : goal.plan_counted-planned-requires-clause-few
plan_counted-planned-requires-clause-few g c =
    let few = few_of prefix_id placed_prefix (λ x. refl) c.args.book.now.rows c.args.book.now.tables c.args.table c.family-family.result c.requires.order.tables in
    let is = ap length c.swap-kids.ensures.held in
    let bound = c.requires.few in
    omega arith

pub returns-clause-order : goal.returns-clause-order
returns-clause-order g c =
    let rows_are = c.swap-empty.ensures.rows ∙ c.swap-kids.ensures.rows in
    let back = subst (λ (bs : List Cidr). IsPermutation bs (g.S.Space.held c.plan_counted-planned.new.kids)) c.swap-kids.ensures.held c.plan_counted-planned.ensures.same in
    let order = in_order_again (map placed_prefix c.args.book.now.rows) c.args.book.now.tables c.swap-kids.new.self.tables c.swap-empty.new.self.tables c.args.table c.family-family.result (g.S.Space.held c.new.result) (g.S.Space.held c.plan_counted-planned.new.kids)
    c.requires.order.tables c.requires.there c.swap-kids.ensures.swapped c.swap-empty.ensures.swapped back in
    record {
      tables = subst (λ (rows : List Prefix). AreInOrder (map placed_prefix rows) c.swap-empty.new.self.tables) (sym rows_are) order;
      all = subst (λ (rows : List Prefix). AreAll (map placed_prefix rows) c.swap-empty.new.self.all) (sym rows_are) (rw (c.swap-empty.ensures.all, c.swap-kids.ensures.all) c.requires.order.all);
    }

-- what a table's space has is what its rows have
same_fits : (within : Cidr) (lens : List ℕ) (f : Family) (rows held at : List Cidr) → IsPermutation rows at → held ≡ at → fits_of within (counting_of held within true) lens ≡ fits_of within (counting_of rows within true) lens
same_fits within lens f rows held at h e = ap (λ (bs : List Cidr). fits_of within (counting_of bs within true) lens) e ∙ fits_same within lens rows at h

pub returns-clause-ok : goal.returns-clause-ok
returns-clause-ok g c =
    let order = subst (λ (f : Family). IsPermutation (blocks_of_rows (map placed_prefix c.args.book.now.rows) c.args.table f) (blocks_at c.args.book.now.tables c.args.table f)) c.family-family.ensures.family (c.requires.order.tables.blocks c.args.table c.family-family.result) in
    let held = c.swap-kids.ensures.held ∙ ap (λ (f : Family). blocks_at c.args.book.now.tables c.args.table f) c.family-family.ensures.family in
    let same = same_fits c.args.within c.args.wanted.now c.args.within.family (blocks_of_rows (map placed_prefix c.args.book.now.rows) c.args.table c.args.within.family) (g.S.Space.held c.swap-kids.result) (blocks_at c.args.book.now.tables c.args.table c.args.within.family) order held in
    subst (λ (bs : List Cidr). IfOk c.plan_counted-planned.result (λ v. (v.items ≡ bs) × (length v.items ≡ length c.args.wanted.now))) same c.plan_counted-planned.ensures.ok

pub returns-clause-err : goal.returns-clause-err
returns-clause-err g c =
    let order = subst (λ (f : Family). IsPermutation (blocks_of_rows (map placed_prefix c.args.book.now.rows) c.args.table f) (blocks_at c.args.book.now.tables c.args.table f)) c.family-family.ensures.family (c.requires.order.tables.blocks c.args.table c.family-family.result) in
    let held = c.swap-kids.ensures.held ∙ ap (λ (f : Family). blocks_at c.args.book.now.tables c.args.table f) c.family-family.ensures.family in
    let same = same_fits c.args.within c.args.wanted.now c.args.within.family (blocks_of_rows (map placed_prefix c.args.book.now.rows) c.args.table c.args.within.family) (g.S.Space.held c.swap-kids.result) (blocks_at c.args.book.now.tables c.args.table c.args.within.family) order held in
    subst (λ (bs : List Cidr). IfErr c.plan_counted-planned.result (IsShort (length c.args.wanted.now) (length bs))) same c.plan_counted-planned.ensures.err
