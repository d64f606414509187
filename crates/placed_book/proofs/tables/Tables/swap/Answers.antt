use Rattle.std.proofs.Common.{◌≡◌, ◌∷◌, ◌∙◌, sym, ap, subst, set, List, Option, Some, None}
use Rattle.placed_book.specs.Book.{TableBlocks, table_at, blocks_in}
use Rattle.placed_book.specs.Changes.{IsSwapped, IsChangedAt}
use Rattle.placed_book.proofs.Lookups.{at_found, at_none, changed_at, rises_at, none_there}
use Rattle.placed_book.proofs.tables.Tables.swap.Goals as goal

pub invariant_of-self-in-Ok : goal.invariant_of-self-in-Ok
invariant_of-self-in-Ok g c = (
  c.self.invariant.0,
  rises_at c.self.inside.of_vrfs.items c.as_slice.result.now c.args.table c.in-Of.field-0 c.in-Ok.at c.index_mut.result.now c.swap-in-Ok.new.self c.in-Of.is c.self.invariant.1 c.as_slice.ensures.value c.in-Ok.ensures.at c.index_mut.ensures.value c.swap-in-Ok.ensures.swapped.table,
)

pub returns-in-Ok-clause-swapped : goal.returns-in-Ok-clause-swapped
returns-in-Ok-clause-swapped g c =
    subst (λ (ts : List TableBlocks). IsChangedAt c.args.table (IsSwapped c.args.family (g.S.Space.held c.args.other)) ts (c.self.inside.global ∷ set c.self.inside.of_vrfs.items c.in-Ok.at c.swap-in-Ok.new.self)) c.self.view_is
    (changed_at c.self.inside.global c.self.inside.of_vrfs.items c.as_slice.result.now c.args.table c.in-Of.field-0 c.in-Ok.at c.index_mut.result.now c.swap-in-Ok.new.self (IsSwapped c.args.family (g.S.Space.held c.args.other)) c.in-Of.is c.self.invariant.0 c.self.invariant.1 c.as_slice.ensures.value
    c.in-Ok.ensures.at c.index_mut.ensures.value c.swap-in-Ok.ensures.swapped.table c.swap-in-Ok.ensures.swapped)

pub returns-in-Ok-clause-out : goal.returns-in-Ok-clause-out
returns-in-Ok-clause-out g c =
    let found = at_found c.self.inside.global c.self.inside.of_vrfs.items c.as_slice.result.now c.args.table c.in-Of.field-0 c.in-Ok.at c.index_mut.result.now c.in-Of.is c.self.invariant.0 c.self.invariant.1 c.as_slice.ensures.value c.in-Ok.ensures.at c.index_mut.ensures.value in
    let there = subst (λ (ts : List TableBlocks). table_at ts c.args.table ≡ Some c.index_mut.result.now) c.self.view_is found in
    record {
      family = c.swap-in-Ok.ensures.out.family;
      held = c.swap-in-Ok.ensures.out.held ∙ sym (ap (λ (r : Option TableBlocks). blocks_in r c.args.family) there);
    }

pub returns-in-Err-clause-swapped : goal.returns-in-Err-clause-swapped
returns-in-Err-clause-swapped g c =
    let none = at_none c.self.inside.global c.self.inside.of_vrfs.items c.as_slice.result.now c.args.table c.in-Of.field-0 c.in-Of.is c.self.invariant.0 c.as_slice.ensures.value c.in-Err.ensures.none.none in
    absurd (none_there c.args.self.now c.args.table (subst (λ (ts : List TableBlocks). table_at ts c.args.table ≡ None) c.self.view_is none) c.requires.there)

pub returns-in-Err-clause-out : goal.returns-in-Err-clause-out
returns-in-Err-clause-out g c =
    let none = at_none c.self.inside.global c.self.inside.of_vrfs.items c.as_slice.result.now c.args.table c.in-Of.field-0 c.in-Of.is c.self.invariant.0 c.as_slice.ensures.value c.in-Err.ensures.none.none in
    absurd (none_there c.args.self.now c.args.table (subst (λ (ts : List TableBlocks). table_at ts c.args.table ≡ None) c.self.view_is none) c.requires.there)
