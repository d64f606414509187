use Rattle.std.proofs.Common.{◌≡◌, ℕ, ◌^◌, ◌<◌, ◌≤◌, List, length, get_or, sym, subst}
use Rattle.std.proofs.lemmas.List.Elements.{All-from_recursion}
use Rattle.inet_num.specs.Net.{Cidr, IsBlock, width_of}
use Rattle.inet_num.proofs.Fewest.{largest_are_fewest}
use Rattle.span_set.specs.declared.runs.Run.{Run}
use Rattle.span_set.specs.Runs.{AreApart, EndBelow}
use Rattle.span_set.specs.Spans.{Spans, is_in, IsIn}
use Rattle.span_set.specs.Blocks.{IsFewest, IsLargest}
use Rattle.span_set.proofs.Rising.{at_least}
use Rattle.span_set.proofs.Greedy.{All-weaker}
use Rattle.span_set.proofs.Union.{fewest_none, fewest_step, fewest_whole, fewest_members}
use Rattle.span_set.proofs.SpanSet.blocks.Goals as goal

pub runs-init : goal.runs-init
runs-init c = rw c.new-out.ensures.items (fewest_none c.self.inside.family)

-- a run of the list begins not after its end, and ends below the limit
own : (runs slice : List Run) (i : ℕ) (d : Run) → slice ≡ runs → AreApart 0 runs → i < length slice → (get_or slice i d).first ≤ (get_or slice i d).last
own runs slice i d e h l = (at_least 0 slice (subst (AreApart 0) (sym e) h) i d l).1

below : (limit : ℕ) (runs slice : List Run) (i : ℕ) (d : Run) → slice ≡ runs → EndBelow limit runs → i < length slice → (get_or slice i d).last < limit
below limit runs slice i d e h l = All-from_recursion (λ (run : Run). run.last < limit) slice (subst (EndBelow limit) (sym e) h) i d l

pub push_blocks-requires-clause-order : goal.push_blocks-requires-clause-order
push_blocks-requires-clause-order c = own c.self.inside.runs.items c.deref-run-items.result.now c.runs.run-index _ c.deref-run-items.ensures.value c.self.invariant.apart c.runs-test.true

pub push_blocks-requires-clause-range : goal.push_blocks-requires-clause-range
push_blocks-requires-clause-range c = below (2 ^ width_of c.self.inside.family) c.self.inside.runs.items c.deref-run-items.result.now c.runs.run-index _ c.deref-run-items.ensures.value c.self.invariant.within c.runs-test.true

pub runs-preserved : goal.runs-preserved
runs-preserved c = fewest_step c.self.inside.family c.self.inside.runs.items c.deref-run-items.result.now c.runs.run-index _ c.runs.out.items c.push_blocks.new.out.items c.deref-run-items.ensures.value c.self.invariant.apart c.runs-test.true c.runs.invariant c.in_ok-push_blocks.ensures.ok

pub returns-clause-fewest : goal.returns-clause-fewest
returns-clause-fewest c =
    let set : Spans = record { family = c.self.inside.family; runs = c.self.inside.runs.items } in
    let whole = fewest_whole set c.deref-run-items.result.now c.runs.run-index c.runs.out.items c.deref-run-items.ensures.value c.runs-test.false c.runs.invariant in
    let f = subst (λ (s : Spans). IsFewest s.family (IsIn s) c.runs.out.items) c.self.view_is whole in
    f.lists

pub returns-clause-members : goal.returns-clause-members
returns-clause-members c =
    let set : Spans = record { family = c.self.inside.family; runs = c.self.inside.runs.items } in
    let whole = fewest_whole set c.deref-run-items.result.now c.runs.run-index c.runs.out.items c.deref-run-items.ensures.value c.runs-test.false c.runs.invariant in
    let f = subst (λ (s : Spans). IsFewest s.family (IsIn s) c.runs.out.items) c.self.view_is whole in
    fewest_members c.args.self.now.family (IsIn c.args.self.now) c.runs.out.items f

pub returns-clause-lawful : goal.returns-clause-lawful
returns-clause-lawful c =
    let set : Spans = record { family = c.self.inside.family; runs = c.self.inside.runs.items } in
    let whole = fewest_whole set c.deref-run-items.result.now c.runs.run-index c.runs.out.items c.deref-run-items.ensures.value c.runs-test.false c.runs.invariant in
    All-weaker _ IsBlock c.runs.out.items (λ m (k : IsLargest c.self.inside.family (IsIn set) m). k.lawful) whole.lists.each

pub returns-clause-family : goal.returns-clause-family
returns-clause-family c =
    let set : Spans = record { family = c.self.inside.family; runs = c.self.inside.runs.items } in
    let whole = fewest_whole set c.deref-run-items.result.now c.runs.run-index c.runs.out.items c.deref-run-items.ensures.value c.runs-test.false c.runs.invariant in
    let f = subst (λ (s : Spans). IsFewest s.family (IsIn s) c.runs.out.items) c.self.view_is whole in
    All-weaker _ (λ (m : Cidr). m.family ≡ c.args.self.now.family) c.runs.out.items (λ m (k : IsLargest c.args.self.now.family (IsIn c.args.self.now) m). k.family_is) f.lists.each

pub returns-clause-shortest : goal.returns-clause-shortest
returns-clause-shortest c =
    let set : Spans = record { family = c.self.inside.family; runs = c.self.inside.runs.items } in
    let whole = fewest_whole set c.deref-run-items.result.now c.runs.run-index c.runs.out.items c.deref-run-items.ensures.value c.runs-test.false c.runs.invariant in
    let f = subst (λ (s : Spans). IsFewest s.family (IsIn s) c.runs.out.items) c.self.view_is whole in
    λ cs just. largest_are_fewest c.args.self.now.family (is_in c.args.self.now) c.runs.out.items cs f.lists.each f.lists.ordered just
