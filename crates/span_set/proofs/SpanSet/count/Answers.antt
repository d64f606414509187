use Rattle.std.proofs.Common.{◌≡◌, ◌∙◌, ap, subst, arith}
use Rattle.inet_num.specs.Net.{Address}
use Rattle.inet_num.specs.Count.{count_of}
use Rattle.inet_num.proofs.Numbers.{size_fits}
use Rattle.span_set.specs.Spans.{Spans, is_in}
use Rattle.span_set.proofs.Counted.{counted_within}
use Rattle.span_set.proofs.SpanSet.count.Goals as goal

pub count_between-requires-clause-few : goal.count_between-requires-clause-few
count_between-requires-clause-few c =
    let first_is = c.value.ensures.value ∙ ap (λ (a : Address). a.value) c.first.ensures in
    let last_is = c.value-2.ensures.value ∙ ap (λ (a : Address). a.value) c.last.ensures in
    omega (arith, size_fits c.args.within.family c.args.within.len c.requires.long)

pub returns : goal.returns
returns c =
    let set : Spans = record { family = c.self.inside.family; runs = c.self.inside.runs.items } in
    let first_is = c.value.ensures.value ∙ ap (λ (a : Address). a.value) c.first.ensures in
    let last_is = c.value-2.ensures.value ∙ ap (λ (a : Address). a.value) c.last.ensures in
    let law = counted_within set c.deref.result.now c.args.within c.value.result c.value-2.result c.count_between.result c.deref.ensures.value c.self.invariant.apart first_is last_is c.count_between.ensures in
    subst (λ (s : Spans). c.count_between.result ≡ count_of (is_in s) c.args.within) c.self.view_is law
