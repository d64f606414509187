use Rattle.std.proofs.Common.{◌≡◌, ◌↔◌, ℕ, List, IsTrue, sym, ap, subst, ◌∙◌}
use Rattle.inet_num.specs.Net.{Cidr}
use Rattle.inet_num.specs.Free.{is_taken}
use Rattle.span_set.specs.Spans.{Spans, IsIn}
use Rattle.prefix_list.specs.Lists.{AreOf}
use Rattle.prefix_list.proofs.JustSets.{ok_one, in_any_order, of_any_order}
use Rattle.prefix_list.proofs.sets.sorted_set.Goals as goal

pub set_of-requires : goal.set_of-requires
set_of-requires c =
    let of = subst (AreOf c.args.family) (sym c.in_ok-sorted.ensures.items) c.requires in
    subst (AreOf c.args.family) (sym c.deref.ensures.value) (of_any_order c.args.family _ _ c.sort_unstable_by_key.ensures.permutation of)

pub returns-clause-members : goal.returns-clause-members
returns-clause-members c =
    let HasJustThose : List Cidr → Spans → Type 0 = λ bs set. (n : ℕ) → IsIn set n ↔ IsTrue (is_taken bs n) in
    ok_one c.set_of.result
    (λ set members. subst (λ (bs : List Cidr). HasJustThose bs set) c.in_ok-sorted.ensures.items
    (in_any_order set _ _ c.sort_unstable_by_key.ensures.permutation (subst (λ (bs : List Cidr). HasJustThose bs set) c.deref.ensures.value members)))
    c.set_of.ensures.members
