use Rattle.std.proofs.Common.{◌≡◌, ◌≤◌, sym, ◌∙◌, List}
use Rattle.inet_num.specs.Net.{Cidr}
use Rattle.inet_num.specs.Free.{IsAvailable, ListsAvailable}
use Rattle.span_set.specs.Spans.{Spans, IsIn}
use Rattle.span_set.specs.Blocks.{IsLargest, ListsLargest, IsRest}
use Rattle.span_set.proofs.Greedy.{All-weaker}
use Rattle.span_set.proofs.Union.{first_in, order_raised}

available_is_largest : (set : Spans) (within : Cidr) (blocks : List Cidr) → set.family ≡ within.family → IsRest set within blocks → (m : Cidr) → IsAvailable within blocks m → IsLargest set.family (IsIn set) m
available_is_largest set within blocks same e m k = record {
  lawful = k.lawful;
  family_is = k.inside.family ∙ sym same;
  inside = λ a i. (e a).1 (k.inside.each a i, k.free a i);
  largest = λ some all. k.largest some (record { family = k.inside.family; each = λ a i. ((e a).0 (all a i)).0 }) (λ a i. ((e a).0 (all a i)).1);
}

largest_is_available : (set : Spans) (within : Cidr) (blocks : List Cidr) → set.family ≡ within.family → IsRest set within blocks → (m : Cidr) → IsLargest set.family (IsIn set) m → IsAvailable within blocks m
largest_is_available set within blocks same e m k = record {
  lawful = k.lawful;
  inside = record { family = k.family_is ∙ same; each = λ a i. ((e a).0 (k.inside a i)).0 };
  free = λ a i. ((e a).0 (k.inside a i)).1;
  largest = λ some inside free. k.largest some (λ a i. (e a).1 (inside.each a i, free a i));
}

pub lists_available : (set : Spans) (within : Cidr) (blocks bs : List Cidr) → set.family ≡ within.family → IsRest set within blocks → ListsLargest set.family (IsIn set) bs → ListsAvailable within blocks bs
lists_available set within blocks bs same e h = record {
  each = All-weaker _ _ bs (largest_is_available set within blocks same e) h.each;
  complete = λ m k. h.complete m (available_is_largest set within blocks same e m k);
  ordered = order_raised 0 within.first bs h.ordered
      (All-weaker _ _ bs (λ m (k : IsLargest set.family (IsIn set) m). (let low = (e m.first).0 (k.inside m.first (first_in m)) in let l : within.first ≤ m.first = low.0.0 in l)) h.each);
}
