-- Entries that were made of blocks, sorted and kept.
use Rattle.std.proofs.Common.{◌≡◌, ℕ, ◌≤◌, true, sym, ◌∙◌, ap, subst, List, map, Result, Ok, Err, IfOk}
use Rattle.std.specs.List.{AllByRecursion}
use Rattle.std.specs.List.Sorted.{IsPermutation, IsSortedByKey}
use Rattle.std.proofs.lemmas.List.Elements.{recursion_from_All, All-from_recursion}
use Rattle.std.proofs.lemmas.List.Sorted.{All-permutation, list_any-IsPermutation}
use Rattle.inet_num.specs.declared.Family.{Family}
use Rattle.inet_num.specs.Net.{Cidr, IsBlock}
use Rattle.prefix_list.specs.declared.routes.Entry.{Entry}
use Rattle.prefix_list.specs.Lists.{AreOf}
use Rattle.prefix_list.specs.Routes.{lets_in, let_in_by, is_among, exactly, AreExact, AreOutermost}
use Rattle.prefix_list.specs.Choices.{kept_of, upto_of, place_of, place_cmp}
use Rattle.prefix_list.proofs.Choices.{IsAlone, all_kept, rises, same_routes}
use Rattle.prefix_list.proofs.Outer.{IsUpTo, all_alone, all_are_up_to, all_up_to, alone_of, in_order}

any_order : (P : Entry → Type 0) (xs ys : List Entry) → IsPermutation xs ys → AllByRecursion P xs → AllByRecursion P ys
any_order P xs ys same h = recursion_from_All P ys (All-permutation P xs ys same (All-from_recursion P xs h))

each_one : (P Q : Entry → Type 0) (es : List Entry) → ((e : Entry) → P e → Q e) → AllByRecursion P es → AllByRecursion Q es
each_one P Q es is h = recursion_from_All Q es (λ k d less. is _ (All-from_recursion P es h k d less))

module _ (family : Family) (bs : List Cidr) (of : AreOf family bs) (lawful : AllByRecursion IsBlock bs) (es sorted : List Entry) (same : IsPermutation es sorted)
    (up : IsSortedByKey place_of place_cmp sorted) where
  exact_of : es ≡ map exactly bs → AreExact bs (kept_of sorted)
  exact_of is =
      let all : AllByRecursion (IsAlone family) sorted = any_order (IsAlone family) es sorted same (subst (AllByRecursion (IsAlone family)) (sym is) (alone_of family bs of)) in
      record {
        rising = rises family sorted all up;
        alone = each_one (IsAlone family) (λ e. e.most ≡ e.block.len) (kept_of sorted) (λ e h. h.alone) (all_kept (IsAlone family) sorted all);
        routes = λ r route.
            same_routes sorted r ∙ sym (list_any-IsPermutation (λ (e : Entry). lets_in e r) es sorted same) ∙ ap (λ (l : List Entry). let_in_by l r) is ∙ all_alone bs r lawful route;
      }

  outermost_of : (most : ℕ) → es ≡ upto_of most bs → AreOutermost most bs (kept_of sorted)
  outermost_of most is =
      let P = IsUpTo family most bs in
      let all : AllByRecursion P sorted = any_order P es sorted same (subst (AllByRecursion P) (sym is) (all_are_up_to family most bs of lawful)) in
      record {
        ordered = in_order family most bs sorted all up;
        own = each_one P (λ e. (is_among bs e.block ≡ true) × (e.block.len ≤ most) × (e.most ≡ most)) (kept_of sorted) (λ e h. (h.among, h.short, h.most_is)) (all_kept P sorted all);
        routes = λ r.
            same_routes sorted r ∙ sym (list_any-IsPermutation (λ (e : Entry). lets_in e r) es sorted same) ∙ ap (λ (l : List Entry). let_in_by l r) is ∙ all_up_to most bs r lawful;
      }

  pub exact_kept : {V E : Type 0} (items : V → List Entry) (r : Result V E) → es ≡ map exactly bs → IfOk r (λ v. items v ≡ kept_of sorted) → IfOk r (λ v. AreExact bs (items v))
  exact_kept items (Ok v) is h = subst (AreExact bs) (sym h) (exact_of is)
  exact_kept items (Err e) is h = tt

  pub outermost_kept : {V E : Type 0} (items : V → List Entry) (most : ℕ) (r : Result V E) → es ≡ upto_of most bs → IfOk r (λ v. items v ≡ kept_of sorted)
      → IfOk r (λ v. AreOutermost most bs (items v))
  outermost_kept items most (Ok v) is h = subst (AreOutermost most bs) (sym h) (outermost_of most is)
  outermost_kept items most (Err e) is h = tt
