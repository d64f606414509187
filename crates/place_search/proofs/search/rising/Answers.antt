use Rattle.std.proofs.Common.{List, ℕ, Contains, sym, subst}
use Rattle.std.specs.List.Sorted.{IsStrictlyIncreasing}
use Rattle.std.proofs.lemmas.List.Filters.{dedup_is}
use Rattle.std.proofs.lemmas.List.Kept.{Contains-dedup_nat, Contains-from_dedup}
use Rattle.std.proofs.lemmas.List.Sorted.{Contains-permutation, IsPermutation-sym}
use Rattle.std.proofs.lemmas.Map.Keys.{IsStrictlyIncreasing-dedup}
use Rattle.place_search.proofs.search.rising.Goals as goal

pub returns-clause-rises : goal.returns-clause-rises
returns-clause-rises c =
    let sorted = c.sort.new.self.items in
    let is = dedup_is _ sorted c.dedup.new.self.items c.dedup.ensures.filtered in
    record {
      rises = subst (λ (ns : List ℕ). IsStrictlyIncreasing ns) (sym is) (IsStrictlyIncreasing-dedup sorted c.in_ok-sort.ensures.sorted);
      all = λ n d. subst (λ (ns : List ℕ). Contains ns n) (sym is) (Contains-dedup_nat sorted n (Contains-permutation c.args.ids.items sorted n c.in_ok-sort.ensures.permutation d));
      each = λ n d. Contains-permutation sorted c.args.ids.items n (IsPermutation-sym c.args.ids.items sorted c.in_ok-sort.ensures.permutation) (Contains-from_dedup _ sorted n (subst (λ (ns : List ℕ). Contains ns n) is d));
    }
