-- A kind that is full takes no more rows.
use Rattle.std.proofs.Common.{◌≡◌, ℕ, ◌+◌, ◌≤◌, false, nat_le, List, [], ◌∷◌, ◌++◌, length, Option, Some, None, refl, ◌∙◌, arith}
use Rattle.std.proofs.lemmas.Bool.Decides.{nat_tests}
use Rattle.ipam_data.specs.declared.kinds.Kind.{Kind}
use Rattle.ipam_data.specs.declared.replies.Refusal.TheVariants.{Limit}
use Rattle.ipam_data.specs.declared.replies.Which.TheVariants.{Kind as OfKind}
use Rattle.ipam_data.specs.Checks.{first, no_room, no_log}
use Rattle.ipam_data.specs.Plans.{KindRules, broken, no_seats}
use Rattle.ipam_data.specs.Vrfs.{vrf_rules}
use Rattle.ipam_data.specs.Rirs.{rir_rules}
use Rattle.ipam_data.specs.Roles.{role_rules}
use Rattle.ipam_data.specs.Aggregates.{aggregate_rules}
use Rattle.ipam_data.specs.Prefixes.{prefix_rules}
use Rattle.ipam_data.specs.Ranges.{range_rules}
use Rattle.ipam_data.specs.Addresses.{address_rules}
use Rattle.ipam_data.specs.Lawful.{FullKindRefuses, FullKindsRefuse}

-- where the first of two lists refuses nothing, that of both is that of the second
past : {A : Type 0} (xs ys : List (Option A)) → first xs ≡ None → first (xs ++ ys) ≡ first ys
past [] ys e = refl
past (None ∷ xs) ys e = past xs ys e
past (Some x ∷ xs) ys e = cc

-- where the first of two lists refuses, that of both is the same
kept : {A : Type 0} (xs ys : List (Option A)) (x : A) → first xs ≡ Some x → first (xs ++ ys) ≡ Some x
kept [] ys x e = cc
kept (None ∷ xs) ys x e = kept xs ys x e
kept (Some y ∷ xs) ys x e = e

full_room : (kind : Kind) (most count next : ℕ) → most ≤ count → first (no_room kind most count next 1) ≡ Some (Limit (OfKind kind) most)
full_room kind most count next n = let e : nat_le (count + 1) most ≡ false = grind (arith, nat_tests) in rw e refl

full : {T : Type 0} (rules : KindRules T) → FullKindRefuses rules
full rules s told row e n =
    kept (broken rules s None told row ++ no_seats rules s 1) (no_log s.spent 1 ∷ []) (Limit (OfKind rules.kind) rules.most)
    (past (broken rules s None told row) (no_seats rules s 1) e ∙ full_room rules.kind rules.most (length (rules.row_list s).rows) (rules.row_list s).next n)

pub full_kinds : FullKindsRefuse
full_kinds = record {
  vrfs = full vrf_rules;
  rirs = full rir_rules;
  roles = full role_rules;
  aggregates = full aggregate_rules;
  prefixes = full prefix_rules;
  ranges = full range_rules;
  addresses = full address_rules;
}
