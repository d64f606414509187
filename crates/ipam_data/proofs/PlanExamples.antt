-- Small examples of what calls spend and put again, worked out by evaluation.
use Rattle.std.proofs.Common.{◌≡◌, [], ◌∷◌, Some, None, true, refl, codes}
use Rattle.ipam_data.specs.declared.kinds.Kind.TheVariants.{Roles}
use Rattle.ipam_data.specs.declared.calls.Call.TheVariants.{Get, Delete}
use Rattle.ipam_data.specs.declared.replies.Reply.TheVariants.{One, Refused}
use Rattle.ipam_data.specs.declared.replies.View.TheVariants.{Role as RoleView}
use Rattle.ipam_data.specs.declared.replies.Refusal.TheVariants.{Rule as Breaks, Limit}
use Rattle.ipam_data.specs.declared.replies.Rule.TheVariants.{NameTaken}
use Rattle.ipam_data.specs.declared.replies.Which.TheVariants.{Log}
use Rattle.ipam_data.specs.State.{State, empty_state}
use Rattle.ipam_data.specs.Steps.{plan_of, plain_step}
use Rattle.ipam_data.proofs.Samples.{after, role, prefix, seen}
use Rattle.ipam_data.specs.Roles.{role_fault}
use Rattle.ipam_data.specs.Prefixes.{prefix_fault}

abbrev empty : State
empty = empty_state true

-- ---- log items

-- a creation spends one, a read and a refused call none
one_spent : (after empty (role ∷ role ∷ Get Roles 1 ∷ [])).spent ≡ 1
unfolding role_fault
one_spent = refl

-- where all are spent the next change is refused, and a rule that it breaks comes before
abbrev full : State
full = record (after empty (role ∷ [])) { spent = 1000000 }

no_more : (plain_step full (Delete Roles 1)).1 ≡ Refused (Limit Log 1000000)
unfolding role_fault
no_more = refl

rule_first : (plain_step full role).1 ≡ Refused (Breaks (NameTaken 1))
unfolding role_fault
rule_first = refl

still_read : (plain_step full (Get Roles 1)).1 ≡ One (RoleView (record { id = 1; name = codes "lan"; slug = codes "lan"; weight = 1000; description = [] }))
unfolding role_fault
still_read = refl

-- ---- a role that goes

-- the prefix that has it is put again without it, and the other one is not
put_again : (plan_of (after empty (role ∷ prefix 16 28 None (Some 1) ∷ prefix 32 28 None None ∷ [])) (Delete Roles 1)).update ≡ record { puts = seen 1 16 28 None None 0 0 ∷ []; cuts = (Roles, 1) ∷ []; next = []; spent = 1 }
unfolding role_fault prefix_fault
put_again = refl

-- with 999,999 items spent one change is accepted, and spends the last
abbrev nearly_full : State
nearly_full = record (after empty (role ∷ [])) { spent = 999999 }

last_change : (plain_step nearly_full (Delete Roles 1)).0.spent ≡ 1000000
unfolding role_fault
last_change = refl
