use Rattle.std.proofs.Common.{◌++◌, ◌∷◌, [], ◌∙◌, ap, List, map, take, append_assoc}
use Rattle.ipam_data.specs.declared.replies.View.{View}
use Rattle.ipam_data.specs.declared.prefix.Prefix.{Prefix}
use Rattle.ipam_data.specs.Tables.{is_named}
use Rattle.ipam_data.specs.Prefixes.{prefix_rules, prefix_without_role, prefixes_without_role}
use Rattle.register_plans.proofs.Finds.{gathered_more}
use Rattle.register_plans.proofs.roles.forget_in_prefixes.Goals as goal

pub rows-preserved : goal.rows-preserved
rows-preserved c =
    c.in_ok-forget_in_prefix.ensures ∙ ap (λ (views : List View). views ++ map prefix_rules.view (prefixes_without_role c.args.id (c.prefix_at-row.result.now ∷ []))) c.rows.invariant
    ∙ append_assoc c.args.views.now.items (map prefix_rules.view (prefixes_without_role c.args.id (take c.rows.index c.args.book.now.rows))) (map prefix_rules.view (prefixes_without_role c.args.id (c.prefix_at-row.result.now ∷ [])))
    ∙ ap (λ (views : List View). c.args.views.now.items ++ views)
    (gathered_more prefix_rules.view (prefix_without_role c.args.id) (λ (row : Prefix). is_named c.args.id row.role) c.args.book.now.rows c.rows.index c.prefix_at-row.result.now c.prefix_at-row.ensures)
