use Rattle.std.proofs.Common.{◌≡◌, subst, string_bytes, IfOk}
use Rattle.ipam_data.specs.declared.replies.View.{View}
use Rattle.stored_tables.specs.Stored.{stored_row}
use Rattle.register_plans.specs.ReadyRows.{texts_of}
use Rattle.register_plans.specs.TextKeys.{key_of}
use Rattle.register_plans.proofs.imports.ready.key_of_draft.Goals as goal

pub returns : goal.returns
unfolding texts_of
returns c = subst (λ (v : View). IfOk c.key_of_view.result (λ k. string_bytes k ≡ key_of (stored_row v).fields)) c.in_ok-view.ensures c.key_of_view.ensures
