use Rattle.std.proofs.Common.{◌≡◌, ◌∙◌, ℕ, ◌+◌, ◌≤◌, ap, sym, subst, arith}
use Rattle.ipam_data.specs.declared.replies.View.{View}
use Rattle.ipam_data.specs.Fields.{drafted}
use Rattle.ipam_data.specs.Imports.{record_of}
use Rattle.ipam_data.specs.Steps.{next_for}
use Rattle.ipam_data.specs.Updates.{IsFit}
use Rattle.register_tables.specs.Held.{state_of}
use Rattle.register_plans.proofs.ImportRecords.{record_fits, next_room, put_leads, made_lawful}
use Rattle.register_plans.proofs.imports.one.make.Goals as goal

pub overflow_add-id : goal.overflow_add-id
overflow_add-id c =
    let room : next_for (state_of c.args.row_tables.now) c.args.draft.now + 1 ≤ 4294967295 = next_room (state_of c.args.row_tables.now) c.args.draft.now (sym c.refused.ensures ∙ c.in-None.is) in
    omega arith

pub put_record-requires : goal.put_record-requires
put_record-requires c =
    let is : c.in_ok-view.view ≡ record_of (state_of c.args.row_tables.now) c.args.draft.now = c.in_ok-view.ensures ∙ ap (λ (n : ℕ). drafted n c.args.draft.now) c.next_id-id.ensures in
    subst (λ (view : View). IsFit (state_of c.args.row_tables.now) view) (sym is) (record_fits (state_of c.args.row_tables.now) c.args.draft.now c.requires.lawful (sym c.refused.ensures ∙ c.in-None.is))

pub returns-clause-state : goal.returns-clause-state
returns-clause-state c =
    put_leads (state_of c.args.row_tables.now) (state_of c.put_record.new.row_tables) c.args.draft.now c.in_ok-view.view c.kind_of.result c.next_id-id.result
    c.in_ok-view.ensures c.kind_of.ensures c.next_id-id.ensures c.in_ok-put_record.ensures.ok

pub returns-clause-lawful : goal.returns-clause-lawful
returns-clause-lawful c =
    made_lawful (state_of c.args.row_tables.now) (state_of c.put_record.new.row_tables) c.args.draft.now c.requires.lawful c.bounds.ensures (sym c.refused.ensures ∙ c.in-None.is)
    (put_leads (state_of c.args.row_tables.now) (state_of c.put_record.new.row_tables) c.args.draft.now c.in_ok-view.view c.kind_of.result c.next_id-id.result
    c.in_ok-view.ensures c.kind_of.ensures c.next_id-id.ensures c.in_ok-put_record.ensures.ok)
