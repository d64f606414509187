use Rattle.std.proofs.Common.{◌≡◌, ◌∙◌, ℕ, ◌+◌, ◌<◌, List, [], length, refl, ap, sym, subst, arith}
use Rattle.ipam_data.specs.declared.replies.View.{View}
use Rattle.ipam_data.specs.Checks.{first}
use Rattle.ipam_data.specs.State.{State}
use Rattle.ipam_data.specs.declared.imports.ImportRow.{ImportRow}
use Rattle.ipam_data.specs.Imports.{begun, row_verdicts}
use Rattle.register_plans.specs.RecordsLeft.{IsLeft}
use Rattle.register_tables.specs.Held.{state_of}
use Rattle.register_plans.specs.declared.imports.halt.Halt.{Halt}
use Rattle.register_plans.specs.declared.imports.ready.Ready.{Ready}
use Rattle.register_plans.specs.ImportHalts.{IsHaltBy, halt_at}
use Rattle.register_plans.specs.ReadyRows.{ready_rows, keys_of, record_keys}
use Rattle.register_plans.proofs.ImportLoops.{HasComeTo, come_none, come_halt}
use Rattle.register_plans.proofs.ImportRows.{row_at, row_any, row_told, row_kind, next}
use Rattle.register_plans.proofs.TakenBack.{ahead_none}
use Rattle.register_plans.proofs.LookedUp.{all_readied}
use Rattle.register_plans.specs.KeptDrafts.{IsReadied}
use Rattle.std.specs.List.{AllByRecursion}
use Rattle.register_plans.proofs.imports.made.make_all.Goals as goal

pub loop-row-init : goal.loop-row-init
loop-row-init c =
    let old : State = state_of c.args.row_tables.now in
    let lines : List ImportRow = c.args.lines.now in
    let are : c.deref.result.now ≡ ready_rows old c.args.kind lines = c.deref.ensures.value ∙ c.in_ok-rows.ensures in
    record {
      come =
          subst (λ (views : List View). HasComeTo old c.args.kind lines 0 old views c.in_ok-left.left) (sym c.new-made.ensures.items)
          (come_none old c.args.kind lines c.in_ok-left.left (subst (λ (rows : List Ready). IsLeft c.in_ok-left.left (keys_of rows) (record_keys old c.args.kind) []) are c.in_ok-left.ensures));
      lawful = c.requires.lawful;
      ahead = ahead_none old c.args.kind;
      number = refl;
    }

pub leftovers-requires-clause-ready : goal.leftovers-requires-clause-ready
leftovers-requires-clause-ready c =
    let old : State = state_of c.args.row_tables.now in
    let lines : List ImportRow = c.args.lines.now in
    let are : c.deref.result.now ≡ ready_rows old c.args.kind lines = c.deref.ensures.value ∙ c.in_ok-rows.ensures in
    subst (λ (rows : List Ready). AllByRecursion (IsReadied c.args.kind) rows) (sym are) (all_readied old c.requires.lawful c.args.kind lines c.bounds_of.ensures)

pub take_row-requires-clause-told : goal.take_row-requires-clause-told
take_row-requires-clause-told c = λ f.
    let old : State = state_of c.args.row_tables.now in
    let lines : List ImportRow = c.args.lines.now in
    let i : ℕ = c.loop-row.row-index in
    let rows : List Ready = c.deref-row-items.result.now in
    let are : rows ≡ ready_rows old c.args.kind lines = c.deref-row-items.ensures.value ∙ c.in_ok-rows.ensures in
    let low : i < length rows = omega arith in
    row_told old c.args.kind lines i c.row-item.result (row_at old c.args.kind lines rows i c.row-item.result are low c.row-item.is c.bounds_of.ensures) f

pub loop-row-preserved : goal.loop-row-preserved
loop-row-preserved c =
    let old : State = state_of c.args.row_tables.now in
    let lines : List ImportRow = c.args.lines.now in
    let i : ℕ = c.loop-row.row-index in
    let rows : List Ready = c.deref-row-items.result.now in
    let are : rows ≡ ready_rows old c.args.kind lines = c.deref-row-items.ensures.value ∙ c.in_ok-rows.ensures in
    let low : i < length rows = omega arith in
    let h = c.loop-row.invariant.come in
    let any = row_any old c.args.kind lines rows i c.row-item.result are low c.row-item.is in
    let at = row_at old c.args.kind lines rows i c.row-item.result are low c.row-item.is c.bounds_of.ensures in
    let number = c.loop-row.invariant.number in
    record {
      come =
          next old c.args.kind lines i (state_of c.loop-row.row_tables) c.loop-row.made.items c.loop-row.left c.requires.lawful h c.row-item.result at
          (state_of c.take_row.new.row_tables) c.take_row.new.made.items c.take_row.new.left
          (c.in-Ok.ensures.step (keys_of (ready_rows old c.args.kind lines)) (record_keys old c.args.kind) h.spent h.is_left any)
          (c.in-Ok.ensures.left (keys_of (ready_rows old c.args.kind lines)) (record_keys old c.args.kind) h.spent h.is_left);
      lawful = c.in-Ok.ensures.lawful;
      ahead = c.in-Ok.ensures.ahead old c.args.kind (row_kind old c.args.kind lines i c.row-item.result at) c.loop-row.invariant.ahead;
      number = omega arith;
    }

pub returns-in-Err-clause-halted : goal.returns-in-Err-clause-halted
returns-in-Err-clause-halted c =
    let old : State = state_of c.args.row_tables.now in
    let lines : List ImportRow = c.args.lines.now in
    let i : ℕ = c.loop-row.row-index in
    let rows : List Ready = c.deref-row-items.result.now in
    let are : rows ≡ ready_rows old c.args.kind lines = c.deref-row-items.ensures.value ∙ c.in_ok-rows.ensures in
    let low : i < length rows = omega arith in
    let h = c.loop-row.invariant.come in
    let any = row_any old c.args.kind lines rows i c.row-item.result are low c.row-item.is in
    let at = row_at old c.args.kind lines rows i c.row-item.result are low c.row-item.is c.bounds_of.ensures in
    let number : i + 1 ≡ c.loop-row.n + 1 = (let k = c.loop-row.invariant.number in omega arith) in
    subst (λ (halt : Halt). IsHaltBy (first (row_verdicts old c.args.kind (begun old) 1 lines)) halt)
    (ap (λ (n : ℕ). halt_at n c.in-Err.halt) number ∙ sym c.stopped_at.ensures)
    (come_halt old c.args.kind lines i (state_of c.loop-row.row_tables) c.loop-row.made.items c.loop-row.left c.requires.lawful h c.row-item.result at
    c.in-Err.halt (state_of c.take_row.new.row_tables) c.take_row.new.made.items
    (c.in-Err.ensures.step (keys_of (ready_rows old c.args.kind lines)) (record_keys old c.args.kind) h.spent h.is_left any))

pub returns-in-Err-clause-ahead : goal.returns-in-Err-clause-ahead
returns-in-Err-clause-ahead c =
    let old : State = state_of c.args.row_tables.now in
    let lines : List ImportRow = c.args.lines.now in
    let i : ℕ = c.loop-row.row-index in
    let rows : List Ready = c.deref-row-items.result.now in
    let are : rows ≡ ready_rows old c.args.kind lines = c.deref-row-items.ensures.value ∙ c.in_ok-rows.ensures in
    let low : i < length rows = omega arith in
    let at = row_at old c.args.kind lines rows i c.row-item.result are low c.row-item.is c.bounds_of.ensures in
    c.in-Err.ensures.ahead old c.args.kind (row_kind old c.args.kind lines i c.row-item.result at) c.loop-row.invariant.ahead

pub returns-in_err-rows-clause-ahead : goal.returns-in_err-rows-clause-ahead
returns-in_err-rows-clause-ahead c = ahead_none (state_of c.args.row_tables.now) c.args.kind

pub returns-in_err-left-clause-ahead : goal.returns-in_err-left-clause-ahead
returns-in_err-left-clause-ahead c = ahead_none (state_of c.args.row_tables.now) c.args.kind
