use Rattle.std.proofs.Common.{Some, refl, ap, sym, ◌∙◌, arith, rules}
use Rattle.ipam_keeper.proofs.FaultLemmas.{raised_by_none}
use Rattle.command_store.proofs.Refused.{back_after, quiet_refused, raised_later}
use Rattle.command_files.proofs.Exports.{of_printed, of_refused, not_want}
use Rattle.command_files.proofs.Reports.{of_printing, of_stop, quiet_stop}
use Rattle.command_files.proofs.report.run_report.Goals as goal

pub returns-in-Ok-text : goal.returns-in-Ok-text
returns-in-Ok-text g c = λ input.
    of_printing _ _ _ _ _ (λ five. absurd (not_want _ _ _ _ c.end_with.ensures.ends five)) (of_printed _ _ _ _ _ (λ five. absurd (not_want _ _ _ _ c.end_with.ensures.ends five)) c.as_slice.result.now
    (c.in-Ok.register.state, c.in-Ok.ensures.state, c.in-Ok-text.ensures.ok ∙ ap Some (sym c.as_slice.ensures.value)) c.end_with.ensures.ends
    (record { input = refl; errors = refl; stored = back_after _ _ _ _ _ _ _ c.in-Ok.ensures.lent c.in-Ok.ensures.stays (search rules) c.in-Ok.ensures.told c.done.ensures.returned })
    (record {
      streams = record { input = omega arith; output = c.end_with.ensures.later; errors = omega arith };
      stores = raised_later _ _ _ _ c.open_store.ensures.later c.done.ensures.raised;
    }))

pub returns-in-Err-text : goal.returns-in-Err-text
returns-in-Err-text g c = λ input.
    let back = raised_by_none _ _ _ (ap g.O.Kept.Keeper.faults c.into_keeper.ensures ∙ c.report_text-text.ensures.still ∙ c.in-Ok.ensures.fresh) c.done.ensures.raised ∙ c.in-Ok.ensures.still in
    of_stop _ _ _ _ _ (λ five. quiet_stop _ _ c.in-Err-text.stop c.say_stop.result c.say_stop.ensures.said refl refl back five) c.in-Err-text.stop c.in-Ok.register.state c.in-Ok.ensures.state c.in-Err-text.ensures.stop c.say_stop.ensures.said
    (record { input = refl; output = refl; stored = back_after _ _ _ _ _ _ _ c.in-Ok.ensures.lent c.in-Ok.ensures.stays (search rules) c.in-Ok.ensures.told c.done.ensures.returned })
    (record {
      streams = record { input = omega arith; output = omega arith; errors = c.say_stop.ensures.later };
      stores = raised_later _ _ _ _ c.open_store.ensures.later c.done.ensures.raised;
    })

pub returns-in-Err : goal.returns-in-Err
returns-in-Err g c = λ input.
    of_printing _ _ _ _ _ (λ five. quiet_refused _ _ c.in-Err.fault c.say_fault.result c.in-Err.ensures.err_still c.say_fault.ensures.said refl refl five)
    (of_refused _ _ _ _ _ (λ five. quiet_refused _ _ c.in-Err.fault c.say_fault.result c.in-Err.ensures.err_still c.say_fault.ensures.said refl refl five) c.in-Err.fault (record { tables = c.in-Err.ensures.fault; failed = c.in-Err.ensures.cause }) c.say_fault.ensures.said
    (record { input = refl; output = refl; stored = c.in-Err.ensures.same })
    (record { streams = record { input = omega arith; output = omega arith; errors = c.say_fault.ensures.later }; stores = c.open_store.ensures.later }))
