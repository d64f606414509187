use Rattle.std.proofs.Common.{refl, subst, arith}
use Rattle.std.proofs.Math.Logic.{⊎_map}
use Rattle.prefix_list.specs.declared.styles.ListForm.{ListForm}
use Rattle.command_streams.specs.Streams.{EndsWith, told}
use Rattle.command_lists.specs.Reading.{router_text}
use Rattle.command_lists.proofs.Lists.{of_printed, of_stopped}
use Rattle.command_lists.proofs.Stops.{not_want, of_table_stop, quiet_table_stop}
use Rattle.command_lists.proofs.list.run_prefix_list.Goals as goal

pub returns-in-Ok : goal.returns-in-Ok
returns-in-Ok g c = λ input.
    let list = c.in-Ok.ensures.list in
    of_printed c.args.asked.now _ _ _ c.list_of.ensures.same
    (record { streams = record { input = omega arith; output = c.print_list.ensures.later; errors = omega arith }; stores = c.list_of.ensures.later })
    (λ five. absurd (not_want _ _ _ _ c.print_list.ensures.ends five))
    _ (list.state, record { loaded = list.found; there = list.there }, list.of_table)
    (subst (λ (form : ListForm). EndsWith (told g.Si.Sink.written g.Si.Sink.faults c.args.output.now) (told g.Si.Sink.written g.Si.Sink.faults c.print_list.new.output) (router_text form c.in-Ok.list) 0
    c.print_list.result) c.form_named.ensures c.print_list.ensures.ends)
    refl refl

pub returns-in-Err : goal.returns-in-Err
returns-in-Err g c = λ input.
    of_stopped c.args.asked.now _ _ _ c.list_of.ensures.same
    (record { streams = record { input = omega arith; output = omega arith; errors = c.say_table_stop.ensures.later }; stores = c.list_of.ensures.later })
    (λ five. quiet_table_stop _ _ c.in-Err.stop _ (⊎_map (λ k. cc k) (λ same. same) c.in-Err.ensures.still) c.say_table_stop.ensures.said refl refl five)
    (of_table_stop c.args.asked.now _ _ _ c.in-Err.stop c.in-Err.ensures.stop c.say_table_stop.ensures.said (record { input = refl; output = refl; stored = c.list_of.ensures.same }))
    (record { input = refl; output = refl; stored = c.list_of.ensures.same })
