use Rattle.std.proofs.Common.{◌≡◌, refl, arith, subst, Err}
use Rattle.ipam_edge.proofs.FaultLemmas.{unless}
use Rattle.command_streams.specs.Streams.{told}
use Rattle.command_free.specs.declared.free.Stop.{Stop}
use Rattle.command_free.specs.declared.free.Stop.TheVariants.{Line}
use Rattle.command_free.specs.Run.{IsFreeEnd}
use Rattle.command_free.proofs.Runs.{free_done, free_refused}
use Rattle.command_free.proofs.free.run_free.Goals as goal

pub returns-in-Ok : goal.returns-in-Ok
returns-in-Ok g c = free_done _ _ _ c.in-Ok.ensures.end refl
    (record { input = c.in-Ok.ensures.input_later; output = c.in-Ok.ensures.output_later; errors = omega arith })

pub returns-in-Err-Line : goal.returns-in-Err-Line
returns-in-Err-Line g c =
    let line : c.in-Err-Line.field-0 ≡ Line c.in-Err-Line.number c.in-Err-Line.fault = c.in-Err-Line.field-0-is in
    let end = subst (λ (s : Stop). IsFreeEnd c.args.within.now (told g.So.Source.left g.So.Source.faults c.args.input.now) (told g.So.Source.left g.So.Source.faults c.free.new.input)
    (told g.Si.Sink.written g.Si.Sink.faults c.args.output.now) (told g.Si.Sink.written g.Si.Sink.faults c.free.new.output) (Err s)) line c.in-Err-Line.ensures.end in
    free_refused _ c.in-Err-Line.number c.in-Err-Line.fault _ _ _ end.0 end.1 (unless (λ e. cc (e, line)) c.in-Err-Line.ensures.input_kept) c.name_line.ensures.named
    (record { input = c.in-Err-Line.ensures.input_later; output = c.in-Err-Line.ensures.output_later; errors = c.name_line.ensures.later })
