use Rattle.std.proofs.Common.{List, refl, subst, arith}
use Rattle.std.proofs.Math.Logic.{⊎_map}
use Rattle.ipam_edge.proofs.FaultLemmas.{unless}
use Rattle.reverse_zone.specs.declared.record.Pair.{Pair}
use Rattle.command_streams.specs.Streams.{told}
use Rattle.command_zones.specs.Pairs.{IsPairsSaid}
use Rattle.command_zones.proofs.PairRuns.{of_pairs, of_stop, quiet_pairs, quiet_stop}
use Rattle.command_zones.proofs.pairs.run_reverse_read.Goals as goal

pub returns-in-Ok : goal.returns-in-Ok
returns-in-Ok g c =
    of_pairs _ _ c.print_pairs.result
    (record { input = c.read_pairs.ensures.later; output = c.print_pairs.ensures.later; errors = omega arith })
    (λ five. quiet_pairs _ _ _ _ (unless (λ k. cc k) c.in-Ok.ensures.kept) c.print_pairs.ensures.said refl five)
    c.in-Ok.pairs.items c.in-Ok.ensures.pairs
    (subst (λ (ps : List Pair). IsPairsSaid ps (told g.Si.Sink.written g.Si.Sink.faults c.args.output.now)
    (told g.Si.Sink.written g.Si.Sink.faults c.print_pairs.new.output) c.print_pairs.result)
    c.as_slice.ensures.value c.print_pairs.ensures.said)
    refl

pub returns-in-Err : goal.returns-in-Err
returns-in-Err g c =
    of_stop _ _ c.say_stop.result
    (record { input = c.read_pairs.ensures.later; output = omega arith; errors = c.say_stop.ensures.later })
    (λ five. quiet_stop _ _ _ c.in-Err.stop (⊎_map (λ k. cc k) (λ same. same) c.in-Err.ensures.kept) c.say_stop.ensures.said refl five)
    c.in-Err.stop c.in-Err.ensures.stop c.say_stop.ensures.said refl
