use Rattle.std.proofs.Common.{◌≡◌, refl, sym, ◌∙◌, inl, inr, subst, arith}
use Rattle.std.proofs.Math.Logic.{⊎_map}
use Rattle.ipam_edge.proofs.FaultLemmas.{unless}
use Rattle.http_session.specs.declared.session.SessionEnd.TheVariants.{Memory}
use Rattle.machine_session.specs.Protocols.{protocol}
use Rattle.command_streams.specs.Streams.{streams, told}
use Rattle.machine_command.specs.Openers.{opener_meaning}
use Rattle.machine_command.specs.Outside.{IsRaised, outside, stores}
use Rattle.machine_command.specs.Session.{HasFailedCall, Serves}
use Rattle.machine_command.proofs.Bounded.{bounded, ends_in_memory, none_failed, none_told, not_below, stayed_or_told, stays}
use Rattle.machine_command.proofs.session.run_session.Goals as goal

pub returns-in-Ok-clause-session : goal.returns-in-Ok-clause-session
returns-in-Ok-clause-session g c =
    let P = protocol g.M.Machine.step g.M.Machine.answer g.M.Machine.kind g.M.Machine.fallible g.V.Service.asks g.V.Service.tells g.V.Service.refuses g.V.Service.misread in
    let O = g.O.MachineOpener in
    let U = opener_meaning O.loads O.holds O.refuses O.says in
    let s = c.serve_own-machine.ensures.session in
    let own = c.serve_own-machine.ensures in
    let e = c.in-Ok.ensures in
    let m = c.serve_own-machine.result.0 in
    let end = c.serve_own-machine.result.2 in
    let asked = O.asked c.args.opener.now in
    let errors = told g.Se.Sink.written g.Se.Sink.faults c.args.errors.now in
    let old = outside (streams (told g.So.Source.left g.So.Source.faults c.args.input.now) (told g.Si.Sink.written g.Si.Sink.faults c.args.output.now) errors) (stores O.stored O.faults c.args.opener.now) in
    let new = outside (streams (told g.So.Source.left g.So.Source.faults c.serve_own-machine.new.source) (told g.Si.Sink.written g.Si.Sink.faults c.serve_own-machine.new.sink) errors) (stores O.stored O.faults c.done.new.self) in
    let counted : IsRaised (O.faults c.args.opener.now) (g.M.Machine.faults m) (O.faults c.done.new.self) = subst (λ n. IsRaised n (g.M.Machine.faults m) (O.faults c.done.new.self)) e.kept c.done.ensures.raised in
    let still : s.told ≡ 0 → O.faults c.done.new.self ≡ O.faults c.args.opener.now = λ none. stays _ _ _ counted (s.still none ∙ e.fresh.1) in
    let serves : Serves P U asked old new end = record {
      first = _;
      last = _;
      loaded = e.loads;
      fresh = e.fresh;
      bytes = s.session.bytes;
      grown = s.session.grown;
      needed = s.session.needed;
      told = s.told;
      ends = s.session.ends;
      counted = counted;
      bounded = bounded s.told _ _ _ _ e.fresh.1 s.bounded counted;
      still = still;
      certain = λ none.
          let zero : g.M.Machine.faults m ≡ 0 = none_failed _ _ _ counted none in
          s.certain (none_told s.told _ _ e.fresh.1 s.bounded zero);
      holds = subst (λ x. O.holds asked (O.stored c.args.opener.now) (O.stored c.done.new.self) x) own.state
          (subst (λ q. O.holds q (O.stored c.args.opener.now) (O.stored c.done.new.self) (g.M.Machine.state m)) e.asked (c.done.ensures.held _ e.lent));
      silent = refl;
    } in
    record {
      run = inl (
        end,
        serves,
        record { source = own.source; source_kept = own.source_kept; sink = own.sink; sink_kept = own.sink_kept },
        c.status_of.ensures,
      );
      later = record {
        streams = record { input = own.source_later; output = own.sink_later; errors = omega arith };
        stores = not_below _ _ _ counted;
      };
      quiet = λ five.
          let memory : end ≡ Memory = ends_in_memory end (sym c.status_of.ensures ∙ five) in (
            record {
              input = unless (λ k. absurd (cc (sym memory ∙ k))) own.source_kept;
              output = unless (λ k. absurd (cc (sym memory ∙ k))) own.sink_kept;
              errors = refl;
            },
            ⊎_map (λ same. same) (λ some. subst (λ how. HasFailedCall P U asked old new how) memory (record { serves = serves; failed = some })) (stayed_or_told s.told _ _ still),
          );
    }

pub returns-in-Err-clause-session : goal.returns-in-Err-clause-session
returns-in-Err-clause-session g c =
    let e = c.in-Err.ensures in
    let say = c.say.ensures in
    record {
      run = inr (record { fault = c.in-Err.fault; refused = e.err; said = say.said; input = refl; output = refl });
      later = record { streams = record { input = omega arith; output = omega arith; errors = say.later }; stores = e.later };
      quiet = λ five.
          let none = say.quiet five in
          (record { input = refl; output = refl; errors = none.1 }, inl (unless none.0 e.cause));
    }
