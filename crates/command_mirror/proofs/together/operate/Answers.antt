use Rattle.std.proofs.Common.{rules, refl, ap, sym, subst, ◌∙◌}
use Rattle.command_mirror.proofs.Worked.{some_same}
use Rattle.command_mirror.proofs.together.operate.Goals as goal

pub returns : goal.returns
returns g c =
    record {
      before = c.in-Some.begun;
      after = c.serve_operator-ended.result;
      had = search rules;
      has = search rules;
      session = c.serve_operator-ended.ensures.session;
      kept = c.serve_operator-ended.ensures.kept;
      memory = c.serve_operator-ended.ensures.memory;
      same = c.serve_operator-ended.ensures.same;
      cause = record {
        source_later = c.serve_operator-ended.ensures.source_later;
        source = c.serve_operator-ended.ensures.source;
        source_kept = c.serve_operator-ended.ensures.source_kept;
        sink_later = c.serve_operator-ended.ensures.sink_later;
        sink = c.serve_operator-ended.ensures.sink;
        sink_kept = c.serve_operator-ended.ensures.sink_kept;
      };
    }
