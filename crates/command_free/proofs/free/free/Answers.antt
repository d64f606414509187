use Rattle.std.proofs.Common.{refl, subst, List}
use Rattle.std.specs.Str.Lines.{lines}
use Rattle.inet_num.specs.Net.{Cidr}
use Rattle.ipam_edge.specs.Writing.{AppendsFront}
use Rattle.command_free.specs.Free.{lines_text_of}
use Rattle.command_free.proofs.OneAnswer.{all_inside}
use Rattle.command_free.proofs.Runs.{printed_front}
use Rattle.command_free.proofs.free.free.Goals as goal

pub blocks_left-requires : goal.blocks_left-requires
blocks_left-requires g c = let read = c.in_ok-children.ensures.read in all_inside c.args.within.now (lines read.0) c.in_ok-children.children.items read.3.named

pub returns-clause-end : goal.returns-clause-end
returns-clause-end g c =
    let read = c.in_ok-children.ensures.read in (
      c.in-Err.ensures.cause.failed refl,
      printed_front c.args.within.now _ _ _ _ c.in_ok-children.children.items c.in_ok-blocks.blocks.items read.0 read.1 read.2 read.3 c.in_ok-blocks.ensures
          (subst (λ (bs : List Cidr). AppendsFront (g.Si.Sink.written c.args.output.now) (g.Si.Sink.written c.write_blocks.new.output) (lines_text_of bs)) c.deref.ensures.value c.in-Err.ensures.told),
    )
