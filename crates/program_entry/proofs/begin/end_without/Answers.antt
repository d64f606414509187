use Rattle.std.proofs.Common.{sym, subst}
use Rattle.std.specs.Process.{exit_status}
use Rattle.command_streams.specs.declared.arguments.NoArguments.{NoArguments}
use Rattle.program_entry.specs.Ending.{EndsWithout}
use Rattle.program_entry.proofs.Ending.{says_no_text}
use Rattle.program_entry.proofs.begin.end_without.Goals as goal

pub returns-in-NoText : goal.returns-in-NoText
returns-in-NoText g c =
    subst (λ (w : NoArguments). EndsWithout g.P.Program.says_usage w (exit_status c.from.result)) (sym c.in-NoText.is)
    (says_no_text g.P.Program.says_usage _ _ _ c.say_usage.result c.standard_error.ensures.written c.standard_error.ensures.faults c.from.ensures c.say_usage.ensures.usage)
