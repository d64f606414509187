use Rattle.program_entry.proofs.Ending.{ended, run_ended}
use Rattle.pool_command.specs.Program.{RunsUsing}
use Rattle.pool_command.specs.Runs.{IsUsage}
use Rattle.pool_command.proofs.entry.program.Goals as goal

pub returns-in-Ok-words : goal.returns-in-Ok-words
returns-in-Ok-words g c =
    let items = c.deref-in-Ok-words.ensures.value in
    let words = c.in-Ok-words.ensures.words in
    run_ended RunsUsing IsUsage c.args.given c.in-Ok.args c.deref.result.now _ c.standard.result _ _ _ _ c.in-Ok.ensures.words c.deref.ensures.value (cc) c.standard.ensures c.run_words.ensures

pub returns : goal.returns
returns g c = ended RunsUsing IsUsage c.args.given c.in-Ok.args c.deref.result.now _ _ _ c.in-Ok.ensures.words c.deref.ensures.value (c.in-Err-words.ensures.ended _)
