use Rattle.std.proofs.Common.{◌≡◌, Ok, arith}
use Rattle.std.proofs.lemmas.Fmt.{parse-decimal}
use Rattle.word_values.proofs.values.number_read.Goals as goal

pub returns-in-Ok : goal.returns-in-Ok
returns-in-Ok c = λ id fits e.
    let parsed : c.parse.result ≡ Ok id = parse-decimal 32 id c.args.text.now c.parse.result fits (omega arith) e c.parse.ensures.value.0 in cc

pub returns-in-Err : goal.returns-in-Err
returns-in-Err c = λ id fits e.
    let parsed : c.parse.result ≡ Ok id = parse-decimal 32 id c.args.text.now c.parse.result fits (omega arith) e c.parse.ensures.value.0 in cc
