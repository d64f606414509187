-- The answers of any machine are listed.
use Rattle.machine_session.specs.Protocols.{Protocol}
use Rattle.machine_answers.specs.Laws.{AnswersAreListed}
use Rattle.machine_answers.proofs.Alone.{alone}
use Rattle.machine_answers.proofs.Entries.{entries}
use Rattle.machine_answers.proofs.Flat.{served}

pub listed : {S C A R W E : Type 0} (P : Protocol S C A R W E) → AnswersAreListed P
listed P = record { served = served P; alone = alone P; entries = entries P }
