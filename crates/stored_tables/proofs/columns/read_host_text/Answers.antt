use Rattle.std.proofs.Common.{◌∙◌}
use Rattle.stored_tables.proofs.HostTexts.{no_faulty_host}
use Rattle.stored_tables.proofs.columns.read_host_text.Goals as goal

pub returns-in-Err : goal.returns-in-Err
returns-in-Err c = λ h m e. no_faulty_host c.args.text.now c.as_bytes.result.now c.in-Err.field-0 h (c.as_bytes.ensures.value ∙ c.as_str.ensures) c.in-Err.ensures.fault m e
