use Rattle.std.proofs.Common.{sym, ◌∙◌}
use Rattle.stored_tables.proofs.HostTexts.{no_canonical, no_faulty}
use Rattle.stored_tables.proofs.columns.read_block_text.Goals as goal

pub returns-else-eq : goal.returns-else-eq
returns-else-eq c = λ b h e.
    no_canonical c.args.text.now c.as_bytes.result.now c.as_str-in-Ok-2.result.now c.as_str-in-Ok.result.now c.in-Ok.block b
    (c.as_bytes.ensures.value ∙ c.as_str.ensures) c.as_str-in-Ok-2.ensures c.in-Ok.ensures.ok h e (c.as_str-in-Ok.ensures.value ∙ c.block_text-written.ensures)
    (sym c.eq.ensures ∙ c.if-eq.false)

pub returns-in-Err : goal.returns-in-Err
returns-in-Err c = λ b h e. no_faulty c.args.text.now c.as_bytes.result.now c.in-Err.field-0 b (c.as_bytes.ensures.value ∙ c.as_str.ensures) c.in-Err.ensures.fault h e
