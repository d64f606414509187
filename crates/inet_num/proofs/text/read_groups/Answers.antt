use Rattle.std.proofs.Common.{◌∙◌}
use Rattle.inet_num.proofs.Values.{groups_value, eight_in_text}
use Rattle.inet_num.proofs.text.read_groups.Goals as goal

pub returns-in-Ok-clause-some : goal.returns-in-Ok-clause-some
returns-in-Ok-clause-some c = (c.in-Ok.addr.segments, c.in-Ok.ensures, c.to_bits.ensures ∙ groups_value c.in-Ok.addr (eight_in_text _ _ c.in-Ok.ensures))

pub returns-in-Err-clause-none : goal.returns-in-Err-clause-none
returns-in-Err-clause-none c = λ n h. c.in-Err.ensures (record { segments = h.0 }) h.1
