use Rattle.std.proofs.Common.{◌∙◌}
use Rattle.inet_num.proofs.Values.{quad_value}
use Rattle.inet_num.proofs.text.read_quad.Goals as goal

pub returns-in-Ok-clause-some : goal.returns-in-Ok-clause-some
returns-in-Ok-clause-some c = (c.in-Ok.addr.octets, c.in-Ok.ensures, c.to_bits.ensures ∙ quad_value _ _ c.in-Ok.ensures)

pub returns-in-Err-clause-none : goal.returns-in-Err-clause-none
returns-in-Err-clause-none c = λ n h. c.in-Err.ensures (record { octets = h.0 }) h.1
