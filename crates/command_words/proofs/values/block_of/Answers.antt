use Rattle.std.proofs.Common.{◌≡◌, ℕ, List, ap, sym, subst, arith}
use Rattle.inet_num.specs.Net.{Cidr}
use Rattle.inet_num.specs.Text.{IsBlockText}
use Rattle.inet_num.proofs.Readings.{reading_is_one}
use Rattle.command_words.proofs.values.block_of.Goals.{in_default-via-in-Ok+else-len-gt0, in_default-via-in_default}
use Rattle.command_words.proofs.values.block_of.Goals as goal

pub returns-in_default : goal.returns-in_default
returns-in_default c = λ within asks.
    let block : IsBlockText c.as_bytes.result.now within = subst (λ (t : List ℕ). IsBlockText t within) (sym c.as_bytes.ensures.value) asks.0 in
    let long = asks.1 in
    elim c.in_default.branch [
      | in_default-via-in-Ok+else-len-gt0 w ↦
          let same : w.in-Ok.block ≡ within = reading_is_one.blocks c.as_bytes.result.now w.in-Ok.block within w.in-Ok.ensures.ok block in
          let len : w.in-Ok.block.len ≡ within.len = ap (λ (b : Cidr). b.len) same in
          let zero = w.if-len-gt0.false in
          let is = w.len.ensures.len in
          absurd (omega arith)
      | in_default-via-in_default w ↦ absurd (reading_is_one.apart c.as_bytes.result.now within w.in_default.field-0 block w.in_default.ensures.fault)
    ]
