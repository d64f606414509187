use Rattle.std.proofs.Common.{List, ℕ, sym, ◌∙◌, subst}
use Rattle.command_free.specs.Reading.{IsEnded}
use Rattle.command_free.proofs.Readings.{last_of_kept, next_none, next_some, last_refused, last_read, none_left}
use Rattle.command_free.proofs.lines.Lines.finish.Goals as goal

pub returns-then-is_empty : goal.returns-then-is_empty
returns-then-is_empty c = λ bytes h.
    none_left c.args.within.now bytes c.args.self h (next_none h.next c.args.self.line.items c.args.self.long h.kept (sym c.is_empty.ensures ∙ c.if-is_empty.true))

pub returns-in-Err : goal.returns-in-Err
returns-in-Err c = λ bytes h.
    let some = next_some h.next c.args.self.line.items c.args.self.long h.kept (sym c.is_empty.ensures ∙ c.if-is_empty.false) in
    let whole = subst (λ (k : List ℕ). IsEnded h.next k c.args.self.long) (sym c.as_slice.ensures.value) (last_of_kept h.next c.args.self.line.items c.args.self.long h.kept) in
    last_refused c.args.within.now bytes c.args.self h c.saturating_add-number.result c.in-Err.fault c.saturating_add-number.ensures some (c.in-Err.ensures h.next whole)

pub returns : goal.returns
returns c = λ bytes h.
    let some = next_some h.next c.args.self.line.items c.args.self.long h.kept (sym c.is_empty.ensures ∙ c.if-is_empty.false) in
    let whole = subst (λ (k : List ℕ). IsEnded h.next k c.args.self.long) (sym c.as_slice.ensures.value) (last_of_kept h.next c.args.self.line.items c.args.self.long h.kept) in
    let read = c.in-Ok.ensures h.next whole in
    last_read c.args.within.now bytes c.args.self h c.saturating_add-number.result c.in-Ok.found _ c.saturating_add-number.ensures read.0 some read.1 c.in_ok-keep.ensures
