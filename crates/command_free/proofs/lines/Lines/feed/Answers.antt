use Rattle.std.proofs.Common.{List, ℕ, refl, sym, ◌∙◌, ap, subst}
use Rattle.std.specs.Str.Lines.{strip_carriage_return}
use Rattle.command_free.specs.Reading.{IsEnded}
use Rattle.command_free.proofs.Readings.{ended_of_kept, feed_refused, feed_read}
use Rattle.command_free.proofs.lines.Lines.feed.Goals as goal

pub returns-in-Err : goal.returns-in-Err
returns-in-Err c = λ bytes h.
    let shown = c.without_return-line.ensures ∙ ap strip_carriage_return c.as_slice.ensures.value in
    let whole = subst (λ (k : List ℕ). IsEnded (strip_carriage_return h.next) k c.args.self.now.long) (sym shown) (ended_of_kept h.next c.args.self.now.line.items c.args.self.now.long h.kept) in
    feed_refused c.args.within.now bytes c.args.self.now h c.saturating_add-number.result c.in-Err.fault c.saturating_add-number.ensures (c.in-Err.ensures (strip_carriage_return h.next) whole)

pub returns : goal.returns
returns c = λ bytes h.
    let shown = c.without_return-line.ensures ∙ ap strip_carriage_return c.as_slice.ensures.value in
    let whole = subst (λ (k : List ℕ). IsEnded (strip_carriage_return h.next) k c.args.self.now.long) (sym shown) (ended_of_kept h.next c.args.self.now.line.items c.args.self.now.long h.kept) in
    let read = c.in-Ok.ensures (strip_carriage_return h.next) whole in
    feed_read c.args.within.now bytes c.args.self.now _ h c.saturating_add-number.result c.in-Ok.found c.saturating_add-number.ensures read.0 read.1 c.in_ok-keep.ensures refl c.clear.ensures refl
