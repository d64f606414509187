use Rattle.std.proofs.Common.{rules, ◌≡◌, ◌+◌, List, [], ◌∷◌, ◌++◌, length, true, ap, sym, ◌∙◌, refl, arith, length-append, drop}
use Rattle.ipam_data.specs.declared.update.Update.{Update}
use Rattle.left_right.specs.Sides.{view}
use Rattle.snapshot_reads.specs.declared.copies.Entry.{Entry}
use Rattle.snapshot_reads.specs.History.{head_of}
use Rattle.snapshot_reads.specs.Published.{lists, after}
use Rattle.snapshot_reads.specs.Seen.{opening_of}
use Rattle.snapshot_reads.proofs.Keeps.{shows}
use Rattle.snapshot_reads.proofs.Reading.{shown_one, match_ok, match_err}
use Rattle.snapshot_reads.proofs.feed.Feed.publish_one.Goals as goal

pub publish_as-writer-requires : goal.publish_as-writer-requires
publish_as-writer-requires g c = λ next is.
    let was = c.self.inside.writer in
    let live : c.self.inside.live ≡ true = ap (λ f. f.live) c.self.view_is ∙ c.requires.live in
    let none : drop was.behind was.log.items ≡ [] = c.self.invariant.2 live in
    let entry : Entry Update = record { change = c.args.change; seen = c.extend-added.new.seen } in
    let pending = c.in_default.ensures.pending ∙ ap (λ (l : List (Entry Update)). l ++ entry ∷ []) none in
    let same = shown_one _ _ _ _ entry pending is in
    let desk = c.append.ensures.desk in
    let copied : c.again-seen.result ≡ c.append.new.self.desk.shown.value.seen = search rules in
    let k = c.self.invariant.0 in
    shows lists after _ _ c.append.new.self.desk.shown.value next c.args.change (ap (λ h. h.lists) same) (ap (λ h. h.count) same)
    (ap (λ h. h.seen.book) same ∙ (c.extend-added.ensures.book ∙ ap (λ s. s.book) copied))
    (ap (λ h. h.seen.log) same ∙ (c.extend-added.ensures.added c.if-not-added.false ∙ ap (λ s. s.log ++ c.args.change ∷ []) copied))
    k.0 (ap (λ d. view d.place) desk ∙ k.1)

pub invariant_of-result : goal.invariant_of-result
invariant_of-result g c =
    let was = c.self.inside.writer in
    let live : c.self.inside.live ≡ true = ap (λ f. f.live) c.self.view_is ∙ c.requires.live in
    let none : drop was.behind was.log.items ≡ [] = c.self.invariant.2 live in
    let entry : Entry Update = record { change = c.args.change; seen = c.extend-added.new.seen } in
    let pending = c.in_default.ensures.pending ∙ ap (λ (l : List (Entry Update)). l ++ entry ∷ []) none in
    let values = match_ok _ _ c.publish_as-writer.result.1 _ c.in-Ok.is c.publish_as-writer.ensures.values in
    let rule = match_ok _ _ c.publish_as-writer.result.1 _ c.in-Ok.is c.publish_as-writer.ensures.rule in
    let same = shown_one _ _ _ _ entry pending values.0 in
    let desk = c.append.ensures.desk in
    let copied : c.again-seen.result ≡ was.desk.shown.value.seen = search rules in
    let k = c.self.invariant.0 in
    let book = ap (λ h. h.seen.book) same ∙ (c.extend-added.ensures.book ∙ ap (λ s. s.book) copied) in
    let log = ap (λ h. h.seen.log) same ∙ (c.extend-added.ensures.added c.if-not-added.false ∙ ap (λ s. s.log ++ c.args.change ∷ []) copied) in
    let count : c.publish_as-writer.result.0.desk.shown.value.count ≡ was.desk.shown.value.count + 1 = ap (λ h. h.count) same ∙ ap (λ d. d.shown.value.count + 1) desk in (
      (_, rule k.0 (ap (λ d. view d.place) desk ∙ k.1), refl, omega (arith, count, k.3, ap length log, length-append was.desk.shown.value.seen.log (c.args.change ∷ []))),
      c.self.invariant.1 ∙ ap head_of (sym book),
      λ t. values.1,
    )

pub returns-in-Ok-clause-number : goal.returns-in-Ok-clause-number
returns-in-Ok-clause-number g c =
    let was = c.self.inside.writer in
    let live : c.self.inside.live ≡ true = ap (λ f. f.live) c.self.view_is ∙ c.requires.live in
    let none : drop was.behind was.log.items ≡ [] = c.self.invariant.2 live in
    let entry : Entry Update = record { change = c.args.change; seen = c.extend-added.new.seen } in
    let pending = c.in_default.ensures.pending ∙ ap (λ (l : List (Entry Update)). l ++ entry ∷ []) none in
    let values = match_ok _ _ c.publish_as-writer.result.1 _ c.in-Ok.is c.publish_as-writer.ensures.values in
    let same = shown_one _ _ _ _ entry pending values.0 in
    let copied : c.again-seen.result ≡ was.desk.shown.value.seen = search rules in
    let found : c.published.result.now.count ≡ was.desk.shown.value.count = search rules in
    let k = c.self.invariant.0 in
    let log = ap (λ h. h.seen.log) same ∙ (c.extend-added.ensures.added c.if-not-added.false ∙ ap (λ s. s.log ++ c.args.change ∷ []) copied) in
    omega (arith, found, k.3, ap length log, length-append was.desk.shown.value.seen.log (c.args.change ∷ []))

pub ended-requires-in-Err-shown-clause-writing : goal.ended-requires-in-Err-shown-clause-writing
ended-requires-in-Err-shown-clause-writing g c =
    let values = match_err _ _ c.publish_as-writer.result.1 _ c.in-Err-shown.is c.publish_as-writer.ensures.values in
    let rule = match_err _ _ c.publish_as-writer.result.1 _ c.in-Err-shown.is c.publish_as-writer.ensures.rule in
    let desk = c.append.ensures.desk in
    let k = c.self.invariant.0 in
    let same : c.publish_as-writer.result.0.desk.shown.value ≡ c.self.inside.writer.desk.shown.value = values.0 ∙ ap (λ d. d.shown.value) desk in
    (k.0, rule ∙ (ap (λ d. view d.place) desk ∙ k.1), k.2 ∙ ap (λ t. t.seen) (sym same), ap (λ t. t.count) same ∙ (k.3 ∙ ap (λ t. length t.seen.log) (sym same)))

pub returns-in-Ok-clause-same : goal.returns-in-Ok-clause-same
returns-in-Ok-clause-same g c =
    let was = c.self.inside.writer in
    let live : c.self.inside.live ≡ true = ap (λ f. f.live) c.self.view_is ∙ c.requires.live in
    let none : drop was.behind was.log.items ≡ [] = c.self.invariant.2 live in
    let entry : Entry Update = record { change = c.args.change; seen = c.extend-added.new.seen } in
    let pending = c.in_default.ensures.pending ∙ ap (λ (l : List (Entry Update)). l ++ entry ∷ []) none in
    let values = match_ok _ _ c.publish_as-writer.result.1 _ c.in-Ok.is c.publish_as-writer.ensures.values in
    let rule = match_ok _ _ c.publish_as-writer.result.1 _ c.in-Ok.is c.publish_as-writer.ensures.rule in
    let same = shown_one _ _ _ _ entry pending values.0 in
    let desk = c.append.ensures.desk in
    let copied : c.again-seen.result ≡ was.desk.shown.value.seen = search rules in
    let k = c.self.invariant.0 in
    let book = ap (λ h. h.seen.book) same ∙ (c.extend-added.ensures.book ∙ ap (λ s. s.book) copied) in
    let now = rule k.0 (ap (λ d. view d.place) desk ∙ k.1) in
    (book ∙ ap (λ f. f.book) c.self.view_is, ap opening_of now ∙ (sym (ap opening_of k.1) ∙ ap (λ f. f.opening) c.self.view_is))
