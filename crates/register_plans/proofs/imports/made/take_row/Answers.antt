use Rattle.std.proofs.Common.{◌≡◌, ◌∙◌, ℕ, Bool, true, false, not, nat_lt, List, [], ◌∷◌, ◌++◌, count_by, sym, ap}
use Rattle.std.specs.Prelude.{bytes_eq}
use Rattle.std.specs.List.{list_any}
use Rattle.ipam_data.specs.declared.replies.View.{View}
use Rattle.register_plans.specs.declared.imports.leftovers.Leftovers.{Leftovers}
use Rattle.register_plans.specs.RecordsLeft.{IsLeft}
use Rattle.register_tables.specs.Held.{state_of}
use Rattle.register_plans.proofs.ImportSteps.{taken_made, taken_halt}
use Rattle.register_plans.proofs.TakenBack.{ahead_made}
use Rattle.register_plans.proofs.imports.made.take_row.Goals as goal

-- no record was left, so the row makes one
none_left : (before : Leftovers) (key : List ℕ) (keys records spent : List (List ℕ)) (there : Bool) → there ≡ false
    → ((keys records spent : List (List ℕ)) → IsLeft before keys records spent → list_any (bytes_eq key) keys ≡ true → there ≡ nat_lt (count_by (bytes_eq key) spent) (count_by (bytes_eq key) records))
    → IsLeft before keys records spent → list_any (bytes_eq key) keys ≡ true → not (nat_lt (count_by (bytes_eq key) spent) (count_by (bytes_eq key) records)) ≡ true
none_left before key keys records spent there f found left any = ap not (sym (found keys records spent left any) ∙ f)

pub returns-in-Err-clause-step : goal.returns-in-Err-clause-step
returns-in-Err-clause-step c = λ keys records spent left any.
    taken_halt (not (nat_lt (count_by (bytes_eq c.args.row.now.key) spent) (count_by (bytes_eq c.args.row.now.key) records))) c.args.row.now
    (state_of c.args.row_tables.now) (state_of c.make.new.row_tables) c.args.made.now.items c.args.made.now.items c.in-Err.halt
    (none_left c.args.left.now c.args.row.now.key keys records spent c.stands.result c.if-stands.false c.stands.ensures.found left any)
    c.in_default.is c.in-Err.ensures.err

pub returns-clause-step : goal.returns-clause-step
returns-clause-step c = λ keys records spent left any.
    taken_made (not (nat_lt (count_by (bytes_eq c.args.row.now.key) spent) (count_by (bytes_eq c.args.row.now.key) records))) c.args.row.now
    (state_of c.args.row_tables.now) (state_of c.make.new.row_tables) c.args.made.now.items c.keep.new.made.items
    (none_left c.args.left.now c.args.row.now.key keys records spent c.stands.result c.if-stands.false c.stands.ensures.found left any)
    c.in_default.is c.in-Ok.ensures.free c.in-Ok.ensures.state
    (c.in_ok-keep.ensures ∙ ap (λ (v : View). c.args.made.now.items ++ v ∷ []) c.in-Ok.ensures.made)

pub returns-clause-ahead : goal.returns-clause-ahead
returns-clause-ahead c = λ base kind is h.
    ahead_made base (state_of c.args.row_tables.now) (state_of c.make.new.row_tables) kind c.args.row.now.draft c.make.result (is c.in_default.is) c.requires.lawful c.make.ensures.state c.make.ensures.stays h

pub returns-in_err-keep-clause-ahead : goal.returns-in_err-keep-clause-ahead
returns-in_err-keep-clause-ahead c = λ base kind is h.
    ahead_made base (state_of c.args.row_tables.now) (state_of c.make.new.row_tables) kind c.args.row.now.draft c.make.result (is c.in_default.is) c.requires.lawful c.make.ensures.state c.make.ensures.stays h

pub returns-in-Err-clause-ahead : goal.returns-in-Err-clause-ahead
returns-in-Err-clause-ahead c = λ base kind is h.
    ahead_made base (state_of c.args.row_tables.now) (state_of c.make.new.row_tables) kind c.args.row.now.draft c.make.result (is c.in_default.is) c.requires.lawful c.make.ensures.state c.make.ensures.stays h
