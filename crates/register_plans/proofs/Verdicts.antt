-- What the checks of a call come to, where each of its parts is known.
use Rattle.std.proofs.Common.{◌≡◌, ℕ, ◌+◌, ◌≤◌, List, [], ◌∷◌, ◌++◌, map, length, Option, Some, None, refl, ap, sym, ◌∙◌, subst, Result, Ok, Err, IfOk, append_assoc}
use Rattle.std.specs.declared.alloc.AllocError.{AllocError}
use Rattle.ipam_data.specs.declared.kinds.Kind.{Kind}
use Rattle.ipam_data.specs.declared.replies.Reply.TheVariants.{Gone}
use Rattle.ipam_data.specs.declared.replies.View.{View}
use Rattle.register_tables.specs.declared.planned.Planned.{Planned}
use Rattle.register_tables.specs.declared.planned.Planned.TheVariants.{Refused, Read, Change}
use Rattle.register_tables.specs.Planned.{IsPlanned}
use Rattle.ipam_data.specs.declared.kinds.TheConstants.{LAST_ID}
use Rattle.ipam_data.specs.declared.replies.Rule.{Rule}
use Rattle.ipam_data.specs.declared.replies.Refusal.{Refusal}
use Rattle.ipam_data.specs.declared.replies.Refusal.TheVariants.{Rule as Breaks}
use Rattle.ipam_data.specs.Checks.{first, breaks, no_log}
use Rattle.ipam_data.specs.RowList.{row_at}
use Rattle.ipam_data.specs.State.{State, Plan, verdict_of}
use Rattle.ipam_data.specs.Plans.{KindRules, call_faults, broken, no_seats, creation, create, replace, take_out, delete, change, with_found, nothing_told}
use Rattle.ipam_data.proofs.Verdicts.{none_left, none_right, room_from}
use Rattle.ipam_data.proofs.Kept.{found_there}
use Rattle.register_tables.proofs.Firsts.{head_refuses, head_passes}
use Rattle.register_plans.specs.Broken.{first_broken, own_row}

-- the first rule of a list, as a refusal
first_breaks : (rules : List (Option Rule)) → first (map breaks rules) ≡ breaks (first rules)
first_breaks [] = refl
first_breaks (None ∷ rules) = first_breaks rules
first_breaks (Some rule ∷ rules) = refl

pub one : {A : Type 0} (x : Option A) → first (x ∷ []) ≡ x
one None = refl
one (Some x) = refl

-- of two checks the first that finds something is answered
pub pair_refuses : (x y : Option Rule) (rule : Rule) → x ≡ Some rule → first (x ∷ y ∷ []) ≡ Some rule
pair_refuses (Some r) y rule e = e
pair_refuses None y rule e = cc

pub pair_passes : (x y : Option Rule) → x ≡ None → first (x ∷ y ∷ []) ≡ y
pair_passes None None e = refl
pair_passes None (Some y) e = refl
pair_passes (Some x) y e = cc

module _ {T : Type 0} (rules : KindRules T) (s : State) where
  broken_is : (old : Option T) (row : T) → first (broken rules s old [] row) ≡ breaks (first_broken rules s old row)
  broken_is old row = first_breaks (rules.references s row ++ [] ++ call_faults rules s old row) ∙ ap (λ (xs : List (Option Rule)). breaks (first xs)) (joined (rules.references s row) (call_faults rules s old row))
    where
      joined : (xs ys : List (Option Rule)) → xs ++ [] ++ ys ≡ xs ++ ys
      joined [] ys = refl
      joined (x ∷ xs) ys = ap (λ (zs : List (Option Rule)). x ∷ zs) (joined xs ys)

  -- a row that names one that is not there breaks that rule first, and one that names none the first of the others
  pub names_none : (old : Option T) (row : T) (rule : Rule) → first (rules.references s row) ≡ Some rule → first_broken rules s old row ≡ Some rule
  names_none old row rule e = head_refuses (rules.references s row) (call_faults rules s old row) rule e

  pub names_all : (old : Option T) (row : T) → first (rules.references s row) ≡ None → first_broken rules s old row ≡ first (call_faults rules s old row)
  names_all old row e = head_passes (rules.references s row) (call_faults rules s old row) e

  -- ---- a new row

  pub new_broken : (row : T) (rule : Rule) → first_broken rules s None row ≡ Some rule → verdict_of (create rules s [] row) ≡ Some (Breaks rule)
  new_broken row rule e =
      head_refuses (broken rules s None [] row ++ no_seats rules s 1) (no_log s.spent 1 ∷ []) (Breaks rule)
      (head_refuses (broken rules s None [] row) (no_seats rules s 1) (Breaks rule) (broken_is None row ∙ ap breaks e))

  pub new_unbroken : (row : T) → first_broken rules s None row ≡ None → verdict_of (create rules s [] row) ≡ first (no_seats rules s 1 ++ no_log s.spent 1 ∷ [])
  new_unbroken row e = go (broken rules s None [] row) (broken_is None row ∙ ap breaks e)
    where
      go : (xs : List (Option Refusal)) → first xs ≡ None → first ((xs ++ no_seats rules s 1) ++ no_log s.spent 1 ∷ []) ≡ first (no_seats rules s 1 ++ no_log s.spent 1 ∷ [])
      go [] e = refl
      go (None ∷ xs) e = go xs e
      go (Some x ∷ xs) e = cc

  pub new_full : (row : T) (refusal : Refusal) → first_broken rules s None row ≡ None → first (no_seats rules s 1) ≡ Some refusal → verdict_of (create rules s [] row) ≡ Some refusal
  new_full row refusal e f = new_unbroken row e ∙ head_refuses (no_seats rules s 1) (no_log s.spent 1 ∷ []) refusal f

  pub new_logged : (row : T) (log : Option Refusal) → first_broken rules s None row ≡ None → first (no_seats rules s 1) ≡ None → log ≡ no_log s.spent 1 → log ≡ verdict_of (create rules s [] row)
  new_logged row log e f l =
      l ∙ sym (new_unbroken row e ∙ head_passes (no_seats rules s 1) (no_log s.spent 1 ∷ []) f ∙ one (no_log s.spent 1))

  -- a row that may be made leaves room for another next id
  pub next_fits : (row : T) → verdict_of (create rules s [] row) ≡ None → (rules.row_list s).next + 1 ≤ LAST_ID + 1
  next_fits row v =
      (room_from rules.kind rules.most (length (rules.row_list s).rows) (rules.row_list s).next 1
      (none_right (broken rules s None [] row) (no_seats rules s 1) (none_left (creation rules s [] row) (no_log s.spent 1 ∷ []) v))).ids

  -- ---- a changed row

  pub changed_broken : (old : T) (row : T) (rule : Rule) → first_broken rules s (Some old) row ≡ Some rule → verdict_of (replace rules s old [] row) ≡ Some (Breaks rule)
  changed_broken old row rule e = head_refuses (broken rules s (Some old) [] row) (no_log s.spent 1 ∷ []) (Breaks rule) (broken_is (Some old) row ∙ ap breaks e)

  pub changed_logged : (old : T) (row : T) (log : Option Refusal) → first_broken rules s (Some old) row ≡ None → log ≡ no_log s.spent 1 → log ≡ verdict_of (replace rules s old [] row)
  changed_logged old row log e l =
      l ∙ sym (head_passes (broken rules s (Some old) [] row) (no_log s.spent 1 ∷ []) (broken_is (Some old) row ∙ ap breaks e) ∙ one (no_log s.spent 1))

  -- ---- a row less

  pub out_used : (n : ℕ) (refusal : Refusal) → first (rules.users s n) ≡ Some refusal → verdict_of (take_out rules s n) ≡ Some refusal
  out_used n refusal e = head_refuses (rules.users s n) (no_log s.spent 1 ∷ []) refusal e

  pub out_logged : (n : ℕ) → first (rules.users s n) ≡ None → verdict_of (take_out rules s n) ≡ no_log s.spent 1
  out_logged n e = head_passes (rules.users s n) (no_log s.spent 1 ∷ []) e ∙ one (no_log s.spent 1)

  -- what is planned of a row that is there
  pub deletes : (n : ℕ) (row : T) → row_at rules.id (rules.row_list s).rows n ≡ Some row → delete rules s n ≡ take_out rules s n
  deletes n row e = ap (λ (found : Option T). with_found rules n (λ old. take_out rules s n) found) e

  -- the update of a row that goes is planned
  pub delete_planned : (n : ℕ) (row : T) (puts : List View) (kind : Kind) (p : Result Planned AllocError) → row_at rules.id (rules.row_list s).rows n ≡ Some row
      → first (rules.users s n) ≡ None → no_log s.spent 1 ≡ None → puts ≡ rules.forgetting s n → kind ≡ rules.kind
      → IfOk p (λ q. q ≡ Change (record { puts = puts; cuts = (kind, n) ∷ []; next = []; spent = 1 }) Gone) → IfOk p (λ q. IsPlanned (delete rules s n) q)
  delete_planned n row puts kind (Err e) r u l f k h = h
  delete_planned n row puts kind (Ok q) r u l f k h =
      subst (λ (plan : Plan). IsPlanned plan q) (sym (deletes n row r))
      (subst (λ (x : Planned). IsPlanned (take_out rules s n) x) (sym h) (record {
        verdict = out_logged n u ∙ l;
        does = rw (f, k) refl;
        says = refl;
        accepted = refl;
      }))

  -- the row that an edit leaves of one that is there stands under its id
  pub own_found : (n : ℕ) (old row : T) → row_at rules.id (rules.row_list s).rows n ≡ Some old → rules.id row ≡ rules.id old → own_row rules s row ≡ Some old
  own_found n old row e same = rw (same ∙ (found_there rules.id (rules.row_list s).rows n old e).1) e

  -- the plan of a change by id is that of the row which was found
  pub change_planned : (n : ℕ) (edit : T → T) (old row : T) (p : Result Planned AllocError) → row_at rules.id (rules.row_list s).rows n ≡ Some old → row ≡ edit old
      → rules.id (edit old) ≡ rules.id old → IfOk p (λ q. (x : T) → own_row rules s row ≡ Some x → IsPlanned (replace rules s x [] row) q)
      → IfOk p (λ q. IsPlanned (change rules s n nothing_told edit) q)
  change_planned n edit old row (Err e) r same i h = h
  change_planned n edit old row (Ok q) r same i h =
      let here : IsPlanned (replace rules s old [] row) q = h old (own_found n old row r (ap rules.id same ∙ i)) in
      let changed : change rules s n nothing_told edit ≡ replace rules s old [] (edit old) = ap (λ (found : Option T). with_found rules n (λ x. replace rules s x [] (edit x)) found) r in
      subst (λ (plan : Plan). IsPlanned plan q) (sym changed) (subst (λ (x : T). IsPlanned (replace rules s old [] x) q) same here)

  -- ---- what is told of a draft or an edit, beside its row

  -- the rows that it names come first
  pub told_named : (old : Option T) (told : List (Option Rule)) (row : T) (rest : List (Option Refusal)) (rule : Rule) → first (rules.references s row) ≡ Some rule
      → first (broken rules s old told row ++ rest) ≡ Some (Breaks rule)
  told_named old told row rest rule e =
      head_refuses (broken rules s old told row) rest (Breaks rule)
      (first_breaks (rules.references s row ++ told ++ call_faults rules s old row) ∙ ap breaks (head_refuses (rules.references s row ++ told) (call_faults rules s old row) rule (head_refuses (rules.references s row) told rule e)))

  pub told_refuses : (old : Option T) (told : List (Option Rule)) (row : T) (rest : List (Option Refusal)) (rule : Rule) → first (rules.references s row) ≡ None → first told ≡ Some rule
      → first (broken rules s old told row ++ rest) ≡ Some (Breaks rule)
  told_refuses old told row rest rule e t =
      head_refuses (broken rules s old told row) rest (Breaks rule)
      (first_breaks (rules.references s row ++ told ++ call_faults rules s old row)
      ∙ ap breaks (head_refuses (rules.references s row ++ told) (call_faults rules s old row) rule (head_passes (rules.references s row) told e ∙ t)))

  pub create_named : (told : List (Option Rule)) (row : T) (rule : Rule) → first (rules.references s row) ≡ Some rule → verdict_of (create rules s told row) ≡ Some (Breaks rule)
  create_named told row rule e = head_refuses (broken rules s None told row ++ no_seats rules s 1) (no_log s.spent 1 ∷ []) (Breaks rule) (told_named None told row (no_seats rules s 1) rule e)

  pub create_told : (told : List (Option Rule)) (row : T) (rule : Rule) → first (rules.references s row) ≡ None → first told ≡ Some rule → verdict_of (create rules s told row) ≡ Some (Breaks rule)
  create_told told row rule e t = head_refuses (broken rules s None told row ++ no_seats rules s 1) (no_log s.spent 1 ∷ []) (Breaks rule) (told_refuses None told row (no_seats rules s 1) rule e t)

  untold : (old : Option T) (told : List (Option Rule)) (row : T) (rest : List (Option Refusal)) → first told ≡ None → first (broken rules s old told row ++ rest) ≡ first (broken rules s old [] row ++ rest)
  untold old told row rest t = go (rules.references s row)
    where
      skip : (xs : List (Option Rule)) → first xs ≡ None → first (map breaks (xs ++ call_faults rules s old row) ++ rest) ≡ first (map breaks (call_faults rules s old row) ++ rest)
      skip [] e = refl
      skip (None ∷ xs) e = skip xs e
      skip (Some x ∷ xs) e = cc

      go : (xs : List (Option Rule)) → first (map breaks (xs ++ told ++ call_faults rules s old row) ++ rest) ≡ first (map breaks (xs ++ [] ++ call_faults rules s old row) ++ rest)
      go [] = skip told t
      go (None ∷ xs) = go xs
      go (Some x ∷ xs) = refl

  -- a new row of which nothing is told is planned without it
  pub create_untold : (told : List (Option Rule)) (row : T) (q : Planned) → first told ≡ None → IsPlanned (create rules s [] row) q → IsPlanned (create rules s told row) q
  create_untold told row q t h = go q h
    where
      same : verdict_of (create rules s told row) ≡ verdict_of (create rules s [] row)
      same = pair (broken rules s None told row) (broken rules s None [] row) (λ rest. untold None told row rest t)
        where
          pair : (xs ys : List (Option Refusal)) → ((rest : List (Option Refusal)) → first (xs ++ rest) ≡ first (ys ++ rest))
              → first ((xs ++ no_seats rules s 1) ++ no_log s.spent 1 ∷ []) ≡ first ((ys ++ no_seats rules s 1) ++ no_log s.spent 1 ∷ [])
          pair xs ys e = ap first (append_assoc xs (no_seats rules s 1) (no_log s.spent 1 ∷ [])) ∙ e (no_seats rules s 1 ++ no_log s.spent 1 ∷ []) ∙ ap first (sym (append_assoc ys (no_seats rules s 1) (no_log s.spent 1 ∷ [])))

      go : (q : Planned) → IsPlanned (create rules s [] row) q → IsPlanned (create rules s told row) q
      go (Refused refusal) h = same ∙ h
      go (Read reply) h = record { verdict = same ∙ h.verdict; idle = h.idle; says = h.says; plain = h.plain }
      go (Change update reply) h = record { verdict = same ∙ h.verdict; does = h.does; says = h.says; accepted = h.accepted }

  pub replace_untold : (old : T) (told : List (Option Rule)) (row : T) (q : Planned) → first told ≡ None → IsPlanned (replace rules s old [] row) q → IsPlanned (replace rules s old told row) q
  replace_untold old told row q t h = go q h
    where
      same : verdict_of (replace rules s old told row) ≡ verdict_of (replace rules s old [] row)
      same = untold (Some old) told row (no_log s.spent 1 ∷ []) t

      go : (q : Planned) → IsPlanned (replace rules s old [] row) q → IsPlanned (replace rules s old told row) q
      go (Refused refusal) h = same ∙ h
      go (Read reply) h = record { verdict = same ∙ h.verdict; idle = h.idle; says = h.says; plain = h.plain }
      go (Change update reply) h = record { verdict = same ∙ h.verdict; does = h.does; says = h.says; accepted = h.accepted }

  pub all_create_untold : (told : List (Option Rule)) (row : T) (p : Result Planned AllocError) → first told ≡ None → IfOk p (λ q. IsPlanned (create rules s [] row) q) → IfOk p (λ q. IsPlanned (create rules s told row) q)
  all_create_untold told row (Ok q) t h = create_untold told row q t h
  all_create_untold told row (Err e) t h = h

  pub all_replace_untold : (old : T) (told : List (Option Rule)) (row : T) (p : Result Planned AllocError) → own_row rules s row ≡ Some old → first told ≡ None
      → IfOk p (λ q. (x : T) → own_row rules s row ≡ Some x → IsPlanned (replace rules s x [] row) q) → IfOk p (λ q. IsPlanned (replace rules s old told row) q)
  all_replace_untold old told row (Ok q) own t h = replace_untold old told row q t (h old own)
  all_replace_untold old told row (Err e) own t h = h
