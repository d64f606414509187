-- What is known of an accepted claim: its rows come after those that were there, under the next ids.
use Rattle.std.proofs.Common.{◌++◌, ◌+◌, ◌∙◌, ◌∷◌, ◌≡◌, List, None, Option, Some, [], ap, append-nil, arith, false, fold, length, map, refl, subst, sym, true, ℕ}
use Rattle.std.proofs.lemmas.List.{append_assoc}
use Rattle.inet_num.specs.Count.{numbers_from}
use Rattle.ipam_data.specs.Claims.{claim, served}
use Rattle.ipam_data.specs.Plans.{KindRules, with_found}
use Rattle.ipam_data.specs.Replays.{is_accepted}
use Rattle.ipam_data.specs.RowList.{AllBelow, RowList, with_row}
use Rattle.ipam_data.specs.State.{Plan, State, verdict_of}
use Rattle.ipam_data.specs.Updates.{answered, outcome, updated, with_next, with_spent, with_view}
use Rattle.ipam_data.specs.declared.calls.Answered.{Answered}
use Rattle.ipam_data.specs.declared.replies.Refusal.{Refusal}
use Rattle.ipam_data.specs.declared.replies.Reply.{Reply}
use Rattle.ipam_data.specs.declared.replies.Reply.TheVariants.{Refused}
use Rattle.ipam_data.specs.declared.replies.View.{View}
use Rattle.ipam_data.proofs.ManyCan.{Follow}
use Rattle.ipam_data.proofs.Placed.{below_more, below_with}
use Rattle.ipam_data.proofs.RowLists.{with_row_above}
use Rattle.ipam_data.proofs.Ties.{IsTied, put_all}
use Rattle.claim_laws.specs.Rows.{Came}

-- ---- the rows that came

module _ {T : Type 0} (id : T → ℕ) where
  -- rows that follow the ids that were there come behind
  come_behind : (xs rows : List T) (n : ℕ) → AllBelow id n xs → Follow id n rows → fold (with_row id) xs rows ≡ xs ++ rows
  come_behind xs [] n below f = sym (append-nil xs)
  come_behind xs (row ∷ rows) n below f =
      let own : AllBelow id (id row) xs = subst (λ (m : ℕ). AllBelow id m xs) (sym f.0) below in
      let pushed = with_row_above id xs row own in
      let e = f.0 in
      let more : AllBelow id (n + 1) (with_row id xs row) = below_with id (n + 1) xs row (below_more id n (n + 1) xs (omega arith) below) (omega arith) in
      come_behind (with_row id xs row) rows (n + 1) more f.1 ∙ ap (λ (ys : List T). ys ++ rows) pushed ∙ append_assoc xs (row ∷ []) rows

  follow_numbers : (n : ℕ) (rows : List T) → Follow id n rows → map id rows ≡ numbers_from n (length rows)
  unfolding numbers_from
  follow_numbers n [] f = refl
  follow_numbers n (row ∷ rows) f = rw (f.0, follow_numbers (n + 1) rows f.1) refl

-- ---- an accepted call

pub record IsDone (s : State) (plan : Plan) (done : State × Reply) : Type 0 where
  pub verdict : verdict_of plan ≡ None
  pub is : done ≡ (updated s plan.update, answered (updated s plan.update) plan.reply)

pub accepted_done : (s : State) (plan : Plan) (done : State × Reply) → outcome s plan ≡ done → is_accepted done.1 ≡ true → IsDone s plan done
accepted_done s plan done q a = go (verdict_of plan) refl
  where
    go : (v : Option Refusal) → verdict_of plan ≡ v → IsDone s plan done
    go (Some refusal) e =
        let o : outcome s plan ≡ (s, Refused refusal) = rw (e, outcome) refl in
        let w : false ≡ true = ap (λ (d : State × Reply). is_accepted d.1) (sym o ∙ q) ∙ a in cc
    go None e = (let o : outcome s plan ≡ (updated s plan.update, answered (updated s plan.update) plan.reply) = rw (e, outcome) refl in record { verdict = e; is = sym q ∙ o })

module _ {T : Type 0} (rules : KindRules T) (tied : IsTied rules) (spends : (t : State) (n : ℕ) → rules.row_list (with_spent t n) ≡ rules.row_list t) where
  pub claimed_rows : (s : State) (told : List (Option Refusal)) (wanted : ℕ) (form : Answered) (rows : List T)
      → AllBelow rules.id (rules.row_list s).next (rules.row_list s).rows → Follow rules.id (rules.row_list s).next rows
      → (rules.row_list (updated s (claim rules s told wanted form rows).update)).rows ≡ (rules.row_list s).rows ++ rows
  claimed_rows s told wanted form rows below f =
      let put : RowList T = record { rows = fold (with_row rules.id) (rules.row_list s).rows rows; next = (rules.row_list s).next } in
      let n = (rules.row_list s).next + wanted in
      let t = with_next (fold with_view s (map rules.view rows)) (rules.kind, n) in
      ap (λ (kept : RowList T). kept.rows) (spends t wanted)
      ∙ ap (λ (u : State). (rules.row_list (with_next u (rules.kind, n))).rows) (put_all rules tied s rows)
      ∙ ap (λ (u : State). (rules.row_list u).rows) (tied.next (rules.with_row_list s put) n)
      ∙ ap (λ (kept : RowList T). kept.rows) (tied.given (rules.with_row_list s put) (record { rows = (rules.row_list (rules.with_row_list s put)).rows; next = n }))
      ∙ ap (λ (kept : RowList T). kept.rows) (tied.given s put)
      ∙ come_behind rules.id (rules.row_list s).rows rows (rules.row_list s).next below f

  pub came : (s : State) (done : State × Reply) (form : Answered) (items : ℕ) (view : T → View) (rows : List T)
      → AllBelow rules.id (rules.row_list s).next (rules.row_list s).rows → Follow rules.id (rules.row_list s).next rows → length rows ≡ items
      → (rules.row_list done.0).rows ≡ (rules.row_list s).rows ++ rows → done.1 ≡ served form (map view rows) → Came rules s done form items view rows
  came s done form items view rows below f many e r = record {
    behind = e;
    ids = follow_numbers rules.id (rules.row_list s).next rows f ∙ ap (numbers_from (rules.row_list s).next) many;
    reply = r;
  }

-- the row that a plan is for was found
pub found_plan : {T : Type 0} (rules : KindRules T) (s : State) (n : ℕ) (plan : T → Plan) (found : Option T) (done : State × Reply) → outcome s (with_found rules n plan found) ≡ done → is_accepted done.1 ≡ true
    → (x : T) × (found ≡ Some x) × (outcome s (plan x) ≡ done)
found_plan rules s n plan None done q a = (let w : false ≡ true = ap (λ (d : State × Reply). is_accepted d.1) q ∙ a in cc)
found_plan rules s n plan (Some x) done q a = (x, refl, q)
