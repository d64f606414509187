-- The figure of a prefix is what the plan of its utilization reads.
use Rattle.std.proofs.Common.{◌≡◌, ℕ, false, List, [], ◌∷◌, Option, Some, refl, ap, sym, subst, arith, inl, inr, Contains}
use Rattle.ipam_data.specs.declared.prefix.Prefix.{Prefix}
use Rattle.ipam_data.specs.declared.kinds.Kind.TheVariants.{Prefixes}
use Rattle.ipam_data.specs.declared.replies.Reply.{Reply}
use Rattle.ipam_data.specs.declared.replies.Reply.TheVariants.{Percent}
use Rattle.ipam_data.specs.Replays.{is_accepted}
use Rattle.ipam_data.specs.RowList.{row_at, Rises}
use Rattle.ipam_data.specs.Rows.{prefix_id}
use Rattle.ipam_data.specs.State.{State, Plan, reading}
use Rattle.ipam_data.specs.Plans.{with_found}
use Rattle.ipam_data.specs.Prefixes.{prefix_rules}
use Rattle.ipam_data.specs.Claims.{prefix_figure, utilization_plan}
use Rattle.ipam_data.proofs.RowLists.{eq_true, eq_false, contains_cases, rises_above}
use Rattle.register_tables.specs.declared.planned.Planned.{Planned}
use Rattle.register_tables.specs.declared.planned.Planned.TheVariants.{Refused, Read, Change}
use Rattle.register_tables.specs.Planned.{IsPlanned}

-- a row that is there is found under its id
pub found : {T : Type 0} (id : T → ℕ) (low : ℕ) (rows : List T) (row : T) → Rises id low rows → Contains rows row → row_at id rows (id row) ≡ Some row
found id low [] row r c = let h = c.1 in absurd (omega arith)
found {T} id low (x ∷ xs) row r c = elim (contains_cases x row xs c) [
  | inl e ↦ here e
  | inr d ↦ (let above = rises_above id (id x) xs row r.1 d in rw (eq_false (id x) (id row) (omega arith)) (found id (id x) xs row r.1 d))
]
  where
    here : x ≡ row → row_at id (x ∷ xs) (id row) ≡ Some row
    here e = rw (eq_true (id x) (id row) (ap id e)) (ap (λ (y : T). let o : Option T = Some y in o) e)

-- a plan that reads a reply is planned as that
read : (reply : Reply) (p : Planned) → is_accepted reply ≡ false → IsPlanned (reading reply) p → p ≡ Read reply
read reply (Refused refusal) a h = absurd (cc)
read reply (Read other) a h = ap Read (sym h.says)
read reply (Change update other) a h = (let says = h.says in let accepted = h.accepted in absurd (cc))

pub figure_read : (s : State) (row : Prefix) (p : Planned) → Rises prefix_id 0 s.prefixes.rows → Contains s.prefixes.rows row → IsPlanned (utilization_plan s Prefixes row.id) p → p ≡ Read (Percent (prefix_figure s row))
figure_read s row p r c h =
    let plan : utilization_plan s Prefixes row.id ≡ reading (Percent (prefix_figure s row)) =
    ap (λ (o : Option Prefix). with_found prefix_rules row.id (λ (x : Prefix). reading (Percent (prefix_figure s x))) o) (found prefix_id 0 s.prefixes.rows row r c) in
    read (Percent (prefix_figure s row)) p refl (subst (λ (q : Plan). IsPlanned q p) plan h)

-- a figure that is read is one
pub same_figure : (p : Planned) (a b : ℕ) → p ≡ Read (Percent a) → p ≡ Read (Percent b) → a ≡ b
same_figure p a b e f = cc
