-- Room for rows, table by table.
use Rattle.std.proofs.Common.{◌≡◌, ℕ, ◌+◌, ◌≤◌, ◌<◌, Bool, true, false, List, take, length, get_or, ◌⊎◌, inl, inr, refl, ap, sym, ◌∙◌, arith}
use Rattle.std.proofs.lemmas.List.Sums.{count_by_more_no}
use Rattle.std.specs.List.{count_by}
use Rattle.ipam_data.specs.declared.kinds.Kind.{Kind}
use Rattle.ipam_data.specs.declared.kinds.Table.{Table}
use Rattle.ipam_data.specs.declared.replies.View.{View}
use Rattle.register_tables.specs.Held.{is_in}

-- each table of the first rows has room for all rows of the kind and that table
abbrev pub IsReady : Kind → List View → ℕ → (Table → ℕ) → Type 0
IsReady kind views i spare = (t : Table) → (count_by (is_in kind t) (take i views) ≡ 0) ⊎ (count_by (is_in kind t) views ≤ spare t)

-- one row more: its table has room for all of its rows, and no table has less room than before
pub ready_more : (p : View → Bool) (views : List View) (i : ℕ) (view : View) (old new : ℕ) → i < length views → view ≡ get_or views i view → old ≤ new → (p view ≡ true → count_by p views ≤ new)
    → (count_by p (take i views) ≡ 0) ⊎ (count_by p views ≤ old) → (count_by p (take (i + 1) views) ≡ 0) ⊎ (count_by p views ≤ new)
ready_more p views i view old new within is kept room so_far = go (p view) refl so_far where
  go : (t : Bool) → p view ≡ t → (count_by p (take i views) ≡ 0) ⊎ (count_by p views ≤ old) → (count_by p (take (i + 1) views) ≡ 0) ⊎ (count_by p views ≤ new)
  go true e h = inr (room e)
  go false e (inl none) = inl (count_by_more_no p views i view within (ap p (sym is) ∙ e) ∙ none)
  go false e (inr le) = inr (omega arith)
