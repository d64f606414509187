-- An edit is as it was asked for, in the words of the law.
use Rattle.std.proofs.Common.{◌≡◌, ℕ, List, Option, Some, None, refl, ap, sym, ◌∙◌}
use Rattle.ipam_data.specs.Checks.{first as first_of}
use Rattle.ipam_data.specs.RowList.{row_at, with_row}
use Rattle.ipam_data.proofs.Kept.{found_there, put_found}
use Rattle.number_pools.specs.declared.calls.PoolRefusal.{PoolRefusal}
use Rattle.number_pools.specs.declared.calls.PoolRefusal.TheVariants.{Absent}
use Rattle.number_pools.specs.declared.calls.PoolReply.TheVariants.{ChangedMember, ChangedRange, Refused}
use Rattle.number_pools.specs.declared.rows.PoolKind.{PoolKind}
use Rattle.number_pools.specs.declared.rows.NumberRange.{NumberRange}
use Rattle.number_pools.specs.declared.rows.Member.{Member}
use Rattle.number_pools.specs.Rows.{Pools, member_id, range_id}
use Rattle.number_pools.specs.Steps.{Check, edit_member_checks, edit_member_step, edit_range_checks, edit_range_step, edited_member, edited_range, member_at, range_at, unless, with_edited_member, with_edited_range}
use Rattle.number_pools.proofs.Lists.{row_at_else}
use Rattle.number_pools.proofs.StepLaws.{member_there}
use Rattle.number_laws.specs.Edits.{EditedMember, EditedRange, EditsAreAsAsked}
use Rattle.number_laws.proofs.Least.{found}

range_edited : (s : Pools) (kind : PoolKind) (id : ℕ) (name : Option (List ℕ)) (first last : Option ℕ) (o : Option NumberRange) → range_at s.ranges.rows kind id ≡ o
    → ((why : PoolRefusal) → ¬ ((edit_range_step s id name first last o).1 ≡ Refused why)) → EditedRange s kind id name first last (edit_range_step s id name first last o)
range_edited s kind id name first last None at fine = absurd (fine (Absent id) refl)
range_edited s kind id name first last (Some r) at fine = go (first_of (edit_range_checks s new)) fine
  where
    new : NumberRange
    new = edited_range r name first last

    f : (row_at range_id s.ranges.rows id ≡ Some r) × (r.kind ≡ kind)
    f = found (row_at range_id s.ranges.rows id) kind r at

    own : r.id ≡ id
    own = (found_there range_id s.ranges.rows id r f.0).1

    go : (why : Check) → ((w : PoolRefusal) → ¬ ((unless why s (with_edited_range s new) (ChangedRange new)).1 ≡ Refused w))
        → EditedRange s kind id name first last (unless why s (with_edited_range s new) (ChangedRange new))
    go (Some w) fine = absurd (fine w refl)
    go None fine = record {
      old = r;
      there = f.0;
      is_of = f.1;
      told = refl;
      stored = ap (row_at range_id (with_row range_id s.ranges.rows new)) (sym own) ∙ put_found range_id s.ranges.rows new;
      others = λ n d. row_at_else range_id s.ranges.rows new n (λ e. d (sym e ∙ own));
      members = refl;
    }

member_edited : (s : Pools) (kind : PoolKind) (id : ℕ) (name : Option (List ℕ)) (o : Option Member) → member_at s kind id ≡ o
    → ((why : PoolRefusal) → ¬ ((edit_member_step s id name o).1 ≡ Refused why)) → EditedMember s id name (edit_member_step s id name o)
member_edited s kind id name None at fine = absurd (fine (Absent id) refl)
member_edited s kind id name (Some m) at fine = go (first_of (edit_member_checks s)) fine
  where
    new : Member
    new = edited_member m name

    f : row_at member_id s.members.rows id ≡ Some m
    f = member_there s kind id m at

    own : m.id ≡ id
    own = (found_there member_id s.members.rows id m f).1

    go : (why : Check) → ((w : PoolRefusal) → ¬ ((unless why s (with_edited_member s new) (ChangedMember new)).1 ≡ Refused w))
        → EditedMember s id name (unless why s (with_edited_member s new) (ChangedMember new))
    go (Some w) fine = absurd (fine w refl)
    go None fine = record {
      old = m;
      there = f;
      told = refl;
      stored = ap (row_at member_id (with_row member_id s.members.rows new)) (sym own) ∙ put_found member_id s.members.rows new;
      others = λ n d. row_at_else member_id s.members.rows new n (λ e. d (sym e ∙ own));
      ranges = refl;
    }

pub edits_are_as_asked : EditsAreAsAsked
edits_are_as_asked = record {
  ranges = λ s kind id name first last fine. range_edited s kind id name first last (range_at s.ranges.rows kind id) refl fine;
  members = λ s kind id name fine. member_edited s kind id name (member_at s kind id) refl fine;
}
