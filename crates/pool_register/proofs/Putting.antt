-- Members that are put one after another.
use Rattle.std.proofs.Common.{◌≡◌, ℕ, ◌+◌, ◌≤◌, List, ◌∷◌, length, ap, sym, ◌∙◌, subst, arith}
use Rattle.ipam_data.specs.Checks.{most_spent}
use Rattle.ipam_data.specs.RowList.{last_next}
use Rattle.number_pools.specs.declared.rows.Member.{Member}
use Rattle.number_pools.specs.Rows.{Pools, member_id}
use Rattle.number_pools.specs.Lawful.{AreNumbered}
use Rattle.number_pools.proofs.Lists.{numbered-appended}
use Rattle.pool_rows.specs.Held.{Held, with_member}
use Rattle.pool_register.specs.Planned.{AreFrom, with_members}

-- these members are still to be put, and then the pools are the ones that are wanted
pub record IsPutting (wanted : Pools) (now : Held) (rest : List Member) : Type 0 where
  pub numbered : AreNumbered member_id now.pools.members
  pub from : AreFrom now.pools.members.next rest
  pub room : length rest ≤ now.member_room
  pub key_room : length rest ≤ now.key_room
  pub ids : now.pools.members.next + length rest ≤ last_next
  pub log : now.pools.spent + length rest ≤ most_spent
  pub leads : with_members now.pools rest ≡ wanted

one_less : (s : Pools) (m : Member) (ms : List Member) → with_members (with_member s m) ms ≡ with_members s (m ∷ ms)
one_less s m ms =
    let n : s.spent + 1 + length ms ≡ s.spent + length (m ∷ ms) = omega arith in
    ap (λ (k : ℕ). let p : Pools = record { ranges = s.ranges; members = (with_members (with_member s m) ms).members; spent = k } in p) n

-- one more was put
pub one_put : (wanted : Pools) (now new : Held) (m : Member) (ms : List Member) → IsPutting wanted now (m ∷ ms) → new.pools ≡ with_member now.pools m
    → now.member_room ≤ new.member_room + 1 → now.key_room ≤ new.key_room + 1 → IsPutting wanted new ms
one_put wanted now new m ms h e r k =
    let members : new.pools.members ≡ (with_member now.pools m).members = ap (λ (p : Pools). p.members) e in
    let next : new.pools.members.next ≡ now.pools.members.next + 1 = ap (λ (p : Pools). p.members.next) e in
    let spent : new.pools.spent ≡ now.pools.spent + 1 = ap (λ (p : Pools). p.spent) e in
    let a = h.room in let b = h.key_room in let c = h.ids in let d = h.log in
    record {
      numbered = subst (AreNumbered member_id) (sym members) (numbered-appended member_id now.pools.members m h.numbered h.from.0 (omega arith));
      from = subst (λ (n : ℕ). AreFrom n ms) (sym next) h.from.1;
      room = omega arith;
      key_room = omega arith;
      ids = omega arith;
      log = omega arith;
      leads = ap (λ (p : Pools). with_members p ms) e ∙ one_less now.pools m ms ∙ h.leads;
    }
