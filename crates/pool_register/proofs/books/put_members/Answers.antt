use Rattle.std.proofs.Common.{subst, List, ◌∷◌}
use Rattle.std.specs.Vec.Iter.{into_iter_items}
use Rattle.number_pools.specs.declared.rows.Member.{Member}
use Rattle.pool_register.specs.Planned.{with_members}
use Rattle.pool_register.proofs.Putting.{IsPutting, one_put}
use Rattle.pool_register.proofs.books.put_members.Goals as goal

pub row-preserved : goal.row-preserved
row-preserved c =
    let wanted = with_members c.args.rows.now.pools c.args.made.items in
    let held : IsPutting wanted c.row.rows (c.in-Some.member ∷ into_iter_items c.next.new.self) =
    subst (λ (ms : List Member). IsPutting wanted c.row.rows ms) c.in-Some.ensures.items c.row.invariant in
    one_put wanted c.row.rows c.put_member.new.self c.in-Some.member (into_iter_items c.next.new.self) held c.put_member.ensures.pools c.put_member.ensures.room c.put_member.ensures.key_room
