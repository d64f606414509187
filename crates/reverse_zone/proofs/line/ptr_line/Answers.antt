use Rattle.std.proofs.Common.{arith}
use Rattle.reverse_zone.proofs.HostBytes.{fit_short}
use Rattle.reverse_zone.proofs.line.ptr_line.Goals as goal

pub push_all-requires-2 : goal.push_all-requires-2
push_all-requires-2 c =
    let short = fit_short c.args.name.now c.requires in
    let owner = c.push_owner.ensures.len in
    let class = c.push_all.ensures.len in
    let same = c.as_bytes.ensures.len in omega arith

pub push_all-requires-3 : goal.push_all-requires-3
push_all-requires-3 c =
    let short = fit_short c.args.name.now c.requires in
    let owner = c.push_owner.ensures.len in
    let class = c.push_all.ensures.len in
    let name = c.push_all-2.ensures.len in
    let same = c.as_bytes.ensures.len in omega arith
