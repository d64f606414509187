use Rattle.std.proofs.Common.{refl, inl, inr, arith}
use Rattle.pool_texts.proofs.Printing.{put_quiet, said_quiet, store_quiet}
use Rattle.pool_texts.proofs.print.run_print.Goals as goal

pub returns-in-Ok : goal.returns-in-Ok
returns-in-Ok g c = λ input. record {
  run = inl (record {
    pools = c.in-Ok.rows.pools;
    loaded = c.in-Ok.ensures.loaded;
    put = c.print_listing.ensures.put;
    input = refl;
    errors = refl;
    same = c.load_pools.ensures.same;
    still = c.in-Ok.ensures.ok_still;
  });
  later = record { streams = record { input = omega arith; output = c.print_listing.ensures.later; errors = omega arith }; stores = c.load_pools.ensures.later };
  quiet = λ five. (record { input = refl; output = put_quiet _ _ _ _ c.print_listing.ensures.put five; errors = refl }, c.in-Ok.ensures.ok_still);
}

pub returns-in-Err : goal.returns-in-Err
returns-in-Err g c = λ input. record {
  run = inr (record { fault = c.in-Err.fault; refused = c.in-Err.ensures.refused; said = c.say_fault.ensures.said; input = refl; output = refl });
  later = record { streams = record { input = omega arith; output = omega arith; errors = c.say_fault.ensures.later }; stores = c.load_pools.ensures.later };
  quiet = λ five. (
      let q = said_quiet c.in-Err.fault _ _ _ c.say_fault.ensures.said five in
      (record { input = refl; output = refl; errors = q.0 }, store_quiet c.in-Err.fault _ _ c.in-Err.ensures.still q.1));
}
