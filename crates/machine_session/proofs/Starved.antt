-- Where memory runs out before the first read, nothing was read, answered or written.
use Rattle.std.proofs.Common.{ℕ, List, [], Option, Some, None, refl, sym, inl, append-nil}
use Rattle.std.specs.Io.KnownBytes.{Appends}
use Rattle.http_session.specs.Steps.{Grown}
use Rattle.http_session.specs.Talk.{May}
use Rattle.http_session.specs.Ends.{IsEnd}
use Rattle.http_session.specs.declared.session.SessionEnd.TheVariants.{Memory}

pub nothing_read : (left : Option (List ℕ)) → Grown left left [] []
nothing_read None = record { got = []; consumes = tt; grown = refl }
nothing_read (Some input) = record { got = []; consumes = refl; grown = refl }

nothing_written : (written : Option (List ℕ)) → Appends written written []
nothing_written None = tt
nothing_written (Some output) = sym (append-nil output)

pub nothing_done : {S : Type 0} (may : May S) (s : S) (left written : Option (List ℕ)) → IsEnd may s s written written [] left Memory
nothing_done may s left written = inl (record {
  items = [];
  rest = [];
  items_are = refl;
  open_ = tt;
  talk = record { answers = []; run = refl; told = nothing_written written };
})
