-- The lists that readers see: those of the copy that is shown, as the published changes made them.
use Rattle.std.specs.Prelude.{List, fold}
use Rattle.ipam_data.specs.declared.calls.Call.{Call}
use Rattle.ipam_data.specs.declared.replies.Reply.{Reply}
use Rattle.ipam_data.specs.declared.update.Update.{Update}
use Rattle.snapshot_rows.specs.Lists.{Lists, after_update, IsReplyTo}

-- the lists of a copy's rows
abbrev pub lists : Lists → Lists
lists rows = rows

-- what a change makes of them
abbrev pub after : Lists → Update → Lists
after rows change = after_update rows change

-- the lists after all changes of a history, in order
abbrev pub published_lists_of : Lists → List Update → Lists
published_lists_of opening history = fold after opening history

-- the reply is that of each state with these lists
abbrev pub answers : Lists → Call → Reply → Type 0
answers rows call reply = IsReplyTo rows call reply
