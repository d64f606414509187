-- What a register promises to its callers, in one record: one history, out of which all are answered, and what it means for claims.
use Rattle.std.specs.Prelude.{◌≡◌, ℕ, ◌≤◌, ◌++◌, List, [], ◌∷◌, Some, length, map, take, slice_get}
use Rattle.history_lock.specs.Replay.{replay}
use Rattle.ipam_listen.specs.Connections.{Returned, ends_of, finished}
use Rattle.machine_serving.specs.Views.{ListenerView}
use Rattle.machine_answers.specs.Answers.{AreCallers, AreLanesOf, Caller, IsChange}
use Rattle.ipam_data.specs.declared.calls.Call.{Call}
use Rattle.ipam_data.specs.declared.replies.Reply.{Reply}
use Rattle.ipam_data.specs.declared.update.Update.{Update}
use Rattle.ipam_data.specs.Lawful.{IsLawful}
use Rattle.ipam_data.specs.State.{State}
use Rattle.ipam_data.specs.Steps.{plain_step}
use Rattle.claim_laws.specs.Claims.{RefusedOnlyIfNoneFits}
use Rattle.snapshot_rows.specs.Lists.{lists_of}
use Rattle.snapshot_reads.specs.Published.{answers, published_lists_of}
use Rattle.rest_ipam.specs.Protocol.{register_protocol}
use Rattle.command_words.specs.declared.asked.Store.{Store}
use Rattle.command_store.specs.Outside.{Outside}
use Rattle.command_store.specs.Opening.{IsLoaded, HoldsTold}
use Rattle.command_mirror.specs.Readers.{AreReadLanes}
use Rattle.ipam_headline.specs.Claims.{AddressesApart, BlocksApart, EachEntry, GetsFreeBlocks, GetsTheLeast, state_after}

-- a register that opened in this state had these callers; the history has each accepted change with the number of its caller
pub record Headline (opening : State) (history : List (ℕ × Call)) (callers : List (Caller Call Reply)) : Type 0 where
  -- every answer of every connection is the plain register's after the first n entries; for one caller n never falls, and counts all of its own
  -- changes; an accepted change is entry n, and there are no other entries. Exceptions: 503 (the store failed) in place of the answer to a change,
  -- and 500 (out of memory) in place of any: neither has an entry. What the bytes of a request decide is answered without the register, at no n
  pub answers : AreCallers register_protocol opening history callers
  -- the register accepts each entry at its place, and its texts are within their bounds; `answers` says who asked for it
  pub entries : (n : ℕ) (who : ℕ) (call : Call) → slice_get history n ≡ Some (who, call) → IsChange register_protocol opening (take n history) call
  -- the records obey the rules after each entry
  pub lawful : (n : ℕ) → IsLawful (state_after opening history n)
  -- a claim of addresses got the least that were free; it is refused for space only if it asks for more than are free; no later claim got an
  -- address that an entry gave the same table, unless that record was released in between
  pub least : EachEntry opening history GetsTheLeast
  pub space : RefusedOnlyIfNoneFits
  pub addresses : AddressesApart opening history
  -- the same of blocks; but a later block may be strictly inside an earlier one
  pub carved : EachEntry opening history GetsFreeBlocks
  pub blocks : BlocksApart opening history

-- the register of a store had these callers
pub record Kept (store : Store) (old new : Outside) (callers : List (Caller Call Reply)) : Type 0 where
  pub opening : State
  -- it opened in the state that the store held
  pub stood : IsLoaded store old opening
  pub history : List (ℕ × Call)
  pub headline : Headline opening history callers
  -- the store holds the state after the history, if its tables are known
  pub holds : HoldsTold store old new (replay plain_step opening history)

-- `serve`: all that connected
pub record Served (store : Store) (old new : Outside) (before after : ListenerView) : Type 0 where
  pub callers : List (Caller Call Reply)
  pub kept : Kept store old new callers
  -- the listener got back lanes with the connections of the callers. A lane over TCP does not report its bytes: then nothing is said of them
  pub back : List Returned
  pub returned : after.returned ≡ before.returned ++ back
  pub lanes : AreLanesOf back callers

-- `session`: the input and the output are the one connection of the one caller
pub record Alone (store : Store) (old new : Outside) : Type 0 where
  pub caller : Caller Call Reply
  pub kept : Kept store old new (caller ∷ [])
  pub streams : map (λ talk. talk.connection) caller.talks
      ≡ finished (ends_of old.streams.input.bytes old.streams.output.bytes old.streams.input.faults old.streams.output.faults)
      (ends_of new.streams.input.bytes new.streams.output.bytes new.streams.input.faults new.streams.output.faults) ∷ []

-- `mirror`: so is the operator, and readers saw the first changes of its history
pub record Mirrored (store : Store) (old new : Outside) (before after : ListenerView) : Type 0 where
  pub operator : Alone store old new
  -- the readers' lanes were answered out of published changes
  pub published : List Update
  pub back : List Returned
  pub returned : after.returned ≡ before.returned ++ back
  pub read : AreReadLanes (Some (lists_of operator.kept.opening)) published back
  -- an answer after n of them is the plain register's after the first n entries
  pub few : length published ≤ length operator.kept.history
  pub places : (n : ℕ) (call : Call) (reply : Reply) → n ≤ length published → answers (published_lists_of (lists_of operator.kept.opening) (take n published)) call reply
      → plain_step (state_after operator.kept.opening operator.kept.history n) call ≡ (state_after operator.kept.opening operator.kept.history n, reply)
