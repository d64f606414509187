-- A run of pools has the headline of its command.
use Rattle.std.proofs.Common.{◌≡◌, ◌⊎◌, ◌<◌, ℕ, zero, suc, List, [], ◌∷◌, map, take, Option, Some, None, length, refl, sym, ap, ◌∙◌, subst, inl, inr, arith}
use Rattle.std.specs.List.{slice_get}
use Rattle.history_lock.specs.Replay.{replay}
use Rattle.history_lock.specs.Replies.{accepted}
use Rattle.http_session.specs.declared.session.SessionEnd.{SessionEnd}
use Rattle.http_session.specs.Ends.{IsEnd}
use Rattle.ipam_listen.specs.Connections.{Ends, ends_of}
use Rattle.command_streams.specs.Streams.{EndsWith, Gains, Streams, Told}
use Rattle.machine_session.specs.Owned.{Owned, answers_counted, counted, owned}
use Rattle.machine_answers.specs.Answers.{AreCallers, Caller, IsChange}
use Rattle.machine_answers.specs.Laws.{HasCaller, HasCallers}
use Rattle.machine_answers.proofs.Alone.{alone as listed_alone}
use Rattle.machine_answers.proofs.Entries.{entries}
use Rattle.machine_answers.proofs.Flat.{served as listed_served}
use Rattle.machine_command.specs.Session.{IsRefused, IsSession, Serves}
use Rattle.machine_serving.specs.Serve.{IsLeft, IsServe, IsServed, ServesStore, entries_line, listening_status}
use Rattle.http_lanes.specs.declared.listening.Listening.{Listening}
use Rattle.machine_serving.specs.Views.{ListenerView, NobodyCame}
use Rattle.number_pools.specs.declared.calls.PoolCall.{PoolCall}
use Rattle.number_pools.specs.declared.calls.PoolCall.TheVariants.{Claim, EditMember, EditRange, Record}
use Rattle.number_pools.specs.declared.calls.PoolRefusal.{PoolRefusal}
use Rattle.number_pools.specs.declared.calls.PoolRefusal.TheVariants.{Absent, NameTaken, Bounds, InUse, NoSpace, Outside, Taken, Repeated, Limit, Keeper as KeeperRefusal, Memory as MemoryRefusal}
use Rattle.number_pools.specs.declared.calls.PoolReply.{PoolReply}
use Rattle.number_pools.specs.Lawful.{IsLawfulPools}
use Rattle.number_pools.specs.Laws.{StepsKeepLawful}
use Rattle.number_pools.specs.Machines.{kind_of, refusal_kind}
use Rattle.number_pools.specs.Rows.{Pools}
use Rattle.number_pools.specs.Steps.{plain_pool_step}
use Rattle.number_laws.specs.Claims.{ClaimsAreNew}
use Rattle.number_laws.specs.Edits.{EditsAreAsAsked}
use Rattle.number_laws.specs.Records.{RecordsAreChosen}
use Rattle.number_laws.specs.Histories.{IsGiven, IsOfAsns, NumbersNeverMeet}
use Rattle.number_laws.specs.Histories as laws
use Rattle.pool_keeper.specs.declared.tables.PoolTables.{PoolTables}
use Rattle.pool_opening.specs.declared.faults.PoolFault.{PoolFault}
use Rattle.pool_opening.specs.declared.faults.PoolFault.TheVariants.{BadRange, BadMember, BadNext, Keeper, Memory}
use Rattle.pool_register.specs.Kept.{Seen, seen_step}
use Rattle.pool_service.specs.Protocol.{pool_protocol}
use Rattle.pool_store.specs.FaultWords.{IsSaid}
use Rattle.pool_store.specs.Meaning.{pool_opener}
use Rattle.pool_store.specs.Opening.{AreSame, Holds, StoredPools}
use Rattle.pool_store.proofs.Refused.{left_same}
use Rattle.pool_words.specs.Asked.{Asks}
use Rattle.pool_words.specs.declared.asked.Command.{Command}
use Rattle.pool_words.specs.declared.asked.Command.TheVariants.{Session, Serve, Print, About}
use Rattle.pool_words.specs.declared.asked.Serving.{Serving}
use Rattle.pool_words.proofs.Unique.{words_ask_for_one}
use Rattle.pool_command.specs.Clauses.{IsUnused, place_of}
use Rattle.pool_command.specs.Headline.{Alone, EditsAsAsked, GetsTheLeast, RecordsTheChosen, HasHeadline, HasHeadlines, Headline, NumbersApart, Served, ServedCounted, pools_after}
use Rattle.pool_command.specs.Runs.{Answers, PoolOutside, Runs}

-- ---- the two ways to say a history

abbrev calls_of : List (ℕ × PoolCall) → List PoolCall
calls_of history = map (λ entry. entry.1) history

same_replay : (s : Seen) (history : List (ℕ × PoolCall)) → laws.replay s.pools (calls_of history) ≡ (replay seen_step s history).pools
same_replay s [] = refl
same_replay s (e ∷ es) = same_replay (seen_step s e.1).0 es

take_map : (n : ℕ) (history : List (ℕ × PoolCall)) → take n (calls_of history) ≡ calls_of (take n history)
take_map zero history = refl
take_map (suc n) [] = refl
take_map (suc n) (e ∷ es) = ap (λ (rest : List PoolCall). e.1 ∷ rest) (take_map n es)

same_pools : (s : Seen) (history : List (ℕ × PoolCall)) (n : ℕ) → laws.replay s.pools (take n (calls_of history)) ≡ pools_after s history n
same_pools s history n = ap (laws.replay s.pools) (take_map n history) ∙ same_replay s (take n history)

call_there : (history : List (ℕ × PoolCall)) (n : ℕ) (e : ℕ × PoolCall) → slice_get history n ≡ Some e → slice_get (calls_of history) n ≡ Some e.1
call_there [] n e q = cc
call_there (f ∷ fs) zero e q = (let same : f ≡ e = cc in ap (λ (g : ℕ × PoolCall). Some g.1) same)
call_there (f ∷ fs) (suc n) e q = call_there fs n e q

-- ---- what holds of each place

-- the laws of numbers
pub record Laws : Type 0 where
  pub never : NumbersNeverMeet
  pub new : ClaimsAreNew
  pub chosen : RecordsAreChosen
  pub edited : EditsAreAsAsked
  pub steps : StepsKeepLawful

lawful_at : StepsKeepLawful → (s : Seen) (history : List (ℕ × PoolCall)) (n : ℕ) → IsLawfulPools s.pools → IsLawfulPools (pools_after s history n)
lawful_at law s history zero h = h
lawful_at law s [] (suc n) h = h
lawful_at law s (e ∷ es) (suc n) h = lawful_at law (seen_step s e.1).0 es n (law s.pools e.1 h)

-- an accepted change is no refusal
no_refusal : (why : PoolRefusal) → refusal_kind why ≡ accepted → ⊥
no_refusal (Absent id) e = cc
no_refusal (NameTaken id) e = cc
no_refusal Bounds e = cc
no_refusal (InUse id) e = cc
no_refusal (NoSpace n) e = cc
no_refusal (Outside n) e = cc
no_refusal (Taken n id) e = cc
no_refusal (Repeated n) e = cc
no_refusal (Limit which n) e = cc
no_refusal KeeperRefusal e = cc
no_refusal MemoryRefusal e = cc

gets_least : ClaimsAreNew → (s : Pools) (call : PoolCall) → IsLawfulPools s → kind_of (plain_pool_step s call).1 ≡ accepted → GetsTheLeast s call
gets_least new s (Claim kind id list names) h a = new s kind id list names h (λ why e. no_refusal why (sym (ap kind_of e) ∙ a))
gets_least new s call h a = tt

least_at : ClaimsAreNew → (opening : Seen) (history : List (ℕ × PoolCall)) (n : ℕ) (call : PoolCall) → IsLawfulPools (pools_after opening history n)
    → IsChange pool_protocol opening (take n history) call → GetsTheLeast (pools_after opening history n) call
least_at new opening history n call h change = gets_least new (pools_after opening history n) call h (sym (ap kind_of change.same) ∙ change.kind)

records_chosen : RecordsAreChosen → (s : Pools) (call : PoolCall) → IsLawfulPools s → kind_of (plain_pool_step s call).1 ≡ accepted → RecordsTheChosen s call
records_chosen law s (Record kind id list items) h a = law s kind id list items h (λ why e. no_refusal why (sym (ap kind_of e) ∙ a))
records_chosen law s call h a = tt

chosen_at : RecordsAreChosen → (opening : Seen) (history : List (ℕ × PoolCall)) (n : ℕ) (call : PoolCall) → IsLawfulPools (pools_after opening history n)
    → IsChange pool_protocol opening (take n history) call → RecordsTheChosen (pools_after opening history n) call
chosen_at law opening history n call h change = records_chosen law (pools_after opening history n) call h (sym (ap kind_of change.same) ∙ change.kind)

edits_as_asked : EditsAreAsAsked → (s : Pools) (call : PoolCall) → kind_of (plain_pool_step s call).1 ≡ accepted → EditsAsAsked s call
edits_as_asked law s (EditRange kind id name first last) a = law.ranges s kind id name first last (λ why e. no_refusal why (sym (ap kind_of e) ∙ a))
edits_as_asked law s (EditMember kind id name) a = law.members s kind id name (λ why e. no_refusal why (sym (ap kind_of e) ∙ a))
edits_as_asked law s call a = tt

edited_at : EditsAreAsAsked → (opening : Seen) (history : List (ℕ × PoolCall)) (n : ℕ) (call : PoolCall)
    → IsChange pool_protocol opening (take n history) call → EditsAsAsked (pools_after opening history n) call
edited_at law opening history n call change = edits_as_asked law (pools_after opening history n) call (sym (ap kind_of change.same) ∙ change.kind)

numbers_apart : NumbersNeverMeet → (opening : Seen) (history : List (ℕ × PoolCall)) → IsLawfulPools opening.pools → NumbersApart opening history
numbers_apart never opening history is i j one other x y l p q c d of =
    never opening.pools (calls_of history) i j one.1 other.1 x y is l (call_there history i one p) (call_there history j other q)
    (subst (λ (s : Pools). IsGiven s one.1 x) (sym (same_pools opening history i)) c)
    (subst (λ (s : Pools). IsGiven s other.1 y) (sym (same_pools opening history j)) d)
    (elim of [
      | inl same ↦ inl same
      | inr asns ↦ inr (
        subst (λ (s : Pools). IsOfAsns (plain_pool_step s one.1).0 x.range) (sym (same_pools opening history i)) asns.0,
        subst (λ (s : Pools). IsOfAsns (plain_pool_step s other.1).0 y.range) (sym (same_pools opening history j)) asns.1,
      )
    ])

headline : Laws → (opening : Seen) (history : List (ℕ × PoolCall)) (callers : List (Caller PoolCall PoolReply)) → IsLawfulPools opening.pools
    → AreCallers pool_protocol opening history callers → Headline opening history callers
headline laws_hold opening history callers h are =
    let changes = entries pool_protocol opening history callers are in
    record {
      answers = are;
      entries = changes;
      lawful = λ n. lawful_at laws_hold.steps opening history n h;
      least = λ n who call at. least_at laws_hold.new opening history n call (lawful_at laws_hold.steps opening history n h) (changes n who call at);
      chosen = λ n who call at. chosen_at laws_hold.chosen opening history n call (lawful_at laws_hold.steps opening history n h) (changes n who call at);
      edited = λ n who call at. edited_at laws_hold.edited opening history n call (changes n who call at);
      apart = numbers_apart laws_hold.never opening history h;
    }

-- ---- the commands

served : Laws → (s : Serving) (old new : PoolOutside) (before after : ListenerView) (entries : ℕ)
    → ServesStore pool_protocol pool_opener s.db (place_of s) old new before after entries → (of : Served s.db old new before after) × (entries ≡ length of.kept.history)
served laws_hold s old new before after entries h =
    let of : HasCallers pool_protocol h.opening h.history h.served.back =
    listed_served pool_protocol h.opening h.history h.served.back h.served.shifts h.served.one_history h.served.lanes in (
      record {
        callers = of.callers;
        kept = record {
          opening = h.opening;
          stood = h.loaded;
          history = h.history;
          headline = headline laws_hold h.opening h.history of.callers h.loaded.pools.lawful of.are;
          holds = h.holds;
        };
        back = h.served.back;
        returned = h.served.returned;
        lanes = of.lanes;
      },
      h.entries_are,
    )

-- with status 0 the line of the entries is on the output
line_said : (listening : Listening) (old new : Told) (text : List ℕ) (status : ℕ) → EndsWith old new text (listening_status listening) status → status ≡ 0 → Gains old new text
line_said listening old new text status (inl said) z = said.1
line_said listening old new text status (inr failed) z = absurd (let e = failed.0 in omega arith)

counted_line : Laws → (s : Serving) (old new : PoolOutside) (before after : ListenerView) (status : ℕ)
    → IsServed pool_protocol pool_opener s.db (place_of s) old new before after status → status ≡ 0 → ServedCounted s.db old new before after
counted_line laws_hold s old new before after status r z =
    let all : (of : Served s.db old new before after) × (r.entries ≡ length of.kept.history) = served laws_hold s old new before after r.entries r.serves in
    (all.0, subst (λ (n : ℕ). Gains old.streams.output new.streams.output (entries_line n)) all.1 (line_said r.listening _ _ _ status r.said z))

-- pools that were opened have accepted nothing, and counted no fault
opened : (first : Owned Seen PoolCall) → (first.log ≡ []) × (first.faults ≡ 0) → first ≡ owned first.opening [] 0
opened first fresh = λ i. owned first.opening (fresh.0 i) (fresh.1 i)

alone : Laws → (db : Option (List ℕ)) (old new : PoolOutside) (how : SessionEnd) → Serves pool_protocol pool_opener db old new how → Alone db old new
alone laws_hold db old new how h =
    let before : Ends = ends_of old.streams.input.bytes old.streams.output.bytes old.streams.input.faults old.streams.output.faults in
    let after : Ends = ends_of new.streams.input.bytes new.streams.output.bytes new.streams.input.faults new.streams.output.faults in
    let history = h.last.log in
    let opening = h.first.opening in
    let ends : IsEnd (answers_counted pool_protocol) (counted (owned opening [] 0) 0) (counted h.last h.told) before.written after.written h.bytes after.left how =
    subst (λ (f : Owned Seen PoolCall). IsEnd (answers_counted pool_protocol) (counted f 0) (counted h.last h.told) before.written after.written h.bytes after.left how)
    (opened h.first h.fresh) h.ends in
    let all : (h.last.opening ≡ opening) × HasCaller pool_protocol opening history before after =
    listed_alone pool_protocol opening (counted h.last h.told) before after h.bytes how h.grown ends in
    let of : HasCaller pool_protocol opening history before after = all.1 in
    record {
      caller = of.caller;
      kept = record {
        opening = opening;
        stood = h.loaded;
        history = history;
        headline = headline laws_hold opening history (of.caller ∷ []) h.loaded.pools.lawful of.are;
        holds = subst (λ (s : Seen). Holds db old.stores.stored new.stores.stored (replay seen_step s history)) all.0 h.holds;
      };
      streams = of.connections_are;
    }

-- ---- a run

-- what is said of a refused opening gives no status 0
never_done : (fault : PoolFault) (old new : Told) (status : ℕ) → IsSaid fault old new status → status ≡ 0 → ⊥
never_done Keeper old new status (inl said) z = absurd (let e = said.0 in omega arith)
never_done Keeper old new status (inr said) z = absurd (let e = said.0 in omega arith)
never_done (BadRange id) old new status (inl said) z = absurd (let e = said.0 in omega arith)
never_done (BadRange id) old new status (inr said) z = absurd (let e = said.0 in omega arith)
never_done (BadMember id) old new status (inl said) z = absurd (let e = said.0 in omega arith)
never_done (BadMember id) old new status (inr said) z = absurd (let e = said.0 in omega arith)
never_done BadNext old new status (inl said) z = absurd (let e = said.0 in omega arith)
never_done BadNext old new status (inr said) z = absurd (let e = said.0 in omega arith)
never_done Memory old new status said z = absurd (let e = said.0 in omega arith)

nobody_came : (before after : ListenerView) → after ≡ before → NobodyCame before after
nobody_came before after idle = record { lanes = ap (λ (v : ListenerView). v.lanes) idle; returned = ap (λ (v : ListenerView). v.returned) idle }

same_stored : (told : StoredPools) → AreSame told told
same_stored None = tt
same_stored (Some tables) = λ path. refl

-- a store that was left has known tables as they were
left : (db : Option (List ℕ)) (old new : StoredPools) → IsLeft pool_opener db old new → AreSame old new
left db old new (inl same) = subst (AreSame old) (sym same) (same_stored old)
left db old new (inr (s, loaded, holds)) = left_same db old new s loaded holds

of_session : Laws → (db : Option (List ℕ)) (old new : PoolOutside) (before after : ListenerView) (status : ℕ) → IsSession pool_protocol pool_opener db old new status
    → HasHeadline (Session db) old new before after status
of_session laws_hold db old new before after status s = elim s.run [
  | inl r ↦ (let all = alone laws_hold db old new r.0 r.1 in ((λ z. all), inl all))
  | inr r ↦ ((λ z. absurd (never_done r.fault _ _ status r.said z)), inr (record { input = r.input; output = r.output; stored = r.refused.same }))
]

of_serve : Laws → (s : Serving) (old new : PoolOutside) (before after : ListenerView) (status : ℕ)
    → IsServe pool_protocol pool_opener s.db (place_of s) old new before after status → HasHeadline (Serve s) old new before after status
of_serve laws_hold s old new before after status v = elim v.run [
  | inl r ↦ (counted_line laws_hold s old new before after status r, inl (served laws_hold s old new before after r.entries r.serves).0)
  | inr more ↦ elim more [
    | inl r ↦ ((λ z. absurd (never_done r.0.fault _ _ status r.0.said z)), inr (r.0.output, nobody_came before after r.1, r.0.refused.same))
    | inr rest ↦ elim rest [
      | inl r ↦ (let five = r.is in ((λ z. absurd (omega arith)), inr (ap (λ (t : Streams). t.output) r.streams, nobody_came before after r.idle, left s.db old.stores.stored new.stores.stored r.left)))
      | inr r ↦ (let three = r.is in ((λ z. absurd (omega arith)), inr (ap (λ (t : Streams). t.output) r.streams, r.nobody, left s.db old.stores.stored new.stores.stored r.left)))
    ]
  ]
]

of_command : Laws → (command : Command) (old new : PoolOutside) (before after : ListenerView) (status : ℕ) → Answers command old new before after status
    → HasHeadline command old new before after status
of_command laws_hold (Session db) old new before after status k = of_session laws_hold db old new before after status k.0
of_command laws_hold (Serve s) old new before after status k = of_serve laws_hold s old new before after status k
of_command laws_hold (Print listing db) old new before after status k = tt
of_command laws_hold (About topic) old new before after status k = tt

-- memory ran out to read the words
of_none : (command : Command) (old new : PoolOutside) (before after : ListenerView) (status : ℕ) → status ≡ 5 → new ≡ old → after ≡ before
    → HasHeadline command old new before after status
of_none (Session db) old new before after status five same idle =
    ((λ z. absurd (omega arith)), inr (subst (λ (t : PoolOutside). IsUnused old t) (sym same) (record { input = refl; output = refl; stored = same_stored old.stores.stored })))
of_none (Serve s) old new before after status five same idle = (
  (λ z. absurd (omega arith)),
  inr (ap (λ (t : PoolOutside). t.streams.output) same, nobody_came before after idle, subst (λ (t : PoolOutside). AreSame old.stores.stored t.stores.stored) (sym same) (same_stored old.stores.stored)),
)
of_none (Print listing db) old new before after status five same idle = tt
of_none (About topic) old new before after status five same idle = tt

pub headline_of_run : Laws → (words : List (List ℕ)) (old new : PoolOutside) (before after : ListenerView) (status : ℕ) → Runs words old new before after status
    → HasHeadlines words old new before after status
headline_of_run laws_hold words old new before after status (inl (command, asks, answers)) other a =
    of_command laws_hold other old new before after status (subst (λ (c : Command). Answers c old new before after status) (words_ask_for_one words command other asks a) answers)
headline_of_run laws_hold words old new before after status (inr (inl (none, usage))) other a = absurd (none other a)
headline_of_run laws_hold words old new before after status (inr (inr (five, same, idle))) other a = of_none other old new before after status five same idle
