-- What came of a run of a command, by its status.
use Rattle.std.proofs.Common.{◌≡◌, ◌⊎◌, ℕ, List, Option, inl, inr, refl, sym, ap, arith}
use Rattle.http_session.specs.declared.session.SessionEnd.{SessionEnd}
use Rattle.http_session.specs.declared.session.SessionEnd.TheVariants.{Closed, SourceFault, SinkFault, Memory as NoMemory}
use Rattle.http_lanes.specs.declared.listening.Listening.{Listening}
use Rattle.http_lanes.specs.declared.listening.Listening.TheVariants.{Whole, Broken}
use Rattle.http_lanes.specs.Listened.{IsListening}
use Rattle.command_streams.specs.Streams.{EndsWith, Failed, Gains, Streams}
use Rattle.machine_session.specs.Owned.{answers_certainly, answers_counted, counted, plain_of_owned}
use Rattle.machine_command.specs.Session.{HasCause, IsRefused, IsSession, Serves, end_status}
use Rattle.machine_command.proofs.Printed.{prints}
use Rattle.machine_serving.specs.Serve.{AllCame, IsServe, IsServed, ServesStore, entries_line, listening_status}
use Rattle.machine_serving.specs.Views.{ListenerView, ListeningFailed, NobodyCame, NoneFailed}
use Rattle.pool_opening.specs.declared.faults.PoolFault.{PoolFault}
use Rattle.pool_opening.specs.declared.faults.PoolFault.TheVariants.{BadRange, BadMember, BadNext, Keeper, Memory}
use Rattle.pool_register.specs.Kept.{seen_step}
use Rattle.pool_service.specs.Protocol.{pool_protocol}
use Rattle.pool_store.specs.FaultWords.{IsSaid, fault_line}
use Rattle.pool_store.specs.Meaning.{pool_opener}
use Rattle.pool_store.specs.Opening.{IsRefusedOpening}
use Rattle.pool_words.specs.Asked.{Asks}
use Rattle.pool_words.specs.declared.asked.Command.TheVariants.{Session, Serve, Print, About}
use Rattle.pool_words.specs.declared.asked.Listing.{Listing}
use Rattle.pool_words.specs.declared.asked.Topic.{Topic}
use Rattle.pool_words.specs.declared.asked.Serving.{Serving}
use Rattle.pool_texts.specs.Print.{IsListing, IsPrint, IsPut, Prints as PrintsPools}
use Rattle.program_entry.specs.About.{IsPrinted}
use Rattle.pool_command.specs.About.{topic_text}
use Rattle.pool_command.specs.Clauses.{AsksAbout, AsksPrint, AsksServe, AsksSession, Counts, IsAnswered, IsDone, IsOfTables, IsUnused, NamesFailure, NamesFault, Opens, place_of}
use Rattle.pool_command.specs.Runs.{PoolOutside}

-- a fault of the tables of the words was said
abbrev pub IsNamed : List (List ℕ) → PoolOutside → PoolOutside → ListenerView → ListenerView → Type 0
IsNamed words old new before after = ((path : Option (List ℕ)) × Opens words path × NamesFault path old new) × NobodyCame before after

-- a stream failed, or, for `serve`, the listener did
abbrev pub HasFailed : List (List ℕ) → PoolOutside → PoolOutside → ListenerView → ListenerView → Type 0
HasFailed words old new before after =
    Failed old.streams.input new.streams.input ⊎ Failed old.streams.output new.streams.output ⊎ Failed old.streams.errors new.streams.errors
    ⊎ ((s : Serving) × AsksServe words s × ListeningFailed before after)

-- the store failed
abbrev pub HasFailedStore : List (List ℕ) → PoolOutside → PoolOutside → ListenerView → ListenerView → Type 0
HasFailedStore words old new before after = NobodyCame before after × ((path : Option (List ℕ)) × Opens words path) × NamesFailure old new

-- memory ran out
abbrev pub RanOut : List (List ℕ) → PoolOutside → PoolOutside → Type 0
RanOut words old new = (new.streams.errors ≡ old.streams.errors) × (((db : Option (List ℕ)) × AsksSession words db) ⊎ (new.streams.output ≡ old.streams.output))

abbrev pub Outcome : List (List ℕ) → PoolOutside → PoolOutside → ListenerView → ListenerView → ℕ → Type 0
Outcome words old new before after status =
    ((status ≡ 0) × IsDone words old new before after × (new.streams.errors ≡ old.streams.errors))
    ⊎ ((status ≡ 1) × IsNamed words old new before after)
    ⊎ ((status ≡ 3) × HasFailed words old new before after)
    ⊎ ((status ≡ 4) × HasFailedStore words old new before after)
    ⊎ ((status ≡ 5) × RanOut words old new)

nobody_came : (before after : ListenerView) → after ≡ before → NobodyCame before after
nobody_came before after idle = record { lanes = ap (λ (v : ListenerView). v.lanes) idle; returned = ap (λ (v : ListenerView). v.returned) idle }

module _ (words : List (List ℕ)) (old new : PoolOutside) (before after : ListenerView) (status : ℕ) where
  -- the tables of the store have this fault, which was said or could not be
  bad : (path : Option (List ℕ)) (fault : PoolFault) → Opens words path → IsOfTables fault → IsRefusedOpening path old.stores new.stores fault → IsUnused old new → after ≡ before
      → EndsWith old.streams.errors new.streams.errors (fault_line fault) 1 status → Outcome words old new before after status
  bad path fault opens of_tables refused unused idle (inl said) =
      inr (inl (said.0, ((path, opens, record { fault = fault; of_tables = of_tables; cause = refused.cause; said = said.1; unused = unused }), nobody_came before after idle)))
  bad path fault opens of_tables refused unused idle (inr said) = inr (inr (inl (said.0, inr (inr (inl said.1)))))

  refused_by : (path : Option (List ℕ)) (fault : PoolFault) → Opens words path → IsRefusedOpening path old.stores new.stores fault → IsUnused old new → after ≡ before
      → IsSaid fault old.streams.errors new.streams.errors status → Outcome words old new before after status
  refused_by path Keeper opens refused unused idle (inl said) =
      inr (inr (inr (inl (said.0, (nobody_came before after idle, (path, opens), record { failed = refused.failed refl; said = said.1; unused = unused })))))
  refused_by path Keeper opens refused unused idle (inr said) = inr (inr (inl (said.0, inr (inr (inl said.1)))))
  refused_by path (BadRange id) opens refused unused idle said = bad path (BadRange id) opens tt refused unused idle said
  refused_by path (BadMember id) opens refused unused idle said = bad path (BadMember id) opens tt refused unused idle said
  refused_by path BadNext opens refused unused idle said = bad path BadNext opens tt refused unused idle said
  refused_by path Memory opens refused unused idle said = inr (inr (inr (inr (said.0, (said.1, inr unused.output)))))

  of_refused : (path : Option (List ℕ)) → Opens words path → IsRefused pool_opener path old new status → after ≡ before → Outcome words old new before after status
  of_refused path opens r idle = refused_by path r.fault opens r.refused (record { input = r.input; output = r.output; stored = r.refused.same }) idle r.said

  -- ---- `session`

  answered : (db : Option (List ℕ)) (n : ℕ) → Serves pool_protocol pool_opener db old new (Closed n) → IsAnswered db old new
  answered db n s = record {
    first = s.first;
    loaded = s.loaded;
    fresh = s.fresh;
    prints = prints (answers_counted pool_protocol) (counted s.first 0) (counted s.last s.told) _ _ _ _ n s.bytes s.grown s.ends;
    certain = λ none. prints (answers_certainly pool_protocol) (plain_of_owned seen_step s.first) (plain_of_owned seen_step s.last) _ _ _ _ n s.bytes s.grown (s.certain none);
  }

  ended : (db : Option (List ℕ)) (end_ : SessionEnd) → AsksSession words db → Serves pool_protocol pool_opener db old new end_ → HasCause old new end_ → status ≡ end_status end_
      → Outcome words old new before after status
  ended db (Closed n) asks s cause is = inl (is, inl (db, asks, answered db n s), s.silent)
  ended db SourceFault asks s cause is = inr (inr (inl (is, inl (cause.source refl))))
  ended db SinkFault asks s cause is = inr (inr (inl (is, inr (inl (cause.sink refl)))))
  ended db NoMemory asks s cause is = inr (inr (inr (inr (is, (s.silent, inl (db, asks))))))

  pub of_session : (db : Option (List ℕ)) → AsksSession words db → IsSession pool_protocol pool_opener db old new status → after ≡ before → Outcome words old new before after status
  of_session db asks s idle = elim s.run [ inl r ↦ ended db r.0 asks r.1 r.2 r.3 | inr r ↦ of_refused db (inl asks) r idle ]

  -- ---- `serve`

  served_by : (s : Serving) (entries : ℕ) (listening : Listening) → AsksServe words s → ServesStore pool_protocol pool_opener s.db (place_of s) old new before after entries
      → IsListening (AllCame (place_of s) before after × NoneFailed before after) (ListeningFailed before after) listening → new.streams.errors ≡ old.streams.errors
      → EndsWith old.streams.output new.streams.output (entries_line entries) (listening_status listening) status → Outcome words old new before after status
  served_by s entries Whole asks serves heard silent (inl said) =
      inl (said.0, inr (inl (s, asks, record { all_came = heard.0; none_failed = heard.1; entries = entries; serves = serves; said = said.1 })), silent)
  served_by s entries Broken asks serves heard silent (inl said) = inr (inr (inl (said.0, inr (inr (inr (s, asks, heard))))))
  served_by s entries listening asks serves heard silent (inr said) = inr (inr (inl (said.0, inr (inl said.1))))

  pub of_serve : (s : Serving) → AsksServe words s → IsServe pool_protocol pool_opener s.db (place_of s) old new before after status → Outcome words old new before after status
  of_serve s asks r = elim r.run [
    | inl v ↦ served_by s v.entries v.listening asks v.serves v.heard v.silent v.said
    | inr more ↦ elim more [
      | inl v ↦ of_refused s.db (inr (inl (s, asks, refl))) v.0 v.1
      | inr rest ↦ elim rest [
        | inl v ↦ inr (inr (inr (inr (v.is, (ap (λ (t : Streams). t.errors) v.streams, inr (ap (λ (t : Streams). t.output) v.streams))))))
        | inr v ↦ inr (inr (inl (v.is, inr (inr (inr (s, asks, v.failed))))))
      ]
    ]
  ]

  -- ---- `version` and `help`

  printed_by : (topic : Topic) → AsksAbout words topic → new.streams.errors ≡ old.streams.errors
      → EndsWith old.streams.output new.streams.output (topic_text topic) 0 status ⊎ ((status ≡ 5) × (new.streams.output ≡ old.streams.output))
      → Outcome words old new before after status
  printed_by topic asks silent (inl (inl said)) = inl (said.0, inr (inr (inl (topic, asks, said.1))), silent)
  printed_by topic asks silent (inl (inr failed)) = inr (inr (inl (failed.0, inr (inl failed.1))))
  printed_by topic asks silent (inr none) = inr (inr (inr (inr (none.0, (silent, inr none.1)))))

  pub of_about : (topic : Topic) → AsksAbout words topic → IsPrinted (topic_text topic) old.streams new.streams status → Outcome words old new before after status
  of_about topic asks s = printed_by topic asks s.errors s.said

  -- ---- `export` and `report`

  put_by : (listing : Listing) (db : Option (List ℕ)) → AsksPrint words listing db → (p : PrintsPools listing db old new status) → IsPut listing p.pools old new status
      → Outcome words old new before after status
  put_by listing db asks p (inl (text, is, inl said)) =
      inl (said.0, inr (inr (inr (listing, db, asks, record { pools = p.pools; loaded = p.loaded; text = text; is = is; said = said.1; input = p.input; stored = p.same }))), p.errors)
  put_by listing db asks p (inl (text, is, inr failed)) = inr (inr (inl (failed.0, inr (inl failed.1))))
  put_by listing db asks p (inr none) = inr (inr (inr (inr (none.0, (p.errors, inr none.1)))))

  pub of_print : (listing : Listing) (db : Option (List ℕ)) → AsksPrint words listing db → IsPrint listing db old new status → after ≡ before → Outcome words old new before after status
  of_print listing db asks s idle = elim s.run [ inl p ↦ put_by listing db asks p p.put | inr r ↦ of_refused db (inr (inr (listing, asks))) r idle ]
