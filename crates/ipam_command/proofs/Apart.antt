-- Words ask for one command, so a promise on another one is none; and what a command leaves that uses no opener or no listener.
use Rattle.std.proofs.Common.{◌≡◌, ℕ, ◌+◌, ◌≤◌, ◌⊎◌, length, refl, sym, ap, subst, arith, inl, Bool, List}
use Rattle.inet_num.specs.Net.{Cidr}
use Rattle.command_words.specs.declared.asked.KindName.{KindName}
use Rattle.command_words.specs.declared.asked.Report.{Report as ReportName}
use Rattle.command_words.specs.declared.asked.Store.{Store}
use Rattle.command_words.specs.declared.asked.Serving.{Serving}
use Rattle.command_words.specs.declared.asked.Mirroring.{Mirroring}
use Rattle.command_words.specs.declared.asked.Command.{Command}
use Rattle.command_words.specs.declared.asked.Command.TheVariants.{Free, Session, Serve, Import, Export, Report, Migrate, Load}
use Rattle.command_words.specs.Asked.{Asks}
use Rattle.command_words.proofs.Unique.{words_ask_for_one}
use Rattle.command_streams.specs.Streams.{Streams, NeverRises}
use Rattle.command_store.specs.Outside.{Stores, Outside, NoCountRises}
use Rattle.machine_serving.specs.Views.{ListenerView, NobodyCame}
use Rattle.command_mirror.specs.Mirror.{Exhausts}
use Rattle.ipam_command.specs.Runs.{Answers}
use Rattle.ipam_command.specs.Clauses.{IsQuiet, AsksMirror}

-- what a command left is what each command left that the words ask for
pub answers_of : (words : List (List ℕ)) (command one : Command) (old new : Outside) (before after : ListenerView) (status : ℕ) → Asks words command → Asks words one
    → Answers command old new before after status → Answers one old new before after status
answers_of words command one old new before after status a b h =
    subst (λ (c : Command). Answers c old new before after status) (words_ask_for_one words command one a b) h

-- the words of `free` are not those of `session`
pub free_apart : (words : List (List ℕ)) (within : Cidr) (store : Store) → Asks words (Free within) → Asks words (Session store) → ⊥
free_apart words within store f s = let e = words_ask_for_one words (Free within) (Session store) f s in cc

-- nor are those of `serve` those of another
pub serve_not_free : (words : List (List ℕ)) (serving : Serving) (within : Cidr) → Asks words (Serve serving) → Asks words (Free within) → ⊥
serve_not_free words serving within v f = let e = words_ask_for_one words (Serve serving) (Free within) v f in cc

pub serve_not_session : (words : List (List ℕ)) (serving : Serving) (store : Store) → Asks words (Serve serving) → Asks words (Session store) → ⊥
serve_not_session words serving store v s = let e = words_ask_for_one words (Serve serving) (Session store) v s in cc

-- nor are those of `load`
pub load_not_free : (words : List (List ℕ)) (count workers : ℕ) (within : Cidr) → Asks words (Load count workers) → Asks words (Free within) → ⊥
load_not_free words count workers within l f = let e = words_ask_for_one words (Load count workers) (Free within) l f in cc

pub load_not_session : (words : List (List ℕ)) (count workers : ℕ) (store : Store) → Asks words (Load count workers) → Asks words (Session store) → ⊥
load_not_session words count workers store l s = let e = words_ask_for_one words (Load count workers) (Session store) l s in cc

pub load_not_serve : (words : List (List ℕ)) (count workers : ℕ) (serving : Serving) → Asks words (Load count workers) → Asks words (Serve serving) → ⊥
load_not_serve words count workers serving l v = let e = words_ask_for_one words (Load count workers) (Serve serving) l v in cc

pub same_serving : (words : List (List ℕ)) (a b : Serving) → Asks words (Serve a) → Asks words (Serve b) → a ≡ b
same_serving words a b f g = let e = words_ask_for_one words (Serve a) (Serve b) f g in cc

-- a promise on a load, by the numbers that the words have
pub same_load : (words : List (List ℕ)) (count workers n m : ℕ) (P : ℕ → ℕ → Type 0) → Asks words (Load count workers) → Asks words (Load n m) → P count workers → P n m
same_load words count workers n m P l k h =
    let e = words_ask_for_one words (Load count workers) (Load n m) l k in
    let first : count ≡ n = cc in
    let second : workers ≡ m = cc in
    subst (λ (x : ℕ). P x m) first (subst (P count) second h)

pub same_block : (words : List (List ℕ)) (a b : Cidr) → Asks words (Free a) → Asks words (Free b) → a ≡ b
same_block words a b f g = let e = words_ask_for_one words (Free a) (Free b) f g in cc

pub same_store : (words : List (List ℕ)) (a b : Store) → Asks words (Session a) → Asks words (Session b) → a ≡ b
same_store words a b f g = let e = words_ask_for_one words (Session a) (Session b) f g in cc

-- no opener was used
pub unused : (old new : Outside) → new.stores ≡ old.stores → old.stores.faults ≤ new.stores.faults
unused old new same = let e = ap (λ (t : Stores). t.faults) same in omega arith

-- no listener was used
pub lanes_kept : (before after : ListenerView) → after ≡ before → length after.returned + before.lanes ≡ length before.returned + after.lanes
lanes_kept before after same = subst (λ (d : ListenerView). length d.returned + before.lanes ≡ length before.returned + d.lanes) (sym same) refl

pub count_kept : (before after : ListenerView) → after ≡ before → before.faults ≤ after.faults
count_kept before after same = let e = ap (λ (d : ListenerView). d.faults) same in omega arith

pub nobody : (before after : ListenerView) → after ≡ before → NobodyCame before after
nobody before after same = record { lanes = ap (λ (d : ListenerView). d.lanes) same; returned = ap (λ (d : ListenerView). d.returned) same }

-- a promise on an import or an export, by the kind and the store that the words have
pub same_import : (words : List (List ℕ)) (kind other_kind : KindName) (store other_store : Store) (P : KindName → Store → Type 0)
    → Asks words (Import kind store) → Asks words (Import other_kind other_store) → P kind store → P other_kind other_store
same_import words kind other_kind store other_store P a b h =
    let e = words_ask_for_one words (Import kind store) (Import other_kind other_store) a b in
    let first : kind ≡ other_kind = cc in
    let second : store ≡ other_store = cc in
    subst (λ (s : Store). P other_kind s) second (subst (λ (k : KindName). P k store) first h)

pub same_export : (words : List (List ℕ)) (kind other_kind : KindName) (store other_store : Store) (P : KindName → Store → Type 0)
    → Asks words (Export kind store) → Asks words (Export other_kind other_store) → P kind store → P other_kind other_store
same_export words kind other_kind store other_store P a b h =
    let e = words_ask_for_one words (Export kind store) (Export other_kind other_store) a b in
    let first : kind ≡ other_kind = cc in
    let second : store ≡ other_store = cc in
    subst (λ (s : Store). P other_kind s) second (subst (λ (k : KindName). P k store) first h)

pub same_report : (words : List (List ℕ)) (report other_report : ReportName) (store other_store : Store) (P : ReportName → Store → Type 0)
    → Asks words (Report report store) → Asks words (Report other_report other_store) → P report store → P other_report other_store
same_report words report other_report store other_store P a b h =
    let e = words_ask_for_one words (Report report store) (Report other_report other_store) a b in
    let first : report ≡ other_report = cc in
    let second : store ≡ other_store = cc in
    subst (λ (s : Store). P other_report s) second (subst (λ (r : ReportName). P r store) first h)

-- a promise on a migration, by the file and the mark that the words have
pub same_migrate : (words : List (List ℕ)) (db other : List ℕ) (populated mark : Bool) (P : List ℕ → Bool → Type 0)
    → Asks words (Migrate db populated) → Asks words (Migrate other mark) → P db populated → P other mark
same_migrate words db other populated mark P a b h =
    let e = words_ask_for_one words (Migrate db populated) (Migrate other mark) a b in
    let first : db ≡ other = cc in
    let second : populated ≡ mark = cc in
    subst (P other) second (subst (λ (d : List ℕ). P d populated) first h)

-- no count rose where nothing was used
pub none_rose : (old new : Outside) → new ≡ old → NoCountRises old new
none_rose old new same = subst (λ (t : Outside). NoCountRises old t) (sym same)
    (record { streams = record { input = refl; output = refl; errors = refl }; stores = refl })

pub streams_same : (old new : Streams) → new ≡ old → NeverRises old new
streams_same old new same = subst (λ (t : Streams). NeverRises old t) (sym same) (record { input = refl; output = refl; errors = refl })

-- nor that of a listener which was not used
pub quiet_beside : (words : List (List ℕ)) (old new : Outside) (before after : ListenerView) → NoCountRises old new → after ≡ before
    → IsQuiet words old new before after ⊎ ((mirroring : Mirroring) × AsksMirror words mirroring × Exhausts mirroring old new before after)
quiet_beside words old new before after none same = inl (record { streams = none.streams; stores = inl none.stores; listener = ap (λ (d : ListenerView). d.faults) same })
