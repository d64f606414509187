-- What the commands ensure of a store gives the headline, by the laws of the register.
use Rattle.std.proofs.Common.{◌≡◌, ℕ, zero, suc, true, List, [], ◌∷◌, length, map, take, Some, refl, ap, sym, ◌∙◌, subst}
use Rattle.std.specs.List.{AllByRecursion, slice_get}
use Rattle.history_lock.specs.Replay.{replay}
use Rattle.history_lock.specs.Replies.{accepted}
use Rattle.ipam_listen.specs.Connections.{Ends, ends_of}
use Rattle.machine_answers.specs.Answers.{AreCallers, Caller, IsChange}
use Rattle.machine_answers.specs.Laws.{HasCaller, HasCallers}
use Rattle.machine_answers.proofs.Flat.{served as listed_served}
use Rattle.machine_answers.proofs.Entries.{entries}
use Rattle.machine_answers.proofs.Alone.{alone as listed_alone}
use Rattle.machine_serving.specs.Views.{ListenerView}
use Rattle.http_session.specs.declared.session.SessionEnd.{SessionEnd}
use Rattle.rest_ipam.specs.Protocol.{register_protocol}
use Rattle.register_core.specs.Machines.{kind_of}
use Rattle.ipam_data.specs.declared.calls.Call.{Call}
use Rattle.ipam_data.specs.declared.calls.Call.TheVariants.{ClaimBlocks, ClaimPrefixAddrs, ClaimRangeAddrs}
use Rattle.ipam_data.specs.declared.replies.Reply.{Reply}
use Rattle.ipam_data.specs.declared.replies.Reply.TheVariants.{Made, MadeMany, Changed, Gone, Imported, One, Page, Blocks, Addrs, Percent, Rows, Lines, Refused}
use Rattle.ipam_data.specs.declared.replies.Refusal.{Refusal}
use Rattle.ipam_data.specs.declared.replies.Refusal.TheVariants.{BadHead, TooLarge, Coding, NoRoute, Method, BadJson, Field, NotFound, Rule as Breaks, InUse, NoSpace, Limit, Keeper, Memory, Row}
use Rattle.ipam_data.specs.Addresses.{address_rules}
use Rattle.ipam_data.specs.Prefixes.{prefix_rules}
use Rattle.ipam_data.specs.State.{State}
use Rattle.ipam_data.specs.Steps.{plain_step, HasCallBounds}
use Rattle.ipam_data.specs.Replays.{Entry, is_accepted}
use Rattle.ipam_data.specs.Replays as calls
use Rattle.ipam_data.specs.Lawful.{IsLawful, StepsKeepLawful}
use Rattle.claim_laws.specs.Rows.{IsListed, IsMade, StepsKeepListed}
use Rattle.claim_laws.specs.Claims.{ClaimsAreNew, RefusedOnlyIfNoneFits}
use Rattle.claim_laws.specs.Histories.{AreBounded, ClaimsNeverMeet}
use Rattle.snapshot_operator.specs.Shown.{NumbersAreStates}
use Rattle.command_words.specs.declared.asked.Mirroring.{Mirroring}
use Rattle.command_words.specs.declared.asked.Serving.{Serving}
use Rattle.command_words.specs.declared.asked.Store.{Store}
use Rattle.command_store.specs.Outside.{Outside}
use Rattle.command_serve.specs.Serve.{ServesStore}
use Rattle.command_session.specs.Session.{Serves}
use Rattle.command_mirror.specs.Mirror.{Mirrors}
use Rattle.ipam_headline.specs.Claims.{entry_of, state_after, EachEntry, GetsTheLeast, GetsFreeBlocks, AddressesApart, BlocksApart}
use Rattle.ipam_headline.specs.Headline.{Alone, Headline, Mirrored, Served}
use Rattle.ipam_headline.specs.Laws.{HeadlinesHold}

-- ---- the two ways to say a history

same_replay : (s : State) (history : List (ℕ × Call)) → calls.replay s (map entry_of history) ≡ replay plain_step s history
same_replay s [] = refl
same_replay s (e ∷ es) = same_replay (plain_step s e.1).0 es

take_map : (n : ℕ) (history : List (ℕ × Call)) → take n (map entry_of history) ≡ map entry_of (take n history)
take_map zero history = refl
take_map (suc n) [] = refl
take_map (suc n) (e ∷ es) = ap (λ (rest : List Entry). entry_of e ∷ rest) (take_map n es)

same_state : (s : State) (history : List (ℕ × Call)) (n : ℕ) → calls.replay s (take n (map entry_of history)) ≡ state_after s history n
same_state s history n = ap (calls.replay s) (take_map n history) ∙ same_replay s (take n history)

entry_there : (history : List (ℕ × Call)) (n : ℕ) (e : ℕ × Call) → slice_get history n ≡ Some e → slice_get (map entry_of history) n ≡ Some (entry_of e)
entry_there [] n e q = cc
entry_there (f ∷ fs) zero e q = (let same : f ≡ e = cc in ap (λ (g : ℕ × Call). Some (entry_of g)) same)
entry_there (f ∷ fs) (suc n) e q = entry_there fs n e q

-- ---- what holds of its states

listed_at : StepsKeepListed → (s : State) (history : List (ℕ × Call)) (n : ℕ) → IsListed s → IsListed (state_after s history n)
listed_at law s history zero h = h
listed_at law s [] (suc n) h = h
listed_at law s (e ∷ es) (suc n) h = listed_at law (plain_step s e.1).0 es n (law.steps s e.1 h)

lawful_at : StepsKeepLawful → (s : State) (history : List (ℕ × Call)) (n : ℕ) → IsLawful s → AreBounded (map entry_of history) → IsLawful (state_after s history n)
lawful_at law s history zero h b = h
lawful_at law s [] (suc n) h b = h
lawful_at law s (e ∷ es) (suc n) h b = lawful_at law (plain_step s e.1).0 es n (law s e.1 h b.0) b.1

gets_least : ClaimsAreNew → (s : State) (call : Call) → IsListed s → is_accepted (plain_step s call).1 ≡ true → GetsTheLeast s call
gets_least new s (ClaimPrefixAddrs n form items) h a = new.in_prefixes s n form items h a
gets_least new s (ClaimRangeAddrs n form items) h a = new.in_ranges s n form items h a
gets_least new s call h a = tt

gets_blocks : ClaimsAreNew → (s : State) (call : Call) → IsLawful s → is_accepted (plain_step s call).1 ≡ true → GetsFreeBlocks s call
gets_blocks new s (ClaimBlocks n form items) h a = new.of_blocks s n form items h a
gets_blocks new s call h a = tt

module _ (never : ClaimsNeverMeet) (opening : State) (history : List (ℕ × Call)) where
  addresses_apart : IsListed opening → AddressesApart opening history
  addresses_apart h i j one other x y l p q k c d v =
      never.addresses opening (map entry_of history) i j (entry_of one) (entry_of other) x y h l (entry_there history i one p) (entry_there history j other q) k
      (subst (λ (s : State). IsMade address_rules s one.1 x) (sym (same_state opening history i)) c)
      (subst (λ (s : State). IsMade address_rules s other.1 y) (sym (same_state opening history j)) d) v

  blocks_apart : IsLawful opening → AreBounded (map entry_of history) → BlocksApart opening history
  blocks_apart h b i j one other x y l p q k c d v =
      never.blocks opening (map entry_of history) i j (entry_of one) (entry_of other) x y h b l (entry_there history i one p) (entry_there history j other q) k
      (subst (λ (s : State). IsMade prefix_rules s one.1 x) (sym (same_state opening history i)) c)
      (subst (λ (s : State). IsMade prefix_rules s other.1 y) (sym (same_state opening history j)) d) v

-- ---- an accepted change, by its kind

refused_kind : (refusal : Refusal) → kind_of (Refused refusal) ≡ accepted → ⊥
refused_kind BadHead e = cc
refused_kind (TooLarge part) e = cc
refused_kind Coding e = cc
refused_kind NoRoute e = cc
refused_kind Method e = cc
refused_kind BadJson e = cc
refused_kind (Field member) e = cc
refused_kind (NotFound kind n) e = cc
refused_kind (Breaks rule) e = cc
refused_kind (InUse kind n) e = cc
refused_kind (NoSpace n) e = cc
refused_kind (Limit which n) e = cc
refused_kind Keeper e = cc
refused_kind Memory e = cc
refused_kind (Row n why) e = cc

is_change : (reply : Reply) → kind_of reply ≡ accepted → is_accepted reply ≡ true
is_change (Made view) e = refl
is_change (MadeMany views) e = refl
is_change (Changed view) e = refl
is_change Gone e = refl
is_change (Imported created present) e = refl
is_change (One view) e = cc
is_change (Page count views) e = cc
is_change (Blocks vrf list) e = cc
is_change (Addrs vrf len list) e = cc
is_change (Percent figure) e = cc
is_change (Rows rows) e = cc
is_change (Lines lines) e = cc
is_change (Refused refusal) e = absurd (refused_kind refusal e)

-- ---- a history, by its entries

-- the laws of the register
pub record Laws : Type 0 where
  pub lawful : StepsKeepLawful
  pub listed : StepsKeepListed
  pub new : ClaimsAreNew
  pub space : RefusedOnlyIfNoneFits
  pub never : ClaimsNeverMeet
  pub states : NumbersAreStates

all_from_get : {T : Type 0} (Q : T → Type 0) (xs : List T) → ((n : ℕ) (x : T) → slice_get xs n ≡ Some x → Q x) → AllByRecursion Q xs
all_from_get Q [] f = tt
all_from_get Q (x ∷ xs) f = (f 0 x refl, all_from_get Q xs (λ n y at. f (suc n) y at))

all_of_map : (xs : List (ℕ × Call)) → AllByRecursion (λ (e : ℕ × Call). HasCallBounds e.1) xs → AreBounded (map entry_of xs)
all_of_map [] h = tt
all_of_map (x ∷ xs) h = (h.0, all_of_map xs h.1)

-- each entry is a change
abbrev AreChanges : State → List (ℕ × Call) → Type 0
AreChanges opening history =
    (n : ℕ) (who : ℕ) (call : Call) → slice_get history n ≡ Some (who, call) → IsChange register_protocol opening (take n history) call

accepted_at : (opening : State) (history : List (ℕ × Call)) → AreChanges opening history → (n : ℕ) (who : ℕ) (call : Call) → slice_get history n ≡ Some (who, call)
    → is_accepted (plain_step (state_after opening history n) call).1 ≡ true
accepted_at opening history change n who call at = let k = change n who call at in ap is_accepted (sym k.same) ∙ is_change k.reply k.kind

bounded : (opening : State) (history : List (ℕ × Call)) → AreChanges opening history → AreBounded (map entry_of history)
bounded opening history change =
    all_of_map history (all_from_get (λ (e : ℕ × Call). HasCallBounds e.1) history (λ n e at. (change n e.0 e.1 at).asked.bounded))

headline : Laws → (opening : State) (history : List (ℕ × Call)) → IsLawful opening → (callers : List (Caller Call Reply)) → AreCallers register_protocol opening history callers
    → Headline opening history callers
headline laws opening history is callers are =
    let change : AreChanges opening history = entries register_protocol opening history callers are in
    let in_order : IsListed opening = laws.listed.lawful opening is in
    let all : AreBounded (map entry_of history) = bounded opening history change in
    record {
      answers = are;
      entries = change;
      lawful = λ n. lawful_at laws.lawful opening history n is all;
      least = λ n who call at. gets_least laws.new (state_after opening history n) call (listed_at laws.listed opening history n in_order) (accepted_at opening history change n who call at);
      space = laws.space;
      addresses = addresses_apart laws.never opening history in_order;
      carved = λ n who call at. gets_blocks laws.new (state_after opening history n) call (lawful_at laws.lawful opening history n is all) (accepted_at opening history change n who call at);
      blocks = blocks_apart laws.never opening history is all;
    }

-- ---- the commands

served : Laws → (serving : Serving) (old new : Outside) (before after : ListenerView) (entries : ℕ) → ServesStore serving old new before after entries
    → (of : Served serving.store old new before after) × (entries ≡ length of.kept.history)
served laws serving old new before after entries h =
    let of : HasCallers register_protocol h.state h.history h.served.back =
    listed_served register_protocol h.state h.history h.served.back h.served.shifts h.served.one_history h.served.lanes in (
      record {
        callers = of.callers;
        kept = record {
          opening = h.state;
          stood = h.loaded;
          history = h.history;
          headline = headline laws h.state h.history h.loaded.2.lawful of.callers of.are;
          holds = h.holds;
        };
        back = h.served.back;
        returned = h.served.returned;
        lanes = of.lanes;
      },
      h.entries_are,
    )

alone : Laws → (store : Store) (old new : Outside) (how : SessionEnd) → Serves store old new how → Alone store old new
alone laws store old new how h =
    let before : Ends = ends_of old.streams.input.bytes old.streams.output.bytes old.streams.input.faults old.streams.output.faults in
    let after : Ends = ends_of new.streams.input.bytes new.streams.output.bytes new.streams.input.faults new.streams.output.faults in
    let history = h.last.now.log in
    let of : HasCaller register_protocol h.state history before after = (listed_alone register_protocol h.state h.last before after h.bytes how h.grown h.ends).1 in
    record {
      caller = of.caller;
      kept = record {
        opening = h.state;
        stood = h.loaded;
        history = history;
        headline = headline laws h.state history h.loaded.2.lawful (of.caller ∷ []) of.are;
        holds = h.holds;
      };
      streams = of.connections_are;
    }

mirrored : Laws → (asked : Mirroring) (old new : Outside) (before after : ListenerView) (how : SessionEnd) → Mirrors asked old new before after how
    → Mirrored asked.store old new before after
unfolding alone
mirrored laws asked old new before after how m =
    record {
      operator = alone laws asked.store old new how m.serves;
      published = m.published;
      back = m.back;
      returned = m.returned;
      read = m.read;
      few = m.follows.few;
      places = λ n call reply le said. laws.states m.serves.state m.serves.last.now.log m.published n call reply m.follows le said;
    }

pub headlines : Laws → HeadlinesHold
headlines laws = record { serve = served laws; session = alone laws; mirror = mirrored laws }
