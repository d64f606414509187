-- What a run of `serve` leaves whose machine was served.
use Rattle.std.proofs.Common.{◌≡◌, ℕ, ◌+◌, ◌++◌, ◌≤◌, ◌<◌, ◌⊎◌, List, length, inl, inr, refl, sym, ◌∙◌, ap, subst, arith, Option}
use Rattle.ipam_edge.specs.Faults.{Rose}
use Rattle.atomic_table.specs.Seated.{TableId}
use Rattle.history_lock.specs.Replay.{replay}
use Rattle.history_lock.specs.Seats.{SeatView}
use Rattle.ipam_listen.specs.Connections.{Connection, Returned}
use Rattle.http_lanes.specs.declared.listening.Listening.{Listening}
use Rattle.http_lanes.specs.declared.listening.Listening.TheVariants.{Whole, Broken}
use Rattle.http_lanes.specs.Listened.{IsListening}
use Rattle.machine_session.specs.Protocols.{Protocol}
use Rattle.machine_server.specs.History.{IsServedBy, all_faults_of}
use Rattle.command_streams.specs.Streams.{EndsWith, NeverRises, Told}
use Rattle.machine_command.specs.Outside.{IsRaised, Outside, Stored}
use Rattle.machine_command.specs.Openers.{OpenerMeaning}
use Rattle.machine_command.proofs.Bounded.{bounded, not_below}
use Rattle.machine_serving.specs.declared.ending.Served.{Served}
use Rattle.machine_serving.specs.Begun.{IsManned}
use Rattle.machine_serving.specs.Finished.{IsFinished}
use Rattle.machine_serving.specs.Serve.{AllCame, IsServe, Serving, entries_line, listening_status}
use Rattle.machine_serving.specs.Views.{ListenerView, ListeningFailed, NoneFailed}

-- a count that rose, rose since before, and goes on having risen
pub rose_before : (a b c : ℕ) → a ≤ b → Rose b c → Rose a c
rose_before a b c le (inl lt) = inl (omega arith)
rose_before a b c le (inr most) = inr most

pub rose_on : (a b c : ℕ) → b ≤ c → Rose a b → Rose a c
rose_on a b c le (inl lt) = inl (omega arith)
rose_on a b c le (inr most) = inr (omega arith)

-- how the listening went from the first lane to the last that came back
heard_of : (workers hired : ℕ) (before now after : ListenerView) (s : Serving) (came listening : Listening) → s.workers ≡ workers → now.lanes ≡ before.lanes + hired → after.lanes ≡ now.lanes
    → before.faults ≤ now.faults → now.faults ≤ after.faults
    → IsListening ((hired ≡ workers) × (now.faults ≡ before.faults)) ((hired < workers) × Rose before.faults now.faults) came
    → (listening ≡ Whole → (came ≡ Whole) × (after.faults ≡ now.faults)) → (listening ≡ Broken → (came ≡ Broken) ⊎ Rose now.faults after.faults)
    → IsListening (AllCame s before after × NoneFailed before after) (ListeningFailed before after) listening
heard_of workers hired before now after s Whole Whole same lanes back first then heard whole broken =
    let h = whole refl in
    let count = heard.0 in
    (omega arith, h.1 ∙ heard.1)
heard_of workers hired before now after s Broken Whole same lanes back first then heard whole broken = absurd (let h = whole refl in let wrong : Broken ≡ Whole = h.0 in cc)
heard_of workers hired before now after s Whole Broken same lanes back first then heard whole broken =
    elim (broken refl) [ inl is ↦ absurd (let wrong : Whole ≡ Broken = is in cc) | inr rose ↦ rose_before before.faults now.faults after.faults first rose ]
heard_of workers hired before now after s Broken Broken same lanes back first then heard whole broken = rose_on before.faults now.faults after.faults then heard.1

-- a count that was said, or could not be, is no want of memory
not_want : (old new : Told) (line : List ℕ) (listening : Listening) (status : ℕ) → EndsWith old new line (listening_status listening) status → status ≡ 5 → ⊥
not_want old new line Whole status (inl said) five = (let is = said.0 in omega arith)
not_want old new line Broken status (inl said) five = (let is = said.0 in omega arith)
not_want old new line listening status (inr said) five = (let is = said.0 in omega arith)

-- what was answered of the machine's faults is in the opener's count
counted : {S C A B W E : Type 0} (P : Protocol S C A B W E) (o : S) (base m faults_old faults_new : ℕ) (first old new : List Returned) (none_left all_came : Type 0) (h : List (ℕ × C)) → base ≡ 0
    → IsRaised faults_old m faults_new → old ≡ first → (all_came → none_left) → IsServedBy P o base m old new none_left h → IsServedBy P o faults_old faults_new first new all_came h
counted P o base m faults_old faults_new first old new none_left all_came h fresh raised same gives k =
    record {
      shifts = k.shifts;
      back = k.back;
      returned = k.returned ∙ ap (λ (l : List Returned). l ++ k.back) same;
      lanes = k.lanes;
      one_history = k.one_history;
      faults = bounded (all_faults_of k.shifts) faults_old base m faults_new fresh k.faults raised;
      spent = λ came. k.spent (gives came);
    }

-- the machine went back to an opener that is asked for the same and has failed as often as when it lent the machine
pub of_served : {S C A B W E L X Q T F : Type 0} (P : Protocol S C A B W E) (U : OpenerMeaning Q T S F) (asked asked_now : Q) (s : Serving) (told : L → Option (List Connection)) (z : TableId) (seat : SeatView S C) (seat_of : X → Option (SeatView S C)) (lane_of : X → L)
    (hired : List X) (came : Listening) (lends : Stored T → Type 0) (none_left : Type 0) (served : Served) (old new : Outside T) (before now after : ListenerView) (faults_now count status : ℕ)
    → IsManned P told s before now z seat seat_of lane_of hired came → count ≡ length hired
    → U.loads asked old.stores.stored seat.opening → seat.base ≡ 0 → lends old.stores.stored → asked_now ≡ asked → faults_now ≡ old.stores.faults
    → IsFinished P U asked_now lends seat.opening seat.base faults_now new.stores now after none_left count came served
    → (length hired ≡ s.workers → none_left)
    → new.streams.input ≡ old.streams.input → new.streams.errors ≡ old.streams.errors → old.streams.output.faults ≤ new.streams.output.faults
    → EndsWith old.streams.output new.streams.output (entries_line served.entries) (listening_status served.listening) status
    → IsServe P U asked s old new before after status
of_served {Q = Q} P U asked asked_now s told z seat seat_of lane_of hired came lends none_left served old new before now after faults_now count status m number loaded fresh lent same_asked same_faults f left input errors output said =
    let lanes = m.lanes in
    let back = f.lanes in
    let came_back = f.came_back in
    let same = ap (λ (l : List Returned). length l) m.returned in
    let first = m.later in
    let then = f.later in
    let raised : IsRaised old.stores.faults f.counted new.stores.faults = subst (λ (n : ℕ). IsRaised n f.counted new.stores.faults) same_faults f.raised in
    let all : AllCame s before after → length hired ≡ s.workers = λ all. omega arith in
    record {
      run = inl (record {
        entries = served.entries;
        serves = record {
          bound = f.bound ∙ m.bound;
          opening = seat.opening;
          loaded = loaded;
          history = f.history;
          served = counted P seat.opening seat.base f.counted old.stores.faults new.stores.faults before.returned now.returned after.returned none_left (AllCame s before after) f.history fresh raised m.returned (λ all_came. left (all all_came)) f.one_history;
          entries_are = f.entries;
          holds = subst (λ (q : Q). U.holds q old.stores.stored new.stores.stored (replay P.step seat.opening f.history)) same_asked (f.holds old.stores.stored lent);
        };
        listening = served.listening;
        heard = heard_of s.workers (length hired) before now after s came served.listening refl lanes back first then m.heard f.whole f.broken;
        said = said;
        silent = errors;
      });
      unread = input;
      lanes_back = omega arith;
      bound = λ some. f.bound ∙ m.bound;
      later = record {
        streams = record { input = (let e = ap (λ (t : Told). t.faults) input in omega arith); output = output; errors = (let e = ap (λ (t : Told). t.faults) errors in omega arith) };
        stores = not_below old.stores.faults f.counted new.stores.faults raised;
      };
      listener_later = omega arith;
      quiet = λ five. absurd (not_want old.streams.output new.streams.output (entries_line served.entries) served.listening status said five);
    }
