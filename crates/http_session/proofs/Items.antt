-- Items as the code finds them.
use Rattle.std.proofs.Common.{◌≡◌, ◌∙◌, ◌+◌, ◌<◌, ◌≤◌, ◌||◌, ℕ, nat_le, List, Option, ◌++◌, length, take, drop, map, Ok, Err, inl, inr, refl, sym, ap, subst, arith, take-append-drop, length-append, length-drop}
use Rattle.std.proofs.lemmas.List.{append_cancel_left, drop-append-le}
use Rattle.httparse.specs.Grammar.{RequestHead}
use Rattle.httparse.specs.Spans.{name_and_value}
use Rattle.httparse.proofs.GrammarLemmas.{ReadsRequest-append}
use Rattle.http_session.specs.declared.request.Fault.{Fault}
use Rattle.http_session.specs.declared.request.Fault.TheVariants.{BadHead, LargeHead, LargeBody, Coding}
use Rattle.http_session.specs.declared.head.Head.{Head}
use Rattle.http_session.specs.Requests.{Framed, HasHead, IsRefused, IsRequest, IsUnfinished, StopsInBody, StopsInHead}
use Rattle.http_session.specs.declared.request.HttpRequest.{HttpRequest}
use Rattle.http_session.specs.declared.request.Stop.{Stop}
use Rattle.http_session.specs.declared.request.Stop.TheVariants as stop
use Rattle.http_session.specs.Steps.{IsAsk, IsHead, IsHeadWait, IsReadWhile, IsShort, IsStopLast}
use Rattle.ipam_edge.specs.Reading.{GrownByReads, Last, Open, Step}
use Rattle.ipam_edge.proofs.ReadingLemmas.{read_better, read_open, read_then}
use Rattle.http_session.proofs.Growth.{read_both, read_weaker}
use Rattle.http_session.proofs.Lengths.{length_small, never_large_head}

-- a head stays one in more bytes
pub HasHead-append : (bytes more : List ℕ) (h : RequestHead) (rest : List ℕ) → HasHead bytes h rest → HasHead (bytes ++ more) h (rest ++ more)
HasHead-append bytes more h rest has =
    record { begins = record { reads = ReadsRequest-append bytes h rest more has.begins.reads; few = has.begins.few }; short = has.short }

-- the fields refuse
pub refused_by_fields : (bytes : List ℕ) (ended : Type 0) (kept : Head) (fault : Fault) → IsHead bytes kept → kept.length ≡ Err fault → IsRefused bytes ended fault
refused_by_fields bytes ended kept BadHead h e = inr (inl (drop kept.len bytes, (h.head, h.has, sym h.length ∙ e)))
refused_by_fields bytes ended kept LargeHead h e = absurd (never_large_head (map name_and_value h.head.fields) (sym h.length ∙ e))
refused_by_fields bytes ended kept LargeBody h e = (drop kept.len bytes, (h.head, h.has, sym h.length ∙ e))
refused_by_fields bytes ended kept Coding h e = (drop kept.len bytes, (h.head, h.has, sym h.length ∙ e))

pub small_body : (bytes : List ℕ) (kept : Head) (n : ℕ) → IsHead bytes kept → kept.length ≡ Ok n → n ≤ 4194304
small_body bytes kept n h e = length_small (map name_and_value h.head.fields) n (sym h.length ∙ e)

pub stops_in_body : (old new more : List ℕ) (kept : Head) (n : ℕ) → IsHead old kept → kept.length ≡ Ok n → new ≡ old ++ more → length new < kept.len + n → StopsInBody new
stops_in_body old new more kept n h e g short =
    let rest = drop kept.len old in
    let fits = h.fits in
    let few : length (rest ++ more) < n = omega (arith, length-append rest more, length-drop kept.len old, length-append old more, ap length g) in
    let has = HasHead-append old more h.head rest h.has in
    subst StopsInBody (sym g) (n, rest ++ more, (h.head, has, sym h.length ∙ e), few)

-- what was read of a head was needed
pub head_was_needed : (start now : List ℕ) → IsReadWhile StopsInHead start now → IsReadWhile IsUnfinished start now
head_was_needed start now read = read_weaker StopsInHead IsUnfinished start now (λ bytes h. inl h) read

-- and what was read of a body after it
pub body_was_needed : (start mid now got : List ℕ) (kept : Head) (n : ℕ) → IsHead mid kept → kept.length ≡ Ok n → mid ≡ start ++ got
    → IsReadWhile StopsInHead start mid → IsReadWhile (IsShort (kept.len + n)) mid now → IsReadWhile IsUnfinished start now
body_was_needed start mid now got kept n h e grown head body =
    read_both (IsShort (kept.len + n)) IsUnfinished start mid now got grown (λ more short. inr (stops_in_body mid (mid ++ more) more kept n h e refl short)) (head_was_needed start mid head) body

-- each read of a head was made while the bytes were unfinished
pub head_reads : {S : Type 0} (step : Step S) (s t : S) (start now : List ℕ) (last : Last) → GrownByReads step StopsInHead s t start now last → GrownByReads step IsUnfinished s t start now last
head_reads step s t start now last reads = read_better step StopsInHead IsUnfinished s t start now last (λ more h. inl h) reads

-- and each read of a body after it
pub body_reads : {S : Type 0} (step : Step S) (s m t : S) (start mid now : List ℕ) (open_ last : Last) (kept : Head) (n : ℕ) → IsHead mid kept → kept.length ≡ Ok n
    → open_ ≡ Open → GrownByReads step StopsInHead s m start mid open_ → GrownByReads step (IsShort (kept.len + n)) m t mid now last → GrownByReads step IsUnfinished s t start now last
body_reads step s m t start mid now open_ last kept n h e is_open head body =
    read_then step IsUnfinished s m t start mid now last
    (head_reads step s m start mid Open (read_open step StopsInHead s m start mid open_ is_open head))
    (read_better step (IsShort (kept.len + n)) IsUnfinished m t mid now last (λ more short. inr (stops_in_body mid (mid ++ more) more kept n h e refl short)) body)

-- a wait for a head that stopped is one for a request
pub head_stops : (n : ℕ) (e : Stop) (bytes : List ℕ) (left : Option (List ℕ)) → IsHeadWait bytes left (Err e) → IsAsk n bytes left (Err e) bytes
head_stops n (stop.Bad fault) bytes left h = h
head_stops n stop.End bytes left h = (h.0, h.1, h.1)
head_stops n stop.SourceFault bytes left h = (inl h, refl)
head_stops n stop.Memory bytes left h = refl

pub head_last : (e : Stop) (last : Last) → IsStopLast {T = Head} (Err e) last → IsStopLast {T = HttpRequest} (Err e) last
head_last (stop.Bad fault) last h = h
head_last stop.End last h = h
head_last stop.SourceFault last h = h
head_last stop.Memory last h = h

-- what follows the head, in two ways
rest_is : (old new more after : List ℕ) (n : ℕ) → n ≤ length old → new ≡ old ++ more → new ≡ take n new ++ after → drop n old ++ more ≡ after
rest_is old new more after n fits g split =
    sym (ap (drop n) g ∙ drop-append-le n old more fits) ∙ append_cancel_left (take n new) (drop n new) after (take-append-drop n new ∙ split)

pub is_request : (number : ℕ) (old new more rest : List ℕ) (kept : Head) (n : ℕ) (r : Framed) → IsHead old kept → kept.length ≡ Ok n → new ≡ old ++ more
    → new ≡ take kept.len new ++ (r.body ++ rest) → kept.len + length r.body ≡ kept.len + n → r.method ≡ kept.method.items → r.target ≡ kept.target.items
    → r.close ≡ (kept.close || nat_le 999 number) → IsRequest number new r rest
is_request number old new more rest kept n r h e g split long m t c =
    let after : drop kept.len old ++ more ≡ r.body ++ rest = rest_is old new more (r.body ++ rest) kept.len h.fits g split in
    let has = HasHead-append old more h.head (drop kept.len old) h.has in
    let size : n ≡ length r.body = omega arith in
    record {
      head = h.head;
      has = subst (λ b. HasHead b h.head (r.body ++ rest)) (sym g) (subst (HasHead (old ++ more) h.head) after has);
      said = sym h.length ∙ e ∙ ap (λ k. Ok k) size;
      method = m ∙ h.method;
      target = t ∙ h.target;
      close = c ∙ ap (λ b. b || nat_le 999 number) h.close;
    }
