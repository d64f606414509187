-- What the parser's answers say of the bytes.
use Rattle.std.proofs.Common.{◌≡◌, ◌∙◌, ◌<◌, ◌≤◌, ℕ, List, ◌++◌, length, min, take, drop, map, sym, ap, subst, arith, take-append-drop}
use Rattle.std.proofs.lemmas.List.{take_all, take_min, length-take, length-map, drop-append-le}
use Rattle.httparse.specs.declared.spans.HeaderSpan.{HeaderSpan}
use Rattle.httparse.specs.declared.spans.RequestSpans.{RequestSpans}
use Rattle.httparse.specs.Grammar.{RequestHead, ReadsRequest, HasNoRequest, MayBecomeRequest}
use Rattle.httparse.specs.Spans.{IsRequestOf, IsRequestWithin, IsRequestAt, RequestOverflows, header_bytes, name_and_value, span_bytes}
use Rattle.httparse.proofs.GrammarLemmas.{ReadsRequest-append}
use Rattle.http_session.specs.declared.head.Head.{Head}
use Rattle.http_session.specs.Fields.{length_by, close_by}
use Rattle.http_session.specs.Requests.{MayBecomeHead, NeverHead, StopsInHead, front}
use Rattle.http_session.specs.Steps.{IsHead}

swapped : (n : ℕ) → min n 16384 ≡ min 16384 n
swapped n = omega arith

pub front_is : (bytes : List ℕ) (n : ℕ) → n ≡ min (length bytes) 16384 → take n bytes ≡ front bytes
front_is bytes n e = ap (λ k. take k bytes) (e ∙ swapped (length bytes)) ∙ take_min 16384 bytes

pub may_become : (bytes buf : List ℕ) → buf ≡ front bytes → HasNoRequest buf → MayBecomeRequest buf → MayBecomeHead (front bytes)
may_become bytes buf e none may = subst MayBecomeHead e (record { none = λ h rest b. none h rest b.reads; may = may })

pub never_head : (bytes buf : List ℕ) → buf ≡ front bytes → RequestOverflows 64 buf → NeverHead (front bytes)
never_head bytes buf e over =
    let never : NeverHead buf = λ more h rest b. (let many = over more h rest b.reads in let few = b.few in absurd (omega arith)) in subst NeverHead e never

few_fields : (buf : List ℕ) (headers : List HeaderSpan) (r : RequestSpans) (h : RequestHead) → length headers ≡ 64 → IsRequestAt buf headers r h → length h.fields ≤ 64
few_fields buf headers r h e at =
    let same = sym (length-map (take r.headers headers) (header_bytes buf)) ∙ ap length at.fields ∙ length-map h.fields name_and_value in
    let some = length-take r.headers headers in
    omega arith

-- a head in the front is one in all the bytes
pub whole_in_all : (bytes : List ℕ) (h : RequestHead) (n : ℕ) → n ≤ length (front bytes) → ReadsRequest (front bytes) h (drop n (front bytes)) → ReadsRequest bytes h (drop n bytes)
whole_in_all bytes h n fits reads =
    let all : front bytes ++ drop 16384 bytes ≡ bytes = take-append-drop 16384 bytes in
    let longer = ReadsRequest-append (front bytes) h (drop n (front bytes)) (drop 16384 bytes) reads in
    let rest : drop n (front bytes) ++ drop 16384 bytes ≡ drop n bytes = sym (drop-append-le n (front bytes) (drop 16384 bytes) fits) ∙ ap (drop n) all in
    subst (λ b. ReadsRequest b h (drop n bytes)) all (subst (ReadsRequest (front bytes ++ drop 16384 bytes) h) rest longer)

pub whole_head : (bytes buf : List ℕ) (headers : List HeaderSpan) (r : RequestSpans) (kept : Head) → buf ≡ front bytes → length headers ≡ 64
    → IsRequestWithin buf headers r → IsRequestOf buf headers r
    → kept.len ≡ r.len → kept.length ≡ length_by (map (header_bytes buf) (take r.headers headers)) → kept.close ≡ close_by r.version (map (header_bytes buf) (take r.headers headers))
    → kept.method.items ≡ span_bytes buf r.method → kept.target.items ≡ span_bytes buf r.path → IsHead bytes kept
whole_head bytes buf headers r kept e room within found len_is length_is close_is method_is target_is =
    let h = found.0 in
    let at = found.1 in
    let fits : r.len ≤ length buf = within.section.len_fits in
    let few = few_fields buf headers r h room at in
    let front_long : length (front bytes) ≡ min 16384 (length bytes) = length-take 16384 bytes in
    let same_long : length buf ≡ length (front bytes) = ap length e in
    let in_front : ReadsRequest (front bytes) h (drop r.len (front bytes)) = subst (λ b. ReadsRequest b h (drop r.len b)) e at.reads in
    let in_all = whole_in_all bytes h r.len (omega arith) in_front in
    let printed = at.len in
    record {
      head = h;
      has = record { begins = record { reads = subst (λ n. ReadsRequest bytes h (drop n bytes)) (sym len_is) in_all; few = few }; short = omega arith };
      fits = omega arith;
      short = omega arith;
      length = length_is ∙ ap length_by at.fields;
      close = close_is ∙ ap (λ v. close_by v (map (header_bytes buf) (take r.headers headers))) at.version ∙ ap (close_by h.minor) at.fields;
      method = method_is ∙ at.method;
      target = target_is ∙ at.path;
    }

-- the bytes stop inside a head
pub stops_in_head : (old new seen : List ℕ) → seen ≡ old → new ≡ old → length old < 16384 → MayBecomeHead (front seen) → StopsInHead new
stops_in_head old new seen e n short may =
    let long : length new < 16384 = subst (λ (b : List ℕ). length b < 16384) (sym n) short in
    (long, subst MayBecomeHead (take_all 16384 seen (omega (arith, ap length e)) ∙ e ∙ sym n) may)
